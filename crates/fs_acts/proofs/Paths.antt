-- A path leads on the disk where it leads in the tree.
use Rattle.std.proofs.Common.{◌≡◌, ◌∙◌, ℕ, ◌<◌, ◌≤◌, ◌&&◌, zero, suc, Bool, true, false, not, List, [], ◌∷◌, length, get_or}
use Rattle.std.proofs.Common.{Option, Some, None, refl, sym, ap, subst, arith, option_map, position}
use Rattle.std.specs.Prelude.{bytes_eq, slice_index_or}
use Rattle.std.specs.List.{position_or_len}
use Rattle.std.proofs.lemmas.List.Sums.{position_or_len_is, fails_before_first, passes_at_first, prefix_len-le-length}
use Rattle.std.proofs.lemmas.List.Quantifiers.{position-Some}
use Rattle.fs_layout.specs.FileTree.{Node, a_directory, NamedNode, listed}
use Rattle.fs_layout.specs.FileActs.{is_good_path, names_in, has_name, found_record, find_name, Looked, bad_path, nowhere, missing, there}
use Rattle.fs_layout.specs.FileActs.{seen_from_above, looked_in, look_from, look_up}
use Rattle.jos_base.specs.Below.{values_below}
use Rattle.fs_layout.specs.DiskImage.{block_count, root_place, name_of, is_directory_at, has_indirect, is_empty_record}
use Rattle.fs_layout.specs.DiskImage.{slot_count, slot_place}
use Rattle.fs_layout.specs.DiskFiles.{node_of, named_of, records_at, file_system_of}
use Rattle.fs_layout.specs.DiskLaws.{AreReadable}
use Rattle.jos_base.proofs.Below.{length-values, get_or-values}
use Rattle.fs_layout.proofs.DiskSound.{disks-sound}
use Rattle.fs_acts.specs.BlockActs.{place_from, first_slot, slot_named, Led, too_long, astray, no_record, a_record, led_from_above, led_in}
use Rattle.fs_acts.specs.BlockActs.{led_by, led_to}
use Rattle.fs_acts.specs.BlockLaws.{LeadsAlike, PathsLeadAlike}
use Rattle.fs_acts.proofs.Named.{IsNamed, named-is}
use Rattle.fs_acts.proofs.Records.{directory-node, file-node}
use Rattle.fs_acts.proofs.Ways.{nodes-deeper, none-readable, slot-readable, tree-list, filled-named, named_node, disk_node}

-- ---- the first that passes

-- of two lists whose elements pass alike
position_or_len-same : {A B : Type 0} (p : A → Bool) (q : B → Bool) (xs : List A) (ys : List B) (a : A) (b : B) →
    length xs ≡ length ys → ((k : ℕ) → k < length ys → p (get_or xs k a) ≡ q (get_or ys k b)) →
    position_or_len p xs ≡ position_or_len q ys
position_or_len-same p q xs ys a b long same =
    let le = prefix_len-le-length (λ y. not (q y)) ys in
    position_or_len_is p xs (position_or_len q ys) a (omega (arith, le, long))
    (λ k below. same k (omega (arith, le, below)) ∙ fails_before_first q ys k b below)
    (λ within.
    let inside : position_or_len q ys < length ys = omega (arith, within, long) in
    same (position_or_len q ys) inside ∙ passes_at_first q ys b inside)

position-same : {A B : Type 0} (p : A → Bool) (q : B → Bool) (xs : List A) (ys : List B) (a : A) (b : B) →
    length xs ≡ length ys → ((k : ℕ) → k < length ys → p (get_or xs k a) ≡ q (get_or ys k b)) →
    position p xs ≡ position q ys
position-same p q xs ys a b long same =
    let at = position_or_len-same p q xs ys a b long same in rw (at, long) refl

-- ---- a name in a directory

-- the record at a place has the name
abbrev passes : (ℕ → ℕ) → List ℕ → ℕ → Bool
passes byte name place = not (is_empty_record byte place) && bytes_eq (name_of byte place) name

name-passes : (depth : ℕ) (byte : ℕ → ℕ) (place : ℕ) (name : List ℕ) →
    has_name name (named_of (records_at depth byte) byte place) ≡ passes byte name place
name-passes depth byte place name = by_test (is_empty_record byte place) refl
  where
    by_test : (empty : Bool) → is_empty_record byte place ≡ empty →
        has_name name (named_of (records_at depth byte) byte place) ≡ passes byte name place
    by_test true is = rw is refl
    by_test false is = rw is refl

-- the first such record is found alike
position-named : (depth : ℕ) (byte : ℕ → ℕ) (here : ℕ) (name : List ℕ) →
    position (has_name name) (listed (records_at (suc depth) byte here)) ≡ slot_named byte here name
unfolding first_slot
position-named depth byte here name =
    let count : ℕ = slot_count byte here in
    let f : ℕ → Option NamedNode = λ i. named_of (records_at depth byte) byte (slot_place byte here i) in
    let long = length-values count f in
    let wide = length-values count (slot_place byte here) in
    ap (position (has_name name)) (tree-list depth byte here)
    ∙ position-same (has_name name) (passes byte name) (values_below count f) (values_below count (slot_place byte here)) None 0
    (omega (arith, long, wide))
    (λ k below.
    let within : k < count = omega (arith, below, wide) in
    ap (has_name name) (get_or-values count f k None within)
    ∙ name-passes depth byte (slot_place byte here k) name
    ∙ ap (passes byte name) (sym (get_or-values count (slot_place byte here) k 0 within)))

find-at : (name : List ℕ) (list : List (Option NamedNode)) → find_name name list ≡ found_record list (position (has_name name) list)
unfolding find_name
find-at name list = refl

-- where none is, none is found
find-none : (depth : ℕ) (byte : ℕ → ℕ) (here : ℕ) (name : List ℕ) → slot_named byte here name ≡ None →
    find_name name (listed (records_at depth byte here)) ≡ None
unfolding find_name records_at listed
find-none zero byte here name none = refl
find-none (suc depth) byte here name none =
    ap (found_record (listed (records_at (suc depth) byte here))) (position-named depth byte here name ∙ none)

-- where one is, it has a name
not-both : (empty other : Bool) → (not empty && other) ≡ true → empty ≡ false
not-both true other e = absurd (cc)
not-both false other e = refl

slot-is_named : (byte : ℕ → ℕ) (here : ℕ) (name : List ℕ) (i : ℕ) → is_directory_at byte here ≡ true →
    slot_named byte here name ≡ Some i → IsNamed byte here i
unfolding first_slot
slot-is_named byte here name i is e =
    let count : ℕ = slot_count byte here in
    let found = position-Some (passes byte name) (values_below count (slot_place byte here)) i 0 e in
    let wide = length-values count (slot_place byte here) in
    let below = found.0 in
    let within : i < count = omega (arith, below, wide) in
    record {
      is = is;
      within = within;
      filled =
          not-both (is_empty_record byte (slot_place byte here i)) (bytes_eq (name_of byte (slot_place byte here i)) name)
          (ap (passes byte name) (sym (get_or-values count (slot_place byte here) i 0 within)) ∙ found.1);
    }

-- and is found with its node
find-slot : (depth : ℕ) (byte : ℕ → ℕ) (here : ℕ) (name : List ℕ) (i : ℕ) → IsNamed byte here i → slot_named byte here name ≡ Some i →
    find_name name (listed (records_at (suc depth) byte here)) ≡ Some (i, node_of (records_at depth byte) byte (slot_place byte here i))
find-slot depth byte here name i named e =
    let list : List (Option NamedNode) = listed (records_at (suc depth) byte here) in
    let entry : slice_index_or list i None ≡ Some (named_node depth byte (slot_place byte here i)) =
    ap (λ l. slice_index_or l i None) (tree-list depth byte here)
    ∙ get_or-values (slot_count byte here) (λ k. named_of (records_at depth byte) byte (slot_place byte here k)) i None named.within
    ∙ filled-named depth byte (slot_place byte here i) named.filled in
    find-at name list
    ∙ ap (found_record list) (position-named depth byte here name ∙ e)
    ∙ ap (λ found. option_map (λ (n : NamedNode). (i, n.node)) found) entry

-- ---- along the names

-- `LeadsAlike`, from the record at a place on
abbrev LeadsFrom : (ℕ → ℕ) → ℕ → Led → Looked → Type 0
LeadsFrom byte here too_long looked = looked ≡ bad_path
LeadsFrom byte here astray looked = looked ≡ nowhere
LeadsFrom byte here (no_record place name) looked =
    (way : List ℕ) × (place_from byte way here ≡ Some place) × (looked ≡ missing way (disk_node byte place) name)
LeadsFrom byte here (a_record place way) looked = (place_from byte way here ≡ Some place) × (looked ≡ there way (disk_node byte place))

-- what is equal leads alike
leads-equal : (byte : ℕ → ℕ) (here : ℕ) (led other : Led) (looked seen : Looked) → led ≡ other → looked ≡ seen →
    LeadsFrom byte here other seen → LeadsFrom byte here led looked
leads-equal byte here led other looked seen e f leads =
    subst (λ l. LeadsFrom byte here l looked) (sym e) (subst (LeadsFrom byte here other) (sym f) leads)

-- a record further
place-below : (byte : ℕ → ℕ) (here i : ℕ) (way : List ℕ) → IsNamed byte here i →
    place_from byte (i ∷ way) here ≡ place_from byte way (slot_place byte here i)
unfolding place_from
place-below byte here i way named = let is = named-is byte here i named in rw is refl

leads-above : (byte : ℕ → ℕ) (here i : ℕ) (led : Led) (looked : Looked) → IsNamed byte here i →
    LeadsFrom byte (slot_place byte here i) led looked → LeadsFrom byte here (led_from_above i led) (seen_from_above i looked)
leads-above byte here i too_long looked named leads = ap (seen_from_above i) leads
leads-above byte here i astray looked named leads = ap (seen_from_above i) leads
leads-above byte here i (no_record place name) looked named leads =
    (i ∷ leads.0, place-below byte here i leads.0 named ∙ leads.1, ap (seen_from_above i) leads.2)
leads-above byte here i (a_record place way) looked named leads =
    (place-below byte here i way named ∙ leads.0, ap (seen_from_above i) leads.1)

-- a name that is missing
place-here : (byte : ℕ → ℕ) (here : ℕ) → place_from byte [] here ≡ Some here
unfolding place_from
place-here byte here = refl

leads-missing : (byte : ℕ → ℕ) (here : ℕ) (name : List ℕ) (rest : List (List ℕ)) (node : Node) (onward : ℕ → Led)
    (after : Node → Looked) → node ≡ disk_node byte here →
    LeadsFrom byte here (led_in byte here name rest None onward) (looked_in node name rest None after)
leads-missing byte here name [] node onward after is =
    ([], place-here byte here, ap (λ n. missing [] n name) is)
leads-missing byte here name (next ∷ rest) node onward after is = refl

-- these names lead alike from each record
abbrev NamesLead : (ℕ → ℕ) → List (List ℕ) → Type 0
NamesLead byte names = (depth here : ℕ) → depth ≤ block_count byte → AreReadable depth byte here →
    LeadsFrom byte here (led_by byte names here) (look_from names (node_of (records_at depth byte) byte here))

-- one name in a directory
name-leads : (byte : ℕ → ℕ) (name : List ℕ) (rest : List (List ℕ)) (found : Option ℕ) (depth here : ℕ) →
    is_directory_at byte here ≡ true → slot_named byte here name ≡ found → depth ≤ block_count byte → AreReadable depth byte here →
    NamesLead byte rest →
    LeadsFrom byte here (led_in byte here name rest found (led_by byte rest))
    (looked_in (a_directory (records_at depth byte here) (has_indirect byte here)) name rest
    (find_name name (listed (records_at depth byte here))) (look_from rest))
name-leads byte name rest None depth here is e le readable onward =
    let node : Node = a_directory (records_at depth byte here) (has_indirect byte here) in
    let same : node ≡ disk_node byte here =
    sym (directory-node (records_at depth byte) byte here is) ∙ sym (nodes-deeper byte depth (block_count byte) here le readable) in
    subst (λ f. LeadsFrom byte here (led_in byte here name rest None (led_by byte rest)) (looked_in node name rest f (look_from rest)))
    (sym (find-none depth byte here name e))
    (leads-missing byte here name rest node (led_by byte rest) (look_from rest) same)
name-leads byte name rest (Some i) zero here is e le readable onward =
    absurd (none-readable byte here i readable (slot-is_named byte here name i is e))
name-leads byte name rest (Some i) (suc depth) here is e le readable onward =
    let named = slot-is_named byte here name i is e in
    let node : Node = a_directory (records_at (suc depth) byte here) (has_indirect byte here) in
    subst
    (λ f. LeadsFrom byte here (led_in byte here name rest (Some i) (led_by byte rest)) (looked_in node name rest f (look_from rest)))
    (sym (find-slot depth byte here name i named e))
    (leads-above byte here i (led_by byte rest (slot_place byte here i))
    (look_from rest (node_of (records_at depth byte) byte (slot_place byte here i))) named
    (onward depth (slot_place byte here i) (omega arith) (slot-readable depth byte here i readable named)))

led-directory : (byte : ℕ → ℕ) (name : List ℕ) (rest : List (List ℕ)) (here : ℕ) → is_directory_at byte here ≡ true →
    led_by byte (name ∷ rest) here ≡ led_in byte here name rest (slot_named byte here name) (led_by byte rest)
unfolding led_by
led-directory byte name rest here is = rw is refl

led-file : (byte : ℕ → ℕ) (name : List ℕ) (rest : List (List ℕ)) (here : ℕ) → is_directory_at byte here ≡ false →
    led_by byte (name ∷ rest) here ≡ astray
unfolding led_by
led-file byte name rest here is = rw is refl

look-directory : (byte : ℕ → ℕ) (name : List ℕ) (rest : List (List ℕ)) (depth here : ℕ) → is_directory_at byte here ≡ true →
    look_from (name ∷ rest) (node_of (records_at depth byte) byte here)
    ≡ looked_in (a_directory (records_at depth byte here) (has_indirect byte here)) name rest
    (find_name name (listed (records_at depth byte here))) (look_from rest)
unfolding look_from
look-directory byte name rest depth here is =
    ap (look_from (name ∷ rest)) (directory-node (records_at depth byte) byte here is)

look-file : (byte : ℕ → ℕ) (name : List ℕ) (rest : List (List ℕ)) (depth here : ℕ) → is_directory_at byte here ≡ false →
    look_from (name ∷ rest) (node_of (records_at depth byte) byte here) ≡ nowhere
unfolding look_from
look-file byte name rest depth here is = ap (look_from (name ∷ rest)) (file-node (records_at depth byte) byte here is)

names-further : (byte : ℕ → ℕ) (name : List ℕ) (rest : List (List ℕ)) (kind : Bool) (depth here : ℕ) → is_directory_at byte here ≡ kind →
    depth ≤ block_count byte → AreReadable depth byte here → NamesLead byte rest →
    LeadsFrom byte here (led_by byte (name ∷ rest) here) (look_from (name ∷ rest) (node_of (records_at depth byte) byte here))
names-further byte name rest true depth here is le readable onward =
    leads-equal byte here _ _ _ _ (led-directory byte name rest here is) (look-directory byte name rest depth here is)
    (name-leads byte name rest (slot_named byte here name) depth here is refl le readable onward)
names-further byte name rest false depth here is le readable onward =
    leads-equal byte here _ _ _ _ (led-file byte name rest here is) (look-file byte name rest depth here is) refl

names-lead : (byte : ℕ → ℕ) (names : List (List ℕ)) → NamesLead byte names
unfolding led_by look_from place_from
names-lead byte [] depth here le readable =
    (refl, ap (there []) (sym (nodes-deeper byte depth (block_count byte) here le readable)))
names-lead byte (name ∷ rest) depth here le readable =
    names-further byte name rest (is_directory_at byte here) depth here refl le readable (names-lead byte rest)

-- ---- from the root

from-root : (byte : ℕ → ℕ) (led : Led) (looked : Looked) → LeadsFrom byte root_place led looked → LeadsAlike byte led looked
from-root byte too_long looked leads = leads
from-root byte astray looked leads = leads
from-root byte (no_record place name) looked leads = leads
from-root byte (a_record place way) looked leads = leads

good-leads : (size : ℕ) (byte : ℕ → ℕ) (path : List ℕ) (good : Bool) → is_good_path path ≡ good → AreReadable (block_count byte) byte root_place →
    LeadsAlike byte (led_to byte path) (look_up (file_system_of byte) path)
unfolding led_to look_up file_system_of
good-leads size byte path true is readable =
    rw is
    (from-root byte (led_by byte (names_in path) root_place)
    (look_from (names_in path) (node_of (records_at (block_count byte) byte) byte root_place))
    (names-lead byte (names_in path) (block_count byte) root_place (omega arith) readable))
good-leads size byte path false is readable = rw is refl

-- the law
pub paths-lead : PathsLeadAlike
paths-lead size byte image path = good-leads size byte path (is_good_path path) refl (disks-sound size byte image).records
