-- Where names lead, from the record at a place on.
use Rattle.std.proofs.Common.{◌≡◌, ◌∙◌, ◌+◌, ◌<◌, ℕ, zero, suc, Bool, true, false, List, [], ◌∷◌, length, get_or}
use Rattle.std.proofs.Common.{Option, Some, None, Result, Ok, Err, refl, sym, ap, arith, subst}
use Rattle.std.specs.Prelude.{bytes_eq, nat_lt}
use Rattle.std.proofs.lemmas.List.Sums.{position_or_len_is}
use Rattle.std.proofs.lemmas.Bool.Decides.{nat_tests}
use borrow.Author.Count.{below_more}
use Rattle.jos_base.specs.declared.errno.Errno.{Errno}
use Rattle.jos_base.specs.declared.errno.Errno.TheVariants.{NotFound}
use Rattle.fs_layout.specs.FileTree.{Node, Records, a_file, a_directory, NamedNode, listed}
use Rattle.fs_layout.specs.FileActs.{has_name, find_name, Looked, bad_path, nowhere, missing, there, seen_from_above}
use Rattle.fs_layout.specs.FileActs.{looked_in, look_from}
use Rattle.jos_base.specs.Below.{values_below}
use Rattle.fs_layout.specs.DiskImage.{name_of, is_empty_record, is_directory_at, has_indirect, slot_count, slot_place}
use Rattle.fs_layout.specs.DiskFiles.{file_bytes, node_of, named_of, records_at}
use Rattle.fs_layout.specs.DiskLaws.{AreReadable}
use Rattle.fs_contents.specs.Contents.{found_node}
use Rattle.fs_contents.specs.Walks.{IsFirstNamed, NoneIsNamed, LeadsOn}
use Rattle.fs_contents.proofs.Names.{filled-if-named}
use Rattle.jos_base.proofs.Below.{length-values, get_or-values}
use Rattle.fs_layout.proofs.FileTrees.{listed-records_from}

-- ---- a search in a directory

-- the first records of the directory, so many, have other names
abbrev pub NoneBefore : (ℕ → ℕ) → ℕ → List ℕ → ℕ → Type 0
NoneBefore byte directory name n = (j : ℕ) → j < n → bytes_eq (name_of byte (slot_place byte directory j)) name ≡ false

-- at first no record was compared
pub none-before : (byte : ℕ → ℕ) (directory : ℕ) (name : List ℕ) → NoneBefore byte directory name 0
none-before byte directory name j below = absurd (omega arith)

-- one record more has another name
pub none-more : (byte : ℕ → ℕ) (directory : ℕ) (name : List ℕ) (n place : ℕ) (result : Bool) → NoneBefore byte directory name n →
    place ≡ slot_place byte directory n → result ≡ bytes_eq (name_of byte place) name → result ≡ false →
    NoneBefore byte directory name (n + 1)
none-more byte directory name n place result so_far at is other =
    below_more (λ j. bytes_eq (name_of byte (slot_place byte directory j)) name ≡ false) n so_far
    (ap (λ p. bytes_eq (name_of byte p) name) (sym at) ∙ sym is ∙ other)

-- ---- names in the list of a directory's records

-- the first record with the name is found
find-first : (name : List ℕ) (list : List (Option NamedNode)) (i : ℕ) (named : NamedNode) → i < length list →
    ((j : ℕ) → j < i → has_name name (get_or list j None) ≡ false) → has_name name (Some named) ≡ true →
    get_or list i None ≡ Some named → find_name name list ≡ Some (i, named.node)
unfolding find_name
find-first name list i named within others is at =
    let place =
    position_or_len_is (has_name name) list i None (omega arith) others (λ inside. ap (has_name name) at ∙ is) in
    let below : nat_lt i (length list) ≡ true = grind (arith, nat_tests) in
    rw (place, below, at) refl

-- where no record has the name, none is found
find-none : (name : List ℕ) (list : List (Option NamedNode)) →
    ((j : ℕ) → j < length list → has_name name (get_or list j None) ≡ false) → find_name name list ≡ None
unfolding find_name
find-none name list others =
    let place =
    position_or_len_is (has_name name) list (length list) None (omega arith) others (λ inside. absurd (omega arith)) in
    let past : nat_lt (length list) (length list) ≡ false = grind (arith, nat_tests) in
    rw (place, past) refl

-- the record with another name, or with none
other-name : (byte : ℕ → ℕ) (depth place : ℕ) (name : List ℕ) (empty : Bool) → is_empty_record byte place ≡ empty →
    bytes_eq (name_of byte place) name ≡ false → has_name name (named_of (records_at depth byte) byte place) ≡ false
other-name byte depth place name true is other = rw is refl
other-name byte depth place name false is other = rw is other

-- ---- one name further

-- from which directory a way is seen says nothing of its node
found-above : (place : ℕ) (looked : Looked) → found_node (seen_from_above place looked) ≡ found_node looked
found-above place bad_path = refl
found-above place nowhere = refl
found-above place (missing way directory name) = refl
found-above place (there way node) = refl

-- a missing name is not found
found-missing : (directory : Node) (name : List ℕ) (rest : List (List ℕ)) (onward : Node → Looked) →
    found_node (looked_in directory name rest None onward) ≡ Err NotFound
found-missing directory name [] onward = refl
found-missing directory name (next ∷ rest) onward = refl

-- one name in a directory, and then the others
look-in : (name : List ℕ) (rest : List (List ℕ)) (records : Records) (indirect : Bool) (found : Option (ℕ × Node)) →
    find_name name (listed records) ≡ found →
    found_node (look_from (name ∷ rest) (a_directory records indirect))
    ≡ found_node (looked_in (a_directory records indirect) name rest found (look_from rest))
unfolding look_from
look-in name rest records indirect found e =
    ap (λ f. found_node (looked_in (a_directory records indirect) name rest f (look_from rest))) e

-- no name is found in a file
look-in-file : (name : List ℕ) (rest : List (List ℕ)) (bytes : List ℕ) (indirect : Bool) →
    found_node (look_from (name ∷ rest) (a_file bytes indirect)) ≡ Err NotFound
unfolding look_from
look-in-file name rest bytes indirect = refl

-- without a name it is the node itself
look-at-end : (node : Node) → found_node (look_from [] node) ≡ Ok node
unfolding look_from
look-at-end node = refl

-- the node of a directory, of a file, and of a record that is not empty
pub directory-node : (records : ℕ → Records) (byte : ℕ → ℕ) (place : ℕ) → is_directory_at byte place ≡ true →
    node_of records byte place ≡ a_directory (records place) (has_indirect byte place)
directory-node records byte place is = rw is refl

pub file-node : (records : ℕ → Records) (byte : ℕ → ℕ) (place : ℕ) → is_directory_at byte place ≡ false →
    node_of records byte place ≡ a_file (file_bytes byte place) (has_indirect byte place)
file-node records byte place is = rw is refl

named-node : (byte : ℕ → ℕ) (depth place : ℕ) → is_empty_record byte place ≡ false →
    named_of (records_at depth byte) byte place
    ≡ Some (record { name = name_of byte place; node = node_of (records_at depth byte) byte place })
named-node byte depth place is = rw is refl

-- what is found where the name is
find-slot : (byte : ℕ → ℕ) (depth directory slot place : ℕ) (name : List ℕ) → slot < slot_count byte directory →
    place ≡ slot_place byte directory slot → is_empty_record byte place ≡ false → bytes_eq (name_of byte place) name ≡ true →
    NoneBefore byte directory name slot →
    find_name name (listed (records_at (suc depth) byte directory)) ≡ Some (slot, node_of (records_at depth byte) byte place)
unfolding records_at
find-slot byte depth directory slot place name within at filled named first =
    let g : ℕ → Option NamedNode = λ i. named_of (records_at depth byte) byte (slot_place byte directory i) in
    let count : ℕ = slot_count byte directory in
    let long = length-values count g in
    let here : NamedNode = record { name = name_of byte place; node = node_of (records_at depth byte) byte place } in
    ap (find_name name) (listed-records_from (values_below count g))
    ∙ find-first name (values_below count g) slot here (omega arith)
    (λ j below.
    ap (has_name name) (get_or-values count g j None (omega arith))
    ∙ other-name byte depth (slot_place byte directory j) name (is_empty_record byte (slot_place byte directory j)) refl
    (first j below))
    named
    (get_or-values count g slot None within ∙ ap (named_of (records_at depth byte) byte) (sym at) ∙ named-node byte depth place filled)

-- what is found where it is not
find-no-slot : (byte : ℕ → ℕ) (depth directory : ℕ) (name : List ℕ) → NoneBefore byte directory name (slot_count byte directory) →
    find_name name (listed (records_at depth byte directory)) ≡ None
unfolding records_at listed
find-no-slot byte zero directory name none = find-none name [] (λ j below. absurd (omega arith))
find-no-slot byte (suc depth) directory name none =
    let g : ℕ → Option NamedNode = λ i. named_of (records_at depth byte) byte (slot_place byte directory i) in
    let count : ℕ = slot_count byte directory in
    let long = length-values count g in
    ap (find_name name) (listed-records_from (values_below count g))
    ∙ find-none name (values_below count g)
    (λ j below.
    let within : j < count = omega arith in
    ap (has_name name) (get_or-values count g j None within)
    ∙ other-name byte depth (slot_place byte directory j) name (is_empty_record byte (slot_place byte directory j)) refl
    (none j within))

-- directories of the last depth have no records
none-at-end : (byte : ℕ → ℕ) (place slot : ℕ) → AreReadable zero byte place → is_directory_at byte place ≡ true →
    slot < slot_count byte place → ⊥
unfolding AreReadable
none-at-end byte place slot readable is within = let none : slot_count byte place ≡ 0 = readable.1 is in omega arith

-- the records of a readable directory are readable to a depth of one less
below-readable : (byte : ℕ → ℕ) (depth directory slot : ℕ) → AreReadable (suc depth) byte directory →
    is_directory_at byte directory ≡ true → slot < slot_count byte directory →
    is_empty_record byte (slot_place byte directory slot) ≡ false → AreReadable depth byte (slot_place byte directory slot)
unfolding AreReadable
below-readable byte depth directory slot readable is within filled = readable.1 is slot within filled

-- on to the record with the name
pub leads-on : (byte : ℕ → ℕ) (found : Result Node Errno) (name : List ℕ) (rest : List (List ℕ)) (directory place : ℕ) →
    0 < length name → LeadsOn byte found (name ∷ rest) directory → IsFirstNamed byte directory name place →
    LeadsOn byte found rest place
leads-on byte found name rest directory place some leads is = by_depth leads.depth leads.readable leads.found_is
  where
    by_depth : (depth : ℕ) → AreReadable depth byte directory →
        found ≡ found_node (look_from (name ∷ rest) (node_of (records_at depth byte) byte directory)) → LeadsOn byte found rest place
    by_depth zero readable e = absurd (none-at-end byte directory is.slot readable is.in_directory is.within)
    by_depth (suc depth) readable e =
        let filled = filled-if-named byte place name some is.named in
        let there_filled = subst (λ p. is_empty_record byte p ≡ false) is.stands filled in
        let below = below-readable byte depth directory is.slot readable is.in_directory is.within there_filled in
        record {
          depth = depth;
          readable = subst (AreReadable depth byte) (sym is.stands) below;
          found_is =
              e
              ∙ ap (λ n. found_node (look_from (name ∷ rest) n))
              (directory-node (records_at (suc depth) byte) byte directory is.in_directory)
              ∙ look-in name rest (records_at (suc depth) byte directory) (has_indirect byte directory)
              (Some (is.slot, node_of (records_at depth byte) byte place))
              (find-slot byte depth directory is.slot place name is.within is.stands filled is.named is.first)
              ∙ found-above is.slot (look_from rest (node_of (records_at depth byte) byte place));
        }

-- nowhere, where no record has it
pub leads-nowhere : (byte : ℕ → ℕ) (found : Result Node Errno) (name : List ℕ) (rest : List (List ℕ)) (directory : ℕ) →
    LeadsOn byte found (name ∷ rest) directory → NoneIsNamed byte directory name → found ≡ Err NotFound
leads-nowhere byte found name rest directory leads none = by_kind (is_directory_at byte directory) refl
  where
    by_kind : (kind : Bool) → is_directory_at byte directory ≡ kind → found ≡ Err NotFound
    by_kind true is =
        leads.found_is
        ∙ ap (λ n. found_node (look_from (name ∷ rest) n)) (directory-node (records_at leads.depth byte) byte directory is)
        ∙ look-in name rest (records_at leads.depth byte directory) (has_indirect byte directory) None
        (find-no-slot byte leads.depth directory name (none is))
        ∙ found-missing (a_directory (records_at leads.depth byte directory) (has_indirect byte directory)) name rest
        (look_from rest)
    by_kind false is =
        leads.found_is
        ∙ ap (λ n. found_node (look_from (name ∷ rest) n)) (file-node (records_at leads.depth byte) byte directory is)
        ∙ look-in-file name rest (file_bytes byte directory) (has_indirect byte directory)

-- to this node, where no name is left
pub leads-here : (byte : ℕ → ℕ) (found : Result Node Errno) (place : ℕ) → (leads : LeadsOn byte found [] place) →
    found ≡ Ok (node_of (records_at leads.depth byte) byte place)
leads-here byte found place leads = leads.found_is ∙ look-at-end (node_of (records_at leads.depth byte) byte place)
