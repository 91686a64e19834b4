-- A path leads where it led, when another node stands there.
use Rattle.std.proofs.Common.{◌≡◌, ◌∙◌, ◌+◌, ℕ, suc, not, arith, Bool, true, false, List, [], ◌∷◌, length, Option, Some, None, refl, sym, ap, subst}
use Rattle.std.specs.Prelude.{◌||◌, nat_lt, option_map, position, slice_index_or, slice_set, if◌then◌else◌}
use Rattle.std.specs.List.{list_any, position_or_len}
use Rattle.std.proofs.lemmas.Bool.Decides.{nat_tests}
use Rattle.std.proofs.lemmas.List.{length-set, get_or-set_same}
use Rattle.std.proofs.lemmas.List.Folds.{position_or_len-set}
use Rattle.std.proofs.lemmas.List.Quantifiers.{position-Some}
use Rattle.fs_layout.specs.FileTree.{Node, a_file, a_directory, Records, NamedNode, FileSystem, listed, with_record, record_at}
use Rattle.fs_layout.specs.FileTree.{node_changed, replaced, with_node}
use Rattle.fs_layout.specs.FileActs.{is_good_path, names_in, has_name, found_record, find_name, Looked, bad_path, nowhere, missing, there}
use Rattle.fs_layout.specs.FileActs.{seen_from_above, looked_in, look_from, look_up}
use Rattle.fs_layout.proofs.FileTrees.{listed-records_from}
use Rattle.fs_acts.specs.BlockActs.{Led, too_long, astray, no_record, a_record, place_at}
use Rattle.fs_acts.specs.BlockLaws.{LeadsAlike}

-- ---- a record whose node is another

changed-first : (list : List (Option NamedNode)) (name : List ℕ) (place : ℕ) (named : NamedNode) (change : Node → Node) →
    slice_index_or list place None ≡ Some named →
    position (has_name name) (slice_set list place (node_changed change (Some named))) ≡ position (has_name name) list
changed-first list name place named change e =
    let now : Option NamedNode = node_changed change (Some named) in
    let first : position_or_len (has_name name) (slice_set list place now) ≡ position_or_len (has_name name) list =
    position_or_len-set (has_name name) list place now None (sym (ap (has_name name) e)) in
    let long : length (slice_set list place now) ≡ length list = length-set list place now in
    λ i. if nat_lt (first i) (long i) then Some (first i) else None

found-named : (list : List (Option NamedNode)) (name : List ℕ) (place : ℕ) (next : Node) (change : Node → Node) (at : ℕ) (entry : Option NamedNode) →
    position (has_name name) list ≡ Some at → slice_index_or list at None ≡ entry →
    option_map {U = ℕ × Node} (λ (n : NamedNode). (at, n.node)) entry ≡ Some (place, next) →
    found_record (slice_set list place (node_changed change (slice_index_or list place None)))
    (position (has_name name) (slice_set list place (node_changed change (slice_index_or list place None))))
    ≡ Some (place, change next)
found-named list name place next change at None first e found = cc
found-named list name place next change at (Some named) first e found =
    subst (λ (p : ℕ).
    found_record (slice_set list p (node_changed change (slice_index_or list p None)))
    (position (has_name name) (slice_set list p (node_changed change (slice_index_or list p None))))
    ≡ Some (p, change next)) at_same
    (subst (λ (x : Option NamedNode).
    found_record (slice_set list at (node_changed change x)) (position (has_name name) (slice_set list at (node_changed change x)))
    ≡ Some (at, change next)) (sym e)
    (ap (found_record (slice_set list at now)) (changed-first list name at named change e ∙ first)
    ∙ ap (option_map {U = ℕ × Node} (λ (n : NamedNode). (at, n.node)))
    (get_or-set_same list at now None (position-Some (has_name name) list at None first).0)
    ∙ ap {B = Option (ℕ × Node)} (λ (n : Node). Some (at, change n)) node_same))
  where
    now : Option NamedNode
    now = node_changed change (Some named)

    pair : ◌≡◌ {A = ℕ × Node} (at, named.node) (place, next)
    pair = some-pair (at, named.node) (place, next) found
      where
        some-pair : (one other : ℕ × Node) → ◌≡◌ {A = Option (ℕ × Node)} (Some one) (Some other) → one ≡ other
        some-pair one other e_ = cc

    at_same : at ≡ place
    at_same = ap (λ (p : ℕ × Node). p.0) pair

    node_same : named.node ≡ next
    node_same = ap (λ (p : ℕ × Node). p.1) pair

find-changed : (list : List (Option NamedNode)) (name : List ℕ) (place : ℕ) (next : Node) (change : Node → Node) →
    find_name name list ≡ Some (place, next) →
    find_name name (slice_set list place (node_changed change (slice_index_or list place None))) ≡ Some (place, change next)
unfolding find_name
find-changed list name place next change e = by (position (has_name name) list) refl e
  where
    by : (found : Option ℕ) → position (has_name name) list ≡ found → found_record list found ≡ Some (place, next) →
        found_record (slice_set list place (node_changed change (slice_index_or list place None)))
        (position (has_name name) (slice_set list place (node_changed change (slice_index_or list place None))))
        ≡ Some (place, change next)
    by None first e_ = cc
    by (Some at) first e_ = found-named list name place next change at (slice_index_or list at None) first refl e_

-- ---- a look from a directory

looked-some : (directory : Node) (name : List ℕ) (rest : List (List ℕ)) (found : ℕ × Node) (onward : Node → Looked) →
    looked_in directory name rest (Some found) onward ≡ seen_from_above found.0 (onward found.1)
looked-some directory name [] found onward = refl
looked-some directory name (next ∷ rest) found onward = refl

look-step : (records : Records) (indirect : Bool) (name : List ℕ) (rest : List (List ℕ)) (place : ℕ) (next : Node) (change : Node → Node) →
    find_name name (listed records) ≡ Some (place, next) →
    look_from (name ∷ rest) (with_record (a_directory records indirect) place (node_changed change (record_at (a_directory records indirect) place)))
    ≡ seen_from_above place (look_from rest (change next))
unfolding look_from
look-step records indirect name rest place next change e =
    let list : List (Option NamedNode) = slice_set (listed records) place (node_changed change (slice_index_or (listed records) place None)) in
    let directory : Node = with_record (a_directory records indirect) place (node_changed change (record_at (a_directory records indirect) place)) in
    ap (λ (l : List (Option NamedNode)). looked_in directory name rest (find_name name l) (look_from rest)) (listed-records_from list)
    ∙ ap (λ (found : Option (ℕ × Node)). looked_in directory name rest found (look_from rest))
    (find-changed (listed records) name place next change e)
    ∙ looked-some directory name rest (place, change next) (look_from rest)

seen-there : (place : ℕ) (looked : Looked) (way : List ℕ) (node : Node) → seen_from_above place looked ≡ there way node →
    (below : List ℕ) × (looked ≡ there below node) × (way ≡ place ∷ below)
seen-there place bad_path way node e = cc
seen-there place nowhere way node e = cc
seen-there place (missing below other name) way node e = cc
seen-there place (there below other) way node e = (below, one, two)
  where
    same : other ≡ node
    same = cc

    one : there below other ≡ there below node
    one = ap (there below) same

    two : way ≡ place ∷ below
    two = cc

-- what is there
look-there : (names : List (List ℕ)) (here : Node) (way : List ℕ) (node new : Node) → look_from names here ≡ there way node →
    look_from names (replaced way new here) ≡ there way new
unfolding look_from replaced
look-there [] here way node new e =
    let root : way ≡ [] = cc in subst (λ (w : List ℕ). there [] (replaced w new here) ≡ there w new) (sym root) refl
look-there (first ∷ rest) (a_file bytes indirect) way node new e = cc
look-there (first ∷ rest) (a_directory records indirect) way node new e =
    by rest (find_name first (listed records)) refl (λ next below. look-there rest next below node new) e
  where
    by : (names : List (List ℕ)) (found : Option (ℕ × Node)) → find_name first (listed records) ≡ found →
        ((next : Node) (below : List ℕ) → look_from rest next ≡ there below node → look_from rest (replaced below new next) ≡ there below new) →
        looked_in (a_directory records indirect) first names found (look_from rest) ≡ there way node →
        look_from (first ∷ rest) (replaced way new (a_directory records indirect)) ≡ there way new
    by [] None is onward e_ = cc
    by (next ∷ more) None is onward e_ = cc
    by names (Some found) is onward e_ =
        let seen = seen-there found.0 (look_from rest found.1) way node
        (sym (looked-some (a_directory records indirect) first names found (look_from rest)) ∙ e_) in
        subst (λ (w : List ℕ). look_from (first ∷ rest) (replaced w new (a_directory records indirect)) ≡ there w new) (sym seen.2)
        (look-step records indirect first rest found.0 found.1 (replaced seen.0 new) is
        ∙ ap (seen_from_above found.0) (onward found.1 seen.0 seen.1))

-- what is missing in a directory
missing-here : (first name : List ℕ) (new : Node) (records : Records) (indirect : Bool) → first ≡ name → new ≡ a_directory records indirect →
    find_name name (listed records) ≡ None → look_from (first ∷ []) new ≡ missing [] new name
unfolding look_from
missing-here first name new records indirect same is none =
    subst (λ (n : Node). look_from (first ∷ []) n ≡ missing [] n name) (sym is)
    (ap (λ (found : Option (ℕ × Node)). looked_in (a_directory records indirect) first [] found (look_from []))
    (ap (λ (l : List ℕ). find_name l (listed records)) same ∙ none)
    ∙ ap (missing [] (a_directory records indirect)) same)

seen-missing-way : (place : ℕ) (looked : Looked) (way : List ℕ) (node : Node) (name : List ℕ) →
    seen_from_above place looked ≡ missing way node name → (below : List ℕ) × (looked ≡ missing below node name) × (way ≡ place ∷ below)
seen-missing-way place bad_path way node name e = cc
seen-missing-way place nowhere way node name e = cc
seen-missing-way place (there below other) way node name e = cc
seen-missing-way place (missing below other its) way node name e = (below, one, two)
  where
    same : other ≡ node
    same = cc

    names : its ≡ name
    names = cc

    one : missing below other its ≡ missing below node name
    one = λ i. missing below (same i) (names i)

    two : way ≡ place ∷ below
    two = cc

look-missing : (names : List (List ℕ)) (here : Node) (way : List ℕ) (node new : Node) (name : List ℕ) (records : Records) (indirect : Bool) →
    new ≡ a_directory records indirect → find_name name (listed records) ≡ None → look_from names here ≡ missing way node name →
    look_from names (replaced way new here) ≡ missing way new name
unfolding look_from replaced
look-missing [] here way node new name records indirect is none e = cc
look-missing (first ∷ rest) (a_file bytes mark) way node new name records indirect is none e = cc
look-missing (first ∷ rest) (a_directory own mark) way node new name records indirect is none e =
    by rest (find_name first (listed own)) refl refl
    (λ next below. look-missing rest next below node new name records indirect is none) e
  where
    by : (names : List (List ℕ)) (found : Option (ℕ × Node)) → names ≡ rest → find_name first (listed own) ≡ found →
        ((next : Node) (below : List ℕ) → look_from rest next ≡ missing below node name →
        look_from rest (replaced below new next) ≡ missing below new name) →
        looked_in (a_directory own mark) first names found (look_from rest) ≡ missing way node name →
        look_from (first ∷ rest) (replaced way new (a_directory own mark)) ≡ missing way new name
    by [] None last is_ onward e_ =
        subst (λ (l : List (List ℕ)). look_from (first ∷ l) (replaced way new (a_directory own mark)) ≡ missing way new name) last
        (subst (λ (w : List ℕ). look_from (first ∷ []) (replaced w new (a_directory own mark)) ≡ missing w new name) (sym root)
        (missing-here first name new records indirect same is none))
      where
        root : way ≡ []
        root = cc

        same : first ≡ name
        same = cc
    by (next ∷ more) None last is_ onward e_ = cc
    by names (Some found) last is_ onward e_ =
        let seen = seen-missing-way found.0 (look_from rest found.1) way node name
        (sym (looked-some (a_directory own mark) first names found (look_from rest)) ∙ e_) in
        subst (λ (w : List ℕ). look_from (first ∷ rest) (replaced w new (a_directory own mark)) ≡ missing w new name) (sym seen.2)
        (look-step own mark first rest found.0 found.1 (replaced seen.0 new) is_
        ∙ ap (seen_from_above found.0) (onward found.1 seen.0 seen.1))

-- a path whose looks are good
look-up-good : (s : FileSystem) (path : List ℕ) (looked : Looked) → look_up s path ≡ looked → (looked ≡ bad_path → ⊥) →
    (is_good_path path ≡ true) × (look_from (names_in path) s.root ≡ looked)
unfolding look_up
look-up-good s path looked e good = by (is_good_path path) refl e
  where
    by : (b : Bool) → is_good_path path ≡ b → (if b then look_from (names_in path) s.root else bad_path) ≡ looked →
        (is_good_path path ≡ true) × (look_from (names_in path) s.root ≡ looked)
    by true is e_ = (is, e_)
    by false is e_ = absurd (good (sym e_))

pub look-up-there : (s : FileSystem) (path way : List ℕ) (node new : Node) → look_up s path ≡ there way node →
    look_up (with_node s way new) path ≡ there way new
unfolding look_up
look-up-there s path way node new e =
    let good = look-up-good s path (there way node) e (λ bad. cc) in
    ap (λ (b : Bool). if b then look_from (names_in path) (replaced way new s.root) else bad_path) good.0
    ∙ look-there (names_in path) s.root way node new good.1

pub look-up-missing : (s : FileSystem) (path way : List ℕ) (node new : Node) (name : List ℕ) (records : Records) (indirect : Bool) →
    new ≡ a_directory records indirect → find_name name (listed records) ≡ None → look_up s path ≡ missing way node name →
    look_up (with_node s way new) path ≡ missing way new name
unfolding look_up
look-up-missing s path way node new name records indirect is none e =
    let good = look-up-good s path (missing way node name) e (λ bad. cc) in
    ap (λ (b : Bool). if b then look_from (names_in path) (replaced way new s.root) else bad_path) good.0
    ∙ look-missing (names_in path) s.root way node new name records indirect is none good.1

or-false : (a b : Bool) → (a || b) ≡ false → (a ≡ false) × (b ≡ false)
or-false true b e = absurd (cc)
or-false false b e = (refl, e)

none-first : {X : Type 0} (test : X → Bool) (xs : List X) → list_any test xs ≡ false → position_or_len test xs ≡ length xs
none-first test [] none = refl
none-first test (x ∷ xs) none =
    let both = or-false (test x) (list_any test xs) none in
    ap (λ (b : Bool). if not b then 1 + position_or_len test xs else 0) both.0
    ∙ next (position_or_len test xs) (length xs) (none-first test xs both.1)
  where
    next : (a b : ℕ) → a ≡ b → 1 + a ≡ suc b
    next a b e = omega arith

-- a name that no record has is not found
pub find-none : (name : List ℕ) (list : List (Option NamedNode)) → list_any (has_name name) list ≡ false → find_name name list ≡ None
unfolding find_name
find-none name list alone =
    let all : position_or_len (has_name name) list ≡ length list = none-first (has_name name) list alone in
    ap (found_record list) (ap (λ (b : Bool). if b then Some (position_or_len (has_name name) list) else None)
    (not-less (position_or_len (has_name name) list) (length list) all))
  where
    not-less : (a b : ℕ) → a ≡ b → nat_lt a b ≡ false
    not-less a b e = grind (arith, nat_tests)

-- ---- and on the disk

pub led-missing : (byte : ℕ → ℕ) (led : Led) (looked : Looked) (way : List ℕ) (node : Node) (name : List ℕ) (place : ℕ) →
    LeadsAlike byte led looked → looked ≡ missing way node name → place_at byte way ≡ Some place → led ≡ no_record place name
led-missing byte too_long looked way node name place alike e stands =
    let both : bad_path ≡ missing way node name = sym alike ∙ e in absurd (cc both)
led-missing byte astray looked way node name place alike e stands =
    let both : nowhere ≡ missing way node name = sym alike ∙ e in absurd (cc both)
led-missing byte (a_record at other) looked way node name place alike e stands =
    let both : there other _ ≡ missing way node name = sym alike.1 ∙ e in absurd (cc both)
led-missing byte (no_record at its) looked way node name place alike e stands =
    let both : missing alike.0 _ its ≡ missing way node name = sym alike.2 ∙ e in
    let ways : alike.0 ≡ way = same-way alike.0 way _ node its name both in
    let names : its ≡ name = same-name alike.0 way _ node its name both in
    let places : at ≡ place =
    same-place at place (sym alike.1 ∙ ap (λ (w : List ℕ). place_at byte w) ways ∙ stands) in
    λ i. no_record (places i) (names i)
  where
    same-way : (one two : List ℕ) (first second : Node) (a b : List ℕ) → missing one first a ≡ missing two second b → one ≡ two
    same-way one two first second a b e_ = cc

    same-name : (one two : List ℕ) (first second : Node) (a b : List ℕ) → missing one first a ≡ missing two second b → a ≡ b
    same-name one two first second a b e_ = cc

    same-place : (one two : ℕ) → ◌≡◌ {A = Option ℕ} (Some one) (Some two) → one ≡ two
    same-place one two e_ = cc

pub led-there : (byte : ℕ → ℕ) (led : Led) (looked : Looked) (way : List ℕ) (node : Node) (place : ℕ) → LeadsAlike byte led looked →
    looked ≡ there way node → place_at byte way ≡ Some place → led ≡ a_record place way
led-there byte too_long looked way node place alike e stands = let both : bad_path ≡ there way node = sym alike ∙ e in absurd (cc both)
led-there byte astray looked way node place alike e stands = let both : nowhere ≡ there way node = sym alike ∙ e in absurd (cc both)
led-there byte (no_record at name) looked way node place alike e stands =
    let both : missing alike.0 _ name ≡ there way node = sym alike.2 ∙ e in absurd (cc both)
led-there byte (a_record at other) looked way node place alike e stands =
    let both : there other _ ≡ there way node = sym alike.1 ∙ e in
    let ways : other ≡ way = same-way other way _ node both in
    let places : at ≡ place =
    same-place at place (sym alike.0 ∙ ap (λ (w : List ℕ). place_at byte w) ways ∙ stands) in
    λ i. a_record (places i) (ways i)
  where
    same-way : (one two : List ℕ) (first second : Node) → there one first ≡ there two second → one ≡ two
    same-way one two first second e_ = cc

    same-place : (one two : ℕ) → ◌≡◌ {A = Option ℕ} (Some one) (Some two) → one ≡ two
    same-place one two e_ = cc
