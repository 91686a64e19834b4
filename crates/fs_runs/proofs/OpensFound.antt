-- A path that was opened leads to a file, on the disk and in the tree.
use Rattle.std.proofs.Common.{◌≡◌, ◌∙◌, ◌+◌, ◌<◌, ◌≤◌, ◌*◌, ◌-◌, ℕ, zero, suc, Bool, true, false, List, [], ◌∷◌, ◌++◌}
use Rattle.std.proofs.Common.{length, not, Option, Some, None, refl, sym, ap, subst, arith}
use Rattle.std.specs.Prelude.{◌==◌, ◌&&◌, ◌||◌, nat_lt, nat_le, bytes_eq, option_map, position, replicate, slice_index_or, slice_set}
use Rattle.std.specs.Prelude.{if◌then◌else◌}
use Rattle.std.specs.List.{list_any, position_or_len}
use Rattle.std.proofs.lemmas.Bool.Decides.{nat_tests}
use Rattle.std.proofs.lemmas.List.{get_or-set_same, length-set}
use Rattle.std.proofs.lemmas.List.Quantifiers.{position-Some}
use Rattle.std.proofs.lemmas.List.Sums.{position_or_len_is}
use Rattle.std.proofs.lemmas.Slice.Eq.{bytes_eq-Decides}
use Rattle.jos_base.specs.declared.numbers.TheConstants.{E_BAD_PATH, E_FILE_EXISTS, E_INVAL, E_NOT_FOUND, E_NO_DISK}
use Rattle.jos_base.specs.Words.{has_bit}
use Rattle.fs_layout.specs.declared.numbers.TheConstants.{BLKFILES, BLKSIZE, MAXFILESIZE, O_CREAT, O_EXCL, O_TRUNC}
use Rattle.fs_layout.specs.FileTree.{FileSystem, NamedNode, Node, Records, a_directory, a_file, blocks_free, blocks_in_use, directory_size}
use Rattle.fs_layout.specs.FileTree.{listed, needs_indirect, node_changed, open_path, records_from, replaced, with_node}
use Rattle.fs_layout.specs.FileActs.{Acted, Looked, bad_path, create_in, done, file_act, file_at_end, file_named, find_name, found_record}
use Rattle.fs_layout.specs.FileActs.{free_place, has_name, is_good_path, look_from, look_up, looked_in, missing, names_in, new_file, nowhere}
use Rattle.fs_layout.specs.FileActs.{open_act, open_looked, open_there, refused, resized, seen_from_above, set_size_to, there}
use Rattle.fs_layout.specs.FileActs.{with_new_file, with_room}
use Rattle.fs_layout.specs.DiskImage.{block_count, has_indirect, is_directory_at}
use Rattle.fs_layout.specs.DiskFiles.{IsDiskImage, file_bytes, file_system_of, node_of, records_at}
use Rattle.fs_layout.proofs.FileTrees.{listed-records_from}
use Rattle.fs_acts.specs.BlockActs.{Led, a_record, astray, led_to, no_record, plan_of, puts_of, too_long, written}
use Rattle.fs_acts.specs.BlockLaws.{LeadsAlike}
use Rattle.fs_acts.proofs.ComposedChanges.{changes-acts}
use Rattle.fs_acts.proofs.ComposedCreates.{alone-among, first-within, length-room}
use Rattle.fs_acts.proofs.ComposedLaws.{block-acts}
use Rattle.fs_acts.proofs.ComposedNames.{missing-name}
use Rattle.fs_runs.specs.TreeRuns.{OpensAreFound}

-- ---- the record of a name in a list

one-more : (n i : ℕ) → n ≡ i → 1 + n ≡ suc i
one-more n i e = omega (arith, e)

first-set : {X : Type 0} (test : X → Bool) (xs : List X) (i : ℕ) (x : X) → i < length xs → i ≤ position_or_len test xs → test x ≡ true →
    position_or_len test (slice_set xs i x) ≡ i
first-set test [] i x within first is = absurd (omega arith)
first-set test (y ∷ ys) zero x within first is = ap (λ (b : Bool). if not b then 1 + position_or_len test ys else 0) is
first-set test (y ∷ ys) (suc i) x within first is =
    by (test y) first (λ less. first-set test ys i x (omega arith) less is)
  where
    by : (b : Bool) → suc i ≤ (if not b then 1 + position_or_len test ys else 0) →
        (i ≤ position_or_len test ys → position_or_len test (slice_set ys i x) ≡ i) →
        (if not b then 1 + position_or_len test (slice_set ys i x) else 0) ≡ suc i
    by true first_ rest = absurd (omega arith)
    by false first_ rest = one-more (position_or_len test (slice_set ys i x)) i (rest (omega arith))

position-set : {X : Type 0} (test : X → Bool) (xs : List X) (i : ℕ) (x : X) → i < length xs → i ≤ position_or_len test xs → test x ≡ true →
    position test (slice_set xs i x) ≡ Some i
position-set test xs i x within first is =
    some (position_or_len test (slice_set xs i x)) (length (slice_set xs i x)) (first-set test xs i x within first is)
    (subst (λ (n : ℕ). i < n) (sym (length-set xs i x)) within)
  where
    some : (n long : ℕ) → n ≡ i → i < long → (if nat_lt n long then Some n else None) ≡ Some i
    some n long e less =
        let below : nat_lt n long ≡ true = grind (arith, nat_tests) in λ k. if below k then Some (e k) else None

-- a record that is put where no other before it has the name
find-set : (name : List ℕ) (list : List (Option NamedNode)) (i : ℕ) (named : NamedNode) → i < length list →
    i ≤ position_or_len (has_name name) list → bytes_eq named.name name ≡ true →
    find_name name (slice_set list i (Some named)) ≡ Some (i, named.node)
unfolding find_name
find-set name list i named within first is =
    ap (found_record (slice_set list i (Some named))) (position-set (has_name name) list i (Some named) within first is)
    ∙ ap (λ (x : Option NamedNode). option_map {U = ℕ × Node} (λ (n : NamedNode). (i, n.node)) x) (get_or-set_same list i (Some named) None within)

-- the record in which a name was found
record HasRecord (name : List ℕ) (list : List (Option NamedNode)) (i : ℕ) (next : Node) : Type 0 where
  named : NamedNode
  stands : slice_index_or list i None ≡ Some named
  node : named.node ≡ next
  within : i < length list
  first : i ≤ position_or_len (has_name name) list
  name_is : bytes_eq named.name name ≡ true

place_in : Option (ℕ × Node) → ℕ
place_in None = 0
place_in (Some found) = found.0

node_in : Node → Option (ℕ × Node) → Node
node_in other None = other
node_in other (Some found) = found.1

has-record : (name : List ℕ) (list : List (Option NamedNode)) (i : ℕ) (next : Node) → find_name name list ≡ Some (i, next) →
    HasRecord name list i next
unfolding find_name place_in node_in
has-record name list i next e = by (position (has_name name) list) refl e
  where
    at : (k : ℕ) → position (has_name name) list ≡ Some k → (entry : Option NamedNode) → slice_index_or list k None ≡ entry →
        option_map {U = ℕ × Node} (λ (n : NamedNode). (k, n.node)) entry ≡ Some (i, next) → HasRecord name list i next
    at k is None stands e_ = cc
    at k is (Some named) stands e_ =
        let same : k ≡ i = ap place_in e_ in
        let found = position-Some (has_name name) list k None is in
        let first : position_or_len (has_name name) list ≡ k =
        position_or_len_is (has_name name) list k None (less-le k (length list) found.0) found.2 (λ within. found.1) in
        record {
          named = named;
          stands = ap (λ (n : ℕ). slice_index_or list n None) (sym same) ∙ stands;
          node = ap (node_in next) e_;
          within = subst (λ (n : ℕ). n < length list) same found.0;
          first = equal-le i (position_or_len (has_name name) list) (first ∙ same);
          name_is = ap (has_name name) (sym stands) ∙ found.1;
        }
      where
        less-le : (a b : ℕ) → a < b → a ≤ b
        less-le a b less = omega arith

        equal-le : (a b : ℕ) → b ≡ a → a ≤ b
        equal-le a b equal = omega arith

    by : (found : Option ℕ) → position (has_name name) list ≡ found → found_record list found ≡ Some (i, next) → HasRecord name list i next
    by None is e_ = cc
    by (Some k) is e_ = at k is (slice_index_or list k None) refl e_

-- ---- names that lead from one node to another

-- by this way, with the last of them left
data Reaches (left : List (List ℕ)) (end : Node) : List (List ℕ) → Node → List ℕ → Type 0 where
  stays : Reaches left end left end []
  goes : (name : List ℕ) (rest : List (List ℕ)) (records : Records) (indirect : Bool) (i : ℕ) (next : Node) (way : List ℕ) →
      find_name name (listed records) ≡ Some (i, next) → Reaches left end rest next way →
      Reaches left end (name ∷ rest) (a_directory records indirect) (i ∷ way)

-- what is looked up is reached
abbrev ReachesBy : List (List ℕ) → Node → Looked → Type 0
ReachesBy names here bad_path = Unit {0}
ReachesBy names here nowhere = Unit {0}
ReachesBy names here (missing way directory name) = Reaches (name ∷ []) directory names here way
ReachesBy names here (there way node) = Reaches [] node names here way

reaches-above : (name : List ℕ) (rest : List (List ℕ)) (records : Records) (indirect : Bool) (i : ℕ) (next : Node) →
    find_name name (listed records) ≡ Some (i, next) → (looked : Looked) → ReachesBy rest next looked →
    ReachesBy (name ∷ rest) (a_directory records indirect) (seen_from_above i looked)
reaches-above name rest records indirect i next is bad_path reach = tt
reaches-above name rest records indirect i next is nowhere reach = tt
reaches-above name rest records indirect i next is (missing way directory last) reach = goes name rest records indirect i next way is reach
reaches-above name rest records indirect i next is (there way node) reach = goes name rest records indirect i next way is reach

reaches : (names : List (List ℕ)) (here : Node) → ReachesBy names here (look_from names here)
unfolding look_from
reaches [] here = stays
reaches (name ∷ rest) (a_file bytes indirect) = tt
reaches (name ∷ rest) (a_directory records indirect) = by rest (find_name name (listed records)) refl (λ next. reaches rest next)
  where
    by : (names : List (List ℕ)) (found : Option (ℕ × Node)) → find_name name (listed records) ≡ found →
        ((next : Node) → ReachesBy names next (look_from names next)) →
        ReachesBy (name ∷ names) (a_directory records indirect) (looked_in (a_directory records indirect) name names found (look_from names))
    by [] None is onward = stays
    by (x ∷ more) None is onward = tt
    by [] (Some found) is onward = reaches-above name [] records indirect found.0 found.1 is (look_from [] found.1) (onward found.1)
    by (x ∷ more) (Some found) is onward =
        reaches-above name (x ∷ more) records indirect found.0 found.1 is (look_from (x ∷ more) found.1) (onward found.1)

-- a name that is found is followed
looks-on : (directory : Node) (name : List ℕ) (rest : List (List ℕ)) (found : Option (ℕ × Node)) (onward : Node → Looked) (i : ℕ) (next : Node)
    (way : List ℕ) (node : Node) → found ≡ Some (i, next) → onward next ≡ there way node →
    looked_in directory name rest found onward ≡ there (i ∷ way) node
looks-on directory name [] found onward i next way node is e =
    ap (λ (f : Option (ℕ × Node)). looked_in directory name [] f onward) is ∙ ap (seen_from_above i) e
looks-on directory name (x ∷ more) found onward i next way node is e =
    ap (λ (f : Option (ℕ × Node)). looked_in directory name (x ∷ more) f onward) is ∙ ap (seen_from_above i) e

-- where the node that is reached becomes another, the names lead to where those that are left lead from this
reaches-on : (left : List (List ℕ)) (old new : Node) (names : List (List ℕ)) (here : Node) (way : List ℕ) → Reaches left old names here way →
    (more : List ℕ) (node : Node) → look_from left new ≡ there more node → look_from names (replaced way new here) ≡ there (way ++ more) node
unfolding look_from replaced
reaches-on left old new names here way stays more node e = e
reaches-on left old new names here way (goes name rest records indirect i next below is reach) more node e =
    let list : List (Option NamedNode) = listed records in
    let has = has-record name list i next is in
    let change : Node → Node = replaced below new in
    let now : List (Option NamedNode) = slice_set list i (node_changed change (slice_index_or list i None)) in
    let found : find_name name (listed (records_from now)) ≡ Some (i, change next) =
    ap (find_name name) (listed-records_from now)
    ∙ ap (λ (x : Option NamedNode). find_name name (slice_set list i (node_changed change x))) has.stands
    ∙ find-set name list i (record has.named { node = change has.named.node }) has.within has.first has.name_is
    ∙ ap (λ (n : Node). Some (i, change n)) has.node in
    looks-on (a_directory (records_from now) indirect) name rest (find_name name (listed (records_from now))) (look_from rest) i (change next)
    (below ++ more) node found (reaches-on left old new rest next below reach more node e)

-- ---- the same of a path

looked-there : (s : FileSystem) (path way : List ℕ) (node : Node) → look_up s path ≡ there way node →
    (is_good_path path ≡ true) × Reaches [] node (names_in path) s.root way
unfolding look_up
looked-there s path way node e = by (is_good_path path) refl e
  where
    by : (b : Bool) → is_good_path path ≡ b → (if b then look_from (names_in path) s.root else bad_path) ≡ there way node →
        (is_good_path path ≡ true) × Reaches [] node (names_in path) s.root way
    by true good e_ = (good, subst (ReachesBy (names_in path) s.root) e_ (reaches (names_in path) s.root))
    by false bad e_ = cc

looked-missing : (s : FileSystem) (path way : List ℕ) (directory : Node) (name : List ℕ) → look_up s path ≡ missing way directory name →
    (is_good_path path ≡ true) × Reaches (name ∷ []) directory (names_in path) s.root way
unfolding look_up
looked-missing s path way directory name e = by (is_good_path path) refl e
  where
    by : (b : Bool) → is_good_path path ≡ b → (if b then look_from (names_in path) s.root else bad_path) ≡ missing way directory name →
        (is_good_path path ≡ true) × Reaches (name ∷ []) directory (names_in path) s.root way
    by true good e_ = (good, subst (ReachesBy (names_in path) s.root) e_ (reaches (names_in path) s.root))
    by false bad e_ = cc

looks-up : (s : FileSystem) (path way : List ℕ) (left : List (List ℕ)) (old new : Node) → is_good_path path ≡ true →
    Reaches left old (names_in path) s.root way → (more : List ℕ) (node : Node) → look_from left new ≡ there more node →
    look_up (with_node s way new) path ≡ there (way ++ more) node
unfolding look_up
looks-up s path way left old new good reach more node e =
    ap (λ (b : Bool). if b then look_from (names_in path) (replaced way new s.root) else bad_path) good
    ∙ reaches-on left old new (names_in path) s.root way reach more node e

-- ---- a new file is found

none-passes : {X : Type 0} (test : X → Bool) (xs : List X) → list_any test xs ≡ false → position_or_len test xs ≡ length xs
none-passes test [] none = refl
none-passes test (x ∷ xs) none = by (test x) none (none-passes test xs)
  where
    by : (b : Bool) → (b || list_any test xs) ≡ false → (list_any test xs ≡ false → position_or_len test xs ≡ length xs) →
        (if not b then 1 + position_or_len test xs else 0) ≡ suc (length xs)
    by true none_ rest = cc
    by false none_ rest = one-more (position_or_len test xs) (length xs) (rest none_)

in-room : (name : List ℕ) (list : List (Option NamedNode)) → list_any (has_name name) list ≡ false →
    (free_place list < length (with_room list)) × (list_any (has_name name) (with_room list) ≡ false)
unfolding with_room
in-room name list alone = by (nat_lt (free_place list) (length list)) refl
  where
    less : (a b : ℕ) → nat_lt a b ≡ true → a < b
    less a b is = grind (arith, nat_tests)

    further : (a b c : ℕ) → a ≤ b → c ≡ b + 16 → a < c
    further a b c most is = omega arith

    by : (b : Bool) → nat_lt (free_place list) (length list) ≡ b →
        (free_place list < length (if b then list else list ++ replicate BLKFILES None))
        × (list_any (has_name name) (if b then list else list ++ replicate BLKFILES None) ≡ false)
    by true is = (less (free_place list) (length list) is, alone)
    by false is = (
      further (free_place list) (length list) (length (list ++ replicate BLKFILES None)) (first-within _ list) (length-room list),
      alone-among list name BLKFILES alone,
    )

new-found : (name : List ℕ) (list : List (Option NamedNode)) (mark : Bool) → list_any (has_name name) list ≡ false →
    look_from (name ∷ []) (a_directory (records_from (with_new_file name list)) mark) ≡ there (free_place list ∷ []) (a_file [] false)
unfolding look_from with_new_file
new-found name list mark alone =
    let room = in-room name list alone in
    let now : List (Option NamedNode) = slice_set (with_room list) (free_place list) (Some (new_file name)) in
    let first : free_place list ≤ position_or_len (has_name name) (with_room list) =
    behind (free_place list) (length (with_room list)) (position_or_len (has_name name) (with_room list)) room.0
    (none-passes (has_name name) (with_room list) room.1) in
    let found : find_name name (listed (records_from now)) ≡ Some (free_place list, a_file [] false) =
    ap (find_name name) (listed-records_from now)
    ∙ find-set name (with_room list) (free_place list) (new_file name) room.0 first ((bytes_eq-Decides name name).1 refl) in
    looks-on (a_directory (records_from now) mark) name [] (find_name name (listed (records_from now))) (look_from []) (free_place list)
    (a_file [] false) [] (a_file [] false) found refl
  where
    behind : (a b c : ℕ) → a < b → c ≡ b → a ≤ c
    behind a b c less is = omega arith

-- ---- a path that was opened

-- it leads to a file
record LeadsToFile (s : FileSystem) (path : List ℕ) : Type 0 where
  way : List ℕ
  bytes : List ℕ
  indirect : Bool
  is : look_up s path ≡ there way (a_file bytes indirect)

abbrev Opens : List ℕ → Acted → Type 0
Opens path acted = acted.answer ≡ 0 → LeadsToFile acted.files path

opens-either : (path : List ℕ) (b : Bool) (one other : Acted) → Opens path one → Opens path other → Opens path (if b then one else other)
opens-either path true one other first second = first
opens-either path false one other first second = second

-- a refusal is no 0
no-such : (s : FileSystem) (path : List ℕ) → Opens path (refused s E_NOT_FOUND)
no-such s path none = absurd (omega (arith, none))

no-space : (s : FileSystem) (path : List ℕ) → Opens path (refused s E_NO_DISK)
no-space s path none = absurd (omega (arith, none))

there-is-one : (s : FileSystem) (path : List ℕ) → Opens path (refused s E_FILE_EXISTS)
there-is-one s path none = absurd (omega (arith, none))

no-file : (s : FileSystem) (path : List ℕ) → Opens path (refused s E_INVAL)
no-file s path none = absurd (omega (arith, none))

no-path : (s : FileSystem) (path : List ℕ) → Opens path (refused s E_BAD_PATH)
no-path s path none = absurd (omega (arith, none))

created-opens : (s : FileSystem) (path way : List ℕ) (records : Records) (indirect : Bool) (name : List ℕ) →
    look_up s path ≡ missing way (a_directory records indirect) name → list_any (has_name name) (listed records) ≡ false →
    Opens path (create_in s way (a_directory records indirect) name)
created-opens s path way records indirect name e alone =
    let list : List (Option NamedNode) = with_new_file name (listed records) in
    let size : ℕ = directory_size list in
    let mark : Bool = indirect || needs_indirect size in
    let new : Node = a_directory (records_from list) mark in
    let after : FileSystem = with_node s way new in
    let reach = looked-missing s path way (a_directory records indirect) name e in
    opens-either path (nat_lt MAXFILESIZE size) (refused s E_NO_DISK)
    (if nat_le (blocks_in_use after - blocks_in_use s) (blocks_free s) then done after 0 else refused s E_NO_DISK) (no-space s path)
    (opens-either path (nat_le (blocks_in_use after - blocks_in_use s) (blocks_free s)) (done after 0) (refused s E_NO_DISK)
    (λ zero_.
    record {
      way = way ++ free_place (listed records) ∷ [];
      bytes = [];
      indirect = false;
      is =
          looks-up s path way (name ∷ []) (a_directory records indirect) new reach.0 reach.1 (free_place (listed records) ∷ []) (a_file [] false)
          (new-found name (listed records) mark alone);
    }) (no-space s path))

none-left : (node : Node) → look_from [] node ≡ there [] node
unfolding look_from
none-left node = refl

truncated-opens : (s : FileSystem) (path way bytes : List ℕ) (indirect : Bool) → look_up s path ≡ there way (a_file bytes indirect) →
    Opens path (set_size_to s way 0 bytes indirect)
truncated-opens s path way bytes indirect e =
    let new : Node = a_file (resized bytes 0) (needs_indirect 0) in
    let after : FileSystem = with_node s way new in
    let reach = looked-there s path way (a_file bytes indirect) e in
    opens-either path (nat_le (blocks_in_use after - blocks_in_use s) (blocks_free s)) (done after 0) (refused s E_NO_DISK)
    (λ zero_.
    record {
      way = way ++ [];
      bytes = resized bytes 0;
      indirect = needs_indirect 0;
      is = looks-up s path way [] (a_file bytes indirect) new reach.0 reach.1 [] new (none-left new);
    }) (no-space s path)

opens-looked : (s : FileSystem) (path : List ℕ) (mode : ℕ) → list_any (λ b. b == 0) path ≡ false → (looked : Looked) →
    look_up s path ≡ looked → Opens path (open_looked s mode looked)
opens-looked s path mode nul bad_path e = no-path s path
opens-looked s path mode nul nowhere e = no-such s path
opens-looked s path mode nul (missing way directory name) e =
    let it = missing-name s path way directory name nul e in
    let is : look_up s path ≡ missing way (a_directory it.records it.indirect) name = e ∙ ap (λ (n : Node). missing way n name) it.node_is in
    opens-either path (has_bit mode O_CREAT) (create_in s way directory name) (refused s E_NOT_FOUND)
    (subst (λ (n : Node). Opens path (create_in s way n name)) (sym it.node_is)
    (created-opens s path way it.records it.indirect name is it.alone)) (no-such s path)
opens-looked s path mode nul (there way (a_directory records indirect)) e =
    opens-either path (has_bit mode O_CREAT && has_bit mode O_EXCL) (refused s E_FILE_EXISTS) (refused s E_INVAL) (there-is-one s path)
    (no-file s path)
opens-looked s path mode nul (there way (a_file bytes indirect)) e =
    opens-either path (has_bit mode O_CREAT && has_bit mode O_EXCL) (refused s E_FILE_EXISTS) (open_there s mode way (a_file bytes indirect))
    (there-is-one s path)
    (opens-either path (has_bit mode O_TRUNC) (set_size_to s way 0 bytes indirect) (done s 0) (truncated-opens s path way bytes indirect e)
    (λ zero_. record { way = way; bytes = bytes; indirect = indirect; is = e }))

opens-path : (is_open : List ℕ → Bool) (s : FileSystem) (path : List ℕ) (mode : ℕ) → list_any (λ b. b == 0) path ≡ false →
    Opens path (file_act is_open s (open_path path mode))
unfolding file_act open_act
opens-path is_open s path mode nul = opens-looked s path mode nul (look_up s path) refl

-- ---- the record on the disk

led-file : (byte : ℕ → ℕ) (path way bytes : List ℕ) (indirect : Bool) (led : Led) → led_to byte path ≡ led → (looked : Looked) →
    LeadsAlike byte led looked → looked ≡ there way (a_file bytes indirect) →
    (home : ℕ) × (led_to byte path ≡ a_record home way) × (is_directory_at byte home ≡ false)
led-file byte path way bytes indirect too_long led_is looked alike e = let both : bad_path ≡ there way (a_file bytes indirect) = sym alike ∙ e in cc
led-file byte path way bytes indirect astray led_is looked alike e = let both : nowhere ≡ there way (a_file bytes indirect) = sym alike ∙ e in cc
led-file byte path way bytes indirect (no_record place name) led_is looked alike e =
    let both : missing alike.0 (node_of (records_at (block_count byte) byte) byte place) name ≡ there way (a_file bytes indirect) = sym alike.2 ∙ e in
    cc
led-file byte path way bytes indirect (a_record place its) led_is looked alike e = (place, led_is ∙ ap (a_record place) way_same, kind)
  where
    both : there its (node_of (records_at (block_count byte) byte) byte place) ≡ there way (a_file bytes indirect)
    both = sym alike.1 ∙ e

    way_same : its ≡ way
    way_same = let same : there its (node_of (records_at (block_count byte) byte) byte place) ≡ there way (a_file bytes indirect) = both in cc

    node_same : node_of (records_at (block_count byte) byte) byte place ≡ a_file bytes indirect
    node_same = let same : there its (node_of (records_at (block_count byte) byte) byte place) ≡ there way (a_file bytes indirect) = both in cc

    kind : is_directory_at byte place ≡ false
    kind = by (is_directory_at byte place) refl node_same
      where
        by : (b : Bool) → is_directory_at byte place ≡ b →
            (if b then a_directory (records_at (block_count byte) byte place) (has_indirect byte place)
            else a_file (file_bytes byte place) (has_indirect byte place)) ≡ a_file bytes indirect → is_directory_at byte place ≡ false
        by true is same = cc
        by false is same = is

pub opens_lead : (count : ℕ) (is_open : List ℕ → Bool) (path : List ℕ) (mode : ℕ) (byte : ℕ → ℕ) → IsDiskImage (BLKSIZE * count) byte →
    list_any (λ b. b == 0) path ≡ false → (plan_of is_open byte (open_path path mode)).answer ≡ 0 →
    let after = written (puts_of is_open byte (open_path path mode)) byte in
    (home : ℕ) × (way : List ℕ) × (led_to after path ≡ a_record home way) × (is_directory_at after home ≡ false)
    × (file_named (file_system_of after) path ≡ Some way)
opens_lead count is_open path mode byte sound no_nul zero_ =
    let act = block-acts (BLKSIZE * count) byte is_open (open_path path mode) sound no_nul in
    let after : ℕ → ℕ = written (puts_of is_open byte (open_path path mode)) byte in
    let leads = opens-path is_open (file_system_of byte) path mode no_nul (sym act.answer ∙ zero_) in
    let looked : look_up (file_system_of after) path ≡ there leads.way (a_file leads.bytes leads.indirect) =
    ap (λ (s : FileSystem). look_up s path) act.gives.tree ∙ leads.is in
    let led = led-file after path leads.way leads.bytes leads.indirect (led_to after path) refl (look_up (file_system_of after) path)
    (changes-acts.paths (BLKSIZE * count) after act.gives.sound path) looked in
    (led.0, leads.way, led.1, led.2, ap file_at_end looked)

pub opens_are_found : OpensAreFound
opens_are_found count is_open path mode m sound has_path = opens_lead count is_open path mode m.disk sound.disk has_path.no_nul
