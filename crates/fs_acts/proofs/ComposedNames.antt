-- The names of a path can be those of records, and where the last is missing no record of the directory has it.
use Rattle.std.proofs.Common.{◌≡◌, ◌∙◌, ◌+◌, ◌≤◌, ◌==◌, ℕ, suc, Bool, true, false, List, [], ◌∷◌, length, not}
use Rattle.std.proofs.Common.{Option, Some, None, refl, sym, ap, subst, arith}
use Rattle.std.specs.Prelude.{◌||◌, nat_lt, filter, option_map, position, slice_index_or, if◌then◌else◌}
use Rattle.std.specs.List.{list_any, list_all, position_or_len, slice_split, onto_first}
use Rattle.std.proofs.lemmas.Bool.{and_parts}
use Rattle.std.proofs.lemmas.Bool.Decides.{nat_tests}
use Rattle.std.proofs.lemmas.List.Quantifiers.{position-Some}
use Rattle.fs_layout.specs.declared.numbers.TheConstants.{MAXNAMELEN, MAXPATHLEN}
use Rattle.fs_layout.specs.FileTree.{Node, a_file, a_directory, Records, NamedNode, FileSystem, listed}
use Rattle.fs_layout.specs.FileActs.{is_slash, is_empty, names_in, is_good_path, has_name, found_record, find_name, Looked, bad_path}
use Rattle.fs_layout.specs.FileActs.{nowhere, missing, there, seen_from_above, looked_in, look_from, look_up}
use Rattle.fs_acts.specs.BlockLaws.{IsRecordName}

-- ---- lists

-- each of them
abbrev Each : (List ℕ → Type 0) → List (List ℕ) → Type 0
Each P [] = Unit {0}
Each P (x ∷ xs) = P x × Each P xs

each-map : (P Q : List ℕ → Type 0) (xs : List (List ℕ)) → ((x : List ℕ) → P x → Q x) → Each P xs → Each Q xs
each-map P Q [] step all = tt
each-map P Q (x ∷ xs) step all = (step x all.0, each-map P Q xs step all.1)

-- those that pass a test
each-filter : (P : List ℕ → Type 0) (test : List ℕ → Bool) (xs : List (List ℕ)) → Each P xs →
    Each (λ x. P x × (test x ≡ true)) (filter test xs)
each-filter P test [] all = tt
each-filter P test (x ∷ xs) all = kept (test x) refl (each-filter P test xs all.1)
  where
    kept : (b : Bool) → test x ≡ b → Each (λ y. P y × (test y ≡ true)) (filter test xs) →
        Each (λ y. P y × (test y ≡ true)) (if b then x ∷ filter test xs else filter test xs)
    kept true e rest = ((all.0, e), rest)
    kept false e rest = rest

each-all : (P : List ℕ → Type 0) (test : List ℕ → Bool) (xs : List (List ℕ)) → Each P xs → list_all test xs ≡ true →
    Each (λ x. P x × (test x ≡ true)) xs
each-all P test [] all e = tt
each-all P test (x ∷ xs) all e = let both = and_parts (test x) (list_all test xs) e in ((all.0, both.0), each-all P test xs all.1 both.1)

-- ---- the names of a path

-- no slash and no 0
abbrev IsPlain : List ℕ → Type 0
IsPlain bytes = (list_any is_slash bytes ≡ false) × (list_any (λ b. b == 0) bytes ≡ false)

or-parts : (a b : Bool) → (a || b) ≡ false → (a ≡ false) × (b ≡ false)
or-parts true b e = absurd (cc)
or-parts false b e = (refl, e)

plain-onto : (byte : ℕ) (parts : List (List ℕ)) → is_slash byte ≡ false → (byte == 0) ≡ false → Each IsPlain parts →
    Each IsPlain (onto_first byte parts)
plain-onto byte [] slash nul all = ((ap (λ (b : Bool). b || false) slash, ap (λ (b : Bool). b || false) nul), tt)
plain-onto byte (part ∷ parts) slash nul all =
    ((ap (λ (b : Bool). b || list_any is_slash part) slash ∙ all.0.0, ap (λ (b : Bool). b || list_any (λ c. c == 0) part) nul ∙ all.0.1), all.1)

plain-parts : (path : List ℕ) → list_any (λ b. b == 0) path ≡ false → Each IsPlain (slice_split is_slash path)
plain-parts [] nul = ((refl, refl), tt)
plain-parts (byte ∷ path) nul =
    let both = or-parts (byte == 0) (list_any (λ b. b == 0) path) nul in by both.0 (is_slash byte) refl (plain-parts path both.1)
  where
    by : (byte == 0) ≡ false → (b : Bool) → is_slash byte ≡ b → Each IsPlain (slice_split is_slash path) →
        Each IsPlain (if b then [] ∷ slice_split is_slash path else onto_first byte (slice_split is_slash path))
    by not_nul true e rest = ((refl, refl), rest)
    by not_nul false e rest = plain-onto byte (slice_split is_slash path) e not_nul rest

record-name : (name : List ℕ) → (IsPlain name × (not (is_empty name) ≡ true)) × (nat_lt (length name) MAXNAMELEN ≡ true) → IsRecordName name
record-name name all =
    record {
      some = let e : not (length name == 0) ≡ true = all.0.1 in grind (arith, nat_tests);
      short = let e : nat_lt (length name) 128 ≡ true = all.1 in grind (arith, nat_tests);
      no_slash = all.0.0.0;
      no_nul = all.0.0.1;
    }

-- each name of a good path without a 0 can be a record's
names-are : (path : List ℕ) → is_good_path path ≡ true → list_any (λ b. b == 0) path ≡ false → Each IsRecordName (names_in path)
unfolding names_in is_good_path
names-are path good nul =
    let some : List ℕ → Bool = λ name. not (is_empty name) in
    let room : List ℕ → Bool = λ name. nat_lt (length name) MAXNAMELEN in
    let names : List (List ℕ) = filter some (slice_split is_slash path) in
    let short = and_parts (nat_lt (length path) MAXPATHLEN) (list_all room names) good in
    each-map (λ x. (IsPlain x × (some x ≡ true)) × (room x ≡ true)) IsRecordName names record-name
    (each-all (λ x. IsPlain x × (some x ≡ true)) room names (each-filter IsPlain some (slice_split is_slash path) (plain-parts path nul)) short.1)

-- ---- a name that is missing

none-passes : {X : Type 0} (test : X → Bool) (xs : List X) → length xs ≤ position_or_len test xs → list_any test xs ≡ false
none-passes test [] past = refl
none-passes test (x ∷ xs) past = by (test x) past (none-passes test xs)
  where
    by : (b : Bool) → suc (length xs) ≤ (if not b then 1 + position_or_len test xs else 0) →
        (length xs ≤ position_or_len test xs → list_any test xs ≡ false) → (b || list_any test xs) ≡ false
    by true past_ rest = absurd (omega arith)
    by false past_ rest = rest (omega arith)

found-some : (list : List (Option NamedNode)) (name : List ℕ) (place : ℕ) (entry : Option NamedNode) →
    slice_index_or list place None ≡ entry → has_name name entry ≡ true → found_record list (Some place) ≡ None → ⊥
found-some list name place None e has none = cc
found-some list name place (Some named) e has none =
    let there_ : found_record list (Some place) ≡ Some (place, named.node) =
    ap (λ (x : Option NamedNode). option_map (λ (n : NamedNode). (place, n.node)) x) e in
    cc

not-found : (list : List (Option NamedNode)) (name : List ℕ) (found : Option ℕ) → position (has_name name) list ≡ found →
    found_record list found ≡ None → list_any (has_name name) list ≡ false
not-found list name None e none =
    none-passes (has_name name) list (past (position_or_len (has_name name) list) (length list) e)
  where
    past : (i n : ℕ) → (if nat_lt i n then Some i else None) ≡ None → n ≤ i
    past i n none_ = by (nat_lt i n) refl none_
      where
        by : (b : Bool) → nat_lt i n ≡ b → (if b then Some i else None) ≡ None → n ≤ i
        by true is e_ = cc
        by false is e_ = grind (arith, nat_tests)
not-found list name (Some place) e none =
    let is = position-Some (has_name name) list place None e in
    absurd (found-some list name place (slice_index_or list place None) refl is.1 none)

-- the directory in which it is missing
pub record IsMissing (node : Node) (name : List ℕ) : Type 0 where
  pub records : Records
  pub indirect : Bool
  pub node_is : node ≡ a_directory records indirect
  pub name_is : IsRecordName name
  pub alone : list_any (has_name name) (listed records) ≡ false

seen-missing : (place : ℕ) (looked : Looked) (way : List ℕ) (node : Node) (name : List ℕ) →
    seen_from_above place looked ≡ missing way node name → (below : List ℕ) × (looked ≡ missing below node name)
seen-missing place bad_path way node name e = cc
seen-missing place nowhere way node name e = cc
seen-missing place (there below other) way node name e = cc
seen-missing place (missing below other its) way node name e = (below, same)
  where
    one : other ≡ node
    one = cc

    two : its ≡ name
    two = cc

    same : missing below other its ≡ missing below node name
    same = λ i. missing below (one i) (two i)

missing-is : (names : List (List ℕ)) (here : Node) (way : List ℕ) (node : Node) (name : List ℕ) → Each IsRecordName names →
    look_from names here ≡ missing way node name → IsMissing node name
unfolding look_from find_name
missing-is [] here way node name all e = cc
missing-is (first ∷ rest) (a_file bytes indirect) way node name all e = cc
missing-is (first ∷ rest) (a_directory records indirect) way node name all e =
    by rest (found_record (listed records) (position (has_name first) (listed records))) refl (λ next w. missing-is rest next w node name all.1) e
  where
    by : (names : List (List ℕ)) (found : Option (ℕ × Node)) →
        found_record (listed records) (position (has_name first) (listed records)) ≡ found →
        ((next : Node) (w : List ℕ) → look_from rest next ≡ missing w node name → IsMissing node name) →
        looked_in (a_directory records indirect) first names found (look_from rest) ≡ missing way node name → IsMissing node name
    by [] None none onward e_ =
        record {
          records = records;
          indirect = indirect;
          node_is = sym node_same;
          name_is = subst IsRecordName name_same all.0;
          alone =
              subst (λ (n : List ℕ). list_any (has_name n) (listed records) ≡ false) name_same
              (not-found (listed records) first (position (has_name first) (listed records)) refl none);
        }
      where
        node_same : a_directory records indirect ≡ node
        node_same = cc

        name_same : first ≡ name
        name_same = cc
    by (next ∷ more) None none onward e_ = cc
    by [] (Some found) some onward e_ =
        let seen = seen-missing found.0 (look_from rest found.1) way node name e_ in onward found.1 seen.0 seen.1
    by (next ∷ more) (Some found) some onward e_ =
        let seen = seen-missing found.0 (look_from rest found.1) way node name e_ in onward found.1 seen.0 seen.1

-- a path whose last name is missing
pub missing-name : (s : FileSystem) (path way : List ℕ) (node : Node) (name : List ℕ) → list_any (λ b. b == 0) path ≡ false →
    look_up s path ≡ missing way node name → IsMissing node name
unfolding look_up
missing-name s path way node name nul e = by (is_good_path path) refl e
  where
    by : (b : Bool) → is_good_path path ≡ b → (if b then look_from (names_in path) s.root else bad_path) ≡ missing way node name →
        IsMissing node name
    by true good e_ = missing-is (names_in path) s.root way node name (names-are path good nul) e_
    by false bad e_ = cc
