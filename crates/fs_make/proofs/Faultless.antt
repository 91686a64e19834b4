-- What is known of files of which an image can be made.
use Rattle.std.proofs.Common.{◌≡◌, ◌∙◌, ◌+◌, ◌<◌, ◌||◌, ℕ, zero, suc, Bool, true, false, not, List, [], ◌∷◌, length, get_or}
use Rattle.std.proofs.Common.{Option, Some, None, refl, sym, ap, arith}
use Rattle.std.specs.Prelude.{nat_lt, nat_le, position, bytes_eq, option_map, if◌then◌else◌}
use Rattle.std.specs.List.{list_any, position_or_len}
use Rattle.std.proofs.lemmas.Bool.{and_parts, or_parts, not-false, ltb-false, leb-true}
use Rattle.std.proofs.lemmas.Bool.Decides.{nat_tests}
use Rattle.std.proofs.lemmas.List.Sums.{fails_before_first}
use Rattle.std.proofs.lemmas.Slice.Eq.{bytes_eq-Decides}
use Rattle.jos_host.specs.MemHost.{Named}
use Rattle.fs_layout.specs.declared.numbers.TheConstants.{MAXFILESIZE, MINBLOCKS, MAXBLOCKS}
use Rattle.fs_layout.specs.DiskImage.{is_good_count}
use Rattle.fs_make.specs.declared.fault.MakeFault.{MakeFault}
use Rattle.fs_make.specs.declared.fault.MakeFault.TheVariants.{TooManyBlocks, BadName, TwiceNamed, TooLong, NoRoom}
use Rattle.fs_make.specs.MakeFaults.{is_file_name, first_taken, root_size, blocks_used, fault_where, make_fault}
use Rattle.fs_make.proofs.MadeRecords.{file_at, Faultless}
use Rattle.jos_base.proofs.Options.{or_none, map_none}

-- ---- no fault of several

pub none-where : (fails : Bool) (fault : MakeFault) → fault_where fails fault ≡ None → fails ≡ false
none-where true fault e = cc
none-where false fault e = refl

-- ---- tests of every file

no_file : Named
no_file = record { name = []; bytes = [] }

file-is : (files : List Named) (i : ℕ) → get_or files i no_file ≡ file_at files i
unfolding file_at no_file
file-is [] i = refl
file-is (file ∷ files) zero = refl
file-is (file ∷ files) (suc i) = file-is files i

-- a test that no file passes
none-at : (test : Named → Bool) (files : List Named) (i : ℕ) → position test files ≡ None → i < length files →
    test (file_at files i) ≡ false
none-at test files i none within =
    ap test (sym (file-is files i))
    ∙ fails_before_first test files i no_file (before (position_or_len test files) (length files) none within)
  where
    before : (at n : ℕ) → (if nat_lt at n then Some at else None) ≡ None → i < n → i < at
    before at n e lt = grind (arith, nat_tests)

-- ---- names

none-taken : (taken : Bool) (rest : Option ℕ) → (if taken then Some 0 else rest) ≡ None → (taken ≡ false) × (rest ≡ None)
none-taken true rest e = cc
none-taken false rest e = (refl, e)

-- no name after the first is taken either
none-after : (before : List (List ℕ)) (file : Named) (files : List Named) → first_taken before (file ∷ files) ≡ None →
    first_taken (file.name ∷ before) files ≡ None
unfolding first_taken
none-after before file files none =
    map_none (λ (place : ℕ). place + 1) (first_taken (file.name ∷ before) files)
    (none-taken (list_any (bytes_eq file.name) before) _ none).1

-- none is one of those before the files
not-before : (files : List Named) (before : List (List ℕ)) (i : ℕ) → first_taken before files ≡ None → i < length files →
    list_any (bytes_eq (file_at files i).name) before ≡ false
unfolding first_taken file_at
not-before [] before i none within = absurd (omega arith)
not-before (file ∷ files) before zero none within = (none-taken (list_any (bytes_eq file.name) before) _ none).0
not-before (file ∷ files) before (suc i) none within =
    (or_parts (bytes_eq (file_at files i).name file.name) _
    (not-before files (file.name ∷ before) i (none-after before file files none) (omega arith))).1

-- none is that of an earlier file
names-differ : (files : List Named) (before : List (List ℕ)) (i j : ℕ) → first_taken before files ≡ None → j < i →
    i < length files → bytes_eq (file_at files i).name (file_at files j).name ≡ false
unfolding file_at
names-differ [] before i j none lt within = absurd (omega arith)
names-differ (file ∷ files) before zero j none lt within = absurd (omega arith)
names-differ (file ∷ files) before (suc i) zero none lt within =
    (or_parts (bytes_eq (file_at files i).name file.name) _
    (not-before files (file.name ∷ before) i (none-after before file files none) (omega arith))).0
names-differ (file ∷ files) before (suc i) (suc j) none lt within =
    names-differ files (file.name ∷ before) i j (none-after before file files none) (omega arith) (omega arith)

-- which of the two comes first doesn't matter
other-way : (a b : List ℕ) → bytes_eq a b ≡ false → bytes_eq b a ≡ false
other-way a b e = by_test (bytes_eq b a) refl
  where
    by_test : (t : Bool) → bytes_eq b a ≡ t → bytes_eq b a ≡ false
    by_test true same =
        let equal = (bytes_eq-Decides b a).0 same in
        let again = (bytes_eq-Decides a b).1 (sym equal) in
        cc
    by_test false differ = differ

-- ---- the tests together

abbrev has_bad_name : Named → Bool
has_bad_name file = not (is_file_name file.name)

abbrev is_too_long : Named → Bool
is_too_long file = nat_lt MAXFILESIZE (length file.bytes)

-- no fault is told, so each test passes
pub faultless : (blocks : ℕ) (files : List Named) → make_fault blocks files ≡ None → Faultless blocks files
unfolding make_fault
faultless blocks files none =
    let count = or_none (fault_where (not (is_good_count blocks)) TooManyBlocks) _ none in
    let names = or_none (option_map BadName (position has_bad_name files)) _ count.1 in
    let taken = or_none (option_map TwiceNamed (first_taken [] files)) _ names.1 in
    let lengths = or_none (option_map TooLong (position is_too_long files)) _ taken.1 in
    let good = not-false (is_good_count blocks) (none-where (not (is_good_count blocks)) TooManyBlocks count.0) in
    let bounds = and_parts (nat_le MINBLOCKS blocks) (nat_le blocks MAXBLOCKS) good in
    let good_names = map_none BadName (position has_bad_name files) names.0 in
    let none_taken = map_none TwiceNamed (first_taken [] files) taken.0 in
    let none_long = map_none TooLong (position is_too_long files) lengths.0 in
    let small = nat_lt blocks (blocks_used blocks files) in
    let long = nat_lt MAXFILESIZE (root_size (length files)) in
    let room = or_parts small long (none-where (small || long) NoRoom lengths.1) in
    record {
      at_least = leb-true MINBLOCKS blocks bounds.0;
      at_most = leb-true blocks MAXBLOCKS bounds.1;
      named = λ i within. not-false (is_file_name (file_at files i).name) (none-at has_bad_name files i good_names within);
      apart = λ i j before within.
          other-way (file_at files i).name (file_at files j).name (names-differ files [] i j none_taken before within);
      short = λ i within. ltb-false MAXFILESIZE (length (file_at files i).bytes) (none-at is_too_long files i none_long within);
      room = ltb-false blocks (blocks_used blocks files) room.0;
      short_root = ltb-false MAXFILESIZE (root_size (length files)) room.1;
    }
