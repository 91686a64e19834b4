-- What the tests of a record give.
use Rattle.std.proofs.Common.{◌≡◌, ℕ, ◌-◌, ◌<◌, ◌≤◌, arith, Bool, true, false, Ok, Err, Result, [], ◌∷◌, refl, ◌∙◌}
use Rattle.std.specs.Prelude.{◌&&◌, not, nat_le, min}
use Rattle.std.proofs.lemmas.Bool.Decides.{nat_tests}
use Rattle.fs_layout.specs.declared.numbers.TheConstants.{NDIRECT, MAXFILESIZE}
use Rattle.fs_layout.specs.DiskImage.{Blocks, Test, ImageFault, DirSize, TooLong, Stray, in_turn, demand, for_each_below, only_where}
use Rattle.fs_layout.specs.DiskImage.{number_test, direct_of, number_in_indirect, indirect_test, blocks_needed, numbers_tests}
use Rattle.fs_layout.specs.DiskImage.{record_tests, stray_tests, has_stray, has_indirect, has_stray_in_indirect, is_good_size, size_of, kind_at}
use Rattle.fs_image.proofs.Each.{turn_fails, turn_passes, turn_last}
use Rattle.fs_layout.proofs.OneTest.{demand_passes}

abbrev pub directs : (ℕ → ℕ) → ℕ → Test
directs byte place = for_each_below (min (blocks_needed byte place) NDIRECT) (λ i. number_test byte place (direct_of byte place i))

abbrev pub others : (ℕ → ℕ) → ℕ → Test
others byte place = for_each_below (blocks_needed byte place - NDIRECT) (λ i. number_test byte place (number_in_indirect byte place i))

pub numbers_1 : (byte : ℕ → ℕ) (place : ℕ) (n : Blocks) (f : ImageFault) → directs byte place n ≡ Err f → in_turn (numbers_tests byte place) n ≡ Err f
unfolding numbers_tests
numbers_1 byte place n f e = turn_fails (directs byte place) (indirect_test byte place ∷ others byte place ∷ []) n f e

pub numbers_2 : (byte : ℕ → ℕ) (place : ℕ) (n m : Blocks) (f : ImageFault) → directs byte place n ≡ Ok m → indirect_test byte place m ≡ Err f → in_turn (numbers_tests byte place) n ≡ Err f
unfolding numbers_tests
numbers_2 byte place n m f d e = turn_passes (directs byte place) (indirect_test byte place ∷ others byte place ∷ []) n m d ∙ turn_fails (indirect_test byte place) (others byte place ∷ []) m f e

pub numbers_3 : (byte : ℕ → ℕ) (place : ℕ) (n m k : Blocks) (r : Result Blocks ImageFault) → directs byte place n ≡ Ok m → indirect_test byte place m ≡ Ok k → others byte place k ≡ r → in_turn (numbers_tests byte place) n ≡ r
unfolding numbers_tests
numbers_3 byte place n m k r d e h = turn_passes (directs byte place) (indirect_test byte place ∷ others byte place ∷ []) n m d ∙ turn_passes (indirect_test byte place) (others byte place ∷ []) m k e ∙ turn_last (others byte place) k ∙ h

-- ---- strays

both_fail : (place : ℕ) (n : Blocks) (x y : Bool) → (x && y) ≡ true → in_turn (only_where x (λ named. demand (not y) (Stray place) named) ∷ []) n ≡ Err (Stray place)
unfolding in_turn
both_fail place n true true h = refl
both_fail place n true false h = absurd cc
both_fail place n false y h = absurd cc

both_pass : (place : ℕ) (n : Blocks) (x y : Bool) → (x && y) ≡ false → in_turn (only_where x (λ named. demand (not y) (Stray place) named) ∷ []) n ≡ Ok n
unfolding in_turn
both_pass place n true true h = absurd cc
both_pass place n true false h = refl
both_pass place n false y h = refl

pub stray_1 : (byte : ℕ → ℕ) (place : ℕ) (n : Blocks) → has_stray byte place ≡ true → in_turn (stray_tests byte place) n ≡ Err (Stray place)
unfolding stray_tests in_turn
stray_1 byte place n e = rw e refl

pub stray_2 : (byte : ℕ → ℕ) (place : ℕ) (n : Blocks) → has_stray byte place ≡ false → (has_indirect byte place && has_stray_in_indirect byte place) ≡ true → in_turn (stray_tests byte place) n ≡ Err (Stray place)
unfolding stray_tests in_turn
stray_2 byte place n e h = rw e (both_fail place n (has_indirect byte place) (has_stray_in_indirect byte place) h)

pub stray_3 : (byte : ℕ → ℕ) (place : ℕ) (n : Blocks) → has_stray byte place ≡ false → (has_indirect byte place && has_stray_in_indirect byte place) ≡ false → in_turn (stray_tests byte place) n ≡ Ok n
unfolding stray_tests in_turn
stray_3 byte place n e h = rw e (both_pass place n (has_indirect byte place) (has_stray_in_indirect byte place) h)

-- ---- the record

pub size_past : (a b : ℕ) → a ≡ b → MAXFILESIZE < a → nat_le b MAXFILESIZE ≡ false
size_past a b e h = grind (arith, nat_tests)

pub size_within : (a b : ℕ) → a ≡ b → a ≤ MAXFILESIZE → nat_le b MAXFILESIZE ≡ true
size_within a b e h = grind (arith, nat_tests)

pub record_1 : (byte : ℕ → ℕ) (place : ℕ) (n : Blocks) → is_good_size (kind_at byte place) (size_of byte place) ≡ false → in_turn (record_tests byte place) n ≡ Err (DirSize place)
unfolding record_tests in_turn
record_1 byte place n e = rw e refl

pub record_2 : (byte : ℕ → ℕ) (place : ℕ) (n : Blocks) → is_good_size (kind_at byte place) (size_of byte place) ≡ true → nat_le (size_of byte place) MAXFILESIZE ≡ false → in_turn (record_tests byte place) n ≡ Err (TooLong place)
unfolding record_tests in_turn
record_2 byte place n e h = rw (e, h) refl

record_rest : (byte : ℕ → ℕ) (place : ℕ) (n : Blocks) → is_good_size (kind_at byte place) (size_of byte place) ≡ true → nat_le (size_of byte place) MAXFILESIZE ≡ true → in_turn (record_tests byte place) n ≡ in_turn (in_turn (numbers_tests byte place) ∷ in_turn (stray_tests byte place) ∷ []) n
unfolding record_tests
record_rest byte place n e h =
    turn_passes (demand (is_good_size (kind_at byte place) (size_of byte place)) (DirSize place))
    (demand (nat_le (size_of byte place) MAXFILESIZE) (TooLong place) ∷ in_turn (numbers_tests byte place) ∷ in_turn (stray_tests byte place) ∷ []) n n (demand_passes (is_good_size (kind_at byte place) (size_of byte place)) (DirSize place) n e)
    ∙ turn_passes (demand (nat_le (size_of byte place) MAXFILESIZE) (TooLong place)) (in_turn (numbers_tests byte place) ∷ in_turn (stray_tests byte place) ∷ []) n n (demand_passes (nat_le (size_of byte place) MAXFILESIZE) (TooLong place) n h)

pub record_3 : (byte : ℕ → ℕ) (place : ℕ) (n : Blocks) (f : ImageFault) → is_good_size (kind_at byte place) (size_of byte place) ≡ true → nat_le (size_of byte place) MAXFILESIZE ≡ true → in_turn (numbers_tests byte place) n ≡ Err f → in_turn (record_tests byte place) n ≡ Err f
record_3 byte place n f e h k = record_rest byte place n e h ∙ turn_fails (in_turn (numbers_tests byte place)) (in_turn (stray_tests byte place) ∷ []) n f k

pub record_4 : (byte : ℕ → ℕ) (place : ℕ) (n m : Blocks) (r : Result Blocks ImageFault) → is_good_size (kind_at byte place) (size_of byte place) ≡ true → nat_le (size_of byte place) MAXFILESIZE ≡ true → in_turn (numbers_tests byte place) n ≡ Ok m → in_turn (stray_tests byte place) m ≡ r → in_turn (record_tests byte place) n ≡ r
record_4 byte place n m r e h k l = record_rest byte place n e h ∙ turn_passes (in_turn (numbers_tests byte place)) (in_turn (stray_tests byte place) ∷ []) n m k ∙ turn_last (in_turn (stray_tests byte place)) m ∙ l
