-- The number of a block is read where the record, or its indirect block, has it.
use Rattle.std.proofs.Common.{◌≡◌, ◌+◌, ◌-◌, ◌*◌, ◌%◌, ◌<◌, ◌≤◌, ◌&&◌, ◌⊎◌, inl, inr, ℕ, Bool, true, false}
use Rattle.std.proofs.Common.{refl, sym, subst, arith}
use Rattle.std.specs.Prelude.{nat_le, nat_lt}
use Rattle.std.proofs.lemmas.Bool.{and_parts}
use Rattle.std.proofs.lemmas.Bool.Decides.{nat_tests}
use Rattle.fs_layout.specs.declared.numbers.TheConstants.{BLKSIZE, NDIRECT}
use Rattle.fs_layout.specs.DiskImage.{block_number_at, direct_of, first_data_block, indirect_of, is_data_block, number_in_indirect}
use Rattle.fs_jobs.specs.declared.place.Changed.{Changed}
use Rattle.fs_jobs.specs.declared.place.FilePlace.{FilePlace}
use Rattle.fs_jobs.specs.declared.place.FilePlace.TheVariants as file
use Rattle.fs_jobs.specs.declared.place.Job.{Job}
use Rattle.fs_jobs.specs.declared.place.Wanted.{Wanted}
use Rattle.fs_changes.specs.ChangePlans.{place_for}
use Rattle.fs_jobs.specs.TreeBounds.{is_block, is_bounded, is_bounded_changed, is_bounded_file, is_bounded_job, is_bounded_wanted, is_count, is_place}
use Rattle.fs_runs.specs.JobCalls.{change_weight}
use Rattle.fs_runs.specs.TreeRuns.{Memory}
use Rattle.fs_jobs.specs.RecordFields.{direct_at, indirect_at}
use Rattle.fs_runs.proofs.Leads.{LeadsIn, here, on}
use Rattle.fs_runs.proofs.Pieces.{LiesOn, NumbersAreFound, NumbersAreRead, at_file}

-- ---- bounds

pub count-bounded : (count : ℕ) → count ≤ 16384 → is_block count ≡ true
count-bounded count most = let low : count < 65536 = omega (arith, most) in grind (arith, nat_tests)

-- a data block's number, below the count
pub data-below : (count block : ℕ) → is_data_block count block ≡ true → block < count
data-below count block is =
    let part = (and_parts (nat_le (first_data_block count) block) (nat_lt block count) is).1 in
    below block count part
  where
    below : (a b : ℕ) → nat_lt a b ≡ true → a < b
    below a b is = grind (arith, nat_tests)

pub block-bounded : (count block : ℕ) → count ≤ 16384 → block < count → is_block block ≡ true
block-bounded count block most lt = let low : block < 65536 = omega (arith, most, lt) in grind (arith, nat_tests)

-- a state with a record is bounded by its parts
pub file-bounded : (j : Job) (count : ℕ) (c : Changed) (place : FilePlace) → count ≤ 16384 → is_bounded_job j ≡ true →
    is_bounded_changed c ≡ true → is_bounded_file place ≡ true → is_bounded (at_file j count c place) ≡ true
file-bounded j count c place most job changed at = rw (count-bounded count most, job, changed, at) refl

-- the number of the indirect block is another
pub indirect-bounded : (c : Changed) (block : ℕ) → is_bounded_changed c ≡ true → is_block block ≡ true →
    is_bounded_changed (record c { indirect = block }) ≡ true
indirect-bounded c block changed is =
    let three = and_parts (is_place c.home && is_place c.size && is_block c.indirect) (is_place c.end) changed in
    let two = and_parts (is_place c.home && is_place c.size) (is_block c.indirect) three.0 in
    rw (two.0, is, three.1) refl

number-bounded : (i : ℕ) (w : Wanted) → i < 1034 → is_bounded_wanted w ≡ true → (is_count i && is_bounded_wanted w) ≡ true
number-bounded i w lt wanted = let low : is_count i ≡ true = few i lt in rw (low, wanted) refl
  where
    few : (i : ℕ) → i < 1034 → is_count i ≡ true
    few i lt = grind (arith, nat_tests)

-- ---- a number in the record

-- nothing else begins on the way
alone : (n : ℕ) → n + 0 ≡ n
alone n = omega arith

direct-inside : (count home i : ℕ) → LiesOn count home → i < NDIRECT →
    (direct_at home i + 4 ≤ BLKSIZE * count) × (direct_at home i % 4 ≡ 0)
direct-inside count home i lies lt = inside count home i lies.even lies.inside lt
  where
    inside : (count home i : ℕ) → home % 4 ≡ 0 → home + 256 ≤ 4096 * count → i < 10 →
        (home + 128 + 8 + 4 * i + 4 ≤ 4096 * count) × ((home + 128 + 8 + 4 * i) % 4 ≡ 0)
    inside count home i even room lt = (omega arith, omega arith)

direct-read : (count : ℕ) (j : Job) (c : Changed) (i : ℕ) (w : Wanted) (m : Memory) → count ≤ 16384 → LiesOn count c.home →
    is_bounded_job j ≡ true → is_bounded_changed c ≡ true → is_bounded_wanted w ≡ true → i < 1034 → nat_lt i NDIRECT ≡ true → i < NDIRECT →
    is_data_block count (direct_of m.disk c.home i) ≡ true →
    LeadsIn count (at_file j count c (place_for (direct_of m.disk c.home i) w)) m (change_weight count c (file.Number i w))
    (at_file j count c (file.Number i w)) m
direct-read count j c i w m most lies job changed wanted lt test low is_one =
    subst (λ (k : ℕ). LeadsIn count (at_file j count c (place_for (direct_of m.disk c.home i) w)) m k (at_file j count c (file.Number i w)) m)
    (alone (change_weight count c (file.Number i w)))
    (on (at_file j count c (file.Number i w)) (at_file j count c (place_for (direct_of m.disk c.home i) w)) m
    (file-bounded j count c (file.Number i w) most job changed (number-bounded i w lt wanted))
    (rw test (direct-inside count c.home i lies low))
    (rw (test, is_one) refl)
    here)

-- ---- a number in the indirect block

indirect-inside : (count home : ℕ) → LiesOn count home → (indirect_at home + 4 ≤ BLKSIZE * count) × (indirect_at home % 4 ≡ 0)
indirect-inside count home lies = inside count home lies.even lies.inside
  where
    inside : (count home : ℕ) → home % 4 ≡ 0 → home + 256 ≤ 4096 * count →
        (home + 128 + 8 + 40 + 4 ≤ 4096 * count) × ((home + 128 + 8 + 40) % 4 ≡ 0)
    inside count home even room = (omega arith, omega arith)

entry-inside : (count block i : ℕ) → block < count → i < 1034 →
    (4096 * block + 4 * (i - 10) + 4 ≤ 4096 * count) × ((4096 * block + 4 * (i - 10)) % 4 ≡ 0)
entry-inside count block i below lt = (omega arith, omega arith)

indirect-read : (count : ℕ) (j : Job) (c : Changed) (i block : ℕ) (w : Wanted) (m : Memory) → count ≤ 16384 → LiesOn count c.home →
    is_bounded_job j ≡ true → is_bounded_changed c ≡ true → is_bounded_wanted w ≡ true → i < 1034 → nat_lt i NDIRECT ≡ false →
    indirect_of m.disk c.home ≡ block → is_data_block count block ≡ true →
    is_data_block count (number_in_indirect m.disk c.home (i - NDIRECT)) ≡ true →
    LeadsIn count (at_file j count (record c { indirect = block }) (place_for (number_in_indirect m.disk c.home (i - NDIRECT)) w)) m
    (change_weight count c (file.Number i w)) (at_file j count c (file.Number i w)) m
indirect-read count j c i block w m most lies job changed wanted lt test is indirect is_one =
    let below = data-below count block indirect in
    let with_it = indirect-bounded c block changed (block-bounded count block most below) in
    subst (λ (k : ℕ). LeadsIn count (at_file j count (record c { indirect = block }) (place_for (number_in_indirect m.disk c.home (i - NDIRECT)) w)) m k
    (at_file j count c (file.Number i w)) m)
    (alone (change_weight count c (file.Number i w)))
    (on (at_file j count c (file.Number i w)) (at_file j count (record c { indirect = block }) (file.NumberIndirect i w)) m
    (file-bounded j count c (file.Number i w) most job changed (number-bounded i w lt wanted))
    (rw test (indirect-inside count c.home lies))
    (rw (test, is, indirect) refl)
    (on (at_file j count (record c { indirect = block }) (file.NumberIndirect i w))
    (at_file j count (record c { indirect = block }) (place_for (number_in_indirect m.disk c.home (i - NDIRECT)) w)) m
    (file-bounded j count (record c { indirect = block }) (file.NumberIndirect i w) most job with_it (number-bounded i w lt wanted))
    (rw test (entry-inside count block i below lt))
    (rw (test, ← is, is_one) refl)
    here))

-- ---- the pieces

number-direct : (byte : ℕ → ℕ) (home i : ℕ) → nat_lt i NDIRECT ≡ true → block_number_at byte home i ≡ direct_of byte home i
number-direct byte home i test = rw test refl

number-indirect : (byte : ℕ → ℕ) (home i : ℕ) → nat_lt i NDIRECT ≡ false →
    block_number_at byte home i ≡ number_in_indirect byte home (i - NDIRECT)
number-indirect byte home i test = rw test refl

pub numbers_are_found : NumbersAreFound
numbers_are_found count j c i w m counted small lies job changed wanted lt high is_one indirect =
    let test = not-below i high in
    let is = number-indirect m.disk c.home i test in
    subst (λ (block : ℕ). LeadsIn count (at_file j count (record c { indirect = indirect_of m.disk c.home }) (place_for block w)) m
    (change_weight count c (file.Number i w)) (at_file j count c (file.Number i w)) m)
    (sym is)
    (indirect-read count j c i (indirect_of m.disk c.home) w m counted.2 lies job changed wanted lt test refl indirect
    (subst (λ (block : ℕ). is_data_block count block ≡ true) is is_one))
  where
    not-below : (i : ℕ) → NDIRECT ≤ i → nat_lt i NDIRECT ≡ false
    not-below i high = grind (arith, nat_tests)

pub numbers_are_read : NumbersAreRead
numbers_are_read count j c i w m counted small lies job changed wanted lt is_one indirect known = by_test (nat_lt i NDIRECT) refl
  where
    low-of : (i : ℕ) → nat_lt i NDIRECT ≡ true → i < NDIRECT
    low-of i test = grind (arith, nat_tests)

    high-of : (i : ℕ) → nat_lt i NDIRECT ≡ false → NDIRECT ≤ i
    high-of i test = grind (arith, nat_tests)

    indirect-is : (i a b : ℕ) → (a ≡ b) ⊎ (i < NDIRECT) → NDIRECT ≤ i → a ≡ b
    indirect-is i a b (inl is) high = is
    indirect-is i a b (inr low) high = absurd (omega (arith, low, high))

    by_test : (b : Bool) → nat_lt i NDIRECT ≡ b →
        LeadsIn count (at_file j count c (place_for (block_number_at m.disk c.home i) w)) m (change_weight count c (file.Number i w))
        (at_file j count c (file.Number i w)) m
    by_test true test =
        let is = number-direct m.disk c.home i test in
        subst (λ (block : ℕ). LeadsIn count (at_file j count c (place_for block w)) m (change_weight count c (file.Number i w))
        (at_file j count c (file.Number i w)) m) (sym is)
        (direct-read count j c i w m counted.2 lies job changed wanted lt test (low-of i test)
        (subst (λ (block : ℕ). is_data_block count block ≡ true) is is_one))
    by_test false test =
        let high = high-of i test in
        let same = indirect-is i c.indirect (indirect_of m.disk c.home) known high in
        subst (λ (block : ℕ). LeadsIn count (at_file j count (record c { indirect = block }) (place_for (block_number_at m.disk c.home i) w)) m
        (change_weight count c (file.Number i w)) (at_file j count c (file.Number i w)) m)
        (sym same) (numbers_are_found count j c i w m counted small lies job changed wanted lt high is_one (indirect high))
