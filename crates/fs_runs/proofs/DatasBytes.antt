-- The numbers of a file's blocks, read as they are wanted.
use Rattle.std.proofs.Common.{◌≡◌, ◌+◌, ◌/◌, ◌%◌, ◌<◌, ◌≤◌, ◌&&◌, inr, ℕ, Bool, true, false, refl, arith}
use Rattle.std.specs.Prelude.{nat_le, nat_lt}
use Rattle.std.proofs.lemmas.Bool.{and_parts}
use Rattle.std.proofs.lemmas.Bool.Decides.{nat_tests}
use Rattle.fs_layout.specs.declared.numbers.TheConstants.{BLKSIZE, MAXFILESIZE, NDIRECT}
use Rattle.fs_layout.specs.DiskImage.{block_number_at, first_data_block, indirect_of, is_data_block}
use Rattle.fs_layout.specs.FileTree.{blocks_of}
use Rattle.fs_jobs.specs.declared.place.Changed.{Changed}
use Rattle.fs_jobs.specs.declared.place.FilePlace.TheVariants as file
use Rattle.fs_jobs.specs.declared.place.Job.{Job}
use Rattle.fs_jobs.specs.declared.place.Wanted.{Wanted}
use Rattle.fs_changes.specs.ChangePlans.{place_for}
use Rattle.fs_jobs.specs.TreeBounds.{is_block, is_bounded_changed, is_bounded_wanted, is_place}
use Rattle.fs_runs.specs.JobCalls.{change_weight}
use Rattle.fs_runs.specs.TreeRuns.{Memory}
use Rattle.fs_runs.proofs.Leads.{LeadsIn}
use Rattle.fs_runs.proofs.Pieces.{HasBytes, NumbersAreFound, NumbersAreRead, at_file}
use Rattle.fs_runs.proofs.DatasRuns.{is-block}

-- ---- data blocks

pub data-block : (count block : ℕ) → is_data_block count block ≡ true → (2 ≤ block) × (block < count)
data-block count block is =
    let parts = and_parts (nat_le (first_data_block count) block) (nat_lt block count) is in
    (low (first_data_block count) block parts.0 (omega arith), high block count parts.1)
  where
    low : (a b : ℕ) → nat_le a b ≡ true → 2 ≤ a → 2 ≤ b
    low a b is past = grind (arith, nat_tests)

    high : (a b : ℕ) → nat_lt a b ≡ true → a < b
    high a b is = grind (arith, nat_tests)

pub data-bounded : (count block : ℕ) → count ≤ 16384 → is_data_block count block ≡ true → is_block block ≡ true
data-bounded count block few is = let below = (data-block count block is).1 in is-block block (omega (arith, few, below))

-- the record with another number of its indirect block
abbrev pub with_indirect : Changed → ℕ → Changed
with_indirect c block = record c { indirect = block }

pub indirect-bounded : (c : Changed) (block : ℕ) → is_bounded_changed c ≡ true → is_block block ≡ true → is_bounded_changed (with_indirect c block) ≡ true
indirect-bounded c block changed is =
    let three = and_parts (is_place c.home && is_place c.size && is_block c.indirect) (is_place c.end) changed in
    let two = and_parts (is_place c.home && is_place c.size) (is_block c.indirect) three.0 in
    rw (two.0, is, three.1) refl

pub bounded-indirect : (c : Changed) → is_bounded_changed c ≡ true → is_block c.indirect ≡ true
bounded-indirect c changed =
    let three = and_parts (is_place c.home && is_place c.size && is_block c.indirect) (is_place c.end) changed in
    (and_parts (is_place c.home && is_place c.size) (is_block c.indirect) three.0).1

-- ---- blocks of a file

pub few-blocks : (size i : ℕ) → size ≤ MAXFILESIZE → i < blocks_of size → i < 1034
few-blocks size i short within = omega (arith, short, within)

pub in-blocks : (a size : ℕ) → a < size → a / BLKSIZE < blocks_of size
in-blocks a size less = omega (arith, less)

-- where the next byte is not the first of a block, it is in the same
pub same-block : (a b : ℕ) → b ≡ a + 1 → (b % BLKSIZE ≡ 0 → ⊥) → b / BLKSIZE ≡ a / BLKSIZE
same-block a b next inner = omega (arith, next, inner)

pub past-ten : (i : ℕ) → nat_lt i 10 ≡ false → 10 ≤ i
past-ten i far = grind (arith, nat_tests)

pub below-ten : (i : ℕ) → nat_lt i 10 ≡ true → i < 10
below-ten i own = grind (arith, nat_tests)

-- ---- numbers

-- a number is read, and with it that of the indirect block where it stands there
pub record ComesTo (count : ℕ) (j : Job) (c : Changed) (i : ℕ) (w : Wanted) (m : Memory) (before : ℕ) : Type 0 where
  pub indirect : ℕ
  pub bounded : is_block indirect ≡ true
  pub run : LeadsIn count (at_file j count (with_indirect c indirect) (place_for (block_number_at m.disk c.home i) w)) m
      (change_weight count c (file.Number i w)) (at_file j count (with_indirect c before) (file.Number i w)) m

pub number-comes : NumbersAreRead → NumbersAreFound → (count : ℕ) (j : Job) (c : Changed) (i : ℕ) (w : Wanted) (m : Memory) (before : ℕ) →
    HasBytes count j c m → is_block before ≡ true → i < blocks_of c.size → is_bounded_wanted w ≡ true → ComesTo count j c i w m before
number-comes reads finds count j c i w m before has bounded within wanted = by (nat_lt i NDIRECT) refl
  where
    by : (own : Bool) → nat_lt i NDIRECT ≡ own → ComesTo count j c i w m before
    by true own = record {
      indirect = before;
      bounded = bounded;
      run =
          let near = below-ten i own in
          reads count j (with_indirect c before) i w m has.counted has.small has.lies has.job (indirect-bounded c before has.bounded bounded)
          wanted (few-blocks c.size i has.size_most within) (has.numbers i within) (λ far. absurd (omega (arith, near, far))) (inr near);
    }
    by false own =
        let far = past-ten i own in
        let there = has.indirect (omega (arith, far, within)) in
        record {
          indirect = indirect_of m.disk c.home;
          bounded = data-bounded count (indirect_of m.disk c.home) has.counted.2 there;
          run =
              finds count j (with_indirect c before) i w m has.counted has.small has.lies has.job (indirect-bounded c before has.bounded bounded)
              wanted (few-blocks c.size i has.size_most within) far (has.numbers i within) there;
        }
