-- The super block is read.
use Rattle.std.proofs.Common.{◌≡◌, ◌∙◌, ◌*◌, ◌≤◌, ◌==◌, ◌&&◌, ℕ, Bool, true, false, refl, ap, arith}
use Rattle.std.specs.Prelude.{◌^◌, nat_lt, nat_le, if◌then◌else◌}
use Rattle.std.proofs.lemmas.Bool.{lt-ltb, and_parts}
use Rattle.std.proofs.lemmas.Bool.Decides.{nat_tests}
use Rattle.fs_layout.specs.declared.numbers.TheConstants.{BLKSIZE, FS_MAGIC}
use Rattle.fs_layout.specs.DiskImage.{block_count, is_directory_at, is_good_count, magic_of, none_named, root_place}
use Rattle.fs_acts.proofs.DiskCounts.{image-counted, super-met}
use Rattle.fs_jobs.specs.declared.place.Job.{Job}
use Rattle.fs_jobs.specs.declared.place.TreeState.{TreeState}
use Rattle.fs_jobs.specs.declared.place.WalkPlace.TheVariants as walk
use Rattle.fs_jobs.specs.declared.asks.TreeNext.{TreeNext}
use Rattle.fs_jobs.specs.declared.asks.TreeNext.TheVariants.{GoOn}
use Rattle.fs_jobs.specs.declared.tests.TheConstants.{DAMAGED}
use Rattle.fs_jobs.specs.TreeBounds.{is_bounded_job}
use Rattle.fs_jobs.specs.TreeTests.{refused}
use Rattle.fs_walks.specs.WalkPlans.{begun}
use Rattle.fs_runs.proofs.Leads.{here, on, steps_of}
use Rattle.fs_runs.specs.TreeRuns.{IsSound, Memory}
use Rattle.fs_runs.proofs.Pieces.{SupersAreRead, at_walk}

-- what a test decides
pub goes-where : (b : Bool) (x y : TreeNext) → b ≡ true → (if b then x else y) ≡ x
goes-where true x y e = refl
goes-where false x y e = cc

pub goes-else : (b : Bool) (x y : TreeNext) → b ≡ false → (if b then x else y) ≡ y
goes-else true x y e = cc
goes-else false x y e = refl

pub both-true : (a b : Bool) → a ≡ true → b ≡ true → (a && b) ≡ true
both-true true b e f = f
both-true false b e f = cc

-- how many blocks a disk has
count-parts : (n : ℕ) → (nat_le 4 n && nat_le n 16384) ≡ true → (4 ≤ n) × (n ≤ 16384)
count-parts n e = let both = and_parts (nat_le 4 n) (nat_le n 16384) e in (at_most 4 n both.0, at_most n 16384 both.1)
  where
    at_most : (a b : ℕ) → nat_le a b ≡ true → a ≤ b
    at_most a b is = grind (arith, nat_tests)

counted-on : (j : Job) (word count : ℕ) → word ≡ count → is_good_count word ≡ true →
    (if is_good_count word then GoOn (at_walk j word walk.RootKind) else refused DAMAGED) ≡ GoOn (at_walk j count walk.RootKind)
counted-on j word count e good =
    goes-where (is_good_count word) (GoOn (at_walk j word walk.RootKind)) (refused DAMAGED) good ∙ ap (λ n. GoOn (at_walk j n walk.RootKind)) e

pub supers_are_read : SupersAreRead
supers_are_read count j m sound bounded next begins =
    let counted = image-counted (BLKSIZE * count) m.disk sound.disk in
    let met = super-met (BLKSIZE * count) m.disk none_named none_named counted.begins in
    let few = count-parts (block_count m.disk) met.count in
    let place : nat_lt count (2 ^ 16) ≡ true = lt-ltb count (2 ^ 16) (omega (arith, few.1, sound.count_is)) in
    let first : TreeState = at_walk j 0 walk.Magic in
    let second : TreeState = at_walk j 0 walk.Count in
    let third : TreeState = at_walk j count walk.RootKind in
    let some : 4 ≤ count = omega (arith, few.0, sound.count_is) in
    on first second m (both-true (is_bounded_job j) true bounded refl) (omega (arith, some), refl)
    (goes-where (magic_of m.disk == FS_MAGIC) (GoOn second) (refused DAMAGED) met.magic)
    (on second third m (both-true (is_bounded_job j) true bounded refl) (omega (arith, some), refl)
    (counted-on j (block_count m.disk) count sound.count_is met.count)
    (on third next m (both-true (nat_lt count (2 ^ 16) && is_bounded_job j) true (both-true (nat_lt count (2 ^ 16)) (is_bounded_job j) place bounded) refl)
    (omega (arith, some), refl)
    (goes-where (is_directory_at m.disk root_place) (begun third j) (refused DAMAGED) met.root ∙ begins) here))

-- in three steps
pub super_steps : (count : ℕ) (j : Job) (m : Memory) (sound : IsSound count m) (bounded : is_bounded_job j ≡ true) (next : TreeState)
    (begins : begun (at_walk j count walk.RootKind) j ≡ GoOn next) → steps_of (supers_are_read count j m sound bounded next begins) ≡ 3
unfolding supers_are_read steps_of
super_steps count j m sound bounded next begins = refl
