-- The size of a file is told: three steps at the super block, one at the record's kind, and one at its size.
use Rattle.std.proofs.Common.{◌≡◌, ◌∙◌, ◌≤◌, ◌+◌, ◌*◌, ℕ, suc, Option, None, List, true, false, refl, sym, ap, subst, arith}
use Rattle.fs_layout.specs.FileTree.{file_size, size_of}
use Rattle.fs_layout.specs.DiskFiles.{file_bytes, file_system_of}
use Rattle.fs_layout.specs.DiskImage as image
use Rattle.fs_layout.specs.DiskImage.{has_indirect, is_directory_at}
use Rattle.fs_layout.specs.declared.numbers.TheConstants.{BLKSIZE}
use Rattle.fs_acts.proofs.ComposedChanges.{changes-acts}
use Rattle.fs_acts.proofs.ComposedRecords.{file-is}
use Rattle.fs_jobs.specs.declared.place.Job.{Job}
use Rattle.fs_jobs.specs.declared.place.Job.TheVariants as job
use Rattle.fs_jobs.specs.declared.place.TreeState.{TreeState}
use Rattle.fs_jobs.specs.declared.place.WalkPlace.TheVariants as walk
use Rattle.fs_jobs.specs.TreeBounds.{is_bounded_job}
use Rattle.fs_runs.specs.JobCalls.{calls_for, found_behind, job_steps_max, size_calls_max}
use Rattle.fs_runs.specs.TreePlans.{ask_at}
use Rattle.fs_runs.specs.TreeRuns.{Ends, Memory, SizesAreTold, at_once, calls_of, later}
use Rattle.fs_runs.proofs.CallsCounted.{ends-of, six}
use Rattle.fs_runs.proofs.JobsFacts.{Found, Pieces, facts, home-small}
use Rattle.fs_runs.proofs.JobsFiles.{has-file}
use Rattle.fs_runs.proofs.JobsRecords.{at_kind, size-ends, size-steps}
use Rattle.fs_runs.proofs.Leads.{end_steps, leads_to_end}
use Rattle.fs_runs.proofs.PathsSuper.{super_steps, supers_are_read}
use Rattle.fs_runs.proofs.Pieces.{at_walk}

-- a step is six calls at most
sixes : {count answer : ℕ} {after : Memory} {n : ℕ} {state : TreeState} {m : Memory} (found : Option ℕ) (ends : Ends count answer after n state m) →
    calls_of found ends ≤ 6 * n
unfolding calls_of
sixes found (at_once state m bounded inside tells leaves) = one (calls_for found (ask_at state)) (six found (ask_at state))
  where
    one : (a : ℕ) → a ≤ 6 → a ≤ 6 * 1
    one a le = omega (arith, le)
sixes found (later n state next m bounded inside goes rest) =
    more (calls_for found (ask_at state)) (calls_of (found_behind found (ask_at state)) rest) n (six found (ask_at state))
    (sixes (found_behind found (ask_at state)) rest)
  where
    more : (a b n : ℕ) → a ≤ 6 → b ≤ 6 * n → a + b ≤ 6 * suc n
    more a b n le few = omega (arith, le, few)

-- five steps are soon, and few calls
told : {count answer n : ℕ} {state : TreeState} {m : Memory} (size : ℕ) → answer ≡ size → n ≡ 5 → Ends count answer m n state m →
    (k : ℕ) × (k ≤ job_steps_max count) × (ends : Ends count size m k state m) × (calls_of None ends ≤ size_calls_max)
told {count} {answer} {n} {state} {m} size is five ends =
    subst
    (λ (a : ℕ). (k : ℕ) × (k ≤ job_steps_max count) × (ends : Ends count a m k state m) × (calls_of None ends ≤ size_calls_max))
    is (n, soon count n five, ends, few (calls_of None ends) n (sixes None ends) five)
  where
    soon : (count n : ℕ) → n ≡ 5 → n ≤ job_steps_max count
    soon count n five = omega (arith, five)

    few : (a n : ℕ) → a ≤ 6 * n → n ≡ 5 → a ≤ 30
    few a n le five = omega (arith, le, five)

-- the tree has the size that the record has
pub size-there : {count : ℕ} {way : List ℕ} {home : ℕ} {m : Memory} → Found count way home m → is_directory_at m.disk home ≡ false →
    image.size_of m.disk home ≡ file_size (file_system_of m.disk) way
size-there {count} {way} {home} {m} found regular =
    let has = has-file found regular in
    let is = file-is changes-acts (BLKSIZE * count) m.disk way home (file_bytes m.disk home) (has_indirect m.disk home) has.holds in
    sym (ap size_of has.holds.is ∙ is.long)

pub sizes_are_told : Pieces → SizesAreTold
sizes_are_told pieces count way home m sound stands regular =
    let found : Found count way home m = record { sound = sound; stands = stands } in
    let j : Job = job.Size home in
    let known = facts pieces count way home m found in
    let bounded : is_bounded_job j ≡ true = home-small count home known.lies known.counted.2 in
    let last = size-ends pieces count j way home m (image.size_of m.disk home) found bounded regular refl in
    let run = supers_are_read count j m sound bounded (at_kind j count home) refl in
    let ends = leads_to_end (at_walk j 0 walk.Magic) m run last.0 last.1 in
    let five : ends.0 ≡ 5 =
    end_steps (at_walk j 0 walk.Magic) m run last.0 last.1
    ∙ (λ i. super_steps count j m sound bounded (at_kind j count home) refl i
    + size-steps pieces count j way home m (image.size_of m.disk home) found bounded regular refl i) in
    told (file_size (file_system_of m.disk) way) (size-there found regular) five (ends-of ends.1)
