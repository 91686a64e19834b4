-- How many steps and calls the run of a job is, by what the changes of a record's blocks weigh.
use Rattle.std.proofs.Common.{◌≡◌, ◌≤◌, ◌+◌, ◌*◌, ◌-◌, ◌/◌, ◌^◌, ℕ, Bool, List, None, arith, refl, subst}
use Rattle.fs_layout.specs.declared.numbers.TheConstants.{BLKSIZE}
use Rattle.fs_layout.specs.DiskImage.{block_count}
use Rattle.fs_layout.specs.FileTree.{FileAct, open_path, read_file, remove_path, set_file_size, stat_file, write_file}
use Rattle.fs_acts.proofs.DiskCounts.{image-counted}
use Rattle.fs_jobs.specs.declared.place.Job.{Job}
use Rattle.fs_jobs.specs.declared.place.Job.TheVariants as job
use Rattle.fs_jobs.specs.declared.place.TreePlace.TheVariants.{Walking}
use Rattle.fs_jobs.specs.declared.place.TreeState.{TreeState}
use Rattle.fs_jobs.specs.declared.place.WalkPlace.TheVariants as walk
use Rattle.fs_runs.specs.JobCalls.{act_calls_max, bitmap_words, changes_calls_max, find_calls_max, head_calls, job_steps_max}
use Rattle.fs_runs.specs.TreeRuns.{IsJobOf, IsSound, Memory, begun_with, bytes_given, calls_of, opens, reads, removes, sizes, stats, writes}
use Rattle.fs_runs.proofs.CallsCounted.{HasRecord, ends-of, record-calls, walked-calls}
use Rattle.fs_runs.proofs.CallsFound.{steps-calls}
use Rattle.fs_runs.proofs.Leads.{EndsIn}
use Rattle.fs_runs.proofs.NamesShort.{read-none}
use Rattle.fs_runs.proofs.WalksCalled.{calls_behind, record_calls}
use Rattle.fs_runs.proofs.WalksKnown.{IsAt, Known, below-root}

known : (count : ℕ) (m : Memory) → IsSound count m → Known m
known count m sound =
    let counted = image-counted (BLKSIZE * count) m.disk sound.disk in
    record { small = sound.small; good = counted.records; few = below-root (BLKSIZE * count) m.disk counted }

-- Few calls are few steps.
both : {count answer : ℕ} {after : Memory} {weighs n : ℕ} {state : TreeState} {m : Memory} (ends : EndsIn count answer after weighs n state m) (most : ℕ) →
    calls_of None (ends-of ends) ≤ most → most ≤ job_steps_max count → (n ≤ job_steps_max count) × (calls_of None (ends-of ends) ≤ most)
both {count} {n} ends most few less =
    (within n (calls_of None (ends-of ends)) (job_steps_max count) (steps-calls None (ends-of ends)) few less, few)
  where
    within : (n a steps : ℕ) → n ≤ a → a ≤ most → most ≤ steps → n ≤ steps
    within n a steps one two three = omega (arith, one, two, three)

-- a path is looked up, and then the file is cut off, or a record is made
walked : {count answer : ℕ} {after : Memory} {weighs n : ℕ} (mode : ℕ) (m : Memory) → IsSound count m →
    (ends : EndsIn count answer after weighs n (begun_with (job.Open mode)) m) →
    calls_of None (ends-of ends) ≤ 4081 * count + 6174 + (6 * bitmap_words count + 1149) + weighs
unfolding IsAt calls_behind
walked {count} {weighs} mode m sound ends =
    from (calls_of None (ends-of ends)) (block_count m.disk)
    (walked-calls (record_calls (block_count m.disk)) m (known count m sound) ends refl (walk.Path 0 0) refl 0 tt tt (read-none m.page, omega arith)
    (omega arith, tt) None tt) sound.count_is
  where
    from : (a blocks : ℕ) →
        a ≤ 6 * ((blocks + 31) / 32) + 1149 + 1030 + 4 * (1024 - 0) + 5 + 4081 * blocks + 18 + (1024 - 0) + 1 + weighs → blocks ≡ count →
        a ≤ 4081 * count + 6174 + (6 * ((count + 31) / 32) + 1149) + weighs
    from a blocks le is = omega (arith, le, is)

at-record : {count answer : ℕ} {after : Memory} {weighs n : ℕ} (m : Memory) (j : Job) (home : ℕ) → HasRecord j home → IsSound count m →
    (ends : EndsIn count answer after weighs n (record { job = j; count = 0; place = Walking walk.Magic }) m) →
    calls_of None (ends-of ends) ≤ head_calls count j + 30 + weighs
at-record {weighs} m j home has sound ends =
    subst (λ (k : ℕ). calls_of None (ends-of ends) ≤ head_calls k j + 30 + weighs) sound.count_is (record-calls j home has ends refl refl None)

-- ---- by the act

pub finds-few : {count answer : ℕ} {after : Memory} {n : ℕ} (m : Memory) → IsSound count m →
    (ends : EndsIn count answer after 0 n (begun_with job.Find) m) →
    (n ≤ job_steps_max count) × (calls_of None (ends-of ends) ≤ find_calls_max count)
unfolding IsAt calls_behind
finds-few {count} m sound ends =
    both ends (find_calls_max count)
    (from (calls_of None (ends-of ends)) (block_count m.disk)
    (walked-calls 0 m (known count m sound) ends refl (walk.Path 0 0) refl 0 tt tt (read-none m.page, omega arith) (tt, tt) None tt) sound.count_is)
    (omega arith)
  where
    from : (a blocks : ℕ) → a ≤ 1030 + 4 * (1024 - 0) + 5 + 4081 * blocks + 18 + (1024 - 0) + 1 + 0 → blocks ≡ count → a ≤ 2 ^ 12 * count + 6200
    from a blocks le is = omega (arith, le, is)

act-few : {count answer : ℕ} {after : Memory} {weighs n : ℕ} (is_open : List ℕ → Bool) (m : Memory) → IsSound count m → (act : FileAct) (j : Job) →
    IsJobOf is_open m act j → weighs ≤ changes_calls_max act count → (ends : EndsIn count answer after weighs n (begun_with j) m) →
    (n ≤ job_steps_max count) × (calls_of None (ends-of ends) ≤ act_calls_max act count)
act-few {count} {weighs} is_open m sound act j (opens path mode has) few ends =
    both ends (act_calls_max (open_path path mode) count) (most (calls_of None (ends-of ends)) (walked mode m sound ends) few) (omega arith)
  where
    most : (a : ℕ) → a ≤ 4081 * count + 6174 + (6 * ((count + 31) / 32) + 1149) + weighs → weighs ≤ count + 50000 → a ≤ 2 ^ 12 * count + 59000
    most a le few = omega (arith, le, few)
act-few {count} {weighs} is_open m sound act j (removes path way home leads file closed) few ends =
    both ends (act_calls_max (remove_path path) count)
    (most (calls_of None (ends-of ends)) (at-record m (job.Remove home) home (λ s. refl) sound ends) few) (omega arith)
  where
    most : (a : ℕ) → a ≤ 6 * ((count + 31) / 32) + 6 + 36 + 30 + weighs → weighs ≤ count + 50000 → a ≤ 2 ^ 12 * count + 55000
    most a le few = omega (arith, le, few)
act-few {count} {weighs} is_open m sound act j (reads way home at many stands near) few ends =
    both ends (act_calls_max (read_file way at many) count)
    (most (calls_of None (ends-of ends)) (at-record m (job.Read home at many) home (λ s. refl) sound ends) few) (omega arith)
  where
    most : (a : ℕ) → a ≤ head_calls count (job.Read home at many) + 30 + weighs → weighs ≤ 0 → a ≤ 2 ^ 13 * count + 65000
    most a le few = omega (arith, le, few)
act-few {count} {weighs} is_open m sound act j (writes way home at many stands near short) few ends =
    both ends (act_calls_max (write_file way at (bytes_given m.page many)) count)
    (most (calls_of None (ends-of ends)) (at-record m (job.Write home at many) home (λ s. refl) sound ends) few) (omega arith)
  where
    most : (a : ℕ) → a ≤ head_calls count (job.Write home at many) + 30 + weighs → weighs ≤ 6410 * count + 26000 → a ≤ 2 ^ 13 * count + 65000
    most a le few = omega (arith, le, few)
act-few {count} {weighs} is_open m sound act j (sizes way home size stands) few ends =
    both ends (act_calls_max (set_file_size way size) count)
    (most (calls_of None (ends-of ends)) (at-record m (job.SetSize home size) home (λ s. refl) sound ends) few) (omega arith)
  where
    most : (a : ℕ) → a ≤ head_calls count (job.SetSize home size) + 30 + weighs → weighs ≤ 6410 * count + 26000 → a ≤ 2 ^ 13 * count + 65000
    most a le few = omega (arith, le, few)
act-few {count} {weighs} is_open m sound act j (stats way home stands) few ends =
    both ends (act_calls_max (stat_file way) count)
    (most (calls_of None (ends-of ends)) (at-record m (job.Stat home) home (λ s. refl) sound ends) few) (omega arith)
  where
    most : (a : ℕ) → a ≤ head_calls count (job.Stat home) + 30 + weighs → weighs ≤ 0 → a ≤ 2 ^ 13 * count + 65000
    most a le few = omega (arith, le, few)

pub ends-few : {count answer : ℕ} {after : Memory} {weighs n : ℕ} (act : FileAct) (is_open : List ℕ → Bool) (m : Memory) (j : Job) →
    IsSound count m → IsJobOf is_open m act j → weighs ≤ changes_calls_max act count →
    (ends : EndsIn count answer after weighs n (begun_with j) m) →
    (n ≤ job_steps_max count) × (calls_of None (ends-of ends) ≤ act_calls_max act count)
ends-few act is_open m j sound is few ends = act-few is_open m sound act j is few ends
