-- A job as it runs by itself: what it reads and stores at each step, and that its run ends with an answer, over a disk and a page of
-- the request. No kernel and no cache are in this.
use Rattle.std.specs.Prelude.{◌≡◌, ◌<◌, ◌≤◌, ℕ, ◌+◌, ◌*◌, ◌%◌, ◌^◌, suc, true, false, List, length, slice_index, ◌==◌, Bool}
use Rattle.std.specs.Prelude.{Option, Some, None, if◌then◌else◌}
use Rattle.std.specs.List.{list_any}
use Rattle.jos_base.specs.declared.numbers.TheConstants.{E_BAD_PATH, E_INVAL, E_NOT_FOUND, PGSIZE}
use Rattle.jos_base.specs.Below.{values_below}
use Rattle.jos_base.specs.Words.{negated, upd, word_at}
use Rattle.fs_layout.specs.declared.numbers.TheConstants.{BLKSIZE}
use Rattle.fs_layout.specs.DiskImage.{block_count, is_directory_at}
use Rattle.fs_layout.specs.DiskFiles.{IsDiskImage, file_system_of}
use Rattle.fs_layout.specs.FileActs.{file_named}
use Rattle.fs_layout.specs.FileTree.{FileAct, file_size, open_path, read_file, remove_path, set_file_size, stat_file, write_file}
use Rattle.fs_acts.specs.BlockActs.{Led, a_record, astray, led_to, no_record, place_at, plan_of, put_byte, put_word, puts_of}
use Rattle.fs_acts.specs.BlockActs.{stored, too_long, written}
use Rattle.fs_jobs.specs.declared.place.Job.{Job}
use Rattle.fs_jobs.specs.declared.place.Job.TheVariants as job
use Rattle.fs_jobs.specs.declared.place.TreePlace.TheVariants.{Walking}
use Rattle.fs_jobs.specs.declared.place.TreeState.{TreeState}
use Rattle.fs_jobs.specs.declared.place.WalkPlace.TheVariants as walk
use Rattle.fs_jobs.specs.declared.asks.TreeAsk.{TreeAsk}
use Rattle.fs_jobs.specs.declared.asks.TreeAsk.TheVariants as ask
use Rattle.fs_jobs.specs.declared.asks.TreeNext.TheVariants.{Answer, GoOn}
use Rattle.fs_jobs.specs.TreeBounds.{is_bounded}
use Rattle.fs_runs.specs.JobCalls.{act_calls_max, ask_calls, calls_for, calls_left, find_calls_max, found_behind, is_changing, job_steps_max}
use Rattle.fs_runs.specs.JobCalls.{size_calls_max, weight}
use Rattle.fs_runs.specs.TreePlans.{ask_at, next_at}
use Rattle.fs_jobs.specs.TreeTests.{low_byte}

-- ---- what is read and stored

-- the bytes of the disk, and of the page of the request
pub record Memory : Type 0 where
  pub disk : ℕ → ℕ
  pub page : ℕ → ℕ

abbrev pub reply_of : TreeAsk → Memory → ℕ
reply_of (ask.Load at) m = word_at m.disk at
reply_of (ask.LoadByte at) m = m.disk at
reply_of (ask.Store at word) m = 0
reply_of (ask.StoreByte at byte) m = 0
reply_of (ask.Request at) m = m.page at
reply_of (ask.HandBack at byte) m = 0

abbrev pub memory_after : TreeAsk → Memory → Memory
memory_after (ask.Load at) m = m
memory_after (ask.LoadByte at) m = m
memory_after (ask.Store at word) m = record m { disk = stored (put_word at word) m.disk }
memory_after (ask.StoreByte at byte) m = record m { disk = stored (put_byte at (low_byte byte)) m.disk }
memory_after (ask.Request at) m = m
memory_after (ask.HandBack at byte) m = record m { page = upd m.page at (low_byte byte) }

-- A place lies within a disk of so many blocks, a word at a multiple of four; and a byte of the request in its page.
abbrev pub IsInside : ℕ → TreeAsk → Type 0
IsInside count (ask.Load at) = (at + 4 ≤ BLKSIZE * count) × (at % 4 ≡ 0)
IsInside count (ask.LoadByte at) = at < BLKSIZE * count
IsInside count (ask.Store at word) = (at + 4 ≤ BLKSIZE * count) × (at % 4 ≡ 0)
IsInside count (ask.StoreByte at byte) = at < BLKSIZE * count
IsInside count (ask.Request at) = at < PGSIZE
IsInside count (ask.HandBack at byte) = at < PGSIZE

-- ---- a run

-- From here the job ends with an answer, and leaves this, in so many steps.
pub data Ends (count : ℕ) (answer : ℕ) (after : Memory) : ℕ → TreeState → Memory → Type 0 where
  at_once : (state : TreeState) (m : Memory) → is_bounded state ≡ true → IsInside count (ask_at state) → next_at state (reply_of (ask_at state) m) ≡ Answer answer →
      memory_after (ask_at state) m ≡ after → Ends count answer after 1 state m
  later : (n : ℕ) (state next : TreeState) (m : Memory) → is_bounded state ≡ true → IsInside count (ask_at state) → next_at state (reply_of (ask_at state) m) ≡ GoOn next →
      Ends count answer after n next (memory_after (ask_at state) m) → Ends count answer after (suc n) state m

-- so many calls of the kernel a run is, by the block that was found last
unfoldable pub calls_of : {count answer : ℕ} {after : Memory} {n : ℕ} {state : TreeState} {m : Memory} → Option ℕ → Ends count answer after n state m → ℕ
calls_of found (at_once state m bounded inside tells leaves) = calls_for found (ask_at state)
calls_of found (later n state next m bounded inside goes rest) =
    calls_for found (ask_at state) + calls_of (found_behind found (ask_at state)) rest

-- a step's are fewer behind it
abbrev pub FewerCalls : TreeAsk → (Option ℕ → ℕ) → (Option ℕ → ℕ) → Type 0
FewerCalls it before behind = (found : Option ℕ) → before found ≡ calls_for found it + behind (found_behind found it)

-- ---- jobs and acts

-- the bytes of a path stand in the page, with a NUL behind them; there is none in them
pub record HasPath (page : ℕ → ℕ) (path : List ℕ) : Type 0 where
  pub short : length path < PGSIZE
  pub bytes : (k : ℕ) → k < length path → page k ≡ slice_index path k
  pub ends : page (length path) ≡ 0
  pub no_nul : list_any (λ b. b == 0) path ≡ false

-- the bytes that are written stand in it behind the first eight
abbrev pub bytes_given : (ℕ → ℕ) → ℕ → List ℕ
bytes_given page count = values_below count (λ k. page (8 + k))

-- A job is that of an act. A file's record stands at its way; a removal has been looked up before, and its file is open nowhere.
pub data IsJobOf (is_open : List ℕ → Bool) (m : Memory) : FileAct → Job → Type 0 where
  opens : (path : List ℕ) (mode : ℕ) → HasPath m.page path → IsJobOf is_open m (open_path path mode) (job.Open mode)
  removes : (path way : List ℕ) (home : ℕ) → led_to m.disk path ≡ a_record home way → is_directory_at m.disk home ≡ false →
      is_open way ≡ false → IsJobOf is_open m (remove_path path) (job.Remove home)
  reads : (way : List ℕ) (home at count : ℕ) → place_at m.disk way ≡ Some home → at < 2 ^ 31 → IsJobOf is_open m (read_file way at count) (job.Read home at count)
  writes : (way : List ℕ) (home at count : ℕ) → place_at m.disk way ≡ Some home → at < 2 ^ 31 → count + 8 ≤ PGSIZE →
      IsJobOf is_open m (write_file way at (bytes_given m.page count)) (job.Write home at count)
  sizes : (way : List ℕ) (home size : ℕ) → place_at m.disk way ≡ Some home → IsJobOf is_open m (set_file_size way size) (job.SetSize home size)
  stats : (way : List ℕ) (home : ℕ) → place_at m.disk way ≡ Some home → IsJobOf is_open m (stat_file way) (job.Stat home)

-- where a job begins
abbrev pub begun_with : Job → TreeState
begun_with (job.Open mode) = record { job = job.Open mode; count = 0; place = Walking (walk.Path 0 0) }
begun_with job.Find = record { job = job.Find; count = 0; place = Walking (walk.Path 0 0) }
begun_with other = record { job = other; count = 0; place = Walking walk.Magic }

-- each byte is one
abbrev pub AreSmall : Memory → Type 0
AreSmall m = ((at : ℕ) → m.disk at < 256) × ((at : ℕ) → m.page at < 256)

-- a disk of so many blocks, without a fault
pub record IsSound (count : ℕ) (m : Memory) : Type 0 where
  pub disk : IsDiskImage (BLKSIZE * count) m.disk
  pub count_is : block_count m.disk ≡ count
  pub small : AreSmall m

-- What a job has done when it ends: its answer is the act's, what it has stored is what the act stores, what it hands back stands at the
-- begin of the page, and the rest of the page is as it was.
pub record HasActed (is_open : List ℕ → Bool) (act : FileAct) (before : Memory) (answer : ℕ) (after : Memory) : Type 0 where
  pub answer_is : answer ≡ (plan_of is_open before.disk act).answer
  pub disk : after.disk ≡ written (puts_of is_open before.disk act) before.disk
  pub bytes : (k : ℕ) → k < length (plan_of is_open before.disk act).bytes → after.page k ≡ slice_index (plan_of is_open before.disk act).bytes k
  pub rest : (k : ℕ) → length (plan_of is_open before.disk act).bytes ≤ k → after.page k ≡ before.page k

-- From here what is left of a job ends as the act does that began over another memory, in so few steps, and in so few calls.
pub record IsOnItsWay (count : ℕ) (is_open : List ℕ → Bool) (act : FileAct) (before : Memory) (state : TreeState) (m : Memory) : Type 0 where
  pub left : ℕ
  pub soon : left ≤ job_steps_max count
  pub answer : ℕ
  pub after : Memory
  pub ends : Ends count answer after left state m
  pub few : calls_of None ends ≤ act_calls_max act count
  pub acted : HasActed is_open act before answer after

-- Each job ends, and does what its act does.
abbrev pub JobsAreActs : Type 0
JobsAreActs = (count : ℕ) (is_open : List ℕ → Bool) (act : FileAct) (j : Job) (m : Memory) → IsSound count m → IsJobOf is_open m act j →
    IsOnItsWay count is_open act m (begun_with j) m

-- where a path leads, for one who opens or removes a file: the place of the file's record, or the error
abbrev pub found_place : (ℕ → ℕ) → Led → ℕ
found_place byte too_long = negated E_BAD_PATH
found_place byte astray = negated E_NOT_FOUND
found_place byte (no_record directory name) = negated E_NOT_FOUND
found_place byte (a_record place way) = if is_directory_at byte place then negated E_INVAL else place

-- A path that is looked up answers where the record stands, and changes nothing; and it does so soon.
abbrev pub FindsAreLooks : Type 0
FindsAreLooks = (count : ℕ) (path : List ℕ) (m : Memory) → IsSound count m → HasPath m.page path →
    (n : ℕ) × (n ≤ job_steps_max count)
    × (ends : Ends count (found_place m.disk (led_to m.disk path)) m n (begun_with job.Find) m) × (calls_of None ends ≤ find_calls_max count)

-- The size of a file, whose record stands at its way, is told, and nothing is changed; and it is so soon.
abbrev pub SizesAreTold : Type 0
SizesAreTold = (count : ℕ) (way : List ℕ) (home : ℕ) (m : Memory) → IsSound count m → place_at m.disk way ≡ Some home →
    is_directory_at m.disk home ≡ false →
    (n : ℕ) × (n ≤ job_steps_max count)
    × (ends : Ends count (file_size (file_system_of m.disk) way) m n (begun_with (job.Size home)) m) × (calls_of None ends ≤ size_calls_max)

-- Over a disk without a fault an open that answers 0 leaves a disk on which its path leads to a file, and the tree of this disk names the same.
abbrev pub OpensAreFound : Type 0
OpensAreFound = (count : ℕ) (is_open : List ℕ → Bool) (path : List ℕ) (mode : ℕ) (m : Memory) → IsSound count m → HasPath m.page path →
    (plan_of is_open m.disk (open_path path mode)).answer ≡ 0 →
    let after = written (puts_of is_open m.disk (open_path path mode)) m.disk in
    (home : ℕ) × (way : List ℕ) × (led_to after path ≡ a_record home way) × (is_directory_at after home ≡ false)
    × (file_named (file_system_of after) path ≡ Some way)

-- A job that is on its way makes a lawful step: its numbers are small, and what it asks lies inside. Where it goes on it is still on its way,
-- with one step fewer to come, and its calls fewer; where it answers, it has acted.
abbrev pub StaysOnItsWay : (count : ℕ) (is_open : List ℕ → Bool) (act : FileAct) (before : Memory) (state : TreeState) (m : Memory) →
    IsOnItsWay count is_open act before state m → Type 0
StaysOnItsWay count is_open act before state m way =
    (is_bounded state ≡ true) × IsInside count (ask_at state)
    × ((next : TreeState) → next_at state (reply_of (ask_at state) m) ≡ GoOn next →
    (further : IsOnItsWay count is_open act before next (memory_after (ask_at state) m)) × (suc further.left ≡ way.left)
    × FewerCalls (ask_at state) (λ found. calls_of found way.ends) (λ found. calls_of found further.ends))
    × ((answer : ℕ) → next_at state (reply_of (ask_at state) m) ≡ Answer answer → HasActed is_open act before answer (memory_after (ask_at state) m))

abbrev pub WaysGoOn : Type 0
WaysGoOn = (count : ℕ) (is_open : List ℕ → Bool) (act : FileAct) (before : Memory) (state : TreeState) (m : Memory)
    (way : IsOnItsWay count is_open act before state m) → StaysOnItsWay count is_open act before state m way

-- From here a path is looked up, or a size is told: that ends with this answer, and leaves this, in so few steps, and in at most so many calls.
pub record IsRunning (most count answer : ℕ) (after : Memory) (state : TreeState) (m : Memory) : Type 0 where
  pub left : ℕ
  pub soon : left ≤ job_steps_max count
  pub ends : Ends count answer after left state m
  pub few : calls_of None ends ≤ most

-- Such a job makes a lawful step too. Where it goes on it still runs towards this end, with one step fewer to come, and its calls fewer; where it
-- answers, this is the answer, and what it was to leave is what stands there.
abbrev pub StaysRunning : (most count answer : ℕ) (after : Memory) (state : TreeState) (m : Memory) →
    IsRunning most count answer after state m → Type 0
StaysRunning most count answer after state m run =
    (is_bounded state ≡ true) × IsInside count (ask_at state)
    × ((next : TreeState) → next_at state (reply_of (ask_at state) m) ≡ GoOn next →
    (further : IsRunning most count answer after next (memory_after (ask_at state) m)) × (suc further.left ≡ run.left)
    × FewerCalls (ask_at state) (λ found. calls_of found run.ends) (λ found. calls_of found further.ends))
    × ((word : ℕ) → next_at state (reply_of (ask_at state) m) ≡ Answer word → (word ≡ answer) × (memory_after (ask_at state) m ≡ after))

abbrev pub RunsGoOn : Type 0
RunsGoOn = (most count answer : ℕ) (after : Memory) (state : TreeState) (m : Memory) (run : IsRunning most count answer after state m) →
    StaysRunning most count answer after state m run

-- Whatever word a job reads at a record, its calls are left out of those that were left behind it; where a change of the record's blocks begins, that
-- adds what it weighs.
abbrev pub CallsAreLeft : Type 0
CallsAreLeft = (count : ℕ) (state : TreeState) (word : ℕ) → is_changing state.place ≡ true → is_bounded state ≡ true → IsInside count (ask_at state) →
    (ask_calls (ask_at state) ≤ calls_left state + weight state)
    × ((next : TreeState) → next_at state word ≡ GoOn next → calls_left next + ask_calls (ask_at state) ≤ calls_left state + weight state)
