-- How soon the file server, once it has a request, makes its act: by where it stands, what is left of the job that it runs, and what its cache has
-- under way, a number tells how many of its own steps may come. Each of its steps lowers that, where no page was refused.
use Rattle.std.specs.Prelude.{◌≡◌, ◌≢◌, ◌<◌, ◌≤◌, ◌⊎◌, ℕ, ◌+◌, ◌-◌, ◌*◌, nat_lt, true, Option, Some, if◌then◌else◌}
use Rattle.jos_host.specs.Files.{Files}
use Rattle.jos_host.specs.Frames.{Around, from_to}
use Rattle.jos_base.specs.KernelState.{KernelState}
use Rattle.lib_os.specs.declared.numbers.TheConstants.{MAXOPEN}
use Rattle.lib_os.specs.declared.progress.Progress.{Progress}
use Rattle.lib_os.specs.declared.progress.Progress.TheVariants as progress
use Rattle.lib_os.specs.declared.request.RequestKind.{RequestKind}
use Rattle.lib_os.specs.AbstractState.{AbstractState, idle}
use Rattle.lib_os.specs.Disk.{Disk, DiskFile, disk_in}
use Rattle.lib_os.specs.FileServer.{server_step}
use Rattle.lib_os.specs.InOrder.{IsInOrder}
use Rattle.lib_os.specs.MadeCalls.{MakesServersCall}
use Rattle.lib_os.specs.UserCalls.{Output}
use Rattle.fs_layout.specs.declared.numbers.TheConstants.{MAXBLOCKS}
use Rattle.fs_cache.specs.CacheSteps.{FLUSH_STEPS_MAX, WAIT_STEPS_MAX, cache_state, flush_left, left_in, steps_of_round, steps_to_begin}
use Rattle.fs_jobs.specs.declared.place.TreeState.{TreeState}
use Rattle.fs_runs.specs.JobCalls.{job_steps_max}
use Rattle.fs_runs.specs.TreePlans.{ask_at}
use Rattle.fs_runs.specs.TreeRuns.{Ends, Memory}
use Rattle.fs_tree.specs.TreeSteps.{access_left, job_in, memory_in}
use Rattle.fs_requests.specs.declared.state.ServerStep.{ServerStep}
use Rattle.fs_requests.specs.declared.state.ServerStep.TheVariants as step
use Rattle.fs_requests.specs.ServerPlans.{opens}
use Rattle.fs_server.specs.ServerSteps.{HasFlushed, HasWorked, server_at}
use Rattle.fs_seen.specs.BlockSteps.{LacksBlock}
use Rattle.fs_seen.specs.ServerSees.{AllStands, HasCalledAt, LacksPage, is_working, makes_call}
use Rattle.fs_seen.specs.ServerWhole.{IsServing}

-- ---- what is left of a job

-- more than a job ever makes, over any disk
abbrev pub JOB_STEPS_MAX : ℕ
JOB_STEPS_MAX = job_steps_max MAXBLOCKS

-- From here the job ends, in so many steps, which are few.
pub record RunsFor (count : ℕ) (job : TreeState) (m : Memory) (left : ℕ) : Type 0 where
  pub soon : left ≤ job_steps_max count
  pub answer : ℕ
  pub after : Memory
  pub ends : Ends count answer after left job m

-- where one is under way
abbrev pub JobLeft : ServerStep → ℕ → TreeState → Memory → ℕ → Type 0
JobLeft step.Working count job m left = RunsFor count job m left
JobLeft step.Finding count job m left = RunsFor count job m left
JobLeft step.Sizing count job m left = RunsFor count job m left
JobLeft _ count job m left = Unit {0}

-- ---- the number

-- so many, or the most
abbrev pub capped : ℕ → ℕ → ℕ
capped most left = if nat_lt left most then left else most

-- One step of a job: where it has used a page, more is held back for that, and another block may be wanted.
abbrev pub ACCESS_STEPS_MAX : ℕ
ACCESS_STEPS_MAX = steps_of_round + steps_to_begin + 1

abbrev pub work_left : ℕ → KernelState → ℕ → ℕ
work_left left s n = left * ACCESS_STEPS_MAX + capped WAIT_STEPS_MAX (access_left (ask_at (job_in s n)) s n)

abbrev pub flushes_left : KernelState → ℕ → ℕ
flushes_left s n = capped FLUSH_STEPS_MAX (left_in flush_left (cache_state s n).place s n)

-- more than a job, or a flush, ever takes
abbrev pub WORK_STEPS_MAX : ℕ
WORK_STEPS_MAX = JOB_STEPS_MAX * ACCESS_STEPS_MAX + WAIT_STEPS_MAX + FLUSH_STEPS_MAX + 1

-- from a step on, where what is under way has so much left, and nothing else of the kind takes as long as this: a place of the table takes three
-- steps at most; what is opened is a job, which is looked up behind that by another and asked for its size by a third; what is
-- removed is looked up first
abbrev pub left_over : ℕ → ServerStep → Option RequestKind → ℕ → ℕ → ℕ → ℕ
left_over long step.ReadingKind kind number work flush = 3 * long + 10001
left_over long step.ReadingClient kind number work flush = 3 * long + 10000
left_over long step.ReadingFile kind number work flush = 2 * long + 43
left_over long step.ReadingOffset kind number work flush = 2 * long + 42
left_over long step.ReadingCount kind number work flush = 2 * long + 41
left_over long step.ReadingRecord kind number work flush = 2 * long + 40
left_over long step.LookingRecord kind number work flush = 3 * long + 62 + 3 * (MAXOPEN - number)
left_over long step.LookingEntry kind number work flush = 3 * long + 61 + 3 * (MAXOPEN - number)
left_over long step.LookingHolders kind number work flush = 3 * long + 60 + 3 * (MAXOPEN - number)
left_over long step.TakingPage kind number work flush = 3 * long + 51
left_over long step.ReadingMode kind number work flush = 3 * long + 50
left_over long step.Working kind number work flush = if opens kind then 2 * long + 40 + work else 10 + work
left_over long step.Finding kind number work flush = if opens kind then long + 20 + work else 2 * long + 5000 + work
left_over long step.StoringRecord kind number work flush = long + 10
left_over long step.StoringDevice kind number work flush = long + 9
left_over long step.ReadingModeAgain kind number work flush = long + 8
left_over long step.StoringMode kind number work flush = long + 7
left_over long step.StoringFile kind number work flush = long + 6
left_over long step.ReadingRecordAgain kind number work flush = long + 5
left_over long step.Sizing kind number work flush = 4 + work
left_over long step.StoringSize kind number work flush = 2
left_over long step.Advancing kind number work flush = 2
left_over long step.StoringOffset kind number work flush = 1
left_over long step.CheckingRecord kind number work flush = 2 * long + 22 + 3 * (MAXOPEN - number)
left_over long step.CheckingEntry kind number work flush = 2 * long + 21 + 3 * (MAXOPEN - number)
left_over long step.CheckingHolders kind number work flush = 2 * long + 20 + 3 * (MAXOPEN - number)
left_over long step.Flushing kind number work flush = 2 + flush
left_over long step.Acting kind number work flush = 1
left_over long _ kind number work flush = 0

-- where it stands over the kernel, and so much is left of its job
abbrev pub number_in : ℕ → KernelState → ℕ → ℕ
number_in left s n =
    let state = server_at s n in left_over WORK_STEPS_MAX state.step state.kind state.number (work_left left s n) (flushes_left s n)

-- It serves so, and makes its act within so many of its own steps.
pub record ActsWithin (most : ℕ) (d : Disk) (s : KernelState) (n : ℕ) (a : AbstractState) : Type 0 where
  pub serving : IsServing d s n a
  pub left : ℕ
  pub runs : JobLeft (server_at s n).step d.count (job_in s n) (memory_in d s n) left
  pub within : number_in left s n ≤ most

-- a whole request (less than 2 ^ 53)
abbrev pub SERVER_STEPS_MAX : ℕ
SERVER_STEPS_MAX = 3 * WORK_STEPS_MAX + 10001

-- ---- the laws

-- Behind a step it serves on, and makes its act within fewer.
abbrev pub Sooner : ℕ → Progress → Disk → KernelState → AbstractState → Type 0
Sooner most progress.Hidden e after a = (fewer : ℕ) × (fewer < most) × ActsWithin fewer e after 0 a
Sooner most progress.Visible e after a =
    (b : AbstractState) × (server_step a ≡ Some b) × (fewer : ℕ) × (fewer < most) × ActsWithin fewer e after 0 b
Sooner most _ e after a = ⊥

-- While it is not idle there is such a number, which is small.
abbrev pub ServersActWithin : Type 0
ServersActWithin = (a : AbstractState) (d : Disk) (s : KernelState) → IsServing d s 0 a → a.server ≢ idle → ActsWithin SERVER_STEPS_MAX d s 0 a

-- A call of its own lowers it, where no page was refused,
abbrev pub CallsActSoon : Type 0
CallsActSoon = (most : ℕ) (a : AbstractState) (d : Disk) (s after : KernelState) (output : Output) (done : Progress) →
    makes_call (server_at s 0).step ≡ true → AllStands d s 0 → ActsWithin most d s 0 a → a.server ≢ idle → IsInOrder after →
    HasCalledAt s after 0 output done → Sooner most done d after a ⊎ (((server_at s 0).step ≡ step.TakingPage) × LacksPage d s after 0 done)

-- and so does a step of its job on files,
abbrev pub JobsActSoon : Type 0
JobsActSoon = (most : ℕ) (a : AbstractState) (disk : DiskFile) (before now : Files) (s after : KernelState) (files : Around (Option Files))
    (output : Output) (done : Progress) →
    is_working (server_at s 0).step ≡ true → AllStands (disk_in before disk) s 0 → ActsWithin most (disk_in before disk) s 0 a → a.server ≢ idle →
    IsInOrder after → files.before ≡ Some before → files.after ≡ Some now → MakesServersCall (from_to s after) 0 disk files output →
    HasWorked (server_at s 0) disk before now s after 0 done →
    Sooner most done (disk_in now disk) after a ⊎ LacksBlock (disk_in before disk) (disk_in now disk) s after 0 done

-- and one of a flush.
abbrev pub FlushesActSoon : Type 0
FlushesActSoon = (most : ℕ) (a : AbstractState) (disk : DiskFile) (before : Files) (s after : KernelState) (files : Around (Option Files))
    (output : Output) (done : Progress) → (server_at s 0).step ≡ step.Flushing →
    AllStands (disk_in before disk) s 0 → ActsWithin most (disk_in before disk) s 0 a → a.server ≢ idle → IsInOrder after →
    files.before ≡ Some before → HasFlushed (server_at s 0) disk s after 0 files output done →
    (now : Files) × (files.after ≡ Some now) × Sooner most done (disk_in now disk) after a
