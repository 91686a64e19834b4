-- How few calls the file server makes, once it has a request, up to its act, where no page is refused on the way: 65,504, and 8,192 for each block of
-- the disk. What is left is told by where it stands, by the calls that are left of the job or of the flush that it runs, and by where its cache
-- stands. Each hidden step lowers that; behind a look at a place of the table, which is seen, it may be as many again.
use Rattle.std.specs.Prelude.{◌≡◌, ◌≢◌, ◌<◌, ◌≤◌, ◌⊎◌, ℕ, ◌+◌, ◌-◌, ◌*◌, ◌^◌, true, Option, Some, None, if◌then◌else◌}
use Rattle.jos_host.specs.Files.{Files}
use Rattle.jos_host.specs.Frames.{Around, from_to}
use Rattle.jos_base.specs.KernelState.{KernelState}
use Rattle.lib_os.specs.declared.numbers.TheConstants.{MAXOPEN}
use Rattle.lib_os.specs.declared.progress.Progress.{Progress}
use Rattle.lib_os.specs.declared.progress.Progress.TheVariants as progress
use Rattle.lib_os.specs.declared.request.RequestKind.{RequestKind}
use Rattle.lib_os.specs.AbstractState.{AbstractState, idle}
use Rattle.lib_os.specs.Disk.{Disk, DiskFile, disk_in}
use Rattle.lib_os.specs.FileServer.{server_step}
use Rattle.lib_os.specs.InOrder.{IsInOrder}
use Rattle.lib_os.specs.MadeCalls.{MakesServersCall}
use Rattle.lib_os.specs.UserCalls.{Output}
use Rattle.fs_blocks.specs.declared.place.CachePlace.{CachePlace}
use Rattle.fs_blocks.specs.declared.place.CachePlace.TheVariants as cache
use Rattle.fs_blocks.specs.CachePlans.{flushing}
use Rattle.fs_cache.specs.CacheSteps.{WasRefused, cache_state, flush_calls, row_in}
use Rattle.fs_jobs.specs.declared.asks.TreeAsk.{TreeAsk}
use Rattle.fs_jobs.specs.declared.asks.TreeAsk.TheVariants as ask
use Rattle.fs_jobs.specs.declared.place.TreeState.{TreeState}
use Rattle.fs_runs.specs.TreePlans.{ask_at}
use Rattle.fs_runs.specs.TreeRuns.{Ends, Memory, calls_of}
use Rattle.fs_tree.specs.TreeSteps.{AccessReady, access_calls, block_wanted, job_in, memory_in}
use Rattle.fs_requests.specs.declared.state.ServerStep.{ServerStep}
use Rattle.fs_requests.specs.declared.state.ServerStep.TheVariants as step
use Rattle.fs_requests.specs.ServerPlans.{opens}
use Rattle.fs_serving.specs.ServerRuns.{job_calls_max}
use Rattle.fs_server.specs.ServerSteps.{HasFlushed, HasWorked, server_at}
use Rattle.fs_seen.specs.ServerOthers.{LeavesBytes}
use Rattle.fs_seen.specs.ServerSees.{AllStands, HasCalledAt, is_working, makes_call}
use Rattle.fs_seen.specs.ServerWhole.{IsServing}

-- ---- a job

-- the block that the cache found last
abbrev pub found_in : CachePlace → Option ℕ
found_in (cache.Found block) = Some block
found_in place = None

-- or finds before this is done
abbrev pub found_for : TreeAsk → CachePlace → Option ℕ
found_for (ask.Load at) place = Some (block_wanted at)
found_for (ask.LoadByte at) place = Some (block_wanted at)
found_for (ask.Store at word) place = Some (block_wanted at)
found_for (ask.StoreByte at byte) place = Some (block_wanted at)
found_for (ask.Request at) place = found_in place
found_for (ask.HandBack at byte) place = found_in place

-- From here the job ends; its calls are these, by the block that was found last, and so many at most.
pub record RunsInFew (most count : ℕ) (job : TreeState) (m : Memory) (calls : Option ℕ → ℕ) : Type 0 where
  pub left : ℕ
  pub answer : ℕ
  pub after : Memory
  pub ends : Ends count answer after left job m
  pub calls_are : (found : Option ℕ) → calls found ≡ calls_of found ends
  pub few : calls None ≤ most

-- where one is under way
abbrev pub JobInFew : ServerStep → Option RequestKind → ℕ → TreeState → Memory → (Option ℕ → ℕ) → Type 0
JobInFew step.Working kind count job m calls = RunsInFew (job_calls_max step.Working kind count) count job m calls
JobInFew step.Finding kind count job m calls = RunsInFew (job_calls_max step.Finding kind count) count job m calls
JobInFew step.Sizing kind count job m calls = RunsInFew (job_calls_max step.Sizing kind count) count job m calls
JobInFew _ kind count job m calls = Unit {0}

-- over the cache: the calls for the block that is wanted, and those of the job behind that
abbrev pub work_calls : (Option ℕ → ℕ) → KernelState → ℕ → ℕ
work_calls calls s n =
    let it = ask_at (job_in s n) in let place = (cache_state s n).place in access_calls it place + calls (found_for it place)

-- Of a job no fetch is under way but of the block that it wants.
abbrev pub JobReady : ServerStep → KernelState → ℕ → Type 0
JobReady step.Working s n = AccessReady (ask_at (job_in s n)) (cache_state s n).place
JobReady step.Finding s n = AccessReady (ask_at (job_in s n)) (cache_state s n).place
JobReady step.Sizing s n = AccessReady (ask_at (job_in s n)) (cache_state s n).place
JobReady _ s n = Unit {0}

-- ---- the number

abbrev pub server_calls_max : ℕ → ℕ
server_calls_max count = 2 ^ 13 * count + 65504

-- From a step on, where so many calls are left of a job, or of a flush. What is opened is looked up behind its job, and then asked for its size; what
-- is removed is looked up before its job, and behind that it may be looked for at each place of the table.
abbrev pub calls_over : ℕ → ServerStep → Option RequestKind → ℕ → ℕ → ℕ → ℕ
calls_over count step.ReadingKind kind number work flush = 2 ^ 13 * count + 65504
calls_over count step.ReadingClient kind number work flush = 2 ^ 13 * count + 65503
calls_over count step.LookingRecord kind number work flush = 2 ^ 13 * count + 65502
calls_over count step.LookingEntry kind number work flush = 2 ^ 13 * count + 65501
calls_over count step.LookingHolders kind number work flush = 2 ^ 13 * count + 65500
calls_over count step.ReadingFile kind number work flush = 2 ^ 13 * count + 65019
calls_over count step.ReadingOffset kind number work flush = 2 ^ 13 * count + 65018
calls_over count step.ReadingCount kind number work flush = 2 ^ 13 * count + 65017
calls_over count step.ReadingRecord kind number work flush = 2 ^ 13 * count + 65016
calls_over count step.TakingPage kind number work flush = 2 ^ 13 * count + 65302
calls_over count step.ReadingMode kind number work flush = 2 ^ 13 * count + 65301
calls_over count step.Working kind number work flush = if opens kind then 2 ^ 12 * count + 6290 + work else 10 + work
calls_over count step.Finding kind number work flush = if opens kind then 60 + work else 2 ^ 12 * count + 58200 + work
calls_over count step.CheckingRecord kind number work flush = 2 ^ 12 * count + 55022 + 3 * (MAXOPEN - number)
calls_over count step.CheckingEntry kind number work flush = 2 ^ 12 * count + 55021 + 3 * (MAXOPEN - number)
calls_over count step.CheckingHolders kind number work flush = 2 ^ 12 * count + 55020 + 3 * (MAXOPEN - number)
calls_over count step.StoringRecord kind number work flush = 55
calls_over count step.StoringDevice kind number work flush = 54
calls_over count step.ReadingModeAgain kind number work flush = 53
calls_over count step.StoringMode kind number work flush = 52
calls_over count step.StoringFile kind number work flush = 51
calls_over count step.ReadingRecordAgain kind number work flush = 50
calls_over count step.Sizing kind number work flush = 10 + work
calls_over count step.StoringSize kind number work flush = 2
calls_over count step.Advancing kind number work flush = 2
calls_over count step.StoringOffset kind number work flush = 1
calls_over count step.Flushing kind number work flush = 2 + flush
calls_over count step.Acting kind number work flush = 1
calls_over count _ kind number work flush = 0

-- where it stands over the kernel
abbrev pub calls_in : ℕ → (Option ℕ → ℕ) → KernelState → ℕ → ℕ
calls_in count calls s n =
    let state = server_at s n in
    calls_over count state.step state.kind state.number (work_calls calls s n) (flush_calls (flushing (cache_state s n).place) (row_in s n))

-- It serves so, and makes its act within so many calls, where no page is refused.
pub record ActsInFew (most : ℕ) (d : Disk) (s : KernelState) (n : ℕ) (a : AbstractState) : Type 0 where
  pub serving : IsServing d s n a
  pub ready : JobReady (server_at s n).step s n
  pub calls : Option ℕ → ℕ
  pub runs : JobInFew (server_at s n).step (server_at s n).kind d.count (job_in s n) (memory_in d s n) calls
  pub within : calls_in d.count calls s n ≤ most

-- ---- the laws

-- Behind a hidden step it makes its act within fewer; behind one that is seen within as many as a whole request takes.
abbrev pub Fewer : ℕ → Progress → Disk → KernelState → AbstractState → Type 0
Fewer most progress.Hidden e after a = (fewer : ℕ) × (fewer < most) × ActsInFew fewer e after 0 a
Fewer most progress.Visible e after a = (b : AbstractState) × (server_step a ≡ Some b) × ActsInFew (server_calls_max e.count) e after 0 b
Fewer most _ e after a = ⊥

-- So few they are where it has a request, which it is about to read.
abbrev pub RequestsTakeFew : Type 0
RequestsTakeFew = (a : AbstractState) (d : Disk) (s : KernelState) → IsServing d s 0 a → a.server ≢ idle →
    (server_at s 0).step ≡ step.ReadingKind → ActsInFew (server_calls_max d.count) d s 0 a

-- A call of its own lowers the number, where no page was refused,
abbrev pub CallsTakeFew : Type 0
CallsTakeFew = (most : ℕ) (a : AbstractState) (d : Disk) (s after : KernelState) (output : Output) (done : Progress) →
    makes_call (server_at s 0).step ≡ true → AllStands d s 0 → ActsInFew most d s 0 a → a.server ≢ idle → IsInOrder after →
    HasCalledAt s after 0 output done → Fewer most done d after a ⊎ WasRefused s after

-- and so does a step of its job on files,
abbrev pub JobsTakeFew : Type 0
JobsTakeFew = (most : ℕ) (a : AbstractState) (disk : DiskFile) (before now : Files) (s after : KernelState) (files : Around (Option Files))
    (output : Output) (done : Progress) →
    is_working (server_at s 0).step ≡ true → AllStands (disk_in before disk) s 0 → ActsInFew most (disk_in before disk) s 0 a → a.server ≢ idle →
    IsInOrder after → files.before ≡ Some before → files.after ≡ Some now → MakesServersCall (from_to s after) 0 disk files output →
    HasWorked (server_at s 0) disk before now s after 0 done → Fewer most done (disk_in now disk) after a ⊎ WasRefused s after

-- and one of a flush.
abbrev pub FlushesTakeFew : Type 0
FlushesTakeFew = (most : ℕ) (a : AbstractState) (disk : DiskFile) (before : Files) (s after : KernelState) (files : Around (Option Files))
    (output : Output) (done : Progress) → (server_at s 0).step ≡ step.Flushing →
    AllStands (disk_in before disk) s 0 → ActsInFew most (disk_in before disk) s 0 a → a.server ≢ idle → IsInOrder after →
    files.before ≡ Some before → HasFlushed (server_at s 0) disk s after 0 files output done →
    (now : Files) × (files.after ≡ Some now) × Fewer most done (disk_in now disk) after a

-- Another's step raises it not: where the server's slot, its entries and the bytes of its pages are left, and it serves on, it makes its act within
-- as many.
abbrev pub OthersLeaveFew : Type 0
OthersLeaveFew = (most : ℕ) (a b : AbstractState) (d : Disk) (s after : KernelState) → ActsInFew most d s 0 a → a.server ≢ idle →
    IsInOrder after → LeavesBytes a.server s after 0 → IsServing d after 0 b → ActsInFew most d after 0 b
