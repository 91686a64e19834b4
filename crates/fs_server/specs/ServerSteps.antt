-- A step of the file server: one call of the kernel, or a step of the job on files or of a flush, which are one call each; and where the server
-- goes by what came of it.
use Rattle.std.specs.Prelude.{◌≡◌, ℕ, List, [], Option, Some, None, Result, Ok, Err}
use Rattle.jos_host.specs.declared.host.Failed.{Failed}
use Rattle.jos_host.specs.Files.{Files}
use Rattle.jos_host.specs.Frames.{Around, from_to}
use Rattle.jos_base.specs.declared.called.Called.{Called}
use Rattle.jos_base.specs.declared.registers.Regs.{Regs}
use Rattle.jos_base.specs.KernelState.{KernelState, slot_at, with_extra, with_registers}
use Rattle.lib_os.specs.declared.progress.Progress.{Progress}
use Rattle.lib_os.specs.declared.progress.Progress.TheVariants as progress
use Rattle.lib_os.specs.declared.user_os.Stop.{Stop}
use Rattle.lib_os.specs.declared.user_os.Stop.TheVariants as stop
use Rattle.lib_os.specs.Disk.{DiskFile, disk_in}
use Rattle.lib_os.specs.LibrarySteps.{IsStopped}
use Rattle.lib_os.specs.UserCalls as user
use Rattle.lib_os.specs.UserCalls.{IsCallStep, IsStep, Output, Prints, PrintsPart, answer_of}
use Rattle.fs_cache.specs.declared.steps.Flushed.{Flushed}
use Rattle.fs_cache.specs.declared.steps.Flushed.TheVariants as flushed
use Rattle.fs_cache.specs.CacheSteps.{FlushTold, IsFlushStep, KeepsCache, caller}
use Rattle.fs_jobs.specs.declared.place.Job.{Job}
use Rattle.fs_places.specs.TreePlaces as places
use Rattle.fs_runs.specs.TreeRuns.{begun_with}
use Rattle.fs_tree.specs.declared.steps.Acted.TheVariants as acted
use Rattle.fs_tree.specs.TreeMakes.{IsTreeStep}
use Rattle.fs_runs.specs.TreePlans as tree
use Rattle.fs_tree.specs.TreeSteps.{HasStepped, IsLawful, TreeAt, job_in}
use Rattle.fs_requests.specs.declared.plan.ServerAsk.{ServerAsk}
use Rattle.fs_requests.specs.declared.plan.ServerAsk.TheVariants as ask
use Rattle.fs_requests.specs.declared.plan.ServerCall.{ServerCall}
use Rattle.fs_requests.specs.declared.plan.ServerCall.TheVariants as call
use Rattle.fs_requests.specs.declared.plan.ServerNext.{ServerNext}
use Rattle.fs_requests.specs.declared.state.ServerState.{ServerState}
use Rattle.fs_requests.specs.ServerPlans.{ask_at, next_at}
use Rattle.fs_requests.specs.ServerWords.{registers_with, server_in, words_with}

-- ---- where it stands

abbrev pub server_at : KernelState → ℕ → ServerState
server_at s n = server_in (slot_at s n).registers (slot_at s n).extra

-- the registers and words with a job that begins, if one does
abbrev pub registers_begun : Option Job → Regs → Regs
registers_begun None regs = regs
registers_begun (Some job) regs = places.registers_with regs (begun_with job)

abbrev pub words_begun : Option Job → List ℕ → List ℕ
words_begun None words = words
words_begun (Some job) words = places.words_with words (begun_with job)

-- the state in which it goes on so
unfoldable pub gone_on : KernelState → ℕ → ServerNext → KernelState
gone_on s n next =
    let slot = slot_at s n in
    with_extra (with_registers s n (registers_begun next.begins (registers_with slot.registers next.state))) n
    (words_begun next.begins (words_with slot.extra next.state))

-- ---- a call of the kernel

-- A word comes of it, or it is stopped by a fault. A system call is answered.
abbrev pub IsReply : ServerCall → KernelState → ℕ → Result ℕ Stop → KernelState → Output → Type 0
IsReply (call.Load va) s n result after output = IsStep (user.load s n va) result after output
IsReply (call.Store va word) s n (Ok reply) after output = (reply ≡ 0) × IsStep (user.store s n va word) (Ok tt) after output
IsReply (call.Store va word) s n (Err why) after output = IsStep (user.store s n va word) (Err why) after output
IsReply (call.System number args) s n (Ok word) after output =
    (called : Called) × (word ≡ answer_of called) × IsCallStep (user.system s n number args) (Ok called) after output
IsReply (call.System number args) s n (Err _) after output = ⊥

-- The server has gone on by the word; or it was stopped.
pub data HasCalled (it : ServerCall) (state : ServerState) (s after : KernelState) (n : ℕ) (output : Output) : Progress → Type 0 where
  by_word : (word : ℕ) (mid : KernelState) → IsReply it s n (Ok word) mid output → after ≡ gone_on mid n (next_at state word) →
      HasCalled it state s after n output (next_at state word).seen
  was_stopped : (why : Stop) (done : Progress) → IsReply it s n (Err why) after output → IsStopped why (Ok done) → HasCalled it state s after n output done

abbrev pub IsCalled : ServerCall → ServerState → Result Progress Failed → ℕ → Around KernelState → Output → Type 0
IsCalled it state (Ok done) n states output = HasCalled it state states.before states.after n output done
IsCalled it state (Err _) n states output = IsReply it states.before n (Err stop.Failed) states.after output

-- ---- a step of the job on files

-- The job goes on; or it has answered, and the server goes on by that. Its step is one of the job's calls (`fs_tree`).
pub data HasWorked (state : ServerState) (disk : DiskFile) (before now : Files) (s after : KernelState) (n : ℕ) : Progress → Type 0 where
  goes : HasStepped (disk_in before disk) (disk_in now disk) s after n acted.Going →
      IsTreeStep (tree.ask_at (job_in s n)) disk before now s after n →
      HasWorked state disk before now s after n progress.Hidden
  answers : (word : ℕ) (mid : KernelState) → HasStepped (disk_in before disk) (disk_in now disk) s mid n (acted.Answer word) →
      IsTreeStep (tree.ask_at (job_in s n)) disk before now s mid n → after ≡ gone_on mid n (next_at state word) →
      HasWorked state disk before now s after n (next_at state word).seen

abbrev pub WorksWhereTold : ServerState → Result Progress Failed → DiskFile → ℕ → Around KernelState → Around (Option Files) → Type 0
WorksWhereTold state (Ok done) disk n states files =
    (before : Files) → files.before ≡ Some before → TreeAt (disk_in before disk) states.before n → IsLawful (disk_in before disk) states.before n →
    (after : Files) × (files.after ≡ Some after) × HasWorked state disk before after states.before states.after n done
WorksWhereTold state (Err _) disk n states files = Unit {0}

-- Where the host tells its files, the job's next step is lawful, and all stands, nothing is printed, whether or not the host fails.
abbrev pub WorksQuietly : Result Progress Failed → DiskFile → ℕ → KernelState → Option Files → Output → Type 0
WorksQuietly (Ok done) disk n s files output =
    (before : Files) → files ≡ Some before → TreeAt (disk_in before disk) s n → IsLawful (disk_in before disk) s n → Prints output []
WorksQuietly (Err _) disk n s files output =
    (before : Files) → files ≡ Some before → TreeAt (disk_in before disk) s n → IsLawful (disk_in before disk) s n → PrintsPart output []

-- ---- a step of a flush

-- what is told of a step that comes to this state, and what stays
pub record Flushes (done : Flushed) (disk : DiskFile) (n : ℕ) (s after : KernelState) (files : Around (Option Files)) (output : Output) : Type 0 where
  pub made : IsFlushStep (caller s n disk) (Ok done) files after output
  pub cache : KeepsCache disk n (from_to s after) files
  pub tells : FlushTold (Ok done) disk n (from_to s after) files.before

-- The flush goes on; or no page is dirty, and the server goes on.
pub data HasFlushed (state : ServerState) (disk : DiskFile) (s after : KernelState) (n : ℕ) (files : Around (Option Files)) (output : Output)
    : Progress → Type 0 where
  goes : Flushes flushed.Going disk n s after files output → HasFlushed state disk s after n files output progress.Hidden
  ends : (mid : KernelState) → Flushes flushed.Clean disk n s mid files output → after ≡ gone_on mid n (next_at state 0) →
      HasFlushed state disk s after n files output (next_at state 0).seen

abbrev pub IsFlushed : ServerState → Result Progress Failed → DiskFile → ℕ → Around KernelState → Around (Option Files) → Output → Type 0
IsFlushed state (Ok done) disk n states files output = HasFlushed state disk states.before states.after n files output done
IsFlushed state (Err failed) disk n states files output =
    IsFlushStep (caller states.before n disk) (Err failed) files states.after output

-- ---- a step

abbrev pub ServesBy : ServerAsk → ServerState → Result Progress Failed → DiskFile → ℕ → Around KernelState → Around (Option Files) → Output → Type 0
ServesBy (ask.Call it) state result disk n states files output = IsCalled it state result n states output × (files.after ≡ files.before)
ServesBy ask.Work state result disk n states files output =
    WorksWhereTold state result disk n states files × WorksQuietly result disk n states.before files.before output
ServesBy ask.Flush state result disk n states files output = IsFlushed state result disk n states files output

abbrev pub Serves : Result Progress Failed → DiskFile → ℕ → Around KernelState → Around (Option Files) → Output → Type 0
Serves result disk n states files output =
    let state = server_at states.before n in ServesBy (ask_at state) state result disk n states files output
