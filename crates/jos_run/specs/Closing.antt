-- What is done behind the turns of a run: the file server alone goes on until its act is made, and then the blocks of its cache are written to the
-- disk.
use Rattle.std.specs.Prelude.{◌≡◌, ◌+◌, ◌-◌, ◌^◌, ◌<◌, ◌≤◌, ◌⊎◌, ◌&&◌, ℕ, min, Bool, false, true, not, List, [], length, Option, Some, None, Result, Ok, Err}
use Rattle.std.specs.Option.{ForSome}
use Rattle.jos_host.specs.declared.host.Failed.{Failed}
use Rattle.jos_host.specs.Frames.{Around}
use Rattle.jos_host.specs.Gains.{Gains}
use Rattle.jos_base.specs.KernelState.{KernelState}
use Rattle.jos_base.specs.Words.{is_exactly}
use Rattle.jos_kernel.specs.declared.report.Refusal.{Refusal}
use Rattle.jos_kernel.specs.declared.trace.TrapLine.{TrapLine}
use Rattle.jos_kernel.specs.Reports.{Reported, CutOff}
use Rattle.lib_os.specs.declared.progress.Progress.{Progress}
use Rattle.lib_os.specs.declared.progress.Progress.TheVariants as progress
use Rattle.lib_os.specs.AbstractState.{AbstractState}
use Rattle.lib_os.specs.BlockCache.{is_dirty}
use Rattle.lib_os.specs.Disk.{Disk}
use Rattle.lib_os.specs.FileServer.{server_step}
use Rattle.lib_os.specs.LibrarySteps.{NothingRefused}
use Rattle.lib_os.specs.Need.{EachHasUse}
use Rattle.fs_cache.specs.CacheStands.{filling_at}
use Rattle.fs_cache.specs.CacheSteps.{cache_state, row_in}
use Rattle.fs_serving.specs.ServerRuns.{is_acting}
use Rattle.fs_seen.specs.ServerSoon.{ActsWithin, SERVER_STEPS_MAX}
use Rattle.jos_run.specs.declared.closing.Closing.{Closing}
use Rattle.jos_run.specs.declared.closing.TheConstants.{CLOSING_MAX}
use Rattle.jos_run.specs.declared.programs.RunEnd.{RunEnd}
use Rattle.jos_run.specs.declared.programs.RunEnd.TheVariants.{Ended, HostFault}
use Rattle.jos_run.specs.AbstractTurns.{steps_taken}
use Rattle.jos_run.specs.RunReports.{LacksSpace}
use Rattle.jos_run.specs.RunSteps.{ClosingStep, CloseTo, IsWrittenBack, acts_in, closing_written}
use Rattle.jos_run.specs.Served.{Parts, kernel_state}
use Rattle.jos_run.specs.ServerStands.{StandsWhole}
use Rattle.jos_run.specs.Worlds.{World, beside}

-- ---- how soon it acts

-- The file server makes its act within so many of its own steps, over the disk that is told.
abbrev pub ActsWithinOver : Option Disk → ℕ → KernelState → AbstractState → Type 0
ActsWithinOver None most s a = ⊥
ActsWithinOver (Some d) most s a = ActsWithin most d s 0 a

-- Behind a step it makes it within fewer.
abbrev pub SoonerOver : ℕ → Progress → World → AbstractState → Type 0
SoonerOver most progress.Hidden after a = (fewer : ℕ) × (fewer < most) × ActsWithinOver after.disk fewer after.state a
SoonerOver most progress.Visible after a =
    (b : AbstractState) × (server_step a ≡ Some b) × (fewer : ℕ) × (fewer < most) × ActsWithinOver after.disk fewer after.state b
SoonerOver most _ after a = ⊥

-- So it is where it has a request whose act is not made, and nothing was refused.
abbrev pub ActsSooner : Result Progress Failed → World → World → Type 0
ActsSooner (Ok done) before after =
    acts_in before.state ≡ true → (a : AbstractState) → StandsWhole before a → NothingRefused before.state after.state → (most : ℕ) →
    ActsWithinOver before.disk most before.state a → SoonerOver most done after a
ActsSooner (Err _) before after = Unit {0}

-- While it acts, what may come with what was made is few.
abbrev pub StillSoon : ℕ → World → AbstractState → Type 0
StillSoon count w a =
    is_acting a.server ≡ true → (left : ℕ) × (left + count ≤ SERVER_STEPS_MAX) × ActsWithinOver w.disk left w.state a

-- ---- beside the abstract system

-- Nothing was refused yet: the kernel's state stands for an abstract one, and each frame that is handed out has a use.
pub record StandsQuietly (frames : ℕ) (w : World) (a : AbstractState) : Type 0 where
  pub stands : StandsWhole w a
  pub quiet : w.state.refusals ≡ 0
  pub frames_are : w.state.spaces.frames ≡ frames
  pub used : EachHasUse w.state.spaces

-- Behind so many closing steps the abstract system has made some of them, and was busy with a request before each. Nothing was printed.
pub record HasGoneOn (frames : ℕ) (begun : AbstractState) (count : ℕ) (w : World) : Type 0 where
  pub visible : ℕ
  pub now : AbstractState
  pub taken : steps_taken begun 0 visible ≡ Some now
  pub acting : (k : ℕ) → k < visible → ForSome (steps_taken begun 0 k) (λ c. is_acting c.server ≡ true)
  pub within : visible ≤ count
  pub some : 0 < count → is_acting begun.server ≡ true
  pub console : now.console ≡ begun.console
  pub stood : StandsQuietly frames w now
  pub soon : StillSoon count w now

-- It has come so far that there is no room for more.
pub record HasLacked (frames : ℕ) (begun : AbstractState) : Type 0 where
  pub visible : ℕ
  pub now : AbstractState
  pub taken : steps_taken begun 0 visible ≡ Some now
  pub acting : (k : ℕ) → k ≤ visible → ForSome (steps_taken begun 0 k) (λ c. is_acting c.server ≡ true)
  pub console : now.console ≡ begun.console
  pub needed : LacksSpace frames now

-- ---- what is noted

-- the refusal is that of the turn with this number, when so much was written
pub record IsNotedSo (frames turn written : ℕ) (begun : AbstractState) (refusal : Refusal) : Type 0 where
  pub is : refusal ≡ record { turn = turn; console_len = written }
  pub lacked : HasLacked frames begun

-- where the run stands, by whether something was refused
abbrev pub ClosesBy : Option Refusal → ℕ → ℕ → Around ℕ → AbstractState → ℕ → World → List ℕ → Type 0
ClosesBy None frames turn written begun count w printed = (printed ≡ []) × (written.after ≡ written.before) × HasGoneOn frames begun count w
ClosesBy (Some refusal) frames turn written begun count w printed = (0 < w.state.refusals) × IsNotedSo frames turn written.before begun refusal

-- where a call of the host failed
abbrev pub FailsBy : Option Refusal → ℕ → ℕ → ℕ → AbstractState → List ℕ → Type 0
FailsBy None frames turn written begun printed = printed ≡ []
FailsBy (Some refusal) frames turn written begun printed = IsNotedSo frames turn written begun refusal

-- ---- the closing steps

-- What is told of the first refusal is kept, where something was refused before.
abbrev pub KeepsRefusal : Option Refusal → Option Refusal → Type 0
KeepsRefusal before after = (refusal : Refusal) → before ≡ Some refusal → after ≡ Some refusal

-- So many were made, from where nothing or something was refused, behind so many turns.
pub record HasClosedSo (count turn : ℕ) (before after : Option Refusal) (served : Around Parts) (disks : Around (Option Disk))
    (console : Around (Option (List ℕ))) : Type 0 where
  pub printed : List ℕ
  pub gains : Gains console printed
  pub steps_made : List ClosingStep
  pub long : length steps_made ≡ count
  pub close : CloseTo steps_made (beside (kernel_state served.before) disks.before) (beside (kernel_state served.after) disks.after)
  pub printed_are : printed ≡ closing_written steps_made
  pub kept : KeepsRefusal before after
  pub refused : 0 < (kernel_state served.before).refusals → 0 < (kernel_state served.after).refusals
  pub runs : (frames : ℕ) (begun : AbstractState) → before ≡ None →
      StandsQuietly frames (beside (kernel_state served.before) disks.before) begun →
      ClosesBy after frames turn (record { before = served.before.written; after = served.after.written }) begun count (beside (kernel_state served.after) disks.after) printed

-- The host failed in one of them.
pub record HasFailedClosing (turn : ℕ) (before after : Option Refusal) (served : Around Parts) (disks : Around (Option Disk))
    (console : Around (Option (List ℕ))) : Type 0 where
  pub printed : List ℕ
  pub gains : Gains console printed
  pub kept : KeepsRefusal before after
  pub runs : (frames : ℕ) (begun : AbstractState) → before ≡ None →
      StandsQuietly frames (beside (kernel_state served.before) disks.before) begun →
      FailsBy after frames turn served.before.written begun printed

-- The file server acts no more, or has made all steps that it may make (which it never does where the disk is told and nothing was refused).
abbrev pub IsOver : ℕ → KernelState → Type 0
IsOver count s = (acts_in s ≡ false) ⊎ (count ≡ CLOSING_MAX)

abbrev pub HasClosedBy : Result (Unit {0}) Failed → ℕ → ℕ → Option Refusal → Option Refusal → Around Parts → Around (Option Disk) →
    Around (Option (List ℕ)) → Type 0
HasClosedBy (Ok _) count turn before after served disks console =
    HasClosedSo count turn before after served disks console × IsOver count (kernel_state served.after)
HasClosedBy (Err _) count turn before after served disks console = HasFailedClosing turn before after served disks console

abbrev pub ClosesRequest : ℕ → Option Refusal → Closing → Around Parts → Around (Option Disk) → Around (Option (List ℕ)) → Type 0
ClosesRequest turn before closing served disks console =
    HasClosedBy closing.outcome closing.steps turn before closing.first_refused served disks console × (closing.steps ≤ CLOSING_MAX)

-- ---- the blocks of its cache

-- The page of a block is dirty, and is filled.
abbrev pub is_to_write : KernelState → ℕ → Bool
is_to_write s block = not (is_exactly block (filling_at (cache_state s 0).place)) && is_dirty (row_in s 0 block)

-- ---- all of it

-- A run that has ended is closed, and this is told of it.
pub record ClosesRun (report closed : Reported) (served : Parts) (disks : Around (Option Disk)) (console : Around (Option (List ℕ)))
    (last : World) : Type 0 where
  pub behind : Parts
  pub disk : Option Disk
  pub count : ℕ
  pub closing : HasClosedSo count (length report.turns) report.first_refused closed.first_refused
      (record { before = served; after = behind }) (record { before = disks.before; after = disk }) console
  pub over : IsOver count (kernel_state behind)
  pub most : count ≤ CLOSING_MAX
  pub counted : closed.closing ≡ min count (2 ^ 32 - 1)
  pub written_back : IsWrittenBack (beside (kernel_state behind) disk) last
  pub told : closed ≡ record report {
    closing = closed.closing;
    refused = (kernel_state behind).refusals;
    first_refused = closed.first_refused;
    upcalls = (kernel_state behind).upcalls;
  }

-- A call of the host failed behind the turns.
pub record IsCutClosing (report : Reported) (cut : CutOff) (served : Parts) (disks : Around (Option Disk)) (console : Around (Option (List ℕ)))
    : Type 0 where
  pub turns : cut.turns ≡ report.turns
  pub failed : HasFailedClosing (length report.turns) report.first_refused cut.first_refused (record { before = served; after = served }) disks console

abbrev pub IsClosedSo : Reported → List TrapLine → RunEnd → Parts → Around (Option Disk) → Around (Option (List ℕ)) → Type 0
IsClosedSo report traps (Ended closed trace) served disks console =
    (last : KernelState) × ClosesRun report closed served disks console (beside last disks.after) × (trace.items ≡ traps)
IsClosedSo report traps (HostFault cut) served disks console = IsCutClosing report cut served disks console
