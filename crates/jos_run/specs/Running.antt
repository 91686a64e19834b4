-- Where a run of the library's programs stands, what it keeps between two steps, and what its calls have done.
use Rattle.std.specs.Prelude.{◌≡◌, ℕ, ◌+◌, ◌==◌, ◌<◌, ◌≤◌, Bool, true, false, List, ◌++◌, length}
use Rattle.std.specs.Prelude.{Option, Some, None, Result, Ok, Err, vec_len, if◌then◌else◌}
use Rattle.std.specs.Option.{ForSome}
use Rattle.circular_buffer.specs.Buffer.{buffer, keep_last}
use Rattle.jos_host.specs.declared.host.Failed.{Failed}
use Rattle.jos_host.specs.Files.{Files}
use Rattle.jos_host.specs.Frames.{Around, from_to}
use Rattle.jos_host.specs.Gains.{Gains}
use Rattle.jos_base.specs.declared.numbers.TheConstants.{NENV, TURN_MAX}
use Rattle.jos_base.specs.Environments.{is_live, is_running}
use Rattle.jos_base.specs.KernelState.{KernelState, slot_at, turn_begun, turn_ended}
use Rattle.jos_sched.specs.RoundRobin.{next}
use Rattle.jos_kernel.specs.declared.report.End.{End}
use Rattle.jos_kernel.specs.declared.report.Refusal.{Refusal}
use Rattle.jos_kernel.specs.declared.report.Turn.{Turn}
use Rattle.jos_kernel.specs.declared.trace.TrapLine.{TrapLine}
use Rattle.jos_kernel.specs.Books.{turn_of, made, HasRoom, HasStepsLeft}
use Rattle.jos_kernel.specs.Books as books
use Rattle.jos_kernel.specs.ExoRun.{bytes_counted}
use Rattle.jos_kernel.specs.Reports.{Reported, CutOff}
use Rattle.lib_os.specs.AbstractState.{AbstractState}
use Rattle.lib_os.specs.Disk.{Disk}
use Rattle.lib_os.specs.Need.{EachHasUse}
use Rattle.jos_run.specs.declared.library_run.LibraryRun.{LibraryRun}
use Rattle.jos_run.specs.Served.{kernel_state}
use Rattle.jos_run.specs.LibraryRuns.{IsBetween, IsInTurn, end_seen, others_live}
use Rattle.jos_run.specs.RunSteps.{StepMade, LeadTo, traps_of, written_in, turns_with, is_in_turn, end_at}
use Rattle.jos_run.specs.RunReports.{IsRefusedInTurn, HasEnded, steps_of, CutOffBy}
use Rattle.jos_run.specs.Worlds.{beside, told_disk}

abbrev pub state_of : LibraryRun → KernelState
state_of r = kernel_state r.served

-- The turns so far: the one under way is that of the environment that is served.
abbrev pub turns_so_far : LibraryRun → List Turn
turns_so_far r = books.turns_so_far r.book r.served.slot

-- ---- what is kept

-- Between two steps there is room for each turn, and a turn that is under way is that of an environment that is RUNNING,
-- with steps left.
pub record Holds (r : LibraryRun) : Type 0 where
  pub has_room : HasRoom r.book
  pub left : HasStepsLeft r.book
  pub turns : (state_of r).turns ≡ (if made r.book == 0 then vec_len r.book.turns else vec_len r.book.turns + 1)
  pub running : 0 < made r.book → is_running (slot_at (state_of r) r.served.slot).status ≡ true
  pub current : 0 < made r.book → (state_of r).last ≡ Some r.served.slot
  pub last : ForSome (state_of r).last (λ n. n < NENV)
  pub between : made r.book ≡ 0 → is_in_turn (state_of r) (state_of r).last ≡ false
  pub steps : r.book.steps ≡ steps_of (turns_so_far r)

-- ---- where it stands beside the abstract system

-- no page was refused yet: the abstract system has taken the turns so far, and has come to what the kernel's state stands for,
-- with the disk that the host tells
abbrev pub StandsBy : Bool → List ℕ → AbstractState → Option Disk → LibraryRun → List ℕ → Type 0
StandsBy true schedule first disk r printed = IsBetween schedule first r.book.turns.items (beside (state_of r) disk) printed
StandsBy false schedule first disk r printed =
    IsInTurn schedule first r.book.turns.items r.served.slot r.book.visible (beside (state_of r) disk) printed

pub record StandsSo (first : AbstractState) (frames : ℕ) (disk : Option Disk) (r : LibraryRun) (printed : List ℕ) : Type 0 where
  pub stands : StandsBy (made r.book == 0) r.book.schedule first disk r printed
  pub quiet : (state_of r).refusals ≡ 0
  pub frames_are : (state_of r).spaces.frames ≡ frames
  pub used : EachHasUse (state_of r).spaces
  pub counted_so : r.served.written ≡ bytes_counted printed
  -- in a turn of the file server there is another environment
  pub others : 0 < made r.book → r.served.slot ≡ 0 → others_live (state_of r) ≡ true

abbrev pub RunsBy : Option Refusal → AbstractState → ℕ → Option Disk → LibraryRun → List ℕ → Type 0
RunsBy None first frames disk r printed = StandsSo first frames disk r printed
RunsBy (Some refusal) first frames disk r printed =
    (0 < (state_of r).refusals) × IsRefusedInTurn r.book.schedule first frames (turns_so_far r) refusal printed

-- The run has come so far from this abstract state on, with so many frames and this disk, and has printed these bytes.
abbrev pub Runs : AbstractState → ℕ → Option Disk → LibraryRun → List ℕ → Type 0
Runs first frames disk r printed = RunsBy r.book.first_refused first frames disk r printed

-- the disk before and after, as the host tells its files
abbrev pub disks_of : Around (Option Files) → Around LibraryRun → Around (Option Disk)
disks_of files run = from_to (told_disk files.before run.before.served.disk) (told_disk files.after run.after.served.disk)

-- ---- one step

-- The environment of slot n has the next step: in the turn under way, or in the next turn, where no end test holds.
pub record IsChosen (r : LibraryRun) (n : ℕ) : Type 0 where
  pub turn : 0 < made r.book → n ≡ r.served.slot
  pub next_is : made r.book ≡ 0 → next (state_of r).environments (state_of r).last ≡ Some n
  pub goes_on : made r.book ≡ 0 → end_seen (state_of r) (vec_len r.book.turns) false ≡ None
  pub room : vec_len r.book.turns < TURN_MAX
  pub live : is_live (slot_at (state_of r) n) ≡ true
  pub within : n < NENV

-- the kernel's state in which it makes the step
abbrev pub entered : LibraryRun → ℕ → KernelState
entered r n = if made r.book == 0 then turn_begun (state_of r) n else state_of r

-- ---- counting

-- whether the turn under way goes on after so many more steps
abbrev pub goes_on_after : LibraryRun → ℕ → Bool
goes_on_after r steps = books.goes_on_in r.book steps (is_running (slot_at (state_of r) r.served.slot).status)

-- the turn under way, with so many more steps
abbrev pub turn_after : LibraryRun → ℕ → ℕ → Turn
turn_after r visible hidden = turn_of r.served.slot (r.book.visible + visible) (r.book.hidden + hidden)

-- Steps of the environment that is served are counted; `goes_on` says whether its turn does.
pub record CountedBy (goes_on : Bool) (old new : LibraryRun) (visible hidden : ℕ) : Type 0 where
  pub state : state_of new ≡ (if goes_on then state_of old else turn_ended (state_of old) old.served.slot)
  pub book : books.IsCounted goes_on old.book new.book old.served.slot visible hidden
  pub slot : new.served.slot ≡ old.served.slot
  pub written : new.served.written ≡ old.served.written
  pub disk : new.served.disk ≡ old.served.disk

abbrev pub Counted : LibraryRun → LibraryRun → ℕ → ℕ → Type 0
Counted old new visible hidden = CountedBy (goes_on_after old (visible + hidden)) old new visible hidden

-- ---- steps that were made

-- So many steps were made, which have printed these bytes; and of the traps that were raised the last are kept.
pub record Went (steps : ℕ) (run : Around LibraryRun) (disks : Around (Option Disk)) (console : Around (Option (List ℕ))) : Type 0 where
  pub printed : List ℕ
  pub gains : Gains console printed
  pub steps_are : run.after.book.steps ≡ run.before.book.steps + steps
  pub schedule : run.after.book.schedule ≡ run.before.book.schedule
  pub steps_made : List StepMade
  pub long : length steps_made ≡ steps
  pub lead : LeadTo steps_made (beside (state_of run.before) disks.before) (beside (state_of run.after) disks.after)
  pub printed_are : printed ≡ written_in steps_made
  pub turns : turns_so_far run.after ≡ turns_with (turns_so_far run.before) steps_made
  pub kept : (most : ℕ) (traps : List TrapLine) → run.before.book.trace ≡ buffer (keep_last most traps) most →
      run.after.book.trace ≡ buffer (keep_last most (traps ++ traps_of steps_made)) most
  pub runs : (first : AbstractState) (frames : ℕ) (before : List ℕ) → Runs first frames disks.before run.before before →
      Runs first frames disks.after run.after (before ++ printed)

-- The host failed in a step; the turns are those so far, with that step.
pub record HasFailed (run : Around LibraryRun) (disks : Around (Option Disk)) (console : Around (Option (List ℕ))) : Type 0 where
  pub printed : List ℕ
  pub gains : Gains console printed
  pub cut_off : (first : AbstractState) (frames : ℕ) (before : List ℕ) → Runs first frames disks.before run.before before →
      CutOffBy run.after.book.first_refused run.before.book.schedule first frames (turns_so_far run.after) (before ++ printed)

-- the next steps, one at least and as many as are left at most; or the host failed
abbrev pub Advances : ℕ → Result ℕ Failed → Around LibraryRun → Around (Option Disk) → Around (Option (List ℕ)) → Type 0
Advances left (Ok steps) run disks console = (0 < steps) × (steps ≤ left) × Went steps run disks console
Advances left (Err _) run disks console = HasFailed run disks console

-- ---- the end

-- The end tests on what the abstract system has come to tell this end, where no page was refused. `spent` says whether the
-- steps are used up.
abbrev pub EndsBy : Option Refusal → AbstractState → Bool → Option Disk → LibraryRun → List ℕ → End → Type 0
EndsBy None first spent disk r printed end = HasEnded r.book.schedule first (turns_so_far r) printed spent (beside (state_of r) disk) end
EndsBy (Some refusal) first spent disk r printed end = Unit {0}

-- The run has gone on to the end that the kernel's state tells, with so many steps at most; or the host failed.
abbrev pub HasRunToEnd : ℕ → Result End Failed → Around LibraryRun → Around (Option Disk) → Around (Option (List ℕ)) → Type 0
HasRunToEnd budget (Ok end) run disks console =
    (steps : ℕ) × (steps ≤ budget) × (went : Went steps run disks console)
    × ((first : AbstractState) (frames : ℕ) (before : List ℕ) → Runs first frames disks.before run.before before →
    EndsBy run.after.book.first_refused first (steps == budget) disks.after run.after (before ++ went.printed) end)
    × (end_at (state_of run.after) (length (turns_so_far run.after)) (steps == budget) ≡ Some end)
HasRunToEnd budget (Err _) run disks console = HasFailed run disks console

-- ---- what is told

abbrev pub report_of : LibraryRun → End → Reported
report_of r end =
    books.report_with end r.book.steps (turns_so_far r) r.book.first_refused (state_of r).refusals (state_of r).upcalls

abbrev pub cut_off_of : LibraryRun → CutOff
cut_off_of r = books.cut_off_of r.book r.served.slot
