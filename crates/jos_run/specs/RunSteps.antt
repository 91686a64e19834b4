-- A run as the states of the kernel tell it, with the disk: the steps that were made, the traps that programs raised in them, the end, and what comes
-- behind it.
use Rattle.std.specs.Prelude.{◌≡◌, ◌<◌, ◌≤◌, ℕ, ◌+◌, ◌-◌, ◌^◌, min, ◌==◌, ◌&&◌, ◌++◌, Bool, true, false, List, [], ◌∷◌, length, Option, Some, None, Ok, if◌then◌else◌}
use Rattle.circular_buffer.specs.Buffer.{keep_last}
use Rattle.jos_base.specs.Environments.{is_running}
use Rattle.jos_base.specs.KernelState.{KernelState, slot_at, turn_begun, turn_ended, with_spaces}
use Rattle.jos_sched.specs.RoundRobin.{next}
use Rattle.jos_kernel.specs.declared.report.End.{End}
use Rattle.jos_kernel.specs.declared.report.End.TheVariants.{Budget}
use Rattle.jos_kernel.specs.declared.report.Turn.{Turn}
use Rattle.jos_kernel.specs.declared.trace.TrapLine.{TrapLine}
use Rattle.jos_kernel.specs.Books.{turn_of}
use Rattle.jos_kernel.specs.Reports.{Reported}
use Rattle.lib_os.specs.declared.progress.Progress.{Progress}
use Rattle.lib_os.specs.BlockCache.{CachedBlocks, block_value}
use Rattle.lib_os.specs.Disk.{Disk}
use Rattle.lib_os.specs.LibrarySteps.{LeavesRest}
use Rattle.fs_cache.specs.CacheStands.{CacheAt, cached_in}
use Rattle.fs_serving.specs.ServerRuns.{is_serving}
use Rattle.jos_run.specs.LibraryRuns.{visible_steps, hidden_steps, end_seen}
use Rattle.jos_run.specs.ServerStands.{KeepsWhole, LeavesServed, step_of}
use Rattle.jos_run.specs.Steps.{LeavesAs, RaisesAs, is_awake, is_servers}
use Rattle.jos_run.specs.Worlds.{World, with_state}

-- ---- steps

-- A step of the environment in a slot: whether its turn begins with it, and goes on behind it; what it comes to, what it
-- writes to the console, the trap that it raises, if it raises one, and the state that it leaves, with the disk.
pub record StepMade : Type 0 where
  pub slot : ℕ
  pub begins : Bool
  pub goes_on : Bool
  pub progress : Progress
  pub written : List ℕ
  pub trap : Option TrapLine
  pub left : World

-- the state in which it is made
abbrev pub entered_by : World → StepMade → World
entered_by w step = with_state w (if step.begins then turn_begun w.state step.slot else w.state)

-- and the one behind it, or behind its turn, where that is over
abbrev pub passed : StepMade → World
passed step = with_state step.left (if step.goes_on then step.left.state else turn_ended step.left.state step.slot)

-- The step is made from this state on, by the slot whose turn it is, and is one that the library or the file server promises.
pub record IsMade (w : World) (step : StepMade) : Type 0 where
  pub chosen : step.begins ≡ true → next w.state.environments w.state.last ≡ Some step.slot
  pub running : is_running (slot_at (entered_by w step).state step.slot).status ≡ true
  pub raises : RaisesAs (is_servers (entered_by w step).state step.slot) step.slot (entered_by w step).state step.trap step.left.state
  pub keeps : KeepsWhole step.progress step.slot (entered_by w step) step.left step.written
  pub rest : LeavesRest (entered_by w step).state step.left.state
  pub leaves : LeavesAs (is_servers (entered_by w step).state step.slot) (entered_by w step).disk (Ok step.progress) step.slot (entered_by w step).state
      step.left.state

-- These steps lead from one state to another.
unfoldable pub LeadTo : List StepMade → World → World → Type 0
LeadTo [] v w = v ≡ w
LeadTo (step ∷ rest) v w = IsMade v step × LeadTo rest (passed step) w

abbrev pub one_if : Option TrapLine → List TrapLine
one_if None = []
one_if (Some trap) = trap ∷ []

-- the traps that were raised in them
unfoldable pub traps_of : List StepMade → List TrapLine
traps_of [] = []
traps_of (step ∷ rest) = one_if step.trap ++ traps_of rest

-- and what was written
unfoldable pub written_in : List StepMade → List ℕ
written_in [] = []
written_in (step ∷ rest) = step.written ++ written_in rest

-- ---- turns

-- a turn with one more step
abbrev pub with_step : Turn → Progress → Turn
with_step turn progress =
    turn_of turn.slot (turn.visible + visible_steps progress) (turn.hidden + hidden_steps progress)

-- the same of the last turn of a list
unfoldable pub with_last_step : List Turn → Progress → List Turn
with_last_step [] progress = []
with_last_step (turn ∷ []) progress = with_step turn progress ∷ []
with_last_step (turn ∷ next ∷ rest) progress = turn ∷ with_last_step (next ∷ rest) progress

-- the turns with a step, which is the first of a turn or one more of the last
abbrev pub counted_in : List Turn → StepMade → List Turn
counted_in turns step = with_last_step (if step.begins then turns ++ turn_of step.slot 0 0 ∷ [] else turns) step.progress

-- the turns behind these, which the steps make up
unfoldable pub turns_with : List Turn → List StepMade → List Turn
turns_with turns [] = turns
turns_with turns (step ∷ rest) = turns_with (counted_in turns step) rest

-- ---- the end

-- whether the slot that had the last turn is in it still
abbrev pub is_in_turn : KernelState → Option ℕ → Bool
is_in_turn s None = false
is_in_turn s (Some n) = is_running (slot_at s n).status

-- The end that the kernel's state tells after so many turns: in a turn it is the budget alone, where the steps are used up, and
-- between two turns the first end test that holds.
abbrev pub end_at : KernelState → ℕ → Bool → Option End
end_at s turns spent =
    if is_in_turn s s.last then (if spent then Some Budget else None) else end_seen s turns spent

-- ---- behind the end

-- A step of the file server behind the turns: what it comes to, what it writes to the console, and the state that it leaves, with the disk.
pub record ClosingStep : Type 0 where
  pub progress : Progress
  pub written : List ℕ
  pub left : World

-- The file server may run, and stands where it has a request whose act is not made.
abbrev pub acts_in : KernelState → Bool
acts_in s = is_servers s 0 && is_awake (slot_at s 0).status && is_serving (step_of (slot_at s 0))

-- The step is made from this state on, where the file server acts, and is one that it promises.
pub record IsClosing (w : World) (step : ClosingStep) : Type 0 where
  pub acts : acts_in w.state ≡ true
  pub keeps : KeepsWhole step.progress 0 w step.left step.written
  pub rest : LeavesRest w.state step.left.state
  pub leaves : LeavesServed w.disk (Ok step.progress) w.state step.left.state

-- These steps lead from one state to another.
unfoldable pub CloseTo : List ClosingStep → World → World → Type 0
CloseTo [] v w = v ≡ w
CloseTo (step ∷ rest) v w = IsClosing v step × CloseTo rest step.left w

-- and what was written in them
unfoldable pub closing_written : List ClosingStep → List ℕ
closing_written [] = []
closing_written (step ∷ rest) = step.written ++ closing_written rest

-- Where the cache of the file server stands over a disk that was told, one is told that holds what the cache held of it.
pub record HoldsCache (d e : Disk) (c : CachedBlocks) : Type 0 where
  pub count : e.count ≡ d.count
  pub blocks : (n : ℕ) → n < d.count → e.block n ≡ block_value d c n
  pub beyond : (n : ℕ) → d.count ≤ n → e.block n ≡ d.block n

abbrev pub IsWrittenOver : Option Disk → KernelState → Option Disk → Type 0
IsWrittenOver None s after = after ≡ None
IsWrittenOver (Some d) s after = CacheAt d s 0 → (e : Disk) × (after ≡ Some e) × HoldsCache d e (cached_in s 0)

-- The blocks of the cache are written to the disk; of the kernel's state no more is other than spaces.
pub record IsWrittenBack (before after : World) : Type 0 where
  pub spaces : after.state ≡ with_spaces before.state after.state.spaces
  pub blocks : IsWrittenOver before.disk before.state after.disk

-- ---- what is told

-- From one state on steps were made in turns, as many as the report counts, which have printed these bytes, with these as the last of
-- their traps; and the state to which they lead tells the end and the turns of the report. From there the file server went on alone, in as many
-- steps as the report counts behind the end (or in more, where it counts 2 ^ 32 - 1); the state to which they lead tells the refusals and the
-- upcalls; and then the blocks of its cache were written to the disk.
pub record HasGone (first turned last : World) (budget most_traps : ℕ) (report : Reported) (traps : List TrapLine) (printed : List ℕ) :
    Type 0 where
  pub steps : List StepMade
  pub lead : LeadTo steps first turned
  pub steps_are : report.steps ≡ length steps
  pub turns : report.turns ≡ turns_with [] steps
  pub turns_count : length report.turns ≡ turned.state.turns
  pub end : end_at turned.state (length report.turns) (report.steps == budget) ≡ Some report.end
  pub last_traps : traps ≡ keep_last most_traps (traps_of steps)
  pub closing : List ClosingStep
  pub closed : World
  pub close : CloseTo closing turned closed
  pub closing_are : report.closing ≡ min (length closing) (2 ^ 32 - 1)
  pub refused : report.refused ≡ closed.state.refusals
  pub upcalls : report.upcalls ≡ closed.state.upcalls
  pub printed_are : printed ≡ written_in steps ++ closing_written closing
  pub written_back : IsWrittenBack closed last
