-- A run of the exokernel: the images are booted, and then step follows step, in turns, until an end test holds.
-- (MIT 6.828, kern/env.c and kern/sched.c; turns of so many steps, the budget and the ends are this system's own.)
use Rattle.std.specs.Prelude.{ℕ, ◌+◌, ◌==◌, ◌&&◌, nat_le, not, zero, suc, Bool, true, false, List, [], ◌∷◌, ◌++◌, length}
use Rattle.std.specs.Prelude.{Option, Some, None, is_none, unwrap_or, if◌then◌else◌}
use Rattle.jos_host.specs.Count.{counted}
use Rattle.jos_base.specs.declared.numbers.TheConstants.{TURN_MAX}
use Rattle.jos_base.specs.Environments.{is_running}
use Rattle.jos_base.specs.KernelState.{KernelState, slot_at, turn_begun, turn_ended}
use Rattle.jos_envs.specs.Table.{any_live}
use Rattle.jos_sched.specs.RoundRobin.{next}
use Rattle.jos_kernel.specs.declared.report.End.{End}
use Rattle.jos_kernel.specs.declared.report.End.TheVariants.{Done, Stuck, Budget, TurnsFull}
use Rattle.jos_kernel.specs.declared.report.Refusal.{Refusal}
use Rattle.jos_kernel.specs.declared.report.Turn.{Turn}
use Rattle.jos_kernel.specs.declared.trace.TrapLine.{TrapLine}
use Rattle.jos_kernel.specs.Reports.{Reported}
use Rattle.jos_kernel.specs.Books.{turn_of, turns_with_last, turn_goes_on, noted}
use Rattle.jos_kernel.specs.Books as books
use Rattle.jos_kernel.specs.Boot.{Loadable, booted}
use Rattle.jos_kernel.specs.Steps.{EnvStep, env_step}

-- where a run stands
pub record RunProgress : Type 0 where
  pub state : KernelState
  -- the bytes written so far
  pub console : List ℕ
  -- made so far
  pub steps : ℕ
  -- the turns that are over
  pub turns : List Turn
  -- the steps of the turn under way; 0 where none is
  pub made : ℕ
  -- the first time that the list of frames or the table of environments was asked and empty
  pub first_refused : Option Refusal
  -- the traps that were raised, in their order
  pub traps : List TrapLine

-- ---- turns

-- the slot whose turn is under way
abbrev pub current : KernelState → ℕ
current s = unwrap_or s.last 0

-- whether its environment is RUNNING
abbrev pub current_runs : KernelState → Bool
current_runs s = is_running (slot_at s (current s)).status

-- The turn under way is listed too, once it has a step.
abbrev pub turns_of : RunProgress → List Turn
turns_of p = turns_with_last p.turns (turn_of (current p.state) p.made 0)

-- the slot of the next turn
abbrev pub next_slot : KernelState → Option ℕ
next_slot s = next s.environments s.last

-- the state as a step finds it: where no turn is under way, the next one begins
abbrev pub turn_entered : KernelState → ℕ → KernelState
turn_entered s made = if made == 0 then turn_begun s (unwrap_or (next_slot s) 0) else s

-- ---- the end

-- The end tests, in their order; `spent` says whether the budget is used up. The environment whose turn is under way
-- is RUNNING, so that another can be chosen only where none is.
unfoldable pub end_of : RunProgress → Bool → Option End
end_of p spent =
    if not (any_live p.state.environments) then Some Done
    else if (p.made == 0) && is_none (next_slot p.state) then Some Stuck
    else if spent then Some Budget
    else if (p.made == 0) && nat_le TURN_MAX (length p.turns) then Some TurnsFull
    else None

-- ---- the run

-- a count of bytes, which stands still at the end of its type
abbrev pub bytes_counted : List ℕ → ℕ
bytes_counted bytes = counted (length bytes)

-- the refusal of a step that raised the count, where it is the first
abbrev pub first_refusal : RunProgress → KernelState → Option Refusal
first_refusal p after = noted p.first_refused (not (p.state.refusals == after.refusals)) (length p.turns) (bytes_counted p.console)

abbrev pub traps_after : List TrapLine → Option TrapLine → List TrapLine
traps_after traps None = traps
traps_after traps (Some trap) = traps ++ trap ∷ []

-- after a step, where its turn goes on or not
abbrev pub progressed_in : Bool → RunProgress → EnvStep → RunProgress
progressed_in goes_on p step = record {
  state = if goes_on then step.state else turn_ended step.state (current step.state);
  console = p.console ++ step.written;
  steps = p.steps + 1;
  turns = if goes_on then p.turns else p.turns ++ turn_of (current step.state) (p.made + 1) 0 ∷ [];
  made = if goes_on then p.made + 1 else 0;
  first_refused = first_refusal p step.state;
  traps = traps_after p.traps step.trap;
}

unfoldable pub progressed : List ℕ → RunProgress → EnvStep → RunProgress
progressed schedule p step =
    progressed_in (turn_goes_on schedule (length p.turns) (p.made + 1) (current_runs step.state)) p step

-- one step of the environment whose turn it is
unfoldable pub one_step : List ℕ → RunProgress → RunProgress
one_step schedule p =
    let begun = turn_entered p.state p.made in progressed schedule p (env_step begun (current begun))

-- a run that is over
pub record Ran : Type 0 where
  pub end : End
  pub progress : RunProgress

abbrev pub after_test : RunProgress → Option End → Ran → Ran
after_test p (Some end) rest = record { end = end; progress = p }
after_test p None rest = rest

-- the run from here, with so many steps of the budget left
unfoldable pub run_from : List ℕ → ℕ → RunProgress → Ran
run_from schedule zero p = record { end = unwrap_or (end_of p true) Budget; progress = p }
run_from schedule (suc left) p = after_test p (end_of p false) (run_from schedule left (one_step schedule p))

-- before the first step
abbrev pub before_steps : KernelState → RunProgress
before_steps s = record {
  state = s;
  console = [];
  steps = 0;
  turns = [];
  made = 0;
  first_refused = None;
  traps = [];
}

abbrev pub run_from_boot : List ℕ → ℕ → Option KernelState → Option Ran
run_from_boot schedule budget None = None
run_from_boot schedule budget (Some s) = Some (run_from schedule budget (before_steps s))

-- the images run with this input, in turns of this schedule; None where the frames are too few to boot them
unfoldable pub exo_run : List Loadable → List ℕ → List ℕ → ℕ → ℕ → Option Ran
exo_run images input schedule frames budget = run_from_boot schedule budget (booted images frames input)

-- what is told of a run that is over
abbrev pub report_of : RunProgress → End → Reported
report_of p end = books.report_with end p.steps (turns_of p) p.first_refused p.state.refusals p.state.upcalls
