-- A step of a service: what it asks is done, and then what it does next by the reply.
use Rattle.std.specs.Prelude.{◌≡◌, ℕ, ◌++◌, false, true, List, Option, Some, None, Result, Ok, Err}
use Rattle.jos_host.specs.declared.host.Failed.{Failed}
use Rattle.jos_base.specs.declared.called.Called.{Called}
use Rattle.jos_base.specs.declared.numbers.TheConstants.{SYS_GETENVID}
use Rattle.jos_base.specs.Environments.{is_live}
use Rattle.jos_base.specs.KernelState.{KernelState, slot_at}
use Rattle.lib_os.specs.declared.numbers.TheConstants.{SERVICES}
use Rattle.lib_os.specs.declared.progress.Progress.{Progress}
use Rattle.lib_os.specs.declared.progress.Progress.TheVariants as progress
use Rattle.lib_os.specs.AbstractRun.{abs_step}
use Rattle.lib_os.specs.AbstractState.{AbstractState}
use Rattle.lib_os.specs.InOrder.{IsInOrder}
use Rattle.lib_os.specs.LibrarySteps.{HasTurn, Stands, KeepsStanding, Leaves, Lowers, GivesUp, TakesByPlace}
use Rattle.lib_os.specs.UserCalls.{CallStep, Got, got, to_handler, gone, Output, Prints, PrintsPart}
use Rattle.lib_stage.specs.declared.ask.Ask.{Ask}
use Rattle.lib_stage.specs.declared.ask.Ask.TheVariants as ask
use Rattle.lib_stage.specs.declared.ask.Next.{Next}
use Rattle.lib_stage.specs.declared.ask.Next.TheVariants as next
use Rattle.lib_stage.specs.Asks.{no_args, performed, MayFail}
use Rattle.lib_stage.specs.Nexts.{settled, seen_as, is_gone}

-- What a service is at a stage, with what it is given: its number, what it asks, and what it does next by the reply.
pub record Plan : Type 0 where
  pub number : ℕ
  pub asks : Ask
  pub next : Called → Next

-- the state after a step, what the step is to those who see the abstract system, and what is written
pub record Upshot : Type 0 where
  pub state : KernelState
  pub progress : Progress
  pub written : List ℕ

-- An access that faults has left the environment to its handler, which nobody sees, or destroyed it.
abbrev pub upshot_by : Plan → ℕ → CallStep Called → Got Called → Upshot
upshot_by plan n step (got called) = record {
  state = settled plan.number (plan.next called) step.state n;
  progress = seen_as (plan.next called);
  written = step.written;
}
upshot_by plan n step to_handler = record { state = step.state; progress = progress.Hidden; written = step.written }
upshot_by plan n step gone = record { state = step.state; progress = progress.Ended; written = step.written }

abbrev pub service_step : KernelState → ℕ → Plan → Upshot
service_step s n plan = let step = performed s n plan.asks in upshot_by plan n step step.gives

-- What came of it. Where the host failed, nothing is said of the state.
abbrev pub IsServiceStep : Result Progress Failed → KernelState → ℕ → Plan → KernelState → Output → Type 0
IsServiceStep (Ok done) s n plan state output =
    let did = service_step s n plan in (done ≡ did.progress) × (state ≡ did.state) × Prints output did.written
IsServiceStep (Err _) s n plan state output =
    let step = performed s n plan.asks in MayFail plan.asks step.gives × PrintsPart output step.written

-- The law of a service, over states, by what its call comes to: what its step is in the abstract system, what it leaves,
-- that it comes to an end, and how many frames it takes.
pub record PlanHolds (s : KernelState) (n : ℕ) (plan : Plan) (step : CallStep Called) : Type 0 where
  -- who goes on is there
  pub lives : (called : Called) → step.gives ≡ got called → is_gone (plan.next called) ≡ false → is_live (slot_at step.state n) ≡ true
  pub keeps : IsInOrder step.state → let did = upshot_by plan n step step.gives in KeepsStanding did.progress n s did.state did.written
  pub fails : MayFail plan.asks step.gives → (a : AbstractState) → Stands s a → HasTurn s n →
      (b : AbstractState) × (abs_step a n ≡ Some b) × (b.console ≡ a.console ++ step.written)
  pub leaves : let did = upshot_by plan n step step.gives in Leaves (Ok did.progress) n s did.state
  pub lowers : let did = upshot_by plan n step step.gives in Lowers (Ok did.progress) n s did.state
  pub gives_up : let did = upshot_by plan n step step.gives in GivesUp (Ok did.progress) (slot_at s n) (slot_at did.state n)
  pub takes : let did = upshot_by plan n step step.gives in TakesByPlace n s did.state

abbrev pub ServiceHolds : KernelState → ℕ → Plan → Type 0
ServiceHolds s n plan = PlanHolds s n plan (performed s n plan.asks)

-- ---- a step that a service has not

-- nothing is asked for but an id, and it is over
abbrev pub nowhere : Plan
nowhere = record { number = SERVICES; asks = ask.System SYS_GETENVID no_args; next = λ called. next.Gone }

-- the plan of a service at a step, if it has this step
abbrev pub or_nowhere : {S : Type 0} → (S → Plan) → Option S → Plan
or_nowhere plan (Some service) = plan service
or_nowhere plan None = nowhere
