-- A step takes no more frames from the list than what is asked in it may take, nor more than may be taken where its environment stands.
use Rattle.std.proofs.Common.{◌≡◌, ◌≤◌, ℕ, true, false, Result, Ok, Err, refl, sym, ap, subst, arith}
use Rattle.std.specs.Prelude.{IfOk, length}
use Rattle.jos_host.specs.declared.host.Failed.{Failed}
use Rattle.jos_base.specs.declared.called.Called.{Called}
use Rattle.jos_base.specs.declared.numbers.TheConstants.{SYS_EXOFORK}
use Rattle.jos_base.specs.KernelState.{KernelState, slot_at}
use Rattle.jos_base.specs.SpacesState.{SpacesState}
use Rattle.lib_os.specs.declared.place.Place.{Place}
use Rattle.lib_os.specs.declared.progress.Progress.{Progress}
use Rattle.lib_os.specs.AbstractState.{AbstractState}
use Rattle.lib_os.specs.LibrarySteps.{Stands, TakesAtMost, TakesByPlace, frames_at}
use Rattle.lib_os.specs.Places.{place_of}
use Rattle.lib_os.specs.UserCalls.{CallStep, Got, got, to_handler, gone, Output}
use Rattle.lib_os.proofs.FramesAsked.{system_takes, load_takes, load_byte_takes, store_takes, store_byte_takes, exchange_takes, restore_takes}
use Rattle.lib_stage.specs.declared.ask.Ask.{Ask}
use Rattle.lib_stage.specs.declared.ask.Ask.TheVariants as ask
use Rattle.lib_stage.specs.declared.ask.Next.{Next}
use Rattle.lib_stage.specs.declared.ask.Next.TheVariants as next
use Rattle.lib_stage.specs.Asks.{as_given, at_instruction, performed, frames_of}
use Rattle.lib_stage.specs.Nexts.{settled}
use Rattle.lib_stage.specs.ServiceSteps.{Plan, upshot_by, service_step, IsServiceStep}

performed_takes : (s : KernelState) (n : ℕ) (a : Ask) → TakesAtMost (frames_of a) s.spaces (performed s n a).state.spaces
unfolding performed
performed_takes s n (ask.System number args) = system_takes s n number args
performed_takes s n ask.Exofork = system_takes s n SYS_EXOFORK (as_given (slot_at s n).registers)
performed_takes s n (ask.Load va) = load_takes s n 0 va
performed_takes s n (ask.LoadByte va) = load_byte_takes s n 0 va
performed_takes s n (ask.Store va word) = store_takes s n 0 va word
performed_takes s n (ask.StoreByte va byte) = store_byte_takes s n 0 va byte
performed_takes s n (ask.Exchange va word) = exchange_takes s n 0 va word
performed_takes s n ask.RestoreFrame = restore_takes s n 0
performed_takes s n (ask.Touch ip va true) = store_byte_takes (at_instruction s n ip) n 0 va 0
performed_takes s n (ask.Touch ip va false) = load_byte_takes (at_instruction s n ip) n 0 va

-- what follows the call changes no address space
settled_takes : (s mid : KernelState) (n number k : ℕ) (x : Next) → TakesAtMost k s.spaces mid.spaces →
    TakesAtMost k s.spaces (settled number x mid n).spaces
settled_takes s mid n number k (next.Answer word) h = h
settled_takes s mid n number k (next.Answers eax edx ecx ebx) h = h
settled_takes s mid n number k (next.AnswersEnds reading writing) h = h
settled_takes s mid n number k (next.GoOn at) h = h
settled_takes s mid n number k (next.GoBack word) h = h
settled_takes s mid n number k (next.Show at) h = h
settled_takes s mid n number k (next.Wait at) h = h
settled_takes s mid n number k (next.Handle at) h = h
settled_takes s mid n number k next.Leave h = h
settled_takes s mid n number k next.Gone h = h

-- so a step takes as many as its call
call_takes : (s : KernelState) (n k : ℕ) (plan : Plan) (step : CallStep Called) → TakesAtMost k s.spaces step.state.spaces →
    TakesAtMost k s.spaces (upshot_by plan n step step.gives).state.spaces
call_takes s n k plan step takes = by_got step.gives
  where
    by_got : (g : Got Called) → TakesAtMost k s.spaces (upshot_by plan n step g).state.spaces
    by_got (got called) = settled_takes s _ n plan.number k (plan.next called) takes
    by_got to_handler = takes
    by_got gone = takes

step_takes : (s : KernelState) (n : ℕ) (plan : Plan) → TakesAtMost (frames_of plan.asks) s.spaces (service_step s n plan).state.spaces
step_takes s n plan = call_takes s n (frames_of plan.asks) plan (performed s n plan.asks) (performed_takes s n plan.asks)

-- ---- by the place

-- where its call takes so few wherever the state stands for an abstract one
pub takes_at : (s : KernelState) (n : ℕ) (plan : Plan) (step : CallStep Called) (at : Place) → place_of (slot_at s n) ≡ at →
    ((a : AbstractState) → Stands s a → TakesAtMost (frames_at at) s.spaces step.state.spaces) →
    TakesByPlace n s (upshot_by plan n step step.gives).state
takes_at s n plan step at stands takes a h =
    subst (λ (p : Place). TakesAtMost (frames_at p) s.spaces (upshot_by plan n step step.gives).state.spaces) (sym stands)
    (call_takes s n (frames_at at) plan step (takes a h))

-- where what is asked may take no more
pub asks_few : (s : KernelState) (n : ℕ) (plan : Plan) (at : Place) → place_of (slot_at s n) ≡ at → frames_of plan.asks ≤ frames_at at →
    TakesByPlace n s (service_step s n plan).state
asks_few s n plan at stands few =
    takes_at s n plan (performed s n plan.asks) at stands
    (λ a h. let takes = performed_takes s n plan.asks in omega (arith, few, takes))

-- where the call changes no address space
pub takes_none : (s : KernelState) (n : ℕ) (plan : Plan) (step : CallStep Called) → step.state.spaces ≡ s.spaces →
    TakesByPlace n s (upshot_by plan n step step.gives).state
takes_none s n plan step same =
    takes_at s n plan step (place_of (slot_at s n)) refl
    (λ a h. let long = ap (λ (x : SpacesState). length x.free) same in omega (arith, long))

pub frames_taken : (s : KernelState) (n : ℕ) (plan : Plan) (result : Result Progress Failed) (after : KernelState) (output : Output) →
    IsServiceStep result s n plan after output → IfOk result (λ done. TakesAtMost (frames_of plan.asks) s.spaces after.spaces)
frames_taken s n plan (Ok done) after output h =
    subst (λ (t : KernelState). TakesAtMost (frames_of plan.asks) s.spaces t.spaces) (sym h.1) (step_takes s n plan)
frames_taken s n plan (Err failed) after output h = tt
