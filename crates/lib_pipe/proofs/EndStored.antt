-- The law of a stage in which service pipe puts a word into the page of a descriptor that it makes.
use Rattle.std.proofs.Common.{◌≡◌, ◌∙◌, ℕ, true, false, refl, sym, ap, subst, arith, Some}
use Rattle.jos_base.specs.declared.called.Called.{Called}
use Rattle.jos_base.specs.declared.called.Called.TheVariants.{Answered}
use Rattle.jos_base.specs.Environments.{Slot, is_live}
use Rattle.jos_base.specs.KernelState.{KernelState, slot_at, with_spaces}
use Rattle.lib_os.specs.declared.numbers.TheConstants.{SERVICE_PIPE}
use Rattle.lib_os.specs.declared.place.PipeStep.{PipeStep}
use Rattle.lib_os.specs.declared.place.Place.TheVariants as place
use Rattle.lib_os.specs.declared.place.Step.TheVariants as step
use Rattle.lib_os.specs.declared.service.Service.TheVariants as service
use Rattle.lib_os.specs.AbstractState.{AbstractState}
use Rattle.lib_os.specs.InOrder.{IsInOrder}
use Rattle.lib_os.specs.LibrarySteps.{KeepsServer, LeavesServer, is_pausing, left_alone}
use Rattle.lib_os.specs.Places.{place_of}
use Rattle.lib_os.specs.Rows.{Names}
use Rattle.lib_os.specs.StandsFor.{StandsFor}
use Rattle.lib_os.specs.UserCalls.{CallStep, Got, giving, gone, got, store, to_handler}
use Rattle.lib_os.proofs.BytesKept.{store_slots}
use Rattle.lib_os.proofs.PipeEndsStored.{IsEndStored}
use Rattle.lib_stage.specs.declared.ask.Ask.TheVariants as ask
use Rattle.lib_stage.specs.declared.ask.Next.TheVariants as next
use Rattle.lib_stage.specs.Asks.{got_as, performed, told_as}
use Rattle.lib_stage.specs.ServiceSteps.{Plan, ServiceHolds}
use Rattle.lib_stage.proofs.Laws.{FailsBy, Falls, FollowsBy, GoesOn, IsAt, KeepsBy, NeverFaults, law_of, store_known}
use Rattle.lib_pipe.proofs.EndStores.{StoresEnd}

got_done : (called : Called) (g : Got (Unit {0})) → got_as (λ x. 0) g ≡ got called → (x : Unit {0}) × (g ≡ got x)
got_done called (got x) is = (x, refl)
got_done called to_handler is = absurd (let contradiction : ◌≡◌ {A = Got Called} to_handler (got called) = is in cc)
got_done called gone is = absurd (let contradiction : ◌≡◌ {A = Got Called} gone (got called) = is in cc)

module _ (s : KernelState) (n : ℕ) (live : is_live (slot_at s n) ≡ true) (from to : PipeStep) (va word : ℕ)
    (stands : place_of (slot_at s n) ≡ place.InService service.Pipe (step.Piped from))
    (steady : is_pausing (place.InService service.Pipe (step.Piped from)) ≡ false)
    (falls : Falls service.Pipe (step.Piped from) (next.GoOn (step.Piped to)))
    (stores : (names : Names) (a : AbstractState) → StandsFor names s a → StoresEnd s n va word)
    (stored : (names : Names) (a : AbstractState) → StandsFor names s a → s.last ≡ Some n → IsEndStored names s a n va word to) where
  abbrev storing : Plan
  storing = record { number = SERVICE_PIPE; asks = ask.Store va word; next = λ called. next.GoOn (step.Piped to) }

  abbrev does : CallStep Called
  does = told_as (λ x. 0) (store s n va word)

  performed_is : performed s n (ask.Store va word) ≡ does
  unfolding performed
  performed_is = refl

  server : KeepsServer n s (performed s n (ask.Store va word)).state
  unfolding performed
  server then_so other lives a h =
      let it = stores h.0 a h.1 in
      left_alone (subst (λ (t : KernelState). LeavesServer n s t) (sym (ap (λ (z : CallStep (Unit {0})). z.state) it.step_is)) (it.server other lives))

  here : IsAt s n storing service.Pipe (step.Piped from)
  here = record {
    stands = stands;
    live = live;
    numbered = refl;
    plain = store_known s n va word server;
    goes_on = steady;
    falls = λ called. falls;
    few = omega arith;
  }

  goes : GoesOn s n storing does
  goes = record {
    live = λ called is stays. let it = got_done called (store s n va word).gives is in
        ap (λ (k : Slot). is_live k) (store_slots s n va word it.0 it.1 n) ∙ live;
    registers = λ called is stays. let it = got_done called (store s n va word).gives is in
        ap (λ (k : Slot). k.registers) (store_slots s n va word it.0 it.1 n);
  }

  given : (names : Names) (a : AbstractState) → StandsFor names s a → does.gives ≡ got (Answered 0)
  given names a h = ap (λ (z : CallStep (Unit {0})). got_as (λ x. 0) z.gives) (stores names a h).step_is

  never : NeverFaults s n does
  never a h turn handled =
      absurd (let contradiction : ◌≡◌ {A = Got Called} to_handler (got (Answered 0)) = sym handled ∙ given h.0 a h.1 in cc)

  keeps : IsInOrder does.state → KeepsBy s n storing does
  keeps order a h turn quiet =
      let it = stored h.0 a h.1 turn.last in
      let same : does ≡ giving (with_spaces s it.spaces) (Answered 0) = ap (λ (z : CallStep (Unit {0})). told_as (λ x. 0) z) it.step_is in
      subst (λ (z : CallStep Called). FollowsBy s n storing a z) (sym same)
      (refl, (h.0, it.stands (subst (λ (t : KernelState). IsInOrder t) (ap (λ (z : CallStep Called). z.state) same) order)))

  fails : FailsBy s n storing does
  fails may a h turn = absurd (let contradiction : ◌≡◌ {A = Got Called} gone (got (Answered 0)) = sym may ∙ given h.0 a h.1 in cc)

  pub end_store_holds : ServiceHolds s n (record { number = SERVICE_PIPE; asks = ask.Store va word; next = λ called. next.GoOn (step.Piped to) })
  end_store_holds =
      law_of s n storing service.Pipe (step.Piped from) here (subst (λ (z : CallStep Called). GoesOn s n storing z) (sym performed_is) goes)
      (subst (λ (z : CallStep Called). NeverFaults s n z) (sym performed_is) never)
      (subst (λ (z : CallStep Called). IsInOrder z.state → KeepsBy s n storing z) (sym performed_is) keeps)
      (subst (λ (z : CallStep Called). FailsBy s n storing z) (sym performed_is) fails)
