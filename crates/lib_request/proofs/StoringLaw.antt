-- The law of a stage in which a word is put into the page of a request.
use Rattle.std.proofs.Common.{◌≡◌, ◌∙◌, ◌+◌, ℕ, true, false, refl, sym, ap, subst, arith}
use Rattle.jos_base.specs.declared.called.Called.{Called}
use Rattle.jos_base.specs.declared.called.Called.TheVariants.{Answered}
use Rattle.jos_base.specs.declared.numbers.TheConstants.{UTEMP}
use Rattle.jos_base.specs.Environments.{Slot, is_live}
use Rattle.jos_base.specs.KernelState.{KernelState, slot_at, with_spaces}
use Rattle.lib_os.specs.declared.place.Place.TheVariants as place
use Rattle.lib_os.specs.declared.place.Step.{Step}
use Rattle.lib_os.specs.declared.service.Service.{Service}
use Rattle.lib_os.specs.AbstractState.{AbstractState}
use Rattle.lib_os.specs.InOrder.{IsInOrder}
use Rattle.lib_os.specs.LibrarySteps.{is_pausing}
use Rattle.lib_os.specs.Places.{place_of}
use Rattle.lib_os.specs.Rows.{Names}
use Rattle.lib_os.specs.StandsFor.{StandsFor}
use Rattle.lib_os.specs.UserCalls.{CallStep, Got, giving, gone, got, store, to_handler}
use Rattle.lib_os.proofs.BytesKept.{store_slots}
use Rattle.lib_os.proofs.FileStored.{IsStored}
use Rattle.lib_stage.specs.declared.ask.Ask.TheVariants as ask
use Rattle.lib_stage.specs.declared.ask.Next.TheVariants as next
use Rattle.lib_stage.specs.Asks.{got_as, performed, told_as}
use Rattle.lib_stage.specs.ServiceSteps.{Plan, ServiceHolds}
use Rattle.lib_stage.proofs.Laws.{FailsBy, Falls, FollowsBy, GoesOn, IsAt, KeepsBy, NeverFaults, is_word_beside, law_of, plainly}
use Rattle.lib_file.proofs.Finds.{staged}

got_done : (called : Called) (g : Got (Unit {0})) → got_as (λ x. 0) g ≡ got called → (x : Unit {0}) × (g ≡ got x)
got_done called (got x) is = (x, refl)
got_done called to_handler is = absurd (let contradiction : ◌≡◌ {A = Got Called} to_handler (got called) = is in cc)
got_done called gone is = absurd (let contradiction : ◌≡◌ {A = Got Called} gone (got called) = is in cc)

module _ (s : KernelState) (n : ℕ) (service : Service) (live : is_live (slot_at s n) ≡ true)
    (from to : Step) (o word : ℕ) (beside : is_word_beside (UTEMP + o) ≡ true)
    (stands : place_of (slot_at s n) ≡ place.InService service from)
    (steady : is_pausing (place.InService service from) ≡ false) (falls : Falls service from (next.GoOn to))
    (stored : (names : Names) (a : AbstractState) → StandsFor names s a → IsStored names s a n service o word to) where
  abbrev storing : Plan
  storing = staged service (ask.Store (UTEMP + o) word) (λ done. next.GoOn to)

  abbrev does : CallStep Called
  does = told_as (λ x. 0) (store s n (UTEMP + o) word)

  performed_is : performed s n (ask.Store (UTEMP + o) word) ≡ does
  unfolding performed
  performed_is = refl

  here : IsAt s n storing service from
  here = record {
    stands = stands;
    live = live;
    numbered = refl;
    plain = plainly beside;
    goes_on = steady;
    falls = λ called. falls;
    few = omega arith;
  }

  goes : GoesOn s n storing does
  goes = record {
    live = λ called is stays. let it = got_done called (store s n (UTEMP + o) word).gives is in
        ap (λ (k : Slot). is_live k) (store_slots s n (UTEMP + o) word it.0 it.1 n) ∙ live;
    registers = λ called is stays. let it = got_done called (store s n (UTEMP + o) word).gives is in
        ap (λ (k : Slot). k.registers) (store_slots s n (UTEMP + o) word it.0 it.1 n);
  }

  does_is : (names : Names) (a : AbstractState) (h : StandsFor names s a) → does ≡ giving (with_spaces s (stored names a h).spaces) (Answered 0)
  does_is names a h = ap (λ (z : CallStep (Unit {0})). told_as (λ x. 0) z) (stored names a h).step_is

  given : (names : Names) (a : AbstractState) (h : StandsFor names s a) → does.gives ≡ got (Answered 0)
  given names a h = ap (λ (z : CallStep Called). z.gives) (does_is names a h)

  never : NeverFaults s n does
  never a h turn handled =
      absurd (let contradiction : ◌≡◌ {A = Got Called} to_handler (got (Answered 0)) = sym handled ∙ given h.0 a h.1 in cc)

  keeps : IsInOrder does.state → KeepsBy s n storing does
  keeps order a h turn quiet =
      let it = stored h.0 a h.1 in
      subst (λ (z : CallStep Called). FollowsBy s n storing a z) (sym (does_is h.0 a h.1))
      (refl, (h.0, it.stands (subst (λ (t : KernelState). IsInOrder t) (ap (λ (z : CallStep Called). z.state) (does_is h.0 a h.1)) order) turn.last))

  fails : FailsBy s n storing does
  fails may a h turn = absurd (let contradiction : ◌≡◌ {A = Got Called} gone (got (Answered 0)) = sym may ∙ given h.0 a h.1 in cc)

  pub storing_holds : ServiceHolds s n (staged service (ask.Store (UTEMP + o) word) (λ done. next.GoOn to))
  storing_holds =
      law_of s n storing service from here (subst (λ (z : CallStep Called). GoesOn s n storing z) (sym performed_is) goes)
      (subst (λ (z : CallStep Called). NeverFaults s n z) (sym performed_is) never)
      (subst (λ (z : CallStep Called). IsInOrder z.state → KeepsBy s n storing z) (sym performed_is) keeps)
      (subst (λ (z : CallStep Called). FailsBy s n storing z) (sym performed_is) fails)
