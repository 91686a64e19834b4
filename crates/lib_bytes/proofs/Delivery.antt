-- The law of a step in which a service puts bytes into the program's memory: where the kernel lets it, they are there, and it shows its next
-- step or answers; where their page waits to be copied, the handler of page faults gets the fault, which nobody sees.
use Rattle.std.proofs.Common.{◌≡◌, ◌∙◌, ◌<◌, ◌++◌, ℕ, true, inl, Some, Ok, refl, sym, ap, subst}
use Rattle.jos_base.specs.declared.called.Called.{Called}
use Rattle.jos_base.specs.declared.called.Called.TheVariants.{Answered}
use Rattle.jos_base.specs.Environments.{Slot, is_live}
use Rattle.jos_base.specs.KernelState.{KernelState, slot_at}
use Rattle.lib_os.specs.declared.place.Step.{Step}
use Rattle.lib_os.specs.declared.service.Service.{Service}
use Rattle.lib_os.specs.AbstractRun.{abs_step}
use Rattle.lib_os.specs.AbstractState.{AbstractState}
use Rattle.lib_os.specs.InOrder.{IsInOrder}
use Rattle.lib_os.specs.LibrarySteps.{Lowers, LowersOrAsksAgain, hidden_left}
use Rattle.lib_os.specs.Rows.{Names}
use Rattle.lib_os.specs.StandsFor.{StandsFor}
use Rattle.lib_os.specs.UserCalls.{CallStep, Got, giving, gone, got, store, store_byte, to_handler}
use Rattle.lib_os.proofs.BytesKept.{store_byte_slots, store_slots}
use Rattle.lib_stage.specs.declared.ask.Ask.TheVariants as ask
use Rattle.lib_stage.specs.Asks.{MayFail, got_as, performed}
use Rattle.lib_stage.specs.Nexts.{seen_as, settled}
use Rattle.lib_stage.specs.ServiceSteps.{Plan, ServiceHolds, upshot_by}
use Rattle.lib_stage.proofs.Laws.{FailsBy, FollowsBy, KeepsBy, StandsThere, law_with}
use Rattle.lib_file.proofs.FaultingLaw.{IsHandedOver}

-- Bytes that are put: what the step is in the abstract system.
pub record IsPutThere (s : KernelState) (n : ℕ) (plan : Plan) (a : AbstractState) : Type 0 where
  pub after : KernelState
  pub is : performed s n plan.asks ≡ giving after (Answered 0)
  pub goes : s.last ≡ Some n → FollowsBy s n plan a (giving after (Answered 0))

pub data PutOrLost (s : KernelState) (n : ℕ) (plan : Plan) (names : Names) (a : AbstractState) : Type 0 where
  put : IsPutThere s n plan a → PutOrLost s n plan names a
  lost : IsHandedOver s n names a (performed s n plan.asks) → PutOrLost s n plan names a

-- ---- the slots behind a store that is done

told_done : (called : Called) (g : Got (Unit {0})) → got_as (λ done. 0) g ≡ got called → g ≡ got tt
told_done called (got tt) is = refl
told_done called to_handler is = absurd (let contradiction : ◌≡◌ {A = Got Called} to_handler (got called) = is in cc)
told_done called gone is = absurd (let contradiction : ◌≡◌ {A = Got Called} gone (got called) = is in cc)

module _ (s : KernelState) (n : ℕ) (live : is_live (slot_at s n) ≡ true) (va : ℕ) (called : Called) where
  pub byte_lives : (byte : ℕ) → (performed s n (ask.StoreByte va byte)).gives ≡ got called →
      is_live (slot_at (performed s n (ask.StoreByte va byte)).state n) ≡ true
  unfolding performed
  byte_lives byte is =
      ap (λ (k : Slot). is_live k) (store_byte_slots s n va byte tt (told_done called (store_byte s n va byte).gives is) n) ∙ live

  pub word_lives : (word : ℕ) → (performed s n (ask.Store va word)).gives ≡ got called →
      is_live (slot_at (performed s n (ask.Store va word)).state n) ≡ true
  unfolding performed
  word_lives word is =
      ap (λ (k : Slot). is_live k) (store_slots s n va word tt (told_done called (store s n va word).gives is) n) ∙ live

-- ---- the law

module _ (s : KernelState) (n : ℕ) (plan : Plan) (service : Service) (from : Step) (there : StandsThere s n plan service from)
    (lives : (called : Called) → (performed s n plan.asks).gives ≡ got called → is_live (slot_at (performed s n plan.asks).state n) ≡ true)
    (fails_gone : MayFail plan.asks (performed s n plan.asks).gives → (performed s n plan.asks).gives ≡ gone)
    (shows : (called : Called) (after : KernelState) →
    Lowers (Ok (seen_as (plan.next called))) n s (settled plan.number (plan.next called) after n))
    (comes : (names : Names) (a : AbstractState) → StandsFor names s a → PutOrLost s n plan names a) where
  keeps : IsInOrder (performed s n plan.asks).state → KeepsBy s n plan (performed s n plan.asks)
  keeps order a h turn quiet = by_case (comes h.0 a h.1)
    where
      by_case : PutOrLost s n plan h.0 a → FollowsBy s n plan a (performed s n plan.asks)
      by_case (put it) = subst (λ (z : CallStep Called). FollowsBy s n plan a z) (sym it.is) (it.goes turn.last)
      by_case (lost it) =
          subst (λ (z : CallStep Called). FollowsBy s n plan a z) (sym it.is)
          (refl, (h.0, it.stands (subst (λ (t : KernelState). IsInOrder t) (ap (λ (z : CallStep Called). z.state) it.is) order) turn.last))

  fails : FailsBy s n plan (performed s n plan.asks)
  fails may a h turn = by_case (comes h.0 a h.1)
    where
      none : (performed s n plan.asks).gives ≡ gone
      none = fails_gone may

      by_case : PutOrLost s n plan h.0 a →
          (b : AbstractState) × (abs_step a n ≡ Some b) × (b.console ≡ a.console ++ (performed s n plan.asks).written)
      by_case (put it) =
          absurd (let contradiction : ◌≡◌ {A = Got Called} gone (got (Answered 0)) = sym none ∙ ap (λ (z : CallStep Called). z.gives) it.is in cc)
      by_case (lost it) =
          absurd (let contradiction : ◌≡◌ {A = Got Called} gone to_handler = sym none ∙ ap (λ (z : CallStep Called). z.gives) it.is in cc)

  lowers_by : (g : Got Called) → (performed s n plan.asks).gives ≡ g →
      let did = upshot_by plan n (performed s n plan.asks) g in Lowers (Ok did.progress) n s did.state
  lowers_by (got called) is = shows called (performed s n plan.asks).state
  lowers_by to_handler is = λ a h turn quiet. by_case a (comes h.0 a h.1)
    where
      by_case : {names : Names} (a : AbstractState) → PutOrLost s n plan names a → LowersOrAsksAgain n s (performed s n plan.asks).state
      by_case a (put it) =
          absurd (let contradiction : ◌≡◌ {A = Got Called} to_handler (got (Answered 0)) = sym is ∙ ap (λ (z : CallStep Called). z.gives) it.is in cc)
      by_case a (lost it) = inl (subst (λ (z : CallStep Called). hidden_left z.state n < hidden_left s n) (sym it.is) it.lower)
  lowers_by gone is = tt

  pub delivery_holds : ServiceHolds s n plan
  delivery_holds =
      law_with s n plan service from there (λ called is stays. lives called is) keeps fails (lowers_by (performed s n plan.asks).gives refl)
