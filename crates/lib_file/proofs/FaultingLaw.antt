-- The law of the step in which a service makes an access that its buffer's page refuses, for read, stat and write: wherever the state stands
-- for an abstract one the access faults, and the handler of page faults gets the fault, which nobody sees.
use Rattle.std.proofs.Common.{◌≡◌, ◌∙◌, ◌+◌, ◌%◌, ◌^◌, ◌<◌, ◌≤◌, ℕ, true, false, inl, Ok, Some, refl, sym, ap, subst, arith}
use Rattle.jos_base.specs.declared.called.Called.{Called}
use Rattle.jos_base.specs.KernelState.{KernelState, slot_at}
use Rattle.jos_base.specs.Words.{page_number}
use Rattle.lib_os.specs.declared.place.Place.TheVariants as place
use Rattle.lib_os.specs.declared.place.Step.{Step}
use Rattle.lib_os.specs.declared.place.Step.TheVariants as step
use Rattle.lib_os.specs.declared.service.Service.{Service}
use Rattle.lib_os.specs.declared.service.Service.TheVariants as service
use Rattle.lib_os.specs.AbstractState.{AbstractState}
use Rattle.lib_os.specs.InOrder.{IsInOrder}
use Rattle.lib_os.specs.Fence.{is_buffer}
use Rattle.lib_os.specs.LibrarySteps.{Lowers, Stands, hidden_left, is_pausing}
use Rattle.lib_os.specs.Places.{place_of}
use Rattle.lib_os.specs.Rows.{Names, is_of_descriptor}
use Rattle.lib_os.specs.StandsFor.{StandsFor}
use Rattle.lib_os.specs.StandsInHandler.{AreSmall}
use Rattle.lib_os.specs.UserCalls.{CallStep, Got, gone, got, to_handler}
use Rattle.lib_os.proofs.BytesRefused.{handing, read_stopped, read_stopped_after, read_stopped_lowers, read_stopped_stands}
use Rattle.lib_os.proofs.BytesRefused.{stat_stopped, stat_stopped_after, stat_stopped_lowers, stat_stopped_stands}
use Rattle.lib_os.proofs.BytesRefused.{write_stopped, write_stopped_after, write_stopped_lowers, write_stopped_stands}
use Rattle.lib_os.proofs.Fences.{buffer_below, buffer_each}
use Rattle.lib_os.proofs.Logical.{inside_programs, programs_no_descriptor}
use Rattle.lib_os.proofs.Serving.{served}
use Rattle.lib_stage.specs.declared.ask.Ask.{Ask}
use Rattle.lib_stage.specs.declared.ask.Ask.TheVariants as ask
use Rattle.lib_stage.specs.declared.ask.Next.TheVariants as next
use Rattle.lib_stage.specs.Asks.{MayFail, frames_of, performed, told_as}
use Rattle.lib_stage.specs.ServiceSteps.{Plan, ServiceHolds, upshot_by}
use Rattle.lib_stage.proofs.Laws.{FailsBy, FollowsBy, IsPlain, KeepsBy, StandsThere, law_with, plainly, store_byte_aside}
use Rattle.lib_file.proofs.Finds.{staged}

-- An access that the handler gets: the state behind it stands for the same abstract one, and fewer hidden steps are left.
pub record IsHandedOver (s : KernelState) (n : ℕ) (names : Names) (a : AbstractState) (call : CallStep Called) : Type 0 where
  pub after : KernelState
  pub is : call ≡ handing after
  pub stands : IsInOrder after → s.last ≡ Some n → StandsFor names after a
  pub lower : hidden_left after n < hidden_left s n

module _ (s : KernelState) (n : ℕ) (service : Service) (from : Step) (stands : place_of (slot_at s n) ≡ place.InService service from)
    (steady : is_pausing (place.InService service from) ≡ false) (asks : Ask) (plain : IsPlain s n asks)
    (few : frames_of asks ≤ 0) (fails_gone : MayFail asks (performed s n asks).gives → (performed s n asks).gives ≡ gone)
    (handed : (names : Names) (a : AbstractState) → StandsFor names s a → IsHandedOver s n names a (performed s n asks)) where
  abbrev plan : Plan
  plan = staged service asks (λ w. next.Gone)

  there : StandsThere s n plan service from
  there = record { stands = stands; plain = plain; goes_on = steady; few = omega (arith, few) }

  keeps : IsInOrder (performed s n asks).state → KeepsBy s n plan (performed s n asks)
  keeps order a h turn quiet =
      let it = handed h.0 a h.1 in
      subst (λ (z : CallStep Called). FollowsBy s n plan a z) (sym it.is)
      (refl, (h.0, it.stands (subst (λ (t : KernelState). IsInOrder t) (ap (λ (z : CallStep Called). z.state) it.is) order) turn.last))

  fails : FailsBy s n plan (performed s n asks)
  fails may a h turn =
      let it = handed h.0 a h.1 in
      absurd (let contradiction : ◌≡◌ {A = Got Called} gone to_handler = sym (fails_gone may) ∙ ap (λ (z : CallStep Called). z.gives) it.is in cc)

  lowers_by : (g : Got Called) → let did = upshot_by plan n (performed s n asks) g in Lowers (Ok did.progress) n s did.state
  lowers_by (got called) = tt
  lowers_by to_handler = λ a h turn quiet.
      let it = handed h.0 a h.1 in
      inl (subst (λ (z : CallStep Called). hidden_left z.state n < hidden_left s n) (sym it.is) it.lower)
  lowers_by gone = tt

  pub handed_holds : ServiceHolds s n plan
  handed_holds =
      law_with s n plan service from there
      (λ called is stays. absurd (let contradiction : true ≡ false = stays in cc)) keeps fails (lowers_by (performed s n asks).gives)

-- a byte that a program may touch lies on no page of a descriptor's
inside_aside : (at len : ℕ) → is_buffer at len ≡ true → 0 < len → is_of_descriptor (page_number (at % 2 ^ 32)) ≡ false
inside_aside at len inside some =
    let end = buffer_below at len inside some in
    let same : at % 2 ^ 32 ≡ at = omega (arith, end, some) in
    ap (λ (q : ℕ). is_of_descriptor (page_number q)) same
    ∙ programs_no_descriptor (page_number at) (inside_programs at (buffer_each at len at inside (omega arith) (omega (arith, some))))

-- ---- each of the three

module _ (s : KernelState) (n : ℕ) (small : AreSmall (slot_at s n).registers) (done word : ℕ) where
  module _ (fd va len : ℕ) (stands : place_of (slot_at s n) ≡ place.InService (service.Read fd va len) (step.Faulting done word)) (byte : ℕ) where
    -- the byte lies where a program may touch it, and so on no page of a descriptor's
    read_aside : (a : AbstractState) → Stands s a → is_of_descriptor (page_number ((va + done) % 2 ^ 32)) ≡ false
    read_aside a h =
        let v = served h.1 n (service.Read fd va len) (step.Faulting done word) stands in
        inside_aside (va + done) _ v.at.0.inside v.at.0.some

    read_handed : (names : Names) (a : AbstractState) → StandsFor names s a →
        IsHandedOver s n names a (performed s n (ask.StoreByte ((va + done) % 2 ^ 32) byte))
    unfolding performed
    read_handed names a h =
        let v = served h n (service.Read fd va len) (step.Faulting done word) stands in
        record {
          after = read_stopped_after h n fd va len done word v;
          is = ap (λ (z : CallStep (Unit {0})). told_as (λ x. 0) z) (read_stopped h n fd va len done word v byte);
          stands = read_stopped_stands h n fd va len done word v small;
          lower = read_stopped_lowers h n fd va len done word v;
        }

    pub read_faulting_holds : ServiceHolds s n (staged (service.Read fd va len) (ask.StoreByte ((va + done) % 2 ^ 32) byte) (λ w. next.Gone))
    read_faulting_holds =
        handed_holds s n (service.Read fd va len) (step.Faulting done word) stands refl (ask.StoreByte ((va + done) % 2 ^ 32) byte)
        (store_byte_aside s n ((va + done) % 2 ^ 32) byte read_aside) (omega arith)
        (λ may. may) read_handed

  module _ (fd va : ℕ) (stands : place_of (slot_at s n) ≡ place.InService (service.Stat fd va) (step.Faulting done word)) (byte : ℕ) where
    -- the byte lies where a program may touch it, and so on no page of a descriptor's
    stat_aside : (a : AbstractState) → Stands s a → is_of_descriptor (page_number ((va + done) % 2 ^ 32)) ≡ false
    stat_aside a h =
        let v = served h.1 n (service.Stat fd va) (step.Faulting done word) stands in
        inside_aside (va + done) _ v.at.0.inside v.at.0.some

    stat_handed : (names : Names) (a : AbstractState) → StandsFor names s a →
        IsHandedOver s n names a (performed s n (ask.StoreByte ((va + done) % 2 ^ 32) byte))
    unfolding performed
    stat_handed names a h =
        let v = served h n (service.Stat fd va) (step.Faulting done word) stands in
        record {
          after = stat_stopped_after h n fd va done word v;
          is = ap (λ (z : CallStep (Unit {0})). told_as (λ x. 0) z) (stat_stopped h n fd va done word v byte);
          stands = stat_stopped_stands h n fd va done word v small;
          lower = stat_stopped_lowers h n fd va done word v;
        }

    pub stat_faulting_holds : ServiceHolds s n (staged (service.Stat fd va) (ask.StoreByte ((va + done) % 2 ^ 32) byte) (λ w. next.Gone))
    stat_faulting_holds =
        handed_holds s n (service.Stat fd va) (step.Faulting done word) stands refl (ask.StoreByte ((va + done) % 2 ^ 32) byte)
        (store_byte_aside s n ((va + done) % 2 ^ 32) byte stat_aside) (omega arith)
        (λ may. may) stat_handed

  module _ (fd va len : ℕ) (stands : place_of (slot_at s n) ≡ place.InService (service.Write fd va len) (step.Faulting done word)) where
    write_handed : (names : Names) (a : AbstractState) → StandsFor names s a →
        IsHandedOver s n names a (performed s n (ask.LoadByte ((va + done) % 2 ^ 32)))
    unfolding performed
    write_handed names a h =
        let v = served h n (service.Write fd va len) (step.Faulting done word) stands in
        record {
          after = write_stopped_after h n fd va len done word v;
          is = ap (λ (z : CallStep ℕ). told_as (λ byte. byte) z) (write_stopped h n fd va len done word v);
          stands = write_stopped_stands h n fd va len done word v small;
          lower = write_stopped_lowers h n fd va len done word v;
        }

    pub write_faulting_holds : ServiceHolds s n (staged (service.Write fd va len) (ask.LoadByte ((va + done) % 2 ^ 32)) (λ w. next.Gone))
    write_faulting_holds =
        handed_holds s n (service.Write fd va len) (step.Faulting done word) stands refl (ask.LoadByte ((va + done) % 2 ^ 32)) (plainly refl) (omega arith)
        (λ may. may) write_handed
