-- What the law of a service says of a step that its driver has made.
use Rattle.std.proofs.Common.{◌≡◌, ◌∙◌, ℕ, false, true, Result, Ok, Err, sym, ap, subst, arith}
use Rattle.std.specs.Prelude.{IfOk, List, Option}
use Rattle.jos_host.specs.declared.host.Failed.{Failed}
use Rattle.jos_host.specs.Frames.{Around, from_to}
use Rattle.jos_host.specs.Told.{HasCause}
use Rattle.jos_base.specs.declared.called.Called.{Called}
use Rattle.jos_base.specs.Environments.{is_live}
use Rattle.jos_base.specs.KernelState.{KernelState, slot_at}
use Rattle.lib_os.specs.declared.progress.Progress.{Progress}
use Rattle.lib_os.specs.declared.user_os.Stop.{Stop}
use Rattle.lib_os.specs.declared.user_os.Stop.TheVariants as stop
use Rattle.lib_os.specs.InOrder.{IsInOrder}
use Rattle.lib_os.specs.LibrarySteps.{IsLibraryStep, IsStopped, KeepsStanding, Leaves, Lowers, GivesUp, TakesByPlace}
use Rattle.lib_os.specs.UserCalls.{Got, got, to_handler, gone, Output, Prints, HasStopCause}
use Rattle.lib_stage.specs.declared.ask.Ask.{Ask}
use Rattle.lib_stage.specs.Asks.{performed, IsPerformed}
use Rattle.lib_stage.specs.Nexts.{settled, seen_as, is_gone}
use Rattle.lib_stage.specs.ServiceSteps.{Plan, Upshot, upshot_by, service_step, IsServiceStep, ServiceHolds}

-- the state behind the call is in order, unless the host failed
abbrev pub IsOrdered : Result Progress Failed → KernelState → ℕ → Plan → Type 0
IsOrdered (Ok done) s n plan = IsInOrder (performed s n plan.asks).state
IsOrdered (Err failed) s n plan = Unit {0}

module _ (s : KernelState) (n : ℕ) (plan : Plan) where
  did_so : (gives : Got Called) → (performed s n plan.asks).gives ≡ gives → service_step s n plan ≡ upshot_by plan n (performed s n plan.asks) gives
  did_so gives is = ap (λ (g : Got Called). upshot_by plan n (performed s n plan.asks) g) is

  -- ---- what the driver makes

  -- what was performed is what the service asks
  pub asked_so : (asked : Ask) (r : Result Called Stop) (mid : KernelState) (output : Output) → asked ≡ plan.asks →
      IsPerformed asked (performed s n asked) r mid output → IsPerformed plan.asks (performed s n plan.asks) r mid output
  asked_so asked r mid output same h = subst (λ (x : Ask). IsPerformed x (performed s n x) r mid output) same h

  module _ (mid : KernelState) (output : Output) where
    pub lives_on : (law : ServiceHolds s n plan) (called : Called) (m : ℕ) → m ≡ n →
        IsPerformed plan.asks (performed s n plan.asks) (Ok called) mid output → is_gone (plan.next called) ≡ false → is_live (slot_at mid m) ≡ true
    lives_on law called m same h stays = (λ i. is_live (slot_at (h.1 i) (same i))) ∙ law.lives called h.0 stays

    pub settled_so : (called : Called) (after : KernelState) (m : ℕ) (done : Progress) → m ≡ n →
        IsPerformed plan.asks (performed s n plan.asks) (Ok called) mid output → done ≡ seen_as (plan.next called) →
        after ≡ settled plan.number (plan.next called) mid m → IsServiceStep (Ok done) s n plan after output
    settled_so called after m done same h seen state =
        let so = did_so (got called) h.0 in (
          seen ∙ sym (ap (λ (d : Upshot). d.progress) so),
          state ∙ (λ i. settled plan.number (plan.next called) (h.1 i) (same i)) ∙ sym (ap (λ (d : Upshot). d.state) so),
          subst (λ (d : Upshot). Prints output d.written) (sym so) h.2,
        )

    pub settled_ordered : (called : Called) → IsPerformed plan.asks (performed s n plan.asks) (Ok called) mid output →
        IsInOrder mid → IsInOrder (performed s n plan.asks).state
    settled_ordered called h order = subst (λ (t : KernelState). IsInOrder t) h.1 order

    pub stopped_so : (e : Stop) (result : Result Progress Failed) → IsPerformed plan.asks (performed s n plan.asks) (Err e) mid output →
        IsStopped e result → IsServiceStep result s n plan mid output
    stopped_so stop.Failed (Err failed) h is = h
    stopped_so stop.Failed (Ok done) h is = absurd is
    stopped_so stop.Upcall (Err failed) h is = absurd is
    stopped_so stop.Upcall (Ok done) h is =
        let so = did_so to_handler h.0 in
        (is ∙ sym (ap (λ (d : Upshot). d.progress) so), h.1 ∙ sym (ap (λ (d : Upshot). d.state) so), subst (λ (d : Upshot). Prints output d.written) (sym so) h.2)
    stopped_so stop.Ended (Err failed) h is = absurd is
    stopped_so stop.Ended (Ok done) h is =
        let so = did_so gone h.0 in
        (is ∙ sym (ap (λ (d : Upshot). d.progress) so), h.1 ∙ sym (ap (λ (d : Upshot). d.state) so), subst (λ (d : Upshot). Prints output d.written) (sym so) h.2)

    pub stopped_ordered : (e : Stop) (result : Result Progress Failed) → IsPerformed plan.asks (performed s n plan.asks) (Err e) mid output →
        IsStopped e result → IsInOrder mid → IsOrdered result s n plan
    stopped_ordered e (Err failed) h is order = tt
    stopped_ordered stop.Failed (Ok done) h is order = absurd is
    stopped_ordered stop.Upcall (Ok done) h is order = subst (λ (t : KernelState). IsInOrder t) h.1 order
    stopped_ordered stop.Ended (Ok done) h is order = subst (λ (t : KernelState). IsInOrder t) h.1 order

  -- ---- what the law says of it

  module _ (law : ServiceHolds s n plan) where
    pub law_step : (result : Result Progress Failed) (after : KernelState) (output : Output) → IsServiceStep result s n plan after output →
        IsOrdered result s n plan → IsLibraryStep result n s after output
    law_step (Ok done) after output h order =
        let did = service_step s n plan in (
          did.written,
          h.2,
          subst (λ (p : Progress). KeepsStanding p n s after did.written) (sym h.0)
              (subst (λ (t : KernelState). KeepsStanding did.progress n s t did.written) (sym h.1) (law.keeps order)),
        )
    law_step (Err failed) after output h order = ((performed s n plan.asks).written, h.1, λ a stands turn. law.fails h.0 a stands turn)

    pub law_leaves : (result : Result Progress Failed) (after : KernelState) (output : Output) → IsServiceStep result s n plan after output →
        Leaves result n s after
    law_leaves (Ok done) after output h =
        subst (λ (p : Progress). Leaves (Ok p) n s after) (sym h.0)
        (subst (λ (t : KernelState). Leaves (Ok (service_step s n plan).progress) n s t) (sym h.1) law.leaves)
    law_leaves (Err failed) after output h = tt

    pub law_lowers : (result : Result Progress Failed) (after : KernelState) (output : Output) → IsServiceStep result s n plan after output →
        Lowers result n s after
    law_lowers (Ok done) after output h =
        subst (λ (p : Progress). Lowers (Ok p) n s after) (sym h.0)
        (subst (λ (t : KernelState). Lowers (Ok (service_step s n plan).progress) n s t) (sym h.1) law.lowers)
    law_lowers (Err failed) after output h = tt

    pub law_gives_up : (result : Result Progress Failed) (after : KernelState) (output : Output) (m : ℕ) → m ≡ n →
        IsServiceStep result s n plan after output → GivesUp result (slot_at s n) (slot_at after m)
    law_gives_up (Ok done) after output m same h =
        subst (λ (q : ℕ). GivesUp (Ok done) (slot_at s n) (slot_at after q)) (sym same)
        (subst (λ (p : Progress). GivesUp (Ok p) (slot_at s n) (slot_at after n)) (sym h.0)
        (subst (λ (t : KernelState). GivesUp (Ok (service_step s n plan).progress) (slot_at s n) (slot_at t n)) (sym h.1) law.gives_up))
    law_gives_up (Err failed) after output m same h = tt

    pub law_takes : (result : Result Progress Failed) (after : KernelState) (output : Output) → IsServiceStep result s n plan after output →
        IfOk result (λ done. TakesByPlace n s after)
    law_takes (Ok done) after output h = subst (λ (t : KernelState). TakesByPlace n s t) (sym h.1) law.takes
    law_takes (Err failed) after output h = tt

-- ---- what is written stays counted so

pub counted_so : (result : Result Progress Failed) (n : ℕ) (before after : KernelState) (console : Around (Option (List ℕ))) (first last counted : ℕ) →
    counted ≡ last → IsLibraryStep result n before after (record { console = console; count = from_to first last }) →
    IsLibraryStep result n before after (record { console = console; count = from_to first counted })
counted_so result n before after console first last counted same h =
    subst (λ (w : ℕ). IsLibraryStep result n before after (record { console = console; count = from_to first w })) (sym same) h

-- ---- why the host failed

pub stop_cause : (e : Stop) (result : Result Progress Failed) (faults : Around ℕ) → IsStopped e result →
    HasStopCause {X = Called} faults (Err e) → HasCause faults.before faults.after result
stop_cause stop.Failed (Err failed) faults is cause = record { later = cause.0; rose = cause.1; stayed = tt }
stop_cause stop.Failed (Ok p) faults is cause = absurd is
stop_cause stop.Upcall (Err failed) faults is cause = absurd is
stop_cause stop.Upcall (Ok p) faults is cause = record { later = omega arith; rose = tt; stayed = cause }
stop_cause stop.Ended (Err failed) faults is cause = absurd is
stop_cause stop.Ended (Ok p) faults is cause = record { later = omega arith; rose = tt; stayed = cause }
