-- One that asked the file server with a page answers the word of the reply, which it reads in the record of its own slot.
use Rattle.std.proofs.Common.{◌≡◌, ◌∙◌, ℕ, true, false, [], Some, None, refl, sym, ap, subst}
use Rattle.std.proofs.lemmas.Bool.{false≢true}
use Rattle.jos_base.specs.declared.memory.Access.TheVariants.{Read}
use Rattle.jos_base.specs.declared.registers.Regs.{Regs}
use Rattle.jos_base.specs.KernelState.{KernelState, slot_at}
use Rattle.lib_os.specs.declared.service.Service.{Service}
use Rattle.lib_os.specs.declared.service.Service.TheVariants as service
use Rattle.lib_os.specs.AbstractRun.{abs_step}
use Rattle.lib_os.specs.AbstractState.{AbstractState, Born, born, replied}
use Rattle.lib_os.specs.Answers.{answered}
use Rattle.lib_os.specs.InOrder.{IsInOrder}
use Rattle.lib_os.specs.LibraryCall.{library_step}
use Rattle.lib_os.specs.LibrarySteps.{gone_back, service_answered}
use Rattle.lib_os.specs.Places.{is_handlers, place_of}
use Rattle.lib_os.specs.Rows.{Names}
use Rattle.lib_os.specs.StandsFor.{HasReply, StandsFor, borne_in}
use Rattle.lib_os.proofs.Answering.{back_stands}
use Rattle.lib_os.proofs.Loading.{loaded}
use Rattle.lib_os.proofs.PipesStand.{is_calm}
use Rattle.lib_os.proofs.RequestPages.{asks_with_page}
use Rattle.lib_os.proofs.Serving.{holds_page, service_step, kept_where}
use Rattle.lib_os.proofs.StatesStand.{quiet_stands}
use Rattle.lib_os.proofs.Touching.{touched_quiet}

module _ {names : Names} {s : KernelState} {a : AbstractState} (h : StandsFor names s a) (n : ℕ) (b : Born) (at : a.slots n ≡ born b)
    (outside : is_handlers (slot_at s n).registers.esp ≡ false) (unborne : borne_in (place_of (slot_at s n)) ≡ None)
    (holds : holds_page (place_of (slot_at s n)) ≡ kept_where false) (calm : is_calm (place_of (slot_at s n)) ≡ true)
    (call : Service) (with_page : asks_with_page call ≡ true)
    (has : HasReply (slot_at s n) b call) where
  abbrev reply : ℕ
  reply = (slot_at s n).rendezvous.value

  -- its step
  pub page_reply_step : abs_step a n ≡ Some (answered a n b has.regs reply)
  unfolding library_step
  page_reply_step = service_step a n b has.regs call (replied [] reply) at has.program has.phase has.awake ∙ by_service call with_page
    where
      by_service : (call : Service) → asks_with_page call ≡ true →
          library_step a n b has.regs call (replied [] reply) ≡ Some (answered a n b has.regs reply)
      by_service (service.Remove path) is = refl
      by_service (service.Seek fd offset) is = refl
      by_service (service.SetSize fd size) is = refl
      by_service (service.Write fd va len) is = refl
      by_service (service.Read fd va len) is = refl
      by_service (service.Stat fd va) is = refl
      by_service _ is = absurd (false≢true is)

  -- the state behind the load, when the word is answered
  pub page_reply_stands : (address : ℕ) → IsInOrder (loaded s n address) →
      StandsFor names (service_answered (loaded s n address) n reply) (answered a n b has.regs reply)
  page_reply_stands address order =
      let told : Regs = record has.regs { eax = reply } in
      let same : service_answered (loaded s n address) n reply ≡ gone_back (loaded s n address) n told =
      λ i. gone_back (loaded s n address) n (record (has.registers i) { eax = reply }) in
      let stack : told.esp ≡ (slot_at s n).registers.esp = sym (ap (λ (x : Regs). x.esp) has.registers) in
      let flags : told.eflags ≡ (slot_at s n).registers.eflags = sym (ap (λ (x : Regs). x.eflags) has.registers) in
      let still : StandsFor names (loaded s n address) a = quiet_stands h (touched_quiet s.spaces (slot_at s n).directory address Read) order in
      subst (λ (t : KernelState). StandsFor names t (answered a n b has.regs reply)) (sym same)
      (back_stands still n b at told unborne holds calm has.silent has.awake outside stack flags)
