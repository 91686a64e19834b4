-- send, when it knows its page: what it tries is answered, or it gives up its turn while the other one does not wait for it.
use Rattle.std.proofs.Common.{◌≡◌, ◌≢◌, ◌∙◌, ◌==◌, ◌^◌, ◌<◌, ℕ, Bool, true, false, [], ◌∷◌, sym, ap, refl, subst, arith, if◌then◌else◌}
use Rattle.std.proofs.lemmas.Bool.Decides.{nat_tests}
use Rattle.jos_base.specs.declared.called.Called.{Called}
use Rattle.jos_base.specs.declared.environment.Status.TheVariants.{Runnable}
use Rattle.jos_base.specs.declared.numbers.TheConstants.{SYS_IPC_TRY_SEND, E_IPC_NOT_RECV}
use Rattle.jos_base.specs.Environments.{Slot, is_live}
use Rattle.jos_base.specs.KernelState.{KernelState, slot_at, with_extra, with_status, with_refusal}
use Rattle.jos_base.specs.Words.{negated}
use Rattle.lib_os.specs.declared.numbers.TheConstants.{SERVICE_SEND, SHORT_QUANTUM}
use Rattle.lib_os.specs.declared.place.Place.TheVariants as place
use Rattle.lib_os.specs.declared.place.Step.TheVariants as step
use Rattle.lib_os.specs.declared.progress.Progress.TheVariants as progress
use Rattle.lib_os.specs.declared.service.Service.TheVariants as service
use Rattle.lib_os.specs.AbstractState.{entered}
use Rattle.lib_os.specs.InOrder.{IsInOrder}
use Rattle.lib_os.specs.LibrarySteps.{AbstractFollows, KeepsStanding, NothingRefused, service_answered}
use Rattle.lib_os.specs.Places.{place_of, words_at, is_handlers}
use Rattle.lib_os.specs.Services.{service_of}
use Rattle.lib_os.specs.Rows.{rows_of}
use Rattle.lib_os.specs.InService.{IsIn}
use Rattle.lib_os.specs.StandsFor.{StandsFor, IsTrying, destination_of, borne_in}
use Rattle.lib_os.specs.UserCalls.{CallStep, system}
use Rattle.lib_os.proofs.Calls.{refusal_is_seen}
use Rattle.lib_os.proofs.GoingOn.{in_with_words, words_stand}
use Rattle.jos_base.proofs.Maps.{upd-at}
use Rattle.lib_os.proofs.Numbered.{named_at}
use Rattle.lib_os.proofs.PipesStand.{is_calm}
use Rattle.lib_os.proofs.Serving.{holds_page, printed_nothing, served}
use Rattle.lib_os.proofs.SlotsStand.{born_at, is_piped}
use Rattle.lib_os.proofs.StatesStand.{status_stands}
use Rattle.lib_os.proofs.Tried.{HasTried, goes_on, not_yet, no_table, tried}
use Rattle.lib_os.proofs.Trying.{IsAnswered, try_send_answered}
use Rattle.lib_stage.specs.declared.ask.Next.TheVariants as next
use Rattle.lib_stage.specs.Nexts.{seen_as, settled}
use Rattle.lib_msg.specs.declared.send.SendStage.TheVariants as stage
use Rattle.lib_msg.specs.SendStages.{next_of}

-- ---- it gives up its turn

module _ (s : KernelState) (n id value va perm : ℕ)
    (stands : place_of (slot_at s n) ≡ place.InService (service.Send id value va) (step.Pausing perm)) where
  pub pausing_keeps : KeepsStanding progress.Hidden n s (with_extra (with_status s n Runnable) n (words_at SERVICE_SEND (step.Trying perm))) []
  pausing_keeps a h turn quiet =
      let v = served h.1 n (service.Send id value va) (step.Pausing perm) stands in
      let at : IsTrying (rows_of s.spaces (slot_at s n).directory) (slot_at s n) v.b id value va perm = v.at in
      let ran = status_stands h.1 n v.b v.is at.is_in.awake in
      let w = words_at SERVICE_SEND (step.Trying perm) in
      let slot_is : slot_at (with_status s n Runnable) n ≡ record (slot_at s n) { status = Runnable } =
      upd-at s.environments.slots n (record (slot_at s n) { status = Runnable }) in
      let k : Slot = record (slot_at s n) { status = Runnable } in
      let in_it : IsIn k v.b (service.Send id value va) entered =
      record { program = at.is_in.program; phase = at.is_in.phase; silent = at.is_in.silent; awake = at.is_in.awake } in (
        refl,
        (
          h.0,
          words_stand ran n SERVICE_SEND v.b v.is (born_at ran n v.b v.is)
              (ap (λ (x : Slot). is_handlers x.registers.esp) slot_is ∙ v.outside)
              (ap (λ (x : Slot). borne_in (place_of x)) slot_is ∙ ap borne_in v.place)
              (ap (λ (x : Slot). is_calm (place_of x)) slot_is ∙ ap is_calm v.place) (service.Send id value va) (step.Trying perm)
              (ap (λ (x : Slot). holds_page (place_of x)) slot_is ∙ ap holds_page v.place) refl refl
              (subst (λ (x : Slot). service_of (record x.registers { eax = SERVICE_SEND }) ≡ service.Send id value va) (sym slot_is)
              (named_at (slot_at s n) (service.Send id value va) (step.Pausing perm) stands))
              (subst (λ (x : Slot). IsTrying (rows_of s.spaces x.directory) (record x { extra = w }) v.b id value va perm) (sym slot_is)
              (record { is_in = in_with_words w in_it; some = at.some; other = at.other; page = at.page })),
        ),
      )

-- ---- it tries

abbrev pub send_call : KernelState → ℕ → ℕ → ℕ → ℕ → ℕ → CallStep Called
send_call s n id value va perm = system s n SYS_IPC_TRY_SEND (id ∷ value ∷ destination_of va ∷ perm ∷ 0 ∷ [])

module _ (s : KernelState) (n id value va perm : ℕ)
    (stands : place_of (slot_at s n) ≡ place.InService (service.Send id value va) (step.Trying perm))
    (live : is_live (slot_at s n) ≡ true) (small : value < 2 ^ 32) where
  pub sent : IsAnswered (send_call s n id value va perm) n (slot_at s n).registers
  sent = try_send_answered s n id value (destination_of va) perm (0 ∷ []) live

  abbrev mid : KernelState
  mid = (send_call s n id value va perm).state

  pub trying_keeps : IsInOrder mid →
      let x = next_of id va (stage.Trying perm) sent.answer in KeepsStanding (seen_as x) n s (settled SERVICE_SEND x mid n) []
  trying_keeps order a h turn quiet = by_test (sent.answer == negated E_IPC_NOT_RECV) refl quiet
    where
      outcome : HasTried h.0 s mid a n sent.answer
      outcome =
          let v = served h.1 n (service.Send id value va) (step.Trying perm) stands in
          tried h.1 n v.b v.is id value va perm (0 ∷ []) v.at small v.outside (ap borne_in v.place) (ap holds_page v.place)
          (ap is_calm v.place) (ap is_piped v.place) turn.last mid sent.answer sent.gives refl order

      waits : sent.answer ≡ negated E_IPC_NOT_RECV → HasTried h.0 s mid a n sent.answer →
          AbstractFollows progress.Waited n (with_extra mid n (words_at SERVICE_SEND (step.Pausing perm))) a []
      waits not_received (goes_on other end stepped printed so) = absurd (other not_received)
      waits not_received (no_table other mid_is) = absurd (other not_received)
      waits not_received (not_yet is mid_is may) =
          let v = served h.1 n (service.Send id value va) (step.Trying perm) stands in
          let at : IsTrying (rows_of s.spaces (slot_at s n).directory) (slot_at s n) v.b id value va perm = v.at in
          let words = words_at SERVICE_SEND (step.Pausing perm) in (
            (
              refl,
              (
                h.0,
                subst (λ (t : KernelState). StandsFor h.0 (with_extra t n words) a) (sym mid_is)
                    (words_stand h.1 n SERVICE_SEND v.b v.is v.own v.outside (ap borne_in v.place) (ap is_calm v.place) (service.Send id value va) (step.Pausing perm) (ap holds_page v.place) refl refl
                    (named_at (slot_at s n) (service.Send id value va) (step.Trying perm) stands)
                    (record { is_in = in_with_words words at.is_in; some = at.some; other = at.other; page = at.page })),
              ),
            ),
            may SHORT_QUANTUM,
          )

      over : sent.answer ≢ negated E_IPC_NOT_RECV → NothingRefused s (service_answered mid n sent.answer) → HasTried h.0 s mid a n sent.answer →
          AbstractFollows progress.Finished n (service_answered mid n sent.answer) a []
      over other quiet (goes_on other_word end stepped printed so) = (end, stepped, printed ∙ printed_nothing a, (h.0, so))
      over other quiet (not_yet is mid_is may) = absurd (other is)
      over other quiet (no_table other_word mid_is) =
          let stays : (with_refusal s).refusals ≡ s.refusals = sym (ap (λ (t : KernelState). t.refusals) mid_is) ∙ quiet.stays in
          absurd (refusal_is_seen s (record { stays = stays; could = quiet.could }))

      by_test : (t : Bool) → (sent.answer == negated E_IPC_NOT_RECV) ≡ t →
          let x = if t then next.Wait (step.Pausing perm) else next.Answer sent.answer in
          NothingRefused s (settled SERVICE_SEND x mid n) → AbstractFollows (seen_as x) n (settled SERVICE_SEND x mid n) a []
      by_test true is quiet = waits (grind (arith, nat_tests)) outcome
      by_test false is quiet = over (grind (arith, nat_tests)) quiet outcome
