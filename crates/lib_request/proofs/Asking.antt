-- sync, up to where it has asked: the word of its request comes to the server, or it gives up its turn and asks again.
use Rattle.std.proofs.Common.{◌≡◌, ◌∙◌, ◌==◌, ◌⊎◌, inl, inr, ℕ, Bool, true, false, not, [], ◌∷◌, refl, ap, arith, if◌then◌else◌}
use Rattle.std.proofs.lemmas.Bool.Decides.{nat_tests}
use Rattle.jos_base.specs.declared.called.Called.TheVariants.{Answered}
use Rattle.jos_base.specs.declared.numbers.TheConstants.{E_IPC_NOT_RECV, FIRST_ENV_ID, UTOP}
use Rattle.jos_base.specs.Environments.{is_live}
use Rattle.jos_base.specs.KernelState.{KernelState, slot_at}
use Rattle.jos_base.specs.Words.{negated}
use Rattle.lib_os.specs.declared.numbers.TheConstants.{FSREQ_SYNC, SERVICE_SYNC}
use Rattle.lib_os.specs.declared.place.Place.TheVariants as place
use Rattle.lib_os.specs.declared.place.Step.TheVariants as step
use Rattle.lib_os.specs.declared.service.Service.TheVariants as service
use Rattle.lib_os.specs.AbstractState.{entered}
use Rattle.lib_os.specs.LibrarySteps.{KeepsStanding}
use Rattle.lib_os.specs.Places.{place_of, words_at}
use Rattle.lib_os.specs.InService.{IsIn}
use Rattle.lib_os.specs.StandsFor.{borne_in}
use Rattle.lib_os.specs.UserCalls.{got}
use Rattle.lib_os.proofs.GoingOn.{in_with_words, words_stand}
use Rattle.lib_os.proofs.Numbered.{named_at}
use Rattle.lib_os.proofs.PipesStand.{is_calm}
use Rattle.lib_os.proofs.ServerAsked.{ask_call, asked_keeps, asking_answer, waiting_keeps}
use Rattle.lib_os.proofs.Serving.{holds_page, served}
use Rattle.lib_os.proofs.Trying.{IsAnswered, try_send_answered}
use Rattle.lib_stage.specs.declared.ask.Next.TheVariants as next
use Rattle.lib_stage.specs.Nexts.{seen_as, settled}
use Rattle.lib_request.specs.declared.sync.SyncStage.TheVariants as stage
use Rattle.lib_request.specs.SyncStages.{next_of}

-- ---- it knows its id

module _ (s : KernelState) (n : ℕ) (stands : place_of (slot_at s n) ≡ place.InService service.Sync step.Entered) where
  abbrev own : ℕ
  own = (slot_at s n).id

  pub entered_keeps : let x = next_of stage.Entered own in KeepsStanding (seen_as x) n s (settled SERVICE_SYNC x s n) []
  entered_keeps a h turn quiet =
      let v = served h.1 n service.Sync step.Entered stands in
      let here : IsIn (slot_at s n) v.b service.Sync entered = v.at in (
        refl,
        (
          h.0,
          words_stand h.1 n SERVICE_SYNC v.b v.is v.own v.outside (ap borne_in v.place) (ap is_calm v.place) service.Sync (step.Asking own)
              (ap holds_page v.place) refl refl (named_at (slot_at s n) service.Sync step.Entered stands)
              (refl, in_with_words (words_at SERVICE_SYNC (step.Asking own)) here),
        ),
      )

-- ---- it asks

module _ (s : KernelState) (n id : ℕ) (stands : place_of (slot_at s n) ≡ place.InService service.Sync (step.Asking id))
    (live : is_live (slot_at s n) ≡ true) where
  pub tried : IsAnswered (ask_call s n) n (slot_at s n).registers
  tried = try_send_answered s n FIRST_ENV_ID FSREQ_SYNC UTOP 0 (0 ∷ []) live

  -- what it was answered
  given : (word : ℕ) → tried.answer ≡ word → (ask_call s n).gives ≡ got (Answered word)
  given word is = tried.gives ∙ ap (λ (w : ℕ). got (Answered w)) is

  pub asking_keeps : let x = next_of (stage.Asking id) tried.answer in KeepsStanding (seen_as x) n s (settled SERVICE_SYNC x (ask_call s n).state n) []
  asking_keeps = by_test (tried.answer == negated E_IPC_NOT_RECV) (tried.answer == 0) refl refl
    where
      by_test : (t u : Bool) → (tried.answer == negated E_IPC_NOT_RECV) ≡ t → (tried.answer == 0) ≡ u →
          let x = if t then next.Wait (step.Pausing id) else if not u then next.Answer tried.answer else next.Show (step.Awaiting id) in
          KeepsStanding (seen_as x) n s (settled SERVICE_SYNC x (ask_call s n).state n) []
      by_test true u vain zero = waiting_keeps s n id stands (given (negated E_IPC_NOT_RECV) (grind (arith, nat_tests, vain)))
      by_test false true off zero = asked_keeps s n id stands (given 0 (grind (arith, nat_tests, zero)))
      by_test false false off some = λ a h turn quiet. absurd (neither (asking_answer s n id stands a h tried.answer tried.gives))
        where
          neither : (tried.answer ≡ 0) ⊎ (tried.answer ≡ negated E_IPC_NOT_RECV) → ⊥
          neither (inl is) = grind (arith, nat_tests, is, some)
          neither (inr is) = grind (arith, nat_tests, is, off)
