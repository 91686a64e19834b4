-- The law of a service as it loads the next bytes of the path that it is given, a word or a byte: they are those that its step in the abstract system takes. Where
-- none may follow it gives its page back, and refuses its path.
use Rattle.std.proofs.Common.{◌≡◌, ◌∙◌, ◌+◌, ◌-◌, ◌%◌, ◌^◌, ◌==◌, ◌≤◌, ℕ, Bool, true, false, not, [], ◌∷◌, refl, sym, ap, subst, arith}
use Rattle.std.proofs.Common.{if◌then◌else◌}
use Rattle.std.specs.Int.{w32, from_le_bytes}
use Rattle.jos_base.specs.declared.called.Called.{Called}
use Rattle.jos_base.specs.declared.called.Called.TheVariants.{Answered}
use Rattle.jos_base.specs.declared.numbers.TheConstants.{SYS_PAGE_UNMAP, UTEMP}
use Rattle.jos_base.specs.Environments.{is_live}
use Rattle.jos_base.specs.KernelState.{KernelState, slot_at}
use Rattle.jos_base.specs.Words.{negated}
use Rattle.fs_layout.specs.declared.numbers.TheConstants.{MAXPATHLEN}
use Rattle.lib_os.specs.declared.place.Place.TheVariants as place
use Rattle.lib_os.specs.declared.place.Step.TheVariants as step
use Rattle.lib_os.specs.declared.service.Service.{Service}
use Rattle.lib_os.specs.AbstractState.{AbstractState}
use Rattle.lib_os.specs.AbstractMemory.{byte_at}
use Rattle.lib_os.specs.Answers.{moved_at_once}
use Rattle.lib_os.specs.InOrder.{IsInOrder}
use Rattle.lib_os.specs.Places.{place_of}
use Rattle.lib_os.specs.Rows.{Names}
use Rattle.lib_os.specs.StandsFor.{StandsFor}
use Rattle.lib_os.specs.StandsInHandler.{AreSmall, buffer_of, may_follow}
use Rattle.lib_os.proofs.PathServices.{has_path}
use Rattle.lib_os.specs.UserCalls.{CallStep, Got, answer_of, gone, got, load_byte, to_handler}
use Rattle.lib_os.proofs.Loading.{loaded}
use Rattle.lib_os.proofs.Numbered.{number_of}
use Rattle.lib_os.proofs.PageGiven.{give_is, give_lives}
use Rattle.lib_os.proofs.PathGathered.{path_gathered, path_gathered_byte, path_gathered_byte_stands, path_gathered_step, path_gathered_word}
use Rattle.lib_os.proofs.PathGathered.{path_gathered_word_stands, path_taken}
use Rattle.lib_os.proofs.PathRefused.{path_refused_keeps, path_small}
use Rattle.lib_os.proofs.Serving.{IsServed, printed_nothing, served}
use Rattle.lib_os.proofs.WindowWords.{read_at}
use Rattle.lib_stage.specs.declared.ask.Ask.TheVariants as ask
use Rattle.lib_stage.specs.declared.ask.Next.TheVariants as next
use Rattle.lib_stage.specs.Asks.{frames_of, performed}
use Rattle.lib_stage.specs.ServiceSteps.{Plan, ServiceHolds}
use Rattle.lib_stage.proofs.Laws.{FailsBy, Falls, FollowsBy, IsAt, KeepsBy, NeverFaults, is_plain, law_of, law_of_call, law_of_load, plainly, word_read}
use Rattle.lib_file.proofs.Finds.{staged}
use Rattle.lib_file.proofs.Moves.{byte_goes, told_byte}
use Rattle.lib_request.specs.PageRequests.{clearing_asked}
use Rattle.lib_request.specs.PathStages.{follows, gathering_asked, next_of_gathering, refusal}
use Rattle.lib_request.proofs.PathFollows.{follows_is, path_steady}

module _ (s : KernelState) (n : ℕ) (call : Service) (takes : has_path call ≡ true) (done : ℕ) (live : is_live (slot_at s n) ≡ true)
    (small : AreSmall (slot_at s n).registers) (stands : place_of (slot_at s n) ≡ place.InService call (step.Gathering done)) where
  abbrev path : ℕ
  path = buffer_of call

  -- where the next byte is, and how many are taken at once
  abbrev at_next : ℕ
  at_next = (path + done) % 2 ^ 32

  abbrev moved : ℕ
  moved = moved_at_once at_next (MAXPATHLEN - done)

  -- by whether one may follow, and whether they are a word
  abbrev asking : Bool → Bool → Plan
  asking more word = record {
    number = number_of call;
    asks = if not more then clearing_asked else if word then ask.Load at_next else ask.LoadByte at_next;
    next = λ called. if not more then next.Answer (negated (refusal done)) else next.Show (step.Keeping done (answer_of called) moved);
  }

  asking_falls : (more word : Bool) (called : Called) → Falls call (step.Gathering done) ((asking more word).next called)
  asking_falls true word called = tt
  asking_falls false word called = tt

  here : (more word : Bool) → is_plain (asking more word).asks ≡ true → frames_of (asking more word).asks ≤ 0 →
      IsAt s n (asking more word) call (step.Gathering done)
  here more word plain few = record {
    stands = stands;
    live = live;
    numbered = refl;
    plain = plainly plain;
    goes_on = path_steady call takes (step.Gathering done) refl;
    falls = asking_falls more word;
    few = omega (arith, few);
  }

  -- as its bytes tell it
  may_is : (t : Bool) → follows path done ≡ t → may_follow path done ≡ t
  may_is t is = sym (follows_is path done (path_small s n call takes (step.Gathering done) stands small)) ∙ is

  abbrev there : {names : Names} {a : AbstractState} → StandsFor names s a → IsServed names s a n call (step.Gathering done)
  there h = served h n call (step.Gathering done) stands

  -- ---- another may follow

  module _ (more : may_follow path done ≡ true) where
    -- a word
    word_follows : (moved == 4) ≡ true → (names : Names) (a : AbstractState) (h : StandsFor names s a) → IsInOrder (loaded s n at_next) →
        FollowsBy s n (asking true true) a (word_read s n at_next (from_le_bytes w32 (path_taken h n call takes done (there h) more)))
    word_follows test names a h order = (
      path_gathered h n call takes done (there h) more,
      path_gathered_step h n call takes done (there h) more,
      printed_nothing a,
      (names, path_gathered_word_stands h n call takes done (there h) more test),
    )

    -- a byte
    byte_follows : (moved == 4) ≡ false → (names : Names) (a : AbstractState) (h : StandsFor names s a) →
        FollowsBy s n (asking true false) a (told_byte (read_at s n at_next (byte_at a (there h).b at_next)))
    byte_follows test names a h = (
      path_gathered h n call takes done (there h) more,
      path_gathered_step h n call takes done (there h) more,
      printed_nothing a,
      (names, path_gathered_byte_stands h n call takes done (there h) more test),
    )

    module _ (test : (moved == 4) ≡ false) where
      byte_is : {names : Names} {a : AbstractState} (h : StandsFor names s a) →
          told_byte (load_byte s n at_next) ≡ told_byte (read_at s n at_next (byte_at a (there h).b at_next))
      byte_is h = ap told_byte (path_gathered_byte h n call takes done (there h) more test)

      byte_given : {names : Names} {a : AbstractState} (h : StandsFor names s a) →
          (told_byte (load_byte s n at_next)).gives ≡ got (Answered (byte_at a (there h).b at_next))
      byte_given h = ap (λ (z : CallStep Called). z.gives) (byte_is h)

      byte_never : NeverFaults s n (told_byte (load_byte s n at_next))
      byte_never a h turn handled =
          absurd (let contradiction : ◌≡◌ {A = Got Called} to_handler (got (Answered (byte_at a (there h.1).b at_next))) = sym handled ∙ byte_given h.1 in cc)

      byte_keeps : IsInOrder (load_byte s n at_next).state → KeepsBy s n (asking true false) (told_byte (load_byte s n at_next))
      byte_keeps order a h turn quiet =
          subst (λ (z : CallStep Called). FollowsBy s n (asking true false) a z) (sym (byte_is h.1)) (byte_follows test h.0 a h.1)

      byte_fails : FailsBy s n (asking true false) (told_byte (load_byte s n at_next))
      byte_fails may a h turn =
          absurd (let contradiction : ◌≡◌ {A = Got Called} gone (got (Answered (byte_at a (there h.1).b at_next))) = sym may ∙ byte_given h.1 in cc)

    by_word : (word : Bool) → (moved == 4) ≡ word → ServiceHolds s n (asking true word)
    unfolding performed
    by_word true test =
        law_of_load s n (asking true true) call (step.Gathering done) (here true true refl (omega arith)) at_next refl
        (λ names a h. (
          record {
            word = from_le_bytes w32 (path_taken h n call takes done (there h) more);
            is = path_gathered_word h n call takes done (there h) more test;
          },
          word_follows test names a h,
        ))
    by_word false test =
        law_of s n (asking true false) call (step.Gathering done) (here true false refl (omega arith))
        (byte_goes s n (asking true false) at_next live) (byte_never test) (byte_keeps test) (byte_fails test)

  -- ---- none may

  refusing : (word : Bool) → may_follow path done ≡ false → ServiceHolds s n (asking false word)
  refusing word ends =
      law_of_call s n (asking false word) call (step.Gathering done) (here false word refl (omega arith)) SYS_PAGE_UNMAP
      (0 ∷ UTEMP ∷ 0 ∷ 0 ∷ 0 ∷ []) refl refl (give_lives s n live)
      (subst (λ (z : CallStep Called). IsInOrder z.state → KeepsBy s n (asking false word) z) (sym (give_is s n live))
      (λ order. path_refused_keeps s n call takes done stands small ends order))

  by_follows : (more : Bool) → follows path done ≡ more → ServiceHolds s n (asking more (moved == 4))
  by_follows true is = by_word (may_is true is) (moved == 4) refl
  by_follows false is = refusing (moved == 4) (may_is false is)

  pub gathering_holds : ServiceHolds s n (staged call (gathering_asked (buffer_of call) done) (λ word. next_of_gathering (buffer_of call) done word))
  gathering_holds = by_follows (follows path done) refl
