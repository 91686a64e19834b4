-- The law of write as it loads the next bytes of its buffer, a word or a byte: they are those that its step in the abstract system takes.
use Rattle.std.proofs.Common.{◌≡◌, ◌∙◌, ◌+◌, ◌-◌, ◌%◌, ◌^◌, ◌==◌, ◌≤◌, ℕ, Bool, true, false, refl, sym, ap, subst, arith, if◌then◌else◌}
use Rattle.std.specs.Int.{w32, from_le_bytes}
use Rattle.jos_base.specs.declared.called.Called.{Called}
use Rattle.jos_base.specs.declared.called.Called.TheVariants.{Answered}
use Rattle.jos_base.specs.Environments.{is_live}
use Rattle.jos_base.specs.KernelState.{KernelState, slot_at}
use Rattle.lib_os.specs.declared.numbers.TheConstants.{SERVICE_WRITE}
use Rattle.lib_os.specs.declared.place.Place.TheVariants as place
use Rattle.lib_os.specs.declared.place.Step.TheVariants as step
use Rattle.lib_os.specs.declared.service.Service.{Service}
use Rattle.lib_os.specs.declared.service.Service.TheVariants as service
use Rattle.lib_os.specs.AbstractState.{AbstractState}
use Rattle.lib_os.specs.AbstractMemory.{byte_at}
use Rattle.lib_os.specs.Answers.{moved_at_once}
use Rattle.lib_os.specs.InOrder.{IsInOrder}
use Rattle.lib_os.specs.Places.{place_of}
use Rattle.lib_os.specs.Rows.{Names}
use Rattle.lib_os.specs.StandsFor.{StandsFor}
use Rattle.lib_os.specs.StandsInHandler.{wanted_from}
use Rattle.lib_os.specs.UserCalls.{CallStep, Got, answer_of, gone, got, load_byte, to_handler}
use Rattle.lib_os.proofs.BytesGathered.{gathered, gathered_byte, gathered_byte_stands, gathered_step, gathered_word, gathered_word_stands, taken}
use Rattle.lib_os.proofs.Loading.{loaded}
use Rattle.lib_os.proofs.Serving.{IsServed, printed_nothing, served}
use Rattle.lib_os.proofs.WindowWords.{read_at}
use Rattle.lib_stage.specs.declared.ask.Ask.TheVariants as ask
use Rattle.lib_stage.specs.declared.ask.Next.TheVariants as next
use Rattle.lib_stage.specs.Asks.{frames_of, performed}
use Rattle.lib_stage.specs.ServiceSteps.{Plan, ServiceHolds}
use Rattle.lib_stage.proofs.Laws.{FailsBy, FollowsBy, IsAt, KeepsBy, NeverFaults, is_plain, law_of, law_of_load, plainly, word_read}
use Rattle.lib_file.proofs.Moves.{byte_goes, told_byte}
use Rattle.lib_write.specs.declared.write.WriteStage.TheVariants as stage
use Rattle.lib_write.specs.WriteStages.{writing}

module _ (s : KernelState) (n fd va len start done : ℕ) (live : is_live (slot_at s n) ≡ true)
    (stands : place_of (slot_at s n) ≡ place.InService (service.Write fd va len) (step.GatheringBytes done start)) where
  abbrev write : Service
  write = service.Write fd va len

  -- where the next byte is, and how many are taken at once
  abbrev at_next : ℕ
  at_next = (va + done) % 2 ^ 32

  abbrev moved : ℕ
  moved = moved_at_once at_next (wanted_from start len - done)

  -- by whether they are a word
  abbrev asking : Bool → Plan
  asking word = record {
    number = SERVICE_WRITE;
    asks = if word then ask.Load at_next else ask.LoadByte at_next;
    next = λ called. next.Show (step.KeepingBytes done (answer_of called) moved start);
  }

  here : (word : Bool) → is_plain (asking word).asks ≡ true → frames_of (asking word).asks ≤ 0 → IsAt s n (asking word) write (step.GatheringBytes done start)
  here word plain few = record {
    stands = stands;
    live = live;
    numbered = refl;
    plain = plainly plain;
    goes_on = refl;
    falls = λ called. tt;
    few = omega (arith, few);
  }

  abbrev there : {names : Names} {a : AbstractState} → StandsFor names s a → IsServed names s a n (service.Write fd va len) (step.GatheringBytes done start)
  there h = served h n (service.Write fd va len) (step.GatheringBytes done start) stands

  -- a word
  word_follows : (moved == 4) ≡ true → (names : Names) (a : AbstractState) (h : StandsFor names s a) → IsInOrder (loaded s n at_next) →
      FollowsBy s n (asking true) a (word_read s n at_next (from_le_bytes w32 (taken h n fd va len start done (there h))))
  word_follows test names a h order = (
    gathered h n fd va len start done (there h),
    gathered_step h n fd va len start done (there h),
    printed_nothing a,
    (names, gathered_word_stands h n fd va len start done (there h) test),
  )

  -- a byte
  byte_follows : (moved == 4) ≡ false → (names : Names) (a : AbstractState) (h : StandsFor names s a) →
      FollowsBy s n (asking false) a (told_byte (read_at s n at_next (byte_at a (there h).b at_next)))
  byte_follows test names a h = (
    gathered h n fd va len start done (there h),
    gathered_step h n fd va len start done (there h),
    printed_nothing a,
    (names, gathered_byte_stands h n fd va len start done (there h) test),
  )

  module _ (test : (moved == 4) ≡ false) where
    byte_is : {names : Names} {a : AbstractState} (h : StandsFor names s a) →
        told_byte (load_byte s n at_next) ≡ told_byte (read_at s n at_next (byte_at a (there h).b at_next))
    byte_is h = ap told_byte (gathered_byte h n fd va len start done (there h) test)

    byte_given : {names : Names} {a : AbstractState} (h : StandsFor names s a) →
        (told_byte (load_byte s n at_next)).gives ≡ got (Answered (byte_at a (there h).b at_next))
    byte_given h = ap (λ (z : CallStep Called). z.gives) (byte_is h)

    byte_never : NeverFaults s n (told_byte (load_byte s n at_next))
    byte_never a h turn handled =
        absurd (let contradiction : ◌≡◌ {A = Got Called} to_handler (got (Answered (byte_at a (there h.1).b at_next))) = sym handled ∙ byte_given h.1 in cc)

    byte_keeps : IsInOrder (load_byte s n at_next).state → KeepsBy s n (asking false) (told_byte (load_byte s n at_next))
    byte_keeps order a h turn quiet =
        subst (λ (z : CallStep Called). FollowsBy s n (asking false) a z) (sym (byte_is h.1)) (byte_follows test h.0 a h.1)

    byte_fails : FailsBy s n (asking false) (told_byte (load_byte s n at_next))
    byte_fails may a h turn =
        absurd (let contradiction : ◌≡◌ {A = Got Called} gone (got (Answered (byte_at a (there h.1).b at_next))) = sym may ∙ byte_given h.1 in cc)

  by_ask : (word : Bool) → (moved == 4) ≡ word → ServiceHolds s n (asking word)
  unfolding performed
  by_ask true test =
      law_of_load s n (asking true) write (step.GatheringBytes done start) (here true refl (omega arith)) at_next refl
      (λ names a h. (
        record { word = from_le_bytes w32 (taken h n fd va len start done (there h)); is = gathered_word h n fd va len start done (there h) test },
        word_follows test names a h,
      ))
  by_ask false test =
      law_of s n (asking false) write (step.GatheringBytes done start) (here false refl (omega arith)) (byte_goes s n (asking false) at_next live)
      (byte_never test) (byte_keeps test) (byte_fails test)

  pub gathering_holds : ServiceHolds s n (writing (record { fd = fd; va = va; len = len; at = stage.Gathering done start }))
  gathering_holds = by_ask (moved == 4) refl
