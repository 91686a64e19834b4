-- The handler reads the frame of the fault: the address, the error code, and the program's EIP.
use Rattle.std.proofs.Common.{◌≡◌, ◌∙◌, ◌==◌, ◌<◌, ℕ, Bool, true, false, refl, ap, arith, get_or}
use Rattle.std.proofs.lemmas.Bool.Decides.{nat_tests}
use Rattle.jos_base.specs.declared.memory.PageFault.{PageFault}
use Rattle.jos_base.specs.declared.numbers.TheConstants.{UTRAPFRAME_WORDS}
use Rattle.jos_base.specs.declared.registers.Regs.{Regs}
use Rattle.jos_base.specs.Environments.{is_live}
use Rattle.jos_base.specs.KernelState.{KernelState, slot_at}
use Rattle.jos_base.specs.TrapFrames.{frame_words}
use Rattle.lib_os.specs.declared.place.HandlerStep.{HandlerStep}
use Rattle.lib_os.specs.declared.place.HandlerStep.TheVariants as handler
use Rattle.lib_os.specs.declared.place.Place.TheVariants as place
use Rattle.lib_os.specs.AbstractState.{AbstractState}
use Rattle.lib_os.specs.InOrder.{IsInOrder}
use Rattle.lib_os.specs.Places.{place_of}
use Rattle.lib_os.specs.Rows.{Names}
use Rattle.lib_os.specs.StandsFor.{StandsFor, view_of}
use Rattle.lib_os.specs.StandsInHandler.{CopiesOrEnds, copies, ends}
use Rattle.lib_os.specs.UserCalls.{load}
use Rattle.lib_os.proofs.Handled.{IsHandled, handler_slot}
use Rattle.lib_os.proofs.HandlerGoes.{copies_go, ends_go}
use Rattle.lib_os.proofs.PageWords.{load_frame_word}
use Rattle.lib_os.proofs.WindowWords.{read_at}
use Rattle.lib_stage.specs.Asks.{performed}
use Rattle.lib_stage.proofs.Laws.{FailsBy, KeepsBy, NeverFaults}
use Rattle.lib_fault.specs.HandlerStages.{ask_of, frame_word, handling, refused_write}
use Rattle.lib_fault.proofs.Loads.{Reads, load_keeps, load_fails, load_never}

-- ---- the words of the frame

word_is_address : (fault : PageFault) (regs : Regs) → get_or (frame_words fault regs) 0 0 ≡ fault.va
unfolding frame_words
word_is_address fault regs = refl

word_is_error : (fault : PageFault) (regs : Regs) → get_or (frame_words fault regs) 1 0 ≡ fault.error
unfolding frame_words
word_is_error fault regs = refl

word_is_eip : (fault : PageFault) (regs : Regs) → get_or (frame_words fault regs) 10 0 ≡ regs.eip
unfolding frame_words
word_is_eip fault regs = refl

module _ (s : KernelState) (n : ℕ) where
  module _ (names : Names) (a : AbstractState) (h : StandsFor names s a) (from : HandlerStep) (v : IsHandled names s a n from) where
    loads : (i word : ℕ) → i < UTRAPFRAME_WORDS → get_or (frame_words v.at.fault v.at.regs) i 0 ≡ word →
        load s n (frame_word i) ≡ read_at s n (frame_word i) word
    loads i word lt is = load_frame_word h n from v i lt ∙ ap (λ (w : ℕ). read_at s n (frame_word i) w) is

    -- the way on which it is, before, and at another step
    abbrev Before : Type 0
    Before = CopiesOrEnds from (view_of s.spaces (slot_at s n).directory) (slot_at s n) v.b v.at.fault v.at.regs

    abbrev Way : HandlerStep → Type 0
    Way to = CopiesOrEnds to (view_of s.spaces (slot_at s n).directory) (handler_slot (slot_at s n) to) v.b v.at.fault v.at.regs

  -- ---- the address

  address_read : (names : Names) (a : AbstractState) (h : StandsFor names s a) (v : IsHandled names s a n handler.Entered) →
      Reads n (frame_word 0) handler.Entered v
  address_read names a h v = record {
    word = v.at.fault.va;
    is = loads names a h handler.Entered v 0 v.at.fault.va (omega arith) (word_is_address v.at.fault v.at.regs);
    to = handler.ReadingError v.at.fault.va;
    leads = refl;
    alike = record { there = tt; plain = refl; plain_to = refl; upcall = refl; copy = refl };
    way = by_way v.at.way;
  }
    where
      by_way : Before names a h handler.Entered v → Way names a h handler.Entered v (handler.ReadingError v.at.fault.va)
      by_way (copies way) = copies (copies_go way (refl, way.at))
      by_way (ends way) = ends (ends_go way refl)

  module _ (live : is_live (slot_at s n) ≡ true) (stands : place_of (slot_at s n) ≡ place.InHandler handler.Entered) where
    pub entered_keeps : IsInOrder (performed s n (ask_of handler.Entered)).state →
        KeepsBy s n (handling handler.Entered) (performed s n (ask_of handler.Entered))
    entered_keeps = load_keeps s n (frame_word 0) handler.Entered refl stands address_read

    pub entered_fails : FailsBy s n (handling handler.Entered) (performed s n (ask_of handler.Entered))
    entered_fails = load_fails s n (frame_word 0) handler.Entered refl stands address_read

    pub entered_never : NeverFaults s n (performed s n (ask_of handler.Entered))
    entered_never = load_never s n (frame_word 0) handler.Entered refl stands address_read

  -- ---- the error code

  module _ (va : ℕ) where
    abbrev reading : HandlerStep
    reading = handler.ReadingError va

    error_read : (names : Names) (a : AbstractState) (h : StandsFor names s a) (v : IsHandled names s a n reading) → Reads n (frame_word 1) reading v
    error_read names a h v = by_way v.at.way (v.at.fault.error == refused_write) refl
      where
        is : load s n (frame_word 1) ≡ read_at s n (frame_word 1) v.at.fault.error
        is = loads names a h reading v 1 v.at.fault.error (omega arith) (word_is_error v.at.fault v.at.regs)

        -- a write that the entry of its page has refused
        looks : (v.at.fault.error == refused_write) ≡ true → Way names a h reading v (handler.Looking va) → Reads n (frame_word 1) reading v
        looks test way = record {
          word = v.at.fault.error;
          is = is;
          to = handler.Looking va;
          leads = rw test refl;
          alike = record { there = tt; plain = refl; plain_to = refl; upcall = refl; copy = refl };
          way = way;
        }

        gives_up : (v.at.fault.error == refused_write) ≡ false → Way names a h reading v (handler.ReadingIp va v.at.fault.error) →
            Reads n (frame_word 1) reading v
        gives_up test way = record {
          word = v.at.fault.error;
          is = is;
          to = handler.ReadingIp va v.at.fault.error;
          leads = rw test refl;
          alike = record { there = tt; plain = refl; plain_to = refl; upcall = refl; copy = refl };
          way = way;
        }

        by_way : Before names a h reading v → (t : Bool) → (v.at.fault.error == refused_write) ≡ t → Reads n (frame_word 1) reading v
        by_way (copies way) true test = looks test (copies (copies_go way way.at))
        by_way (copies way) false test = let error = way.error in absurd (grind (arith, nat_tests))
        by_way (ends way) true test =
            let error : v.at.fault.error ≡ refused_write = grind (arith, nat_tests) in looks test (ends (ends_go way (way.at, error)))
        by_way (ends way) false test = gives_up test (ends (ends_go way (way.at, refl)))

    module _ (live : is_live (slot_at s n) ≡ true) (stands : place_of (slot_at s n) ≡ place.InHandler reading) where
      pub reading_error_keeps : IsInOrder (performed s n (ask_of reading)).state → KeepsBy s n (handling reading) (performed s n (ask_of reading))
      reading_error_keeps = load_keeps s n (frame_word 1) reading refl stands error_read

      pub reading_error_fails : FailsBy s n (handling reading) (performed s n (ask_of reading))
      reading_error_fails = load_fails s n (frame_word 1) reading refl stands error_read

      pub reading_error_never : NeverFaults s n (performed s n (ask_of reading))
      reading_error_never = load_never s n (frame_word 1) reading refl stands error_read

  -- ---- EIP of the program

  module _ (va error : ℕ) where
    abbrev reading_ip : HandlerStep
    reading_ip = handler.ReadingIp va error

    ip_read : (names : Names) (a : AbstractState) (h : StandsFor names s a) (v : IsHandled names s a n reading_ip) →
        Reads n (frame_word 10) reading_ip v
    ip_read names a h v = record {
      word = v.at.regs.eip;
      is = loads names a h reading_ip v 10 v.at.regs.eip (omega arith) (word_is_eip v.at.fault v.at.regs);
      to = handler.Unsetting va error v.at.regs.eip;
      leads = refl;
      alike = record { there = tt; plain = refl; plain_to = refl; upcall = refl; copy = refl };
      way = by_way v.at.way;
    }
      where
        by_way : Before names a h reading_ip v → Way names a h reading_ip v (handler.Unsetting va error v.at.regs.eip)
        by_way (copies way) = absurd way.at
        by_way (ends way) = ends (ends_go way (way.at.0, way.at.1, refl))

    module _ (live : is_live (slot_at s n) ≡ true) (stands : place_of (slot_at s n) ≡ place.InHandler reading_ip) where
      pub reading_ip_keeps : IsInOrder (performed s n (ask_of reading_ip)).state →
          KeepsBy s n (handling reading_ip) (performed s n (ask_of reading_ip))
      reading_ip_keeps = load_keeps s n (frame_word 10) reading_ip refl stands ip_read

      pub reading_ip_fails : FailsBy s n (handling reading_ip) (performed s n (ask_of reading_ip))
      reading_ip_fails = load_fails s n (frame_word 10) reading_ip refl stands ip_read

      pub reading_ip_never : NeverFaults s n (performed s n (ask_of reading_ip))
      reading_ip_never = load_never s n (frame_word 10) reading_ip refl stands ip_read
