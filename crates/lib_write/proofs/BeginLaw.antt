-- The law of write until its page is there: what its descriptor names, by which it is refused, has nothing to write, or goes on; of a file the
-- mode; and the page that it takes for its bytes.
use Rattle.std.proofs.Common.{◌≡◌, ◌≢◌, ◌==◌, ℕ, Bool, true, false, not, List, [], ◌∷◌, Some, refl, sym, ap, subst, arith, if◌then◌else◌}
use Rattle.std.specs.Prelude.{nat_lt}
use Rattle.std.proofs.lemmas.Bool.Decides.{nat_tests}
use Rattle.std.proofs.lemmas.List.{append-nil}
use Rattle.jos_base.specs.declared.called.Called.{Called}
use Rattle.jos_base.specs.declared.called.Called.TheVariants.{Answered}
use Rattle.jos_base.specs.declared.numbers.TheConstants.{E_INVAL, E_NOT_SUPP, SYS_PAGE_ALLOC, UTEMP}
use Rattle.jos_base.specs.declared.registers.Regs.{Regs}
use Rattle.jos_base.specs.Environments.{is_live}
use Rattle.jos_base.specs.KernelState.{KernelState, slot_at, with_spaces}
use Rattle.jos_base.specs.Words.{negated}
use Rattle.lib_os.specs.declared.numbers.TheConstants.{DEVICE_CONSOLE, DEVICE_FILE, DEVICE_PIPE, FD_MODE, REQUEST_BYTES, SERVICE_WRITE}
use Rattle.lib_os.specs.declared.place.PipeStep.TheVariants as pipe
use Rattle.lib_os.specs.declared.place.Place.TheVariants as place
use Rattle.lib_os.specs.declared.place.Step.TheVariants as step
use Rattle.lib_os.specs.declared.service.Service.{Service}
use Rattle.lib_os.specs.declared.service.Service.TheVariants as service
use Rattle.lib_os.specs.AbstractState.{AbstractState, Born, entered, terminal}
use Rattle.lib_os.specs.Answers.{answered, refused}
use Rattle.lib_os.specs.Descriptors.{object_of}
use Rattle.lib_os.specs.Fence.{is_buffer}
use Rattle.lib_os.specs.InOrder.{IsInOrder}
use Rattle.lib_os.specs.LibraryCall.{library_step}
use Rattle.lib_os.specs.Places.{place_of}
use Rattle.lib_os.specs.Rows.{Names}
use Rattle.lib_os.specs.StandsFor.{StandsFor}
use Rattle.lib_os.specs.StandsInHandler.{wanted_from, wanted_of}
use Rattle.lib_os.specs.UserCalls.{CallStep, answer_of, giving}
use Rattle.lib_os.proofs.DeviceLooks.{device_answers, device_console, device_goes_on, device_object, device_va, device_word, reading_device}
use Rattle.lib_os.proofs.Calls.{PageMade}
use Rattle.lib_os.proofs.FileReads.{mode_va, told_word}
use Rattle.lib_os.proofs.FileWrites.{write_buffer_refuses, write_file_goes_on, write_mode_gives, write_mode_goes_on, write_mode_refuses}
use Rattle.lib_os.proofs.Loading.{loaded}
use Rattle.lib_os.proofs.PageTaken.{refused_keeps, take_asked, take_holds, take_lives, taking_keeps, working_perm}
use Rattle.lib_os.proofs.PathTaken.{path_untaken_keeps}
use Rattle.lib_os.proofs.PipeBegun.{write_looks}
use Rattle.lib_os.proofs.RequestTaken.{request_taking_keeps, step_taken}
use Rattle.lib_stage.specs.declared.ask.Ask.TheVariants as ask
use Rattle.lib_stage.specs.declared.ask.Next.{Next}
use Rattle.lib_stage.specs.declared.ask.Next.TheVariants as next
use Rattle.lib_stage.specs.ServiceSteps.{Plan, ServiceHolds}
use Rattle.lib_stage.proofs.Laws.{Falls, IsAt, KeepsBy, law_of_call, plainly}
use Rattle.lib_file.specs.Finding.{device_asked}
use Rattle.lib_file.proofs.Finds.{Follows, device_holds_each, is_steady, load_holds, staged}
use Rattle.lib_write.specs.declared.write.WriteStage.TheVariants as stage
use Rattle.lib_write.specs.WriteStages.{next_of_device, next_of_mode, next_of_request, writing}

-- ---- what it is in the abstract system

-- a buffer outside the fence
write_refused : (a : AbstractState) (n : ℕ) (b : Born) (regs : Regs) (fd va len : ℕ) → object_of a b fd ≡ Some terminal →
    is_buffer va (wanted_of len) ≡ false →
    library_step a n b regs (service.Write fd va len) entered ≡ Some (refused a n b regs E_INVAL)
unfolding library_step
write_refused a n b regs fd va len object outside = rw (object, outside) refl

-- no bytes
write_nothing : (a : AbstractState) (n : ℕ) (b : Born) (regs : Regs) (fd va len : ℕ) → object_of a b fd ≡ Some terminal →
    is_buffer va (wanted_of len) ≡ true → (len == 0) ≡ true →
    library_step a n b regs (service.Write fd va len) entered ≡ Some (answered a n b regs 0)
unfolding library_step
write_nothing a n b regs fd va len object buffer none =
    let zero : len ≡ 0 = grind (arith, nat_tests) in
    let test : nat_lt 0 (wanted_of len) ≡ false = rw zero refl in
    rw (object, buffer, test) (ap (λ (bytes : List ℕ). Some (answered (record a { console = bytes }) n b regs 0)) (append-nil a.console))

-- ---- what its descriptor names

module _ (s : KernelState) (n fd va len : ℕ) (live : is_live (slot_at s n) ≡ true) where
  abbrev write : Service
  write = service.Write fd va len

  device_falls : (word : ℕ) → Falls write step.ReadingDevice (next_of_device va len word)
  device_falls word =
      by_tests (word == DEVICE_FILE) (word == DEVICE_PIPE) (not (word == DEVICE_CONSOLE)) (not (is_buffer va (wanted_of len))) (len == 0)
    where
      by_tests : (of_file of_pipe other outside nothing : Bool) →
          Falls write step.ReadingDevice (if of_file then next.GoOn step.ReadingMode else if of_pipe then next.GoOn (step.Piped pipe.EndMode)
          else if other then next.Answer (negated E_NOT_SUPP) else if outside then next.Answer (negated E_INVAL)
          else if nothing then next.Answer 0 else next.GoOn step.TakingPage)
      by_tests true of_pipe other outside nothing = omega arith
      by_tests false true other outside nothing = omega arith
      by_tests false false true outside nothing = tt
      by_tests false false false true nothing = tt
      by_tests false false false false true = tt
      by_tests false false false false false = omega arith

  module _ (stands : place_of (slot_at s n) ≡ place.InService write step.ReadingDevice) where
    device_follows : (names : Names) (a : AbstractState) → StandsFor names s a → IsInOrder (loaded s n (device_va fd)) →
        device_word s n fd ≡ DEVICE_CONSOLE → Follows (loaded s n (device_va fd)) n write a (next_of_device va len DEVICE_CONSOLE)
    device_follows names a h order word = by_buffer (is_buffer va (wanted_of len)) refl
      where
        by_len : is_buffer va (wanted_of len) ≡ true → (t : Bool) → (len == 0) ≡ t →
            Follows (loaded s n (device_va fd)) n write a (if t then next.Answer 0 else next.GoOn step.TakingPage)
        by_len inside true none =
            device_answers s n write fd refl stands h order 0
            (write_nothing a n _ (slot_at s n).registers fd va len (device_object s n write fd refl stands h word) inside none)
        by_len inside false some =
            let it = reading_device s n write fd refl stands h in (
              refl,
              (
                names,
                device_goes_on s n write fd refl stands h order step.TakingPage refl refl (
                  record { program = it.is_in.program; phase = it.is_in.phase; silent = it.is_in.silent; awake = it.is_in.awake },
                  record { below = it.below; console = device_console s n write fd refl stands h word; buffer = inside },
                  grind (arith, nat_tests),
                ),
              ),
            )

        by_buffer : (t : Bool) → is_buffer va (wanted_of len) ≡ t →
            Follows (loaded s n (device_va fd)) n write a
            (if not t then next.Answer (negated E_INVAL) else if len == 0 then next.Answer 0 else next.GoOn step.TakingPage)
        by_buffer false outside =
            device_answers s n write fd refl stands h order (negated E_INVAL)
            (write_refused a n _ (slot_at s n).registers fd va len (device_object s n write fd refl stands h word) outside)
        by_buffer true inside = by_len inside (len == 0) refl

    pub write_device_holds : ServiceHolds s n (staged write (device_asked fd) (next_of_device va len))
    write_device_holds =
        device_holds_each s n write fd refl live stands (next_of_device va len) device_falls device_follows
        (λ names a h order word. (refl, (names, write_file_goes_on s n fd h order va len stands word)))
        (λ names a h order word. (refl, (names, write_looks s n fd h word order va len stands)))

  -- ---- the mode of a file

  module _ (stands : place_of (slot_at s n) ≡ place.InService write step.ReadingMode) where
    mode_falls : (word : ℕ) → Falls write step.ReadingMode (next_of_mode va len word)
    mode_falls word = by_tests (word == 0) (not (is_buffer va (wanted_from REQUEST_BYTES len)))
      where
        by_tests : (none outside : Bool) → Falls write step.ReadingMode (if none then next.Answer (negated E_INVAL)
            else if outside then next.Answer (negated E_INVAL) else next.GoOn step.TakingRequest)
        by_tests true outside = tt
        by_tests false true = tt
        by_tests false false = omega arith

    mode_follows : (names : Names) (a : AbstractState) → StandsFor names s a → IsInOrder (loaded s n (mode_va fd)) →
        Follows (loaded s n (mode_va fd)) n write a (next_of_mode va len (told_word s n fd FD_MODE))
    mode_follows names a h order = by_mode (told_word s n fd FD_MODE == 0) refl
      where
        by_buffer : told_word s n fd FD_MODE ≢ 0 → (t : Bool) → is_buffer va (wanted_from REQUEST_BYTES len) ≡ t →
            Follows (loaded s n (mode_va fd)) n write a (if not t then next.Answer (negated E_INVAL) else next.GoOn step.TakingRequest)
        by_buffer some false outside = write_buffer_refuses s n fd va len stands h order some outside
        by_buffer some true inside = (refl, (names, write_mode_goes_on s n fd va len stands h order some inside))

        by_mode : (t : Bool) → (told_word s n fd FD_MODE == 0) ≡ t → Follows (loaded s n (mode_va fd)) n write a
            (if t then next.Answer (negated E_INVAL)
            else if not (is_buffer va (wanted_from REQUEST_BYTES len)) then next.Answer (negated E_INVAL) else next.GoOn step.TakingRequest)
        by_mode true none = write_mode_refuses s n fd va len stands h order (grind (arith, nat_tests, none))
        by_mode false some = by_buffer (grind (arith, nat_tests, some)) (is_buffer va (wanted_from REQUEST_BYTES len)) refl

    pub write_mode_holds : ServiceHolds s n (staged write (ask.Load (mode_va fd)) (next_of_mode va len))
    write_mode_holds =
        load_holds s n write step.ReadingMode live (is_steady write fd refl step.ReadingMode refl) stands (mode_va fd)
        (told_word s n fd FD_MODE) (next_of_mode va len) mode_falls (λ names a h. write_mode_gives s n fd va len stands h) mode_follows

  -- ---- the page of its request

  module _ (stands : place_of (slot_at s n) ≡ place.InService write step.TakingRequest) where
    abbrev requesting : Plan
    requesting = writing (record { fd = fd; va = va; len = len; at = stage.TakingRequest })

    requesting_falls : (called : Called) → Falls write step.TakingRequest (requesting.next called)
    requesting_falls called = by_tests (answer_of called == 0) (len == 0)
      where
        by_tests : (t none : Bool) → Falls write step.TakingRequest (if not t then next.Answer (answer_of called)
            else if none then next.GoOn step.ReadingNumber else next.GoOn (step.BufferRegion 0 REQUEST_BYTES))
        by_tests false none = tt
        by_tests true true = omega arith
        by_tests true false = omega arith

    requesting_at : IsAt s n requesting write step.TakingRequest
    requesting_at = record {
      stands = stands;
      live = live;
      numbered = refl;
      plain = plainly refl;
      goes_on = refl;
      falls = requesting_falls;
      few = omega arith;
    }

    -- where it goes on
    taken_is : next_of_request len 0 ≡ next.GoOn (step_taken len)
    taken_is = by_len (len == 0)
      where
        by_len : (t : Bool) → (if t then next.GoOn step.ReadingNumber else next.GoOn (step.BufferRegion 0 REQUEST_BYTES))
            ≡ next.GoOn (if t then step.ReadingNumber else step.BufferRegion 0 REQUEST_BYTES)
        by_len true = refl
        by_len false = refl

    -- what follows it, by where it goes on
    abbrev requesting_to : Next → Plan
    requesting_to x = record { number = SERVICE_WRITE; asks = requesting.asks; next = λ called. x }

    pub requesting_holds : ServiceHolds s n requesting
    requesting_holds =
        law_of_call s n requesting write step.TakingRequest requesting_at SYS_PAGE_ALLOC (0 ∷ UTEMP ∷ working_perm ∷ 0 ∷ 0 ∷ []) refl refl
        (take_lives s n live)
        (take_holds s n live (λ (z : CallStep Called). IsInOrder z.state → KeepsBy s n requesting z) taken
        (λ order. path_untaken_keeps s n _))
      where
        taken : (made : PageMade s n UTEMP working_perm (take_asked s n)) → IsInOrder (with_spaces s made.spaces) →
            KeepsBy s n requesting (giving (with_spaces s made.spaces) (Answered 0))
        taken made order =
            subst (λ (x : Next). KeepsBy s n (requesting_to x) (giving (with_spaces s made.spaces) (Answered 0))) (sym taken_is)
            (request_taking_keeps s n fd va len stands made order)

  -- ---- the page that it takes

  module _ (stands : place_of (slot_at s n) ≡ place.InService write step.TakingPage) where
    abbrev taking : Plan
    taking = writing (record { fd = fd; va = va; len = len; at = stage.TakingPage })

    taking_falls : (called : Called) → Falls write step.TakingPage (taking.next called)
    taking_falls called = by_test (answer_of called == 0)
      where
        by_test : (t : Bool) →
            Falls write step.TakingPage (if not t then next.Answer (answer_of called) else next.GoOn (step.BufferRegion 0 0))
        by_test true = omega arith
        by_test false = tt

    taking_at : IsAt s n taking write step.TakingPage
    taking_at = record {
      stands = stands;
      live = live;
      numbered = refl;
      plain = plainly refl;
      goes_on = refl;
      falls = taking_falls;
      few = omega arith;
    }

    pub taking_holds : ServiceHolds s n taking
    taking_holds =
        law_of_call s n taking write step.TakingPage taking_at SYS_PAGE_ALLOC (0 ∷ UTEMP ∷ working_perm ∷ 0 ∷ 0 ∷ []) refl refl (take_lives s n live)
        (take_holds s n live (λ (z : CallStep Called). IsInOrder z.state → KeepsBy s n taking z)
        (λ made order. taking_keeps s n fd va len stands made order) (λ order. refused_keeps s n fd va len stands _))
