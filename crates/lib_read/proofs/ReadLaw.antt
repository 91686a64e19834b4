-- The law of read: on the console, up to the byte that it takes each of its stages is a part of one step of the abstract system; putting the
-- byte is another. The byte 4 and the end of the input both are no byte. Of a file it looks at the mode, and then goes as `lib_bytes` has it.
use Rattle.std.proofs.Common.{◌≡◌, ◌∙◌, ◌+◌, ◌%◌, ◌==◌, ◌||◌, ◌<◌, ℕ, Bool, true, false, not, List, [], ◌∷◌, Some}
use Rattle.std.proofs.Common.{zero, suc, refl, sym, ap, subst, arith, if◌then◌else◌}
use Rattle.std.proofs.lemmas.Bool.Decides.{nat_tests}
use Rattle.jos_base.specs.declared.called.Called.{Called}
use Rattle.jos_base.specs.declared.called.Called.TheVariants.{Answered}
use Rattle.jos_base.specs.declared.memory.Access.TheVariants.{Write}
use Rattle.jos_base.specs.declared.numbers.TheConstants.{E_INVAL, E_NOT_SUPP, END_OF_INPUT, SYS_CGETC}
use Rattle.jos_base.specs.declared.registers.Regs.{Regs}
use Rattle.jos_base.specs.Environments.{Slot, is_live, is_runnable, is_running}
use Rattle.jos_base.specs.KernelState.{KernelState, slot_at, with_registers}
use Rattle.jos_base.specs.Messages.{Rendezvous}
use Rattle.jos_base.specs.SystemCalls.{call_of, cgetc_from}
use Rattle.jos_base.specs.UserMemory.{is_allowed}
use Rattle.jos_base.specs.Words.{negated, page_number}
use Rattle.lib_os.specs.declared.numbers.TheConstants.{DEVICE_CONSOLE, DEVICE_FILE, DEVICE_PIPE, FD_MODE, SERVICE_READ}
use Rattle.lib_os.specs.declared.place.PipeStep.TheVariants as pipe
use Rattle.lib_os.specs.declared.place.Place.TheVariants as place
use Rattle.lib_os.specs.declared.place.Step.{Step}
use Rattle.lib_os.specs.declared.place.Step.TheVariants as step
use Rattle.lib_os.specs.declared.service.Service.{Service}
use Rattle.lib_os.specs.declared.service.Service.TheVariants as service
use Rattle.lib_os.specs.AbstractState.{AbstractState, Born, delivering, entered, guest, in_service, terminal}
use Rattle.lib_os.specs.Answers.{answered, at_stage, refused}
use Rattle.lib_os.specs.Descriptors.{object_of}
use Rattle.lib_os.specs.Fence.{is_buffer}
use Rattle.lib_os.specs.FileServices.{read_terminal}
use Rattle.lib_os.specs.InOrder.{IsInOrder}
use Rattle.lib_os.specs.LibraryCall.{library_step}
use Rattle.lib_os.specs.LibraryPages.{View}
use Rattle.lib_os.specs.LibrarySteps.{Stands, is_pausing}
use Rattle.lib_os.specs.Places.{place_of, words_at}
use Rattle.lib_os.specs.Rows.{AreBytes, Names, is_of_descriptor}
use Rattle.lib_os.specs.StandsFor.{IsGetting, StandsAtStep, StandsFor, borne_in, view_of}
use Rattle.lib_os.specs.StandsInHandler.{AreSmall, IsDelivering, wanted_of}
use Rattle.lib_os.specs.UserCalls.{CallStep, asking, called_by, giving, system}
use Rattle.lib_os.proofs.Answering.{back_stands}
use Rattle.lib_os.proofs.BufferAccesses.{stage_stands}
use Rattle.lib_os.proofs.BytesDelivered.{read_console, read_delivered, read_put, read_putting, read_stands, read_step}
use Rattle.lib_os.proofs.BytesRefused.{read_lost, read_lost_after, read_lost_lowers, read_lost_stands}
use Rattle.lib_os.proofs.Calls.{quiet_is, system_is}
use Rattle.lib_os.proofs.DescriptorLooks.{seen_calm}
use Rattle.lib_os.proofs.DeviceLooks.{at_device, device_answers, device_console, device_goes_on, device_object, device_va, device_word}
use Rattle.lib_os.proofs.DeviceLooks.{names_console, reading_device}
use Rattle.lib_os.proofs.Fences.{buffer_each}
use Rattle.lib_os.proofs.FileOpened.{read_buffer_outside, read_finds_file, read_mode_gives, read_mode_goes_on, read_mode_refuses}
use Rattle.lib_os.proofs.FileReads.{mode_va, told_word}
use Rattle.lib_os.proofs.GoingOn.{in_with_words}
use Rattle.lib_os.proofs.Loading.{loaded}
use Rattle.lib_os.proofs.Logical.{is_making_pipe}
use Rattle.lib_os.proofs.Numbered.{named_at}
use Rattle.lib_os.proofs.PipeBegun.{read_looks}
use Rattle.lib_os.proofs.PipesStand.{is_calm}
use Rattle.lib_os.proofs.Serving.{IsServed, holds_page, printed_nothing, served, step_in}
use Rattle.lib_os.proofs.Trying.{LivesOn}
use Rattle.lib_stage.specs.declared.ask.Ask.TheVariants as ask
use Rattle.lib_stage.specs.declared.ask.Next.{Next}
use Rattle.lib_stage.specs.declared.ask.Next.TheVariants as next
use Rattle.lib_stage.specs.Asks.{no_args, performed, told_as}
use Rattle.lib_stage.specs.ServiceSteps.{Plan, ServiceHolds, nowhere, or_nowhere}
use Rattle.lib_stage.proofs.Laws.{Falls, IsAt, KeepsBy, law_of_call, law_of_nowhere, plainly, store_byte_aside}
use Rattle.lib_file.specs.Finding.{device_asked}
use Rattle.lib_file.specs.Keeping.{next_va}
use Rattle.lib_file.proofs.BufferLaw.{buffer_entry_holds, buffer_region_holds}
use Rattle.lib_file.proofs.FaultingLaw.{read_faulting_holds}
use Rattle.lib_file.proofs.Finds.{Follows, device_holds_each, entry_holds, is_steady, load_holds, region_holds, staged}
use Rattle.lib_request.proofs.PageAsks.{asking_holds, awaiting_holds, clearing_holds, identifying_holds, pausing_holds, reading_holds}
use Rattle.lib_offset.proofs.OffsetStarts.{number_holds, storing_count_holds, storing_number_holds, taking_holds}
use Rattle.lib_bytes.proofs.BytesLoad.{loading_holds, rest_holds}
use Rattle.lib_bytes.proofs.BytesLook.{counting_holds, file_entry_holds, file_region_holds}
use Rattle.lib_bytes.proofs.BytesPut.{faulting_holds, putting_holds}
use Rattle.lib_bytes.proofs.BytesReturn.{returning_holds}
use Rattle.lib_read.specs.ReadStages.{next_of_device, next_of_mode, read_at, reading}
use Rattle.lib_read.proofs.EndLaw.{read_end_holds}
use Rattle.lib_bytes.proofs.Handing.{inside_aside}
use Rattle.lib_bytes.proofs.Delivery.{PutOrLost, byte_lives, delivery_holds, lost, put}

-- ---- the call that takes a byte of the input

abbrev getting : KernelState → List ℕ → CallStep Called
getting s [] = giving s (Answered END_OF_INPUT)
getting s (byte ∷ rest) = giving (record s { input = rest }) (Answered byte)

module _ (s : KernelState) (n : ℕ) (live : is_live (slot_at s n) ≡ true) where
  abbrev asked : Regs
  asked = asking (slot_at s n).registers SYS_CGETC no_args

  got_by : (input : List ℕ) → called_by n false (slot_at s n).registers (cgetc_from (with_registers s n asked) n input) ≡ getting s input
  got_by [] = quiet_is s n live asked (with_registers s n asked) END_OF_INPUT refl
  got_by (byte ∷ rest) = quiet_is s n live asked (record (with_registers s n asked) { input = rest }) byte refl

  cgetc_is : system s n SYS_CGETC no_args ≡ getting s s.input
  unfolding call_of
  cgetc_is = system_is s n SYS_CGETC no_args (cgetc_from (with_registers s n asked) n s.input) refl refl ∙ got_by s.input

  getting_lives : (input : List ℕ) → LivesOn (getting s input) n (slot_at s n).registers
  getting_lives [] = record { live = live; registers = refl; written = refl }
  getting_lives (byte ∷ rest) = record { live = live; registers = refl; written = refl }

-- ---- the input without its first byte

rest_small : (byte : ℕ) (rest : List ℕ) → AreBytes (byte ∷ rest) → AreBytes rest
rest_small byte rest small i = small (suc i)

taken_stands : {names : Names} {s : KernelState} {a : AbstractState} → StandsFor names s a → (rest : List ℕ) → AreBytes rest →
    StandsFor names (record s { input = rest }) (record a { input = rest })
taken_stands h rest small = record {
  slots = h.slots;
  children = h.children;
  apart = h.apart;
  named = h.named;
  users = h.users;
  whole = h.whole;
  beside = h.beside;
  free_slots = h.free_slots;
  first = h.first;
  server = h.server;
  ends = h.ends;
  locks = h.locks;
  runs = h.runs;
  old = h.old;
  input = (refl, small);
  last = h.last;
  turns = h.turns;
  tabled = h.tabled;
  in_order = record { frames = h.in_order.frames; spaces = h.in_order.spaces };
}

-- ---- its step in the abstract system

module _ (a : AbstractState) (n : ℕ) (b : Born) (regs : Regs) (fd va len : ℕ) (is : object_of a b fd ≡ Some terminal) where
  abbrev reads : Service
  reads = service.Read fd va len

  read_refuses : is_buffer va (wanted_of len) ≡ false → library_step a n b regs reads entered ≡ Some (refused a n b regs E_INVAL)
  unfolding library_step
  read_refuses outside = rw (is, outside) refl

  module _ (inside : is_buffer va (wanted_of len) ≡ true) where
    read_begins : library_step a n b regs reads entered ≡ Some (read_terminal a n b regs reads va (wanted_of len) a.input)
    unfolding library_step
    read_begins = rw (is, inside) refl

    -- it wants none
    read_none : (wanted_of len == 0) ≡ true → library_step a n b regs reads entered ≡ Some (answered a n b regs 0)
    read_none none = read_begins ∙ ap Some (by_input a.input)
      where
        by_input : (input : List ℕ) → read_terminal a n b regs reads va (wanted_of len) input ≡ answered a n b regs 0
        by_input [] = refl
        by_input (byte ∷ rest) = rw none refl

    -- there is none
    read_end : a.input ≡ [] → library_step a n b regs reads entered ≡ Some (answered a n b regs 0)
    read_end empty = read_begins ∙ ap (λ (l : List ℕ). Some (read_terminal a n b regs reads va (wanted_of len) l)) empty

    module _ (byte : ℕ) (rest : List ℕ) (has : a.input ≡ byte ∷ rest) (some : (wanted_of len == 0) ≡ false) where
      abbrev taken : AbstractState
      taken = record a { input = rest }

      first_read : library_step a n b regs reads entered ≡ Some (read_terminal a n b regs reads va (wanted_of len) (byte ∷ rest))
      first_read = read_begins ∙ ap (λ (l : List ℕ). Some (read_terminal a n b regs reads va (wanted_of len) l)) has

      -- it tells the end
      read_ends : (byte == 4) ≡ true → library_step a n b regs reads entered ≡ Some (answered taken n b regs 0)
      read_ends test = first_read ∙ rw (some, test) refl

      read_takes : (byte == 4) ≡ false →
          library_step a n b regs reads entered ≡ Some (at_stage taken n b reads (delivering va (byte ∷ []) 1))
      read_takes test = first_read ∙ rw (some, test) refl

module _ (s : KernelState) (n fd va len : ℕ) (live : is_live (slot_at s n) ≡ true) (small : AreSmall (slot_at s n).registers) where
  abbrev read : Service
  read = service.Read fd va len

  abbrev regs : Regs
  regs = (slot_at s n).registers

  -- ---- what its descriptor names

  module _ (stands : place_of (slot_at s n) ≡ place.InService (service.Read fd va len) step.ReadingDevice) where
    device_falls : (word : ℕ) → Falls read step.ReadingDevice (next_of_device va len word)
    device_falls word = by_tests (word == DEVICE_FILE) (word == DEVICE_PIPE) (word == DEVICE_CONSOLE) (is_buffer va (wanted_of len)) (len == 0)
      where
        by_tests : (of_file of_pipe console inside none : Bool) → Falls read step.ReadingDevice
            (if of_file then next.GoOn step.ReadingMode else if of_pipe then next.GoOn (step.Piped pipe.EndMode)
            else if not console then next.Answer (negated E_NOT_SUPP)
            else if not inside then next.Answer (negated E_INVAL) else if none then next.Answer 0 else next.GoOn step.Getting)
        by_tests true of_pipe console inside none = omega arith
        by_tests false true console inside none = omega arith
        by_tests false false false inside none = tt
        by_tests false false true false none = tt
        by_tests false false true true true = tt
        by_tests false false true true false = omega arith

    module _ (names : Names) (a : AbstractState) (h : StandsFor names s a) (order : IsInOrder (loaded s n (device_va fd)))
        (word : device_word s n fd ≡ DEVICE_CONSOLE) where
      abbrev v : IsServed names s a n (service.Read fd va len) step.ReadingDevice
      v = at_device s n read fd refl stands h

      seen : object_of a v.b fd ≡ Some terminal
      seen = device_object s n read fd refl stands h word

      device_follows : Follows (loaded s n (device_va fd)) n read a (next_of_device va len DEVICE_CONSOLE)
      device_follows = by_test (is_buffer va (wanted_of len)) refl
        where
          by_length : is_buffer va (wanted_of len) ≡ true → (t : Bool) → (len == 0) ≡ t →
              Follows (loaded s n (device_va fd)) n read a (if t then next.Answer 0 else next.GoOn step.Getting)
          by_length inside true none =
              let no_bytes : len ≡ 0 = grind (arith, nat_tests) in
              let wanted : (wanted_of len == 0) ≡ true = ap (λ (m : ℕ). wanted_of m == 0) no_bytes in
              device_answers s n read fd refl stands h order 0 (read_none a n v.b regs fd va len seen inside wanted)
          by_length inside false some =
              let it = reading_device s n read fd refl stands h in (
                refl,
                (
                  names,
                  device_goes_on s n read fd refl stands h order step.Getting refl refl (record {
                    is_in = in_with_words (words_at SERVICE_READ step.Getting) it.is_in;
                    given = record { below = it.below; console = device_console s n read fd refl stands h word; buffer = inside };
                    some = grind (arith, nat_tests);
                  }),
                ),
              )

          by_test : (t : Bool) → is_buffer va (wanted_of len) ≡ t → Follows (loaded s n (device_va fd)) n read a
              (if not t then next.Answer (negated E_INVAL) else if len == 0 then next.Answer 0 else next.GoOn step.Getting)
          by_test false outside =
              device_answers s n read fd refl stands h order (negated E_INVAL) (read_refuses a n v.b regs fd va len seen outside)
          by_test true inside = by_length inside (len == 0) refl

    device_told : ServiceHolds s n (staged read (device_asked fd) (next_of_device va len))
    device_told =
        device_holds_each s n read fd refl live stands (next_of_device va len) device_falls device_follows
        (λ names a h order word. (refl, (names, read_finds_file s n fd h order word va len stands)))
        (λ names a h order word. (refl, (names, read_looks s n fd h word order va len stands)))

  -- ---- the mode of its file

  module _ (stands : place_of (slot_at s n) ≡ place.InService (service.Read fd va len) step.ReadingMode) where
    mode_falls : (word : ℕ) → Falls read step.ReadingMode (next_of_mode va len word)
    mode_falls word = by_tests (word == 1) (is_buffer va (wanted_of len))
      where
        by_tests : (writing inside : Bool) → Falls read step.ReadingMode
            (if writing then next.Answer (negated E_INVAL) else if not inside then next.Answer (negated E_INVAL) else next.GoOn step.TakingPage)
        by_tests true inside = tt
        by_tests false false = tt
        by_tests false true = omega arith

    mode_follows : (names : Names) (a : AbstractState) → StandsFor names s a → IsInOrder (loaded s n (mode_va fd)) →
        Follows (loaded s n (mode_va fd)) n read a (next_of_mode va len (told_word s n fd FD_MODE))
    mode_follows names a h order = by_mode (told_word s n fd FD_MODE == 1) refl
      where
        by_buffer : (told_word s n fd FD_MODE == 1) ≡ false → (t : Bool) → is_buffer va (wanted_of len) ≡ t →
            Follows (loaded s n (mode_va fd)) n read a (if not t then next.Answer (negated E_INVAL) else next.GoOn step.TakingPage)
        by_buffer off false outside = read_buffer_outside s n fd va len stands h order (grind (arith, nat_tests, off)) outside
        by_buffer off true inside = (refl, (names, read_mode_goes_on s n fd va len stands h order (grind (arith, nat_tests, off)) inside))

        by_mode : (t : Bool) → (told_word s n fd FD_MODE == 1) ≡ t → Follows (loaded s n (mode_va fd)) n read a
            (if t then next.Answer (negated E_INVAL) else if not (is_buffer va (wanted_of len)) then next.Answer (negated E_INVAL)
            else next.GoOn step.TakingPage)
        by_mode true one = read_mode_refuses s n fd va len stands h order (grind (arith, nat_tests, one))
        by_mode false off = by_buffer off (is_buffer va (wanted_of len)) refl

    mode_told : ServiceHolds s n (staged read (ask.Load (mode_va fd)) (next_of_mode va len))
    mode_told =
        load_holds s n read step.ReadingMode live (is_steady read fd refl step.ReadingMode refl) stands (mode_va fd) (told_word s n fd FD_MODE)
        (next_of_mode va len) mode_falls (λ names a h. read_mode_gives s n fd va len stands h) mode_follows

  -- ---- it takes a byte

  abbrev next_by : ℕ → Next
  next_by byte = if byte == END_OF_INPUT then next.Answer 0 else next.Show (step.BufferRegion 0 byte)

  abbrev taking : Plan
  taking = staged read (ask.System SYS_CGETC no_args) next_by

  module _ (stands : place_of (slot_at s n) ≡ place.InService (service.Read fd va len) step.Getting) where
    getting_falls : (word : ℕ) → Falls read step.Getting (next_by word)
    getting_falls word = by_test (word == END_OF_INPUT)
      where
        by_test : (t : Bool) → Falls read step.Getting (if t then next.Answer 0 else next.Show (step.BufferRegion 0 word))
        by_test true = tt
        by_test false = tt

    at_getting : IsAt s n taking read step.Getting
    at_getting = record {
      stands = stands;
      live = live;
      numbered = refl;
      plain = plainly refl;
      goes_on = refl;
      falls = λ called. getting_falls _;
      few = omega arith;
    }

    module _ (names : Names) (a : AbstractState) (h : StandsFor names s a) where
      abbrev w : IsServed names s a n (service.Read fd va len) step.Getting
      w = served h n (service.Read fd va len) step.Getting stands

      gets : IsGetting (view_of s.spaces (slot_at s n).directory) (slot_at s n) w.b fd va len
      gets = w.at

      console : object_of a w.b fd ≡ Some terminal
      console = names_console h n w.b w.is (ap borne_in stands) (ap is_making_pipe stands) (seen_calm h n w.b w.is (ap is_calm stands)) fd
          gets.given.below gets.given.console

      wants : (wanted_of len == 0) ≡ false
      wants = let some = gets.some in let more : 0 < wanted_of len = grind (arith, nat_tests) in grind (arith, nat_tests)

      end_follows : s.input ≡ [] → Follows s n read a (next.Answer 0)
      end_follows empty = (
        answered a n w.b regs 0,
        step_in a n w.b (slot_at s n) read entered w.is gets.is_in
            ∙ read_end a n w.b regs fd va len console gets.given.buffer (sym h.input.0 ∙ empty),
        printed_nothing a,
        (
          names,
          back_stands h n w.b w.is (record regs { eax = 0 }) (ap borne_in stands) (ap holds_page stands) (ap is_calm stands) gets.is_in.silent gets.is_in.awake
              w.outside refl refl,
        ),
      )

      module _ (byte : ℕ) (rest : List ℕ) (has : s.input ≡ byte ∷ rest) where
        holds : a.input ≡ byte ∷ rest
        holds = sym h.input.0 ∙ has

        bytes : AreBytes (byte ∷ rest)
        bytes = subst (λ (l : List ℕ). AreBytes l) holds h.input.1

        abbrev mid : KernelState
        mid = record s { input = rest }

        abbrev behind : AbstractState
        behind = record a { input = rest }

        taken_too : StandsFor names mid behind
        taken_too = taken_stands h rest (rest_small byte rest bytes)

        told_end : (byte == END_OF_INPUT) ≡ true → Follows mid n read a (next.Answer 0)
        told_end test = (
          answered behind n w.b regs 0,
          step_in a n w.b (slot_at s n) read entered w.is gets.is_in
              ∙ read_ends a n w.b regs fd va len console gets.given.buffer byte rest holds wants test,
          printed_nothing a,
          (
            names,
            back_stands taken_too n w.b w.is (record regs { eax = 0 }) (ap borne_in stands) (ap holds_page stands) (ap is_calm stands) gets.is_in.silent gets.is_in.awake
                w.outside refl refl,
          ),
        )

        first_inside : is_buffer (va + 0) 1 ≡ true
        first_inside =
            let more : 0 < wanted_of len = grind (arith, nat_tests, wants) in
            let none : va + 0 ≡ va = omega arith in
            buffer_each va (wanted_of len) (va + 0) gets.given.buffer (omega (arith, none)) (omega (arith, none, more))

        before : (k : Slot) → k.registers ≡ regs → k.rendezvous ≡ (slot_at s n).rendezvous →
            IsDelivering k (record w.b { phase = in_service read (delivering va (byte ∷ []) 1) }) read (va + 0) (byte ∷ []) 1
        before k same silent = record {
          program = gets.is_in.program ∙ ap guest (sym same);
          phase = (let none : va ≡ va + 0 = omega arith in ap (λ (q : ℕ). in_service read (delivering q (byte ∷ []) 1)) none);
          silent = ap (λ (r : Rendezvous). r.receiving) silent ∙ gets.is_in.silent;
          awake = gets.is_in.awake;
          some = omega arith;
          inside = first_inside;
          small = one_small;
        }
          where
            one_small : AreBytes (byte ∷ [])
            one_small zero = bytes zero
            one_small (suc i) = omega arith

        shown : (byte == END_OF_INPUT) ≡ false → Follows mid n read a (next.Show (step.BufferRegion 0 byte))
        shown test = (
          at_stage behind n w.b read (delivering va (byte ∷ []) 1),
          step_in a n w.b (slot_at s n) read entered w.is gets.is_in
              ∙ read_takes a n w.b regs fd va len console gets.given.buffer byte rest holds wants test,
          printed_nothing a,
          (
            names,
            stage_stands taken_too n SERVICE_READ w.b w.is w.outside (ap borne_in stands) (ap is_calm stands) read (step.BufferRegion 0 byte)
                (delivering va (byte ∷ []) 1) (ap holds_page stands) refl refl (named_at (slot_at s n) read step.Getting stands)
                (before (record (slot_at s n) { extra = words_at SERVICE_READ (step.BufferRegion 0 byte) }) refl refl, tt),
          ),
        )

        byte_follows : Follows mid n read a (next_by byte)
        byte_follows = by_test (byte == END_OF_INPUT) refl
          where
            by_test : (t : Bool) → (byte == END_OF_INPUT) ≡ t →
                Follows mid n read a (if t then next.Answer 0 else next.Show (step.BufferRegion 0 byte))
            by_test true test = told_end test
            by_test false test = shown test

    getting_keeps : (input : List ℕ) → s.input ≡ input → KeepsBy s n taking (getting s input)
    getting_keeps [] is a h turn quiet = end_follows h.0 a h.1 is
    getting_keeps (byte ∷ rest) is a h turn quiet = byte_follows h.0 a h.1 byte rest is

    getting_holds : ServiceHolds s n taking
    getting_holds =
        law_of_call s n taking read step.Getting at_getting SYS_CGETC no_args refl refl
        (subst (λ (z : CallStep Called). LivesOn z n regs) (sym (cgetc_is s n live)) (getting_lives s n live s.input))
        (λ order. subst (λ (z : CallStep Called). KeepsBy s n taking z) (sym (cgetc_is s n live)) (getting_keeps s.input refl))

  -- ---- it puts it

  module _ (done word : ℕ) (stands : place_of (slot_at s n) ≡ place.InService (service.Read fd va len) (step.Delivering done word)) where
    abbrev putting : Plan
    putting = staged read (ask.StoreByte (next_va va done) (word % 256)) (λ x. next.Answer 1)

    byte_comes : (names : Names) (a : AbstractState) → StandsFor names s a → PutOrLost s n putting names a
    unfolding performed
    byte_comes names a h = by_allowed (is_allowed s.spaces (slot_at s n).directory (next_va va done) Write) refl
      where
        u : IsServed names s a n (service.Read fd va len) (step.Delivering done word)
        u = served h n (service.Read fd va len) (step.Delivering done word) stands

        by_allowed : (t : Bool) → is_allowed s.spaces (slot_at s n).directory (next_va va done) Write ≡ t → PutOrLost s n putting names a
        by_allowed true on = put (record {
          after = read_putting h n fd va len done word u on;
          is = ap (λ (z : CallStep (Unit {0})). told_as (λ x. 0) z) (read_put h n fd va len done word u on);
          goes = λ last. (
            read_delivered h n fd va len done word u,
            read_step h n fd va len done word u,
            read_console h n fd va len done word u on last ∙ printed_nothing a,
            (names, read_stands h n fd va len done word u on last),
          );
        })
        by_allowed false off = lost (record {
          after = read_lost_after h n fd va len done word u off;
          is = ap (λ (z : CallStep (Unit {0})). told_as (λ x. 0) z) (read_lost h n fd va len done word u off (word % 256));
          stands = read_lost_stands h n fd va len done word u off small;
          lower = read_lost_lowers h n fd va len done word u off;
        })

    -- the byte lies on no page of a descriptor's
    aside : (a : AbstractState) → Stands s a → is_of_descriptor (page_number (next_va va done)) ≡ false
    aside a h =
        let v = served h.1 n (service.Read fd va len) (step.Delivering done word) stands in
        inside_aside (va + done) (buffer_each (va + done) 1 (va + done) v.at.0.inside (omega arith) (omega arith))

    delivering_holds : ServiceHolds s n putting
    delivering_holds =
        delivery_holds s n putting read (step.Delivering done word)
        (record { stands = stands; plain = store_byte_aside s n (next_va va done) (word % 256) aside; goes_on = refl; few = omega arith })
        (λ called. byte_lives s n live (next_va va done) called (word % 256)) (λ may. may) (λ called after. tt) byte_comes

  -- ---- each step

  no_step : (at : Step) → place_of (slot_at s n) ≡ place.InService read at → is_pausing (place.InService read at) ≡ false →
      ((view : View) (k : Slot) (b : Born) → StandsAtStep view k b read at → ⊥) → ServiceHolds s n nowhere
  no_step at stands goes_on none = law_of_nowhere s n read at stands goes_on none

  module _ (awake : (is_runnable (slot_at s n).status || is_running (slot_at s n).status) ≡ true) where
    pub read_holds : (at : Step) → place_of (slot_at s n) ≡ place.InService (service.Read fd va len) at →
        ServiceHolds s n (or_nowhere reading (read_at fd va len at))
    read_holds step.Entered stands = region_holds s n read fd refl live stands
    read_holds (step.DescriptorEntry at) stands = entry_holds s n read fd refl live at stands
    read_holds step.ReadingDevice stands = device_told stands
    read_holds step.Getting stands = getting_holds stands
    read_holds (step.BufferRegion done word) stands = buffer_region_holds s n read live done word word refl stands
    read_holds (step.BufferEntry done word) stands = buffer_entry_holds s n read live done word word refl stands
    read_holds (step.Delivering done word) stands = delivering_holds done word stands
    read_holds (step.Faulting done word) stands = read_faulting_holds s n small done word fd va len stands (word % 256)
    read_holds step.ReadingMode stands = mode_told stands
    read_holds step.TakingPage stands = taking_holds s n read refl live stands
    read_holds step.ReadingNumber stands = number_holds s n read refl live stands
    read_holds (step.StoringNumber number) stands = storing_number_holds s n read refl live number stands
    read_holds step.StoringCount stands = storing_count_holds s n read refl live small stands
    read_holds step.Identifying stands = identifying_holds s n read refl live 0 stands
    read_holds (step.Asking id) stands = asking_holds s n read refl live id 0 stands
    read_holds (step.Pausing id) stands = pausing_holds s n read refl live id 0 stands
    read_holds (step.Awaiting id) stands = awaiting_holds s n read refl live id stands
    read_holds (step.CountingReply id) stands = counting_holds s n read refl live awake id stands
    read_holds (step.Clearing id) stands = clearing_holds s n read refl live awake id stands
    read_holds (step.ReadingReply id) stands = reading_holds s n read refl live id stands
    read_holds (step.FileRegion done count) stands = file_region_holds s n read refl live done count stands
    read_holds (step.FileEntry done count) stands = file_entry_holds s n read refl live done count stands
    read_holds (step.LoadingBytes done count) stands = loading_holds s n read refl live done count stands
    read_holds (step.LoadingRest done count first) stands = rest_holds s n read refl live done count first stands
    read_holds (step.PuttingBytes done count word) stands = putting_holds s n read refl live small done count word stands
    read_holds (step.FileFaulting done count) stands = faulting_holds s n read refl live small done count stands
    read_holds (step.Returning answer) stands = returning_holds s n read refl live answer stands
    read_holds (step.Piped at) stands = read_end_holds s n fd va len live at stands
    read_holds (step.Trying perm) stands = no_step (step.Trying perm) stands refl (λ view k b h. h)
    read_holds step.ReadingRegion stands = no_step step.ReadingRegion stands refl (λ view k b h. h)
    read_holds step.ReadingEntry stands = no_step step.ReadingEntry stands refl (λ view k b h. h)
    read_holds (step.Receiving id) stands = no_step (step.Receiving id) stands refl (λ view k b h. h)
    read_holds (step.ReadingValue id) stands = no_step (step.ReadingValue id) stands refl (λ view k b h. h)
    read_holds (step.ReadingSender id value) stands = no_step (step.ReadingSender id value) stands refl (λ view k b h. h)
    read_holds (step.ReadingPerm id value sender) stands = no_step (step.ReadingPerm id value sender) stands refl (λ view k b h. h)
    read_holds (step.ForkRegion child region) stands = no_step (step.ForkRegion child region) stands refl (λ view k b h. h)
    read_holds (step.ForkEntry child page) stands = no_step (step.ForkEntry child page) stands refl (λ view k b h. h)
    read_holds (step.MapChild child page perm) stands = no_step (step.MapChild child page perm) stands refl (λ view k b h. h)
    read_holds (step.Remap child page) stands = no_step (step.Remap child page) stands refl (λ view k b h. h)
    read_holds (step.ChildStack child) stands = no_step (step.ChildStack child) stands refl (λ view k b h. h)
    read_holds (step.ChildUpcall child) stands = no_step (step.ChildUpcall child) stands refl (λ view k b h. h)
    read_holds (step.ChildRuns child) stands = no_step (step.ChildRuns child) stands refl (λ view k b h. h)
    read_holds (step.Undoing child error) stands = no_step (step.Undoing child error) stands refl (λ view k b h. h)
    read_holds step.TargetEntry stands = no_step step.TargetEntry stands refl (λ view k b h. h)
    read_holds (step.DroppingDescriptor at) stands = no_step (step.DroppingDescriptor at) stands refl (λ view k b h. h)
    read_holds step.MappingDescriptor stands = no_step step.MappingDescriptor stands refl (λ view k b h. h)
    read_holds step.Ending stands = no_step step.Ending stands refl (λ view k b h. h)
    read_holds (step.Gathering done) stands = no_step (step.Gathering done) stands refl (λ view k b h. h)
    read_holds (step.Keeping done word left) stands = no_step (step.Keeping done word left) stands refl (λ view k b h. h)
    read_holds step.Printing stands = no_step step.Printing stands refl (λ view k b h. h)
    read_holds step.Releasing stands = no_step step.Releasing stands refl (λ view k b h. h)
    read_holds step.TakingRequest stands = no_step step.TakingRequest stands refl (λ view k b h. h)
    read_holds (step.GatheringBytes done start) stands = no_step (step.GatheringBytes done start) stands refl (λ view k b h. h)
    read_holds (step.KeepingBytes done word left start) stands = no_step (step.KeepingBytes done word left start) stands refl (λ view k b h. h)
    read_holds step.FreeRegion stands = no_step step.FreeRegion stands refl (λ view k b h. h)
    read_holds (step.FreeEntry kept) stands = no_step (step.FreeEntry kept) stands refl (λ view k b h. h)
    read_holds (step.StoringMode kept) stands = no_step (step.StoringMode kept) stands refl (λ view k b h. h)
    read_holds (step.OpenIdentifying kept) stands = no_step (step.OpenIdentifying kept) stands refl (λ view k b h. h)
    read_holds (step.OpenAsking own kept) stands = no_step (step.OpenAsking own kept) stands refl (λ view k b h. h)
    read_holds (step.OpenPausing own kept) stands = no_step (step.OpenPausing own kept) stands refl (λ view k b h. h)
    read_holds (step.OpenAwaiting own kept) stands = no_step (step.OpenAwaiting own kept) stands refl (λ view k b h. h)
    read_holds (step.OpenClearing own kept) stands = no_step (step.OpenClearing own kept) stands refl (λ view k b h. h)
    read_holds (step.ReadingOpened own kept) stands = no_step (step.ReadingOpened own kept) stands refl (λ view k b h. h)
    read_holds (step.Spawning at) stands = no_step (step.Spawning at) stands refl (λ view k b h. h)
