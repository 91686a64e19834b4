-- The law of stat: on the console, up to what its descriptor names each of its stages is a part of one step of the abstract system, in which
-- it finds what it tells; then each time it puts bytes is a step of its own. Of a file it goes as `lib_bytes` has it.
use Rattle.std.proofs.Common.{◌≡◌, ◌∙◌, ◌+◌, ◌-◌, ◌++◌, ◌%◌, ◌^◌, ◌==◌, ◌||◌, ◌&&◌, ℕ, zero, suc, Bool, true, false, not, [], Some, Ok}
use Rattle.std.proofs.Common.{List, ◌∷◌, refl, sym, ap, subst, arith, if◌then◌else◌}
use Rattle.std.proofs.lemmas.Bool.Decides.{nat_tests}
use Rattle.std.specs.Prelude.{drop, length, nat_le, slice_index}
use Rattle.std.specs.Int.{from_le_bytes, w32}
use Rattle.jos_base.specs.declared.called.Called.{Called}
use Rattle.jos_base.specs.declared.memory.Access.TheVariants.{Read, Write}
use Rattle.jos_base.specs.declared.numbers.TheConstants.{E_INVAL, E_NOT_SUPP, PGSIZE}
use Rattle.jos_base.specs.declared.registers.Regs.{Regs}
use Rattle.jos_base.specs.Environments.{Slot, is_live, is_runnable, is_running}
use Rattle.jos_base.specs.KernelState.{KernelState, slot_at, with_extra}
use Rattle.jos_base.specs.Messages.{Rendezvous}
use Rattle.jos_base.specs.UserMemory.{is_allowed}
use Rattle.jos_base.specs.Words.{negated, page_number}
use Rattle.fs_layout.specs.FileActs.{stat_bytes}
use Rattle.lib_os.specs.declared.numbers.TheConstants.{DEVICE_CONSOLE, DEVICE_FILE, DEVICE_PIPE, SERVICE_STAT, STAT_SIZE}
use Rattle.lib_os.specs.declared.place.PipeStep.TheVariants as pipe
use Rattle.lib_os.specs.declared.place.Place.TheVariants as place
use Rattle.lib_os.specs.declared.place.Step.{Step}
use Rattle.lib_os.specs.declared.place.Step.TheVariants as step
use Rattle.lib_os.specs.declared.service.Service.{Service}
use Rattle.lib_os.specs.declared.service.Service.TheVariants as service
use Rattle.lib_os.specs.AbstractState.{AbstractState, Born, guest, delivering, entered, in_service, terminal}
use Rattle.lib_os.specs.Answers.{at_stage, refused}
use Rattle.lib_os.specs.Descriptors.{object_of}
use Rattle.lib_os.specs.Fence.{is_buffer}
use Rattle.lib_os.specs.FileServices.{terminal_stat}
use Rattle.lib_os.specs.InOrder.{IsInOrder}
use Rattle.lib_os.specs.LibraryCall.{library_step}
use Rattle.lib_os.specs.LibraryPages.{View}
use Rattle.lib_os.specs.LibrarySteps.{Lowers, Stands, is_pausing}
use Rattle.lib_os.specs.Places.{place_of, words_at}
use Rattle.lib_os.specs.Rows.{Names, is_of_descriptor}
use Rattle.lib_os.specs.StandsFor.{StandsAtStep, StandsFor, borne_in}
use Rattle.lib_os.specs.StandsInHandler.{AreSmall, IsDelivering, stat_told}
use Rattle.lib_os.specs.UserCalls.{CallStep}
use Rattle.lib_os.proofs.BufferAccesses.{stage_stands}
use Rattle.lib_os.proofs.BytesDelivered.{stat_answers, stat_behind, stat_byte_put, stat_console, stat_delivered, stat_goes_on, stat_looks}
use Rattle.lib_os.proofs.BytesDelivered.{stat_putting, stat_step, stat_word_put, told_byte, told_word}
use Rattle.lib_os.proofs.BytesRefused.{stat_lost_after, stat_lost_byte, stat_lost_lowers, stat_lost_stands, stat_lost_word}
use Rattle.lib_os.proofs.DeviceLooks.{at_device, device_answers, device_object, device_va, device_word, reading_device}
use Rattle.lib_os.proofs.FileOpened.{stat_file_outside, stat_finds_file}
use Rattle.lib_os.proofs.Fences.{buffer_each}
use Rattle.lib_os.proofs.Loading.{loaded}
use Rattle.lib_os.proofs.Numbered.{named_at}
use Rattle.lib_os.proofs.PipeBegun.{stat_locks, stat_refused}
use Rattle.lib_os.proofs.PipesStand.{is_calm}
use Rattle.lib_os.proofs.Serving.{IsServed, holds_page, printed_nothing, served, step_in}
use Rattle.lib_os.proofs.StatesStand.{quiet_stands}
use Rattle.lib_os.proofs.Touching.{touched_quiet}
use Rattle.lib_stage.specs.declared.ask.Ask.{Ask}
use Rattle.lib_stage.specs.declared.ask.Ask.TheVariants as ask
use Rattle.lib_stage.specs.declared.ask.Next.{Next}
use Rattle.lib_stage.specs.declared.ask.Next.TheVariants as next
use Rattle.lib_stage.specs.Asks.{performed, told_as}
use Rattle.lib_stage.specs.Nexts.{seen_as, settled}
use Rattle.lib_stage.specs.ServiceSteps.{ServiceHolds, nowhere, or_nowhere}
use Rattle.lib_stage.proofs.Laws.{Falls, law_of_nowhere, store_byte_aside}
use Rattle.lib_file.specs.Finding.{device_asked}
use Rattle.lib_file.specs.Keeping.{next_va}
use Rattle.lib_file.proofs.BufferLaw.{buffer_entry_holds, buffer_region_holds}
use Rattle.lib_file.proofs.FaultingLaw.{stat_faulting_holds}
use Rattle.lib_file.proofs.Finds.{Follows, device_holds_each, entry_holds, region_holds, staged}
use Rattle.lib_request.proofs.PageAsks.{asking_holds, awaiting_holds, clearing_holds, identifying_holds, pausing_holds, reading_holds}
use Rattle.lib_offset.proofs.OffsetStarts.{number_holds, storing_count_holds, storing_number_holds, taking_holds}
use Rattle.lib_bytes.proofs.BytesLoad.{loading_holds, rest_holds}
use Rattle.lib_bytes.proofs.BytesLook.{counting_holds, file_entry_holds, file_region_holds}
use Rattle.lib_bytes.proofs.BytesPut.{faulting_holds, putting_holds}
use Rattle.lib_bytes.proofs.BytesReturn.{returning_holds}
use Rattle.lib_read.specs.StatStages.{delivery_asked, moved, next_of_delivery, next_of_device, pipe_stat, stat_at, telling, told}
use Rattle.lib_bytes.proofs.Handing.{inside_aside, word_aside}
use Rattle.lib_bytes.proofs.Delivery.{PutOrLost, byte_lives, delivery_holds, lost, put, word_lives}
use Rattle.lib_read.proofs.EndLaw.{stat_end_holds}
use Rattle.lib_read.proofs.TerminalBytes.{terminal_length, terminal_small}

-- ---- its step in the abstract system, by its buffer

module _ (a : AbstractState) (n : ℕ) (b : Born) (regs : Regs) (fd va : ℕ) (is : object_of a b fd ≡ Some terminal) where
  stat_refuses : is_buffer va STAT_SIZE ≡ false → library_step a n b regs (service.Stat fd va) entered ≡ Some (refused a n b regs E_INVAL)
  unfolding library_step
  stat_refuses outside = rw (is, outside) refl

  stat_finds : is_buffer va STAT_SIZE ≡ true →
      library_step a n b regs (service.Stat fd va) entered ≡ Some (at_stage a n b (service.Stat fd va) (delivering va terminal_stat 0))
  unfolding library_step stat_bytes
  stat_finds inside = rw (is, inside) refl

-- what is told of a pipe that holds so many bytes, by one more
as_told : (held : ℕ) → stat_told (suc held) ≡ told (suc held)
as_told held =
    let some : (suc held == 0) ≡ false = grind (arith, nat_tests) in
    let less : suc held - 1 ≡ held = omega arith in
    sym (ap (λ (c : Bool). if c then terminal_stat else pipe_stat (suc held - 1)) some ∙ ap pipe_stat less)

module _ (s : KernelState) (n fd va : ℕ) (live : is_live (slot_at s n) ≡ true) (small : AreSmall (slot_at s n).registers) where
  abbrev stat : Service
  stat = service.Stat fd va

  -- ---- what its descriptor names

  module _ (stands : place_of (slot_at s n) ≡ place.InService (service.Stat fd va) step.ReadingDevice) where
    device_falls : (word : ℕ) → Falls stat step.ReadingDevice (next_of_device va word)
    device_falls word =
        by_tests (word == DEVICE_FILE) (not (word == DEVICE_CONSOLE) && not (word == DEVICE_PIPE)) (word == DEVICE_PIPE) (is_buffer va STAT_SIZE)
      where
        by_tests : (of_file other of_pipe inside : Bool) → Falls stat step.ReadingDevice
            (if of_file then (if not inside then next.Answer (negated E_INVAL) else next.GoOn step.TakingPage)
            else if other then next.Answer (negated E_NOT_SUPP)
            else if not inside then next.Answer (negated E_INVAL)
            else if of_pipe then next.GoOn (step.Piped pipe.StatLocking) else next.Show (step.BufferRegion 0 0))
        by_tests true other of_pipe false = tt
        by_tests true other of_pipe true = omega arith
        by_tests false true of_pipe inside = tt
        by_tests false false of_pipe false = tt
        by_tests false false true true = omega arith
        by_tests false false false true = tt

    -- it names a file
    file_follows : (names : Names) (a : AbstractState) → StandsFor names s a → IsInOrder (loaded s n (device_va fd)) → device_word s n fd ≡ DEVICE_FILE →
        Follows (loaded s n (device_va fd)) n stat a (next_of_device va DEVICE_FILE)
    file_follows names a h order word = by_test (is_buffer va STAT_SIZE) refl
      where
        by_test : (t : Bool) → is_buffer va STAT_SIZE ≡ t → Follows (loaded s n (device_va fd)) n stat a
            (if not t then next.Answer (negated E_INVAL) else next.GoOn step.TakingPage)
        by_test false outside = stat_file_outside s n fd h order word va stands outside
        by_test true inside = (refl, (names, stat_finds_file s n fd h order word va stands inside))

    -- it names an end of a pipe
    end_follows : (names : Names) (a : AbstractState) → StandsFor names s a → IsInOrder (loaded s n (device_va fd)) → device_word s n fd ≡ DEVICE_PIPE →
        Follows (loaded s n (device_va fd)) n stat a (next_of_device va DEVICE_PIPE)
    end_follows names a h order word = by_test (is_buffer va STAT_SIZE) refl
      where
        by_test : (t : Bool) → is_buffer va STAT_SIZE ≡ t → Follows (loaded s n (device_va fd)) n stat a
            (if not t then next.Answer (negated E_INVAL) else next.GoOn (step.Piped pipe.StatLocking))
        by_test false outside = stat_refused s n fd h word order va stands outside
        by_test true inside = (refl, (names, stat_locks s n fd h word order va stands inside))

    module _ (names : Names) (a : AbstractState) (h : StandsFor names s a) (order : IsInOrder (loaded s n (device_va fd)))
        (word : device_word s n fd ≡ DEVICE_CONSOLE) where
      abbrev v : IsServed names s a n (service.Stat fd va) step.ReadingDevice
      v = at_device s n stat fd refl stands h

      abbrev after : KernelState
      after = loaded s n (device_va fd)

      seen : object_of a v.b fd ≡ Some terminal
      seen = device_object s n stat fd refl stands h word

      none_behind : va + 0 ≡ va
      none_behind = omega arith

      -- it has all bytes before it
      begins : (k : Slot) → k.registers ≡ (slot_at s n).registers → k.rendezvous ≡ (slot_at s n).rendezvous → is_buffer va STAT_SIZE ≡ true →
          IsDelivering k (record v.b { phase = in_service stat (delivering va terminal_stat 0) }) stat (va + 0) (drop 0 terminal_stat) 0
      begins k same silent inside =
          let it = (reading_device s n stat fd refl stands h).is_in in
          let all = terminal_length in
          record {
            program = it.program ∙ ap guest (sym same);
            phase = ap (λ (q : ℕ). in_service stat (delivering q terminal_stat 0)) (sym none_behind);
            silent = ap (λ (r : Rendezvous). r.receiving) silent ∙ it.silent;
            awake = it.awake;
            some = omega (arith, all);
            inside = (λ i. is_buffer (none_behind i) (all i)) ∙ inside;
            small = terminal_small;
          }

      looks : is_buffer va STAT_SIZE ≡ true → StandsFor names (with_extra after n (words_at SERVICE_STAT (step.BufferRegion 0 0)))
          (at_stage a n v.b stat (delivering va terminal_stat 0))
      looks inside =
          stage_stands (quiet_stands h (touched_quiet s.spaces (slot_at s n).directory (device_va fd) Read) order) n SERVICE_STAT v.b v.is v.outside
          (ap borne_in stands) (ap is_calm stands) stat (step.BufferRegion 0 0) (delivering va terminal_stat 0) (ap holds_page stands) refl refl
          (named_at (slot_at s n) stat step.ReadingDevice stands)
          (begins (record (slot_at s n) { extra = words_at SERVICE_STAT (step.BufferRegion 0 0) }) refl refl inside, tt)

      device_follows : Follows after n stat a (next_of_device va DEVICE_CONSOLE)
      device_follows = by_test (is_buffer va STAT_SIZE) refl
        where
          by_test : (t : Bool) → is_buffer va STAT_SIZE ≡ t →
              Follows after n stat a (if not t then next.Answer (negated E_INVAL) else next.Show (step.BufferRegion 0 0))
          by_test false outside =
              device_answers s n stat fd refl stands h order (negated E_INVAL)
              (stat_refuses a n v.b (slot_at s n).registers fd va seen outside)
          by_test true inside = (
            at_stage a n v.b stat (delivering va terminal_stat 0),
            step_in a n v.b (slot_at s n) stat entered v.is (reading_device s n stat fd refl stands h).is_in
                ∙ stat_finds a n v.b (slot_at s n).registers fd va seen inside,
            printed_nothing a,
            (names, looks inside),
          )

    device_told : ServiceHolds s n (staged stat (device_asked fd) (next_of_device va))
    device_told = device_holds_each s n stat fd refl live stands (next_of_device va) device_falls device_follows file_follows end_follows

  -- ---- it puts bytes

  module _ (done word : ℕ) (stands : place_of (slot_at s n) ≡ place.InService (service.Stat fd va) (step.Delivering done word)) where
    shows : (called : Called) (after : KernelState) →
        Lowers (Ok (seen_as (next_of_delivery va done word))) n s (settled SERVICE_STAT (next_of_delivery va done word) after n)
    shows called after = by_tests (nat_le STAT_SIZE behind) (next_va va behind % PGSIZE == 0)
      where
        behind : ℕ
        behind = (done + moved va done) % 2 ^ 32

        by_tests : (past page : Bool) →
            let x = if past then next.Answer 0 else if page then next.Show (step.BufferRegion behind word) else next.Show (step.Delivering behind word) in
            Lowers (Ok (seen_as x)) n s (settled SERVICE_STAT x after n)
        by_tests true page = tt
        by_tests false true = tt
        by_tests false false = tt

    module _ (names : Names) (a : AbstractState) (h : StandsFor names s a) where
      abbrev w : IsServed names s a n (service.Stat fd va) (step.Delivering done word)
      w = served h n (service.Stat fd va) (step.Delivering done word) stands

      -- what it is in the abstract system
      put_follows : (on : is_allowed s.spaces (slot_at s n).directory (next_va va done) Write ≡ true) →
          s.last ≡ Some n → Follows (stat_putting h n fd va done word w on) n stat a (next_of_delivery va done word)
      put_follows on = by_past (nat_le STAT_SIZE behind) refl
        where
          behind : ℕ
          behind = stat_behind h n fd va done word w

          goes : (x : Next) → Type 0
          goes x = s.last ≡ Some n → Follows (stat_putting h n fd va done word w on) n stat a x

          same : s.last ≡ Some n → (stat_delivered h n fd va done word w).console ≡ a.console ++ []
          same last = stat_console h n fd va done word w on last ∙ printed_nothing a

          by_page : nat_le STAT_SIZE behind ≡ false → (t : Bool) → (next_va va behind % PGSIZE == 0) ≡ t →
              goes (if t then next.Show (step.BufferRegion behind word) else next.Show (step.Delivering behind word))
          by_page more true test last =
              (stat_delivered h n fd va done word w, stat_step h n fd va done word w, same last, (names, stat_looks h n fd va done word w on last more))
          by_page more false test last =
              (stat_delivered h n fd va done word w, stat_step h n fd va done word w, same last, (names, stat_goes_on h n fd va done word w on last more test))

          by_past : (t : Bool) → nat_le STAT_SIZE behind ≡ t →
              goes (if t then next.Answer 0 else if next_va va behind % PGSIZE == 0 then next.Show (step.BufferRegion behind word)
              else next.Show (step.Delivering behind word))
          by_past true past last =
              (stat_delivered h n fd va done word w, stat_step h n fd va done word w, same last, (names, stat_answers h n fd va done word w on last past))
          by_past false more last = by_page more (next_va va behind % PGSIZE == 0) refl last

      -- a word, or a byte
      word_comes : (moved va done == 4) ≡ true →
          PutOrLost s n (staged stat (ask.Store (next_va va done) (told_word word done)) (λ x. next_of_delivery va done word)) names a
      unfolding performed
      word_comes test = by_allowed (is_allowed s.spaces (slot_at s n).directory (next_va va done) Write) refl
        where
          by_allowed : (t : Bool) → is_allowed s.spaces (slot_at s n).directory (next_va va done) Write ≡ t →
              PutOrLost s n (staged stat (ask.Store (next_va va done) (told_word word done)) (λ x. next_of_delivery va done word)) names a
          by_allowed true on = put (record {
            after = stat_putting h n fd va done word w on;
            is = ap (λ (z : CallStep (Unit {0})). told_as (λ x. 0) z) (stat_word_put h n fd va done word w on test);
            goes = put_follows on;
          })
          by_allowed false off = lost (record {
            after = stat_lost_after h n fd va done word w off;
            is = ap (λ (z : CallStep (Unit {0})). told_as (λ x. 0) z) (stat_lost_word h n fd va done word w off (told_word word done));
            stands = stat_lost_stands h n fd va done word w off small;
            lower = stat_lost_lowers h n fd va done word w off;
          })

      byte_comes : (moved va done == 4) ≡ false →
          PutOrLost s n (staged stat (ask.StoreByte (next_va va done) (told_byte word done)) (λ x. next_of_delivery va done word)) names a
      unfolding performed
      byte_comes test = by_allowed (is_allowed s.spaces (slot_at s n).directory (next_va va done) Write) refl
        where
          by_allowed : (t : Bool) → is_allowed s.spaces (slot_at s n).directory (next_va va done) Write ≡ t →
              PutOrLost s n (staged stat (ask.StoreByte (next_va va done) (told_byte word done)) (λ x. next_of_delivery va done word)) names a
          by_allowed true on = put (record {
            after = stat_putting h n fd va done word w on;
            is = ap (λ (z : CallStep (Unit {0})). told_as (λ x. 0) z) (stat_byte_put h n fd va done word w on test);
            goes = put_follows on;
          })
          by_allowed false off = lost (record {
            after = stat_lost_after h n fd va done word w off;
            is = ap (λ (z : CallStep (Unit {0})). told_as (λ x. 0) z) (stat_lost_byte h n fd va done word w off (told_byte word done));
            stands = stat_lost_stands h n fd va done word w off small;
            lower = stat_lost_lowers h n fd va done word w off;
          })

    -- they lie on no page of a descriptor's
    aside : (a : AbstractState) → Stands s a → is_of_descriptor (page_number (next_va va done)) ≡ false
    aside a h =
        let v = served h.1 n (service.Stat fd va) (step.Delivering done word) stands in
        let some = v.at.0.some in
        inside_aside (va + done)
        (buffer_each (va + done) (length (drop done (stat_told word))) (va + done) v.at.0.inside (omega arith) (omega (arith, some)))

    delivering_by : ServiceHolds s n (staged stat (if moved va done == 4 then ask.Store (next_va va done) (told_word word done)
        else ask.StoreByte (next_va va done) (told_byte word done)) (λ x. next_of_delivery va done word))
    delivering_by = by_test (moved va done == 4) refl
      where
        by_test : (t : Bool) → (moved va done == 4) ≡ t →
            ServiceHolds s n (staged stat (if t then ask.Store (next_va va done) (told_word word done)
            else ask.StoreByte (next_va va done) (told_byte word done)) (λ x. next_of_delivery va done word))
        by_test true test =
            delivery_holds s n (staged stat (ask.Store (next_va va done) (told_word word done)) (λ x. next_of_delivery va done word)) stat
            (step.Delivering done word)
            (record {
              stands = stands;
              plain = word_aside s n (next_va va done) (STAT_SIZE - done) (told_word word done) test aside;
              goes_on = refl;
              few = omega arith;
            })
            (λ called. word_lives s n live (next_va va done) called (told_word word done)) (λ may. may) shows
            (λ names a h. word_comes names a h test)
        by_test false test =
            delivery_holds s n (staged stat (ask.StoreByte (next_va va done) (told_byte word done)) (λ x. next_of_delivery va done word)) stat
            (step.Delivering done word)
            (record { stands = stands; plain = store_byte_aside s n (next_va va done) (told_byte word done) aside; goes_on = refl; few = omega arith })
            (λ called. byte_lives s n live (next_va va done) called (told_byte word done)) (λ may. may) shows
            (λ names a h. byte_comes names a h test)

  -- its word, or its byte, of what is told
  delivery_by : ℕ → ℕ → List ℕ → Ask
  delivery_by done word bytes =
      if moved va done == 4 then ask.Store (next_va va done) (from_le_bytes w32 (slice_index bytes (done % 2 ^ 32)
      ∷ slice_index bytes ((done + 1) % 2 ^ 32) ∷ slice_index bytes ((done + 2) % 2 ^ 32) ∷ slice_index bytes ((done + 3) % 2 ^ 32) ∷ []))
      else ask.StoreByte (next_va va done) (slice_index bytes (done % 2 ^ 32))

  -- of the console, or of a pipe
  delivering_holds : (done word : ℕ) → place_of (slot_at s n) ≡ place.InService (service.Stat fd va) (step.Delivering done word) →
      ServiceHolds s n (staged stat (delivery_asked va done word) (λ x. next_of_delivery va done word))
  unfolding delivery_by
  delivering_holds done zero stands = delivering_by done zero stands
  delivering_holds done (suc held) stands =
      subst (λ (bytes : List ℕ). ServiceHolds s n (staged stat (delivery_by done (suc held) bytes) (λ x. next_of_delivery va done (suc held))))
      (as_told held) (delivering_by done (suc held) stands)

  -- ---- each step

  no_step : (at : Step) → place_of (slot_at s n) ≡ place.InService stat at → is_pausing (place.InService stat at) ≡ false →
      ((view : View) (k : Slot) (b : Born) → StandsAtStep view k b stat at → ⊥) → ServiceHolds s n nowhere
  no_step at stands goes_on none = law_of_nowhere s n stat at stands goes_on none

  module _ (awake : (is_runnable (slot_at s n).status || is_running (slot_at s n).status) ≡ true) where
    pub stat_holds : (at : Step) → place_of (slot_at s n) ≡ place.InService (service.Stat fd va) at →
        ServiceHolds s n (or_nowhere telling (stat_at fd va at))
    stat_holds step.Entered stands = region_holds s n stat fd refl live stands
    stat_holds (step.DescriptorEntry at) stands = entry_holds s n stat fd refl live at stands
    stat_holds step.ReadingDevice stands = device_told stands
    stat_holds (step.BufferRegion done word) stands = buffer_region_holds s n stat live done word word refl stands
    stat_holds (step.BufferEntry done word) stands = buffer_entry_holds s n stat live done word word refl stands
    stat_holds (step.Delivering done word) stands = delivering_holds done word stands
    stat_holds (step.Faulting done word) stands = stat_faulting_holds s n small done word fd va stands 0
    stat_holds step.TakingPage stands = taking_holds s n stat refl live stands
    stat_holds step.ReadingNumber stands = number_holds s n stat refl live stands
    stat_holds (step.StoringNumber number) stands = storing_number_holds s n stat refl live number stands
    stat_holds step.StoringCount stands = storing_count_holds s n stat refl live small stands
    stat_holds step.Identifying stands = identifying_holds s n stat refl live 0 stands
    stat_holds (step.Asking id) stands = asking_holds s n stat refl live id 0 stands
    stat_holds (step.Pausing id) stands = pausing_holds s n stat refl live id 0 stands
    stat_holds (step.Awaiting id) stands = awaiting_holds s n stat refl live id stands
    stat_holds (step.CountingReply id) stands = counting_holds s n stat refl live awake id stands
    stat_holds (step.Clearing id) stands = clearing_holds s n stat refl live awake id stands
    stat_holds (step.ReadingReply id) stands = reading_holds s n stat refl live id stands
    stat_holds (step.FileRegion done count) stands = file_region_holds s n stat refl live done count stands
    stat_holds (step.FileEntry done count) stands = file_entry_holds s n stat refl live done count stands
    stat_holds (step.LoadingBytes done count) stands = loading_holds s n stat refl live done count stands
    stat_holds (step.LoadingRest done count first) stands = rest_holds s n stat refl live done count first stands
    stat_holds (step.PuttingBytes done count word) stands = putting_holds s n stat refl live small done count word stands
    stat_holds (step.FileFaulting done count) stands = faulting_holds s n stat refl live small done count stands
    stat_holds (step.Returning answer) stands = returning_holds s n stat refl live answer stands
    stat_holds (step.Piped at) stands = stat_end_holds s n fd va live at stands
    stat_holds (step.Trying perm) stands = no_step (step.Trying perm) stands refl (λ view k b h. h)
    stat_holds step.ReadingRegion stands = no_step step.ReadingRegion stands refl (λ view k b h. h)
    stat_holds step.ReadingEntry stands = no_step step.ReadingEntry stands refl (λ view k b h. h)
    stat_holds (step.Receiving id) stands = no_step (step.Receiving id) stands refl (λ view k b h. h)
    stat_holds (step.ReadingValue id) stands = no_step (step.ReadingValue id) stands refl (λ view k b h. h)
    stat_holds (step.ReadingSender id value) stands = no_step (step.ReadingSender id value) stands refl (λ view k b h. h)
    stat_holds (step.ReadingPerm id value sender) stands = no_step (step.ReadingPerm id value sender) stands refl (λ view k b h. h)
    stat_holds (step.ForkRegion child region) stands = no_step (step.ForkRegion child region) stands refl (λ view k b h. h)
    stat_holds (step.ForkEntry child page) stands = no_step (step.ForkEntry child page) stands refl (λ view k b h. h)
    stat_holds (step.MapChild child page perm) stands = no_step (step.MapChild child page perm) stands refl (λ view k b h. h)
    stat_holds (step.Remap child page) stands = no_step (step.Remap child page) stands refl (λ view k b h. h)
    stat_holds (step.ChildStack child) stands = no_step (step.ChildStack child) stands refl (λ view k b h. h)
    stat_holds (step.ChildUpcall child) stands = no_step (step.ChildUpcall child) stands refl (λ view k b h. h)
    stat_holds (step.ChildRuns child) stands = no_step (step.ChildRuns child) stands refl (λ view k b h. h)
    stat_holds (step.Undoing child error) stands = no_step (step.Undoing child error) stands refl (λ view k b h. h)
    stat_holds step.TargetEntry stands = no_step step.TargetEntry stands refl (λ view k b h. h)
    stat_holds (step.DroppingDescriptor at) stands = no_step (step.DroppingDescriptor at) stands refl (λ view k b h. h)
    stat_holds step.MappingDescriptor stands = no_step step.MappingDescriptor stands refl (λ view k b h. h)
    stat_holds step.Ending stands = no_step step.Ending stands refl (λ view k b h. h)
    stat_holds (step.Gathering done) stands = no_step (step.Gathering done) stands refl (λ view k b h. h)
    stat_holds (step.Keeping done word left) stands = no_step (step.Keeping done word left) stands refl (λ view k b h. h)
    stat_holds step.Printing stands = no_step step.Printing stands refl (λ view k b h. h)
    stat_holds step.Releasing stands = no_step step.Releasing stands refl (λ view k b h. h)
    stat_holds step.Getting stands = no_step step.Getting stands refl (λ view k b h. h)
    stat_holds step.ReadingMode stands = no_step step.ReadingMode stands refl (λ view k b h. h)
    stat_holds step.TakingRequest stands = no_step step.TakingRequest stands refl (λ view k b h. h)
    stat_holds (step.GatheringBytes done start) stands = no_step (step.GatheringBytes done start) stands refl (λ view k b h. h)
    stat_holds (step.KeepingBytes done word left start) stands = no_step (step.KeepingBytes done word left start) stands refl (λ view k b h. h)
    stat_holds step.FreeRegion stands = no_step step.FreeRegion stands refl (λ view k b h. h)
    stat_holds (step.FreeEntry kept) stands = no_step (step.FreeEntry kept) stands refl (λ view k b h. h)
    stat_holds (step.StoringMode kept) stands = no_step (step.StoringMode kept) stands refl (λ view k b h. h)
    stat_holds (step.OpenIdentifying kept) stands = no_step (step.OpenIdentifying kept) stands refl (λ view k b h. h)
    stat_holds (step.OpenAsking own kept) stands = no_step (step.OpenAsking own kept) stands refl (λ view k b h. h)
    stat_holds (step.OpenPausing own kept) stands = no_step (step.OpenPausing own kept) stands refl (λ view k b h. h)
    stat_holds (step.OpenAwaiting own kept) stands = no_step (step.OpenAwaiting own kept) stands refl (λ view k b h. h)
    stat_holds (step.OpenClearing own kept) stands = no_step (step.OpenClearing own kept) stands refl (λ view k b h. h)
    stat_holds (step.ReadingOpened own kept) stands = no_step (step.ReadingOpened own kept) stands refl (λ view k b h. h)
    stat_holds (step.Spawning at) stands = no_step (step.Spawning at) stands refl (λ view k b h. h)
