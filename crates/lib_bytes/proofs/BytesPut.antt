-- The law of the stage in which read or stat of a file puts the next of its bytes into the program's memory, a step of its own of the abstract
-- system, and of that in which the program's page refuses them.
use Rattle.std.proofs.Common.{◌≡◌, ◌∙◌, ◌+◌, ◌-◌, ◌%◌, ◌^◌, ◌==◌, ◌++◌, ◌<◌, ◌≢◌, ℕ, Bool, true, false, [], Ok, Some, refl, sym, ap, subst, arith}
use Rattle.std.proofs.Common.{if◌then◌else◌}
use Rattle.std.specs.Prelude.{nat_le}
use Rattle.std.proofs.lemmas.Bool.Decides.{nat_tests}
use Rattle.jos_base.specs.declared.called.Called.{Called}
use Rattle.jos_base.specs.declared.memory.Access.TheVariants.{Write}
use Rattle.jos_base.specs.declared.numbers.TheConstants.{PGSIZE}
use Rattle.jos_base.specs.Environments.{is_live}
use Rattle.jos_base.specs.KernelState.{KernelState, slot_at}
use Rattle.jos_base.specs.UserMemory.{is_allowed}
use Rattle.jos_base.specs.Words.{page_number}
use Rattle.lib_os.specs.declared.place.Place.TheVariants as place
use Rattle.lib_os.specs.declared.place.Step.TheVariants as step
use Rattle.lib_os.specs.declared.service.Service.{Service}
use Rattle.lib_os.specs.AbstractState.{AbstractState}
use Rattle.lib_os.specs.Answers.{moved_at_once}
use Rattle.lib_os.specs.LibrarySteps.{Lowers, Stands}
use Rattle.lib_os.specs.Places.{place_of}
use Rattle.lib_os.specs.Rows.{Names, is_of_descriptor, rows_of}
use Rattle.lib_os.specs.StandsFor.{StandsFor, view_of}
use Rattle.lib_os.specs.StandsInHandler.{AreSmall, answer_behind, buffer_of, hands_back, is_refused_by, next_page, put_at_once}
use Rattle.lib_os.specs.UserCalls.{CallStep, store, store_byte}
use Rattle.lib_os.proofs.Beneath.{bytes_inside}
use Rattle.lib_os.proofs.BufferAccesses.{moved_is}
use Rattle.lib_os.proofs.FilePut.{behind_is, file_after, file_answers, file_byte, file_console, file_delivered, file_goes_on, file_put_step, file_word}
use Rattle.lib_os.proofs.FilePut.{put_has, put_inside, put_va}
use Rattle.lib_os.proofs.FileRefused.{file_lost_after, file_lost_byte, file_lost_lowers, file_lost_stands, file_lost_word}
use Rattle.lib_os.proofs.FileRefused.{file_stop_va, file_stopped, file_stopped_after, file_stopped_lowers, file_stopped_stands}
use Rattle.lib_os.proofs.Numbered.{number_of}
use Rattle.lib_os.proofs.Serving.{printed_nothing, served}
use Rattle.lib_stage.specs.declared.ask.Ask.TheVariants as ask
use Rattle.lib_stage.specs.declared.ask.Next.{Next}
use Rattle.lib_stage.specs.declared.ask.Next.TheVariants as next
use Rattle.lib_stage.specs.Asks.{performed, told_as}
use Rattle.lib_stage.specs.Nexts.{seen_as, settled}
use Rattle.lib_stage.specs.ServiceSteps.{Plan, ServiceHolds}
use Rattle.lib_stage.proofs.Laws.{store_byte_aside}
use Rattle.lib_file.proofs.Finds.{Follows, staged}
use Rattle.lib_bytes.specs.FileStages.{next_behind, next_of_putting, putting_asked}
use Rattle.lib_bytes.proofs.Delivery.{PutOrLost, byte_lives, delivery_holds, lost, put, word_lives}
use Rattle.lib_bytes.proofs.Handing.{handing_steady, inside_aside, moved_one, moved_same, word_aside}

module _ (s : KernelState) (n : ℕ) (call : Service) (hands : hands_back call ≡ true) (live : is_live (slot_at s n) ≡ true)
    (small : AreSmall (slot_at s n).registers) (done count : ℕ) where
  abbrev va : ℕ
  va = buffer_of call

  -- where the next byte goes
  abbrev at : ℕ
  at = (va + done) % 2 ^ 32

  -- ---- it puts bytes

  module _ (word : ℕ) (stands : place_of (slot_at s n) ≡ place.InService call (step.PuttingBytes done count word)) where
    abbrev many : ℕ
    many = moved_at_once at (count - done)

    many_is : many ≡ put_at_once call done count
    many_is = moved_same (va + done) (count - done)

    abbrev next_here : Next
    next_here = next_of_putting va done count (answer_behind call count)

    -- by whether they are four
    abbrev putting : Bool → Plan
    putting four = staged call (if four then ask.Store at word else ask.StoreByte at (word % 256)) (λ x. next_here)

    shows : (called : Called) (after : KernelState) → Lowers (Ok (seen_as next_here)) n s (settled (number_of call) next_here after n)
    shows called after = by_tests (nat_le count behind) ((va + behind) % 2 ^ 32 % PGSIZE == 0)
      where
        behind : ℕ
        behind = (done + many) % 2 ^ 32

        by_tests : (past page : Bool) →
            let x = if past then next.Show (step.Returning (answer_behind call count))
            else if page then next.Show (step.FileRegion behind count) else next.Show (step.LoadingBytes behind count) in
            Lowers (Ok (seen_as x)) n s (settled (number_of call) x after n)
        by_tests true page = tt
        by_tests false true = tt
        by_tests false false = tt

    module _ (names : Names) (a : AbstractState) (h : StandsFor names s a) where
      -- what it is in the abstract system
      module _ (on : is_allowed s.spaces (slot_at s n).directory (va + done) Write ≡ true) where
        abbrev goes : Next → Type 0
        goes x = s.last ≡ Some n → Follows (file_after h n call done count word stands on) n call a x

        abbrev behind : ℕ
        behind = done + put_at_once call done count

        same : s.last ≡ Some n → (file_delivered h n call done count word stands).console ≡ a.console ++ []
        same last = file_console h n call done count word stands on last ∙ printed_nothing a

        -- the next byte lies in the page of the last
        same_page : behind < count → ((va + behind) % 2 ^ 32 % PGSIZE == 0) ≡ false → next_page call behind ≡ next_page call done
        same_page more test =
            let fewer = (put_has h n call done count word stands).has.fewer in
            let lies = moved_is (va + done) (count - done) (omega (arith, fewer)) in
            let some = lies.some in
            let last = lies.page (put_at_once call done count - 1) (omega (arith, some)) in
            let apart : (va + behind) % 2 ^ 32 % PGSIZE ≢ 0 = grind (arith, nat_tests, test) in
            omega (arith, some, last, apart)

        by_page : behind < count → (t : Bool) → ((va + behind) % 2 ^ 32 % PGSIZE == 0) ≡ t →
            goes (if t then next.Show (step.FileRegion behind count) else next.Show (step.LoadingBytes behind count))
        by_page more true test last = (
          file_delivered h n call done count word stands,
          file_put_step h n call done count word stands,
          same last,
          (names, file_goes_on h n call done count word stands on last (step.FileRegion behind count) refl refl more (λ w c row has. has)),
        )
        by_page more false test last = (
          file_delivered h n call done count word stands,
          file_put_step h n call done count word stands,
          same last,
          (
            names,
            file_goes_on h n call done count word stands on last (step.LoadingBytes behind count) refl refl more (λ w c row has. record {
              has = has;
              allowed = (λ i. is_refused_by true (row i (next_page call behind)))
                  ∙ ap (λ (p : ℕ). is_refused_by true (rows_of s.spaces (slot_at s n).directory p)) (same_page more test)
                  ∙ (put_has h n call done count word stands).allowed;
            }),
          ),
        )

        by_past : (t : Bool) → nat_le count behind ≡ t →
            goes (if t then next.Show (step.Returning (answer_behind call count))
            else if (va + behind) % 2 ^ 32 % PGSIZE == 0 then next.Show (step.FileRegion behind count) else next.Show (step.LoadingBytes behind count))
        by_past true past last = (
          file_delivered h n call done count word stands,
          file_put_step h n call done count word stands,
          same last,
          (names, file_answers h n call done count word stands on last (grind (arith, nat_tests, past))),
        )
        by_past false more last = by_page (grind (arith, nat_tests, more)) ((va + behind) % 2 ^ 32 % PGSIZE == 0) refl last

        put_follows : goes next_here
        put_follows =
            let here : (done + many) % 2 ^ 32 ≡ behind =
            ap (λ (m : ℕ). (done + m) % 2 ^ 32) many_is ∙ (behind_is h n call done count word stands on).1 in
            subst (λ (b : ℕ). goes (next_behind va b count (answer_behind call count))) (sym here) (by_past (nat_le count behind) refl)

      word_comes : (many == 4) ≡ true → PutOrLost s n (putting true) names a
      unfolding performed
      word_comes test = by_allowed (is_allowed s.spaces (slot_at s n).directory (va + done) Write) refl
        where
          there : at ≡ va + done
          there = put_va h n call done count word stands

          four : put_at_once call done count ≡ 4
          four = sym many_is ∙ grind (arith, nat_tests, test)

          by_allowed : (t : Bool) → is_allowed s.spaces (slot_at s n).directory (va + done) Write ≡ t → PutOrLost s n (putting true) names a
          by_allowed true on = put (record {
            after = file_after h n call done count word stands on;
            is = ap (λ (z : CallStep (Unit {0})). told_as (λ x. 0) z)
                (ap (λ (x : ℕ). store s n x word) there ∙ file_word h n call done count word stands on four);
            goes = put_follows on;
          })
          by_allowed false off = lost (record {
            after = file_lost_after h n call done count word stands off;
            is = ap (λ (z : CallStep (Unit {0})). told_as (λ x. 0) z)
                (ap (λ (x : ℕ). store s n x word) there ∙ file_lost_word h n call done count word stands off word);
            stands = file_lost_stands h n call done count word stands off small;
            lower = file_lost_lowers h n call done count word stands off;
          })

      byte_comes : (many == 4) ≡ false → PutOrLost s n (putting false) names a
      unfolding performed
      byte_comes test = by_allowed (is_allowed s.spaces (slot_at s n).directory (va + done) Write) refl
        where
          there : at ≡ va + done
          there = put_va h n call done count word stands

          one : put_at_once call done count ≡ 1
          one = sym many_is ∙ moved_one at (count - done) test

          by_allowed : (t : Bool) → is_allowed s.spaces (slot_at s n).directory (va + done) Write ≡ t → PutOrLost s n (putting false) names a
          by_allowed true on = put (record {
            after = file_after h n call done count word stands on;
            is = ap (λ (z : CallStep (Unit {0})). told_as (λ x. 0) z)
                (ap (λ (x : ℕ). store_byte s n x (word % 256)) there ∙ file_byte h n call done count word stands on one);
            goes = put_follows on;
          })
          by_allowed false off = lost (record {
            after = file_lost_after h n call done count word stands off;
            is = ap (λ (z : CallStep (Unit {0})). told_as (λ x. 0) z)
                (ap (λ (x : ℕ). store_byte s n x (word % 256)) there ∙ file_lost_byte h n call done count word stands off (word % 256));
            stands = file_lost_stands h n call done count word stands off small;
            lower = file_lost_lowers h n call done count word stands off;
          })

    -- the next byte lies on no page of a descriptor's
    aside : (a : AbstractState) → Stands s a → is_of_descriptor (page_number at) ≡ false
    aside a h = inside_aside (va + done) (put_inside h.1 n call done count word stands)

    by_four : (t : Bool) → (many == 4) ≡ t → ServiceHolds s n (putting t)
    by_four true test =
        delivery_holds s n (putting true) call (step.PuttingBytes done count word)
        (record {
          stands = stands;
          plain = word_aside s n at (count - done) word test aside;
          goes_on = handing_steady call hands (step.PuttingBytes done count word) refl;
          few = omega arith;
        })
        (λ called. word_lives s n live at called word) (λ may. may) shows (λ names a h. word_comes names a h test)
    by_four false test =
        delivery_holds s n (putting false) call (step.PuttingBytes done count word)
        (record {
          stands = stands;
          plain = store_byte_aside s n at (word % 256) aside;
          goes_on = handing_steady call hands (step.PuttingBytes done count word) refl;
          few = omega arith;
        })
        (λ called. byte_lives s n live at called (word % 256)) (λ may. may) shows (λ names a h. byte_comes names a h test)

    pub putting_holds : ServiceHolds s n
        (staged call (putting_asked (buffer_of call) done count word) (λ x. next_of_putting (buffer_of call) done count (answer_behind call count)))
    putting_holds = by_four (many == 4) refl

  -- ---- the program's page refuses the next byte

  module _ (stands : place_of (slot_at s n) ≡ place.InService call (step.FileFaulting done count)) where
    abbrev faulting : Plan
    faulting = staged call (ask.StoreByte at 0) (λ x. next.Gone)

    -- the byte lies on no page of a descriptor's
    stop_aside : (a : AbstractState) → Stands s a → is_of_descriptor (page_number at) ≡ false
    stop_aside a h =
        let v = served h.1 n call (step.FileFaulting done count) stands in
        inside_aside (va + done) (bytes_inside (view_of s.spaces (slot_at s n).directory) (slot_at s n) v.b call done count v.at.0)

    faults : (names : Names) (a : AbstractState) → StandsFor names s a → PutOrLost s n faulting names a
    unfolding performed
    faults names a h = lost (record {
      after = file_stopped_after h n call done count stands;
      is = ap (λ (z : CallStep (Unit {0})). told_as (λ x. 0) z)
          (ap (λ (x : ℕ). store_byte s n x 0) (file_stop_va h n call done count stands) ∙ file_stopped h n call done count stands 0);
      stands = file_stopped_stands h n call done count stands small;
      lower = file_stopped_lowers h n call done count stands;
    })

    pub faulting_holds : ServiceHolds s n (staged call (ask.StoreByte ((buffer_of call + done) % 2 ^ 32) 0) (λ x. next.Gone))
    faulting_holds =
        delivery_holds s n faulting call (step.FileFaulting done count)
        (record {
          stands = stands;
          plain = store_byte_aside s n at 0 stop_aside;
          goes_on = handing_steady call hands (step.FileFaulting done count) refl;
          few = omega arith;
        })
        (λ called. byte_lives s n live at called 0) (λ may. may) (λ called after. tt) faults
