-- read counts a byte of a pipe as taken, and write counts one as put: each is seen, as are the end of a read and of a write behind their last byte, where
-- they give back the lock. The kernel's state stands for the abstract one behind the service's step.
use Rattle.std.proofs.Common.{◌≡◌, ◌∙◌, ◌<◌, ◌≤◌, ◌+◌, ◌%◌, ◌^◌, ◌++◌, ℕ, zero, suc, true, false, List, [], ◌∷◌, Some, None}
use Rattle.std.proofs.Common.{refl, sym, ap, subst, arith, length}
use Rattle.std.specs.Option.{option_map}
use Rattle.std.specs.Prelude.{drop, min, nat_lt, slice_index}
use Rattle.std.proofs.lemmas.Bool.Decides.{nat_tests}
use Rattle.std.proofs.lemmas.List.{append-nil, length_push}
use Rattle.std.proofs.lemmas.Option.{same_Some}
use Rattle.jos_base.specs.declared.registers.Regs.{Regs}
use Rattle.jos_base.specs.Environments.{Slot}
use Rattle.jos_base.specs.KernelState.{KernelState, slot_at, with_extra, with_spaces}
use Rattle.jos_base.specs.Reach.{Entry}
use Rattle.jos_base.specs.Words.{upd}
use Rattle.jos_base.proofs.Maps.{upd-other}
use Rattle.lib_os.specs.declared.numbers.TheConstants.{DESCRIPTORS, PIPE_LOCK, PIPE_READ, PIPE_WRITE, TRANSFER_MAX}
use Rattle.lib_os.specs.declared.place.PipeStep.{PipeStep}
use Rattle.lib_os.specs.declared.place.PipeStep.TheVariants as pipe
use Rattle.lib_os.specs.declared.place.Place.{Place}
use Rattle.lib_os.specs.declared.place.Place.TheVariants as place
use Rattle.lib_os.specs.declared.place.Step.{Step}
use Rattle.lib_os.specs.declared.place.Step.TheVariants as step
use Rattle.lib_os.specs.declared.progress.Progress.TheVariants as progress
use Rattle.lib_os.specs.declared.service.Service.{Service}
use Rattle.lib_os.specs.declared.service.Service.TheVariants as service
use Rattle.lib_os.specs.AbstractPipes.{read_over, read_pipe, write_pipe}
use Rattle.lib_os.specs.AbstractRun.{abs_step}
use Rattle.lib_os.specs.AbstractState.{AbstractState, Born, Object, at_guest, born, delivering, guest, in_service, read_end, write_end}
use Rattle.lib_os.specs.AbstractState.{with_born}
use Rattle.lib_os.specs.Answers.{answered}
use Rattle.lib_os.specs.DescriptorPages.{pipe_byte, pipe_bytes}
use Rattle.lib_os.specs.Descriptors.{object_of}
use Rattle.lib_os.specs.Fence.{is_buffer}
use Rattle.lib_os.specs.FileServices.{read_begun, read_moving, read_step, write_gathering, write_moving, write_step}
use Rattle.lib_os.specs.InService.{IsIn}
use Rattle.lib_os.specs.LibraryCall.{library_step}
use Rattle.lib_os.specs.InOrder.{IsInOrder}
use Rattle.lib_os.specs.LibraryPages.{View}
use Rattle.lib_os.specs.LibrarySteps.{KeepsStanding}
use Rattle.lib_os.specs.PipeEnds.{is_dropped, is_made}
use Rattle.lib_os.specs.Places.{place_of, words_at}
use Rattle.lib_os.specs.Rows.{Names, pipe_page, rows_of}
use Rattle.lib_os.specs.StandsAtPipe.{stage_put, stage_taken}
use Rattle.lib_os.specs.StandsFor.{StandsFor, borne_in, things_in, view_of}
use Rattle.lib_os.specs.StandsInHandler.{HandsAt, IsEndOpen, behind, wanted_of}
use Rattle.lib_os.specs.UserCalls.{CallStep, store}
use Rattle.lib_os.proofs.DescriptorLooks.{SeesDescriptors, seen_unmade}
use Rattle.lib_os.proofs.DeviceLooks.{end_object, names_end}
use Rattle.lib_os.proofs.Logical.{is_making_pipe}
use Rattle.lib_os.proofs.Numbered.{number_of}
use Rattle.lib_os.proofs.PageBytes.{bytes_append, bytes_more, bytes_none}
use Rattle.lib_os.proofs.PipeBytes.{lock_stored, lock_there, put_stands, read_all, read_stored, read_takes, same_stands, taken_stands, told_less, told_long}
use Rattle.lib_os.proofs.PipeBytes.{with_word, with_word_whole, write_all, write_puts, written_stored}
use Rattle.lib_os.proofs.PipeStored.{end_kept, taken_kept}
use Rattle.lib_os.proofs.PipeWritten.{IsWritten, held_on, is_back, pipe_address, pipe_has, pipe_whole, shown_behind, word_puts}
use Rattle.lib_os.proofs.Serving.{served, step_in}

-- ---- what is seen

-- The store gives nothing, and is the step of the slot in the abstract system; nothing is printed.
pub record IsSeen (names : Names) (s : KernelState) (a : AbstractState) (n : ℕ) (call : Service) (step : CallStep (Unit {0})) (to : Step) : Type 0 where
  pub after : AbstractState
  pub takes : abs_step a n ≡ Some after
  pub console : after.console ≡ a.console
  pub written : IsWritten names s n call step to after

-- ---- the abstract steps

pub read_is : (a : AbstractState) (n : ℕ) (b : Born) (regs : Regs) (fd va len pipe : ℕ) (taken : List ℕ) → object_of a b fd ≡ Some (read_end pipe) →
    is_buffer va (wanted_of len) ≡ true →
    read_step a n b regs (service.Read fd va len) fd va len (stage_taken taken)
    ≡ read_pipe a n b regs (service.Read fd va len) va pipe (min len TRANSFER_MAX) taken
read_is a n b regs fd va len pipe [] is inside =
    ap (read_begun a n b regs (service.Read fd va len) fd va len) is
    ∙ rw inside refl
read_is a n b regs fd va len pipe (byte ∷ rest) is inside = ap (read_moving a n b regs (service.Read fd va len) va len (byte ∷ rest)) is

pub write_is : (a : AbstractState) (n : ℕ) (b : Born) (regs : Regs) (fd va len pipe : ℕ) (bytes : List ℕ) (done : ℕ) →
    object_of a b fd ≡ Some (write_end pipe) → length bytes ≡ wanted_of len →
    write_step a n b regs (service.Write fd va len) fd va len (stage_put bytes done)
    ≡ write_pipe a n b regs (service.Write fd va len) pipe (drop done bytes) done
write_is a n b regs fd va len pipe bytes zero is many =
    let all : nat_lt (length bytes) (min len TRANSFER_MAX) ≡ false = grind (arith, nat_tests) in
    ap (write_gathering a n b regs (service.Write fd va len) fd va len bytes) is
    ∙ rw all refl
write_is a n b regs fd va len pipe bytes (suc done) is many =
    ap (write_moving a n b regs (service.Write fd va len) (drop (suc done) bytes) (suc done)) is

-- the step of a slot in read, or in write
pub reading_step : (a : AbstractState) (n : ℕ) (b : Born) (k : Slot) (fd va len pipe : ℕ) (taken : List ℕ) → a.slots n ≡ born b →
    IsIn k b (service.Read fd va len) (stage_taken taken) → object_of a b fd ≡ Some (read_end pipe) → is_buffer va (wanted_of len) ≡ true →
    abs_step a n ≡ read_pipe a n b k.registers (service.Read fd va len) va pipe (wanted_of len) taken
unfolding library_step
reading_step a n b k fd va len pipe taken at is named inside =
    step_in a n b k (service.Read fd va len) (stage_taken taken) at is ∙ read_is a n b k.registers fd va len pipe taken named inside

pub writing_step : (a : AbstractState) (n : ℕ) (b : Born) (k : Slot) (fd va len pipe : ℕ) (bytes : List ℕ) (done : ℕ) → a.slots n ≡ born b →
    IsIn k b (service.Write fd va len) (stage_put bytes done) → object_of a b fd ≡ Some (write_end pipe) → length bytes ≡ wanted_of len →
    abs_step a n ≡ write_pipe a n b k.registers (service.Write fd va len) pipe (drop done bytes) done
unfolding library_step
writing_step a n b k fd va len pipe bytes done at is named many =
    step_in a n b k (service.Write fd va len) (stage_put bytes done) at is ∙ write_is a n b k.registers fd va len pipe bytes done named many

-- ---- the pipe of a descriptor

-- It is that of the page beside it.
pub end_named : {names : Names} {s : KernelState} {a : AbstractState} → StandsFor names s a → (n : ℕ) (b : Born) → a.slots n ≡ born b →
    borne_in (place_of (slot_at s n)) ≡ None → is_making_pipe (place_of (slot_at s n)) ≡ false → SeesDescriptors names s n b → (fd mode : ℕ) →
    fd < DESCRIPTORS → IsEndOpen (view_of s.spaces (slot_at s n).directory) fd mode → (e : Entry) →
    rows_of s.spaces (slot_at s n).directory (pipe_page fd) ≡ Some e → object_of a b fd ≡ Some (end_object mode (names.name e.frame))
end_named {names = names} {a = a} h n b at unborne unmade seen fd mode below open_end e lies =
    let it = names_end h n b at unborne unmade seen fd below mode open_end in
    let same : names.name e.frame ≡ it.pipe =
    ap (λ (x : Entry). names.name x.frame) (same_Some e open_end.page (sym lies ∙ open_end.lies)) ∙ it.page_is in
    ap (option_map a.objects) it.named ∙ ap (λ (o : Object). Some o) it.is ∙ ap (λ (q : ℕ). Some (end_object mode q)) (sym same)

-- ---- a byte is taken

module _ {names : Names} {s : KernelState} {a : AbstractState} (h : StandsFor names s a) (n fd va len : ℕ) (last : s.last ≡ Some n) where
  abbrev space : View
  space = view_of s.spaces (slot_at s n).directory

  abbrev reads : Service
  reads = service.Read fd va len

  abbrev writes : Service
  writes = service.Write fd va len

  -- at such a step of either
  named_here : (call : Service) (at : PipeStep) → place_of (slot_at s n) ≡ place.InService call (step.Piped at) →
      borne_in (place.InService call (step.Piped at)) ≡ None → is_making_pipe (place.InService call (step.Piped at)) ≡ false →
      ((other : ℕ) → is_made (place.InService call (step.Piped at)) other ≡ false) →
      ((other : ℕ) → is_dropped (place.InService call (step.Piped at)) other ≡ false) → (b : Born) → a.slots n ≡ born b → (mode : ℕ) →
      fd < DESCRIPTORS → IsEndOpen space fd mode → (e : Entry) → space.row (pipe_page fd) ≡ Some e →
      object_of a b fd ≡ Some (end_object mode (names.name e.frame))
  named_here call at stands none unmade made dropped b is mode below open_end e lies =
      end_named h n b is (ap borne_in stands ∙ none) (ap is_making_pipe stands ∙ unmade)
      (seen_unmade h n b is (λ other. ap (λ (p : Place). is_made p other) stands ∙ made other)
      (λ other. ap (λ (p : Place). is_dropped p other) stands ∙ dropped other)) fd mode below open_end e lies

  pub held_taken : (done from : ℕ) → place_of (slot_at s n) ≡ place.InService (service.Read fd va len) (step.Piped (pipe.TakingHeld done from)) →
      IsSeen names s a n (service.Read fd va len) (store s n (pipe_address fd + PIPE_READ) ((from + 1) % 2 ^ 32))
      (step.Piped (pipe.UnlockingMoved ((done + 1) % 2 ^ 32)))
  held_taken done from stands =
      let at = pipe.TakingHeld done from in
      let it = served h n reads (step.Piped at) stands in
      let moving = it.at.0 in
      let reading = moving.0 in
      let there = it.at.1 in
      let e = there.page in
      let page = s.spaces.pages e.frame in
      let now = with_word page PIPE_READ ((from + 1) % 2 ^ 32) in
      let byte = pipe_byte page from in
      let more = moving.1 in
      let next : (done + 1) % 2 ^ 32 ≡ suc done = omega (arith, more) in
      let puts = word_puts h n reads refl at stands reading.below e there.lies last PIPE_READ ((from + 1) % 2 ^ 32) (omega arith) in
      let whole = pipe_whole h n reads refl at stands reading.below e there.lies in
      let has = pipe_has h n reads refl at stands reading.below e there.lies in
      let less = read_stored page from whole there.so.0 there.so.1 in
      let named = named_here reads at stands refl refl (λ other. refl) (λ other. refl) it.b it.is 0 reading.below reading.open_end e there.lies in
      let taken = reading.taken ++ byte ∷ [] in
      let to = step.Piped (pipe.UnlockingMoved (suc done)) in
      let words = words_at (number_of reads) to in
      let pipes = upd a.pipes (names.name e.frame) (pipe_bytes now) in
      let c : Born = record it.b { phase = in_service reads (stage_taken taken) } in
      let many = reading.many in
      subst (λ (q : ℕ). IsSeen names s a n reads (store s n (pipe_address fd + PIPE_READ) ((from + 1) % 2 ^ 32)) (step.Piped (pipe.UnlockingMoved q)))
      (sym next)
      (record {
        after = with_born (record a { pipes = pipes }) n c;
        takes = reading_step a n it.b (slot_at s n) fd va len (names.name e.frame) reading.taken it.is reading.is_in named reading.inside
            ∙ read_takes a n it.b (slot_at s n).registers reads (names.name e.frame) va (wanted_of len) reading.taken byte (pipe_bytes now)
            (told_less has less ∙ ap (λ (q : ℕ). pipe_byte page q ∷ pipe_bytes now) there.so.0) (omega (arith, many, more));
        console = refl;
        written = record {
          spaces = puts.spaces;
          step_is = puts.step_is;
          stands = shown_behind h n reads refl at stands reading.below e there.lies last puts.spaces now
              (with_word_whole page PIPE_READ ((from + 1) % 2 ^ 32) whole) puts.rewritten to (held_on refl refl less.lock_is) (λ other. refl) refl pipes
              (λ other ne. upd-other a.pipes (names.name e.frame) (pipe_bytes now) other ne) (taken_stands has less) it.b.program c.phase it.b.blocked
              refl
              (λ alike now_is. (
                record {
                  taken = taken;
                  is_in = record { program = reading.is_in.program; phase = refl; silent = reading.is_in.silent; awake = reading.is_in.awake };
                  below = reading.below;
                  open_end = end_kept alike reading.below reading.open_end;
                  many = length_push reading.taken byte ∙ omega (arith, many);
                  inside = reading.inside;
                  small = bytes_append reading.taken (byte ∷ []) reading.small (bytes_more byte [] (whole.small _) bytes_none);
                  kept = taken_kept alike there.so.2;
                },
                omega arith,
                omega (arith, more),
              ));
        };
      })

  -- ---- a byte is put

  pub own_counted : (done to : ℕ) → place_of (slot_at s n) ≡ place.InService (service.Write fd va len) (step.Piped (pipe.Putting done to)) →
      IsSeen names s a n (service.Write fd va len) (store s n (pipe_address fd + PIPE_WRITE) ((to + 1) % 2 ^ 32))
      (step.Piped (pipe.UnlockingMoved ((done + 1) % 2 ^ 32)))
  own_counted done to stands =
      let at = pipe.Putting done to in
      let it = served h n writes (step.Piped at) stands in
      let moving = it.at.0 in
      let writing = moving.0 in
      let there = it.at.1 in
      let e = there.page in
      let page = s.spaces.pages e.frame in
      let now = with_word page PIPE_WRITE ((to + 1) % 2 ^ 32) in
      let byte = slice_index writing.bytes done in
      let more = moving.1 in
      let next : (done + 1) % 2 ^ 32 ≡ suc done = omega (arith, more) in
      let puts = word_puts h n writes refl at stands writing.below e there.lies last PIPE_WRITE ((to + 1) % 2 ^ 32) (omega arith) in
      let whole = pipe_whole h n writes refl at stands writing.below e there.lies in
      let has = pipe_has h n writes refl at stands writing.below e there.lies in
      let room = there.so.1 in
      let gains = written_stored page to whole there.so.0 room in
      let named = named_here writes at stands refl refl (λ other. refl) (λ other. refl) it.b it.is 1 writing.below writing.open_end e there.lies in
      let then_to = step.Piped (pipe.UnlockingMoved (suc done)) in
      let name = names.name e.frame in
      let pipes = upd a.pipes name (a.pipes name ++ byte ∷ []) in
      let c : Born = record it.b { phase = in_service writes (stage_put writing.bytes (suc done)) } in
      let many = writing.many in
      let long = told_long has in
      subst (λ (q : ℕ). IsSeen names s a n writes (store s n (pipe_address fd + PIPE_WRITE) ((to + 1) % 2 ^ 32)) (step.Piped (pipe.UnlockingMoved q)))
      (sym next)
      (record {
        after = with_born (record a { pipes = pipes }) n c;
        takes = writing_step a n it.b (slot_at s n) fd va len name writing.bytes done it.is writing.is_in named writing.many
            ∙ write_puts a n it.b (slot_at s n).registers writes name writing.bytes done (omega (arith, many, more)) (omega (arith, long, room));
        console = refl;
        written = record {
          spaces = puts.spaces;
          step_is = puts.step_is;
          stands = shown_behind h n writes refl at stands writing.below e there.lies last puts.spaces now
              (with_word_whole page PIPE_WRITE ((to + 1) % 2 ^ 32) whole) puts.rewritten then_to (held_on refl refl gains.lock_is) (λ other. refl) refl
              pipes (λ other ne. upd-other a.pipes name (a.pipes name ++ byte ∷ []) other ne)
              (put_stands has byte (ap (pipe_byte page) there.so.0 ∙ there.so.2) room gains) it.b.program c.phase it.b.blocked refl
              (λ alike now_is. (
                record {
                  bytes = writing.bytes;
                  is_in = record { program = writing.is_in.program; phase = refl; silent = writing.is_in.silent; awake = writing.is_in.awake };
                  below = writing.below;
                  open_end = end_kept alike writing.below writing.open_end;
                  many = writing.many;
                  small = writing.small;
                  kept = taken_kept alike writing.kept;
                },
                omega arith,
                omega (arith, more),
              ));
        };
      })

  -- ---- all bytes are moved

  pub read_ended : (done : ℕ) → place_of (slot_at s n) ≡ place.InService (service.Read fd va len) (step.Piped (pipe.UnlockingMoved done)) →
      wanted_of len ≤ done →
      IsSeen names s a n (service.Read fd va len) (store s n (pipe_address fd + PIPE_LOCK) 0) (step.FileRegion 0 done)
  read_ended done stands all =
      let at = pipe.UnlockingMoved done in
      let it = served h n reads (step.Piped at) stands in
      let reading = it.at.0 in
      let some = it.at.1 in
      let most = it.at.2 in
      let e = reading.open_end.page in
      let lies = reading.open_end.lies in
      let page = s.spaces.pages e.frame in
      let now = with_word page PIPE_LOCK 0 in
      let puts = word_puts h n reads refl at stands reading.below e lies last PIPE_LOCK 0 (omega arith) in
      let whole = pipe_whole h n reads refl at stands reading.below e lies in
      let has = pipe_has h n reads refl at stands reading.below e lies in
      let named = named_here reads at stands refl refl (λ other. refl) (λ other. refl) it.b it.is 0 reading.below reading.open_end e lies in
      let name = names.name e.frame in
      let taken = reading.taken in
      let many = reading.many in
      let wanted : done ≡ wanted_of len = omega (arith, all, most) in
      let c : Born = record it.b { phase = in_service reads (delivering va taken (length taken)) } in
      let start : va + 0 ≡ va = omega arith in
      record {
        after = with_born a n c;
        takes = reading_step a n it.b (slot_at s n) fd va len name taken it.is reading.is_in named reading.inside
            ∙ read_all a n it.b (slot_at s n).registers reads name va (wanted_of len) taken (many ∙ wanted)
            ∙ handed taken name it.b (omega (arith, many, some));
        console = refl;
        written = record {
          spaces = puts.spaces;
          step_is = puts.step_is;
          stands = shown_behind h n reads refl at stands reading.below e lies last puts.spaces now
              (with_word_whole page PIPE_LOCK 0 whole) puts.rewritten (step.FileRegion 0 done)
              (is_back refl refl (lock_there page 0 whole (omega arith))) (λ other. refl) refl a.pipes (λ other ne. refl)
              (same_stands {things = things_in s a} {after = things_in s a} (λ q. refl) has refl (lock_stored page 0))
              it.b.program c.phase it.b.blocked refl
              (λ alike now_is. record {
                hands = refl;
                regs = (slot_at s n).registers;
                program = reading.is_in.program;
                eax = (slot_at s n).registers.eax;
                registers = refl;
                bytes = taken;
                hands_at = subst (λ (q : ℕ). HandsAt reads taken done 0 (in_service reads (delivering q taken (length taken)))) start
                    (subst (λ (q : ℕ). HandsAt reads taken q 0 (in_service reads (delivering (va + 0) taken (length taken)))) many
                    (behind 0));
                many = many;
                fewer = some;
                most = omega (arith, most);
                inside = subst (λ (q : ℕ). is_buffer va q ≡ true) (sym wanted) reading.inside;
                small = reading.small;
                kept = taken_kept alike reading.kept;
                silent = reading.is_in.silent;
                awake = reading.is_in.awake;
              });
        };
      }
    where
      handed : (taken : List ℕ) (name : ℕ) (b : Born) → 0 < length taken →
          read_over a n b (slot_at s n).registers reads va name (wanted_of len) taken
          ≡ Some (with_born a n (record b { phase = in_service reads (delivering va taken (length taken)) }))
      handed [] name b some = absurd (omega (arith, some))
      handed (byte ∷ rest) name b some = refl

  pub write_ended : (done : ℕ) → place_of (slot_at s n) ≡ place.InService (service.Write fd va len) (step.Piped (pipe.UnlockingMoved done)) →
      wanted_of len ≤ done →
      IsSeen names s a n (service.Write fd va len) (store s n (pipe_address fd + PIPE_LOCK) 0) (step.Returning done)
  write_ended done stands all =
      let at = pipe.UnlockingMoved done in
      let it = served h n writes (step.Piped at) stands in
      let writing = it.at.0 in
      let most = it.at.2 in
      let e = writing.open_end.page in
      let lies = writing.open_end.lies in
      let page = s.spaces.pages e.frame in
      let now = with_word page PIPE_LOCK 0 in
      let puts = word_puts h n writes refl at stands writing.below e lies last PIPE_LOCK 0 (omega arith) in
      let whole = pipe_whole h n writes refl at stands writing.below e lies in
      let has = pipe_has h n writes refl at stands writing.below e lies in
      let named = named_here writes at stands refl refl (λ other. refl) (λ other. refl) it.b it.is 1 writing.below writing.open_end e lies in
      let name = names.name e.frame in
      let bytes = writing.bytes in
      let many = writing.many in
      let put : done ≡ length bytes = omega (arith, all, most, many) in
      let regs = (slot_at s n).registers in
      record {
        after = answered a n it.b regs (length bytes);
        takes = writing_step a n it.b (slot_at s n) fd va len name bytes done it.is writing.is_in named writing.many
            ∙ ap (λ (q : ℕ). write_pipe a n it.b regs writes name (drop q bytes) q) put
            ∙ write_all a n it.b regs writes name bytes;
        console = refl;
        written = record {
          spaces = puts.spaces;
          step_is = puts.step_is;
          stands = shown_behind h n writes refl at stands writing.below e lies last puts.spaces now
              (with_word_whole page PIPE_LOCK 0 whole) puts.rewritten (step.Returning done)
              (is_back refl refl (lock_there page 0 whole (omega arith))) (λ other. refl) refl a.pipes (λ other ne. refl)
              (same_stands {things = things_in s a} {after = things_in s a} (λ q. refl) has refl (lock_stored page 0))
              (guest (record regs { eax = length bytes })) at_guest false (sym writing.is_in.awake)
              (λ alike now_is. record {
                goes = refl;
                program = ap (λ (q : ℕ). guest (record regs { eax = q })) (sym put);
                phase = refl;
                silent = writing.is_in.silent;
                awake = refl;
              });
        };
      }

-- ---- what the step comes to

pub seen_keeps : (s : KernelState) (n : ℕ) (call : Service) (step : CallStep (Unit {0})) (to : Step) →
    ((names : Names) (a : AbstractState) → StandsFor names s a → s.last ≡ Some n → IsSeen names s a n call step to) → IsInOrder step.state →
    KeepsStanding progress.Visible n s (with_extra step.state n (words_at (number_of call) to)) []
seen_keeps s n call step to shows in_order a h turn quiet =
    let it = shows h.0 a h.1 turn.last in
    let state : step.state ≡ with_spaces s it.written.spaces = ap (λ (c : CallStep (Unit {0})). c.state) it.written.step_is in (
      it.after,
      it.takes,
      it.console ∙ sym (append-nil a.console),
      (
        h.0,
        subst (λ (t : KernelState). StandsFor h.0 (with_extra t n (words_at (number_of call) to)) it.after) (sym state)
            (it.written.stands (subst (λ (t : KernelState). IsInOrder t) state in_order)),
      ),
    )
