-- read, write and stat give back the lock of a pipe, and write puts a byte into the page of the pipe that does not count yet: nothing is seen of it, and
-- the kernel's state stands for the same abstract one at the service's next step.
use Rattle.std.proofs.Common.{◌≡◌, ◌∙◌, ◌==◌, ◌<◌, ◌+◌, ◌%◌, ◌^◌, ℕ, zero, suc, Bool, true, false, List, Some, None}
use Rattle.std.proofs.Common.{refl, sym, ap, subst, arith, if◌then◌else◌}
use Rattle.std.specs.Prelude.{slice_index}
use Rattle.std.proofs.lemmas.Bool.Decides.{nat_tests}
use Rattle.jos_base.specs.declared.numbers.TheConstants.{UTEMP}
use Rattle.jos_base.specs.Environments.{Slot}
use Rattle.jos_base.specs.KernelState.{KernelState, slot_at}
use Rattle.jos_base.specs.Reach.{Entry}
use Rattle.jos_base.specs.Words.{page_number}
use Rattle.lib_os.specs.declared.numbers.TheConstants.{DESCRIPTORS, PIPEBUFSIZ, PIPE_BYTES, PIPE_LOCK}
use Rattle.lib_os.specs.declared.place.PipeStep.{PipeStep}
use Rattle.lib_os.specs.declared.place.PipeStep.TheVariants as pipe
use Rattle.lib_os.specs.declared.place.Place.TheVariants as place
use Rattle.lib_os.specs.declared.place.Step.{Step}
use Rattle.lib_os.specs.declared.place.Step.TheVariants as step
use Rattle.lib_os.specs.declared.service.Service.{Service}
use Rattle.lib_os.specs.declared.service.Service.TheVariants as service
use Rattle.lib_os.specs.AbstractState.{AbstractState, Born}
use Rattle.lib_os.specs.DescriptorPages.{held_of, pipe_byte, written_of}
use Rattle.lib_os.specs.LibraryPages.{HasTaken, View, keeps_moved}
use Rattle.lib_os.specs.PipeEnds.{is_dropped, locked_at}
use Rattle.lib_os.specs.Places.{place_of, words_at}
use Rattle.lib_os.specs.Rows.{Names, descriptor_page, pipe_page}
use Rattle.lib_os.specs.StandsAtPipe.{HasMoved, IsMoving, IsReadingPipe, IsTellingPipe, IsWritingPipe, StandsAtPipe, StandsMoving}
use Rattle.lib_os.specs.StandsAtPipe.{end_given, most_moved}
use Rattle.lib_os.specs.StandsFor.{StandsAtStep, StandsFor, things_in, view_of}
use Rattle.lib_os.specs.StandsInHandler.{HasBytes, IsEndOpen, StandsDelivering}
use Rattle.lib_os.specs.UserCalls.{store, store_byte}
use Rattle.lib_os.proofs.DescriptorWords.{told_device, told_mode}
use Rattle.lib_os.proofs.GoingOn.{in_with_words}
use Rattle.lib_os.proofs.Numbered.{number_of}
use Rattle.lib_os.proofs.PipeBytes.{byte_stored, lock_stored, lock_there, same_held, same_stands, with_byte, with_byte_whole, with_word, with_word_whole}
use Rattle.lib_os.proofs.PipeWritten.{IsWritten, byte_puts, hidden_behind, is_back, is_on_pipes, pipe_address, pipe_has, pipe_whole}
use Rattle.lib_os.proofs.PipeWritten.{held_on, word_puts}
use Rattle.lib_os.proofs.Serving.{IsServed, holds_page, served, kept_where}
use Rattle.lib_os.proofs.SlotsStand.{ViewAlike, moves_bytes}

-- ---- what is so in a space that is alike but for pipes, with other words

module _ {v w : View} (alike : ViewAlike v w) where
  pub end_kept : {fd mode : ℕ} → fd < DESCRIPTORS → IsEndOpen v fd mode → IsEndOpen w fd mode
  end_kept {fd = fd} below h =
      let told = alike.devices (descriptor_page fd) h.entry (grind (arith, nat_tests)) (grind (arith, nat_tests)) h.stands in
      record {
        entry = h.entry;
        stands = (λ i. alike.row i (descriptor_page fd)) ∙ h.stands;
        device = ap told_device told ∙ h.device;
        mode_is = ap told_mode told ∙ h.mode_is;
        page = h.page;
        lies = (λ i. alike.row i (pipe_page fd)) ∙ h.lies;
      }

  pub taken_kept : {bytes : List ℕ} {n : ℕ} → HasTaken v bytes n → HasTaken w bytes n
  taken_kept h = record {
    entry = h.entry;
    stands = (λ i. alike.row i (page_number UTEMP)) ∙ h.stands;
    own_page = h.own_page;
    same = λ i lt. ap (λ (l : List ℕ). slice_index l i) (alike.bytes (page_number UTEMP) h.entry h.stands h.own_page) ∙ h.same i lt;
  }

  module _ (k : Slot) (b : Born) (words : List ℕ) where
    abbrev pub reading_kept : {fd va len done : ℕ} → IsReadingPipe v k b fd va len done → IsReadingPipe w (record k { extra = words }) b fd va len done
    reading_kept h = record {
      taken = h.taken;
      is_in = in_with_words words h.is_in;
      below = h.below;
      open_end = end_kept h.below h.open_end;
      many = h.many;
      inside = h.inside;
      small = h.small;
      kept = taken_kept h.kept;
    }

    abbrev pub writing_kept : {fd va len done : ℕ} → IsWritingPipe v k b fd va len done → IsWritingPipe w (record k { extra = words }) b fd va len done
    writing_kept h = record {
      bytes = h.bytes;
      is_in = in_with_words words h.is_in;
      below = h.below;
      open_end = end_kept h.below h.open_end;
      many = h.many;
      small = h.small;
      kept = taken_kept h.kept;
    }

    pub moved_kept : (s : Service) (done : ℕ) → HasMoved v k b s done → HasMoved w (record k { extra = words }) b s done
    moved_kept (service.Read fd va len) done h = reading_kept h
    moved_kept (service.Write fd va len) done h = writing_kept h
    moved_kept _ done h = absurd h

    pub moving_on : (s : Service) (done : ℕ) → IsMoving v k b s done → IsMoving w (record k { extra = words }) b s done
    moving_on s done h = (moved_kept s done h.0, h.1)

    pub bytes_kept : (s : Service) (done count : ℕ) → HasBytes v k b s done count → HasBytes w (record k { extra = words }) b s done count
    bytes_kept s done count h = record {
      hands = h.hands;
      regs = h.regs;
      program = h.program;
      eax = h.eax;
      registers = h.registers;
      bytes = h.bytes;
      hands_at = h.hands_at;
      many = h.many;
      fewer = h.fewer;
      most = h.most;
      inside = h.inside;
      small = h.small;
      kept = taken_kept h.kept;
      silent = h.silent;
      awake = h.awake;
    }

    abbrev pub telling_kept : {fd va mode : ℕ} → IsTellingPipe v k b fd va mode → IsTellingPipe w (record k { extra = words }) b fd va mode
    telling_kept h = record { is_in = in_with_words words h.is_in; below = h.below; open_end = end_kept h.below h.open_end; inside = h.inside }

-- ---- the page of the pipe of one that moves bytes

pub record HasPipeOf (v : View) (s : Service) : Type 0 where
  pub below : end_given s < DESCRIPTORS
  pub page : Entry
  pub lies : v.row (pipe_page (end_given s)) ≡ Some page

pub moved_pipe : (v : View) (k : Slot) (b : Born) (s : Service) (done : ℕ) → HasMoved v k b s done → HasPipeOf v s
moved_pipe v k b (service.Read fd va len) done h = record { below = h.below; page = h.open_end.page; lies = h.open_end.lies }
moved_pipe v k b (service.Write fd va len) done h = record { below = h.below; page = h.open_end.page; lies = h.open_end.lies }
moved_pipe v k b _ done h = absurd h

pub moves_on_pipes : (s : Service) → moves_bytes s ≡ true → is_on_pipes s ≡ true
moves_on_pipes (service.Read fd va len) is = refl
moves_on_pipes (service.Write fd va len) is = refl
moves_on_pipes _ is = absurd (let contradiction : false ≡ true = is in cc)

-- what is so of one that moves bytes at a step, where nothing tells read from write
pub told_moving : (v : View) (k : Slot) (b : Born) (s : Service) (at : PipeStep) → moves_bytes s ≡ true → keeps_moved at ≡ true →
    StandsAtPipe v k b s at → StandsMoving v k b s at
told_moving v k b (service.Read fd va len) pipe.EndMode is keeps so = absurd (let contradiction : false ≡ true = keeps in cc)
told_moving v k b (service.Read fd va len) pipe.TakingBytes is keeps so = absurd (let contradiction : false ≡ true = keeps in cc)
told_moving v k b (service.Read fd va len) _ is keeps so = so
told_moving v k b (service.Write fd va len) pipe.EndMode is keeps so = absurd (let contradiction : false ≡ true = keeps in cc)
told_moving v k b (service.Write fd va len) pipe.TakingBytes is keeps so = absurd (let contradiction : false ≡ true = keeps in cc)
told_moving v k b (service.Write fd va len) _ is keeps so = so
told_moving v k b _ at is keeps so = absurd (let contradiction : false ≡ true = is in cc)

pub tell_moving : (v : View) (k : Slot) (b : Born) (s : Service) (at : PipeStep) → moves_bytes s ≡ true → keeps_moved at ≡ true →
    StandsMoving v k b s at → StandsAtPipe v k b s at
tell_moving v k b (service.Read fd va len) pipe.EndMode is keeps so = absurd (let contradiction : false ≡ true = keeps in cc)
tell_moving v k b (service.Read fd va len) pipe.TakingBytes is keeps so = absurd (let contradiction : false ≡ true = keeps in cc)
tell_moving v k b (service.Read fd va len) _ is keeps so = so
tell_moving v k b (service.Write fd va len) pipe.EndMode is keeps so = absurd (let contradiction : false ≡ true = keeps in cc)
tell_moving v k b (service.Write fd va len) pipe.TakingBytes is keeps so = absurd (let contradiction : false ≡ true = keeps in cc)
tell_moving v k b (service.Write fd va len) _ is keeps so = so
tell_moving v k b _ at is keeps so = absurd (let contradiction : false ≡ true = is in cc)

pub moving_holds : (s : Service) (at : PipeStep) → moves_bytes s ≡ true → holds_page (place.InService s (step.Piped at)) ≡ kept_where (keeps_moved at)
moving_holds (service.Read fd va len) at is = refl
moving_holds (service.Write fd va len) at is = refl
moving_holds _ at is = absurd (let contradiction : false ≡ true = is in cc)

-- ---- the lock is given back

module _ {names : Names} {s : KernelState} {a : AbstractState} (h : StandsFor names s a) (n : ℕ) (call : Service) (is : is_on_pipes call ≡ true)
    (at : PipeStep) (stands : place_of (slot_at s n) ≡ place.InService call (step.Piped at)) (last : s.last ≡ Some n)
    (locked : locked_at (place.InService call (step.Piped at)) ≡ Some (end_given call))
    (kept : (other : ℕ) → is_dropped (place.InService call (step.Piped at)) other ≡ false)
    (its : HasPipeOf (view_of s.spaces (slot_at s n).directory) call) (to : Step) (none : locked_at (place.InService call to) ≡ None)
    (held : holds_page (place.InService call (step.Piped at)) ≡ holds_page (place.InService call to)) where
  abbrev here : IsServed names s a n call (step.Piped at)
  here = served h n call (step.Piped at) stands

  abbrev page : List ℕ
  page = s.spaces.pages its.page.frame

  pub unlocked : ((w : View) → ViewAlike (view_of s.spaces (slot_at s n).directory) w →
      StandsAtStep w (record (slot_at s n) { extra = words_at (number_of call) to }) here.b call to) →
      IsWritten names s n call (store s n (pipe_address (end_given call) + PIPE_LOCK) 0) to a
  unlocked so =
      let puts = word_puts h n call is at stands its.below its.page its.lies last PIPE_LOCK 0 (omega arith) in
      let whole = pipe_whole h n call is at stands its.below its.page its.lies in
      record {
        spaces = puts.spaces;
        step_is = puts.step_is;
        stands = hidden_behind h n call is at stands its.below its.page its.lies last puts.spaces (with_word page PIPE_LOCK 0)
            (with_word_whole page PIPE_LOCK 0 whole) puts.rewritten to (is_back locked none (lock_there page 0 whole (omega arith))) kept held
            (same_stands {things = things_in s a} {after = things_in s a} (λ q. refl) (pipe_has h n call is at stands its.below its.page its.lies)
            refl (lock_stored page 0))
            (λ alike now. so (view_of puts.spaces (slot_at s n).directory) alike);
      }

-- behind a byte, with more to move
module _ {names : Names} {s : KernelState} {a : AbstractState} (h : StandsFor names s a) (n : ℕ) (call : Service) (is : moves_bytes call ≡ true)
    (last : s.last ≡ Some n) where
  abbrev space : View
  space = view_of s.spaces (slot_at s n).directory

  pub moved_unlocked : (done : ℕ) → place_of (slot_at s n) ≡ place.InService call (step.Piped (pipe.UnlockingMoved done)) → done < most_moved call →
      IsWritten names s n call (store s n (pipe_address (end_given call) + PIPE_LOCK) 0) (step.Piped (pipe.Locking done 0 0)) a
  moved_unlocked done stands more =
      let at = pipe.UnlockingMoved done in
      let to = pipe.Locking done 0 0 in
      let it = served h n call (step.Piped at) stands in
      let so = told_moving space (slot_at s n) it.b call at is refl it.at in
      unlocked h n call (moves_on_pipes call is) at stands last refl (λ other. refl) (moved_pipe space (slot_at s n) it.b call done so.0) (step.Piped to) refl
      (moving_holds call at is ∙ sym (moving_holds call to is))
      (λ w alike. tell_moving w (record (slot_at s n) { extra = words_at (number_of call) (step.Piped to) }) it.b call to is refl
      ((moved_kept alike (slot_at s n) it.b (words_at (number_of call) (step.Piped to)) call done so.0, more), tt))

  -- before the test whether the other end is closed
  abbrev pub next_of_unlocked : ℕ → ℕ → ℕ → PipeStep
  next_of_unlocked done id runs = if id == 0 then pipe.TestIdentifying done else pipe.TestAgain done id runs

  pub test_unlocked : (done id runs : ℕ) → place_of (slot_at s n) ≡ place.InService call (step.Piped (pipe.UnlockingTest done id runs)) →
      IsWritten names s n call (store s n (pipe_address (end_given call) + PIPE_LOCK) 0) (step.Piped (next_of_unlocked done id runs)) a
  test_unlocked done zero runs stands =
      let at = pipe.UnlockingTest done 0 runs in
      let to = pipe.TestIdentifying done in
      let it = served h n call (step.Piped at) stands in
      let so = told_moving space (slot_at s n) it.b call at is refl it.at in
      unlocked h n call (moves_on_pipes call is) at stands last refl (λ other. refl) (moved_pipe space (slot_at s n) it.b call done so.0.0) (step.Piped to) refl
      (moving_holds call at is ∙ sym (moving_holds call to is))
      (λ w alike. tell_moving w (record (slot_at s n) { extra = words_at (number_of call) (step.Piped to) }) it.b call to is refl
      (moved_kept alike (slot_at s n) it.b (words_at (number_of call) (step.Piped to)) call done so.0.0, so.0.1, so.0.2))
  test_unlocked done (suc id) runs stands =
      let at = pipe.UnlockingTest done (suc id) runs in
      let to = pipe.TestAgain done (suc id) runs in
      let it = served h n call (step.Piped at) stands in
      let so = told_moving space (slot_at s n) it.b call at is refl it.at in
      let other : (suc id == 0) ≡ false = grind (arith, nat_tests) in
      subst (λ (c : Bool). IsWritten names s n call (store s n (pipe_address (end_given call) + PIPE_LOCK) 0)
      (step.Piped (if c then pipe.TestIdentifying done else pipe.TestAgain done (suc id) runs)) a) (sym other)
      (unlocked h n call (moves_on_pipes call is) at stands last refl (λ other. refl) (moved_pipe space (slot_at s n) it.b call done so.0.0) (step.Piped to) refl
      (moving_holds call at is ∙ sym (moving_holds call to is))
      (λ w alike. tell_moving w (record (slot_at s n) { extra = words_at (number_of call) (step.Piped to) }) it.b call to is refl
      ((moved_kept alike (slot_at s n) it.b (words_at (number_of call) (step.Piped to)) call done so.0.0, so.0.1, so.0.2), so.1.0, so.1.1)))

-- read has found the pipe empty, and ends with what it has taken
pub end_unlocked : {names : Names} {s : KernelState} {a : AbstractState} → StandsFor names s a → (n fd va len done : ℕ) → s.last ≡ Some n →
    place_of (slot_at s n) ≡ place.InService (service.Read fd va len) (step.Piped (pipe.UnlockingEnd done)) →
    IsWritten names s n (service.Read fd va len) (store s n (pipe_address fd + PIPE_LOCK) 0) (step.FileRegion 0 done) a
end_unlocked {s = s} h n fd va len done last stands =
    let call = service.Read fd va len in
    let at = pipe.UnlockingEnd done in
    let it = served h n call (step.Piped at) stands in
    unlocked h n call refl at stands last refl (λ other. refl) (record { below = it.at.1; page = it.at.2.page; lies = it.at.2.lies })
    (step.FileRegion 0 done) refl refl
    (λ w alike. bytes_kept alike (slot_at s n) it.b (words_at (number_of call) (step.FileRegion 0 done)) call 0 done it.at.0)

-- stat knows how many bytes the pipe holds
pub stat_unlocked : {names : Names} {s : KernelState} {a : AbstractState} → StandsFor names s a → (n fd va held : ℕ) → s.last ≡ Some n →
    place_of (slot_at s n) ≡ place.InService (service.Stat fd va) (step.Piped (pipe.StatUnlocking held)) →
    IsWritten names s n (service.Stat fd va) (store s n (pipe_address fd + PIPE_LOCK) 0) (step.BufferRegion 0 ((held + 1) % 2 ^ 32)) a
stat_unlocked {names = names} {s = s} {a = a} h n fd va held last stands =
    let call = service.Stat fd va in
    let at = pipe.StatUnlocking held in
    let it = served h n call (step.Piped at) stands in
    let few = it.at.1 in
    let word : (held + 1) % 2 ^ 32 ≡ suc held = omega (arith, few) in
    subst (λ (q : ℕ). IsWritten names s n call (store s n (pipe_address fd + PIPE_LOCK) 0) (step.BufferRegion 0 q) a) (sym word)
    (unlocked h n call refl at stands last refl (λ other. refl)
    (record { below = it.at.2.1; page = it.at.2.2.page; lies = it.at.2.2.lies }) (step.BufferRegion 0 (suc held)) refl refl
    (λ w alike. (delivering_on it.at.0, tt)))
  where
    delivering_on : {b : Born} → StandsDelivering (service.Stat fd va) 0 (suc held) (slot_at s n) b →
        StandsDelivering (service.Stat fd va) 0 (suc held) (record (slot_at s n) { extra = words_at (number_of (service.Stat fd va)) (step.BufferRegion 0 (suc held)) }) b
    delivering_on it = record {
      program = it.program;
      phase = it.phase;
      some = it.some;
      inside = it.inside;
      small = it.small;
      silent = it.silent;
      awake = it.awake;
    }

-- ---- a byte is put that does not count yet

pub own_put : {names : Names} {s : KernelState} {a : AbstractState} → StandsFor names s a → (n fd va len done to byte : ℕ) → s.last ≡ Some n →
    place_of (slot_at s n) ≡ place.InService (service.Write fd va len) (step.Piped (pipe.PuttingOwn done to byte)) →
    IsWritten names s n (service.Write fd va len) (store_byte s n (pipe_address fd + PIPE_BYTES + to % PIPEBUFSIZ) (byte % 256))
    (step.Piped (pipe.Putting done to)) a
own_put {names = names} {s = s} {a = a} h n fd va len done to byte last stands =
    let call = service.Write fd va len in
    let at = pipe.PuttingOwn done to byte in
    let it = served h n call (step.Piped at) stands in
    let moving = it.at.0 in
    let there = it.at.2 in
    let e = there.page in
    let page = s.spaces.pages e.frame in
    let o = PIPE_BYTES + to % PIPEBUFSIZ in
    let place_is : pipe_address fd + o ≡ pipe_address fd + PIPE_BYTES + to % PIPEBUFSIZ = omega arith in
    let small : byte < 256 = subst (λ (q : ℕ). q < 256) it.at.1 (moving.0.small done) in
    let byte_is : byte % 256 ≡ byte = omega (arith, small) in
    let puts = byte_puts h n call refl at stands moving.0.below e there.lies last o (byte % 256) (omega arith) in
    let whole = pipe_whole h n call refl at stands moving.0.below e there.lies in
    let now = with_byte page o (byte % 256) in
    let stored = byte_stored page to (byte % 256) whole there.so.0 there.so.1 in
    let words = words_at (number_of call) (step.Piped (pipe.Putting done to)) in
    subst (λ (q : ℕ). IsWritten names s n call (store_byte s n q (byte % 256)) (step.Piped (pipe.Putting done to)) a) place_is
    (record {
      spaces = puts.spaces;
      step_is = puts.step_is;
      stands = hidden_behind h n call refl at stands moving.0.below e there.lies last puts.spaces now
          (with_byte_whole page o (byte % 256) (omega arith) whole) puts.rewritten (step.Piped (pipe.Putting done to))
          (held_on refl refl stored.lock_is) (λ other. refl) refl
          (same_stands {things = things_in s a} {after = things_in s a} (λ q. refl) (pipe_has h n call refl at stands moving.0.below e there.lies) refl
          stored.same)
          (λ alike now_is. (
            (writing_kept alike (slot_at s n) it.b words moving.0, moving.1),
            record {
              page = e;
              lies = (λ i. alike.row i (pipe_page fd)) ∙ there.lies;
              so = (
                ap written_of now_is ∙ stored.same.written_is ∙ there.so.0,
                subst (λ (l : List ℕ). held_of l < PIPEBUFSIZ) (sym now_is)
                    (subst (λ (q : ℕ). q < PIPEBUFSIZ) (sym (same_held stored.same)) there.so.1),
                ap (λ (l : List ℕ). pipe_byte l to) now_is ∙ stored.byte_is ∙ byte_is ∙ sym it.at.1,
              );
            },
          ));
    })
