-- read, write and stat take the lock of a pipe by one exchange: where it was nobody's they hold it behind, and else the page is as it was, and they may
-- wait, since who holds it is inside read, write or stat on the same pipe.
use Rattle.std.proofs.Common.{◌≡◌, ◌≢◌, ◌∙◌, ◌==◌, ◌||◌, ◌&&◌, ◌<◌, ◌≤◌, ◌+◌, ◌*◌, ℕ, zero, suc, Bool, true, false, not, List, [], ◌∷◌, Option, Some, None}
use Rattle.std.proofs.Common.{Result, Ok, Err, refl, sym, ap, subst, arith, if◌then◌else◌}
use Rattle.std.specs.Int.{from_le_bytes, w32}
use Rattle.std.specs.Option.{option_map}
use Rattle.std.specs.Prelude.{drop, get_or, nat_le, nat_lt, slice_index}
use Rattle.std.proofs.Math.Bool.{or-true}
use Rattle.std.proofs.lemmas.Bool.Decides.{nat_tests}
use Rattle.std.proofs.lemmas.List.{set-get_or}
use Rattle.std.proofs.lemmas.Nat.{le_bytes_4}
use Rattle.std.proofs.lemmas.Option.{none-some, same_Some}
use Rattle.jos_base.specs.declared.memory.Access.TheVariants.{Write}
use Rattle.jos_base.specs.declared.memory.PageFault.{PageFault}
use Rattle.jos_base.specs.declared.numbers.TheConstants.{NENV, PGSIZE}
use Rattle.jos_base.specs.Counting.{page_limit}
use Rattle.jos_base.specs.Environments.{Slot, records_of}
use Rattle.jos_base.specs.KernelState.{KernelState, slot_at, with_extra, with_spaces}
use Rattle.jos_base.specs.Reach.{Entry, FrameOffset}
use Rattle.jos_base.specs.SpacesState.{SpacesState}
use Rattle.jos_base.specs.SystemCalls.{handled, is_page_perm}
use Rattle.jos_base.specs.UserMemory.{byte_at, reach_in, touched}
use Rattle.jos_base.specs.Words.{page_number, page_offset, word_at}
use Rattle.jos_base.proofs.Below.{some_below-at}
use Rattle.lib_os.specs.declared.numbers.TheConstants.{DESCRIPTORS, PIPEBUFSIZ, PIPE_LOCK, SHORT_QUANTUM}
use Rattle.lib_os.specs.declared.place.PipeStep.{PipeStep}
use Rattle.lib_os.specs.declared.place.PipeStep.TheVariants as pipe
use Rattle.lib_os.specs.declared.place.Place.{Place}
use Rattle.lib_os.specs.declared.place.Place.TheVariants as place
use Rattle.lib_os.specs.declared.place.Step.{Step}
use Rattle.lib_os.specs.declared.place.Step.TheVariants as step
use Rattle.lib_os.specs.declared.progress.Progress.TheVariants as progress
use Rattle.lib_os.specs.declared.service.Service.{Service}
use Rattle.lib_os.specs.declared.service.Service.TheVariants as service
use Rattle.lib_os.specs.AbstractRun.{is_moved_by_another, is_pipe, may_wait, moved_descriptor, phase_may_wait, pipe_at, pipe_in, pipe_may_wait, pipe_moved, service_of_phase}
use Rattle.lib_os.specs.AbstractRun.{pipe_of, read_may_wait, service_may_wait, slot_may_wait, waits_to_ask, write_may_wait}
use Rattle.lib_os.specs.AbstractState.{AbstractSlot, AbstractState, Born, Phase, Stage, born, delivering, entered, in_service, replied}
use Rattle.lib_os.specs.DescriptorPages.{held_of, lock_of}
use Rattle.lib_os.specs.GuestStep.{born_in}
use Rattle.lib_os.specs.InOrder.{IsInOrder}
use Rattle.lib_os.specs.LibraryPages.{View}
use Rattle.lib_os.specs.LibrarySteps.{KeepsStanding}
use Rattle.lib_os.specs.PipeEnds.{HoldsLock, holds_lock, is_dropped, is_on_its_way, locked_at}
use Rattle.lib_os.specs.Places.{place_of, words_at}
use Rattle.lib_os.specs.Rows.{IsPage, Names, logical, pipe_page, rows_of}
use Rattle.lib_os.specs.StandsAtPipe.{HasMoved, OfPipe, StandsAtPipe, StandsMoving, StandsOnPipe}
use Rattle.lib_os.specs.StandsAtPipe.{TriesAgain, end_given, is_still, stage_put, stage_taken}
use Rattle.lib_os.specs.StandsFor.{StandsAtStep, StandsFor, things_in, view_of}
use Rattle.lib_os.specs.StandsInHandler.{HandsAt, HasBytes, answer_behind, behind, buffer_of, by_reply, stat_told}
use Rattle.lib_os.specs.UserCalls.{CallStep, accessing, faulting, Got, giving, got, exchange, store, user_word, with_user_word}
use Rattle.lib_os.proofs.BytesPut.{bytes_put}
use Rattle.lib_os.proofs.EndsHeld.{live, slot_small}
use Rattle.lib_os.proofs.Logical.{is_plain, logical_plain}
use Rattle.lib_os.proofs.Numbered.{number_of}
use Rattle.lib_os.proofs.PageWords.{page_byte}
use Rattle.lib_os.proofs.PipeBytes.{lock_stored, lock_there, same_held, same_stands, with_word, with_word_whole}
use Rattle.lib_os.proofs.PipeStored.{HasPipeOf, moved_pipe, moves_on_pipes, moving_holds, moving_on, tell_moving, telling_kept, told_moving}
use Rattle.lib_os.proofs.PipeWritten.{hidden_behind, is_on_pipes, is_taken, left_so, on_pipes_plain, on_pipes_way, pipe_address, pipe_counts, pipe_has}
use Rattle.lib_os.proofs.PipeWritten.{pipe_shared_page, pipe_user, pipe_whole, word_puts}
use Rattle.lib_os.proofs.Serving.{IsServed, holds_page, served}
use Rattle.lib_os.proofs.SlotsStand.{ViewAlike, moves_bytes}
use Rattle.lib_os.proofs.StatesStand.{clients_live, ends_at}
use Rattle.lib_os.proofs.Touching.{touched_quiet}

-- ---- an exchange is a store that gives what stood there

abbrev is_got : Got (Unit {0}) → Bool
is_got (got done) = true
is_got _ = false

exchange_stores : (s : KernelState) (n va word : ℕ) (sp : SpacesState) → store s n va word ≡ giving (with_spaces s sp) tt →
    exchange s n va word
    ≡ record {
      state = with_spaces s sp;
      gives = got (user_word (with_spaces s (touched s.spaces (slot_at s n).directory va Write)) n va);
      written = [];
    }
unfolding store exchange
exchange_stores s n va word sp is = by_reach (reach_in s.spaces (slot_at s n).directory va Write) is
  where
    after : KernelState
    after = with_spaces s (touched s.spaces (slot_at s n).directory va Write)

    by_handled : (fault : PageFault) (o : Option KernelState) →
        faulting {X = Unit {0}} s n fault o ≡ giving (with_spaces s sp) tt → ⊥
    by_handled fault (Some goes) is =
        let contradiction : false ≡ true = ap (λ (c : CallStep (Unit {0})). is_got c.gives) is in absurd cc
    by_handled fault None is =
        let contradiction : false ≡ true = ap (λ (c : CallStep (Unit {0})). is_got c.gives) is in absurd cc

    by_reach : (r : Result FrameOffset PageFault) →
        accessing {X = Unit {0}} s n va Write (λ k. giving (with_user_word k n va word) tt) r ≡ giving (with_spaces s sp) tt →
        accessing {X = ℕ} s n va Write (λ k. record { state = with_user_word k n va word; gives = got (user_word k n va); written = [] }) r
        ≡ record { state = with_spaces s sp; gives = got (user_word after n va); written = [] }
    by_reach (Ok location) is =
        ap (λ (c : CallStep (Unit {0})). record { state = c.state; gives = got (user_word after n va); written = [] }) is
    by_reach (Err fault) is = absurd (by_handled fault (handled s n fault) is)

-- the word that stood in a page
word_stood : (s : KernelState) (n p o : ℕ) (row : Entry) → p < page_limit → o + 4 ≤ PGSIZE →
    rows_of s.spaces (slot_at s n).directory p ≡ Some row → is_page_perm row.perm ≡ true →
    user_word (with_spaces s (touched s.spaces (slot_at s n).directory (p * PGSIZE + o) Write)) n (p * PGSIZE + o)
    ≡ word_at (slice_index (s.spaces.pages row.frame)) o
word_stood s n p o row below fits stands readable =
    let a = byte_is (p * PGSIZE + o) o (omega (arith, fits)) (omega (arith, fits)) in
    let b = byte_is (p * PGSIZE + o + 1) (o + 1) (omega (arith, fits)) (omega (arith, fits)) in
    let c = byte_is (p * PGSIZE + o + 2) (o + 2) (omega (arith, fits)) (omega (arith, fits)) in
    let d = byte_is (p * PGSIZE + o + 3) (o + 3) (omega (arith, fits)) (omega (arith, fits)) in
    λ i. from_le_bytes w32 (a i ∷ b i ∷ c i ∷ d i ∷ [])
  where
    home : ℕ
    home = (slot_at s n).directory

    reached : SpacesState
    reached = touched s.spaces home (p * PGSIZE + o) Write

    byte_is : (va at : ℕ) → page_number va ≡ p → page_offset va ≡ at →
        byte_at (records_of s.environments) reached home va ≡ slice_index (s.spaces.pages row.frame) at
    byte_is va at number offset =
        let quiet = touched_quiet s.spaces home (p * PGSIZE + o) Write in
        page_byte reached home va row ((λ i. quiet.rows i home (number i)) ∙ stands) readable (subst (λ (q : ℕ). q < page_limit) (sym number) below)
        (records_of s.environments)
        ∙ (λ i. slice_index (quiet.pages i row.frame) (offset i))

-- ---- the word of a lock that is held is put again

put_again : (page : List ℕ) (at : ℕ) →
    bytes_put page at (slice_index page at ∷ slice_index page (at + 1) ∷ slice_index page (at + 1 + 1) ∷ slice_index page (at + 1 + 1 + 1) ∷ []) ≡ page
unfolding bytes_put
put_again page at =
    let word = slice_index page in
    ap (λ (l : List ℕ). bytes_put l (at + 1) (word (at + 1) ∷ word (at + 1 + 1) ∷ word (at + 1 + 1 + 1) ∷ [])) (set-get_or page at 0)
    ∙ ap (λ (l : List ℕ). bytes_put l (at + 1 + 1) (word (at + 1 + 1) ∷ word (at + 1 + 1 + 1) ∷ [])) (set-get_or page (at + 1) 0)
    ∙ ap (λ (l : List ℕ). bytes_put l (at + 1 + 1 + 1) (word (at + 1 + 1 + 1) ∷ [])) (set-get_or page (at + 1 + 1) 0)
    ∙ set-get_or page (at + 1 + 1 + 1) 0

four_bytes : (page : List ℕ) → IsPage page → (i : ℕ) →
    get_or (slice_index page 0 ∷ slice_index page 1 ∷ slice_index page 2 ∷ slice_index page 3 ∷ []) i 0 < 256
four_bytes page whole zero = whole.small 0
four_bytes page whole (suc zero) = whole.small 1
four_bytes page whole (suc (suc zero)) = whole.small 2
four_bytes page whole (suc (suc (suc zero))) = whole.small 3
four_bytes page whole (suc (suc (suc (suc i)))) = omega arith

pub lock_again : (page : List ℕ) → IsPage page → lock_of page ≡ 1 → with_word page PIPE_LOCK 1 ≡ page
lock_again page whole one =
    let bytes = slice_index page 0 ∷ slice_index page 1 ∷ slice_index page 2 ∷ slice_index page 3 ∷ [] in
    ap (bytes_put page PIPE_LOCK) (le_bytes_4 bytes 1 refl (four_bytes page whole) (sym one)) ∙ put_again page PIPE_LOCK

-- ---- who holds a lock

record IsAtLock (at : Place) (fd : ℕ) : Type 0 where
  of : Service
  pipe_step : PipeStep
  is : at ≡ place.InService of (step.Piped pipe_step)
  holds : holds_lock pipe_step ≡ true
  same : end_given of ≡ fd

at_lock : (at : Place) (fd : ℕ) → locked_at at ≡ Some fd → IsAtLock at fd
at_lock (place.InService s (step.Piped at)) fd locked = by_test (holds_lock at) refl locked
  where
    by_test : (c : Bool) → holds_lock at ≡ c → (if c then Some (end_given s) else None) ≡ Some fd →
        IsAtLock (place.InService s (step.Piped at)) fd
    by_test true holds is = record { of = s; pipe_step = at; is = refl; holds = holds; same = same_Some (end_given s) fd is }
    by_test false none is = absurd (none-some fd is)
at_lock _ fd locked = absurd (none-some fd locked)

-- it is inside the service
record IsInside (b : Born) (s : Service) : Type 0 where
  stage : Stage
  phase : b.phase ≡ in_service s stage
  on_pipes : is_on_pipes s ≡ true

moving_inside : (v : View) (k : Slot) (b : Born) (s : Service) (done : ℕ) → HasMoved v k b s done → IsInside b s
moving_inside v k b (service.Read fd va len) done h = record { stage = stage_taken h.taken; phase = h.is_in.phase; on_pipes = refl }
moving_inside v k b (service.Write fd va len) done h = record { stage = stage_put h.bytes done; phase = h.is_in.phase; on_pipes = refl }
moving_inside v k b _ done h = absurd h

handing_inside : {v : View} {k : Slot} {b : Born} (s : Service) (done count : ℕ) → is_on_pipes s ≡ true → HasBytes v k b s done count → IsInside b s
handing_inside {b = b} s done count is h = by_hands done b.phase refl h.hands_at
  where
    by_hands : (put : ℕ) (phase : Phase) → b.phase ≡ phase → HandsAt s h.bytes (answer_behind s count) put phase → IsInside b s
    by_hands put phase at by_reply = record { stage = replied h.bytes (answer_behind s count); phase = at; on_pipes = is }
    by_hands put phase at (behind some) =
        record { stage = delivering (buffer_of s + some) (drop some h.bytes) (answer_behind s count); phase = at; on_pipes = is }

moves_inside : (v : View) (k : Slot) (b : Born) (s : Service) → moves_bytes s ≡ true → (at : PipeStep) → holds_lock at ≡ true → StandsMoving v k b s at →
    IsInside b s
moves_inside v k b s is (pipe.ReadFrom done id runs) holds h = moving_inside v k b s done h.0.0
moves_inside v k b s is (pipe.ReadTo done id runs from) holds h = moving_inside v k b s done h.0.0
moves_inside v k b (service.Read fd va len) is (pipe.LoadingHeld done from) holds h = moving_inside v k b (service.Read fd va len) done h.0.0
moves_inside v k b (service.Read fd va len) is (pipe.KeepingHeld done from byte) holds h = moving_inside v k b (service.Read fd va len) done h.0.0
moves_inside v k b (service.Read fd va len) is (pipe.TakingHeld done from) holds h = moving_inside v k b (service.Read fd va len) done h.0.0
moves_inside v k b (service.Write fd va len) is (pipe.LoadingOwn done to) holds h = moving_inside v k b (service.Write fd va len) done h.0.0
moves_inside v k b (service.Write fd va len) is (pipe.PuttingOwn done to byte) holds h = moving_inside v k b (service.Write fd va len) done h.0.0
moves_inside v k b (service.Write fd va len) is (pipe.Putting done to) holds h = moving_inside v k b (service.Write fd va len) done h.0.0
moves_inside v k b s is (pipe.UnlockingMoved done) holds h = moving_inside v k b s done h.0
moves_inside v k b (service.Read fd va len) is (pipe.UnlockingEnd done) holds h = handing_inside (service.Read fd va len) 0 done refl h.0
moves_inside v k b s is (pipe.UnlockingTest done id runs) holds h = moving_inside v k b s done h.0.0
moves_inside v k b _ is (pipe.LoadingHeld done from) holds h = absurd h
moves_inside v k b _ is (pipe.KeepingHeld done from byte) holds h = absurd h
moves_inside v k b _ is (pipe.TakingHeld done from) holds h = absurd h
moves_inside v k b _ is (pipe.LoadingOwn done to) holds h = absurd h
moves_inside v k b _ is (pipe.PuttingOwn done to byte) holds h = absurd h
moves_inside v k b _ is (pipe.Putting done to) holds h = absurd h
moves_inside v k b _ is (pipe.UnlockingEnd done) holds h = absurd h
moves_inside v k b _ is pipe.StatFrom holds h = absurd h
moves_inside v k b _ is (pipe.StatTo from) holds h = absurd h
moves_inside v k b _ is (pipe.StatUnlocking held) holds h = absurd h
moves_inside v k b _ is _ holds h = absurd (let contradiction : false ≡ true = holds in cc)

told_locked : (v : View) (k : Slot) (b : Born) (s : Service) (at : PipeStep) → holds_lock at ≡ true → StandsOnPipe v k b s at → StandsMoving v k b s at
told_locked v k b s pipe.EndMode holds h = absurd (let contradiction : false ≡ true = holds in cc)
told_locked v k b s pipe.TakingBytes holds h = absurd (let contradiction : false ≡ true = holds in cc)
told_locked v k b s _ holds h = h

stat_inside : (v : View) (k : Slot) (b : Born) (fd va : ℕ) (at : PipeStep) → holds_lock at ≡ true → StandsAtPipe v k b (service.Stat fd va) at →
    IsInside b (service.Stat fd va)
stat_inside v k b fd va pipe.StatFrom holds h = record { stage = entered; phase = h.1.is_in.phase; on_pipes = refl }
stat_inside v k b fd va (pipe.StatTo from) holds h = record { stage = entered; phase = h.0.1.is_in.phase; on_pipes = refl }
stat_inside v k b fd va (pipe.StatUnlocking held) holds h =
    record { stage = delivering (va + 0) (drop 0 (stat_told (suc held))) 0; phase = h.0.phase; on_pipes = refl }
stat_inside v k b fd va pipe.StatLocking holds h = absurd (let contradiction : false ≡ true = holds in cc)
stat_inside v k b fd va pipe.StatPausing holds h = absurd (let contradiction : false ≡ true = holds in cc)
stat_inside v k b fd va _ holds h = absurd h

never_locked : (v : View) (k : Slot) (b : Born) (s : Service) (at : PipeStep) → is_on_pipes s ≡ false → holds_lock at ≡ true → StandsAtPipe v k b s at → ⊥
never_locked v k b (service.Read fd va len) at off holds h = let contradiction : true ≡ false = off in absurd cc
never_locked v k b (service.Write fd va len) at off holds h = let contradiction : true ≡ false = off in absurd cc
never_locked v k b (service.Stat fd va) at off holds h = let contradiction : true ≡ false = off in absurd cc
never_locked v k b _ (pipe.ReadFrom done id runs) off holds h = h
never_locked v k b _ (pipe.ReadTo done id runs from) off holds h = h
never_locked v k b _ (pipe.LoadingHeld done from) off holds h = h
never_locked v k b _ (pipe.KeepingHeld done from byte) off holds h = h
never_locked v k b _ (pipe.TakingHeld done from) off holds h = h
never_locked v k b _ (pipe.LoadingOwn done to) off holds h = h
never_locked v k b _ (pipe.PuttingOwn done to byte) off holds h = h
never_locked v k b _ (pipe.Putting done to) off holds h = h
never_locked v k b _ (pipe.UnlockingMoved done) off holds h = h
never_locked v k b _ (pipe.UnlockingEnd done) off holds h = h
never_locked v k b _ (pipe.UnlockingTest done id runs) off holds h = h
never_locked v k b _ pipe.StatFrom off holds h = h
never_locked v k b _ (pipe.StatTo from) off holds h = h
never_locked v k b _ (pipe.StatUnlocking held) off holds h = h
never_locked v k b _ _ off holds h = absurd (let contradiction : false ≡ true = holds in cc)

-- Who holds the lock is inside read, write or stat.
lock_inside : (v : View) (k : Slot) (b : Born) (s : Service) (at : PipeStep) → holds_lock at ≡ true → StandsAtPipe v k b s at → IsInside b s
lock_inside v k b (service.Read fd va len) at holds h =
    moves_inside v k b (service.Read fd va len) refl at holds (told_locked v k b (service.Read fd va len) at holds h)
lock_inside v k b (service.Write fd va len) at holds h =
    moves_inside v k b (service.Write fd va len) refl at holds (told_locked v k b (service.Write fd va len) at holds h)
lock_inside v k b (service.Stat fd va) at holds h = stat_inside v k b fd va at holds h
lock_inside v k b s at holds h = absurd (never_locked v k b s at refl holds h)

-- ---- it may wait

-- the descriptor that a service on pipes moves
moves_given : (s : Service) → is_on_pipes s ≡ true → moved_descriptor s ≡ Some (end_given s)
moves_given (service.Read fd va len) is = refl
moves_given (service.Write fd va len) is = refl
moves_given (service.Stat fd va) is = refl
moves_given _ is = absurd (let contradiction : false ≡ true = is in cc)

moved_may_wait : (a : AbstractState) (n : ℕ) (b : Born) (s : Service) (name quantum : ℕ) → is_on_pipes s ≡ true →
    pipe_at a b (moved_descriptor s) ≡ Some name → is_moved_by_another a n name ≡ true → service_may_wait a n b s quantum ≡ true
moved_may_wait a n b (service.Read fd va len) name quantum is its moved =
    ap (λ (o : Option ℕ). waits_to_ask a n || pipe_may_wait a n (service.Read fd va len) o quantum) its
    ∙ ap (λ (c : Bool). waits_to_ask a n || (read_may_wait a name quantum (a.pipes name) || c)) moved
    ∙ ap (λ (c : Bool). waits_to_ask a n || c) (or-true (read_may_wait a name quantum (a.pipes name))) ∙ or-true (waits_to_ask a n)
moved_may_wait a n b (service.Write fd va len) name quantum is its moved =
    ap (λ (o : Option ℕ). waits_to_ask a n || pipe_may_wait a n (service.Write fd va len) o quantum) its
    ∙ ap (λ (c : Bool). waits_to_ask a n || (write_may_wait a name quantum || c)) moved
    ∙ ap (λ (c : Bool). waits_to_ask a n || c) (or-true (write_may_wait a name quantum)) ∙ or-true (waits_to_ask a n)
moved_may_wait a n b (service.Stat fd va) name quantum is its moved =
    ap (λ (o : Option ℕ). waits_to_ask a n || pipe_may_wait a n (service.Stat fd va) o quantum) its
    ∙ ap (λ (c : Bool). waits_to_ask a n || c) moved ∙ or-true (waits_to_ask a n)
moved_may_wait a n b _ name quantum is its moved = absurd (let contradiction : false ≡ true = is in cc)

module _ {names : Names} {s : KernelState} {a : AbstractState} (h : StandsFor names s a) where
  -- the pipe of one that is inside a service on pipes, at such a place, by the entry of its page
  inside_pipe : (m : ℕ) (b : Born) → a.slots m ≡ born b → (of : Service) (at : PipeStep) →
      place_of (slot_at s m) ≡ place.InService of (step.Piped at) → is_on_pipes of ≡ true → end_given of < DESCRIPTORS → (e : Entry) →
      rows_of s.spaces (slot_at s m).directory (pipe_page (end_given of)) ≡ Some e →
      pipe_at a b (moved_descriptor of) ≡ Some (names.name e.frame)
  inside_pipe m b is of at stands on_pipes below e lies =
      let fd = end_given of in
      let found = (ends_at h m b is).only fd e below
      (ap (λ (p : Place). is_on_its_way p fd) stands ∙ on_pipes_way of (step.Piped at) on_pipes fd) lies in
      let test : nat_lt fd DESCRIPTORS ≡ true = grind (arith, nat_tests) in
      ap (pipe_at a b) (moves_given of on_pipes)
      ∙ ap (λ (c : Bool). pipe_of (option_map a.objects (if c then b.descriptors fd else None))) test
      ∙ ap (λ (o : Option ℕ). pipe_of (option_map a.objects o)) found.1 ∙ found.2

  -- who holds the lock moves it
  holder_moves : (n m frame : ℕ) → m ≢ n → HoldsLock (place_of (slot_at s m)) (logical s.spaces s.environments.slots m) frame →
      is_moved_by_another a n (names.name frame) ≡ true
  holder_moves n m frame ne holds =
      let there = at_lock (place_of (slot_at s m)) holds.fd holds.locked in
      let it = served h m there.of (step.Piped there.pipe_step) there.is in
      let inside = lock_inside (view_of s.spaces (slot_at s m).directory) (slot_at s m) it.b there.of there.pipe_step there.holds it.at in
      let plain : is_plain (place_of (slot_at s m)) ≡ true = ap is_plain there.is ∙ on_pipes_plain there.of (step.Piped there.pipe_step) inside.on_pipes in
      let lies : rows_of s.spaces (slot_at s m).directory (pipe_page holds.fd) ≡ Some holds.entry =
      sym (logical_plain s.spaces s.environments.slots m (clients_live h m it.b it.is) plain (pipe_page holds.fd)) ∙ holds.stands in
      let below : end_given there.of < DESCRIPTORS = subst (λ (q : ℕ). q < DESCRIPTORS) (sym there.same) holds.below in
      let name = names.name frame in
      let its : pipe_at a it.b (moved_descriptor there.of) ≡ Some name =
      inside_pipe m it.b it.is there.of there.pipe_step there.is inside.on_pipes below holds.entry
      (ap (λ (q : ℕ). rows_of s.spaces (slot_at s m).directory (pipe_page q)) there.same ∙ lies)
      ∙ ap (λ (f : ℕ). Some (names.name f)) holds.same in
      let other : (m == n) ≡ false = grind (arith, nat_tests) in
      let same : (name == name) ≡ true = grind (arith, nat_tests) in
      some_below-at (λ q. not (q == n) && is_pipe name (pipe_moved a (born_in (a.slots q)))) NENV m
      (slot_small h m (live h m it.b it.is))
      (ap (λ (c : Bool). not c && is_pipe name (pipe_moved a (born_in (a.slots m)))) other
      ∙ ap (λ (slot : AbstractSlot). is_pipe name (pipe_moved a (born_in slot))) it.is
      ∙ ap (λ (phase : Phase). is_pipe name (pipe_in a it.b (service_of_phase phase))) inside.phase
      ∙ ap (is_pipe name) its ∙ same)

  -- so that who finds it taken may wait
  taken_may_wait : (n : ℕ) (b : Born) → a.slots n ≡ born b → (of : Service) (at : PipeStep) →
      place_of (slot_at s n) ≡ place.InService of (step.Piped at) → is_on_pipes of ≡ true → (stage : Stage) → b.phase ≡ in_service of stage →
      end_given of < DESCRIPTORS → (e : Entry) → rows_of s.spaces (slot_at s n).directory (pipe_page (end_given of)) ≡ Some e → (m : ℕ) → m ≢ n →
      HoldsLock (place_of (slot_at s m)) (logical s.spaces s.environments.slots m) e.frame → (quantum : ℕ) → may_wait a n quantum ≡ true
  unfolding may_wait
  taken_may_wait n b is of at stands on_pipes stage phase below e lies m ne holds quantum =
      ap (λ (x : AbstractSlot). slot_may_wait a n x quantum) is
      ∙ ap (λ (x : Phase). phase_may_wait a n b x quantum) phase
      ∙ moved_may_wait a n b of (names.name e.frame) quantum on_pipes (inside_pipe n b is of at stands on_pipes below e lies)
      (holder_moves n m e.frame ne holds)

-- ---- the exchange

below_limit : (fd : ℕ) → fd < DESCRIPTORS → pipe_page fd < page_limit
unfolding page_limit
below_limit fd under = omega (arith, under)

-- What it comes to: it gives the word of the lock; the state behind stands for the same abstract one at the one step or the other, and at the other it
-- may wait.
pub record IsExchanged (names : Names) (s : KernelState) (a : AbstractState) (n : ℕ) (call : Service) (free held : Step) : Type 0 where
  pub spaces : SpacesState
  pub word : ℕ
  pub step_is : exchange s n (pipe_address (end_given call) + PIPE_LOCK) 1
      ≡ record { state = with_spaces s spaces; gives = got word; written = [] }
  pub takes : word ≡ 0 → IsInOrder (with_spaces s spaces) → StandsFor names (with_extra (with_spaces s spaces) n (words_at (number_of call) free)) a
  pub finds : word ≢ 0 → IsInOrder (with_spaces s spaces) → StandsFor names (with_extra (with_spaces s spaces) n (words_at (number_of call) held)) a
  pub waits : word ≢ 0 → (quantum : ℕ) → may_wait a n quantum ≡ true

module _ {names : Names} {s : KernelState} {a : AbstractState} (h : StandsFor names s a) (n : ℕ) (call : Service) (is : is_on_pipes call ≡ true)
    (at : PipeStep) (stands : place_of (slot_at s n) ≡ place.InService call (step.Piped at)) (last : s.last ≡ Some n)
    (none : locked_at (place.InService call (step.Piped at)) ≡ None)
    (kept : (other : ℕ) → is_dropped (place.InService call (step.Piped at)) other ≡ false)
    (its : HasPipeOf (view_of s.spaces (slot_at s n).directory) call) (stage : Stage)
    (inside : (served h n call (step.Piped at) stands).b.phase ≡ in_service call stage)
    (free : PipeStep) (took : locked_at (place.InService call (step.Piped free)) ≡ Some (end_given call))
    (held : PipeStep) (left : locked_at (place.InService call (step.Piped held)) ≡ None)
    (page_free : holds_page (place.InService call (step.Piped at)) ≡ holds_page (place.InService call (step.Piped free)))
    (page_held : holds_page (place.InService call (step.Piped at)) ≡ holds_page (place.InService call (step.Piped held))) where
  abbrev here : IsServed names s a n call (step.Piped at)
  here = served h n call (step.Piped at) stands

  abbrev seen : View
  seen = view_of s.spaces (slot_at s n).directory

  abbrev page : List ℕ
  page = s.spaces.pages its.page.frame

  whole : IsPage page
  whole = pipe_whole h n call is at stands its.below its.page its.lies

  -- another holds it, where it is held
  holder : lock_of page ≢ 0 → (m : ℕ) × (other : (m ≢ n)) × HoldsLock (place_of (slot_at s m)) (logical s.spaces s.environments.slots m) its.page.frame
  holder some =
      let found = h.locks.holder n (end_given call) its.page its.below (pipe_counts h n call is at stands its.below its.page its.lies)
      (pipe_shared_page h n call is at stands its.below its.page its.lies) some in (
        found.0,
        (λ same. none-some found.1.fd (sym none ∙ ap locked_at (sym stands) ∙ ap (λ (q : ℕ). locked_at (place_of (slot_at s q))) (sym same) ∙ found.1.locked)),
        found.1,
      )

  pub lock_exchanged :
      ((w : View) → ViewAlike seen w → w.bytes its.page.frame ≡ with_word page PIPE_LOCK 1 →
      StandsAtStep w (record (slot_at s n) { extra = words_at (number_of call) (step.Piped free) }) here.b call (step.Piped free)) →
      ((w : View) → ViewAlike seen w →
      StandsAtStep w (record (slot_at s n) { extra = words_at (number_of call) (step.Piped held) }) here.b call (step.Piped held)) →
      IsExchanged names s a n call (step.Piped free) (step.Piped held)
  lock_exchanged so_free so_held =
      let puts = word_puts h n call is at stands its.below its.page its.lies last PIPE_LOCK 1 (omega arith) in
      let now = with_word page PIPE_LOCK 1 in
      let now_whole = with_word_whole page PIPE_LOCK 1 whole in
      let limit : pipe_page (end_given call) < page_limit = below_limit (end_given call) its.below in
      let address : pipe_page (end_given call) * PGSIZE + PIPE_LOCK ≡ pipe_address (end_given call) + PIPE_LOCK = omega arith in
      let stood = word_stood s n (pipe_page (end_given call)) PIPE_LOCK its.page limit (omega arith) its.lies
      (pipe_user h n call is at stands its.below its.page its.lies) in
      let shows = same_stands {things = things_in s a} {after = things_in s a} (λ q. refl) (pipe_has h n call is at stands its.below its.page its.lies)
      refl (lock_stored page 1) in
      let dir = (slot_at s n).directory in
      record {
        spaces = puts.spaces;
        word = lock_of page;
        step_is = exchange_stores s n (pipe_address (end_given call) + PIPE_LOCK) 1 puts.spaces puts.step_is
            ∙ ap (λ (w : ℕ). record { state = with_spaces s puts.spaces; gives = got w; written = [] })
            (subst (λ (va : ℕ). user_word (with_spaces s (touched s.spaces dir va Write)) n va ≡ lock_of page) address stood);
        takes = λ zero. hidden_behind h n call is at stands its.below its.page its.lies last puts.spaces now now_whole puts.rewritten
            (step.Piped free) (is_taken none took zero (lock_there page 1 whole (omega arith))) kept page_free shows
            (λ alike now_is. so_free (view_of puts.spaces (slot_at s n).directory) alike now_is);
        finds = λ some.
            let found = holder some in
            let again = lock_again page whole (h.locks.held found.0 its.page.frame found.2) in
            hidden_behind h n call is at stands its.below its.page its.lies last puts.spaces now now_whole puts.rewritten
            (step.Piped held) (left_so none left again) kept page_held shows
            (λ alike now_is. so_held (view_of puts.spaces (slot_at s n).directory) alike);
        waits = λ some quantum.
            let found = holder some in
            taken_may_wait h n here.b here.is call at stands is stage inside its.below its.page its.lies found.0 found.1 found.2 quantum;
      }

-- ---- read and write

still_same : (s : Service) (page now : List ℕ) → held_of now ≡ held_of page → is_still s now ≡ is_still s page
still_same (service.Write fd va len) bytes now same = ap (nat_le PIPEBUFSIZ) same
still_same _ bytes now same = ap (λ (q : ℕ). q == 0) same

module _ {names : Names} {s : KernelState} {a : AbstractState} (h : StandsFor names s a) (n : ℕ) (call : Service) (moves : moves_bytes call ≡ true)
    (last : s.last ≡ Some n) where
  abbrev space : View
  space = view_of s.spaces (slot_at s n).directory

  pub locking_exchanged : (done id runs : ℕ) → place_of (slot_at s n) ≡ place.InService call (step.Piped (pipe.Locking done id runs)) →
      IsExchanged names s a n call (step.Piped (pipe.ReadFrom done id runs)) (step.Piped (pipe.LockPausing done))
  locking_exchanged done id runs stands =
      let at = pipe.Locking done id runs in
      let free = pipe.ReadFrom done id runs in
      let held = pipe.LockPausing done in
      let it = served h n call (step.Piped at) stands in
      let so = told_moving space (slot_at s n) it.b call at moves refl it.at in
      let its = moved_pipe space (slot_at s n) it.b call done so.0.0 in
      let inside = moving_inside space (slot_at s n) it.b call done so.0.0 in
      lock_exchanged h n call (moves_on_pipes call moves) at stands last refl (λ other. refl) its inside.stage inside.phase free refl held refl
      (moving_holds call at moves ∙ sym (moving_holds call free moves)) (moving_holds call at moves ∙ sym (moving_holds call held moves))
      (λ w alike now. tell_moving w (record (slot_at s n) { extra = words_at (number_of call) (step.Piped free) }) it.b call free moves refl (
        moving_on alike (slot_at s n) it.b (words_at (number_of call) (step.Piped free)) call done so.0,
        tries_again id runs its w alike now (words_at (number_of call) (step.Piped free)) so.1,
      ))
      (λ w alike. tell_moving w (record (slot_at s n) { extra = words_at (number_of call) (step.Piped held) }) it.b call held moves refl
      (moving_on alike (slot_at s n) it.b (words_at (number_of call) (step.Piped held)) call done so.0))
    where
      tries_again : (id runs : ℕ) (its : HasPipeOf space call) (w : View) → ViewAlike space w →
          w.bytes its.page.frame ≡ with_word (space.bytes its.page.frame) PIPE_LOCK 1 → (words : List ℕ) → TriesAgain space (slot_at s n) call id runs →
          TriesAgain w (record (slot_at s n) { extra = words }) call id runs
      tries_again zero runs its w alike now words had = tt
      tries_again (suc id) runs its w alike now words had = (
        had.0,
        (had.1.0, (λ running again. told (had.1.1 running again))),
      )
        where
          told : OfPipe space call (λ page. is_still call page ≡ false) → OfPipe w call (λ page. is_still call page ≡ false)
          told of =
              let same : of.page ≡ its.page = same_Some of.page its.page (sym of.lies ∙ its.lies) in
              let page = space.bytes its.page.frame in
              record {
                page = its.page;
                lies = (λ i. alike.row i (pipe_page (end_given call))) ∙ its.lies;
                so = ap (is_still call) now ∙ still_same call page (with_word page PIPE_LOCK 1) (same_held (lock_stored page 1))
                    ∙ ap (λ (x : Entry). is_still call (space.bytes x.frame)) (sym same) ∙ of.so;
              }

-- ---- stat

pub stat_exchanged : {names : Names} {s : KernelState} {a : AbstractState} → StandsFor names s a → (n fd va : ℕ) → s.last ≡ Some n →
    place_of (slot_at s n) ≡ place.InService (service.Stat fd va) (step.Piped pipe.StatLocking) →
    IsExchanged names s a n (service.Stat fd va) (step.Piped pipe.StatFrom) (step.Piped pipe.StatPausing)
stat_exchanged {s = s} h n fd va last stands =
    let call = service.Stat fd va in
    let it = served h n call (step.Piped pipe.StatLocking) stands in
    let telling = it.at.1 in
    lock_exchanged h n call refl pipe.StatLocking stands last refl (λ other. refl)
    (record { below = telling.below; page = telling.open_end.page; lies = telling.open_end.lies }) entered telling.is_in.phase
    pipe.StatFrom refl pipe.StatPausing refl refl refl
    (λ w alike now. (it.at.0, telling_kept alike (slot_at s n) it.b (words_at (number_of call) (step.Piped pipe.StatFrom)) telling))
    (λ w alike. (it.at.0, telling_kept alike (slot_at s n) it.b (words_at (number_of call) (step.Piped pipe.StatPausing)) telling))

-- ---- what the step comes to

module _ (s : KernelState) (n : ℕ) (call : Service) (free held : Step)
    (exchanges : (names : Names) (a : AbstractState) → StandsFor names s a → s.last ≡ Some n → IsExchanged names s a n call free held) where
  abbrev did : CallStep ℕ
  did = exchange s n (pipe_address (end_given call) + PIPE_LOCK) 1

  module _ (names : Names) (a : AbstractState) (h : StandsFor names s a) (last : s.last ≡ Some n) where
    abbrev comes : IsExchanged names s a n call free held
    comes = exchanges names a h last

    state_is : did.state ≡ with_spaces s comes.spaces
    state_is = ap (λ (c : CallStep ℕ). c.state) comes.step_is

    -- it gives the word
    pub exchange_gives : did.gives ≡ got comes.word
    exchange_gives = ap (λ (c : CallStep ℕ). c.gives) comes.step_is

    pub exchange_writes : did.written ≡ []
    exchange_writes = ap (λ (c : CallStep ℕ). c.written) comes.step_is

    word_given : (word : ℕ) → did.gives ≡ got word → comes.word ≡ word
    word_given word given =
        ap (λ (g : Got ℕ). word_in g) (sym exchange_gives ∙ given)
      where
        word_in : Got ℕ → ℕ
        word_in (got x) = x
        word_in _ = 0

  pub free_keeps : did.gives ≡ got 0 → IsInOrder did.state →
      KeepsStanding progress.Hidden n s (with_extra did.state n (words_at (number_of call) free)) []
  free_keeps given in_order a h turn quiet =
      let it = comes h.0 a h.1 turn.last in
      let state = state_is h.0 a h.1 turn.last in (
        refl,
        (
          h.0,
          subst (λ (t : KernelState). StandsFor h.0 (with_extra t n (words_at (number_of call) free)) a) (sym state)
              (it.takes (word_given h.0 a h.1 turn.last 0 given) (subst (λ (t : KernelState). IsInOrder t) state in_order)),
        ),
      )

  pub held_keeps : (word : ℕ) → did.gives ≡ got word → word ≢ 0 → IsInOrder did.state →
      KeepsStanding progress.Waited n s (with_extra did.state n (words_at (number_of call) held)) []
  held_keeps word given some in_order a h turn quiet =
      let it = comes h.0 a h.1 turn.last in
      let state = state_is h.0 a h.1 turn.last in
      let taken : it.word ≢ 0 = λ zero. some (sym (word_given h.0 a h.1 turn.last word given) ∙ zero) in (
        (
          refl,
          (
            h.0,
            subst (λ (t : KernelState). StandsFor h.0 (with_extra t n (words_at (number_of call) held)) a) (sym state)
                (it.finds taken (subst (λ (t : KernelState). IsInOrder t) state in_order)),
          ),
        ),
        it.waits taken SHORT_QUANTUM,
      )
