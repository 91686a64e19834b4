-- The law of read, write and stat at their steps on an end of a pipe: each step is a part of what the abstract system does in one, or the whole of it.
use Rattle.std.proofs.Common.{◌≡◌, ◌≢◌, ◌∙◌, inl, inr, ◌+◌, ◌*◌, ◌/◌, ◌%◌, ◌^◌, ◌==◌, ◌||◌, ◌<◌, ◌≤◌, ℕ, Bool, true, false, not, [], ◌∷◌, Some}
use Rattle.std.proofs.Common.{refl, sym, ap, subst, arith, if◌then◌else◌}
use Rattle.std.specs.Prelude.{nat_lt, slice_index}
use Rattle.std.proofs.lemmas.Bool.Decides.{nat_tests}
use Rattle.std.proofs.lemmas.Option.{same_Some}
use Rattle.jos_base.specs.declared.called.Called.{Called}
use Rattle.jos_base.specs.declared.environment.Status.TheVariants.{Runnable}
use Rattle.jos_base.specs.declared.numbers.TheConstants.{E_INVAL, PGSIZE, SYS_GETENVID, SYS_PAGE_ALLOC, SYS_YIELD, UTEMP}
use Rattle.jos_base.specs.Environments.{Slot, is_live}
use Rattle.jos_base.specs.KernelState.{KernelState, slot_at, with_extra, with_spaces, with_status}
use Rattle.jos_base.specs.Reach.{Entry}
use Rattle.jos_base.specs.SpacesState.{SpacesState, reference_count}
use Rattle.jos_base.specs.SystemCalls.{has_write, is_page_perm}
use Rattle.jos_base.specs.Words.{negated, page_number}
use Rattle.jos_base.proofs.Maps.{upd-at}
use Rattle.lib_os.specs.declared.numbers.TheConstants.{PIPEBUFSIZ, PIPE_BYTES, PIPE_LOCK, PIPE_READ, PIPE_WRITE}
use Rattle.lib_os.specs.declared.place.PipeStep.{PipeStep}
use Rattle.lib_os.specs.declared.place.PipeStep.TheVariants as pipe
use Rattle.lib_os.specs.declared.place.Place.TheVariants as place
use Rattle.lib_os.specs.declared.place.Place.{Place}
use Rattle.lib_os.specs.declared.place.Step.{Step}
use Rattle.lib_os.specs.declared.place.Step.TheVariants as step
use Rattle.lib_os.specs.declared.progress.Progress.TheVariants as progress
use Rattle.lib_os.specs.declared.service.Service.{Service}
use Rattle.lib_os.specs.declared.service.Service.TheVariants as service
use Rattle.lib_os.specs.AbstractState.{AbstractState, Born}
use Rattle.lib_os.specs.DescriptorPages.{pipe_byte, read_of, written_of}
use Rattle.lib_os.specs.Fence.{is_buffer}
use Rattle.lib_os.specs.InOrder.{IsInOrder}
use Rattle.lib_os.specs.LibraryPages.{IsOwnWritable, View, has_working, keeps_moved}
use Rattle.lib_os.specs.LibrarySteps.{HasTurn, KeepsStanding, Stands, is_pausing}
use Rattle.lib_os.specs.Places.{place_of, words_at}
use Rattle.lib_os.specs.Rows.{Names, is_of_descriptor, rows_of}
use Rattle.lib_os.specs.StandsAtPipe.{HasMoved, IsReadingPipe, StandsMoving, end_given, most_moved}
use Rattle.lib_os.specs.StandsFor.{StandsFor, borne_in, view_of}
use Rattle.lib_os.specs.StandsInHandler.{wanted_of}
use Rattle.lib_os.specs.UserCalls.{CallStep, Got, answer_of, giving, got, load, store, store_byte}
use Rattle.lib_os.proofs.BytesKept.{PutsBytes, store_byte_puts, store_byte_slots, store_slots, working_below}
use Rattle.lib_os.proofs.Calls.{getenvid_is}
use Rattle.lib_os.proofs.GoingOn.{in_with_words, words_stand}
use Rattle.lib_os.proofs.Logical.{is_plain, logical_plain}
use Rattle.lib_os.proofs.Loading.{loaded}
use Rattle.lib_os.proofs.Numbered.{named_at, number_of}
use Rattle.lib_os.proofs.PathTaken.{path_untaken_keeps}
use Rattle.lib_os.proofs.PageTaken.{take_holds, take_lives, working_page, working_perm}
use Rattle.lib_os.proofs.PipeBegun.{mode_va, mode_word, read_end_none, read_end_refuses, read_end_takes, read_mode_gives}
use Rattle.lib_os.proofs.PipeBegun.{write_end_none, write_end_refuses, write_end_takes, write_mode_gives}
use Rattle.lib_os.proofs.PipeFalls as falls
use Rattle.lib_os.proofs.PipeHeld.{read_ends, read_finds, read_stuck, reads_byte, reads_byte_gives, reads_from, reads_from_gives, reads_to_gives}
use Rattle.lib_os.proofs.PipeKept.{keeps_held}
use Rattle.lib_os.proofs.PipeLoaded.{byte_va, pipe_held, read_va, written_va}
use Rattle.lib_os.proofs.PipeLocked.{IsExchanged, locking_exchanged, stat_exchanged}
use Rattle.lib_os.proofs.PipeRoom.{own_held, own_va, write_finds, write_stuck, writes_byte, writes_byte_gives, writes_from, writes_from_gives, writes_to_gives}
use Rattle.lib_os.proofs.PipeShown.{IsSeen, held_taken, own_counted, read_ended, seen_keeps, write_ended}
use Rattle.lib_os.proofs.PipeStated.{stat_from, stat_from_gives, stat_shows, stat_to_gives}
use Rattle.lib_os.proofs.PipeStored.{HasPipeOf, end_unlocked, moved_pipe, moved_unlocked, moves_on_pipes, own_put, stat_unlocked, test_unlocked, told_moving}
use Rattle.lib_os.proofs.PipeStuck.{is_still_by}
use Rattle.lib_os.proofs.PipeTaking.{read_taking_keeps, write_taking_keeps}
use Rattle.lib_os.proofs.PipeTested as test
use Rattle.lib_os.proofs.PipeTested.{count_at, end_entry_at, other_at, own_at, pipe_at, pipe_entry_at, runs_at}
use Rattle.lib_os.proofs.PipeWritten.{IsWritten, is_on_pipes, pipe_address, written_keeps}
use Rattle.lib_os.proofs.Serving.{IsServed, holds_page, served}
use Rattle.lib_os.proofs.PipesStand.{is_calm}
use Rattle.lib_os.proofs.SlotsStand.{born_at, moves_bytes}
use Rattle.lib_os.proofs.StatesStand.{clients_live, status_stands}
use Rattle.lib_os.proofs.Trying.{LivesOn}
use Rattle.lib_os.proofs.WindowWords.{read_at}
use Rattle.lib_stage.specs.declared.ask.Ask.{Ask}
use Rattle.lib_stage.specs.declared.ask.Ask.TheVariants as ask
use Rattle.lib_stage.specs.declared.ask.Next.{Next}
use Rattle.lib_stage.specs.declared.ask.Next.TheVariants as next
use Rattle.lib_stage.specs.Asks.{no_args, performed}
use Rattle.lib_stage.specs.Nexts.{seen_as, settled}
use Rattle.lib_stage.specs.ServiceSteps.{Plan, ServiceHolds}
use Rattle.lib_stage.proofs.Laws.{Falls, FallsOrAsks, KeepsBy, law_of_call, law_of_pause, plainly, store_byte_aside, store_byte_known, store_known}
use Rattle.lib_fd.specs.DescriptorStages.{entry_asked, pipe_entry_asked, pipe_va}
use Rattle.lib_pipe.specs.declared.ends.PipeService.TheVariants as of
use Rattle.lib_pipe.specs.declared.ends.PipeStage.TheVariants as stage
use Rattle.lib_pipe.specs.PipeStages as stages
use Rattle.lib_pipe.proofs.EndSteps.{turn_load_holds, Follows, byte_holds, known_load_holds, load_holds, lock_holds, put_holds, staged}
use Rattle.lib_pipe.proofs.PipeAside.{address_is, byte_comes, byte_server, lock_comes, lock_server, word_comes, word_server}

-- ---- what is put into the pipe's page

module _ (s : KernelState) (n : ℕ) (call : Service) (on : is_on_pipes call ≡ true) (live : is_live (slot_at s n) ≡ true) (at : PipeStep)
    (stands : place_of (slot_at s n) ≡ place.InService call (step.Piped at)) (steady : is_pausing (place.InService call (step.Piped at)) ≡ false)
    (has : (names : Names) (a : AbstractState) → StandsFor names s a → HasPipeOf (view_of s.spaces (slot_at s n).directory) call) where
  abbrev va : ℕ → ℕ
  va o = pipe_va (end_given call) + o

  -- a word, by what the step comes to
  module _ (o word : ℕ) (fits : o + 4 ≤ PGSIZE) where
    word_put : (x : Next) → Falls call (step.Piped at) x →
        (IsInOrder (store s n (va o) word).state →
        KeepsStanding (seen_as x) n s (settled (number_of call) x (store s n (va o) word).state n) []) →
        ServiceHolds s n (staged call (ask.Store (va o) word) (λ w. x))
    unfolding performed
    word_put x less keeps =
        put_holds s n call live (step.Piped at) stands steady (ask.Store (va o) word) (store s n (va o) word) refl
        (store_known s n (va o) word (word_server s n call on at stands has o word fits)) refl (λ g may. may)
        (store_slots s n (va o) word) (λ names a h. word_comes s n call on at stands has names a h o word fits) x less keeps

    abbrev there : (names : Names) (a : AbstractState) → StandsFor names s a → pipe_address (end_given call) + o ≡ va o
    there names a h = ap (λ (q : ℕ). q + o) (address_is s n call on at stands has names a h)

    -- nobody sees it
    word_hidden : (to : Step) → Falls call (step.Piped at) (next.GoOn to) →
        ((names : Names) (a : AbstractState) → StandsFor names s a → s.last ≡ Some n →
        IsWritten names s n call (store s n (pipe_address (end_given call) + o) word) to a) →
        ServiceHolds s n (staged call (ask.Store (va o) word) (λ w. next.GoOn to))
    word_hidden to less writes =
        word_put (next.GoOn to) less
        (written_keeps s n call (store s n (va o) word) to
        (λ names a h last. subst (λ (q : ℕ). IsWritten names s n call (store s n q word) to a) (there names a h) (writes names a h last)))

    -- or it is seen
    word_shown : (to : Step) →
        ((names : Names) (a : AbstractState) → StandsFor names s a → s.last ≡ Some n →
        IsSeen names s a n call (store s n (pipe_address (end_given call) + o) word) to) →
        ServiceHolds s n (staged call (ask.Store (va o) word) (λ w. next.Show to))
    word_shown to shows =
        word_put (next.Show to) tt
        (seen_keeps s n call (store s n (va o) word) to
        (λ names a h last. subst (λ (q : ℕ). IsSeen names s a n call (store s n q word) to) (there names a h) (shows names a h last)))

  -- a byte, which nobody sees
  byte_hidden : (o byte : ℕ) (fits : o < PGSIZE) (to : Step) → Falls call (step.Piped at) (next.GoOn to) →
      ((names : Names) (a : AbstractState) → StandsFor names s a → s.last ≡ Some n →
      IsWritten names s n call (store_byte s n (pipe_address (end_given call) + o) byte) to a) →
      ServiceHolds s n (staged call (ask.StoreByte (va o) byte) (λ w. next.GoOn to))
  unfolding performed
  byte_hidden o byte fits to less writes =
      put_holds s n call live (step.Piped at) stands steady (ask.StoreByte (va o) byte) (store_byte s n (va o) byte) refl
      (store_byte_known s n (va o) byte (byte_server s n call on at stands has o byte fits)) refl (λ g may. may)
      (store_byte_slots s n (va o) byte) (λ names a h. byte_comes s n call on at stands has names a h o byte fits) (next.GoOn to) less
      (written_keeps s n call (store_byte s n (va o) byte) to
      (λ names a h last. subst (λ (q : ℕ). IsWritten names s n call (store_byte s n q byte) to a)
      (ap (λ (q : ℕ). q + o) (address_is s n call on at stands has names a h)) (writes names a h last)))

  -- the lock is asked for
  lock_asked : (free held : PipeStep) → Falls call (step.Piped at) (next.GoOn (step.Piped free)) →
      is_pausing (place.InService call (step.Piped held)) ≡ true →
      ((names : Names) (a : AbstractState) → StandsFor names s a → s.last ≡ Some n →
      IsExchanged names s a n call (step.Piped free) (step.Piped held)) →
      ServiceHolds s n (staged call (ask.Exchange (va PIPE_LOCK) 1) (λ word. stages.next_of_lock word free held))
  unfolding performed
  lock_asked free held less pauses exchanges =
      lock_holds s n call live (step.Piped at) stands steady (va PIPE_LOCK) (lock_server s n call on at stands has PIPE_LOCK 1 (omega arith))
      (λ names a h. lock_comes s n call on at stands has names a h PIPE_LOCK 1 (omega arith)) free held less pauses
      (λ a h. ap (λ (q : ℕ). q + PIPE_LOCK) (address_is s n call on at stands has h.0 a h.1)) exchanges

-- ---- read and write

-- the steps at which they pause
abbrev is_pause : PipeStep → Bool
is_pause (pipe.LockPausing done) = true
is_pause (pipe.TestPausing done) = true
is_pause pipe.StatPausing = true
is_pause _ = false

moving_steady : (call : Service) → moves_bytes call ≡ true → (at : PipeStep) → is_pause at ≡ false →
    is_pausing (place.InService call (step.Piped at)) ≡ false
moving_steady (service.Read fd va len) moves (pipe.LockPausing done) none = absurd (let contradiction : true ≡ false = none in cc)
moving_steady (service.Read fd va len) moves (pipe.TestPausing done) none = absurd (let contradiction : true ≡ false = none in cc)
moving_steady (service.Read fd va len) moves pipe.StatPausing none = absurd (let contradiction : true ≡ false = none in cc)
moving_steady (service.Read fd va len) moves _ none = refl
moving_steady (service.Write fd va len) moves (pipe.LockPausing done) none = absurd (let contradiction : true ≡ false = none in cc)
moving_steady (service.Write fd va len) moves (pipe.TestPausing done) none = absurd (let contradiction : true ≡ false = none in cc)
moving_steady (service.Write fd va len) moves pipe.StatPausing none = absurd (let contradiction : true ≡ false = none in cc)
moving_steady (service.Write fd va len) moves _ none = refl
moving_steady _ moves at none = absurd (let contradiction : false ≡ true = moves in cc)

lock_pauses : (call : Service) → moves_bytes call ≡ true → (done : ℕ) → is_pausing (place.InService call (step.Piped (pipe.LockPausing done))) ≡ true
lock_pauses (service.Read fd va len) moves done = refl
lock_pauses (service.Write fd va len) moves done = refl
lock_pauses _ moves done = absurd (let contradiction : false ≡ true = moves in cc)

test_pauses : (call : Service) → moves_bytes call ≡ true → (done : ℕ) → is_pausing (place.InService call (step.Piped (pipe.TestPausing done))) ≡ true
test_pauses (service.Read fd va len) moves done = refl
test_pauses (service.Write fd va len) moves done = refl
test_pauses _ moves done = absurd (let contradiction : false ≡ true = moves in cc)

module _ (s : KernelState) (n : ℕ) (call : Service) (moves : moves_bytes call ≡ true) (live : is_live (slot_at s n) ≡ true) where
  abbrev pub IsThere : PipeStep → Type 0
  IsThere at = place_of (slot_at s n) ≡ place.InService call (step.Piped at)

  abbrev pub Holds : PipeStep → Ask → (ℕ → Next) → Type 0
  Holds at asks next = ServiceHolds s n (staged call asks next)

  abbrev pub fd : ℕ
  fd = end_given call

  abbrev space : View
  space = view_of s.spaces (slot_at s n).directory

  on : is_on_pipes call ≡ true
  on = moves_on_pipes call moves

  -- its pipe, where it has moved so many
  pipe_there : (at : PipeStep) (done : ℕ) → IsThere at → keeps_moved at ≡ true →
      ((b : Born) → StandsMoving space (slot_at s n) b call at → HasMoved space (slot_at s n) b call done) →
      (names : Names) (a : AbstractState) → StandsFor names s a → HasPipeOf space call
  pipe_there at done stands keeps moved names a h =
      let it = served h n call (step.Piped at) stands in
      moved_pipe space (slot_at s n) it.b call done (moved it.b (told_moving space (slot_at s n) it.b call at moves keeps it.at))

  -- ---- the lock

  pub locking_holds : (done id runs : ℕ) → IsThere (pipe.Locking done id runs) →
      ServiceHolds s n (staged call (stages.lock_asked fd) (λ word. stages.next_of_lock word (pipe.ReadFrom done id runs) (pipe.LockPausing done)))
  locking_holds done id runs stands =
      let at = pipe.Locking done id runs in
      lock_asked s n call on live at stands (moving_steady call moves at refl) (pipe_there at done stands refl (λ b so. so.0.0))
      (pipe.ReadFrom done id runs) (pipe.LockPausing done) (falls.locking_falls done id runs) (lock_pauses call moves done)
      (λ names a h last. locking_exchanged h n call moves last done id runs stands)

  pub lock_pausing_holds : (done : ℕ) → IsThere (pipe.LockPausing done) →
      ServiceHolds s n (staged call (ask.System SYS_YIELD no_args) (λ word. stages.piped (pipe.Locking done 0 0)))
  lock_pausing_holds done stands =
      law_of_pause s n call (step.Piped (pipe.LockPausing done)) (step.Piped (pipe.Locking done 0 0)) (number_of call) no_args stands live refl
      (lock_pauses call moves done) (falls.lock_paused_falls done) (test.lock_paused_keeps s n call moves done stands)

  pub test_pausing_holds : (done : ℕ) → IsThere (pipe.TestPausing done) →
      ServiceHolds s n (staged call (ask.System SYS_YIELD no_args) (λ word. stages.piped (pipe.Locking done 0 0)))
  test_pausing_holds done stands =
      law_of_pause s n call (step.Piped (pipe.TestPausing done)) (step.Piped (pipe.Locking done 0 0)) (number_of call) no_args stands live refl
      (test_pauses call moves done) (falls.test_paused_falls done) (test.test_paused_keeps s n call moves done stands)

  -- behind a byte, where more are wanted
  pub moved_on_holds : (done : ℕ) → IsThere (pipe.UnlockingMoved done) → done < most_moved call →
      ServiceHolds s n (staged call (stages.unlock_asked fd) (λ word. stages.piped (pipe.Locking done 0 0)))
  moved_on_holds done stands more =
      let at = pipe.UnlockingMoved done in
      word_hidden s n call on live at stands (moving_steady call moves at refl) (pipe_there at done stands refl (λ b so. so.0)) PIPE_LOCK 0 (omega arith)
      (step.Piped (pipe.Locking done 0 0)) (falls.moved_falls done) (λ names a h last. moved_unlocked h n call moves last done stands more)

  -- before the test
  pub unlocking_test_holds : (done id runs : ℕ) → IsThere (pipe.UnlockingTest done id runs) →
      ServiceHolds s n (staged call (stages.unlock_asked fd) (λ word. stages.next_of_unlocked done id runs))
  unlocking_test_holds done id runs stands =
      subst (λ (x : Next). ServiceHolds s n (staged call (stages.unlock_asked fd) (λ word. x))) (next_is (id == 0))
      (word_hidden s n call on live at stands (moving_steady call moves at refl) (pipe_there at done stands refl (λ b so. so.0.0)) PIPE_LOCK 0 (omega arith)
      (step.Piped (if id == 0 then pipe.TestIdentifying done else pipe.TestAgain done id runs))
      (falls.unlocked_falls done id runs (id == 0) refl) (λ names a h last. test_unlocked h n call moves last done id runs stands))
    where
      at : PipeStep
      at = pipe.UnlockingTest done id runs

      next_is : (c : Bool) → stages.piped (if c then pipe.TestIdentifying done else pipe.TestAgain done id runs)
          ≡ (if c then stages.piped (pipe.TestIdentifying done) else stages.piped (pipe.TestAgain done id runs))
      next_is true = refl
      next_is false = refl

  -- ---- the test whether the other end is closed

  pub identifying_holds : (done : ℕ) → IsThere (pipe.TestIdentifying done) →
      ServiceHolds s n (staged call (ask.System SYS_GETENVID no_args) (λ own. stages.piped (pipe.TestRuns done own)))
  identifying_holds done stands =
      law_of_call s n plan call (step.Piped (pipe.TestIdentifying done)) (record {
        stands = stands;
        live = live;
        numbered = refl;
        plain = plainly refl;
        goes_on = moving_steady call moves (pipe.TestIdentifying done) refl;
        falls = λ called. falls.identified_falls done (answer_of called);
        few = omega arith;
      }) SYS_GETENVID no_args refl refl
      (subst (λ (z : CallStep Called). LivesOn z n (slot_at s n).registers) (sym (getenvid_is s n live no_args))
      (record { live = live; registers = refl; written = refl }))
      (λ order. subst (λ (z : CallStep Called). KeepsBy s n plan z) (sym (getenvid_is s n live no_args)) (test.identifying_keeps s n call moves done stands))
    where
      plan : Plan
      plan = staged call (ask.System SYS_GETENVID no_args) (λ own. stages.piped (pipe.TestRuns done own))

  pub runs_holds : (done id : ℕ) → IsThere (pipe.TestRuns done id) →
      ServiceHolds s n (staged call (ask.Load (stages.runs_place id)) (λ word. stages.piped (pipe.TestOwn done id word)))
  runs_holds done id stands =
      turn_load_holds s n call live (step.Piped (pipe.TestRuns done id)) stands (moving_steady call moves (pipe.TestRuns done id) refl) (runs_at id)
      (λ word. stages.piped (pipe.TestOwn done id word)) (falls.runs_falls done id)
      (λ names a h turn. (
        record { word = (slot_at s n).runs; is = test.runs_gives h n call moves done id stands turn.words },
        λ order. (refl, (names, test.runs_on h n call moves done id stands order)),
      ))

  -- behind a try in vain
  pub again_holds : (done id runs : ℕ) → IsThere (pipe.TestAgain done id runs) →
      ServiceHolds s n (staged call (ask.Load (stages.runs_place id)) (λ word. stages.piped (pipe.TestOwn done id word)))
  again_holds done id runs stands =
      known_load_holds s n call live (step.Piped (pipe.TestAgain done id runs)) stands (moving_steady call moves (pipe.TestAgain done id runs) refl)
      (runs_at id) (λ word. stages.piped (pipe.TestOwn done id word))
      (λ word known a h turn. inr (falls.test_tried_asks h.1 n call moves done id runs word stands))
      (λ names a h turn. (
        record { word = (slot_at s n).runs; is = test.tried_gives h n call moves done id runs stands turn.words },
        λ order. (refl, (names, test.tried_on h n call moves done id runs stands order)),
      ))

  pub descriptor_count_holds : (done id runs entry : ℕ) → IsThere (pipe.TestDescriptorCount done id runs entry) →
      ServiceHolds s n (staged call (ask.Load (stages.count_place entry)) (λ word. stages.piped (pipe.TestPipe done id runs word)))
  descriptor_count_holds done id runs entry stands =
      turn_load_holds s n call live (step.Piped (pipe.TestDescriptorCount done id runs entry)) stands
      (moving_steady call moves (pipe.TestDescriptorCount done id runs entry) refl) (count_at entry)
      (λ word. stages.piped (pipe.TestPipe done id runs word)) (falls.descriptor_count_falls done id runs entry)
      (λ names a h turn. (
        record {
          word = reference_count s.spaces (entry / PGSIZE);
          is = test.descriptor_count_gives h n call moves done id runs entry stands turn.words;
        },
        λ order. (refl, (names, test.descriptor_count_on h n call moves done id runs entry stands order)),
      ))

  pub pipe_count_holds : (done id runs count entry : ℕ) → IsThere (pipe.TestPipeCount done id runs count entry) →
      ServiceHolds s n (staged call (ask.Load (stages.count_place entry))
      (λ word. stages.piped (pipe.TestRunsAgain done id runs (if stages.is_closed count word then 1 else 0))))
  pipe_count_holds done id runs count entry stands =
      turn_load_holds s n call live (step.Piped (pipe.TestPipeCount done id runs count entry)) stands
      (moving_steady call moves (pipe.TestPipeCount done id runs count entry) refl) (count_at entry)
      (λ word. stages.piped (pipe.TestRunsAgain done id runs (if stages.is_closed count word then 1 else 0)))
      (λ word. falls.pipe_count_falls done id runs count entry (if stages.is_closed count word then 1 else 0))
      (λ names a h turn. (
        record {
          word = reference_count s.spaces (entry / PGSIZE);
          is = test.pipe_count_gives h n call moves done id runs count entry stands turn.words;
        },
        λ order. (refl, (names, test.pipe_count_on h n call moves done id runs count entry stands order)),
      ))

  -- whether it has got another turn
  module _ (done id runs closed : ℕ) (stands : place_of (slot_at s n) ≡ place.InService call (step.Piped (pipe.TestRunsAgain done id runs closed))) where
    abbrev pub by_tests : Bool → Bool → Next
    by_tests same waits =
        if not same then stages.piped (pipe.TestRuns done id)
        else if waits then next.Wait (step.Piped (pipe.TestPausing done))
        else next.Show (step.Returning done)

    abbrev here : Step
    here = step.Piped (pipe.TestRunsAgain done id runs closed)

    now_known : (word : ℕ) →
        ((names : Names) (a : AbstractState) → StandsFor names s a → HasTurn s n → load s n (runs_at id) ≡ read_at s n (runs_at id) word) →
        (a : AbstractState) → Stands s a → HasTurn s n → word ≡ (slot_at s n).runs
    now_known word known a h turn =
        let it = test.again_gives h.1 n call moves done id runs closed stands turn.words in
        ap (λ (z : CallStep ℕ). word_in z.gives) (sym (known h.0 a h.1 turn) ∙ it)
      where
        word_in : Got ℕ → ℕ
        word_in (got x) = x
        word_in _ = 0

    again_lowers : (word : ℕ) →
        ((names : Names) (a : AbstractState) → StandsFor names s a → HasTurn s n → load s n (runs_at id) ≡ read_at s n (runs_at id) word) →
        (same : Bool) → (word == runs) ≡ same → (waits : Bool) → FallsOrAsks s n call here (by_tests same waits)
    again_lowers word known false other waits = λ a h turn.
        let is = now_known word known a h turn in
        let differs : (slot_at s n).runs ≢ runs = grind (arith, nat_tests, other, is) in
        inr (falls.again_asks done id runs call (slot_at s n).runs closed differs)
    again_lowers word known true told true = test_pauses call moves done
    again_lowers word known true told false = tt

    again_follows : (names : Names) (a : AbstractState) → StandsFor names s a → HasTurn s n → IsInOrder (loaded s n (runs_at id)) →
        (same : Bool) → ((slot_at s n).runs == runs) ≡ same → (waits : Bool) → (closed == 0) ≡ waits →
        Follows (loaded s n (runs_at id)) n call a (by_tests same waits)
    again_follows names a h turn order false other waits is = (refl, (names, test.again_on h n call moves done id runs closed stands order))
    again_follows names a h turn order true same true is =
        let it = test.again_waits h n call moves done id runs closed stands order turn.running (grind (arith, nat_tests, same))
        (grind (arith, nat_tests, is)) in
        ((refl, (names, it.0)), it.1)
    again_follows names a h turn order true same false is =
        test.again_ends h n call moves done id runs closed stands order turn.running (grind (arith, nat_tests, same)) (grind (arith, nat_tests, is))

    pub runs_again_holds : ServiceHolds s n (staged call (ask.Load (stages.runs_place id)) (stages.next_of_runs done id runs closed))
    runs_again_holds =
        known_load_holds s n call live here stands (moving_steady call moves (pipe.TestRunsAgain done id runs closed) refl) (runs_at id)
        (stages.next_of_runs done id runs closed) (λ word known. again_lowers word known (word == runs) refl (closed == 0))
        (λ names a h turn. (
          record { word = (slot_at s n).runs; is = test.again_gives h n call moves done id runs closed stands turn.words },
          λ order. again_follows names a h turn order ((slot_at s n).runs == runs) refl (closed == 0) refl,
        ))

  -- how many bytes its own end has moved, and how many the other
  pub test_own_holds : (done id runs : ℕ) → IsThere (pipe.TestOwn done id runs) →
      ServiceHolds s n (staged call (ask.Load (pipe_va fd + own_at call)) (λ word. stages.piped (pipe.TestOther done id runs word)))
  test_own_holds done id runs stands =
      load_holds s n call live (step.Piped (pipe.TestOwn done id runs)) stands (moving_steady call moves (pipe.TestOwn done id runs) refl)
      (pipe_at fd (own_at call)) (λ word. stages.piped (pipe.TestOther done id runs word)) (falls.test_own_falls done id runs)
      (λ names a h. (
        record { word = test.own_word h n call moves done id runs stands; is = test.own_gives h n call moves done id runs stands },
        λ turn order. (refl, (names, test.own_on h n call moves done id runs stands order)),
      ))

  module _ (done id runs own : ℕ) (stands : place_of (slot_at s n) ≡ place.InService call (step.Piped (pipe.TestOther done id runs own))) where
    abbrev pub by_still : Bool → Next
    by_still still = if still then stages.piped (pipe.TestDescriptor done id runs) else stages.piped (pipe.Locking done id runs)

    still_lowers : (still : Bool) → FallsOrAsks s n call (step.Piped (pipe.TestOther done id runs own)) (by_still still)
    still_lowers true = λ a h turn. inl (falls.still_falls done id runs own)
    still_lowers false = λ a h turn. inl (falls.test_again_falls h.1 n call moves done id runs own stands)

    still_follows : (names : Names) (a : AbstractState) (h : StandsFor names s a) → IsInOrder (loaded s n (pipe_at fd (other_at call))) →
        (still : Bool) → is_still_by call own (test.other_word h n call moves done id runs own stands) ≡ still →
        Follows (loaded s n (pipe_at fd (other_at call))) n call a (by_still still)
    still_follows names a h order true told = (refl, (names, test.other_still h n call moves done id runs own stands order told))
    still_follows names a h order false told = (refl, (names, test.other_again h n call moves done id runs own stands order told))

    pub test_other_holds :
        ServiceHolds s n (staged call (ask.Load (pipe_va fd + other_at call)) (λ word. by_still (is_still_by call own word)))
    test_other_holds =
        known_load_holds s n call live (step.Piped (pipe.TestOther done id runs own)) stands (moving_steady call moves (pipe.TestOther done id runs own) refl)
        (pipe_at fd (other_at call)) (λ word. by_still (is_still_by call own word)) (λ word known. still_lowers (is_still_by call own word))
        (λ names a h turn. (
          record { word = test.other_word h n call moves done id runs own stands; is = test.other_gives h n call moves done id runs own stands },
          λ order. still_follows names a h order (is_still_by call own (test.other_word h n call moves done id runs own stands)) refl,
        ))

  pub test_descriptor_holds : (done id runs : ℕ) → IsThere (pipe.TestDescriptor done id runs) →
      ServiceHolds s n (staged call (entry_asked fd) (λ word. stages.piped (pipe.TestDescriptorCount done id runs word)))
  test_descriptor_holds done id runs stands =
      load_holds s n call live (step.Piped (pipe.TestDescriptor done id runs)) stands (moving_steady call moves (pipe.TestDescriptor done id runs) refl)
      (end_entry_at fd) (λ word. stages.piped (pipe.TestDescriptorCount done id runs word)) (falls.descriptor_falls done id runs)
      (λ names a h. (
        record { word = test.descriptor_word h n call moves done id runs stands; is = test.descriptor_gives h n call moves done id runs stands },
        λ turn order. (refl, (names, test.descriptor_on h n call moves done id runs stands order)),
      ))

  pub test_pipe_holds : (done id runs count : ℕ) → IsThere (pipe.TestPipe done id runs count) →
      ServiceHolds s n (staged call (pipe_entry_asked fd) (λ word. stages.piped (pipe.TestPipeCount done id runs count word)))
  test_pipe_holds done id runs count stands =
      load_holds s n call live (step.Piped (pipe.TestPipe done id runs count)) stands (moving_steady call moves (pipe.TestPipe done id runs count) refl)
      (pipe_entry_at fd) (λ word. stages.piped (pipe.TestPipeCount done id runs count word)) (falls.pipe_falls done id runs count)
      (λ names a h. (
        record { word = test.pipe_word h n call moves done id runs count stands; is = test.pipe_gives h n call moves done id runs count stands },
        λ turn order. (refl, (names, test.pipe_on h n call moves done id runs count stands order)),
      ))

-- ---- read alone

-- the byte that it keeps lands in its own page
module _ {names : Names} {s : KernelState} {a : AbstractState} (h : StandsFor names s a) (n fd va len done from byte : ℕ)
    (stands : place_of (slot_at s n) ≡ place.InService (service.Read fd va len) (step.Piped (pipe.KeepingHeld done from byte))) where
  abbrev kept_at : IsServed names s a n (service.Read fd va len) (step.Piped (pipe.KeepingHeld done from byte))
  kept_at = served h n (service.Read fd va len) (step.Piped (pipe.KeepingHeld done from byte)) stands

  abbrev kept_by : IsReadingPipe (view_of s.spaces (slot_at s n).directory) (slot_at s n) kept_at.b fd va len done
  kept_by = kept_at.at.0.0

  abbrev own_row : Entry
  own_row = kept_by.kept.entry

  own_writable : IsOwnWritable (rows_of s.spaces (slot_at s n).directory) working_page
  own_writable = (born_at h n kept_at.b kept_at.is).library.working (ap (λ (p : Place). has_working p (slot_at s n).extra) kept_at.place)

  own_writes : has_write own_row.perm ≡ true
  own_writes =
      ap (λ (e : Entry). has_write e.perm) (same_Some own_row own_writable.entry (sym kept_by.kept.stands ∙ own_writable.stands)) ∙ own_writable.writes

  own_user : is_page_perm own_row.perm ≡ true
  own_user =
      (h.users n working_page own_row
      (logical_plain s.spaces s.environments.slots n (clients_live h n kept_at.b kept_at.is) (ap is_plain kept_at.place) working_page
      ∙ kept_by.kept.stands)).page

  own_byte_puts : PutsBytes s n own_row (done % PGSIZE) (byte % 256 ∷ []) (store_byte s n (own_va done) (byte % 256))
  own_byte_puts =
      let place_is : working_page * PGSIZE + done % PGSIZE ≡ own_va done = omega arith in
      subst (λ (q : ℕ). PutsBytes s n own_row (done % PGSIZE) (byte % 256 ∷ []) (store_byte s n q (byte % 256))) place_is
      (store_byte_puts s n working_page working_below own_row kept_by.kept.stands own_user own_writes (done % PGSIZE) (omega arith) (byte % 256))

module _ (s : KernelState) (n fd va len : ℕ) (live : is_live (slot_at s n) ≡ true) where
  abbrev pub reading : Service
  reading = service.Read fd va len

  abbrev pub ReadAt : PipeStep → Type 0
  ReadAt at = place_of (slot_at s n) ≡ place.InService reading (step.Piped at)

  module _ (stands : ReadAt pipe.EndMode) where
    abbrev pub read_mode_by : Bool → Bool → Next
    read_mode_by refused none =
        if refused then next.Answer (negated E_INVAL) else if none then next.Answer 0 else stages.piped pipe.TakingBytes

    read_mode_falls : (refused none : Bool) → Falls reading (step.Piped pipe.EndMode) (read_mode_by refused none)
    read_mode_falls true none = tt
    read_mode_falls false true = tt
    read_mode_falls false false = falls.mode_falls

    read_mode_follows : (names : Names) (a : AbstractState) → StandsFor names s a → IsInOrder (loaded s n (mode_va fd)) → (refused : Bool) →
        (mode_word s n fd == 1) || not (is_buffer va (wanted_of len)) ≡ refused → (none : Bool) → (wanted_of len == 0) ≡ none →
        Follows (loaded s n (mode_va fd)) n reading a (read_mode_by refused none)
    read_mode_follows names a h order true test none is = read_end_refuses s n fd va len stands h order test
    read_mode_follows names a h order false test true is = read_end_none s n fd va len stands h order test (grind (arith, nat_tests, is))
    read_mode_follows names a h order false test false is =
        (refl, (names, read_end_takes s n fd va len stands h order test (grind (arith, nat_tests, is))))

    pub read_mode_holds : ServiceHolds s n (staged reading (stages.ask_of (of.Read len) fd stage.EndMode) (stages.next_of (of.Read len) va stage.EndMode))
    read_mode_holds =
        load_holds s n reading live (step.Piped pipe.EndMode) stands refl (mode_va fd) (stages.next_of_mode (of.Read len) va)
        (λ word. read_mode_falls ((word == 1) || not (is_buffer va (wanted_of len))) (wanted_of len == 0))
        (λ names a h. (
          record { word = mode_word s n fd; is = read_mode_gives s n fd va len stands h },
          λ turn order. read_mode_follows names a h order ((mode_word s n fd == 1) || not (is_buffer va (wanted_of len))) refl (wanted_of len == 0) refl,
        ))

  module _ (stands : ReadAt pipe.TakingBytes) where
    abbrev pub read_taking : Plan
    read_taking = staged reading (stages.ask_of (of.Read len) fd stage.TakingBytes) (stages.next_of (of.Read len) va stage.TakingBytes)

    read_taking_falls : (word : ℕ) → (none : Bool) → Falls reading (step.Piped pipe.TakingBytes)
        (if not none then next.Answer word else stages.piped (pipe.Locking 0 0 0))
    read_taking_falls word true = falls.read_taking_falls
    read_taking_falls word false = tt

    pub read_taking_holds : ServiceHolds s n (staged reading (stages.ask_of (of.Read len) fd stage.TakingBytes) (stages.next_of (of.Read len) va stage.TakingBytes))
    read_taking_holds =
        law_of_call s n read_taking reading (step.Piped pipe.TakingBytes) (record {
          stands = stands;
          live = live;
          numbered = refl;
          plain = plainly refl;
          goes_on = refl;
          falls = λ called. read_taking_falls (answer_of called) (answer_of called == 0);
          few = omega arith;
        }) SYS_PAGE_ALLOC (0 ∷ UTEMP ∷ working_perm ∷ 0 ∷ 0 ∷ []) refl refl (take_lives s n live)
        (take_holds s n live (λ (z : CallStep Called). IsInOrder z.state → KeepsBy s n read_taking z)
        (λ made order. read_taking_keeps s n fd va len stands made order) (λ order. path_untaken_keeps s n _))

  pub read_from_holds : (done id runs : ℕ) → ReadAt (pipe.ReadFrom done id runs) →
      ServiceHolds s n (staged reading (stages.from_asked fd) (λ word. stages.piped (pipe.ReadTo done id runs word)))
  read_from_holds done id runs stands =
      load_holds s n reading live (step.Piped (pipe.ReadFrom done id runs)) stands refl (read_va fd) (λ word. stages.piped (pipe.ReadTo done id runs word))
      (falls.from_falls done id runs)
      (λ names a h. (
        record { word = read_of (pipe_held s n fd); is = reads_from_gives s n fd va len done id runs stands h },
        λ turn order. (refl, (names, reads_from s n fd va len done id runs stands h order)),
      ))

  module _ (done id runs from : ℕ) (stands : place_of (slot_at s n) ≡ place.InService (service.Read fd va len) (step.Piped (pipe.ReadTo done id runs from))) where
    abbrev pub read_to_by : Bool → Bool → Next
    read_to_by empty none =
        if empty then (if none then stages.piped (pipe.UnlockingTest done id runs) else next.Show (step.Piped (pipe.UnlockingEnd done)))
        else stages.piped (pipe.LoadingHeld done from)

    read_to_falls : (empty none : Bool) → Falls reading (step.Piped (pipe.ReadTo done id runs from)) (read_to_by empty none)
    read_to_falls true true = falls.stuck_falls done id runs from
    read_to_falls true false = tt
    read_to_falls false none = falls.held_falls done id runs from

    abbrev pub put_so_far : ℕ
    put_so_far = written_of (pipe_held s n fd)

    read_to_follows : (names : Names) (a : AbstractState) → StandsFor names s a → HasTurn s n → IsInOrder (loaded s n (written_va fd)) →
        (empty : Bool) → (put_so_far == from) ≡ empty → (none : Bool) → (done == 0) ≡ none →
        Follows (loaded s n (written_va fd)) n reading a (read_to_by empty none)
    read_to_follows names a h turn order true test true is =
        (refl, (names, read_stuck s n fd va len done id runs from stands h order test (grind (arith, nat_tests, is)) turn.running))
    read_to_follows names a h turn order true test false is =
        read_ends s n fd va len done id runs from stands h order test (grind (arith, nat_tests, is))
    read_to_follows names a h turn order false test none is = (refl, (names, read_finds s n fd va len done id runs from stands h order test))

    pub read_to_holds : ServiceHolds s n (staged reading (stages.to_asked fd) (stages.next_of_positions (of.Read len) done id runs from))
    read_to_holds =
        load_holds s n reading live (step.Piped (pipe.ReadTo done id runs from)) stands refl (written_va fd)
        (stages.next_of_positions (of.Read len) done id runs from) (λ word. read_to_falls (word == from) (done == 0))
        (λ names a h. (
          record { word = put_so_far; is = reads_to_gives s n fd va len done id runs from stands h },
          λ turn order. read_to_follows names a h turn order (put_so_far == from) refl (done == 0) refl,
        ))

  pub loading_held_holds : (done from : ℕ) → ReadAt (pipe.LoadingHeld done from) →
      ServiceHolds s n (staged reading (ask.LoadByte (stages.byte_place fd from)) (λ word. stages.piped (pipe.KeepingHeld done from word)))
  loading_held_holds done from stands =
      byte_holds s n reading live (step.Piped (pipe.LoadingHeld done from)) stands refl (byte_va fd from) (pipe_byte (pipe_held s n fd) from)
      (λ word. stages.piped (pipe.KeepingHeld done from word)) (falls.loading_held_falls done from)
      (λ names a h. reads_byte_gives s n fd va len done from stands h)
      (λ names a h order. (refl, (names, reads_byte s n fd va len done from stands h order)))

  -- the byte is put into its own page
  module _ (done from byte : ℕ) (stands : place_of (slot_at s n) ≡ place.InService (service.Read fd va len) (step.Piped (pipe.KeepingHeld done from byte))) where
    keeping_comes : (names : Names) (a : AbstractState) → StandsFor names s a →
        (sp : SpacesState) × (store_byte s n (own_va done) (byte % 256) ≡ giving (with_spaces s sp) tt)
    keeping_comes names a h =
        let it = own_byte_puts h n fd va len done from byte stands in (it.spaces, it.step_is)

    pub keeping_held_holds : ServiceHolds s n (staged reading (ask.StoreByte (stages.own_place done) (byte % 256)) (λ word. stages.piped (pipe.TakingHeld done from)))
    unfolding performed
    keeping_held_holds =
        put_holds s n reading live (step.Piped (pipe.KeepingHeld done from byte)) stands refl (ask.StoreByte (own_va done) (byte % 256))
        (store_byte s n (own_va done) (byte % 256)) refl
        (store_byte_aside s n (own_va done) (byte % 256)
        (λ a h. let number : page_number (own_va done) ≡ page_number UTEMP = omega arith in ap is_of_descriptor number)) refl (λ g may. may)
        (store_byte_slots s n (own_va done) (byte % 256)) keeping_comes (stages.piped (pipe.TakingHeld done from)) (falls.keeping_held_falls done from byte)
        (λ order a h turn quiet.
        let it = keeps_held h.1 n fd va len done from byte stands turn.last in
        let state : (store_byte s n (own_va done) (byte % 256)).state ≡ with_spaces s it.spaces = ap (λ (c : CallStep (Unit {0})). c.state) it.step_is in (
          refl,
          (
            h.0,
            subst
                (λ (t : KernelState). StandsFor h.0 (with_extra t n (words_at (number_of reading) (step.Piped (pipe.TakingHeld done from)))) a)
                (sym state) (it.stands (subst (λ (t : KernelState). IsInOrder t) state order)),
          ),
        ))

  pub taking_held_holds : (done from : ℕ) → ReadAt (pipe.TakingHeld done from) →
      ServiceHolds s n (staged reading (ask.Store (pipe_va fd + PIPE_READ) ((from + 1) % 2 ^ 32))
      (λ word. next.Show (step.Piped (pipe.UnlockingMoved ((done + 1) % 2 ^ 32)))))
  taking_held_holds done from stands =
      word_shown s n reading refl live (pipe.TakingHeld done from) stands refl
      (pipe_there s n reading refl live (pipe.TakingHeld done from) done stands refl (λ b so. so.0.0)) PIPE_READ ((from + 1) % 2 ^ 32) (omega arith)
      (step.Piped (pipe.UnlockingMoved ((done + 1) % 2 ^ 32))) (λ names a h last. held_taken h n fd va len last done from stands)

  module _ (done : ℕ) where
    pub read_moved_holds : ReadAt (pipe.UnlockingMoved done) →
        ServiceHolds s n (staged reading (stages.unlock_asked fd) (λ word. stages.next_of_moved (of.Read len) done))
    read_moved_holds stands = by_test (nat_lt done (wanted_of len)) refl
      where
        by_test : (more : Bool) → nat_lt done (wanted_of len) ≡ more → ServiceHolds s n (staged reading (stages.unlock_asked fd)
            (λ word. if more then stages.piped (pipe.Locking done 0 0) else next.Show (step.FileRegion 0 done)))
        by_test true test = moved_on_holds s n reading refl live done stands (grind (arith, nat_tests, test))
        by_test false test =
            word_shown s n reading refl live (pipe.UnlockingMoved done) stands refl
            (pipe_there s n reading refl live (pipe.UnlockingMoved done) done stands refl (λ b so. so.0)) PIPE_LOCK 0 (omega arith)
            (step.FileRegion 0 done) (λ names a h last. read_ended h n fd va len last done stands (grind (arith, nat_tests, test)))

    pub unlocking_end_holds : ReadAt (pipe.UnlockingEnd done) →
        ServiceHolds s n (staged reading (stages.unlock_asked fd) (λ word. next.GoOn (step.FileRegion 0 done)))
    unlocking_end_holds stands =
        word_hidden s n reading refl live (pipe.UnlockingEnd done) stands refl
        (λ names a h.
        let it = served h n reading (step.Piped (pipe.UnlockingEnd done)) stands in
        record { below = it.at.1; page = it.at.2.page; lies = it.at.2.lies }) PIPE_LOCK 0 (omega arith)
        (step.FileRegion 0 done) (falls.ended_falls done) (λ names a h last. end_unlocked h n fd va len done last stands)

-- ---- write alone

module _ (s : KernelState) (n fd va len : ℕ) (live : is_live (slot_at s n) ≡ true) where
  abbrev pub writing : Service
  writing = service.Write fd va len

  abbrev pub WriteAt : PipeStep → Type 0
  WriteAt at = place_of (slot_at s n) ≡ place.InService writing (step.Piped at)

  module _ (stands : WriteAt pipe.EndMode) where
    write_mode_falls : (refused none : Bool) → Falls writing (step.Piped pipe.EndMode)
        (if refused then next.Answer (negated E_INVAL) else if none then next.Answer 0 else stages.piped pipe.TakingBytes)
    write_mode_falls true none = tt
    write_mode_falls false true = tt
    write_mode_falls false false = falls.mode_falls

    write_mode_follows : (names : Names) (a : AbstractState) → StandsFor names s a → IsInOrder (loaded s n (mode_va fd)) → (refused : Bool) →
        (mode_word s n fd == 0) || not (is_buffer va (wanted_of len)) ≡ refused → (none : Bool) → (wanted_of len == 0) ≡ none →
        Follows (loaded s n (mode_va fd)) n writing a
        (if refused then next.Answer (negated E_INVAL) else if none then next.Answer 0 else stages.piped pipe.TakingBytes)
    write_mode_follows names a h order true test none is = write_end_refuses s n fd va len stands h order test
    write_mode_follows names a h order false test true is = write_end_none s n fd va len stands h order test (grind (arith, nat_tests, is))
    write_mode_follows names a h order false test false is =
        (refl, (names, write_end_takes s n fd va len stands h order test (grind (arith, nat_tests, is))))

    pub write_mode_holds : ServiceHolds s n (staged writing (stages.ask_of (of.Write len) fd stage.EndMode) (stages.next_of (of.Write len) va stage.EndMode))
    write_mode_holds =
        load_holds s n writing live (step.Piped pipe.EndMode) stands refl (mode_va fd) (stages.next_of_mode (of.Write len) va)
        (λ word. write_mode_falls ((word == 0) || not (is_buffer va (wanted_of len))) (wanted_of len == 0))
        (λ names a h. (
          record { word = mode_word s n fd; is = write_mode_gives s n fd va len stands h },
          λ turn order. write_mode_follows names a h order ((mode_word s n fd == 0) || not (is_buffer va (wanted_of len))) refl (wanted_of len == 0) refl,
        ))

  module _ (stands : WriteAt pipe.TakingBytes) where
    abbrev pub write_taking : Plan
    write_taking = staged writing (stages.ask_of (of.Write len) fd stage.TakingBytes) (stages.next_of (of.Write len) va stage.TakingBytes)

    write_taking_falls : (word : ℕ) → (none : Bool) → Falls writing (step.Piped pipe.TakingBytes)
        (if not none then next.Answer word else next.GoOn (step.BufferRegion 0 PGSIZE))
    write_taking_falls word true = falls.write_taking_falls
    write_taking_falls word false = tt

    pub write_taking_holds : ServiceHolds s n (staged writing (stages.ask_of (of.Write len) fd stage.TakingBytes) (stages.next_of (of.Write len) va stage.TakingBytes))
    write_taking_holds =
        law_of_call s n write_taking writing (step.Piped pipe.TakingBytes) (record {
          stands = stands;
          live = live;
          numbered = refl;
          plain = plainly refl;
          goes_on = refl;
          falls = λ called. write_taking_falls (answer_of called) (answer_of called == 0);
          few = omega arith;
        }) SYS_PAGE_ALLOC (0 ∷ UTEMP ∷ working_perm ∷ 0 ∷ 0 ∷ []) refl refl (take_lives s n live)
        (take_holds s n live (λ (z : CallStep Called). IsInOrder z.state → KeepsBy s n write_taking z)
        (λ made order. write_taking_keeps s n fd va len stands made order) (λ order. path_untaken_keeps s n _))

  pub write_from_holds : (done id runs : ℕ) → WriteAt (pipe.ReadFrom done id runs) →
      ServiceHolds s n (staged writing (stages.from_asked fd) (λ word. stages.piped (pipe.ReadTo done id runs word)))
  write_from_holds done id runs stands =
      load_holds s n writing live (step.Piped (pipe.ReadFrom done id runs)) stands refl (read_va fd) (λ word. stages.piped (pipe.ReadTo done id runs word))
      (falls.from_falls done id runs)
      (λ names a h. (
        record { word = read_of (pipe_held s n fd); is = writes_from_gives s n fd va len done id runs stands h },
        λ turn order. (refl, (names, writes_from s n fd va len done id runs stands h order)),
      ))

  module _ (done id runs from : ℕ) (stands : place_of (slot_at s n) ≡ place.InService (service.Write fd va len) (step.Piped (pipe.ReadTo done id runs from))) where
    abbrev pub write_to_by : Bool → ℕ → Next
    write_to_by full word = if full then stages.piped (pipe.UnlockingTest done id runs) else stages.piped (pipe.LoadingOwn done word)

    write_to_falls : (full : Bool) (word : ℕ) → Falls writing (step.Piped (pipe.ReadTo done id runs from)) (write_to_by full word)
    write_to_falls true word = falls.stuck_falls done id runs from
    write_to_falls false word = falls.room_falls done id runs from word

    abbrev pub put_before : ℕ
    put_before = written_of (pipe_held s n fd)

    write_to_follows : (names : Names) (a : AbstractState) → StandsFor names s a → HasTurn s n → IsInOrder (loaded s n (written_va fd)) →
        (full : Bool) → stages.is_stuck (of.Write len) from put_before ≡ full → Follows (loaded s n (written_va fd)) n writing a (write_to_by full put_before)
    write_to_follows names a h turn order true test =
        (refl, (names, write_stuck s n fd va len done id runs from stands h order test turn.running))
    write_to_follows names a h turn order false test = (refl, (names, write_finds s n fd va len done id runs from stands h order test))

    pub write_to_holds : ServiceHolds s n (staged writing (stages.to_asked fd) (stages.next_of_positions (of.Write len) done id runs from))
    write_to_holds =
        load_holds s n writing live (step.Piped (pipe.ReadTo done id runs from)) stands refl (written_va fd)
        (stages.next_of_positions (of.Write len) done id runs from) (λ word. write_to_falls (stages.is_stuck (of.Write len) from word) word)
        (λ names a h. (
          record { word = put_before; is = writes_to_gives s n fd va len done id runs from stands h },
          λ turn order. write_to_follows names a h turn order (stages.is_stuck (of.Write len) from put_before) refl,
        ))

  pub loading_own_holds : (done to : ℕ) → WriteAt (pipe.LoadingOwn done to) →
      ServiceHolds s n (staged writing (ask.LoadByte (stages.own_place done)) (λ word. stages.piped (pipe.PuttingOwn done to word)))
  loading_own_holds done to stands =
      byte_holds s n writing live (step.Piped (pipe.LoadingOwn done to)) stands refl (own_va done) (slice_index (own_held s n) (done % PGSIZE))
      (λ word. stages.piped (pipe.PuttingOwn done to word)) (falls.loading_own_falls done to)
      (λ names a h. writes_byte_gives s n fd va len done to stands h)
      (λ names a h order. (refl, (names, writes_byte s n fd va len done to stands h order)))

  pub putting_own_holds : (done to byte : ℕ) → WriteAt (pipe.PuttingOwn done to byte) →
      ServiceHolds s n (staged writing (ask.StoreByte (stages.byte_place fd to) (byte % 256)) (λ word. stages.piped (pipe.Putting done to)))
  putting_own_holds done to byte stands =
      subst (λ (q : ℕ). ServiceHolds s n (staged writing (ask.StoreByte q (byte % 256)) (λ word. stages.piped (pipe.Putting done to)))) place_is
      (byte_hidden s n writing refl live (pipe.PuttingOwn done to byte) stands refl
      (pipe_there s n writing refl live (pipe.PuttingOwn done to byte) done stands refl (λ b so. so.0.0)) (PIPE_BYTES + to % PIPEBUFSIZ) (byte % 256)
      (omega arith) (step.Piped (pipe.Putting done to)) (falls.putting_own_falls done to byte)
      (λ names a h last. subst (λ (q : ℕ). IsWritten names s n writing (store_byte s n q (byte % 256)) (step.Piped (pipe.Putting done to)) a)
      own_place_is (own_put h n fd va len done to byte last stands)))
    where
      place_is : pipe_va fd + (PIPE_BYTES + to % PIPEBUFSIZ) ≡ stages.byte_place fd to
      place_is = omega arith

      own_place_is : pipe_address fd + PIPE_BYTES + to % PIPEBUFSIZ ≡ pipe_address fd + (PIPE_BYTES + to % PIPEBUFSIZ)
      own_place_is = omega arith

  pub putting_holds : (done to : ℕ) → WriteAt (pipe.Putting done to) →
      ServiceHolds s n (staged writing (ask.Store (pipe_va fd + PIPE_WRITE) ((to + 1) % 2 ^ 32))
      (λ word. next.Show (step.Piped (pipe.UnlockingMoved ((done + 1) % 2 ^ 32)))))
  putting_holds done to stands =
      word_shown s n writing refl live (pipe.Putting done to) stands refl
      (pipe_there s n writing refl live (pipe.Putting done to) done stands refl (λ b so. so.0.0)) PIPE_WRITE ((to + 1) % 2 ^ 32) (omega arith)
      (step.Piped (pipe.UnlockingMoved ((done + 1) % 2 ^ 32))) (λ names a h last. own_counted h n fd va len last done to stands)

  pub write_moved_holds : (done : ℕ) → WriteAt (pipe.UnlockingMoved done) →
      ServiceHolds s n (staged writing (stages.unlock_asked fd) (λ word. stages.next_of_moved (of.Write len) done))
  write_moved_holds done stands = by_test (nat_lt done (wanted_of len)) refl
    where
      by_test : (more : Bool) → nat_lt done (wanted_of len) ≡ more → ServiceHolds s n (staged writing (stages.unlock_asked fd)
          (λ word. if more then stages.piped (pipe.Locking done 0 0) else next.Show (step.Returning done)))
      by_test true test = moved_on_holds s n writing refl live done stands (grind (arith, nat_tests, test))
      by_test false test =
          word_shown s n writing refl live (pipe.UnlockingMoved done) stands refl
          (pipe_there s n writing refl live (pipe.UnlockingMoved done) done stands refl (λ b so. so.0)) PIPE_LOCK 0 (omega arith)
          (step.Returning done) (λ names a h last. write_ended h n fd va len last done stands (grind (arith, nat_tests, test)))

-- ---- stat

module _ (s : KernelState) (n fd va : ℕ) (live : is_live (slot_at s n) ≡ true) where
  abbrev pub telling : Service
  telling = service.Stat fd va

  abbrev pub StatAt : PipeStep → Type 0
  StatAt at = place_of (slot_at s n) ≡ place.InService telling (step.Piped at)

  pub stat_locking_holds : StatAt pipe.StatLocking →
      ServiceHolds s n (staged telling (stages.lock_asked fd) (λ word. stages.next_of_lock word pipe.StatFrom pipe.StatPausing))
  stat_locking_holds stands =
      lock_asked s n telling refl live pipe.StatLocking stands refl
      (λ names a h.
      let it = served h n telling (step.Piped pipe.StatLocking) stands in
      record { below = it.at.1.below; page = it.at.1.open_end.page; lies = it.at.1.open_end.lies }) pipe.StatFrom pipe.StatPausing
      falls.stat_locking_falls refl (λ names a h last. stat_exchanged h n fd va last stands)

  -- it has given up its turn, and asks for the lock again
  module _ (stands : place_of (slot_at s n) ≡ place.InService (service.Stat fd va) (step.Piped pipe.StatPausing)) {names : Names} {a : AbstractState}
      (h : StandsFor names s a) where
    abbrev rested : KernelState
    rested = with_status s n Runnable

    still : place_of (slot_at rested n) ≡ place.InService telling (step.Piped pipe.StatPausing)
    still = ap (λ (k : Slot). place_of k) (upd-at s.environments.slots n (record (slot_at s n) { status = Runnable })) ∙ stands

    abbrev there_before : IsServed names s a n telling (step.Piped pipe.StatPausing)
    there_before = served h n telling (step.Piped pipe.StatPausing) stands

    stands_rested : StandsFor names (with_status s n Runnable) a
    stands_rested = status_stands h n there_before.b there_before.is there_before.at.1.is_in.awake

    abbrev there_behind : IsServed names (with_status s n Runnable) a n telling (step.Piped pipe.StatPausing)
    there_behind = served stands_rested n telling (step.Piped pipe.StatPausing) still

    stat_paused : StandsFor names (with_extra (with_status s n Runnable) n (words_at (number_of (service.Stat fd va)) (step.Piped pipe.StatLocking))) a
    stat_paused =
        let k = slot_at rested n in
        let v = there_behind in
        let telling_on = v.at.1 in
        words_stand stands_rested n (number_of telling) v.b v.is v.own v.outside (ap borne_in v.place) (ap is_calm v.place) telling
        (step.Piped pipe.StatLocking) (ap holds_page v.place) refl refl (named_at k telling (step.Piped pipe.StatPausing) v.place) (
          v.at.0,
          record {
            is_in = in_with_words (words_at (number_of telling) (step.Piped pipe.StatLocking)) telling_on.is_in;
            below = telling_on.below;
            open_end = telling_on.open_end;
            inside = telling_on.inside;
          },
        )

  pub stat_pausing_holds : StatAt pipe.StatPausing →
      ServiceHolds s n (staged telling (ask.System SYS_YIELD no_args) (λ word. stages.piped pipe.StatLocking))
  stat_pausing_holds stands =
      law_of_pause s n telling (step.Piped pipe.StatPausing) (step.Piped pipe.StatLocking) (number_of telling) no_args stands live refl refl
      falls.stat_paused_falls (λ a h turn quiet. (refl, (h.0, stat_paused stands h.1)))

  pub stat_from_holds : StatAt pipe.StatFrom → ServiceHolds s n (staged telling (stages.from_asked fd) (λ word. stages.piped (pipe.StatTo word)))
  stat_from_holds stands =
      load_holds s n telling live (step.Piped pipe.StatFrom) stands refl (read_va fd) (λ word. stages.piped (pipe.StatTo word)) falls.stat_from_falls
      (λ names a h. (
        record { word = read_of (pipe_held s n fd); is = stat_from_gives s n fd va stands h },
        λ turn order. (refl, (names, stat_from s n fd va stands h order)),
      ))

  pub stat_to_holds : (from : ℕ) → StatAt (pipe.StatTo from) →
      ServiceHolds s n (staged telling (stages.to_asked fd) (λ word. next.Show (step.Piped (pipe.StatUnlocking (stages.held_of from word)))))
  stat_to_holds from stands =
      load_holds s n telling live (step.Piped (pipe.StatTo from)) stands refl (written_va fd)
      (λ word. next.Show (step.Piped (pipe.StatUnlocking (stages.held_of from word)))) (λ word. tt)
      (λ names a h. (
        record { word = written_of (pipe_held s n fd); is = stat_to_gives s n fd va from stands h },
        λ turn order. stat_shows s n fd va from stands h order,
      ))

  pub stat_unlocking_holds : (held : ℕ) → StatAt (pipe.StatUnlocking held) →
      ServiceHolds s n (staged telling (stages.unlock_asked fd) (λ word. next.GoOn (step.BufferRegion 0 ((held + 1) % 2 ^ 32))))
  stat_unlocking_holds held stands =
      word_hidden s n telling refl live (pipe.StatUnlocking held) stands refl
      (λ names a h.
      let it = served h n telling (step.Piped (pipe.StatUnlocking held)) stands in
      record { below = it.at.2.1; page = it.at.2.2.page; lies = it.at.2.2.lies }) PIPE_LOCK 0 (omega arith)
      (step.BufferRegion 0 ((held + 1) % 2 ^ 32)) (falls.stat_unlocked_falls held ((held + 1) % 2 ^ 32))
      (λ names a h last. stat_unlocked h n fd va held last stands)
