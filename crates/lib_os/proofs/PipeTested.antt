-- The test for a closed pipe, which read and write make where they can move no byte: what each of its loads gives, and how they go on behind it.
-- What is told counts in the turn in which it is read alone. And how they go on behind their turn.
use Rattle.std.proofs.Common.{◌≡◌, ◌≢◌, ◌∙◌, ◌+◌, ◌*◌, ◌/◌, ◌%◌, ◌^◌, ◌<◌, ◌≤◌, ◌==◌, ℕ, zero, suc, Bool, true, false, not, Option, Some}
use Rattle.std.proofs.Common.{List, [], refl, sym, ap, subst, arith, get_or, if◌then◌else◌}
use Rattle.std.specs.Prelude.{slice_index}
use Rattle.std.proofs.lemmas.Option.{same_Some}
use Rattle.jos_base.specs.declared.environment.Status.TheVariants.{Runnable}
use Rattle.jos_base.specs.declared.memory.Access.TheVariants.{Read}
use Rattle.jos_base.specs.declared.numbers.TheConstants.{ENV_SIZE, FDTABLE, NENV, PGSIZE, UENVS, UPAGES, UVPT}
use Rattle.jos_base.specs.Counting.{frame_limit}
use Rattle.jos_base.specs.Environments.{Slot, is_running, record_words}
use Rattle.jos_base.specs.KernelState.{KernelState, slot_at, with_extra, with_status}
use Rattle.jos_base.specs.Reach.{Entry}
use Rattle.jos_base.specs.SpacesState.{reference_count}
use Rattle.jos_base.specs.Windows.{entry_word}
use Rattle.jos_base.specs.Words.{word_at}
use Rattle.lib_os.specs.declared.numbers.TheConstants.{DESCRIPTORS, ENV_RUNS, PIPEBUFSIZ, PIPE_READ, PIPE_WRITE, SHORT_QUANTUM}
use Rattle.lib_os.specs.declared.place.Place.TheVariants as place
use Rattle.lib_os.specs.declared.place.PipeStep.{PipeStep}
use Rattle.lib_os.specs.declared.place.PipeStep.TheVariants as pipe
use Rattle.lib_os.specs.declared.place.Step.TheVariants as step
use Rattle.lib_os.specs.declared.progress.Progress.TheVariants as progress
use Rattle.lib_os.specs.declared.service.Service.{Service}
use Rattle.lib_os.specs.declared.service.Service.TheVariants as service
use Rattle.lib_os.specs.AbstractRun.{may_wait}
use Rattle.lib_os.specs.AbstractState.{AbstractState, Born, born}
use Rattle.lib_os.specs.Answers.{answered}
use Rattle.lib_os.specs.DescriptorPages.{held_of}
use Rattle.lib_os.specs.InOrder.{IsInOrder}
use Rattle.lib_os.specs.LibraryPages.{View, keeps_moved}
use Rattle.lib_os.specs.LibrarySteps.{GoesOn, HasCounts, KeepsStanding}
use Rattle.lib_os.specs.Places.{place_of, words_at}
use Rattle.lib_os.specs.Rows.{IsPage, Names, descriptor_page, pipe_page}
use Rattle.lib_os.specs.StandsAtPipe.{AreCounted, HasEntryWord, HasMoved, OfPipe, StandsOnPipe, Told, TriesAgain, end_given, is_still}
use Rattle.lib_os.specs.StandsAtPipe.{mode_wanted, most_moved, other_position, own_position}
use Rattle.lib_os.specs.StandsFor.{StandsFor, view_of}
use Rattle.lib_os.specs.StandsInHandler.{IsEndOpen}
use Rattle.lib_os.specs.UserCalls.{load}
use Rattle.lib_os.proofs.CountWords.{load_count_word}
use Rattle.lib_os.proofs.EntryWords.{row_entry}
use Rattle.lib_os.proofs.Loading.{loaded}
use Rattle.lib_os.proofs.Numbered.{number_of}
use Rattle.lib_os.proofs.PipeHere as here
use Rattle.lib_os.proofs.PipesStand.{is_calm_step}
use Rattle.lib_os.proofs.Serving.{IsServed, printed_nothing}
use Rattle.lib_os.proofs.SlotsStand.{born_at, born_live, moves_bytes}
use Rattle.lib_os.proofs.StatesStand.{quiet_stands}
use Rattle.lib_os.proofs.Touching.{touched_quiet}
use Rattle.lib_os.proofs.WindowWords.{load_record_word, load_table_word, read_at}
use Rattle.lib_os.proofs.PipeStuck.{IsStuck, is_still_by, still_so, stuck}

-- ---- what is loaded

-- where it is told how often an environment has got a turn, and how often the page of an entry is mapped
abbrev pub runs_at : ℕ → ℕ
runs_at id = UENVS + ENV_SIZE * (id % NENV) + 4 * ENV_RUNS

abbrev pub count_at : ℕ → ℕ
count_at word = UPAGES + 8 * (word / PGSIZE) + 4

-- where the words of the pipe's page of a descriptor stand, and the entries of both pages
abbrev pub pipe_at : ℕ → ℕ → ℕ
pipe_at fd o = FDTABLE + PGSIZE * (DESCRIPTORS + fd % DESCRIPTORS) + o

abbrev pub end_entry_at : ℕ → ℕ
end_entry_at fd = UVPT + 4 * descriptor_page (fd % DESCRIPTORS)

abbrev pub pipe_entry_at : ℕ → ℕ
pipe_entry_at fd = UVPT + 4 * descriptor_page (DESCRIPTORS + fd % DESCRIPTORS)

-- where that page has how many bytes its own end has moved, and how many the other
abbrev pub own_at : Service → ℕ
own_at (service.Write fd va len) = PIPE_WRITE
own_at _ = PIPE_READ

abbrev pub other_at : Service → ℕ
other_at (service.Write fd va len) = PIPE_READ
other_at _ = PIPE_WRITE

own_aligned : (s : Service) → own_at s % 4 ≡ 0
own_aligned (service.Write fd va len) = refl
own_aligned _ = refl

own_inside : (s : Service) → own_at s < 4096
own_inside (service.Write fd va len) = omega arith
own_inside _ = omega arith

own_word_is : (s : Service) (page : List ℕ) → word_at (slice_index page) (own_at s) ≡ own_position s page
own_word_is (service.Write fd va len) page = refl
own_word_is _ page = refl

other_aligned : (s : Service) → other_at s % 4 ≡ 0
other_aligned (service.Write fd va len) = refl
other_aligned _ = refl

other_inside : (s : Service) → other_at s < 4096
other_inside (service.Write fd va len) = omega arith
other_inside _ = omega arith

other_word_is : (s : Service) (page : List ℕ) → word_at (slice_index page) (other_at s) ≡ other_position s page
other_word_is (service.Write fd va len) page = refl
other_word_is _ page = refl

runs_word : (k : Slot) → get_or (record_words k) ENV_RUNS 0 ≡ k.runs
unfolding record_words
runs_word k = refl

module _ {names : Names} {s : KernelState} {a : AbstractState} (h : StandsFor names s a) (n : ℕ) where
  abbrev own_space : ℕ
  own_space = (slot_at s n).directory

  abbrev own_view : View
  own_view = view_of s.spaces own_space

  -- how often it has got a turn
  runs_loaded : (b : Born) → a.slots n ≡ born b → (id : ℕ) → id ≡ (slot_at s n).id → (slot_at s n).runs < 2 ^ 32 →
      load s n (runs_at id) ≡ read_at s n (runs_at id) (slot_at s n).runs
  runs_loaded b at id self small =
      let own : id % NENV ≡ n = ap (λ (x : ℕ). x % NENV) self ∙ h.tabled.ids n (born_live (born_at h n b at)) in
      let slot : n < NENV = omega (arith, own) in
      let there : runs_at id ≡ UENVS + ENV_SIZE * n + 4 * ENV_RUNS = ap (λ (m : ℕ). UENVS + ENV_SIZE * m + 4 * ENV_RUNS) own in
      let at_slot = load_record_word s n n ENV_RUNS slot (omega arith) (subst (λ (w : ℕ). w < 2 ^ 32) (sym (runs_word (slot_at s n))) small) in
      ap (λ (x : ℕ). load s n x) there ∙ at_slot ∙ (λ j. read_at s n (sym there j) (runs_word (slot_at s n) j))

  -- the word of the entry of a page that is there
  entry_loaded : (p : ℕ) (x : Entry) → own_view.row p ≡ Some x →
      load s n (UVPT + 4 * p) ≡ read_at s n (UVPT + 4 * p) (entry_word (s.spaces.entries own_space p))
  entry_loaded p x is =
      let e = row_entry s.spaces own_space p x is in
      load_table_word s n h.in_order.frames p (h.in_order.frames.within own_space p e.0 e.1).1 (h.in_order.frames.regions own_space p e.0 e.1)

  entry_told : (p : ℕ) (x : Entry) → own_view.row p ≡ Some x → HasEntryWord own_view p (entry_word (s.spaces.entries own_space p))
  entry_told p x is =
      let e = row_entry s.spaces own_space p x is in
      let small = (h.in_order.frames.small own_space p e.0 e.1).1 in
      let frame : e.0.frame ≡ (e.0.frame * PGSIZE + e.0.perm) / PGSIZE = omega (arith, small) in
      (x, is, sym (ap (λ (y : Entry). y.frame) e.2) ∙ frame ∙ sym (ap (λ (o : Option Entry). entry_word o / PGSIZE) e.1))

  -- how often the page of an entry's word is mapped
  count_loaded : HasCounts s n → (p word : ℕ) → HasEntryWord own_view p word →
      load s n (count_at word) ≡ read_at s n (count_at word) (reference_count s.spaces (word / PGSIZE))
  unfolding frame_limit
  count_loaded words p word has =
      let e = row_entry s.spaces own_space p has.0 has.1 in
      let frame : e.0.frame ≡ word / PGSIZE = ap (λ (y : Entry). y.frame) e.2 ∙ has.2 in
      let uses = h.in_order.frames.pages own_space p e.0 e.1 in
      let small = (h.in_order.frames.small own_space p e.0 e.1).0 in
      let it : load s n (UPAGES + 8 * e.0.frame + 4) ≡ read_at s n (UPAGES + 8 * e.0.frame + 4) (reference_count s.spaces e.0.frame) =
      load_count_word s n e.0.frame small (words.recorded e.0.frame uses) (words.counts e.0.frame uses) in
      subst (λ (f : ℕ). load s n (UPAGES + 8 * f + 4) ≡ read_at s n (UPAGES + 8 * f + 4) (reference_count s.spaces f)) frame it

-- ---- the steps

-- it has its id, and may try again
tries_so : (v : View) (k : Slot) (s : Service) (id runs : ℕ) → id ≡ k.id → Told k runs (OfPipe v s (λ page. is_still s page ≡ false)) →
    TriesAgain v k s id runs
tries_so v k s zero runs self so = tt
tries_so v k s (suc id) runs self so = (self, so)

-- the counts are the same, or not
test_so : (t : Bool) → t ≡ not ((if t then 1 else 0) == 0)
test_so true = refl
test_so false = refl

module _ {names : Names} {s : KernelState} {a : AbstractState} (h : StandsFor names s a) (n : ℕ) (call : Service)
    (moves : moves_bytes call ≡ true) where
  abbrev pub stands_at : PipeStep → Type 0
  stands_at at = place_of (slot_at s n) ≡ place.InService call (step.Piped at)

  abbrev pub words_of : PipeStep → List ℕ
  words_of to = words_at (number_of call) (step.Piped to)

  -- it goes on behind a load
  abbrev pub GoesTo : ℕ → PipeStep → Type 0
  GoesTo va to = StandsFor names (with_extra (loaded s n va) n (words_of to)) a

  abbrev fd : ℕ
  fd = end_given call

  -- its end, at a step
  module _ (from : PipeStep) (stands : stands_at from) (keeps : keeps_moved from ≡ true) (calm : is_calm_step (step.Piped from) ≡ true) (done : ℕ)
      (has : HasMoved (view_of s.spaces (slot_at s n).directory) (slot_at s n) (here.here h n call moves from stands keeps calm).b call done) where
    abbrev v : IsServed names s a n call (step.Piped from)
    v = here.here h n call moves from stands keeps calm

    abbrev seen : View
    seen = view_of s.spaces (slot_at s n).directory

    below : fd < DESCRIPTORS
    below = here.moved_below seen (slot_at s n) v.b call done has

    abbrev opened : IsEndOpen seen fd (mode_wanted call)
    opened = here.moved_open seen (slot_at s n) v.b call done has

    abbrev page : List ℕ
    page = s.spaces.pages opened.page.frame

    whole : IsPage page
    whole = here.pipe_whole h n call moves from stands keeps calm opened.page below opened.lies

    word_loaded : (o : ℕ) → o % 4 ≡ 0 → o < 4096 → load s n (pipe_at fd o) ≡ read_at s n (pipe_at fd o) (word_at (slice_index page) o)
    word_loaded o aligned inside = here.pipe_word h n call moves from stands keeps calm opened.page below opened.lies o aligned inside

    end_entry_loaded : load s n (end_entry_at fd) ≡ read_at s n (end_entry_at fd) (entry_word (s.spaces.entries (slot_at s n).directory (descriptor_page fd)))
    end_entry_loaded =
        let there : end_entry_at fd ≡ UVPT + 4 * descriptor_page fd = let small = below in omega (arith, small) in
        subst
        (λ (va : ℕ). load s n va ≡ read_at s n va (entry_word (s.spaces.entries (slot_at s n).directory (descriptor_page fd))))
        (sym there) (entry_loaded h n (descriptor_page fd) opened.entry opened.stands)

    pipe_entry_loaded : load s n (pipe_entry_at fd) ≡ read_at s n (pipe_entry_at fd) (entry_word (s.spaces.entries (slot_at s n).directory (pipe_page fd)))
    pipe_entry_loaded =
        let there : pipe_entry_at fd ≡ UVPT + 4 * pipe_page fd = let small = below in omega (arith, small) in
        subst
        (λ (va : ℕ). load s n va ≡ read_at s n va (entry_word (s.spaces.entries (slot_at s n).directory (pipe_page fd))))
        (sym there) (entry_loaded h n (pipe_page fd) opened.page opened.lies)

  -- ---- its id

  pub identifying_on : (done : ℕ) → stands_at (pipe.TestIdentifying done) →
      StandsFor names (with_extra s n (words_of (pipe.TestRuns done (slot_at s n).id))) a
  identifying_on done stands =
      let v = here.here h n call moves (pipe.TestIdentifying done) stands refl refl in
      let at = here.stands_here h n call moves (pipe.TestIdentifying done) stands refl refl in
      let to : PipeStep = pipe.TestRuns done (slot_at s n).id in
      here.calls_on h n call moves (pipe.TestIdentifying done) stands refl refl to refl refl (
        here.testing_with_words (view_of s.spaces (slot_at s n).directory) (slot_at s n) v.b (words_of to) call done at,
        refl,
      )

  -- ---- how often it has got a turn

  module _ (done id : ℕ) (stands : stands_at (pipe.TestRuns done id)) where
    abbrev runs_v : IsServed names s a n call (step.Piped (pipe.TestRuns done id))
    runs_v = here.here h n call moves (pipe.TestRuns done id) stands refl refl

    abbrev runs_here : StandsOnPipe (view_of s.spaces (slot_at s n).directory) (slot_at s n) runs_v.b call (pipe.TestRuns done id)
    runs_here = here.stands_here h n call moves (pipe.TestRuns done id) stands refl refl

    pub runs_gives : HasCounts s n → load s n (runs_at id) ≡ read_at s n (runs_at id) (slot_at s n).runs
    runs_gives words = runs_loaded h n runs_v.b runs_v.is id runs_here.1 words.runs

    pub runs_on : IsInOrder (loaded s n (runs_at id)) → GoesTo (runs_at id) (pipe.TestOwn done id (slot_at s n).runs)
    runs_on order =
        let to : PipeStep = pipe.TestOwn done id (slot_at s n).runs in
        here.loads_on h n call moves (pipe.TestRuns done id) stands refl refl (runs_at id) order to refl refl (
          here.testing_with_words (view_of s.spaces (slot_at s n).directory) (slot_at s n) runs_v.b (words_of to) call done runs_here.0,
          runs_here.1,
          omega arith,
        )

  -- the same behind a try in vain
  module _ (done id runs : ℕ) (stands : stands_at (pipe.TestAgain done id runs)) where
    abbrev tried_v : IsServed names s a n call (step.Piped (pipe.TestAgain done id runs))
    tried_v = here.here h n call moves (pipe.TestAgain done id runs) stands refl refl

    abbrev tried_here : StandsOnPipe (view_of s.spaces (slot_at s n).directory) (slot_at s n) tried_v.b call (pipe.TestAgain done id runs)
    tried_here = here.stands_here h n call moves (pipe.TestAgain done id runs) stands refl refl

    pub tried_gives : HasCounts s n → load s n (runs_at id) ≡ read_at s n (runs_at id) (slot_at s n).runs
    tried_gives words = runs_loaded h n tried_v.b tried_v.is id tried_here.1 words.runs

    pub tried_on : IsInOrder (loaded s n (runs_at id)) → GoesTo (runs_at id) (pipe.TestOwn done id (slot_at s n).runs)
    tried_on order =
        let to : PipeStep = pipe.TestOwn done id (slot_at s n).runs in
        here.loads_on h n call moves (pipe.TestAgain done id runs) stands refl refl (runs_at id) order to refl refl (
          here.testing_with_words (view_of s.spaces (slot_at s n).directory) (slot_at s n) tried_v.b (words_of to) call done tried_here.0,
          tried_here.1,
          omega arith,
        )

  -- ---- how many bytes its own end has moved, and how many the other

  module _ (done id runs : ℕ) (stands : stands_at (pipe.TestOwn done id runs)) where
    abbrev own_v : IsServed names s a n call (step.Piped (pipe.TestOwn done id runs))
    own_v = here.here h n call moves (pipe.TestOwn done id runs) stands refl refl

    abbrev own_here : StandsOnPipe (view_of s.spaces (slot_at s n).directory) (slot_at s n) own_v.b call (pipe.TestOwn done id runs)
    own_here = here.stands_here h n call moves (pipe.TestOwn done id runs) stands refl refl

    abbrev own_end : IsEndOpen (view_of s.spaces (slot_at s n).directory) fd (mode_wanted call)
    own_end = here.moved_open (view_of s.spaces (slot_at s n).directory) (slot_at s n) own_v.b call done own_here.0.0

    abbrev pub own_word : ℕ
    own_word = own_position call (s.spaces.pages own_end.page.frame)

    pub own_gives : load s n (pipe_at fd (own_at call)) ≡ read_at s n (pipe_at fd (own_at call)) own_word
    own_gives =
        word_loaded (pipe.TestOwn done id runs) stands refl refl done own_here.0.0 (own_at call) (own_aligned call) (own_inside call)
        ∙ ap (λ (w : ℕ). read_at s n (pipe_at fd (own_at call)) w) (own_word_is call (s.spaces.pages own_end.page.frame))

    pub own_on : IsInOrder (loaded s n (pipe_at fd (own_at call))) → GoesTo (pipe_at fd (own_at call)) (pipe.TestOther done id runs own_word)
    own_on order =
        let to : PipeStep = pipe.TestOther done id runs own_word in
        here.loads_on h n call moves (pipe.TestOwn done id runs) stands refl refl (pipe_at fd (own_at call)) order to refl refl (
          here.testing_with_words (view_of s.spaces (slot_at s n).directory) (slot_at s n) own_v.b (words_of to) call done own_here.0,
          own_here.1,
          (own_here.2, λ running same. record { page = own_end.page; lies = own_end.lies; so = refl }),
        )

  module _ (done id runs own : ℕ) (stands : stands_at (pipe.TestOther done id runs own)) where
    abbrev other_v : IsServed names s a n call (step.Piped (pipe.TestOther done id runs own))
    other_v = here.here h n call moves (pipe.TestOther done id runs own) stands refl refl

    abbrev other_here : StandsOnPipe (view_of s.spaces (slot_at s n).directory) (slot_at s n) other_v.b call (pipe.TestOther done id runs own)
    other_here = here.stands_here h n call moves (pipe.TestOther done id runs own) stands refl refl

    abbrev other_end : IsEndOpen (view_of s.spaces (slot_at s n).directory) fd (mode_wanted call)
    other_end = here.moved_open (view_of s.spaces (slot_at s n).directory) (slot_at s n) other_v.b call done other_here.0.0

    abbrev pub other_word : ℕ
    other_word = other_position call (s.spaces.pages other_end.page.frame)

    pub other_gives : load s n (pipe_at fd (other_at call)) ≡ read_at s n (pipe_at fd (other_at call)) other_word
    other_gives =
        word_loaded (pipe.TestOther done id runs own) stands refl refl done other_here.0.0 (other_at call) (other_aligned call) (other_inside call)
        ∙ ap (λ (w : ℕ). read_at s n (pipe_at fd (other_at call)) w) (other_word_is call (s.spaces.pages other_end.page.frame))

    -- no more than it can
    holds_few : held_of (s.spaces.pages other_end.page.frame) ≤ PIPEBUFSIZ
    holds_few =
        let below : fd < DESCRIPTORS = here.moved_below (view_of s.spaces (slot_at s n).directory) (slot_at s n) other_v.b call done other_here.0.0 in
        (here.pipe_shows h n call moves (pipe.TestOther done id runs own) stands refl refl other_end.page below other_end.lies).few

    -- in its turn the words tell whether a byte can be moved
    tells_still : (c : Bool) → is_still_by call own other_word ≡ c →
        Told (slot_at s n) runs (OfPipe (view_of s.spaces (slot_at s n).directory) call (λ page. is_still call page ≡ c))
    tells_still c test = (other_here.2.0, λ running same. by_pipe (other_here.2.1 running same))
      where
        by_pipe : OfPipe (view_of s.spaces (slot_at s n).directory) call (λ page. own_position call page ≡ own) →
            OfPipe (view_of s.spaces (slot_at s n).directory) call (λ page. is_still call page ≡ c)
        by_pipe old =
            let same_page : old.page ≡ other_end.page = same_Some old.page other_end.page (sym old.lies ∙ other_end.lies) in
            let moved : own_position call (s.spaces.pages other_end.page.frame) ≡ own =
            sym (ap (λ (e : Entry). own_position call (s.spaces.pages e.frame)) same_page) ∙ old.so in
            record {
              page = other_end.page;
              lies = other_end.lies;
              so = still_so call (s.spaces.pages other_end.page.frame) (whole (pipe.TestOther done id runs own) stands refl refl done other_here.0.0) holds_few
                  ∙ ap (λ (k : ℕ). is_still_by call k other_word) moved ∙ test;
            }

    module _ (order : IsInOrder (loaded s n (pipe_at fd (other_at call)))) where
      -- still none can be moved
      pub other_still : is_still_by call own other_word ≡ true → GoesTo (pipe_at fd (other_at call)) (pipe.TestDescriptor done id runs)
      other_still test =
          let to : PipeStep = pipe.TestDescriptor done id runs in
          here.loads_on h n call moves (pipe.TestOther done id runs own) stands refl refl (pipe_at fd (other_at call)) order to refl refl (
            here.testing_with_words (view_of s.spaces (slot_at s n).directory) (slot_at s n) other_v.b (words_of to) call done other_here.0,
            other_here.1,
            tells_still true test,
          )

      -- one can, and it tries again
      pub other_again : is_still_by call own other_word ≡ false → GoesTo (pipe_at fd (other_at call)) (pipe.Locking done id runs)
      other_again test =
          let to : PipeStep = pipe.Locking done id runs in
          let v = view_of s.spaces (slot_at s n).directory in
          here.loads_on h n call moves (pipe.TestOther done id runs own) stands refl refl (pipe_at fd (other_at call)) order to refl refl (
            here.moving_with_words v (slot_at s n) other_v.b (words_of to) call done (here.testing_moves v (slot_at s n) other_v.b call done other_here.0),
            tries_so v (record (slot_at s n) { extra = words_of to }) call id runs other_here.1 (tells_still false test),
          )

  -- ---- how often the page of its end is mapped

  module _ (done id runs : ℕ) (stands : stands_at (pipe.TestDescriptor done id runs)) where
    abbrev entry_v : IsServed names s a n call (step.Piped (pipe.TestDescriptor done id runs))
    entry_v = here.here h n call moves (pipe.TestDescriptor done id runs) stands refl refl

    abbrev entry_here : StandsOnPipe (view_of s.spaces (slot_at s n).directory) (slot_at s n) entry_v.b call (pipe.TestDescriptor done id runs)
    entry_here = here.stands_here h n call moves (pipe.TestDescriptor done id runs) stands refl refl

    abbrev entry_end : IsEndOpen (view_of s.spaces (slot_at s n).directory) fd (mode_wanted call)
    entry_end = here.moved_open (view_of s.spaces (slot_at s n).directory) (slot_at s n) entry_v.b call done entry_here.0.0

    abbrev pub descriptor_word : ℕ
    descriptor_word = entry_word (s.spaces.entries (slot_at s n).directory (descriptor_page fd))

    pub descriptor_gives : load s n (end_entry_at fd) ≡ read_at s n (end_entry_at fd) descriptor_word
    descriptor_gives = end_entry_loaded (pipe.TestDescriptor done id runs) stands refl refl done entry_here.0.0

    pub descriptor_on : IsInOrder (loaded s n (end_entry_at fd)) → GoesTo (end_entry_at fd) (pipe.TestDescriptorCount done id runs descriptor_word)
    descriptor_on order =
        let to : PipeStep = pipe.TestDescriptorCount done id runs descriptor_word in
        here.loads_on h n call moves (pipe.TestDescriptor done id runs) stands refl refl (end_entry_at fd) order to refl refl (
          here.testing_with_words (view_of s.spaces (slot_at s n).directory) (slot_at s n) entry_v.b (words_of to) call done entry_here.0,
          entry_here.1,
          entry_told h n (descriptor_page fd) entry_end.entry entry_end.stands,
          entry_here.2,
        )

  module _ (done id runs word : ℕ) (stands : stands_at (pipe.TestDescriptorCount done id runs word)) where
    abbrev counted_v : IsServed names s a n call (step.Piped (pipe.TestDescriptorCount done id runs word))
    counted_v = here.here h n call moves (pipe.TestDescriptorCount done id runs word) stands refl refl

    abbrev counted_here : StandsOnPipe (view_of s.spaces (slot_at s n).directory) (slot_at s n) counted_v.b call (pipe.TestDescriptorCount done id runs word)
    counted_here = here.stands_here h n call moves (pipe.TestDescriptorCount done id runs word) stands refl refl

    abbrev counted_end : IsEndOpen (view_of s.spaces (slot_at s n).directory) fd (mode_wanted call)
    counted_end = here.moved_open (view_of s.spaces (slot_at s n).directory) (slot_at s n) counted_v.b call done counted_here.0.0

    pub descriptor_count_gives : HasCounts s n → load s n (count_at word) ≡ read_at s n (count_at word) (reference_count s.spaces (word / PGSIZE))
    descriptor_count_gives words = count_loaded h n words (descriptor_page fd) word counted_here.2

    pub descriptor_count_on : IsInOrder (loaded s n (count_at word)) →
        GoesTo (count_at word) (pipe.TestPipe done id runs (reference_count s.spaces (word / PGSIZE)))
    descriptor_count_on order =
        let to : PipeStep = pipe.TestPipe done id runs (reference_count s.spaces (word / PGSIZE)) in
        let has = counted_here.2 in
        let same_entry : counted_end.entry ≡ has.0 = same_Some counted_end.entry has.0 (sym counted_end.stands ∙ has.1) in
        let frame : counted_end.entry.frame ≡ word / PGSIZE = ap (λ (e : Entry). e.frame) same_entry ∙ has.2 in
        here.loads_on h n call moves (pipe.TestDescriptorCount done id runs word) stands refl refl (count_at word) order to refl refl (
          here.testing_with_words (view_of s.spaces (slot_at s n).directory) (slot_at s n) counted_v.b (words_of to) call done counted_here.0,
          counted_here.1,
          (
            counted_here.3.0,
            λ running same. (
              counted_here.3.1 running same,
              record {
                entry = counted_end.entry;
                page = counted_end.page;
                stands = counted_end.stands;
                lies = counted_end.lies;
                so = ap (λ (f : ℕ). reference_count s.spaces f) frame;
              },
            ),
          ),
        )

  -- ---- how often that of its pipe is

  module _ (done id runs count : ℕ) (stands : stands_at (pipe.TestPipe done id runs count)) where
    abbrev pipe_v : IsServed names s a n call (step.Piped (pipe.TestPipe done id runs count))
    pipe_v = here.here h n call moves (pipe.TestPipe done id runs count) stands refl refl

    abbrev pipe_here : StandsOnPipe (view_of s.spaces (slot_at s n).directory) (slot_at s n) pipe_v.b call (pipe.TestPipe done id runs count)
    pipe_here = here.stands_here h n call moves (pipe.TestPipe done id runs count) stands refl refl

    abbrev pipe_end : IsEndOpen (view_of s.spaces (slot_at s n).directory) fd (mode_wanted call)
    pipe_end = here.moved_open (view_of s.spaces (slot_at s n).directory) (slot_at s n) pipe_v.b call done pipe_here.0.0

    abbrev pub pipe_word : ℕ
    pipe_word = entry_word (s.spaces.entries (slot_at s n).directory (pipe_page fd))

    pub pipe_gives : load s n (pipe_entry_at fd) ≡ read_at s n (pipe_entry_at fd) pipe_word
    pipe_gives = pipe_entry_loaded (pipe.TestPipe done id runs count) stands refl refl done pipe_here.0.0

    pub pipe_on : IsInOrder (loaded s n (pipe_entry_at fd)) → GoesTo (pipe_entry_at fd) (pipe.TestPipeCount done id runs count pipe_word)
    pipe_on order =
        let to : PipeStep = pipe.TestPipeCount done id runs count pipe_word in
        here.loads_on h n call moves (pipe.TestPipe done id runs count) stands refl refl (pipe_entry_at fd) order to refl refl (
          here.testing_with_words (view_of s.spaces (slot_at s n).directory) (slot_at s n) pipe_v.b (words_of to) call done pipe_here.0,
          pipe_here.1,
          entry_told h n (pipe_page fd) pipe_end.page pipe_end.lies,
          pipe_here.2,
        )

  module _ (done id runs count word : ℕ) (stands : stands_at (pipe.TestPipeCount done id runs count word)) where
    abbrev both_v : IsServed names s a n call (step.Piped (pipe.TestPipeCount done id runs count word))
    both_v = here.here h n call moves (pipe.TestPipeCount done id runs count word) stands refl refl

    abbrev both_here : StandsOnPipe (view_of s.spaces (slot_at s n).directory) (slot_at s n) both_v.b call (pipe.TestPipeCount done id runs count word)
    both_here = here.stands_here h n call moves (pipe.TestPipeCount done id runs count word) stands refl refl

    -- whether the counts are the same, as it is kept
    abbrev pub closed_told : ℕ
    closed_told = if count == reference_count s.spaces (word / PGSIZE) then 1 else 0

    pub pipe_count_gives : HasCounts s n → load s n (count_at word) ≡ read_at s n (count_at word) (reference_count s.spaces (word / PGSIZE))
    pipe_count_gives words = count_loaded h n words (pipe_page fd) word both_here.2

    pub pipe_count_on : IsInOrder (loaded s n (count_at word)) → GoesTo (count_at word) (pipe.TestRunsAgain done id runs closed_told)
    pipe_count_on order =
        let to : PipeStep = pipe.TestRunsAgain done id runs closed_told in
        here.loads_on h n call moves (pipe.TestPipeCount done id runs count word) stands refl refl (count_at word) order to refl refl (
          here.testing_with_words (view_of s.spaces (slot_at s n).directory) (slot_at s n) both_v.b (words_of to) call done both_here.0,
          both_here.1,
          (both_here.3.0, λ running same. by_told (both_here.3.1 running same)),
        )
      where
        by_told : OfPipe (view_of s.spaces (slot_at s n).directory) call (λ page. is_still call page ≡ true)
            × AreCounted (view_of s.spaces (slot_at s n).directory) fd (λ one pages. one ≡ count) →
            OfPipe (view_of s.spaces (slot_at s n).directory) call (λ page. is_still call page ≡ true)
            × AreCounted (view_of s.spaces (slot_at s n).directory) fd (λ one pages. (one == pages) ≡ not (closed_told == 0))
        by_told old =
            let has = both_here.2 in
            let same_page : old.1.page ≡ has.0 = same_Some old.1.page has.0 (sym old.1.lies ∙ has.1) in
            let pages : reference_count s.spaces old.1.page.frame ≡ reference_count s.spaces (word / PGSIZE) =
            ap (λ (e : Entry). reference_count s.spaces e.frame) same_page ∙ ap (λ (f : ℕ). reference_count s.spaces f) has.2 in (
              old.0,
              record {
                entry = old.1.entry;
                page = old.1.page;
                stands = old.1.stands;
                lies = old.1.lies;
                so = (λ i. old.1.so i == pages i) ∙ test_so (count == reference_count s.spaces (word / PGSIZE));
              },
            )

  -- ---- whether it is in the same turn still

  module _ (done id runs closed : ℕ) (stands : stands_at (pipe.TestRunsAgain done id runs closed)) where
    abbrev again_v : IsServed names s a n call (step.Piped (pipe.TestRunsAgain done id runs closed))
    again_v = here.here h n call moves (pipe.TestRunsAgain done id runs closed) stands refl refl

    abbrev again_here : StandsOnPipe (view_of s.spaces (slot_at s n).directory) (slot_at s n) again_v.b call (pipe.TestRunsAgain done id runs closed)
    again_here = here.stands_here h n call moves (pipe.TestRunsAgain done id runs closed) stands refl refl

    pub again_gives : HasCounts s n → load s n (runs_at id) ≡ read_at s n (runs_at id) (slot_at s n).runs
    again_gives words = runs_loaded h n again_v.b again_v.is id again_here.1 words.runs

    module _ (order : IsInOrder (loaded s n (runs_at id))) where
      -- it has got another: the test is made again
      pub again_on : GoesTo (runs_at id) (pipe.TestRuns done id)
      again_on =
          let to : PipeStep = pipe.TestRuns done id in
          here.loads_on h n call moves (pipe.TestRunsAgain done id runs closed) stands refl refl (runs_at id) order to refl refl (
            here.testing_with_words (view_of s.spaces (slot_at s n).directory) (slot_at s n) again_v.b (words_of to) call done again_here.0,
            again_here.1,
          )

      module _ (running : is_running (slot_at s n).status ≡ true) (same : (slot_at s n).runs ≡ runs) where
        comes_of : IsStuck a n again_v.b (slot_at s n).registers done closed
        comes_of =
            let old = again_here.2.1 running same in
            let below = here.moved_below (view_of s.spaces (slot_at s n).directory) (slot_at s n) again_v.b call done again_here.0.0 in
            stuck h n again_v.b again_v.is (here.unborne_here h n call moves (pipe.TestRunsAgain done id runs closed) stands refl refl)
            (here.unmade_here h n call moves (pipe.TestRunsAgain done id runs closed) stands refl refl)
            (here.seen_here h n call moves (pipe.TestRunsAgain done id runs closed) stands refl refl) done closed call moves again_here.0 old.0
            (here.pipe_shows h n call moves (pipe.TestRunsAgain done id runs closed) stands refl refl old.0.page below old.0.lies) old.1

        -- the other end may be open: it is about to give up its turn, and may wait
        pub again_waits : closed ≡ 0 → GoesTo (runs_at id) (pipe.TestPausing done) × (may_wait a n SHORT_QUANTUM ≡ true)
        again_waits none =
            let to : PipeStep = pipe.TestPausing done in
            let v = view_of s.spaces (slot_at s n).directory in (
              here.loads_on h n call moves (pipe.TestRunsAgain done id runs closed) stands refl refl (runs_at id) order to refl refl
                  (here.moving_with_words v (slot_at s n) again_v.b (words_of to) call done
                  (here.testing_moves v (slot_at s n) again_v.b call done again_here.0)),
              comes_of.waits none,
            )

        -- nobody has it: the service is over
        pub again_ends : closed ≢ 0 → GoesOn n (with_extra (loaded s n (runs_at id)) n (words_at (number_of call) (step.Returning done))) a []
        again_ends some = (
          answered a n again_v.b (slot_at s n).registers done,
          comes_of.ends some,
          printed_nothing a,
          (
            names,
            here.returns_at (quiet_stands h (touched_quiet s.spaces (slot_at s n).directory (runs_at id) Read) order) n again_v.b again_v.is call moves
                (pipe.TestRunsAgain done id runs closed) stands refl refl
                (here.moved_silent (view_of s.spaces (slot_at s n).directory) (slot_at s n) again_v.b call done again_here.0.0)
                (here.moved_awake (view_of s.spaces (slot_at s n).directory) (slot_at s n) again_v.b call done again_here.0.0) done,
          ),
        )

-- ---- it gives up its turn

module _ {names : Names} {s : KernelState} {a : AbstractState} (h : StandsFor names s a) (n : ℕ) (call : Service)
    (moves : moves_bytes call ≡ true) where
  abbrev tries_first : ℕ → List ℕ
  tries_first done = words_at (number_of call) (step.Piped (pipe.Locking done 0 0))

  abbrev rested_state : KernelState
  rested_state = with_status s n Runnable

  -- behind its turn it stands there as before, and tries to take the lock
  tries_behind : (from : PipeStep) → place_of (slot_at s n) ≡ place.InService call (step.Piped from) → (keeps : keeps_moved from ≡ true) →
      (calm : is_calm_step (step.Piped from) ≡ true) → (done : ℕ) →
      ((v : View) (k : Slot) (b : Born) → StandsOnPipe v k b call from → HasMoved v k b call done × (done < most_moved call)) →
      StandsFor names (with_extra rested_state n (tries_first done)) a
  tries_behind from stands keeps calm done moving =
      let mine = here.here h n call moves from stands keeps calm in
      let first = moving (view_of s.spaces (slot_at s n).directory) (slot_at s n) mine.b (here.stands_here h n call moves from stands keeps calm) in
      let rested = here.rests h n call moves from stands keeps calm done first.0 in
      let still = here.stands_rested h n call moves from stands keeps calm in
      let k = slot_at rested_state n in
      let v = here.here rested n call moves from still keeps calm in
      let second = moving (view_of rested_state.spaces k.directory) k v.b (here.stands_here rested n call moves from still keeps calm) in
      here.calls_on rested n call moves from still keeps calm (pipe.Locking done 0 0) refl refl
      (here.moving_with_words (view_of rested_state.spaces k.directory) k v.b (tries_first done) call done second, tt)

  pub lock_paused : (done : ℕ) → place_of (slot_at s n) ≡ place.InService call (step.Piped (pipe.LockPausing done)) →
      StandsFor names (with_extra (with_status s n Runnable) n (words_at (number_of call) (step.Piped (pipe.Locking done 0 0)))) a
  lock_paused done stands = tries_behind (pipe.LockPausing done) stands refl refl done (λ v k b so. so)

  pub test_paused : (done : ℕ) → place_of (slot_at s n) ≡ place.InService call (step.Piped (pipe.TestPausing done)) →
      StandsFor names (with_extra (with_status s n Runnable) n (words_at (number_of call) (step.Piped (pipe.Locking done 0 0)))) a
  test_paused done stands = tries_behind (pipe.TestPausing done) stands refl refl done (λ v k b so. so)

-- ---- what the steps come to whose words are told without the pipe

module _ (s : KernelState) (n : ℕ) (call : Service) (moves : moves_bytes call ≡ true) where
  abbrev goes_to : KernelState → PipeStep → KernelState
  goes_to t to = with_extra t n (words_at (number_of call) (step.Piped to))

  abbrev is_at : PipeStep → Type 0
  is_at at = place_of (slot_at s n) ≡ place.InService call (step.Piped at)

  pub identifying_keeps : (done : ℕ) → is_at (pipe.TestIdentifying done) →
      KeepsStanding progress.Hidden n s (goes_to s (pipe.TestRuns done (slot_at s n).id)) []
  identifying_keeps done stands a h turn quiet = (refl, (h.0, identifying_on h.1 n call moves done stands))

  pub runs_keeps : (done id : ℕ) → is_at (pipe.TestRuns done id) → IsInOrder (loaded s n (runs_at id)) →
      KeepsStanding progress.Hidden n s (goes_to (loaded s n (runs_at id)) (pipe.TestOwn done id (slot_at s n).runs)) []
  runs_keeps done id stands order a h turn quiet = (refl, (h.0, runs_on h.1 n call moves done id stands order))

  pub tried_keeps : (done id runs : ℕ) → is_at (pipe.TestAgain done id runs) → IsInOrder (loaded s n (runs_at id)) →
      KeepsStanding progress.Hidden n s (goes_to (loaded s n (runs_at id)) (pipe.TestOwn done id (slot_at s n).runs)) []
  tried_keeps done id runs stands order a h turn quiet = (refl, (h.0, tried_on h.1 n call moves done id runs stands order))

  pub again_keeps : (done id runs closed : ℕ) → is_at (pipe.TestRunsAgain done id runs closed) → IsInOrder (loaded s n (runs_at id)) →
      KeepsStanding progress.Hidden n s (goes_to (loaded s n (runs_at id)) (pipe.TestRuns done id)) []
  again_keeps done id runs closed stands order a h turn quiet = (refl, (h.0, again_on h.1 n call moves done id runs closed stands order))

  pub waits_keeps : (done id runs : ℕ) → is_at (pipe.TestRunsAgain done id runs 0) → IsInOrder (loaded s n (runs_at id)) → (slot_at s n).runs ≡ runs →
      KeepsStanding progress.Waited n s (goes_to (loaded s n (runs_at id)) (pipe.TestPausing done)) []
  waits_keeps done id runs stands order same a h turn quiet =
      let it = again_waits h.1 n call moves done id runs 0 stands order turn.running same refl in ((refl, (h.0, it.0)), it.1)

  pub ends_keeps : (done id runs closed : ℕ) → is_at (pipe.TestRunsAgain done id runs closed) → IsInOrder (loaded s n (runs_at id)) →
      (slot_at s n).runs ≡ runs → closed ≢ 0 →
      KeepsStanding progress.Visible n s (with_extra (loaded s n (runs_at id)) n (words_at (number_of call) (step.Returning done))) []
  ends_keeps done id runs closed stands order same some a h turn quiet =
      again_ends h.1 n call moves done id runs closed stands order turn.running same some

  pub lock_paused_keeps : (done : ℕ) → is_at (pipe.LockPausing done) →
      KeepsStanding progress.Hidden n s (goes_to (with_status s n Runnable) (pipe.Locking done 0 0)) []
  lock_paused_keeps done stands a h turn quiet = (refl, (h.0, lock_paused h.1 n call moves done stands))

  pub test_paused_keeps : (done : ℕ) → is_at (pipe.TestPausing done) →
      KeepsStanding progress.Hidden n s (goes_to (with_status s n Runnable) (pipe.Locking done 0 0)) []
  test_paused_keeps done stands a h turn quiet = (refl, (h.0, test_paused h.1 n call moves done stands))
