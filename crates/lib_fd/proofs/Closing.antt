-- close: what each of its stages comes to in the abstract system, by the word that is read.
use Rattle.std.proofs.Common.{◌≡◌, ◌∙◌, ◌||◌, ◌<◌, ◌≤◌, ℕ, Bool, true, false, not, [], None, refl, sym, ap, subst, arith}
use Rattle.std.proofs.Common.{if◌then◌else◌}
use Rattle.std.specs.Prelude.{is_some, nat_lt}
use Rattle.std.proofs.lemmas.Bool.Decides.{nat_tests}
use Rattle.jos_base.specs.declared.numbers.TheConstants.{E_INVAL}
use Rattle.jos_base.specs.declared.registers.Regs.{Regs}
use Rattle.jos_base.specs.KernelState.{KernelState, slot_at, with_extra, with_spaces}
use Rattle.jos_base.specs.Words.{negated}
use Rattle.jos_base.proofs.Options.{some_is}
use Rattle.lib_os.specs.declared.numbers.TheConstants.{DESCRIPTORS, SERVICE_CLOSE}
use Rattle.lib_os.specs.declared.place.PipeStep.TheVariants as pipe
use Rattle.lib_os.specs.declared.place.Place.TheVariants as place
use Rattle.lib_os.specs.declared.place.Step.{Step}
use Rattle.lib_os.specs.declared.place.Step.TheVariants as step
use Rattle.lib_os.specs.declared.progress.Progress.TheVariants as progress
use Rattle.lib_os.specs.declared.service.Service.TheVariants as service
use Rattle.lib_os.specs.AbstractState.{AbstractState, entered}
use Rattle.lib_os.specs.Answers.{answered, refused}
use Rattle.lib_os.specs.Descriptors.{object_name, with_descriptor}
use Rattle.lib_os.specs.InOrder.{IsInOrder}
use Rattle.lib_os.specs.LibrarySteps.{AbstractFollows, KeepsStanding, service_answered}
use Rattle.lib_os.specs.Places.{place_of, words_at}
use Rattle.lib_os.specs.Rows.{EntryRow, Names, descriptor_page, pipe_page, rows_of}
use Rattle.lib_os.specs.InService.{IsIn, IsOpen}
use Rattle.lib_os.specs.StandsAtPipe.{HasPipePage}
use Rattle.lib_os.specs.StandsFor.{StandsFor, borne_in}
use Rattle.lib_os.specs.UserCalls.{load}
use Rattle.lib_os.proofs.Answering.{back_stands}
use Rattle.lib_os.proofs.DescriptorLooks.{close_drops, close_refuses, entry_va, no_table_row, none_there, object_is, object_missing, object_past}
use Rattle.lib_os.proofs.DescriptorLooks.{page_gives, page_told, page_word, read_answers, read_goes_on, seen_calm, table_told, table_va, table_word}
use Rattle.lib_os.proofs.DescriptorsStand.{drop_removes, dropped, dropped_answers, dropped_here, touches_calm}
use Rattle.lib_os.proofs.EndsDropped.{dropped_name, end_dropped, pipe_drop_removes, pipe_dropped, pipe_dropped_answers, pipe_entry_va, pipe_gives, pipe_told}
use Rattle.lib_os.proofs.EndsDropped.{pipe_word}
use Rattle.lib_os.proofs.GoingOn.{in_with_words}
use Rattle.lib_os.proofs.Loading.{loaded}
use Rattle.lib_os.proofs.PipesStand.{is_calm, is_calm_step}
use Rattle.lib_os.proofs.Serving.{IsServed, holds_page, printed_nothing, served, step_in}
use Rattle.lib_os.proofs.WindowWords.{read_at}
use Rattle.lib_stage.specs.declared.ask.Next.{Next}
use Rattle.lib_stage.specs.declared.ask.Next.TheVariants as next
use Rattle.lib_stage.specs.Nexts.{seen_as, settled}
use Rattle.lib_fd.specs.declared.close.CloseStage.TheVariants as stage
use Rattle.lib_fd.specs.DescriptorStages.{close_next, is_there}
use Rattle.lib_fd.proofs.EndPages.{has_table, pipe_still}

abbrev word_of_refusal : ℕ
word_of_refusal = negated E_INVAL

-- it goes on, or is over, in this state
abbrev pub Follows : KernelState → ℕ → AbstractState → Next → Type 0
Follows s n a x = AbstractFollows (seen_as x) n (settled SERVICE_CLOSE x s n) a []

module _ (s : KernelState) (n fd : ℕ) where
  abbrev regs : Regs
  regs = (slot_at s n).registers

  abbrev row : EntryRow
  row = rows_of s.spaces (slot_at s n).directory

  -- ---- a number that is none of a descriptor

  module _ (stands : place_of (slot_at s n) ≡ place.InService (service.Close fd) step.Entered) (above : DESCRIPTORS ≤ fd) where
    pub past_keeps : KeepsStanding progress.Finished n s (service_answered s n word_of_refusal) []
    past_keeps a h turn quiet =
        let v = served h.1 n (service.Close fd) step.Entered stands in
        let here : IsIn (slot_at s n) v.b (service.Close fd) entered = v.at in (
          refused a n v.b regs E_INVAL,
          step_in a n v.b (slot_at s n) (service.Close fd) entered v.is here
              ∙ close_refuses a n v.b regs fd (object_past h.1 n v.b v.is fd above),
          printed_nothing a,
          (
            h.0,
            back_stands h.1 n v.b v.is (record regs { eax = word_of_refusal })
                (ap borne_in v.place) (ap holds_page v.place) (ap is_calm v.place) here.silent here.awake
                v.outside refl refl,
          ),
        )

  -- ---- behind a word that was read

  module _ {names : Names} {a : AbstractState} (h : StandsFor names s a) (from : Step) (v : IsServed names s a n (service.Close fd) from)
      (calm : is_calm_step from ≡ true) (is_in : IsIn (slot_at s n) v.b (service.Close fd) entered) (va : ℕ) (order : IsInOrder (loaded s n va)) where
    refuses : object_name v.b fd ≡ None → Follows (loaded s n va) n a (next.Answer word_of_refusal)
    refuses none = (
      refused a n v.b regs E_INVAL,
      step_in a n v.b (slot_at s n) (service.Close fd) entered v.is is_in ∙ close_refuses a n v.b regs fd none,
      printed_nothing a,
      (names, read_answers h n (service.Close fd) from v refl calm va order refl is_in word_of_refusal),
    )

  -- ---- whether the region has a table

  module _ (stands : place_of (slot_at s n) ≡ place.InService (service.Close fd) step.Entered) (below : fd < DESCRIPTORS)
      (names : Names) (a : AbstractState) (h : StandsFor names s a) (order : IsInOrder (loaded s n table_va)) where
    pub table_follows : Follows (loaded s n table_va) n a (close_next fd stage.Entered (table_word s n))
    table_follows =
        subst (λ (t : Bool). Follows (loaded s n table_va) n a
        (if not t || not (is_there (table_word s n)) then next.Answer word_of_refusal else next.GoOn (step.DescriptorEntry fd)))
        (sym inside) (by_test (is_there (table_word s n)) refl)
      where
        v : IsServed names s a n (service.Close fd) step.Entered
        v = served h n (service.Close fd) step.Entered stands

        here : IsIn (slot_at s n) v.b (service.Close fd) entered
        here = v.at

        inside : nat_lt fd DESCRIPTORS ≡ true
        inside = grind (arith, nat_tests)

        by_test : (t : Bool) → is_there (table_word s n) ≡ t →
            Follows (loaded s n table_va) n a (if not t then next.Answer word_of_refusal else next.GoOn (step.DescriptorEntry fd))
        by_test false is =
            let none = sym (table_told s n) ∙ is in
            refuses h step.Entered v refl here table_va order
            (object_missing h n v.b v.is (seen_calm h n v.b v.is (ap is_calm v.place)) fd (no_table_row h n v.b v.is none fd below))
        by_test true is = (
          refl,
          (
            names,
            read_goes_on h n (service.Close fd) step.Entered v refl refl table_va order (step.DescriptorEntry fd) refl refl refl
                (in_with_words (words_at SERVICE_CLOSE (step.DescriptorEntry fd)) here, refl, below, sym (table_told s n) ∙ is),
          ),
        )

  -- ---- whether the descriptor is open

  module _ (at : ℕ) (stands : place_of (slot_at s n) ≡ place.InService (service.Close fd) (step.DescriptorEntry at))
      (names : Names) (a : AbstractState) (h : StandsFor names s a) where
    abbrev looking : IsServed names s a n (service.Close fd) (step.DescriptorEntry at)
    looking = served h n (service.Close fd) (step.DescriptorEntry at) stands

    pub entry_gives : load s n (entry_va fd) ≡ read_at s n (entry_va fd) (page_word s n fd)
    entry_gives = let so = looking.at in page_gives h n fd so.2 so.3

    module _ (order : IsInOrder (loaded s n (entry_va fd))) where
      pub entry_follows : Follows (loaded s n (entry_va fd)) n a (close_next fd stage.Entry (page_word s n fd))
      entry_follows = by_test (is_there (page_word s n fd)) refl
        where
          v : IsServed names s a n (service.Close fd) (step.DescriptorEntry at)
          v = looking

          here : IsIn (slot_at s n) v.b (service.Close fd) entered
          here = v.at.0

          below : fd < DESCRIPTORS
          below = v.at.2

          told : is_there (page_word s n fd) ≡ is_some (row (descriptor_page fd))
          told = page_told h n v.b v.is fd below

          by_test : (t : Bool) → is_there (page_word s n fd) ≡ t →
              Follows (loaded s n (entry_va fd)) n a (if not t then next.Answer word_of_refusal else next.GoOn (step.Piped (pipe.PipeEntry fd)))
          by_test false is =
              refuses h (step.DescriptorEntry at) v refl here (entry_va fd) order
              (object_missing h n v.b v.is (seen_calm h n v.b v.is (ap is_calm v.place)) fd (none_there (row (descriptor_page fd)) (sym told ∙ is)))
          by_test true is = (
            refl,
            (
              names,
              read_goes_on h n (service.Close fd) (step.DescriptorEntry at) v refl refl (entry_va fd) order (step.Piped (pipe.PipeEntry fd)) refl refl refl
                  (in_with_words (words_at SERVICE_CLOSE (step.Piped (pipe.PipeEntry fd))) here, refl, below, sym told ∙ is),
            ),
          )

  -- ---- whether it has the page of a pipe

  module _ (at : ℕ) (stands : place_of (slot_at s n) ≡ place.InService (service.Close fd) (step.Piped (pipe.PipeEntry at)))
      (names : Names) (a : AbstractState) (h : StandsFor names s a) where
    abbrev asking : IsServed names s a n (service.Close fd) (step.Piped (pipe.PipeEntry at))
    asking = served h n (service.Close fd) (step.Piped (pipe.PipeEntry at)) stands

    pub pipe_entry_gives : load s n (pipe_entry_va fd) ≡ read_at s n (pipe_entry_va fd) (pipe_word s n fd)
    pipe_entry_gives = let so = asking.at in pipe_gives h n fd so.2 (has_table h n fd so.2 so.3)

    module _ (order : IsInOrder (loaded s n (pipe_entry_va fd))) where
      pub pipe_entry_follows : Follows (loaded s n (pipe_entry_va fd)) n a (close_next fd stage.PipeEntry (pipe_word s n fd))
      pipe_entry_follows = by_test (is_there (pipe_word s n fd)) refl
        where
          v : IsServed names s a n (service.Close fd) (step.Piped (pipe.PipeEntry at))
          v = asking

          here : IsIn (slot_at s n) v.b (service.Close fd) entered
          here = v.at.0

          below : fd < DESCRIPTORS
          below = v.at.2

          is_open : IsOpen row fd
          is_open = v.at.3

          told : is_there (pipe_word s n fd) ≡ is_some (row (pipe_page fd))
          told = pipe_told h n v.b v.is fd below

          by_test : (t : Bool) → is_there (pipe_word s n fd) ≡ t →
              Follows (loaded s n (pipe_entry_va fd)) n a
              (next.GoOn (if t then step.Piped (pipe.DroppingEnd fd) else step.DroppingDescriptor fd))
          by_test false is = (
            refl,
            (
              names,
              read_goes_on h n (service.Close fd) (step.Piped (pipe.PipeEntry at)) v refl refl (pipe_entry_va fd) order (step.DroppingDescriptor fd)
                  refl refl refl (
                    in_with_words (words_at SERVICE_CLOSE (step.DroppingDescriptor fd)) here,
                    refl,
                    below,
                    is_open,
                    none_there (row (pipe_page fd)) (sym told ∙ is),
                  ),
            ),
          )
          by_test true is = (
            refl,
            (
              names,
              read_goes_on h n (service.Close fd) (step.Piped (pipe.PipeEntry at)) v refl refl (pipe_entry_va fd) order
                  (step.Piped (pipe.DroppingEnd fd)) refl refl refl
                  (in_with_words (words_at SERVICE_CLOSE (step.Piped (pipe.DroppingEnd fd))) here, refl, below, is_open, sym told ∙ is),
            ),
          )

  -- ---- it drops the descriptor

  module _ (at : ℕ) (stands : place_of (slot_at s n) ≡ place.InService (service.Close fd) (step.DroppingDescriptor at))
      (order : IsInOrder (with_spaces s (dropped s n fd))) where
    pub dropping_keeps : KeepsStanding progress.Finished n s (service_answered (with_spaces s (dropped s n fd)) n 0) []
    dropping_keeps a h turn quiet =
        let v = served h.1 n (service.Close fd) (step.DroppingDescriptor at) stands in
        let here : IsIn (slot_at s n) v.b (service.Close fd) entered = v.at.0 in
        let below : fd < DESCRIPTORS = v.at.2 in
        let is_open : IsOpen row fd = v.at.3 in
        let alone : row (pipe_page fd) ≡ None = v.at.4 in
        let it = some_is (row (descriptor_page fd)) is_open in (
          answered a n (with_descriptor v.b fd None) regs 0,
          step_in a n v.b (slot_at s n) (service.Close fd) entered v.is here
              ∙ close_drops a n v.b regs fd (h.0.name it.0.frame)
              (object_is h.1 n v.b v.is (seen_calm h.1 n v.b v.is (ap is_calm v.place)) fd it.0 below it.1),
          printed_nothing a,
          (
            h.0,
            dropped_answers h.1 n (service.Close fd) (step.DroppingDescriptor at) v refl refl here fd below
                (touches_calm (service.Close fd) (step.DroppingDescriptor at) fd refl) turn.last order (drop_removes s n fd h.1 below) alone 0,
          ),
        )

  -- ---- it drops an end of a pipe: its own page,

  module _ (at : ℕ) (stands : place_of (slot_at s n) ≡ place.InService (service.Close fd) (step.Piped (pipe.DroppingEnd at)))
      (order : IsInOrder (with_spaces s (dropped s n fd))) where
    pub end_keeps : KeepsStanding progress.Hidden n s
        (with_extra (with_spaces s (dropped s n fd)) n (words_at SERVICE_CLOSE (step.Piped (pipe.DroppingPipe fd)))) []
    end_keeps a h turn quiet =
        let v = served h.1 n (service.Close fd) (step.Piped (pipe.DroppingEnd at)) stands in
        let here : IsIn (slot_at s n) v.b (service.Close fd) entered = v.at.0 in
        let below : fd < DESCRIPTORS = v.at.2 in
        let there : HasPipePage row fd = v.at.4 in (
          refl,
          (
            h.0,
            end_dropped h.1 n (service.Close fd) (step.Piped (pipe.DroppingEnd at)) v refl refl refl fd below turn.last (drop_removes s n fd h.1 below) order (
              in_with_words (words_at SERVICE_CLOSE (step.Piped (pipe.DroppingPipe fd))) here,
              refl,
              below,
              dropped_here s n fd h.1 below,
              ap is_some (pipe_still s n fd h.1 below) ∙ there,
            ),
          ),
        )

  -- and the pipe's

  module _ (at : ℕ) (stands : place_of (slot_at s n) ≡ place.InService (service.Close fd) (step.Piped (pipe.DroppingPipe at)))
      (order : IsInOrder (with_spaces s (pipe_dropped s n fd))) where
    pub pipe_keeps : KeepsStanding progress.Finished n s (service_answered (with_spaces s (pipe_dropped s n fd)) n 0) []
    pipe_keeps a h turn quiet =
        let same : at ≡ fd = (served h.1 n (service.Close fd) (step.Piped (pipe.DroppingPipe at)) stands).at.1 in
        let v = served h.1 n (service.Close fd) (step.Piped (pipe.DroppingPipe fd))
        (stands ∙ ap (λ (q : ℕ). place.InService (service.Close fd) (step.Piped (pipe.DroppingPipe q))) same) in
        let here : IsIn (slot_at s n) v.b (service.Close fd) entered = v.at.0 in
        let below : fd < DESCRIPTORS = v.at.2 in
        let vacant : row (descriptor_page fd) ≡ None = v.at.3 in
        let name = dropped_name h.1 n (service.Close fd) fd v below v.at.4 in (
          answered a n (with_descriptor v.b fd None) regs 0,
          step_in a n v.b (slot_at s n) (service.Close fd) entered v.is here ∙ close_drops a n v.b regs fd name.0 name.1,
          printed_nothing a,
          (
            h.0,
            pipe_dropped_answers h.1 n (service.Close fd) fd v below refl here turn.last vacant (pipe_drop_removes s n fd h.1 below) order 0,
          ),
        )
