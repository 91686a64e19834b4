-- exit: what it reads tells which descriptors are open; each that it drops is the lowest that is open; and where none is, the environment ends.
use Rattle.std.proofs.Common.{◌≡◌, ◌∙◌, ◌+◌, ◌%◌, ◌<◌, ℕ, Bool, true, false, not, [], None}
use Rattle.std.proofs.Common.{inl, inr, refl, sym, ap, subst, arith, if◌then◌else◌}
use Rattle.std.specs.Prelude.{is_some, nat_lt}
use Rattle.std.proofs.lemmas.Bool.{cases_eq}
use Rattle.std.proofs.lemmas.Bool.Decides.{nat_tests}
use Rattle.jos_base.specs.declared.called.Called.{Called}
use Rattle.jos_base.specs.declared.numbers.TheConstants.{FDTABLE}
use Rattle.jos_base.specs.Environments.{Slot, is_live}
use Rattle.jos_base.specs.KernelState.{KernelState, slot_at, with_extra, with_spaces}
use Rattle.jos_base.specs.SystemCalls.{without_environment}
use Rattle.jos_base.proofs.Uses.{directory_is}
use Rattle.lib_os.specs.declared.numbers.TheConstants.{DESCRIPTORS, SERVICE_EXIT}
use Rattle.lib_os.specs.declared.place.PipeStep.TheVariants as pipe
use Rattle.lib_os.specs.declared.place.Place.TheVariants as place
use Rattle.lib_os.specs.declared.place.Step.TheVariants as step
use Rattle.lib_os.specs.declared.progress.Progress.TheVariants as progress
use Rattle.lib_os.specs.declared.service.Service.TheVariants as service
use Rattle.lib_os.specs.AbstractMemory.{slot_freed}
use Rattle.lib_os.specs.AbstractState.{AbstractState, Born, entered, with_born}
use Rattle.lib_os.specs.Descriptors.{with_descriptor}
use Rattle.lib_os.specs.InOrder.{IsInOrder}
use Rattle.lib_os.specs.LibraryPages.{View, region_index}
use Rattle.lib_os.specs.LibrarySteps.{AbstractFollows, KeepsStanding}
use Rattle.lib_os.specs.Places.{place_of, words_at}
use Rattle.lib_os.specs.Rows.{EntryRow, Names, descriptor_page, pipe_page, rows_of}
use Rattle.lib_os.specs.InService.{HasTable, IsExiting, IsIn, IsOpen, NoneIsOpenBelow}
use Rattle.lib_os.specs.StandsAtPipe.{HasPipePage}
use Rattle.lib_os.specs.StandsFor.{StandsAtStep, StandsFor, borne_in, view_of}
use Rattle.lib_os.specs.UserCalls.{CallStep}
use Rattle.lib_os.proofs.DescriptorLooks.{entry_va, exit_drops, exit_ends, first_open, no_table_none, none_open, none_there}
use Rattle.lib_os.proofs.DescriptorLooks.{page_told, page_word, read_goes_on, seen_calm, table_told, table_va, table_word}
use Rattle.lib_os.proofs.DescriptorsStand.{drop_asked, drop_is, drop_removes, dropped, dropped_goes_on, dropped_here, dropped_none, dropped_tables}
use Rattle.lib_os.proofs.DescriptorsStand.{touches_calm}
use Rattle.lib_os.proofs.EndsDropped.{dropped_lowest, end_dropped, pipe_drop_asked, pipe_drop_is, pipe_drop_removes, pipe_dropped, pipe_dropped_goes_on}
use Rattle.lib_os.proofs.EndsDropped.{pipe_entry_va, pipe_gone_beside, pipe_gone_tables, pipe_told, pipe_word}
use Rattle.lib_os.proofs.EndsStand.{ended_stands}
use Rattle.lib_os.proofs.GoingOn.{in_with_words}
use Rattle.lib_os.proofs.Loading.{loaded}
use Rattle.lib_os.proofs.PipesStand.{is_calm, is_calm_step}
use Rattle.lib_os.proofs.Removing.{destroyed_gone}
use Rattle.lib_os.proofs.Serving.{IsServed, holds_page, served, step_in, printed_nothing}
use Rattle.lib_stage.specs.declared.ask.Next.TheVariants as next
use Rattle.lib_stage.specs.Nexts.{seen_as, settled}
use Rattle.lib_fd.specs.declared.exit.ExitStage.TheVariants as exit
use Rattle.lib_fd.specs.DescriptorStages.{behind, descriptor_of, exit_next, is_there}
use Rattle.lib_fd.proofs.EndPages.{pipe_still, still_there}

-- ---- behind a descriptor

-- none is open up to this one, which is not open either
none_further : (row : EntryRow) (fd : ℕ) → NoneIsOpenBelow row fd → row (descriptor_page fd) ≡ None → NoneIsOpenBelow row (fd + 1)
none_further row fd none closed q low = elim (cases_eq q fd) [
  | inl same ↦ ap (λ (r : ℕ). row (descriptor_page r)) same ∙ closed
  | inr ne ↦ none q (omega (arith, low, ne))
]

-- what stands where it goes on
stands_behind : (v : View) (k : Slot) (b : Born) (fd : ℕ) → fd < DESCRIPTORS → IsIn k b service.Exit entered → NoneIsOpenBelow v.row (fd + 1) →
    HasTable v → StandsAtStep v k b service.Exit (behind fd)
stands_behind v k b fd below is_in none table = by_test (nat_lt (descriptor_of fd + 1) DESCRIPTORS) refl
  where
    by_test : (c : Bool) → nat_lt (descriptor_of fd + 1) DESCRIPTORS ≡ c →
        StandsAtStep v k b service.Exit (if c then step.DescriptorEntry (descriptor_of fd + 1) else step.Ending)
    by_test true test =
        let further : fd % DESCRIPTORS + 1 < DESCRIPTORS = grind (arith, nat_tests) in
        (is_in, further, (λ q low. none q (omega (arith, below, low))), table)
    by_test false test =
        let last : fd % DESCRIPTORS + 1 < DESCRIPTORS → ⊥ = grind (arith, nat_tests) in
        (is_in, λ q low. none q (omega (arith, below, low, last)))

-- nothing is kept there, and no pipe is held there
behind_unborne : (fd : ℕ) → borne_in (place.InService service.Exit (behind fd)) ≡ None
behind_unborne fd = refl

behind_calm : (fd : ℕ) → is_calm_step (behind fd) ≡ true
behind_calm fd = by_test (nat_lt (descriptor_of fd + 1) DESCRIPTORS)
  where
    by_test : (c : Bool) → is_calm_step (if c then step.DescriptorEntry (descriptor_of fd + 1) else step.Ending) ≡ true
    by_test true = refl
    by_test false = refl

behind_holds : (fd : ℕ) → holds_page (place.InService service.Exit (step.DescriptorEntry fd)) ≡ holds_page (place.InService service.Exit (behind fd))
behind_holds fd = refl

-- ---- what it reads

-- whether the region has a table
module _ (s : KernelState) (n : ℕ) (stands : place_of (slot_at s n) ≡ place.InService service.Exit step.Entered)
    (names : Names) (a : AbstractState) (h : StandsFor names s a) (order : IsInOrder (loaded s n table_va)) where
  pub entered_follows :
      let x = exit_next exit.Entered (table_word s n) in AbstractFollows (seen_as x) n (settled SERVICE_EXIT x (loaded s n table_va) n) a []
  entered_follows = by_test (is_there (table_word s n)) refl
    where
      v : IsServed names s a n service.Exit step.Entered
      v = served h n service.Exit step.Entered stands

      is_in : IsIn (slot_at s n) v.b service.Exit entered
      is_in = v.at

      by_test : (c : Bool) → is_there (table_word s n) ≡ c →
          let x = if not c then next.GoOn step.Ending else next.GoOn (step.DescriptorEntry 0) in
          AbstractFollows (seen_as x) n (settled SERVICE_EXIT x (loaded s n table_va) n) a []
      by_test false absent = (
        refl,
        (
          names,
          read_goes_on h n service.Exit step.Entered v refl refl table_va order step.Ending refl refl refl (
            in_with_words (words_at SERVICE_EXIT step.Ending) is_in,
            no_table_none h n v.b v.is (sym (table_told s n) ∙ absent),
          ),
        ),
      )
      by_test true present = (
        refl,
        (
          names,
          read_goes_on h n service.Exit step.Entered v refl refl table_va order (step.DescriptorEntry 0) refl refl refl (
            in_with_words (words_at SERVICE_EXIT (step.DescriptorEntry 0)) is_in,
            omega arith,
            λ q low. absurd (omega (arith, low)),
            sym (table_told s n) ∙ present,
          ),
        ),
      )

-- what stands at a descriptor's page
module _ (s : KernelState) (n fd : ℕ) (stands : place_of (slot_at s n) ≡ place.InService service.Exit (step.DescriptorEntry fd))
    (names : Names) (a : AbstractState) (h : StandsFor names s a) (order : IsInOrder (loaded s n (entry_va fd))) where
  abbrev row : EntryRow
  row = rows_of s.spaces (slot_at s n).directory

  pub entry_follows :
      let x = exit_next (exit.Entry fd) (page_word s n fd) in
      AbstractFollows (seen_as x) n (settled SERVICE_EXIT x (loaded s n (entry_va fd)) n) a []
  entry_follows = by_test (is_there (page_word s n fd)) refl
    where
      v : IsServed names s a n service.Exit (step.DescriptorEntry fd)
      v = served h n service.Exit (step.DescriptorEntry fd) stands

      is_in : IsIn (slot_at s n) v.b service.Exit entered
      is_in = v.at.0

      below : fd < DESCRIPTORS
      below = v.at.1

      none : NoneIsOpenBelow row fd
      none = v.at.2

      table : HasTable (view_of s.spaces (slot_at s n).directory)
      table = v.at.3

      told : is_there (page_word s n fd) ≡ is_some (row (descriptor_page fd))
      told = page_told h n v.b v.is fd below

      by_test : (c : Bool) → is_there (page_word s n fd) ≡ c →
          let x = if not c then next.GoOn (behind fd) else next.GoOn (step.Piped (pipe.PipeEntry fd)) in
          AbstractFollows (seen_as x) n (settled SERVICE_EXIT x (loaded s n (entry_va fd)) n) a []
      by_test false absent = (
        refl,
        (
          names,
          read_goes_on h n service.Exit (step.DescriptorEntry fd) v refl refl (entry_va fd) order (behind fd) (behind_unborne fd)
              (behind_calm fd) (behind_holds fd)
              (stands_behind (view_of s.spaces (slot_at s n).directory) (record (slot_at s n) { extra = words_at SERVICE_EXIT (behind fd) }) v.b fd
              below (in_with_words (words_at SERVICE_EXIT (behind fd)) is_in)
              (none_further row fd none (none_there (row (descriptor_page fd)) (sym told ∙ absent))) table),
        ),
      )
      by_test true present = (
        refl,
        (
          names,
          read_goes_on h n service.Exit (step.DescriptorEntry fd) v refl refl (entry_va fd) order (step.Piped (pipe.PipeEntry fd)) refl refl refl (
            record { is_in = in_with_words (words_at SERVICE_EXIT (step.Piped (pipe.PipeEntry fd))) is_in; below = below; lower = none; table = table },
            sym told ∙ present,
          ),
        ),
      )

-- whether it has the page of a pipe
module _ (s : KernelState) (n fd : ℕ) (stands : place_of (slot_at s n) ≡ place.InService service.Exit (step.Piped (pipe.PipeEntry fd)))
    (names : Names) (a : AbstractState) (h : StandsFor names s a) (order : IsInOrder (loaded s n (pipe_entry_va fd))) where
  pub pipe_entry_follows :
      let x = exit_next (exit.PipeEntry fd) (pipe_word s n fd) in
      AbstractFollows (seen_as x) n (settled SERVICE_EXIT x (loaded s n (pipe_entry_va fd)) n) a []
  pipe_entry_follows = by_test (is_there (pipe_word s n fd)) refl
    where
      v : IsServed names s a n service.Exit (step.Piped (pipe.PipeEntry fd))
      v = served h n service.Exit (step.Piped (pipe.PipeEntry fd)) stands

      exiting : IsExiting (view_of s.spaces (slot_at s n).directory) (slot_at s n) v.b fd
      exiting = v.at.0

      is_open : IsOpen (rows_of s.spaces (slot_at s n).directory) fd
      is_open = v.at.1

      told : is_there (pipe_word s n fd) ≡ is_some (rows_of s.spaces (slot_at s n).directory (pipe_page fd))
      told = pipe_told h n v.b v.is fd exiting.below

      by_test : (c : Bool) → is_there (pipe_word s n fd) ≡ c →
          let x = next.GoOn (if c then step.Piped (pipe.DroppingEnd fd) else step.DroppingDescriptor fd) in
          AbstractFollows (seen_as x) n (settled SERVICE_EXIT x (loaded s n (pipe_entry_va fd)) n) a []
      by_test false absent = (
        refl,
        (
          names,
          read_goes_on h n service.Exit (step.Piped (pipe.PipeEntry fd)) v refl refl (pipe_entry_va fd) order (step.DroppingDescriptor fd) refl refl
              refl (
                in_with_words (words_at SERVICE_EXIT (step.DroppingDescriptor fd)) exiting.is_in,
                exiting.below,
                exiting.lower,
                exiting.table,
                is_open,
                none_there (rows_of s.spaces (slot_at s n).directory (pipe_page fd)) (sym told ∙ absent),
              ),
        ),
      )
      by_test true present = (
        refl,
        (
          names,
          read_goes_on h n service.Exit (step.Piped (pipe.PipeEntry fd)) v refl refl (pipe_entry_va fd) order (step.Piped (pipe.DroppingEnd fd)) refl
              refl refl (
                record {
                  is_in = in_with_words (words_at SERVICE_EXIT (step.Piped (pipe.DroppingEnd fd))) exiting.is_in;
                  below = exiting.below;
                  lower = exiting.lower;
                  table = exiting.table;
                },
                is_open,
                sym told ∙ present,
              ),
        ),
      )

-- ---- the lowest that is open is dropped

module _ (s : KernelState) (n fd : ℕ) (stands : place_of (slot_at s n) ≡ place.InService service.Exit (step.DroppingDescriptor fd))
    (live : is_live (slot_at s n) ≡ true) where
  abbrev d : ℕ
  d = (slot_at s n).directory

  pub dropping_keeps : IsInOrder (drop_asked s n fd).state →
      KeepsStanding progress.Visible n s (with_extra (drop_asked s n fd).state n (words_at SERVICE_EXIT (behind fd))) []
  dropping_keeps order a h turn quiet =
      subst (λ (t : KernelState). AbstractFollows progress.Visible n (with_extra t n (words_at SERVICE_EXIT (behind fd))) a []) (sym after) (
        with_born a n (with_descriptor v.b fd None),
        step_in a n v.b (slot_at s n) service.Exit entered v.is is_in
            ∙ exit_drops a n v.b (slot_at s n).registers fd
            (first_open h.1 n v.b v.is (seen_calm h.1 n v.b v.is (ap is_calm v.place)) fd below none is_open),
        printed_nothing a,
        (
          h.0,
          dropped_goes_on h.1 n service.Exit (step.DroppingDescriptor fd) v refl refl is_in fd below
              (touches_calm service.Exit (step.DroppingDescriptor fd) fd refl) turn.last (subst (λ (t : KernelState). IsInOrder t) after order)
              (drop_removes s n fd h.1 below) v.at.5 (behind fd) (behind_unborne fd) (behind_calm fd)
              (stands_behind (view_of (dropped s n fd) d) (record (slot_at s n) { extra = words_at SERVICE_EXIT (behind fd) })
              (with_descriptor v.b fd None) fd below
              (record { program = is_in.program; phase = is_in.phase; silent = is_in.silent; awake = is_in.awake })
              (dropped_none s n fd h.1 below none) (dropped_tables s n fd h.1 below (region_index FDTABLE) ∙ table)),
        ),
      )
    where
      v : IsServed h.0 s a n service.Exit (step.DroppingDescriptor fd)
      v = served h.1 n service.Exit (step.DroppingDescriptor fd) stands

      is_in : IsIn (slot_at s n) v.b service.Exit entered
      is_in = v.at.0

      below : fd < DESCRIPTORS
      below = v.at.1

      none : NoneIsOpenBelow (rows_of s.spaces d) fd
      none = v.at.2

      table : HasTable (view_of s.spaces d)
      table = v.at.3

      is_open : IsOpen (rows_of s.spaces d) fd
      is_open = v.at.4

      after : (drop_asked s n fd).state ≡ with_spaces s (dropped s n fd)
      after = ap (λ (z : CallStep Called). z.state) (drop_is s n fd live)

-- ---- the lowest is an end of a pipe: its own page goes,

module _ (s : KernelState) (n fd : ℕ) (stands : place_of (slot_at s n) ≡ place.InService service.Exit (step.Piped (pipe.DroppingEnd fd))) where
  pub end_keeps : IsInOrder (with_spaces s (dropped s n fd)) →
      KeepsStanding progress.Hidden n s (with_extra (with_spaces s (dropped s n fd)) n (words_at SERVICE_EXIT (step.Piped (pipe.DroppingPipe fd)))) []
  end_keeps order a h turn quiet =
      let v = served h.1 n service.Exit (step.Piped (pipe.DroppingEnd fd)) stands in
      let exiting : IsExiting (view_of s.spaces (slot_at s n).directory) (slot_at s n) v.b fd = v.at.0 in
      let there : HasPipePage (rows_of s.spaces (slot_at s n).directory) fd = v.at.2 in (
        refl,
        (
          h.0,
          end_dropped h.1 n service.Exit (step.Piped (pipe.DroppingEnd fd)) v refl refl refl fd exiting.below turn.last
              (drop_removes s n fd h.1 exiting.below) order (
                record {
                  is_in = in_with_words (words_at SERVICE_EXIT (step.Piped (pipe.DroppingPipe fd))) exiting.is_in;
                  below = exiting.below;
                  lower = λ q low.
                      still_there s n fd h.1 exiting.below (descriptor_page q) (λ same. omega (arith, same, low)) ∙ exiting.lower q low;
                  table = dropped_tables s n fd h.1 exiting.below (region_index FDTABLE) ∙ exiting.table;
                },
                dropped_here s n fd h.1 exiting.below,
                ap is_some (pipe_still s n fd h.1 exiting.below) ∙ there,
              ),
        ),
      )

-- and then the pipe's.
module _ (s : KernelState) (n fd : ℕ) (stands : place_of (slot_at s n) ≡ place.InService service.Exit (step.Piped (pipe.DroppingPipe fd)))
    (live : is_live (slot_at s n) ≡ true) where
  pub pipe_keeps : IsInOrder (pipe_drop_asked s n fd).state →
      KeepsStanding progress.Visible n s (with_extra (pipe_drop_asked s n fd).state n (words_at SERVICE_EXIT (behind fd))) []
  pipe_keeps order a h turn quiet =
      subst (λ (t : KernelState). AbstractFollows progress.Visible n (with_extra t n (words_at SERVICE_EXIT (behind fd))) a []) (sym after) (
        with_born a n (with_descriptor v.b fd None),
        step_in a n v.b (slot_at s n) service.Exit entered v.is exiting.is_in
            ∙ exit_drops a n v.b (slot_at s n).registers fd (dropped_lowest h.1 n service.Exit fd v exiting.below there exiting.lower),
        printed_nothing a,
        (
          h.0,
          pipe_dropped_goes_on h.1 n service.Exit fd v exiting.below refl exiting.is_in turn.last vacant
              (pipe_drop_removes s n fd h.1 exiting.below) (subst (λ (t : KernelState). IsInOrder t) after order) (behind fd) (behind_unborne fd)
              (behind_calm fd)
              (stands_behind (view_of (pipe_dropped s n fd) own) (record (slot_at s n) { extra = words_at SERVICE_EXIT (behind fd) })
              (with_descriptor v.b fd None) fd exiting.below
              (record { program = exiting.is_in.program; phase = exiting.is_in.phase; silent = exiting.is_in.silent; awake = exiting.is_in.awake })
              (none_further (rows_of (pipe_dropped s n fd) own) fd (λ q low. beside q (omega (arith, low, exiting.below)) ∙ exiting.lower q low)
              (beside fd exiting.below ∙ vacant))
              (pipe_gone_tables s n fd h.1 exiting.below (region_index FDTABLE) ∙ exiting.table)),
        ),
      )
    where
      own : ℕ
      own = (slot_at s n).directory

      v : IsServed h.0 s a n service.Exit (step.Piped (pipe.DroppingPipe fd))
      v = served h.1 n service.Exit (step.Piped (pipe.DroppingPipe fd)) stands

      exiting : IsExiting (view_of s.spaces (slot_at s n).directory) (slot_at s n) v.b fd
      exiting = v.at.0

      vacant : rows_of s.spaces (slot_at s n).directory (descriptor_page fd) ≡ None
      vacant = v.at.1

      there : HasPipePage (rows_of s.spaces (slot_at s n).directory) fd
      there = v.at.2

      beside : (q : ℕ) → q < DESCRIPTORS → rows_of (pipe_dropped s n fd) own (descriptor_page q) ≡ rows_of s.spaces own (descriptor_page q)
      beside q low = pipe_gone_beside s n fd h.1 exiting.below (descriptor_page q) (λ same. absurd (omega (arith, same, low)))

      after : (pipe_drop_asked s n fd).state ≡ with_spaces s (pipe_dropped s n fd)
      after = ap (λ (z : CallStep Called). z.state) (pipe_drop_is s n fd live)

-- ---- none is open

module _ (s : KernelState) (n : ℕ) (stands : place_of (slot_at s n) ≡ place.InService service.Exit step.Ending)
    (live : is_live (slot_at s n) ≡ true) where
  pub ending_keeps : IsInOrder (without_environment s n) → KeepsStanding progress.Ended n s (without_environment s n) []
  ending_keeps order a h turn quiet =
      let v = served h.1 n service.Exit step.Ending stands in
      let at : IsIn (slot_at s n) v.b service.Exit entered × NoneIsOpenBelow (rows_of s.spaces (slot_at s n).directory) DESCRIPTORS = v.at in
      let used = directory_is (s.spaces.uses (slot_at s n).directory) (h.1.in_order.spaces.in_use n live) in
      let gone = destroyed_gone s.spaces (slot_at s n).directory h.1.in_order.frames used in (
        slot_freed a n v.b,
        step_in a n v.b (slot_at s n) service.Exit entered v.is at.0
            ∙ exit_ends a n v.b (slot_at s n).registers (none_open h.1 n v.b v.is (seen_calm h.1 n v.b v.is (ap is_calm v.place)) at.1),
        printed_nothing a,
        (h.0, ended_stands h.1 n v.b v.is (ap borne_in v.place) (ap is_calm v.place) turn.last gone order),
      )
