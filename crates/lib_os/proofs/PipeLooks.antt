-- pipe looks for the two lowest descriptors that are free: whether the region of descriptors' pages has a table, and then which of their pages is
-- not there. Where there are no two, it refuses.
use Rattle.std.proofs.Common.{◌≡◌, ◌≢◌, ◌∙◌, ◌+◌, ◌<◌, ◌≤◌, ◌==◌, inl, inr, ℕ, true, false, [], Option, Some, None, refl, sym, ap, arith}
use Rattle.std.specs.Prelude.{bit_and, is_some}
use Rattle.std.proofs.lemmas.Bool.{cases_eq}
use Rattle.jos_base.specs.declared.numbers.TheConstants.{E_MAX_OPEN, PTE_P}
use Rattle.jos_base.specs.KernelState.{KernelState, slot_at, with_extra}
use Rattle.jos_base.specs.Reach.{Entry}
use Rattle.jos_base.specs.Words.{negated, upd}
use Rattle.jos_base.proofs.Maps.{upd-all}
use Rattle.lib_os.specs.declared.numbers.TheConstants.{DESCRIPTORS}
use Rattle.lib_os.specs.declared.place.PipeStep.TheVariants as pipe
use Rattle.lib_os.specs.declared.place.Place.TheVariants as place
use Rattle.lib_os.specs.declared.place.Step.{Step}
use Rattle.lib_os.specs.declared.place.Step.TheVariants as step
use Rattle.lib_os.specs.declared.service.Service.TheVariants as service
use Rattle.lib_os.specs.AbstractRun.{abs_step}
use Rattle.lib_os.specs.AbstractState.{AbstractState, entered}
use Rattle.lib_os.specs.Answers.{refused}
use Rattle.lib_os.specs.Descriptors.{lowest_free, next_free, pipe_on}
use Rattle.lib_os.specs.InOrder.{IsInOrder}
use Rattle.lib_os.specs.LibraryCall.{library_step}
use Rattle.lib_os.specs.LibrarySteps.{GoesOn, service_answered}
use Rattle.lib_os.specs.Places.{place_of, words_at}
use Rattle.lib_os.specs.Rows.{EntryRow, Names, descriptor_page, pipe_page, rows_of}
use Rattle.lib_os.specs.InService.{EachIsOpenBelow, HasTable, IsIn, IsLowestFree, IsOpen}
use Rattle.lib_os.specs.StandsAtPipe.{IsLookingForSecond, IsMakingPipe}
use Rattle.lib_os.specs.StandsFor.{StandsFor, view_of}
use Rattle.lib_os.proofs.DescriptorLooks.{SeesDescriptors, entry_va, no_table_row, none_seen, none_there, open_seen, page_gives, page_told}
use Rattle.lib_os.proofs.DescriptorLooks.{page_word, read_answers}
use Rattle.lib_os.specs.UserCalls.{load}
use Rattle.lib_os.proofs.DescriptorLooks.{read_goes_on, seen_calm, table_told, table_va, table_word}
use Rattle.lib_os.proofs.FreeSeen.{all_seen, lowest_seen, none_free_from}
use Rattle.lib_os.proofs.GoingOn.{in_with_words}
use Rattle.lib_os.proofs.Loading.{loaded}
use Rattle.lib_os.proofs.Numbered.{number_of}
use Rattle.lib_os.proofs.PipesStand.{calm_on_way, is_calm, no_pipe_beside}
use Rattle.lib_os.proofs.Serving.{IsServed, printed_nothing, served, step_in}
use Rattle.lib_os.proofs.StatesStand.{ends_at}
use Rattle.lib_os.proofs.WindowWords.{read_at}

-- where this one is open, too, each is up to the next one
up_to_next : (row : EntryRow) (reading fd : ℕ) → ((q : ℕ) → q < fd → q ≢ reading → IsOpen row q) → (fd ≢ reading → IsOpen row fd) →
    (q : ℕ) → q < fd + 1 → q ≢ reading → IsOpen row q
up_to_next row reading fd each here q low ne = elim (cases_eq q fd) [
  | inl same ↦ ap (λ (r : ℕ). is_some (row (descriptor_page r))) same ∙ here (λ is. ne (same ∙ is))
  | inr other ↦ each q (omega (arith, low, other)) ne
]

module _ {names : Names} {s : KernelState} {a : AbstractState} (h : StandsFor names s a) (n : ℕ) (from : Step)
    (stands : place_of (slot_at s n) ≡ place.InService service.Pipe from) (calm : is_calm (place.InService service.Pipe from) ≡ true) where
  abbrev pub at_look : IsServed names s a n service.Pipe from
  at_look = served h n service.Pipe from stands

  abbrev pub look_row : EntryRow
  look_row = rows_of s.spaces (slot_at s n).directory

  calm_here : is_calm (place_of (slot_at s n)) ≡ true
  calm_here = ap is_calm stands ∙ calm

  seen_here : SeesDescriptors names s n at_look.b
  seen_here = seen_calm h n at_look.b at_look.is calm_here

  -- beside a descriptor that is free no page of a pipe stands
  pub no_pipe_page : (fd : ℕ) → fd < DESCRIPTORS → look_row (descriptor_page fd) ≡ None → look_row (pipe_page fd) ≡ None
  no_pipe_page fd below none =
      no_pipe_beside (ends_at h n at_look.b at_look.is) fd below (calm_on_way (place_of (slot_at s n)) calm_here fd)
      (none_seen h n at_look.b at_look.is seen_here fd none)

  -- two are found
  pub two_found : (reading writing : ℕ) → IsIn (slot_at s n) at_look.b service.Pipe entered → reading < writing → writing < DESCRIPTORS →
      ((q : ℕ) → q < writing → q ≢ reading → IsOpen look_row q) → look_row (descriptor_page reading) ≡ None →
      look_row (descriptor_page writing) ≡ None →
      IsMakingPipe (view_of s.spaces (slot_at s n).directory)
      (record (slot_at s n) { extra = words_at (number_of service.Pipe) (step.Piped (pipe.TakingReading reading writing)) }) at_look.b
      (pipe.TakingReading reading writing) reading writing
  two_found reading writing is_in order below lower first second = record {
    is_in = in_with_words (words_at (number_of service.Pipe) (step.Piped (pipe.TakingReading reading writing))) is_in;
    lowest = record { order = order; below = below; lower = lower };
    so_far = (first, second, no_pipe_page reading (omega (arith, order, below)) first);
    none = no_pipe_page writing below second;
  }

  -- ---- there are no two

  abbrev refusal : AbstractState
  refusal = refused a n at_look.b (slot_at s n).registers E_MAX_OPEN

  no_two : IsIn (slot_at s n) at_look.b service.Pipe entered → (first second : Option ℕ) → lowest_free at_look.b ≡ first →
      next_free at_look.b (lowest_free at_look.b) ≡ second → pipe_on a n at_look.b (slot_at s n).registers first second ≡ refusal →
      abs_step a n ≡ Some refusal
  unfolding library_step
  no_two is_in first second one two none =
      step_in a n at_look.b (slot_at s n) service.Pipe entered at_look.is is_in
      ∙ (λ i. Some (pipe_on a n at_look.b (slot_at s n).registers (one i) (two i))) ∙ ap (λ (x : AbstractState). Some x) none

  -- none is free
  pub none_free : IsIn (slot_at s n) at_look.b service.Pipe entered → EachIsOpenBelow look_row DESCRIPTORS → abs_step a n ≡ Some refusal
  none_free is_in each =
      let none : lowest_free at_look.b ≡ None = all_seen h n at_look.b at_look.is seen_here each in
      no_two is_in None None none (ap (next_free at_look.b) none) refl

  -- one alone is
  pub one_free : IsIn (slot_at s n) at_look.b service.Pipe entered → (fd : ℕ) → IsLowestFree look_row fd →
      ((q : ℕ) → q < DESCRIPTORS → q ≢ fd → IsOpen look_row q) → abs_step a n ≡ Some refusal
  one_free is_in fd lowest each =
      let one : lowest_free at_look.b ≡ Some fd = lowest_seen h n at_look.b at_look.is seen_here fd lowest in
      no_two is_in (Some fd) None one (ap (next_free at_look.b) one ∙ none_free_from (upd at_look.b.descriptors fd (Some 0)) 0 DESCRIPTORS filled) refl
    where
      filled : (q : ℕ) → 0 ≤ q → q < 0 + DESCRIPTORS → is_some (upd at_look.b.descriptors fd (Some 0) q) ≡ true
      filled q from to =
          upd-all (λ q (w : Option ℕ). q < DESCRIPTORS → is_some w ≡ true) at_look.b.descriptors fd (Some 0) (λ below. refl)
          (λ q ne below. open_seen h n at_look.b at_look.is seen_here q below ∙ each q below ne) q (omega (arith, to))

-- ---- the region

module _ {names : Names} {s : KernelState} {a : AbstractState} (h : StandsFor names s a) (n : ℕ)
    (stands : place_of (slot_at s n) ≡ place.InService service.Pipe step.Entered) (order : IsInOrder (loaded s n table_va)) where
  abbrev v : IsServed names s a n service.Pipe step.Entered
  v = at_look h n step.Entered stands refl

  pub pipe_table_there : (bit_and (table_word s n) PTE_P == PTE_P) ≡ true →
      StandsFor names (with_extra (loaded s n table_va) n (words_at (number_of service.Pipe) (step.FreeEntry 0))) a
  pipe_table_there told =
      read_goes_on h n service.Pipe step.Entered v refl refl table_va order (step.FreeEntry 0) refl refl refl (
        in_with_words (words_at (number_of service.Pipe) (step.FreeEntry 0)) v.at,
        omega arith,
        (λ fd lt. absurd (omega (arith, lt))),
        sym (table_told s n) ∙ told,
      )

  -- no page stands there
  pub pipe_table_missing : (bit_and (table_word s n) PTE_P == PTE_P) ≡ false →
      StandsFor names (with_extra (loaded s n table_va) n (words_at (number_of service.Pipe) (step.Piped (pipe.TakingReading 0 1)))) a
  pipe_table_missing told =
      read_goes_on h n service.Pipe step.Entered v refl refl table_va order (step.Piped (pipe.TakingReading 0 1)) refl refl refl
      (two_found h n step.Entered stands refl 0 1 v.at (omega arith) (omega arith) (λ q low ne. absurd (omega (arith, low, ne)))
      (vacant 0 (omega arith)) (vacant 1 (omega arith)))
    where
      vacant : (fd : ℕ) → fd < DESCRIPTORS → rows_of s.spaces (slot_at s n).directory (descriptor_page fd) ≡ None
      vacant = no_table_row h n v.b v.is (sym (table_told s n) ∙ told)

-- ---- the first

module _ {names : Names} {s : KernelState} {a : AbstractState} (h : StandsFor names s a) (n fd : ℕ)
    (stands : place_of (slot_at s n) ≡ place.InService service.Pipe (step.FreeEntry fd)) (order : IsInOrder (loaded s n (entry_va fd))) where
  abbrev first : IsServed names s a n service.Pipe (step.FreeEntry fd)
  first = at_look h n (step.FreeEntry fd) stands refl

  abbrev first_row : EntryRow
  first_row = rows_of s.spaces (slot_at s n).directory

  so : IsIn (slot_at s n) first.b service.Pipe entered × (fd < DESCRIPTORS) × EachIsOpenBelow first_row fd
      × HasTable (view_of s.spaces (slot_at s n).directory)
  so = first.at

  pub first_taken : fd + 1 < DESCRIPTORS → (bit_and (page_word s n fd) PTE_P == PTE_P) ≡ true →
      StandsFor names (with_extra (loaded s n (entry_va fd)) n (words_at (number_of service.Pipe) (step.FreeEntry (fd + 1)))) a
  first_taken more told =
      read_goes_on h n service.Pipe (step.FreeEntry fd) first refl refl (entry_va fd) order (step.FreeEntry (fd + 1)) refl refl refl
      (in_with_words (words_at (number_of service.Pipe) (step.FreeEntry (fd + 1))) so.0, more, each, so.3)
    where
      each : EachIsOpenBelow first_row (fd + 1)
      each q low = elim (cases_eq q fd) [
        | inl same ↦ ap (λ (r : ℕ). is_some (first_row (descriptor_page r))) same ∙ sym (page_told h n first.b first.is fd so.1) ∙ told
        | inr ne ↦ so.2 q (omega (arith, low, ne))
      ]

  pub first_free : fd + 1 < DESCRIPTORS → (bit_and (page_word s n fd) PTE_P == PTE_P) ≡ false →
      StandsFor names (with_extra (loaded s n (entry_va fd)) n (words_at (number_of service.Pipe) (step.Piped (pipe.SecondEntry fd (fd + 1))))) a
  first_free more told =
      read_goes_on h n service.Pipe (step.FreeEntry fd) first refl refl (entry_va fd) order (step.Piped (pipe.SecondEntry fd (fd + 1))) refl refl refl
      (record {
        is_in = in_with_words (words_at (number_of service.Pipe) (step.Piped (pipe.SecondEntry fd (fd + 1)))) so.0;
        lowest = record { below = so.1; vacant = vacant; lower = so.2 };
        order = omega arith;
        below = more;
        between = λ q low ne. so.2 q (omega (arith, low, ne));
        table = so.3;
      })
    where
      vacant : first_row (descriptor_page fd) ≡ None
      vacant = none_there (first_row (descriptor_page fd)) (sym (page_told h n first.b first.is fd so.1) ∙ told)

-- it is the last, so that there are no two, be it free or not
pub first_last : {names : Names} {s : KernelState} {a : AbstractState} → StandsFor names s a → (n fd : ℕ) →
    place_of (slot_at s n) ≡ place.InService service.Pipe (step.FreeEntry fd) → IsInOrder (loaded s n (entry_va fd)) → DESCRIPTORS ≤ fd + 1 →
    GoesOn n (service_answered (loaded s n (entry_va fd)) n (negated E_MAX_OPEN)) a []
first_last {names = names} {s = s} {a = a} h n fd stands order past = (
  refused a n v.b (slot_at s n).registers E_MAX_OPEN,
  by_row (first_row (descriptor_page fd)) refl,
  printed_nothing a,
  (names, read_answers h n service.Pipe (step.FreeEntry fd) v refl refl (entry_va fd) order refl so.0 (negated E_MAX_OPEN)),
)
  where
    v : IsServed names s a n service.Pipe (step.FreeEntry fd)
    v = at_look h n (step.FreeEntry fd) stands refl

    first_row : EntryRow
    first_row = rows_of s.spaces (slot_at s n).directory

    so : IsIn (slot_at s n) v.b service.Pipe entered × (fd < DESCRIPTORS) × EachIsOpenBelow first_row fd
        × HasTable (view_of s.spaces (slot_at s n).directory)
    so = v.at

    by_row : (o : Option Entry) → first_row (descriptor_page fd) ≡ o → abs_step a n ≡ Some (refused a n v.b (slot_at s n).registers E_MAX_OPEN)
    by_row None vacant =
        one_free h n (step.FreeEntry fd) stands refl so.0 fd (record { below = so.1; vacant = vacant; lower = so.2 })
        (λ q low ne. so.2 q (omega (arith, low, ne, past)))
    by_row (Some x) there = none_free h n (step.FreeEntry fd) stands refl so.0 each
      where
        each : EachIsOpenBelow first_row DESCRIPTORS
        each q low = elim (cases_eq q fd) [
          | inl same ↦ ap (λ (r : ℕ). is_some (first_row (descriptor_page r))) same ∙ ap is_some there
          | inr ne ↦ so.2 q (omega (arith, low, ne, past))
        ]

-- ---- the second

module _ {names : Names} {s : KernelState} {a : AbstractState} (h : StandsFor names s a) (n reading fd : ℕ)
    (stands : place_of (slot_at s n) ≡ place.InService service.Pipe (step.Piped (pipe.SecondEntry reading fd)))
    (order : IsInOrder (loaded s n (entry_va fd))) where
  abbrev second : IsServed names s a n service.Pipe (step.Piped (pipe.SecondEntry reading fd))
  second = at_look h n (step.Piped (pipe.SecondEntry reading fd)) stands refl

  abbrev second_row : EntryRow
  second_row = rows_of s.spaces (slot_at s n).directory

  it : IsLookingForSecond (view_of s.spaces (slot_at s n).directory) (slot_at s n) second.b reading fd
  it = second.at

  pub second_free : (bit_and (page_word s n fd) PTE_P == PTE_P) ≡ false →
      StandsFor names (with_extra (loaded s n (entry_va fd)) n (words_at (number_of service.Pipe) (step.Piped (pipe.TakingReading reading fd)))) a
  second_free told =
      read_goes_on h n service.Pipe (step.Piped (pipe.SecondEntry reading fd)) second refl refl (entry_va fd) order
      (step.Piped (pipe.TakingReading reading fd)) refl refl refl
      (two_found h n (step.Piped (pipe.SecondEntry reading fd)) stands refl reading fd it.is_in it.order it.below it.between it.lowest.vacant
      (none_there (second_row (descriptor_page fd)) (sym (page_told h n second.b second.is fd it.below) ∙ told)))

  pub second_taken : fd + 1 < DESCRIPTORS → (bit_and (page_word s n fd) PTE_P == PTE_P) ≡ true →
      StandsFor names
      (with_extra (loaded s n (entry_va fd)) n (words_at (number_of service.Pipe) (step.Piped (pipe.SecondEntry reading (fd + 1))))) a
  second_taken more told =
      let lower = it.order in
      read_goes_on h n service.Pipe (step.Piped (pipe.SecondEntry reading fd)) second refl refl (entry_va fd) order
      (step.Piped (pipe.SecondEntry reading (fd + 1))) refl refl refl (record {
        is_in = in_with_words (words_at (number_of service.Pipe) (step.Piped (pipe.SecondEntry reading (fd + 1)))) it.is_in;
        lowest = it.lowest;
        order = omega (arith, lower);
        below = more;
        between = up_to_next second_row reading fd it.between (λ ne. sym (page_told h n second.b second.is fd it.below) ∙ told);
        table = it.table;
      })

-- it is the last, and not free
pub second_last : {names : Names} {s : KernelState} {a : AbstractState} → StandsFor names s a → (n reading fd : ℕ) →
    place_of (slot_at s n) ≡ place.InService service.Pipe (step.Piped (pipe.SecondEntry reading fd)) →
    IsInOrder (loaded s n (entry_va fd)) → DESCRIPTORS ≤ fd + 1 → (bit_and (page_word s n fd) PTE_P == PTE_P) ≡ true →
    GoesOn n (service_answered (loaded s n (entry_va fd)) n (negated E_MAX_OPEN)) a []
second_last {names = names} {s = s} {a = a} h n reading fd stands order past told = (
  refused a n v.b (slot_at s n).registers E_MAX_OPEN,
  one_free h n (step.Piped (pipe.SecondEntry reading fd)) stands refl it.is_in reading it.lowest each,
  printed_nothing a,
  (
    names,
    read_answers h n service.Pipe (step.Piped (pipe.SecondEntry reading fd)) v refl refl (entry_va fd) order refl it.is_in (negated E_MAX_OPEN),
  ),
)
  where
    v : IsServed names s a n service.Pipe (step.Piped (pipe.SecondEntry reading fd))
    v = at_look h n (step.Piped (pipe.SecondEntry reading fd)) stands refl

    it : IsLookingForSecond (view_of s.spaces (slot_at s n).directory) (slot_at s n) v.b reading fd
    it = v.at

    each : (q : ℕ) → q < DESCRIPTORS → q ≢ reading → IsOpen (rows_of s.spaces (slot_at s n).directory) q
    each q low =
        up_to_next (rows_of s.spaces (slot_at s n).directory) reading fd it.between
        (λ ne. sym (page_told h n v.b v.is fd it.below) ∙ told) q (omega (arith, low, past))

-- ---- what is read there

module _ {names : Names} {s : KernelState} {a : AbstractState} (h : StandsFor names s a) (n : ℕ) where
  pub first_gives : (fd : ℕ) → place_of (slot_at s n) ≡ place.InService service.Pipe (step.FreeEntry fd) →
      load s n (entry_va fd) ≡ read_at s n (entry_va fd) (page_word s n fd)
  first_gives fd stands =
      let so : IsIn (slot_at s n) (served h n service.Pipe (step.FreeEntry fd) stands).b service.Pipe entered × (fd < DESCRIPTORS)
      × EachIsOpenBelow (rows_of s.spaces (slot_at s n).directory) fd × HasTable (view_of s.spaces (slot_at s n).directory) =
      (served h n service.Pipe (step.FreeEntry fd) stands).at in
      page_gives h n fd so.1 so.3

  pub second_gives : (reading fd : ℕ) → place_of (slot_at s n) ≡ place.InService service.Pipe (step.Piped (pipe.SecondEntry reading fd)) →
      load s n (entry_va fd) ≡ read_at s n (entry_va fd) (page_word s n fd)
  second_gives reading fd stands =
      let it : IsLookingForSecond (view_of s.spaces (slot_at s n).directory) (slot_at s n)
      (served h n service.Pipe (step.Piped (pipe.SecondEntry reading fd)) stands).b reading fd =
      (served h n service.Pipe (step.Piped (pipe.SecondEntry reading fd)) stands).at in
      page_gives h n fd it.below it.table
