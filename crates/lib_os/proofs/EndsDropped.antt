-- An end of a pipe is dropped in two steps: its descriptor's page is unmapped, which nobody sees, and then the page of the pipe, at which the
-- descriptor is gone. And one is made as another in two: the page of the pipe is mapped, which nobody sees, and then the descriptor's.
-- (MIT 6.828, lab 5: lib/fd.c, fd_close and dup; lib/pipe.c, devpipe_close.)
use Rattle.std.proofs.Common.{◌≡◌, ◌≢◌, ◌∙◌, ◌+◌, ◌*◌, ◌/◌, ◌%◌, ◌<◌, ◌≤◌, ◌==◌, ◌⊎◌, inl, inr, ℕ, Bool, true, false, List, [], ◌∷◌, Option, Some, None}
use Rattle.std.proofs.Common.{refl, sym, ap, subst, arith, if◌then◌else◌}
use Rattle.std.specs.Prelude.{bit_and, is_some, nat_lt}
use Rattle.std.specs.Option.{option_map}
use Rattle.std.proofs.lemmas.Bool.Decides.{nat_tests}
use Rattle.std.proofs.lemmas.Option.{none-some, same_Some}
use Rattle.jos_base.specs.declared.called.Called.{Called}
use Rattle.jos_base.specs.declared.called.Called.TheVariants.{Answered}
use Rattle.jos_base.specs.declared.numbers.TheConstants.{FDTABLE, NPTENTRIES, PGSIZE, PTE_P, SYS_PAGE_MAP, SYS_PAGE_UNMAP, UVPT}
use Rattle.jos_base.specs.declared.registers.Regs.{Regs}
use Rattle.jos_base.specs.Counting.{page_limit}
use Rattle.jos_base.specs.Environments.{is_live, no_extra}
use Rattle.jos_base.specs.KernelState.{KernelState, slot_at, with_extra, with_spaces}
use Rattle.jos_base.specs.Reach.{Entry}
use Rattle.jos_base.specs.SpacesState.{SpacesState, inserted, mapped, put, unmapped}
use Rattle.jos_base.specs.SystemCalls.{has_write, is_page_address, shared_entry}
use Rattle.jos_base.specs.Windows.{entry_word}
use Rattle.jos_base.specs.Words.{page_number, upd}
use Rattle.lib_os.specs.declared.numbers.TheConstants.{DESCRIPTORS}
use Rattle.lib_os.specs.declared.place.PipeStep.TheVariants as pipe
use Rattle.lib_os.specs.declared.place.Place.{Place}
use Rattle.lib_os.specs.declared.place.Place.TheVariants as place
use Rattle.lib_os.specs.declared.place.Step.{Step}
use Rattle.lib_os.specs.declared.place.Step.TheVariants as step
use Rattle.lib_os.specs.declared.service.Service.{Service}
use Rattle.lib_os.specs.declared.service.Service.TheVariants as service
use Rattle.lib_os.specs.AbstractState.{AbstractState, Born, at_guest, born, entered, guest, with_born}
use Rattle.lib_os.specs.Answers.{answered}
use Rattle.lib_os.specs.Descriptors.{lowest_open, object_name, with_descriptor}
use Rattle.lib_os.specs.InOrder.{IsInOrder}
use Rattle.lib_os.specs.InService.{IsDupping, IsIn, NoneIsOpenBelow}
use Rattle.lib_os.specs.LibrarySteps.{TakesAtMost, service_answered}
use Rattle.lib_os.specs.PipeEnds.{EndsStand, LocksStand, is_dropped, is_on_its_way, locked_at, pipe_named}
use Rattle.lib_os.specs.Places.{place_of, words_at}
use Rattle.lib_os.specs.Rows.{EntryRow, IsUsers, Names, Rows, descriptor_page, descriptor_seen, is_of_descriptor, is_pipe_page, name_of, page_by, pipe_page}
use Rattle.lib_os.specs.Rows.{descriptor_perm, logical, rows_of, shown_at}
use Rattle.lib_os.specs.StandsFor.{IsStatusFor, StandsAtStep, StandsFor, borne_in, seen_unless, things_in, view_of}
use Rattle.lib_os.specs.UserCalls.{CallStep, giving, load, system}
use Rattle.lib_os.proofs.CallersStay.{map_answers}
use Rattle.lib_os.proofs.Calls.{made_step, page_unmap_is}
use Rattle.lib_os.proofs.CopiesStand.{born_back}
use Rattle.lib_os.proofs.DescriptorLooks.{HasTableAt, descriptor_user, is_descriptors, none_seen, object_below, seen_calm, some_from, table_region}
use Rattle.lib_os.proofs.DescriptorsStand.{holds_none, locks_gone, locks_off, page_moves, removed_puts, removed_row, row_beside, row_there, seen_beside}
use Rattle.lib_os.proofs.DescriptorsStand.{given_puts, given_row, given_tables, locks_given, unmade_made}
use Rattle.lib_os.proofs.Effects.{Given, Quiet, Removed}
use Rattle.lib_os.proofs.EntriesStand.{PutsRow}
use Rattle.lib_os.proofs.EntryWords.{row_entry, row_told}
use Rattle.lib_os.proofs.FreeFrames.{mapped_more}
use Rattle.lib_os.proofs.GoingOn.{in_with_words}
use Rattle.lib_os.proofs.Logical.{is_making_pipe, is_plain, unborne_plain}
use Rattle.lib_os.proofs.Numbered.{named_at, number_of}
use Rattle.lib_os.proofs.PagesStand.{Puts}
use Rattle.lib_os.proofs.PipesStand.{calm_locked, calm_on_way, calm_unmade, ends_at_one, ends_moved, is_calm, is_calm_step}
use Rattle.lib_os.proofs.Placing.{inserted_given}
use Rattle.lib_os.proofs.Remapping.{given_on, inserted_already, lasting_write, page_map_is}
use Rattle.lib_os.proofs.Removing.{unmapped_removed}
use Rattle.lib_os.proofs.Serving.{IsServed, holds_page, words_of_none}
use Rattle.lib_os.proofs.SlotsStand.{born_at, born_live, minds_page}
use Rattle.lib_os.proofs.StatesStand.{ends_at, old_with}
use Rattle.lib_os.proofs.Trying.{LivesOn}
use Rattle.lib_os.proofs.WindowWords.{read_at, load_table_word}
use Rattle.lib_os.proofs.WordsTell.{handler_runs, place_at}
use Rattle.jos_base.proofs.Maps.{upd-all, upd-at, upd-other}
use Rattle.jos_base.proofs.Options.{some_is}
use Rattle.jos_base.proofs.Puts.{Elsewhere, place_cases, put-at, put-other}

-- ---- the page of a pipe

-- where it begins, and where the word of its entry stands
abbrev pub pipe_va : ℕ → ℕ
pipe_va fd = FDTABLE + PGSIZE * (DESCRIPTORS + fd % DESCRIPTORS)

abbrev pub pipe_entry_va : ℕ → ℕ
pipe_entry_va fd = UVPT + 4 * descriptor_page (DESCRIPTORS + fd % DESCRIPTORS)

pub pipe_address : (fd : ℕ) → is_page_address (pipe_va fd) ≡ true
pipe_address fd = grind (arith, nat_tests)

pub pipe_number : (fd : ℕ) → page_number (pipe_va fd) ≡ pipe_page (fd % DESCRIPTORS)
pipe_number fd = omega arith

pub pipe_entry_stands_at : (fd : ℕ) → fd < DESCRIPTORS → pipe_entry_va fd ≡ UVPT + 4 * pipe_page fd
pipe_entry_stands_at fd below = omega (arith, below)

pub pipe_region : (fd : ℕ) → fd < DESCRIPTORS → pipe_page fd / NPTENTRIES ≡ table_region
pipe_region fd below = omega (arith, below)

pipe_is_below : (fd : ℕ) → fd < DESCRIPTORS → pipe_page fd < page_limit
unfolding page_limit
pipe_is_below fd below = omega (arith, below)

pub is_descriptors_pipe : (fd : ℕ) → fd < DESCRIPTORS → is_of_descriptor (pipe_page fd) ≡ true
is_descriptors_pipe fd below = grind (arith, nat_tests)

-- the word of its entry, and that it tells whether the page is there
abbrev pub pipe_word : KernelState → ℕ → ℕ → ℕ
pipe_word s n fd = entry_word (s.spaces.entries (slot_at s n).directory (pipe_page fd))

module _ {names : Names} {s : KernelState} {a : AbstractState} (h : StandsFor names s a) (n : ℕ) where
  pub pipe_gives : (fd : ℕ) → fd < DESCRIPTORS → HasTableAt s n →
      load s n (pipe_entry_va fd) ≡ read_at s n (pipe_entry_va fd) (pipe_word s n fd)
  pipe_gives fd below there =
      subst (λ (va : ℕ). load s n va ≡ read_at s n va (pipe_word s n fd)) (sym (pipe_entry_stands_at fd below))
      (load_table_word s n h.in_order.frames (pipe_page fd) (pipe_is_below fd below)
      (ap (λ (r : ℕ). is_some (s.spaces.regions (slot_at s n).directory r)) (pipe_region fd below) ∙ there))

  pub pipe_told : (b : Born) → a.slots n ≡ born b → (fd : ℕ) → fd < DESCRIPTORS →
      (bit_and (pipe_word s n fd) PTE_P == PTE_P) ≡ is_some (rows_of s.spaces (slot_at s n).directory (pipe_page fd))
  pipe_told b at fd below =
      row_told s.spaces (slot_at s n).directory (pipe_page fd)
      (λ x is. subst (λ (perm : ℕ). IsUsers perm)
      (sym ((born_at h n b at).library.descriptors (pipe_page fd) x (is_descriptors_pipe fd below) is)) descriptor_user)

-- ---- the call that drops it

module _ (s : KernelState) (n fd : ℕ) where
  abbrev own_space : ℕ
  own_space = (slot_at s n).directory

  -- the spaces behind it
  abbrev pub pipe_dropped : SpacesState
  pipe_dropped = unmapped s.spaces own_space (pipe_page (fd % DESCRIPTORS))

  abbrev pub pipe_drop_asked : CallStep Called
  pipe_drop_asked = system s n SYS_PAGE_UNMAP (0 ∷ pipe_va fd ∷ 0 ∷ 0 ∷ 0 ∷ [])

  pub pipe_drop_is : is_live (slot_at s n) ≡ true → pipe_drop_asked ≡ giving (with_spaces s pipe_dropped) (Answered 0)
  pipe_drop_is live =
      page_unmap_is s n live (pipe_va fd) (0 ∷ 0 ∷ 0 ∷ []) (pipe_address fd)
      ∙ ap (λ (p : ℕ). giving (with_spaces s (unmapped s.spaces own_space p)) (Answered 0)) (pipe_number fd)

  -- whatever the number is, the caller lives on
  pub pipe_drop_lives : is_live (slot_at s n) ≡ true → LivesOn pipe_drop_asked n (slot_at s n).registers
  pipe_drop_lives live =
      subst (λ (z : CallStep Called). LivesOn z n (slot_at s n).registers) (sym (pipe_drop_is live))
      (record { live = live; registers = refl; written = refl })

  module _ {names : Names} {a : AbstractState} (h : StandsFor names s a) (below : fd < DESCRIPTORS) where
    pub pipe_drop_removes : Removed s.spaces pipe_dropped own_space (pipe_page fd)
    pipe_drop_removes =
        let same : fd % DESCRIPTORS ≡ fd = omega (arith, below) in
        subst (λ (q : ℕ). Removed s.spaces pipe_dropped own_space (pipe_page q)) same
        (unmapped_removed s.spaces own_space (pipe_page (fd % DESCRIPTORS)) h.in_order.frames)

    -- that page is gone, and all others stand, with all tables
    pub pipe_gone_here : rows_of pipe_dropped own_space (pipe_page fd) ≡ None
    pipe_gone_here =
        ap (λ (rows : Rows). rows own_space (pipe_page fd)) pipe_drop_removes.rows ∙ put-at (rows_of s.spaces) own_space (pipe_page fd) None

    pub pipe_gone_beside : (q : ℕ) → q ≢ pipe_page fd → rows_of pipe_dropped own_space q ≡ rows_of s.spaces own_space q
    pipe_gone_beside q ne =
        ap (λ (rows : Rows). rows own_space q) pipe_drop_removes.rows
        ∙ put-other (rows_of s.spaces) own_space (pipe_page fd) None own_space q (λ same too. ne too)

    pub pipe_gone_tables : (r : ℕ) → is_some (pipe_dropped.regions own_space r) ≡ is_some (s.spaces.regions own_space r)
    pipe_gone_tables r = pipe_drop_removes.regions own_space r

-- ---- at the step between the two

dropping_unborne : (s : Service) (fd : ℕ) → borne_in (place.InService s (step.Piped (pipe.DroppingPipe fd))) ≡ None
dropping_unborne service.Fork fd = refl
dropping_unborne _ fd = refl

dropping_unmade : (s : Service) (fd : ℕ) → is_making_pipe (place.InService s (step.Piped (pipe.DroppingPipe fd))) ≡ false
dropping_unmade service.Pipe fd = refl
dropping_unmade _ fd = refl

dropping_on_way : (s : Service) (fd q : ℕ) → is_on_its_way (place.InService s (step.Piped (pipe.DroppingPipe fd))) q ≡ false
dropping_on_way service.Pipe fd q = refl
dropping_on_way (service.Dup old new) fd q = refl
dropping_on_way _ fd q = refl

descriptor_no_pipe : (fd : ℕ) → fd < DESCRIPTORS → is_pipe_page (descriptor_page fd) ≡ false
descriptor_no_pipe fd below = grind (arith, nat_tests)

-- ---- the descriptor's page is unmapped, and the pipe's is not yet

module _ {names : Names} {s : KernelState} {a : AbstractState} (h : StandsFor names s a) (n : ℕ) (service : Service) (from : Step)
    (v : IsServed names s a n service from) (unborne : borne_in (place.InService service from) ≡ None) (calm_from : is_calm_step from ≡ true)
    (calm : minds_page (place.InService service step.Entered) ≡ false) (fd : ℕ) (below : fd < DESCRIPTORS) (last : s.last ≡ Some n)
    {sp : SpacesState} (removed : Removed s.spaces sp (slot_at s n).directory (descriptor_page fd)) (in_order : IsInOrder (with_spaces s sp)) where
  abbrev d : ℕ
  d = (slot_at s n).directory

  abbrev to : Step
  to = step.Piped (pipe.DroppingPipe fd)

  abbrev after : Place
  after = place.InService service (step.Piped (pipe.DroppingPipe fd))

  there : place_of (record (slot_at s n) { registers = (slot_at s n).registers; extra = words_at (number_of service) to }) ≡ after
  there =
      place_at (slot_at s n).registers (number_of service) to v.outside
      ∙ ap (λ (x : Service). place.InService x to) (named_at (slot_at s n) service from v.place)

  puts : Puts names names s.spaces sp (slot_at s n).directory (descriptor_page fd) None
  puts = removed_puts h n v.b v.is (descriptor_page fd) removed

  calm_here : is_calm (place_of (slot_at s n)) ≡ true
  calm_here = ap is_calm v.place ∙ calm_from

  unborne_here : borne_in (place_of (slot_at s n)) ≡ None
  unborne_here = ap borne_in v.place ∙ unborne

  seen_still : (q : ℕ) → is_dropped after q ≡ false → v.b.descriptors q ≡ descriptor_seen names sp d q
  seen_still q still = seen_calm h n v.b v.is calm_here q ∙ sym (by_test (nat_lt q DESCRIPTORS) refl)
    where
      other : q ≢ fd
      other = grind (arith, nat_tests, still)

      by_test : (c : Bool) → nat_lt q DESCRIPTORS ≡ c → descriptor_seen names sp d q ≡ descriptor_seen names s.spaces d q
      by_test true test =
          let q_below : q < DESCRIPTORS = grind (arith, nat_tests) in
          seen_beside h n v.b v.is (descriptor_page fd) (is_descriptors fd below) puts v.outside unborne_here
          (calm_unmade (place_of (slot_at s n)) calm_here) (calm_locked (place_of (slot_at s n)) calm_here) last q q_below
          (λ same. other (omega (arith, same)))
      by_test false test =
          ap (λ (c : Bool). if c then name_of (shown_at names sp d (descriptor_page q)) else None) test
          ∙ sym (ap (λ (c : Bool). if c then name_of (shown_at names s.spaces d (descriptor_page q)) else None) test)

  pipes_same : (q : ℕ) → q < DESCRIPTORS → rows_of sp d (pipe_page q) ≡ rows_of s.spaces d (pipe_page q)
  pipes_same q q_below =
      row_beside h n v.b v.is (descriptor_page fd) (is_descriptors fd below) puts v.outside unborne_here
      (calm_unmade (place_of (slot_at s n)) calm_here) (calm_locked (place_of (slot_at s n)) calm_here) last (pipe_page q)
      (λ same. absurd (omega (arith, same, q_below, below)))

  pub end_dropped : StandsAtStep (view_of sp (slot_at s n).directory)
      (record (slot_at s n) { extra = words_at (number_of service) (step.Piped (pipe.DroppingPipe fd)) }) v.b service
      (step.Piped (pipe.DroppingPipe fd)) →
      StandsFor names (with_extra (with_spaces s sp) n (words_at (number_of service) (step.Piped (pipe.DroppingPipe fd)))) a
  end_dropped so =
      subst (λ (x : AbstractState). StandsFor names (with_extra (with_spaces s sp) n (words_at (number_of service) to)) x) (born_back a n v.b v.is)
      (page_moves h n v.b v.is (descriptor_page fd) (is_descriptors fd below) puts v.outside unborne_here
      (calm_unmade (place_of (slot_at s n)) calm_here) (calm_locked (place_of (slot_at s n)) calm_here) last (slot_at s n).registers
      (words_at (number_of service) to) after there refl (dropping_unborne service fd) (dropping_unmade service fd) refl v.b.program v.b.phase
      v.b.blocked v.b.descriptors v.own.runs refl refl (ap holds_page v.place ∙ holds_none service calm from ∙ sym (holds_none service calm to))
      (removed_row h n v.b v.is (descriptor_page fd) removed) (λ x is. absurd (none-some x is)) (λ r. removed.regions d r) seen_still so
      (ends_moved (record {
        locked = sym (calm_locked (place_of (slot_at s n)) calm_here);
        on_way = λ q. dropping_on_way service fd q ∙ sym (calm_on_way (place_of (slot_at s n)) calm_here q);
      }) (λ q. refl) (λ q name is. refl) pipes_same (λ q x q_below is. refl) (ends_at h n v.b v.is))
      (locks_off h n v.b v.is (descriptor_page fd) (is_descriptors fd below) puts v.outside unborne_here
      (calm_unmade (place_of (slot_at s n)) calm_here) (calm_locked (place_of (slot_at s n)) calm_here) last (slot_at s n).registers
      (words_at (number_of service) to) after there refl (dropping_unborne service fd) (dropping_unmade service fd) refl
      (descriptor_no_pipe fd below)) in_order (λ q name names_it. h.old n q name v.b v.is names_it))

-- ---- and then the pipe's

module _ {names : Names} {s : KernelState} {a : AbstractState} (h : StandsFor names s a) (n : ℕ) (service : Service) (fd : ℕ)
    (v : IsServed names s a n service (step.Piped (pipe.DroppingPipe fd))) (below : fd < DESCRIPTORS) where
  abbrev row_now : EntryRow
  row_now = rows_of s.spaces (slot_at s n).directory

  dropping_ends : EndsStand names a.objects (place.InService service (step.Piped (pipe.DroppingPipe fd))) row_now v.b
  dropping_ends = subst (λ (at : Place). EndsStand names a.objects at row_now v.b) v.place (ends_at h n v.b v.is)

  -- all other descriptors are what is seen of their pages
  pub seen_others : (q : ℕ) → q ≢ fd → v.b.descriptors q ≡ descriptor_seen names s.spaces (slot_at s n).directory q
  seen_others q ne =
      let other : (q == fd) ≡ false = grind (arith, nat_tests) in
      v.own.descriptors q (ap (λ (at : Place). is_dropped at q) v.place ∙ other)
      ∙ ap (λ (c : Bool). seen_unless c (descriptor_seen names s.spaces (slot_at s n).directory q))
      (unmade_made (place_of (slot_at s n)) (ap is_making_pipe v.place ∙ dropping_unmade service fd) q)

  -- what it names still, by the page of its pipe
  pub dropped_name : is_some (row_now (pipe_page fd)) ≡ true → (name : ℕ) × (object_name v.b fd ≡ Some name)
  dropped_name there = by_row (row_now (pipe_page fd)) refl there
    where
      by_row : (o : Option Entry) → row_now (pipe_page fd) ≡ o → is_some o ≡ true → (name : ℕ) × (object_name v.b fd ≡ Some name)
      by_row None none is = absurd (let contradiction : false ≡ true = is in cc)
      by_row (Some x) stands is =
          let found = dropping_ends.only fd x below (dropping_on_way service fd fd) stands in
          (found.0, object_below h n v.b v.is fd below ∙ found.1)

  -- it is the lowest, where none is open below
  pub dropped_lowest : is_some (row_now (pipe_page fd)) ≡ true → NoneIsOpenBelow row_now fd → lowest_open v.b ≡ Some fd
  dropped_lowest there none =
      some_from v.b.descriptors 0 DESCRIPTORS fd (omega arith) (omega (arith, below)) none_lower named
    where
      named : is_some (v.b.descriptors fd) ≡ true
      named = let name = dropped_name there in ap is_some (sym (object_below h n v.b v.is fd below) ∙ name.1)

      none_lower : (q : ℕ) → 0 ≤ q → q < fd → v.b.descriptors q ≡ None
      none_lower q from low =
          let test : nat_lt q DESCRIPTORS ≡ true = grind (arith, nat_tests, low, below) in
          seen_others q (λ same. omega (arith, same, low))
          ∙ ap (λ (c : Bool). if c then name_of (shown_at names s.spaces (slot_at s n).directory (descriptor_page q)) else None) test
          ∙ ap (λ (o : Option Entry). name_of (option_map (page_by names s.spaces.pages) o)) (none q low)

  module _ (calm : minds_page (place.InService service step.Entered) ≡ false) (is_in : IsIn (slot_at s n) v.b service entered) (last : s.last ≡ Some n)
      (vacant : rows_of s.spaces (slot_at s n).directory (descriptor_page fd) ≡ None) {sp : SpacesState}
      (removed : Removed s.spaces sp (slot_at s n).directory (pipe_page fd)) (in_order : IsInOrder (with_spaces s sp)) where
    abbrev here : ℕ
    here = (slot_at s n).directory

    gone_puts : Puts names names s.spaces sp (slot_at s n).directory (pipe_page fd) None
    gone_puts = removed_puts h n v.b v.is (pipe_page fd) removed

    none_borne : borne_in (place_of (slot_at s n)) ≡ None
    none_borne = ap borne_in v.place ∙ dropping_unborne service fd

    none_made : is_making_pipe (place_of (slot_at s n)) ≡ false
    none_made = ap is_making_pipe v.place ∙ dropping_unmade service fd

    none_locked : locked_at (place_of (slot_at s n)) ≡ None
    none_locked = ap locked_at v.place

    row_off : (q : ℕ) → q ≢ pipe_page fd → rows_of sp (slot_at s n).directory q ≡ rows_of s.spaces (slot_at s n).directory q
    row_off q ne =
        row_beside h n v.b v.is (pipe_page fd) (is_descriptors_pipe fd below) gone_puts v.outside none_borne none_made none_locked last q ne

    descriptor_off_pipe : (q : ℕ) → q < DESCRIPTORS → descriptor_page q ≢ pipe_page fd
    descriptor_off_pipe q q_below same = absurd (omega (arith, same, q_below))

    seen_then : (q : ℕ) → upd v.b.descriptors fd None q ≡ descriptor_seen names sp here q
    seen_then = upd-all (λ q (w : Option ℕ). w ≡ descriptor_seen names sp here q) v.b.descriptors fd None (sym at_fd)
        (λ q ne. seen_others q ne ∙ sym (beside q (nat_lt q DESCRIPTORS) refl))
      where
        at_fd : descriptor_seen names sp here fd ≡ None
        at_fd =
            let test : nat_lt fd DESCRIPTORS ≡ true = grind (arith, nat_tests, below) in
            ap (λ (c : Bool). if c then name_of (shown_at names sp here (descriptor_page fd)) else None) test
            ∙ ap (λ (o : Option Entry). name_of (option_map (page_by names sp.pages) o))
            (row_off (descriptor_page fd) (descriptor_off_pipe fd below) ∙ vacant)

        beside : (q : ℕ) (c : Bool) → nat_lt q DESCRIPTORS ≡ c → descriptor_seen names sp here q ≡ descriptor_seen names s.spaces here q
        beside q true test =
            let q_below : q < DESCRIPTORS = grind (arith, nat_tests) in
            seen_beside h n v.b v.is (pipe_page fd) (is_descriptors_pipe fd below) gone_puts v.outside none_borne none_made none_locked last q q_below
            (descriptor_off_pipe q q_below)
        beside q false test =
            ap (λ (c : Bool). if c then name_of (shown_at names sp here (descriptor_page q)) else None) test
            ∙ sym (ap (λ (c : Bool). if c then name_of (shown_at names s.spaces here (descriptor_page q)) else None) test)

    ends_then : (to : Place) → is_calm to ≡ true → (c : Born) → ((q : ℕ) → c.descriptors q ≡ upd v.b.descriptors fd None q) →
        EndsStand names a.objects to (rows_of sp here) c
    ends_then to calm_to c is =
        ends_at_one fd (λ q ne. calm_on_way to calm_to q ∙ sym (dropping_on_way service fd q)) (λ q ne. is q ∙ upd-other v.b.descriptors fd None q ne)
        (λ q other it. refl) (λ q q_below ne. row_off (pipe_page q) (λ same. ne (omega (arith, same)))) (λ q x q_below it. refl) have only dropping_ends
      where
        have : (name other : ℕ) → fd < DESCRIPTORS → c.descriptors fd ≡ Some name → pipe_named a.objects name ≡ Some other →
            (entry : Entry) × (rows_of sp here (pipe_page fd) ≡ Some entry) × (names.name entry.frame ≡ other)
        have name other fd_below so piped = absurd (none-some name (sym (is fd ∙ upd-at v.b.descriptors fd None) ∙ so))

        only : (entry : Entry) → fd < DESCRIPTORS → is_on_its_way to fd ≡ false → rows_of sp here (pipe_page fd) ≡ Some entry →
            (name : ℕ) × (c.descriptors fd ≡ Some name) × (pipe_named a.objects name ≡ Some (names.name entry.frame))
        only entry fd_below off lies =
            absurd (none-some entry
            (sym (row_there h n v.b v.is (pipe_page fd) (is_descriptors_pipe fd below) gone_puts v.outside none_borne none_made none_locked last) ∙ lies))

    olds_then : (q name : ℕ) → upd v.b.descriptors fd None q ≡ Some name → name < a.next_name
    olds_then = old_with (λ q name names_it. h.old n q name v.b v.is names_it) fd None (λ name is. absurd (none-some name is))

    pub pipe_dropped_goes_on : (to : Step) → borne_in (place.InService service to) ≡ None → is_calm_step to ≡ true →
        StandsAtStep (view_of sp (slot_at s n).directory) (record (slot_at s n) { extra = words_at (number_of service) to }) (with_descriptor v.b fd None)
        service to →
        StandsFor names (with_extra (with_spaces s sp) n (words_at (number_of service) to)) (with_born a n (with_descriptor v.b fd None))
    pipe_dropped_goes_on to none calm_to so =
        page_moves h n v.b v.is (pipe_page fd) (is_descriptors_pipe fd below) gone_puts v.outside none_borne none_made none_locked last
        (slot_at s n).registers (words_at (number_of service) to) (place.InService service to) there_then refl none
        (calm_unmade (place.InService service to) calm_to) (calm_locked (place.InService service to) calm_to) v.b.program v.b.phase v.b.blocked
        (upd v.b.descriptors fd None) v.own.runs refl refl
        (ap holds_page v.place ∙ holds_none service calm (step.Piped (pipe.DroppingPipe fd)) ∙ sym (holds_none service calm to))
        (removed_row h n v.b v.is (pipe_page fd) removed) (λ x is. absurd (none-some x is)) (λ r. removed.regions here r) (λ q still. seen_then q) so
        (ends_then (place.InService service to) calm_to (with_descriptor v.b fd None) (λ q. refl))
        (locks_gone h n v.b v.is (pipe_page fd) (is_descriptors_pipe fd below) gone_puts v.outside none_borne none_made none_locked last
        (slot_at s n).registers (words_at (number_of service) to) (place.InService service to) there_then refl none
        (calm_unmade (place.InService service to) calm_to) (calm_locked (place.InService service to) calm_to) refl) in_order olds_then
      where
        there_then : place_of (record (slot_at s n) { registers = (slot_at s n).registers; extra = words_at (number_of service) to })
            ≡ place.InService service to
        there_then =
            place_at (slot_at s n).registers (number_of service) to v.outside
            ∙ ap (λ (x : Service). place.InService x to) (named_at (slot_at s n) service (step.Piped (pipe.DroppingPipe fd)) v.place)

    pub pipe_dropped_answers : (word : ℕ) →
        StandsFor names (service_answered (with_spaces s sp) n word) (answered a n (with_descriptor v.b fd None) (slot_at s n).registers word)
    pipe_dropped_answers word =
        page_moves h n v.b v.is (pipe_page fd) (is_descriptors_pipe fd below) gone_puts v.outside none_borne none_made none_locked last regs no_extra
        place.Guest back refl refl refl refl (guest regs) at_guest false (upd v.b.descriptors fd None)
        (subst (λ (blocked : Bool). IsStatusFor (slot_at s n).status blocked) is_in.awake v.own.runs) refl refl
        (ap holds_page v.place ∙ holds_none service calm (step.Piped (pipe.DroppingPipe fd))) (removed_row h n v.b v.is (pipe_page fd) removed)
        (λ x is. absurd (none-some x is)) (λ r. removed.regions here r) (λ q still. seen_then q)
        (record { program = refl; phase = refl; words = refl; silent = is_in.silent; awake = refl })
        (ends_then place.Guest refl (record (with_descriptor v.b fd None) { program = guest regs; phase = at_guest; blocked = false }) (λ q. refl))
        (locks_gone h n v.b v.is (pipe_page fd) (is_descriptors_pipe fd below) gone_puts v.outside none_borne none_made none_locked last regs no_extra
        place.Guest back refl refl refl refl refl) in_order olds_then
      where
        regs : Regs
        regs = record (slot_at s n).registers { eax = word }

        back : place_of (record (slot_at s n) { registers = regs; extra = no_extra }) ≡ place.Guest
        back = words_of_none regs no_extra v.outside refl

-- ---- dup, which maps the page of the pipe first, if there is one

-- what is put in the place of the same leaves all as it is
put_back : (rows : Rows) (d p : ℕ) (o : Option Entry) → rows d p ≡ o → put rows d p o ≡ rows
put_back rows d p o same = λ i q r. at q r i
  where
    at : (q r : ℕ) → put rows d p o q r ≡ rows q r
    at q r = by_place (place_cases q r d p)
      where
        by_place : ((q ≡ d) × (r ≡ p)) ⊎ Elsewhere q r d p → put rows d p o q r ≡ rows q r
        by_place (inl here) = (λ i. put rows d p o (here.0 i) (here.1 i)) ∙ put-at rows d p o ∙ sym same ∙ (λ i. rows (sym here.0 i) (sym here.1 i))
        by_place (inr there) = put-other rows d p o q r there

-- what stands at the old one's page of a pipe, and the spaces behind the call that maps it
pub record MapsPipe (s : KernelState) (n old new : ℕ) (asked : CallStep Called) : Type 0 where
  pub entry : Entry
  pub stands : rows_of s.spaces (slot_at s n).directory (pipe_page old) ≡ Some entry
  pub spaces : SpacesState
  pub takes : TakesAtMost 0 s.spaces spaces
  pub step : asked ≡ giving (with_spaces s spaces) (Answered 0)
  pub given : IsInOrder (with_spaces s spaces) → Given s.spaces spaces (slot_at s n).directory (pipe_page new) entry

pub pipe_begins : (fd : ℕ) → fd < DESCRIPTORS → (is_page_address (pipe_va fd) ≡ true) × (page_number (pipe_va fd) ≡ pipe_page fd)
pipe_begins fd below = (pipe_address fd, omega (arith, below))

module _ (s : KernelState) (n old new : ℕ) where
  abbrev pub pipe_map_asked : CallStep Called
  pipe_map_asked = system s n SYS_PAGE_MAP (0 ∷ pipe_va old ∷ 0 ∷ pipe_va new ∷ descriptor_perm ∷ [])

  -- whatever the numbers are, the caller lives on
  pub pipe_map_lives : is_live (slot_at s n) ≡ true → LivesOn pipe_map_asked n (slot_at s n).registers
  pipe_map_lives live =
      let it = map_answers s n live 0 (pipe_va old) 0 (pipe_va new) descriptor_perm in
      record { live = it.live; registers = it.registers; written = it.written }

  pub maps_pipe : {names : Names} {a : AbstractState} → StandsFor names s a → (b : Born) → a.slots n ≡ born b → old < DESCRIPTORS →
      new < DESCRIPTORS → is_some (rows_of s.spaces (slot_at s n).directory (pipe_page old)) ≡ true →
      is_some (s.spaces.regions (slot_at s n).directory table_region) ≡ true → MapsPipe s n old new pipe_map_asked
  maps_pipe h b at old_below new_below there tabled =
      let d : ℕ = (slot_at s n).directory in
      let it = some_is (rows_of s.spaces d (pipe_page old)) there in
      let bits : it.0.perm ≡ descriptor_perm = (born_at h n b at).library.descriptors (pipe_page old) it.0 (is_descriptors_pipe old old_below) it.1 in
      let raw = row_entry s.spaces d (pipe_page old) it.0 it.1 in
      let writes : has_write raw.0.perm ≡ true =
      lasting_write raw.0.perm ∙ ap (λ (e : Entry). has_write e.perm) raw.2 ∙ ap has_write bits in
      let over : Entry = record { frame = raw.0.frame; perm = descriptor_perm } in
      let same : over ≡ it.0 = λ i. record { frame = ap (λ (e : Entry). e.frame) raw.2 i; perm = sym bits i } in
      let from = pipe_begins old old_below in
      let to = pipe_begins new new_below in
      let is : inserted s.spaces d (pipe_page new) over ≡ Some (mapped s.spaces d (pipe_page new) over) =
      inserted_already s.spaces d (pipe_page new) over
      (ap (λ (r : ℕ). is_some (s.spaces.regions d r)) (pipe_region new new_below) ∙ tabled) in
      record {
        entry = it.0;
        stands = it.1;
        spaces = mapped s.spaces d (pipe_page new) over;
        takes = mapped_more s.spaces d (pipe_page new) over;
        step = page_map_is s n (born_live (born_at h n b at)) (pipe_va old) (pipe_va new) descriptor_perm from.0 to.0 over
            (ap (λ (q : ℕ). shared_entry (s.spaces.entries d q) descriptor_perm) from.1
            ∙ ap (λ (o : Option Entry). shared_entry o descriptor_perm) raw.1 ∙ given_on raw.0 descriptor_perm refl writes)
            ∙ ap (λ (q : ℕ). made_step s (inserted s.spaces d q over)) to.1
            ∙ ap (made_step s) is;
        given = λ order.
            subst (λ (e : Entry). Given s.spaces (mapped s.spaces d (pipe_page new) over) d (pipe_page new) e) same
            (inserted_given s.spaces (mapped s.spaces d (pipe_page new) over) d (pipe_page new) over d (pipe_page old) raw.0
            h.in_order.frames order.frames refl raw.1 refl is);
      }

-- It is about to map the descriptor: the new one has the page of the pipe, or none, and is on its way.
module _ {names : Names} {s : KernelState} {a : AbstractState} (h : StandsFor names s a) (n old new : ℕ) (from : Step)
    (v : IsServed names s a n (service.Dup old new) from) (calm_from : is_calm_step from ≡ true)
    (twice : IsDupping (view_of s.spaces (slot_at s n).directory) (slot_at s n) v.b old new)
    (vacant : rows_of s.spaces (slot_at s n).directory (descriptor_page new) ≡ None)
    (none : rows_of s.spaces (slot_at s n).directory (pipe_page new) ≡ None) (last : s.last ≡ Some n)
    {sp : SpacesState} (in_order : IsInOrder (with_spaces s sp)) where
  abbrev own_d : ℕ
  own_d = (slot_at s n).directory

  abbrev dup : Service
  dup = service.Dup old new

  abbrev next_words : List ℕ
  next_words = words_at (number_of (service.Dup old new)) step.MappingDescriptor

  abbrev next_place : Place
  next_place = place.InService (service.Dup old new) step.MappingDescriptor

  next_there : place_of (record (slot_at s n) { registers = (slot_at s n).registers; extra = next_words }) ≡ next_place
  next_there =
      place_at (slot_at s n).registers (number_of dup) step.MappingDescriptor v.outside
      ∙ ap (λ (x : Service). place.InService x step.MappingDescriptor) (named_at (slot_at s n) dup from v.place)

  now_calm : is_calm (place_of (slot_at s n)) ≡ true
  now_calm = ap is_calm v.place ∙ calm_from

  now_unborne : borne_in (place_of (slot_at s n)) ≡ None
  now_unborne = ap borne_in v.place

  now_unmade : is_making_pipe (place_of (slot_at s n)) ≡ false
  now_unmade = calm_unmade (place_of (slot_at s n)) now_calm

  now_unlocked : locked_at (place_of (slot_at s n)) ≡ None
  now_unlocked = calm_locked (place_of (slot_at s n)) now_calm

  new_is : is_of_descriptor (pipe_page new) ≡ true
  new_is = is_descriptors_pipe new twice.duplicating.new_below

  module _ {o : Option Entry} (puts : Puts names names s.spaces sp (slot_at s n).directory (pipe_page new) o)
      (tables : (r : ℕ) → is_some (sp.regions (slot_at s n).directory r) ≡ is_some (s.spaces.regions (slot_at s n).directory r)) where
    off_new : (q : ℕ) → q ≢ pipe_page new → rows_of sp (slot_at s n).directory q ≡ rows_of s.spaces (slot_at s n).directory q
    off_new q ne = row_beside h n v.b v.is (pipe_page new) new_is puts v.outside now_unborne now_unmade now_unlocked last q ne

    descriptor_off_new : (q : ℕ) → q < DESCRIPTORS → descriptor_page q ≢ pipe_page new
    descriptor_off_new q q_below same = absurd (omega (arith, same, q_below))

    seen_next : (q : ℕ) → v.b.descriptors q ≡ descriptor_seen names sp own_d q
    seen_next q = seen_calm h n v.b v.is now_calm q ∙ sym (by_test (nat_lt q DESCRIPTORS) refl)
      where
        by_test : (c : Bool) → nat_lt q DESCRIPTORS ≡ c → descriptor_seen names sp own_d q ≡ descriptor_seen names s.spaces own_d q
        by_test true test =
            let q_below : q < DESCRIPTORS = grind (arith, nat_tests) in
            seen_beside h n v.b v.is (pipe_page new) new_is puts v.outside now_unborne now_unmade now_unlocked last q q_below (descriptor_off_new q q_below)
        by_test false test =
            ap (λ (c : Bool). if c then name_of (shown_at names sp own_d (descriptor_page q)) else None) test
            ∙ sym (ap (λ (c : Bool). if c then name_of (shown_at names s.spaces own_d (descriptor_page q)) else None) test)

    ends_next : EndsStand names a.objects next_place (rows_of sp own_d) v.b
    ends_next =
        ends_at_one new on_way (λ q ne. refl) (λ q name is. refl) (λ q q_below ne. off_new (pipe_page q) (λ same. ne (omega (arith, same))))
        (λ q x q_below is. refl) have only (ends_at h n v.b v.is)
      where
        on_way : (q : ℕ) → q ≢ new → is_on_its_way next_place q ≡ is_on_its_way (place_of (slot_at s n)) q
        on_way q ne =
            let off : (q == new) ≡ false = grind (arith, nat_tests) in off ∙ sym (calm_on_way (place_of (slot_at s n)) now_calm q)

        have : (name other : ℕ) → new < DESCRIPTORS → v.b.descriptors new ≡ Some name → pipe_named a.objects name ≡ Some other →
            (entry : Entry) × (rows_of sp own_d (pipe_page new) ≡ Some entry) × (names.name entry.frame ≡ other)
        have name other new_below so piped =
            absurd (none-some name (sym (none_seen h n v.b v.is (seen_calm h n v.b v.is now_calm) new vacant) ∙ so))

        only : (entry : Entry) → new < DESCRIPTORS → is_on_its_way next_place new ≡ false → rows_of sp own_d (pipe_page new) ≡ Some entry →
            (name : ℕ) × (v.b.descriptors new ≡ Some name) × (pipe_named a.objects name ≡ Some (names.name entry.frame))
        only entry new_below off lies =
            let here : (new == new) ≡ true = grind (arith, nat_tests) in let contradiction : true ≡ false = sym here ∙ off in absurd cc

    stands_next : rows_of sp (slot_at s n).directory (pipe_page new) ≡ rows_of sp (slot_at s n).directory (pipe_page old) →
        StandsAtStep (view_of sp (slot_at s n).directory) (record (slot_at s n) { extra = next_words }) v.b dup step.MappingDescriptor
    stands_next same =
        let it = twice.duplicating in (
          in_with_words next_words twice.is_in,
          record {
            old_below = it.old_below;
            new_below = it.new_below;
            other = it.other;
            stands = ap is_some (off_new (descriptor_page old) (descriptor_off_new old it.old_below)) ∙ it.stands;
          },
          tables table_region ∙ twice.table,
          off_new (descriptor_page new) (descriptor_off_new new it.new_below) ∙ vacant,
          same,
        )

    moves_next : rows_of sp (slot_at s n).directory (pipe_page new) ≡ rows_of sp (slot_at s n).directory (pipe_page old) →
        PutsRow names names s.spaces.pages a.shared sp.pages a.shared (things_in s a) a.next_name a.next_name
        (logical s.spaces s.environments.slots) n (pipe_page new) o → ((x : Entry) → o ≡ Some x → x.perm ≡ descriptor_perm) →
        LocksStand sp.pages (upd s.environments.slots n (record (slot_at s n) { registers = (slot_at s n).registers; extra = next_words }))
        (logical sp (upd s.environments.slots n (record (slot_at s n) { registers = (slot_at s n).registers; extra = next_words }))) →
        StandsFor names (with_extra (with_spaces s sp) n (words_at (number_of (service.Dup old new)) step.MappingDescriptor)) a
    moves_next same row bits locks =
        subst (λ (x : AbstractState). StandsFor names (with_extra (with_spaces s sp) n next_words) x) (born_back a n v.b v.is)
        (page_moves h n v.b v.is (pipe_page new) new_is puts v.outside now_unborne now_unmade now_unlocked last (slot_at s n).registers next_words
        next_place next_there refl refl refl refl v.b.program v.b.phase v.b.blocked v.b.descriptors v.own.runs refl refl
        (ap holds_page v.place ∙ holds_none dup refl from) row bits tables (λ q still. seen_next q) (stands_next same) ends_next locks in_order
        (λ q name names_it. h.old n q name v.b v.is names_it))

  -- its page is mapped,
  pub end_mapped : (x : Entry) → rows_of s.spaces (slot_at s n).directory (pipe_page old) ≡ Some x →
      Given s.spaces sp (slot_at s n).directory (pipe_page new) x →
      StandsFor names (with_extra (with_spaces s sp) n (words_at (number_of (service.Dup old new)) step.MappingDescriptor)) a
  end_mapped x x_is given =
      moves_next puts tables same
      (given_row h n v.b v.is plain (pipe_page old) (pipe_page new) old_is new_is kind x x_is given)
      (λ e is. ap (λ (y : Entry). y.perm) (sym (same_Some x e is)) ∙ (born_at h n v.b v.is).library.descriptors (pipe_page old) x old_is x_is)
      (locks_given h n v.b v.is (pipe_page new) new_is puts v.outside now_unborne now_unmade now_unlocked last (slot_at s n).registers next_words
      next_place next_there refl refl refl refl old x twice.duplicating.old_below x_is refl none)
    where
      old_is : is_of_descriptor (pipe_page old) ≡ true
      old_is = is_descriptors_pipe old twice.duplicating.old_below

      kind : is_pipe_page (pipe_page new) ≡ is_pipe_page (pipe_page old)
      kind =
          let new_below = twice.duplicating.new_below in
          let old_below = twice.duplicating.old_below in
          let one : is_pipe_page (pipe_page new) ≡ true = grind (arith, nat_tests) in
          let two : is_pipe_page (pipe_page old) ≡ true = grind (arith, nat_tests) in one ∙ sym two

      plain : is_plain (place_of (slot_at s n)) ≡ true
      plain =
          unborne_plain (place_of (slot_at s n)) (handler_runs (slot_at s n).registers (slot_at s n).extra ∙ v.outside) now_unborne now_unmade

      puts : Puts names names s.spaces sp (slot_at s n).directory (pipe_page new) (Some x)
      puts = given_puts h n v.b v.is plain (pipe_page old) (pipe_page new) old_is new_is kind x x_is given

      tables : (r : ℕ) → is_some (sp.regions (slot_at s n).directory r) ≡ is_some (s.spaces.regions (slot_at s n).directory r)
      tables =
          given_tables h n v.b v.is plain (pipe_page old) (pipe_page new) old_is new_is kind x x_is given
          (pipe_region new twice.duplicating.new_below) twice.table

      same : rows_of sp (slot_at s n).directory (pipe_page new) ≡ rows_of sp (slot_at s n).directory (pipe_page old)
      same =
          row_there h n v.b v.is (pipe_page new) new_is puts v.outside now_unborne now_unmade now_unlocked last
          ∙ sym (off_new puts tables (pipe_page old) (λ it. twice.duplicating.other (omega (arith, it))) ∙ x_is)

  -- or there is none.
  pub no_end_mapped : Quiet s.spaces sp → rows_of s.spaces (slot_at s n).directory (pipe_page old) ≡ None →
      StandsFor names (with_extra (with_spaces s sp) n (words_at (number_of (service.Dup old new)) step.MappingDescriptor)) a
  no_end_mapped quiet old_none =
      moves_next puts (λ r. quiet.regions own_d r) same (removed_row h n v.b v.is (pipe_page new) removed) (λ x is. absurd (none-some x is))
      (locks_gone h n v.b v.is (pipe_page new) new_is puts v.outside now_unborne now_unmade now_unlocked last (slot_at s n).registers next_words
      next_place next_there refl refl refl refl refl)
    where
      removed : Removed s.spaces sp (slot_at s n).directory (pipe_page new)
      removed = record {
        rows = quiet.rows ∙ sym (put_back (rows_of s.spaces) own_d (pipe_page new) None none);
        bytes = λ q r x is. ap (λ (pages : ℕ → List ℕ). pages x.frame) quiet.pages;
        regions = quiet.regions;
      }

      puts : Puts names names s.spaces sp (slot_at s n).directory (pipe_page new) None
      puts = removed_puts h n v.b v.is (pipe_page new) removed

      same : rows_of sp (slot_at s n).directory (pipe_page new) ≡ rows_of sp (slot_at s n).directory (pipe_page old)
      same =
          ap (λ (r : Rows). r own_d (pipe_page new)) quiet.rows ∙ none ∙ sym (ap (λ (r : Rows). r own_d (pipe_page old)) quiet.rows ∙ old_none)
