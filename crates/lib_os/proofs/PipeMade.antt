-- Service pipe maps the page of its pipe for the writing end, too: with that the pipe is made, and its two ends, of which the program has the
-- descriptors. From then on their pages are seen, by the names of the pipe and of its ends.
use Rattle.std.proofs.Common.{◌≡◌, ◌≢◌, ◌∙◌, ◌+◌, ◌/◌, ◌<◌, ◌==◌, ◌&&◌, ◌||◌, ◌⊎◌, inl, inr, ℕ, Bool, true, false, List, [], Option, Some, None}
use Rattle.std.proofs.Common.{refl, sym, ap, subst, arith, if◌then◌else◌}
use Rattle.std.specs.Prelude.{is_some, nat_lt}
use Rattle.std.specs.Option.{option_map}
use Rattle.std.proofs.lemmas.Bool.{cases_eq}
use Rattle.std.proofs.lemmas.Bool.Decides.{nat_tests}
use Rattle.std.proofs.lemmas.Option.{none-some, same_Some}
use Rattle.jos_base.specs.declared.called.Called.{Called}
use Rattle.jos_base.specs.declared.called.Called.TheVariants.{Answered}
use Rattle.jos_base.specs.declared.numbers.TheConstants.{NPTENTRIES, UTEMP}
use Rattle.jos_base.specs.declared.registers.Regs.{Regs}
use Rattle.jos_base.specs.Environments.{Slot, no_extra}
use Rattle.jos_base.specs.KernelState.{KernelState, slot_at, with_spaces}
use Rattle.jos_base.specs.Reach.{Entry}
use Rattle.jos_base.specs.SpacesState.{SpacesState}
use Rattle.jos_base.specs.SystemCalls.{has_write}
use Rattle.jos_base.specs.Words.{page_number, upd}
use Rattle.jos_base.proofs.Maps.{upd-all, upd-at, upd-both, upd-other}
use Rattle.jos_base.proofs.Options.{some_is}
use Rattle.jos_base.proofs.Puts.{Elsewhere}
use Rattle.lib_os.specs.declared.numbers.TheConstants.{DESCRIPTORS, DEVICE_PIPE, PFTEMP, REQUEST, UXSTACK}
use Rattle.lib_os.specs.declared.place.PipeStep.{PipeStep}
use Rattle.lib_os.specs.declared.place.PipeStep.TheVariants as pipe
use Rattle.lib_os.specs.declared.place.Place.{Place}
use Rattle.lib_os.specs.declared.place.Place.TheVariants as place
use Rattle.lib_os.specs.declared.place.Step.TheVariants as step
use Rattle.lib_os.specs.declared.progress.Progress.TheVariants as progress
use Rattle.lib_os.specs.declared.service.Service.TheVariants as service
use Rattle.lib_os.specs.AbstractRun.{abs_step, pipe_of}
use Rattle.lib_os.specs.AbstractState.{AbstractSlot, AbstractState, Born, Object, at_guest, born, entered, file, free, guest, named}
use Rattle.lib_os.specs.AbstractState.{own as own_page_of}
use Rattle.lib_os.specs.AbstractState.{read_end, serving, terminal, unborn, write_end}
use Rattle.lib_os.specs.DescriptorPages.{HasObject, Things, device_of, lasting_words, lock_of, mode_of, read_of, written_of}
use Rattle.lib_os.specs.Descriptors.{lowest_free, next_free, pipe_made, pipe_on, with_descriptor}
use Rattle.lib_os.specs.InOrder.{IsInOrder}
use Rattle.lib_os.specs.InService.{IsOpen}
use Rattle.lib_os.specs.LibraryCall.{library_step}
use Rattle.lib_os.specs.LibraryPages.{IsOwnWritable, LibraryPages}
use Rattle.lib_os.specs.LibrarySteps.{GoesOn, KeepsStanding, gone_back}
use Rattle.lib_os.specs.PipeEnds.{EndsStand, EndsStandAt, HoldsLock, LocksStand, is_dropped, is_made, is_on_its_way, locked_at, pipe_named}
use Rattle.lib_os.specs.Places.{place_of}
use Rattle.lib_os.specs.Rows.{Agree, EntryRow, HasThing, IsNamed, IsPage, IsUsers, MayBeHad, Names, Rows, ShowsBy, as_own, descriptor_page}
use Rattle.lib_os.specs.Rows.{descriptor_perm}
use Rattle.lib_os.specs.Rows.{descriptor_at, descriptor_seen, is_clients, is_making, is_of_descriptor, is_pipe_page, is_programs, is_shared}
use Rattle.lib_os.specs.Rows.{logical, makes, may_write, name_of}
use Rattle.lib_os.specs.Rows.{page_by, page_seen, pipe_page, rows_of, seen_where, server_row, shown_at}
use Rattle.lib_os.specs.StandsAtPipe.{IsMakingPipe, TellsEnd}
use Rattle.lib_os.specs.StandsFor.{IsStatusFor, NamesAreOld, StandsAt, StandsFor, StandsForBorn, StandsForSlot, borne_in, seen_unless, things_in, view_of}
use Rattle.lib_os.specs.UserCalls.{CallStep, giving}
use Rattle.lib_os.proofs.DescriptorLooks.{descriptor_user, is_descriptors, page_region, table_region}
use Rattle.lib_os.proofs.DescriptorWords.{file_beside}
use Rattle.lib_os.proofs.Effects.{Given}
use Rattle.lib_os.proofs.EndsDropped.{MapsPipe, is_descriptors_pipe, maps_pipe, pipe_map_asked, pipe_region}
use Rattle.lib_os.proofs.EntriesCount.{entry_counts}
use Rattle.lib_os.proofs.EntriesStand.{RowsStand, named_at, rows_turned, shown_same}
use Rattle.lib_os.proofs.EntryWords.{row_entry}
use Rattle.lib_os.proofs.FreeSeen.{free_from}
use Rattle.lib_os.proofs.Logical.{both, is_plain, logical_plain, logical_some, programs_no_descriptor}
use Rattle.lib_os.proofs.PagesStand.{row_elsewhere, row_placed}
use Rattle.lib_os.proofs.PipeBytes.{empty_stands}
use Rattle.lib_os.proofs.PipeMaking.{counted_before, counted_own, counted_still, making_descriptor, making_none, making_pipe}
use Rattle.lib_os.proofs.PipeTaken.{made_first, made_none, made_one, made_second, page_cases, undescribed_made}
use Rattle.lib_os.proofs.PipesStand.{ends_moved, same_places}
use Rattle.lib_os.proofs.Serving.{IsServed, library_moved, plain_upcall, printed_nothing, served, step_in, words_of_none}
use Rattle.lib_os.proofs.SlotsStand.{SeenAlike, born_at, born_live, descriptor_shown}
use Rattle.lib_os.proofs.StatesStand.{born_not_first, children_moved, clients_live, ends_at, others_count, others_counts, others_ends, others_stand}
use Rattle.lib_os.proofs.StatesStand.{old_set, server_alike, server_same, servers_seen, slot_in_order, tabled_set, turns_settle}
use Rattle.lib_os.proofs.WordsTell.{is_in_handler}
use Rattle.lib_os.proofs.KeptPages.{spawns_aside}

-- ---- names

-- what is so of the name of a frame, by that name
is_named : (names : Names) (pages shared : ℕ → List ℕ) (things : Things) (next p f name : ℕ) → names.name f ≡ name → names.frame name ≡ f →
    names.is_object name ≡ is_of_descriptor p → names.is_pipe name ≡ is_pipe_page p →
    ShowsBy things name f (names.is_object name) (names.is_pipe name) (shared name) (pages f) → name < next → IsNamed names pages shared things next p f
is_named names pages shared things next p f name is home kind of_pipe shows old = record {
  home = ap names.frame is ∙ home;
  kind = ap names.is_object is ∙ kind;
  of_pipe = ap names.is_pipe is ∙ of_pipe;
  shows = subst (λ (m : ℕ). ShowsBy things m f (names.is_object m) (names.is_pipe m) (shared m) (pages f)) (sym is) shows;
  old = subst (λ (m : ℕ). m < next) (sym is) old;
}

-- what tells an object tells it beside other objects and pipes
object_turned : (things : Things) (objects : ℕ → Object) (pipes : ℕ → List ℕ) (name frame : ℕ) (object : Object) (bytes : List ℕ) →
    HasObject things name frame object bytes → HasObject (record things { objects = objects; pipes = pipes }) name frame object bytes
object_turned things objects pipes name frame terminal bytes it = record { device = it.device; apart = it.apart }
object_turned things objects pipes name frame (file f) bytes it = file_beside it it.held it.entry it.stands it.same
object_turned things objects pipes name frame (read_end pipe) bytes it =
    record { numbered = it.numbered; device = it.device; mode_is = it.mode_is; apart = it.apart }
object_turned things objects pipes name frame (write_end pipe) bytes it =
    record { numbered = it.numbered; device = it.device; mode_is = it.mode_is; apart = it.apart }

thing_turned : (things : Things) (objects : ℕ → Object) (pipes : ℕ → List ℕ) (name frame : ℕ) (is_object is_pipe : Bool) (page bytes : List ℕ) →
    objects name ≡ things.objects name → pipes name ≡ things.pipes name → ShowsBy things name frame is_object is_pipe page bytes →
    ShowsBy (record things { objects = objects; pipes = pipes }) name frame is_object is_pipe page bytes
thing_turned things objects pipes name frame false is_pipe page bytes same too it = it
thing_turned things objects pipes name frame true false page bytes same too it =
    subst (λ (object : Object). HasObject (record things { objects = objects; pipes = pipes }) name frame object bytes) (sym same)
    (object_turned things objects pipes name frame (things.objects name) bytes it)
thing_turned things objects pipes name frame true true page bytes same too it = record { holds = it.holds ∙ sym too; few = it.few; apart = it.apart }

-- at a name that is none of three new ones
three_other : {V : Type 0} (f : ℕ → V) (i j k : ℕ) (x y z : V) (q : ℕ) → q ≢ i → q ≢ j → q ≢ k → upd (upd (upd f i x) j y) k z q ≡ f q
three_other f i j k x y z q not_i not_j not_k =
    upd-other (upd (upd f i x) j y) k z q not_k ∙ upd-other (upd f i x) j y q not_j ∙ upd-other f i x q not_i

three_first : {V : Type 0} (f : ℕ → V) (i j k : ℕ) (x y z : V) → i ≢ j → i ≢ k → upd (upd (upd f i x) j y) k z i ≡ x
three_first f i j k x y z not_j not_k =
    upd-other (upd (upd f i x) j y) k z i not_k ∙ upd-other (upd f i x) j y i not_j ∙ upd-at f i x

three_second : {V : Type 0} (f : ℕ → V) (i j k : ℕ) (x y z : V) → j ≢ k → upd (upd (upd f i x) j y) k z j ≡ y
three_second f i j k x y z not_k = upd-other (upd (upd f i x) j y) k z j not_k ∙ upd-at (upd f i x) j y

three_third : {V : Type 0} (f : ℕ → V) (i j k : ℕ) (x y z : V) → upd (upd (upd f i x) j y) k z k ≡ z
three_third f i j k x y z = upd-at (upd (upd f i x) j y) k z

-- ---- before the mapping

-- the region of the descriptors' pages has a table, and the page of the pipe is there
module _ {names : Names} {s : KernelState} {a : AbstractState} (h : StandsFor names s a) (n reading writing : ℕ)
    (stands : place_of (slot_at s n) ≡ place.InService service.Pipe (step.Piped (pipe.MappingPipe reading writing))) where
  abbrev w : IsServed names s a n service.Pipe (step.Piped (pipe.MappingPipe reading writing))
  w = served h n service.Pipe (step.Piped (pipe.MappingPipe reading writing)) stands

  mapping_it : IsMakingPipe (view_of s.spaces (slot_at s n).directory) (slot_at s n) w.b (pipe.MappingPipe reading writing) reading writing
  mapping_it = w.at

  mapping_below : reading < DESCRIPTORS
  mapping_below = let first = mapping_it.lowest.order in let below = mapping_it.lowest.below in omega (arith, first, below)

  pub mapping_table : is_some (s.spaces.regions (slot_at s n).directory table_region) ≡ true
  mapping_table =
      let e = row_entry s.spaces (slot_at s n).directory (descriptor_page reading) mapping_it.so_far.0.entry mapping_it.so_far.0.stands in
      ap (λ (q : ℕ). is_some (s.spaces.regions (slot_at s n).directory q)) (sym (page_region reading mapping_below))
      ∙ h.in_order.frames.regions (slot_at s n).directory (descriptor_page reading) e.0 e.1

  -- so that the call maps it
  pub mapping_maps : MapsPipe s n reading writing (pipe_map_asked s n reading writing)
  mapping_maps =
      maps_pipe s n reading writing h w.b w.is mapping_below mapping_it.lowest.below (ap is_some mapping_it.so_far.2.lies) mapping_table

-- ---- the pipe is made

module _ {names : Names} {s : KernelState} {a : AbstractState} {sp : SpacesState} (h : StandsFor names s a) (n reading writing : ℕ)
    (stands : place_of (slot_at s n) ≡ place.InService service.Pipe (step.Piped (pipe.MappingPipe reading writing))) (x : Entry)
    (x_is : rows_of s.spaces (slot_at s n).directory (pipe_page reading) ≡ Some x)
    (given : Given s.spaces sp (slot_at s n).directory (pipe_page writing) x) where
  abbrev at_mapping : PipeStep
  at_mapping = pipe.MappingPipe reading writing

  abbrev v : IsServed names s a n service.Pipe (step.Piped (pipe.MappingPipe reading writing))
  v = served h n service.Pipe (step.Piped (pipe.MappingPipe reading writing)) stands

  abbrev home : ℕ
  home = (slot_at s n).directory

  abbrev row : EntryRow
  row = rows_of s.spaces (slot_at s n).directory

  abbrev before : Rows
  before = logical s.spaces s.environments.slots

  it : IsMakingPipe (view_of s.spaces (slot_at s n).directory) (slot_at s n) v.b (pipe.MappingPipe reading writing) reading writing
  it = v.at

  abbrev own : StandsForBorn names s.spaces (slot_at s n) v.b
  own = v.own

  order : reading < writing
  order = it.lowest.order

  writing_below : writing < DESCRIPTORS
  writing_below = it.lowest.below

  reading_below : reading < DESCRIPTORS
  reading_below = let first = order in let below = writing_below in omega (arith, first, below)

  apart_ends : reading ≢ writing
  apart_ends same = let first = order in omega (arith, same, first)

  one : TellsEnd (view_of s.spaces (slot_at s n).directory) reading DEVICE_PIPE 0
  one = it.so_far.0

  two : TellsEnd (view_of s.spaces (slot_at s n).directory) writing DEVICE_PIPE 1
  two = it.so_far.1

  -- the page of the pipe tells that nobody has its lock, and that it is empty
  page_told : (lock_of (s.spaces.pages x.frame) ≡ 0) × (read_of (s.spaces.pages x.frame) ≡ 0) × (written_of (s.spaces.pages x.frame) ≡ 0)
  page_told =
      let at_page = it.so_far.2 in
      subst (λ (y : Entry). (lock_of (s.spaces.pages y.frame) ≡ 0) × (read_of (s.spaces.pages y.frame) ≡ 0) × (written_of (s.spaces.pages y.frame) ≡ 0))
      (same_Some at_page.page x (sym at_page.lies ∙ x_is)) at_page.so

  -- ---- what it makes is nobody else's

  counts_own : (q : ℕ) (y : Entry) → is_making at_mapping q ≡ true → row q ≡ Some y → before n q ≡ Some (as_own y)
  counts_own q y making is =
      counted_before h n v.b v.is at_mapping at_mapping stands q ∙ counted_own at_mapping row q making ∙ ap (option_map as_own) is

  alone : (q : ℕ) (y : Entry) → is_making at_mapping q ≡ true → row q ≡ Some y → (m p : ℕ) (z : Entry) → Elsewhere m p n q → before m p ≡ Some z →
      z.frame ≢ y.frame
  alone q y making is m p z ne hz same =
      let agrees = h.apart m p n q z (as_own y) ne hz (counts_own q y making is) same in
      let contradiction : true ≡ false = (agrees.read_only agrees.shared).1 in cc

  no_servers : (q : ℕ) (y : Entry) → is_making at_mapping q ≡ true → row q ≡ Some y → (p : ℕ) (z : Entry) →
      server_row s.spaces s.environments.slots p ≡ Some z → z.frame ≢ y.frame
  no_servers q y making is p z lies same = by_page (p == page_number REQUEST) (h.beside n q p (as_own y) z (counts_own q y making is) lies (sym same))
    where
      by_page : (c : Bool) → MayBeHad c q (as_own y) → ⊥
      by_page true had = let contradiction : true ≡ false = sym (both _ _ making).0 ∙ ap is_of_descriptor had.0 in cc
      by_page false had = let contradiction : false ≡ true = had.shared in cc

  -- nor has another space any of it
  others_apart : (d : ℕ) → d ≢ home → (r : ℕ) (z : Entry) → rows_of s.spaces d r ≡ Some z → (q : ℕ) (y : Entry) → is_making at_mapping q ≡ true →
      row q ≡ Some y → z.frame ≢ y.frame
  others_apart d ne r z hz q y making is = by_space (d == (slot_at s 0).directory) refl
    where
      by_space : (c : Bool) → (d == (slot_at s 0).directory) ≡ c → z.frame ≢ y.frame
      by_space true test =
          let here : d ≡ (slot_at s 0).directory = grind (arith, nat_tests) in
          no_servers q y making is r z (ap (λ (e : ℕ). rows_of s.spaces e r) (sym here) ∙ hz)
      by_space false test =
          let found = entry_counts h d r z (grind (arith, nat_tests)) hz in
          let other : Elsewhere found.slot found.page n q =
          λ there. absurd (ne (sym (found.home n v.b v.is there))) in
          λ same. alone q y making is found.slot found.page found.entry other found.counts (found.frame ∙ same)

  -- nor another of its own pages
  own_apart : (r : ℕ) (z : Entry) → row r ≡ Some z → (q : ℕ) (y : Entry) → is_making at_mapping q ≡ true → row q ≡ Some y → r ≢ q → z.frame ≢ y.frame
  own_apart r z hz q y making is ne = by_page (is_making at_mapping r) refl
    where
      by_page : (c : Bool) → is_making at_mapping r ≡ c → z.frame ≢ y.frame
      by_page true made = alone q y making is n r (as_own z) (λ same. ne) (counts_own r z made hz)
      by_page false none =
          alone q y making is n r z (λ same. ne)
          (counted_before h n v.b v.is at_mapping at_mapping stands r ∙ counted_still at_mapping row r none ∙ hz)

  -- ---- the pages that it makes

  making_first : is_making at_mapping (descriptor_page reading) ≡ true
  making_first = making_descriptor at_mapping reading reading_below ∙ made_first reading writing

  making_second : is_making at_mapping (descriptor_page writing) ≡ true
  making_second = making_descriptor at_mapping writing writing_below ∙ made_second reading writing

  making_third : is_making at_mapping (pipe_page reading) ≡ true
  making_third = making_pipe at_mapping reading reading_below ∙ made_first reading writing

  first_second : one.entry.frame ≢ two.entry.frame
  first_second =
      own_apart (descriptor_page reading) one.entry one.stands (descriptor_page writing) two.entry making_second two.stands
      (λ same. apart_ends (omega (arith, same)))

  third_first : x.frame ≢ one.entry.frame
  third_first =
      own_apart (pipe_page reading) x x_is (descriptor_page reading) one.entry making_first one.stands
      (λ same. let below = reading_below in omega (arith, same, below))

  third_second : x.frame ≢ two.entry.frame
  third_second =
      own_apart (pipe_page reading) x x_is (descriptor_page writing) two.entry making_second two.stands
      (λ same. let below = writing_below in omega (arith, same, below))

  -- ---- what has the new names

  abbrev next : ℕ
  next = a.next_name

  abbrev names_then : Names
  names_then = record {
    name = upd (upd (upd names.name x.frame a.next_name) one.entry.frame (a.next_name + 1)) two.entry.frame (a.next_name + 2);
    frame = upd (upd (upd names.frame a.next_name x.frame) (a.next_name + 1) one.entry.frame) (a.next_name + 2) two.entry.frame;
    is_object = upd (upd (upd names.is_object a.next_name true) (a.next_name + 1) true) (a.next_name + 2) true;
    is_pipe = upd (upd (upd names.is_pipe a.next_name true) (a.next_name + 1) false) (a.next_name + 2) false;
  }

  abbrev objects_then : ℕ → Object
  objects_then = upd (upd a.objects (a.next_name + 1) (read_end a.next_name)) (a.next_name + 2) (write_end a.next_name)

  abbrev pipes_then : ℕ → List ℕ
  pipes_then = upd a.pipes a.next_name []

  abbrev things_then : Things
  things_then = record (things_in s a) { objects = objects_then; pipes = pipes_then }

  -- a frame of none of these pages
  abbrev IsOther : ℕ → Type 0
  IsOther f = (f ≢ x.frame) × (f ≢ one.entry.frame) × (f ≢ two.entry.frame)

  name_other : (f : ℕ) → IsOther f → names_then.name f ≡ names.name f
  name_other f other =
      three_other names.name x.frame one.entry.frame two.entry.frame next (next + 1) (next + 2) f other.0 other.1 other.2

  name_third : names_then.name x.frame ≡ next
  name_third = three_first names.name x.frame one.entry.frame two.entry.frame next (next + 1) (next + 2) third_first third_second

  name_first : names_then.name one.entry.frame ≡ next + 1
  name_first = three_second names.name x.frame one.entry.frame two.entry.frame next (next + 1) (next + 2) first_second

  name_second : names_then.name two.entry.frame ≡ next + 2
  name_second = three_third names.name x.frame one.entry.frame two.entry.frame next (next + 1) (next + 2)

  -- each frame that is not made is another
  made_other : (f : ℕ) → ((q : ℕ) (y : Entry) → is_making at_mapping q ≡ true → row q ≡ Some y → f ≢ y.frame) → IsOther f
  made_other f none = (
    none (pipe_page reading) x making_third x_is,
    none (descriptor_page reading) one.entry making_first one.stands,
    none (descriptor_page writing) two.entry making_second two.stands,
  )

  -- ---- the space behind it

  -- whatever stood keeps its bytes
  bytes_same : (q r : ℕ) (y : Entry) → rows_of s.spaces q r ≡ Some y → sp.pages y.frame ≡ s.spaces.pages y.frame
  bytes_same q r y hy = by_frame (y.frame == x.frame) refl
    where
      there : Elsewhere q r home (pipe_page writing)
      there same too = none-some y (sym it.none ∙ (λ i. rows_of s.spaces (sym same i) (sym too i)) ∙ hy)

      by_frame : (c : Bool) → (y.frame == x.frame) ≡ c → sp.pages y.frame ≡ s.spaces.pages y.frame
      by_frame true test =
          let same : x.frame ≡ y.frame = grind (arith, nat_tests) in
          subst (λ (f : ℕ). sp.pages f ≡ s.spaces.pages f) same given.same
      by_frame false test = given.placed.bytes q r y (row_elsewhere given.placed q r there ∙ hy) (grind (arith, nat_tests))

  row_beside : (q : ℕ) → q ≢ pipe_page writing → rows_of sp home q ≡ row q
  row_beside q ne = row_elsewhere given.placed home q (λ same. ne)

  row_there : rows_of sp home (pipe_page writing) ≡ Some x
  row_there = row_placed given.placed

  others : (q : ℕ) → q ≢ home → SeenAlike names names_then s.spaces sp q
  others q ne = record {
    rows = λ i. λ r. row_elsewhere given.placed q r (λ same too. ne same) i;
    bytes = λ r y hy own_page. bytes_same q r y hy;
    named_so = λ r y hy shared_page. name_other y.frame (made_other y.frame (others_apart q ne r y hy));
    devices = λ r y descriptor hy shared_page. ap lasting_words (bytes_same q r y hy);
    pipes = λ r y pipes hy shared_page. bytes_same q r y hy;
    regions = λ r.
        let off : (q == home) ≡ false = grind (arith, nat_tests) in
        given.placed.regions q r ∙ ap (λ (c : Bool). (c && (r == pipe_page writing / NPTENTRIES)) || is_some (s.spaces.regions q r)) off;
  }

  -- ---- what counts then

  abbrev pub regs_then : Regs
  regs_then = record (slot_at s n).registers { eax = 0; edx = reading; ecx = writing }

  abbrev moved : Slot
  moved = record (slot_at s n) { registers = regs_then; extra = no_extra }

  abbrev counts_then : Rows
  counts_then = logical sp (upd s.environments.slots n moved)

  there : place_of moved ≡ place.Guest
  there = words_of_none regs_then no_extra v.outside refl

  own_then : (q : ℕ) → counts_then n q ≡ rows_of sp home q
  own_then q =
      logical_plain sp (upd s.environments.slots n moved) n (ap (λ (k : Slot). is_clients n k) slot_is ∙ clients_live h n v.b v.is)
      (ap (λ (k : Slot). is_plain (place_of k)) slot_is ∙ ap is_plain there) q
      ∙ ap (λ (k : Slot). rows_of sp k.directory q) slot_is
    where
      slot_is : upd s.environments.slots n moved n ≡ moved
      slot_is = upd-at s.environments.slots n moved

  other_then : (m : ℕ) → m ≢ n → (q : ℕ) → counts_then m q ≡ before m q
  other_then m ne q = others_count h n v.b v.is moved others m ne q

  -- An entry that counted, and is none of those that are made;
  record IsOld (m q : ℕ) (y : Entry) : Type 0 where
    counted : before m q ≡ Some y
    apart : (p : ℕ) (z : Entry) → is_making at_mapping p ≡ true → row p ≡ Some z → y.frame ≢ z.frame

  -- or one that is made, where it stood or as the writing end's page of the pipe.
  record IsNew (m q : ℕ) (y : Entry) : Type 0 where
    slot : m ≡ n
    place : ℕ
    made : is_making at_mapping place ≡ true
    stood : row place ≡ Some y
    descriptor : is_of_descriptor q ≡ true
    kind : is_pipe_page q ≡ is_pipe_page place

  old_at : (m q : ℕ) (y : Entry) → before m q ≡ Some y → (m ≡ n → is_making at_mapping q ≡ false) → IsOld m q y
  old_at m q y hy none = record {
    counted = hy;
    apart = λ p z making hz. alone p z making hz m q y
        (λ same too. let contradiction : true ≡ false = sym making ∙ ap (is_making at_mapping) (sym too) ∙ none same in cc) hy;
  }

  old_or_new : (m q : ℕ) (y : Entry) → counts_then m q ≡ Some y → IsOld m q y ⊎ IsNew m q y
  old_or_new m q y hy = by_slot (m == n) refl
    where
      mine : m ≡ n → rows_of sp home q ≡ Some y → IsOld m q y ⊎ IsNew m q y
      mine same hy = by_place (q == pipe_page writing) refl
        where
          by_place : (c : Bool) → (q == pipe_page writing) ≡ c → IsOld m q y ⊎ IsNew m q y
          by_place true test =
              let here : q ≡ pipe_page writing = grind (arith, nat_tests) in
              let first_kind : is_pipe_page (pipe_page reading) ≡ true = let below = reading_below in grind (arith, nat_tests) in
              let second_kind : is_pipe_page (pipe_page writing) ≡ true = let below = writing_below in grind (arith, nat_tests) in
              inr (record {
                slot = same;
                place = pipe_page reading;
                made = making_third;
                stood = x_is ∙ sym row_there ∙ ap (rows_of sp home) (sym here) ∙ hy;
                descriptor = ap is_of_descriptor here ∙ is_descriptors_pipe writing writing_below;
                kind = ap is_pipe_page here ∙ second_kind ∙ sym first_kind;
              })
          by_place false test = by_making (is_making at_mapping q) refl
            where
              stood : row q ≡ Some y
              stood = sym (row_beside q (grind (arith, nat_tests))) ∙ hy

              by_making : (c : Bool) → is_making at_mapping q ≡ c → IsOld m q y ⊎ IsNew m q y
              by_making true making =
                  inr (record { slot = same; place = q; made = making; stood = stood; descriptor = (both _ _ making).0; kind = refl })
              by_making false none =
                  inl (old_at m q y
                  (ap (λ (k : ℕ). before k q) same ∙ counted_before h n v.b v.is at_mapping at_mapping stands q ∙ counted_still at_mapping row q none ∙ stood)
                  (λ is. none))

      by_slot : (c : Bool) → (m == n) ≡ c → IsOld m q y ⊎ IsNew m q y
      by_slot true test =
          let same : m ≡ n = grind (arith, nat_tests) in
          mine same (sym (own_then q) ∙ ap (λ (k : ℕ). counts_then k q) (sym same) ∙ hy)
      by_slot false test =
          let ne : m ≢ n = grind (arith, nat_tests) in inl (old_at m q y (sym (other_then m ne q) ∙ hy) (λ same. absurd (ne same)))

  new_bits : (m q : ℕ) (y : Entry) → IsNew m q y → y.perm ≡ descriptor_perm
  new_bits m q y new = own.library.descriptors new.place y (both _ _ new.made).0 new.stood

  -- what stands in a frame that counts keeps its bytes
  old_bytes : (m q : ℕ) (y : Entry) → before m q ≡ Some y → sp.pages y.frame ≡ s.spaces.pages y.frame
  old_bytes m q y hy =
      let found = logical_some s.spaces s.environments.slots m q y hy in
      subst (λ (f : ℕ). sp.pages f ≡ s.spaces.pages f) found.1.frame (bytes_same (slot_at s m).directory q found.1.entry found.1.stands)

  agree : (m p o q : ℕ) (y z : Entry) → (m ≡ o → p ≡ q → ⊥) → counts_then m p ≡ Some y → counts_then o q ≡ Some z → y.frame ≡ z.frame → Agree y.perm z.perm
  agree m p o q y z ne hy hz same = by_case (old_or_new m p y hy) (old_or_new o q z hz)
    where
      by_case : IsOld m p y ⊎ IsNew m p y → IsOld o q z ⊎ IsNew o q z → Agree y.perm z.perm
      by_case (inl old) (inl old_too) = h.apart m p o q y z ne old.counted old_too.counted same
      by_case (inl old) (inr new) = absurd (old.apart new.place z new.made new.stood same)
      by_case (inr new) (inl old) = absurd (old.apart new.place y new.made new.stood (sym same))
      by_case (inr new) (inr new_too) =
          let first = new_bits m p y new in
          let second = new_bits o q z new_too in
          record {
            shared = ap is_shared (first ∙ sym second);
            read_only = λ own_page. absurd (let contradiction : true ≡ false = sym (ap is_shared first) ∙ own_page in cc);
          }

  -- ---- names

  old_named : (q f : ℕ) → IsOther f → sp.pages f ≡ s.spaces.pages f → IsNamed names s.spaces.pages a.shared (things_in s a) next q f →
      IsNamed names_then sp.pages a.shared things_then (next + 3) q f
  old_named q f other bytes was =
      let name = names.name f in
      let lower = was.old in
      let not_0 : name ≢ next = λ same. omega (arith, same, lower) in
      let not_1 : name ≢ next + 1 = λ same. omega (arith, same, lower) in
      let not_2 : name ≢ next + 2 = λ same. omega (arith, same, lower) in
      let object : names_then.is_object name ≡ names.is_object name =
      three_other names.is_object next (next + 1) (next + 2) true true true name not_0 not_1 not_2 in
      let piped : names_then.is_pipe name ≡ names.is_pipe name =
      three_other names.is_pipe next (next + 1) (next + 2) true false false name not_0 not_1 not_2 in
      is_named names_then sp.pages a.shared things_then (next + 3) q f name (name_other f other)
      (three_other names.frame next (next + 1) (next + 2) x.frame one.entry.frame two.entry.frame name not_0 not_1 not_2 ∙ was.home)
      (object ∙ was.kind) (piped ∙ was.of_pipe)
      (subst (λ (l : List ℕ). ShowsBy things_then name f (names_then.is_object name) (names_then.is_pipe name) (a.shared name) l) (sym bytes)
      (subst (λ (c : Bool). ShowsBy things_then name f c (names_then.is_pipe name) (a.shared name) (s.spaces.pages f)) (sym object)
      (subst (λ (c : Bool). ShowsBy things_then name f (names.is_object name) c (a.shared name) (s.spaces.pages f)) (sym piped)
      (thing_turned (things_in s a) objects_then pipes_then name f (names.is_object name) (names.is_pipe name) (a.shared name) (s.spaces.pages f)
      (upd-other (upd a.objects (next + 1) (read_end next)) (next + 2) (write_end next) name not_2
      ∙ upd-other a.objects (next + 1) (read_end next) name not_1) (upd-other a.pipes next [] name not_0) was.shows))))
      (omega (arith, lower))

  -- that of the pipe, and those of its ends
  third_named : IsNamed names_then sp.pages a.shared things_then (next + 3) (pipe_page reading) x.frame
  third_named =
      let below = reading_below in
      let object : names_then.is_object next ≡ true =
      three_first names.is_object next (next + 1) (next + 2) true true true (λ same. omega (arith, same)) (λ same. omega (arith, same)) in
      let piped : names_then.is_pipe next ≡ true =
      three_first names.is_pipe next (next + 1) (next + 2) true false false (λ same. omega (arith, same)) (λ same. omega (arith, same)) in
      let kind : is_pipe_page (pipe_page reading) ≡ true = grind (arith, nat_tests) in
      is_named names_then sp.pages a.shared things_then (next + 3) (pipe_page reading) x.frame next name_third
      (three_first names.frame next (next + 1) (next + 2) x.frame one.entry.frame two.entry.frame (λ same. omega (arith, same)) (λ same. omega (arith, same)))
      (object ∙ sym (is_descriptors_pipe reading reading_below)) (piped ∙ sym kind)
      (subst (λ (c : Bool). ShowsBy things_then next x.frame c (names_then.is_pipe next) (a.shared next) (sp.pages x.frame)) (sym object)
      (subst (λ (c : Bool). HasThing things_then next x.frame c (sp.pages x.frame)) (sym piped)
      (empty_stands things_then next x.frame (sp.pages x.frame) (ap read_of given.same ∙ page_told.1) (ap written_of given.same ∙ page_told.2)
      (upd-at a.pipes next []) (no_servers (pipe_page reading) x making_third x_is))))
      (omega arith)

  first_named : IsNamed names_then sp.pages a.shared things_then (next + 3) (descriptor_page reading) one.entry.frame
  first_named =
      let below = reading_below in
      let bytes = bytes_same home (descriptor_page reading) one.entry one.stands in
      let object : names_then.is_object (next + 1) ≡ true =
      three_second names.is_object next (next + 1) (next + 2) true true true (λ same. omega (arith, same)) in
      let piped : names_then.is_pipe (next + 1) ≡ false =
      three_second names.is_pipe next (next + 1) (next + 2) true false false (λ same. omega (arith, same)) in
      let kind : is_pipe_page (descriptor_page reading) ≡ false = grind (arith, nat_tests) in
      let is_end : objects_then (next + 1) ≡ read_end next =
      upd-other (upd a.objects (next + 1) (read_end next)) (next + 2) (write_end next) (next + 1) (λ same. omega (arith, same))
      ∙ upd-at a.objects (next + 1) (read_end next) in
      is_named names_then sp.pages a.shared things_then (next + 3) (descriptor_page reading) one.entry.frame (next + 1) name_first
      (three_second names.frame next (next + 1) (next + 2) x.frame one.entry.frame two.entry.frame (λ same. omega (arith, same)))
      (object ∙ sym (is_descriptors reading reading_below)) (piped ∙ sym kind)
      (subst (λ (c : Bool). ShowsBy things_then (next + 1) one.entry.frame c (names_then.is_pipe (next + 1)) (a.shared (next + 1)) (sp.pages one.entry.frame))
      (sym object)
      (subst (λ (c : Bool). HasThing things_then (next + 1) one.entry.frame c (sp.pages one.entry.frame)) (sym piped)
      (subst (λ (o : Object). HasObject things_then (next + 1) one.entry.frame o (sp.pages one.entry.frame)) (sym is_end)
      (record {
        numbered = omega arith;
        device = ap device_of bytes ∙ one.device_is;
        mode_is = ap mode_of bytes ∙ one.mode_is;
        apart = no_servers (descriptor_page reading) one.entry making_first one.stands;
      }))))
      (omega arith)

  second_named : IsNamed names_then sp.pages a.shared things_then (next + 3) (descriptor_page writing) two.entry.frame
  second_named =
      let below = writing_below in
      let bytes = bytes_same home (descriptor_page writing) two.entry two.stands in
      let object : names_then.is_object (next + 2) ≡ true = three_third names.is_object next (next + 1) (next + 2) true true true in
      let piped : names_then.is_pipe (next + 2) ≡ false = three_third names.is_pipe next (next + 1) (next + 2) true false false in
      let kind : is_pipe_page (descriptor_page writing) ≡ false = grind (arith, nat_tests) in
      let is_end : objects_then (next + 2) ≡ write_end next = upd-at (upd a.objects (next + 1) (read_end next)) (next + 2) (write_end next) in
      is_named names_then sp.pages a.shared things_then (next + 3) (descriptor_page writing) two.entry.frame (next + 2) name_second
      (three_third names.frame next (next + 1) (next + 2) x.frame one.entry.frame two.entry.frame)
      (object ∙ sym (is_descriptors writing writing_below)) (piped ∙ sym kind)
      (subst (λ (c : Bool). ShowsBy things_then (next + 2) two.entry.frame c (names_then.is_pipe (next + 2)) (a.shared (next + 2)) (sp.pages two.entry.frame))
      (sym object)
      (subst (λ (c : Bool). HasThing things_then (next + 2) two.entry.frame c (sp.pages two.entry.frame)) (sym piped)
      (subst (λ (o : Object). HasObject things_then (next + 2) two.entry.frame o (sp.pages two.entry.frame)) (sym is_end)
      (record {
        numbered = omega arith;
        device = ap device_of bytes ∙ two.device_is;
        mode_is = ap mode_of bytes ∙ two.mode_is;
        apart = no_servers (descriptor_page writing) two.entry making_second two.stands;
      }))))
      (omega arith)

  -- whichever is made
  made_named : (q : ℕ) (y : Entry) → is_making at_mapping q ≡ true → row q ≡ Some y →
      IsNamed names_then sp.pages a.shared things_then (next + 3) q y.frame
  made_named q y making hy = elim (page_cases q (both _ _ making).0) [
    | inl page ↦ elim (made_one reading writing (descriptor_at q) (both _ _ making).1) [
      | inl same ↦ at (descriptor_page reading) one.entry (page ∙ ap descriptor_page same) one.stands first_named
      | inr same ↦ at (descriptor_page writing) two.entry (page ∙ ap descriptor_page same) two.stands second_named
    ]
    | inr page ↦ elim (made_one reading writing (descriptor_at q) (both _ _ making).1) [
      | inl same ↦ at (pipe_page reading) x (page ∙ ap pipe_page same) x_is third_named
      | inr same ↦ absurd (none-some y (sym it.none ∙ ap row (sym (page ∙ ap pipe_page same)) ∙ hy))
    ]
  ]
    where
      at : (p : ℕ) (z : Entry) → q ≡ p → row p ≡ Some z → IsNamed names_then sp.pages a.shared things_then (next + 3) p z.frame →
          IsNamed names_then sp.pages a.shared things_then (next + 3) q y.frame
      at p z same hz so =
          subst (λ (r : ℕ). IsNamed names_then sp.pages a.shared things_then (next + 3) r y.frame) (sym same)
          (subst (λ (w : Entry). IsNamed names_then sp.pages a.shared things_then (next + 3) p w.frame)
          (same_Some z y (sym hz ∙ ap row (sym same) ∙ hy)) so)

  rows_then : RowsStand names_then sp.pages a.shared things_then (next + 3) counts_then
  rows_then = record {
    apart = agree;
    named = λ m q y hy shared_page. elim (old_or_new m q y hy) [
      | inl old ↦ old_named q y.frame (made_other y.frame old.apart) (old_bytes m q y old.counted) (h.named m q y old.counted shared_page)
      | inr new ↦ named_at ((new_descriptor m q y new)) new.kind (made_named new.place y new.made new.stood)
    ];
    users = λ m q y hy. elim (old_or_new m q y hy) [
      | inl old ↦ h.users m q y old.counted
      | inr new ↦ subst (λ (perm : ℕ). IsUsers perm) (sym (new_bits m q y new)) descriptor_user
    ];
    whole = λ m q y hy. elim (old_or_new m q y hy) [
      | inl old ↦ subst (λ (l : List ℕ). IsPage l) (sym (old_bytes m q y old.counted)) (h.whole m q y old.counted)
      | inr new ↦ subst (λ (l : List ℕ). IsPage l) (sym (bytes_same home new.place y new.stood))
          (h.whole n new.place (as_own y) (counts_own new.place y new.made new.stood))
    ];
    beside = λ m p q y e hy lies same. elim (old_or_new m p y hy) [
      | inl old ↦ h.beside m p q y e old.counted lies same
      | inr new ↦ absurd (no_servers new.place y new.made new.stood q e lies (sym same))
    ];
  }
    where
      new_descriptor : (m q : ℕ) (y : Entry) → (new : IsNew m q y) → is_of_descriptor q ≡ is_of_descriptor new.place
      new_descriptor m q y new = new.descriptor ∙ sym (both _ _ new.made).0

  -- ---- the environment

  abbrev born_then : Born
  born_then = record (with_descriptor (with_descriptor v.b reading (Some (a.next_name + 1))) writing (Some (a.next_name + 2))) {
    program = guest regs_then;
    phase = at_guest;
    blocked = false;
  }

  unhandled : is_in_handler (place_of (slot_at s n)) ≡ false
  unhandled = ap is_in_handler stands

  undescribed : (fd : ℕ) → makes at_mapping fd ≡ true → v.b.descriptors fd ≡ None
  undescribed = undescribed_made h n v.b v.is at_mapping stands (λ fd. refl)

  was_seen : (fd : ℕ) → makes at_mapping fd ≡ false → v.b.descriptors fd ≡ descriptor_seen names s.spaces home fd
  was_seen fd none =
      own.descriptors fd (ap (λ (p : Place). is_dropped p fd) stands)
      ∙ ap (λ (c : Bool). seen_unless c (descriptor_seen names s.spaces home fd)) (ap (λ (p : Place). is_made p fd) stands ∙ none)

  unmade_pipe : (q : ℕ) → is_making at_mapping q ≡ false → q ≢ pipe_page writing
  unmade_pipe q none same =
      let making : is_making at_mapping (pipe_page writing) ≡ true = making_pipe at_mapping writing writing_below ∙ made_second reading writing in
      let contradiction : true ≡ false = sym making ∙ ap (is_making at_mapping) (sym same) ∙ none in cc

  name_kept : (q : ℕ) (y : Entry) → is_making at_mapping q ≡ false → row q ≡ Some y → names_then.name y.frame ≡ names.name y.frame
  name_kept q y none hy =
      name_other y.frame (made_other y.frame (λ p z making hz. own_apart q y hy p z making hz
      (λ same. let contradiction : true ≡ false = sym making ∙ ap (is_making at_mapping) (sym same) ∙ none in cc)))

  shown_kept : (q : ℕ) → is_making at_mapping q ≡ false → shown_at names_then sp home q ≡ shown_at names s.spaces home q
  shown_kept q none =
      shown_same names names_then s.spaces sp home q (row_beside q (unmade_pipe q none)) (λ y hy own_page. bytes_same home q y hy)
      (λ y hy shared_page. name_kept q y none hy)

  descriptor_kept : (fd : ℕ) → makes at_mapping fd ≡ false → (c : Bool) → nat_lt fd DESCRIPTORS ≡ c →
      descriptor_seen names_then sp home fd ≡ descriptor_seen names s.spaces home fd
  descriptor_kept fd none true test =
      let below : fd < DESCRIPTORS = grind (arith, nat_tests) in
      descriptor_shown names names_then s.spaces sp home fd (shown_kept (descriptor_page fd) (making_descriptor at_mapping fd below ∙ none))
  descriptor_kept fd none false test =
      ap (λ (c : Bool). if c then name_of (shown_at names_then sp home (descriptor_page fd)) else None) test
      ∙ sym (ap (λ (c : Bool). if c then name_of (shown_at names s.spaces home (descriptor_page fd)) else None) test)

  -- a descriptor is seen by the name of its frame
  seen_by_name : (with_names : Names) (t : SpacesState) (fd : ℕ) (y : Entry) → fd < DESCRIPTORS → y.perm ≡ descriptor_perm →
      rows_of t home (descriptor_page fd) ≡ Some y → descriptor_seen with_names t home fd ≡ Some (with_names.name y.frame)
  seen_by_name with_names t fd y below bits hy =
      let test : nat_lt fd DESCRIPTORS ≡ true = grind (arith, nat_tests) in
      let shared_page : is_shared y.perm ≡ true = ap is_shared bits in
      ap (λ (c : Bool). if c then name_of (shown_at with_names t home (descriptor_page fd)) else None) test
      ∙ ap (λ (o : Option Entry). name_of (option_map (page_by with_names t.pages) o)) hy
      ∙ ap (λ (c : Bool). name_of (Some (if c then named (with_names.name y.frame) (has_write y.perm)
      else own_page_of (t.pages y.frame) (may_write y.perm)))) shared_page

  page_row : (fd : ℕ) → fd < DESCRIPTORS → rows_of sp home (descriptor_page fd) ≡ row (descriptor_page fd)
  page_row fd below = row_beside (descriptor_page fd) (λ same. omega (arith, below, same))

  bits_at : (fd : ℕ) (y : Entry) → fd < DESCRIPTORS → row (descriptor_page fd) ≡ Some y → y.perm ≡ descriptor_perm
  bits_at fd y below hy = own.library.descriptors (descriptor_page fd) y (is_descriptors fd below) hy

  descriptors_then : (fd : ℕ) → born_then.descriptors fd ≡ descriptor_seen names_then sp home fd
  descriptors_then =
      upd-all (λ q (o : Option ℕ). o ≡ descriptor_seen names_then sp home q) (upd v.b.descriptors reading (Some (next + 1))) writing (Some (next + 2))
      (ap (λ (m : ℕ). Some m) (sym name_second)
      ∙ sym (seen_by_name names_then sp writing two.entry writing_below (bits_at writing two.entry writing_below two.stands)
      (page_row writing writing_below ∙ two.stands)))
      (λ q ne. upd-all (λ q (o : Option ℕ). q ≢ writing → o ≡ descriptor_seen names_then sp home q) v.b.descriptors reading (Some (next + 1))
      (λ other. ap (λ (m : ℕ). Some m) (sym name_first)
      ∙ sym (seen_by_name names_then sp reading one.entry reading_below (bits_at reading one.entry reading_below one.stands)
      (page_row reading reading_below ∙ one.stands)))
      (λ q not_reading not_writing. was_seen q (made_none reading writing q not_reading not_writing)
      ∙ sym (descriptor_kept q (made_none reading writing q not_reading not_writing) (nat_lt q DESCRIPTORS) refl)) q ne)

  memory_kept : (q : ℕ) (c : Bool) → is_programs q ≡ c → page_seen names_then sp home q ≡ page_seen names s.spaces home q
  memory_kept q true inside = ap (seen_where (is_programs q)) (shown_kept q (making_none at_mapping q (programs_no_descriptor q inside)))
  memory_kept q false off =
      ap (λ (c : Bool). seen_where c (shown_at names_then sp home q)) off
      ∙ sym (ap (λ (c : Bool). seen_where c (shown_at names s.spaces home q)) off)

  beside_pipe : (q : ℕ) → is_of_descriptor q ≡ false → rows_of sp home q ≡ row q
  beside_pipe q none = row_beside q (unmade_pipe q (making_none at_mapping q none))

  own_alike : (p : ℕ) → is_of_descriptor p ≡ false → IsOwnWritable row p → IsOwnWritable (rows_of sp home) p
  own_alike p none page = record { entry = page.entry; stands = beside_pipe p none ∙ page.stands; own_page = page.own_page; writes = page.writes }

  library_then : (at : Place) (words : List ℕ) → LibraryPages at words row → LibraryPages at words (rows_of sp home)
  library_then at words was = record {
    stack = own_alike (page_number UXSTACK) refl was.stack;
    copy = λ has. own_alike (page_number PFTEMP) refl (was.copy has);
    no_copy = λ has. beside_pipe (page_number PFTEMP) refl ∙ was.no_copy has;
    working = λ has. own_alike (page_number UTEMP) refl (was.working has);
    no_working = λ has. beside_pipe (page_number UTEMP) refl ∙ was.no_working has;
    descriptors = λ q y descriptor hy. elim (cases_eq q (pipe_page writing)) [
      | inl here ↦ was.descriptors (pipe_page reading) y (is_descriptors_pipe reading reading_below)
          (x_is ∙ sym row_there ∙ ap (rows_of sp home) (sym here) ∙ hy)
      | inr other ↦ was.descriptors q y descriptor (sym (row_beside q other) ∙ hy)
    ];
    spawns = λ q is. own_alike q (spawns_aside at words q is).no_descriptor (was.spawns q is);
    none = λ q off no_descriptor no_stack no_copy no_working no_spawns.
        beside_pipe q no_descriptor ∙ was.none q off no_descriptor no_stack no_copy no_working no_spawns;
  }

  -- the region had its table
  table_is : (r : ℕ) → is_some (sp.regions home r) ≡ is_some (s.spaces.regions home r)
  table_is r =
      given.placed.regions home r ∙ ap (λ (c : Bool). (c && (r == pipe_page writing / NPTENTRIES)) || is_some (s.spaces.regions home r)) here
      ∙ by_region (r == pipe_page writing / NPTENTRIES) refl
    where
      here : (home == home) ≡ true
      here = grind (arith, nat_tests)

      tabled : is_some (s.spaces.regions home table_region) ≡ true
      tabled = mapping_table h n reading writing stands

      by_region : (c : Bool) → (r == pipe_page writing / NPTENTRIES) ≡ c → (c || is_some (s.spaces.regions home r)) ≡ is_some (s.spaces.regions home r)
      by_region true test =
          let is : r ≡ pipe_page writing / NPTENTRIES = grind (arith, nat_tests) in
          sym (ap (λ (q : ℕ). is_some (s.spaces.regions home q)) (is ∙ pipe_region writing writing_below) ∙ tabled)
      by_region false test = refl

  mine : StandsForBorn names_then sp moved born_then
  mine = record {
    id = own.id;
    id_small = own.id_small;
    parent = own.parent;
    env_type = own.env_type;
    runs = subst (λ (blocked : Bool). IsStatusFor (slot_at s n).status blocked) it.is_in.awake own.runs;
    upcall = own.upcall ∙ plain_upcall (place_of (slot_at s n)) unhandled ∙ sym (plain_upcall (place_of moved) (ap is_in_handler there));
    descriptors = λ fd still. descriptors_then fd
        ∙ sym (ap (λ (c : Bool). seen_unless c (descriptor_seen names_then sp home fd)) (ap (λ (p : Place). is_made p fd) there));
    memory = λ q. own.memory q ∙ sym (memory_kept q (is_programs q) refl);
    library = subst (λ (p : Place). LibraryPages p no_extra (rows_of sp home)) (sym there)
        (library_moved (place.InService service.Pipe (step.Piped at_mapping)) place.Guest (slot_at s n).extra no_extra (rows_of sp home) refl refl
        (library_then (place.InService service.Pipe (step.Piped at_mapping)) (slot_at s n).extra
        (subst (λ (p : Place). LibraryPages p (slot_at s n).extra row) stands own.library)));
    regions_have = λ r has. table_is r ∙ own.regions_have r has;
    regions_only = λ r has. own.regions_only r (sym (table_is r) ∙ has);
    stack = own.stack;
    flags = own.flags;
    at = subst (λ (p : Place). StandsAt p (view_of sp home) moved born_then) (sym there)
        (record { program = refl; phase = refl; words = refl; silent = it.is_in.silent; awake = refl });
  }

  -- ---- ends of pipes

  -- old objects are what they were
  objects_old : (name : ℕ) → name < next → objects_then name ≡ a.objects name
  objects_old name lower =
      upd-other (upd a.objects (next + 1) (read_end next)) (next + 2) (write_end next) name (λ same. omega (arith, same, lower))
      ∙ upd-other a.objects (next + 1) (read_end next) name (λ same. omega (arith, same, lower))

  pipe_old : (name : ℕ) → name < next → pipe_named objects_then name ≡ pipe_named a.objects name
  pipe_old name lower = ap (λ (o : Object). pipe_of (Some o)) (objects_old name lower)

  first_end : pipe_named objects_then (next + 1) ≡ Some next
  first_end =
      ap (λ (o : Object). pipe_of (Some o))
      (upd-other (upd a.objects (next + 1) (read_end next)) (next + 2) (write_end next) (next + 1) (λ same. omega (arith, same))
      ∙ upd-at a.objects (next + 1) (read_end next))

  second_end : pipe_named objects_then (next + 2) ≡ Some next
  second_end = ap (λ (o : Object). pipe_of (Some o)) (upd-at (upd a.objects (next + 1) (read_end next)) (next + 2) (write_end next))

  pipe_beside : (fd : ℕ) → fd ≢ writing → rows_of sp home (pipe_page fd) ≡ row (pipe_page fd)
  pipe_beside fd ne = row_beside (pipe_page fd) (λ same. ne (omega (arith, same)))

  pipe_name : (fd : ℕ) (y : Entry) → fd < DESCRIPTORS → fd ≢ reading → fd ≢ writing → row (pipe_page fd) ≡ Some y →
      names_then.name y.frame ≡ names.name y.frame
  pipe_name fd y below not_reading not_writing hy =
      name_kept (pipe_page fd) y (making_pipe at_mapping fd below ∙ made_none reading writing fd not_reading not_writing) hy

  abbrev HasIt : ℕ → ℕ → ℕ → Type 0
  HasIt fd name pipe = (entry : Entry) × (rows_of sp home (pipe_page fd) ≡ Some entry) × (names_then.name entry.frame ≡ pipe)

  abbrev NamesIt : ℕ → Option ℕ → Entry → Type 0
  NamesIt fd o entry = (name : ℕ) × (o ≡ Some name) × (pipe_named objects_then name ≡ Some (names_then.name entry.frame))

  was_ends : EndsStand names a.objects (place_of (slot_at s n)) row v.b
  was_ends = ends_at h n v.b v.is

  ends_have : (name pipe fd : ℕ) → fd < DESCRIPTORS → born_then.descriptors fd ≡ Some name → pipe_named objects_then name ≡ Some pipe → HasIt fd name pipe
  ends_have name pipe =
      upd-all (λ fd (o : Option ℕ). fd < DESCRIPTORS → o ≡ Some name → pipe_named objects_then name ≡ Some pipe → HasIt fd name pipe)
      (upd v.b.descriptors reading (Some (next + 1))) writing (Some (next + 2))
      (λ below is piped.
      let same : next ≡ pipe =
      same_Some next pipe (sym second_end ∙ ap (pipe_named objects_then) (same_Some (next + 2) name is) ∙ piped) in
      (x, row_there, name_third ∙ same))
      (λ fd ne. upd-all (λ fd (o : Option ℕ). fd ≢ writing → fd < DESCRIPTORS → o ≡ Some name → pipe_named objects_then name ≡ Some pipe →
      HasIt fd name pipe) v.b.descriptors reading (Some (next + 1))
      (λ other below is piped.
      let same : next ≡ pipe =
      same_Some next pipe (sym first_end ∙ ap (pipe_named objects_then) (same_Some (next + 1) name is) ∙ piped) in
      (x, pipe_beside reading other ∙ x_is, name_third ∙ same))
      (λ fd not_reading not_writing below is piped.
      let found = was_ends.have fd name pipe below is (sym (pipe_old name (h.old n fd name v.b v.is is)) ∙ piped) in
      (found.0, pipe_beside fd not_writing ∙ found.1, pipe_name fd found.0 below not_reading not_writing found.1 ∙ found.2)) fd ne)

  ends_only : (entry : Entry) (fd : ℕ) → fd < DESCRIPTORS → rows_of sp home (pipe_page fd) ≡ Some entry → NamesIt fd (born_then.descriptors fd) entry
  ends_only entry =
      upd-all (λ fd (o : Option ℕ). fd < DESCRIPTORS → rows_of sp home (pipe_page fd) ≡ Some entry → NamesIt fd o entry)
      (upd v.b.descriptors reading (Some (next + 1))) writing (Some (next + 2))
      (λ below lies. (next + 2, refl, second_end ∙ ap (λ (m : ℕ). Some m) (the_name (sym row_there ∙ lies))))
      (λ fd ne. upd-all (λ fd (o : Option ℕ). fd ≢ writing → fd < DESCRIPTORS → rows_of sp home (pipe_page fd) ≡ Some entry → NamesIt fd o entry)
      v.b.descriptors reading (Some (next + 1))
      (λ other below lies. (next + 1, refl, first_end ∙ ap (λ (m : ℕ). Some m) (the_name (sym x_is ∙ sym (pipe_beside reading other) ∙ lies))))
      (λ fd not_reading not_writing below lies.
      let was = sym (pipe_beside fd not_writing) ∙ lies in
      let off : is_on_its_way (place_of (slot_at s n)) fd ≡ false =
      ap (λ (p : Place). is_on_its_way p fd) stands
      ∙ ap (λ (c : Bool). if c then true else false) (made_none reading writing fd not_reading not_writing) in
      let found = was_ends.only fd entry below off was in (
        found.0,
        found.1,
        pipe_old found.0 (h.old n fd found.0 v.b v.is found.1) ∙ found.2
            ∙ ap (λ (m : ℕ). Some m) (sym (pipe_name fd entry below not_reading not_writing was)),
      )) fd ne)
    where
      the_name : Some x ≡ Some entry → next ≡ names_then.name entry.frame
      the_name same = sym name_third ∙ ap (λ (y : Entry). names_then.name y.frame) (same_Some x entry same)

  ends : EndsStand names_then objects_then (place_of moved) (rows_of sp home) born_then
  ends = record {
    have = λ fd name pipe below is piped. ends_have name pipe fd below is piped;
    only = λ fd entry below off lies. ends_only entry fd below lies;
  }

  ends_turned : (m : ℕ) (slot : AbstractSlot) → a.slots m ≡ slot →
      EndsStandAt names_then a.objects (place_of (slot_at s m)) (rows_of sp (slot_at s m).directory) slot →
      EndsStandAt names_then objects_then (place_of (slot_at s m)) (rows_of sp (slot_at s m).directory) slot
  ends_turned m (free id) is stood = tt
  ends_turned m (unborn id parent) is stood = tt
  ends_turned m (serving id) is stood = tt
  ends_turned m (born c) is stood =
      ends_moved (same_places refl) (λ fd. refl) (λ fd name names_it. pipe_old name (h.old m fd name c is names_it)) (λ fd below. refl)
      (λ fd y below lies. refl) stood

  -- ---- locks

  unlocked_then : (m : ℕ) (fd : ℕ) → locked_at (place_of (upd s.environments.slots n moved m)) ≡ Some fd → m ≢ n
  unlocked_then m fd locked same =
      none-some fd (sym (ap (λ (k : Slot). locked_at (place_of k)) (upd-at s.environments.slots n moved) ∙ ap locked_at there)
      ∙ ap (λ (q : ℕ). locked_at (place_of (upd s.environments.slots n moved q))) (sym same) ∙ locked)

  unlocked_was : (m : ℕ) (fd : ℕ) → locked_at (place_of (slot_at s m)) ≡ Some fd → m ≢ n
  unlocked_was m fd locked same =
      none-some fd (sym (ap locked_at stands) ∙ ap (λ (q : ℕ). locked_at (place_of (slot_at s q))) (sym same) ∙ locked)

  slot_other : (m : ℕ) → m ≢ n → upd s.environments.slots n moved m ≡ slot_at s m
  slot_other m ne = upd-other s.environments.slots n moved m ne

  held_before : (m frame : ℕ) → HoldsLock (place_of (upd s.environments.slots n moved m)) (counts_then m) frame →
      HoldsLock (place_of (slot_at s m)) (before m) frame
  held_before m frame holds =
      let ne = unlocked_then m holds.fd holds.locked in
      record {
        fd = holds.fd;
        locked = sym (ap (λ (k : Slot). locked_at (place_of k)) (slot_other m ne)) ∙ holds.locked;
        below = holds.below;
        entry = holds.entry;
        stands = sym (other_then m ne (pipe_page holds.fd)) ∙ holds.stands;
        shared = holds.shared;
        same = holds.same;
      }

  held_then : (m frame : ℕ) → HoldsLock (place_of (slot_at s m)) (before m) frame →
      HoldsLock (place_of (upd s.environments.slots n moved m)) (counts_then m) frame
  held_then m frame holds =
      let ne = unlocked_was m holds.fd holds.locked in
      record {
        fd = holds.fd;
        locked = ap (λ (k : Slot). locked_at (place_of k)) (slot_other m ne) ∙ holds.locked;
        below = holds.below;
        entry = holds.entry;
        stands = other_then m ne (pipe_page holds.fd) ∙ holds.stands;
        shared = holds.shared;
        same = holds.same;
      }

  -- nobody has the lock of the new one
  new_unlocked : (m fd : ℕ) (y : Entry) → fd < DESCRIPTORS → IsNew m (pipe_page fd) y → lock_of (sp.pages y.frame) ≡ 0
  new_unlocked m fd y below new = elim (page_cases new.place (both _ _ new.made).0) [
    | inl page ↦
        let number : descriptor_at new.place < DESCRIPTORS = omega arith in
        let one_kind : is_pipe_page (pipe_page fd) ≡ true = grind (arith, nat_tests) in
        let other_kind : is_pipe_page (descriptor_page (descriptor_at new.place)) ≡ false = grind (arith, nat_tests) in
        absurd (let contradiction : true ≡ false = sym one_kind ∙ new.kind ∙ ap is_pipe_page page ∙ other_kind in cc)
    | inr page ↦ elim (made_one reading writing (descriptor_at new.place) (both _ _ new.made).1) [
      | inl same ↦
          let is_x : x ≡ y = same_Some x y (sym x_is ∙ ap row (sym (page ∙ ap pipe_page same)) ∙ new.stood) in
          subst (λ (z : Entry). lock_of (sp.pages z.frame) ≡ 0) is_x (ap lock_of given.same ∙ page_told.0)
      | inr same ↦ absurd (none-some y (sym it.none ∙ ap row (sym (page ∙ ap pipe_page same)) ∙ new.stood))
    ]
  ]

  locks : LocksStand sp.pages (upd s.environments.slots n moved) counts_then
  locks = record {
    held = λ m frame holds.
        let was = held_before m frame holds in
        subst (λ (f : ℕ). lock_of (sp.pages f) ≡ lock_of (s.spaces.pages f)) was.same (ap lock_of (old_bytes m (pipe_page was.fd) was.entry was.stands))
        ∙ h.locks.held m frame was;
    holder = λ m fd y below lies shared_page some. elim (old_or_new m (pipe_page fd) y lies) [
      | inl old ↦
          let found = h.locks.holder m fd y below old.counted shared_page
          (λ zero. some (ap lock_of (old_bytes m (pipe_page fd) y old.counted) ∙ zero)) in
          (found.0, held_then found.0 y.frame found.1)
      | inr new ↦ absurd (some (new_unlocked m fd y below new))
    ];
    alone = λ m o frame holds too. h.locks.alone m o frame (held_before m frame holds) (held_before o frame too);
  }

  -- ---- the whole

  module _ (in_order : IsInOrder (with_spaces s sp)) (last : s.last ≡ Some n) where
    rows_whole : RowsStand names_then sp.pages a.shared (record things_then { row = server_row sp (upd s.environments.slots n moved) }) (next + 3)
        counts_then
    rows_whole =
        rows_turned {things = things_then}
        (ap (λ (k : Slot). rows_of sp k.directory) (upd-other s.environments.slots n moved 0 (born_not_first h n v.b v.is))
        ∙ (servers_seen h n v.b v.is others).rows) rows_then

    later : NamesAreOld a.slots (next + 3)
    later m fd name c is names_it = let was = h.old m fd name c is names_it in omega (arith, was)

    names_then_old : (fd name : ℕ) → born_then.descriptors fd ≡ Some name → name < next + 3
    names_then_old fd name =
        upd-all (λ fd (o : Option ℕ). o ≡ Some name → name < next + 3) (upd v.b.descriptors reading (Some (next + 1))) writing (Some (next + 2))
        (λ is. let same : next + 2 ≡ name = same_Some (next + 2) name is in omega (arith, same))
        (λ fd other. upd-all (λ fd (o : Option ℕ). o ≡ Some name → name < next + 3) v.b.descriptors reading (Some (next + 1))
        (λ is. let same : next + 1 ≡ name = same_Some (next + 1) name is in omega (arith, same))
        (λ fd apart is. later n fd name v.b v.is is) fd) fd

    made_stands : StandsFor names_then (gone_back (with_spaces s sp) n (record (slot_at s n).registers { eax = 0; edx = reading; ecx = writing }))
        (pipe_made a n v.b (slot_at s n).registers reading writing)
    made_stands = record {
      slots = upd-both (λ m (k : Slot) (y : AbstractSlot). StandsForSlot names_then sp k y) s.environments.slots a.slots n moved (born born_then) mine
          (others_stand h n v.b v.is others (others_counts h n last sp));
      children = children_moved h n v.b v.is (upd s.environments.slots n moved) born_then (ap borne_in stands)
          (ap (λ (k : Slot). borne_in (place_of k)) (upd-at s.environments.slots n moved) ∙ ap borne_in there) slot_other others;
      apart = rows_whole.apart;
      named = rows_whole.named;
      users = rows_whole.users;
      whole = rows_whole.whole;
      beside = rows_whole.beside;
      ends = upd-both (λ m (k : Slot) (y : AbstractSlot). EndsStandAt names_then objects_then (place_of k) (rows_of sp k.directory) y)
          s.environments.slots a.slots n moved (born born_then) ends
          (λ m ne. ends_turned m (a.slots m) refl (others_ends h n v.b v.is others m ne));
      locks = locks;
      runs = turns_settle s.environments.slots n moved h.runs (record { id = refl; env_type = refl; turns = refl; calm = λ runs. runs });
      old = old_set later n born_then names_then_old;
      free_slots = h.free_slots;
      first = upd-other a.slots n (born born_then) 0 (born_not_first h n v.b v.is) ∙ h.first;
      server = server_same (upd-other s.environments.slots n moved 0 (born_not_first h n v.b v.is))
          (server_alike (servers_seen h n v.b v.is others) h.server);
      input = h.input;
      last = h.last;
      turns = h.turns;
      tabled = tabled_set h.tabled n moved (born_live (born_at h n v.b v.is)) (record { id = refl; env_type = refl; turns = refl; calm = λ runs. runs });
      in_order = slot_in_order (with_spaces s sp) n moved refl refl in_order;
    }

    -- ---- the step of the abstract system

    open_at : (q : ℕ) → q < DESCRIPTORS → q ≢ reading → q ≢ writing → IsOpen row q → is_some (v.b.descriptors q) ≡ true
    open_at q below not_reading not_writing is_open =
        let found = some_is (row (descriptor_page q)) is_open in
        ap is_some (was_seen q (made_none reading writing q not_reading not_writing)
        ∙ seen_by_name names s.spaces q found.0 below (bits_at q found.0 below found.1) found.1)

    first_lowest : lowest_free v.b ≡ Some reading
    first_lowest =
        let first = order in
        let below = reading_below in
        free_from v.b.descriptors 0 DESCRIPTORS reading (omega arith) (omega (arith, below))
        (λ q from low. open_at q (omega (arith, low, below)) (λ same. omega (arith, same, low)) (λ same. omega (arith, same, low, first))
        (it.lowest.lower q (omega (arith, low, first)) (λ same. omega (arith, same, low)))) (undescribed reading (made_first reading writing))

    second_lowest : next_free v.b (Some reading) ≡ Some writing
    second_lowest =
        let below = writing_below in
        free_from (upd v.b.descriptors reading (Some 0)) 0 DESCRIPTORS writing (omega arith) (omega (arith, below))
        (λ q from low. upd-all (λ q (o : Option ℕ). q < writing → is_some o ≡ true) v.b.descriptors reading (Some 0) (λ lower. refl)
        (λ q ne lower. open_at q (omega (arith, lower, below)) ne (λ same. omega (arith, same, lower)) (it.lowest.lower q lower ne)) q low)
        (upd-other v.b.descriptors reading (Some 0) writing (λ same. apart_ends (sym same)) ∙ undescribed writing (made_second reading writing))

    made_step : abs_step a n ≡ Some (pipe_made a n v.b (slot_at s n).registers reading writing)
    unfolding library_step
    made_step =
        step_in a n v.b (slot_at s n) service.Pipe entered v.is it.is_in
        ∙ (λ i. Some (pipe_on a n v.b (slot_at s n).registers (first_lowest i) (next_free v.b (first_lowest i))))
        ∙ (λ i. Some (pipe_on a n v.b (slot_at s n).registers (Some reading) (second_lowest i)))

    pub made_goes : GoesOn n (gone_back (with_spaces s sp) n (record (slot_at s n).registers { eax = 0; edx = reading; ecx = writing })) a []
    made_goes = (_, made_step, printed_nothing a, (names_then, made_stands))

-- What the step comes to, where each descriptor of an environment names an object that has its name already.
pub mapping_keeps : (s : KernelState) (n reading writing : ℕ) →
    place_of (slot_at s n) ≡ place.InService service.Pipe (step.Piped (pipe.MappingPipe reading writing)) → (sp : SpacesState) →
    pipe_map_asked s n reading writing ≡ giving (with_spaces s sp) (Answered 0) → IsInOrder (with_spaces s sp) →
    KeepsStanding progress.Finished n s (gone_back (with_spaces s sp) n (record (slot_at s n).registers { eax = 0; edx = reading; ecx = writing })) []
mapping_keeps s n reading writing stands sp gives in_order a h turn quiet =
    let maps = mapping_maps h.1 n reading writing stands in
    let same : maps.spaces ≡ sp = ap (λ (z : CallStep Called). z.state.spaces) (sym maps.step ∙ gives) in
    made_goes h.1 n reading writing stands maps.entry maps.stands
    (subst (λ (t : SpacesState). Given s.spaces t (slot_at s n).directory (pipe_page writing) maps.entry) same
    (maps.given (subst (λ (t : SpacesState). IsInOrder (with_spaces s t)) (sym same) in_order))) in_order turn.last
