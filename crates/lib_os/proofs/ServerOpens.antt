-- The file server replies with the page of a file that it has opened: the client that waits for it has that as its lowest free descriptor's page,
-- which names the file, and is answered the descriptor.
use Rattle.std.proofs.Common.{◌≡◌, ◌≢◌, ◌∙◌, ◌⊎◌, ◌+◌, ◌*◌, ◌/◌, ◌%◌, ◌^◌, ◌<◌, ◌≤◌, ◌==◌, ◌&&◌, ◌||◌, ℕ, Bool, true, false, List, [], ◌∷◌}
use Rattle.std.proofs.Common.{Option, Some, None, inl, inr, refl, sym, ap, subst, arith, if◌then◌else◌}
use Rattle.std.specs.Prelude.{is_some, nat_lt, slice_index}
use Rattle.std.specs.Option.{option_map}
use Rattle.std.proofs.lemmas.Bool.Decides.{nat_tests}
use Rattle.std.proofs.lemmas.Option.{same_Some, none-some}
use Rattle.jos_base.specs.declared.called.Called.{Called}
use Rattle.jos_base.specs.declared.called.Called.TheVariants.{Answered}
use Rattle.jos_base.specs.declared.numbers.TheConstants.{E_MAX_OPEN, FDTABLE, FIRST_ENV_ID, NENV, NPTENTRIES, PGSIZE, SYS_IPC_TRY_SEND, UTOP}
use Rattle.jos_base.specs.Environments.{Slot, found, is_live as is_live_slot}
use Rattle.jos_base.specs.KernelState.{KernelState, slot_at, with_spaces}
use Rattle.jos_base.specs.Messages.{accepts}
use Rattle.jos_base.specs.Reach.{Entry}
use Rattle.jos_base.specs.Counting.{named, page_count}
use Rattle.jos_base.specs.SpacesState.{SpacesState, inserted, own_count, put}
use Rattle.jos_base.specs.SystemCalls.{entry_at, has_write, shared_entry}
use Rattle.jos_base.specs.Words.{negated, page_number, upd}
use Rattle.jos_elf.specs.Pages.{page_bytes, stack_page}
use Rattle.jos_elf.specs.StackPage.{stack_contents}
use Rattle.jos_elf.specs.Started.{stack_segment}
use Rattle.lib_os.specs.declared.numbers.TheConstants.{DESCRIPTORS, MAXOPEN, REQUEST, SPAWN_STACK}
use Rattle.lib_os.specs.declared.place.Place.{Place}
use Rattle.lib_os.specs.declared.place.Place.TheVariants as place
use Rattle.lib_os.specs.declared.place.Step.{Step}
use Rattle.lib_os.specs.declared.place.Step.TheVariants as step
use Rattle.lib_os.specs.declared.service.Service.{Service}
use Rattle.lib_os.specs.declared.service.Service.TheVariants as service
use Rattle.lib_os.specs.declared.spawn_steps.OpeningStep.TheVariants as opening_step
use Rattle.lib_os.specs.declared.spawn_steps.SpawnStep.TheVariants as spawn
use Rattle.lib_os.specs.AbstractRun.{abs_step, pipe_of}
use Rattle.lib_os.specs.AbstractState.{AbstractSlot, AbstractState, Born, Object, OpenFile, Phase, acted, awaiting, born, file, in_service, leaving}
use Rattle.lib_os.specs.AbstractState.{replied, with_born}
use Rattle.lib_os.specs.DescriptorPages.{HasObject, IsOpenFile, device_of, place_page}
use Rattle.lib_os.specs.Descriptors.{with_descriptor}
use Rattle.lib_os.specs.FileServer.{given, reply, reply_at, reply_to}
use Rattle.lib_os.specs.GuestStep.{born_in}
use Rattle.lib_os.specs.InOrder.{IsInOrder}
use Rattle.lib_os.specs.InService.{EachIsOpenBelow, IsLowestFree}
use Rattle.lib_os.specs.LibraryPages.{has_copy, is_library_region}
use Rattle.lib_os.specs.Places.{place_of}
use Rattle.lib_os.specs.Rows.{EntryRow, IsNamed, IsPage, IsUsers, MayBeHad, Names, ShowsBy, descriptor_page, descriptor_perm, descriptor_seen, HasThing, is_pipe_page, pipe_page}
use Rattle.lib_os.specs.Rows.{is_of_descriptor, is_programs, lasting, logical, name_of, page_by, page_seen, rows_of, seen_where}
use Rattle.lib_os.specs.Rows.{shown_at}
use Rattle.lib_os.specs.StandsFor.{IsServerStatus, StandsAt, StandsAtStep, StandsFor, StandsForBorn, has_opened, things_in, upcall_at, view_of, seen_unless}
use Rattle.lib_os.specs.StandsAtSpawn.{PageHas, has_file as spawn_has_file, opened_word}
use Rattle.lib_os.specs.StandsInHandler.{IsFileOpen}
use Rattle.lib_os.specs.UserCalls.{CallStep, giving, system}
use Rattle.lib_os.specs.PipeEnds.{EndsStand, LocksStand, is_on_its_way, locked_at, pipe_named}
use Rattle.lib_os.proofs.PipesStand.{calm_made, calm_on_way, ends_at_one, is_calm, locks_beside, no_pipe_beside, same_places}
use Rattle.lib_os.proofs.AskedPlaces.{AwaitingPlace, SpawnPlace, awaiting_place}
use Rattle.lib_os.proofs.SpawnWaits.{AwaitsOpened, SpawnAwaits}
use Rattle.lib_os.proofs.DescriptorLooks.{descriptor_user, is_descriptors, page_region, table_region, none_seen, seen_calm}
use Rattle.lib_os.proofs.DescriptorsStand.{library_kept}
use Rattle.lib_os.proofs.Effects.{Given}
use Rattle.lib_os.proofs.EntriesStand.{PutsRow, RowsStand, named_bytes, rows_put, rows_same, rows_stand, shown_same}
use Rattle.lib_os.proofs.FreeSeen.{all_seen, lowest_seen}
use Rattle.lib_os.proofs.Logical.{is_plain, plain_unborne, programs_no_descriptor}
use Rattle.lib_os.proofs.NamesGiven.{IsUnused, given_name_stands, named_too}
use Rattle.lib_os.proofs.PagesStand.{Puts, bytes_elsewhere, counts_put, others_seen, other_regions, row_elsewhere, row_placed}
use Rattle.lib_os.proofs.PassedOn.{given_with}
use Rattle.lib_os.proofs.Placing.{inserted_given}
use Rattle.lib_os.proofs.Sends.{found_where, page_comes, page_not_wanted, received_in, with_message}
use Rattle.lib_os.proofs.ServerReplies.{served_is, server_goes_on, status_at, told_at, told_own}
use Rattle.lib_os.proofs.ServerStands.{ends_counts, first_slot, running_lives}
use Rattle.lib_os.proofs.Serving.{library_moved, in_no_service, pages_kept}
use Rattle.lib_os.proofs.Slots.{slot_kept}
use Rattle.lib_os.proofs.SlotsStand.{CountsKept, SameCounts, born_at, born_live, counts_unpiped, descriptor_shown, is_piped}
use Rattle.lib_os.proofs.StatesStand.{born_not_first, old_with, own_moves, plain_alike, set_counts, slot_changed, slot_in_order, stopped_settles, ends_at, lasting_named, page_own}
use Rattle.jos_base.proofs.Maps.{upd-all, upd-at, upd-alike, upd-other}
use Rattle.jos_base.proofs.Counts.{named_is, page_count-same}
use Rattle.jos_base.proofs.Puts.{Elsewhere}

-- ---- what is opened

-- The server has opened a file, whose page is that of a place of its table, and no client has it yet.
pub record HasOpenedFile (names : Names) (s : KernelState) (a : AbstractState) (number name : ℕ) : Type 0 where
  pub below : number < MAXOPEN
  pub source : Entry
  pub stands : s.spaces.entries (slot_at s 0).directory (place_page number) ≡ Some source
  pub writes : has_write source.perm ≡ true
  pub file_is : OpenFile
  pub object : a.objects name ≡ file file_is
  pub told : IsOpenFile (things_in s a) name source.frame file_is (s.spaces.pages source.frame)
  pub whole : IsPage (s.spaces.pages source.frame)
  pub old : name < a.next_name
  pub unused : IsUnused names s name source.frame

-- the call with which it replies
abbrev pub open_reply_call : KernelState → ℕ → ℕ → CallStep Called
open_reply_call s id number = system s 0 SYS_IPC_TRY_SEND (id ∷ 0 ∷ (FDTABLE + PGSIZE * number) ∷ descriptor_perm ∷ 0 ∷ [])

-- the entry by which the client has the page
abbrev pub descriptor_entry : Entry → Entry
descriptor_entry x = record { frame = x.frame; perm = descriptor_perm }

-- ---- the client's part

-- its slot, to which the page has come, and what it is, with the descriptor
abbrev pub opened_slot : KernelState → ℕ → Slot
opened_slot s client = received_in (slot_at s client) (slot_at s 0).id 0 descriptor_perm

abbrev pub opened_by : Service → Born → ℕ → ℕ → Born
opened_by call b fd name = record (with_descriptor b fd (Some name)) { phase = in_service call (replied [] fd); blocked = false }

-- It waits for the page in a service, at a step at which it bears no child.
module _ {names : Names} {s : KernelState} {a : AbstractState} (h : StandsFor names s a) (client number name fd : ℕ) (b : Born) (call : Service) (to : Step)
    (at : a.slots client ≡ born b) (opens : HasOpenedFile names s a number name) (waiting : place_of (slot_at s client) ≡ place.InService call to)
    (plain_there : is_plain (place.InService call to) ≡ true) (calm_there : is_calm (place.InService call to) ≡ true)
    (lowest : IsLowestFree (rows_of s.spaces (slot_at s client).directory) fd) (sp : SpacesState)
    (put_is : inserted s.spaces (slot_at s client).directory (descriptor_page fd) (descriptor_entry opens.source) ≡ Some sp)
    (in_order : IsInOrder (with_spaces s sp)) where
  abbrev from : Slot
  from = slot_at s client

  abbrev dir : ℕ
  dir = from.directory

  abbrev below : fd < DESCRIPTORS
  below = lowest.below

  abbrev p : ℕ
  p = descriptor_page fd

  abbrev e : Entry
  e = descriptor_entry opens.source

  abbrev after : Names
  after = named_too names name opens.source.frame

  seen_before : (q : ℕ) → b.descriptors q ≡ descriptor_seen after s.spaces dir q
  seen_before = seen_calm (given_name_stands h name opens.source.frame opens.unused) client b at (ap is_calm waiting ∙ calm_there)

  -- the frame has its name
  now : StandsFor after s a
  now = given_name_stands h name opens.source.frame opens.unused

  own_part : StandsForBorn after s.spaces from b
  own_part = born_at now client b at

  page_given : Given s.spaces sp dir p e
  page_given =
      inserted_given s.spaces sp dir p e (slot_at s 0).directory (place_page number) opens.source h.in_order.frames in_order.frames refl opens.stands
      refl put_is

  -- it is a file's
  pub given_open : IsFileOpen (view_of sp dir) fd
  given_open = record { entry = e; stands = row_placed page_given.placed; device = ap device_of page_given.same ∙ opens.told.device }

  pub given_row : (q r : ℕ) → Elsewhere q r dir p → rows_of sp q r ≡ rows_of s.spaces q r
  given_row q r ne = row_elsewhere page_given.placed q r ne

  pub given_bytes : (q r : ℕ) (y : Entry) → Elsewhere q r dir p → rows_of s.spaces q r ≡ Some y → sp.pages y.frame ≡ s.spaces.pages y.frame
  given_bytes q r y ne hy = by_frame (y.frame == e.frame) refl
    where
      by_frame : (c : Bool) → (y.frame == e.frame) ≡ c → sp.pages y.frame ≡ s.spaces.pages y.frame
      by_frame true test =
          let same : e.frame ≡ y.frame = grind (arith, nat_tests) in
          subst (λ (f : ℕ). sp.pages f ≡ s.spaces.pages f) same page_given.same
      by_frame false test =
          let other : y.frame ≢ e.frame = grind (arith, nat_tests) in
          page_given.placed.bytes q r y (row_elsewhere page_given.placed q r ne ∙ hy) other

  puts : Puts after after s.spaces sp dir p (Some e)
  puts = record {
    rows = page_given.placed.rows;
    bytes = given_bytes;
    named_so = λ q r y hy shared_page. refl;
    regions = other_regions page_given.placed;
  }

  -- ---- what it shows

  shown_kept : (q : ℕ) → q ≢ p → shown_at after sp dir q ≡ shown_at after s.spaces dir q
  shown_kept q ne =
      shown_same after after s.spaces sp dir q (row_elsewhere page_given.placed dir q (λ is too. ne too))
      (λ x hx own_page. given_bytes dir q x (λ is too. ne too) hx) (λ x hx shared_page. refl)

  name_shown : name_of (shown_at after sp dir p) ≡ Some name
  name_shown =
      ap (λ (o : Option Entry). name_of (option_map (page_by after sp.pages) o)) (row_placed page_given.placed)
      ∙ ap (λ (m : ℕ). Some m) (upd-at names.name opens.source.frame name)

  descriptor_shows : descriptor_seen after sp dir fd ≡ Some name
  descriptor_shows =
      let low = below in
      let test : nat_lt fd DESCRIPTORS ≡ true = grind (arith, nat_tests, low) in
      ap (λ (c : Bool). if c then name_of (shown_at after sp dir p) else None) test ∙ name_shown

  memory_kept : (q : ℕ) (c : Bool) → is_programs q ≡ c → page_seen after sp dir q ≡ page_seen after s.spaces dir q
  memory_kept q true inside =
      ap (seen_where (is_programs q))
      (shown_kept q (λ is.
      let contradiction : true ≡ false = sym (is_descriptors fd below) ∙ ap is_of_descriptor (sym is) ∙ programs_no_descriptor q inside in cc))
  memory_kept q false outside =
      ap (λ (c : Bool). seen_where c (shown_at after sp dir q)) outside ∙ sym (ap (λ (c : Bool). seen_where c (shown_at after s.spaces dir q)) outside)

  -- its region has a table now
  table_is : (r : ℕ) → is_some (sp.regions dir r) ≡ ((r == p / NPTENTRIES) || is_some (s.spaces.regions dir r))
  table_is r =
      let here : (dir == dir) ≡ true = grind (arith, nat_tests) in
      page_given.placed.regions dir r ∙ ap (λ (c : Bool). (c && (r == p / NPTENTRIES)) || is_some (s.spaces.regions dir r)) here

  tables_have : (r : ℕ) → b.regions r ≡ true → is_some (sp.regions dir r) ≡ true
  tables_have r is = table_is r ∙ by_test (r == p / NPTENTRIES) (own_part.regions_have r is)
    where
      by_test : (c : Bool) → is_some (s.spaces.regions dir r) ≡ true → (c || is_some (s.spaces.regions dir r)) ≡ true
      by_test true had = refl
      by_test false had = had

  tables_only : (r : ℕ) → is_some (sp.regions dir r) ≡ true → b.regions r || is_library_region r ≡ true
  tables_only r is = by_test (r == p / NPTENTRIES) refl (sym (table_is r) ∙ is)
    where
      or_true : (t u : Bool) → u ≡ true → (t || u) ≡ true
      or_true true u so = refl
      or_true false u so = so

      by_test : (c : Bool) → (r == p / NPTENTRIES) ≡ c → (c || is_some (s.spaces.regions dir r)) ≡ true → b.regions r || is_library_region r ≡ true
      by_test true test there =
          let at_table : r ≡ table_region = (let is : r ≡ p / NPTENTRIES = grind (arith, nat_tests) in is ∙ page_region fd below) in
          or_true (b.regions r) (is_library_region r) (ap is_library_region at_table)
      by_test false test there = own_part.regions_only r there

  -- ---- itself

  abbrev pub told_slot : Slot
  told_slot = opened_slot s client

  abbrev pub opened_born : Born
  opened_born = opened_by call b fd name

  same_place : place_of told_slot ≡ place_of from
  same_place = told_at from (slot_at s 0).id 0 descriptor_perm

  each_seen : (q : ℕ) → opened_born.descriptors q ≡ descriptor_seen after sp dir q
  each_seen =
      upd-all (λ q (o : Option ℕ). o ≡ descriptor_seen after sp dir q) b.descriptors fd (Some name) (sym descriptor_shows)
      (λ q ne. seen_before q
      ∙ sym (descriptor_shown after after s.spaces sp dir q (shown_kept (descriptor_page q) (λ same. ne (omega (arith, same))))))

  mine : StandsAtStep (view_of sp dir) told_slot opened_born call to → StandsForBorn after sp told_slot opened_born
  mine so = record {
    id = own_part.id;
    id_small = own_part.id_small;
    parent = own_part.parent;
    env_type = own_part.env_type;
    runs = tt;
    upcall = own_part.upcall ∙ sym (ap upcall_at same_place);
    descriptors = λ q still. each_seen q
        ∙ sym (ap (λ (c : Bool). seen_unless c (descriptor_seen after sp dir q)) (calm_made (place_of told_slot) (ap is_calm (same_place ∙ waiting) ∙ calm_there) q));
    memory = λ q. own_part.memory q ∙ sym (memory_kept q (is_programs q) refl);
    library = library_moved (place_of from) (place_of told_slot) from.extra told_slot.extra (rows_of sp dir) (sym (ap has_copy same_place))
        (sym (ap (λ (x : Place). pages_kept x from.extra) same_place))
        (library_kept (place_of from) from.extra (rows_of s.spaces dir) (rows_of sp dir) fd below
        (λ q ne. row_elsewhere page_given.placed dir q (λ is too. ne too))
        (λ x is. ap (λ (y : Entry). y.perm) (sym (same_Some e x (sym (row_placed page_given.placed) ∙ is)))) own_part.library);
    regions_have = tables_have;
    regions_only = tables_only;
    stack = own_part.stack;
    flags = own_part.flags;
    at = subst (λ (x : Place). StandsAt x (view_of sp dir) told_slot opened_born) (sym (same_place ∙ waiting)) so;
  }

  -- ---- each frame

  plain : is_plain (place_of from) ≡ true
  plain = ap is_plain waiting ∙ plain_there

  frame_is : (y : Entry) → Some e ≡ Some y → y.frame ≡ opens.source.frame
  frame_is y is = ap (λ (z : Entry). z.frame) (sym (same_Some e y is))

  row_there : rows_of s.spaces (slot_at s 0).directory (place_page number) ≡ Some (lasting opens.source)
  unfolding rows_of
  row_there = ap (λ (o : Option Entry). option_map lasting o) opens.stands

  new_named : IsNamed after sp.pages a.shared (things_in s a) a.next_name p opens.source.frame
  new_named =
      let f = opens.source.frame in
      let name_is : upd names.name f name f ≡ name = upd-at names.name f name in
      let object : upd names.is_object name true name ≡ true = upd-at names.is_object name true in
      let off : upd names.is_pipe name false name ≡ false = upd-at names.is_pipe name false in
      let low : fd < DESCRIPTORS = below in
      let beside : is_pipe_page p ≡ false = grind (arith, nat_tests, low) in
      let shows : HasObject (things_in s a) name f (a.objects name) (sp.pages f) =
      subst (λ (o : Object). HasObject (things_in s a) name f o (sp.pages f)) (sym opens.object)
      (subst (λ (l : List ℕ). IsOpenFile (things_in s a) name f opens.file_is l) (sym page_given.same) opens.told) in
      let facts = subst (λ (m : ℕ). (upd names.frame name f m ≡ f) × (upd names.is_object name true m ≡ is_of_descriptor p)
      × (upd names.is_pipe name false m ≡ is_pipe_page p)
      × ShowsBy (things_in s a) m f (upd names.is_object name true m) (upd names.is_pipe name false m) (a.shared m) (sp.pages f) × (m < a.next_name)) (sym name_is) (
        upd-at names.frame name f,
        object ∙ sym (is_descriptors fd below),
        off ∙ sym beside,
        subst (λ (c : Bool). ShowsBy (things_in s a) name f c (upd names.is_pipe name false name) (a.shared name) (sp.pages f)) (sym object)
            (subst (λ (c : Bool). HasThing (things_in s a) name f c (sp.pages f)) (sym off) shows),
        opens.old,
      ) in
      record { home = facts.0; kind = facts.1; of_pipe = facts.2; shows = facts.3; old = facts.4 }

  -- beside the server's page, which is that of a place
  had : (q : ℕ) → q ≡ place_page number → MayBeHad (q == page_number REQUEST) p e
  had q is =
      let low = opens.below in
      let off : (q == page_number REQUEST) ≡ false = grind (arith, nat_tests, is, low) in
      subst (λ (c : Bool). MayBeHad c p e) (sym off) (record { descriptor = is_descriptors fd below; shared = refl })

  row : PutsRow after after s.spaces.pages a.shared sp.pages a.shared (things_in s a) a.next_name a.next_name (logical s.spaces s.environments.slots)
      client p (Some e)
  row = record {
    bytes = bytes_elsewhere now client b at puts;
    agree = λ m q x y ne hx is same. absurd (opens.unused.counted m q x hx (same ∙ frame_is y is));
    user = λ y is. subst (λ (z : Entry). IsUsers z.perm) (same_Some e y is) descriptor_user;
    whole = λ y is. subst (λ (z : Entry). IsPage (sp.pages z.frame)) (same_Some e y is)
        (subst (λ (l : List ℕ). IsPage l) (sym page_given.same) opens.whole);
    beside = λ q y z is it same. subst (λ (x : Entry). MayBeHad (q == page_number REQUEST) p x) (same_Some e y is)
        (had q (h.server.alone number q (lasting opens.source) z opens.below row_there it (sym (frame_is y is) ∙ same)));
    named_new = λ y is shared_page. subst (λ (f : ℕ). IsNamed after sp.pages a.shared (things_in s a) a.next_name p f) (sym (frame_is y is)) new_named;
    named_old = λ m q x ne hx shared_page was. named_bytes (sym (bytes_elsewhere now client b at puts m q x ne hx)) was;
  }

  counts_are : (m q : ℕ) → logical sp (upd s.environments.slots client told_slot) m q ≡ put (logical s.spaces s.environments.slots) client p (Some e) m q
  counts_are m q =
      set_counts (with_spaces s sp) client told_slot (sym (born_live own_part)) refl
      (plain_alike (place_of from) (place_of told_slot) plain (ap is_plain same_place ∙ plain)) m q
      ∙ counts_put now client b at puts plain m q

  rows : RowsStand after sp.pages a.shared (things_in s a) a.next_name (logical sp (upd s.environments.slots client told_slot))
  rows =
      rows_same (put (logical s.spaces s.environments.slots) client p (Some e)) (logical sp (upd s.environments.slots client told_slot)) counts_are
      (rows_put (rows_stand now) row)

  -- the page is no pipe's
  no_pipe : is_pipe_page p ≡ false
  no_pipe = let low : fd < DESCRIPTORS = below in grind (arith, nat_tests, low)

  pipe_row : (q : ℕ) → q < DESCRIPTORS → rows_of sp dir (pipe_page q) ≡ rows_of s.spaces dir (pipe_page q)
  pipe_row q under =
      let low : fd < DESCRIPTORS = below in row_elsewhere page_given.placed dir (pipe_page q) (λ is too. omega (arith, low, under, too))

  -- the new one is a file, and no page of a pipe stands beside it
  ends : EndsStand after a.objects (place_of told_slot) (rows_of sp dir) opened_born
  ends =
      ends_at_one fd (λ q ne. ap (λ (x : Place). is_on_its_way x q) same_place) (λ q ne. upd-other b.descriptors fd (Some name) q ne) (λ q m has. refl)
      (λ q under ne. pipe_row q under) (λ q x under has. refl) have_it only_it (ends_at now client b at)
    where
      have_it : (m pipe : ℕ) → fd < DESCRIPTORS → opened_born.descriptors fd ≡ Some m → pipe_named a.objects m ≡ Some pipe →
          (entry : Entry) × (rows_of sp dir (pipe_page fd) ≡ Some entry) × (after.name entry.frame ≡ pipe)
      have_it m pipe under has is =
          let same : name ≡ m = same_Some name m (sym (upd-at b.descriptors fd (Some name)) ∙ has) in
          absurd (none-some pipe (sym (ap (λ (o : Object). pipe_of (Some o)) opens.object) ∙ ap (λ (k : ℕ). pipe_named a.objects k) same ∙ is))

      only_it : (entry : Entry) → fd < DESCRIPTORS → is_on_its_way (place_of told_slot) fd ≡ false → rows_of sp dir (pipe_page fd) ≡ Some entry →
          (m : ℕ) × (opened_born.descriptors fd ≡ Some m) × (pipe_named a.objects m ≡ Some (after.name entry.frame))
      only_it entry under off lies =
          let none : b.descriptors fd ≡ None = none_seen now client b at seen_before fd lowest.vacant in
          let beside = no_pipe_beside (ends_at now client b at) fd under (calm_on_way (place_of from) (ap is_calm waiting ∙ calm_there) fd) none in
          absurd (none-some entry (sym beside ∙ sym (pipe_row fd under) ∙ lies))

  locks : LocksStand sp.pages (upd s.environments.slots client told_slot) (logical sp (upd s.environments.slots client told_slot))
  locks =
      locks_beside client p (Some e) no_pipe
      (upd-alike (λ (x : Slot). locked_at (place_of x)) s.environments.slots client told_slot (ap locked_at same_place)) counts_are
      (λ m q x ne hx. bytes_elsewhere now client b at puts m q x ne hx) now.locks

  -- The page that is put has a frame of the file server's, and nothing stood in its place: others are mapped as often.
  mapped_so : (f : ℕ) → e.frame ≢ f → page_count sp.entries f ≡ page_count s.spaces.entries f
  unfolding rows_of
  mapped_so f other =
      page_count-same sp.entries s.spaces.entries f (λ d q. lasting_named f (sp.entries d q) ∙ by_tests d q (d == dir) (q == p) refl refl
      ∙ sym (lasting_named f (s.spaces.entries d q)))
    where
      never : named f (Some e) ≡ 0
      never = elim (named_is f e) [
        | inl here ↦ absurd (other (sym here.0))
        | inr off ↦ off.1
      ]

      by_tests : (d q : ℕ) (c t : Bool) → (d == dir) ≡ c → (q == p) ≡ t → named f (rows_of sp d q) ≡ named f (rows_of s.spaces d q)
      by_tests d q true true space_is page_is =
          let here : d ≡ dir = grind (arith, nat_tests) in
          let there : q ≡ p = grind (arith, nat_tests) in
          (λ i. named f (rows_of sp (here i) (there i))) ∙ ap (named f) (row_placed page_given.placed) ∙ never
          ∙ sym (ap (named f) lowest.vacant) ∙ sym (λ i. named f (rows_of s.spaces (here i) (there i)))
      by_tests d q false t space_is page_is =
          let off : d ≢ dir = grind (arith, nat_tests) in ap (named f) (row_elsewhere page_given.placed d q (λ is too. off is))
      by_tests d q true false space_is page_is =
          let off : q ≢ p = grind (arith, nat_tests) in ap (named f) (row_elsewhere page_given.placed d q (λ is too. off too))

  counted_alike : (m : ℕ) → m ≢ client → CountsKept s.spaces sp (slot_at s m)
  counted_alike m ne piped runs = by_slot (m == 0) refl
    where
      off_pipes : is_piped (place_of (slot_at s 0)) ≡ false
      off_pipes =
          let first = first_slot h in ap is_piped (in_no_service (slot_at s 0).registers (slot_at s 0).extra first.stack first.words)

      by_slot : (c : Bool) → (m == 0) ≡ c → SameCounts (view_of s.spaces (slot_at s m).directory) (view_of sp (slot_at s m).directory)
      by_slot true test =
          let is : m ≡ 0 = grind (arith, nat_tests) in
          counts_unpiped s.spaces sp (slot_at s m) (ap (λ (j : ℕ). is_piped (place_of (slot_at s j))) is ∙ off_pipes) piped runs
      by_slot false test =
          ends_counts h sp m (grind (arith, nat_tests))
          (λ q x is counts shared_page apart.
          let other : (slot_at s m).directory ≢ dir =
          (λ same. ne (h.in_order.spaces.apart m client (running_lives (slot_at s m) runs) (born_live own_part) same)) in
          let mapped = mapped_so x.frame (λ same. apart (place_page number) (lasting opens.source) row_there same) in
          let own_so : own_count (sp.uses x.frame) ≡ own_count (s.spaces.uses x.frame) =
          page_own in_order.frames (slot_at s m).directory q x (row_elsewhere page_given.placed (slot_at s m).directory q (λ here too. other here) ∙ is)
          ∙ sym (page_own h.in_order.frames (slot_at s m).directory q x is) in
          (λ i. mapped i + own_so i)) piped runs

  opened_stands : StandsAtStep (view_of sp dir) told_slot opened_born call to →
      StandsFor after (with_message (with_spaces s sp) 0 client 0 descriptor_perm) (with_born a client opened_born)
  opened_stands so =
      own_moves now client b at sp told_slot opened_born a.shared a.next_name refl (stopped_settles from told_slot refl refl refl refl)
      (plain_unborne (place_of from) plain) (plain_unborne (place_of told_slot) (ap is_plain same_place ∙ plain)) (others_seen now client b at puts) (mine so)
      rows (slot_in_order (with_spaces s sp) client told_slot (sym (born_live own_part)) refl in_order) counted_alike ends locks (omega arith)
      (old_with (λ q one names_it. h.old client q one b at names_it) fd (Some name) (λ one is. subst (λ (m : ℕ). m < a.next_name) (same_Some name one is) opens.old))

-- ---- it replies

-- the abstract state behind the reply
abbrev pub opened_state : AbstractState → ℕ → Service → Born → ℕ → ℕ → AbstractState
opened_state a client by b name fd = reply_to a client by [] (with_descriptor b fd (Some name), fd)

-- The client waits: the page has come to it, where there is a frame for a table.
pub record HasGivenFile (names : Names) (s : KernelState) (a : AbstractState) (client number name : ℕ) (by : Service) (b : Born) (sp : SpacesState) :
    Type 0 where
  pub fd : ℕ
  pub call : open_reply_call s b.id number ≡ giving (with_message (with_spaces s sp) 0 client 0 descriptor_perm) (Answered 0)
  pub step : abs_step a 0 ≡ Some (opened_state a client by b name fd)
  pub stands : IsInOrder (with_spaces s sp) →
      (after : Names) × StandsFor after (with_message (with_spaces s sp) 0 client 0 descriptor_perm) (opened_state a client by b name fd)

-- It waits for the page by a service, at a step at which it bears no child: the page will be that of its lowest free descriptor.
pub record AwaitsPage (k : Slot) (row : EntryRow) (call : Service) (to : Step) (fd : ℕ) : Type 0 where
  pub at : place_of k ≡ place.InService call to
  pub plain : is_plain (place.InService call to) ≡ true
  pub calm : is_calm (place.InService call to) ≡ true
  pub lowest : IsLowestFree row fd
  pub receives : k.rendezvous.receiving ≡ true
  pub wanted : k.rendezvous.wanted ≡ FIRST_ENV_ID
  pub destination : k.rendezvous.destination ≡ FDTABLE + PGSIZE * fd

module _ {names : Names} {s : KernelState} {a : AbstractState} (h : StandsFor names s a) (client number name answer : ℕ)
    (is : a.server ≡ acted client answer [] (Some name)) (b : Born) (at : a.slots client ≡ born b) (opens : HasOpenedFile names s a number name) where
  own_too : StandsForBorn names s.spaces (slot_at s client) b
  own_too = born_at h client b at

  status : IsServerStatus (acted client answer [] (Some name)) (slot_at s 0)
  status = status_at h (acted client answer [] (Some name)) is

  names_client : found s.environments b.id 0 false ≡ Some client
  names_client =
      subst (λ (m : ℕ). found s.environments b.id 0 false ≡ Some m) number_is
      (found_where s.environments b.id 0 some (ap (λ (m : ℕ). is_live_slot (slot_at s m)) number_is ∙ born_live own_too)
      (ap (λ (m : ℕ). (slot_at s m).id) number_is ∙ own_too.id))
    where
      number_is : b.id % NENV ≡ client
      number_is = sym (ap (λ (i : ℕ). i % NENV) own_too.id) ∙ h.tabled.ids client (born_live own_too)

      some : b.id ≢ 0
      some zero_is = born_not_first h client b at (sym (ap (λ (i : ℕ). i % NENV) zero_is) ∙ number_is)

  waits_for_it : (slot_at s client).rendezvous.receiving ≡ true → (slot_at s client).rendezvous.wanted ≡ FIRST_ENV_ID →
      accepts (slot_at s client).rendezvous (slot_at s 0).id ≡ true
  waits_for_it receives wanted = λ i. receives i && ((wanted i == 0) || (wanted i == (first_slot h).id_is i))

  given_on : shared_entry (entry_at s 0 (FDTABLE + PGSIZE * number)) descriptor_perm ≡ Some (descriptor_entry opens.source)
  given_on =
      let place_is : page_number (FDTABLE + PGSIZE * number) ≡ place_page number = omega arith in
      ap (λ (q : ℕ). shared_entry (s.spaces.entries (slot_at s 0).directory q) descriptor_perm) place_is
      ∙ ap (λ (o : Option Entry). shared_entry o descriptor_perm) opens.stands
      ∙ given_with opens.source descriptor_perm refl (λ writes. opens.writes)

module _ {names : Names} {s : KernelState} {a : AbstractState} (h : StandsFor names s a) (client number name answer fd : ℕ)
    (is : a.server ≡ acted client answer [] (Some name)) (b : Born) (at : a.slots client ≡ born b) (call : Service) (to : Step)
    (phase : b.phase ≡ in_service call awaiting) (opens : HasOpenedFile names s a number name)
    (page_awaited : AwaitsPage (slot_at s client) (rows_of s.spaces (slot_at s client).directory) call to fd) where
  -- its next step
  page_reply_step : abs_step a 0 ≡ Some (opened_state a client call b name fd)
  page_reply_step =
      served_is h (acted client answer [] (Some name)) is
      ∙ ap (λ (slot : AbstractSlot). reply a client answer [] (Some name) (born_in slot)) at
      ∙ ap (λ (p : Phase). reply_at a client b answer [] (Some name) p) phase
      ∙ ap (λ (o : Option ℕ). Some (reply_to a client call [] (given b (Some name) o answer)))
      (lowest_seen h client b at (seen_calm h client b at (ap is_calm page_awaited.at ∙ page_awaited.calm)) fd page_awaited.lowest)

  -- where the page goes
  goes : page_number (slot_at s client).rendezvous.destination ≡ descriptor_page fd
  goes = let there = page_awaited.destination in let low = page_awaited.lowest.below in omega (arith, there, low)

  page_given_stands : (sp : SpacesState) →
      (put_is : inserted s.spaces (slot_at s client).directory (descriptor_page fd) (descriptor_entry opens.source) ≡ Some sp) →
      (IsInOrder (with_spaces s sp) → StandsAtStep (view_of sp (slot_at s client).directory) (opened_slot s client) (opened_by call b fd name) call to) →
      HasGivenFile names s a client number name call b sp
  page_given_stands sp put_is so = record {
    fd = fd;
    call = page_comes s 0 b.id 0 (FDTABLE + PGSIZE * number) descriptor_perm (0 ∷ []) (first_slot h).lives (status h client number name answer is b at opens).1 client
        (names_client h client number name answer is b at opens)
        (waits_for_it h client number name answer is b at opens page_awaited.receives page_awaited.wanted)
        (let low = opens.below in omega (arith, low)) (omega arith) (descriptor_entry opens.source) (given_on h client number name answer is b at opens)
        (let there = page_awaited.destination in let low = page_awaited.lowest.below in omega (arith, there, low)) sp
        (ap (λ (q : ℕ). inserted s.spaces (slot_at s client).directory q (descriptor_entry opens.source)) goes ∙ put_is);
    step = page_reply_step;
    stands = λ order. (
      named_too names name opens.source.frame,
      server_goes_on (opened_stands h client number name fd b call to at opens page_awaited.at page_awaited.plain page_awaited.calm page_awaited.lowest sp put_is
          order (so order))
          leaving
          (subst (λ (x : Slot). IsServerStatus leaving x)
          (sym (slot_kept (with_spaces s sp) client (received_in (slot_at s client) (slot_at s 0).id 0 descriptor_perm) 0 (born_not_first h client b at)))
          (status h client number name answer is b at opens)),
    );
  }

-- open_file waits for it
module _ {names : Names} {s : KernelState} {a : AbstractState} (h : StandsFor names s a) (client number name answer path mode : ℕ)
    (is : a.server ≡ acted client answer [] (Some name)) (b : Born) (at : a.slots client ≡ born b)
    (phase : b.phase ≡ in_service (service.OpenFile path mode) awaiting) (opens : HasOpenedFile names s a number name) where
  pub opener : AwaitingPlace (place_of (slot_at s client)) (view_of s.spaces (slot_at s client).directory) (slot_at s client) b
      (service.OpenFile path mode)
  opener =
      let k : Slot = slot_at s client in
      by_place (awaiting_place (place_of k) (view_of s.spaces k.directory) k b (service.OpenFile path mode) (born_at h client b at).at phase)
    where
      by_place : AwaitingPlace (place_of (slot_at s client)) (view_of s.spaces (slot_at s client).directory) (slot_at s client) b
          (service.OpenFile path mode)
          ⊎ SpawnPlace (place_of (slot_at s client)) (service.OpenFile path mode)
          (SpawnAwaits (view_of s.spaces (slot_at s client).directory) (slot_at s client) b) →
          AwaitingPlace (place_of (slot_at s client)) (view_of s.spaces (slot_at s client).directory) (slot_at s client) b (service.OpenFile path mode)
      by_place (inl it) = it
      by_place (inr it) = let contradiction : service.OpenFile path mode ≡ service.Spawn it.path it.argv = it.call_is in absurd cc

  opener_awaits : AwaitsPage (slot_at s client) (rows_of s.spaces (slot_at s client).directory) (service.OpenFile path mode)
      (step.OpenClearing opener.id opener.fd) opener.fd
  opener_awaits = record {
    at = opener.at;
    plain = refl;
    calm = refl;
    lowest = opener.expects_it.lowest;
    receives = opener.expects_it.rendezvous;
    wanted = opener.expects_it.wanted;
    destination = opener.expects_it.destination;
  }

  pub open_reply_step : abs_step a 0 ≡ Some (opened_state a client (service.OpenFile path mode) b name opener.fd)
  open_reply_step =
      page_reply_step h client number name answer opener.fd is b at (service.OpenFile path mode) (step.OpenClearing opener.id opener.fd) phase opens opener_awaits

  pub file_given : (sp : SpacesState) →
      inserted s.spaces (slot_at s client).directory (descriptor_page opener.fd) (descriptor_entry opens.source) ≡ Some sp →
      HasGivenFile names s a client number name (service.OpenFile path mode) b sp
  file_given sp put_is =
      page_given_stands h client number name answer opener.fd is b at (service.OpenFile path mode) (step.OpenClearing opener.id opener.fd) phase opens
      opener_awaits sp put_is (λ order. (
        opener.self,
        has_opened (record {
          regs = (slot_at s client).registers;
          program = opener.expects_it.program;
          registers = refl;
          phase = refl;
          awake = refl;
          silent = refl;
          small = let low : 0 < 2 ^ 32 = omega arith in low;
        }),
      ))

-- or spawn does, where a descriptor is free
module _ {names : Names} {s : KernelState} {a : AbstractState} (h : StandsFor names s a) (client number name answer path argv esp fd id : ℕ)
    (is : a.server ≡ acted client answer [] (Some name)) (b : Born) (at : a.slots client ≡ born b)
    (there : place_of (slot_at s client)
    ≡ place.InService (service.Spawn path argv) (step.Spawning (spawn.Opening (opening_step.ReadingOpened esp fd id)))) (self : id ≡ (slot_at s client).id)
    (so : AwaitsOpened (view_of s.spaces (slot_at s client).directory) (slot_at s client) b path argv esp fd)
    (lowest : IsLowestFree (rows_of s.spaces (slot_at s client).directory) fd) (opens : HasOpenedFile names s a number name) where
  abbrev call_of_spawn : Service
  call_of_spawn = service.Spawn path argv

  abbrev step_of_spawn : Step
  step_of_spawn = step.Spawning (spawn.Opening (opening_step.ReadingOpened esp fd id))

  spawn_awaits_page : AwaitsPage (slot_at s client) (rows_of s.spaces (slot_at s client).directory) call_of_spawn step_of_spawn fd
  spawn_awaits_page = record {
    at = there;
    plain = refl;
    calm = refl;
    lowest = lowest;
    receives = so.awaiting_it.receives;
    wanted = so.awaiting_it.wanted;
    destination =
        let low = lowest.below in
        let below : nat_lt fd DESCRIPTORS ≡ true = grind (arith, nat_tests, low) in
        so.awaiting_it.destination_is ∙ ap (λ (t : Bool). if t then FDTABLE + PGSIZE * fd else UTOP) below;
  }

  pub spawn_file_given : (sp : SpacesState) →
      inserted s.spaces (slot_at s client).directory (descriptor_page fd) (descriptor_entry opens.source) ≡ Some sp →
      HasGivenFile names s a client number name call_of_spawn b sp
  spawn_file_given sp put_is =
      page_given_stands h client number name answer fd is b at call_of_spawn step_of_spawn so.awaiting_it.phase opens spawn_awaits_page sp put_is
      (λ order. (
        self,
        record {
          words = so.words;
          stack = record { fits = so.stack.fits; esp_is = so.stack.esp_is; kept = stack_too order };
          so = spawn_has_file (record {
            is_in = record {
              regs = so.awaiting_it.regs;
              program = so.awaiting_it.program;
              eax = 0;
              registers = λ i. record (so.awaiting_it.registers i) { eax = 0 };
              phase = ap (λ (n : ℕ). in_service call_of_spawn (replied [] n)) fd_is;
              silent = refl;
              awake = refl;
            };
            is = so.is;
          }) (let low : 0 < 2 ^ 32 = omega arith in low) (let low = lowest.below in omega (arith, low)) (λ some. absurd (some refl))
              (λ zero below. given_open h client number name fd b call_of_spawn step_of_spawn at opens there refl refl lowest sp put_is order);
        },
      ))
    where
      fd_is : fd ≡ opened_word 0 fd
      fd_is =
          let low = lowest.below in
          let below : nat_lt fd DESCRIPTORS ≡ true = grind (arith, nat_tests, low) in
          rw below refl

      aside : (q r : ℕ) → r ≡ page_number SPAWN_STACK → Elsewhere q r (slot_at s client).directory (descriptor_page fd)
      aside q r is_it same too = let low = lowest.below in omega (arith, is_it, too, low)

      stack_too : IsInOrder (with_spaces s sp) →
          PageHas (view_of sp (slot_at s client).directory) (page_number SPAWN_STACK) 0
          (page_bytes (stack_segment so.words ∷ []) (stack_contents so.words) stack_page)
      stack_too order = record {
        entry = so.stack.kept.entry;
        stands =
            given_row h client number name fd b call_of_spawn step_of_spawn at opens there refl refl lowest sp put_is order
            (slot_at s client).directory (page_number SPAWN_STACK) (aside (slot_at s client).directory (page_number SPAWN_STACK) refl)
            ∙ so.stack.kept.stands;
        own_page = so.stack.kept.own_page;
        same = λ i lt.
            ap (λ (l : List ℕ). slice_index l (0 + i))
            (given_bytes h client number name fd b call_of_spawn step_of_spawn at opens there refl refl lowest sp put_is order
            (slot_at s client).directory (page_number SPAWN_STACK) so.stack.kept.entry
            (aside (slot_at s client).directory (page_number SPAWN_STACK) refl) so.stack.kept.stands)
            ∙ so.stack.kept.same i lt;
      }

-- Where none is free it is told that, and the page is not wanted.
pub record IsToldNoneFree (names : Names) (s : KernelState) (a : AbstractState) (client number : ℕ) (by : Service) (b : Born) : Type 0 where
  pub call : open_reply_call s b.id number ≡ giving (with_message s 0 client 0 0) (Answered 0)
  pub step : abs_step a 0 ≡ Some (reply_to a client by [] (b, negated E_MAX_OPEN))
  pub stands : StandsFor names (with_message s 0 client 0 0) (reply_to a client by [] (b, negated E_MAX_OPEN))

module _ {names : Names} {s : KernelState} {a : AbstractState} (h : StandsFor names s a) (client number name answer path argv esp fd id : ℕ)
    (is : a.server ≡ acted client answer [] (Some name)) (b : Born) (at : a.slots client ≡ born b)
    (there : place_of (slot_at s client)
    ≡ place.InService (service.Spawn path argv) (step.Spawning (spawn.Opening (opening_step.ReadingOpened esp fd id)))) (self : id ≡ (slot_at s client).id)
    (so : AwaitsOpened (view_of s.spaces (slot_at s client).directory) (slot_at s client) b path argv esp fd) (none : fd ≡ DESCRIPTORS)
    (each : EachIsOpenBelow (rows_of s.spaces (slot_at s client).directory) DESCRIPTORS) (opens : HasOpenedFile names s a number name) where
  abbrev from_spawn : Service
  from_spawn = service.Spawn path argv

  abbrev slot_told : Slot
  slot_told = received_in (slot_at s client) (slot_at s 0).id 0 0

  abbrev born_told : Born
  born_told = record b { phase = in_service from_spawn (replied [] (negated E_MAX_OPEN)); blocked = false }

  none_below : nat_lt fd DESCRIPTORS ≡ false
  none_below = grind (arith, nat_tests, none)

  unwanted : UTOP ≤ (slot_at s client).rendezvous.destination
  unwanted =
      let goes : (slot_at s client).rendezvous.destination ≡ UTOP =
      so.awaiting_it.destination_is ∙ ap (λ (t : Bool). if t then FDTABLE + PGSIZE * fd else UTOP) none_below in
      omega (arith, goes)

  stands_told : StandsAt (place_of (slot_at s client)) (view_of s.spaces (slot_at s client).directory) slot_told born_told
  stands_told =
      subst (λ (x : Place). StandsAt x (view_of s.spaces (slot_at s client).directory) slot_told born_told) (sym there) (
        self,
        record {
          words = so.words;
          stack = so.stack;
          so = spawn_has_file (record {
            is_in = record {
              regs = so.awaiting_it.regs;
              program = so.awaiting_it.program;
              eax = 0;
              registers = λ i. record (so.awaiting_it.registers i) { eax = 0 };
              phase = ap (λ (n : ℕ). in_service from_spawn (replied [] n)) told_word;
              silent = refl;
              awake = refl;
            };
            is = so.is;
          }) (let low : 0 < 2 ^ 32 = omega arith in low) (omega (arith, none)) (λ some. absurd (some refl))
              (λ zero below. absurd (omega (arith, none, below)));
        },
      )
    where
      told_word : negated E_MAX_OPEN ≡ opened_word 0 fd
      told_word = rw none_below refl

  plain_spawn : is_plain (place_of (slot_at s client)) ≡ true
  plain_spawn = ap is_plain there

  same_told : place_of slot_told ≡ place_of (slot_at s client)
  same_told = told_at (slot_at s client) (slot_at s 0).id 0 0

  pub none_free_told : IsToldNoneFree names s a client number from_spawn b
  none_free_told = record {
    call = page_not_wanted s 0 b.id 0 (FDTABLE + PGSIZE * number) descriptor_perm (0 ∷ []) (first_slot h).lives
        (status h client number name answer is b at opens).1 client (names_client h client number name answer is b at opens)
        (waits_for_it h client number name answer is b at opens so.awaiting_it.receives so.awaiting_it.wanted)
        (let low = opens.below in omega (arith, low)) (omega arith) (descriptor_entry opens.source) (given_on h client number name answer is b at opens) unwanted;
    step = served_is h (acted client answer [] (Some name)) is
        ∙ ap (λ (slot : AbstractSlot). reply a client answer [] (Some name) (born_in slot)) at
        ∙ ap (λ (p : Phase). reply_at a client b answer [] (Some name) p) so.awaiting_it.phase
        ∙ ap (λ (o : Option ℕ). Some (reply_to a client from_spawn [] (given b (Some name) o answer)))
        (all_seen h client b at (seen_calm h client b at (ap is_calm there)) each);
    stands = server_goes_on
        (slot_changed h client b at slot_told born_told refl (stopped_settles (slot_at s client) slot_told refl refl refl refl) plain_spawn
        (ap is_plain same_told ∙ plain_spawn)
        (told_own (slot_at s 0).id 0 (in_service from_spawn (replied [] (negated E_MAX_OPEN))) stands_told (born_at h client b at))
        (same_places same_told) (λ q. refl))
        leaving
        (subst (λ (x : Slot). IsServerStatus leaving x) (sym (slot_kept s client slot_told 0 (born_not_first h client b at)))
        (status h client number name answer is b at opens));
  }
