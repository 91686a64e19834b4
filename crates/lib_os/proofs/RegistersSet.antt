-- Spawn sets its child's registers by a record that stands in its own page: what the call comes to, and that the kernel's state goes on standing for the same
-- abstract one, where the child is to have its registers at the next step.
use Rattle.std.proofs.Common.{◌≡◌, ◌≢◌, ◌∙◌, ◌+◌, ◌*◌, ◌<◌, ◌≤◌, ◌==◌, ◌%◌, ◌&&◌, ◌||◌, ◌^◌, ℕ, Bool, true, false, List, [], ◌∷◌, Option, Some, None, length}
use Rattle.std.proofs.Common.{not, ◌⊎◌, inl, inr, Result, Err, Ok}
use Rattle.std.proofs.Common.{refl, sym, ap, subst, arith, if◌then◌else◌}
use Rattle.std.specs.Prelude.{nat_le, slice_index}
use Rattle.std.proofs.lemmas.Bool.{false≢true}
use Rattle.std.proofs.lemmas.Bool.Decides.{nat_tests}
use Rattle.std.proofs.lemmas.Option.{same_Some}
use Rattle.jos_base.specs.declared.called.Called.TheVariants.{Answered, Ended}
use Rattle.jos_base.specs.declared.memory.PageFault.{PageFault}
use Rattle.jos_base.specs.declared.numbers.TheConstants.{NENV, PGSIZE, SYS_ENV_SET_TRAPFRAME}
use Rattle.jos_base.specs.declared.registers.Regs.{Regs}
use Rattle.jos_base.specs.Counting.{page_limit}
use Rattle.jos_base.specs.Environments.{Slot, found, is_live as is_live_slot, records_of, with_answer}
use Rattle.jos_base.specs.KernelState.{KernelState, slot_at, with_extra, with_registers, with_slot_at, with_spaces}
use Rattle.jos_base.specs.Reach.{Entry}
use Rattle.jos_base.specs.SpacesState.{SpacesState}
use Rattle.jos_base.specs.SystemCalls.{Did, answered, call_of, env_set_trapframe_by, env_set_trapframe_of, is_page_perm, killed, record_size, user_bytes}
use Rattle.jos_base.specs.SystemCalls.{with_bytes_reached}
use Rattle.jos_base.specs.TrapFrames.{from_record, words_of_bytes}
use Rattle.jos_base.specs.UserMemory.{all_touched, read_byte}
use Rattle.jos_base.specs.Words.{is_exactly, page_number, page_offset, upd}
use Rattle.jos_base.proofs.Maps.{upd-at, upd-other}
use Rattle.jos_elf.specs.Headers.{entry_count_of, entry_point_of}
use Rattle.jos_elf.specs.Started.{program_registers}
use Rattle.lib_os.specs.declared.numbers.TheConstants.{UXSTACK}
use Rattle.lib_os.specs.declared.place.Place.TheVariants as place
use Rattle.lib_os.specs.declared.place.Step.TheVariants as step
use Rattle.lib_os.specs.declared.service.Service.TheVariants as service
use Rattle.lib_os.specs.declared.spawn_steps.SpawnStep.{SpawnStep}
use Rattle.lib_os.specs.AbstractState.{AbstractState, Born, ImageRead, born}
use Rattle.lib_os.specs.DescriptorPages.{lasting_words}
use Rattle.lib_os.specs.InOrder.{IsInOrder}
use Rattle.lib_os.specs.LibraryPages.{View}
use Rattle.lib_os.specs.Places.{is_handlers, place_of}
use Rattle.lib_os.specs.Rows.{Names, Rows, counted, logical, rows_of}
use Rattle.lib_os.specs.SpawnedChild.{IsProgress, Loads, Progress, bytes_replied, child_page, handler_of, registers_of, spawning_child}
use Rattle.lib_os.specs.SpawnPages.{is_childs}
use Rattle.lib_os.specs.StandsAtSpawn.{PageHas, StandsAtSpawn}
use Rattle.lib_os.specs.StandsFor.{StandsAt, StandsFor, StandsForBorn, StandsForUnborn, borne_in, things_in, view_of}
use Rattle.lib_os.specs.UserCalls.{asking, called_by, giving, got, sets_own, system, taken_back}
use Rattle.lib_os.proofs.Bearing.{of_slots}
use Rattle.lib_os.proofs.BearingCounts.{live_counts}
use Rattle.lib_os.proofs.BearsOn.{borne_apart, borne_lives, borne_own}
use Rattle.lib_os.proofs.BorneCalls.{borne_found, borne_owned, borne_some}
use Rattle.lib_os.proofs.BytesPrinted.{page_byte}
use Rattle.lib_os.proofs.Calls.{bytes_alike, caller_is}
use Rattle.lib_os.proofs.ChildCalls.{found_child}
use Rattle.lib_os.proofs.Effects.{Quiet}
use Rattle.lib_os.proofs.EntriesStand.{RowsStand, rows_bytes, rows_same, rows_stand}
use Rattle.lib_os.proofs.FrameRead.{bytes_read_is}
use Rattle.lib_os.proofs.Logical.{counted_plain, logical_alike}
use Rattle.lib_os.proofs.Sends.{other_is}
use Rattle.lib_os.proofs.Serving.{IsServed, holds_page, words_of_none}
use Rattle.lib_os.proofs.Slots.{slot_kept, slots_alike}
use Rattle.lib_os.proofs.SlotsStand.{SeenAlike, born_at, born_live, born_stands, but_pipes, counts_unpiped, is_piped, seen_but_pipes}
use Rattle.lib_os.proofs.SpawnedGoes.{HasOfImage, IsSpawner, spawner, went_own, went_place}
use Rattle.lib_os.proofs.SpawnedMoves.{spawned_counted, spawned_lives, spawned_not_first, spawner_counted, spawner_lives, spawner_not_first, spawning_stands}
use Rattle.lib_os.proofs.SpawnOwnPages.{IsSpawnsOwn, spawn_there, spawn_words, spawns_at}
use Rattle.lib_os.proofs.Trying.{live_after}
use Rattle.lib_os.proofs.StatesStand.{Settles, others_counts, slot_in_order}

-- ---- whoever makes the call

-- it lives on, or is ended by it
module _ (k : KernelState) (n : ℕ) (live : is_live_slot (slot_at k n) ≡ true) where
  abbrev EndsOrLives : Did → Type 0
  EndsOrLives did = (did.called ≡ Ended) ⊎ (is_live_slot (slot_at did.state n) ≡ true)

  set_by : (target va : ℕ) (bytes : Result (List ℕ) PageFault) → EndsOrLives (env_set_trapframe_by k n target va bytes)
  unfolding killed
  set_by target va (Ok bytes) =
      let t : KernelState = with_bytes_reached k n va record_size in
      let u : KernelState = with_registers t target (from_record (words_of_bytes bytes)) in
      let lives : is_live_slot (slot_at u n) ≡ true =
      slots_alike t target (λ (x : Slot). is_live_slot x) (record (slot_at t target) { registers = from_record (words_of_bytes bytes) }) refl n ∙ live in
      inr (live_after u n n (with_answer (slot_at u n) 0) lives lives)
  set_by target va (Err fault) = inl refl

  set_of : (target : Option ℕ) (va : ℕ) → EndsOrLives (env_set_trapframe_of k n target va)
  set_of None va = inr (live_after k n n (with_answer (slot_at k n) _) live live)
  set_of (Some target) va = set_by target va (user_bytes k n va record_size)

  called_lives : (regs : Regs) (own : Bool) (did : Did) → EndsOrLives did →
      (got did.called ≡ got Ended) ⊎ (is_live_slot (slot_at (taken_back did.state n own regs) n) ≡ true)
  called_lives regs own did (inl ends) = inl (ap got ends)
  called_lives regs own did (inr lives) = inr (by_test (is_live_slot (slot_at did.state n) && not own))
    where
      by_test : (c : Bool) → is_live_slot (slot_at (if c then with_registers did.state n regs else did.state) n) ≡ true
      by_test true = live_after did.state n n (record (slot_at did.state n) { registers = regs }) lives lives
      by_test false = lives

module _ (s : KernelState) (n : ℕ) (live : is_live_slot (slot_at s n) ≡ true) (args : List ℕ) where
  abbrev asked_regs : Regs
  asked_regs = asking (slot_at s n).registers SYS_ENV_SET_TRAPFRAME args

  abbrev asked_state : KernelState
  asked_state = with_registers s n asked_regs

  asked_lives : is_live_slot (slot_at asked_state n) ≡ true
  asked_lives = live_after s n n (record (slot_at s n) { registers = asked_regs }) live live

  done_lives : EndsOrLives asked_state n asked_lives (call_of asked_state n asked_regs)
  unfolding call_of
  done_lives = set_of asked_state n asked_lives (found asked_state.environments asked_regs.edx n true) asked_regs.ecx

  pub trapframe_lives : ((system s n SYS_ENV_SET_TRAPFRAME args).gives ≡ got Ended)
      ⊎ (is_live_slot (slot_at (system s n SYS_ENV_SET_TRAPFRAME args).state n) ≡ true)
  unfolding system
  trapframe_lives =
      let own : Bool = sets_own s n SYS_ENV_SET_TRAPFRAME args in
      let same : asked_regs ≡ (slot_at asked_state n).registers = sym (ap (λ (x : Slot). x.registers) (caller_is s n asked_regs)) in
      subst (λ (r : Regs). (got (call_of asked_state n r).called ≡ got Ended)
      ⊎ (is_live_slot (slot_at (taken_back (call_of asked_state n r).state n own (slot_at s n).registers) n) ≡ true)) same
      (called_lives asked_state n asked_lives (slot_at s n).registers own (call_of asked_state n asked_regs) done_lives)

-- ---- the call

module _ {names : Names} {s : KernelState} {a : AbstractState} (h : StandsFor names s a) (n id : ℕ) (b : Born) (is : a.slots n ≡ born b)
    (bears : borne_in (place_of (slot_at s n)) ≡ Some id) (va : ℕ) (bytes : List ℕ) (reads : user_bytes s n va record_size ≡ Ok bytes) where
  abbrev m : ℕ
  m = id % NENV

  abbrev home : ℕ
  home = (slot_at s n).directory

  abbrev args : List ℕ
  args = id ∷ va ∷ 0 ∷ 0 ∷ 0 ∷ []

  abbrev own_regs : Regs
  own_regs = (slot_at s n).registers

  abbrev q : Regs
  q = asking own_regs SYS_ENV_SET_TRAPFRAME args

  abbrev k : KernelState
  k = with_registers s n q

  live : is_live_slot (slot_at s n) ≡ true
  live = born_live (born_at h n b is)

  apart : m ≢ n
  apart = borne_apart h n id b is bears

  -- it names the child, and not the caller
  found_here : found s.environments id n true ≡ Some m
  found_here =
      found_child s.environments id n (borne_some h n id b is bears) (borne_lives h n id b is bears) (borne_own h n id b is bears).id_is
      (borne_owned h n id b is bears)

  not_own : is_exactly n (Some m) ≡ false
  not_own = off m n apart
    where
      off : (j o : ℕ) → j ≢ o → (j == o) ≡ false
      off j o ne = grind (arith, nat_tests, ne)

  abbrev pub regs_set : Regs
  regs_set = from_record (words_of_bytes bytes)

  set_is : call_of k n q ≡ answered (with_registers (with_bytes_reached k n va record_size) m (from_record (words_of_bytes bytes))) n 0
  unfolding call_of
  set_is =
      let there : user_bytes k n va record_size ≡ Ok bytes = bytes_alike s n q va record_size ∙ reads in
      rw (borne_found h n id b is bears q, there) refl

  abbrev pub reached_spaces : SpacesState
  reached_spaces = all_touched s.spaces (slot_at s n).directory va record_size

  slot_is : slot_at k m ≡ slot_at s m
  slot_is = slot_kept s n (record (slot_at s n) { registers = q }) m apart

  pub registers_set_is : system s n SYS_ENV_SET_TRAPFRAME (id ∷ va ∷ 0 ∷ 0 ∷ 0 ∷ [])
      ≡ giving (with_slot_at (with_spaces s reached_spaces) (id % NENV) (record (slot_at s (id % NENV)) { registers = regs_set })) (Answered 0)
  unfolding system
  registers_set_is =
      ap (λ (o : Option ℕ). called_by n (is_exactly n o) own_regs (call_of k n (slot_at k n).registers)) found_here
      ∙ ap (λ (c : Bool). called_by n c own_regs (call_of k n (slot_at k n).registers)) not_own
      ∙ ap (λ (slot : Slot). called_by n false own_regs (call_of k n slot.registers)) (caller_is s n q)
      ∙ ap (called_by n false own_regs) set_is
      ∙ (λ i. called_by n false own_regs (answered (with_slot_at (with_spaces k (all_touched s.spaces (caller_is s n q i).directory va record_size)) m
      (record (slot_is i) { registers = regs_set })) n 0))
      ∙ other_is (with_spaces s reached_spaces) n live q m (record (slot_at s m) { registers = regs_set }) 0 (λ e. apart (sym e))

-- the bytes that are read from a page of its own
pub own_record_reads : {s : KernelState} {n p : ℕ} (owned : IsSpawnsOwn s n p) (bytes : List ℕ) → PageHas (view_of s.spaces (slot_at s n).directory) p 0 bytes →
    length bytes ≡ record_size → p * PGSIZE + PGSIZE < 2 ^ 32 → user_bytes s n (p * PGSIZE) record_size ≡ Ok bytes
own_record_reads {s = s} {n = n} {p = p} owned bytes kept long low =
    ap (user_bytes s n (p * PGSIZE)) (sym long)
    ∙ bytes_read_is (read_byte (records_of s.environments) s.spaces (slot_at s n).directory) (p * PGSIZE) bytes (omega (arith, long, low)) each
  where
    same : kept.entry ≡ owned.page.entry
    same = same_Some kept.entry owned.page.entry (sym kept.stands ∙ owned.page.stands)

    each : (i : ℕ) → i < length bytes →
        read_byte (records_of s.environments) s.spaces (slot_at s n).directory (p * PGSIZE + i) ≡ Ok (slice_index bytes i)
    each i lt =
        let there : page_number (p * PGSIZE + i) ≡ p = omega (arith, lt, long) in
        let offset : page_offset (p * PGSIZE + i) ≡ 0 + i = omega (arith, lt, long) in
        let under = owned.below in
        let below : page_number (p * PGSIZE + i) < page_limit = subst (λ (r : ℕ). r < page_limit) (sym there) under in
        page_byte (records_of s.environments) s.spaces (slot_at s n).directory (p * PGSIZE + i) kept.entry below
        (ap (rows_of s.spaces (slot_at s n).directory) there ∙ kept.stands) (ap (λ (e : Entry). is_page_perm e.perm) same ∙ owned.user)
        ∙ ap (λ (at : ℕ). Ok (slice_index (s.spaces.pages kept.entry.frame) at)) offset
        ∙ ap (λ (byte : ℕ). Ok byte) (kept.same i lt)

-- ---- the state

-- There is a progress that is so at a step, by which the child has its registers, and all else that it had.
pub record SetsRegisters (b : Born) (image : ImageRead) (file : List ℕ) (before : Progress) (to : SpawnStep) : Type 0 where
  pub progress : Progress
  pub is_so : IsProgress (entry_count_of (slice_index image.header)) to progress
  pub registers : progress.registers ≡ true
  pub handler : progress.handler ≡ before.handler
  pub handler_stack : progress.handler_stack ≡ before.handler_stack
  pub passed : progress.passed ≡ before.passed
  pub pages : (p : ℕ) → child_page b image before file p ≡ child_page b image progress file p

module _ {names : Names} {s : KernelState} {a : AbstractState} {sp : SpacesState} (h : StandsFor names s a) (n path argv id : ℕ) (from to : SpawnStep)
    (stands : place_of (slot_at s n) ≡ spawns_at path argv from) (bears : spawning_child from ≡ Some id) (bears_after : spawning_child to ≡ Some id)
    (held : holds_page (spawns_at path argv from) ≡ holds_page (spawns_at path argv to)) (none : (p : ℕ) → is_childs from p ≡ false)
    (none_after : (p : ℕ) → is_childs to p ≡ false) (quiet : Quiet s.spaces sp) (regs : Regs) (last : s.last ≡ Some n)
    (order : IsInOrder (with_slot_at (with_spaces s sp) (id % NENV) (record (slot_at s (id % NENV)) { registers = regs }))) where
  abbrev it : IsServed names s a n (service.Spawn path argv) (step.Spawning from)
  it = spawn_there h n path argv from stands

  abbrev c : Born
  c = it.b

  abbrev j : ℕ
  j = id % NENV

  abbrev dir : ℕ
  dir = (slot_at s n).directory

  abbrev moved : Slot
  moved = record (slot_at s n) { extra = spawn_words to }

  abbrev child : Slot
  child = slot_at s j

  abbrev started : Slot
  started = record child { registers = regs }

  u : IsSpawner names s a n path argv from id c
  u = spawner h n path argv id from stands bears

  alike : (d : ℕ) → SeenAlike names names s.spaces sp d
  alike d = record {
    rows = ap (λ (rows : Rows). rows d) quiet.rows;
    bytes = λ p x is own_page. ap (λ (pages : ℕ → List ℕ). pages x.frame) quiet.pages;
    named_so = λ p x is shared_page. refl;
    devices = λ p x descriptor is shared_page. ap (λ (pages : ℕ → List ℕ). lasting_words (pages x.frame)) quiet.pages;
    pipes = λ p x pipes is shared_page. ap (λ (pages : ℕ → List ℕ). pages x.frame) quiet.pages;
    regions = quiet.regions d;
  }

  row_kept : (d p : ℕ) → rows_of sp d p ≡ rows_of s.spaces d p
  row_kept d p = ap (λ (rows : Rows). rows d p) quiet.rows

  -- ---- the parent

  still : StandsForBorn names sp (slot_at s n) c
  still = born_stands (slot_at s n) c (alike dir) (counts_unpiped s.spaces sp (slot_at s n) (ap is_piped stands)) u.own

  abbrev SoAfter : Type 0
  SoAfter = (v : View) → StandsAtSpawn v (slot_at s n) c path argv from → StandsAtSpawn v moved c path argv to

  mine : SoAfter → StandsForBorn names sp moved c
  mine so =
      went_own (slot_at s n) path argv from to stands held still
      (so (view_of sp dir) (subst (λ q. StandsAt q (view_of sp dir) (slot_at s n) c) stands still.at))

  -- ---- the child

  its_own : is_handlers regs.esp ≡ false → StandsForUnborn started id c.id
  its_own outside = record {
    id_is = u.child_own.id_is;
    id_small = u.child_own.id_small;
    parent_is = u.child_own.parent_is;
    env_type = u.child_own.env_type;
    status = u.child_own.status;
    silent = u.child_own.silent;
    words = u.child_own.words;
    stack = outside;
  }

  has_started : (x : HasOfImage names s.spaces (slot_at s n) c from child id) → SetsRegisters c x.image x.file x.progress to →
      regs ≡ program_registers (entry_point_of (slice_index x.image.header)) x.image.words → HasOfImage names sp moved c to started id
  has_started x g regs_are = record {
    image = x.image;
    file = x.file;
    loads = x.loads;
    progress = g.progress;
    is_so = g.is_so;
    registers = regs_are ∙ sym (ap (λ (t : Bool). registers_of t (slot_at s n).registers x.image) g.registers);
    upcall = x.upcall ∙ ap handler_of (sym g.handler);
    memory = λ p inside. seen_but_pipes (but_pipes (alike child.directory)) p ∙ x.memory p inside ∙ g.pages p;
    uncopied = λ p y inside is own_page. x.uncopied p y inside (sym (row_kept child.directory p) ∙ is) own_page;
    handed = λ p is on.
        row_kept child.directory p ∙ x.handed p is (ap (λ (r : ℕ). nat_le r p) (sym g.passed) ∙ on) ∙ sym (row_kept dir p);
    rest = λ p is off. row_kept child.directory p ∙ x.rest p is (ap (λ (r : ℕ). nat_le r p) (sym g.passed) ∙ off);
    handler_stack = λ on.
        let page = x.handler_stack (sym g.handler_stack ∙ on) in
        record {
          entry = page.entry;
          stands = row_kept child.directory (page_number UXSTACK) ∙ page.stands;
          own_page = page.own_page;
          writes = page.writes;
        };
    no_handler_stack = λ off. row_kept child.directory (page_number UXSTACK) ∙ x.no_handler_stack (sym g.handler_stack ∙ off);
    none = λ p outside no_descriptor other. row_kept child.directory p ∙ x.none p outside no_descriptor other;
    tables = λ r is. x.tables r (sym (quiet.regions child.directory r) ∙ is);
    here = λ p is. absurd (false≢true (sym (none_after p) ∙ is));
  }

  -- ---- entries as they count

  abbrev slots_after : ℕ → Slot
  slots_after = upd (upd s.environments.slots j started) n moved

  parent_after : slots_after n ≡ moved
  parent_after = upd-at (upd s.environments.slots j started) n moved

  child_after : slots_after j ≡ started
  child_after = upd-other (upd s.environments.slots j started) n moved j u.apart ∙ upd-at s.environments.slots j started

  uncounted : (at : SpawnStep) → ((p : ℕ) → is_childs at p ≡ false) → (p : ℕ) → counted (spawns_at path argv at) (rows_of sp dir) p ≡ rows_of sp dir p
  unfolding counted
  uncounted at off p = ap (λ (t : Bool). if t then None else rows_of sp dir p) (off p)

  uncounted_before : (p : ℕ) → counted (spawns_at path argv from) (rows_of s.spaces dir) p ≡ rows_of s.spaces dir p
  unfolding counted
  uncounted_before p = ap (λ (t : Bool). if t then None else rows_of s.spaces dir p) (none p)

  counts : (outside : is_handlers regs.esp ≡ false) (o p : ℕ) → logical sp slots_after o p ≡ logical s.spaces s.environments.slots o p
  counts outside =
      of_slots n j (λ o. (p : ℕ) → logical sp slots_after o p ≡ logical s.spaces s.environments.slots o p)
      (λ p. live_counts sp slots_after n moved (spawns_at path argv to) parent_after (spawner_not_first h u) (spawner_lives h u)
      (went_place (slot_at s n) path argv from to u.place) p
      ∙ uncounted to none_after p ∙ row_kept dir p ∙ sym (uncounted_before p) ∙ sym (spawner_counted h u p))
      (λ p. live_counts sp slots_after j started place.Guest child_after (spawned_not_first h u) (spawned_lives h u)
      (words_of_none regs child.extra outside u.child_own.words) p
      ∙ counted_plain place.Guest (rows_of sp child.directory) refl p ∙ row_kept child.directory p ∙ sym (spawned_counted h u p))
      (λ o other apart_too p.
      let slot : slots_after o ≡ slot_at s o =
      upd-other (upd s.environments.slots j started) n moved o other ∙ upd-other s.environments.slots j started o apart_too in
      logical_alike s.spaces sp s.environments.slots slots_after o (ap (λ (x : Slot). is_live_slot x) slot) (ap (λ (x : Slot). place_of x) slot)
      (λ lives. ap (λ (x : Slot). rows_of sp x.directory) slot ∙ ap (λ (rows : Rows). rows (slot_at s o).directory) quiet.rows) p)

  rows_then : is_handlers regs.esp ≡ false → RowsStand names sp.pages a.shared (things_in s a) a.next_name (logical sp slots_after)
  rows_then outside =
      rows_bytes sp.pages (λ o p x is. ap (λ (pages : ℕ → List ℕ). pages x.frame) quiet.pages)
      (rows_same (logical s.spaces s.environments.slots) (logical sp slots_after) (counts outside) (rows_stand h))

  -- ---- the whole

  abbrev mid : KernelState
  mid = with_slot_at (with_spaces s sp) j started

  caller_there : slot_at mid n ≡ slot_at s n
  caller_there = upd-other s.environments.slots j started n (λ same. u.apart (sym same))

  pub registers_stand : is_handlers regs.esp ≡ false →
      ((image : ImageRead) (file : List ℕ) (progress : Progress) →
      Loads (id % NENV) image (spawn_there h n path argv from stands).b.spawning (bytes_replied (spawn_there h n path argv from stands).b.phase) file →
      IsProgress (entry_count_of (slice_index image.header)) from progress →
      SetsRegisters (spawn_there h n path argv from stands).b image file progress to
      × (regs ≡ program_registers (entry_point_of (slice_index image.header)) image.words)) →
      ((v : View) → StandsAtSpawn v (slot_at s n) (spawn_there h n path argv from stands).b path argv from →
      StandsAtSpawn v (record (slot_at s n) { extra = spawn_words to }) (spawn_there h n path argv from stands).b path argv to) →
      StandsFor names (with_extra (with_slot_at (with_spaces s sp) (id % NENV) (record (slot_at s (id % NENV)) { registers = regs })) n (spawn_words to)) a
  registers_stand outside sets so =
      let x = u.child in
      let both = sets x.image x.file x.progress x.loads x.is_so in
      let settles : Settles (slot_at s n) moved = record { id = refl; env_type = refl; turns = refl; calm = λ runs. runs } in
      let settles_child : Settles (slot_at s j) started = record { id = refl; env_type = refl; turns = refl; calm = λ runs. runs } in
      subst (λ (k : Slot). StandsFor names (with_slot_at mid n (record k { extra = spawn_words to })) a) (sym caller_there)
      (spawning_stands h n path argv id from to c u moved started refl refl (λ d not_mine not_childs. alike d) settles settles_child
      (went_place (slot_at s n) path argv from to u.place) bears_after (mine so) (its_own outside) (has_started x both.0 both.1) (rows_then outside)
      (slot_in_order mid n moved (ap (λ (y : Slot). is_live_slot y) (sym caller_there)) (ap (λ (y : Slot). y.directory) (sym caller_there)) order)
      (others_counts h n last sp) (λ p pipes. row_kept dir p) (λ d p y is shared_page. ap (λ (pages : ℕ → List ℕ). pages y.frame) quiet.pages))
