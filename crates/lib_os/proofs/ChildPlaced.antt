-- Spawn gives its child a page of zeros at a place where a program may have one. Nothing of it is seen: the state stands for the same abstract one as before,
-- where
-- the child is to have the page at the next step.
use Rattle.std.proofs.Common.{◌≡◌, ◌≢◌, ◌∙◌, ◌==◌, ◌%◌, ◌+◌, ◌*◌, ◌-◌, ◌/◌, ◌<◌, ◌&&◌, ◌||◌, ◌⊎◌, ℕ, Bool, true, false, List, ◌∷◌, Some, None, refl, sym, ap}
use Rattle.std.proofs.Common.{subst, arith}
use Rattle.std.proofs.Common.{if◌then◌else◌}
use Rattle.std.specs.Option.{option_map}
use Rattle.std.specs.Prelude.{is_some, nat_le, slice_index}
use Rattle.std.proofs.lemmas.Bool.{eqb-false, eqb-true}
use Rattle.std.proofs.lemmas.Bool.Decides.{nat_tests}
use Rattle.std.proofs.lemmas.Option.{same_Some}
use Rattle.jos_base.specs.declared.numbers.TheConstants.{NENV, NPTENTRIES}
use Rattle.jos_base.specs.Environments.{Slot}
use Rattle.jos_base.specs.KernelState.{KernelState, slot_at, with_extra, with_spaces}
use Rattle.jos_base.specs.Reach.{Entry}
use Rattle.jos_base.specs.SpacesState.{SpacesState, put, zero_page}
use Rattle.jos_base.specs.SystemCalls.{has_write}
use Rattle.jos_base.specs.Words.{page_number, upd}
use Rattle.jos_base.proofs.Below.{some_below-at}
use Rattle.jos_elf.specs.Headers.{entry_count_of}
use Rattle.lib_os.specs.declared.numbers.TheConstants.{UXSTACK}
use Rattle.lib_os.specs.declared.spawn_steps.SpawnStep.{SpawnStep}
use Rattle.lib_os.specs.AbstractMemory.{has_page_in}
use Rattle.lib_os.specs.AbstractState.{AbstractState, Born, ImageRead, named, own}
use Rattle.lib_os.specs.DescriptorPages.{lasting_words}
use Rattle.lib_os.specs.InOrder.{IsInOrder}
use Rattle.lib_os.specs.LibraryPages.{is_library_region}
use Rattle.lib_os.specs.Places.{place_of}
use Rattle.lib_os.specs.Rows.{EntryRow, IsPage, IsUsers, Names, counted, is_cow, is_of_descriptor, is_programs, is_shared, logical, page_by, page_seen}
use Rattle.lib_os.specs.Rows.{may_write, own_perm, rows_of, seen_where, shown_at}
use Rattle.lib_os.specs.SpawnedChild.{IsProgress, Loads, Progress, bytes_replied, child_page, handler_of, passing, registers_of, spawning_child}
use Rattle.lib_os.specs.SpawnPages.{is_childs}
use Rattle.lib_os.specs.StandsAtSpawn.{StandsAtSpawn}
use Rattle.lib_os.specs.StandsFor.{StandsFor, StandsForBorn, StandsAt, things_in, view_of}
use Rattle.lib_os.specs.LibraryPages.{View}
use Rattle.lib_os.proofs.Bearing.{of_slots}
use Rattle.lib_os.proofs.Effects.{Made}
use Rattle.lib_os.proofs.EntriesStand.{PutsRow, named_bytes, put_is, rows_put, rows_same, rows_stand, seen_at}
use Rattle.lib_os.proofs.Logical.{logical_some, programs_beside, programs_no_descriptor}
use Rattle.lib_os.proofs.PageBytes.{zero_page_whole}
use Rattle.lib_os.proofs.PagesStand.{other_regions, row_elsewhere, row_placed}
use Rattle.lib_os.proofs.SlotsStand.{SeenAlike, born_stands, counts_unpiped, is_piped}
use Rattle.lib_os.proofs.SpawnedGoes.{HasOfImage, IsSpawner, spawner, went_own}
use Rattle.lib_os.proofs.SpawnedMoves.{others_spawning, spawned_counted, spawned_counts, spawned_lives, spawner_apart, spawner_counted, spawner_counts}
use Rattle.lib_os.proofs.SpawnedMoves.{spawning_moves}
use Rattle.lib_os.proofs.Serving.{holds_page}
use Rattle.lib_os.proofs.SpawnOwnPages.{spawn_there, spawn_words, spawns_at}
use Rattle.lib_os.proofs.StatesStand.{others_counts}
use Rattle.jos_base.proofs.Puts.{Elsewhere}

-- ---- the child, with the page

-- There is a progress that is so at a step, by which the child has all that it had, and this page of zeros, which it may write.
pub record PlacesPage (b : Born) (image : ImageRead) (file : List ℕ) (before : Progress) (to : SpawnStep) (page : ℕ) : Type 0 where
  pub progress : Progress
  pub is_so : IsProgress (entry_count_of (slice_index image.header)) to progress
  pub registers : progress.registers ≡ before.registers
  pub handler : progress.handler ≡ before.handler
  pub handler_stack : progress.handler_stack ≡ before.handler_stack
  pub passed : progress.passed ≡ before.passed
  pub own_before : (name : ℕ) (writable : Bool) → child_page b image before file page ≢ Some (named name writable)
  pub here : child_page b image progress file page ≡ Some (own zero_page true)
  pub others : (p : ℕ) → is_programs p ≡ true → p ≢ page → child_page b image before file p ≡ child_page b image progress file p
  pub among : is_some (child_page b image (passing (entry_count_of (slice_index image.header)) 0) file page) ≡ true

abbrev pub Places : Born → ℕ → SpawnStep → SpawnStep → ℕ → Type 0
Places b id from to page =
    (image : ImageRead) (file : List ℕ) (progress : Progress) → Loads (id % NENV) image b.spawning (bytes_replied b.phase) file →
    IsProgress (entry_count_of (slice_index image.header)) from progress → PlacesPage b image file progress to page

own_user : IsUsers own_perm
own_user = record { page = refl; copied = λ is. absurd (let contradiction : false ≡ true = is in cc) }

or_true : (c d : Bool) → d ≡ true → (c || d) ≡ true
or_true true d is = refl
or_true false d is = is

or_first : (c d : Bool) → c ≡ true → (c || d) ≡ true
or_first true d is = refl
or_first false d is = absurd (let contradiction : false ≡ true = is in cc)

module _ {names : Names} {s : KernelState} {a : AbstractState} {sp : SpacesState} (h : StandsFor names s a) (n path argv id : ℕ) (from to : SpawnStep)
    (stands : place_of (slot_at s n) ≡ spawns_at path argv from) (bears : spawning_child from ≡ Some id) (bears_after : spawning_child to ≡ Some id)
    (held : holds_page (spawns_at path argv from) ≡ holds_page (spawns_at path argv to)) (none : (p : ℕ) → is_childs from p ≡ false)
    (none_after : (p : ℕ) → is_childs to p ≡ false) (page : ℕ) (inside : is_programs page ≡ true)
    (made : Made s.spaces sp (slot_at s (id % NENV)).directory page own_perm) (in_order : IsInOrder (with_spaces s sp)) (last : s.last ≡ Some n) where
  abbrev b : Born
  b = (spawn_there h n path argv from stands).b

  u : IsSpawner names s a n path argv from id b
  u = spawner h n path argv id from stands bears

  abbrev mother : Slot
  mother = slot_at s n

  abbrev moved : Slot
  moved = record mother { extra = spawn_words to }

  abbrev child : Slot
  child = slot_at s (id % NENV)

  abbrev d : ℕ
  d = child.directory

  abbrev new_entry : Entry
  new_entry = record { frame = made.frame; perm = own_perm }

  -- all else stands where it stood, and keeps its bytes
  rows_beside : (q r : ℕ) → Elsewhere q r d page → rows_of sp q r ≡ rows_of s.spaces q r
  rows_beside q r ne = row_elsewhere made.placed q r ne

  bytes_beside : (q r : ℕ) (x : Entry) → Elsewhere q r d page → rows_of s.spaces q r ≡ Some x → sp.pages x.frame ≡ s.spaces.pages x.frame
  bytes_beside q r x ne hx = made.placed.bytes q r x (rows_beside q r ne ∙ hx) (made.new q r x hx)

  others_alike : (q : ℕ) → q ≢ d → SeenAlike names names s.spaces sp q
  others_alike q ne = record {
    rows = λ i r. rows_beside q r (λ same too. ne same) i;
    bytes = λ r x hx own_page. bytes_beside q r x (λ same too. ne same) hx;
    named_so = λ r x hx shared_page. refl;
    devices = λ r x descriptor hx shared_page. ap lasting_words (bytes_beside q r x (λ same too. ne same) hx);
    pipes = λ r x pipes hx shared_page. bytes_beside q r x (λ same too. ne same) hx;
    regions = λ r. other_regions made.placed q r ne;
  }

  -- its parent, where it stood
  still : StandsForBorn names sp mother b
  still =
      born_stands mother b (others_alike mother.directory (spawner_apart h u)) (counts_unpiped s.spaces sp mother (ap is_piped stands)) u.own

  abbrev SoAfter : Type 0
  SoAfter = (v : View) → StandsAtSpawn v mother b path argv from → StandsAtSpawn v moved b path argv to

  mine : SoAfter → StandsForBorn names sp moved b
  mine so =
      went_own mother path argv from to stands held still
      (so (view_of sp mother.directory) (subst (λ q. StandsAt q (view_of sp mother.directory) mother b) stands still.at))

  -- ---- the child

  table_is : (r : ℕ) → is_some (sp.regions d r) ≡ ((r == page / NPTENTRIES) || is_some (s.spaces.regions d r))
  table_is r =
      let here : (d == d) ≡ true = grind (arith, nat_tests) in
      made.placed.regions d r ∙ ap (λ (c : Bool). (c && (r == page / NPTENTRIES)) || is_some (s.spaces.regions d r)) here

  has_page : (x : HasOfImage names s.spaces mother b from child id) → PlacesPage b x.image x.file x.progress to page → HasOfImage names sp moved b to child id
  has_page x g = record {
    image = x.image;
    file = x.file;
    loads = x.loads;
    progress = g.progress;
    is_so = g.is_so;
    registers = x.registers ∙ ap (λ (c : Bool). registers_of c mother.registers x.image) (sym g.registers);
    upcall = x.upcall ∙ ap handler_of (sym g.handler);
    memory = λ p inside. by_page p inside (p == page) refl;
    uncopied = λ p y inside hy own_page. uncopied p y inside hy own_page (p == page) refl;
    handed = λ p is on. beside p (no_page p is) ∙ x.handed p is (ap (λ (q : ℕ). nat_le q p) (sym g.passed) ∙ on)
        ∙ sym (rows_beside mother.directory p (λ same too. spawner_apart h u same));
    rest = λ p is off. beside p (no_page p is) ∙ x.rest p is (ap (λ (q : ℕ). nat_le q p) (sym g.passed) ∙ off);
    handler_stack = λ on.
        let it = x.handler_stack (sym g.handler_stack ∙ on) in
        record {
          entry = it.entry;
          stands = beside (page_number UXSTACK) (λ same. no_stack (sym same)) ∙ it.stands;
          own_page = it.own_page;
          writes = it.writes;
        };
    no_handler_stack = λ off. beside (page_number UXSTACK) (λ same. no_stack (sym same)) ∙ x.no_handler_stack (sym g.handler_stack ∙ off);
    none = λ p outside no_descriptor other. beside p (λ same. let contradiction : true ≡ false = sym inside ∙ ap is_programs (sym same) ∙ outside in cc)
        ∙ x.none p outside no_descriptor other;
    tables = λ r is. by_region r (r == page / NPTENTRIES) refl (sym (table_is r) ∙ is);
    here = λ p is. let contradiction : false ≡ true = sym (none_after p) ∙ is in absurd cc;
  }
    where
      beside : (p : ℕ) → p ≢ page → rows_of sp d p ≡ rows_of s.spaces d p
      beside p ne = rows_beside d p (λ same too. ne too)

      no_page : (p : ℕ) → is_of_descriptor p ≡ true → p ≢ page
      no_page p is same = let contradiction : true ≡ false = sym is ∙ ap is_of_descriptor same ∙ programs_no_descriptor page inside in cc

      no_stack : page ≢ page_number UXSTACK
      no_stack = (programs_beside page inside).1

      seen_here : page_seen names sp d page ≡ Some (own zero_page true)
      seen_here =
          ap (λ (c : Bool). seen_where c (shown_at names sp d page)) inside
          ∙ ap (option_map (page_by names sp.pages)) (row_placed made.placed)
          ∙ ap (λ (bytes : List ℕ). Some (own bytes true)) made.zero

      by_page : (p : ℕ) → is_programs p ≡ true → (c : Bool) → (p == page) ≡ c → page_seen names sp d p ≡ child_page b x.image g.progress x.file p
      by_page p there true test =
          let same : p ≡ page = eqb-true p page test in
          subst (λ (q : ℕ). page_seen names sp d q ≡ child_page b x.image g.progress x.file q) (sym same) (seen_here ∙ sym g.here)
      by_page p there false test =
          let ne : p ≢ page = eqb-false p page test in
          seen_at names names s.spaces sp d p (beside p ne) (λ y hy own_page. bytes_beside d p y (λ same too. ne too) hy) (λ y hy shared_page. refl)
          ∙ x.memory p there ∙ g.others p there ne

      uncopied : (p : ℕ) (y : Entry) → is_programs p ≡ true → rows_of sp d p ≡ Some y → is_shared y.perm ≡ false → (c : Bool) → (p == page) ≡ c →
          is_cow y.perm ≡ false
      uncopied p y there hy own_page true test =
          let same : p ≡ page = eqb-true p page test in
          ap (λ (e : Entry). is_cow e.perm) (sym (same_Some new_entry y (sym (row_placed made.placed) ∙ ap (rows_of sp d) (sym same) ∙ hy)))
      uncopied p y there hy own_page false test =
          let ne : p ≢ page = eqb-false p page test in x.uncopied p y there (sym (beside p ne) ∙ hy) own_page

      by_region : (r : ℕ) (c : Bool) → (r == page / NPTENTRIES) ≡ c → (c || is_some (s.spaces.regions d r)) ≡ true →
          (has_page_in (child_page b x.image (passing (entry_count_of (slice_index x.image.header)) 0) x.file) r || is_library_region r) ≡ true
      by_region r true test is =
          let same : r ≡ page / NPTENTRIES = eqb-true r (page / NPTENTRIES) test in
          let at : r * NPTENTRIES + (page - r * NPTENTRIES) ≡ page = omega (arith, same) in
          or_first (has_page_in (child_page b x.image (passing (entry_count_of (slice_index x.image.header)) 0) x.file) r) (is_library_region r)
          (some_below-at (λ i. is_some (child_page b x.image (passing (entry_count_of (slice_index x.image.header)) 0) x.file (r * NPTENTRIES + i))) NPTENTRIES
          (page - r * NPTENTRIES) (omega (arith, same))
          (ap (λ (q : ℕ). is_some (child_page b x.image (passing (entry_count_of (slice_index x.image.header)) 0) x.file q)) at ∙ g.among))
      by_region r false test is = x.tables r is

  -- ---- entries as they count

  abbrev before : ℕ → EntryRow
  before = logical s.spaces s.environments.slots

  abbrev behind : ℕ → EntryRow
  behind = logical sp (upd s.environments.slots n moved)

  uncounted : (at : SpawnStep) → ((p : ℕ) → is_childs at p ≡ false) → (row : EntryRow) (p : ℕ) → counted (spawns_at path argv at) row p ≡ row p
  unfolding counted
  uncounted at off row p = ap (λ (c : Bool). if c then None else row p) (off p)

  page_counts : (j p : ℕ) → behind j p ≡ put before (id % NENV) page (Some new_entry) j p
  page_counts =
      put_is before behind (id % NENV) page (Some new_entry) (spawned_counts h u sp to page ∙ row_placed made.placed) (λ j q ne. there j q ne)
    where
      there : (j q : ℕ) → Elsewhere j q (id % NENV) page → behind j q ≡ before j q
      there =
          of_slots n (id % NENV) (λ j. (q : ℕ) → Elsewhere j q (id % NENV) page → behind j q ≡ before j q)
          (λ q ne. spawner_counts h u sp to q
          ∙ uncounted to none_after (rows_of sp mother.directory) q
          ∙ rows_beside mother.directory q (λ same too. spawner_apart h u same)
          ∙ sym (uncounted from none (rows_of s.spaces mother.directory) q)
          ∙ sym (spawner_counted h u q))
          (λ q ne. spawned_counts h u sp to q ∙ rows_beside d q (λ same too. ne refl too) ∙ sym (spawned_counted h u q))
          (λ j other apart q ne. others_spawning h u sp to j other
          (λ live. (others_alike (slot_at s j).directory
          (λ same. apart (h.in_order.spaces.apart j (id % NENV) live (spawned_lives h u) same))).rows) q)

  counted_bytes : (j q : ℕ) (x : Entry) → Elsewhere j q (id % NENV) page → before j q ≡ Some x → sp.pages x.frame ≡ s.spaces.pages x.frame
  counted_bytes j q x ne hx =
      let found = logical_some s.spaces s.environments.slots j q x hx in
      subst (λ (f : ℕ). sp.pages f ≡ s.spaces.pages f) found.1.frame
      (bytes_beside (slot_at s j).directory q found.1.entry
      (λ same too. ne (h.in_order.spaces.apart j (id % NENV) found.0 (spawned_lives h u) same) too) found.1.stands)

  page_row : PutsRow names names s.spaces.pages a.shared sp.pages a.shared (things_in s a) a.next_name a.next_name before (id % NENV) page (Some new_entry)
  page_row = record {
    bytes = λ j q x ne hx. counted_bytes j q x ne hx;
    agree = λ j q x e ne hx is same.
        let found = (logical_some s.spaces s.environments.slots j q x hx).1 in
        absurd (made.new _ q found.entry found.stands (found.frame ∙ same ∙ ap (λ (y : Entry). y.frame) (sym (same_Some new_entry e is))));
    user = λ e is. subst (λ (y : Entry). IsUsers y.perm) (same_Some new_entry e is) own_user;
    whole = λ e is. subst (λ (y : Entry). IsPage (sp.pages y.frame)) (same_Some new_entry e is)
        (subst (λ (bytes : List ℕ). IsPage bytes) (sym made.zero) zero_page_whole);
    beside = λ q e y is at same.
        absurd (made.new (slot_at s 0).directory q y at (sym same ∙ ap (λ (x : Entry). x.frame) (sym (same_Some new_entry e is))));
    named_new = λ e is shared_page.
        let contradiction : false ≡ true = ap (λ (y : Entry). is_shared y.perm) (same_Some new_entry e is) ∙ shared_page in cc;
    named_old = λ j q x ne hx shared_page was. named_bytes (sym (counted_bytes j q x ne hx)) was;
  }

  -- what is shared keeps its bytes: what stood there is not
  shared_bytes : (x : HasOfImage names s.spaces mother b from child id) → PlacesPage b x.image x.file x.progress to page → (q r : ℕ) (e : Entry) →
      rows_of s.spaces q r ≡ Some e → is_shared e.perm ≡ true → sp.pages e.frame ≡ s.spaces.pages e.frame
  shared_bytes x g q r e hx shared_page = by_place (q == d) refl (r == page) refl
    where
      named_there : q ≡ d → r ≡ page → child_page b x.image x.progress x.file page ≡ Some (named (names.name e.frame) (has_write e.perm))
      named_there same too =
          sym (x.memory page inside)
          ∙ ap (λ (c : Bool). seen_where c (shown_at names s.spaces d page)) inside
          ∙ ap (option_map (page_by names s.spaces.pages)) ((λ i. rows_of s.spaces (sym same i) (sym too i)) ∙ hx)
          ∙ ap (λ (c : Bool). Some (if c then named (names.name e.frame) (has_write e.perm) else own (s.spaces.pages e.frame) (may_write e.perm))) shared_page

      by_place : (c : Bool) → (q == d) ≡ c → (t : Bool) → (r == page) ≡ t → sp.pages e.frame ≡ s.spaces.pages e.frame
      by_place true test true here =
          absurd (g.own_before (names.name e.frame) (has_write e.perm) (named_there (eqb-true q d test) (eqb-true r page here)))
      by_place true test false there = let ne : r ≢ page = eqb-false r page there in bytes_beside q r e (λ same too. ne too) hx
      by_place false test t place = let ne : q ≢ d = eqb-false q d test in bytes_beside q r e (λ same too. ne same) hx

  pub page_placed_stands : Places b id from to page → SoAfter → StandsFor names (with_extra (with_spaces s sp) n (spawn_words to)) a
  page_placed_stands places so =
      let x = u.child in
      let g = places x.image x.file x.progress x.loads x.is_so in
      spawning_moves h n path argv id from to b u bears_after sp (λ q ne beside. others_alike q beside) (mine so) (has_page x g)
      (rows_same (put before (id % NENV) page (Some new_entry)) behind page_counts (rows_put (rows_stand h) page_row)) in_order
      (others_counts h n last sp) (λ p is. rows_beside mother.directory p (λ same too. spawner_apart h u same)) (shared_bytes x g)
