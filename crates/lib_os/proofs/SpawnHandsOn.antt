-- Spawn hands on to its child a page that it shares: the child has it then at the same place, by the same entry, whatever it had there.
use Rattle.std.proofs.Common.{◌≡◌, ◌≢◌, ◌∙◌, ◌⊎◌, inl, inr, ◌%◌, ◌/◌, ◌*◌, ◌+◌, ◌<◌, ◌==◌, ◌&&◌, ◌||◌, ℕ, Bool, true, false, List, [], ◌∷◌, Some, None}
use Rattle.std.proofs.Common.{Option, is_some, refl, sym, ap, subst, arith, if◌then◌else◌}
use Rattle.std.specs.Prelude.{nat_le, not, slice_index}
use Rattle.std.proofs.lemmas.Bool.{false≢true}
use Rattle.std.proofs.lemmas.Bool.Decides.{nat_tests}
use Rattle.std.proofs.lemmas.Option.{none-some, same_Some}
use Rattle.jos_base.specs.declared.numbers.TheConstants.{NENV, NPTENTRIES, SYS_PAGE_MAP, UTEMP}
use Rattle.jos_base.specs.KernelState.{KernelState, slot_at, with_extra, with_spaces}
use Rattle.jos_base.specs.Reach.{Entry}
use Rattle.jos_base.specs.SpacesState.{SpacesState, inserted}
use Rattle.jos_base.specs.SystemCalls.{has_write, is_page_address, is_page_perm, shared_entry}
use Rattle.jos_base.specs.Words.{page_number}
use Rattle.jos_base.proofs.Below.{some_below-at}
use Rattle.jos_base.proofs.Puts.{Elsewhere, place_cases}
use Rattle.jos_elf.specs.Headers.{entry_count_of}
use Rattle.jos_elf.specs.Pages.{any_writes, page_bytes, stack_page}
use Rattle.lib_os.specs.declared.numbers.TheConstants.{PFTEMP, REQUEST, SPAWN_GIVEN, SPAWN_HERE, SPAWN_STACK, UXSTACK}
use Rattle.lib_os.specs.declared.place.Place.{Place}
use Rattle.lib_os.specs.declared.place.Step.TheVariants as step
use Rattle.lib_os.specs.declared.service.Service.TheVariants as service
use Rattle.lib_os.specs.declared.spawn_steps.FinishingStep.TheVariants as finishing
use Rattle.lib_os.specs.declared.spawn_steps.SpawnStep.{SpawnStep}
use Rattle.lib_os.specs.declared.spawn_steps.SpawnStep.TheVariants as spawn
use Rattle.lib_os.specs.AbstractMemory.{has_page_in}
use Rattle.lib_os.specs.AbstractSpawn.{under_shared}
use Rattle.lib_os.specs.AbstractState.{AbstractState, Born, ImageRead, Page, named, own}
use Rattle.lib_os.specs.InOrder.{IsInOrder}
use Rattle.lib_os.specs.LibraryPages.{IsOwnWritable, has_copy, has_spawns, has_working, is_library_region}
use Rattle.lib_os.specs.Places.{place_of}
use Rattle.lib_os.specs.ProgramMemory.{stack_of}
use Rattle.lib_os.specs.Rows.{Agree, IsNamed, IsPage, IsUsers, MayBeHad, Names, counted, is_cow, is_of_descriptor, is_programs, is_shared, lasting, logical}
use Rattle.lib_os.specs.Rows.{page_seen, rows_of}
use Rattle.lib_os.specs.SpawnedChild.{IsProgress, Progress, child_page, handler_of, is_placed_page, is_settled_page, own_page, passing, registers_of, segments_filled, spawning_child}
use Rattle.lib_os.specs.SpawnPages.{is_childs}
use Rattle.lib_os.specs.StandsAtSpawn.{IsClosed, IsPassing, StandsAtSpawn}
use Rattle.lib_os.specs.StandsFor.{StandsFor, borne_in, things_in, top_page, view_of}
use Rattle.lib_os.specs.UserCalls.{system}
use Rattle.lib_os.proofs.BorneCalls.{borne_map_is}
use Rattle.lib_os.proofs.Calls.{made_step}
use Rattle.lib_os.proofs.Effects.{Given}
use Rattle.lib_os.proofs.EntriesStand.{PutsRow, named_bytes, same_entry, seen_at, seen_named}
use Rattle.lib_os.proofs.EntryWords.{row_entry}
use Rattle.lib_os.proofs.PagesStand.{other_regions, row_elsewhere, row_placed}
use Rattle.lib_os.proofs.PassedOn.{descriptors_region, given_with, or_true}
use Rattle.lib_os.proofs.Placing.{inserted_given}
use Rattle.lib_os.proofs.Remapping.{lasting_write}
use Rattle.lib_os.proofs.Serving.{IsServed, holds_page}
use Rattle.lib_os.proofs.SpawnedGoes.{HasOfImage, IsSpawner, spawner}
use Rattle.lib_os.proofs.SpawnedMoves.{spawner_apart, spawner_counted}
use Rattle.lib_os.proofs.SpawnGivesChild.{PutsInChild, given_bytes, giver_row, gives_child}
use Rattle.lib_os.proofs.SpawnKeeps.{none_childs, none_kept}
use Rattle.lib_os.proofs.SpawnOwnPages.{spawn_there, spawn_words, spawns_at}

-- ---- a page that stands somewhere already

pub given_puts : {s sp : SpacesState} {d p : ℕ} {e : Entry} → Given s sp d p e → PutsInChild s sp d p e
given_puts {s = s} {sp = sp} {d = d} {p = p} {e = e} given = record {
  beside = λ q r ne. row_elsewhere given.placed q r ne;
  there = row_placed given.placed;
  bytes = bytes;
  regions = λ q r ne. other_regions given.placed q r ne;
}
  where
    bytes : (q r : ℕ) (x : Entry) → Elsewhere q r d p → rows_of s q r ≡ Some x → sp.pages x.frame ≡ s.pages x.frame
    bytes q r x ne hx = by_frame (x.frame == e.frame) refl
      where
        by_frame : (c : Bool) → (x.frame == e.frame) ≡ c → sp.pages x.frame ≡ s.pages x.frame
        by_frame true test =
            let same : e.frame ≡ x.frame = grind (arith, nat_tests, test) in subst (λ (f : ℕ). sp.pages f ≡ s.pages f) same given.same
        by_frame false test =
            given.placed.bytes q r x (row_elsewhere given.placed q r ne ∙ hx) (grind (arith, nat_tests, test))

-- the child's own pages have no name
is_own : Option Page → Bool
is_own (Some (named name writes)) = false
is_own _ = true

own_is : (image : ImageRead) (progress : Progress) (file : List ℕ) (p : ℕ) → is_own (own_page image progress file p) ≡ true
unfolding is_own
own_is image progress file p = by_tests (p == stack_page) progress.stack (is_placed_page image progress p)
  where
    by_tests : (c d e : Bool) →
        is_own (if c then (if d then Some (stack_of image.words) else None)
        else (if e then Some (own (page_bytes (segments_filled image progress) file p)
        (any_writes p (segments_filled image progress) || not (is_settled_page image progress p))) else None)) ≡ true
    by_tests true true e = refl
    by_tests true false e = refl
    by_tests false d true = refl
    by_tests false d false = refl

own_unnamed : (image : ImageRead) (progress : Progress) (file : List ℕ) (p name : ℕ) (writes : Bool) →
    own_page image progress file p ≡ Some (named name writes) → ⊥
unfolding is_own
own_unnamed image progress file p name writes is =
    let contradiction : true ≡ false = sym (own_is image progress file p) ∙ ap is_own is in cc

-- ---- the page

module _ {names : Names} {s : KernelState} {a : AbstractState} (h : StandsFor names s a) (n path argv child page perm : ℕ)
    (stands : place_of (slot_at s n) ≡ spawns_at path argv (spawn.Finishing (finishing.PassingPage child page perm))) where
  abbrev from : SpawnStep
  from = spawn.Finishing (finishing.PassingPage child page perm)

  abbrev it : IsServed names s a n (service.Spawn path argv) (step.Spawning from)
  it = spawn_there h n path argv from stands

  abbrev b : Born
  b = it.b

  abbrev m : ℕ
  m = child % NENV

  abbrev home : ℕ
  home = (slot_at s n).directory

  abbrev d : ℕ
  d = (slot_at s m).directory

  v : IsSpawner names s a n path argv from child b
  v = spawner h n path argv child from stands refl

  abbrev stood : IsClosed (slot_at s n) b path argv child × (page < top_page) × IsPassing (view_of s.spaces home) page perm
  stood = it.at

  abbrev passed : IsPassing (view_of s.spaces home) page perm
  passed = stood.2

  abbrev entry : Entry
  entry = passed.entry

  none_its : (p : ℕ) → is_childs from p ≡ false
  none_its p = none_childs (p == page_number SPAWN_HERE) (p == page_number SPAWN_STACK)

  -- the parent's entry counts
  counts : logical s.spaces s.environments.slots n page ≡ Some entry
  unfolding counted
  counts =
      spawner_counted h v page ∙ ap (λ (c : Bool). if c then None else rows_of s.spaces home page) (none_its page) ∙ passed.stands

  user : IsUsers entry.perm
  user = h.users n page entry counts

  -- It is one that a program may have, or of a descriptor.
  page_handed : is_programs page ≡ false → is_of_descriptor page ≡ false → ⊥
  page_handed outside no_descriptor = by_copy (page == page_number PFTEMP) refl
    where
      nowhere : rows_of s.spaces home page ≡ None → ⊥
      nowhere none = none-some entry (sym none ∙ passed.stands)

      none_beside : has_spawns (place_of (slot_at s n)) (slot_at s n).extra page ≡ false
      none_beside =
          ap (λ (q : Place). has_spawns q (slot_at s n).extra page) stands
          ∙ none_kept (page == page_number SPAWN_GIVEN) (page == page_number SPAWN_STACK) (page == page_number SPAWN_HERE)

      by_working : page ≢ page_number PFTEMP → (c : Bool) → (page == page_number UTEMP) ≡ c → ⊥
      by_working other true test =
          nowhere (ap (rows_of s.spaces home) (let same : page ≡ page_number UTEMP = grind (arith, nat_tests, test) in same)
          ∙ it.own.library.no_working (ap (λ (q : Place). has_working q (slot_at s n).extra) stands))
      by_working other false test =
          let low = stood.1 in
          nowhere (it.own.library.none page outside no_descriptor (λ same. let too : page ≡ page_number UXSTACK = same in omega (arith, low, too)) other
          (grind (arith, nat_tests, test)) none_beside)

      by_copy : (c : Bool) → (page == page_number PFTEMP) ≡ c → ⊥
      by_copy true test =
          nowhere (ap (rows_of s.spaces home) (let same : page ≡ page_number PFTEMP = grind (arith, nat_tests, test) in same)
          ∙ it.own.library.no_copy (ap has_copy stands))
      by_copy false test = by_working (grind (arith, nat_tests, test)) (page == page_number UTEMP) refl

  -- ---- the call

  source : (e : Entry) × (s.spaces.entries home page ≡ Some e) × (lasting e ≡ entry)
  source = row_entry s.spaces home page entry passed.stands

  permitted : is_page_perm perm ≡ true
  permitted = ap is_page_perm passed.perm_is ∙ user.page

  writes : has_write perm ≡ true → has_write source.0.perm ≡ true
  writes on = lasting_write source.0.perm ∙ ap (λ (x : Entry). has_write x.perm) source.2 ∙ ap has_write (sym passed.perm_is) ∙ on

  gives : shared_entry (s.spaces.entries home page) perm ≡ Some entry
  gives =
      let e = source in
      ap (λ (o : Option Entry). shared_entry o perm) e.1
      ∙ given_with e.0 perm permitted writes
      ∙ (λ i. let x : Entry = record { frame = (e.2 i).frame; perm = passed.perm_is i } in Some x)

  -- what the call comes to
  pub hands_is : (va : ℕ) → is_page_address va ≡ true → page_number va ≡ page →
      system s n SYS_PAGE_MAP (0 ∷ va ∷ child ∷ va ∷ perm ∷ [])
      ≡ made_step s (inserted s.spaces (slot_at s (child % NENV)).directory page (spawn_there h n path argv from stands).at.2.entry)
  hands_is va address number =
      borne_map_is h n child b it.is (ap borne_in stands) va va perm entry address address
      (ap (λ (p : ℕ). shared_entry (s.spaces.entries home p) perm) number ∙ gives)
      ∙ ap (λ (p : ℕ). made_step s (inserted s.spaces d p entry)) number

  -- ---- what the child had there

  not_passed : nat_le (page + 1) page ≡ false
  not_passed = grind (arith, nat_tests)

  passed_was : (p : ℕ) → nat_le v.child.progress.passed p ≡ nat_le (page + 1) p
  passed_was p = ap (λ (before : Progress). nat_le before.passed p) v.child.is_so

  own_there : (x : Entry) → rows_of s.spaces d page ≡ Some x → is_shared x.perm ≡ false
  own_there x is = by_sharing (is_shared x.perm) refl
    where
      nowhere : rows_of s.spaces d page ≡ None → ⊥
      nowhere none = none-some x (sym none ∙ is)

      by_place : (c t : Bool) → is_programs page ≡ c → is_of_descriptor page ≡ t → is_shared x.perm ≡ true → ⊥
      by_place true t inside descriptor shared =
          own_unnamed v.child.image v.child.progress v.child.file page (names.name x.frame) (has_write x.perm)
          (sym (ap (λ (c : Bool). if c then under_shared (b.memory page) (own_page v.child.image v.child.progress v.child.file page)
          else own_page v.child.image v.child.progress v.child.file page) (passed_was page ∙ not_passed))
          ∙ sym (v.child.memory page inside) ∙ seen_named names s.spaces d page x inside is shared)
      by_place false true outside descriptor shared = nowhere (v.child.rest page descriptor (passed_was page ∙ not_passed))
      by_place false false outside descriptor shared =
          let low = stood.1 in
          nowhere (v.child.none page outside descriptor (grind (arith, nat_tests, low)))

      by_sharing : (c : Bool) → is_shared x.perm ≡ c → is_shared x.perm ≡ false
      by_sharing false off = off
      by_sharing true shared = absurd (by_place (is_programs page) (is_of_descriptor page) refl refl shared)

  -- ---- the page is the child's too

  module _ {sp : SpacesState} (in_order : IsInOrder (with_spaces s sp))
      (is : inserted s.spaces (slot_at s (child % NENV)).directory page (spawn_there h n path argv from stands).at.2.entry ≡ Some sp) (last : s.last ≡ Some n) where
    given : Given s.spaces sp d page entry
    given =
        inserted_given s.spaces sp d page entry home page source.0 h.in_order.frames in_order.frames user.page source.1
        (ap (λ (e : Entry). e.frame) source.2) is

    puts : PutsInChild s.spaces sp d page entry
    puts = given_puts given

    kept : (j q : ℕ) (x : Entry) → Elsewhere j q (child % NENV) page → logical s.spaces s.environments.slots j q ≡ Some x →
        sp.pages x.frame ≡ s.spaces.pages x.frame
    kept = given_bytes h n path argv child from from stands refl page entry puts own_there last

    parent_row : (p : ℕ) → rows_of sp home p ≡ rows_of s.spaces home p
    parent_row = giver_row h n path argv child from from stands refl page entry puts own_there last

    child_row : (r : ℕ) → r ≢ page → rows_of sp d r ≡ rows_of s.spaces d r
    child_row r ne = puts.beside d r (λ same. ne)

    abbrev after : Progress
    after = passing (entry_count_of (slice_index v.child.image.header)) page

    -- as it is seen, a program's page is the parent's
    seen_there : is_programs page ≡ true → page_seen names sp d page ≡ b.memory page
    seen_there inside =
        seen_named names sp d page entry inside puts.there passed.shared
        ∙ sym (seen_named names s.spaces home page entry inside passed.stands passed.shared) ∙ sym (it.own.memory page)

    under_it : is_programs page ≡ true → (q : Option Page) → b.memory page ≡ under_shared (b.memory page) q
    under_it inside q =
        let named_is : b.memory page ≡ Some (named (names.name entry.frame) (has_write entry.perm)) =
        it.own.memory page ∙ seen_named names s.spaces home page entry inside passed.stands passed.shared in
        named_is ∙ sym (ap (λ (x : Option Page). under_shared x q) named_is)

    memory_so : (p : ℕ) → is_programs p ≡ true → page_seen names sp d p ≡ child_page b v.child.image after v.child.file p
    memory_so p inside = by_page (p == page) refl
      where
        by_page : (c : Bool) → (p == page) ≡ c → page_seen names sp d p ≡ child_page b v.child.image after v.child.file p
        by_page true test =
            let same : page ≡ p = grind (arith, nat_tests, test) in
            subst (λ (q : ℕ). page_seen names sp d q ≡ child_page b v.child.image after v.child.file q) same
            (let there = ap is_programs same ∙ inside in
            let on : nat_le page page ≡ true = grind (arith, nat_tests) in
            seen_there there ∙ under_it there (own_page v.child.image after v.child.file page)
            ∙ sym (ap (λ (c : Bool). if c then under_shared (b.memory page) (own_page v.child.image after v.child.file page)
            else own_page v.child.image after v.child.file page) on))
        by_page false test =
            let other : p ≢ page = grind (arith, nat_tests, test) in
            let alike : nat_le (page + 1) p ≡ nat_le page p = grind (arith, nat_tests, test) in
            seen_at names names s.spaces sp d p (child_row p other) (λ x hx own_page. puts.bytes d p x (λ same. other) hx) (λ x hx shared_page. refl)
            ∙ v.child.memory p inside ∙ ap (λ (before : Progress). child_page b v.child.image before v.child.file p) v.child.is_so
            ∙ ap (λ (c : Bool). if c then under_shared (b.memory p) (own_page v.child.image after v.child.file p)
            else own_page v.child.image after v.child.file p) alike

    uncopied_so : (p : ℕ) (x : Entry) → is_programs p ≡ true → rows_of sp d p ≡ Some x → is_shared x.perm ≡ false → is_cow x.perm ≡ false
    uncopied_so p x inside at own_page = by_page (p == page) refl
      where
        by_page : (c : Bool) → (p == page) ≡ c → is_cow x.perm ≡ false
        by_page true test =
            let same : p ≡ page = grind (arith, nat_tests, test) in
            let one : entry ≡ x = same_Some entry x (sym puts.there ∙ ap (rows_of sp d) (sym same) ∙ at) in
            absurd (false≢true (sym own_page ∙ ap (λ (e : Entry). is_shared e.perm) (sym one) ∙ passed.shared))
        by_page false test = v.child.uncopied p x inside (sym (child_row p (grind (arith, nat_tests, test))) ∙ at) own_page

    handed_so : (p : ℕ) → is_of_descriptor p ≡ true → nat_le page p ≡ true → rows_of sp d p ≡ rows_of sp home p
    handed_so p desc on = by_page (p == page) refl
      where
        by_page : (c : Bool) → (p == page) ≡ c → rows_of sp d p ≡ rows_of sp home p
        by_page true test =
            let same : page ≡ p = grind (arith, nat_tests, test) in
            subst (λ (q : ℕ). rows_of sp d q ≡ rows_of sp home q) same (puts.there ∙ sym passed.stands ∙ sym (parent_row page))
        by_page false test =
            let above : nat_le (page + 1) p ≡ true = grind (arith, nat_tests, test, on) in
            child_row p (grind (arith, nat_tests, test)) ∙ v.child.handed p desc (passed_was p ∙ above) ∙ sym (parent_row p)

    -- its region is one in which the child has the page, or the descriptors'
    has_page : (has_page_in (child_page b v.child.image (passing (entry_count_of (slice_index v.child.image.header)) 0) v.child.file) (page / NPTENTRIES)
        || is_library_region (page / NPTENTRIES)) ≡ true
    has_page = by_tests (is_programs page) (is_of_descriptor page) refl refl
      where
        last_memory : ℕ → Option Page
        last_memory p = child_page b v.child.image (passing (entry_count_of (slice_index v.child.image.header)) 0) v.child.file p

        there_is : is_programs page ≡ true → is_some (last_memory page) ≡ true
        there_is inside =
            let on : nat_le 0 page ≡ true = grind (arith, nat_tests) in
            let q = own_page v.child.image (passing (entry_count_of (slice_index v.child.image.header)) 0) v.child.file page in
            ap (λ (c : Bool). is_some (if c then under_shared (b.memory page) q else q)) on
            ∙ ap (λ (o : Option Page). is_some o) (sym (under_it inside q) ∙ it.own.memory page
            ∙ seen_named names s.spaces home page entry inside passed.stands passed.shared)

        by_tests : (c t : Bool) → is_programs page ≡ c → is_of_descriptor page ≡ t →
            (has_page_in (child_page b v.child.image (passing (entry_count_of (slice_index v.child.image.header)) 0) v.child.file) (page / NPTENTRIES)
            || is_library_region (page / NPTENTRIES)) ≡ true
        by_tests true t inside desc =
            ap (λ (c : Bool). c || is_library_region (page / NPTENTRIES))
            (some_below-at (λ p. is_some (last_memory (page / NPTENTRIES * NPTENTRIES + p))) NPTENTRIES (page % NPTENTRIES) (omega arith)
            (ap (λ (p : ℕ). is_some (last_memory p)) (let same : page / NPTENTRIES * NPTENTRIES + page % NPTENTRIES ≡ page = omega arith in same)
            ∙ there_is inside))
        by_tests false true outside desc = or_true _ (is_library_region (page / NPTENTRIES)) (descriptors_region page desc)
        by_tests false false outside desc = absurd (page_handed outside desc)

    tables_so : (r : ℕ) → is_some (sp.regions d r) ≡ true →
        (has_page_in (child_page b v.child.image (passing (entry_count_of (slice_index v.child.image.header)) 0) v.child.file) r || is_library_region r) ≡ true
    tables_so r table = by_region (r == page / NPTENTRIES) refl (sym (table_is) ∙ table)
      where
        here_is : (d == d) ≡ true
        here_is = grind (arith, nat_tests)

        table_is : is_some (sp.regions d r) ≡ ((r == page / NPTENTRIES) || is_some (s.spaces.regions d r))
        table_is = given.placed.regions d r ∙ ap (λ (c : Bool). (c && (r == page / NPTENTRIES)) || is_some (s.spaces.regions d r)) here_is

        by_region : (c : Bool) → (r == page / NPTENTRIES) ≡ c → (c || is_some (s.spaces.regions d r)) ≡ true →
            (has_page_in (child_page b v.child.image (passing (entry_count_of (slice_index v.child.image.header)) 0) v.child.file) r || is_library_region r) ≡ true
        by_region true test on =
            let same : page / NPTENTRIES ≡ r = grind (arith, nat_tests, test) in
            subst (λ (q : ℕ). (has_page_in (child_page b v.child.image (passing (entry_count_of (slice_index v.child.image.header)) 0) v.child.file) q
            || is_library_region q) ≡ true) same has_page
        by_region false test on = v.child.tables r on

    has_passed : (to : SpawnStep) → ((q : ℕ) → is_childs to q ≡ false) → ((count : ℕ) → IsProgress count to (passing count page)) →
        HasOfImage names sp (record (slot_at s n) { extra = spawn_words to }) b to (slot_at s (child % NENV)) child
    has_passed to none_then is_so =
        let x = v.child in
        record {
          image = x.image;
          file = x.file;
          loads = x.loads;
          progress = passing (entry_count_of (slice_index x.image.header)) page;
          is_so = is_so (entry_count_of (slice_index x.image.header));
          registers = x.registers ∙ ap (λ (before : Progress). registers_of before.registers (slot_at s n).registers x.image) x.is_so;
          upcall = x.upcall ∙ ap (λ (before : Progress). handler_of before.handler) x.is_so;
          memory = memory_so;
          uncopied = uncopied_so;
          handed = handed_so;
          rest = λ p desc off.
              let other : p ≢ page = grind (arith, nat_tests, off) in
              let below : nat_le (page + 1) p ≡ false = grind (arith, nat_tests, off) in
              child_row p other ∙ x.rest p desc (passed_was p ∙ below);
          handler_stack = λ on.
              stack_still (x.handler_stack (ap (λ (before : Progress). before.handler_stack) x.is_so));
          no_handler_stack = λ off. absurd (false≢true (sym off));
          none = λ p outside no_desc other.
              child_row p (λ same. page_handed (ap is_programs (sym same) ∙ outside) (ap is_of_descriptor (sym same) ∙ no_desc)) ∙ x.none p outside no_desc other;
          tables = tables_so;
          here = λ p childs. absurd (false≢true (sym (none_then p) ∙ childs));
        }
      where
        stack_still : IsOwnWritable (rows_of s.spaces d) (page_number UXSTACK) → IsOwnWritable (rows_of sp d) (page_number UXSTACK)
        stack_still has = record {
          entry = has.entry;
          stands = child_row (page_number UXSTACK) (λ same. let low = stood.1 in let too : page_number UXSTACK ≡ page = same in omega (arith, low, too))
              ∙ has.stands;
          own_page = has.own_page;
          writes = has.writes;
        }

    -- ---- entries as they count

    -- all that have its frame agree with it, itself among them
    agrees : (j q : ℕ) (x : Entry) → logical s.spaces s.environments.slots j q ≡ Some x → x.frame ≡ entry.frame → Agree x.perm entry.perm
    agrees j q x hx same = by_place (place_cases j q n page)
      where
        by_place : ((j ≡ n) × (q ≡ page)) ⊎ Elsewhere j q n page → Agree x.perm entry.perm
        by_place (inl here) =
            subst (λ (y : Entry). Agree y.perm entry.perm)
            (sym (same_entry (logical s.spaces s.environments.slots) j q n page x entry here.0 here.1 hx counts))
            (record { shared = refl; read_only = λ own_page. absurd (false≢true (sym own_page ∙ passed.shared)) })
        by_place (inr ne) = h.apart j q n page x entry ne hx counts same

    row : PutsRow names names s.spaces.pages a.shared sp.pages a.shared (things_in s a) a.next_name a.next_name
        (logical s.spaces s.environments.slots) (child % NENV) page (Some entry)
    row = record {
      bytes = λ j q x ne hx. kept j q x ne hx;
      agree = λ j q x e ne hx is same.
          let one : entry ≡ e = same_Some entry e is in
          subst (λ (y : Entry). Agree x.perm y.perm) one (agrees j q x hx (same ∙ ap (λ (y : Entry). y.frame) (sym one)));
      user = λ e is. subst (λ (y : Entry). IsUsers y.perm) (same_Some entry e is) user;
      whole = λ e is. subst (λ (y : Entry). IsPage (sp.pages y.frame)) (same_Some entry e is)
          (subst (λ (l : List ℕ). IsPage l) (sym given.same) (h.whole n page entry counts));
      beside = λ q e y is at.
          subst (λ (z : Entry). z.frame ≡ y.frame → MayBeHad (q == page_number REQUEST) page z) (same_Some entry e is)
          (λ same. h.beside n page q entry y counts at same);
      named_new = λ e is. subst (λ (y : Entry). is_shared y.perm ≡ true → IsNamed names sp.pages a.shared (things_in s a) a.next_name page y.frame)
          (same_Some entry e is) (λ shared_page. named_bytes (sym given.same) (h.named n page entry counts shared_page));
      named_old = λ j q x ne hx shared_page was. named_bytes (sym (kept j q x ne hx)) was;
    }

    -- what is seen of the parent's space
    pub hander_stands : IsClosed (slot_at s n) (spawn_there h n path argv from stands).b path argv child
    hander_stands = stood.0

    pub hander_tables : is_some (sp.regions (slot_at s n).directory (page / NPTENTRIES)) ≡ true
    hander_tables =
        puts.regions home (page / NPTENTRIES) (λ same. spawner_apart h v same) ∙ h.in_order.frames.regions home page source.0 source.1

    pub hands_on : (to : SpawnStep) → spawning_child to ≡ Some child →
        holds_page (spawns_at path argv (spawn.Finishing (finishing.PassingPage child page perm))) ≡ holds_page (spawns_at path argv to) →
        ((q : ℕ) → is_childs to q ≡ false) → ((count : ℕ) → IsProgress count to (passing count page)) →
        StandsAtSpawn (view_of sp (slot_at s n).directory) (record (slot_at s n) { extra = spawn_words to })
        (spawn_there h n path argv (spawn.Finishing (finishing.PassingPage child page perm)) stands).b path argv to →
        StandsFor names (with_extra (with_spaces s sp) n (spawn_words to)) a
    hands_on to bears_after held none_then is_so so =
        gives_child h n path argv child from to stands refl page entry puts own_there last bears_after held so (has_passed to none_then is_so) in_order
        (λ q. none_its q ∙ sym (none_then q)) row
