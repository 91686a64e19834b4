-- Spawn maps a page of its child's onto itself, so that it is only read: the child has all bytes that it had, and nobody else has anything else.
use Rattle.std.proofs.Common.{◌≡◌, ◌≢◌, ◌∙◌, ◌⊎◌, inl, inr, ◌%◌, ◌/◌, ◌*◌, ◌+◌, ◌<◌, ◌≤◌, ◌==◌, ◌&&◌, ◌||◌, ℕ, Bool, true, false, not, List, [], ◌∷◌, Some, None}
use Rattle.std.proofs.Common.{Option, is_some, refl, sym, ap, subst, arith, if◌then◌else◌}
use Rattle.std.specs.Prelude.{nat_le, nat_lt, slice_index}
use Rattle.std.proofs.lemmas.Bool.{and_parts, false≢true}
use Rattle.std.proofs.lemmas.Bool.Decides.{nat_tests}
use Rattle.std.proofs.lemmas.Option.{none-some, same_Some}
use Rattle.jos_base.specs.declared.numbers.TheConstants.{FDTABLE, NENV, NPTENTRIES, PGSIZE, SYS_PAGE_MAP, USTABDATA, UTEMP, UTEXT}
use Rattle.jos_base.specs.Below.{some_below}
use Rattle.jos_base.specs.Environments.{Slot}
use Rattle.jos_base.specs.KernelState.{KernelState, slot_at, with_extra, with_spaces}
use Rattle.jos_base.specs.Reach.{Entry}
use Rattle.jos_base.specs.SpacesState.{SpacesState, inserted}
use Rattle.jos_base.specs.SystemCalls.{has_write, is_page_address, shared_entry}
use Rattle.jos_base.specs.Words.{page_number}
use Rattle.jos_base.proofs.Below.{some_below-at}
use Rattle.jos_base.proofs.Puts.{Elsewhere}
use Rattle.jos_elf.specs.declared.header.ProgramHeader.{ProgramHeader}
use Rattle.jos_elf.specs.Headers.{entry_count_of}
use Rattle.jos_elf.specs.Pages.{any_writes, page_bytes, stack_page, touches}
use Rattle.jos_elf.specs.Parsed.{Lies, segment_of, segments_of}
use Rattle.lib_os.specs.declared.numbers.TheConstants.{REQUEST, UXSTACK}
use Rattle.lib_os.specs.declared.place.Step.TheVariants as step
use Rattle.lib_os.specs.declared.service.Service.TheVariants as service
use Rattle.lib_os.specs.declared.spawn_steps.FinishingStep.TheVariants as finishing
use Rattle.lib_os.specs.declared.spawn_steps.SpawnStep.{SpawnStep}
use Rattle.lib_os.specs.declared.spawn_steps.SpawnStep.TheVariants as spawn
use Rattle.lib_os.specs.AbstractMemory.{has_page_in}
use Rattle.lib_os.specs.AbstractSpawn.{headers_in, image_segments, under_shared}
use Rattle.lib_os.specs.AbstractState.{AbstractState, Born, ImageRead, named, own}
use Rattle.lib_os.specs.Fence.{in_fence}
use Rattle.lib_os.specs.InOrder.{IsInOrder}
use Rattle.lib_os.specs.LibraryPages.{View, is_library_region}
use Rattle.lib_os.specs.Places.{place_of}
use Rattle.lib_os.specs.Rows.{Agree, IsPage, IsUsers, MayBeHad, Names, is_cow, is_of_descriptor, is_programs, is_shared, lasting, logical, page_seen, rows_of}
use Rattle.lib_os.specs.Rows.{may_write}
use Rattle.lib_os.specs.SpawnedChild.{IsProgress, Progress, child_page, handler_of, header_touches, image_page, is_settled_page}
use Rattle.lib_os.specs.SpawnedChild.{no_page_passed, own_page, passing, registers_of, segments_filled, settling}
use Rattle.lib_os.specs.SpawnPages.{is_childs}
use Rattle.lib_os.specs.StandsAtSpawn.{FinishingStands, IsReadOnly, IsSettling}
use Rattle.lib_os.specs.StandsFor.{StandsFor, borne_in, things_in, view_of}
use Rattle.lib_os.specs.UserCalls.{system}
use Rattle.lib_os.proofs.BorneCalls.{borne_map_own_is}
use Rattle.lib_os.proofs.Calls.{made_step}
use Rattle.lib_os.proofs.Effects.{Given}
use Rattle.lib_os.proofs.EntriesStand.{PutsRow, named_bytes, rows_stand, seen_at, seen_named, seen_none, seen_own}
use Rattle.lib_os.proofs.EntryWords.{row_entry}
use Rattle.lib_os.proofs.Logical.{programs_beside, programs_no_descriptor}
use Rattle.lib_os.proofs.Placing.{inserted_given}
use Rattle.lib_os.proofs.Serving.{IsServed}
use Rattle.lib_os.proofs.SpawnedGoes.{HasOfImage, IsSpawner, spawner}
use Rattle.lib_os.proofs.SpawnedMoves.{spawned_counted}
use Rattle.lib_os.proofs.SpawnedProgress.{Alike, alike_same, loads_same, page_same}
use Rattle.lib_os.proofs.SpawnGivesChild.{PutsInChild, given_bytes, giver_row, giver_stands, gives_child}
use Rattle.lib_os.proofs.SpawnHandsOn.{given_puts}
use Rattle.lib_os.proofs.SpawnOwnPages.{spawn_there, spawn_words, spawns_at}
use Rattle.lib_child.specs.ChildSegments.{readable_perm, rights_from}
use Rattle.lib_child.proofs.BearingOn.{ComesTo, none_mine}
use Rattle.lib_child.proofs.HeaderSays.{image_lies, lies_low}
use Rattle.lib_child.proofs.PiecesLeft.{count_of}
use Rattle.lib_birth.specs.FinishingStages.{rights_behind}
use Rattle.lib_birth.proofs.RightsOn.{bytes_told, rights_come}
use Rattle.lib_birth.proofs.RightsProgress.{rights_up_to, touched_is, touched_so}
use Rattle.lib_birth.proofs.RightsWrites.{image_writes}

-- ---- the page

-- A page of a segment that is only read, which no segment has that may be written.
pub record IsReadPage (image : ImageRead) (header page : ℕ) : Type 0 where
  pub below : header < entry_count_of (slice_index image.header)
  pub touched : header_touches image page header ≡ true
  pub unwritten : any_writes page (image_segments image) ≡ false
  pub inside : is_programs page ≡ true
  pub low : page < page_number FDTABLE

-- a page that a segment has is one that a program may have
segment_inside : (total page : ℕ) (header : ProgramHeader) → Lies total (segment_of header) → touches page (segment_of header) ≡ true →
    is_programs page ≡ true
unfolding in_fence
segment_inside total page header lies part = by_range lies.range
  where
    first : header.va < (page + 1) * PGSIZE
    first =
        let is = (and_parts (nat_lt header.va ((page + 1) * PGSIZE)) (nat_lt (page * PGSIZE) (header.va + header.mem_len)) part).0 in
        grind (arith, nat_tests, is)

    last : page * PGSIZE < header.va + header.mem_len
    last =
        let is = (and_parts (nat_lt header.va ((page + 1) * PGSIZE)) (nat_lt (page * PGSIZE) (header.va + header.mem_len)) part).1 in
        grind (arith, nat_tests, is)

    by_range : ((USTABDATA ≤ header.va) × (header.va + header.mem_len ≤ UTEMP)) ⊎ ((UTEXT ≤ header.va) × (header.va + header.mem_len ≤ FDTABLE)) →
        is_programs page ≡ true
    by_range (inl range) =
        let begin = range.0 in
        let end = range.1 in
        let from : USTABDATA ≤ page * PGSIZE = omega (arith, first, begin) in
        let to : page * PGSIZE + PGSIZE ≤ UTEMP = omega (arith, last, end) in
        grind (arith, nat_tests, from, to)
    by_range (inr range) =
        let begin = range.0 in
        let end = range.1 in
        let from : UTEXT ≤ page * PGSIZE = omega (arith, first, begin) in
        let to : page * PGSIZE + PGSIZE ≤ FDTABLE = omega (arith, last, end) in
        grind (arith, nat_tests, from, to)

segment_low : (total page : ℕ) (header : ProgramHeader) → Lies total (segment_of header) → touches page (segment_of header) ≡ true →
    page < page_number FDTABLE
segment_low total page header lies part =
    let is = (and_parts (nat_lt header.va ((page + 1) * PGSIZE)) (nat_lt (page * PGSIZE) (header.va + header.mem_len)) part).1 in
    let last : page * PGSIZE < header.va + header.mem_len = grind (arith, nat_tests, is) in
    let low = lies_low header lies in
    omega (arith, last, low)

not_so : (c : Bool) → not c ≡ true → c ≡ false
not_so true is = absurd (let contradiction : false ≡ true = is in cc)
not_so false is = refl

pub page_reads : {v : View} {k : Slot} {b : Born} {path argv fd headers child header : ℕ}
    (so : IsSettling v k b path argv fd headers child header IsReadOnly) (page end : ℕ) → page < end →
    ((p : ℕ) → page ≤ p → nat_lt p end ≡ (touches p (segment_of (headers_in so.has.image.table header))
    && not (any_writes p (segments_of (headers_in so.has.image.table) headers)))) → IsReadPage so.has.image header page
page_reads {headers = headers} {header = header} so page end some pages =
    let here : nat_lt page end ≡ true = grind (arith, nat_tests, some) in
    let one = headers_in so.has.image.table header in
    let parts = and_parts (touches page (segment_of one)) (not (any_writes page (segments_of (headers_in so.has.image.table) headers)))
    (sym (pages page (omega arith)) ∙ here) in
    let lies = image_lies so.whole header so.below so.so.0 in
    let many = so.whole.many in
    let below = so.below in
    let lower : header < count_of so.has.image = omega (arith, many, below) in
    record {
      below = lower;
      touched = touched_is so.has.image page header lower so.so.0 parts.0;
      unwritten = ap (λ (m : ℕ). any_writes page (segments_of (headers_in so.has.image.table) m)) (sym many)
          ∙ not_so (any_writes page (segments_of (headers_in so.has.image.table) headers)) parts.1;
      inside = segment_inside so.whole.size page one lies parts.0;
      low = segment_low so.whole.size page one lies parts.0;
    }

-- ---- what the child has there

abbrev bytes_there : ImageRead → List ℕ → ℕ → ℕ → List ℕ
bytes_there image file headers page = page_bytes (segments_filled image (settling headers 0 0)) file page

abbrev written_there : ImageRead → ℕ → ℕ → ℕ → ℕ → Bool
written_there image headers header to page =
    any_writes page (segments_filled image (settling headers header to)) || not (is_settled_page image (settling headers header to) page)

-- while rights are set
placed_own : (b : Born) (image : ImageRead) (file : List ℕ) (header to page : ℕ) → IsReadPage image header page →
    child_page b image (settling (count_of image) header to) file page
    ≡ Some (own (bytes_there image file (count_of image) page) (written_there image (count_of image) header to page))
placed_own b image file header to page read =
    let low = read.low in
    let unpassed : nat_le no_page_passed page ≡ false = grind (arith, nat_tests, low) in
    let no_stack : (page == stack_page) ≡ false = grind (arith, nat_tests, low) in
    let some : some_below (count_of image) (header_touches image page) ≡ true =
    some_below-at (header_touches image page) (count_of image) header read.below read.touched in
    ap (λ (c : Bool). if c then under_shared (b.memory page) (own_page image (settling (count_of image) header to) file page)
    else own_page image (settling (count_of image) header to) file page) unpassed
    ∙ ap (λ (c : Bool). if c then None else image_page image (settling (count_of image) header to) file page) no_stack
    ∙ ap (λ (c : Bool). if c || (header_touches image page (count_of image) && nat_lt page 0)
    then Some (own (bytes_there image file (count_of image) page) (written_there image (count_of image) header to page)) else None) some

or_on : (c d : Bool) → d ≡ true → (c || d) ≡ true
or_on true d on = refl
or_on false d on = on

-- behind it, it is only read
read_there : (image : ImageRead) (header page : ℕ) → IsReadPage image header page →
    written_there image (count_of image) header (page + 1) page ≡ false
read_there image header page read =
    let unwritten = image_writes image (settling (count_of image) header (page + 1)) page ∙ read.unwritten in
    let under : nat_lt page (page + 1) ≡ true = grind (arith, nat_tests) in
    let settled : is_settled_page image (settling (count_of image) header (page + 1)) page ≡ true =
    or_on (some_below header (header_touches image page)) (header_touches image page header && nat_lt page (page + 1)) (λ i. read.touched i && under i) in
    (λ i. unwritten i || not (settled i))

-- and no other page is another
others_there : (b : Born) (image : ImageRead) (file : List ℕ) (header page p : ℕ) → p ≢ page →
    child_page b image (settling (count_of image) header page) file p ≡ child_page b image (settling (count_of image) header (page + 1)) file p
others_there b image file header page p other =
    page_same b image file (settling (count_of image) header page) (settling (count_of image) header (page + 1)) p refl refl refl refl
    (ap (λ (c : Bool). some_below header (header_touches image p) || (header_touches image p header && c))
    (let same : nat_lt p page ≡ nat_lt p (page + 1) = grind (arith, nat_tests, other) in same))

-- ---- an entry that is seen as a page of its own

pub record IsOwnEntry (s : SpacesState) (d p : ℕ) (bytes : List ℕ) : Type 0 where
  pub entry : Entry
  pub stands : rows_of s d p ≡ Some entry
  pub own_page : is_shared entry.perm ≡ false
  pub same : s.pages entry.frame ≡ bytes

pub own_entry : (names : Names) (s : SpacesState) (d p : ℕ) (bytes : List ℕ) (writes : Bool) → is_programs p ≡ true →
    page_seen names s d p ≡ Some (own bytes writes) → IsOwnEntry s d p bytes
own_entry names s d p bytes writes inside is = by_entry (rows_of s d p) refl
  where
    by_sharing : (e : Entry) → rows_of s d p ≡ Some e → (c : Bool) → is_shared e.perm ≡ c → IsOwnEntry s d p bytes
    by_sharing e at true shared_page =
        let contradiction : Some (named (names.name e.frame) (has_write e.perm)) ≡ Some (own bytes writes) =
        sym (seen_named names s d p e inside at shared_page) ∙ is in absurd cc
    by_sharing e at false own_page =
        let told : Some (own (s.pages e.frame) (may_write e.perm)) ≡ Some (own bytes writes) = sym (seen_own names s d p e inside at own_page) ∙ is in
        record { entry = e; stands = at; own_page = own_page; same = cc }

    by_entry : (o : Option Entry) → rows_of s d p ≡ o → IsOwnEntry s d p bytes
    by_entry None none = absurd (none-some (own bytes writes) (sym (seen_none names s d p none) ∙ is))
    by_entry (Some e) at = by_sharing e at (is_shared e.perm) refl

-- ---- the call

read_users : IsUsers readable_perm
read_users = record { page = refl; copied = λ cow. absurd (let contradiction : false ≡ true = cow in cc) }

module _ {names : Names} {s : KernelState} {a : AbstractState} (h : StandsFor names s a) (n path argv fd headers child header page end : ℕ)
    (stands : place_of (slot_at s n) ≡ spawns_at path argv (spawn.Finishing (finishing.RightsPage fd headers child header page end))) where
  abbrev from : SpawnStep
  from = spawn.Finishing (finishing.RightsPage fd headers child header page end)

  abbrev it : IsServed names s a n (service.Spawn path argv) (step.Spawning from)
  it = spawn_there h n path argv from stands

  abbrev b : Born
  b = it.b

  abbrev m : ℕ
  m = child % NENV

  abbrev home : ℕ
  home = (slot_at s n).directory

  abbrev d : ℕ
  d = (slot_at s m).directory

  abbrev pub v : IsSpawner names s a n path argv (spawn.Finishing (finishing.RightsPage fd headers child header page end)) child
      (spawn_there h n path argv (spawn.Finishing (finishing.RightsPage fd headers child header page end)) stands).b
  v = spawner h n path argv child from stands refl

  stood : FinishingStands (view_of s.spaces home) (slot_at s n) b path argv (finishing.RightsPage fd headers child header page end)
  stood = it.at

  abbrev count : ℕ
  count = entry_count_of (slice_index v.child.image.header)

  read : IsReadPage v.child.image header page
  read =
      let same = loads_same v.child.loads stood.0.has.found.is in
      subst (λ (image : ImageRead). IsReadPage image header page) (sym same.image_is) (page_reads stood.0 page end stood.1 stood.2)

  -- what stands there
  pub old : IsOwnEntry s.spaces (slot_at s (child % NENV)).directory page
      (page_bytes (segments_filled v.child.image (settling (entry_count_of (slice_index v.child.image.header)) 0 0)) v.child.file page)
  old =
      own_entry names s.spaces d page (bytes_there v.child.image v.child.file count page) (written_there v.child.image count header page page) read.inside
      (v.child.memory page read.inside ∙ ap (λ (before : Progress). child_page b v.child.image before v.child.file page) v.child.is_so
      ∙ placed_own b v.child.image v.child.file header page page read)

  abbrev pub over : Entry
  over = record { frame = old.entry.frame; perm = readable_perm }

  source : (e : Entry) × (s.spaces.entries d page ≡ Some e) × (lasting e ≡ old.entry)
  source = row_entry s.spaces d page old.entry old.stands

  gives : shared_entry (s.spaces.entries d page) readable_perm ≡ Some over
  gives =
      let e = source in
      let kept : shared_entry (Some e.0) readable_perm ≡ Some (record { frame = e.0.frame; perm = readable_perm }) = refl in
      ap (λ (o : Option Entry). shared_entry o readable_perm) e.1 ∙ kept ∙ ap (λ (x : Entry). Some (record { frame = x.frame; perm = readable_perm })) e.2

  -- what the call comes to
  pub sets_is : (va : ℕ) → is_page_address va ≡ true → page_number va ≡ page →
      system s n SYS_PAGE_MAP (child ∷ va ∷ child ∷ va ∷ readable_perm ∷ [])
      ≡ made_step s (inserted s.spaces (slot_at s (child % NENV)).directory page over)
  sets_is va address number =
      borne_map_own_is h n child b it.is (ap borne_in stands) va va readable_perm over address address
      (ap (λ (p : ℕ). shared_entry (s.spaces.entries d p) readable_perm) number ∙ gives)
      ∙ ap (λ (p : ℕ). made_step s (inserted s.spaces d p over)) number

  pub page_low : page < page_number FDTABLE
  page_low = read.low

  own_there : (x : Entry) → rows_of s.spaces d page ≡ Some x → is_shared x.perm ≡ false
  own_there x hx = ap (λ (e : Entry). is_shared e.perm) (same_Some x old.entry (sym hx ∙ old.stands)) ∙ old.own_page

  -- ---- the spaces behind it

  module _ {sp : SpacesState} (in_order : IsInOrder (with_spaces s sp))
      (is : inserted s.spaces (slot_at s (child % NENV)).directory page over ≡ Some sp) (last : s.last ≡ Some n) where
    given : Given s.spaces sp d page over
    given =
        inserted_given s.spaces sp d page over d page source.0 h.in_order.frames in_order.frames refl source.1
        (ap (λ (e : Entry). e.frame) source.2) is

    puts : PutsInChild s.spaces sp d page over
    puts = given_puts given

    kept : (j q : ℕ) (x : Entry) → Elsewhere j q (child % NENV) page → logical s.spaces s.environments.slots j q ≡ Some x →
        sp.pages x.frame ≡ s.spaces.pages x.frame
    kept = given_bytes h n path argv child from from stands refl page over puts own_there last

    parent_row : (p : ℕ) → rows_of sp home p ≡ rows_of s.spaces home p
    parent_row = giver_row h n path argv child from from stands refl page over puts own_there last

    then_stood : FinishingStands (view_of sp home) (slot_at s n) b path argv (finishing.RightsPage fd headers child header page end)
    then_stood = giver_stands h n path argv child from from stands refl page over puts own_there last

    child_row : (r : ℕ) → r ≢ page → rows_of sp d r ≡ rows_of s.spaces d r
    child_row r ne = puts.beside d r (λ same. ne)

    -- ---- the child

    abbrev mid : Progress
    mid = settling count header (page + 1)

    seen_there : page_seen names sp d page ≡ child_page b v.child.image mid v.child.file page
    seen_there =
        seen_own names sp d page over read.inside puts.there refl
        ∙ ap (λ (bytes : List ℕ). Some (own bytes false)) (given.same ∙ old.same)
        ∙ ap (λ (writes : Bool). Some (own (bytes_there v.child.image v.child.file count page) writes)) (sym (read_there v.child.image header page read))
        ∙ sym (placed_own b v.child.image v.child.file header (page + 1) page read)

    memory_so : (p : ℕ) → is_programs p ≡ true → page_seen names sp d p ≡ child_page b v.child.image mid v.child.file p
    memory_so p inside = by_page (p == page) refl
      where
        by_page : (c : Bool) → (p == page) ≡ c → page_seen names sp d p ≡ child_page b v.child.image mid v.child.file p
        by_page true test =
            let same : page ≡ p = grind (arith, nat_tests, test) in
            subst (λ (q : ℕ). page_seen names sp d q ≡ child_page b v.child.image mid v.child.file q) same seen_there
        by_page false test =
            let other : p ≢ page = grind (arith, nat_tests, test) in
            seen_at names names s.spaces sp d p (child_row p other) (λ x hx own_page. puts.bytes d p x (λ same. other) hx) (λ x hx shared_page. refl)
            ∙ v.child.memory p inside ∙ ap (λ (before : Progress). child_page b v.child.image before v.child.file p) v.child.is_so
            ∙ others_there b v.child.image v.child.file header page p other

    uncopied_so : (p : ℕ) (x : Entry) → is_programs p ≡ true → rows_of sp d p ≡ Some x → is_shared x.perm ≡ false → is_cow x.perm ≡ false
    uncopied_so p x inside at own_page = by_page (p == page) refl
      where
        by_page : (c : Bool) → (p == page) ≡ c → is_cow x.perm ≡ false
        by_page true test =
            let same : p ≡ page = grind (arith, nat_tests, test) in
            ap (λ (e : Entry). is_cow e.perm) (sym (same_Some over x (sym puts.there ∙ ap (rows_of sp d) (sym same) ∙ at)))
        by_page false test = v.child.uncopied p x inside (sym (child_row p (grind (arith, nat_tests, test))) ∙ at) own_page

    no_descriptor : (p : ℕ) → is_of_descriptor p ≡ true → p ≢ page
    no_descriptor p desc same =
        let contradiction : true ≡ false = sym desc ∙ ap is_of_descriptor same ∙ programs_no_descriptor page read.inside in cc

    table_is : (r : ℕ) → is_some (sp.regions d r) ≡ ((r == page / NPTENTRIES) || is_some (s.spaces.regions d r))
    table_is r =
        let here : (d == d) ≡ true = grind (arith, nat_tests) in
        given.placed.regions d r ∙ ap (λ (c : Bool). (c && (r == page / NPTENTRIES)) || is_some (s.spaces.regions d r)) here

    -- its region has its table
    table_there : is_some (s.spaces.regions d (page / NPTENTRIES)) ≡ true
    table_there = h.in_order.frames.regions d page source.0 source.1

    tables_so : (r : ℕ) → is_some (sp.regions d r) ≡ true →
        (has_page_in (child_page b v.child.image (passing count 0) v.child.file) r || is_library_region r) ≡ true
    tables_so r table = by_region (r == page / NPTENTRIES) refl (sym (table_is r) ∙ table)
      where
        by_region : (c : Bool) → (r == page / NPTENTRIES) ≡ c → (c || is_some (s.spaces.regions d r)) ≡ true →
            (has_page_in (child_page b v.child.image (passing count 0) v.child.file) r || is_library_region r) ≡ true
        by_region true test on =
            let same : page / NPTENTRIES ≡ r = grind (arith, nat_tests, test) in
            v.child.tables r (ap (λ (q : ℕ). is_some (s.spaces.regions d q)) (sym same) ∙ table_there)
        by_region false test on = v.child.tables r on

    has_rights : (to : SpawnStep) (after : Progress) → ((q : ℕ) → is_childs to q ≡ false) → IsProgress count to after →
        Alike b v.child.image v.child.file mid after →
        HasOfImage names sp (record (slot_at s n) { extra = spawn_words to }) b to (slot_at s (child % NENV)) child
    has_rights to after none_then is_so alike =
        let x = v.child in
        record {
          image = x.image;
          file = x.file;
          loads = x.loads;
          progress = after;
          is_so = is_so;
          registers = x.registers ∙ ap (λ (before : Progress). registers_of before.registers (slot_at s n).registers x.image) x.is_so
              ∙ ap (λ (c : Bool). registers_of c (slot_at s n).registers x.image) (sym alike.registers);
          upcall = x.upcall ∙ ap (λ (before : Progress). handler_of before.handler) x.is_so ∙ ap handler_of (sym alike.handler);
          memory = λ p inside. memory_so p inside ∙ alike.pages p;
          uncopied = uncopied_so;
          handed = λ p desc on.
              child_row p (no_descriptor p desc)
              ∙ x.handed p desc (ap (λ (before : Progress). nat_le before.passed p) x.is_so ∙ ap (λ (q : ℕ). nat_le q p) (sym alike.passed) ∙ on)
              ∙ sym (parent_row p);
          rest = λ p desc off.
              child_row p (no_descriptor p desc)
              ∙ x.rest p desc (ap (λ (before : Progress). nat_le before.passed p) x.is_so ∙ ap (λ (q : ℕ). nat_le q p) (sym alike.passed) ∙ off);
          handler_stack = λ on. absurd (false≢true (sym alike.handler_stack ∙ on));
          no_handler_stack = λ off.
              child_row (page_number UXSTACK) (λ same. (programs_beside page read.inside).1 (sym same))
              ∙ x.no_handler_stack (ap (λ (before : Progress). before.handler_stack) x.is_so);
          none = λ p outside no_desc other.
              child_row p (λ same. false≢true (sym outside ∙ ap is_programs same ∙ read.inside)) ∙ x.none p outside no_desc other;
          tables = tables_so;
          here = λ p childs. absurd (false≢true (sym (none_then p) ∙ childs));
        }

    -- ---- entries as they count

    counts : logical s.spaces s.environments.slots (child % NENV) page ≡ Some old.entry
    counts = spawned_counted h v page ∙ old.stands

    never_had : (c : Bool) → MayBeHad c page old.entry → ⊥
    never_had true both = (programs_beside page read.inside).2 both.0
    never_had false one = false≢true (sym (programs_no_descriptor page read.inside) ∙ one.descriptor)

    agrees : (j q : ℕ) (x : Entry) → Elsewhere j q (child % NENV) page → logical s.spaces s.environments.slots j q ≡ Some x →
        x.frame ≡ old.entry.frame → Agree x.perm readable_perm
    agrees j q x ne hx same =
        let agree = h.apart j q (child % NENV) page x old.entry ne hx counts same in
        record {
          shared = agree.shared ∙ old.own_page;
          read_only = λ own_page. let both = agree.read_only own_page in (both.0, refl);
        }

    row : PutsRow names names s.spaces.pages a.shared sp.pages a.shared (things_in s a) a.next_name a.next_name
        (logical s.spaces s.environments.slots) (child % NENV) page (Some over)
    row = record {
      bytes = λ j q x ne hx. kept j q x ne hx;
      agree = λ j q x e ne hx one same.
          subst (λ (y : Entry). Agree x.perm y.perm) (same_Some over e one)
          (agrees j q x ne hx (same ∙ ap (λ (y : Entry). y.frame) (sym (same_Some over e one))));
      user = λ e one. subst (λ (y : Entry). IsUsers y.perm) (same_Some over e one) read_users;
      whole = λ e one. subst (λ (y : Entry). IsPage (sp.pages y.frame)) (same_Some over e one)
          (subst (λ (bytes : List ℕ). IsPage bytes) (sym given.same) (h.whole (child % NENV) page old.entry counts));
      beside = λ q e y one at same.
          absurd (never_had (q == page_number REQUEST)
          ((rows_stand h).beside (child % NENV) page q old.entry y counts at (ap (λ (z : Entry). z.frame) (same_Some over e one) ∙ same)));
      named_new = λ e one shared_page.
          let contradiction : false ≡ true = ap (λ (y : Entry). is_shared y.perm) (same_Some over e one) ∙ shared_page in cc;
      named_old = λ j q x ne hx shared_page was. named_bytes (sym (kept j q x ne hx)) was;
    }

    -- ---- where it goes on

    abbrev image_then : ImageRead
    image_then = then_stood.0.has.image

    image_same : v.child.image ≡ then_stood.0.has.image
    image_same = let same = loads_same v.child.loads then_stood.0.has.found.is in same.image_is

    abbrev After : SpawnStep → Type 0
    After to = StandsFor names (with_extra (with_spaces s sp) n (spawn_words to)) a

    comes_on : (to : SpawnStep) (next_header to_page : ℕ) →
        ComesTo (view_of sp home) (slot_at s n) b path argv child (count_of image_then) (settling (count_of image_then) next_header to_page) to →
        Alike b image_then v.child.file (settling (count_of image_then) header (page + 1)) (settling (count_of image_then) next_header to_page) → After to
    comes_on to next_header to_page comes alike =
        let is_so = subst (λ (image : ImageRead). IsProgress (count_of image) to (settling (count_of image) next_header to_page)) (sym image_same) comes.is_so in
        let same_pages =
        subst (λ (image : ImageRead). Alike b image v.child.file (settling (count_of image) header (page + 1)) (settling (count_of image) next_header to_page))
        (sym image_same) alike in
        gives_child h n path argv child from to stands refl page over puts own_there last comes.bears (sym comes.held) comes.stands
        (has_rights to (settling count next_header to_page) comes.mine is_so same_pages) in_order
        (λ q. none_mine from refl refl q ∙ sym (comes.mine q)) row

    next_page : page + 1 < end → After (spawn.Finishing (finishing.RightsPage fd headers child header (page + 1) end))
    next_page more =
        let to : SpawnStep = spawn.Finishing (finishing.RightsPage fd headers child header (page + 1) end) in
        comes_on to header (page + 1)
        (record {
          held = refl;
          bears = refl;
          mine = none_mine to refl refl;
          told = refl;
          is_so = refl;
          stands = (
            record {
              has = bytes_told (spawn_words to) then_stood.0.has;
              whole = then_stood.0.whole;
              below = then_stood.0.below;
              so = then_stood.0.so;
            },
            more,
            (λ p further. then_stood.2 p (omega (arith, further))),
          );
        })
        (alike_same b image_then v.child.file (settling (count_of image_then) header (page + 1)))

    next_header_comes : end ≤ page + 1 → After (rights_from fd headers child (header + 1))
    next_header_comes past =
        comes_on (rights_from fd headers child (header + 1)) (header + 1) 0
        (rights_come then_stood.0.has then_stood.0.whole (header + 1) (let below = then_stood.0.below in omega (arith, below)))
        (rights_up_to b image_then v.child.file (count_of image_then) header (page + 1)
        (λ p touched unwritten. in_front p touched unwritten (nat_lt p (page + 1)) refl))
      where
        in_front : (p : ℕ) → header_touches image_then p header ≡ true → any_writes p (image_segments image_then) ≡ false → (c : Bool) →
            nat_lt p (page + 1) ≡ c → p < page + 1
        in_front p touched unwritten true test = grind (arith, nat_tests, test)
        in_front p touched unwritten false test =
            let further : page + 1 ≤ p = grind (arith, nat_tests, test) in
            let part = (touched_so image_then p header touched).2 in
            let none : any_writes p (segments_of (headers_in image_then.table) headers) ≡ false =
            ap (λ (q : ℕ). any_writes p (segments_of (headers_in image_then.table) q)) then_stood.0.whole.many ∙ unwritten in
            let under : nat_lt p end ≡ true = then_stood.2 p (omega (arith, further)) ∙ (λ i. part i && not (none i)) in
            let less : p < end = grind (arith, nat_tests, under) in
            absurd (omega (arith, past, further, less))

    -- the rights of the page are set
    pub rights_set : StandsFor names (with_extra (with_spaces s sp) n (spawn_words (rights_behind fd headers child header page end))) a
    rights_set = by_test (nat_lt (page + 1) end) refl
      where
        by_test : (c : Bool) → nat_lt (page + 1) end ≡ c →
            After (if c then spawn.Finishing (finishing.RightsPage fd headers child header (page + 1) end) else rights_from fd headers child (header + 1))
        by_test true test = next_page (grind (arith, nat_tests, test))
        by_test false test = next_header_comes (grind (arith, nat_tests, test))
