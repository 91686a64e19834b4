-- Spawn gives its child the page of the child's stack, which it has made ready: the page is the child's then, and stands in spawn's space until it is given back.
use Rattle.std.proofs.Common.{◌≡◌, ◌≢◌, ◌∙◌, ◌+◌, ◌-◌, ◌*◌, ◌/◌, ◌%◌, ◌<◌, ◌≤◌, ◌==◌, ◌&&◌, ◌||◌, ℕ, Bool, true, false, List, [], ◌∷◌, Option, Some, None, inl, inr}
use Rattle.std.proofs.Common.{is_some, length, min, take, drop, refl, sym, ap, subst, arith, if◌then◌else◌}
use Rattle.std.specs.Prelude.{max, nat_le, nat_lt, slice_index}
use Rattle.std.proofs.lemmas.Bool.{false≢true}
use Rattle.std.proofs.lemmas.Bool.Decides.{nat_tests}
use Rattle.std.proofs.lemmas.List.{ext_get_or, length-take}
use Rattle.std.proofs.lemmas.Option.{none-some, same_Some}
use Rattle.jos_base.specs.declared.numbers.TheConstants.{NENV, NPTENTRIES, PGSIZE, SYS_PAGE_MAP, USTACKTOP, UTEMP}
use Rattle.jos_base.specs.KernelState.{KernelState, slot_at, with_extra, with_spaces}
use Rattle.jos_base.specs.Reach.{Entry}
use Rattle.jos_base.specs.SpacesState.{SpacesState, inserted, overlaid, put, zero_page}
use Rattle.jos_base.specs.SystemCalls.{has_write, shared_entry}
use Rattle.jos_base.specs.Words.{page_number, upd}
use Rattle.jos_base.proofs.Puts.{Elsewhere, put-at, put-other}
use Rattle.jos_elf.specs.declared.image.Segment.{Segment}
use Rattle.jos_elf.specs.Headers.{entry_count_of}
use Rattle.jos_elf.specs.Pages.{file_part, laid, laid_all, page_bytes, stack_page}
use Rattle.jos_elf.specs.StackPage.{stack_contents}
use Rattle.jos_elf.specs.Started.{stack_segment}
use Rattle.lib_os.specs.declared.numbers.TheConstants.{REQUEST, SPAWN_HERE, SPAWN_STACK, UXSTACK}
use Rattle.lib_os.specs.declared.place.Place.{Place}
use Rattle.lib_os.specs.declared.place.Step.TheVariants as step
use Rattle.lib_os.specs.declared.service.Service.TheVariants as service
use Rattle.lib_os.specs.declared.spawn_steps.FinishingStep.TheVariants as finishing
use Rattle.lib_os.specs.declared.spawn_steps.SpawnStep.{SpawnStep}
use Rattle.lib_os.specs.declared.spawn_steps.SpawnStep.TheVariants as spawn
use Rattle.lib_os.specs.AbstractMemory.{has_page_in}
use Rattle.lib_os.specs.AbstractSpawn.{under_shared}
use Rattle.lib_os.specs.AbstractState.{AbstractState, Born, ImageRead, Page, own}
use Rattle.lib_os.specs.Fence.{in_fence}
use Rattle.lib_os.specs.InOrder.{IsInOrder}
use Rattle.lib_os.specs.LibraryPages.{IsOwnWritable, has_spawns, is_library_region}
use Rattle.lib_os.specs.Places.{place_of}
use Rattle.lib_os.specs.ProgramMemory.{stack_of}
use Rattle.lib_os.specs.Rows.{IsPage, IsUsers, MayBeHad, Names, Rows, counted, is_cow, is_of_descriptor, is_programs, is_shared, lasting, logical}
use Rattle.lib_os.specs.Rows.{page_seen, rows_of}
use Rattle.lib_os.specs.SpawnedChild.{IsHere, Progress, child_page, handler_of, image_page, no_page_passed, own_page, page_here, passing, registers_of, with_handler}
use Rattle.lib_os.specs.SpawnPages.{is_childs}
use Rattle.lib_os.specs.StandsAtSpawn.{HasStackFor}
use Rattle.lib_os.specs.StandsFor.{StandsFor, borne_in, things_in, view_of}
use Rattle.lib_os.specs.UserCalls.{system}
use Rattle.lib_os.proofs.Bearing.{of_slots}
use Rattle.lib_os.proofs.BorneCalls.{borne_map_is}
use Rattle.lib_os.proofs.Calls.{made_step}
use Rattle.lib_os.proofs.Effects.{Given}
use Rattle.lib_os.proofs.EntriesStand.{PutsRow, RowsStand, named_bytes, put_is, rows_put, rows_same, rows_stand, seen_at, seen_by, seen_own}
use Rattle.lib_os.proofs.EntryWords.{row_entry}
use Rattle.lib_os.proofs.PageBytes.{zero_page_whole}
use Rattle.lib_os.proofs.PagesPut.{overlaid_length}
use Rattle.lib_os.proofs.PageTaken.{working_perm}
use Rattle.lib_os.proofs.PassedOn.{given_with, or_true}
use Rattle.lib_os.proofs.Placing.{inserted_given}
use Rattle.lib_os.proofs.Puts.{put-found}
use Rattle.lib_os.proofs.Remapping.{lasting_write}
use Rattle.lib_os.proofs.Serving.{IsServed}
use Rattle.lib_os.proofs.SpawnedGoes.{HasOfImage, IsSpawner, spawner}
use Rattle.lib_os.proofs.SpawnedProgress.{loads_same}
use Rattle.lib_os.proofs.SpawnedMoves.{others_spawning, spawned_counted, spawned_counts, spawned_lives, spawner_counted, spawner_counts}
use Rattle.lib_os.proofs.SpawnGivesChild.{PutsInChild, given_bytes, giver_row, giver_stands, gives_by_rows}
use Rattle.lib_os.proofs.SpawnHandsOn.{given_puts}
use Rattle.lib_os.proofs.SpawnKeeps.{none_childs, stack_childs}
use Rattle.lib_os.proofs.SpawnOwnPages.{spawn_there, spawn_words, spawns_at}
use Rattle.lib_os.proofs.SpawnPagesTaken.{working_user}
use Rattle.lib_os.proofs.SpawnReadies.{all_bytes_with}

-- ---- the bytes of a page in which a segment lies

laid_long : (segment : Segment) (file bytes : List ℕ) (number : ℕ) → length bytes ≡ PGSIZE → length (laid segment file number bytes) ≡ PGSIZE
laid_long segment file bytes number long = by_test (nat_lt from to) refl
  where
    from : ℕ
    from = max segment.va (number * PGSIZE)

    to : ℕ
    to = min (segment.va + segment.file_len) ((number + 1) * PGSIZE)

    by_test : (c : Bool) → nat_lt from to ≡ c →
        length (if c then overlaid bytes (from - number * PGSIZE) (file_part segment file from to) else bytes) ≡ PGSIZE
    by_test false test = long
    by_test true test =
        let less : from < to = grind (arith, nat_tests, test) in
        let least : number * PGSIZE ≤ from = max_low segment.va (number * PGSIZE) in
        let most : to ≤ (number + 1) * PGSIZE = min_high (segment.va + segment.file_len) ((number + 1) * PGSIZE) in
        let part : length (file_part segment file from to) ≤ to - from = taken_few (to - from) (drop (segment.file_at + (from - segment.va)) file) in
        overlaid_length bytes (from - number * PGSIZE) (file_part segment file from to) (omega (arith, less, least, most, part, long)) ∙ long
      where
        max_low : (a b : ℕ) → b ≤ max a b
        max_low a b = omega arith

        min_high : (a b : ℕ) → min a b ≤ b
        min_high a b = omega arith

        taken_few : (count : ℕ) (l : List ℕ) → length (take count l) ≤ count
        taken_few count l = let taken = length-take count l in omega (arith, taken)

stack_bytes_long : (words : List (List ℕ)) → length (page_bytes (stack_segment words ∷ []) (stack_contents words) stack_page) ≡ PGSIZE
unfolding laid_all
stack_bytes_long words = laid_long (stack_segment words) (stack_contents words) zero_page stack_page zero_page_whole.long

abbrev pub given_number : ℕ
given_number = page_number SPAWN_STACK

-- a program may have the page of its stack
stack_inside : is_programs stack_page ≡ true
unfolding in_fence
stack_inside = refl

-- no page of the server's is had there
never_had : (c : Bool) (x : Entry) → MayBeHad c given_number x → ⊥
never_had true x had = let same : given_number ≡ page_number UTEMP = had.0 in omega (arith, same)
never_had false x had = let contradiction : false ≡ true = had.descriptor in cc

-- ---- the page

module _ {names : Names} {s : KernelState} {a : AbstractState} (h : StandsFor names s a) (n path argv fd child : ℕ)
    (stands : place_of (slot_at s n) ≡ spawns_at path argv (spawn.Finishing (finishing.GivingStack fd child))) where
  abbrev from : SpawnStep
  from = spawn.Finishing (finishing.GivingStack fd child)

  abbrev to : SpawnStep
  to = spawn.Finishing (finishing.ReleasingStack fd child)

  abbrev it : IsServed names s a n (service.Spawn path argv) (step.Spawning from)
  it = spawn_there h n path argv from stands

  abbrev b : Born
  b = it.b

  abbrev m : ℕ
  m = child % NENV

  abbrev home : ℕ
  home = (slot_at s n).directory

  abbrev d : ℕ
  d = (slot_at s m).directory

  v : IsSpawner names s a n path argv from child b
  v = spawner h n path argv child from stands refl

  abbrev stood : HasStackFor (view_of s.spaces home) (slot_at s n) b path argv fd child
  stood = it.at

  page : IsOwnWritable (rows_of s.spaces home) given_number
  page = it.own.library.spawns given_number (ap (λ (q : Place). has_spawns q (slot_at s n).extra given_number) stands)

  pub given_entry : Entry
  given_entry = record { frame = page.entry.frame; perm = working_perm }

  none_its : (p : ℕ) → is_childs from p ≡ false
  none_its p = none_childs (p == page_number SPAWN_HERE) (p == page_number SPAWN_STACK)

  its_own : (p : ℕ) → is_childs to p ≡ (p == page_number SPAWN_STACK)
  its_own p = stack_childs (p == page_number SPAWN_HERE) (p == page_number SPAWN_STACK)

  -- the parent's entry counts
  counts : logical s.spaces s.environments.slots n given_number ≡ Some page.entry
  unfolding counted
  counts =
      spawner_counted h v given_number ∙ ap (λ (c : Bool). if c then None else rows_of s.spaces home given_number) (none_its given_number) ∙ page.stands

  source : (e : Entry) × (s.spaces.entries home given_number ≡ Some e) × (lasting e ≡ page.entry)
  source = row_entry s.spaces home given_number page.entry page.stands

  gives : shared_entry (s.spaces.entries home given_number) working_perm ≡ Some given_entry
  unfolding given_entry
  gives =
      let e = source in
      ap (λ (o : Option Entry). shared_entry o working_perm) e.1
      ∙ given_with e.0 working_perm refl (λ on. lasting_write e.0.perm ∙ ap (λ (x : Entry). has_write x.perm) e.2 ∙ page.writes)
      ∙ ap (λ (x : Entry). let y : Entry = record { frame = x.frame; perm = working_perm } in Some y) e.2

  -- what the call comes to
  pub gives_is : system s n SYS_PAGE_MAP (0 ∷ SPAWN_STACK ∷ child ∷ (USTACKTOP - PGSIZE) ∷ working_perm ∷ [])
      ≡ made_step s (inserted s.spaces (slot_at s (child % NENV)).directory stack_page given_entry)
  gives_is = borne_map_is h n child b it.is (ap borne_in stands) SPAWN_STACK (USTACKTOP - PGSIZE) working_perm given_entry refl refl gives

  -- the child had none there
  had_none : page_seen names s.spaces d stack_page ≡ None
  had_none = v.child.memory stack_page stack_inside ∙ ap (λ (before : Progress). child_page b v.child.image before v.child.file stack_page) v.child.is_so

  own_there : (x : Entry) → rows_of s.spaces d stack_page ≡ Some x → is_shared x.perm ≡ false
  own_there x is = absurd (none-some _ (sym had_none ∙ seen_by names s.spaces d stack_page x stack_inside is))

  -- the bytes are those of the stack
  bytes_are : s.spaces.pages page.entry.frame ≡ page_bytes (stack_segment stood.has.image.words ∷ []) (stack_contents stood.has.image.words) stack_page
  bytes_are =
      let long = stack_bytes_long stood.has.image.words in
      let whole = (h.whole n given_number page.entry counts).long in
      let same : stood.stack.kept.entry ≡ page.entry = same_Some stood.stack.kept.entry page.entry (sym stood.stack.kept.stands ∙ page.stands) in
      ext_get_or 0 (s.spaces.pages page.entry.frame) (page_bytes (stack_segment stood.has.image.words ∷ []) (stack_contents stood.has.image.words) stack_page)
      (whole ∙ sym long)
      (λ i lt.
      let first : slice_index (s.spaces.pages page.entry.frame) i ≡ slice_index (s.spaces.pages stood.stack.kept.entry.frame) i =
      ap (λ (e : Entry). slice_index (s.spaces.pages e.frame) i) (sym same) in
      let from : i ≡ 0 + i = omega arith in
      let start : slice_index (s.spaces.pages stood.stack.kept.entry.frame) i ≡ slice_index (s.spaces.pages stood.stack.kept.entry.frame) (0 + i) =
      ap (slice_index (s.spaces.pages stood.stack.kept.entry.frame)) from in
      first ∙ start ∙ stood.stack.kept.same i (omega (arith, lt, whole, long)))

  module _ {sp : SpacesState} (in_order : IsInOrder (with_spaces s sp))
      (is : inserted s.spaces (slot_at s (child % NENV)).directory stack_page given_entry ≡ Some sp) (last : s.last ≡ Some n) where
    given : Given s.spaces sp d stack_page given_entry
    unfolding given_entry
    given =
        inserted_given s.spaces sp d stack_page given_entry home given_number source.0 h.in_order.frames in_order.frames refl source.1
        (ap (λ (e : Entry). e.frame) source.2) is

    puts : PutsInChild s.spaces sp d stack_page given_entry
    puts = given_puts given

    kept : (j q : ℕ) (x : Entry) → Elsewhere j q (child % NENV) stack_page → logical s.spaces s.environments.slots j q ≡ Some x →
        sp.pages x.frame ≡ s.spaces.pages x.frame
    kept = given_bytes h n path argv child from to stands refl stack_page given_entry puts own_there last

    parent_row : (p : ℕ) → rows_of sp home p ≡ rows_of s.spaces home p
    parent_row = giver_row h n path argv child from to stands refl stack_page given_entry puts own_there last

    child_row : (r : ℕ) → r ≢ stack_page → rows_of sp d r ≡ rows_of s.spaces d r
    child_row r ne = puts.beside d r (λ same. ne)

    -- ---- the child

    same_image : v.child.image.words ≡ stood.has.image.words
    same_image = ap (λ (image : ImageRead). image.words) (loads_same v.child.loads stood.has.found.is).image_is

    seen_there : page_seen names sp d stack_page ≡ Some (stack_of v.child.image.words)
    unfolding given_entry
    seen_there =
        seen_own names sp d stack_page given_entry stack_inside puts.there refl
        ∙ ap (λ (l : List ℕ). Some (own l true)) (given.same ∙ bytes_are)
        ∙ ap (λ (words : List (List ℕ)). Some (stack_of words)) (sym same_image)

    abbrev count : ℕ
    count = entry_count_of (slice_index v.child.image.header)

    memory_so : (p : ℕ) → is_programs p ≡ true → page_seen names sp d p ≡ child_page b v.child.image (passing count no_page_passed) v.child.file p
    memory_so p inside = by_page (p == stack_page) refl
      where
        whole_of : Bool → Option Page → Option Page
        whole_of c stack =
            if nat_le no_page_passed p then under_shared (b.memory p) (if c then stack else image_page v.child.image (with_handler count) v.child.file p)
            else (if c then stack else image_page v.child.image (with_handler count) v.child.file p)

        by_page : (c : Bool) → (p == stack_page) ≡ c → page_seen names sp d p ≡ child_page b v.child.image (passing count no_page_passed) v.child.file p
        by_page true test =
            let same : stack_page ≡ p = grind (arith, nat_tests, test) in
            subst (λ (q : ℕ). page_seen names sp d q ≡ child_page b v.child.image (passing count no_page_passed) v.child.file q) same seen_there
        by_page false test =
            let other : p ≢ stack_page = grind (arith, nat_tests, test) in
            seen_at names names s.spaces sp d p (child_row p other) (λ x hx own_page. puts.bytes d p x (λ same. other) hx) (λ x hx shared_page. refl)
            ∙ v.child.memory p inside ∙ ap (λ (before : Progress). child_page b v.child.image before v.child.file p) v.child.is_so
            ∙ ap (λ (c : Bool). whole_of c None) test ∙ sym (ap (λ (c : Bool). whole_of c (Some (stack_of v.child.image.words))) test)

    has_stack : HasOfImage names sp (record (slot_at s n) { extra = spawn_words to }) b to (slot_at s (child % NENV)) child
    unfolding given_entry
    has_stack =
        let x = v.child in
        record {
          image = x.image;
          file = x.file;
          loads = x.loads;
          progress = passing (entry_count_of (slice_index x.image.header)) no_page_passed;
          is_so = refl;
          registers = x.registers ∙ ap (λ (before : Progress). registers_of before.registers (slot_at s n).registers x.image) x.is_so;
          upcall = x.upcall ∙ ap (λ (before : Progress). handler_of before.handler) x.is_so;
          memory = memory_so;
          uncopied = uncopied_so;
          handed = λ p desc on.
              child_row p (λ same. absurd (false≢true (ap is_of_descriptor (sym same) ∙ desc)))
              ∙ x.handed p desc (ap (λ (before : Progress). nat_le before.passed p) x.is_so ∙ on) ∙ sym (parent_row p);
          rest = λ p desc off.
              child_row p (λ same. absurd (false≢true (ap is_of_descriptor (sym same) ∙ desc)))
              ∙ x.rest p desc (ap (λ (before : Progress). nat_le before.passed p) x.is_so ∙ off);
          handler_stack = λ on. stack_still (x.handler_stack (ap (λ (before : Progress). before.handler_stack) x.is_so));
          no_handler_stack = λ off. absurd (false≢true (sym off));
          none = λ p outside no_desc other.
              child_row p (λ same. absurd (false≢true (sym outside ∙ ap is_programs same ∙ stack_inside))) ∙ x.none p outside no_desc other;
          tables = tables_so;
          here = λ p childs. here_so p (sym (its_own p) ∙ childs);
        }
      where
        stack_still : IsOwnWritable (rows_of s.spaces d) (page_number UXSTACK) → IsOwnWritable (rows_of sp d) (page_number UXSTACK)
        stack_still has = record {
          entry = has.entry;
          stands = child_row (page_number UXSTACK) (λ same. let too : page_number UXSTACK ≡ stack_page = same in omega (arith, too)) ∙ has.stands;
          own_page = has.own_page;
          writes = has.writes;
        }

        uncopied_so : (p : ℕ) (x : Entry) → is_programs p ≡ true → rows_of sp d p ≡ Some x → is_shared x.perm ≡ false → is_cow x.perm ≡ false
        uncopied_so p x inside at own_page = by_page (p == stack_page) refl
          where
            by_page : (c : Bool) → (p == stack_page) ≡ c → is_cow x.perm ≡ false
            by_page true test =
                let same : p ≡ stack_page = grind (arith, nat_tests, test) in
                let one : given_entry ≡ x = same_Some given_entry x (sym puts.there ∙ ap (rows_of sp d) (sym same) ∙ at) in
                ap (λ (e : Entry). is_cow e.perm) (sym one)
            by_page false test = v.child.uncopied p x inside (sym (child_row p (grind (arith, nat_tests, test))) ∙ at) own_page

        tables_so : (r : ℕ) → is_some (sp.regions d r) ≡ true →
            (has_page_in (child_page b v.child.image (passing (entry_count_of (slice_index v.child.image.header)) 0) v.child.file) r || is_library_region r) ≡ true
        tables_so r table = by_region (r == stack_page / NPTENTRIES) refl (sym table_is ∙ table)
          where
            here_is : (d == d) ≡ true
            here_is = grind (arith, nat_tests)

            table_is : is_some (sp.regions d r) ≡ ((r == stack_page / NPTENTRIES) || is_some (s.spaces.regions d r))
            table_is = given.placed.regions d r ∙ ap (λ (c : Bool). (c && (r == stack_page / NPTENTRIES)) || is_some (s.spaces.regions d r)) here_is

            by_region : (c : Bool) → (r == stack_page / NPTENTRIES) ≡ c → (c || is_some (s.spaces.regions d r)) ≡ true →
                (has_page_in (child_page b v.child.image (passing (entry_count_of (slice_index v.child.image.header)) 0) v.child.file) r
                || is_library_region r) ≡ true
            by_region true test on =
                let same : stack_page / NPTENTRIES ≡ r = grind (arith, nat_tests, test) in
                or_true _ (is_library_region r) (ap is_library_region (sym same))
            by_region false test on = v.child.tables r on

        here_so : (p : ℕ) → (p == page_number SPAWN_STACK) ≡ true → IsHere (rows_of sp home) (rows_of sp d) p (page_here to)
        here_so p test =
            let same : p ≡ given_number = grind (arith, nat_tests, test) in
            record {
              place = stack_page;
              is_told = λ q told. same_Some stack_page q told;
              programs = stack_inside;
              here = page.entry;
              there = given_entry;
              here_is = ap (rows_of sp home) same ∙ parent_row given_number ∙ page.stands;
              there_is = puts.there;
              own_page = refl;
              user = (h.users n given_number page.entry counts).page;
              same = refl;
            }

    -- ---- entries as they count: the page is the child's, and the parent's no more

    abbrev before : Rows
    before = logical s.spaces s.environments.slots

    abbrev left : Rows
    left = put before n given_number None

    abbrev behind : Rows
    behind = logical sp (upd s.environments.slots n (record (slot_at s n) { extra = spawn_words to }))

    rows_left : RowsStand names s.spaces.pages a.shared (things_in s a) a.next_name left
    rows_left =
        rows_put (rows_stand h) (record {
          bytes = λ j q x ne hx. refl;
          agree = λ j q x e ne hx is_some same. absurd (none-some e is_some);
          user = λ e is_some. absurd (none-some e is_some);
          whole = λ e is_some. absurd (none-some e is_some);
          beside = λ q e y is_some there. absurd (none-some e is_some);
          named_new = λ e is_some. absurd (none-some e is_some);
          named_old = λ j q x ne hx shared_page was. was;
        })

    -- what counts still stands elsewhere
    still : (j q : ℕ) (x : Entry) → left j q ≡ Some x → (Elsewhere j q n given_number) × (before j q ≡ Some x)
    still j q x hx = elim (put-found before n given_number None j q x hx) [
      | inl here ↦ absurd (none-some x here.2)
      | inr there ↦ (there.0, there.1)
    ]

    row : PutsRow names names s.spaces.pages a.shared sp.pages a.shared (things_in s a) a.next_name a.next_name left (child % NENV) stack_page (Some given_entry)
    unfolding given_entry
    row = record {
      bytes = λ j q x ne hx. kept j q x ne (still j q x hx).1;
      agree = λ j q x e ne hx is_some same.
          let there = still j q x hx in
          let agree = h.apart j q n given_number x page.entry there.0 there.1 counts (same ∙ ap (λ (y : Entry). y.frame) (sym (same_Some given_entry e is_some))) in
          let written = (agree.read_only (agree.shared ∙ page.own_page)).1 in
          absurd (false≢true (sym written ∙ page.writes));
      user = λ e is_some. subst (λ (y : Entry). IsUsers y.perm) (same_Some given_entry e is_some) working_user;
      whole = λ e is_some. subst (λ (y : Entry). IsPage (sp.pages y.frame)) (same_Some given_entry e is_some)
          (subst (λ (l : List ℕ). IsPage l) (sym given.same) (h.whole n given_number page.entry counts));
      beside = λ q e y is_some at same.
          absurd (never_had (q == page_number REQUEST) page.entry
          (h.beside n given_number q page.entry y counts at (ap (λ (x : Entry). x.frame) (same_Some given_entry e is_some) ∙ same)));
      named_new = λ e is_some shared_page.
          let contradiction : false ≡ true = ap (λ (y : Entry). is_shared y.perm) (same_Some given_entry e is_some) ∙ shared_page in cc;
      named_old = λ j q x ne hx shared_page was. named_bytes (sym (kept j q x ne (still j q x hx).1)) was;
    }

    own_counts : (r : ℕ) → behind n r ≡ left n r
    unfolding counted
    own_counts r = by_page (r == page_number SPAWN_STACK) refl
      where
        by_page : (c : Bool) → (r == page_number SPAWN_STACK) ≡ c → behind n r ≡ left n r
        by_page true test =
            let same : given_number ≡ r = grind (arith, nat_tests, test) in
            spawner_counts h v sp to r
            ∙ ap (λ (c : Bool). if c then None else rows_of sp home r) (its_own r ∙ test)
            ∙ subst (λ (q : ℕ). None ≡ left n q) same (sym (put-at before n given_number None))
        by_page false test =
            let other : r ≢ given_number = grind (arith, nat_tests, test) in
            spawner_counts h v sp to r
            ∙ ap (λ (c : Bool). if c then None else rows_of sp home r) (its_own r ∙ test)
            ∙ parent_row r
            ∙ sym (spawner_counted h v r ∙ ap (λ (c : Bool). if c then None else rows_of s.spaces home r) (none_its r))
            ∙ sym (put-other before n given_number None n r (λ same. other))

    counts_put : (j r : ℕ) → behind j r ≡ put left (child % NENV) stack_page (Some given_entry) j r
    counts_put = put_is left behind m stack_page (Some given_entry) (spawned_counts h v sp to stack_page ∙ puts.there) there
      where
        there : (j r : ℕ) → Elsewhere j r m stack_page → behind j r ≡ left j r
        there =
            of_slots n m (λ j. (r : ℕ) → Elsewhere j r m stack_page → behind j r ≡ left j r)
            (λ r ne. own_counts r)
            (λ r ne. spawned_counts h v sp to r ∙ child_row r (ne refl) ∙ sym (spawned_counted h v r)
            ∙ sym (put-other before n given_number None m r (λ same. absurd (v.apart same))))
            (λ j other apart r ne.
            others_spawning h v sp to j other
            (λ live. rows_alike j (λ same. apart (h.in_order.spaces.apart j m live (spawned_lives h v) same))) r
            ∙ sym (put-other before n given_number None j r (λ same. absurd (other same))))
          where
            rows_alike : (j : ℕ) → (slot_at s j).directory ≢ d → rows_of sp (slot_at s j).directory ≡ rows_of s.spaces (slot_at s j).directory
            rows_alike j ne i r = puts.beside (slot_at s j).directory r (λ same too. ne same) i

    pub stack_given_stands : StandsFor names (with_extra (with_spaces s sp) n (spawn_words (spawn.Finishing (finishing.ReleasingStack fd child)))) a
    stack_given_stands =
        gives_by_rows h n path argv child from to stands refl stack_page given_entry puts own_there last refl refl
        (all_bytes_with (spawn_words to) (giver_stands h n path argv child from to stands refl stack_page given_entry puts own_there last).has)
        has_stack in_order
        (rows_same (put left (child % NENV) stack_page (Some given_entry)) behind counts_put (rows_put rows_left row))
