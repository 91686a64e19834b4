-- Spawn that bears a child maps a page of the child's own at a place of its own, too, where perhaps another one of the child's stood before. What stands there
-- counts as the child's alone, so that nothing of it is seen, and the child has what it had.
use Rattle.std.proofs.Common.{◌≡◌, ◌≢◌, ◌∙◌, ◌==◌, ◌/◌, ◌%◌, ◌&&◌, ◌||◌, ℕ, Bool, true, false, List, [], ◌∷◌, Option, Some, None, is_some, refl, sym, ap, subst}
use Rattle.std.proofs.Common.{arith, if◌then◌else◌}
use Rattle.std.specs.Option.{option_map}
use Rattle.std.specs.Prelude.{slice_index}
use Rattle.std.proofs.lemmas.Bool.{eqb-false, eqb-true, false≢true}
use Rattle.std.proofs.lemmas.Bool.Decides.{nat_tests}
use Rattle.std.proofs.lemmas.Option.{none-some, same_Some}
use Rattle.jos_base.specs.declared.called.Called.{Called}
use Rattle.jos_base.specs.declared.called.Called.TheVariants.{Answered}
use Rattle.jos_base.specs.declared.numbers.TheConstants.{NENV, NPTENTRIES, SYS_PAGE_MAP}
use Rattle.jos_base.specs.declared.registers.Regs.{Regs}
use Rattle.jos_base.specs.Environments.{Environments, Slot, found}
use Rattle.jos_base.specs.KernelState.{KernelState, slot_at, with_extra, with_registers, with_spaces}
use Rattle.jos_base.specs.Reach.{Entry}
use Rattle.jos_base.specs.SpacesState.{SpacesState, inserted, mapped}
use Rattle.jos_base.specs.SystemCalls.{answered_with, call_of, entry_at, has_write, inserted_at, is_page_address, shared_entry}
use Rattle.jos_base.specs.Words.{page_number, upd}
use Rattle.jos_base.proofs.Puts.{Elsewhere}
use Rattle.jos_elf.specs.Headers.{entry_count_of}
use Rattle.lib_os.specs.declared.numbers.TheConstants.{SERVICE_SPAWN, UXSTACK}
use Rattle.lib_os.specs.declared.place.Place.{Place}
use Rattle.lib_os.specs.declared.place.Place.TheVariants as place
use Rattle.lib_os.specs.declared.place.Step.TheVariants as step
use Rattle.lib_os.specs.declared.service.Service.{Service}
use Rattle.lib_os.specs.declared.service.Service.TheVariants as service
use Rattle.lib_os.specs.declared.spawn_steps.SpawnStep.{SpawnStep}
use Rattle.lib_os.specs.AbstractState.{AbstractState, Born, Page, born, named, own}
use Rattle.lib_os.specs.InOrder.{IsInOrder}
use Rattle.lib_os.specs.LibraryPages.{IsOwnWritable, LibraryPages, has_spawns, has_working}
use Rattle.lib_os.specs.PipeEnds.{is_made}
use Rattle.lib_os.specs.Places.{place_of}
use Rattle.lib_os.specs.Rows.{EntryRow, Names, Rows, counted, is_of_descriptor, is_pipe_page, is_programs, is_shared, logical, may_write}
use Rattle.lib_os.specs.Rows.{own_perm, page_by, page_seen, rows_of, seen_where}
use Rattle.lib_os.specs.SpawnedChild.{IsHere, IsProgress, Progress, page_here, spawning_child}
use Rattle.lib_os.specs.SpawnPages.{is_childs, keeps_page_at, keeps_request_page}
use Rattle.lib_os.specs.StandsAtSpawn.{StandsAtSpawn}
use Rattle.lib_os.specs.StandsFor.{StandsAt, StandsFor, StandsForBorn, borne_in, seen_unless, view_of}
use Rattle.lib_os.specs.UserCalls.{CallStep, asking, giving, system}
use Rattle.lib_os.proofs.Bearing.{of_slots}
use Rattle.lib_os.proofs.BearsOn.{borne_apart}
use Rattle.lib_os.proofs.BorneCalls.{borne_found}
use Rattle.lib_os.proofs.Calls.{caller_is, made_is, made_step, system_is}
use Rattle.lib_os.proofs.Effects.{Given}
use Rattle.lib_os.proofs.EntriesStand.{rows_bytes, rows_same, rows_stand}
use Rattle.lib_os.proofs.EntryWords.{row_entry}
use Rattle.lib_os.proofs.KeptPages.{LiesAside}
use Rattle.lib_os.proofs.Numbered.{named_at}
use Rattle.lib_os.proofs.PagesStand.{Puts, bytes_elsewhere, other_regions, others_seen, row_elsewhere}
use Rattle.lib_os.proofs.PipesStand.{descriptors_turned, is_calm}
use Rattle.lib_os.proofs.Placing.{inserted_given}
use Rattle.lib_os.proofs.Remapping.{given_on, inserted_already, lasting_write}
use Rattle.lib_os.proofs.Serving.{IsServed, plain_upcall}
use Rattle.lib_os.proofs.Slots.{slot_kept}
use Rattle.lib_os.proofs.SlotsStand.{SeenAlike, born_at, born_live, but_pipes, seen_but_pipes}
use Rattle.lib_os.proofs.SpawnedGoes.{HasOfImage, IsSpawner, spawner}
use Rattle.lib_os.proofs.SpawnedMoves.{others_spawning, spawned_counted, spawned_counts, spawner_apart, spawner_counted, spawner_counts}
use Rattle.lib_os.proofs.SpawnedMoves.{spawning_moves}
use Rattle.lib_os.proofs.SpawnOwnPages.{spawn_there, spawn_words, spawns_at}
use Rattle.lib_os.proofs.SpawnPagesTaken.{IsBesidePage}
use Rattle.lib_os.proofs.SpawnTakesPages.{aside_beside, aside_here, descriptors_kept, memory_kept, pages_kept_aside}
use Rattle.lib_os.proofs.StatesStand.{others_counts}
use Rattle.lib_os.proofs.WordsTell.{is_in_handler, place_at}

-- ---- the call

-- the caller itself
self_found : (e : Environments) (caller : ℕ) → found e 0 caller true ≡ Some caller
unfolding found
self_found e caller = refl

module _ {names : Names} {s : KernelState} {a : AbstractState} (h : StandsFor names s a) (n id : ℕ) (b : Born) (is : a.slots n ≡ born b)
    (bears : borne_in (place_of (slot_at s n)) ≡ Some id) (from to perm : ℕ) (e : Entry) (from_address : is_page_address from ≡ true)
    (to_address : is_page_address to ≡ true) where
  abbrev m : ℕ
  m = id % NENV

  kept : (q : Regs) → slot_at (with_registers s n q) m ≡ slot_at s m
  kept q = slot_kept s n (record (slot_at s n) { registers = q }) m (borne_apart h n id b is bears)

  -- page_map(id, from, 0, to, perm), by the entry that is given on
  pub borne_map_here_is : shared_entry (entry_at s (id % NENV) from) perm ≡ Some e →
      system s n SYS_PAGE_MAP (id ∷ from ∷ 0 ∷ to ∷ perm ∷ []) ≡ made_step s (inserted_at s n to e)
  unfolding call_of
  borne_map_here_is given =
      let args : List ℕ = id ∷ from ∷ 0 ∷ to ∷ perm ∷ [] in
      let q : Regs = asking (slot_at s n).registers SYS_PAGE_MAP args in
      let k : KernelState = with_registers s n q in
      let gives : shared_entry (entry_at k m from) perm ≡ Some e =
      (λ i. shared_entry (s.spaces.entries (kept q i).directory (page_number from)) perm) ∙ given in
      system_is s n SYS_PAGE_MAP args (answered_with k n (inserted_at k n to e)) refl
      (rw (borne_found h n id b is bears q, self_found k.environments n, from_address, to_address, gives) refl)
      ∙ made_is s n (born_live (born_at h n b is)) q (inserted_at k n to e)
      ∙ (λ i. made_step s (inserted s.spaces (caller_is s n q i).directory (page_number to) e))

-- ---- the entry of a page that is seen as one's own

pub record IsOwnEntry (s : SpacesState) (d p : ℕ) (bytes : List ℕ) (writes : Bool) : Type 0 where
  pub entry : Entry
  pub stands : rows_of s d p ≡ Some entry
  pub own_page : is_shared entry.perm ≡ false
  pub bytes_are : s.pages entry.frame ≡ bytes
  pub writes_are : may_write entry.perm ≡ writes

pub own_entry : (names : Names) (s : SpacesState) (d p : ℕ) (bytes : List ℕ) (writes : Bool) → is_programs p ≡ true →
    page_seen names s d p ≡ Some (own bytes writes) → IsOwnEntry s d p bytes writes
own_entry names s d p bytes writes inside seen =
    by_entry (rows_of s d p) refl
    (sym (ap (λ (c : Bool). seen_where c (option_map (page_by names s.pages) (rows_of s d p))) inside) ∙ seen)
  where
    by_shared : (e : Entry) → rows_of s d p ≡ Some e → (c : Bool) → is_shared e.perm ≡ c →
        ◌≡◌ {A = Option Page} (Some (if c then named (names.name e.frame) (has_write e.perm) else own (s.pages e.frame) (may_write e.perm)))
        (Some (own bytes writes)) → IsOwnEntry s d p bytes writes
    by_shared e is true shared_page same = absurd cc
    by_shared e is false own_page same = record { entry = e; stands = is; own_page = own_page; bytes_are = cc; writes_are = cc }

    by_entry : (o : Option Entry) → rows_of s d p ≡ o → option_map (page_by names s.pages) o ≡ Some (own bytes writes) → IsOwnEntry s d p bytes writes
    by_entry (Some e) is same = by_shared e is (is_shared e.perm) refl same
    by_entry None is same = absurd (none-some (own bytes writes) same)

-- ---- the page is mapped

module _ {names : Names} {s : KernelState} {a : AbstractState} {sp : SpacesState} (h : StandsFor names s a) (n path argv id : ℕ) (from to : SpawnStep)
    (stands : place_of (slot_at s n) ≡ spawns_at path argv from) (bears : spawning_child from ≡ Some id) (bears_after : spawning_child to ≡ Some id)
    (p : ℕ) (aside : LiesAside p) (requests : keeps_request_page from ≡ keeps_request_page to)
    (same_pages : (q : ℕ) → q ≢ p → keeps_page_at from q ≡ keeps_page_at to q) (keeps : keeps_page_at to p ≡ true)
    (childs_before : (q : ℕ) → q ≢ p → is_childs from q ≡ false) (childs_after : (q : ℕ) → q ≢ p → is_childs to q ≡ false)
    (counted_before : is_childs from p ≡ keeps_page_at from p) (counted_after : is_childs to p ≡ true)
    (place_there : ℕ) (inside : is_programs place_there ≡ true) (told : (q : ℕ) → page_here to ≡ Some q → place_there ≡ q) (there : Entry)
    (there_is : rows_of s.spaces (slot_at s (id % NENV)).directory place_there ≡ Some there) (own_there : is_shared there.perm ≡ false)
    (given : Given s.spaces sp (slot_at s n).directory p (record { frame = there.frame; perm = own_perm }))
    (table : is_some (s.spaces.regions (slot_at s n).directory (p / NPTENTRIES)) ≡ true)
    (progress_same : (m : ℕ) (progress : Progress) → IsProgress m from progress → IsProgress m to progress)
    (last : s.last ≡ Some n) (order : IsInOrder (with_spaces s sp)) where
  abbrev it : IsServed names s a n (service.Spawn path argv) (step.Spawning from)
  it = spawn_there h n path argv from stands

  abbrev b : Born
  b = it.b

  abbrev home : ℕ
  home = (slot_at s n).directory

  abbrev child : Slot
  child = slot_at s (id % NENV)

  abbrev moved : Slot
  moved = record (slot_at s n) { extra = spawn_words to }

  abbrev over : Entry
  over = record { frame = there.frame; perm = own_perm }

  v : IsSpawner names s a n path argv from id b
  v = spawner h n path argv id from stands bears

  now_at : place_of moved ≡ spawns_at path argv to
  now_at =
      place_at (slot_at s n).registers SERVICE_SPAWN (step.Spawning to) it.outside
      ∙ ap (λ (x : Service). place.InService x (step.Spawning to)) (named_at (slot_at s n) (service.Spawn path argv) (step.Spawning from) stands)

  puts : Puts names names s.spaces sp home p (Some over)
  puts = record {
    rows = given.placed.rows;
    bytes = λ q r x ne hx. by_frame q r x ne hx (x.frame == there.frame) refl;
    named_so = λ q r x hx shared_page. refl;
    regions = λ q r ne. other_regions given.placed q r ne;
  }
    where
      by_frame : (q r : ℕ) (x : Entry) → Elsewhere q r home p → rows_of s.spaces q r ≡ Some x → (c : Bool) → (x.frame == there.frame) ≡ c →
          sp.pages x.frame ≡ s.spaces.pages x.frame
      by_frame q r x ne hx true test =
          subst (λ (f : ℕ). sp.pages f ≡ s.spaces.pages f) (sym (eqb-true x.frame there.frame test)) given.same
      by_frame q r x ne hx false test =
          given.placed.bytes q r x (row_elsewhere given.placed q r ne ∙ hx) (eqb-false x.frame there.frame test)

  others : (q : ℕ) → q ≢ home → SeenAlike names names s.spaces sp q
  others = others_seen h n b it.is puts

  row_beside : (q : ℕ) → q ≢ p → rows_of sp home q ≡ rows_of s.spaces home q
  row_beside = aside_beside aside puts

  table_is : (r : ℕ) → is_some (sp.regions home r) ≡ is_some (s.spaces.regions home r)
  table_is r =
      given.placed.regions home r
      ∙ ap (λ (c : Bool). (c && (r == p / NPTENTRIES)) || is_some (s.spaces.regions home r)) here
      ∙ by_region (r == p / NPTENTRIES) refl
    where
      here : (home == home) ≡ true
      here = grind (arith, nat_tests)

      by_region : (c : Bool) → (r == p / NPTENTRIES) ≡ c → (c || is_some (s.spaces.regions home r)) ≡ is_some (s.spaces.regions home r)
      by_region true test = sym (ap (λ (q : ℕ). is_some (s.spaces.regions home q)) (eqb-true r (p / NPTENTRIES) test) ∙ table)
      by_region false test = refl

  mapped_beside : IsBesidePage (view_of s.spaces (slot_at s n).directory) (view_of sp (slot_at s n).directory) p
  mapped_beside = record {
    rows = row_beside;
    bytes = λ q x ne hx. puts.bytes home q x (λ same. ne) hx;
    tables = λ r has. table_is r ∙ has;
  }

  -- ---- its own part

  had : LibraryPages (spawns_at path argv from) (slot_at s n).extra (rows_of s.spaces home)
  had = subst (λ (q : Place). LibraryPages q (slot_at s n).extra (rows_of s.spaces home)) stands it.own.library

  part : StandsAtSpawn (view_of sp home) moved b path argv to → StandsForBorn names sp moved b
  part so =
      let own_part = it.own in
      let plain : is_in_handler (place_of (slot_at s n)) ≡ false = ap is_in_handler stands in
      let plain_after : is_in_handler (place_of moved) ≡ false = ap is_in_handler now_at in
      record {
        id = own_part.id;
        id_small = own_part.id_small;
        parent = own_part.parent;
        env_type = own_part.env_type;
        runs = own_part.runs;
        upcall = own_part.upcall ∙ plain_upcall (place_of (slot_at s n)) plain ∙ sym (plain_upcall (place_of moved) plain_after);
        descriptors = λ fd still.
            descriptors_turned names s.spaces home (place_of (slot_at s n)) (place_of moved) b.descriptors (ap is_calm stands) (ap is_calm now_at)
            own_part.descriptors fd still
            ∙ ap (seen_unless (is_made (place_of moved) fd)) (sym (descriptors_kept aside puts fd));
        memory = λ q. own_part.memory q ∙ sym (memory_kept aside puts q);
        library = pages_kept_aside aside puts (place_of (slot_at s n)) (place_of moved) (slot_at s n).extra (spawn_words to) plain plain_after
            (ap (λ (q : Place). has_working q (slot_at s n).extra) stands ∙ requests
            ∙ sym (ap (λ (q : Place). has_working q (spawn_words to)) now_at))
            (λ q other. ap (λ (w : Place). has_spawns w (slot_at s n).extra q) stands ∙ same_pages q other
            ∙ sym (ap (λ (w : Place). has_spawns w (spawn_words to) q) now_at))
            (λ is. record { entry = over; stands = aside_here aside puts; own_page = refl; writes = refl })
            (λ is. absurd (false≢true (sym is ∙ ap (λ (w : Place). has_spawns w (spawn_words to) p) now_at ∙ keeps))) own_part.library;
        regions_have = λ r is. table_is r ∙ own_part.regions_have r is;
        regions_only = λ r is. own_part.regions_only r (sym (table_is r) ∙ is);
        stack = own_part.stack;
        flags = own_part.flags;
        at = subst (λ (q : Place). StandsAt q (view_of sp home) moved b) (sym now_at) so;
      }

  -- ---- the child has what it had

  child_seen : SeenAlike names names s.spaces sp child.directory
  child_seen = others child.directory (λ same. spawner_apart h v (sym same))

  child_row : (q : ℕ) → rows_of sp child.directory q ≡ rows_of s.spaces child.directory q
  child_row q = ap (λ (r : EntryRow). r q) child_seen.rows

  stands_here : (q : ℕ) → is_childs to q ≡ true → (c : Bool) → (q == p) ≡ c → IsHere (rows_of sp home) (rows_of sp child.directory) q (page_here to)
  stands_here q is true test =
      subst (λ (r : ℕ). IsHere (rows_of sp home) (rows_of sp child.directory) r (page_here to)) (sym (eqb-true q p test)) (record {
        place = place_there;
        is_told = told;
        programs = inside;
        here = over;
        there = there;
        here_is = aside_here aside puts;
        there_is = child_row place_there ∙ there_is;
        own_page = own_there;
        user = refl;
        same = refl;
      })
  stands_here q is false test = absurd (false≢true (sym (childs_after q (eqb-false q p test)) ∙ is))

  has_still : HasOfImage names sp moved b to child id
  has_still =
      let x = v.child in
      record {
        image = x.image;
        file = x.file;
        loads = x.loads;
        progress = x.progress;
        is_so = progress_same (entry_count_of (slice_index x.image.header)) x.progress x.is_so;
        registers = x.registers;
        upcall = x.upcall;
        memory = λ q within. seen_but_pipes (but_pipes child_seen) q ∙ x.memory q within;
        uncopied = λ q e within is own_one. x.uncopied q e within (sym (child_row q) ∙ is) own_one;
        handed = λ q is on.
            child_row q ∙ x.handed q is on
            ∙ sym (row_beside q (λ same. let contradiction : true ≡ false = sym is ∙ ap is_of_descriptor same ∙ aside.no_descriptor in cc));
        rest = λ q is off. child_row q ∙ x.rest q is off;
        handler_stack = λ on. subst (λ (r : EntryRow). IsOwnWritable r (page_number UXSTACK)) (sym child_seen.rows) (x.handler_stack on);
        no_handler_stack = λ off. child_row (page_number UXSTACK) ∙ x.no_handler_stack off;
        none = λ q off no_desc other. child_row q ∙ x.none q off no_desc other;
        tables = λ r has. x.tables r (sym (child_seen.regions r) ∙ has);
        here = λ q is. stands_here q is (q == p) refl;
      }

  -- ---- how entries count

  abbrev before : Rows
  before = logical s.spaces s.environments.slots

  abbrev behind : Rows
  behind = logical sp (upd s.environments.slots n moved)

  -- what stood there counted as none of its own, if anything stood there
  none_before : before n p ≡ None
  unfolding counted
  none_before = spawner_counted h v p ∙ by_kept (is_childs from p) refl
    where
      by_kept : (c : Bool) → is_childs from p ≡ c → (if c then None else rows_of s.spaces home p) ≡ None
      by_kept true is = refl
      by_kept false is =
          had.none p aside.outside aside.no_descriptor aside.no_stack aside.no_copy aside.no_working (sym counted_before ∙ is)

  none_after : behind n p ≡ None
  unfolding counted
  none_after = spawner_counts h v sp to p ∙ ap (λ (c : Bool). if c then None else rows_of sp home p) counted_after

  own_counts : (q : ℕ) (c : Bool) → (q == p) ≡ c → behind n q ≡ before n q
  unfolding counted
  own_counts q true test =
      subst (λ (r : ℕ). behind n r ≡ before n r) (sym (eqb-true q p test)) (none_after ∙ sym none_before)
  own_counts q false test =
      let ne : q ≢ p = eqb-false q p test in
      spawner_counts h v sp to q
      ∙ ap (λ (c : Bool). if c then None else rows_of sp home q) (childs_after q ne)
      ∙ row_beside q ne
      ∙ sym (ap (λ (c : Bool). if c then None else rows_of s.spaces home q) (childs_before q ne))
      ∙ sym (spawner_counted h v q)

  counts : (j q : ℕ) → behind j q ≡ before j q
  counts =
      of_slots n (id % NENV) (λ j. (q : ℕ) → behind j q ≡ before j q)
      (λ q. own_counts q (q == p) refl)
      (λ q. spawned_counts h v sp to q ∙ child_row q ∙ sym (spawned_counted h v q))
      (λ j other apart q. others_spawning h v sp to j other
      (λ live. (others (slot_at s j).directory (λ same. other (h.in_order.spaces.apart j n live (born_live it.own) same))).rows) q)

  counted_bytes : (j q : ℕ) (x : Entry) → behind j q ≡ Some x → sp.pages x.frame ≡ s.spaces.pages x.frame
  counted_bytes j q x hx =
      let was : before j q ≡ Some x = sym (counts j q) ∙ hx in
      bytes_elsewhere h n b it.is puts j q x (λ same too. none-some x (sym none_before ∙ (λ i. before (sym same i) (sym too i)) ∙ was)) was

  -- what is shared keeps its bytes: nothing there was
  no_shared : (x : Entry) → rows_of s.spaces home p ≡ Some x → is_shared x.perm ≡ false
  no_shared x is = by_kept (keeps_page_at from p) refl
    where
      by_kept : (c : Bool) → keeps_page_at from p ≡ c → is_shared x.perm ≡ false
      by_kept true kept_there =
          let page : IsOwnWritable (rows_of s.spaces home) p = had.spawns p kept_there in
          ap (λ (e : Entry). is_shared e.perm) (same_Some x page.entry (sym is ∙ page.stands)) ∙ page.own_page
      by_kept false off =
          absurd (none-some x (sym (had.none p aside.outside aside.no_descriptor aside.no_stack aside.no_copy aside.no_working off) ∙ is))

  pipe_descriptor : (q : ℕ) → is_pipe_page q ≡ true → is_of_descriptor q ≡ true
  pipe_descriptor q pipes = grind (arith, nat_tests, pipes)

  pub here_stands : (IsBesidePage (view_of s.spaces (slot_at s n).directory) (view_of sp (slot_at s n).directory) p →
      StandsAtSpawn (view_of sp (slot_at s n).directory) (record (slot_at s n) { extra = spawn_words to })
      (spawn_there h n path argv from stands).b path argv to) →
      StandsFor names (with_extra (with_spaces s sp) n (spawn_words to)) a
  here_stands so =
      spawning_moves h n path argv id from to b v bears_after sp (λ d not_mine not_childs. others d not_mine) (part (so mapped_beside)) has_still
      (rows_bytes sp.pages counted_bytes (rows_same before behind counts (rows_stand h))) order (others_counts h n last sp)
      (λ q pipes. row_beside q (λ same.
      let contradiction : true ≡ false = sym (pipe_descriptor q pipes) ∙ ap is_of_descriptor same ∙ aside.no_descriptor in cc))
      (λ d q x is shared_page. puts.bytes d q x (λ same_d same_q.
      false≢true (sym (no_shared x (sym (λ i. rows_of s.spaces (same_d i) (same_q i)) ∙ is)) ∙ shared_page)) is)

-- ---- what the call comes to

-- the spaces behind it
pub record MapsHere (s : KernelState) (n p : ℕ) (there : Entry) (asked : CallStep Called) : Type 0 where
  pub spaces : SpacesState
  pub step : asked ≡ giving (with_spaces s spaces) (Answered 0)
  pub given : IsInOrder (with_spaces s spaces) → Given s.spaces spaces (slot_at s n).directory p (record { frame = there.frame; perm = own_perm })

module _ {names : Names} {s : KernelState} {a : AbstractState} (h : StandsFor names s a) (n id : ℕ) (b : Born) (is : a.slots n ≡ born b)
    (bears : borne_in (place_of (slot_at s n)) ≡ Some id) (from to : ℕ) (from_address : is_page_address from ≡ true)
    (to_address : is_page_address to ≡ true) (there : Entry)
    (there_is : rows_of s.spaces (slot_at s (id % NENV)).directory (page_number from) ≡ Some there) (writes : has_write there.perm ≡ true)
    (table : is_some (s.spaces.regions (slot_at s n).directory (page_number to / NPTENTRIES)) ≡ true) where
  pub maps_here : MapsHere s n (page_number to) there (system s n SYS_PAGE_MAP (id ∷ from ∷ 0 ∷ to ∷ own_perm ∷ []))
  maps_here =
      let child_space : ℕ = (slot_at s (id % NENV)).directory in
      let home : ℕ = (slot_at s n).directory in
      let raw = row_entry s.spaces child_space (page_number from) there there_is in
      let frame : raw.0.frame ≡ there.frame = ap (λ (e : Entry). e.frame) raw.2 in
      let may : has_write raw.0.perm ≡ true = lasting_write raw.0.perm ∙ ap (λ (e : Entry). has_write e.perm) raw.2 ∙ writes in
      let over : Entry = record { frame = there.frame; perm = own_perm } in
      let sp : SpacesState = mapped s.spaces home (page_number to) over in
      let made : inserted s.spaces home (page_number to) over ≡ Some sp = inserted_already s.spaces home (page_number to) over table in
      let shares : shared_entry (entry_at s (id % NENV) from) own_perm ≡ Some over =
      (λ i. shared_entry (raw.1 i) own_perm) ∙ given_on raw.0 own_perm refl may ∙ (λ i. Some (record { frame = frame i; perm = own_perm })) in
      record {
        spaces = sp;
        step = borne_map_here_is h n id b is bears from to own_perm over from_address to_address shares ∙ ap (made_step s) made;
        given = λ order. inserted_given s.spaces sp home (page_number to) over child_space
            (page_number from) raw.0 h.in_order.frames order.frames refl raw.1 frame made;
      }
