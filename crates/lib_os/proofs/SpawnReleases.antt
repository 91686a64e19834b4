-- Spawn that bears a child gives back a page that it kept for itself: nothing of it is seen, and the child has what it had.
use Rattle.std.proofs.Common.{◌≡◌, ◌≢◌, ◌∙◌, ◌==◌, ◌%◌, ℕ, Bool, true, false, List, None, Some, refl, sym, ap, subst, arith, if◌then◌else◌}
use Rattle.std.specs.Prelude.{slice_index}
use Rattle.std.proofs.lemmas.Bool.{false≢true}
use Rattle.std.proofs.lemmas.Bool.Decides.{nat_tests}
use Rattle.jos_base.specs.declared.numbers.TheConstants.{NENV, UTEMP}
use Rattle.jos_base.specs.Environments.{Slot, is_live as is_live_slot}
use Rattle.jos_base.specs.KernelState.{KernelState, slot_at, with_extra, with_spaces}
use Rattle.jos_base.specs.Reach.{Entry}
use Rattle.jos_base.specs.SpacesState.{SpacesState, put}
use Rattle.jos_base.specs.Words.{page_number, upd}
use Rattle.jos_base.proofs.Puts.{Elsewhere, put-at, put-other}
use Rattle.jos_elf.specs.Headers.{entry_count_of}
use Rattle.lib_os.specs.declared.numbers.TheConstants.{PFTEMP, SERVICE_SPAWN, UXSTACK}
use Rattle.lib_os.specs.declared.place.Place.{Place}
use Rattle.lib_os.specs.declared.place.Place.TheVariants as place
use Rattle.lib_os.specs.declared.place.Step.TheVariants as step
use Rattle.lib_os.specs.declared.service.Service.{Service}
use Rattle.lib_os.specs.declared.service.Service.TheVariants as service
use Rattle.lib_os.specs.declared.spawn_steps.SpawnStep.{SpawnStep}
use Rattle.lib_os.specs.AbstractState.{AbstractState, Born}
use Rattle.lib_os.specs.DescriptorPages.{device_of}
use Rattle.lib_os.specs.InOrder.{IsInOrder}
use Rattle.lib_os.specs.LibraryPages.{IsOwnWritable, LibraryPages, View}
use Rattle.lib_os.specs.Places.{place_of}
use Rattle.lib_os.specs.Rows.{EntryRow, Names, Rows, counted, descriptor_page, is_of_descriptor, is_pipe_page, is_programs, is_shared, logical, rows_of}
use Rattle.lib_os.specs.Rows.{page_seen, seen_where, shown_at}
use Rattle.lib_os.specs.SpawnedChild.{IsProgress, Progress, spawning_child}
use Rattle.lib_os.specs.SpawnPages.{is_childs, keeps_page_at, keeps_request_page}
use Rattle.lib_os.specs.StandsAtSpawn.{HasAllBytes, IsOfFile, StandsAtSpawn}
use Rattle.lib_os.specs.StandsFor.{StandsAt, StandsFor, StandsForBorn, seen_unless, things_in, view_of}
use Rattle.lib_os.specs.PipeEnds.{is_made}
use Rattle.lib_os.proofs.DescriptorLooks.{is_descriptors}
use Rattle.lib_os.proofs.Effects.{Removed}
use Rattle.lib_os.proofs.EntriesStand.{RowsStand, put_is, rows_put, rows_same, rows_stand, shown_same}
use Rattle.lib_os.proofs.Numbered.{named_at}
use Rattle.lib_os.proofs.PagesStand.{Puts, others_seen}
use Rattle.lib_os.proofs.PipesStand.{descriptors_turned, is_calm}
use Rattle.lib_os.proofs.Serving.{IsServed, plain_upcall}
use Rattle.lib_os.proofs.SlotsStand.{SeenAlike, born_live, but_pipes, descriptors_off, seen_but_pipes}
use Rattle.lib_os.proofs.SpawnedGoes.{HasOfImage, IsSpawner, spawner}
use Rattle.lib_os.proofs.SpawnedMoves.{others_spawning, spawned_lives, spawner_counted, spawner_counts, spawning_moves}
use Rattle.lib_os.proofs.SpawnOwnPages.{spawn_there, spawn_words, spawns_at}
use Rattle.lib_os.proofs.SpawnPagesTaken.{IsBesidePage, gone_puts, gone_row, gone_tables}
use Rattle.lib_os.proofs.StatesStand.{others_counts}
use Rattle.lib_os.proofs.WordsTell.{is_in_handler, place_at}

-- ---- what stands beside

pub file_aside : {v w : View} {p fd : ℕ} → IsBesidePage v w p → is_of_descriptor p ≡ false → IsOfFile v fd → IsOfFile w fd
file_aside {p = p} {fd = fd} it none h = record {
  below = h.below;
  file = record {
    entry = h.file.entry;
    stands = it.rows (descriptor_page fd) apart ∙ h.file.stands;
    device = ap (λ (bytes : List ℕ). device_of bytes) (it.bytes (descriptor_page fd) h.file.entry apart h.file.stands) ∙ h.file.device;
  };
}
  where
    apart : descriptor_page fd ≢ p
    apart same = let contradiction : true ≡ false = sym (is_descriptors fd h.below) ∙ ap is_of_descriptor same ∙ none in cc

pub all_bytes_aside : {v w : View} {k : Slot} {b : Born} {path argv fd child p : ℕ} (words : List ℕ) → IsBesidePage v w p → is_of_descriptor p ≡ false →
    HasAllBytes v k b path argv fd child → HasAllBytes w (record k { extra = words }) b path argv fd child
all_bytes_aside words it none h = record {
  image = h.image;
  pieces = h.pieces;
  had = h.had;
  stage = h.stage;
  found = record {
    is_in = record {
      regs = h.found.is_in.regs;
      program = h.found.is_in.program;
      eax = h.found.is_in.eax;
      registers = h.found.is_in.registers;
      phase = h.found.is_in.phase;
      silent = h.found.is_in.silent;
      awake = h.found.is_in.awake;
    };
    is = h.found.is;
  };
  has = h.has;
  none_left = h.none_left;
  tested = h.tested;
  of_file = file_aside it none h.of_file;
}

-- ---- the page is gone

module _ {names : Names} {s : KernelState} {a : AbstractState} {sp : SpacesState} (h : StandsFor names s a) (n path argv id : ℕ) (from to : SpawnStep)
    (stands : place_of (slot_at s n) ≡ spawns_at path argv from) (bears : spawning_child from ≡ Some id) (bears_after : spawning_child to ≡ Some id)
    (p : ℕ) (outside : is_programs p ≡ false) (no_descriptor : is_of_descriptor p ≡ false) (no_stack : page_number UXSTACK ≢ p)
    (no_copy : page_number PFTEMP ≢ p) (removed : Removed s.spaces sp (slot_at s n).directory p)
    (requests : p ≢ page_number UTEMP → keeps_request_page from ≡ keeps_request_page to) (gone_request : keeps_request_page to ≡ true → p ≢ page_number UTEMP)
    (same_pages : (q : ℕ) → q ≢ p → keeps_page_at from q ≡ keeps_page_at to q) (gone : keeps_page_at to p ≡ false)
    (own_page : (x : Entry) → rows_of s.spaces (slot_at s n).directory p ≡ Some x → is_shared x.perm ≡ false)
    (childs_before : (q : ℕ) → q ≢ p → is_childs from q ≡ false) (childs_after : (q : ℕ) → is_childs to q ≡ false)
    (progress_same : (m : ℕ) (progress : Progress) → IsProgress m from progress → IsProgress m to progress)
    (last : s.last ≡ Some n) (order : IsInOrder (with_spaces s sp)) where
  abbrev it : IsServed names s a n (service.Spawn path argv) (step.Spawning from)
  it = spawn_there h n path argv from stands

  abbrev b : Born
  b = it.b

  abbrev home : ℕ
  home = (slot_at s n).directory

  abbrev child : Slot
  child = slot_at s (id % NENV)

  abbrev moved : Slot
  moved = record (slot_at s n) { extra = spawn_words to }

  v : IsSpawner names s a n path argv from id b
  v = spawner h n path argv id from stands bears

  now_at : place_of moved ≡ spawns_at path argv to
  now_at =
      place_at (slot_at s n).registers SERVICE_SPAWN (step.Spawning to) it.outside
      ∙ ap (λ (x : Service). place.InService x (step.Spawning to)) (named_at (slot_at s n) (service.Spawn path argv) (step.Spawning from) stands)

  puts : Puts names names s.spaces sp home p None
  puts = gone_puts h n b it.is p removed

  others : (q : ℕ) → q ≢ home → SeenAlike names names s.spaces sp q
  others = others_seen h n b it.is puts

  row_beside : (q : ℕ) → q ≢ p → rows_of sp home q ≡ rows_of s.spaces home q
  row_beside q ne = ap (λ (rows : Rows). rows home q) puts.rows ∙ put-other (rows_of s.spaces) home p None home q (λ same. ne)

  row_there : rows_of sp home p ≡ None
  row_there = ap (λ (rows : Rows). rows home p) puts.rows ∙ put-at (rows_of s.spaces) home p None

  released_beside : IsBesidePage (view_of s.spaces (slot_at s n).directory) (view_of sp (slot_at s n).directory) p
  released_beside = record {
    rows = row_beside;
    bytes = λ q x ne hx. puts.bytes home q x (λ same. ne) hx;
    tables = λ r has. removed.regions home r ∙ has;
  }

  -- ---- its own part

  shown_beside : (q : ℕ) → q ≢ p → shown_at names sp home q ≡ shown_at names s.spaces home q
  shown_beside q ne =
      shown_same names names s.spaces sp home q (row_beside q ne) (λ x hx own_one. puts.bytes home q x (λ same. ne) hx) (λ x hx shared_page. refl)

  unseen : (r : SpacesState) → page_seen names r home p ≡ None
  unseen r = ap (λ (c : Bool). seen_where c (shown_at names r home p)) outside

  memory_same : (q : ℕ) → page_seen names sp home q ≡ page_seen names s.spaces home q
  memory_same q = by_page (q == p) refl
    where
      by_page : (c : Bool) → (q == p) ≡ c → page_seen names sp home q ≡ page_seen names s.spaces home q
      by_page true test =
          let same : q ≡ p = grind (arith, nat_tests, test) in
          subst (λ (r : ℕ). page_seen names sp home r ≡ page_seen names s.spaces home r) (sym same) (unseen sp ∙ sym (unseen s.spaces))
      by_page false test =
          let other : q ≢ p = grind (arith, nat_tests, test) in ap (seen_where (is_programs q)) (shown_beside q other)

  own_beside : (q : ℕ) → q ≢ p → IsOwnWritable (rows_of s.spaces home) q → IsOwnWritable (rows_of sp home) q
  own_beside q other page = record { entry = page.entry; stands = row_beside q other ∙ page.stands; own_page = page.own_page; writes = page.writes }

  library_then : LibraryPages (spawns_at path argv to) (spawn_words to) (rows_of sp home)
  library_then = record {
    stack = own_beside (page_number UXSTACK) no_stack had.stack;
    copy = λ is. absurd (let contradiction : false ≡ true = is in cc);
    no_copy = λ is. row_beside (page_number PFTEMP) no_copy ∙ had.no_copy refl;
    descriptors = λ q entry is there.
        had.descriptors q entry is
        (sym (row_beside q (λ same. let contradiction : true ≡ false = sym is ∙ ap is_of_descriptor same ∙ no_descriptor in cc)) ∙ there);
    working = λ is.
        let other = gone_request is in
        own_beside (page_number UTEMP) (λ same. other (sym same)) (had.working (requests other ∙ is));
    no_working = λ is. no_working_there is (p == page_number UTEMP) refl;
    spawns = λ q is.
        let other : q ≢ p = λ same. let contradiction : true ≡ false = sym is ∙ ap (keeps_page_at to) same ∙ gone in cc in
        own_beside q other (had.spawns q (same_pages q other ∙ is));
    none = λ q off no_desc off_stack off_copy off_working no_spawns. none_there q off no_desc off_stack off_copy off_working no_spawns (q == p) refl;
  }
    where
      had : LibraryPages (spawns_at path argv from) (slot_at s n).extra (rows_of s.spaces home)
      had = subst (λ (q : Place). LibraryPages q (slot_at s n).extra (rows_of s.spaces home)) stands it.own.library

      no_working_there : keeps_request_page to ≡ false → (c : Bool) → (p == page_number UTEMP) ≡ c → rows_of sp home (page_number UTEMP) ≡ None
      no_working_there is true test =
          let same : p ≡ page_number UTEMP = grind (arith, nat_tests, test) in
          subst (λ (q : ℕ). rows_of sp home q ≡ None) same row_there
      no_working_there is false test =
          let other : p ≢ page_number UTEMP = grind (arith, nat_tests, test) in
          row_beside (page_number UTEMP) (λ same. other (sym same)) ∙ had.no_working (requests other ∙ is)

      none_there : (q : ℕ) → is_programs q ≡ false → is_of_descriptor q ≡ false → q ≢ page_number UXSTACK → q ≢ page_number PFTEMP →
          q ≢ page_number UTEMP → keeps_page_at to q ≡ false → (c : Bool) → (q == p) ≡ c → rows_of sp home q ≡ None
      none_there q off no_desc off_stack off_copy off_working no_spawns true test =
          let same : p ≡ q = grind (arith, nat_tests, test) in subst (λ (r : ℕ). rows_of sp home r ≡ None) same row_there
      none_there q off no_desc off_stack off_copy off_working no_spawns false test =
          let other : q ≢ p = grind (arith, nat_tests, test) in
          row_beside q other ∙ had.none q off no_desc off_stack off_copy off_working (same_pages q other ∙ no_spawns)

  part : StandsAtSpawn (view_of sp home) moved b path argv to → StandsForBorn names sp moved b
  part so =
      let own = it.own in
      let plain : is_in_handler (place_of (slot_at s n)) ≡ false = ap is_in_handler stands in
      let plain_after : is_in_handler (place_of moved) ≡ false = ap is_in_handler now_at in
      let tables = gone_tables h n b it.is p removed in
      record {
        id = own.id;
        id_small = own.id_small;
        parent = own.parent;
        env_type = own.env_type;
        runs = own.runs;
        upcall = own.upcall ∙ plain_upcall (place_of (slot_at s n)) plain ∙ sym (plain_upcall (place_of moved) plain_after);
        descriptors = λ fd still.
            descriptors_turned names s.spaces home (place_of (slot_at s n)) (place_of moved) b.descriptors (ap is_calm stands) (ap is_calm now_at)
            own.descriptors fd still
            ∙ ap (seen_unless (is_made (place_of moved) fd)) (sym (descriptors_off names names s.spaces sp home p no_descriptor shown_beside fd));
        memory = λ q. own.memory q ∙ sym (memory_same q);
        library = subst (λ (q : Place). LibraryPages q (spawn_words to) (rows_of sp home)) (sym now_at) library_then;
        regions_have = tables.have;
        regions_only = tables.only;
        stack = own.stack;
        flags = own.flags;
        at = subst (λ (q : Place). StandsAt q (view_of sp home) moved b) (sym now_at) so;
      }

  -- ---- the child has what it had

  child_seen : SeenAlike names names s.spaces sp child.directory
  child_seen = others child.directory (λ same. v.apart (h.in_order.spaces.apart (id % NENV) n child_lives (born_live it.own) same))
    where
      child_lives : is_live_slot child ≡ true
      child_lives = spawned_lives h v

  child_row : (q : ℕ) → rows_of sp child.directory q ≡ rows_of s.spaces child.directory q
  child_row q = ap (λ (r : EntryRow). r q) child_seen.rows

  has_still : HasOfImage names sp moved b to child id
  has_still =
      let x = v.child in
      record {
        image = x.image;
        file = x.file;
        loads = x.loads;
        progress = x.progress;
        is_so = progress_same (entry_count_of (slice_index x.image.header)) x.progress x.is_so;
        registers = x.registers;
        upcall = x.upcall;
        memory = λ q inside. seen_but_pipes (but_pipes child_seen) q ∙ x.memory q inside;
        uncopied = λ q e inside is own_one. x.uncopied q e inside (sym (child_row q) ∙ is) own_one;
        handed = λ q is on.
            child_row q ∙ x.handed q is on
            ∙ sym (row_beside q (λ same. let contradiction : true ≡ false = sym is ∙ ap is_of_descriptor same ∙ no_descriptor in cc));
        rest = λ q is off. child_row q ∙ x.rest q is off;
        handler_stack = λ on. subst (λ (r : EntryRow). IsOwnWritable r (page_number UXSTACK)) (sym child_seen.rows) (x.handler_stack on);
        no_handler_stack = λ off. child_row (page_number UXSTACK) ∙ x.no_handler_stack off;
        none = λ q off no_desc other. child_row q ∙ x.none q off no_desc other;
        tables = λ r has. x.tables r (sym (child_seen.regions r) ∙ has);
        here = λ q is. absurd (false≢true (sym (childs_after q) ∙ is));
      }

  -- ---- how entries count

  counts_before : (q : ℕ) → q ≢ p → logical s.spaces s.environments.slots n q ≡ rows_of s.spaces home q
  unfolding counted
  counts_before q ne = spawner_counted h v q ∙ ap (λ (c : Bool). if c then None else rows_of s.spaces home q) (childs_before q ne)

  counts_after : (q : ℕ) → logical sp (upd s.environments.slots n moved) n q ≡ rows_of sp home q
  unfolding counted
  counts_after q = spawner_counts h v sp to q ∙ ap (λ (c : Bool). if c then None else rows_of sp home q) (childs_after q)

  counts_put : (m q : ℕ) → logical sp (upd s.environments.slots n moved) m q ≡ put (logical s.spaces s.environments.slots) n p None m q
  counts_put =
      put_is (logical s.spaces s.environments.slots) (logical sp (upd s.environments.slots n moved)) n p None (counts_after p ∙ row_there) beside
    where
      beside : (m q : ℕ) → Elsewhere m q n p → logical sp (upd s.environments.slots n moved) m q ≡ logical s.spaces s.environments.slots m q
      beside m q ne = by_slot (m == n) refl
        where
          by_slot : (c : Bool) → (m == n) ≡ c → logical sp (upd s.environments.slots n moved) m q ≡ logical s.spaces s.environments.slots m q
          by_slot true test =
              let same : m ≡ n = grind (arith, nat_tests, test) in
              subst (λ (r : ℕ). logical sp (upd s.environments.slots n moved) r q ≡ logical s.spaces s.environments.slots r q) (sym same)
              (counts_after q ∙ row_beside q (ne same) ∙ sym (counts_before q (ne same)))
          by_slot false test =
              let other : m ≢ n = grind (arith, nat_tests, test) in
              others_spawning h v sp to m other
              (λ live. (others (slot_at s m).directory (λ same. other (h.in_order.spaces.apart m n live (born_live it.own) same))).rows) q

  rows_then : RowsStand names sp.pages a.shared (things_in s a) a.next_name (logical sp (upd s.environments.slots n moved))
  rows_then =
      rows_same (put (logical s.spaces s.environments.slots) n p None) (logical sp (upd s.environments.slots n moved)) counts_put
      (rows_put (rows_stand h) (gone_row h n b it.is p removed))

  -- ---- the state

  pub released_stands : (IsBesidePage (view_of s.spaces (slot_at s n).directory) (view_of sp (slot_at s n).directory) p →
      StandsAtSpawn (view_of sp (slot_at s n).directory) (record (slot_at s n) { extra = spawn_words to }) (spawn_there h n path argv from stands).b path argv to) →
      StandsFor names (with_extra (with_spaces s sp) n (spawn_words to)) a
  released_stands so =
      spawning_moves h n path argv id from to b v bears_after sp (λ d not_mine not_childs. others d not_mine) (part (so released_beside)) has_still rows_then order
      (others_counts h n last sp)
      (λ q pipes. row_beside q (λ same.
      let contradiction : true ≡ false = sym (pipe_descriptor q pipes) ∙ ap is_of_descriptor same ∙ no_descriptor in cc))
      (λ d q x is shared_page. puts.bytes d q x (λ same_d same_q. elsewhere d q x is shared_page same_d same_q) is)
    where
      pipe_descriptor : (q : ℕ) → is_pipe_page q ≡ true → is_of_descriptor q ≡ true
      pipe_descriptor q pipes = grind (arith, nat_tests, pipes)

      elsewhere : (d q : ℕ) (x : Entry) → rows_of s.spaces d q ≡ Some x → is_shared x.perm ≡ true → d ≡ home → q ≡ p → ⊥
      elsewhere d q x is shared_page same_d same_q =
          let mine = own_page x (sym (λ i. rows_of s.spaces (same_d i) (same_q i)) ∙ is) in
          let contradiction : true ≡ false = sym shared_page ∙ mine in cc
