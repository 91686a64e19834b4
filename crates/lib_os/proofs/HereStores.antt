-- Spawn that bears a child stores bytes into a page of the child's own that stands in its own space, too. The child has them in its page then, and nothing else
-- is
-- another: the kernel's state goes on standing for the same abstract one, where the child is to have them at the next step.
use Rattle.std.proofs.Common.{◌≡◌, ◌≢◌, ◌∙◌, ◌==◌, ◌%◌, ◌&&◌, ◌||◌, inl, inr, ◌⊎◌, ℕ, Bool, true, false, List, Some, None, refl, sym, ap, subst, if◌then◌else◌}
use Rattle.std.specs.Prelude.{nat_le, slice_index}
use Rattle.std.proofs.lemmas.Bool.{eqb-false, eqb-true, false≢true}
use Rattle.std.proofs.lemmas.Option.{same_Some}
use Rattle.jos_base.specs.declared.numbers.TheConstants.{NENV}
use Rattle.jos_base.specs.Environments.{Slot}
use Rattle.jos_base.specs.KernelState.{KernelState, slot_at, with_extra, with_spaces}
use Rattle.jos_base.specs.Reach.{Entry}
use Rattle.jos_base.specs.SpacesState.{SpacesState}
use Rattle.jos_base.specs.SystemCalls.{has_write}
use Rattle.jos_base.specs.Words.{page_number, upd}
use Rattle.jos_base.proofs.Maps.{upd-at, upd-other}
use Rattle.jos_base.proofs.Puts.{Elsewhere}
use Rattle.jos_elf.specs.Headers.{entry_count_of}
use Rattle.lib_os.specs.declared.numbers.TheConstants.{SERVICE_SPAWN, UXSTACK}
use Rattle.lib_os.specs.declared.place.Place.{Place}
use Rattle.lib_os.specs.declared.place.Place.TheVariants as place
use Rattle.lib_os.specs.declared.place.Step.TheVariants as step
use Rattle.lib_os.specs.declared.service.Service.{Service}
use Rattle.lib_os.specs.declared.service.Service.TheVariants as service
use Rattle.lib_os.specs.declared.spawn_steps.SpawnStep.{SpawnStep}
use Rattle.lib_os.specs.AbstractState.{AbstractSlot, AbstractState, Born, ImageRead, own, unborn}
use Rattle.lib_os.specs.DescriptorPages.{lasting_words}
use Rattle.lib_os.specs.InOrder.{IsInOrder}
use Rattle.lib_os.specs.LibraryPages.{IsOwnWritable}
use Rattle.lib_os.specs.PipeEnds.{is_made}
use Rattle.lib_os.specs.Places.{place_of}
use Rattle.lib_os.specs.Rows.{IsPage, Names, Rows, counted, is_programs, is_shared, logical, may_write, page_seen, rows_of, seen_where, shown_at}
use Rattle.lib_os.specs.SpawnedChild.{IsProgress, Loads, Progress, bytes_replied, child_page, handler_of, registers_of, spawning_child}
use Rattle.lib_os.specs.SpawnPages.{is_childs}
use Rattle.lib_os.specs.StandsAtSpawn.{StandsAtSpawn}
use Rattle.lib_os.specs.StandsFor.{StandsAt, StandsFor, StandsForBorn, seen_unless, things_in, view_of}
use Rattle.lib_os.proofs.Bearing.{of_slots}
use Rattle.lib_os.proofs.CopiesStored.{IsRewritten}
use Rattle.lib_os.proofs.EntriesCount.{IsOfBearer, entry_counts, programs_lacked}
use Rattle.lib_os.proofs.EntriesStand.{RowsStand, named_bytes, seen_at, seen_own, shown_same}
use Rattle.lib_os.proofs.KeptPages.{LiesAside}
use Rattle.lib_os.proofs.Numbered.{named_at}
use Rattle.lib_os.proofs.PipesStand.{descriptors_turned, is_calm}
use Rattle.lib_os.proofs.Serving.{IsServed, holds_page, library_moved, plain_copy, plain_upcall, plain_working}
use Rattle.lib_os.proofs.SlotsStand.{SeenAlike, descriptors_off, library_alike}
use Rattle.lib_os.proofs.SpawnedGoes.{HasOfImage, HereStill, IsSpawner, spawner}
use Rattle.lib_os.proofs.SpawnedMoves.{others_spawning, spawned_counted, spawned_counts, spawner_apart, spawner_counted, spawner_counts, spawning_moves}
use Rattle.lib_os.proofs.SpawnOwnPages.{spawn_there, spawn_words, spawns_at}
use Rattle.lib_os.proofs.SpawnPagesTaken.{IsBesidePage}
use Rattle.lib_os.proofs.StatesStand.{others_counts}
use Rattle.lib_os.proofs.WordsTell.{is_in_handler, place_at}

-- There is a progress that is so at a step, by which the child has these bytes in a page, which it may write, and all else that it had.
pub record PutsPage (b : Born) (image : ImageRead) (file : List ℕ) (before : Progress) (to : SpawnStep) (page : ℕ) (bytes : List ℕ) : Type 0 where
  pub progress : Progress
  pub is_so : IsProgress (entry_count_of (slice_index image.header)) to progress
  pub registers : progress.registers ≡ before.registers
  pub handler : progress.handler ≡ before.handler
  pub handler_stack : progress.handler_stack ≡ before.handler_stack
  pub passed : progress.passed ≡ before.passed
  pub here : child_page b image progress file page ≡ Some (own bytes true)
  pub others : (p : ℕ) → is_programs p ≡ true → p ≢ page → child_page b image before file p ≡ child_page b image progress file p

abbrev pub PutsBehind : Born → ℕ → SpawnStep → SpawnStep → ℕ → List ℕ → Type 0
PutsBehind b id from to page bytes =
    (image : ImageRead) (file : List ℕ) (progress : Progress) → Loads (id % NENV) image b.spawning (bytes_replied b.phase) file →
    IsProgress (entry_count_of (slice_index image.header)) from progress → PutsPage b image file progress to page bytes

same_parents : (id parent other others_parent : ℕ) → ◌≡◌ {A = AbstractSlot} (unborn id parent) (unborn other others_parent) → parent ≡ others_parent
same_parents id parent other others_parent same = cc

module _ {names : Names} {s : KernelState} {a : AbstractState} {sp : SpacesState} (h : StandsFor names s a) (n path argv id : ℕ) (from to : SpawnStep)
    (stands : place_of (slot_at s n) ≡ spawns_at path argv from) (bears : spawning_child from ≡ Some id) (bears_after : spawning_child to ≡ Some id)
    (held : holds_page (spawns_at path argv from) ≡ holds_page (spawns_at path argv to)) (childs : (p : ℕ) → is_childs from p ≡ is_childs to p)
    (told : HereStill from to) (p : ℕ) (aside : LiesAside p) (only_here : (q : ℕ) → q ≢ p → is_childs from q ≡ false)
    (mine : IsOwnWritable (rows_of s.spaces (slot_at s n).directory) p) (page : ℕ) (inside : is_programs page ≡ true) (there : Entry)
    (there_is : rows_of s.spaces (slot_at s (id % NENV)).directory page ≡ Some there) (own_there : is_shared there.perm ≡ false)
    (writes : has_write there.perm ≡ true) (bytes : List ℕ) (is_page : IsPage bytes) (rewritten : IsRewritten s.spaces sp there.frame bytes)
    (last : s.last ≡ Some n) (order : IsInOrder (with_spaces s sp)) where
  abbrev it : IsServed names s a n (service.Spawn path argv) (step.Spawning from)
  it = spawn_there h n path argv from stands

  abbrev b : Born
  b = it.b

  abbrev m : ℕ
  m = id % NENV

  abbrev home : ℕ
  home = (slot_at s n).directory

  abbrev child : Slot
  child = slot_at s m

  abbrev d : ℕ
  d = child.directory

  abbrev moved : Slot
  moved = record (slot_at s n) { extra = spawn_words to }

  u : IsSpawner names s a n path argv from id b
  u = spawner h n path argv id from stands bears

  abbrev before : Rows
  before = logical s.spaces s.environments.slots

  abbrev behind : Rows
  behind = logical sp (upd s.environments.slots n moved)

  -- ---- who has the frame

  it_counts : before m page ≡ Some there
  it_counts = spawned_counted h u page ∙ there_is

  -- nothing else that counts
  alone : (j q : ℕ) (x : Entry) → Elsewhere j q m page → before j q ≡ Some x → x.frame ≢ there.frame
  alone j q x ne hx same =
      let agrees = h.apart j q m page x there ne hx it_counts same in
      let contradiction : true ≡ false = sym writes ∙ (agrees.read_only (agrees.shared ∙ own_there)).1 in cc

  row_kept : (q r : ℕ) → rows_of sp q r ≡ rows_of s.spaces q r
  row_kept q r = ap (λ (rows : Rows). rows q r) rewritten.rows

  bytes_kept : (f : ℕ) → f ≢ there.frame → sp.pages f ≡ s.spaces.pages f
  bytes_kept f ne = ap (λ (pages : ℕ → List ℕ). pages f) rewritten.pages ∙ upd-other s.spaces.pages there.frame bytes f ne

  bytes_are : sp.pages there.frame ≡ bytes
  bytes_are = ap (λ (pages : ℕ → List ℕ). pages there.frame) rewritten.pages ∙ upd-at s.spaces.pages there.frame bytes

  -- nor anything of another space, but for its parent's
  elsewhere : (q r : ℕ) (x : Entry) → q ≢ home → Elsewhere q r d page → rows_of s.spaces q r ≡ Some x → x.frame ≢ there.frame
  elsewhere q r x not_home ne hx same = by_space (q == (slot_at s 0).directory) refl (q == d) refl
    where
      by_space : (c : Bool) → (q == (slot_at s 0).directory) ≡ c → (t : Bool) → (q == d) ≡ t → ⊥
      by_space true test t of_child =
          let servers : q ≡ (slot_at s 0).directory = eqb-true q (slot_at s 0).directory test in
          programs_lacked h m page there it_counts inside r x (ap (λ (f : ℕ). rows_of s.spaces f r) (sym servers) ∙ hx) same
      by_space false test true of_child =
          let its : q ≡ d = eqb-true q d of_child in
          alone m r x (λ one too. ne its too) (spawned_counted h u r ∙ ap (λ (f : ℕ). rows_of s.spaces f r) (sym its) ∙ hx) same
      by_space false test false of_child =
          let not_childs : q ≢ d = eqb-false q d of_child in
          let found = entry_counts h q r x (eqb-false q (slot_at s 0).directory test) hx in
          alone found.slot found.page found.entry (λ slot too. by_owner found.slot slot not_childs found.owner) found.counts (found.frame ∙ same)
        where
          by_owner : (slot : ℕ) → slot ≡ m → q ≢ d → ((slot_at s slot).directory ≡ q) ⊎ IsOfBearer s a slot q → ⊥
          by_owner slot one not_childs (inl own_space) =
              not_childs (sym (ap (λ (j : ℕ). (slot_at s j).directory) (sym one) ∙ own_space))
          by_owner slot one not_childs (inr c) =
              let parents : c.parent ≡ b.id = same_parents c.id c.parent id b.id (sym c.unborn_is ∙ ap a.slots one ∙ u.child_is) in
              not_home (sym (ap (λ (j : ℕ). (slot_at s j).directory) (sym (ap (λ (i : ℕ). i % NENV) parents ∙ u.named)) ∙ c.parents))

  -- nor any other page of its parent's
  own_counts : (q : ℕ) → q ≢ p → before n q ≡ rows_of s.spaces home q
  unfolding counted
  own_counts q ne = spawner_counted h u q ∙ ap (λ (c : Bool). if c then None else rows_of s.spaces home q) (only_here q ne)

  own_beside : (q : ℕ) (x : Entry) → q ≢ p → rows_of s.spaces home q ≡ Some x → sp.pages x.frame ≡ s.spaces.pages x.frame
  own_beside q x ne hx = bytes_kept x.frame (alone n q x (λ same too. u.apart (sym same)) (own_counts q ne ∙ hx))

  others : (q : ℕ) → q ≢ home → q ≢ d → SeenAlike names names s.spaces sp q
  others q not_home not_childs = record {
    rows = ap (λ (rows : Rows). rows q) rewritten.rows;
    bytes = λ r x hx own_page. kept r x hx;
    named_so = λ r x hx shared_page. refl;
    devices = λ r x descriptor hx shared_page. ap lasting_words (kept r x hx);
    pipes = λ r x pipes hx shared_page. kept r x hx;
    regions = rewritten.regions q;
  }
    where
      kept : (r : ℕ) (x : Entry) → rows_of s.spaces q r ≡ Some x → sp.pages x.frame ≡ s.spaces.pages x.frame
      kept r x hx = bytes_kept x.frame (elsewhere q r x not_home (λ same too. not_childs same) hx)

  -- ---- its own part

  now_at : place_of moved ≡ spawns_at path argv to
  now_at =
      place_at (slot_at s n).registers SERVICE_SPAWN (step.Spawning to) it.outside
      ∙ ap (λ (x : Service). place.InService x (step.Spawning to)) (named_at (slot_at s n) (service.Spawn path argv) (step.Spawning from) stands)

  shown_kept : (q : ℕ) → q ≢ p → shown_at names sp home q ≡ shown_at names s.spaces home q
  shown_kept q ne = shown_same names names s.spaces sp home q (row_kept home q) (λ x hx own_page. own_beside q x ne hx) (λ x hx shared_page. refl)

  unseen : (r : SpacesState) → page_seen names r home p ≡ None
  unseen r = ap (λ (c : Bool). seen_where c (shown_at names r home p)) aside.outside

  memory_kept : (q : ℕ) → page_seen names sp home q ≡ page_seen names s.spaces home q
  memory_kept q = by_page (q == p) refl
    where
      by_page : (c : Bool) → (q == p) ≡ c → page_seen names sp home q ≡ page_seen names s.spaces home q
      by_page true test =
          subst (λ (r : ℕ). page_seen names sp home r ≡ page_seen names s.spaces home r) (sym (eqb-true q p test)) (unseen sp ∙ sym (unseen s.spaces))
      by_page false test = ap (seen_where (is_programs q)) (shown_kept q (eqb-false q p test))

  part : StandsAtSpawn (view_of sp home) moved b path argv to → StandsForBorn names sp moved b
  part so =
      let own_part = it.own in
      let plain : is_in_handler (place_of (slot_at s n)) ≡ false = ap is_in_handler stands in
      let plain_after : is_in_handler (place_of moved) ≡ false = ap is_in_handler now_at in
      record {
        id = own_part.id;
        id_small = own_part.id_small;
        parent = own_part.parent;
        env_type = own_part.env_type;
        runs = own_part.runs;
        upcall = own_part.upcall ∙ plain_upcall (place_of (slot_at s n)) plain ∙ sym (plain_upcall (place_of moved) plain_after);
        descriptors = λ fd still.
            descriptors_turned names s.spaces home (place_of (slot_at s n)) (place_of moved) b.descriptors (ap is_calm stands) (ap is_calm now_at)
            own_part.descriptors fd still
            ∙ sym (ap (seen_unless (is_made (place_of moved) fd)) (descriptors_off names names s.spaces sp home p aside.no_descriptor shown_kept fd));
        memory = λ q. own_part.memory q ∙ sym (memory_kept q);
        library = library_alike (place_of moved) (spawn_words to) (rows_of s.spaces home) (rows_of sp home) (ap (λ (rows : Rows). rows home) rewritten.rows)
            (library_moved (place_of (slot_at s n)) (place_of moved) (slot_at s n).extra (spawn_words to) (rows_of s.spaces home)
            (plain_copy (place_of (slot_at s n)) plain ∙ sym (plain_copy (place_of moved) plain_after))
            (plain_working (place_of (slot_at s n)) (slot_at s n).extra plain ∙ ap holds_page stands ∙ held ∙ sym (ap holds_page now_at)
            ∙ sym (plain_working (place_of moved) (spawn_words to) plain_after)) own_part.library);
        regions_have = λ r is. rewritten.regions home r ∙ own_part.regions_have r is;
        regions_only = λ r is. own_part.regions_only r (sym (rewritten.regions home r) ∙ is);
        stack = own_part.stack;
        flags = own_part.flags;
        at = subst (λ (q : Place). StandsAt q (view_of sp home) moved b) (sym now_at) so;
      }

  stored_beside : IsBesidePage (view_of s.spaces home) (view_of sp home) p
  stored_beside = record {
    rows = λ q ne. row_kept home q;
    bytes = λ q x ne hx. own_beside q x ne hx;
    tables = λ r has. rewritten.regions home r ∙ has;
  }

  -- ---- the child

  may_there : may_write there.perm ≡ true
  may_there = or_first (has_write there.perm) _ writes
    where
      or_first : (c t : Bool) → c ≡ true → (c || t) ≡ true
      or_first true t is = refl
      or_first false t is = absurd (false≢true is)

  seen_there : page_seen names sp d page ≡ Some (own bytes true)
  seen_there = seen_own names sp d page there inside (row_kept d page ∙ there_is) own_there ∙ (λ i. Some (own (bytes_are i) (may_there i)))

  has_put : (x : HasOfImage names s.spaces (slot_at s n) b from child id) → PutsPage b x.image x.file x.progress to page bytes →
      HasOfImage names sp moved b to child id
  has_put x g = record {
    image = x.image;
    file = x.file;
    loads = x.loads;
    progress = g.progress;
    is_so = g.is_so;
    registers = x.registers ∙ ap (λ (c : Bool). registers_of c (slot_at s n).registers x.image) (sym g.registers);
    upcall = x.upcall ∙ ap handler_of (sym g.handler);
    memory = λ q within. by_page q within (q == page) refl;
    uncopied = λ q y within hy own_page. x.uncopied q y within (sym (row_kept d q) ∙ hy) own_page;
    handed = λ q is on.
        row_kept d q ∙ x.handed q is (ap (λ (r : ℕ). nat_le r q) (sym g.passed) ∙ on) ∙ sym (row_kept home q);
    rest = λ q is off. row_kept d q ∙ x.rest q is (ap (λ (r : ℕ). nat_le r q) (sym g.passed) ∙ off);
    handler_stack = λ on.
        let page_is = x.handler_stack (sym g.handler_stack ∙ on) in
        record {
          entry = page_is.entry;
          stands = row_kept d (page_number UXSTACK) ∙ page_is.stands;
          own_page = page_is.own_page;
          writes = page_is.writes;
        };
    no_handler_stack = λ off. row_kept d (page_number UXSTACK) ∙ x.no_handler_stack (sym g.handler_stack ∙ off);
    none = λ q outside no_descriptor other. row_kept d q ∙ x.none q outside no_descriptor other;
    tables = λ r is. x.tables r (sym (rewritten.regions d r) ∙ is);
    here = λ q is.
        let was = x.here q (childs q ∙ is) in
        record {
          place = was.place;
          is_told = λ r at. was.is_told r (told r at);
          programs = was.programs;
          here = was.here;
          there = was.there;
          here_is = row_kept home q ∙ was.here_is;
          there_is = row_kept d was.place ∙ was.there_is;
          own_page = was.own_page;
          user = was.user;
          same = was.same;
        };
  }
    where
      by_page : (q : ℕ) → is_programs q ≡ true → (c : Bool) → (q == page) ≡ c → page_seen names sp d q ≡ child_page b x.image g.progress x.file q
      by_page q within true test =
          subst (λ (r : ℕ). page_seen names sp d r ≡ child_page b x.image g.progress x.file r) (sym (eqb-true q page test)) (seen_there ∙ sym g.here)
      by_page q within false test =
          let ne : q ≢ page = eqb-false q page test in
          seen_at names names s.spaces sp d q (row_kept d q)
          (λ y hy own_page. bytes_kept y.frame (elsewhere d q y (λ same. spawner_apart h u (sym same)) (λ same too. ne too) hy)) (λ y hy shared_page. refl)
          ∙ x.memory q within ∙ g.others q within ne

  -- ---- entries as they count

  counts : (j q : ℕ) → behind j q ≡ before j q
  unfolding counted
  counts =
      of_slots n m (λ j. (q : ℕ) → behind j q ≡ before j q)
      (λ q. spawner_counts h u sp to q ∙ (λ i. if sym (childs q) i then None else row_kept home q i) ∙ sym (spawner_counted h u q))
      (λ q. spawned_counts h u sp to q ∙ row_kept d q ∙ sym (spawned_counted h u q))
      (λ j other apart q. others_spawning h u sp to j other (λ live. ap (λ (rows : Rows). rows (slot_at s j).directory) rewritten.rows) q)

  shared_counted : (j q : ℕ) (x : Entry) → before j q ≡ Some x → is_shared x.perm ≡ true → sp.pages x.frame ≡ s.spaces.pages x.frame
  shared_counted j q x hx shared_page =
      bytes_kept x.frame (alone j q x (λ same too.
      false≢true (sym own_there ∙ ap (λ (e : Entry). is_shared e.perm) (same_Some there x (sym it_counts ∙ (λ i. before (sym same i) (sym too i)) ∙ hx))
      ∙ shared_page)) hx)

  whole_counted : (j q : ℕ) (x : Entry) → before j q ≡ Some x → (c : Bool) → (x.frame == there.frame) ≡ c → IsPage (sp.pages x.frame)
  whole_counted j q x hx true test =
      subst (λ (l : List ℕ). IsPage l) (sym (ap sp.pages (eqb-true x.frame there.frame test) ∙ bytes_are)) is_page
  whole_counted j q x hx false test = subst (λ (l : List ℕ). IsPage l) (sym (bytes_kept x.frame (eqb-false x.frame there.frame test))) (h.whole j q x hx)

  rows_then : RowsStand names sp.pages a.shared (things_in s a) a.next_name behind
  rows_then = record {
    apart = λ j o q r x y ne hx hy same. h.apart j o q r x y ne (sym (counts j o) ∙ hx) (sym (counts q r) ∙ hy) same;
    named = λ j q x hx shared_page.
        let was : before j q ≡ Some x = sym (counts j q) ∙ hx in
        named_bytes (sym (shared_counted j q x was shared_page)) (h.named j q x was shared_page);
    users = λ j q x hx. h.users j q x (sym (counts j q) ∙ hx);
    whole = λ j q x hx. whole_counted j q x (sym (counts j q) ∙ hx) (x.frame == there.frame) refl;
    beside = λ j q r x y hx is. h.beside j q r x y (sym (counts j q) ∙ hx) is;
  }

  -- what is shared keeps its bytes
  shared_kept : (q r : ℕ) (x : Entry) → rows_of s.spaces q r ≡ Some x → is_shared x.perm ≡ true → (c : Bool) → (q == home) ≡ c → (t : Bool) → (r == p) ≡ t →
      sp.pages x.frame ≡ s.spaces.pages x.frame
  shared_kept q r x hx shared_page true test true at =
      let is : rows_of s.spaces home p ≡ Some x = (λ i. rows_of s.spaces (sym (eqb-true q home test) i) (sym (eqb-true r p at) i)) ∙ hx in
      absurd (false≢true (sym mine.own_page ∙ ap (λ (e : Entry). is_shared e.perm) (same_Some mine.entry x (sym mine.stands ∙ is)) ∙ shared_page))
  shared_kept q r x hx shared_page true test false at =
      own_beside r x (eqb-false r p at) (ap (λ (f : ℕ). rows_of s.spaces f r) (sym (eqb-true q home test)) ∙ hx)
  shared_kept q r x hx shared_page false test t at =
      bytes_kept x.frame (elsewhere q r x (eqb-false q home test) (λ same too.
      false≢true (sym own_there ∙ ap (λ (e : Entry). is_shared e.perm)
      (same_Some there x (sym there_is ∙ (λ i. rows_of s.spaces (sym same i) (sym too i)) ∙ hx)) ∙ shared_page)) hx)

  pub here_stored_stands : PutsBehind (spawn_there h n path argv from stands).b id from to page bytes →
      (IsBesidePage (view_of s.spaces (slot_at s n).directory) (view_of sp (slot_at s n).directory) p →
      StandsAtSpawn (view_of sp (slot_at s n).directory) (record (slot_at s n) { extra = spawn_words to })
      (spawn_there h n path argv from stands).b path argv to) →
      StandsFor names (with_extra (with_spaces s sp) n (spawn_words to)) a
  here_stored_stands puts so =
      let x = u.child in
      spawning_moves h n path argv id from to b u bears_after sp others (part (so stored_beside))
      (has_put x (puts x.image x.file x.progress x.loads x.is_so)) rows_then order (others_counts h n last sp) (λ q pipes. row_kept home q)
      (λ q r y hy shared_page. shared_kept q r y hy shared_page (q == home) refl (r == p) refl)
