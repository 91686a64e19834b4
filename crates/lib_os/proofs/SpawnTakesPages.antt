-- Spawn takes a page beside the one at UTEMP, or gives one back. Nothing of it is seen in the abstract system, so that the kernel's state goes on standing for the
-- same one, where spawn stands so at its next step.
use Rattle.std.proofs.Common.{◌≡◌, ◌≢◌, ◌∙◌, ◌==◌, ℕ, Bool, true, false, List, Option, None, Some}
use Rattle.std.proofs.Common.{refl, sym, ap, subst, arith}
use Rattle.std.proofs.lemmas.Bool.Decides.{nat_tests}
use Rattle.jos_base.specs.declared.numbers.TheConstants.{UTEMP}
use Rattle.jos_base.specs.Environments.{Slot}
use Rattle.jos_base.specs.KernelState.{KernelState, slot_at, with_extra, with_spaces}
use Rattle.jos_base.specs.Reach.{Entry}
use Rattle.jos_base.specs.SpacesState.{SpacesState, put}
use Rattle.jos_base.specs.Words.{page_number, upd}
use Rattle.lib_os.specs.declared.numbers.TheConstants.{PFTEMP, UXSTACK}
use Rattle.lib_os.specs.declared.place.Place.{Place}
use Rattle.lib_os.specs.declared.place.Step.TheVariants as step
use Rattle.lib_os.specs.declared.service.Service.{Service}
use Rattle.lib_os.specs.declared.service.Service.TheVariants as service
use Rattle.lib_os.specs.declared.place.Place.TheVariants as place
use Rattle.lib_os.specs.declared.numbers.TheConstants.{SERVICE_SPAWN}
use Rattle.lib_os.specs.declared.spawn_steps.SpawnStep.{SpawnStep}
use Rattle.lib_os.specs.AbstractState.{AbstractState}
use Rattle.lib_os.specs.InOrder.{IsInOrder}
use Rattle.lib_os.specs.LibraryPages.{IsOwnWritable, LibraryPages, has_spawns, has_working}
use Rattle.lib_os.specs.PipeEnds.{EndsStand, LocksStand, is_made, locked_at}
use Rattle.lib_os.specs.Places.{place_of}
use Rattle.lib_os.specs.Rows.{Names, Rows, descriptor_seen, is_clients, is_of_descriptor, is_programs, logical, page_seen, pipe_page}
use Rattle.lib_os.specs.Rows.{rows_of, seen_where, shown_at}
use Rattle.lib_os.specs.SpawnedChild.{spawning_child}
use Rattle.lib_os.specs.SpawnPages.{keeps_page_at, keeps_request_page}
use Rattle.lib_os.specs.StandsAtSpawn.{StandsAtSpawn}
use Rattle.lib_os.specs.StandsFor.{StandsAt, StandsFor, StandsForBorn, borne_in, seen_unless, things_in, view_of}
use Rattle.lib_os.proofs.CopiesStand.{born_back}
use Rattle.lib_os.proofs.EntriesStand.{PutsRow, put_is, rows_put, rows_same, rows_stand, shown_same}
use Rattle.lib_os.proofs.KeptPages.{LiesAside}
use Rattle.lib_os.proofs.Logical.{is_making_pipe, is_plain, logical_plain, unborne_plain}
use Rattle.lib_os.proofs.Numbered.{named_at}
use Rattle.lib_os.proofs.PagesStand.{Puts, bytes_elsewhere, others_seen}
use Rattle.lib_os.proofs.PipesStand.{PlacesAlike, calm_places, descriptors_turned, ends_moved, is_calm, locks_beside}
use Rattle.lib_os.proofs.Serving.{IsServed, plain_copy, plain_upcall}
use Rattle.lib_os.proofs.SlotsStand.{HasTables, SeenAlike, descriptors_off}
use Rattle.lib_os.proofs.SpawnOwnPages.{spawn_there, spawn_words, spawns_at}
use Rattle.lib_os.proofs.StatesStand.{clients_live, ends_at, others_count, others_counts, own_moves, slot_in_order}
use Rattle.lib_os.proofs.WordsTell.{is_in_handler, place_at}
use Rattle.jos_base.proofs.Maps.{upd-alike, upd-at}
use Rattle.jos_base.proofs.Puts.{Elsewhere, put-at, put-other}

-- ---- another entry, or none, stands there

module _ {names : Names} {s t : SpacesState} {d p : ℕ} {v : Option Entry} (aside : LiesAside p) (puts : Puts names names s t d p v) where
  -- other pages of the space stand as they stood
  pub aside_beside : (q : ℕ) → q ≢ p → rows_of t d q ≡ rows_of s d q
  aside_beside q ne = ap (λ (rows : Rows). rows d q) puts.rows ∙ put-other (rows_of s) d p v d q (λ same. ne)

  pub aside_here : rows_of t d p ≡ v
  aside_here = ap (λ (rows : Rows). rows d p) puts.rows ∙ put-at (rows_of s) d p v

  pub shown_kept : (q : ℕ) → q ≢ p → shown_at names t d q ≡ shown_at names s d q
  shown_kept q other =
      shown_same names names s t d q (aside_beside q other) (λ x hx own_page. puts.bytes d q x (λ same. other) hx) (λ x hx shared_page. refl)

  unseen : (r : SpacesState) → page_seen names r d p ≡ None
  unseen r = ap (λ (c : Bool). seen_where c (shown_at names r d p)) aside.outside

  -- so that the memory and the descriptors are seen as they were
  pub memory_kept : (q : ℕ) → page_seen names t d q ≡ page_seen names s d q
  memory_kept q = by_page (q == p) refl
    where
      by_page : (c : Bool) → (q == p) ≡ c → page_seen names t d q ≡ page_seen names s d q
      by_page true test =
          let same : q ≡ p = grind (arith, nat_tests, test) in
          subst (λ (r : ℕ). page_seen names t d r ≡ page_seen names s d r) (sym same) (unseen t ∙ sym (unseen s))
      by_page false test =
          let other : q ≢ p = grind (arith, nat_tests, test) in ap (seen_where (is_programs q)) (shown_kept q other)

  pub descriptors_kept : (fd : ℕ) → descriptor_seen names t d fd ≡ descriptor_seen names s d fd
  descriptors_kept = descriptors_off names names s t d p aside.no_descriptor shown_kept

  own_kept : (q : ℕ) → q ≢ p → IsOwnWritable (rows_of s d) q → IsOwnWritable (rows_of t d) q
  own_kept q other h = record { entry = h.entry; stands = aside_beside q other ∙ h.stands; own_page = h.own_page; writes = h.writes }

  -- the library's other pages are what they were
  pub pages_kept_aside : (at after : Place) (words words_after : List ℕ) → is_in_handler at ≡ false → is_in_handler after ≡ false →
      has_working at words ≡ has_working after words_after → ((q : ℕ) → q ≢ p → has_spawns at words q ≡ has_spawns after words_after q) →
      (has_spawns after words_after p ≡ true → IsOwnWritable (rows_of t d) p) → (has_spawns after words_after p ≡ false → v ≡ None) →
      LibraryPages at words (rows_of s d) → LibraryPages after words_after (rows_of t d)
  pages_kept_aside at after words words_after outside outside_after works others mine none h = record {
    stack = own_kept (page_number UXSTACK) (λ same. aside.no_stack (sym same)) h.stack;
    copy = λ is. absurd (let contradiction : true ≡ false = sym is ∙ plain_copy after outside_after in cc);
    no_copy = λ is. aside_beside (page_number PFTEMP) (λ same. aside.no_copy (sym same)) ∙ h.no_copy (plain_copy at outside);
    descriptors = λ q entry is stands.
        h.descriptors q entry is
        (sym (aside_beside q (λ same. let contradiction : true ≡ false = sym is ∙ ap is_of_descriptor same ∙ aside.no_descriptor in cc)) ∙ stands);
    working = λ is. own_kept (page_number UTEMP) (λ same. aside.no_working (sym same)) (h.working (works ∙ is));
    no_working = λ is. aside_beside (page_number UTEMP) (λ same. aside.no_working (sym same)) ∙ h.no_working (works ∙ is);
    spawns = λ q is. spawn_page q is (q == p) refl;
    none = λ q outside_it no_descriptor no_stack no_copy no_working no_spawns.
        none_there q outside_it no_descriptor no_stack no_copy no_working no_spawns (q == p) refl;
  }
    where
      spawn_page : (q : ℕ) → has_spawns after words_after q ≡ true → (c : Bool) → (q == p) ≡ c → IsOwnWritable (rows_of t d) q
      spawn_page q is true test =
          let same : q ≡ p = grind (arith, nat_tests, test) in
          subst (λ (r : ℕ). IsOwnWritable (rows_of t d) r) (sym same) (mine (ap (has_spawns after words_after) (sym same) ∙ is))
      spawn_page q is false test =
          let other : q ≢ p = grind (arith, nat_tests, test) in own_kept q other (h.spawns q (others q other ∙ is))

      none_there : (q : ℕ) → is_programs q ≡ false → is_of_descriptor q ≡ false → q ≢ page_number UXSTACK → q ≢ page_number PFTEMP → q ≢ page_number UTEMP →
          has_spawns after words_after q ≡ false → (c : Bool) → (q == p) ≡ c → rows_of t d q ≡ None
      none_there q outside_it no_descriptor no_stack no_copy no_working no_spawns true test =
          let same : q ≡ p = grind (arith, nat_tests, test) in
          ap (rows_of t d) same ∙ aside_here ∙ none (ap (has_spawns after words_after) (sym same) ∙ no_spawns)
      none_there q outside_it no_descriptor no_stack no_copy no_working no_spawns false test =
          let other : q ≢ p = grind (arith, nat_tests, test) in
          aside_beside q other ∙ h.none q outside_it no_descriptor no_stack no_copy no_working (others q other ∙ no_spawns)

-- ---- and spawn has gone on

module _ {names : Names} {s : KernelState} {a : AbstractState} {sp : SpacesState} {v : Option Entry} (h : StandsFor names s a) (n path argv : ℕ)
    (from to : SpawnStep) (stands : place_of (slot_at s n) ≡ spawns_at path argv from) (unborne : spawning_child from ≡ None)
    (unborne_after : spawning_child to ≡ None) (p : ℕ) (aside : LiesAside p) (requests : keeps_request_page from ≡ keeps_request_page to)
    (same_pages : (q : ℕ) → q ≢ p → keeps_page_at from q ≡ keeps_page_at to q)
    (puts : Puts names names s.spaces sp (slot_at s n).directory p v) (last : s.last ≡ Some n) where
  abbrev home : ℕ
  home = (slot_at s n).directory

  abbrev it : IsServed names s a n (service.Spawn path argv) (step.Spawning from)
  it = spawn_there h n path argv from stands

  abbrev moved : Slot
  moved = record (slot_at s n) { extra = spawn_words to }

  abbrev was_at : Place
  was_at = place_of (slot_at s n)

  now_at : place_of moved ≡ spawns_at path argv to
  now_at =
      place_at (slot_at s n).registers SERVICE_SPAWN (step.Spawning to) it.outside
      ∙ ap (λ (x : Service). place.InService x (step.Spawning to)) (named_at (slot_at s n) (service.Spawn path argv) (step.Spawning from) stands)

  plain_was : is_plain was_at ≡ true
  plain_was = unborne_plain was_at (ap is_in_handler stands) (ap borne_in stands ∙ unborne) (ap is_making_pipe stands)

  plain_now : is_plain (place_of moved) ≡ true
  plain_now = unborne_plain (place_of moved) (ap is_in_handler now_at) (ap borne_in now_at ∙ unborne_after) (ap is_making_pipe now_at)

  others : (q : ℕ) → q ≢ home → SeenAlike names names s.spaces sp q
  others = others_seen h n it.b it.is puts

  counts_all : is_clients n (slot_at s n) ≡ true
  counts_all = clients_live h n it.b it.is

  -- all entries count as they did, and this one with them
  counts : (m q : ℕ) → logical sp (upd s.environments.slots n moved) m q ≡ put (logical s.spaces s.environments.slots) n p v m q
  counts = put_is (logical s.spaces s.environments.slots) (logical sp (upd s.environments.slots n moved)) n p v
      (here p ∙ aside_here aside puts) beside
    where
      slot_is : upd s.environments.slots n moved n ≡ moved
      slot_is = upd-at s.environments.slots n moved

      here : (q : ℕ) → logical sp (upd s.environments.slots n moved) n q ≡ rows_of sp home q
      here q =
          logical_plain sp (upd s.environments.slots n moved) n (ap (λ (k : Slot). is_clients n k) slot_is ∙ counts_all)
          (ap (λ (k : Slot). is_plain (place_of k)) slot_is ∙ plain_now) q
          ∙ ap (λ (k : Slot). rows_of sp k.directory q) slot_is

      beside : (m q : ℕ) → Elsewhere m q n p → logical sp (upd s.environments.slots n moved) m q ≡ logical s.spaces s.environments.slots m q
      beside m q ne = by_slot (m == n) refl
        where
          by_slot : (c : Bool) → (m == n) ≡ c → logical sp (upd s.environments.slots n moved) m q ≡ logical s.spaces s.environments.slots m q
          by_slot true test =
              let same : m ≡ n = grind (arith, nat_tests, test) in
              subst (λ (o : ℕ). logical sp (upd s.environments.slots n moved) o q ≡ logical s.spaces s.environments.slots o q) (sym same)
              (here q ∙ aside_beside aside puts q (ne same) ∙ sym (logical_plain s.spaces s.environments.slots n counts_all plain_was q))
          by_slot false test = others_count h n it.b it.is moved others m (grind (arith, nat_tests, test)) q

  places : PlacesAlike was_at (place_of moved)
  places = calm_places (ap is_calm stands) (ap is_calm now_at)

  ends : EndsStand names a.objects (place_of moved) (rows_of sp home) it.b
  ends =
      ends_moved places (λ fd. refl) (λ fd name is. refl)
      (λ fd below. aside_beside aside puts (pipe_page fd)
      (λ same. let pipes : is_of_descriptor (pipe_page fd) ≡ true = grind (arith, nat_tests, below) in
      let contradiction : true ≡ false = sym pipes ∙ ap is_of_descriptor same ∙ aside.no_descriptor in cc))
      (λ fd x below is. refl) (ends_at h n it.b it.is)

  locks : LocksStand sp.pages (upd s.environments.slots n moved) (logical sp (upd s.environments.slots n moved))
  locks =
      locks_beside n p v (let none = aside.no_descriptor in grind (arith, nat_tests, none)) (upd-alike (λ (x : Slot). locked_at (place_of x)) s.environments.slots n moved places.locked) counts
      (bytes_elsewhere h n it.b it.is puts) h.locks

  module _ (mine : keeps_page_at to p ≡ true → IsOwnWritable (rows_of sp home) p) (none : keeps_page_at to p ≡ false → v ≡ None)
      (tables : HasTables sp home it.b.regions) (so : StandsAtSpawn (view_of sp home) moved it.b path argv to) where
    part : StandsForBorn names sp moved it.b
    part =
        let own = it.own in
        record {
          id = own.id;
          id_small = own.id_small;
          parent = own.parent;
          env_type = own.env_type;
          runs = own.runs;
          upcall = own.upcall ∙ plain_upcall was_at (ap is_in_handler stands) ∙ sym (plain_upcall (place_of moved) (ap is_in_handler now_at));
          descriptors = λ fd still.
              descriptors_turned names s.spaces home was_at (place_of moved) it.b.descriptors (ap is_calm stands) (ap is_calm now_at) own.descriptors fd still
              ∙ ap (seen_unless (is_made (place_of moved) fd)) (sym (descriptors_kept aside puts fd));
          memory = λ q. own.memory q ∙ sym (memory_kept aside puts q);
          library = pages_kept_aside aside puts was_at (place_of moved) (slot_at s n).extra (spawn_words to) (ap is_in_handler stands) (ap is_in_handler now_at)
              (ap (λ (q : Place). has_working q (slot_at s n).extra) stands ∙ requests
              ∙ sym (ap (λ (q : Place). has_working q (spawn_words to)) now_at))
              (λ q other. ap (λ (w : Place). has_spawns w (slot_at s n).extra q) stands ∙ same_pages q other
              ∙ sym (ap (λ (w : Place). has_spawns w (spawn_words to) q) now_at))
              (λ is. mine (sym (ap (λ (w : Place). has_spawns w (spawn_words to) p) now_at) ∙ is))
              (λ is. none (sym (ap (λ (w : Place). has_spawns w (spawn_words to) p) now_at) ∙ is)) own.library;
          regions_have = tables.have;
          regions_only = tables.only;
          stack = own.stack;
          flags = own.flags;
          at = subst (λ (q : Place). StandsAt q (view_of sp home) moved it.b) (sym now_at) so;
        }

    pub aside_stands : PutsRow names names s.spaces.pages a.shared sp.pages a.shared (things_in s a) a.next_name a.next_name
        (logical s.spaces s.environments.slots) n p v → IsInOrder (with_spaces s sp) → StandsFor names (with_extra (with_spaces s sp) n (spawn_words to)) a
    aside_stands row in_order =
        subst (λ (x : AbstractState). StandsFor names (with_extra (with_spaces s sp) n (spawn_words to)) x) (born_back a n it.b it.is)
        (own_moves h n it.b it.is sp moved it.b a.shared a.next_name refl (record { id = refl; env_type = refl; turns = refl; calm = λ runs. runs })
        (ap borne_in stands ∙ unborne) (ap borne_in now_at ∙ unborne_after) others part
        (rows_same (put (logical s.spaces s.environments.slots) n p v) (logical sp (upd s.environments.slots n moved)) counts (rows_put (rows_stand h) row))
        (slot_in_order (with_spaces s sp) n moved refl refl in_order) (others_counts h n last sp) ends locks (omega arith)
        (λ fd name names_it. h.old n fd name it.b it.is names_it))
