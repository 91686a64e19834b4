-- The kernel's state goes on standing for the same abstract one where write keeps bytes that it has taken in its page: no other client
-- has the frame of that, and nothing is seen of it. Then its page has more of them, and it goes on by how many it wants.
use Rattle.std.proofs.Common.{◌≡◌, ◌≢◌, ◌∙◌, ◌==◌, ◌&&◌, ◌+◌, ◌-◌, ◌*◌, ◌/◌, ◌%◌, ◌^◌, ◌<◌, ◌≤◌, ℕ, zero, suc, Bool, true, false}
use Rattle.std.proofs.Common.{List, ◌∷◌, [], length, Option, Some, None, Result, Ok, Err, refl, sym, ap, subst, arith, if◌then◌else◌}
use Rattle.std.specs.Prelude.{drop, is_some, nat_le, nat_lt, slice_index, take}
use Rattle.std.specs.Int.{w32, to_le_bytes, byte_at}
use Rattle.std.proofs.Math.Nat.{min-le_right}
use Rattle.std.proofs.lemmas.Bool.Decides.{nat_tests}
use Rattle.std.proofs.lemmas.List.{get_or-drop, get_or-take}
use Rattle.std.proofs.lemmas.Option.{same_Some}
use Rattle.jos_base.specs.declared.memory.Access.{Access}
use Rattle.jos_base.specs.declared.memory.Access.TheVariants.{Read, Write}
use Rattle.jos_base.specs.declared.memory.PageFault.{PageFault}
use Rattle.jos_base.specs.declared.numbers.TheConstants.{FIRST_ENV_ID, NENV, PGSIZE, UTEMP}
use Rattle.jos_base.specs.Counting.{page_limit}
use Rattle.jos_base.specs.Environments.{is_live}
use Rattle.jos_base.specs.KernelState.{KernelState, slot_at, with_extra, with_spaces}
use Rattle.jos_base.specs.Reach.{Entry, FrameOffset, allows}
use Rattle.jos_base.specs.SpacesState.{SpacesState}
use Rattle.jos_base.specs.SystemCalls.{handled, has_write, is_page_perm}
use Rattle.jos_base.specs.UserMemory.{reach_in, touched}
use Rattle.jos_base.specs.Words.{page_number, upd}
use Rattle.lib_os.specs.declared.numbers.TheConstants.{REQUEST_BYTES, SERVICE_WRITE}
use Rattle.lib_os.specs.declared.place.PipeStep.TheVariants as pipe
use Rattle.lib_os.specs.declared.place.Place.{Place}
use Rattle.lib_os.specs.declared.place.Place.TheVariants as place
use Rattle.lib_os.specs.declared.place.Step.{Step}
use Rattle.lib_os.specs.declared.place.Step.TheVariants as step
use Rattle.lib_os.specs.declared.service.Service.{Service}
use Rattle.lib_os.specs.declared.service.Service.TheVariants as service
use Rattle.lib_os.specs.AbstractState.{AbstractSlot, AbstractState, Born, born, free, gathering, in_service, serving, unborn}
use Rattle.lib_os.specs.AbstractState.{is_live as is_live_abstract}
use Rattle.lib_os.specs.DescriptorPages.{lasting_words, place_page}
use Rattle.lib_os.specs.Fence.{in_fence, is_buffer}
use Rattle.lib_os.specs.InOrder.{IsInOrder}
use Rattle.lib_os.specs.LibraryPages.{LibraryPages, IsOwnWritable, View, keeps_page, HasTaken}
use Rattle.lib_os.specs.PipeEnds.{EndsStandAt, LocksStand, is_made}
use Rattle.lib_os.specs.Places.{place_of, words_at}
use Rattle.lib_os.specs.Rows.{EntryRow, Names, Rows, AreBytes, IsPage, rows_of, logical, page_seen, seen_where, shown_at}
use Rattle.lib_os.specs.Rows.{descriptor_seen, is_clients, is_of_descriptor, is_programs, is_shared}
use Rattle.lib_os.specs.StandsFor.{HasChildren, HasServer, StandsForSlot, things_in}
use Rattle.lib_os.specs.StandsFor.{StandsFor, StandsForBorn, StandsAt, StandsAtStep, view_of, HasTakenFrom, IsKeeping, IsTaking, borne_in}
use Rattle.lib_os.specs.StandsFor.{refuses_next, seen_unless}
use Rattle.lib_os.specs.StandsInHandler.{BeginsAt, IsConsoleOpen, IsEndOpen, IsGivenBytes, IsWritableFile, in_file, in_pipe, is_refused_by, on_console}
use Rattle.lib_os.specs.StandsInHandler.{stage_with, wanted_from, wanted_of}
use Rattle.lib_os.specs.UserCalls.{CallStep, got, to_handler, gone, giving, accessing, by_access, faulting, load_byte, store, store_byte, user_byte}
use Rattle.lib_os.specs.UserCalls.{with_bytes_put}
use Rattle.lib_os.proofs.BytesPut.{bytes_put, put_whole, put_before, put_there, spaces_put, put_is, page_put, reached_to_write}
use Rattle.lib_os.proofs.BytesRead.{lasting_reads, lasting_writes}
use Rattle.lib_os.proofs.Children.{borne_moved, same_child}
use Rattle.lib_os.proofs.CopiesStored.{IsRewritten}
use Rattle.lib_os.proofs.Effects.{Quiet}
use Rattle.lib_os.proofs.EntriesCount.{born_entry, entry_counts}
use Rattle.lib_os.proofs.EntriesStand.{RowsStand, named_bytes, rows_turned, shown_same}
use Rattle.lib_os.proofs.EntryWords.{row_entry}
use Rattle.lib_os.proofs.Fences.{buffer_below}
use Rattle.lib_os.proofs.GoingOn.{words_stand}
use Rattle.lib_os.proofs.Logical.{is_plain, logical_alike, logical_plain}
use Rattle.lib_os.proofs.Numbered.{named_at}
use Rattle.lib_os.proofs.PageBytes.{bytes_more, bytes_none, word_bytes}
use Rattle.lib_os.proofs.Serving.{IsServed, holds_page, served, kept_where}
use Rattle.lib_os.proofs.SlotsStand.{CountsKept, SameDevices, SeenAlike, born_at, descriptors_off, given_bytes_kept}
use Rattle.lib_os.proofs.SlotsStand.{library_alike, live_stands, slot_stands}
use Rattle.lib_os.proofs.PipesStand.{is_calm, is_calm_step, locks_same}
use Rattle.lib_os.proofs.StatesStand.{clients_live, directories_apart, others_counts}
use Rattle.lib_os.proofs.Touching.{touched_quiet}
use Rattle.jos_base.proofs.Maps.{upd-at, upd-other}
use Rattle.jos_base.proofs.Puts.{Elsewhere}

-- ---- the bytes of a page that nobody sees

-- All that stands beside what the environment in a slot is at its place, where one of its pages that nobody sees has other bytes.
pub record StandsBeside (names : Names) (s : KernelState) (a : AbstractState) (sp : SpacesState) (n : ℕ) : Type 0 where
  pub others : ((m : ℕ) → m ≢ n → CountsKept s.spaces sp (slot_at s m)) → (m : ℕ) → m ≢ n → StandsForSlot names sp (slot_at s m) (a.slots m)
  pub children : HasChildren names sp s.environments.slots a.slots
  pub entries : RowsStand names sp.pages a.shared (things_in (with_spaces s sp) a) a.next_name (logical sp s.environments.slots)
  pub locks : LocksStand sp.pages s.environments.slots (logical sp s.environments.slots)
  pub server : HasServer sp (slot_at s 0) a.opened a.files.blocks a.server
  pub rows : rows_of sp ≡ rows_of s.spaces
  pub regions : (d r : ℕ) → is_some (sp.regions d r) ≡ is_some (s.spaces.regions d r)
  pub memory : (q : ℕ) → page_seen names sp (slot_at s n).directory q ≡ page_seen names s.spaces (slot_at s n).directory q
  pub descriptors : (fd : ℕ) → descriptor_seen names sp (slot_at s n).directory fd ≡ descriptor_seen names s.spaces (slot_at s n).directory fd
  pub in_order : IsInOrder (with_spaces s sp)

-- A page of an environment's own, which may be written and is neither its program's nor a descriptor's, has other bytes.
module _ {names : Names} {s : KernelState} {a : AbstractState} {sp : SpacesState} (h : StandsFor names s a) (n : ℕ) (b : Born)
    (at : a.slots n ≡ born b) (p : ℕ) (counted : logical s.spaces s.environments.slots n p ≡ rows_of s.spaces (slot_at s n).directory p)
    (outside : is_programs p ≡ false) (other : is_of_descriptor p ≡ false) (e : Entry) (e_is : rows_of s.spaces (slot_at s n).directory p ≡ Some e)
    (own_page : is_shared e.perm ≡ false) (writes : has_write e.perm ≡ true) (bytes : List ℕ) (is_page : IsPage bytes)
    (rewritten : IsRewritten s.spaces sp e.frame bytes) (in_order : IsInOrder (with_spaces s sp)) where
  abbrev d : ℕ
  d = (slot_at s n).directory

  abbrev before : Rows
  before = logical s.spaces s.environments.slots

  own : StandsForBorn names s.spaces (slot_at s n) b
  own = born_at h n b at

  client : is_clients n (slot_at s n) ≡ true
  client = clients_live h n b at

  -- it counts as it stands
  it_counts : before n p ≡ Some e
  it_counts = counted ∙ e_is

  -- nothing else that counts has the frame
  alone : (m q : ℕ) (x : Entry) → Elsewhere m q n p → before m q ≡ Some x → x.frame ≢ e.frame
  alone m q x ne hx same =
      let agrees = h.apart m q n p x e ne hx it_counts same in
      let contradiction : true ≡ false = sym writes ∙ (agrees.read_only (agrees.shared ∙ own_page)).1 in cc

  row_kept : (q r : ℕ) → rows_of sp q r ≡ rows_of s.spaces q r
  row_kept q r = ap (λ (rows : Rows). rows q r) rewritten.rows

  bytes_kept : (f : ℕ) → f ≢ e.frame → sp.pages f ≡ s.spaces.pages f
  bytes_kept f ne = ap (λ (pages : ℕ → List ℕ). pages f) rewritten.pages ∙ upd-other s.spaces.pages e.frame bytes f ne

  bytes_are : sp.pages e.frame ≡ bytes
  bytes_are = ap (λ (pages : ℕ → List ℕ). pages e.frame) rewritten.pages ∙ upd-at s.spaces.pages e.frame bytes

  -- the other pages of the space have the bytes that they had
  pub own_beside : (q : ℕ) (x : Entry) → q ≢ p → rows_of s.spaces d q ≡ Some x → sp.pages x.frame ≡ s.spaces.pages x.frame
  own_beside q x ne hx =
      let found = born_entry h n b at q x hx in
      let apart : Elsewhere found.slot found.page n p =
      λ same too. ne (sym (found.beside (ap is_programs too ∙ outside)) ∙ too) in
      bytes_kept x.frame (λ same. alone found.slot found.page found.entry apart found.counts (found.frame ∙ same))

  pub rewritten_devices : SameDevices (view_of s.spaces d) (view_of sp d)
  rewritten_devices q x descriptor no_pipe hx =
      ap lasting_words
      (own_beside q x (λ same. let contradiction : true ≡ false = sym descriptor ∙ ap is_of_descriptor same ∙ other in cc) hx)

  -- nothing that is seen of other clients' spaces differs; the file server may have the frame
  others : (q : ℕ) → q ≢ d → q ≢ (slot_at s 0).directory → SeenAlike names names s.spaces sp q
  others q ne not_servers = record {
    rows = ap (λ (rows : Rows). rows q) rewritten.rows;
    bytes = λ r x hx own_too. elsewhere r x hx;
    named_so = λ r x hx shared_page. refl;
    devices = λ r x descriptor hx shared_page. ap lasting_words (elsewhere r x hx);
    pipes = λ r x pipes hx shared_page. elsewhere r x hx;
    regions = rewritten.regions q;
  }
    where
      elsewhere : (r : ℕ) (x : Entry) → rows_of s.spaces q r ≡ Some x → sp.pages x.frame ≡ s.spaces.pages x.frame
      elsewhere r x hx =
          let found = entry_counts h q r x not_servers hx in
          let other : Elsewhere found.slot found.page n p =
          λ same. absurd (ne (sym (found.home n b at same))) in
          bytes_kept x.frame (λ same. alone found.slot found.page found.entry other found.counts (found.frame ∙ same))

  -- so that their slots stand for what they stood for
  other_seen : (m : ℕ) → m ≢ n → 0 ≢ m → is_live_abstract (a.slots m) ≡ true → SeenAlike names names s.spaces sp (slot_at s m).directory
  other_seen m ne not_first live =
      others (slot_at s m).directory (directories_apart h n b at m ne live)
      (λ same. not_first (h.in_order.spaces.apart 0 m servers_live (live_stands h m ∙ live) (sym same)))
    where
      servers_live : is_live (slot_at s 0) ≡ true
      servers_live = live_stands h 0 ∙ ap (λ (x : AbstractSlot). is_live_abstract x) h.first

  not_servers_slot : (m : ℕ) (slot : AbstractSlot) → a.slots m ≡ slot → slot ≢ serving FIRST_ENV_ID → 0 ≢ m
  not_servers_slot m slot is other first = other (sym is ∙ ap a.slots (sym first) ∙ h.first)

  other_stands : ((m : ℕ) → m ≢ n → CountsKept s.spaces sp (slot_at s m)) → (m : ℕ) → m ≢ n → (slot : AbstractSlot) → a.slots m ≡ slot →
      StandsForSlot names s.spaces (slot_at s m) slot →
      StandsForSlot names sp (slot_at s m) slot
  other_stands counts m ne (free id) is so = so
  other_stands counts m ne (unborn id parent) is so = so
  other_stands counts m ne (serving id) is so = so
  other_stands counts m ne (born c) is so =
      slot_stands names names s.spaces sp (slot_at s m) (born c) so (λ live. other_seen m ne
      (not_servers_slot m (born c) is (λ same. let contradiction : born c ≡ serving FIRST_ENV_ID = same in cc))
      (ap (λ (x : AbstractSlot). is_live_abstract x) is)) (counts m ne)

  -- and children are borne as they were
  children_so : HasChildren names sp s.environments.slots a.slots
  children_so = record {
    borne = λ m id parent is.
        borne_moved (slot_at s (parent % NENV)) (a.slots (parent % NENV)) (slot_at s m) refl refl refl
        (λ q. ap (λ (rows : Rows). rows (slot_at s (parent % NENV)).directory q) rewritten.rows)
        (same_child (slot_at s m) (slot_at s m) refl)
        (other_seen m (λ same. let contradiction : unborn id parent ≡ born b = sym is ∙ ap a.slots same ∙ at in cc)
        (not_servers_slot m (unborn id parent) is (λ same. let contradiction : unborn id parent ≡ serving FIRST_ENV_ID = same in cc))
        (ap (λ (x : AbstractSlot). is_live_abstract x) is))
        (h.children.borne m id parent is);
    have = h.children.have;
  }

  server_so : HasServer sp (slot_at s 0) a.opened a.files.blocks a.server
  server_so =
      let same : rows_of sp (slot_at s 0).directory ≡ rows_of s.spaces (slot_at s 0).directory =
      ap (λ (rows : Rows). rows (slot_at s 0).directory) rewritten.rows in
      record {
        status = h.server.status;
        pages = λ q is. h.server.pages q (ap (λ (r : EntryRow). is_some (r q)) (sym same) ∙ is);
        tables = λ r is. h.server.tables r (sym (rewritten.regions (slot_at s 0).directory r) ∙ is);
        alone = λ j q x y below there here.
            h.server.alone j q x y below (ap (λ (r : EntryRow). r (place_page j)) (sym same) ∙ there) (ap (λ (r : EntryRow). r q) (sym same) ∙ here);
      }

  shown_kept : (q : ℕ) → q ≢ p → shown_at names sp d q ≡ shown_at names s.spaces d q
  shown_kept q ne =
      shown_same names names s.spaces sp d q (row_kept d q) (λ x hx own_too. own_beside q x ne hx) (λ x hx shared_page. refl)

  unseen : (t : SpacesState) → page_seen names t d p ≡ None
  unseen t = ap (λ (c : Bool). seen_where c (shown_at names t d p)) outside

  memory_kept : (q : ℕ) → page_seen names sp d q ≡ page_seen names s.spaces d q
  memory_kept q = by_page (q == p) refl
    where
      by_page : (c : Bool) → (q == p) ≡ c → page_seen names sp d q ≡ page_seen names s.spaces d q
      by_page true test =
          let same : q ≡ p = grind (arith, nat_tests) in
          subst (λ (r : ℕ). page_seen names sp d r ≡ page_seen names s.spaces d r) (sym same) (unseen sp ∙ sym (unseen s.spaces))
      by_page false test =
          let ne : q ≢ p = grind (arith, nat_tests) in ap (seen_where (is_programs q)) (shown_kept q ne)

  -- all entries count as they did
  counts_kept : (m q : ℕ) → logical sp s.environments.slots m q ≡ before m q
  counts_kept m q =
      logical_alike s.spaces sp s.environments.slots s.environments.slots m refl refl
      (λ lives. ap (λ (rows : Rows). rows (slot_at s m).directory) rewritten.rows) q

  counted_bytes : (m q : ℕ) (x : Entry) → before m q ≡ Some x → is_shared x.perm ≡ true → sp.pages x.frame ≡ s.spaces.pages x.frame
  counted_bytes m q x hx shared_page = bytes_kept x.frame not_it
    where
      not_here : Elsewhere m q n p
      not_here same too =
          let it : e ≡ x = same_Some e x (sym it_counts ∙ (λ i. before (sym same i) (sym too i)) ∙ hx) in
          let contradiction : false ≡ true = sym own_page ∙ ap (λ (y : Entry). is_shared y.perm) it ∙ shared_page in cc

      not_it : x.frame ≢ e.frame
      not_it = alone m q x not_here hx

  as_whole : (m q : ℕ) (x : Entry) → before m q ≡ Some x → IsPage (sp.pages x.frame)
  as_whole m q x hx = by_frame (x.frame == e.frame) refl
    where
      by_frame : (c : Bool) → (x.frame == e.frame) ≡ c → IsPage (sp.pages x.frame)
      by_frame true test =
          let same : x.frame ≡ e.frame = grind (arith, nat_tests) in
          subst (λ (page : List ℕ). IsPage page) (sym (ap sp.pages same ∙ bytes_are)) is_page
      by_frame false test =
          subst (λ (page : List ℕ). IsPage page) (sym (bytes_kept x.frame (grind (arith, nat_tests)))) (h.whole m q x hx)

  rows_kept : RowsStand names sp.pages a.shared (things_in s a) a.next_name (logical sp s.environments.slots)
  rows_kept = record {
    apart = λ m o q r x y ne hx hy same. h.apart m o q r x y ne (sym (counts_kept m o) ∙ hx) (sym (counts_kept q r) ∙ hy) same;
    named = λ m q x hx shared_page.
        let it : before m q ≡ Some x = sym (counts_kept m q) ∙ hx in
        named_bytes (sym (counted_bytes m q x it shared_page)) (h.named m q x it shared_page);
    users = λ m q x hx. h.users m q x (sym (counts_kept m q) ∙ hx);
    whole = λ m q x hx. as_whole m q x (sym (counts_kept m q) ∙ hx);
    beside = λ m q r x y hx is. h.beside m q r x y (sym (counts_kept m q) ∙ hx) is;
  }

  rows_so : RowsStand names sp.pages a.shared (things_in (with_spaces s sp) a) a.next_name (logical sp s.environments.slots)
  rows_so = rows_turned {things = things_in s a} (ap (λ (rows : Rows). rows (slot_at s 0).directory) rewritten.rows) rows_kept

  pub stands_beside : StandsBeside names s a sp n
  stands_beside = record {
    others = λ counts m ne. other_stands counts m ne (a.slots m) refl (h.slots m);
    children = children_so;
    entries = rows_so;
    locks = locks_same (λ m. refl) (λ m q pipes. counts_kept m q) (λ m q x pipes hx shared_page. counted_bytes m q x hx shared_page) h.locks;
    server = server_so;
    rows = rewritten.rows;
    regions = rewritten.regions;
    memory = memory_kept;
    descriptors = descriptors_off names names s.spaces sp d p other shown_kept;
    in_order = in_order;
  }

  -- The same is so of it, where it stands so at its place.
  pub unseen_rewritten : ((m : ℕ) → m ≢ n → CountsKept s.spaces sp (slot_at s m)) →
      StandsAt (place_of (slot_at s n)) (view_of sp (slot_at s n).directory) (slot_at s n) b → StandsFor names (with_spaces s sp) a
  unseen_rewritten counts so = record {
    slots = λ m. by_slot m (m == n) refl;
    children = children_so;
    apart = rows_so.apart;
    named = rows_so.named;
    users = rows_so.users;
    whole = rows_so.whole;
    beside = rows_so.beside;
    ends = λ m. subst (λ (row : EntryRow). EndsStandAt names a.objects (place_of (slot_at s m)) row (a.slots m))
        (sym (ap (λ (rows : Rows). rows (slot_at s m).directory) rewritten.rows)) (h.ends m);
    locks = locks_same (λ m. refl) (λ m q pipes. counts_kept m q) (λ m q x pipes hx shared_page. counted_bytes m q x hx shared_page) h.locks;
    runs = h.runs;
    old = h.old;
    free_slots = h.free_slots;
    first = h.first;
    server = server_so;
    input = h.input;
    last = h.last;
    turns = h.turns;
    tabled = h.tabled;
    in_order = in_order;
  }
    where
      mine : StandsForBorn names sp (slot_at s n) b
      mine = record {
        id = own.id;
        id_small = own.id_small;
        parent = own.parent;
        env_type = own.env_type;
        runs = own.runs;
        upcall = own.upcall;
        descriptors = λ fd kept. own.descriptors fd kept
            ∙ sym (ap (seen_unless (is_made (place_of (slot_at s n)) fd)) (descriptors_off names names s.spaces sp d p other shown_kept fd));
        memory = λ q. own.memory q ∙ sym (memory_kept q);
        library = library_alike (place_of (slot_at s n)) (slot_at s n).extra (rows_of s.spaces d) (rows_of sp d)
            (ap (λ (rows : Rows). rows d) rewritten.rows) own.library;
        regions_have = λ r is. rewritten.regions d r ∙ own.regions_have r is;
        regions_only = λ r is. own.regions_only r (sym (rewritten.regions d r) ∙ is);
        stack = own.stack;
        flags = own.flags;
        at = so;
      }

      by_slot : (m : ℕ) (c : Bool) → (m == n) ≡ c → StandsForSlot names sp (slot_at s m) (a.slots m)
      by_slot m true test =
          let same : m ≡ n = grind (arith, nat_tests) in
          subst (λ (o : ℕ). StandsForSlot names sp (slot_at s o) (a.slots o)) (sym same)
          (subst (λ (slot : AbstractSlot). StandsForSlot names sp (slot_at s n) slot) (sym at) mine)
      by_slot m false test = other_stands counts m (grind (arith, nat_tests)) (a.slots m) refl (h.slots m)

-- ---- bytes that are put in a page

-- an entry of a row, by which its page may be written
record WritesBy (s : SpacesState) (d p : ℕ) (row : Entry) : Type 0 where
  entry : Entry
  stands : s.entries d p ≡ Some entry
  frame : entry.frame ≡ row.frame
  may : allows entry.perm Write ≡ true

writes_by : (s : SpacesState) (d p : ℕ) (row : Entry) → rows_of s d p ≡ Some row → is_page_perm row.perm ≡ true → has_write row.perm ≡ true →
    WritesBy s d p row
writes_by s d p row is user writes =
    let raw = row_entry s d p row is in
    let reads = lasting_reads raw.0.perm (ap (λ (e : Entry). is_page_perm e.perm) raw.2 ∙ user) in
    record {
      entry = raw.0;
      stands = raw.1;
      frame = ap (λ (e : Entry). e.frame) raw.2;
      may = lasting_writes raw.0.perm reads ∙ ap (λ (e : Entry). has_write e.perm) raw.2 ∙ writes;
    }

put_rewritten : (s t : SpacesState) (d p at : ℕ) (row : Entry) (bytes : List ℕ) → p < page_limit → Quiet s t → (by_entry : WritesBy t d p row) →
    at + length bytes ≤ PGSIZE → IsRewritten s (spaces_put t d (p * PGSIZE + at) bytes) row.frame (bytes_put (s.pages row.frame) at bytes)
unfolding rows_of
put_rewritten s t d p at row bytes below quiet by_entry fits =
    let e = by_entry.entry in
    subst (λ (z : SpacesState). IsRewritten s z row.frame (bytes_put (s.pages row.frame) at bytes))
    (sym (page_put d p e below by_entry.may t at bytes by_entry.stands fits))
    (record {
      rows = quiet.rows;
      pages = λ i. upd (quiet.pages i) (by_entry.frame i) (bytes_put (quiet.pages i (by_entry.frame i)) at bytes);
      regions = quiet.regions;
    })

-- What a store comes to that puts bytes in the page of an entry, from a place on.
pub record PutsBytes (s : KernelState) (n : ℕ) (row : Entry) (at : ℕ) (bytes : List ℕ) (step : CallStep (Unit {0})) : Type 0 where
  pub spaces : SpacesState
  pub rewritten : IsRewritten s.spaces spaces row.frame (bytes_put (s.spaces.pages row.frame) at bytes)
  pub step_is : step ≡ giving (with_spaces s spaces) tt

-- a page that may be written
module _ (s : KernelState) (n p : ℕ) (below : p < page_limit) (row : Entry) (row_is : rows_of s.spaces (slot_at s n).directory p ≡ Some row)
    (user : is_page_perm row.perm ≡ true) (writes : has_write row.perm ≡ true) (at : ℕ) (there : at < PGSIZE) where
  abbrev dir : ℕ
  dir = (slot_at s n).directory

  abbrev va : ℕ
  va = p * PGSIZE + at

  -- the spaces in which the access has set its bits
  abbrev reached : SpacesState
  reached = touched s.spaces dir va Write

  number : page_number va ≡ p
  number = omega (arith, there)

  module _ (bytes : List ℕ) (fits : at + length bytes ≤ PGSIZE) where
    abbrev put : SpacesState
    put = spaces_put reached dir va bytes

    access_is : by_access {X = Unit {0}} s n va Write (λ after. giving (with_bytes_put after n va bytes) tt) ≡ giving (with_spaces s put) tt
    access_is =
        let it = writes_by s.spaces dir p row row_is user writes in
        ap (accessing s n va Write (λ (k : KernelState). giving (with_bytes_put k n va bytes) tt))
        (reached_to_write s.spaces dir va it.entry (subst (λ (q : ℕ). q < page_limit) (sym number) below)
        (ap (s.spaces.entries dir) number ∙ it.stands) it.may)
        ∙ ap (λ (k : KernelState). giving k tt) (put_is (with_spaces s reached) n va bytes)

    access_puts : PutsBytes s n row at bytes (by_access {X = Unit {0}} s n va Write (λ after. giving (with_bytes_put after n va bytes) tt))
    access_puts =
        let quiet = touched_quiet s.spaces dir va Write in
        let later : WritesBy reached dir p row =
        writes_by reached dir p row (ap (λ (rows : Rows). rows dir p) quiet.rows ∙ row_is) user writes in
        record {
          spaces = put;
          rewritten = put_rewritten s.spaces reached dir p at row bytes below quiet later fits;
          step_is = access_is;
        }

  pub store_puts : (word : ℕ) → at + 4 ≤ PGSIZE → PutsBytes s n row at (to_le_bytes w32 word) (store s n (p * PGSIZE + at) word)
  unfolding store
  store_puts word fits = access_puts (to_le_bytes w32 word) fits

  pub store_byte_puts : (byte : ℕ) → PutsBytes s n row at (byte ∷ []) (store_byte s n (p * PGSIZE + at) byte)
  unfolding store_byte
  store_byte_puts byte = access_puts (byte ∷ []) (omega (arith, there))

-- ---- what an access leaves

-- An access that is done leaves the table of environments.
access_slots : {X : Type 0} (s : KernelState) (n va : ℕ) (access : Access) (done : KernelState → CallStep X) (x : X) →
    ((t : SpacesState) (m : ℕ) → slot_at (done (with_spaces s t)).state m ≡ slot_at s m) → (by_access s n va access done).gives ≡ got x →
    (m : ℕ) → slot_at (by_access s n va access done).state m ≡ slot_at s m
access_slots {X = X} s n va access done x same is = by_reach (reach_in s.spaces (slot_at s n).directory va access) is
  where
    by_handler : (fault : PageFault) (o : Option KernelState) → (faulting {X = X} s n fault o).gives ≡ got x →
        (m : ℕ) → slot_at (faulting {X = X} s n fault o).state m ≡ slot_at s m
    by_handler fault (Some after) e = absurd (let contradiction : to_handler ≡ got x = e in cc)
    by_handler fault None e = absurd (let contradiction : gone ≡ got x = e in cc)

    by_reach : (r : Result FrameOffset PageFault) → (accessing s n va access done r).gives ≡ got x →
        (m : ℕ) → slot_at (accessing s n va access done r).state m ≡ slot_at s m
    by_reach (Ok location) e m = same (touched s.spaces (slot_at s n).directory va access) m
    by_reach (Err fault) e m = by_handler fault (handled s n fault) e m

pub load_byte_slots : (s : KernelState) (n va x : ℕ) → (load_byte s n va).gives ≡ got x →
    (m : ℕ) → slot_at (load_byte s n va).state m ≡ slot_at s m
unfolding load_byte
load_byte_slots s n va x is = access_slots s n va Read (λ after. giving after (user_byte after n va)) x (λ t m. refl) is

put_slots : (s : KernelState) (n va : ℕ) (bytes : List ℕ) (t : SpacesState) (m : ℕ) →
    slot_at (with_bytes_put (with_spaces s t) n va bytes) m ≡ slot_at s m
put_slots s n va bytes t m = ap (λ (k : KernelState). slot_at k m) (put_is (with_spaces s t) n va bytes)

pub store_slots : (s : KernelState) (n va word : ℕ) (x : Unit {0}) → (store s n va word).gives ≡ got x →
    (m : ℕ) → slot_at (store s n va word).state m ≡ slot_at s m
unfolding store
store_slots s n va word x is =
    access_slots s n va Write (λ after. giving (with_bytes_put after n va (to_le_bytes w32 word)) tt) x (put_slots s n va (to_le_bytes w32 word)) is

pub store_byte_slots : (s : KernelState) (n va byte : ℕ) (x : Unit {0}) → (store_byte s n va byte).gives ≡ got x →
    (m : ℕ) → slot_at (store_byte s n va byte).state m ≡ slot_at s m
unfolding store_byte
store_byte_slots s n va byte x is =
    access_slots s n va Write (λ after. giving (with_bytes_put after n va (byte ∷ [])) tt) x (put_slots s n va (byte ∷ [])) is

-- ---- the bytes of a word

-- the next byte of a word is the first of the word behind it
byte_next : (i word : ℕ) → i < 3 → byte_at i (word / 256) ≡ byte_at (suc i) word
byte_next zero word few = omega arith
byte_next (suc zero) word few = omega arith
byte_next (suc (suc zero)) word few = omega arith
byte_next (suc (suc (suc i))) word few = absurd (omega (arith, few))

-- those behind the first
bytes_behind : (word left : ℕ) → left ≤ 3 → take left (to_le_bytes w32 (word / 256)) ≡ drop 1 (take (suc left) (to_le_bytes w32 word))
bytes_behind word zero few = refl
bytes_behind word (suc zero) few = λ i. byte_next 0 word (omega arith) i ∷ []
bytes_behind word (suc (suc zero)) few = λ i. byte_next 0 word (omega arith) i ∷ byte_next 1 word (omega arith) i ∷ []
bytes_behind word (suc (suc (suc zero))) few =
    λ i. byte_next 0 word (omega arith) i ∷ byte_next 1 word (omega arith) i ∷ byte_next 2 word (omega arith) i ∷ []
bytes_behind word (suc (suc (suc (suc left)))) few = absurd (omega (arith, few))

drop_one : (n : ℕ) (bytes : List ℕ) → drop 1 (drop n bytes) ≡ drop (suc n) bytes
drop_one zero bytes = refl
drop_one (suc n) [] = refl
drop_one (suc n) (byte ∷ rest) = drop_one n rest

-- Of the bytes from a place on, which are the lowest of a word, the first is taken away.
pub word_behind : (bytes : List ℕ) (done word left : ℕ) → left ≤ 3 → take (suc left) (to_le_bytes w32 word) ≡ drop done bytes →
    take left (to_le_bytes w32 (word / 256)) ≡ drop (done + 1) bytes
word_behind bytes done word left few is =
    let next : suc done ≡ done + 1 = omega arith in
    bytes_behind word left few ∙ ap (λ (l : List ℕ). drop 1 l) is ∙ drop_one done bytes ∙ ap (λ (m : ℕ). drop m bytes) next

-- each of them
pub word_byte : (bytes : List ℕ) (done word left i : ℕ) → take left (to_le_bytes w32 word) ≡ drop done bytes → i < left →
    slice_index (to_le_bytes w32 word) i ≡ slice_index bytes (done + i)
word_byte bytes done word left i is lt =
    sym (get_or-take left (to_le_bytes w32 word) i 0 lt)
    ∙ ap (λ (l : List ℕ). slice_index l i) is
    ∙ get_or-drop done bytes i 0

-- The first bytes stand in a page, and the next are put behind them.
pub more_there : (page bytes put : List ℕ) (done : ℕ) → done + length put ≤ length page →
    ((i : ℕ) → i < done → slice_index page i ≡ slice_index bytes i) →
    ((i : ℕ) → i < length put → slice_index put i ≡ slice_index bytes (done + i)) →
    (i : ℕ) → i < done + length put → slice_index (bytes_put page done put) i ≡ slice_index bytes i
more_there page bytes put done fits first next i lt = by_place (nat_lt i done) refl
  where
    by_place : (c : Bool) → nat_lt i done ≡ c → slice_index (bytes_put page done put) i ≡ slice_index bytes i
    by_place true test =
        let before : i < done = grind (arith, nat_tests) in put_before page done put i before ∙ first i before
    by_place false test =
        let later : done ≤ i = grind (arith, nat_tests) in
        let place : i ≡ done + (i - done) = omega (arith, later) in
        let lower : i - done < length put = omega (arith, lt, later) in
        subst (λ (j : ℕ). slice_index (bytes_put page done put) j ≡ slice_index bytes j) (sym place)
        (put_there page done put (i - done) lower fits ∙ next (i - done) lower)

-- The same from another place in the page on.
more_from : (page bytes put : List ℕ) (start done : ℕ) → start + done + length put ≤ length page →
    ((i : ℕ) → i < done → slice_index page (start + i) ≡ slice_index bytes i) →
    ((i : ℕ) → i < length put → slice_index put i ≡ slice_index bytes (done + i)) →
    (i : ℕ) → i < done + length put → slice_index (bytes_put page (start + done) put) (start + i) ≡ slice_index bytes i
more_from page bytes put start done fits first next i lt = by_place (nat_lt i done) refl
  where
    by_place : (c : Bool) → nat_lt i done ≡ c → slice_index (bytes_put page (start + done) put) (start + i) ≡ slice_index bytes i
    by_place true test =
        let before : i < done = grind (arith, nat_tests) in
        put_before page (start + done) put (start + i) (omega (arith, before)) ∙ first i before
    by_place false test =
        let later : done ≤ i = grind (arith, nat_tests) in
        let place : start + i ≡ start + done + (i - done) = omega (arith, later) in
        let same : i ≡ done + (i - done) = omega (arith, later) in
        let lower : i - done < length put = omega (arith, lt, later) in
        ap (slice_index (bytes_put page (start + done) put)) place
        ∙ put_there page (start + done) put (i - done) lower fits ∙ next (i - done) lower ∙ sym (ap (slice_index bytes) same)

-- They begin at its beginning.
from_start : (w : View) (start : ℕ) (bytes : List ℕ) (n : ℕ) → start % PGSIZE ≡ 0 → HasTakenFrom w start bytes n → HasTaken w bytes n
from_start w start bytes n beginning h = record {
  entry = h.entry;
  stands = h.stands;
  own_page = h.own_page;
  same = λ i lt. let same : i ≡ start % PGSIZE + i = omega (arith, beginning) in ap (slice_index (w.bytes h.entry.frame)) same ∙ h.same i lt;
}

-- ---- what write keeps, and where it goes on

-- how many of the bytes that are left of a word are put into the page at once
abbrev pub kept_at_once : ℕ → ℕ → ℕ
kept_at_once done left = if (done % 4 == 0) && (left == 4) then 4 else 1

-- the store of them
abbrev pub keeping : KernelState → ℕ → ℕ → ℕ → ℕ → CallStep (Unit {0})
keeping s n done word left =
    if kept_at_once done left == 4 then store s n (UTEMP + done % PGSIZE) word else store_byte s n (UTEMP + done % PGSIZE) (word % 256)

-- where it is done, environments have what they had
pub keeping_slots : (s : KernelState) (n done word left : ℕ) (x : Unit {0}) → (keeping s n done word left).gives ≡ got x →
    (m : ℕ) → slot_at (keeping s n done word left).state m ≡ slot_at s m
keeping_slots s n done word left x = by_kept (kept_at_once done left == 4)
  where
    by_kept : (c : Bool) →
        (if c then store s n (UTEMP + done % PGSIZE) word else store_byte s n (UTEMP + done % PGSIZE) (word % 256)).gives ≡ got x →
        (m : ℕ) → slot_at (if c then store s n (UTEMP + done % PGSIZE) word else store_byte s n (UTEMP + done % PGSIZE) (word % 256)).state m
        ≡ slot_at s m
    by_kept true is = store_slots s n (UTEMP + done % PGSIZE) word x is
    by_kept false is = store_byte_slots s n (UTEMP + done % PGSIZE) (word % 256) x is

-- its page has all bytes
abbrev pub step_with_all : ℕ → Step
step_with_all start =
    if start == 0 then step.Printing
    else if start == PGSIZE then step.Piped (pipe.Locking 0 0 0)
    else step.ReadingNumber

-- its page has so many bytes; at the next page of the buffer it looks at that
abbrev pub step_behind : ℕ → ℕ → ℕ → ℕ → Step
step_behind va len start done =
    if nat_le (wanted_from start len) done then step_with_all start
    else if (va + done) % 2 ^ 32 % PGSIZE == 0 then step.BufferRegion done start
    else step.GatheringBytes done start

-- where the next byte is put in its page
abbrev pub place_in : ℕ → ℕ → ℕ
place_in start done = (start + done) % 2 ^ 32

abbrev pub step_behind_keeping : ℕ → ℕ → ℕ → ℕ → ℕ → ℕ → Step
step_behind_keeping va len start done word left =
    let kept = kept_at_once (place_in start done) left in
    let behind = (done + kept) % 2 ^ 32 in
    if nat_le left kept then step_behind va len start behind else step.KeepingBytes behind (word / 256) (left - kept) start

-- What it comes to: the store gives nothing, and the state behind it stands for the same abstract one at the next step.
pub record IsKept (names : Names) (s : KernelState) (a : AbstractState) (n va len start done word left : ℕ) : Type 0 where
  pub spaces : SpacesState
  pub step_is : keeping s n (place_in start done) word left ≡ giving (with_spaces s spaces) tt
  pub stands : IsInOrder (with_spaces s spaces) → s.last ≡ Some n →
      StandsFor names (with_extra (with_spaces s spaces) n (words_at SERVICE_WRITE (step_behind_keeping va len start done word left))) a

-- ---- the page of write

-- where it is
abbrev pub working_page : ℕ
working_page = page_number UTEMP

pub working_outside : is_programs working_page ≡ false
unfolding in_fence
working_outside = refl

pub working_no_descriptor : is_of_descriptor working_page ≡ false
working_no_descriptor = refl

pub working_below : working_page < page_limit
unfolding page_limit
working_below = omega arith

module _ {names : Names} {s : KernelState} {a : AbstractState} (h : StandsFor names s a) (n fd va len start done word left : ℕ)
    (stands : place_of (slot_at s n) ≡ place.InService (service.Write fd va len) (step.KeepingBytes done word left start)) where
  abbrev home : ℕ
  home = (slot_at s n).directory

  abbrev writing : Service
  writing = service.Write fd va len

  abbrev row : EntryRow
  row = rows_of s.spaces home

  abbrev v : IsServed names s a n (service.Write fd va len) (step.KeepingBytes done word left start)
  v = served h n (service.Write fd va len) (step.KeepingBytes done word left start) stands

  it : IsKeeping (view_of s.spaces home) (slot_at s n) v.b fd va len start done word left
  it = v.at

  page : IsOwnWritable (rows_of s.spaces home) working_page
  page =
      let library : LibraryPages (place.InService writing (step.KeepingBytes done word left start)) (slot_at s n).extra row =
      subst (λ (q : Place). LibraryPages q (slot_at s n).extra row) stands v.own.library in
      library.working refl

  page_counts : logical s.spaces s.environments.slots n working_page ≡ Some page.entry
  page_counts = logical_plain s.spaces s.environments.slots n (clients_live h n v.b v.is) (ap is_plain stands) working_page ∙ page.stands

  page_whole : IsPage (s.spaces.pages page.entry.frame)
  page_whole = h.whole n working_page page.entry page_counts

  -- where they begin in the page
  abbrev from : ℕ
  from = start % PGSIZE

  -- they end there
  few : from + done + left ≤ 4096
  few =
      let most = min-le_right len (PGSIZE - start % PGSIZE) in
      let less = it.few in
      let many = it.many in
      omega (arith, most, less, many)

  -- where the next byte is put
  abbrev at_place : ℕ
  at_place = place_in start done

  at_is : at_place % PGSIZE ≡ from + done
  at_is = let all = few in let more = it.some in omega (arith, all, more)

  -- so many bytes are put there, which are the next of those that were taken
  module _ (kept : ℕ) (put : List ℕ) (some : 0 < kept) (most : kept ≤ left) (long : length put ≡ kept) (small : AreBytes put)
      (next : (i : ℕ) → i < length put → slice_index put i ≡ slice_index it.bytes (done + i))
      (rest : kept < left → take (left - kept) (to_le_bytes w32 (word / 256)) ≡ drop (done + kept) it.bytes)
      (call : CallStep (Unit {0})) (puts : PutsBytes s n page.entry (from + done) put call) (order : IsInOrder (with_spaces s puts.spaces))
      (turn : s.last ≡ Some n) where
    abbrev sp : SpacesState
    sp = puts.spaces

    abbrev now : List ℕ
    now = bytes_put (s.spaces.pages page.entry.frame) (from + done) put

    row_same : rows_of sp home ≡ row
    row_same = ap (λ (rows : Rows). rows home) puts.rewritten.rows

    now_whole : IsPage now
    now_whole = put_whole (s.spaces.pages page.entry.frame) (from + done) put small page_whole

    now_is : sp.pages page.entry.frame ≡ now
    now_is =
        ap (λ (pages : ℕ → List ℕ). pages page.entry.frame) puts.rewritten.pages ∙ upd-at s.spaces.pages page.entry.frame now

    before_there : (i : ℕ) → i < done → slice_index (s.spaces.pages page.entry.frame) (from + i) ≡ slice_index it.bytes i
    before_there i lt =
        let same : it.kept.entry ≡ page.entry = same_Some it.kept.entry page.entry (sym it.kept.stands ∙ page.stands) in
        (λ j. slice_index (s.spaces.pages (sym same j).frame) (from + i)) ∙ it.kept.same i lt

    all_there : (i : ℕ) → i < done + kept → slice_index now (from + i) ≡ slice_index it.bytes i
    all_there i lt =
        more_from (s.spaces.pages page.entry.frame) it.bytes put from done
        (let whole = page_whole.long in let all = few in omega (arith, whole, all, long, most)) before_there next i (omega (arith, lt, long))

    taken : (m : ℕ) → m ≤ done + kept → HasTakenFrom (view_of sp home) start it.bytes m
    taken m most = record {
      entry = page.entry;
      stands = ap (λ (r : EntryRow). r working_page) row_same ∙ page.stands;
      own_page = page.own_page;
      same = λ i lt. ap (λ (l : List ℕ). slice_index l (from + i)) now_is ∙ all_there i (omega (arith, lt, most));
    }

    given : IsGivenBytes (view_of sp home) fd va len start
    given =
        given_bytes_kept (view_of s.spaces home) (view_of sp home) row_same
        (rewritten_devices h n v.b v.is working_page
        (logical_plain s.spaces s.environments.slots n (clients_live h n v.b v.is) (ap is_plain stands) working_page) working_outside working_no_descriptor page.entry page.stands page.own_page
        page.writes now now_whole puts.rewritten order) fd va len start it.given

    -- behind the store the same is so, with more bytes in the page
    still : StandsFor names (with_spaces s sp) a
    still =
        unseen_rewritten h n v.b v.is working_page
        (logical_plain s.spaces s.environments.slots n (clients_live h n v.b v.is) (ap is_plain stands) working_page) working_outside working_no_descriptor page.entry page.stands page.own_page
        page.writes now now_whole puts.rewritten order (others_counts h n turn sp)
        (subst (λ (q : Place). StandsAt q (view_of sp home) (slot_at s n) v.b) (sym stands) (record {
          bytes = it.bytes;
          is_in = it.is_in;
          given = given;
          many = it.many;
          few = it.few;
          some = it.some;
          last = it.last;
          word_is = it.word_is;
          small = it.small;
          allowed = ap (λ (r : EntryRow). refuses_next r writing (done + left - 1)) row_same ∙ it.allowed;
          kept = taken done (omega arith);
        }))

    goes_on : (to : Step) → keeps_page to ≡ true → is_calm_step to ≡ true →
        StandsAtStep (view_of sp home) (record (slot_at s n) { extra = words_at SERVICE_WRITE to }) v.b writing to →
        StandsFor names (with_extra (with_spaces s sp) n (words_at SERVICE_WRITE to)) a
    goes_on to keeps calm so =
        words_stand still n SERVICE_WRITE v.b v.is (born_at still n v.b v.is) v.outside (ap borne_in stands) (ap is_calm stands) writing to
        (ap holds_page stands ∙ ap kept_where (sym keeps)) refl calm (named_at (slot_at s n) writing (step.KeepingBytes done word left start) stands) so

    -- ---- all bytes of the word are kept

    module _ (all : left ≤ kept) where
      whole : length it.bytes ≡ done + kept
      whole = let many = it.many in omega (arith, many, all, most)

      gathered : 0 < length it.bytes
      gathered = omega (arith, whole, some)

      staged : (bytes : List ℕ) → 0 < length bytes → stage_with bytes ≡ gathering bytes
      staged [] none = absurd (omega (arith, none))
      staged (byte ∷ rest) more = refl

      taking : (words : List ℕ) → length it.bytes < wanted_from start len →
          IsTaking (view_of sp home) (record (slot_at s n) { extra = words }) v.b fd va len start (length it.bytes)
      taking words fewer = record {
        bytes = it.bytes;
        program = it.is_in.program;
        wants = record {
          phase = it.is_in.phase ∙ ap (λ stage. in_service writing stage) (sym (staged it.bytes gathered));
          given = given;
          fewer = fewer;
        };
        many = refl;
        kept = taken (length it.bytes) (omega (arith, whole));
        silent = it.is_in.silent;
        awake = it.is_in.awake;
      }

      -- the next byte lies in the page of the last, but where it begins another
      next_allowed : length it.bytes < wanted_from start len → ((va + length it.bytes) % 2 ^ 32 % PGSIZE == 0) ≡ false →
          refuses_next (rows_of sp home) writing (length it.bytes) ≡ false
      next_allowed fewer test =
          let inside = buffer_below va (wanted_from start len) it.given.buffer (omega (arith, fewer)) in
          let many = it.many in
          let later : (va + length it.bytes) % 2 ^ 32 % 4096 ≢ 0 = grind (arith, nat_tests) in
          let same : page_number (va + length it.bytes) ≡ page_number (va + (done + left - 1)) =
          omega (arith, inside, fewer, many, later, whole, some) in
          ap (λ (r : EntryRow). is_refused_by false (r (page_number (va + length it.bytes)))) row_same
          ∙ ap (λ (p : ℕ). is_refused_by false (row p)) same ∙ it.allowed

      -- it has all that it takes: it prints them, or asks the file server
      with_all : length it.bytes ≡ wanted_from start len →
          StandsFor names (with_extra (with_spaces s sp) n (words_at SERVICE_WRITE (step_with_all start))) a
      with_all all_bytes = by_start given.begins
        where
          prints : start ≡ 0 → IsConsoleOpen (view_of sp home) fd →
              StandsFor names (with_extra (with_spaces s sp) n (words_at SERVICE_WRITE step.Printing)) a
          prints at console =
              goes_on step.Printing refl refl (record {
                bytes = it.bytes;
                is_in = record { program = it.is_in.program; phase = it.is_in.phase; silent = it.is_in.silent; awake = it.is_in.awake };
                given = record {
                  below = given.below;
                  console = console;
                  buffer = subst (λ (q : ℕ). is_buffer va (wanted_from q len) ≡ true) at given.buffer;
                };
                many = all_bytes ∙ ap (λ (q : ℕ). wanted_from q len) at;
                kept = from_start (view_of sp home) start it.bytes (length it.bytes) (ap (λ (q : ℕ). q % PGSIZE) at)
                    (taken (length it.bytes) (omega (arith, whole)));
              })

          asks_file : start ≡ REQUEST_BYTES → IsWritableFile (view_of sp home) fd →
              StandsFor names (with_extra (with_spaces s sp) n (words_at SERVICE_WRITE step.ReadingNumber)) a
          asks_file at it_is =
              goes_on step.ReadingNumber refl refl (record {
                stage = gathering it.bytes;
                of_file = record {
                  is_in = record { program = it.is_in.program; phase = it.is_in.phase; silent = it.is_in.silent; awake = it.is_in.awake };
                  below = given.below;
                  file = it_is.file;
                };
                allowed = it_is.writable;
                has = record {
                  bytes = it.bytes;
                  stage_is = sym (staged it.bytes gathered);
                  buffer = subst (λ (q : ℕ). is_buffer va (wanted_from q len) ≡ true) at given.buffer;
                  many = all_bytes ∙ ap (λ (q : ℕ). wanted_from q len) at;
                  kept = subst (λ (q : ℕ). HasTakenFrom (view_of sp home) q it.bytes (length it.bytes)) at
                      (taken (length it.bytes) (omega (arith, whole)));
                };
              })

          puts_in_pipe : start ≡ PGSIZE → IsEndOpen (view_of sp home) fd 1 →
              StandsFor names (with_extra (with_spaces s sp) n (words_at SERVICE_WRITE (step.Piped (pipe.Locking 0 0 0)))) a
          puts_in_pipe at open_end =
              let wanted : length it.bytes ≡ wanted_of len = all_bytes ∙ ap (λ (q : ℕ). wanted_from q len) at in
              goes_on (step.Piped (pipe.Locking 0 0 0)) refl refl (
                (
                  record {
                    bytes = it.bytes;
                    is_in = record { program = it.is_in.program; phase = it.is_in.phase; silent = it.is_in.silent; awake = it.is_in.awake };
                    below = given.below;
                    open_end = open_end;
                    many = wanted;
                    small = it.small;
                    kept = from_start (view_of sp home) start it.bytes (length it.bytes) (ap (λ (q : ℕ). q % PGSIZE) at)
                        (taken (length it.bytes) (omega (arith, whole)));
                  },
                  subst (λ (m : ℕ). 0 < m) wanted gathered,
                ),
                tt,
              )

          by_start : BeginsAt (view_of sp home) fd start →
              StandsFor names (with_extra (with_spaces s sp) n (words_at SERVICE_WRITE (step_with_all start))) a
          by_start (on_console at console) =
              subst (λ (q : ℕ). StandsFor names (with_extra (with_spaces s sp) n (words_at SERVICE_WRITE (step_with_all q))) a) (sym at)
              (prints at console)
          by_start (in_file at it_is) =
              subst (λ (q : ℕ). StandsFor names (with_extra (with_spaces s sp) n (words_at SERVICE_WRITE (step_with_all q))) a) (sym at)
              (asks_file at it_is)
          by_start (in_pipe at it_is) =
              subst (λ (q : ℕ). StandsFor names (with_extra (with_spaces s sp) n (words_at SERVICE_WRITE (step_with_all q))) a) (sym at)
              (puts_in_pipe at it_is)

      goes_behind : StandsFor names (with_extra (with_spaces s sp) n (words_at SERVICE_WRITE (step_behind va len start (length it.bytes)))) a
      goes_behind = by_wanted (nat_le (wanted_from start len) (length it.bytes)) refl
        where
          by_page : length it.bytes < wanted_from start len → (c : Bool) → ((va + length it.bytes) % 2 ^ 32 % PGSIZE == 0) ≡ c →
              StandsFor names (with_extra (with_spaces s sp) n
              (words_at SERVICE_WRITE (if c then step.BufferRegion (length it.bytes) start else step.GatheringBytes (length it.bytes) start))) a
          by_page fewer true test =
              goes_on (step.BufferRegion (length it.bytes) start) refl refl
              (taking (words_at SERVICE_WRITE (step.BufferRegion (length it.bytes) start)) fewer, tt)
          by_page fewer false test =
              goes_on (step.GatheringBytes (length it.bytes) start) refl refl
              (taking (words_at SERVICE_WRITE (step.GatheringBytes (length it.bytes) start)) fewer, next_allowed fewer test)

          by_wanted : (c : Bool) → nat_le (wanted_from start len) (length it.bytes) ≡ c →
              StandsFor names (with_extra (with_spaces s sp) n (words_at SERVICE_WRITE (if c then step_with_all start
              else if (va + length it.bytes) % 2 ^ 32 % PGSIZE == 0 then step.BufferRegion (length it.bytes) start
              else step.GatheringBytes (length it.bytes) start))) a
          by_wanted true test =
              let reached : wanted_from start len ≤ length it.bytes = grind (arith, nat_tests) in
              let at_most = it.few in
              with_all (omega (arith, reached, at_most))
          by_wanted false test = by_page (grind (arith, nat_tests)) ((va + length it.bytes) % 2 ^ 32 % PGSIZE == 0) refl

    -- ---- some are left

    goes_keeping : kept < left →
        StandsFor names (with_extra (with_spaces s sp) n (words_at SERVICE_WRITE (step.KeepingBytes (done + kept) (word / 256) (left - kept) start))) a
    goes_keeping more =
        goes_on (step.KeepingBytes (done + kept) (word / 256) (left - kept) start) refl refl (record {
          bytes = it.bytes;
          is_in = record { program = it.is_in.program; phase = it.is_in.phase; silent = it.is_in.silent; awake = it.is_in.awake };
          given = given;
          many = let many = it.many in omega (arith, many, more);
          few = it.few;
          some = omega (arith, more);
          last = let last = it.last in omega (arith, last);
          word_is = rest more;
          small = it.small;
          allowed = let same : done + kept + (left - kept) - 1 ≡ done + left - 1 = omega (arith, more) in
              ap (refuses_next (rows_of sp home) writing) same
              ∙ ap (λ (r : EntryRow). refuses_next r writing (done + left - 1)) row_same ∙ it.allowed;
          kept = taken (done + kept) (omega arith);
        })

    kept_goes : StandsFor names (with_extra (with_spaces s sp) n (words_at SERVICE_WRITE
        (if nat_le left kept then step_behind va len start ((done + kept) % 2 ^ 32)
        else step.KeepingBytes ((done + kept) % 2 ^ 32) (word / 256) (left - kept) start))) a
    kept_goes = by_left (nat_le left kept) refl
      where
        unwrapped : (done + kept) % 2 ^ 32 ≡ done + kept
        unwrapped = let all = few in omega (arith, all, most)

        by_left : (c : Bool) → nat_le left kept ≡ c → StandsFor names (with_extra (with_spaces s sp) n (words_at SERVICE_WRITE
            (if c then step_behind va len start ((done + kept) % 2 ^ 32) else step.KeepingBytes ((done + kept) % 2 ^ 32) (word / 256) (left - kept) start))) a
        by_left true test =
            let all : left ≤ kept = grind (arith, nat_tests) in
            subst (λ (m : ℕ). StandsFor names (with_extra (with_spaces s sp) n (words_at SERVICE_WRITE (step_behind va len start m))) a)
            (whole all ∙ sym unwrapped) (goes_behind all)
        by_left false test =
            let more : kept < left = grind (arith, nat_tests) in
            subst
            (λ (m : ℕ). StandsFor names (with_extra (with_spaces s sp) n (words_at SERVICE_WRITE (step.KeepingBytes m (word / 256) (left - kept) start))) a)
            (sym unwrapped) (goes_keeping more)

  -- ---- by how many are put at once

  in_page : from + done < PGSIZE
  in_page = let all = few in let more = it.some in omega (arith, all, more)

  user : is_page_perm page.entry.perm ≡ true
  user = (h.users n working_page page.entry page_counts).page

  place_is : working_page * PGSIZE + (from + done) ≡ UTEMP + at_place % PGSIZE
  place_is = let same = at_is in omega (arith, same)

  pub keeps_bytes : IsKept names s a n va len start done word left
  keeps_bytes = by_word ((at_place % 4 == 0) && (left == 4)) refl
    where
      by_word : (c : Bool) → ((at_place % 4 == 0) && (left == 4)) ≡ c → IsKept names s a n va len start done word left
      by_word true test =
          let four : left ≡ 4 = grind (arith, nat_tests) in
          let all = few in
          let puts : PutsBytes s n page.entry (from + done) (to_le_bytes w32 word) (store s n (UTEMP + at_place % PGSIZE) word) =
          subst (λ (at : ℕ). PutsBytes s n page.entry (from + done) (to_le_bytes w32 word) (store s n at word)) place_is
          (store_puts s n working_page working_below page.entry page.stands user page.writes (from + done) in_page word (omega (arith, all, four))) in
          record {
            spaces = puts.spaces;
            step_is = rw test puts.step_is;
            stands = λ order turn. rw test
                (kept_goes 4 (to_le_bytes w32 word) (omega arith) (omega (arith, four)) refl (word_bytes word)
                (λ i lt. word_byte it.bytes done word left i it.word_is (omega (arith, lt, four)))
                (λ more. absurd (omega (arith, more, four))) (store s n (UTEMP + at_place % PGSIZE) word) puts order turn);
          }
      by_word false test =
          let puts : PutsBytes s n page.entry (from + done) (word % 256 ∷ []) (store_byte s n (UTEMP + at_place % PGSIZE) (word % 256)) =
          subst (λ (at : ℕ). PutsBytes s n page.entry (from + done) (word % 256 ∷ []) (store_byte s n at (word % 256))) place_is
          (store_byte_puts s n working_page working_below page.entry page.stands user page.writes (from + done) in_page (word % 256)) in
          record {
            spaces = puts.spaces;
            step_is = rw test puts.step_is;
            stands = λ order turn. rw test
                (kept_goes 1 (word % 256 ∷ []) (omega arith) it.some refl (bytes_more (word % 256) [] (omega arith) bytes_none)
                first_byte behind_it (store_byte s n (UTEMP + at_place % PGSIZE) (word % 256)) puts order turn);
          }
        where
          first_byte : (i : ℕ) → i < 1 → slice_index (word % 256 ∷ []) i ≡ slice_index it.bytes (done + i)
          first_byte zero lt = word_byte it.bytes done word left 0 it.word_is it.some
          first_byte (suc i) lt = absurd (omega (arith, lt))

          behind_it : 1 < left → take (left - 1) (to_le_bytes w32 (word / 256)) ≡ drop (done + 1) it.bytes
          behind_it more =
              let last = it.last in
              let whole : left ≡ suc (left - 1) = omega (arith, more) in
              word_behind it.bytes done word (left - 1) (omega (arith, last))
              (subst (λ (m : ℕ). take m (to_le_bytes w32 word) ≡ drop done it.bytes) whole it.word_is)
