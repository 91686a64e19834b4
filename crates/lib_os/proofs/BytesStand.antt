-- The kernel's state goes on standing for the abstract one where a byte is stored: in a page of the environment's own, which
-- nobody else sees, or in a shared one, which all see who have it.
use Rattle.std.proofs.Common.{◌⊎◌, inl, inr, ◌≡◌, ◌≢◌, ◌∙◌, ◌<◌, ◌==◌, ℕ, Bool, true, false, None, List, refl, sym, ap, subst, arith, if◌then◌else◌}
use Rattle.std.proofs.lemmas.Bool.Decides.{nat_tests}
use Rattle.std.specs.Prelude.{Option, Some, slice_set}
use Rattle.jos_base.specs.KernelState.{KernelState, slot_at, with_spaces}
use Rattle.jos_base.specs.Reach.{Entry}
use Rattle.jos_base.specs.SpacesState.{SpacesState}
use Rattle.jos_base.specs.SystemCalls.{has_write}
use Rattle.jos_base.specs.Words.{page_number, page_offset, upd}
use Rattle.lib_os.specs.AbstractState.{AbstractState, Born, Page, own, named, born, with_born}
use Rattle.lib_os.specs.AbstractMemory.{stored, stored_in}
use Rattle.lib_os.specs.DescriptorPages.{lasting_words}
use Rattle.lib_os.specs.InOrder.{IsInOrder}
use Rattle.lib_os.specs.Places.{place_of}
use Rattle.lib_os.specs.PipeEnds.{EndsStandAt, LocksStand}
use Rattle.lib_os.specs.Rows.{EntryRow, Names, Rows, rows_of, logical, is_of_descriptor, is_pipe_page, is_programs}
use Rattle.lib_os.specs.Rows.{is_shared, may_write, own_perm, pipe_page}
use Rattle.lib_os.specs.Rows.{AgreeWhereShared, AreNamed, AreUsers, AreWhole, AreBeside, server_row, IsNamed, IsPage, ShowsBy}
use Rattle.lib_os.specs.StandsFor.{StandsFor, StandsForBorn, view_of, borne_in, things_in}
use Rattle.lib_os.proofs.Effects.{Stored}
use Rattle.lib_os.proofs.EntriesCount.{Counts, entry_counts}
use Rattle.lib_os.proofs.EntriesStand.{RowsStand, rows_turned, same_sharing, other_frame, shown_same, seen_own, seen_by}
use Rattle.lib_os.proofs.EntriesStand.{named_bytes, page_kind, page_shows}
use Rattle.lib_os.proofs.Logical.{logical_alike, logical_beside, logical_plain, programs_beside, programs_no_descriptor}
use Rattle.lib_os.proofs.Logical.{is_making_pipe, unborne_beside, unborne_plain}
use Rattle.lib_os.proofs.PageBytes.{page_set}
use Rattle.lib_os.proofs.PagesStand.{programs_frame}
use Rattle.lib_os.proofs.PipesStand.{ends_moved, locks_same, same_places}
use Rattle.lib_os.proofs.SlotsStand.{SameDevices, SamePipes, SeenAlike, is_piped, keeps_pipe, kept_rows}
use Rattle.lib_os.proofs.SlotsStand.{library_alike, page_put, pipe_minded, slot_stands}
use Rattle.lib_os.proofs.SlotsStand.{born_at, turn_unpiped}
use Rattle.lib_os.proofs.Children.{same_child, children_still}
use Rattle.lib_os.proofs.StatesStand.{counts_beside, ends_at, others_counts, space_moves, clients_live, server_alike}
use Rattle.lib_os.proofs.WordsTell.{is_in_handler}
use Rattle.jos_base.proofs.Maps.{upd-at, upd-other}
use Rattle.jos_base.proofs.Puts.{Elsewhere}

-- the page of a pipe is one of a descriptor's
pipes_descriptor : (q : ℕ) → is_pipe_page q ≡ true → is_of_descriptor q ≡ true
pipes_descriptor q pipes = grind (arith, nat_tests)

module _ {names : Names} {s : KernelState} {a : AbstractState} {sp : SpacesState} (h : StandsFor names s a) (n : ℕ) (b : Born)
    (at : a.slots n ≡ born b) (outside : is_in_handler (place_of (slot_at s n)) ≡ false)
    (unborne : borne_in (place_of (slot_at s n)) ≡ None) (unmade : is_making_pipe (place_of (slot_at s n)) ≡ false)
    (off : is_piped (place_of (slot_at s n)) ≡ false) (last : s.last ≡ Some n)
    (va byte : ℕ) (small : byte < 256) (inside : is_programs (page_number va) ≡ true) (e : Entry)
    (he : rows_of s.spaces (slot_at s n).directory (page_number va) ≡ Some e)
    (writes : has_write e.perm ≡ true) (st : Stored s.spaces sp e.frame (page_offset va) byte) (in_order : IsInOrder (with_spaces s sp)) where
  abbrev d : ℕ
  d = (slot_at s n).directory

  abbrev p : ℕ
  p = page_number va

  abbrev before : Rows
  before = logical s.spaces s.environments.slots

  abbrev put_bytes : List ℕ
  put_bytes = slice_set (s.spaces.pages e.frame) (page_offset va) byte

  row_kept : (q r : ℕ) → rows_of sp q r ≡ rows_of s.spaces q r
  row_kept q r = ap (λ (rows : Rows). rows q r) st.rows

  -- entries count as they did
  counts_kept : (m q : ℕ) → logical sp s.environments.slots m q ≡ before m q
  counts_kept m q =
      logical_alike s.spaces sp s.environments.slots s.environments.slots m refl refl
      (λ live. ap (λ (rows : Rows). rows (slot_at s m).directory) st.rows) q

  -- this one among them
  counts_here : before n p ≡ Some e
  counts_here = logical_beside s.spaces s.environments.slots n (clients_live h n b at) p (programs_beside p inside).0
      (unborne_beside (place_of (slot_at s n)) p unborne (programs_no_descriptor p inside)) ∙ he

  -- another frame's bytes
  bytes_kept : (x : Entry) → x.frame ≢ e.frame → sp.pages x.frame ≡ s.spaces.pages x.frame
  bytes_kept x ne = ap (λ (pages : ℕ → List ℕ). pages x.frame) st.pages ∙ upd-other s.spaces.pages e.frame put_bytes x.frame ne

  bytes_put : sp.pages e.frame ≡ put_bytes
  bytes_put = ap (λ (pages : ℕ → List ℕ). pages e.frame) st.pages ∙ upd-at s.spaces.pages e.frame put_bytes

  -- a page stays a page
  page_kept : (f : ℕ) → IsPage (s.spaces.pages f) → IsPage (sp.pages f)
  page_kept f page = by_frame (f == e.frame) refl
    where
      by_frame : (c : Bool) → (f == e.frame) ≡ c → IsPage (sp.pages f)
      by_frame true test =
          let same : f ≡ e.frame = grind (arith, nat_tests) in
          subst (λ (g : ℕ). IsPage (sp.pages g)) (sym same)
          (subst (λ (l : List ℕ). IsPage l) (sym bytes_put)
          (page_set (s.spaces.pages e.frame) (page_offset va) byte small (subst (λ (g : ℕ). IsPage (s.spaces.pages g)) same page)))
      by_frame false test =
          subst (λ (l : List ℕ). IsPage l) (sym (bytes_kept (record { frame = f; perm = 0 }) (grind (arith, nat_tests)))) page

  whole_kept : AreWhole sp.pages (logical sp s.environments.slots)
  whole_kept m q x hx = page_kept x.frame (h.whole m q x (sym (counts_kept m q) ∙ hx))

  -- what stands in its own space counts
  own_counts : (q : ℕ) (x : Entry) → rows_of s.spaces d q ≡ Some x → before n q ≡ Some x
  own_counts q x hx =
      logical_plain s.spaces s.environments.slots n (clients_live h n b at) (unborne_plain (place_of (slot_at s n)) outside unborne unmade) q ∙ hx

  -- another page of one's own keeps its bytes, in this space
  own_beside : (q : ℕ) (x : Entry) → q ≢ p → rows_of s.spaces d q ≡ Some x → is_shared x.perm ≡ false → sp.pages x.frame ≡ s.spaces.pages x.frame
  own_beside q x ne hx own_page =
      bytes_kept x (other_frame before h.apart n p n q x e (λ same too. ne too) counts_here writes (own_counts q x hx) own_page)

  -- what stands in a space has another frame, where what counts for it has another
  frames_differ : (q r : ℕ) (x : Entry) → rows_of s.spaces q r ≡ Some x → ((found : Counts s a q r x) → found.entry.frame ≢ e.frame) →
      x.frame ≢ e.frame
  frames_differ q r x hx apart same = by_space (q == (slot_at s 0).directory) refl
    where
      by_space : (c : Bool) → (q == (slot_at s 0).directory) ≡ c → ⊥
      by_space true test =
          let servers : q ≡ (slot_at s 0).directory = grind (arith, nat_tests) in
          programs_frame h n p r e x inside counts_here (ap (λ (f : ℕ). rows_of s.spaces f r) (sym servers) ∙ hx) (sym same)
      by_space false test =
          let found = entry_counts h q r x (grind (arith, nat_tests)) hx in apart found (found.frame ∙ same)

  -- and in any other
  own_elsewhere : (q r : ℕ) (x : Entry) → q ≢ d → rows_of s.spaces q r ≡ Some x → is_shared x.perm ≡ false → sp.pages x.frame ≡ s.spaces.pages x.frame
  own_elsewhere q r x ne hx own_page =
      bytes_kept x (frames_differ q r x hx (λ found.
      other_frame before h.apart n p found.slot found.page found.entry e
      (λ same too. ne (sym (found.home n b at same))) counts_here writes found.counts (found.own own_page)))

  -- a descriptor's page has another
  descriptors_apart : (q r : ℕ) (x : Entry) → is_of_descriptor r ≡ true → rows_of s.spaces q r ≡ Some x → is_shared x.perm ≡ true → x.frame ≢ e.frame
  descriptors_apart q r x descriptor hx shared_page = frames_differ q r x hx (λ found. by_shared found (found.shared shared_page))
    where
      by_shared : (found : Counts s a q r x) → (is_shared found.entry.perm ≡ true) ⊎ (found.entry.perm ≡ own_perm) → found.entry.frame ≢ e.frame
      by_shared found (inl there) same =
          let here : is_shared e.perm ≡ true =
          sym (same_sharing before h.apart found.slot found.page n p found.entry e found.counts counts_here same) ∙ there in
          let contradiction : true ≡ false =
          sym descriptor
          ∙ ap is_of_descriptor (sym (found.itself shared_page))
          ∙ sym (h.named found.slot found.page found.entry found.counts there).kind
          ∙ ap (λ (f : ℕ). names.is_object (names.name f)) same
          ∙ page_kind inside (h.named n p e counts_here here) in
          cc
      by_shared found (inr made) same =
          let here : is_shared e.perm ≡ false =
          sym (same_sharing before h.apart found.slot found.page n p found.entry e found.counts counts_here same) ∙ ap is_shared made in
          let other : Elsewhere n p found.slot found.page =
          λ slot page.
          let contradiction : true ≡ false =
          sym descriptor ∙ ap is_of_descriptor (sym (found.itself shared_page) ∙ sym page) ∙ programs_no_descriptor p inside in
          cc in
          other_frame before h.apart found.slot found.page n p e found.entry other found.counts (ap has_write made) counts_here here (sym same)

  -- so that those of this space have the same bytes
  of_descriptor : (q : ℕ) (x : Entry) → is_of_descriptor q ≡ true → rows_of s.spaces d q ≡ Some x → sp.pages x.frame ≡ s.spaces.pages x.frame
  of_descriptor q x descriptor hx = by_sharing (is_shared x.perm) refl
    where
      by_sharing : (c : Bool) → is_shared x.perm ≡ c → sp.pages x.frame ≡ s.spaces.pages x.frame
      by_sharing true shared_page = bytes_kept x (descriptors_apart d q x descriptor hx shared_page)
      by_sharing false own_page =
          own_beside q x
          (λ same. let contradiction : true ≡ false = sym descriptor ∙ ap is_of_descriptor same ∙ programs_no_descriptor p inside in cc) hx own_page

  devices_kept : SameDevices (view_of s.spaces d) (view_of sp d)
  devices_kept q x descriptor no_pipe hx = ap lasting_words (of_descriptor q x descriptor hx)

  pipes_kept : SamePipes (view_of s.spaces d) (view_of sp d)
  pipes_kept q x pipes hx = of_descriptor q x (pipes_descriptor q pipes) hx

  space_alike : (q : ℕ) → ((r : ℕ) (x : Entry) → rows_of s.spaces q r ≡ Some x → is_shared x.perm ≡ false →
      sp.pages x.frame ≡ s.spaces.pages x.frame) → SeenAlike names names s.spaces sp q
  space_alike q bytes = record {
    rows = ap (λ (rows : Rows). rows q) st.rows;
    bytes = bytes;
    named_so = λ r x hx shared_page. refl;
    devices = λ r x descriptor hx shared_page. ap lasting_words (bytes_kept x (descriptors_apart q r x descriptor hx shared_page));
    pipes = λ r x pipes hx shared_page. bytes_kept x (descriptors_apart q r x (pipes_descriptor r pipes) hx shared_page);
    regions = st.regions q;
  }

  apart_kept : AgreeWhereShared (logical sp s.environments.slots)
  apart_kept m o q r x y ne hx hy same = h.apart m o q r x y ne (sym (counts_kept m o) ∙ hx) (sym (counts_kept q r) ∙ hy) same

  users_kept : AreUsers (logical sp s.environments.slots)
  users_kept m q x hx = h.users m q x (sym (counts_kept m q) ∙ hx)

  beside_kept : AreBeside (server_row s.spaces s.environments.slots) (logical sp s.environments.slots)
  beside_kept m q r x y hx is = h.beside m q r x y (sym (counts_kept m q) ∙ hx) is

  -- no page of a pipe that counts as shared has the frame
  pipes_apart : (m q : ℕ) (x : Entry) → is_pipe_page q ≡ true → before m q ≡ Some x → is_shared x.perm ≡ true → x.frame ≢ e.frame
  pipes_apart m q x pipes hx shared_page same =
      let here : is_shared e.perm ≡ true = sym (same_sharing before h.apart m q n p x e hx counts_here same) ∙ shared_page in
      let contradiction : true ≡ false =
      sym (pipes_descriptor q pipes)
      ∙ sym (h.named m q x hx shared_page).kind
      ∙ ap (λ (f : ℕ). names.is_object (names.name f)) same
      ∙ page_kind inside (h.named n p e counts_here here) in
      cc

  locks_stand : LocksStand sp.pages s.environments.slots (logical sp s.environments.slots)
  locks_stand =
      locks_same (λ m. refl) (λ m q pipes. counts_kept m q)
      (λ m q x pipes hx shared_page. bytes_kept x (pipes_apart m q x pipes hx shared_page)) h.locks

  -- in a page of its own
  module _ (own_page : is_shared e.perm ≡ false) where
    abbrev after : Option Page
    after = Some (own put_bytes (may_write e.perm))

    -- it is no shared frame's
    shared_elsewhere : (m q : ℕ) (x : Entry) → before m q ≡ Some x → is_shared x.perm ≡ true → x.frame ≢ e.frame
    shared_elsewhere m q x hx shared_page same =
        let contradiction : true ≡ false = sym shared_page ∙ same_sharing before h.apart m q n p x e hx counts_here same ∙ own_page in cc

    named_kept : AreNamed names sp.pages a.shared (things_in s a) a.next_name (logical sp s.environments.slots)
    named_kept m q x hx shared_page =
        let there : before m q ≡ Some x = sym (counts_kept m q) ∙ hx in
        named_bytes (sym (bytes_kept x (shared_elsewhere m q x there shared_page))) (h.named m q x there shared_page)

    mine : StandsForBorn names sp (slot_at s n) (record b { memory = upd b.memory p after })
    mine = page_put names names s.spaces sp (slot_at s n) b p after b.regions (born_at h n b at) inside
        (sym (seen_own names sp d p e inside (row_kept d p ∙ he) own_page
        ∙ ap (λ (bytes : List ℕ). Some (own bytes (may_write e.perm))) bytes_put))
        (λ q ne. shown_same names names s.spaces sp d q (row_kept d q) (λ x hx own_too. own_beside q x ne hx own_too) (λ x hx shared_too. refl))
        (library_alike (place_of (slot_at s n)) (slot_at s n).extra (rows_of s.spaces d) (rows_of sp d) (ap (λ (rows : Rows). rows d) st.rows)
        (born_at h n b at).library)
        (record {
          have = λ r is. st.regions d r ∙ (born_at h n b at).regions_have r is;
          only = λ r is. (born_at h n b at).regions_only r (sym (st.regions d r) ∙ is);
        })
        (kept_rows (place_of (slot_at s n)) (view_of s.spaces d) (view_of sp d) outside (ap (λ (rows : Rows). rows d) st.rows) (st.regions d) (
          (λ q x off hx own_too.
              own_beside q x (λ same. absurd (let contradiction : false ≡ true = sym off ∙ ap is_programs same ∙ inside in cc)) hx own_too),
          devices_kept,
        )
        (keeps_pipe (pipe_minded (place_of (slot_at s n))) (view_of s.spaces d) (view_of sp d)
        (λ fd minds below x lies. pipes_kept (pipe_page fd) x (grind (arith, nat_tests)) lies)))
        (turn_unpiped (view_of s.spaces d) (view_of sp d) (slot_at s n) (place_of (slot_at s n)) (slot_at s n).status (slot_at s n).runs off)

    own_stored : StandsFor names (with_spaces s sp) (with_born a n (record b { memory = upd b.memory p after }))
    own_stored =
        space_moves h n b at sp (record b { memory = upd b.memory p after }) a.shared a.next_name unborne
        (λ q ne. space_alike q (λ r x hx own_too. own_elsewhere q r x ne hx own_too)) mine
        (record { apart = apart_kept; named = named_kept; users = users_kept; whole = whole_kept; beside = beside_kept }) in_order
        (others_counts h n last sp)
        (ends_moved (same_places refl) (λ fd. refl) (λ fd name is. refl) (λ fd below. row_kept d (pipe_page fd)) (λ fd x below is. refl)
        (ends_at h n b at))
        locks_stand (omega arith) (λ fd name names_it. h.old n fd name b at names_it)

  -- in a shared page
  module _ (shared_page : is_shared e.perm ≡ true) where
    abbrev name : ℕ
    name = names.name e.frame

    abbrev bytes_after : List ℕ
    bytes_after = slice_set (a.shared name) (page_offset va) byte

    -- a page of one's own is another's frame
    own_other : (q r : ℕ) (x : Entry) → rows_of s.spaces q r ≡ Some x → is_shared x.perm ≡ false → x.frame ≢ e.frame
    own_other q r x hx own_page =
        frames_differ q r x hx (λ found same.
        let contradiction : true ≡ false =
        sym shared_page
        ∙ sym (same_sharing before h.apart found.slot found.page n p found.entry e found.counts counts_here same)
        ∙ found.own own_page in
        cc)

    shared_put : sp.pages e.frame ≡ bytes_after
    shared_put =
        bytes_put ∙ ap (λ (bytes : List ℕ). slice_set bytes (page_offset va) byte) (sym (page_shows inside (h.named n p e counts_here shared_page)))

    named_stored : AreNamed names sp.pages (upd a.shared name bytes_after) (things_in s a) a.next_name (logical sp s.environments.slots)
    named_stored m q x hx shared_too =
        let was = h.named m q x (sym (counts_kept m q) ∙ hx) shared_too in
        record { home = was.home; kind = was.kind; of_pipe = was.of_pipe; shows = by_frame was (x.frame == e.frame) refl; old = was.old }
      where
        by_frame : IsNamed names s.spaces.pages a.shared (things_in s a) a.next_name q x.frame → (t : Bool) → (x.frame == e.frame) ≡ t →
            ShowsBy (things_in s a) (names.name x.frame) x.frame (names.is_object (names.name x.frame)) (names.is_pipe (names.name x.frame))
            (upd a.shared name bytes_after (names.name x.frame)) (sp.pages x.frame)
        by_frame was true test =
            let same : e.frame ≡ x.frame = grind (arith, nat_tests) in
            subst (λ (f : ℕ). ShowsBy (things_in s a) (names.name f) f (names.is_object (names.name f)) (names.is_pipe (names.name f)) (upd
            a.shared name bytes_after (names.name f))
            (sp.pages f)) same
            (subst (λ (c : Bool). ShowsBy (things_in s a) name e.frame c (names.is_pipe name) (upd a.shared name bytes_after name) (sp.pages e.frame))
            (sym (page_kind inside (h.named n p e counts_here shared_page)))
            (upd-at a.shared name bytes_after ∙ sym shared_put))
        by_frame was false test =
            let other : x.frame ≢ e.frame = grind (arith, nat_tests) in
            let other_name : names.name x.frame ≢ name =
            λ same. other (sym was.home ∙ ap (λ (m : ℕ). names.frame m) same ∙ (h.named n p e counts_here shared_page).home) in
            subst (λ (l : List ℕ). ShowsBy (things_in s a) (names.name x.frame) x.frame (names.is_object (names.name x.frame))
            (names.is_pipe (names.name x.frame)) l (sp.pages x.frame))
            (sym (upd-other a.shared name bytes_after (names.name x.frame) other_name))
            (named_bytes {after = sp.pages} (sym (bytes_kept x other)) was).shows

    rows_stored : RowsStand names sp.pages (upd a.shared name bytes_after) (things_in (with_spaces s sp) a) a.next_name
        (logical sp s.environments.slots)
    rows_stored =
        rows_turned {things = things_in s a} (ap (λ (rows : Rows). rows (slot_at s 0).directory) st.rows)
        (record { apart = apart_kept; named = named_stored; users = users_kept; whole = whole_kept; beside = beside_kept })

    shared_stored : StandsFor names (with_spaces s sp) (record a { shared = upd a.shared name bytes_after })
    shared_stored = record {
      slots = λ m. slot_stands names names s.spaces sp (slot_at s m) (a.slots m) (h.slots m)
          (λ live. space_alike (slot_at s m).directory
          (λ r x hx own_too. bytes_kept x (own_other (slot_at s m).directory r x hx own_too)))
          (counts_beside h n last off sp m);
      ends = λ m. subst (λ (row : EntryRow). EndsStandAt names a.objects (place_of (slot_at s m)) row (a.slots m))
          (sym (ap (λ (rows : Rows). rows (slot_at s m).directory) st.rows)) (h.ends m);
      locks = locks_stand;
      runs = h.runs;
      old = h.old;
      children = children_still h.children (λ m. refl) (λ m. same_child (slot_at s m) (slot_at s m) refl) (λ m. refl)
          (λ m live. space_alike (slot_at s m).directory
          (λ r x hx own_too. bytes_kept x (own_other (slot_at s m).directory r x hx own_too)));
      apart = rows_stored.apart;
      named = rows_stored.named;
      users = rows_stored.users;
      whole = rows_stored.whole;
      beside = rows_stored.beside;
      free_slots = h.free_slots;
      first = h.first;
      server = server_alike
          (space_alike (slot_at s 0).directory (λ r x hx own_too. bytes_kept x (own_other (slot_at s 0).directory r x hx own_too))) h.server;
      input = h.input;
      last = h.last;
      turns = h.turns;
      tabled = h.tabled;
      in_order = in_order;
    }

  pub stored_stands : StandsFor names (with_spaces s sp) (stored a n b va byte)
  stored_stands =
      subst (λ (page : Option Page). StandsFor names (with_spaces s sp) (stored_in a n b va byte page))
      (sym ((born_at h n b at).memory p ∙ seen_by names s.spaces d p e inside he)) (by_sharing (is_shared e.perm) refl)
    where
      by_sharing : (c : Bool) → is_shared e.perm ≡ c → StandsFor names (with_spaces s sp)
          (stored_in a n b va byte (Some (if c then named (names.name e.frame) (has_write e.perm) else own (s.spaces.pages e.frame) (may_write e.perm))))
      by_sharing true is = shared_stored is
      by_sharing false is = own_stored is
