-- The file server stores an offset in the page of an open file, which its clients share: the kernel's state stands then for the abstract one in which
-- the file has that offset.
use Rattle.std.proofs.Common.{◌≡◌, ◌≢◌, ◌∙◌, ◌+◌, ◌*◌, ◌^◌, ◌<◌, ◌≤◌, ◌==◌, inl, inr, ℕ, Bool, true, false, List, [], ◌∷◌, length}
use Rattle.std.proofs.Common.{Some, Ok, refl, sym, ap, subst, arith}
use Rattle.std.specs.Int.{from_le_bytes, to_le_bytes, w32}
use Rattle.std.specs.Prelude.{is_some, slice_index}
use Rattle.std.proofs.lemmas.Bool.{cases_eq}
use Rattle.std.proofs.lemmas.Bool.Decides.{nat_tests}
use Rattle.std.proofs.lemmas.Option.{same_Some}
use Rattle.jos_base.specs.declared.numbers.TheConstants.{FIRST_ENV_ID, PGSIZE}
use Rattle.jos_base.specs.Counting.{page_limit}
use Rattle.jos_base.specs.Environments.{Slot}
use Rattle.jos_base.specs.KernelState.{KernelState, slot_at, with_spaces}
use Rattle.jos_base.specs.Reach.{Entry}
use Rattle.jos_base.specs.SpacesState.{SpacesState}
use Rattle.jos_base.specs.Words.{page_number, upd, word_at}
use Rattle.jos_base.proofs.Maps.{upd-at, upd-other}
use Rattle.lib_os.specs.declared.numbers.TheConstants.{FD_DEVICE, FD_FILE, FD_MODE, FD_OFFSET, FD_SIZE, MAXOPEN, REQUEST}
use Rattle.lib_os.specs.AbstractState.{AbstractSlot, AbstractState, Object, OpenFile, born, file, free, is_live, read_end, serving, terminal, unborn}
use Rattle.lib_os.specs.AbstractState.{write_end}
use Rattle.lib_os.specs.AbstractRun.{pipe_of}
use Rattle.lib_os.specs.DescriptorPages.{HasObject, HasPipe, IsEnd, IsOpenFile, Things, lasting_words, number_of, offset_of, place_page}
use Rattle.lib_os.specs.InOrder.{HasOneUse, IsInOrder}
use Rattle.lib_os.specs.MadeCalls.{place_address}
use Rattle.lib_os.specs.PipeEnds.{EndsStandAt, pipe_named}
use Rattle.lib_os.specs.Places.{place_of}
use Rattle.lib_os.specs.Rows.{HasThing, IsDescriptors, IsNamed, IsPage, MayBeHad, Names, Rows, ShowsBy, is_of_descriptor, is_pipe_page, is_shared, logical}
use Rattle.lib_os.specs.Rows.{pipe_page, rows_of}
use Rattle.lib_os.specs.StandsFor.{HasServer, StandsFor, StandsForSlot, things_in}
use Rattle.lib_os.specs.UserCalls.{CallStep, IsStep, Output, store}
use Rattle.lib_os.proofs.BytesPut.{bytes_put, put_behind, put_whole}
use Rattle.lib_os.proofs.Children.{BearsNone, children_kept}
use Rattle.lib_os.proofs.CopiesStored.{IsRewritten}
use Rattle.lib_os.proofs.DescriptorWords.{told_device, file_beside, told_mode, told_number, told_size}
use Rattle.lib_os.proofs.EntriesCount.{entry_counts}
use Rattle.lib_os.proofs.FileStored.{put_word_at, put_word_before}
use Rattle.lib_os.proofs.HandedBack.{word_comes}
use Rattle.lib_os.proofs.Logical.{logical_alike}
use Rattle.lib_os.proofs.PageBytes.{word_bytes}
use Rattle.lib_os.proofs.PipesStand.{ends_moved, locks_same, same_places}
use Rattle.lib_os.proofs.ServerStands.{first_slot}
use Rattle.lib_os.proofs.SlotsStand.{SeenAlike, live_stands, slot_stands}
use Rattle.lib_os.proofs.StatesStand.{rows_counts}

-- ---- the words of the page

-- one behind the word that is put
put_word_behind : (page : List ℕ) (o word q : ℕ) → o + 4 ≤ q →
    word_at (slice_index (bytes_put page o (to_le_bytes w32 word))) q ≡ word_at (slice_index page) q
put_word_behind page o word q above =
    let a = put_behind page o (to_le_bytes w32 word) q (omega (arith, above)) in
    let b = put_behind page o (to_le_bytes w32 word) (q + 1) (omega (arith, above)) in
    let c = put_behind page o (to_le_bytes w32 word) (q + 2) (omega (arith, above)) in
    let d = put_behind page o (to_le_bytes w32 word) (q + 3) (omega (arith, above)) in
    λ i. from_le_bytes w32 (a i ∷ b i ∷ c i ∷ d i ∷ [])

-- what a descriptor's page tells stays, but for the offset
told_still : (page : List ℕ) (offset : ℕ) → lasting_words (bytes_put page FD_OFFSET (to_le_bytes w32 offset)) ≡ lasting_words page
told_still page offset =
    let device = put_word_before page FD_OFFSET offset FD_DEVICE (omega arith) in
    let mode = put_word_behind page FD_OFFSET offset FD_MODE (omega arith) in
    let number = put_word_behind page FD_OFFSET offset FD_FILE (omega arith) in
    let size = put_word_behind page FD_OFFSET offset FD_SIZE (omega arith) in
    λ i. (device i, mode i, number i, size i)

place_below : (number : ℕ) → number < MAXOPEN → place_page number < page_limit
unfolding page_limit
place_below number below = omega (arith, below)

-- the server bears no child
serves_none : (k : Slot) (slot : AbstractSlot) → slot ≡ serving FIRST_ENV_ID → BearsNone k slot
serves_none k slot is = record {
  bears = λ b at. let contradiction : serving FIRST_ENV_ID ≡ born b = sym is ∙ at in absurd cc;
  no_child = λ child parent at. let contradiction : serving FIRST_ENV_ID ≡ unborn child parent = sym is ∙ at in absurd cc;
}

-- ---- the state behind the store

module _ {names : Names} {s : KernelState} {a : AbstractState} (h : StandsFor names s a) (name number : ℕ) (f : OpenFile) (e : Entry)
    (below : number < MAXOPEN) (there : rows_of s.spaces (slot_at s 0).directory (place_page number) ≡ Some e)
    (held : (a.opened number).held_by ≡ Some name) (named_file : a.objects name ≡ file f)
    (alone : (other : ℕ) → (a.opened other).held_by ≡ Some name → number ≡ other) (offset : ℕ) (small : offset < 2 ^ 32) where
  abbrev home : ℕ
  home = (slot_at s 0).directory

  abbrev before : Rows
  before = logical s.spaces s.environments.slots

  abbrev now : List ℕ
  now = bytes_put (s.spaces.pages e.frame) FD_OFFSET (to_le_bytes w32 offset)

  abbrev moved : OpenFile
  moved = record f { offset = offset }

  abbrev after : AbstractState
  after = record a { objects = upd a.objects name (file moved) }

  -- a client's entry of the frame is that of a descriptor
  is_descriptors : (n p : ℕ) (x : Entry) → before n p ≡ Some x → x.frame ≡ e.frame → IsDescriptors p x
  is_descriptors n p x counts same =
      let no_request : (place_page number == page_number REQUEST) ≡ false = grind (arith, nat_tests) in
      subst (λ (c : Bool). MayBeHad c p x) no_request (h.beside n p (place_page number) x e counts there same)

  module _ (n p : ℕ) (x : Entry) (counts : before n p ≡ Some x) (shared_page : is_shared x.perm ≡ true) where
    abbrev its_name : ℕ
    its_name = names.name x.frame

    abbrev bytes : List ℕ
    bytes = s.spaces.pages x.frame

    was : IsNamed names s.spaces.pages a.shared (things_in s a) a.next_name p x.frame
    was = h.named n p x counts shared_page

    -- it has the frame: it names the file
    its_file : x.frame ≡ e.frame → (object : Object) → a.objects its_name ≡ object → HasObject (things_in s a) its_name x.frame object bytes →
        (its_name ≡ name) × IsOpenFile (things_in s a) its_name x.frame f bytes
    its_file same terminal by is = absurd (is.apart (place_page number) e there (sym same))
    its_file same (file g) by is =
        let at = h.server.alone (number_of bytes) (place_page number) is.entry e is.below is.stands there (is.same ∙ same) in
        let its_number : number ≡ number_of bytes = omega (arith, at) in
        let named_so : its_name ≡ name =
        same_Some its_name name (sym is.held ∙ ap (λ (k : ℕ). (a.opened k).held_by) (sym its_number) ∙ held) in
        let files : file g ≡ file f = sym by ∙ ap a.objects named_so ∙ named_file in
        (named_so, subst (λ (o : Object). HasObject (things_in s a) its_name x.frame o bytes) files is)
    its_file same (read_end pipe) by is = absurd (is.apart (place_page number) e there (sym same))
    its_file same (write_end pipe) by is = absurd (is.apart (place_page number) e there (sym same))

    -- the page of a pipe has another
    no_pipe : is_pipe_page p ≡ true → x.frame ≢ e.frame
    no_pipe pipes same =
        let object : is_of_descriptor p ≡ true = grind (arith, nat_tests, pipes) in
        let is : HasPipe (things_in s a) its_name x.frame bytes =
        subst (λ (c : Bool). HasThing (things_in s a) its_name x.frame c bytes) (was.of_pipe ∙ pipes)
        (subst (λ (c : Bool). ShowsBy (things_in s a) its_name x.frame c (names.is_pipe its_name) (a.shared its_name) bytes) (was.kind ∙ object) was.shows) in
        is.apart (place_page number) e there (sym same)

    -- and it has the frame, where it names the file
    its_frame : its_name ≡ name → HasObject (things_in s a) its_name x.frame (a.objects its_name) bytes → x.frame ≡ e.frame
    its_frame named_so shows =
        let files : a.objects its_name ≡ file f = ap a.objects named_so ∙ named_file in
        let is : IsOpenFile (things_in s a) its_name x.frame f bytes =
        subst (λ (o : Object). HasObject (things_in s a) its_name x.frame o bytes) files shows in
        let its_number : number ≡ number_of bytes = alone (number_of bytes) (is.held ∙ ap (λ (n : ℕ). Some n) named_so) in
        let entry_is : is.entry ≡ e =
        same_Some is.entry e (sym is.stands ∙ ap (λ (k : ℕ). rows_of s.spaces home (place_page k)) (sym its_number) ∙ there) in
        sym is.same ∙ ap (λ (y : Entry). y.frame) entry_is

  module _ (sp : SpacesState) (rewritten : IsRewritten s.spaces sp e.frame now) (one : HasOneUse sp) where
    abbrev things : Things
    things = things_in (with_spaces s sp) after

    bytes_kept : (g : ℕ) → g ≢ e.frame → sp.pages g ≡ s.spaces.pages g
    bytes_kept g ne = ap (λ (pages : ℕ → List ℕ). pages g) rewritten.pages ∙ upd-other s.spaces.pages e.frame now g ne

    bytes_are : (g : ℕ) → g ≡ e.frame → sp.pages g ≡ now
    bytes_are g same =
        ap sp.pages same ∙ ap (λ (pages : ℕ → List ℕ). pages e.frame) rewritten.pages ∙ upd-at s.spaces.pages e.frame now

    row_kept : (d q : ℕ) → rows_of sp d q ≡ rows_of s.spaces d q
    row_kept d q = ap (λ (rows : Rows). rows d q) rewritten.rows

    counts_kept : (m q : ℕ) → logical sp s.environments.slots m q ≡ before m q
    counts_kept m q =
        logical_alike s.spaces sp s.environments.slots s.environments.slots m refl refl
        (λ lives. ap (λ (rows : Rows). rows (slot_at s m).directory) rewritten.rows) q

    told : (g : ℕ) → lasting_words (sp.pages g) ≡ lasting_words (s.spaces.pages g)
    told g = elim (cases_eq g e.frame) [
      | inl same ↦
          ap lasting_words (bytes_are g same) ∙ told_still (s.spaces.pages e.frame) offset
          ∙ ap (λ (q : ℕ). lasting_words (s.spaces.pages q)) (sym same)
      | inr ne ↦ ap lasting_words (bytes_kept g ne)
    ]

    -- ---- what clients see of their spaces

    seen : (d : ℕ) → d ≢ home → SeenAlike names names s.spaces sp d
    seen d ne = record {
      rows = ap (λ (rows : Rows). rows d) rewritten.rows;
      bytes = λ p x is own_page. bytes_kept x.frame (not_own p x is own_page);
      named_so = λ p x is shared_page. refl;
      devices = λ p x descriptor is shared_page. told x.frame;
      pipes = λ p x pipes is shared_page. bytes_kept x.frame (not_pipe p x pipes is shared_page);
      regions = rewritten.regions d;
    }
      where
        not_own : (p : ℕ) (x : Entry) → rows_of s.spaces d p ≡ Some x → is_shared x.perm ≡ false → x.frame ≢ e.frame
        not_own p x is own_page same =
            let c = entry_counts h d p x ne is in
            let its = is_descriptors c.slot c.page c.entry c.counts (c.frame ∙ same) in
            let contradiction : true ≡ false = sym its.shared ∙ c.own own_page in cc

        not_pipe : (p : ℕ) (x : Entry) → is_pipe_page p ≡ true → rows_of s.spaces d p ≡ Some x → is_shared x.perm ≡ true → x.frame ≢ e.frame
        not_pipe p x pipes is shared_page same =
            let c = entry_counts h d p x ne is in
            let its = is_descriptors c.slot c.page c.entry c.counts (c.frame ∙ same) in
            no_pipe c.slot c.page c.entry c.counts its.shared (ap is_pipe_page (c.itself shared_page) ∙ pipes) (c.frame ∙ same)

    clients_seen : (m : ℕ) → m ≢ 0 → is_live (a.slots m) ≡ true → SeenAlike names names s.spaces sp (slot_at s m).directory
    clients_seen m ne live =
        seen (slot_at s m).directory (λ same. ne (h.in_order.spaces.apart m 0 (live_stands h m ∙ live) (first_slot h).lives same))

    slots_stand : (m : ℕ) → StandsForSlot names sp (slot_at s m) (a.slots m)
    slots_stand m = elim (cases_eq m 0) [
      | inl first ↦
          subst (λ (k : ℕ). StandsForSlot names sp (slot_at s k) (a.slots k)) (sym first)
          (subst (λ (slot : AbstractSlot). StandsForSlot names sp (slot_at s 0) slot) (sym h.first) (first_slot h))
      | inr other ↦
          slot_stands names names s.spaces sp (slot_at s m) (a.slots m) (h.slots m) (λ live. clients_seen m other live)
          (rows_counts h.in_order.frames one rewritten.rows (slot_at s m))
    ]

    -- the file is no end of a pipe, before and after
    pipes_same : (its : ℕ) → pipe_named after.objects its ≡ pipe_named a.objects its
    pipes_same its = elim (cases_eq its name) [
      | inl same ↦
          ap (λ (o : Object). pipe_of (Some o)) (ap after.objects same ∙ upd-at a.objects name (file moved))
          ∙ sym (ap (λ (o : Object). pipe_of (Some o)) (ap a.objects same ∙ named_file))
      | inr ne ↦ ap (λ (o : Object). pipe_of (Some o)) (upd-other a.objects name (file moved) its ne)
    ]

    ends_stand : (m : ℕ) (slot : AbstractSlot) → EndsStandAt names a.objects (place_of (slot_at s m)) (rows_of s.spaces (slot_at s m).directory) slot →
        EndsStandAt names after.objects (place_of (slot_at s m)) (rows_of sp (slot_at s m).directory) slot
    ends_stand m (free id) ends = tt
    ends_stand m (unborn id parent) ends = tt
    ends_stand m (born b) ends =
        ends_moved (same_places refl) (λ fd. refl) (λ fd its is. pipes_same its) (λ fd under. row_kept (slot_at s m).directory (pipe_page fd))
        (λ fd x under is. refl) ends
    ends_stand m (serving id) ends = tt

    -- ---- what entries show

    still_whole : (n p : ℕ) (x : Entry) → before n p ≡ Some x → IsPage (sp.pages x.frame)
    still_whole n p x counts = elim (cases_eq x.frame e.frame) [
      | inl same ↦
          subst (λ (page : List ℕ). IsPage page) (sym (bytes_are x.frame same))
          (put_whole (s.spaces.pages e.frame) FD_OFFSET (to_le_bytes w32 offset) (word_bytes offset)
          (subst (λ (g : ℕ). IsPage (s.spaces.pages g)) same (h.whole n p x counts)))
      | inr ne ↦ subst (λ (page : List ℕ). IsPage page) (sym (bytes_kept x.frame ne)) (h.whole n p x counts)
    ]

    module _ (n p : ℕ) (x : Entry) (counts : before n p ≡ Some x) (shared_page : is_shared x.perm ≡ true) where
      abbrev its : ℕ
      its = names.name x.frame

      abbrev had : List ℕ
      had = s.spaces.pages x.frame

      -- the file has the new offset
      moved_shows : x.frame ≡ e.frame → HasObject (things_in s a) its x.frame (a.objects its) had →
          HasObject things its x.frame (after.objects its) (sp.pages x.frame)
      moved_shows same shows =
          let found = its_file n p x counts shared_page same (a.objects its) refl shows in
          let is = found.1 in
          let long : length (s.spaces.pages e.frame) ≡ PGSIZE = ap (λ (g : ℕ). length (s.spaces.pages g)) (sym same) ∙ (h.whole n p x counts).long in
          let its_number = ap told_number (told x.frame) in
          let file_is : IsOpenFile things its x.frame moved (sp.pages x.frame) = record {
            device = ap told_device (told x.frame) ∙ is.device;
            offset = ap offset_of (bytes_are x.frame same) ∙ put_word_at (s.spaces.pages e.frame) FD_OFFSET offset small (omega (arith, long));
            mode = ap told_mode (told x.frame) ∙ is.mode;
            size = ap told_size (told x.frame) ∙ is.size;
            below = subst (λ (k : ℕ). k < MAXOPEN) (sym its_number) is.below;
            held = ap (λ (k : ℕ). (a.opened k).held_by) its_number ∙ is.held;
            entry = is.entry;
            stands = row_kept home _ ∙ ap (λ (k : ℕ). rows_of s.spaces home (place_page k)) its_number ∙ is.stands;
            same = is.same;
          } in
          subst (λ (o : Object). HasObject things its x.frame o (sp.pages x.frame))
          (sym (ap after.objects found.0 ∙ upd-at a.objects name (file moved))) file_is

      -- another is as it was
      other_shows : x.frame ≢ e.frame → HasObject (things_in s a) its x.frame (a.objects its) had →
          HasObject things its x.frame (after.objects its) (sp.pages x.frame)
      other_shows ne shows =
          subst (λ (o : Object). HasObject things its x.frame o (sp.pages x.frame)) (sym (upd-other a.objects name (file moved) its other))
          (subst (λ (l : List ℕ). HasObject things its x.frame (a.objects its) l) (sym (bytes_kept x.frame ne)) (by_object (a.objects its) shows))
        where
          other : its ≢ name
          other same = ne (its_frame n p x counts shared_page same shows)

          by_end : (pipe mode : ℕ) → IsEnd (things_in s a) its pipe x.frame mode had → IsEnd things its pipe x.frame mode had
          by_end pipe mode is = record {
            numbered = is.numbered;
            device = is.device;
            mode_is = is.mode_is;
            apart = λ q y at. is.apart q y (sym (row_kept home q) ∙ at);
          }

          by_object : (o : Object) → HasObject (things_in s a) its x.frame o had → HasObject things its x.frame o had
          by_object terminal is = record { device = is.device; apart = λ q y at. is.apart q y (sym (row_kept home q) ∙ at) }
          by_object (file g) is = file_beside is is.held is.entry (row_kept home _ ∙ is.stands) is.same
          by_object (read_end pipe) is = by_end pipe 0 is
          by_object (write_end pipe) is = by_end pipe 1 is

      still_shows : (object is_pipe : Bool) → names.is_object its ≡ object → ShowsBy (things_in s a) its x.frame object is_pipe (a.shared its) had →
          ShowsBy things its x.frame object is_pipe (a.shared its) (sp.pages x.frame)
      still_shows true false kind shows = elim (cases_eq x.frame e.frame) [
        | inl same ↦ moved_shows same shows
        | inr ne ↦ other_shows ne shows
      ]
      still_shows true true kind is =
          subst (λ (l : List ℕ). HasPipe things its x.frame l) (sym (bytes_kept x.frame (λ same. is.apart (place_page number) e there (sym same))))
          (record { holds = is.holds; few = is.few; apart = λ q y at. is.apart q y (sym (row_kept home q) ∙ at) })
      still_shows false is_pipe kind shows = shows ∙ sym (bytes_kept x.frame not_it)
        where
          not_it : x.frame ≢ e.frame
          not_it same =
              let descriptor = (is_descriptors n p x counts same).descriptor in
              let contradiction : true ≡ false = sym descriptor ∙ sym (h.named n p x counts shared_page).kind ∙ kind in cc

      still_named : IsNamed names sp.pages a.shared things a.next_name p x.frame
      still_named =
          let was = h.named n p x counts shared_page in
          record {
            home = was.home;
            kind = was.kind;
            of_pipe = was.of_pipe;
            shows = still_shows (names.is_object its) (names.is_pipe its) refl was.shows;
            old = was.old;
          }

    -- ---- all of it

    server_so : HasServer sp (slot_at s 0) a.opened a.files.blocks a.server
    server_so = record {
      status = h.server.status;
      pages = λ q is. h.server.pages q (ap is_some (sym (row_kept home q)) ∙ is);
      tables = λ r is. h.server.tables r (sym (rewritten.regions home r) ∙ is);
      alone = λ j q x y under at here.
          h.server.alone j q x y under (sym (row_kept home (place_page j)) ∙ at) (sym (row_kept home q) ∙ here);
    }

    rewritten_stands : IsInOrder (with_spaces s sp) → StandsFor names (with_spaces s sp) after
    rewritten_stands in_order = record {
      slots = slots_stand;
      children = children_kept h.children 0 (λ m ne. refl) (λ m ne. refl) (λ m ne live. clients_seen m ne live)
          (serves_none (slot_at s 0) (a.slots 0) h.first) (serves_none (slot_at s 0) (a.slots 0) h.first);
      apart = λ m o q r x y ne hx hy same. h.apart m o q r x y ne (sym (counts_kept m o) ∙ hx) (sym (counts_kept q r) ∙ hy) same;
      named = λ m q x hx shared_page. still_named m q x (sym (counts_kept m q) ∙ hx) shared_page;
      users = λ m q x hx. h.users m q x (sym (counts_kept m q) ∙ hx);
      whole = λ m q x hx. still_whole m q x (sym (counts_kept m q) ∙ hx);
      beside = λ m q r x y hx is. h.beside m q r x y (sym (counts_kept m q) ∙ hx) (sym (row_kept home r) ∙ is);
      ends = λ m. ends_stand m (a.slots m) (h.ends m);
      locks = locks_same (λ m. refl) (λ m q is. counts_kept m q)
          (λ m q x pipes hx shared_page. bytes_kept x.frame (no_pipe m q x hx shared_page pipes)) h.locks;
      runs = h.runs;
      old = h.old;
      free_slots = h.free_slots;
      first = h.first;
      server = server_so;
      input = h.input;
      last = h.last;
      turns = h.turns;
      tabled = h.tabled;
      in_order = in_order;
    }

  pub offset_stands : (mid : KernelState) (output : Output) → IsStep (store s 0 (place_address number + FD_OFFSET) offset) (Ok tt) mid output →
      IsInOrder mid → StandsFor names mid (record a { objects = upd a.objects name (file (record f { offset = offset })) })
  offset_stands mid output came in_order =
      let address : place_address number + FD_OFFSET ≡ place_page number * PGSIZE + FD_OFFSET = omega arith in
      let step : IsStep (store s 0 (place_page number * PGSIZE + FD_OFFSET) offset) (Ok tt) mid output =
      subst (λ (x : ℕ). IsStep (store s 0 x offset) (Ok tt) mid output) address came in
      let put = word_comes s 0 (place_page number) (place_below number below) e there FD_OFFSET (omega arith) offset (omega arith) step.0 in
      let mid_is : mid ≡ with_spaces s put.spaces = step.1 ∙ ap (λ (done : CallStep (Unit {0})). done.state) put.step_is in
      subst (λ (z : KernelState). StandsFor names z after) (sym mid_is)
      (let order : IsInOrder (with_spaces s put.spaces) = subst IsInOrder mid_is in_order in rewritten_stands put.spaces put.rewritten order.frames order)
