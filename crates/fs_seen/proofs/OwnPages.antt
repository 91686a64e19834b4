-- A word of a page of the table or of the request's page is loaded, or one of the table is stored: all stands, and the view is as it is to be.
use Rattle.std.proofs.Common.{◌≡◌, ◌≢◌, ◌∙◌, ◌⊎◌, ◌+◌, ◌*◌, ◌<◌, ◌≤◌, inl, inr, ℕ, Bool, true, false, List, length, Option, Some, None}
use Rattle.std.proofs.Common.{refl, sym, ap, subst, arith, if◌then◌else◌}
use Rattle.std.proofs.lemmas.Bool.{cases_eq, cases_lt}
use Rattle.std.proofs.lemmas.Bool.Decides.{nat_tests}
use Rattle.std.proofs.lemmas.Option.{same_Some}
use Rattle.std.specs.Prelude.{◌^◌, is_some, nat_lt, slice_index}
use Rattle.std.specs.Int.{w32, to_le_bytes}
use Rattle.jos_base.specs.declared.numbers.TheConstants.{PGSIZE}
use Rattle.jos_base.specs.KernelState.{KernelState, slot_at, with_spaces}
use Rattle.jos_base.specs.Reach.{Entry}
use Rattle.jos_base.specs.SpacesState.{SpacesState}
use Rattle.jos_base.specs.Words.{upd}
use Rattle.jos_base.proofs.Maps.{upd-at, upd-other}
use Rattle.jos_base.proofs.Puts.{put-at, put-other}
use Rattle.lib_os.specs.declared.numbers.TheConstants.{DISKMAP, MAXOPEN}
use Rattle.lib_os.specs.Disk.{Disk}
use Rattle.lib_os.specs.InOrder.{IsInOrder}
use Rattle.lib_os.specs.LibraryPages.{region_index}
use Rattle.lib_os.specs.Rows.{IsPage}
use Rattle.lib_os.proofs.BytesPut.{bytes_put}
use Rattle.lib_os.proofs.Slots.{upd-back}
use Rattle.fs_cache.specs.CacheStands.{cache_view}
use Rattle.fs_cache.proofs.Loads.{number_of}
use Rattle.fs_cache.proofs.Views.{ViewKept}
use Rattle.fs_tree.specs.TreeSteps.{memory_in}
use Rattle.fs_tree.proofs.TiesBlocks.{request_number}
use Rattle.fs_serving.specs.ServerViews.{with_page_word, with_word, word_of}
use Rattle.fs_seen.specs.ServerMemory.{HasFileTable, IsOpenPage, StandsOver, bytes_by, entry_of, frame_by, has_request, home_in, is_table_page}
use Rattle.lib_os.specs.MadeCalls.{is_server_page}
use Rattle.fs_seen.specs.ServerMemory.{place_entry, place_page, records_page, view_in}
use Rattle.fs_seen.proofs.Accesses.{Accessed, counts_stay}
use Rattle.fs_seen.proofs.Alike.{IsBehind, frames_alike, place_alike, view_alike}
use Rattle.fs_seen.proofs.Changes.{block_entry, block_server, memory_kept, over_kept, place_number, place_table, records_table, request_server, rows_kept}
use Rattle.fs_seen.proofs.Changes.{table_no_block}
use Rattle.fs_seen.proofs.Changes.{table_no_request, table_server}
use Rattle.fs_seen.proofs.Over.{RequestAlike, has_alike, page_there, same_entry}
use Rattle.fs_seen.proofs.WordsPut.{put_stored, word_beside, word_here}

-- ---- the entries behind an access

module _ (s : KernelState) (n p : ℕ) (e : Entry) (stands : entry_of s n p ≡ Some e) (bytes : List ℕ) (t : SpacesState)
    (a : Accessed s.spaces t (slot_at s n).directory p e bytes) where
  abbrev dir : ℕ
  dir = (slot_at s n).directory

  abbrev now : KernelState
  now = with_spaces s t

  pub entry_other : (q : ℕ) → q ≢ p → entry_of now n q ≡ entry_of s n q
  entry_other q ne = (λ i. a.entries i dir q) ∙ put-other s.spaces.entries dir p (Some a.entry) dir q (λ same. ne)

  pub entry_here : entry_of now n p ≡ Some a.entry
  entry_here = (λ i. a.entries i dir p) ∙ put-at s.spaces.entries dir p (Some a.entry)

  pub bytes_other : (f : ℕ) → f ≢ e.frame → t.pages f ≡ s.spaces.pages f
  bytes_other f ne = (λ i. a.pages i f) ∙ upd-other s.spaces.pages e.frame bytes f ne

  pub bytes_here : t.pages a.entry.frame ≡ bytes
  bytes_here = ap t.pages a.frame ∙ (λ i. a.pages i e.frame) ∙ upd-at s.spaces.pages e.frame bytes

  -- the frame of an entry was that of one before
  pub frame_was : (q : ℕ) (y : Entry) → entry_of now n q ≡ Some y → (z : Entry) × (entry_of s n q ≡ Some z) × (z.frame ≡ y.frame)
  frame_was q y is = elim (cases_eq q p) [
    | inl same ↦
        let it : a.entry ≡ y = same_Some a.entry y (sym entry_here ∙ sym (ap (entry_of now n) same) ∙ is) in
        (e, ap (entry_of s n) same ∙ stands, sym a.frame ∙ ap (λ (x : Entry). x.frame) it)
    | inr ne ↦ (y, sym (entry_other q ne) ∙ is, refl)
  ]

  pub frame_same : (q : ℕ) → frame_by (entry_of now n q) ≡ frame_by (entry_of s n q)
  frame_same q = elim (cases_eq q p) [
    | inl same ↦
        ap (λ (r : ℕ). frame_by (entry_of now n r)) same ∙ ap frame_by entry_here ∙ a.frame ∙ sym (ap frame_by stands)
        ∙ sym (ap (λ (r : ℕ). frame_by (entry_of s n r)) same)
    | inr ne ↦ ap frame_by (entry_other q ne)
  ]

  pub some_same : (q : ℕ) → is_some (entry_of s n q) ≡ true → is_some (entry_of now n q) ≡ true
  some_same q there = elim (cases_eq q p) [
    | inl same ↦ ap (λ (r : ℕ). is_some (entry_of now n r)) same ∙ ap (λ (o : Option Entry). is_some o) entry_here
    | inr ne ↦ ap (λ (o : Option Entry). is_some o) (entry_other q ne) ∙ there
  ]

  pub table_apart : HasFileTable s n → (q r : ℕ) (x y : Entry) → is_table_page q ≡ true → is_server_page r ≡ true → entry_of now n q ≡ Some x →
      entry_of now n r ≡ Some y → x.frame ≡ y.frame → q ≡ r
  table_apart k q r x y is own x_is y_is same =
      let one = frame_was q x x_is in
      let two = frame_was r y y_is in
      k.apart q r one.0 two.0 is own one.1 two.1 (one.2 ∙ same ∙ sym two.2)

  -- where no byte changes
  module _ (unchanged : bytes ≡ s.spaces.pages e.frame) where
    pub pages_same : t.pages ≡ s.spaces.pages
    pages_same = a.pages ∙ upd-back s.spaces.pages e.frame bytes unchanged

    pub bytes_same : (q : ℕ) → bytes_by now (entry_of now n q) ≡ bytes_by s (entry_of s n q)
    bytes_same q = elim (cases_eq q p) [
      | inl same ↦
          ap (λ (r : ℕ). bytes_by now (entry_of now n r)) same ∙ ap (bytes_by now) entry_here
          ∙ (λ i. Some (slice_index (pages_same i (a.frame i))))
          ∙ sym (ap (bytes_by s) stands) ∙ sym (ap (λ (r : ℕ). bytes_by s (entry_of s n r)) same)
      | inr ne ↦ ap (bytes_by now) (entry_other q ne) ∙ by_entry (entry_of s n q)
    ]
      where
        by_entry : (o : Option Entry) → bytes_by now o ≡ bytes_by s o
        by_entry None = refl
        by_entry (Some x) = λ i. Some (slice_index (pages_same i x.frame))

-- ---- a page of the table

module _ (d : Disk) (s : KernelState) (n : ℕ) (h : StandsOver d s n) (p : ℕ) (is : is_table_page p ≡ true) (e : Entry)
    (stands : entry_of s n p ≡ Some e) (bytes : List ℕ) (whole : IsPage bytes) (t : SpacesState)
    (a : Accessed s.spaces t (slot_at s n).directory p e bytes) (in_order : IsInOrder (with_spaces s t)) where
  abbrev k : HasFileTable s n
  k = h.table

  abbrev own_dir : ℕ
  own_dir = (slot_at s n).directory

  abbrev after : KernelState
  after = with_spaces s t

  other : (q : ℕ) → q ≢ p → entry_of after n q ≡ entry_of s n q
  other = entry_other s n p e stands bytes t a

  -- other pages of the server's keep their bytes
  bytes_kept : (q : ℕ) (x : Entry) → is_server_page q ≡ true → q ≢ p → entry_of s n q ≡ Some x → t.pages x.frame ≡ s.spaces.pages x.frame
  bytes_kept q x own ne there =
      bytes_other s n p e stands bytes t a x.frame (λ same. ne (sym (k.apart p q e x is own stands there (sym same))))

  cache_kept : ViewKept (cache_view s.spaces own_dir) (cache_view t own_dir)
  cache_kept = record {
    row = rows_kept s.spaces t own_dir (λ m below. other (number_of m) (λ same. table_no_block p m is below (sym same)));
    bytes = λ m x there.
        let at = block_entry s.spaces own_dir m x there in
        bytes_kept (number_of m) x (block_server m at.0) (λ same. table_no_block p m is at.0 (sym same)) at.1;
    tables = λ r there. a.regions own_dir (region_index DISKMAP + r) ∙ there;
  }

  off_request : request_number ≢ p
  off_request same = table_no_request p is (sym same)

  alike_behind : RequestAlike s after n
  alike_behind = same_entry s after n (other request_number off_request)
      (λ x there. bytes_kept request_number x request_server off_request there)

  stays_behind : has_request after n ≡ has_request s n
  stays_behind = has_alike s after n alike_behind

  memory_behind : memory_in d after n ≡ memory_in d s n
  memory_behind = memory_kept d s n h t in_order cache_kept alike_behind

  open_here : IsOpenPage after a.entry
  open_here = record {
    allowed = λ access. a.allowed access ∙ (k.pages p e is stands).allowed access;
    whole = subst (λ (page : List ℕ). IsPage page) (sym (bytes_here s n p e stands bytes t a)) whole;
  }

  table_behind : HasFileTable after n
  table_behind = record {
    records = some_same s n p e stands bytes t a records_page k.records;
    pages = λ q x q_is there. elim (cases_eq q p) [
      | inl same ↦
          subst (λ (y : Entry). IsOpenPage after y)
          (same_Some a.entry x (sym (entry_here s n p e stands bytes t a) ∙ sym (ap (entry_of after n) same) ∙ there)) open_here
      | inr ne ↦
          let was : entry_of s n q ≡ Some x = sym (other q ne) ∙ there in
          let old = k.pages q x q_is was in
          record {
            allowed = old.allowed;
            whole = subst (λ (page : List ℕ). IsPage page) (sym (bytes_kept q x (table_server q q_is) ne was)) old.whole;
          }
    ];
    apart = table_apart s n p e stands bytes t a k;
  }

  over_behind : StandsOver d after n
  over_behind = over_kept d s n h t in_order cache_kept alike_behind table_behind

  bytes_beside : (q : ℕ) → is_table_page q ≡ true → q ≢ p → bytes_by after (entry_of after n q) ≡ bytes_by s (entry_of s n q)
  bytes_beside q q_is ne = ap (bytes_by after) (other q ne) ∙ by_entry (entry_of s n q) refl
    where
      by_entry : (o : Option Entry) → entry_of s n q ≡ o → bytes_by after o ≡ bytes_by s o
      by_entry None there = refl
      by_entry (Some x) there = ap (λ (page : List ℕ). Some (slice_index page)) (bytes_kept q x (table_server q q_is) ne there)

  bytes_there : bytes_by after (entry_of after n p) ≡ Some (slice_index bytes)
  bytes_there =
      ap (bytes_by after) (entry_here s n p e stands bytes t a) ∙ ap (λ (page : List ℕ). Some (slice_index page))
      (bytes_here s n p e stands bytes t a)

  -- a load
  pub table_loaded : bytes ≡ s.spaces.pages e.frame → IsBehind d s after n (view_in d s n)
  table_loaded unchanged = record {
    over = over_behind;
    request_stays = stays_behind;
    view = view_alike s n t (λ q q_is. frame_same s n p e stands bytes t a q)
        (λ q q_is. bytes_same s n p e stands bytes t a unchanged q) d memory_behind
        (counts_stay s.spaces t own_dir p e bytes stands a);
    cache = refl;
  }

  -- a store to the page of a place
  module _ (number : ℕ) (below : number < MAXOPEN) (place : p ≡ place_page number) where
    homes_stay : (j : ℕ) → home_in after n j ≡ home_in s n j
    homes_stay j =
        ap (λ (o : Option (ℕ → ℕ)). if nat_lt j MAXOPEN then word_of o (4 * j) else 0)
        (bytes_beside records_page records_table (λ same. let far = place_number number below in absurd (omega (arith, same, place, far))))

    place_same : (j : ℕ) → j ≢ number → bytes_by after (place_entry after n j) ≡ bytes_by s (place_entry s n j)
    place_same j ne = by_test (nat_lt j MAXOPEN) refl
      where
        by_test : (b : Bool) → nat_lt j MAXOPEN ≡ b →
            bytes_by after (if b then entry_of after n (place_page j) else None) ≡ bytes_by s (if b then entry_of s n (place_page j) else None)
        by_test false off = refl
        by_test true on =
            let inside : j < MAXOPEN = grind (arith, nat_tests) in
            let one = place_number j inside in
            let two = place_number number below in
            bytes_beside (place_page j) (place_table j inside) (λ same. ne (omega (arith, same, place, one, two)))

    entry_at_place : (m : KernelState) → place_entry m n number ≡ entry_of m n p
    entry_at_place m =
        let inside : nat_lt number MAXOPEN ≡ true = grind (arith, nat_tests) in
        ap (λ (b : Bool). if b then entry_of m n (place_page number) else None) inside ∙ sym (ap (entry_of m n) place)

    pub place_stored : (at word : ℕ) → at + 4 ≤ PGSIZE → bytes ≡ bytes_put (s.spaces.pages e.frame) at (to_le_bytes w32 word) →
        IsBehind d s after n (with_page_word (view_in d s n) number at word)
    place_stored at word fits put = record {
      over = over_behind;
      request_stays = stays_behind;
      view = λ i. record {
        memory = memory_behind i;
        homes = λ j. homes_stay j i;
        pages = λ j. page_now j i;
        frames = λ j. frames_alike s n t (λ q q_is. frame_same s n p e stands bytes t a q) j i;
        holders = λ frame. counts_stay s.spaces t own_dir p e bytes stands a frame i;
        value = (slot_at s n).rendezvous.value;
        sender = (slot_at s n).rendezvous.sender;
      };
      cache = refl;
    }
      where
        old : List ℕ
        old = s.spaces.pages e.frame

        long : at + 4 ≤ length old
        long = let has = (k.pages p e is stands).whole.long in omega (arith, has, fits)

        was : bytes_by s (place_entry s n number) ≡ Some (slice_index old)
        was = ap (bytes_by s) (entry_at_place s ∙ stands)

        page_is : bytes_by after (place_entry after n number) ≡ with_word (bytes_by s (place_entry s n number)) at word
        page_is =
            ap (bytes_by after) (entry_at_place after) ∙ bytes_there
            ∙ ap (λ (page : List ℕ). Some (slice_index page)) put
            ∙ ap (λ (f : ℕ → ℕ). Some f) (put_stored old at word long)
            ∙ sym (ap (λ (o : Option (ℕ → ℕ)). with_word o at word) was)

        page_now : (j : ℕ) → bytes_by after (place_entry after n j)
            ≡ upd (λ (m : ℕ). bytes_by s (place_entry s n m)) number (with_word (bytes_by s (place_entry s n number)) at word) j
        page_now j = elim (cases_eq j number) [
          | inl same ↦
              ap (λ (m : ℕ). bytes_by after (place_entry after n m)) same ∙ page_is
              ∙ sym (ap (upd (λ (m : ℕ). bytes_by s (place_entry s n m)) number (with_word (bytes_by s (place_entry s n number)) at word)) same
              ∙ upd-at (λ (m : ℕ). bytes_by s (place_entry s n m)) number (with_word (bytes_by s (place_entry s n number)) at word))
          | inr ne ↦
              place_same j ne
              ∙ sym (upd-other (λ (m : ℕ). bytes_by s (place_entry s n m)) number (with_word (bytes_by s (place_entry s n number)) at word) j ne)
        ]

  -- a store to the page of the records
  module _ (number : ℕ) (below : number < MAXOPEN) (place : p ≡ records_page) where
    place_stays : (j : ℕ) → bytes_by after (place_entry after n j) ≡ bytes_by s (place_entry s n j)
    place_stays =
        place_alike s after n (bytes_by s) (bytes_by after) refl
        (λ j inside. bytes_beside (place_page j) (place_table j inside)
        (λ same. let far = place_number j inside in absurd (omega (arith, same, place, far))))

    pub record_stored : (word : ℕ) → word < 2 ^ 32 → bytes ≡ bytes_put (s.spaces.pages e.frame) (4 * number) (to_le_bytes w32 word) →
        IsBehind d s after n (record (view_in d s n) { homes = upd (view_in d s n).homes number word })
    record_stored word small put = record {
      over = over_behind;
      request_stays = stays_behind;
      view = λ i. record {
        memory = memory_behind i;
        homes = λ j. home_now j i;
        pages = λ j. place_stays j i;
        frames = λ j. frames_alike s n t (λ q q_is. frame_same s n p e stands bytes t a q) j i;
        holders = λ frame. counts_stay s.spaces t own_dir p e bytes stands a frame i;
        value = (slot_at s n).rendezvous.value;
        sender = (slot_at s n).rendezvous.sender;
      };
      cache = refl;
    }
      where
        old : List ℕ
        old = s.spaces.pages e.frame

        long : length old ≡ PGSIZE
        long = (k.pages p e is stands).whole.long

        words_now : bytes_by after (entry_of after n records_page) ≡ Some (slice_index (bytes_put old (4 * number) (to_le_bytes w32 word)))
        words_now = sym (ap (λ (q : ℕ). bytes_by after (entry_of after n q)) place) ∙ bytes_there ∙ ap
            (λ (page : List ℕ). Some (slice_index page)) put

        words_were : bytes_by s (entry_of s n records_page) ≡ Some (slice_index old)
        words_were = sym (ap (λ (q : ℕ). bytes_by s (entry_of s n q)) place) ∙ ap (bytes_by s) stands

        by_now : ℕ → Bool → ℕ
        by_now j inside = if inside then word_of (bytes_by after (entry_of after n records_page)) (4 * j) else 0

        by_then : ℕ → Bool → ℕ
        by_then j inside = if inside then word_of (bytes_by s (entry_of s n records_page)) (4 * j) else 0

        here : by_now number (nat_lt number MAXOPEN) ≡ word
        here =
            let inside : nat_lt number MAXOPEN ≡ true = grind (arith, nat_tests) in
            ap (by_now number) inside ∙ ap (λ (o : Option (ℕ → ℕ)). word_of o (4 * number)) words_now
            ∙ word_here old (4 * number) word (omega (arith, long, below)) small

        beside : (j : ℕ) → j ≢ number → by_now j (nat_lt j MAXOPEN) ≡ by_then j (nat_lt j MAXOPEN)
        beside j ne = by_test (nat_lt j MAXOPEN)
          where
            by_test : (b : Bool) → by_now j b ≡ by_then j b
            by_test false = refl
            by_test true =
                ap (λ (o : Option (ℕ → ℕ)). word_of o (4 * j)) words_now
                ∙ word_beside old (4 * number) word (4 * j) off
                ∙ sym (ap (λ (o : Option (ℕ → ℕ)). word_of o (4 * j)) words_were)
              where
                off : (4 * j + 4 ≤ 4 * number) ⊎ (4 * number + 4 ≤ 4 * j)
                off = elim (cases_lt j number) [
                  | inl less ↦ inl (omega (arith, less))
                  | inr more ↦ let least : number ≤ j = grind (arith, more) in inr (omega (arith, least, ne))
                ]

        home_now : (j : ℕ) → home_in after n j ≡ upd (view_in d s n).homes number word j
        home_now j = elim (cases_eq j number) [
          | inl same ↦
              ap (home_in after n) same ∙ here
              ∙ sym (ap (upd (view_in d s n).homes number word) same ∙ upd-at (view_in d s n).homes number word)
          | inr ne ↦ beside j ne ∙ sym (upd-other (view_in d s n).homes number word j ne)
        ]

-- ---- the page of the request

module _ (d : Disk) (s : KernelState) (n : ℕ) (h : StandsOver d s n) (entry : Entry) (stands : entry_of s n request_number ≡ Some entry) (t : SpacesState)
    (a : Accessed s.spaces t (slot_at s n).directory request_number entry (s.spaces.pages entry.frame))
    (in_order : IsInOrder (with_spaces s t)) where
  abbrev page : List ℕ
  page = s.spaces.pages entry.frame

  abbrev home : ℕ
  home = (slot_at s n).directory

  abbrev behind : KernelState
  behind = with_spaces s t

  no_request : (q : ℕ) → q ≢ request_number → entry_of behind n q ≡ entry_of s n q
  no_request = entry_other s n request_number entry stands page t a

  same_bytes : t.pages ≡ s.spaces.pages
  same_bytes = pages_same s n request_number entry stands page t a refl

  cache_stays : ViewKept (cache_view s.spaces home) (cache_view t home)
  cache_stays = record {
    row = rows_kept s.spaces t home (λ m below. no_request (number_of m) (λ same. absurd (omega (arith, same))));
    bytes = λ m x there. λ i. same_bytes i x.frame;
    tables = λ r there. a.regions home (region_index DISKMAP + r) ∙ there;
  }

  request_here : entry_of behind n request_number ≡ Some a.entry
  request_here = entry_here s n request_number entry stands page t a

  here_bytes : t.pages a.entry.frame ≡ page
  here_bytes = bytes_here s n request_number entry stands page t a

  alike : RequestAlike s behind n
  alike = page_there entry a.entry stands request_here a.block a.frame here_bytes

  still_table : HasFileTable behind n
  still_table = record {
    records = some_same s n request_number entry stands page t a records_page h.table.records;
    pages = λ q x q_is there.
        let was : entry_of s n q ≡ Some x = sym (no_request q (table_no_request q q_is)) ∙ there in
        let old = h.table.pages q x q_is was in
        record { allowed = old.allowed; whole = subst (λ (bytes : List ℕ). IsPage bytes) (λ i. sym same_bytes i x.frame) old.whole };
    apart = table_apart s n request_number entry stands page t a h.table;
  }

  pub request_loaded : IsBehind d s behind n (view_in d s n)
  request_loaded = record {
    over = over_kept d s n h t in_order cache_stays alike still_table;
    request_stays = has_alike s behind n alike;
    view = view_alike s n t (λ q q_is. frame_same s n request_number entry stands page t a q)
        (λ q q_is. bytes_same s n request_number entry stands page t a refl q) d (memory_kept d s n h t in_order cache_stays alike)
        (counts_stay s.spaces t home request_number entry page stands a);
    cache = refl;
  }
