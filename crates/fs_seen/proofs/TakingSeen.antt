-- A page is taken for a place: the server sees zeros there, in a frame that is counted once, and all else as before; or none was to be had.
use Rattle.std.proofs.Common.{◌≡◌, ◌≢◌, ◌∙◌, ◌+◌, ◌*◌, ◌<◌, inl, inr, ℕ, zero, suc, Bool, true, false, List, [], ◌∷◌}
use Rattle.std.proofs.Common.{Option, Some, None, Ok, refl, sym, ap, subst, arith, if◌then◌else◌}
use Rattle.std.proofs.lemmas.Bool.{cases_eq}
use Rattle.std.proofs.lemmas.Bool.Decides.{nat_tests}
use Rattle.std.proofs.lemmas.Option.{none-some, same_Some}
use Rattle.std.specs.Prelude.{is_some, nat_lt, replicate, slice_index}
use Rattle.jos_base.specs.declared.called.Called.{Called}
use Rattle.jos_base.specs.declared.called.Called.TheVariants.{Answered}
use Rattle.jos_base.specs.declared.memory.Access.{Access}
use Rattle.jos_base.specs.declared.memory.Access.TheVariants.{Read, Write}
use Rattle.jos_base.specs.declared.numbers.TheConstants.{E_NO_MEM, SYS_PAGE_ALLOC}
use Rattle.jos_base.specs.Counting.{frame_limit}
use Rattle.jos_base.specs.KernelState.{KernelState, slot_at, with_refusal, with_spaces}
use Rattle.jos_base.specs.Reach.{Entry, allows}
use Rattle.jos_base.specs.SpacesState.{SpacesState, Use, frame_of, free, page, reference_count, zero_page}
use Rattle.jos_base.specs.SystemCalls.{is_page_address}
use Rattle.jos_base.specs.Words.{negated, upd}
use Rattle.jos_base.proofs.Maps.{upd-at, upd-other}
use Rattle.jos_base.proofs.Puts.{put-at, put-other}
use Rattle.lib_os.specs.declared.numbers.TheConstants.{DISKMAP, MAXOPEN}
use Rattle.lib_os.specs.Disk.{Disk}
use Rattle.lib_os.specs.InOrder.{HasOneUse, IsInOrder}
use Rattle.lib_os.specs.LibraryPages.{region_index}
use Rattle.lib_os.specs.Rows.{IsPage}
use Rattle.lib_os.specs.UserCalls.{CallStep, IsCallStep, Output, answer_of, system}
use Rattle.lib_os.proofs.Calls.{comes_to, page_asked, page_made_or_refused}
use Rattle.lib_os.proofs.PageBytes.{zero_page_whole}
use Rattle.fs_cache.specs.CacheStands.{cache_view}
use Rattle.fs_cache.proofs.Loads.{number_of}
use Rattle.fs_cache.proofs.Views.{ViewKept}
use Rattle.fs_tree.specs.TreeSteps.{memory_in}
use Rattle.fs_tree.proofs.TiesBlocks.{request_number}
use Rattle.fs_requests.specs.ServerPlans.{open_page, open_perm}
use Rattle.fs_serving.specs.ServerViews.{with_new_page, word_of}
use Rattle.fs_seen.specs.ServerMemory.{HasFileTable, IsOpenPage, StandsOver, bytes_by, entry_of, frame_by, home_in, is_table_page}
use Rattle.lib_os.specs.MadeCalls.{is_server_page}
use Rattle.fs_seen.specs.ServerMemory.{place_entry}
use Rattle.fs_seen.specs.ServerMemory.{place_page, records_page, view_in}
use Rattle.fs_seen.proofs.Alike.{IsBehind}
use Rattle.fs_seen.proofs.Changes.{block_entry, block_server, memory_kept, over_kept, place_number, place_table, records_table, request_server, rows_kept}
use Rattle.fs_seen.proofs.Changes.{table_below, table_no_block, table_no_request, table_server}
use Rattle.fs_seen.proofs.Over.{RequestAlike, has_alike, same_entry}
use Rattle.fs_seen.proofs.PagesTaken.{Taken, page_taken}

-- ---- the page

zeros : (n i : ℕ) → slice_index (replicate n 0) i ≡ 0
zeros zero i = refl
zeros (suc n) zero = refl
zeros (suc n) (suc i) = zeros n i

zero_bytes : slice_index zero_page ≡ (λ at. 0)
unfolding zero_page
zero_bytes = λ i at. zeros 4096 at i

new_allows : (access : Access) → allows open_perm access ≡ true
new_allows Read = refl
new_allows Write = refl

page_is_not_free : (u : Use) → u ≡ page → u ≢ free
page_is_not_free u one two = let contradiction : page ≡ free = sym one ∙ two in cc

-- ---- what is so behind it

module _ (d : Disk) (s : KernelState) (n : ℕ) (h : StandsOver d s n) (number : ℕ) (below : number < MAXOPEN)
    (t : SpacesState) (g : ℕ) (it : Taken s.spaces t (slot_at s n).directory (place_page number) open_perm g)
    (in_order : IsInOrder (with_spaces s t)) where
  abbrev k : HasFileTable s n
  k = h.table

  abbrev dir : ℕ
  dir = (slot_at s n).directory

  abbrev p : ℕ
  p = place_page number

  abbrev now : KernelState
  now = with_spaces s t

  abbrev new : Entry
  new = record { frame = g; perm = open_perm }

  uses : HasOneUse s.spaces
  uses = h.cache.in_order.frames

  is_table : is_table_page p ≡ true
  is_table = place_table number below

  other : (q : ℕ) → q ≢ p → entry_of now n q ≡ entry_of s n q
  other q ne = (λ i. it.entries i dir q) ∙ put-other s.spaces.entries dir p (Some new) dir q (λ same. ne)

  here : entry_of now n p ≡ Some new
  here = (λ i. it.entries i dir p) ∙ put-at s.spaces.entries dir p (Some new)

  -- a frame of an entry is another than the new one
  not_new : (q : ℕ) (x : Entry) → entry_of s n q ≡ Some x → x.frame ≢ g
  not_new q x there same = page_is_not_free (s.spaces.uses x.frame) (uses.pages dir q x there) (ap s.spaces.uses same ∙ it.was_free)

  -- and another than that of the page that stood there
  not_old : (q : ℕ) (x : Entry) → is_server_page q ≡ true → q ≢ p → entry_of s n q ≡ Some x → frame_of (entry_of s n p) ≢ Some x.frame
  not_old q x own ne there = by_entry (entry_of s n p) refl
    where
      by_entry : (o : Option Entry) → entry_of s n p ≡ o → frame_of o ≢ Some x.frame
      by_entry None is same = absurd (none-some x.frame same)
      by_entry (Some e) is same = ne (sym (k.apart p q e x is_table own is there (same_Some e.frame x.frame same)))

  stays : (q : ℕ) (x : Entry) → is_server_page q ≡ true → q ≢ p → entry_of s n q ≡ Some x →
      (t.pages x.frame ≡ s.spaces.pages x.frame) × (reference_count t x.frame ≡ reference_count s.spaces x.frame)
  stays q x own ne there =
      it.kept x.frame (page_is_not_free (s.spaces.uses x.frame) (uses.pages dir q x there)) (not_old q x own ne there)

  -- ---- the disk and the request

  cache_kept : ViewKept (cache_view s.spaces dir) (cache_view t dir)
  cache_kept = record {
    row = rows_kept s.spaces t dir (λ m small. other (number_of m) (λ same. table_no_block p m is_table small (sym same)));
    bytes = λ m x there.
        let at = block_entry s.spaces dir m x there in
        (stays (number_of m) x (block_server m at.0) (λ same. table_no_block p m is_table at.0 (sym same)) at.1).0;
    tables = λ r there. it.tables dir (region_index DISKMAP + r) there;
  }

  no_request : request_number ≢ p
  no_request same = table_no_request p is_table (sym same)

  alike_behind : RequestAlike s now n
  alike_behind = same_entry s now n (other request_number no_request) (λ x there. (stays request_number x request_server no_request there).0)

  memory_behind : memory_in d now n ≡ memory_in d s n
  memory_behind = memory_kept d s n h t in_order cache_kept alike_behind

  -- ---- the table

  open_new : IsOpenPage now new
  open_new = record { allowed = new_allows; whole = subst (λ (bytes : List ℕ). IsPage bytes) (sym it.zero) zero_page_whole }

  open_old : (q : ℕ) (x : Entry) → is_table_page q ≡ true → q ≢ p → entry_of s n q ≡ Some x → IsOpenPage now x
  open_old q x is ne there =
      let old = k.pages q x is there in
      record {
        allowed = old.allowed;
        whole = subst (λ (bytes : List ℕ). IsPage bytes) (sym (stays q x (table_server q is) ne there).0) old.whole;
      }

  new_is : (q : ℕ) (x : Entry) → q ≡ p → entry_of now n q ≡ Some x → new ≡ x
  new_is q x same there = same_Some new x (sym here ∙ sym (ap (entry_of now n) same) ∙ there)

  apart_now : (q r : ℕ) (x y : Entry) → is_table_page q ≡ true → is_server_page r ≡ true → entry_of now n q ≡ Some x → entry_of now n r ≡ Some y →
      x.frame ≡ y.frame → q ≡ r
  apart_now q r x y is own x_is y_is same = elim (cases_eq q p) [
    | inl q_here ↦ elim (cases_eq r p) [
      | inl r_here ↦ q_here ∙ sym r_here
      | inr r_ne ↦
          let it_is = ap (λ (e : Entry). e.frame) (new_is q x q_here x_is) in
          absurd (not_new r y (sym (other r r_ne) ∙ y_is) (sym same ∙ sym it_is))
    ]
    | inr q_ne ↦ elim (cases_eq r p) [
      | inl r_here ↦
          let it_is = ap (λ (e : Entry). e.frame) (new_is r y r_here y_is) in
          absurd (not_new q x (sym (other q q_ne) ∙ x_is) (same ∙ sym it_is))
      | inr r_ne ↦ k.apart q r x y is own (sym (other q q_ne) ∙ x_is) (sym (other r r_ne) ∙ y_is) same
    ]
  ]

  no_records : records_page ≢ p
  no_records same = let far = place_number number below in absurd (omega (arith, same, far))

  table_behind : HasFileTable now n
  table_behind = record {
    records = ap (λ (o : Option Entry). is_some o) (other records_page no_records) ∙ k.records;
    pages = λ q x is there. elim (cases_eq q p) [
      | inl same ↦ subst (λ (e : Entry). IsOpenPage now e) (new_is q x same there) open_new
      | inr ne ↦ open_old q x is ne (sym (other q ne) ∙ there)
    ];
    apart = apart_now;
  }

  -- ---- the view

  bytes_beside : (q : ℕ) → is_table_page q ≡ true → q ≢ p → bytes_by now (entry_of now n q) ≡ bytes_by s (entry_of s n q)
  bytes_beside q is ne = ap (bytes_by now) (other q ne) ∙ by_entry (entry_of s n q) refl
    where
      by_entry : (o : Option Entry) → entry_of s n q ≡ o → bytes_by now o ≡ bytes_by s o
      by_entry None there = refl
      by_entry (Some x) there = ap (λ (bytes : List ℕ). Some (slice_index bytes)) (stays q x (table_server q is) ne there).0

  entry_at_place : place_entry now n number ≡ Some new
  entry_at_place =
      let inside : nat_lt number MAXOPEN ≡ true = grind (arith, nat_tests) in
      ap (λ (b : Bool). if b then entry_of now n p else None) inside ∙ here

  page_here : bytes_by now (place_entry now n number) ≡ Some (λ (at : ℕ). 0)
  page_here =
      ap (bytes_by now) entry_at_place ∙ ap (λ (bytes : List ℕ). Some (slice_index bytes)) it.zero ∙ ap (λ (f : ℕ → ℕ). Some f) zero_bytes

  -- what is seen of another place
  module _ {X : Type 0} (by by_now : Option Entry → X) (none : by_now None ≡ by None)
      (same : (q : ℕ) → is_table_page q ≡ true → q ≢ p → by_now (entry_of now n q) ≡ by (entry_of s n q)) where
    place_beside : (j : ℕ) → j ≢ number → by_now (place_entry now n j) ≡ by (place_entry s n j)
    place_beside j ne = by_test (nat_lt j MAXOPEN) refl
      where
        by_test : (b : Bool) → nat_lt j MAXOPEN ≡ b →
            by_now (if b then entry_of now n (place_page j) else None) ≡ by (if b then entry_of s n (place_page j) else None)
        by_test false off = none
        by_test true on =
            let inside : j < MAXOPEN = grind (arith, nat_tests) in
            let one = place_number j inside in
            let two = place_number number below in
            same (place_page j) (place_table j inside) (λ equal. ne (omega (arith, equal, one, two)))

    place_now : (x : X) → by_now (place_entry now n number) ≡ x → (j : ℕ) →
        by_now (place_entry now n j) ≡ upd (λ (m : ℕ). by (place_entry s n m)) number x j
    place_now x is j = elim (cases_eq j number) [
      | inl equal ↦
          ap (λ (m : ℕ). by_now (place_entry now n m)) equal ∙ is
          ∙ sym (ap (upd (λ (m : ℕ). by (place_entry s n m)) number x) equal ∙ upd-at (λ (m : ℕ). by (place_entry s n m)) number x)
      | inr ne ↦ place_beside j ne ∙ sym (upd-other (λ (m : ℕ). by (place_entry s n m)) number x j ne)
    ]

  home_stays : (j : ℕ) → home_in now n j ≡ home_in s n j
  home_stays j =
      ap (λ (o : Option (ℕ → ℕ)). if nat_lt j MAXOPEN then word_of o (4 * j) else 0) (bytes_beside records_page records_table no_records)

  -- how often the frames of other places are counted
  pub holders_stay : (j : ℕ) → j < MAXOPEN → j ≢ number → is_some (bytes_by s (place_entry s n j)) ≡ true →
      reference_count t (frame_by (place_entry s n j)) ≡ reference_count s.spaces (frame_by (place_entry s n j))
  holders_stay j inside ne there =
      let test : nat_lt j MAXOPEN ≡ true = grind (arith, nat_tests) in
      let at : place_entry s n j ≡ entry_of s n (place_page j) = ap (λ (b : Bool). if b then entry_of s n (place_page j) else None) test in
      ap (λ (o : Option Entry). reference_count t (frame_by o)) at
      ∙ by_entry (entry_of s n (place_page j)) refl (sym (ap (λ (o : Option Entry). is_some (bytes_by s o)) at) ∙ there)
      ∙ sym (ap (λ (o : Option Entry). reference_count s.spaces (frame_by o)) at)
    where
      far : place_page j ≢ p
      far equal = let one = place_number j inside in let two = place_number number below in ne (omega (arith, equal, one, two))

      by_entry : (o : Option Entry) → entry_of s n (place_page j) ≡ o → is_some (bytes_by s o) ≡ true →
          reference_count t (frame_by o) ≡ reference_count s.spaces (frame_by o)
      by_entry None at is = absurd (let contradiction : false ≡ true = is in cc)
      by_entry (Some x) there is = (stays (place_page j) x (table_server (place_page j) (place_table j inside)) far there).1

  pub taken_behind : IsBehind d s now n (with_new_page (view_in d s n) number g (λ frame. reference_count t frame))
  taken_behind = record {
    over = over_kept d s n h t in_order cache_kept alike_behind table_behind;
    request_stays = has_alike s now n alike_behind;
    view = λ i. record {
      memory = memory_behind i;
      homes = λ j. home_stays j i;
      pages = λ j. place_now (bytes_by s) (bytes_by now) refl bytes_beside (Some (λ (at : ℕ). 0)) page_here j i;
      frames = λ j. place_now frame_by frame_by refl (λ q is ne. ap frame_by (other q ne)) g (ap frame_by entry_at_place) j i;
      holders = λ frame. reference_count t frame;
      value = (slot_at s n).rendezvous.value;
      sender = (slot_at s n).rendezvous.sender;
    };
    cache = refl;
  }

-- ---- where none was to be had

pub refused_behind : (d : Disk) (s : KernelState) (n : ℕ) → StandsOver d s n → IsBehind d s (with_refusal s) n (view_in d s n)
refused_behind d s n h = record {
  over = record {
    cache = record {
      in_order = record { frames = h.cache.in_order.frames; spaces = h.cache.in_order.spaces };
      live = h.cache.live;
      server = h.cache.server;
      words = h.cache.words;
      stands = h.cache.stands;
    };
    count = h.count;
    bytes = h.bytes;
    request = λ e is. (let old = h.request e is in record { bits = old.bits; apart = old.apart });
    table = record {
      records = h.table.records;
      pages = λ p e is there. (let old = h.table.pages p e is there in record { allowed = old.allowed; whole = old.whole });
      apart = h.table.apart;
    };
  };
  request_stays = refl;
  view = refl;
  cache = refl;
}

-- ---- the call

-- the page was made, of this frame, or refused
pub data HasAsked (d : Disk) (s mid : KernelState) (n number word : ℕ) : Type 0 where
  made : (frame : ℕ) (holders : ℕ → ℕ) → word ≡ 0 → IsBehind d s mid n (with_new_page (view_in d s n) number frame holders) → holders frame ≡ 1 →
      ((j : ℕ) → j < MAXOPEN → j ≢ number → is_some ((view_in d s n).pages j) ≡ true → holders ((view_in d s n).frames j) ≡
      (view_in d s n).holders ((view_in d s n).frames j)) →
      HasAsked d s mid n number word
  refused : word ≡ negated E_NO_MEM → IsBehind d s mid n (view_in d s n) → mid ≡ with_refusal s → HasAsked d s mid n number word

pub page_asked_for : (d : Disk) (s mid : KernelState) (n : ℕ) (output : Output) (number word : ℕ) → number < MAXOPEN → StandsOver d s n →
    IsInOrder mid → (called : Called) → word ≡ answer_of called →
    IsCallStep (system s n SYS_PAGE_ALLOC (0 ∷ open_page number ∷ open_perm ∷ 0 ∷ 0 ∷ [])) (Ok called) mid output → HasAsked d s mid n number word
page_asked_for d s mid n output number word below h order called told call =
    elim (page_made_or_refused s n (open_page number) open_perm (0 ∷ 0 ∷ []) h.cache.live address refl) [
      | inl it ↦
          let came = comes_to asked (Answered 0) called (with_spaces s it.spaces) mid [] output it.step call in
          let taken = page_taken s.spaces it.spaces (slot_at s n).directory (place_page number) open_perm it.frame h.cache.in_order.frames below_d
          (table_below (place_page number) (place_table number below)) it.is in
          subst (λ (m : KernelState). HasAsked d s m n number word) (sym came.1)
          (made it.frame (λ (f : ℕ). reference_count it.spaces f) (told ∙ ap answer_of came.0)
          (taken_behind d s n h number below it.spaces it.frame taken (subst (λ (m : KernelState). IsInOrder m) came.1 order))
          taken.once
          (holders_stay d s n h number below it.spaces it.frame taken (subst (λ (m : KernelState). IsInOrder m) came.1 order)))
      | inr none ↦
          let came = comes_to asked (Answered (negated E_NO_MEM)) called (with_refusal s) mid [] output none.step call in
          subst (λ (m : KernelState). HasAsked d s m n number word) (sym came.1)
          (refused (told ∙ ap answer_of came.0) (refused_behind d s n h) refl)
    ]
  where
    address : is_page_address (open_page number) ≡ true
    address = grind (arith, nat_tests, below)

    asked : CallStep Called
    asked = page_asked s n (open_page number) open_perm (0 ∷ 0 ∷ []) h.cache.live address refl

    records_there : (o : Option Entry) → entry_of s n records_page ≡ o → is_some o ≡ true → (slot_at s n).directory < frame_limit
    records_there None at is = absurd (let contradiction : false ≡ true = is in cc)
    records_there (Some e) at is = (h.cache.in_order.frames.within (slot_at s n).directory records_page e at).0

    below_d : (slot_at s n).directory < frame_limit
    below_d = records_there (entry_of s n records_page) refl h.table.records
