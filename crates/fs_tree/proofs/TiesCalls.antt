-- The calls of the cache leave the page of the request: its entry stays, its frame keeps its bytes, and no block gets the frame. They print nothing.
use Rattle.std.proofs.Common.{◌≡◌, ◌≢◌, ◌∙◌, ◌+◌, ◌*◌, ◌/◌, ◌%◌, ◌==◌, ◌<◌, ◌≤◌, inl, inr, ℕ, Bool, true, false, List, [], ◌∷◌, length}
use Rattle.std.proofs.Common.{Option, Some, None, Result, Ok, Err, refl, sym, ap, subst, arith, if◌then◌else◌}
use Rattle.std.proofs.lemmas.Bool.{cases_eq, cases_lt}
use Rattle.std.proofs.lemmas.Bool.Decides.{nat_tests}
use Rattle.std.proofs.lemmas.Option.{none-some, same_Some}
use Rattle.std.specs.Prelude.{All, nat_lt}
use Rattle.std.specs.Option.{option_map}
use Rattle.jos_host.specs.Files.{Files}
use Rattle.jos_base.specs.declared.called.Called.{Called}
use Rattle.jos_base.specs.declared.called.Called.TheVariants.{Answered}
use Rattle.jos_base.specs.declared.memory.Access.TheVariants.{Read}
use Rattle.jos_base.specs.declared.memory.PageFault.{PageFault}
use Rattle.jos_base.specs.declared.numbers.TheConstants.{E_NO_MEM, NPTENTRIES, PGSIZE, PTE_A, PTE_D, SYS_PAGE_ALLOC, SYS_PAGE_MAP, SYS_PAGE_UNMAP, UVPT}
use Rattle.jos_base.specs.Counting.{frame_limit, page_limit}
use Rattle.jos_base.specs.KernelState.{KernelState, slot_at, with_refusal, with_spaces}
use Rattle.jos_base.specs.Reach.{Entry, FrameOffset}
use Rattle.jos_base.specs.SpacesState.{SpacesState, Region, Use, free, fresh, put, frame_of, with_entry, mapped, with_table}
use Rattle.jos_base.specs.SpacesState.{tabled, tabled_by, tabled_new, inserted, allocated, allocated_in, fresh_from, fresh_of, taken, zero_page}
use Rattle.jos_base.specs.SpacesState.{unmapped, without_entry}
use Rattle.jos_base.specs.SystemCalls.{has_write, shared_entry}
use Rattle.jos_base.specs.UserMemory.{reach_in, touched, touched_by, with_region_bit}
use Rattle.jos_base.specs.Windows.{table_index}
use Rattle.jos_base.specs.Words.{negated, page_number, page_offset}
use Rattle.jos_base.proofs.Maps.{upd-other}
use Rattle.jos_base.proofs.Puts.{put-at, put-holds, put-other}
use Rattle.jos_base.proofs.Released.{released_entries}
use Rattle.lib_os.specs.declared.numbers.TheConstants.{CACHE_BLOCKS, UVPD}
use Rattle.lib_os.specs.BlockCache.{block_address, block_row, own_addresses}
use Rattle.lib_os.specs.InOrder.{AreFree, HasOneUse}
use Rattle.lib_os.specs.Rows.{IsPage}
use Rattle.lib_os.specs.UserCalls.{CallStep, IsCallStep, IsReadBy, IsSentBy, IsStep, Output, Prints, block_put, load, may_read_block, may_write_block}
use Rattle.lib_os.specs.UserCalls.{system}
use Rattle.lib_os.proofs.Calls.{comes_to, made_step, page_asked, page_made_or_refused, page_unmap_is}
use Rattle.lib_os.proofs.Loading.{loaded_quiet, loaded_state}
use Rattle.lib_os.proofs.Releasing.{AreWithin, released_named}
use Rattle.lib_os.proofs.Remapping.{given_on, page_map_is}
use Rattle.fs_blocks.specs.declared.plan.CacheAsk.TheVariants as asked
use Rattle.fs_blocks.specs.CachePlans.{ask_entry, ask_map, ask_page, ask_region, ask_unmap, block_of, page_of, page_perm}
use Rattle.fs_cache.specs.CacheStands.{IsBlockEntry}
use Rattle.fs_cache.specs.CacheSteps.{Caller, IsReply, of_block, row_in}
use Rattle.fs_cache.proofs.Interfaces.{IsServer}
use Rattle.fs_cache.proofs.Loads.{number_below, number_of, own_number, row_below, row_past}
use Rattle.fs_cache.proofs.PagesPut.{HeadIsFree, address_is, block_is, free_or_page, head_is_free}
use Rattle.fs_tree.specs.TreeSteps.{HasRequest, request_bytes}
use Rattle.fs_tree.proofs.TiesPages.{HasAccessed, PageAccessed, accessed_to_read, accessed_to_write}
use Rattle.fs_tree.proofs.TiesBlocks.{request_number, request_same}

-- ---- in a space

-- The page of the request is as it was, and its frame no block's.
pub record PageKept (s t : SpacesState) (d : ℕ) (e : Entry) : Type 0 where
  pub stands : t.entries d request_number ≡ Some e
  pub bytes : t.pages e.frame ≡ s.pages e.frame
  pub apart : (b : ℕ) (x : Entry) → block_row t d own_addresses b ≡ Some x → x.frame ≢ e.frame

module _ (s t : SpacesState) (d : ℕ) (e : Entry) (stands : s.entries d request_number ≡ Some e)
    (apart : (b : ℕ) (x : Entry) → block_row s d own_addresses b ≡ Some x → x.frame ≢ e.frame) (bytes : t.pages e.frame ≡ s.pages e.frame) where
  -- no entry changes
  kept_same : t.entries ≡ s.entries → PageKept s t d e
  kept_same same = record {
    stands = (λ i. same i d request_number) ∙ stands;
    bytes = bytes;
    apart = λ b x is. elim (cases_lt b CACHE_BLOCKS) [
      | inl below ↦
          apart b x (row_below s d b below ∙ (λ i. sym same i d (number_of b)) ∙ sym (row_below t d b below) ∙ is)
      | inr past ↦ absurd (none-some x (sym (row_past t d b (grind (arith, past))) ∙ is))
    ];
  }

  -- one block's entry changes
  kept_put : (b : ℕ) → b < CACHE_BLOCKS → (o : Option Entry) → t.entries ≡ put s.entries d (number_of b) o →
      ((x : Entry) → o ≡ Some x → x.frame ≢ e.frame) → PageKept s t d e
  kept_put b below o entries other = record {
    stands =
        (λ i. entries i d request_number)
        ∙ put-other s.entries d (number_of b) o d request_number (λ _ same. absurd (omega (arith, same)))
        ∙ stands;
    bytes = bytes;
    apart = λ m x is. elim (cases_lt m CACHE_BLOCKS) [
      | inl inside ↦ elim (cases_eq m b) [
        | inl same ↦
            other x
            (sym (put-at s.entries d (number_of b) o)
            ∙ (λ i. sym entries i d (number_of (sym same i)))
            ∙ sym (row_below t d m inside)
            ∙ is)
        | inr ne ↦
            apart m x
            (row_below s d m inside
            ∙ sym (put-other s.entries d (number_of b) o d (number_of m) (λ _ same. ne (omega (arith, same))))
            ∙ (λ i. sym entries i d (number_of m))
            ∙ sym (row_below t d m inside)
            ∙ is)
      ]
      | inr past ↦ absurd (none-some x (sym (row_past t d m (grind (arith, past))) ∙ is))
    ];
  }

-- an access to a block's page
accessed_kept : (s t : SpacesState) (d b : ℕ) (x e : Entry) (bytes : List ℕ) → b < CACHE_BLOCKS → s.entries d request_number ≡ Some e →
    ((c : ℕ) (y : Entry) → block_row s d own_addresses c ≡ Some y → y.frame ≢ e.frame) → block_row s d own_addresses b ≡ Some x →
    PageAccessed s t d (number_of b) x bytes → PageKept s t d e
accessed_kept s t d b x e bytes below stands apart there a =
    let other : x.frame ≢ e.frame = apart b x there in
    kept_put s t d e stands apart ((λ i. a.pages i e.frame) ∙ upd-other s.pages x.frame bytes e.frame (λ same. other (sym same))) b below
    (Some a.entry) a.entries
    (λ y is same.
    let entry : a.entry ≡ y = same_Some a.entry y is in
    other (sym a.frame ∙ ap (λ (z : Entry). z.frame) entry ∙ same))

-- ---- pages that are put and taken away

-- the frames that are not free keep their bytes
record HasTable (s t : SpacesState) : Type 0 where
  entries : t.entries ≡ s.entries
  bytes : (f : ℕ) → s.uses f ≢ free → t.pages f ≡ s.pages f

tabled_has : (s t : SpacesState) (d index : ℕ) → HeadIsFree s.uses s.free → tabled s d index ≡ Some t → HasTable s t
unfolding tabled
tabled_has s t d index head is = by_region (s.regions d index) is
  where
    by_list : (list : List ℕ) → s.free ≡ list → tabled_new s list d index ≡ Some t → HasTable s t
    by_list [] at none = absurd (none-some t none)
    by_list (f ∷ rest) at some =
        subst (λ (z : SpacesState). HasTable s z) (same_Some (with_table (record s { free = rest }) d index f) t some)
        (record { entries = refl; bytes = λ g used. upd-other s.pages f [] g (λ same. used (ap s.uses same ∙ head f rest at)) })

    by_region : (o : Option Region) → tabled_by s o d index ≡ Some t → HasTable s t
    by_region None some = by_list s.free refl some
    by_region (Some region) some =
        subst (λ (z : SpacesState). HasTable s z) (same_Some s t some) (record { entries = refl; bytes = λ f used. refl })

-- what another entry names keeps its bytes
record IsPut (s t : SpacesState) (d p : ℕ) (o : Option Entry) (e : Entry) : Type 0 where
  entries : t.entries ≡ put s.entries d p o
  bytes : t.pages e.frame ≡ s.pages e.frame

module _ (d p q : ℕ) (e : Entry) (low : p < page_limit) (owner : d < frame_limit) (other : q ≢ p) where
  put_within : (entries : ℕ → ℕ → Option Entry) (o : Option Entry) → AreWithin entries → AreWithin (put entries d p o)
  put_within entries o within =
      put-holds entries d p o (λ a b (x : Option Entry). (y : Entry) → x ≡ Some y → (a < frame_limit) × (b < page_limit)) (λ y is. (owner, low))
      (λ a b off y is. within a b y is)

  mapped_put : (u : SpacesState) (x : Entry) → AreWithin u.entries → u.entries d q ≡ Some e → IsPut u (mapped u d p x) d p (Some x) e
  unfolding mapped
  mapped_put u x within stands = record {
    entries = released_entries (with_entry u d p x) (frame_of (u.entries d p));
    bytes =
        released_named (with_entry u d p x) (frame_of (u.entries d p)) (put_within u.entries (Some x) within) d q e
        (put-other u.entries d p (Some x) d q (λ same. other) ∙ stands);
  }

  inserted_put : (s t : SpacesState) (x : Entry) → HeadIsFree s.uses s.free → AreWithin s.entries → s.entries d q ≡ Some e → s.uses e.frame ≢ free →
      inserted s d p x ≡ Some t → IsPut s t d p (Some x) e
  unfolding inserted
  inserted_put s t x head within stands used is = by_table (tabled s d (p / NPTENTRIES)) refl is
    where
      by_table : (o : Option SpacesState) → tabled s d (p / NPTENTRIES) ≡ o → option_map (λ u. mapped u d p x) o ≡ Some t → IsPut s t d p (Some x) e
      by_table None at some = absurd (none-some t some)
      by_table (Some u) at some =
          let has = tabled_has s u d (p / NPTENTRIES) head at in
          let it = mapped_put u x (subst AreWithin (sym has.entries) within) ((λ i. has.entries i d q) ∙ stands) in
          subst (λ (z : SpacesState). IsPut s z d p (Some x) e) (same_Some (mapped u d p x) t some)
          (record {
            entries = it.entries ∙ ap (λ (f : ℕ → ℕ → Option Entry). put f d p (Some x)) has.entries;
            bytes = it.bytes ∙ has.bytes e.frame used;
          })

  unmapped_put : (s : SpacesState) → AreWithin s.entries → s.entries d q ≡ Some e → IsPut s (unmapped s d p) d p None e
  unfolding unmapped
  unmapped_put s within stands = record {
    entries = released_entries (without_entry s d p) (frame_of (s.entries d p));
    bytes =
        released_named (without_entry s d p) (frame_of (s.entries d p)) (put_within s.entries None within) d q e
        (put-other s.entries d p None d q (λ same. other) ∙ stands);
  }

-- a page that is taken has a frame that was free
record IsTaken (s t : SpacesState) (d p perm : ℕ) (e : Entry) : Type 0 where
  entry : Entry
  other : entry.frame ≢ e.frame
  is : IsPut s t d p (Some entry) e

fresh_is_not_free : (u : Use) → u ≡ fresh → u ≢ free
fresh_is_not_free u is not = absurd cc

module _ (s : SpacesState) (h : HasOneUse s) (d p q : ℕ) (e : Entry) (low : p < page_limit) (other : q ≢ p) (stands : s.entries d q ≡ Some e) where
  owner : d < frame_limit
  owner = (h.within d q e stands).0

  module _ (g : ℕ) (rest : List ℕ) (at : s.free ≡ g ∷ rest) where
    abbrev first : SpacesState
    first = taken s g rest zero_page

    listed : AreFree s.uses (g ∷ rest)
    listed = subst (AreFree s.uses) at h.free_list

    g_free : s.uses g ≡ free
    g_free = let l = listed in l.0

    first_head : HeadIsFree first.uses rest
    first_head f more is =
        let l = listed in
        let others = subst (λ list. All (λ x. x ≢ g) list) is l.1 in
        let tail = subst (AreFree s.uses) is l.2 in
        upd-other s.uses g fresh f (others 0 f (omega arith)) ∙ tail.0

    apart : e.frame ≢ g
    apart same = free_or_page (s.uses e.frame) (h.pages d q e stands) (ap s.uses same ∙ g_free)

    first_taken : (t : SpacesState) (perm : ℕ) → inserted first d p (record { frame = g; perm = perm }) ≡ Some t → IsTaken s t d p perm e
    first_taken t perm is =
        let used : first.uses e.frame ≢ free =
        free_or_page (first.uses e.frame) (upd-other s.uses g fresh e.frame apart ∙ h.pages d q e stands) in
        let it = inserted_put d p q e low owner other first t (record { frame = g; perm = perm }) first_head h.within stands used is in
        record {
          entry = record { frame = g; perm = perm };
          other = λ same. apart (sym same);
          is = record { entries = it.entries; bytes = it.bytes ∙ upd-other s.pages g zero_page e.frame apart };
        }

  allocated_taken : (t : SpacesState) (perm f : ℕ) → allocated s d p perm ≡ Some (f, t) → IsTaken s t d p perm e
  unfolding allocated fresh_of
  allocated_taken t perm f is = by_list s.free refl is
    where
      by_list : (list : List ℕ) → s.free ≡ list → allocated_in (fresh_from s list) d p perm ≡ Some (f, t) → IsTaken s t d p perm e
      by_list [] at found = absurd (none-some (f, t) found)
      by_list (g ∷ rest) at found = by_insertion (inserted (first g rest at) d p (record { frame = g; perm = perm })) refl found
        where
          by_insertion : (o : Option SpacesState) → inserted (first g rest at) d p (record { frame = g; perm = perm }) ≡ o →
              option_map (λ (u : SpacesState). let pair : ℕ × SpacesState = (g, u) in pair) o ≡ Some (f, t) → IsTaken s t d p perm e
          by_insertion None ins found = absurd (none-some (f, t) found)
          by_insertion (Some u) ins found =
              let both = same_Some (g, u) (f, t) found in
              let state : u ≡ t = ap (λ (z : ℕ × SpacesState). z.1) both in
              first_taken g rest at t perm (ins ∙ ap (λ (z : SpacesState). Some z) state)

-- ---- in the kernel's state

-- the environments are as before, and the page of the request too
pub record RequestKept (s mid : KernelState) (n : ℕ) : Type 0 where
  pub request : HasRequest mid n
  pub bytes : request_bytes mid n ≡ request_bytes s n
  pub environments : mid.environments ≡ s.environments

-- the same, and nothing is printed
abbrev pub IsKeptQuietly : KernelState → KernelState → ℕ → Output → Type 0
IsKeptQuietly s mid n output = RequestKept s mid n × Prints output []

entry_writes : (e : Entry) → IsBlockEntry e → has_write e.perm ≡ true
entry_writes e is = ap (λ (perm : ℕ). has_write perm) is.bits ∙ by_bits is.used is.written
  where
    by_bits : (used written : Bool) → has_write (page_perm + (if used then PTE_A else 0) + (if written then PTE_D else 0)) ≡ true
    by_bits true true = refl
    by_bits true false = refl
    by_bits false true = refl
    by_bits false false = refl

-- a load of a window sets no bit but A of a region
module _ (s : SpacesState) (d va : ℕ) (above : page_limit ≤ page_number va) where
  abbrev Untouched : SpacesState → Type 0
  Untouched t = (t.entries ≡ s.entries) × (t.pages ≡ s.pages)

  window_untouched : Untouched (touched s d va Read)
  unfolding touched
  window_untouched = by_reach (reach_in s d va Read)
    where
      by_test : (t : Bool) → Untouched (if t then with_region_bit s d (page_number va % NPTENTRIES) else s)
      by_test true = (refl, refl)
      by_test false = (refl, refl)

      by_reach : (r : Result FrameOffset PageFault) → Untouched (touched_by s d va Read r)
      by_reach (Err fault) = (refl, refl)
      by_reach (Ok location) =
          let past : nat_lt (page_number va) page_limit ≡ false = grind (arith, nat_tests) in
          rw past (by_test (page_number va / NPTENTRIES == table_index))

module _ (s : KernelState) (n : ℕ) (h : HasRequest s n) where
  abbrev d : ℕ
  d = (slot_at s n).directory

  abbrev e : Entry
  e = h.entry

  itself : RequestKept s s n
  itself = record { request = h; bytes = refl; environments = refl }

  by_refusal : RequestKept s (with_refusal s) n
  by_refusal = record {
    request = record { entry = h.entry; stands = h.stands; bits = h.bits; whole = h.whole; apart = h.apart };
    bytes = refl;
    environments = refl;
  }

  by_spaces : (t : SpacesState) → PageKept s.spaces t d e → RequestKept s (with_spaces s t) n
  by_spaces t kept =
      let request : HasRequest (with_spaces s t) n = record {
        entry = e;
        stands = kept.stands;
        bits = h.bits;
        whole = subst (λ (x : List ℕ). IsPage x) (sym kept.bytes) h.whole;
        apart = kept.apart;
      } in
      record { request = request; bytes = request_same s (with_spaces s t) n h request kept.bytes; environments = refl }

  -- loads
  load_kept : (va word : ℕ) (mid : KernelState) (output : Output) → page_limit ≤ page_number va → IsStep (load s n va) (Ok word) mid output →
      IsKeptQuietly s mid n output
  load_kept va word mid output above call =
      let t = touched s.spaces d va Read in
      let same = window_untouched s.spaces d va above in (
        subst (λ (k : KernelState). RequestKept s k n) (sym (loaded_state s mid n va word output call))
            (by_spaces t (kept_same s.spaces t d e h.stands h.apart (λ i. same.1 i e.frame) same.0)),
        loaded_quiet s mid n va word output call,
      )

  -- an access to a block's page
  access_kept : (b : ℕ) (x : Entry) (bytes : List ℕ) (mid : KernelState) → b < CACHE_BLOCKS → row_in s n b ≡ Some x →
      HasAccessed s mid n (number_of b) x bytes → RequestKept s mid n
  access_kept b x bytes mid below there a =
      subst (λ (k : KernelState). RequestKept s k n) (sym a.is)
      (by_spaces a.spaces (accessed_kept s.spaces a.spaces d b x e bytes below h.stands h.apart there a.accessed))

  module _ (uses : HasOneUse s.spaces) (b : ℕ) (below : b < CACHE_BLOCKS) where
    apart_number : request_number ≢ number_of b
    apart_number same = absurd (omega (arith, same))

    owned : d < frame_limit
    owned = (uses.within d request_number e h.stands).0

    -- an entry is put at a block's page
    put_kept : (t : SpacesState) (o : Option Entry) → IsPut s.spaces t d (number_of b) o e → ((x : Entry) → o ≡ Some x → x.frame ≢ e.frame) →
        RequestKept s (with_spaces s t) n
    put_kept t o is other = by_spaces t (kept_put s.spaces t d e h.stands h.apart is.bytes b below o is.entries other)

    insertion_kept : (x : Entry) → x.frame ≢ e.frame → (o : Option SpacesState) → inserted s.spaces d (number_of b) x ≡ o →
        RequestKept s (made_step s o).state n
    insertion_kept x other None is = by_refusal
    insertion_kept x other (Some t) is =
        put_kept t (Some x)
        (inserted_put d (number_of b) request_number e (number_below b below) owned apart_number s.spaces t x (head_is_free s.spaces uses) uses.within
        h.stands (free_or_page (s.spaces.uses e.frame) (uses.pages d request_number e h.stands)) is)
        (λ y same frames. other (ap (λ (z : Entry). z.frame) (same_Some x y same) ∙ frames))

    removal_kept : RequestKept s (with_spaces s (unmapped s.spaces d (number_of b))) n
    removal_kept =
        put_kept (unmapped s.spaces d (number_of b)) None
        (unmapped_put d (number_of b) request_number e (number_below b below) owned apart_number s.spaces uses.within h.stands)
        (λ y none. absurd (none-some y none))

    taking_kept : (t : SpacesState) (perm f : ℕ) → allocated s.spaces d (number_of b) perm ≡ Some (f, t) → RequestKept s (with_spaces s t) n
    taking_kept t perm f is =
        let it = allocated_taken s.spaces uses d (number_of b) request_number e (number_below b below) apart_number h.stands t perm f is in
        put_kept t (Some it.entry) it.is (λ y same frames. it.other (ap (λ (z : Entry). z.frame) (same_Some it.entry y same) ∙ frames))

-- ---- what is asked

-- a call that asks for frames prints nothing
made_quiet : (s : KernelState) (o : Option SpacesState) → (made_step s o).written ≡ []
made_quiet s None = refl
made_quiet s (Some t) = refl

-- the windows lie above the pages
window_above : (more : ℕ) → page_limit ≤ page_number (UVPD + more)
unfolding page_limit
window_above more = omega arith

table_above : (more : ℕ) → page_limit ≤ page_number (UVPT + more)
unfolding page_limit
table_above more = omega arith

module _ (c : Caller) (server : IsServer c.state c.slot) (h : HasRequest c.state c.slot) (files : Option Files) (word : ℕ) (mid : KernelState)
    (output : Output) where
  abbrev s : KernelState
  s = c.state

  abbrev n : ℕ
  n = c.slot

  abbrev dir : ℕ
  dir = (slot_at s n).directory

  abbrev Kept : Type 0
  Kept = RequestKept s mid n

  abbrev KeptQuietly : Type 0
  KeptQuietly = IsKeptQuietly s mid n output

  pub region_asked : (b : ℕ) → IsReply (ask_region b) c files (Ok word) mid output → KeptQuietly
  region_asked b reply =
      load_kept s n h (UVPD + 4 * (page_of b / NPTENTRIES)) word mid output (window_above (4 * (page_of b / NPTENTRIES))) reply

  pub entry_asked : (b : ℕ) → IsReply (ask_entry b) c files (Ok word) mid output → KeptQuietly
  entry_asked b reply = load_kept s n h (UVPT + 4 * page_of b) word mid output (table_above (4 * page_of b)) reply

  pub page_asked_of : (b : ℕ) → b < CACHE_BLOCKS → IsReply (ask_page b) c files (Ok word) mid output → KeptQuietly
  page_asked_of b below reply =
      let tail : List ℕ = 0 ∷ 0 ∷ [] in
      let step : CallStep Called = page_asked s n (block_address b) page_perm tail server.live (address_is b below) refl in
      let call : IsCallStep step (Ok reply.0) mid output =
      subst (λ (q : ℕ). IsCallStep (system s n SYS_PAGE_ALLOC (0 ∷ block_address q ∷ page_perm ∷ tail)) (Ok reply.0) mid output) (block_is b below) reply.2 in
      elim (page_made_or_refused s n (block_address b) page_perm tail server.live (address_is b below) refl) [
        | inl made ↦
            let came = comes_to step (Answered 0) reply.0 (with_spaces s made.spaces) mid [] output made.step call in (
              subst (λ (k : KernelState). RequestKept s k n) (sym came.1)
                  (taking_kept s n h server.in_order.frames b below made.spaces page_perm made.frame
                  (ap (λ (p : ℕ). allocated s.spaces dir p page_perm) (sym (own_number b)) ∙ made.is)),
              came.2,
            )
        | inr refused ↦
            let came = comes_to step (Answered (negated E_NO_MEM)) reply.0 (with_refusal s) mid [] output refused.step call in
            (subst (λ (k : KernelState). RequestKept s k n) (sym came.1) (by_refusal s n h), came.2)
      ]

  module _ (from to : ℕ) (x : Entry) (stands : row_in s n from ≡ Some x) (is : IsBlockEntry x) where
    abbrev given : Entry
    given = record { frame = x.frame; perm = page_perm }

    pub map_asked : from < CACHE_BLOCKS → to < CACHE_BLOCKS → IsReply (ask_map from to) c files (Ok word) mid output → KeptQuietly
    map_asked from_below to_below reply =
        let called : Called = reply.0 in
        let call : IsCallStep (system s n SYS_PAGE_MAP (0 ∷ block_address from ∷ 0 ∷ block_address to ∷ page_perm ∷ [])) (Ok called) mid output =
        (λ (r : IsCallStep (system s n SYS_PAGE_MAP (0 ∷ block_address (block_of from) ∷ 0 ∷ block_address (block_of to) ∷ page_perm ∷ [])) (Ok called) mid output).
        subst (λ (q : ℕ). IsCallStep (system s n SYS_PAGE_MAP (0 ∷ block_address from ∷ 0 ∷ block_address q ∷ page_perm ∷ [])) (Ok called) mid output)
        (block_is to to_below)
        (subst (λ (q : ℕ). IsCallStep (system s n SYS_PAGE_MAP (0 ∷ block_address q ∷ 0 ∷ block_address (block_of to) ∷ page_perm ∷ [])) (Ok called) mid output)
        (block_is from from_below) r)) reply.2 in
        let entry : s.spaces.entries dir (page_number (block_address from)) ≡ Some x =
        ap (s.spaces.entries dir) (own_number from) ∙ sym (row_below s.spaces dir from from_below) ∙ stands in
        let step =
        page_map_is s n server.live (block_address from) (block_address to) page_perm (address_is from from_below) (address_is to to_below) given
        (ap (λ (o : Option Entry). shared_entry o page_perm) entry ∙ given_on x page_perm refl (entry_writes x is)) in
        let whole = step ∙ ap (λ (p : ℕ). made_step s (inserted s.spaces dir p given)) (own_number to) in
        let state : mid ≡ (made_step s (inserted s.spaces dir (number_of to) given)).state =
        call.1 ∙ ap (λ (z : CallStep Called). z.state) whole in
        let written = ap (λ (z : CallStep Called). z.written) whole ∙ made_quiet s (inserted s.spaces dir (number_of to) given) in (
          subst (λ (k : KernelState). RequestKept s k n) (sym state)
              (insertion_kept s n h server.in_order.frames to to_below given (h.apart from x stands) (inserted s.spaces dir (number_of to) given) refl),
          subst (λ (bytes : List ℕ). Prints output bytes) written call.2,
        )

  pub unmap_asked : (b : ℕ) → b < CACHE_BLOCKS → IsReply (ask_unmap b) c files (Ok word) mid output → KeptQuietly
  unmap_asked b below reply =
      let tail : List ℕ = 0 ∷ 0 ∷ 0 ∷ [] in
      let called : Called = reply.0 in
      let call : IsCallStep (system s n SYS_PAGE_UNMAP (0 ∷ block_address b ∷ tail)) (Ok called) mid output =
      subst (λ (q : ℕ). IsCallStep (system s n SYS_PAGE_UNMAP (0 ∷ block_address q ∷ tail)) (Ok called) mid output) (block_is b below) reply.2 in
      let step = page_unmap_is s n server.live (block_address b) tail (address_is b below) in
      let state : mid ≡ with_spaces s (unmapped s.spaces dir (number_of b)) =
      call.1 ∙ ap (λ (z : CallStep Called). z.state) step ∙ ap (λ (p : ℕ). with_spaces s (unmapped s.spaces dir p)) (own_number b) in (
        subst (λ (k : KernelState). RequestKept s k n) (sym state) (removal_kept s n h server.in_order.frames b below),
        subst (λ (z : CallStep Called). Prints output z.written) step call.2,
      )

  module _ (b : ℕ) (below : b < CACHE_BLOCKS) (x : Entry) (stands : row_in s n b ≡ Some x) (is : IsBlockEntry x) where
    entry_there : s.spaces.entries dir (number_of b) ≡ Some x
    entry_there = sym (row_below s.spaces dir b below) ∙ stands

    read_by : (t : Bool) → IsReadBy t (of_block c b) files word mid → Kept
    unfolding block_put
    read_by false call = subst (λ (k : KernelState). RequestKept s k n) (sym call.1) (itself s n h)
    read_by true call =
        let came = call.2 in
        access_kept s n h b x _ mid below stands
        (accessed_to_write s n (number_of b) x (number_below b below) entry_there is (block_address b) (own_number b) call.1
        (fits call.1 came.page.long) mid call.3)
      where
        fits : (bytes : List ℕ) → length bytes ≡ PGSIZE → page_offset (block_address b) + length bytes ≤ PGSIZE
        fits bytes long = let first : page_offset (block_address b) ≡ 0 = omega arith in omega (arith, first, long)

    sent_by : (t : Bool) → IsSentBy t (of_block c b) word mid → Kept
    sent_by false call = subst (λ (k : KernelState). RequestKept s k n) (sym call.1) (itself s n h)
    sent_by true call =
        access_kept s n h b x (s.spaces.pages x.frame) mid below stands
        (accessed_to_read s n (number_of b) x (number_below b below) entry_there is (block_address b) (own_number b) mid call.1)

    pub read_asked : IsReply (asked.ReadBlock (block_of b)) c files (Ok word) mid output → KeptQuietly
    read_asked reply =
        let call = subst (λ (k : ℕ). IsReply (asked.ReadBlock k) c files (Ok word) mid output) (block_is b below) reply in
        (read_by (may_read_block (of_block c b)) call.0, call.1)

    pub sent_asked : IsReply (asked.WriteBlock (block_of b)) c files (Ok word) mid output → KeptQuietly
    sent_asked reply =
        let call = subst (λ (k : ℕ). IsReply (asked.WriteBlock k) c files (Ok word) mid output) (block_is b below) reply in
        (sent_by (may_write_block (of_block c b)) call.0, call.1)
