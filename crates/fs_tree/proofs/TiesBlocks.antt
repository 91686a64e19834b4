-- A block whose page is there is read or stored to: its page's bytes change, and nothing else that the cache or the request's page holds.
use Rattle.std.proofs.Common.{◌≡◌, ◌≢◌, ◌∙◌, ◌⊎◌, ◌+◌, ◌<◌, ◌≤◌, inl, inr, ℕ, Bool, true, false, List, Option, Some, None}
use Rattle.std.proofs.Common.{refl, sym, ap, subst, arith, if◌then◌else◌}
use Rattle.std.proofs.lemmas.Bool.{cases_eq, cases_lt}
use Rattle.std.proofs.lemmas.Bool.Decides.{nat_tests}
use Rattle.std.specs.Prelude.{is_some, nat_lt, slice_index}
use Rattle.std.specs.Option.{option_map}
use Rattle.jos_base.specs.declared.numbers.TheConstants.{PGSIZE, PTE_D}
use Rattle.jos_base.specs.Counting.{page_limit}
use Rattle.jos_base.specs.KernelState.{KernelState, slot_at, with_spaces}
use Rattle.jos_base.specs.Reach.{Entry}
use Rattle.jos_base.specs.SpacesState.{SpacesState}
use Rattle.jos_base.specs.Words.{has_bit, page_number, page_offset}
use Rattle.jos_base.proofs.Maps.{upd-at, upd-other}
use Rattle.jos_base.proofs.Options.{some_is}
use Rattle.jos_base.proofs.Puts.{put-at, put-other}
use Rattle.lib_os.specs.declared.numbers.TheConstants.{CACHE_BLOCKS}
use Rattle.lib_os.specs.BlockCache.{IsCache, block_row, block_value, own_addresses}
use Rattle.lib_os.specs.Disk.{Disk}
use Rattle.lib_os.specs.InOrder.{IsInOrder}
use Rattle.lib_os.specs.Rows.{IsPage}
use Rattle.lib_os.specs.UserCalls.{user_byte}
use Rattle.fs_blocks.specs.declared.place.CachePlace.{CachePlace}
use Rattle.fs_blocks.specs.declared.place.CachePlace.TheVariants as at
use Rattle.fs_cache.specs.CacheStands.{CacheAt, CacheStands, CacheView, IsBlockEntry, cache_view, cached_at, cached_in}
use Rattle.fs_cache.specs.CacheSteps.{cache_state, cached_count, row_in, used_count}
use Rattle.fs_cache.proofs.FallsCounts.{cached_as_many, used_one_more}
use Rattle.fs_cache.proofs.Loads.{number_of, row_below, row_past}
use Rattle.fs_cache.proofs.MovesBearing.{bears}
use Rattle.lib_os.specs.declared.numbers.TheConstants.{REQUEST}
use Rattle.fs_tree.specs.TreeSteps.{HasRequest, TreeAt, request_bytes}
use Rattle.fs_tree.proofs.TiesPages.{HasAccessed, PageAccessed, user_byte_there}

-- ---- what is seen of the blocks' pages

pub record BlockAccessed (v w : CacheView) (b : ℕ) (e : Entry) (bytes : List ℕ) : Type 0 where
  pub entry : Entry
  pub set : w.row b ≡ Some entry
  pub rest : (m : ℕ) → m ≢ b → w.row m ≡ v.row m
  pub frame : entry.frame ≡ e.frame
  pub bits : IsBlockEntry entry
  pub there : w.bytes e.frame ≡ bytes
  pub others : (f : ℕ) → f ≢ e.frame → w.bytes f ≡ v.bytes f
  pub clean : has_bit entry.perm PTE_D ≡ false → (has_bit e.perm PTE_D ≡ false) × (bytes ≡ v.bytes e.frame)

-- what is cached is the page of an entry
page_from : (bytes : ℕ → List ℕ) (o : Option Entry) (b : List ℕ) → option_map (λ (e : Entry). bytes e.frame) o ≡ Some b →
    (e : Entry) × (o ≡ Some e) × (bytes e.frame ≡ b)
page_from bytes None b is = absurd (let both : ◌≡◌ {A = Option (List ℕ)} None (Some b) = is in cc)
page_from bytes (Some e) b is =
    let same : ◌≡◌ {A = Option (List ℕ)} (Some (bytes e.frame)) (Some b) = is in
    (e, refl, cc)

some_same : (x y : Entry) → ◌≡◌ {A = Option Entry} (Some x) (Some y) → x ≡ y
some_same x y same = cc

module _ (d : Disk) (v w : CacheView) (b hand : ℕ) (e : Entry) (bytes : List ℕ) (h : CacheStands d v (at.Found b) hand)
    (stands : v.row b ≡ Some e) (a : BlockAccessed v w b e bytes) where
  -- the page is no other block's
  lone : (m : ℕ) (x : Entry) → m ≢ b → v.row m ≡ Some x → x.frame ≢ e.frame
  lone m x ne is frames = elim (h.apart m b x e is stands frames) [
    | inl same ↦ ne same
    | inr both ↦ absurd both
  ]

  was : (m : ℕ) (x : Entry) → m ≢ b → w.row m ≡ Some x → v.row m ≡ Some x
  was m x ne is = sym (a.rest m ne) ∙ is

  entry_is : (m : ℕ) (x : Entry) → m ≡ b → w.row m ≡ Some x → a.entry ≡ x
  entry_is m x same is = some_same a.entry x (sym a.set ∙ ap w.row (sym same) ∙ is)

  bytes_at : (m : ℕ) (x : Entry) → m ≡ b → w.row m ≡ Some x → w.bytes x.frame ≡ bytes
  bytes_at m x same is =
      let frame : x.frame ≡ e.frame = sym (ap (λ (y : Entry). y.frame) (entry_is m x same is)) ∙ a.frame in
      ap w.bytes frame ∙ a.there

  bytes_beside : (m : ℕ) (x : Entry) → m ≢ b → w.row m ≡ Some x → w.bytes x.frame ≡ v.bytes x.frame
  bytes_beside m x ne is = a.others x.frame (lone m x ne (was m x ne is))

  entries_still : (m : ℕ) (x : Entry) → w.row m ≡ Some x → IsBlockEntry x
  entries_still m x is = elim (cases_eq m b) [
    | inl same ↦ subst (λ (y : Entry). IsBlockEntry y) (entry_is m x same is) a.bits
    | inr ne ↦ h.entries m x (was m x ne is)
  ]

  dirty_still : b < d.count → (m : ℕ) (x : Entry) → w.row m ≡ Some x → has_bit x.perm PTE_D ≡ true → m < d.count
  dirty_still below m x is on = elim (cases_eq m b) [
    | inl same ↦ subst (λ (k : ℕ). k < d.count) (sym same) below
    | inr ne ↦ h.dirty m x (was m x ne is) on
  ]

  pages_still : IsPage bytes → (m : ℕ) (x : Entry) → w.row m ≡ Some x → IsPage (w.bytes x.frame)
  pages_still page m x is = elim (cases_eq m b) [
    | inl same ↦ subst (λ (y : List ℕ). IsPage y) (sym (bytes_at m x same is)) page
    | inr ne ↦ subst (λ (y : List ℕ). IsPage y) (sym (bytes_beside m x ne is)) (h.pages m x (was m x ne is))
  ]

  clean_still : (m : ℕ) (x : Entry) → w.row m ≡ Some x → m < d.count → has_bit x.perm PTE_D ≡ false → w.bytes x.frame ≡ d.block m
  clean_still m x is below off = elim (cases_eq m b) [
    | inl same ↦
        let was_clean = a.clean (ap (λ (y : Entry). has_bit y.perm PTE_D) (entry_is m x same is) ∙ off) in
        bytes_at m x same is
        ∙ was_clean.1
        ∙ (bears d v (at.Found b) hand h).clean b e stands refl (subst (λ (k : ℕ). k < d.count) same below) was_clean.0
        ∙ ap d.block (sym same)
    | inr ne ↦ bytes_beside m x ne is ∙ (bears d v (at.Found b) hand h).clean m x (was m x ne is) refl below off
  ]

  frame_was : (m : ℕ) (x : Entry) → w.row m ≡ Some x → (y : Entry) × (v.row m ≡ Some y) × (y.frame ≡ x.frame)
  frame_was m x is = elim (cases_eq m b) [
    | inl same ↦ (e, ap v.row same ∙ stands, sym a.frame ∙ ap (λ (y : Entry). y.frame) (entry_is m x same is))
    | inr ne ↦ (x, was m x ne is, refl)
  ]

  apart_still : (m k : ℕ) (x y : Entry) → w.row m ≡ Some x → w.row k ≡ Some y → x.frame ≡ y.frame → (m ≡ k) ⊎ ⊥
  apart_still m k x y is other frames =
      let first = frame_was m x is in
      let second = frame_was k y other in
      h.apart m k first.0 second.0 first.1 second.1 (first.2 ∙ frames ∙ sym second.2)

  cache_still : IsPage bytes → IsCache d (cached_at w (at.Found b))
  cache_still page = record {
    whole = λ m x is.
        let from = page_from w.bytes (w.row m) x is in
        subst (λ (y : List ℕ). IsPage y) from.2 (pages_still page m from.0 from.1);
    clean = λ m x below is off.
        let from = page_from w.bytes (w.row m) x is in
        let clean : has_bit from.0.perm PTE_D ≡ false = rw from.1 at off in
        sym from.2 ∙ clean_still m from.0 from.1 below clean;
  }

  pub block_stands : IsPage bytes → b < d.count → CacheStands d w (at.Found b) hand
  block_stands page below = record {
    block_below = h.block_below;
    hand_below = h.hand_below;
    cache = cache_still page;
    entries = entries_still;
    dirty = dirty_still below;
    pages = pages_still page;
    apart = apart_still;
    at = ap (λ (o : Option Entry). is_some o) a.set;
  }

  -- what the block holds, and the others
  pub value_there : block_value d (cached_at w (at.Found b)) b ≡ bytes
  value_there = rw a.set (ap w.bytes a.frame ∙ a.there)

  pub value_was : block_value d (cached_at v (at.Found b)) b ≡ v.bytes e.frame
  value_was = rw stands refl

  pub value_beside : (m : ℕ) → m ≢ b → block_value d (cached_at w (at.Found b)) m ≡ block_value d (cached_at v (at.Found b)) m
  value_beside m ne = by_entry (v.row m) refl
    where
      by_entry : (o : Option Entry) → v.row m ≡ o → block_value d (cached_at w (at.Found b)) m ≡ block_value d (cached_at v (at.Found b)) m
      by_entry None none = let now : w.row m ≡ None = a.rest m ne ∙ none in rw (now, none) refl
      by_entry (Some x) is = let now : w.row m ≡ Some x = a.rest m ne ∙ is in rw (now, is) (bytes_beside m x ne now)

-- ---- in the kernel's state

-- the number of the request's page
abbrev pub request_number : ℕ
request_number = page_number REQUEST

pub request_low : request_number < page_limit
unfolding page_limit
request_low = omega arith

module _ (s t : SpacesState) (d b : ℕ) (below : b < CACHE_BLOCKS) (e : Entry) (bytes : List ℕ) (a : PageAccessed s t d (number_of b) e bytes) where
  row_rest : (m : ℕ) → m ≢ b → block_row t d own_addresses m ≡ block_row s d own_addresses m
  row_rest m other = elim (cases_lt m CACHE_BLOCKS) [
    | inl inside ↦
        row_below t d m inside
        ∙ (λ i. a.entries i d (number_of m))
        ∙ put-other s.entries d (number_of b) (Some a.entry) d (number_of m) (λ _ same. other (omega (arith, same)))
        ∙ sym (row_below s d m inside)
    | inr past ↦
        let beyond : CACHE_BLOCKS ≤ m = grind (arith, past) in
        row_past t d m beyond ∙ sym (row_past s d m beyond)
  ]

  bytes_rest : (f : ℕ) → f ≢ e.frame → t.pages f ≡ s.pages f
  bytes_rest f ne = (λ i. a.pages i f) ∙ upd-other s.pages e.frame bytes f ne

  pub block_accessed : BlockAccessed (cache_view s d) (cache_view t d) b e bytes
  block_accessed = record {
    entry = a.entry;
    set = row_below t d b below ∙ (λ i. a.entries i d (number_of b)) ∙ put-at s.entries d (number_of b) (Some a.entry);
    rest = row_rest;
    frame = a.frame;
    bits = a.bits;
    there = (λ i. a.pages i e.frame) ∙ upd-at s.pages e.frame bytes;
    others = bytes_rest;
    clean = a.clean;
  }

  -- the request's page is another
  pub request_stays : s.entries d request_number ≡ t.entries d request_number
  request_stays =
      sym ((λ i. a.entries i d request_number)
      ∙ put-other s.entries d (number_of b) (Some a.entry) d request_number (λ _ same. absurd (omega (arith, same))))

-- what the page of the request holds
pub request_holds : (s : KernelState) (n : ℕ) (entry : Entry) → s.spaces.entries (slot_at s n).directory request_number ≡ Some entry →
    IsBlockEntry entry → (k : ℕ) → k < PGSIZE → user_byte s n (REQUEST + k) ≡ slice_index (s.spaces.pages entry.frame) k
request_holds s n entry stands is k below =
    let at : page_number (REQUEST + k) ≡ request_number = omega (arith, below) in
    let offset : page_offset (REQUEST + k) ≡ k = omega (arith, below) in
    user_byte_there s n request_number entry request_low stands is (REQUEST + k) at
    ∙ ap (slice_index (s.spaces.pages entry.frame)) offset

-- The same page holds the same.
pub request_same : (s mid : KernelState) (n : ℕ) (h : HasRequest s n) (k : HasRequest mid n) →
    mid.spaces.pages k.entry.frame ≡ s.spaces.pages h.entry.frame → request_bytes mid n ≡ request_bytes s n
request_same s mid n h k same = λ i q. by_place q (nat_lt q PGSIZE) refl i
  where
    by_place : (q : ℕ) (t : Bool) → nat_lt q PGSIZE ≡ t →
        (if t then user_byte mid n (REQUEST + q) else 0) ≡ (if t then user_byte s n (REQUEST + q) else 0)
    by_place q false off = refl
    by_place q true on =
        let below : q < PGSIZE = grind (arith, nat_tests) in
        request_holds mid n k.entry k.stands k.bits q below
        ∙ ap (λ (page : List ℕ). slice_index page q) same
        ∙ sym (request_holds s n h.entry h.stands h.bits q below)

-- as many blocks are cached, and one page more may have been used
pub record CountsOn (s mid : KernelState) (n : ℕ) : Type 0 where
  pub cached : cached_count (row_in mid n) ≡ cached_count (row_in s n)
  pub used : used_count (row_in mid n) ≤ used_count (row_in s n) + 1

-- what is so behind an access to a block
pub record BlockLaw (d : Disk) (s mid : KernelState) (n b : ℕ) (bytes : List ℕ) : Type 0 where
  pub stands : TreeAt d mid n
  pub there : block_value d (cached_in mid n) b ≡ bytes
  pub beside : (m : ℕ) → m ≢ b → block_value d (cached_in mid n) m ≡ block_value d (cached_in s n) m
  pub request : request_bytes mid n ≡ request_bytes s n
  pub counts : CountsOn s mid n

module _ (d : Disk) (s : KernelState) (n b : ℕ) (h : TreeAt d s n) (found : (cache_state s n).place ≡ at.Found b) where
  abbrev pub found_stands : CacheStands d (cache_view s.spaces (slot_at s n).directory) (at.Found b) (cache_state s n).hand
  found_stands =
      subst (λ (p : CachePlace). CacheStands d (cache_view s.spaces (slot_at s n).directory) p (cache_state s n).hand) found h.cache.stands

  -- the entry of its page
  pub found_entry : (e : Entry) × (row_in s n b ≡ Some e)
  found_entry = some_is (row_in s n b) found_stands.at

module _ (d : Disk) (s : KernelState) (n b : ℕ) (h : TreeAt d s n) (found : (cache_state s n).place ≡ at.Found b) (e : Entry)
    (stands : row_in s n b ≡ Some e) where
  abbrev dir : ℕ
  dir = (slot_at s n).directory

  abbrev hand : ℕ
  hand = (cache_state s n).hand

  abbrev holds : CacheStands d (cache_view s.spaces dir) (at.Found b) hand
  holds = found_stands d s n b h found

  pub found_value : block_value d (cached_in s n) b ≡ s.spaces.pages e.frame
  found_value =
      ap (λ (p : CachePlace). block_value d (cached_at (cache_view s.spaces dir) p) b) found ∙ rw stands refl

  module _ (of_disk : b < d.count) (bytes : List ℕ) (page : IsPage bytes) (t : SpacesState) (in_order : IsInOrder (with_spaces s t))
      (a : PageAccessed s.spaces t dir (number_of b) e bytes) where
    abbrev seen : BlockAccessed (cache_view s.spaces dir) (cache_view t dir) b e bytes
    seen = block_accessed s.spaces t dir b holds.block_below e bytes a

    still : CacheStands d (cache_view t dir) (at.Found b) hand
    still = block_stands d (cache_view s.spaces dir) (cache_view t dir) b hand e bytes holds stands seen page of_disk

    cache_at : CacheAt d (with_spaces s t) n
    cache_at = record {
      in_order = in_order;
      live = h.cache.live;
      server = h.cache.server;
      words = h.cache.words;
      stands = subst (λ (p : CachePlace). CacheStands d (cache_view t dir) p hand) (sym found) still;
    }

    request_apart : h.request.entry.frame ≢ e.frame
    request_apart same = h.request.apart b e stands (sym same)

    request_pages : t.pages h.request.entry.frame ≡ s.spaces.pages h.request.entry.frame
    request_pages = bytes_rest s.spaces t dir b holds.block_below e bytes a h.request.entry.frame request_apart

    abbrev has_request : HasRequest (with_spaces s t) n
    has_request = record {
      entry = h.request.entry;
      stands = sym (request_stays s.spaces t dir b holds.block_below e bytes a) ∙ h.request.stands;
      bits = h.request.bits;
      whole = subst (λ (x : List ℕ). IsPage x) (sym request_pages) h.request.whole;
      apart = λ m x is frames.
          let from = frame_was d (cache_view s.spaces dir) (cache_view t dir) b hand e bytes holds stands seen m x is in
          h.request.apart m from.0 from.1 (from.2 ∙ frames);
    }

    law_there : BlockLaw d s (with_spaces s t) n b bytes
    law_there = record {
      stands = record { cache = cache_at; request = has_request; count = h.count };
      there =
          ap (λ (p : CachePlace). block_value d (cached_at (cache_view t dir) p) b) found
          ∙ value_there d (cache_view s.spaces dir) (cache_view t dir) b hand e bytes holds stands seen;
      beside = λ m ne.
          ap (λ (p : CachePlace). block_value d (cached_at (cache_view t dir) p) m) found
          ∙ value_beside d (cache_view s.spaces dir) (cache_view t dir) b hand e bytes holds stands seen m ne
          ∙ ap (λ (p : CachePlace). block_value d (cached_at (cache_view s.spaces dir) p) m) (sym found);
      request = request_same s (with_spaces s t) n h.request has_request request_pages;
      counts = record {
        cached = cached_as_many (row_in s n) (row_in (with_spaces s t) n) b seen.rest (ap is_some seen.set ∙ sym (ap is_some stands));
        used = used_one_more (row_in s n) (row_in (with_spaces s t) n) b seen.rest;
      };
    }

  pub block_law : b < d.count → (mid : KernelState) (bytes : List ℕ) → IsPage bytes → IsInOrder mid → HasAccessed s mid n (number_of b) e bytes →
      BlockLaw d s mid n b bytes
  block_law of_disk mid bytes page in_order a =
      subst (λ (k : KernelState). BlockLaw d s k n b bytes) (sym a.is)
      (law_there of_disk bytes page a.spaces (subst (λ (k : KernelState). IsInOrder k) a.is in_order) a.accessed)
