-- A byte of the page of the request is read or stored: the page's bytes change, and nothing that the cache holds.
use Rattle.std.proofs.Common.{◌≡◌, ◌≢◌, ◌∙◌, ◌+◌, ◌==◌, ◌<◌, ◌≤◌, inl, inr, ℕ, Bool, true, false, List, [], ◌∷◌}
use Rattle.std.proofs.Common.{Option, Some, None, Result, Ok, refl, sym, ap, subst, arith, if◌then◌else◌}
use Rattle.std.proofs.lemmas.Bool.{cases_lt}
use Rattle.std.proofs.lemmas.Bool.Decides.{nat_tests}
use Rattle.std.proofs.lemmas.List.{get_or-set_same, get_or-set_other}
use Rattle.std.specs.Prelude.{nat_lt, slice_index, slice_set}
use Rattle.std.specs.Option.{option_map}
use Rattle.jos_base.specs.declared.numbers.TheConstants.{PGSIZE}
use Rattle.jos_base.specs.KernelState.{KernelState, slot_at, with_spaces}
use Rattle.jos_base.specs.Reach.{Entry}
use Rattle.jos_base.specs.SpacesState.{SpacesState}
use Rattle.jos_base.specs.Words.{is_exactly, page_number, page_offset, upd}
use Rattle.jos_base.proofs.Maps.{upd-at, upd-other}
use Rattle.jos_base.proofs.Puts.{put-at, put-other}
use Rattle.lib_os.specs.declared.numbers.TheConstants.{CACHE_BLOCKS, DISKMAP}
use Rattle.lib_os.specs.declared.user_os.Stop.{Stop}
use Rattle.lib_os.specs.BlockCache.{CachedBlocks, IsCache, block_row, own_addresses}
use Rattle.lib_os.specs.Disk.{Disk}
use Rattle.lib_os.specs.InOrder.{IsInOrder}
use Rattle.lib_os.specs.LibraryPages.{region_index}
use Rattle.lib_os.specs.Rows.{IsPage}
use Rattle.lib_os.specs.UserCalls.{IsStep, Output, load_byte, store_byte, user_byte}
use Rattle.lib_os.proofs.BytesPut.{bytes_put, put_whole}
use Rattle.lib_os.proofs.PageBytes.{bytes_more, bytes_none}
use Rattle.fs_blocks.specs.declared.place.CachePlace.{CachePlace}
use Rattle.fs_blocks.specs.declared.place.CachePlace.TheVariants as at
use Rattle.fs_cache.specs.CacheStands.{CacheAt, CacheStands, CacheView, HoldsAt, HoldsBlock, IsBoths, IsGiven, cache_view, cached_at, cached_in, filling_at}
use Rattle.fs_cache.specs.CacheSteps.{cache_state, cached_count, row_in, used_count}
use Rattle.fs_cache.proofs.Loads.{number_of, row_below, row_past}
use Rattle.fs_jobs.specs.declared.asks.TreeAsk.{TreeAsk}
use Rattle.fs_jobs.specs.declared.asks.TreeAsk.TheVariants as ask
use Rattle.lib_os.specs.declared.numbers.TheConstants.{REQUEST}
use Rattle.fs_runs.specs.TreeRuns.{memory_after, reply_of}
use Rattle.fs_tree.specs.TreeSteps.{HasRequest, TreeAt, disk_bytes, memory_in, request_bytes}
use Rattle.fs_jobs.specs.TreeTests.{low_byte}
use Rattle.fs_tree.proofs.TiesPages.{HasAccessed, PageAccessed, byte_loaded, byte_stored}
use Rattle.fs_tree.proofs.TiesBlocks.{CountsOn, request_holds, request_low, request_number, request_same}
use Rattle.fs_tree.proofs.TiesMemory.{HasMade}

-- ---- frames beside the blocks'

-- Other bytes in frames that are no block's are not seen.
module _ (d : Disk) (v : CacheView) (bytes : ℕ → List ℕ) (same : (m : ℕ) (x : Entry) → v.row m ≡ Some x → bytes x.frame ≡ v.bytes x.frame) where
  abbrev with_others : CacheView
  with_others = record v { bytes = bytes }

  holds_block : (m : ℕ) → HoldsBlock d v m → HoldsBlock d with_others m
  holds_block m h = record { entry = h.entry; stands = h.stands; holds = λ below. same m h.entry h.stands ∙ h.holds below }

  given_still : (hand block : ℕ) → IsGiven d v hand block → IsGiven d with_others hand block
  given_still hand block h = record { wanted = h.wanted; at_hand = holds_block hand h.at_hand }

  boths_still : (hand block : ℕ) → IsBoths d v hand block → IsBoths d with_others hand block
  boths_still hand block h = record {
    apart = h.apart;
    at_hand = record { entry = h.at_hand.entry; stands = h.at_hand.stands; holds = λ below. same hand h.at_hand.entry h.at_hand.stands ∙ h.at_hand.holds below };
    entry = h.entry;
    stands = h.stands;
    same = h.same;
  }

  holds_at : (place : CachePlace) (hand : ℕ) → HoldsAt place hand d v → HoldsAt place hand d with_others
  holds_at at.Resting hand h = h
  holds_at (at.Found block) hand h = h
  holds_at (at.LookingRegion block) hand h = h
  holds_at (at.LookingPage block) hand h = h
  holds_at (at.Taking block) hand h = h
  holds_at (at.Filling block) hand h = h
  holds_at (at.Settling block) hand h = holds_block block h
  holds_at (at.HandRegion block left) hand h = record { wanted = h.wanted; some = h.some; none = h.none }
  holds_at (at.HandPage block left) hand h = (record { wanted = h.0.wanted; some = h.0.some; none = h.0.none }, h.1)
  holds_at (at.WritingBack block) hand h = h
  holds_at (at.Passing block) hand h = (given_still hand block h.0, h.1)
  holds_at (at.Moving block) hand h = given_still hand block h
  holds_at (at.Leaving block) hand h = boths_still hand block h
  holds_at (at.Freeing block) hand h = given_still hand block h
  holds_at (at.TakingLast block) hand h = h
  holds_at (at.FlushRegion block) hand h = h
  holds_at (at.FlushPage block) hand h = h
  holds_at (at.FlushWriting block) hand h = h
  holds_at (at.FlushSettling block) hand h = (h.0, holds_block block h.1, h.2)

  page_same : (m : ℕ) (out : Bool) (o : Option Entry) → v.row m ≡ o →
      ◌≡◌ {A = Option (List ℕ)} (if out then None else option_map (λ (e : Entry). bytes e.frame) o)
      (if out then None else option_map (λ (e : Entry). v.bytes e.frame) o)
  page_same m true o is = refl
  page_same m false None is = refl
  page_same m false (Some x) is = ap (λ (page : List ℕ). Some page) (same m x is)

  -- what is cached is the same
  pub cached_same : (place : CachePlace) → cached_at with_others place ≡ cached_at v place
  cached_same place = λ i. record {
    page = λ m. page_same m (is_exactly m (filling_at place)) (v.row m) refl i;
    dirty = (cached_at v place).dirty;
  }

  pub others_stand : (place : CachePlace) (hand : ℕ) → CacheStands d v place hand → CacheStands d with_others place hand
  others_stand place hand h = record {
    block_below = h.block_below;
    hand_below = h.hand_below;
    cache = subst (λ (c : CachedBlocks). IsCache d c) (sym (cached_same place)) h.cache;
    entries = h.entries;
    dirty = h.dirty;
    pages = λ m x is. subst (λ (page : List ℕ). IsPage page) (sym (same m x is)) (h.pages m x is);
    apart = h.apart;
    at = holds_at place hand h.at;
  }

-- ---- an access to the request's page

module _ (s t : SpacesState) (d : ℕ) (e : Entry) (bytes : List ℕ) (a : PageAccessed s t d request_number e bytes) where
  row_same : (m : ℕ) → block_row t d own_addresses m ≡ block_row s d own_addresses m
  row_same m = elim (cases_lt m CACHE_BLOCKS) [
    | inl inside ↦
        row_below t d m inside
        ∙ (λ i. a.entries i d (number_of m))
        ∙ put-other s.entries d request_number (Some a.entry) d (number_of m) (λ _ same. absurd (omega (arith, same)))
        ∙ sym (row_below s d m inside)
    | inr past ↦
        let beyond : CACHE_BLOCKS ≤ m = grind (arith, past) in
        row_past t d m beyond ∙ sym (row_past s d m beyond)
  ]

  abbrev seen : CacheView
  seen = record (cache_view s d) { bytes = t.pages }

  view_is : cache_view t d ≡ seen
  view_is = λ i. record {
    row = λ m. row_same m i;
    bytes = t.pages;
    tables = λ r. a.regions d (region_index DISKMAP + r) i;
  }

  bytes_rest : (f : ℕ) → f ≢ e.frame → t.pages f ≡ s.pages f
  bytes_rest f ne = (λ i. a.pages i f) ∙ upd-other s.pages e.frame bytes f ne

  bytes_there : t.pages a.entry.frame ≡ bytes
  bytes_there = ap t.pages a.frame ∙ (λ i. a.pages i e.frame) ∙ upd-at s.pages e.frame bytes

module _ (d : Disk) (s : KernelState) (n : ℕ) (h : TreeAt d s n) where
  abbrev dir : ℕ
  dir = (slot_at s n).directory

  abbrev entry : Entry
  entry = h.request.entry

  abbrev page : List ℕ
  page = s.spaces.pages entry.frame

  module _ (bytes : List ℕ) (whole : IsPage bytes) (t : SpacesState) (in_order : IsInOrder (with_spaces s t))
      (a : PageAccessed s.spaces t dir request_number entry bytes) where
    beside : (m : ℕ) (x : Entry) → row_in s n m ≡ Some x → t.pages x.frame ≡ s.spaces.pages x.frame
    beside m x is = bytes_rest s.spaces t dir entry bytes a x.frame (h.request.apart m x is)

    cache_at : CacheAt d (with_spaces s t) n
    cache_at = record {
      in_order = in_order;
      live = h.cache.live;
      server = h.cache.server;
      words = h.cache.words;
      stands =
          subst (λ (v : CacheView). CacheStands d v (cache_state s n).place (cache_state s n).hand) (sym (view_is s.spaces t dir entry bytes a))
          (others_stand d (cache_view s.spaces dir) t.pages beside (cache_state s n).place (cache_state s n).hand h.cache.stands);
    }

    cached_is : cached_in (with_spaces s t) n ≡ cached_in s n
    cached_is =
        ap (λ (v : CacheView). cached_at v (cache_state s n).place) (view_is s.spaces t dir entry bytes a)
        ∙ cached_same d (cache_view s.spaces dir) t.pages beside (cache_state s n).place

    counts_on : CountsOn s (with_spaces s t) n
    counts_on = record {
      cached = λ i. cached_count (λ m. row_same s.spaces t dir entry bytes a m i);
      used = as_many (used_count (row_in (with_spaces s t) n)) (used_count (row_in s n)) (λ i. used_count (λ m. row_same s.spaces t dir entry bytes a m i));
    }
      where
        as_many : (x y : ℕ) → x ≡ y → x ≤ y + 1
        as_many x y is = omega (arith, is)

    abbrev has_request : HasRequest (with_spaces s t) n
    has_request = record {
      entry = a.entry;
      stands = (λ i. a.entries i dir request_number) ∙ put-at s.spaces.entries dir request_number (Some a.entry);
      bits = a.bits;
      whole = subst (λ (x : List ℕ). IsPage x) (sym (bytes_there s.spaces t dir entry bytes a)) whole;
      apart = λ m x is frames. h.request.apart m x (sym (row_same s.spaces t dir entry bytes a m) ∙ is) (frames ∙ a.frame);
    }

    abbrev stands_behind : TreeAt d (with_spaces s t) n
    stands_behind = record { cache = cache_at; request = has_request; count = h.count }

    read_memory : bytes ≡ page → memory_in d (with_spaces s t) n ≡ memory_in d s n
    read_memory same = λ i. record {
      disk = disk_bytes d (cached_is i);
      page = request_same s (with_spaces s t) n h.request has_request (bytes_there s.spaces t dir entry bytes a ∙ same) i;
    }

    module _ (at value : ℕ) (below : at < PGSIZE) (put : bytes ≡ bytes_put page at (value ∷ [])) where
      request_put : request_bytes (with_spaces s t) n ≡ upd (request_bytes s n) at value
      unfolding upd bytes_put
      request_put = λ i q. by_place q (nat_lt q PGSIZE) refl (q == at) refl i
        where
          holds_now : (q : ℕ) → q < PGSIZE → user_byte (with_spaces s t) n (REQUEST + q) ≡ slice_index (slice_set page at value) q
          holds_now q inside =
              request_holds (with_spaces s t) n a.entry has_request.stands a.bits q inside
              ∙ ap (λ (x : List ℕ). slice_index x q) (bytes_there s.spaces t dir entry bytes a ∙ put)

          by_place : (q : ℕ) (inside : Bool) → nat_lt q PGSIZE ≡ inside → (here : Bool) → (q == at) ≡ here →
              (if inside then user_byte (with_spaces s t) n (REQUEST + q) else 0)
              ≡ (if here then value else (if inside then user_byte s n (REQUEST + q) else 0))
          by_place q false off true is = let same : q ≡ at = grind (arith, nat_tests) in absurd (grind (arith, nat_tests, same, below, off))
          by_place q false off false is = refl
          by_place q true on true is =
              let same : q ≡ at = grind (arith, nat_tests) in
              let long = h.request.whole.long in
              holds_now q (grind (arith, nat_tests))
              ∙ ap (slice_index (slice_set page at value)) same
              ∙ get_or-set_same page at value 0 (omega (arith, long, below))
          by_place q true on false is =
              let inside : q < PGSIZE = grind (arith, nat_tests) in
              holds_now q inside
              ∙ get_or-set_other page at q value 0 (λ same. grind (arith, nat_tests, same, is))
              ∙ sym (request_holds s n entry h.request.stands h.request.bits q inside)

      write_memory : memory_in d (with_spaces s t) n ≡ record (memory_in d s n) { page = upd (request_bytes s n) at value }
      write_memory = λ i. record { disk = disk_bytes d (cached_is i); page = request_put i }

  module _ (mid : KernelState) (in_order : IsInOrder mid) where
    has_read : (a : TreeAsk) → memory_after a (memory_in d s n) ≡ memory_in d s n →
        HasAccessed s mid n request_number entry page → HasMade d s mid n a
    has_read a same accessed =
        let order = subst (λ (k : KernelState). IsInOrder k) accessed.is in_order in
        subst (λ (k : KernelState). HasMade d s k n a) (sym accessed.is)
        (record {
          stands = stands_behind page h.request.whole accessed.spaces order accessed.accessed;
          counts = counts_on page h.request.whole accessed.spaces order accessed.accessed;
          memory = read_memory page h.request.whole accessed.spaces order accessed.accessed refl ∙ sym same;
          slot = refl;
        })

    has_put : (at value : ℕ) (bytes : List ℕ) → at < PGSIZE → IsPage bytes → bytes ≡ bytes_put page at (value ∷ []) →
        (a : TreeAsk) → memory_after a (memory_in d s n) ≡ record (memory_in d s n) { page = upd (request_bytes s n) at value } →
        HasAccessed s mid n request_number entry bytes → HasMade d s mid n a
    has_put at value bytes below whole put a same accessed =
        let order = subst (λ (k : KernelState). IsInOrder k) accessed.is in_order in
        subst (λ (k : KernelState). HasMade d s k n a) (sym accessed.is)
        (record {
          stands = stands_behind bytes whole accessed.spaces order accessed.accessed;
          counts = counts_on bytes whole accessed.spaces order accessed.accessed;
          memory = write_memory bytes whole accessed.spaces order accessed.accessed at value below put ∙ sym same;
          slot = refl;
        })

    module _ (at : ℕ) (below : at < PGSIZE) (output : Output) where
      number_at : page_number (REQUEST + at) ≡ request_number
      number_at = omega (arith, below)

      offset_at : page_offset (REQUEST + at) ≡ at
      offset_at = omega (arith, below)

      pub request_made : (result : Result ℕ Stop) → IsStep (load_byte s n (REQUEST + at)) result mid output →
          (result ≡ Ok (reply_of (ask.Request at) (memory_in d s n))) × HasMade d s mid n (ask.Request at)
      request_made result call =
          let done = byte_loaded s n request_number entry request_low h.request.stands h.request.bits (REQUEST + at) number_at mid output result call in
          let inside : nat_lt at PGSIZE ≡ true = grind (arith, nat_tests) in
          let byte : slice_index page (page_offset (REQUEST + at)) ≡ user_byte s n (REQUEST + at) =
          ap (slice_index page) offset_at ∙ sym (request_holds s n entry h.request.stands h.request.bits at below) in
          let whole : slice_index page (page_offset (REQUEST + at)) ≡ request_bytes s n at = rw inside byte in
          (done.0 ∙ ap (λ (w : ℕ). Ok w) whole, has_read (ask.Request at) refl done.1)

      pub hand_back_made : (byte : ℕ) → (result : Result (Unit {0}) Stop) → IsStep (store_byte s n (REQUEST + at) (low_byte byte)) result mid output →
          (result ≡ Ok tt) × HasMade d s mid n (ask.HandBack at byte)
      hand_back_made byte result call =
          let fits : page_offset (REQUEST + at) + 1 ≤ PGSIZE = omega (arith, below) in
          let done = byte_stored s n request_number entry request_low h.request.stands h.request.bits (REQUEST + at) number_at mid output (low_byte byte) fits
          result call in (
            done.0,
            has_put at (low_byte byte) (bytes_put page (page_offset (REQUEST + at)) (low_byte byte ∷ [])) below
                (put_whole page (page_offset (REQUEST + at)) (low_byte byte ∷ []) (bytes_more (low_byte byte) [] (omega arith) bytes_none) h.request.whole)
                (λ i. bytes_put page (offset_at i) (low_byte byte ∷ [])) (ask.HandBack at byte) refl done.1,
          )
