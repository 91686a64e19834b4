-- The bytes of the disk as the cache holds them, where a block whose page is there is read or stored to.
use Rattle.std.proofs.Common.{◌≡◌, ◌≢◌, ◌∙◌, ◌⊎◌, ◌&&◌, ◌+◌, ◌-◌, ◌/◌, ◌%◌, ◌==◌, ◌<◌, ◌≤◌, inl, inr, ℕ, Bool, true, false}
use Rattle.std.proofs.Common.{List, [], ◌∷◌, length, Some, Result, Ok, refl, sym, ap, subst, arith, if◌then◌else◌}
use Rattle.std.proofs.lemmas.Bool.{cases_eq, cases_lt}
use Rattle.std.proofs.lemmas.Bool.Decides.{nat_tests}
use Rattle.std.proofs.lemmas.List.{get_or-set_other}
use Rattle.std.specs.Prelude.{nat_le, nat_lt, slice_index, slice_set}
use Rattle.std.specs.Int.{w32, to_le_bytes, from_le_bytes}
use Rattle.jos_base.specs.declared.numbers.TheConstants.{PGSIZE}
use Rattle.jos_base.specs.Counting.{page_limit}
use Rattle.jos_base.specs.KernelState.{KernelState, slot_at}
use Rattle.jos_base.specs.Reach.{Entry}
use Rattle.jos_base.specs.Words.{page_number, page_offset, upd, word_at}
use Rattle.fs_layout.specs.declared.numbers.TheConstants.{BLKSIZE}
use Rattle.fs_acts.specs.BlockActs.{put_byte, put_word, stored, with_bytes}
use Rattle.lib_os.specs.declared.numbers.TheConstants.{CACHE_BLOCKS}
use Rattle.lib_os.specs.declared.user_os.Stop.{Stop}
use Rattle.lib_os.specs.BlockCache.{CachedBlocks, block_address, block_value}
use Rattle.lib_os.specs.Disk.{Disk}
use Rattle.lib_os.specs.InOrder.{IsInOrder}
use Rattle.lib_os.specs.Rows.{AreBytes, IsPage}
use Rattle.lib_os.specs.UserCalls.{IsStep, Output, load, load_byte, store, store_byte}
use Rattle.lib_os.proofs.BytesPut.{bytes_put, put_before, put_there, put_whole}
use Rattle.lib_os.proofs.PageBytes.{bytes_more, bytes_none, word_bytes}
use Rattle.fs_blocks.specs.declared.place.CachePlace.TheVariants as cached_place
use Rattle.fs_cache.specs.CacheStands.{IsBlockEntry, cached_in}
use Rattle.fs_cache.specs.CacheSteps.{cache_state, row_in}
use Rattle.fs_cache.proofs.Loads.{number_below, number_of, row_below}
use Rattle.fs_jobs.specs.declared.asks.TreeAsk.{TreeAsk}
use Rattle.fs_jobs.specs.declared.asks.TreeAsk.TheVariants as ask
use Rattle.fs_runs.specs.TreeRuns.{memory_after, reply_of}
use Rattle.fs_tree.specs.TreeSteps.{TreeAt, disk_bytes, memory_in}
use Rattle.fs_jobs.specs.TreeTests.{low_byte}
use Rattle.fs_tree.proofs.TiesPages.{HasAccessed, byte_loaded, byte_stored, word_loaded, word_stored}
use Rattle.fs_tree.proofs.TiesBlocks.{CountsOn, block_law, found_entry, found_stands, found_value}

-- ---- lists

-- what stands behind bytes that are put stays
put_behind : (page : List ℕ) (at : ℕ) (bytes : List ℕ) (i : ℕ) → at + length bytes ≤ i → slice_index (bytes_put page at bytes) i ≡ slice_index page i
unfolding bytes_put
put_behind page at [] i past = refl
put_behind page at (byte ∷ rest) i past =
    put_behind (slice_set page at byte) (at + 1) rest i (omega (arith, past))
    ∙ get_or-set_other page at i byte 0 (λ same. absurd (omega (arith, past, same)))

-- a byte that is put is one of a list
pub upd_is : (byte : ℕ → ℕ) (place value : ℕ) → with_bytes byte place (value ∷ []) ≡ upd byte place value
unfolding upd with_bytes
upd_is byte place value = λ i q. by_test q (q == place) refl i
  where
    outside : (q : ℕ) (low : Bool) → nat_le place q ≡ low → q ≢ place →
        (if low && nat_lt q (place + 1) then slice_index (value ∷ []) (q - place) else byte q) ≡ byte q
    outside q false test other = refl
    outside q true test other =
        let at_least : place ≤ q = grind (arith, nat_tests) in
        let past : nat_lt q (place + 1) ≡ false = grind (arith, nat_tests, at_least, other) in
        rw past refl

    by_test : (q : ℕ) (t : Bool) → (q == place) ≡ t →
        (if nat_le place q && nat_lt q (place + 1) then slice_index (value ∷ []) (q - place) else byte q) ≡ (if t then value else byte q)
    by_test q true test =
        let same : q ≡ place = grind (arith, nat_tests) in
        let low : nat_le place q ≡ true = grind (arith, nat_tests) in
        let high : nat_lt q (place + 1) ≡ true = grind (arith, nat_tests) in
        let first : q - place ≡ 0 = omega (arith, same) in
        rw (low, high, first) refl
    by_test q false test = outside q (nat_le place q) refl (λ same. grind (arith, nat_tests, same, test))

-- ---- the bytes of the disk

module _ (d : Disk) (c : CachedBlocks) where
  -- by the block of a place
  pub disk_at : (q : ℕ) → q / BLKSIZE < d.count → disk_bytes d c q ≡ slice_index (block_value d c (q / BLKSIZE)) (q % BLKSIZE)
  disk_at q below = let inside : nat_lt (q / BLKSIZE) d.count ≡ true = grind (arith, nat_tests) in rw inside refl

  disk_past : (q : ℕ) → d.count ≤ q / BLKSIZE → disk_bytes d c q ≡ 0
  disk_past q past = let outside : nat_lt (q / BLKSIZE) d.count ≡ false = grind (arith, nat_tests) in rw outside refl

  -- the word at a multiple of four lies in one block
  pub word_in_block : (at : ℕ) → at / BLKSIZE < d.count → at % 4 ≡ 0 →
      word_at (disk_bytes d c) at ≡ word_at (slice_index (block_value d c (at / BLKSIZE))) (at % BLKSIZE)
  word_in_block at below aligned =
      λ i. from_le_bytes w32 (disk_at at below i ∷ further 1 (omega arith) i ∷ further 2 (omega arith) i ∷ further 3 (omega arith) i ∷ [])
    where
      further : (k : ℕ) → k < 4 → disk_bytes d c (at + k) ≡ slice_index (block_value d c (at / BLKSIZE)) (at % BLKSIZE + k)
      further k lt =
          let block : (at + k) / BLKSIZE ≡ at / BLKSIZE = omega (arith, aligned, lt) in
          let place : (at + k) % BLKSIZE ≡ at % BLKSIZE + k = omega (arith, aligned, lt) in
          disk_at (at + k) (subst (λ (m : ℕ). m < d.count) (sym block) below)
          ∙ (λ i. slice_index (block_value d c (block i)) (place i))

module _ (d : Disk) (c k : CachedBlocks) (b : ℕ) (beside : (m : ℕ) → m ≢ b → block_value d k m ≡ block_value d c m) where
  byte_same : (q : ℕ) → block_value d k (q / BLKSIZE) ≡ block_value d c (q / BLKSIZE) → disk_bytes d k q ≡ disk_bytes d c q
  byte_same q same = elim (cases_lt (q / BLKSIZE) d.count) [
    | inl below ↦ disk_at d k q below ∙ ap (λ (page : List ℕ). slice_index page (q % BLKSIZE)) same ∙ sym (disk_at d c q below)
    | inr past ↦
        let beyond : d.count ≤ q / BLKSIZE = grind (arith, past) in
        disk_past d k q beyond ∙ sym (disk_past d c q beyond)
  ]

  pub disk_same : block_value d k b ≡ block_value d c b → disk_bytes d k ≡ disk_bytes d c
  disk_same same = λ i q. each q i
    where
      each : (q : ℕ) → disk_bytes d k q ≡ disk_bytes d c q
      each q = elim (cases_eq (q / BLKSIZE) b) [
        | inl here ↦ byte_same q (ap (block_value d k) here ∙ same ∙ ap (block_value d c) (sym here))
        | inr other ↦ byte_same q (beside (q / BLKSIZE) other)
      ]

  module _ (at : ℕ) (new : List ℕ) (in_block : at / BLKSIZE ≡ b) (below : b < d.count) (long : length (block_value d c b) ≡ BLKSIZE)
      (fits : at % BLKSIZE + length new ≤ BLKSIZE) (put : block_value d k b ≡ bytes_put (block_value d c b) (at % BLKSIZE) new) where
    put_inside : (q : ℕ) → at ≤ q → q < at + length new → disk_bytes d k q ≡ slice_index new (q - at)
    put_inside q low high =
        let block : q / BLKSIZE ≡ b = omega (arith, low, high, fits, in_block) in
        let place : q % BLKSIZE ≡ at % BLKSIZE + (q - at) = omega (arith, low, high, fits) in
        disk_at d k q (subst (λ (m : ℕ). m < d.count) (sym block) below)
        ∙ (λ i. slice_index (block_value d k (block i)) (place i))
        ∙ ap (λ (page : List ℕ). slice_index page (at % BLKSIZE + (q - at))) put
        ∙ put_there (block_value d c b) (at % BLKSIZE) new (q - at) (omega (arith, low, high)) (omega (arith, fits, long))

    put_outside : (q : ℕ) → (q < at) ⊎ (at + length new ≤ q) → disk_bytes d k q ≡ disk_bytes d c q
    put_outside q out = elim (cases_eq (q / BLKSIZE) b) [
      | inl here ↦
          let inside : q / BLKSIZE < d.count = subst (λ (m : ℕ). m < d.count) (sym here) below in
          disk_at d k q inside
          ∙ ap (λ (m : ℕ). slice_index (block_value d k m) (q % BLKSIZE)) here
          ∙ ap (λ (page : List ℕ). slice_index page (q % BLKSIZE)) put
          ∙ beyond here out
          ∙ ap (λ (m : ℕ). slice_index (block_value d c m) (q % BLKSIZE)) (sym here)
          ∙ sym (disk_at d c q inside)
      | inr other ↦ byte_same q (beside (q / BLKSIZE) other)
    ]
      where
        beyond : q / BLKSIZE ≡ b → (q < at) ⊎ (at + length new ≤ q) →
            slice_index (bytes_put (block_value d c b) (at % BLKSIZE) new) (q % BLKSIZE) ≡ slice_index (block_value d c b) (q % BLKSIZE)
        beyond here (inl before) =
            put_before (block_value d c b) (at % BLKSIZE) new (q % BLKSIZE) (omega (arith, before, here, in_block))
        beyond here (inr behind) =
            put_behind (block_value d c b) (at % BLKSIZE) new (q % BLKSIZE) (omega (arith, behind, here, in_block))

    pub disk_put : disk_bytes d k ≡ with_bytes (disk_bytes d c) at new
    unfolding with_bytes
    disk_put = λ i q. by_low q (nat_le at q) refl (nat_lt q (at + length new)) refl i
      where
        by_low : (q : ℕ) (low : Bool) → nat_le at q ≡ low → (high : Bool) → nat_lt q (at + length new) ≡ high →
            disk_bytes d k q ≡ (if low && high then slice_index new (q - at) else disk_bytes d c q)
        by_low q false low high is = put_outside q (inl (grind (arith, nat_tests)))
        by_low q true low false is = put_outside q (inr (grind (arith, nat_tests)))
        by_low q true low true is = put_inside q (grind (arith, nat_tests)) (grind (arith, nat_tests))

-- ---- the calls

-- what is asked is done: the memory is as it is to be
pub record HasMade (d : Disk) (s mid : KernelState) (n : ℕ) (a : TreeAsk) : Type 0 where
  pub stands : TreeAt d mid n
  pub memory : memory_in d mid n ≡ memory_after a (memory_in d s n)
  pub slot : slot_at mid n ≡ slot_at s n
  pub counts : CountsOn s mid n

module _ (d : Disk) (s : KernelState) (n at : ℕ) (h : TreeAt d s n) (below : at / BLKSIZE < d.count)
    (found : (cache_state s n).place ≡ cached_place.Found (at / BLKSIZE)) where
  abbrev b : ℕ
  b = at / BLKSIZE

  -- where its block lies
  abbrev va : ℕ
  va = block_address b + at % BLKSIZE

  abbrev dir : ℕ
  dir = (slot_at s n).directory

  abbrev e : Entry
  e = (found_entry d s n b h found).0

  abbrev stands : row_in s n b ≡ Some e
  stands = (found_entry d s n b h found).1

  cached : b < CACHE_BLOCKS
  cached = (found_stands d s n b h found).block_below

  low : number_of b < page_limit
  low = number_below b cached

  there : s.spaces.entries dir (number_of b) ≡ Some e
  there = sym (row_below s.spaces dir b cached) ∙ stands

  is : IsBlockEntry e
  is = (found_stands d s n b h found).entries b e stands

  page : IsPage (s.spaces.pages e.frame)
  page = (found_stands d s n b h found).pages b e stands

  number_at : page_number va ≡ number_of b
  number_at = omega arith

  offset_at : page_offset va ≡ at % BLKSIZE
  offset_at = omega arith

  value : block_value d (cached_in s n) b ≡ s.spaces.pages e.frame
  value = found_value d s n b h found e stands

  long : length (block_value d (cached_in s n) b) ≡ BLKSIZE
  long = ap (λ (x : List ℕ). length x) value ∙ page.long

  module _ (mid : KernelState) (in_order : IsInOrder mid) where
    -- a read
    has_read : (a : TreeAsk) → memory_after a (memory_in d s n) ≡ memory_in d s n →
        HasAccessed s mid n (number_of b) e (s.spaces.pages e.frame) → HasMade d s mid n a
    has_read a same accessed =
        let law = block_law d s n b h found e stands below mid (s.spaces.pages e.frame) page in_order accessed in
        let disk : disk_bytes d (cached_in mid n) ≡ disk_bytes d (cached_in s n) =
        disk_same d (cached_in s n) (cached_in mid n) b law.beside (law.there ∙ sym value) in
        record {
          stands = law.stands;
          memory = (λ i. record { disk = disk i; page = law.request i }) ∙ sym same;
          slot = λ i. slot_at (accessed.is i) n;
          counts = law.counts;
        }

    -- a store
    has_stored : (a : TreeAsk) (new : List ℕ) (disk : ℕ → ℕ) → with_bytes (disk_bytes d (cached_in s n)) at new ≡ disk →
        memory_after a (memory_in d s n) ≡ record (memory_in d s n) { disk = disk } →
        AreBytes new → at % BLKSIZE + length new ≤ BLKSIZE →
        HasAccessed s mid n (number_of b) e (bytes_put (s.spaces.pages e.frame) (page_offset va) new) → HasMade d s mid n a
    has_stored a new disk disk_is same small fits accessed =
        let law = block_law d s n b h found e stands below mid (bytes_put (s.spaces.pages e.frame) (page_offset va) new)
        (put_whole (s.spaces.pages e.frame) (page_offset va) new small page) in_order accessed in
        let put : block_value d (cached_in mid n) b ≡ bytes_put (block_value d (cached_in s n) b) (at % BLKSIZE) new =
        law.there ∙ (λ i. bytes_put (sym value i) (offset_at i) new) in
        let now : disk_bytes d (cached_in mid n) ≡ disk =
        disk_put d (cached_in s n) (cached_in mid n) b law.beside at new refl below long fits put ∙ disk_is in
        record {
          stands = law.stands;
          memory = (λ i. record { disk = now i; page = law.request i }) ∙ sym same;
          slot = λ i. slot_at (accessed.is i) n;
          counts = law.counts;
        }

    module _ (output : Output) where
      pub load_made : at % 4 ≡ 0 → (result : Result ℕ Stop) → IsStep (load s n va) result mid output →
          (result ≡ Ok (reply_of (ask.Load at) (memory_in d s n))) × HasMade d s mid n (ask.Load at)
      load_made aligned result call =
          let fits : page_offset va + 4 ≤ PGSIZE = omega (arith, aligned) in
          let done = word_loaded s n (number_of b) e low there is va number_at mid output fits result call in
          let word : word_at (slice_index (s.spaces.pages e.frame)) (page_offset va) ≡ word_at (disk_bytes d (cached_in s n)) at =
          (λ i. word_at (slice_index (sym value i)) (offset_at i)) ∙ sym (word_in_block d (cached_in s n) at below aligned) in
          (done.0 ∙ ap (λ (w : ℕ). Ok w) word, has_read (ask.Load at) refl done.1)

      pub load_byte_made : (result : Result ℕ Stop) → IsStep (load_byte s n va) result mid output →
          (result ≡ Ok (reply_of (ask.LoadByte at) (memory_in d s n))) × HasMade d s mid n (ask.LoadByte at)
      load_byte_made result call =
          let done = byte_loaded s n (number_of b) e low there is va number_at mid output result call in
          let byte : slice_index (s.spaces.pages e.frame) (page_offset va) ≡ disk_bytes d (cached_in s n) at =
          (λ i. slice_index (sym value i) (offset_at i)) ∙ sym (disk_at d (cached_in s n) at below) in
          (done.0 ∙ ap (λ (w : ℕ). Ok w) byte, has_read (ask.LoadByte at) refl done.1)

      pub store_made : (word : ℕ) → at % 4 ≡ 0 → (result : Result (Unit {0}) Stop) → IsStep (store s n va word) result mid output →
          (result ≡ Ok tt) × HasMade d s mid n (ask.Store at word)
      unfolding stored
      store_made word aligned result call =
          let fits : page_offset va + 4 ≤ PGSIZE = omega (arith, aligned) in
          let done = word_stored s n (number_of b) e low there is va number_at mid output word fits result call in (
            done.0,
            has_stored (ask.Store at word) (to_le_bytes w32 word) (stored (put_word at word) (disk_bytes d (cached_in s n))) refl refl
                (word_bytes word) (omega (arith, aligned)) done.1,
          )

      pub store_byte_made : (byte : ℕ) → (result : Result (Unit {0}) Stop) → IsStep (store_byte s n va (low_byte byte)) result mid output →
          (result ≡ Ok tt) × HasMade d s mid n (ask.StoreByte at byte)
      unfolding stored
      store_byte_made byte result call =
          let fits : page_offset va + 1 ≤ PGSIZE = omega arith in
          let done = byte_stored s n (number_of b) e low there is va number_at mid output (low_byte byte) fits result call in (
            done.0,
            has_stored (ask.StoreByte at byte) (low_byte byte ∷ []) (stored (put_byte at (low_byte byte)) (disk_bytes d (cached_in s n)))
                (upd_is (disk_bytes d (cached_in s n)) at (low_byte byte)) refl (bytes_more (low_byte byte) [] (omega arith) bytes_none) (omega arith) done.1,
          )
