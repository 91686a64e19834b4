-- What each call of the cache does to its pages, and what is to be shown of that.
use Rattle.std.proofs.Common.{◌≡◌, ◌≢◌, ◌<◌, ◌≤◌, ◌/◌, ◌==◌, ℕ, true, false, List, Option, Some, None}
use Rattle.jos_base.specs.declared.numbers.TheConstants.{NPTENTRIES, PTE_A, PTE_D}
use Rattle.jos_base.specs.Reach.{Entry}
use Rattle.jos_base.specs.Words.{has_bit}
use Rattle.lib_os.specs.declared.numbers.TheConstants.{CACHE_BLOCKS}
use Rattle.lib_os.specs.BlockCache.{KeepsValues, is_dirty}
use Rattle.lib_os.specs.Disk.{Disk}
use Rattle.lib_os.specs.Rows.{IsPage}
use Rattle.fs_blocks.specs.declared.place.CachePlace.{CachePlace}
use Rattle.fs_blocks.specs.declared.place.CachePlace.TheVariants as at
use Rattle.fs_blocks.specs.declared.plan.Told.TheVariants as told
use Rattle.fs_blocks.specs.CachePlans.{is_there, is_used, is_written, next_by, page_perm}
use Rattle.fs_cache.specs.CacheStands.{CacheView, CacheStands, IsBlockEntry, cached_at, was_used}
use Rattle.fs_cache.specs.CacheSteps.{cached_count, used_count, fetch_left, flush_left}

-- ---- changes

-- the pages of blocks hold what they held
abbrev pub BytesKept : CacheView → CacheView → Type 0
BytesKept v w = (m : ℕ) (e : Entry) → v.row m ≡ Some e → w.bytes e.frame ≡ v.bytes e.frame

-- the same of those that are no others' frame
abbrev pub BytesBeside : CacheView → CacheView → ℕ → Type 0
BytesBeside v w frame = (m : ℕ) (e : Entry) → v.row m ≡ Some e → e.frame ≢ frame → w.bytes e.frame ≡ v.bytes e.frame

abbrev pub TablesStay : CacheView → CacheView → Type 0
TablesStay v w = (r : ℕ) → v.tables r ≡ true → w.tables r ≡ true

-- all is as it was
pub record ViewKept (v w : CacheView) : Type 0 where
  pub row : (n : ℕ) → w.row n ≡ v.row n
  pub bytes : BytesKept v w
  pub tables : TablesStay v w

-- one block has another entry
pub record RowSet (v w : CacheView) (n : ℕ) (entry : Option Entry) : Type 0 where
  pub set : w.row n ≡ entry
  pub rest : (m : ℕ) → m ≢ n → w.row m ≡ v.row m
  pub tables : TablesStay v w

-- ---- calls

-- whether the block's region has a table
pub record ReadRegion (v w : CacheView) (b word : ℕ) : Type 0 where
  pub kept : ViewKept v w
  pub tells : is_there word ≡ v.tables (b / NPTENTRIES)
  pub none : is_there word ≡ false → (n : ℕ) → n / NPTENTRIES ≡ b / NPTENTRIES → v.row n ≡ None

-- the entry of the block's page
pub record ReadEntry (v w : CacheView) (b word : ℕ) : Type 0 where
  pub kept : ViewKept v w
  pub none : v.row b ≡ None → is_there word ≡ false
  pub some : (e : Entry) → v.row b ≡ Some e →
      (is_there word ≡ true) × (is_written word ≡ has_bit e.perm PTE_D) × (is_used word ≡ has_bit e.perm PTE_A)

pub data TookPage (v w : CacheView) (b word : ℕ) : Type 0 where
  took : (f : ℕ) → word ≡ 0 → RowSet v w b (Some (record { frame = f; perm = page_perm })) → IsPage (w.bytes f) →
      ((m : ℕ) (e : Entry) → v.row m ≡ Some e → e.frame ≢ f) → BytesKept v w → TookPage v w b word
  refused : (word == 0) ≡ false → ViewKept v w → TookPage v w b word

-- The page of one block is mapped where another has its page.
pub data MappedTo (v w : CacheView) (from to word : ℕ) : Type 0 where
  mapped : (e : Entry) → v.row from ≡ Some e → word ≡ 0 → RowSet v w to (Some (record { frame = e.frame; perm = page_perm })) → BytesKept v w →
      MappedTo v w from to word
  refused : from ≢ to → (word == 0) ≡ false → ViewKept v w → MappedTo v w from to word

pub record Unmapped (v w : CacheView) (n : ℕ) : Type 0 where
  pub row : RowSet v w n None
  pub bytes : (m : ℕ) (e : Entry) → m ≢ n → v.row m ≡ Some e → w.bytes e.frame ≡ v.bytes e.frame

-- The block has been read into its page; or the disk has no such block.
pub data Filled (d : Disk) (v w : CacheView) (b : ℕ) : Type 0 where
  filled : (e f : Entry) → v.row b ≡ Some e → b < d.count → RowSet v w b (Some f) → f.frame ≡ e.frame → IsBlockEntry f →
      w.bytes e.frame ≡ d.block b → IsPage (d.block b) → BytesBeside v w e.frame → Filled d v w b
  not_there : d.count ≤ b → ViewKept v w → Filled d v w b

-- the disk has these bytes in a block
pub record DiskSet (d e : Disk) (b : ℕ) (bytes : List ℕ) : Type 0 where
  pub count : e.count ≡ d.count
  pub set : e.block b ≡ bytes
  pub rest : (n : ℕ) → n ≢ b → e.block n ≡ d.block n

-- The page has been written to its block; or the disk has no such block.
pub data Written (d e : Disk) (v w : CacheView) (b : ℕ) : Type 0 where
  written : (x y : Entry) → v.row b ≡ Some x → b < d.count → DiskSet d e b (v.bytes x.frame) → RowSet v w b (Some y) → y.frame ≡ x.frame →
      IsBlockEntry y → has_bit y.perm PTE_D ≡ has_bit x.perm PTE_D → was_used (Some y) ≡ true → BytesKept v w → Written d e v w b
  not_there : d.count ≤ b → e ≡ d → ViewKept v w → Written d e v w b

-- what the call at a place has done
abbrev pub DoneAt : CachePlace → ℕ → Disk → Disk → CacheView → CacheView → ℕ → Type 0
DoneAt (at.LookingRegion b) hand d e v w word = ReadRegion v w b word × (e ≡ d)
DoneAt (at.LookingPage b) hand d e v w word = ReadEntry v w b word × (e ≡ d)
DoneAt (at.Taking b) hand d e v w word = TookPage v w b word × (e ≡ d)
DoneAt (at.Filling b) hand d e v w word = Filled d v w b × (e ≡ d)
DoneAt (at.Settling b) hand d e v w word = MappedTo v w b b word × (e ≡ d)
DoneAt (at.HandRegion b left) hand d e v w word = ReadRegion v w hand word × (e ≡ d)
DoneAt (at.HandPage b left) hand d e v w word = ReadEntry v w hand word × (e ≡ d)
DoneAt (at.WritingBack b) hand d e v w word = Written d e v w hand
DoneAt (at.Passing b) hand d e v w word = MappedTo v w hand hand word × (e ≡ d)
DoneAt (at.Moving b) hand d e v w word = MappedTo v w hand b word × (e ≡ d)
DoneAt (at.Leaving b) hand d e v w word = Unmapped v w hand × (e ≡ d)
DoneAt (at.Freeing b) hand d e v w word = Unmapped v w hand × (e ≡ d)
DoneAt (at.TakingLast b) hand d e v w word = TookPage v w b word × (e ≡ d)
DoneAt (at.FlushRegion b) hand d e v w word = ReadRegion v w b word × (e ≡ d)
DoneAt (at.FlushPage b) hand d e v w word = ReadEntry v w b word × (e ≡ d)
DoneAt (at.FlushWriting b) hand d e v w word = Written d e v w b
DoneAt (at.FlushSettling b) hand d e v w word = MappedTo v w b b word × (e ≡ d)
DoneAt _ hand d e v w word = ⊥

-- ---- what is to be shown

-- The cache stands where it goes, and each block holds what it held.
abbrev pub StandsBehind : Type 0
StandsBehind =
    (d e : Disk) (v w : CacheView) (place : CachePlace) (hand word : ℕ) → CacheStands d v place hand → DoneAt place hand d e v w word →
    let next = (next_by place hand word).state in
    CacheStands e w next.place next.hand × KeepsValues d (cached_at v place) e (cached_at w next.place)

-- Where no page is to be had, no block is cached; and where the flush is over, no page is dirty.
abbrev pub EndsRightly : Type 0
EndsRightly =
    (d e : Disk) (v w : CacheView) (place : CachePlace) (hand word : ℕ) → CacheStands d v place hand → DoneAt place hand d e v w word →
    let tells = (next_by place hand word).told in
    (tells ≡ told.NoPage → (m : ℕ) → m < CACHE_BLOCKS → w.row m ≡ None)
    × (tells ≡ told.Clean → (m : ℕ) → m < CACHE_BLOCKS → is_dirty (w.row m) ≡ false)

-- a number by a view
abbrev pub left_by : (CachePlace → ℕ → ℕ → ℕ) → CachePlace → CacheView → ℕ
left_by number place v = number place (cached_count v.row) (used_count v.row)

-- the places of a fetch
abbrev pub IsFetching : CachePlace → Type 0
IsFetching (at.LookingRegion b) = Unit {0}
IsFetching (at.LookingPage b) = Unit {0}
IsFetching (at.Taking b) = Unit {0}
IsFetching (at.Filling b) = Unit {0}
IsFetching (at.Settling b) = Unit {0}
IsFetching (at.HandRegion b left) = Unit {0}
IsFetching (at.HandPage b left) = Unit {0}
IsFetching (at.WritingBack b) = Unit {0}
IsFetching (at.Passing b) = Unit {0}
IsFetching (at.Moving b) = Unit {0}
IsFetching (at.Leaving b) = Unit {0}
IsFetching (at.Freeing b) = Unit {0}
IsFetching (at.TakingLast b) = Unit {0}
IsFetching _ = ⊥

-- The numbers fall.
abbrev pub FetchFalls : Type 0
FetchFalls =
    (d e : Disk) (v w : CacheView) (place : CachePlace) (hand word : ℕ) → CacheStands d v place hand → DoneAt place hand d e v w word →
    IsFetching place → let next = next_by place hand word in
    next.told ≡ told.Going → left_by fetch_left next.state.place w < left_by fetch_left place v

abbrev pub FlushFalls : Type 0
FlushFalls =
    (d e : Disk) (v w : CacheView) (place : CachePlace) (hand word : ℕ) → CacheStands d v place hand → DoneAt place hand d e v w word →
    let next = next_by place hand word in
    (next.told ≡ told.Clean → ⊥) → left_by flush_left next.state.place w < left_by flush_left place v
