-- What holds of the cache at a place: what a block holds is told by its page or by the disk, and the pages are the cache's own.
use Rattle.std.specs.Prelude.{◌≡◌, ◌≢◌, ◌<◌, ◌≤◌, ℕ, ◌+◌, ◌/◌, ◌||◌, Bool, true, false, is_some, List, length, ◌⊎◌}
use Rattle.std.specs.Prelude.{Option, Some, None, if◌then◌else◌}
use Rattle.jos_base.specs.declared.numbers.TheConstants.{NPTENTRIES, PTE_A, PTE_D}
use Rattle.jos_base.specs.Environments.{is_live}
use Rattle.jos_base.specs.KernelState.{KernelState, slot_at}
use Rattle.jos_base.specs.Reach.{Entry}
use Rattle.jos_base.specs.SpacesState.{SpacesState}
use Rattle.jos_base.specs.Words.{has_bit}
use Rattle.lib_os.specs.declared.numbers.TheConstants.{CACHE_BLOCKS, DISKMAP}
use Rattle.lib_os.specs.BlockCache.{CachedBlocks, IsCache, block_row, cached_by, is_dirty, own_addresses}
use Rattle.lib_os.specs.Disk.{Disk}
use Rattle.lib_os.specs.InOrder.{IsInOrder}
use Rattle.lib_os.specs.LibraryPages.{region_index}
use Rattle.lib_os.specs.Rows.{EntryRow, IsPage}
use Rattle.lib_os.specs.UserCalls.{is_file_server}
use Rattle.fs_blocks.specs.declared.place.CachePlace.{CachePlace}
use Rattle.fs_blocks.specs.declared.place.CachePlace.TheVariants as at
use Rattle.fs_blocks.specs.CachePlaces.{block_at, state_in}
use Rattle.fs_blocks.specs.CachePlans.{further, page_perm}

-- ---- what is seen of a space

-- the entries of the blocks' pages, by the blocks' numbers; the bytes of frames; and which regions of 1,024 blocks have tables
pub record CacheView : Type 0 where
  pub row : EntryRow
  pub bytes : ℕ → List ℕ
  pub tables : ℕ → Bool

abbrev pub cache_view : SpacesState → ℕ → CacheView
cache_view s directory = record {
  row = block_row s directory own_addresses;
  bytes = s.pages;
  tables = λ r. is_some (s.regions directory (region_index DISKMAP + r));
}

-- the block whose page is there, but is not filled
abbrev pub filling_at : CachePlace → Option ℕ
filling_at (at.Filling block) = Some block
filling_at (at.Leaving block) = Some block
filling_at _ = None

-- what is cached
abbrev pub cached_at : CacheView → CachePlace → CachedBlocks
cached_at v place = cached_by v.row v.bytes (filling_at place)

-- ---- what is known at a place

-- The block's page is there, and holds what the disk's block holds, if the disk has the block.
pub record HoldsBlock (d : Disk) (v : CacheView) (n : ℕ) : Type 0 where
  pub entry : Entry
  pub stands : v.row n ≡ Some entry
  pub holds : n < d.count → v.bytes entry.frame ≡ d.block n

-- the blocks that the hand has passed have no page
abbrev pub NonePassed : EntryRow → ℕ → ℕ → Type 0
NonePassed row hand left = (i : ℕ) → left ≤ i → i < CACHE_BLOCKS → row (further hand i) ≡ None

-- a page is wanted for a block that has none; there is a block left to look at
pub record IsSeeking (v : CacheView) (hand block left : ℕ) : Type 0 where
  pub wanted : v.row block ≡ None
  pub some : 0 < left
  pub none : NonePassed v.row hand left

-- the page at hand is given up for a block that has none
pub record IsGiven (d : Disk) (v : CacheView) (hand block : ℕ) : Type 0 where
  pub wanted : v.row block ≡ None
  pub at_hand : HoldsBlock d v hand

-- the page at hand is the block's too
pub record IsBoths (d : Disk) (v : CacheView) (hand block : ℕ) : Type 0 where
  pub apart : hand ≢ block
  pub at_hand : HoldsBlock d v hand
  pub entry : Entry
  pub stands : v.row block ≡ Some entry
  pub same : entry.frame ≡ at_hand.entry.frame

-- the page was accessed since it was mapped
abbrev pub was_used : Option Entry → Bool
was_used None = false
was_used (Some e) = has_bit e.perm PTE_A || has_bit e.perm PTE_D

-- the pages of blocks before this one are clean
abbrev pub AreClean : EntryRow → ℕ → Type 0
AreClean row block = (n : ℕ) → n < block → is_dirty (row n) ≡ false

abbrev pub HoldsAt : CachePlace → ℕ → Disk → CacheView → Type 0
HoldsAt at.Resting hand d v = Unit {0}
HoldsAt (at.Found block) hand d v = is_some (v.row block) ≡ true
HoldsAt (at.LookingRegion block) hand d v = Unit {0}
HoldsAt (at.LookingPage block) hand d v = v.tables (block / NPTENTRIES) ≡ true
HoldsAt (at.Taking block) hand d v = v.row block ≡ None
HoldsAt (at.Filling block) hand d v = is_some (v.row block) ≡ true
HoldsAt (at.Settling block) hand d v = HoldsBlock d v block
HoldsAt (at.HandRegion block left) hand d v = IsSeeking v hand block left
HoldsAt (at.HandPage block left) hand d v = IsSeeking v hand block left × (v.tables (hand / NPTENTRIES) ≡ true)
HoldsAt (at.WritingBack block) hand d v = (v.row block ≡ None) × (was_used (v.row hand) ≡ true)
HoldsAt (at.Passing block) hand d v = IsGiven d v hand block × (was_used (v.row hand) ≡ true)
HoldsAt (at.Moving block) hand d v = IsGiven d v hand block
HoldsAt (at.Leaving block) hand d v = IsBoths d v hand block
HoldsAt (at.Freeing block) hand d v = IsGiven d v hand block
HoldsAt (at.TakingLast block) hand d v = (n : ℕ) → n < CACHE_BLOCKS → v.row n ≡ None
HoldsAt (at.FlushRegion block) hand d v = AreClean v.row block
HoldsAt (at.FlushPage block) hand d v = AreClean v.row block × (v.tables (block / NPTENTRIES) ≡ true)
HoldsAt (at.FlushWriting block) hand d v = AreClean v.row block × (is_some (v.row block) ≡ true) × (v.tables (block / NPTENTRIES) ≡ true)
HoldsAt (at.FlushSettling block) hand d v = AreClean v.row block × HoldsBlock d v block × (v.tables (block / NPTENTRIES) ≡ true)

-- ---- what is known at each place

-- The entry of a block's page: it may be read and written, and was used or written or neither.
pub record IsBlockEntry (e : Entry) : Type 0 where
  pub used : Bool
  pub written : Bool
  pub bits : e.perm ≡ page_perm + (if used then PTE_A else 0) + (if written then PTE_D else 0)

-- Two blocks have one page: one of them is given it by the other.
abbrev pub ArePassingOn : CachePlace → ℕ → ℕ → ℕ → Type 0
ArePassingOn (at.Leaving block) hand n m = ((n ≡ block) × (m ≡ hand)) ⊎ ((n ≡ hand) × (m ≡ block))
ArePassingOn _ hand n m = ⊥

-- The cache over a disk, at a place.
pub record CacheStands (d : Disk) (v : CacheView) (place : CachePlace) (hand : ℕ) : Type 0 where
  pub block_below : block_at place < CACHE_BLOCKS
  pub hand_below : hand < CACHE_BLOCKS
  pub cache : IsCache d (cached_at v place)
  pub entries : (n : ℕ) (e : Entry) → v.row n ≡ Some e → IsBlockEntry e
  -- what is to be written is one of the disk's blocks
  pub dirty : (n : ℕ) (e : Entry) → v.row n ≡ Some e → has_bit e.perm PTE_D ≡ true → n < d.count
  pub pages : (n : ℕ) (e : Entry) → v.row n ≡ Some e → IsPage (v.bytes e.frame)
  pub apart : (n m : ℕ) (e f : Entry) → v.row n ≡ Some e → v.row m ≡ Some f → e.frame ≡ f.frame →
      (n ≡ m) ⊎ ArePassingOn place hand n m
  pub at : HoldsAt place hand d v

-- of the environment in slot n, the file server
pub record CacheAt (d : Disk) (s : KernelState) (n : ℕ) : Type 0 where
  pub in_order : IsInOrder s
  pub live : is_live (slot_at s n) ≡ true
  pub server : is_file_server (slot_at s n).env_type ≡ true
  pub words : length (slot_at s n).extra ≡ 12
  pub stands : let state = state_in (slot_at s n).extra in
      CacheStands d (cache_view s.spaces (slot_at s n).directory) state.place state.hand

-- what is cached in slot n
abbrev pub cached_in : KernelState → ℕ → CachedBlocks
cached_in s n = cached_at (cache_view s.spaces (slot_at s n).directory) (state_in (slot_at s n).extra).place
