-- The cache of the file server: some blocks have a page in its memory. What a block holds is what its page holds, and what the disk
-- holds where it has no page.
-- (MIT 6.828, lab 5: fs/bc.c, diskaddr, va_is_mapped, va_is_dirty, bc_pgfault and flush_block. That blocks are given up where no page is
-- to be had is this system's own.)
use Rattle.std.specs.Prelude.{◌≡◌, ◌<◌, ℕ, ◌+◌, ◌*◌, Bool, false, nat_lt, List, Option, Some, None, unwrap_or, if◌then◌else◌}
use Rattle.std.specs.Option.{option_map}
use Rattle.jos_base.specs.declared.numbers.TheConstants.{PTE_D}
use Rattle.jos_base.specs.Reach.{Entry}
use Rattle.jos_base.specs.SpacesState.{SpacesState}
use Rattle.jos_base.specs.Words.{has_bit, is_exactly, page_number}
use Rattle.fs_layout.specs.declared.numbers.TheConstants.{BLKSIZE}
use Rattle.lib_os.specs.declared.numbers.TheConstants.{CACHE_BLOCKS, DISKMAP}
use Rattle.lib_os.specs.Disk.{Disk}
use Rattle.lib_os.specs.Rows.{EntryRow, IsPage}

-- ---- where the pages are

-- the address of each block, or None where it has none
abbrev pub Addresses : Type 0
Addresses = ℕ → Option ℕ

-- block n lies at this address
abbrev pub block_address : ℕ → ℕ
block_address n = DISKMAP + BLKSIZE * n

-- each block of a lesser number than the count of addresses has one of its own
abbrev pub own_addresses : Addresses
own_addresses n = if nat_lt n CACHE_BLOCKS then Some (block_address n) else None

abbrev pub entry_behind : SpacesState → ℕ → Option ℕ → Option Entry
entry_behind s directory None = None
entry_behind s directory (Some va) = s.entries directory (page_number va)

-- the entries of the blocks' pages, by the blocks' numbers, with the bits that accesses set
unfoldable pub block_row : SpacesState → ℕ → Addresses → EntryRow
block_row s directory address n = entry_behind s directory (address n)

-- ---- what is cached

abbrev pub is_dirty : Option Entry → Bool
is_dirty None = false
is_dirty (Some e) = has_bit e.perm PTE_D

pub record CachedBlocks : Type 0 where
  -- the bytes of a block's page
  pub page : ℕ → Option (List ℕ)
  -- whether its page was written since it came from the disk, or went there
  pub dirty : ℕ → Bool

-- A page that is still to be filled with its block counts as none.
abbrev pub cached_by : EntryRow → (ℕ → List ℕ) → Option ℕ → CachedBlocks
cached_by row bytes filling = record {
  page = λ n. if is_exactly n filling then None else option_map (λ e. bytes e.frame) (row n);
  dirty = λ n. if is_exactly n filling then false else is_dirty (row n);
}

-- what a block holds
abbrev pub block_value : Disk → CachedBlocks → ℕ → List ℕ
block_value d c n = unwrap_or (c.page n) (d.block n)

-- A page that is not dirty holds what the disk's block holds.
pub record IsCache (d : Disk) (c : CachedBlocks) : Type 0 where
  pub whole : (n : ℕ) (bytes : List ℕ) → c.page n ≡ Some bytes → IsPage bytes
  pub clean : (n : ℕ) (bytes : List ℕ) → n < d.count → c.page n ≡ Some bytes → c.dirty n ≡ false → bytes ≡ d.block n

-- each block of the disk holds what it held
abbrev pub KeepsValues : Disk → CachedBlocks → Disk → CachedBlocks → Type 0
KeepsValues d c e k = (n : ℕ) → n < d.count → block_value e k n ≡ block_value d c n
