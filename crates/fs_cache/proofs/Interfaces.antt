-- What is to be shown of the calls of the cache, kind by kind: from the kernel's state to what is seen of it.
use Rattle.std.proofs.Common.{◌≡◌, ◌<◌, ◌^◌, ◌-◌, ◌/◌, ◌==◌, ◌⊎◌, ℕ, true, false, is_some, Option, Some, None, Ok, Err}
use Rattle.jos_host.specs.Files.{Files}
use Rattle.jos_base.specs.declared.numbers.TheConstants.{NPTENTRIES}
use Rattle.jos_base.specs.Environments.{is_live}
use Rattle.jos_base.specs.KernelState.{KernelState, slot_at}
use Rattle.lib_os.specs.declared.numbers.TheConstants.{CACHE_BLOCKS}
use Rattle.lib_os.specs.declared.user_os.Stop.{Stop}
use Rattle.lib_os.specs.Disk.{Disk, HasBlocks, disk_in}
use Rattle.lib_os.specs.InOrder.{IsInOrder}
use Rattle.lib_os.specs.UserCalls.{Output, is_file_server}
use Rattle.fs_blocks.specs.declared.plan.CacheAsk.{CacheAsk}
use Rattle.fs_blocks.specs.declared.plan.CacheAsk.TheVariants as ask
use Rattle.fs_blocks.specs.declared.place.CachePlace.{CachePlace}
use Rattle.fs_blocks.specs.CachePlans.{ask_region, ask_entry, ask_page, ask_map, ask_unmap, IsOwnAsk}
use Rattle.fs_cache.specs.CacheStands.{CacheView, CacheStands, cache_view}
use Rattle.fs_cache.specs.CacheSteps.{Caller, FilesAfter, IsReply}
use Rattle.fs_cache.proofs.Views.{Filled, MappedTo, ReadEntry, ReadRegion, TookPage, Unmapped, Written}

-- who makes the calls: the file server, which is live, over a state that is in order
pub record IsServer (s : KernelState) (n : ℕ) : Type 0 where
  pub in_order : IsInOrder s
  pub live : is_live (slot_at s n) ≡ true
  pub server : is_file_server (slot_at s n).env_type ≡ true

abbrev pub view_in : KernelState → ℕ → CacheView
view_in s n = cache_view s.spaces (slot_at s n).directory

-- The caller is as before, but for its space.
pub record SlotStays (s mid : KernelState) (n : ℕ) : Type 0 where
  pub live : is_live (slot_at mid n) ≡ true
  pub directory : (slot_at mid n).directory ≡ (slot_at s n).directory
  pub env_type : (slot_at mid n).env_type ≡ (slot_at s n).env_type
  pub extra : (slot_at mid n).extra ≡ (slot_at s n).extra

-- ---- whoever asks, and of whatever disk

-- Behind a call that gives a word the caller is as before; only IsOwnAsk's calls are made.
abbrev pub CallerStays : Type 0
CallerStays =
    (a : CacheAsk) (c : Caller) (files : Option Files) (word : ℕ) (mid : KernelState) (output : Output) →
    IsOwnAsk a → is_live (slot_at c.state c.slot) ≡ true → IsReply a c files (Ok word) mid output →
    SlotStays c.state mid c.slot

-- ---- loads

abbrev pub RegionIsRead : Type 0
RegionIsRead = (c : Caller) (files : Option Files) (b word : ℕ) (mid : KernelState) (output : Output) → IsServer c.state c.slot → b < CACHE_BLOCKS →
    IsReply (ask_region b) c files (Ok word) mid output → ReadRegion (view_in c.state c.slot) (view_in mid c.slot) b word

-- where the region has a table, and entries are those of blocks' pages
abbrev pub EntryIsRead : Type 0
EntryIsRead = (d : Disk) (c : Caller) (files : Option Files) (b word : ℕ) (place : CachePlace) (hand : ℕ) (mid : KernelState) (output : Output) →
    IsServer c.state c.slot → CacheStands d (view_in c.state c.slot) place hand → b < CACHE_BLOCKS →
    IsReply (ask_entry b) c files (Ok word) mid output → ReadEntry (view_in c.state c.slot) (view_in mid c.slot) b word

-- These loads are never stopped; the second, where the region has a table.
abbrev pub LoadsGive : Type 0
LoadsGive = (c : Caller) (files : Option Files) (b : ℕ) (mid : KernelState) (output : Output)
    (why : Stop) → IsServer c.state c.slot → b < CACHE_BLOCKS →
    (IsReply (ask_region b) c files (Err why) mid output → ⊥)
    × ((view_in c.state c.slot).tables (b / NPTENTRIES) ≡ true → IsReply (ask_entry b) c files (Err why) mid output → ⊥)

-- ---- calls for pages

abbrev pub PageIsTaken : Type 0
PageIsTaken = (c : Caller) (files : Option Files) (b word : ℕ) (mid : KernelState) (output : Output) → IsServer c.state c.slot → b < CACHE_BLOCKS →
    (view_in c.state c.slot).row b ≡ None → IsReply (ask_page b) c files (Ok word) mid output →
    TookPage (view_in c.state c.slot) (view_in mid c.slot) b word
    × ((word == 0) ≡ false → c.state.refusals < 2 ^ 64 - 1 → c.state.refusals < mid.refusals)

abbrev pub PageIsMapped : Type 0
PageIsMapped = (d : Disk) (c : Caller) (files : Option Files) (from to word : ℕ) (place : CachePlace) (hand : ℕ) (mid : KernelState) (output : Output) →
    IsServer c.state c.slot → CacheStands d (view_in c.state c.slot) place hand → from < CACHE_BLOCKS → to < CACHE_BLOCKS →
    is_some ((view_in c.state c.slot).row from) ≡ true →
    ((from ≡ to) ⊎ ((view_in c.state c.slot).row to ≡ None)) →
    IsReply (ask_map from to) c files (Ok word) mid output → MappedTo (view_in c.state c.slot) (view_in mid c.slot) from to word

abbrev pub PageIsUnmapped : Type 0
PageIsUnmapped = (c : Caller) (files : Option Files) (b word : ℕ) (mid : KernelState) (output : Output) → IsServer c.state c.slot → b < CACHE_BLOCKS →
    IsReply (ask_unmap b) c files (Ok word) mid output → Unmapped (view_in c.state c.slot) (view_in mid c.slot) b

-- ---- calls for blocks

-- The page's entry is a block's, and the host tells its files.
abbrev pub BlockIsRead : Type 0
BlockIsRead = (c : Caller) (files : Files) (b word : ℕ) (place : CachePlace) (hand : ℕ) (mid : KernelState) (output : Output) →
    IsServer c.state c.slot → CacheStands (disk_in files c.disk) (view_in c.state c.slot) place hand → b < CACHE_BLOCKS →
    is_some ((view_in c.state c.slot).row b) ≡ true →
    IsReply (ask.ReadBlock b) c (Some files) (Ok word) mid output → Filled (disk_in files c.disk) (view_in c.state c.slot) (view_in mid c.slot) b

abbrev pub BlockIsWritten : Type 0
BlockIsWritten = (c : Caller) (files : Files) (told : Option Files) (b word : ℕ) (place : CachePlace) (hand : ℕ) (mid : KernelState) (output : Output) →
    IsServer c.state c.slot → CacheStands (disk_in files c.disk) (view_in c.state c.slot) place hand → HasBlocks (Some files) c.disk → b < CACHE_BLOCKS →
    is_some ((view_in c.state c.slot).row b) ≡ true →
    IsReply (ask.WriteBlock b) c (Some files) (Ok word) mid output →
    FilesAfter (ask.WriteBlock b) c (Ok word) (record { before = Some files; after = told }) →
    (after : Files) × (told ≡ Some after) × Written (disk_in files c.disk) (disk_in after c.disk) (view_in c.state c.slot) (view_in mid c.slot) b
