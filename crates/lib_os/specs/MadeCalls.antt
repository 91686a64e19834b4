-- The one call of the kernel that a step made: which it was, what came of it, and which of its own registers and words the environment set
-- behind it; and the calls that the file server makes, with the pages that they touch, what they do to the host's files, and what is printed where
-- the host fails.
use Rattle.std.specs.Prelude.{◌≡◌, ◌≢◌, ◌<◌, ℕ, ◌+◌, ◌*◌, ◌%◌, ◌==◌, ◌&&◌, ◌||◌, nat_le, nat_lt, Bool, true, List, [], ◌∷◌, get_or, length}
use Rattle.std.specs.Prelude.{Option, Result, Ok, Err, ◌⊎◌}
use Rattle.jos_host.specs.declared.host.Failed.{Failed}
use Rattle.jos_host.specs.declared.host.HostCall.TheVariants.{Read, Write}
use Rattle.jos_host.specs.Asked.{Asked, and_asked}
use Rattle.jos_host.specs.Files.{Files}
use Rattle.jos_host.specs.Frames.{Around}
use Rattle.jos_host.specs.Told.{WritesAt}
use Rattle.jos_base.specs.declared.called.Called.{Called}
use Rattle.jos_base.specs.declared.numbers.TheConstants.{FDTABLE, PGSIZE, PTE_P, PTE_U, PTE_W, UTOP}
use Rattle.jos_base.specs.declared.numbers.TheConstants.{SYS_GETENVID, SYS_IPC_RECV, SYS_IPC_TRY_SEND, SYS_PAGE_ALLOC, SYS_PAGE_MAP, SYS_PAGE_UNMAP, SYS_YIELD}
use Rattle.jos_base.specs.declared.registers.Regs.{Regs}
use Rattle.jos_base.specs.KernelState.{KernelState, slot_at, with_extra, with_registers}
use Rattle.jos_base.specs.Words.{page_number}
use Rattle.fs_layout.specs.declared.numbers.TheConstants.{BLKSIZE}
use Rattle.lib_os.specs.declared.numbers.TheConstants.{CACHE_BLOCKS, DISKMAP, MAXOPEN, OPEN_RECORDS, PTE_SHARE, REQUEST}
use Rattle.lib_os.specs.declared.user_os.Stop.{Stop}
use Rattle.lib_os.specs.declared.user_os.Stop.TheVariants as stop
use Rattle.lib_os.specs.BlockCache.{block_address}
use Rattle.lib_os.specs.Disk.{DiskFile}
use Rattle.lib_os.specs.UserCalls as call
use Rattle.lib_os.specs.UserCalls.{CallStep, IsStep, IsCallStep, IsBlockRead, IsBlockWrite, FilesBehind, Output, Prints, PrintsPart, block_call}

-- ---- a call

-- an access at an address, a system call by its number and words, or a call for a block and the page at an address
pub data UserCall : Type 0 where
  loads : ℕ → UserCall
  loads_byte : ℕ → UserCall
  stores : ℕ → ℕ → UserCall
  stores_byte : ℕ → ℕ → UserCall
  calls : ℕ → List ℕ → UserCall
  reads_block : ℕ → ℕ → UserCall
  writes_block : ℕ → ℕ → UserCall

-- ---- what came of it, where the host did not fail

-- The access gave something, or it faulted.
pub data HasCome {X : Type 0} (step : CallStep X) (after : KernelState) (output : Output) : Type 0 where
  gave : (x : X) → IsStep step (Ok x) after output → HasCome step after output
  faulted : (why : Stop) → why ≢ stop.Failed → IsStep step (Err why) after output → HasCome step after output

-- the host's files are as before
abbrev pub AreSame : Around (Option Files) → Type 0
AreSame files = files.after ≡ files.before

abbrev pub IsMade : UserCall → KernelState → ℕ → DiskFile → Around (Option Files) → KernelState → Output → Type 0
IsMade (loads va) s n disk files after output = HasCome (call.load s n va) after output × AreSame files
IsMade (loads_byte va) s n disk files after output = HasCome (call.load_byte s n va) after output × AreSame files
IsMade (stores va word) s n disk files after output = HasCome (call.store s n va word) after output × AreSame files
IsMade (stores_byte va byte) s n disk files after output = HasCome (call.store_byte s n va byte) after output × AreSame files
IsMade (calls number args) s n disk files after output =
    (called : Called) × IsCallStep (call.system s n number args) (Ok called) after output × AreSame files
IsMade (reads_block block va) s n disk files after output =
    (word : ℕ) × IsBlockRead (block_call s n disk block va) files.before (Ok word) after × Prints output [] × AreSame files
IsMade (writes_block block va) s n disk files after output =
    (word : ℕ) × IsBlockWrite (block_call s n disk block va) (Ok word) after × Prints output []
    × FilesBehind {E = Failed} (block_call s n disk block va) (Ok word) files

-- ---- what the environment set behind it

-- The environment's own registers were set, but ESP and the flags, and its words. Where it has twelve words it has as many, and the first is as
-- it was, or 0.
pub record SetsWords (s after : KernelState) (n : ℕ) : Type 0 where
  pub registers : Regs
  pub words : List ℕ
  pub set : after ≡ with_extra (with_registers s n registers) n words
  pub esp : registers.esp ≡ (slot_at s n).registers.esp
  pub eflags : registers.eflags ≡ (slot_at s n).registers.eflags
  pub long : length (slot_at s n).extra ≡ 12 → length words ≡ 12
  pub first : length (slot_at s n).extra ≡ 12 → (get_or words 0 0 ≡ get_or (slot_at s n).extra 0 0) ⊎ (get_or words 0 0 ≡ 0)

-- This call was made, and no other; and behind it nothing was done, or own words were set.
pub record MakesCall (call : UserCall) (s after : KernelState) (n : ℕ) (disk : DiskFile) (files : Around (Option Files)) (output : Output) : Type 0 where
  pub mid : KernelState
  pub made : IsMade call s n disk files mid output
  pub left : (after ≡ mid) ⊎ SetsWords mid after n

-- ---- the pages of the file server

-- one of so many pages from a page on
abbrev pub is_page_from : ℕ → ℕ → ℕ → Bool
is_page_from first count p = nat_le first p && nat_lt p (first + count)

-- by its number: the page of a request, that of the records of open files, one of a place of the table of open files, or one of a block
unfoldable pub is_server_page : ℕ → Bool
is_server_page p =
    (p == page_number REQUEST) || (p == page_number OPEN_RECORDS) || is_page_from (page_number FDTABLE) MAXOPEN p
    || is_page_from (page_number DISKMAP) CACHE_BLOCKS p

-- the page of a place of the table of open files
abbrev pub place_address : ℕ → ℕ
place_address k = FDTABLE + PGSIZE * k

-- the bits of a block's page, and of a place's
abbrev pub block_perm : ℕ
block_perm = PTE_P + PTE_U + PTE_W

abbrev pub place_perm : ℕ
place_perm = PTE_P + PTE_U + PTE_W + PTE_SHARE

-- ---- the calls that it makes

-- by the number and the words
pub data IsServersSystemCall : ℕ → List ℕ → Type 0 where
  asks_id : IsServersSystemCall SYS_GETENVID (0 ∷ 0 ∷ 0 ∷ 0 ∷ 0 ∷ [])
  yields : IsServersSystemCall SYS_YIELD (0 ∷ 0 ∷ 0 ∷ 0 ∷ 0 ∷ [])
  takes_block : (k : ℕ) → k < CACHE_BLOCKS → IsServersSystemCall SYS_PAGE_ALLOC (0 ∷ block_address k ∷ block_perm ∷ 0 ∷ 0 ∷ [])
  maps_block : (from to : ℕ) → from < CACHE_BLOCKS → to < CACHE_BLOCKS →
      IsServersSystemCall SYS_PAGE_MAP (0 ∷ block_address from ∷ 0 ∷ block_address to ∷ block_perm ∷ [])
  unmaps_block : (k : ℕ) → k < CACHE_BLOCKS → IsServersSystemCall SYS_PAGE_UNMAP (0 ∷ block_address k ∷ 0 ∷ 0 ∷ 0 ∷ [])
  takes_place : (k : ℕ) → k < MAXOPEN → IsServersSystemCall SYS_PAGE_ALLOC (0 ∷ place_address k ∷ place_perm ∷ 0 ∷ 0 ∷ [])
  unmaps_request : IsServersSystemCall SYS_PAGE_UNMAP (0 ∷ REQUEST ∷ 0 ∷ 0 ∷ 0 ∷ [])
  receives : IsServersSystemCall SYS_IPC_RECV (REQUEST ∷ 0 ∷ 0 ∷ 0 ∷ 0 ∷ [])
  sends : (client word : ℕ) → IsServersSystemCall SYS_IPC_TRY_SEND (client ∷ word ∷ UTOP ∷ 0 ∷ 0 ∷ [])
  sends_place : (client word k : ℕ) → k < MAXOPEN →
      IsServersSystemCall SYS_IPC_TRY_SEND (client ∷ word ∷ place_address k ∷ place_perm ∷ 0 ∷ [])

-- It loads anywhere, and stores to its own pages. Words lie at multiples of four. A block is moved to or from its own page.
abbrev pub IsServersCall : UserCall → Type 0
IsServersCall (loads va) = va % 4 ≡ 0
IsServersCall (loads_byte va) = Unit {0}
IsServersCall (stores va word) = (va % 4 ≡ 0) × (is_server_page (page_number va) ≡ true)
IsServersCall (stores_byte va byte) = is_server_page (page_number va) ≡ true
IsServersCall (calls number args) = IsServersSystemCall number args
IsServersCall (reads_block block va) = (block < CACHE_BLOCKS) × (va ≡ block_address block)
IsServersCall (writes_block block va) = (block < CACHE_BLOCKS) × (va ≡ block_address block)

-- a step that is one such call
pub record MakesServersCall (states : Around KernelState) (n : ℕ) (disk : DiskFile) (files : Around (Option Files)) (output : Output) : Type 0 where
  pub call : UserCall
  pub own : IsServersCall call
  pub makes : MakesCall call states.before states.after n disk files output

-- ---- what a step does to the host's files, whether or not the host fails

-- Nothing, and the host is asked no call. Or it is asked one more, of the disk's file: a block that the disk has is read, and the files are as
-- before; or one is written: its bytes have come, or the host failed and what stands there is unknown, and all other bytes are as before, in
-- every file.
pub data TouchesDisk (disk : DiskFile) (files : Around (Option Files)) (asked : Around (Option (List Asked))) : Type 0 where
  asks_nothing : files.after ≡ files.before → asked.after ≡ asked.before → TouchesDisk disk files asked
  asks_read : (block : ℕ) → block < disk.blocks → files.after ≡ files.before → asked.after ≡ and_asked asked.before Read disk.name →
      TouchesDisk disk files asked
  asks_write : (block : ℕ) (bytes : List ℕ) (done : Result (Unit {0}) Failed) → block < disk.blocks → length bytes ≡ BLKSIZE →
      WritesAt files.before disk.name (BLKSIZE * block) bytes done files.after → asked.after ≡ and_asked asked.before Write disk.name →
      TouchesDisk disk files asked

-- ---- what is printed where the host fails

-- The console keeps what it has, and a part of some bytes came behind that.
abbrev pub PrintsPartOfSome : Output → Type 0
PrintsPartOfSome output = (bytes : List ℕ) × PrintsPart output bytes
