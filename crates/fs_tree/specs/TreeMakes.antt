-- What a job asks, done over the block cache: an access to a byte or a word of a block that has its page, or of the page of the request; or
-- the cache makes a step.
use Rattle.std.specs.Prelude.{◌≡◌, ◌⊎◌, ◌<◌, ℕ, ◌+◌, ◌-◌, ◌%◌, true, [], drop, Option, Some, Result, Ok, Err}
use Rattle.jos_host.specs.declared.host.Failed.{Failed}
use Rattle.jos_host.specs.Files.{Files}
use Rattle.jos_host.specs.Frames.{Around, from_to}
use Rattle.jos_base.specs.declared.numbers.TheConstants.{PGSIZE}
use Rattle.jos_base.specs.Environments.{is_live}
use Rattle.jos_base.specs.KernelState.{KernelState, slot_at}
use Rattle.lib_os.specs.declared.numbers.TheConstants.{CACHE_BLOCKS, REQUEST}
use Rattle.lib_os.specs.declared.user_os.Stop.{Stop}
use Rattle.lib_os.specs.BlockCache.{block_address}
use Rattle.lib_os.specs.Disk.{Disk, DiskFile, disk_in}
use Rattle.lib_os.specs.MadeCalls.{SetsWords}
use Rattle.lib_os.specs.UserCalls as call
use Rattle.lib_os.specs.UserCalls.{CallStep, IsStep, Output, Prints, PrintsPart}
use Rattle.fs_blocks.specs.declared.place.CachePlace.TheVariants as cached_place
use Rattle.fs_blocks.specs.declared.plan.Told.{Told}
use Rattle.fs_cache.specs.CacheSteps.{HasGone, WasRefused, cache_state, caller, fetch_state}
use Rattle.fs_jobs.specs.declared.asks.TreeAsk.{TreeAsk}
use Rattle.fs_jobs.specs.declared.asks.TreeAsk.TheVariants as ask
use Rattle.fs_tree.specs.declared.steps.Acted.{Acted}
use Rattle.fs_tree.specs.declared.steps.Done.{Done}
use Rattle.fs_tree.specs.declared.steps.Done.TheVariants as done
use Rattle.fs_runs.specs.TreeRuns.{IsInside}
use Rattle.fs_runs.specs.TreePlans.{ask_at}
use Rattle.fs_tree.specs.TreeSteps.{AccessComes, AccessReady, HasFound, IsLawful, IsWaiting, KeepsRest, LeavesCache, TreeAt, access_left, is_of_disk}
use Rattle.fs_tree.specs.TreeSteps.{job_in, memory_in}
use Rattle.fs_runs.specs.TreeRuns.{memory_after, reply_of}
use Rattle.fs_jobs.specs.TreeTests.{low_byte}

-- ---- one access

-- A store gives no word.
abbrev pub IsStored : CallStep (Unit {0}) → Result ℕ Stop → KernelState → Output → Type 0
IsStored step (Ok word) after output = (word ≡ 0) × IsStep step (Ok tt) after output
IsStored step (Err why) after output = IsStep step (Err why) after output

abbrev pub IsLoaded : ℕ → KernelState → ℕ → Result ℕ Stop → KernelState → Output → Type 0
IsLoaded va s n result after output = IsStep (call.load_byte s n va) result after output

abbrev pub IsByteStored : ℕ → ℕ → KernelState → ℕ → Result ℕ Stop → KernelState → Output → Type 0
IsByteStored va word s n result after output = IsStored (call.store_byte s n va (low_byte word)) result after output

-- what is asked, at an address; words lie at multiples of four
abbrev pub IsAccess : TreeAsk → ℕ → KernelState → ℕ → Result ℕ Stop → KernelState → Output → Type 0
IsAccess (ask.Load at) va s n result after output = IsStep (call.load s n (va - va % 4)) result after output
IsAccess (ask.LoadByte at) va s n result after output = IsLoaded va s n result after output
IsAccess (ask.Store at word) va s n result after output = IsStored (call.store s n (va - va % 4) word) result after output
IsAccess (ask.StoreByte at byte) va s n result after output = IsByteStored va byte s n result after output
IsAccess (ask.Request at) va s n result after output = IsLoaded va s n result after output
IsAccess (ask.HandBack at byte) va s n result after output = IsByteStored va byte s n result after output

-- ---- what comes of it

-- what is asked of the disk, and what of the page of the request
abbrev pub IsOfDisk : TreeAsk → ℕ → Type 0
IsOfDisk (ask.Load place) at = place ≡ at
IsOfDisk (ask.LoadByte place) at = place ≡ at
IsOfDisk (ask.Store place word) at = place ≡ at
IsOfDisk (ask.StoreByte place byte) at = place ≡ at
IsOfDisk (ask.Request place) at = ⊥
IsOfDisk (ask.HandBack place byte) at = ⊥

abbrev pub IsOfRequest : TreeAsk → ℕ → Type 0
IsOfRequest (ask.Request place) at = place ≡ at
IsOfRequest (ask.HandBack place byte) at = place ≡ at
IsOfRequest _ at = ⊥

-- It is done, or the cache has made a step, or no page was to be had for a block.
pub data HasDone (d e : Disk) (s after : KernelState) (n : ℕ) (a : TreeAsk) : Done → Type 0 where
  word : (w : ℕ) → w ≡ reply_of a (memory_in d s n) → TreeAt e after n → memory_in e after n ≡ memory_after a (memory_in d s n) → LeavesCache s after n →
      HasFound a (cache_state s n).place → HasDone d e s after n a (done.Word w)
  going : is_of_disk a ≡ true → IsWaiting d e s after n → access_left a after n < access_left a s n →
      (AccessReady a (cache_state s n).place → AccessComes a (cache_state s n).place (cache_state after n).place ⊎ WasRefused s after) →
      HasDone d e s after n a done.Going
  no_page : IsWaiting d e s after n → WasRefused s after → (cache_state after n).place ≡ cached_place.Resting → HasDone d e s after n a done.NoPage

abbrev pub DoesWhereTold : TreeAsk → Result Done Failed → DiskFile → ℕ → Around KernelState → Around (Option Files) → Type 0
DoesWhereTold a (Ok told) disk n states files =
    (before : Files) → files.before ≡ Some before → TreeAt (disk_in before disk) states.before n → IsInside disk.blocks a →
    (after : Files) × (files.after ≡ Some after) × HasDone (disk_in before disk) (disk_in after disk) states.before states.after n a told
DoesWhereTold a (Err _) disk n states files = Unit {0}

-- Where the host tells its files, all stands, and what is asked lies within the disk and its page, nothing is printed, whether or not the host
-- fails, and the rest of the slots stays.
abbrev pub LeavesWhereInside : TreeAsk → Result Done Failed → DiskFile → ℕ → Around KernelState → Option Files → Output → Type 0
LeavesWhereInside a (Ok told) disk n states files output =
    (before : Files) → files ≡ Some before → TreeAt (disk_in before disk) states.before n → IsInside disk.blocks a →
    Prints output [] × KeepsRest states.before states.after n
LeavesWhereInside a (Err _) disk n states files output =
    (before : Files) → files ≡ Some before → TreeAt (disk_in before disk) states.before n → IsInside disk.blocks a → PrintsPart output []

-- Where a word came, the environment is as it was, but for its space. Where no page was to be had, it lives.
abbrev pub KeepsSlot : Result Done Failed → ℕ → Around KernelState → Type 0
KeepsSlot (Ok (done.Word w)) n states = slot_at states.after n ≡ slot_at states.before n
KeepsSlot (Ok done.NoPage) n states = is_live (slot_at states.after n) ≡ true
KeepsSlot _ n states = Unit {0}

-- ---- which call it is

-- One of the cache's on its way to a block of the disk; or what the job asks, of the page of the block that was found, or of the page of the request.
pub data IsTreeCall (asked : TreeAsk) (disk : DiskFile) (before now : Files) (s mid : KernelState) (n : ℕ) (output : Output) : Type 0 where
  fetches : (block : ℕ) (told : Told) → (block < CACHE_BLOCKS) × (block < disk.blocks) →
      HasGone (fetch_state s n block) (caller s n disk) (from_to (Some before) (Some now)) told mid output →
      IsTreeCall asked disk before now s mid n output
  asks_block : (block at w : ℕ) → at < PGSIZE → (cache_state s n).place ≡ cached_place.Found block →
      IsAccess asked (block_address block + at) s n (Ok w) mid output → IsTreeCall asked disk before now s mid n output
  asks_request : (place at w : ℕ) → IsOfRequest asked place → at < PGSIZE → IsAccess asked (REQUEST + at) s n (Ok w) mid output →
      IsTreeCall asked disk before now s mid n output

-- It is such a call, and behind that no more is set than the words of the job and of the cache.
pub record IsTreeStep (asked : TreeAsk) (disk : DiskFile) (before now : Files) (s after : KernelState) (n : ℕ) : Type 0 where
  pub mid : KernelState
  pub output : Output
  pub call : IsTreeCall asked disk before now s mid n output
  pub spaces : after.spaces ≡ mid.spaces
  pub rest : KeepsRest s after n
  pub left : (after ≡ mid) ⊎ SetsWords mid after n
  pub cache : drop 8 (slot_at after n).extra ≡ drop 8 (slot_at mid n).extra

-- So it is where the host tells its files, all stands, and what is asked lies within the disk and its page;
abbrev pub CallsWhereInside : TreeAsk → Result Done Failed → DiskFile → ℕ → Around KernelState → Around (Option Files) → Type 0
CallsWhereInside a (Ok told) disk n states files =
    (before now : Files) → files.before ≡ Some before → files.after ≡ Some now → TreeAt (disk_in before disk) states.before n → IsInside disk.blocks a →
    IsTreeStep a disk before now states.before states.after n
CallsWhereInside a (Err _) disk n states files = Unit {0}

-- and where the job's next step is lawful.
abbrev pub CallsWhereTold : Result Acted Failed → DiskFile → ℕ → Around KernelState → Around (Option Files) → Type 0
CallsWhereTold (Ok told) disk n states files =
    (before now : Files) → files.before ≡ Some before → files.after ≡ Some now → TreeAt (disk_in before disk) states.before n →
    IsLawful (disk_in before disk) states.before n → IsTreeStep (ask_at (job_in states.before n)) disk before now states.before states.after n
CallsWhereTold (Err _) disk n states files = Unit {0}
