-- A step of a job in the environment that serves files: the block that it wants comes nearer, or the job makes its step over what the cache
-- has of the disk.
use Rattle.std.specs.Prelude.{◌≡◌, ◌≢◌, ◌<◌, ◌≤◌, ◌⊎◌, ℕ, ◌+◌, ◌/◌, ◌%◌, nat_lt, Bool, true, false, [], Option, Some, Result, Ok, Err, if◌then◌else◌}
use Rattle.jos_host.specs.declared.host.Failed.{Failed}
use Rattle.jos_host.specs.Files.{Files}
use Rattle.jos_host.specs.Frames.{Around}
use Rattle.jos_base.specs.declared.numbers.TheConstants.{E_NO_MEM, PGSIZE}
use Rattle.jos_base.specs.declared.registers.Regs.{Regs}
use Rattle.jos_base.specs.Environments.{Slot, is_live}
use Rattle.jos_base.specs.KernelState.{KernelState, slot_at}
use Rattle.jos_base.specs.Reach.{Entry}
use Rattle.jos_base.specs.Words.{negated, page_number}
use Rattle.fs_layout.specs.declared.numbers.TheConstants.{BLKSIZE, MAXBLOCKS}
use Rattle.lib_os.specs.BlockCache.{CachedBlocks, block_value}
use Rattle.lib_os.specs.Disk.{Disk, DiskFile, byte_in_blocks, disk_in}
use Rattle.lib_os.specs.Rows.{IsPage}
use Rattle.lib_os.specs.UserCalls.{Output, Prints, PrintsPart, user_byte}
use Rattle.fs_blocks.specs.declared.place.CachePlace.{CachePlace}
use Rattle.fs_blocks.specs.declared.place.CachePlace.TheVariants as cache
use Rattle.fs_cache.specs.CacheStands.{CacheAt, IsBlockEntry, cached_in}
use Rattle.fs_cache.specs.CacheSteps.{IsReady, WasRefused, block_calls, cache_state, cached_count, is_fetching, left_in, other_left, row_in}
use Rattle.fs_cache.specs.CacheSteps.{used_count, wait_left}
use Rattle.fs_jobs.specs.declared.asks.TreeAsk.{TreeAsk}
use Rattle.fs_jobs.specs.declared.asks.TreeAsk.TheVariants as ask
use Rattle.fs_jobs.specs.declared.asks.TreeNext.TheVariants.{Answer, GoOn}
use Rattle.fs_jobs.specs.declared.place.TreeState.{TreeState}
use Rattle.fs_tree.specs.declared.steps.Acted.{Acted}
use Rattle.fs_tree.specs.declared.steps.Acted.TheVariants as acted
use Rattle.lib_os.specs.declared.numbers.TheConstants.{CACHE_BLOCKS, REQUEST}
use Rattle.fs_jobs.specs.TreeBounds.{is_bounded}
use Rattle.fs_places.specs.TreePlaces.{state_in}
use Rattle.fs_runs.specs.TreePlans.{ask_at, next_at}
use Rattle.fs_runs.specs.TreeRuns.{IsInside, Memory, memory_after, reply_of}

-- ---- what a job sees

-- the bytes of the disk, as its blocks hold them
abbrev pub disk_bytes : Disk → CachedBlocks → ℕ → ℕ
disk_bytes d c at = if nat_lt (at / BLKSIZE) d.count then byte_in_blocks (block_value d c) at else 0

-- those of the page of the request
abbrev pub request_bytes : KernelState → ℕ → ℕ → ℕ
request_bytes s n at = if nat_lt at PGSIZE then user_byte s n (REQUEST + at) else 0

abbrev pub memory_in : Disk → KernelState → ℕ → Memory
memory_in d s n = record { disk = disk_bytes d (cached_in s n); page = request_bytes s n }

-- where its job stands
abbrev pub job_in : KernelState → ℕ → TreeState
job_in s n = state_in (slot_at s n).registers (slot_at s n).extra

-- The page of the request is there, may be written, and is no block's.
pub record HasRequest (s : KernelState) (n : ℕ) : Type 0 where
  pub entry : Entry
  pub stands : s.spaces.entries (slot_at s n).directory (page_number REQUEST) ≡ Some entry
  pub bits : IsBlockEntry entry
  pub whole : IsPage (s.spaces.pages entry.frame)
  pub apart : (b : ℕ) (e : Entry) → row_in s n b ≡ Some e → e.frame ≢ entry.frame

-- The cache stands over the disk, and there is a page for a request.
pub record TreeAt (d : Disk) (s : KernelState) (n : ℕ) : Type 0 where
  pub cache : CacheAt d s n
  pub request : HasRequest s n
  pub count : d.count ≤ MAXBLOCKS

-- ---- what a step does

-- what a job does next lies within the disk and its page
pub record IsLawful (d : Disk) (s : KernelState) (n : ℕ) : Type 0 where
  pub bounded : is_bounded (job_in s n) ≡ true
  pub inside : IsInside d.count (ask_at (job_in s n))

-- a slot with the words of the job and of the cache from another
abbrev pub job_registers : Regs → Regs → Regs
job_registers own other =
    record own { eax = other.eax; ebx = other.ebx; ecx = other.ecx; edx = other.edx; ebp = other.ebp; edi = other.edi }

abbrev pub with_job_of : Slot → Slot → Slot
with_job_of own other = record own { registers = job_registers own.registers other.registers; extra = other.extra }

-- All of the slot is as it was, but for the words of the job and of the cache, and so is every other slot.
pub record KeepsRest (s after : KernelState) (n : ℕ) : Type 0 where
  pub slot : slot_at after n ≡ with_job_of (slot_at s n) (slot_at after n)
  pub others : (m : ℕ) → m ≢ n → slot_at after m ≡ slot_at s m

-- the cache has made a step, and the job sees what it saw
pub record IsWaiting (d e : Disk) (s after : KernelState) (n : ℕ) : Type 0 where
  pub stands : TreeAt e after n
  pub job : job_in after n ≡ job_in s n
  pub memory : memory_in e after n ≡ memory_in d s n

-- the block in which a byte or a word lies
abbrev pub block_wanted : ℕ → ℕ
block_wanted at = at / BLKSIZE % CACHE_BLOCKS

-- how many steps may come until the block has its page of which this is asked; what is asked of the page of the request waits for none
abbrev pub block_left : ℕ → KernelState → ℕ → ℕ
block_left at s n = left_in (wait_left (block_wanted at)) (cache_state s n).place s n

abbrev pub access_left : TreeAsk → KernelState → ℕ → ℕ
access_left (ask.Load at) s n = block_left at s n
access_left (ask.LoadByte at) s n = block_left at s n
access_left (ask.Store at word) s n = block_left at s n
access_left (ask.StoreByte at byte) s n = block_left at s n
access_left (ask.Request at) s n = left_in other_left (cache_state s n).place s n
access_left (ask.HandBack at byte) s n = left_in other_left (cache_state s n).place s n

-- whether a block of the disk is wanted
abbrev pub is_of_disk : TreeAsk → Bool
is_of_disk (ask.Request at) = false
is_of_disk (ask.HandBack at byte) = false
is_of_disk _ = true

-- Where no page is refused: no fetch is under way, or one of that block, and so many calls are left of it.
abbrev pub AccessReady : TreeAsk → CachePlace → Type 0
AccessReady (ask.Load at) place = IsReady (block_wanted at) place
AccessReady (ask.LoadByte at) place = IsReady (block_wanted at) place
AccessReady (ask.Store at word) place = IsReady (block_wanted at) place
AccessReady (ask.StoreByte at byte) place = IsReady (block_wanted at) place
AccessReady (ask.Request at) place = is_fetching place ≡ false
AccessReady (ask.HandBack at byte) place = is_fetching place ≡ false

abbrev pub access_calls : TreeAsk → CachePlace → ℕ
access_calls (ask.Load at) place = block_calls (block_wanted at) place
access_calls (ask.LoadByte at) place = block_calls (block_wanted at) place
access_calls (ask.Store at word) place = block_calls (block_wanted at) place
access_calls (ask.StoreByte at byte) place = block_calls (block_wanted at) place
access_calls (ask.Request at) place = 0
access_calls (ask.HandBack at byte) place = 0

-- what is asked of the disk is asked of the block that was found
abbrev pub HasFound : TreeAsk → CachePlace → Type 0
HasFound (ask.Load at) place = place ≡ cache.Found (block_wanted at)
HasFound (ask.LoadByte at) place = place ≡ cache.Found (block_wanted at)
HasFound (ask.Store at word) place = place ≡ cache.Found (block_wanted at)
HasFound (ask.StoreByte at byte) place = place ≡ cache.Found (block_wanted at)
HasFound (ask.Request at) place = Unit {0}
HasFound (ask.HandBack at byte) place = Unit {0}

-- a step towards it is one call fewer
abbrev pub AccessComes : TreeAsk → CachePlace → CachePlace → Type 0
AccessComes it place next = AccessReady it next × (access_calls it next < access_calls it place)

-- it has made one towards the block that the job wants
pub record ComesNearer (d e : Disk) (s after : KernelState) (n : ℕ) : Type 0 where
  pub of_disk : is_of_disk (ask_at (job_in s n)) ≡ true
  pub stands : TreeAt e after n
  pub job : job_in after n ≡ job_in s n
  pub memory : memory_in e after n ≡ memory_in d s n
  pub nearer : access_left (ask_at (job_in s n)) after n < access_left (ask_at (job_in s n)) s n
  pub comes : AccessReady (ask_at (job_in s n)) (cache_state s n).place →
      AccessComes (ask_at (job_in s n)) (cache_state s n).place (cache_state after n).place ⊎ WasRefused s after

-- the cache stands where it stood, and one page more may have been used
pub record LeavesCache (s after : KernelState) (n : ℕ) : Type 0 where
  pub place : (cache_state after n).place ≡ (cache_state s n).place
  pub cached : cached_count (row_in after n) ≡ cached_count (row_in s n)
  pub used : used_count (row_in after n) ≤ used_count (row_in s n) + 1

-- the job has made its step
pub record HasMoved (d e : Disk) (s after : KernelState) (n : ℕ) : Type 0 where
  pub cache : LeavesCache s after n
  pub found : HasFound (ask_at (job_in s n)) (cache_state s n).place
  pub stands : TreeAt e after n
  pub memory : memory_in e after n ≡ memory_after (ask_at (job_in s n)) (memory_in d s n)

abbrev pub reply_in : Disk → KernelState → ℕ → ℕ
reply_in d s n = reply_of (ask_at (job_in s n)) (memory_in d s n)

pub data HasStepped (d e : Disk) (s after : KernelState) (n : ℕ) : Acted → Type 0 where
  waits : ComesNearer d e s after n → HasStepped d e s after n acted.Going
  goes : (next : TreeState) → HasMoved d e s after n → next_at (job_in s n) (reply_in d s n) ≡ GoOn next → job_in after n ≡ next →
      HasStepped d e s after n acted.Going
  answers : (word : ℕ) → HasMoved d e s after n → next_at (job_in s n) (reply_in d s n) ≡ Answer word → HasStepped d e s after n (acted.Answer word)
  -- no page was to be had for a block, and none is wanted any more
  lacks : IsWaiting d e s after n → WasRefused s after → (cache_state after n).place ≡ cache.Resting →
      HasStepped d e s after n (acted.Answer (negated E_NO_MEM))

-- Where the host tells its files, the job's next step is lawful, and all stands.
abbrev pub StepsWhereTold : Result Acted Failed → DiskFile → ℕ → Around KernelState → Around (Option Files) → Type 0
StepsWhereTold (Ok told) disk n states files =
    (before : Files) → files.before ≡ Some before → TreeAt (disk_in before disk) states.before n → IsLawful (disk_in before disk) states.before n →
    (after : Files) × (files.after ≡ Some after) × HasStepped (disk_in before disk) (disk_in after disk) states.before states.after n told
StepsWhereTold (Err _) disk n states files = Unit {0}

-- Where the host tells its files, the job's next step is lawful, and all stands, nothing is printed, whether or not the host fails.
abbrev pub QuietWhereTold : Result Acted Failed → DiskFile → ℕ → Around KernelState → Option Files → Output → Type 0
QuietWhereTold (Ok told) disk n states files output =
    (before : Files) → files ≡ Some before → TreeAt (disk_in before disk) states.before n → IsLawful (disk_in before disk) states.before n → Prints output []
QuietWhereTold (Err _) disk n states files output =
    (before : Files) → files ≡ Some before → TreeAt (disk_in before disk) states.before n → IsLawful (disk_in before disk) states.before n →
    PrintsPart output []

-- the same, of the rest of its slot, and of the other slots
abbrev pub RestWhereTold : Result Acted Failed → DiskFile → ℕ → Around KernelState → Option Files → Type 0
RestWhereTold (Ok told) disk n states files =
    (before : Files) → files ≡ Some before → TreeAt (disk_in before disk) states.before n → IsLawful (disk_in before disk) states.before n →
    KeepsRest states.before states.after n
RestWhereTold (Err _) disk n states files = Unit {0}

-- Where the job is answered, its environment lives.
abbrev pub LivesWhereAnswered : Result Acted Failed → Slot → Type 0
LivesWhereAnswered (Ok (acted.Answer word)) slot = is_live slot ≡ true
LivesWhereAnswered _ slot = Unit {0}
