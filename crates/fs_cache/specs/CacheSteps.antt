-- A step of the cache: what is asked is done by one call, and the cache goes on by the reply. What a block holds stays, and the steps
-- come to an end.
use Rattle.std.specs.Prelude.{◌≡◌, ◌≢◌, ◌<◌, ◌⊎◌, ℕ, ◌+◌, ◌-◌, ◌*◌, ◌/◌, ◌^◌, ◌==◌, ◌&&◌, nat_le, Bool, true, false, is_some, []}
use Rattle.std.specs.Prelude.{Option, Some, None, Result, Ok, Err, if◌then◌else◌}
use Rattle.jos_host.specs.declared.host.Failed.{Failed}
use Rattle.jos_host.specs.Files.{Files}
use Rattle.jos_host.specs.Frames.{Around}
use Rattle.jos_base.specs.declared.called.Called.{Called}
use Rattle.jos_base.specs.declared.numbers.TheConstants.{NPTENTRIES}
use Rattle.jos_base.specs.KernelState.{KernelState, slot_at, with_extra}
use Rattle.lib_os.specs.declared.numbers.TheConstants.{CACHE_BLOCKS}
use Rattle.lib_os.specs.declared.user_os.Stop.{Stop}
use Rattle.lib_os.specs.declared.user_os.Stop.TheVariants as stop
use Rattle.lib_os.specs.BlockCache.{KeepsValues, block_address, block_row, own_addresses, is_dirty}
use Rattle.lib_os.specs.Disk.{DiskFile, disk_in}
use Rattle.lib_os.specs.Need.{count_below}
use Rattle.lib_os.specs.Rows.{EntryRow}
use Rattle.lib_os.specs.UserCalls as call
use Rattle.lib_os.specs.UserCalls.{BlockCall, block_call, answer_of, IsStep, IsCallStep, may_read_block}
use Rattle.lib_os.specs.UserCalls.{may_write_block, IsBlockRead, IsBlockWrite, FilesBehind, Output, Prints}
use Rattle.fs_blocks.specs.declared.place.CachePlace.{CachePlace}
use Rattle.fs_blocks.specs.declared.place.CachePlace.TheVariants as at
use Rattle.fs_blocks.specs.declared.place.CacheState.{CacheState}
use Rattle.fs_blocks.specs.declared.plan.CacheAsk.{CacheAsk}
use Rattle.fs_blocks.specs.declared.plan.CacheAsk.TheVariants as ask
use Rattle.fs_blocks.specs.declared.plan.Told.{Told}
use Rattle.fs_blocks.specs.declared.plan.Told.TheVariants as told
use Rattle.fs_cache.specs.declared.steps.Cached.{Cached}
use Rattle.fs_cache.specs.declared.steps.Cached.TheVariants as cached
use Rattle.fs_cache.specs.declared.steps.Flushed.{Flushed}
use Rattle.fs_cache.specs.declared.steps.Flushed.TheVariants as flushed
use Rattle.fs_blocks.specs.CachePlaces.{block_at, state_in, with_state}
use Rattle.fs_blocks.specs.CachePlans.{ask_at, next_at, fetching, flushing}
use Rattle.fs_cache.specs.CacheStands.{CacheAt, cached_in, was_used}

-- ---- one call

-- who makes it, and of which disk
pub record Caller : Type 0 where
  pub state : KernelState
  pub slot : ℕ
  pub disk : DiskFile

abbrev pub caller : KernelState → ℕ → DiskFile → Caller
caller s n disk = record { state = s; slot = n; disk = disk }

-- a block is moved to or from its page
abbrev pub of_block : Caller → ℕ → BlockCall
of_block c block = block_call c.state c.slot c.disk block (block_address block)

-- What a call gives: a word, or that it was stopped.
abbrev pub IsReply : CacheAsk → Caller → Option Files → Result ℕ Stop → KernelState → Output → Type 0
IsReply (ask.Load va) c files result after output = IsStep (call.load c.state c.slot va) result after output
IsReply (ask.System number args) c files (Ok word) after output =
    (called : Called) × (word ≡ answer_of called) × IsCallStep (call.system c.state c.slot number args) (Ok called) after output
IsReply (ask.System number args) c files (Err _) after output = ⊥
IsReply (ask.ReadBlock block) c files (Ok word) after output = IsBlockRead (of_block c block) files (Ok word) after × Prints output []
IsReply (ask.ReadBlock block) c files (Err stop.Failed) after output = (may_read_block (of_block c block) ≡ true) × Prints output []
IsReply (ask.ReadBlock block) c files (Err _) after output = ⊥
IsReply (ask.WriteBlock block) c files (Ok word) after output = IsBlockWrite (of_block c block) (Ok word) after × Prints output []
IsReply (ask.WriteBlock block) c files (Err stop.Failed) after output = (may_write_block (of_block c block) ≡ true) × Prints output []
IsReply (ask.WriteBlock block) c files (Err _) after output = ⊥

-- what the host tells of its files behind it
abbrev pub FilesAfter : CacheAsk → Caller → Result ℕ Stop → Around (Option Files) → Type 0
FilesAfter (ask.WriteBlock block) c result files = FilesBehind (of_block c block) result files
FilesAfter _ c result files = files.after ≡ files.before

-- ---- one step

-- the state in which the cache stands so
abbrev pub gone_on : KernelState → ℕ → CacheState → KernelState
gone_on s n state = with_extra s n (with_state (slot_at s n).extra state)

-- The cache stood so, and a call was made: it goes on by the word; or the call was stopped by a fault, and nothing is known.
pub data HasGone (state : CacheState) (c : Caller) (files : Around (Option Files)) (tells : Told) (after : KernelState) (output : Output)
    : Type 0 where
  by_word : (word : ℕ) (mid : KernelState) → IsReply (ask_at state) c files.before (Ok word) mid output →
      FilesAfter (ask_at state) c (Ok word) files → tells ≡ (next_at state word).told →
      after ≡ gone_on mid c.slot (next_at state word).state → HasGone state c files tells after output
  stopped : (why : Stop) → why ≢ stop.Failed → IsReply (ask_at state) c files.before (Err why) after output →
      FilesAfter (ask_at state) c (Err why) files → tells ≡ told.Going → HasGone state c files tells after output

-- Where the host failed, it was in this call.
abbrev pub IsCacheStep : CacheState → Caller → Result Told Failed → Around (Option Files) → KernelState → Output → Type 0
IsCacheStep state c (Ok tells) files after output = HasGone state c files tells after output
IsCacheStep state c (Err _) files after output =
    IsReply (ask_at state) c files.before (Err stop.Failed) after output × FilesAfter (ask_at state) c (Err stop.Failed) files

-- where it stands in a slot
abbrev pub cache_state : KernelState → ℕ → CacheState
cache_state s n = state_in (slot_at s n).extra

-- and where it begins when a block is wanted, and when it is to be flushed
abbrev pub fetch_state : KernelState → ℕ → ℕ → CacheState
fetch_state s n block = let state = cache_state s n in record state { place = fetching state.place block }

abbrev pub flush_state : KernelState → ℕ → CacheState
flush_state s n = let state = cache_state s n in record state { place = flushing state.place }

-- ---- what stays

-- Where the host tells its files, the cache stands over the disk that it tells, and what each block holds is as before.
abbrev pub KeepsCache : DiskFile → ℕ → Around KernelState → Around (Option Files) → Type 0
KeepsCache disk n states files =
    (before : Files) → files.before ≡ Some before → CacheAt (disk_in before disk) states.before n →
    (after : Files) × (files.after ≡ Some after) × CacheAt (disk_in after disk) states.after n
    × KeepsValues (disk_in before disk) (cached_in states.before n) (disk_in after disk) (cached_in states.after n)

-- the same of a call that may have failed
abbrev pub KeepsCacheWhereDone : {X : Type 0} → Result X Failed → DiskFile → ℕ → Around KernelState → Around (Option Files) → Type 0
KeepsCacheWhereDone (Ok x) disk n states files = KeepsCache disk n states files
KeepsCacheWhereDone (Err _) disk n states files = Unit {0}

-- ---- the number that falls

abbrev pub row_in : KernelState → ℕ → EntryRow
row_in s n = block_row s.spaces (slot_at s n).directory own_addresses

-- how many blocks are cached, and how many of their pages were used
unfoldable pub cached_count : EntryRow → ℕ
cached_count row = count_below CACHE_BLOCKS (λ n. is_some (row n))

unfoldable pub used_count : EntryRow → ℕ
used_count row = count_below CACHE_BLOCKS (λ n. was_used (row n))

-- The hand goes round twice at most for each page that was used, and once more; and again for each page that was given up in vain.
abbrev pub steps_of_round : ℕ
steps_of_round = 2 * CACHE_BLOCKS + 6

abbrev pub steps_of_page : ℕ
steps_of_page = (CACHE_BLOCKS + 1) * steps_of_round + 10

abbrev pub giving_left : ℕ → ℕ → ℕ
giving_left cached used = cached * steps_of_page + used * steps_of_round + 10

abbrev pub taking_left : ℕ → ℕ
taking_left cached = giving_left cached cached + steps_of_round

-- how many steps may come, at most, until a block that is wanted is there, by how many blocks are cached and how many pages were used
abbrev pub fetch_left : CachePlace → ℕ → ℕ → ℕ
fetch_left (at.LookingRegion block) cached used = taking_left cached + 2
fetch_left (at.LookingPage block) cached used = taking_left cached + 1
fetch_left (at.Taking block) cached used = taking_left cached
fetch_left (at.Filling block) cached used = 2
fetch_left (at.Settling block) cached used = 1
fetch_left (at.HandRegion block left) cached used = giving_left cached used + 2 * left + 3
fetch_left (at.HandPage block left) cached used = giving_left cached used + 2 * left + 2
fetch_left (at.WritingBack block) cached used = giving_left cached used + 2
fetch_left (at.Passing block) cached used = giving_left cached used + 1
fetch_left (at.Moving block) cached used = giving_left cached used + 3
fetch_left (at.Leaving block) cached used = 3
fetch_left (at.Freeing block) cached used = giving_left cached used + 2
fetch_left (at.TakingLast block) cached used = 4
fetch_left _ cached used = 0

-- a block is being fetched
abbrev pub is_fetching : CachePlace → Bool
is_fetching at.Resting = false
is_fetching (at.Found block) = false
is_fetching (at.FlushRegion block) = false
is_fetching (at.FlushPage block) = false
is_fetching (at.FlushWriting block) = false
is_fetching (at.FlushSettling block) = false
is_fetching _ = true

-- this block was found
abbrev pub is_found : ℕ → CachePlace → Bool
is_found block (at.Found other) = other == block
is_found block _ = false

-- What is held back for the pages that are cached: each may be given up once, and each that was used is passed once in a round. Where a page is taken,
-- or used, that is more, and no more than one page's.
abbrev pub steps_to_give : ℕ
steps_to_give = steps_of_round + 10

abbrev pub held_left : ℕ → ℕ → ℕ
held_left cached used = cached * steps_to_give + used * steps_of_round

abbrev pub steps_to_seek : ℕ
steps_to_seek = steps_to_give + steps_of_round + 10

abbrev pub steps_to_take : ℕ
steps_to_take = steps_to_seek + steps_of_round

abbrev pub steps_to_begin : ℕ
steps_to_begin = steps_to_take + 2

-- how many steps may come until a block that is wanted is there, with all that is held back behind them
abbrev pub near_left : CachePlace → ℕ → ℕ → ℕ
near_left (at.LookingRegion block) cached used = held_left cached used + (steps_to_take + 2)
near_left (at.LookingPage block) cached used = held_left cached used + (steps_to_take + 1)
near_left (at.Taking block) cached used = held_left cached used + steps_to_take
near_left (at.Filling block) cached used = held_left cached used + (steps_of_round + 2)
near_left (at.Settling block) cached used = held_left cached used + 1
near_left (at.HandRegion block left) cached used = held_left cached used + (steps_to_seek + 2 * left + 3)
near_left (at.HandPage block left) cached used = held_left cached used + (steps_to_seek + 2 * left + 2)
near_left (at.WritingBack block) cached used = held_left cached used + (steps_to_seek + 2)
near_left (at.Passing block) cached used = held_left cached used + (steps_to_seek + 1)
near_left (at.Moving block) cached used = held_left cached used + (steps_to_seek + 3)
near_left (at.Leaving block) cached used = held_left cached used + (steps_of_round + 3)
near_left (at.Freeing block) cached used = held_left cached used + (steps_to_seek + 2)
near_left (at.TakingLast block) cached used = held_left cached used + (steps_to_seek + 3)
near_left _ cached used = held_left cached used

-- the same where another may be under way, which is done first; and of no block that is known
abbrev pub wait_by : Bool → Bool → Bool → ℕ → ℕ
wait_by true true found left = left
wait_by true false found left = left + steps_to_begin
wait_by false own true left = left
wait_by false own false left = left + steps_to_begin

abbrev pub wait_left : ℕ → CachePlace → ℕ → ℕ → ℕ
wait_left block place cached used =
    wait_by (is_fetching place) (block_at place == block) (is_found block place) (near_left place cached used)

abbrev pub other_left : CachePlace → ℕ → ℕ → ℕ
other_left place cached used = near_left place cached used + steps_to_begin

-- the most of them, and of a flush
abbrev pub WAIT_STEPS_MAX : ℕ
WAIT_STEPS_MAX = 2 ^ 36

abbrev pub FLUSH_STEPS_MAX : ℕ
FLUSH_STEPS_MAX = 2 ^ 51

-- the same until no page is dirty
abbrev pub flush_left : CachePlace → ℕ → ℕ → ℕ
flush_left at.Resting cached used = 5 * CACHE_BLOCKS + 5
flush_left (at.Found block) cached used = 5 * CACHE_BLOCKS + 5
flush_left (at.FlushRegion block) cached used = 5 * (CACHE_BLOCKS - block) + 4
flush_left (at.FlushPage block) cached used = 5 * (CACHE_BLOCKS - block) + 3
flush_left (at.FlushWriting block) cached used = 5 * (CACHE_BLOCKS - block) + 2
flush_left (at.FlushSettling block) cached used = 5 * (CACHE_BLOCKS - block) + 1
flush_left place cached used = 5 * CACHE_BLOCKS + 5 + fetch_left place cached used

abbrev pub left_in : (CachePlace → ℕ → ℕ → ℕ) → CachePlace → KernelState → ℕ → ℕ
left_in number place s n = number place (cached_count (row_in s n)) (used_count (row_in s n))

-- ---- the calls, where no page is refused

-- Then the hand never goes round: what is left of a fetch is five calls at most.
abbrev pub fetch_calls : CachePlace → ℕ
fetch_calls (at.LookingRegion block) = 5
fetch_calls (at.LookingPage block) = 4
fetch_calls (at.Taking block) = 3
fetch_calls (at.Filling block) = 2
fetch_calls (at.Settling block) = 1
fetch_calls _ = 0

-- A fetch of this block is under way, for which no page was refused.
pub data IsNear (block : ℕ) : CachePlace → Type 0 where
  looks : IsNear block (at.LookingRegion block)
  reads : IsNear block (at.LookingPage block)
  takes : IsNear block (at.Taking block)
  fills : IsNear block (at.Filling block)
  settles : IsNear block (at.Settling block)

-- no fetch is under way, or one of this block
abbrev pub IsReady : ℕ → CachePlace → Type 0
IsReady block place = (is_fetching place ≡ false) ⊎ IsNear block place

-- before this block is found
abbrev pub block_calls : ℕ → CachePlace → ℕ
block_calls block place = if is_found block place then 0 else fetch_calls (fetching place block)

-- Of a flush: each region and each page from a block on is looked at, and a page that is dirty is written and made clean.
unfoldable pub dirty_from : EntryRow → ℕ → ℕ
dirty_from row block = count_below CACHE_BLOCKS (λ n. nat_le block n && is_dirty (row n))

abbrev pub looks_from : ℕ → ℕ
looks_from block = let blocks = CACHE_BLOCKS - block in blocks + blocks / NPTENTRIES

abbrev pub calls_from : EntryRow → ℕ → ℕ
calls_from row block = looks_from block + 2 * dirty_from row block

abbrev pub flush_calls : CachePlace → EntryRow → ℕ
flush_calls (at.FlushRegion block) row = looks_from (block + 1) + 2 + 2 * dirty_from row block
flush_calls (at.FlushPage block) row = looks_from (block + 1) + 1 + 2 * dirty_from row block
flush_calls (at.FlushWriting block) row = calls_from row (block + 1) + 2
flush_calls (at.FlushSettling block) row = calls_from row (block + 1) + 1
flush_calls _ row = 0

-- no flush is more calls than this, over a disk of so many blocks
abbrev pub flush_calls_max : ℕ → ℕ
flush_calls_max count = CACHE_BLOCKS + CACHE_BLOCKS / NPTENTRIES + 2 * count

-- a page was refused in a step
abbrev pub WasRefused : KernelState → KernelState → Type 0
WasRefused s after = s.refusals < 2 ^ 64 - 1 → s.refusals < after.refusals

-- ---- what a step tells

-- where a fetch of this block comes on, or no other was under way
abbrev pub ComesOn : ℕ → CachePlace → CachePlace → Type 0
ComesOn block place next = IsReady block next × (block_calls block next < block_calls block place)

-- A block that is ready has its page. Where there is more to do, a number is less than before, and so is that of a wait, where another block may
-- be under way; and it is one call fewer, or a page was refused. No page is to be had only where one was refused in this step, and no block is
-- cached.
abbrev pub FetchTells : ℕ → Cached → ℕ → Around KernelState → Type 0
FetchTells block (cached.Ready va) n states = is_some (row_in states.before n block) ≡ true
FetchTells block cached.Going n states =
    (left_in fetch_left (cache_state states.after n).place states.after n
    < left_in fetch_left (fetching (cache_state states.before n).place block) states.before n)
    × (left_in (wait_left block) (cache_state states.after n).place states.after n
    < left_in (wait_left block) (cache_state states.before n).place states.before n)
    × (IsReady block (cache_state states.before n).place →
    ComesOn block (cache_state states.before n).place (cache_state states.after n).place ⊎ WasRefused states.before states.after)
FetchTells block cached.NoPage n states =
    WasRefused states.before states.after × ((m : ℕ) → row_in states.after n m ≡ None) × ((cache_state states.after n).place ≡ at.Resting)

-- Clean is told where no page is dirty. Where there is more to do, a number is less than before, and where no fetch was under way, so is that of the
-- calls.
abbrev pub FlushTells : Flushed → ℕ → Around KernelState → Type 0
FlushTells flushed.Clean n states = ((m : ℕ) → is_dirty (row_in states.after n m) ≡ false) × ((cache_state states.after n).place ≡ at.Resting)
FlushTells flushed.Going n states =
    (left_in flush_left (cache_state states.after n).place states.after n
    < left_in flush_left (flushing (cache_state states.before n).place) states.before n)
    × (is_fetching (cache_state states.before n).place ≡ false →
    (is_fetching (cache_state states.after n).place ≡ false)
    × (flush_calls (flushing (cache_state states.after n).place) (row_in states.after n)
    < flush_calls (flushing (cache_state states.before n).place) (row_in states.before n)))

-- This holds where the host tells its files and the cache stands over the disk.
abbrev pub WhereCached : DiskFile → ℕ → KernelState → Option Files → Type 0 → Type 0
WhereCached disk n s files claim = (before : Files) → files ≡ Some before → CacheAt (disk_in before disk) s n → claim

abbrev pub FetchTold : ℕ → Result Cached Failed → DiskFile → ℕ → Around KernelState → Option Files → Type 0
FetchTold block (Ok tells) disk n states files = WhereCached disk n states.before files (FetchTells block tells n states)
FetchTold block (Err _) disk n states files = Unit {0}

abbrev pub FlushTold : Result Flushed Failed → DiskFile → ℕ → Around KernelState → Option Files → Type 0
FlushTold (Ok tells) disk n states files = WhereCached disk n states.before files (FlushTells tells n states)
FlushTold (Err _) disk n states files = Unit {0}

-- ---- block_step and flush_step

-- What is told of a step of the cache.
abbrev pub as_cached : Told → Cached
as_cached told.NoPage = cached.NoPage
as_cached _ = cached.Going

abbrev pub as_flushed : Told → Flushed
as_flushed told.Clean = flushed.Clean
as_flushed _ = flushed.Going

-- A block that was found is ready, and nothing is done; else the cache makes a step.
abbrev pub IsBlockStep : ℕ → Caller → Result Cached Failed → Around (Option Files) → KernelState → Output → Type 0
IsBlockStep block c (Ok (cached.Ready va)) files after output =
    ((cache_state c.state c.slot).place ≡ at.Found block) × (va ≡ block_address block) × (after ≡ c.state) × (files.after ≡ files.before)
    × (output.console.after ≡ output.console.before) × (output.count.after ≡ output.count.before)
IsBlockStep block c (Ok tells) files after output =
    (step : Told) × (tells ≡ as_cached step) × HasGone (fetch_state c.state c.slot block) c files step after output
IsBlockStep block c (Err failed) files after output = IsCacheStep (fetch_state c.state c.slot block) c (Err failed) files after output

abbrev pub IsFlushStep : Caller → Result Flushed Failed → Around (Option Files) → KernelState → Output → Type 0
IsFlushStep c (Ok tells) files after output =
    (step : Told) × (tells ≡ as_flushed step) × HasGone (flush_state c.state c.slot) c files step after output
IsFlushStep c (Err failed) files after output = IsCacheStep (flush_state c.state c.slot) c (Err failed) files after output

-- how many calls a step is
abbrev pub calls_made : Result Cached Failed → ℕ
calls_made (Ok (cached.Ready va)) = 0
calls_made _ = 1
