-- What the cache asks at a place, and where it goes by the reply.
-- (MIT 6.828, lab 5: fs/bc.c. A block that is wanted is looked up in the page tables, gets a page, and is read into it. The hand that
-- looks for a page to give up is the clock of the textbooks.)
use Rattle.std.specs.Prelude.{◌≡◌, ◌<◌, ℕ, ◌+◌, ◌-◌, ◌*◌, ◌/◌, ◌%◌, ◌==◌, ◌&&◌, ◌||◌, nat_le, Bool, true, [], ◌∷◌, if◌then◌else◌}
use Rattle.jos_base.specs.declared.numbers.TheConstants.{NPTENTRIES, PGSIZE, PTE_A, PTE_D, PTE_P, PTE_U, PTE_W, UVPT}
use Rattle.jos_base.specs.declared.numbers.TheConstants.{SYS_PAGE_ALLOC, SYS_PAGE_MAP, SYS_PAGE_UNMAP}
use Rattle.jos_base.specs.Words.{has_bit}
use Rattle.lib_os.specs.declared.numbers.TheConstants.{CACHE_BLOCKS, DISKMAP, UVPD}
use Rattle.lib_os.specs.BlockCache.{block_address}
use Rattle.fs_blocks.specs.declared.place.CachePlace.{CachePlace}
use Rattle.fs_blocks.specs.declared.place.CachePlace.TheVariants as at
use Rattle.fs_blocks.specs.declared.place.CacheState.{CacheState}
use Rattle.fs_blocks.specs.declared.plan.CacheAsk.{CacheAsk}
use Rattle.fs_blocks.specs.declared.plan.CacheAsk.TheVariants as ask
use Rattle.fs_blocks.specs.declared.plan.CacheNext.{CacheNext}
use Rattle.fs_blocks.specs.declared.plan.Told.TheVariants as told

-- ---- blocks and their pages

-- a block's number, by a word that may hold anything
abbrev pub block_of : ℕ → ℕ
block_of word = word % CACHE_BLOCKS

-- the number of its page
abbrev pub page_of : ℕ → ℕ
page_of block = DISKMAP / PGSIZE + block_of block

-- the bits of its page: it may be read and written
abbrev pub page_perm : ℕ
page_perm = PTE_P + PTE_U + PTE_W

-- from a block on to the end of its region
abbrev pub rest_of_region : ℕ → ℕ
rest_of_region block = NPTENTRIES - block_of block % NPTENTRIES

-- the block that is so many behind another, in the round
abbrev pub further : ℕ → ℕ → ℕ
further block blocks = block_of (block_of block + blocks)

-- ---- what is asked

abbrev pub ask_region : ℕ → CacheAsk
ask_region block = ask.Load (UVPD + 4 * (page_of block / NPTENTRIES))

abbrev pub ask_entry : ℕ → CacheAsk
ask_entry block = ask.Load (UVPT + 4 * page_of block)

abbrev pub ask_page : ℕ → CacheAsk
ask_page block = ask.System SYS_PAGE_ALLOC (0 ∷ block_address (block_of block) ∷ page_perm ∷ 0 ∷ 0 ∷ [])

abbrev pub ask_map : ℕ → ℕ → CacheAsk
ask_map from to =
    ask.System SYS_PAGE_MAP (0 ∷ block_address (block_of from) ∷ 0 ∷ block_address (block_of to) ∷ page_perm ∷ [])

abbrev pub ask_unmap : ℕ → CacheAsk
ask_unmap block = ask.System SYS_PAGE_UNMAP (0 ∷ block_address (block_of block) ∷ 0 ∷ 0 ∷ 0 ∷ [])

abbrev pub is_page_call : ℕ → Bool
is_page_call number = (number == SYS_PAGE_ALLOC) || (number == SYS_PAGE_MAP) || (number == SYS_PAGE_UNMAP)

-- The cache asks for words at multiples of four, for calls on pages, and for blocks that have addresses.
abbrev pub IsOwnAsk : CacheAsk → Type 0
IsOwnAsk (ask.Load va) = va % 4 ≡ 0
IsOwnAsk (ask.System number args) = is_page_call number ≡ true
IsOwnAsk (ask.ReadBlock block) = block < CACHE_BLOCKS
IsOwnAsk (ask.WriteBlock block) = block < CACHE_BLOCKS

abbrev pub ask_by : CachePlace → ℕ → CacheAsk
ask_by at.Resting hand = ask_region 0
ask_by (at.Found block) hand = ask_region block
ask_by (at.LookingRegion block) hand = ask_region block
ask_by (at.LookingPage block) hand = ask_entry block
ask_by (at.Taking block) hand = ask_page block
ask_by (at.Filling block) hand = ask.ReadBlock (block_of block)
ask_by (at.Settling block) hand = ask_map block block
ask_by (at.HandRegion block left) hand = ask_region hand
ask_by (at.HandPage block left) hand = ask_entry hand
ask_by (at.WritingBack block) hand = ask.WriteBlock (block_of hand)
ask_by (at.Passing block) hand = ask_map hand hand
ask_by (at.Moving block) hand = ask_map hand block
ask_by (at.Leaving block) hand = ask_unmap hand
ask_by (at.Freeing block) hand = ask_unmap hand
ask_by (at.TakingLast block) hand = ask_page block
ask_by (at.FlushRegion block) hand = ask_region block
ask_by (at.FlushPage block) hand = ask_entry block
ask_by (at.FlushWriting block) hand = ask.WriteBlock (block_of block)
ask_by (at.FlushSettling block) hand = ask_map block block

abbrev pub ask_at : CacheState → CacheAsk
ask_at state = ask_by state.place state.hand

-- ---- where it goes

-- what an entry's word says: it is there, it was written, it was used
abbrev pub is_there : ℕ → Bool
is_there word = has_bit word PTE_P

abbrev pub is_written : ℕ → Bool
is_written word = has_bit word PTE_D

abbrev pub is_used : ℕ → Bool
is_used word = has_bit word PTE_A

abbrev pub go_on : CachePlace → ℕ → CacheNext
go_on place hand = record { state = record { place = place; hand = hand }; told = told.Going }

-- So many blocks at hand have no page, and the next is looked at, if one is left.
abbrev pub pass : ℕ → ℕ → ℕ → ℕ → CacheNext
pass block hand left blocks =
    let next = further hand blocks in
    if nat_le left blocks then go_on (at.TakingLast block) next
    else if next % NPTENTRIES == 0 then go_on (at.HandRegion block (left - blocks)) next
    else go_on (at.HandPage block (left - blocks)) next

-- the page at hand is passed, and all blocks are left to look at
abbrev pub pass_used : ℕ → ℕ → CacheNext
pass_used block hand = go_on (at.HandRegion block CACHE_BLOCKS) (further hand 1)

-- The page at hand is there. It is written back where it is dirty, passed where it was used, and else given up.
abbrev pub weigh : ℕ → ℕ → ℕ → CacheNext
weigh block hand word =
    if is_written word then go_on (at.WritingBack block) hand
    else if is_used word then go_on (at.Passing block) hand
    else go_on (at.Moving block) hand

-- the pages of blocks before this one are clean
abbrev pub flush_from : ℕ → ℕ → CacheNext
flush_from block hand =
    if nat_le CACHE_BLOCKS block then record { state = record { place = at.Resting; hand = hand }; told = told.Clean }
    else if block % NPTENTRIES == 0 then go_on (at.FlushRegion block) hand
    else go_on (at.FlushPage block) hand

abbrev pub next_by : CachePlace → ℕ → ℕ → CacheNext
next_by at.Resting hand word = go_on at.Resting hand
next_by (at.Found block) hand word = go_on (at.Found block) hand
next_by (at.LookingRegion block) hand word = if is_there word then go_on (at.LookingPage block) hand else go_on (at.Taking block) hand
next_by (at.LookingPage block) hand word = if is_there word then go_on (at.Found block) hand else go_on (at.Taking block) hand
next_by (at.Taking block) hand word =
    if word == 0 then go_on (at.Filling block) hand else go_on (at.HandRegion block CACHE_BLOCKS) hand
next_by (at.Filling block) hand word = go_on (at.Settling block) hand
next_by (at.Settling block) hand word = go_on (at.Found block) hand
next_by (at.HandRegion block left) hand word =
    if is_there word then go_on (at.HandPage block left) hand else pass block hand left (rest_of_region hand)
next_by (at.HandPage block left) hand word = if is_there word then weigh block hand word else pass block hand left 1
next_by (at.WritingBack block) hand word = go_on (at.Passing block) hand
next_by (at.Passing block) hand word = pass_used block hand
next_by (at.Moving block) hand word = if word == 0 then go_on (at.Leaving block) hand else go_on (at.Freeing block) hand
next_by (at.Leaving block) hand word = go_on (at.Filling block) (further hand 1)
next_by (at.Freeing block) hand word = go_on (at.Taking block) (further hand 1)
next_by (at.TakingLast block) hand word =
    if word == 0 then go_on (at.Filling block) hand
    else record { state = record { place = at.Resting; hand = hand }; told = told.NoPage }
next_by (at.FlushRegion block) hand word =
    if is_there word then go_on (at.FlushPage block) hand else flush_from (block_of block + rest_of_region block) hand
next_by (at.FlushPage block) hand word =
    if is_there word && is_written word then go_on (at.FlushWriting block) hand else flush_from (block_of block + 1) hand
next_by (at.FlushWriting block) hand word = go_on (at.FlushSettling block) hand
next_by (at.FlushSettling block) hand word = flush_from (block_of block + 1) hand

abbrev pub next_at : CacheState → ℕ → CacheNext
next_at state word = next_by state.place state.hand word

-- ---- where it begins

-- a block is wanted; what is under way for another block is done first
abbrev pub fetching : CachePlace → ℕ → CachePlace
fetching at.Resting block = at.LookingRegion block
fetching (at.Found other) block = at.LookingRegion block
fetching (at.FlushRegion other) block = at.LookingRegion block
fetching (at.FlushPage other) block = at.LookingRegion block
fetching (at.FlushWriting other) block = at.LookingRegion block
fetching (at.FlushSettling other) block = at.LookingRegion block
fetching place block = place

-- a flush is wanted; what is under way for a block is done first
abbrev pub flushing : CachePlace → CachePlace
flushing at.Resting = at.FlushRegion 0
flushing (at.Found block) = at.FlushRegion 0
flushing place = place
