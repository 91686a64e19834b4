-- The numbers of a fetch and of a flush fall with each step.
use Rattle.std.proofs.Common.{◌≡◌, ◌<◌, ◌≤◌, ◌+◌, ◌*◌, ◌-◌, ◌%◌, ◌==◌, ◌&&◌, ℕ, Bool, true, false, is_some, ap, refl, arith, if◌then◌else◌}
use Rattle.std.specs.Prelude.{nat_le}
use Rattle.std.proofs.lemmas.Bool.{leb-false}
use Rattle.jos_base.specs.declared.numbers.TheConstants.{NPTENTRIES}
use Rattle.lib_os.specs.declared.numbers.TheConstants.{CACHE_BLOCKS}
use Rattle.lib_os.specs.Disk.{Disk}
use Rattle.fs_blocks.specs.declared.place.CachePlace.{CachePlace}
use Rattle.fs_blocks.specs.declared.place.CachePlace.TheVariants as at
use Rattle.fs_blocks.specs.declared.plan.CacheNext.{CacheNext}
use Rattle.fs_blocks.specs.declared.plan.Told.TheVariants as told
use Rattle.fs_blocks.specs.CachePlans.{block_of, flush_from, go_on, is_there, is_written, next_by, rest_of_region}
use Rattle.fs_cache.specs.CacheStands.{CacheView, CacheStands}
use Rattle.fs_cache.specs.CacheSteps.{cached_count, used_count, fetch_left, flush_left}
use Rattle.fs_cache.proofs.Views.{DoneAt, FetchFalls, FlushFalls, IsFetching, left_by}
use Rattle.fs_cache.proofs.FallsFetch as fetch
use Rattle.fs_cache.proofs.FallsFetch.{FetchLess}
use Rattle.fs_cache.proofs.FallsNumbers.{less, next_less}

-- ---- a fetch

-- whatever the step tells
fetch_goes_down : (d e : Disk) (v w : CacheView) (place : CachePlace) (hand word : ℕ) → CacheStands d v place hand →
    DoneAt place hand d e v w word → IsFetching place → FetchLess place v (next_by place hand word).state.place w
fetch_goes_down d e v w at.Resting hand word stands done is = absurd is
fetch_goes_down d e v w (at.Found b) hand word stands done is = absurd is
fetch_goes_down d e v w (at.LookingRegion b) hand word stands done is = fetch.looking_region v w b hand word done.0
fetch_goes_down d e v w (at.LookingPage b) hand word stands done is = fetch.looking_page v w b hand word done.0
fetch_goes_down d e v w (at.Taking b) hand word stands done is = fetch.taking v w b hand word done.0
fetch_goes_down d e v w (at.Filling b) hand word stands done is = fetch.filling v w b
fetch_goes_down d e v w (at.Settling b) hand word stands done is = fetch.settling v w b
fetch_goes_down d e v w (at.HandRegion b left) hand word stands done is = fetch.hand_region v w b left hand word done.0
fetch_goes_down d e v w (at.HandPage b left) hand word stands done is = fetch.hand_page v w b left hand word stands.at.0.some done.0
fetch_goes_down d e v w (at.WritingBack b) hand word stands done is = fetch.writing_back d e v w b hand stands.at.1 done
fetch_goes_down d e v w (at.Passing b) hand word stands done is = fetch.passing v w b hand word stands.hand_below stands.at.1 done.0
fetch_goes_down d e v w (at.Moving b) hand word stands done is = fetch.moving v w b hand word done.0
fetch_goes_down d e v w (at.Leaving b) hand word stands done is = fetch.leaving v w b
fetch_goes_down d e v w (at.Freeing b) hand word stands done is =
    fetch.freeing v w b hand stands.hand_below (ap is_some stands.at.at_hand.stands) done.0
fetch_goes_down d e v w (at.TakingLast b) hand word stands done is = fetch.taking_last v w b hand word
fetch_goes_down d e v w (at.FlushRegion b) hand word stands done is = absurd is
fetch_goes_down d e v w (at.FlushPage b) hand word stands done is = absurd is
fetch_goes_down d e v w (at.FlushWriting b) hand word stands done is = absurd is
fetch_goes_down d e v w (at.FlushSettling b) hand word stands done is = absurd is

pub fetch_falls : FetchFalls
fetch_falls d e v w place hand word stands done is going = fetch_goes_down d e v w place hand word stands done is

-- ---- a flush, while a block is being fetched

same_most : (n k : ℕ) → n + k ≤ n + k
same_most n k = omega arith

none_most : (n : ℕ) → n ≤ n + 0
none_most n = omega arith

blocks_most : (n b k : ℕ) → k ≤ 5 → 5 * (n - b) + k ≤ 5 * n + 5 + 0
blocks_most n b k few = omega (arith, few)

pub flush_most : (place : CachePlace) (c u : ℕ) → flush_left place c u ≤ 5 * CACHE_BLOCKS + 5 + fetch_left place c u
flush_most at.Resting c u = none_most (5 * CACHE_BLOCKS + 5)
flush_most (at.Found b) c u = none_most (5 * CACHE_BLOCKS + 5)
flush_most (at.LookingRegion b) c u = same_most (5 * CACHE_BLOCKS + 5) (fetch_left (at.LookingRegion b) c u)
flush_most (at.LookingPage b) c u = same_most (5 * CACHE_BLOCKS + 5) (fetch_left (at.LookingPage b) c u)
flush_most (at.Taking b) c u = same_most (5 * CACHE_BLOCKS + 5) (fetch_left (at.Taking b) c u)
flush_most (at.Filling b) c u = same_most (5 * CACHE_BLOCKS + 5) (fetch_left (at.Filling b) c u)
flush_most (at.Settling b) c u = same_most (5 * CACHE_BLOCKS + 5) (fetch_left (at.Settling b) c u)
flush_most (at.HandRegion b left) c u = same_most (5 * CACHE_BLOCKS + 5) (fetch_left (at.HandRegion b left) c u)
flush_most (at.HandPage b left) c u = same_most (5 * CACHE_BLOCKS + 5) (fetch_left (at.HandPage b left) c u)
flush_most (at.WritingBack b) c u = same_most (5 * CACHE_BLOCKS + 5) (fetch_left (at.WritingBack b) c u)
flush_most (at.Passing b) c u = same_most (5 * CACHE_BLOCKS + 5) (fetch_left (at.Passing b) c u)
flush_most (at.Moving b) c u = same_most (5 * CACHE_BLOCKS + 5) (fetch_left (at.Moving b) c u)
flush_most (at.Leaving b) c u = same_most (5 * CACHE_BLOCKS + 5) (fetch_left (at.Leaving b) c u)
flush_most (at.Freeing b) c u = same_most (5 * CACHE_BLOCKS + 5) (fetch_left (at.Freeing b) c u)
flush_most (at.TakingLast b) c u = same_most (5 * CACHE_BLOCKS + 5) (fetch_left (at.TakingLast b) c u)
flush_most (at.FlushRegion b) c u = blocks_most CACHE_BLOCKS b 4 (omega arith)
flush_most (at.FlushPage b) c u = blocks_most CACHE_BLOCKS b 3 (omega arith)
flush_most (at.FlushWriting b) c u = blocks_most CACHE_BLOCKS b 2 (omega arith)
flush_most (at.FlushSettling b) c u = blocks_most CACHE_BLOCKS b 1 (omega arith)

-- what is left of a flush is what is left of the fetch, and all of the flush
while_fetching : (d e : Disk) (v w : CacheView) (place : CachePlace) (hand word : ℕ) → CacheStands d v place hand →
    DoneAt place hand d e v w word → IsFetching place →
    left_by flush_left (next_by place hand word).state.place w < 5 * CACHE_BLOCKS + 5 + left_by fetch_left place v
while_fetching d e v w place hand word stands done is =
    let next = (next_by place hand word).state.place in
    among (left_by flush_left next w) (left_by fetch_left next w) (left_by fetch_left place v) (5 * CACHE_BLOCKS + 5)
    (flush_most next (cached_count w.row) (used_count w.row)) (fetch_goes_down d e v w place hand word stands done is)
  where
    among : (a b c n : ℕ) → a ≤ n + b → b < c → a < n + c
    among a b c n le lt = omega (arith, le, lt)

-- ---- a flush

-- the pages of blocks up to b are clean, and there is more to do
from_falls : (b n hand c u : ℕ) → b < n → ((flush_from n hand).told ≡ told.Clean → ⊥) →
    flush_left (flush_from n hand).state.place c u < 5 * (CACHE_BLOCKS - b) + 1
from_falls b n hand c u lt more = by_tests (nat_le CACHE_BLOCKS n) (n % NPTENTRIES == 0) refl more
  where
    goes : Bool → Bool → CacheNext
    goes over first =
        if over then record { state = record { place = at.Resting; hand = hand }; told = told.Clean }
        else if first then go_on (at.FlushRegion n) hand
        else go_on (at.FlushPage n) hand

    by_tests : (over first : Bool) → nat_le CACHE_BLOCKS n ≡ over → ((goes over first).told ≡ told.Clean → ⊥) →
        flush_left (goes over first).state.place c u < 5 * (CACHE_BLOCKS - b) + 1
    by_tests true first test more = absurd (more refl)
    by_tests false true test more = next_less CACHE_BLOCKS b n 4 lt (leb-false CACHE_BLOCKS n test) (omega arith)
    by_tests false false test more = next_less CACHE_BLOCKS b n 3 lt (leb-false CACHE_BLOCKS n test) (omega arith)

-- a block's number is below those behind it
ahead : (b k : ℕ) → b < CACHE_BLOCKS → 1 ≤ k → b < block_of b + k
ahead b k below some = omega (arith, below, some)

by_more : (a n k : ℕ) → a < n + 1 → 1 ≤ k → a < n + k
by_more a n k lt some = omega (arith, lt, some)

flush_region : (v w : CacheView) (b hand word : ℕ) → b < CACHE_BLOCKS → let next = next_by (at.FlushRegion b) hand word in
    (next.told ≡ told.Clean → ⊥) → left_by flush_left next.state.place w < left_by flush_left (at.FlushRegion b) v
flush_region v w b hand word below = by_test (is_there word)
  where
    rest : (n : ℕ) → 1 ≤ NPTENTRIES - n % NPTENTRIES
    rest n = omega arith

    goes : Bool → CacheNext
    goes t = if t then go_on (at.FlushPage b) hand else flush_from (block_of b + rest_of_region b) hand

    by_test : (t : Bool) → ((goes t).told ≡ told.Clean → ⊥) →
        left_by flush_left (goes t).state.place w < left_by flush_left (at.FlushRegion b) v
    by_test true more = less (5 * (CACHE_BLOCKS - b)) 3 4 (omega arith)
    by_test false more =
        by_more (left_by flush_left (flush_from (block_of b + rest_of_region b) hand).state.place w) (5 * (CACHE_BLOCKS - b)) 4
        (from_falls b (block_of b + rest_of_region b) hand (cached_count w.row) (used_count w.row)
        (ahead b (rest_of_region b) below (rest (block_of b))) more) (omega arith)

flush_page : (v w : CacheView) (b hand word : ℕ) → b < CACHE_BLOCKS → let next = next_by (at.FlushPage b) hand word in
    (next.told ≡ told.Clean → ⊥) → left_by flush_left next.state.place w < left_by flush_left (at.FlushPage b) v
flush_page v w b hand word below = by_test (is_there word && is_written word)
  where
    goes : Bool → CacheNext
    goes t = if t then go_on (at.FlushWriting b) hand else flush_from (block_of b + 1) hand

    by_test : (t : Bool) → ((goes t).told ≡ told.Clean → ⊥) →
        left_by flush_left (goes t).state.place w < left_by flush_left (at.FlushPage b) v
    by_test true more = less (5 * (CACHE_BLOCKS - b)) 2 3 (omega arith)
    by_test false more =
        by_more (left_by flush_left (flush_from (block_of b + 1) hand).state.place w) (5 * (CACHE_BLOCKS - b)) 3
        (from_falls b (block_of b + 1) hand (cached_count w.row) (used_count w.row) (ahead b 1 below (omega arith)) more) (omega arith)

flush_writing : (v w : CacheView) (b : ℕ) → left_by flush_left (at.FlushSettling b) w < left_by flush_left (at.FlushWriting b) v
flush_writing v w b = less (5 * (CACHE_BLOCKS - b)) 1 2 (omega arith)

pub flush_falls : FlushFalls
flush_falls d e v w at.Resting hand word stands done more = absurd done
flush_falls d e v w (at.Found b) hand word stands done more = absurd done
flush_falls d e v w (at.FlushRegion b) hand word stands done more = flush_region v w b hand word stands.block_below more
flush_falls d e v w (at.FlushPage b) hand word stands done more = flush_page v w b hand word stands.block_below more
flush_falls d e v w (at.FlushWriting b) hand word stands done more = flush_writing v w b
flush_falls d e v w (at.FlushSettling b) hand word stands done more =
    from_falls b (block_of b + 1) hand (cached_count w.row) (used_count w.row) (ahead b 1 stands.block_below (omega arith)) more
flush_falls d e v w (at.LookingRegion b) hand word stands done more = while_fetching d e v w (at.LookingRegion b) hand word stands done tt
flush_falls d e v w (at.LookingPage b) hand word stands done more = while_fetching d e v w (at.LookingPage b) hand word stands done tt
flush_falls d e v w (at.Taking b) hand word stands done more = while_fetching d e v w (at.Taking b) hand word stands done tt
flush_falls d e v w (at.Filling b) hand word stands done more = while_fetching d e v w (at.Filling b) hand word stands done tt
flush_falls d e v w (at.Settling b) hand word stands done more = while_fetching d e v w (at.Settling b) hand word stands done tt
flush_falls d e v w (at.HandRegion b left) hand word stands done more = while_fetching d e v w (at.HandRegion b left) hand word stands done tt
flush_falls d e v w (at.HandPage b left) hand word stands done more = while_fetching d e v w (at.HandPage b left) hand word stands done tt
flush_falls d e v w (at.WritingBack b) hand word stands done more = while_fetching d e v w (at.WritingBack b) hand word stands done tt
flush_falls d e v w (at.Passing b) hand word stands done more = while_fetching d e v w (at.Passing b) hand word stands done tt
flush_falls d e v w (at.Moving b) hand word stands done more = while_fetching d e v w (at.Moving b) hand word stands done tt
flush_falls d e v w (at.Leaving b) hand word stands done more = while_fetching d e v w (at.Leaving b) hand word stands done tt
flush_falls d e v w (at.Freeing b) hand word stands done more = while_fetching d e v w (at.Freeing b) hand word stands done tt
flush_falls d e v w (at.TakingLast b) hand word stands done more = while_fetching d e v w (at.TakingLast b) hand word stands done tt
