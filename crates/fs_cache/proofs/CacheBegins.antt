-- Where a fetch begins, and a flush, the cache stands as where it stood, and what is cached is as it was.
use Rattle.std.proofs.Common.{◌≡◌, ◌∙◌, ◌<◌, ◌+◌, ◌-◌, ◌%◌, ◌==◌, ◌&&◌, ℕ, Bool, true, false, refl, sym, arith, if◌then◌else◌}
use Rattle.std.specs.Prelude.{nat_le}
use Rattle.jos_base.specs.declared.numbers.TheConstants.{NPTENTRIES}
use Rattle.lib_os.specs.declared.numbers.TheConstants.{CACHE_BLOCKS}
use Rattle.lib_os.specs.Disk.{Disk}
use Rattle.fs_blocks.specs.declared.place.CachePlace.{CachePlace}
use Rattle.fs_blocks.specs.declared.place.CachePlace.TheVariants as at
use Rattle.fs_blocks.specs.declared.plan.CacheNext.{CacheNext}
use Rattle.fs_blocks.specs.declared.plan.Told.{Told}
use Rattle.fs_blocks.specs.declared.plan.Told.TheVariants as told
use Rattle.fs_blocks.specs.CachePlans.{IsOwnAsk, ask_by, ask_entry, ask_region, block_of, fetching, flush_from, flushing, further}
use Rattle.fs_blocks.specs.CachePlans.{go_on, is_there, is_used, is_written, next_by, pass, rest_of_region, weigh}
use Rattle.fs_cache.specs.CacheStands.{CacheView, CacheStands, cached_at}
use Rattle.fs_cache.proofs.Views.{IsFetching}

-- something is under way
abbrev pub IsUnderWay : CachePlace → Type 0
IsUnderWay at.Resting = ⊥
IsUnderWay (at.Found b) = ⊥
IsUnderWay _ = Unit {0}

-- ---- a fetch

pub fetch_goes : (p : CachePlace) (block : ℕ) → IsUnderWay (fetching p block)
fetch_goes at.Resting block = tt
fetch_goes (at.Found b) block = tt
fetch_goes (at.LookingRegion b) block = tt
fetch_goes (at.LookingPage b) block = tt
fetch_goes (at.Taking b) block = tt
fetch_goes (at.Filling b) block = tt
fetch_goes (at.Settling b) block = tt
fetch_goes (at.HandRegion b left) block = tt
fetch_goes (at.HandPage b left) block = tt
fetch_goes (at.WritingBack b) block = tt
fetch_goes (at.Passing b) block = tt
fetch_goes (at.Moving b) block = tt
fetch_goes (at.Leaving b) block = tt
fetch_goes (at.Freeing b) block = tt
fetch_goes (at.TakingLast b) block = tt
fetch_goes (at.FlushRegion b) block = tt
fetch_goes (at.FlushPage b) block = tt
fetch_goes (at.FlushWriting b) block = tt
fetch_goes (at.FlushSettling b) block = tt

pub fetch_fetches : (p : CachePlace) (block : ℕ) → IsFetching (fetching p block)
fetch_fetches at.Resting block = tt
fetch_fetches (at.Found b) block = tt
fetch_fetches (at.LookingRegion b) block = tt
fetch_fetches (at.LookingPage b) block = tt
fetch_fetches (at.Taking b) block = tt
fetch_fetches (at.Filling b) block = tt
fetch_fetches (at.Settling b) block = tt
fetch_fetches (at.HandRegion b left) block = tt
fetch_fetches (at.HandPage b left) block = tt
fetch_fetches (at.WritingBack b) block = tt
fetch_fetches (at.Passing b) block = tt
fetch_fetches (at.Moving b) block = tt
fetch_fetches (at.Leaving b) block = tt
fetch_fetches (at.Freeing b) block = tt
fetch_fetches (at.TakingLast b) block = tt
fetch_fetches (at.FlushRegion b) block = tt
fetch_fetches (at.FlushPage b) block = tt
fetch_fetches (at.FlushWriting b) block = tt
fetch_fetches (at.FlushSettling b) block = tt

pub fetch_caches : (v : CacheView) (p : CachePlace) (block : ℕ) → cached_at v (fetching p block) ≡ cached_at v p
fetch_caches v at.Resting block = refl
fetch_caches v (at.Found b) block = refl
fetch_caches v (at.LookingRegion b) block = refl
fetch_caches v (at.LookingPage b) block = refl
fetch_caches v (at.Taking b) block = refl
fetch_caches v (at.Filling b) block = refl
fetch_caches v (at.Settling b) block = refl
fetch_caches v (at.HandRegion b left) block = refl
fetch_caches v (at.HandPage b left) block = refl
fetch_caches v (at.WritingBack b) block = refl
fetch_caches v (at.Passing b) block = refl
fetch_caches v (at.Moving b) block = refl
fetch_caches v (at.Leaving b) block = refl
fetch_caches v (at.Freeing b) block = refl
fetch_caches v (at.TakingLast b) block = refl
fetch_caches v (at.FlushRegion b) block = refl
fetch_caches v (at.FlushPage b) block = refl
fetch_caches v (at.FlushWriting b) block = refl
fetch_caches v (at.FlushSettling b) block = refl

pub fetch_stands : (d : Disk) (v : CacheView) (p : CachePlace) (hand block : ℕ) → block < CACHE_BLOCKS → CacheStands d v p hand →
    CacheStands d v (fetching p block) hand
fetch_stands d v at.Resting hand block below s = record {
  block_below = below;
  hand_below = s.hand_below;
  cache = s.cache;
  entries = s.entries;
  dirty = s.dirty;
  pages = s.pages;
  apart = s.apart;
  at = tt;
}
fetch_stands d v (at.Found b) hand block below s = record {
  block_below = below;
  hand_below = s.hand_below;
  cache = s.cache;
  entries = s.entries;
  dirty = s.dirty;
  pages = s.pages;
  apart = s.apart;
  at = tt;
}
fetch_stands d v (at.LookingRegion b) hand block below s = s
fetch_stands d v (at.LookingPage b) hand block below s = s
fetch_stands d v (at.Taking b) hand block below s = s
fetch_stands d v (at.Filling b) hand block below s = s
fetch_stands d v (at.Settling b) hand block below s = s
fetch_stands d v (at.HandRegion b left) hand block below s = s
fetch_stands d v (at.HandPage b left) hand block below s = s
fetch_stands d v (at.WritingBack b) hand block below s = s
fetch_stands d v (at.Passing b) hand block below s = s
fetch_stands d v (at.Moving b) hand block below s = s
fetch_stands d v (at.Leaving b) hand block below s = s
fetch_stands d v (at.Freeing b) hand block below s = s
fetch_stands d v (at.TakingLast b) hand block below s = s
fetch_stands d v (at.FlushRegion b) hand block below s = record {
  block_below = below;
  hand_below = s.hand_below;
  cache = s.cache;
  entries = s.entries;
  dirty = s.dirty;
  pages = s.pages;
  apart = s.apart;
  at = tt;
}
fetch_stands d v (at.FlushPage b) hand block below s = record {
  block_below = below;
  hand_below = s.hand_below;
  cache = s.cache;
  entries = s.entries;
  dirty = s.dirty;
  pages = s.pages;
  apart = s.apart;
  at = tt;
}
fetch_stands d v (at.FlushWriting b) hand block below s = record {
  block_below = below;
  hand_below = s.hand_below;
  cache = s.cache;
  entries = s.entries;
  dirty = s.dirty;
  pages = s.pages;
  apart = s.apart;
  at = tt;
}
fetch_stands d v (at.FlushSettling b) hand block below s = record {
  block_below = below;
  hand_below = s.hand_below;
  cache = s.cache;
  entries = s.entries;
  dirty = s.dirty;
  pages = s.pages;
  apart = s.apart;
  at = tt;
}

-- ---- a flush

pub flush_goes : (p : CachePlace) → IsUnderWay (flushing p)
flush_goes at.Resting = tt
flush_goes (at.Found b) = tt
flush_goes (at.LookingRegion b) = tt
flush_goes (at.LookingPage b) = tt
flush_goes (at.Taking b) = tt
flush_goes (at.Filling b) = tt
flush_goes (at.Settling b) = tt
flush_goes (at.HandRegion b left) = tt
flush_goes (at.HandPage b left) = tt
flush_goes (at.WritingBack b) = tt
flush_goes (at.Passing b) = tt
flush_goes (at.Moving b) = tt
flush_goes (at.Leaving b) = tt
flush_goes (at.Freeing b) = tt
flush_goes (at.TakingLast b) = tt
flush_goes (at.FlushRegion b) = tt
flush_goes (at.FlushPage b) = tt
flush_goes (at.FlushWriting b) = tt
flush_goes (at.FlushSettling b) = tt

pub flush_caches : (v : CacheView) (p : CachePlace) → cached_at v (flushing p) ≡ cached_at v p
flush_caches v at.Resting = refl
flush_caches v (at.Found b) = refl
flush_caches v (at.LookingRegion b) = refl
flush_caches v (at.LookingPage b) = refl
flush_caches v (at.Taking b) = refl
flush_caches v (at.Filling b) = refl
flush_caches v (at.Settling b) = refl
flush_caches v (at.HandRegion b left) = refl
flush_caches v (at.HandPage b left) = refl
flush_caches v (at.WritingBack b) = refl
flush_caches v (at.Passing b) = refl
flush_caches v (at.Moving b) = refl
flush_caches v (at.Leaving b) = refl
flush_caches v (at.Freeing b) = refl
flush_caches v (at.TakingLast b) = refl
flush_caches v (at.FlushRegion b) = refl
flush_caches v (at.FlushPage b) = refl
flush_caches v (at.FlushWriting b) = refl
flush_caches v (at.FlushSettling b) = refl

pub flush_stands : (d : Disk) (v : CacheView) (p : CachePlace) (hand : ℕ) → CacheStands d v p hand → CacheStands d v (flushing p) hand
flush_stands d v at.Resting hand s = record {
  block_below = omega arith;
  hand_below = s.hand_below;
  cache = s.cache;
  entries = s.entries;
  dirty = s.dirty;
  pages = s.pages;
  apart = s.apart;
  at = λ n less. absurd (omega (arith, less));
}
flush_stands d v (at.Found b) hand s = record {
  block_below = omega arith;
  hand_below = s.hand_below;
  cache = s.cache;
  entries = s.entries;
  dirty = s.dirty;
  pages = s.pages;
  apart = s.apart;
  at = λ n less. absurd (omega (arith, less));
}
flush_stands d v (at.LookingRegion b) hand s = s
flush_stands d v (at.LookingPage b) hand s = s
flush_stands d v (at.Taking b) hand s = s
flush_stands d v (at.Filling b) hand s = s
flush_stands d v (at.Settling b) hand s = s
flush_stands d v (at.HandRegion b left) hand s = s
flush_stands d v (at.HandPage b left) hand s = s
flush_stands d v (at.WritingBack b) hand s = s
flush_stands d v (at.Passing b) hand s = s
flush_stands d v (at.Moving b) hand s = s
flush_stands d v (at.Leaving b) hand s = s
flush_stands d v (at.Freeing b) hand s = s
flush_stands d v (at.TakingLast b) hand s = s
flush_stands d v (at.FlushRegion b) hand s = s
flush_stands d v (at.FlushPage b) hand s = s
flush_stands d v (at.FlushWriting b) hand s = s
flush_stands d v (at.FlushSettling b) hand s = s

-- ---- what a fetch tells

-- there is more to do, or no page was to be had when it was asked for last
pub data FetchEnds (p : CachePlace) (word : ℕ) (tells : Told) : Type 0 where
  goes_on : tells ≡ told.Going → FetchEnds p word tells
  gives_up : (b : ℕ) → p ≡ at.TakingLast b → (word == 0) ≡ false → tells ≡ told.NoPage → FetchEnds p word tells

both : (t : Bool) (a b : CacheNext) → a.told ≡ told.Going → b.told ≡ told.Going → (if t then a else b).told ≡ told.Going
both true a b first second = first
both false a b first second = second

passes : (block hand left blocks : ℕ) → (pass block hand left blocks).told ≡ told.Going
passes block hand left blocks =
    let next = further hand blocks in
    let later = if next % NPTENTRIES == 0 then go_on (at.HandRegion block (left - blocks)) next else go_on (at.HandPage block (left - blocks)) next in
    both (nat_le left blocks) (go_on (at.TakingLast block) next) later refl
    (both (next % NPTENTRIES == 0) (go_on (at.HandRegion block (left - blocks)) next) (go_on (at.HandPage block (left - blocks)) next) refl refl)

weighs : (block hand word : ℕ) → (weigh block hand word).told ≡ told.Going
weighs block hand word =
    let later = if is_used word then go_on (at.Passing block) hand else go_on (at.Moving block) hand in
    both (is_written word) (go_on (at.WritingBack block) hand) later refl
    (both (is_used word) (go_on (at.Passing block) hand) (go_on (at.Moving block) hand) refl refl)

asked_last : (b hand word : ℕ) (t : Bool) → (word == 0) ≡ t →
    FetchEnds (at.TakingLast b) word
    (if t then go_on (at.Filling b) hand else record { state = record { place = at.Resting; hand = hand }; told = told.NoPage }).told
asked_last b hand word true test = goes_on refl
asked_last b hand word false test = gives_up b refl test refl

pub fetch_tells : (p : CachePlace) (hand word : ℕ) → IsFetching p → FetchEnds p word (next_by p hand word).told
fetch_tells at.Resting hand word fetches = absurd fetches
fetch_tells (at.Found b) hand word fetches = absurd fetches
fetch_tells (at.LookingRegion b) hand word fetches =
    goes_on (both (is_there word) (go_on (at.LookingPage b) hand) (go_on (at.Taking b) hand) refl refl)
fetch_tells (at.LookingPage b) hand word fetches = goes_on (both (is_there word) (go_on (at.Found b) hand) (go_on (at.Taking b) hand) refl refl)
fetch_tells (at.Taking b) hand word fetches =
    goes_on (both (word == 0) (go_on (at.Filling b) hand) (go_on (at.HandRegion b CACHE_BLOCKS) hand) refl refl)
fetch_tells (at.Filling b) hand word fetches = goes_on refl
fetch_tells (at.Settling b) hand word fetches = goes_on refl
fetch_tells (at.HandRegion b left) hand word fetches =
    let rest = rest_of_region hand in
    goes_on (both (is_there word) (go_on (at.HandPage b left) hand) (pass b hand left rest) refl (passes b hand left rest))
fetch_tells (at.HandPage b left) hand word fetches =
    goes_on (both (is_there word) (weigh b hand word) (pass b hand left 1) (weighs b hand word) (passes b hand left 1))
fetch_tells (at.WritingBack b) hand word fetches = goes_on refl
fetch_tells (at.Passing b) hand word fetches = goes_on refl
fetch_tells (at.Moving b) hand word fetches = goes_on (both (word == 0) (go_on (at.Leaving b) hand) (go_on (at.Freeing b) hand) refl refl)
fetch_tells (at.Leaving b) hand word fetches = goes_on refl
fetch_tells (at.Freeing b) hand word fetches = goes_on refl
fetch_tells (at.TakingLast b) hand word fetches = asked_last b hand word (word == 0) refl
fetch_tells (at.FlushRegion b) hand word fetches = absurd fetches
fetch_tells (at.FlushPage b) hand word fetches = absurd fetches
fetch_tells (at.FlushWriting b) hand word fetches = absurd fetches
fetch_tells (at.FlushSettling b) hand word fetches = absurd fetches

-- ---- where it rests

-- what tells that no page is dirty rests
abbrev RestsClean : CacheNext → Type 0
RestsClean next = next.told ≡ told.Clean → next.state.place ≡ at.Resting

rests_by : (t : Bool) (a b : CacheNext) → RestsClean a → RestsClean b → RestsClean (if t then a else b)
rests_by true a b first second = first
rests_by false a b first second = second

goes_unclean : (p : CachePlace) (hand : ℕ) → RestsClean (go_on p hand)
goes_unclean p hand is = absurd cc

rests_flushed : (block hand : ℕ) → RestsClean (flush_from block hand)
rests_flushed block hand =
    let later = if block % NPTENTRIES == 0 then go_on (at.FlushRegion block) hand else go_on (at.FlushPage block) hand in
    rests_by (nat_le CACHE_BLOCKS block) (record { state = record { place = at.Resting; hand = hand }; told = told.Clean }) later (λ is. refl)
    (rests_by (block % NPTENTRIES == 0) (go_on (at.FlushRegion block) hand) (go_on (at.FlushPage block) hand)
    (goes_unclean (at.FlushRegion block) hand) (goes_unclean (at.FlushPage block) hand))

rests_fetched : (p : CachePlace) (hand word : ℕ) → IsFetching p → RestsClean (next_by p hand word)
rests_fetched p hand word fetches = by_end (fetch_tells p hand word fetches)
  where
    by_end : FetchEnds p word (next_by p hand word).told → RestsClean (next_by p hand word)
    by_end (goes_on going) is = absurd (let contradiction : told.Going ≡ told.Clean = sym going ∙ is in cc)
    by_end (gives_up b place off none) is = absurd (let contradiction : told.NoPage ≡ told.Clean = sym none ∙ is in cc)

pub rests_clean : (p : CachePlace) (hand word : ℕ) → RestsClean (next_by p hand word)
rests_clean at.Resting hand word = λ is. refl
rests_clean (at.Found b) hand word = goes_unclean (at.Found b) hand
rests_clean (at.LookingRegion b) hand word = rests_fetched (at.LookingRegion b) hand word tt
rests_clean (at.LookingPage b) hand word = rests_fetched (at.LookingPage b) hand word tt
rests_clean (at.Taking b) hand word = rests_fetched (at.Taking b) hand word tt
rests_clean (at.Filling b) hand word = rests_fetched (at.Filling b) hand word tt
rests_clean (at.Settling b) hand word = rests_fetched (at.Settling b) hand word tt
rests_clean (at.HandRegion b left) hand word = rests_fetched (at.HandRegion b left) hand word tt
rests_clean (at.HandPage b left) hand word = rests_fetched (at.HandPage b left) hand word tt
rests_clean (at.WritingBack b) hand word = rests_fetched (at.WritingBack b) hand word tt
rests_clean (at.Passing b) hand word = rests_fetched (at.Passing b) hand word tt
rests_clean (at.Moving b) hand word = rests_fetched (at.Moving b) hand word tt
rests_clean (at.Leaving b) hand word = rests_fetched (at.Leaving b) hand word tt
rests_clean (at.Freeing b) hand word = rests_fetched (at.Freeing b) hand word tt
rests_clean (at.TakingLast b) hand word = rests_fetched (at.TakingLast b) hand word tt
rests_clean (at.FlushRegion b) hand word =
    rests_by (is_there word) (go_on (at.FlushPage b) hand) (flush_from (block_of b + rest_of_region b) hand) (goes_unclean (at.FlushPage b) hand)
    (rests_flushed (block_of b + rest_of_region b) hand)
rests_clean (at.FlushPage b) hand word =
    rests_by (is_there word && is_written word) (go_on (at.FlushWriting b) hand) (flush_from (block_of b + 1) hand)
    (goes_unclean (at.FlushWriting b) hand) (rests_flushed (block_of b + 1) hand)
rests_clean (at.FlushWriting b) hand word = goes_unclean (at.FlushSettling b) hand
rests_clean (at.FlushSettling b) hand word = rests_flushed (block_of b + 1) hand

-- and so does what has no page, where it was asked for last
pub rests_without : (p : CachePlace) (hand word b : ℕ) → p ≡ at.TakingLast b → (word == 0) ≡ false → (next_by p hand word).state.place ≡ at.Resting
rests_without p hand word b is off =
    (λ i. (next_by (is i) hand word).state.place)
    ∙ (λ i. (if off i then go_on (at.Filling b) hand
    else record { state = record { place = at.Resting; hand = hand }; told = told.NoPage }).state.place)

-- ---- what is asked

own_region : (b : ℕ) → IsOwnAsk (ask_region b)
own_region b = omega arith

own_entry : (b : ℕ) → IsOwnAsk (ask_entry b)
own_entry b = omega arith

own_block : (b : ℕ) → block_of b < CACHE_BLOCKS
own_block b = omega arith

pub own_ask : (p : CachePlace) (hand : ℕ) → IsOwnAsk (ask_by p hand)
own_ask at.Resting hand = own_region 0
own_ask (at.Found b) hand = own_region b
own_ask (at.LookingRegion b) hand = own_region b
own_ask (at.LookingPage b) hand = own_entry b
own_ask (at.Taking b) hand = refl
own_ask (at.Filling b) hand = own_block b
own_ask (at.Settling b) hand = refl
own_ask (at.HandRegion b left) hand = own_region hand
own_ask (at.HandPage b left) hand = own_entry hand
own_ask (at.WritingBack b) hand = own_block hand
own_ask (at.Passing b) hand = refl
own_ask (at.Moving b) hand = refl
own_ask (at.Leaving b) hand = refl
own_ask (at.Freeing b) hand = refl
own_ask (at.TakingLast b) hand = refl
own_ask (at.FlushRegion b) hand = own_region b
own_ask (at.FlushPage b) hand = own_entry b
own_ask (at.FlushWriting b) hand = own_block b
own_ask (at.FlushSettling b) hand = refl
