-- Each step of a flush leaves one call fewer, where no fetch is under way; and how many a flush is at most.
use Rattle.std.proofs.Common.{◌≡◌, ◌≢◌, ◌∙◌, ◌<◌, ◌≤◌, ◌+◌, ◌*◌, ◌-◌, ◌%◌, ◌==◌, ◌&&◌, inl, inr, ℕ, Bool, true, false, Option, Some, None}
use Rattle.std.proofs.Common.{refl, sym, ap, subst, arith, if◌then◌else◌}
use Rattle.std.specs.Prelude.{nat_le}
use Rattle.std.proofs.lemmas.Bool.{cases_eq, leb-false}
use Rattle.std.proofs.lemmas.Bool.Decides.{nat_tests}
use Rattle.jos_base.specs.declared.numbers.TheConstants.{NPTENTRIES}
use Rattle.jos_base.specs.KernelState.{KernelState}
use Rattle.jos_base.specs.Reach.{Entry}
use Rattle.lib_os.specs.declared.numbers.TheConstants.{CACHE_BLOCKS}
use Rattle.lib_os.specs.BlockCache.{is_dirty}
use Rattle.lib_os.specs.Disk.{Disk}
use Rattle.lib_os.specs.Rows.{EntryRow}
use Rattle.fs_blocks.specs.declared.place.CachePlace.{CachePlace}
use Rattle.fs_blocks.specs.declared.place.CachePlace.TheVariants as at
use Rattle.fs_blocks.specs.declared.plan.CacheNext.{CacheNext}
use Rattle.fs_blocks.specs.declared.plan.Told.TheVariants as told
use Rattle.fs_blocks.specs.CachePlans.{block_of, flush_from, flushing, go_on, is_there, is_written, next_by, rest_of_region}
use Rattle.fs_cache.specs.CacheStands.{CacheAt, CacheView, CacheStands}
use Rattle.fs_cache.specs.CacheSteps.{cache_state, calls_from, dirty_from, flush_calls, flush_calls_max, is_fetching, looks_from, row_in}
use Rattle.fs_cache.proofs.FallsCounts.{count-mono, count-off, count-same, count-under, kept_row}
use Rattle.fs_cache.proofs.Interfaces.{view_in}
use Rattle.fs_cache.proofs.MovesBearing.{not_both}
use Rattle.fs_cache.proofs.MovesGoing.{entry_there}
use Rattle.fs_cache.proofs.Views.{DoneAt, MappedTo, ReadEntry, ViewKept, Written, mapped, not_there, refused, written}

-- ---- dirty pages

and_first : (s t : Bool) → (s && t) ≡ true → s ≡ true
and_first true t is = refl
and_first false t is = is

and_second : (s t : Bool) → (s && t) ≡ true → t ≡ true
and_second true t is = is
and_second false t is = not_both false is refl

and_both : (s t : Bool) → s ≡ true → t ≡ true → (s && t) ≡ true
and_both s t first second = (λ i. first i && second i)

-- from a later block on there are no more
pub dirty_behind : (row : EntryRow) (b n : ℕ) → b ≤ n → dirty_from row n ≤ dirty_from row b
unfolding dirty_from
dirty_behind row b n le =
    count-mono CACHE_BLOCKS (λ k. nat_le n k && is_dirty (row k)) (λ k. nat_le b k && is_dirty (row k))
    (λ k is. (let past : nat_le n k ≡ true = and_first (nat_le n k) (is_dirty (row k)) is in
    and_both (nat_le b k) (is_dirty (row k)) (later k past) (and_second (nat_le n k) (is_dirty (row k)) is)))
  where
    later : (k : ℕ) → nat_le n k ≡ true → nat_le b k ≡ true
    later k past = grind (arith, nat_tests, le, past)

-- one of them is here
pub dirty_here : (row : EntryRow) (b : ℕ) → b < CACHE_BLOCKS → is_dirty (row b) ≡ true → dirty_from row b ≡ dirty_from row (b + 1) + 1
unfolding dirty_from
dirty_here row b below is =
    count-off CACHE_BLOCKS b (λ k. nat_le (b + 1) k && is_dirty (row k)) (λ k. nat_le b k && is_dirty (row k)) below
    (λ k ne. ap (λ (t : Bool). t && is_dirty (row k)) (same k ne)) (ap (λ (t : Bool). t && is_dirty (row b)) behind)
    (and_both (nat_le b b) (is_dirty (row b)) itself is)
  where
    same : (k : ℕ) → k ≢ b → nat_le (b + 1) k ≡ nat_le b k
    same k ne = grind (arith, nat_tests, ne)

    behind : nat_le (b + 1) b ≡ false
    behind = grind (arith, nat_tests)

    itself : nat_le b b ≡ true
    itself = grind (arith, nat_tests)

-- the page of a block before them does not count
pub dirty_beside : (v w : EntryRow) (b : ℕ) → ((m : ℕ) → m ≢ b → w m ≡ v m) → dirty_from w (b + 1) ≡ dirty_from v (b + 1)
unfolding dirty_from
dirty_beside v w b rest =
    count-same CACHE_BLOCKS (λ k. nat_le (b + 1) k && is_dirty (w k)) (λ k. nat_le (b + 1) k && is_dirty (v k))
    (λ k. (elim (cases_eq k b) [
      | inl same ↦
          let off : nat_le (b + 1) k ≡ false = grind (arith, nat_tests, same) in
          (λ i. off i && is_dirty (w k)) ∙ sym (λ i. off i && is_dirty (v k))
      | inr ne ↦ ap (λ (o : Option Entry). nat_le (b + 1) k && is_dirty o) (rest k ne)
    ]))

pub dirty_most : (row : EntryRow) (b m : ℕ) → ((n : ℕ) → is_dirty (row n) ≡ true → n < m) → dirty_from row b ≤ m
unfolding dirty_from
dirty_most row b m of_disk =
    count-under CACHE_BLOCKS m (λ k. nat_le b k && is_dirty (row k)) (λ k is. of_disk k (and_second (nat_le b k) (is_dirty (row k)) is))

-- ---- what is looked at

looks_next : (b : ℕ) → b < CACHE_BLOCKS → looks_from (b + 1) + 1 ≤ looks_from b
looks_next b below = omega (arith, below)

looks_first : (b : ℕ) → b < CACHE_BLOCKS → b % NPTENTRIES ≡ 0 → looks_from (b + 1) + 2 ≤ looks_from b
looks_first b below first = omega (arith, below, first)

looks_behind : (b n : ℕ) → b ≤ n → looks_from n ≤ looks_from b
looks_behind b n le = omega (arith, le)

behind : (row : EntryRow) (b n : ℕ) → b ≤ n → calls_from row n ≤ calls_from row b
behind row b n le = let looks = looks_behind b n le in let pages = dirty_behind row b n le in omega (arith, looks, pages)

-- ---- a step of a flush

-- where it goes on from a block
record GoesFrom (row : EntryRow) (n : ℕ) (next : CacheNext) : Type 0 where
  none : is_fetching next.state.place ≡ false
  calls : flush_calls (flushing next.state.place) row ≤ calls_from row n

from_calls : (row : EntryRow) (n hand : ℕ) → ((flush_from n hand).told ≡ told.Clean → ⊥) → GoesFrom row n (flush_from n hand)
from_calls row n hand more = by_tests (nat_le CACHE_BLOCKS n) (n % NPTENTRIES == 0) refl refl more
  where
    goes : Bool → Bool → CacheNext
    goes over first =
        if over then record { state = record { place = at.Resting; hand = hand }; told = told.Clean }
        else if first then go_on (at.FlushRegion n) hand
        else go_on (at.FlushPage n) hand

    within : (a b c : ℕ) → a ≤ b → a + c ≤ b + c
    within a b c le = omega (arith, le)

    by_tests : (over first : Bool) → nat_le CACHE_BLOCKS n ≡ over → (n % NPTENTRIES == 0) ≡ first → ((goes over first).told ≡ told.Clean → ⊥) →
        GoesFrom row n (goes over first)
    by_tests true first test region more = absurd (more refl)
    by_tests false true test region more =
        let first : n % NPTENTRIES ≡ 0 = grind (arith, nat_tests, region) in record {
          none = refl;
          calls = within (looks_from (n + 1) + 2) (looks_from n) (2 * dirty_from row n) (looks_first n (leb-false CACHE_BLOCKS n test) first);
        }
    by_tests false false test region more = record {
      none = refl;
      calls = within (looks_from (n + 1) + 1) (looks_from n) (2 * dirty_from row n) (looks_next n (leb-false CACHE_BLOCKS n test));
    }

-- there is one call fewer
abbrev pub FewerLeft : CachePlace → EntryRow → CacheNext → EntryRow → Type 0
FewerLeft place row next after = (is_fetching next.state.place ≡ false) × (flush_calls (flushing next.state.place) after < flush_calls place row)

-- a block's number is below those behind it
ahead : (b k : ℕ) → b < CACHE_BLOCKS → 1 ≤ k → b + 1 ≤ block_of b + k
ahead b k below some = omega (arith, below, some)

-- it goes on behind this block, from there on
from_falls : (place : CachePlace) (v w : EntryRow) (b n hand : ℕ) → b + 1 ≤ n → calls_from w (b + 1) < flush_calls place v →
    ((flush_from n hand).told ≡ told.Clean → ⊥) → FewerLeft place v (flush_from n hand) w
from_falls place v w b n hand le lt more =
    let goes = from_calls w n hand more in (
      goes.none,
      within (flush_calls (flushing (flush_from n hand).state.place) w) (calls_from w n) (calls_from w (b + 1)) (flush_calls place v)
          goes.calls (behind w (b + 1) n le) lt,
    )
  where
    within : (a b c d : ℕ) → a ≤ b → b ≤ c → c < d → a < d
    within a b c d one two three = omega (arith, one, two, three)

one_more : (a b k : ℕ) → a ≤ b → 0 < k → a < b + k
one_more a b k le some = omega (arith, le, some)

-- the page here, and those behind it
from_here : (row : EntryRow) (b k : ℕ) → 0 < k → calls_from row (b + 1) < looks_from (b + 1) + k + 2 * dirty_from row b
from_here row b k some =
    let pages = dirty_behind row b (b + 1) (omega arith) in
    within (looks_from (b + 1)) (dirty_from row (b + 1)) (dirty_from row b) pages
  where
    within : (l x y : ℕ) → x ≤ y → l + 2 * x < l + k + 2 * y
    within l x y le = omega (arith, some, le)

flush_region : (v w : CacheView) (b hand word : ℕ) → b < CACHE_BLOCKS → ViewKept v w → let next = next_by (at.FlushRegion b) hand word in
    (next.told ≡ told.Clean → ⊥) → FewerLeft (at.FlushRegion b) v.row next w.row
flush_region v w b hand word below kept =
    subst (λ (row : EntryRow). ((next_by (at.FlushRegion b) hand word).told ≡ told.Clean → ⊥) →
    FewerLeft (at.FlushRegion b) v.row (next_by (at.FlushRegion b) hand word) row) (sym (kept_row v w kept))
    (by_test (is_there word))
  where
    rest : (n : ℕ) → 1 ≤ NPTENTRIES - n % NPTENTRIES
    rest n = omega arith

    less : (l k : ℕ) → l + 1 + k < l + 2 + k
    less l k = omega arith

    goes : Bool → CacheNext
    goes t = if t then go_on (at.FlushPage b) hand else flush_from (block_of b + rest_of_region b) hand

    by_test : (t : Bool) → ((goes t).told ≡ told.Clean → ⊥) → FewerLeft (at.FlushRegion b) v.row (goes t) v.row
    by_test true more = (refl, less (looks_from (b + 1)) (2 * dirty_from v.row b))
    by_test false more =
        from_falls (at.FlushRegion b) v.row v.row b (block_of b + rest_of_region b) hand (ahead b (rest_of_region b) below (rest (block_of b)))
        (from_here v.row b 2 (omega arith)) more

flush_page : (v w : CacheView) (b hand word : ℕ) → b < CACHE_BLOCKS → ReadEntry v w b word → let next = next_by (at.FlushPage b) hand word in
    (next.told ≡ told.Clean → ⊥) → FewerLeft (at.FlushPage b) v.row next w.row
flush_page v w b hand word below read =
    subst (λ (row : EntryRow). ((next_by (at.FlushPage b) hand word).told ≡ told.Clean → ⊥) →
    FewerLeft (at.FlushPage b) v.row (next_by (at.FlushPage b) hand word) row) (sym (kept_row v w read.kept))
    (by_test (is_there word && is_written word) refl)
  where
    dirty : (is_there word && is_written word) ≡ true → is_dirty (v.row b) ≡ true
    dirty is =
        let there = entry_there v w b word read (and_first (is_there word) (is_written word) is) in
        let told = read.some there.0 there.1 in
        ap (λ (o : Option Entry). is_dirty o) there.1 ∙ sym told.1 ∙ and_second (is_there word) (is_written word) is

    less : (l x y : ℕ) → y ≡ x + 1 → l + 2 * x + 2 < l + 1 + 2 * y
    less l x y is = omega (arith, is)

    goes : Bool → CacheNext
    goes t = if t then go_on (at.FlushWriting b) hand else flush_from (block_of b + 1) hand

    by_test : (t : Bool) → (is_there word && is_written word) ≡ t → ((goes t).told ≡ told.Clean → ⊥) →
        FewerLeft (at.FlushPage b) v.row (goes t) v.row
    by_test true is more =
        (refl, less (looks_from (b + 1)) (dirty_from v.row (b + 1)) (dirty_from v.row b) (dirty_here v.row b below (dirty is)))
    by_test false is more =
        from_falls (at.FlushPage b) v.row v.row b (block_of b + 1) hand (ahead b 1 below (omega arith)) (from_here v.row b 1 (omega arith)) more

-- the page of the block alone has another entry
beside_calls : (v w : EntryRow) (b : ℕ) → ((m : ℕ) → m ≢ b → w m ≡ v m) → calls_from w (b + 1) ≡ calls_from v (b + 1)
beside_calls v w b rest = ap (λ (k : ℕ). looks_from (b + 1) + 2 * k) (dirty_beside v w b rest)

written_rest : (d e : Disk) (v w : CacheView) (b : ℕ) → Written d e v w b → (m : ℕ) → m ≢ b → w.row m ≡ v.row m
written_rest d e v w b (written x y stands few disk set same entry bits used bytes) = set.rest
written_rest d e v w b (not_there past alike k) = λ m ne. k.row m

mapped_rest : (v w : CacheView) (b word : ℕ) → MappedTo v w b b word → (m : ℕ) → m ≢ b → w.row m ≡ v.row m
mapped_rest v w b word (mapped e is zero set bytes) = set.rest
mapped_rest v w b word (refused apart other k) = absurd (apart refl)

flush_writing : (v w : EntryRow) (b hand word : ℕ) → ((m : ℕ) → m ≢ b → w m ≡ v m) →
    FewerLeft (at.FlushWriting b) v (next_by (at.FlushWriting b) hand word) w
flush_writing v w b hand word rest = (refl, less (calls_from w (b + 1)) (calls_from v (b + 1)) (beside_calls v w b rest))
  where
    less : (x y : ℕ) → x ≡ y → x + 1 < y + 2
    less x y is = omega (arith, is)

flush_settling : (v w : EntryRow) (b hand word : ℕ) → b < CACHE_BLOCKS → ((m : ℕ) → m ≢ b → w m ≡ v m) →
    let next = next_by (at.FlushSettling b) hand word in
    (next.told ≡ told.Clean → ⊥) → FewerLeft (at.FlushSettling b) v next w
flush_settling v w b hand word below rest more =
    from_falls (at.FlushSettling b) v w b (block_of b + 1) hand (ahead b 1 below (omega arith))
    (less (calls_from w (b + 1)) (calls_from v (b + 1)) (beside_calls v w b rest)) more
  where
    less : (x y : ℕ) → x ≡ y → x < y + 1
    less x y is = omega (arith, is)

fetches : {A : Type 0} → true ≡ false → A
fetches off = absurd (cc off)

-- at each place
pub flush_calls_fall : (d e : Disk) (v w : CacheView) (place : CachePlace) (hand word : ℕ) → CacheStands d v place hand →
    DoneAt place hand d e v w word → is_fetching place ≡ false → let next = next_by place hand word in
    (next.told ≡ told.Clean → ⊥) → FewerLeft place v.row next w.row
flush_calls_fall d e v w at.Resting hand word stands done off more = absurd done
flush_calls_fall d e v w (at.Found b) hand word stands done off more = absurd done
flush_calls_fall d e v w (at.FlushRegion b) hand word stands done off more = flush_region v w b hand word stands.block_below done.0.kept more
flush_calls_fall d e v w (at.FlushPage b) hand word stands done off more = flush_page v w b hand word stands.block_below done.0 more
flush_calls_fall d e v w (at.FlushWriting b) hand word stands done off more =
    flush_writing v.row w.row b hand word (written_rest d e v w b done)
flush_calls_fall d e v w (at.FlushSettling b) hand word stands done off more =
    flush_settling v.row w.row b hand word stands.block_below (mapped_rest v w b word done.0) more
flush_calls_fall d e v w (at.LookingRegion b) hand word stands done off more = fetches off
flush_calls_fall d e v w (at.LookingPage b) hand word stands done off more = fetches off
flush_calls_fall d e v w (at.Taking b) hand word stands done off more = fetches off
flush_calls_fall d e v w (at.Filling b) hand word stands done off more = fetches off
flush_calls_fall d e v w (at.Settling b) hand word stands done off more = fetches off
flush_calls_fall d e v w (at.HandRegion b left) hand word stands done off more = fetches off
flush_calls_fall d e v w (at.HandPage b left) hand word stands done off more = fetches off
flush_calls_fall d e v w (at.WritingBack b) hand word stands done off more = fetches off
flush_calls_fall d e v w (at.Passing b) hand word stands done off more = fetches off
flush_calls_fall d e v w (at.Moving b) hand word stands done off more = fetches off
flush_calls_fall d e v w (at.Leaving b) hand word stands done off more = fetches off
flush_calls_fall d e v w (at.Freeing b) hand word stands done off more = fetches off
flush_calls_fall d e v w (at.TakingLast b) hand word stands done off more = fetches off

-- where it begins, no fetch is under way still
pub flushing_fetches_none : (place : CachePlace) → is_fetching place ≡ false → is_fetching (flushing place) ≡ false
flushing_fetches_none at.Resting off = refl
flushing_fetches_none (at.Found b) off = refl
flushing_fetches_none _ off = off

-- ---- at most

most_at : (row : EntryRow) (m : ℕ) → ((b : ℕ) → dirty_from row b ≤ m) → (place : CachePlace) → flush_calls place row ≤ flush_calls_max m
most_at row m dirty (at.FlushRegion b) = let d = dirty b in within (dirty_from row b) d
  where
    within : (x : ℕ) → x ≤ m → looks_from (b + 1) + 2 + 2 * x ≤ flush_calls_max m
    within x le = omega (arith, le)
most_at row m dirty (at.FlushPage b) = within (dirty_from row b) (dirty b)
  where
    within : (x : ℕ) → x ≤ m → looks_from (b + 1) + 1 + 2 * x ≤ flush_calls_max m
    within x le = omega (arith, le)
most_at row m dirty (at.FlushWriting b) = within (dirty_from row (b + 1)) (dirty (b + 1))
  where
    within : (x : ℕ) → x ≤ m → looks_from (b + 1) + 2 * x + 2 ≤ flush_calls_max m
    within x le = omega (arith, le)
most_at row m dirty (at.FlushSettling b) = within (dirty_from row (b + 1)) (dirty (b + 1))
  where
    within : (x : ℕ) → x ≤ m → looks_from (b + 1) + 2 * x + 1 ≤ flush_calls_max m
    within x le = omega (arith, le)
most_at row m dirty _ = omega arith

dirty_of_disk : (d : Disk) (v : CacheView) (place : CachePlace) (hand : ℕ) → CacheStands d v place hand → (n : ℕ) → is_dirty (v.row n) ≡ true →
    n < d.count
dirty_of_disk d v place hand h n on = by_entry (v.row n) refl on
  where
    by_entry : (o : Option Entry) → v.row n ≡ o → is_dirty o ≡ true → n < d.count
    by_entry None none on = not_both false on refl
    by_entry (Some e) is on = h.dirty n e is on

-- a flush of what is cached is no more calls than so many by the disk's blocks
pub flush_calls_within : (d : Disk) (s : KernelState) (n : ℕ) → CacheAt d s n →
    flush_calls (flushing (cache_state s n).place) (row_in s n) ≤ flush_calls_max d.count
flush_calls_within d s n h =
    most_at (row_in s n) d.count
    (λ b. dirty_most (row_in s n) b d.count (dirty_of_disk d (view_in s n) (cache_state s n).place (cache_state s n).hand h.stands))
    (flushing (cache_state s n).place)
