-- The calls of a step of a job: those for the block that it wants, of which none are left where that is the block that was found last, and five at
-- most else; and its own.
use Rattle.std.proofs.Common.{◌≡◌, ◌∙◌, ◌<◌, ◌≤◌, ◌+◌, ◌*◌, ◌/◌, inl, ℕ, Bool, true, false, Option, Some, None}
use Rattle.std.proofs.Common.{refl, sym, ap, subst, arith, if◌then◌else◌}
use Rattle.std.proofs.lemmas.Bool.{false≢true}
use Rattle.std.proofs.lemmas.Bool.Decides.{nat_tests}
use Rattle.fs_layout.specs.declared.numbers.TheConstants.{BLKSIZE, MAXBLOCKS}
use Rattle.fs_blocks.specs.declared.place.CachePlace.{CachePlace}
use Rattle.fs_blocks.specs.declared.place.CachePlace.TheVariants as cache
use Rattle.fs_blocks.specs.CachePlans.{fetching}
use Rattle.fs_cache.specs.CacheSteps.{block_calls, fetch_calls, is_fetching, is_found}
use Rattle.fs_cache.proofs.NearFalls.{calls-most}
use Rattle.fs_jobs.specs.declared.asks.TreeAsk.{TreeAsk}
use Rattle.fs_jobs.specs.declared.asks.TreeAsk.TheVariants as ask
use Rattle.fs_jobs.specs.declared.place.TreeState.{TreeState}
use Rattle.fs_runs.specs.JobCalls.{calls_at, calls_for, found_behind, is_same}
use Rattle.fs_runs.specs.TreePlans.{ask_at}
use Rattle.fs_runs.specs.TreeRuns.{Ends, FewerCalls, IsInside, Memory, at_once, calls_of, later}
use Rattle.fs_tree.specs.TreeSteps.{AccessReady, HasFound, access_calls, block_wanted, is_of_disk}
use Rattle.fs_seen.specs.ServerFew.{found_for, found_in}

-- ---- the calls of a run

at-least : (found : Option ℕ) (block : ℕ) → 1 ≤ calls_at found block
at-least found block = by (is_same found block)
  where
    by : (b : Bool) → 1 ≤ (if b then 1 else 6)
    by true = omega arith
    by false = omega arith

at-most : (found : Option ℕ) (block : ℕ) → calls_at found block ≤ 6
at-most found block = by (is_same found block)
  where
    by : (b : Bool) → (if b then 1 else 6) ≤ 6
    by true = omega arith
    by false = omega arith

-- What is found last makes a difference of five calls, and none where nothing is asked of the disk.
abbrev WithinFive : ℕ → ℕ → Type 0
WithinFive x y = (x ≤ y) × (y ≤ x + 5)

disk-five : (found : Option ℕ) (block r : ℕ) → WithinFive (calls_at found block + r) (calls_at None block + r)
disk-five found block r = by (calls_at found block) (at-least found block) (at-most found block)
  where
    by : (x : ℕ) → 1 ≤ x → x ≤ 6 → WithinFive (x + r) (6 + r)
    by x least most = (omega (arith, most), omega (arith, least))

page-five : (x y : ℕ) → WithinFive x y → WithinFive (1 + x) (1 + y)
page-five x y both = let low = both.0 in let high = both.1 in (omega (arith, low), omega (arith, high))

step-five : (found : Option ℕ) (it : TreeAsk) (rest : Option ℕ → ℕ) → WithinFive (rest found) (rest None) →
    WithinFive (calls_for found it + rest (found_behind found it)) (calls_for None it + rest (found_behind None it))
step-five found (ask.Load at) rest both = disk-five found (at / BLKSIZE) (rest (Some (at / BLKSIZE)))
step-five found (ask.LoadByte at) rest both = disk-five found (at / BLKSIZE) (rest (Some (at / BLKSIZE)))
step-five found (ask.Store at word) rest both = disk-five found (at / BLKSIZE) (rest (Some (at / BLKSIZE)))
step-five found (ask.StoreByte at byte) rest both = disk-five found (at / BLKSIZE) (rest (Some (at / BLKSIZE)))
step-five found (ask.Request at) rest both = page-five (rest found) (rest None) both
step-five found (ask.HandBack at byte) rest both = page-five (rest found) (rest None) both

-- a run's calls by its first step
pub record Head (count : ℕ) (it : TreeAsk) (calls : Option ℕ → ℕ) : Type 0 where
  pub inside : IsInside count it
  pub behind : Option ℕ → ℕ
  pub is : FewerCalls it calls behind

nothing : (x : ℕ) → x ≡ x + 0
nothing x = omega arith

pub run_head : {count answer : ℕ} {after : Memory} {left : ℕ} {job : TreeState} {m : Memory} (ends : Ends count answer after left job m) →
    Head count (ask_at job) (λ found. calls_of found ends)
unfolding calls_of
run_head (at_once state m bounded inside tells leaves) =
    record { inside = inside; behind = λ found. 0; is = λ found. nothing (calls_for found (ask_at state)) }
run_head (later n state next m bounded inside goes rest) =
    record { inside = inside; behind = λ found. calls_of found rest; is = λ found. refl }

pub run_five : {count answer : ℕ} {after : Memory} {left : ℕ} {job : TreeState} {m : Memory} (found : Option ℕ)
    (ends : Ends count answer after left job m) → WithinFive (calls_of found ends) (calls_of None ends)
unfolding calls_of
run_five found (at_once state m bounded inside tells leaves) =
    plain (calls_for found (ask_at state)) (calls_for None (ask_at state))
    (step-five found (ask_at state) (λ f. 0) (omega arith, omega arith))
  where
    plain : (x y : ℕ) → WithinFive (x + 0) (y + 0) → WithinFive x y
    plain x y both = let low = both.0 in let high = both.1 in (omega (arith, low), omega (arith, high))
run_five found (later n state next m bounded inside goes rest) =
    step-five found (ask_at state) (λ f. calls_of f rest) (run_five found rest)

-- none fewer where nothing is known to be found behind a step
pub rest_most : (it : TreeAsk) (calls behind : Option ℕ → ℕ) → FewerCalls it calls behind → ((found : Option ℕ) → behind None ≤ behind found + 5) →
    behind None ≤ calls None
rest_most it calls behind fewer five = by it (fewer None)
  where
    of_disk : (block : ℕ) → calls None ≡ 6 + behind (Some block) → behind None ≤ calls None
    of_disk block is = let within = five (Some block) in omega (arith, is, within)

    of_page : calls None ≡ 1 + behind None → behind None ≤ calls None
    of_page is = omega (arith, is)

    by : (it : TreeAsk) → calls None ≡ calls_for None it + behind (found_behind None it) → behind None ≤ calls None
    by (ask.Load at) is = of_disk (at / BLKSIZE) is
    by (ask.LoadByte at) is = of_disk (at / BLKSIZE) is
    by (ask.Store at word) is = of_disk (at / BLKSIZE) is
    by (ask.StoreByte at byte) is = of_disk (at / BLKSIZE) is
    by (ask.Request at) is = of_page is
    by (ask.HandBack at byte) is = of_page is

-- ---- over the cache

-- what lies inside a disk is in the block that is wanted
wanted_is : (count at : ℕ) → count ≤ MAXBLOCKS → at < BLKSIZE * count → block_wanted at ≡ at / BLKSIZE
wanted_is count at few inside = omega (arith, few, inside)

word_inside : (count at : ℕ) → at + 4 ≤ BLKSIZE * count → at < BLKSIZE * count
word_inside count at inside = omega (arith, inside)

-- the block that the cache found is that of the run
same_found : (block : ℕ) (place : CachePlace) → is_same (found_in place) block ≡ is_found block place
same_found block (cache.Found other) = refl
same_found block _ = refl

itself : (block : ℕ) → is_same (Some block) block ≡ true
itself block = grind (arith, nat_tests)

block_most : (block : ℕ) (place : CachePlace) (r : ℕ) →
    block_calls block place + (calls_at (Some block) block + r) ≤ calls_at (found_in place) block + r
block_most block place r =
    subst (λ (t : Bool). block_calls block place + (calls_at (Some block) block + r) ≤ (if t then 1 else 6) + r) (sym (same_found block place))
    (by (is_found block place) (is_same (Some block) block) (fetch_calls (fetching place block)) (itself block) (calls-most block place))
  where
    by : (t u : Bool) (x : ℕ) → u ≡ true → (if t then 0 else x) ≤ 5 → (if t then 0 else x) + ((if u then 1 else 6) + r) ≤ (if t then 1 else 6) + r
    by true true x is five = omega arith
    by false true x is five = omega (arith, five)
    by t false x is five = absurd (false≢true is)

-- what is wanted for a step is no more than what a run counts for it
disk_most : (at : ℕ) (place : CachePlace) (calls behind : Option ℕ → ℕ) → block_wanted at ≡ at / BLKSIZE →
    ((found : Option ℕ) → calls found ≡ calls_at found (at / BLKSIZE) + behind (Some (at / BLKSIZE))) →
    block_calls (block_wanted at) place + calls (Some (block_wanted at)) ≤ calls (found_in place)
disk_most at place calls behind is fewer =
    subst (λ (b : ℕ). block_calls b place + calls (Some b) ≤ calls (found_in place)) (sym is)
    (sum (block_calls (at / BLKSIZE) place) (calls_at (Some (at / BLKSIZE)) (at / BLKSIZE)) (calls_at (found_in place) (at / BLKSIZE))
    (behind (Some (at / BLKSIZE))) (calls (Some (at / BLKSIZE))) (calls (found_in place)) (fewer (Some (at / BLKSIZE))) (fewer (found_in place))
    (block_most (at / BLKSIZE) place (behind (Some (at / BLKSIZE)))))
  where
    sum : (a b c r x y : ℕ) → x ≡ b + r → y ≡ c + r → a + (b + r) ≤ c + r → a + x ≤ y
    sum a b c r x y one two le = omega (arith, one, two, le)

pub access_most : (count : ℕ) (it : TreeAsk) (place : CachePlace) (calls : Option ℕ → ℕ) → count ≤ MAXBLOCKS → Head count it calls →
    access_calls it place + calls (found_for it place) ≤ calls (found_in place)
access_most count (ask.Load at) place calls few head =
    disk_most at place calls head.behind (wanted_is count at few (word_inside count at head.inside.0)) head.is
access_most count (ask.LoadByte at) place calls few head = disk_most at place calls head.behind (wanted_is count at few head.inside) head.is
access_most count (ask.Store at word) place calls few head =
    disk_most at place calls head.behind (wanted_is count at few (word_inside count at head.inside.0)) head.is
access_most count (ask.StoreByte at byte) place calls few head = disk_most at place calls head.behind (wanted_is count at few head.inside) head.is
access_most count (ask.Request at) place calls few head = omega arith
access_most count (ask.HandBack at byte) place calls few head = omega arith

-- where the block is found a step is one call at least
disk_least : (at : ℕ) (place : CachePlace) (calls behind : Option ℕ → ℕ) → block_wanted at ≡ at / BLKSIZE →
    ((found : Option ℕ) → calls found ≡ calls_at found (at / BLKSIZE) + behind (Some (at / BLKSIZE))) →
    place ≡ cache.Found (block_wanted at) → behind (found_in place) < block_calls (block_wanted at) place + calls (Some (block_wanted at))
disk_least at place calls behind is fewer found =
    subst (λ (f : Option ℕ). behind f < block_calls (block_wanted at) place + calls (Some (block_wanted at))) (sym found_is)
    (sum (block_calls (block_wanted at) place) (calls_at (Some (block_wanted at)) (at / BLKSIZE)) (behind (Some (at / BLKSIZE)))
    (calls (Some (block_wanted at))) (fewer (Some (block_wanted at))) (at-least (Some (block_wanted at)) (at / BLKSIZE)))
  where
    found_is : found_in place ≡ Some (at / BLKSIZE)
    found_is = ap found_in found ∙ (λ i. Some (is i))

    sum : (a b r x : ℕ) → x ≡ b + r → 1 ≤ b → r < a + x
    sum a b r x one least = omega (arith, one, least)

pub access_least : (count : ℕ) (it : TreeAsk) (place : CachePlace) (calls behind : Option ℕ → ℕ) → count ≤ MAXBLOCKS → IsInside count it →
    FewerCalls it calls behind → HasFound it place → behind (found_in place) < access_calls it place + calls (found_for it place)
access_least count (ask.Load at) place calls behind few inside fewer found =
    disk_least at place calls behind (wanted_is count at few (word_inside count at inside.0)) fewer found
access_least count (ask.LoadByte at) place calls behind few inside fewer found =
    disk_least at place calls behind (wanted_is count at few inside) fewer found
access_least count (ask.Store at word) place calls behind few inside fewer found =
    disk_least at place calls behind (wanted_is count at few (word_inside count at inside.0)) fewer found
access_least count (ask.StoreByte at byte) place calls behind few inside fewer found =
    disk_least at place calls behind (wanted_is count at few inside) fewer found
access_least count (ask.Request at) place calls behind few inside fewer found = let is = fewer (found_in place) in omega (arith, is)
access_least count (ask.HandBack at byte) place calls behind few inside fewer found = let is = fewer (found_in place) in omega (arith, is)

-- ---- what a job asks

-- where no block is fetched any may be wanted
pub access_ready : (it : TreeAsk) (place : CachePlace) → is_fetching place ≡ false → AccessReady it place
access_ready (ask.Load at) place none = inl none
access_ready (ask.LoadByte at) place none = inl none
access_ready (ask.Store at word) place none = inl none
access_ready (ask.StoreByte at byte) place none = inl none
access_ready (ask.Request at) place none = none
access_ready (ask.HandBack at byte) place none = none

-- the block of the disk that is wanted is the same wherever the cache stands
pub wanted_same : (it : TreeAsk) (place other : CachePlace) → is_of_disk it ≡ true → found_for it place ≡ found_for it other
wanted_same (ask.Load at) place other of = refl
wanted_same (ask.LoadByte at) place other of = refl
wanted_same (ask.Store at word) place other of = refl
wanted_same (ask.StoreByte at byte) place other of = refl
wanted_same (ask.Request at) place other of = absurd (false≢true of)
wanted_same (ask.HandBack at byte) place other of = absurd (false≢true of)
