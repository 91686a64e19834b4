-- At each place of a fetch the number of the steps that may come is less behind the call than before it.
use Rattle.std.proofs.Common.{◌≡◌, ◌∙◌, ◌<◌, ◌≤◌, ◌+◌, ◌*◌, ◌-◌, ◌%◌, ◌==◌, ℕ, Bool, true, false, is_some, Option, Some}
use Rattle.std.proofs.Common.{refl, sym, ap, subst, arith, if◌then◌else◌}
use Rattle.std.specs.Prelude.{nat_le}
use Rattle.std.proofs.lemmas.Bool.{leb-false}
use Rattle.jos_base.specs.declared.numbers.TheConstants.{NPTENTRIES}
use Rattle.jos_base.specs.Reach.{Entry}
use Rattle.lib_os.specs.declared.numbers.TheConstants.{CACHE_BLOCKS}
use Rattle.lib_os.specs.Disk.{Disk}
use Rattle.lib_os.specs.Rows.{EntryRow}
use Rattle.fs_blocks.specs.declared.place.CachePlace.{CachePlace}
use Rattle.fs_blocks.specs.declared.place.CachePlace.TheVariants as at
use Rattle.fs_blocks.specs.declared.plan.CacheNext.{CacheNext}
use Rattle.fs_blocks.specs.declared.plan.Told.TheVariants as told
use Rattle.fs_blocks.specs.CachePlans.{block_of, further, go_on, is_there, is_used, is_written, next_by, page_perm, pass, rest_of_region, weigh}
use Rattle.fs_cache.specs.CacheStands.{CacheView, was_used}
use Rattle.fs_cache.specs.CacheSteps.{cached_count, used_count, fetch_left, giving_left, taking_left, steps_of_page, steps_of_round}
use Rattle.fs_cache.proofs.Views.{MappedTo, ReadEntry, ReadRegion, TookPage, Unmapped, ViewKept, Written, left_by}
use Rattle.fs_cache.proofs.FallsCounts.{cached_most, kept_row, set_cached, set_none, set_unused, set_used, used_most}
use Rattle.fs_cache.proofs.FallsNumbers.{above, by_left, less, page_less, passed_less, round_begun, round_less, small, small_two}

-- the number by which a fetch falls, from one place to the next
abbrev pub FetchLess : CachePlace → CacheView → CachePlace → CacheView → Type 0
FetchLess place v next w = left_by fetch_left next w < left_by fetch_left place v

-- whatever is cached
abbrev pub LessAlways : CachePlace → CachePlace → Type 0
LessAlways place next = (c u : ℕ) → u ≤ c → fetch_left next c u < fetch_left place c u

kept : (place next : CachePlace) (v w : CacheView) → ViewKept v w → LessAlways place next → FetchLess place v next w
kept place next v w same falls =
    subst (λ (row : EntryRow). fetch_left next (cached_count row) (used_count row) < left_by fetch_left place v) (sym (kept_row v w same))
    (falls (cached_count v.row) (used_count v.row) (used_most v.row))

-- what is cached, and was used, is as much as before
counted : (place next : CachePlace) (v w : CacheView) → cached_count w.row ≡ cached_count v.row → used_count w.row ≡ used_count v.row →
    LessAlways place next → FetchLess place v next w
counted place next v w cached used falls =
    let same : left_by fetch_left next w ≡ left_by fetch_left next v = λ i. fetch_left next (cached i) (used i) in
    subst (λ (n : ℕ). n < left_by fetch_left place v) (sym same) (falls (cached_count v.row) (used_count v.row) (used_most v.row))

-- a word that is 0 is no other
not_both : (word : ℕ) → word ≡ 0 → (word == 0) ≡ false → ⊥
not_both word zero not_zero = let contradiction : true ≡ false = sym (ap (λ (k : ℕ). k == 0) zero) ∙ not_zero in absurd cc

-- ---- the block is looked up

pub looking_region : (v w : CacheView) (b hand word : ℕ) → ReadRegion v w b word →
    FetchLess (at.LookingRegion b) v (next_by (at.LookingRegion b) hand word).state.place w
looking_region v w b hand word done = by_test (is_there word)
  where
    by_test : (t : Bool) → FetchLess (at.LookingRegion b) v (if t then go_on (at.LookingPage b) hand else go_on (at.Taking b) hand).state.place w
    by_test true = kept (at.LookingRegion b) (at.LookingPage b) v w done.kept (λ c u most. less (taking_left c) 1 2 (omega arith))
    by_test false = kept (at.LookingRegion b) (at.Taking b) v w done.kept (λ c u most. above (taking_left c) 2 (omega arith))

pub looking_page : (v w : CacheView) (b hand word : ℕ) → ReadEntry v w b word →
    FetchLess (at.LookingPage b) v (next_by (at.LookingPage b) hand word).state.place w
looking_page v w b hand word done = by_test (is_there word)
  where
    by_test : (t : Bool) → FetchLess (at.LookingPage b) v (if t then go_on (at.Found b) hand else go_on (at.Taking b) hand).state.place w
    by_test true = kept (at.LookingPage b) (at.Found b) v w done.kept
        (λ c u most. small_two (c * steps_of_page + c * steps_of_round) 0 steps_of_round 1 (omega arith))
    by_test false = kept (at.LookingPage b) (at.Taking b) v w done.kept (λ c u most. above (taking_left c) 1 (omega arith))

-- ---- it gets a page

pub taking : (v w : CacheView) (b hand word : ℕ) → TookPage v w b word → FetchLess (at.Taking b) v (next_by (at.Taking b) hand word).state.place w
taking v w b hand word done = by_test (word == 0) refl
  where
    begun : TookPage v w b word → (word == 0) ≡ false → FetchLess (at.Taking b) v (at.HandRegion b CACHE_BLOCKS) w
    begun (TookPage.took f zero set page fresh bytes) test = absurd (not_both word zero test)
    begun (TookPage.refused not_zero same) test = kept (at.Taking b) (at.HandRegion b CACHE_BLOCKS) v w same
        (λ c u most. round_begun CACHE_BLOCKS c u steps_of_page steps_of_round refl most)

    by_test : (t : Bool) → (word == 0) ≡ t →
        FetchLess (at.Taking b) v (if t then go_on (at.Filling b) hand else go_on (at.HandRegion b CACHE_BLOCKS) hand).state.place w
    by_test true test =
        small (cached_count v.row * steps_of_page + cached_count v.row * steps_of_round) 2 steps_of_round (omega arith)
    by_test false test = begun done test

pub filling : (v w : CacheView) (b : ℕ) → FetchLess (at.Filling b) v (at.Settling b) w
filling v w b = omega arith

pub settling : (v w : CacheView) (b : ℕ) → FetchLess (at.Settling b) v (at.Found b) w
settling v w b = omega arith

pub taking_last : (v w : CacheView) (b hand word : ℕ) → FetchLess (at.TakingLast b) v (next_by (at.TakingLast b) hand word).state.place w
taking_last v w b hand word = by_test (word == 0)
  where
    goes : Bool → CacheNext
    goes t =
        if t then go_on (at.Filling b) hand
        else record { state = record { place = at.Resting; hand = hand }; told = told.NoPage }

    by_test : (t : Bool) → FetchLess (at.TakingLast b) v (goes t).state.place w
    by_test true = omega arith
    by_test false = omega arith

-- ---- the hand goes on

passing_on : (b hand left blocks c u : ℕ) → 1 ≤ blocks → fetch_left (pass b hand left blocks).state.place c u < giving_left c u + 2 * left + 2
passing_on b hand left blocks c u some = by_tests (nat_le left blocks) (further hand blocks % NPTENTRIES == 0) refl
  where
    by_tests : (done first : Bool) → nat_le left blocks ≡ done →
        fetch_left (if done then go_on (at.TakingLast b) (further hand blocks)
        else if first then go_on (at.HandRegion b (left - blocks)) (further hand blocks)
        else go_on (at.HandPage b (left - blocks)) (further hand blocks)).state.place c u
        < giving_left c u + 2 * left + 2
    by_tests true first test = small_two (c * steps_of_page + u * steps_of_round) 4 (2 * left) 2 (omega arith)
    by_tests false true test = passed_less (giving_left c u) left blocks 3 (leb-false left blocks test) some (omega arith)
    by_tests false false test = passed_less (giving_left c u) left blocks 2 (leb-false left blocks test) some (omega arith)

one_more : (n k : ℕ) → n < k + 2 → n < k + 3
one_more n k lt = omega (arith, lt)

pub hand_region : (v w : CacheView) (b left hand word : ℕ) → ReadRegion v w hand word →
    FetchLess (at.HandRegion b left) v (next_by (at.HandRegion b left) hand word).state.place w
hand_region v w b left hand word done = by_test (is_there word)
  where
    rest : (n : ℕ) → 1 ≤ NPTENTRIES - n % NPTENTRIES
    rest n = omega arith

    by_test : (t : Bool) → FetchLess (at.HandRegion b left) v
        (if t then go_on (at.HandPage b left) hand else pass b hand left (rest_of_region hand)).state.place w
    by_test true = kept (at.HandRegion b left) (at.HandPage b left) v w done.kept (λ c u most. less (giving_left c u + 2 * left) 2 3 (omega arith))
    by_test false = kept (at.HandRegion b left) (pass b hand left (rest_of_region hand)).state.place v w done.kept
        (λ c u most. one_more (fetch_left (pass b hand left (rest_of_region hand)).state.place c u) (giving_left c u + 2 * left)
        (passing_on b hand left (rest_of_region hand) c u (rest (block_of hand))))

pub hand_page : (v w : CacheView) (b left hand word : ℕ) → 0 < left → ReadEntry v w hand word →
    FetchLess (at.HandPage b left) v (next_by (at.HandPage b left) hand word).state.place w
hand_page v w b left hand word some done = by_test (is_there word)
  where
    weighed : (c u : ℕ) (dirty used : Bool) →
        fetch_left (if dirty then go_on (at.WritingBack b) hand
        else if used then go_on (at.Passing b) hand
        else go_on (at.Moving b) hand).state.place c u
        < giving_left c u + 2 * left + 2
    weighed c u true used = by_left (giving_left c u) 2 left some (omega arith)
    weighed c u false true = by_left (giving_left c u) 1 left some (omega arith)
    weighed c u false false = by_left (giving_left c u) 3 left some (omega arith)

    by_test : (t : Bool) → FetchLess (at.HandPage b left) v (if t then weigh b hand word else pass b hand left 1).state.place w
    by_test true = kept (at.HandPage b left) (weigh b hand word).state.place v w done.kept (λ c u most. weighed c u (is_written word) (is_used word))
    by_test false = kept (at.HandPage b left) (pass b hand left 1).state.place v w done.kept (λ c u most. passing_on b hand left 1 c u (omega arith))

-- ---- the page at hand

stands_there : (o : Option Entry) (e : Entry) → o ≡ Some e → is_some o ≡ true
stands_there o e is = ap is_some is

pub writing_back : (d e : Disk) (v w : CacheView) (b hand : ℕ) → was_used (v.row hand) ≡ true → Written d e v w hand →
    FetchLess (at.WritingBack b) v (at.Passing b) w
writing_back d e v w b hand used (Written.written x y is below disk set frame bits dirty used_too bytes) =
    counted (at.WritingBack b) (at.Passing b) v w
    (set_cached v w hand y set (stands_there (v.row hand) x is)) (set_used v w hand (Some y) set (used_too ∙ sym used))
    (λ c u most. less (giving_left c u) 1 2 (omega arith))
writing_back d e v w b hand used (Written.not_there past same_disk same) =
    kept (at.WritingBack b) (at.Passing b) v w same (λ c u most. less (giving_left c u) 1 2 (omega arith))

pub passing : (v w : CacheView) (b hand word : ℕ) → hand < CACHE_BLOCKS → was_used (v.row hand) ≡ true → MappedTo v w hand hand word →
    FetchLess (at.Passing b) v (at.HandRegion b CACHE_BLOCKS) w
passing v w b hand word below used (MappedTo.mapped e is zero set bytes) =
    subst (λ (n : ℕ). falls n (used_count v.row)) (sym cached)
    (subst (λ (n : ℕ). falls (cached_count v.row) n) (sym fewer)
    (round_less CACHE_BLOCKS (cached_count v.row) (used_count w.row) steps_of_page steps_of_round refl))
  where
    entry : Entry
    entry = record { frame = e.frame; perm = page_perm }

    cached : cached_count w.row ≡ cached_count v.row
    cached = set_cached v w hand entry set (stands_there (v.row hand) e is)

    fewer : used_count v.row ≡ used_count w.row + 1
    fewer = set_unused v w hand (Some entry) set below refl used

    falls : ℕ → ℕ → Type 0
    falls c u = fetch_left (at.HandRegion b CACHE_BLOCKS) c (used_count w.row) < fetch_left (at.Passing b) (cached_count v.row) u
passing v w b hand word below used (MappedTo.refused apart not_zero same) = absurd (apart refl)

pub moving : (v w : CacheView) (b hand word : ℕ) → MappedTo v w hand b word →
    FetchLess (at.Moving b) v (next_by (at.Moving b) hand word).state.place w
moving v w b hand word done = by_test (word == 0) refl
  where
    in_vain : MappedTo v w hand b word → (word == 0) ≡ false → FetchLess (at.Moving b) v (at.Freeing b) w
    in_vain (MappedTo.mapped e is zero set bytes) test = absurd (not_both word zero test)
    in_vain (MappedTo.refused apart not_zero same) test =
        kept (at.Moving b) (at.Freeing b) v w same (λ c u most. less (giving_left c u) 2 3 (omega arith))

    by_test : (t : Bool) → (word == 0) ≡ t →
        FetchLess (at.Moving b) v (if t then go_on (at.Leaving b) hand else go_on (at.Freeing b) hand).state.place w
    by_test true test = small (cached_count v.row * steps_of_page + used_count v.row * steps_of_round) 3 3 (omega arith)
    by_test false test = in_vain done test

pub leaving : (v w : CacheView) (b : ℕ) → FetchLess (at.Leaving b) v (at.Filling b) w
leaving v w b = omega arith

pub freeing : (v w : CacheView) (b hand : ℕ) → hand < CACHE_BLOCKS → is_some (v.row hand) ≡ true → Unmapped v w hand →
    FetchLess (at.Freeing b) v (at.Taking b) w
freeing v w b hand below there done =
    let fewer : cached_count v.row ≡ cached_count w.row + 1 = set_none v w hand done.row below there in
    subst (λ (n : ℕ). fetch_left (at.Taking b) (cached_count w.row) (used_count w.row) < fetch_left (at.Freeing b) n (used_count v.row)) (sym fewer)
    (page_less CACHE_BLOCKS (cached_count w.row) (used_count v.row) steps_of_page steps_of_round refl
    (one_below (cached_count v.row) (cached_count w.row) CACHE_BLOCKS fewer (cached_most v.row)))
  where
    one_below : (n k most : ℕ) → n ≡ k + 1 → n ≤ most → k < most
    one_below n k most is le = omega (arith, is, le)
