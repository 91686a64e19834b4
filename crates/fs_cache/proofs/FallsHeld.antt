-- At each place of a fetch the number that holds back steps for what is cached is less behind the call than before it.
use Rattle.std.proofs.Common.{◌≡◌, ◌∙◌, ◌<◌, ◌≤◌, ◌+◌, ◌*◌, ◌-◌, ◌%◌, ◌==◌, ℕ, Bool, true, false, is_some, Some}
use Rattle.std.proofs.Common.{refl, sym, ap, subst, arith, if◌then◌else◌}
use Rattle.std.specs.Prelude.{nat_le}
use Rattle.std.proofs.lemmas.Bool.{leb-false}
use Rattle.jos_base.specs.declared.numbers.TheConstants.{NPTENTRIES}
use Rattle.lib_os.specs.declared.numbers.TheConstants.{CACHE_BLOCKS}
use Rattle.lib_os.specs.Disk.{Disk}
use Rattle.fs_blocks.specs.declared.place.CachePlace.{CachePlace}
use Rattle.fs_blocks.specs.declared.place.CachePlace.TheVariants as at
use Rattle.fs_blocks.specs.declared.plan.CacheNext.{CacheNext}
use Rattle.fs_blocks.specs.declared.plan.Told.TheVariants as told
use Rattle.fs_blocks.specs.CachePlans.{block_of, further, go_on, is_there, is_used, is_written, next_by, page_perm, pass, rest_of_region, weigh}
use Rattle.fs_cache.specs.CacheStands.{CacheStands, CacheView, was_used}
use Rattle.fs_cache.specs.CacheSteps.{cached_count, held_left, near_left, steps_of_round, steps_to_seek, steps_to_take, used_count}
use Rattle.fs_cache.proofs.Views.{DoneAt, Filled, IsFetching, MappedTo, ReadEntry, ReadRegion, TookPage, Unmapped, ViewKept, Written, left_by}
use Rattle.fs_cache.proofs.FallsCounts.{cached_no_more, cached_one_more, kept_row, set_cached, set_none, set_unused, set_used, used_no_more, used_one_more}

abbrev pub HeldLess : CachePlace → CacheView → CachePlace → CacheView → Type 0
HeldLess place v next w = left_by near_left next w < left_by near_left place v

abbrev HeldAlways : CachePlace → CachePlace → Type 0
HeldAlways place next = (c u : ℕ) → near_left next c u < near_left place c u

kept : (place next : CachePlace) (v w : CacheView) → ViewKept v w → HeldAlways place next → HeldLess place v next w
kept place next v w same falls =
    subst (λ (row : _). near_left next (cached_count row) (used_count row) < left_by near_left place v) (sym (kept_row v w same))
    (falls (cached_count v.row) (used_count v.row))

not_both : (word : ℕ) → word ≡ 0 → (word == 0) ≡ false → ⊥
not_both word zero not_zero = let contradiction : true ≡ false = sym (ap (λ (k : ℕ). k == 0) zero) ∙ not_zero in absurd cc

above : (h a b : ℕ) → a < b → h + a < h + b
above h a b lt = omega (arith, lt)

-- ---- what changes

-- one page more is cached
grows : (c u d t a b : ℕ) → d ≤ c + 1 → t ≤ u → a + 131088 < b → held_left d t + a < held_left c u + b
grows c u d t a b more used lt = omega (arith, more, used, lt)

-- no more is
stays : (c u d t a b : ℕ) → d ≤ c → t ≤ u → a < b → held_left d t + a < held_left c u + b
stays c u d t a b more used lt = omega (arith, more, used, lt)

-- one page more was used
uses : (c u d t a b : ℕ) → d ≤ c → t ≤ u + 1 → a + 131078 < b → held_left d t + a < held_left c u + b
uses c u d t a b more used lt = omega (arith, more, used, lt)

-- and one less
passes : (c u d t a b : ℕ) → d ≤ c → u ≡ t + 1 → a < b + 131078 → held_left d t + a < held_left c u + b
passes c u d t a b more used lt = omega (arith, more, used, lt)

-- one is cached no more
gives : (c u d t a b : ℕ) → c ≡ d + 1 → t ≤ u → a < b + 131088 → held_left d t + a < held_left c u + b
gives c u d t a b less used lt = omega (arith, less, used, lt)

same_most : (a b : ℕ) → a ≡ b → a ≤ b
same_most a b is = omega (arith, is)

-- ---- the block is looked up, and gets a page

looking_region : (v w : CacheView) (b hand word : ℕ) → ReadRegion v w b word →
    HeldLess (at.LookingRegion b) v (next_by (at.LookingRegion b) hand word).state.place w
looking_region v w b hand word done = by_test (is_there word)
  where
    by_test : (t : Bool) → HeldLess (at.LookingRegion b) v (if t then go_on (at.LookingPage b) hand else go_on (at.Taking b) hand).state.place w
    by_test true = kept (at.LookingRegion b) (at.LookingPage b) v w done.kept (λ c u. omega arith)
    by_test false = kept (at.LookingRegion b) (at.Taking b) v w done.kept (λ c u. omega arith)

looking_page : (v w : CacheView) (b hand word : ℕ) → ReadEntry v w b word →
    HeldLess (at.LookingPage b) v (next_by (at.LookingPage b) hand word).state.place w
looking_page v w b hand word done = by_test (is_there word)
  where
    by_test : (t : Bool) → HeldLess (at.LookingPage b) v (if t then go_on (at.Found b) hand else go_on (at.Taking b) hand).state.place w
    by_test true = kept (at.LookingPage b) (at.Found b) v w done.kept (λ c u. omega arith)
    by_test false = kept (at.LookingPage b) (at.Taking b) v w done.kept (λ c u. omega arith)

taking : (v w : CacheView) (b hand word : ℕ) → TookPage v w b word → HeldLess (at.Taking b) v (next_by (at.Taking b) hand word).state.place w
taking v w b hand word done = by_test (word == 0) refl done
  where
    by_test : (t : Bool) → (word == 0) ≡ t → TookPage v w b word →
        HeldLess (at.Taking b) v (if t then go_on (at.Filling b) hand else go_on (at.HandRegion b CACHE_BLOCKS) hand).state.place w
    by_test true test (TookPage.took f zero set page fresh bytes) =
        grows (cached_count v.row) (used_count v.row) (cached_count w.row) (used_count w.row) (steps_of_round + 2) steps_to_take
        (cached_one_more v.row w.row b set.rest) (used_no_more v.row w.row b set.rest (ap was_used set.set)) (omega arith)
    by_test true test (TookPage.refused not_zero same) = absurd (let contradiction : true ≡ false = sym test ∙ not_zero in cc)
    by_test false test (TookPage.took f zero set page fresh bytes) = absurd (not_both word zero test)
    by_test false test (TookPage.refused not_zero same) = kept (at.Taking b) (at.HandRegion b CACHE_BLOCKS) v w same (λ c u. omega arith)

filling : (d : Disk) (v w : CacheView) (b : ℕ) → Filled d v w b → HeldLess (at.Filling b) v (at.Settling b) w
filling d v w b (Filled.filled e f is below set frame bits bytes page beside) =
    uses (cached_count v.row) (used_count v.row) (cached_count w.row) (used_count w.row) 1 (steps_of_round + 2)
    (same_most (cached_count w.row) (cached_count v.row) (set_cached v w b f set (ap is_some is))) (used_one_more v.row w.row b set.rest) (omega arith)
filling d v w b (Filled.not_there past same) = kept (at.Filling b) (at.Settling b) v w same (λ c u. omega arith)

settling : (v w : CacheView) (b word : ℕ) → MappedTo v w b b word → HeldLess (at.Settling b) v (at.Found b) w
settling v w b word (MappedTo.mapped e is zero set bytes) =
    none (cached_count v.row) (used_count v.row) (cached_count w.row) (used_count w.row)
    (set_cached v w b (record { frame = e.frame; perm = page_perm }) set (ap is_some is)) (used_no_more v.row w.row b set.rest (ap was_used set.set))
  where
    none : (c u d t : ℕ) → d ≡ c → t ≤ u → held_left d t < held_left c u + 1
    none c u d t one two = omega (arith, one, two)
settling v w b word (MappedTo.refused apart not_zero same) = absurd (apart refl)

taking_last : (v w : CacheView) (b hand word : ℕ) → TookPage v w b word → HeldLess (at.TakingLast b) v (next_by (at.TakingLast b) hand word).state.place w
taking_last v w b hand word done = by_test (word == 0) refl done
  where
    goes : Bool → CacheNext
    goes t =
        if t then go_on (at.Filling b) hand
        else record { state = record { place = at.Resting; hand = hand }; told = told.NoPage }

    by_test : (t : Bool) → (word == 0) ≡ t → TookPage v w b word → HeldLess (at.TakingLast b) v (goes t).state.place w
    by_test true test (TookPage.took f zero set page fresh bytes) =
        grows (cached_count v.row) (used_count v.row) (cached_count w.row) (used_count w.row) (steps_of_round + 2) (steps_to_seek + 3)
        (cached_one_more v.row w.row b set.rest) (used_no_more v.row w.row b set.rest (ap was_used set.set)) (omega arith)
    by_test true test (TookPage.refused not_zero same) = absurd (let contradiction : true ≡ false = sym test ∙ not_zero in cc)
    by_test false test (TookPage.took f zero set page fresh bytes) = absurd (not_both word zero test)
    by_test false test (TookPage.refused not_zero same) = kept (at.TakingLast b) at.Resting v w same (λ c u. omega arith)

-- ---- the hand goes on

passing_on : (b hand left blocks c u : ℕ) → 1 ≤ blocks → 0 < left →
    near_left (pass b hand left blocks).state.place c u < held_left c u + (steps_to_seek + 2 * left + 2)
passing_on b hand left blocks c u some much = by_tests (nat_le left blocks) (further hand blocks % NPTENTRIES == 0) refl
  where
    by_tests : (done first : Bool) → nat_le left blocks ≡ done →
        near_left (if done then go_on (at.TakingLast b) (further hand blocks)
        else if first then go_on (at.HandRegion b (left - blocks)) (further hand blocks)
        else go_on (at.HandPage b (left - blocks)) (further hand blocks)).state.place c u
        < held_left c u + (steps_to_seek + 2 * left + 2)
    by_tests true first test = above (held_left c u) (steps_to_seek + 3) (steps_to_seek + 2 * left + 2) (omega (arith, much))
    by_tests false true test =
        let lt = leb-false left blocks test in
        above (held_left c u) (steps_to_seek + 2 * (left - blocks) + 3) (steps_to_seek + 2 * left + 2) (omega (arith, some, lt))
    by_tests false false test =
        let lt = leb-false left blocks test in
        above (held_left c u) (steps_to_seek + 2 * (left - blocks) + 2) (steps_to_seek + 2 * left + 2) (omega (arith, some, lt))

hand_region : (v w : CacheView) (b left hand word : ℕ) → 0 < left → ReadRegion v w hand word →
    HeldLess (at.HandRegion b left) v (next_by (at.HandRegion b left) hand word).state.place w
hand_region v w b left hand word some done = by_test (is_there word)
  where
    rest : (n : ℕ) → 1 ≤ NPTENTRIES - n % NPTENTRIES
    rest n = omega arith

    one_more : (x h l : ℕ) → x < h + (steps_to_seek + 2 * l + 2) → x < h + (steps_to_seek + 2 * l + 3)
    one_more x h l lt = omega (arith, lt)

    by_test : (t : Bool) → HeldLess (at.HandRegion b left) v
        (if t then go_on (at.HandPage b left) hand else pass b hand left (rest_of_region hand)).state.place w
    by_test true = kept (at.HandRegion b left) (at.HandPage b left) v w done.kept (λ c u. omega arith)
    by_test false = kept (at.HandRegion b left) (pass b hand left (rest_of_region hand)).state.place v w done.kept
        (λ c u. one_more (near_left (pass b hand left (rest_of_region hand)).state.place c u) (held_left c u) left
        (passing_on b hand left (rest_of_region hand) c u (rest (block_of hand)) some))

hand_page : (v w : CacheView) (b left hand word : ℕ) → 0 < left → ReadEntry v w hand word →
    HeldLess (at.HandPage b left) v (next_by (at.HandPage b left) hand word).state.place w
hand_page v w b left hand word some done = by_test (is_there word)
  where
    weighed : (c u : ℕ) (dirty used : Bool) →
        near_left (if dirty then go_on (at.WritingBack b) hand
        else if used then go_on (at.Passing b) hand
        else go_on (at.Moving b) hand).state.place c u
        < held_left c u + (steps_to_seek + 2 * left + 2)
    weighed c u true used = omega (arith, some)
    weighed c u false true = omega (arith, some)
    weighed c u false false = omega (arith, some)

    by_test : (t : Bool) → HeldLess (at.HandPage b left) v (if t then weigh b hand word else pass b hand left 1).state.place w
    by_test true = kept (at.HandPage b left) (weigh b hand word).state.place v w done.kept (λ c u. weighed c u (is_written word) (is_used word))
    by_test false = kept (at.HandPage b left) (pass b hand left 1).state.place v w done.kept (λ c u. passing_on b hand left 1 c u (omega arith) some)

-- ---- the page at hand

writing_back : (d e : Disk) (v w : CacheView) (b hand : ℕ) → was_used (v.row hand) ≡ true → Written d e v w hand →
    HeldLess (at.WritingBack b) v (at.Passing b) w
writing_back d e v w b hand used (Written.written x y is below disk set frame bits dirty used_too bytes) =
    stays (cached_count v.row) (used_count v.row) (cached_count w.row) (used_count w.row) (steps_to_seek + 1) (steps_to_seek + 2)
    (same_most (cached_count w.row) (cached_count v.row) (set_cached v w hand y set (ap is_some is)))
    (same_most (used_count w.row) (used_count v.row) (set_used v w hand (Some y) set (used_too ∙ sym used))) (omega arith)
writing_back d e v w b hand used (Written.not_there past same_disk same) = kept (at.WritingBack b) (at.Passing b) v w same (λ c u. omega arith)

passing : (v w : CacheView) (b hand word : ℕ) → hand < CACHE_BLOCKS → was_used (v.row hand) ≡ true → MappedTo v w hand hand word →
    HeldLess (at.Passing b) v (at.HandRegion b CACHE_BLOCKS) w
passing v w b hand word below used (MappedTo.mapped e is zero set bytes) =
    passes (cached_count v.row) (used_count v.row) (cached_count w.row) (used_count w.row) (steps_to_seek + 2 * CACHE_BLOCKS + 3) (steps_to_seek + 1)
    (same_most (cached_count w.row) (cached_count v.row)
    (set_cached v w hand (record { frame = e.frame; perm = page_perm }) set (ap is_some is)))
    (set_unused v w hand (Some (record { frame = e.frame; perm = page_perm })) set below refl used) (omega arith)
passing v w b hand word below used (MappedTo.refused apart not_zero same) = absurd (apart refl)

moving : (v w : CacheView) (b hand word : ℕ) → MappedTo v w hand b word →
    HeldLess (at.Moving b) v (next_by (at.Moving b) hand word).state.place w
moving v w b hand word done = by_test (word == 0) refl done
  where
    by_test : (t : Bool) → (word == 0) ≡ t → MappedTo v w hand b word →
        HeldLess (at.Moving b) v (if t then go_on (at.Leaving b) hand else go_on (at.Freeing b) hand).state.place w
    by_test true test (MappedTo.mapped e is zero set bytes) =
        grows (cached_count v.row) (used_count v.row) (cached_count w.row) (used_count w.row) (steps_of_round + 3) (steps_to_seek + 3)
        (cached_one_more v.row w.row b set.rest) (used_no_more v.row w.row b set.rest (ap was_used set.set)) (omega arith)
    by_test true test (MappedTo.refused apart not_zero same) = absurd (let contradiction : true ≡ false = sym test ∙ not_zero in cc)
    by_test false test (MappedTo.mapped e is zero set bytes) = absurd (not_both word zero test)
    by_test false test (MappedTo.refused apart not_zero same) = kept (at.Moving b) (at.Freeing b) v w same (λ c u. omega arith)

leaving : (v w : CacheView) (b hand : ℕ) → Unmapped v w hand → HeldLess (at.Leaving b) v (at.Filling b) w
leaving v w b hand done =
    stays (cached_count v.row) (used_count v.row) (cached_count w.row) (used_count w.row) (steps_of_round + 2) (steps_of_round + 3)
    (cached_no_more v.row w.row hand done.row.rest done.row.set) (used_no_more v.row w.row hand done.row.rest (ap was_used done.row.set)) (omega arith)

freeing : (v w : CacheView) (b hand : ℕ) → hand < CACHE_BLOCKS → is_some (v.row hand) ≡ true → Unmapped v w hand →
    HeldLess (at.Freeing b) v (at.Taking b) w
freeing v w b hand below there done =
    gives (cached_count v.row) (used_count v.row) (cached_count w.row) (used_count w.row) steps_to_take (steps_to_seek + 2)
    (set_none v w hand done.row below there) (used_no_more v.row w.row hand done.row.rest (ap was_used done.row.set)) (omega arith)

-- ---- at each place

pub held_falls : (d e : Disk) (v w : CacheView) (place : CachePlace) (hand word : ℕ) → CacheStands d v place hand →
    DoneAt place hand d e v w word → IsFetching place → HeldLess place v (next_by place hand word).state.place w
held_falls d e v w at.Resting hand word stands done is = absurd is
held_falls d e v w (at.Found b) hand word stands done is = absurd is
held_falls d e v w (at.LookingRegion b) hand word stands done is = looking_region v w b hand word done.0
held_falls d e v w (at.LookingPage b) hand word stands done is = looking_page v w b hand word done.0
held_falls d e v w (at.Taking b) hand word stands done is = taking v w b hand word done.0
held_falls d e v w (at.Filling b) hand word stands done is = filling d v w b done.0
held_falls d e v w (at.Settling b) hand word stands done is = settling v w b word done.0
held_falls d e v w (at.HandRegion b left) hand word stands done is = hand_region v w b left hand word stands.at.some done.0
held_falls d e v w (at.HandPage b left) hand word stands done is = hand_page v w b left hand word stands.at.0.some done.0
held_falls d e v w (at.WritingBack b) hand word stands done is = writing_back d e v w b hand stands.at.1 done
held_falls d e v w (at.Passing b) hand word stands done is = passing v w b hand word stands.hand_below stands.at.1 done.0
held_falls d e v w (at.Moving b) hand word stands done is = moving v w b hand word done.0
held_falls d e v w (at.Leaving b) hand word stands done is = leaving v w b hand done.0
held_falls d e v w (at.Freeing b) hand word stands done is = freeing v w b hand stands.hand_below (ap is_some stands.at.at_hand.stands) done.0
held_falls d e v w (at.TakingLast b) hand word stands done is = taking_last v w b hand word done.0
held_falls d e v w (at.FlushRegion b) hand word stands done is = absurd is
held_falls d e v w (at.FlushPage b) hand word stands done is = absurd is
held_falls d e v w (at.FlushWriting b) hand word stands done is = absurd is
held_falls d e v w (at.FlushSettling b) hand word stands done is = absurd is
