-- Where no page is refused, each step of a fetch leaves one call fewer, and five are the most.
use Rattle.std.proofs.Common.{◌≡◌, ◌<◌, ◌≤◌, ◌==◌, inl, inr, ℕ, Bool, true, false, refl, arith, if◌then◌else◌}
use Rattle.std.proofs.lemmas.Bool.Decides.{nat_tests}
use Rattle.fs_blocks.specs.declared.place.CachePlace.{CachePlace}
use Rattle.fs_blocks.specs.declared.place.CachePlace.TheVariants as at
use Rattle.fs_blocks.specs.declared.plan.CacheNext.{CacheNext}
use Rattle.fs_blocks.specs.declared.plan.Told.TheVariants as told
use Rattle.fs_blocks.specs.CachePlans.{fetching, go_on, is_there, next_by}
use Rattle.fs_cache.specs.CacheSteps.{IsNear, IsReady, block_calls, fetch_calls, fills, is_found, looks, reads, settles, takes}

-- By the word that came the fetch comes on; or the page was refused that was asked for.
pub data NearFollows (block : ℕ) (place : CachePlace) (word : ℕ) (next : CacheNext) : Type 0 where
  comes : next.told ≡ told.Going → IsReady block next.state.place → block_calls block next.state.place < fetch_calls place →
      NearFollows block place word next
  lacks : place ≡ at.Taking block → (word == 0) ≡ false → NearFollows block place word next

-- a fetch begins, or goes on
pub begins : (block : ℕ) (place : CachePlace) → IsReady block place → IsNear block (fetching place block)
begins block at.Resting ready = looks
begins block (at.Found other) ready = looks
begins block (at.FlushRegion other) ready = looks
begins block (at.FlushPage other) ready = looks
begins block (at.FlushWriting other) ready = looks
begins block (at.FlushSettling other) ready = looks
begins block (at.LookingRegion other) (inl none) = absurd (cc none)
begins block (at.LookingPage other) (inl none) = absurd (cc none)
begins block (at.Taking other) (inl none) = absurd (cc none)
begins block (at.Filling other) (inl none) = absurd (cc none)
begins block (at.Settling other) (inl none) = absurd (cc none)
begins block (at.HandRegion other left) (inl none) = absurd (cc none)
begins block (at.HandPage other left) (inl none) = absurd (cc none)
begins block (at.WritingBack other) (inl none) = absurd (cc none)
begins block (at.Passing other) (inl none) = absurd (cc none)
begins block (at.Moving other) (inl none) = absurd (cc none)
begins block (at.Leaving other) (inl none) = absurd (cc none)
begins block (at.Freeing other) (inl none) = absurd (cc none)
begins block (at.TakingLast other) (inl none) = absurd (cc none)
begins block place (inr near) = on near
  where
    on : {p : CachePlace} → IsNear block p → IsNear block (fetching p block)
    on looks = looks
    on reads = reads
    on takes = takes
    on fills = fills
    on settles = settles

by_test : (block : ℕ) (place : CachePlace) (word : ℕ) (t : Bool) (x y : CacheNext) → (t ≡ true → NearFollows block place word x) →
    (t ≡ false → NearFollows block place word y) → NearFollows block place word (if t then x else y)
by_test block place word true x y first second = first refl
by_test block place word false x y first second = second refl

here : (block : ℕ) → (if block == block then 0 else 5) < 1
here block = by (block == block) same
  where
    same : (block == block) ≡ true
    same = grind (arith, nat_tests)

    by : (t : Bool) → t ≡ true → (if t then 0 else 5) < 1
    by true is = omega arith
    by false is = absurd (cc is)

fewer : (block a : ℕ) → 1 ≤ a → (if block == block then 0 else 5) < a
fewer block a some = let one = here block in omega (arith, some, one)

-- by its plan
pub near-falls : (block hand word : ℕ) {place : CachePlace} → IsNear block place → NearFollows block place word (next_by place hand word)
near-falls block hand word looks =
    by_test block (at.LookingRegion block) word (is_there word) (go_on (at.LookingPage block) hand) (go_on (at.Taking block) hand)
    (λ is. comes refl (inr reads) (omega arith)) (λ is. comes refl (inr takes) (omega arith))
near-falls block hand word reads =
    by_test block (at.LookingPage block) word (is_there word) (go_on (at.Found block) hand) (go_on (at.Taking block) hand)
    (λ is. comes refl (inl refl) (fewer block 4 (omega arith))) (λ is. comes refl (inr takes) (omega arith))
near-falls block hand word takes =
    by_test block (at.Taking block) word (word == 0) (go_on (at.Filling block) hand) (go_on (at.HandRegion block 65536) hand)
    (λ is. comes refl (inr fills) (omega arith)) (λ is. lacks refl is)
near-falls block hand word fills = comes refl (inr settles) (omega arith)
near-falls block hand word settles = comes refl (inl refl) (here block)

-- and no more than five are left
pub calls-most : (block : ℕ) (place : CachePlace) → block_calls block place ≤ 5
calls-most block place = by (is_found block place) (fetching place block)
  where
    most : (p : CachePlace) → fetch_calls p ≤ 5
    most at.Resting = omega arith
    most (at.Found other) = omega arith
    most (at.LookingRegion other) = omega arith
    most (at.LookingPage other) = omega arith
    most (at.Taking other) = omega arith
    most (at.Filling other) = omega arith
    most (at.Settling other) = omega arith
    most (at.HandRegion other left) = omega arith
    most (at.HandPage other left) = omega arith
    most (at.WritingBack other) = omega arith
    most (at.Passing other) = omega arith
    most (at.Moving other) = omega arith
    most (at.Leaving other) = omega arith
    most (at.Freeing other) = omega arith
    most (at.TakingLast other) = omega arith
    most (at.FlushRegion other) = omega arith
    most (at.FlushPage other) = omega arith
    most (at.FlushWriting other) = omega arith
    most (at.FlushSettling other) = omega arith

    by : (t : Bool) (p : CachePlace) → (if t then 0 else fetch_calls p) ≤ 5
    by true p = omega arith
    by false p = most p
