-- The number of a wait for a block falls with each step, where another block may be under way, which is done first.
use Rattle.std.proofs.Common.{◌≡◌, ◌∙◌, ◌<◌, ◌≤◌, ◌+◌, ◌*◌, ◌-◌, ◌%◌, ◌^◌, ◌==◌, ℕ, Bool, true, false, refl, sym, ap, subst, arith, if◌then◌else◌}
use Rattle.std.proofs.lemmas.Bool.Decides.{nat_tests}
use Rattle.std.specs.Prelude.{nat_le}
use Rattle.jos_base.specs.declared.numbers.TheConstants.{NPTENTRIES}
use Rattle.lib_os.specs.declared.numbers.TheConstants.{CACHE_BLOCKS}
use Rattle.fs_blocks.specs.declared.place.CachePlace.{CachePlace}
use Rattle.fs_blocks.specs.declared.place.CachePlace.TheVariants as at
use Rattle.fs_blocks.specs.declared.plan.CacheNext.{CacheNext}
use Rattle.fs_blocks.specs.declared.plan.Told.TheVariants as told
use Rattle.fs_blocks.specs.CachePlaces.{block_at, place_in}
use Rattle.fs_blocks.specs.CachePlans.{fetching, further, go_on, is_there, is_used, is_written, next_by, pass, rest_of_region, weigh}
use Rattle.fs_cache.specs.CacheStands.{CacheView}
use Rattle.fs_cache.specs.CacheSteps.{FLUSH_STEPS_MAX, WAIT_STEPS_MAX, cached_count, fetch_left, flush_left, giving_left, held_left, is_fetching, is_found}
use Rattle.fs_cache.specs.CacheSteps.{near_left, other_left, steps_of_round, steps_to_begin, steps_to_take, taking_left, used_count, wait_by, wait_left}
use Rattle.fs_cache.proofs.Falls.{flush_most}
use Rattle.fs_cache.proofs.Views.{left_by}

-- ---- where a fetch goes

-- It is about the same block still, or has found it.
data IsFor (block : ℕ) (place : CachePlace) : Type 0 where
  fetches : is_fetching place ≡ true → block_at place ≡ block → IsFor block place
  finds : place ≡ at.Found block → IsFor block place

-- where it goes on
abbrev GoesFor : ℕ → CacheNext → Type 0
GoesFor block next = next.told ≡ told.Going → IsFor block next.state.place

either : (block : ℕ) (t : Bool) (x y : CacheNext) → GoesFor block x → GoesFor block y → GoesFor block (if t then x else y)
either block true x y first second = first
either block false x y first second = second

passes_for : (block hand left blocks : ℕ) → GoesFor block (pass block hand left blocks)
passes_for block hand left blocks =
    let next = further hand blocks in
    let later = if next % NPTENTRIES == 0 then go_on (at.HandRegion block (left - blocks)) next else go_on (at.HandPage block (left - blocks)) next in
    either block (nat_le left blocks) (go_on (at.TakingLast block) next) later (λ is. fetches refl refl)
    (either block (next % NPTENTRIES == 0) (go_on (at.HandRegion block (left - blocks)) next) (go_on (at.HandPage block (left - blocks)) next)
    (λ is. fetches refl refl) (λ is. fetches refl refl))

weighs_for : (block hand word : ℕ) → GoesFor block (weigh block hand word)
weighs_for block hand word =
    let later = if is_used word then go_on (at.Passing block) hand else go_on (at.Moving block) hand in
    either block (is_written word) (go_on (at.WritingBack block) hand) later (λ is. fetches refl refl)
    (either block (is_used word) (go_on (at.Passing block) hand) (go_on (at.Moving block) hand) (λ is. fetches refl refl) (λ is. fetches refl refl))

none_such : (hand : ℕ) (place : CachePlace) (b : ℕ) → GoesFor b (record { state = record { place = place; hand = hand }; told = told.NoPage })
none_such hand place b is = absurd (let contradiction : told.NoPage ≡ told.Going = is in cc)

goes_for : (place : CachePlace) (hand word : ℕ) → is_fetching place ≡ true → GoesFor (block_at place) (next_by place hand word)
goes_for at.Resting hand word on = absurd (let contradiction : false ≡ true = on in cc)
goes_for (at.Found b) hand word on = absurd (let contradiction : false ≡ true = on in cc)
goes_for (at.LookingRegion b) hand word on =
    either b (is_there word) (go_on (at.LookingPage b) hand) (go_on (at.Taking b) hand) (λ is. fetches refl refl) (λ is. fetches refl refl)
goes_for (at.LookingPage b) hand word on =
    either b (is_there word) (go_on (at.Found b) hand) (go_on (at.Taking b) hand) (λ is. finds refl) (λ is. fetches refl refl)
goes_for (at.Taking b) hand word on =
    either b (word == 0) (go_on (at.Filling b) hand) (go_on (at.HandRegion b CACHE_BLOCKS) hand) (λ is. fetches refl refl) (λ is. fetches refl refl)
goes_for (at.Filling b) hand word on = λ is. fetches refl refl
goes_for (at.Settling b) hand word on = λ is. finds refl
goes_for (at.HandRegion b left) hand word on =
    either b (is_there word) (go_on (at.HandPage b left) hand) (pass b hand left (rest_of_region hand)) (λ is. fetches refl refl)
    (passes_for b hand left (rest_of_region hand))
goes_for (at.HandPage b left) hand word on =
    either b (is_there word) (weigh b hand word) (pass b hand left 1) (weighs_for b hand word) (passes_for b hand left 1)
goes_for (at.WritingBack b) hand word on = λ is. fetches refl refl
goes_for (at.Passing b) hand word on = λ is. fetches refl refl
goes_for (at.Moving b) hand word on =
    either b (word == 0) (go_on (at.Leaving b) hand) (go_on (at.Freeing b) hand) (λ is. fetches refl refl) (λ is. fetches refl refl)
goes_for (at.Leaving b) hand word on = λ is. fetches refl refl
goes_for (at.Freeing b) hand word on = λ is. fetches refl refl
goes_for (at.TakingLast b) hand word on =
    either b (word == 0) (go_on (at.Filling b) hand) (record { state = record { place = at.Resting; hand = hand }; told = told.NoPage })
    (λ is. fetches refl refl) (none_such hand at.Resting b)
goes_for (at.FlushRegion b) hand word on = absurd (let contradiction : false ≡ true = on in cc)
goes_for (at.FlushPage b) hand word on = absurd (let contradiction : false ≡ true = on in cc)
goes_for (at.FlushWriting b) hand word on = absurd (let contradiction : false ≡ true = on in cc)
goes_for (at.FlushSettling b) hand word on = absurd (let contradiction : false ≡ true = on in cc)

-- ---- where it begins

data Begins (block : ℕ) (place : CachePlace) : Type 0 where
  under_way : is_fetching place ≡ true → fetching place block ≡ place → Begins block place
  begins : is_fetching place ≡ false → fetching place block ≡ at.LookingRegion block → Begins block place

fetch_begins : (place : CachePlace) (block : ℕ) → Begins block place
fetch_begins at.Resting block = begins refl refl
fetch_begins (at.Found b) block = begins refl refl
fetch_begins (at.LookingRegion b) block = under_way refl refl
fetch_begins (at.LookingPage b) block = under_way refl refl
fetch_begins (at.Taking b) block = under_way refl refl
fetch_begins (at.Filling b) block = under_way refl refl
fetch_begins (at.Settling b) block = under_way refl refl
fetch_begins (at.HandRegion b left) block = under_way refl refl
fetch_begins (at.HandPage b left) block = under_way refl refl
fetch_begins (at.WritingBack b) block = under_way refl refl
fetch_begins (at.Passing b) block = under_way refl refl
fetch_begins (at.Moving b) block = under_way refl refl
fetch_begins (at.Leaving b) block = under_way refl refl
fetch_begins (at.Freeing b) block = under_way refl refl
fetch_begins (at.TakingLast b) block = under_way refl refl
fetch_begins (at.FlushRegion b) block = begins refl refl
fetch_begins (at.FlushPage b) block = begins refl refl
fetch_begins (at.FlushWriting b) block = begins refl refl
fetch_begins (at.FlushSettling b) block = begins refl refl

-- what was found is this block
pub found_by : (place : CachePlace) (block : ℕ) → is_found block place ≡ true → place ≡ at.Found block
found_by (at.Found b) block on = let same : b ≡ block = grind (arith, nat_tests) in ap (λ (k : ℕ). at.Found k) same
found_by at.Resting block on = absurd (let contradiction : false ≡ true = on in cc)
found_by (at.LookingRegion b) block on = absurd (let contradiction : false ≡ true = on in cc)
found_by (at.LookingPage b) block on = absurd (let contradiction : false ≡ true = on in cc)
found_by (at.Taking b) block on = absurd (let contradiction : false ≡ true = on in cc)
found_by (at.Filling b) block on = absurd (let contradiction : false ≡ true = on in cc)
found_by (at.Settling b) block on = absurd (let contradiction : false ≡ true = on in cc)
found_by (at.HandRegion b left) block on = absurd (let contradiction : false ≡ true = on in cc)
found_by (at.HandPage b left) block on = absurd (let contradiction : false ≡ true = on in cc)
found_by (at.WritingBack b) block on = absurd (let contradiction : false ≡ true = on in cc)
found_by (at.Passing b) block on = absurd (let contradiction : false ≡ true = on in cc)
found_by (at.Moving b) block on = absurd (let contradiction : false ≡ true = on in cc)
found_by (at.Leaving b) block on = absurd (let contradiction : false ≡ true = on in cc)
found_by (at.Freeing b) block on = absurd (let contradiction : false ≡ true = on in cc)
found_by (at.TakingLast b) block on = absurd (let contradiction : false ≡ true = on in cc)
found_by (at.FlushRegion b) block on = absurd (let contradiction : false ≡ true = on in cc)
found_by (at.FlushPage b) block on = absurd (let contradiction : false ≡ true = on in cc)
found_by (at.FlushWriting b) block on = absurd (let contradiction : false ≡ true = on in cc)
found_by (at.FlushSettling b) block on = absurd (let contradiction : false ≡ true = on in cc)

-- ---- the numbers

itself : (b : ℕ) → (b == b) ≡ true
itself b = grind (arith, nat_tests)

-- of a place that is for this block
own_wait : (block c u : ℕ) (place : CachePlace) → IsFor block place → wait_left block place c u ≡ near_left place c u
own_wait block c u place (fetches on same) =
    (λ i. wait_by (on i) (same i == block) (is_found block place) (near_left place c u))
    ∙ (λ i. wait_by true (itself block i) (is_found block place) (near_left place c u))
own_wait block c u place (finds is) =
    (λ i. wait_left block (is i) c u) ∙ (λ i. wait_by false (block == block) (itself block i) (held_left c u)) ∙ sym (λ i. near_left (is i) c u)

-- of one that is for another
other_wait : (block other c u : ℕ) (place : CachePlace) → (other == block) ≡ false → IsFor other place →
    wait_left block place c u ≡ near_left place c u + steps_to_begin
other_wait block other c u place off (fetches on same) =
    (λ i. wait_by (on i) (same i == block) (is_found block place) (near_left place c u))
    ∙ (λ i. wait_by true (off i) (is_found block place) (near_left place c u))
other_wait block other c u place off (finds found) =
    (λ i. wait_left block (found i) c u) ∙ (λ i. wait_by false (other == block) (off i) (held_left c u))
    ∙ sym (λ i. near_left (found i) c u + steps_to_begin)

module _ (place : CachePlace) (hand word block : ℕ) (v w : CacheView) (not_found : is_found block place ≡ false) where
  abbrev Falls : CachePlace → Type 0
  Falls from =
      let next = next_by from hand word in
      next.told ≡ told.Going → left_by near_left next.state.place w < left_by near_left from v →
      left_by (wait_left block) next.state.place w < left_by (wait_left block) place v

  less_by : (a b c d k : ℕ) → a ≡ c + k → b ≡ d + k → c < d → a < b
  less_by a b c d k first second lt = omega (arith, first, second, lt)

  none_more : (a c : ℕ) → a ≡ c → a ≡ c + 0
  none_more a c is = omega (arith, is)

  on_the_way : is_fetching place ≡ true → (t : Bool) → (block_at place == block) ≡ t → Falls place
  on_the_way on true same going fell =
      let for_it : block_at place ≡ block = grind (arith, nat_tests) in
      let next = next_by place hand word in
      let still = subst (λ (b : ℕ). IsFor b next.state.place) for_it (goes_for place hand word on going) in
      less_by (left_by (wait_left block) next.state.place w) (left_by (wait_left block) place v) (left_by near_left next.state.place w)
      (left_by near_left place v) 0
      (none_more (left_by (wait_left block) next.state.place w) (left_by near_left next.state.place w)
      (own_wait block (cached_count w.row) (used_count w.row) next.state.place still))
      (none_more (left_by (wait_left block) place v) (left_by near_left place v)
      (own_wait block (cached_count v.row) (used_count v.row) place (fetches on for_it))) fell
  on_the_way on false other going fell =
      let next = next_by place hand word in
      less_by (left_by (wait_left block) next.state.place w) (left_by (wait_left block) place v) (left_by near_left next.state.place w)
      (left_by near_left place v) steps_to_begin
      (other_wait block (block_at place) (cached_count w.row) (used_count w.row) next.state.place other (goes_for place hand word on going))
      (other_wait block (block_at place) (cached_count v.row) (used_count v.row) place other (fetches on refl)) fell

  -- one that has not begun
  begun_wait : (c u : ℕ) (p : CachePlace) → is_fetching p ≡ false → near_left p c u ≡ held_left c u
  begun_wait c u at.Resting off = refl
  begun_wait c u (at.Found b) off = refl
  begun_wait c u (at.FlushRegion b) off = refl
  begun_wait c u (at.FlushPage b) off = refl
  begun_wait c u (at.FlushWriting b) off = refl
  begun_wait c u (at.FlushSettling b) off = refl
  begun_wait c u (at.LookingRegion b) off = absurd (let contradiction : true ≡ false = off in cc)
  begun_wait c u (at.LookingPage b) off = absurd (let contradiction : true ≡ false = off in cc)
  begun_wait c u (at.Taking b) off = absurd (let contradiction : true ≡ false = off in cc)
  begun_wait c u (at.Filling b) off = absurd (let contradiction : true ≡ false = off in cc)
  begun_wait c u (at.Settling b) off = absurd (let contradiction : true ≡ false = off in cc)
  begun_wait c u (at.HandRegion b left) off = absurd (let contradiction : true ≡ false = off in cc)
  begun_wait c u (at.HandPage b left) off = absurd (let contradiction : true ≡ false = off in cc)
  begun_wait c u (at.WritingBack b) off = absurd (let contradiction : true ≡ false = off in cc)
  begun_wait c u (at.Passing b) off = absurd (let contradiction : true ≡ false = off in cc)
  begun_wait c u (at.Moving b) off = absurd (let contradiction : true ≡ false = off in cc)
  begun_wait c u (at.Leaving b) off = absurd (let contradiction : true ≡ false = off in cc)
  begun_wait c u (at.Freeing b) off = absurd (let contradiction : true ≡ false = off in cc)
  begun_wait c u (at.TakingLast b) off = absurd (let contradiction : true ≡ false = off in cc)

  from_begin : (a b c h n : ℕ) → a ≡ c → b ≡ n + steps_to_begin → n ≡ h → c < h + (steps_to_take + 2) → a < b
  from_begin a b c h n one two three lt = omega (arith, one, two, three, lt)

  by_begin : Begins block place → Falls (fetching place block)
  by_begin (under_way on is) = subst Falls (sym is) (on_the_way on (block_at place == block) refl)
  by_begin (begins off is) = subst Falls (sym is)
      (λ going fell. (let next = next_by (at.LookingRegion block) hand word in
      from_begin (left_by (wait_left block) next.state.place w) (left_by (wait_left block) place v) (left_by near_left next.state.place w)
      (held_left (cached_count v.row) (used_count v.row)) (left_by near_left place v)
      (own_wait block (cached_count w.row) (used_count w.row) next.state.place (goes_for (at.LookingRegion block) hand word refl going))
      ((λ i. wait_by (off i) (block_at place == block) (is_found block place) (left_by near_left place v))
      ∙ (λ i. wait_by false (block_at place == block) (not_found i) (left_by near_left place v)))
      (begun_wait (cached_count v.row) (used_count v.row) place off) fell))

  pub wait_falls : Falls (fetching place block)
  wait_falls = by_begin (fetch_begins place block)

-- ---- at most

-- of each place, by its last word
pub fetch_most : (n block left c u : ℕ) → u ≤ c → fetch_left (place_in n block left) c u ≤ taking_left c + 2 * left + 10
unfolding place_in
fetch_most n block left c u most =
    by (n == 0) at.Resting _ none (by (n == 1) (at.Found block) _ none (by (n == 2) (at.LookingRegion block) _ (begun 2 (omega arith))
    (by (n == 3) (at.LookingPage block) _ (begun 1 (omega arith)) (by (n == 4) (at.Taking block) _ taken
    (by (n == 5) (at.Filling block) _ (few 2 (omega arith)) (by (n == 6) (at.Settling block) _ (few 1 (omega arith))
    (by (n == 7) (at.HandRegion block left) _ (handed 3 (omega arith)) (by (n == 8) (at.HandPage block left) _ (handed 2 (omega arith))
    (by (n == 9) (at.WritingBack block) _ (given 2 (omega arith)) (by (n == 10) (at.Passing block) _ (given 1 (omega arith))
    (by (n == 11) (at.Moving block) _ (given 3 (omega arith)) (by (n == 12) (at.Leaving block) _ (few 3 (omega arith))
    (by (n == 13) (at.Freeing block) _ (given 2 (omega arith)) (by (n == 14) (at.TakingLast block) _ (few 4 (omega arith))
    (by (n == 15) (at.FlushRegion block) _ none (by (n == 16) (at.FlushPage block) _ none (by (n == 17) (at.FlushWriting block) (at.FlushSettling block) none none)))))))))))))))))
  where
    by : (t : Bool) (x y : CachePlace) → fetch_left x c u ≤ taking_left c + 2 * left + 10 →
        fetch_left y c u ≤ taking_left c + 2 * left + 10 → fetch_left (if t then x else y) c u ≤ taking_left c + 2 * left + 10
    by true x y first second = first
    by false x y first second = second

    none : 0 ≤ taking_left c + 2 * left + 10
    none = omega arith

    taken : taking_left c ≤ taking_left c + 2 * left + 10
    taken = omega arith

    few : (k : ℕ) → k ≤ 10 → k ≤ taking_left c + 2 * left + 10
    few k le = omega (arith, le)

    begun : (k : ℕ) → k ≤ 10 → taking_left c + k ≤ taking_left c + 2 * left + 10
    begun k le = omega (arith, le)

    handed : (k : ℕ) → k ≤ 10 → giving_left c u + 2 * left + k ≤ taking_left c + 2 * left + 10
    handed k le = omega (arith, le, most)

    given : (k : ℕ) → k ≤ 10 → giving_left c u + k ≤ taking_left c + 2 * left + 10
    given k le = omega (arith, le, most)

-- what is near
pub near_most : (n block left c u : ℕ) → near_left (place_in n block left) c u ≤ held_left c u + (steps_to_begin + 2 * left)
unfolding place_in
near_most n block left c u =
    by (n == 0) at.Resting _ none (by (n == 1) (at.Found block) _ none (by (n == 2) (at.LookingRegion block) _ (omega arith)
    (by (n == 3) (at.LookingPage block) _ (omega arith) (by (n == 4) (at.Taking block) _ (omega arith)
    (by (n == 5) (at.Filling block) _ (omega arith) (by (n == 6) (at.Settling block) _ (omega arith)
    (by (n == 7) (at.HandRegion block left) _ (omega arith) (by (n == 8) (at.HandPage block left) _ (omega arith)
    (by (n == 9) (at.WritingBack block) _ (omega arith) (by (n == 10) (at.Passing block) _ (omega arith)
    (by (n == 11) (at.Moving block) _ (omega arith) (by (n == 12) (at.Leaving block) _ (omega arith)
    (by (n == 13) (at.Freeing block) _ (omega arith) (by (n == 14) (at.TakingLast block) _ (omega arith)
    (by (n == 15) (at.FlushRegion block) _ none (by (n == 16) (at.FlushPage block) _ none
    (by (n == 17) (at.FlushWriting block) (at.FlushSettling block) none none)))))))))))))))))
  where
    by : (t : Bool) (x y : CachePlace) → near_left x c u ≤ held_left c u + (steps_to_begin + 2 * left) →
        near_left y c u ≤ held_left c u + (steps_to_begin + 2 * left) → near_left (if t then x else y) c u ≤ held_left c u + (steps_to_begin + 2 * left)
    by true x y first second = first
    by false x y first second = second

    none : held_left c u ≤ held_left c u + (steps_to_begin + 2 * left)
    none = omega arith

-- of a wait, where that word is one
pub other_most : (n k left c u : ℕ) → c ≤ CACHE_BLOCKS → u ≤ c → left < 2 ^ 32 → other_left (place_in n k left) c u ≤ WAIT_STEPS_MAX
other_most n k left c u cached used word = within (near_left (place_in n k left) c u) c u left cached used (near_most n k left c u) word
  where
    within : (x c u left : ℕ) → c ≤ CACHE_BLOCKS → u ≤ c → x ≤ held_left c u + (steps_to_begin + 2 * left) → left < 2 ^ 32 →
        x + steps_to_begin ≤ WAIT_STEPS_MAX
    within x c u left one two three four = omega (arith, one, two, three, four)

-- a wait is among these
pub wait_under : (block : ℕ) (place : CachePlace) (c u : ℕ) → wait_left block place c u ≤ other_left place c u
wait_under block place c u = by (is_fetching place) (block_at place == block) (is_found block place) (near_left place c u)
  where
    by : (on own found : Bool) (left : ℕ) → wait_by on own found left ≤ left + steps_to_begin
    by true true found left = omega arith
    by true false found left = omega arith
    by false own true left = omega arith
    by false own false left = omega arith

pub wait_over : (block : ℕ) (place : CachePlace) (c u : ℕ) → near_left place c u ≤ wait_left block place c u
wait_over block place c u = by (is_fetching place) (block_at place == block) (is_found block place) (near_left place c u)
  where
    by : (on own found : Bool) (left : ℕ) → left ≤ wait_by on own found left
    by true true found left = omega arith
    by true false found left = omega arith
    by false own true left = omega arith
    by false own false left = omega arith

-- where one page more was used
pub near_used : (place : CachePlace) (c u v : ℕ) → v ≤ u + 1 → near_left place c v ≤ near_left place c u + steps_of_round
near_used at.Resting c u v most = omega (arith, most)
near_used (at.Found b) c u v most = omega (arith, most)
near_used (at.LookingRegion b) c u v most = omega (arith, most)
near_used (at.LookingPage b) c u v most = omega (arith, most)
near_used (at.Taking b) c u v most = omega (arith, most)
near_used (at.Filling b) c u v most = omega (arith, most)
near_used (at.Settling b) c u v most = omega (arith, most)
near_used (at.HandRegion b left) c u v most = omega (arith, most)
near_used (at.HandPage b left) c u v most = omega (arith, most)
near_used (at.WritingBack b) c u v most = omega (arith, most)
near_used (at.Passing b) c u v most = omega (arith, most)
near_used (at.Moving b) c u v most = omega (arith, most)
near_used (at.Leaving b) c u v most = omega (arith, most)
near_used (at.Freeing b) c u v most = omega (arith, most)
near_used (at.TakingLast b) c u v most = omega (arith, most)
near_used (at.FlushRegion b) c u v most = omega (arith, most)
near_used (at.FlushPage b) c u v most = omega (arith, most)
near_used (at.FlushWriting b) c u v most = omega (arith, most)
near_used (at.FlushSettling b) c u v most = omega (arith, most)

-- and of a flush
pub flushing_most : (n k left c u : ℕ) → c ≤ CACHE_BLOCKS → u ≤ c → left < 2 ^ 32 → flush_left (place_in n k left) c u ≤ FLUSH_STEPS_MAX
flushing_most n k left c u cached used word =
    within (flush_left (place_in n k left) c u) (fetch_left (place_in n k left) c u) c left cached (flush_most (place_in n k left) c u)
    (fetch_most n k left c u used) word
  where
    within : (g f c left : ℕ) → c ≤ CACHE_BLOCKS → g ≤ 5 * CACHE_BLOCKS + 5 + f → f ≤ taking_left c + 2 * left + 10 → left < 2 ^ 32 →
        g ≤ FLUSH_STEPS_MAX
    within g f c left most more le word = omega (arith, most, more, le, word)
