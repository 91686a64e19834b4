-- The round of the blocks: where the hand comes next, and which blocks it has passed. And regions of 1,024 blocks.
use Rattle.std.proofs.Common.{◌≡◌, ◌≢◌, ◌∙◌, ◌<◌, ◌≤◌, ◌+◌, ◌-◌, ◌/◌, ◌%◌, ◌==◌, ◌⊎◌, inl, inr, ℕ, false, None, sym, ap, arith}
use Rattle.std.proofs.lemmas.Bool.Decides.{nat_tests}
use Rattle.jos_base.specs.declared.numbers.TheConstants.{NPTENTRIES}
use Rattle.lib_os.specs.declared.numbers.TheConstants.{CACHE_BLOCKS}
use Rattle.lib_os.specs.Rows.{EntryRow}
use Rattle.fs_blocks.specs.CachePlans.{block_of, further, rest_of_region}
use Rattle.fs_cache.specs.CacheStands.{NonePassed}

-- ---- the round

pub own_number : (b : ℕ) → b < CACHE_BLOCKS → block_of b ≡ b
own_number b below = omega arith

pub further_below : (hand i : ℕ) → further hand i < CACHE_BLOCKS
further_below hand i = omega arith

further_within : (hand i : ℕ) → hand < CACHE_BLOCKS → hand + i < CACHE_BLOCKS → further hand i ≡ hand + i
further_within hand i below within = omega arith

further_round : (hand i : ℕ) → hand < CACHE_BLOCKS → i ≤ CACHE_BLOCKS → CACHE_BLOCKS ≤ hand + i → further hand i ≡ hand + i - CACHE_BLOCKS
further_round hand i below few past = omega arith

within_or_round : (n : ℕ) → (n < CACHE_BLOCKS) ⊎ (CACHE_BLOCKS ≤ n)
within_or_round n = grind arith

-- Where the hand goes on by some blocks, what is so far behind it is behind the place where it was.
further_twice : (hand k i : ℕ) → hand < CACHE_BLOCKS → k ≤ CACHE_BLOCKS → i < CACHE_BLOCKS → k + i < CACHE_BLOCKS →
    further hand (k + i) ≡ further (further hand k) i
further_twice hand k i below few index within = omega arith

further_back : (hand k i : ℕ) → hand < CACHE_BLOCKS → k ≤ CACHE_BLOCKS → i < CACHE_BLOCKS → CACHE_BLOCKS ≤ k + i →
    further hand (k + i - CACHE_BLOCKS) ≡ further (further hand k) i
further_back hand k i below few index past = omega arith

-- ---- the blocks that are passed

abbrev pub NoneAhead : EntryRow → ℕ → ℕ → Type 0
NoneAhead row hand blocks = (i : ℕ) → i < blocks → row (further hand i) ≡ None

module _ (row : EntryRow) (hand left blocks : ℕ) (below : hand < CACHE_BLOCKS) (few : blocks ≤ CACHE_BLOCKS) (none : NonePassed row hand left)
    (ahead : NoneAhead row hand blocks) where
  pub passed_on : NonePassed row (further hand blocks) (left - blocks)
  passed_on i from index = elim (within_or_round (blocks + i)) [
    | inl within ↦ ap row (sym (further_twice hand blocks i below few index within)) ∙ none (blocks + i) (omega arith) within
    | inr past ↦ ap row (sym (further_back hand blocks i below few index past)) ∙ ahead (blocks + i - CACHE_BLOCKS) (omega arith)
  ]

  -- what is ahead or passed has no page
  each_none : left ≤ blocks → (i : ℕ) → i < CACHE_BLOCKS → row (further hand i) ≡ None
  each_none all i index = elim by_place [
    | inl is ↦ ahead i is
    | inr is ↦ none i (omega arith) index
  ]
    where
      by_place : (i < blocks) ⊎ (blocks ≤ i)
      by_place = grind arith

  pub none_left : left ≤ blocks → (n : ℕ) → n < CACHE_BLOCKS → row n ≡ None
  none_left all n index = elim by_place [
    | inl is ↦
        let at : further hand (n - hand) ≡ n = omega arith in
        ap row (sym at) ∙ each_none all (n - hand) (omega arith)
    | inr is ↦
        let at : further hand (n + CACHE_BLOCKS - hand) ≡ n = omega arith in
        ap row (sym at) ∙ each_none all (n + CACHE_BLOCKS - hand) (omega arith)
  ]
    where
      by_place : (hand ≤ n) ⊎ (n < hand)
      by_place = grind arith

-- the block at hand alone
pub one_ahead : (row : EntryRow) (hand : ℕ) → hand < CACHE_BLOCKS → row hand ≡ None → NoneAhead row hand 1
one_ahead row hand below none i index = let at : further hand i ≡ hand = omega arith in ap row at ∙ none

-- ---- regions

in_rest : (hand i : ℕ) → hand < CACHE_BLOCKS → i < rest_of_region hand → further hand i / NPTENTRIES ≡ hand / NPTENTRIES
in_rest hand i below index = omega arith

pub rest_ahead : (row : EntryRow) (hand : ℕ) → hand < CACHE_BLOCKS → ((n : ℕ) → n / NPTENTRIES ≡ hand / NPTENTRIES → row n ≡ None) →
    NoneAhead row hand (rest_of_region hand)
rest_ahead row hand below none i index = none (further hand i) (in_rest hand i below index)

pub rest_few : (hand : ℕ) → rest_of_region hand ≤ CACHE_BLOCKS
rest_few hand = omega arith

-- behind the rest of a region another begins
pub next_region : (hand : ℕ) → hand < CACHE_BLOCKS → further hand (rest_of_region hand) % NPTENTRIES ≡ 0
next_region hand below = omega arith

pub next_region_of_flush : (b : ℕ) → b < CACHE_BLOCKS → (block_of b + rest_of_region b) % NPTENTRIES ≡ 0
next_region_of_flush b below = omega arith

-- the next block is in the same region where it does not begin one
pub same_region : (hand : ℕ) → hand < CACHE_BLOCKS → (further hand 1 % NPTENTRIES == 0) ≡ false → further hand 1 / NPTENTRIES ≡ hand / NPTENTRIES
same_region hand below test =
    let other : further hand 1 % NPTENTRIES ≢ 0 = grind (arith, nat_tests) in
    omega arith

pub same_region_of_flush : (b : ℕ) → b < CACHE_BLOCKS → ((block_of b + 1) % NPTENTRIES == 0) ≡ false →
    (block_of b + 1) / NPTENTRIES ≡ b / NPTENTRIES
same_region_of_flush b below test =
    let other : (block_of b + 1) % NPTENTRIES ≢ 0 = grind (arith, nat_tests) in
    omega arith

-- the rest of a region
pub rest_is_region : (b n : ℕ) → b < CACHE_BLOCKS → b ≤ n → n < block_of b + rest_of_region b → n / NPTENTRIES ≡ b / NPTENTRIES
rest_is_region b n below from index = omega arith
