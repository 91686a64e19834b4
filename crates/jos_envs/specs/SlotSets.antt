-- Sets of slots, as tests and as bits.
use Rattle.std.specs.Prelude.{◌≡◌, ℕ, ◌<◌, ◌≤◌, ◌/◌, ◌%◌, ◌==◌, Bool, true, false, List, get_or, Option, Some, None}
use Rattle.std.specs.Int.{bit_at}
use Rattle.jos_base.specs.declared.numbers.TheConstants.{NENV}

-- is the slot's bit set in words of 64 bits?
unfoldable pub contains : List ℕ → ℕ → Bool
contains words slot = bit_at (get_or words (slot / 64) 0) (slot % 64) == 1

unfoldable pub empty : ℕ → Bool
empty slot = false

-- the first slot of the table, from a slot on, that passes the test; None where there is none
pub record IsFirstSlotAt (test : ℕ → Bool) (from slot : ℕ) : Type 0 where
  pub behind : from ≤ slot
  pub within : slot < NENV
  pub passes : test slot ≡ true
  pub others : (other : ℕ) → from ≤ other → other < slot → test other ≡ false

abbrev pub IsFirstSlot : (ℕ → Bool) → ℕ → Option ℕ → Type 0
IsFirstSlot test from None = (slot : ℕ) → from ≤ slot → slot < NENV → test slot ≡ false
IsFirstSlot test from (Some slot) = IsFirstSlotAt test from slot

-- the lowest bit of a word of 64 bits, from a place on, that is set; None where there is none
pub record IsLowestAt (word place bit : ℕ) : Type 0 where
  pub behind : place ≤ bit
  pub within : bit < 64
  pub is_set : bit_at word bit ≡ 1
  pub others : (other : ℕ) → place ≤ other → other < bit → bit_at word other ≡ 0

abbrev pub IsLowest : ℕ → ℕ → Option ℕ → Type 0
IsLowest word place None = (bit : ℕ) → place ≤ bit → bit < 64 → bit_at word bit ≡ 0
IsLowest word place (Some bit) = IsLowestAt word place bit
