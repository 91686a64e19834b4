-- Input that is taken piece by piece into a buffer. (This system's own.)
use Rattle.std.specs.Prelude.{◌≡◌, ℕ, ◌≤◌, List, [], length, take, drop, Option, Some, None, option_map}

-- The first n bytes of all the input are taken, and stand at the buffer's beginning, where the host tells the input.
abbrev pub HasTaken : Option (List ℕ) → Option (List ℕ) → List ℕ → ℕ → Type 0
HasTaken None left buffer n = left ≡ None
HasTaken (Some all) left buffer n = (n ≤ length all) × (left ≡ Some (drop n all)) × (take n buffer ≡ take n all)

-- nothing is left
abbrev pub IsInputAtEnd : Option (List ℕ) → Type 0
IsInputAtEnd None = Unit {0}
IsInputAtEnd (Some left) = left ≡ []

-- some bytes are gone, and nobody has them
abbrev pub HasLost : Option (List ℕ) → Option (List ℕ) → Type 0
HasLost all left = (n : ℕ) × (left ≡ option_map (λ bytes. drop n bytes) all)
