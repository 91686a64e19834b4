-- The named byte lists of a host, as a directory of files shows them to a program: a name is the bytes of
-- a text, and each name has its bytes or is absent.
use Rattle.std.specs.Prelude.{◌≡◌, ℕ, ◌+◌, ◌≤◌, List, [], ◌++◌, length, take, drop, max, Option, Some, unwrap_or}
use Rattle.std.specs.Prelude.{if◌then◌else◌}
use Rattle.std.specs.Str.{bytes_eq}

abbrev pub Files : Type 0
Files = List ℕ → Option (List ℕ)

-- the files with these bytes under the name, and every other name as it was
abbrev pub with_bytes : Files → List ℕ → List ℕ → Files
with_bytes files name bytes = λ q. if bytes_eq q name then Some bytes else files q

-- a name that is absent reads as empty
abbrev pub bytes_of : Files → List ℕ → List ℕ
bytes_of files name = unwrap_or (files name) []

-- the bytes with these written from a place on, which replace what was there and extend the list
abbrev pub overwritten : List ℕ → ℕ → List ℕ → List ℕ
overwritten old at bytes = take at old ++ bytes ++ drop (at + length bytes) old

-- every other name keeps its bytes
abbrev pub SameElsewhere : Files → List ℕ → Files → Type 0
SameElsewhere old name new = (q : List ℕ) → (q ≡ name → ⊥) → new q ≡ old q

-- After a write of n bytes that failed somewhere: any bytes in the range that was to be written, and the
-- same elsewhere.
pub record Torn (at n : ℕ) (old new : List ℕ) : Type 0 where
  pub before : take at new ≡ take at old
  pub after : drop (at + n) new ≡ drop (at + n) old
  pub no_shorter : length old ≤ length new
  pub no_longer : length new ≤ max (length old) (at + n)
