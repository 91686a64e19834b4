-- The values of options. (This system's own.)
use Rattle.std.specs.Prelude.{ℕ, ◌==◌, ◌&&◌, not, nat_le, Bool, false, List, [], ◌∷◌, length, Option, Some, None}
use Rattle.std.specs.Prelude.{if◌then◌else◌}
use Rattle.std.specs.Str.{all_ascii_digits}
use Rattle.std.specs.Str.Parse.{digits_value}
use Rattle.jos_words.specs.declared.values.TheConstants.{DIGITS_MAX}

-- a value is not empty and does not begin with `-`
abbrev pub is_value : List ℕ → Bool
is_value [] = false
is_value (first ∷ rest) = not (first == 45)

-- 1 to 20 decimal digits, of which the first ones may be 0
abbrev pub is_number : List ℕ → Bool
is_number text = nat_le 1 (length text) && nat_le (length text) DIGITS_MAX && all_ascii_digits text

-- the number that they write
unfoldable pub number_of : List ℕ → Option ℕ
number_of text = if is_number text then Some (digits_value 10 text) else None
