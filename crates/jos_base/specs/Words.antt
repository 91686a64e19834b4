-- Words, pages and maps.
-- Words have 32 bits. Pages are lists of bytes. What an address says is the page, and the place in it.
-- (MIT 6.828, inc/mmu.h: PGNUM and PGOFF)
use Rattle.std.specs.Prelude.{ℕ, ◌+◌, ◌-◌, ◌/◌, ◌%◌, ◌^◌, ◌==◌, Bool, false, [], ◌∷◌, Option, Some, None, Result, Ok, Err, bit_and, if◌then◌else◌}
use Rattle.std.specs.Int.{w32, from_le_bytes}
use Rattle.jos_base.specs.declared.numbers.TheConstants.{PGSIZE}

abbrev pub page_number : ℕ → ℕ
page_number va = va / PGSIZE

abbrev pub page_offset : ℕ → ℕ
page_offset va = va % PGSIZE

-- what an error's number is answered as
abbrev pub negated : ℕ → ℕ
negated error = 2 ^ 32 - error

-- the map with this value at the key, and as it was elsewhere
unfoldable pub upd : {V : Type 0} → (ℕ → V) → ℕ → V → ℕ → V
upd f key value q = if q == key then value else f q

-- four bytes from a place on as a word, the lowest first
abbrev pub word_at : (ℕ → ℕ) → ℕ → ℕ
word_at byte at = from_le_bytes w32 (byte at ∷ byte (at + 1) ∷ byte (at + 2) ∷ byte (at + 3) ∷ [])

-- all bits of the one are set in the other
abbrev pub has_bit : ℕ → ℕ → Bool
has_bit word bit = bit_and word bit == bit

-- there is a number, and it is this one
abbrev pub is_exactly : ℕ → Option ℕ → Bool
is_exactly n None = false
is_exactly n (Some other) = other == n

-- the second where the first is there; a `do` of what may fail has this
infixl 10 ◌>>=◌
abbrev pub ◌>>=◌ : {A B E : Type 0} → Result A E → (A → Result B E) → Result B E
(Ok x) >>= next = next x
(Err e) >>= next = Err e
