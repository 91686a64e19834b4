-- What a record and the super block say depends on their bytes alone, wherever these stand.
use Rattle.std.specs.Prelude.{◌≡◌, ℕ, ◌+◌, ◌<◌}
use Rattle.fs_layout.specs.declared.numbers.TheConstants.{RECORDSIZE, ROOT_AT}
use Rattle.fs_layout.specs.Layout.{file_entry_at, super_at}

-- so many bytes from one place on are those from another place on
abbrev pub Same : ℕ → (ℕ → ℕ) → ℕ → (ℕ → ℕ) → ℕ → Type 0
Same n byte at other place = (k : ℕ) → k < n → byte (at + k) ≡ other (place + k)

abbrev pub EntriesAreTheirBytes : Type 0
EntriesAreTheirBytes = (byte : ℕ → ℕ) (at : ℕ) (other : ℕ → ℕ) (place : ℕ) →
    Same RECORDSIZE byte at other place → file_entry_at byte at ≡ file_entry_at other place

abbrev pub SupersAreTheirBytes : Type 0
SupersAreTheirBytes = (byte : ℕ → ℕ) (at : ℕ) (other : ℕ → ℕ) (place : ℕ) →
    Same (ROOT_AT + RECORDSIZE) byte at other place → super_at byte at ≡ super_at other place
