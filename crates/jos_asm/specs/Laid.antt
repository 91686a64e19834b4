-- What the bytes of a program hold at the place of each item. Nothing is said of how they are found.
use Rattle.std.specs.Prelude.{◌≡◌, ℕ, ◌+◌, ◌%◌, ◌^◌, List, [], ◌∷◌, length, take, drop, Some}
use Rattle.jos_isa.specs.Encoding.{encoded}
use Rattle.jos_isa.specs.Moves.{mov}
use Rattle.jos_asm.specs.declared.item.Item.{Item}
use Rattle.jos_asm.specs.declared.item.Item.TheVariants as item
use Rattle.jos_asm.specs.Items.{relative, length_of}
use Rattle.jos_asm.specs.Program.{Program, place_in}

abbrev pub IsLaidAt : List ℕ → ℕ → List ℕ → Type 0
IsLaidAt code at bytes = take (length bytes) (drop at code) ≡ bytes

-- A label names its place. An instruction has its bytes there, and so has a jump with the distance that leads, from
-- the next instruction, to its label, modulo 2^32, and a move with its label's address.
abbrev pub IsLaid : Program → List ℕ → ℕ → Item → Type 0
IsLaid p code at (item.Label name) = place_in p.items name ≡ Some at
IsLaid p code at (item.Insn insn) = IsLaidAt code at (encoded insn)
IsLaid p code at (item.Jump row name) =
    (place distance : ℕ) × (place_in p.items name ≡ Some place)
    × ((at + length_of (item.Jump row name) + distance) % 2 ^ 32 ≡ place)
    × IsLaidAt code at (encoded (relative row distance))
IsLaid p code at (item.Address reg name) =
    (place : ℕ) × (place_in p.items name ≡ Some place)
    × IsLaidAt code at (encoded (mov reg ((p.base + place) % 2 ^ 32)))
IsLaid p code at (item.Bytes bytes) = IsLaidAt code at bytes

-- each item, behind those before it, the first of these at `at`
abbrev pub AreLaidFrom : Program → List ℕ → ℕ → List Item → Type 0
AreLaidFrom p code at [] = Unit {0}
AreLaidFrom p code at (i ∷ items) = IsLaid p code at i × AreLaidFrom p code (at + length_of i) items

unfoldable pub AreLaid : Program → List ℕ → Type 0
AreLaid p code = AreLaidFrom p code 0 p.items
