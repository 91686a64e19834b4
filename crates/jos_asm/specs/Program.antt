-- What a program is spelled as, or which fault it has. (This system's own.)
use Rattle.std.specs.Prelude.{ℕ, ◌+◌, ◌-◌, ◌%◌, ◌^◌, ◌&&◌, ◌||◌, not, is_some, nat_le, nat_lt, Bool, false, List, []}
use Rattle.std.specs.Prelude.{◌∷◌, ◌++◌, Option, Some, None, unwrap_or, Result, Ok, Err, if◌then◌else◌}
use Rattle.std.specs.List.{list_any}
use Rattle.std.specs.Str.{bytes_eq}
use Rattle.jos_isa.specs.declared.instruction.Row.{Row}
use Rattle.jos_isa.specs.Encoding.{encoded}
use Rattle.jos_isa.specs.Moves.{mov}
use Rattle.jos_asm.specs.declared.limits.TheConstants.{CODE_MAX, NEAR_BACK, NEAR_AHEAD}
use Rattle.jos_asm.specs.declared.item.Item.{Item}
use Rattle.jos_asm.specs.declared.item.Item.TheVariants as item
use Rattle.jos_asm.specs.declared.fault.AsmFault.{AsmFault}
use Rattle.jos_asm.specs.declared.fault.AsmFault.TheVariants.{TooLong, Twice, Unknown, Far}
use Rattle.jos_asm.specs.Items.{is_byte_jump, relative, length_of, target_of}

-- where code begins in memory, and its items
pub record Program : Type 0 where
  pub base : ℕ
  pub items : List Item

-- ---- PLACES, in bytes from the beginning

-- how many bytes the items take
unfoldable pub length_of_all : List Item → ℕ
length_of_all [] = 0
length_of_all (i ∷ items) = length_of i + length_of_all items

abbrev pub is_label : List ℕ → Item → Bool
is_label name (item.Label label) = bytes_eq label name
is_label name (item.Insn insn) = false
is_label name (item.Jump row label) = false
is_label name (item.Address reg label) = false
is_label name (item.Bytes bytes) = false

-- where the label of this name is, if the first of the items is at `at`
unfoldable pub place_from : ℕ → List Item → List ℕ → Option ℕ
place_from at [] name = None
place_from at (i ∷ items) name = if is_label name i then Some at else place_from (at + length_of i) items name

abbrev pub place_in : List Item → List ℕ → Option ℕ
place_in items name = place_from 0 items name

-- ---- BYTES

-- The distance to a place from the one behind the jump, as a word: backwards it is negated.
abbrev pub distance : ℕ → ℕ → ℕ
distance behind place = if nat_le behind place then place - behind else 2 ^ 32 - (behind - place)

-- the bytes of an item at `at`, where `place` says where each label is
abbrev pub item_bytes : ℕ → (List ℕ → ℕ) → ℕ → Item → List ℕ
item_bytes base place at (item.Label name) = []
item_bytes base place at (item.Insn insn) = encoded insn
item_bytes base place at (item.Jump row name) = encoded (relative row (distance (at + length_of (item.Jump row name)) (place name)))
item_bytes base place at (item.Address reg name) = encoded (mov reg ((base + place name) % 2 ^ 32))
item_bytes base place at (item.Bytes bytes) = bytes

unfoldable pub spelled_from : ℕ → (List ℕ → ℕ) → ℕ → List Item → List ℕ
spelled_from base place at [] = []
spelled_from base place at (i ∷ items) = item_bytes base place at i ++ spelled_from base place (at + length_of i) items

-- ---- FAULTS

-- the first label that has a name of those before it
unfoldable pub first_twice : List (List ℕ) → List Item → Option (List ℕ)
first_twice before [] = None
first_twice before (item.Label name ∷ items) = if list_any (λ earlier. bytes_eq earlier name) before then Some name else first_twice (name ∷ before) items
first_twice before (item.Insn insn ∷ items) = first_twice before items
first_twice before (item.Jump row name ∷ items) = first_twice before items
first_twice before (item.Address reg name ∷ items) = first_twice before items
first_twice before (item.Bytes bytes ∷ items) = first_twice before items

-- the first name that no label has
abbrev pub is_unknown : (List ℕ → Option ℕ) → Option (List ℕ) → Bool
is_unknown place None = false
is_unknown place (Some name) = not (is_some (place name))

unfoldable pub first_unknown : (List ℕ → Option ℕ) → List Item → Option (List ℕ)
first_unknown place [] = None
first_unknown place (i ∷ items) = if is_unknown place (target_of i) then target_of i else first_unknown place items

-- what a signed byte spans, backwards and forwards
abbrev pub is_near : ℕ → ℕ → Bool
is_near behind place = nat_le behind (place + NEAR_BACK) && nat_le place (behind + NEAR_AHEAD)

abbrev pub reaches : Row → ℕ → ℕ → Bool
reaches row behind place = not (is_byte_jump row) || is_near behind place

-- whether an item at `at` is a jump whose label is out of reach
abbrev pub is_far : (List ℕ → ℕ) → ℕ → Item → Bool
is_far place at (item.Label name) = false
is_far place at (item.Insn insn) = false
is_far place at (item.Jump row name) = not (reaches row (at + length_of (item.Jump row name)) (place name))
is_far place at (item.Address reg name) = false
is_far place at (item.Bytes bytes) = false

-- the first label that is out of reach of its jump
unfoldable pub first_far : (List ℕ → ℕ) → ℕ → List Item → Option (List ℕ)
first_far place at [] = None
first_far place at (i ∷ items) = if is_far place at i then target_of i else first_far place (at + length_of i) items

-- ---- THE ANSWER

-- the fault with this name, if there is one, before what follows
abbrev pub unless : (List ℕ → AsmFault) → Option (List ℕ) → Result (List ℕ) AsmFault → Result (List ℕ) AsmFault
unless fault None answer = answer
unless fault (Some name) answer = Err (fault name)

-- where each label is; one that there is not is unknown, so that its place does not matter
abbrev pub known_place : List Item → List ℕ → ℕ
known_place items name = unwrap_or (place_in items name) 0

unfoldable pub finished : Program → Result (List ℕ) AsmFault
finished p =
    if nat_lt CODE_MAX (length_of_all p.items) then Err TooLong
    else unless Twice (first_twice [] p.items) (
    unless Unknown (first_unknown (place_in p.items) p.items) (
    unless Far (first_far (known_place p.items) 0 p.items) (
    Ok (spelled_from p.base (known_place p.items) 0 p.items))))
