-- The text of a schedule: decimal numbers with blanks between them. (This system's own.)
use Rattle.std.specs.Prelude.{ℕ, ◌+◌, ◌*◌, ◌-◌, ◌==◌, ◌&&◌, ◌||◌, nat_lt, nat_le, Bool, true, false, List, [], ◌∷◌}
use Rattle.std.specs.Prelude.{Option, Some, None, Result, Ok, Err, if◌then◌else◌}
use Rattle.jos_base.specs.declared.numbers.TheConstants.{QUANTUM}
use Rattle.jos_base.specs.Reach.{front_added}
use Rattle.jos_sched.specs.declared.schedule.TheConstants.{SCHEDULE_MAX, QUANTUM_MAX}
use Rattle.jos_sched.specs.declared.fault.ScheduleFault.{ScheduleFault}
use Rattle.jos_sched.specs.declared.fault.ScheduleFault.TheVariants.{NotANumber, Zero, TooBig, TooMany}

abbrev pub is_digit : ℕ → Bool
is_digit byte = nat_le 48 byte && nat_le byte 57

-- a space, a tab, a carriage return or a line feed
abbrev pub is_blank : ℕ → Bool
is_blank byte = byte == 32 || byte == 9 || byte == 13 || byte == 10

-- the number whose digits begin the bytes, where digits of this value stand before them
unfoldable pub number_behind : ℕ → List ℕ → ℕ
number_behind value [] = value
number_behind value (byte ∷ rest) = if is_digit byte then number_behind (value * 10 + (byte - 48)) rest else value

abbrev pub leading_number : List ℕ → ℕ
leading_number bytes = number_behind 0 bytes

-- what is wrong with a number that begins at a place, behind so many numbers
abbrev pub number_fault : ℕ → ℕ → ℕ → Option ScheduleFault
number_fault count at number =
    if count == SCHEDULE_MAX then Some TooMany
    else if number == 0 then Some (Zero at)
    else if nat_lt QUANTUM_MAX number then Some (TooBig at)
    else None

-- the numbers of a text, or its first fault
abbrev pub Read : Type 0
Read = Result (List ℕ) ScheduleFault

abbrev pub judged : Option ScheduleFault → ℕ → Read → Read
judged None number rest = front_added number rest
judged (Some fault) number rest = Err fault

-- The bytes from a place on, behind so many numbers; `in_number` says whether a digit stands right before them. A
-- number is read at its first digit, and its other digits are passed over.
unfoldable pub read_from : List ℕ → ℕ → Bool → ℕ → Read
read_from [] at in_number count = Ok []
read_from (byte ∷ rest) at in_number count =
    if is_digit byte && in_number then read_from rest (at + 1) true count
    else if is_digit byte then judged (number_fault count at (leading_number (byte ∷ rest))) (leading_number (byte ∷ rest)) (read_from rest (at + 1) true (count + 1))
    else if is_blank byte then read_from rest (at + 1) false count
    else Err (NotANumber at)

-- a text without a number is the schedule of one number
abbrev pub completed : Read → Read
completed (Ok []) = Ok (QUANTUM ∷ [])
completed (Ok (number ∷ numbers)) = Ok (number ∷ numbers)
completed (Err fault) = Err fault

unfoldable pub parsed : List ℕ → Read
parsed text = completed (read_from text 0 false 0)
