-- The lines that the kernel prints when it destroys an environment. `%08x` is eight hexadecimal digits in
-- lower case, `%x` has no leading zeros, and `%u` is decimal.
-- (MIT 6.828, kern/trap.c and kern/pmap.c; the line of a trap is this system's own.)
use Rattle.std.specs.Prelude.{ℕ, ◌+◌, ◌/◌, ◌%◌, ◌^◌, ◌==◌, nat_lt, not, List, [], ◌∷◌, ◌++◌, take, drop, position}
use Rattle.std.specs.Prelude.{unwrap_or, codes, decimal, if◌then◌else◌}
use Rattle.jos_base.specs.declared.line.Line.{Line}
use Rattle.jos_base.specs.declared.line.Line.TheVariants.{UserFault, UserMemCheck, Trap}

abbrev pub hex_digit : ℕ → ℕ
hex_digit n = if nat_lt n 10 then n + 48 else n + 87

-- %08x
unfoldable pub hex_word : ℕ → List ℕ
hex_word n =
    hex_digit (n / 2 ^ 28) ∷ hex_digit (n / 2 ^ 24 % 16) ∷ hex_digit (n / 2 ^ 20 % 16) ∷ hex_digit (n / 2 ^ 16 % 16)
    ∷ hex_digit (n / 2 ^ 12 % 16) ∷ hex_digit (n / 2 ^ 8 % 16) ∷ hex_digit (n / 2 ^ 4 % 16) ∷ hex_digit (n % 16) ∷ []

-- %x: from the first of the digits that is not `0`, and at least the last of them
unfoldable pub hex : ℕ → List ℕ
hex n = drop (unwrap_or (position (λ digit. not (digit == 48)) (take 7 (hex_word n))) 7) (hex_word n)

unfoldable pub user_fault_line : ℕ → ℕ → ℕ → List ℕ
user_fault_line id va ip =
    codes "[" ++ hex_word id ++ codes "] user fault va " ++ hex_word va ++ codes " ip " ++ hex_word ip ++ codes "\n"

unfoldable pub user_mem_check_line : ℕ → ℕ → List ℕ
user_mem_check_line id va =
    codes "[" ++ hex_word id ++ codes "] user_mem_check assertion failure for va " ++ hex_word va ++ codes "\n"

unfoldable pub trap_line : ℕ → ℕ → ℕ → ℕ → List ℕ
trap_line id trap error ip =
    codes "[" ++ hex_word id ++ codes "] trap " ++ decimal trap ++ codes " err " ++ hex error ++ codes " ip " ++ hex_word ip ++ codes "\n"

-- The line by which a list of traps tells of one: whose it was, its number and error code, the address of a page fault or
-- else 0, and the address that it is told for. (This system's own.)
unfoldable pub trace_line : ℕ → ℕ → ℕ → ℕ → ℕ → List ℕ
trace_line id trap error va ip =
    codes "[" ++ hex_word id ++ codes "] trap " ++ decimal trap ++ codes " err " ++ hex error ++ codes " va " ++ hex_word va
    ++ codes " ip " ++ hex_word ip ++ codes "\n"

-- the line of an environment's end
abbrev pub line_text : ℕ → Line → List ℕ
line_text id (UserFault va ip) = user_fault_line id va ip
line_text id (UserMemCheck va) = user_mem_check_line id va
line_text id (Trap number error ip) = trap_line id number error ip
