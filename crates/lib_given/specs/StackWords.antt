-- The page of the stack, as spawn makes it of the strings: where their addresses stand in it, and where their bytes.
-- (MIT 6.828, lib/spawn.c: init_stack.)
use Rattle.std.specs.Prelude.{ℕ, ◌+◌, ◌-◌, ◌*◌, ◌%◌, ◌^◌, ◌==◌, ◌&&◌, nat_le, Bool, min, if◌then◌else◌}
use Rattle.jos_base.specs.declared.numbers.TheConstants.{PGSIZE}
use Rattle.jos_elf.specs.declared.numbers.TheConstants.{ARGS_MAX}
use Rattle.jos_elf.specs.StackPage.{in_words}
use Rattle.lib_os.specs.declared.place.Step.{Step}
use Rattle.lib_os.specs.declared.spawn_steps.GivenStep.TheVariants as given
use Rattle.lib_given.specs.Refusals.{at_given}

-- how much room so many strings take on a stack, that have so many bytes with their NULs, with their addresses and a 0, the place of these, and their
-- number
abbrev pub room : ℕ → ℕ → ℕ
room count size = in_words size + 4 * (count + 1) + 8

abbrev pub fits_page : ℕ → ℕ → Bool
fits_page count size = nat_le 1 count && nat_le count ARGS_MAX && nat_le (room count size) PGSIZE

-- ---- places in the page. The words that keep the numbers may hold anything.

-- where the addresses begin
abbrev pub addresses_place : ℕ → ℕ → ℕ
addresses_place count size = PGSIZE - (in_words (min size PGSIZE) + 4 * (min count ARGS_MAX + 1))

-- where the byte stands that has so many of the strings' before it
abbrev pub byte_place : ℕ → ℕ → ℕ
byte_place size copied = (PGSIZE - min size PGSIZE + copied % PGSIZE) % PGSIZE

-- ---- where it goes on behind a byte: with the next string behind a NUL, and with the place of the addresses behind the last

abbrev pub behind_copy : ℕ → ℕ → ℕ → ℕ → ℕ → Step
behind_copy count size index copied byte =
    if nat_le (size - copied) 1 then at_given (given.StoringArgv count size)
    else if byte == 0 then at_given (given.StringFirst count size ((index + 1) % 2 ^ 32) (copied + 1))
    else at_given (given.StringCopying count size index (copied + 1))
