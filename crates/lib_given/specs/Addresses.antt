-- The addresses of the strings, in the program's list: what spawn asks to take them, a word or a byte at a time, and where it goes on. 0 stands behind the
-- last, and is kept as they are. There are at most ARGS_MAX.
use Rattle.std.specs.Prelude.{ℕ, ◌+◌, ◌-◌, ◌*◌, ◌%◌, ◌^◌, ◌==◌, ◌&&◌, ◌||◌, not, nat_le, min, if◌then◌else◌}
use Rattle.jos_base.specs.declared.numbers.TheConstants.{PGSIZE}
use Rattle.jos_elf.specs.declared.numbers.TheConstants.{ARGS_MAX}
use Rattle.lib_os.specs.declared.place.Step.{Step}
use Rattle.lib_os.specs.declared.spawn_steps.GivenStep.TheVariants as given
use Rattle.lib_os.specs.Answers.{moved_at_once}
use Rattle.lib_os.specs.Fence.{is_inside}
use Rattle.lib_stage.specs.declared.ask.Ask.{Ask}
use Rattle.lib_stage.specs.declared.ask.Ask.TheVariants as ask
use Rattle.lib_stage.specs.declared.ask.Next.{Next}
use Rattle.lib_stage.specs.declared.ask.Next.TheVariants as next
use Rattle.lib_file.specs.Keeping.{next_va}
use Rattle.lib_given.specs.Refusals.{at_given, refused}

-- where the next byte is, behind so many of the address of this number
abbrev pub address_va : ℕ → ℕ → ℕ → ℕ
address_va argv index done = next_va (next_va argv (4 * min index ARGS_MAX)) done

-- how many bytes are taken at once there
abbrev pub moved : ℕ → ℕ → ℕ → ℕ
moved argv index done = moved_at_once (address_va argv index done) (4 - done)

abbrev pub address_asked : ℕ → ℕ → ℕ → Ask
address_asked argv index done =
    if moved argv index done == 4 then ask.Load (address_va argv index done) else ask.LoadByte (address_va argv index done)

-- It has so many bytes of an address, lowest in the word. At the first byte, and at the next page of the list, it looks at that page.
abbrev pub at_address : ℕ → ℕ → ℕ → ℕ → Step
at_address argv index done word =
    if not (is_inside (address_va argv index done)) then refused
    else if ((index == 0) && (done == 0)) || (address_va argv index done % PGSIZE == 0) then at_given (given.AddressRegion index done word)
    else at_given (given.AddressLoading index done word)

-- the bytes of an address of which so many stand lowest in a word, with the next
abbrev pub with_byte : ℕ → ℕ → ℕ → ℕ
with_byte word done byte =
    if done == 0 then byte % 256
    else if done == 1 then word % 256 + 256 * (byte % 256)
    else if done == 2 then word % 65536 + 65536 * (byte % 256)
    else word % 16777216 + 16777216 * (byte % 256)

-- it has the address of this number
abbrev pub behind_address : ℕ → ℕ → Step
behind_address index address =
    if nat_le ARGS_MAX index && not (address == 0) then refused else at_given (given.AddressKeeping index address)

abbrev pub next_of_address : ℕ → ℕ → ℕ → ℕ → ℕ → Next
next_of_address argv index done word loaded =
    if moved argv index done == 4 then next.Show (behind_address index loaded)
    else if nat_le 3 done then next.Show (behind_address index (with_byte word done loaded))
    else next.Show (at_address argv index (done + 1) (with_byte word done loaded))

-- its page has the address of this number, too
abbrev pub behind_kept : ℕ → ℕ → ℕ → Step
behind_kept argv index address =
    if address == 0 then at_given (given.StringAddress 0 0) else at_address argv ((index + 1) % 2 ^ 32) 0 0
