-- The strings, each up to its NUL: what spawn asks to take the next bytes and to put them into its page, and where it goes on. A string with no NUL in the
-- bytes of a page is refused; and so are strings that take more room than a page, when all of them are taken.
use Rattle.std.specs.Prelude.{ℕ, ◌+◌, ◌-◌, ◌/◌, ◌%◌, ◌^◌, ◌==◌, ◌||◌, not, nat_le, min, if◌then◌else◌}
use Rattle.jos_base.specs.declared.numbers.TheConstants.{PGSIZE}
use Rattle.lib_os.specs.declared.numbers.TheConstants.{SPAWN_GIVEN}
use Rattle.lib_os.specs.declared.place.Step.{Step}
use Rattle.lib_os.specs.declared.spawn_steps.GivenStep.TheVariants as given
use Rattle.lib_os.specs.Answers.{moved_at_once}
use Rattle.lib_os.specs.Fence.{is_inside}
use Rattle.lib_stage.specs.declared.ask.Ask.{Ask}
use Rattle.lib_stage.specs.declared.ask.Ask.TheVariants as ask
use Rattle.lib_stage.specs.declared.ask.Next.{Next}
use Rattle.lib_stage.specs.declared.ask.Next.TheVariants as next
use Rattle.lib_file.specs.Keeping.{next_va}
use Rattle.lib_given.specs.Refusals.{at_given, refused}
use Rattle.lib_given.specs.StackWords.{fits_page}

-- It has so many bytes of the string at an address. At its first byte, and at its next page, it looks at that page.
abbrev pub at_string : ℕ → ℕ → ℕ → ℕ → Step
at_string index address used done =
    if nat_le PGSIZE done || not (is_inside (next_va address done)) then refused
    else if (done == 0) || (next_va address done % PGSIZE == 0) then at_given (given.StringRegion index address used done)
    else at_given (given.StringLoading index address used done)

-- It has so many strings, and this is the address of the next, or 0 behind the last.
abbrev pub behind_strings : ℕ → ℕ → ℕ → Step
behind_strings index used address =
    if not (address == 0) then at_string index address used 0
    else if not (fits_page index used) then refused
    else at_given (given.TakingStack index used)

-- how many bytes of a string are taken at once, behind so many
abbrev pub moved : ℕ → ℕ → ℕ
moved address done = moved_at_once (next_va address done) (PGSIZE - done)

abbrev pub string_asked : ℕ → ℕ → Ask
string_asked address done = if moved address done == 4 then ask.Load (next_va address done) else ask.LoadByte (next_va address done)

abbrev pub next_of_string : ℕ → ℕ → ℕ → ℕ → ℕ → Next
next_of_string index address used done word = next.Show (at_given (given.StringKeeping index address used done word (moved address done)))

-- The next byte is put behind those of the strings before. Where these take more than a page, they begin anew.
abbrev pub keeping_asked : ℕ → ℕ → ℕ → Ask
keeping_asked used done word = ask.StoreByte (SPAWN_GIVEN + next_va used done % PGSIZE) (word % 256)

-- Of the strings' bytes no more are counted than one more than a page has.
abbrev pub behind_byte : ℕ → ℕ → ℕ → ℕ → ℕ → ℕ → Step
behind_byte index address used done word left =
    let behind = (done + 1) % 2 ^ 32 in
    if word % 256 == 0 then at_given (given.StringAddress ((index + 1) % 2 ^ 32) (min (used + behind) (PGSIZE + 1)))
    else if nat_le left 1 then at_string index address used behind
    else at_given (given.StringKeeping index address used behind (word / 256) (left - 1))
