-- What a service asks that keeps what it loads in a page of its own, at UTEMP.
use Rattle.std.specs.Prelude.{ℕ, ◌+◌, ◌%◌, ◌^◌, ◌==◌, ◌&&◌, if◌then◌else◌}
use Rattle.jos_base.specs.declared.numbers.TheConstants.{PGSIZE, UTEMP}
use Rattle.lib_stage.specs.declared.ask.Ask.{Ask}
use Rattle.lib_stage.specs.declared.ask.Ask.TheVariants as ask

-- where the next byte is, behind those that are done
abbrev pub next_va : ℕ → ℕ → ℕ
next_va va done = (va + done) % 2 ^ 32

-- how many of the bytes that are left of a word are put at this place of the page at once
abbrev pub kept_at_once : ℕ → ℕ → ℕ
kept_at_once at left = if (at % 4 == 0) && (left == 4) then 4 else 1

abbrev pub keeping_asked : ℕ → ℕ → ℕ → Ask
keeping_asked at word left =
    if kept_at_once at left == 4 then ask.Store (UTEMP + at % PGSIZE) word else ask.StoreByte (UTEMP + at % PGSIZE) (word % 256)
