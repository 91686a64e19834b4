-- A path that a service gathers in a page of its own: what it asks to take the next bytes, and what it does next, until the end is among them.
use Rattle.std.specs.Prelude.{ℕ, ◌+◌, ◌-◌, ◌/◌, ◌%◌, ◌^◌, ◌==◌, ◌&&◌, ◌||◌, not, nat_le, nat_lt, Bool, if◌then◌else◌}
use Rattle.jos_base.specs.declared.numbers.TheConstants.{E_BAD_PATH, E_INVAL, PGSIZE}
use Rattle.jos_base.specs.Words.{negated}
use Rattle.fs_layout.specs.declared.numbers.TheConstants.{MAXPATHLEN}
use Rattle.lib_os.specs.declared.place.Step.{Step}
use Rattle.lib_os.specs.declared.place.Step.TheVariants as step
use Rattle.lib_os.specs.Answers.{moved_at_once}
use Rattle.lib_os.specs.Fence.{is_inside}
use Rattle.lib_stage.specs.declared.ask.Ask.{Ask}
use Rattle.lib_stage.specs.declared.ask.Ask.TheVariants as ask
use Rattle.lib_stage.specs.declared.ask.Next.{Next}
use Rattle.lib_stage.specs.declared.ask.Next.TheVariants as next
use Rattle.lib_file.specs.Keeping.{kept_at_once, next_va}
use Rattle.lib_request.specs.PageRequests.{clearing_asked}

-- ---- what it asks

-- behind so many bytes of the path another may be taken
abbrev pub follows : ℕ → ℕ → Bool
follows path done = nat_lt done MAXPATHLEN && is_inside (next_va path done)

-- how many are taken at once there
abbrev pub moved : ℕ → ℕ → ℕ
moved path done = moved_at_once (next_va path done) (MAXPATHLEN - done)

abbrev pub gathering_asked : ℕ → ℕ → Ask
gathering_asked path done =
    if not (follows path done) then clearing_asked
    else if moved path done == 4 then ask.Load (next_va path done)
    else ask.LoadByte (next_va path done)

-- ---- what it does next

-- why a path with so many bytes and no end is refused
abbrev pub refusal : ℕ → ℕ
refusal done = if nat_le MAXPATHLEN done then E_BAD_PATH else E_INVAL

abbrev pub next_of_gathering : ℕ → ℕ → ℕ → Next
next_of_gathering path done word =
    if not (follows path done) then next.Answer (negated (refusal done))
    else next.Show (step.Keeping done word (moved path done))

-- One of the bytes of a word that are put is the end of a path: all four, or the lowest.
abbrev pub ends_in : ℕ → ℕ → Bool
ends_in kept word =
    (word % 256 == 0) || ((kept == 4) && ((word / 256 % 256 == 0) || (word / 65536 % 256 == 0) || (word / 16777216 % 256 == 0)))

-- Its page has so many bytes, none of them the end; at the next page of its path it looks at that.
abbrev pub next_behind : ℕ → ℕ → Next
next_behind path done =
    if follows path done && (next_va path done % PGSIZE == 0) then next.GoOn (step.BufferRegion done 0)
    else next.GoOn (step.Gathering done)

-- With the end the service goes on to this step.
abbrev pub next_of_keeping : ℕ → Step → ℕ → ℕ → ℕ → Next
next_of_keeping path whole done word left =
    let kept = kept_at_once done left in
    let behind = (done + kept) % 2 ^ 32 in
    if ends_in kept word then next.GoOn whole
    else if nat_le left kept then next_behind path behind
    else next.GoOn (step.Keeping behind (word / 256) (left - kept))
