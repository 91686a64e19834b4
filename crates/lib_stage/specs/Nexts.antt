-- What a service does next, as a change of the kernel's state, and what that is to those who see the abstract system.
use Rattle.std.specs.Prelude.{ℕ, Bool, true, false}
use Rattle.jos_base.specs.KernelState.{KernelState, slot_at, with_registers, with_extra}
use Rattle.lib_os.specs.declared.progress.Progress.{Progress}
use Rattle.lib_os.specs.declared.progress.Progress.TheVariants as progress
use Rattle.lib_os.specs.LibrarySteps.{service_answered, gone_back}
use Rattle.lib_os.specs.Places.{words_at, handler_registers}
use Rattle.lib_stage.specs.declared.ask.Next.{Next}
use Rattle.lib_stage.specs.declared.ask.Next.TheVariants as next

abbrev pub seen_as : Next → Progress
seen_as (next.Answer word) = progress.Finished
seen_as (next.Answers eax edx ecx ebx) = progress.Finished
seen_as (next.AnswersEnds reading writing) = progress.Finished
seen_as (next.GoOn step) = progress.Hidden
seen_as (next.GoBack word) = progress.Hidden
seen_as (next.Show step) = progress.Visible
seen_as (next.Wait step) = progress.Waited
seen_as (next.Handle step) = progress.Hidden
seen_as next.Leave = progress.Hidden
seen_as next.Gone = progress.Ended

abbrev pub is_gone : Next → Bool
is_gone next.Gone = true
is_gone _ = false

-- of the environment in slot n, which is in the service of a number, or in its handler
abbrev pub settled : ℕ → Next → KernelState → ℕ → KernelState
settled number (next.Answer word) s n = service_answered s n word
settled number (next.Answers eax edx ecx ebx) s n =
    gone_back s n (record (slot_at s n).registers { eax = eax; edx = edx; ecx = ecx; ebx = ebx })
settled number (next.AnswersEnds reading writing) s n =
    gone_back s n (record (slot_at s n).registers { eax = 0; edx = reading; ecx = writing })
settled number (next.GoOn step) s n = with_extra s n (words_at number step)
settled number (next.GoBack word) s n = service_answered s n word
settled number (next.Show step) s n = with_extra s n (words_at number step)
settled number (next.Wait step) s n = with_extra s n (words_at number step)
settled number (next.Handle step) s n = with_registers s n (handler_registers (slot_at s n).registers step)
settled number next.Leave s n = s
settled number next.Gone s n = s
