-- exit, close and dup: what they ask at each stage, and what they do next by the reply.
-- (MIT 6.828, lab 5: lib/fd.c and lib/exit.c.)
use Rattle.std.specs.Prelude.{ℕ, ◌+◌, ◌*◌, ◌%◌, ◌==◌, ◌||◌, not, Bool, [], ◌∷◌, Option, Some, None, nat_lt, bit_and, if◌then◌else◌}
use Rattle.std.specs.Option.{option_map}
use Rattle.jos_base.specs.declared.numbers.TheConstants.{E_INVAL, FDTABLE, PGSIZE, PTE_P, UVPT}
use Rattle.jos_base.specs.declared.numbers.TheConstants.{SYS_ENV_DESTROY, SYS_GETENVID, SYS_PAGE_MAP, SYS_PAGE_UNMAP}
use Rattle.jos_base.specs.Words.{negated}
use Rattle.lib_os.specs.declared.numbers.TheConstants.{DESCRIPTORS, SERVICE_CLOSE, SERVICE_DUP, SERVICE_EXIT, UVPD}
use Rattle.lib_os.specs.declared.place.PipeStep.TheVariants as pipe
use Rattle.lib_os.specs.declared.place.Step.{Step}
use Rattle.lib_os.specs.declared.place.Step.TheVariants as step
use Rattle.lib_os.specs.LibraryPages.{region_index}
use Rattle.lib_os.specs.Rows.{descriptor_page, descriptor_perm}
use Rattle.lib_os.specs.UserCalls.{answer_of}
use Rattle.lib_stage.specs.declared.ask.Ask.{Ask}
use Rattle.lib_stage.specs.declared.ask.Ask.TheVariants as ask
use Rattle.lib_stage.specs.declared.ask.Next.{Next}
use Rattle.lib_stage.specs.declared.ask.Next.TheVariants as next
use Rattle.lib_stage.specs.Asks.{no_args}
use Rattle.lib_stage.specs.ServiceSteps.{Plan}
use Rattle.lib_fd.specs.declared.close.Close.{Close}
use Rattle.lib_fd.specs.declared.close.CloseStage.{CloseStage}
use Rattle.lib_fd.specs.declared.close.CloseStage.TheVariants as close
use Rattle.lib_fd.specs.declared.dup.Dup.{Dup}
use Rattle.lib_fd.specs.declared.dup.DupStage.{DupStage}
use Rattle.lib_fd.specs.declared.dup.DupStage.TheVariants as dup
use Rattle.lib_fd.specs.declared.exit.Exit.{Exit}
use Rattle.lib_fd.specs.declared.exit.ExitStage.{ExitStage}
use Rattle.lib_fd.specs.declared.exit.ExitStage.TheVariants as exit

-- ---- what is asked of descriptors' pages. The words that keep a descriptor's number may hold anything, so that it is bounded.

abbrev pub descriptor_of : ℕ → ℕ
descriptor_of fd = fd % DESCRIPTORS

-- where its page begins
abbrev pub descriptor_va : ℕ → ℕ
descriptor_va fd = FDTABLE + PGSIZE * descriptor_of fd

-- and the pipe's page, where it names an end of one
abbrev pub pipe_va : ℕ → ℕ
pipe_va fd = FDTABLE + PGSIZE * (DESCRIPTORS + descriptor_of fd)

-- whether the region of the pages has a table
abbrev pub region_asked : Ask
region_asked = ask.Load (UVPD + 4 * region_index FDTABLE)

-- the same for a number that a program has given
abbrev pub region_asked_for : ℕ → Ask
region_asked_for fd = if nat_lt fd DESCRIPTORS then region_asked else ask.System SYS_GETENVID no_args

-- what stands at its page
abbrev pub entry_asked : ℕ → Ask
entry_asked fd = ask.Load (UVPT + 4 * descriptor_page (descriptor_of fd))

-- and where its pipe's page is
abbrev pub pipe_entry_asked : ℕ → Ask
pipe_entry_asked fd = ask.Load (UVPT + 4 * descriptor_page (DESCRIPTORS + descriptor_of fd))

-- the page at an address is unmapped
abbrev pub drop_asked_at : ℕ → Ask
drop_asked_at va = ask.System SYS_PAGE_UNMAP (0 ∷ va ∷ 0 ∷ 0 ∷ 0 ∷ [])

abbrev pub drop_asked : ℕ → Ask
drop_asked fd = drop_asked_at (descriptor_va fd)

-- the page at an address is mapped at another one too
abbrev pub map_asked_at : ℕ → ℕ → Ask
map_asked_at old new = ask.System SYS_PAGE_MAP (0 ∷ old ∷ 0 ∷ new ∷ descriptor_perm ∷ [])

abbrev pub map_asked : ℕ → ℕ → Ask
map_asked old new = map_asked_at (descriptor_va old) (descriptor_va new)

-- an entry's word says that a page, or a region's table, is there
abbrev pub is_there : ℕ → Bool
is_there word = bit_and word PTE_P == PTE_P

-- A descriptor that is open is dropped: one that has a pipe's page loses its own first.
abbrev pub dropping : ℕ → ℕ → Step
dropping fd word = if is_there word then step.Piped (pipe.DroppingEnd fd) else step.DroppingDescriptor fd

-- ---- exit

-- the stage of exit that is kept as a step, if it is one of exit's
abbrev pub exit_stage : Step → Option ExitStage
exit_stage step.Entered = Some exit.Entered
exit_stage (step.DescriptorEntry fd) = Some (exit.Entry fd)
exit_stage (step.DroppingDescriptor fd) = Some (exit.Dropping fd)
exit_stage step.Ending = Some exit.Ending
exit_stage (step.Piped (pipe.PipeEntry fd)) = Some (exit.PipeEntry fd)
exit_stage (step.Piped (pipe.DroppingEnd fd)) = Some (exit.DroppingEnd fd)
exit_stage (step.Piped (pipe.DroppingPipe fd)) = Some (exit.DroppingPipe fd)
exit_stage _ = None

abbrev pub exit_at : Step → Option Exit
exit_at step = option_map (λ at. record { at = at }) (exit_stage step)

abbrev pub exit_asks : ExitStage → Ask
exit_asks exit.Entered = region_asked
exit_asks (exit.Entry fd) = entry_asked fd
exit_asks (exit.PipeEntry fd) = pipe_entry_asked fd
exit_asks (exit.Dropping fd) = drop_asked fd
exit_asks (exit.DroppingEnd fd) = drop_asked fd
exit_asks (exit.DroppingPipe fd) = drop_asked_at (pipe_va fd)
exit_asks exit.Ending = ask.System SYS_ENV_DESTROY no_args

-- behind a descriptor it looks at the next, and behind the last it ends the environment
abbrev pub behind : ℕ → Step
behind fd = if nat_lt (descriptor_of fd + 1) DESCRIPTORS then step.DescriptorEntry (descriptor_of fd + 1) else step.Ending

abbrev pub exit_next : ExitStage → ℕ → Next
exit_next exit.Entered word = if not (is_there word) then next.GoOn step.Ending else next.GoOn (step.DescriptorEntry 0)
exit_next (exit.Entry fd) word = if not (is_there word) then next.GoOn (behind fd) else next.GoOn (step.Piped (pipe.PipeEntry fd))
exit_next (exit.PipeEntry fd) word = next.GoOn (dropping fd word)
exit_next (exit.Dropping fd) word = next.Show (behind fd)
exit_next (exit.DroppingEnd fd) word = next.GoOn (step.Piped (pipe.DroppingPipe fd))
exit_next (exit.DroppingPipe fd) word = next.Show (behind fd)
exit_next exit.Ending word = next.Gone

abbrev pub exiting : Exit → Plan
exiting it = record { number = SERVICE_EXIT; asks = exit_asks it.at; next = λ called. exit_next it.at (answer_of called) }

-- ---- close

abbrev pub close_stage : Step → Option CloseStage
close_stage step.Entered = Some close.Entered
close_stage (step.DescriptorEntry fd) = Some close.Entry
close_stage (step.DroppingDescriptor fd) = Some close.Dropping
close_stage (step.Piped (pipe.PipeEntry fd)) = Some close.PipeEntry
close_stage (step.Piped (pipe.DroppingEnd fd)) = Some close.DroppingEnd
close_stage (step.Piped (pipe.DroppingPipe fd)) = Some close.DroppingPipe
close_stage _ = None

abbrev pub close_at : ℕ → Step → Option Close
close_at fd step = option_map (λ at. record { fd = fd; at = at }) (close_stage step)

abbrev pub close_asks : ℕ → CloseStage → Ask
close_asks fd close.Entered = region_asked_for fd
close_asks fd close.Entry = entry_asked fd
close_asks fd close.PipeEntry = pipe_entry_asked fd
close_asks fd close.Dropping = drop_asked fd
close_asks fd close.DroppingEnd = drop_asked fd
close_asks fd close.DroppingPipe = drop_asked_at (pipe_va fd)

abbrev pub close_next : ℕ → CloseStage → ℕ → Next
close_next fd close.Entered word =
    if not (nat_lt fd DESCRIPTORS) || not (is_there word) then next.Answer (negated E_INVAL) else next.GoOn (step.DescriptorEntry fd)
close_next fd close.Entry word = if not (is_there word) then next.Answer (negated E_INVAL) else next.GoOn (step.Piped (pipe.PipeEntry fd))
close_next fd close.PipeEntry word = next.GoOn (dropping fd word)
close_next fd close.Dropping word = next.Answer 0
close_next fd close.DroppingEnd word = next.GoOn (step.Piped (pipe.DroppingPipe fd))
close_next fd close.DroppingPipe word = next.Answer 0

abbrev pub closing : Close → Plan
closing it = record { number = SERVICE_CLOSE; asks = close_asks it.fd it.at; next = λ called. close_next it.fd it.at (answer_of called) }

-- ---- dup

abbrev pub dup_stage : Step → Option DupStage
dup_stage step.Entered = Some dup.Entered
dup_stage (step.DescriptorEntry fd) = Some dup.OldEntry
dup_stage step.TargetEntry = Some dup.NewEntry
dup_stage (step.DroppingDescriptor fd) = Some dup.Dropping
dup_stage step.MappingDescriptor = Some dup.Mapping
dup_stage (step.Piped (pipe.PipeEntry fd)) = Some dup.NewPipe
dup_stage (step.Piped (pipe.DroppingEnd fd)) = Some dup.DroppingEnd
dup_stage (step.Piped (pipe.DroppingPipe fd)) = Some dup.DroppingPipe
dup_stage (step.Piped pipe.SourcePipe) = Some dup.OldPipe
dup_stage (step.Piped pipe.MappingEnd) = Some dup.MappingEnd
dup_stage _ = None

abbrev pub dup_at : ℕ → ℕ → Step → Option Dup
dup_at old new step = option_map (λ at. record { old = old; new = new; at = at }) (dup_stage step)

abbrev pub dup_asks : ℕ → ℕ → DupStage → Ask
dup_asks old new dup.Entered = region_asked_for old
dup_asks old new dup.OldEntry = entry_asked old
dup_asks old new dup.NewEntry = entry_asked new
dup_asks old new dup.NewPipe = pipe_entry_asked new
dup_asks old new dup.Dropping = drop_asked new
dup_asks old new dup.DroppingEnd = drop_asked new
dup_asks old new dup.DroppingPipe = drop_asked_at (pipe_va new)
dup_asks old new dup.OldPipe = pipe_entry_asked old
dup_asks old new dup.MappingEnd = map_asked_at (pipe_va old) (pipe_va new)
dup_asks old new dup.Mapping = map_asked old new

abbrev pub dup_next : ℕ → ℕ → DupStage → ℕ → Next
dup_next old new dup.Entered word =
    if not (nat_lt old DESCRIPTORS) || not (is_there word) then next.Answer (negated E_INVAL) else next.GoOn (step.DescriptorEntry old)
dup_next old new dup.OldEntry word =
    if not (is_there word) || not (nat_lt new DESCRIPTORS) then next.Answer (negated E_INVAL)
    else if old == new then next.Answer new
    else next.GoOn step.TargetEntry
dup_next old new dup.NewEntry word =
    if is_there word then next.GoOn (step.Piped (pipe.PipeEntry new)) else next.GoOn (step.Piped pipe.SourcePipe)
dup_next old new dup.NewPipe word = next.GoOn (dropping new word)
dup_next old new dup.Dropping word = next.Show (step.Piped pipe.SourcePipe)
dup_next old new dup.DroppingEnd word = next.GoOn (step.Piped (pipe.DroppingPipe new))
dup_next old new dup.DroppingPipe word = next.Show (step.Piped pipe.SourcePipe)
dup_next old new dup.OldPipe word = if is_there word then next.GoOn (step.Piped pipe.MappingEnd) else next.GoOn step.MappingDescriptor
dup_next old new dup.MappingEnd word = next.GoOn step.MappingDescriptor
dup_next old new dup.Mapping word = if word == 0 then next.Answer new else next.Answer word

abbrev pub duplicating : Dup → Plan
duplicating it = record {
  number = SERVICE_DUP;
  asks = dup_asks it.old it.new it.at;
  next = λ called. dup_next it.old it.new it.at (answer_of called);
}
