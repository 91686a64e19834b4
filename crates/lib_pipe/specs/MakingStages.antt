-- pipe: what it asks at each stage, and what it does next by the reply. It looks for the two lowest descriptors that are free, and makes their pages
-- and the pipe's, which both have. What it has made is given back where it is refused something.
-- (MIT 6.828, lab 5: lib/pipe.c, pipe; lib/fd.c, fd_alloc.)
use Rattle.std.specs.Prelude.{ℕ, ◌+◌, ◌-◌, ◌==◌, not, nat_le, [], ◌∷◌, Option, Some, None, if◌then◌else◌}
use Rattle.std.specs.Option.{option_map}
use Rattle.jos_base.specs.declared.numbers.TheConstants.{E_MAX_OPEN, SYS_PAGE_ALLOC}
use Rattle.jos_base.specs.Words.{negated}
use Rattle.lib_os.specs.declared.numbers.TheConstants.{DESCRIPTORS, DEVICE_PIPE, FD_DEVICE, FD_MODE, SERVICE_PIPE}
use Rattle.lib_os.specs.declared.place.PipeStep.{PipeStep}
use Rattle.lib_os.specs.declared.place.PipeStep.TheVariants as pipe
use Rattle.lib_os.specs.declared.place.Step.{Step}
use Rattle.lib_os.specs.declared.place.Step.TheVariants as step
use Rattle.lib_os.specs.Rows.{descriptor_perm}
use Rattle.lib_os.specs.UserCalls.{answer_of}
use Rattle.lib_stage.specs.declared.ask.Ask.{Ask}
use Rattle.lib_stage.specs.declared.ask.Ask.TheVariants as ask
use Rattle.lib_stage.specs.declared.ask.Next.{Next}
use Rattle.lib_stage.specs.declared.ask.Next.TheVariants as next
use Rattle.lib_stage.specs.ServiceSteps.{Plan}
use Rattle.lib_fd.specs.DescriptorStages.{descriptor_va, drop_asked_at, entry_asked, is_there, map_asked_at, pipe_va, region_asked}
use Rattle.lib_pipe.specs.declared.making.MakingStage.{MakingStage}
use Rattle.lib_pipe.specs.declared.making.MakingStage.TheVariants as stage
use Rattle.lib_pipe.specs.declared.making.Pipe.{Pipe}

-- the stage of pipe that is kept as a step, if it is one of pipe's
abbrev pub making_stage : PipeStep → Option MakingStage
making_stage (pipe.SecondEntry reading fd) = Some (stage.SecondEntry reading fd)
making_stage (pipe.TakingReading reading writing) = Some (stage.TakingReading reading writing)
making_stage (pipe.StoringReading reading writing) = Some (stage.StoringReading reading writing)
making_stage (pipe.TakingWriting reading writing) = Some (stage.TakingWriting reading writing)
making_stage (pipe.StoringWriting reading writing) = Some (stage.StoringWriting reading writing)
making_stage (pipe.StoringEndMode reading writing) = Some (stage.StoringEndMode reading writing)
making_stage (pipe.TakingPipe reading writing) = Some (stage.TakingPipe reading writing)
making_stage (pipe.MappingPipe reading writing) = Some (stage.MappingPipe reading writing)
making_stage (pipe.UndoingWriting reading writing error) = Some (stage.UndoingWriting reading writing error)
making_stage (pipe.UndoingReading reading error) = Some (stage.UndoingReading reading error)
making_stage _ = None

abbrev pub stage_at : Step → Option MakingStage
stage_at step.Entered = Some stage.Entered
stage_at (step.FreeEntry fd) = Some (stage.FirstEntry fd)
stage_at (step.Piped at) = making_stage at
stage_at _ = None

abbrev pub pipe_at : Step → Option Pipe
pipe_at step = option_map (λ at. record { at = at }) (stage_at step)

-- ---- what it asks

-- a page of zeros is taken, with the bits of descriptors' pages
abbrev pub taking_asked : ℕ → Ask
taking_asked va = ask.System SYS_PAGE_ALLOC (0 ∷ va ∷ descriptor_perm ∷ 0 ∷ 0 ∷ [])

abbrev pub ask_of : MakingStage → Ask
ask_of stage.Entered = region_asked
ask_of (stage.FirstEntry fd) = entry_asked fd
ask_of (stage.SecondEntry reading fd) = entry_asked fd
ask_of (stage.TakingReading reading writing) = taking_asked (descriptor_va reading)
ask_of (stage.StoringReading reading writing) = ask.Store (descriptor_va reading + FD_DEVICE) DEVICE_PIPE
ask_of (stage.TakingWriting reading writing) = taking_asked (descriptor_va writing)
ask_of (stage.StoringWriting reading writing) = ask.Store (descriptor_va writing + FD_DEVICE) DEVICE_PIPE
ask_of (stage.StoringEndMode reading writing) = ask.Store (descriptor_va writing + FD_MODE) 1
ask_of (stage.TakingPipe reading writing) = taking_asked (pipe_va reading)
ask_of (stage.MappingPipe reading writing) = map_asked_at (pipe_va reading) (pipe_va writing)
ask_of (stage.UndoingWriting reading writing error) = drop_asked_at (descriptor_va writing)
ask_of (stage.UndoingReading reading error) = drop_asked_at (descriptor_va reading)

-- ---- what it does next

abbrev pub piped : PipeStep → Next
piped at = next.GoOn (step.Piped at)

-- a descriptor is open, or free; where it is the last, no two are
abbrev pub next_of_first : ℕ → ℕ → Next
next_of_first fd word =
    if nat_le (DESCRIPTORS - 1) fd then next.Answer (negated E_MAX_OPEN)
    else if is_there word then next.GoOn (step.FreeEntry (fd + 1))
    else piped (pipe.SecondEntry fd (fd + 1))

-- the second is found, or not
abbrev pub next_of_second : ℕ → ℕ → ℕ → Next
next_of_second reading fd word =
    if not (is_there word) then piped (pipe.TakingReading reading fd)
    else if nat_le (DESCRIPTORS - 1) fd then next.Answer (negated E_MAX_OPEN)
    else piped (pipe.SecondEntry reading (fd + 1))

-- a page is taken, or refused
abbrev pub next_of_taking : ℕ → PipeStep → PipeStep → Next
next_of_taking word taken refused = if not (word == 0) then piped refused else piped taken

abbrev pub next_of : MakingStage → ℕ → Next
next_of stage.Entered word = if not (is_there word) then piped (pipe.TakingReading 0 1) else next.GoOn (step.FreeEntry 0)
next_of (stage.FirstEntry fd) word = next_of_first fd word
next_of (stage.SecondEntry reading fd) word = next_of_second reading fd word
next_of (stage.TakingReading reading writing) word =
    if not (word == 0) then next.Answer word else piped (pipe.StoringReading reading writing)
next_of (stage.StoringReading reading writing) word = piped (pipe.TakingWriting reading writing)
next_of (stage.TakingWriting reading writing) word = next_of_taking word (pipe.StoringWriting reading writing) (pipe.UndoingReading reading word)
next_of (stage.StoringWriting reading writing) word = piped (pipe.StoringEndMode reading writing)
next_of (stage.StoringEndMode reading writing) word = piped (pipe.TakingPipe reading writing)
next_of (stage.TakingPipe reading writing) word =
    next_of_taking word (pipe.MappingPipe reading writing) (pipe.UndoingWriting reading writing word)
next_of (stage.MappingPipe reading writing) word = next.AnswersEnds reading writing
next_of (stage.UndoingWriting reading writing error) word = piped (pipe.UndoingReading reading error)
next_of (stage.UndoingReading reading error) word = next.Answer error

-- ---- the plan

abbrev pub making : Pipe → Plan
making it = record { number = SERVICE_PIPE; asks = ask_of it.at; next = λ called. next_of it.at (answer_of called) }
