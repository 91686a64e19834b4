-- stat: what it asks at each stage, and what it does next by the reply. What it tells of the console is a name with zeros behind it, a size
-- of 0 and a kind of 0; of a pipe it is another name, how many bytes that holds, as `lib_pipe` tells, and a kind of 0. Of a file it does as
-- `lib_bytes` tells, once it knows that its buffer lies in the fence.
-- (MIT 6.828, lab 5: lib/fd.c, fstat, lib/console.c, devcons_stat, and lib/file.c, devfile_stat.)
use Rattle.std.specs.Prelude.{ℕ, ◌+◌, ◌-◌, ◌%◌, ◌^◌, ◌==◌, not, ◌&&◌, nat_le, codes, List, [], ◌∷◌, Option, Some, slice_index, if◌then◌else◌}
use Rattle.std.specs.Int.{w32, from_le_bytes}
use Rattle.std.specs.Option.{option_map}
use Rattle.jos_base.specs.declared.numbers.TheConstants.{E_INVAL, E_NOT_SUPP, PGSIZE}
use Rattle.jos_base.specs.Words.{negated}
use Rattle.fs_layout.specs.declared.numbers.TheConstants.{FTYPE_REG}
use Rattle.fs_layout.specs.FileActs.{stat_bytes}
use Rattle.lib_os.specs.declared.numbers.TheConstants.{DEVICE_CONSOLE, DEVICE_FILE, DEVICE_PIPE, SERVICE_STAT, STAT_SIZE}
use Rattle.lib_os.specs.declared.place.PipeStep.TheVariants as pipe
use Rattle.lib_os.specs.declared.place.Step.{Step}
use Rattle.lib_os.specs.declared.place.Step.TheVariants as step
use Rattle.lib_os.specs.Answers.{moved_at_once}
use Rattle.lib_os.specs.Fence.{is_buffer}
use Rattle.lib_os.specs.FileServices.{terminal_stat}
use Rattle.lib_os.specs.UserCalls.{answer_of}
use Rattle.lib_stage.specs.declared.ask.Ask.{Ask}
use Rattle.lib_stage.specs.declared.ask.Ask.TheVariants as ask
use Rattle.lib_stage.specs.declared.ask.Next.{Next}
use Rattle.lib_stage.specs.declared.ask.Next.TheVariants as next
use Rattle.lib_stage.specs.ServiceSteps.{Plan}
use Rattle.lib_fd.specs.DescriptorStages as descriptor
use Rattle.lib_fd.specs.DescriptorStages.{is_there, region_asked_for}
use Rattle.lib_file.specs.Buffers.{entry_asked, is_writable, region_asked}
use Rattle.lib_file.specs.Finding.{device_asked, next_of_entry, next_of_region}
use Rattle.lib_file.specs.Keeping.{next_va}
use Rattle.lib_bytes.specs.declared.bytes.FileService.TheVariants as of
use Rattle.lib_bytes.specs.FileStages as bytes
use Rattle.lib_pipe.specs.declared.ends.PipeService.TheVariants as end_of
use Rattle.lib_pipe.specs.PipeStages as ends
use Rattle.lib_read.specs.declared.stat.Stat.{Stat}
use Rattle.lib_read.specs.declared.stat.StatStage.{StatStage}
use Rattle.lib_read.specs.declared.stat.StatStage.TheVariants as stage

-- the stage of stat that is kept as a step, if it is one of stat's
abbrev pub stage_at : Step → Option StatStage
stage_at step.Entered = Some stage.Entered
stage_at (step.DescriptorEntry fd) = Some stage.Entry
stage_at step.ReadingDevice = Some stage.Device
stage_at (step.BufferRegion done word) = Some (stage.BufferRegion done word)
stage_at (step.BufferEntry done word) = Some (stage.BufferEntry done word)
stage_at (step.Delivering done word) = Some (stage.Delivering done word)
stage_at (step.Faulting done word) = Some (stage.Faulting done word)
stage_at (step.Piped at) = option_map (λ at. stage.OfPipe at) (ends.stage_of at)
stage_at step = option_map (λ at. stage.OfFile at) (bytes.stage_at step)

abbrev pub stat_at : ℕ → ℕ → Step → Option Stat
stat_at fd va step = option_map (λ at. record { fd = fd; va = va; at = at }) (stage_at step)

-- ---- what it asks

-- of a pipe that holds so many
abbrev pub pipe_stat : ℕ → List ℕ
pipe_stat held = stat_bytes (codes "<pipe>") held FTYPE_REG

-- of the console, where its word is 0, or of a pipe that holds one less
abbrev pub told : ℕ → List ℕ
told word = if word == 0 then terminal_stat else pipe_stat (word - 1)

abbrev pub told_byte : ℕ → ℕ → ℕ
told_byte word at = slice_index (told word) (at % 2 ^ 32)

-- the word that begins with this byte
abbrev pub told_word : ℕ → ℕ → ℕ
told_word word at =
    from_le_bytes w32 (told_byte word at ∷ told_byte word (at + 1) ∷ told_byte word (at + 2) ∷ told_byte word (at + 3) ∷ [])

-- how many bytes are put at once
abbrev pub moved : ℕ → ℕ → ℕ
moved va done = moved_at_once (next_va va done) (STAT_SIZE - done)

abbrev pub delivery_asked : ℕ → ℕ → ℕ → Ask
delivery_asked va done word =
    if moved va done == 4 then ask.Store (next_va va done) (told_word word done)
    else ask.StoreByte (next_va va done) (told_byte word done)

abbrev pub ask_of : ℕ → ℕ → StatStage → Ask
ask_of fd va stage.Entered = region_asked_for fd
ask_of fd va stage.Entry = descriptor.entry_asked fd
ask_of fd va stage.Device = device_asked fd
ask_of fd va (stage.BufferRegion done word) = region_asked (next_va va done)
ask_of fd va (stage.BufferEntry done word) = entry_asked (next_va va done)
ask_of fd va (stage.Delivering done word) = delivery_asked va done word
ask_of fd va (stage.Faulting done word) = ask.StoreByte (next_va va done) 0
ask_of fd va (stage.OfFile at) = bytes.ask_of of.Stat fd va at
ask_of fd va (stage.OfPipe at) = ends.ask_of end_of.Stat fd at

-- ---- what it does next

-- at the next page it looks at that
abbrev pub next_behind : ℕ → ℕ → ℕ → Next
next_behind va done word =
    if nat_le STAT_SIZE done then next.Answer 0
    else if next_va va done % PGSIZE == 0 then next.Show (step.BufferRegion done word)
    else next.Show (step.Delivering done word)

abbrev pub next_of_delivery : ℕ → ℕ → ℕ → Next
next_of_delivery va done word = next_behind va ((done + moved va done) % 2 ^ 32) word

-- its descriptor names a file
abbrev pub next_of_file : ℕ → Next
next_of_file va = if not (is_buffer va STAT_SIZE) then next.Answer (negated E_INVAL) else next.GoOn step.TakingPage

abbrev pub next_of_device : ℕ → ℕ → Next
next_of_device va device =
    if device == DEVICE_FILE then next_of_file va
    else if not (device == DEVICE_CONSOLE) && not (device == DEVICE_PIPE) then next.Answer (negated E_NOT_SUPP)
    else if not (is_buffer va STAT_SIZE) then next.Answer (negated E_INVAL)
    else if device == DEVICE_PIPE then next.GoOn (step.Piped pipe.StatLocking)
    else next.Show (step.BufferRegion 0 0)

abbrev pub next_of : ℕ → ℕ → StatStage → ℕ → Next
next_of fd va stage.Entered word = next_of_region fd word
next_of fd va stage.Entry word = next_of_entry word
next_of fd va stage.Device word = next_of_device va word
next_of fd va (stage.BufferRegion done kept) word =
    if not (is_there word) then next.GoOn (step.Faulting done kept) else next.GoOn (step.BufferEntry done kept)
next_of fd va (stage.BufferEntry done kept) word =
    if not (is_writable word) then next.GoOn (step.Faulting done kept) else next.GoOn (step.Delivering done kept)
next_of fd va (stage.Delivering done kept) word = next_of_delivery va done kept
next_of fd va (stage.Faulting done kept) word = next.Gone
next_of fd va (stage.OfFile at) word = bytes.next_of of.Stat va at word
next_of fd va (stage.OfPipe at) word = ends.next_of end_of.Stat va at word

-- ---- the plan

abbrev pub telling : Stat → Plan
telling it = record {
  number = SERVICE_STAT;
  asks = ask_of it.fd it.va it.at;
  next = λ called. next_of it.fd it.va it.at (answer_of called);
}
