-- read: what it asks at each stage, and what it does next by the reply. The console gives one byte; the byte 4, and the end of the input, are
-- the end. Of a file it reads the mode, by which one that is open only for writing refuses it; then it does as `lib_bytes` tells. Of a pipe it does
-- as `lib_pipe` tells, and delivers the bytes as those of a file.
-- (MIT 6.828, lab 5: lib/fd.c, read, lib/console.c, devcons_read, and lib/file.c, devfile_read.)
use Rattle.std.specs.Prelude.{ℕ, ◌+◌, ◌%◌, ◌==◌, not, Bool, min, Option, Some, if◌then◌else◌}
use Rattle.std.specs.Option.{option_map}
use Rattle.jos_base.specs.declared.numbers.TheConstants.{E_INVAL, E_NOT_SUPP, END_OF_INPUT, SYS_CGETC}
use Rattle.jos_base.specs.Words.{negated}
use Rattle.lib_os.specs.declared.numbers.TheConstants.{DEVICE_CONSOLE, DEVICE_FILE, DEVICE_PIPE, FD_MODE, SERVICE_READ, TRANSFER_MAX}
use Rattle.lib_os.specs.declared.place.PipeStep.TheVariants as pipe
use Rattle.lib_os.specs.declared.place.Step.{Step}
use Rattle.lib_os.specs.declared.place.Step.TheVariants as step
use Rattle.lib_os.specs.Fence.{is_buffer}
use Rattle.lib_os.specs.UserCalls.{answer_of}
use Rattle.lib_stage.specs.declared.ask.Ask.{Ask}
use Rattle.lib_stage.specs.declared.ask.Ask.TheVariants as ask
use Rattle.lib_stage.specs.declared.ask.Next.{Next}
use Rattle.lib_stage.specs.declared.ask.Next.TheVariants as next
use Rattle.lib_stage.specs.Asks.{no_args}
use Rattle.lib_stage.specs.ServiceSteps.{Plan}
use Rattle.lib_fd.specs.DescriptorStages as descriptor
use Rattle.lib_fd.specs.DescriptorStages.{descriptor_va, is_there, region_asked_for}
use Rattle.lib_file.specs.Buffers.{entry_asked, is_writable, region_asked}
use Rattle.lib_file.specs.Finding.{device_asked, next_of_entry, next_of_region}
use Rattle.lib_file.specs.Keeping.{next_va}
use Rattle.lib_bytes.specs.declared.bytes.FileService.TheVariants as of
use Rattle.lib_bytes.specs.FileStages as bytes
use Rattle.lib_pipe.specs.declared.ends.PipeService.TheVariants as end_of
use Rattle.lib_pipe.specs.PipeStages as ends
use Rattle.lib_read.specs.declared.read.Read.{Read}
use Rattle.lib_read.specs.declared.read.ReadStage.{ReadStage}
use Rattle.lib_read.specs.declared.read.ReadStage.TheVariants as stage

-- the stage of read that is kept as a step, if it is one of read's
abbrev pub stage_at : Step → Option ReadStage
stage_at step.Entered = Some stage.Entered
stage_at (step.DescriptorEntry fd) = Some stage.Entry
stage_at step.ReadingDevice = Some stage.Device
stage_at step.Getting = Some stage.Getting
stage_at (step.BufferRegion done word) = Some (stage.BufferRegion done word)
stage_at (step.BufferEntry done word) = Some (stage.BufferEntry done word)
stage_at (step.Delivering done word) = Some (stage.Delivering done word)
stage_at (step.Faulting done word) = Some (stage.Faulting done word)
stage_at step.ReadingMode = Some stage.ReadingMode
stage_at (step.Piped at) = option_map (λ at. stage.OfPipe at) (ends.stage_of at)
stage_at step = option_map (λ at. stage.OfFile at) (bytes.stage_at step)

abbrev pub read_at : ℕ → ℕ → ℕ → Step → Option Read
read_at fd va len step = option_map (λ at. record { fd = fd; va = va; len = len; at = at }) (stage_at step)

-- ---- what it asks

abbrev pub ask_of : ℕ → ℕ → ℕ → ReadStage → Ask
ask_of fd va len stage.Entered = region_asked_for fd
ask_of fd va len stage.Entry = descriptor.entry_asked fd
ask_of fd va len stage.Device = device_asked fd
ask_of fd va len stage.Getting = ask.System SYS_CGETC no_args
ask_of fd va len (stage.BufferRegion done byte) = region_asked (next_va va done)
ask_of fd va len (stage.BufferEntry done byte) = entry_asked (next_va va done)
ask_of fd va len (stage.Delivering done byte) = ask.StoreByte (next_va va done) (byte % 256)
ask_of fd va len (stage.Faulting done byte) = ask.StoreByte (next_va va done) (byte % 256)
ask_of fd va len stage.ReadingMode = ask.Load (descriptor_va fd + FD_MODE)
ask_of fd va len (stage.OfFile at) = bytes.ask_of (of.Read len) fd va at
ask_of fd va len (stage.OfPipe at) = ends.ask_of (end_of.Read len) fd at

-- ---- what it does next

-- its buffer lies in the fence, as far as bytes may come there
abbrev pub has_room : ℕ → ℕ → Bool
has_room va len = is_buffer va (min len TRANSFER_MAX)

abbrev pub next_of_device : ℕ → ℕ → ℕ → Next
next_of_device va len device =
    if device == DEVICE_FILE then next.GoOn step.ReadingMode
    else if device == DEVICE_PIPE then next.GoOn (step.Piped pipe.EndMode)
    else if not (device == DEVICE_CONSOLE) then next.Answer (negated E_NOT_SUPP)
    else if not (has_room va len) then next.Answer (negated E_INVAL)
    else if len == 0 then next.Answer 0
    else next.GoOn step.Getting

-- a file that is open only for writing
abbrev pub next_of_mode : ℕ → ℕ → ℕ → Next
next_of_mode va len mode =
    if mode == 1 then next.Answer (negated E_INVAL)
    else if not (has_room va len) then next.Answer (negated E_INVAL)
    else next.GoOn step.TakingPage

abbrev pub next_of : ℕ → ℕ → ℕ → ReadStage → ℕ → Next
next_of fd va len stage.Entered word = next_of_region fd word
next_of fd va len stage.Entry word = next_of_entry word
next_of fd va len stage.Device word = next_of_device va len word
next_of fd va len stage.Getting word = if word == END_OF_INPUT then next.Answer 0 else next.Show (step.BufferRegion 0 word)
next_of fd va len (stage.BufferRegion done byte) word =
    if not (is_there word) then next.GoOn (step.Faulting done byte) else next.GoOn (step.BufferEntry done byte)
next_of fd va len (stage.BufferEntry done byte) word =
    if not (is_writable word) then next.GoOn (step.Faulting done byte) else next.GoOn (step.Delivering done byte)
next_of fd va len (stage.Delivering done byte) word = next.Answer 1
next_of fd va len (stage.Faulting done byte) word = next.Gone
next_of fd va len stage.ReadingMode word = next_of_mode va len word
next_of fd va len (stage.OfFile at) word = bytes.next_of (of.Read len) va at word
next_of fd va len (stage.OfPipe at) word = ends.next_of (end_of.Read len) va at word

-- ---- the plan

abbrev pub reading : Read → Plan
reading it = record {
  number = SERVICE_READ;
  asks = ask_of it.fd it.va it.len it.at;
  next = λ called. next_of it.fd it.va it.len it.at (answer_of called);
}
