-- seek and set_size: what they ask at each stage, and what they do next by the reply. What is no file refuses them; of a file they ask the file
-- server, with a page at UTEMP that tells its number and the offset, or the size.
-- (MIT 6.828, lab 5: lib/fd.c, seek and ftruncate, and lib/file.c. That an offset is set by a request is this system's own.)
use Rattle.std.specs.Prelude.{ℕ, ◌+◌, ◌==◌, not, nat_lt, [], ◌∷◌, Option, Some, None, if◌then◌else◌}
use Rattle.std.specs.Option.{option_map}
use Rattle.jos_base.specs.declared.numbers.TheConstants.{E_INVAL, E_NOT_SUPP, SYS_GETENVID, SYS_PAGE_ALLOC, SYS_YIELD, UTEMP}
use Rattle.jos_base.specs.Words.{negated}
use Rattle.lib_os.specs.declared.numbers.TheConstants.{DEVICE_FILE, FD_FILE, FD_MODE, FSREQ_SEEK, FSREQ_SET_SIZE, OFFSET_MAX, REQUEST_COUNT}
use Rattle.lib_os.specs.declared.numbers.TheConstants.{REQUEST_FILE, SERVICE_SEEK, SERVICE_SET_SIZE}
use Rattle.lib_os.specs.declared.place.Step.{Step}
use Rattle.lib_os.specs.declared.place.Step.TheVariants as step
use Rattle.lib_os.specs.LibrarySteps.{request_perm}
use Rattle.lib_os.specs.UserCalls.{answer_of}
use Rattle.lib_stage.specs.declared.ask.Ask.{Ask}
use Rattle.lib_stage.specs.declared.ask.Ask.TheVariants as ask
use Rattle.lib_stage.specs.declared.ask.Next.{Next}
use Rattle.lib_stage.specs.declared.ask.Next.TheVariants as next
use Rattle.lib_stage.specs.Asks.{no_args}
use Rattle.lib_stage.specs.ServiceSteps.{Plan}
use Rattle.lib_fd.specs.DescriptorStages.{descriptor_va, entry_asked, region_asked_for}
use Rattle.lib_file.specs.Finding.{device_asked, next_of_entry, next_of_region}
use Rattle.lib_request.specs.PageRequests.{clearing_asked, next_of_asking, reply_asked, request_asked}
use Rattle.lib_request.specs.Replies.{reply_place}
use Rattle.lib_offset.specs.declared.offset.Offset.{Offset}
use Rattle.lib_offset.specs.declared.offset.OffsetService.{OffsetService}
use Rattle.lib_offset.specs.declared.offset.OffsetService.TheVariants as of
use Rattle.lib_offset.specs.declared.offset.OffsetStage.{OffsetStage}
use Rattle.lib_offset.specs.declared.offset.OffsetStage.TheVariants as stage

-- ---- stages

-- set_size alone reads the mode of its file
abbrev pub mode_stage : OffsetService → Option OffsetStage
mode_stage (of.Seek offset) = None
mode_stage (of.SetSize size) = Some stage.ReadingMode

-- The stage that is kept as a step, if it is one of these. One that pauses has its id in the place of a page's bits.
abbrev pub stage_at : OffsetService → Step → Option OffsetStage
stage_at service step.Entered = Some stage.Entered
stage_at service (step.DescriptorEntry fd) = Some stage.Entry
stage_at service step.ReadingDevice = Some stage.Device
stage_at service step.ReadingMode = mode_stage service
stage_at service step.TakingPage = Some stage.TakingPage
stage_at service step.ReadingNumber = Some stage.ReadingNumber
stage_at service (step.StoringNumber number) = Some (stage.StoringNumber number)
stage_at service step.StoringCount = Some stage.StoringCount
stage_at service step.Identifying = Some stage.Identifying
stage_at service (step.Asking id) = Some (stage.Asking id)
stage_at service (step.Pausing id) = Some (stage.Pausing id)
stage_at service (step.Awaiting id) = Some (stage.Awaiting id)
stage_at service (step.Clearing id) = Some (stage.Clearing id)
stage_at service (step.ReadingReply id) = Some (stage.ReadingReply id)
stage_at service _ = None

abbrev pub offset_at : OffsetService → ℕ → Step → Option Offset
offset_at service fd step = option_map (λ at. record { service = service; fd = fd; at = at }) (stage_at service step)

-- ---- the two services

abbrev pub number_of : OffsetService → ℕ
number_of (of.Seek offset) = SERVICE_SEEK
number_of (of.SetSize size) = SERVICE_SET_SIZE

abbrev pub word_of : OffsetService → ℕ
word_of (of.Seek offset) = FSREQ_SEEK
word_of (of.SetSize size) = FSREQ_SET_SIZE

abbrev pub count_of : OffsetService → ℕ
count_of (of.Seek offset) = offset
count_of (of.SetSize size) = size

-- ---- what it asks

abbrev pub ask_of : OffsetService → ℕ → OffsetStage → Ask
ask_of service fd stage.Entered = region_asked_for fd
ask_of service fd stage.Entry = entry_asked fd
ask_of service fd stage.Device = device_asked fd
ask_of service fd stage.ReadingMode = ask.Load (descriptor_va fd + FD_MODE)
ask_of service fd stage.TakingPage = ask.System SYS_PAGE_ALLOC (0 ∷ UTEMP ∷ request_perm ∷ 0 ∷ 0 ∷ [])
ask_of service fd stage.ReadingNumber = ask.Load (descriptor_va fd + FD_FILE)
ask_of service fd (stage.StoringNumber number) = ask.Store (UTEMP + REQUEST_FILE) number
ask_of service fd stage.StoringCount = ask.Store (UTEMP + REQUEST_COUNT) (count_of service)
ask_of service fd stage.Identifying = ask.System SYS_GETENVID no_args
ask_of service fd (stage.Asking id) = request_asked (word_of service)
ask_of service fd (stage.Pausing id) = ask.System SYS_YIELD no_args
ask_of service fd (stage.Awaiting id) = reply_asked
ask_of service fd (stage.Clearing id) = clearing_asked
ask_of service fd (stage.ReadingReply id) = ask.Load (reply_place id)

-- ---- what it does next

-- its descriptor names a file
abbrev pub next_of_file : OffsetService → Next
next_of_file (of.Seek offset) = if nat_lt OFFSET_MAX offset then next.Answer (negated E_INVAL) else next.GoOn step.TakingPage
next_of_file (of.SetSize size) = next.GoOn step.ReadingMode

abbrev pub next_of_device : OffsetService → ℕ → Next
next_of_device service word = if not (word == DEVICE_FILE) then next.Answer (negated E_NOT_SUPP) else next_of_file service

abbrev pub next_of_mode : ℕ → Next
next_of_mode word = if word == 0 then next.Answer (negated E_INVAL) else next.GoOn step.TakingPage

abbrev pub next_of_taking : ℕ → Next
next_of_taking word = if not (word == 0) then next.Answer word else next.GoOn step.ReadingNumber

abbrev pub next_of : OffsetService → ℕ → OffsetStage → ℕ → Next
next_of service fd stage.Entered word = next_of_region fd word
next_of service fd stage.Entry word = next_of_entry word
next_of service fd stage.Device word = next_of_device service word
next_of service fd stage.ReadingMode word = next_of_mode word
next_of service fd stage.TakingPage word = next_of_taking word
next_of service fd stage.ReadingNumber word = next.GoOn (step.StoringNumber word)
next_of service fd (stage.StoringNumber number) word = next.GoOn step.StoringCount
next_of service fd stage.StoringCount word = next.GoOn step.Identifying
next_of service fd stage.Identifying own = next.GoOn (step.Asking own)
next_of service fd (stage.Asking id) word = next_of_asking id word
next_of service fd (stage.Pausing id) word = next.GoOn (step.Asking id)
next_of service fd (stage.Awaiting id) word = next.Show (step.Clearing id)
next_of service fd (stage.Clearing id) word = next.GoOn (step.ReadingReply id)
next_of service fd (stage.ReadingReply id) word = next.Answer word

-- ---- the plan

abbrev pub offsetting : Offset → Plan
offsetting it = record {
  number = number_of it.service;
  asks = ask_of it.service it.fd it.at;
  next = λ called. next_of it.service it.fd it.at (answer_of called);
}
