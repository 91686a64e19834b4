-- write: what it asks at each stage, and what it does next by the reply. The bytes are kept in a page at UTEMP until all are there: those for the
-- console from its beginning on, and those for a file where the request has them by which the file server is asked to write them. Those for a pipe
-- are there from its beginning on too; that they are for one is told by their place, which is kept as one page behind. They are moved into the pipe
-- as `lib_pipe` tells.
-- (MIT 6.828, lab 5: lib/fd.c, write, and lib/console.c, devcons_write.)
use Rattle.std.specs.Prelude.{ℕ, ◌+◌, ◌-◌, ◌/◌, ◌%◌, ◌^◌, ◌==◌, not, nat_le, [], ◌∷◌, Option, Some, None, if◌then◌else◌}
use Rattle.std.specs.Option.{option_map}
use Rattle.jos_base.specs.declared.called.Called.{Called}
use Rattle.jos_base.specs.declared.called.Called.TheVariants.{Answered}
use Rattle.jos_base.specs.declared.numbers.TheConstants.{E_INVAL, E_NOT_SUPP, PGSIZE, PTE_P, PTE_U, PTE_W}
use Rattle.jos_base.specs.declared.numbers.TheConstants.{SYS_CPUTS, SYS_GETENVID, SYS_PAGE_ALLOC, SYS_PAGE_UNMAP, SYS_YIELD, UTEMP}
use Rattle.jos_base.specs.Words.{negated}
use Rattle.lib_os.specs.declared.numbers.TheConstants.{DEVICE_CONSOLE, DEVICE_FILE, DEVICE_PIPE, FD_FILE, FD_MODE, FSREQ_WRITE, REQUEST_BYTES}
use Rattle.lib_os.specs.declared.numbers.TheConstants.{REQUEST_COUNT, REQUEST_FILE, SERVICE_WRITE}
use Rattle.lib_os.specs.declared.place.PipeStep.TheVariants as pipe
use Rattle.lib_os.specs.declared.place.Step.{Step}
use Rattle.lib_os.specs.declared.place.Step.TheVariants as step
use Rattle.lib_os.specs.Answers.{moved_at_once}
use Rattle.lib_os.specs.Fence.{is_buffer}
use Rattle.lib_os.specs.StandsInHandler as stands
use Rattle.lib_os.specs.UserCalls.{answer_of}
use Rattle.lib_stage.specs.declared.ask.Ask.{Ask}
use Rattle.lib_stage.specs.declared.ask.Ask.TheVariants as ask
use Rattle.lib_stage.specs.declared.ask.Next.{Next}
use Rattle.lib_stage.specs.declared.ask.Next.TheVariants as next
use Rattle.lib_stage.specs.Asks.{no_args}
use Rattle.lib_stage.specs.ServiceSteps.{Plan}
use Rattle.lib_fd.specs.DescriptorStages as descriptor
use Rattle.lib_fd.specs.DescriptorStages.{descriptor_va, is_there, region_asked_for}
use Rattle.lib_file.specs.Buffers.{entry_asked, region_asked}
use Rattle.lib_file.specs.Keeping.{keeping_asked, kept_at_once, next_va}
use Rattle.lib_file.specs.Finding.{device_asked, next_of_entry, next_of_region}
use Rattle.lib_request.specs.PageRequests.{clearing_asked, next_of_asking, reply_asked, request_asked}
use Rattle.lib_request.specs.Replies.{reply_place}
use Rattle.lib_pipe.specs.declared.ends.PipeService.TheVariants as end_of
use Rattle.lib_pipe.specs.PipeStages as ends
use Rattle.lib_write.specs.declared.write.Write.{Write}
use Rattle.lib_write.specs.declared.write.WriteStage.{WriteStage}
use Rattle.lib_write.specs.declared.write.WriteStage.TheVariants as stage

-- the stage of write that is kept as a step, if it is one of write's
abbrev pub stage_at : Step → Option WriteStage
stage_at step.Entered = Some stage.Entered
stage_at (step.DescriptorEntry fd) = Some stage.Entry
stage_at step.ReadingDevice = Some stage.Device
stage_at step.TakingPage = Some stage.TakingPage
stage_at step.ReadingMode = Some stage.ReadingMode
stage_at step.TakingRequest = Some stage.TakingRequest
stage_at (step.BufferRegion done start) = Some (stage.BufferRegion done start)
stage_at (step.BufferEntry done start) = Some (stage.BufferEntry done start)
stage_at (step.GatheringBytes done start) = Some (stage.Gathering done start)
stage_at (step.KeepingBytes done word left start) = Some (stage.Keeping done word left start)
stage_at step.Printing = Some stage.Printing
stage_at step.Releasing = Some stage.Releasing
stage_at (step.Faulting done start) = Some (stage.Faulting done)
stage_at step.ReadingNumber = Some stage.ReadingNumber
stage_at (step.StoringNumber number) = Some (stage.StoringNumber number)
stage_at step.StoringCount = Some stage.StoringCount
stage_at step.Identifying = Some stage.Identifying
stage_at (step.Asking id) = Some (stage.Asking id)
stage_at (step.Pausing id) = Some (stage.Pausing id)
stage_at (step.Awaiting id) = Some (stage.Awaiting id)
stage_at (step.Clearing id) = Some (stage.Clearing id)
stage_at (step.ReadingReply id) = Some (stage.ReadingReply id)
stage_at (step.Piped at) = option_map (λ at. stage.OfPipe at) (ends.stage_of at)
stage_at (step.Returning answer) = Some (stage.Returning answer)
stage_at _ = None

abbrev pub write_at : ℕ → ℕ → ℕ → Step → Option Write
write_at fd va len step = option_map (λ at. record { fd = fd; va = va; len = len; at = at }) (stage_at step)

-- ---- what it asks

-- how many bytes it takes for the console
abbrev pub wanted_of : ℕ → ℕ
wanted_of len = stands.wanted_of len

-- and by where they begin in its page
abbrev pub wanted_from : ℕ → ℕ → ℕ
wanted_from start len = stands.wanted_from start len

-- how many it takes at once there
abbrev pub moved : ℕ → ℕ → ℕ → ℕ → ℕ
moved va len start done = moved_at_once (next_va va done) (wanted_from start len - done)

abbrev pub gathering_asked : ℕ → ℕ → ℕ → ℕ → Ask
gathering_asked va len start done = if moved va len start done == 4 then ask.Load (next_va va done) else ask.LoadByte (next_va va done)

-- where the next byte is put in its page
abbrev pub place_in : ℕ → ℕ → ℕ
place_in start done = (start + done) % 2 ^ 32

-- the bits of the page's entry
abbrev pub page_perm : ℕ
page_perm = PTE_P + PTE_U + PTE_W

abbrev pub ask_of : ℕ → ℕ → ℕ → WriteStage → Ask
ask_of fd va len stage.Entered = region_asked_for fd
ask_of fd va len stage.Entry = descriptor.entry_asked fd
ask_of fd va len stage.Device = device_asked fd
ask_of fd va len stage.TakingPage = ask.System SYS_PAGE_ALLOC (0 ∷ UTEMP ∷ page_perm ∷ 0 ∷ 0 ∷ [])
ask_of fd va len stage.ReadingMode = ask.Load (descriptor_va fd + FD_MODE)
ask_of fd va len stage.TakingRequest = ask.System SYS_PAGE_ALLOC (0 ∷ UTEMP ∷ page_perm ∷ 0 ∷ 0 ∷ [])
ask_of fd va len (stage.BufferRegion done start) = region_asked (next_va va done)
ask_of fd va len (stage.BufferEntry done start) = entry_asked (next_va va done)
ask_of fd va len (stage.Gathering done start) = gathering_asked va len start done
ask_of fd va len (stage.Keeping done word left start) = keeping_asked (place_in start done) word left
ask_of fd va len stage.Printing = ask.System SYS_CPUTS (UTEMP ∷ wanted_of len ∷ 0 ∷ 0 ∷ 0 ∷ [])
ask_of fd va len stage.Releasing = ask.System SYS_PAGE_UNMAP (0 ∷ UTEMP ∷ 0 ∷ 0 ∷ 0 ∷ [])
ask_of fd va len (stage.Faulting done) = ask.LoadByte (next_va va done)
ask_of fd va len stage.ReadingNumber = ask.Load (descriptor_va fd + FD_FILE)
ask_of fd va len (stage.StoringNumber number) = ask.Store (UTEMP + REQUEST_FILE) number
ask_of fd va len stage.StoringCount = ask.Store (UTEMP + REQUEST_COUNT) (wanted_from REQUEST_BYTES len)
ask_of fd va len stage.Identifying = ask.System SYS_GETENVID no_args
ask_of fd va len (stage.Asking id) = request_asked FSREQ_WRITE
ask_of fd va len (stage.Pausing id) = ask.System SYS_YIELD no_args
ask_of fd va len (stage.Awaiting id) = reply_asked
ask_of fd va len (stage.Clearing id) = clearing_asked
ask_of fd va len (stage.ReadingReply id) = ask.Load (reply_place id)
ask_of fd va len (stage.OfPipe at) = ends.ask_of (end_of.Write len) fd at
ask_of fd va len (stage.Returning answer) = clearing_asked

-- ---- what it does next

abbrev pub next_of_device : ℕ → ℕ → ℕ → Next
next_of_device va len device =
    if device == DEVICE_FILE then next.GoOn step.ReadingMode
    else if device == DEVICE_PIPE then next.GoOn (step.Piped pipe.EndMode)
    else if not (device == DEVICE_CONSOLE) then next.Answer (negated E_NOT_SUPP)
    else if not (is_buffer va (wanted_of len)) then next.Answer (negated E_INVAL)
    else if len == 0 then next.Answer 0
    else next.GoOn step.TakingPage

-- a file that is open only for reading
abbrev pub next_of_mode : ℕ → ℕ → ℕ → Next
next_of_mode va len mode =
    if mode == 0 then next.Answer (negated E_INVAL)
    else if not (is_buffer va (wanted_from REQUEST_BYTES len)) then next.Answer (negated E_INVAL)
    else next.GoOn step.TakingRequest

-- it has the page of its request: where no bytes are wanted that has them all
abbrev pub next_of_request : ℕ → ℕ → Next
next_of_request len word =
    if not (word == 0) then next.Answer word
    else if len == 0 then next.GoOn step.ReadingNumber
    else next.GoOn (step.BufferRegion 0 REQUEST_BYTES)

-- its page has all bytes
abbrev pub next_with_all : ℕ → Next
next_with_all start =
    if start == 0 then next.GoOn step.Printing
    else if start == PGSIZE then next.GoOn (step.Piped (pipe.Locking 0 0 0))
    else next.GoOn step.ReadingNumber

-- it has so many; at the next page of the buffer it looks at that
abbrev pub next_behind : ℕ → ℕ → ℕ → ℕ → Next
next_behind va len start done =
    if nat_le (wanted_from start len) done then next_with_all start
    else if next_va va done % PGSIZE == 0 then next.GoOn (step.BufferRegion done start)
    else next.GoOn (step.GatheringBytes done start)

abbrev pub next_of_keeping : ℕ → ℕ → ℕ → ℕ → ℕ → ℕ → Next
next_of_keeping va len start done word left =
    let kept = kept_at_once (place_in start done) left in
    let behind = (done + kept) % 2 ^ 32 in
    if nat_le left kept then next_behind va len start behind else next.GoOn (step.KeepingBytes behind (word / 256) (left - kept) start)

-- the bytes are printed; it is gone where they could not be read
abbrev pub next_of_printing : Called → Next
next_of_printing (Answered word) = next.Show step.Releasing
next_of_printing _ = next.Gone

abbrev pub next_of : ℕ → ℕ → ℕ → WriteStage → Called → Next
next_of fd va len stage.Entered called = next_of_region fd (answer_of called)
next_of fd va len stage.Entry called = next_of_entry (answer_of called)
next_of fd va len stage.Device called = next_of_device va len (answer_of called)
next_of fd va len stage.TakingPage called =
    let word = answer_of called in if not (word == 0) then next.Answer word else next.GoOn (step.BufferRegion 0 0)
next_of fd va len stage.ReadingMode called = next_of_mode va len (answer_of called)
next_of fd va len stage.TakingRequest called = next_of_request len (answer_of called)
next_of fd va len (stage.BufferRegion done start) called =
    if not (is_there (answer_of called)) then next.GoOn (step.Faulting done start) else next.GoOn (step.BufferEntry done start)
next_of fd va len (stage.BufferEntry done start) called =
    if not (is_there (answer_of called)) then next.GoOn (step.Faulting done start) else next.GoOn (step.GatheringBytes done start)
next_of fd va len (stage.Gathering done start) called =
    next.Show (step.KeepingBytes done (answer_of called) (moved va len start done) start)
next_of fd va len (stage.Keeping done kept left start) called = next_of_keeping va len start done kept left
next_of fd va len stage.Printing called = next_of_printing called
next_of fd va len stage.Releasing called = next.GoBack (wanted_of len)
next_of fd va len (stage.Faulting done) called = next.Gone
next_of fd va len stage.ReadingNumber called = next.GoOn (step.StoringNumber (answer_of called))
next_of fd va len (stage.StoringNumber number) called = next.GoOn step.StoringCount
next_of fd va len stage.StoringCount called = next.GoOn step.Identifying
next_of fd va len stage.Identifying called = next.GoOn (step.Asking (answer_of called))
next_of fd va len (stage.Asking id) called = next_of_asking id (answer_of called)
next_of fd va len (stage.Pausing id) called = next.GoOn (step.Asking id)
next_of fd va len (stage.Awaiting id) called = next.Show (step.Clearing id)
next_of fd va len (stage.Clearing id) called = next.GoOn (step.ReadingReply id)
next_of fd va len (stage.ReadingReply id) called = next.Answer (answer_of called)
next_of fd va len (stage.OfPipe at) called = ends.next_of (end_of.Write len) va at (answer_of called)
next_of fd va len (stage.Returning answer) called = next.GoBack answer

-- ---- the plan

abbrev pub writing : Write → Plan
writing it = record {
  number = SERVICE_WRITE;
  asks = ask_of it.fd it.va it.len it.at;
  next = λ called. next_of it.fd it.va it.len it.at called;
}
