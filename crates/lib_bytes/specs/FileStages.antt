-- read and stat of a file: what they ask at each stage from where they take a page for their request on, and what they do next by the reply. The
-- page at UTEMP tells the file server the number of the file and how many bytes are wanted; the bytes that come with the reply stand in it from
-- its beginning on, and go to the program's memory: four at a time, where a word there has them whole, and else one by one.
-- (MIT 6.828, lab 5: lib/file.c, devfile_read and devfile_stat.)
use Rattle.std.specs.Prelude.{ℕ, ◌+◌, ◌-◌, ◌*◌, ◌/◌, ◌%◌, ◌^◌, ◌==◌, ◌&&◌, not, nat_le, min, [], ◌∷◌, Option, Some, None, if◌then◌else◌}
use Rattle.jos_base.specs.declared.numbers.TheConstants.{PGSIZE, SYS_GETENVID, SYS_PAGE_ALLOC, SYS_YIELD, UTEMP}
use Rattle.lib_os.specs.declared.numbers.TheConstants.{FD_FILE, FSREQ_READ, FSREQ_STAT, REQUEST_COUNT, REQUEST_FILE, STAT_SIZE, TRANSFER_MAX}
use Rattle.lib_os.specs.declared.place.Step.{Step}
use Rattle.lib_os.specs.declared.place.Step.TheVariants as step
use Rattle.lib_os.specs.Answers.{moved_at_once}
use Rattle.lib_os.specs.LibrarySteps.{request_perm}
use Rattle.lib_stage.specs.declared.ask.Ask.{Ask}
use Rattle.lib_stage.specs.declared.ask.Ask.TheVariants as ask
use Rattle.lib_stage.specs.declared.ask.Next.{Next}
use Rattle.lib_stage.specs.declared.ask.Next.TheVariants as next
use Rattle.lib_stage.specs.Asks.{no_args}
use Rattle.lib_fd.specs.DescriptorStages.{descriptor_va, is_there}
use Rattle.lib_file.specs.Buffers.{entry_asked, is_writable, region_asked}
use Rattle.lib_file.specs.Keeping.{next_va}
use Rattle.lib_request.specs.PageRequests.{clearing_asked, next_of_asking, reply_asked, request_asked}
use Rattle.lib_request.specs.Replies.{reply_place}
use Rattle.lib_offset.specs.OffsetStages.{next_of_taking}
use Rattle.lib_bytes.specs.declared.bytes.FileService.{FileService}
use Rattle.lib_bytes.specs.declared.bytes.FileService.TheVariants as of
use Rattle.lib_bytes.specs.declared.bytes.FileStage.{FileStage}
use Rattle.lib_bytes.specs.declared.bytes.FileStage.TheVariants as stage

-- ---- stages

-- The stage that is kept as a step, if it is one of these. One that pauses has its id in the place of a page's bits.
abbrev pub stage_at : Step → Option FileStage
stage_at step.TakingPage = Some stage.TakingPage
stage_at step.ReadingNumber = Some stage.ReadingNumber
stage_at (step.StoringNumber number) = Some (stage.StoringNumber number)
stage_at step.StoringCount = Some stage.StoringCount
stage_at step.Identifying = Some stage.Identifying
stage_at (step.Asking id) = Some (stage.Asking id)
stage_at (step.Pausing id) = Some (stage.Pausing id)
stage_at (step.Awaiting id) = Some (stage.Awaiting id)
stage_at (step.CountingReply id) = Some (stage.CountingReply id)
stage_at (step.Clearing id) = Some (stage.Clearing id)
stage_at (step.ReadingReply id) = Some (stage.ReadingReply id)
stage_at (step.FileRegion done count) = Some (stage.Region done count)
stage_at (step.FileEntry done count) = Some (stage.Entry done count)
stage_at (step.LoadingBytes done count) = Some (stage.Loading done count)
stage_at (step.LoadingRest done count first) = Some (stage.Rest done count first)
stage_at (step.PuttingBytes done count word) = Some (stage.Putting done count word)
stage_at (step.FileFaulting done count) = Some (stage.Faulting done count)
stage_at (step.Returning answer) = Some (stage.Returning answer)
stage_at _ = None

-- ---- the two services

-- the word of the request
abbrev pub word_of : FileService → ℕ
word_of (of.Read len) = FSREQ_READ
word_of of.Stat = FSREQ_STAT

-- how many bytes are wanted by it
abbrev pub wanted : FileService → ℕ
wanted (of.Read len) = min len TRANSFER_MAX
wanted of.Stat = 0

-- how many come with a reply, by its word: none with an error's number
abbrev pub handed : FileService → ℕ → ℕ
handed (of.Read len) word = if nat_le word (min len TRANSFER_MAX) then word else 0
handed of.Stat word = if word == 0 then STAT_SIZE else 0

-- what is answered behind so many
abbrev pub answer_behind : FileService → ℕ → ℕ
answer_behind (of.Read len) count = count
answer_behind of.Stat count = 0

-- ---- what it asks

-- how many bytes are put at once, behind so many
abbrev pub moved : ℕ → ℕ → ℕ → ℕ
moved va done count = moved_at_once (next_va va done) (count - done)

-- the word of its page that has the next byte, or the byte alone
abbrev pub loading_asked : ℕ → ℕ → ℕ → Ask
loading_asked va done count =
    if moved va done count == 4 then ask.Load (UTEMP + (done - done % 4) % PGSIZE) else ask.LoadByte (UTEMP + done % PGSIZE)

-- and the word behind that one
abbrev pub rest_asked : ℕ → Ask
rest_asked done = ask.Load (UTEMP + (done - done % 4 + 4) % 2 ^ 32 % PGSIZE)

abbrev pub putting_asked : ℕ → ℕ → ℕ → ℕ → Ask
putting_asked va done count word =
    if moved va done count == 4 then ask.Store (next_va va done) word else ask.StoreByte (next_va va done) (word % 256)

abbrev pub ask_of : FileService → ℕ → ℕ → FileStage → Ask
ask_of service fd va stage.TakingPage = ask.System SYS_PAGE_ALLOC (0 ∷ UTEMP ∷ request_perm ∷ 0 ∷ 0 ∷ [])
ask_of service fd va stage.ReadingNumber = ask.Load (descriptor_va fd + FD_FILE)
ask_of service fd va (stage.StoringNumber number) = ask.Store (UTEMP + REQUEST_FILE) number
ask_of service fd va stage.StoringCount = ask.Store (UTEMP + REQUEST_COUNT) (wanted service)
ask_of service fd va stage.Identifying = ask.System SYS_GETENVID no_args
ask_of service fd va (stage.Asking id) = request_asked (word_of service)
ask_of service fd va (stage.Pausing id) = ask.System SYS_YIELD no_args
ask_of service fd va (stage.Awaiting id) = reply_asked
ask_of service fd va (stage.CountingReply id) = ask.Load (reply_place id)
ask_of service fd va (stage.Clearing id) = clearing_asked
ask_of service fd va (stage.ReadingReply id) = ask.Load (reply_place id)
ask_of service fd va (stage.Region done count) = region_asked (next_va va done)
ask_of service fd va (stage.Entry done count) = entry_asked (next_va va done)
ask_of service fd va (stage.Loading done count) = loading_asked va done count
ask_of service fd va (stage.Rest done count first) = rest_asked done
ask_of service fd va (stage.Putting done count word) = putting_asked va done count word
ask_of service fd va (stage.Faulting done count) = ask.StoreByte (next_va va done) 0
ask_of service fd va (stage.Returning answer) = clearing_asked

-- ---- what it does next

-- so many bytes come with the reply
abbrev pub next_of_counting : ℕ → ℕ → Next
next_of_counting id count = if count == 0 then next.GoOn (step.Clearing id) else next.GoOn (step.FileRegion 0 count)

-- the region of the next byte's page has a table, or not
abbrev pub next_of_region : ℕ → ℕ → ℕ → Next
next_of_region done count word =
    if not (is_there word) then next.GoOn (step.FileFaulting done count) else next.GoOn (step.FileEntry done count)

-- its page may be written, or not
abbrev pub next_of_entry : ℕ → ℕ → ℕ → Next
next_of_entry done count word =
    if not (is_writable word) then next.GoOn (step.FileFaulting done count) else next.GoOn (step.LoadingBytes done count)

-- a word of its page, or a byte; the four bytes that are put at once may stand in two words
abbrev pub next_of_loading : ℕ → ℕ → ℕ → ℕ → Next
next_of_loading va done count word =
    if (moved va done count == 4) && not (done % 4 == 0) then next.GoOn (step.LoadingRest done count word)
    else next.GoOn (step.PuttingBytes done count word)

-- four bytes of two words, without so many of the first
abbrev pub joined : ℕ → ℕ → ℕ → ℕ
joined r first second =
    if r == 1 then first / 256 + second % 256 * 2 ^ 24
    else if r == 2 then first / 2 ^ 16 + second % 2 ^ 16 * 2 ^ 16
    else if r == 3 then first / 2 ^ 24 + second % 2 ^ 24 * 256
    else first

-- so many are put; at the next page it looks at that
abbrev pub next_behind : ℕ → ℕ → ℕ → ℕ → Next
next_behind va behind count answer =
    if nat_le count behind then next.Show (step.Returning answer)
    else if next_va va behind % PGSIZE == 0 then next.Show (step.FileRegion behind count)
    else next.Show (step.LoadingBytes behind count)

abbrev pub next_of_putting : ℕ → ℕ → ℕ → ℕ → Next
next_of_putting va done count answer = next_behind va ((done + moved va done count) % 2 ^ 32) count answer

abbrev pub next_of : FileService → ℕ → FileStage → ℕ → Next
next_of service va stage.TakingPage word = next_of_taking word
next_of service va stage.ReadingNumber word = next.GoOn (step.StoringNumber word)
next_of service va (stage.StoringNumber number) word = next.GoOn step.StoringCount
next_of service va stage.StoringCount word = next.GoOn step.Identifying
next_of service va stage.Identifying own = next.GoOn (step.Asking own)
next_of service va (stage.Asking id) word = next_of_asking id word
next_of service va (stage.Pausing id) word = next.GoOn (step.Asking id)
next_of service va (stage.Awaiting id) word = next.Show (step.CountingReply id)
next_of service va (stage.CountingReply id) word = next_of_counting id (handed service word)
next_of service va (stage.Clearing id) word = next.GoOn (step.ReadingReply id)
next_of service va (stage.ReadingReply id) word = next.Answer word
next_of service va (stage.Region done count) word = next_of_region done count word
next_of service va (stage.Entry done count) word = next_of_entry done count word
next_of service va (stage.Loading done count) word = next_of_loading va done count word
next_of service va (stage.Rest done count first) word = next.GoOn (step.PuttingBytes done count (joined (done % 4) first word))
next_of service va (stage.Putting done count put) word = next_of_putting va done count (answer_behind service count)
next_of service va (stage.Faulting done count) word = next.Gone
next_of service va (stage.Returning answer) word = next.GoBack answer
