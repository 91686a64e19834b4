-- What the file server asks where it stands, and where it goes by the reply.
-- (MIT 6.828, lab 5: fs/serv.c, serve, openfile_alloc, openfile_lookup, serve_open, serve_read and serve_write. That a removal is refused
-- while the file is open, and how often a page is mapped tells that, is this system's own.)
use Rattle.std.specs.Prelude.{◌≡◌, ℕ, ◌+◌, ◌*◌, ◌/◌, ◌%◌, ◌^◌, ◌==◌, ◌&&◌, ◌||◌, nat_lt, nat_le, not, Bool, true, false, [], ◌∷◌, Option, Some, None, if◌then◌else◌}
use Rattle.jos_base.specs.declared.numbers.TheConstants.{E_INVAL, E_IPC_NOT_RECV, E_MAX_OPEN, E_NO_MEM, ENV_IPC_FROM, ENV_IPC_VALUE, FDTABLE}
use Rattle.jos_base.specs.declared.numbers.TheConstants.{PGSIZE, PTE_P, PTE_U, PTE_W, SYS_GETENVID, SYS_IPC_RECV, SYS_IPC_TRY_SEND}
use Rattle.jos_base.specs.declared.numbers.TheConstants.{SYS_PAGE_ALLOC, SYS_PAGE_UNMAP, SYS_YIELD, UENVS, UPAGES, UTOP, UVPT}
use Rattle.jos_base.specs.Words.{negated}
use Rattle.lib_os.specs.declared.numbers.TheConstants.{DEVICE_FILE, FD_DEVICE, FD_FILE, FD_MODE, FD_OFFSET, FD_SIZE, MAXOPEN, OPEN_RECORDS}
use Rattle.lib_os.specs.declared.numbers.TheConstants.{PTE_SHARE, REQUEST, REQUEST_COUNT, REQUEST_FILE, REQUEST_MODE, REQUEST_PLACE}
use Rattle.lib_os.specs.declared.progress.Progress.TheVariants as progress
use Rattle.lib_os.specs.declared.request.RequestKind.{RequestKind}
use Rattle.lib_os.specs.declared.request.RequestKind.TheVariants as kind
use Rattle.lib_os.specs.Requests.{request_kind}
use Rattle.fs_jobs.specs.declared.place.Job.{Job}
use Rattle.fs_jobs.specs.declared.place.Job.TheVariants as job
use Rattle.fs_requests.specs.declared.plan.ServerAsk.{ServerAsk}
use Rattle.fs_requests.specs.declared.plan.ServerAsk.TheVariants as ask
use Rattle.fs_requests.specs.declared.plan.ServerCall.{ServerCall}
use Rattle.fs_requests.specs.declared.plan.ServerCall.TheVariants as call
use Rattle.fs_requests.specs.declared.plan.ServerNext.{ServerNext}
use Rattle.fs_requests.specs.declared.state.ServerState.{ServerState}
use Rattle.fs_requests.specs.declared.state.ServerStep.{ServerStep}
use Rattle.fs_requests.specs.declared.state.ServerStep.TheVariants as step

-- ---- the table of open files

-- the page of a place, which is that of the descriptors of its file
abbrev pub open_page : ℕ → ℕ
open_page number = FDTABLE + PGSIZE * (number % MAXOPEN)

-- the word that tells where the record of its file stands on the disk; 0 where no file ever had the place
abbrev pub open_record : ℕ → ℕ
open_record number = OPEN_RECORDS + 4 * (number % MAXOPEN)

abbrev pub open_perm : ℕ
open_perm = PTE_P + PTE_U + PTE_W + PTE_SHARE

-- where the place of the next byte stands: in the file's page, or in the request
abbrev pub place_va : Option RequestKind → ℕ → ℕ
place_va (Some kind.ReadAt) number = REQUEST + REQUEST_PLACE
place_va _ number = open_page number + FD_OFFSET

-- the page is mapped by another, beside the server
abbrev pub is_held : ℕ → Bool
is_held holders = nat_le 2 holders

-- ---- what is asked

abbrev pub opens : Option RequestKind → Bool
opens (Some kind.Open) = true
opens _ = false

-- the page that goes with a reply, and its bits: that of what was opened, or none
abbrev pub page_with : ServerState → ℕ × ℕ
page_with state = if opens state.kind && (state.count == 0) then (open_page state.number, open_perm) else (UTOP, 0)

abbrev pub system : ℕ → ℕ → ℕ → ℕ → ℕ → ServerCall
system number a b c d = call.System number (a ∷ b ∷ c ∷ d ∷ 0 ∷ [])

abbrev pub replying : ServerState → ℕ × ℕ → ServerCall
replying state page = system SYS_IPC_TRY_SEND state.client state.count page.0 page.1

abbrev pub call_for : ServerState → ServerStep → ServerCall
call_for state step.Releasing = system SYS_PAGE_UNMAP 0 REQUEST 0 0
call_for state step.Receiving = system SYS_IPC_RECV REQUEST 0 0 0
call_for state step.ReadingKind = call.Load (UENVS + 4 * ENV_IPC_VALUE)
call_for state step.ReadingClient = call.Load (UENVS + 4 * ENV_IPC_FROM)
call_for state step.ReadingFile = call.Load (REQUEST + REQUEST_FILE)
call_for state step.ReadingOffset = call.Load (place_va state.kind state.number)
call_for state step.ReadingCount = call.Load (REQUEST + REQUEST_COUNT)
call_for state step.ReadingRecord = call.Load (open_record state.number)
call_for state step.LookingRecord = call.Load (open_record state.number)
call_for state step.LookingEntry = call.Load (UVPT + 4 * (open_page state.number / PGSIZE))
call_for state step.LookingHolders = call.Load (UPAGES + 8 * (state.at / PGSIZE) + 4)
call_for state step.TakingPage = system SYS_PAGE_ALLOC 0 (open_page state.number) open_perm 0
call_for state step.ReadingMode = call.Load (REQUEST + REQUEST_MODE)
call_for state step.StoringRecord = call.Store (open_record state.number) state.home
call_for state step.StoringDevice = call.Store (open_page state.number + FD_DEVICE) DEVICE_FILE
call_for state step.ReadingModeAgain = call.Load (REQUEST + REQUEST_MODE)
call_for state step.StoringMode = call.Store (open_page state.number + FD_MODE) (state.count % 4)
call_for state step.StoringFile = call.Store (open_page state.number + FD_FILE) state.number
call_for state step.ReadingRecordAgain = call.Load (open_record state.number)
call_for state step.StoringSize = call.Store (open_page state.number + FD_SIZE) state.count
call_for state step.Advancing = call.Load (open_page state.number + FD_OFFSET)
call_for state step.StoringOffset = call.Store (open_page state.number + FD_OFFSET) state.at
call_for state step.CheckingRecord = call.Load (open_record state.number)
call_for state step.CheckingEntry = call.Load (UVPT + 4 * (open_page state.number / PGSIZE))
call_for state step.CheckingHolders = call.Load (UPAGES + 8 * (state.at / PGSIZE) + 4)
call_for state step.Replying = replying state (page_with state)
call_for state step.Pausing = system SYS_YIELD 0 0 0 0
-- nothing is asked for but an id
call_for state _ = system SYS_GETENVID 0 0 0 0

abbrev pub call_at : ServerState → ServerCall
call_at state = call_for state state.step

abbrev pub ask_for : ServerState → ServerStep → ServerAsk
ask_for state step.Working = ask.Work
ask_for state step.Finding = ask.Work
ask_for state step.Sizing = ask.Work
ask_for state step.Flushing = ask.Flush
ask_for state at = ask.Call (call_for state at)

abbrev pub ask_at : ServerState → ServerAsk
ask_at state = ask_for state state.step

-- the system calls that the server makes itself
abbrev pub is_own_number : ℕ → Bool
is_own_number number =
    (number == SYS_GETENVID) || (number == SYS_PAGE_ALLOC) || (number == SYS_PAGE_UNMAP) || (number == SYS_YIELD)
    || (number == SYS_IPC_TRY_SEND) || (number == SYS_IPC_RECV)

-- words lie at multiples of four, and a system call is one of these, given four words
abbrev pub IsOwnCall : ServerCall → Type 0
IsOwnCall (call.Load va) = va % 4 ≡ 0
IsOwnCall (call.Store va word) = va % 4 ≡ 0
IsOwnCall (call.System number args) =
    (is_own_number number ≡ true) × (a : ℕ) × (b : ℕ) × (c : ℕ) × (d : ℕ) × (args ≡ a ∷ b ∷ c ∷ d ∷ 0 ∷ [])

abbrev pub IsOwnAsk : ServerAsk → Type 0
IsOwnAsk (ask.Call it) = IsOwnCall it
IsOwnAsk _ = Unit {0}

-- ---- where it goes

-- nobody sees it
abbrev pub hidden : ServerState → ServerStep → ServerNext
hidden state at = record { state = record state { step = at }; begins = None; seen = progress.Hidden }

-- it is a step of the abstract system
abbrev pub shown : ServerState → ServerStep → ServerNext
shown state at = record { state = record state { step = at }; begins = None; seen = progress.Visible }

-- nobody sees it, and a job on files begins
abbrev pub begun : ServerState → ServerStep → Job → ServerNext
begun state at it = record { state = record state { step = at }; begins = Some it; seen = progress.Hidden }

-- the act comes to this answer, which the next step shows, or this one has shown
abbrev pub acting : ServerState → ℕ → ServerNext
acting state answer = hidden (record state { count = answer }) step.Acting

abbrev pub acted : ServerState → ℕ → ServerNext
acted state answer = shown (record state { count = answer }) step.Replying

-- an answer that is no error's number
abbrev pub is_count : ℕ → Bool
is_count answer = nat_lt answer 0x80000000

abbrev pub request_by : Option RequestKind → ServerState → ServerNext
request_by (Some kind.Open) state = hidden state step.LookingRecord
request_by (Some kind.Remove) state = begun state step.Finding job.Find
request_by (Some kind.Sync) state = hidden state step.Flushing
request_by (Some _) state = hidden state step.ReadingFile
request_by None state = acting state (negated E_INVAL)

abbrev pub next_request : ServerState → ServerNext
next_request state = request_by state.kind (record state { number = 0 })

abbrev pub count_by : Option RequestKind → ServerState → ℕ → ServerNext
count_by (Some kind.Seek) state word = hidden (record state { at = word; count = 0 }) step.StoringOffset
count_by _ state word = hidden (record state { count = word }) step.ReadingRecord

abbrev pub next_count : ServerState → ℕ → ServerNext
next_count state word = count_by state.kind state word

-- the job on a file that is open
abbrev pub job_by : Option RequestKind → ServerState → ℕ → Job
job_by (Some kind.Read) state home = job.Read home state.at state.count
job_by (Some kind.ReadAt) state home = job.Read home state.at state.count
job_by (Some kind.Write) state home = job.Write home state.at state.count
job_by (Some kind.SetSize) state home = job.SetSize home state.count
job_by _ state home = job.Stat home

abbrev pub next_record : ServerState → ℕ → ServerNext
next_record state home = begun state step.Working (job_by state.kind state home)

-- What was opened is looked up once more, for its record. Where bytes were moved the place of the next byte goes on by them.
abbrev pub advancing : ServerState → ℕ → ServerNext
advancing state answer =
    if is_count answer then hidden (record state { count = answer }) step.Advancing else acting state answer

abbrev pub worked_by : Option RequestKind → ServerState → ℕ → ServerNext
worked_by (Some kind.Open) state answer = if answer == 0 then begun state step.Finding job.Find else acting state answer
worked_by (Some kind.Read) state answer = advancing state answer
worked_by (Some kind.Write) state answer = advancing state answer
worked_by _ state answer = acting state answer

abbrev pub next_worked : ServerState → ℕ → ServerNext
next_worked state answer = worked_by state.kind state answer

abbrev pub going_with : ServerState → ServerStep → ℕ → ServerNext
going_with state at answer = if is_count answer then hidden (record state { home = answer }) at else acting state answer

abbrev pub found_by : Option RequestKind → ServerState → ℕ → ServerNext
found_by (Some kind.Open) state answer = going_with state step.StoringRecord answer
found_by (Some kind.Remove) state answer = going_with state step.CheckingRecord answer
found_by _ state answer = acting state answer

abbrev pub next_found : ServerState → ℕ → ServerNext
next_found state answer = found_by state.kind state answer

-- the size of what was opened is told
abbrev pub next_sized : ServerState → ℕ → ServerNext
next_sized state size = if is_count size then hidden (record state { count = size }) step.StoringSize else acting state size

-- the place behind the one at hand
abbrev pub is_last : ServerState → Bool
is_last state = nat_le MAXOPEN (state.number % MAXOPEN + 1)

abbrev pub further : ServerState → ServerState
further state = record state { number = state.number % MAXOPEN + 1 }

abbrev pub next_holders : ServerState → ℕ → ServerNext
next_holders state holders =
    if not (is_held holders) then shown state step.ReadingMode
    else if is_last state then acted state (negated E_MAX_OPEN)
    else shown (further state) step.LookingRecord

abbrev pub next_check : ServerState → ServerNext
next_check state =
    if is_last state then begun state step.Working (job.Remove state.home) else hidden (further state) step.CheckingRecord

-- Where no table was to be had for the page that goes with the reply, that is the answer, and no page goes with it.
abbrev pub next_replied : ServerState → ℕ → ServerNext
next_replied state answer =
    if answer == negated E_IPC_NOT_RECV then
    record { state = record state { step = step.Pausing }; begins = None; seen = progress.Waited }
    else if (answer == negated E_NO_MEM) && not (state.count == answer) then hidden (record state { count = answer }) step.Replying
    else shown state step.Releasing

abbrev pub next_for : ServerState → ServerStep → ℕ → ServerNext
next_for state step.Releasing word = hidden state step.Receiving
next_for state step.Receiving word = shown state step.ReadingKind
next_for state step.ReadingKind word = hidden (record state { kind = request_kind word }) step.ReadingClient
next_for state step.ReadingClient word = next_request (record state { client = word })
next_for state step.ReadingFile word = hidden (record state { number = word % MAXOPEN }) step.ReadingOffset
next_for state step.ReadingOffset word = hidden (record state { at = word }) step.ReadingCount
next_for state step.ReadingCount word = next_count state word
next_for state step.ReadingRecord word = next_record state word
next_for state step.LookingRecord word = if word == 0 then shown state step.TakingPage else hidden state step.LookingEntry
next_for state step.LookingEntry word = hidden (record state { at = word }) step.LookingHolders
next_for state step.LookingHolders word = next_holders state word
next_for state step.TakingPage word = if word == 0 then hidden state step.ReadingMode else acting state word
next_for state step.ReadingMode word = begun state step.Working (job.Open word)
next_for state step.Working word = next_worked state word
next_for state step.Finding word = next_found state word
next_for state step.StoringRecord word = hidden state step.StoringDevice
next_for state step.StoringDevice word = hidden state step.ReadingModeAgain
next_for state step.ReadingModeAgain word = hidden (record state { count = word }) step.StoringMode
next_for state step.StoringMode word = hidden state step.StoringFile
next_for state step.StoringFile word = hidden state step.ReadingRecordAgain
next_for state step.ReadingRecordAgain word = begun state step.Sizing (job.Size word)
next_for state step.Sizing word = next_sized state word
next_for state step.StoringSize word = hidden (record state { at = 0; count = 0 }) step.StoringOffset
next_for state step.Advancing word = hidden (record state { at = (word + state.count) % 2 ^ 32 }) step.StoringOffset
next_for state step.StoringOffset word = shown state step.Replying
next_for state step.CheckingRecord word = if word == state.home then hidden state step.CheckingEntry else next_check state
next_for state step.CheckingEntry word = hidden (record state { at = word }) step.CheckingHolders
next_for state step.CheckingHolders word = if is_held word then acted state (negated E_INVAL) else next_check state
next_for state step.Flushing word = acting state 0
next_for state step.Acting word = shown state step.Replying
next_for state step.Replying word = next_replied state word
next_for state step.Pausing word = hidden state step.Replying

abbrev pub next_at : ServerState → ℕ → ServerNext
next_at state word = next_for state state.step word
