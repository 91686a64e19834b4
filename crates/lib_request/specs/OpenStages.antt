-- open_file: what it asks at each stage, and what it does next by the reply. Its path is gathered in a page at UTEMP, as that of remove is; then
-- it looks for the lowest descriptor that is free, and puts the mode into its page, which goes with its request. The page of the file that is
-- opened comes with the reply, and is put where the descriptor's is.
-- (MIT 6.828, lab 5: lib/file.c: open; lib/fd.c: fd_alloc.)
use Rattle.std.specs.Prelude.{ℕ, ◌+◌, ◌==◌, ◌||◌, not, nat_lt, Bool, [], ◌∷◌, Option, Some, None, if◌then◌else◌}
use Rattle.std.specs.Option.{option_map}
use Rattle.jos_base.specs.declared.numbers.TheConstants.{E_INVAL, E_MAX_OPEN, SYS_GETENVID, SYS_PAGE_ALLOC, SYS_YIELD, UTEMP}
use Rattle.jos_base.specs.Words.{negated}
use Rattle.lib_os.specs.declared.numbers.TheConstants.{DESCRIPTORS, FSREQ_OPEN, REQUEST_MODE, SERVICE_OPEN_FILE}
use Rattle.lib_os.specs.declared.place.Step.{Step}
use Rattle.lib_os.specs.declared.place.Step.TheVariants as step
use Rattle.lib_os.specs.Fence.{is_inside}
use Rattle.lib_os.specs.FileServices.{is_mode as mode_is_one}
use Rattle.lib_os.specs.LibrarySteps.{request_perm}
use Rattle.lib_os.specs.StandsFor.{opened_answer}
use Rattle.lib_os.specs.UserCalls.{answer_of}
use Rattle.lib_stage.specs.declared.ask.Ask.{Ask}
use Rattle.lib_stage.specs.declared.ask.Ask.TheVariants as ask
use Rattle.lib_stage.specs.declared.ask.Next.{Next}
use Rattle.lib_stage.specs.declared.ask.Next.TheVariants as next
use Rattle.lib_stage.specs.Asks.{no_args}
use Rattle.lib_stage.specs.ServiceSteps.{Plan}
use Rattle.lib_fd.specs.DescriptorStages.{descriptor_va, entry_asked as descriptor_asked, is_there, region_asked as descriptors_asked}
use Rattle.lib_file.specs.Buffers.{entry_asked, region_asked}
use Rattle.lib_file.specs.Keeping.{keeping_asked, next_va}
use Rattle.lib_request.specs.PageRequests.{clearing_asked, next_by, reply_asked_at, request_asked}
use Rattle.lib_request.specs.PathStages.{gathering_asked, next_of_gathering, next_of_keeping}
use Rattle.lib_request.specs.Replies.{reply_place}
use Rattle.lib_request.specs.declared.open.Open.{Open}
use Rattle.lib_request.specs.declared.open.OpenStage.{OpenStage}
use Rattle.lib_request.specs.declared.open.OpenStage.TheVariants as stage

-- the stage of open_file that is kept as a step, if it is one of open_file's
abbrev pub stage_at : Step → Option OpenStage
stage_at step.Entered = Some stage.Entered
stage_at step.TakingPage = Some stage.TakingPage
stage_at (step.BufferRegion done word) = Some (stage.BufferRegion done)
stage_at (step.BufferEntry done word) = Some (stage.BufferEntry done)
stage_at (step.Gathering done) = Some (stage.Gathering done)
stage_at (step.Keeping done word left) = Some (stage.Keeping done word left)
stage_at (step.Faulting done word) = Some (stage.Faulting done)
stage_at step.FreeRegion = Some stage.FreeRegion
stage_at (step.FreeEntry fd) = Some (stage.FreeEntry fd)
stage_at (step.StoringMode fd) = Some (stage.StoringMode fd)
stage_at (step.OpenIdentifying fd) = Some (stage.Identifying fd)
stage_at (step.OpenAsking id fd) = Some (stage.Asking id fd)
stage_at (step.OpenPausing id fd) = Some (stage.Pausing id fd)
stage_at (step.OpenAwaiting id fd) = Some (stage.Awaiting id fd)
stage_at (step.OpenClearing id fd) = Some (stage.Clearing id fd)
stage_at (step.ReadingOpened id fd) = Some (stage.ReadingReply id fd)
stage_at _ = None

abbrev pub open_at : ℕ → ℕ → Step → Option Open
open_at path mode step = option_map (λ at. record { path = path; mode = mode; at = at }) (stage_at step)

abbrev pub is_mode : ℕ → Bool
is_mode mode = mode_is_one mode

-- ---- what it asks

-- what stands at a descriptor's page; where all are open, its page is given back
abbrev pub free_asked : ℕ → Ask
free_asked fd = if not (nat_lt fd DESCRIPTORS) then clearing_asked else descriptor_asked fd

abbrev pub ask_of : ℕ → ℕ → OpenStage → Ask
ask_of path mode stage.Entered = ask.System SYS_GETENVID no_args
ask_of path mode stage.TakingPage = ask.System SYS_PAGE_ALLOC (0 ∷ UTEMP ∷ request_perm ∷ 0 ∷ 0 ∷ [])
ask_of path mode (stage.BufferRegion done) = region_asked (next_va path done)
ask_of path mode (stage.BufferEntry done) = entry_asked (next_va path done)
ask_of path mode (stage.Gathering done) = gathering_asked path done
ask_of path mode (stage.Keeping done word left) = keeping_asked done word left
ask_of path mode (stage.Faulting done) = ask.LoadByte (next_va path done)
ask_of path mode stage.FreeRegion = descriptors_asked
ask_of path mode (stage.FreeEntry fd) = free_asked fd
ask_of path mode (stage.StoringMode fd) = ask.Store (UTEMP + REQUEST_MODE) mode
ask_of path mode (stage.Identifying fd) = ask.System SYS_GETENVID no_args
ask_of path mode (stage.Asking id fd) = request_asked FSREQ_OPEN
ask_of path mode (stage.Pausing id fd) = ask.System SYS_YIELD no_args
ask_of path mode (stage.Awaiting id fd) = reply_asked_at (descriptor_va fd)
ask_of path mode (stage.Clearing id fd) = clearing_asked
ask_of path mode (stage.ReadingReply id fd) = ask.Load (reply_place id)

-- ---- what it does next

abbrev pub next_of_free : ℕ → ℕ → Next
next_of_free fd word =
    if not (nat_lt fd DESCRIPTORS) then next.Answer (negated E_MAX_OPEN)
    else if is_there word then next.GoOn (step.FreeEntry (fd + 1))
    else next.GoOn (step.StoringMode fd)

abbrev pub next_of : ℕ → ℕ → OpenStage → ℕ → Next
next_of path mode stage.Entered word =
    if not (is_mode mode) || not (is_inside path) then next.Answer (negated E_INVAL) else next.GoOn step.TakingPage
next_of path mode stage.TakingPage word = if not (word == 0) then next.Answer word else next.GoOn (step.BufferRegion 0 0)
next_of path mode (stage.BufferRegion done) word =
    if not (is_there word) then next.GoOn (step.Faulting done 0) else next.GoOn (step.BufferEntry done 0)
next_of path mode (stage.BufferEntry done) word =
    if not (is_there word) then next.GoOn (step.Faulting done 0) else next.GoOn (step.Gathering done)
next_of path mode (stage.Gathering done) word = next_of_gathering path done word
next_of path mode (stage.Keeping done kept left) word = next_of_keeping path step.FreeRegion done kept left
next_of path mode (stage.Faulting done) word = next.Gone
next_of path mode stage.FreeRegion word = if not (is_there word) then next.GoOn (step.StoringMode 0) else next.GoOn (step.FreeEntry 0)
next_of path mode (stage.FreeEntry fd) word = next_of_free fd word
next_of path mode (stage.StoringMode fd) word = next.GoOn (step.OpenIdentifying fd)
next_of path mode (stage.Identifying fd) own = next.GoOn (step.OpenAsking own fd)
next_of path mode (stage.Asking id fd) word = next_by (step.OpenPausing id fd) (step.OpenAwaiting id fd) word
next_of path mode (stage.Pausing id fd) word = next.GoOn (step.OpenAsking id fd)
next_of path mode (stage.Awaiting id fd) word = next.Show (step.OpenClearing id fd)
next_of path mode (stage.Clearing id fd) word = next.GoOn (step.ReadingOpened id fd)
next_of path mode (stage.ReadingReply id fd) word = next.Answer (opened_answer word fd)

-- ---- the plan

abbrev pub opening : Open → Plan
opening it = record {
  number = SERVICE_OPEN_FILE;
  asks = ask_of it.path it.mode it.at;
  next = λ called. next_of it.path it.mode it.at (answer_of called);
}
