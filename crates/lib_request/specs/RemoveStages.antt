-- remove: what it asks at each stage, and what it does next by the reply. The bytes of its path are kept in a page at UTEMP until its end is
-- among them, and that page goes with its request.
use Rattle.std.specs.Prelude.{ℕ, ◌==◌, not, [], ◌∷◌, Option, Some, None, if◌then◌else◌}
use Rattle.std.specs.Option.{option_map}
use Rattle.jos_base.specs.declared.numbers.TheConstants.{E_INVAL, UTEMP}
use Rattle.jos_base.specs.declared.numbers.TheConstants.{SYS_GETENVID, SYS_PAGE_ALLOC, SYS_YIELD}
use Rattle.jos_base.specs.Words.{negated}
use Rattle.lib_os.specs.declared.numbers.TheConstants.{FSREQ_REMOVE, SERVICE_REMOVE}
use Rattle.lib_os.specs.declared.place.Step.{Step}
use Rattle.lib_os.specs.declared.place.Step.TheVariants as step
use Rattle.lib_os.specs.Fence.{is_inside}
use Rattle.lib_os.specs.LibrarySteps.{request_perm}
use Rattle.lib_os.specs.UserCalls.{answer_of}
use Rattle.lib_stage.specs.declared.ask.Ask.{Ask}
use Rattle.lib_stage.specs.declared.ask.Ask.TheVariants as ask
use Rattle.lib_stage.specs.declared.ask.Next.{Next}
use Rattle.lib_stage.specs.declared.ask.Next.TheVariants as next
use Rattle.lib_stage.specs.Asks.{no_args}
use Rattle.lib_stage.specs.ServiceSteps.{Plan}
use Rattle.lib_fd.specs.DescriptorStages.{is_there}
use Rattle.lib_file.specs.Buffers.{entry_asked, region_asked}
use Rattle.lib_file.specs.Keeping.{keeping_asked, next_va}
use Rattle.lib_request.specs.PageRequests.{clearing_asked, next_of_asking, reply_asked, request_asked}
use Rattle.lib_request.specs.PathStages.{gathering_asked, next_of_gathering, next_of_keeping}
use Rattle.lib_request.specs.Replies.{reply_place}
use Rattle.lib_request.specs.declared.remove.Remove.{Remove}
use Rattle.lib_request.specs.declared.remove.RemoveStage.{RemoveStage}
use Rattle.lib_request.specs.declared.remove.RemoveStage.TheVariants as stage

-- The stage of remove that is kept as a step, if it is one of remove's. One that pauses has its id in the place of a page's bits.
abbrev pub stage_at : Step → Option RemoveStage
stage_at step.Entered = Some stage.Entered
stage_at step.TakingPage = Some stage.TakingPage
stage_at (step.BufferRegion done word) = Some (stage.BufferRegion done)
stage_at (step.BufferEntry done word) = Some (stage.BufferEntry done)
stage_at (step.Gathering done) = Some (stage.Gathering done)
stage_at (step.Keeping done word left) = Some (stage.Keeping done word left)
stage_at (step.Faulting done word) = Some (stage.Faulting done)
stage_at step.Identifying = Some stage.Identifying
stage_at (step.Asking id) = Some (stage.Asking id)
stage_at (step.Pausing id) = Some (stage.Pausing id)
stage_at (step.Awaiting id) = Some (stage.Awaiting id)
stage_at (step.Clearing id) = Some (stage.Clearing id)
stage_at (step.ReadingReply id) = Some (stage.ReadingReply id)
stage_at _ = None

abbrev pub remove_at : ℕ → Step → Option Remove
remove_at path step = option_map (λ at. record { path = path; at = at }) (stage_at step)

-- ---- what it asks

abbrev pub ask_of : ℕ → RemoveStage → Ask
ask_of path stage.Entered = ask.System SYS_GETENVID no_args
ask_of path stage.TakingPage = ask.System SYS_PAGE_ALLOC (0 ∷ UTEMP ∷ request_perm ∷ 0 ∷ 0 ∷ [])
ask_of path (stage.BufferRegion done) = region_asked (next_va path done)
ask_of path (stage.BufferEntry done) = entry_asked (next_va path done)
ask_of path (stage.Gathering done) = gathering_asked path done
ask_of path (stage.Keeping done word left) = keeping_asked done word left
ask_of path (stage.Faulting done) = ask.LoadByte (next_va path done)
ask_of path stage.Identifying = ask.System SYS_GETENVID no_args
ask_of path (stage.Asking id) = request_asked FSREQ_REMOVE
ask_of path (stage.Pausing id) = ask.System SYS_YIELD no_args
ask_of path (stage.Awaiting id) = reply_asked
ask_of path (stage.Clearing id) = clearing_asked
ask_of path (stage.ReadingReply id) = ask.Load (reply_place id)

-- ---- what it does next

abbrev pub next_of : ℕ → RemoveStage → ℕ → Next
next_of path stage.Entered word = if not (is_inside path) then next.Answer (negated E_INVAL) else next.GoOn step.TakingPage
next_of path stage.TakingPage word = if not (word == 0) then next.Answer word else next.GoOn (step.BufferRegion 0 0)
next_of path (stage.BufferRegion done) word =
    if not (is_there word) then next.GoOn (step.Faulting done 0) else next.GoOn (step.BufferEntry done 0)
next_of path (stage.BufferEntry done) word =
    if not (is_there word) then next.GoOn (step.Faulting done 0) else next.GoOn (step.Gathering done)
next_of path (stage.Gathering done) word = next_of_gathering path done word
next_of path (stage.Keeping done kept left) word = next_of_keeping path step.Identifying done kept left
next_of path (stage.Faulting done) word = next.Gone
next_of path stage.Identifying own = next.GoOn (step.Asking own)
next_of path (stage.Asking id) word = next_of_asking id word
next_of path (stage.Pausing id) word = next.GoOn (step.Asking id)
next_of path (stage.Awaiting id) word = next.Show (step.Clearing id)
next_of path (stage.Clearing id) word = next.GoOn (step.ReadingReply id)
next_of path (stage.ReadingReply id) word = next.Answer word

-- ---- the plan

abbrev pub removing : Remove → Plan
removing it = record {
  number = SERVICE_REMOVE;
  asks = ask_of it.path it.at;
  next = λ called. next_of it.path it.at (answer_of called);
}
