-- spawn with its path: what it asks at each stage, and what it does next by the reply. The bytes of its path are gathered in a page at UTEMP, as those of remove
-- are; with the end among them it goes on with the words that the program gives.
use Rattle.std.specs.Prelude.{ℕ, ◌==◌, not, Option, Some, None, if◌then◌else◌}
use Rattle.std.specs.Option.{option_map}
use Rattle.jos_base.specs.declared.numbers.TheConstants.{E_INVAL, SYS_GETENVID, UTEMP}
use Rattle.jos_base.specs.Words.{negated}
use Rattle.lib_os.specs.declared.numbers.TheConstants.{SERVICE_SPAWN}
use Rattle.lib_os.specs.declared.place.Step.{Step}
use Rattle.lib_os.specs.declared.place.Step.TheVariants as step
use Rattle.lib_os.specs.declared.spawn_steps.GivenStep.TheVariants as given
use Rattle.lib_os.specs.Fence.{is_inside}
use Rattle.lib_os.specs.UserCalls.{answer_of}
use Rattle.lib_stage.specs.declared.ask.Ask.{Ask}
use Rattle.lib_stage.specs.declared.ask.Ask.TheVariants as ask
use Rattle.lib_stage.specs.declared.ask.Next.{Next}
use Rattle.lib_stage.specs.declared.ask.Next.TheVariants as next
use Rattle.lib_stage.specs.Asks.{no_args}
use Rattle.lib_stage.specs.ServiceSteps.{Plan}
use Rattle.lib_fd.specs.DescriptorStages.{is_there}
use Rattle.lib_file.specs.Buffers.{entry_asked, region_asked}
use Rattle.lib_file.specs.Keeping.{keeping_asked, next_va}
use Rattle.lib_request.specs.PathStages.{gathering_asked, next_of_gathering, next_of_keeping}
use Rattle.lib_given.specs.declared.path.PathStage.{PathStage}
use Rattle.lib_given.specs.declared.path.PathStage.TheVariants as stage
use Rattle.lib_given.specs.declared.path.SpawnPath.{SpawnPath}
use Rattle.lib_given.specs.Refusals.{at_given, page_asked}

-- the stage that is kept as a step, if it is one of the path
abbrev pub stage_at : Step → Option PathStage
stage_at step.Entered = Some stage.Entered
stage_at step.TakingPage = Some stage.TakingPage
stage_at (step.BufferRegion done word) = Some (stage.BufferRegion done)
stage_at (step.BufferEntry done word) = Some (stage.BufferEntry done)
stage_at (step.Gathering done) = Some (stage.Gathering done)
stage_at (step.Keeping done word left) = Some (stage.Keeping done word left)
stage_at (step.Faulting done word) = Some (stage.Faulting done)
stage_at _ = None

abbrev pub path_at : ℕ → Step → Option SpawnPath
path_at path step = option_map (λ at. record { path = path; at = at }) (stage_at step)

-- ---- what it asks

abbrev pub ask_of : ℕ → PathStage → Ask
ask_of path stage.Entered = ask.System SYS_GETENVID no_args
ask_of path stage.TakingPage = page_asked UTEMP
ask_of path (stage.BufferRegion done) = region_asked (next_va path done)
ask_of path (stage.BufferEntry done) = entry_asked (next_va path done)
ask_of path (stage.Gathering done) = gathering_asked path done
ask_of path (stage.Keeping done word left) = keeping_asked done word left
ask_of path (stage.Faulting done) = ask.LoadByte (next_va path done)

-- ---- what it does next

abbrev pub next_of : ℕ → PathStage → ℕ → Next
next_of path stage.Entered word = if not (is_inside path) then next.Answer (negated E_INVAL) else next.GoOn step.TakingPage
next_of path stage.TakingPage word = if not (word == 0) then next.Answer word else next.GoOn (step.BufferRegion 0 0)
next_of path (stage.BufferRegion done) word =
    if not (is_there word) then next.GoOn (step.Faulting done 0) else next.GoOn (step.BufferEntry done 0)
next_of path (stage.BufferEntry done) word =
    if not (is_there word) then next.GoOn (step.Faulting done 0) else next.GoOn (step.Gathering done)
next_of path (stage.Gathering done) word = next_of_gathering path done word
next_of path (stage.Keeping done kept left) word = next_of_keeping path (at_given given.TakingGiven) done kept left
next_of path (stage.Faulting done) word = next.Gone

-- ---- the plan

abbrev pub gathering : SpawnPath → Plan
gathering it = record {
  number = SERVICE_SPAWN;
  asks = ask_of it.path it.at;
  next = λ called. next_of it.path it.at (answer_of called);
}
