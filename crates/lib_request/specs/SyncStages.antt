-- sync: what it asks at each stage, and what it does next by the reply.
use Rattle.std.specs.Prelude.{ℕ, ◌==◌, not, [], ◌∷◌, Option, Some, None, if◌then◌else◌}
use Rattle.std.specs.Option.{option_map}
use Rattle.jos_base.specs.declared.numbers.TheConstants.{E_IPC_NOT_RECV, FIRST_ENV_ID, UTOP}
use Rattle.jos_base.specs.declared.numbers.TheConstants.{SYS_GETENVID, SYS_IPC_RECV, SYS_IPC_TRY_SEND, SYS_YIELD}
use Rattle.jos_base.specs.Words.{negated}
use Rattle.lib_os.specs.declared.numbers.TheConstants.{FSREQ_SYNC, SERVICE_SYNC}
use Rattle.lib_os.specs.declared.place.Step.{Step}
use Rattle.lib_os.specs.declared.place.Step.TheVariants as step
use Rattle.lib_os.specs.UserCalls.{answer_of}
use Rattle.lib_stage.specs.declared.ask.Ask.{Ask}
use Rattle.lib_stage.specs.declared.ask.Ask.TheVariants as ask
use Rattle.lib_stage.specs.declared.ask.Next.{Next}
use Rattle.lib_stage.specs.declared.ask.Next.TheVariants as next
use Rattle.lib_stage.specs.Asks.{no_args}
use Rattle.lib_stage.specs.ServiceSteps.{Plan}
use Rattle.lib_request.specs.Replies.{reply_place}
use Rattle.lib_request.specs.declared.sync.Sync.{Sync}
use Rattle.lib_request.specs.declared.sync.SyncStage.{SyncStage}
use Rattle.lib_request.specs.declared.sync.SyncStage.TheVariants as stage

-- ---- stages

-- The stage of sync that is kept as a step, if it is one of sync's. One that pauses has its id in the place of a page's bits.
abbrev pub stage_at : Step → Option SyncStage
stage_at step.Entered = Some stage.Entered
stage_at (step.Asking id) = Some (stage.Asking id)
stage_at (step.Pausing id) = Some (stage.Pausing id)
stage_at (step.Awaiting id) = Some (stage.Awaiting id)
stage_at (step.ReadingReply id) = Some (stage.ReadingReply id)
stage_at _ = None

abbrev pub sync_at : Step → Option Sync
sync_at step = option_map (λ at. record { at = at }) (stage_at step)

-- ---- what it asks

abbrev pub ask_of : SyncStage → Ask
ask_of stage.Entered = ask.System SYS_GETENVID no_args
ask_of (stage.Asking id) = ask.System SYS_IPC_TRY_SEND (FIRST_ENV_ID ∷ FSREQ_SYNC ∷ UTOP ∷ 0 ∷ 0 ∷ [])
ask_of (stage.Pausing id) = ask.System SYS_YIELD no_args
ask_of (stage.Awaiting id) = ask.System SYS_IPC_RECV (UTOP ∷ FIRST_ENV_ID ∷ 0 ∷ 0 ∷ 0 ∷ [])
ask_of (stage.ReadingReply id) = ask.Load (reply_place id)

-- ---- what it does next

-- By the word that came. The server is there as long as anybody is, so that no other error ever comes of asking.
abbrev pub next_of : SyncStage → ℕ → Next
next_of stage.Entered own = next.GoOn (step.Asking own)
next_of (stage.Asking id) word =
    if word == negated E_IPC_NOT_RECV then next.Wait (step.Pausing id)
    else if not (word == 0) then next.Answer word
    else next.Show (step.Awaiting id)
next_of (stage.Pausing id) word = next.GoOn (step.Asking id)
next_of (stage.Awaiting id) word = next.Show (step.ReadingReply id)
next_of (stage.ReadingReply id) word = next.Answer word

-- ---- the plan

abbrev pub syncing : Sync → Plan
syncing r = record {
  number = SERVICE_SYNC;
  asks = ask_of r.at;
  next = λ called. next_of r.at (answer_of called);
}
