-- receive: what it asks at each stage, and what it does next by the reply.
use Rattle.std.specs.Prelude.{ℕ, ◌+◌, ◌*◌, ◌%◌, ◌==◌, ◌&&◌, not, Bool, [], ◌∷◌, Option, Some, None, if◌then◌else◌}
use Rattle.std.specs.Option.{option_map}
use Rattle.jos_base.specs.declared.numbers.TheConstants.{E_INVAL, ENV_IPC_FROM, ENV_IPC_PERM, ENV_IPC_VALUE, ENV_SIZE, FIRST_ENV_ID, NENV, UENVS, SYS_GETENVID, SYS_IPC_RECV}
use Rattle.jos_base.specs.Words.{negated}
use Rattle.lib_os.specs.declared.numbers.TheConstants.{SERVICE_RECEIVE}
use Rattle.lib_os.specs.declared.place.Step.{Step}
use Rattle.lib_os.specs.declared.place.Step.TheVariants as step
use Rattle.lib_os.specs.AbstractMessages.{is_page_or_none}
use Rattle.lib_os.specs.StandsFor.{destination_of, kind_by}
use Rattle.lib_os.specs.UserCalls.{answer_of}
use Rattle.lib_stage.specs.declared.ask.Ask.{Ask}
use Rattle.lib_stage.specs.declared.ask.Ask.TheVariants as ask
use Rattle.lib_stage.specs.declared.ask.Next.{Next}
use Rattle.lib_stage.specs.declared.ask.Next.TheVariants as next
use Rattle.lib_stage.specs.Asks.{no_args}
use Rattle.lib_stage.specs.ServiceSteps.{Plan}
use Rattle.lib_msg.specs.declared.receive.Receive.{Receive}
use Rattle.lib_msg.specs.declared.receive.ReceiveStage.{ReceiveStage}
use Rattle.lib_msg.specs.declared.receive.ReceiveStage.TheVariants as stage

-- ---- stages

-- the stage of receive that is kept as a step, if it is one of receive's
abbrev pub stage_at : Step → Option ReceiveStage
stage_at step.Entered = Some stage.Entered
stage_at (step.Receiving id) = Some (stage.Receiving id)
stage_at (step.ReadingValue id) = Some (stage.ReadingValue id)
stage_at (step.ReadingSender id value) = Some (stage.ReadingSender id value)
stage_at (step.ReadingPerm id value sender) = Some (stage.ReadingPerm id value sender)
stage_at _ = None

abbrev pub receive_at : ℕ → ℕ → Step → Option Receive
receive_at va from step = option_map (λ at. record { va = va; from = from; at = at }) (stage_at step)

-- ---- what it asks

-- the address of a word of the record of an environment's slot
abbrev pub record_word : ℕ → ℕ → ℕ
record_word id word = UENVS + ENV_SIZE * (id % NENV) + 4 * word

abbrev pub ask_of : ℕ → ℕ → ReceiveStage → Ask
ask_of va from stage.Entered = ask.System SYS_GETENVID no_args
ask_of va from (stage.Receiving id) = ask.System SYS_IPC_RECV (destination_of va ∷ from ∷ 0 ∷ 0 ∷ 0 ∷ [])
ask_of va from (stage.ReadingValue id) = ask.Load (record_word id ENV_IPC_VALUE)
ask_of va from (stage.ReadingSender id value) = ask.Load (record_word id ENV_IPC_FROM)
ask_of va from (stage.ReadingPerm id value sender) = ask.Load (record_word id ENV_IPC_PERM)

-- ---- what it does next

-- who may receive so: a page lies within the fence, and nobody receives from itself or from the server
abbrev pub may_receive : ℕ → ℕ → ℕ → Bool
may_receive va from own = is_page_or_none va && (not (from == own) && not (from == FIRST_ENV_ID))

-- by the word that came
abbrev pub next_of : ℕ → ℕ → ReceiveStage → ℕ → Next
next_of va from stage.Entered own =
    if not (may_receive va from own) then next.Answer (negated E_INVAL) else next.GoOn (step.Receiving own)
next_of va from (stage.Receiving id) word = next.Show (step.ReadingValue id)
next_of va from (stage.ReadingValue id) word = next.GoOn (step.ReadingSender id word)
next_of va from (stage.ReadingSender id value) word = next.GoOn (step.ReadingPerm id value word)
next_of va from (stage.ReadingPerm id value sender) word = next.Answers 0 sender value (kind_by word)

-- ---- the plan

abbrev pub receiving : Receive → Plan
receiving r = record {
  number = SERVICE_RECEIVE;
  asks = ask_of r.va r.from r.at;
  next = λ called. next_of r.va r.from r.at (answer_of called);
}
