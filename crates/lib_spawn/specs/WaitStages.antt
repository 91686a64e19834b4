-- wait: what it asks at each stage, and what it does next by the reply.
use Rattle.std.specs.Prelude.{ℕ, ◌==◌, ◌||◌, [], ◌∷◌, Option, Some, None, if◌then◌else◌}
use Rattle.std.specs.Option.{option_map}
use Rattle.jos_base.specs.declared.numbers.TheConstants.{E_BAD_ENV, E_INVAL, SYS_GETENVID, SYS_IPC_TRY_SEND, SYS_YIELD}
use Rattle.jos_base.specs.Words.{negated}
use Rattle.lib_os.specs.declared.numbers.TheConstants.{SERVICE_WAIT}
use Rattle.lib_os.specs.declared.place.Step.{Step}
use Rattle.lib_os.specs.declared.place.Step.TheVariants as step
use Rattle.lib_os.specs.UserCalls.{answer_of}
use Rattle.lib_stage.specs.declared.ask.Ask.{Ask}
use Rattle.lib_stage.specs.declared.ask.Ask.TheVariants as ask
use Rattle.lib_stage.specs.declared.ask.Next.{Next}
use Rattle.lib_stage.specs.declared.ask.Next.TheVariants as next
use Rattle.lib_stage.specs.Asks.{no_args}
use Rattle.lib_stage.specs.ServiceSteps.{Plan}
use Rattle.lib_spawn.specs.declared.services.TheConstants.{NO_PAGE}
use Rattle.lib_spawn.specs.declared.services.Wait.{Wait}
use Rattle.lib_spawn.specs.declared.services.WaitStage.{WaitStage}
use Rattle.lib_spawn.specs.declared.services.WaitStage.TheVariants as stage

-- the stage of wait that is kept as a step, if it is one of wait's
abbrev pub stage_at : Step → Option WaitStage
stage_at step.Entered = Some stage.Entered
stage_at (step.Trying perm) = Some (stage.Trying perm)
stage_at (step.Pausing perm) = Some (stage.Pausing perm)
stage_at _ = None

abbrev pub wait_at : ℕ → Step → Option Wait
wait_at id step = option_map (λ at. record { id = id; at = at }) (stage_at step)

-- what it tries to send would come from an address that is none of a page
abbrev pub ask_of : ℕ → WaitStage → Ask
ask_of id stage.Entered = ask.System SYS_GETENVID no_args
ask_of id (stage.Trying perm) = ask.System SYS_IPC_TRY_SEND (id ∷ 0 ∷ NO_PAGE ∷ 0 ∷ 0 ∷ [])
ask_of id (stage.Pausing perm) = ask.System SYS_YIELD no_args

-- by the word that came
abbrev pub next_of : ℕ → WaitStage → ℕ → Next
next_of id stage.Entered own = if (id == 0) || (id == own) then next.Answer (negated E_INVAL) else next.GoOn (step.Trying 0)
next_of id (stage.Trying perm) word = if word == negated E_BAD_ENV then next.Answer 0 else next.Wait (step.Pausing perm)
next_of id (stage.Pausing perm) word = next.GoOn (step.Trying perm)

abbrev pub waiting : Wait → Plan
waiting w = record { number = SERVICE_WAIT; asks = ask_of w.id w.at; next = λ called. next_of w.id w.at (answer_of called) }
