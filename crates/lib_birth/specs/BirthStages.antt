-- Spawn, from where its child has the bytes of all segments until it answers the child's id, and where it was refused something, until it answers that:
-- what it asks at each stage, and what it does next by the reply.
use Rattle.std.specs.Prelude.{Option, Some, None}
use Rattle.jos_base.specs.declared.called.Called.{Called}
use Rattle.lib_os.specs.declared.numbers.TheConstants.{SERVICE_SPAWN}
use Rattle.lib_os.specs.declared.spawn_steps.SpawnStep.{SpawnStep}
use Rattle.lib_os.specs.declared.spawn_steps.SpawnStep.TheVariants as spawn
use Rattle.lib_os.specs.UserCalls.{answer_of}
use Rattle.lib_stage.specs.declared.ask.Ask.{Ask}
use Rattle.lib_stage.specs.declared.ask.Next.{Next}
use Rattle.lib_stage.specs.ServiceSteps.{Plan}
use Rattle.lib_birth.specs.FinishingStages.{finishing_asks, finishing_next}
use Rattle.lib_birth.specs.UndoingStages.{undoing_asks, undoing_next}
use Rattle.lib_birth.specs.declared.stage.BirthStage.{BirthStage}
use Rattle.lib_birth.specs.declared.stage.BirthStage.TheVariants as stage

-- the stage that is kept as a step of spawn, if it is one of these
abbrev pub stage_at : SpawnStep → Option BirthStage
stage_at (spawn.Finishing at) = Some (stage.Finishing at)
stage_at (spawn.Undoing at) = Some (stage.Undoing at)
stage_at _ = None

abbrev pub ask_of : BirthStage → Ask
ask_of (stage.Finishing at) = finishing_asks at
ask_of (stage.Undoing at) = undoing_asks at

abbrev pub next_of : BirthStage → Called → Next
next_of (stage.Finishing at) called = finishing_next at (answer_of called)
next_of (stage.Undoing at) called = undoing_next at called

abbrev pub births : BirthStage → Plan
births it = record { number = SERVICE_SPAWN; asks = ask_of it; next = λ called. next_of it called }
