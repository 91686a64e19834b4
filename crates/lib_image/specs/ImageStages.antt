-- Spawn, from where the child's stack is ready until its file is known to be an image, and where it reads the bytes of a segment: what it asks at each
-- stage, and what it does next by the reply.
use Rattle.std.specs.Prelude.{ℕ, Option, Some, None}
use Rattle.lib_os.specs.declared.numbers.TheConstants.{SERVICE_SPAWN}
use Rattle.lib_os.specs.declared.spawn_steps.SpawnStep.{SpawnStep}
use Rattle.lib_os.specs.declared.spawn_steps.SpawnStep.TheVariants as spawn
use Rattle.lib_os.specs.UserCalls.{answer_of}
use Rattle.lib_stage.specs.declared.ask.Ask.{Ask}
use Rattle.lib_stage.specs.declared.ask.Next.{Next}
use Rattle.lib_stage.specs.ServiceSteps.{Plan}
use Rattle.lib_image.specs.OpeningStages.{opening_asks, opening_next}
use Rattle.lib_image.specs.ReadingStages.{reading_asks, reading_next}
use Rattle.lib_image.specs.TestingStages.{testing_asks, testing_next}
use Rattle.lib_image.specs.declared.stage.ImageStage.{ImageStage}
use Rattle.lib_image.specs.declared.stage.ImageStage.TheVariants as stage

-- the stage that is kept as a step of spawn, if it is one of these
abbrev pub stage_at : SpawnStep → Option ImageStage
stage_at (spawn.Opening at) = Some (stage.Opening at)
stage_at (spawn.Reading wants at) = Some (stage.Reading wants at)
stage_at (spawn.Testing at) = Some (stage.Testing at)
stage_at _ = None

abbrev pub ask_of : ImageStage → Ask
ask_of (stage.Opening at) = opening_asks at
ask_of (stage.Reading wants at) = reading_asks wants at
ask_of (stage.Testing at) = testing_asks at

abbrev pub next_of : ImageStage → ℕ → Next
next_of (stage.Opening at) word = opening_next at word
next_of (stage.Reading wants at) word = reading_next wants at word
next_of (stage.Testing at) word = testing_next at word

abbrev pub imaging : ImageStage → Plan
imaging it = record { number = SERVICE_SPAWN; asks = ask_of it; next = λ called. next_of it (answer_of called) }
