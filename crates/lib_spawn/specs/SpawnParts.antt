-- spawn: what it asks at each step, and what it does next by the reply, as the crate of the part says in which it is.
use Rattle.std.specs.Prelude.{ℕ, Option, Some}
use Rattle.std.specs.Option.{option_map}
use Rattle.lib_os.specs.declared.place.Step.{Step}
use Rattle.lib_os.specs.declared.place.Step.TheVariants as step
use Rattle.lib_os.specs.declared.spawn_steps.SpawnStep.{SpawnStep}
use Rattle.lib_os.specs.declared.spawn_steps.SpawnStep.TheVariants as spawn
use Rattle.lib_stage.specs.ServiceSteps.{Plan}
use Rattle.lib_given.specs.GivenPlan.{giving}
use Rattle.lib_given.specs.PathPlan.{gathering, path_at}
use Rattle.lib_image.specs.ImageStages.{imaging, stage_at}
use Rattle.lib_child.specs.BearingStages.{bearing_at, bears}
use Rattle.lib_birth.specs.BirthStages.{births}
use Rattle.lib_birth.specs.BirthStages as birth
use Rattle.lib_spawn.specs.declared.spawn.Spawn.{Spawn}
use Rattle.lib_spawn.specs.declared.spawn.Spawn.TheVariants as part

-- spawn at a step behind its path
abbrev pub behind_path : ℕ → SpawnStep → Option Spawn
behind_path argv (spawn.Given at) = Some (part.Given (record { argv = argv; at = at }))
behind_path argv (spawn.Opening at) = option_map part.Image (stage_at (spawn.Opening at))
behind_path argv (spawn.Reading wanted at) = option_map part.Image (stage_at (spawn.Reading wanted at))
behind_path argv (spawn.Testing at) = option_map part.Image (stage_at (spawn.Testing at))
behind_path argv (spawn.Bearing at) = option_map part.Child (bearing_at (spawn.Bearing at))
behind_path argv (spawn.Finishing at) = option_map part.Birth (birth.stage_at (spawn.Finishing at))
behind_path argv (spawn.Undoing at) = option_map part.Birth (birth.stage_at (spawn.Undoing at))

abbrev pub spawn_at : ℕ → ℕ → Step → Option Spawn
spawn_at path argv (step.Spawning at) = behind_path argv at
spawn_at path argv other = option_map part.Path (path_at path other)

abbrev pub spawning : Spawn → Plan
spawning (part.Path it) = gathering it
spawning (part.Given it) = giving it
spawning (part.Image it) = imaging it
spawning (part.Child it) = bears it
spawning (part.Birth it) = births it
