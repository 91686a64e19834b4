-- What spawn does next, where it reads its file: it goes on at a step of its own, and where it is refused something that is one at which it undoes
-- what it has done.
use Rattle.std.specs.Prelude.{ℕ, ◌==◌, not, if◌then◌else◌}
use Rattle.jos_base.specs.declared.numbers.TheConstants.{E_IPC_NOT_RECV}
use Rattle.jos_base.specs.Words.{negated}
use Rattle.jos_elf.specs.declared.numbers.TheConstants.{E_NOT_EXEC}
use Rattle.lib_os.specs.declared.place.Step.TheVariants as step
use Rattle.lib_os.specs.declared.spawn_steps.SpawnStep.{SpawnStep}
use Rattle.lib_os.specs.declared.spawn_steps.SpawnStep.TheVariants as spawn
use Rattle.lib_os.specs.declared.spawn_steps.UndoingStep.TheVariants as undoing
use Rattle.lib_stage.specs.declared.ask.Next.{Next}
use Rattle.lib_stage.specs.declared.ask.Next.TheVariants as next

-- nothing that anybody sees
abbrev pub goes_on : SpawnStep → Next
goes_on at = next.GoOn (step.Spawning at)

-- a step of the abstract system
abbrev pub shows : SpawnStep → Next
shows at = next.Show (step.Spawning at)

-- By the word that came where it asked the file server: it may have asked in vain, or there may be no frame for a table of the server's.
abbrev pub next_by : SpawnStep → SpawnStep → SpawnStep → ℕ → Next
next_by pausing awaiting refused word =
    if word == negated E_IPC_NOT_RECV then next.Wait (step.Spawning pausing)
    else if not (word == 0) then goes_on refused
    else shows awaiting

-- its file is no image: the descriptor of the file is dropped first
abbrev pub no_image : ℕ → SpawnStep
no_image fd = spawn.Undoing (undoing.ClosingFile fd (negated E_NOT_EXEC))
