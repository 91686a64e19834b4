-- What spawn does next, where it has a child to make and may be refused something: then it undoes what it has done.
use Rattle.std.specs.Prelude.{ℕ, ◌==◌, not, if◌then◌else◌}
use Rattle.lib_os.specs.declared.spawn_steps.SpawnStep.{SpawnStep}
use Rattle.lib_os.specs.declared.spawn_steps.SpawnStep.TheVariants as spawn
use Rattle.lib_os.specs.declared.spawn_steps.UndoingStep.TheVariants as undoing
use Rattle.lib_stage.specs.declared.ask.Next.{Next}
use Rattle.lib_image.specs.SpawnNexts.{goes_on}

-- By the word that came: 0, or an error, with which the child is destroyed first, and then the descriptor of the file is dropped.
abbrev pub unless_refused : ℕ → ℕ → ℕ → SpawnStep → Next
unless_refused fd child word at =
    if not (word == 0) then goes_on (spawn.Undoing (undoing.DestroyingChild fd child word)) else goes_on at
