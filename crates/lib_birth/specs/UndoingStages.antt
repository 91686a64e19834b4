-- Spawn, where it was refused something with an answer: what it asks at each stage, and what it does next by the reply. It destroys the child that is not
-- born, and drops the descriptor of its file, each in a step that is seen; then it gives its pages back, and answers. A page that it has not, or not any
-- more, is given back as any other, by which nothing is done.
use Rattle.std.specs.Prelude.{ℕ, nat_lt, [], ◌∷◌, if◌then◌else◌}
use Rattle.jos_base.specs.declared.called.Called.{Called}
use Rattle.jos_base.specs.declared.called.Called.TheVariants.{Ended}
use Rattle.jos_base.specs.declared.numbers.TheConstants.{SYS_ENV_DESTROY, UTEMP}
use Rattle.lib_os.specs.declared.numbers.TheConstants.{DESCRIPTORS, SPAWN_GIVEN, SPAWN_STACK}
use Rattle.lib_os.specs.declared.spawn_steps.SpawnStep.{SpawnStep}
use Rattle.lib_os.specs.declared.spawn_steps.SpawnStep.TheVariants as spawn
use Rattle.lib_os.specs.declared.spawn_steps.UndoingStep.{UndoingStep}
use Rattle.lib_os.specs.declared.spawn_steps.UndoingStep.TheVariants as undoing
use Rattle.lib_stage.specs.declared.ask.Ask.{Ask}
use Rattle.lib_stage.specs.declared.ask.Ask.TheVariants as ask
use Rattle.lib_stage.specs.declared.ask.Next.{Next}
use Rattle.lib_stage.specs.declared.ask.Next.TheVariants as next
use Rattle.lib_fd.specs.DescriptorStages.{drop_asked, drop_asked_at}
use Rattle.lib_image.specs.SpawnNexts.{goes_on, shows}

abbrev pub undoing_asks : UndoingStep → Ask
undoing_asks (undoing.DestroyingChild fd child error) = ask.System SYS_ENV_DESTROY (child ∷ 0 ∷ 0 ∷ 0 ∷ 0 ∷ [])
undoing_asks (undoing.ClosingFile fd error) = drop_asked fd
undoing_asks (undoing.UndoingStack error) = drop_asked_at SPAWN_STACK
undoing_asks (undoing.UndoingGiven error) = drop_asked_at SPAWN_GIVEN
undoing_asks (undoing.UndoingPath error) = drop_asked_at UTEMP

-- the descriptor of the file is the next to go, if this is one; it is none where the descriptor has gone before the child
abbrev pub closed_next : ℕ → ℕ → SpawnStep
closed_next fd error = if nat_lt fd DESCRIPTORS then spawn.Undoing (undoing.ClosingFile fd error) else spawn.Undoing (undoing.UndoingStack error)

-- whoever was destroyed by its own call is gone
abbrev pub undoing_next : UndoingStep → Called → Next
undoing_next (undoing.DestroyingChild fd child error) Ended = next.Gone
undoing_next (undoing.DestroyingChild fd child error) called = shows (closed_next fd error)
undoing_next (undoing.ClosingFile fd error) called = shows (spawn.Undoing (undoing.UndoingStack error))
undoing_next (undoing.UndoingStack error) called = goes_on (spawn.Undoing (undoing.UndoingGiven error))
undoing_next (undoing.UndoingGiven error) called = goes_on (spawn.Undoing (undoing.UndoingPath error))
undoing_next (undoing.UndoingPath error) called = next.Answer error
