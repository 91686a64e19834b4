-- The steps of spawn with what the program gives, as steps of a service; where that is refused; and what it asks for pages of its own.
use Rattle.std.specs.Prelude.{ℕ, ◌+◌, ◌*◌, [], ◌∷◌, min}
use Rattle.jos_base.specs.declared.numbers.TheConstants.{E_INVAL, SYS_PAGE_ALLOC, UTEMP}
use Rattle.jos_base.specs.Words.{negated}
use Rattle.jos_elf.specs.declared.numbers.TheConstants.{ARGS_MAX}
use Rattle.lib_os.specs.declared.numbers.TheConstants.{SPAWN_ADDRESSES}
use Rattle.lib_os.specs.declared.place.Step.{Step}
use Rattle.lib_os.specs.declared.place.Step.TheVariants as step
use Rattle.lib_os.specs.declared.spawn_steps.GivenStep.{GivenStep}
use Rattle.lib_os.specs.declared.spawn_steps.SpawnStep.TheVariants as spawn
use Rattle.lib_os.specs.declared.spawn_steps.UndoingStep.TheVariants as undoing
use Rattle.lib_os.specs.LibrarySteps.{request_perm}
use Rattle.lib_stage.specs.declared.ask.Ask.{Ask}
use Rattle.lib_stage.specs.declared.ask.Ask.TheVariants as ask

abbrev pub at_given : GivenStep → Step
at_given at = step.Spawning (spawn.Given at)

-- its pages are given back, and it answers that: both, or the one that has its path
abbrev pub refused_with : ℕ → Step
refused_with error = step.Spawning (spawn.Undoing (undoing.UndoingGiven error))

abbrev pub path_refused_with : ℕ → Step
path_refused_with error = step.Spawning (spawn.Undoing (undoing.UndoingPath error))

abbrev pub refused : Step
refused = refused_with (negated E_INVAL)

-- a page of zeros at this address
abbrev pub page_asked : ℕ → Ask
page_asked va = ask.System SYS_PAGE_ALLOC (0 ∷ va ∷ request_perm ∷ 0 ∷ 0 ∷ [])

-- Where its page has the address of the string of this number. The word that keeps the number may hold anything.
abbrev pub kept_va : ℕ → ℕ
kept_va index = UTEMP + SPAWN_ADDRESSES + 4 * min index ARGS_MAX
