-- What turns of the kernel are to the abstract system: the same slot is chosen, the same end test holds, and a run goes on
-- from turn to turn and from step to step as the abstract run does. And its files are those of the disk as the cache of the file server holds it.
use Rattle.std.specs.Prelude.{◌≡◌, ◌<◌, ℕ, ◌+◌, ◌^◌, true, Bool, List, [], ◌∷◌, ◌++◌, length, false, Some}
use Rattle.jos_base.specs.KernelState.{KernelState, turn_begun, turn_ended}
use Rattle.jos_sched.specs.RoundRobin.{next}
use Rattle.jos_kernel.specs.declared.report.Turn.{Turn}
use Rattle.jos_kernel.specs.Books.{turn_of}
use Rattle.lib_os.specs.declared.progress.Progress.{Progress}
use Rattle.lib_os.specs.AbstractState.{AbstractState}
use Rattle.lib_os.specs.Disk.{Disk}
use Rattle.lib_os.specs.LibrarySteps.{NothingRefused}
use Rattle.lib_os.specs.Rows.{Names}
use Rattle.lib_os.specs.StandsFor.{StandsFor}
use Rattle.fs_tree.specs.TreeSteps.{memory_in}
use Rattle.fs_serving.specs.ServerRuns.{HasFiles, is_acting}
use Rattle.jos_run.specs.AbstractTurns.{next_slot, end_of, turn_fits, fits}
use Rattle.jos_run.specs.LibraryRuns.{NoneRuns, OnlyRuns, OnlyFirstServes, IsBetween, IsInTurn, visible_steps, end_seen}
use Rattle.jos_run.specs.ServerStands.{KeepsWhole, MayStep, StandsWhole}
use Rattle.jos_run.specs.Worlds.{World, beside, with_state}

-- Between two turns the kernel chooses the slot that the abstract system chooses.
abbrev pub ChoicesAgree : Type 0
ChoicesAgree = (names : Names) (s : KernelState) (a : AbstractState) → StandsFor names s a → NoneRuns s →
    next s.environments s.last ≡ next_slot a

-- And the same end test holds there, after so many turns, with the budget spent or not.
abbrev pub EndsAgree : Type 0
EndsAgree = (names : Names) (s : KernelState) (a : AbstractState) → StandsFor names s a → NoneRuns s → OnlyFirstServes s →
    (turns : ℕ) (spent : Bool) → end_of a turns spent ≡ end_seen s turns spent

-- A run begins where the kernel's state, with the disk, stands for the first abstract one, with the file server at its step.
abbrev pub RunsBegin : Type 0
RunsBegin = (schedule : List ℕ) (first : AbstractState) (w : World) → StandsWhole w first → NoneRuns w.state →
    IsBetween schedule first [] w []

-- The turn of the slot that is chosen begins, where turns are counted by words.
abbrev pub TurnsBegin : Type 0
TurnsBegin = (schedule : List ℕ) (first : AbstractState) (turns : List Turn) (w : World) (written : List ℕ) →
    IsBetween schedule first turns w written → (n : ℕ) → next w.state.environments w.state.last ≡ Some n →
    w.state.turns + 1 < 2 ^ 32 → IsInTurn schedule first turns n 0 (with_state w (turn_begun w.state n)) written

-- A step that keeps what the library's steps and the file server's promise leads on in its turn.
abbrev pub StepsLeadOn : Type 0
StepsLeadOn = (schedule : List ℕ) (first : AbstractState) (turns : List Turn) (n visible : ℕ) (w after : World)
    (written bytes : List ℕ) → IsInTurn schedule first turns n visible w written → (progress : Progress) →
    KeepsWhole progress n w after bytes → MayStep w.state n → NothingRefused w.state after.state → OnlyRuns after.state n →
    IsInTurn schedule first turns n (visible + visible_steps progress) after (written ++ bytes)

-- A turn that fits ends.
abbrev pub TurnsEnd : Type 0
TurnsEnd = (schedule : List ℕ) (first : AbstractState) (turns : List Turn) (n visible : ℕ) (w : World) (written : List ℕ)
    (h : IsInTurn schedule first turns n visible w written) (hidden : ℕ) →
    turn_fits schedule (length turns) false h.before (turn_of n visible hidden) h.now ≡ true →
    IsBetween schedule first (turns ++ turn_of n visible hidden ∷ []) (with_state w (turn_ended w.state n)) written

-- Between two turns all turns fit the schedule.
abbrev pub RunsFit : Type 0
RunsFit = (schedule : List ℕ) (first : AbstractState) (turns : List Turn) (w : World) (written : List ℕ) →
    IsBetween schedule first turns w written → fits schedule 0 first turns ≡ true

-- Where the kernel's state stands for an abstract one beside the disk that the host tells, and the file server has no request whose act is not
-- made, the files of the abstract system are those of the disk as its cache holds it.
abbrev pub FilesStand : Type 0
FilesStand = (d : Disk) (s : KernelState) (a : AbstractState) → StandsWhole (beside s (Some d)) a → is_acting a.server ≡ false →
    HasFiles d.count (memory_in d s 0) a.files
