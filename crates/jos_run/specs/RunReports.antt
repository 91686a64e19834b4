-- What is told of a run of the library's programs: the turns that it took, and how it ended. The abstract system takes
-- these turns and prints these bytes, up to the first time that something was refused for want of a frame or a slot.
use Rattle.std.specs.Prelude.{◌≡◌, ◌≢◌, ◌<◌, ◌≤◌, ◌⊎◌, ℕ, ◌+◌, ◌-◌, ◌^◌, min, ◌==◌, Bool, true, false, List, [], ◌∷◌, ◌++◌, length, Option, Some, None}
use Rattle.std.specs.Option.{ForSome}
use Rattle.jos_host.specs.Frames.{Around}
use Rattle.jos_host.specs.Gains.{Gains}
use Rattle.jos_base.specs.declared.numbers.TheConstants.{TURN_MAX}
use Rattle.jos_base.specs.SpacesState.{reserved_frames}
use Rattle.jos_kernel.specs.declared.report.End.{End}
use Rattle.jos_kernel.specs.declared.report.End.TheVariants.{Budget}
use Rattle.jos_kernel.specs.declared.report.Refusal.{Refusal}
use Rattle.jos_kernel.specs.declared.report.Turn.{Turn}
use Rattle.jos_kernel.specs.Books.{turn_of}
use Rattle.jos_kernel.specs.ExoRun.{bytes_counted}
use Rattle.jos_kernel.specs.Reports.{Reported, CutOff}
use Rattle.fs_layout.specs.FileTree.{FileSystem}
use Rattle.lib_os.specs.AbstractState.{AbstractState}
use Rattle.lib_os.specs.Disk.{Disk}
use Rattle.lib_os.specs.Need.{need}
use Rattle.fs_serving.specs.ServerRuns.{is_acting}
use Rattle.jos_run.specs.AbstractTurns.{HasClosed, next_slot, turn_begun, steps_taken, abs_run, end_of, fits, all_fit}
use Rattle.jos_run.specs.ServerStands.{StandsWhole}
use Rattle.jos_run.specs.Start.{HoldsFiles}
use Rattle.jos_run.specs.Worlds.{World}

-- ---- without a refusal

-- The abstract system has taken these turns, which obey the schedule, and has come to this; these bytes were printed.
pub record HasTakenTurns (schedule : List ℕ) (first : AbstractState) (turns : List Turn) (printed : List ℕ)
    (now : AbstractState) : Type 0 where
  pub ran : abs_run first turns ≡ Some now
  pub fit : fits schedule 0 first turns ≡ true
  pub console : now.console ≡ first.console ++ printed

-- ---- up to a refusal

-- Where the abstract system has come to, it needs as many frames as are handed out, all but those that the kernel keeps for
-- itself, or no slot is free.
abbrev pub LacksSpace : ℕ → AbstractState → Type 0
LacksSpace frames now = (frames - reserved_frames frames ≤ need now) ⊎ (now.free_slots ≡ [])

-- In the turn that is told something was refused, when these of the bytes had been printed. The abstract system has taken
-- the turns before and some visible steps of that turn, with these bytes; and where it has come to then, there is no room for
-- more.
pub record IsRefusedInTurn (schedule : List ℕ) (first : AbstractState) (frames : ℕ) (turns : List Turn) (refusal : Refusal)
    (printed : List ℕ) : Type 0 where
  -- the turn, with those before it and behind it
  pub before : List Turn
  pub turn : Turn
  pub later : List Turn
  pub turns_are : turns ≡ before ++ turn ∷ later
  pub place : refusal.turn ≡ length before
  -- where the turn began
  pub begun : AbstractState
  pub ran : abs_run first before ≡ Some begun
  pub fit : all_fit schedule 0 first before ≡ true
  pub chosen : next_slot begun ≡ Some turn.slot
  -- where the step began that was refused a frame or a slot
  pub visible : ℕ
  pub within : visible ≤ turn.visible
  pub now : AbstractState
  pub taken : steps_taken (turn_begun begun turn.slot) turn.slot visible ≡ Some now
  -- what was printed by then
  pub told : List ℕ
  pub rest : List ℕ
  pub printed_is : printed ≡ told ++ rest
  pub console : now.console ≡ first.console ++ told
  pub console_len : refusal.console_len ≡ bytes_counted told
  pub needed : LacksSpace frames now

-- Behind the turns something was refused: the abstract system has taken all of them, and some visible steps of the file server, which was busy
-- with a request at each; and where it has come to then, there is no room for more.
pub record IsRefusedBehind (schedule : List ℕ) (first : AbstractState) (frames : ℕ) (turns : List Turn) (refusal : Refusal)
    (printed : List ℕ) : Type 0 where
  pub place : refusal.turn ≡ length turns
  -- where the turns have led to
  pub begun : AbstractState
  pub ran : abs_run first turns ≡ Some begun
  pub fit : fits schedule 0 first turns ≡ true
  -- where the step began that was refused a frame or a slot
  pub visible : ℕ
  pub now : AbstractState
  pub taken : steps_taken begun 0 visible ≡ Some now
  pub acting : (k : ℕ) → k ≤ visible → ForSome (steps_taken begun 0 k) (λ c. is_acting c.server ≡ true)
  -- what was printed by then
  pub told : List ℕ
  pub rest : List ℕ
  pub printed_is : printed ≡ told ++ rest
  pub console : now.console ≡ first.console ++ told
  pub console_len : refusal.console_len ≡ bytes_counted told
  pub needed : LacksSpace frames now

-- in a turn, or behind all of them
pub data IsRefused (schedule : List ℕ) (first : AbstractState) (frames : ℕ) (turns : List Turn) (refusal : Refusal) (printed : List ℕ) : Type 0 where
  in_a_turn : IsRefusedInTurn schedule first frames turns refusal printed → IsRefused schedule first frames turns refusal printed
  behind_turns : IsRefusedBehind schedule first frames turns refusal printed → IsRefused schedule first frames turns refusal printed

-- ---- a run that has ended by itself

-- all steps of turns
unfoldable pub steps_of : List Turn → ℕ
steps_of [] = 0
steps_of (turn ∷ rest) = turn.visible + turn.hidden + steps_of rest

-- The end tests on what the abstract system has come to with these turns tell this end; `spent` says whether the steps are
-- used up. Nothing else cuts a turn short. The kernel's state behind the turns, with the disk as it is then, stands for what the abstract
-- system has come to.
pub record HasEnded (schedule : List ℕ) (first : AbstractState) (turns : List Turn) (printed : List ℕ) (spent : Bool)
    (turned : World) (end : End) : Type 0 where
  pub now : AbstractState
  pub stands : StandsWhole turned now
  pub taken : HasTakenTurns schedule first turns printed now
  pub whole : end ≢ Budget → all_fit schedule 0 first turns ≡ true
  pub over : end_of now (length turns) spent ≡ Some end

-- ---- and how it closes

-- the disk that is told, if one is, has these files
abbrev pub TellsFiles : Option Disk → FileSystem → Type 0
TellsFiles None files = Unit {0}
TellsFiles (Some d) files = HoldsFiles d files

-- Behind the turns the file server alone has gone on, where it was busy with a request, until its act was made, in so many of the kernel's steps,
-- of which no more are visible; and the disk has the files of the abstract system behind that. Where they are more than 2 ^ 32 - 1, this is told.
pub record HasFinished (now : AbstractState) (closing : ℕ) (last : World) : Type 0 where
  pub closed : AbstractState
  pub visible : ℕ
  pub closes : HasClosed now closed visible
  pub made : ℕ
  pub counted : closing ≡ min made (2 ^ 32 - 1)
  pub within : visible ≤ made
  pub none : is_acting now.server ≡ false → closing ≡ 0
  pub some : is_acting now.server ≡ true → 0 < closing
  pub files : TellsFiles last.disk closed.files

abbrev pub ToldBy : Option Refusal → List ℕ → AbstractState → ℕ → ℕ → Reported → List ℕ → World → World → Type 0
ToldBy None schedule first frames budget report printed turned last =
    (report.refused ≡ 0) × (ended : HasEnded schedule first report.turns printed (report.steps == budget) turned report.end)
    × HasFinished ended.now report.closing last
ToldBy (Some refusal) schedule first frames budget report printed turned last =
    (0 < report.refused) × IsRefused schedule first frames report.turns refusal printed

-- What a report tells of a run with so many frames and steps, which has printed these bytes, has come to the one state with its turns, and to the
-- other behind all: from each abstract state on with which it may begin.
pub record IsTold (schedule : List ℕ) (Begins : AbstractState → Type 0) (frames budget : ℕ) (report : Reported) (printed : List ℕ)
    (turned last : World) : Type 0 where
  pub steps : report.steps ≡ steps_of report.turns
  pub within : report.steps ≤ budget
  pub spent : report.end ≡ Budget → report.steps ≡ budget
  pub most : length report.turns ≤ TURN_MAX
  pub closing : report.closing ≤ 2 ^ 32 - 1
  pub by_refusal : (first : AbstractState) → Begins first →
      ToldBy report.first_refused schedule first frames budget report printed turned last

-- ---- a run that a failed call of the host cut off

-- The call was made in the last step of the last turn. Of what the step prints a part came.
pub record IsCutOffPrinting (schedule : List ℕ) (first : AbstractState) (turns : List Turn) (printed : List ℕ) : Type 0 where
  pub before : List Turn
  pub slot : ℕ
  pub visible : ℕ
  pub hidden : ℕ
  pub turns_are : turns ≡ before ++ turn_of slot (visible + 1) hidden ∷ []
  pub fit : all_fit schedule 0 first before ≡ true
  -- where the step began, and what was printed by then
  pub begun : AbstractState
  pub told : List ℕ
  pub ran : abs_run first (before ++ turn_of slot visible hidden ∷ []) ≡ Some begun
  pub console : begun.console ≡ first.console ++ told
  -- where it would have ended, and what it would have printed
  pub now : AbstractState
  pub whole : List ℕ
  pub would : HasTakenTurns schedule first turns (told ++ whole) now
  pub part : List ℕ
  pub rest : List ℕ
  pub whole_is : whole ≡ part ++ rest
  pub printed_is : printed ≡ told ++ part

-- It printed; or it moved a block, in a hidden step of the file server, which is the last of the last turn or comes behind the turns. Then the
-- abstract system has taken all turns that are told, and has printed all.
pub data IsCutOff (schedule : List ℕ) (first : AbstractState) (turns : List Turn) (printed : List ℕ) : Type 0 where
  printing : IsCutOffPrinting schedule first turns printed → IsCutOff schedule first turns printed
  quietly : (now : AbstractState) → HasTakenTurns schedule first turns printed now → IsCutOff schedule first turns printed

abbrev pub CutOffBy : Option Refusal → List ℕ → AbstractState → ℕ → List Turn → List ℕ → Type 0
CutOffBy None schedule first frames turns printed = IsCutOff schedule first turns printed
CutOffBy (Some refusal) schedule first frames turns printed = IsRefused schedule first frames turns refusal printed

-- what is told of a run that was cut off: some bytes came to the console
abbrev pub IsToldCutOff : List ℕ → (AbstractState → Type 0) → ℕ → CutOff → Around (Option (List ℕ)) → Type 0
IsToldCutOff schedule Begins frames cut console =
    (printed : List ℕ) × Gains console printed
    × ((first : AbstractState) → Begins first → CutOffBy cut.first_refused schedule first frames cut.turns printed)
    × (length cut.turns ≤ TURN_MAX)
