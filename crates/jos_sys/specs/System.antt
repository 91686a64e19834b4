-- What a system means in the kernel's state, and what its calls have done there.
use Rattle.std.specs.Prelude.{◌≡◌, ◌≢◌, ℕ, Bool, List, [], ◌∷◌, length, drop, Option, Some, None, Result, Ok, Err}
use Rattle.jos_base.specs.declared.numbers.TheConstants.{END_OF_INPUT}
use Rattle.jos_host.specs.declared.host.Failed.{Failed}
use Rattle.jos_host.specs.Frames.{Around}
use Rattle.jos_host.specs.Gains.{Gains, GainsPart}
use Rattle.jos_base.specs.SpacesState.{SpacesState, directories}
use Rattle.jos_base.specs.Environments.{Environments, is_live, records_of}
use Rattle.jos_base.specs.KernelState.{KernelState, HasSpaces}
use Rattle.jos_base.specs.SystemCalls.{Did}
use Rattle.jos_space.specs.Frames.{state, records, AreSound}
use Rattle.jos_envs.specs.Table.{environments}
use Rattle.jos_sys.specs.declared.input.Input.{Input}
use Rattle.jos_sys.specs.declared.system.System.{System}
use Rattle.jos_sys.specs.declared.system.CallAnswer.{CallAnswer}
use Rattle.jos_sys.specs.declared.faults.Faulted.{Faulted}
use Rattle.jos_sys.specs.declared.faults.Faulted.TheVariants.{Upcall, Killed}

-- the bytes that are left
abbrev pub left_of : Input → List ℕ
left_of input = drop input.taken input.bytes.items

abbrev pub spaces_of : System → SpacesState
spaces_of system = state system.spaces

abbrev pub environments_of : System → Environments
environments_of system = environments system.table

-- the kernel's state, where the console still has these bytes to give
abbrev pub state_of : System → List ℕ → KernelState
state_of system input = record {
  spaces = spaces_of system;
  environments = environments_of system;
  input = input;
  last = system.last;
  turns = system.turns;
  refusals = system.refusals;
  upcalls = system.upcalls;
}

-- is the frame the directory of a space in use?
abbrev pub in_use : System → ℕ → Bool
in_use system d = directories (spaces_of system) d

-- Each live environment has a space of its own, and what a user reads of the slots is what they are.
pub record Keeps (system : System) : Type 0 where
  pub spaces : HasSpaces (spaces_of system) (environments_of system)
  pub records : records system.spaces ≡ records_of (environments_of system)

-- the frames are what jos_space keeps them to be
abbrev pub HasSoundFrames : System → Type 0
HasSoundFrames system = AreSound system.spaces

-- what a user reads of every slot but one is what they are
abbrev pub ShowsOthers : (ℕ → List ℕ) → Environments → ℕ → Type 0
ShowsOthers shown e slot = (n : ℕ) → n ≢ slot → shown n ≡ records_of e n

abbrev pub is_live_in : System → ℕ → Bool
is_live_in system n = is_live ((environments_of system).slots n)

-- What is done is done, and all of its bytes are written; or the host failed in the middle of them.
abbrev pub Does : Result CallAnswer Failed → Did → KernelState → Around (Option (List ℕ)) → Type 0
Does (Ok answer) did state console =
    (state ≡ did.state) × (answer.called ≡ did.called) × (answer.written ≡ length did.written) × Gains console did.written
Does (Err _) did state console = GainsPart console did.written

-- The next byte is taken, where there is one; else the answer is another number, and nothing is taken.
abbrev pub IsTaken : List ℕ → ℕ → List ℕ → Type 0
IsTaken [] byte after = (byte ≡ END_OF_INPUT) × (after ≡ [])
IsTaken (next ∷ rest) byte after = (byte ≡ next) × (after ≡ rest)

-- the same where nothing is written
abbrev pub IsDone : CallAnswer → Did → KernelState → Type 0
IsDone answer did state =
    (state ≡ did.state) × (answer.called ≡ did.called) × (answer.written ≡ 0) × (did.written ≡ [])

-- A page fault was handed to its handler, or nothing was done.
abbrev pub IsFaulted : Faulted → Option KernelState → KernelState → KernelState → Type 0
IsFaulted Upcall did before now = did ≡ Some now
IsFaulted Killed did before now = (did ≡ None) × (now ≡ before)
