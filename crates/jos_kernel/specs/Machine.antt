-- What the machine means: the kernel's state, and the memory of the environment that runs.
use Rattle.std.specs.Prelude.{◌≡◌, ℕ, ◌*◌, Bool, List, true, length, Option, Some, None, Result, Ok, Err}
use Rattle.std.specs.Option.{option_map}
use Rattle.jos_host.specs.declared.host.Failed.{Failed}
use Rattle.jos_host.specs.Frames.{Around}
use Rattle.jos_host.specs.Gains.{Gains, GainsPart}
use Rattle.jos_base.specs.declared.line.Line.{Line}
use Rattle.jos_base.specs.declared.numbers.TheConstants.{PGSIZE}
use Rattle.jos_base.specs.declared.line.Line.TheVariants.{UserFault}
use Rattle.jos_base.specs.KernelState.{KernelState}
use Rattle.jos_space.specs.declared.spaces.Space.{Space}
use Rattle.jos_space.specs.declared.spaces.PageAtHand.{PageAtHand}
use Rattle.jos_space.specs.AtHand.{IsPageAtHand}
use Rattle.jos_sys.specs.declared.input.Input.{Input}
use Rattle.jos_sys.specs.declared.system.System.{System}
use Rattle.jos_sys.specs.System.{state_of, spaces_of, left_of, Keeps, in_use}
use Rattle.jos_kernel.specs.declared.machine.Followed.{Followed}
use Rattle.jos_kernel.specs.Running.{Running}
use Rattle.jos_kernel.specs.Steps.{EnvStep}

-- what a machine keeps
pub record Parts : Type 0 where
  pub system : System
  pub input : Input
  pub space : Option Space
  pub code : Option PageAtHand

-- the directory that is loaded is in use
abbrev pub InUse : System → Option Space → Type 0
InUse system None = Unit {0}
InUse system (Some space) = in_use system space.directory.0 ≡ true

-- the page that is known to be at hand is one of the space that is loaded, is at hand, and lies inside the fence
abbrev pub KnowsCode : (ℕ → Bool) → System → Option Space → Option PageAtHand → Type 0
KnowsCode inside system space None = Unit {0}
KnowsCode inside system space (Some page) =
    (space ≡ Some page.space) × IsPageAtHand (spaces_of system) page × (inside (page.number * PGSIZE) ≡ true)

-- what a machine with a fence keeps of them
pub record Lawful (inside : ℕ → Bool) (m : Parts) : Type 0 where
  pub system : Keeps m.system
  pub space : InUse m.system m.space
  pub code : KnowsCode inside m.system m.space m.code

abbrev pub kernel_state : Parts → KernelState
kernel_state m = state_of m.system (left_of m.input)

abbrev pub loaded : Parts → Option ℕ
loaded m = option_map (λ space. space.directory.0) m.space

-- the memory that the processor sees
abbrev pub running_of : Parts → Running
running_of m = record { state = kernel_state m; directory = loaded m }

-- A step is done, with the trap that it raised, and so many bytes are written, all of them; or the host failed in the
-- middle of them.
abbrev pub Follows : Result Followed Failed → EnvStep → KernelState → Around (Option (List ℕ)) → Type 0
Follows (Ok followed) step state console =
    (state ≡ step.state) × (followed.written ≡ length step.written) × (followed.trap ≡ step.trap) × Gains console step.written
Follows (Err _) step state console = GainsPart console step.written

-- A page fault was handed to its handler, or nothing is changed and the line tells of its environment's end.
abbrev pub IsHanded : Option Line → Option KernelState → ℕ → ℕ → KernelState → KernelState → Type 0
IsHanded None did va ip before now = did ≡ Some now
IsHanded (Some line) did va ip before now = (did ≡ None) × (now ≡ before) × (line ≡ UserFault va ip)
