-- What a step of a program has done.
use Rattle.std.specs.Prelude.{◌≡◌, Option, Result, Ok, Err}
use Rattle.jos_host.specs.declared.host.Failed.{Failed}
use Rattle.jos_base.specs.KernelState.{KernelState}
use Rattle.jos_kernel.specs.declared.trace.TrapLine.{TrapLine}
use Rattle.jos_kernel.specs.Steps.{EnvStep}
use Rattle.lib_os.specs.UserCalls.{Output, Prints, PrintsPart}

-- A step is done, with the trap that it raised, and all of its bytes are printed; or the host failed in the middle of them.
abbrev pub Follows : Result (Option TrapLine) Failed → EnvStep → KernelState → Output → Type 0
Follows (Ok trap) step state output = (state ≡ step.state) × (trap ≡ step.trap) × Prints output step.written
Follows (Err _) step state output = PrintsPart output step.written
