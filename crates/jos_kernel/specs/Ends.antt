-- How a run has ended, as a result.
use Rattle.std.specs.Prelude.{Result, Ok, Err}
use Rattle.jos_host.specs.declared.host.Failed.{Failed}
use Rattle.jos_kernel.specs.declared.kernel.ExoEnd.{ExoEnd}
use Rattle.jos_kernel.specs.declared.kernel.ExoEnd.TheVariants.{Ended, HostFault}
use Rattle.jos_kernel.specs.declared.report.End.{End}

abbrev pub result_of : ExoEnd → Result End Failed
result_of (Ended end) = Ok end
result_of HostFault = Err (record {})

-- a fact for a run that has ended by itself
abbrev pub IfEnded : ExoEnd → Type 0 → Type 0
IfEnded (Ended end) P = P
IfEnded HostFault P = Unit {0}
