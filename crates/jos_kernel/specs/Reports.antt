-- What is told of a run. (This system's own.)
use Rattle.std.specs.Prelude.{ℕ, List, Option}
use Rattle.jos_kernel.specs.declared.report.End.{End}
use Rattle.jos_kernel.specs.declared.report.Turn.{Turn}
use Rattle.jos_kernel.specs.declared.report.Refusal.{Refusal}

-- a run that is over
pub record Reported : Type 0 where
  pub end : End
  pub steps : ℕ
  pub turns : List Turn
  pub closing : ℕ
  pub refused : ℕ
  pub first_refused : Option Refusal
  pub upcalls : ℕ

-- a run that a failed call of the host cut off
pub record CutOff : Type 0 where
  pub turns : List Turn
  pub first_refused : Option Refusal
