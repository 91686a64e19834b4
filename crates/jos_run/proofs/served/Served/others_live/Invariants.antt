use Rattle.std.specs.Prelude.{◌≡◌, ◌≤◌, false}
use Rattle.jos_base.specs.Below.{some_below}
use Rattle.jos_run.specs.Served.{kernel_state}
use Rattle.jos_run.proofs.OthersLive.{other_lives}
use Rattle.jos_run.proofs.served.Served.others_live.Given as goal

abbrev pub invariant-loop-slot : goal.invariant-loop-slot
invariant-loop-slot l = (1 ≤ l.slot) × (some_below l.slot (other_lives (kernel_state l.fn.self)) ≡ false)
