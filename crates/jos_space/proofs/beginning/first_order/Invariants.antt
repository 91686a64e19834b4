use Rattle.std.proofs.Common.{◌≡◌, ◌<◌, ◌-◌, ℕ, length, get_or}
use Rattle.jos_space.proofs.beginning.first_order.Given as goal

abbrev pub invariant-loop-k : goal.invariant-loop-k
invariant-loop-k l = record {
  len : length l.order.items ≡ l.k;
  each : (f : ℕ) → f < l.k → get_or l.order.items f 0 ≡ l.frames - 1 - f;
}
