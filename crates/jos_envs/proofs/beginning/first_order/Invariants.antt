use Rattle.std.proofs.Common.{◌≡◌, ◌<◌, ◌-◌, ℕ, length, get_or}
use Rattle.jos_base.specs.declared.numbers.TheConstants.{NENV}
use Rattle.jos_envs.proofs.beginning.first_order.Given as goal

abbrev pub invariant-loop-p : goal.invariant-loop-p
invariant-loop-p l = record {
  len : length l.order.items ≡ l.p;
  each : (p : ℕ) → p < l.p → get_or l.order.items p 0 ≡ NENV - 1 - p;
}
