use Rattle.std.proofs.Common.{◌≡◌, ◌<◌, ℕ, length, get_or, []}
use Rattle.jos_space.specs.Frames.{zero_record}
use Rattle.jos_space.proofs.beginning.zero_records.Given as goal

abbrev pub invariant-loop-slot : goal.invariant-loop-slot
invariant-loop-slot l = record {
  len : length l.records.items ≡ l._slot;
  each : (n : ℕ) → n < l._slot → get_or l.records.items n [] ≡ zero_record;
}
