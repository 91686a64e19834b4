use Rattle.std.proofs.Common.{refl, sym}
use Rattle.jos_cpu.proofs.ComputingAtHand.{without_access, with_read, with_write}
use Rattle.jos_cpu.proofs.quick.at_hand.compute_at_hand.Goals as goal

pub returns-in-None : goal.returns-in-None
returns-in-None g c =
    without_access _ _ _ _ _ _ _ _ _ c.requires _ _ (sym (rw c.usage_of-usage.ensures at c.in-None.ensures))
    (rw c.advance.ensures at c.make_computation.ensures)

pub returns-else-not-put_at_hand : goal.returns-else-not-put_at_hand
returns-else-not-put_at_hand g c =
    with_write _ _ _ _ _ _ _ _ _ c.requires _ _ c.in-One.reach.usage _ _ _ _ _ _ (sym (rw c.usage_of-usage.ensures at c.in-One.ensures))
    (sym c.if-is_written.ensures) c.in-Some.ensures (rw c.advance-in-Some.ensures at c.make_computation-value.ensures) (c.if-not-put_at_hand.ensures.put refl)

pub returns-else-is_written : goal.returns-else-is_written
returns-else-is_written g c =
    with_read _ _ _ _ _ _ _ _ _ c.requires _ _ c.in-One.reach.usage _ _ _ _ _ (sym (rw c.usage_of-usage.ensures at c.in-One.ensures))
    (sym c.if-is_written.ensures) c.in-Some.ensures (rw c.advance-in-Some.ensures at c.make_computation-value.ensures)
