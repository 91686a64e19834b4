use Rattle.std.proofs.Common.{arith, sym, ◌∙◌}
use Rattle.jos_kernel.proofs.UserBytes.{stands_inside}
use Rattle.jos_kernel.proofs.machine.Machine.walked.Goals as goal

pub returns-in-Some : goal.returns-in-Some
returns-in-Some g c =
    rw (← c.self.view_is, c.in-Some.is)
    (stands_inside g.F.Fence.inside g.met.F.Fence.pages c.args.va (sym c.is_inside.ensures ∙ c.if-not-is_inside.false) (omega (arith, c.ranges.va.fits)) _ _ _ _
    c.self.invariant.system.records c.user_bytes.ensures.within c.user_bytes.ensures.still c.user_bytes.ensures.byte)
