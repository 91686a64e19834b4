use Rattle.std.proofs.Common.{sym, ◌∙◌}
use Rattle.jos_kernel.proofs.Machines.{knows_page}
use Rattle.jos_kernel.proofs.UserBytes.{page_inside}
use Rattle.jos_kernel.proofs.machine.Machine.page_inside.Goals as goal

pub returns-then-is_inside : goal.returns-then-is_inside
returns-then-is_inside g c =
    rw (← c.self.view_is)
    (knows_page g.F.Fence.inside c.self.inside.system c.args.space c.page_at_hand.result c.page_at_hand.ensures.space c.page_at_hand.ensures.at_hand
    c.args.va
    (λ number e. page_inside g.F.Fence.inside g.met.F.Fence.pages number c.args.va e (sym c.is_inside.ensures ∙ c.if-is_inside.true))
    c.page_at_hand.ensures.number)
