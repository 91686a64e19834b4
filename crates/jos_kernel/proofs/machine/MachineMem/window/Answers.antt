use Rattle.std.proofs.Common.{arith}
use Rattle.jos_kernel.proofs.Machines.{known_space}
use Rattle.jos_kernel.proofs.UserBytes.{inside_page, stands_inside}
use Rattle.jos_kernel.proofs.machine.MachineMem.window.Goals as goal

pub bytes_by-requires-clause-space : goal.bytes_by-requires-clause-space
bytes_by-requires-clause-space g c = (known_space _ _ _ _ _ c.self.invariant c.in-Some.is).1

pub bytes_by-requires-clause-page : goal.bytes_by-requires-clause-page
bytes_by-requires-clause-page g c = (known_space _ _ _ _ _ c.self.invariant c.in-Some.is).2

pub returns-then-page-va : goal.returns-then-page-va
returns-then-page-va g c =
    let known = known_space _ _ _ _ _ c.self.invariant c.in-Some.is in
    let on = inside_page g.F.Fence.inside g.met.F.Fence.pages c.in-Some.page.number c.args.va c.if-page-va.true known.3 in
    rw (← c.self.view_is, known.0)
    (stands_inside g.F.Fence.inside g.met.F.Fence.pages c.args.va on (omega (arith, c.ranges.va.fits)) _ _ _ _
    c.self.invariant.system.records c.bytes_by.ensures.within c.bytes_by.ensures.still c.bytes_by.ensures.byte)
