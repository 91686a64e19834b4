use Rattle.std.proofs.Common.{true, false, sym, ◌∙◌}
use Rattle.jos_base.specs.declared.memory.Access.TheVariants.{Read, Write}
use Rattle.jos_kernel.proofs.UserBytes.{nothing_probed, first_refused}
use Rattle.jos_kernel.proofs.machine.probe_nothing.Goals as goal

pub returns-then-len-eq0-clause-after : goal.returns-then-len-eq0-clause-after
returns-then-len-eq0-clause-after g c s = rw c.if-len-eq0.true (nothing_probed g.F.Fence.inside s c.args.va c.args.access)

pub returns-then-not-is_inside-clause-after : goal.returns-then-not-is_inside-clause-after
returns-then-not-is_inside-clause-after g c s =
    first_refused g.F.Fence.inside s c.args.va c.args.len c.args.access c.if-len-eq0.false false (sym c.is_inside.ensures ∙ c.if-not-is_inside.true)

pub returns-in-Read-clause-after : goal.returns-in-Read-clause-after
returns-in-Read-clause-after g c s =
    rw c.in-Read.is (first_refused g.F.Fence.inside s c.args.va c.args.len Read c.if-len-eq0.false true (sym c.is_inside.ensures ∙ c.if-not-is_inside.false))

pub returns-in-Write-clause-after : goal.returns-in-Write-clause-after
returns-in-Write-clause-after g c s =
    rw c.in-Write.is (first_refused g.F.Fence.inside s c.args.va c.args.len Write c.if-len-eq0.false true (sym c.is_inside.ensures ∙ c.if-not-is_inside.false))
