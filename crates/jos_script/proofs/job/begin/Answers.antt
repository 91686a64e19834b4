use Rattle.std.proofs.Common.{◌∙◌, sym, Some}
use Rattle.jos_script.proofs.Commands.{begins-piped, begins-last, behind-last}
use Rattle.jos_script.proofs.job.begin.Goals as goal

pub returns-in_default : goal.returns-in_default
returns-in_default c =
    c.end.ensures c.args.line.now
    ∙ sym (behind-last c.args.line.now c.args.behind.last c.args.behind.next (Some (record { before = c.args.before; children = c.args.behind.children.items })) c.in_default.ensures.behind)

pub returns-then-piped : goal.returns-then-piped
returns-then-piped c =
    begins-piped c.args.line.now c.args.behind.last c.args.behind.next (record { before = c.args.before; children = c.args.behind.children.items }) c.in-Some.piped
    c.in-Some.ensures.there c.in-Some.ensures.told c.if-piped.true

pub returns-else-piped : goal.returns-else-piped
returns-else-piped c =
    begins-last c.args.line.now c.args.behind.last c.args.behind.next (record { before = c.args.before; children = c.args.behind.children.items }) c.in-Some.piped
    c.in-Some.ensures.there c.in-Some.ensures.told c.if-piped.false
