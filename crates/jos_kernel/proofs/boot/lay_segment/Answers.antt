use Rattle.std.proofs.Common.{refl, ap, sym, ◌∙◌}
use Rattle.jos_space.specs.Calls.{has_bytes}
use Rattle.jos_sys.specs.System.{state_of}
use Rattle.jos_kernel.specs.Loading.{with_bytes_in}
use Rattle.jos_kernel.proofs.Laying.{laid-part, laid-none, with_bytes-same}
use Rattle.jos_kernel.proofs.boot.lay_segment.Goals as goal

pub fill-requires-clause-frame : goal.fill-requires-clause-frame
fill-requires-clause-frame c = ap has_bytes c.requires.frame

pub returns-then-from-to-clause-state : goal.returns-then-from-to-clause-state
returns-then-from-to-clause-state c = λ input.
    c.fill.ensures.state input
    ∙ ap (with_bytes_in (state_of c.args.system.now input) c.args.frame.0)
    (sym (laid-part c.args.segment.now c.args.file.now _ c.args.number c.max-from.result c.min-to.result _ _ c.max-from.ensures c.min-to.ensures refl refl c.if-from-to.true))

pub returns-else-from-to-clause-state : goal.returns-else-from-to-clause-state
returns-else-from-to-clause-state c = λ input.
    with_bytes-same (state_of c.args.system.now input) c.args.frame.0 _
    (laid-none c.args.segment.now c.args.file.now _ c.args.number c.max-from.result c.min-to.result c.max-from.ensures c.min-to.ensures c.if-from-to.false)
