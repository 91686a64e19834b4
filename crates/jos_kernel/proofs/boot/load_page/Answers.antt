use Rattle.std.proofs.Common.{◌*◌, ◌/◌, refl, ap, ◌∙◌, arith}
use Rattle.jos_base.specs.KernelState.{slot_at}
use Rattle.jos_sys.specs.System.{state_of}
use Rattle.jos_kernel.specs.Boot.{perm_of}
use Rattle.jos_kernel.proofs.PagesLoaded.{loads-none, loads-filled}
use Rattle.jos_kernel.proofs.boot.load_page.Goals as goal

pub returns-in-None-clause-loads : goal.returns-in-None-clause-loads
returns-in-None-clause-loads c = λ input.
    loads-none c.args.segments.now c.args.file.now (slot_at (state_of c.args.system.now input) c.args.slot).directory c.args.number (c.args.number * 4096 / 4096)
    c.perm_of-perm.result.0 (state_of c.args.system.now input) (state_of c.allocate.new.self input) c.requires.touched (omega arith)
    (c.perm_of-perm.ensures.bits ∙ ap perm_of c.any_writes.ensures) (c.in-None.ensures.rest input) (c.in-None.ensures.none refl)

pub returns-in-Some-clause-loads : goal.returns-in-Some-clause-loads
returns-in-Some-clause-loads c = λ input.
    loads-filled c.args.segments.now c.args.file.now (slot_at (state_of c.args.system.now input) c.args.slot).directory c.args.number (c.args.number * 4096 / 4096)
    c.perm_of-perm.result.0 (state_of c.args.system.now input) (state_of c.allocate.new.self input) c.requires.touched (omega arith)
    (c.perm_of-perm.ensures.bits ∙ ap perm_of c.any_writes.ensures) (c.in-Some.ensures.rest input) (state_of c.lay_page.new.system input) c.in-Some.frame.0
    c.in-Some.ensures.some c.in-Some.ensures.zero (c.lay_page.ensures.state input)
