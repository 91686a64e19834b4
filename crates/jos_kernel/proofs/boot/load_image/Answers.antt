use Rattle.std.proofs.Common.{[], ap, ◌∙◌}
use Rattle.jos_base.specs.KernelState.{KernelState, slot_at}
use Rattle.jos_base.specs.Environments.{is_live}
use Rattle.jos_sys.specs.System.{state_of}
use Rattle.jos_kernel.proofs.PagesLoaded.{image-none, image-loads}
use Rattle.jos_kernel.proofs.boot.load_image.Goals as goal

pub returns-then-not-load_pages-clause-loads : goal.returns-then-not-load_pages-clause-loads
returns-then-not-load_pages-clause-loads c = λ input.
    image-none c.args.segments.now c.args.file.now c.args.slot (state_of c.args.system.now input) (state_of c.load_pages.new.system input)
    (c.if-not-load_pages.ensures.loads input)

pub allocate-requires-clause-live : goal.allocate-requires-clause-live
allocate-requires-clause-live c = ap (λ (s : KernelState). is_live (slot_at s c.args.slot)) (c.if-not-load_pages.ensures.loads []).1 ∙ c.requires.live

pub returns-clause-loads : goal.returns-clause-loads
returns-clause-loads c = λ input.
    image-loads c.args.segments.now c.args.file.now c.args.slot (state_of c.args.system.now input) (state_of c.load_pages.new.system input)
    (state_of c.allocate.new.self input) c.perm_of.result.0 c.perm_of.ensures.bits (c.if-not-load_pages.ensures.loads input) (c.allocate.ensures.rest input)
    c.allocate.result c.is_some.result c.is_some.ensures
    c.allocate.ensures.some c.allocate.ensures.none
