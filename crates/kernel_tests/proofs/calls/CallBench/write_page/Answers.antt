use Rattle.std.proofs.Common.{◌∙◌, ap}
use Rattle.kernel_tests.proofs.calls.CallBench.write_page.Goals as goal

pub reach-requires : goal.reach-requires
reach-requires c =
    ap (λ f. f c.in_ok-space.space.directory.0) (c.fill.ensures.in_use ∙ c.allocate.ensures.in_use)
    ∙ c.in_ok-space.ensures.space

pub put_byte-requires : goal.put_byte-requires
put_byte-requires c =
    ap (λ f. f c.in_ok-space.space.directory.0) (c.reach.ensures.in_use ∙ c.fill.ensures.in_use ∙ c.allocate.ensures.in_use)
    ∙ c.in_ok-space.ensures.space
