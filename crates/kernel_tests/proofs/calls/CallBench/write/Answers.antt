use Rattle.std.proofs.Common.{◌∙◌, ap}
use Rattle.kernel_tests.proofs.calls.CallBench.write.Goals as goal

pub put_word-requires : goal.put_word-requires
put_word-requires c = ap (λ f. f c.in-Some.space.directory.0) c.reach.ensures.in_use ∙ c.in-Some.ensures.space
