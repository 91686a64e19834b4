use Rattle.std.proofs.Common.{◌∙◌, [], sym, ap}
use Rattle.jos_base.specs.Environments.{is_live}
use Rattle.jos_sys.proofs.Keeping.{lives}
use Rattle.kernel_tests.proofs.calls.live_space.Goals as goal

pub space-requires : goal.space-requires
space-requires c =
    ap is_live (sym (c.environment.ensures [])) ∙ lives c.environment.result.status c.in_default.not-Free

pub returns-in_default : goal.returns-in_default
returns-in_default c = record {
  space = c.space.ensures.in_use c.requires.spaces;
  live = λ some. ap is_live (sym (c.environment.ensures [])) ∙ lives c.environment.result.status c.in_default.not-Free;
}
