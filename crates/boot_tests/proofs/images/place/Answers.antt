use Rattle.std.proofs.Common.{◌∙◌, ℕ, Bool, [], sym, ap}
use Rattle.jos_base.specs.Environments.{is_live}
use Rattle.jos_sys.proofs.Keeping.{lives}
use Rattle.boot_tests.proofs.images.place.Goals as goal

pub space-space-requires : goal.space-space-requires
space-space-requires c = ap is_live (sym (c.environment.ensures [])) ∙ lives c.environment.result.status c.in_default.not-Free

pub byte_at-byte-requires : goal.byte_at-byte-requires
byte_at-byte-requires c = ap (λ (f : ℕ → Bool). f c.space-space.result.directory.0) c.reach.ensures.in_use ∙ c.space-space.ensures.in_use c.requires

pub reach-requires-in_default : goal.reach-requires-in_default
reach-requires-in_default c = ap (λ (f : ℕ → Bool). f c.space-space.result.directory.0) c.reach.ensures.in_use ∙ c.space-space.ensures.in_use c.requires
