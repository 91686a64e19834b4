use Rattle.std.proofs.Common.{ap, not, [], ◌∙◌}
use Rattle.jos_base.specs.Environments.{Environments}
use Rattle.jos_envs.specs.Table.{any_live}
use Rattle.jos_kernel.proofs.machine.Machine.is_unused.Goals as goal

pub returns : goal.returns
returns g c = rw (← c.self.view_is) (c.is_unused.ensures ∙ ap (λ (e : Environments). not (any_live e)) (c.table.ensures []))
