use Rattle.std.proofs.Common.{ap, [], ℕ, Option, ◌∙◌}
use Rattle.std.specs.Prelude.{unwrap_or}
use Rattle.jos_kernel.proofs.machine.Machine.current.Goals as goal

pub returns : goal.returns
returns g c = rw (← c.self.view_is) (c.unwrap_or.ensures ∙ ap (λ (last : Option ℕ). unwrap_or last 0) (c.last.ensures []))
