use Rattle.std.proofs.Common.{◌≡◌, ◌∙◌, refl}
use Rattle.std.specs.Prelude.{Option, Some, None, is_some}
use Rattle.std.specs.Option.{option_map}
use Rattle.jos_base.specs.declared.perm.Perm.{Perm}
use Rattle.jos_run.proofs.Looked.{present_looked}
use Rattle.jos_run.proofs.served.Served.is_there.Goals as goal

told : (o : Option Perm) → is_some o ≡ is_some (option_map (λ (perm : Perm). perm.0) o)
told None = refl
told (Some perm) = refl

pub returns : goal.returns
returns c =
    c.is_some.ensures ∙ told c.page_perm.result
    ∙ rw (← c.self.view_is) (present_looked c.self.inside.machine c.system-system.ensures.system _ _
    (option_map (λ (perm : Perm). perm.0) c.page_perm.result) c.page_perm.ensures c.space.ensures.directory)
