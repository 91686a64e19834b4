use Rattle.std.proofs.Common.{◌∙◌, sym, ap}
use Rattle.std.specs.Prelude.{Some, None}
use Rattle.std.specs.Option.{option_map}
use Rattle.jos_base.specs.declared.perm.Perm.{Perm}
use Rattle.jos_run.proofs.Looked.{dirty_looked}
use Rattle.jos_run.proofs.served.Served.is_dirty_at.Goals as goal

pub returns-in-Some : goal.returns-in-Some
returns-in-Some c =
    rw (← c.self.view_is)
    (dirty_looked c.self.inside.machine c.system-system.ensures.system _ _ (Some c.in-Some.perm.0)
    (sym (ap (option_map (λ (perm : Perm). perm.0)) c.in-Some.is) ∙ c.page_perm.ensures) c.space.ensures.directory)

pub returns-in-None : goal.returns-in-None
returns-in-None c =
    rw (← c.self.view_is)
    (dirty_looked c.self.inside.machine c.system-system.ensures.system _ _ None
    (sym (ap (option_map (λ (perm : Perm). perm.0)) c.in-None.is) ∙ c.page_perm.ensures) c.space.ensures.directory)
