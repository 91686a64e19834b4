use Rattle.std.proofs.Common.{ap, not, ◌∙◌, sym}
use Rattle.jos_base.specs.Environments.{is_free, is_live}
use Rattle.jos_base.specs.declared.environment.Status.{Status}
use Rattle.jos_sys.proofs.Keeping.{lives}
use Rattle.jos_run.proofs.Looked.{slot_looked}
use Rattle.jos_run.proofs.served.Served.is_live_in.Goals as goal
use Rattle.jos_run.proofs.served.Served.is_live_in.Goals.{in-Free, in_default}

pub returns : goal.returns
returns c =
    let slot_is = ap is_live (slot_looked c.self.inside.machine c.system.ensures.system _ c.environment.ensures) in
    rw (← c.self.view_is)
    (elim c.match-matches.branch [
      | in-Free w ↦ ap not w.matches-is ∙ ap (λ (status : Status). not (is_free status)) (sym w.in-Free.is) ∙ slot_is
      | in_default w ↦ ap not w.matches-is ∙ sym (lives c.environment.result.status w.in_default.not-Free) ∙ slot_is
    ])
