use Rattle.std.proofs.Common.{◌≡◌, ◌∙◌, sym, true, ap, subst}
use Rattle.jos_base.specs.Environments.{is_live}
use Rattle.jos_envs.specs.Table.{Kept, environments, recent_slot}
use Rattle.jos_envs.proofs.Kept.{undo_live, undo_is}
use Rattle.jos_envs.proofs.table.Table.undo.Goals as goal

pub release-requires : goal.release-requires
release-requires c =
    subst (λ (k : Kept). is_live ((environments k).slots c.args.slot) ≡ true) c.self.view_is
    (undo_live _ c.in-Some.recent c.args.slot c.in-Some.is (ap recent_slot c.self.view_is ∙ c.requires) c.self.invariant)

pub returns-in-Some : goal.returns-in-Some
returns-in-Some c =
    c.release.ensures.freed
    ∙ undo_is _ c.in-Some.recent c.args.slot (ap (λ (k : Kept). k.recent) (sym c.self.view_is) ∙ c.in-Some.is) c.requires
