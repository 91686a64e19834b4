use Rattle.std.proofs.Common.{◌∙◌, sym, ap, subst, arith}
use Rattle.jos_base.specs.Words.{upd}
use Rattle.jos_base.specs.Environments.{Environments, is_live, with_slot}
use Rattle.jos_envs.specs.Slots.{slot_of}
use Rattle.jos_envs.specs.SlotSets.{contains}
use Rattle.jos_envs.specs.Table.{Kept, environments, KeepsLive}
use Rattle.jos_envs.proofs.Kept.{live_within, put_lawful, put_is, with_slot-live}
use Rattle.jos_envs.proofs.table.Table.put.Goals as goal

pub index_mut-requires : goal.index_mut-requires
index_mut-requires c =
    let below = live_within c.args.self.now c.args.slot c.requires.live in
    omega (arith, below, c.self.invariant.slots, c.self.inside.slots.ok)

pub set-requires : goal.set-requires
set-requires c = live_within c.args.self.now c.args.slot c.requires.live

pub invariant_of-self : goal.invariant_of-self
invariant_of-self c =
    put_lawful _ c.args.slot c.args.environment c.set.new.self.words c.self.invariant
    (ap (λ (k : Kept). is_live ((environments k).slots c.args.slot)) c.self.view_is ∙ c.requires.live) c.requires.status
    (c.set.ensures ∙ ap (upd (contains c.self.inside.runnable.words) c.args.slot) c.is_runnable.ensures)

pub returns-clause-put : goal.returns-clause-put
returns-clause-put c =
    put_is _ c.args.slot c.args.environment c.set.new.self.words c.self.invariant
    (ap (λ (k : Kept). is_live ((environments k).slots c.args.slot)) c.self.view_is ∙ c.requires.live) c.requires.status
    (c.set.ensures ∙ ap (upd (contains c.self.inside.runnable.words) c.args.slot) c.is_runnable.ensures)
    ∙ ap (λ (k : Kept). with_slot (environments k) c.args.slot (slot_of c.args.environment)) c.self.view_is

pub returns-clause-live : goal.returns-clause-live
returns-clause-live c =
    subst (λ (e : Environments). KeepsLive (environments c.args.self.now) e) (sym (returns-clause-put c))
    (with_slot-live (environments c.args.self.now) c.args.slot (slot_of c.args.environment) c.requires.status)
