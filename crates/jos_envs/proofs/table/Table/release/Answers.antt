use Rattle.std.proofs.Common.{◌∙◌, sym, ap, subst, arith}
use Rattle.jos_base.specs.Environments.{Environments, is_live, slot_freed}
use Rattle.jos_envs.specs.Table.{Kept, environments, KeepsOthersLive}
use Rattle.jos_envs.proofs.Kept.{live_within, has_room, released_lawful, released_is, slot_freed-live}
use Rattle.jos_envs.proofs.table.Table.release.Goals as goal

pub index_mut-requires : goal.index_mut-requires
index_mut-requires c =
    let below = live_within c.args.self.now c.args.slot c.requires in
    omega (arith, below, c.self.invariant.slots, c.self.inside.slots.ok)

pub index_mut-requires-2 : goal.index_mut-requires-2
index_mut-requires-2 c =
    let room = has_room _ c.args.slot c.self.invariant (ap (λ (k : Kept). is_live ((environments k).slots c.args.slot)) c.self.view_is ∙ c.requires) in
    omega (arith, room, c.self.invariant.order, c.self.inside.order.ok)

pub overflow_add-self : goal.overflow_add-self
overflow_add-self c =
    let room = has_room _ c.args.slot c.self.invariant (ap (λ (k : Kept). is_live ((environments k).slots c.args.slot)) c.self.view_is ∙ c.requires) in
    omega (arith, room)

pub set-requires : goal.set-requires
set-requires c = live_within c.args.self.now c.args.slot c.requires

pub invariant_of-self : goal.invariant_of-self
invariant_of-self c =
    released_lawful _ c.args.slot c.self.invariant (ap (λ (k : Kept). is_live ((environments k).slots c.args.slot)) c.self.view_is ∙ c.requires)
    c.free.result _ c.set.new.self.words c.args.id.0 c.free.ensures (omega arith) c.set.ensures

pub returns-clause-freed : goal.returns-clause-freed
returns-clause-freed c =
    released_is _ c.args.slot c.self.invariant (ap (λ (k : Kept). is_live ((environments k).slots c.args.slot)) c.self.view_is ∙ c.requires)
    c.free.result _ c.set.new.self.words c.args.id.0 c.free.ensures (omega arith) c.set.ensures
    ∙ ap (λ (k : Kept). slot_freed (environments k) c.args.slot c.args.id.0) c.self.view_is

pub returns-clause-live : goal.returns-clause-live
returns-clause-live c =
    subst (λ (e : Environments). KeepsOthersLive c.args.slot (environments c.args.self.now) e) (sym (returns-clause-freed c))
    (slot_freed-live (environments c.args.self.now) c.args.slot c.args.id.0)
