use Rattle.std.proofs.Common.{◌∙◌, sym, ap, arith}
use Rattle.jos_base.specs.Environments.{is_live, allotted}
use Rattle.jos_envs.specs.Table.{Kept, environments}
use Rattle.jos_envs.proofs.Kept.{none_allotted, taken_place, taken_below, taken_within, taken_was_free, taken_lawful}
use Rattle.jos_envs.proofs.Kept.{taken_is, taken_undone, taken_live, taken_keeps}
use Rattle.jos_envs.proofs.table.Table.allot.Goals as goal

pub returns-then-self-eq0-clause-exact : goal.returns-then-self-eq0-clause-exact
returns-then-self-eq0-clause-exact c =
    none_allotted c.args.self.now c.args.parent.0 (ap (λ (k : Kept). k.free_len) (sym c.self.view_is) ∙ c.if-self-eq0.true)

pub index-slot-requires : goal.index-slot-requires
index-slot-requires c =
    let place = taken_place _ c.self.invariant c.if-self-eq0.false in
    omega (arith, place, c.self.inside.order.ok)

pub get-requires : goal.get-requires
get-requires c = taken_below _ c.self.invariant c.if-self-eq0.false _ c.index-slot.ensures

pub next_id-requires : goal.next_id-requires
next_id-requires c = taken_below _ c.self.invariant c.if-self-eq0.false _ c.index-slot.ensures

pub index_mut-requires : goal.index_mut-requires
index_mut-requires c =
    let within = taken_within _ c.self.invariant c.if-self-eq0.false _ c.index-slot.ensures in
    omega (arith, within, c.self.inside.slots.ok)

pub invariant_of-self : goal.invariant_of-self
invariant_of-self c =
    taken_lawful _ c.self.invariant c.if-self-eq0.false _ c.index-slot.ensures c.get.result c.new.result c.args.parent.0 c.next_id.result.0
    (c.get.ensures ∙ ap (λ (k : Kept). (environments k).slots c.index-slot.result.now) (sym c.self.view_is)) c.next_id.ensures c.new.ensures

pub returns-clause-exact : goal.returns-clause-exact
returns-clause-exact c =
    ap (λ (k : Kept). allotted (environments k) c.args.parent.0) (sym c.self.view_is)
    ∙ taken_is _ c.self.invariant c.if-self-eq0.false _ c.index-slot.ensures c.get.result c.new.result c.args.parent.0 c.next_id.result.0
    (c.get.ensures ∙ ap (λ (k : Kept). (environments k).slots c.index-slot.result.now) (sym c.self.view_is)) c.next_id.ensures c.new.ensures

pub returns-clause-within : goal.returns-clause-within
returns-clause-within c = taken_below _ c.self.invariant c.if-self-eq0.false _ c.index-slot.ensures

pub returns-clause-was_free : goal.returns-clause-was_free
returns-clause-was_free c =
    ap (λ (k : Kept). is_live ((environments k).slots c.index-slot.result.now)) (sym c.self.view_is)
    ∙ taken_was_free _ c.self.invariant c.if-self-eq0.false _ c.index-slot.ensures

pub returns-clause-undone : goal.returns-clause-undone
returns-clause-undone c =
    taken_undone _ c.self.invariant c.if-self-eq0.false _ c.index-slot.ensures c.get.result c.new.result c.args.parent.0 c.next_id.result.0
    (c.get.ensures ∙ ap (λ (k : Kept). (environments k).slots c.index-slot.result.now) (sym c.self.view_is)) c.next_id.ensures c.new.ensures
    ∙ ap environments c.self.view_is

pub returns-clause-is_live : goal.returns-clause-is_live
returns-clause-is_live c =
    taken_live _ c.self.invariant c.if-self-eq0.false _ c.index-slot.ensures c.get.result c.new.result c.args.parent.0 c.next_id.result.0
    (c.get.ensures ∙ ap (λ (k : Kept). (environments k).slots c.index-slot.result.now) (sym c.self.view_is)) c.next_id.ensures c.new.ensures

pub returns-clause-live : goal.returns-clause-live
returns-clause-live c =
    λ n live. taken_keeps _ c.self.invariant c.if-self-eq0.false _ c.index-slot.ensures c.get.result c.new.result c.args.parent.0 c.next_id.result.0
    (c.get.ensures ∙ ap (λ (k : Kept). (environments k).slots c.index-slot.result.now) (sym c.self.view_is)) c.next_id.ensures c.new.ensures
    n (ap (λ (k : Kept). is_live ((environments k).slots n)) c.self.view_is ∙ live)
