use Rattle.std.proofs.Common.{◌∙◌, sym, ap, subst, arith}
use Rattle.jos_base.specs.SpacesState.{freed}
use Rattle.jos_space.specs.Frames.{Lists, IsIdle, state}
use Rattle.jos_space.specs.contracts.spaces.Spaces.{the_view}
use Rattle.jos_space.proofs.Freeing.{freed_below, freed_place, freed_room, freed_lists_sound, freed_lists_state}
use Rattle.jos_space.proofs.spaces.Spaces.free.Goals as goal

pub index_mut-requires : goal.index_mut-requires
index_mut-requires c =
    let l : Lists = the_view c.self.inside in
    let idle = subst (λ (m : Lists). IsIdle (state m) c.args.frame) (sym c.self.view_is) c.requires in
    let below = freed_below l c.self.invariant c.args.frame idle in omega (arith, below, c.self.inside.roles.ok)

pub index_mut-requires-2 : goal.index_mut-requires-2
index_mut-requires-2 c =
    let l : Lists = the_view c.self.inside in
    let idle = subst (λ (m : Lists). IsIdle (state m) c.args.frame) (sym c.self.view_is) c.requires in
    let below = freed_place l c.self.invariant c.args.frame idle in omega (arith, below, c.self.inside.order.ok)

pub overflow_add-self : goal.overflow_add-self
overflow_add-self c =
    let l : Lists = the_view c.self.inside in
    let idle = subst (λ (m : Lists). IsIdle (state m) c.args.frame) (sym c.self.view_is) c.requires in
    let room = freed_room l c.self.invariant c.args.frame idle in omega (arith, room)

pub invariant_of-self : goal.invariant_of-self
invariant_of-self c =
    let l : Lists = the_view c.self.inside in
    let idle = subst (λ (m : Lists). IsIdle (state m) c.args.frame) (sym c.self.view_is) c.requires in
    freed_lists_sound l c.self.invariant c.args.frame idle

pub returns-clause-after : goal.returns-clause-after
returns-clause-after c =
    let l : Lists = the_view c.self.inside in
    let idle = subst (λ (m : Lists). IsIdle (state m) c.args.frame) (sym c.self.view_is) c.requires in
    freed_lists_state l c.self.invariant c.args.frame idle ∙ ap (λ (m : Lists). freed (state m) c.args.frame) c.self.view_is
