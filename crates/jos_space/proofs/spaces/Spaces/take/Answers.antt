use Rattle.std.proofs.Common.{◌∙◌, ℕ, List, get_or, length, sym, ap, arith, ◌-◌}
use Rattle.jos_space.specs.declared.role.Role.TheVariants.{Reserved}
use Rattle.jos_space.specs.Frames.{Lists, held_in, state, handed_out, free_count}
use Rattle.jos_space.proofs.Uses.{free_use, fresh_use, not_free, same_use}
use Rattle.jos_space.proofs.OverLists.{head_place, took, nothing_free}
use Rattle.jos_space.proofs.spaces.Spaces.take.Goals as goal

pub place_at-frame-requires : goal.place_at-frame-requires
place_at-frame-requires c =
    let at = head_place _ c.self.invariant (c.self.inside.free_len - 1) (omega arith) in
    let len = ap length c.deref.ensures.value in
    omega (arith, at, len)

pub index_mut-requires : goal.index_mut-requires
index_mut-requires c =
    let is = c.place_at-frame.ensures ∙ ap (λ (xs : List ℕ). get_or xs (c.self.inside.free_len - 1) 0) c.deref.ensures.value in
    let t = took _ c.self.invariant c.place_at-frame.result (c.self.inside.free_len - 1) (omega arith) is in
    let below = t.below in
    omega (arith, below, c.self.inside.roles.ok)

pub invariant_of-self : goal.invariant_of-self
invariant_of-self c =
    let is = c.place_at-frame.ensures ∙ ap (λ (xs : List ℕ). get_or xs (c.self.inside.free_len - 1) 0) c.deref.ensures.value in
    (took _ c.self.invariant c.place_at-frame.result (c.self.inside.free_len - 1) (omega arith) is).sound

pub returns-then-self-eq0-clause-none : goal.returns-then-self-eq0-clause-none
returns-then-self-eq0-clause-none c = λ _. nothing_free c.args.self.now (ap (λ (l : Lists). l.free_len) (sym c.self.view_is) ∙ c.if-self-eq0.true)

pub returns-clause-some : goal.returns-clause-some
returns-clause-some c =
    let is = c.place_at-frame.ensures ∙ ap (λ (xs : List ℕ). get_or xs (c.self.inside.free_len - 1) 0) c.deref.ensures.value in
    let t = took _ c.self.invariant c.place_at-frame.result (c.self.inside.free_len - 1) (omega arith) is in
    ap (λ (l : Lists). handed_out (state l) (held_in l) c.place_at-frame.result) (sym c.self.view_is) ∙ t.handed

pub returns-clause-fresh : goal.returns-clause-fresh
returns-clause-fresh c =
    let is = c.place_at-frame.ensures ∙ ap (λ (xs : List ℕ). get_or xs (c.self.inside.free_len - 1) 0) c.deref.ensures.value in
    fresh_use _ c.place_at-frame.result (took _ c.self.invariant c.place_at-frame.result (c.self.inside.free_len - 1) (omega arith) is).fresh

pub returns-clause-was : goal.returns-clause-was
returns-clause-was c =
    let is = c.place_at-frame.ensures ∙ ap (λ (xs : List ℕ). get_or xs (c.self.inside.free_len - 1) 0) c.deref.ensures.value in
    free_use (held_in c.args.self.now) c.place_at-frame.result
    (ap (λ (l : Lists). free_count (get_or l.roles c.place_at-frame.result Reserved)) (sym c.self.view_is) ∙ (took _ c.self.invariant c.place_at-frame.result (c.self.inside.free_len - 1) (omega arith) is).was)

pub returns-clause-keeps : goal.returns-clause-keeps
returns-clause-keeps c f used =
    let is = c.place_at-frame.ensures ∙ ap (λ (xs : List ℕ). get_or xs (c.self.inside.free_len - 1) 0) c.deref.ensures.value in
    same_use _ (held_in c.args.self.now) f
    ((took _ c.self.invariant c.place_at-frame.result (c.self.inside.free_len - 1) (omega arith) is).keeps f
    (ap (λ (l : Lists). free_count (get_or l.roles f Reserved)) c.self.view_is ∙ not_free (held_in c.args.self.now) f used) ∙ ap (λ (l : Lists). get_or l.roles f Reserved) c.self.view_is)
