use Rattle.std.proofs.Common.{◌≡◌, ◌∙◌, ◌+◌, ℕ, List, get_or, length, ap, subst, arith}
use Rattle.jos_base.specs.SpacesState.{own_count}
use Rattle.jos_space.specs.declared.role.Role.{Role}
use Rattle.jos_space.specs.declared.role.Role.TheVariants.{Reserved}
use Rattle.jos_space.specs.Frames.{Lists, AreSound, held_in, use_of, entries_of}
use Rattle.jos_space.proofs.PageBytes.{count_is, count_past, own_le}
use Rattle.jos_space.proofs.spaces.Spaces.count.Goals as goal
use Rattle.jos_base.proofs.Counts.{page_count-le}

pub overflow_add-result : goal.overflow_add-result
overflow_add-result c =
    let invariant : AreSound c.args.self.now = subst (λ (l : Lists). AreSound l) c.self.view_is c.self.invariant in
    let count : c.count_at.result ≡ get_or c.args.self.now.counts c.args.frame.0 0 = c.count_at.ensures ∙ ap (λ (xs : List ℕ). get_or xs c.args.frame.0 0) (c.deref.ensures.value ∙ ap (λ (l : Lists). l.counts) c.self.view_is) in
    let own : c.own_count.result ≡ own_count (use_of (get_or c.args.self.now.roles c.args.frame.0 Reserved)) = c.own_count.ensures ∙ ap (λ (r : Role). own_count (use_of r)) (c.role_at.ensures ∙ ap (λ (rs : List Role). get_or rs c.args.frame.0 Reserved) (c.deref-2.ensures.value ∙ ap (λ (l : Lists). l.roles) c.self.view_is)) in
    let most = page_count-le (entries_of (held_in c.args.self.now)) c.args.frame.0 in let is = invariant.sound.counts c.args.frame.0 in let one = own_le (get_or c.args.self.now.roles c.args.frame.0 Reserved) in omega (arith, most, is, one, count, own)

pub returns : goal.returns
returns c =
    let invariant : AreSound c.args.self.now = subst (λ (l : Lists). AreSound l) c.self.view_is c.self.invariant in
    let count : c.count_at.result ≡ get_or c.args.self.now.counts c.args.frame.0 0 = c.count_at.ensures ∙ ap (λ (xs : List ℕ). get_or xs c.args.frame.0 0) (c.deref.ensures.value ∙ ap (λ (l : Lists). l.counts) c.self.view_is) in
    let own : c.own_count.result ≡ own_count (use_of (get_or c.args.self.now.roles c.args.frame.0 Reserved)) = c.own_count.ensures ∙ ap (λ (r : Role). own_count (use_of r)) (c.role_at.ensures ∙ ap (λ (rs : List Role). get_or rs c.args.frame.0 Reserved) (c.deref-2.ensures.value ∙ ap (λ (l : Lists). l.roles) c.self.view_is)) in
    ap (λ n. n + c.own_count.result) count ∙ count_is c.args.self.now invariant c.args.frame.0 c.own_count.result own

pub returns-then-frame-len : goal.returns-then-frame-len
returns-then-frame-len c =
    let invariant : AreSound c.args.self.now = subst (λ (l : Lists). AreSound l) c.self.view_is c.self.invariant in
    let len = ap (λ (l : Lists). length l.roles) c.self.view_is in
    count_past c.args.self.now invariant c.args.frame.0 (omega (arith, len, c.self.inside.roles.ok, c.if-frame-len.true))
