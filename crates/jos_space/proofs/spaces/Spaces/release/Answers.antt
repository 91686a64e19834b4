use Rattle.std.proofs.Common.{◌≡◌, ◌∙◌, ◌≤◌, ℕ, Some, Option, List, get_or, length, sym, ap, subst, arith}
use Rattle.std.specs.Prelude.{IfSome}
use Rattle.jos_base.specs.Counting.{page_count}
use Rattle.jos_base.specs.SpacesState.{SpacesState, page, free, released}
use Rattle.jos_space.specs.Frames.{Lists, state}
use Rattle.jos_space.specs.contracts.spaces.Spaces.{the_view}
use Rattle.jos_space.proofs.Roles.{is_reserved}
use Rattle.jos_space.proofs.Uses.{page_in, has_place}
use Rattle.jos_space.proofs.Freeing.{idle_page, released_now, released_not, count_of, named_counts}
use Rattle.jos_space.proofs.Keeping.{keeps_other, page_apart}
use Rattle.jos_space.proofs.spaces.Spaces.release.Goals as goal
use Rattle.jos_base.proofs.Maps.{upd-other}

is_page : (s : SpacesState) (o : Option ℕ) (g : ℕ) → o ≡ Some g → IfSome o (λ g. s.uses g ≡ page) → s.uses g ≡ page
is_page s o g some h = subst (λ (o : Option ℕ). IfSome o (λ g. s.uses g ≡ page)) some h

pub free-requires : goal.free-requires
free-requires c =
    let count_is : c.count_at.result ≡ page_count (state c.args.self.now).entries c.in-Some.gone =
    c.count_at.ensures ∙ ap (λ (xs : List ℕ). get_or xs c.in-Some.gone 0) c.deref.ensures.value ∙ count_of (the_view c.self.inside) c.self.invariant c.in-Some.gone
    ∙ ap (λ (m : Lists). page_count (state m).entries c.in-Some.gone) c.self.view_is in
    idle_page (state c.args.self.now) c.in-Some.gone (is_page (state c.args.self.now) c.args.frame c.in-Some.gone c.in-Some.is c.requires) (sym count_is ∙ c.if-count_at-eq0.true)

pub returns-then-count_at-eq0-clause-state : goal.returns-then-count_at-eq0-clause-state
returns-then-count_at-eq0-clause-state c =
    let count_is : c.count_at.result ≡ page_count (state c.args.self.now).entries c.in-Some.gone =
    c.count_at.ensures ∙ ap (λ (xs : List ℕ). get_or xs c.in-Some.gone 0) c.deref.ensures.value ∙ count_of (the_view c.self.inside) c.self.invariant c.in-Some.gone
    ∙ ap (λ (m : Lists). page_count (state m).entries c.in-Some.gone) c.self.view_is in
    c.free.ensures.after ∙ released_now (state c.args.self.now) c.in-Some.gone (sym count_is ∙ c.if-count_at-eq0.true)
    ∙ ap (released (state c.args.self.now)) (sym c.in-Some.is)

pub returns-then-count_at-eq0-clause-kept : goal.returns-then-count_at-eq0-clause-kept
returns-then-count_at-eq0-clause-kept c =
    keeps_other (state c.args.self.now) (state c.free.new.self) c.in-Some.gone free (ap (λ (s : SpacesState). s.uses) c.free.ensures.after)
    (page_apart ((state c.args.self.now).uses c.in-Some.gone) (is_page (state c.args.self.now) c.args.frame c.in-Some.gone c.in-Some.is c.requires))

pub returns-then-count_at-eq0-clause-pages : goal.returns-then-count_at-eq0-clause-pages
returns-then-count_at-eq0-clause-pages c d p entry is was =
    let count_is : c.count_at.result ≡ page_count (state c.args.self.now).entries c.in-Some.gone =
    c.count_at.ensures ∙ ap (λ (xs : List ℕ). get_or xs c.in-Some.gone 0) c.deref.ensures.value ∙ count_of (the_view c.self.inside) c.self.invariant c.in-Some.gone
    ∙ ap (λ (m : Lists). page_count (state m).entries c.in-Some.gone) c.self.view_is in
    let some : 1 ≤ page_count (state c.args.self.now).entries entry.frame =
    subst (λ (m : Lists). 1 ≤ page_count (state m).entries entry.frame) c.self.view_is
    (named_counts (the_view c.self.inside) c.self.invariant d p entry (ap (λ (m : Lists). (state m).entries d p) c.self.view_is ∙ is)) in
    (λ i. (c.free.ensures.after i).uses entry.frame)
    ∙ upd-other (state c.args.self.now).uses c.in-Some.gone free entry.frame
    (λ same. (let at = ap (page_count (state c.args.self.now).entries) same in let none = c.if-count_at-eq0.true in absurd (omega (arith, some, at, count_is, none))))
    ∙ was

pub returns-else-count_at-eq0-clause-state : goal.returns-else-count_at-eq0-clause-state
returns-else-count_at-eq0-clause-state c =
    let count_is : c.count_at.result ≡ page_count (state c.args.self.now).entries c.in-Some.gone =
    c.count_at.ensures ∙ ap (λ (xs : List ℕ). get_or xs c.in-Some.gone 0) c.deref.ensures.value ∙ count_of (the_view c.self.inside) c.self.invariant c.in-Some.gone
    ∙ ap (λ (m : Lists). page_count (state m).entries c.in-Some.gone) c.self.view_is in
    released_not (state c.args.self.now) c.in-Some.gone (λ e. c.if-count_at-eq0.false (count_is ∙ e))
    ∙ ap (released (state c.args.self.now)) (sym c.in-Some.is)

pub count_at-requires : goal.count_at-requires
count_at-requires c =
    let l : Lists = the_view c.self.inside in
    let role = page_in l c.args.self.now c.in-Some.gone c.self.view_is (is_page (state c.args.self.now) c.args.frame c.in-Some.gone c.in-Some.is c.requires) in
    let below = (has_place l c.self.invariant c.in-Some.gone (ap is_reserved role)).counts in
    let len = ap length c.deref.ensures.value in
    omega (arith, below, len)
