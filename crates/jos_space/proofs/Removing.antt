-- The pages of a space are removed one after the other.
use Rattle.std.proofs.Common.{◌≡◌, ◌∙◌, ◌+◌, ◌*◌, ◌/◌, ◌≤◌, ℕ, zero, suc}
use Rattle.std.proofs.Common.{None, refl, sym, ap, arith}
use Rattle.jos_base.specs.SpacesState.{SpacesState, unmapped, without_entry, frame_of, pages_removed}
use Rattle.jos_space.specs.Frames.{Lists, state}
use Rattle.jos_space.proofs.Marking.{entries_none}
use Rattle.jos_space.proofs.Unmapping.{unmapped_nothing}
use Rattle.jos_base.proofs.Released.{released_regions}

pub unmapped_regions : (s : SpacesState) (d p : ℕ) → (unmapped s d p).regions ≡ s.regions
unfolding unmapped
unmapped_regions s d p = released_regions (without_entry s d p) (frame_of (s.entries d p))

pub removed_one : (s t : SpacesState) (d n : ℕ) → t ≡ pages_removed s d n → unmapped t d n ≡ pages_removed s d (suc n)
unfolding pages_removed
removed_one s t d n e = ap (λ z. unmapped z d n) e

-- a region without a table has no pages
pub removed_none : (l : Lists) (s : SpacesState) (d r k : ℕ) → (state l).regions d r ≡ None → k ≤ 1024 → state l ≡ pages_removed s d (r * 1024) → state l ≡ pages_removed s d (r * 1024 + k)
removed_none l s d r zero none all e = e ∙ ap (pages_removed s d) (omega arith)
removed_none l s d r (suc k) none all e =
    let before = removed_none l s d r k none (omega arith) e in
    let place : (r * 1024 + k) / 1024 ≡ r = omega arith in
    let absent = entries_none l d (r * 1024 + k) (ap (λ z. (state l).regions d z) place ∙ none) in
    sym (unmapped_nothing (state l) d (r * 1024 + k) absent) ∙ removed_one s (state l) d (r * 1024 + k) before ∙ ap (pages_removed s d) (omega arith)

pub removed_zero : (s : SpacesState) (d : ℕ) → s ≡ pages_removed s d 0
unfolding pages_removed
removed_zero s d = refl
