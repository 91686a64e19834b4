-- A map of two indices at the place that changed, and at the others.
use Rattle.std.proofs.Common.{◌≡◌, ◌≢◌, ◌∙◌, ◌==◌, ◌⊎◌, inl, inr, ℕ, Bool, true, false, refl, sym, ap, subst, if◌then◌else◌}
use Rattle.std.proofs.lemmas.Bool.{cases_eq}
use Rattle.jos_base.specs.Words.{upd}
use Rattle.jos_base.specs.SpacesState.{put}
use Rattle.jos_base.proofs.Maps.{upd-at, upd-other, upd-alike, upd-seen}

-- the place is another one
abbrev pub Elsewhere : ℕ → ℕ → ℕ → ℕ → Type 0
Elsewhere q r a b = q ≡ a → r ≢ b

-- two places are the same, or not
pub place_cases : (q r a b : ℕ) → ((q ≡ a) × (r ≡ b)) ⊎ Elsewhere q r a b
place_cases q r a b = elim (cases_eq q a) [
  | inr q_ne ↦ inr (λ q_is. absurd (q_ne q_is))
  | inl q_is ↦ elim (cases_eq r b) [
    | inr r_ne ↦ inr (λ e. r_ne)
    | inl r_is ↦ inl (q_is, r_is)
  ]
]

module _ {V : Type 0} (f : ℕ → ℕ → V) (a b : ℕ) (v : V) where
  pub put-at : put f a b v a b ≡ v
  put-at = ap (λ (g : ℕ → V). g b) (upd-at f a (upd (f a) b v)) ∙ upd-at (f a) b v

  pub put-other : (q r : ℕ) → Elsewhere q r a b → put f a b v q r ≡ f q r
  put-other q r ne = elim (cases_eq q a) [
    | inl e ↦ ap (λ z. put f a b v z r) e ∙ ap (λ (g : ℕ → V). g r) (upd-at f a (upd (f a) b v)) ∙ upd-other (f a) b v r (ne e) ∙ ap (λ z. f z r) (sym e)
    | inr q_ne ↦ ap (λ (g : ℕ → V). g r) (upd-other f a (upd (f a) b v) q q_ne)
  ]

  -- what holds of the new value at its place, and of all others at theirs, holds everywhere
  pub put-holds : (P : ℕ → ℕ → V → Type 0) → P a b v → ((q r : ℕ) → Elsewhere q r a b → P q r (f q r)) → (q r : ℕ) → P q r (put f a b v q r)
  put-holds P here off q r = elim (place_cases q r a b) [
    | inr ne ↦ subst (P q r) (sym (put-other q r ne)) (off q r ne)
    | inl is ↦
        subst (λ x. P x r (put f a b v x r)) (sym is.0)
        (subst (λ y. P a y (put f a b v a y)) (sym is.1) (subst (P a b) (sym put-at) here))
  ]

  -- what the old value and the new one have alike, the map has as before everywhere
  pub put-alike : {W : Type 0} (seen : V → W) → seen v ≡ seen (f a b) → (q r : ℕ) → seen (put f a b v q r) ≡ seen (f q r)
  put-alike {W = W} seen e q r =
      λ i. upd-alike {V = ℕ → V} {W = ℕ → W} (λ g y. seen (g y)) f a (upd (f a) b v) (λ j y. upd-alike seen (f a) b v e y j) q i r

  -- a map that has the value already
  pub put-stays : v ≡ f a b → (q r : ℕ) → put f a b v q r ≡ f q r
  put-stays e q r = put-alike {W = V} (λ x. x) e q r

  -- what is seen of the new map is what is seen of the old one, with what is seen of the new value
  pub put-seen : {W : Type 0} (seen : V → W) (q r : ℕ) → seen (put f a b v q r) ≡ put (λ x y. seen (f x y)) a b (seen v) q r
  unfolding upd
  put-seen {W = W} seen q r = by_test (q == a)
    where
      by_test : (t : Bool) →
          seen ((if t then upd (f a) b v else f q) r) ≡ (if t then upd (λ y. seen (f a y)) b (seen v) else λ y. seen (f q y)) r
      by_test true = upd-seen seen (f a) b v r
      by_test false = refl
