-- A map of two indices whose values may be missing, at the place that changed and at the others.
use Rattle.std.proofs.Common.{◌≡◌, ◌≢◌, ◌∙◌, ◌==◌, ◌⊎◌, inl, inr, ℕ, Bool, true, false, refl, sym, subst, arith}
use Rattle.std.specs.Prelude.{Option, Some, None, is_some, ◌&&◌, ◌||◌}
use Rattle.std.proofs.lemmas.Option.{same_Some}
use Rattle.std.proofs.lemmas.Bool.Decides.{nat_tests}
use Rattle.jos_base.specs.SpacesState.{put}
use Rattle.jos_base.proofs.Puts.{Elsewhere, place_cases, put-at, put-other, put-holds}

-- what stands somewhere after a change, is what changed or stood there before
pub put-found : {V : Type 0} (f : ℕ → ℕ → Option V) (a b : ℕ) (v : Option V) (q r : ℕ) (x : V) → put f a b v q r ≡ Some x →
    ((q ≡ a) × (r ≡ b) × (v ≡ Some x)) ⊎ ((e : Elsewhere q r a b) × (f q r ≡ Some x))
put-found {V = V} f a b v q r x is = by_case (place_cases q r a b)
  where
    by_case : ((q ≡ a) × (r ≡ b)) ⊎ Elsewhere q r a b → ((q ≡ a) × (r ≡ b) × (v ≡ Some x)) ⊎ ((e : Elsewhere q r a b) × (f q r ≡ Some x))
    by_case (inl same) =
        let here : put f a b v a b ≡ Some x = subst (λ (m : ℕ). put f a b v m b ≡ Some x) same.0
        (subst (λ (n : ℕ). put f a b v q n ≡ Some x) same.1 is) in
        inl (same.0, same.1, sym (put-at f a b v) ∙ here)
    by_case (inr ne) = inr (ne, sym (put-other f a b v q r ne) ∙ is)

module _ {V : Type 0} (f : ℕ → ℕ → Option V) (a b : ℕ) where
  -- what stands somewhere was put there, or stood there
  pub put-some : (v x : V) (q r : ℕ) → put f a b (Some v) q r ≡ Some x → ((q ≡ a) × (r ≡ b) × (x ≡ v)) ⊎ (f q r ≡ Some x)
  put-some v x q r is =
      put-holds f a b (Some v) (λ q r o. o ≡ Some x → ((q ≡ a) × (r ≡ b) × (x ≡ v)) ⊎ (f q r ≡ Some x))
      (λ here. inl (refl, refl, sym (same_Some v x here))) (λ q r ne there. inr there) q r is

  pub put-none : (x : V) (q r : ℕ) → put f a b None q r ≡ Some x → f q r ≡ Some x
  put-none x q r is =
      put-holds f a b None (λ q r o. o ≡ Some x → f q r ≡ Some x) (λ here. absurd cc) (λ q r ne there. there) q r is

  -- something stands at the place, and elsewhere where it stood
  pub put-stands : (v : V) (q r : ℕ) → is_some (put f a b (Some v) q r) ≡ (((q == a) && (r == b)) || is_some (f q r))
  put-stands v q r =
      put-holds f a b (Some v) (λ q r o. is_some o ≡ (((q == a) && (r == b)) || is_some (f q r))) here off q r
    where
      here : true ≡ (((a == a) && (b == b)) || is_some (f a b))
      here =
          let first : (a == a) ≡ true = grind (arith, nat_tests) in
          let second : (b == b) ≡ true = grind (arith, nat_tests) in
          rw (first, second) refl

      off : (q r : ℕ) → (q ≡ a → r ≢ b) → is_some (f q r) ≡ (((q == a) && (r == b)) || is_some (f q r))
      off q r ne = by_test (q == a) refl
        where
          by_test : (t : Bool) → (q == a) ≡ t → is_some (f q r) ≡ ((t && (r == b)) || is_some (f q r))
          by_test false test = refl
          by_test true test =
              let at : q ≡ a = grind (arith, nat_tests) in
              let r_ne = ne at in
              let other : (r == b) ≡ false = grind (arith, nat_tests) in
              rw other refl

  -- where something stands already, it stands
  pub put-stood : is_some (f a b) ≡ true → (q r : ℕ) → is_some (f q r) ≡ (((q == a) && (r == b)) || is_some (f q r))
  put-stood stood q r = by_test (q == a) (r == b) refl refl
    where
      by_test : (s t : Bool) → (q == a) ≡ s → (r == b) ≡ t → is_some (f q r) ≡ ((s && t) || is_some (f q r))
      by_test false t q_test r_test = refl
      by_test true false q_test r_test = refl
      by_test true true q_test r_test =
          let q_is : q ≡ a = grind (arith, nat_tests) in
          let r_is : r ≡ b = grind (arith, nat_tests) in
          (λ i. is_some (f (q_is i) (r_is i))) ∙ stood
