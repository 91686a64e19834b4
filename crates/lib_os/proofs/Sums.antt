-- How often things stand in places that are looked at one after another: each thing once at the most.
use Rattle.std.proofs.Common.{◌≡◌, ◌≢◌, ◌∙◌, ◌+◌, ◌≤◌, ◌==◌, ℕ, zero, suc, Bool, true, false, refl}
use Rattle.std.proofs.Common.{ap, arith}
use Rattle.std.specs.Prelude.{Option, Some, None, is_some}
use Rattle.std.proofs.lemmas.Bool.Decides.{nat_tests}
use Rattle.jos_base.specs.Counting.{total}
use Rattle.jos_base.specs.Environments.{bit_of}
use Rattle.jos_base.proofs.Sums.{total-none}

-- ---- one thing

-- whether a thing stands in a place, as a number
abbrev pub is_at : Option ℕ → ℕ → ℕ
is_at None f = 0
is_at (Some x) f = bit_of (x == f)

pub is_at-here : (o : Option ℕ) (f x : ℕ) → o ≡ Some x → x ≡ f → is_at o f ≡ 1
is_at-here o f x is same = let here : (x == f) ≡ true = grind (arith, nat_tests) in
    ap (λ (z : Option ℕ). is_at z f) is ∙ ap bit_of here

-- of the places from a first one on it stands in one at the most
stands_once : (n c x : ℕ) → total n (λ i. bit_of (x == c + i)) ≤ 1
unfolding total
stands_once zero c x = omega arith
stands_once (suc n) c x = by_test (stands_once n c x) (x == c + n) refl
  where
    by_test : total n (λ i. bit_of (x == c + i)) ≤ 1 → (t : Bool) → (x == c + n) ≡ t →
        total n (λ i. bit_of (x == c + i)) + bit_of t ≤ 1
    by_test rest false test = omega (arith, rest)
    by_test rest true test =
        let at : x ≡ c + n = grind (arith, nat_tests) in
        let none = total-none n (λ i. bit_of (x == c + i))
        (λ q lt. let off : (x == c + q) ≡ false = let ne : x ≢ c + q = omega arith in grind (arith, nat_tests) in ap bit_of off) in
        omega (arith, none)

pub at_most_once : (n c : ℕ) (o : Option ℕ) → total n (λ i. is_at o (c + i)) ≤ bit_of (is_some o)
at_most_once n c None = let none = total-none n (λ i. 0) (λ q lt. refl) in omega (arith, none)
at_most_once n c (Some x) = stands_once n c x

-- ---- tests
