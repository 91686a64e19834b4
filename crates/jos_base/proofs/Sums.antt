-- Sums of the numbers at the places below a bound: compared, added, taken in the other order, and after one number changed.
use Rattle.std.proofs.Common.{◌≡◌, ◌≢◌, ◌+◌, ◌*◌, ◌<◌, ◌≤◌, inl, inr, ℕ, zero, suc, refl, sym, ap, arith}
use Rattle.std.proofs.lemmas.Bool.{cases_eq}
use Rattle.jos_base.specs.Counting.{total}

pub total-same : (n : ℕ) (g h : ℕ → ℕ) → ((q : ℕ) → q < n → g q ≡ h q) → total n g ≡ total n h
unfolding total
total-same zero g h same = refl
total-same (suc n) g h same =
    let rest = total-same n g h (λ q lt. same q (omega arith)) in
    let last = same n (omega arith) in
    omega arith

-- what a sum is after one of its numbers changed
pub total-change : (n k : ℕ) (g h : ℕ → ℕ) → k < n → ((q : ℕ) → q ≢ k → g q ≡ h q) → total n g + h k ≡ total n h + g k
unfolding total
total-change zero k g h lt same = absurd (omega arith)
total-change (suc n) k g h lt same = elim (cases_eq k n) [
  | inl e ↦
      let rest = total-same n g h (λ q lt. same q (omega arith)) in
      let at_g = ap g e in
      let at_h = ap h e in
      omega arith
  | inr ne ↦
      let rest = total-change n k g h (omega arith) same in
      let last = same n (omega arith) in
      omega arith
]

-- no number is over a bound
pub total-le : (n c : ℕ) (g : ℕ → ℕ) → ((q : ℕ) → g q ≤ c) → total n g ≤ n * c
unfolding total
total-le zero c g all = omega arith
total-le (suc n) c g all = let rest = total-le n c g all in let here = all n in let e : suc n * c ≡ n * c + c = grind arith in omega arith

pub total-mono : (n : ℕ) (g h : ℕ → ℕ) → ((q : ℕ) → q < n → g q ≤ h q) → total n g ≤ total n h
unfolding total
total-mono zero g h all = omega arith
total-mono (suc n) g h all =
    let rest = total-mono n g h (λ q lt. all q (omega arith)) in
    let last = all n (omega arith) in
    omega (arith, rest, last)

-- one of the numbers is less by so much
pub total-less : (n k c : ℕ) (g h : ℕ → ℕ) → k < n → ((q : ℕ) → q < n → g q ≤ h q) → c + g k ≤ h k → c + total n g ≤ total n h
unfolding total
total-less zero k c g h lt all less = absurd (omega arith)
total-less (suc n) k c g h lt all less = elim (cases_eq k n) [
  | inl e ↦
      let rest = total-mono n g h (λ q lt. all q (omega arith)) in
      let at_g = ap g e in
      let at_h = ap h e in
      omega (arith, rest, at_g, at_h, less)
  | inr ne ↦
      let rest = total-less n k c g h (omega arith) (λ q lt. all q (omega arith)) less in
      let last = all n (omega arith) in
      omega (arith, rest, last)
]

pub total-sum : (n : ℕ) (g h : ℕ → ℕ) → total n (λ q. g q + h q) ≡ total n g + total n h
unfolding total
total-sum zero g h = refl
total-sum (suc n) g h = let rest = total-sum n g h in omega (arith, rest)

pub total-none : (n : ℕ) (g : ℕ → ℕ) → ((q : ℕ) → q < n → g q ≡ 0) → total n g ≡ 0
unfolding total
total-none zero g none = refl
total-none (suc n) g none =
    let rest = total-none n g (λ q lt. none q (omega arith)) in
    let last = none n (omega arith) in
    omega (arith, rest, last)

pub total-ones : (n : ℕ) → total n (λ q. 1) ≡ n
unfolding total
total-ones zero = refl
total-ones (suc n) = let rest = total-ones n in omega (arith, rest)

-- a number is no more than the sum that it is of
pub total-one : (n k : ℕ) (g : ℕ → ℕ) → k < n → g k ≤ total n g
unfolding total
total-one zero k g lt = absurd (omega arith)
total-one (suc n) k g lt = elim (cases_eq k n) [
  | inl e ↦ let at = ap g e in omega (arith, at)
  | inr ne ↦ let rest = total-one n k g (omega arith) in omega (arith, rest)
]

pub total-swap : (n m : ℕ) (g : ℕ → ℕ → ℕ) → total n (λ i. total m (λ j. g i j)) ≡ total m (λ j. total n (λ i. g i j))
unfolding total
total-swap zero m g = sym (total-none m (λ j. 0) (λ q lt. refl))
total-swap (suc n) m g =
    let rest = total-swap n m g in
    let sums = total-sum m (λ j. total n (λ i. g i j)) (λ j. g n j) in
    omega (arith, rest, sums)
