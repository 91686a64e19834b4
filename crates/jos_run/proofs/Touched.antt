-- How many pages and regions the segments of an image touch.
use Rattle.std.proofs.Common.{◌≡◌, ◌≢◌, ◌∙◌, subst, ℕ, zero, suc, ◌+◌, ◌-◌, ◌*◌, ◌/◌, ◌<◌, ◌≤◌, ◌==◌, inl, inr, Bool, true}
use Rattle.std.proofs.Common.{false, List, refl, sym, ap, arith}
use Rattle.std.proofs.lemmas.Bool.Decides.{nat_tests}
use Rattle.jos_base.specs.Counting.{total}
use Rattle.jos_base.specs.Environments.{bit_of}
use Rattle.jos_elf.specs.declared.image.Segment.{Segment}
use Rattle.jos_elf.specs.Pages.{any_touches}
use Rattle.jos_kernel.specs.Loading.{IsFirstAt}
use Rattle.jos_run.specs.Boot.{touches_region}
use Rattle.std.proofs.lemmas.Bool.{cases_eq}
use Rattle.jos_base.proofs.Below.{some_below-at, some_below-none}

-- ---- counts

module _ (test : ℕ → Bool) where
  abbrev pub counted : ℕ → ℕ
  counted n = total n (λ k. bit_of (test k))

  pub counted-none : counted 0 ≡ 0
  unfolding total
  counted-none = refl

  pub counted-next : (n : ℕ) → counted (n + 1) ≡ counted n + bit_of (test n)
  unfolding total
  counted-next n = let next : n + 1 ≡ suc n = omega arith in ap counted next

  -- none is passed over
  over : (n m : ℕ) → ((k : ℕ) → n ≤ k → k < n + m → test k ≡ false) → counted (n + m) ≡ counted n
  unfolding total
  over n zero none = let same : n + 0 ≡ n = omega arith in ap counted same
  over n (suc m) none =
      let next : n + suc m ≡ suc (n + m) = omega arith in
      let last : bit_of (test (n + m)) ≡ 0 = ap bit_of (none (n + m) (omega arith) (omega arith)) in
      let before = over n m (λ k le lt. none k le (omega arith)) in
      ap counted next ∙ omega (arith, last, before)

  pub counted-over : (n m : ℕ) → n ≤ m → ((k : ℕ) → n ≤ k → k < m → test k ≡ false) → counted m ≡ counted n
  counted-over n m le none =
      let whole : m ≡ n + (m - n) = omega arith in
      ap counted whole ∙ over n (m - n) (λ k h lt. none k h (omega arith))

  pub counted-first : (from number : ℕ) → IsFirstAt test from number → counted (number + 1) ≡ counted from + 1
  counted-first from number first =
      let one : bit_of (test number) ≡ 1 = ap bit_of first.passes in
      let before = counted-over from number first.behind first.others in
      counted-next number ∙ omega (arith, one, before)

  pub counted-most : (n : ℕ) → counted n ≤ n
  unfolding total
  counted-most zero = omega arith
  counted-most (suc n) = let before = counted-most n in omega (arith, before, bit (test n))
    where
      bit : (b : Bool) → bit_of b ≤ 1
      bit true = omega arith
      bit false = omega arith

-- ---- the pages of a region

module _ (segments : List Segment) (region : ℕ) where
  pub region-touched : (number : ℕ) → IsFirstAt (λ n. any_touches n segments) (region * 1024) number →
      (number / 1024 == region) ≡ touches_region segments region
  region-touched number first = by_test (number / 1024 == region) refl
    where
      by_test : (t : Bool) → (number / 1024 == region) ≡ t → t ≡ touches_region segments region
      by_test true same =
          let at : number / 1024 ≡ region = grind (arith, nat_tests) in
          let whole : region * 1024 + (number - region * 1024) ≡ number = (let le = first.behind in omega arith) in
          sym (some_below-at (λ k. any_touches (region * 1024 + k) segments) 1024 (number - region * 1024) (omega arith)
          (ap (λ (n : ℕ). any_touches n segments) whole ∙ first.passes))
      by_test false other =
          let ne : number / 1024 ≡ region → ⊥ = grind (arith, nat_tests) in
          let past : region * 1024 + 1024 ≤ number = (let le = first.behind in omega (arith, ne)) in
          sym (some_below-none (λ k. any_touches (region * 1024 + k) segments) 1024
          (λ k lt. first.others (region * 1024 + k) (omega arith) (omega arith)))

  pub region-untouched : ((number : ℕ) → region * 1024 ≤ number → any_touches number segments ≡ false) →
      false ≡ touches_region segments region
  region-untouched none = sym (some_below-none (λ k. any_touches (region * 1024 + k) segments) 1024
      (λ k lt. none (region * 1024 + k) (omega arith)))

-- ---- counts side by side

pub counted-grows : (test : ℕ → Bool) (n m : ℕ) → n ≤ m → counted test n ≤ counted test m
counted-grows test n m le =
    let whole : m ≡ n + (m - n) = omega arith in
    subst (λ (k : ℕ). counted test n ≤ counted test k) (sym whole) (by_count (m - n))
  where
    by_count : (k : ℕ) → counted test n ≤ counted test (n + k)
    by_count zero = let same : n + 0 ≡ n = omega arith in subst (λ (q : ℕ). counted test n ≤ counted test q) (sym same) (omega arith)
    by_count (suc k) =
        let next : n + suc k ≡ n + k + 1 = omega arith in
        let before = by_count k in
        let one = counted-next test (n + k) in
        subst (λ (q : ℕ). counted test n ≤ counted test q) (sym next) (omega (arith, before, one))

pub counted-same : (f g : ℕ → Bool) (n : ℕ) → ((q : ℕ) → q < n → f q ≡ g q) → counted f n ≡ counted g n
unfolding total
counted-same f g zero same = refl
counted-same f g (suc n) same =
    let before = counted-same f g n (λ q lt. same q (omega arith)) in
    let last = ap bit_of (same n (omega arith)) in
    omega (arith, before, last)

-- one that passes no more
pub counted-drop : (f g : ℕ → Bool) (n k : ℕ) → k < n → ((q : ℕ) → q ≢ k → f q ≡ g q) →
    counted f n + bit_of (g k) ≡ counted g n + bit_of (f k)
unfolding total
counted-drop f g zero k lt same = absurd (omega arith)
counted-drop f g (suc n) k lt same = elim (cases_eq k n) [
  | inl e ↦
      let before = counted-same f g n (λ q low. same q (λ at. absurd (omega arith))) in
      let at_f = ap (λ (q : ℕ). bit_of (f q)) e in
      let at_g = ap (λ (q : ℕ). bit_of (g q)) e in
      omega (arith, before, at_f, at_g)
  | inr ne ↦
      let before = counted-drop f g n k (omega (arith, ne)) same in
      let last = ap bit_of (same n (λ at. ne (sym at))) in
      omega (arith, before, last)
]
