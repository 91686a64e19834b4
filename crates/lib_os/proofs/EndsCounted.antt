-- How often frames are named in a state, where each entry of one has an entry of another so many pages higher: the other is named as often at least.
use Rattle.std.proofs.Common.{◌≡◌, ◌+◌, ◌-◌, ◌<◌, ◌≤◌, ℕ, zero, suc, ap, arith}
use Rattle.jos_base.specs.Counting.{Entries, frame_limit, named, page_count, page_limit, total}
use Rattle.jos_base.proofs.Sums.{total-less, total-mono, total-none}

-- a sum is that of its first numbers and that of the others
total-split : (m k : ℕ) (g : ℕ → ℕ) → total (k + m) g ≡ total k g + total m (λ q. g (k + q))
unfolding total
total-split zero k g = let none : k + 0 ≡ k = omega arith in let it : total (k + 0) g ≡ total k g = ap (λ (n : ℕ). total n g) none in omega (arith, it)
total-split (suc m) k g =
    let rest = total-split m k g in
    let last : k + suc m ≡ suc (k + m) = omega arith in
    let it : total (k + suc m) g ≡ total (k + m) g + g (k + m) = ap (λ (n : ℕ). total n g) last in
    omega (arith, it, rest)

-- Each number is no more than another so many places higher, and there are none at the last places.
total-raised : (n k : ℕ) (g h : ℕ → ℕ) → k ≤ n → ((q : ℕ) → n ≤ q + k → g q ≡ 0) → ((q : ℕ) → g q ≤ h (k + q)) → total n g ≤ total n h
total-raised n k g h small none each =
    let m : ℕ = n - k in
    let all : k + m ≡ n = omega (arith, small) in
    let back : m + k ≡ n = omega (arith, small) in
    let first = total-split k m g in
    let zeros = total-none k (λ q. g (m + q)) (λ q lt. none (m + q) (omega (arith, back))) in
    let mine : total n g ≡ total m g =
    (let it : total (m + k) g ≡ total n g = ap (λ (i : ℕ). total i g) back in omega (arith, it, first, zeros)) in
    let others = total-split m k h in
    let theirs : total n h ≡ total k h + total m (λ q. h (k + q)) =
    (let it : total (k + m) h ≡ total n h = ap (λ (i : ℕ). total i h) all in omega (arith, it, others)) in
    let less = total-mono m g (λ q. h (k + q)) (λ q lt. each q) in
    omega (arith, mine, theirs, less)

-- and at one place it is less
total-raised_more : (n k i : ℕ) (g h : ℕ → ℕ) → k ≤ n → i + k < n → ((q : ℕ) → n ≤ q + k → g q ≡ 0) → ((q : ℕ) → g q ≤ h (k + q)) →
    1 + g i ≤ h (k + i) → 1 + total n g ≤ total n h
total-raised_more n k i g h small within none each less =
    let m : ℕ = n - k in
    let all : k + m ≡ n = omega (arith, small) in
    let back : m + k ≡ n = omega (arith, small) in
    let first = total-split k m g in
    let zeros = total-none k (λ q. g (m + q)) (λ q lt. none (m + q) (omega (arith, back))) in
    let mine : total n g ≡ total m g =
    (let it : total (m + k) g ≡ total n g = ap (λ (i : ℕ). total i g) back in omega (arith, it, first, zeros)) in
    let others = total-split m k h in
    let theirs : total n h ≡ total k h + total m (λ q. h (k + q)) =
    (let it : total (k + m) h ≡ total n h = ap (λ (i : ℕ). total i h) all in omega (arith, it, others)) in
    let more = total-less m i 1 g (λ q. h (k + q)) (omega (arith, within, back)) (λ q lt. each q) less in
    omega (arith, mine, theirs, more)

-- Each number is no more than another so many places lower, and there are none at the first places.
total-lowered : (n k : ℕ) (g h : ℕ → ℕ) → k ≤ n → ((q : ℕ) → q < k → h q ≡ 0) → ((q : ℕ) → h (k + q) ≤ g q) → total n h ≤ total n g
total-lowered n k g h small none each =
    let m : ℕ = n - k in
    let all : k + m ≡ n = omega (arith, small) in
    let back : m + k ≡ n = omega (arith, small) in
    let first = total-split k m g in
    let mine : total m g ≤ total n g = (let it : total (m + k) g ≡ total n g = ap (λ (i : ℕ). total i g) back in omega (arith, it, first)) in
    let others = total-split m k h in
    let zeros = total-none k h none in
    let theirs : total n h ≡ total m (λ q. h (k + q)) =
    (let it : total (k + m) h ≡ total n h = ap (λ (i : ℕ). total i h) all in omega (arith, it, others, zeros)) in
    let less = total-mono m (λ q. h (k + q)) g (λ q lt. each q) in
    omega (arith, mine, theirs, less)

module _ (entries : Entries) (f h k : ℕ) (small : k ≤ page_limit) where
  abbrev here : ℕ → ℕ → ℕ
  here d p = named f (entries d p)

  abbrev there : ℕ → ℕ → ℕ
  there d p = named h (entries d p)

  -- Wherever the one is named, and it is nowhere among the last pages, the other is so many pages higher.
  pub page_count-raised : ((d p : ℕ) → page_limit ≤ p + k → here d p ≡ 0) → ((d p : ℕ) → here d p ≤ there d (k + p)) →
      page_count entries f ≤ page_count entries h
  unfolding page_count
  page_count-raised none each =
      total-mono frame_limit (λ d. total page_limit (here d)) (λ d. total page_limit (there d))
      (λ d lt. total-raised page_limit k (here d) (there d) small (none d) (each d))

  -- And the other is at a place where the one is not.
  pub page_count-raised_more : ((d p : ℕ) → page_limit ≤ p + k → here d p ≡ 0) → ((d p : ℕ) → here d p ≤ there d (k + p)) →
      (d p : ℕ) → d < frame_limit → p + k < page_limit → 1 + here d p ≤ there d (k + p) → 1 + page_count entries f ≤ page_count entries h
  unfolding page_count
  page_count-raised_more none each d p below within less =
      total-less frame_limit d 1 (λ e. total page_limit (here e)) (λ e. total page_limit (there e)) below
      (λ e lt. total-raised page_limit k (here e) (there e) small (none e) (each e))
      (total-raised_more page_limit k p (here d) (there d) small within (none d) (each d) less)

  -- Wherever the other is named, and it is nowhere among the first pages, the one is so many pages lower.
  pub page_count-lowered : ((d p : ℕ) → p < k → there d p ≡ 0) → ((d p : ℕ) → there d (k + p) ≤ here d p) →
      page_count entries h ≤ page_count entries f
  unfolding page_count
  page_count-lowered none each =
      total-mono frame_limit (λ d. total page_limit (there d)) (λ d. total page_limit (here d))
      (λ d lt. total-lowered page_limit k (here d) (there d) small (none d) (each d))
