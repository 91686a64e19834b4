-- The numbers that fall, in numbers alone: rounds have r steps, and pages have p, over n blocks.
use Rattle.std.proofs.Common.{◌≡◌, ◌<◌, ◌≤◌, ◌+◌, ◌*◌, ◌-◌, ℕ, arith}
use Rattle.std.proofs.Math.Nat.{mul-le-mul_right}

-- a page that was used is passed, and counts as used no more
pub round_less : (n c u p r : ℕ) → r ≡ 2 * n + 6 → c * p + u * r + 10 + 2 * n + 3 < c * p + (u + 1) * r + 10 + 1
round_less n c u p r is = let more : (u + 1) * r ≡ u * r + r = grind arith in omega (arith, more, is)

-- no page was to be had, and the hand begins
pub round_begun : (n c u p r : ℕ) → r ≡ 2 * n + 6 → u ≤ c → c * p + u * r + 10 + 2 * n + 3 < c * p + c * r + 10 + r
round_begun n c u p r is most = let product = mul-le-mul_right r most in omega (arith, product, is)

-- a page was given up
pub page_less : (n c u p r : ℕ) → p ≡ (n + 1) * r + 10 → c < n → c * p + c * r + 10 + r < (c + 1) * p + u * r + 10 + 2
page_less n c u p r is below =
    let most : c ≤ n = omega (arith, below) in
    let product = mul-le-mul_right r most in
    let more : (c + 1) * p ≡ c * p + p = grind arith in
    let rounds : (n + 1) * r ≡ n * r + r = grind arith in
    omega (arith, product, more, rounds, is)

-- the hand passes blocks that have no page
pub passed_less : (g left blocks k : ℕ) → blocks < left → 1 ≤ blocks → k ≤ 3 → g + 2 * (left - blocks) + k < g + 2 * left + 2
passed_less g left blocks k lt some few = omega (arith, lt, some, few)

-- ---- by less than that

pub less : (n a b : ℕ) → a < b → n + a < n + b
less n a b lt = omega (arith, lt)

pub above : (n k : ℕ) → 0 < k → n < n + k
above n k some = omega (arith, some)

-- numbers below ten are below any that has ten in it
pub small : (n k m : ℕ) → k < 10 → k < n + 10 + m
small n k m few = omega (arith, few)

pub small_two : (n k m l : ℕ) → k < 10 → k < n + 10 + m + l
small_two n k m l few = omega (arith, few)

pub by_left : (n k left : ℕ) → 0 < left → k < 4 → n + k < n + 2 * left + 2
by_left n k left some few = omega (arith, some, few)

-- a block behind b is next, of n
pub next_less : (n b m k : ℕ) → b < m → m < n → k < 5 → 5 * (n - m) + k < 5 * (n - b) + 1
next_less n b m k lt below few = omega (arith, lt, below, few)
