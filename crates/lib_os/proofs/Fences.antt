-- What the fence says in numbers: all that it lets through lies below the top of a program's stack, and so below UTOP.
use Rattle.std.proofs.Common.{◌≡◌, ◌==◌, ◌+◌, ◌%◌, ◌<◌, ◌≤◌, ℕ, true, false, arith}
use Rattle.std.proofs.lemmas.Bool.Decides.{nat_tests}
use Rattle.jos_base.specs.declared.numbers.TheConstants.{PGSIZE, UTOP, USTACKTOP}
use Rattle.jos_base.specs.Counting.{page_limit}
use Rattle.jos_base.specs.SystemCalls.{is_page_address}
use Rattle.jos_base.specs.Words.{page_number}
use Rattle.lib_os.specs.Fence.{in_fence, is_inside, is_buffer, is_page_inside}

pub fence_below : (va n : ℕ) → in_fence va n ≡ true → va + n ≤ USTACKTOP
unfolding in_fence
fence_below va n h = grind (arith, nat_tests)

-- ---- bytes

pub fence_each : (va n q : ℕ) → in_fence va n ≡ true → va ≤ q → q < va + n → is_inside q ≡ true
unfolding in_fence
fence_each va n q h from below = grind (arith, nat_tests)

pub buffer_each : (va n q : ℕ) → is_buffer va n ≡ true → va ≤ q → q < va + n → is_inside q ≡ true
buffer_each va n q h from below =
    let some : (n == 0) ≡ false = grind (arith, nat_tests) in
    let inside : in_fence va n ≡ true = rw some at h in
    fence_each va n q inside from below

-- a buffer of some bytes ends below the top of the stack
pub buffer_below : (va n : ℕ) → is_buffer va n ≡ true → 0 < n → va + n ≤ USTACKTOP
buffer_below va n h more =
    let some : (n == 0) ≡ false = grind (arith, nat_tests) in
    let inside : in_fence va n ≡ true = rw some at h in
    fence_below va n inside

-- ---- a byte

pub inside_below : (va : ℕ) → is_inside va ≡ true → va < USTACKTOP
inside_below va h = let below = fence_below va 1 h in omega (arith, below)

pub inside_number : (va : ℕ) → is_inside va ≡ true → page_number va < page_limit
unfolding page_limit
inside_number va h = let below = inside_below va h in omega (arith, below)

-- ---- a page

pub page_fence_below : (va : ℕ) → in_fence va PGSIZE ≡ true → va < UTOP
page_fence_below va h = let below = fence_below va PGSIZE h in omega (arith, below)

pub page_inside_fence : (va : ℕ) → is_page_inside va ≡ true → in_fence va PGSIZE ≡ true
page_inside_fence va h = grind (arith, nat_tests)

pub page_inside_aligned : (va : ℕ) → is_page_inside va ≡ true → va % PGSIZE ≡ 0
page_inside_aligned va h = grind (arith, nat_tests)

pub page_inside_below : (va : ℕ) → is_page_inside va ≡ true → va < UTOP
page_inside_below va h = page_fence_below va (page_inside_fence va h)

pub page_inside_address : (va : ℕ) → is_page_inside va ≡ true → is_page_address va ≡ true
page_inside_address va h =
    let aligned = page_inside_aligned va h in
    let below = page_inside_below va h in
    grind (arith, nat_tests)

pub page_inside_number : (va : ℕ) → is_page_inside va ≡ true → page_number va < page_limit
unfolding page_limit
page_inside_number va h = let below = page_inside_below va h in omega (arith, below)
