-- The bits of a word of the bitmap, one by one.
use Rattle.std.proofs.Common.{◌≡◌, ◌∙◌, ◌<◌, ◌≤◌, ◌+◌, ◌-◌, ◌*◌, ◌&&◌, ℕ, suc, Bool, true, false, Option, Some, None}
use Rattle.std.proofs.Common.{refl, sym, ap, arith, add-one, le-leb}
use Rattle.std.proofs.lemmas.Bool.{lt-leb}
use Rattle.std.specs.Prelude.{find, nat_le}
use Rattle.std.specs.List.{range_with_len}
use Rattle.jos_base.specs.Counting.{total}
use Rattle.jos_base.specs.Environments.{bit_of}
use Rattle.fs_layout.specs.DiskImage.{first_data_block}
use Rattle.fs_changes.specs.ChangePlans.{free_in_word, is_free_bit, lowest_in_word}

-- the free blocks that the bits below k tell of
unfoldable pub free_below : ℕ → ℕ → ℕ → ℕ → ℕ
free_below count word bits k = total k (λ i. bit_of (is_free_bit count word bits i))

-- the lowest bit from k on that tells of a free data block
unfoldable pub lowest_from : ℕ → ℕ → ℕ → ℕ → Option ℕ
lowest_from count word bits k =
    find (λ i. is_free_bit count word bits i && nat_le (first_data_block count) (32 * word + i)) (range_with_len k (32 - k))

total_more : (g : ℕ → ℕ) (k : ℕ) → total (k + 1) g ≡ total k g + g k
unfolding total
total_more g k = ap (λ (n : ℕ). total n g) (add-one k)

pub free_none : (count word bits : ℕ) → 0 ≡ free_below count word bits 0
unfolding free_below total
free_none count word bits = refl

pub free_all : (count word bits : ℕ) → free_below count word bits 32 ≡ free_in_word count word bits
unfolding free_below free_in_word
free_all count word bits = refl

pub free_more : (count word bits k : ℕ) → is_free_bit count word bits k ≡ true → free_below count word bits k + 1 ≡ free_below count word bits (k + 1)
unfolding free_below
free_more count word bits k is =
    ap (λ (b : Bool). free_below count word bits k + bit_of b) (sym is) ∙ sym (total_more (λ i. bit_of (is_free_bit count word bits i)) k)

pub free_same : (count word bits k : ℕ) → is_free_bit count word bits k ≡ false → free_below count word bits k ≡ free_below count word bits (k + 1)
unfolding free_below
free_same count word bits k is =
    let none : free_below count word bits k ≡ free_below count word bits k + 0 = omega arith in
    none ∙ ap (λ (b : Bool). free_below count word bits k + bit_of b) (sym is) ∙ sym (total_more (λ i. bit_of (is_free_bit count word bits i)) k)

-- ---- the lowest

find_here : (p : ℕ → Bool) (k n : ℕ) → p k ≡ true → find p (range_with_len k (suc n)) ≡ Some k
find_here p k n is = rw is refl

find_on : (p : ℕ → Bool) (k n : ℕ) → p k ≡ false → find p (range_with_len k (suc n)) ≡ find p (range_with_len (k + 1) n)
find_on p k n is = rw is refl

pub lowest_all : (count word bits : ℕ) → lowest_in_word count word bits ≡ lowest_from count word bits 0
unfolding lowest_in_word lowest_from
lowest_all count word bits = refl

pub lowest_none : (count word bits : ℕ) → lowest_from count word bits 32 ≡ None
unfolding lowest_from
lowest_none count word bits = refl

more_left : (k : ℕ) → k < 32 → 32 - k ≡ suc (32 - (k + 1))
more_left k below = omega (arith, below)

pub lowest_here : (count word bits k : ℕ) → k < 32 → is_free_bit count word bits k ≡ true → first_data_block count ≤ 32 * word + k →
    lowest_from count word bits k ≡ Some k
unfolding lowest_from
lowest_here count word bits k below is first =
    let p : ℕ → Bool = λ i. is_free_bit count word bits i && nat_le (first_data_block count) (32 * word + i) in
    let both : p k ≡ true = ap (λ (b : Bool). b && nat_le (first_data_block count) (32 * word + k)) is ∙ le-leb (first_data_block count) (32 * word + k) first in
    ap (λ (n : ℕ). find p (range_with_len k n)) (more_left k below) ∙ find_here p k (32 - (k + 1)) both

lowest_on : (count word bits k : ℕ) → k < 32 → (is_free_bit count word bits k && nat_le (first_data_block count) (32 * word + k)) ≡ false →
    lowest_from count word bits k ≡ lowest_from count word bits (k + 1)
unfolding lowest_from
lowest_on count word bits k below is =
    let p : ℕ → Bool = λ i. is_free_bit count word bits i && nat_le (first_data_block count) (32 * word + i) in
    ap (λ (n : ℕ). find p (range_with_len k n)) (more_left k below) ∙ find_on p k (32 - (k + 1)) is

pub lowest_not_free : (count word bits k : ℕ) → k < 32 → is_free_bit count word bits k ≡ false →
    lowest_from count word bits k ≡ lowest_from count word bits (k + 1)
lowest_not_free count word bits k below is =
    lowest_on count word bits k below (ap (λ (b : Bool). b && nat_le (first_data_block count) (32 * word + k)) is)

and_false : (b : Bool) → (b && false) ≡ false
and_false true = refl
and_false false = refl

pub lowest_not_first : (count word bits k : ℕ) → k < 32 → 32 * word + k < first_data_block count →
    lowest_from count word bits k ≡ lowest_from count word bits (k + 1)
lowest_not_first count word bits k below past =
    lowest_on count word bits k below
    (ap (λ (b : Bool). is_free_bit count word bits k && b) (lt-leb (first_data_block count) (32 * word + k) past) ∙ and_false (is_free_bit count word bits k))
