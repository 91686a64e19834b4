-- How often the tests of one record name each block, and what they ask of it.
use Rattle.std.proofs.Common.{◌≡◌, ◌∙◌, ◌+◌, ◌-◌, ◌%◌, ◌<◌, ◌≤◌, ◌==◌, ◌&&◌, ℕ, zero, suc, Bool, true, false, not}
use Rattle.std.proofs.Common.{min, refl, sym, ap, arith, if◌then◌else◌}
use Rattle.std.specs.Prelude.{◌||◌, nat_lt, nat_le}
use Rattle.std.proofs.lemmas.Bool.{not-true, and_parts}
use Rattle.std.proofs.lemmas.Bool.Decides.{nat_tests}
use Rattle.jos_base.specs.Counting.{total}
use Rattle.jos_base.specs.Environments.{bit_of}
use Rattle.jos_base.proofs.Sums.{total-same}
use Rattle.fs_layout.specs.declared.numbers.TheConstants.{MAXFILESIZE, NDIRECT}
use Rattle.fs_layout.specs.FileTree.{needs_indirect}
use Rattle.fs_layout.specs.DiskImage.{DirSize, TooLong, Hole, Stray, demand, in_turn}
use Rattle.fs_layout.specs.DiskImage.{block_count, is_data_block, size_of, kind_at, direct_of, indirect_of, number_in_indirect}
use Rattle.fs_layout.specs.DiskImage.{block_number_at, blocks_needed, has_indirect, is_directory_at, is_good_size}
use Rattle.fs_layout.specs.DiskImage.{number_test, indirect_test, numbers_tests, has_stray, has_stray_in_indirect, stray_tests}
use Rattle.fs_layout.specs.DiskImage.{record_tests}
use Rattle.fs_acts.specs.BlockLaws.{own_times, IsGoodRecord}
use Rattle.fs_acts.proofs.Counts.{Times, Counts, counts-none, counts-demand, counts-more, counts-as, counts-where, counts-each}
use Rattle.fs_acts.proofs.Counts.{counts-block}

-- ---- numbers

none-before : (n : ℕ) → 0 + n ≡ n
none-before n = omega arith

none-behind : (n : ℕ) → n + 0 ≡ n
none-behind n = omega arith

-- block 0 is none that a record may name
data-some : (blocks block : ℕ) → is_data_block blocks block ≡ true → not (block == 0) ≡ true
data-some blocks block is = grind (arith, nat_tests, and_parts)

pub counts-number : (byte : ℕ → ℕ) (place number : ℕ) →
    Counts byte (number_test byte place number) (λ q. bit_of (number == q)) (is_data_block (block_count byte) number ≡ true)
unfolding number_test
counts-number byte place number =
    counts-as (λ q. bit_of (number == q)) (is_data_block (block_count byte) number ≡ true)
    (counts-more _ _ (counts-demand byte (not (number == 0)) (Hole place))
    (counts-more _ _ (counts-block byte number) (counts-none byte)))
    (λ all. all.1.0) (λ good. (data-some (block_count byte) number good, (good, tt)))
    (λ _ q. none-before (bit_of (number == q) + 0) ∙ none-behind (bit_of (number == q)))

-- ---- the blocks of a record

-- how often its own numbers, those in the indirect block, and that of the indirect block name a block
abbrev own_numbers : (ℕ → ℕ) → ℕ → Times
own_numbers byte place q = total (min (blocks_needed byte place) NDIRECT) (λ i. bit_of (direct_of byte place i == q))

abbrev far_numbers : (ℕ → ℕ) → ℕ → Times
far_numbers byte place q = total (blocks_needed byte place - NDIRECT) (λ i. bit_of (number_in_indirect byte place i == q))

abbrev is_tested : (ℕ → ℕ) → ℕ → Bool
is_tested byte place = needs_indirect (size_of byte place) || has_indirect byte place

abbrev indirect_tested : (ℕ → ℕ) → ℕ → Times
indirect_tested byte place q = if is_tested byte place then bit_of (indirect_of byte place == q) else 0

-- what their tests ask of the numbers
pub record GoodNumbers (byte : ℕ → ℕ) (place : ℕ) : Type 0 where
  pub within : (i : ℕ) → i < blocks_needed byte place → is_data_block (block_count byte) (block_number_at byte place i) ≡ true
  pub indirect : has_indirect byte place ≡ true → is_data_block (block_count byte) (indirect_of byte place) ≡ true
  pub needed : NDIRECT < blocks_needed byte place → has_indirect byte place ≡ true

few : (n : ℕ) → n < 10 → (min (suc n) 10 ≡ suc (min n 10)) × ((suc n - 10 ≡ 0) × ((n - 10 ≡ 0) × (min n 10 ≡ n)))
few n h = (omega arith, (omega arith, (omega arith, omega arith)))

many : (n : ℕ) → 10 ≤ n → (min (suc n) 10 ≡ min n 10) × ((suc n - 10 ≡ suc (n - 10)) × (10 + (n - 10) ≡ n))
many n h = (omega arith, (omega arith, omega arith))

-- one number more
split-suc : (n : ℕ) (f : ℕ → ℕ) (own : Bool) → nat_lt n 10 ≡ own →
    total (min n 10) f + total (n - 10) (λ i. f (10 + i)) ≡ total n f →
    total (min (suc n) 10) f + total (suc n - 10) (λ i. f (10 + i)) ≡ total n f + f n
unfolding total
split-suc n f true is rest =
    let h : n < 10 = grind (arith, nat_tests) in
    let e = few n h in
    let one = ap (λ m. total m f) e.0 in
    let two = ap (λ m. total m (λ i. f (10 + i))) e.1.0 in
    let three = ap (λ m. total m (λ i. f (10 + i))) e.1.1.0 in
    let last = ap f e.1.1.1 in
    omega (arith, rest, one, two, three, last)
split-suc n f false is rest =
    let h : 10 ≤ n = grind (arith, nat_tests) in
    let e = many n h in
    let one = ap (λ m. total m f) e.0 in
    let two = ap (λ m. total m (λ i. f (10 + i))) e.1.0 in
    let last = ap f e.1.1 in
    omega (arith, rest, one, two, last)

-- the first ten numbers and the others
total-split : (n : ℕ) (f : ℕ → ℕ) → total (min n 10) f + total (n - 10) (λ i. f (10 + i)) ≡ total n f
unfolding total
total-split zero f = refl
total-split (suc n) f = split-suc n f (nat_lt n 10) refl (total-split n f)

-- the number of a block by where it stands
number-own : (byte : ℕ → ℕ) (place i : ℕ) → i < 10 → block_number_at byte place i ≡ direct_of byte place i
number-own byte place i h = let is : nat_lt i 10 ≡ true = grind (arith, nat_tests) in rw is refl

number-far : (byte : ℕ → ℕ) (place i : ℕ) → block_number_at byte place (10 + i) ≡ number_in_indirect byte place i
number-far byte place i =
    let is : nat_lt (10 + i) 10 ≡ false = grind (arith, nat_tests) in
    let e : (10 + i) - 10 ≡ i = omega arith in
    rw is (ap (number_in_indirect byte place) e)

numbers-split : (byte : ℕ → ℕ) (place q : ℕ) →
    own_numbers byte place q + far_numbers byte place q
    ≡ total (blocks_needed byte place) (λ i. bit_of (block_number_at byte place i == q))
numbers-split byte place q =
    let f : ℕ → ℕ = λ i. bit_of (block_number_at byte place i == q) in
    let n : ℕ = blocks_needed byte place in
    let own =
    total-same (min n 10) (λ i. bit_of (direct_of byte place i == q)) f
    (λ i within. ap (λ m. bit_of (m == q)) (sym (number-own byte place i (omega arith)))) in
    let far =
    total-same (n - 10) (λ i. bit_of (number_in_indirect byte place i == q)) (λ i. f (10 + i))
    (λ i within. ap (λ m. bit_of (m == q)) (sym (number-far byte place i))) in
    omega (arith, own, far, total-split n f)

needed-if : (n : ℕ) → 10 < n → nat_lt 10 n ≡ true
needed-if n h = grind (arith, nat_tests)

if-needed : (n : ℕ) → nat_lt 10 n ≡ true → 10 < n
if-needed n h = grind (arith, nat_tests)

-- whether the indirect block is tested, where it is there when it is needed
tested-if : (needs has : Bool) → (needs ≡ true → has ≡ true) → (needs || has) ≡ has
tested-if true true h = refl
tested-if true false h = sym (h refl)
tested-if false true h = refl
tested-if false false h = refl

tested-needed : (needs has : Bool) → needs ≡ true → (needs || has) ≡ true
tested-needed true has h = refl
tested-needed false has h = absurd (cc)

tested-has : (needs has : Bool) → has ≡ true → (needs || has) ≡ true
tested-has true has h = refl
tested-has false has h = h

times-and : (b : Bool) (n q : ℕ) → (if b then bit_of (n == q) else 0) ≡ bit_of (b && (n == q))
times-and true n q = refl
times-and false n q = refl

within-own : (byte : ℕ → ℕ) (place i : ℕ) (own : Bool) → nat_lt i 10 ≡ own →
    ((k : ℕ) → k < min (blocks_needed byte place) 10 → is_data_block (block_count byte) (direct_of byte place k) ≡ true) →
    ((k : ℕ) → k < blocks_needed byte place - 10 → is_data_block (block_count byte) (number_in_indirect byte place k) ≡ true) →
    i < blocks_needed byte place → is_data_block (block_count byte) (block_number_at byte place i) ≡ true
within-own byte place i true is own far within =
    rw is (own i (below i (blocks_needed byte place) is within))
  where
    below : (i n : ℕ) → nat_lt i 10 ≡ true → i < n → i < min n 10
    below i n is within = grind (arith, nat_tests)
within-own byte place i false is own far within =
    rw is (far (i - 10) (past i (blocks_needed byte place) is within))
  where
    past : (i n : ℕ) → nat_lt i 10 ≡ false → i < n → i - 10 < n - 10
    past i n is within = grind (arith, nat_tests)

-- what the three kinds of numbers are asked
abbrev Asked : (ℕ → ℕ) → ℕ → Type 0
Asked byte place =
    ((i : ℕ) → i < min (blocks_needed byte place) NDIRECT → is_data_block (block_count byte) (direct_of byte place i) ≡ true)
    × ((is_tested byte place ≡ true → is_data_block (block_count byte) (indirect_of byte place) ≡ true)
    × (((i : ℕ) → i < blocks_needed byte place - NDIRECT → is_data_block (block_count byte) (number_in_indirect byte place i) ≡ true)
    × Unit {0}))

asked-good : (byte : ℕ → ℕ) (place : ℕ) → Asked byte place → GoodNumbers byte place
asked-good byte place asked = record {
  within = λ i within. within-own byte place i (nat_lt i NDIRECT) refl asked.0 asked.1.1.0 within;
  indirect = λ has. asked.1.0 (tested-has (needs_indirect (size_of byte place)) (has_indirect byte place) has);
  needed = λ more.
      data-some (block_count byte) (indirect_of byte place)
      (asked.1.0
      (tested-needed (needs_indirect (size_of byte place)) (has_indirect byte place) (needed-if (blocks_needed byte place) more)));
}

good-tested : (byte : ℕ → ℕ) (place : ℕ) → GoodNumbers byte place → is_tested byte place ≡ has_indirect byte place
good-tested byte place good =
    tested-if (needs_indirect (size_of byte place)) (has_indirect byte place)
    (λ needs. good.needed (if-needed (blocks_needed byte place) needs))

good-asked : (byte : ℕ → ℕ) (place : ℕ) → GoodNumbers byte place → Asked byte place
good-asked byte place good = (
  λ i within.
      ap (is_data_block (block_count byte)) (sym (number-own byte place i (omega arith))) ∙ good.within i (omega arith),
  (
    λ tested. good.indirect (sym (good-tested byte place good) ∙ tested),
    (
      λ i within.
          ap (is_data_block (block_count byte)) (sym (number-far byte place i)) ∙ good.within (10 + i) (omega arith),
      tt,
    ),
  ),
)

pub counts-numbers : (byte : ℕ → ℕ) (place : ℕ) → Counts byte (in_turn (numbers_tests byte place)) (own_times byte place) (GoodNumbers byte place)
unfolding numbers_tests indirect_test own_times
counts-numbers byte place =
    counts-as (own_times byte place) (GoodNumbers byte place)
    (counts-more _ _
    (counts-each byte (min (blocks_needed byte place) NDIRECT) (λ i. number_test byte place (direct_of byte place i))
    (λ i q. bit_of (direct_of byte place i == q)) (λ i. is_data_block (block_count byte) (direct_of byte place i) ≡ true)
    (λ i within. counts-number byte place (direct_of byte place i)))
    (counts-more _ _
    (counts-where (is_tested byte place) (number_test byte place (indirect_of byte place))
    (counts-number byte place (indirect_of byte place)))
    (counts-more _ _
    (counts-each byte (blocks_needed byte place - NDIRECT) (λ i. number_test byte place (number_in_indirect byte place i))
    (λ i q. bit_of (number_in_indirect byte place i == q))
    (λ i. is_data_block (block_count byte) (number_in_indirect byte place i) ≡ true)
    (λ i within. counts-number byte place (number_in_indirect byte place i)))
    (counts-none byte))))
    (asked-good byte place) (good-asked byte place)
    (λ asked q.
    sums (own_numbers byte place q) (indirect_tested byte place q) (far_numbers byte place q)
    (total (blocks_needed byte place) (λ i. bit_of (block_number_at byte place i == q)))
    (bit_of (has_indirect byte place && (indirect_of byte place == q)))
    (numbers-split byte place q)
    (ap (λ (b : Bool). if b then bit_of (indirect_of byte place == q) else 0)
    (good-tested byte place (asked-good byte place asked))
    ∙ times-and (has_indirect byte place) (indirect_of byte place) q))
  where
    sums : (own tested far all indirect : ℕ) → own + far ≡ all → tested ≡ indirect → own + (tested + (far + 0)) ≡ all + indirect
    sums own tested far all indirect e f = omega arith

-- ---- a record

-- a directory of a good size has whole blocks
whole-if : (directory : Bool) (size : ℕ) → (not directory || (size % 4096 == 0)) ≡ true → directory ≡ true → size % 4096 ≡ 0
whole-if true size good is = grind (arith, nat_tests)
whole-if false size good is = absurd (cc)

pub if-whole : (directory : Bool) (size : ℕ) → (directory ≡ true → size % 4096 ≡ 0) → (not directory || (size % 4096 == 0)) ≡ true
if-whole true size whole = let is = whole refl in grind (arith, nat_tests)
if-whole false size whole = refl

pub le-if : (a b : ℕ) → nat_le a b ≡ true → a ≤ b
le-if a b e = grind (arith, nat_tests)

pub if-le : (a b : ℕ) → a ≤ b → nat_le a b ≡ true
if-le a b h = grind (arith, nat_tests)

is-not : (b : Bool) → b ≡ false → not b ≡ true
is-not b e = rw e refl

pub counts-record : (byte : ℕ → ℕ) (place : ℕ) → Counts byte (in_turn (record_tests byte place)) (own_times byte place) (IsGoodRecord byte place)
unfolding record_tests stray_tests
counts-record byte place =
    counts-as (own_times byte place) (IsGoodRecord byte place)
    (counts-more _ _ (counts-demand byte (is_good_size (kind_at byte place) (size_of byte place)) (DirSize place))
    (counts-more _ _ (counts-demand byte (nat_le (size_of byte place) MAXFILESIZE) (TooLong place))
    (counts-more _ _ (counts-numbers byte place)
    (counts-more _ _
    (counts-more _ _ (counts-demand byte (not (has_stray byte place)) (Stray place))
    (counts-more _ _
    (counts-where (has_indirect byte place) (λ named. demand (not (has_stray_in_indirect byte place)) (Stray place) named)
    (counts-demand byte (not (has_stray_in_indirect byte place)) (Stray place)))
    (counts-none byte)))
    (counts-none byte)))))
    (λ all. record {
      readable = record {
        whole = whole-if (is_directory_at byte place) (size_of byte place) all.0;
        short = le-if (size_of byte place) MAXFILESIZE all.1.0;
        within = all.1.1.0.within;
      };
      indirect = all.1.1.0.indirect;
      needed = all.1.1.0.needed;
      no_stray = not-true (has_stray byte place) all.1.1.1.0.0;
      none_behind = λ has. not-true (has_stray_in_indirect byte place) (all.1.1.1.0.1.0 has);
    })
    (λ good. (
      if-whole (is_directory_at byte place) (size_of byte place) good.readable.whole,
      (
        if-le (size_of byte place) MAXFILESIZE good.readable.short,
        (
          record { within = good.readable.within; indirect = good.indirect; needed = good.needed },
          (
            (
              is-not (has_stray byte place) good.no_stray,
              (λ has. is-not (has_stray_in_indirect byte place) (good.none_behind has), tt),
            ),
            tt,
          ),
        ),
      ),
    ))
    (λ _ q. sums (own_times byte place q) (has_indirect byte place))
  where
    sums : (own : ℕ) (has : Bool) → 0 + (0 + (own + ((0 + ((if has then 0 else 0) + 0)) + 0))) ≡ own
    sums own true = omega arith
    sums own false = omega arith
