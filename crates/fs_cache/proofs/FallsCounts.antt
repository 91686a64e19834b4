-- How many blocks are cached, and how many of their pages were used, where one block has another entry.
use Rattle.std.proofs.Common.{◌≡◌, ◌≢◌, ◌∙◌, ◌<◌, ◌≤◌, ◌+◌, ◌*◌, ℕ, zero, suc, Bool, true, false, is_some, Option, Some, None}
use Rattle.std.proofs.Common.{inl, inr, refl, sym, ap, arith}
use Rattle.std.proofs.lemmas.Bool.{cases_eq, cases_lt}
use Rattle.jos_base.specs.Counting.{total}
use Rattle.jos_base.specs.Environments.{bit_of}
use Rattle.jos_base.specs.Reach.{Entry}
use Rattle.jos_base.proofs.Sums.{total-change, total-le, total-mono, total-same}
use Rattle.lib_os.specs.declared.numbers.TheConstants.{CACHE_BLOCKS}
use Rattle.lib_os.specs.Need.{count_below}
use Rattle.lib_os.specs.Rows.{EntryRow}
use Rattle.fs_cache.specs.CacheStands.{CacheView, was_used}
use Rattle.fs_cache.specs.CacheSteps.{cached_count, used_count}
use Rattle.fs_cache.proofs.Views.{RowSet, ViewKept}

-- ---- of any numbers

bit-le : (a : Bool) → bit_of a ≤ 1
bit-le false = omega arith
bit-le true = omega arith

bits-le : (a b : Bool) → (a ≡ true → b ≡ true) → bit_of a ≤ bit_of b
bits-le false b so = omega arith
bits-le true b so = let is : bit_of b ≡ 1 = ap bit_of (so refl) in omega (arith, is)

pub count-le : (n : ℕ) (g : ℕ → Bool) → count_below n g ≤ n
count-le n g =
    let most = total-le n 1 (λ k. bit_of (g k)) (λ k. bit-le (g k)) in
    let same : n * 1 ≡ n = grind arith in
    omega (arith, most, same)

pub count-same : (n : ℕ) (g h : ℕ → Bool) → ((k : ℕ) → g k ≡ h k) → count_below n g ≡ count_below n h
count-same n g h same = total-same n (λ k. bit_of (g k)) (λ k. bit_of (h k)) (λ k lt. ap bit_of (same k))

pub count-mono : (n : ℕ) (g h : ℕ → Bool) → ((k : ℕ) → g k ≡ true → h k ≡ true) → count_below n g ≤ count_below n h
count-mono n g h so = total-mono n (λ k. bit_of (g k)) (λ k. bit_of (h k)) (λ k lt. bits-le (g k) (h k) (so k))

-- one of them passes no more
pub count-off : (n k : ℕ) (g h : ℕ → Bool) → k < n → ((q : ℕ) → q ≢ k → g q ≡ h q) → g k ≡ false → h k ≡ true →
    count_below n h ≡ count_below n g + 1
count-off n k g h lt same off on =
    let change = total-change n k (λ q. bit_of (g q)) (λ q. bit_of (h q)) lt (λ q ne. ap bit_of (same q ne)) in
    let now : bit_of (g k) ≡ 0 = ap bit_of off in
    let before : bit_of (h k) ≡ 1 = ap bit_of on in
    omega (arith, change, now, before)

-- those that pass are below m
pub count-under : (n m : ℕ) (g : ℕ → Bool) → ((k : ℕ) → g k ≡ true → k < m) → count_below n g ≤ m
unfolding total
count-under zero m g so = omega arith
count-under (suc n) m g so = elim (cases_lt n m) [
  | inl lt ↦ let all = count-le (suc n) g in omega (arith, all, lt)
  | inr past ↦
      let rest = count-under n m g so in
      let off = none_past (g n) (so n) past in
      omega (arith, rest, off)
]
  where
    none_past : (t : Bool) → (t ≡ true → n < m) → m ≤ n → bit_of t ≡ 0
    none_past false lt past = refl
    none_past true lt past = let below = lt refl in absurd (omega (arith, below, past))

-- ---- of any row

pub cached_most : (row : EntryRow) → cached_count row ≤ CACHE_BLOCKS
unfolding cached_count
cached_most row = count-le CACHE_BLOCKS (λ n. is_some (row n))

used_is_cached : (o : Option Entry) → was_used o ≡ true → is_some o ≡ true
used_is_cached None used = absurd cc
used_is_cached (Some e) used = refl

pub used_most : (row : EntryRow) → used_count row ≤ cached_count row
unfolding cached_count used_count
used_most row = count-mono CACHE_BLOCKS (λ n. was_used (row n)) (λ n. is_some (row n)) (λ k. used_is_cached (row k))

-- ---- of changes

pub kept_row : (v w : CacheView) → ViewKept v w → w.row ≡ v.row
kept_row v w kept = λ i. λ n. kept.row n i

set_same : (v w : CacheView) (n : ℕ) (o : Option Entry) (test : Option Entry → Bool) → RowSet v w n o → test o ≡ test (v.row n) →
    (m : ℕ) → test (w.row m) ≡ test (v.row m)
set_same v w n o test set same m = elim (cases_eq m n) [
  | inl e ↦ ap (λ k. test (w.row k)) e ∙ ap test set.set ∙ same ∙ sym (ap (λ k. test (v.row k)) e)
  | inr ne ↦ ap test (set.rest m ne)
]

-- a block that is cached has another entry
pub set_cached : (v w : CacheView) (n : ℕ) (e : Entry) → RowSet v w n (Some e) → is_some (v.row n) ≡ true → cached_count w.row ≡ cached_count v.row
unfolding cached_count
set_cached v w n e set is =
    count-same CACHE_BLOCKS (λ m. is_some (w.row m)) (λ m. is_some (v.row m)) (set_same v w n (Some e) is_some set (sym is))

-- and it counts as used, as before
pub set_used : (v w : CacheView) (n : ℕ) (o : Option Entry) → RowSet v w n o → was_used o ≡ was_used (v.row n) → used_count w.row ≡ used_count v.row
unfolding used_count
set_used v w n o set same =
    count-same CACHE_BLOCKS (λ m. was_used (w.row m)) (λ m. was_used (v.row m)) (set_same v w n o was_used set same)

-- or no more
pub set_unused : (v w : CacheView) (n : ℕ) (o : Option Entry) → RowSet v w n o → n < CACHE_BLOCKS → was_used o ≡ false → was_used (v.row n) ≡ true →
    used_count v.row ≡ used_count w.row + 1
unfolding used_count
set_unused v w n o set below off on =
    count-off CACHE_BLOCKS n (λ m. was_used (w.row m)) (λ m. was_used (v.row m)) below
    (λ m ne. ap was_used (set.rest m ne)) (ap was_used set.set ∙ off) on

-- a block that was cached is so no more
pub set_none : (v w : CacheView) (n : ℕ) → RowSet v w n None → n < CACHE_BLOCKS → is_some (v.row n) ≡ true →
    cached_count v.row ≡ cached_count w.row + 1
unfolding cached_count
set_none v w n set below is =
    count-off CACHE_BLOCKS n (λ m. is_some (w.row m)) (λ m. is_some (v.row m)) below
    (λ m ne. ap is_some (set.rest m ne)) (ap is_some set.set) is

-- ---- of one row, where another entry stands

at_one : (n k : ℕ) (g h : ℕ → Bool) → ((q : ℕ) → q ≢ k → g q ≡ h q) → count_below n g ≤ count_below n h + bit_of (g k)
at_one n k g h same = elim (cases_lt k n) [
  | inl lt ↦
      let change = total-change n k (λ q. bit_of (g q)) (λ q. bit_of (h q)) lt (λ q ne. ap bit_of (same q ne)) in
      omega (arith, change)
  | inr past ↦
      let all = total-same n (λ q. bit_of (g q)) (λ q. bit_of (h q)) (λ q lt. ap bit_of (same q (λ is. absurd (omega (arith, is, lt, past))))) in
      omega (arith, all)
]

one_more : (n k : ℕ) (g h : ℕ → Bool) → ((q : ℕ) → q ≢ k → g q ≡ h q) → count_below n g ≤ count_below n h + 1
one_more n k g h same =
    let one = at_one n k g h same in
    let bit = bit-le (g k) in
    omega (arith, one, bit)

no_more : (n k : ℕ) (g h : ℕ → Bool) → ((q : ℕ) → q ≢ k → g q ≡ h q) → g k ≡ false → count_below n g ≤ count_below n h
no_more n k g h same off =
    let one = at_one n k g h same in
    let bit : bit_of (g k) ≡ 0 = ap bit_of off in
    omega (arith, one, bit)

module _ (v w : EntryRow) (k : ℕ) (rest : (m : ℕ) → m ≢ k → w m ≡ v m) where
  pub cached_one_more : cached_count w ≤ cached_count v + 1
  unfolding cached_count
  cached_one_more = one_more CACHE_BLOCKS k (λ m. is_some (w m)) (λ m. is_some (v m)) (λ m ne. ap is_some (rest m ne))

  pub cached_no_more : w k ≡ None → cached_count w ≤ cached_count v
  unfolding cached_count
  cached_no_more none = no_more CACHE_BLOCKS k (λ m. is_some (w m)) (λ m. is_some (v m)) (λ m ne. ap is_some (rest m ne)) (ap is_some none)

  pub cached_as_many : is_some (w k) ≡ is_some (v k) → cached_count w ≡ cached_count v
  unfolding cached_count
  cached_as_many same =
      count-same CACHE_BLOCKS (λ m. is_some (w m)) (λ m. is_some (v m))
      (λ m. (elim (cases_eq m k) [
        | inl e ↦ ap (λ q. is_some (w q)) e ∙ same ∙ sym (ap (λ q. is_some (v q)) e)
        | inr ne ↦ ap is_some (rest m ne)
      ]))

  pub used_one_more : used_count w ≤ used_count v + 1
  unfolding used_count
  used_one_more = one_more CACHE_BLOCKS k (λ m. was_used (w m)) (λ m. was_used (v m)) (λ m ne. ap was_used (rest m ne))

  pub used_no_more : was_used (w k) ≡ false → used_count w ≤ used_count v
  unfolding used_count
  used_no_more off = no_more CACHE_BLOCKS k (λ m. was_used (w m)) (λ m. was_used (v m)) (λ m ne. ap was_used (rest m ne)) off
