-- The words of the bitmap are read one after another until the lowest free data block is found.
use Rattle.std.proofs.Common.{◌≡◌, ◌∙◌, ◌+◌, ◌-◌, ◌*◌, ◌<◌, ◌≤◌, ◌&&◌, inl, inr, ℕ, zero, suc, Bool, true, false, Option, Some, None}
use Rattle.std.proofs.Common.{refl, sym, ap, subst, arith}
use Rattle.std.specs.Prelude.{◌==◌, if◌then◌else◌, find, nat_le, nat_lt}
use Rattle.std.specs.List.{range_with_len}
use Rattle.std.proofs.lemmas.Bool.{cases_eq}
use Rattle.std.proofs.lemmas.Bool.Decides.{nat_tests}
use Rattle.jos_base.specs.Words.{word_at}
use Rattle.fs_layout.specs.DiskImage.{block_count, first_data_block, is_marked_free}
use Rattle.fs_acts.specs.BlockActs.{lowest_free}
use Rattle.fs_jobs.specs.declared.place.Change.{Change}
use Rattle.fs_jobs.specs.declared.place.Changed.{Changed}
use Rattle.fs_jobs.specs.declared.place.FilePlace.TheVariants as file
use Rattle.fs_jobs.specs.declared.place.Job.{Job}
use Rattle.fs_jobs.specs.declared.place.TreeState.{TreeState}
use Rattle.fs_changes.specs.ChangePlans.{bitmap_word, is_free_bit, lowest_in_word}
use Rattle.fs_jobs.specs.TreeBounds.{is_bounded, is_bounded_changed, is_bounded_job}
use Rattle.fs_runs.specs.JobCalls.{change_weight, take_calls}
use Rattle.fs_runs.specs.TreeRuns.{AreSmall, Memory}
use Rattle.fs_changes.proofs.FreesBits.{free-bit, is_free_block}
use Rattle.fs_runs.proofs.FreesCounted.{word-bounded, word-inside}
use Rattle.fs_runs.proofs.Leads.{LeadsIn, here, leads_on, on}
use Rattle.fs_runs.proofs.Numbers.{file-bounded}
use Rattle.fs_runs.proofs.Pieces.{IsCounted, LowestIsFound, at_file}

-- ---- the first of a range

-- the first that passes
abbrev IsFirst : (ℕ → Bool) → ℕ → ℕ → ℕ → Type 0
IsFirst p a n first = (a ≤ first) × (first < a + n) × (p first ≡ true) × ((q : ℕ) → a ≤ q → q < first → p q ≡ false)

some-same : (a b : ℕ) → ◌≡◌ {A = Option ℕ} (Some a) (Some b) → a ≡ b
some-same a b e = cc

none-some : (a : ℕ) → ◌≡◌ {A = Option ℕ} None (Some a) → ⊥
none-some a e = cc

first-step : (p : ℕ → Bool) (n a first : ℕ) (b : Bool) → p a ≡ b →
    (find p (range_with_len (a + 1) n) ≡ Some first → IsFirst p (a + 1) n first) →
    find p (range_with_len a (suc n)) ≡ Some first → IsFirst p a (suc n) first
first-step p n a first true passes onward e =
    let all : ◌≡◌ {A = Option ℕ} (find p (range_with_len a (suc n))) (Some a) = rw passes refl in
    let same = some-same a first (sym all ∙ e) in
    (omega (arith, same), omega (arith, same), ap p (sym same) ∙ passes, λ q le lt. absurd (omega (arith, same, le, lt)))
first-step p n a first false passes onward e =
    let all : ◌≡◌ {A = Option ℕ} (find p (range_with_len a (suc n))) (find p (range_with_len (a + 1) n)) = rw passes refl in
    let rest = onward (sym all ∙ e) in
    (omega (arith, rest.0), omega (arith, rest.1), rest.2, before rest.3)
  where
    before : ((q : ℕ) → a + 1 ≤ q → q < first → p q ≡ false) → (q : ℕ) → a ≤ q → q < first → p q ≡ false
    before others q le lt = elim (cases_eq a q) [
      | inl e ↦ ap p (sym e) ∙ passes
      | inr ne ↦ others q (omega (arith, le, ne)) lt
    ]

first-found : (p : ℕ → Bool) (n a first : ℕ) → find p (range_with_len a n) ≡ Some first → IsFirst p a n first
first-found p zero a first e = absurd (none-some first e)
first-found p (suc n) a first e = first-step p n a first (p a) refl (first-found p n (a + 1) first) e

-- where one passes and none before it, it is the first
find-first : (p : ℕ → Bool) (n a first : ℕ) → IsFirst p a n first → find p (range_with_len a n) ≡ Some first
find-first p zero a first is = absurd (omega (arith, is.0, is.1))
find-first p (suc n) a first is = elim (cases_eq a first) [
  | inl e ↦
      let passes : p a ≡ true = ap p e ∙ is.2 in
      let all : ◌≡◌ {A = Option ℕ} (find p (range_with_len a (suc n))) (Some a) = rw passes refl in
      all ∙ ap Some e
  | inr ne ↦
      let fails = is.3 a (omega arith) (omega (arith, is.0, ne)) in
      let all : ◌≡◌ {A = Option ℕ} (find p (range_with_len a (suc n))) (find p (range_with_len (a + 1) n)) = rw fails refl in
      all ∙ find-first p n (a + 1) first
      (omega (arith, is.0, ne), omega (arith, is.1), is.2, λ q le lt. is.3 q (omega (arith, le)) lt)
]

find-none : (p : ℕ → Bool) (n a : ℕ) → ((q : ℕ) → a ≤ q → q < a + n → p q ≡ false) → find p (range_with_len a n) ≡ None
find-none p zero a none = refl
find-none p (suc n) a none =
    let fails = none a (omega arith) (omega arith) in
    let all : ◌≡◌ {A = Option ℕ} (find p (range_with_len a (suc n))) (find p (range_with_len (a + 1) n)) = rw fails refl in
    all ∙ find-none p n (a + 1) (λ q le lt. none q (omega (arith, le)) (omega (arith, lt)))

-- ---- the lowest free block

-- a data block that is marked free
abbrev is_free_data : (ℕ → ℕ) → ℕ → ℕ → Bool
is_free_data byte count block = is_free_block byte count block && nat_le (first_data_block count) block

-- it is the first of all
pub record IsLowest (byte : ℕ → ℕ) (count block : ℕ) : Type 0 where
  pub below : block < count
  pub is : is_free_data byte count block ≡ true
  pub none : (q : ℕ) → q < block → is_free_data byte count q ≡ false

lowest-is : (byte : ℕ → ℕ) (count block : ℕ) → block_count byte ≡ count → lowest_free byte ≡ Some block → IsLowest byte count block
unfolding lowest_free
lowest-is byte count block counted e =
    let is = first-found (is_marked_free byte) (count - first_data_block count) (first_data_block count) block
    (subst (λ (n : ℕ). find (is_marked_free byte) (range_with_len (first_data_block n) (n - first_data_block n)) ≡ Some block) counted e) in
    let lt = below (first_data_block count) is.0 is.1 in
    record {
      below = lt;
      is = holds (is_marked_free byte block) (nat_lt block count) (nat_le (first_data_block count) block) is.2 (within block count lt)
          (from (first_data_block count) block is.0);
      none = λ q less. by_test q less is.3 (nat_le (first_data_block count) q) refl;
    }
  where
    below : (first : ℕ) → first ≤ block → block < first + (count - first) → block < count
    below first le lt = omega (arith, le, lt)

    within : (a b : ℕ) → a < b → nat_lt a b ≡ true
    within a b lt = grind (arith, nat_tests)

    from : (a b : ℕ) → a ≤ b → nat_le a b ≡ true
    from a b le = grind (arith, nat_tests)

    at_least : (a b : ℕ) → nat_le a b ≡ true → a ≤ b
    at_least a b is = grind (arith, nat_tests)

    holds : (a b c : Bool) → a ≡ true → b ≡ true → c ≡ true → (a && b && c) ≡ true
    holds a b c x y z = rw (x, y, z) refl

    marked : (a b c : Bool) → a ≡ false → (a && b && c) ≡ false
    marked a b c x = rw x refl

    before : (a b c : Bool) → c ≡ false → (a && b && c) ≡ false
    before true true c z = z
    before true false c z = refl
    before false b c z = refl

    by_test : (q : ℕ) → q < block → ((q : ℕ) → first_data_block count ≤ q → q < block → is_marked_free byte q ≡ false) →
        (b : Bool) → nat_le (first_data_block count) q ≡ b → is_free_data byte count q ≡ false
    by_test q less others true test =
        marked (is_marked_free byte q) (nat_lt q count) (nat_le (first_data_block count) q)
        (others q (at_least (first_data_block count) q test) less)
    by_test q less others false test = before (is_marked_free byte q) (nat_lt q count) (nat_le (first_data_block count) q) test

-- ---- in a word

-- what is tested of a bit
abbrev tested : (ℕ → ℕ) → ℕ → ℕ → ℕ → Bool
tested byte count word k = is_free_bit count word (word_at byte (bitmap_word word)) k && nat_le (first_data_block count) (32 * word + k)

tested-is : (byte : ℕ → ℕ) (count word k : ℕ) → ((p : ℕ) → byte p < 256) → k < 32 →
    tested byte count word k ≡ is_free_data byte count (32 * word + k)
tested-is byte count word k small lt =
    ap (λ (b : Bool). b && nat_le (first_data_block count) (32 * word + k)) (free-bit byte count word k small lt)

not-yet : (byte : ℕ → ℕ) (count word block : ℕ) → ((p : ℕ) → byte p < 256) → IsLowest byte count block → 32 * (word + 1) ≤ block →
    lowest_in_word count word (word_at byte (bitmap_word word)) ≡ None
unfolding lowest_in_word
not-yet byte count word block small is le =
    find-none (tested byte count word) 32 0
    (λ k low lt.
    let within : k < 32 = omega (arith, lt) in
    tested-is byte count word k small within ∙ is.none (32 * word + k) (omega (arith, le, within)))

in-this : (byte : ℕ → ℕ) (count word block : ℕ) → ((p : ℕ) → byte p < 256) → IsLowest byte count block → 32 * word ≤ block →
    block < 32 * (word + 1) → lowest_in_word count word (word_at byte (bitmap_word word)) ≡ Some (block - 32 * word)
unfolding lowest_in_word
in-this byte count word block small is le lt =
    find-first (tested byte count word) 32 0 (block - 32 * word) (
      omega arith,
      omega (arith, within),
      tested-is byte count word (block - 32 * word) small within ∙ ap (is_free_data byte count) place ∙ is.is,
      λ k low less. tested-is byte count word k small (omega (arith, less, within)) ∙ is.none (32 * word + k) (omega (arith, less, le)),
    )
  where
    within : block - 32 * word < 32
    within = omega (arith, le, lt)

    place : 32 * word + (block - 32 * word) ≡ block
    place = omega (arith, le)

-- ---- the words

module _ (count : ℕ) (j : Job) (c : Changed) (x : Change) (m : Memory) (block : ℕ) (counted : IsCounted count m.disk) (small : AreSmall m)
    (job : is_bounded_job j ≡ true) (changed : is_bounded_changed c ≡ true) (lowest : IsLowest m.disk count block) where
  abbrev at_word : ℕ → TreeState
  at_word word = at_file j count c (file.Lowest x word)

  abbrev found : TreeState
  found = at_file j count c (file.Mark x block)

  at-bounded : (word : ℕ) → 32 * word < count → is_bounded (at_word word) ≡ true
  at-bounded word lt = file-bounded j count c (file.Lowest x word) counted.2 job changed (word-bounded count word counted.2 lt)

  -- what begins at a word, and nothing at a later one
  abbrev weight_at : ℕ → ℕ
  weight_at word = change_weight count c (file.Lowest x word)

  alone : (n : ℕ) → n + 0 ≡ n
  alone n = omega arith

  later-none : (word : ℕ) → weight_at (word + 1) ≡ 0
  later-none word = ap (λ (b : Bool). if b then take_calls count else 0) (never word)
    where
      never : (word : ℕ) → (word + 1 == 0) ≡ false
      never word = grind (arith, nat_tests)

  word-below : (word : ℕ) → 32 * word ≤ block → 32 * word < count
  word-below word le = let lt = lowest.below in omega (arith, le, lt)

  this-word : (word : ℕ) → 32 * word ≤ block → block < 32 * (word + 1) → LeadsIn count found m (weight_at word) (at_word word) m
  this-word word le lt =
      subst (λ (n : ℕ). LeadsIn count (at_file j count c (file.Mark x n)) m (weight_at word) (at_word word) m) place
      (subst (λ (k : ℕ). LeadsIn count (at_file j count c (file.Mark x (32 * word + (block - 32 * word)))) m k (at_word word) m)
      (alone (weight_at word))
      (on (at_word word) (at_file j count c (file.Mark x (32 * word + (block - 32 * word)))) m (at-bounded word (word-below word le))
      (word-inside count word counted.1 counted.2 (word-below word le))
      (rw (in-this m.disk count word block small.0 lowest le lt) refl)
      here))
    where
      place : 32 * word + (block - 32 * word) ≡ block
      place = omega (arith, le)

  next-word : (word : ℕ) → 32 * (word + 1) ≤ block → LeadsIn count (at_word (word + 1)) m (weight_at word) (at_word word) m
  next-word word le =
      let this : 32 * word < count = word-below word (omega (arith, le)) in
      subst (λ (k : ℕ). LeadsIn count (at_word (word + 1)) m k (at_word word) m) (alone (weight_at word))
      (on (at_word word) (at_word (word + 1)) m (at-bounded word this)
      (word-inside count word counted.1 counted.2 this)
      (rw (not-yet m.disk count word block small.0 lowest le, more (word-below (word + 1) le)) refl)
      here)
    where
      more : 32 * (word + 1) < count → nat_lt (32 * (word + 1)) count ≡ true
      more lt = grind (arith, nat_tests)

  from-word : (left word : ℕ) → 32 * word ≤ block → block < 32 * (word + left) → LeadsIn count found m (weight_at word) (at_word word) m
  from-word zero word le lt = absurd (omega (arith, le, lt))
  from-word (suc left) word le lt = by_test (from-word left (word + 1)) (nat_lt block (32 * (word + 1))) refl
    where
      here-below : nat_lt block (32 * (word + 1)) ≡ true → block < 32 * (word + 1)
      here-below test = grind (arith, nat_tests)

      behind : nat_lt block (32 * (word + 1)) ≡ false → 32 * (word + 1) ≤ block
      behind test = grind (arith, nat_tests)

      fewer : block < 32 * (word + 1 + left)
      fewer = omega (arith, lt)

      by_test : (32 * (word + 1) ≤ block → block < 32 * (word + 1 + left) → LeadsIn count found m (weight_at (word + 1)) (at_word (word + 1)) m) →
          (b : Bool) → nat_lt block (32 * (word + 1)) ≡ b → LeadsIn count found m (weight_at word) (at_word word) m
      by_test onward true test = this-word word le (here-below test)
      by_test onward false test =
          subst (λ (k : ℕ). LeadsIn count found m k (at_word word) m) (ap (λ (k : ℕ). weight_at word + k) (later-none word) ∙ alone (weight_at word))
          (leads_on (at_word word) m (next-word word (behind test)) (onward (behind test) fewer))

pub lowest_is_found : LowestIsFound
lowest_is_found count j c x m block counted small job changed e =
    from-word count j c x m block counted small job changed (lowest-is m.disk count block counted.0 e) (block + 1) 0 (omega arith) (omega arith)
