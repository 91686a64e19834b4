-- The words of the bitmap are read one after another until all free blocks are counted.
use Rattle.std.proofs.Common.{◌≡◌, ◌∙◌, ◌+◌, ◌-◌, ◌*◌, ◌%◌, ◌<◌, ◌≤◌, ◌&&◌, ℕ, zero, suc, Bool, true, false}
use Rattle.std.proofs.Common.{refl, sym, ap, subst, arith}
use Rattle.std.specs.Prelude.{nat_le, nat_lt}
use Rattle.std.proofs.lemmas.Bool.Decides.{nat_tests}
use Rattle.jos_base.specs.declared.numbers.TheConstants.{E_NO_DISK}
use Rattle.jos_base.specs.Counting.{total}
use Rattle.jos_base.specs.Environments.{bit_of}
use Rattle.jos_base.specs.Words.{negated, word_at}
use Rattle.jos_base.proofs.Sums.{total-le, total-none, total-same}
use Rattle.fs_layout.specs.DiskFiles.{free_blocks}
use Rattle.fs_layout.specs.DiskImage.{block_count, is_marked_free}
use Rattle.fs_jobs.specs.declared.place.Changed.{Changed}
use Rattle.fs_jobs.specs.declared.place.FilePlace.TheVariants as file
use Rattle.fs_jobs.specs.declared.place.Job.{Job}
use Rattle.fs_changes.specs.ChangePlans.{bitmap_word, free_in_word, is_free_bit, more_blocks}
use Rattle.fs_jobs.specs.declared.place.TreeState.{TreeState}
use Rattle.fs_jobs.specs.TreeBounds.{is_bounded, is_bounded_changed, is_bounded_job, is_count, is_place}
use Rattle.fs_runs.specs.TreeRuns.{AreSmall, Memory}
use Rattle.fs_changes.proofs.FreesBits.{free-bit, is_free_block}
use Rattle.fs_runs.proofs.Leads.{Leads, at_once, here, leads_on, leads_to_end, on}
use Rattle.fs_runs.proofs.Numbers.{file-bounded}
use Rattle.fs_runs.proofs.Pieces.{EndsWith, FreeIsCounted, IsCounted, at_file}

-- ---- sums

-- a sum in two parts
total-parts : (m n : ℕ) (g : ℕ → ℕ) → total (m + n) g ≡ total m g + total n (λ k. g (m + k))
unfolding total
total-parts m zero g = ap (λ k. total k g) (none m) ∙ plain (total m g)
  where
    none : (m : ℕ) → m + 0 ≡ m
    none m = omega arith

    plain : (n : ℕ) → n ≡ n + 0
    plain n = omega arith
total-parts m (suc n) g =
    ap (λ k. total k g) (next m n) ∙ ap (λ k. k + g (m + n)) (total-parts m n g)
    ∙ moved (total m g) (total n (λ k. g (m + k))) (g (m + n))
  where
    next : (m n : ℕ) → m + suc n ≡ suc (m + n)
    next m n = omega arith

    moved : (a b c : ℕ) → a + b + c ≡ a + (b + c)
    moved a b c = omega arith

-- free blocks below a block
abbrev free-below : (ℕ → ℕ) → ℕ → ℕ → ℕ
free-below byte count n = total n (λ block. bit_of (is_free_block byte count block))

free-before : (byte : ℕ → ℕ) (count : ℕ) → free-below byte count 0 ≡ 0
unfolding total
free-before byte count = refl

bit-most : (b : Bool) → bit_of b ≤ 1
bit-most true = omega arith
bit-most false = omega arith

free-most : (byte : ℕ → ℕ) (count n : ℕ) → free-below byte count n ≤ n
free-most byte count n =
    let most = total-le n 1 (λ block. bit_of (is_free_block byte count block)) (λ block. bit-most (is_free_block byte count block)) in
    omega (arith, most)

free-word : (byte : ℕ → ℕ) (count word : ℕ) → ((p : ℕ) → byte p < 256) →
    free-below byte count (32 * word) + free_in_word count word (word_at byte (bitmap_word word)) ≡ free-below byte count (32 * (word + 1))
unfolding free_in_word
free-word byte count word small =
    ap (λ n. free-below byte count (32 * word) + n)
    (total-same 32 (λ k. bit_of (is_free_bit count word (word_at byte (bitmap_word word)) k)) (λ k. bit_of (is_free_block byte count (32 * word + k)))
    (λ k lt. ap bit_of (free-bit byte count word k small lt)))
    ∙ sym (total-parts (32 * word) 32 (λ block. bit_of (is_free_block byte count block)))
    ∙ ap (free-below byte count) (next word)
  where
    next : (word : ℕ) → 32 * word + 32 ≡ 32 * (word + 1)
    next word = omega arith

-- behind the last block none is free
free-all : (byte : ℕ → ℕ) (count n : ℕ) → block_count byte ≡ count → count ≤ n → free-below byte count n ≡ free_blocks byte
unfolding free_blocks
free-all byte count n is le =
    ap (free-below byte count) (parts count n le)
    ∙ total-parts count (n - count) (λ block. bit_of (is_free_block byte count block))
    ∙ ap (λ k. free-below byte count count + k)
    (total-none (n - count) (λ k. bit_of (is_free_block byte count (count + k)))
    (λ k lt. none (is_marked_free byte (count + k)) (nat_lt (count + k) count) (past count k)))
    ∙ plain (free-below byte count count)
    ∙ total-same count (λ block. bit_of (is_free_block byte count block)) (λ block. bit_of (is_marked_free byte block))
    (λ block lt. ap bit_of (all (is_marked_free byte block) (nat_lt block count) (within block count lt)))
    ∙ ap (λ k. total k (λ block. bit_of (is_marked_free byte block))) (sym is)
  where
    parts : (count n : ℕ) → count ≤ n → n ≡ count + (n - count)
    parts count n le = omega arith

    past : (count k : ℕ) → nat_lt (count + k) count ≡ false
    past count k = grind (arith, nat_tests)

    within : (block count : ℕ) → block < count → nat_lt block count ≡ true
    within block count lt = grind (arith, nat_tests)

    none : (a b : Bool) → b ≡ false → bit_of (a && b) ≡ 0
    none true b e = ap bit_of e
    none false b e = refl

    all : (a b : Bool) → b ≡ true → (a && b) ≡ a
    all true b e = e
    all false b e = refl

    plain : (n : ℕ) → n + 0 ≡ n
    plain n = omega arith

-- ---- the words

-- a word of the bitmap that tells of blocks of the disk
pub word-inside : (count word : ℕ) → 4 ≤ count → count ≤ 16384 → 32 * word < count →
    (2 * 4096 + 4 * word + 4 ≤ 4096 * count) × ((2 * 4096 + 4 * word) % 4 ≡ 0)
word-inside count word least most lt = (omega arith, omega arith)

pub word-bounded : (count word : ℕ) → count ≤ 16384 → 32 * word < count → is_count word ≡ true
word-bounded count word most lt = let few : word < 1048576 = omega (arith, most, lt) in grind (arith, nat_tests)

free-bounded : (count word free : ℕ) → count ≤ 16384 → 32 * word < count → free ≤ 32 * word → (is_count word && is_place free) ≡ true
free-bounded count word free most lt few =
    let one = word-bounded count word most lt in
    let two = small free (omega (arith, most, lt, few)) in
    rw (one, two) refl
  where
    small : (free : ℕ) → free < 16384 → is_place free ≡ true
    small free lt = grind (arith, nat_tests)

module _ (count : ℕ) (j : Job) (c : Changed) (m : Memory) (counted : IsCounted count m.disk) (small : AreSmall m)
    (job : is_bounded_job j ≡ true) (changed : is_bounded_changed c ≡ true) where
  -- a word is about to be read, behind those that were counted
  abbrev at_word : ℕ → TreeState
  at_word word = at_file j count c (file.Free word (free-below m.disk count (32 * word)))

  at-bounded : (word : ℕ) → 32 * word < count → is_bounded (at_word word) ≡ true
  at-bounded word lt =
      file-bounded j count c (file.Free word (free-below m.disk count (32 * word))) counted.2 job changed
      (free-bounded count word (free-below m.disk count (32 * word)) counted.2 lt (free-most m.disk count (32 * word)))

  -- the last word is reached
  abbrev IsLast : ℕ → ℕ → Type 0
  IsLast word last = (32 * last < count) × (count ≤ 32 * (last + 1)) × Leads count (at_word last) m (at_word word) m

  one-word : (word : ℕ) → 32 * word < count → nat_lt (32 * (word + 1)) count ≡ true → Leads count (at_word (word + 1)) m (at_word word) m
  one-word word lt test =
      let more : ℕ = free-below m.disk count (32 * word) + free_in_word count word (word_at m.disk (bitmap_word word)) in
      subst (λ (free : ℕ). Leads count (at_file j count c (file.Free (word + 1) free)) m (at_word word) m) (free-word m.disk count word small.0)
      (on (at_word word) (at_file j count c (file.Free (word + 1) more)) m (at-bounded word lt)
      (word-inside count word counted.1 counted.2 lt)
      (rw test refl)
      here)

  to-last : (left word : ℕ) → 32 * word < count → count ≤ 32 * (word + left) → (last : ℕ) × IsLast word last
  to-last zero word lt le = absurd (omega (arith, lt, le))
  to-last (suc left) word lt le = by_test (to-last left (word + 1)) (nat_lt (32 * (word + 1)) count) refl
    where
      next-below : (word : ℕ) → nat_lt (32 * (word + 1)) count ≡ true → 32 * (word + 1) < count
      next-below word test = grind (arith, nat_tests)

      next-past : (word : ℕ) → nat_lt (32 * (word + 1)) count ≡ false → count ≤ 32 * (word + 1)
      next-past word test = grind (arith, nat_tests)

      fewer : (left word : ℕ) → count ≤ 32 * (word + suc left) → count ≤ 32 * (word + 1 + left)
      fewer left word le = omega (arith, le)

      by_test : (32 * (word + 1) < count → count ≤ 32 * (word + 1 + left) → (last : ℕ) × IsLast (word + 1) last) →
          (b : Bool) → nat_lt (32 * (word + 1)) count ≡ b → (last : ℕ) × IsLast word last
      by_test onward true test =
          let rest = onward (next-below word test) (fewer left word le) in
          (rest.0, (rest.1.0, rest.1.1, leads_on (at_word word) m (one-word word lt test) rest.1.2))
      by_test onward false test = (word, (lt, next-past word test, here))

  last-counts : (last : ℕ) → count ≤ 32 * (last + 1) →
      free-below m.disk count (32 * last) + free_in_word count last (word_at m.disk (bitmap_word last)) ≡ free_blocks m.disk
  last-counts last past = free-word m.disk count last small.0 ∙ free-all m.disk count (32 * (last + 1)) counted.0 past

  last-test : (last : ℕ) → count ≤ 32 * (last + 1) → nat_lt (32 * (last + 1)) count ≡ false
  last-test last past = grind (arith, nat_tests)

  enough : (last : ℕ) → 32 * last < count → count ≤ 32 * (last + 1) → more_blocks j c ≤ free_blocks m.disk →
      Leads count (at_file j count c file.SizeNow) m (at_word last) m
  enough last lt past le =
      on (at_word last) (at_file j count c file.SizeNow) m (at-bounded last lt)
      (word-inside count last counted.1 counted.2 lt)
      (rw (last-test last past, last-counts last past, holds (more_blocks j c) (free_blocks m.disk) le) refl)
      here
    where
      holds : (a b : ℕ) → a ≤ b → nat_le a b ≡ true
      holds a b le = grind (arith, nat_tests)

  too-few : (last : ℕ) → 32 * last < count → count ≤ 32 * (last + 1) → free_blocks m.disk < more_blocks j c →
      EndsWith count (negated E_NO_DISK) m (at_word last) m
  too-few last lt past less = (
    1,
    at_once (at_word last) m (at-bounded last lt)
        (word-inside count last counted.1 counted.2 lt)
        (rw (last-test last past, last-counts last past, fails (more_blocks j c) (free_blocks m.disk) less) refl)
        refl,
  )
    where
      fails : (a b : ℕ) → b < a → nat_le a b ≡ false
      fails a b less = grind (arith, nat_tests)

  -- all words are read from the first on
  all-words : (last : ℕ) × (32 * last < count) × (count ≤ 32 * (last + 1)) × Leads count (at_word last) m (at_file j count c (file.Free 0 0)) m
  all-words =
      let run = to-last count 0 (some count counted.1) (enough-words count) in (
        run.0,
        run.1.0,
        run.1.1,
        subst (λ (free : ℕ). Leads count (at_word run.0) m (at_file j count c (file.Free 0 free)) m) (free-before m.disk count) run.1.2,
      )
    where
      some : (count : ℕ) → 4 ≤ count → 32 * 0 < count
      some count least = omega arith

      enough-words : (count : ℕ) → count ≤ 32 * (0 + count)
      enough-words count = omega arith

pub free_is_counted : FreeIsCounted
free_is_counted count j c m counted small job changed =
    let run = all-words count j c m counted small job changed in
    let last : ℕ = run.0 in (
      (λ le. leads_on (at_file j count c (file.Free 0 0)) m run.3 (enough count j c m counted small job changed last run.1 run.2 le)),
      (λ less.
          let ends = too-few count j c m counted small job changed last run.1 run.2 less in
          leads_to_end (at_file j count c (file.Free 0 0)) m run.3 ends.0 ends.1),
    )
