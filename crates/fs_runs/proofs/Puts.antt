-- Steps of a change of a file's blocks, one by one: a put, the bit of a block, and a block of zeros.
use Rattle.std.proofs.Common.{◌≡◌, ◌∙◌, ◌<◌, ◌≤◌, ◌+◌, ◌*◌, ◌/◌, ◌%◌, ◌-◌, ◌^◌, ◌==◌, ◌&&◌, ◌⊎◌, inl, inr, ℕ, zero, suc, Bool, true, false}
use Rattle.std.proofs.Common.{refl, sym, ap, subst, arith, if◌then◌else◌, pow-suc}
use Rattle.std.specs.Prelude.{nat_le, nat_lt}
use Rattle.std.specs.Int.{bit_at}
use Rattle.std.proofs.lemmas.Bool.{and_parts}
use Rattle.std.proofs.lemmas.Bool.Decides.{nat_tests}
use Rattle.std.proofs.lemmas.Nat.Bits.{bit_at_lowest, bit_at-suc, bit_at-lt}
use Rattle.jos_base.specs.Below.{values_below}
use Rattle.fs_layout.specs.declared.numbers.TheConstants.{BLKSIZE, NDIRECT, NINDIRECT}
use Rattle.fs_layout.specs.DiskImage.{first_data_block, is_data_block}
use Rattle.fs_acts.specs.BlockActs.{Put, mark_place, number_place, put_byte, put_word, stored, written, zero_block}
use Rattle.fs_acts.proofs.Stored.{written-more}
use Rattle.fs_jobs.specs.declared.place.Change.{Change}
use Rattle.fs_jobs.specs.declared.place.Changed.{Changed}
use Rattle.fs_jobs.specs.declared.place.FilePlace.{FilePlace}
use Rattle.fs_jobs.specs.declared.place.FilePlace.TheVariants as file
use Rattle.fs_jobs.specs.declared.place.Job.{Job}
use Rattle.fs_jobs.specs.declared.place.TreeState.{TreeState}
use Rattle.fs_jobs.specs.declared.asks.TreeNext.TheVariants.{GoOn}
use Rattle.fs_changes.specs.ChangePlans.{behind_zeros, change_ask, change_next, marked_byte, number_at, takes}
use Rattle.fs_jobs.specs.TreeBounds.{is_block, is_bounded, is_bounded_changed, is_bounded_file, is_bounded_job, is_count, is_place}
use Rattle.fs_runs.specs.JobCalls.{change_weight}
use Rattle.fs_runs.specs.TreeRuns.{IsInside, Memory, memory_after, reply_of}
use Rattle.fs_jobs.specs.TreeTests.{low_byte}
use Rattle.fs_jobs.specs.RecordFields.{direct_at, indirect_at, size_at}
use Rattle.fs_runs.proofs.Leads.{Leads, LeadsIn, on}
use Rattle.fs_runs.proofs.Pieces.{Changes, IsRead, LiesOn, at_file, with_disk}

-- ---- one step

pub both : (a b : Bool) → a ≡ true → b ≡ true → (a && b) ≡ true
both true b first second = second
both false b first second = first

pub place-small : (n : ℕ) → n < 2 ^ 28 → is_place n ≡ true
place-small n small = grind (arith, nat_tests)

pub block-small : (n : ℕ) → n < 2 ^ 16 → is_block n ≡ true
block-small n small = grind (arith, nat_tests)

pub count-small : (n : ℕ) → n < 2 ^ 20 → is_count n ≡ true
count-small n small = grind (arith, nat_tests)

pub less : (a b : ℕ) → a < b → nat_lt a b ≡ true
less a b lt = grind (arith, nat_tests)

pub not_less : (a b : ℕ) → b ≤ a → nat_lt a b ≡ false
not_less a b le = grind (arith, nat_tests)

bounded : (count : ℕ) (j : Job) (c : Changed) (p : FilePlace) → count ≤ 16384 → is_bounded_job j ≡ true → is_bounded_changed c ≡ true →
    is_bounded_file p ≡ true → is_bounded (at_file j count c p) ≡ true
bounded count j c p few job changed here =
    both (is_block count && is_bounded_job j) (is_bounded_changed c && is_bounded_file p)
    (both (is_block count) (is_bounded_job j) (block-small count (omega (arith, few))) job)
    (both (is_bounded_changed c) (is_bounded_file p) changed here)

-- a step of a record whose size and indirect block stay as they were read
pub step : {count : ℕ} {j : Job} {c : Changed} {m0 : Memory} {to : TreeState} {after : Memory} {weighs : ℕ} → Changes count j c m0 → (p q : FilePlace)
    (m : Memory) → is_bounded_file p ≡ true → IsInside count (change_ask j c p) →
    change_next (at_file j count c p) c p (reply_of (change_ask j c p) m) ≡ GoOn (at_file j count c q) →
    LeadsIn count to after weighs (at_file j count c q) (memory_after (change_ask j c p) m) →
    LeadsIn count to after (change_weight count c p + weighs) (at_file j count c p) m
step {count} {j} {c} changes p q m small inside goes rest =
    on (at_file j count c p) (at_file j count c q) m
    (bounded count j c p changes.counted.2 changes.job changes.bounded small) inside goes rest

-- the number of a data block
pub data-parts : (count block : ℕ) → is_data_block count block ≡ true → (first_data_block count ≤ block) × (block < count)
data-parts count block is =
    let parts = and_parts (nat_le (first_data_block count) block) (nat_lt block count) is in
    (at_least (first_data_block count) block parts.0, below block count parts.1)
  where
    at_least : (a b : ℕ) → nat_le a b ≡ true → a ≤ b
    at_least a b test = grind (arith, nat_tests)

    below : (a b : ℕ) → nat_lt a b ≡ true → a < b
    below a b test = grind (arith, nat_tests)

-- ---- where the words stand

pub size-inside : (count home : ℕ) → LiesOn count home → (size_at home + 4 ≤ BLKSIZE * count) × (size_at home % 4 ≡ 0)
size-inside count home lies =
    let inside = lies.inside in
    let even = lies.even in
    (omega (arith, inside), omega (arith, even))

pub indirect-inside : (count home : ℕ) → LiesOn count home → (indirect_at home + 4 ≤ BLKSIZE * count) × (indirect_at home % 4 ≡ 0)
indirect-inside count home lies =
    let inside = lies.inside in
    let even = lies.even in
    (omega (arith, inside), omega (arith, even))

-- the number of one of the blocks, by the indirect block that was read
pub number-inside : (count : ℕ) (c : Changed) (i : ℕ) → LiesOn count c.home → i < 1034 → (i < NDIRECT) ⊎ (is_data_block count c.indirect ≡ true) →
    (number_at c i + 4 ≤ BLKSIZE * count) × (number_at c i % 4 ≡ 0)
number-inside count c i lies few has = by_test (nat_lt i NDIRECT) refl
  where
    own : (home i : ℕ) → LiesOn count home → i < 10 → (direct_at home i + 4 ≤ BLKSIZE * count) × (direct_at home i % 4 ≡ 0)
    own home i lies near =
        let inside = lies.inside in
        let even = lies.even in
        (omega (arith, inside, near), omega (arith, even))

    below : (i : ℕ) → nat_lt i NDIRECT ≡ true → i < 10
    below i test = grind (arith, nat_tests)

    past : (i : ℕ) → nat_lt i NDIRECT ≡ false → 10 ≤ i
    past i test = grind (arith, nat_tests)

    in_block : (indirect i : ℕ) → i < 1034 → 10 ≤ i → (i < NDIRECT) ⊎ (is_data_block count indirect ≡ true) →
        (BLKSIZE * indirect + 4 * (i - NDIRECT) + 4 ≤ BLKSIZE * count) × ((BLKSIZE * indirect + 4 * (i - NDIRECT)) % 4 ≡ 0)
    in_block indirect i few far (inl near) = absurd (omega (arith, far, near))
    in_block indirect i few far (inr sound) =
        let within = (data-parts count indirect sound).1 in
        (omega (arith, few, far, within), omega (arith, far))

    by_test : (b : Bool) → nat_lt i NDIRECT ≡ b →
        ((if b then direct_at c.home i else BLKSIZE * c.indirect + 4 * (i - NDIRECT)) + 4 ≤ BLKSIZE * count)
        × ((if b then direct_at c.home i else BLKSIZE * c.indirect + 4 * (i - NDIRECT)) % 4 ≡ 0)
    by_test true test = own c.home i lies (below i test)
    by_test false test = in_block c.indirect i few (past i test) has

-- where the record says that it stands
pub number-same : (byte : ℕ → ℕ) (c : Changed) (i : ℕ) → IsRead byte c → number_place byte c.home i ≡ number_at c i
number-same byte c i is = λ k. if nat_lt i NDIRECT then direct_at c.home i else BLKSIZE * is.indirect k + 4 * (i - NDIRECT)

-- ---- the bit of a block

-- a bit that is not set in a byte makes none that is too great
add-small : (k m n : ℕ) → k < m → n < 2 ^ m → bit_at n k ≡ 0 → n + 2 ^ k < 2 ^ m
add-small k zero n within small none = absurd (omega (arith, within))
add-small zero (suc m) n within small none =
    let even : n % 2 ≡ 0 = sym (bit_at_lowest n) ∙ none in
    let twice = pow-suc 2 m in
    omega (arith, even, twice, small)
add-small (suc k) (suc m) n within small none =
    let twice = pow-suc 2 m in
    let weight = pow-suc 2 k in
    let rest = add-small k m (n / 2) (omega (arith, within)) (omega (arith, twice, small)) (sym (bit_at-suc n k) ∙ none) in
    omega (arith, twice, weight, rest)

bit-clear : (n : ℕ) → n < 2 → (n == 1) ≡ false → n ≡ 0
bit-clear n low e = grind (arith, nat_tests)

add-byte : (block b : ℕ) → b < 256 → (bit_at b (block % 8) == 1) ≡ false → b + 2 ^ (block % 8) < 256
add-byte block b small clear =
    add-small (block % 8) 8 b (omega arith) small (bit-clear (bit_at b (block % 8)) (bit_at-lt b (block % 8)) clear)

-- what a byte of the bitmap becomes is one
pub marked-small : (x : Change) (block b : ℕ) → b < 256 → marked_byte x block b < 256
marked-small x block b small = by_test (takes x) (bit_at b (block % 8) == 1) refl
  where
    by_test : (t s : Bool) → (bit_at b (block % 8) == 1) ≡ s →
        (if t then (if s then b - 2 ^ (block % 8) else b) else if s then b else b + 2 ^ (block % 8)) < 256
    by_test true true test = omega (arith, small)
    by_test true false test = small
    by_test false true test = small
    by_test false false test = add-byte block b small test

low : (b : ℕ) → b < 256 → low_byte b ≡ b
low b small = omega (arith, small)

-- The byte of the bitmap is read, and put with the bit changed.
pub marked : {count : ℕ} {j : Job} {c : Changed} {m0 : Memory} {to : TreeState} {after : Memory} → Changes count j c m0 → (x : Change) (block : ℕ)
    (q : FilePlace) (m : Memory) → block < count → m.disk (mark_place block) < 256 →
    ((byte : ℕ) → change_next (at_file j count c (file.PutMark x block byte)) c (file.PutMark x block byte) 0 ≡ GoOn (at_file j count c q)) →
    Leads count to after (at_file j count c q)
    (with_disk m (stored (put_byte (mark_place block) (marked_byte x block (m.disk (mark_place block)))) m.disk)) →
    Leads count to after (at_file j count c (file.Mark x block)) m
marked {count} {j} {c} {m0} {to} {after} changes x block q m within small goes rest =
    let b : ℕ = m.disk (mark_place block) in
    let new : ℕ = marked_byte x block b in
    let few = changes.counted.2 in
    let some = changes.counted.1 in
    let is : is_block block ≡ true = block-small block (omega (arith, few, within)) in
    let inside : mark_place block < BLKSIZE * count = omega (arith, within, some) in
    step changes (file.Mark x block) (file.PutMark x block new) m is inside
    (ap (λ (n : ℕ). GoOn (at_file j count c (file.PutMark x block (marked_byte x block n)))) (low b small))
    (step changes (file.PutMark x block new) q m is inside (goes new)
    (subst (λ (n : ℕ). Leads count to after (at_file j count c q) (with_disk m (stored (put_byte (mark_place block) n) m.disk)))
    (sym (low new (marked-small x block b small))) rest))

-- ---- a block of zeros

abbrev zero_word : ℕ → ℕ → Put
zero_word block k = put_word (BLKSIZE * block + 4 * k) 0

abbrev zeros_to : ℕ → (ℕ → ℕ) → ℕ → ℕ → ℕ
zeros_to block byte n = written (values_below n (zero_word block)) byte

zeros-none : (block : ℕ) (byte : ℕ → ℕ) → zeros_to block byte 0 ≡ byte
unfolding values_below written
zeros-none block byte = refl

-- one word of it
zero-turn : {count : ℕ} {j : Job} {c : Changed} {m0 : Memory} {to : TreeState} {after : Memory} → Changes count j c m0 → (x : Change) (block : ℕ)
    (m : Memory) (byte : ℕ → ℕ) → block < count → (n : ℕ) → n < 1024 → (q : FilePlace) →
    change_next (at_file j count c (file.Zero x block n)) c (file.Zero x block n) 0 ≡ GoOn (at_file j count c q) →
    Leads count to after (at_file j count c q) (with_disk m (zeros_to block byte (suc n))) →
    Leads count to after (at_file j count c (file.Zero x block n)) (with_disk m (zeros_to block byte n))
zero-turn {count} {j} {c} {m0} {to} {after} changes x block m byte within n below q goes rest =
    let few = changes.counted.2 in
    let is = both (is_block block) (is_count n) (block-small block (omega (arith, few, within))) (count-small n (omega (arith, below))) in
    let inside : (BLKSIZE * block + 4 * n + 4 ≤ BLKSIZE * count) × ((BLKSIZE * block + 4 * n) % 4 ≡ 0) =
    (omega (arith, within, below), omega arith) in
    step changes (file.Zero x block n) q (with_disk m (zeros_to block byte n)) is inside goes
    (subst (λ (d : ℕ → ℕ). Leads count to after (at_file j count c q) (with_disk m d)) (written-more n (zero_word block) byte) rest)

zero-goes : (count : ℕ) (j : Job) (c : Changed) (x : Change) (block n : ℕ) (test : Bool) → nat_lt (n + 1) NINDIRECT ≡ test →
    change_next (at_file j count c (file.Zero x block n)) c (file.Zero x block n) 0
    ≡ (if test then GoOn (at_file j count c (file.Zero x block (n + 1))) else GoOn (at_file j count c (behind_zeros x block)))
zero-goes count j c x block n test is =
    ap (λ (b : Bool). if b then GoOn (at_file j count c (file.Zero x block (n + 1))) else GoOn (at_file j count c (behind_zeros x block))) is

-- so many words that are left
zeros-on : {count : ℕ} {j : Job} {c : Changed} {m0 : Memory} {to : TreeState} {after : Memory} → Changes count j c m0 → (x : Change) (block : ℕ)
    (m : Memory) (byte : ℕ → ℕ) → block < count → (k n : ℕ) → n + suc k ≡ 1024 →
    Leads count to after (at_file j count c (behind_zeros x block)) (with_disk m (zeros_to block byte 1024)) →
    Leads count to after (at_file j count c (file.Zero x block n)) (with_disk m (zeros_to block byte n))
zeros-on {count} {j} {c} {m0} {to} {after} changes x block m byte within zero n all rest =
    let last : 1024 ≡ suc n = omega (arith, all) in
    zero-turn changes x block m byte within n (omega (arith, all)) (behind_zeros x block)
    (zero-goes count j c x block n false (not_less (n + 1) 1024 (omega (arith, all))))
    (subst (λ (i : ℕ). Leads count to after (at_file j count c (behind_zeros x block)) (with_disk m (zeros_to block byte i))) last rest)
zeros-on {count} {j} {c} {m0} {to} {after} changes x block m byte within (suc k) n all rest =
    let next : suc n ≡ n + 1 = omega arith in
    zero-turn changes x block m byte within n (omega (arith, all)) (file.Zero x block (n + 1))
    (zero-goes count j c x block n true (less (n + 1) 1024 (omega (arith, all))))
    (subst (λ (i : ℕ). Leads count to after (at_file j count c (file.Zero x block i)) (with_disk m (zeros_to block byte (suc n)))) next
    (zeros-on changes x block m byte within k (suc n) (omega (arith, all)) rest))

-- all of them
pub zeros : {count : ℕ} {j : Job} {c : Changed} {m0 : Memory} {to : TreeState} {after : Memory} → Changes count j c m0 → (x : Change) (block : ℕ)
    (m : Memory) → block < count →
    Leads count to after (at_file j count c (behind_zeros x block)) (with_disk m (written (zero_block block) m.disk)) →
    Leads count to after (at_file j count c (file.Zero x block 0)) m
unfolding zero_block
zeros {count} {j} {c} {m0} {to} {after} changes x block m within rest =
    subst (λ (d : ℕ → ℕ). Leads count to after (at_file j count c (file.Zero x block 0)) (with_disk m d)) (zeros-none block m.disk)
    (zeros-on changes x block m m.disk within 1023 0 (omega arith) rest)
