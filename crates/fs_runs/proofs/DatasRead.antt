-- Bytes of a file are read, and handed back.
use Rattle.std.proofs.Common.{◌≡◌, ◌≢◌, ◌∙◌, ◌+◌, ◌-◌, ◌*◌, ◌/◌, ◌%◌, ◌<◌, ◌≤◌, ◌==◌, inl, inr, ℕ, zero, suc, true, false}
use Rattle.std.proofs.Common.{length, refl, sym, ap, subst, arith}
use Rattle.std.specs.Prelude.{min, nat_le, slice_index}
use Rattle.std.proofs.lemmas.Bool.{cases_eq, cases_lt}
use Rattle.std.proofs.lemmas.Bool.Decides.{nat_tests}
use Rattle.jos_base.specs.Words.{upd}
use Rattle.jos_base.proofs.Below.{get_or-values, length-values}
use Rattle.fs_layout.specs.declared.numbers.TheConstants.{BLKSIZE}
use Rattle.fs_layout.specs.DiskImage.{block_number_at, size_of}
use Rattle.fs_acts.specs.BlockActs.{byte_place, read_plan}
use Rattle.fs_jobs.specs.declared.place.Changed.{Changed}
use Rattle.fs_jobs.specs.declared.place.FilePlace.{FilePlace}
use Rattle.fs_jobs.specs.declared.place.FilePlace.TheVariants as file
use Rattle.fs_jobs.specs.declared.place.Job.{Job}
use Rattle.fs_jobs.specs.declared.place.Job.TheVariants as job
use Rattle.fs_jobs.specs.declared.place.TreeState.{TreeState}
use Rattle.fs_jobs.specs.declared.place.Wanted.TheVariants as wanted
use Rattle.fs_jobs.specs.declared.asks.TreeNext.TheVariants.{Answer, GoOn}
use Rattle.fs_jobs.specs.TreeBounds.{is_block, is_bounded}
use Rattle.fs_runs.specs.TreePlans.{next_at}
use Rattle.fs_runs.specs.TreeRuns.{Memory}
use Rattle.fs_jobs.specs.TreeTests.{low_byte}
use Rattle.fs_runs.proofs.Pieces.{BytesAreRead, EndsWith, HasBytes, NumbersAreFound, NumbersAreRead, at_file}
use Rattle.fs_runs.proofs.DatasRuns.{bounded-file, ends_behind, ends_here, ends_on, handed, handed-at, handed-more}
use Rattle.fs_runs.proofs.DatasRuns.{handed-none, handed-past, handed-small, is-place, low-byte}
use Rattle.fs_runs.proofs.DatasBytes.{ComesTo, bounded-indirect, data-block, data-bounded, in-blocks, indirect-bounded, number-comes, same-block, with_indirect}

-- the byte that is read, and how many are
value : (ℕ → ℕ) → ℕ → ℕ → ℕ → ℕ
value byte home at k = byte (byte_place byte home (at + k))

abbrev total_read : ℕ → ℕ → ℕ → ℕ
total_read n size at = min (min n BLKSIZE) (size - at)

-- the memory behind so many bytes
read_to : Memory → ℕ → ℕ → ℕ → Memory
read_to m home at k = record m { page = handed m.page (value m.disk home at) k }

-- the block of a byte
abbrev block_of : Memory → ℕ → ℕ → ℕ
block_of m home a = block_number_at m.disk home (a / BLKSIZE)

has-read : (count : ℕ) (j : Job) (c : Changed) (m : Memory) (at k : ℕ) → HasBytes count j c m → HasBytes count j c (read_to m c.home at k)
unfolding read_to value
has-read count j c m at k has = record {
  counted = has.counted;
  small = (has.small.0, handed-small m.page (value m.disk c.home at) k has.small.1 (λ i. has.small.0 (byte_place m.disk c.home (at + i))));
  lies = has.lies;
  job = has.job;
  bounded = has.bounded;
  size = has.size;
  size_most = has.size_most;
  numbers = has.numbers;
  indirect = has.indirect;
}

value-small : (byte : ℕ → ℕ) (home at k : ℕ) → ((q : ℕ) → byte q < 256) → value byte home at k < 256
unfolding value
value-small byte home at k small = small (byte_place byte home (at + k))

in-disk : (block count a : ℕ) → block < count → BLKSIZE * block + a % BLKSIZE < BLKSIZE * count
in-disk block count a below = omega (arith, below)

-- where it goes behind a byte
next-read : (count home at n : ℕ) (c : Changed) (block k v w : ℕ) → total_read n c.size at ≤ k + 1 →
    next_at (at_file (job.Read home at n) count c (file.Handing block k v)) w ≡ Answer (total_read n c.size at)
next-read count home at n c block k v w last =
    let test : nat_le (total_read n c.size at) (k + 1) ≡ true = grind (arith, nat_tests) in rw test refl

next-block : (count home at n : ℕ) (c : Changed) (block k v w : ℕ) → k + 1 < total_read n c.size at → (at + (k + 1)) % BLKSIZE ≡ 0 →
    next_at (at_file (job.Read home at n) count c (file.Handing block k v)) w
    ≡ GoOn (at_file (job.Read home at n) count c (file.Number ((at + (k + 1)) / BLKSIZE) (wanted.Reading (k + 1))))
next-block count home at n c block k v w more first =
    let test : nat_le (total_read n c.size at) (k + 1) ≡ false = grind (arith, nat_tests) in
    let begins : ((at + (k + 1)) % BLKSIZE == 0) ≡ true = grind (arith, nat_tests) in
    rw (test, begins) refl

next-inner : (count home at n : ℕ) (c : Changed) (block k v w : ℕ) → k + 1 < total_read n c.size at → (at + (k + 1)) % BLKSIZE ≢ 0 →
    next_at (at_file (job.Read home at n) count c (file.Handing block k v)) w
    ≡ GoOn (at_file (job.Read home at n) count c (file.Reading block (k + 1)))
next-inner count home at n c block k v w more inner =
    let test : nat_le (total_read n c.size at) (k + 1) ≡ false = grind (arith, nat_tests) in
    let begins : ((at + (k + 1)) % BLKSIZE == 0) ≡ false = grind (arith, nat_tests) in
    rw (test, begins) refl

-- a byte below the total
below-size : (n size at k : ℕ) → k < min (min n 4096) (size - at) → (at + k < size) × (k < 4096)
below-size n size at k less = (omega (arith, less), omega (arith, less))

-- the end of the run
abbrev ReadsFrom : ℕ → ℕ → ℕ → ℕ → Changed → Memory → FilePlace → ℕ → ℕ → Type 0
ReadsFrom count home at n c m place indirect k =
    EndsWith count (total_read n c.size at) (read_to m c.home at (total_read n c.size at))
    (at_file (job.Read home at n) count (with_indirect c indirect) place) (read_to m c.home at k)

-- a byte was read and is handed back
read-hand : NumbersAreRead → NumbersAreFound → (count home at n : ℕ) (c : Changed) (m : Memory) → HasBytes count (job.Read home at n) c m →
    (k indirect : ℕ) → is_block indirect ≡ true → k < total_read n c.size at →
    (k + 1 < total_read n c.size at → (other : ℕ) → is_block other ≡ true →
    ReadsFrom count home at n c m (file.Reading (block_of m c.home (at + (k + 1))) (k + 1)) other (k + 1)) →
    ReadsFrom count home at n c m (file.Handing (block_of m c.home (at + k)) k (value m.disk c.home at k)) indirect k
unfolding read_to
read-hand reads finds count home at n c m has k indirect one less goes =
    let j : Job = job.Read home at n in
    let h : ℕ = c.home in
    let block : ℕ = block_of m h (at + k) in
    let v : ℕ = value m.disk h at k in
    let total : ℕ = total_read n c.size at in
    let now : Changed = with_indirect c indirect in
    let inside = below-size n c.size at k less in
    let low : k < 4096 = inside.1 in
    let named = has.numbers ((at + k) / BLKSIZE) (in-blocks (at + k) c.size inside.0) in
    let placed = is-place k (omega (arith, low)) in
    let block_is = data-bounded count block has.counted.2 named in
    let here : TreeState = at_file j count now (file.Handing block k v) in
    let bounded : is_bounded here ≡ true =
    bounded-file j count now (file.Handing block k v) has.counted.2 has.job (indirect-bounded c indirect has.bounded one) (rw (block_is, placed) refl) in
    let after : record m { page = upd (handed m.page (value m.disk h at) k) k (low_byte v) } ≡ read_to m h at (k + 1) =
    ap (λ (p : ℕ → ℕ). record m { page = p })
    (ap (upd (handed m.page (value m.disk h at) k) k) (low-byte v (value-small m.disk h at k has.small.0)) ∙ sym (handed-more m.page (value m.disk h at) k)) in
    elim (cases_lt (k + 1) total) [
      | inl more ↦
          elim (cases_eq ((at + (k + 1)) % BLKSIZE) 0) [
            | inl first ↦
                let i : ℕ = (at + (k + 1)) / BLKSIZE in
                let further = below-size n c.size at (k + 1) more in
                let comes : ComesTo count j c i (wanted.Reading (k + 1)) (read_to m h at (k + 1)) indirect =
                number-comes reads finds count j c i (wanted.Reading (k + 1)) (read_to m h at (k + 1)) indirect (has-read count j c m at (k + 1) has)
                one (in-blocks (at + (k + 1)) c.size further.0) (is-place (k + 1) (omega (arith, low))) in
                ends_behind here (at_file j count now (file.Number i (wanted.Reading (k + 1)))) (read_to m h at k) (read_to m h at (k + 1)) bounded low
                (next-block count home at n now block k v 0 more first) after
                (ends_on (at_file j count now (file.Number i (wanted.Reading (k + 1)))) (read_to m h at (k + 1)) comes.run
                (goes more comes.indirect comes.bounded))
            | inr inner ↦
                let same : (at + (k + 1)) / BLKSIZE ≡ (at + k) / BLKSIZE = same-block (at + k) (at + (k + 1)) (omega arith) inner in
                ends_behind here (at_file j count now (file.Reading block (k + 1))) (read_to m h at k) (read_to m h at (k + 1)) bounded low
                (next-inner count home at n now block k v 0 more inner) after
                (subst (λ i. ReadsFrom count home at n c m (file.Reading (block_number_at m.disk h i) (k + 1)) indirect (k + 1)) same (goes more indirect one))
          ]
      | inr last ↦
          let whole : k + 1 ≡ total = omega (arith, last, less) in
          ends_here here (read_to m h at k) bounded low (next-read count home at n now block k v 0 last) (after ∙ ap (read_to m h at) whole)
    ]

-- it is read
read-turn : NumbersAreRead → NumbersAreFound → (count home at n : ℕ) (c : Changed) (m : Memory) → HasBytes count (job.Read home at n) c m →
    (k indirect : ℕ) → is_block indirect ≡ true → k < total_read n c.size at →
    (k + 1 < total_read n c.size at → (other : ℕ) → is_block other ≡ true →
    ReadsFrom count home at n c m (file.Reading (block_of m c.home (at + (k + 1))) (k + 1)) other (k + 1)) →
    ReadsFrom count home at n c m (file.Reading (block_of m c.home (at + k)) k) indirect k
unfolding read_to value
read-turn reads finds count home at n c m has k indirect one less goes =
    let j : Job = job.Read home at n in
    let h : ℕ = c.home in
    let block : ℕ = block_of m h (at + k) in
    let now : Changed = with_indirect c indirect in
    let inside = below-size n c.size at k less in
    let low : k < 4096 = inside.1 in
    let named = has.numbers ((at + k) / BLKSIZE) (in-blocks (at + k) c.size inside.0) in
    let below : block < count = (data-block count block named).1 in
    let placed = is-place k (omega (arith, low)) in
    let block_is = data-bounded count block has.counted.2 named in
    let here : TreeState = at_file j count now (file.Reading block k) in
    let bounded : is_bounded here ≡ true =
    bounded-file j count now (file.Reading block k) has.counted.2 has.job (indirect-bounded c indirect has.bounded one) (rw (block_is, placed) refl) in
    ends_behind here (at_file j count now (file.Handing block k (value m.disk h at k))) (read_to m h at k) (read_to m h at k) bounded
    (in-disk block count (at + k) below)
    (ap (λ w. GoOn (at_file j count now (file.Handing block k w))) (low-byte (value m.disk h at k) (value-small m.disk h at k has.small.0))) refl
    (read-hand reads finds count home at n c m has k indirect one less goes)

read-ends : NumbersAreRead → NumbersAreFound → (count home at n : ℕ) (c : Changed) (m : Memory) → HasBytes count (job.Read home at n) c m →
    (left k indirect : ℕ) → is_block indirect ≡ true → k + suc left ≡ total_read n c.size at →
    ReadsFrom count home at n c m (file.Reading (block_of m c.home (at + k)) k) indirect k
read-ends reads finds count home at n c m has zero k indirect one sum =
    read-turn reads finds count home at n c m has k indirect one (omega (arith, sum)) (λ more. absurd (omega (arith, sum, more)))
read-ends reads finds count home at n c m has (suc left) k indirect one sum =
    read-turn reads finds count home at n c m has k indirect one (omega (arith, sum))
    (λ more other other_is. read-ends reads finds count home at n c m has left (k + 1) other other_is (omega (arith, sum)))

-- ---- the plan

plan-answer : (byte : ℕ → ℕ) (home at n : ℕ) → (read_plan byte home at n).answer ≡ total_read n (size_of byte home) at
unfolding read_plan
plan-answer byte home at n = length-values (total_read n (size_of byte home) at) (λ k. byte (byte_place byte home (at + k)))

plan-length : (byte : ℕ → ℕ) (home at n : ℕ) → length (read_plan byte home at n).bytes ≡ total_read n (size_of byte home) at
unfolding read_plan
plan-length byte home at n = length-values (total_read n (size_of byte home) at) (λ k. byte (byte_place byte home (at + k)))

plan-at : (byte : ℕ → ℕ) (home at n k : ℕ) → k < total_read n (size_of byte home) at → value byte home at k ≡ slice_index (read_plan byte home at n).bytes k
unfolding read_plan value
plan-at byte home at n k less = sym (get_or-values (total_read n (size_of byte home) at) (λ k. byte (byte_place byte home (at + k))) k 0 less)

-- what is shown, of the record at a place
abbrev IsRead : ℕ → ℕ → ℕ → ℕ → Changed → Memory → ℕ → Type 0
IsRead count home at n c m place = let plan = read_plan m.disk place at n in
    0 < length plan.bytes →
    (page : ℕ → ℕ) × ((k : ℕ) → k < length plan.bytes → page k ≡ slice_index plan.bytes k) × ((k : ℕ) → length plan.bytes ≤ k → page k ≡ m.page k)
    × EndsWith count plan.answer (record m { page = page }) (at_file (job.Read home at n) count c (file.Number (at / BLKSIZE) (wanted.Reading 0))) m

reads-whole : NumbersAreRead → NumbersAreFound → (count home at n : ℕ) (c : Changed) (m : Memory) → HasBytes count (job.Read home at n) c m →
    IsRead count home at n c m c.home
unfolding read_to
reads-whole reads finds count home at n c m has some =
    let j : Job = job.Read home at n in
    let h : ℕ = c.home in
    let total : ℕ = total_read n c.size at in
    let sized : total_read n (size_of m.disk h) at ≡ total = ap (λ s. total_read n s at) has.size in
    let long : length (read_plan m.disk h at n).bytes ≡ total = plan-length m.disk h at n ∙ sized in
    let answers : (read_plan m.disk h at n).answer ≡ total = plan-answer m.disk h at n ∙ sized in
    let inside = below-size n c.size at 0 (omega (arith, some, long)) in
    let i : ℕ = at / BLKSIZE in
    let plain : at + 0 ≡ at = omega arith in
    let comes : ComesTo count j c i (wanted.Reading 0) m c.indirect =
    number-comes reads finds count j c i (wanted.Reading 0) m c.indirect has (bounded-indirect c has.bounded)
    (in-blocks at c.size (omega (arith, inside.0))) (is-place 0 (omega arith)) in
    let begins : read_to m h at 0 ≡ m = ap (λ (p : ℕ → ℕ). record m { page = p }) (handed-none m.page (value m.disk h at)) in
    let run : ReadsFrom count home at n c m (file.Reading (block_of m h at) 0) comes.indirect 0 =
    subst (λ a. ReadsFrom count home at n c m (file.Reading (block_of m h a) 0) comes.indirect 0) plain
    (read-ends reads finds count home at n c m has (total - 1) 0 comes.indirect comes.bounded (omega (arith, some, long))) in
    let ends : EndsWith count total (read_to m h at total) (at_file j count c (file.Number i (wanted.Reading 0))) m =
    ends_on (at_file j count c (file.Number i (wanted.Reading 0))) m comes.run
    (subst (λ (x : Memory). EndsWith count total (read_to m h at total)
    (at_file j count (with_indirect c comes.indirect) (file.Reading (block_of m h at) 0)) x) begins run) in (
      handed m.page (value m.disk h at) total,
      λ k less.
          let within : k < total = omega (arith, less, long) in
          handed-at m.page (value m.disk h at) total k within ∙ plan-at m.disk h at n k (omega (arith, within, sized)),
      λ k past. handed-past m.page (value m.disk h at) total k (omega (arith, past, long)),
      subst (λ (a : ℕ). EndsWith count a (read_to m h at total) (at_file j count c (file.Number i (wanted.Reading 0))) m) (sym answers) ends,
    )

pub bytes_are_read : NumbersAreRead → NumbersAreFound → BytesAreRead
bytes_are_read reads finds count home at n c m has at_home =
    subst (λ (place : ℕ). IsRead count home at n c m place) at_home (reads-whole reads finds count home at n c m has)
