-- The run that writes bytes to a file.
use Rattle.std.proofs.Common.{◌≡◌, ◌≢◌, ◌∙◌, ◌+◌, ◌-◌, ◌*◌, ◌/◌, ◌%◌, ◌<◌, ◌≤◌, ◌==◌, ℕ, zero, suc, true, false}
use Rattle.std.proofs.Common.{refl, sym, ap, subst, arith, inl, inr}
use Rattle.std.specs.Prelude.{nat_le, slice_index}
use Rattle.std.proofs.lemmas.Bool.{cases_eq, cases_lt}
use Rattle.std.proofs.lemmas.Bool.Decides.{nat_tests}
use Rattle.jos_base.specs.Below.{values_below}
use Rattle.jos_base.proofs.Below.{length-values}
use Rattle.fs_layout.specs.declared.numbers.TheConstants.{BLKSIZE}
use Rattle.fs_layout.specs.DiskImage.{block_number_at}
use Rattle.fs_acts.specs.BlockActs.{byte_place, overwrite, put_byte, put_bytes, stored, written}
use Rattle.fs_jobs.specs.declared.place.Changed.{Changed}
use Rattle.fs_jobs.specs.declared.place.FilePlace.{FilePlace}
use Rattle.fs_jobs.specs.declared.place.FilePlace.TheVariants as file
use Rattle.fs_jobs.specs.declared.place.Job.{Job}
use Rattle.fs_jobs.specs.declared.place.Job.TheVariants as job
use Rattle.fs_jobs.specs.declared.place.TreeState.{TreeState}
use Rattle.fs_jobs.specs.declared.place.Wanted.TheVariants as wanted
use Rattle.fs_jobs.specs.declared.asks.TreeNext.TheVariants.{Answer, GoOn}
use Rattle.fs_jobs.specs.TreeBounds.{is_block, is_bounded}
use Rattle.fs_runs.specs.TreePlans.{next_at}
use Rattle.fs_runs.specs.TreeRuns.{Memory, bytes_given}
use Rattle.fs_jobs.specs.TreeTests.{low_byte}
use Rattle.fs_runs.proofs.Leads.{Leads}
use Rattle.fs_runs.proofs.Pieces.{BytesAreWritten, EndsWith, NumbersAreFound, NumbersAreRead, at_file, with_disk}
use Rattle.fs_runs.proofs.DatasRuns.{bounded-file, ends_behind, ends_here, ends_on, is-place, low-byte}
use Rattle.fs_runs.proofs.DatasBytes.{ComesTo, bounded-indirect, data-block, data-bounded, in-blocks, indirect-bounded, number-comes, same-block, with_indirect}
use Rattle.fs_runs.proofs.DatasWritten.{Writes, disk-more, disk-none, disk_to, given, given-is, has-written, number-same, put_of, small-given, wrote_to}

-- ---- where it goes behind a byte

next-written : (count home at n : ℕ) (c : Changed) (block k v w : ℕ) → n ≤ k + 1 →
    next_at (at_file (job.Write home at n) count c (file.Writing block k v)) w ≡ Answer n
next-written count home at n c block k v w last =
    let test : nat_le n (k + 1) ≡ true = grind (arith, nat_tests) in rw test refl

next-block : (count home at n : ℕ) (c : Changed) (block k v w : ℕ) → k + 1 < n → (at + (k + 1)) % BLKSIZE ≡ 0 →
    next_at (at_file (job.Write home at n) count c (file.Writing block k v)) w
    ≡ GoOn (at_file (job.Write home at n) count c (file.Number ((at + (k + 1)) / BLKSIZE) (wanted.Writing (k + 1))))
next-block count home at n c block k v w more first =
    let test : nat_le n (k + 1) ≡ false = grind (arith, nat_tests) in
    let begins : ((at + (k + 1)) % BLKSIZE == 0) ≡ true = grind (arith, nat_tests) in
    rw (test, begins) refl

next-inner : (count home at n : ℕ) (c : Changed) (block k v w : ℕ) → k + 1 < n → (at + (k + 1)) % BLKSIZE ≢ 0 →
    next_at (at_file (job.Write home at n) count c (file.Writing block k v)) w
    ≡ GoOn (at_file (job.Write home at n) count c (file.Gathering block (k + 1)))
next-inner count home at n c block k v w more inner =
    let test : nat_le n (k + 1) ≡ false = grind (arith, nat_tests) in
    let begins : ((at + (k + 1)) % BLKSIZE == 0) ≡ false = grind (arith, nat_tests) in
    rw (test, begins) refl

in-disk : (block count a : ℕ) → block < count → BLKSIZE * block + a % BLKSIZE < BLKSIZE * count
in-disk block count a below = omega (arith, below)

-- ---- turns

-- the end of the run
abbrev WritesFrom : ℕ → ℕ → ℕ → ℕ → Changed → Memory → FilePlace → ℕ → ℕ → Type 0
WritesFrom count home at n c m place indirect k =
    EndsWith count n (wrote_to m c.home at n n) (at_file (job.Write home at n) count (with_indirect c indirect) place) (wrote_to m c.home at n k)

-- the block of a byte
abbrev block_of : Memory → ℕ → ℕ → ℕ
block_of m home a = block_number_at m.disk home (a / BLKSIZE)

-- a number is read behind so many bytes
number-behind : NumbersAreRead → NumbersAreFound → (count home at n : ℕ) (c : Changed) (m : Memory) → Writes count home at n c m →
    (k indirect : ℕ) → is_block indirect ≡ true → k < n →
    ((other : ℕ) → is_block other ≡ true → WritesFrom count home at n c m (file.Gathering (block_of m c.home (at + k)) k) other k) →
    WritesFrom count home at n c m (file.Number ((at + k) / BLKSIZE) (wanted.Writing k)) indirect k
unfolding wrote_to
number-behind reads finds count home at n c m writes k indirect one less goes =
    let j : Job = job.Write home at n in
    let i : ℕ = (at + k) / BLKSIZE in
    let within = writes.within in
    let short = writes.short in
    let below = in-blocks (at + k) c.size (omega (arith, less, within)) in
    let some : k ≤ n = omega (arith, less) in
    let now : Memory = wrote_to m c.home at n k in
    let comes : ComesTo count j c i (wanted.Writing k) now indirect =
    number-comes reads finds count j c i (wanted.Writing k) now indirect (has-written count home at n c m writes k some) one below
    (is-place k (omega (arith, less, short))) in
    let run : Leads count (at_file j count (with_indirect c comes.indirect) (file.Gathering (block_of m c.home (at + k)) k)) now
    (at_file j count (with_indirect c indirect) (file.Number i (wanted.Writing k))) now =
    subst (λ b. Leads count (at_file j count (with_indirect c comes.indirect) (file.Gathering b k)) now
    (at_file j count (with_indirect c indirect) (file.Number i (wanted.Writing k))) now)
    (number-same count home at n c m writes k some i below) comes.run in
    ends_on (at_file j count (with_indirect c indirect) (file.Number i (wanted.Writing k))) now run (goes comes.indirect comes.bounded)

-- a byte was fetched and is stored
write-store : NumbersAreRead → NumbersAreFound → (count home at n : ℕ) (c : Changed) (m : Memory) → Writes count home at n c m →
    (k indirect : ℕ) → is_block indirect ≡ true → k < n →
    (k + 1 < n → (other : ℕ) → is_block other ≡ true →
    WritesFrom count home at n c m (file.Gathering (block_of m c.home (at + (k + 1))) (k + 1)) other (k + 1)) →
    WritesFrom count home at n c m (file.Writing (block_of m c.home (at + k)) k (given m n k)) indirect k
unfolding wrote_to
write-store reads finds count home at n c m writes k indirect one less goes =
    let j : Job = job.Write home at n in
    let h : ℕ = c.home in
    let has = writes.has in
    let within = writes.within in
    let short = writes.short in
    let block : ℕ = block_of m h (at + k) in
    let v : ℕ = given m n k in
    let now : Changed = with_indirect c indirect in
    let named = has.numbers ((at + k) / BLKSIZE) (in-blocks (at + k) c.size (omega (arith, less, within))) in
    let below : block < count = (data-block count block named).1 in
    let placed = is-place k (omega (arith, less, short)) in
    let block_is = data-bounded count block has.counted.2 named in
    let here : TreeState = at_file j count now (file.Writing block k v) in
    let bounded : is_bounded here ≡ true =
    bounded-file j count now (file.Writing block k v) has.counted.2 has.job (indirect-bounded c indirect has.bounded one) (rw (block_is, placed) refl) in
    let inside : BLKSIZE * block + (at + k) % BLKSIZE < BLKSIZE * count = in-disk block count (at + k) below in
    let after : record m { disk = stored (put_byte (byte_place m.disk h (at + k)) (low_byte v)) (disk_to m h at n k) } ≡ wrote_to m h at n (k + 1) =
    ap (λ (d : ℕ → ℕ). record m { disk = d })
    (ap (λ x. stored (put_byte (byte_place m.disk h (at + k)) x) (disk_to m h at n k)) (low-byte v (small-given m n k has.small less))
    ∙ sym (disk-more m h at n k)) in
    elim (cases_lt (k + 1) n) [
      | inl more ↦
          elim (cases_eq ((at + (k + 1)) % BLKSIZE) 0) [
            | inl first ↦
                ends_behind here (at_file j count now (file.Number ((at + (k + 1)) / BLKSIZE) (wanted.Writing (k + 1)))) (wrote_to m h at n k)
                (wrote_to m h at n (k + 1)) bounded inside (next-block count home at n now block k v 0 more first) after
                (number-behind reads finds count home at n c m writes (k + 1) indirect one more (goes more))
            | inr inner ↦
                let same : (at + (k + 1)) / BLKSIZE ≡ (at + k) / BLKSIZE = same-block (at + k) (at + (k + 1)) (omega arith) inner in
                ends_behind here (at_file j count now (file.Gathering block (k + 1))) (wrote_to m h at n k) (wrote_to m h at n (k + 1)) bounded inside
                (next-inner count home at n now block k v 0 more inner) after
                (subst (λ i. WritesFrom count home at n c m (file.Gathering (block_number_at m.disk h i) (k + 1)) indirect (k + 1)) same
                (goes more indirect one))
          ]
      | inr last ↦
          let whole : k + 1 ≡ n = omega (arith, last, less) in
          ends_here here (wrote_to m h at n k) bounded inside (next-written count home at n now block k v 0 last)
          (after ∙ ap (wrote_to m h at n) whole)
    ]

-- it is fetched
write-turn : NumbersAreRead → NumbersAreFound → (count home at n : ℕ) (c : Changed) (m : Memory) → Writes count home at n c m →
    (k indirect : ℕ) → is_block indirect ≡ true → k < n →
    (k + 1 < n → (other : ℕ) → is_block other ≡ true →
    WritesFrom count home at n c m (file.Gathering (block_of m c.home (at + (k + 1))) (k + 1)) other (k + 1)) →
    WritesFrom count home at n c m (file.Gathering (block_of m c.home (at + k)) k) indirect k
unfolding wrote_to
write-turn reads finds count home at n c m writes k indirect one less goes =
    let j : Job = job.Write home at n in
    let h : ℕ = c.home in
    let has = writes.has in
    let within = writes.within in
    let short = writes.short in
    let block : ℕ = block_of m h (at + k) in
    let now : Changed = with_indirect c indirect in
    let named = has.numbers ((at + k) / BLKSIZE) (in-blocks (at + k) c.size (omega (arith, less, within))) in
    let placed = is-place k (omega (arith, less, short)) in
    let block_is = data-bounded count block has.counted.2 named in
    let here : TreeState = at_file j count now (file.Gathering block k) in
    let bounded : is_bounded here ≡ true =
    bounded-file j count now (file.Gathering block k) has.counted.2 has.job (indirect-bounded c indirect has.bounded one) (rw (block_is, placed) refl) in
    let byte : low_byte (m.page (8 + k)) ≡ given m n k = low-byte (m.page (8 + k)) (has.small.1 (8 + k)) ∙ sym (given-is m n k less) in
    ends_behind here (at_file j count now (file.Writing block k (given m n k))) (wrote_to m h at n k) (wrote_to m h at n k) bounded
    (omega (arith, less, short)) (ap (λ w. GoOn (at_file j count now (file.Writing block k w))) byte) refl
    (write-store reads finds count home at n c m writes k indirect one less goes)

write-ends : NumbersAreRead → NumbersAreFound → (count home at n : ℕ) (c : Changed) (m : Memory) → Writes count home at n c m →
    (left k indirect : ℕ) → is_block indirect ≡ true → k + suc left ≡ n →
    WritesFrom count home at n c m (file.Gathering (block_of m c.home (at + k)) k) indirect k
write-ends reads finds count home at n c m writes zero k indirect one sum =
    write-turn reads finds count home at n c m writes k indirect one (omega (arith, sum)) (λ more. absurd (omega (arith, sum, more)))
write-ends reads finds count home at n c m writes (suc left) k indirect one sum =
    write-turn reads finds count home at n c m writes k indirect one (omega (arith, sum))
    (λ more other other_is. write-ends reads finds count home at n c m writes left (k + 1) other other_is (omega (arith, sum)))

-- ---- the whole

wrote-none : (m : Memory) (home at n : ℕ) → wrote_to m home at n 0 ≡ m
unfolding wrote_to
wrote-none m home at n = ap (λ (d : ℕ → ℕ). record m { disk = d }) (disk-none m home at n)

wrote-all : (m : Memory) (home at n : ℕ) → wrote_to m home at n n ≡ with_disk m (written (overwrite home at (bytes_given m.page n) m.disk) m.disk)
unfolding wrote_to disk_to put_of given overwrite put_bytes
wrote-all m home at n =
    ap (λ x. with_disk m (written (values_below x (λ k. put_byte (byte_place m.disk home (at + k)) (slice_index (bytes_given m.page n) k))) m.disk))
    (sym (length-values n (λ k. m.page (8 + k))))

pub bytes_are_written : NumbersAreRead → NumbersAreFound → BytesAreWritten
bytes_are_written reads finds count home at n c m has at_home apart some within short =
    let j : Job = job.Write home at n in
    let writes : Writes count home at n c m = record { has = has; apart = apart; within = within; short = short } in
    let plain : at + 0 ≡ at = omega arith in
    let run : WritesFrom count home at n c m (file.Number ((at + 0) / BLKSIZE) (wanted.Writing 0)) c.indirect 0 =
    number-behind reads finds count home at n c m writes 0 c.indirect (bounded-indirect c has.bounded) some
    (λ other other_is. write-ends reads finds count home at n c m writes (n - 1) 0 other other_is (omega (arith, some))) in
    let begun : EndsWith count n (wrote_to m c.home at n n) (at_file j count c (file.Number (at / BLKSIZE) (wanted.Writing 0))) (wrote_to m c.home at n 0) =
    subst (λ a. EndsWith count n (wrote_to m c.home at n n) (at_file j count c (file.Number (a / BLKSIZE) (wanted.Writing 0))) (wrote_to m c.home at n 0))
    plain run in
    let from : EndsWith count n (wrote_to m c.home at n n) (at_file j count c (file.Number (at / BLKSIZE) (wanted.Writing 0))) m =
    subst (λ (x : Memory). EndsWith count n (wrote_to m c.home at n n) (at_file j count c (file.Number (at / BLKSIZE) (wanted.Writing 0))) x)
    (wrote-none m c.home at n) begun in
    subst (λ (x : Memory). EndsWith count n x (at_file j count c (file.Number (at / BLKSIZE) (wanted.Writing 0))) m)
    (wrote-all m c.home at n ∙ ap (λ h. with_disk m (written (overwrite h at (bytes_given m.page n) m.disk) m.disk)) at_home) from
