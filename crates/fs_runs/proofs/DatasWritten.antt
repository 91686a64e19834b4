-- Bytes are written to a file.
use Rattle.std.proofs.Common.{◌≡◌, ◌∙◌, ◌+◌, ◌-◌, ◌*◌, ◌/◌, ◌%◌, ◌<◌, ◌≤◌, ℕ, zero, suc, Bool, true, false}
use Rattle.std.proofs.Common.{refl, sym, ap, subst, arith, add-one}
use Rattle.std.specs.Prelude.{nat_lt, slice_index}
use Rattle.jos_base.specs.Below.{values_below}
use Rattle.jos_base.specs.Words.{word_at}
use Rattle.jos_base.proofs.Below.{get_or-values}
use Rattle.jos_base.proofs.Maps.{upd-all}
use Rattle.fs_layout.specs.declared.numbers.TheConstants.{BLKSIZE, MAXNAMELEN, NDIRECT, RECORDSIZE}
use Rattle.fs_layout.specs.DiskImage.{block_count, block_number_at, indirect_of, is_data_block, size_of}
use Rattle.fs_layout.specs.FileTree.{blocks_of}
use Rattle.fs_layout.specs.LayoutLaws.{Same}
use Rattle.fs_acts.specs.BlockActs.{Put, byte_place, put_byte, stored, written}
use Rattle.fs_acts.proofs.Fields.{same-word}
use Rattle.fs_acts.proofs.FileData.{place-block}
use Rattle.fs_acts.proofs.Stored.{left-values, written-left, written-more}
use Rattle.fs_jobs.specs.declared.place.Changed.{Changed}
use Rattle.fs_jobs.specs.declared.place.Job.TheVariants as job
use Rattle.fs_runs.specs.TreeRuns.{AreSmall, Memory, bytes_given}
use Rattle.fs_runs.proofs.Pieces.{BytesLieApart, HasBytes}
use Rattle.fs_runs.proofs.DatasBytes.{below-ten, data-block, few-blocks, in-blocks}
use Rattle.fs_runs.proofs.DatasBytes.{past-ten}

-- ---- the disk behind so many puts

unfoldable pub given : Memory → ℕ → ℕ → ℕ
given m n k = slice_index (bytes_given m.page n) k

unfoldable pub put_of : Memory → ℕ → ℕ → ℕ → ℕ → Put
put_of m home at n k = put_byte (byte_place m.disk home (at + k)) (given m n k)

unfoldable pub disk_to : Memory → ℕ → ℕ → ℕ → ℕ → ℕ → ℕ
disk_to m home at n k = written (values_below k (put_of m home at n)) m.disk

unfoldable pub wrote_to : Memory → ℕ → ℕ → ℕ → ℕ → Memory
wrote_to m home at n k = record m { disk = disk_to m home at n k }

pub disk-none : (m : Memory) (home at n : ℕ) → disk_to m home at n 0 ≡ m.disk
unfolding disk_to values_below written
disk-none m home at n = refl

pub disk-more : (m : Memory) (home at n k : ℕ) →
    disk_to m home at n (k + 1) ≡ stored (put_byte (byte_place m.disk home (at + k)) (given m n k)) (disk_to m home at n k)
unfolding disk_to put_of
disk-more m home at n k =
    ap (λ x. written (values_below x (put_of m home at n)) m.disk) (add-one k) ∙ written-more k (put_of m home at n) m.disk

pub given-is : (m : Memory) (n k : ℕ) → k < n → given m n k ≡ m.page (8 + k)
unfolding given
given-is m n k less = get_or-values n (λ i. m.page (8 + i)) k 0 less

-- what is given, of as many as there are
pub small-given : (m : Memory) (n k : ℕ) → AreSmall m → k < n → given m n k < 256
small-given m n k small less = subst (λ x. x < 256) (sym (given-is m n k less)) (small.1 (8 + k))

stored-small : (byte : ℕ → ℕ) (place value : ℕ) → value < 256 → ((q : ℕ) → byte q < 256) → (q : ℕ) → stored (put_byte place value) byte q < 256
unfolding stored
stored-small byte place value low small q = upd-all (λ i x. x < 256) byte place value low (λ i ne. small i) q

disk-small : (m : Memory) (home at n : ℕ) → AreSmall m → (k : ℕ) → k ≤ n → (q : ℕ) → disk_to m home at n k q < 256
disk-small m home at n small zero within q = subst (λ (f : ℕ → ℕ). f q < 256) (sym (disk-none m home at n)) (small.0 q)
disk-small m home at n small (suc k) within q =
    subst (λ (f : ℕ → ℕ). f q < 256) (sym (disk-more m home at n k) ∙ ap (disk_to m home at n) (add-one k))
    (stored-small (disk_to m home at n k) (byte_place m.disk home (at + k)) (given m n k) (small-given m n k small (omega (arith, within)))
    (disk-small m home at n small k (omega (arith, within))) q)

-- ---- what it keeps

-- the bytes are those of a file of this record
pub record Writes (count home at n : ℕ) (c : Changed) (m : Memory) : Type 0 where
  pub has : HasBytes count (job.Write home at n) c m
  pub apart : BytesLieApart c m.disk
  pub within : at + n ≤ c.size
  pub short : n + 8 ≤ 4096

-- a byte in none of the blocks
disk-kept : (count home at n : ℕ) (c : Changed) (m : Memory) → Writes count home at n c m → (k : ℕ) → k ≤ n → (q : ℕ) →
    ((i : ℕ) → i < blocks_of c.size → q / BLKSIZE ≡ block_number_at m.disk c.home i → ⊥) → disk_to m c.home at n k q ≡ m.disk q
unfolding disk_to put_of
disk-kept count home at n c m writes k some q off =
    let within = writes.within in
    written-left q (values_below k (put_of m c.home at n)) m.disk
    (left-values q k (put_of m c.home at n)
    (λ i less e.
    off ((at + i) / BLKSIZE) (in-blocks (at + i) c.size (omega (arith, less, some, within)))
    (ap (λ p. p / BLKSIZE) e ∙ place-block m.disk c.home (at + i))))

own-block : (home k : ℕ) → home % BLKSIZE + RECORDSIZE ≤ BLKSIZE → k < RECORDSIZE → (home + k) / BLKSIZE ≡ home / BLKSIZE
own-block home k one less = omega (arith, one, less)

that-block : (block k : ℕ) → k < BLKSIZE → (BLKSIZE * block + k) / BLKSIZE ≡ block
that-block block k less = omega (arith, less)

-- the record's
record-kept : (count home at n : ℕ) (c : Changed) (m : Memory) → Writes count home at n c m → (k : ℕ) → k ≤ n →
    Same RECORDSIZE (disk_to m c.home at n k) c.home m.disk c.home
record-kept count home at n c m writes k some o less =
    disk-kept count home at n c m writes k some (c.home + o)
    (λ i below e. writes.apart.own i below (sym (own-block c.home o writes.apart.one_block less) ∙ e))

-- its indirect block's
indirect-kept : (count home at n : ℕ) (c : Changed) (m : Memory) → Writes count home at n c m → (k : ℕ) → k ≤ n → NDIRECT < blocks_of c.size →
    let from : ℕ = BLKSIZE * indirect_of m.disk c.home in Same BLKSIZE (disk_to m c.home at n k) from m.disk from
indirect-kept count home at n c m writes k some many o less =
    let block : ℕ = indirect_of m.disk c.home in
    disk-kept count home at n c m writes k some (BLKSIZE * block + o)
    (λ i below e. writes.apart.indirect i below many (sym (that-block block o less) ∙ e))

-- the number of blocks
count-kept : (count home at n : ℕ) (c : Changed) (m : Memory) → Writes count home at n c m → (k : ℕ) → k ≤ n →
    block_count (disk_to m c.home at n k) ≡ block_count m.disk
count-kept count home at n c m writes k some =
    let kept : Same 4 (disk_to m c.home at n k) (BLKSIZE + 4) m.disk (BLKSIZE + 4) =
    λ o less. disk-kept count home at n c m writes k some (BLKSIZE + 4 + o)
    (λ i below e.
    let two = (data-block count (block_number_at m.disk c.home i) (writes.has.numbers i below)).0 in
    low o (block_number_at m.disk c.home i) less e two) in
    same-word 4 (disk_to m c.home at n k) m.disk (BLKSIZE + 4) kept (BLKSIZE + 4) (omega arith) (omega arith)
  where
    low : (o b : ℕ) → o < 4 → (4096 + 4 + o) / 4096 ≡ b → 2 ≤ b → ⊥
    low o b less e two = omega (arith, less, e, two)

-- and the numbers
indirect-same : (count home at n : ℕ) (c : Changed) (m : Memory) → Writes count home at n c m → (k : ℕ) → k ≤ n →
    indirect_of (disk_to m c.home at n k) c.home ≡ indirect_of m.disk c.home
indirect-same count home at n c m writes k some =
    same-word RECORDSIZE (disk_to m c.home at n k) m.disk c.home (record-kept count home at n c m writes k some)
    (c.home + MAXNAMELEN + 8 + 4 * NDIRECT) (omega arith) (omega arith)

size-same : (count home at n : ℕ) (c : Changed) (m : Memory) → Writes count home at n c m → (k : ℕ) → k ≤ n →
    size_of (disk_to m c.home at n k) c.home ≡ size_of m.disk c.home
size-same count home at n c m writes k some =
    same-word RECORDSIZE (disk_to m c.home at n k) m.disk c.home (record-kept count home at n c m writes k some)
    (c.home + MAXNAMELEN) (omega arith) (omega arith)

pub number-same : (count home at n : ℕ) (c : Changed) (m : Memory) → Writes count home at n c m → (k : ℕ) → k ≤ n → (i : ℕ) →
    i < blocks_of c.size → block_number_at (disk_to m c.home at n k) c.home i ≡ block_number_at m.disk c.home i
number-same count home at n c m writes k some i within = by (nat_lt i NDIRECT) refl
  where
    by : (own : Bool) → nat_lt i NDIRECT ≡ own → block_number_at (disk_to m c.home at n k) c.home i ≡ block_number_at m.disk c.home i
    by true own =
        let near = below-ten i own in
        rw own
        (same-word RECORDSIZE (disk_to m c.home at n k) m.disk c.home (record-kept count home at n c m writes k some)
        (c.home + MAXNAMELEN + 8 + 4 * i) (omega arith) (omega (arith, near)))
    by false own =
        let far = past-ten i own in
        let few = few-blocks c.size i writes.has.size_most within in
        let block : ℕ = indirect_of m.disk c.home in
        rw own
        (ap (λ b. word_at (disk_to m c.home at n k) (BLKSIZE * b + 4 * (i - NDIRECT))) (indirect-same count home at n c m writes k some)
        ∙ same-word BLKSIZE (disk_to m c.home at n k) m.disk (BLKSIZE * block)
        (indirect-kept count home at n c m writes k some (omega (arith, far, within))) (BLKSIZE * block + 4 * (i - NDIRECT))
        (omega arith) (omega (arith, few, far)))

pub has-written : (count home at n : ℕ) (c : Changed) (m : Memory) → Writes count home at n c m → (k : ℕ) → k ≤ n →
    HasBytes count (job.Write home at n) c (wrote_to m c.home at n k)
unfolding wrote_to
has-written count home at n c m writes k some =
    let has = writes.has in
    record {
      counted = (count-kept count home at n c m writes k some ∙ has.counted.0, has.counted.1, has.counted.2);
      small = (disk-small m c.home at n has.small k some, has.small.1);
      lies = has.lies;
      job = has.job;
      bounded = has.bounded;
      size = size-same count home at n c m writes k some ∙ has.size;
      size_most = has.size_most;
      numbers = λ i within.
          ap (is_data_block count) (number-same count home at n c m writes k some i within) ∙ has.numbers i within;
      indirect = λ many. ap (is_data_block count) (indirect-same count home at n c m writes k some) ∙ has.indirect many;
    }
