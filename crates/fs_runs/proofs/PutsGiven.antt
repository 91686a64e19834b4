-- A block is given back, and a file's size is lowered.
use Rattle.std.proofs.Common.{◌≡◌, ◌∙◌, ◌<◌, ◌≤◌, ◌+◌, ◌*◌, ◌/◌, ◌%◌, ◌-◌, ◌^◌, ◌==◌, ◌⊎◌, inl, inr, ℕ, Bool, true, false, not, List, [], ◌++◌}
use Rattle.std.proofs.Common.{refl, sym, ap, subst, arith, if◌then◌else◌}
use Rattle.std.specs.Prelude.{nat_lt}
use Rattle.std.proofs.lemmas.Bool.Decides.{nat_tests}
use Rattle.fs_layout.specs.declared.numbers.TheConstants.{BLKSIZE, NDIRECT}
use Rattle.fs_layout.specs.DiskImage.{block_number_at, blocks_needed, first_data_block, has_indirect, indirect_of, is_data_block}
use Rattle.fs_layout.specs.FileTree.{blocks_of}
use Rattle.fs_acts.specs.BlockActs.{Put, cut, give_block, give_indirect, mark_free, mark_place, number_place, put_byte, put_indirect}
use Rattle.fs_acts.specs.BlockActs.{put_number, put_size, put_word, stored, written}
use Rattle.fs_acts.proofs.AtEnd.{map-block}
use Rattle.fs_acts.proofs.Puts.{written-append}
use Rattle.fs_acts.proofs.BlockPuts.{Beyond, below_or_past, written-last}
use Rattle.fs_acts.proofs.Stored.{stored-left}
use Rattle.fs_jobs.specs.declared.place.Change.{Change}
use Rattle.fs_jobs.specs.declared.place.Change.TheVariants as change
use Rattle.fs_jobs.specs.declared.place.Changed.{Changed}
use Rattle.fs_jobs.specs.declared.place.FilePlace.TheVariants as file
use Rattle.fs_jobs.specs.declared.place.Job.{Job}
use Rattle.fs_jobs.specs.declared.place.Wanted.TheVariants as wanted
use Rattle.fs_jobs.specs.declared.asks.TreeNext.TheVariants.{GoOn}
use Rattle.fs_changes.specs.ChangePlans.{change_next, marked_byte, number_at}
use Rattle.fs_jobs.specs.TreeBounds.{is_block}
use Rattle.fs_runs.specs.TreeRuns.{Memory}
use Rattle.fs_jobs.specs.RecordFields.{direct_at, indirect_at, size_at}
use Rattle.fs_runs.proofs.Leads.{Leads, here, leads_on}
use Rattle.fs_runs.proofs.Pieces.{BlocksAreGiven, Changes, IndirectsAreGiven, IsRead, NumbersAreRead, SizesAreCut, at_file, with_disk}
use Rattle.fs_runs.proofs.Puts.{block-small, data-parts, indirect-inside, less, marked, number-inside, number-same, place-small, size-inside, step}

-- ---- the size

cut-disk : (byte : ℕ → ℕ) (c : Changed) → IsRead byte c → c.end < c.size →
    written (cut c.home c.end byte) byte ≡ stored (put_word (size_at c.home) c.end) byte
unfolding cut
cut-disk byte c is lt =
    ap (λ (b : Bool). written (if b then put_size c.home c.end else []) byte) (ap (nat_lt c.end) is.size ∙ less c.end c.size lt)
    ∙ written-last (put_word (size_at c.home) c.end) byte

few-bytes : (size end : ℕ) → size ≤ 4235264 → end < size → end < 2 ^ 28
few-bytes size end most lt = omega arith

pub sizes_are_cut : SizesAreCut
sizes_are_cut count j c m changes lt =
    step changes (file.PutSize c.end) file.SizeNow m (place-small c.end (few-bytes c.size c.end changes.size_most lt))
    (size-inside count c.home changes.lies) refl
    (subst (λ (d : ℕ → ℕ). Leads count (at_file j count c file.SizeNow) (with_disk m d) (at_file j count c file.SizeNow)
    (with_disk m (stored (put_word (size_at c.home) c.end) m.disk)))
    (sym (cut-disk m.disk c changes.is_read lt)) here)

-- ---- the bit of a block, behind puts elsewhere

-- the bitmap has its own blocks, and no word of the record lies there
off-record : {count : ℕ} {j : Job} {c : Changed} {m : Memory} → Changes count j c m → (block at : ℕ) → block < count → c.home ≤ at →
    at + 4 ≤ c.home + 256 → Beyond 4 at (mark_place block)
off-record {count} {j} {c} changes block at within low high =
    let map = map-block count block within in
    apart c.home at (mark_place block) changes.one_block low high changes.off_map map.0 map.1
  where
    order : (first home at q : ℕ) → home ≤ at → first ≤ home / 4096 → q / 4096 < first → q < at
    order first home at q low behind below = let earlier : q / 4096 < home / 4096 = omega (arith, behind, below) in omega (arith, earlier, low)

    apart : (home at q : ℕ) → home % 4096 + 256 ≤ 4096 → home ≤ at → at + 4 ≤ home + 256 →
        (home / 4096 < 2) ⊎ (first_data_block count ≤ home / 4096) → 2 ≤ q / 4096 → q / 4096 < first_data_block count → Beyond 4 at q
    apart home at q one low high (inl before) after below = inr (omega (arith, one, high, before, after))
    apart home at q one low high (inr behind) after below = inl (order (first_data_block count) home at q low behind below)

-- nor the number of one of the blocks
off-number : {count : ℕ} {j : Job} {c : Changed} {m : Memory} → Changes count j c m → (block i : ℕ) → block < count → i < 1034 →
    (i < NDIRECT) ⊎ (is_data_block count c.indirect ≡ true) → Beyond 4 (number_at c i) (mark_place block)
off-number {count} {j} {c} changes block i within few has = by_test (nat_lt i NDIRECT) refl
  where
    below : (i : ℕ) → nat_lt i NDIRECT ≡ true → i < 10
    below i test = grind (arith, nat_tests)

    past : (i : ℕ) → nat_lt i NDIRECT ≡ false → 10 ≤ i
    past i test = grind (arith, nat_tests)

    own : (i : ℕ) → i < 10 → Beyond 4 (direct_at c.home i) (mark_place block)
    own i near = off-record changes block (direct_at c.home i) within (omega arith) (omega (arith, near))

    before : (first indirect i q : ℕ) → first ≤ indirect → q / 4096 < first → q < 4096 * indirect + 4 * (i - 10)
    before first indirect i q behind map = let order : q / 4096 < indirect = omega (arith, behind, map) in omega (arith, order)

    in_block : (i : ℕ) → 10 ≤ i → (i < NDIRECT) ⊎ (is_data_block count c.indirect ≡ true) →
        Beyond 4 (BLKSIZE * c.indirect + 4 * (i - NDIRECT)) (mark_place block)
    in_block i far (inl near) = absurd (omega (arith, far, near))
    in_block i far (inr sound) =
        inl (before (first_data_block count) c.indirect i (mark_place block) (data-parts count c.indirect sound).0 (map-block count block within).1)

    by_test : (b : Bool) → nat_lt i NDIRECT ≡ b →
        Beyond 4 (if b then direct_at c.home i else BLKSIZE * c.indirect + 4 * (i - NDIRECT)) (mark_place block)
    by_test true test = own i (below i test)
    by_test false test = in_block i (past i test) has

abbrev freed_byte : (ℕ → ℕ) → ℕ → ℕ
freed_byte byte block = marked_byte change.GiveBlock block (byte (mark_place block))

-- The bit is set in the byte as it was before.
given-run : {count : ℕ} {j : Job} {c : Changed} {m0 : Memory} → Changes count j c m0 → (x : Change) (block : ℕ) (m : Memory) (before after : ℕ → ℕ) →
    block < count → before (mark_place block) < 256 → m.disk (mark_place block) ≡ before (mark_place block) →
    ((byte : ℕ) → change_next (at_file j count c (file.PutMark x block byte)) c (file.PutMark x block byte) 0
    ≡ GoOn (at_file j count c file.SizeNow)) →
    ((b : ℕ) → marked_byte x block b ≡ marked_byte change.GiveBlock block b) →
    stored (put_byte (mark_place block) (freed_byte before block)) m.disk ≡ after →
    Leads count (at_file j count c file.SizeNow) (with_disk m after) (at_file j count c (file.Mark x block)) m
given-run {count} {j} {c} {m0} changes x block m before after within small same goes gives is =
    let small_now : m.disk (mark_place block) < 256 = subst (λ (n : ℕ). n < 256) (sym same) small in
    let now : stored (put_byte (mark_place block) (marked_byte x block (m.disk (mark_place block)))) m.disk ≡ after =
    ap (λ (n : ℕ). stored (put_byte (mark_place block) n) m.disk)
    (ap (marked_byte x block) same ∙ gives (before (mark_place block)))
    ∙ is in
    marked changes x block file.SizeNow m within small_now goes
    (subst (λ (d : ℕ → ℕ). Leads count (at_file j count c file.SizeNow) (with_disk m d) (at_file j count c file.SizeNow)
    (with_disk m (stored (put_byte (mark_place block) (marked_byte x block (m.disk (mark_place block)))) m.disk)))
    now here)

-- ---- an indirect block

given-indirect : (byte : ℕ → ℕ) (c : Changed) → IsRead byte c → (c.indirect == 0) ≡ false →
    written (give_indirect c.home byte) byte
    ≡ stored (put_byte (mark_place c.indirect) (freed_byte byte c.indirect)) (stored (put_word (indirect_at c.home) 0) byte)
unfolding give_indirect
given-indirect byte c is some =
    let old : ℕ = indirect_of byte c.home in
    let has : has_indirect byte c.home ≡ true = ap (λ (n : ℕ). not (n == 0)) is.indirect ∙ ap not some in
    ap (λ (b : Bool). written (if b then put_indirect c.home 0 ++ mark_free byte old else []) byte) has
    ∙ written-append (put_indirect c.home 0) (mark_free byte old) byte
    ∙ ap (written (mark_free byte old)) (written-last (put_word (indirect_at c.home) 0) byte)
    ∙ written-last (put_byte (mark_place old) (freed_byte byte old)) (stored (put_word (indirect_at c.home) 0) byte)
    ∙ ap (λ (n : ℕ). stored (put_byte (mark_place n) (freed_byte byte n)) (stored (put_word (indirect_at c.home) 0) byte)) is.indirect

not_zero : (first n : ℕ) → 2 ≤ first → first ≤ n → (n == 0) ≡ false
not_zero first n some behind = grind (arith, nat_tests)

pub indirects_are_given : IndirectsAreGiven
indirects_are_given count j c m changes sound =
    let parts = data-parts count c.indirect sound in
    let most = changes.counted.2 in
    let within = parts.1 in
    let is : is_block c.indirect ≡ true = block-small c.indirect (omega (arith, most, within)) in
    let now : ℕ → ℕ = stored (put_word (indirect_at c.home) 0) m.disk in
    let off = off-record changes c.indirect (indirect_at c.home) within (omega arith) (omega arith) in
    step changes (file.PutIndirect change.GiveIndirect c.indirect) (file.Mark change.GiveIndirect c.indirect) m is
    (indirect-inside count c.home changes.lies) refl
    (given-run changes change.GiveIndirect c.indirect (with_disk m now) m.disk (written (give_indirect c.home m.disk) m.disk) within
    (changes.small.0 (mark_place c.indirect)) (stored-left (put_word (indirect_at c.home) 0) m.disk (mark_place c.indirect) off)
    (λ byte. refl) (λ b. refl)
    (sym (given-indirect m.disk c changes.is_read (not_zero (first_data_block count) c.indirect (omega arith) parts.0))))

-- ---- a block of the file

given-block : (byte : ℕ → ℕ) (c : Changed) → IsRead byte c → let last = blocks_of c.size - 1 in let block = block_number_at byte c.home last in
    written (give_block c.home byte) byte
    ≡ stored (put_byte (mark_place block) (freed_byte byte block))
    (stored (put_word (number_at c last) 0) (stored (put_word (size_at c.home) (BLKSIZE * last)) byte))
unfolding give_block
given-block byte c is =
    let last : ℕ = blocks_needed byte c.home - 1 in
    let block : ℕ = block_number_at byte c.home last in
    let size : List Put = put_size c.home (BLKSIZE * last) in
    let number : List Put = put_number byte c.home last 0 in
    let less : ℕ → ℕ = stored (put_word (size_at c.home) (BLKSIZE * last)) byte in
    let mark : ℕ → (ℕ → ℕ) → ℕ → ℕ = λ n. stored (put_byte (mark_place n) (freed_byte byte n)) in
    written-append (size ++ number) (mark_free byte block) byte
    ∙ ap (written (mark_free byte block))
    (written-append size number byte
    ∙ ap (written number) (written-last (put_word (size_at c.home) (BLKSIZE * last)) byte)
    ∙ written-last (put_word (number_place byte c.home last) 0) less
    ∙ ap (λ (p : ℕ). stored (put_word p 0) less) (number-same byte c last is))
    ∙ written-last (put_byte (mark_place block) (freed_byte byte block)) (stored (put_word (number_at c last) 0) less)
    ∙ ap (λ (old : ℕ).
    mark (block_number_at byte c.home (blocks_of old - 1))
    (stored (put_word (number_at c (blocks_of old - 1)) 0) (stored (put_word (size_at c.home) (BLKSIZE * (blocks_of old - 1))) byte)))
    is.size

few_blocks : (size : ℕ) → size ≤ 4235264 → 0 < size → ((size + 4095) / 4096 ≤ 1034) × (0 < (size + 4095) / 4096)
few_blocks size most some = (omega (arith, most), omega (arith, some))

last-small : (size : ℕ) → size ≤ 4235264 → 4096 * ((size + 4095) / 4096 - 1) < 2 ^ 28
last-small size most = omega arith

-- one of so many blocks, and whether the numbers behind the tenth are there
last-has : (count n indirect : ℕ) → 0 < n → (NDIRECT < n → is_data_block count indirect ≡ true) →
    (n - 1 < NDIRECT) ⊎ (is_data_block count indirect ≡ true)
last-has count n indirect some needed = elim (below_or_past (n - 1) 10) [
  | inl near ↦ inl near
  | inr far ↦ inr (needed (omega (arith, some, far)))
]

pub blocks_are_given : NumbersAreRead → BlocksAreGiven
blocks_are_given numbers count j c m changes blocks apart some =
    let n : ℕ = blocks_of c.size in
    let last : ℕ = n - 1 in
    let block : ℕ = block_number_at m.disk c.home last in
    let few = few_blocks c.size changes.size_most some in
    let within_size : last < n = omega (arith, few) in
    let sound : is_data_block count block ≡ true = blocks.0 last within_size in
    let within : block < count = (data-parts count block sound).1 in
    let most = changes.counted.2 in
    let is : is_block block ≡ true = block-small block (omega (arith, most, within)) in
    let has = last-has count n c.indirect few.1 blocks.1 in
    let last_few : last < 1034 = omega (arith, few) in
    let less : ℕ → ℕ = stored (put_word (size_at c.home) (BLKSIZE * last)) m.disk in
    let none : ℕ → ℕ = stored (put_word (number_at c last) 0) less in
    let off_size = off-record changes block (size_at c.home) within (omega arith) (omega arith) in
    let off = off-number changes block last within last_few has in
    leads_on (at_file j count c (file.Number last wanted.Giving)) m
    (numbers count j c last wanted.Giving m changes.counted changes.small changes.lies changes.job changes.bounded refl last_few sound
    (λ far. subst (λ (k : ℕ). is_data_block count k ≡ true) (sym changes.is_read.indirect) (blocks.1 (omega (arith, far, few))))
    (inl (sym changes.is_read.indirect)))
    (step changes (file.PutLess block) (file.PutNumber change.GiveBlock block) m is (size-inside count c.home changes.lies) refl
    (step changes (file.PutNumber change.GiveBlock block) (file.Mark change.GiveBlock block) (with_disk m less) is
    (number-inside count c last changes.lies last_few has) refl
    (given-run changes change.GiveBlock block (with_disk m none) m.disk (written (give_block c.home m.disk) m.disk) within
    (changes.small.0 (mark_place block))
    (stored-left (put_word (number_at c last) 0) less (mark_place block) off
    ∙ stored-left (put_word (size_at c.home) (BLKSIZE * last)) m.disk (mark_place block) off_size)
    (λ byte. refl) (λ b. refl) (sym (given-block m.disk c changes.is_read)))))
