-- A block is taken, for a file's bytes or for the numbers of its blocks.
use Rattle.std.proofs.Common.{◌≡◌, ◌∙◌, ◌<◌, ◌≤◌, ◌+◌, ◌*◌, ◌==◌, ◌||◌, ℕ, Bool, true, false, not, List, [], ◌++◌, Option, Some}
use Rattle.std.proofs.Common.{refl, sym, ap, subst, arith, if◌then◌else◌}
use Rattle.std.specs.Prelude.{min, nat_lt}
use Rattle.fs_layout.specs.declared.numbers.TheConstants.{BLKSIZE, NDIRECT}
use Rattle.fs_layout.specs.DiskImage.{blocks_needed, has_indirect, is_data_block}
use Rattle.fs_layout.specs.FileTree.{blocks_of}
use Rattle.fs_acts.specs.BlockActs.{Put, lowest_free, mark_place, mark_used, number_place, put_byte, put_indirect, put_number, put_size, put_word}
use Rattle.fs_acts.specs.BlockActs.{stored, take_block, take_indirect, with_taken, written, zero_block}
use Rattle.fs_acts.proofs.FreeBlocks.{lowest-free}
use Rattle.fs_acts.proofs.Puts.{written-append}
use Rattle.fs_acts.proofs.BlockPuts.{written-last}
use Rattle.fs_jobs.specs.declared.place.Change.{Change}
use Rattle.fs_jobs.specs.declared.place.Change.TheVariants as change
use Rattle.fs_jobs.specs.declared.place.Changed.{Changed}
use Rattle.fs_jobs.specs.declared.place.FilePlace.TheVariants as file
use Rattle.fs_jobs.specs.declared.place.Job.{Job}
use Rattle.fs_jobs.specs.declared.place.TreeState.{TreeState}
use Rattle.fs_jobs.specs.declared.asks.TreeNext.TheVariants.{GoOn}
use Rattle.fs_changes.specs.ChangePlans.{behind_zeros, change_next, marked_byte, number_at}
use Rattle.fs_jobs.specs.TreeBounds.{is_block}
use Rattle.fs_runs.specs.JobCalls.{take_calls}
use Rattle.fs_runs.specs.TreeRuns.{Memory}
use Rattle.fs_jobs.specs.RecordFields.{indirect_at, size_at}
use Rattle.fs_runs.proofs.Leads.{Leads, LeadsIn, here, leads_on}
use Rattle.fs_runs.proofs.Pieces.{BlocksAreTaken, Changes, IndirectsAreTaken, IsRead, LowestIsFound, at_file, with_disk}
use Rattle.fs_runs.proofs.Puts.{block-small, data-parts, indirect-inside, marked, not_less, number-inside, number-same, size-inside, step, zeros}

-- ---- the block

-- nothing else begins on the way
alone : (n : ℕ) → n + 0 ≡ n
alone n = omega arith

-- the disk with its bit cleared and its bytes zeros
abbrev taken : (ℕ → ℕ) → ℕ → ℕ → ℕ
taken byte block = written (zero_block block) (written (mark_used byte block) byte)

abbrev used_byte : (ℕ → ℕ) → ℕ → ℕ
used_byte byte block = marked_byte change.TakeBlock block (byte (mark_place block))

taken-run : {count : ℕ} {j : Job} {c : Changed} {m0 : Memory} {to : TreeState} {after : Memory} → Changes count j c m0 → (x : Change) (block : ℕ)
    (m : Memory) → block < count → m.disk (mark_place block) < 256 →
    ((byte : ℕ) → change_next (at_file j count c (file.PutMark x block byte)) c (file.PutMark x block byte) 0
    ≡ GoOn (at_file j count c (file.Zero x block 0))) →
    marked_byte x block (m.disk (mark_place block)) ≡ used_byte m.disk block →
    Leads count to after (at_file j count c (behind_zeros x block)) (with_disk m (taken m.disk block)) →
    Leads count to after (at_file j count c (file.Mark x block)) m
taken-run {count} {j} {c} {m0} {to} {after} changes x block m within small goes same rest =
    let now : ℕ → ℕ = written (mark_used m.disk block) m.disk in
    let is : now ≡ stored (put_byte (mark_place block) (marked_byte x block (m.disk (mark_place block)))) m.disk =
    written-last (put_byte (mark_place block) (used_byte m.disk block)) m.disk
    ∙ ap (λ (n : ℕ). stored (put_byte (mark_place block) n) m.disk) (sym same) in
    marked changes x block (file.Zero x block 0) m within small goes
    (subst (λ (d : ℕ → ℕ). Leads count to after (at_file j count c (file.Zero x block 0)) (with_disk m d)) is
    (zeros changes x block (with_disk m now) within rest))

-- the puts of the block, and others behind them
taken-then : (byte : ℕ → ℕ) (block : ℕ) (rest : List Put) →
    written (mark_used byte block ++ zero_block block ++ rest) byte ≡ written rest (taken byte block)
taken-then byte block rest =
    written-append (mark_used byte block) (zero_block block ++ rest) byte
    ∙ written-append (zero_block block) rest (written (mark_used byte block) byte)

-- ---- a block of the file

taken-block : (byte : ℕ → ℕ) (c : Changed) (block : ℕ) → IsRead byte c → lowest_free byte ≡ Some block →
    written (take_block c.home c.end byte) byte
    ≡ stored (put_word (size_at c.home) (min c.end (BLKSIZE * (blocks_of c.size + 1))))
    (stored (put_word (number_at c (blocks_of c.size)) block) (taken byte block))
unfolding take_block
taken-block byte c block is free =
    let n : ℕ = blocks_needed byte c.home in
    let number : List Put = put_number byte c.home n block in
    let size : ℕ = min c.end (BLKSIZE * (n + 1)) in
    let puts : ℕ → List Put = λ b. mark_used byte b ++ zero_block b ++ put_number byte c.home n b ++ put_size c.home size in
    ap (λ (found : Option ℕ). written (with_taken puts found) byte) free
    ∙ written-append (mark_used byte block ++ zero_block block ++ number) (put_size c.home size) byte
    ∙ ap (written (put_size c.home size)) (taken-then byte block number)
    ∙ written-last (put_word (size_at c.home) size) (written number (taken byte block))
    ∙ ap (λ (d : ℕ → ℕ). stored (put_word (size_at c.home) size) d) (written-last (put_word (number_place byte c.home n) block) (taken byte block))
    ∙ ap (λ (p : ℕ). stored (put_word (size_at c.home) size) (stored (put_word p block) (taken byte block))) (number-same byte c n is)
    ∙ ap (λ (old : ℕ).
    stored (put_word (size_at c.home) (min c.end (BLKSIZE * (blocks_of old + 1))))
    (stored (put_word (number_at c (blocks_of old)) block) (taken byte block)))
    is.size

pub blocks_are_taken : LowestIsFound → BlocksAreTaken
blocks_are_taken lowest count j c m block changes free has whole few =
    let sound = (lowest-free m.disk block free).1 in
    let within : block < count = (data-parts count block (subst (λ (n : ℕ). is_data_block n block ≡ true) changes.counted.0 sound)).1 in
    let most = changes.counted.2 in
    let is : is_block block ≡ true = block-small block (omega (arith, most, within)) in
    let now : ℕ → ℕ = taken m.disk block in
    let numbered : ℕ → ℕ = stored (put_word (number_at c (blocks_of c.size)) block) now in
    subst (λ (k : ℕ). LeadsIn count (at_file j count c file.SizeNow) (with_disk m (written (take_block c.home c.end m.disk) m.disk)) k
    (at_file j count c (file.Lowest change.TakeBlock 0)) m)
    (alone (take_calls count))
    (leads_on (at_file j count c (file.Lowest change.TakeBlock 0)) m
    (lowest count j c change.TakeBlock m block changes.counted changes.small changes.job changes.bounded free)
    (taken-run changes change.TakeBlock block m within (changes.small.0 (mark_place block)) (λ byte. refl) refl
    (step changes (file.PutNumber change.TakeBlock block) file.PutMore (with_disk m now) is
    (number-inside count c (blocks_of c.size) changes.lies few has) refl
    (step changes file.PutMore file.SizeNow (with_disk m numbered) refl (size-inside count c.home changes.lies) refl
    (subst (λ (d : ℕ → ℕ). Leads count (at_file j count c file.SizeNow) (with_disk m d) (at_file j count c file.SizeNow)
    (with_disk m (stored (put_word (size_at c.home) (min c.end (BLKSIZE * (blocks_of c.size + 1)))) numbered)))
    (sym (taken-block m.disk c block changes.is_read free)) here)))))

-- ---- an indirect block

neither : (a b : Bool) → a ≡ false → b ≡ false → (a || b) ≡ false
neither true b first second = first
neither false b first second = second

taken-indirect : (byte : ℕ → ℕ) (c : Changed) (block : ℕ) → IsRead byte c → lowest_free byte ≡ Some block → NDIRECT ≤ blocks_of c.size →
    c.indirect ≡ 0 → written (take_indirect c.home byte) byte ≡ stored (put_word (indirect_at c.home) block) (taken byte block)
unfolding take_indirect
taken-indirect byte c block is free many none =
    let lacks : (nat_lt (blocks_needed byte c.home) NDIRECT || has_indirect byte c.home) ≡ false =
    neither (nat_lt (blocks_needed byte c.home) NDIRECT) (has_indirect byte c.home)
    (ap (λ (n : ℕ). nat_lt (blocks_of n) NDIRECT) is.size ∙ not_less (blocks_of c.size) NDIRECT many)
    (ap (λ (n : ℕ). not (n == 0)) (is.indirect ∙ none)) in
    let puts : ℕ → List Put = λ b. mark_used byte b ++ zero_block b ++ put_indirect c.home b in
    ap (λ (b : Bool). written (if b then [] else with_taken puts (lowest_free byte)) byte) lacks
    ∙ ap (λ (found : Option ℕ). written (with_taken puts found) byte) free
    ∙ taken-then byte block (put_indirect c.home block)
    ∙ written-last (put_word (indirect_at c.home) block) (taken byte block)

pub indirects_are_taken : LowestIsFound → IndirectsAreTaken
indirects_are_taken lowest count j c m block changes free many none =
    let sound = (lowest-free m.disk block free).1 in
    let within : block < count = (data-parts count block (subst (λ (n : ℕ). is_data_block n block ≡ true) changes.counted.0 sound)).1 in
    let most = changes.counted.2 in
    let is : is_block block ≡ true = block-small block (omega (arith, most, within)) in
    let now : ℕ → ℕ = taken m.disk block in
    subst (λ (k : ℕ). LeadsIn count (at_file j count c file.SizeNow) (with_disk m (written (take_indirect c.home m.disk) m.disk)) k
    (at_file j count c (file.Lowest change.TakeIndirect 0)) m)
    (alone (take_calls count))
    (leads_on (at_file j count c (file.Lowest change.TakeIndirect 0)) m
    (lowest count j c change.TakeIndirect m block changes.counted changes.small changes.job changes.bounded free)
    (taken-run changes change.TakeIndirect block m within (changes.small.0 (mark_place block)) (λ byte. refl) refl
    (step changes (file.PutIndirect change.TakeIndirect block) file.SizeNow (with_disk m now) is
    (indirect-inside count c.home changes.lies) refl
    (subst (λ (d : ℕ → ℕ). Leads count (at_file j count c file.SizeNow) (with_disk m d) (at_file j count c file.SizeNow)
    (with_disk m (stored (put_word (indirect_at c.home) block) now)))
    (sym (taken-indirect m.disk c block changes.is_read free many none)) here))))
