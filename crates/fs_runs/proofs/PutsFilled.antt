-- Zeros come up to the end of a file, or of its last block, and its size is raised to there.
use Rattle.std.proofs.Common.{◌≡◌, ◌∙◌, ◌<◌, ◌≤◌, ◌+◌, ◌*◌, ◌/◌, ◌%◌, ◌-◌, ◌^◌, inl, ℕ, zero, suc, Bool, true, false, List, [], ◌++◌}
use Rattle.std.proofs.Common.{refl, sym, ap, subst, arith, if◌then◌else◌}
use Rattle.std.specs.Prelude.{min, nat_le, replicate, slice_index}
use Rattle.std.proofs.lemmas.Bool.Decides.{nat_tests}
use Rattle.std.proofs.lemmas.List.{get_or-replicate, length-replicate}
use Rattle.jos_base.specs.Below.{values_below}
use Rattle.jos_base.proofs.Below.{values-same}
use Rattle.fs_layout.specs.declared.numbers.TheConstants.{BLKSIZE}
use Rattle.fs_layout.specs.DiskImage.{block_number_at, is_data_block, size_of}
use Rattle.fs_layout.specs.FileTree.{blocks_of}
use Rattle.fs_acts.specs.BlockActs.{Put, byte_place, fill, put_byte, put_bytes, put_size, put_word, stored, written}
use Rattle.fs_acts.proofs.Puts.{written-append}
use Rattle.fs_acts.proofs.BlockPuts.{written-last}
use Rattle.fs_acts.proofs.Stored.{written-more}
use Rattle.fs_jobs.specs.declared.place.Changed.{Changed}
use Rattle.fs_jobs.specs.declared.place.FilePlace.{FilePlace}
use Rattle.fs_jobs.specs.declared.place.FilePlace.TheVariants as file
use Rattle.fs_jobs.specs.declared.place.Job.{Job}
use Rattle.fs_jobs.specs.declared.place.TreeState.{TreeState}
use Rattle.fs_jobs.specs.declared.place.Wanted.TheVariants as wanted
use Rattle.fs_jobs.specs.declared.asks.TreeNext.TheVariants.{GoOn}
use Rattle.fs_changes.specs.ChangePlans.{change_next, fill_end}
use Rattle.fs_jobs.specs.TreeBounds.{is_block, is_place}
use Rattle.fs_runs.specs.TreeRuns.{Memory}
use Rattle.fs_jobs.specs.RecordFields.{size_at}
use Rattle.fs_runs.proofs.Leads.{Leads, LeadsIn, here, leads_on}
use Rattle.fs_runs.proofs.Pieces.{Changes, EndsAreFilled, IsRead, NumbersAreRead, at_file, with_disk}
use Rattle.fs_runs.proofs.Puts.{block-small, both, data-parts, less, place-small, size-inside, step}

-- ---- bytes in the last block

abbrev zero_byte : ℕ → ℕ → ℕ → Put
zero_byte block size k = put_byte (BLKSIZE * block + (size + k) % BLKSIZE) 0

abbrev filled : ℕ → ℕ → (ℕ → ℕ) → ℕ → ℕ → ℕ
filled block size byte n = written (values_below n (zero_byte block size)) byte

filled-none : (block size : ℕ) (byte : ℕ → ℕ) → filled block size byte 0 ≡ byte
unfolding values_below written
filled-none block size byte = refl

-- one of them; what comes behind the last, where the size is put, weighs 18
fill-turn : {count : ℕ} {j : Job} {c : Changed} {m0 : Memory} {to : TreeState} {after : Memory} → Changes count j c m0 → (block size : ℕ) (m : Memory)
    (byte : ℕ → ℕ) → block < count → (n : ℕ) → size + n < 2 ^ 28 → (q : FilePlace) →
    change_next (at_file j count c (file.Filling block (size + n))) c (file.Filling block (size + n)) 0 ≡ GoOn (at_file j count c q) →
    LeadsIn count to after 18 (at_file j count c q) (with_disk m (filled block size byte (suc n))) →
    LeadsIn count to after 18 (at_file j count c (file.Filling block (size + n))) (with_disk m (filled block size byte n))
fill-turn {count} {j} {c} {m0} {to} {after} changes block size m byte within n small q goes rest =
    let few = changes.counted.2 in
    let is = both (is_block block) (is_place (size + n)) (block-small block (omega (arith, few, within))) (place-small (size + n) small) in
    let inside : BLKSIZE * block + (size + n) % BLKSIZE < BLKSIZE * count = omega (arith, within) in
    step changes (file.Filling block (size + n)) q (with_disk m (filled block size byte n)) is inside goes
    (subst (λ (d : ℕ → ℕ). LeadsIn count to after 18 (at_file j count c q) (with_disk m d)) (written-more n (zero_byte block size) byte) rest)

fill-goes : (count : ℕ) (j : Job) (c : Changed) (block at : ℕ) (test : Bool) → nat_le (fill_end c) (at + 1) ≡ test →
    change_next (at_file j count c (file.Filling block at)) c (file.Filling block at) 0
    ≡ (if test then GoOn (at_file j count c (file.PutSize (fill_end c))) else GoOn (at_file j count c (file.Filling block (at + 1))))
fill-goes count j c block at test is =
    ap (λ (b : Bool). if b then GoOn (at_file j count c (file.PutSize (fill_end c))) else GoOn (at_file j count c (file.Filling block (at + 1)))) is

at_most : (a b : ℕ) → a ≤ b → nat_le a b ≡ true
at_most a b le = grind (arith, nat_tests)

not_at_most : (a b : ℕ) → b < a → nat_le a b ≡ false
not_at_most a b lt = grind (arith, nat_tests)

-- so many that are left
fills-on : {count : ℕ} {j : Job} {c : Changed} {m0 : Memory} {to : TreeState} {after : Memory} → Changes count j c m0 → (block size : ℕ) (m : Memory)
    (byte : ℕ → ℕ) → block < count → fill_end c < 2 ^ 28 → (all k n : ℕ) → n + suc k ≡ all → size + all ≡ fill_end c →
    LeadsIn count to after 18 (at_file j count c (file.PutSize (fill_end c))) (with_disk m (filled block size byte all)) →
    LeadsIn count to after 18 (at_file j count c (file.Filling block (size + n))) (with_disk m (filled block size byte n))
fills-on {count} {j} {c} {m0} {to} {after} changes block size m byte within small all zero n counted ends rest =
    let last : all ≡ suc n = omega (arith, counted) in
    fill-turn changes block size m byte within n (omega (arith, counted, ends, small)) (file.PutSize (fill_end c))
    (fill-goes count j c block (size + n) true (at_most (fill_end c) (size + n + 1) (omega (arith, counted, ends))))
    (subst (λ (i : ℕ). LeadsIn count to after 18 (at_file j count c (file.PutSize (fill_end c))) (with_disk m (filled block size byte i))) last rest)
fills-on {count} {j} {c} {m0} {to} {after} changes block size m byte within small all (suc k) n counted ends rest =
    let next : size + suc n ≡ size + n + 1 = omega arith in
    fill-turn changes block size m byte within n (omega (arith, counted, ends, small)) (file.Filling block (size + n + 1))
    (fill-goes count j c block (size + n) false (not_at_most (fill_end c) (size + n + 1) (omega (arith, counted, ends))))
    (subst (λ (i : ℕ). LeadsIn count to after 18 (at_file j count c (file.Filling block i)) (with_disk m (filled block size byte (suc n)))) next
    (fills-on changes block size m byte within small all k (suc n) (omega (arith, counted)) ends rest))

fills : {count : ℕ} {j : Job} {c : Changed} {m0 : Memory} {to : TreeState} {after : Memory} → Changes count j c m0 → (block size : ℕ) (m : Memory) →
    block < count → fill_end c < 2 ^ 28 → size < fill_end c →
    LeadsIn count to after 18 (at_file j count c (file.PutSize (fill_end c))) (with_disk m (filled block size m.disk (fill_end c - size))) →
    LeadsIn count to after 18 (at_file j count c (file.Filling block size)) m
fills {count} {j} {c} {m0} {to} {after} changes block size m within small more rest =
    let all : ℕ = fill_end c - size in
    let first : size + 0 ≡ size = omega arith in
    subst (λ (i : ℕ). LeadsIn count to after 18 (at_file j count c (file.Filling block i)) m) first
    (subst (λ (d : ℕ → ℕ). LeadsIn count to after 18 (at_file j count c (file.Filling block (size + 0))) (with_disk m d)) (filled-none block size m.disk)
    (fills-on changes block size m m.disk within small all (all - 1) 0 (omega (arith, more)) (omega (arith, more)) rest))

-- ---- the puts of the change

same-block : (size k end : ℕ) → size + k < end → end ≤ 4096 * ((size + 4095) / 4096) → (size + k) / 4096 ≡ size / 4096
same-block size k end below most = omega (arith, below, most)

zeros-put : (byte : ℕ → ℕ) (home size end : ℕ) → size < end → end ≤ 4096 * blocks_of size →
    put_bytes byte home size (replicate (end - size) 0)
    ≡ values_below (end - size) (zero_byte (block_number_at byte home (size / BLKSIZE)) size)
unfolding put_bytes
zeros-put byte home size end more most =
    let n : ℕ = end - size in
    let new : List ℕ = replicate n 0 in
    let f : ℕ → Put = λ k. put_byte (byte_place byte home (size + k)) (slice_index new k) in
    ap (λ (i : ℕ). values_below i f) (length-replicate {A = ℕ} n 0)
    ∙ values-same n f (zero_byte (block_number_at byte home (size / BLKSIZE)) size)
    (λ k within.
    ap (λ (b : ℕ). put_byte (BLKSIZE * block_number_at byte home b + (size + k) % BLKSIZE) (slice_index new k))
    (same-block size k end (omega (arith, within)) most)
    ∙ ap (put_byte (BLKSIZE * block_number_at byte home (size / BLKSIZE) + (size + k) % BLKSIZE)) (get_or-replicate n k 0 0 within))

fill-puts : (byte : ℕ → ℕ) (home end : ℕ) → let size = size_of byte home in size < end → end ≤ 4096 * blocks_of size →
    written (fill home end byte) byte
    ≡ stored (put_word (size_at home) end) (filled (block_number_at byte home (size / BLKSIZE)) size byte (end - size))
unfolding fill
fill-puts byte home end more most =
    let size : ℕ = size_of byte home in
    let new : List Put = put_bytes byte home size (replicate (end - size) 0) in
    ap (λ (b : Bool). written (if b then new ++ put_size home end else []) byte) (less size end more)
    ∙ written-append new (put_size home end) byte
    ∙ written-last (put_word (size_at home) end) (written new byte)
    ∙ ap (λ (puts : List Put). stored (put_word (size_at home) end) (written puts byte)) (zeros-put byte home size end more most)

fill-disk : (byte : ℕ → ℕ) (c : Changed) → IsRead byte c → c.size < fill_end c →
    written (fill c.home (fill_end c) byte) byte
    ≡ stored (put_word (size_at c.home) (fill_end c))
    (filled (block_number_at byte c.home (c.size / BLKSIZE)) c.size byte (fill_end c - c.size))
fill-disk byte c is more =
    let end : ℕ = fill_end c in
    let most : end ≤ 4096 * blocks_of c.size = least c.end (4096 * blocks_of c.size) in
    fill-puts byte c.home end (subst (λ (n : ℕ). n < end) (sym is.size) more)
    (subst (λ (n : ℕ). end ≤ 4096 * blocks_of n) (sym is.size) most)
    ∙ ap (λ (n : ℕ). stored (put_word (size_at c.home) end) (filled (block_number_at byte c.home (n / BLKSIZE)) n byte (end - n))) is.size
  where
    least : (a b : ℕ) → min a b ≤ b
    least a b = omega arith

-- ---- all of it

end-small : (end n : ℕ) → end ≤ 4235264 → min end n < 2 ^ 28
end-small end n most = omega arith

last_block : (size end n : ℕ) → size ≤ 4235264 → size < min end (4096 * n) → n ≡ (size + 4095) / 4096 → (size / 4096 < n) × (size / 4096 < 1034)
last_block size end n most more is = (omega (arith, more, is), omega (arith, most, more, is))

pub ends_are_filled : NumbersAreRead → EndsAreFilled
ends_are_filled numbers count j c m changes blocks apart more =
    let end : ℕ = fill_end c in
    let i : ℕ = c.size / BLKSIZE in
    let block : ℕ = block_number_at m.disk c.home i in
    let place = last_block c.size c.end (blocks_of c.size) changes.size_most more refl in
    let inside : i < blocks_of c.size = place.0 in
    let sound : is_data_block count block ≡ true = blocks.0 i inside in
    let within : block < count = (data-parts count block sound).1 in
    let small : end < 2 ^ 28 = end-small c.end (BLKSIZE * blocks_of c.size) changes.end_most in
    let size_small : is_place c.size ≡ true = place-small c.size (omega (arith, more, small)) in
    let now : ℕ → ℕ = filled block c.size m.disk (end - c.size) in
    subst (λ (k : ℕ). LeadsIn count (at_file j count c file.SizeNow) (with_disk m (written (fill c.home end m.disk) m.disk)) k
    (at_file j count c (file.Number i (wanted.Filling c.size))) m)
    (both_weights (6 * (end - c.size)))
    (leads_on (at_file j count c (file.Number i (wanted.Filling c.size))) m
    (numbers count j c i (wanted.Filling c.size) m changes.counted changes.small changes.lies changes.job changes.bounded size_small place.1 sound
    (λ far. subst (λ (k : ℕ). is_data_block count k ≡ true) (sym changes.is_read.indirect) (blocks.1 (omega (arith, far, inside))))
    (inl (sym changes.is_read.indirect)))
    (fills changes block c.size m within small more
    (step changes (file.PutSize end) file.SizeNow (with_disk m now) (place-small end small) (size-inside count c.home changes.lies) refl
    (subst (λ (d : ℕ → ℕ). Leads count (at_file j count c file.SizeNow) (with_disk m d) (at_file j count c file.SizeNow)
    (with_disk m (stored (put_word (size_at c.home) end) now)))
    (sym (fill-disk m.disk c changes.is_read more)) here))))
  where
    both_weights : (n : ℕ) → n + 18 + 18 ≡ n + 36
    both_weights n = omega arith
