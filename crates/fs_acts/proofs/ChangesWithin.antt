-- Every put of a single change lies within the blocks of a disk without a fault.
use Rattle.std.proofs.Common.{◌≡◌, ℕ, ◌+◌, ◌-◌, ◌*◌, ◌/◌, ◌%◌, ◌^◌, ◌<◌, ◌≤◌, ◌&&◌, zero, suc, Bool, true, false}
use Rattle.std.proofs.Common.{List, [], ◌∷◌, ◌++◌, length, Option, Some, None, refl, sym, subst, arith, min, if◌then◌else◌}
use Rattle.std.specs.Prelude.{◌||◌, nat_lt, nat_le, replicate, slice_index}
use Rattle.std.specs.List.{All}
use Rattle.std.proofs.lemmas.Bool.{and_parts}
use Rattle.std.proofs.lemmas.Bool.Decides.{nat_tests}
use Rattle.std.proofs.lemmas.List.{length-replicate}
use Rattle.std.proofs.lemmas.List.Elements.{All-nil, All-cons, All-append}
use Rattle.fs_layout.specs.declared.numbers.TheConstants.{BLKSIZE, RECORDSIZE, MAXNAMELEN, MAXFILESIZE, NDIRECT}
use Rattle.fs_layout.specs.FileTree.{blocks_of}
use Rattle.jos_base.specs.Below.{values_below}
use Rattle.fs_layout.specs.DiskImage.{block_count, root_place, size_of, indirect_of, is_directory_at}
use Rattle.fs_layout.specs.DiskImage.{is_empty_record, has_indirect, blocks_needed, block_number_at, slot_count, slot_place, none_named}
use Rattle.fs_layout.specs.DiskFiles.{IsDiskImage}
use Rattle.fs_acts.specs.BlockActs.{Put, put_byte, put_word, number_place, byte_place, mark_place, lowest_free, put_size, put_indirect}
use Rattle.fs_acts.specs.BlockActs.{put_number, mark_used, mark_free, zero_block, put_bytes, with_taken, overwrite, cut, fill, take_indirect}
use Rattle.fs_acts.specs.BlockActs.{take_block, give_block, give_indirect, name_byte, make_record, empty_it, place_from, place_at}
use Rattle.fs_acts.specs.BlockLaws.{IsGoodRecord, AreGood, IsWithin}
use Rattle.fs_acts.proofs.WalkCounts.{slot-parts}
use Rattle.fs_acts.proofs.DiskCounts.{super-met, image-counted}
use Rattle.fs_acts.proofs.FreeBlocks.{lowest-free}
use Rattle.fs_acts.proofs.TreeBlocks.{data-below}
use Rattle.fs_acts.proofs.Undamaged.{way-goes, good-record, some-same}

-- ---- where records stand

-- a record lies within the blocks, at a multiple of four
pub record Lies (byte : ℕ → ℕ) (place : ℕ) : Type 0 where
  pub within : place + RECORDSIZE ≤ BLKSIZE * block_count byte
  pub words : place % 4 ≡ 0

-- so does each record of a directory
slot-lies : (byte : ℕ → ℕ) (place i : ℕ) → IsGoodRecord byte place → i < slot_count byte place → Lies byte (slot_place byte place i)
slot-lies byte place i good inside =
    let below =
    data-below (block_count byte) (block_number_at byte place (i / 16)) (good.readable.within (i / 16) (needed (size_of byte place) i inside)) in
    record {
      within = in_block (block_number_at byte place (i / 16)) i (block_count byte) below;
      words = at_four (block_number_at byte place (i / 16)) i;
    }
  where
    needed : (size i : ℕ) → i < size / 256 → i / 16 < (size + 4095) / 4096
    needed size i less = omega arith

    in_block : (n i count : ℕ) → n < count → 4096 * n + 256 * (i % 16) + 256 ≤ 4096 * count
    in_block n i count less = omega arith

    at_four : (n i : ℕ) → (4096 * n + 256 * (i % 16)) % 4 ≡ 0
    at_four n i = omega arith

-- a record that a way leads to, on a disk whose number of blocks is one that it may have
pub record IsPlaced (byte : ℕ → ℕ) (place : ℕ) : Type 0 where
  pub good : IsGoodRecord byte place
  pub lies : Lies byte place
  pub some : 4 ≤ block_count byte
  pub few : block_count byte ≤ 16384

way-lies : (way : List ℕ) (depth : ℕ) (byte : ℕ → ℕ) (here place : ℕ) → AreGood depth byte here → Lies byte here →
    place_from byte way here ≡ Some place → IsGoodRecord byte place × Lies byte place
unfolding place_from AreGood
way-lies [] depth byte here place good lies e =
    let same = some-same here place e in
    (subst (IsGoodRecord byte) same (good-record depth byte here good), subst (Lies byte) same lies)
way-lies (i ∷ way) zero byte here place good lies e =
    let goes = way-goes byte i way here place e in
    let parts = slot-parts (is_directory_at byte here) i (slot_count byte here) (is_empty_record byte (slot_place byte here i)) goes.0 in
    absurd (none (slot_count byte here) i (good.1 parts.0) parts.1.0)
  where
    none : (n i : ℕ) → n ≡ 0 → i < n → ⊥
    none n i e lt = omega arith
way-lies (i ∷ way) (suc depth) byte here place good lies e =
    let goes = way-goes byte i way here place e in
    let parts = slot-parts (is_directory_at byte here) i (slot_count byte here) (is_empty_record byte (slot_place byte here i)) goes.0 in
    way-lies way depth byte (slot_place byte here i) place (good.1 i goes.0).1 (slot-lies byte here i good.0 parts.1.0) goes.1

count-parts : (n : ℕ) → (nat_le 4 n && nat_le n 16384) ≡ true → (4 ≤ n) × (n ≤ 16384)
count-parts n e = let both = and_parts (nat_le 4 n) (nat_le n 16384) e in (at_most 4 n both.0, at_most n 16384 both.1)
  where
    at_most : (a b : ℕ) → nat_le a b ≡ true → a ≤ b
    at_most a b is = grind (arith, nat_tests)

pub placed : (size : ℕ) (byte : ℕ → ℕ) → IsDiskImage size byte → (way : List ℕ) (place : ℕ) → place_at byte way ≡ Some place →
    IsPlaced byte place
placed size byte sound way place leads =
    let counted = image-counted size byte sound in
    let met = super-met size byte none_named none_named counted.begins in
    let count = count-parts (block_count byte) met.count in
    let there =
    way-lies way (block_count byte) byte root_place place counted.records
    (record { within = root_within (block_count byte) count.0; words = refl }) leads in
    record { good = there.0; lies = there.1; some = count.0; few = count.1 }
  where
    root_within : (n : ℕ) → 4 ≤ n → 4104 + 256 ≤ 4096 * n
    root_within n some = omega arith

-- ---- puts of one kind

abbrev pub Within : (ℕ → ℕ) → List Put → Type 0
Within byte puts = All (IsWithin (block_count byte)) puts

one-within : (byte : ℕ → ℕ) (put : Put) → IsWithin (block_count byte) put → Within byte (put ∷ [])
one-within byte put within = All-cons (IsWithin (block_count byte)) put [] within (All-nil (IsWithin (block_count byte)))

both-within : (byte : ℕ → ℕ) (first rest : List Put) → Within byte first → Within byte rest → Within byte (first ++ rest)
both-within byte first rest one two = All-append (IsWithin (block_count byte)) first rest one two

values-within : (byte : ℕ → ℕ) (n : ℕ) (put : ℕ → Put) → ((i : ℕ) → i < n → IsWithin (block_count byte) (put i)) →
    Within byte (values_below n put)
unfolding values_below
values-within byte zero put each = All-nil (IsWithin (block_count byte))
values-within byte (suc n) put each =
    both-within byte (values_below n put) (put n ∷ []) (values-within byte n put (λ i less. each i (omega (arith, less))))
    (one-within byte (put n) (each n (omega arith)))

-- a word of a record
field-within : (byte : ℕ → ℕ) (place at word : ℕ) → Lies byte place → at % 4 ≡ 0 → at + 4 ≤ RECORDSIZE → word < 2 ^ 32 →
    IsWithin (block_count byte) (put_word (place + at) word)
field-within byte place at word lies four inside low =
    (in_record place at (4096 * block_count byte) lies.within inside, at_four place at lies.words four, low)
  where
    in_record : (place at all : ℕ) → place + 256 ≤ all → at + 4 ≤ 256 → place + at + 4 ≤ all
    in_record place at all within inside_ = omega arith

    at_four : (place at : ℕ) → place % 4 ≡ 0 → at % 4 ≡ 0 → (place + at) % 4 ≡ 0
    at_four place at one two = omega arith

size-within : (byte : ℕ → ℕ) (place size : ℕ) → Lies byte place → size < 2 ^ 32 → Within byte (put_size place size)
size-within byte place size lies low =
    one-within byte (put_word (place + 128) size) (field-within byte place 128 size lies refl (omega arith) low)

indirect-within : (byte : ℕ → ℕ) (place block : ℕ) → Lies byte place → block < 2 ^ 32 → Within byte (put_indirect place block)
indirect-within byte place block lies low =
    one-within byte (put_word (place + 128 + 8 + 40) block)
    (subst (λ (at : ℕ). IsWithin (block_count byte) (put_word at block)) (spread place)
    (field-within byte place 176 block lies refl (omega arith) low))
  where
    spread : (place : ℕ) → place + 176 ≡ place + 128 + 8 + 40
    spread place = omega arith

-- a word of a block
block-word : (byte : ℕ → ℕ) (block i word : ℕ) → block < block_count byte → i < 1024 → word < 2 ^ 32 →
    IsWithin (block_count byte) (put_word (4096 * block + 4 * i) word)
block-word byte block i word less inside low = (in_block block i (block_count byte) less inside, at_four block i, low)
  where
    in_block : (block i count : ℕ) → block < count → i < 1024 → 4096 * block + 4 * i + 4 ≤ 4096 * count
    in_block block i count less_ inside_ = omega arith

    at_four : (block i : ℕ) → (4096 * block + 4 * i) % 4 ≡ 0
    at_four block i = omega arith

number-within : (byte : ℕ → ℕ) (place i block : ℕ) → IsPlaced byte place → i < 1034 → (NDIRECT ≤ i → has_indirect byte place ≡ true) →
    block < 2 ^ 32 → Within byte (put_number byte place i block)
number-within byte place i block it few needed low =
    one-within byte (put_word (number_place byte place i) block) (by_test (nat_lt i NDIRECT) refl)
  where
    spread : (place i : ℕ) → place + (136 + 4 * i) ≡ place + 128 + 8 + 4 * i
    spread place i = omega arith

    four : (i : ℕ) → (136 + 4 * i) % 4 ≡ 0
    four i = omega arith

    by_test : (near : Bool) → nat_lt i NDIRECT ≡ near →
        IsWithin (block_count byte)
        (put_word (if near then place + MAXNAMELEN + 8 + 4 * i else BLKSIZE * indirect_of byte place + 4 * (i - NDIRECT)) block)
    by_test true is =
        let near : i < 10 = grind (arith, nat_tests) in
        subst (λ (at : ℕ). IsWithin (block_count byte) (put_word at block)) (spread place i)
        (field-within byte place (136 + 4 * i) block it.lies (four i) (omega (arith, near)) low)
    by_test false is =
        let far : 10 ≤ i = grind (arith, nat_tests) in
        block-word byte (indirect_of byte place) (i - 10) block
        (data-below (block_count byte) (indirect_of byte place) (it.good.indirect (needed far))) (omega (arith, few)) low

-- the bitmap's byte of a block
mark-within : (byte : ℕ → ℕ) (block value : ℕ) → 4 ≤ block_count byte → block_count byte ≤ 16384 → block < block_count byte →
    Within byte (put_byte (mark_place block) value ∷ [])
mark-within byte block value some few less =
    one-within byte (put_byte (mark_place block) value) (in_map block (block_count byte) some few less)
  where
    in_map : (block count : ℕ) → 4 ≤ count → count ≤ 16384 → block < count → 2 * 4096 + block / 8 < 4096 * count
    in_map block count some_ few_ less_ = omega arith

used-within : (byte : ℕ → ℕ) (place block : ℕ) → IsPlaced byte place → block < block_count byte → Within byte (mark_used byte block)
used-within byte place block it less = mark-within byte block _ it.some it.few less

free-within : (byte : ℕ → ℕ) (place block : ℕ) → IsPlaced byte place → block < block_count byte → Within byte (mark_free byte block)
free-within byte place block it less = mark-within byte block _ it.some it.few less

zeros-within : (byte : ℕ → ℕ) (block : ℕ) → block < block_count byte → Within byte (zero_block block)
unfolding zero_block
zeros-within byte block less =
    values-within byte 1024 (λ k. put_word (4096 * block + 4 * k) 0) (λ k inside. block-word byte block k 0 less inside (omega arith))

-- bytes within the blocks of a record
bytes-within : (byte : ℕ → ℕ) (place at : ℕ) (new : List ℕ) → IsGoodRecord byte place → at + length new ≤ BLKSIZE * blocks_needed byte place →
    Within byte (put_bytes byte place at new)
unfolding put_bytes
bytes-within byte place at new good fits =
    values-within byte (length new) (λ k. put_byte (byte_place byte place (at + k)) (slice_index new k))
    (λ k less.
    in_block (block_number_at byte place ((at + k) / 4096)) (at + k) (block_count byte)
    (data-below (block_count byte) (block_number_at byte place ((at + k) / 4096))
    (good.readable.within ((at + k) / 4096) (needed at k (length new) (blocks_needed byte place) less fits))))
  where
    needed : (at k n blocks : ℕ) → k < n → at + n ≤ 4096 * blocks → (at + k) / 4096 < blocks
    needed at k n blocks less fits_ = omega arith

    in_block : (n at count : ℕ) → n < count → 4096 * n + at % 4096 < 4096 * count
    in_block n at count less = omega arith

-- ---- changes of bytes and of the size

pub overwrite-within : (byte : ℕ → ℕ) (place at : ℕ) (new : List ℕ) → IsPlaced byte place → at + length new ≤ size_of byte place →
    Within byte (overwrite place at new byte)
unfolding overwrite
overwrite-within byte place at new it fits =
    bytes-within byte place at new it.good (in_blocks (at + length new) (size_of byte place) fits)
  where
    in_blocks : (end size : ℕ) → end ≤ size → end ≤ 4096 * blocks_of size
    in_blocks end size le = omega arith

low-size : (size : ℕ) → size ≤ 4235264 → size < 2 ^ 32
low-size size short = omega arith

pub cut-within : (byte : ℕ → ℕ) (place end : ℕ) → IsPlaced byte place → Within byte (cut place end byte)
unfolding cut
cut-within byte place end it = by_test (nat_lt end (size_of byte place)) refl
  where
    by_test : (b : Bool) → nat_lt end (size_of byte place) ≡ b → Within byte (if b then put_size place end else [])
    by_test true is =
        let less : end < size_of byte place = grind (arith, nat_tests) in
        size-within byte place end it.lies (low-size end (before (size_of byte place) less it.good.readable.short))
      where
        before : (size : ℕ) → end < size → size ≤ 4235264 → end ≤ 4235264
        before size less_ short = omega arith
    by_test false is = All-nil (IsWithin (block_count byte))

pub fill-within : (byte : ℕ → ℕ) (place end : ℕ) → IsPlaced byte place → end ≤ BLKSIZE * blocks_needed byte place → end ≤ MAXFILESIZE →
    Within byte (fill place end byte)
unfolding fill
fill-within byte place end it fits short = by_test (nat_lt (size_of byte place) end) refl
  where
    by_test : (b : Bool) → nat_lt (size_of byte place) end ≡ b →
        Within byte
        (if b then put_bytes byte place (size_of byte place) (replicate (end - size_of byte place) 0) ++ put_size place end else [])
    by_test true is =
        let less : size_of byte place < end = grind (arith, nat_tests) in
        let zeros : List ℕ = replicate (end - size_of byte place) 0 in
        let long : length zeros ≡ end - size_of byte place = length-replicate (end - size_of byte place) 0 in
        both-within byte (put_bytes byte place (size_of byte place) zeros) (put_size place end)
        (bytes-within byte place (size_of byte place) zeros it.good
        (subst (λ (n : ℕ). size_of byte place + n ≤ 4096 * blocks_needed byte place) (sym long)
        (up_to (size_of byte place) end (4096 * blocks_needed byte place) less fits)))
        (size-within byte place end it.lies (low-size end short))
      where
        up_to : (size end all : ℕ) → size < end → end ≤ all → size + (end - size) ≤ all
        up_to size end all less_ fits_ = omega arith
    by_test false is = All-nil (IsWithin (block_count byte))

-- ---- blocks that are taken

low-block : (block count : ℕ) → block < count → count ≤ 16384 → block < 2 ^ 32
low-block block count less few = omega arith

-- a block is marked and emptied
emptied-within : (byte : ℕ → ℕ) (place block : ℕ) → IsPlaced byte place → block < block_count byte →
    Within byte (mark_used byte block ++ zero_block block)
emptied-within byte place block it less =
    both-within byte (mark_used byte block) (zero_block block) (used-within byte place block it less) (zeros-within byte block less)

pub take-indirect-within : (byte : ℕ → ℕ) (place : ℕ) → IsPlaced byte place → Within byte (take_indirect place byte)
unfolding take_indirect
take-indirect-within byte place it = by_test (nat_lt (blocks_needed byte place) NDIRECT || has_indirect byte place)
  where
    by_block : (found : Option ℕ) → lowest_free byte ≡ found →
        Within byte (with_taken (λ block. mark_used byte block ++ zero_block block ++ put_indirect place block) found)
    by_block None e = All-nil (IsWithin (block_count byte))
    by_block (Some block) e =
        let less = data-below (block_count byte) block (lowest-free byte block e).1 in
        both-within byte (mark_used byte block ++ zero_block block) (put_indirect place block) (emptied-within byte place block it less)
        (indirect-within byte place block it.lies (low-block block (block_count byte) less it.few))

    by_test : (b : Bool) →
        Within byte
        (if b then []
        else with_taken (λ block. mark_used byte block ++ zero_block block ++ put_indirect place block) (lowest_free byte))
    by_test true = All-nil (IsWithin (block_count byte))
    by_test false = by_block (lowest_free byte) refl

pub take-block-within : (byte : ℕ → ℕ) (place end : ℕ) → IsPlaced byte place → blocks_needed byte place < 1034 →
    (NDIRECT ≤ blocks_needed byte place → has_indirect byte place ≡ true) → Within byte (take_block place end byte)
unfolding take_block
take-block-within byte place end it few needed = by_block (lowest_free byte) refl
  where
    n : ℕ
    n = blocks_needed byte place

    size : ℕ
    size = min end (BLKSIZE * (n + 1))

    low_end : (n : ℕ) → n < 1034 → min end (4096 * (n + 1)) < 2 ^ 32
    low_end n few_ = omega arith

    by_block : (found : Option ℕ) → lowest_free byte ≡ found →
        Within byte (with_taken (λ block. mark_used byte block ++ zero_block block ++ put_number byte place n block ++ put_size place size) found)
    by_block None e = All-nil (IsWithin (block_count byte))
    by_block (Some block) e =
        let less = data-below (block_count byte) block (lowest-free byte block e).1 in
        let low = low-block block (block_count byte) less it.few in
        both-within byte (mark_used byte block ++ zero_block block ++ put_number byte place n block) (put_size place size)
        (both-within byte (mark_used byte block ++ zero_block block) (put_number byte place n block) (emptied-within byte place block it less)
        (number-within byte place n block it few needed low))
        (size-within byte place size it.lies (low_end n few))

-- ---- blocks that are given back

pub give-block-within : (byte : ℕ → ℕ) (place : ℕ) → IsPlaced byte place → 0 < blocks_needed byte place → Within byte (give_block place byte)
unfolding give_block
give-block-within byte place it some =
    let last : ℕ = blocks_needed byte place - 1 in
    let inside : last < blocks_needed byte place = omega (arith, some) in
    both-within byte (put_size place (BLKSIZE * last) ++ put_number byte place last 0) (mark_free byte (block_number_at byte place last))
    (both-within byte (put_size place (BLKSIZE * last)) (put_number byte place last 0)
    (size-within byte place (BLKSIZE * last) it.lies (low_last (size_of byte place) it.good.readable.short))
    (number-within byte place last 0 it (few_last (size_of byte place) it.good.readable.short)
    (λ far. it.good.needed (past (blocks_needed byte place) some far)) (omega arith)))
    (free-within byte place (block_number_at byte place last) it
    (data-below (block_count byte) (block_number_at byte place last) (it.good.readable.within last inside)))
  where
    low_last : (size : ℕ) → size ≤ 4235264 → 4096 * (blocks_of size - 1) < 2 ^ 32
    low_last size short = omega arith

    few_last : (size : ℕ) → size ≤ 4235264 → blocks_of size - 1 < 1034
    few_last size short = omega arith

    past : (n : ℕ) → 0 < n → 10 ≤ n - 1 → 10 < n
    past n some_ far = omega arith

pub give-indirect-within : (byte : ℕ → ℕ) (place : ℕ) → IsPlaced byte place → Within byte (give_indirect place byte)
unfolding give_indirect
give-indirect-within byte place it = by_test (has_indirect byte place) refl
  where
    by_test : (b : Bool) → has_indirect byte place ≡ b →
        Within byte (if b then put_indirect place 0 ++ mark_free byte (indirect_of byte place) else [])
    by_test true is =
        both-within byte (put_indirect place 0) (mark_free byte (indirect_of byte place)) (indirect-within byte place 0 it.lies (omega arith))
        (free-within byte place (indirect_of byte place) it
        (data-below (block_count byte) (indirect_of byte place) (it.good.indirect is)))
    by_test false is = All-nil (IsWithin (block_count byte))

-- ---- records

byte-within : (byte : ℕ → ℕ) (place at value : ℕ) → Lies byte place → at < RECORDSIZE → IsWithin (block_count byte) (put_byte (place + at) value)
byte-within byte place at value lies inside = in_record place (4096 * block_count byte) lies.within
  where
    in_record : (place all : ℕ) → place + 256 ≤ all → place + at < all
    in_record place all within = omega (arith, within, inside)

pub empty-within : (byte : ℕ → ℕ) (place : ℕ) → IsPlaced byte place → Within byte (empty_it place byte)
unfolding empty_it
empty-within byte place it = one-within byte (put_byte place 0) (in_record place (4096 * block_count byte) it.lies.within)
  where
    in_record : (place all : ℕ) → place + 256 ≤ all → place < all
    in_record place all within = omega (arith, within)

pub make-within : (byte : ℕ → ℕ) (directory i : ℕ) (name : List ℕ) → IsPlaced byte directory → i < slot_count byte directory →
    Within byte (make_record directory i name byte)
unfolding make_record
make-within byte directory i name it inside =
    let place : ℕ = slot_place byte directory i in
    let lies = slot-lies byte directory i it.good inside in
    let name_puts : List Put = values_below (MAXNAMELEN - 1) (λ k. put_byte (place + 1 + k) (name_byte name (1 + k))) in
    let field_puts : List Put = values_below ((RECORDSIZE - MAXNAMELEN) / 4) (λ k. put_word (place + MAXNAMELEN + 4 * k) 0) in
    both-within byte (name_puts ++ field_puts) (put_byte place (name_byte name 0) ∷ [])
    (both-within byte name_puts field_puts
    (values-within byte 127 (λ k. put_byte (place + 1 + k) (name_byte name (1 + k)))
    (λ k less. behind place k (4096 * block_count byte) lies.within less))
    (values-within byte 32 (λ k. put_word (place + 128 + 4 * k) 0)
    (λ k less. (word place k (4096 * block_count byte) lies.within less, four place k lies.words, omega arith))))
    (one-within byte (put_byte place (name_byte name 0)) (first place (4096 * block_count byte) lies.within))
  where
    behind : (place k all : ℕ) → place + 256 ≤ all → k < 127 → place + 1 + k < all
    behind place k all within less = omega arith

    word : (place k all : ℕ) → place + 256 ≤ all → k < 32 → place + 128 + 4 * k + 4 ≤ all
    word place k all within less = omega arith

    four : (place k : ℕ) → place % 4 ≡ 0 → (place + 128 + 4 * k) % 4 ≡ 0
    four place k words = omega arith

    first : (place all : ℕ) → place + 256 ≤ all → place < all
    first place all within = omega arith
