-- A file gets one more block, of zeros.
use Rattle.std.proofs.Common.{◌≡◌, ◌∙◌, ◌⊎◌, inl, inr, ℕ, ◌+◌, ◌-◌, ◌*◌, ◌/◌, ◌%◌, ◌^◌, ◌<◌, Bool, min, true, false}
use Rattle.std.proofs.Common.{List, length, take, ◌++◌, replicate, refl, sym, ap, subst, arith, take_all}
use Rattle.fs_layout.specs.declared.numbers.TheConstants.{BLKSIZE, MAXNAMELEN, NDIRECT}
use Rattle.fs_layout.specs.FileTree.{Node, a_file, blocks_of}
use Rattle.fs_layout.specs.FileActs.{resized}
use Rattle.fs_layout.specs.DiskImage.{block_count, root_place, size_of, is_directory_at, has_indirect, blocks_needed}
use Rattle.fs_layout.specs.DiskFiles.{file_bytes}
use Rattle.fs_acts.specs.BlockActs.{put_byte, put_word, stored, written, zero_block, mark_place, number_place, take_block}
use Rattle.fs_acts.specs.BlockLaws.{Holds, NowHas, own_times, TakenBlocksAreZeros}
use Rattle.fs_acts.proofs.Fields.{same-directory}
use Rattle.fs_acts.proofs.Named.{own-indirect}
use Rattle.fs_acts.proofs.OneWay.{IsWay, way-is, way-times}
use Rattle.fs_acts.proofs.Staying.{file-stays}
use Rattle.fs_acts.proofs.OneRecord.{changed-gives_on}
use Rattle.fs_acts.proofs.AtEnd.{AtEnd, at-end, held-node, own-stay}
use Rattle.fs_acts.proofs.BlockPuts.{word-put}
use Rattle.fs_acts.proofs.Marks.{used-marks, this_block, no_block}
use Rattle.fs_acts.proofs.Taken.{IsFree, free-block, InTaken, taken-loose, block-zeroed}
use Rattle.fs_acts.proofs.Blocks.{IsFile, held-file, file-now}
use Rattle.fs_acts.proofs.NumberPut.{put-kind, put-label}
use Rattle.fs_acts.proofs.Given.{held-length}
use Rattle.fs_acts.proofs.More.{more-good, more-own, more-bytes, more-has, more-puts, InMore, Above, more-free, Took, Room, took}
use Rattle.fs_acts.proofs.DiskCounts.{image-counted}
use Rattle.fs_acts.proofs.FreeBlocks.{free-found}
use Rattle.fs_acts.proofs.Disks.{disk-blocks}

-- a block that the record names, or one that is loose
pub owned : (byte : ℕ → ℕ) (place block q : ℕ) → InMore byte place block q → (0 < own_times byte place q) ⊎ InTaken byte block q
owned byte place block q (inl told) = inr told
owned byte place block q (inr (has, e)) =
    inl (let own = own-indirect byte place has in let same = ap (own_times byte place) e in omega (arith, own, same))

clash : (b : Bool) → b ≡ true → b ≡ false → ⊥
clash true is no_more = cc
clash false is no_more = cc

-- what has become of a file
took-gives : (size : ℕ) (byte other : ℕ → ℕ) (way : List ℕ) (place block grown : ℕ) (bytes : List ℕ) (indirect : Bool) →
    Holds size byte way place (a_file bytes indirect) → IsFile byte place bytes indirect → IsFree byte block →
    size_of byte place ≡ BLKSIZE * blocks_needed byte place → BLKSIZE * blocks_needed byte place < grown →
    ((depth : ℕ) → AtEnd byte depth place → Above byte depth place → Took byte other place (blocks_needed byte place) block grown) →
    NowHas size byte other way (a_file (resized bytes grown) indirect)
unfolding resized
took-gives size byte other way place block grown bytes indirect holds file free whole grows facts =
    let counted = image-counted size byte holds.sound in
    let last : ℕ = blocks_needed byte place in
    let new : Node = a_file (take grown bytes ++ replicate (grown - length bytes) 0) indirect in
    let leads = way-is byte way (block_count byte) root_place place counted.records holds.stands in
    let above : (depth : ℕ) → IsWay byte (block_count byte) root_place way place depth → Above byte depth place =
    λ depth at q. way-times byte (block_count byte) root_place way place depth at q in
    let given = facts leads.0 (at-end size byte way place leads.0 counted leads.1) (above leads.0 leads.1) in
    changed-gives_on size byte other way place (InTaken byte block) (this_block block) no_block new
    holds.sound holds.stands
    (record {
      elsewhere = λ q. elim (given.elsewhere q) [
        | inl e ↦ inl e
        | inr differs ↦ inr (elim differs [ inl inside ↦ inl inside | inr told ↦ inr (owned byte place block (q / BLKSIZE) told) ])
      ];
      label = put-label given.more.put;
    })
    (taken-loose size byte block counted free) (used-marks byte other block given.used)
    (λ count d onward.
    let end = at-end size byte way place d counted onward in
    let more = given.more in
    let own =
    own-stay byte other d place (InMore byte place block) end given.elsewhere (more-free byte d place block end (above d onward) free) in
    let kind = sym (same-directory byte other place (put-kind more.put)) ∙ file.kind in
    let now =
    file-now d byte other place (this_block block) no_block new file.kind kind
    (more-good more count) (more-own more)
    (let long = held-length byte place bytes file.is in
    let all : take grown bytes ≡ bytes = take_all grown bytes (omega (arith, long, whole, grows)) in
    let now : file_bytes other place ≡ take grown bytes ++ replicate (grown - length bytes) 0 =
    sym (more-bytes more own)
    ∙ ap (λ b. b ++ replicate (grown - BLKSIZE * last) 0) (sym file.is ∙ sym all)
    ∙ ap (λ n. take grown bytes ++ replicate (grown - n) 0) (sym (long ∙ whole)) in
    let has : has_indirect other place ≡ indirect = sym (more-has more) ∙ sym file.mark in
    λ k. a_file (now k) (has k)) in
    (now, file-stays byte other place file.kind kind))

pub whole-size : (size : ℕ) → size % 4096 ≡ 0 → size ≡ 4096 * ((size + 4095) / 4096)
whole-size size whole = omega arith

pub taken-zeros : TakenBlocksAreZeros
taken-zeros size byte way place bytes indirect end holds room =
    let counted = image-counted size byte holds.sound in
    let depth : ℕ = block_count byte in
    let leads = way-is byte way depth root_place place counted.records holds.stands in
    let at = at-end size byte way place leads.0 counted leads.1 in
    let file : IsFile byte place bytes indirect =
    held-file leads.0 byte place bytes indirect (held-node size byte way place (a_file bytes indirect) holds leads.0 counted leads.1) in
    let long = held-length byte place bytes file.is in
    let last : ℕ = blocks_needed byte place in
    let whole : size_of byte place ≡ BLKSIZE * last =
    whole-size (size_of byte place) (subst (λ n. n % BLKSIZE ≡ 0) long room.whole) in
    let more = room.more in
    let short = room.short in
    let grown : ℕ = min end (BLKSIZE * (last + 1)) in
    let found = free-found size byte holds.sound room.free in
    let block : ℕ = found.0 in
    let free = free-block size byte block counted found.1 in
    let within = free.within in
    let most = (disk-blocks size byte counted).1 in
    let fields : Room byte place last grown =
    record {
      many = refl;
      whole = whole;
      grows = omega (arith, more, long, whole);
      most = omega arith;
      short = omega (arith, short);
      fits = λ is. absurd (clash (is_directory_at byte place) is file.kind);
      room = elim room.counted [
        | inl near ↦ inl (subst (λ n. blocks_of n < NDIRECT) long near)
        | inr has ↦ inr has
      ];
    } in
    let mid : ℕ → ℕ =
    written (zero_block block) (stored (put_byte (mark_place block) (byte (mark_place block) - 2 ^ (block % 8))) byte) in
    let one : ℕ → ℕ = stored (put_word (number_place byte place last) block) mid in
    let other : ℕ → ℕ = stored (put_word (place + MAXNAMELEN) grown) one in
    let same : grown ≡ min end (length bytes + BLKSIZE) = omega (arith, long, whole) in
    let gives : NowHas size byte other way (a_file (resized bytes grown) indirect) =
    took-gives size byte other way place block grown bytes indirect holds file free whole fields.grows
    (λ d here above.
    took byte mid one other d place last block grown here above free fields (block-zeroed byte block free)
    (word-put mid (number_place byte place last) block (omega (arith, within, most)))
    (word-put one (place + MAXNAMELEN) grown (omega (arith, short)))) in
    subst (λ n. NowHas size byte (written (take_block place end byte) byte) way (a_file (resized bytes n) indirect))
    same
    (subst (λ (o : ℕ → ℕ). NowHas size byte o way (a_file (resized bytes grown) indirect))
    (sym (more-puts byte place end block found.1 free.marked)) gives)
