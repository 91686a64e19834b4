-- A record gets an indirect block.
use Rattle.std.proofs.Common.{◌≡◌, ◌∙◌, inl, inr, ℕ, ◌+◌, ◌-◌, ◌%◌, ◌^◌, ◌≤◌, ◌==◌, ◌||◌, Bool, true, false, not}
use Rattle.std.proofs.Common.{List, [], ◌∷◌, Some, refl, sym, ap, subst, arith, ne_eqb}
use Rattle.std.specs.Prelude.{nat_lt}
use Rattle.std.proofs.lemmas.Bool.Decides.{nat_tests}
use Rattle.jos_base.specs.Environments.{bit_of}
use Rattle.fs_layout.specs.declared.numbers.TheConstants.{NDIRECT}
use Rattle.fs_layout.specs.FileTree.{Node}
use Rattle.fs_layout.specs.DiskImage.{block_count, root_place, is_data_block, indirect_of, has_indirect, blocks_needed, is_marked_free}
use Rattle.fs_acts.specs.BlockActs.{put_byte, put_word, stored, written, zero_block, mark_place, take_indirect, lowest_free}
use Rattle.fs_acts.specs.BlockLaws.{Holds, NowHas, marked, TakenIndirectIsMarked}
use Rattle.fs_acts.proofs.OneWay.{way-is, way-times}
use Rattle.fs_acts.proofs.OneRecord.{changed-gives_on}
use Rattle.fs_acts.proofs.AtEnd.{AtEnd, at-end, held-node, front-label}
use Rattle.fs_acts.proofs.BlockPuts.{word-put}
use Rattle.fs_acts.proofs.Puts.{written-append}
use Rattle.fs_acts.proofs.Marks.{used-marks, this_block, no_block}
use Rattle.fs_acts.proofs.Taken.{IsFree, free-block, InTaken, taken-loose, taken-apart, block-zeroed, TakenWord, taken-word, zero-behind}
use Rattle.fs_acts.proofs.Indirects.{IndirectSet, set-now, same-give, indirect_place, bit-none, bit-here}
use Rattle.fs_acts.proofs.DiskCounts.{image-counted}
use Rattle.fs_acts.proofs.FreeBlocks.{free-found}
use Rattle.fs_acts.proofs.Disks.{disk-blocks}

-- ---- the puts

take-none : (byte : ℕ → ℕ) (place : ℕ) → (nat_lt (blocks_needed byte place) NDIRECT || has_indirect byte place) ≡ true →
    written (take_indirect place byte) byte ≡ byte
unfolding take_indirect written
take-none byte place test = rw test refl

take-puts : (byte : ℕ → ℕ) (place block : ℕ) → (nat_lt (blocks_needed byte place) NDIRECT || has_indirect byte place) ≡ false →
    lowest_free byte ≡ Some block → is_marked_free byte block ≡ true →
    written (take_indirect place byte) byte
    ≡ stored (put_word (indirect_place place) block)
    (written (zero_block block) (stored (put_byte (mark_place block) (byte (mark_place block) - 2 ^ (block % 8))) byte))
unfolding take_indirect written
take-puts byte place block test found free =
    rw (test, found, free)
    (written-append (zero_block block) (put_word (indirect_place place) block ∷ [])
    (stored (put_byte (mark_place block) (byte (mark_place block) - 2 ^ (block % 8))) byte))

or-right : (a b : Bool) → b ≡ true → (a || b) ≡ true
or-right true b e = refl
or-right false b e = e

or-none : (a b : Bool) → a ≡ false → b ≡ false → (a || b) ≡ false
or-none a b e f = rw (e, f) refl

-- ---- what has become of the record

taken-gives : (size : ℕ) (byte other : ℕ → ℕ) (way : List ℕ) (place block : ℕ) (node : Node) → Holds size byte way place node →
    blocks_needed byte place ≤ NDIRECT → has_indirect byte place ≡ false → IsFree byte block →
    ((depth : ℕ) → AtEnd byte depth place → TakenWord byte other place block (indirect_place place) block) →
    NowHas size byte other way (marked node true)
taken-gives size byte other way place block node holds few has free facts =
    let counted = image-counted size byte holds.sound in
    let leads = way-is byte way (block_count byte) root_place place counted.records holds.stands in
    let taken = facts leads.0 (at-end size byte way place leads.0 counted leads.1) in
    let first = free.first in
    let some : has_indirect other place ≡ true =
    ap (λ n. not (n == 0)) taken.now ∙ ap not (ne_eqb block 0 (λ e. omega (arith, e, first))) in
    let set : IndirectSet byte other place (InTaken byte block) =
    record {
      elsewhere = taken.elsewhere;
      front = λ k below. taken.kept (place + k) (omega arith) (omega (arith, below)) (inl (omega (arith, below)));
      few = few;
      sound = λ is. ap (is_data_block (block_count byte)) taken.now ∙ free.sound;
      behind = λ is. zero-behind other place block taken.now taken.zero;
    } in
    subst (λ m. NowHas size byte other way (marked node m)) some
    (changed-gives_on size byte other way place (InTaken byte block) (this_block block) no_block (marked node (has_indirect other place))
    holds.sound holds.stands
    (record {
      elsewhere = λ q. elim (taken.elsewhere q) [
        | inl e ↦ inl e
        | inr differs ↦ inr (elim differs [ inl inside ↦ inl inside | inr told ↦ inr (inr told) ])
      ];
      label =
          front-label byte other place
          (λ k below. taken.kept (place + k) (omega arith) (omega (arith, below)) (inl (omega (arith, below))));
    })
    (taken-loose size byte block counted free) (used-marks byte other block taken.used)
    (λ count d onward.
    let end = at-end size byte way place d counted onward in
    set-now byte other d place (InTaken byte block) (this_block block) no_block node end set count
    (taken-apart byte d place block end (λ q. way-times byte (block_count byte) root_place way place d onward q) free)
    (λ q.
    let now =
    bit-here (has_indirect other place) (indirect_of other place) q some ∙ ap (λ n. bit_of (n == q)) taken.now in
    let was = bit-none (has_indirect byte place) (indirect_of byte place) q has in
    omega (arith, now, was))
    (held-node size byte way place node holds d counted onward)))

lt-false : (a b : ℕ) → b ≤ a → nat_lt a b ≡ false
lt-false a b le = grind (arith, nat_tests)

-- the law
pub taken-indirect : TakenIndirectIsMarked
taken-indirect size byte way place node holds ten some = by_mark (has_indirect byte place) refl
  where
    by_mark : (has : Bool) → has_indirect byte place ≡ has →
        NowHas size byte (written (take_indirect place byte) byte) way (marked node true)
    by_mark true has =
        subst (λ (o : ℕ → ℕ). NowHas size byte o way (marked node true))
        (sym (take-none byte place (or-right (nat_lt (blocks_needed byte place) NDIRECT) (has_indirect byte place) has)))
        (same-give size byte way place node true holds has)
    by_mark false has =
        let counted = image-counted size byte holds.sound in
        let found = free-found size byte holds.sound some in
        let block : ℕ = found.0 in
        let free = free-block size byte block counted found.1 in
        let mid : ℕ → ℕ =
        written (zero_block block) (stored (put_byte (mark_place block) (byte (mark_place block) - 2 ^ (block % 8))) byte) in
        let within = free.within in
        let most = (disk-blocks size byte counted).1 in
        let test =
        or-none (nat_lt (blocks_needed byte place) NDIRECT) (has_indirect byte place)
        (lt-false (blocks_needed byte place) NDIRECT (omega (arith, ten))) has in
        subst (λ (o : ℕ → ℕ). NowHas size byte o way (marked node true))
        (sym (take-puts byte place block test found.1 free.marked))
        (taken-gives size byte (stored (put_word (indirect_place place) block) mid) way place block node holds (omega (arith, ten)) has free
        (λ depth end.
        taken-word byte mid (stored (put_word (indirect_place place) block) mid) depth place block (indirect_place place) block end free
        (block-zeroed byte block free) (omega arith) (omega arith)
        (word-put mid (indirect_place place) block (omega (arith, within, most)))))
