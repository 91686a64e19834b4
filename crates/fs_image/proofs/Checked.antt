-- What a check of a whole disk comes to.
use Rattle.std.proofs.Common.{◌≡◌, ◌∙◌, ℕ, ◌+◌, ◌*◌, ◌<◌, ◌≤◌, Bool, true, false, List, length, replicate, Option, Some, None, Result, Ok, Err, refl, sym, ap, arith, add-one, inl, inr}
use Rattle.std.specs.Prelude.{◌==◌, nat_le, slice_index}
use Rattle.std.proofs.lemmas.Bool.{leb-true, and_from, and_parts}
use Rattle.std.proofs.lemmas.Bool.Decides.{leb_tells}
use Rattle.std.proofs.lemmas.List.{get_or-replicate, length-replicate}
use Rattle.jos_base.specs.Counting.{total}
use Rattle.jos_base.specs.Environments.{bit_of}
use Rattle.fs_layout.specs.declared.numbers.TheConstants.{BLKSIZE, FS_MAGIC, MAXBLOCKS, MINBLOCKS}
use Rattle.fs_layout.specs.DiskImage as image
use Rattle.fs_layout.specs.DiskImage.{none_named, in_turn}
use Rattle.fs_layout.specs.DiskFiles.{IsDiskImage, free_blocks}
use Rattle.fs_image.specs.declared.checking.CheckFault.{CheckFault}
use Rattle.fs_image.specs.declared.checking.CheckFault.TheVariants as check
use Rattle.fs_image.specs.Answers.{blocks_in, fault_of}
use Rattle.fs_image.specs.DiskHeld.{HeldDisk, fault_in, IsLongEnough, IsCheckFault}
use Rattle.fs_image.specs.Walk.{Tells}
use Rattle.fs_image.proofs.Image.{long, cleared, tree_2, image_1, image_2, super_1, super_2, super_3}

-- ---- blocks that are free

abbrev pub is_free_at : (ℕ → ℕ) → ℕ → ℕ
is_free_at byte block = bit_of (image.is_marked_free byte block)

pub free_none : (byte : ℕ → ℕ) → 0 ≡ total 0 (is_free_at byte)
unfolding total
free_none byte = refl

pub free_more : (byte : ℕ → ℕ) (n free now : ℕ) (marked : Bool) → free ≡ total n (is_free_at byte) → marked ≡ image.is_marked_free byte n → now ≡ free + bit_of marked → now ≡ total (n + 1) (is_free_at byte)
unfolding total
free_more byte n free now marked e m h =
    rw (add-one, total) (h ∙ ap (λ f. f + bit_of marked) e ∙ ap (λ b. total n (is_free_at byte) + bit_of b) m)

pub free_all : (byte : ℕ → ℕ) (n count free : ℕ) → n ≡ count → count ≡ image.block_count byte → free ≡ total n (is_free_at byte) → free ≡ free_blocks byte
unfolding free_blocks
free_all byte n count free e h f = f ∙ ap (λ k. total k (is_free_at byte)) (e ∙ h)

-- ---- no block is marked at first

pub none_marked : (n : ℕ) → blocks_in (replicate n false) ≡ none_named
none_marked n =
    cleared (replicate n false)
    (λ k h. let within : k < n = omega (arith, length-replicate {A = Bool} n false) in get_or-replicate n k false false within)

-- ---- what is held

pub held_fault : (held : HeldDisk) (size : ℕ) (bytes : List ℕ) (fault : Option image.ImageFault) → size ≡ held.total → bytes ≡ held.bytes → image.image_fault size (slice_index bytes) ≡ fault → fault_in held ≡ fault
held_fault held size bytes fault e h k =
    ap (λ n. image.image_fault n (slice_index held.bytes)) (sym e) ∙ ap (λ b. image.image_fault size (slice_index b)) (sym h) ∙ k

-- where there is no fault, the super block's first tests pass
record Begins (size : ℕ) (byte : ℕ → ℕ) : Type 0 where
  long_is : long size byte ≡ true
  count_is : image.is_good_count (image.block_count byte) ≡ true

begins : (size : ℕ) (byte : ℕ → ℕ) → image.image_fault size byte ≡ None → Begins size byte
begins size byte none = by_tests (long size byte) (image.magic_of byte == FS_MAGIC) (image.is_good_count (image.block_count byte)) refl refl refl
  where
    fails : (f : image.ImageFault) → in_turn (image.super_tests size byte) none_named ≡ Err f → Begins size byte
    fails f e = let some = image_1 size byte f e in absurd (cc)

    by_tests : (l m c : Bool) → long size byte ≡ l → (image.magic_of byte == FS_MAGIC) ≡ m → image.is_good_count (image.block_count byte) ≡ c → Begins size byte
    by_tests false m c e h k = fails image.TooShort (super_1 size byte none_named e)
    by_tests true false c e h k = fails image.Magic (super_2 size byte none_named e h)
    by_tests true true false e h k = fails image.BlockCount (super_3 size byte none_named e h k)
    by_tests true true true e h k = record { long_is = e; count_is = k }

le_test : (m n : ℕ) → m ≤ n → nat_le m n ≡ true
le_test m n h = elim (leb_tells m n) [ inl le ↦ le.0 | inr gt ↦ absurd (omega (arith, gt.1)) ]

-- the tests look at the number of bytes only here
same_fault : (size other : ℕ) (byte : ℕ → ℕ) → long size byte ≡ long other byte → image.image_fault size byte ≡ image.image_fault other byte
unfolding image.image_fault image.image_tests image.super_tests
same_fault size other byte e = rw e refl

-- what is held is a disk by itself
pub held_disk : (held : HeldDisk) → fault_in held ≡ None → IsLongEnough held.total held.bytes → IsDiskImage (length held.bytes) (slice_index held.bytes)
unfolding IsLongEnough
held_disk held none enough =
    let byte = slice_index held.bytes in
    let count = image.block_count (slice_index held.bytes) in
    let b = begins held.total (slice_index held.bytes) none in
    let reached : BLKSIZE * count ≤ held.total = leb-true _ _ (and_parts (nat_le (3 * BLKSIZE) held.total) (nat_le (BLKSIZE * count) held.total) b.long_is).1 in
    let least : MINBLOCKS ≤ count = leb-true _ _ (and_parts (nat_le MINBLOCKS count) (nat_le count MAXBLOCKS) b.count_is).0 in
    let most : count ≤ MAXBLOCKS = leb-true _ _ (and_parts (nat_le MINBLOCKS count) (nat_le count MAXBLOCKS) b.count_is).1 in
    let within : BLKSIZE * count ≤ length held.bytes = omega arith in
    let three : 3 * BLKSIZE ≤ length held.bytes = omega arith in
    let is_long : long (length held.bytes) (slice_index held.bytes) ≡ true =
    and_from (nat_le (3 * BLKSIZE) (length held.bytes)) (nat_le (BLKSIZE * count) (length held.bytes)) (le_test _ _ three) (le_test _ _ within) in
    same_fault (length held.bytes) held.total (slice_index held.bytes) (is_long ∙ sym b.long_is) ∙ none

-- ---- the tests after the super block

pub tree_fails : (held : HeldDisk) (size : ℕ) (bytes : List ℕ) (start : image.Blocks) (fault : CheckFault) (later : Result image.Blocks image.ImageFault) → size ≡ held.total → bytes ≡ held.bytes → start ≡ none_named → in_turn (image.super_tests size (slice_index bytes)) none_named ≡ Ok none_named → Tells (Err fault) (in_turn (image.tree_tests (slice_index bytes)) start) later → IsCheckFault held fault
tree_fails held size bytes start (check.Bad fault) later e h s super tells =
    held_fault held size bytes _ e h (image_2 size (slice_index bytes) start none_named (Some fault) s super (sym tells))
tree_fails held size bytes start check.NoMemory later e h s super tells = tt

pub tree_passes : (held : HeldDisk) (size : ℕ) (bytes : List ℕ) (start now : image.Blocks) → size ≡ held.total → bytes ≡ held.bytes → start ≡ none_named → in_turn (image.super_tests size (slice_index bytes)) none_named ≡ Ok none_named → in_turn (image.tree_tests (slice_index bytes)) start ≡ Ok now → fault_in held ≡ None
tree_passes held size bytes start now e h s super passed =
    held_fault held size bytes None e h (image_2 size (slice_index bytes) start now None s super (sym passed))

-- a directory's records stop the tests of the tree
pub tree_stops : (byte : ℕ → ℕ) (start now : image.Blocks) (blocks : ℕ) (fault : CheckFault) (one other : Result image.Blocks image.ImageFault) → blocks ≡ image.block_count byte → in_turn (image.record_tests byte image.root_place) start ≡ Ok now → Tells (Err fault) (image.contents_test blocks byte image.root_place now) one → Tells (Err fault) (in_turn (image.tree_tests byte) start) other
tree_stops byte start now blocks (check.Bad fault) one other e root tells =
    tree_2 byte start now (fault_of fault) root (ap (λ d. image.contents_test d byte image.root_place now) (sym e) ∙ tells)
tree_stops byte start now blocks check.NoMemory one other e root tells = tt
