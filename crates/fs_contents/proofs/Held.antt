-- The bytes that are held of a file as a disk are those of its blocks, and no others are looked at.
use Rattle.std.proofs.Common.{◌≡◌, ◌<◌, ◌≤◌, ◌*◌, ℕ, List, None, length, refl, sym, arith}
use Rattle.std.specs.Prelude.{max, min, slice_index, take}
use Rattle.std.proofs.lemmas.List.{get_or-take}
use Rattle.fs_layout.specs.declared.numbers.TheConstants.{BLKSIZE, MAXBLOCKS}
use Rattle.fs_layout.specs.DiskImage.{block_count, image_fault}
use Rattle.fs_image.specs.DiskHeld.{blocks_held, held_of}
use Rattle.fs_acts.proofs.DiskCounts.{image-counted, super-met}
use Rattle.fs_acts.proofs.Disks.{blocks-decide, disk-blocks}
use Rattle.fs_acts.proofs.Faults.{faults-blocks}
use Rattle.fs_contents.specs.HeldLaws.{HeldFaultsAreTheFiles, HeldTreesAreTheFiles}

-- within the blocks that are held, a byte is the file's
held : (file : List ℕ) (at : ℕ) → at < BLKSIZE * blocks_held file → slice_index file at ≡ slice_index (held_of file).bytes at
unfolding held_of
held file at below = sym (get_or-take (BLKSIZE * blocks_held file) file at 0 below)

pub held_faults : HeldFaultsAreTheFiles
unfolding held_of
held_faults file = faults-blocks (length file) (slice_index file) (slice_index (held_of file).bytes) (held file)

pub held_trees : HeldTreesAreTheFiles
held_trees file sound =
    (blocks-decide (length file) (slice_index file) (slice_index (held_of file).bytes) sound
    (λ at below. held file at (within at (block_count (slice_index file)) (few file sound) below))).1
  where
    within : (at n : ℕ) → n ≤ 16384 → at < 4096 * n → at < 4096 * max 2 (min n 16384)
    within at n small below = omega arith

    few : (file : List ℕ) → image_fault (length file) (slice_index file) ≡ None → block_count (slice_index file) ≤ 16384
    few file sound = (disk-blocks (length file) (slice_index file) (image-counted (length file) (slice_index file) sound)).1
