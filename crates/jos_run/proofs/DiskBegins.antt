-- Where a run begins the files of a disk without a fault are those of the first abstract state, and only the console is held.
use Rattle.std.proofs.Common.{◌≡◌, ◌∙◌, inl, inr, ◌*◌, ◌/◌, ◌<◌, ◌≤◌, ◌==◌, ℕ, Bool, true, false, List, Option, Some, None, refl, sym, ap, subst, arith}
use Rattle.std.proofs.Common.{if◌then◌else◌}
use Rattle.std.specs.Prelude.{nat_lt}
use Rattle.std.proofs.lemmas.Bool.{cases_lt, false≢true}
use Rattle.std.proofs.lemmas.Bool.Decides.{nat_tests}
use Rattle.jos_base.specs.declared.numbers.TheConstants.{FIRST_ENV_ID, NENV}
use Rattle.jos_base.proofs.Below.{some_below-none}
use Rattle.jos_elf.specs.Parsed.{Layout}
use Rattle.fs_layout.specs.declared.numbers.TheConstants.{BLKSIZE, MAXBLOCKS}
use Rattle.fs_layout.specs.DiskFiles.{IsDiskImage, file_system_of}
use Rattle.fs_layout.specs.DiskImage.{block_count, is_good_count, none_named}
use Rattle.fs_layout.specs.FileTree.{FileSystem}
use Rattle.fs_acts.specs.BlockLaws.{SameWithin}
use Rattle.fs_acts.proofs.DiskCounts.{image-passed, super-met}
use Rattle.fs_acts.proofs.Disks.{blocks-decide}
use Rattle.lib_os.specs.declared.numbers.TheConstants.{DESCRIPTORS}
use Rattle.lib_os.specs.AbstractState.{Page, born, free, serving}
use Rattle.lib_os.specs.Descriptors.{holds_in, is_held, is_name}
use Rattle.lib_os.specs.Disk.{Disk, byte_in_blocks}
use Rattle.lib_os.specs.GuestStep.{born_in}
use Rattle.fs_seen.specs.ServerWhole.{bytes_on}
use Rattle.jos_run.specs.Start.{HoldsFiles, first_descriptors, first_memory, first_slot, program_with, start_state}

-- ---- the disk

-- a disk has no more blocks than there may be
few_blocks : (count : ℕ) → is_good_count count ≡ true → count ≤ MAXBLOCKS
few_blocks count good = grind (arith, nat_tests, good)

-- within its blocks
pub bytes_within : (d : Disk) (at : ℕ) → at < BLKSIZE * d.count → byte_in_blocks d.block at ≡ bytes_on d at
bytes_within d at within =
    let below : at / BLKSIZE < d.count = omega (arith, within) in
    let test : nat_lt (at / BLKSIZE) d.count ≡ true = grind (arith, nat_tests, below) in
    sym (ap (λ (t : Bool). if t then byte_in_blocks d.block at else 0) test)

module _ (d : Disk) (files : FileSystem) (h : HoldsFiles d files) where
  pub count_small : d.count ≤ MAXBLOCKS
  count_small =
      let passed = image-passed (BLKSIZE * d.count) (byte_in_blocks d.block) h.image in
      let met = super-met (BLKSIZE * d.count) (byte_in_blocks d.block) none_named none_named passed.begins in
      few_blocks d.count (ap is_good_count (sym h.count) ∙ met.count)

  same_within : SameWithin (block_count (byte_in_blocks d.block)) (byte_in_blocks d.block) (bytes_on d)
  same_within at within = bytes_within d at (subst (λ (n : ℕ). at < BLKSIZE * n) h.count within)

  pub image_on : IsDiskImage (BLKSIZE * d.count) (bytes_on d)
  image_on = (blocks-decide (BLKSIZE * d.count) (byte_in_blocks d.block) (bytes_on d) h.image same_within).0

  same_files : file_system_of (bytes_on d) ≡ file_system_of (byte_in_blocks d.block)
  same_files = (blocks-decide (BLKSIZE * d.count) (byte_in_blocks d.block) (bytes_on d) h.image same_within).1

  pub count_on : block_count (bytes_on d) ≡ d.count
  unfolding file_system_of
  count_on = ap (λ (f : FileSystem). f.blocks) same_files ∙ h.count

  pub files_on : file_system_of (bytes_on d) ≡ files
  files_on = same_files ∙ h.are

-- ---- who holds what

named_first : (name fd : ℕ) → 1 ≤ name → is_name (first_descriptors fd) name ≡ false
named_first name fd some = by_test (nat_lt fd 2)
  where
    by_test : (t : Bool) → is_name (if t then Some 0 else None) name ≡ false
    by_test true = let other : (0 == name) ≡ false = grind (arith, nat_tests, some) in other
    by_test false = refl

module _ (image : Layout) (words : List (List ℕ)) (memory : ℕ → Option Page) where
  held_by_none : (name : ℕ) → 1 ≤ name → (n : ℕ) → holds_in (born_in (first_slot (program_with image words memory) n)) name ≡ false
  held_by_none name some n = by_tests (n == 0) (n == 1)
    where
      by_tests : (t u : Bool) →
          holds_in (born_in (if t then serving FIRST_ENV_ID else if u then born (program_with image words memory) else free 0)) name ≡ false
      by_tests true u = refl
      by_tests false true = some_below-none (λ fd. is_name (first_descriptors fd) name) DESCRIPTORS (λ fd below. named_first name fd some)
      by_tests false false = refl

-- each object that is held is the first
pub first_held : (image : Layout) (file : List ℕ) (words : List (List ℕ)) (input : List ℕ) (files : FileSystem) (name : ℕ) →
    is_held (start_state image file words input files) name ≡ true → name < 1
first_held image file words input files name is = elim (cases_lt name 1) [
  | inl below ↦ below
  | inr past ↦
      let some : 1 ≤ name = grind (arith, past) in
      absurd (false≢true (sym (some_below-none
      (λ n. holds_in (born_in (first_slot (program_with image words (first_memory image file words)) n)) name) NENV
      (λ n below. held_by_none image words (first_memory image file words) name some n)) ∙ is))
]
