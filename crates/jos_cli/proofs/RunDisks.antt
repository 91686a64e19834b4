-- The disk of a run is the one that was found: it has all of its blocks, and the files that stand on it.
use Rattle.std.proofs.Common.{◌≡◌, ◌∙◌, ℕ, zero, suc, ◌+◌, ◌*◌, ◌/◌, ◌%◌, ◌<◌, ◌≤◌, Bool, true, false, List, [], ◌∷◌, length, Option, Some, None, Ok, Err}
use Rattle.std.proofs.Common.{refl, sym, ap, subst, arith}
use mathlib.Core.Logic.{inl, inr}
use Rattle.std.specs.Prelude.{◌==◌, nat_le, slice_index, unwrap_or}
use Rattle.std.specs.Result.{result_unwrap_or}
use Rattle.std.proofs.lemmas.Bool.{leb-true, and_from, and_parts, cases_lt}
use Rattle.std.proofs.lemmas.Bool.Decides.{leb_tells}
use Rattle.jos_base.specs.Words.{◌>>=◌}
use Rattle.jos_base.specs.Below.{values_below}
use Rattle.jos_base.proofs.Below.{get_or-values, length-values}
use Rattle.jos_host.specs.Asked.{Asked}
use Rattle.jos_host.specs.Files.{Files, bytes_of}
use Rattle.jos_host.specs.Frames.{from_to}
use Rattle.fs_layout.specs.declared.numbers.TheConstants.{BLKSIZE, FS_MAGIC, MAXBLOCKS, MINBLOCKS}
use Rattle.fs_layout.specs.DiskImage as image
use Rattle.fs_layout.specs.DiskImage.{none_named, in_turn, image_fault, block_count}
use Rattle.fs_layout.specs.DiskFiles.{IsDiskImage, file_system_of}
use Rattle.fs_layout.specs.FileTree.{FileSystem}
use Rattle.fs_image.specs.DiskHeld.{HeldDisk, held_of, fault_in}
use Rattle.fs_image.proofs.Image.{long, image_1, super_1, super_2, super_3}
use Rattle.fs_contents.proofs.Held.{held_faults, held_trees}
use Rattle.lib_os.specs.Disk.{Disk, DiskFile, block_in, byte_in_blocks, disk_in, HasBlocks}
use Rattle.lib_os.specs.Rows.{AreBytes}
use Rattle.jos_words.specs.Arguments.{Word}
use Rattle.jos_words.specs.Commands.{Run}
use Rattle.jos_kernel.specs.Boot.{Loadable}
use Rattle.jos_run.specs.DiskTouches.{TouchesDiskOnly}
use Rattle.jos_run.specs.Start.{HoldsFiles}
use Rattle.jos_cli.specs.Commands.{path_word}
use Rattle.jos_cli.specs.Limits.{limit_of_run}
use Rattle.jos_cli.specs.Found.{FileAt, RunFound, IsRunFound}
use Rattle.jos_cli.specs.Answer.{Judged, within, schedule_of, input_within}
use Rattle.jos_cli.specs.Disks.{held_at, checked, checked_by, disk_of, held_on, blocks_on, files_on}
use Rattle.jos_cli.specs.RunAnswers.{image_on, program_on, GatheredProgram, gathered_program, disk_file_of, BeginsWithDisk}
use Rattle.jos_cli.proofs.Asking.{moves_none}
use Rattle.jos_cli.proofs.FilesWritten.{keeps_disk}
use Rattle.jos_cli.proofs.ProgramsRead.{from_schedule, from_program, from_input, read_all}

-- ---- a disk in as many bytes as its blocks have

record Begins (size : ℕ) (byte : ℕ → ℕ) : Type 0 where
  long_is : long size byte ≡ true
  count_is : image.is_good_count (block_count byte) ≡ true

begins : (size : ℕ) (byte : ℕ → ℕ) → image_fault size byte ≡ None → Begins size byte
begins size byte none = by_tests (long size byte) (image.magic_of byte == FS_MAGIC) (image.is_good_count (block_count byte)) refl refl refl
  where
    fails : (f : image.ImageFault) → in_turn (image.super_tests size byte) none_named ≡ Err f → Begins size byte
    fails f e = let some = image_1 size byte f e in absurd (cc)

    by_tests : (l m c : Bool) → long size byte ≡ l → (image.magic_of byte == FS_MAGIC) ≡ m → image.is_good_count (block_count byte) ≡ c → Begins size byte
    by_tests false m c e h k = fails image.TooShort (super_1 size byte none_named e)
    by_tests true false c e h k = fails image.Magic (super_2 size byte none_named e h)
    by_tests true true false e h k = fails image.BlockCount (super_3 size byte none_named e h k)
    by_tests true true true e h k = record { long_is = e; count_is = k }

le_test : (m n : ℕ) → m ≤ n → nat_le m n ≡ true
le_test m n h = elim (leb_tells m n) [ inl le ↦ le.0 | inr gt ↦ absurd (omega (arith, gt.1)) ]

same_fault : (size other : ℕ) (byte : ℕ → ℕ) → long size byte ≡ long other byte → image_fault size byte ≡ image_fault other byte
unfolding image.image_fault image.image_tests image.super_tests
same_fault size other byte e = rw e refl

module _ (size : ℕ) (byte : ℕ → ℕ) (none : image_fault size byte ≡ None) where
  reached : BLKSIZE * block_count byte ≤ size
  reached = leb-true _ _ (and_parts (nat_le (3 * BLKSIZE) size) (nat_le (BLKSIZE * block_count byte) size) (begins size byte none).long_is).1

  in_its_blocks : IsDiskImage (BLKSIZE * block_count byte) byte
  in_its_blocks =
      let count = block_count byte in
      let b = begins size byte none in
      let least : MINBLOCKS ≤ count = leb-true _ _ (and_parts (nat_le MINBLOCKS count) (nat_le count MAXBLOCKS) b.count_is).0 in
      let three : 3 * BLKSIZE ≤ BLKSIZE * count = omega arith in
      let all : BLKSIZE * count ≤ BLKSIZE * count = omega arith in
      let is_long : long (BLKSIZE * count) byte ≡ true =
      and_from (nat_le (3 * BLKSIZE) (BLKSIZE * count)) (nat_le (BLKSIZE * count) (BLKSIZE * count)) (le_test _ _ three) (le_test _ _ all) in
      same_fault (BLKSIZE * count) size byte (is_long ∙ sym b.long_is) ∙ none

-- ---- the bytes of its blocks

byte_is : (file : List ℕ) (at : ℕ) → byte_in_blocks (block_in file) at ≡ slice_index file at
unfolding block_in
byte_is file at =
    let low : at % BLKSIZE < BLKSIZE = omega arith in
    let place : BLKSIZE * (at / BLKSIZE) + at % BLKSIZE ≡ at = omega arith in
    get_or-values BLKSIZE (λ k. slice_index file (BLKSIZE * (at / BLKSIZE) + k)) (at % BLKSIZE) 0 low ∙ ap (slice_index file) place

bytes_are : (file : List ℕ) → byte_in_blocks (block_in file) ≡ slice_index file
bytes_are file = λ i at. byte_is file at i

past_none : (xs : List ℕ) (k : ℕ) → length xs ≤ k → slice_index xs k ≡ 0
past_none [] k past = refl
past_none (x ∷ xs) zero past = absurd (omega (arith, past))
past_none (x ∷ xs) (suc k) past = past_none xs k (omega (arith, past))

values_small : (n : ℕ) (f : ℕ → ℕ) → ((k : ℕ) → k < n → f k < 256) → AreBytes (values_below n f)
values_small n f small k = elim (cases_lt k n) [
  | inl below ↦ subst (λ (byte : ℕ). byte < 256) (sym (get_or-values n f k 0 below)) (small k below)
  | inr past ↦
      let least : n ≤ k = grind (arith, past) in
      let long = length-values n f in
      subst (λ (byte : ℕ). byte < 256) (sym (past_none (values_below n f) k (omega (arith, least, long)))) (omega arith)
]

blocks_small : (file : List ℕ) → AreBytes file → (n k : ℕ) → slice_index (block_in file n) k < 256
unfolding block_in
blocks_small file small n = values_small BLKSIZE (λ k. slice_index file (BLKSIZE * n + k)) (λ k below. small (BLKSIZE * n + k))

-- ---- what was found

-- a disk was found, and this is looked at of it
record HasDisk (file : FileAt) (held : HeldDisk) : Type 0 where
  bytes : List ℕ
  stands : file.bytes ≡ Some bytes
  is : held_of bytes ≡ held
  none : fault_in (held_of bytes) ≡ None

has_disk : (file : FileAt) (held : HeldDisk) → disk_of file ≡ Ok held → HasDisk file held
unfolding disk_of
has_disk file held h = let is = there file.word.place file.bytes h in record { bytes = is.0; stands = is.1; is = is.2; none = is.3 }
  where
    passed : (fault : Option image.ImageFault) (looked : HeldDisk) → checked_by fault looked ≡ Ok held → (looked ≡ held) × (fault ≡ None)
    passed None looked h = (ap (λ (j : Judged HeldDisk). result_unwrap_or j looked) h, refl)
    passed (Some fault) looked h = absurd (let e = h in cc)

    there : (place : ℕ) (stands : Option (List ℕ)) → (held_at place stands >>= checked) ≡ Ok held →
        (bytes : List ℕ) × (stands ≡ Some bytes) × (held_of bytes ≡ held) × (fault_in (held_of bytes) ≡ None)
    there place None h = absurd (let e = h in cc)
    there place (Some bytes) h = let is = passed (fault_in (held_of bytes)) (held_of bytes) h in (bytes, refl, is.0, is.1)

-- and it is what is told of it
pub held_is : (file : FileAt) (held : HeldDisk) → disk_of file ≡ Ok held → held_on file ≡ held
held_is file held h = let d = has_disk file held h in ap (λ (o : Option (List ℕ)). held_of (unwrap_or o [])) d.stands ∙ d.is

-- ---- what was gathered

then_ok : {X Y : Type 0} (judged : Judged X) (next : X → Judged Y) (y : Y) → (judged >>= next) ≡ Ok y → (x : X) × (judged ≡ Ok x) × (next x ≡ Ok y)
then_ok (Ok x) next y h = (x, refl, h)
then_ok (Err refusal) next y h = absurd (let e = h in cc)

record HasProgram (found : RunFound) (read : GatheredProgram) : Type 0 where
  held : HeldDisk
  disk : disk_of found.disk ≡ Ok held
  blocks : blocks_on found.disk ≡ read.blocks

on_disk : (path : Word) (file : FileAt) (program : Loadable) → program_on path file ≡ Ok program → (held : HeldDisk) × (disk_of file ≡ Ok held)
unfolding program_on
on_disk path file program h = let is = then_ok (disk_of file) (image_on path) program h in (is.0, is.1)

has_program : (r : Run) (found : RunFound) (input : List ℕ) (read : GatheredProgram) → gathered_program r found input ≡ Ok read → HasProgram found read
unfolding gathered_program
has_program r found input read h =
    let words = then_ok (within (limit_of_run r)) (λ _. from_schedule r found input) read h in
    let schedule = then_ok (schedule_of found.schedule) (from_program r found input) read words.2 in
    let program = then_ok (program_on (path_word r.words) found.disk) (from_input r found input schedule.0) read schedule.2 in
    let all = then_ok (input_within input) (read_all r found input schedule.0 program.0) read program.2 in
    let disk = on_disk (path_word r.words) found.disk program.0 program.1 in
    record { held = disk.0; disk = disk.1; blocks = ap (λ (j : Judged GatheredProgram). (result_unwrap_or j read).blocks) all.2 }

-- ---- the disk of the run

-- the bytes of the disk's file
module _ (file : FileAt) (held : HeldDisk) (h : disk_of file ≡ Ok held) where
  abbrev its_bytes : List ℕ
  its_bytes = unwrap_or file.bytes []

  no_fault : image_fault (length its_bytes) (slice_index its_bytes) ≡ None
  no_fault =
      let d = has_disk file held h in
      subst (λ (bytes : List ℕ). image_fault (length bytes) (slice_index bytes) ≡ None) (sym (ap (λ (o : Option (List ℕ)). unwrap_or o []) d.stands))
      (sym (held_faults d.bytes) ∙ d.none)

  same_files : files_on file ≡ file_system_of (slice_index its_bytes)
  same_files = held_trees its_bytes no_fault

  same_count : blocks_on file ≡ block_count (slice_index its_bytes)
  unfolding file_system_of
  same_count = ap (λ (f : FileSystem). f.blocks) same_files

  long_enough : BLKSIZE * blocks_on file ≤ length its_bytes
  long_enough =
      subst (λ (count : ℕ). BLKSIZE * count ≤ length its_bytes) (sym same_count) (reached (length its_bytes) (slice_index its_bytes) no_fault)

  abbrev the_disk : Disk
  the_disk = record { count = blocks_on file; block = block_in its_bytes }

  holds : AreBytes its_bytes → HoldsFiles the_disk (files_on file)
  holds small =
      let same = bytes_are its_bytes in
      record {
        image =
            subst (λ (byte : ℕ → ℕ). IsDiskImage (BLKSIZE * blocks_on file) byte) (sym same)
            (subst (λ (count : ℕ). IsDiskImage (BLKSIZE * count) (slice_index its_bytes)) (sym same_count)
            (in_its_blocks (length its_bytes) (slice_index its_bytes) no_fault));
        count = ap block_count same ∙ sym same_count;
        bytes = blocks_small its_bytes small;
        are = ap file_system_of same ∙ sym same_files;
      }

module _ (r : Run) (found : RunFound) (input : List ℕ) where
  -- the file has all of its blocks
  pub has_blocks : (told : Option Files) (read : GatheredProgram) → IsRunFound told r found → gathered_program r found input ≡ Ok read →
      HasBlocks told (disk_file_of r read)
  has_blocks None read is all = tt
  has_blocks (Some files) read is all =
      let p = has_program r found input read all in
      let stands : bytes_of files r.disk.text ≡ its_bytes found.disk p.held p.disk = ap (λ (file : FileAt). unwrap_or file.bytes []) (sym is.disk) in
      subst (λ (count : ℕ). BLKSIZE * count ≤ length (bytes_of files r.disk.text)) p.blocks
      (subst (λ (bytes : List ℕ). BLKSIZE * blocks_on found.disk ≤ length bytes) (sym stands) (long_enough found.disk p.held p.disk))

  -- and the run begins with the files that stand on it
  pub begins_with_disk : (told : Option Files) → IsRunFound told r found → BeginsWithDisk r found input told
  begins_with_disk None is = tt
  begins_with_disk (Some files) is = λ small read all.
      let p = has_program r found input read all in
      let stands : bytes_of files r.disk.text ≡ its_bytes found.disk p.held p.disk = ap (λ (file : FileAt). unwrap_or file.bytes []) (sym is.disk) in
      record {
        told = disk_in files (disk_file_of r read);
        files = files_on found.disk;
        is = refl;
        holds =
            subst (λ (count : ℕ). HoldsFiles (record { count = count; block = block_in (bytes_of files r.disk.text) }) (files_on found.disk)) p.blocks
            (subst (λ (bytes : List ℕ). HoldsFiles (record { count = blocks_on found.disk; block = block_in bytes }) (files_on found.disk)) (sym stands)
            (holds found.disk p.held p.disk (subst (λ (bytes : List ℕ). AreBytes bytes) stands small)));
        starts = refl;
      }

-- ---- no block is moved

pub touches_none : (disk : DiskFile) (files : Option Files) (log : Option (List Asked)) → TouchesDiskOnly disk (from_to files files) (from_to log log)
touches_none disk files log =
    let none = moves_none disk.name log log refl in
    record { keeps = keeps_disk disk.name files files refl; calls = none.0; of_disk = none.1; asked_are = none.2 }
