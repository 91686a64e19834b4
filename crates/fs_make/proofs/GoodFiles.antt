-- What is known of files without a fault.
use Rattle.std.proofs.Common.{◌≡◌, ℕ, ◌+◌, ◌<◌, ◌≤◌, true, false, List, [], length, get_or, refl, arith, None}
use Rattle.std.specs.Prelude.{◌&&◌, ◌||◌, ◌==◌, not, nat_lt, nat_le, All, option_map}
use Rattle.std.specs.List.{list_any}
use Rattle.std.proofs.lemmas.Bool.{ltb-true, ltb-false, leb-true, and_parts, or_parts, not-false}
use Rattle.jos_host.specs.MemHost.{Named}
use Rattle.fs_layout.specs.declared.numbers.TheConstants.{MAXFILESIZE, MAXNAMELEN, MAXBLOCKS, MINBLOCKS}
use Rattle.fs_layout.specs.FileActs.{is_slash}
use Rattle.fs_layout.specs.DiskImage.{is_good_count, first_data_block}
use Rattle.fs_make.specs.declared.fault.MakeFault.TheVariants.{TooManyBlocks, BadName, TwiceNamed, TooLong, NoRoom}
use Rattle.fs_make.specs.MakeFaults.{is_file_name, first_taken, span_of, spans_of, root_size, blocks_used, fault_where, make_fault}
use Rattle.fs_make.proofs.FirstFault.{bad_name, too_long, no_room, none-passes, sizes-fit}
use Rattle.jos_base.proofs.Options.{or_none, map_none}
use Rattle.fs_make.proofs.Faultless.{none-where}

pub record Good (blocks : ℕ) (files : List Named) : Type 0 where
  pub count : blocks ≤ MAXBLOCKS
  pub names : All (λ file. length file.name < MAXNAMELEN) files
  pub sizes : All (λ file. length file.bytes ≤ MAXFILESIZE) files
  pub root : root_size (length files) ≤ MAXFILESIZE
  pub room : first_data_block blocks + span_of (root_size (length files)) + spans_of files ≤ blocks

name-short : (name : List ℕ) → is_file_name name ≡ true → length name < MAXNAMELEN
unfolding is_file_name
name-short name e =
    let lengths = and_parts (nat_lt 0 (length name) && nat_lt (length name) MAXNAMELEN) (not (list_any (λ byte. is_slash byte || (byte == 0)) name)) e in
    ltb-true (length name) MAXNAMELEN (and_parts (nat_lt 0 (length name)) (nat_lt (length name) MAXNAMELEN) lengths.0).1

names-short : (files : List Named) → bad_name files ≡ None → All (λ file. length file.name < MAXNAMELEN) files
names-short files e = λ k d within.
    name-short (get_or files k d).name (not-false (is_file_name (get_or files k d).name) (none-passes (λ (file : Named). not (is_file_name file.name)) files e k d within))

pub used-is : (blocks : ℕ) (files : List Named) → blocks_used blocks files ≡ first_data_block blocks + span_of (root_size (length files)) + spans_of files
unfolding blocks_used
used-is blocks files = refl

record Passed (blocks : ℕ) (files : List Named) : Type 0 where
  count : not (is_good_count blocks) ≡ false
  name : bad_name files ≡ None
  size : too_long files ≡ None
  room : no_room blocks files ≡ false

passed : (blocks : ℕ) (files : List Named) → make_fault blocks files ≡ None → Passed blocks files
unfolding make_fault
passed blocks files e =
    let one = or_none (fault_where (not (is_good_count blocks)) TooManyBlocks) _ e in
    let two = or_none (option_map BadName (bad_name files)) _ one.1 in
    let three = or_none (option_map TwiceNamed (first_taken [] files)) _ two.1 in
    let four = or_none (option_map TooLong (too_long files)) _ three.1 in
    record {
      count = none-where (not (is_good_count blocks)) TooManyBlocks one.0;
      name = map_none BadName (bad_name files) two.0;
      size = map_none TooLong (too_long files) four.0;
      room = none-where (no_room blocks files) NoRoom four.1;
    }

pub good-files : (blocks : ℕ) (files : List Named) → make_fault blocks files ≡ None → Good blocks files
good-files blocks files e =
    let tests = passed blocks files e in
    let room = or_parts (nat_lt blocks (blocks_used blocks files)) (nat_lt MAXFILESIZE (root_size (length files))) tests.room in
    record {
      count = leb-true blocks MAXBLOCKS (and_parts (nat_le MINBLOCKS blocks) (nat_le blocks MAXBLOCKS) (not-false (is_good_count blocks) tests.count)).1;
      names = names-short files tests.name;
      sizes = sizes-fit files tests.size;
      root = ltb-false MAXFILESIZE (root_size (length files)) room.1;
      room = omega (arith, ltb-false blocks (blocks_used blocks files) room.0, used-is blocks files);
    }

-- the root directory has its blocks on the disk
pub root-room : (blocks : ℕ) (files : List Named) → Good blocks files → first_data_block blocks + span_of (root_size (length files)) ≤ MAXBLOCKS
root-room blocks files good = omega (arith, good.room, good.count)

-- the same of the numbers that are computed
pub all-room : (blocks : ℕ) (files : List Named) (first root span : ℕ) → Good blocks files → first ≡ first_data_block blocks → root ≡ root_size (length files) → span ≡ span_of root →
    first + span + spans_of files ≤ blocks
all-room blocks files first root span good f r s = rw (s, r, f) good.room

pub used-room : (blocks : ℕ) (files : List Named) (used : ℕ) → Good blocks files → used ≡ blocks_used blocks files → used ≤ blocks
used-room blocks files used good e = omega (arith, good.room, used-is blocks files)
