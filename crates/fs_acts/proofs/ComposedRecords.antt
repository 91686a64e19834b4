-- What a record at a way says, where the node that stands there in the tree is known.
use Rattle.std.proofs.Common.{◌≡◌, ◌∙◌, ◌+◌, ◌*◌, ◌/◌, ◌%◌, ◌<◌, ◌≤◌, ℕ, zero, suc, Bool, true, false, List, [], ◌∷◌, length}
use Rattle.std.proofs.Common.{Option, Some, None, refl, sym, ap, subst, arith}
use Rattle.std.specs.Prelude.{option_map, if◌then◌else◌}
use Rattle.std.proofs.lemmas.Bool.Decides.{nat_tests}
use Rattle.fs_layout.specs.declared.numbers.TheConstants.{BLKSIZE, RECORDSIZE, MAXFILESIZE, NDIRECT}
use Rattle.fs_layout.specs.FileTree.{Node, a_file, a_directory, Records, NamedNode, listed, records_from, blocks_of}
use Rattle.fs_layout.specs.FileTree.{tree_blocks, bitmap_blocks}
use Rattle.fs_layout.specs.DiskImage.{block_count, root_place, size_of, has_indirect, is_directory_at}
use Rattle.jos_base.specs.Below.{values_below}
use Rattle.fs_layout.specs.DiskImage.{slot_count, slot_place}
use Rattle.fs_layout.specs.DiskFiles.{IsDiskImage, file_system_of, file_bytes, free_blocks, named_of, node_of, records_at}
use Rattle.fs_layout.proofs.FileTrees.{listed-records_from}
use Rattle.jos_base.proofs.Below.{length-values}
use Rattle.fs_acts.specs.BlockActs.{is_named_slot, place_from, place_at}
use Rattle.fs_acts.specs.BlockLaws.{IsGoodRecord, AreGood, Holds}
use Rattle.fs_acts.proofs.ComposedSteps.{ChangesAreActs}

-- ---- every record at a way is good

named_slot : (byte : ℕ → ℕ) (place i : ℕ) → is_named_slot byte place i ≡ true →
    (is_directory_at byte place ≡ true) × (i < slot_count byte place)
named_slot byte place i e = grind (arith, nat_tests)

-- a choice that gave something
chosen : (b : Bool) (one : Option ℕ) (at : ℕ) → (if b then one else None) ≡ Some at → (b ≡ true) × (one ≡ Some at)
chosen true one at e = (refl, e)
chosen false one at e = cc

good-from : (depth : ℕ) (byte : ℕ → ℕ) (way : List ℕ) (place at : ℕ) → AreGood depth byte place →
    place_from byte way place ≡ Some at → IsGoodRecord byte at
unfolding AreGood place_from
good-from zero byte [] place at good e =
    let same : place ≡ at = cc in subst (IsGoodRecord byte) same good.0
good-from (suc depth) byte [] place at good e =
    let same : place ≡ at = cc in subst (IsGoodRecord byte) same good.0
good-from zero byte (i ∷ way) place at good e =
    let is = chosen (is_named_slot byte place i) (place_from byte way (slot_place byte place i)) at e in
    let slot = named_slot byte place i is.0 in
    let none : slot_count byte place ≡ 0 = good.1 slot.0 in
    let within : i < slot_count byte place = slot.1 in
    absurd (omega (arith, none, within))
good-from (suc depth) byte (i ∷ way) place at good e =
    let is = chosen (is_named_slot byte place i) (place_from byte way (slot_place byte place i)) at e in
    good-from depth byte way (slot_place byte place i) at (good.1 i is.0).1 is.1

pub good-at : ChangesAreActs → (size : ℕ) (byte : ℕ → ℕ) (way : List ℕ) (place : ℕ) → IsDiskImage size byte →
    place_at byte way ≡ Some place → IsGoodRecord byte place
good-at laws size byte way place sound e =
    good-from (block_count byte) byte way root_place place ((laws.counted size byte).0 sound).records e

-- the node of the record at a way
node-there : ChangesAreActs → (size : ℕ) (byte : ℕ → ℕ) (way : List ℕ) (place : ℕ) (node : Node) → Holds size byte way place node →
    ◌≡◌ {A = Option Node} (Some node) (Some (node_of (records_at (block_count byte) byte) byte place))
node-there laws size byte way place node holds =
    sym holds.is
    ∙ laws.ways size byte holds.sound way
    ∙ ap (option_map (node_of (records_at (block_count byte) byte) byte)) holds.stands

-- ---- files

-- the record of a file
pub record FileIs (byte : ℕ → ℕ) (place : ℕ) (bytes : List ℕ) (indirect : Bool) : Type 0 where
  pub kind : is_directory_at byte place ≡ false
  pub all : bytes ≡ file_bytes byte place
  pub long : length bytes ≡ size_of byte place
  pub mark : has_indirect byte place ≡ indirect
  pub short : length bytes ≤ MAXFILESIZE
  pub needed : NDIRECT < blocks_of (length bytes) → indirect ≡ true

of-file : (b : Bool) (records : Records) (own bytes : List ℕ) (mark indirect : Bool) →
    ◌≡◌ {A = Option Node} (Some (a_file bytes indirect)) (Some (if b then a_directory records mark else a_file own mark)) →
    (b ≡ false) × (bytes ≡ own) × (mark ≡ indirect)
of-file true records own bytes mark indirect e = cc
of-file false records own bytes mark indirect e = (refl, one, two)
  where
    one : bytes ≡ own
    one = cc

    two : mark ≡ indirect
    two = cc

length-file_bytes : (byte : ℕ → ℕ) (place : ℕ) → length (file_bytes byte place) ≡ size_of byte place
unfolding file_bytes
length-file_bytes byte place = length-values (size_of byte place) _

pub file-is : ChangesAreActs → (size : ℕ) (byte : ℕ → ℕ) (way : List ℕ) (place : ℕ) (bytes : List ℕ) (indirect : Bool) →
    Holds size byte way place (a_file bytes indirect) → FileIs byte place bytes indirect
file-is laws size byte way place bytes indirect holds =
    let good = good-at laws size byte way place holds.sound holds.stands in
    let is =
    of-file (is_directory_at byte place) (records_at (block_count byte) byte place) (file_bytes byte place) bytes
    (has_indirect byte place) indirect (node-there laws size byte way place (a_file bytes indirect) holds) in
    let long : length bytes ≡ size_of byte place = ap length is.1 ∙ length-file_bytes byte place in
    record {
      kind = is.0;
      all = is.1;
      long = long;
      mark = is.2;
      short = subst (λ (n : ℕ). n ≤ MAXFILESIZE) (sym long) good.readable.short;
      needed = λ more. sym is.2 ∙ good.needed (subst (λ (n : ℕ). NDIRECT < blocks_of n) long more);
    }

-- the same file, as the record tells it
pub file-at : ChangesAreActs → (size : ℕ) (byte : ℕ → ℕ) (way : List ℕ) (place : ℕ) → IsDiskImage size byte →
    place_at byte way ≡ Some place → is_directory_at byte place ≡ false →
    Holds size byte way place (a_file (file_bytes byte place) (has_indirect byte place))
file-at laws size byte way place sound stands kind =
    record {
      sound = sound;
      stands = stands;
      is =
          laws.ways size byte sound way
          ∙ ap (option_map (node_of (records_at (block_count byte) byte) byte)) stands
          ∙ ap (λ (b : Bool). Some (if b then a_directory (records_at (block_count byte) byte place) (has_indirect byte place)
          else a_file (file_bytes byte place) (has_indirect byte place))) kind;
    }

-- ---- directories

-- the record of a directory; `below` has those of the directories in it
pub record DirectoryIs (byte : ℕ → ℕ) (place : ℕ) (list : List (Option NamedNode)) (indirect : Bool) : Type 0 where
  pub kind : is_directory_at byte place ≡ true
  pub long : length list ≡ slot_count byte place
  pub size : size_of byte place ≡ RECORDSIZE * length list
  pub whole : RECORDSIZE * length list % BLKSIZE ≡ 0
  pub mark : has_indirect byte place ≡ indirect
  pub short : RECORDSIZE * length list ≤ MAXFILESIZE
  pub needed : NDIRECT < blocks_of (RECORDSIZE * length list) → indirect ≡ true
  pub below : ℕ → Records
  pub all : list ≡ values_below (slot_count byte place) (λ i. named_of below byte (slot_place byte place i))

of-directory : (b : Bool) (own records : Records) (bytes : List ℕ) (mark indirect : Bool) →
    ◌≡◌ {A = Option Node} (Some (a_directory records indirect)) (Some (if b then a_directory own mark else a_file bytes mark)) →
    (b ≡ true) × (records ≡ own) × (mark ≡ indirect)
of-directory false own records bytes mark indirect e = cc
of-directory true own records bytes mark indirect e = (refl, one, two)
  where
    one : records ≡ own
    one = cc

    two : mark ≡ indirect
    two = cc

-- a disk has blocks
has-blocks : ChangesAreActs → (size : ℕ) (byte : ℕ → ℕ) → IsDiskImage size byte → 0 < block_count byte
unfolding file_system_of
has-blocks laws size byte sound =
    some_blocks (bitmap_blocks (block_count byte)) (tree_blocks (file_system_of byte).root) (file_system_of byte).unnamed
    (free_blocks byte) (block_count byte) (laws.blocks size byte sound)
  where
    some_blocks : (a b c d all : ℕ) → 2 + a + b + c + d ≡ all → 0 < all
    some_blocks a b c d all e = omega arith

-- the records of a directory, as a list
records-list : (depth : ℕ) (byte : ℕ → ℕ) (place : ℕ) → 0 < depth →
    (below : ℕ → Records)
    × (listed (records_at depth byte place) ≡ values_below (slot_count byte place) (λ i. named_of below byte (slot_place byte place i)))
unfolding records_at
records-list zero byte place some = absurd (omega arith)
records-list (suc depth) byte place some = (records_at depth byte, listed-records_from _)

whole_records : (size : ℕ) → size % 4096 ≡ 0 → size ≡ 256 * (size / 256)
whole_records size e = omega arith

pub directory-is : ChangesAreActs → (size : ℕ) (byte : ℕ → ℕ) (way : List ℕ) (place : ℕ) (list : List (Option NamedNode))
    (indirect : Bool) → Holds size byte way place (a_directory (records_from list) indirect) → DirectoryIs byte place list indirect
directory-is laws size byte way place list indirect holds =
    let good = good-at laws size byte way place holds.sound holds.stands in
    let is =
    of-directory (is_directory_at byte place) (records_at (block_count byte) byte place) (records_from list) (file_bytes byte place)
    (has_indirect byte place) indirect (node-there laws size byte way place (a_directory (records_from list) indirect) holds) in
    let those = records-list (block_count byte) byte place (has-blocks laws size byte holds.sound) in
    let all : list ≡ values_below (slot_count byte place) (λ i. named_of those.0 byte (slot_place byte place i)) =
    sym (listed-records_from list) ∙ ap listed is.1 ∙ those.1 in
    let long : length list ≡ slot_count byte place = ap length all ∙ length-values (slot_count byte place) _ in
    let size_is : size_of byte place ≡ RECORDSIZE * length list =
    whole_records (size_of byte place) (good.readable.whole is.0) ∙ ap (λ (n : ℕ). RECORDSIZE * n) (sym long) in
    record {
      kind = is.0;
      long = long;
      size = size_is;
      whole = subst (λ (n : ℕ). n % BLKSIZE ≡ 0) size_is (good.readable.whole is.0);
      mark = is.2;
      short = subst (λ (n : ℕ). n ≤ MAXFILESIZE) size_is good.readable.short;
      needed = λ more. sym is.2 ∙ good.needed (subst (λ (n : ℕ). NDIRECT < blocks_of n) (sym size_is) more);
      below = those.0;
      all = all;
    }
