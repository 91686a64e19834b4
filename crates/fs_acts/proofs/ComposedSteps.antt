-- Changes one after another: each is told by the disk that those before it leave, and all together put one node at a way.
use Rattle.std.proofs.Common.{◌≡◌, ◌∙◌, ◌+◌, ℕ, zero, suc, List, [], ◌∷◌, ◌++◌, Some}
use Rattle.std.proofs.Common.{refl, sym, ap, subst, arith}
use Rattle.std.specs.Prelude.{take}
use Rattle.fs_layout.specs.FileTree.{Node, FileSystem, node_at, with_node, tree_blocks, blocks_in_use}
use Rattle.fs_layout.specs.DiskImage.{block_count, is_directory_at}
use Rattle.fs_layout.specs.DiskFiles.{IsDiskImage, file_system_of, free_blocks}
use Rattle.fs_acts.specs.BlockActs.{Put, written, Change, puts_in_turn, place_at}
use Rattle.fs_acts.specs.BlockLaws.{Holds, Stays, Becomes, DisksAreCounted, BlocksAreCounted, WaysLeadToRecords, WaysLeadToNames}
use Rattle.fs_acts.specs.BlockLaws.{PathsLeadAlike, OverwritesAreActs, CutsAreActs, FillsAreActs, TakenIndirectIsMarked}
use Rattle.fs_acts.specs.BlockLaws.{GivenIndirectIsUnmarked, TakenBlocksAreZeros, TakenBlocksAreEmptyRecords, GivenBlocksAreLost}
use Rattle.fs_acts.specs.BlockLaws.{MadeRecordsAreFiles, EmptyFilesAreRemoved}
use Rattle.fs_acts.proofs.Puts.{written-append}
use Rattle.fs_acts.proofs.ComposedTrees.{with_node-twice, node_at-with_node, in_use-with_node}

-- The laws of single changes, of counts and of ways, from which the acts follow.
pub record ChangesAreActs : Type 0 where
  pub counted : DisksAreCounted
  pub blocks : BlocksAreCounted
  pub ways : WaysLeadToRecords
  pub names : WaysLeadToNames
  pub paths : PathsLeadAlike
  pub overwrites : OverwritesAreActs
  pub cuts : CutsAreActs
  pub fills : FillsAreActs
  pub taken_indirect : TakenIndirectIsMarked
  pub given_indirect : GivenIndirectIsUnmarked
  pub taken_blocks : TakenBlocksAreZeros
  pub taken_records : TakenBlocksAreEmptyRecords
  pub given_blocks : GivenBlocksAreLost
  pub made : MadeRecordsAreFiles
  pub emptied : EmptyFilesAreRemoved

-- ---- the disk that changes leave

unfoldable pub left_by : List Change → (ℕ → ℕ) → ℕ → ℕ
left_by [] byte = byte
left_by (change ∷ rest) byte = left_by rest (written (change byte) byte)

pub written-in_turn : (changes : List Change) (byte : ℕ → ℕ) → written (puts_in_turn changes byte) byte ≡ left_by changes byte
unfolding left_by puts_in_turn written
written-in_turn [] byte = refl
written-in_turn (change ∷ rest) byte =
    written-append (change byte) (puts_in_turn rest (written (change byte) byte)) byte
    ∙ written-in_turn rest (written (change byte) byte)

pub left_by-append : (first rest : List Change) (byte : ℕ → ℕ) → left_by (first ++ rest) byte ≡ left_by rest (left_by first byte)
unfolding left_by
left_by-append [] rest byte = refl
left_by-append (change ∷ first) rest byte = left_by-append first rest (written (change byte) byte)

-- a disk without a fault before the first, between each two and after the last
unfoldable pub Passes : ℕ → (ℕ → ℕ) → List Change → Type 0
Passes size byte [] = IsDiskImage size byte
Passes size byte (change ∷ rest) = IsDiskImage size byte × Passes size (written (change byte) byte) rest

pub passes-append : (size : ℕ) (byte : ℕ → ℕ) (first rest : List Change) → Passes size byte first →
    Passes size (left_by first byte) rest → Passes size byte (first ++ rest)
unfolding Passes left_by
passes-append size byte [] rest one two = two
passes-append size byte (change ∷ first) rest one two =
    (one.0, passes-append size (written (change byte) byte) first rest one.1 two)

pub passes-last : (size : ℕ) (byte : ℕ → ℕ) (changes : List Change) → Passes size byte changes → IsDiskImage size (left_by changes byte)
unfolding Passes left_by
passes-last size byte [] all = all
passes-last size byte (change ∷ rest) all = passes-last size (written (change byte) byte) rest all.1

passes-first : (size : ℕ) (byte : ℕ → ℕ) (changes : List Change) → Passes size byte changes → IsDiskImage size byte
unfolding Passes
passes-first size byte [] all = all
passes-first size byte (change ∷ rest) all = all.0

pub passes-take : (size : ℕ) (byte : ℕ → ℕ) (k : ℕ) (changes : List Change) → Passes size byte changes →
    IsDiskImage size (left_by (take k changes) byte)
unfolding Passes left_by
passes-take size byte zero changes all = passes-first size byte changes all
passes-take size byte (suc k) [] all = all
passes-take size byte (suc k) (change ∷ rest) all = passes-take size (written (change byte) byte) k rest all.1

-- ---- the node that changes put

-- all records stand where they stood
abbrev pub AllStay : (ℕ → ℕ) → (ℕ → ℕ) → Type 0
AllStay byte other = (way : List ℕ) (place : ℕ) → place_at byte way ≡ Some place → Stays byte other way place

-- also on a third disk
pub stays-on : (byte mid other : ℕ → ℕ) (way : List ℕ) (place : ℕ) → Stays byte mid way place → Stays mid other way place →
    Stays byte other way place
stays-on byte mid other way place one two = (two.0, two.1 ∙ one.1)

pub stay-same : (byte other : ℕ → ℕ) → other ≡ byte → AllStay byte other
stay-same byte other same way place leads =
    (ap (λ (b : ℕ → ℕ). place_at b way) same ∙ leads, ap (λ (b : ℕ → ℕ). is_directory_at b place) same)

-- After the changes the record stands where it stood and has another node, and no other has.
pub record Turns (size : ℕ) (byte : ℕ → ℕ) (way : List ℕ) (place : ℕ) (changes : List Change) (node : Node) : Type 0 where
  pub passes : Passes size byte changes
  pub stands : place_at (left_by changes byte) way ≡ Some place
  pub is : node_at (file_system_of (left_by changes byte)) way ≡ Some node
  pub tree : file_system_of (left_by changes byte) ≡ with_node (file_system_of byte) way node
  pub all_stay : AllStay byte (left_by changes byte)

-- so the next changes find it
pub turned : {size : ℕ} {byte : ℕ → ℕ} {way : List ℕ} {place : ℕ} {changes : List Change} {node : Node} →
    Turns size byte way place changes node → Holds size (left_by changes byte) way place node
turned {size} {byte} {way} {place} {changes} {node} t =
    record { sound = passes-last size byte changes t.passes; stands = t.stands; is = t.is }

-- one change
pub turns-one : (size : ℕ) (byte : ℕ → ℕ) (way : List ℕ) (place : ℕ) (old new : Node) (change : Change) →
    Holds size byte way place old → Becomes size byte way change new → Turns size byte way place (change ∷ []) new
unfolding left_by Passes
turns-one size byte way place old new change holds becomes =
    record {
      passes = (holds.sound, becomes.gives.sound);
      stands = becomes.stays ∙ holds.stands;
      is =
          ap (λ (s : FileSystem). node_at s way) becomes.gives.tree
          ∙ node_at-with_node (file_system_of byte) way old new holds.is;
      tree = becomes.gives.tree;
      all_stay = becomes.all_stay;
    }

-- changes after others
pub turns-append : (size : ℕ) (byte : ℕ → ℕ) (way : List ℕ) (place : ℕ) (mid new : Node) (first rest : List Change) →
    Turns size byte way place first mid → Turns size (left_by first byte) way place rest new →
    Turns size byte way place (first ++ rest) new
turns-append size byte way place mid new first rest one two =
    let after : left_by (first ++ rest) byte ≡ left_by rest (left_by first byte) = left_by-append first rest byte in
    record {
      passes = passes-append size byte first rest one.passes two.passes;
      stands = ap (λ (b : ℕ → ℕ). place_at b way) after ∙ two.stands;
      is = ap (λ (b : ℕ → ℕ). node_at (file_system_of b) way) after ∙ two.is;
      tree =
          ap file_system_of after
          ∙ two.tree
          ∙ ap (λ (s : FileSystem). with_node s way new) one.tree
          ∙ with_node-twice (file_system_of byte) way mid new;
      all_stay = λ at end leads.
          let here = one.all_stay at end leads in
          subst (λ (b : ℕ → ℕ). Stays byte b at end) (sym after)
          (stays-on byte (left_by first byte) (left_by rest (left_by first byte)) at end here (two.all_stay at end here.0));
    }

-- a change without puts
pub turns-idle : (size : ℕ) (byte : ℕ → ℕ) (way : List ℕ) (place : ℕ) (node : Node) (change : Change) →
    Holds size byte way place node → change byte ≡ [] → with_node (file_system_of byte) way node ≡ file_system_of byte →
    Turns size byte way place (change ∷ []) node
unfolding left_by Passes written
turns-idle size byte way place node change holds none same =
    let after : written (change byte) byte ≡ byte = ap (λ (puts : List Put). written puts byte) none in
    record {
      passes = (holds.sound, subst (IsDiskImage size) (sym after) holds.sound);
      stands = ap (λ (b : ℕ → ℕ). place_at b way) after ∙ holds.stands;
      is = ap (λ (b : ℕ → ℕ). node_at (file_system_of b) way) after ∙ holds.is;
      tree = ap file_system_of after ∙ sym same;
      all_stay = stay-same byte (written (change byte) byte) after;
    }

-- no change
pub turns-none : (size : ℕ) (byte : ℕ → ℕ) (way : List ℕ) (place : ℕ) (node : Node) → Holds size byte way place node →
    with_node (file_system_of byte) way node ≡ file_system_of byte → Turns size byte way place [] node
unfolding left_by Passes
turns-none size byte way place node holds same =
    record {
      passes = holds.sound;
      stands = holds.stands;
      is = holds.is;
      tree = sym same;
      all_stay = stay-same byte byte refl;
    }

-- ---- blocks

kept_sum : (free now free' now' old new blocks blocks' : ℕ) → blocks ≡ blocks' → now' + old ≡ now + new → now + free ≡ blocks →
    now' + free' ≡ blocks' → new + free' ≡ old + free
kept_sum free now free' now' old new blocks blocks' same moved before after = omega arith

-- The blocks of the node and those that are free are together as many as before.
pub blocks-kept : ChangesAreActs → (size : ℕ) (byte : ℕ → ℕ) (way : List ℕ) (place : ℕ) (old new : Node) (changes : List Change) →
    Holds size byte way place old → Turns size byte way place changes new →
    tree_blocks new + free_blocks (left_by changes byte) ≡ tree_blocks old + free_blocks byte
blocks-kept laws size byte way place old new changes holds turns =
    let now : ℕ → ℕ = left_by changes byte in
    let s : FileSystem = file_system_of byte in
    let moved : blocks_in_use (file_system_of now) + tree_blocks old ≡ blocks_in_use s + tree_blocks new =
    ap (λ (t : FileSystem). blocks_in_use t + tree_blocks old) turns.tree ∙ in_use-with_node s way old new holds.is in
    let count : block_count byte ≡ block_count now =
    unfold file_system_of in (sym (ap (λ (t : FileSystem). t.blocks) turns.tree)) in
    kept_sum (free_blocks byte) (blocks_in_use s) (free_blocks now) (blocks_in_use (file_system_of now)) (tree_blocks old)
    (tree_blocks new) (block_count byte) (block_count now) count moved (laws.blocks size byte holds.sound)
    (laws.blocks size now (passes-last size byte changes turns.passes))
