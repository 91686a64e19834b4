-- A disk has no fault exactly where its records are good, and each block is named once at most and then in use.
use Rattle.std.proofs.Common.{◌≡◌, ◌∙◌, ◌+◌, ◌≤◌, ◌==◌, ℕ, Bool, true, false, List, [], ◌∷◌, ◌++◌, None, Result, Ok, Err}
use Rattle.std.proofs.Common.{refl, sym, ap, subst, arith}
use Rattle.std.specs.Result.{result_err, result_unwrap_or}
use Rattle.jos_base.specs.Environments.{bit_of}
use Rattle.fs_layout.specs.declared.numbers.TheConstants.{FS_MAGIC}
use Rattle.fs_layout.specs.DiskImage.{magic_of, block_count, is_good_count}
use Rattle.fs_layout.specs.DiskImage.{ImageFault, Blocks, none_named, Test, demand, then_tested, in_turn, is_directory_at}
use Rattle.fs_layout.specs.DiskImage.{root_place, super_tests, tree_tests, image_tests, image_fault}
use Rattle.fs_layout.specs.DiskFiles.{IsDiskImage, named_blocks}
use Rattle.fs_layout.proofs.DiskSound.{disks-sound}
use Rattle.fs_acts.specs.BlockLaws.{times_on_disk, IsCounted, DisksAreCounted, NamesAreCounted}
use Rattle.fs_acts.proofs.Counts.{Names, between, then-made, err-not-ok, ok-same}
use Rattle.fs_acts.proofs.WalkCounts.{counts-tree, below-good, good-below}

-- ---- the tests of the super block, and then the others

pub in_turn-append : (first rest : List Test) (named : Blocks) →
    in_turn (first ++ rest) named ≡ then_tested (in_turn first named) (in_turn rest)
unfolding in_turn
in_turn-append [] rest named = refl
in_turn-append (test ∷ first) rest named = onward (test named) (in_turn-append first rest)
  where
    onward : (result : Result Blocks ImageFault) →
        ((then : Blocks) → in_turn (first ++ rest) then ≡ then_tested (in_turn first then) (in_turn rest)) →
        then_tested result (in_turn (first ++ rest)) ≡ then_tested (then_tested result (in_turn first)) (in_turn rest)
    onward (Ok then) same = same then
    onward (Err fault) same = refl

-- Demands that are met name nothing.
demands-met : (a b c d : Bool) (e f g h : ImageFault) (named now : Blocks) →
    in_turn (demand a e ∷ demand b f ∷ demand c g ∷ demand d h ∷ []) named ≡ Ok now →
    (a ≡ true) × ((b ≡ true) × ((c ≡ true) × ((d ≡ true) × (named ≡ now))))
unfolding in_turn
demands-met true true true true e f g h named now made = (refl, (refl, (refl, (refl, ok-same named now made))))
demands-met true true true false e f g h named now made = err-not-ok h now made
demands-met true true false d e f g h named now made = err-not-ok g now made
demands-met true false c d e f g h named now made = err-not-ok f now made
demands-met false b c d e f g h named now made = err-not-ok e now made

-- what the super block says
pub record SuperMet (byte : ℕ → ℕ) (named now : Blocks) : Type 0 where
  pub magic : (magic_of byte == FS_MAGIC) ≡ true
  pub count : is_good_count (block_count byte) ≡ true
  pub root : is_directory_at byte root_place ≡ true
  pub same : named ≡ now

pub super-met : (size : ℕ) (byte : ℕ → ℕ) (named now : Blocks) → in_turn (super_tests size byte) named ≡ Ok now →
    SuperMet byte named now
unfolding super_tests
super-met size byte named now made =
    let met =
    demands-met _ (magic_of byte == FS_MAGIC) (is_good_count (block_count byte)) (is_directory_at byte root_place) _ _ _ _ named now
    made in
    record { magic = met.1.0; count = met.1.1.0; root = met.1.1.1.0; same = met.1.1.1.1 }

-- ---- a disk

-- all tests passed
pub record Passed (size : ℕ) (byte : ℕ → ℕ) : Type 0 where
  pub now : Blocks
  pub begins : in_turn (super_tests size byte) none_named ≡ Ok none_named
  pub tree : in_turn (tree_tests byte) none_named ≡ Ok now
  pub root : is_directory_at byte root_place ≡ true

none-ok : (result : Result Blocks ImageFault) → result_err result ≡ None → (now : Blocks) × (result ≡ Ok now)
none-ok (Ok now) e = (now, refl)
none-ok (Err fault) e = absurd (cc)

pub image-passed : (size : ℕ) (byte : ℕ → ℕ) → IsDiskImage size byte → Passed size byte
unfolding image_fault image_tests
image-passed size byte e =
    let passed = none-ok (in_turn (super_tests size byte ++ tree_tests byte) none_named) e in
    let parts =
    between (in_turn (super_tests size byte) none_named) (in_turn (tree_tests byte)) passed.0
    (sym (in_turn-append (super_tests size byte) (tree_tests byte) none_named) ∙ passed.1) in
    let met = super-met size byte none_named parts.middle parts.made in
    record {
      now = passed.0;
      begins = subst (λ (b : Blocks). in_turn (super_tests size byte) none_named ≡ Ok b) (sym met.same) parts.made;
      tree = subst (λ (b : Blocks). in_turn (tree_tests byte) b ≡ Ok passed.0) (sym met.same) parts.rest_made;
      root = met.root;
    }

image-made : (size : ℕ) (byte : ℕ → ℕ) (now : Blocks) → in_turn (super_tests size byte) none_named ≡ Ok none_named →
    in_turn (tree_tests byte) none_named ≡ Ok now → IsDiskImage size byte
unfolding image_fault image_tests
image-made size byte now begins tree =
    ap result_err
    (in_turn-append (super_tests size byte) (tree_tests byte) none_named
    ∙ then-made (in_turn (super_tests size byte) none_named) (in_turn (tree_tests byte)) none_named now begins tree)

-- what the tree's tests named
pub tree-names : (size : ℕ) (byte : ℕ → ℕ) (passed : Passed size byte) →
    Names byte (times_on_disk byte) none_named passed.now
tree-names size byte passed = (counts-tree byte passed.root).names none_named passed.now passed.tree

bit-le : (b : Bool) → bit_of b ≤ 1
bit-le true = omega arith
bit-le false = omega arith

none-before : (n : ℕ) → 0 + n ≡ n
none-before n = omega arith

pub image-counted : (size : ℕ) (byte : ℕ → ℕ) → IsDiskImage size byte → IsCounted size byte
image-counted size byte e =
    let passed = image-passed size byte e in
    let names = tree-names size byte passed in
    let good = (counts-tree byte passed.root).asks none_named passed.now passed.tree in
    record {
      begins = passed.begins;
      records = below-good _ byte root_place good.0 (λ is. good.1.0) (disks-sound size byte e).records;
      once = λ block.
          subst (λ n. n ≤ 1) (names.after block ∙ none-before (times_on_disk byte block)) (bit-le (passed.now block));
      in_use = names.in_use;
      first = good.1.1;
    }

pub counted-image : (size : ℕ) (byte : ℕ → ℕ) → IsCounted size byte → IsDiskImage size byte
counted-image size byte counted =
    let root = (super-met size byte none_named none_named counted.begins).root in
    let good = good-below _ byte root_place counted.records in
    let made =
    (counts-tree byte root).passes (good.0, (good.1 root, counted.first)) none_named
    (record {
      once = λ block. subst (λ n. n ≤ 1) (sym (none-before (times_on_disk byte block))) (counted.once block);
      in_use = counted.in_use;
    }) in
    image-made size byte made.0 counted.begins made.1

-- the law
pub disks-counted : DisksAreCounted
disks-counted size byte = (image-counted size byte, counted-image size byte)

-- ---- the blocks that are named

unwrapped : (result : Result Blocks ImageFault) (now default : Blocks) → result ≡ Ok now → result_unwrap_or result default ≡ now
unwrapped result now default e = ap (λ (r : Result Blocks ImageFault). result_unwrap_or r default) e

-- the law
pub names-counted : NamesAreCounted
unfolding named_blocks
names-counted size byte e block =
    let passed = image-passed size byte e in
    ap (λ (b : Blocks). bit_of (b block)) (unwrapped (in_turn (tree_tests byte) none_named) passed.now none_named passed.tree)
    ∙ (tree-names size byte passed).after block ∙ none-before (times_on_disk byte block)
