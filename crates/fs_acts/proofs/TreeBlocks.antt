-- The blocks of the tree of a disk are those that its records name.
use Rattle.std.proofs.Common.{◌≡◌, ◌≢◌, ◌∙◌, ◌+◌, ◌*◌, ◌/◌, ◌%◌, ◌<◌, ◌==◌, ◌&&◌, ℕ, zero, suc, Bool, true, false}
use Rattle.std.proofs.Common.{List, [], ◌∷◌, ◌++◌, length, Option, Some, None, refl, sym, ap, arith, if◌then◌else◌}
use Rattle.std.proofs.lemmas.Bool.{and_parts}
use Rattle.std.proofs.lemmas.Bool.Decides.{nat_tests}
use Rattle.jos_base.specs.Counting.{total}
use Rattle.jos_base.specs.Environments.{bit_of}
use Rattle.jos_base.proofs.Sums.{total-same, total-change, total-none, total-ones, total-sum, total-swap}
use Rattle.fs_layout.specs.declared.numbers.TheConstants.{RECORDSIZE}
use Rattle.fs_layout.specs.FileTree.{a_file, a_directory, NamedNode, listed, records_from, blocks_taken}
use Rattle.fs_layout.specs.FileTree.{directory_size, tree_blocks, records_blocks}
use Rattle.jos_base.specs.Below.{values_below}
use Rattle.fs_layout.specs.DiskImage.{block_count, is_data_block, size_of, indirect_of, has_indirect}
use Rattle.fs_layout.specs.DiskImage.{is_empty_record, is_directory_at, blocks_needed, block_number_at, slot_count, slot_place}
use Rattle.fs_layout.specs.DiskFiles.{file_byte, file_bytes, node_of, named_of, records_at}
use Rattle.fs_layout.proofs.FileTrees.{listed-records_from}
use Rattle.jos_base.proofs.Below.{length-values}
use Rattle.fs_acts.specs.BlockLaws.{own_times, times_named, IsGoodRecord, AreGood}
use Rattle.fs_acts.proofs.WalkCounts.{parts-slot}

-- ---- one block

-- of the numbers below a count one is equal to this one
pub total-equal : (n k : ℕ) → k < n → total n (λ q. bit_of (k == q)) ≡ 1
total-equal n k within =
    let change = total-change n k (λ q. bit_of (k == q)) (λ q. 0) within (λ q ne. other q ne) in
    let nothing = total-none n (λ q. 0) (λ q lt. refl) in
    let here : bit_of (k == k) ≡ 1 = let is : (k == k) ≡ true = grind (arith, nat_tests) in ap bit_of is in
    omega (arith, change, nothing, here)
  where
    other : (q : ℕ) → q ≢ k → bit_of (k == q) ≡ 0
    other q ne = let is : (k == q) ≡ false = grind (arith, nat_tests) in ap bit_of is

pub data-below : (blocks block : ℕ) → is_data_block blocks block ≡ true → block < blocks
data-below blocks block is = grind (arith, nat_tests, and_parts)

-- ---- one record

-- one more where there is an indirect block
indirect-total : (n m : ℕ) (has : Bool) → (has ≡ true → m < n) →
    total n (λ q. bit_of (has && (m == q))) ≡ (if has then 1 else 0)
indirect-total n m true within = total-equal n m (within refl)
indirect-total n m false within = total-none n (λ q. 0) (λ q lt. refl)

-- the blocks that the record itself names
pub own-total : (byte : ℕ → ℕ) (place : ℕ) → IsGoodRecord byte place →
    total (block_count byte) (own_times byte place) ≡ blocks_taken (size_of byte place) (has_indirect byte place)
unfolding own_times
own-total byte place good =
    let blocks : ℕ = block_count byte in
    let n : ℕ = blocks_needed byte place in
    let g : ℕ → ℕ → ℕ = λ q i. bit_of (block_number_at byte place i == q) in
    let has : Bool = has_indirect byte place in
    let h : ℕ → ℕ = λ q. bit_of (has && (indirect_of byte place == q)) in
    let sums = total-sum blocks (λ q. total n (λ i. g q i)) h in
    let swapped = total-swap blocks n g in
    let ones =
    total-same n (λ i. total blocks (λ q. g q i)) (λ i. 1)
    (λ i within.
    total-equal blocks (block_number_at byte place i)
    (data-below blocks (block_number_at byte place i) (good.readable.within i within))) in
    let indirect =
    indirect-total blocks (indirect_of byte place) has (λ is. data-below blocks (indirect_of byte place) (good.indirect is)) in
    omega (arith, sums, swapped, ones, total-ones n, indirect)

-- ---- records

blocks_in : Option NamedNode → ℕ
blocks_in None = 0
blocks_in (Some named) = tree_blocks named.node

list_blocks : List (Option NamedNode) → ℕ
list_blocks [] = 0
list_blocks (entry ∷ rest) = blocks_in entry + list_blocks rest

records-list : (list : List (Option NamedNode)) → records_blocks (records_from list) ≡ list_blocks list
unfolding records_blocks records_from list_blocks blocks_in
records-list [] = refl
records-list (None ∷ rest) = let e = records-list rest in omega (arith, e)
records-list (Some named ∷ rest) = ap (λ n. tree_blocks named.node + n) (records-list rest)

list-more : (list : List (Option NamedNode)) (entry : Option NamedNode) →
    list_blocks (list ++ entry ∷ []) ≡ list_blocks list + blocks_in entry
unfolding list_blocks
list-more [] entry = flip (blocks_in entry)
  where
    flip : (n : ℕ) → n + 0 ≡ 0 + n
    flip n = omega arith
list-more (first ∷ rest) entry =
    let e = list-more rest entry in
    ap (λ n. blocks_in first + n) e ∙ sums (blocks_in first) (list_blocks rest) (blocks_in entry)
  where
    sums : (a b c : ℕ) → a + (b + c) ≡ a + b + c
    sums a b c = omega arith

list-values : (n : ℕ) (f : ℕ → Option NamedNode) → list_blocks (values_below n f) ≡ total n (λ i. blocks_in (f i))
unfolding list_blocks values_below total
list-values zero f = refl
list-values (suc n) f =
    list-more (values_below n f) (f n) ∙ ap (λ m. m + blocks_in (f n)) (list-values n f)

-- ---- the tree

-- a file has so many bytes
length-bytes : (byte : ℕ → ℕ) (place : ℕ) → length (file_bytes byte place) ≡ size_of byte place
unfolding file_bytes
length-bytes byte place = length-values (size_of byte place) (file_byte byte place)

file-blocks : (byte : ℕ → ℕ) (place : ℕ) →
    tree_blocks (a_file (file_bytes byte place) (has_indirect byte place)) ≡ blocks_taken (size_of byte place) (has_indirect byte place)
unfolding tree_blocks
file-blocks byte place = ap (λ n. blocks_taken n (has_indirect byte place)) (length-bytes byte place)

-- a directory of whole blocks has as many records
whole-slots : (size : ℕ) → size % 4096 ≡ 0 → 256 * (size / 256) ≡ size
whole-slots size whole = omega arith

no-slots : (size : ℕ) → size % 4096 ≡ 0 → size / 256 ≡ 0 → 0 ≡ size
no-slots size whole none = omega arith

directory-blocks : (byte : ℕ → ℕ) (place : ℕ) (f : ℕ → Option NamedNode) → size_of byte place % 4096 ≡ 0 →
    tree_blocks (a_directory (records_from (values_below (slot_count byte place) f)) (has_indirect byte place))
    ≡ blocks_taken (size_of byte place) (has_indirect byte place) + total (slot_count byte place) (λ i. blocks_in (f i))
unfolding tree_blocks
directory-blocks byte place f whole =
    let list : List (Option NamedNode) = values_below (slot_count byte place) f in
    let long : length (listed (records_from list)) ≡ slot_count byte place =
    ap (λ (l : List (Option NamedNode)). length l) (listed-records_from list) ∙ length-values (slot_count byte place) f in
    let sized : directory_size (listed (records_from list)) ≡ size_of byte place =
    ap (λ n. RECORDSIZE * n) long ∙ whole-slots (size_of byte place) whole in
    ap (λ n. blocks_taken n (has_indirect byte place) + records_blocks (records_from list)) sized
    ∙ ap (λ n. blocks_taken (size_of byte place) (has_indirect byte place) + n)
    (records-list list ∙ list-values (slot_count byte place) f)

empty-blocks : (byte : ℕ → ℕ) (place : ℕ) → size_of byte place % 4096 ≡ 0 → slot_count byte place ≡ 0 →
    tree_blocks (a_directory (records_at zero byte place) (has_indirect byte place))
    ≡ blocks_taken (size_of byte place) (has_indirect byte place)
unfolding tree_blocks records_blocks records_at listed
empty-blocks byte place whole none =
    ap (λ n. blocks_taken n (has_indirect byte place) + 0) (no-slots (size_of byte place) whole none)
    ∙ plain (blocks_taken (size_of byte place) (has_indirect byte place))
  where
    plain : (n : ℕ) → n + 0 ≡ n
    plain n = omega arith

-- what a record that may be empty names
named-blocks : (depth : ℕ) (byte : ℕ → ℕ) (place : ℕ) (empty : Bool) → is_empty_record byte place ≡ empty →
    (is_empty_record byte place ≡ false →
    tree_blocks (node_of (records_at depth byte) byte place) ≡ total (block_count byte) (times_named depth byte place)) →
    blocks_in (named_of (records_at depth byte) byte place)
    ≡ total (block_count byte) (λ q. if is_empty_record byte place then 0 else times_named depth byte place q)
unfolding blocks_in
named-blocks depth byte place true is filled = rw is (sym (total-none (block_count byte) (λ q. 0) (λ q lt. refl)))
named-blocks depth byte place false is filled = rw is (filled is)

-- one more depth
times-total : (depth : ℕ) (byte : ℕ → ℕ) (place n : ℕ) → IsGoodRecord byte place →
    n ≡ (if is_directory_at byte place then slot_count byte place else 0) →
    total (block_count byte) (times_named (suc depth) byte place)
    ≡ blocks_taken (size_of byte place) (has_indirect byte place)
    + total n
    (λ i.
    total (block_count byte)
    (λ q. if is_empty_record byte (slot_place byte place i) then 0 else times_named depth byte (slot_place byte place i) q))
unfolding times_named
times-total depth byte place n good is =
    let blocks : ℕ = block_count byte in
    let g : ℕ → ℕ → ℕ =
    λ q i. if is_empty_record byte (slot_place byte place i) then 0 else times_named depth byte (slot_place byte place i) q in
    let sums = total-sum blocks (own_times byte place) (λ q. total n (λ i. g q i)) in
    ap (λ m. total blocks (λ q. own_times byte place q + total m (λ i. g q i))) (sym is) ∙ sums
    ∙ ap (λ m. m + total blocks (λ q. total n (λ i. g q i))) (own-total byte place good)
    ∙ ap (λ m. blocks_taken (size_of byte place) (has_indirect byte place) + m) (total-swap blocks n g)

no-more : (n : ℕ) (f : ℕ → ℕ) → n ≡ n + total 0 f
unfolding total
no-more n f = omega arith

node-blocks : (depth : ℕ) (byte : ℕ → ℕ) (place : ℕ) (directory : Bool) → is_directory_at byte place ≡ directory →
    IsGoodRecord byte place →
    (is_directory_at byte place ≡ true → (i : ℕ) → i < slot_count byte place →
    blocks_in (named_of (records_at depth byte) byte (slot_place byte place i))
    ≡ total (block_count byte)
    (λ q. if is_empty_record byte (slot_place byte place i) then 0 else times_named depth byte (slot_place byte place i) q)) →
    tree_blocks (node_of (records_at (suc depth) byte) byte place) ≡ total (block_count byte) (times_named (suc depth) byte place)
unfolding records_at
node-blocks depth byte place true is good below =
    let blocks : ℕ = block_count byte in
    let f : ℕ → Option NamedNode = λ i. named_of (records_at depth byte) byte (slot_place byte place i) in
    let n : ℕ = slot_count byte place in
    let g : ℕ → ℕ =
    λ i.
    total blocks
    (λ q. if is_empty_record byte (slot_place byte place i) then 0 else times_named depth byte (slot_place byte place i) q) in
    let all : n ≡ (if is_directory_at byte place then slot_count byte place else 0) = rw is refl in
    let it = directory-blocks byte place f (good.readable.whole is) in
    let same = total-same n (λ i. blocks_in (f i)) g (below is) in
    let node :
    node_of (records_at (suc depth) byte) byte place ≡ a_directory (records_from (values_below n f)) (has_indirect byte place) =
    rw is refl in
    ap tree_blocks node ∙ it ∙ ap (λ m. blocks_taken (size_of byte place) (has_indirect byte place) + m) same
    ∙ sym (times-total depth byte place n good all)
node-blocks depth byte place false is good below =
    let all : 0 ≡ (if is_directory_at byte place then slot_count byte place else 0) = rw is refl in
    let node : node_of (records_at (suc depth) byte) byte place ≡ a_file (file_bytes byte place) (has_indirect byte place) =
    rw is refl in
    ap tree_blocks node ∙ file-blocks byte place ∙ no-more (blocks_taken (size_of byte place) (has_indirect byte place)) _
    ∙ sym (times-total depth byte place 0 good all)

last-blocks : (byte : ℕ → ℕ) (place : ℕ) (directory : Bool) → is_directory_at byte place ≡ directory → IsGoodRecord byte place →
    (is_directory_at byte place ≡ true → slot_count byte place ≡ 0) →
    tree_blocks (node_of (records_at zero byte) byte place) ≡ blocks_taken (size_of byte place) (has_indirect byte place)
last-blocks byte place true is good none =
    let node : node_of (records_at zero byte) byte place ≡ a_directory (records_at zero byte place) (has_indirect byte place) =
    rw is refl in
    ap tree_blocks node ∙ empty-blocks byte place (good.readable.whole is) (none is)
last-blocks byte place false is good none =
    let node : node_of (records_at zero byte) byte place ≡ a_file (file_bytes byte place) (has_indirect byte place) = rw is refl in
    ap tree_blocks node ∙ file-blocks byte place

own-named : (byte : ℕ → ℕ) (place : ℕ) → times_named zero byte place ≡ own_times byte place
unfolding times_named
own-named byte place = λ i. λ block. own_times byte place block

-- the blocks of what a record names, with all that stands below it
pub tree-total : (depth : ℕ) (byte : ℕ → ℕ) (place : ℕ) → AreGood depth byte place →
    tree_blocks (node_of (records_at depth byte) byte place) ≡ total (block_count byte) (times_named depth byte place)
unfolding AreGood
tree-total zero byte place good =
    last-blocks byte place (is_directory_at byte place) refl good.0 good.1
    ∙ sym (ap (λ (t : ℕ → ℕ). total (block_count byte) t) (own-named byte place) ∙ own-total byte place good.0)
tree-total (suc depth) byte place good =
    node-blocks depth byte place (is_directory_at byte place) refl good.0
    (λ is i within.
    let below : ℕ = slot_place byte place i in
    named-blocks depth byte below (is_empty_record byte below) refl
    (λ filled.
    tree-total depth byte below
    (good.1 i (parts-slot (is_directory_at byte place) i (slot_count byte place) (is_empty_record byte below) is within filled)).1))
