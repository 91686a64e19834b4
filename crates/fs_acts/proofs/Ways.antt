-- Ways lead on the disk to the records whose nodes they lead to in the tree.
use Rattle.std.proofs.Common.{◌≡◌, ◌∙◌, ℕ, ◌<◌, ◌≤◌, zero, suc, Bool, true, false, List, [], ◌∷◌}
use Rattle.std.proofs.Common.{Some, None, refl, sym, ap, arith, option_map, option_and_then}
use Rattle.std.specs.Prelude.{nat_lt, slice_index_or, if◌then◌else◌}
use Rattle.std.proofs.lemmas.List.{get_or_past}
use Rattle.std.proofs.lemmas.Bool.Decides.{nat_tests}
use Rattle.fs_layout.specs.FileTree.{Node, a_directory, Records, NamedNode, listed, records_from, no_more}
use Rattle.fs_layout.specs.FileTree.{record_at, named_from, root_record}
use Rattle.jos_base.specs.Below.{values_below}
use Rattle.fs_layout.specs.DiskImage.{block_count, root_place, name_of, is_directory_at, has_indirect, is_empty_record}
use Rattle.fs_layout.specs.DiskImage.{slot_count, slot_place}
use Rattle.fs_layout.specs.DiskFiles.{node_of, named_of, records_at, file_system_of}
use Rattle.fs_layout.specs.DiskLaws.{AreReadable}
use Rattle.jos_base.proofs.Below.{values-same, length-values, get_or-values}
use Rattle.fs_layout.proofs.FileTrees.{listed-records_from}
use Rattle.fs_layout.proofs.DiskSound.{disks-sound}
use Rattle.fs_acts.specs.BlockActs.{is_named_slot, place_from}
use Rattle.fs_acts.specs.BlockLaws.{AreGood, WaysLeadToRecords}
use Rattle.fs_acts.proofs.Named.{IsNamed, is-named, named-is}
use Rattle.fs_acts.proofs.Records.{directory-node, file-node}

-- ---- readable records

-- good records can be read
pub good-readable : (depth : ℕ) (byte : ℕ → ℕ) (place : ℕ) → AreGood depth byte place → AreReadable depth byte place
unfolding AreGood AreReadable
good-readable zero byte place good = (good.0.readable, good.1)
good-readable (suc depth) byte place good = (
  good.0.readable,
  λ is i within filled.
      good-readable depth byte (slot_place byte place i)
      (good.1 i (named-is byte place i (record { is = is; within = within; filled = filled }))).1,
)

-- a directory of the last depth has no records
pub none-readable : (byte : ℕ → ℕ) (place i : ℕ) → AreReadable zero byte place → IsNamed byte place i → ⊥
unfolding AreReadable
none-readable byte place i readable named =
    let none = readable.1 named.is in let within = named.within in omega (arith, none, within)

-- those of others can be read
pub slot-readable : (depth : ℕ) (byte : ℕ → ℕ) (place i : ℕ) → AreReadable (suc depth) byte place → IsNamed byte place i →
    AreReadable depth byte (slot_place byte place i)
unfolding AreReadable
slot-readable depth byte place i readable named = readable.1 named.is i named.within named.filled

-- ---- a greater bound on the depth

-- gives the same records
no-values : {A : Type 0} (n : ℕ) (f : ℕ → A) → n ≡ 0 → values_below n f ≡ []
unfolding values_below
no-values zero f none = refl
no-values (suc n) f none = absurd (omega arith)

no-records : records_from [] ≡ no_more
unfolding records_from
no-records = refl

node-deeper : (byte : ℕ → ℕ) (place : ℕ) (ones others : ℕ → Records) →
    (is_directory_at byte place ≡ true → ones place ≡ others place) → node_of ones byte place ≡ node_of others byte place
node-deeper byte place ones others same = by_kind (is_directory_at byte place) refl
  where
    by_kind : (kind : Bool) → is_directory_at byte place ≡ kind → node_of ones byte place ≡ node_of others byte place
    by_kind true is = rw is (ap (λ r. a_directory r (has_indirect byte place)) (same is))
    by_kind false is = rw is refl

named-deeper : (byte : ℕ → ℕ) (place : ℕ) (ones others : ℕ → Records) →
    (is_empty_record byte place ≡ false → is_directory_at byte place ≡ true → ones place ≡ others place) →
    named_of ones byte place ≡ named_of others byte place
named-deeper byte place ones others same = by_test (is_empty_record byte place) refl
  where
    by_test : (empty : Bool) → is_empty_record byte place ≡ empty → named_of ones byte place ≡ named_of others byte place
    by_test true is = rw is refl
    by_test false is =
        rw is (ap (λ n. Some (record { name = name_of byte place; node = n })) (node-deeper byte place ones others (same is)))

records-deeper : (byte : ℕ → ℕ) (depth more place : ℕ) → depth ≤ more → AreReadable depth byte place →
    is_directory_at byte place ≡ true → records_at more byte place ≡ records_at depth byte place
unfolding records_at AreReadable
records-deeper byte zero zero place le readable is = refl
records-deeper byte zero (suc more) place le readable is =
    ap records_from
    (no-values (slot_count byte place) (λ i. named_of (records_at more byte) byte (slot_place byte place i)) (readable.1 is))
    ∙ no-records
records-deeper byte (suc depth) zero place le readable is = absurd (omega arith)
records-deeper byte (suc depth) (suc more) place le readable is =
    ap records_from
    (values-same (slot_count byte place) (λ i. named_of (records_at more byte) byte (slot_place byte place i))
    (λ i. named_of (records_at depth byte) byte (slot_place byte place i))
    (λ i within.
    let below : ℕ = slot_place byte place i in
    named-deeper byte below (records_at more byte) (records_at depth byte)
    (λ filled is_one. records-deeper byte depth more below (omega arith) (readable.1 is i within filled) is_one)))

pub nodes-deeper : (byte : ℕ → ℕ) (depth more place : ℕ) → depth ≤ more → AreReadable depth byte place →
    node_of (records_at more byte) byte place ≡ node_of (records_at depth byte) byte place
nodes-deeper byte depth more place le readable =
    node-deeper byte place (records_at more byte) (records_at depth byte) (records-deeper byte depth more place le readable)

-- ---- one record of a directory

-- the node with the name of its record
abbrev pub named_node : ℕ → (ℕ → ℕ) → ℕ → NamedNode
named_node depth byte place = record { name = name_of byte place; node = node_of (records_at depth byte) byte place }

pub tree-list : (depth : ℕ) (byte : ℕ → ℕ) (directory : ℕ) →
    listed (records_at (suc depth) byte directory)
    ≡ values_below (slot_count byte directory) (λ i. named_of (records_at depth byte) byte (slot_place byte directory i))
unfolding records_at
tree-list depth byte directory =
    listed-records_from
    (values_below (slot_count byte directory) (λ i. named_of (records_at depth byte) byte (slot_place byte directory i)))

pub filled-named : (depth : ℕ) (byte : ℕ → ℕ) (place : ℕ) → is_empty_record byte place ≡ false →
    named_of (records_at depth byte) byte place ≡ Some (named_node depth byte place)
filled-named depth byte place filled = rw filled refl

empty-named : (depth : ℕ) (byte : ℕ → ℕ) (place : ℕ) → is_empty_record byte place ≡ true →
    named_of (records_at depth byte) byte place ≡ None
empty-named depth byte place empty = rw empty refl

-- which stands in the tree
pub record-slot : (depth : ℕ) (byte : ℕ → ℕ) (here i : ℕ) → IsNamed byte here i →
    record_at (node_of (records_at (suc depth) byte) byte here) i ≡ Some (named_node depth byte (slot_place byte here i))
record-slot depth byte here i named =
    ap (λ n. record_at n i) (directory-node (records_at (suc depth) byte) byte here named.is)
    ∙ ap (λ l. slice_index_or l i None) (tree-list depth byte here)
    ∙ get_or-values (slot_count byte here) (λ k. named_of (records_at depth byte) byte (slot_place byte here k)) i None named.within
    ∙ filled-named depth byte (slot_place byte here i) named.filled

-- or none stands there
within-if : (i n : ℕ) → (nat_lt i n ≡ true) → i < n
within-if i n e = grind (arith, nat_tests)

past-if : (i n : ℕ) → (nat_lt i n ≡ false) → n ≤ i
past-if i n e = grind (arith, nat_tests)

empty-slot : (depth : ℕ) (byte : ℕ → ℕ) (here i : ℕ) → is_directory_at byte here ≡ true → is_named_slot byte here i ≡ false →
    slice_index_or (listed (records_at depth byte here)) i None ≡ None
unfolding listed records_at
empty-slot zero byte here i is unnamed = refl
empty-slot (suc depth) byte here i is unnamed =
    ap (λ l. slice_index_or l i None) (tree-list depth byte here)
    ∙ by_bound (nat_lt i (slot_count byte here)) refl
  where
    by_test : (empty : Bool) → is_empty_record byte (slot_place byte here i) ≡ empty → i < slot_count byte here →
        named_of (records_at depth byte) byte (slot_place byte here i) ≡ None
    by_test true empty within = empty-named depth byte (slot_place byte here i) empty
    by_test false filled within =
        let named = named-is byte here i (record { is = is; within = within; filled = filled }) in
        let both : true ≡ false = sym named ∙ unnamed in absurd (cc)

    by_bound : (inside : Bool) → nat_lt i (slot_count byte here) ≡ inside → slice_index_or (values_below (slot_count byte here) (λ k. named_of (records_at depth byte) byte (slot_place byte here k))) i None ≡ None
    by_bound true inside =
        get_or-values (slot_count byte here) (λ k. named_of (records_at depth byte) byte (slot_place byte here k)) i None (within-if i (slot_count byte here) inside)
        ∙ by_test (is_empty_record byte (slot_place byte here i)) refl (within-if i (slot_count byte here) inside)
    by_bound false past =
        let long = length-values (slot_count byte here) (λ k. named_of (records_at depth byte) byte (slot_place byte here k)) in
        let behind = past-if i (slot_count byte here) past in
        get_or_past (values_below (slot_count byte here) (λ k. named_of (records_at depth byte) byte (slot_place byte here k))) i None (omega (arith, long, behind))

pub record-none : (depth : ℕ) (byte : ℕ → ℕ) (here i : ℕ) → is_named_slot byte here i ≡ false →
    record_at (node_of (records_at depth byte) byte here) i ≡ None
record-none depth byte here i unnamed = by_kind (is_directory_at byte here) refl
  where
    by_kind : (kind : Bool) → is_directory_at byte here ≡ kind → record_at (node_of (records_at depth byte) byte here) i ≡ None
    by_kind true is =
        ap (λ n. record_at n i) (directory-node (records_at depth byte) byte here is) ∙ empty-slot depth byte here i is unnamed
    by_kind false is = ap (λ n. record_at n i) (file-node (records_at depth byte) byte here is)

-- ---- along a way

-- the node, by its record's place
abbrev pub disk_node : (ℕ → ℕ) → ℕ → Node
disk_node byte place = node_of (records_at (block_count byte) byte) byte place

abbrev just_node : NamedNode → Node
just_node named = named.node

-- A way from the record at a place leads to this node.
abbrev Leads : (ℕ → ℕ) → List ℕ → Type 0
Leads byte way = (depth here : ℕ) (name : List ℕ) → depth ≤ block_count byte → AreReadable depth byte here →
    option_map just_node (named_from way (record { name = name; node = node_of (records_at depth byte) byte here }))
    ≡ option_map (disk_node byte) (place_from byte way here)

slot-leads : (byte : ℕ → ℕ) (i : ℕ) (way : List ℕ) (named : Bool) (depth here : ℕ) → is_named_slot byte here i ≡ named →
    depth ≤ block_count byte → AreReadable depth byte here → Leads byte way →
    option_map just_node (option_and_then (named_from way) (record_at (node_of (records_at depth byte) byte here) i))
    ≡ option_map (disk_node byte) (if is_named_slot byte here i then place_from byte way (slot_place byte here i) else None)
slot-leads byte i way true zero here e le readable onward = absurd (none-readable byte here i readable (is-named byte here i e))
slot-leads byte i way true (suc depth) here e le readable onward =
    let named = is-named byte here i e in
    rw e
    (ap (λ r. option_map just_node (option_and_then (named_from way) r)) (record-slot depth byte here i named)
    ∙ onward depth (slot_place byte here i) (name_of byte (slot_place byte here i)) (omega arith)
    (slot-readable depth byte here i readable named))
slot-leads byte i way false depth here e le readable onward =
    rw e (ap (λ r. option_map just_node (option_and_then (named_from way) r)) (record-none depth byte here i e))

ways-from : (byte : ℕ → ℕ) (way : List ℕ) → Leads byte way
unfolding named_from place_from
ways-from byte [] depth here name le readable = ap (λ n. Some n) (sym (nodes-deeper byte depth (block_count byte) here le readable))
ways-from byte (i ∷ way) depth here name le readable =
    slot-leads byte i way (is_named_slot byte here i) depth here refl le readable (ways-from byte way)

-- the law
pub ways-lead : WaysLeadToRecords
unfolding file_system_of
ways-lead size byte image way =
    ways-from byte way (block_count byte) root_place (root_record (file_system_of byte)).name (omega arith)
    (disks-sound size byte image).records
