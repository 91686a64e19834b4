-- A directory on two disks that differ only in one slot's record, in the blocks that it and those below it name, and in blocks
-- that nothing names: all else of it is the same.
use Rattle.std.proofs.Common.{◌≡◌, ◌≢◌, ◌∙◌, ◌⊎◌, inl, inr, ℕ, ◌+◌, ◌*◌, ◌/◌, ◌%◌, ◌<◌, ◌≤◌, zero, suc, Bool, true, false, Option, Some, None}
use Rattle.std.proofs.Common.{refl, sym, ap, subst, arith}
use Rattle.std.specs.Prelude.{◌==◌, not, if◌then◌else◌, slice_set, slice_index_or}
use Rattle.std.proofs.lemmas.Bool.{cases_eq}
use Rattle.std.proofs.lemmas.List.{length-set, get_or-set_same, get_or-set_other}
use Rattle.jos_base.specs.Counting.{total}
use Rattle.jos_base.proofs.Sums.{total-same}
use Rattle.fs_layout.specs.declared.numbers.TheConstants.{BLKSIZE, RECORDSIZE, BLKFILES}
use Rattle.fs_layout.specs.FileTree.{Node, a_directory, NamedNode, records_from, with_record}
use Rattle.jos_base.specs.Below.{values_below}
use Rattle.fs_layout.specs.DiskImage.{block_count, name_of, size_of, is_directory_at, is_empty_record, has_indirect}
use Rattle.fs_layout.specs.DiskImage.{block_number_at, indirect_of, slot_count, slot_place}
use Rattle.fs_layout.specs.DiskFiles.{node_of, named_of, records_at}
use Rattle.fs_layout.specs.LayoutLaws.{Same}
use Rattle.jos_base.proofs.Below.{is-values, length-values, get_or-values}
use Rattle.fs_acts.specs.BlockLaws.{AreGood, own_times, times_named}
use Rattle.fs_acts.proofs.Fields.{SameLabel, same-label, same-fields, same-directory}
use Rattle.fs_acts.proofs.Named.{IsNamed, own-one, own-two, own-indirect, own-both, slots, times_below, times-slot, times-slots}
use Rattle.fs_acts.proofs.Named.{below-named, below-slot}
use Rattle.fs_acts.proofs.Records.{own-good, slot-good, directory-node, SameDirectory, directory-good, times_now, directory-times}
use Rattle.fs_acts.proofs.Records.{named_now, directory-records, Alike, records-alike}
use Rattle.fs_acts.proofs.Ways.{tree-list}

-- ---- numbers

pub block-of : (n q : ℕ) → 4096 * n ≤ q → q < 4096 * n + 4096 → q / 4096 ≡ n
block-of n q low high = omega arith

-- a byte of a record that stands in a block
pub slot-block : (n i q : ℕ) → 4096 * n + 256 * (i % 16) ≤ q → q < 4096 * n + 256 * (i % 16) + 256 → q / 4096 ≡ n
slot-block n i q low high = omega arith

pub slot-number : (size i : ℕ) → i < size / 256 → i / 16 < (size + 4095) / 4096
slot-number size i within = omega arith

pub same-place : (n i j q : ℕ) → 4096 * n + 256 * (i % 16) ≤ q → q < 4096 * n + 256 * (i % 16) + 256 → 4096 * n + 256 * (j % 16) ≤ q →
    q < 4096 * n + 256 * (j % 16) + 256 → i / 16 ≡ j / 16 → i ≡ j
same-place n i j q a b c d e =
    let rest : i % 16 ≡ j % 16 = omega (arith, a, b, c, d) in omega (arith, rest, e)

-- ---- what may differ

-- a byte of the record at a place, of a block that it or one below it names, or of a loose block
abbrev pub In : ℕ → (ℕ → ℕ) → ℕ → (ℕ → Type 0) → ℕ → Type 0
In depth byte next Loose q =
    ((next ≤ q) × (q < next + RECORDSIZE)) ⊎ ((0 < times_named depth byte next (q / BLKSIZE)) ⊎ Loose (q / BLKSIZE))

-- The record of a directory stands apart from the blocks that it and those below it name.
abbrev pub Apart : ℕ → (ℕ → ℕ) → ℕ → (ℕ → Type 0) → Type 0
Apart depth byte here Loose =
    (q : ℕ) → here ≤ q → q < here + RECORDSIZE → (times_named depth byte here (q / BLKSIZE) ≡ 0) × (Loose (q / BLKSIZE) → ⊥)

pub record OneSlot (depth : ℕ) (byte other : ℕ → ℕ) (here i : ℕ) (Loose : ℕ → Type 0) : Type 0 where
  pub good : AreGood (suc depth) byte here
  pub count : block_count byte ≡ block_count other
  pub once : (block : ℕ) → times_named (suc depth) byte here block ≤ 1
  pub loose : (block : ℕ) → Loose block → times_named (suc depth) byte here block ≡ 0
  pub apart : Apart (suc depth) byte here Loose
  pub named : IsNamed byte here i
  pub reach : (q : ℕ) → (byte q ≡ other q) ⊎ In depth byte (slot_place byte here i) Loose q

-- where none may differ, all are the same
same-where : {depth : ℕ} {byte other : ℕ → ℕ} {here i : ℕ} {Loose : ℕ → Type 0} (one : OneSlot depth byte other here i Loose) (n from : ℕ) →
    ((q : ℕ) → from ≤ q → q < from + n → In depth byte (slot_place byte here i) Loose q → ⊥) → Same n byte from other from
same-where one n from none = λ k within.
    elim (one.reach (from + k)) [ inl e ↦ e | inr differs ↦ absurd (none (from + k) (omega arith) (omega arith) differs) ]

-- the block of a slot is the directory's own
pub own-slot : (byte : ℕ → ℕ) (here i q : ℕ) → i < slot_count byte here → slot_place byte here i ≤ q →
    q < slot_place byte here i + RECORDSIZE → 1 ≤ own_times byte here (q / BLKSIZE)
own-slot byte here i q within low high =
    own-one byte here (i / BLKFILES) (q / BLKSIZE) (slot-number (size_of byte here) i within)
    (sym (slot-block (block_number_at byte here (i / BLKFILES)) i q low high))

-- what the slot below is known by in turn
pub slot-apart : {depth : ℕ} {byte other : ℕ → ℕ} {here i : ℕ} {Loose : ℕ → Type 0} → OneSlot depth byte other here i Loose →
    Apart depth byte (slot_place byte here i) Loose
slot-apart {depth} {byte} {other} {here} {i} {Loose} one = λ q low high.
    let own = own-slot byte here i q one.named.within low high in
    let all = times-slot depth byte here (q / BLKSIZE) i one.named in
    let once = one.once (q / BLKSIZE) in
    (omega (arith, own, all, once), λ is. let none = one.loose (q / BLKSIZE) is in omega (arith, own, all, none))

pub slot-once : {depth : ℕ} {byte other : ℕ → ℕ} {here i : ℕ} {Loose : ℕ → Type 0} → OneSlot depth byte other here i Loose →
    (block : ℕ) → times_named depth byte (slot_place byte here i) block ≤ 1
slot-once {depth} {byte} {other} {here} {i} one block =
    let all = times-slot depth byte here block i one.named in let once = one.once block in omega (arith, all, once)

pub slot-loose : {depth : ℕ} {byte other : ℕ → ℕ} {here i : ℕ} {Loose : ℕ → Type 0} → OneSlot depth byte other here i Loose →
    (block : ℕ) → Loose block → times_named depth byte (slot_place byte here i) block ≡ 0
slot-loose {depth} {byte} {other} {here} {i} one block is =
    let all = times-slot depth byte here block i one.named in let none = one.loose block is in omega (arith, all, none)

-- ---- what is the same

-- the directory's own record
own-record : {depth : ℕ} {byte other : ℕ → ℕ} {here i : ℕ} {Loose : ℕ → Type 0} → OneSlot depth byte other here i Loose →
    Same RECORDSIZE byte here other here
own-record {depth} {byte} {other} {here} {i} {Loose} one =
    same-where one RECORDSIZE here
    (λ q low high differs.
    let apart = one.apart q low high in
    let none = apart.0 in
    let all = times-slot depth byte here (q / BLKSIZE) i one.named in
    elim differs [
      | inl inside ↦ let own = own-slot byte here i q one.named.within inside.0 inside.1 in omega (arith, own, all, none)
      | inr rest ↦ elim rest [ inl some ↦ omega (arith, some, all, none) | inr is ↦ apart.1 is ]
    ])

-- its indirect block
own-behind : {depth : ℕ} {byte other : ℕ → ℕ} {here i : ℕ} {Loose : ℕ → Type 0} → OneSlot depth byte other here i Loose →
    has_indirect byte here ≡ true → Same BLKSIZE byte (BLKSIZE * indirect_of byte here) other (BLKSIZE * indirect_of byte here)
own-behind {depth} {byte} {other} {here} {i} {Loose} one has =
    same-where one BLKSIZE (BLKSIZE * indirect_of byte here)
    (λ q low high differs.
    let block : ℕ = indirect_of byte here in
    let at : q / BLKSIZE ≡ block = block-of block q low high in
    let once = one.once block in
    let all = times-slot depth byte here block i one.named in
    let own = own-indirect byte here has in
    elim differs [
      | inl inside ↦
          let number : block_number_at byte here (i / BLKFILES) ≡ block =
          sym (slot-block (block_number_at byte here (i / BLKFILES)) i q inside.0 inside.1) ∙ at in
          let both = own-both byte here (i / BLKFILES) has (slot-number (size_of byte here) i one.named.within) number in
          omega (arith, both, all, once)
      | inr rest ↦
          elim rest [
            | inl some ↦
                let here_too = subst (λ b. 0 < times_named depth byte (slot_place byte here i) b) at some in
                omega (arith, here_too, own, all, once)
            | inr is ↦ let none = one.loose block (subst Loose at is) in omega (arith, none, own, all)
          ]
    ])

-- the record of another slot
other-record : {depth : ℕ} {byte other : ℕ → ℕ} {here i : ℕ} {Loose : ℕ → Type 0} → OneSlot depth byte other here i Loose →
    (j : ℕ) → j < slot_count byte here → j ≢ i → Same RECORDSIZE byte (slot_place byte here j) other (slot_place byte here j)
other-record {depth} {byte} {other} {here} {i} {Loose} one j within ne =
    same-where one RECORDSIZE (slot_place byte here j)
    (λ q low high differs.
    let block : ℕ = q / BLKSIZE in
    let once = one.once block in
    let all = times-slot depth byte here block i one.named in
    let own = own-slot byte here j q within low high in
    elim differs [
      | inl inside ↦ apart q low high inside.0 inside.1 all once
      | inr rest ↦
          elim rest [
            | inl some ↦ omega (arith, some, own, all, once)
            | inr is ↦ let none = one.loose block is in omega (arith, none, own, all)
          ]
    ])
  where
    apart : (q : ℕ) → slot_place byte here j ≤ q → q < slot_place byte here j + RECORDSIZE → slot_place byte here i ≤ q →
        q < slot_place byte here i + RECORDSIZE →
        own_times byte here (q / BLKSIZE) + times_named depth byte (slot_place byte here i) (q / BLKSIZE)
        ≤ times_named (suc depth) byte here (q / BLKSIZE) → times_named (suc depth) byte here (q / BLKSIZE) ≤ 1 → ⊥
    apart q low high low_i high_i all once =
        let number : ℕ → ℕ = λ k. block_number_at byte here (k / BLKFILES) in
        let at_j = slot-block (number j) j q low high in
        let at_i = slot-block (number i) i q low_i high_i in
        elim (cases_eq (i / BLKFILES) (j / BLKFILES)) [
          | inl e ↦
              let same : number j ≡ number i = ap (block_number_at byte here) (sym e) in
              let low_j = subst (λ n. 4096 * n + 256 * (j % 16) ≤ q) same low in
              let high_j = subst (λ n. q < 4096 * n + 256 * (j % 16) + 256) same high in
              ne (sym (same-place (number i) i j q low_i high_i low_j high_j e))
          | inr apart_too ↦
              let two =
              own-two byte here (i / BLKFILES) (j / BLKFILES) (q / BLKSIZE) (slot-number (size_of byte here) i one.named.within)
              (slot-number (size_of byte here) j within) apart_too (sym at_i) (sym at_j) in
              omega (arith, two, all, once)
        ]

-- the blocks of another slot
other-blocks : {depth : ℕ} {byte other : ℕ → ℕ} {here i : ℕ} {Loose : ℕ → Type 0} → OneSlot depth byte other here i Loose →
    (j : ℕ) → IsNamed byte here j → j ≢ i → (block : ℕ) → 0 < times_named depth byte (slot_place byte here j) block →
    Same BLKSIZE byte (BLKSIZE * block) other (BLKSIZE * block)
other-blocks {depth} {byte} {other} {here} {i} {Loose} one j named ne block mine =
    same-where one BLKSIZE (BLKSIZE * block)
    (λ q low high differs.
    let at : q / BLKSIZE ≡ block = block-of block q low high in
    let once = one.once block in
    let all = times-slots depth byte here block j i named one.named ne in
    elim differs [
      | inl inside ↦
          let own =
          subst (λ b. 1 ≤ own_times byte here b) at (own-slot byte here i q one.named.within inside.0 inside.1) in
          omega (arith, own, all, once, mine)
      | inr rest ↦
          elim rest [
            | inl some ↦
                let too = subst (λ b. 0 < times_named depth byte (slot_place byte here i) b) at some in
                omega (arith, too, mine, all, once)
            | inr is ↦ let none = one.loose block (subst Loose at is) in omega (arith, none, mine, all)
          ]
    ])

-- another slot, with all that stands below it
pub other-alike : {depth : ℕ} {byte other : ℕ → ℕ} {here i : ℕ} {Loose : ℕ → Type 0} → OneSlot depth byte other here i Loose →
    (j : ℕ) → IsNamed byte here j → j ≢ i → Alike depth byte other (slot_place byte here j)
other-alike {depth} {byte} {other} {here} one j named ne =
    records-alike depth byte other (slot_place byte here j) one.count (slot-good depth byte here j one.good named).1
    (other-record one j named.within ne) (other-blocks one j named ne)

-- the directory, where the slot's label is the same
pub slot-same_directory : {depth : ℕ} {byte other : ℕ → ℕ} {here i : ℕ} {Loose : ℕ → Type 0} → OneSlot depth byte other here i Loose →
    SameLabel byte other (slot_place byte here i) → SameDirectory byte other here
slot-same_directory {depth} {byte} {other} {here} {i} one label = record {
  count = one.count;
  good = own-good (suc depth) byte here one.good;
  fields = same-fields byte other here (own-record one) (own-behind one);
  labels = λ j is within. elim (cases_eq j i) [
    | inl e ↦ subst (λ k. SameLabel byte other (slot_place byte here k)) (sym e) label
    | inr ne ↦ same-label byte other (slot_place byte here j) (other-record one j within ne)
  ];
}

pub slot-label : {depth : ℕ} {byte other : ℕ → ℕ} {here i : ℕ} {Loose : ℕ → Type 0} → OneSlot depth byte other here i Loose →
    SameLabel byte other here
slot-label {depth} {byte} {other} {here} one = same-label byte other here (own-record one)

-- ---- what has become of it

-- what a sum is after one of its numbers changed
pub total-changed : (n k : ℕ) (g h : ℕ → ℕ) → k < n → ((q : ℕ) → q < n → q ≢ k → g q ≡ h q) → total n g + h k ≡ total n h + g k
unfolding total
total-changed zero k g h lt same = absurd (omega arith)
total-changed (suc n) k g h lt same = elim (cases_eq k n) [
  | inl e ↦
      let rest = total-same n g h (λ q below. same q (omega arith) (omega arith)) in
      let at_g = ap g e in
      let at_h = ap h e in
      omega (arith, rest, at_g, at_h)
  | inr ne ↦
      let rest = total-changed n k g h (omega arith) (λ q below other. same q (omega arith) other) in
      let last = same n (omega arith) (λ e. ne (sym e)) in
      omega (arith, rest, last)
]

-- what the record at a place is on the other disk: blocks that it gained and lost, and its node
pub record NowIs (depth : ℕ) (byte other : ℕ → ℕ) (place : ℕ) (gain loss : ℕ → ℕ) (new : Node) : Type 0 where
  pub good : AreGood depth other place
  pub times : (block : ℕ) → times_named depth other place block + loss block ≡ times_named depth byte place block + gain block
  pub node : node_of (records_at depth other) other place ≡ new

times-now : (depth : ℕ) (byte other : ℕ → ℕ) (here block i : ℕ) → IsNamed byte here i →
    times_now depth byte other here block i ≡ times_named depth other (slot_place byte here i) block
times-now depth byte other here block i named = rw named.filled refl

slots-within : (byte : ℕ → ℕ) (here i : ℕ) → IsNamed byte here i → i < slots byte here
slots-within byte here i named =
    subst (λ (b : Bool). i < (if b then slot_count byte here else 0)) (sym named.is) named.within

other-times : {depth : ℕ} {byte other : ℕ → ℕ} {here i : ℕ} {Loose : ℕ → Type 0} → OneSlot depth byte other here i Loose →
    (block j : ℕ) → j < slots byte here → j ≢ i → times_now depth byte other here block j ≡ times_below depth byte here block j
other-times {depth} {byte} {other} {here} {i} one block j within ne = by_test (is_empty_record byte (slot_place byte here j)) refl
  where
    kind : (is_directory_at byte here ≡ true) × (j < slot_count byte here)
    kind = below-slot byte here j within

    by_test : (empty : Bool) → is_empty_record byte (slot_place byte here j) ≡ empty →
        times_now depth byte other here block j ≡ times_below depth byte here block j
    by_test true is = rw is refl
    by_test false is =
        let alike = other-alike one j (record { is = kind.0; within = kind.1; filled = is }) ne in rw is (sym (alike.times block))

own-and : (depth : ℕ) (byte : ℕ → ℕ) (here block : ℕ) →
    times_named (suc depth) byte here block ≡ own_times byte here block + total (slots byte here) (times_below depth byte here block)
unfolding times_named
own-and depth byte here block = refl

pub slot-times : {depth : ℕ} {byte other : ℕ → ℕ} {here i : ℕ} {Loose : ℕ → Type 0} {gain loss : ℕ → ℕ} {new : Node} →
    OneSlot depth byte other here i Loose → SameLabel byte other (slot_place byte here i) →
    NowIs depth byte other (slot_place byte here i) gain loss new → (block : ℕ) →
    times_named (suc depth) other here block + loss block ≡ times_named (suc depth) byte here block + gain block
slot-times {depth} {byte} {other} {here} {i} {Loose} {gain} {loss} one label becomes block =
    let now : ℕ → ℕ = times_now depth byte other here block in
    let before : ℕ → ℕ = times_below depth byte here block in
    let n : ℕ = slots byte here in
    let all = directory-times depth byte other here block (slot-same_directory one label) in
    let was = own-and depth byte here block in
    let change = total-changed n i now before (slots-within byte here i one.named) (λ q within ne. other-times one block q within ne) in
    let at_now = times-now depth byte other here block i one.named in
    let at_before = below-named depth byte here block i one.named in
    let slot = becomes.times block in
    omega (arith, all, was, change, at_now, at_before, slot)

-- ---- its node

other-named : {depth : ℕ} {byte other : ℕ → ℕ} {here i : ℕ} {Loose : ℕ → Type 0} → OneSlot depth byte other here i Loose →
    (j : ℕ) → j < slot_count byte here → j ≢ i →
    named_of (records_at depth byte) byte (slot_place byte here j) ≡ named_now depth byte other (slot_place byte here j)
other-named {depth} {byte} {other} {here} one j within ne = by_test (is_empty_record byte (slot_place byte here j)) refl
  where
    by_test : (empty : Bool) → is_empty_record byte (slot_place byte here j) ≡ empty →
        named_of (records_at depth byte) byte (slot_place byte here j) ≡ named_now depth byte other (slot_place byte here j)
    by_test true is = rw is refl
    by_test false is =
        let alike = other-alike one j (record { is = one.named.is; within = within; filled = is }) ne in
        rw is (ap (λ n. Some (record { name = name_of byte (slot_place byte here j); node = n })) alike.node)

this-named : (depth : ℕ) (byte other : ℕ → ℕ) (place : ℕ) (new : Node) → is_empty_record byte place ≡ false →
    node_of (records_at depth other) other place ≡ new →
    named_now depth byte other place ≡ Some (record { name = name_of byte place; node = new })
this-named depth byte other place new filled e = rw filled (ap (λ n. Some (record { name = name_of byte place; node = n })) e)

-- the list of a directory's records, where one was put in
pub set-values : (n i : ℕ) (f g : ℕ → Option NamedNode) (entry : Option NamedNode) → i < n → g i ≡ entry →
    ((j : ℕ) → j < n → j ≢ i → f j ≡ g j) → slice_set (values_below n f) i entry ≡ values_below n g
set-values n i f g entry within here others =
    is-values (slice_set (values_below n f) i entry) n g None (length-set (values_below n f) i entry ∙ length-values n f)
    (λ j below. elim (cases_eq j i) [
      | inl e ↦
          let long = length-values n f in
          ap (λ k. slice_index_or (slice_set (values_below n f) i entry) k None) e
          ∙ get_or-set_same (values_below n f) i entry None (omega (arith, long, within)) ∙ sym here ∙ ap g (sym e)
      | inr ne ↦
          get_or-set_other (values_below n f) i j entry None ne ∙ get_or-values n f j None below ∙ others j below ne
    ])

pub slot-node : {depth : ℕ} {byte other : ℕ → ℕ} {here i : ℕ} {Loose : ℕ → Type 0} {gain loss : ℕ → ℕ} {new : Node} →
    OneSlot depth byte other here i Loose → SameLabel byte other (slot_place byte here i) →
    NowIs depth byte other (slot_place byte here i) gain loss new →
    node_of (records_at (suc depth) other) other here
    ≡ with_record (node_of (records_at (suc depth) byte) byte here) i
    (Some (record { name = name_of byte (slot_place byte here i); node = new }))
slot-node {depth} {byte} {other} {here} {i} {Loose} {gain} {loss} {new} one label becomes =
    let n : ℕ = slot_count byte here in
    let has : Bool = has_indirect byte here in
    let f : ℕ → Option NamedNode = λ j. named_of (records_at depth byte) byte (slot_place byte here j) in
    let g : ℕ → Option NamedNode = λ j. named_now depth byte other (slot_place byte here j) in
    let entry : Option NamedNode = Some (record { name = name_of byte (slot_place byte here i); node = new }) in
    let same = slot-same_directory one label in
    let is_other : is_directory_at other here ≡ true = sym (same-directory byte other here same.fields.kind) ∙ one.named.is in
    let list : slice_set (values_below n f) i entry ≡ values_below n g =
    set-values n i f g entry one.named.within (this-named depth byte other (slot_place byte here i) new one.named.filled becomes.node)
    (λ j within ne. other-named one j within ne) in
    directory-node (records_at (suc depth) other) other here is_other
    ∙ sym (λ k. a_directory (directory-records depth byte other here same one.named.is k) (not (same.fields.indirect k == 0)))
    ∙ ap (λ l. a_directory (records_from l) has) (sym list)
    ∙ ap (λ l. a_directory (records_from (slice_set l i entry)) has) (sym (tree-list depth byte here))
    ∙ ap (λ (m : Node). with_record m i entry) (sym (directory-node (records_at (suc depth) byte) byte here one.named.is))

-- the directory on the other disk
pub slot-becomes : {depth : ℕ} {byte other : ℕ → ℕ} {here i : ℕ} {Loose : ℕ → Type 0} {gain loss : ℕ → ℕ} {new : Node} →
    OneSlot depth byte other here i Loose → SameLabel byte other (slot_place byte here i) →
    NowIs depth byte other (slot_place byte here i) gain loss new →
    NowIs (suc depth) byte other here gain loss
    (with_record (node_of (records_at (suc depth) byte) byte here) i
    (Some (record { name = name_of byte (slot_place byte here i); node = new })))
slot-becomes {depth} {byte} {other} {here} {i} one label becomes = record {
  good = directory-good depth byte other here one.good (slot-same_directory one label)
      (λ j named. elim (cases_eq j i) [
        | inl e ↦ subst (λ k. AreGood depth other (slot_place byte here k)) (sym e) becomes.good
        | inr ne ↦ (other-alike one j named ne).good
      ]);
  times = slot-times one label becomes;
  node = slot-node one label becomes;
}
