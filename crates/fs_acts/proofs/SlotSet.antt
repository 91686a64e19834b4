-- A directory in which one slot gets another record, that of a file without blocks or an empty one, in the place of one
-- that named no block either.
use Rattle.std.proofs.Common.{◌≡◌, ◌≢◌, ◌∙◌, ◌⊎◌, inl, inr, ℕ, ◌+◌, ◌*◌, ◌/◌, ◌%◌, ◌<◌, ◌≤◌, ◌==◌, suc, Bool, true, false, not}
use Rattle.std.proofs.Common.{List, ◌∷◌, Option, Some, refl, sym, ap, subst, arith}
use Rattle.std.specs.Prelude.{bytes_eq, slice_set, if◌then◌else◌}
use Rattle.std.proofs.lemmas.Bool.{cases_eq}
use Rattle.jos_base.specs.Counting.{total}
use Rattle.jos_base.proofs.Sums.{total-same}
use Rattle.fs_layout.specs.declared.numbers.TheConstants.{BLKSIZE, RECORDSIZE, BLKFILES}
use Rattle.fs_layout.specs.FileTree.{Node, a_directory, NamedNode, records_from, listed, with_record}
use Rattle.jos_base.specs.Below.{values_below, some_below}
use Rattle.fs_layout.specs.DiskImage.{block_count, name_of, kind_at, size_of, is_directory_at, is_empty_record}
use Rattle.fs_layout.specs.DiskImage.{has_indirect, indirect_of, block_number_at, slot_count, slot_place, has_taken_name, is_good_kind}
use Rattle.fs_layout.specs.DiskImage.{is_good_name}
use Rattle.fs_layout.specs.DiskFiles.{node_of, named_of, records_at}
use Rattle.fs_layout.specs.LayoutLaws.{Same}
use Rattle.fs_layout.proofs.FileTrees.{records_from-listed}
use Rattle.jos_base.proofs.Below.{some_below-at, some_below-none}
use Rattle.fs_acts.specs.BlockActs.{is_named_slot, place_from}
use Rattle.fs_acts.specs.BlockLaws.{AreGood, IsGoodSlot, own_times, times_named}
use Rattle.fs_acts.proofs.Fields.{SameLabel, SameFields, same-label, same-fields, same-slot, same-directory, good-same, own_times-same}
use Rattle.fs_acts.proofs.Staying.{AllBut, slot-stays, all-but}
use Rattle.fs_acts.proofs.Named.{IsNamed, is-named, named-is, own-two, own-both, slots, times_below, times-own, times-slot, below-slot}
use Rattle.fs_acts.proofs.Records.{own-good, slot-good, directory-node, same-slots, Alike, records-alike}
use Rattle.fs_acts.proofs.Ways.{tree-list}
use Rattle.fs_acts.proofs.OneSlot.{block-of, slot-block, slot-number, same-place, own-slot, set-values, NowIs}
use Rattle.fs_acts.proofs.AtEnd.{AtEnd}

-- ---- what differs

-- only the slot's own bytes
pub record SlotSet (depth : ℕ) (byte other : ℕ → ℕ) (here i : ℕ) : Type 0 where
  pub end : AtEnd byte (suc depth) here
  pub count : block_count byte ≡ block_count other
  pub is : is_directory_at byte here ≡ true
  pub within : i < slot_count byte here
  pub elsewhere : (q : ℕ) → (byte q ≡ other q) ⊎ ((slot_place byte here i ≤ q) × (q < slot_place byte here i + RECORDSIZE))

same-where : {depth : ℕ} {byte other : ℕ → ℕ} {here i : ℕ} (set : SlotSet depth byte other here i) (n from : ℕ) →
    ((q : ℕ) → from ≤ q → q < from + n → slot_place byte here i ≤ q → q < slot_place byte here i + RECORDSIZE → ⊥) →
    Same n byte from other from
same-where set n from none = λ k within. elim (set.elsewhere (from + k)) [
  | inl e ↦ e
  | inr inside ↦ absurd (none (from + k) (omega arith) (omega arith) inside.0 inside.1)
]

-- ---- what is the same

in-record : (place q : ℕ) → place % 4096 + 256 ≤ 4096 → place ≤ q → q < place + 256 → q / 4096 ≡ place / 4096
in-record place q within low high = omega arith

set-fields : {depth : ℕ} {byte other : ℕ → ℕ} {here i : ℕ} → SlotSet depth byte other here i → SameFields byte other here
set-fields {depth} {byte} {other} {here} {i} set =
    same-fields byte other here
    (same-where set RECORDSIZE here
    (λ q low high low_i high_i.
    let own = own-slot byte here i q set.within low_i high_i in
    let all = times-own (suc depth) byte here (q / BLKSIZE) in
    let none = ap (times_named (suc depth) byte here) (in-record here q set.end.aligned low high) ∙ set.end.once.outside in
    omega (arith, own, all, none)))
    (λ has.
    same-where set BLKSIZE (BLKSIZE * indirect_of byte here)
    (λ q low high low_i high_i.
    let block : ℕ = indirect_of byte here in
    let number : block_number_at byte here (i / BLKFILES) ≡ block =
    sym (slot-block (block_number_at byte here (i / BLKFILES)) i q low_i high_i) ∙ block-of block q low high in
    let both = own-both byte here (i / BLKFILES) has (slot-number (size_of byte here) i set.within) number in
    let all = times-own (suc depth) byte here block in
    let once = set.end.once.once block in
    omega (arith, both, all, once)))

-- the record of another slot
other-slot : {depth : ℕ} {byte other : ℕ → ℕ} {here i : ℕ} → SlotSet depth byte other here i → (j : ℕ) → j < slot_count byte here →
    j ≢ i → Same RECORDSIZE byte (slot_place byte here j) other (slot_place byte here j)
other-slot {depth} {byte} {other} {here} {i} set j within ne =
    same-where set RECORDSIZE (slot_place byte here j)
    (λ q low high low_i high_i.
    let number : ℕ → ℕ = λ k. block_number_at byte here (k / BLKFILES) in
    elim (cases_eq (i / BLKFILES) (j / BLKFILES)) [
      | inl e ↦
          let same : number j ≡ number i = ap (block_number_at byte here) (sym e) in
          let low_j = subst (λ n. 4096 * n + 256 * (j % 16) ≤ q) same low in
          let high_j = subst (λ n. q < 4096 * n + 256 * (j % 16) + 256) same high in
          ne (sym (same-place (number i) i j q low_i high_i low_j high_j e))
      | inr apart ↦
          let two =
          own-two byte here (i / BLKFILES) (j / BLKFILES) (q / BLKSIZE) (slot-number (size_of byte here) i set.within)
          (slot-number (size_of byte here) j within) apart (sym (slot-block (number i) i q low_i high_i))
          (sym (slot-block (number j) j q low high)) in
          let all = times-own (suc depth) byte here (q / BLKSIZE) in
          let once = set.end.once.once (q / BLKSIZE) in
          omega (arith, two, all, once)
    ])

-- with all that stands below it
other-alike : {depth : ℕ} {byte other : ℕ → ℕ} {here i : ℕ} → SlotSet depth byte other here i → (j : ℕ) → IsNamed byte here j →
    j ≢ i → Alike depth byte other (slot_place byte here j)
other-alike {depth} {byte} {other} {here} {i} set j named ne =
    records-alike depth byte other (slot_place byte here j) set.count (slot-good depth byte here j set.end.good named).1
    (other-slot set j named.within ne)
    (λ block some.
    same-where set BLKSIZE (BLKSIZE * block)
    (λ q low high low_i high_i.
    let at : q / BLKSIZE ≡ block = block-of block q low high in
    let own = subst (λ b. 1 ≤ own_times byte here b) at (own-slot byte here i q set.within low_i high_i) in
    let all = times-slot depth byte here block j named in
    let once = set.end.once.once block in
    omega (arith, own, all, once, some)))

set-places : {depth : ℕ} {byte other : ℕ → ℕ} {here i : ℕ} → SlotSet depth byte other here i → (j : ℕ) → j < slot_count byte here →
    slot_place byte here j ≡ slot_place other here j
set-places {depth} {byte} {other} {here} set j within =
    same-slot byte other here (own-good (suc depth) byte here set.end.good) (set-fields set) j within

-- All ways lead where they led, but for those through the slot.
set-there : {depth : ℕ} {byte other : ℕ → ℕ} {here i : ℕ} → SlotSet depth byte other here i → (j : ℕ) → IsNamed byte here j → j ≢ i →
    is_named_slot other here j ≡ true
set-there {depth} {byte} {other} {here} set j named ne =
    let fields = set-fields set in
    let label = same-label byte other (slot_place byte here j) (other-slot set j named.within ne) in
    named-is other here j
    (record {
      is = sym (same-directory byte other here fields.kind) ∙ set.is;
      within = subst (λ n. j < n) (same-slots byte other here fields) named.within;
      filled =
          ap (λ p. is_empty_record other p) (sym (set-places set j named.within)) ∙ ap (λ b. b == 0) (sym label.first) ∙ named.filled;
    })

pub set-stay : {depth : ℕ} {byte other : ℕ → ℕ} {here i : ℕ} → SlotSet depth byte other here i → (Told : List ℕ → Type 0) →
    (IsNamed byte here i → (way : List ℕ) (place : ℕ) → place_from byte way (slot_place byte here i) ≡ Some place → Told (i ∷ way)) →
    AllBut Told byte other here
set-stay {depth} {byte} {other} {here} {i} set Told this =
    all-but byte other here Told (sym (same-directory byte other here (set-fields set).kind))
    (λ j named way at leads. elim (cases_eq j i) [
      | inl e ↦
          inr
          (subst (λ k. Told (k ∷ way)) (sym e)
          (this (subst (IsNamed byte here) e named) way at
          (subst (λ k. place_from byte way (slot_place byte here k) ≡ Some at) e leads)))
      | inr ne ↦
          inl
          (slot-stays byte other here j way at (set-there set j named ne) (set-places set j named.within)
          ((other-alike set j named ne).stay way at leads))
    ])

-- ---- what is set

-- the slot's record on the other disk, told by its old place
pub record SetTo (depth : ℕ) (byte other : ℕ → ℕ) (here i : ℕ) (entry : Option NamedNode) : Type 0 where
  pub entry_is : named_of (records_at depth other) other (slot_place byte here i) ≡ entry
  -- it names as many blocks as before, which are none
  pub no_blocks : (block : ℕ) → times_below depth byte here block i ≡ 0
  pub none_now : is_empty_record other (slot_place byte here i) ≡ false → (block : ℕ) →
      times_named depth other (slot_place byte here i) block ≡ 0
  -- where it has a name, it is good
  pub kind : is_empty_record other (slot_place byte here i) ≡ false → is_good_kind (kind_at other (slot_place byte here i)) ≡ true
  pub named : is_empty_record other (slot_place byte here i) ≡ false → is_good_name (name_of other (slot_place byte here i)) ≡ true
  pub good : is_empty_record other (slot_place byte here i) ≡ false → AreGood depth other (slot_place byte here i)
  -- no other record has its name
  pub before : is_empty_record other (slot_place byte here i) ≡ false → (j : ℕ) → j < i →
      bytes_eq (name_of byte (slot_place byte here j)) (name_of other (slot_place byte here i)) ≡ false
  pub behind : (j : ℕ) → IsNamed byte here j → i < j →
      bytes_eq (name_of other (slot_place byte here i)) (name_of byte (slot_place byte here j)) ≡ false

-- the name of another slot
set-name : {depth : ℕ} {byte other : ℕ → ℕ} {here i : ℕ} → SlotSet depth byte other here i → (j : ℕ) → j < slot_count byte here →
    j ≢ i → name_of byte (slot_place byte here j) ≡ name_of other (slot_place other here j)
set-name {depth} {byte} {other} {here} set j within ne =
    (same-label byte other (slot_place byte here j) (other-slot set j within ne)).name ∙ ap (name_of other) (set-places set j within)

none-of : (n : ℕ) (passes : ℕ → Bool) → some_below n passes ≡ false → (k : ℕ) → k < n → passes k ≡ false
none-of n passes none k within = by_test (passes k) refl
  where
    clash : (b : Bool) → b ≡ true → b ≡ false → ⊥
    clash true is no_more = cc
    clash false is no_more = cc

    by_test : (b : Bool) → passes k ≡ b → b ≡ false
    by_test false is = refl
    by_test true is = absurd (clash (some_below n passes) (some_below-at passes n k within is) none)

-- a slot of the other disk that has a name, and is another
set-back : {depth : ℕ} {byte other : ℕ → ℕ} {here i : ℕ} → SlotSet depth byte other here i → (j : ℕ) → IsNamed other here j → j ≢ i →
    IsNamed byte here j
set-back {depth} {byte} {other} {here} set j named ne =
    let within = subst (λ n. j < n) (sym (same-slots byte other here (set-fields set))) named.within in
    let label = same-label byte other (slot_place byte here j) (other-slot set j within ne) in
    record {
      is = set.is;
      within = within;
      filled =
          ap (λ b. b == 0) label.first ∙ ap (λ p. is_empty_record other p) (set-places set j within) ∙ named.filled;
    }

other-good : {depth : ℕ} {byte other : ℕ → ℕ} {here i : ℕ} {entry : Option NamedNode} → SlotSet depth byte other here i →
    SetTo depth byte other here i entry → (j : ℕ) → IsNamed byte here j → j ≢ i → IsGoodSlot other here j
unfolding has_taken_name
other-good {depth} {byte} {other} {here} {i} set to j named ne =
    let good = (slot-good depth byte here j set.end.good named).0 in
    let label = same-label byte other (slot_place byte here j) (other-slot set j named.within ne) in
    let at = set-places set j named.within in
    record {
      kind = subst (λ n. is_good_kind n ≡ true) (label.kind ∙ ap (kind_at other) at) good.kind;
      named = subst (λ n. is_good_name n ≡ true) (label.name ∙ ap (name_of other) at) good.named;
      alone =
          some_below-none (λ k. bytes_eq (name_of other (slot_place other here k)) (name_of other (slot_place other here j))) j
          (λ k below. elim (cases_eq k i) [
            | inl e ↦
                let less : i < j = subst (λ n. n < j) e below in
                (λ t.
                bytes_eq ((ap (λ n. name_of other (slot_place other here n)) e ∙ ap (name_of other) (sym (set-places set i set.within))) t)
                (sym (set-name set j named.within ne) t))
                ∙ to.behind j named less
            | inr apart ↦
                let less : k < slot_count byte here = let within = named.within in omega (arith, below, within) in
                (λ t. bytes_eq (sym (set-name set k less apart) t) (sym (set-name set j named.within ne) t))
                ∙ none-of j (λ m. bytes_eq (name_of byte (slot_place byte here m)) (name_of byte (slot_place byte here j))) good.alone k
                below
          ]);
    }

this-good : {depth : ℕ} {byte other : ℕ → ℕ} {here i : ℕ} {entry : Option NamedNode} → SlotSet depth byte other here i →
    SetTo depth byte other here i entry → is_empty_record other (slot_place byte here i) ≡ false → IsGoodSlot other here i
unfolding has_taken_name
this-good {depth} {byte} {other} {here} {i} set to filled =
    let at = set-places set i set.within in
    record {
      kind = subst (λ p. is_good_kind (kind_at other p) ≡ true) at (to.kind filled);
      named = subst (λ p. is_good_name (name_of other p) ≡ true) at (to.named filled);
      alone =
          some_below-none (λ k. bytes_eq (name_of other (slot_place other here k)) (name_of other (slot_place other here i))) i
          (λ k below.
          let within = set.within in
          let less : k < slot_count byte here = omega (arith, below, within) in
          (λ t. bytes_eq (sym (set-name set k less (λ e. omega (arith, e, below))) t) (ap (name_of other) (sym at) t))
          ∙ to.before filled k below);
    }

set-good : {depth : ℕ} {byte other : ℕ → ℕ} {here i : ℕ} {entry : Option NamedNode} → SlotSet depth byte other here i →
    SetTo depth byte other here i entry → AreGood (suc depth) other here
unfolding AreGood
set-good {depth} {byte} {other} {here} {i} set to = (
  good-same byte other here set.count (own-good (suc depth) byte here set.end.good) (set-fields set),
  λ j is.
      let now = is-named other here j is in
      elim (cases_eq j i) [
        | inl e ↦
            let filled : is_empty_record other (slot_place byte here i) ≡ false =
            ap (λ p. is_empty_record other p) (set-places set i set.within) ∙ ap (λ k. is_empty_record other (slot_place other here k)) (sym e)
            ∙ now.filled in
            subst (λ k. IsGoodSlot other here k × AreGood depth other (slot_place other here k)) (sym e)
            (this-good set to filled, subst (AreGood depth other) (set-places set i set.within) (to.good filled))
        | inr ne ↦
            let named = set-back set j now ne in (
              other-good set to j named ne,
              subst (AreGood depth other) (set-places set j named.within) (other-alike set j named ne).good,
            )
      ],
)

-- ---- what it names

other-below : {depth : ℕ} {byte other : ℕ → ℕ} {here i : ℕ} → SlotSet depth byte other here i → (block j : ℕ) →
    j < slot_count byte here → j ≢ i → times_below depth byte here block j ≡ times_below depth other here block j
other-below {depth} {byte} {other} {here} {i} set block j within ne = by_test (is_empty_record byte (slot_place byte here j)) refl
  where
    at : slot_place byte here j ≡ slot_place other here j
    at = set-places set j within

    empty : is_empty_record byte (slot_place byte here j) ≡ is_empty_record other (slot_place other here j)
    empty =
        ap (λ b. b == 0) ((same-label byte other (slot_place byte here j) (other-slot set j within ne)).first)
        ∙ ap (λ p. is_empty_record other p) at

    by_test : (b : Bool) → is_empty_record byte (slot_place byte here j) ≡ b →
        times_below depth byte here block j ≡ times_below depth other here block j
    by_test true is = let too = sym empty ∙ is in rw (is, too) refl
    by_test false is =
        let too = sym empty ∙ is in
        let alike = other-alike set j (record { is = set.is; within = within; filled = is }) ne in
        rw (is, too) (alike.times block ∙ ap (λ p. times_named depth other p block) at)

this-below : {depth : ℕ} {byte other : ℕ → ℕ} {here i : ℕ} {entry : Option NamedNode} → SlotSet depth byte other here i →
    SetTo depth byte other here i entry → (block : ℕ) → times_below depth other here block i ≡ 0
this-below {depth} {byte} {other} {here} {i} set to block = by_test (is_empty_record other (slot_place byte here i)) refl
  where
    at : slot_place byte here i ≡ slot_place other here i
    at = set-places set i set.within

    by_test : (b : Bool) → is_empty_record other (slot_place byte here i) ≡ b → times_below depth other here block i ≡ 0
    by_test true is = let too = ap (λ p. is_empty_record other p) (sym at) ∙ is in rw too refl
    by_test false is =
        let too = ap (λ p. is_empty_record other p) (sym at) ∙ is in
        rw too (ap (λ p. times_named depth other p block) (sym at) ∙ to.none_now is block)

set-times : {depth : ℕ} {byte other : ℕ → ℕ} {here i : ℕ} {entry : Option NamedNode} → SlotSet depth byte other here i →
    SetTo depth byte other here i entry → (block : ℕ) → times_named (suc depth) other here block ≡ times_named (suc depth) byte here block
unfolding times_named
set-times {depth} {byte} {other} {here} {i} set to block =
    let fields = set-fields set in
    let own = own_times-same byte other here (own-good (suc depth) byte here set.end.good) fields block in
    let number : slots byte here ≡ slots other here =
    λ k. if same-directory byte other here fields.kind k then same-slots byte other here fields k else 0 in
    let each =
    total-same (slots byte here) (times_below depth byte here block) (times_below depth other here block)
    (λ j within.
    let inside = (below-slot byte here j within).1 in
    elim (cases_eq j i) [
      | inl e ↦
          ap (times_below depth byte here block) e ∙ to.no_blocks block ∙ sym (this-below set to block)
          ∙ ap (times_below depth other here block) (sym e)
      | inr ne ↦ other-below set block j inside ne
    ]) in
    let all : total (slots byte here) (times_below depth byte here block) ≡ total (slots other here) (times_below depth other here block) =
    each ∙ ap (λ n. total n (times_below depth other here block)) number in
    λ k. sym own k + sym all k

-- ---- its node

other-named : {depth : ℕ} {byte other : ℕ → ℕ} {here i : ℕ} → SlotSet depth byte other here i → (j : ℕ) →
    j < slot_count byte here → j ≢ i →
    named_of (records_at depth byte) byte (slot_place byte here j) ≡ named_of (records_at depth other) other (slot_place byte here j)
other-named {depth} {byte} {other} {here} {i} set j within ne = by_test (is_empty_record byte (slot_place byte here j)) refl
  where
    label : SameLabel byte other (slot_place byte here j)
    label = same-label byte other (slot_place byte here j) (other-slot set j within ne)

    by_test : (b : Bool) → is_empty_record byte (slot_place byte here j) ≡ b →
        named_of (records_at depth byte) byte (slot_place byte here j) ≡ named_of (records_at depth other) other (slot_place byte here j)
    by_test true is = let too = ap (λ b. b == 0) (sym label.first) ∙ is in rw (is, too) refl
    by_test false is =
        let too = ap (λ b. b == 0) (sym label.first) ∙ is in
        let alike = other-alike set j (record { is = set.is; within = within; filled = is }) ne in
        rw (is, too) (λ k. Some (record { name = label.name k; node = alike.node k }))

set-list : {depth : ℕ} {byte other : ℕ → ℕ} {here i : ℕ} {entry : Option NamedNode} → SlotSet depth byte other here i →
    SetTo depth byte other here i entry →
    slice_set (listed (records_at (suc depth) byte here)) i entry ≡ listed (records_at (suc depth) other here)
set-list {depth} {byte} {other} {here} {i} {entry} set to =
    let n : ℕ = slot_count byte here in
    let f : ℕ → Option NamedNode = λ j. named_of (records_at depth byte) byte (slot_place byte here j) in
    let g : ℕ → Option NamedNode = λ j. named_of (records_at depth other) other (slot_place other here j) in
    ap (λ (l : List (Option NamedNode)). slice_set l i entry) (tree-list depth byte here)
    ∙ set-values n i f g entry set.within
    (ap (named_of (records_at depth other) other) (sym (set-places set i set.within)) ∙ to.entry_is)
    (λ j within ne. other-named set j within ne ∙ ap (named_of (records_at depth other) other) (set-places set j within))
    ∙ ap (λ m. values_below m g) (same-slots byte other here (set-fields set))
    ∙ sym (tree-list depth other here)

-- the directory, with the record in its slot
pub set-now : {depth : ℕ} {byte other : ℕ → ℕ} {here i : ℕ} {entry : Option NamedNode} → SlotSet depth byte other here i →
    SetTo depth byte other here i entry →
    NowIs (suc depth) byte other here (λ block. 0) (λ block. 0)
    (with_record (node_of (records_at (suc depth) byte) byte here) i entry)
set-now {depth} {byte} {other} {here} {i} {entry} set to =
    let fields = set-fields set in
    let is_other : is_directory_at other here ≡ true = sym (same-directory byte other here fields.kind) ∙ set.is in
    record {
      good = set-good set to;
      times = λ block. ap (λ n. n + 0) (set-times set to block);
      node =
          directory-node (records_at (suc depth) other) other here is_other
          ∙ (λ k. a_directory (from-listed other here depth k) (not (sym fields.indirect k == 0)))
          ∙ ap (λ l. a_directory (records_from l) (has_indirect byte here)) (sym (set-list set to))
          ∙ ap (λ (m : Node). with_record m i entry) (sym (directory-node (records_at (suc depth) byte) byte here set.is));
    }
  where
    from-listed : (other : ℕ → ℕ) (here depth : ℕ) →
        records_at (suc depth) other here ≡ records_from (listed (records_at (suc depth) other here))
    from-listed other here depth = sym (records_from-listed (records_at (suc depth) other here))
