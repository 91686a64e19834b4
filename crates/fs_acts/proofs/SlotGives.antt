-- What a disk becomes where one slot of a directory gets another record.
use Rattle.std.proofs.Common.{◌≡◌, ◌∙◌, ◌⊎◌, inl, inr, ℕ, ◌+◌, ◌/◌, ◌%◌, ◌<◌, ◌≤◌, ◌==◌, zero, suc, true}
use Rattle.std.proofs.Common.{List, ◌∷◌, Option, Some, sym, ap, subst, arith}
use Rattle.std.specs.Prelude.{option_map}
use Rattle.std.specs.Int.{bit_at}
use Rattle.jos_base.specs.Environments.{bit_of}
use Rattle.fs_layout.specs.declared.numbers.TheConstants.{RECORDSIZE}
use Rattle.fs_layout.specs.FileTree.{Node, NamedNode, with_record}
use Rattle.fs_layout.specs.DiskImage.{block_count, is_directory_at, slot_count, slot_place}
use Rattle.fs_layout.specs.DiskFiles.{IsDiskImage, node_of, records_at}
use Rattle.fs_acts.specs.BlockActs.{place_from, place_at}
use Rattle.fs_acts.specs.BlockLaws.{AreGood, Holds}
use Rattle.fs_acts.proofs.Fields.{same-label}
use Rattle.fs_acts.proofs.Named.{IsNamed}
use Rattle.fs_acts.proofs.Ways.{ways-lead}
use Rattle.fs_acts.proofs.DiskCounts.{image-counted}
use Rattle.fs_acts.proofs.Disks.{disk-blocks}
use Rattle.fs_acts.proofs.OneSlot.{own-slot, NowIs}
use Rattle.fs_acts.proofs.OneRecord.{Changed, MarksGo, NowBut, changed-but}
use Rattle.fs_acts.proofs.Staying.{AllBut}
use Rattle.fs_acts.proofs.FileRecords.{NoneLoose, Stands, stands-at, mark-byte, mark-low}
use Rattle.fs_acts.proofs.AtEnd.{AtEnd, at-end, held-node}
use Rattle.fs_acts.proofs.SlotSet.{SlotSet, set-stay, SetTo, set-now}

-- the bitmap is as it was
marks-stay : (size : ℕ) (byte other : ℕ → ℕ) (way : List ℕ) (place : ℕ) → IsDiskImage size byte → place_at byte way ≡ Some place →
    Changed byte other place NoneLoose → MarksGo byte other (λ block. 0) (λ block. 0)
marks-stay size byte other way place image leads changed block within =
    let counted = image-counted size byte image in
    let inside = mark-low block (below-most block (block_count byte) within (disk-blocks size byte counted).1) in
    let same =
    mark-byte size byte other way place NoneLoose image leads changed (λ is. is) (8192 + block / 8) inside.0 inside.1 in
    ap (λ b. bit_of (bit_at b (block % 8) == 1) + 0) (sym same)
  where
    below-most : (block blocks : ℕ) → block < blocks → blocks ≤ 16384 → block ≤ 16384
    below-most block blocks a b = omega (arith, a, b)

-- only the slot's own bytes differ
abbrev pub SlotOnly : (ℕ → ℕ) → (ℕ → ℕ) → ℕ → ℕ → Type 0
SlotOnly byte other here i =
    (q : ℕ) → (byte q ≡ other q) ⊎ ((slot_place byte here i ≤ q) × (q < slot_place byte here i + RECORDSIZE))

slot-changed : (byte other : ℕ → ℕ) (here i : ℕ) → Stands byte here → i < slot_count byte here → SlotOnly byte other here i →
    Changed byte other here NoneLoose
slot-changed byte other here i stands within only = record {
  elsewhere = λ q. elim (only q) [
    | inl e ↦ inl e
    | inr inside ↦ inr (inr (inl (own-slot byte here i q within inside.0 inside.1)))
  ];
  label =
      same-label byte other here
      (λ k below. elim (only (here + k)) [
        | inl e ↦ e
        | inr inside ↦
            let own = own-slot byte here i (here + k) within inside.0 inside.1 in
            let none = stands.apart (here + k) (omega arith) (omega (arith, below)) in
            absurd (omega (arith, own, none))
      ]);
}

-- the node of a place to which a way leads
pub holds-node : (size : ℕ) (byte : ℕ → ℕ) (way : List ℕ) (place : ℕ) → IsDiskImage size byte → place_at byte way ≡ Some place →
    Holds size byte way place (node_of (records_at (block_count byte) byte) byte place)
holds-node size byte way place image leads = record {
  sound = image;
  stands = leads;
  is = ways-lead size byte image way ∙ ap (option_map (node_of (records_at (block_count byte) byte) byte)) leads;
}

-- a directory of the last depth has no records
last-none : (byte : ℕ → ℕ) (here : ℕ) → AreGood zero byte here → is_directory_at byte here ≡ true → slot_count byte here ≡ 0
unfolding AreGood
last-none byte here good is = good.1 is

pub slot-gives : (size : ℕ) (byte other : ℕ → ℕ) (way : List ℕ) (here i : ℕ) (entry : Option NamedNode) (Told : List ℕ → Type 0) →
    IsDiskImage size byte → place_at byte way ≡ Some here → is_directory_at byte here ≡ true → i < slot_count byte here → SlotOnly byte other here i →
    ((depth : ℕ) → AtEnd byte (suc depth) here → SetTo depth byte other here i entry) →
    (IsNamed byte here i → (at : List ℕ) (place : ℕ) → place_from byte at (slot_place byte here i) ≡ Some place → Told (i ∷ at)) →
    NowBut size byte other way (with_record (node_of (records_at (block_count byte) byte) byte here) i entry) Told
slot-gives size byte other way here i entry Told image leads is within only to told =
    let counted = image-counted size byte image in
    let node : Node = node_of (records_at (block_count byte) byte) byte here in
    let changed = slot-changed byte other here i (stands-at size byte image way here leads) within only in
    changed-but size byte other way here NoneLoose (λ block. 0) (λ block. 0) (with_record node i entry) Told image leads changed
    (λ block loose. absurd loose) (marks-stay size byte other way here image leads changed)
    (λ count depth onward.
    now depth count (at-end size byte way here depth counted onward)
    (held-node size byte way here node (holds-node size byte way here image leads) depth counted onward))
  where
    now : (depth : ℕ) → block_count byte ≡ block_count other → AtEnd byte depth here →
        node_of (records_at (block_count byte) byte) byte here ≡ node_of (records_at depth byte) byte here →
        NowIs depth byte other here (λ block. 0) (λ block. 0)
        (with_record (node_of (records_at (block_count byte) byte) byte here) i entry)
        × AllBut Told byte other here
    now zero count end same =
        let none = last-none byte here end.good is in absurd (omega (arith, within, none))
    now (suc depth) count end same =
        let set : SlotSet depth byte other here i = record { end = end; count = count; is = is; within = within; elsewhere = only } in (
          subst (λ (n : Node). NowIs (suc depth) byte other here (λ block. 0) (λ block. 0) (with_record n i entry)) (sym same)
              (set-now set (to depth end)),
          set-stay set Told told,
        )
