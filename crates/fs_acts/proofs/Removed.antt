-- A file without blocks that is removed.
use Rattle.std.proofs.Common.{◌≡◌, ◌∙◌, inl, inr, ℕ, ◌+◌, ◌-◌, ◌/◌, ◌<◌, ◌==◌, ◌&&◌, Bool, true, false}
use Rattle.std.proofs.Common.{List, [], ◌∷◌, ◌++◌, length, Option, Some, None, refl, sym, ap, subst, arith}
use Rattle.std.specs.Prelude.{option_and_then}
use Rattle.std.proofs.lemmas.Bool.{cases_eq}
use Rattle.jos_base.specs.Counting.{total}
use Rattle.jos_base.specs.Environments.{bit_of}
use Rattle.fs_layout.specs.declared.numbers.TheConstants.{BLKSIZE}
use Rattle.fs_layout.specs.FileTree.{Node, NamedNode, FileSystem, root_record, record_at, with_record, node_changed, named_from}
use Rattle.fs_layout.specs.FileTree.{replaced, emptied}
use Rattle.fs_layout.specs.DiskImage.{block_count, root_place, size_of, has_indirect, indirect_of, block_number_at}
use Rattle.fs_layout.specs.DiskImage.{is_empty_record, is_directory_at, slot_place, name_of}
use Rattle.fs_layout.specs.DiskFiles.{IsDiskImage, file_system_of, node_of, records_at}
use Rattle.fs_acts.specs.BlockActs.{put_byte, stored, written, place_from, place_at, empty_it}
use Rattle.fs_acts.specs.BlockLaws.{own_times, times_named, NowLacks, EmptyFilesAreRemoved}
use Rattle.fs_acts.proofs.Stored.{stored-byte, stored-left}
use Rattle.fs_acts.proofs.Trees.{node-found}
use Rattle.fs_acts.proofs.Named.{IsNamed, is-named, named-is, below-named}
use Rattle.fs_acts.proofs.Undamaged.{way-goes, some-same}
use Rattle.fs_acts.proofs.FileRecords.{IsFile, file-at, file-times}
use Rattle.fs_acts.proofs.FileData.{length-file}
use Rattle.fs_acts.proofs.SlotNames.{empty-unlike, filled-name}
use Rattle.fs_acts.proofs.SlotSet.{SetTo}
use Rattle.fs_acts.proofs.SlotGives.{SlotOnly, slot-gives, holds-node}

-- ---- the directory that names a record

-- the way to it, and the record's number there
pub record Above (byte : ℕ → ℕ) (here place : ℕ) (way : List ℕ) : Type 0 where
  pub above : List ℕ
  pub directory : ℕ
  pub i : ℕ
  pub leads : place_from byte above here ≡ Some directory
  pub named : IsNamed byte directory i
  pub at : slot_place byte directory i ≡ place
  pub whole : above ++ i ∷ [] ≡ way

longer : (byte : ℕ → ℕ) (first : ℕ) (way : List ℕ) (here end : ℕ) → IsNamed byte here first →
    place_from byte way (slot_place byte here first) ≡ Some end → place_from byte (first ∷ way) here ≡ Some end
unfolding place_from
longer byte first way here end named e = let is = named-is byte here first named in rw is e

no-way : (byte : ℕ → ℕ) (here : ℕ) → place_from byte [] here ≡ Some here
unfolding place_from
no-way byte here = refl

pub way-above : (way : List ℕ) (byte : ℕ → ℕ) (first here place : ℕ) → place_from byte (first ∷ way) here ≡ Some place →
    Above byte here place (first ∷ way)
way-above [] byte first here place e =
    let goes = way-goes byte first [] here place e in
    record {
      above = [];
      directory = here;
      i = first;
      leads = no-way byte here;
      named = is-named byte here first goes.0;
      at = some-same (slot_place byte here first) place (sym (no-way byte (slot_place byte here first)) ∙ goes.1);
      whole = refl;
    }
way-above (next ∷ way) byte first here place e =
    let goes = way-goes byte first (next ∷ way) here place e in
    let rest = way-above way byte next (slot_place byte here first) place goes.1 in
    record {
      above = first ∷ rest.above;
      directory = rest.directory;
      i = rest.i;
      leads = longer byte first rest.above here rest.directory (is-named byte here first goes.0) rest.leads;
      named = rest.named;
      at = rest.at;
      whole = ap (λ (l : List ℕ). first ∷ l) rest.whole;
    }

-- ---- the tree

-- a record that is emptied in the record below
emptied-below : (place : ℕ) (above : List ℕ) (i : ℕ) (here : Node) →
    emptied (place ∷ (above ++ i ∷ [])) here ≡ with_record here place (node_changed (emptied (above ++ i ∷ [])) (record_at here place))
unfolding emptied
emptied-below place [] i here = refl
emptied-below place (next ∷ above) i here = refl

emptied-here : (i : ℕ) (here : Node) → emptied (i ∷ []) here ≡ with_record here i None
unfolding emptied
emptied-here i here = refl

same-named : (one other : NamedNode) → ◌≡◌ {A = Option NamedNode} (Some one) (Some other) → one ≡ other
same-named one other e = ap (named_or one) e
  where
    named_or : NamedNode → Option NamedNode → NamedNode
    named_or d (Some n) = n
    named_or d None = d

step-below : (place : ℕ) (above : List ℕ) (i : ℕ) (here new : Node) (old : NamedNode) (entry : Option NamedNode) →
    ((next : NamedNode) → named_from above next ≡ Some old → replaced above new next.node ≡ emptied (above ++ i ∷ []) next.node) →
    option_and_then (named_from above) entry ≡ Some old →
    with_record here place (node_changed (replaced above new) entry)
    ≡ with_record here place (node_changed (emptied (above ++ i ∷ [])) entry)
step-below place above i here new old None next e = refl
step-below place above i here new old (Some named) next e =
    ap (λ (n : Node). with_record here place (Some (record named { node = n }))) (next named e)

-- is the directory with that record empty, put at its way
replaced-emptied : (above : List ℕ) (i : ℕ) (here old : NamedNode) → named_from above here ≡ Some old →
    replaced above (with_record old.node i None) here.node ≡ emptied (above ++ i ∷ []) here.node
unfolding named_from replaced
replaced-emptied [] i here old e =
    ap (λ (n : NamedNode). with_record n.node i None) (sym (same-named here old e)) ∙ sym (emptied-here i here.node)
replaced-emptied (place ∷ above) i here old e =
    step-below place above i here.node (with_record old.node i None) old (record_at here.node place)
    (λ next. replaced-emptied above i next old) e
    ∙ sym (emptied-below place above i here.node)

-- ---- the record

pub no-own : (byte : ℕ → ℕ) (place block : ℕ) → size_of byte place ≡ 0 → has_indirect byte place ≡ false → own_times byte place block ≡ 0
unfolding own_times total
no-own byte place block none has =
    λ k.
    total ((none k + (BLKSIZE - 1)) / BLKSIZE) (λ i. bit_of (block_number_at byte place i == block))
    + bit_of (has k && (indirect_of byte place == block))

clash : {X : Type 0} (b : Bool) → b ≡ true → b ≡ false → X
clash true is no_more = absurd (cc)
clash false is no_more = absurd (cc)

now-empty : (byte : ℕ → ℕ) (place : ℕ) → (stored (put_byte place 0) byte place == 0) ≡ true
now-empty byte place = ap (λ b. b == 0) (stored-byte byte place 0)

emptied-to : (depth : ℕ) (byte : ℕ → ℕ) (here i : ℕ) → IsNamed byte here i →
    ((block : ℕ) → times_named depth byte (slot_place byte here i) block ≡ 0) →
    ((j : ℕ) → IsNamed byte here j → 0 < length (name_of byte (slot_place byte here j))) →
    SetTo depth byte (stored (put_byte (slot_place byte here i) 0) byte) here i None
emptied-to depth byte here i named none names =
    let place : ℕ = slot_place byte here i in
    let other : ℕ → ℕ = stored (put_byte place 0) byte in
    let empty : is_empty_record other place ≡ true = now-empty byte place in
    record {
      entry_is = rw empty refl;
      no_blocks = λ block. below-named depth byte here block i named ∙ none block;
      none_now = λ filled. clash (is_empty_record other place) empty filled;
      kind = λ filled. clash (is_empty_record other place) empty filled;
      named = λ filled. clash (is_empty_record other place) empty filled;
      good = λ filled. clash (is_empty_record other place) empty filled;
      before = λ filled. clash (is_empty_record other place) empty filled;
      behind = λ j is less. empty-unlike other place (name_of byte (slot_place byte here j)) empty (names j is);
    }

slot-only : (byte : ℕ → ℕ) (here i : ℕ) → SlotOnly byte (stored (put_byte (slot_place byte here i) 0) byte) here i
slot-only byte here i q = elim (cases_eq q (slot_place byte here i)) [
  | inl e ↦ inr (omega (arith, e), omega (arith, e))
  | inr ne ↦ inl (sym (stored-left (put_byte (slot_place byte here i) 0) byte q ne))
]

-- ---- the law

-- no way leads on from a file
last-there : (byte : ℕ → ℕ) (place i : ℕ) → is_directory_at byte place ≡ false → (at : List ℕ) (end : ℕ) →
    place_from byte at place ≡ Some end → i ∷ at ≡ i ∷ []
last-there byte place i kind [] end leads = refl
last-there byte place i kind (next ∷ at) end leads =
    let goes = way-goes byte next at place end leads in
    clash (is_directory_at byte place) (is-named byte place next goes.0).is kind

removed-at : (size : ℕ) (byte : ℕ → ℕ) (above : List ℕ) (here i : ℕ) → IsDiskImage size byte → place_at byte above ≡ Some here →
    IsNamed byte here i → IsFile byte (slot_place byte here i) [] false →
    NowLacks size byte (stored (put_byte (slot_place byte here i) 0) byte) (above ++ i ∷ [])
removed-at size byte above here i image leads named it =
    let files : FileSystem = file_system_of byte in
    let place : ℕ = slot_place byte here i in
    let node : Node = node_of (records_at (block_count byte) byte) byte here in
    let none : size_of byte place ≡ 0 = sym (length-file byte place) ∙ ap (λ (l : List ℕ). length l) it.bytes_are in
    let gives =
    slot-gives size byte (stored (put_byte place 0) byte) above here i None (λ at. at ≡ i ∷ []) image leads named.is named.within
    (slot-only byte here i)
    (λ depth end.
    emptied-to depth byte here i named
    (λ block. file-times depth byte place block it.kind ∙ no-own byte place block none it.mark)
    (λ j is. filled-name byte (slot_place byte here j) is.filled))
    (λ is. last-there byte place i it.kind) in
    let found = node-found (named_from above (root_record files)) node (holds-node size byte above here image leads).is in
    let tree : replaced above (with_record node i None) files.root ≡ emptied (above ++ i ∷ []) files.root =
    subst (λ (n : Node). replaced above (with_record n i None) files.root ≡ emptied (above ++ i ∷ []) files.root) found.1.1
    (replaced-emptied above i (root_record files) found.0 found.1.0) in
    record {
      gives = record { sound = gives.gives.sound; tree = gives.gives.tree ∙ ap (λ (n : Node). record files { root = n }) tree };
      others_stay = λ at end goes. elim (gives.others at end goes) [
        | inl stays ↦ inl stays
        | inr told ↦ inr (told.1 ∙ ap (λ (l : List ℕ). above ++ l) told.2)
      ];
    }

pub empties-removed : EmptyFilesAreRemoved
unfolding empty_it written
empties-removed size byte first way place holds =
    let parent = way-above way byte first root_place place holds.stands in
    let it = file-at size byte (first ∷ way) place [] false holds in
    subst (λ (p : ℕ). NowLacks size byte (stored (put_byte p 0) byte) (first ∷ way)) parent.at
    (subst (λ (w : List ℕ). NowLacks size byte (stored (put_byte (slot_place byte parent.directory parent.i) 0) byte) w) parent.whole
    (removed-at size byte parent.above parent.directory parent.i holds.sound parent.leads parent.named
    (subst (λ (p : ℕ). IsFile byte p [] false) (sym parent.at) it)))
