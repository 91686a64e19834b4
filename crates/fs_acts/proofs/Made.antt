-- An empty record of a directory that becomes a new file's.
use Rattle.std.proofs.Common.{◌≡◌, ◌≢◌, ◌∙◌, inl, inr, ℕ, ◌+◌, ◌*◌, ◌/◌, ◌<◌, ◌≤◌, ◌==◌, ◌&&◌, zero, suc, Bool, true, false, not}
use Rattle.std.proofs.Common.{List, [], length, get_or, Option, Some, None, refl, sym, ap, subst, arith}
use Rattle.std.specs.Prelude.{bytes_eq, nat_lt, nat_le, option_map, slice_set, slice_index_or}
use Rattle.std.specs.List.{list_any}
use Rattle.std.proofs.lemmas.Bool.{cases_lt, false_from_ne_true, ne_eqb, eq-eqb}
use Rattle.std.proofs.lemmas.Bool.Decides.{nat_tests}
use Rattle.std.proofs.lemmas.List.Folds.{list_any_at}
use Rattle.std.proofs.lemmas.Slice.Eq.{bytes_eq-Decides}
use Rattle.fs_layout.specs.declared.numbers.TheConstants.{MAXNAMELEN, NDIRECT}
use Rattle.fs_layout.specs.FileTree.{Node, a_file, a_directory, Records, NamedNode, listed, records_from, with_record}
use Rattle.fs_layout.specs.FileActs.{new_file, has_name}
use Rattle.jos_base.specs.Below.{values_below}
use Rattle.fs_layout.specs.DiskImage.{block_count, size_of, kind_at, direct_of, has_indirect}
use Rattle.fs_layout.specs.DiskImage.{blocks_needed, is_directory_at, is_empty_record, name_of, slot_count, slot_place, is_good_kind}
use Rattle.fs_layout.specs.DiskImage.{is_good_name, has_stray}
use Rattle.fs_layout.specs.DiskFiles.{file_bytes, file_byte, node_of, named_of, records_at}
use Rattle.fs_layout.proofs.FileTrees.{listed-records_from}
use Rattle.jos_base.proofs.Below.{length-values, get_or-values, some_below-none}
use Rattle.fs_acts.specs.BlockActs.{name_byte}
use Rattle.fs_acts.specs.BlockLaws.{IsGoodRecord, NowHas, Holds, IsRecordName, MadeRecordsAreFiles}
use Rattle.fs_acts.proofs.Ways.{tree-list, ways-lead}
use Rattle.fs_acts.proofs.DiskCounts.{image-counted}
use Rattle.fs_acts.proofs.Disks.{disk-blocks}
use Rattle.fs_acts.proofs.FileRecords.{file-good, file-times, node-same}
use Rattle.fs_acts.proofs.SlotNames.{name-stands, empty-unlike}
use Rattle.fs_acts.proofs.SlotSet.{SetTo}
use Rattle.fs_acts.proofs.OneRecord.{now-all}
use Rattle.fs_acts.proofs.SlotGives.{SlotOnly, slot-gives}
use Rattle.fs_acts.proofs.Removed.{no-own}
use Rattle.fs_acts.proofs.MadePuts.{made, made-is, made-name, made-left, made-word}

-- ---- the directory

records_of : Node → Records → Records
records_of (a_file bytes indirect) none = none
records_of (a_directory records indirect) none = records

is_directory : Node → Bool
is_directory (a_file bytes indirect) = false
is_directory (a_directory records indirect) = true

-- what is known of a directory's record
pub record IsDirectory (byte : ℕ → ℕ) (place : ℕ) (list : List (Option NamedNode)) : Type 0 where
  pub is : is_directory_at byte place ≡ true
  pub lists : listed (records_at (block_count byte) byte place) ≡ list

node-directory : (records : ℕ → Records) (byte : ℕ → ℕ) (place : ℕ) (list : List (Option NamedNode)) (indirect kind : Bool) →
    is_directory_at byte place ≡ kind → node_of records byte place ≡ a_directory (records_from list) indirect →
    (is_directory_at byte place ≡ true) × (listed (records place) ≡ list)
unfolding records_of is_directory
node-directory records byte place list indirect true is e =
    let node : node_of records byte place ≡ a_directory (records place) (has_indirect byte place) = rw is refl in
    (is, ap (λ n. listed (records_of n (records place))) (sym node ∙ e) ∙ listed-records_from list)
node-directory records byte place list indirect false is e =
    let node : node_of records byte place ≡ a_file (file_bytes byte place) (has_indirect byte place) = rw is refl in
    let clash : false ≡ true = ap is_directory (sym node ∙ e) in
    absurd (cc)

held-is : (size : ℕ) (byte : ℕ → ℕ) (way : List ℕ) (place : ℕ) (node : Node) → Holds size byte way place node →
    node ≡ node_of (records_at (block_count byte) byte) byte place
held-is size byte way place node holds =
    node-same node (node_of (records_at (block_count byte) byte) byte place)
    (sym holds.is ∙ ways-lead size byte holds.sound way
    ∙ ap (option_map (node_of (records_at (block_count byte) byte) byte)) holds.stands)

pub directory-at : (size : ℕ) (byte : ℕ → ℕ) (way : List ℕ) (place : ℕ) (list : List (Option NamedNode)) (indirect : Bool) →
    Holds size byte way place (a_directory (records_from list) indirect) → IsDirectory byte place list
directory-at size byte way place list indirect holds =
    let it =
    node-directory (records_at (block_count byte) byte) byte place list indirect (is_directory_at byte place) refl
    (sym (held-is size byte way place (a_directory (records_from list) indirect) holds)) in
    record { is = it.0; lists = it.1 }

-- each of its records
slots-listed : (depth : ℕ) (byte : ℕ → ℕ) (place : ℕ) (list : List (Option NamedNode)) → 0 < depth →
    listed (records_at depth byte place) ≡ list →
    (slot_count byte place ≡ length list)
    × ((j : ℕ) → j < slot_count byte place → is_empty_record byte (slot_place byte place j) ≡ false →
    (node : Node) × (slice_index_or list j None ≡ Some (record { name = name_of byte (slot_place byte place j); node = node })))
slots-listed zero byte place list some e = absurd (omega (arith, some))
slots-listed (suc depth) byte place list some e =
    let f : ℕ → Option NamedNode = λ j. named_of (records_at depth byte) byte (slot_place byte place j) in
    let is : values_below (slot_count byte place) f ≡ list = sym (tree-list depth byte place) ∙ e in (
      sym (length-values (slot_count byte place) f) ∙ ap (λ (l : List (Option NamedNode)). length l) is,
      λ j within filled.
          let entry : f j ≡ Some (record { name = name_of byte (slot_place byte place j); node = node_of (records_at depth byte) byte (slot_place byte place j) }) =
          rw filled refl in (
            node_of (records_at depth byte) byte (slot_place byte place j),
            ap (λ (l : List (Option NamedNode)). slice_index_or l j None) (sym is)
                ∙ get_or-values (slot_count byte place) f j None within ∙ entry,
          ),
    )

-- ---- the new record

name-in : (name : List ℕ) (k : ℕ) → k < length name → name_byte name k ≡ get_or name k 0
name-in name k within = let is : nat_lt k (length name) ≡ true = grind (arith, nat_tests) in rw is refl

name-behind : (name : List ℕ) (k : ℕ) → length name ≤ k → name_byte name k ≡ 0
name-behind name k past = let is : nat_lt k (length name) ≡ false = grind (arith, nat_tests) in rw is refl

clash : {X : Type 0} (b : Bool) → b ≡ true → b ≡ false → X
clash true is no_more = absurd (cc)
clash false is no_more = absurd (cc)

no-nul : (name : List ℕ) → list_any (λ b. b == 0) name ≡ false → (j : ℕ) → j < length name → get_or name j 0 ≢ 0
no-nul name none j within e =
    clash (list_any (λ b. b == 0) name) (list_any_at (λ b. b == 0) name j 0 within (eq-eqb (get_or name j 0) 0 e)) none

made-named : (byte : ℕ → ℕ) (place : ℕ) (name : List ℕ) → IsRecordName name → name_of (made byte place name) place ≡ name
made-named byte place name good =
    let short = good.short in
    name-stands (made byte place name) place name short (no-nul name good.no_nul)
    (λ j below. made-name byte place name j (omega (arith, below, short)) ∙ name-in name j below)
    (made-name byte place name (length name) short ∙ name-behind name (length name) (omega arith))

made-filled : (byte : ℕ → ℕ) (place : ℕ) (name : List ℕ) → IsRecordName name → is_empty_record (made byte place name) place ≡ false
made-filled byte place name good =
    let some = good.some in
    let first : made byte place name place ≡ get_or name 0 0 =
    ap (made byte place name) (plain place) ∙ made-name byte place name 0 (omega arith) ∙ name-in name 0 some in
    ne_eqb (made byte place name place) 0 (λ e. no-nul name good.no_nul 0 some (sym first ∙ e))
  where
    plain : (n : ℕ) → n ≡ n + 0
    plain n = omega arith

made-kind : (byte : ℕ → ℕ) (place : ℕ) (name : List ℕ) → kind_at (made byte place name) place ≡ 0
made-kind byte place name = made-word byte place name (place + MAXNAMELEN + 4) (omega arith) (omega arith)

made-size : (byte : ℕ → ℕ) (place : ℕ) (name : List ℕ) → size_of (made byte place name) place ≡ 0
made-size byte place name = made-word byte place name (place + MAXNAMELEN) (omega arith) (omega arith)

made-direct : (byte : ℕ → ℕ) (place : ℕ) (name : List ℕ) (i : ℕ) → i < 10 → direct_of (made byte place name) place i ≡ 0
made-direct byte place name i below = made-word byte place name (place + MAXNAMELEN + 8 + 4 * i) (omega arith) (omega (arith, below))

made-indirect : (byte : ℕ → ℕ) (place : ℕ) (name : List ℕ) → has_indirect (made byte place name) place ≡ false
made-indirect byte place name =
    ap (λ n. not (n == 0)) (made-word byte place name (place + MAXNAMELEN + 8 + 4 * NDIRECT) (omega arith) (omega arith))

made-file : (byte : ℕ → ℕ) (place : ℕ) (name : List ℕ) → is_directory_at (made byte place name) place ≡ false
made-file byte place name = ap (λ n. n == 1) (made-kind byte place name)

no-blocks : (n i : ℕ) → n ≡ 0 → i < (n + 4095) / 4096 → ⊥
no-blocks n i none within = omega (arith, none, within)

few-blocks : (n : ℕ) → n ≡ 0 → 10 < (n + 4095) / 4096 → ⊥
few-blocks n none more = omega (arith, none, more)

and-false : (b : Bool) (n : ℕ) → n ≡ 0 → (b && not (n == 0)) ≡ false
and-false true n e = ap (λ m. not (m == 0)) e
and-false false n e = refl

made-good : (byte : ℕ → ℕ) (place : ℕ) (name : List ℕ) → IsGoodRecord (made byte place name) place
unfolding has_stray
made-good byte place name =
    let other : ℕ → ℕ = made byte place name in
    let none = made-size byte place name in
    record {
      readable = record {
        whole = λ is. clash (is_directory_at other place) is (made-file byte place name);
        short = omega (arith, none);
        within = λ i within. absurd (no-blocks (size_of other place) i none within);
      };
      indirect = λ has. clash (has_indirect other place) has (made-indirect byte place name);
      needed = λ more. absurd (few-blocks (size_of other place) none more);
      no_stray =
          some_below-none (λ i. nat_le (blocks_needed other place) i && not (direct_of other place i == 0)) 10
          (λ i below. and-false (nat_le (blocks_needed other place) i) (direct_of other place i) (made-direct byte place name i below));
      none_behind = λ has. clash (has_indirect other place) has (made-indirect byte place name);
    }

no-bytes : (byte : ℕ → ℕ) (place n : ℕ) → n ≡ 0 → values_below n (file_byte byte place) ≡ []
unfolding values_below
no-bytes byte place zero none = refl
no-bytes byte place (suc n) none = absurd (omega (arith, none))

made-bytes : (byte : ℕ → ℕ) (place : ℕ) (name : List ℕ) → file_bytes (made byte place name) place ≡ []
unfolding file_bytes
made-bytes byte place name = no-bytes (made byte place name) place (size_of (made byte place name) place) (made-size byte place name)

made-entry : (depth : ℕ) (byte : ℕ → ℕ) (place : ℕ) (name : List ℕ) → IsRecordName name →
    named_of (records_at depth (made byte place name)) (made byte place name) place ≡ Some (new_file name)
made-entry depth byte place name good =
    let other : ℕ → ℕ = made byte place name in
    let filled = made-filled byte place name good in
    let kind = made-file byte place name in
    let node : node_of (records_at depth other) other place ≡ a_file [] false =
    rw kind (λ k. a_file (made-bytes byte place name k) (made-indirect byte place name k)) in
    rw filled (λ k. Some (record { name = made-named byte place name good k; node = node k }))

-- ---- what the others are called

unlike : (name other : List ℕ) → bytes_eq other name ≡ false → bytes_eq name other ≡ false
unlike name other none =
    false_from_ne_true (bytes_eq name other)
    (λ e. clash (bytes_eq other name) ((bytes_eq-Decides other name).1 (sym ((bytes_eq-Decides name other).0 e))) none)

not-listed : (list : List (Option NamedNode)) (name : List ℕ) (j : ℕ) (named : NamedNode) → list_any (has_name name) list ≡ false →
    j < length list → slice_index_or list j None ≡ Some named → bytes_eq named.name name ≡ false
not-listed list name j named none within e =
    false_from_ne_true (bytes_eq named.name name)
    (λ same.
    clash (list_any (has_name name) list)
    (list_any_at (has_name name) list j None within (ap (has_name name) e ∙ same)) none)

good-name : (name : List ℕ) → IsRecordName name → is_good_name name ≡ true
good-name name good =
    let short = good.short in
    let is : nat_lt (length name) 128 ≡ true = grind (arith, nat_tests, short) in
    let slash = good.no_slash in
    rw (is, slash) refl

made-to : (depth : ℕ) (byte : ℕ → ℕ) (here i : ℕ) (list : List (Option NamedNode)) (name : List ℕ) → IsRecordName name →
    i < slot_count byte here → is_empty_record byte (slot_place byte here i) ≡ true →
    ((j : ℕ) → j < slot_count byte here → is_empty_record byte (slot_place byte here j) ≡ false →
    bytes_eq (name_of byte (slot_place byte here j)) name ≡ false) →
    SetTo depth byte (made byte (slot_place byte here i) name) here i (Some (new_file name))
made-to depth byte here i list name good within empty others =
    let place : ℕ = slot_place byte here i in
    let other : ℕ → ℕ = made byte place name in
    let called = made-named byte place name good in
    let kind = made-file byte place name in
    record {
      entry_is = made-entry depth byte place name good;
      no_blocks = λ block. rw empty refl;
      none_now = λ filled block.
          file-times depth other place block kind ∙ no-own other place block (made-size byte place name) (made-indirect byte place name);
      kind = λ filled. ap is_good_kind (made-kind byte place name);
      named = λ filled. ap is_good_name called ∙ good-name name good;
      good = λ filled. file-good depth other place kind (made-good byte place name);
      before = λ filled j less.
          ap (bytes_eq (name_of byte (slot_place byte here j))) called
          ∙ earlier j (omega (arith, less, within)) (is_empty_record byte (slot_place byte here j)) refl;
      behind = λ j is less.
          ap (λ n. bytes_eq n (name_of byte (slot_place byte here j))) called
          ∙ unlike name (name_of byte (slot_place byte here j)) (others j is.within is.filled);
    }
  where
    earlier : (j : ℕ) → j < slot_count byte here → (b : Bool) → is_empty_record byte (slot_place byte here j) ≡ b →
        bytes_eq (name_of byte (slot_place byte here j)) name ≡ false
    earlier j inside true none = empty-unlike byte (slot_place byte here j) name none good.some
    earlier j inside false filled = others j inside filled

made-only : (byte : ℕ → ℕ) (here i : ℕ) (name : List ℕ) → SlotOnly byte (made byte (slot_place byte here i) name) here i
made-only byte here i name q = elim (cases_lt q (slot_place byte here i)) [
  | inl before ↦ inl (sym (made-left byte (slot_place byte here i) name q (inl before)))
  | inr low ↦
      elim (cases_lt q (slot_place byte here i + 256)) [
        | inl high ↦ inr (low, high)
        | inr behind ↦ inl (sym (made-left byte (slot_place byte here i) name q (inr behind)))
      ]
]

-- ---- the law

with-listed : (list : List (Option NamedNode)) (indirect : Bool) (i : ℕ) (entry : Option NamedNode) →
    with_record (a_directory (records_from list) indirect) i entry ≡ a_directory (records_from (slice_set list i entry)) indirect
with-listed list indirect i entry =
    ap (λ (l : List (Option NamedNode)). a_directory (records_from (slice_set l i entry)) indirect) (listed-records_from list)

pub makes-acts : MadeRecordsAreFiles
makes-acts size byte way place list indirect holds i name within empty good unlisted =
    let it = directory-at size byte way place list indirect holds in
    let counted = image-counted size byte holds.sound in
    let some = (disk-blocks size byte counted).0 in
    let slots = slots-listed (block_count byte) byte place list (omega (arith, some)) it.lists in
    let inside : i < slot_count byte place = subst (λ n. i < n) (sym slots.0) within in
    let other : ℕ → ℕ = made byte (slot_place byte place i) name in
    let gives =
    slot-gives size byte other way place i (Some (new_file name)) (λ at. ⊥) holds.sound holds.stands it.is inside
    (made-only byte place i name)
    (λ depth end.
    made-to depth byte place i list name good inside empty
    (λ j below filled.
    let entry = slots.1 j below filled in
    not-listed list name j (record { name = name_of byte (slot_place byte place j); node = entry.0 }) unlisted
    (subst (λ n. j < n) slots.0 below) entry.1))
    (λ named at end leads. let clash : true ≡ false = sym empty ∙ named.filled in cc) in
    let node : with_record (node_of (records_at (block_count byte) byte) byte place) i (Some (new_file name))
    ≡ a_directory (records_from (slice_set list i (Some (new_file name)))) indirect =
    ap (λ (n : Node). with_record n i (Some (new_file name)))
    (sym (held-is size byte way place (a_directory (records_from list) indirect) holds))
    ∙ with-listed list indirect i (Some (new_file name)) in
    let whole : NowHas size byte other way (a_directory (records_from (slice_set list i (Some (new_file name)))) indirect) =
    subst (λ (n : Node). NowHas size byte other way n) node (now-all size byte other way _ gives) in
    subst
    (λ (d : ℕ → ℕ).
    NowHas size byte d way (a_directory (records_from (slice_set list i (Some (new_file name)))) indirect))
    (sym (made-is byte place i name)) whole
