-- A file's record on two disks, where its numbers are the same and its size takes as many blocks.
use Rattle.std.proofs.Common.{◌≡◌, ◌∙◌, inl, inr, ℕ, ◌+◌, ◌-◌, ◌*◌, ◌/◌, ◌%◌, ◌<◌, ◌≤◌, ◌==◌, ◌&&◌, zero, suc, Bool, true, false, not}
use Rattle.std.proofs.Common.{List, [], ◌∷◌, Option, Some, None, refl, sym, ap, subst, arith}
use Rattle.std.specs.Prelude.{nat_le, nat_lt, option_map}
use Rattle.std.specs.Int.{bit_at}
use Rattle.std.proofs.lemmas.Bool.Decides.{nat_tests}
use Rattle.jos_base.specs.Counting.{total}
use Rattle.jos_base.specs.Environments.{bit_of}
use Rattle.jos_base.proofs.Sums.{total-same}
use Rattle.fs_layout.specs.declared.numbers.TheConstants.{BLKSIZE, RECORDSIZE, MAXFILESIZE, NDIRECT, NINDIRECT}
use Rattle.fs_layout.specs.FileTree.{Node, a_file, a_directory, Records}
use Rattle.fs_layout.specs.DiskImage.{block_count, root_place, is_data_block, first_data_block}
use Rattle.fs_layout.specs.DiskImage.{size_of, direct_of, indirect_of, number_in_indirect, block_number_at, blocks_needed, has_indirect}
use Rattle.fs_layout.specs.DiskImage.{is_directory_at, has_stray, has_stray_in_indirect}
use Rattle.fs_layout.specs.DiskFiles.{IsDiskImage, file_bytes, node_of, records_at}
use Rattle.jos_base.proofs.Below.{some_below-same}
use Rattle.fs_acts.specs.BlockActs.{place_at}
use Rattle.fs_acts.specs.BlockLaws.{IsGoodRecord, AreGood, own_times, times_named, NowHas, Holds}
use Rattle.fs_acts.proofs.Fields.{same-directory}
use Rattle.fs_acts.proofs.Named.{IsNamed, is-named, times-own}
use Rattle.fs_acts.proofs.Ways.{ways-lead}
use Rattle.fs_acts.proofs.OneWay.{IsWay, way-is, NamedOnce, once-below, root-once}
use Rattle.fs_acts.proofs.WalkCounts.{times-split}
use Rattle.fs_acts.proofs.Undamaged.{way-reached}
use Rattle.fs_acts.proofs.DiskCounts.{image-counted}
use Rattle.fs_acts.proofs.Disks.{disk-blocks}
use Rattle.fs_acts.proofs.Staying.{file-stays}
use Rattle.fs_acts.proofs.OneSlot.{NowIs}
use Rattle.fs_acts.proofs.OneRecord.{Changed, touched-in, first-unnamed, changed-gives}

-- ---- where a record stands

-- It stands in one block, which it does not name, and it names no block twice.
pub record Stands (byte : ℕ → ℕ) (place : ℕ) : Type 0 where
  pub good : IsGoodRecord byte place
  pub apart : (q : ℕ) → place ≤ q → q < place + RECORDSIZE → own_times byte place (q / BLKSIZE) ≡ 0
  pub once : (block : ℕ) → own_times byte place block ≤ 1

slot-within : (n i : ℕ) → (4096 * n + 256 * (i % 16)) % 4096 + 256 ≤ 4096
slot-within n i = omega arith

way-once : (byte : ℕ → ℕ) (depth here : ℕ) (way : List ℕ) (place end : ℕ) → NamedOnce byte depth here → here % 4096 + 256 ≤ 4096 →
    IsWay byte depth here way place end → NamedOnce byte end place × (place % 4096 + 256 ≤ 4096)
unfolding IsWay
way-once byte depth here [] place end once within (at, left) =
    (subst (λ d. NamedOnce byte d place) left (subst (NamedOnce byte depth) at once), subst (λ p. p % 4096 + 256 ≤ 4096) at within)
way-once byte zero here (i ∷ way) place end once within is = absurd is
way-once byte (suc depth) here (i ∷ way) place end once within (named, onward) =
    way-once byte depth _ way place end (once-below byte depth here i once named) (slot-within _ i) onward

same-block : (place q : ℕ) → place % 4096 + 256 ≤ 4096 → place ≤ q → q < place + 256 → place / 4096 ≡ q / 4096
same-block place q within low high = omega arith

pub stands-at : (size : ℕ) (byte : ℕ → ℕ) → IsDiskImage size byte → (way : List ℕ) (place : ℕ) → place_at byte way ≡ Some place →
    Stands byte place
stands-at size byte image way place leads =
    let counted = image-counted size byte image in
    let is = way-is byte way (block_count byte) root_place place counted.records leads in
    let at = way-once byte (block_count byte) root_place way place is.0 (root-once size byte counted) (omega arith) is.1 in
    record {
      good = (way-reached size byte image way place leads).good;
      apart = λ q low high.
          let own = times-own is.0 byte place (q / BLKSIZE) in
          let none = subst (λ b. times_named is.0 byte place b ≡ 0) (same-block place q at.1 low high) at.0.outside in
          omega (arith, own, none);
      once = λ block. let own = times-own is.0 byte place block in let most = at.0.once block in omega (arith, own, most);
    }

-- ---- the node

node_bytes : Node → List ℕ
node_bytes (a_file bytes indirect) = bytes
node_bytes (a_directory records indirect) = []

node_mark : Node → Bool
node_mark (a_file bytes indirect) = indirect
node_mark (a_directory records indirect) = indirect

is_file : Node → Bool
is_file (a_file bytes indirect) = true
is_file (a_directory records indirect) = false

-- what is known of a file's record
pub record IsFile (byte : ℕ → ℕ) (place : ℕ) (bytes : List ℕ) (indirect : Bool) : Type 0 where
  pub kind : is_directory_at byte place ≡ false
  pub bytes_are : file_bytes byte place ≡ bytes
  pub mark : has_indirect byte place ≡ indirect

node-file : (records : ℕ → Records) (byte : ℕ → ℕ) (place : ℕ) (bytes : List ℕ) (indirect directory : Bool) →
    is_directory_at byte place ≡ directory → node_of records byte place ≡ a_file bytes indirect → IsFile byte place bytes indirect
unfolding node_bytes node_mark is_file
node-file records byte place bytes indirect true is e =
    let node : node_of records byte place ≡ a_directory (records place) (has_indirect byte place) = rw is refl in
    let clash : false ≡ true = ap is_file (sym node ∙ e) in
    absurd (cc)
node-file records byte place bytes indirect false is e =
    let node : node_of records byte place ≡ a_file (file_bytes byte place) (has_indirect byte place) = rw is refl in
    record { kind = is; bytes_are = ap node_bytes (sym node ∙ e); mark = ap node_mark (sym node ∙ e) }

pub node-same : (a b : Node) → ◌≡◌ {A = Option Node} (Some a) (Some b) → a ≡ b
node-same a b e = ap (node_or a) e
  where
    node_or : Node → Option Node → Node
    node_or d (Some n) = n
    node_or d None = d

pub file-at : (size : ℕ) (byte : ℕ → ℕ) (way : List ℕ) (place : ℕ) (bytes : List ℕ) (indirect : Bool) →
    Holds size byte way place (a_file bytes indirect) → IsFile byte place bytes indirect
file-at size byte way place bytes indirect holds =
    let node : Node = node_of (records_at (block_count byte) byte) byte place in
    let same : ◌≡◌ {A = Option Node} (Some (a_file bytes indirect)) (Some node) =
    sym holds.is
    ∙ ways-lead size byte holds.sound way
    ∙ ap (option_map (node_of (records_at (block_count byte) byte) byte)) holds.stands in
    node-file (records_at (block_count byte) byte) byte place bytes indirect (is_directory_at byte place) refl
    (sym (node-same (a_file bytes indirect) node same))

-- ---- the same numbers

pub record SameNumbers (byte other : ℕ → ℕ) (place : ℕ) : Type 0 where
  pub needed : blocks_needed byte place ≡ blocks_needed other place
  pub direct : (i : ℕ) → i < NDIRECT → direct_of byte place i ≡ direct_of other place i
  pub indirect : indirect_of byte place ≡ indirect_of other place
  pub behind : has_indirect byte place ≡ true → (i : ℕ) → i < NINDIRECT → number_in_indirect byte place i ≡ number_in_indirect other place i

few_blocks : (size : ℕ) → size ≤ 4235264 → (size + 4095) / 4096 ≤ 1034
few_blocks size short = omega arith

past_ten : (i : ℕ) → nat_lt i 10 ≡ false → 10 ≤ i
past_ten i far = grind (arith, nat_tests)

below_ten : (i : ℕ) → nat_lt i 10 ≡ true → i < 10
below_ten i own = grind (arith, nat_tests)

pub numbers-same : (byte other : ℕ → ℕ) (place : ℕ) → IsGoodRecord byte place → SameNumbers byte other place → (i : ℕ) →
    i < blocks_needed byte place → block_number_at byte place i ≡ block_number_at other place i
numbers-same byte other place good same i within = by_place (nat_lt i NDIRECT) refl
  where
    by_place : (own : Bool) → nat_lt i NDIRECT ≡ own → block_number_at byte place i ≡ block_number_at other place i
    by_place true own = rw own (same.direct i (below_ten i own))
    by_place false far =
        let past : 10 ≤ i = past_ten i far in
        let few = few_blocks (size_of byte place) good.readable.short in
        let has = good.needed (omega arith) in
        rw far (same.behind has (i - NDIRECT) (omega arith))

mark-same : (byte other : ℕ → ℕ) (place : ℕ) → SameNumbers byte other place → has_indirect byte place ≡ has_indirect other place
mark-same byte other place same = ap (λ n. not (n == 0)) same.indirect

good-numbers : (byte other : ℕ → ℕ) (place : ℕ) → block_count byte ≡ block_count other → is_directory_at other place ≡ false →
    size_of other place ≤ MAXFILESIZE → IsGoodRecord byte place → SameNumbers byte other place → IsGoodRecord other place
unfolding has_stray has_stray_in_indirect
good-numbers byte other place count kind short good same =
    let back : has_indirect other place ≡ true → has_indirect byte place ≡ true = λ has. mark-same byte other place same ∙ has in
    record {
      readable = record {
        whole = λ is. let clash : true ≡ false = sym is ∙ kind in absurd (cc);
        short = short;
        within = λ i within.
            let inside = subst (λ n. i < n) (sym same.needed) within in
            ap (λ n. is_data_block n (block_number_at other place i)) (sym count)
            ∙ ap (is_data_block (block_count byte)) (sym (numbers-same byte other place good same i inside))
            ∙ good.readable.within i inside;
      };
      indirect = λ has.
          ap (λ n. is_data_block n (indirect_of other place)) (sym count)
          ∙ ap (is_data_block (block_count byte)) (sym same.indirect) ∙ good.indirect (back has);
      needed = λ more. sym (mark-same byte other place same) ∙ good.needed (subst (λ n. NDIRECT < n) (sym same.needed) more);
      no_stray =
          sym
          (some_below-same NDIRECT (λ i. nat_le (blocks_needed byte place) i && not (direct_of byte place i == 0))
          (λ i. nat_le (blocks_needed other place) i && not (direct_of other place i == 0))
          (λ i below. λ k. nat_le (same.needed k) i && not (same.direct i below k == 0)))
          ∙ good.no_stray;
      none_behind = λ has.
          sym
          (some_below-same NINDIRECT (λ i. nat_le (blocks_needed byte place) (NDIRECT + i) && not (number_in_indirect byte place i == 0))
          (λ i. nat_le (blocks_needed other place) (NDIRECT + i) && not (number_in_indirect other place i == 0))
          (λ i below. λ k. nat_le (same.needed k) (NDIRECT + i) && not (same.behind (back has) i below k == 0)))
          ∙ good.none_behind (back has);
    }

times-numbers : (byte other : ℕ → ℕ) (place : ℕ) → IsGoodRecord byte place → SameNumbers byte other place → (block : ℕ) →
    own_times other place block ≡ own_times byte place block
unfolding own_times
times-numbers byte other place good same block =
    let numbers =
    total-same (blocks_needed byte place) (λ i. bit_of (block_number_at byte place i == block))
    (λ i. bit_of (block_number_at other place i == block))
    (λ i within. ap (λ n. bit_of (n == block)) (numbers-same byte other place good same i within)) in
    let all = numbers ∙ ap (λ n. total n (λ i. bit_of (block_number_at other place i == block))) same.needed in
    λ k. sym all k + bit_of (not (sym same.indirect k == 0) && (sym same.indirect k == block))

-- ---- a file on the other disk

no-slots : (byte : ℕ → ℕ) (place i : ℕ) → is_directory_at byte place ≡ false → IsNamed byte place i → ⊥
no-slots byte place i kind named = let clash : true ≡ false = sym named.is ∙ kind in cc

pub file-good : (depth : ℕ) (byte : ℕ → ℕ) (place : ℕ) → is_directory_at byte place ≡ false → IsGoodRecord byte place → AreGood depth byte place
unfolding AreGood
file-good zero byte place kind good = (good, λ is. let clash : true ≡ false = sym is ∙ kind in absurd (cc))
file-good (suc depth) byte place kind good = (good, λ i named. absurd (no-slots byte place i kind (is-named byte place i named)))

pub file-times : (depth : ℕ) (byte : ℕ → ℕ) (place block : ℕ) → is_directory_at byte place ≡ false →
    times_named depth byte place block ≡ own_times byte place block
file-times depth byte place block kind = times-split depth byte place block ∙ rw kind (plain (own_times byte place block))
  where
    plain : (n : ℕ) → n + 0 ≡ n
    plain n = omega arith

-- it is what it names itself, whatever the depth
pub file-now : (byte other : ℕ → ℕ) (place : ℕ) (gain loss : ℕ → ℕ) (new : Node) → is_directory_at byte place ≡ false →
    is_directory_at other place ≡ false → IsGoodRecord other place →
    ((block : ℕ) → own_times other place block + loss block ≡ own_times byte place block + gain block) →
    a_file (file_bytes other place) (has_indirect other place) ≡ new → (depth : ℕ) → NowIs depth byte other place gain loss new
file-now byte other place gain loss new kind other_kind good times is depth = record {
  good = file-good depth other place other_kind good;
  times = λ block.
      ap (λ n. n + loss block) (file-times depth other place block other_kind) ∙ times block
      ∙ ap (λ n. n + gain block) (sym (file-times depth byte place block kind));
  node =
      let node : node_of (records_at depth other) other place ≡ a_file (file_bytes other place) (has_indirect other place) =
      rw other_kind refl in
      node ∙ is;
}

-- ---- the disk

-- no block is loose
abbrev pub NoneLoose : ℕ → Type 0
NoneLoose block = ⊥

pub mark-low : (block : ℕ) → block ≤ 16384 → (8192 ≤ 8192 + block / 8) × (8192 + block / 8 < 12288)
mark-low block within = (omega arith, omega arith)

block-two : (q : ℕ) → 8192 ≤ q → q < 12288 → q / 4096 ≡ 2
block-two q low high = omega arith

two-first : (blocks : ℕ) → 4 ≤ blocks → 2 < first_data_block blocks
two-first blocks some = omega arith

-- A byte of the bitmap, where its block is no loose one.
pub mark-byte : (size : ℕ) (byte other : ℕ → ℕ) (way : List ℕ) (place : ℕ) (Loose : ℕ → Type 0) → IsDiskImage size byte →
    place_at byte way ≡ Some place → Changed byte other place Loose → (Loose 2 → ⊥) → (q : ℕ) → 8192 ≤ q → q < 12288 →
    byte q ≡ other q
mark-byte size byte other way place Loose image leads changed tight q low high =
    let counted = image-counted size byte image in
    let depth : ℕ = block_count byte in
    let at = block-two q low high in
    elim (changed.elsewhere q) [
      | inl e ↦ e
      | inr touched ↦
          elim (touched-in way depth byte root_place place Loose q counted.records leads touched) [
            | inl inside ↦ let before = inside.1 in absurd (omega (arith, low, before))
            | inr rest ↦
                elim rest [
                  | inl some ↦
                      let here = subst (λ b. 0 < times_named depth byte root_place b) at some in
                      let unnamed =
                      first-unnamed depth byte root_place 2 counted.records (two-first depth (disk-blocks size byte counted).0) in
                      absurd (omega (arith, unnamed, here))
                  | inr is ↦ absurd (tight (subst Loose at is))
                ]
          ]
    ]

-- What a file has become whose blocks stay: only its bytes and its size are others.
pub file-gives : (size : ℕ) (byte other : ℕ → ℕ) (way : List ℕ) (place : ℕ) (bytes new : List ℕ) (indirect : Bool) →
    Holds size byte way place (a_file bytes indirect) → Changed byte other place NoneLoose → SameNumbers byte other place →
    size_of other place ≤ MAXFILESIZE → file_bytes other place ≡ new →
    NowHas size byte other way (a_file new indirect)
file-gives size byte other way place bytes new indirect holds changed same short is =
    let it = file-at size byte way place bytes indirect holds in
    let stands = stands-at size byte holds.sound way place holds.stands in
    let counted = image-counted size byte holds.sound in
    let other_kind : is_directory_at other place ≡ false = sym (same-directory byte other place changed.label.kind) ∙ it.kind in
    changed-gives size byte other way place NoneLoose (λ block. 0) (λ block. 0) (a_file new indirect) holds.sound holds.stands changed
    (λ block is. absurd is)
    (λ block within.
    let inside = mark-low block (below-most block (block_count byte) within (disk-blocks size byte counted).1) in
    let same_byte =
    mark-byte size byte other way place NoneLoose holds.sound holds.stands changed (λ is. is) (8192 + block / 8) inside.0 inside.1 in
    ap (λ b. bit_of (bit_at b (block % 8) == 1) + 0) (sym same_byte))
    (λ count d was. (
      file-now byte other place (λ block. 0) (λ block. 0) (a_file new indirect) it.kind other_kind
          (good-numbers byte other place count other_kind short stands.good same)
          (λ block. ap (λ n. n + 0) (times-numbers byte other place stands.good same block))
          (λ k. a_file (is k) ((sym (mark-same byte other place same) ∙ it.mark) k)) d,
      file-stays byte other place it.kind other_kind,
    ))
  where
    below-most : (block blocks : ℕ) → block < blocks → blocks ≤ 16384 → block ≤ 16384
    below-most block blocks a b = omega arith
