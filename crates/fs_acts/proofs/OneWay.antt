-- One way leads to each record.
use Rattle.std.proofs.Common.{◌≡◌, ◌≢◌, ◌∙◌, inl, inr, ℕ, ◌+◌, ◌-◌, ◌*◌, ◌/◌, ◌%◌, ◌<◌, ◌≤◌, ◌&&◌, zero, suc, true}
use Rattle.std.proofs.Common.{List, [], ◌∷◌, Option, Some, refl, sym, ap, subst, arith}
use Rattle.std.specs.Prelude.{nat_lt, nat_le}
use Rattle.std.proofs.lemmas.Bool.{cases_eq, and_parts}
use Rattle.std.proofs.lemmas.Bool.Decides.{nat_tests}
use Rattle.jos_base.specs.Counting.{total}
use Rattle.jos_base.proofs.Sums.{total-less}
use Rattle.fs_layout.specs.declared.numbers.TheConstants.{BLKSIZE, RECORDSIZE, BLKFILES}
use Rattle.fs_layout.specs.DiskImage.{block_count, root_place, first_data_block, size_of, block_number_at, slot_count, slot_place}
use Rattle.fs_acts.specs.BlockActs.{place_from}
use Rattle.fs_acts.specs.BlockLaws.{AreGood, IsCounted, own_times, times_named, PlacesHaveOneWay}
use Rattle.fs_acts.proofs.Named.{IsNamed, is-named, own-one, own-two, times-own, times-slot, times-slots}
use Rattle.fs_acts.proofs.Named.{named-data}
use Rattle.fs_acts.proofs.DiskCounts.{image-counted}
use Rattle.fs_acts.proofs.Records.{slot-good, no-slot}
use Rattle.fs_acts.proofs.Undamaged.{way-goes}

-- ---- ways

-- The way leads from the record at one place to that at another, each with the depth that is left there.
unfoldable pub IsWay : (ℕ → ℕ) → ℕ → ℕ → List ℕ → ℕ → ℕ → Type 0
IsWay byte depth here [] place end = (here ≡ place) × (depth ≡ end)
IsWay byte zero here (i ∷ way) place end = ⊥
IsWay byte (suc depth) here (i ∷ way) place end = IsNamed byte here i × IsWay byte depth (slot_place byte here i) way place end

some-same : (a b : ℕ) → ◌≡◌ {A = Option ℕ} (Some a) (Some b) → a ≡ b
some-same a b e = cc

-- what leads there is such a way
pub way-is : (byte : ℕ → ℕ) (way : List ℕ) (depth here place : ℕ) → AreGood depth byte here → place_from byte way here ≡ Some place →
    (end : ℕ) × IsWay byte depth here way place end
unfolding place_from IsWay
way-is byte [] depth here place good e = (depth, (some-same here place e, refl))
way-is byte (i ∷ way) zero here place good e =
    let goes = way-goes byte i way here place e in absurd (no-slot byte here i good (is-named byte here i goes.0))
way-is byte (i ∷ way) (suc depth) here place good e =
    let goes = way-goes byte i way here place e in
    let named = is-named byte here i goes.0 in
    let onward = way-is byte way depth (slot_place byte here i) place (slot-good depth byte here i good named).1 goes.1 in
    (onward.0, (named, onward.1))

-- ---- blocks on a way

-- the block of a directory's record
pub slot-block : (byte : ℕ → ℕ) (here i : ℕ) → slot_place byte here i / BLKSIZE ≡ block_number_at byte here (i / BLKFILES)
slot-block byte here i = in_block (block_number_at byte here (i / BLKFILES)) i
  where
    in_block : (n i : ℕ) → (4096 * n + 256 * (i % 16)) / 4096 ≡ n
    in_block n i = omega arith

slot-needed : (size i : ℕ) → i < size / 256 → i / 16 < (size + 4095) / 4096
slot-needed size i within = omega arith

-- is named by the directory
pub slot-owned : (byte : ℕ → ℕ) (here i : ℕ) → i < slot_count byte here → 1 ≤ own_times byte here (slot_place byte here i / BLKSIZE)
slot-owned byte here i within =
    own-one byte here (i / BLKFILES) (slot_place byte here i / BLKSIZE) (slot-needed (size_of byte here) i within)
    (sym (slot-block byte here i))

-- so a block is named from the way's beginning on at least as often as from its end
pub way-times : (byte : ℕ → ℕ) (depth here : ℕ) (way : List ℕ) (place end : ℕ) → IsWay byte depth here way place end → (block : ℕ) →
    times_named end byte place block ≤ times_named depth byte here block
unfolding IsWay
way-times byte depth here [] place end (at, left) block =
    let same : times_named depth byte here block ≡ times_named end byte place block = λ k. times_named (left k) byte (at k) block in
    omega (arith, same)
way-times byte zero here (i ∷ way) place end is block = absurd is
way-times byte (suc depth) here (i ∷ way) place end (named, onward) block =
    let rest = way-times byte depth (slot_place byte here i) way place end onward block in
    let all = times-slot depth byte here block i named in
    omega (arith, rest, all)

-- and the block of the record at its end is named
pub way-block : (byte : ℕ → ℕ) (depth here : ℕ) (i : ℕ) (way : List ℕ) (place end : ℕ) →
    IsWay byte depth here (i ∷ way) place end → 1 ≤ times_named depth byte here (place / BLKSIZE)
unfolding IsWay
way-block byte zero here i way place end is = absurd is
way-block byte (suc depth) here i [] place end (named, (at, left)) =
    let own = slot-owned byte here i named.within in
    let all = times-own (suc depth) byte here (slot_place byte here i / BLKSIZE) in
    subst (λ p. 1 ≤ times_named (suc depth) byte here (p / BLKSIZE)) at (omega (arith, own, all))
way-block byte (suc depth) here i (j ∷ way) place end (named, onward) =
    let rest = way-block byte depth (slot_place byte here i) j way place end onward in
    let all = times-slot depth byte here (place / BLKSIZE) i named in
    omega (arith, rest, all)

-- ---- two ways

-- A slot's record, or one below it, stands in a block that the directory names, or that is named below the slot.
numbers-apart : (byte : ℕ → ℕ) (here i j : ℕ) → IsNamed byte here i → IsNamed byte here j → i ≢ j →
    slot_place byte here i ≡ slot_place byte here j → 2 ≤ own_times byte here (slot_place byte here i / BLKSIZE)
numbers-apart byte here i j named other ne e =
    let n : ℕ = block_number_at byte here (i / 16) in
    let m : ℕ = block_number_at byte here (j / 16) in
    own-two byte here (i / 16) (j / 16) (slot_place byte here i / BLKSIZE)
    (slot-needed (size_of byte here) i named.within) (slot-needed (size_of byte here) j other.within) (blocks-apart n m i j ne e)
    (sym (slot-block byte here i)) (sym (slot-block byte here j) ∙ ap (λ p. p / BLKSIZE) (sym e))
  where
    blocks-apart : (n m i j : ℕ) → i ≢ j → 4096 * n + 256 * (i % 16) ≡ 4096 * m + 256 * (j % 16) → i / 16 ≢ j / 16
    blocks-apart n m i j ne e same = let rest : i % 16 ≡ j % 16 = omega arith in ne (omega arith)

-- So two slots lead nowhere in common.
ways-apart : (byte : ℕ → ℕ) (depth here i j : ℕ) (way other : List ℕ) (place one two : ℕ) → i ≢ j → IsNamed byte here i →
    IsNamed byte here j → IsWay byte depth (slot_place byte here i) way place one →
    IsWay byte depth (slot_place byte here j) other place two → 2 ≤ times_named (suc depth) byte here (place / BLKSIZE)
unfolding IsWay
ways-apart byte depth here i j [] [] place one two ne named also (at, left) (too, rest) =
    let twice = numbers-apart byte here i j named also ne (at ∙ sym too) in
    let all = times-own (suc depth) byte here (slot_place byte here i / BLKSIZE) in
    subst (λ p. 2 ≤ times_named (suc depth) byte here (p / BLKSIZE)) at (omega (arith, twice, all))
ways-apart byte depth here i j [] (l ∷ other) place one two ne named also (at, left) second =
    let own = subst (λ p. 1 ≤ own_times byte here (p / BLKSIZE)) at (slot-owned byte here i named.within) in
    let below = way-block byte depth (slot_place byte here j) l other place two second in
    let all = times-slot depth byte here (place / BLKSIZE) j also in
    omega (arith, own, below, all)
ways-apart byte depth here i j (k ∷ way) [] place one two ne named also first (too, rest) =
    let own = subst (λ p. 1 ≤ own_times byte here (p / BLKSIZE)) too (slot-owned byte here j also.within) in
    let below = way-block byte depth (slot_place byte here i) k way place one first in
    let all = times-slot depth byte here (place / BLKSIZE) i named in
    omega (arith, own, below, all)
ways-apart byte depth here i j (k ∷ way) (l ∷ other) place one two ne named also first second =
    let above = way-block byte depth (slot_place byte here i) k way place one first in
    let below = way-block byte depth (slot_place byte here j) l other place two second in
    let all = times-slots depth byte here (place / BLKSIZE) i j named also ne in
    omega (arith, above, below, all)

-- No block is named more than once, and that of the record itself never.
pub record NamedOnce (byte : ℕ → ℕ) (depth here : ℕ) : Type 0 where
  pub once : (block : ℕ) → times_named depth byte here block ≤ 1
  pub outside : times_named depth byte here (here / BLKSIZE) ≡ 0

-- So it is with each record below.
pub once-below : (byte : ℕ → ℕ) (depth here i : ℕ) → NamedOnce byte (suc depth) here → IsNamed byte here i →
    NamedOnce byte depth (slot_place byte here i)
once-below byte depth here i once named = record {
  once = λ block.
      let all = times-slot depth byte here block i named in let most = once.once block in omega (arith, all, most);
  outside =
      let block : ℕ = slot_place byte here i / BLKSIZE in
      let all = times-slot depth byte here block i named in
      let own = slot-owned byte here i named.within in
      let most = once.once block in
      omega (arith, all, own, most);
}

one-way : (byte : ℕ → ℕ) (depth here : ℕ) (way other : List ℕ) (place one two : ℕ) → NamedOnce byte depth here →
    IsWay byte depth here way place one → IsWay byte depth here other place two → way ≡ other
unfolding IsWay
one-way byte depth here [] [] place one two once first second = refl
one-way byte depth here [] (j ∷ other) place one two once (at, left) second =
    let named = way-block byte depth here j other place two second in
    let none = subst (λ p. times_named depth byte here (p / BLKSIZE) ≡ 0) at once.outside in
    absurd (omega (arith, named, none))
one-way byte depth here (i ∷ way) [] place one two once first (at, left) =
    let named = way-block byte depth here i way place one first in
    let none = subst (λ p. times_named depth byte here (p / BLKSIZE) ≡ 0) at once.outside in
    absurd (omega (arith, named, none))
one-way byte zero here (i ∷ way) (j ∷ other) place one two once first second = absurd first
one-way byte (suc depth) here (i ∷ way) (j ∷ other) place one two once (named, first) (also, second) = elim (cases_eq i j) [
  | inl e ↦
      let onward : IsWay byte depth (slot_place byte here i) other place two =
      subst (λ k. IsWay byte depth (slot_place byte here k) other place two) (sym e) second in
      let rest =
      one-way byte depth (slot_place byte here i) way other place one two (once-below byte depth here i once named) first onward in
      λ k. e k ∷ rest k
  | inr ne ↦
      let twice = ways-apart byte depth here i j way other place one two ne named also first second in
      let most = once.once (place / BLKSIZE) in
      absurd (omega (arith, twice, most))
]

-- ---- what holds at a way's end

-- a record lies in one block
abbrev pub Aligned : ℕ → Type 0
Aligned place = place % BLKSIZE + RECORDSIZE ≤ BLKSIZE

slot-aligned : (byte : ℕ → ℕ) (here i : ℕ) → Aligned (slot_place byte here i)
slot-aligned byte here i = within (block_number_at byte here (i / 16)) i
  where
    within : (n i : ℕ) → (4096 * n + 256 * (i % 16)) % 4096 + 256 ≤ 4096
    within n i = omega arith

pub way-aligned : (byte : ℕ → ℕ) (depth here : ℕ) (way : List ℕ) (place end : ℕ) → IsWay byte depth here way place end →
    Aligned here → Aligned place
unfolding IsWay
way-aligned byte depth here [] place end (at, left) aligned = subst Aligned at aligned
way-aligned byte zero here (i ∷ way) place end is aligned = absurd is
way-aligned byte (suc depth) here (i ∷ way) place end (named, onward) aligned =
    way-aligned byte depth (slot_place byte here i) way place end onward (slot-aligned byte here i)

pub way-good : (byte : ℕ → ℕ) (depth here : ℕ) (way : List ℕ) (place end : ℕ) → IsWay byte depth here way place end →
    AreGood depth byte here → AreGood end byte place
unfolding IsWay
way-good byte depth here [] place end (at, left) good =
    subst (λ d. AreGood d byte place) left (subst (AreGood depth byte) at good)
way-good byte zero here (i ∷ way) place end is good = absurd is
way-good byte (suc depth) here (i ∷ way) place end (named, onward) good =
    way-good byte depth (slot_place byte here i) way place end onward (slot-good depth byte here i good named).1

pub way-once : (byte : ℕ → ℕ) (depth here : ℕ) (way : List ℕ) (place end : ℕ) → IsWay byte depth here way place end →
    NamedOnce byte depth here → NamedOnce byte end place
unfolding IsWay
way-once byte depth here [] place end (at, left) once =
    subst (λ d. NamedOnce byte d place) left (subst (NamedOnce byte depth) at once)
way-once byte zero here (i ∷ way) place end is once = absurd is
way-once byte (suc depth) here (i ∷ way) place end (named, onward) once =
    way-once byte depth (slot_place byte here i) way place end onward (once-below byte depth here i once named)

pub way-shorter : (byte : ℕ → ℕ) (depth here : ℕ) (way : List ℕ) (place end : ℕ) → IsWay byte depth here way place end → end ≤ depth
unfolding IsWay
way-shorter byte depth here [] place end (at, left) = omega (arith, left)
way-shorter byte zero here (i ∷ way) place end is = absurd is
way-shorter byte (suc depth) here (i ∷ way) place end (named, onward) =
    let rest = way-shorter byte depth (slot_place byte here i) way place end onward in omega (arith, rest)

below-if : (n block t : ℕ) → (n ≤ block → t ≡ 0) → 0 < t → block < n
below-if n block t none some = elim (cases_eq (n - block) 0) [
  | inl past ↦ let e = none (omega (arith, past)) in absurd (omega (arith, e, some))
  | inr low ↦ omega (arith, low)
]

-- A way uses up a part of the depth: with each directory on it goes a block.
pub way-used : (byte : ℕ → ℕ) (depth here : ℕ) (way : List ℕ) (place end n : ℕ) → IsWay byte depth here way place end →
    ((block : ℕ) → n ≤ block → times_named depth byte here block ≡ 0) →
    total n (times_named end byte place) + depth ≤ total n (times_named depth byte here) + end
unfolding IsWay
way-used byte depth here [] place end n (at, left) low =
    let same : total n (times_named depth byte here) ≡ total n (times_named end byte place) =
    λ k. total n (times_named (left k) byte (at k)) in
    omega (arith, same, left)
way-used byte zero here (i ∷ way) place end n is low = absurd is
way-used byte (suc depth) here (i ∷ way) place end n (named, onward) low =
    let next : ℕ = slot_place byte here i in
    let block : ℕ = next / BLKSIZE in
    let own = slot-owned byte here i named.within in
    let own_all = times-own (suc depth) byte here block in
    let inside : block < n = below-if n block (times_named (suc depth) byte here block) (low block) (omega (arith, own, own_all)) in
    let all = times-slot depth byte here block i named in
    let less =
    total-less n block 1 (times_named depth byte next) (times_named (suc depth) byte here) inside
    (λ q within. let more = times-slot depth byte here q i named in omega (arith, more)) (omega (arith, own, all)) in
    let rest =
    way-used byte depth next way place end n onward
    (λ q past. let more = times-slot depth byte here q i named in let none = low q past in omega (arith, more, none)) in
    omega (arith, less, rest)

-- ---- from the root

not-data : (first blocks block : ℕ) → block < first → (nat_le first block && nat_lt block blocks) ≡ true → ⊥
not-data first blocks block low is =
    let behind = (and_parts (nat_le first block) (nat_lt block blocks) is).0 in
    let le : first ≤ block = grind (arith, nat_tests) in omega (arith, le, low)

-- no record names a block before the data blocks
pub none-before : (byte : ℕ → ℕ) (depth place block : ℕ) → AreGood depth byte place → block < first_data_block (block_count byte) →
    times_named depth byte place block ≡ 0
none-before byte depth place block good low = elim (cases_eq (times_named depth byte place block) 0) [
  | inl none ↦ none
  | inr some ↦
      absurd
      (not-data (first_data_block (block_count byte)) (block_count byte) block low
      (named-data depth byte place block good (omega (arith, some))))
]

pub root-once : (size : ℕ) (byte : ℕ → ℕ) → IsCounted size byte → NamedOnce byte (block_count byte) root_place
root-once size byte counted = record {
  once = counted.once;
  outside = none-before byte (block_count byte) root_place (root_place / BLKSIZE) counted.records (omega arith);
}

-- the law
pub places-one_way : PlacesHaveOneWay
places-one_way size byte image way other place e f =
    let counted = image-counted size byte image in
    let first = way-is byte way (block_count byte) root_place place counted.records e in
    let second = way-is byte other (block_count byte) root_place place counted.records f in
    one-way byte (block_count byte) root_place way other place first.0 second.0 (root-once size byte counted) first.1 second.1
