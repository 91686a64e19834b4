-- Where the number of a file's block stands, and what a word that is put there leaves.
use Rattle.std.proofs.Common.{◌≡◌, ◌≢◌, ◌∙◌, ◌⊎◌, inl, inr, ℕ, ◌+◌, ◌-◌, ◌*◌, ◌/◌, ◌%◌, ◌<◌, ◌≤◌, ◌==◌, ◌&&◌, Bool, true, false, not}
use Rattle.std.proofs.Common.{List, refl, arith}
use Rattle.std.specs.Prelude.{nat_le, nat_lt}
use Rattle.std.proofs.lemmas.Bool.Decides.{nat_tests}
use Rattle.fs_layout.specs.declared.numbers.TheConstants.{BLKSIZE, RECORDSIZE, MAXNAMELEN, NDIRECT, NINDIRECT}
use Rattle.fs_layout.specs.FileTree.{Node, a_file, a_directory, Records}
use Rattle.jos_base.specs.Below.{some_below}
use Rattle.fs_layout.specs.DiskImage.{direct_of, indirect_of, is_directory_at, has_indirect}
use Rattle.fs_layout.specs.DiskImage.{blocks_needed, number_in_indirect, has_stray, has_stray_in_indirect}
use Rattle.fs_layout.specs.DiskFiles.{file_bytes, node_of, records_at}
use Rattle.jos_base.proofs.Below.{some_below-at}
use Rattle.fs_acts.specs.BlockActs.{number_place}
use Rattle.fs_acts.specs.BlockLaws.{IsGoodRecord, own_times}
use Rattle.fs_acts.proofs.Records.{directory-node, file-node}
use Rattle.fs_acts.proofs.OneSlot.{NowIs}
use Rattle.fs_acts.proofs.Refitted.{file-good, file-times}
use Rattle.fs_acts.proofs.BlockPuts.{below_or_past}

-- ---- a file

-- what a file's node tells of its record
pub record IsFile (byte : ℕ → ℕ) (place : ℕ) (bytes : List ℕ) (indirect : Bool) : Type 0 where
  pub kind : is_directory_at byte place ≡ false
  pub is : bytes ≡ file_bytes byte place
  pub mark : indirect ≡ has_indirect byte place

not-directory : (bytes : List ℕ) (indirect other : Bool) (records : Records) → a_file bytes indirect ≡ a_directory records other → ⊥
not-directory bytes indirect other records e = cc

file-parts : (bytes others : List ℕ) (indirect other : Bool) → a_file bytes indirect ≡ a_file others other →
    (bytes ≡ others) × (indirect ≡ other)
file-parts bytes others indirect other e = (cc, cc)

pub held-file : (depth : ℕ) (byte : ℕ → ℕ) (place : ℕ) (bytes : List ℕ) (indirect : Bool) →
    a_file bytes indirect ≡ node_of (records_at depth byte) byte place → IsFile byte place bytes indirect
held-file depth byte place bytes indirect e = by_kind (is_directory_at byte place) refl
  where
    by_kind : (kind : Bool) → is_directory_at byte place ≡ kind → IsFile byte place bytes indirect
    by_kind true is =
        absurd
        (not-directory bytes indirect (has_indirect byte place) (records_at depth byte place)
        (e ∙ directory-node (records_at depth byte) byte place is))
    by_kind false is =
        let parts =
        file-parts bytes (file_bytes byte place) indirect (has_indirect byte place) (e ∙ file-node (records_at depth byte) byte place is) in
        record { kind = is; is = parts.0; mark = parts.1 }

-- and what has become of it
pub file-now : (depth : ℕ) (byte other : ℕ → ℕ) (place : ℕ) (gain loss : ℕ → ℕ) (new : Node) → is_directory_at byte place ≡ false →
    is_directory_at other place ≡ false → IsGoodRecord other place →
    ((block : ℕ) → own_times other place block + loss block ≡ own_times byte place block + gain block) →
    a_file (file_bytes other place) (has_indirect other place) ≡ new → NowIs depth byte other place gain loss new
file-now depth byte other place gain loss new was is good own node = record {
  good = file-good depth other place is good;
  times = λ block.
      let here = own block in
      let now = file-times depth other place block is in
      let before = file-times depth byte place block was in
      omega (arith, here, now, before);
  node = file-node (records_at depth other) other place is ∙ node;
}

-- ---- where a number stands

-- Two words that share no byte.
abbrev pub Distinct : ℕ → ℕ → Type 0
Distinct one other = (one + 4 ≤ other) ⊎ (other + 4 ≤ one)

pub record NumberAt (byte : ℕ → ℕ) (place last from : ℕ) : Type 0 where
  -- apart from the record's other words
  pub own : (word : ℕ) → place ≤ word → word + 4 ≤ place + RECORDSIZE → Distinct word (place + 136 + 4 * last) → Distinct word from
  -- and from the other numbers in the indirect block
  pub far : has_indirect byte place ≡ true → (i : ℕ) → i < NINDIRECT → NDIRECT + i ≢ last →
      Distinct (BLKSIZE * indirect_of byte place + 4 * i) from
  -- in the record, or in the indirect block
  pub within : (q : ℕ) → from ≤ q → q < from + 4 →
      ((place ≤ q) × (q < place + RECORDSIZE)) ⊎ ((has_indirect byte place ≡ true) × (q / BLKSIZE ≡ indirect_of byte place))

pub in_block : (n i q : ℕ) → i < 1024 → 4096 * n + 4 * i ≤ q → q < 4096 * n + 4 * i + 4 → q / 4096 ≡ n
in_block n i q below low high = omega arith

-- a word of the record, and one of a block that is not the record's
pub apart-word : (place word block i : ℕ) → place ≤ word → word + 4 ≤ place + 256 → place % 4096 + 256 ≤ 4096 → place / 4096 ≢ block →
    i < 1024 → Distinct word (4096 * block + 4 * i)
apart-word place word block i low high aligned ne below = elim (below_or_past word (4096 * block)) [
  | inl less ↦
      let row : word / 4096 ≡ place / 4096 = omega (arith, low, high, aligned) in
      let order : place / 4096 < block = omega (arith, row, less, ne) in
      inl (omega (arith, low, high, aligned, order))
  | inr more ↦
      let row : word / 4096 ≡ place / 4096 = omega (arith, low, high, aligned) in
      let order : block < place / 4096 = omega (arith, row, more, ne) in
      inr (omega (arith, low, below, order))
]

near-number : (byte : ℕ → ℕ) (place last : ℕ) → last < NDIRECT → place % 4096 + 256 ≤ 4096 →
    (has_indirect byte place ≡ true → place / BLKSIZE ≢ indirect_of byte place) →
    NumberAt byte place last (place + MAXNAMELEN + 8 + 4 * last)
near-number byte place last near aligned apart = record {
  own = λ word low high distinct. elim distinct [ inl before ↦ inl (omega (arith, before)) | inr behind ↦ inr (omega (arith, behind)) ];
  far = λ has i below ne.
      turned
      (apart-word place (place + MAXNAMELEN + 8 + 4 * last) (indirect_of byte place) i (omega arith) (omega (arith, near)) aligned
      (apart has) below);
  within = λ q low high. inl (omega (arith, low), omega (arith, high, near));
}
  where
    turned : {a b : ℕ} → Distinct a b → Distinct b a
    turned {a} {b} (inl low) = inr low
    turned {a} {b} (inr high) = inl high

far-number : (byte : ℕ → ℕ) (place last : ℕ) → NDIRECT ≤ last → last < 1034 → place % 4096 + 256 ≤ 4096 → has_indirect byte place ≡ true →
    place / BLKSIZE ≢ indirect_of byte place → NumberAt byte place last (BLKSIZE * indirect_of byte place + 4 * (last - NDIRECT))
far-number byte place last far few aligned has apart = record {
  own = λ word low high distinct.
      apart-word place word (indirect_of byte place) (last - NDIRECT) low high aligned apart (omega (arith, far, few));
  far = λ is i below ne. elim (below_or_past i (last - NDIRECT)) [
    | inl less ↦ inl (omega (arith, less))
    | inr more ↦ let strict : last - NDIRECT < i = omega (arith, more, ne, far) in inr (omega (arith, strict))
  ];
  within = λ q low high.
      inr (has, in_block (indirect_of byte place) (last - NDIRECT) q (omega (arith, far, few)) low high);
}

lt-if : (a b : ℕ) → nat_lt a b ≡ true → a < b
lt-if a b e = grind (arith, nat_tests)

ge-if : (a b : ℕ) → nat_lt a b ≡ false → b ≤ a
ge-if a b e = grind (arith, nat_tests)

pub number-at : (byte : ℕ → ℕ) (place last : ℕ) → last < 1034 → place % 4096 + 256 ≤ 4096 →
    (NDIRECT ≤ last → has_indirect byte place ≡ true) → (has_indirect byte place ≡ true → place / BLKSIZE ≢ indirect_of byte place) →
    NumberAt byte place last (number_place byte place last)
number-at byte place last few aligned needed apart = by_test (nat_lt last NDIRECT) refl
  where
    by_test : (near : Bool) → nat_lt last NDIRECT ≡ near → NumberAt byte place last (number_place byte place last)
    by_test true is = rw is (near-number byte place last (lt-if last NDIRECT is) aligned apart)
    by_test false is =
        let far = ge-if last NDIRECT is in
        let has = needed far in rw is (far-number byte place last far few aligned has (apart has))

-- ---- numbers past the size are 0

none-or : (b : Bool) (n : ℕ) → (b && not (n == 0)) ≡ false → b ≡ true → n ≡ 0
none-or true n e is = grind (arith, nat_tests)
none-or false n e is = absurd (cc)

clash : (b : Bool) → b ≡ true → b ≡ false → ⊥
clash true is no_more = cc
clash false is no_more = cc

all-none : (n : ℕ) (passes : ℕ → Bool) → some_below n passes ≡ false → (i : ℕ) → i < n → passes i ≡ false
all-none n passes none i within = by_test (passes i) refl
  where
    by_test : (b : Bool) → passes i ≡ b → passes i ≡ false
    by_test true is = absurd (clash (some_below n passes) (some_below-at passes n i within is) none)
    by_test false is = is

le-true : (a b : ℕ) → a ≤ b → nat_le a b ≡ true
le-true a b le = grind (arith, nat_tests)

pub stray-none : (byte : ℕ → ℕ) (place i : ℕ) → has_stray byte place ≡ false → i < NDIRECT → blocks_needed byte place ≤ i →
    direct_of byte place i ≡ 0
unfolding has_stray
stray-none byte place i none below past =
    none-or (nat_le (blocks_needed byte place) i) (direct_of byte place i)
    (all-none NDIRECT (λ k. nat_le (blocks_needed byte place) k && not (direct_of byte place k == 0)) none i below)
    (le-true (blocks_needed byte place) i past)

pub behind-none : (byte : ℕ → ℕ) (place i : ℕ) → has_stray_in_indirect byte place ≡ false → i < NINDIRECT →
    blocks_needed byte place ≤ NDIRECT + i → number_in_indirect byte place i ≡ 0
unfolding has_stray_in_indirect
behind-none byte place i none below past =
    none-or (nat_le (blocks_needed byte place) (NDIRECT + i)) (number_in_indirect byte place i)
    (all-none NINDIRECT (λ k. nat_le (blocks_needed byte place) (NDIRECT + k) && not (number_in_indirect byte place k == 0)) none i below)
    (le-true (blocks_needed byte place) (NDIRECT + i) past)
