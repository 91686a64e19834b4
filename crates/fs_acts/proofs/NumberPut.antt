-- A record whose size and one of whose numbers were put.
use Rattle.std.proofs.Common.{◌≡◌, ◌≢◌, ◌∙◌, ◌⊎◌, inl, inr, ℕ, ◌+◌, ◌-◌, ◌*◌, ◌/◌, ◌%◌, ◌<◌, ◌≤◌, ◌==◌, Bool, true, false}
use Rattle.std.proofs.Common.{refl, sym, ap, subst, arith, if◌then◌else◌}
use Rattle.std.specs.Prelude.{nat_lt}
use Rattle.std.specs.List.{before_first}
use Rattle.std.proofs.lemmas.Bool.Decides.{nat_tests}
use Rattle.jos_base.specs.Words.{word_at}
use Rattle.fs_layout.specs.declared.numbers.TheConstants.{BLKSIZE, RECORDSIZE, MAXNAMELEN, NDIRECT, NINDIRECT}
use Rattle.fs_layout.specs.DiskImage.{kind_at, direct_of, indirect_of, name_of, has_indirect, number_in_indirect}
use Rattle.fs_layout.specs.DiskImage.{block_number_at}
use Rattle.jos_base.proofs.Below.{values-same}
use Rattle.fs_acts.specs.BlockActs.{number_place}
use Rattle.fs_acts.proofs.Stored.{same-word}
use Rattle.fs_acts.proofs.Fields.{SameLabel}
use Rattle.fs_acts.proofs.BlockPuts.{Beyond}
use Rattle.fs_acts.proofs.Blocks.{NumberAt, Distinct, apart-word, in_block}

-- the record's bytes, and those of its indirect block
abbrev pub InPlace : (ℕ → ℕ) → ℕ → ℕ → Type 0
InPlace byte place q =
    ((place ≤ q) × (q < place + RECORDSIZE)) ⊎ ((has_indirect byte place ≡ true) × (q / BLKSIZE ≡ indirect_of byte place))

-- What was put: a size, and a number at its place. The rest of the record and of its indirect block was kept.
pub record NumberPut (byte other : ℕ → ℕ) (place last number size : ℕ) : Type 0 where
  pub aligned : place % BLKSIZE + RECORDSIZE ≤ BLKSIZE
  pub apart : has_indirect byte place ≡ true → place / BLKSIZE ≢ indirect_of byte place
  pub at : NumberAt byte place last (number_place byte place last)
  pub kept : (q : ℕ) → InPlace byte place q → Beyond 4 (place + MAXNAMELEN) q → Beyond 4 (number_place byte place last) q → byte q ≡ other q
  pub sized : word_at other (place + MAXNAMELEN) ≡ size
  pub numbered : word_at other (number_place byte place last) ≡ number

-- a word that was kept
pub beyond-word : (word from k : ℕ) → k < 4 → Distinct word from → Beyond 4 from (word + k)
beyond-word word from k below (inl low) = inl (omega (arith, below, low))
beyond-word word from k below (inr high) = inr (omega (arith, high))

pub word-kept : (one other : ℕ → ℕ) (word : ℕ) → ((k : ℕ) → k < 4 → one (word + k) ≡ other (word + k)) →
    word_at one word ≡ word_at other word
word-kept one other word at =
    let plain : word + 0 ≡ word = omega arith in
    same-word one other word (ap one (sym plain) ∙ at 0 (omega arith) ∙ ap other plain) (at 1 (omega arith)) (at 2 (omega arith))
    (at 3 (omega arith))

put-word : {byte other : ℕ → ℕ} {place last number size : ℕ} → NumberPut byte other place last number size → (word : ℕ) →
    ((k : ℕ) → k < 4 → InPlace byte place (word + k)) → Distinct word (place + MAXNAMELEN) →
    Distinct word (number_place byte place last) → word_at byte word ≡ word_at other word
put-word {byte} {other} {place} {last} put word inside one two =
    let at : (k : ℕ) → k < 4 → byte (word + k) ≡ other (word + k) =
    λ k below.
    put.kept (word + k) (inside k below) (beyond-word word (place + MAXNAMELEN) k below one)
    (beyond-word word (number_place byte place last) k below two) in
    let plain : word + 0 ≡ word = omega arith in
    same-word byte other word (ap byte (sym plain) ∙ at 0 (omega arith) ∙ ap other plain) (at 1 (omega arith)) (at 2 (omega arith))
    (at 3 (omega arith))

-- a word of the record
record-word : {byte other : ℕ → ℕ} {place last number size : ℕ} → NumberPut byte other place last number size → (word : ℕ) →
    place ≤ word → word + 4 ≤ place + RECORDSIZE → Distinct word (place + MAXNAMELEN) → Distinct word (place + 136 + 4 * last) →
    word_at byte word ≡ word_at other word
record-word {byte} {other} {place} {last} put word low high one two =
    put-word put word (λ k below. inl (omega (arith, low), omega (arith, below, high))) one (put.at.own word low high two)

pub put-kind : {byte other : ℕ → ℕ} {place last number size : ℕ} → NumberPut byte other place last number size →
    kind_at byte place ≡ kind_at other place
put-kind {byte} {other} {place} {last} put =
    record-word put (place + MAXNAMELEN + 4) (omega arith) (omega arith) (inr (omega arith)) (inl (omega arith))

pub put-indirect : {byte other : ℕ → ℕ} {place last number size : ℕ} → NumberPut byte other place last number size →
    (has_indirect byte place ≡ true) ⊎ (last < NDIRECT) → last < 1034 → indirect_of byte place ≡ indirect_of other place
put-indirect {byte} {other} {place} {last} put (inr near) few =
    record-word put (place + MAXNAMELEN + 8 + 4 * NDIRECT) (omega arith) (omega arith) (inr (omega arith)) (inr (omega (arith, near)))
put-indirect {byte} {other} {place} {last} put (inl has) few = by_test (nat_lt last NDIRECT) refl
  where
    by_test : (near : Bool) → nat_lt last NDIRECT ≡ near → indirect_of byte place ≡ indirect_of other place
    by_test true is =
        let near : last < 10 = grind (arith, nat_tests) in
        record-word put (place + MAXNAMELEN + 8 + 4 * NDIRECT) (omega arith) (omega arith) (inr (omega arith)) (inr (omega (arith, near)))
    by_test false is =
        let far : 10 ≤ last = grind (arith, nat_tests) in
        let there : number_place byte place last ≡ BLKSIZE * indirect_of byte place + 4 * (last - NDIRECT) = rw is refl in
        put-word put (place + MAXNAMELEN + 8 + 4 * NDIRECT) (λ k below. inl (omega arith, omega (arith, below))) (inr (omega arith))
        (subst (Distinct (place + MAXNAMELEN + 8 + 4 * NDIRECT)) (sym there)
        (apart-word place (place + MAXNAMELEN + 8 + 4 * NDIRECT) (indirect_of byte place) (last - NDIRECT) (omega arith) (omega arith)
        put.aligned (put.apart has) (omega (arith, far, few))))

pub put-direct : {byte other : ℕ → ℕ} {place last number size : ℕ} → NumberPut byte other place last number size → (i : ℕ) →
    i < NDIRECT → i ≢ last → direct_of byte place i ≡ direct_of other place i
put-direct {byte} {other} {place} {last} put i below ne =
    record-word put (place + MAXNAMELEN + 8 + 4 * i) (omega arith) (omega (arith, below)) (inr (omega arith))
    (apart (nat_lt i last) refl)
  where
    apart : (less : Bool) → nat_lt i last ≡ less → Distinct (place + MAXNAMELEN + 8 + 4 * i) (place + 136 + 4 * last)
    apart true is = let lt : i < last = grind (arith, nat_tests) in inl (omega (arith, lt))
    apart false is =
        let le : last ≤ i = grind (arith, nat_tests) in
        let strict : last < i = omega (arith, le, ne) in inr (omega (arith, strict))

-- a word of the indirect block
pub turned : (a b : ℕ) → Distinct a b → Distinct b a
turned a b (inl low) = inr low
turned a b (inr high) = inl high

pub put-behind : {byte other : ℕ → ℕ} {place last number size : ℕ} → NumberPut byte other place last number size →
    indirect_of byte place ≡ indirect_of other place → has_indirect byte place ≡ true → (i : ℕ) → i < NINDIRECT → NDIRECT + i ≢ last →
    number_in_indirect byte place i ≡ number_in_indirect other place i
put-behind {byte} {other} {place} {last} put same has i below ne =
    put-word put (BLKSIZE * indirect_of byte place + 4 * i)
    (λ k less.
    inr (has, in_block (indirect_of byte place) i (BLKSIZE * indirect_of byte place + 4 * i + k) below (omega arith) (omega (arith, less))))
    (turned (place + MAXNAMELEN) (BLKSIZE * indirect_of byte place + 4 * i)
    (apart-word place (place + MAXNAMELEN) (indirect_of byte place) i (omega arith) (omega arith) put.aligned (put.apart has) below))
    (put.at.far has i below ne)
    ∙ ap (λ n. word_at other (BLKSIZE * n + 4 * i)) same

-- its name and its kind
name-byte : {byte other : ℕ → ℕ} {place last number size : ℕ} → NumberPut byte other place last number size → (k : ℕ) → k < 128 →
    byte (place + k) ≡ other (place + k)
name-byte {byte} {other} {place} {last} put k below =
    put.kept (place + k) (inl (omega arith, omega (arith, below))) (inl (omega (arith, below)))
    (loose (put.at.own (place + k) (omega arith) (omega (arith, below)) (inl (omega (arith, below)))))
  where
    loose : Distinct (place + k) (number_place byte place last) → Beyond 4 (number_place byte place last) (place + k)
    loose (inl low) = inl (omega (arith, low))
    loose (inr high) = inr high

put-name : {byte other : ℕ → ℕ} {place last number size : ℕ} → NumberPut byte other place last number size →
    name_of byte place ≡ name_of other place
unfolding name_of
put-name {byte} {other} {place} {last} put =
    ap (before_first (λ b. b == 0))
    (values-same MAXNAMELEN (λ k. byte (place + k)) (λ k. other (place + k))
    (λ k below. name-byte put k below))

pub put-label : {byte other : ℕ → ℕ} {place last number size : ℕ} → NumberPut byte other place last number size → SameLabel byte other place
put-label {byte} {other} {place} put = record {
  name = put-name put;
  kind = put-kind put;
  first = let at : place + 0 ≡ place = omega arith in ap byte (sym at) ∙ name-byte put 0 (omega arith) ∙ ap other at;
}

-- each other number
pub put-number : {byte other : ℕ → ℕ} {place last number size : ℕ} → NumberPut byte other place last number size →
    indirect_of byte place ≡ indirect_of other place → (i : ℕ) → i < 1034 → i ≢ last → (NDIRECT ≤ i → has_indirect byte place ≡ true) →
    block_number_at byte place i ≡ block_number_at other place i
put-number {byte} {other} {place} {last} put same i few ne needed = by_test (nat_lt i NDIRECT) refl
  where
    by_test : (near : Bool) → nat_lt i NDIRECT ≡ near → block_number_at byte place i ≡ block_number_at other place i
    by_test true is = let near : i < 10 = grind (arith, nat_tests) in rw is (put-direct put i near ne)
    by_test false is =
        let far : 10 ≤ i = grind (arith, nat_tests) in
        rw is (put-behind put same (needed far) (i - NDIRECT) (omega (arith, far, few)) (λ e. ne (omega (arith, e, far))))

-- and the one that was put
pub put-now : {byte other : ℕ → ℕ} {place last number size : ℕ} → NumberPut byte other place last number size →
    indirect_of byte place ≡ indirect_of other place → block_number_at other place last ≡ number
put-now {byte} {other} {place} {last} {number} put same = by_test (nat_lt last NDIRECT) put.numbered
  where
    by_test : (near : Bool) →
        word_at other (if near then place + MAXNAMELEN + 8 + 4 * last else BLKSIZE * indirect_of byte place + 4 * (last - NDIRECT)) ≡ number →
        (if near then direct_of other place last else number_in_indirect other place (last - NDIRECT)) ≡ number
    by_test true e = e
    by_test false e = ap (λ n. word_at other (BLKSIZE * n + 4 * (last - NDIRECT))) (sym same) ∙ e
