-- The bytes of a record that is made: its name with NULs behind, and zeros.
use Rattle.std.proofs.Common.{◌≡◌, ◌≢◌, ◌∙◌, ◌⊎◌, inl, inr, ℕ, ◌+◌, ◌-◌, ◌*◌, ◌/◌, ◌<◌, ◌≤◌, zero, suc}
use Rattle.std.proofs.Common.{List, [], ◌∷◌, ◌++◌, refl, ap, arith}
use Rattle.std.proofs.lemmas.Bool.{cases_lt}
use Rattle.jos_base.specs.Words.{word_at}
use Rattle.fs_layout.specs.declared.numbers.TheConstants.{RECORDSIZE, MAXNAMELEN}
use Rattle.jos_base.specs.Below.{values_below}
use Rattle.fs_layout.specs.DiskImage.{slot_place}
use Rattle.fs_acts.specs.BlockActs.{Put, put_byte, put_word, written, name_byte, make_record}
use Rattle.fs_acts.proofs.Puts.{written-append}
use Rattle.fs_acts.proofs.Stored.{stored-byte, stored-left, stored-zero, same-word, written-more, written-left, left-values}
use Rattle.fs_acts.proofs.Stored.{none_left, more_left}
use Rattle.fs_acts.proofs.FilePuts.{puts-at}

-- ---- the puts

rest_of_name : ℕ → List ℕ → List Put
rest_of_name place name = values_below (MAXNAMELEN - 1) (λ k. put_byte (place + 1 + k) (name_byte name (1 + k)))

words_of : ℕ → List Put
words_of place = values_below ((RECORDSIZE - MAXNAMELEN) / 4) (λ k. put_word (place + MAXNAMELEN + 4 * k) 0)

first_of : ℕ → List ℕ → List Put
first_of place name = put_byte place (name_byte name 0) ∷ []

-- the disk after them
pub made : (ℕ → ℕ) → ℕ → List ℕ → ℕ → ℕ
made byte place name = written (first_of place name) (written (words_of place) (written (rest_of_name place name) byte))

pub made-is : (byte : ℕ → ℕ) (directory i : ℕ) (name : List ℕ) →
    written (make_record directory i name byte) byte ≡ made byte (slot_place byte directory i) name
unfolding make_record made rest_of_name words_of first_of
made-is byte directory i name =
    let place : ℕ = slot_place byte directory i in
    let rest : List Put = values_below (MAXNAMELEN - 1) (λ k. put_byte (place + 1 + k) (name_byte name (1 + k))) in
    let words : List Put = values_below ((RECORDSIZE - MAXNAMELEN) / 4) (λ k. put_word (place + MAXNAMELEN + 4 * k) 0) in
    let first : List Put = put_byte place (name_byte name 0) ∷ [] in
    written-append (rest ++ words) first byte ∙ ap (written first) (written-append rest words byte)

-- ---- what each of them leaves

first-left : (byte : ℕ → ℕ) (place : ℕ) (name : List ℕ) (q : ℕ) → q ≢ place → written (first_of place name) byte q ≡ byte q
unfolding first_of
first-left byte place name q ne =
    written-left q (put_byte place (name_byte name 0) ∷ []) byte (more_left (put_byte place (name_byte name 0)) [] ne none_left)

words-left : (byte : ℕ → ℕ) (place q : ℕ) → (q < place + 128) ⊎ (place + 256 ≤ q) → written (words_of place) byte q ≡ byte q
unfolding words_of
words-left byte place q beside =
    written-left q (values_below 32 (λ k. put_word (place + 128 + 4 * k) 0)) byte
    (left-values q 32 (λ k. put_word (place + 128 + 4 * k) 0)
    (λ k within. elim beside [
      | inl before ↦ inl (omega (arith, before))
      | inr behind ↦ inr (omega (arith, within, behind))
    ]))

rest-left : (byte : ℕ → ℕ) (place : ℕ) (name : List ℕ) (q : ℕ) → (q < place + 1) ⊎ (place + 128 ≤ q) →
    written (rest_of_name place name) byte q ≡ byte q
unfolding rest_of_name
rest-left byte place name q beside =
    written-left q (values_below 127 (λ k. put_byte (place + 1 + k) (name_byte name (1 + k)))) byte
    (left-values q 127 (λ k. put_byte (place + 1 + k) (name_byte name (1 + k)))
    (λ k within e. elim beside [ inl before ↦ omega (arith, before, e) | inr behind ↦ omega (arith, within, behind, e) ]))

-- ---- what each of them stores

zero-words : (n : ℕ) (byte : ℕ → ℕ) (base q : ℕ) → base ≤ q → q < base + 4 * n →
    written (values_below n (λ k. put_word (base + 4 * k) 0)) byte q ≡ 0
zero-words zero byte base q low high = absurd (omega (arith, low, high))
zero-words (suc n) byte base q low high =
    let f : ℕ → Put = λ k. put_word (base + 4 * k) 0 in
    let before : ℕ → ℕ = written (values_below n f) byte in
    ap (λ (d : ℕ → ℕ). d q) (written-more n f byte)
    ∙ (elim (cases_lt q (base + 4 * n)) [
      | inl less ↦ stored-left (f n) before q (inl less) ∙ zero-words n byte base q low less
      | inr past ↦ stored-zero before (base + 4 * n) q past (omega (arith, high))
    ])

words-zero : (byte : ℕ → ℕ) (place q : ℕ) → place + 128 ≤ q → q < place + 256 → written (words_of place) byte q ≡ 0
unfolding words_of
words-zero byte place q low high = zero-words 32 byte (place + 128) q low (omega (arith, high))

rest-stored : (byte : ℕ → ℕ) (place : ℕ) (name : List ℕ) (k : ℕ) → k < 127 →
    written (rest_of_name place name) byte (place + 1 + k) ≡ name_byte name (1 + k)
unfolding rest_of_name
rest-stored byte place name k within =
    puts-at 127 (λ j. place + 1 + j) (λ j. name_byte name (1 + j)) byte (λ i j less also e. omega (arith, e)) k within

first-stored : (byte : ℕ → ℕ) (place : ℕ) (name : List ℕ) → written (first_of place name) byte place ≡ name_byte name 0
unfolding first_of written
first-stored byte place name = stored-byte byte place (name_byte name 0)

-- ---- the record's bytes

pub made-name : (byte : ℕ → ℕ) (place : ℕ) (name : List ℕ) (k : ℕ) → k < 128 → made byte place name (place + k) ≡ name_byte name k
unfolding made
made-name byte place name zero within =
    ap (written (first_of place name) (written (words_of place) (written (rest_of_name place name) byte))) (plain place)
    ∙ first-stored (written (words_of place) (written (rest_of_name place name) byte)) place name
  where
    plain : (n : ℕ) → n + 0 ≡ n
    plain n = omega arith
made-name byte place name (suc k) within =
    let rest : ℕ → ℕ = written (rest_of_name place name) byte in
    first-left (written (words_of place) rest) place name (place + suc k) (λ e. omega (arith, e))
    ∙ words-left rest place (place + suc k) (inl (omega (arith, within)))
    ∙ ap rest (next place k)
    ∙ rest-stored byte place name k (omega (arith, within))
    ∙ ap (name_byte name) (count k)
  where
    next : (place k : ℕ) → place + suc k ≡ place + 1 + k
    next place k = omega arith

    count : (k : ℕ) → 1 + k ≡ suc k
    count k = omega arith

pub made-zero : (byte : ℕ → ℕ) (place : ℕ) (name : List ℕ) (q : ℕ) → place + 128 ≤ q → q < place + 256 → made byte place name q ≡ 0
unfolding made
made-zero byte place name q low high =
    let rest : ℕ → ℕ = written (rest_of_name place name) byte in
    first-left (written (words_of place) rest) place name q (λ e. omega (arith, e, low)) ∙ words-zero rest place q low high

pub made-left : (byte : ℕ → ℕ) (place : ℕ) (name : List ℕ) (q : ℕ) → (q < place) ⊎ (place + 256 ≤ q) → made byte place name q ≡ byte q
unfolding made
made-left byte place name q beside =
    let rest : ℕ → ℕ = written (rest_of_name place name) byte in
    elim beside [
      | inl before ↦
          first-left (written (words_of place) rest) place name q (λ e. omega (arith, e, before))
          ∙ words-left rest place q (inl (omega (arith, before))) ∙ rest-left byte place name q (inl (omega (arith, before)))
      | inr behind ↦
          first-left (written (words_of place) rest) place name q (λ e. omega (arith, e, behind))
          ∙ words-left rest place q (inr behind) ∙ rest-left byte place name q (inr (omega (arith, behind)))
    ]

-- each of its words
pub made-word : (byte : ℕ → ℕ) (place : ℕ) (name : List ℕ) (at : ℕ) → place + 128 ≤ at → at + 4 ≤ place + 256 →
    word_at (made byte place name) at ≡ 0
made-word byte place name at low high =
    let zero_byte : ℕ → ℕ = λ q. 0 in
    same-word (made byte place name) zero_byte at (made-zero byte place name at low (omega (arith, high)))
    (made-zero byte place name (at + 1) (omega (arith, low)) (omega (arith, high)))
    (made-zero byte place name (at + 2) (omega (arith, low)) (omega (arith, high)))
    (made-zero byte place name (at + 3) (omega (arith, low)) (omega (arith, high)))
    ∙ none
  where
    none : word_at (λ q. 0) at ≡ 0
    none = refl
