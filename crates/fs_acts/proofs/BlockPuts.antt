-- What single puts leave of a disk: a word, a byte, and a block of zeros.
use Rattle.std.proofs.Common.{◌≡◌, ◌≢◌, ◌∙◌, ◌⊎◌, inl, inr, ℕ, ◌+◌, ◌*◌, ◌^◌, ◌<◌, ◌≤◌, zero, suc, List, [], ◌∷◌}
use Rattle.std.proofs.Common.{refl, sym, ap, arith}
use Rattle.jos_base.specs.Words.{word_at}
use Rattle.jos_base.specs.Below.{values_below}
use Rattle.fs_acts.specs.BlockActs.{Put, put_byte, put_word, stored, written, zero_block}
use Rattle.fs_acts.proofs.Stored.{stored-byte, stored-word, stored-zero, stored-left, written-more}

pub below_or_past : (a b : ℕ) → (a < b) ⊎ (b ≤ a)
below_or_past zero zero = inr (omega arith)
below_or_past zero (suc b) = inl (omega arith)
below_or_past (suc a) zero = inr (omega arith)
below_or_past (suc a) (suc b) = elim (below_or_past a b) [ inl lt ↦ inl (omega (arith, lt)) | inr le ↦ inr (omega (arith, le)) ]

-- a place outside of so many bytes from another on
abbrev pub Beyond : ℕ → ℕ → ℕ → Type 0
Beyond n from q = (q < from) ⊎ (from + n ≤ q)

pub record WordPut (byte other : ℕ → ℕ) (place word : ℕ) : Type 0 where
  pub kept : (q : ℕ) → Beyond 4 place q → byte q ≡ other q
  pub now : word_at other place ≡ word

pub word-put : (byte : ℕ → ℕ) (place word : ℕ) → word < 2 ^ 32 → WordPut byte (stored (put_word place word) byte) place word
word-put byte place word fits = record {
  kept = λ q beyond. sym (stored-left (put_word place word) byte q beyond);
  now = stored-word byte place word fits;
}

pub record BytePut (byte other : ℕ → ℕ) (place value : ℕ) : Type 0 where
  pub kept : (q : ℕ) → q ≢ place → byte q ≡ other q
  pub now : other place ≡ value

pub byte-put : (byte : ℕ → ℕ) (place value : ℕ) → BytePut byte (stored (put_byte place value) byte) place value
byte-put byte place value = record {
  kept = λ q ne. sym (stored-left (put_byte place value) byte q ne);
  now = stored-byte byte place value;
}

pub record ZerosPut (byte other : ℕ → ℕ) (from n : ℕ) : Type 0 where
  pub kept : (q : ℕ) → Beyond n from q → byte q ≡ other q
  pub now : (q : ℕ) → from ≤ q → q < from + n → other q ≡ 0

zeros-put : (byte : ℕ → ℕ) (from n : ℕ) →
    ZerosPut byte (written (values_below n (λ k. put_word (from + 4 * k) 0)) byte) from (4 * n)
unfolding values_below written
zeros-put byte from zero = record { kept = λ q beyond. refl; now = λ q low high. absurd (omega (arith, low, high)) }
zeros-put byte from (suc n) =
    let put : ℕ → Put = λ k. put_word (from + 4 * k) 0 in
    let before : ℕ → ℕ = written (values_below n put) byte in
    let rest = zeros-put byte from n in
    let more = written-more n put byte in
    record {
      kept = λ q beyond.
          rest.kept q (inner q n beyond) ∙ sym (stored-left (put n) before q (last q n beyond)) ∙ ap (λ (f : ℕ → ℕ). f q) (sym more);
      now = λ q low high.
          ap (λ (f : ℕ → ℕ). f q) more
          ∙ elim (below_or_past q (from + 4 * n)) [
            | inl inside ↦ stored-left (put n) before q (inl inside) ∙ rest.now q low (omega (arith, inside))
            | inr here ↦ stored-zero before (from + 4 * n) q here (omega (arith, high))
          ];
    }
  where
    inner : (q n : ℕ) → Beyond (4 * suc n) from q → Beyond (4 * n) from q
    inner q n (inl low) = inl low
    inner q n (inr high) = inr (omega (arith, high))

    last : (q n : ℕ) → Beyond (4 * suc n) from q → Beyond 4 (from + 4 * n) q
    last q n (inl low) = inl (omega (arith, low))
    last q n (inr high) = inr (omega (arith, high))

pub zero-block : (byte : ℕ → ℕ) (block : ℕ) → ZerosPut byte (written (zero_block block) byte) (4096 * block) 4096
unfolding zero_block
zero-block byte block = zeros-put byte (4096 * block) 1024

-- a put, and several, and others behind them
pub written-one : (put : Put) (rest : List Put) (byte : ℕ → ℕ) → written (put ∷ rest) byte ≡ written rest (stored put byte)
unfolding written
written-one put rest byte = refl

pub written-last : (put : Put) (byte : ℕ → ℕ) → written (put ∷ []) byte ≡ stored put byte
unfolding written
written-last put byte = refl
