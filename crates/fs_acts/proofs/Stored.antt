-- What a put leaves of the bytes and the words of a disk.
use Rattle.std.proofs.Common.{◌≡◌, ◌≢◌, ◌∙◌, ◌+◌, ◌-◌, ◌^◌, ◌<◌, ◌≤◌, ◌⊎◌, ◌&&◌, inl, inr, ℕ, Bool, true, false, List, [], ◌∷◌, ◌++◌, length}
use Rattle.std.proofs.Common.{get_or, zero, suc, refl, ap, arith, if◌then◌else◌}
use Rattle.std.specs.Prelude.{nat_le, nat_lt, slice_index}
use Rattle.std.specs.Int.{w32, to_le_bytes, from_le_bytes}
use Rattle.std.proofs.lemmas.Bool.Decides.{nat_tests}
use Rattle.std.proofs.lemmas.Nat.{from_le_bytes-to_le_bytes_4}
use Rattle.jos_base.specs.Words.{word_at}
use Rattle.jos_base.proofs.Maps.{upd-at, upd-other}
use Rattle.jos_base.specs.Below.{values_below}
use Rattle.fs_acts.specs.BlockActs.{Put, put_byte, put_word, with_bytes, stored, written}
use Rattle.fs_acts.proofs.Puts.{written-append}

-- ---- bytes

pub stored-byte : (byte : ℕ → ℕ) (place value : ℕ) → stored (put_byte place value) byte place ≡ value
unfolding stored
stored-byte byte place value = upd-at byte place value

-- A put stores at these places.
abbrev pub StoresAt : Put → ℕ → Type 0
StoresAt (put_byte place value) q = q ≡ place
StoresAt (put_word place word) q = (place ≤ q) × (q < place + 4)

-- it leaves the others as they are
abbrev pub Leaves : Put → ℕ → Type 0
Leaves (put_byte place value) q = q ≢ place
Leaves (put_word place word) q = (q < place) ⊎ (place + 4 ≤ q)

bytes-outside : (byte : ℕ → ℕ) (at : ℕ) (new : List ℕ) (q : ℕ) → (q < at) ⊎ (at + length new ≤ q) →
    with_bytes byte at new q ≡ byte q
unfolding with_bytes
bytes-outside byte at new q (inl before) =
    let is : nat_le at q ≡ false = grind (arith, nat_tests) in rw is refl
bytes-outside byte at new q (inr behind) = outside (nat_le at q)
  where
    outside : (b : Bool) → (if b && nat_lt q (at + length new) then slice_index new (q - at) else byte q) ≡ byte q
    outside true = let is : nat_lt q (at + length new) ≡ false = grind (arith, nat_tests) in rw is refl
    outside false = refl

bytes-inside : (byte : ℕ → ℕ) (at : ℕ) (new : List ℕ) (k : ℕ) → k < length new → with_bytes byte at new (at + k) ≡ get_or new k 0
unfolding with_bytes
bytes-inside byte at new k within =
    let low : nat_le at (at + k) ≡ true = grind (arith, nat_tests) in
    let high : nat_lt (at + k) (at + length new) ≡ true = grind (arith, nat_tests) in
    let place : (at + k) - at ≡ k = omega arith in
    rw (low, high) (ap (λ n. get_or new n 0) place)

pub stored-left : (put : Put) (byte : ℕ → ℕ) (q : ℕ) → Leaves put q → stored put byte q ≡ byte q
unfolding stored
stored-left (put_byte place value) byte q other = upd-other byte place value q other
stored-left (put_word place word) byte q other = bytes-outside byte place (to_le_bytes w32 word) q other

-- ---- words

pub same-word : (byte other : ℕ → ℕ) (at : ℕ) → byte at ≡ other at → byte (at + 1) ≡ other (at + 1) →
    byte (at + 2) ≡ other (at + 2) → byte (at + 3) ≡ other (at + 3) → word_at byte at ≡ word_at other at
same-word byte other at a b c d = λ i. from_le_bytes w32 (a i ∷ b i ∷ c i ∷ d i ∷ [])

-- the word that was put
pub stored-word : (byte : ℕ → ℕ) (place word : ℕ) → word < 2 ^ 32 → word_at (stored (put_word place word) byte) place ≡ word
unfolding stored
stored-word byte place word fits =
    let now : ℕ → ℕ = with_bytes byte place (to_le_bytes w32 word) in
    let plain : place ≡ place + 0 = omega arith in
    let a : now place ≡ get_or (to_le_bytes w32 word) 0 0 =
    ap now plain ∙ bytes-inside byte place (to_le_bytes w32 word) 0 (omega arith) in
    let b : now (place + 1) ≡ get_or (to_le_bytes w32 word) 1 0 = bytes-inside byte place (to_le_bytes w32 word) 1 (omega arith) in
    let c : now (place + 2) ≡ get_or (to_le_bytes w32 word) 2 0 = bytes-inside byte place (to_le_bytes w32 word) 2 (omega arith) in
    let d : now (place + 3) ≡ get_or (to_le_bytes w32 word) 3 0 = bytes-inside byte place (to_le_bytes w32 word) 3 (omega arith) in
    (λ i. from_le_bytes w32 (a i ∷ b i ∷ c i ∷ d i ∷ [])) ∙ from_le_bytes-to_le_bytes_4 word fits

-- each byte of a word that is put as 0
pub stored-zero : (byte : ℕ → ℕ) (place q : ℕ) → place ≤ q → q < place + 4 → stored (put_word place 0) byte q ≡ 0
unfolding stored
stored-zero byte place q low high =
    let at : q ≡ place + (q - place) = omega arith in
    ap (with_bytes byte place (to_le_bytes w32 0)) at ∙ bytes-inside byte place (to_le_bytes w32 0) (q - place) (omega arith)
    ∙ none (q - place) (omega arith)
  where
    none : (k : ℕ) → k < 4 → get_or (to_le_bytes w32 0) k 0 ≡ 0
    none zero lt = refl
    none (suc zero) lt = refl
    none (suc (suc zero)) lt = refl
    none (suc (suc (suc zero))) lt = refl
    none (suc (suc (suc (suc k)))) lt = absurd (omega arith)

-- a word that no byte of the put's is of
pub stored-word_left : (put : Put) (byte : ℕ → ℕ) (at : ℕ) → Leaves put at → Leaves put (at + 1) → Leaves put (at + 2) →
    Leaves put (at + 3) → word_at (stored put byte) at ≡ word_at byte at
stored-word_left put byte at a b c d =
    same-word (stored put byte) byte at (stored-left put byte at a) (stored-left put byte (at + 1) b)
    (stored-left put byte (at + 2) c) (stored-left put byte (at + 3) d)

-- ---- several puts

-- a byte that each of them leaves
pub data AllLeave (q : ℕ) : List Put → Type 0 where
  none_left : AllLeave q []
  more_left : (put : Put) (puts : List Put) → Leaves put q → AllLeave q puts → AllLeave q (put ∷ puts)

pub written-left : (q : ℕ) (puts : List Put) (byte : ℕ → ℕ) → AllLeave q puts → written puts byte q ≡ byte q
unfolding written
written-left q _ byte none_left = refl
written-left q _ byte (more_left put puts left all) = written-left q puts (stored put byte) all ∙ stored-left put byte q left

pub left-append : (q : ℕ) (first rest : List Put) → AllLeave q first → AllLeave q rest → AllLeave q (first ++ rest)
left-append q _ rest none_left later = later
left-append q _ rest (more_left put puts left all) later = more_left put (puts ++ rest) left (left-append q puts rest all later)

-- a put for each number below a count
pub written-more : (n : ℕ) (f : ℕ → Put) (byte : ℕ → ℕ) → written (values_below (suc n) f) byte ≡ stored (f n) (written (values_below n f) byte)
unfolding values_below written
written-more n f byte = written-append (values_below n f) (f n ∷ []) byte

pub left-values : (q n : ℕ) (f : ℕ → Put) → ((k : ℕ) → k < n → Leaves (f k) q) → AllLeave q (values_below n f)
unfolding values_below
left-values q zero f all = none_left
left-values q (suc n) f all =
    left-append q (values_below n f) (f n ∷ []) (left-values q n f (λ k within. all k (omega arith)))
    (more_left (f n) [] (all n (omega arith)) none_left)
