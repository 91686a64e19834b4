-- A record's name, byte by byte.
use Rattle.std.proofs.Common.{◌≡◌, ℕ, zero, suc, ◌+◌, ◌≢◌, true, false, cond, List, [], ◌∷◌, ◌++◌, length, get_or, drop, ◌-◌, ◌<◌, refl, sym, ◌∙◌, ap, arith, inl, inr, add-one, add-zero, take}
use Rattle.std.specs.Prelude.{◌==◌, not, slice_index, if◌then◌else◌}
use Rattle.std.specs.List.{before_first, prefix_len}
use Rattle.std.proofs.lemmas.List.{append-nil, append_assoc, take_more, get_or-drop, get_or_past, length-drop}
use Rattle.std.proofs.lemmas.Bool.Decides.{leb_tells}
use Rattle.jos_base.specs.Below.{values_below}
use Rattle.fs_layout.specs.DiskImage.{name_of}
use Rattle.std.proofs.lemmas.Bool.{ne_eqb}

-- the bytes before the NUL, among so many from a place on
unfoldable pub name_from : (ℕ → ℕ) → ℕ → ℕ → List ℕ
name_from f i zero = []
name_from f i (suc n) = if f i == 0 then [] else f i ∷ name_from f (suc i) n

values_first : (n : ℕ) (f : ℕ → ℕ) → values_below (suc n) f ≡ f 0 ∷ values_below n (λ k. f (suc k))
unfolding values_below
values_first zero f = refl
values_first (suc n) f = ap (λ l. l ++ f (suc n) ∷ []) (values_first n f)

take_next : (x p : ℕ) (xs : List ℕ) → take (1 + p) (x ∷ xs) ≡ x ∷ take p xs
take_next x p xs = let e : 1 + p ≡ suc p = omega arith in ap (λ k. take k (x ∷ xs)) e

before_next : (x : ℕ) (xs : List ℕ) → before_first (λ b. b == 0) (x ∷ xs) ≡ (if x == 0 then [] else x ∷ before_first (λ b. b == 0) xs)
before_next x xs = elim (x == 0) as (λ t. take (cond (not t) (1 + prefix_len (λ y. not (y == 0)) xs) 0) (x ∷ xs) ≡ (if t then [] else x ∷ before_first (λ b. b == 0) xs)) [ true ↦ refl | false ↦ take_next x (prefix_len (λ y. not (y == 0)) xs) xs ]

same_values : (n : ℕ) (f g : ℕ → ℕ) → ((k : ℕ) → f k ≡ g k) → values_below n f ≡ values_below n g
same_values n f g h = ap (values_below n) (λ i. λ k. h k i)

moved : (i k : ℕ) → i + suc k ≡ suc i + k
moved i k = omega arith

named_from : (n i : ℕ) (f : ℕ → ℕ) → before_first (λ b. b == 0) (values_below n (λ k. f (i + k))) ≡ name_from f i n
unfolding name_from values_below
named_from zero i f = refl
named_from (suc n) i f =
    ap (before_first (λ b. b == 0)) (values_first n (λ k. f (i + k)))
    ∙ before_next (f (i + 0)) (values_below n (λ k. f (i + suc k)))
    ∙ ap (λ x. if x == 0 then [] else x ∷ before_first (λ b. b == 0) (values_below n (λ k. f (i + suc k)))) (ap f (add-zero i))
    ∙ ap (λ r. if f i == 0 then [] else f i ∷ r) (ap (before_first (λ b. b == 0)) (same_values n (λ k. f (i + suc k)) (λ k. f (suc i + k)) (λ k. ap f (moved i k))) ∙ named_from n (suc i) f)

from_none : (k : ℕ) → 0 + k ≡ k
from_none k = omega arith

pub name_is : (byte : ℕ → ℕ) (place : ℕ) → name_of byte place ≡ name_from (λ k. byte (place + k)) 0 128
unfolding name_of
name_is byte place =
    ap (before_first (λ b. b == 0)) (same_values 128 (λ k. byte (place + k)) (λ k. byte (place + (0 + k))) (λ k. ap (λ m. byte (place + m)) (sym (from_none k))))
    ∙ named_from 128 0 (λ k. byte (place + k))

-- ---- the bytes of a name among those of an image

-- so many of its bytes are there, and so many are to come
abbrev pub IsNamedBy : List ℕ → ℕ → ℕ → Type 0
IsNamedBy bytes place k =
    (n : ℕ) → k + n ≡ 128 → name_of (slice_index bytes) place
    ≡ take k (drop place bytes) ++ name_from (λ i. slice_index bytes (place + i)) k n

pub named_none : (bytes : List ℕ) (place : ℕ) → IsNamedBy bytes place 0
named_none bytes place = λ n e.
    name_is (slice_index bytes) place
    ∙ ap (λ m. name_from (λ i. slice_index bytes (place + i)) 0 m) (sym (sym (from_none n) ∙ e))

pub named_more : (bytes : List ℕ) (place k : ℕ) → IsNamedBy bytes place k → slice_index bytes (place + k) ≢ 0 → place + k < length bytes → IsNamedBy bytes place (k + 1)
unfolding name_from
named_more bytes place k named ne within = λ n e.
    let left : k + suc n ≡ 128 = omega (arith, e) in
    let more : k < length (drop place bytes) = omega (arith, length-drop place bytes) in
    let here : get_or (drop place bytes) k 0 ≡ slice_index bytes (place + k) = get_or-drop place bytes k 0 in
    named (suc n) left
    ∙ ap (λ l. take k (drop place bytes) ++ l) (rw (ne_eqb (slice_index bytes (place + k)) 0 ne, add-one) refl)
    ∙ sym (append_assoc (take k (drop place bytes)) (slice_index bytes (place + k) ∷ []) (name_from (λ i. slice_index bytes (place + i)) (k + 1) n))
    ∙ ap (λ x. (take k (drop place bytes) ++ x ∷ []) ++ name_from (λ i. slice_index bytes (place + i)) (k + 1) n) (sym here)
    ∙ ap (λ l. l ++ name_from (λ i. slice_index bytes (place + i)) (k + 1) n) (sym (take_more (drop place bytes) k 0 more))

pub named_nul : (bytes : List ℕ) (place k : ℕ) → IsNamedBy bytes place k → slice_index bytes (place + k) ≡ 0 → k < 128 → take k (drop place bytes) ≡ name_of (slice_index bytes) place
unfolding name_from
named_nul bytes place k named e few =
    let left : k + suc (127 - k) ≡ 128 = omega arith in
    sym
    (named (suc (127 - k)) left
    ∙ ap (λ l. take k (drop place bytes) ++ l) (rw e refl)
    ∙ append-nil (take k (drop place bytes)))

pub named_all : (bytes : List ℕ) (place k : ℕ) → IsNamedBy bytes place k → k ≡ 128 → take 128 (drop place bytes) ≡ name_of (slice_index bytes) place
unfolding name_from
named_all bytes place k named e =
    let left : k + 0 ≡ 128 = omega arith in
    ap (λ m. take m (drop place bytes)) (sym e)
    ∙ sym (named 0 left ∙ append-nil (take k (drop place bytes)))

-- a byte that is not 0 stands within
pub within_bytes : (bytes : List ℕ) (at : ℕ) → slice_index bytes at ≢ 0 → at < length bytes
within_bytes bytes at ne = elim (leb_tells (length bytes) at) [
  | inl past ↦ absurd (ne (get_or_past bytes at 0 past.1))
  | inr within ↦ within.1
]

-- ---- names that are empty

pub empty_name : (byte : ℕ → ℕ) (place : ℕ) → byte place ≡ 0 → name_of byte place ≡ []
unfolding name_from
empty_name byte place e =
    let first : byte (place + 0) ≡ 0 = ap byte (add-zero place) ∙ e in
    name_is byte place ∙ rw first refl

pub full_name : (byte : ℕ → ℕ) (place : ℕ) → byte place ≢ 0 → name_of byte place ≢ []
unfolding name_from
full_name byte place ne e =
    let first : byte (place + 0) ≢ 0 = λ z. ne (ap byte (sym (add-zero place)) ∙ z) in
    let is_full : name_of byte place ≡ byte (place + 0) ∷ name_from (λ k. byte (place + k)) 1 127 = name_is byte place ∙ rw (ne_eqb (byte (place + 0)) 0 first) refl in
    absurd (cc)
