-- Sixteen bytes and the two numbers that they are.
use Rattle.std.proofs.Common.{◌≡◌, ℕ, ◌+◌, ◌<◌, ◌≤◌, zero, suc, List, [], ◌∷◌, ◌++◌, length, take, drop, get_or, refl}
use Rattle.std.proofs.Common.{ap, sym, ◌∙◌, arith}
use Rattle.std.specs.Int.{w64, from_le_bytes, to_le_bytes}
use Rattle.std.proofs.Math.Seq.{drop-cons}
use Rattle.std.proofs.lemmas.Nat.{le_bytes_8}
use Rattle.jos_isa.specs.declared.decoder.Decoded.{Decoded}
use Rattle.jos_isa.specs.Decoding.{decoded}

-- so many from a place on
abbrev from : List ℕ → ℕ → ℕ → List ℕ
from xs k zero = []
from xs k (suc n) = get_or xs k 0 ∷ from xs (suc k) n

from_taken : (xs : List ℕ) (k n : ℕ) → k + n ≤ length xs → from xs k n ≡ take n (drop k xs)
from_taken xs k zero h = refl
from_taken xs k (suc n) h =
    let d : drop k xs ≡ get_or xs k 0 ∷ drop (suc k) xs = drop-cons xs k 0 (omega arith) in
    rw d (ap (λ (l : List ℕ). get_or xs k 0 ∷ l) (from_taken xs (suc k) n (omega arith)))

bytes_at : (xs : List ℕ) (k : ℕ) → ((i : ℕ) → get_or xs i 0 < 256) → (n i : ℕ) → get_or (from xs k n) i 0 < 256
bytes_at xs k h zero i = omega arith
bytes_at xs k h (suc n) zero = h k
bytes_at xs k h (suc n) (suc i) = bytes_at xs (suc k) h n i

pub sixteen : (xs : List ℕ) (front back : ℕ) → 16 ≤ length xs → ((i : ℕ) → get_or xs i 0 < 256) →
    front ≡ from_le_bytes w64 (from xs 0 8) → back ≡ from_le_bytes w64 (from xs 8 8) →
    to_le_bytes w64 front ++ to_le_bytes w64 back ≡ take 16 xs
sixteen xs front back long fits f b =
    (λ i. le_bytes_8 (from xs 0 8) front refl (bytes_at xs 0 fits 8) f i ++ le_bytes_8 (from xs 8 8) back refl (bytes_at xs 8 fits 8) b i)
    ∙ from_taken xs 0 16 long

pub known : (xs : List ℕ) (front back : ℕ) {d : Decoded} → 16 ≤ length xs → ((i : ℕ) → get_or xs i 0 < 256) →
    front ≡ from_le_bytes w64 (from xs 0 8) → back ≡ from_le_bytes w64 (from xs 8 8) →
    (kept_front kept_back : ℕ) → kept_front ≡ front → kept_back ≡ back →
    decoded (to_le_bytes w64 kept_front ++ to_le_bytes w64 kept_back) ≡ d → decoded (take 16 xs) ≡ d
known xs front back long fits f b kf kb ef eb h =
    ap decoded (sym (sixteen xs front back long fits f b) ∙ (λ i. to_le_bytes w64 (sym ef i) ++ to_le_bytes w64 (sym eb i))) ∙ h

pub learned : (xs : List ℕ) (front back : ℕ) {d : Decoded} → 16 ≤ length xs → ((i : ℕ) → get_or xs i 0 < 256) →
    front ≡ from_le_bytes w64 (from xs 0 8) → back ≡ from_le_bytes w64 (from xs 8 8) →
    d ≡ decoded (from xs 0 16) → decoded (to_le_bytes w64 front ++ to_le_bytes w64 back) ≡ d
learned xs front back long fits f b h =
    ap decoded (sixteen xs front back long fits f b ∙ sym (from_taken xs 0 16 long)) ∙ sym h
