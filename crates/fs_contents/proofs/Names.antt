-- A record's name, which ends at its first NUL.
use Rattle.std.proofs.Common.{◌≡◌, ◌≢◌, ◌∙◌, ◌+◌, ◌==◌, ◌<◌, ◌≤◌, ℕ, Bool, true, false, List, length, take}
use Rattle.std.proofs.Common.{sym, ap, arith, add-zero}
use Rattle.std.specs.Prelude.{bytes_eq}
use Rattle.std.proofs.lemmas.List.Sums.{position_or_len_is}
use Rattle.std.proofs.lemmas.Bool.Decides.{nat_tests}
use Rattle.std.proofs.lemmas.Slice.Eq.{bytes_eq-Decides}
use Rattle.jos_base.specs.Below.{values_below}
use Rattle.fs_layout.specs.DiskImage.{name_of}
use Rattle.std.proofs.lemmas.Bool.{false_from_ne_true, ne_eqb, eq-eqb}
use Rattle.jos_base.proofs.Below.{length-values, get_or-values}

-- the bytes of a record from its place on
abbrev pub from : (ℕ → ℕ) → ℕ → ℕ → ℕ
from byte place k = byte (place + k)

is-nul : (a : ℕ) → (a == 0) ≡ true → a ≡ 0
is-nul a e = grind (arith, nat_tests)

-- whether a byte is a NUL
abbrev nul : ℕ → Bool
nul b = b == 0

-- The name ends at the first NUL, or with the last byte.
name-ends : (byte : ℕ → ℕ) (place k : ℕ) → k ≤ 128 → ((j : ℕ) → j < k → from byte place j ≢ 0) →
    (k < 128 → from byte place k ≡ 0) → name_of byte place ≡ take k (values_below 128 (from byte place))
unfolding name_of
name-ends byte place k le before_it at_it =
    let f : ℕ → ℕ = from byte place in
    let bytes : List ℕ = values_below 128 f in
    let long = length-values 128 f in
    ap (λ n. take n bytes)
    (position_or_len_is nul bytes k 0 (omega arith)
    (λ j below. ap nul (get_or-values 128 f j 0 (omega arith)) ∙ ne_eqb (f j) 0 (before_it j below))
    (λ within.
    let inside : k < 128 = omega arith in
    ap nul (get_or-values 128 f k 0 inside) ∙ eq-eqb (f k) 0 (at_it inside)))

-- an empty record has no name
pub filled-if-named : (byte : ℕ → ℕ) (place : ℕ) (name : List ℕ) → 0 < length name → bytes_eq (name_of byte place) name ≡ true →
    (byte place == 0) ≡ false
filled-if-named byte place name some e =
    false_from_ne_true (byte place == 0)
    (λ empty.
    let none : from byte place 0 ≡ 0 = ap byte (add-zero place) ∙ is-nul (byte place) empty in
    let is = name-ends byte place 0 (omega arith) (λ j below. absurd (omega arith)) (λ within. none) in
    let named = (bytes_eq-Decides (name_of byte place) name).0 e in
    let short : length name ≡ 0 = ap length (sym named ∙ is) in
    omega arith)
