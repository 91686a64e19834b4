-- A record's name, which ends at its first NUL.
use Rattle.std.proofs.Common.{◌≡◌, ◌≢◌, ◌∙◌, ◌+◌, ◌==◌, ◌<◌, ◌≤◌, ℕ, Bool, true, false, List, [], ◌∷◌, length, take, get_or}
use Rattle.std.proofs.Common.{sym, ap, arith, add-zero}
use Rattle.std.specs.Prelude.{bytes_eq}
use Rattle.std.specs.List.{before_first, position_or_len}
use Rattle.std.proofs.lemmas.List.Sums.{position_or_len_is}
use Rattle.std.proofs.lemmas.List.{length-take, get_or-take}
use Rattle.std.proofs.lemmas.Bool.Decides.{nat_tests}
use Rattle.std.proofs.lemmas.Slice.Eq.{bytes_eq-Decides}
use Rattle.jos_base.specs.Below.{values_below}
use Rattle.fs_layout.specs.DiskImage.{name_of}
use Rattle.std.proofs.lemmas.Bool.{false_from_ne_true, ne_eqb, eq-eqb}
use Rattle.jos_base.proofs.Below.{is-values, length-values, get_or-values}

-- the bytes of a record from its place on
abbrev pub from : (ℕ → ℕ) → ℕ → ℕ → ℕ
from byte place k = byte (place + k)

is-nul : (a : ℕ) → (a == 0) ≡ true → a ≡ 0
is-nul a e = grind (arith, nat_tests)

-- whether a byte is a NUL
abbrev nul : ℕ → Bool
nul b = b == 0

-- The name ends at the first NUL, or with the last byte.
pub name-ends : (byte : ℕ → ℕ) (place k : ℕ) → k ≤ 128 → ((j : ℕ) → j < k → from byte place j ≢ 0) →
    (k < 128 → from byte place k ≡ 0) → name_of byte place ≡ take k (values_below 128 (from byte place))
unfolding name_of
name-ends byte place k le before_it at_it =
    let f : ℕ → ℕ = from byte place in
    let bytes : List ℕ = values_below 128 f in
    let long = length-values 128 f in
    ap (λ n. take n bytes)
    (position_or_len_is nul bytes k 0 (omega arith)
    (λ j below. ap nul (get_or-values 128 f j 0 (omega arith)) ∙ ne_eqb (f j) 0 (before_it j below))
    (λ within.
    let inside : k < 128 = omega arith in
    ap nul (get_or-values 128 f k 0 inside) ∙ eq-eqb (f k) 0 (at_it inside)))

-- a name that stands there, with a NUL behind it
pub name-stands : (byte : ℕ → ℕ) (place : ℕ) (name : List ℕ) → length name < 128 →
    ((j : ℕ) → j < length name → get_or name j 0 ≢ 0) → ((j : ℕ) → j < length name → from byte place j ≡ get_or name j 0) →
    from byte place (length name) ≡ 0 → name_of byte place ≡ name
name-stands byte place name short some stands behind =
    let f : ℕ → ℕ = from byte place in
    let n : ℕ = length name in
    let bytes : List ℕ = values_below 128 f in
    let long = length-values 128 f in
    let part : length (take n bytes) ≡ n = let cut = length-take n bytes in omega (arith, cut, long, short) in
    name-ends byte place n (omega (arith, short)) (λ j below e. some j below (sym (stands j below) ∙ e)) (λ within. behind)
    ∙ is-values (take n bytes) n f 0 part
    (λ j below. get_or-take n bytes j 0 below ∙ get_or-values 128 f j 0 (omega (arith, short, below)))
    ∙ sym (is-values name n f 0 (plain n) (λ j below. sym (stands j below)))
  where
    plain : (n : ℕ) → n ≡ n
    plain n = omega arith

-- an empty record has no name
pub filled-if-named : (byte : ℕ → ℕ) (place : ℕ) (name : List ℕ) → 0 < length name → bytes_eq (name_of byte place) name ≡ true →
    (byte place == 0) ≡ false
filled-if-named byte place name some e =
    false_from_ne_true (byte place == 0)
    (λ empty.
    let none : from byte place 0 ≡ 0 = ap byte (add-zero place) ∙ is-nul (byte place) empty in
    let is = name-ends byte place 0 (omega arith) (λ j below. absurd (omega arith)) (λ within. none) in
    let named = (bytes_eq-Decides (name_of byte place) name).0 e in
    let short : length name ≡ 0 = ap length (sym named ∙ is) in
    omega arith)

clash : (b : Bool) → b ≡ true → b ≡ false → ⊥
clash true is no_more = cc
clash false is no_more = cc

-- so it has the name of none that is not empty
pub empty-unlike : (byte : ℕ → ℕ) (place : ℕ) (name : List ℕ) → (byte place == 0) ≡ true → 0 < length name →
    bytes_eq (name_of byte place) name ≡ false
empty-unlike byte place name empty some =
    false_from_ne_true (bytes_eq (name_of byte place) name)
    (λ e. clash (byte place == 0) empty (filled-if-named byte place name some e))

first-some : (bytes : List ℕ) → length bytes ≡ 128 → (get_or bytes 0 0 == 0) ≡ false → 0 < length (before_first (λ b. b == 0) bytes)
first-some [] long first = absurd (omega (arith, long))
first-some (b ∷ rest) long first =
    let n : ℕ = position_or_len (λ a. a == 0) (b ∷ rest) in
    let cut = length-take n (b ∷ rest) in
    let some : 0 < n = rw first (omega arith) in
    omega (arith, cut, some, long)

-- and one that is not has a name
pub filled-name : (byte : ℕ → ℕ) (place : ℕ) → (byte place == 0) ≡ false → 0 < length (name_of byte place)
unfolding name_of
filled-name byte place filled =
    let f : ℕ → ℕ = from byte place in
    let bytes : List ℕ = values_below 128 f in
    first-some bytes (length-values 128 f) (ap nul (get_or-values 128 f 0 0 (omega arith)) ∙ ap (λ p. nul (byte p)) (plain place) ∙ filled)
  where
    plain : (n : ℕ) → n + 0 ≡ n
    plain n = omega arith
