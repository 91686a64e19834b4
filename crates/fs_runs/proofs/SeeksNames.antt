-- A record's name against a name: by the bytes where they stand.
use Rattle.std.proofs.Common.{◌≡◌, ◌≢◌, ◌∙◌, ◌+◌, ◌<◌, ◌==◌, ℕ, Bool, true, false, not, List, length, take, get_or}
use Rattle.std.proofs.Common.{sym, ap, arith}
use Rattle.std.specs.Prelude.{bytes_eq}
use Rattle.std.specs.List.{position_or_len, list_any}
use Rattle.std.proofs.lemmas.List.Sums.{passes_at_first, prefix_len-le-length}
use Rattle.std.proofs.lemmas.List.{length-take, get_or-take}
use Rattle.std.proofs.lemmas.List.Folds.{list_any_at}
use Rattle.std.proofs.lemmas.Bool.{false_from_ne_true, both_ways, eqb-true}
use Rattle.std.proofs.lemmas.Slice.Eq.{bytes_eq-Decides}
use Rattle.jos_base.specs.Below.{values_below}
use Rattle.jos_base.proofs.Below.{length-values, get_or-values}
use Rattle.fs_layout.specs.DiskImage.{name_of}
use Rattle.fs_acts.proofs.SlotNames.{from, name-stands}

-- no element of a list passes
pub none-passes : (p : ℕ → Bool) (xs : List ℕ) (i : ℕ) → list_any p xs ≡ false → i < length xs → p (get_or xs i 0) ≡ false
none-passes p xs i none within =
    false_from_ne_true (p (get_or xs i 0)) (λ is. both_ways (list_any p xs) none (list_any_at p xs i 0 within is))

abbrev nul : ℕ → Bool
nul b = b == 0

-- the record has a name that is short: its bytes are there, and a NUL behind them
pub record HasBytes (byte : ℕ → ℕ) (place : ℕ) (name : List ℕ) : Type 0 where
  pub bytes : (k : ℕ) → k < length name → byte (place + k) ≡ get_or name k 0
  pub ends : byte (place + length name) ≡ 0

pub name-bytes : (byte : ℕ → ℕ) (place : ℕ) (name : List ℕ) → length name < 128 → name_of byte place ≡ name → HasBytes byte place name
unfolding name_of
name-bytes byte place name short e =
    let f : ℕ → ℕ = from byte place in
    let all : List ℕ = values_below 128 f in
    let long = length-values 128 f in
    let n : ℕ = position_or_len nul all in
    let le = prefix_len-le-length (λ b. not (nul b)) all in
    let cut = length-take n all in
    let same : n ≡ length name = let whole : length (take n all) ≡ length name = ap length e in omega (arith, cut, whole, long, short, le) in
    let within : n < length all = omega (arith, same, short, long) in
    record {
      bytes = λ k below.
          let first : k < n = omega (arith, same, below) in
          sym (get_or-values 128 f k 0 (omega (arith, below, short))) ∙ sym (get_or-take n all k 0 first) ∙ ap (λ xs. get_or xs k 0) e;
      ends =
          ap f (sym same) ∙ sym (get_or-values 128 f n 0 (omega (arith, within, long)))
          ∙ eqb-true (get_or all n 0) 0 (passes_at_first nul all 0 within);
    }

-- the names are the same where the bytes are, and a NUL stands behind them
pub names-same : (byte : ℕ → ℕ) (place : ℕ) (name : List ℕ) → length name < 128 → ((k : ℕ) → k < length name → get_or name k 0 ≢ 0) →
    HasBytes byte place name → bytes_eq (name_of byte place) name ≡ true
names-same byte place name short some has =
    (bytes_eq-Decides (name_of byte place) name).1 (name-stands byte place name short some has.bytes has.ends)

-- and otherwise they differ
pub names-differ : (byte : ℕ → ℕ) (place : ℕ) (name : List ℕ) → length name < 128 → (HasBytes byte place name → ⊥) →
    bytes_eq (name_of byte place) name ≡ false
names-differ byte place name short other =
    false_from_ne_true (bytes_eq (name_of byte place) name)
    (λ is. other (name-bytes byte place name short ((bytes_eq-Decides (name_of byte place) name).0 is)))
