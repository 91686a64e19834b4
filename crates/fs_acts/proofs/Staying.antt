-- Ways that lead on another disk where they led.
use Rattle.std.proofs.Common.{◌≡◌, ◌∙◌, ◌⊎◌, inl, inr, ℕ, Bool, true, false, List, [], ◌∷◌, Option, Some, None}
use Rattle.std.proofs.Common.{refl, sym, ap, subst, if◌then◌else◌}
use Rattle.fs_layout.specs.DiskImage.{is_directory_at, slot_place}
use Rattle.fs_acts.specs.BlockActs.{is_named_slot, place_from}
use Rattle.fs_acts.proofs.Named.{IsNamed, is-named}

-- What a way leads to from a record on stands where it stood, and is a directory exactly where it was one.
abbrev pub StaysFrom : (ℕ → ℕ) → (ℕ → ℕ) → ℕ → List ℕ → ℕ → Type 0
StaysFrom byte other here way place =
    (place_from other way here ≡ Some place) × (is_directory_at other place ≡ is_directory_at byte place)

abbrev pub AllFrom : (ℕ → ℕ) → (ℕ → ℕ) → ℕ → Type 0
AllFrom byte other here = (way : List ℕ) (place : ℕ) → place_from byte way here ≡ Some place → StaysFrom byte other here way place

-- but for the ways that are told
abbrev pub AllBut : (List ℕ → Type 0) → (ℕ → ℕ) → (ℕ → ℕ) → ℕ → Type 0
AllBut Told byte other here =
    (way : List ℕ) (place : ℕ) → place_from byte way here ≡ Some place → StaysFrom byte other here way place ⊎ Told way

-- by what stays below each slot
pub slot-stays : (byte other : ℕ → ℕ) (here i : ℕ) (way : List ℕ) (place : ℕ) → is_named_slot other here i ≡ true →
    slot_place byte here i ≡ slot_place other here i → StaysFrom byte other (slot_place byte here i) way place →
    StaysFrom byte other here (i ∷ way) place
unfolding place_from
slot-stays byte other here i way place named at stays = (
  ap (λ (b : Bool). if b then place_from other way (slot_place other here i) else None) named
      ∙ subst (λ p. place_from other way p ≡ Some place) at stays.0,
  stays.1,
)

pub all-but : (byte other : ℕ → ℕ) (here : ℕ) (Told : List ℕ → Type 0) → is_directory_at other here ≡ is_directory_at byte here →
    ((i : ℕ) → IsNamed byte here i → (way : List ℕ) (place : ℕ) → place_from byte way (slot_place byte here i) ≡ Some place →
    StaysFrom byte other here (i ∷ way) place ⊎ Told (i ∷ way)) →
    AllBut Told byte other here
unfolding place_from
all-but byte other here Told kind below [] place leads =
    let same : here ≡ place = some-same here place leads in
    inl (leads, subst (λ p. is_directory_at other p ≡ is_directory_at byte p) same kind)
  where
    some-same : (a b : ℕ) → ◌≡◌ {A = Option ℕ} (Some a) (Some b) → a ≡ b
    some-same a b e = cc
all-but byte other here Told kind below (i ∷ way) place leads = by_test (is_named_slot byte here i) refl leads
  where
    none-some : {X : Type 0} (p : ℕ) → ◌≡◌ {A = Option ℕ} None (Some p) → X
    none-some p e = absurd (cc)

    by_test : (b : Bool) → is_named_slot byte here i ≡ b →
        (if b then place_from byte way (slot_place byte here i) else None) ≡ Some place →
        StaysFrom byte other here (i ∷ way) place ⊎ Told (i ∷ way)
    by_test true named e = below i (is-named byte here i named) way place e
    by_test false named e = none-some place e

pub all-from : (byte other : ℕ → ℕ) (here : ℕ) → is_directory_at other here ≡ is_directory_at byte here →
    ((i : ℕ) → IsNamed byte here i → (way : List ℕ) (place : ℕ) → place_from byte way (slot_place byte here i) ≡ Some place →
    StaysFrom byte other here (i ∷ way) place) →
    AllFrom byte other here
all-from byte other here kind below way place leads =
    elim (all-but byte other here (λ at. ⊥) kind (λ i named onward end e. inl (below i named onward end e)) way place leads) [
      | inl stays ↦ stays
      | inr none ↦ absurd none
    ]

-- a file stays, and no way leads on from it
pub file-stays : (byte other : ℕ → ℕ) (here : ℕ) → is_directory_at byte here ≡ false → is_directory_at other here ≡ false →
    AllFrom byte other here
file-stays byte other here was is =
    all-from byte other here (is ∙ sym was)
    (λ i named way place leads. let clash : true ≡ false = sym named.is ∙ was in absurd (cc))
