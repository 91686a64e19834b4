-- The first record of a directory that passes a test, and the first that is empty of those that were looked at.
use Rattle.std.proofs.Common.{◌≡◌, ◌∙◌, ◌+◌, ◌<◌, ◌≤◌, ◌==◌, inl, inr, ℕ, Bool, true, false, length, Option, Some, None}
use Rattle.std.proofs.Common.{refl, ap, arith}
use Rattle.std.specs.Prelude.{◌^◌, unwrap_or, nat_lt, if◌then◌else◌}
use Rattle.std.proofs.lemmas.Bool.{cases_eq}
use Rattle.std.specs.List.{position_or_len}
use Rattle.std.proofs.lemmas.List.Sums.{position_or_len_is}
use Rattle.std.proofs.lemmas.Bool.Decides.{nat_tests}
use Rattle.jos_base.specs.Below.{values_below}
use Rattle.jos_base.proofs.Below.{length-values, get_or-values}
use Rattle.fs_layout.specs.DiskImage.{is_empty_record, slot_count, slot_place}
use Rattle.fs_acts.specs.BlockActs.{first_slot}
use Rattle.fs_jobs.specs.declared.place.TheConstants.{NONE}

-- ---- the first that passes

first-position : (passes : ℕ → Bool) (n i : ℕ) (f : ℕ → ℕ) → i ≤ n → (i < n → passes (f i) ≡ true) →
    ((k : ℕ) → k < i → passes (f k) ≡ false) → position_or_len passes (values_below n f) ≡ i
first-position passes n i f le here before =
    let long = length-values n f in
    position_or_len_is passes (values_below n f) i 0 (omega (arith, long, le))
    (λ k below. ap passes (get_or-values n f k 0 (omega (arith, below, le))) ∙ before k below)
    (λ within. let inside : i < n = omega (arith, within, long) in ap passes (get_or-values n f i 0 inside) ∙ here inside)

some-at : (at n long : ℕ) → long ≡ n → (i : ℕ) → at ≡ i → i < n → (if nat_lt at long then Some at else None) ≡ Some i
some-at at n long e i is within =
    let below : nat_lt i n ≡ true = grind (arith, nat_tests) in rw (is, e, below) refl

none-at : (at n long : ℕ) → long ≡ n → at ≡ n → ◌≡◌ {A = Option ℕ} (if nat_lt at long then Some at else None) None
none-at at n long e is =
    let not_below : nat_lt n n ≡ false = grind (arith, nat_tests) in rw (is, e, not_below) refl

pub first-found : (byte : ℕ → ℕ) (directory : ℕ) (passes : ℕ → Bool) (i : ℕ) → i < slot_count byte directory →
    passes (slot_place byte directory i) ≡ true → ((k : ℕ) → k < i → passes (slot_place byte directory k) ≡ false) →
    first_slot byte directory passes ≡ Some i
unfolding first_slot
first-found byte directory passes i within here before =
    let n : ℕ = slot_count byte directory in
    let f : ℕ → ℕ = slot_place byte directory in
    some-at (position_or_len passes (values_below n f)) n (length (values_below n f)) (length-values n f) i
    (first-position passes n i f (omega (arith, within)) (λ w. here) before) within

pub first-none : (byte : ℕ → ℕ) (directory : ℕ) (passes : ℕ → Bool) →
    ((k : ℕ) → k < slot_count byte directory → passes (slot_place byte directory k) ≡ false) → first_slot byte directory passes ≡ None
unfolding first_slot
first-none byte directory passes each =
    let n : ℕ = slot_count byte directory in
    let f : ℕ → ℕ = slot_place byte directory in
    none-at (position_or_len passes (values_below n f)) n (length (values_below n f)) (length-values n f)
    (first-position passes n n f (omega arith) (λ w. absurd (omega (arith, w))) each)

-- ---- the first that is empty

-- of the records before one there is none, or this is the first
pub data EmptySoFar (byte : ℕ → ℕ) (directory i : ℕ) : ℕ → Type 0 where
  none_yet : ((k : ℕ) → k < i → is_empty_record byte (slot_place byte directory k) ≡ false) → EmptySoFar byte directory i NONE
  first_at : (e : ℕ) → e < i → is_empty_record byte (slot_place byte directory e) ≡ true →
      ((k : ℕ) → k < e → is_empty_record byte (slot_place byte directory k) ≡ false) → EmptySoFar byte directory i e

abbrev pub empty_behind : ℕ → ℕ → ℕ
empty_behind e i = if e == NONE then i else e

pub none-first : (byte : ℕ → ℕ) (directory : ℕ) → EmptySoFar byte directory 0 NONE
none-first byte directory = none_yet (λ k below. absurd (omega (arith, below)))

below-or-last : (passes : ℕ → Bool) (i : ℕ) → ((k : ℕ) → k < i → passes k ≡ false) → passes i ≡ false → (k : ℕ) → k < i + 1 → passes k ≡ false
below-or-last passes i before here k below = elim (cases_eq k i) [
  | inl same ↦ ap passes same ∙ here
  | inr other ↦ before k (omega (arith, below, other))
]

-- the record at hand is not empty
pub filled-next : (byte : ℕ → ℕ) (directory i e : ℕ) → is_empty_record byte (slot_place byte directory i) ≡ false → EmptySoFar byte directory i e →
    EmptySoFar byte directory (i + 1) e
filled-next byte directory i _ filled (none_yet each) =
    none_yet (below-or-last (λ k. is_empty_record byte (slot_place byte directory k)) i each filled)
filled-next byte directory i _ filled (first_at e below is before) = first_at e (omega (arith, below)) is before

-- the record at hand is empty
pub empty-next : (byte : ℕ → ℕ) (directory i e : ℕ) → i < 2 ^ 20 → is_empty_record byte (slot_place byte directory i) ≡ true →
    EmptySoFar byte directory i e → EmptySoFar byte directory (i + 1) (empty_behind e i)
empty-next byte directory i _ few is (none_yet each) = first_at i (omega arith) is each
empty-next byte directory i _ few is (first_at e below there before) =
    let other : (e == NONE) ≡ false = grind (arith, nat_tests) in
    rw other (first_at e (omega (arith, below)) there before)

-- behind the last record that is the first of all
pub first-empty : (byte : ℕ → ℕ) (directory e : ℕ) → EmptySoFar byte directory (slot_count byte directory) e →
    unwrap_or (first_slot byte directory (is_empty_record byte)) NONE ≡ e
first-empty byte directory _ (none_yet each) = ap (λ (o : Option ℕ). unwrap_or o NONE) (first-none byte directory (is_empty_record byte) each)
first-empty byte directory _ (first_at e below is before) =
    ap (λ (o : Option ℕ). unwrap_or o NONE) (first-found byte directory (is_empty_record byte) e below is before)
