-- No name is longer than 127 bytes: none of a path that was read to its end, and none of a record of a disk without a fault.
use Rattle.std.proofs.Common.{◌≡◌, ◌∙◌, ◌<◌, ◌≤◌, ◌+◌, ◌-◌, ℕ, zero, suc, Bool, true, false, not, List, [], ◌∷◌}
use Rattle.std.proofs.Common.{refl, sym, ap, subst, arith, length, get_or}
use Rattle.std.specs.Prelude.{◌==◌, ◌||◌, cond, nat_lt, take, if◌then◌else◌}
use Rattle.std.specs.List.{before_first, prefix_len}
use Rattle.std.proofs.lemmas.Bool.{and_parts}
use Rattle.std.proofs.lemmas.Bool.Decides.{nat_tests}
use Rattle.jos_base.specs.Below.{values_below}
use Rattle.jos_base.proofs.Below.{get_or-values, length-values}
use Rattle.fs_layout.specs.DiskImage.{name_of, slot_place}
use Rattle.fs_layout.specs.FileActs.{is_slash}
use Rattle.fs_acts.specs.BlockLaws.{AreGood}
use Rattle.fs_acts.proofs.Named.{IsNamed, named-is}
use Rattle.fs_jobs.specs.declared.place.Seek.{Seek}
use Rattle.fs_jobs.specs.TreeTests.{low_byte}
use Rattle.fs_changes.specs.ChangePlans.{name_ends}
use Rattle.fs_walks.specs.WalkPlans.{run_behind}
use Rattle.fs_runs.specs.TreeRuns.{Memory}
use Rattle.fs_runs.proofs.WalksKnown.{IsFilled, Scans}

-- ---- a record's name

take-next : (x n : ℕ) (xs : List ℕ) → take (1 + n) (x ∷ xs) ≡ x ∷ take n xs
take-next x n xs = ap (λ (k : ℕ). take k (x ∷ xs)) (one n)
  where
    one : (n : ℕ) → 1 + n ≡ suc n
    one n = omega arith

all-first : (test : ℕ → Bool) (xs : List ℕ) → ((k : ℕ) → k < length xs → test (get_or xs k 0) ≡ false) → length (before_first test xs) ≡ length xs
all-first test [] none = refl
all-first test (x ∷ xs) none = by (test x) (none 0 (omega arith)) (all-first test xs (λ k less. none (suc k) (omega (arith, less))))
  where
    by : (b : Bool) → b ≡ false → length (before_first test xs) ≡ length xs →
        length (take (cond (not b) (1 + prefix_len (λ y. not (test y)) xs) 0) (x ∷ xs)) ≡ suc (length xs)
    by true is rest = absurd (cc is)
    by false is rest = ap length (take-next x (prefix_len (λ y. not (test y)) xs) xs) ∙ ap suc rest

whole-name : (byte : ℕ → ℕ) (place : ℕ) → ((i : ℕ) → i < 128 → (byte (place + i) == 0) ≡ false) → length (name_of byte place) ≡ 128
unfolding name_of
whole-name byte place none =
    let bytes : List ℕ = values_below 128 (λ k. byte (place + k)) in
    let long : length bytes ≡ 128 = length-values 128 (λ k. byte (place + k)) in
    all-first (λ b. b == 0) bytes
    (λ k less.
    let low : k < 128 = subst (λ (n : ℕ). k < n) long less in
    subst (λ (b : ℕ). (b == 0) ≡ false) (sym (get_or-values 128 (λ k. byte (place + k)) k 0 low)) (none k low))
    ∙ long

-- a name of a record that is at hand has a NUL among its bytes
pub record-ends : (m : Memory) (depth : ℕ) (seek : Seek) → Scans m depth seek → IsFilled m seek →
    ((i : ℕ) → i < 128 → (m.disk (slot_place m.disk seek.directory seek.slot + i) == 0) ≡ false) → ⊥
unfolding AreGood
record-ends m depth seek scans filled none =
    let named : IsNamed m.disk seek.directory seek.slot =
    record { is = scans.is; within = subst (λ (n : ℕ). seek.slot < n) scans.slots scans.within; filled = filled } in
    let good = (scans.good.1 seek.slot (named-is m.disk seek.directory seek.slot named)).0.named in
    let place : ℕ = slot_place m.disk seek.directory seek.slot in
    let short = (and_parts (nat_lt (length (name_of m.disk place)) 128) _ good).0 in
    not-short (length (name_of m.disk place)) (whole-name m.disk place none) short
  where
    not-short : (n : ℕ) → n ≡ 128 → nat_lt n 128 ≡ true → ⊥
    not-short n is less = let it : nat_lt 128 128 ≡ true = subst (λ (k : ℕ). nat_lt k 128 ≡ true) is less in absurd (cc it)

-- ---- a path's names

abbrev pub is_end : (ℕ → ℕ) → ℕ → Bool
is_end page at = name_ends (low_byte (page at))

-- The bytes up to a place were read: no more bytes than these stand before it without an end, and nowhere so many as 128.
pub record IsRead (page : ℕ → ℕ) (at run : ℕ) : Type 0 where
  pub most : (j : ℕ) → j ≤ at → ((i : ℕ) → i < j → is_end page (at - suc i) ≡ false) → j ≤ run
  pub short : (from : ℕ) → from + 128 ≤ at → ((i : ℕ) → i < 128 → is_end page (from + i) ≡ false) → ⊥

pub read-none : (page : ℕ → ℕ) → IsRead page 0 0
read-none page = record { most = λ j le all. le; short = λ from le all. absurd (omega (arith, le)) }

slash-ends : (byte : ℕ) → is_slash byte ≡ true → name_ends byte ≡ true
slash-ends byte is = both (byte == 0) (is_slash byte) is
  where
    both : (a b : Bool) → b ≡ true → (a || b) ≡ true
    both true b e = refl
    both false b e = e

behind-other : (run byte : ℕ) → is_slash byte ≡ false → run_behind run byte ≡ run + 1
behind-other run byte is = by (is_slash byte) is
  where
    by : (b : Bool) → b ≡ false → (if b then 0 else run + 1) ≡ run + 1
    by true e = absurd (cc e)
    by false e = refl

-- one byte more is read
pub read-on : (page : ℕ → ℕ) (at run : ℕ) → IsRead page at run → run_behind run (low_byte (page at)) < 128 →
    IsRead page (at + 1) (run_behind run (low_byte (page at)))
read-on page at run read few = record { most = most; short = short }
  where
    byte : ℕ
    byte = low_byte (page at)

    one : (at : ℕ) → at + 1 - suc 0 ≡ at
    one at = omega arith

    back : (at i : ℕ) → at + 1 - suc (suc i) ≡ at - suc i
    back at i = omega arith

    fewer : (j : ℕ) → suc j ≤ at + 1 → ((i : ℕ) → i < suc j → is_end page (at + 1 - suc i) ≡ false) → j ≤ run
    fewer j le all =
        read.most j (omega (arith, le))
        (λ i less. subst (λ (q : ℕ). is_end page q ≡ false) (back at i) (all (suc i) (omega (arith, less))))

    by_byte : (b : Bool) → is_slash byte ≡ b → (j : ℕ) → suc j ≤ at + 1 → ((i : ℕ) → i < suc j → is_end page (at + 1 - suc i) ≡ false) →
        suc j ≤ run_behind run byte
    by_byte true is j le all =
        let last : is_end page at ≡ false = subst (λ (q : ℕ). is_end page q ≡ false) (one at) (all 0 (omega arith)) in
        let clash : true ≡ false = sym (slash-ends byte is) ∙ last in
        absurd (cc clash)
    by_byte false is j le all =
        let some = fewer j le all in
        let now = behind-other run byte is in
        omega (arith, some, now)

    most : (j : ℕ) → j ≤ at + 1 → ((i : ℕ) → i < j → is_end page (at + 1 - suc i) ≡ false) → j ≤ run_behind run byte
    most zero le all = omega arith
    most (suc j) le all = by_byte (is_slash byte) refl j le all

    turned : (from i : ℕ) → from + 128 ≡ at + 1 → i < 128 → from + (127 - i) ≡ at + 1 - suc i
    turned from i e less = omega (arith, e, less)

    short : (from : ℕ) → from + 128 ≤ at + 1 → ((i : ℕ) → i < 128 → is_end page (from + i) ≡ false) → ⊥
    short from le all = by (nat_lt at (from + 128)) refl
      where
        by : (b : Bool) → nat_lt at (from + 128) ≡ b → ⊥
        by true last =
            let e : from + 128 ≡ at + 1 = grind (arith, nat_tests, last, le) in
            let many = most 128 (omega (arith, e))
            (λ i less. subst (λ (q : ℕ). is_end page q ≡ false) (turned from i e less) (all (127 - i) (omega arith))) in
            absurd (omega (arith, many, few))
        by false before = let less : from + 128 ≤ at = grind (arith, nat_tests, before) in read.short from less all
