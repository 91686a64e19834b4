-- Sets of slots as words of 64 bits.
use Rattle.std.proofs.Common.{◌≡◌, ◌≢◌, ◌∙◌, ◌+◌, ◌-◌, ◌*◌, ◌/◌, ◌%◌, ◌^◌, ◌<◌, ◌≤◌, ◌==◌, inl, inr, ℕ, Bool, true}
use Rattle.std.proofs.Common.{false, List}
use Rattle.std.proofs.Common.{length, get_or, replicate, None, sym, ap, arith, w64}
use Rattle.std.specs.Prelude.{slice_set, bit_and, bit_or}
use Rattle.std.specs.Int.{bit_at, bit_not, trailing_zeros}
use Rattle.std.proofs.lemmas.List.{get_or-set_same, get_or-set_other, get_or-replicate, get_or_past, length-replicate}
use Rattle.std.proofs.lemmas.Nat.{shr-shr, div-mul-add, mod-mul-add}
use Rattle.std.proofs.Math.Nat.{div-le_self}
use Rattle.std.proofs.lemmas.Nat.Bits.{bit_at_set_same, bit_at_set_other, bit_at_clear_same, bit_at_clear_other}
use Rattle.std.proofs.lemmas.Nat.Bits.{bit_at-trailing_zeros, bit_at-zero, bit_at_above}
use Rattle.jos_base.specs.Words.{upd}
use Rattle.jos_envs.specs.SlotSets.{contains, empty, IsFirstSlotAt, IsLowest, IsLowestAt}
use Rattle.std.proofs.lemmas.Bool.{cases_eq, cases_lt}
use Rattle.jos_base.proofs.Maps.{upd-at, upd-other}

-- a word whose bit for one slot is new, in its place
module _ (words : List ℕ) (slot word : ℕ) (member : Bool) (within : slot / 64 < length words) (bit : (bit_at word (slot % 64) == 1) ≡ member)
    (others : (i : ℕ) → i < 64 → i ≢ slot % 64 → bit_at word i ≡ bit_at (get_or words (slot / 64) 0) i) where
  abbrev changed : List ℕ
  changed = slice_set words (slot / 64) word

  at_slot : contains changed slot ≡ member
  unfolding contains
  at_slot = ap (λ w. bit_at w (slot % 64) == 1) (get_or-set_same words (slot / 64) word 0 within) ∙ bit

  at_other : (other : ℕ) → other ≢ slot → contains changed other ≡ contains words other
  unfolding contains
  at_other other ne = elim (cases_eq (other / 64) (slot / 64)) [
    | inl same ↦
        let apart : other % 64 ≢ slot % 64 = λ e. ne (omega arith) in
        let old : bit_at (get_or words (slot / 64) 0) (other % 64) ≡ bit_at (get_or words (other / 64) 0) (other % 64)
        = ap (λ z. bit_at (get_or words z 0) (other % 64)) (sym same) in
        ap (λ z. bit_at (get_or changed z 0) (other % 64) == 1) same
        ∙ ap (λ w. bit_at w (other % 64) == 1) (get_or-set_same words (slot / 64) word 0 within)
        ∙ ap (λ b. b == 1) (others (other % 64) (omega arith) apart ∙ old)
    | inr apart ↦ ap (λ w. bit_at w (other % 64) == 1) (get_or-set_other words (slot / 64) (other / 64) word 0 apart)
  ]

  pub contains-set : (other : ℕ) → contains changed other ≡ upd (contains words) slot member other
  contains-set other = elim (cases_eq other slot) [
    | inl same ↦
        ap (contains changed) same ∙ at_slot ∙ sym (upd-at (contains words) slot member)
        ∙ ap (upd (contains words) slot member) (sym same)
    | inr ne ↦ at_other other ne ∙ sym (upd-other (contains words) slot member other ne)
  ]

-- a slot is put in, or taken out
pub contains-put : (words : List ℕ) (slot : ℕ) → slot / 64 < length words → (other : ℕ)
    → contains (slice_set words (slot / 64) (bit_or (get_or words (slot / 64) 0) (1 * 2 ^ (slot % 64) % 2 ^ 64))) other ≡ upd (contains words) slot true other
contains-put words slot within other =
    let word = get_or words (slot / 64) 0 in
    let set : bit_at (bit_or word (1 * 2 ^ (slot % 64) % 2 ^ 64)) (slot % 64) ≡ 1 = bit_at_set_same w64 word (slot % 64) (omega arith) in
    contains-set words slot (bit_or word (1 * 2 ^ (slot % 64) % 2 ^ 64)) true within (ap (λ b. b == 1) set)
    (λ i lt ne. bit_at_set_other w64 word (slot % 64) (omega arith) i ne) other

pub contains-removed : (words : List ℕ) (slot : ℕ) → slot / 64 < length words → (other : ℕ)
    → contains (slice_set words (slot / 64) (bit_and (get_or words (slot / 64) 0) (bit_not w64 (1 * 2 ^ (slot % 64) % 2 ^ 64)))) other ≡ upd (contains words) slot false other
contains-removed words slot within other =
    let word = get_or words (slot / 64) 0 in
    let clear : bit_at (bit_and word (bit_not w64 (1 * 2 ^ (slot % 64) % 2 ^ 64))) (slot % 64) ≡ 0 = bit_at_clear_same w64 word (slot % 64) (omega arith) in
    contains-set words slot (bit_and word (bit_not w64 (1 * 2 ^ (slot % 64) % 2 ^ 64))) false within (ap (λ b. b == 1) clear)
    (λ i lt ne. bit_at_clear_other w64 word (slot % 64) (omega arith) i lt ne) other

-- ---- the lowest bit

-- a bit of a word, seen from a place on
bit-from : (word place bit : ℕ) → place ≤ bit → bit_at (word / 2 ^ place) (bit - place) ≡ bit_at word bit
bit-from word place bit le =
    let e : place + (bit - place) ≡ bit = omega arith in
    ap (λ n. n % 2) (shr-shr word place (bit - place)) ∙ ap (bit_at word) e

pub none_from : (word place : ℕ) → word / 2 ^ place ≡ 0 → (bit : ℕ) → place ≤ bit → bit < 64 → bit_at word bit ≡ 0
none_from word place zero bit le lt = sym (bit-from word place bit le) ∙ ap (λ n. bit_at n (bit - place)) zero ∙ bit_at-zero (bit - place)

pub lowest_is : (word place : ℕ) → word < 2 ^ 64 → 0 < word / 2 ^ place → IsLowestAt word place (place + trailing_zeros w64 (word / 2 ^ place))
lowest_is word place small some =
    let rest = word / 2 ^ place in
    let rest_small : rest < 2 ^ 64 = (let le = div-le_self word (2 ^ place) in omega (arith, le)) in
    let lowest = bit_at-trailing_zeros w64 rest some rest_small in
    let bit = place + trailing_zeros w64 rest in
    let back : bit - place ≡ trailing_zeros w64 rest = omega arith in
    let is_set : bit_at word bit ≡ 1 = sym (bit-from word place bit (omega arith)) ∙ ap (bit_at rest) back ∙ lowest.1 in
    record {
      behind = omega arith;
      within = below_64 word bit small is_set;
      is_set = is_set;
      others = λ other le lt. sym (bit-from word place other le) ∙ lowest.2 (other - place) (omega arith);
    }
  where
    below_64 : (word bit : ℕ) → word < 2 ^ 64 → bit_at word bit ≡ 1 → bit < 64
    below_64 word bit small is_set = elim (cases_lt bit 64) [ inl lt ↦ lt | inr ge ↦ (let none = bit_at_above word 64 bit small ge in omega (arith, none, is_set)) ]

-- ---- the first slot

-- the slot of a bit
contains_bit : (words : List ℕ) (index place : ℕ) → place < 64 → contains words (index * 64 + place) ≡ (bit_at (get_or words index 0) place == 1)
unfolding contains
contains_bit words index place lt = λ i. bit_at (get_or words (div-mul-add index 64 place lt i) 0) (mod-mul-add index 64 place lt i) == 1

-- a bit of the slot's own word
contains_near : (words : List ℕ) (slot other bit : ℕ) → other / 64 ≡ slot / 64 → bit_at (get_or words (slot / 64) 0) (other % 64) ≡ bit → contains words other ≡ (bit == 1)
unfolding contains
contains_near words slot other bit same is = ap (λ z. bit_at (get_or words z 0) (other % 64) == 1) same ∙ ap (λ b. b == 1) is

module _ (words : List ℕ) (from slot : ℕ) (least : from ≤ slot) (below : slot < 1024)
    (none : (other : ℕ) → from ≤ other → other < slot → contains words other ≡ false) where
  -- the slots up to the end of the word
  none_until : (end : ℕ) → end ≤ 64 → ((bit : ℕ) → slot % 64 ≤ bit → bit < end → bit_at (get_or words (slot / 64) 0) bit ≡ 0)
      → (other : ℕ) → from ≤ other → other < slot / 64 * 64 + end → contains words other ≡ false
  none_until end most clear other le lt = elim (cases_lt other slot) [
    | inl before ↦ none other le before
    | inr behind ↦
        let same : other / 64 ≡ slot / 64 = omega arith in
        contains_near words slot other 0 same (clear (other % 64) (omega arith) (omega arith))
  ]

  pub first_is : (place : ℕ) → IsLowestAt (get_or words (slot / 64) 0) (slot % 64) place → IsFirstSlotAt (contains words) from (slot / 64 * 64 + place)
  first_is place lowest =
      let behind = lowest.behind in
      let within = lowest.within in
      record {
        behind = omega arith;
        within = omega arith;
        passes = contains_bit words (slot / 64) place within ∙ ap (λ b. b == 1) lowest.is_set;
        others = λ other le lt. none_until place (omega arith) lowest.others other le lt;
      }

  pub none_further : IsLowest (get_or words (slot / 64) 0) (slot % 64) None
      → (other : ℕ) → from ≤ other → other < (slot / 64 + 1) * 64 → contains words other ≡ false
  none_further clear other le lt = none_until 64 (omega arith) clear other le (omega arith)

-- no slot
pub contains_none : contains (replicate 16 0) ≡ empty
unfolding contains empty
contains_none = λ i. λ slot. (ap (λ (w : ℕ). bit_at w (slot % 64) == 1) (zeros 16 (slot / 64)) ∙ ap (λ b. b == 1) (bit_at-zero (slot % 64))) i
  where
    zeros : (n p : ℕ) → ◌≡◌ {A = ℕ} (get_or (replicate n 0) p 0) 0
    zeros n p = elim (cases_lt p n) [ inl lt ↦ get_or-replicate n p 0 0 lt | inr ge ↦ get_or_past (replicate n 0) p 0 (omega (arith, length-replicate {A = ℕ} n 0, ge)) ]
