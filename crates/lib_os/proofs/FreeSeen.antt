-- Which descriptors are free: those whose pages are not there, of which the lowest is the one that a file that is opened gets.
use Rattle.std.proofs.Common.{◌≡◌, ◌∙◌, ◌+◌, ◌<◌, ◌≤◌, inl, inr, ℕ, zero, suc, Bool, Option, Some, None, true, false, refl, ap, arith}
use Rattle.std.proofs.Common.{if◌then◌else◌}
use Rattle.std.specs.Prelude.{is_none, is_some}
use Rattle.std.proofs.lemmas.Bool.{cases_eq}
use Rattle.jos_base.specs.KernelState.{KernelState, slot_at}
use Rattle.lib_os.specs.declared.numbers.TheConstants.{DESCRIPTORS}
use Rattle.lib_os.specs.AbstractState.{AbstractState, Born, born}
use Rattle.lib_os.specs.Descriptors.{first_from, lowest_free}
use Rattle.lib_os.specs.Rows.{Names, rows_of}
use Rattle.lib_os.specs.InService.{EachIsOpenBelow, IsLowestFree}
use Rattle.lib_os.specs.StandsFor.{StandsFor}
use Rattle.lib_os.proofs.DescriptorLooks.{SeesDescriptors, none_seen, open_seen}

-- ---- the first of those that are not open

filled : (o : Option ℕ) → is_some o ≡ true → is_none o ≡ false
filled (Some name) is = refl
filled None is = absurd (let contradiction : false ≡ true = is in cc)

pub none_free_from : (descriptors : ℕ → Option ℕ) (fd n : ℕ) → ((q : ℕ) → fd ≤ q → q < fd + n → is_some (descriptors q) ≡ true) →
    first_from is_none descriptors fd n ≡ None
unfolding first_from
none_free_from descriptors fd zero each = refl
none_free_from descriptors fd (suc n) each =
    ap (λ (c : Bool). if c then Some fd else first_from is_none descriptors (fd + 1) n) (filled (descriptors fd) (each fd (omega arith) (omega arith)))
    ∙ none_free_from descriptors (fd + 1) n (λ q from to. each q (omega (arith, from)) (omega (arith, to)))

pub free_from : (descriptors : ℕ → Option ℕ) (fd n q : ℕ) → fd ≤ q → q < fd + n → ((r : ℕ) → fd ≤ r → r < q → is_some (descriptors r) ≡ true) →
    descriptors q ≡ None → first_from is_none descriptors fd n ≡ Some q
unfolding first_from
free_from descriptors fd zero q from to each there = absurd (omega (arith, from, to))
free_from descriptors fd (suc n) q from to each there = elim (cases_eq fd q) [
  | inl same ↦
      ap (λ (o : Option ℕ). if is_none o then Some fd else first_from is_none descriptors (fd + 1) n)
      (ap (λ (r : ℕ). descriptors r) same ∙ there)
      ∙ ap (λ (r : ℕ). Some r) same
  | inr ne ↦
      let further : fd + 1 ≤ q = omega (arith, from, ne) in
      ap (λ (c : Bool). if c then Some fd else first_from is_none descriptors (fd + 1) n)
      (filled (descriptors fd) (each fd (omega arith) (omega (arith, further))))
      ∙ free_from descriptors (fd + 1) n q further (omega (arith, to)) (λ r up low. each r (omega (arith, up)) low) there
]

-- ---- in the abstract system

module _ {names : Names} {s : KernelState} {a : AbstractState} (h : StandsFor names s a) (n : ℕ) (b : Born) (at : a.slots n ≡ born b)
    (seen : SeesDescriptors names s n b) where
  pub lowest_seen : (fd : ℕ) → IsLowestFree (rows_of s.spaces (slot_at s n).directory) fd → lowest_free b ≡ Some fd
  lowest_seen fd it =
      free_from b.descriptors 0 DESCRIPTORS fd (omega arith) (let below = it.below in omega (arith, below))
      (λ r from low. open_seen h n b at seen r (let below = it.below in omega (arith, low, below)) ∙ it.lower r low) (none_seen h n b at seen fd it.vacant)

  pub all_seen : EachIsOpenBelow (rows_of s.spaces (slot_at s n).directory) DESCRIPTORS → lowest_free b ≡ None
  all_seen each =
      none_free_from b.descriptors 0 DESCRIPTORS
      (λ q from to. open_seen h n b at seen q (omega (arith, to)) ∙ each q (omega (arith, to)))
