-- What users read of the slots is what they are: kept where a slot takes the place of another.
use Rattle.std.proofs.Common.{◌≡◌, ◌≢◌, ◌<◌, ◌∙◌, inl, inr, ℕ, true, List, [], refl, sym, ap, arith}
use Rattle.std.specs.Prelude.{nat_lt, if◌then◌else◌}
use Rattle.std.proofs.lemmas.Bool.Decides.{nat_tests}
use Rattle.jos_base.specs.declared.numbers.TheConstants.{NENV}
use Rattle.jos_base.specs.declared.registers.Regs.{Regs}
use Rattle.jos_base.specs.Words.{upd}
use Rattle.jos_base.specs.Environments.{Environments, Slot, with_slot, slot_freed, free_slot, record_words, records_of}
use Rattle.std.proofs.lemmas.Bool.{cases_eq}
use Rattle.jos_base.proofs.Maps.{upd-at, upd-other, upd-alike}

-- the record of a slot of the table
shown_at : (e : Environments) (n : ℕ) → n < NENV → records_of e n ≡ record_words (e.slots n)
unfolding records_of
shown_at e n below = let test : nat_lt n NENV ≡ true = grind (arith, nat_tests) in rw test refl

-- registers stand in no record
pub registers_unshown : (slot : Slot) (registers : Regs) → record_words (record slot { registers = registers }) ≡ record_words slot
unfolding record_words
registers_unshown slot registers = refl

-- nor do the words that a library keeps
pub extra_unshown : (slot : Slot) (words : List ℕ) → record_words (record slot { extra = words }) ≡ record_words slot
unfolding record_words
extra_unshown slot words = refl

module _ (e f : Environments) where
  -- a slot whose place another takes that is shown as the same
  pub shown_same : (n : ℕ) (slot : Slot) → f ≡ with_slot e n slot → record_words slot ≡ record_words (e.slots n) → records_of f ≡ records_of e
  unfolding records_of
  shown_same n slot now same =
      ap records_of now ∙ (λ i q. if nat_lt q NENV then upd-alike record_words e.slots n slot same q i else [])

  -- all others are shown as they are
  pub others_by : (n : ℕ) → ((q : ℕ) → q ≢ n → f.slots q ≡ e.slots q) → (r : ℕ → List ℕ) → r ≡ records_of e
      → (q : ℕ) → q ≢ n → r q ≡ records_of f q
  unfolding records_of
  others_by n there r shown q ne =
      ap (λ g. g q) shown ∙ (λ i. if nat_lt q NENV then record_words (sym (there q ne) i) else [])

  pub others_shown : (n : ℕ) (slot : Slot) → f ≡ with_slot e n slot → (r : ℕ → List ℕ) → r ≡ records_of e
      → (q : ℕ) → q ≢ n → r q ≡ records_of f q
  others_shown n slot now = others_by n (λ q ne. ap (λ z. z.slots q) now ∙ upd-other e.slots n slot q ne)

  pub others_freed : (n id : ℕ) → f ≡ slot_freed e n id → (r : ℕ → List ℕ) → r ≡ records_of e → (q : ℕ) → q ≢ n → r q ≡ records_of f q
  others_freed n id now = others_by n (λ q ne. ap (λ z. z.slots q) now ∙ upd-other e.slots n (free_slot id) q ne)

-- and then all are, once this one is shown
pub all_shown : (e : Environments) (n : ℕ) (slot : Slot) (words : List ℕ) (r s : ℕ → List ℕ) → n < NENV → slot ≡ e.slots n
    → words ≡ record_words slot → ((q : ℕ) → q ≢ n → r q ≡ records_of e q) → s ≡ upd r n words → s ≡ records_of e
all_shown e n slot words r s below at is others now = now ∙ (λ i q. each q i)
  where
    each : (q : ℕ) → upd r n words q ≡ records_of e q
    each q = elim (cases_eq q n) [
      | inl one ↦ ap (upd r n words) one ∙ upd-at r n words ∙ is ∙ ap record_words at ∙ sym (shown_at e n below) ∙ ap (records_of e) (sym one)
      | inr ne ↦ upd-other r n words q ne ∙ others q ne
    ]
