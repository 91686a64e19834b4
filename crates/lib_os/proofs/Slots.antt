-- One slot of the kernel's state changed, changed again, and changed back. A map that is given what it had is the map
-- itself, and two keys are changed in either order.
use Rattle.std.proofs.Common.{◌≡◌, ◌≢◌, ◌∙◌, ◌==◌, ℕ, Bool, true, false, List, refl, sym, ap, arith, if◌then◌else◌}
use Rattle.std.proofs.lemmas.Bool.Decides.{nat_tests}
use Rattle.jos_base.specs.Words.{upd}
use Rattle.jos_base.specs.declared.registers.Regs.{Regs}
use Rattle.jos_base.specs.Environments.{Slot}
use Rattle.jos_base.specs.KernelState.{KernelState, slot_at, with_slot_at, with_registers, with_extra}
use Rattle.lib_os.proofs.SlotsSet.{set_twice, both_set}
use Rattle.jos_base.proofs.Maps.{upd-at, upd-other, upd-alike}

-- ---- maps

-- a map that is given what it had
pub upd-back : {V : Type 0} (f : ℕ → V) (k : ℕ) (v : V) → v ≡ f k → upd f k v ≡ f
unfolding upd
upd-back {V = V} f k v e = λ i q. go q (q == k) refl i
  where
    go : (q : ℕ) (t : Bool) → (q == k) ≡ t → (if t then v else f q) ≡ f q
    go q false test = refl
    go q true test = let at : q ≡ k = grind (arith, nat_tests) in e ∙ ap f (sym at)

pub upd-swap : {V : Type 0} (f : ℕ → V) (a b : ℕ) (v w : V) → a ≢ b → upd (upd f a v) b w ≡ upd (upd f b w) a v
unfolding upd
upd-swap {V = V} f a b v w ne = λ i q. go q (q == a) (q == b) refl refl i
  where
    go : (q : ℕ) (t u : Bool) → (q == a) ≡ t → (q == b) ≡ u →
        (if u then w else (if t then v else f q)) ≡ (if t then v else (if u then w else f q))
    go q true true test_a test_b =
        let at_a : q ≡ a = grind (arith, nat_tests) in
        let at_b : q ≡ b = grind (arith, nat_tests) in
        absurd (ne (sym at_a ∙ at_b))
    go q true false test_a test_b = refl
    go q false u test_a test_b = refl

-- ---- slots

module _ (s : KernelState) (n : ℕ) where
  pub slot_put : (slot : Slot) → slot_at (with_slot_at s n slot) n ≡ slot
  slot_put slot = upd-at s.environments.slots n slot

  pub slot_kept : (slot : Slot) (m : ℕ) → m ≢ n → slot_at (with_slot_at s n slot) m ≡ slot_at s m
  slot_kept slot m ne = upd-other s.environments.slots n slot m ne

  -- a slot that is given what it had
  pub slot_back : (slot : Slot) → slot ≡ slot_at s n → with_slot_at s n slot ≡ s
  slot_back slot e = λ i. record s { environments = record s.environments { slots = upd-back s.environments.slots n slot e i } }

  pub slots_swap : (m : ℕ) (mine theirs : Slot) → n ≢ m → with_slot_at (with_slot_at s n mine) m theirs ≡ with_slot_at (with_slot_at s m theirs) n mine
  slots_swap m mine theirs ne =
      λ i. record s { environments = record s.environments { slots = upd-swap s.environments.slots n m mine theirs ne i } }

  -- what a slot has as before, each slot has as before
  pub slots_alike : {W : Type 0} (seen : Slot → W) (slot : Slot) → seen slot ≡ seen (slot_at s n) → (m : ℕ) →
      seen (slot_at (with_slot_at s n slot) m) ≡ seen (slot_at s m)
  slots_alike seen slot e m = upd-alike seen s.environments.slots n slot e m

  -- what is set behind a change of the slot is a part of the change
  pub registers_put : (slot : Slot) (regs : Regs) → with_registers (with_slot_at s n slot) n regs ≡ with_slot_at s n (record slot { registers = regs })
  registers_put slot regs =
      ap (λ (x : Slot). with_slot_at (with_slot_at s n slot) n (record x { registers = regs })) (slot_put slot)
      ∙ set_twice s n slot (record slot { registers = regs })

  pub words_put : (slot : Slot) (words : List ℕ) → with_extra (with_slot_at s n slot) n words ≡ with_slot_at s n (record slot { extra = words })
  words_put slot words =
      ap (λ (x : Slot). with_slot_at (with_slot_at s n slot) n (record x { extra = words })) (slot_put slot)
      ∙ set_twice s n slot (record slot { extra = words })

  pub registers_and_words_put : (slot : Slot) (regs : Regs) (words : List ℕ) →
      with_extra (with_registers (with_slot_at s n slot) n regs) n words ≡ with_slot_at s n (record slot { registers = regs; extra = words })
  registers_and_words_put slot regs words =
      ap (λ (k : KernelState). with_extra k n words) (registers_put slot regs) ∙ words_put (record slot { registers = regs }) words

  -- the library's words that are set and then the registers
  pub words_and_registers : (regs : Regs) (words : List ℕ) →
      with_registers (with_extra s n words) n regs ≡ with_slot_at s n (record (slot_at s n) { registers = regs; extra = words })
  words_and_registers regs words = registers_put (record (slot_at s n) { extra = words }) regs

  -- registers that are set twice, and registers that are set back
  pub registers_twice : (first second : Regs) → with_registers (with_registers s n first) n second ≡ with_registers s n second
  registers_twice first second = registers_put (record (slot_at s n) { registers = first }) second

  pub registers_back : (regs : Regs) → with_registers (with_registers s n regs) n (slot_at s n).registers ≡ s
  registers_back regs = registers_twice regs (slot_at s n).registers ∙ slot_back (slot_at s n) refl

-- registers and words that are set behind a change of another's slot
pub registers_and_words_beside : (s : KernelState) (n m : ℕ) (slot : Slot) (regs : Regs) (words : List ℕ) → n ≢ m →
    with_extra (with_registers (with_slot_at s m slot) n regs) n words
    ≡ with_slot_at (with_slot_at s m slot) n (record (slot_at s n) { registers = regs; extra = words })
registers_and_words_beside s n m slot regs words ne =
    both_set (with_slot_at s m slot) n regs words
    ∙ ap (λ (x : Slot). with_slot_at (with_slot_at s m slot) n (record x { registers = regs; extra = words })) (slot_kept s m slot n ne)
