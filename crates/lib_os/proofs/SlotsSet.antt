-- A slot whose registers and words are set has both.
use Rattle.std.proofs.Common.{◌≡◌, ◌∙◌, ℕ, true, List, ap}
use Rattle.jos_base.specs.declared.registers.Regs.{Regs}
use Rattle.jos_base.specs.Environments.{Slot, is_live}
use Rattle.jos_base.specs.KernelState.{KernelState, slot_at, with_slot_at, with_registers, with_extra}
use Rattle.jos_base.proofs.Maps.{upd-at, upd-twice}

pub set_live : (s : KernelState) (n : ℕ) (k : Slot) → is_live k ≡ true → is_live (slot_at (with_slot_at s n k) n) ≡ true
set_live s n k live = ap (λ (x : Slot). is_live x) (upd-at s.environments.slots n k) ∙ live

pub set_twice : (s : KernelState) (n : ℕ) (j k : Slot) → with_slot_at (with_slot_at s n j) n k ≡ with_slot_at s n k
set_twice s n j k = λ i. record s { environments = record s.environments { slots = upd-twice s.environments.slots n j k i } }

pub both_set : (s : KernelState) (n : ℕ) (regs : Regs) (words : List ℕ) →
    with_extra (with_registers s n regs) n words ≡ with_slot_at s n (record (slot_at s n) { registers = regs; extra = words })
both_set s n regs words =
    let first = record (slot_at s n) { registers = regs } in
    ap (λ (x : Slot). with_slot_at (with_registers s n regs) n (record x { extra = words })) (upd-at s.environments.slots n first)
    ∙ set_twice s n first (record first { extra = words })
