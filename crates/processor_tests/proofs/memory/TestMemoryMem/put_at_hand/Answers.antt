use Rattle.std.proofs.Common.{◌≡◌, ℕ, ◌+◌, ◌<◌, ◌≤◌, ◌/◌, ◌%◌, true, refl, arith}
use Rattle.std.specs.Prelude.{nat_le, nat_lt, slice_set}
use Rattle.std.proofs.lemmas.Bool.Decides.{nat_tests}
use Rattle.jos_alu.specs.declared.width.Width.TheVariants.{Bits8, Bits32}
use Rattle.processor_tests.specs.declared.memory.TestMemory.{TestMemory}
use Rattle.jos_cpu.specs.Memory.{after, probed}
use Rattle.jos_cpu.specs.Transfers.{stored_number}
use Rattle.jos_cpu.specs.AtHand.{IsPut}
use Rattle.processor_tests.specs.TestMemory.{offset, test_memory_table}
use Rattle.processor_tests.proofs.memory.TestMemoryMem.put_at_hand.Goals as goal

module _ (w : TestMemory) (standing : w.standing ≡ true) (va value : ℕ) where
  byte_put : w.locked ≤ offset w.base va → offset w.base va < 128 →
      IsPut test_memory_table w Bits8 va value (record w { bytes = slice_set w.bytes (offset w.base va) (value % 256) })
  unfolding probed stored_number
  byte_put from below =
      let l : nat_le w.locked (offset w.base va) ≡ true = grind (arith, nat_tests) in
      let b : nat_lt (offset w.base va) 128 ≡ true = grind (arith, nat_tests) in
      record { reached = rw (l, b, standing) refl; stored = refl }

  word_put : (o p q r : ℕ) → o ≡ offset w.base va → p ≡ offset w.base (after va) → q ≡ offset w.base (after (after va)) → r ≡ offset w.base (after (after (after va))) →
      p ≡ o + 1 → q ≡ o + 2 → r ≡ o + 3 → w.locked ≤ o → o < 125 →
      IsPut test_memory_table w Bits32 va value (record w {
        bytes = slice_set (slice_set (slice_set (slice_set w.bytes o (value % 256)) (o + 1) (value / 256 % 256)) (o + 2) (value / 65536 % 256)) (o + 3) (value / 16777216 % 256);
      })
  unfolding probed stored_number
  word_put o p q r eo ep eq er sp sq sr from below =
      let l0 : nat_le w.locked o ≡ true = grind (arith, nat_tests) in
      let b0 : nat_lt o 128 ≡ true = grind (arith, nat_tests) in
      let l1 : nat_le w.locked p ≡ true = grind (arith, nat_tests) in
      let b1 : nat_lt p 128 ≡ true = grind (arith, nat_tests) in
      let l2 : nat_le w.locked q ≡ true = grind (arith, nat_tests) in
      let b2 : nat_lt q 128 ≡ true = grind (arith, nat_tests) in
      let l3 : nat_le w.locked r ≡ true = grind (arith, nat_tests) in
      let b3 : nat_lt r 128 ≡ true = grind (arith, nat_tests) in
      record {
        reached = rw (← eo, l0, b0, standing, ← ep, l1, b1, ← eq, l2, b2, ← er, l3, b3) refl;
        stored = rw (← eo, ← ep, ← eq, ← er, sp, sq, sr) refl;
      }

pub returns-then-offset-lt-LEN-clause-put : goal.returns-then-offset-lt-LEN-clause-put
returns-then-offset-lt-LEN-clause-put c _ =
    rw (c.in-Bits8.is, c.offset-offset.ensures) (byte_put c.args.self.now c.if-self.true c.args.va c.args.value (omega (arith, c.offset-offset.ensures, c.if-self-offset.true)) (omega (arith, c.offset-offset.ensures, c.if-offset-lt-LEN.true)))

pub returns-then-offset-clause-put : goal.returns-then-offset-clause-put
returns-then-offset-clause-put c _ =
    rw (c.in-Bits32.is, c.offset-offset.ensures)
    (word_put c.args.self.now c.if-self-2.true c.args.va c.args.value _ _ _ _ refl refl refl refl (omega arith) (omega arith) (omega arith)
    (omega (arith, c.offset-offset.ensures, c.if-self-offset-2.true)) (omega (arith, c.offset-offset.ensures, c.if-offset.true)))
