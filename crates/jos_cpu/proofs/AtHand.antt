-- A number whose bytes stand still.
use Rattle.std.proofs.Common.{◌≡◌, ℕ, ◌+◌, ◌%◌, ◌^◌, ◌<◌, ◌≤◌, List, [], ◌∷◌, length, get_or, refl, sym, subst, arith}
use Rattle.std.specs.Int.{w16, w32, from_le_bytes}
use Rattle.jos_alu.specs.declared.width.Width.TheVariants.{Bits8, Bits16, Bits32}
use Rattle.jos_cpu.specs.Memory.{Memory, IsStill, StandAt, after, probed}
use Rattle.jos_cpu.specs.Transfers.{number_at}
use Rattle.jos_cpu.specs.AtHand.{IsAtHand}

module _ {M : Type 0} (t : Memory M) (m : M) (va : ℕ) (xs : List ℕ) (small : va < 2 ^ 32) (stand : StandAt t m va xs) where
  first : 1 ≤ length xs → IsStill t m va (get_or xs 0 0)
  first long =
      let e : (va + 0) % 2 ^ 32 ≡ va = omega arith in
      subst (λ (q : ℕ). IsStill t m q (get_or xs 0 0)) e (stand 0 (omega arith))

  pub byte_at_hand : {value : ℕ} → 1 ≤ length xs → value ≡ get_or xs 0 0 → IsAtHand t m Bits8 va value
  unfolding probed number_at
  byte_at_hand long e =
      let s0 = first long in
      record { reached = rw (s0.allowed, s0.reached) refl; value_is = rw s0.byte_is (sym e) }

  pub pair_at_hand : {value : ℕ} → 2 ≤ length xs → value ≡ from_le_bytes w16 (get_or xs 0 0 ∷ get_or xs 1 0 ∷ []) → IsAtHand t m Bits16 va value
  unfolding probed number_at
  pair_at_hand long e =
      let s0 = first (omega arith) in
      let s1 : IsStill t m (after va) (get_or xs 1 0) = stand 1 (omega arith) in
      record {
        reached = rw (s0.allowed, s0.reached, s1.allowed, s1.reached) refl;
        value_is = rw (s0.byte_is, s1.byte_is) (sym e);
      }

  pub word_at_hand : {value : ℕ} → 4 ≤ length xs → value ≡ from_le_bytes w32 (get_or xs 0 0 ∷ get_or xs 1 0 ∷ get_or xs 2 0 ∷ get_or xs 3 0 ∷ []) →
      IsAtHand t m Bits32 va value
  unfolding probed number_at
  word_at_hand long e =
      let e2 : (va + 2) % 2 ^ 32 ≡ after (after va) = omega arith in
      let e3 : (va + 3) % 2 ^ 32 ≡ after (after (after va)) = omega arith in
      let s0 = first (omega arith) in
      let s1 : IsStill t m (after va) (get_or xs 1 0) = stand 1 (omega arith) in
      let s2 : IsStill t m (after (after va)) (get_or xs 2 0) = subst (λ (q : ℕ). IsStill t m q (get_or xs 2 0)) e2 (stand 2 (omega arith)) in
      let s3 : IsStill t m (after (after (after va))) (get_or xs 3 0) = subst (λ (q : ℕ). IsStill t m q (get_or xs 3 0)) e3 (stand 3 (omega arith)) in
      record {
        reached = rw (s0.allowed, s0.reached, s1.allowed, s1.reached, s2.allowed, s2.reached, s3.allowed, s3.reached) refl;
        value_is = rw (s0.byte_is, s1.byte_is, s2.byte_is, s3.byte_is) (sym e);
      }
