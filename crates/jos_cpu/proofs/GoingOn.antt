-- Steps that go on, and one more of them; and a step by what was decoded before.
use Rattle.std.proofs.Common.{◌≡◌, ℕ, ◌+◌, ◌<◌, zero, suc, Bool, true, List, take, refl, sym, subst, arith}
use Rattle.jos_base.specs.declared.registers.Regs.{Regs}
use Rattle.jos_isa.specs.declared.instruction.Insn.{Insn}
use Rattle.jos_isa.specs.declared.decoder.Decoded.TheVariants.{Found}
use Rattle.jos_isa.specs.Decoding.{decoded}
use Rattle.jos_cpu.specs.declared.events.Event.{Event}
use Rattle.jos_cpu.specs.declared.events.Event.TheVariants.{Next}
use Rattle.jos_cpu.specs.declared.events.Gates.{Gates}
use Rattle.jos_cpu.specs.Memory.{Memory, StandAt}
use Rattle.jos_cpu.specs.Effects.{IfRaised}
use Rattle.jos_cpu.specs.Steps.{Stepped, step_of, executed}
use Rattle.jos_cpu.specs.Bursts.{ProcessorState, StepsTo, StepsOn, IsBurst}
use Rattle.jos_cpu.proofs.Windows.{fetched_known}
use Rattle.jos_cpu.proofs.Untouched.{step_untouched}

-- what stands in a window, and what its first bytes were found to be, is what the step executes
pub step_of-known : {M : Type 0} (t : Memory M) (gates : Gates) (regs : Regs) (m : M) (insn : Insn) (len : ℕ) (whole : List ℕ) {done : Stepped M} →
    StandAt t m regs.eip whole → decoded (take 16 whole) ≡ Found insn len → executed t insn len regs m gates ≡ done → step_of t regs m gates ≡ done
unfolding step_of
step_of-known t gates regs m insn len whole stand known done = rw (fetched_known t m regs.eip insn whole len 16 stand known) done

module _ {M : Type 0} (t : Memory M) (stands : ℕ → Bool) (gates : Gates) where
  pub one_more : (n : ℕ) (old at new : ProcessorState M) → StepsOn t stands gates n old at → StepsTo t gates at Next new → stands new.regs.esp ≡ true →
      StepsOn t stands gates (suc n) old new
  one_more zero old at new h s stand = (new, subst (λ (x : ProcessorState M). StepsTo t gates x Next new) h s, stand, refl)
  one_more (suc n) old at new h s stand = (h.0, h.1, h.2, one_more n h.0 at new h.3 s stand)

  pub on_step : (n : ℕ) (old at new : ProcessorState M) → StepsOn t stands gates n old at → StepsTo t gates at Next new → stands new.regs.esp ≡ true →
      StepsOn t stands gates (n + 1) old new
  on_step n old at new h s stand =
      let e : suc n ≡ n + 1 = omega arith in
      subst (λ (k : ℕ). StepsOn t stands gates k old new) e (one_more n old at new h s stand)

  -- an event ends the burst, or a stack pointer that may not stand
  pub on_end : (limit n ip : ℕ) (event : Event) (old at new : ProcessorState M) → StepsOn t stands gates n old at → n < limit →
      StepsTo t gates at event new → IfRaised event (new.regs ≡ at.regs) → (event ≡ Next → stands new.regs.esp ≡ true → ⊥) →
      ip ≡ at.regs.eip → IsBurst t stands gates limit (n + 1) ip event old new
  on_end limit n ip event old at new h below s kept ends begun = record {
    going = n;
    count = refl;
    reached = at;
    went = h;
    last = s;
    kept = kept;
    untouched = step_untouched t gates at.regs at.memory s;
    within = omega arith;
    whole = λ e stand. absurd (ends e stand);
    at = λ _. begun;
  }

  -- the last of steps that go on
  last_of : (n : ℕ) (old new : ProcessorState M) → StepsOn t stands gates (suc n) old new →
      (at : ProcessorState M) × StepsOn t stands gates n old at × StepsTo t gates at Next new × (stands new.regs.esp ≡ true)
  last_of zero old new h =
      (old, refl, subst (λ (x : ProcessorState M). StepsTo t gates old Next x) (sym h.3) h.1, subst (λ (x : ProcessorState M). stands x.regs.esp ≡ true) (sym h.3) h.2)
  last_of (suc n) old new h =
      let l = last_of n h.0 new h.3 in
      (l.0, (h.0, h.1, h.2, l.1), l.2, l.3)

  -- as many steps as the limit says
  pub at_limit : (limit ip : ℕ) (old new : ProcessorState M) → 0 < limit → StepsOn t stands gates limit old new → IsBurst t stands gates limit limit ip Next old new
  at_limit zero ip old new some h = absurd (omega arith)
  at_limit (suc n) ip old new some h =
      let l = last_of n old new h in
      record {
        going = n;
        count = omega arith;
        reached = l.0;
        went = l.1;
        last = l.2;
        kept = tt;
        untouched = tt;
        within = omega arith;
        whole = λ _ _. refl;
        at = λ ends. absurd (ends refl l.3);
      }
