-- A step of the processor changes address spaces alone, also inside a fence: the directory that is loaded stays loaded, and environments,
-- input, turns and refusals stay.
use Rattle.std.proofs.Common.{◌≡◌, ℕ, suc, zero, Bool, Option, Some, None, refl, sym, ap, ◌∙◌}
use Rattle.jos_base.specs.declared.memory.Access.{Access}
use Rattle.jos_base.specs.declared.registers.Regs.{Regs}
use Rattle.jos_base.specs.SpacesState.{SpacesState}
use Rattle.jos_base.specs.KernelState.{KernelState, slot_at, with_spaces}
use Rattle.jos_base.specs.UserMemory.{touched, stored_byte}
use Rattle.jos_cpu.specs.declared.memory.MemFault.TheVariants.{Fence}
use Rattle.jos_cpu.specs.declared.events.Event.{Event}
use Rattle.jos_cpu.specs.declared.events.Event.TheVariants.{Next}
use Rattle.jos_cpu.specs.declared.events.Gates.{Gates}
use Rattle.jos_cpu.specs.Steps.{Stepped, step_of}
use Rattle.jos_cpu.specs.Bursts.{ProcessorState, StepsTo, StepsOn, IsBurst}
use Rattle.jos_cpu.proofs.Agreement.{Agrees}
use Rattle.jos_cpu.proofs.Fenced.{agrees_within}
use Rattle.jos_cpu.proofs.Through.{step_through}
use Rattle.jos_kernel.specs.Running.{Running, user_memory, memory_inside, touched_in, stored_in_space}

-- the memory with other address spaces
abbrev pub with_other_spaces : Running → SpacesState → Running
with_other_spaces m spaces = record { state = with_spaces m.state spaces; directory = m.directory }

-- all is as it was, but for the address spaces
pub record KeepsRest (before after : Running) : Type 0 where
  pub spaces : SpacesState
  pub memory_is : after ≡ with_other_spaces before spaces

pub same : (m : Running) → KeepsRest m m
same m = record { spaces = m.state.spaces; memory_is = refl }

pub both : {a b c : Running} → KeepsRest a b → KeepsRest b c → KeepsRest a c
both {a} k l = record { spaces = l.spaces; memory_is = l.memory_is ∙ ap (λ (m : Running). with_other_spaces m l.spaces) k.memory_is }

module _ {before after : Running} (k : KeepsRest before after) where
  pub directory_is : after.directory ≡ before.directory
  directory_is = ap (λ (m : Running). m.directory) k.memory_is

  pub slot_is : (n : ℕ) → slot_at after.state n ≡ slot_at before.state n
  slot_is n = ap (λ (m : Running). slot_at m.state n) k.memory_is

  pub state_is : after.state ≡ with_spaces before.state k.spaces
  state_is = ap (λ (m : Running). m.state) k.memory_is

-- ---- one access

reached_keeps : (s : KernelState) (d : Option ℕ) (va : ℕ) (access : Access) → KeepsRest (record { state = s; directory = d }) (record { state = touched_in s d va access; directory = d })
reached_keeps s None va access = same (record { state = s; directory = None })
reached_keeps s (Some d) va access = record { spaces = touched s.spaces d va access; memory_is = refl }

stored_keeps : (s : KernelState) (d : Option ℕ) (va byte : ℕ) → KeepsRest (record { state = s; directory = d }) (record { state = stored_in_space s d va byte; directory = d })
stored_keeps s None va byte = same (record { state = s; directory = None })
stored_keeps s (Some d) va byte = record { spaces = stored_byte s.spaces d va byte; memory_is = refl }

-- ---- steps

module _ (before : Running) where
  agrees : Agrees user_memory user_memory (λ m. m) (KeepsRest before)
  unfolding user_memory
  agrees = record {
    byte = λ m k va. refl;
    allowed = λ m k va access. refl;
    fault = λ m k va access off. refl;
    reached = λ m k va access on. (both k (reached_keeps m.state m.directory va access), refl);
    stored = λ m k va byte small. (both k (stored_keeps m.state m.directory va byte), refl);
  }

  -- a step keeps all but the spaces
  pub step_keeps : (inside : ℕ → Bool) (regs : Regs) (gates : Gates) → KeepsRest before (step_of (memory_inside inside) regs before gates).memory
  step_keeps inside regs gates = (step_through (agrees_within inside Fence agrees) regs before gates (same before)).0

pub steps_keeps : (inside : ℕ → Bool) (gates : Gates) (event : Event) (before after : ProcessorState Running) →
    StepsTo (memory_inside inside) gates before event after → KeepsRest before.memory after.memory
steps_keeps inside gates event before after e =
    let k = step_keeps before.memory inside before.regs gates in
    record { spaces = k.spaces; memory_is = sym (ap (λ (s : Stepped Running). s.memory) e) ∙ k.memory_is }

pub going_keeps : (inside stands : ℕ → Bool) (gates : Gates) (n : ℕ) (before after : ProcessorState Running) →
    StepsOn (memory_inside inside) stands gates n before after → KeepsRest before.memory after.memory
going_keeps inside stands gates zero before after e =
    record { spaces = before.memory.state.spaces; memory_is = ap (λ (m : ProcessorState Running). m.memory) e }
going_keeps inside stands gates (suc n) before after g =
    both (steps_keeps inside gates Next before g.0 g.1) (going_keeps inside stands gates n g.0 after g.3)

pub burst_keeps : (inside stands : ℕ → Bool) {gates : Gates} {limit steps ip : ℕ} {event : Event} {before after : ProcessorState Running} →
    IsBurst (memory_inside inside) stands gates limit steps ip event before after → KeepsRest before.memory after.memory
burst_keeps inside stands {gates = gates} {event = event} {before = before} {after = after} b =
    both (going_keeps inside stands gates b.going before b.reached b.went) (steps_keeps inside gates event b.reached after b.last)
