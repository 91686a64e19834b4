-- What comes of an instruction is what its system call or its trap has done.
use Rattle.std.proofs.Common.{true, ◌≡◌, ◌≢◌, ◌==◌, ℕ, false, List, [], length, Option, Some, None, Result, Ok, Err}
use Rattle.std.proofs.Common.{refl, sym, ap, subst, ◌∙◌, arith}
use Rattle.std.specs.Prelude.{◌&&◌, is_some}
use Rattle.std.proofs.lemmas.Bool.Decides.{nat_tests}
use Rattle.std.proofs.Math.Bool.{and-false}
use Rattle.std.proofs.lemmas.List.{append-nil}
use Rattle.jos_host.specs.declared.host.Failed.{Failed}
use Rattle.jos_host.specs.Frames.{Around, from_to}
use Rattle.jos_host.specs.Gains.{Gains, GainsPart}
use Rattle.jos_base.specs.declared.line.Line.{Line}
use Rattle.jos_base.specs.declared.line.Line.TheVariants as line
use Rattle.jos_base.specs.declared.numbers.TheConstants.{T_BRKPT, T_PGFLT, T_SYSCALL}
use Rattle.jos_base.specs.declared.registers.Regs.{Regs}
use Rattle.jos_base.specs.Environments.{Slot, is_live}
use Rattle.jos_base.specs.KernelState.{KernelState, slot_at, with_registers}
use Rattle.jos_base.specs.SystemCalls.{Did, trapped_by, system_call, handled, killed}
use Rattle.jos_cpu.specs.declared.events.Event.TheVariants.{Soft}
use Rattle.jos_sys.specs.declared.system.CallAnswer.{CallAnswer}
use Rattle.jos_sys.specs.System.{Does}
use Rattle.jos_kernel.specs.Machine.{Follows}
use Rattle.jos_kernel.specs.declared.machine.Followed.{Followed}
use Rattle.jos_kernel.specs.declared.trace.TrapLine.{TrapLine}
use Rattle.jos_base.proofs.Maps.{upd-at}
use Rattle.jos_kernel.specs.Steps.{EnvStep, trapped, after_call, after_event, after_trap, is_handed}

-- ---- what is done, and what a step leaves

module _ (did : Did) (step : EnvStep) (state : KernelState) (console : Around (Option (List ℕ))) (raised : Option TrapLine)
    (state_is : step.state ≡ did.state) (written_is : step.written ≡ did.written) (trap_is : raised ≡ step.trap) where
  pub done_follows : (answer : CallAnswer) → Does (Ok answer) did state console →
      Follows (Ok (record { written = answer.written; trap = raised })) step state console
  done_follows answer h =
      (h.0 ∙ sym state_is, h.2 ∙ ap length (sym written_is), trap_is, subst (Gains console) (sym written_is) h.3)

  pub failed_follows : (failed : Failed) → Does (Err failed) did state console → Follows (Err failed) step state console
  failed_follows failed h = subst (GainsPart console) (sym written_is) h

pub same_step : (result : Result Followed Failed) (step other : EnvStep) (state : KernelState) (console : Around (Option (List ℕ))) →
    step ≡ other → Follows result other state console → Follows result step state console
same_step result step other state console e h = subst (λ (s : EnvStep). Follows result s state console) (sym e) h

-- nothing is written
pub gains_nothing : (told : Option (List ℕ)) → Gains (from_to told told) []
gains_nothing None = refl
gains_nothing (Some bytes) = ap Some (sym (append-nil bytes))

-- ---- system calls and traps

pub after_system_call : (s : KernelState) (n vector : ℕ) → vector ≡ T_SYSCALL → after_event s n (Soft vector) ≡ after_call (system_call s n)
after_system_call s n vector e = rw e refl

pub after_breakpoint : (s : KernelState) (n vector : ℕ) → vector ≢ T_SYSCALL →
    after_event s n (Soft vector) ≡ after_trap s n T_BRKPT 0 0 (slot_at s n).registers.eip
after_breakpoint s n vector ne =
    let other : (vector == T_SYSCALL) ≡ false = grind (arith, nat_tests) in
    rw other refl

-- a page fault has a handler, which goes on
pub upcall_made : (s t : KernelState) (n trap error va ip : ℕ) → trap ≡ T_PGFLT → handled s n (record { va = va; error = error }) ≡ Some t →
    trapped s n trap error va ip ≡ record { state = t; written = [] }
upcall_made s t n trap error va ip e h = rw (e, h) refl

-- a trap's own line
pub fault_line : (s : KernelState) (n trap error va ip eip : ℕ) (told : Line) → trap ≡ T_PGFLT → handled s n (record { va = va; error = error }) ≡ None →
    eip ≡ (slot_at s n).registers.eip → told ≡ line.UserFault va eip → trapped s n trap error va ip ≡ trapped_by (killed s n told)
fault_line s n trap error va ip eip told e h at is = rw (e, h, is, at) refl

pub trap_line : (s : KernelState) (n trap error va ip : ℕ) (told : Line) → trap ≢ T_PGFLT → told ≡ line.Trap trap error ip →
    trapped s n trap error va ip ≡ trapped_by (killed s n told)
trap_line s n trap error va ip told ne is =
    let other : (trap == T_PGFLT) ≡ false = grind (arith, nat_tests) in
    rw (other, is) refl

-- where no handler goes on, the environment is ended
pub fault_unhanded : (s : KernelState) (n trap error va : ℕ) → handled s n (record { va = va; error = error }) ≡ None →
    is_handed s n trap error va ≡ false
fault_unhanded s n trap error va none = (λ i. (trap == T_PGFLT) && is_some (none i)) ∙ and-false (trap == T_PGFLT)

pub trap_unhanded : (s : KernelState) (n trap error va : ℕ) → trap ≢ T_PGFLT → is_handed s n trap error va ≡ false
trap_unhanded s n trap error va ne =
    let other : (trap == T_PGFLT) ≡ false = grind (arith, nat_tests) in
    rw other refl

-- the registers that were put into a slot stand there
pub registers_there : (s t : KernelState) (n : ℕ) (regs : Regs) → s ≡ with_registers t n regs → (slot_at s n).registers ≡ regs
registers_there s t n regs e =
    (λ i. (slot_at (e i) n).registers) ∙ ap (λ (slot : Slot). slot.registers) (upd-at t.environments.slots n (record (slot_at t n) { registers = regs }))

-- and the environment is as live as it was
pub live_there : (s t : KernelState) (n : ℕ) (regs : Regs) → s ≡ with_registers t n regs → is_live (slot_at t n) ≡ true → is_live (slot_at s n) ≡ true
live_there s t n regs e live =
    (λ i. is_live (slot_at (e i) n)) ∙ ap is_live (upd-at t.environments.slots n (record (slot_at t n) { registers = regs })) ∙ live
