-- A step of a program leaves each frame that is handed out a use: its instruction reaches bytes and stores bytes, a page
-- fault is handled or ends the environment, and any other trap ends it.
use Rattle.std.proofs.Common.{◌≡◌, ◌==◌, ℕ, Bool, true, false, Option, Some, None, refl, if◌then◌else◌}
use Rattle.jos_base.specs.declared.line.Line.TheVariants as line
use Rattle.jos_base.specs.declared.memory.Access.{Access}
use Rattle.jos_base.specs.declared.memory.PageFault.{PageFault}
use Rattle.jos_base.specs.declared.numbers.TheConstants.{T_BRKPT, T_GPFLT, T_PGFLT, T_SERVICE}
use Rattle.jos_base.specs.Environments.{is_live}
use Rattle.jos_base.specs.KernelState.{KernelState, slot_at, with_registers}
use Rattle.jos_base.specs.SpacesState.{SpacesState}
use Rattle.jos_base.specs.SystemCalls.{Trapped, handled, delivered_to, deliver_fault, trapped_by, killed}
use Rattle.jos_cpu.specs.declared.events.Event.{Event}
use Rattle.jos_cpu.specs.declared.events.Event.TheVariants.{Next, Soft, Raised}
use Rattle.jos_cpu.specs.declared.events.Gates.TheVariants.{Run}
use Rattle.jos_cpu.specs.Steps as cpu
use Rattle.jos_cpu.proofs.Agreement.{Agrees}
use Rattle.jos_cpu.proofs.Through.{step_through}
use Rattle.jos_kernel.specs.Running.{Running, user_memory, loaded_in, touched_in, stored_in_space}
use Rattle.jos_kernel.specs.Steps.{EnvStep, trapped, after_trap}
use Rattle.lib_os.specs.Fence.{is_resident}
use Rattle.lib_os.specs.InOrder.{HasOneUse, IsInOrder}
use Rattle.lib_os.specs.Need.{EachHasUse}
use Rattle.lib_os.proofs.UsesCalled.{killed_found, handled_found}
use Rattle.lib_os.proofs.UsesFound.{touched_found, stored_found}
use Rattle.lib_os.proofs.UsesKept.{touched_kept, stored_kept}
use Rattle.jos_run.specs.FencedMemory.{fenced_memory}
use Rattle.jos_run.specs.GuestSteps.{quietly, service_entered, after_event, guest_instruction}

-- each frame has one use at the most, and each that is handed out has one
record AreUsed (s : SpacesState) : Type 0 where
  frames : HasOneUse s
  each : EachHasUse s

-- ---- the instruction

reached_used : (s : KernelState) (d : Option ℕ) (va : ℕ) (access : Access) → AreUsed s.spaces →
    AreUsed (touched_in s d va access).spaces
reached_used s None va access h = h
reached_used s (Some d) va access h = record {
  frames = touched_kept s.spaces d va access h.frames;
  each = touched_found s.spaces d va access h.each;
}

stored_used : (s : KernelState) (d : Option ℕ) (va byte : ℕ) → AreUsed s.spaces → AreUsed (stored_in_space s d va byte).spaces
stored_used s None va byte h = h
stored_used s (Some d) va byte h = record {
  frames = stored_kept s.spaces d va byte h.frames;
  each = stored_found s.spaces d va byte h.each;
}

agrees : Agrees fenced_memory fenced_memory (λ (m : Running). m) (λ (m : Running). AreUsed m.state.spaces)
unfolding fenced_memory user_memory
agrees = record {
  byte = λ m h va. refl;
  allowed = λ m h va access. refl;
  fault = λ m h va access off. refl;
  reached = λ m h va access on. (reached_used m.state m.directory va access h, refl);
  stored = λ m h va byte small. (stored_used m.state m.directory va byte h, refl);
}

-- ---- what comes of it

step_by : (c : Bool) (a b : EnvStep) → EachHasUse a.state.spaces → EachHasUse b.state.spaces →
    EachHasUse (if◌then◌else◌ {A = EnvStep} c a b).state.spaces
step_by true a b h k = h
step_by false a b h k = k

module _ (s : KernelState) (n : ℕ) (h : AreUsed s.spaces) where
  delivered_uses : (fault : PageFault) (after : Option KernelState) → handled s n fault ≡ after →
      EachHasUse (delivered_to s n fault after).state.spaces
  delivered_uses fault (Some after) is = handled_found s n fault after h.each is
  delivered_uses fault None is =
      killed_found s n (line.UserFault fault.va (slot_at s n).registers.eip) h.frames h.each

  trapped_uses : (trap error va ip : ℕ) → EachHasUse (trapped s n trap error va ip).state.spaces
  trapped_uses trap error va ip = by_number (trap == T_PGFLT)
    where
      fault : PageFault
      fault = record { va = va; error = error }

      by_number : (c : Bool) →
          EachHasUse
          (if◌then◌else◌ {A = Trapped} c (deliver_fault s n fault) (trapped_by (killed s n (line.Trap trap error ip)))).state.spaces
      by_number true = delivered_uses fault (handled s n fault) refl
      by_number false = killed_found s n (line.Trap trap error ip) h.frames h.each

  event_uses : (ip : ℕ) (event : Event) → EachHasUse (after_event s n ip event).state.spaces
  event_uses ip Next =
      step_by (is_resident (slot_at s n).registers.esp) (after_trap s n T_GPFLT 0 0 ip) (quietly s)
      (trapped_uses T_GPFLT 0 0 ip) h.each
  event_uses ip (Soft vector) =
      let eip = (slot_at s n).registers.eip in
      step_by (vector == T_SERVICE) (service_entered s n) (after_trap s n T_BRKPT 0 0 eip) h.each (trapped_uses T_BRKPT 0 0 eip)
  event_uses ip (Raised trap error va) = trapped_uses trap error va ip

-- ---- the step

pub guest_uses : (s : KernelState) (n : ℕ) → IsInOrder s → is_live (slot_at s n) ≡ true → EachHasUse s.spaces →
    EachHasUse (guest_instruction s n).state.spaces
unfolding guest_instruction
guest_uses s n order live each =
    let slot = slot_at s n in
    let start = loaded_in s slot.directory in
    let step = cpu.step_of fenced_memory slot.registers start Run in
    let used = (step_through agrees slot.registers start Run (record { frames = order.frames; each = each })).0 in
    event_uses (with_registers step.memory.state n step.regs) n used slot.registers.eip step.event
