-- A step of a program takes no frame from the list: it reads and writes what is there, and where it ends its environment, frames are
-- given back.
use Rattle.std.proofs.Common.{◌≡◌, ◌==◌, ◌+◌, ◌≤◌, ℕ, Bool, true, false, List, Option, Some, None, Result, Ok, Err, IfSome, refl, sym, ap, subst, arith}
use Rattle.std.proofs.Common.{length, if◌then◌else◌}
use Rattle.jos_base.specs.declared.line.Line.{Line}
use Rattle.jos_base.specs.declared.line.Line.TheVariants as line
use Rattle.jos_base.specs.declared.memory.Access.{Access}
use Rattle.jos_base.specs.declared.memory.Access.TheVariants.{Write}
use Rattle.jos_base.specs.declared.memory.PageFault.{PageFault}
use Rattle.jos_base.specs.declared.numbers.TheConstants.{T_BRKPT, T_GPFLT, T_PGFLT, T_SERVICE}
use Rattle.jos_base.specs.declared.registers.Regs.{Regs}
use Rattle.jos_base.specs.KernelState.{KernelState, slot_at, with_registers}
use Rattle.jos_base.specs.Reach.{FrameOffset}
use Rattle.jos_base.specs.SystemCalls.{Trapped, handler_entered, handled_at, handled, delivered_to, deliver_fault, trapped_by, killed}
use Rattle.jos_base.specs.TrapFrames.{upcall_place}
use Rattle.jos_base.specs.UserMemory.{reach_in, touched, stored_byte}
use Rattle.jos_cpu.specs.declared.events.Event.{Event}
use Rattle.jos_cpu.specs.declared.events.Event.TheVariants.{Next, Soft, Raised}
use Rattle.jos_cpu.specs.declared.events.Gates.TheVariants.{Run}
use Rattle.jos_cpu.specs.Steps.{Stepped, step_of}
use Rattle.jos_cpu.proofs.Agreement.{Agrees}
use Rattle.jos_cpu.proofs.Through.{step_through}
use Rattle.jos_kernel.specs.Running.{Running, user_memory, loaded_in, touched_in, stored_in_space}
use Rattle.jos_kernel.specs.Steps.{EnvStep, trapped}
use Rattle.lib_os.specs.declared.place.Place.{Place}
use Rattle.lib_os.specs.declared.place.Place.TheVariants as place
use Rattle.lib_os.specs.Fence.{is_resident}
use Rattle.lib_os.specs.LibrarySteps.{TakesAtMost, TakesByPlace, frames_at}
use Rattle.lib_os.specs.Places.{place_of}
use Rattle.lib_os.proofs.FreeFrames.{destroyed_more, stored_free, touched_free}
use Rattle.jos_run.specs.FencedMemory.{fenced_memory}
use Rattle.jos_run.specs.GuestSteps.{after_event, after_instruction, guest_instruction}

module _ (s : KernelState) (n : ℕ) where
  -- none is taken up to a state
  abbrev Takes : KernelState → Type 0
  Takes t = TakesAtMost 0 s.spaces t.spaces

  -- where the same frames are free still
  same_takes : (t : KernelState) → Takes t → (free : List ℕ) → free ≡ t.spaces.free → length s.spaces.free ≤ length free + 0
  same_takes t h free same = let long = ap (λ (l : List ℕ). length l) same in omega (arith, h, long)

  killed_takes : (t : KernelState) → Takes t → (why : Line) → Takes (killed t n why).state
  unfolding killed
  killed_takes t h why = let more = destroyed_more t.spaces (slot_at t n).directory in omega (arith, h, more)

  -- ---- traps

  entered_takes : (t : KernelState) → Takes t → (fault : PageFault) (place : ℕ) (reached : Result FrameOffset PageFault) →
      IfSome (handler_entered t n fault place reached) Takes
  entered_takes t h fault place (Err refusal) = tt
  entered_takes t h fault place (Ok at) = same_takes t h _ (touched_free t.spaces (slot_at t n).directory place Write)

  handled_takes : (t : KernelState) → Takes t → (fault : PageFault) → IfSome (handled t n fault) Takes
  unfolding handled
  handled_takes t h fault = by_upcall ((slot_at t n).upcall == 0) (upcall_place (slot_at t n).registers.esp)
    where
      by_upcall : (c : Bool) (place : Option ℕ) → IfSome (if c then None else handled_at t n fault place) Takes
      by_upcall true place = tt
      by_upcall false None = tt
      by_upcall false (Some place) = entered_takes t h fault place (reach_in t.spaces (slot_at t n).directory place Write)

  delivered_takes : (t : KernelState) → Takes t → (fault : PageFault) (after : Option KernelState) → IfSome after Takes →
      Takes (delivered_to t n fault after).state
  delivered_takes t h fault (Some after) takes = takes
  delivered_takes t h fault None takes = killed_takes t h (line.UserFault fault.va (slot_at t n).registers.eip)

  trap_takes : (t : KernelState) → Takes t → (trap error va ip : ℕ) → Takes (trapped t n trap error va ip).state
  trap_takes t h trap error va ip = by_number (trap == T_PGFLT)
    where
      by_number : (c : Bool) →
          Takes (if◌then◌else◌ {A = Trapped} c (deliver_fault t n (record { va = va; error = error })) (trapped_by (killed t n (line.Trap trap error ip)))).state
      by_number true =
          delivered_takes t h (record { va = va; error = error }) (handled t n (record { va = va; error = error }))
          (handled_takes t h (record { va = va; error = error }))
      by_number false = killed_takes t h (line.Trap trap error ip)

  -- ---- the instruction

  step_by : (c : Bool) (a b : EnvStep) → Takes a.state → Takes b.state → Takes (if◌then◌else◌ {A = EnvStep} c a b).state
  step_by true a b h k = h
  step_by false a b h k = k

  event_takes : (t : KernelState) → Takes t → (ip : ℕ) (event : Event) → Takes (after_event t n ip event).state
  event_takes t h ip Next = step_by (is_resident (slot_at t n).registers.esp) _ _ (trap_takes t h T_GPFLT 0 0 ip) h
  event_takes t h ip (Soft vector) = step_by (vector == T_SERVICE) _ _ h (trap_takes t h T_BRKPT 0 0 (slot_at t n).registers.eip)
  event_takes t h ip (Raised trap error va) = trap_takes t h trap error va ip

  touched_takes : (t : KernelState) → Takes t → (o : Option ℕ) (va : ℕ) (access : Access) → Takes (touched_in t o va access)
  touched_takes t h None va access = h
  touched_takes t h (Some d) va access = same_takes t h (touched t.spaces d va access).free (touched_free t.spaces d va access)

  stored_takes : (t : KernelState) → Takes t → (o : Option ℕ) (va byte : ℕ) → Takes (stored_in_space t o va byte)
  stored_takes t h None va byte = h
  stored_takes t h (Some d) va byte = same_takes t h (stored_byte t.spaces d va byte).free (stored_free t.spaces d va byte)

  memory_takes : (regs : Regs) (m : Running) → Takes m.state → Takes (step_of fenced_memory regs m Run).memory.state
  unfolding fenced_memory user_memory
  memory_takes regs m h = (step_through keeps regs m Run h).0
    where
      keeps : Agrees fenced_memory fenced_memory (λ (x : Running). x) (λ (x : Running). Takes x.state)
      keeps = record {
        byte = λ x h va. refl;
        allowed = λ x h va access. refl;
        fault = λ x h va access off. refl;
        reached = λ x h va access on. (touched_takes x.state h x.directory va access, refl);
        stored = λ x h va byte small. (stored_takes x.state h x.directory va byte, refl);
      }

  stepped_takes : (ip : ℕ) (step : Stepped Running) → Takes step.memory.state → Takes (after_instruction n ip step).state
  stepped_takes ip step h = event_takes (with_registers step.memory.state n step.regs) h ip step.event

  instruction_takes : Takes (guest_instruction s n).state
  unfolding guest_instruction
  instruction_takes =
      let k = slot_at s n in
      stepped_takes k.registers.eip (step_of fenced_memory k.registers (loaded_in s k.directory) Run)
      (memory_takes k.registers (loaded_in s k.directory) (omega arith))

-- At its program none may be taken, and none is.
pub guest_takes : (s after : KernelState) (n : ℕ) → place_of (slot_at s n) ≡ place.Guest → after ≡ (guest_instruction s n).state →
    TakesByPlace n s after
guest_takes s after n guest is a h =
    subst (λ (p : Place). TakesAtMost (frames_at p) s.spaces after.spaces) (sym guest)
    (subst (λ (t : KernelState). TakesAtMost 0 s.spaces t.spaces) (sym is) (instruction_takes s n))
