-- One step of an environment: an instruction with the system call or the trap that it raises.
-- (MIT 6.828, kern/trap.c, and inc/trap.h for the gates.)
use Rattle.std.specs.Prelude.{ℕ, ◌==◌, ◌&&◌, Bool, List, [], is_some, Option, Some, None, if◌then◌else◌}
use Rattle.jos_base.specs.declared.line.Line.TheVariants as line
use Rattle.jos_base.specs.declared.numbers.TheConstants.{T_BRKPT, T_PGFLT, T_SYSCALL}
use Rattle.jos_base.specs.KernelState.{KernelState, slot_at, with_registers}
use Rattle.jos_base.specs.SystemCalls.{Did, Trapped, system_call, handled, deliver_fault, killed, trapped_by}
use Rattle.jos_cpu.specs.declared.events.Event.{Event}
use Rattle.jos_cpu.specs.declared.events.Event.TheVariants.{Next, Soft, Raised}
use Rattle.jos_cpu.specs.declared.events.Gates.TheVariants.{Exo}
use Rattle.jos_cpu.specs.Steps as cpu
use Rattle.jos_kernel.specs.declared.trace.TrapLine.{TrapLine}
use Rattle.jos_kernel.specs.Running.{Running, user_memory}

-- what a step of an environment leaves, what it writes to the console, and the trap that it raised, if it raised one
pub record EnvStep : Type 0 where
  pub state : KernelState
  pub written : List ℕ
  pub trap : Option TrapLine

abbrev pub after_call : Did → EnvStep
after_call did = record { state = did.state; written = did.written; trap = None }

-- a page fault may have a handler; any other trap ends the environment
abbrev pub trapped : KernelState → ℕ → ℕ → ℕ → ℕ → ℕ → Trapped
trapped s n trap error va ip =
    if trap == T_PGFLT then deliver_fault s n (record { va = va; error = error })
    else trapped_by (killed s n (line.Trap trap error ip))

abbrev pub after_trap : KernelState → ℕ → ℕ → ℕ → ℕ → ℕ → EnvStep
after_trap s n trap error va ip =
    let done = trapped s n trap error va ip in record {
      state = done.state;
      written = done.written;
      trap = Some (record { id = (slot_at s n).id; trap = trap; error = error; va = va; ip = ip });
    }

-- It is a page fault with which the environment's handler goes on, so that nobody is ended by it.
abbrev pub is_handed : KernelState → ℕ → ℕ → ℕ → ℕ → Bool
is_handed s n trap error va = (trap == T_PGFLT) && is_some (handled s n (record { va = va; error = error }))

-- After an instruction of the environment in slot n, whose registers stand in its slot. A trap leaves EIP at the
-- instruction; the breakpoint is told for the address after it.
abbrev pub after_event : KernelState → ℕ → Event → EnvStep
after_event s n Next = record { state = s; written = []; trap = None }
after_event s n (Soft vector) =
    if vector == T_SYSCALL then after_call (system_call s n) else after_trap s n T_BRKPT 0 0 (slot_at s n).registers.eip
after_event s n (Raised trap error va) = after_trap s n trap error va (slot_at s n).registers.eip

abbrev pub after_instruction : ℕ → cpu.Stepped Running → EnvStep
after_instruction n s = after_event (with_registers s.memory.state n s.regs) n s.event

-- the environment in slot n makes one step, in its own space
unfoldable pub env_step : KernelState → ℕ → EnvStep
env_step s n = after_instruction n (cpu.step_of user_memory (slot_at s n).registers
    (record { state = s; directory = Some (slot_at s n).directory }) Exo)
