-- One step of a program under the library, as the kernel makes it: an instruction over the memory inside the fence, with
-- what comes of it.
use Rattle.std.specs.Prelude.{ℕ, ◌==◌, ◌&&◌, Bool, false, [], None, if◌then◌else◌}
use Rattle.jos_base.specs.declared.numbers.TheConstants.{T_BRKPT, T_GPFLT, T_PGFLT, T_SERVICE}
use Rattle.jos_base.specs.KernelState.{KernelState, slot_at, with_registers, with_extra}
use Rattle.jos_base.specs.Words.{page_number}
use Rattle.jos_cpu.specs.declared.events.Event.{Event}
use Rattle.jos_cpu.specs.declared.events.Event.TheVariants.{Next, Soft, Raised}
use Rattle.jos_cpu.specs.declared.events.Gates.TheVariants.{Run}
use Rattle.jos_cpu.specs.Steps as cpu
use Rattle.lib_os.specs.Fence.{is_resident}
use Rattle.lib_os.specs.LibrarySteps.{is_to_copy}
use Rattle.lib_os.specs.Places.{words_entered}
use Rattle.lib_os.specs.Rows.{rows_of}
use Rattle.lib_os.specs.StandsInHandler.{is_write}
use Rattle.jos_kernel.specs.Running.{Running, loaded_in}
use Rattle.jos_kernel.specs.Steps.{EnvStep, after_trap, is_handed}
use Rattle.jos_run.specs.FencedMemory.{fenced_memory}

-- nothing is written, and no trap was raised
abbrev pub quietly : KernelState → EnvStep
quietly s = record { state = s; written = []; trap = None }

-- An instruction is done, by the one at `ip`: the program goes on, but where its stack pointer has come to lie among the
-- library's own stacks.
abbrev pub goes_on : KernelState → ℕ → ℕ → EnvStep
goes_on s n ip = if is_resident (slot_at s n).registers.esp then after_trap s n T_GPFLT 0 0 ip else quietly s

-- INT 0x40 is the first step of a service, whose number is kept.
abbrev pub service_entered : KernelState → ℕ → EnvStep
service_entered s n = quietly (with_extra s n (words_entered (slot_at s n).registers))

-- After the instruction at `ip` of the environment in slot n, whose registers stand in its slot. A trap leaves EIP at the
-- instruction; the breakpoint is told for the address after it.
abbrev pub after_event : KernelState → ℕ → ℕ → Event → EnvStep
after_event s n ip Next = goes_on s n ip
after_event s n ip (Soft vector) =
    if vector == T_SERVICE then service_entered s n else after_trap s n T_BRKPT 0 0 (slot_at s n).registers.eip
after_event s n ip (Raised trap error va) = after_trap s n trap error va ip

abbrev pub after_instruction : ℕ → ℕ → cpu.Stepped Running → EnvStep
after_instruction n ip s = after_event (with_registers s.memory.state n s.regs) n ip s.event

-- the program in slot n makes an instruction, in its own space
unfoldable pub guest_instruction : KernelState → ℕ → EnvStep
guest_instruction s n =
    let slot = slot_at s n in
    after_instruction n slot.registers.eip (cpu.step_of fenced_memory slot.registers (loaded_in s slot.directory) Run)

-- ---- what is seen of it

-- The instruction of the program in slot n has written to a page that is copied when it is written, and so has raised a page fault:
-- the handler copies the page, and nobody sees either.
abbrev pub is_copying : KernelState → ℕ → Event → Bool
is_copying s n (Raised trap error va) =
    (trap == T_PGFLT) && (is_write error && is_to_copy (rows_of s.spaces (slot_at s n).directory (page_number va)))
is_copying s n _ = false

-- It has raised a page fault with which the environment's handler goes on, so that nobody is ended by it.
abbrev pub is_handed_over : KernelState → ℕ → Event → Bool
is_handed_over s n (Raised trap error va) = is_handed s n trap error va
is_handed_over s n _ = false
