-- One step of a program that runs no service: an instruction, as the processor makes it, over the memory of its
-- environment and within the fence.
use Rattle.std.specs.Prelude.{ℕ, ◌==◌, ◌&&◌, Bool, false, Option, Some, None, if◌then◌else◌}
use Rattle.jos_base.specs.declared.registers.Regs.{Regs}
use Rattle.jos_base.specs.declared.line.Line.{Line}
use Rattle.jos_base.specs.declared.line.Line.TheVariants as line
use Rattle.jos_base.specs.declared.memory.Access.{Access}
use Rattle.jos_base.specs.declared.numbers.TheConstants.{T_BRKPT, T_GPFLT, T_PGFLT, T_SERVICE}
use Rattle.jos_base.specs.Lines.{line_text}
use Rattle.jos_cpu.specs.declared.events.Event.{Event}
use Rattle.jos_cpu.specs.declared.events.Event.TheVariants.{Next, Soft, Raised}
use Rattle.jos_cpu.specs.declared.events.Gates.TheVariants.{Run}
use Rattle.jos_cpu.specs.declared.memory.MemFault.{MemFault}
use Rattle.jos_cpu.specs.declared.memory.MemFault.TheVariants.{Page, Fence}
use Rattle.jos_cpu.specs.Memory.{Memory}
use Rattle.jos_cpu.specs.Steps as cpu
use Rattle.lib_os.specs.AbstractState.{AbstractState, Born, AbstractSlot, free, unborn, born, serving, guest, faulted, in_service, entered, with_born}
use Rattle.lib_os.specs.AbstractMemory.{byte_at, page_at, page_allows, page_fault, stored, ended_with}
use Rattle.lib_os.specs.Fence.{is_inside, is_resident}
use Rattle.lib_os.specs.Services.{service_of}

-- ---- the memory that the processor sees

-- the state, and the slot whose memory it is
pub record GuestMemory : Type 0 where
  pub state : AbstractState
  pub slot : ℕ

-- the environment in a slot that has one
abbrev pub born_in : AbstractSlot → Option Born
born_in (free id) = None
born_in (unborn id parent) = None
born_in (born b) = Some b
born_in (serving id) = None

abbrev pub guest_byte : AbstractState → Option Born → ℕ → ℕ
guest_byte a None va = 0
guest_byte a (Some b) va = byte_at a b va

-- the fence is looked at before the page
abbrev pub guest_allows : Option Born → ℕ → Access → Bool
guest_allows None va access = false
guest_allows (Some b) va access = is_inside va && page_allows (page_at b va) access

abbrev pub guest_fault : Option Born → ℕ → Access → MemFault
guest_fault None va access = Fence
guest_fault (Some b) va access = if is_inside va then Page (page_fault (page_at b va) va access) else Fence

abbrev pub guest_stored : AbstractState → ℕ → Option Born → ℕ → ℕ → AbstractState
guest_stored a n None va byte = a
guest_stored a n (Some b) va byte = stored a n b va byte

-- Reaching a byte changes nothing: an abstract page has no accessed and dirty bits.
unfoldable pub guest_memory : Memory GuestMemory
guest_memory = record {
  byte = λ m va. guest_byte m.state (born_in (m.state.slots m.slot)) va;
  allowed = λ m va access. guest_allows (born_in (m.state.slots m.slot)) va access;
  fault = λ m va access. guest_fault (born_in (m.state.slots m.slot)) va access;
  reached = λ m va access. m;
  stored = λ m va byte. record m { state = guest_stored m.state m.slot (born_in (m.state.slots m.slot)) va byte };
}

-- ---- what comes of an instruction

abbrev pub ends_with : AbstractState → ℕ → Born → Line → AbstractState
ends_with a n b why = ended_with a n b (line_text b.id why)

abbrev pub fence_line : ℕ → Line
fence_line ip = line.Trap T_GPFLT 0 ip

-- An instruction that is done, by the one at `ip`: the program goes on, but where its stack pointer has come to lie
-- among the library's own stacks.
abbrev pub goes_on : AbstractState → ℕ → Born → ℕ → Regs → AbstractState
goes_on a n b ip regs =
    if is_resident regs.esp then ends_with a n b (fence_line ip)
    else with_born a n (record b { program = guest regs })

-- INT 0x40 is the first step of a service.
abbrev pub service_entered : AbstractState → ℕ → Born → Regs → AbstractState
service_entered a n b regs =
    with_born a n (record b { program = guest regs; phase = in_service (service_of regs) entered; spawning = None })

-- A page fault marks the environment, and its next step ends it; any other trap ends it at once.
abbrev pub trapped : AbstractState → ℕ → Born → ℕ → ℕ → ℕ → ℕ → AbstractState
trapped a n b ip trap error va =
    if trap == T_PGFLT then with_born a n (record b { phase = faulted va ip }) else ends_with a n b (line.Trap trap error ip)

abbrev pub after_event : AbstractState → ℕ → Born → ℕ → Regs → Event → AbstractState
after_event a n b ip regs Next = goes_on a n b ip regs
after_event a n b ip regs (Soft vector) =
    if vector == T_SERVICE then service_entered a n b regs else ends_with a n b (line.Trap T_BRKPT 0 regs.eip)
after_event a n b ip regs (Raised trap error va) = trapped a n b ip trap error va

-- what the writes of the instruction left of the environment itself
abbrev pub after_writes : AbstractState → ℕ → ℕ → Regs → Event → Option Born → AbstractState
after_writes a n ip regs event None = a
after_writes a n ip regs event (Some b) = after_event a n b ip regs event

abbrev pub after_instruction : ℕ → ℕ → cpu.Stepped GuestMemory → AbstractState
after_instruction n ip s = after_writes s.memory.state n ip s.regs s.event (born_in (s.memory.state.slots n))

-- The environment in slot n makes an instruction with these registers.
unfoldable pub guest_step : AbstractState → ℕ → Regs → AbstractState
guest_step a n regs = after_instruction n regs.eip (cpu.step_of guest_memory regs (record { state = a; slot = n }) Run)
