-- One step of a slot of the abstract system, and when a slot may wait in place of a step.
use Rattle.std.specs.Prelude.{ℕ, ◌==◌, ◌&&◌, ◌||◌, nat_lt, not, is_none, is_some, Bool, true, false, List, [], ◌∷◌, length, Option, Some, None}
use Rattle.std.specs.Prelude.{if◌then◌else◌}
use Rattle.jos_base.specs.declared.line.Line.TheVariants as line
use Rattle.jos_base.specs.declared.numbers.TheConstants.{NENV}
use Rattle.lib_os.specs.declared.numbers.TheConstants.{PIPEBUFSIZ, SHORT_QUANTUM}
use Rattle.lib_os.specs.declared.service.Service.{Service}
use Rattle.lib_os.specs.declared.service.Service.TheVariants as service
use Rattle.lib_os.specs.AbstractState.{AbstractState, Born, AbstractSlot, free, unborn, born, serving, ProgramState, guest, shell, Phase, at_guest, faulted, in_service}
use Rattle.lib_os.specs.AbstractState.{Server, idle, acted, is_idle, Object, read_end, write_end}
use Rattle.jos_base.specs.Below.{some_below}
use Rattle.lib_os.specs.GuestStep.{guest_step, ends_with, born_in}
use Rattle.lib_os.specs.MemoryServices.{lives}
use Rattle.lib_os.specs.Descriptors.{object_of}
use Rattle.lib_os.specs.AbstractPipes.{is_read_end, is_write_end, is_such_held, holds_such}
use Rattle.lib_os.specs.FileServer.{server_step}
use Rattle.lib_os.specs.LibraryCall.{library_step}

-- ---- a step

-- The shell's steps are told with its script.
abbrev pub program_step : AbstractState → ℕ → Born → ProgramState → Phase → Option AbstractState
program_step a n b (guest regs) at_guest = Some (guest_step a n regs)
program_step a n b (guest regs) (faulted va ip) = Some (ends_with a n b (line.UserFault va ip))
program_step a n b (guest regs) (in_service service stage) = library_step a n b regs service stage
program_step a n b (shell place) phase = None

abbrev pub slot_step : AbstractState → ℕ → AbstractSlot → Option AbstractState
slot_step a n (free id) = None
slot_step a n (unborn id parent) = None
slot_step a n (born b) = if b.blocked then None else program_step a n b b.program b.phase
slot_step a n (serving id) = server_step a

-- the step of a slot; None where it has none
unfoldable pub abs_step : AbstractState → ℕ → Option AbstractState
abs_step a n = slot_step a n (a.slots n)

-- ---- waiting

-- It has no step, and would have one if the server were idle: it is about to ask.
abbrev pub waits_to_ask : AbstractState → ℕ → Bool
waits_to_ask a n = not (is_idle a.server) && is_none (abs_step a n) && is_some (abs_step (record a { server = idle }) n)

-- the pipe of an object, if it is the end of one
abbrev pub pipe_of : Option Object → Option ℕ
pipe_of (Some (read_end pipe)) = Some pipe
pipe_of (Some (write_end pipe)) = Some pipe
pipe_of _ = None

-- the descriptor that a service reads, writes or is told of
abbrev pub moved_descriptor : Service → Option ℕ
moved_descriptor (service.Read fd va len) = Some fd
moved_descriptor (service.Write fd va len) = Some fd
moved_descriptor (service.Stat fd va) = Some fd
moved_descriptor _ = None

abbrev pub pipe_at : AbstractState → Born → Option ℕ → Option ℕ
pipe_at a b None = None
pipe_at a b (Some fd) = pipe_of (object_of a b fd)

abbrev pub service_of_phase : Phase → Option Service
service_of_phase (in_service service stage) = Some service
service_of_phase _ = None

abbrev pub pipe_in : AbstractState → Born → Option Service → Option ℕ
pipe_in a b None = None
pipe_in a b (Some service) = pipe_at a b (moved_descriptor service)

-- the pipe that an environment is reading, writing or asking about
abbrev pub pipe_moved : AbstractState → Option Born → Option ℕ
pipe_moved a None = None
pipe_moved a (Some b) = pipe_in a b (service_of_phase b.phase)

abbrev pub is_pipe : ℕ → Option ℕ → Bool
is_pipe pipe None = false
is_pipe pipe (Some other) = pipe == other

-- another slot is inside read, write or stat on the pipe
abbrev pub is_moved_by_another : AbstractState → ℕ → ℕ → Bool
is_moved_by_another a n pipe = some_below NENV (λ m. not (m == n) && is_pipe pipe (pipe_moved a (born_in (a.slots m))))

-- services that give ends of pipes on, or drop them
abbrev pub changes_holders : Option Service → Bool
changes_holders (Some service.Fork) = true
changes_holders (Some (service.Spawn path argv)) = true
changes_holders (Some (service.Dup old new)) = true
changes_holders (Some (service.Close fd)) = true
changes_holders (Some service.Exit) = true
changes_holders _ = false

abbrev pub is_pipe_end : ℕ → Object → Bool
is_pipe_end pipe object = is_read_end pipe object || is_write_end pipe object

abbrev pub is_changing : AbstractState → ℕ → Option Born → Bool
is_changing a pipe None = false
is_changing a pipe (Some b) = holds_such a (is_pipe_end pipe) (Some b) && changes_holders (service_of_phase b.phase)

-- a slot that holds an end of the pipe is about to give it on, or to drop it
abbrev pub is_changed : AbstractState → ℕ → Bool
is_changed a pipe = some_below NENV (λ m. is_changing a pipe (born_in (a.slots m)))

-- the other end may still be open, as far as can be seen in a turn of this length
abbrev pub may_be_open : AbstractState → ℕ → (Object → Bool) → ℕ → Bool
may_be_open a pipe other quantum = is_such_held a other || is_changed a pipe || nat_lt quantum SHORT_QUANTUM

abbrev pub read_may_wait : AbstractState → ℕ → ℕ → List ℕ → Bool
read_may_wait a pipe quantum [] = may_be_open a pipe (is_write_end pipe) quantum
read_may_wait a pipe quantum (byte ∷ rest) = false

abbrev pub write_may_wait : AbstractState → ℕ → ℕ → Bool
write_may_wait a pipe quantum =
    not (nat_lt (length (a.pipes pipe)) PIPEBUFSIZ) && may_be_open a pipe (is_read_end pipe) quantum

abbrev pub pipe_may_wait : AbstractState → ℕ → Service → Option ℕ → ℕ → Bool
pipe_may_wait a n service None quantum = false
pipe_may_wait a n (service.Read fd va len) (Some pipe) quantum =
    read_may_wait a pipe quantum (a.pipes pipe) || is_moved_by_another a n pipe
pipe_may_wait a n (service.Write fd va len) (Some pipe) quantum =
    write_may_wait a pipe quantum || is_moved_by_another a n pipe
pipe_may_wait a n _ (Some pipe) quantum = is_moved_by_another a n pipe

abbrev pub service_may_wait : AbstractState → ℕ → Born → Service → ℕ → Bool
service_may_wait a n b (service.Wait id) quantum = lives a id && is_none (abs_step a n)
service_may_wait a n b (service.Send id value va) quantum = lives a id && is_none (abs_step a n)
service_may_wait a n b service quantum =
    waits_to_ask a n || pipe_may_wait a n service (pipe_at a b (moved_descriptor service)) quantum

abbrev pub phase_may_wait : AbstractState → ℕ → Born → Phase → ℕ → Bool
phase_may_wait a n b (in_service service stage) quantum = service_may_wait a n b service quantum
phase_may_wait a n b _ quantum = false

-- the server waits with its reply until its client does
abbrev pub reply_may_wait : Server → Option AbstractState → Bool
reply_may_wait (acted client answer bytes object) None = true
reply_may_wait _ _ = false

abbrev pub slot_may_wait : AbstractState → ℕ → AbstractSlot → ℕ → Bool
slot_may_wait a n (free id) quantum = false
slot_may_wait a n (unborn id parent) quantum = false
slot_may_wait a n (born b) quantum = phase_may_wait a n b b.phase quantum
slot_may_wait a n (serving id) quantum = reply_may_wait a.server (abs_step a n)

-- whether the slot may spend steps of a turn of this length without one of its own
unfoldable pub may_wait : AbstractState → ℕ → ℕ → Bool
may_wait a n quantum = slot_may_wait a n (a.slots n) quantum
