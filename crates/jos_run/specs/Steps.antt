-- One step of an environment that the library serves: of its program, or of the service that it is in.
use Rattle.std.specs.Prelude.{◌≡◌, ℕ, ◌+◌, ◌%◌, ◌^◌, Bool, true, false, ◌||◌, Option, Some, None, is_some, Result, Ok, Err, IfOk, if◌then◌else◌}
use Rattle.jos_host.specs.declared.host.Failed.{Failed}
use Rattle.jos_base.specs.declared.environment.Status.{Status}
use Rattle.jos_base.specs.declared.numbers.TheConstants.{FEC_PR, FEC_U, FEC_WR, T_PGFLT}
use Rattle.jos_base.specs.Environments.{is_runnable, is_running}
use Rattle.jos_base.specs.KernelState.{KernelState, slot_at}
use Rattle.jos_base.specs.Reach.{Entry}
use Rattle.jos_base.specs.Words.{page_number}
use Rattle.jos_kernel.specs.declared.trace.TrapLine.{TrapLine}
use Rattle.lib_os.specs.declared.place.HandlerStep.{HandlerStep}
use Rattle.lib_os.specs.declared.place.HandlerStep.TheVariants as handler
use Rattle.lib_os.specs.declared.place.Place.{Place}
use Rattle.lib_os.specs.declared.place.Place.TheVariants as place
use Rattle.lib_os.specs.declared.place.Step.{Step}
use Rattle.lib_os.specs.declared.place.Step.TheVariants as step
use Rattle.lib_os.specs.declared.progress.Progress.{Progress}
use Rattle.lib_os.specs.declared.service.Service.{Service}
use Rattle.lib_os.specs.declared.service.Service.TheVariants as service
use Rattle.lib_os.specs.declared.spawn_steps.GivenStep.{GivenStep}
use Rattle.lib_os.specs.declared.spawn_steps.GivenStep.TheVariants as given
use Rattle.lib_os.specs.declared.spawn_steps.SpawnStep.TheVariants as spawn
use Rattle.lib_os.specs.Disk.{Disk}
use Rattle.lib_os.specs.LibrarySteps.{GivesUp, Leaves, Lowers, TakesByPlace, is_to_copy}
use Rattle.lib_os.specs.Places.{place_of}
use Rattle.lib_os.specs.Rows.{rows_of}
use Rattle.lib_os.specs.StandsFor.{writes_buffer}
use Rattle.lib_os.specs.StandsInHandler.{buffer_of}
use Rattle.lib_os.specs.UserCalls.{is_file_server}
use Rattle.lib_file.specs.Keeping.{next_va}
use Rattle.lib_given.specs.Addresses.{address_va}
use Rattle.jos_run.specs.declared.steps.StepOutcome.{StepOutcome}
use Rattle.jos_run.specs.GuestSteps.{guest_instruction}
use Rattle.jos_run.specs.ServerStands.{LeavesServed}

-- who may have steps
abbrev pub is_awake : Status → Bool
is_awake status = is_runnable status || is_running status

-- what a step has come to for those who see the abstract system
abbrev pub step_progress : Result StepOutcome Failed → Result Progress Failed
step_progress (Ok stepped) = Ok stepped.progress
step_progress (Err failed) = Err failed

-- the trap that a step of the handler of page faults raises: that of the program's instruction once more, where it ends by it
abbrev pub raised_again : KernelState → ℕ → HandlerStep → Option TrapLine
raised_again s n (handler.Touching va error ip) =
    Some (record { id = (slot_at s n).id; trap = T_PGFLT; error = error; va = va; ip = ip })
raised_again s n _ = None

-- the page fault of an access by the service of the environment in slot n, which stands behind its INT 0x40
abbrev pub fault_line : KernelState → ℕ → ℕ → ℕ → TrapLine
fault_line s n error va =
    record { id = (slot_at s n).id; trap = T_PGFLT; error = error; va = va; ip = (slot_at s n).registers.eip }

-- its error code, by whether the page is there and the access is a write
abbrev pub access_error : Bool → Bool → ℕ
access_error present write = FEC_U + (if present then FEC_PR else 0) + (if write then FEC_WR else 0)

-- the byte of its buffer that a service stands before, of which it has moved so many
abbrev pub next_byte : Service → ℕ → ℕ
next_byte service done = (buffer_of service + done) % 2 ^ 32

abbrev pub entry_at : KernelState → ℕ → ℕ → Option Entry
entry_at s n va = rows_of s.spaces (slot_at s n).directory (page_number va)

-- the page fault where the page into which a service puts its next byte waits to be copied, and that where it can't move that byte
abbrev pub copied_line : KernelState → ℕ → Service → ℕ → Option TrapLine
copied_line s n service done =
    let va = next_byte service done in
    if is_to_copy (entry_at s n va) then Some (fault_line s n (access_error true true) va) else None

abbrev pub refused_line : KernelState → ℕ → Service → ℕ → TrapLine
refused_line s n service done =
    let va = next_byte service done in
    fault_line s n (access_error (is_some (entry_at s n va)) (writes_buffer service)) va

-- that where spawn can't load a byte of what the program gives
abbrev pub unread_line : KernelState → ℕ → ℕ → TrapLine
unread_line s n va = fault_line s n (access_error (is_some (entry_at s n va)) false) va

abbrev pub raised_by_given : KernelState → ℕ → Service → GivenStep → Option TrapLine
raised_by_given s n (service.Spawn path argv) (given.AddressFaulting index done) = Some (unread_line s n (address_va argv index done))
raised_by_given s n (service.Spawn path argv) (given.StringFaulting address done) = Some (unread_line s n (next_va address done))
raised_by_given s n _ _ = None

-- the trap that a step of a service raises, which moves bytes of the console or of a file, or takes what a program gives
abbrev pub raised_by : KernelState → ℕ → Service → Step → Option TrapLine
raised_by s n service (step.Delivering done word) = copied_line s n service done
raised_by s n service (step.PuttingBytes done count word) = copied_line s n service done
raised_by s n service (step.Faulting done word) = Some (refused_line s n service done)
raised_by s n service (step.FileFaulting done count) = Some (refused_line s n service done)
raised_by s n service (step.Spawning (spawn.Given at)) = raised_by_given s n service at
raised_by s n service _ = None

-- A step of a program is its instruction, with the trap that this raises, if it raises one; so may an access of a service.
abbrev pub Raises : Place → ℕ → KernelState → Option TrapLine → KernelState → Type 0
Raises place.Guest n before trap after = (after ≡ (guest_instruction before n).state) × (trap ≡ (guest_instruction before n).trap)
Raises (place.InService service step) n before trap after = trap ≡ raised_by before n service step
Raises (place.InHandler step) n before trap after = trap ≡ raised_again before n step

-- ---- who makes it

-- The environment in slot n is the file server. (Wherever the state stands for an abstract one, that is the environment in slot 0.)
abbrev pub is_servers : KernelState → ℕ → Bool
is_servers s n = is_file_server (slot_at s n).env_type

-- The file server raises no trap.
abbrev pub RaisesAs : Bool → ℕ → KernelState → Option TrapLine → KernelState → Type 0
RaisesAs true n before trap after = trap ≡ None
RaisesAs false n before trap after = Raises (place_of (slot_at before n)) n before trap after

-- What a step of another leaves. It takes no more frames than may be taken where its environment stands. Where nobody sees it, it lowers a
-- number of the state, which no step of another raises, or is followed by one that gives up the turn.
pub record LeavesByPlace (did : Result Progress Failed) (n : ℕ) (before after : KernelState) : Type 0 where
  pub each : Leaves did n before after
  pub lowers : Lowers did n before after
  pub gives_up : GivesUp did (slot_at before n) (slot_at after n)
  pub takes : IfOk did (λ done. TakesByPlace n before after)

-- What a step leaves by whose it is: the file server's, which stands in slot 0, over the disk that the host tells, or another's.
abbrev pub LeavesAs : Bool → Option Disk → Result Progress Failed → ℕ → KernelState → KernelState → Type 0
LeavesAs true over did n before after = n ≡ 0 → LeavesServed over did before after
LeavesAs false over did n before after = LeavesByPlace did n before after
