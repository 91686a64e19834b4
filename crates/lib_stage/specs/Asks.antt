-- What an ask is: a call of the kernel, whose word is told as an answer.
use Rattle.std.specs.Prelude.{◌≡◌, ◌≢◌, ℕ, ◌%◌, Bool, true, false, List, [], ◌∷◌, Result, Ok, Err}
use Rattle.jos_base.specs.declared.called.Called.{Called}
use Rattle.jos_base.specs.declared.called.Called.TheVariants.{Answered, Ended}
use Rattle.jos_base.specs.declared.numbers.TheConstants.{SYS_CPUTS, SYS_EXOFORK}
use Rattle.jos_base.specs.declared.registers.Regs.{Regs}
use Rattle.jos_base.specs.KernelState.{KernelState, slot_at, with_registers}
use Rattle.jos_base.specs.SystemCalls.{may_print}
use Rattle.lib_os.specs.declared.user_os.Stop.{Stop}
use Rattle.lib_os.specs.declared.user_os.Stop.TheVariants as stop
use Rattle.lib_os.specs.LibrarySteps.{frames_asked}
use Rattle.lib_os.specs.UserCalls as call
use Rattle.lib_os.specs.UserCalls.{CallStep, Got, got, to_handler, gone, Output, Prints, PrintsPart}
use Rattle.lib_stage.specs.declared.ask.Ask.{Ask}
use Rattle.lib_stage.specs.declared.ask.Ask.TheVariants as ask

-- the words of a system call that is given none
abbrev pub no_args : List ℕ
no_args = 0 ∷ 0 ∷ 0 ∷ 0 ∷ 0 ∷ []

-- A system call is given its words in these registers, and a child that it makes has them there. So these are the words for a
-- child that has the registers of the environment.
abbrev pub as_given : Regs → List ℕ
as_given regs = regs.edx ∷ regs.ecx ∷ regs.ebx ∷ regs.edi ∷ regs.esi ∷ []

-- ---- what an ask comes to

abbrev pub got_as : {X : Type 0} → (X → ℕ) → Got X → Got Called
got_as word (got x) = got (Answered (word x))
got_as word to_handler = to_handler
got_as word gone = gone

abbrev pub told_as : {X : Type 0} → (X → ℕ) → CallStep X → CallStep Called
told_as word step = record { state = step.state; gives = got_as word step.gives; written = step.written }

-- the environment stands at an instruction
abbrev pub at_instruction : KernelState → ℕ → ℕ → KernelState
at_instruction s n ip = with_registers s n (record (slot_at s n).registers { eip = ip })

-- a byte is loaded, or, for a write, 0 is put there
abbrev pub touching : KernelState → ℕ → ℕ → Bool → CallStep Called
touching s n va true = told_as (λ done. 0) (call.store_byte s n va 0)
touching s n va false = told_as (λ byte. byte) (call.load_byte s n va)

-- the state after the call, what it gives and what is written
unfoldable pub performed : KernelState → ℕ → Ask → CallStep Called
performed s n (ask.System number args) = call.system s n number args
performed s n ask.Exofork = call.system s n SYS_EXOFORK (as_given (slot_at s n).registers)
performed s n (ask.Load va) = told_as (λ word. word) (call.load s n va)
performed s n (ask.LoadByte va) = told_as (λ byte. byte) (call.load_byte s n va)
performed s n (ask.Store va word) = told_as (λ done. 0) (call.store s n va word)
performed s n (ask.StoreByte va byte) = told_as (λ done. 0) (call.store_byte s n va byte)
performed s n (ask.Exchange va word) = told_as (λ stood. stood) (call.exchange s n va word)
performed s n ask.RestoreFrame = told_as (λ done. 0) (call.restore_frame s n)
performed s n (ask.Touch ip va write) = touching (at_instruction s n ip) n va write

-- how many frames it may take from the list: none, but where it is a system call that asks for a page, a table or a space
abbrev pub frames_of : Ask → ℕ
frames_of (ask.System number args) = frames_asked number
frames_of ask.Exofork = frames_asked SYS_EXOFORK
frames_of _ = 0

-- words lie at multiples of four
abbrev pub IsAligned : Ask → Type 0
IsAligned (ask.Load va) = va % 4 ≡ 0
IsAligned (ask.Store va word) = va % 4 ≡ 0
IsAligned (ask.Exchange va word) = va % 4 ≡ 0
IsAligned _ = Unit {0}

-- The host may fail in it: in a system call that prints, which is cputs, or else destroys the environment with its line; and where the
-- environment is destroyed by its fault.
abbrev pub MayFail : Ask → Got Called → Type 0
MayFail (ask.System number args) gives = (may_print number ≡ true) × (number ≢ SYS_CPUTS → gives ≡ got Ended)
MayFail ask.Exofork gives = ⊥
MayFail _ gives = gives ≡ gone

-- what came of it
abbrev pub IsPerformed : Ask → CallStep Called → Result Called Stop → KernelState → Output → Type 0
IsPerformed a step (Ok called) state output = (step.gives ≡ got called) × (state ≡ step.state) × Prints output step.written
IsPerformed a step (Err stop.Upcall) state output = (step.gives ≡ to_handler) × (state ≡ step.state) × Prints output step.written
IsPerformed a step (Err stop.Ended) state output = (step.gives ≡ gone) × (state ≡ step.state) × Prints output step.written
IsPerformed a step (Err stop.Failed) state output = MayFail a step.gives × PrintsPart output step.written
