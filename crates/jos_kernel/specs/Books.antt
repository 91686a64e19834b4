-- The book of a run: its turns and steps, its first refusal and its last traps, and what is told of it.
-- (This system's own.)
use Rattle.std.specs.Prelude.{◌≡◌, ℕ, ◌+◌, ◌^◌, ◌<◌, ◌≤◌, ◌==◌, ◌&&◌, Bool, nat_lt, List, [], ◌∷◌, ◌++◌, length, Option, Some, None}
use Rattle.std.specs.Prelude.{vec_len, vec_capacity, if◌then◌else◌}
use Rattle.circular_buffer.specs.Buffer.{Buffer, buffer, keep_last}
use Rattle.jos_base.specs.declared.numbers.TheConstants.{TURN_MAX}
use Rattle.jos_sched.specs.Quantum.{quantum}
use Rattle.jos_kernel.specs.declared.book.Book.{Book}
use Rattle.jos_kernel.specs.declared.report.End.{End}
use Rattle.jos_kernel.specs.declared.report.Refusal.{Refusal}
use Rattle.jos_kernel.specs.declared.report.Turn.{Turn}
use Rattle.jos_kernel.specs.declared.trace.TrapLine.{TrapLine}
use Rattle.jos_kernel.specs.Reports.{Reported, CutOff}

-- ---- turns

abbrev pub turn_of : ℕ → ℕ → ℕ → Turn
turn_of n visible hidden = record { slot = n; visible = visible; hidden = hidden }

-- The turns that are over, and behind them the one under way, once it has a step.
abbrev pub turns_with_last : List Turn → Turn → List Turn
turns_with_last turns turn = if turn.visible + turn.hidden == 0 then turns else turns ++ turn ∷ []

-- A turn goes on while its environment is RUNNING and it has steps left; `made` counts the last one.
abbrev pub turn_goes_on : List ℕ → ℕ → ℕ → Bool → Bool
turn_goes_on schedule turn made running = running && nat_lt made (quantum schedule turn)

-- ---- refusals and traps

-- the first refusal, where something was refused in the turn with this number, when so many bytes were written
abbrev pub noted : Option Refusal → Bool → ℕ → ℕ → Option Refusal
noted (Some first) refused turn written = Some first
noted None refused turn written = if refused then Some (record { turn = turn; console_len = written }) else None

-- the last traps that are kept, and one more where one was raised
abbrev pub traced : Buffer TrapLine → Option TrapLine → Buffer TrapLine
traced trace None = trace
traced trace (Some trap) = buffer (keep_last trace.capacity (trace.items ++ trap ∷ [])) trace.capacity

-- ---- what is told

-- of a run that is over, after so many steps in these turns: its first refusal, and how many refusals and upcalls there were
abbrev pub report_with : End → ℕ → List Turn → Option Refusal → ℕ → ℕ → Reported
report_with end steps turns first_refused refused upcalls = record {
  end = end;
  steps = steps;
  turns = turns;
  closing = 0;
  refused = refused;
  first_refused = first_refused;
  upcalls = upcalls;
}

-- ---- a book

-- the steps of the turn under way; 0 where none is
abbrev pub made : Book → ℕ
made book = book.visible + book.hidden

-- The turns so far, where the turn under way is that of this slot.
abbrev pub turns_so_far : Book → ℕ → List Turn
turns_so_far book slot = turns_with_last book.turns.items (turn_of slot book.visible book.hidden)

-- what is told of a run that a failed call of the host cut off in a turn of this slot
abbrev pub cut_off_of : Book → ℕ → CutOff
cut_off_of book slot = record { turns = turns_so_far book slot; first_refused = book.first_refused }

-- There is room for each turn of a run.
pub record HasRoom (book : Book) : Type 0 where
  pub room : TURN_MAX ≤ vec_capacity book.turns
  pub most : vec_len book.turns ≤ TURN_MAX
  pub place : 0 < made book → vec_len book.turns < TURN_MAX
  pub small : made book < 2 ^ 31

-- A turn that is under way has steps left.
abbrev pub HasStepsLeft : Book → Type 0
HasStepsLeft book = 0 < made book → made book < quantum book.schedule (length book.turns.items)

-- whether the turn goes on after so many more steps, where its environment is RUNNING or not
abbrev pub goes_on_in : Book → ℕ → Bool → Bool
goes_on_in book steps running = turn_goes_on book.schedule (length book.turns.items) (made book + steps) running

-- Steps are counted in a turn of this slot, which goes on or is over.
pub record IsCounted (goes_on : Bool) (old new : Book) (slot visible hidden : ℕ) : Type 0 where
  pub turns : new.turns.items
      ≡ (if goes_on then old.turns.items else old.turns.items ++ turn_of slot (old.visible + visible) (old.hidden + hidden) ∷ [])
  pub visible_are : new.visible ≡ (if goes_on then old.visible + visible else 0)
  pub hidden_are : new.hidden ≡ (if goes_on then old.hidden + hidden else 0)
  pub steps : new.steps ≡ old.steps + (visible + hidden)
  pub schedule : new.schedule ≡ old.schedule
  pub first_refused : new.first_refused ≡ old.first_refused
  pub trace : new.trace ≡ old.trace
