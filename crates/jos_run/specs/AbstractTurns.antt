-- Runs of the abstract system: turn after turn, each of the slot that round robin chooses among those that can run, with
-- so many of its steps. And which turns a schedule allows.
-- (MIT 6.828, kern/sched.c; turns of so many steps are this system's own.)
use Rattle.std.specs.Prelude.{◌≡◌, ◌<◌, ℕ, ◌+◌, ◌%◌, ◌==◌, ◌&&◌, ◌||◌, nat_le, nat_lt, not, zero, suc, Bool, true, false, List, [], ◌∷◌}
use Rattle.std.specs.Prelude.{Option, Some, None, is_none, is_some, if◌then◌else◌, option_and_then}
use Rattle.std.specs.Option.{ForSome}
use Rattle.jos_base.specs.declared.numbers.TheConstants.{NENV, TURN_MAX}
use Rattle.jos_base.specs.Words.{is_exactly}
use Rattle.jos_sched.specs.Quantum.{quantum}
use Rattle.jos_sched.specs.RoundRobin.{start}
use Rattle.jos_kernel.specs.declared.report.End.{End}
use Rattle.jos_kernel.specs.declared.report.End.TheVariants.{Done, Stuck, Budget, TurnsFull}
use Rattle.jos_kernel.specs.declared.report.Turn.{Turn}
use Rattle.jos_base.specs.Below.{some_below}
use Rattle.lib_os.specs.declared.service.Service.{Service}
use Rattle.lib_os.specs.declared.service.Service.TheVariants as service
use Rattle.lib_os.specs.AbstractState.{AbstractState, AbstractSlot, Born, Server, born, serving, idle, acted}
use Rattle.lib_os.specs.AbstractState.{is_idle, Phase, in_service, can_run, is_live}
use Rattle.lib_os.specs.AbstractRun.{abs_step, moved_descriptor, pipe_at}
use Rattle.fs_serving.specs.ServerRuns.{is_acting}

-- ---- turns

-- the first that can run of so many slots, from one on and round the table's end
unfoldable pub first_of : AbstractState → ℕ → ℕ → Option ℕ
first_of a slot zero = None
first_of a slot (suc more) = if can_run a (slot % NENV) then Some (slot % NENV) else first_of a (slot + 1) more

-- the slot that gets the next turn
unfoldable pub next_slot : AbstractState → Option ℕ
next_slot a = first_of a (start a.last) NENV

abbrev pub turn_begun : AbstractState → ℕ → AbstractState
turn_begun a n = record a { last = Some n; turns = a.turns + 1 }

-- so many steps of a slot; None where one of them is none
unfoldable pub steps_taken : AbstractState → ℕ → ℕ → Option AbstractState
steps_taken a n zero = Some a
steps_taken a n (suc more) = option_and_then (λ b. abs_step b n) (steps_taken a n more)

-- A turn is that of the slot that is chosen, with the steps that are visible. The others change nothing here.
unfoldable pub turn_taken : AbstractState → Turn → Option AbstractState
turn_taken a turn =
    if is_exactly turn.slot (next_slot a) then steps_taken (turn_begun a turn.slot) turn.slot turn.visible else None

unfoldable pub abs_run : AbstractState → List Turn → Option AbstractState
abs_run a [] = Some a
abs_run a (turn ∷ rest) = option_and_then (λ b. abs_run b rest) (turn_taken a turn)

-- ---- the end

-- an environment but the server is live
abbrev pub is_client : AbstractSlot → Bool
is_client (serving id) = false
is_client slot = is_live slot

abbrev pub any_live : AbstractState → Bool
any_live a = some_below NENV (λ n. is_client (a.slots n))

-- The end tests between two turns, in their order, after so many turns; `spent` says whether the budget is used up.
unfoldable pub end_of : AbstractState → ℕ → Bool → Option End
end_of a turns spent =
    if not (any_live a) then Some Done
    else if is_none (next_slot a) then Some Stuck
    else if spent then Some Budget
    else if nat_le TURN_MAX turns then Some TurnsFull
    else None

-- ---- behind the end

-- It has gone on alone, in so many steps, until its act was made, and in no more.
pub record HasClosed (a b : AbstractState) (steps : ℕ) : Type 0 where
  pub taken : steps_taken a 0 steps ≡ Some b
  pub over : is_acting b.server ≡ false
  pub needed : (k : ℕ) → k < steps → ForSome (steps_taken a 0 k) (λ c. is_acting c.server ≡ true)

-- ---- schedules

-- Where a turn may end before its steps are used up: its slot can't run on, or waits in a service, or has just given up
-- its turn. The file server waits with its reply.

-- services in which an environment may wait for others
abbrev pub is_waiting_service : Service → Bool
is_waiting_service (service.Wait id) = true
is_waiting_service (service.Send id value va) = true
is_waiting_service _ = false

-- or one on an end of a pipe
abbrev pub waits_in : AbstractState → Born → Phase → Bool
waits_in a b (in_service s stage) = is_waiting_service s || is_some (pipe_at a b (moved_descriptor s))
waits_in a b _ = false

-- it has acted, and waits with its reply
abbrev pub waits_to_reply : Server → Bool
waits_to_reply (acted client answer bytes object) = true
waits_to_reply _ = false

-- its next step, where it has one if the server is idle, asks the server
abbrev pub asks_behind : Option AbstractState → Bool
asks_behind None = false
asks_behind (Some after) = not (is_idle after.server)

abbrev pub asks : AbstractState → ℕ → Bool
asks a n = asks_behind (abs_step (record a { server = idle }) n)

abbrev pub stands_waiting : AbstractState → ℕ → AbstractSlot → Bool
stands_waiting a n (born b) = waits_in a b b.phase || asks a n
stands_waiting a n (serving id) = waits_to_reply a.server
stands_waiting a n _ = false

abbrev pub yields_in : Phase → Bool
yields_in (in_service service.Yield stage) = true
yields_in _ = false

abbrev pub is_yielding : AbstractSlot → Bool
is_yielding (born b) = yields_in b.phase
is_yielding _ = false

-- the last step of so many was that of yield
abbrev pub has_yielded_after : ℕ → Option AbstractState → Bool
has_yielded_after n None = false
has_yielded_after n (Some before) = is_yielding (before.slots n)

abbrev pub has_yielded : AbstractState → ℕ → ℕ → Bool
has_yielded begun n zero = false
has_yielded begun n (suc visible) = has_yielded_after n (steps_taken begun n visible)

abbrev pub may_end : AbstractState → Turn → AbstractState → Bool
may_end before turn after =
    not (can_run after turn.slot) || stands_waiting after turn.slot (after.slots turn.slot)
    || has_yielded (turn_begun before turn.slot) turn.slot turn.visible

-- The steps of a turn are as many as the schedule gives it, or fewer, where it is the last or may end.
abbrev pub turn_fits : List ℕ → ℕ → Bool → AbstractState → Turn → AbstractState → Bool
turn_fits schedule k is_last before turn after =
    let steps = turn.visible + turn.hidden in
    nat_lt 0 steps && nat_le steps (quantum schedule k)
    && ((steps == quantum schedule k) || is_last || may_end before turn after)

abbrev pub is_empty : List Turn → Bool
is_empty [] = true
is_empty _ = false

abbrev pub holds_of : Option AbstractState → (AbstractState → Bool) → Bool
holds_of None is = false
holds_of (Some b) is = is b

-- each turn fits, from turn k on
unfoldable pub fits : List ℕ → ℕ → AbstractState → List Turn → Bool
fits schedule k a [] = true
fits schedule k a (turn ∷ rest) =
    holds_of (turn_taken a turn) (λ b. turn_fits schedule k (is_empty rest) a turn b && fits schedule (k + 1) b rest)

-- the same of turns of which none is cut short: each fits as one that is not the last
unfoldable pub all_fit : List ℕ → ℕ → AbstractState → List Turn → Bool
all_fit schedule k a [] = true
all_fit schedule k a (turn ∷ rest) =
    holds_of (turn_taken a turn) (λ b. turn_fits schedule k false a turn b && all_fit schedule (k + 1) b rest)
