-- Messages between environments: a word and, with it, perhaps a page go from a sender to one that waits for them.
-- (MIT 6.828, lab 4 and lib/ipc.c; that a receiver may wait for one sender alone is this system's own.)
use Rattle.std.specs.Prelude.{ℕ, ◌%◌, ◌==◌, ◌&&◌, ◌||◌, not, Bool, true, false, Option, Some, None, if◌then◌else◌}
use Rattle.jos_base.specs.declared.registers.Regs.{Regs}
use Rattle.jos_base.specs.declared.numbers.TheConstants.{E_BAD_ENV, E_INVAL, NENV}
use Rattle.lib_os.specs.declared.service.Service.{Service}
use Rattle.lib_os.specs.declared.service.Service.TheVariants as service
use Rattle.lib_os.specs.AbstractState.{AbstractState, Born, Page, own, named, Message, Stage, receiving, received, Phase, in_service}
use Rattle.lib_os.specs.AbstractState.{slot_id, with_born}
use Rattle.lib_os.specs.AbstractMemory.{page_at, with_page, is_writable}
use Rattle.lib_os.specs.Fence.{is_page_inside}
use Rattle.lib_os.specs.GuestStep.{born_in}
use Rattle.lib_os.specs.MemoryServices.{lives}
use Rattle.lib_os.specs.Answers.{answered, refused, back_with}

-- ---- receive

-- the id of the server, to which nobody sends and from which nobody receives
abbrev pub server_id : AbstractState → ℕ
server_id a = slot_id (a.slots 0)

-- 0 stands for no page
abbrev pub is_page_or_none : ℕ → Bool
is_page_or_none va = (va == 0) || is_page_inside va

-- The first step: from here on the environment waits.
abbrev pub receive : AbstractState → ℕ → Born → Regs → ℕ → ℕ → AbstractState
receive a n b regs va from =
    if not (is_page_or_none va) then refused a n b regs E_INVAL
    else if (from == b.id) || (from == server_id a) then refused a n b regs E_INVAL
    else with_born a n (record b { phase = in_service (service.Receive va from) receiving; blocked = true })

-- The second step, when a message has come.
abbrev pub received_answer : AbstractState → ℕ → Born → Regs → Message → AbstractState
received_answer a n b regs m = back_with a n b (record regs { eax = 0; edx = m.sender; ecx = m.value; ebx = m.page })

-- ---- send

-- A page that may pass: a shared one, or one of the sender's own that nobody may write.
abbrev pub may_pass : Option Page → Bool
may_pass None = false
may_pass (Some (own bytes writable)) = not writable
may_pass (Some (named name writable)) = true

abbrev pub is_page_to_send : Born → ℕ → Bool
is_page_to_send b va = (va == 0) || (is_page_inside va && may_pass (page_at b va))

-- where a receiver wants a page, and from whom it takes a message; 0 is any
pub record Receiver : Type 0 where
  pub va : ℕ
  pub from : ℕ

abbrev pub waiting_at : Service → Stage → Option Receiver
waiting_at (service.Receive va from) receiving = Some (record { va = va; from = from })
waiting_at _ _ = None

abbrev pub waiting_in : Phase → Option Receiver
waiting_in (in_service service stage) = waiting_at service stage
waiting_in _ = None

abbrev pub takes : Receiver → ℕ → Bool
takes w sender = (w.from == 0) || (w.from == sender)

-- what a receiver is told of a page: 1 where it may be read, 2 where it may be written
abbrev pub page_kind : Page → ℕ
page_kind page = if is_writable page then 2 else 1

-- the receiver with the page at the address where it wants one, and the word of it
abbrev pub with_sent : Born → Receiver → ℕ → ℕ → Option Page → Born × ℕ
with_sent target w va sender None = (target, 0)
with_sent target w va sender (Some page) =
    if (va == 0) || (w.va == 0) then (target, 0) else (with_page target w.va page, page_kind page)

-- The receiver has the message, and may run again.
abbrev pub woken : Born → Receiver → ℕ → ℕ → Born × ℕ → Born
woken target w sender value given = record given.0 {
  phase = in_service (service.Receive w.va w.from) (received (record { sender = sender; value = value; page = given.1 }));
  blocked = false;
}

abbrev pub sent : AbstractState → ℕ → Born → Regs → ℕ → ℕ → ℕ → Born → Receiver → AbstractState
sent a n b regs target value va other w =
    answered (with_born a target (woken other w b.id value (with_sent other w va b.id (page_at b va)))) n b regs 0

-- There is no step while the target does not wait for this sender.
abbrev pub sent_to_waiting : AbstractState → ℕ → Born → Regs → ℕ → ℕ → ℕ → Born → Option Receiver → Option AbstractState
sent_to_waiting a n b regs target value va other None = None
sent_to_waiting a n b regs target value va other (Some w) =
    if takes w b.id then Some (sent a n b regs target value va other w) else None

abbrev pub sent_to : AbstractState → ℕ → Born → Regs → ℕ → ℕ → ℕ → Option Born → Option AbstractState
sent_to a n b regs target value va None = None
sent_to a n b regs target value va (Some other) = sent_to_waiting a n b regs target value va other (waiting_in other.phase)

abbrev pub send : AbstractState → ℕ → Born → Regs → ℕ → ℕ → ℕ → Option AbstractState
send a n b regs id value va =
    if (id == 0) || (id == b.id) || (id == server_id a) then Some (refused a n b regs E_INVAL)
    else if not (is_page_to_send b va) then Some (refused a n b regs E_INVAL)
    else if not (lives a id) then Some (refused a n b regs E_BAD_ENV)
    else sent_to a n b regs (id % NENV) value va (born_in (a.slots (id % NENV)))
