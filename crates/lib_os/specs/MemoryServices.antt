-- The services on the environment itself and its pages: cputs, getid, yield, wait, page_new and page_drop. Each is
-- one step.
use Rattle.std.specs.Prelude.{ℕ, ◌+◌, ◌%◌, ◌==◌, ◌&&◌, ◌||◌, nat_lt, not, Bool, List, Option, Some, None, Result, Ok, Err}
use Rattle.std.specs.Prelude.{if◌then◌else◌}
use Rattle.jos_base.specs.declared.registers.Regs.{Regs}
use Rattle.jos_base.specs.declared.line.Line.TheVariants as line
use Rattle.jos_base.specs.declared.memory.Access.TheVariants.{Read}
use Rattle.jos_base.specs.declared.memory.PageFault.{PageFault}
use Rattle.jos_base.specs.declared.numbers.TheConstants.{CPUTS_MAX, E_INVAL, NENV}
use Rattle.jos_base.specs.Words.{upd, has_bit}
use Rattle.jos_base.specs.Lines.{line_text}
use Rattle.jos_base.specs.Reach.{bytes_read}
use Rattle.jos_base.specs.SpacesState.{zero_page}
use Rattle.lib_os.specs.AbstractState.{AbstractState, Born, own, named, is_live, slot_id, with_printed}
use Rattle.lib_os.specs.AbstractMemory.{byte_at, page_at, page_allows, page_fault, with_page, without_page, ended_with}
use Rattle.lib_os.specs.Fence.{is_buffer, is_page_inside}
use Rattle.lib_os.specs.Answers.{answered, refused}

-- ---- cputs

abbrev pub byte_or_fault : AbstractState → Born → ℕ → Result ℕ PageFault
byte_or_fault a b va =
    if page_allows (page_at b va) Read then Ok (byte_at a b va) else Err (page_fault (page_at b va) va Read)

-- All bytes are printed in one step; where one is not there, none is, and the environment ends.
abbrev pub printed : AbstractState → ℕ → Born → Regs → Result (List ℕ) PageFault → AbstractState
printed a n b regs (Ok bytes) = answered (with_printed a bytes) n b regs 0
printed a n b regs (Err fault) = ended_with a n b (line_text b.id (line.UserMemCheck fault.va))

abbrev pub cputs : AbstractState → ℕ → Born → Regs → ℕ → ℕ → AbstractState
cputs a n b regs va len =
    if nat_lt CPUTS_MAX len then refused a n b regs E_INVAL
    else if not (is_buffer va len) then refused a n b regs E_INVAL
    else printed a n b regs (bytes_read (byte_or_fault a b) va len)

-- ---- wait

-- a live slot has this id
abbrev pub lives : AbstractState → ℕ → Bool
lives a id = is_live (a.slots (id % NENV)) && (slot_id (a.slots (id % NENV)) == id)

-- There is no step while the other lives.
abbrev pub wait : AbstractState → ℕ → Born → Regs → ℕ → Option AbstractState
wait a n b regs id =
    if (id == 0) || (id == b.id) then Some (refused a n b regs E_INVAL)
    else if lives a id then None
    else Some (answered a n b regs 0)

-- ---- pages

-- a page of zeros under a new name, or one of the environment's own
abbrev pub page_made : AbstractState → ℕ → Born → Regs → ℕ → ℕ → AbstractState
page_made a n b regs va flags =
    if has_bit flags 2
    then answered (record a { shared = upd a.shared a.next_name zero_page; next_name = a.next_name + 1 }) n
    (with_page b va (named a.next_name (has_bit flags 1))) regs 0
    else answered a n (with_page b va (own zero_page (has_bit flags 1))) regs 0

abbrev pub page_new : AbstractState → ℕ → Born → Regs → ℕ → ℕ → AbstractState
page_new a n b regs va flags =
    if nat_lt 3 flags then refused a n b regs E_INVAL
    else if not (is_page_inside va) then refused a n b regs E_INVAL
    else page_made a n b regs va flags

abbrev pub page_drop : AbstractState → ℕ → Born → Regs → ℕ → AbstractState
page_drop a n b regs va =
    if not (is_page_inside va) then refused a n b regs E_INVAL
    else answered a n (without_page b va) regs 0
