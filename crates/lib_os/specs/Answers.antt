-- How a service ends, what it is given from memory and what it hands back there.
use Rattle.std.specs.Prelude.{ℕ, ◌+◌, ◌%◌, ◌^◌, ◌==◌, ◌&&◌, zero, suc, nat_le, false, List, [], ◌∷◌, take, drop, length}
use Rattle.std.specs.Prelude.{Option, Some, None, if◌then◌else◌}
use Rattle.jos_base.specs.declared.registers.Regs.{Regs}
use Rattle.jos_base.specs.declared.line.Line.TheVariants as line
use Rattle.jos_base.specs.declared.memory.Access.TheVariants.{Read, Write}
use Rattle.jos_base.specs.Words.{negated}
use Rattle.jos_base.specs.Lines.{line_text}
use Rattle.lib_os.specs.declared.service.Service.{Service}
use Rattle.lib_os.specs.AbstractState.{AbstractState, Born, guest, Stage, at_guest, in_service, delivering, with_born}
use Rattle.lib_os.specs.AbstractMemory.{byte_at, page_at, page_allows, stored, ended_with}
use Rattle.lib_os.specs.GuestStep.{born_in}

-- ---- answers

-- The service is over: the program goes on with these registers.
abbrev pub back_with : AbstractState → ℕ → Born → Regs → AbstractState
back_with a n b regs = with_born a n (record b { program = guest regs; phase = at_guest; blocked = false })

abbrev pub answered : AbstractState → ℕ → Born → Regs → ℕ → AbstractState
answered a n b regs word = back_with a n b (record regs { eax = word })

abbrev pub refused : AbstractState → ℕ → Born → Regs → ℕ → AbstractState
refused a n b regs error = answered a n b regs (negated error)

-- the service is at another stage
abbrev pub at_stage : AbstractState → ℕ → Born → Service → Stage → AbstractState
at_stage a n b service stage = with_born a n (record b { phase = in_service service stage })

-- An address that the service was given is not there: the environment ends, with the line of a page fault told for the
-- instruction behind INT 0x40.
abbrev pub ended_at : AbstractState → ℕ → Born → Regs → ℕ → AbstractState
ended_at a n b regs va = ended_with a n b (line_text b.id (line.UserFault va regs.eip))

-- ---- how much is moved in one step

-- A step moves the word at an address that is a multiple of four, where four bytes are still wanted, and else a byte.
abbrev pub moved_at_once : ℕ → ℕ → ℕ
moved_at_once va wanted = if (va % 4 == 0) && nat_le 4 wanted then 4 else 1

-- so many bytes of the memory from an address on
unfoldable pub bytes_from : AbstractState → Born → ℕ → ℕ → List ℕ
bytes_from a b va zero = []
bytes_from a b va (suc n) = byte_at a b va ∷ bytes_from a b ((va + 1) % 2 ^ 32) n

-- these bytes from an address on; each may have changed the environment's own page
abbrev pub stored_into : AbstractState → ℕ → ℕ → ℕ → Option Born → AbstractState
stored_into a n va byte None = a
stored_into a n va byte (Some b) = stored a n b va byte

unfoldable pub all_stored : AbstractState → ℕ → ℕ → List ℕ → AbstractState
all_stored a n va [] = a
all_stored a n va (byte ∷ rest) =
    all_stored (stored_into a n va byte (born_in (a.slots n))) n ((va + 1) % 2 ^ 32) rest

-- ---- taking what was given

-- One step takes the next bytes from an address on, of which so many are still wanted; `stage_of` says at which stage
-- the service is with them.
abbrev pub bytes_gathered : AbstractState → ℕ → Born → Regs → Service → ℕ → ℕ → (List ℕ → Stage) → AbstractState
bytes_gathered a n b regs service va wanted stage_of =
    if page_allows (page_at b va) Read
    then at_stage a n b service (stage_of (bytes_from a b va (moved_at_once va wanted)))
    else ended_at a n b regs va

-- ---- handing back

abbrev pub delivered_so_far : AbstractState → ℕ → Regs → Service → ℕ → ℕ → List ℕ → Option Born → AbstractState
delivered_so_far a n regs service va answer rest None = a
delivered_so_far a n regs service va answer [] (Some b) = answered a n b regs answer
delivered_so_far a n regs service va answer (byte ∷ rest) (Some b) =
    at_stage a n b service (delivering va (byte ∷ rest) answer)

-- so many of the bytes are put, and the rest are still to be
abbrev pub bytes_stored : AbstractState → ℕ → Regs → Service → ℕ → List ℕ → ℕ → ℕ → AbstractState
bytes_stored a n regs service va bytes answer count =
    let after = all_stored a n va (take count bytes) in
    delivered_so_far after n regs service ((va + count) % 2 ^ 32) answer (drop count bytes) (born_in (after.slots n))

-- One step puts the next bytes; the one that puts the last of them answers.
abbrev pub bytes_delivered : AbstractState → ℕ → Born → Regs → Service → ℕ → List ℕ → ℕ → AbstractState
bytes_delivered a n b regs service va bytes answer =
    if page_allows (page_at b va) Write then bytes_stored a n regs service va bytes answer (moved_at_once va (length bytes))
    else ended_at a n b regs va

-- An act has given bytes for an address, and an answer. Where there are no bytes, the act is the answer.
abbrev pub handed_back : AbstractState → ℕ → Born → Regs → Service → ℕ → List ℕ → ℕ → AbstractState
handed_back a n b regs service va bytes answer = delivered_so_far a n regs service va answer bytes (Some b)
