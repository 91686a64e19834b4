-- The memory of an environment of the abstract system, and its end.
-- (MIT 6.828, lib/fork.c and lib/pgfault.c, as what comes of them.)
use Rattle.std.specs.Prelude.{ℕ, ◌+◌, ◌*◌, ◌/◌, is_some, Bool, true, false, List, ◌∷◌, Option, Some, None, slice_index, slice_set}
use Rattle.jos_base.specs.declared.memory.Access.{Access}
use Rattle.jos_base.specs.declared.memory.Access.TheVariants.{Read, Write}
use Rattle.jos_base.specs.declared.memory.PageFault.{PageFault}
use Rattle.jos_base.specs.declared.numbers.TheConstants.{FEC_U, FEC_PR, NPTENTRIES}
use Rattle.jos_base.specs.Words.{page_number, page_offset, upd}
use Rattle.jos_base.specs.Reach.{write_bit}
use Rattle.jos_base.specs.Below.{some_below}
use Rattle.lib_os.specs.AbstractState.{AbstractState, Born, Page, own, named, free, with_born, with_slot, with_printed}

abbrev pub page_at : Born → ℕ → Option Page
page_at b va = b.memory (page_number va)

-- ---- rights

abbrev pub is_writable : Page → Bool
is_writable (own bytes writable) = writable
is_writable (named name writable) = writable

abbrev pub page_allows : Option Page → Access → Bool
page_allows None access = false
page_allows (Some page) Read = true
page_allows (Some page) Write = is_writable page

abbrev pub presence_bit : Option Page → ℕ
presence_bit None = 0
presence_bit (Some page) = FEC_PR

-- the fault of an access that its page does not allow
abbrev pub page_fault : Option Page → ℕ → Access → PageFault
page_fault page va access = record { va = va; error = FEC_U + presence_bit page + write_bit access }

-- ---- bytes

abbrev pub bytes_of_page : AbstractState → Page → List ℕ
bytes_of_page a (own bytes writable) = bytes
bytes_of_page a (named name writable) = a.shared name

abbrev pub byte_in : AbstractState → Option Page → ℕ → ℕ
byte_in a None offset = 0
byte_in a (Some page) offset = slice_index (bytes_of_page a page) offset

-- the byte of an environment at an address; 0 where no page is
abbrev pub byte_at : AbstractState → Born → ℕ → ℕ
byte_at a b va = byte_in a (page_at b va) (page_offset va)

-- a byte is put in a page of the environment's own, or in the one page that all have who share it
abbrev pub stored_in : AbstractState → ℕ → Born → ℕ → ℕ → Option Page → AbstractState
stored_in a n b va byte None = a
stored_in a n b va byte (Some (own bytes writable)) =
    with_born a n (record b { memory = upd b.memory (page_number va) (Some (own (slice_set bytes (page_offset va) byte) writable)) })
stored_in a n b va byte (Some (named name writable)) =
    record a { shared = upd a.shared name (slice_set (a.shared name) (page_offset va) byte) }

abbrev pub stored : AbstractState → ℕ → Born → ℕ → ℕ → AbstractState
stored a n b va byte = stored_in a n b va byte (page_at b va)

-- ---- pages

-- a page stands at an address, in the place of what stood there
abbrev pub with_page : Born → ℕ → Page → Born
with_page b va page = record b {
  memory = upd b.memory (page_number va) (Some page);
  regions = upd b.regions (page_number va / NPTENTRIES) true;
}

abbrev pub without_page : Born → ℕ → Born
without_page b va = record b { memory = upd b.memory (page_number va) None }

-- a page of a region of 4 MB is there
abbrev pub has_page_in : (ℕ → Option Page) → ℕ → Bool
has_page_in memory region = some_below NPTENTRIES (λ p. is_some (memory (region * NPTENTRIES + p)))

-- ---- the end

-- An environment ends: its memory and its descriptors are gone, and its slot is the next to be given.
abbrev pub slot_freed : AbstractState → ℕ → Born → AbstractState
slot_freed a n b = record (with_slot a n (free b.id)) { free_slots = n ∷ a.free_slots }

-- It ends with a line that tells why.
abbrev pub ended_with : AbstractState → ℕ → Born → List ℕ → AbstractState
ended_with a n b line = with_printed (slot_freed a n b) line
