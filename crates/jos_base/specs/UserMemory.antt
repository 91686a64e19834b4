-- A space as the memory that its user sees: five words, each for every address, which say what may be reached, what
-- the fault is where it may not, what reaching changes, and which byte is read and written. Where a byte lies is said
-- by `reach_in` alone.
-- (Intel 80386 Programmer's Reference Manual, 1986, sections 5.2 and 6.4.)
use Rattle.std.specs.Prelude.{ℕ, Bool, Option, Some, None, Result, Ok, Err, bit_or, slice_index, slice_set, is_ok, true}
use Rattle.std.specs.Prelude.{◌+◌, ◌/◌, ◌%◌, ◌^◌, ◌==◌, nat_lt, zero, suc, List, if◌then◌else◌}
use Rattle.jos_base.specs.declared.memory.Access.{Access}
use Rattle.jos_base.specs.declared.memory.Access.TheVariants.{Read, Write}
use Rattle.jos_base.specs.declared.memory.PageFault.{PageFault}
use Rattle.jos_base.specs.declared.numbers.TheConstants.{NPTENTRIES, PTE_A, PTE_D}
use Rattle.jos_base.specs.Words.{page_number}
use Rattle.jos_base.specs.Reach.{Entry, FrameOffset, reach_entry}
use Rattle.jos_base.specs.Counting.{page_limit}
use Rattle.jos_base.specs.SpacesState.{Region, SpacesState, put, with_page_bytes}
use Rattle.jos_base.specs.Windows.{table_index, walked, window_byte}

-- where an access leads in a space
abbrev pub reach_in : SpacesState → ℕ → ℕ → Access → Result FrameOffset PageFault
reach_in s space va access = reach_entry (walked s space (page_number va)) va access

abbrev pub is_allowed : SpacesState → ℕ → ℕ → Access → Bool
is_allowed s space va access = is_ok (reach_in s space va access)

abbrev pub fault_or : PageFault → Result FrameOffset PageFault → PageFault
fault_or other (Ok location) = other
fault_or other (Err fault) = fault

-- the fault of an access that is refused
abbrev pub fault_at : SpacesState → ℕ → ℕ → Access → PageFault
fault_at s space va access = fault_or (record { va = va; error = 0 }) (reach_in s space va access)

-- ---- what reaching changes

-- a read sets A, and a write A and D
abbrev pub access_bits : Access → ℕ
access_bits Read = PTE_A
access_bits Write = PTE_A + PTE_D

abbrev pub region_accessed : Option Region → Option Region
region_accessed None = None
region_accessed (Some region) = Some (record region { accessed = true })

abbrev pub entry_marked : ℕ → Option Entry → Option Entry
entry_marked bits None = None
entry_marked bits (Some entry) = Some (record entry { perm = bit_or entry.perm bits })

abbrev pub with_region_bit : SpacesState → ℕ → ℕ → SpacesState
with_region_bit s space index =
    record s { regions = put s.regions space index (region_accessed (s.regions space index)) }

abbrev pub with_entry_bits : SpacesState → ℕ → ℕ → ℕ → SpacesState
with_entry_bits s space number bits =
    record s { entries = put s.entries space number (entry_marked bits (s.entries space number)) }

-- the directory's entry gets A, and the table's what the access sets
abbrev pub with_page_bits : SpacesState → ℕ → ℕ → Access → SpacesState
with_page_bits s space number access =
    with_entry_bits (with_region_bit s space (number / NPTENTRIES)) space number (access_bits access)

-- In the region of UVPT the directory is the table, so that a read there sets A in the directory's entry of the region
-- whose table is read. All other entries of windows have it.
abbrev pub with_window_bits : SpacesState → ℕ → ℕ → SpacesState
with_window_bits s space number =
    if number / NPTENTRIES == table_index then with_region_bit s space (number % NPTENTRIES) else s

abbrev pub with_bits : SpacesState → ℕ → ℕ → Access → SpacesState
with_bits s space number access =
    if nat_lt number page_limit then with_page_bits s space number access else with_window_bits s space number

abbrev pub touched_by : SpacesState → ℕ → ℕ → Access → Result FrameOffset PageFault → SpacesState
touched_by s space va access (Ok location) = with_bits s space (page_number va) access
touched_by s space va access (Err fault) = s

-- an access that is allowed sets its bits, and one that is refused none
unfoldable pub touched : SpacesState → ℕ → ℕ → Access → SpacesState
touched s space va access = touched_by s space va access (reach_in s space va access)

-- n bytes are reached for a read from an address on, which is counted upwards modulo 2^32
unfoldable pub all_touched : SpacesState → ℕ → ℕ → ℕ → SpacesState
all_touched s space va zero = s
all_touched s space va (suc n) = all_touched (touched s space va Read) space ((va + 1) % 2 ^ 32) n

-- ---- bytes

abbrev pub byte_of : (ℕ → List ℕ) → SpacesState → ℕ → ℕ → FrameOffset → ℕ
byte_of records s space va location =
    if nat_lt (page_number va) page_limit then slice_index (s.pages location.frame) location.offset
    else window_byte records s space va

abbrev pub byte_or_fault : (ℕ → List ℕ) → SpacesState → ℕ → ℕ → Result FrameOffset PageFault → Result ℕ PageFault
byte_or_fault records s space va (Ok location) = Ok (byte_of records s space va location)
byte_or_fault records s space va (Err fault) = Err fault

-- The byte that is read at an address, or the fault. `records` has the words of each slot's record, which a user reads
-- at UENVS.
unfoldable pub read_byte : (ℕ → List ℕ) → SpacesState → ℕ → ℕ → Result ℕ PageFault
read_byte records s space va = byte_or_fault records s space va (reach_in s space va Read)

abbrev pub byte_or_zero : (ℕ → List ℕ) → SpacesState → ℕ → ℕ → Result FrameOffset PageFault → ℕ
byte_or_zero records s space va (Ok location) = byte_of records s space va location
byte_or_zero records s space va (Err fault) = 0

-- the byte that is read at an address, and 0 where none may be read
unfoldable pub byte_at : (ℕ → List ℕ) → SpacesState → ℕ → ℕ → ℕ
byte_at records s space va = byte_or_zero records s space va (reach_in s space va Read)

abbrev pub with_byte_at : SpacesState → ℕ → Result FrameOffset PageFault → SpacesState
with_byte_at s byte (Ok location) =
    with_page_bytes s location.frame (slice_set (s.pages location.frame) location.offset byte)
with_byte_at s byte (Err fault) = s

-- a byte is written at an address; nothing is where none may be
unfoldable pub stored_byte : SpacesState → ℕ → ℕ → ℕ → SpacesState
stored_byte s space va byte = with_byte_at s byte (reach_in s space va Write)
