-- The tests that an image has to pass, as one list in the order in which they are made. Each test stands beside
-- the fault that is told where it is the first that fails. A file is seen as the number of its bytes, `total`,
-- and the byte at each place, `byte`.
use Rattle.std.specs.Prelude.{ℕ, zero, suc, ◌+◌, ◌*◌, ◌==◌, ◌&&◌, ◌||◌, nat_le, nat_lt, Bool, not, List, [], ◌∷◌}
use Rattle.std.specs.Prelude.{◌++◌, Option, Some, None, if◌then◌else◌}
use Rattle.jos_elf.specs.declared.fault.ElfFault.{ElfFault}
use Rattle.jos_elf.specs.declared.fault.ElfFault.TheVariants.{Truncated, Magic, Class, Kind, Machine, EntrySize}
use Rattle.jos_elf.specs.declared.fault.ElfFault.TheVariants.{TooMany, SegmentRange, Overlap}
use Rattle.jos_elf.specs.declared.header.ProgramHeader.{ProgramHeader}
use Rattle.jos_elf.specs.Headers.{class_of, byte_order_of, file_type_of, machine_of, table_of, entry_size_of}
use Rattle.jos_elf.specs.Headers.{entry_count_of, header_of}
use Rattle.jos_elf.specs.declared.numbers.TheConstants.{ELFCLASS32, ELFDATA2LSB, ET_EXEC, EM_386, PT_LOAD, EHDR_LEN}
use Rattle.jos_elf.specs.declared.numbers.TheConstants.{PHDR_LEN}
use Rattle.jos_base.specs.declared.numbers.TheConstants.{USTABDATA, UTEMP, UTEXT, FDTABLE, SEGMENT_MAX}

-- a test and its fault
abbrev pub FaultTest : Type 0
FaultTest = Bool × ElfFault

-- the fault of the first test that fails
abbrev pub first_failed : List FaultTest → Option ElfFault
first_failed [] = None
first_failed (test ∷ tests) = if test.0 then first_failed tests else Some test.1

-- 0x7f and "ELF"
abbrev pub has_magic : (ℕ → ℕ) → Bool
has_magic byte = (byte 0 == 0x7f) && (byte 1 == 0x45) && (byte 2 == 0x4c) && (byte 3 == 0x46)

-- Of the ELF header: an executable of 32-bit words with the lowest byte first, for the 80386, whose program
-- headers have the usual size and stand in the file.
unfoldable pub header_tests : ℕ → (ℕ → ℕ) → List FaultTest
header_tests total byte =
    (nat_le EHDR_LEN total, Truncated total)
    ∷ (has_magic byte, Magic)
    ∷ ((class_of byte == ELFCLASS32) && (byte_order_of byte == ELFDATA2LSB), Class)
    ∷ (file_type_of byte == ET_EXEC, Kind)
    ∷ (machine_of byte == EM_386, Machine)
    ∷ (entry_size_of byte == PHDR_LEN, EntrySize)
    ∷ (nat_le (entry_count_of byte) SEGMENT_MAX, TooMany)
    ∷ (nat_le (table_of byte + PHDR_LEN * entry_count_of byte) total, Truncated total)
    ∷ []

-- A program header that says of a segment: one that is loaded and has memory. No other is looked at.
unfoldable pub is_loaded : ProgramHeader → Bool
is_loaded header = (header.kind == PT_LOAD) && nat_lt 0 header.mem_len

abbrev pub lies_within : ProgramHeader → ℕ → ℕ → Bool
lies_within header first end = nat_le first header.va && nat_le (header.va + header.mem_len) end

-- the memory has room for the bytes of the file, and lies in one of the two ranges that a program may have
unfoldable pub is_placed : ProgramHeader → Bool
is_placed header =
    nat_le header.file_len header.mem_len
    && (lies_within header USTABDATA UTEMP || lies_within header UTEXT FDTABLE)

-- no byte of memory is in both
abbrev pub are_apart : ProgramHeader → ProgramHeader → Bool
are_apart a b = nat_le (a.va + a.mem_len) b.va || nat_le (b.va + b.mem_len) a.va

unfoldable pub leaves_free : ProgramHeader → ProgramHeader → Bool
leaves_free header other = not (is_loaded header) || are_apart header other

-- Of program headers by their places in the table: that the segment at a place shares no byte with those at the first so many
-- places, the least first.
unfoldable pub overlap_tests : (ℕ → ProgramHeader) → ℕ → ℕ → List FaultTest
overlap_tests headers place zero = []
overlap_tests headers place (suc n) =
    overlap_tests headers place n
    ++ (leaves_free (headers n) (headers place), Overlap place n) ∷ []

-- of the segment at a place of the table
unfoldable pub segment_tests : ℕ → (ℕ → ProgramHeader) → ℕ → List FaultTest
segment_tests total headers place =
    (nat_le ((headers place).file_at + (headers place).file_len) total, Truncated total)
    ∷ (is_placed (headers place), SegmentRange place)
    ∷ overlap_tests headers place place

-- of the first so many program headers
unfoldable pub table_tests : ℕ → (ℕ → ProgramHeader) → ℕ → List FaultTest
table_tests total headers zero = []
table_tests total headers (suc n) =
    table_tests total headers n ++ (if is_loaded (headers n) then segment_tests total headers n else [])

-- all of them
unfoldable pub tests : ℕ → (ℕ → ℕ) → List FaultTest
tests total byte = header_tests total byte ++ table_tests total (header_of byte) (entry_count_of byte)
