-- Which files are read as images, and what they say.
use Rattle.std.specs.Prelude.{ℕ, zero, suc, ◌+◌, ◌<◌, ◌≤◌, ◌⊎◌, ◌==◌, not, List, [], ◌∷◌, ◌++◌, length, slice_index}
use Rattle.std.specs.Prelude.{Option, Some, None, Result, Ok, Err, bit_and, if◌then◌else◌}
use Rattle.jos_elf.specs.declared.fault.ElfFault.{ElfFault}
use Rattle.jos_elf.specs.declared.header.ProgramHeader.{ProgramHeader}
use Rattle.jos_elf.specs.declared.image.Segment.{Segment}
use Rattle.jos_elf.specs.Headers.{entry_point_of, entry_count_of, header_of}
use Rattle.jos_elf.specs.Tests.{is_loaded, first_failed, tests}
use Rattle.jos_elf.specs.declared.numbers.TheConstants.{PF_W}
use Rattle.jos_base.specs.declared.numbers.TheConstants.{USTABDATA, UTEMP, UTEXT, FDTABLE}

-- What an image says: where it starts, and which bytes of the file stand where.
pub record Layout : Type 0 where
  pub entry : ℕ
  pub segments : List Segment

abbrev pub segment_of : ProgramHeader → Segment
segment_of header = record {
  va = header.va;
  mem_len = header.mem_len;
  file_at = header.file_at;
  file_len = header.file_len;
  writable = not (bit_and header.flags PF_W == 0);
}

-- the segments that the first so many program headers say of, in their order
unfoldable pub segments_of : (ℕ → ProgramHeader) → ℕ → List Segment
segments_of headers zero = []
segments_of headers (suc n) = segments_of headers n ++ (if is_loaded (headers n) then segment_of (headers n) ∷ [] else [])

abbrev pub unless_failed : Option ElfFault → Layout → Result Layout ElfFault
unless_failed None image = Ok image
unless_failed (Some fault) image = Err fault

-- A file of so many bytes that passes each of the tests is an image.
unfoldable pub parsed_bytes : ℕ → (ℕ → ℕ) → Result Layout ElfFault
parsed_bytes total byte =
    unless_failed (first_failed (tests total byte)) (record { entry = entry_point_of byte; segments = segments_of (header_of byte) (entry_count_of byte) })

unfoldable pub parsed : List ℕ → Result Layout ElfFault
parsed file = parsed_bytes (length file) (slice_index file)

-- what is known of a segment that is accepted, in a file of so many bytes
pub record Lies (total : ℕ) (segment : Segment) : Type 0 where
  pub file : segment.file_at + segment.file_len ≤ total
  pub room : segment.file_len ≤ segment.mem_len
  pub some : 0 < segment.mem_len
  pub range : ((USTABDATA ≤ segment.va) × (segment.va + segment.mem_len ≤ UTEMP)) ⊎ ((UTEXT ≤ segment.va) × (segment.va + segment.mem_len ≤ FDTABLE))

-- no byte of memory is in both
abbrev pub Apart : Segment → Segment → Type 0
Apart a b = (a.va + a.mem_len ≤ b.va) ⊎ (b.va + b.mem_len ≤ a.va)
