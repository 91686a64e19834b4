-- The file that an image is written as: the ELF header, a program header for each segment, and then the bytes.
-- (System V ABI, edition 4.1, chapters 4 and 5: "ELF Header" and "Program Header", for 32-bit files.)
use Rattle.std.specs.Prelude.{◌≡◌, slice_range, ℕ, ◌+◌, ◌*◌, ◌≤◌, Bool, List, [], ◌∷◌, ◌++◌, length, map, flat_map}
use Rattle.std.specs.Prelude.{All, AllPairs, if◌then◌else◌}
use Rattle.std.specs.Int.{w16, w32, to_le_bytes}
use Rattle.jos_elf.specs.declared.image.Segment.{Segment}
use Rattle.jos_elf.specs.declared.writer.Part.{Part}
use Rattle.jos_elf.specs.Parsed.{Layout, Lies, Apart}
use Rattle.jos_elf.specs.declared.numbers.TheConstants.{ELFCLASS32, ELFDATA2LSB, EV_CURRENT, ET_EXEC, EM_386, EHDR_LEN}
use Rattle.jos_elf.specs.declared.numbers.TheConstants.{PT_LOAD, PF_X, PF_W, PF_R, PHDR_LEN}
use Rattle.jos_base.specs.declared.numbers.TheConstants.{SEGMENT_MAX}

abbrev half : ℕ → List ℕ
half n = to_le_bytes w16 n

abbrev word : ℕ → List ℕ
word n = to_le_bytes w32 n

-- e_ident: the magic, 32-bit words with the lowest byte first, the version, and what pads it
abbrev ident : List ℕ
ident = 0x7f ∷ 0x45 ∷ 0x4c ∷ 0x46 ∷ ELFCLASS32 ∷ ELFDATA2LSB ∷ EV_CURRENT ∷ 0 ∷ 0 ∷ 0 ∷ 0 ∷ 0 ∷ 0 ∷ 0 ∷ 0 ∷ 0 ∷ []

-- e_type and e_machine; e_version, e_entry, e_phoff, e_shoff and e_flags; e_ehsize,
-- e_phentsize and e_phnum, e_shentsize, e_shnum and e_shstrndx
unfoldable pub elf_header : ℕ → ℕ → List ℕ
elf_header entry count =
    ident
    ++ half ET_EXEC ++ half EM_386
    ++ word EV_CURRENT ++ word entry ++ word EHDR_LEN ++ word 0 ++ word 0
    ++ half EHDR_LEN ++ half PHDR_LEN ++ half count ++ half 0 ++ half 0 ++ half 0

-- each segment may be read and run
abbrev pub flags_of : Bool → ℕ
flags_of writable = if writable then PF_R + PF_W + PF_X else PF_R + PF_X

-- p_type, p_offset, p_vaddr, p_paddr, p_filesz, p_memsz, p_flags and p_align
unfoldable pub program_header : Segment → List ℕ
program_header s =
    word PT_LOAD ++ word s.file_at ++ word s.va ++ word s.va
    ++ word s.file_len ++ word s.mem_len ++ word (flags_of s.writable) ++ word 1

-- how many bytes stand before those of the parts
abbrev pub headers_len : List Part → ℕ
headers_len parts = EHDR_LEN + PHDR_LEN * length parts

-- the segment of a part, behind so many bytes of the file
abbrev pub part_segment : ℕ → Part → Segment
part_segment before part = record {
  va = part.va;
  mem_len = part.mem_len;
  file_at = before + part.at;
  file_len = part.len;
  writable = part.writable;
}

abbrev pub part_segments : List Part → List Segment
part_segments parts = map (part_segment (headers_len parts)) parts

-- what the file says
abbrev pub written_layout : ℕ → List Part → Layout
written_layout entry parts = record { entry = entry; segments = part_segments parts }

-- the bytes of a part stand in the file where its segment says
abbrev pub HoldsPart : List ℕ → ℕ → List ℕ → Part → Type 0
HoldsPart file before bytes part =
    slice_range file (part_segment before part).file_at ((part_segment before part).file_at + part.len) ≡ slice_range bytes part.at (part.at + part.len)

unfoldable pub written : ℕ → List Part → List ℕ → List ℕ
written entry parts bytes = elf_header entry (length parts) ++ (flat_map program_header (part_segments parts) ++ bytes)

-- parts that can be written: their bytes lie in these, and as segments they pass the tests of a file
pub record AreParts (parts : List Part) (bytes : List ℕ) : Type 0 where
  pub few : length parts ≤ SEGMENT_MAX
  pub lie : All (λ part. Lies (length bytes) (part_segment 0 part)) parts
  pub apart : AllPairs (λ a b. Apart (part_segment 0 a) (part_segment 0 b)) parts
