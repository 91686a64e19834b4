-- The fields of an ELF file's headers, numbers of two or four bytes, the lowest first. A file is seen as a
-- function from each place to the byte there.
-- (System V ABI, edition 4.1, chapters 4 and 5: "ELF Header" and "Program Header", for 32-bit files.)
use Rattle.std.specs.Prelude.{ℕ, ◌+◌, ◌*◌, [], ◌∷◌}
use Rattle.std.specs.Int.{w16, from_le_bytes}
use Rattle.jos_base.specs.Words.{word_at}
use Rattle.jos_elf.specs.declared.header.ProgramHeader.{ProgramHeader}
use Rattle.jos_elf.specs.declared.numbers.TheConstants.{EI_CLASS, EI_DATA, E_TYPE, E_MACHINE, E_ENTRY, E_PHOFF}
use Rattle.jos_elf.specs.declared.numbers.TheConstants.{E_PHENTSIZE, E_PHNUM}
use Rattle.jos_elf.specs.declared.numbers.TheConstants.{P_TYPE, P_OFFSET, P_VADDR, P_FILESZ, P_MEMSZ, P_FLAGS, PHDR_LEN}

-- the numbers in the two and in the four bytes at a place
abbrev pub half_at : (ℕ → ℕ) → ℕ → ℕ
half_at byte at = from_le_bytes w16 (byte at ∷ byte (at + 1) ∷ [])

-- ---- the ELF header

abbrev pub class_of : (ℕ → ℕ) → ℕ
class_of byte = byte EI_CLASS

abbrev pub byte_order_of : (ℕ → ℕ) → ℕ
byte_order_of byte = byte EI_DATA

abbrev pub file_type_of : (ℕ → ℕ) → ℕ
file_type_of byte = half_at byte E_TYPE

abbrev pub machine_of : (ℕ → ℕ) → ℕ
machine_of byte = half_at byte E_MACHINE

abbrev pub entry_point_of : (ℕ → ℕ) → ℕ
entry_point_of byte = word_at byte E_ENTRY

abbrev pub table_of : (ℕ → ℕ) → ℕ
table_of byte = word_at byte E_PHOFF

abbrev pub entry_size_of : (ℕ → ℕ) → ℕ
entry_size_of byte = half_at byte E_PHENTSIZE

abbrev pub entry_count_of : (ℕ → ℕ) → ℕ
entry_count_of byte = half_at byte E_PHNUM

-- ---- the program headers

-- the program header at a place of the file
unfoldable pub program_header_at : (ℕ → ℕ) → ℕ → ProgramHeader
program_header_at byte at = record {
  kind = word_at byte (at + P_TYPE);
  file_at = word_at byte (at + P_OFFSET);
  va = word_at byte (at + P_VADDR);
  file_len = word_at byte (at + P_FILESZ);
  mem_len = word_at byte (at + P_MEMSZ);
  flags = word_at byte (at + P_FLAGS);
}

-- the program header at a place of the table, counted from 0
abbrev pub header_of : (ℕ → ℕ) → ℕ → ProgramHeader
header_of byte place = program_header_at byte (table_of byte + PHDR_LEN * place)
