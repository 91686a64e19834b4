-- The tests of an image, made on words of four bytes as they are loaded, the lowest byte first.
-- (System V ABI, edition 4.1, chapters 4 and 5: "ELF Header" and "Program Header", for 32-bit files.)
use Rattle.std.specs.Prelude.{ℕ, ◌+◌, ◌*◌, ◌/◌, ◌%◌, ◌^◌, ◌==◌, ◌&&◌, ◌||◌, nat_le, Bool}
use Rattle.jos_base.specs.declared.numbers.TheConstants.{FDTABLE, SEGMENT_MAX, USTABDATA, UTEMP, UTEXT}
use Rattle.jos_elf.specs.declared.numbers.TheConstants.{ELFCLASS32, ELFDATA2LSB, EM_386, ET_EXEC, PHDR_LEN}

-- ---- of the ELF header

-- 0x7f and "ELF"
abbrev pub is_magic : ℕ → Bool
is_magic word = word == 0x464c457f

-- words of 32 bits, their lowest byte first: the lower half of its word
abbrev pub is_class : ℕ → Bool
is_class word = word % 2 ^ 16 == ELFCLASS32 + 2 ^ 8 * ELFDATA2LSB

-- an executable, for the 80386
abbrev pub is_kind : ℕ → Bool
is_kind word = word == ET_EXEC + 2 ^ 16 * EM_386

-- how many bytes a program header has: the upper half
abbrev pub is_length : ℕ → Bool
is_length word = word / 2 ^ 16 == PHDR_LEN

-- how many program headers there are: the lower half
abbrev pub count_in : ℕ → ℕ
count_in word = word % 2 ^ 16

-- they are not too many, and stand in a file of this size
abbrev pub table_fits : ℕ → ℕ → ℕ → Bool
table_fits size place count = nat_le count SEGMENT_MAX && nat_le (place + PHDR_LEN * count) size

-- ---- of a segment

abbrev pub lies_in : ℕ → ℕ → ℕ → ℕ → Bool
lies_in va memory first end = nat_le first va && nat_le (va + memory) end

-- in one of the two ranges that a program may have
abbrev pub lies_in_range : ℕ → ℕ → Bool
lies_in_range va memory = lies_in va memory USTABDATA UTEMP || lies_in va memory UTEXT FDTABLE

-- its bytes stand in a file of this size
abbrev pub bytes_fit : ℕ → ℕ → ℕ → Bool
bytes_fit size place length = nat_le (place + length) size

-- no byte of memory is in two
abbrev pub are_apart : ℕ → ℕ → ℕ → ℕ → Bool
are_apart va memory other_va other_memory = nat_le (other_va + other_memory) va || nat_le (va + memory) other_va
