-- What going through the words of an image's headers amounts to: the tests of an image.
use Rattle.std.specs.Prelude.{◌≡◌, ℕ, ◌+◌, ◌*◌, ◌^◌, ◌<◌, ◌≤◌, Bool, false, List, is_none}
use Rattle.jos_base.specs.declared.numbers.TheConstants.{SEGMENT_MAX, UTEMP}
use Rattle.jos_base.specs.Words.{word_at}
use Rattle.jos_elf.specs.declared.header.ProgramHeader.{ProgramHeader}
use Rattle.jos_elf.specs.declared.numbers.TheConstants.{EHDR_LEN, P_FILESZ, P_MEMSZ, P_OFFSET, P_TYPE, P_VADDR, PHDR_LEN}
use Rattle.jos_elf.specs.Headers.{entry_count_of, entry_point_of, table_of}
use Rattle.jos_elf.specs.Tests.{FaultTest, first_failed, header_tests, table_tests}
use Rattle.lib_os.specs.declared.numbers.TheConstants.{SPAWN_GIVEN}
use Rattle.lib_os.specs.declared.spawn_steps.BearingStep.TheVariants as bearing
use Rattle.lib_os.specs.declared.spawn_steps.FilePart.TheVariants as part
use Rattle.lib_os.specs.declared.spawn_steps.ReadStep.TheVariants as read
use Rattle.lib_os.specs.declared.spawn_steps.SpawnStep.{SpawnStep}
use Rattle.lib_os.specs.declared.spawn_steps.SpawnStep.TheVariants as spawn
use Rattle.lib_os.specs.declared.spawn_steps.TestingStep.{TestingStep}
use Rattle.lib_os.specs.declared.spawn_steps.TestingStep.TheVariants as testing
use Rattle.lib_stage.specs.declared.ask.Ask.{Ask}
use Rattle.lib_stage.specs.declared.ask.Ask.TheVariants as ask
use Rattle.lib_image.specs.TestingStages.{segments_from, tested, testing_asks, where_holds}

-- the word that a load gives
abbrev pub loaded : (ℕ → ℕ) → Ask → ℕ
loaded words (ask.Load va) = words va
loaded words _ = 0

-- By its tests spawn comes to a step, where the words that it loads are those that stand there.
pub data Comes (words : ℕ → ℕ) (end : SpawnStep) : SpawnStep → Type 0 where
  there : Comes words end end
  behind : (at : TestingStep) → Comes words end (tested at (loaded words (testing_asks at))) → Comes words end (spawn.Testing at)

-- no test of a list fails
abbrev pub all_pass : List FaultTest → Bool
all_pass tests = is_none (first_failed tests)

-- ---- the ELF header

-- its words stand in the page, the first of its bytes first
abbrev pub HasHeader : (ℕ → ℕ) → (ℕ → ℕ) → Type 0
HasHeader words byte = (at : ℕ) → at + 4 ≤ EHDR_LEN → words (UTEMP + at) ≡ word_at byte at

-- where spawn comes to by the bytes of a header: it reads the program headers, or its file is no image
abbrev pub header_end : ℕ → ℕ → ℕ → (ℕ → ℕ) → SpawnStep
header_end esp fd size byte =
    where_holds (all_pass (header_tests size byte)) fd
    (spawn.Reading (part.Table esp fd size (entry_point_of byte) (entry_count_of byte) (table_of byte)) read.LoadingNumber)

-- It comes there by the header's words, in a file that has room for a header; and in no other the tests pass.
abbrev pub HeaderWordsTell : Type 0
HeaderWordsTell =
    (words byte : ℕ → ℕ) (esp fd size : ℕ) → ((at : ℕ) → byte at < 2 ^ 8) → HasHeader words byte → EHDR_LEN ≤ size →
    Comes words (header_end esp fd size byte) (spawn.Testing (testing.HeaderMagic esp fd size))

abbrev pub ShortFilesFail : Type 0
ShortFilesFail = (byte : ℕ → ℕ) (size : ℕ) → size < EHDR_LEN → all_pass (header_tests size byte) ≡ false

-- ---- the program headers

abbrev pub segment_word : (ℕ → ℕ) → ℕ → ℕ → ℕ
segment_word words header place = words (SPAWN_GIVEN + PHDR_LEN * header + place)

-- the words of a program header that are loaded stand in the page
pub record HasSegment (words : ℕ → ℕ) (n : ℕ) (header : ProgramHeader) : Type 0 where
  pub kind : segment_word words n P_TYPE ≡ header.kind
  pub file_at : segment_word words n P_OFFSET ≡ header.file_at
  pub va : segment_word words n P_VADDR ≡ header.va
  pub file_len : segment_word words n P_FILESZ ≡ header.file_len
  pub mem_len : segment_word words n P_MEMSZ ≡ header.mem_len

-- where spawn comes to by so many program headers: the file is an image, or not
abbrev pub table_end : ℕ → ℕ → ℕ → ℕ → ℕ → (ℕ → ProgramHeader) → SpawnStep
table_end esp fd size entry_point n headers =
    where_holds (all_pass (table_tests size headers n)) fd (spawn.Bearing (bearing.MakingChild esp fd entry_point n))

-- It comes there by their words.
abbrev pub SegmentWordsTell : Type 0
SegmentWordsTell =
    (words : ℕ → ℕ) (headers : ℕ → ProgramHeader) (esp fd size entry_point n : ℕ) → n ≤ SEGMENT_MAX →
    ((header : ℕ) → header < n → HasSegment words header (headers header)) →
    Comes words (table_end esp fd size entry_point n headers) (segments_from esp fd size entry_point n 0)
