-- Spawn, where it tests whether its file is an image. Its page at UTEMP has the header, of whose words it loads those that tell something, in the order
-- of their places; or it has the program headers, whose words it first copies into the page that had the strings, so that the other one is free for
-- the bytes of the segments. Then it looks at each segment in that order: that its memory has room for its bytes and lies where that of a program
-- may, that the bytes stand in the file, and that no byte of its memory is one of a segment before it. None of this is seen by anybody.
-- (MIT 6.828, lab 5: lib/spawn.c, which makes fewer tests.)
use Rattle.std.specs.Prelude.{ℕ, ◌+◌, ◌-◌, ◌*◌, ◌%◌, ◌==◌, nat_le, nat_lt, Bool, min, if◌then◌else◌}
use Rattle.jos_base.specs.declared.numbers.TheConstants.{SEGMENT_MAX, UTEMP}
use Rattle.jos_elf.specs.declared.numbers.TheConstants.{E_ENTRY, E_PHENTSIZE, E_PHNUM, E_PHOFF, E_TYPE, EI_CLASS}
use Rattle.jos_elf.specs.declared.numbers.TheConstants.{P_FILESZ, P_MEMSZ, P_OFFSET, P_TYPE, P_VADDR, PHDR_LEN, PT_LOAD}
use Rattle.lib_os.specs.declared.numbers.TheConstants.{PAGE_WORDS, SPAWN_GIVEN}
use Rattle.lib_os.specs.declared.spawn_steps.BearingStep.TheVariants as bearing
use Rattle.lib_os.specs.declared.spawn_steps.FilePart.TheVariants as part
use Rattle.lib_os.specs.declared.spawn_steps.ReadStep.TheVariants as read
use Rattle.lib_os.specs.declared.spawn_steps.SpawnStep.{SpawnStep}
use Rattle.lib_os.specs.declared.spawn_steps.SpawnStep.TheVariants as spawn
use Rattle.lib_os.specs.declared.spawn_steps.TestingStep.{TestingStep}
use Rattle.lib_os.specs.declared.spawn_steps.TestingStep.TheVariants as testing
use Rattle.lib_stage.specs.declared.ask.Ask.{Ask}
use Rattle.lib_stage.specs.declared.ask.Ask.TheVariants as ask
use Rattle.lib_stage.specs.declared.ask.Next.{Next}
use Rattle.lib_image.specs.SpawnNexts.{goes_on, no_image}
use Rattle.lib_image.specs.WordTests.{are_apart, bytes_fit, count_in, is_class, is_kind, is_length, is_magic, lies_in_range, table_fits}

-- ---- what it asks. The words that keep numbers of words and of program headers may hold anything, so that these are bounded.

-- a word of the header, by the place of its first byte
abbrev pub header_asked : ℕ → Ask
header_asked place = ask.Load (UTEMP + place)

-- where a word of a table of program headers stands, from where the table begins on
abbrev pub word_place : ℕ → ℕ
word_place number = 4 * (number % PAGE_WORDS)

-- a word of the program header of a number, by the place of its first byte
abbrev pub segment_asked : ℕ → ℕ → Ask
segment_asked header place = ask.Load (SPAWN_GIVEN + PHDR_LEN * (header % SEGMENT_MAX) + place)

abbrev pub testing_asks : TestingStep → Ask
testing_asks (testing.HeaderMagic esp fd size) = header_asked 0
testing_asks (testing.HeaderClass esp fd size) = header_asked EI_CLASS
testing_asks (testing.HeaderKind esp fd size) = header_asked E_TYPE
testing_asks (testing.HeaderEntryPoint esp fd size) = header_asked E_ENTRY
testing_asks (testing.HeaderTable esp fd size entry_point) = header_asked E_PHOFF
testing_asks (testing.HeaderLength esp fd size entry_point place) = header_asked (E_PHENTSIZE - 2)
testing_asks (testing.HeaderCount esp fd size entry_point place) = header_asked E_PHNUM
testing_asks (testing.TableLoading esp fd size entry_point headers copied) = ask.Load (UTEMP + word_place copied)
testing_asks (testing.TableStoring esp fd size entry_point headers copied word) = ask.Store (SPAWN_GIVEN + word_place copied) word
testing_asks (testing.SegmentKind esp fd size entry_point headers header) = segment_asked header P_TYPE
testing_asks (testing.SegmentMemory esp fd size entry_point headers header) = segment_asked header P_MEMSZ
testing_asks (testing.SegmentAddress esp fd size entry_point headers header memory) = segment_asked header P_VADDR
testing_asks (testing.SegmentLength esp fd size entry_point headers header va memory) = segment_asked header P_FILESZ
testing_asks (testing.SegmentOffset esp fd size entry_point headers header va memory length) = segment_asked header P_OFFSET
testing_asks (testing.OtherKind esp fd size entry_point headers header va memory other) = segment_asked other P_TYPE
testing_asks (testing.OtherMemory esp fd size entry_point headers header va memory other) = segment_asked other P_MEMSZ
testing_asks (testing.OtherAddress esp fd size entry_point headers header va memory other other_memory) = segment_asked other P_VADDR

-- ---- what it does next

-- it goes on where a test holds
abbrev pub where_holds : Bool → ℕ → SpawnStep → SpawnStep
where_holds holds fd at = if holds then at else no_image fd

-- by the word that tells how many program headers there are, these are read
abbrev pub table_by : ℕ → ℕ → ℕ → ℕ → ℕ → ℕ → SpawnStep
table_by esp fd size entry_point place word =
    where_holds (table_fits size place (count_in word)) fd
    (spawn.Reading (part.Table esp fd size entry_point (count_in word) place) read.LoadingNumber)

-- the segments of the program headers before this one are as they should be: behind the last, the file is an image
abbrev pub segments_from : ℕ → ℕ → ℕ → ℕ → ℕ → ℕ → SpawnStep
segments_from esp fd size entry_point headers header =
    if nat_lt header headers then spawn.Testing (testing.SegmentKind esp fd size entry_point headers header)
    else spawn.Bearing (bearing.MakingChild esp fd entry_point headers)

-- so many words of the program headers are copied
abbrev pub words_from : ℕ → ℕ → ℕ → ℕ → ℕ → ℕ → SpawnStep
words_from esp fd size entry_point headers copied =
    if nat_lt copied (8 * min headers SEGMENT_MAX) then spawn.Testing (testing.TableLoading esp fd size entry_point headers copied)
    else segments_from esp fd size entry_point headers 0

-- the segments of the program headers before the other one lie elsewhere
abbrev pub others_from : ℕ → ℕ → ℕ → ℕ → ℕ → ℕ → ℕ → ℕ → ℕ → SpawnStep
others_from esp fd size entry_point headers header va memory other =
    if nat_lt other header then spawn.Testing (testing.OtherKind esp fd size entry_point headers header va memory other)
    else segments_from esp fd size entry_point headers (header + 1)

abbrev pub tested : TestingStep → ℕ → SpawnStep
tested (testing.HeaderMagic esp fd size) word = where_holds (is_magic word) fd (spawn.Testing (testing.HeaderClass esp fd size))
tested (testing.HeaderClass esp fd size) word = where_holds (is_class word) fd (spawn.Testing (testing.HeaderKind esp fd size))
tested (testing.HeaderKind esp fd size) word = where_holds (is_kind word) fd (spawn.Testing (testing.HeaderEntryPoint esp fd size))
tested (testing.HeaderEntryPoint esp fd size) word = spawn.Testing (testing.HeaderTable esp fd size word)
tested (testing.HeaderTable esp fd size entry_point) word = spawn.Testing (testing.HeaderLength esp fd size entry_point word)
tested (testing.HeaderLength esp fd size entry_point place) word =
    where_holds (is_length word) fd (spawn.Testing (testing.HeaderCount esp fd size entry_point place))
tested (testing.HeaderCount esp fd size entry_point place) word = table_by esp fd size entry_point place word
tested (testing.TableLoading esp fd size entry_point headers copied) word =
    spawn.Testing (testing.TableStoring esp fd size entry_point headers copied word)
tested (testing.TableStoring esp fd size entry_point headers copied kept) word = words_from esp fd size entry_point headers (copied + 1)
tested (testing.SegmentKind esp fd size entry_point headers header) word =
    if word == PT_LOAD then spawn.Testing (testing.SegmentMemory esp fd size entry_point headers header)
    else segments_from esp fd size entry_point headers (header + 1)
tested (testing.SegmentMemory esp fd size entry_point headers header) word =
    if word == 0 then segments_from esp fd size entry_point headers (header + 1)
    else spawn.Testing (testing.SegmentAddress esp fd size entry_point headers header word)
tested (testing.SegmentAddress esp fd size entry_point headers header memory) word =
    where_holds (lies_in_range word memory) fd (spawn.Testing (testing.SegmentLength esp fd size entry_point headers header word memory))
tested (testing.SegmentLength esp fd size entry_point headers header va memory) word =
    where_holds (nat_le word memory) fd (spawn.Testing (testing.SegmentOffset esp fd size entry_point headers header va memory word))
tested (testing.SegmentOffset esp fd size entry_point headers header va memory length) word =
    where_holds (bytes_fit size word length) fd (others_from esp fd size entry_point headers header va memory 0)
tested (testing.OtherKind esp fd size entry_point headers header va memory other) word =
    if word == PT_LOAD then spawn.Testing (testing.OtherMemory esp fd size entry_point headers header va memory other)
    else others_from esp fd size entry_point headers header va memory (other + 1)
tested (testing.OtherMemory esp fd size entry_point headers header va memory other) word =
    if word == 0 then others_from esp fd size entry_point headers header va memory (other + 1)
    else spawn.Testing (testing.OtherAddress esp fd size entry_point headers header va memory other word)
tested (testing.OtherAddress esp fd size entry_point headers header va memory other other_memory) word =
    where_holds (are_apart va memory word other_memory) fd (others_from esp fd size entry_point headers header va memory (other + 1))

abbrev pub testing_next : TestingStep → ℕ → Next
testing_next at word = goes_on (tested at word)
