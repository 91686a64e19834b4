-- Spawn, where it makes its child, of an image: what it asks at each stage, and what it does next by the reply. The child is given its registers, then
-- all pages of its segments, and then the bytes of the segments, piece by piece: a piece is asked of the file server, and when it has come each page of
-- the child's is mapped at SPAWN_HERE for as long as bytes are put into it, a word at a time where a word there is whole, and else a byte.
-- (MIT 6.828, lab 5: lib/spawn.c, spawn and map_segment. That all pages are given before the bytes are read is this system's own.)
use Rattle.std.specs.Prelude.{ℕ, ◌+◌, ◌-◌, ◌*◌, ◌%◌, ◌^◌, ◌==◌, ◌&&◌, not, nat_le, nat_lt, min, Bool, true, false, [], ◌∷◌, Option, Some, None, if◌then◌else◌}
use Rattle.jos_base.specs.declared.called.Called.{Called}
use Rattle.jos_base.specs.declared.called.Called.TheVariants.{Ended}
use Rattle.jos_base.specs.declared.numbers.TheConstants.{FL_1, FL_IF, PGSIZE, TRAPFRAME_WORDS, UTEMP}
use Rattle.jos_base.specs.declared.numbers.TheConstants.{SYS_ENV_SET_TRAPFRAME, SYS_PAGE_ALLOC, SYS_PAGE_MAP}
use Rattle.jos_base.specs.Words.{page_number}
use Rattle.jos_elf.specs.declared.numbers.TheConstants.{P_FILESZ, P_MEMSZ, P_OFFSET, P_TYPE, P_VADDR, PT_LOAD}
use Rattle.lib_os.specs.declared.numbers.TheConstants.{SERVICE_SPAWN, SPAWN_HERE, TRANSFER_MAX}
use Rattle.lib_os.specs.declared.spawn_steps.BearingStep.{BearingStep}
use Rattle.lib_os.specs.declared.spawn_steps.BearingStep.TheVariants as bearing
use Rattle.lib_os.specs.declared.spawn_steps.FilePart.TheVariants as part
use Rattle.lib_os.specs.declared.spawn_steps.ReadStep.TheVariants as read
use Rattle.lib_os.specs.declared.spawn_steps.SpawnStep.{SpawnStep}
use Rattle.lib_os.specs.declared.spawn_steps.SpawnStep.TheVariants as spawn
use Rattle.lib_os.specs.declared.spawn_steps.UndoingStep.TheVariants as undoing
use Rattle.lib_os.specs.UserCalls.{answer_of}
use Rattle.lib_stage.specs.declared.ask.Ask.{Ask}
use Rattle.lib_stage.specs.declared.ask.Ask.TheVariants as ask
use Rattle.lib_stage.specs.declared.ask.Next.{Next}
use Rattle.lib_stage.specs.declared.ask.Next.TheVariants as next
use Rattle.lib_stage.specs.ServiceSteps.{Plan}
use Rattle.lib_fd.specs.DescriptorStages.{drop_asked_at}
use Rattle.lib_file.specs.Keeping.{next_va}
use Rattle.lib_fork.specs.ForkStages.{is_error, page_va}
use Rattle.lib_bytes.specs.FileStages.{joined, loading_asked, moved, rest_asked}
use Rattle.lib_image.specs.SpawnNexts.{goes_on, shows}
use Rattle.lib_image.specs.TestingStages.{segment_asked}
use Rattle.lib_child.specs.ChildNexts.{unless_refused}
use Rattle.lib_child.specs.ChildSegments.{last_page, pages_from, pieces_from, writable_perm}
use Rattle.lib_child.specs.declared.bearing.Bearing.{Bearing}
use Rattle.lib_child.specs.declared.registers.TheConstants.{RECORD_EFLAGS, RECORD_EIP, RECORD_ESP}

-- spawn at a step of its own, if it is one of these
abbrev pub bearing_at : SpawnStep → Option Bearing
bearing_at (spawn.Bearing at) = Some (record { at = at })
bearing_at _ = None

-- ---- the child's registers

-- the number of a word of their record, which may be kept as any
abbrev pub register_of : ℕ → ℕ
register_of index = index % TRAPFRAME_WORDS

-- That word: the child stands at its first instruction, with ESP at the words of its program, and with the flags that are always set. All else is 0.
abbrev pub register_word : ℕ → ℕ → ℕ → ℕ
register_word esp entry_point index =
    if index == RECORD_EIP then entry_point
    else if index == RECORD_EFLAGS then FL_IF + FL_1
    else if index == RECORD_ESP then esp
    else 0

-- behind the last word the registers are set
abbrev pub registers_from : ℕ → ℕ → ℕ → ℕ → ℕ → ℕ → SpawnStep
registers_from esp fd entry_point headers child index =
    if nat_lt index TRAPFRAME_WORDS then spawn.Bearing (bearing.StoringRegister esp fd entry_point headers child index)
    else spawn.Bearing (bearing.SettingRegisters fd headers child)

-- ---- what it asks

-- Bytes of a piece are put at their place in the child's page, as it is mapped here. Those of a segment that are done tell where the next is: in the
-- child, by the segment's first address, and in the page that has the piece, since each piece but the last fills that page.
abbrev pub putting_asked : ℕ → ℕ → ℕ → ℕ → Ask
putting_asked va done end word =
    if moved va done end == 4 then ask.Store (SPAWN_HERE + next_va va done % PGSIZE) word
    else ask.StoreByte (SPAWN_HERE + next_va va done % PGSIZE) (word % 256)

-- the child's page of the next byte is mapped here
abbrev pub mapping_asked : ℕ → ℕ → ℕ → Ask
mapping_asked child va done = ask.System SYS_PAGE_MAP (child ∷ page_va (page_number (next_va va done)) ∷ 0 ∷ SPAWN_HERE ∷ writable_perm ∷ [])

abbrev pub ask_of : BearingStep → Ask
ask_of (bearing.MakingChild esp fd entry_point headers) = ask.Exofork
ask_of (bearing.StoringRegister esp fd entry_point headers child index) =
    ask.Store (UTEMP + 4 * register_of index) (register_word esp entry_point (register_of index))
ask_of (bearing.SettingRegisters fd headers child) = ask.System SYS_ENV_SET_TRAPFRAME (child ∷ UTEMP ∷ 0 ∷ 0 ∷ 0 ∷ [])
ask_of (bearing.PlacingKind fd headers child header) = segment_asked header P_TYPE
ask_of (bearing.PlacingMemory fd headers child header) = segment_asked header P_MEMSZ
ask_of (bearing.PlacingAddress fd headers child header memory) = segment_asked header P_VADDR
ask_of (bearing.PlacingPage fd headers child header page last) = ask.System SYS_PAGE_ALLOC (child ∷ page_va page ∷ writable_perm ∷ 0 ∷ 0 ∷ [])
ask_of (bearing.PieceKind fd headers child header) = segment_asked header P_TYPE
ask_of (bearing.PieceMemory fd headers child header) = segment_asked header P_MEMSZ
ask_of (bearing.PieceLength fd headers child header done) = segment_asked header P_FILESZ
ask_of (bearing.PieceOffset fd headers child header done end) = segment_asked header P_OFFSET
ask_of (bearing.PieceAddress fd headers child header done end) = segment_asked header P_VADDR
ask_of (bearing.MappingHere fd headers child header va done end) = mapping_asked child va done
ask_of (bearing.PieceLoading fd headers child header va done end) = loading_asked va done end
ask_of (bearing.PieceRest fd headers child header va done end first) = rest_asked done
ask_of (bearing.PiecePutting fd headers child header va done end word) = putting_asked va done end word
ask_of (bearing.UnmappingHere fd headers child header end) = drop_asked_at SPAWN_HERE

-- ---- what it does next

-- The child is there, by its id; where there is none, it was refused, and the descriptor of the file is dropped first.
abbrev pub next_of_making : ℕ → ℕ → ℕ → ℕ → ℕ → Next
next_of_making esp fd entry_point headers word =
    if is_error word then shows (spawn.Undoing (undoing.ClosingFile fd word))
    else shows (registers_from esp fd entry_point headers word 0)

-- behind a page of a segment comes the next, up to its last
abbrev pub page_behind : ℕ → ℕ → ℕ → ℕ → ℕ → ℕ → SpawnStep
page_behind fd headers child header page last =
    if nat_lt page last then spawn.Bearing (bearing.PlacingPage fd headers child header (page + 1) last)
    else pages_from fd headers child (header + 1)

-- the next piece of a segment of this length, behind so many bytes that are done: as long as one request moves, or up to the last
abbrev pub piece_from : ℕ → ℕ → ℕ → ℕ → ℕ → ℕ → SpawnStep
piece_from fd headers child header done length =
    if nat_lt done length then spawn.Bearing (bearing.PieceOffset fd headers child header done (done + min TRANSFER_MAX (length - done)))
    else pieces_from fd headers child (header + 1)

-- the piece is asked for, at its place in the file
abbrev pub piece_read : ℕ → ℕ → ℕ → ℕ → ℕ → ℕ → ℕ → SpawnStep
piece_read fd headers child header done end offset =
    spawn.Reading (part.Piece fd headers child header done end ((offset + done) % 2 ^ 32)) read.LoadingNumber

-- a word of the piece, or a byte; the four bytes that are put at once may stand in two words
abbrev pub piece_loaded : ℕ → ℕ → ℕ → ℕ → ℕ → ℕ → ℕ → ℕ → SpawnStep
piece_loaded fd headers child header va done end word =
    if (moved va done end == 4) && not (done % 4 == 0) then spawn.Bearing (bearing.PieceRest fd headers child header va done end word)
    else spawn.Bearing (bearing.PiecePutting fd headers child header va done end word)

-- so many bytes of the segment are put: at the next page that is mapped here first
abbrev pub put_behind : ℕ → ℕ → ℕ → ℕ → ℕ → ℕ → ℕ → SpawnStep
put_behind fd headers child header va behind end =
    if nat_le end behind then spawn.Bearing (bearing.UnmappingHere fd headers child header end)
    else if next_va va behind % PGSIZE == 0 then spawn.Bearing (bearing.MappingHere fd headers child header va behind end)
    else spawn.Bearing (bearing.PieceLoading fd headers child header va behind end)

-- by the word that came
abbrev pub next_of : BearingStep → ℕ → Next
next_of (bearing.MakingChild esp fd entry_point headers) word = next_of_making esp fd entry_point headers word
next_of (bearing.StoringRegister esp fd entry_point headers child index) word =
    goes_on (registers_from esp fd entry_point headers child (register_of index + 1))
next_of (bearing.SettingRegisters fd headers child) word = goes_on (pages_from fd headers child 0)
next_of (bearing.PlacingKind fd headers child header) word =
    if word == PT_LOAD then goes_on (spawn.Bearing (bearing.PlacingMemory fd headers child header))
    else goes_on (pages_from fd headers child (header + 1))
next_of (bearing.PlacingMemory fd headers child header) memory =
    if memory == 0 then goes_on (pages_from fd headers child (header + 1))
    else goes_on (spawn.Bearing (bearing.PlacingAddress fd headers child header memory))
next_of (bearing.PlacingAddress fd headers child header memory) va =
    goes_on (spawn.Bearing (bearing.PlacingPage fd headers child header (page_number va) (last_page va memory)))
next_of (bearing.PlacingPage fd headers child header page last) word =
    unless_refused fd child word (page_behind fd headers child header page last)
next_of (bearing.PieceKind fd headers child header) word =
    if word == PT_LOAD then goes_on (spawn.Bearing (bearing.PieceMemory fd headers child header))
    else goes_on (pieces_from fd headers child (header + 1))
next_of (bearing.PieceMemory fd headers child header) memory =
    if memory == 0 then goes_on (pieces_from fd headers child (header + 1))
    else goes_on (spawn.Bearing (bearing.PieceLength fd headers child header 0))
next_of (bearing.PieceLength fd headers child header done) length = goes_on (piece_from fd headers child header done length)
next_of (bearing.PieceOffset fd headers child header done end) offset = goes_on (piece_read fd headers child header done end offset)
next_of (bearing.PieceAddress fd headers child header done end) va =
    goes_on (spawn.Bearing (bearing.MappingHere fd headers child header va done end))
next_of (bearing.MappingHere fd headers child header va done end) word =
    unless_refused fd child word (spawn.Bearing (bearing.PieceLoading fd headers child header va done end))
next_of (bearing.PieceLoading fd headers child header va done end) word = goes_on (piece_loaded fd headers child header va done end word)
next_of (bearing.PieceRest fd headers child header va done end first) word =
    goes_on (spawn.Bearing (bearing.PiecePutting fd headers child header va done end (joined (done % 4) first word)))
next_of (bearing.PiecePutting fd headers child header va done end kept) word =
    goes_on (put_behind fd headers child header va ((done + moved va done end) % 2 ^ 32) end)
next_of (bearing.UnmappingHere fd headers child header end) word = goes_on (spawn.Bearing (bearing.PieceLength fd headers child header end))

-- The registers are read in its page by the kernel: whoever has no such page is ended by that call.
abbrev pub reads_record : BearingStep → Bool
reads_record (bearing.SettingRegisters fd headers child) = true
reads_record _ = false

abbrev pub is_ended : Called → Bool
is_ended Ended = true
is_ended _ = false

-- by what came
abbrev pub next_by : BearingStep → Called → Next
next_by at called = if reads_record at && is_ended called then next.Gone else next_of at (answer_of called)

-- ---- the plan

abbrev pub bears : Bearing → Plan
bears it = record { number = SERVICE_SPAWN; asks = ask_of it.at; next = λ called. next_by it.at called }
