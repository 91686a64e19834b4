-- Spawn: a program is started from a file. What it is given is taken from memory; the file is read by requests to the file server, the
-- ELF header, the table of program headers, and then the bytes of the segments piece by piece; and a last step makes the child, all at
-- once. Where it is refused, what it holds is given back first, each in a step of its own: the child that is not born, and the descriptor.
-- (MIT 6.828, lab 5: lib/spawn.c, as what comes of it.)
use Rattle.std.specs.Prelude.{ℕ, zero, suc, ◌+◌, ◌-◌, ◌*◌, ◌/◌, ◌%◌, ◌^◌, ◌==◌, ◌&&◌, nat_lt, nat_le, not, min, Bool, false, is_none}
use Rattle.std.specs.Prelude.{List, [], ◌∷◌, ◌++◌, length, drop, map, flat_map, slice_index, Option, Some, None, if◌then◌else◌}
use Rattle.std.specs.List.{before_first, position_or_len}
use Rattle.jos_base.specs.declared.registers.Regs.{Regs}
use Rattle.jos_base.specs.declared.numbers.TheConstants.{E_INVAL, E_NO_FREE_ENV, PGSIZE}
use Rattle.jos_base.specs.Environments.{next_id}
use Rattle.jos_base.specs.SpacesState.{rising}
use Rattle.jos_base.specs.Words.{negated, word_at}
use Rattle.jos_elf.specs.declared.header.ProgramHeader.{ProgramHeader}
use Rattle.jos_elf.specs.declared.image.Segment.{Segment}
use Rattle.jos_elf.specs.declared.numbers.TheConstants.{ARGS_MAX, EHDR_LEN, PHDR_LEN, E_NOT_EXEC}
use Rattle.jos_elf.specs.Headers.{entry_count_of, entry_point_of, program_header_at, table_of}
use Rattle.jos_elf.specs.Parsed.{segments_of}
use Rattle.jos_elf.specs.StackPage.{fits_stack}
use Rattle.jos_elf.specs.Started.{program_registers}
use Rattle.jos_elf.specs.Tests.{first_failed, header_tests, is_loaded, table_tests}
use Rattle.fs_layout.specs.FileTree.{open_path, read_file}
use Rattle.lib_os.specs.declared.numbers.TheConstants.{TRANSFER_MAX}
use Rattle.lib_os.specs.declared.service.Service.{Service}
use Rattle.lib_os.specs.declared.service.Service.TheVariants as service
use Rattle.lib_os.specs.AbstractState.{AbstractState, Born, Page, named, Object, OpenFile, file, free, unborn, guest, slot_id, with_born, with_slot}
use Rattle.lib_os.specs.AbstractState.{Stage, entered, gathering, asked, replied, taking, at_guest, act, ImageRead, Spawning}
use Rattle.lib_os.specs.AbstractState.{listing, quoting, opening, heading, tabling, loading, closed, dropping, refusing}
use Rattle.lib_os.specs.AbstractMemory.{has_page_in}
use Rattle.lib_os.specs.Answers.{answered, refused, at_stage, bytes_gathered}
use Rattle.lib_os.specs.Descriptors.{object_of, with_descriptor}
use Rattle.lib_os.specs.Fence.{in_fence}
use Rattle.lib_os.specs.FileServer.{ask, await_reply, is_count}
use Rattle.lib_os.specs.FileServices.{is_nul, path_step}
use Rattle.lib_os.specs.ProgramMemory.{program_memory}

-- ---- how far it is

abbrev pub with_spawning : Born → Spawning → Born
with_spawning b found = record b { spawning = Some found }

abbrev pub not_spawning : Born → Born
not_spawning b = record b { spawning = None }

-- it is over, with this answer
abbrev pub spawn_answered : AbstractState → ℕ → Born → Regs → ℕ → AbstractState
spawn_answered a n b regs word = answered a n (not_spawning b) regs word

abbrev pub spawn_refused : AbstractState → ℕ → Born → Regs → ℕ → AbstractState
spawn_refused a n b regs error = refused a n (not_spawning b) regs error

-- the descriptor of the file is dropped, and then it answers this word
abbrev pub file_dropped : AbstractState → ℕ → Born → Service → ℕ → ℕ → AbstractState
file_dropped a n b service fd answer = at_stage a n (with_spawning (with_descriptor b fd None) (refusing answer)) service (taking [])

-- a request is made, for what this tells
abbrev pub file_asked : AbstractState → ℕ → Born → Service → Spawning → List ℕ → ℕ → ℕ → Option AbstractState
file_asked a n b service found way at count = ask a n (with_spawning b found) service (act (read_file way at count) None)

-- ---- what it is given

-- Its words are taken: they are the program's, where that may be given such.
abbrev pub words_given : AbstractState → ℕ → Born → Regs → Service → List ℕ → List (List ℕ) → Option AbstractState
words_given a n b regs service path words =
    if not (fits_stack words) then Some (spawn_refused a n b regs E_INVAL)
    else ask a n (with_spawning b (opening words)) service (act (open_path path 0) None)

-- one step takes the next bytes from an address on, of which so many are still wanted, beside those that were taken
abbrev pub more_gathered : AbstractState → ℕ → Born → Regs → Service → Spawning → ℕ → ℕ → List ℕ → Option AbstractState
more_gathered a n b regs service found va wanted taken =
    if not (in_fence va 1) then Some (spawn_refused a n b regs E_INVAL)
    else Some (bytes_gathered a n (with_spawning b found) regs service va wanted (λ more. taking (taken ++ more)))

-- of the string at an address
abbrev pub string_gathered : AbstractState → ℕ → Born → Regs → Service → Spawning → ℕ → List ℕ → Option AbstractState
string_gathered a n b regs service found address taken =
    if nat_le PGSIZE (length taken) then Some (spawn_refused a n b regs E_INVAL)
    else more_gathered a n b regs service found ((address + length taken) % 2 ^ 32) (PGSIZE - length taken) taken

-- the next string, or what is done when there is none
abbrev pub next_string : AbstractState → ℕ → Born → Regs → Service → List ℕ → List ℕ → List (List ℕ) → Option AbstractState
next_string a n b regs service path [] words = words_given a n b regs service path words
next_string a n b regs service path (address ∷ left) words =
    string_gathered a n b regs service (quoting path (address ∷ left) words) address []

abbrev pub has_nul : List ℕ → Bool
has_nul bytes = nat_lt (position_or_len is_nul bytes) (length bytes)

-- Words are taken in their order, each up to its NUL.
abbrev pub quoting_step : AbstractState → ℕ → Born → Regs → Service → List ℕ → List ℕ → List (List ℕ) → List ℕ → Option AbstractState
quoting_step a n b regs service path [] words taken = None
quoting_step a n b regs service path (address ∷ left) words taken =
    if has_nul taken then next_string a n b regs service path left (words ++ before_first is_nul taken ∷ [])
    else string_gathered a n b regs service (quoting path (address ∷ left) words) address taken

-- of the address of the word behind these
abbrev pub address_gathered : AbstractState → ℕ → Born → Regs → Service → ℕ → List ℕ → List ℕ → List ℕ → Option AbstractState
address_gathered a n b regs service argv path addresses taken =
    more_gathered a n b regs service (listing path addresses) ((argv + 4 * length addresses + length taken) % 2 ^ 32) (4 - length taken) taken

-- an address was taken: 0 stands behind the last
abbrev pub address_taken : AbstractState → ℕ → Born → Regs → Service → ℕ → List ℕ → List ℕ → ℕ → Option AbstractState
address_taken a n b regs service argv path addresses address =
    if address == 0 then next_string a n b regs service path addresses []
    else if nat_le ARGS_MAX (length addresses) then Some (spawn_refused a n b regs E_INVAL)
    else address_gathered a n b regs service argv path (addresses ++ address ∷ []) []

-- The addresses are taken first, and then the words.
abbrev pub listing_step : AbstractState → ℕ → Born → Regs → Service → ℕ → List ℕ → List ℕ → List ℕ → Option AbstractState
listing_step a n b regs service argv path addresses taken =
    if nat_lt (length taken) 4 then address_gathered a n b regs service argv path addresses taken
    else address_taken a n b regs service argv path addresses (word_at (slice_index taken) 0)

-- ---- the file

-- the file that a descriptor names
abbrev pub file_in : Option Object → Option OpenFile
file_in (Some (file f)) = Some f
file_in _ = None

-- the program headers in the bytes of a table
abbrev pub headers_in : List ℕ → ℕ → ProgramHeader
headers_in table place = program_header_at (slice_index table) (PHDR_LEN * place)

abbrev pub image_segments : ImageRead → List Segment
image_segments image = segments_of (headers_in image.table) (entry_count_of (slice_index image.header))

-- a piece of a file: where it begins, and how many bytes it has
pub record Piece : Type 0 where
  pub at : ℕ
  pub len : ℕ

-- A segment's bytes are read in pieces of at most so many as a request moves.
abbrev pub piece_of : Segment → ℕ → Piece
piece_of segment k = record { at = segment.file_at + TRANSFER_MAX * k; len = min TRANSFER_MAX (segment.file_len - TRANSFER_MAX * k) }

abbrev pub pieces_of : Segment → List Piece
pieces_of segment = map (piece_of segment) (rising 0 ((segment.file_len + (TRANSFER_MAX - 1)) / TRANSFER_MAX))

abbrev pub pieces_wanted : ImageRead → List Piece
pieces_wanted image = flat_map pieces_of (image_segments image)

-- the pieces behind the first so many
abbrev pub pieces_left : ImageRead → List (List ℕ) → List Piece
pieces_left image pieces = drop (length pieces) (pieces_wanted image)

-- the first of them is asked for; where there is none, the descriptor is dropped
abbrev pub piece_asked : AbstractState → ℕ → Born → Service → ℕ → ImageRead → ℕ → List (List ℕ) → OpenFile → List Piece → Option AbstractState
piece_asked a n b service fd image child pieces f [] =
    Some (at_stage a n (with_spawning (with_descriptor b fd None) (closed image child pieces)) service (taking []))
piece_asked a n b service fd image child pieces f (piece ∷ rest) =
    file_asked a n b service (loading fd image child pieces) f.way piece.at piece.len

-- The child is not born, and its slot is the next to be given.
abbrev pub child_dropped : AbstractState → ℕ → Born → Service → ℕ → ℕ → ℕ → AbstractState
child_dropped a n b service fd child answer =
    at_stage (record (with_slot a child (free (slot_id (a.slots child)))) { free_slots = child ∷ a.free_slots }) n
    (with_spawning b (dropping fd answer)) service (taking [])

-- a piece has come: a short one is of a file that was cut
abbrev pub piece_read : AbstractState → ℕ → Born → Service → ℕ → ImageRead → ℕ → List (List ℕ) → OpenFile → List Piece → List ℕ → Option AbstractState
piece_read a n b service fd image child pieces f [] bytes = None
piece_read a n b service fd image child pieces f (piece ∷ rest) bytes =
    if length bytes == piece.len then piece_asked a n b service fd image child (pieces ++ bytes ∷ []) f rest
    else Some (child_dropped a n b service fd child (negated E_NOT_EXEC))

-- The first free slot is the child's, with its next id. Where there is none, the descriptor is to be dropped.
abbrev pub child_begun : AbstractState → ℕ → Born → Service → ℕ → ImageRead → List ℕ → AbstractState
child_begun a n b service fd image [] = at_stage a n (with_spawning b (dropping fd (negated E_NO_FREE_ENV))) service (taking [])
child_begun a n b service fd image (child ∷ rest) =
    at_stage (record (with_slot a child (unborn (next_id (slot_id (a.slots child)) child) b.id)) { free_slots = rest }) n
    (with_spawning b (loading fd image child [])) service (taking [])

-- how many bytes the table has
abbrev pub table_size : List ℕ → ℕ
table_size header = PHDR_LEN * entry_count_of (slice_index header)

-- it has come whole, and passes its tests
abbrev pub is_table : OpenFile → ImageRead → Bool
is_table f image =
    (length image.table == table_size image.header)
    && is_none (first_failed (table_tests f.size (headers_in image.table) (entry_count_of (slice_index image.header))))

abbrev pub table_read : AbstractState → ℕ → Born → Service → ℕ → ImageRead → OpenFile → AbstractState
table_read a n b service fd image f =
    if is_table f image then child_begun a n b service fd image a.free_slots
    else file_dropped a n b service fd (negated E_NOT_EXEC)

-- the header has come whole, and passes its tests
abbrev pub is_header : OpenFile → List ℕ → Bool
is_header f header = (length header == EHDR_LEN) && is_none (first_failed (header_tests f.size (slice_index header)))

abbrev pub header_read : AbstractState → ℕ → Born → Service → ℕ → List (List ℕ) → List ℕ → OpenFile → Option AbstractState
header_read a n b service fd words header f =
    if is_header f header then file_asked a n b service (tabling fd words header) f.way (table_of (slice_index header)) (table_size header)
    else Some (file_dropped a n b service fd (negated E_NOT_EXEC))

-- It is open; one that has no room for a header is not read.
abbrev pub file_opened : AbstractState → ℕ → Born → Service → ℕ → List (List ℕ) → OpenFile → Option AbstractState
file_opened a n b service fd words f =
    if nat_lt f.size EHDR_LEN then Some (file_dropped a n b service fd (negated E_NOT_EXEC))
    else file_asked a n b service (heading fd words) f.way 0 EHDR_LEN

-- ---- the child

-- where the bytes of a program header's segment begin, when those of all segments stand one behind the other
unfoldable pub packed_at : (ℕ → ProgramHeader) → ℕ → ℕ
packed_at headers zero = 0
packed_at headers (suc n) = packed_at headers n + (if is_loaded (headers n) then (headers n).file_len else 0)

-- the program headers, as of a file that has no more than those bytes
abbrev pub packed : (ℕ → ProgramHeader) → ℕ → ProgramHeader
packed headers n = record (headers n) { file_at = packed_at headers n }

unfoldable pub all_of : List (List ℕ) → List ℕ
all_of [] = []
all_of (bytes ∷ rest) = bytes ++ all_of rest

abbrev pub image_memory : ImageRead → List (List ℕ) → ℕ → Option Page
image_memory image pieces =
    program_memory (segments_of (packed (headers_in image.table)) (entry_count_of (slice_index image.header))) (all_of pieces) image.words

-- a page that is shared stands in the place of the child's own
abbrev pub under_shared : Option Page → Option Page → Option Page
under_shared (Some (named name writable)) page = Some (named name writable)
under_shared _ page = page

abbrev pub spawned_memory : Born → ImageRead → List (List ℕ) → ℕ → Option Page
spawned_memory b image pieces number = under_shared (b.memory number) (image_memory image pieces number)

-- the child as it is born: its parent's descriptors, and pages of its own but for those that the parent shares
abbrev pub spawned : Born → ImageRead → List (List ℕ) → ℕ → Born
spawned b image pieces id = record {
  id = id;
  parent = b.id;
  program = guest (program_registers (entry_point_of (slice_index image.header)) image.words);
  memory = spawned_memory b image pieces;
  regions = has_page_in (spawned_memory b image pieces);
  descriptors = b.descriptors;
  phase = at_guest;
  spawning = None;
  blocked = false;
}

abbrev pub child_born : AbstractState → ℕ → Born → Regs → ImageRead → ℕ → List (List ℕ) → AbstractState
child_born a n b regs image child pieces =
    let id = slot_id (a.slots child) in spawn_answered (with_born a child (spawned b image pieces id)) n b regs id

-- ---- its steps

-- the file's answer to what it was asked for, or what is done where nothing is asked
abbrev pub file_step : AbstractState → ℕ → Born → Regs → Service → Stage → Spawning → Option OpenFile → Option AbstractState
file_step a n b regs service (replied bytes answer) (opening words) (Some f) = file_opened a n b service answer words f
file_step a n b regs service (replied bytes answer) (heading fd words) (Some f) = header_read a n b service fd words bytes f
file_step a n b regs service (replied bytes answer) (tabling fd words header) (Some f) =
    Some (table_read a n b service fd (record { words = words; header = header; table = bytes }) f)
file_step a n b regs service (taking taken) (loading fd image child pieces) (Some f) =
    piece_asked a n b service fd image child pieces f (pieces_left image pieces)
file_step a n b regs service (replied bytes answer) (loading fd image child pieces) (Some f) =
    piece_read a n b service fd image child pieces f (pieces_left image pieces) bytes
file_step a n b regs service _ _ _ = None

-- the descriptor of the file
abbrev pub descriptor_of : Spawning → ℕ → ℕ
descriptor_of (heading fd words) answer = fd
descriptor_of (tabling fd words header) answer = fd
descriptor_of (loading fd image child pieces) answer = fd
descriptor_of _ answer = answer

abbrev pub answer_in : Stage → ℕ
answer_in (replied bytes answer) = answer
answer_in _ = 0

abbrev pub reading_step : AbstractState → ℕ → Born → Regs → Service → Stage → Spawning → Option AbstractState
reading_step a n b regs service stage found =
    file_step a n b regs service stage found (file_in (object_of a b (descriptor_of found (answer_in stage))))

-- an error is what it answers, when all that it has made is given back
abbrev pub unread_step : AbstractState → ℕ → Born → Regs → Service → Spawning → ℕ → Option AbstractState
unread_step a n b regs service (opening words) answer = Some (spawn_answered a n b regs answer)
unread_step a n b regs service (heading fd words) answer = Some (file_dropped a n b service fd answer)
unread_step a n b regs service (tabling fd words header) answer = Some (file_dropped a n b service fd answer)
unread_step a n b regs service (loading fd image child pieces) answer = Some (child_dropped a n b service fd child answer)
unread_step a n b regs service _ answer = None

-- by what it has found out
abbrev pub spawning_step : AbstractState → ℕ → Born → Regs → Service → ℕ → Stage → Spawning → Option AbstractState
spawning_step a n b regs service argv asked found = Some (await_reply a n b service)
spawning_step a n b regs service argv (taking taken) (listing path addresses) = listing_step a n b regs service argv path addresses taken
spawning_step a n b regs service argv (taking taken) (quoting path left words) = quoting_step a n b regs service path left words taken
spawning_step a n b regs service argv (replied bytes answer) found =
    if is_count answer then reading_step a n b regs service (replied bytes answer) found else unread_step a n b regs service found answer
spawning_step a n b regs service argv (taking taken) (closed image child pieces) = Some (child_born a n b regs image child pieces)
spawning_step a n b regs service argv (taking taken) (dropping fd answer) = Some (file_dropped a n b service fd answer)
spawning_step a n b regs service argv (taking taken) (refusing answer) = Some (spawn_answered a n b regs answer)
spawning_step a n b regs service argv stage found = reading_step a n b regs service stage found

-- first the path is taken, as open_file takes its
abbrev pub spawn_begun : AbstractState → ℕ → Born → Regs → Service → ℕ → ℕ → List ℕ → Option AbstractState
spawn_begun a n b regs service path argv taken = path_step a n b regs service path taken (λ name. address_gathered a n b regs service argv name [] [])

abbrev pub spawn_at : AbstractState → ℕ → Born → Regs → ℕ → ℕ → Stage → Option Spawning → Option AbstractState
spawn_at a n b regs path argv entered found = spawn_begun a n b regs (service.Spawn path argv) path argv []
spawn_at a n b regs path argv (gathering taken) found = spawn_begun a n b regs (service.Spawn path argv) path argv taken
spawn_at a n b regs path argv stage None = None
spawn_at a n b regs path argv stage (Some found) = spawning_step a n b regs (service.Spawn path argv) argv stage found

unfoldable pub spawn_step : AbstractState → ℕ → Born → Regs → ℕ → ℕ → Stage → Option Spawning → Option AbstractState
spawn_step a n b regs path argv stage found = spawn_at a n b regs path argv stage found
