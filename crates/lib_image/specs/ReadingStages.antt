-- Spawn, where it reads a part of its file: its page at UTEMP tells the number of the file, how many bytes are wanted, and the place of the first; it
-- asks the file server with that page, and waits. The bytes that come stand in the page from its beginning on. Fewer than were wanted are those of
-- a file that was cut, which is no image; an error of the file server is spawn's.
-- (MIT 6.828, lab 5: lib/spawn.c, where the file is read by seek and read. That a request tells the place is this system's own.)
use Rattle.std.specs.Prelude.{ℕ, ◌+◌, ◌-◌, ◌*◌, ◌==◌, ◌||◌, Bool, not, min, if◌then◌else◌}
use Rattle.jos_base.specs.declared.numbers.TheConstants.{SEGMENT_MAX, SYS_GETENVID, SYS_YIELD, UTEMP}
use Rattle.jos_base.specs.Words.{negated}
use Rattle.jos_elf.specs.declared.numbers.TheConstants.{E_NOT_EXEC, EHDR_LEN, PHDR_LEN}
use Rattle.lib_os.specs.FileServer.{is_count}
use Rattle.lib_os.specs.declared.numbers.TheConstants.{FD_FILE, FSREQ_READ_AT, REQUEST_COUNT, REQUEST_FILE, REQUEST_PLACE}
use Rattle.lib_os.specs.declared.spawn_steps.BearingStep.TheVariants as bearing
use Rattle.lib_os.specs.declared.spawn_steps.FilePart.{FilePart}
use Rattle.lib_os.specs.declared.spawn_steps.FilePart.TheVariants as part
use Rattle.lib_os.specs.declared.spawn_steps.ReadStep.{ReadStep}
use Rattle.lib_os.specs.declared.spawn_steps.ReadStep.TheVariants as read
use Rattle.lib_os.specs.declared.spawn_steps.SpawnStep.{SpawnStep}
use Rattle.lib_os.specs.declared.spawn_steps.SpawnStep.TheVariants as spawn
use Rattle.lib_os.specs.declared.spawn_steps.TestingStep.TheVariants as testing
use Rattle.lib_os.specs.declared.spawn_steps.UndoingStep.TheVariants as undoing
use Rattle.lib_stage.specs.declared.ask.Ask.{Ask}
use Rattle.lib_stage.specs.declared.ask.Ask.TheVariants as ask
use Rattle.lib_stage.specs.declared.ask.Next.{Next}
use Rattle.lib_stage.specs.Asks.{no_args}
use Rattle.lib_fd.specs.DescriptorStages.{descriptor_va}
use Rattle.lib_request.specs.PageRequests.{reply_asked, request_asked}
use Rattle.lib_request.specs.Replies.{reply_place}
use Rattle.lib_image.specs.SpawnNexts.{goes_on, next_by, shows}
use Rattle.lib_image.specs.TestingStages.{words_from}

-- ---- the parts

abbrev pub fd_of : FilePart → ℕ
fd_of (part.Header esp fd size) = fd
fd_of (part.Table esp fd size entry_point headers place) = fd
fd_of (part.Piece fd headers child header done end place) = fd

-- How many bytes are wanted. The word that keeps how many program headers there are may hold anything, so that it is bounded.
abbrev pub wanted : FilePart → ℕ
wanted (part.Header esp fd size) = EHDR_LEN
wanted (part.Table esp fd size entry_point headers place) = PHDR_LEN * min headers SEGMENT_MAX
wanted (part.Piece fd headers child header done end place) = end - done

-- and the place of the first of them
abbrev pub first_of : FilePart → ℕ
first_of (part.Header esp fd size) = 0
first_of (part.Table esp fd size entry_point headers place) = place
first_of (part.Piece fd headers child header done end place) = place

-- refused with this answer, it undoes what it has done
abbrev pub not_read : FilePart → ℕ → SpawnStep
not_read (part.Header esp fd size) answer = spawn.Undoing (undoing.ClosingFile fd answer)
not_read (part.Table esp fd size entry_point headers place) answer = spawn.Undoing (undoing.ClosingFile fd answer)
not_read (part.Piece fd headers child header done end place) answer = spawn.Undoing (undoing.DestroyingChild fd child answer)

-- the page has it
abbrev pub once_read : FilePart → SpawnStep
once_read (part.Header esp fd size) = spawn.Testing (testing.HeaderMagic esp fd size)
once_read (part.Table esp fd size entry_point headers place) = words_from esp fd size entry_point headers 0
once_read (part.Piece fd headers child header done end place) = spawn.Bearing (bearing.PieceAddress fd headers child header done end)

-- ---- what it asks

abbrev pub reading_asks : FilePart → ReadStep → Ask
reading_asks wants read.LoadingNumber = ask.Load (descriptor_va (fd_of wants) + FD_FILE)
reading_asks wants (read.StoringNumber number) = ask.Store (UTEMP + REQUEST_FILE) number
reading_asks wants read.StoringCount = ask.Store (UTEMP + REQUEST_COUNT) (wanted wants)
reading_asks wants read.StoringPlace = ask.Store (UTEMP + REQUEST_PLACE) (first_of wants)
reading_asks wants read.Identifying = ask.System SYS_GETENVID no_args
reading_asks wants (read.Asking id) = request_asked FSREQ_READ_AT
reading_asks wants (read.Pausing id) = ask.System SYS_YIELD no_args
reading_asks wants (read.Awaiting id) = reply_asked
reading_asks wants (read.ReadingReply id) = ask.Load (reply_place id)

-- ---- what it does next

-- By the word of a reply, all bytes have come: it tells how many did. Where none are wanted, all have.
abbrev pub is_whole : ℕ → ℕ → Bool
is_whole count word = (word == count) || (count == 0)

-- A word that is no count is an error, which it answers.
abbrev pub read_by : FilePart → ℕ → SpawnStep
read_by wants word =
    if not (is_count word) then not_read wants word
    else if is_whole (wanted wants) word then once_read wants
    else not_read wants (negated E_NOT_EXEC)

abbrev pub reading_next : FilePart → ReadStep → ℕ → Next
reading_next wants read.LoadingNumber word = goes_on (spawn.Reading wants (read.StoringNumber word))
reading_next wants (read.StoringNumber number) word = goes_on (spawn.Reading wants read.StoringCount)
reading_next wants read.StoringCount word = goes_on (spawn.Reading wants read.StoringPlace)
reading_next wants read.StoringPlace word = goes_on (spawn.Reading wants read.Identifying)
reading_next wants read.Identifying own = goes_on (spawn.Reading wants (read.Asking own))
reading_next wants (read.Asking id) word =
    next_by (spawn.Reading wants (read.Pausing id)) (spawn.Reading wants (read.Awaiting id)) (not_read wants word) word
reading_next wants (read.Pausing id) word = goes_on (spawn.Reading wants (read.Asking id))
reading_next wants (read.Awaiting id) word = shows (spawn.Reading wants (read.ReadingReply id))
reading_next wants (read.ReadingReply id) word = goes_on (read_by wants word)
