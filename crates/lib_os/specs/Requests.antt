-- How a request to the file server is told: what is asked for by the word of the message, and what is given in the page that goes
-- with it.
-- (MIT 6.828, lab 5: inc/fs.h. That an offset is set by a request is this system's own.)
use Rattle.std.specs.Prelude.{ℕ, ◌==◌, Option, Some, None, if◌then◌else◌}
use Rattle.lib_os.specs.declared.numbers.TheConstants.{FSREQ_OPEN, FSREQ_READ, FSREQ_READ_AT, FSREQ_REMOVE, FSREQ_SEEK, FSREQ_SET_SIZE}
use Rattle.lib_os.specs.declared.numbers.TheConstants.{FSREQ_STAT, FSREQ_SYNC, FSREQ_WRITE}
use Rattle.lib_os.specs.declared.request.RequestKind.{RequestKind}
use Rattle.lib_os.specs.declared.request.RequestKind.TheVariants as kind

-- the word of the message
abbrev pub request_word : RequestKind → ℕ
request_word kind.Open = FSREQ_OPEN
request_word kind.SetSize = FSREQ_SET_SIZE
request_word kind.Read = FSREQ_READ
request_word kind.Write = FSREQ_WRITE
request_word kind.Stat = FSREQ_STAT
request_word kind.Remove = FSREQ_REMOVE
request_word kind.Sync = FSREQ_SYNC
request_word kind.Seek = FSREQ_SEEK
request_word kind.ReadAt = FSREQ_READ_AT

-- what a word asks for
abbrev pub request_kind : ℕ → Option RequestKind
request_kind word =
    if word == FSREQ_OPEN then Some kind.Open
    else if word == FSREQ_SET_SIZE then Some kind.SetSize
    else if word == FSREQ_READ then Some kind.Read
    else if word == FSREQ_WRITE then Some kind.Write
    else if word == FSREQ_STAT then Some kind.Stat
    else if word == FSREQ_REMOVE then Some kind.Remove
    else if word == FSREQ_SYNC then Some kind.Sync
    else if word == FSREQ_SEEK then Some kind.Seek
    else if word == FSREQ_READ_AT then Some kind.ReadAt
    else None
