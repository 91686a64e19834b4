-- The page of a descriptor, which holds the object that it names, and the page of a pipe.
-- (MIT 6.828, lab 5: inc/fd.h, struct Fd and struct FdFile; lib/console.c, devcons; lib/pipe.c, struct Pipe; fs/serv.c, struct OpenFile.)
use Rattle.std.specs.Prelude.{◌≡◌, ◌≢◌, ◌<◌, ◌≤◌, ℕ, ◌+◌, ◌-◌, ◌%◌, ◌^◌, List, Option, Some, slice_index}
use Rattle.jos_base.specs.declared.numbers.TheConstants.{FDTABLE}
use Rattle.jos_base.specs.Below.{values_below}
use Rattle.jos_base.specs.Reach.{Entry}
use Rattle.jos_base.specs.Words.{page_number, word_at}
use Rattle.lib_os.specs.declared.numbers.TheConstants.{DEVICE_CONSOLE, DEVICE_FILE, DEVICE_PIPE, FD_DEVICE, FD_FILE, FD_MODE, FD_OFFSET, FD_SIZE, MAXOPEN}
use Rattle.lib_os.specs.declared.numbers.TheConstants.{PIPEBUFSIZ, PIPE_BYTES, PIPE_LOCK, PIPE_READ, PIPE_WRITE}
use Rattle.lib_os.specs.AbstractState.{Object, OpenFile, TablePlace, file, read_end, terminal, write_end}

-- the word that tells what it is, and for a file its offset, its mode, its number, which is that of its place in the table of open files, and its size when it was opened
abbrev pub device_of : List ℕ → ℕ
device_of bytes = word_at (slice_index bytes) FD_DEVICE

abbrev pub offset_of : List ℕ → ℕ
offset_of bytes = word_at (slice_index bytes) FD_OFFSET

abbrev pub mode_of : List ℕ → ℕ
mode_of bytes = word_at (slice_index bytes) FD_MODE

abbrev pub number_of : List ℕ → ℕ
number_of bytes = word_at (slice_index bytes) FD_FILE

abbrev pub size_of : List ℕ → ℕ
size_of bytes = word_at (slice_index bytes) FD_SIZE

-- what it tells that stays as long as it is open, which is all but a file's offset
abbrev pub lasting_words : List ℕ → ℕ × ℕ × ℕ × ℕ
lasting_words bytes = (device_of bytes, mode_of bytes, number_of bytes, size_of bytes)

-- the page of a place of the table of open files
abbrev pub place_page : ℕ → ℕ
place_page k = page_number FDTABLE + k

-- The page of a pipe has its lock, how many bytes were read and written ever, modulo 2^32, and the bytes that it holds, each at the place of its number.
abbrev pub lock_of : List ℕ → ℕ
lock_of bytes = word_at (slice_index bytes) PIPE_LOCK

abbrev pub read_of : List ℕ → ℕ
read_of bytes = word_at (slice_index bytes) PIPE_READ

abbrev pub written_of : List ℕ → ℕ
written_of bytes = word_at (slice_index bytes) PIPE_WRITE

abbrev pub held_of : List ℕ → ℕ
held_of bytes = (written_of bytes + 2 ^ 32 - read_of bytes) % 2 ^ 32

abbrev pub pipe_byte : List ℕ → ℕ → ℕ
pipe_byte bytes number = slice_index bytes (PIPE_BYTES + number % PIPEBUFSIZ)

unfoldable pub pipe_bytes : List ℕ → List ℕ
pipe_bytes bytes = values_below (held_of bytes) (λ k. pipe_byte bytes (read_of bytes + k))

-- What tells of objects and pipes: which the objects are, what the pipes hold, who holds each place of the table of open files, and what the pages of
-- the file server are.
pub record Things : Type 0 where
  pub objects : ℕ → Object
  pub pipes : ℕ → List ℕ
  pub opened : ℕ → TablePlace
  pub row : ℕ → Option Entry

-- A file: it holds the place of its number, and its page, in this frame, is the page of the place.
pub record IsOpenFile (things : Things) (name frame : ℕ) (f : OpenFile) (bytes : List ℕ) : Type 0 where
  pub device : device_of bytes ≡ DEVICE_FILE
  pub offset : offset_of bytes ≡ f.offset
  pub mode : mode_of bytes ≡ f.mode
  pub size : size_of bytes ≡ f.size
  pub below : number_of bytes < MAXOPEN
  pub held : (things.opened (number_of bytes)).held_by ≡ Some name
  pub entry : Entry
  pub stands : things.row (place_page (number_of bytes)) ≡ Some entry
  pub same : entry.frame ≡ frame

-- The console: the file server has no such page.
pub record IsConsole (things : Things) (frame : ℕ) (bytes : List ℕ) : Type 0 where
  pub device : device_of bytes ≡ DEVICE_CONSOLE
  pub apart : (q : ℕ) (e : Entry) → things.row q ≡ Some e → e.frame ≢ frame

-- An end of a pipe, open for reading or for writing: its name is one of the two that follow that of the pipe, so that a pipe has one name for each
-- of its ends; the file server has no such page.
pub record IsEnd (things : Things) (name pipe frame mode : ℕ) (bytes : List ℕ) : Type 0 where
  pub numbered : name ≡ pipe + (1 + mode)
  pub device : device_of bytes ≡ DEVICE_PIPE
  pub mode_is : mode_of bytes ≡ mode
  pub apart : (q : ℕ) (e : Entry) → things.row q ≡ Some e → e.frame ≢ frame

-- The bytes of a page are those of the pipe that has a name: it holds no more than it can; the file server has no such page.
pub record HasPipe (things : Things) (name frame : ℕ) (bytes : List ℕ) : Type 0 where
  pub holds : pipe_bytes bytes ≡ things.pipes name
  pub few : held_of bytes ≤ PIPEBUFSIZ
  pub apart : (q : ℕ) (e : Entry) → things.row q ≡ Some e → e.frame ≢ frame

-- the bytes of a page, in a frame, tell the object that has a name
abbrev pub HasObject : Things → ℕ → ℕ → Object → List ℕ → Type 0
HasObject things name frame terminal bytes = IsConsole things frame bytes
HasObject things name frame (file f) bytes = IsOpenFile things name frame f bytes
HasObject things name frame (read_end pipe) bytes = IsEnd things name pipe frame 0 bytes
HasObject things name frame (write_end pipe) bytes = IsEnd things name pipe frame 1 bytes
