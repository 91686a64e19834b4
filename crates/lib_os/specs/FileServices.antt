-- The services on what a descriptor names, and on paths: open_file, read, write, seek, stat, set_size, remove and
-- sync. Those on files are requests to the file server; the console and pipes are read and written by the program's
-- own steps.
-- (MIT 6.828, lab 5: lib/fd.c, lib/file.c and lib/console.c.)
use Rattle.std.specs.Prelude.{ℕ, ◌+◌, ◌-◌, ◌%◌, ◌^◌, ◌==◌, ◌&&◌, nat_lt, nat_le, not, min, is_none, bit_and, codes}
use Rattle.std.specs.Prelude.{Bool, true, false, List, [], ◌∷◌, ◌++◌, length, Option, Some, None, if◌then◌else◌}
use Rattle.std.specs.List.{before_first, position_or_len}
use Rattle.jos_base.specs.declared.registers.Regs.{Regs}
use Rattle.jos_base.specs.declared.numbers.TheConstants.{E_INVAL, E_MAX_OPEN, E_BAD_PATH, E_NOT_SUPP}
use Rattle.lib_os.specs.declared.numbers.TheConstants.{TRANSFER_MAX, FILE_WRITE_MAX, OFFSET_MAX, STAT_SIZE, MODE_BITS}
use Rattle.fs_layout.specs.declared.numbers.TheConstants.{MAXPATHLEN, FTYPE_REG}
use Rattle.lib_os.specs.declared.service.Service.{Service}
use Rattle.fs_layout.specs.FileActs.{stat_bytes}
use Rattle.fs_layout.specs.FileTree.{open_path, read_file, write_file, set_file_size, stat_file, remove_path, sync_files}
use Rattle.lib_os.specs.AbstractState.{AbstractState, Born, Object, file, terminal, read_end, write_end, Request, act, seek}
use Rattle.lib_os.specs.AbstractState.{Stage, entered, gathering, delivering, moving, asked, replied, with_printed}
use Rattle.lib_os.specs.Fence.{in_fence, is_buffer}
use Rattle.lib_os.specs.Answers.{answered, refused, bytes_gathered, bytes_delivered, handed_back}
use Rattle.lib_os.specs.Descriptors.{object_name, object_of, lowest_free}
use Rattle.lib_os.specs.AbstractPipes.{read_pipe, write_pipe}
use Rattle.lib_os.specs.FileServer.{ask, await_reply}

-- ---- what is open for what

abbrev pub is_only_for_writing : Object → Bool
is_only_for_writing (file f) = f.mode == 1
is_only_for_writing (write_end pipe) = true
is_only_for_writing _ = false

abbrev pub is_only_for_reading : Object → Bool
is_only_for_reading (file f) = f.mode == 0
is_only_for_reading (read_end pipe) = true
is_only_for_reading _ = false

-- ---- replies

-- after a request was made: the program waits, and then takes the reply
abbrev pub after_asking : AbstractState → ℕ → Born → Regs → Service → ℕ → Stage → Option AbstractState
after_asking a n b regs service va asked = Some (await_reply a n b service)
after_asking a n b regs service va (replied [] answer) = Some (answered a n b regs answer)
after_asking a n b regs service va (replied (byte ∷ rest) answer) = Some (bytes_delivered a n b regs service va (byte ∷ rest) answer)
after_asking a n b regs service va (delivering at bytes answer) = Some (bytes_delivered a n b regs service at bytes answer)
after_asking a n b regs service va _ = None

-- ---- read

-- A byte of the console. The byte 4 counts as the end of the input.
abbrev pub read_terminal : AbstractState → ℕ → Born → Regs → Service → ℕ → ℕ → List ℕ → AbstractState
read_terminal a n b regs service va wanted [] = answered a n b regs 0
read_terminal a n b regs service va wanted (byte ∷ rest) =
    if wanted == 0 then answered a n b regs 0
    else if byte == 4 then answered (record a { input = rest }) n b regs 0
    else handed_back (record a { input = rest }) n b regs service va (byte ∷ []) 1

abbrev pub read_object : AbstractState → ℕ → Born → Regs → Service → ℕ → ℕ → Option ℕ → Object → Option AbstractState
read_object a n b regs service va wanted name (file f) = ask a n b service (act (read_file f.way f.offset wanted) name)
read_object a n b regs service va wanted name terminal = Some (read_terminal a n b regs service va wanted a.input)
read_object a n b regs service va wanted name (read_end pipe) = read_pipe a n b regs service va pipe wanted []
read_object a n b regs service va wanted name (write_end pipe) = None

abbrev pub read_begun : AbstractState → ℕ → Born → Regs → Service → ℕ → ℕ → ℕ → Option Object → Option AbstractState
read_begun a n b regs service fd va len None = Some (refused a n b regs E_INVAL)
read_begun a n b regs service fd va len (Some object) =
    if is_only_for_writing object then Some (refused a n b regs E_INVAL)
    else if not (is_buffer va (min len TRANSFER_MAX)) then Some (refused a n b regs E_INVAL)
    else read_object a n b regs service va (min len TRANSFER_MAX) (object_name b fd) object

abbrev pub read_moving : AbstractState → ℕ → Born → Regs → Service → ℕ → ℕ → List ℕ → Option Object → Option AbstractState
read_moving a n b regs service va len taken (Some (read_end pipe)) =
    read_pipe a n b regs service va pipe (min len TRANSFER_MAX) taken
read_moving a n b regs service va len taken _ = None

abbrev pub read_step : AbstractState → ℕ → Born → Regs → Service → ℕ → ℕ → ℕ → Stage → Option AbstractState
read_step a n b regs service fd va len entered = read_begun a n b regs service fd va len (object_of a b fd)
read_step a n b regs service fd va len (moving taken count) = read_moving a n b regs service va len taken (object_of a b fd)
read_step a n b regs service fd va len stage = after_asking a n b regs service va stage

-- ---- write

-- how many of the bytes are taken
abbrev pub write_length : Object → ℕ → ℕ
write_length (file f) len = min len FILE_WRITE_MAX
write_length _ len = min len TRANSFER_MAX

-- all bytes are taken
abbrev pub write_object : AbstractState → ℕ → Born → Regs → Service → List ℕ → Option ℕ → Object → Option AbstractState
write_object a n b regs service bytes name (file f) = ask a n b service (act (write_file f.way f.offset bytes) name)
write_object a n b regs service bytes name terminal = Some (answered (with_printed a bytes) n b regs (length bytes))
write_object a n b regs service bytes name (write_end pipe) = write_pipe a n b regs service pipe bytes 0
write_object a n b regs service bytes name (read_end pipe) = None

abbrev pub write_with : AbstractState → ℕ → Born → Regs → Service → ℕ → ℕ → ℕ → List ℕ → Object → Option AbstractState
write_with a n b regs service fd va wanted bytes object =
    if nat_lt (length bytes) wanted
    then Some (bytes_gathered a n b regs service ((va + length bytes) % 2 ^ 32) (wanted - length bytes) (λ more. gathering (bytes ++ more)))
    else write_object a n b regs service bytes (object_name b fd) object

abbrev pub write_begun : AbstractState → ℕ → Born → Regs → Service → ℕ → ℕ → ℕ → Option Object → Option AbstractState
write_begun a n b regs service fd va len None = Some (refused a n b regs E_INVAL)
write_begun a n b regs service fd va len (Some object) =
    if is_only_for_reading object then Some (refused a n b regs E_INVAL)
    else if not (is_buffer va (write_length object len)) then Some (refused a n b regs E_INVAL)
    else write_with a n b regs service fd va (write_length object len) [] object

abbrev pub write_gathering : AbstractState → ℕ → Born → Regs → Service → ℕ → ℕ → ℕ → List ℕ → Option Object → Option AbstractState
write_gathering a n b regs service fd va len bytes None = None
write_gathering a n b regs service fd va len bytes (Some object) =
    write_with a n b regs service fd va (write_length object len) bytes object

abbrev pub write_moving : AbstractState → ℕ → Born → Regs → Service → List ℕ → ℕ → Option Object → Option AbstractState
write_moving a n b regs service rest put (Some (write_end pipe)) = write_pipe a n b regs service pipe rest put
write_moving a n b regs service rest put _ = None

abbrev pub write_step : AbstractState → ℕ → Born → Regs → Service → ℕ → ℕ → ℕ → Stage → Option AbstractState
write_step a n b regs service fd va len entered = write_begun a n b regs service fd va len (object_of a b fd)
write_step a n b regs service fd va len (gathering bytes) =
    write_gathering a n b regs service fd va len bytes (object_of a b fd)
write_step a n b regs service fd va len (moving rest put) = write_moving a n b regs service rest put (object_of a b fd)
write_step a n b regs service fd va len stage = after_asking a n b regs service va stage

-- ---- seek, set_size and stat

abbrev pub named_request : AbstractState → ℕ → Born → Service → Option ℕ → (ℕ → Request) → Option AbstractState
named_request a n b service None request_of = None
named_request a n b service (Some name) request_of = ask a n b service (request_of name)

abbrev pub seek_begun : AbstractState → ℕ → Born → Regs → Service → ℕ → ℕ → Option Object → Option AbstractState
seek_begun a n b regs service fd offset None = Some (refused a n b regs E_INVAL)
seek_begun a n b regs service fd offset (Some (file f)) =
    if nat_lt OFFSET_MAX offset then Some (refused a n b regs E_INVAL)
    else named_request a n b service (object_name b fd) (λ name. seek name offset)
seek_begun a n b regs service fd offset (Some _) = Some (refused a n b regs E_NOT_SUPP)

abbrev pub seek_step : AbstractState → ℕ → Born → Regs → Service → ℕ → ℕ → Stage → Option AbstractState
seek_step a n b regs service fd offset entered = seek_begun a n b regs service fd offset (object_of a b fd)
seek_step a n b regs service fd offset stage = after_asking a n b regs service 0 stage

abbrev pub set_size_begun : AbstractState → ℕ → Born → Regs → Service → ℕ → Option Object → Option AbstractState
set_size_begun a n b regs service size None = Some (refused a n b regs E_INVAL)
set_size_begun a n b regs service size (Some (file f)) =
    if f.mode == 0 then Some (refused a n b regs E_INVAL) else ask a n b service (act (set_file_size f.way size) None)
set_size_begun a n b regs service size (Some _) = Some (refused a n b regs E_NOT_SUPP)

abbrev pub set_size_step : AbstractState → ℕ → Born → Regs → Service → ℕ → ℕ → Stage → Option AbstractState
set_size_step a n b regs service fd size entered = set_size_begun a n b regs service size (object_of a b fd)
set_size_step a n b regs service fd size stage = after_asking a n b regs service 0 stage

-- what stat tells of the console
abbrev pub terminal_stat : List ℕ
terminal_stat = stat_bytes (codes "<cons>") 0 FTYPE_REG

abbrev pub stat_object : AbstractState → ℕ → Born → Regs → Service → ℕ → Object → Option AbstractState
stat_object a n b regs service va (file f) = ask a n b service (act (stat_file f.way) None)
stat_object a n b regs service va terminal = Some (handed_back a n b regs service va terminal_stat 0)
stat_object a n b regs service va (read_end pipe) =
    Some (handed_back a n b regs service va (stat_bytes (codes "<pipe>") (length (a.pipes pipe)) FTYPE_REG) 0)
stat_object a n b regs service va (write_end pipe) =
    Some (handed_back a n b regs service va (stat_bytes (codes "<pipe>") (length (a.pipes pipe)) FTYPE_REG) 0)

abbrev pub stat_begun : AbstractState → ℕ → Born → Regs → Service → ℕ → Option Object → Option AbstractState
stat_begun a n b regs service va None = Some (refused a n b regs E_INVAL)
stat_begun a n b regs service va (Some object) =
    if not (is_buffer va STAT_SIZE) then Some (refused a n b regs E_INVAL)
    else stat_object a n b regs service va object

abbrev pub stat_step : AbstractState → ℕ → Born → Regs → Service → ℕ → ℕ → Stage → Option AbstractState
stat_step a n b regs service fd va entered = stat_begun a n b regs service va (object_of a b fd)
stat_step a n b regs service fd va stage = after_asking a n b regs service va stage

-- ---- paths

abbrev pub is_nul : ℕ → Bool
is_nul byte = byte == 0

-- A path is taken up to its NUL: of the bytes that are taken with it in one step, those behind it count for nothing.
-- Then `next` is the step.
abbrev pub path_step : AbstractState → ℕ → Born → Regs → Service → ℕ → List ℕ → (List ℕ → Option AbstractState) → Option AbstractState
path_step a n b regs service path taken next =
    if nat_lt (position_or_len is_nul taken) (length taken) then next (before_first is_nul taken)
    else if nat_le MAXPATHLEN (length taken) then Some (refused a n b regs E_BAD_PATH)
    else if not (in_fence ((path + length taken) % 2 ^ 32) 1) then Some (refused a n b regs E_INVAL)
    else Some (bytes_gathered a n b regs service ((path + length taken) % 2 ^ 32) (MAXPATHLEN - length taken) (λ more. gathering (taken ++ more)))

abbrev pub is_mode : ℕ → Bool
is_mode mode = (bit_and mode MODE_BITS == mode) && not (bit_and mode 3 == 3)

abbrev pub open_asked : AbstractState → ℕ → Born → Regs → Service → ℕ → List ℕ → Option AbstractState
open_asked a n b regs service mode path =
    if is_none (lowest_free b) then Some (refused a n b regs E_MAX_OPEN)
    else ask a n b service (act (open_path path mode) None)

abbrev pub open_step : AbstractState → ℕ → Born → Regs → Service → ℕ → ℕ → Stage → Option AbstractState
open_step a n b regs service path mode entered =
    if not (is_mode mode) then Some (refused a n b regs E_INVAL)
    else path_step a n b regs service path [] (open_asked a n b regs service mode)
open_step a n b regs service path mode (gathering taken) =
    path_step a n b regs service path taken (open_asked a n b regs service mode)
open_step a n b regs service path mode stage = after_asking a n b regs service 0 stage

abbrev pub remove_asked : AbstractState → ℕ → Born → Service → List ℕ → Option AbstractState
remove_asked a n b service path = ask a n b service (act (remove_path path) None)

abbrev pub remove_step : AbstractState → ℕ → Born → Regs → Service → ℕ → Stage → Option AbstractState
remove_step a n b regs service path entered = path_step a n b regs service path [] (remove_asked a n b service)
remove_step a n b regs service path (gathering taken) = path_step a n b regs service path taken (remove_asked a n b service)
remove_step a n b regs service path stage = after_asking a n b regs service 0 stage

abbrev pub sync_step : AbstractState → ℕ → Born → Regs → Service → Stage → Option AbstractState
sync_step a n b regs service entered = ask a n b service (act sync_files None)
sync_step a n b regs service stage = after_asking a n b regs service 0 stage
