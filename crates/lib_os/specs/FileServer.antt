-- The file server, slot 0: one request after another, each one act. A client asks, and waits for the reply.
-- (MIT 6.828, lab 5: fs/serv.c.)
use Rattle.std.specs.Prelude.{ℕ, ◌+◌, ◌%◌, ◌==◌, nat_lt, not, Bool, true, false, List, [], Option, Some, None, bytes_eq}
use Rattle.std.specs.Prelude.{if◌then◌else◌}
use Rattle.jos_base.specs.Words.{negated, upd}
use Rattle.jos_base.specs.declared.numbers.TheConstants.{E_MAX_OPEN}
use Rattle.lib_os.specs.declared.numbers.TheConstants.{MAXOPEN}
use Rattle.lib_os.specs.declared.service.Service.{Service}
use Rattle.fs_layout.specs.FileTree.{FileAct, file_size, open_path}
use Rattle.fs_layout.specs.FileActs.{Acted, file_act, file_named}
use Rattle.lib_os.specs.AbstractState.{AbstractState, Born, Object, file, Request, act, seek}
use Rattle.lib_os.specs.AbstractState.{Server, leaving, idle, looking, busy, acted, asked, awaiting, replied, Phase, in_service}
use Rattle.lib_os.specs.AbstractState.{with_born}
use Rattle.lib_os.specs.GuestStep.{born_in}
use Rattle.lib_os.specs.Answers.{at_stage}
use Rattle.lib_os.specs.Descriptors.{is_held, lowest_free, with_descriptor}
use Rattle.lib_os.specs.AbstractPipes.{is_such_held}

-- ---- the client

-- A request that opens a file wants a place of the table of open files first.
abbrev pub request_begun : ℕ → Request → Server
request_begun n (act (open_path path mode) object) = looking n (act (open_path path mode) object) 0
request_begun n request = busy n request None

-- The client asks; there is no step while the server is not idle.
abbrev pub request_taken : AbstractState → ℕ → Born → Service → Request → Server → Option AbstractState
request_taken a n b service request idle = Some (at_stage (record a { server = request_begun n request }) n b service asked)
request_taken a n b service request _ = None

abbrev pub ask : AbstractState → ℕ → Born → Service → Request → Option AbstractState
ask a n b service request = request_taken a n b service request a.server

-- Its next step waits.
abbrev pub await_reply : AbstractState → ℕ → Born → Service → AbstractState
await_reply a n b service = with_born a n (record b { phase = in_service service awaiting; blocked = true })

-- ---- looking for a place

abbrev pub is_held_by : AbstractState → Option ℕ → Bool
is_held_by a None = false
is_held_by a (Some name) = is_held a name

abbrev pub looked : AbstractState → ℕ → Request → ℕ → AbstractState
looked a client request k =
    if not (is_held_by a (a.opened k).held_by)
    then record a {
      opened = upd a.opened k (record { held_by = None; used = true });
      server = busy client request (Some k);
    }
    else if nat_lt (k + 1) MAXOPEN then record a { server = looking client request (k + 1) }
    else record a { server = acted client (negated E_MAX_OPEN) [] None }

-- ---- the act

abbrev pub is_at : List ℕ → Object → Bool
is_at way (file f) = bytes_eq f.way way
is_at way _ = false

-- an environment has the file at a way open
abbrev pub is_file_open : AbstractState → List ℕ → Bool
is_file_open a way = is_such_held a (is_at way)

abbrev pub with_offset_of : AbstractState → ℕ → ℕ → Object → AbstractState
with_offset_of a name offset (file f) = record a { objects = upd a.objects name (file (record f { offset = offset })) }
with_offset_of a name offset _ = a

abbrev pub with_offset : AbstractState → ℕ → ℕ → AbstractState
with_offset a name offset = with_offset_of a name offset (a.objects name)

abbrev pub offset_in : Object → ℕ
offset_in (file f) = f.offset
offset_in _ = 0

-- an answer that is no error's number
abbrev pub is_count : ℕ → Bool
is_count answer = nat_lt answer 0x80000000

-- the offset goes on by what was read or written
abbrev pub moved_on : AbstractState → Option ℕ → ℕ → AbstractState
moved_on a None answer = a
moved_on a (Some name) answer =
    if is_count answer then with_offset a name (offset_in (a.objects name) + answer) else a

-- the file that an act has opened, with its low mode bits, under a new name and at a place of the table
abbrev pub file_opened : AbstractState → ℕ → ℕ → Option ℕ → Option (List ℕ) → ℕ → AbstractState
file_opened a client answer place None mode = record a { server = acted client answer [] None }
file_opened a client answer None (Some way) mode = record a { server = acted client answer [] None }
file_opened a client answer (Some k) (Some way) mode =
    let name = a.next_name in
    record a {
      objects = upd a.objects name (file (record { way = way; offset = 0; mode = mode; size = file_size a.files way }));
      opened = upd a.opened k (record { held_by = Some name; used = true });
      next_name = name + 1;
      server = acted client answer [] (Some name);
    }

abbrev pub low_mode : ℕ → ℕ
low_mode mode = mode % 4

-- after the act on the files
abbrev pub after_act : AbstractState → ℕ → FileAct → Option ℕ → Option ℕ → Acted → AbstractState
after_act a client (open_path path mode) object place did =
    if did.answer == 0
    then file_opened (record a { files = did.files }) client 0 place (file_named did.files path) (low_mode mode)
    else record a { files = did.files; server = acted client did.answer [] None }
after_act a client _ object place did =
    moved_on (record a { files = did.files; server = acted client did.answer did.bytes None }) object did.answer

abbrev pub act_done : AbstractState → ℕ → Request → Option ℕ → AbstractState
act_done a client (act request object) place = after_act a client request object place (file_act (is_file_open a) a.files request)
act_done a client (seek name offset) place = with_offset (record a { server = acted client 0 [] None }) name offset

-- ---- the reply

-- What is opened gets the lowest free descriptor, which is the answer; where none is free, that is told.
abbrev pub given : Born → Option ℕ → Option ℕ → ℕ → Born × ℕ
given b (Some name) (Some fd) answer = (with_descriptor b fd (Some name), fd)
given b (Some name) None answer = (b, negated E_MAX_OPEN)
given b None _ answer = (b, answer)

abbrev pub reply_to : AbstractState → ℕ → Service → List ℕ → Born × ℕ → AbstractState
reply_to a client service bytes to =
    with_born (record a { server = leaving }) client
    (record to.0 { phase = in_service service (replied bytes to.1); blocked = false })

-- The reply comes where the client waits for it.
abbrev pub reply_at : AbstractState → ℕ → Born → ℕ → List ℕ → Option ℕ → Phase → Option AbstractState
reply_at a client b answer bytes object (in_service service awaiting) =
    Some (reply_to a client service bytes (given b object (lowest_free b) answer))
reply_at a client b answer bytes object _ = None

abbrev pub reply : AbstractState → ℕ → ℕ → List ℕ → Option ℕ → Option Born → Option AbstractState
reply a client answer bytes object None = Some (record a { server = leaving })
reply a client answer bytes object (Some b) = reply_at a client b answer bytes object b.phase

-- ---- the server's step

abbrev pub served : AbstractState → Server → Option AbstractState
served a leaving = Some (record a { server = idle })
served a idle = None
served a (looking client request k) = Some (looked a client request k)
served a (busy client request place) = Some (act_done a client request place)
served a (acted client answer bytes object) = reply a client answer bytes object (born_in (a.slots client))

unfoldable pub server_step : AbstractState → Option AbstractState
server_step a = served a a.server
