-- What an environment does leaves every other slot as it was, but where it sends a message or forks: first its
-- services, then an instruction.
use Rattle.std.proofs.Common.{◌≡◌, ◌≢◌, ◌∙◌, ℕ, ◌+◌, ◌%◌, ◌^◌, Bool, true, false, List, [], ◌∷◌, refl, sym, subst}
use Rattle.std.proofs.Common.{Result, Ok, Err, if◌then◌else◌}
use Rattle.std.specs.Prelude.{Option, Some, None, IfSome, take, drop, length, codes}
use Rattle.jos_base.specs.declared.registers.Regs.{Regs}
use Rattle.jos_base.specs.declared.memory.PageFault.{PageFault}
use Rattle.jos_base.specs.Words.{upd}
use Rattle.jos_cpu.specs.declared.events.Event.{Event}
use Rattle.jos_cpu.specs.declared.events.Event.TheVariants.{Next, Soft, Raised}
use Rattle.jos_cpu.specs.declared.events.Gates.TheVariants.{Run}
use Rattle.jos_cpu.specs.Steps.{step_of}
use Rattle.jos_cpu.proofs.Agreement.{Agrees}
use Rattle.jos_cpu.proofs.Through.{step_through}
use Rattle.fs_layout.specs.FileTree.{remove_path}
use Rattle.fs_layout.specs.declared.numbers.TheConstants.{FTYPE_REG}
use Rattle.fs_layout.specs.FileActs.{stat_bytes}
use Rattle.lib_os.specs.declared.service.Service.{Service}
use Rattle.lib_os.specs.declared.service.Service.TheVariants as service
use Rattle.lib_os.specs.AbstractState.{AbstractState, Born, Page, own, named, AbstractSlot, Object, file, terminal, read_end}
use Rattle.lib_os.specs.AbstractState.{write_end, Request, act, ProgramState, guest, shell}
use Rattle.lib_os.specs.AbstractState.{Phase, at_guest, faulted, in_service, Stage, entered, gathering, delivering}
use Rattle.lib_os.specs.AbstractState.{received, asked, replied, moving, Server, idle}
use Rattle.lib_os.specs.AbstractMemory.{stored_in, page_at}
use Rattle.lib_os.specs.GuestStep.{GuestMemory, born_in, guest_memory, guest_stored, after_event, after_writes}
use Rattle.lib_os.specs.GuestStep.{guest_step}
use Rattle.lib_os.specs.Answers.{stored_into, all_stored, delivered_so_far, bytes_stored, bytes_delivered, handed_back}
use Rattle.lib_os.specs.MemoryServices.{printed, cputs, wait, page_new, page_drop}
use Rattle.lib_os.specs.AbstractMessages.{receive}
use Rattle.lib_os.specs.Descriptors.{close, dup_onto, dup, pipe_on, exit_by, object_of, lowest_open, lowest_free}
use Rattle.lib_os.specs.Descriptors.{next_free}
use Rattle.lib_os.specs.AbstractPipes.{read_over, read_from_pipe, write_pipe}
use Rattle.lib_os.specs.FileServer.{request_taken, ask}
use Rattle.lib_os.specs.FileServices.{after_asking, read_terminal, read_object, read_begun, read_moving, read_step}
use Rattle.lib_os.specs.FileServices.{write_object, write_with, write_begun, write_gathering, write_moving, write_step}
use Rattle.lib_os.specs.FileServices.{named_request, seek_begun, seek_step, set_size_begun, set_size_step}
use Rattle.lib_os.specs.FileServices.{stat_object, stat_begun, stat_step}
use Rattle.lib_os.specs.FileServices.{path_step, open_asked, open_step, remove_step, sync_step}
use Rattle.lib_os.specs.LibraryCall.{library_step, at_once, only_at_once, receive_step}
use Rattle.lib_os.specs.AbstractRun.{abs_step, program_step, slot_step}
use Rattle.lib_os.specs.AbstractLaws.{is_for_others, is_about_others, StepsLeaveOthers}
use Rattle.jos_base.proofs.Maps.{upd-other}

module _ (a : AbstractState) (n m : ℕ) (ne : m ≢ n) where
  -- slot m is as it was
  abbrev Left : AbstractState → Type 0
  Left x = x.slots m ≡ a.slots m

  abbrev LeftIf : Option AbstractState → Type 0
  LeftIf r = IfSome r Left

  -- ---- what the steps are made of

  -- something else stands in slot n
  set_left : (slot : AbstractSlot) → upd a.slots n slot m ≡ a.slots m
  set_left slot = upd-other a.slots n slot m ne

  set_left_in : (x : AbstractState) (slot : AbstractSlot) → Left x → upd x.slots n slot m ≡ a.slots m
  set_left_in x slot h = upd-other x.slots n slot m ne ∙ h

  if_left : (c : Bool) (x y : AbstractState) → Left x → Left y → Left (if c then x else y)
  if_left true x y h k = h
  if_left false x y h k = k

  if_some : (c : Bool) (x y : Option AbstractState) → LeftIf x → LeftIf y → LeftIf (if c then x else y)
  if_some true x y h k = h
  if_some false x y h k = k

  page_left : (x : AbstractState) (b : Born) (va byte : ℕ) (page : Option Page) → Left x →
      Left (stored_in x n b va byte page)
  page_left x b va byte None h = h
  page_left x b va byte (Some (own bytes w)) h = set_left_in x _ h
  page_left x b va byte (Some (named name w)) h = h

  into_left : (x : AbstractState) (va byte : ℕ) (o : Option Born) → Left x → Left (stored_into x n va byte o)
  into_left x va byte None h = h
  into_left x va byte (Some b) h = page_left x b va byte (page_at b va) h

  all_left : (x : AbstractState) (va : ℕ) (bytes : List ℕ) → Left x → Left (all_stored x n va bytes)
  unfolding all_stored
  all_left x va [] h = h
  all_left x va (byte ∷ rest) h =
      let o = born_in (x.slots n) in
      all_left (stored_into x n va byte o) ((va + 1) % 2 ^ 32) rest (into_left x va byte o h)

  to_left : (x : AbstractState) (regs : Regs) (s : Service) (va answer : ℕ) (bytes : List ℕ) (o : Option Born) →
      Left x →
      Left (delivered_so_far x n regs s va answer bytes o)
  to_left x regs s va answer bytes None h = h
  to_left x regs s va answer [] (Some b) h = set_left_in x _ h
  to_left x regs s va answer (byte ∷ rest) (Some b) h = set_left_in x _ h

  put_left : (regs : Regs) (s : Service) (va : ℕ) (bytes : List ℕ) (answer count : ℕ) →
      Left (bytes_stored a n regs s va bytes answer count)
  put_left regs s va bytes answer count =
      let x = all_stored a n va (take count bytes) in
      let h : Left x = all_left a va (take count bytes) refl in
      to_left x regs s ((va + count) % 2 ^ 32) answer (drop count bytes) (born_in (x.slots n)) h

  once_left : (stage : Stage) (x : AbstractState) → Left x → LeftIf (at_once stage x)
  once_left entered x h = h
  once_left _ x h = record {}

  only_left : (stage : Stage) (r : Option AbstractState) → LeftIf r → LeftIf (only_at_once stage r)
  only_left entered r h = h
  only_left _ r h = record {}

  module _ (b : Born) (regs : Regs) where
    -- ---- the environment itself

    printed_left : (r : Result (List ℕ) PageFault) → Left (printed a n b regs r)
    printed_left (Ok bytes) = set_left _
    printed_left (Err fault) = set_left _

    cputs_left : (va len : ℕ) → Left (cputs a n b regs va len)
    cputs_left va len = search (if_left, set_left, printed_left)

    wait_left : (id : ℕ) → LeftIf (wait a n b regs id)
    wait_left id = search (if_some, set_left)

    page_new_left : (va flags : ℕ) → Left (page_new a n b regs va flags)
    page_new_left va flags = search (if_left, set_left)

    page_drop_left : (va : ℕ) → Left (page_drop a n b regs va)
    page_drop_left va = search (if_left, set_left)

    receive_left : (va from : ℕ) → Left (receive a n b regs va from)
    receive_left va from = search (if_left, set_left)

    receive_step_left : (va from : ℕ) (stage : Stage) → LeftIf (receive_step a n b regs va from stage)
    receive_step_left va from entered = receive_left va from
    receive_step_left va from (received message) = set_left _
    receive_step_left va from _ = record {}

    -- ---- descriptors

    exit_left : (o : Option ℕ) → Left (exit_by a n b o)
    exit_left None = set_left _
    exit_left (Some fd) = set_left _

    close_left : (fd : ℕ) → Left (close a n b regs fd)
    close_left fd = search (if_left, set_left)

    onto_left : (old new : ℕ) (o : Option ℕ) → Left (dup_onto a n b regs old new o)
    onto_left old new (Some other) = set_left _
    onto_left old new None = set_left _

    dup_left : (old new : ℕ) → Left (dup a n b regs old new)
    dup_left old new = search (if_left, set_left, onto_left)

    pipe_left : (reading writing : Option ℕ) → Left (pipe_on a n b regs reading writing)
    pipe_left None writing = set_left _
    pipe_left (Some reading) None = set_left _
    pipe_left (Some reading) (Some writing) = set_left _

    module _ (s : Service) where
      -- ---- handing back

      delivered_left : (va : ℕ) (bytes : List ℕ) (answer : ℕ) → Left (bytes_delivered a n b regs s va bytes answer)
      delivered_left va bytes answer = search (if_left, set_left, put_left)

      handed_left : (x : AbstractState) (va : ℕ) (bytes : List ℕ) (answer : ℕ) → Left x →
          Left (handed_back x n b regs s va bytes answer)
      handed_left x va bytes answer h = to_left x regs s va answer bytes (Some b) h

      -- ---- pipes

      over_left : (va pipe wanted : ℕ) (taken : List ℕ) → LeftIf (read_over a n b regs s va pipe wanted taken)
      over_left va pipe wanted [] = search (if_some, set_left)
      over_left va pipe wanted (byte ∷ rest) = set_left _

      from_left : (va pipe wanted : ℕ) (taken held : List ℕ) → LeftIf (read_from_pipe a n b regs s va pipe wanted taken held)
      from_left va pipe wanted taken [] = over_left va pipe wanted taken
      from_left va pipe wanted taken (byte ∷ rest) = search (if_some, set_left, over_left)

      write_pipe_left : (pipe : ℕ) (bytes : List ℕ) (count : ℕ) → LeftIf (write_pipe a n b regs s pipe bytes count)
      write_pipe_left pipe [] count = set_left _
      write_pipe_left pipe (byte ∷ rest) count = search (if_some, set_left)

      -- ---- requests

      asks_left : (request : Request) (server : Server) → LeftIf (request_taken a n b s request server)
      asks_left request idle = set_left _
      asks_left request _ = record {}

      ask_left : (request : Request) → LeftIf (ask a n b s request)
      ask_left request = asks_left request a.server

      after_left : (va : ℕ) (stage : Stage) → LeftIf (after_asking a n b regs s va stage)
      after_left va (delivering at bytes answer) = delivered_left at bytes answer
      after_left va asked = set_left _
      after_left va (replied [] answer) = set_left _
      after_left va (replied (byte ∷ rest) answer) = delivered_left va (byte ∷ rest) answer
      after_left va _ = record {}

      -- ---- read and write

      terminal_left : (va wanted : ℕ) (input : List ℕ) → Left (read_terminal a n b regs s va wanted input)
      terminal_left va wanted [] = set_left _
      terminal_left va wanted (byte ∷ rest) = search (if_left, set_left)

      read_object_left : (va wanted : ℕ) (name : Option ℕ) (object : Object) →
          LeftIf (read_object a n b regs s va wanted name object)
      read_object_left va wanted name (file f) = search ask_left
      read_object_left va wanted name terminal = terminal_left va wanted a.input
      read_object_left va wanted name (read_end pipe) = from_left va pipe wanted [] (a.pipes pipe)
      read_object_left va wanted name (write_end pipe) = record {}

      read_begun_left : (fd va len : ℕ) (o : Option Object) → LeftIf (read_begun a n b regs s fd va len o)
      read_begun_left fd va len None = set_left _
      read_begun_left fd va len (Some object) = search (if_some, set_left, read_object_left)

      read_moving_left : (va len : ℕ) (taken : List ℕ) (o : Option Object) →
          LeftIf (read_moving a n b regs s va len taken o)
      read_moving_left va len taken (Some (read_end pipe)) = from_left va pipe _ taken (a.pipes pipe)
      read_moving_left va len taken _ = record {}

      read_left : (fd va len : ℕ) (stage : Stage) → LeftIf (read_step a n b regs s fd va len stage)
      read_left fd va len entered = read_begun_left fd va len (object_of a b fd)
      read_left fd va len (moving taken count) = read_moving_left va len taken _
      read_left fd va len stage = after_left va stage

      write_object_left : (bytes : List ℕ) (name : Option ℕ) (object : Object) →
          LeftIf (write_object a n b regs s bytes name object)
      write_object_left bytes name (file f) = search ask_left
      write_object_left bytes name terminal = set_left _
      write_object_left bytes name (read_end pipe) = record {}
      write_object_left bytes name (write_end pipe) = write_pipe_left pipe bytes 0

      write_with_left : (fd va wanted : ℕ) (bytes : List ℕ) (object : Object) →
          LeftIf (write_with a n b regs s fd va wanted bytes object)
      write_with_left fd va wanted bytes object = search (if_some, if_left, set_left, write_object_left)

      write_begun_left : (fd va len : ℕ) (o : Option Object) → LeftIf (write_begun a n b regs s fd va len o)
      write_begun_left fd va len None = set_left _
      write_begun_left fd va len (Some object) = search (if_some, set_left, write_with_left)

      write_gathering_left : (fd va len : ℕ) (bytes : List ℕ) (o : Option Object) →
          LeftIf (write_gathering a n b regs s fd va len bytes o)
      write_gathering_left fd va len bytes None = record {}
      write_gathering_left fd va len bytes (Some object) = write_with_left fd va _ bytes object

      write_moving_left : (rest : List ℕ) (count : ℕ) (o : Option Object) →
          LeftIf (write_moving a n b regs s rest count o)
      write_moving_left rest count (Some (write_end pipe)) = write_pipe_left pipe rest count
      write_moving_left rest count _ = record {}

      write_left : (fd va len : ℕ) (stage : Stage) → LeftIf (write_step a n b regs s fd va len stage)
      write_left fd va len entered = write_begun_left fd va len (object_of a b fd)
      write_left fd va len (gathering taken) = write_gathering_left fd va len taken _
      write_left fd va len (moving rest count) = write_moving_left rest count _
      write_left fd va len stage = after_left va stage

      -- ---- seek, set_size and stat

      named_left : (name : Option ℕ) (request_of : ℕ → Request) → LeftIf (named_request a n b s name request_of)
      named_left None request_of = record {}
      named_left (Some name) request_of = ask_left _

      seek_begun_left : (fd offset : ℕ) (o : Option Object) → LeftIf (seek_begun a n b regs s fd offset o)
      seek_begun_left fd offset None = set_left _
      seek_begun_left fd offset (Some (file f)) = search (if_some, set_left, named_left)
      seek_begun_left fd offset (Some _) = set_left _

      seek_left : (fd offset : ℕ) (stage : Stage) → LeftIf (seek_step a n b regs s fd offset stage)
      seek_left fd offset entered = seek_begun_left fd offset _
      seek_left fd offset stage = after_left 0 stage

      set_size_begun_left : (size : ℕ) (o : Option Object) → LeftIf (set_size_begun a n b regs s size o)
      set_size_begun_left size None = set_left _
      set_size_begun_left size (Some (file f)) = search (if_some, set_left, ask_left)
      set_size_begun_left size (Some _) = set_left _

      set_size_left : (fd size : ℕ) (stage : Stage) → LeftIf (set_size_step a n b regs s fd size stage)
      set_size_left fd size entered = set_size_begun_left size (object_of a b fd)
      set_size_left fd size stage = after_left 0 stage

      stat_object_left : (va : ℕ) (object : Object) → LeftIf (stat_object a n b regs s va object)
      stat_object_left va (file f) = search ask_left
      stat_object_left va terminal = handed_left a va (stat_bytes (codes "<cons>") 0 FTYPE_REG) 0 refl
      stat_object_left va (read_end pipe) = handed_left a va (stat_bytes (codes "<pipe>") (length (a.pipes pipe)) FTYPE_REG) 0 refl
      stat_object_left va (write_end pipe) = handed_left a va (stat_bytes (codes "<pipe>") (length (a.pipes pipe)) FTYPE_REG) 0 refl

      stat_begun_left : (va : ℕ) (o : Option Object) → LeftIf (stat_begun a n b regs s va o)
      stat_begun_left va None = set_left _
      stat_begun_left va (Some object) = search (if_some, set_left, stat_object_left)

      stat_left : (fd va : ℕ) (stage : Stage) → LeftIf (stat_step a n b regs s fd va stage)
      stat_left fd va entered = stat_begun_left va _
      stat_left fd va stage = after_left va stage

      -- ---- paths

      path_left : (path : ℕ) (taken : List ℕ) (next : List ℕ → Option AbstractState) →
          ((found : List ℕ) → LeftIf (next found)) → LeftIf (path_step a n b regs s path taken next)
      path_left path taken next on_next = search (if_some, if_left, set_left, on_next)

      open_asked_left : (mode : ℕ) (path : List ℕ) → LeftIf (open_asked a n b regs s mode path)
      open_asked_left mode path = search (if_some, set_left, ask_left)

      open_left : (path mode : ℕ) (stage : Stage) → LeftIf (open_step a n b regs s path mode stage)
      open_left path mode entered =
          let next = open_asked a n b regs s mode in
          let h : LeftIf (path_step a n b regs s path [] next) = path_left path [] next (open_asked_left mode) in
          search (if_some, set_left, h)
      open_left path mode (gathering taken) = path_left path taken _ (open_asked_left mode)
      open_left path mode stage = after_left 0 stage

      remove_left : (path : ℕ) (stage : Stage) → LeftIf (remove_step a n b regs s path stage)
      remove_left path entered = path_left path [] _ (λ found. ask_left (act (remove_path found) None))
      remove_left path (gathering taken) = path_left path taken _ (λ found. ask_left (act (remove_path found) None))
      remove_left path stage = after_left 0 stage

      sync_left : (stage : Stage) → LeftIf (sync_step a n b regs s stage)
      sync_left entered = search ask_left
      sync_left stage = after_left 0 stage

    -- ---- any service

    call_left : (call : Service) (stage : Stage) → is_for_others call ≡ false →
        LeftIf (library_step a n b regs call stage)
    unfolding library_step
    call_left service.Exit stage quiet = exit_left (lowest_open b)
    call_left (service.Cputs va len) stage quiet = once_left stage _ (cputs_left va len)
    call_left service.GetId stage quiet = once_left stage _ (set_left _)
    call_left service.Yield stage quiet = once_left stage _ (set_left _)
    call_left service.Fork stage quiet = absurd (cc)
    call_left (service.Wait id) stage quiet = only_left stage _ (wait_left id)
    call_left (service.PageNew va flags) stage quiet = once_left stage _ (page_new_left va flags)
    call_left (service.PageDrop va) stage quiet = once_left stage _ (page_drop_left va)
    call_left (service.Send id value va) stage quiet = absurd (cc)
    call_left (service.Receive va from) stage quiet = receive_step_left va from stage
    call_left (service.OpenFile path mode) stage quiet = open_left (service.OpenFile path mode) path mode stage
    call_left (service.Close fd) stage quiet = once_left stage _ (close_left fd)
    call_left (service.Read fd va len) stage quiet = read_left (service.Read fd va len) fd va len stage
    call_left (service.Write fd va len) stage quiet = write_left (service.Write fd va len) fd va len stage
    call_left (service.Seek fd offset) stage quiet = seek_left (service.Seek fd offset) fd offset stage
    call_left (service.Stat fd va) stage quiet = stat_left (service.Stat fd va) fd va stage
    call_left (service.SetSize fd size) stage quiet = set_size_left (service.SetSize fd size) fd size stage
    call_left (service.Remove path) stage quiet = remove_left (service.Remove path) path stage
    call_left service.Sync stage quiet = sync_left service.Sync stage
    call_left (service.Dup old new) stage quiet = once_left stage _ (dup_left old new)
    call_left service.Pipe stage quiet = once_left stage _ (pipe_left (lowest_free b) (next_free b (lowest_free b)))
    call_left (service.Spawn path argv) stage quiet = absurd (cc)
    call_left service.Unknown stage quiet = once_left stage _ (set_left _)

  -- ---- an instruction

  -- what comes of an instruction, when its writes have left slot m
  event_left : (x : AbstractState) (b : Born) (ip : ℕ) (regs : Regs) (event : Event) → Left x →
      Left (after_event x n b ip regs event)
  event_left x b ip regs Next h = search (if_left, set_left_in, h)
  event_left x b ip regs (Soft vector) h = search (if_left, set_left_in, h)
  event_left x b ip regs (Raised trap error va) h = search (if_left, set_left_in, h)

  writes_left : (x : AbstractState) (ip : ℕ) (regs : Regs) (event : Event) (o : Option Born) → Left x →
      Left (after_writes x n ip regs event o)
  writes_left x ip regs event None h = h
  writes_left x ip regs event (Some b) h = event_left x b ip regs event h

-- The memory of a guest in another slot than m, in a state that has slot m as it was.
pub record Spares (a : AbstractState) (m : ℕ) (g : GuestMemory) : Type 0 where
  pub apart : m ≢ g.slot
  pub kept : g.state.slots m ≡ a.slots m

byte_spares : (a : AbstractState) (m : ℕ) (g : GuestMemory) (va byte : ℕ) (o : Option Born) → Spares a m g →
    Spares a m (record g { state = guest_stored g.state g.slot o va byte })
byte_spares a m g va byte None h = record { apart = h.apart; kept = h.kept }
byte_spares a m g va byte (Some b) h =
    record { apart = h.apart; kept = page_left a g.slot m h.apart g.state b va byte (page_at b va) h.kept }

-- So a step of the processor spares slot m.
spared : (a : AbstractState) (m : ℕ) → Agrees guest_memory guest_memory (λ g. g) (Spares a m)
unfolding guest_memory
spared a m = record {
  byte = λ g h va. refl;
  allowed = λ g h va access. refl;
  fault = λ g h va access off. refl;
  reached = λ g h va access on. (h, refl);
  stored = λ g h va byte small. (byte_spares a m g va byte (born_in (g.state.slots g.slot)) h, refl);
}

-- ---- any step

module _ (a : AbstractState) (n m : ℕ) (ne : m ≢ n) where
  guest_left : (regs : Regs) → Left a n m ne (guest_step a n regs)
  unfolding guest_step
  guest_left regs =
      let start : GuestMemory = record { state = a; slot = n } in
      let s = step_of guest_memory regs start Run in
      let h : Spares a m s.memory = (step_through (spared a m) regs start Run (record { apart = ne; kept = refl })).0 in
      writes_left a n m ne s.memory.state regs.eip s.regs s.event (born_in (s.memory.state.slots n)) h.kept

  program_left : (b : Born) (program : ProgramState) (phase : Phase) → is_about_others phase ≡ false →
      LeftIf a n m ne (program_step a n b program phase)
  program_left b (guest regs) at_guest quiet = guest_left regs
  program_left b (guest regs) (faulted va ip) quiet = set_left a n m ne _
  program_left b (guest regs) (in_service call stage) quiet = call_left a n m ne b regs call stage quiet
  program_left b (shell place) phase quiet = record {}

pub steps_leave_others : StepsLeaveOthers
unfolding abs_step
steps_leave_others a n m b ne e quiet =
    let h : LeftIf a n m ne (program_step a n b b.program b.phase) = program_left a n m ne b b.program b.phase quiet in
    subst (λ (slot : AbstractSlot). LeftIf a n m ne (slot_step a n slot)) (sym e)
    (if_some a n m ne b.blocked None _ (record {}) h)
