-- What comes of a step of an environment for the others, the slots that are given and the server: first its services, then
-- an instruction. The walk is that of Others.
use Rattle.std.proofs.Common.{◌≡◌, ◌≢◌, ◌∙◌, ℕ, ◌+◌, ◌%◌, ◌^◌, Bool, true, false, List, [], ◌∷◌, ◌++◌, ◌==◌, ◌||◌}
use Rattle.std.proofs.Common.{refl, sym, ap, subst, Result, Ok, Err, if◌then◌else◌}
use Rattle.std.proofs.lemmas.Option.{same_Some}
use Rattle.std.specs.Prelude.{Option, Some, None, IfSome, take, drop, length, slice_index, codes, ⊤, ◌&&◌, not, nat_le, nat_lt}
use Rattle.jos_base.specs.declared.registers.Regs.{Regs}
use Rattle.jos_base.specs.declared.memory.PageFault.{PageFault}
use Rattle.jos_base.specs.declared.memory.Access.TheVariants.{Read, Write}
use Rattle.jos_base.specs.declared.numbers.TheConstants.{NENV, PGSIZE, T_SERVICE}
use Rattle.jos_base.specs.Environments.{next_id}
use Rattle.jos_base.specs.Words.{negated, upd}
use Rattle.jos_cpu.specs.declared.events.Event.{Event}
use Rattle.jos_cpu.specs.declared.events.Event.TheVariants.{Next, Soft, Raised}
use Rattle.jos_cpu.specs.declared.events.Gates.TheVariants.{Run}
use Rattle.jos_cpu.specs.Steps.{step_of}
use Rattle.jos_cpu.proofs.Agreement.{Agrees}
use Rattle.jos_cpu.proofs.Through.{step_through}
use Rattle.fs_layout.specs.FileTree.{open_path, read_file, remove_path}
use Rattle.fs_layout.specs.declared.numbers.TheConstants.{FTYPE_REG}
use Rattle.fs_layout.specs.FileActs.{stat_bytes}
use Rattle.jos_base.specs.Below.{some_below}
use Rattle.lib_os.specs.declared.numbers.TheConstants.{DESCRIPTORS}
use Rattle.lib_os.specs.declared.service.Service.{Service}
use Rattle.lib_os.specs.declared.service.Service.TheVariants as service
use Rattle.lib_os.specs.AbstractState.{AbstractState, Born, Page, own, named, AbstractSlot, Object, file, terminal, read_end}
use Rattle.lib_os.specs.AbstractState.{write_end, Request, act, ProgramState, guest, shell}
use Rattle.lib_os.specs.AbstractState.{Phase, at_guest, faulted, in_service, Stage, entered, gathering, delivering}
use Rattle.lib_os.specs.AbstractState.{receiving, received, bearing, asked, replied, moving, taking, Server, idle, slot_id, with_born}
use Rattle.lib_os.specs.AbstractState.{free, unborn, born, serving, awaiting, OpenFile, ImageRead, Spawning, listing, quoting}
use Rattle.lib_os.specs.AbstractState.{opening, heading, tabling, loading, closed, dropping, refusing}
use Rattle.lib_os.specs.AbstractMemory.{stored_in, page_at, page_allows}
use Rattle.lib_os.specs.GuestStep.{GuestMemory, born_in, guest_memory, guest_stored, after_event, after_writes}
use Rattle.lib_os.specs.GuestStep.{guest_step}
use Rattle.lib_os.specs.Answers.{stored_into, all_stored, delivered_so_far, bytes_gathered, bytes_stored, bytes_delivered}
use Rattle.lib_os.specs.Answers.{bytes_from, handed_back, moved_at_once}
use Rattle.lib_os.specs.MemoryServices.{printed, cputs, wait, page_new, page_drop}
use Rattle.lib_os.specs.AbstractMessages.{receive, Receiver, page_kind, waiting_in, with_sent, woken, sent, takes, sent_to_waiting}
use Rattle.lib_os.specs.AbstractMessages.{sent_to, send}
use Rattle.lib_os.specs.AbstractMemory.{with_page}
use Rattle.lib_os.specs.Descriptors.{holds_in, is_name, close, dup_onto, dup, pipe_on, exit_by, object_of, lowest_open, lowest_free}
use Rattle.lib_os.specs.Descriptors.{next_free}
use Rattle.lib_os.specs.AbstractPipes.{read_over, read_from_pipe, write_pipe}
use Rattle.lib_os.specs.Fence.{in_fence}
use Rattle.lib_os.specs.Services.{service_of}
use Rattle.lib_os.specs.FileServer.{request_begun, request_taken, ask, is_count}
use Rattle.lib_os.specs.FileServices.{after_asking, read_terminal, read_object, read_begun, read_moving, read_step}
use Rattle.lib_os.specs.FileServices.{write_object, write_with, write_begun, write_gathering, write_moving, write_step}
use Rattle.lib_os.specs.FileServices.{named_request, seek_begun, seek_step, set_size_begun, set_size_step}
use Rattle.lib_os.specs.FileServices.{stat_object, stat_begun, stat_step}
use Rattle.lib_os.specs.FileServices.{path_step, open_asked, open_step, remove_step, sync_step}
use Rattle.jos_elf.specs.declared.numbers.TheConstants.{ARGS_MAX, EHDR_LEN, E_NOT_EXEC}
use Rattle.jos_elf.specs.StackPage.{fits_stack}
use Rattle.lib_os.specs.AbstractSpawn.{Piece, address_gathered, address_taken, answer_in, child_begun, descriptor_of, file_dropped}
use Rattle.lib_os.specs.AbstractSpawn.{file_in, file_opened, file_step, has_nul, header_read, listing_step, more_gathered, next_string}
use Rattle.lib_os.specs.AbstractSpawn.{piece_asked, piece_read, pieces_left, quoting_step, reading_step, spawn_at, spawn_begun, spawn_step}
use Rattle.jos_elf.specs.Headers.{table_of}
use Rattle.lib_os.specs.AbstractSpawn.{is_header, is_table, table_size, with_spawning}
use Rattle.lib_os.specs.AbstractSpawn.{spawned, spawning_step, string_gathered, table_read, unread_step, words_given}
use Rattle.lib_os.specs.LibraryCall.{library_step, at_once, only_at_once, fork_step, receive_step}
use Rattle.lib_os.specs.AbstractFork.{begun_in, child_of}
use Rattle.lib_os.specs.AbstractRun.{abs_step, program_step, slot_step}
use Rattle.lib_os.specs.AbstractLaws.{asks_server, has_asked, is_asking, bears_in, borne_by, is_vacant, is_unborn, loads_for}
use Rattle.jos_base.proofs.Maps.{upd-all, upd-other, upd-at}

-- ---- what a slot is for the others

pub record Kind : Type 0 where
  pub asks : Bool
  pub borne : Option ℕ
  pub vacant : Bool
  pub being_made : Bool

abbrev pub kind : AbstractSlot → Kind
kind slot = record { asks = is_asking slot; borne = borne_by slot; vacant = is_vacant slot; being_made = is_unborn slot }

abbrev pub kind_in : Phase → Option Spawning → Kind
kind_in phase found = record { asks = has_asked phase; borne = bears_in phase found; vacant = false; being_made = false }

-- A slot is for the others what another was, and has the same descriptors; of who has asked the file server it has all.
pub record SeenAs (now was : AbstractSlot) : Type 0 where
  pub alike : kind now ≡ kind was
  pub holds : holds_in (born_in now) ≡ holds_in (born_in was)
  pub asker : is_asking was ≡ true → now ≡ was

pub same_seen : (slot : AbstractSlot) → SeenAs slot slot
same_seen slot = record { alike = refl; holds = refl; asker = λ is. refl }

pub seen_other : (slots : ℕ → AbstractSlot) (n : ℕ) (slot : AbstractSlot) (m : ℕ) → m ≢ n → SeenAs (upd slots n slot m) (slots m)
seen_other slots n slot m ne = subst (λ (s : AbstractSlot). SeenAs s (slots m)) (sym (upd-other slots n slot m ne)) (same_seen (slots m))

-- who is sent a page has the descriptors that it had
sent_holds : (o : Born) (w : Receiver) (va sender : ℕ) (page : Option Page) → (with_sent o w va sender page).0.descriptors ≡ o.descriptors
sent_holds o w va sender None = refl
sent_holds o w va sender (Some page) = by_test ((va == 0) || (w.va == 0))
  where
    by_test : (t : Bool) →
        (if◌then◌else◌ {A = Born × ℕ} t (o, 0) (with_page o w.va page, page_kind page)).0.descriptors ≡ o.descriptors
    by_test true = refl
    by_test false = refl

nothing : ⊤
nothing = record {}

-- who waits for a message has not asked, and bears nobody
waiting_kind : (phase : Phase) (found : Option Spawning) (w : Receiver) → waiting_in phase ≡ Some w → kind_in phase found ≡ kind_in at_guest None
waiting_kind at_guest found w is = refl
waiting_kind (faulted va ip) found w is = refl
waiting_kind (in_service (service.Receive va from) receiving) found w is = refl
waiting_kind (in_service s stage) found w is = absurd (cc)

-- ---- what comes of a step

module _ (a : AbstractState) (n : ℕ) where
  -- all slots but n are for the others as they were, and who has asked has all that it had
  abbrev pub Others : (ℕ → AbstractSlot) → Type 0
  Others slots = (m : ℕ) → m ≢ n → SeenAs (slots m) (a.slots m)

  -- of slot n: an environment is there that bears nobody, or whom it bore, or it is as it was
  pub data Own (k : Kind) : Type 0 where
    bears_none : k.borne ≡ None → k.vacant ≡ false → k.being_made ≡ false → Own k
    bears_still : k.borne ≡ borne_by (a.slots n) → k.vacant ≡ false → k.being_made ≡ false → Own k
    as_before : k ≡ kind (a.slots n) → Own k

  -- the parts of a later state, as they stand to those of the first
  pub record Kept (slots : ℕ → AbstractSlot) (free_slots : List ℕ) (server : Server) : Type 0 where
    pub others : Others slots
    pub itself : Own (kind (slots n))
    pub free_are : free_slots ≡ a.free_slots
    pub server_is : server ≡ a.server

  pub data Done (slots : ℕ → AbstractSlot) (free_slots : List ℕ) (server : Server) : Type 0 where
    still : Kept slots free_slots server → Done slots free_slots server
    -- it has ended
    ended : Others slots → (id : ℕ) → slots n ≡ free id → free_slots ≡ n ∷ a.free_slots → server ≡ a.server →
        Done slots free_slots server
    -- it has asked the server
    asks : Kept slots free_slots a.server → (request : Request) → is_asking (slots n) ≡ true → server ≡ request_begun n request →
        Done slots free_slots server
    -- it begins to bear a child
    begins : (child id parent : ℕ) (b : Born) → a.free_slots ≡ child ∷ free_slots →
        slots ≡ upd (upd a.slots child (unborn id parent)) n (born b) → bears_in b.phase b.spawning ≡ Some child → server ≡ a.server →
        Done slots free_slots server
    -- its child is born
    bears : (child : ℕ) (c b : Born) → borne_by (a.slots n) ≡ Some child →
        slots ≡ upd (upd a.slots child (born c)) n (born b) → bears_in c.phase c.spawning ≡ None →
        bears_in b.phase b.spawning ≡ None → free_slots ≡ a.free_slots → server ≡ a.server →
        Done slots free_slots server
    -- its child is not born at all
    drops : (child id : ℕ) (b : Born) → borne_by (a.slots n) ≡ Some child →
        slots ≡ upd (upd a.slots child (free id)) n (born b) → bears_in b.phase b.spawning ≡ None →
        free_slots ≡ child ∷ a.free_slots → server ≡ a.server →
        Done slots free_slots server

  abbrev Left : AbstractState → Type 0
  Left x = Kept x.slots x.free_slots x.server

  abbrev pub Ends : AbstractState → Type 0
  Ends x = Done x.slots x.free_slots x.server

  abbrev LeftIf : Option AbstractState → Type 0
  LeftIf r = IfSome r Ends

  -- ---- what the steps are made of

  same_left : Left a
  same_left = record { others = λ m ne. same_seen (a.slots m); itself = as_before refl; free_are = refl; server_is = refl }

  others_set : (slots : ℕ → AbstractSlot) (slot : AbstractSlot) → Others slots → Others (upd slots n slot)
  others_set slots slot h m ne = subst (λ (s : AbstractSlot). SeenAs s (a.slots m)) (sym (upd-other slots n slot m ne)) (h m ne)

  -- an environment stands in slot n
  set_own : (x : AbstractState) (b : Born) → Left x → Own (kind_in b.phase b.spawning) → Left (with_born x n b)
  set_own x b h itself = record {
    others = others_set x.slots (born b) h.others;
    itself = subst (λ (s : AbstractSlot). Own (kind s)) (sym (upd-at x.slots n (born b))) itself;
    free_are = h.free_are;
    server_is = h.server_is;
  }

  put_in : (x : AbstractState) (b : Born) → Left x → Own (kind_in b.phase b.spawning) → Ends (with_born x n b)
  put_in x b h itself = still (set_own x b h itself)

  put : (b : Born) → Own (kind_in b.phase b.spawning) → Ends (with_born a n b)
  put b itself = put_in a b same_left itself

  none : (asks_it : Bool) → Own (record { asks = asks_it; borne = None; vacant = false; being_made = false })
  none asks_it = bears_none refl refl refl

  freed_in : (x : AbstractState) (id : ℕ) → Left x → Done (upd x.slots n (free id)) (n ∷ x.free_slots) x.server
  freed_in x id h =
      ended (others_set x.slots (free id) h.others) id (upd-at x.slots n (free id)) (ap (λ (l : List ℕ). n ∷ l) h.free_are) h.server_is

  freed : (id : ℕ) → Done (upd a.slots n (free id)) (n ∷ a.free_slots) a.server
  freed id = freed_in a id same_left

  if_left : (c : Bool) (x y : AbstractState) → Ends x → Ends y → Ends (if c then x else y)
  if_left true x y h k = h
  if_left false x y h k = k

  if_some : (c : Bool) (x y : Option AbstractState) → LeftIf x → LeftIf y → LeftIf (if c then x else y)
  if_some true x y h k = h
  if_some false x y h k = k

  -- the environment that stands in slot n
  abbrev OwnIn : Option Born → Type 0
  OwnIn None = ⊤
  OwnIn (Some b) = Own (kind_in b.phase b.spawning)

  of_slot : (slot : AbstractSlot) → Own (kind slot) → OwnIn (born_in slot)
  of_slot (free id) h = nothing
  of_slot (unborn id parent) h = nothing
  of_slot (serving id) h = nothing
  of_slot (born b) h = h

  there : (x : AbstractState) → Left x → OwnIn (born_in (x.slots n))
  there x h = of_slot (x.slots n) h.itself

  page_left : (x : AbstractState) (b : Born) (va byte : ℕ) (page : Option Page) → Left x → Own (kind_in b.phase b.spawning) →
      Left (stored_in x n b va byte page)
  page_left x b va byte None h itself = h
  page_left x b va byte (Some (own bytes w)) h itself = set_own x _ h itself
  page_left x b va byte (Some (named name w)) h itself = record { others = h.others; itself = h.itself; free_are = h.free_are; server_is = h.server_is }

  into_left : (x : AbstractState) (va byte : ℕ) (o : Option Born) → Left x → OwnIn o → Left (stored_into x n va byte o)
  into_left x va byte None h itself = h
  into_left x va byte (Some b) h itself = page_left x b va byte (page_at b va) h itself

  all_left : (x : AbstractState) (va : ℕ) (bytes : List ℕ) → Left x → Left (all_stored x n va bytes)
  unfolding all_stored
  all_left x va [] h = h
  all_left x va (byte ∷ rest) h =
      let o = born_in (x.slots n) in
      all_left (stored_into x n va byte o) ((va + 1) % 2 ^ 32) rest (into_left x va byte o h (there x h))

  -- whoever is in the service bears nobody
  abbrev BearsNobody : Service → Type 0
  BearsNobody s = (stage : Stage) (found : Option Spawning) → Own (kind_in (in_service s stage) found)

  to_left : (x : AbstractState) (regs : Regs) (s : Service) → BearsNobody s → (va answer : ℕ) (bytes : List ℕ) (o : Option Born) → Left x →
      Ends (delivered_so_far x n regs s va answer bytes o)
  to_left x regs s calm va answer bytes None h = still h
  to_left x regs s calm va answer [] (Some b) h = put_in x _ h (none _)
  to_left x regs s calm va answer (byte ∷ rest) (Some b) h = put_in x _ h (calm _ b.spawning)

  put_left : (regs : Regs) (s : Service) → BearsNobody s → (va : ℕ) (bytes : List ℕ) (answer count : ℕ) →
      Ends (bytes_stored a n regs s va bytes answer count)
  put_left regs s calm va bytes answer count =
      let x = all_stored a n va (take count bytes) in
      let h : Left x = all_left a va (take count bytes) same_left in
      to_left x regs s calm ((va + count) % 2 ^ 32) answer (drop count bytes) (born_in (x.slots n)) h

  once_left : (stage : Stage) (x : AbstractState) → Ends x → LeftIf (at_once stage x)
  once_left entered x h = h
  once_left _ x h = record {}

  only_left : (stage : Stage) (r : Option AbstractState) → LeftIf r → LeftIf (only_at_once stage r)
  only_left entered r h = h
  only_left _ r h = record {}

  module _ (b : Born) (at : a.slots n ≡ born b) (regs : Regs) where
    -- the environment as it was, at its phase
    mine : Own (kind_in b.phase b.spawning)
    mine = as_before (ap (λ (slot : AbstractSlot). kind slot) (sym at))

    -- ---- the environment itself

    printed_left : (r : Result (List ℕ) PageFault) → Ends (printed a n b regs r)
    printed_left (Ok bytes) = put _ (none _)
    printed_left (Err fault) = freed _

    cputs_left : (va len : ℕ) → Ends (cputs a n b regs va len)
    cputs_left va len = search (if_left, put, none, printed_left)

    wait_left : (id : ℕ) → LeftIf (wait a n b regs id)
    wait_left id = search (if_some, put, none)

    page_new_left : (va flags : ℕ) → Ends (page_new a n b regs va flags)
    page_new_left va flags = search (if_left, put, none)

    page_drop_left : (va : ℕ) → Ends (page_drop a n b regs va)
    page_drop_left va = search (if_left, put, none)

    receive_left : (va from : ℕ) → Ends (receive a n b regs va from)
    receive_left va from = search (if_left, put, none)

    receive_step_left : (va from : ℕ) (stage : Stage) → LeftIf (receive_step a n b regs va from stage)
    receive_step_left va from entered = receive_left va from
    receive_step_left va from (received message) = put _ (none _)
    receive_step_left va from _ = record {}

    -- ---- descriptors

    exit_left : (o : Option ℕ) → Ends (exit_by a n b o)
    exit_left None = freed _
    exit_left (Some fd) = put _ mine

    close_left : (fd : ℕ) → Ends (close a n b regs fd)
    close_left fd = search (if_left, put, none)

    onto_left : (old new : ℕ) (o : Option ℕ) → Ends (dup_onto a n b regs old new o)
    onto_left old new (Some other) = put _ mine
    onto_left old new None = put _ (none _)

    dup_left : (old new : ℕ) → Ends (dup a n b regs old new)
    dup_left old new = search (if_left, put, none, onto_left)

    pipe_left : (reading writing : Option ℕ) → Ends (pipe_on a n b regs reading writing)
    pipe_left None writing = put _ (none _)
    pipe_left (Some reading) None = put _ (none _)
    pipe_left (Some reading) (Some writing) = put _ (none _)

    -- a service that asks the server, by an environment that bears nobody
    module _ (s : Service) (asks_it : asks_server s ≡ true) (calm : (stage : Stage) → Own (kind_in (in_service s stage) b.spawning)) where
      gathering_left : (va wanted : ℕ) (taken : List ℕ) → Ends (bytes_gathered a n b regs s va wanted (λ more. gathering (taken ++ more)))
      gathering_left va wanted taken =
          if_left (page_allows (page_at b va) Read) _ _ (put _ (calm (gathering (taken ++ bytes_from a b va (moved_at_once va wanted))))) (freed _)

      asking_left : (request : Request) (server : Server) → LeftIf (request_taken a n b s request server)
      asking_left request idle =
          let waiter : Born = record b { phase = in_service s asked } in
          asks (set_own a waiter same_left (calm asked)) request
          (ap (λ (slot : AbstractSlot). is_asking slot) (upd-at a.slots n (born waiter)) ∙ asks_it) refl
      asking_left request _ = record {}

      along_path : (path : ℕ) (taken : List ℕ) (next : List ℕ → Option AbstractState) →
          ((found : List ℕ) → LeftIf (next found)) → LeftIf (path_step a n b regs s path taken next)
      along_path path taken next on_next = search (if_some, put, none, gathering_left, on_next)

    module _ (s : Service) (asks_it : asks_server s ≡ true) (nobody : BearsNobody s) where
      calm : (stage : Stage) → Own (kind_in (in_service s stage) b.spawning)
      calm stage = nobody stage b.spawning

      -- ---- taking what was given, and handing back

      gathered_left : (va wanted : ℕ) (taken : List ℕ) → Ends (bytes_gathered a n b regs s va wanted (λ more. gathering (taken ++ more)))
      gathered_left va wanted taken = gathering_left s asks_it calm va wanted taken

      delivered_left : (va : ℕ) (bytes : List ℕ) (answer : ℕ) → Ends (bytes_delivered a n b regs s va bytes answer)
      delivered_left va bytes answer =
          if_left (page_allows (page_at b va) Write) _ _ (put_left regs s nobody va bytes answer _) (freed _)

      handed_left : (x : AbstractState) (va : ℕ) (bytes : List ℕ) (answer : ℕ) → Left x →
          Ends (handed_back x n b regs s va bytes answer)
      handed_left x va bytes answer h = to_left x regs s nobody va answer bytes (Some b) h

      -- ---- pipes

      over_left : (va pipe wanted : ℕ) (taken : List ℕ) → LeftIf (read_over a n b regs s va pipe wanted taken)
      over_left va pipe wanted [] = search (if_some, put, none, calm)
      over_left va pipe wanted (byte ∷ rest) = put _ (calm _)

      from_left : (va pipe wanted : ℕ) (taken held : List ℕ) → LeftIf (read_from_pipe a n b regs s va pipe wanted taken held)
      from_left va pipe wanted taken [] = over_left va pipe wanted taken
      from_left va pipe wanted taken (byte ∷ rest) = search (if_some, put, none, calm, over_left)

      write_pipe_left : (pipe : ℕ) (bytes : List ℕ) (count : ℕ) → LeftIf (write_pipe a n b regs s pipe bytes count)
      write_pipe_left pipe [] count = put _ (none _)
      write_pipe_left pipe (byte ∷ rest) count = search (if_some, put, none, calm)

      -- ---- requests

      ask_left : (request : Request) → LeftIf (ask a n b s request)
      ask_left request = asking_left s asks_it calm request a.server

      after_left : (va : ℕ) (stage : Stage) → LeftIf (after_asking a n b regs s va stage)
      after_left va (delivering at bytes answer) = delivered_left at bytes answer
      after_left va asked = put _ (calm awaiting)
      after_left va (replied [] answer) = put _ (none _)
      after_left va (replied (byte ∷ rest) answer) = delivered_left va (byte ∷ rest) answer
      after_left va _ = record {}

      -- ---- read and write

      terminal_left : (va wanted : ℕ) (input : List ℕ) → Ends (read_terminal a n b regs s va wanted input)
      terminal_left va wanted [] = put _ (none _)
      terminal_left va wanted (byte ∷ rest) = search (if_left, put, none)

      read_object_left : (va wanted : ℕ) (name : Option ℕ) (object : Object) →
          LeftIf (read_object a n b regs s va wanted name object)
      read_object_left va wanted name (file f) = search ask_left
      read_object_left va wanted name terminal = terminal_left va wanted a.input
      read_object_left va wanted name (read_end pipe) = from_left va pipe wanted [] (a.pipes pipe)
      read_object_left va wanted name (write_end pipe) = record {}

      read_begun_left : (fd va len : ℕ) (o : Option Object) → LeftIf (read_begun a n b regs s fd va len o)
      read_begun_left fd va len None = put _ (none _)
      read_begun_left fd va len (Some object) = search (if_some, put, none, read_object_left)

      read_moving_left : (va len : ℕ) (taken : List ℕ) (o : Option Object) →
          LeftIf (read_moving a n b regs s va len taken o)
      read_moving_left va len taken (Some (read_end pipe)) = from_left va pipe _ taken (a.pipes pipe)
      read_moving_left va len taken _ = record {}

      read_left : (fd va len : ℕ) (stage : Stage) → LeftIf (read_step a n b regs s fd va len stage)
      read_left fd va len entered = read_begun_left fd va len (object_of a b fd)
      read_left fd va len (moving taken count) = read_moving_left va len taken _
      read_left fd va len stage = after_left va stage

      write_object_left : (bytes : List ℕ) (name : Option ℕ) (object : Object) →
          LeftIf (write_object a n b regs s bytes name object)
      write_object_left bytes name (file f) = search ask_left
      write_object_left bytes name terminal = put _ (none _)
      write_object_left bytes name (read_end pipe) = record {}
      write_object_left bytes name (write_end pipe) = write_pipe_left pipe bytes 0

      write_with_left : (fd va wanted : ℕ) (bytes : List ℕ) (object : Object) →
          LeftIf (write_with a n b regs s fd va wanted bytes object)
      write_with_left fd va wanted bytes object = search (if_some, gathered_left, write_object_left)

      write_begun_left : (fd va len : ℕ) (o : Option Object) → LeftIf (write_begun a n b regs s fd va len o)
      write_begun_left fd va len None = put _ (none _)
      write_begun_left fd va len (Some object) = search (if_some, put, none, write_with_left)

      write_gathering_left : (fd va len : ℕ) (bytes : List ℕ) (o : Option Object) →
          LeftIf (write_gathering a n b regs s fd va len bytes o)
      write_gathering_left fd va len bytes None = record {}
      write_gathering_left fd va len bytes (Some object) = write_with_left fd va _ bytes object

      write_moving_left : (rest : List ℕ) (count : ℕ) (o : Option Object) →
          LeftIf (write_moving a n b regs s rest count o)
      write_moving_left rest count (Some (write_end pipe)) = write_pipe_left pipe rest count
      write_moving_left rest count _ = record {}

      write_left : (fd va len : ℕ) (stage : Stage) → LeftIf (write_step a n b regs s fd va len stage)
      write_left fd va len entered = write_begun_left fd va len (object_of a b fd)
      write_left fd va len (gathering taken) = write_gathering_left fd va len taken _
      write_left fd va len (moving rest count) = write_moving_left rest count _
      write_left fd va len stage = after_left va stage

      -- ---- seek, set_size and stat

      named_left : (name : Option ℕ) (request_of : ℕ → Request) → LeftIf (named_request a n b s name request_of)
      named_left None request_of = record {}
      named_left (Some name) request_of = ask_left _

      seek_begun_left : (fd offset : ℕ) (o : Option Object) → LeftIf (seek_begun a n b regs s fd offset o)
      seek_begun_left fd offset None = put _ (none _)
      seek_begun_left fd offset (Some (file f)) = search (if_some, put, none, named_left)
      seek_begun_left fd offset (Some _) = put _ (none _)

      seek_left : (fd offset : ℕ) (stage : Stage) → LeftIf (seek_step a n b regs s fd offset stage)
      seek_left fd offset entered = seek_begun_left fd offset _
      seek_left fd offset stage = after_left 0 stage

      set_size_begun_left : (size : ℕ) (o : Option Object) → LeftIf (set_size_begun a n b regs s size o)
      set_size_begun_left size None = put _ (none _)
      set_size_begun_left size (Some (file f)) = search (if_some, put, none, ask_left)
      set_size_begun_left size (Some _) = put _ (none _)

      set_size_left : (fd size : ℕ) (stage : Stage) → LeftIf (set_size_step a n b regs s fd size stage)
      set_size_left fd size entered = set_size_begun_left size (object_of a b fd)
      set_size_left fd size stage = after_left 0 stage

      stat_object_left : (va : ℕ) (object : Object) → LeftIf (stat_object a n b regs s va object)
      stat_object_left va (file f) = search ask_left
      stat_object_left va terminal = handed_left a va (stat_bytes (codes "<cons>") 0 FTYPE_REG) 0 same_left
      stat_object_left va (read_end pipe) = handed_left a va (stat_bytes (codes "<pipe>") (length (a.pipes pipe)) FTYPE_REG) 0 same_left
      stat_object_left va (write_end pipe) = handed_left a va (stat_bytes (codes "<pipe>") (length (a.pipes pipe)) FTYPE_REG) 0 same_left

      stat_begun_left : (va : ℕ) (o : Option Object) → LeftIf (stat_begun a n b regs s va o)
      stat_begun_left va None = put _ (none _)
      stat_begun_left va (Some object) = search (if_some, put, none, stat_object_left)

      stat_left : (fd va : ℕ) (stage : Stage) → LeftIf (stat_step a n b regs s fd va stage)
      stat_left fd va entered = stat_begun_left va _
      stat_left fd va stage = after_left va stage

      -- ---- paths

      path_left : (path : ℕ) (taken : List ℕ) (next : List ℕ → Option AbstractState) →
          ((found : List ℕ) → LeftIf (next found)) → LeftIf (path_step a n b regs s path taken next)
      path_left path taken next on_next = along_path s asks_it calm path taken next on_next

      open_asked_left : (mode : ℕ) (path : List ℕ) → LeftIf (open_asked a n b regs s mode path)
      open_asked_left mode path = search (if_some, put, none, ask_left)

      open_left : (path mode : ℕ) (stage : Stage) → LeftIf (open_step a n b regs s path mode stage)
      open_left path mode entered =
          let next = open_asked a n b regs s mode in
          let h : LeftIf (path_step a n b regs s path [] next) = path_left path [] next (open_asked_left mode) in
          search (if_some, put, none, h)
      open_left path mode (gathering taken) = path_left path taken _ (open_asked_left mode)
      open_left path mode stage = after_left 0 stage

      remove_left : (path : ℕ) (stage : Stage) → LeftIf (remove_step a n b regs s path stage)
      remove_left path entered = path_left path [] _ (λ found. ask_left (act (remove_path found) None))
      remove_left path (gathering taken) = path_left path taken _ (λ found. ask_left (act (remove_path found) None))
      remove_left path stage = after_left 0 stage

      sync_left : (stage : Stage) → LeftIf (sync_step a n b regs s stage)
      sync_left entered = search ask_left
      sync_left stage = after_left 0 stage

    -- ---- messages and children

    sent_left : (target value va : ℕ) (o : Born) (w : Receiver) → born_in (a.slots target) ≡ Some o → waiting_in o.phase ≡ Some w →
        Ends (sent a n b regs target value va o w)
    sent_left target value va o w is waits = put_in (with_born a target receiver) _ reached (none _)
      where
        receiver : Born
        receiver = woken o w b.id value (with_sent o w va b.id (page_at b va))

        born_there : (slot : AbstractSlot) → born_in slot ≡ Some o → kind slot ≡ kind_in o.phase o.spawning
        born_there (free id) e = absurd (cc)
        born_there (unborn id parent) e = absurd (cc)
        born_there (serving id) e = absurd (cc)
        born_there (born c) e = ap (λ (x : Born). kind_in x.phase x.spawning) (same_Some c o e)

        was : kind (a.slots target) ≡ kind_in at_guest None
        was = born_there (a.slots target) is ∙ waiting_kind o.phase o.spawning w waits

        reached : Left (with_born a target receiver)
        reached = record {
          others = upd-all (λ (m : ℕ) (slot : AbstractSlot). m ≢ n → SeenAs slot (a.slots m)) a.slots target (born receiver)
              (λ ne. record {
                alike = sym was;
                holds = (λ i name. some_below DESCRIPTORS (λ fd. is_name (sent_holds o w va b.id (page_at b va) i fd) name)) ∙ ap holds_in (sym is);
                asker = λ asked_one. let contradiction : false ≡ true = sym (ap (λ (k : Kind). k.asks) was) ∙ asked_one in cc;
              }) (λ m other ne. same_seen (a.slots m));
          itself = upd-all (λ (m : ℕ) (slot : AbstractSlot). m ≡ n → Own (kind slot)) a.slots target (born receiver)
              (λ same. none _) (λ m other same. as_before (ap (λ (k : ℕ). kind (a.slots k)) same)) n refl;
          free_are = refl;
          server_is = refl;
        }

    waiting_left : (target value va : ℕ) (o : Born) (w : Option Receiver) → born_in (a.slots target) ≡ Some o → waiting_in o.phase ≡ w →
        LeftIf (sent_to_waiting a n b regs target value va o w)
    waiting_left target value va o None is waits = record {}
    waiting_left target value va o (Some w) is waits = if_some (takes w b.id) _ _ (sent_left target value va o w is waits) (record {})

    sent_to_left : (target value va : ℕ) (o : Option Born) → born_in (a.slots target) ≡ o → LeftIf (sent_to a n b regs target value va o)
    sent_to_left target value va None is = record {}
    sent_to_left target value va (Some o) is = waiting_left target value va o (waiting_in o.phase) is refl

    send_left : (id value va : ℕ) → LeftIf (send a n b regs id value va)
    send_left id value va =
        let target_left = sent_to_left (id % NENV) value va (born_in (a.slots (id % NENV))) refl in
        search (if_some, put, none, target_left)

    begun_left : (slots : List ℕ) → a.free_slots ≡ slots → Ends (begun_in a n b regs slots)
    begun_left [] are = put _ (none _)
    begun_left (child ∷ rest) are = begins child (next_id (slot_id (a.slots child)) child) b.id _ are refl refl refl

    fork_left : (stage : Stage) → b.phase ≡ in_service service.Fork stage → LeftIf (fork_step a n b regs stage)
    fork_left entered is = begun_left a.free_slots refl
    fork_left (bearing child) is =
        bears child (child_of b regs (slot_id (a.slots child))) _
        (ap (λ (slot : AbstractSlot). borne_by slot) at ∙ ap (λ (phase : Phase). bears_in phase b.spawning) is) refl refl refl refl refl
    fork_left _ is = record {}

    -- ---- spawn

    module _ (path argv : ℕ) (stage : Stage) (is : b.phase ≡ in_service (service.Spawn path argv) stage) where
      abbrev it : Service
      it = service.Spawn path argv

      -- whom it bears
      bore : (found : Option Spawning) → b.spawning ≡ found → loads_for found ≡ borne_by (a.slots n)
      bore found has =
          ap (λ (o : Option Spawning). loads_for o) (sym has) ∙ ap (λ (phase : Phase). bears_in phase b.spawning) (sym is)
          ∙ ap (λ (slot : AbstractSlot). borne_by slot) (sym at)

      -- a request by one of whom no other is borne than before
      asks_on : (c : Born) (request : Request) → Own (kind_in (in_service it asked) c.spawning) → (server : Server) →
          LeftIf (request_taken a n c it request server)
      asks_on c request stays idle =
          let waiter : Born = record c { phase = in_service it asked } in
          asks (set_own a waiter same_left stays) request
          (ap (λ (slot : AbstractSlot). is_asking slot) (upd-at a.slots n (born waiter))) refl
      asks_on c request stays _ = record {}

      ask_on : (c : Born) (request : Request) → Own (kind_in (in_service it asked) c.spawning) → LeftIf (ask a n c it request)
      ask_on c request stays = asks_on c request stays a.server

      -- ---- what it is given

      given_left : (name : List ℕ) (words : List (List ℕ)) → LeftIf (words_given a n b regs it name words)
      given_left name words = if_some (not (fits_stack words)) _ _ (put _ (none _)) (ask_on (with_spawning b (opening words)) (act (open_path name 0) None) (none _))

      more_left : (found : Spawning) (va wanted : ℕ) (taken : List ℕ) → loads_for (Some found) ≡ None →
          LeftIf (more_gathered a n b regs it found va wanted taken)
      more_left found va wanted taken nobody =
          if_some (not (in_fence va 1)) _ _ (put _ (none _))
          (if_left (page_allows (page_at b va) Read) _ _ (put _ (bears_none nobody refl refl)) (freed _))

      string_left : (found : Spawning) (address : ℕ) (taken : List ℕ) → loads_for (Some found) ≡ None →
          LeftIf (string_gathered a n b regs it found address taken)
      string_left found address taken nobody =
          if_some (nat_le PGSIZE (length taken)) _ _ (put _ (none _)) (more_left found _ _ taken nobody)

      next_left : (name left : List ℕ) (words : List (List ℕ)) → LeftIf (next_string a n b regs it name left words)
      next_left name [] words = given_left name words
      next_left name (address ∷ left) words = string_left (quoting name (address ∷ left) words) address [] refl

      quoting_left : (name left : List ℕ) (words : List (List ℕ)) (taken : List ℕ) → LeftIf (quoting_step a n b regs it name left words taken)
      quoting_left name [] words taken = record {}
      quoting_left name (address ∷ left) words taken =
          if_some (has_nul taken) _ _ (next_left name left _) (string_left (quoting name (address ∷ left) words) address taken refl)

      address_left : (name addresses taken : List ℕ) → LeftIf (address_gathered a n b regs it argv name addresses taken)
      address_left name addresses taken = more_left (listing name addresses) _ _ taken refl

      taken_left : (name addresses : List ℕ) (address : ℕ) → LeftIf (address_taken a n b regs it argv name addresses address)
      taken_left name addresses address =
          if_some (address == 0) _ _ (next_left name addresses [])
          (if_some (nat_le ARGS_MAX (length addresses)) _ _ (put _ (none _)) (address_left name _ []))

      listing_left : (name addresses taken : List ℕ) → LeftIf (listing_step a n b regs it argv name addresses taken)
      listing_left name addresses taken =
          if_some (nat_lt (length taken) 4) _ _ (address_left name addresses taken) (taken_left name addresses _)

      -- ---- the file

      dropped_left : (fd answer : ℕ) → Ends (file_dropped a n b it fd answer)
      dropped_left fd answer = put _ (none _)

      opened_left : (fd : ℕ) (words : List (List ℕ)) (f : OpenFile) → LeftIf (file_opened a n b it fd words f)
      opened_left fd words f = if_some (nat_lt f.size EHDR_LEN) _ _ (dropped_left fd (negated E_NOT_EXEC))
          (ask_on (with_spawning b (heading fd words)) (act (read_file f.way 0 EHDR_LEN) None) (none _))

      header_left : (fd : ℕ) (words : List (List ℕ)) (header : List ℕ) (f : OpenFile) → LeftIf (header_read a n b it fd words header f)
      header_left fd words header f =
          if_some (is_header f header) _ _
          (ask_on (with_spawning b (tabling fd words header))
          (act (read_file f.way (table_of (slice_index header)) (table_size header)) None) (none _)) (dropped_left fd (negated E_NOT_EXEC))

      child_left : (fd : ℕ) (image : ImageRead) (slots : List ℕ) → a.free_slots ≡ slots → Ends (child_begun a n b it fd image slots)
      child_left fd image [] are = put _ (none _)
      child_left fd image (child ∷ rest) are = begins child (next_id (slot_id (a.slots child)) child) b.id _ are refl refl refl

      table_left : (fd : ℕ) (image : ImageRead) (f : OpenFile) → Ends (table_read a n b it fd image f)
      table_left fd image f = if_left (is_table f image) _ _ (child_left fd image a.free_slots refl) (dropped_left fd (negated E_NOT_EXEC))

      module _ (fd : ℕ) (image : ImageRead) (child : ℕ) (pieces : List (List ℕ)) (has : b.spawning ≡ Some (loading fd image child pieces)) where
        asked_left : (now : List (List ℕ)) (f : OpenFile) (list : List Piece) → LeftIf (piece_asked a n b it fd image child now f list)
        asked_left now f [] = put _ (bears_still (bore _ has) refl refl)
        asked_left now f (piece ∷ rest) =
            ask_on (with_spawning b (loading fd image child now)) (act (read_file f.way piece.at piece.len) None) (bears_still (bore _ has) refl refl)

        read_on : (f : OpenFile) (list : List Piece) (bytes : List ℕ) → LeftIf (piece_read a n b it fd image child pieces f list bytes)
        read_on f [] bytes = record {}
        read_on f (piece ∷ rest) bytes =
            if_some (length bytes == piece.len) _ _ (asked_left _ f rest)
            (drops child (slot_id (a.slots child)) _ (sym (bore _ has)) refl refl refl refl)

      file_left : (at_stage : Stage) (found : Spawning) → b.spawning ≡ Some found → (o : Option OpenFile) →
          LeftIf (file_step a n b regs it at_stage found o)
      file_left (replied bytes answer) (opening words) has (Some f) = opened_left answer words f
      file_left (replied bytes answer) (heading fd words) has (Some f) = header_left fd words bytes f
      file_left (replied bytes answer) (tabling fd words header) has (Some f) = table_left fd (record { words = words; header = header; table = bytes }) f
      file_left (taking taken) (loading fd image child pieces) has (Some f) =
          asked_left fd image child pieces has pieces f (pieces_left image pieces)
      file_left (replied bytes answer) (loading fd image child pieces) has (Some f) =
          read_on fd image child pieces has f (pieces_left image pieces) bytes
      file_left _ _ has _ = record {}

      reading_left : (at_stage : Stage) (found : Spawning) → b.spawning ≡ Some found → LeftIf (reading_step a n b regs it at_stage found)
      reading_left at_stage found has = file_left at_stage found has (file_in (object_of a b (descriptor_of found (answer_in at_stage))))

      -- an error that has come
      unread_left : (found : Spawning) (answer : ℕ) → b.spawning ≡ Some found → LeftIf (unread_step a n b regs it found answer)
      unread_left (opening words) answer has = put _ (none _)
      unread_left (heading fd words) answer has = dropped_left fd answer
      unread_left (tabling fd words header) answer has = dropped_left fd answer
      unread_left (loading fd image child pieces) answer has =
          drops child (slot_id (a.slots child)) _ (sym (bore _ has)) refl refl refl refl
      unread_left _ answer has = record {}

      -- ---- its steps

      going_left : (at_stage : Stage) (found : Spawning) → b.spawning ≡ Some found → LeftIf (spawning_step a n b regs it argv at_stage found)
      going_left asked found has = put _ (bears_still (bore b.spawning refl) refl refl)
      going_left (taking taken) (listing name addresses) has = listing_left name addresses taken
      going_left (taking taken) (quoting name left words) has = quoting_left name left words taken
      going_left (replied bytes answer) found has =
          if_some (is_count answer) _ _ (reading_left (replied bytes answer) found has) (unread_left found answer has)
      going_left (taking taken) (closed image child pieces) has =
          bears child (spawned b image pieces (slot_id (a.slots child))) _ (sym (bore _ has)) refl refl refl refl refl
      going_left (taking taken) (dropping fd answer) has = dropped_left fd answer
      going_left (taking taken) (refusing answer) has = put _ (none _)
      going_left at_stage found has = reading_left at_stage found has

      begun_path : (taken : List ℕ) → LeftIf (spawn_begun a n b regs it path argv taken)
      begun_path taken =
          along_path it refl (λ at_stage. bears_still (bore b.spawning refl) refl refl) path taken _ (λ name. address_left name [] [])

      spawn_left : (found : Option Spawning) → b.spawning ≡ found → LeftIf (spawn_step a n b regs path argv stage found)
      unfolding spawn_step
      spawn_left found has = by stage found has
        where
          by : (at_stage : Stage) (found : Option Spawning) → b.spawning ≡ found → LeftIf (spawn_at a n b regs path argv at_stage found)
          by entered found has = begun_path []
          by (gathering taken) found has = begun_path taken
          by _ None has = record {}
          by at_stage (Some found) has = going_left at_stage found has

    -- ---- any service

    call_left : (call : Service) (stage : Stage) → b.phase ≡ in_service call stage → LeftIf (library_step a n b regs call stage)
    unfolding library_step
    call_left service.Exit stage is = exit_left (lowest_open b)
    call_left (service.Cputs va len) stage is = once_left stage _ (cputs_left va len)
    call_left service.GetId stage is = once_left stage _ (put _ (none _))
    call_left service.Yield stage is = once_left stage _ (put _ (none _))
    call_left service.Fork stage is = fork_left stage is
    call_left (service.Wait id) stage is = only_left stage _ (wait_left id)
    call_left (service.PageNew va flags) stage is = once_left stage _ (page_new_left va flags)
    call_left (service.PageDrop va) stage is = once_left stage _ (page_drop_left va)
    call_left (service.Send id value va) stage is = only_left stage _ (send_left id value va)
    call_left (service.Receive va from) stage is = receive_step_left va from stage
    call_left (service.OpenFile path mode) stage is = open_left (service.OpenFile path mode) refl (λ stage found. bears_none refl refl refl) path mode stage
    call_left (service.Close fd) stage is = once_left stage _ (close_left fd)
    call_left (service.Read fd va len) stage is = read_left (service.Read fd va len) refl (λ stage found. bears_none refl refl refl) fd va len stage
    call_left (service.Write fd va len) stage is = write_left (service.Write fd va len) refl (λ stage found. bears_none refl refl refl) fd va len stage
    call_left (service.Seek fd offset) stage is = seek_left (service.Seek fd offset) refl (λ stage found. bears_none refl refl refl) fd offset stage
    call_left (service.Stat fd va) stage is = stat_left (service.Stat fd va) refl (λ stage found. bears_none refl refl refl) fd va stage
    call_left (service.SetSize fd size) stage is = set_size_left (service.SetSize fd size) refl (λ stage found. bears_none refl refl refl) fd size stage
    call_left (service.Remove path) stage is = remove_left (service.Remove path) refl (λ stage found. bears_none refl refl refl) path stage
    call_left service.Sync stage is = sync_left service.Sync refl (λ stage found. bears_none refl refl refl) stage
    call_left (service.Dup old new) stage is = once_left stage _ (dup_left old new)
    call_left service.Pipe stage is = once_left stage _ (pipe_left (lowest_free b) (next_free b (lowest_free b)))
    call_left (service.Spawn path argv) stage is = spawn_left path argv stage is b.spawning refl
    call_left service.Unknown stage is = once_left stage _ (put _ (none _))

  -- ---- an instruction

  -- what comes of an instruction, after its writes
  event_left : (x : AbstractState) (b : Born) (ip : ℕ) (regs : Regs) (event : Event) → Left x → Own (kind_in b.phase b.spawning) →
      Ends (after_event x n b ip regs event)
  event_left x b ip regs event h itself = by event
    where
      in_it : (c : Born) → Own (kind_in c.phase c.spawning) → Ends (with_born x n c)
      in_it c kept = put_in x c h kept

      out : (id : ℕ) → Done (upd x.slots n (free id)) (n ∷ x.free_slots) x.server
      out id = freed_in x id h

      -- who enters a service bears nobody
      entering : (call : Service) → Own (kind_in (in_service call entered) None)
      entering service.Fork = none false
      entering (service.Spawn path argv) = none false
      entering _ = none false

      by : (e : Event) → Ends (after_event x n b ip regs e)
      by Next = search (if_left, in_it, itself, out)
      by (Soft vector) = if_left (vector == T_SERVICE) _ _ (in_it _ (entering (service_of regs))) (out _)
      by (Raised trap error va) = search (if_left, in_it, none, out)

  writes_left : (x : AbstractState) (ip : ℕ) (regs : Regs) (event : Event) (o : Option Born) → Left x → OwnIn o →
      Ends (after_writes x n ip regs event o)
  writes_left x ip regs event None h itself = still h
  writes_left x ip regs event (Some b) h itself = event_left x b ip regs event h itself

  -- The memory of a guest in slot n, in a state that leaves the rest.
  record Spares (g : GuestMemory) : Type 0 where
    here : g.slot ≡ n
    kept : Left g.state

  byte_spares : (g : GuestMemory) (va byte : ℕ) → Spares g →
      Spares (record g { state = guest_stored g.state g.slot (born_in (g.state.slots g.slot)) va byte })
  byte_spares g va byte h = record {
    here = h.here;
    kept = subst (λ (m : ℕ). Left (guest_stored g.state m (born_in (g.state.slots m)) va byte)) (sym h.here)
        (by (born_in (g.state.slots n)) (there g.state h.kept));
  }
    where
      by : (o : Option Born) → OwnIn o → Left (guest_stored g.state n o va byte)
      by None itself = h.kept
      by (Some b) itself = page_left g.state b va byte (page_at b va) h.kept itself

  spared : Agrees guest_memory guest_memory (λ g. g) Spares
  unfolding guest_memory
  spared = record {
    byte = λ g h va. refl;
    allowed = λ g h va access. refl;
    fault = λ g h va access off. refl;
    reached = λ g h va access on. (h, refl);
    stored = λ g h va byte below. (byte_spares g va byte h, refl);
  }

  -- ---- any step

  guest_left : (regs : Regs) → Ends (guest_step a n regs)
  unfolding guest_step
  guest_left regs =
      let start : GuestMemory = record { state = a; slot = n } in
      let s = step_of guest_memory regs start Run in
      let h : Spares s.memory = (step_through spared regs start Run (record { here = refl; kept = same_left })).0 in
      writes_left s.memory.state regs.eip s.regs s.event (born_in (s.memory.state.slots n)) h.kept (there s.memory.state h.kept)

  module _ (b : Born) (at : a.slots n ≡ born b) where
    program_left : (program : ProgramState) (phase : Phase) → b.phase ≡ phase → LeftIf (program_step a n b program phase)
    program_left (guest regs) at_guest is = guest_left regs
    program_left (guest regs) (faulted va ip) is = freed _
    program_left (guest regs) (in_service call stage) is = call_left b at regs call stage is
    program_left (shell place) phase is = record {}

    pub step_ends : LeftIf (abs_step a n)
    unfolding abs_step
    step_ends =
        subst (λ (slot : AbstractSlot). LeftIf (slot_step a n slot)) (sym at)
        (if_some b.blocked None _ (record {}) (program_left b.program b.phase refl))
