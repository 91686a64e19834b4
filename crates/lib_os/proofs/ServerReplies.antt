-- The steps of the file server that are seen: it waits for the next request, it has done what a sync asks for, and its reply comes to the client
-- that waits for it. Behind each of them the kernel's state stands for the abstract one behind the server's step.
use Rattle.std.proofs.Common.{◌≡◌, ◌≢◌, ◌∙◌, ◌⊎◌, inl, inr, ◌<◌, ◌%◌, ◌^◌, ◌==◌, ◌&&◌, ◌||◌, ℕ, Bool, true, false, List, [], ◌∷◌, Option, Some, None}
use Rattle.std.proofs.Common.{Ok, refl, sym, ap, subst, arith, length, if◌then◌else◌}
use Rattle.std.proofs.lemmas.Bool.Decides.{nat_tests}
use Rattle.jos_base.specs.declared.called.Called.{Called}
use Rattle.jos_base.specs.declared.called.Called.TheVariants.{Answered, Blocked}
use Rattle.jos_base.specs.declared.environment.Status.TheVariants.{NotRunnable}
use Rattle.jos_base.specs.declared.numbers.TheConstants.{E_IPC_NOT_RECV, FIRST_ENV_ID, NENV, SYS_IPC_RECV, SYS_IPC_TRY_SEND, UTEMP, UTOP}
use Rattle.jos_base.specs.Environments.{Slot, found, is_live as is_live_slot}
use Rattle.jos_base.specs.KernelState.{KernelState, slot_at, with_slot_at}
use Rattle.jos_base.specs.Messages.{Rendezvous, accepts, wanting}
use Rattle.jos_base.specs.SpacesState.{SpacesState}
use Rattle.std.specs.Prelude.{slice_index}
use Rattle.jos_base.specs.Reach.{Entry}
use Rattle.jos_base.specs.Words.{negated, page_number, upd}
use Rattle.fs_layout.specs.FileActs.{file_act}
use Rattle.fs_layout.specs.FileTree.{sync_files}
use Rattle.lib_os.specs.declared.numbers.TheConstants.{REQUEST, SHORT_QUANTUM}
use Rattle.lib_os.specs.declared.place.Place.{Place}
use Rattle.lib_os.specs.declared.place.Place.TheVariants as place
use Rattle.lib_os.specs.declared.place.Step.TheVariants as step
use Rattle.lib_os.specs.declared.service.Service.{Service}
use Rattle.lib_os.specs.declared.service.Service.TheVariants as service
use Rattle.lib_os.specs.AbstractRun.{abs_step, may_wait, reply_may_wait, slot_may_wait, slot_step}
use Rattle.lib_os.specs.AskedFor.{IsThere, OpensBy, handed_in, is_opening}
use Rattle.lib_os.specs.AbstractState.{AbstractSlot, AbstractState, Born, Phase, Server, act, acted, asked, awaiting, born, busy, idle, in_service}
use Rattle.lib_os.specs.AbstractState.{Spawning, guest, leaving, replied, with_born}
use Rattle.lib_os.specs.FileServer.{act_done, is_count, reply, reply_at, reply_to, served, server_step}
use Rattle.lib_os.specs.GuestStep.{born_in}
use Rattle.lib_os.specs.LibraryPages.{IsOwnWritable, View, has_copy, has_working}
use Rattle.lib_os.specs.MadeCalls.{SetsWords}
use Rattle.lib_os.specs.Places.{handler_step_in, place_in_words, place_of}
use Rattle.lib_os.specs.Rows.{AreBytes, Names, rows_of}
use Rattle.lib_os.specs.StandsFor.{HasBytesReply, HasReply, has_bytes, IsServerStatus, StandsAt, StandsFor, StandsForBorn, descriptor_seen_at}
use Rattle.lib_os.specs.StandsFor.{HasChildren, StandsForServer, has_reply, upcall_at, view_of, has_opened, opened_answer}
use Rattle.lib_os.specs.StandsInHandler.{handed_with, hands_back}
use Rattle.lib_os.specs.UserCalls.{CallStep, IsCallStep, Output, Prints, got, giving, system}
use Rattle.lib_os.specs.PipeEnds.{is_dropped}
use Rattle.lib_os.proofs.PipesStand.{same_places}
use Rattle.lib_os.proofs.AskedPlaces.{AskedPlace, AwaitingPlace, ExpectsSo, SpawnPlace, asked_place, awaiting_place, awaiting_step, is_requests}
use Rattle.lib_os.proofs.Calls.{comes_to, ipc_recv_is, receives_at, waits_is}
use Rattle.lib_os.proofs.Logical.{is_plain}
use Rattle.lib_os.proofs.Sends.{found_where, not_waited_for, received_in, with_message, word_comes}
use Rattle.lib_os.proofs.ServersCalls.{CallLeaves}
use Rattle.lib_os.proofs.ServerStands.{first_slot, words_stand}
use Rattle.lib_os.proofs.Serving.{library_moved, pages_kept}
use Rattle.lib_os.proofs.Slots.{slot_kept}
use Rattle.lib_os.proofs.SlotsSet.{both_set}
use Rattle.lib_os.proofs.SlotsStand.{born_at, born_live}
use Rattle.lib_os.proofs.SpawnReplies.{spawn_replied}
use Rattle.lib_os.proofs.SpawnedReplied.{children_replied}
use Rattle.lib_os.proofs.SpawnWaits.{SpawnAwaits, SpawnHasAsked, asked_so, awaits_page, expected_so}
use Rattle.lib_os.proofs.StatesStand.{born_not_first, same_place, server_set, slot_becomes, slot_changed, stopped_settles}
use Rattle.jos_base.proofs.Maps.{upd-at}

-- ---- the server's step

-- the step of slot 0
pub served_is : {names : Names} {s : KernelState} {a : AbstractState} → StandsFor names s a → (server : Server) → a.server ≡ server →
    abs_step a 0 ≡ served a server
unfolding abs_step server_step
served_is {a = a} h server is = ap (λ (slot : AbstractSlot). slot_step a 0 slot) h.first ∙ ap (λ (x : Server). served a x) is

-- It does something else, and the kernel's state is the same.
pub server_goes_on : {names : Names} {s : KernelState} {a : AbstractState} → StandsFor names s a → (server : Server) →
    IsServerStatus server (slot_at s 0) → StandsFor names s (record a { server = server })
server_goes_on h server status = record {
  slots = h.slots;
  children = h.children;
  apart = h.apart;
  named = h.named;
  users = h.users;
  whole = h.whole;
  beside = h.beside;
  ends = h.ends;
  locks = h.locks;
  runs = h.runs;
  old = h.old;
  free_slots = h.free_slots;
  first = h.first;
  server = record { status = status; pages = h.server.pages; tables = h.server.tables; alone = h.server.alone };
  input = h.input;
  last = h.last;
  turns = h.turns;
  tabled = h.tabled;
  in_order = h.in_order;
}

-- its status, where it is known what it does
pub status_at : {names : Names} {s : KernelState} {a : AbstractState} → StandsFor names s a → (server : Server) → a.server ≡ server →
    IsServerStatus server (slot_at s 0)
status_at {s = s} h server is = subst (λ (x : Server). IsServerStatus x (slot_at s 0)) is h.server.status

-- ---- it waits for a request

-- its slot, and the state, where it waits for anybody's
abbrev pub ready_slot : Slot → Slot
ready_slot k = record k { rendezvous = wanting k.rendezvous REQUEST 0; status = NotRunnable }

abbrev pub ready_state : KernelState → KernelState
ready_state s = with_slot_at s 0 (ready_slot (slot_at s 0))

-- the call
pub receive_is : (s : KernelState) (rest : List ℕ) → is_live_slot (slot_at s 0) ≡ true →
    system s 0 SYS_IPC_RECV (REQUEST ∷ 0 ∷ rest) ≡ record { state = ready_state s; gives = got Blocked; written = [] }
receive_is s rest live =
    ipc_recv_is s 0 live REQUEST 0 rest (receives_at REQUEST refl)
    ∙ (λ i. record { state = waits_is s 0 (wanting (slot_at s 0).rendezvous REQUEST 0) NotRunnable i; gives = got Blocked; written = [] })

module _ {names : Names} {s : KernelState} {a : AbstractState} (h : StandsFor names s a) where
  pub receives_stand : StandsFor names (ready_state s) (record a { server = idle })
  receives_stand =
      server_set h (ready_slot (slot_at s 0)) idle refl (stopped_settles (slot_at s 0) (ready_slot (slot_at s 0)) refl refl refl refl) so (record {
        status = record { status = refl; receiving = refl; anybody = refl; destination = refl };
        pages = h.server.pages;
        tables = h.server.tables;
        alone = h.server.alone;
      })
    where
      so : StandsForServer (ready_slot (slot_at s 0)) FIRST_ENV_ID
      so = let was = first_slot h in record {
        first = was.first;
        id_is = was.id_is;
        lives = refl;
        parent = was.parent;
        env_type = was.env_type;
        words = was.words;
        stack = was.stack;
      }

  pub receives_step : a.server ≡ leaving → abs_step a 0 ≡ Some (record a { server = idle })
  receives_step is = served_is h leaving is

  -- ---- it has done what is asked

  -- what a sync does to the files can't be seen
  pub sync_done : (client : ℕ) → act_done a client (act sync_files None) None ≡ record a { server = acted client 0 [] None }
  unfolding file_act
  sync_done client = refl

  pub acts_stand : (client : ℕ) → a.server ≡ busy client (act sync_files None) None →
      StandsFor names s (act_done a client (act sync_files None) None)
  acts_stand client is =
      subst (λ (z : AbstractState). StandsFor names s z) (sym (sync_done client))
      (server_goes_on h (acted client 0 [] None) (status_at h (busy client (act sync_files None) None) is))

  -- nothing is printed
  pub acts_console : (client : ℕ) → (act_done a client (act sync_files None) None).console ≡ a.console
  acts_console client = ap (λ (z : AbstractState). z.console) (sync_done client)

  pub acts_step : (client : ℕ) → a.server ≡ busy client (act sync_files None) None →
      abs_step a 0 ≡ Some (act_done a client (act sync_files None) None)
  acts_step client is = served_is h (busy client (act sync_files None) None) is

-- ---- it replies

-- where the client's slot stands behind the reply
pub told_at : (k : Slot) (sender value perm : ℕ) → place_of (received_in k sender value perm) ≡ place_of k
unfolding place_in_words handler_step_in
told_at k sender value perm = refl

-- The bytes of a reply go with its word, and the page at UTEMP of the client has them.
pub record HandsOver (v : View) (call : Service) (found : Option Spawning) (bytes : List ℕ) (answer : ℕ) : Type 0 where
  pub many : length bytes ≡ handed_in call found answer
  pub small : AreBytes bytes
  pub same : (entry : Entry) → v.row (page_number UTEMP) ≡ Some entry → (i : ℕ) → i < length bytes →
      slice_index (v.bytes entry.frame) i ≡ slice_index bytes i

-- A word alone, to one to which no bytes are handed back, or with an error's number.
pub hands_none : (v : View) (call : Service) (found : Option Spawning) (answer : ℕ) → handed_in call found answer ≡ 0 → HandsOver v call found [] answer
hands_none v call found answer none = record { many = sym none; small = no_bytes; same = λ entry is i lt. absurd (omega (arith, lt)) }
  where
    no_bytes : AreBytes []
    no_bytes i = omega arith

none_long : (bytes : List ℕ) → length bytes ≡ 0 → bytes ≡ []
none_long [] none = refl
none_long (byte ∷ rest) none = absurd (omega (arith, none))

-- With no page no file was opened: one that wants that is told an error's number.
abbrev pub TellsNoFile : Service → Option Spawning → ℕ → Type 0
TellsNoFile call found answer = OpensBy (is_opening call found) answer None

untold : (value fd : ℕ) → is_count value ≡ false → opened_answer value fd ≡ value
untold value fd error =
    let test : (value == 0) ≡ false = grind (arith, nat_tests, error) in ap (λ (t : Bool). if t then fd else value) test

-- the client to which the reply has come
abbrev pub replied_born : Service → Born → List ℕ → ℕ → Born
replied_born call b bytes answer = record b { phase = in_service call (replied bytes answer); blocked = false }

-- it stands where it will read the reply, or give its page back, or count the bytes, when that has come
reply_there : (call : Service) → is_requests call ≡ true → (v : View) (k : Slot) (b : Born) (sender answer : ℕ) (bytes : List ℕ) (id fd : ℕ) →
    id ≡ k.id → ExpectsSo k b call → (hands_back call ≡ true → IsOwnWritable v.row (page_number UTEMP)) →
    StandsAt (place.InService call (awaiting_step call id fd)) v k b → answer < 2 ^ 32 → HandsOver v call b.spawning bytes answer → TellsNoFile call b.spawning answer →
    StandsAt (place.InService call (awaiting_step call id fd)) v (received_in k sender answer 0) (replied_born call b bytes answer)
reply_there call is v k b sender answer bytes id fd self waits page was small hands told = by_service call is page was waits hands told
  where
    word_came : (call : Service) → handed_in call b.spawning answer ≡ 0 → b.program ≡ guest k.registers → HandsOver v call b.spawning bytes answer →
        HasReply (received_in k sender answer 0) (replied_born call b bytes answer) call
    word_came call none program hands = record {
      regs = k.registers;
      program = program;
      registers = refl;
      phase = ap (λ (l : List ℕ). in_service call (replied l answer)) (none_long bytes (hands.many ∙ none));
      awake = refl;
      silent = refl;
      small = small;
    }

    bytes_came : (call : Service) → handed_in call b.spawning answer ≡ handed_with call answer → IsOwnWritable v.row (page_number UTEMP) → ExpectsSo k b call → HandsOver v call b.spawning bytes answer →
        HasBytesReply v (received_in k sender answer 0) (replied_born call b bytes answer) call
    bytes_came call with_it page so hands = record {
      regs = k.registers;
      program = so.program;
      registers = refl;
      bytes = bytes;
      phase = refl;
      awake = refl;
      silent = refl;
      small = small;
      many = hands.many ∙ with_it;
      small_bytes = hands.small;
      kept = record { entry = page.entry; stands = page.stands; own_page = page.own_page; same = hands.same page.entry page.stands };
    }

    by_service : (call : Service) → is_requests call ≡ true → (hands_back call ≡ true → IsOwnWritable v.row (page_number UTEMP)) →
        StandsAt (place.InService call (awaiting_step call id fd)) v k b → ExpectsSo k b call → HandsOver v call b.spawning bytes answer →
        TellsNoFile call b.spawning answer →
        StandsAt (place.InService call (awaiting_step call id fd)) v (received_in k sender answer 0)
        (replied_born call b bytes answer)
    by_service service.Sync is page was so hands told = (self, has_reply (word_came service.Sync refl so.program hands))
    by_service (service.Remove path) is page was so hands told = (self, has_reply (word_came (service.Remove path) refl so.program hands))
    by_service (service.OpenFile path mode) is page was so hands told =
        let came = word_came (service.OpenFile path mode) refl so.program hands in (
          self,
          has_opened (record {
            regs = came.regs;
            program = came.program;
            registers = came.registers;
            phase = came.phase ∙ ap (λ (n : ℕ). in_service (service.OpenFile path mode) (replied [] n)) (sym (untold answer fd told));
            awake = came.awake;
            silent = came.silent;
            small = came.small;
          }),
        )
    by_service (service.Seek given offset) is page was so hands told =
        (self, has_reply (word_came (service.Seek given offset) refl so.program hands))
    by_service (service.SetSize given size) is page was so hands told =
        (self, has_reply (word_came (service.SetSize given size) refl so.program hands))
    by_service (service.Write given va len) is page was so hands told =
        (self, has_reply (word_came (service.Write given va len) refl so.program hands))
    by_service (service.Read given va len) is page was so hands told =
        record { self = self; hands = refl; inside = was.inside; so = has_bytes (bytes_came (service.Read given va len) refl (page refl) so hands) }
    by_service (service.Stat given va) is page was so hands told =
        record { self = self; hands = refl; inside = was.inside; so = has_bytes (bytes_came (service.Stat given va) refl (page refl) so hands) }
    by_service _ is page was so hands told = absurd (let contradiction : false ≡ true = is in cc)

plain_there : (call : Service) → is_requests call ≡ true → (id fd : ℕ) → is_plain (place.InService call (awaiting_step call id fd)) ≡ true
plain_there service.Sync is id fd = refl
plain_there (service.Remove path) is id fd = refl
plain_there (service.OpenFile path mode) is id fd = refl
plain_there (service.Seek given offset) is id fd = refl
plain_there (service.SetSize given size) is id fd = refl
plain_there (service.Write given va len) is id fd = refl
plain_there (service.Read given va len) is id fd = refl
plain_there (service.Stat given va) is id fd = refl
plain_there _ is id fd = absurd (let contradiction : false ≡ true = is in cc)

-- one that waits for bytes has its page
has_page : (call : Service) (id fd : ℕ) (words : List ℕ) → hands_back call ≡ true →
    has_working (place.InService call (awaiting_step call id fd)) words ≡ true
has_page (service.Read given va len) id fd words hands = refl
has_page (service.Stat given va) id fd words hands = refl
has_page _ id fd words hands = absurd (let contradiction : false ≡ true = hands in cc)

-- what is its own where a word has come to it, and it stands where it stood
pub told_own : {names : Names} {s : SpacesState} {k : Slot} {b : Born} (sender answer : ℕ) (phase : Phase) →
    StandsAt (place_of k) (view_of s k.directory) (received_in k sender answer 0) (record b { phase = phase; blocked = false }) → StandsForBorn names s k b →
    StandsForBorn names s (received_in k sender answer 0) (record b { phase = phase; blocked = false })
told_own {names = names} {s = s} {k = k} {b = b} sender answer phase so own_part =
    let j : Slot = received_in k sender answer 0 in
    let after : Born = record b { phase = phase; blocked = false } in
    let same : place_of j ≡ place_of k = told_at k sender answer 0 in
    record {
      id = own_part.id;
      id_small = own_part.id_small;
      parent = own_part.parent;
      env_type = own_part.env_type;
      runs = tt;
      upcall = own_part.upcall ∙ sym (ap upcall_at same);
      descriptors = subst (λ (p : Place). (fd : ℕ) → is_dropped p fd ≡ false → b.descriptors fd ≡ descriptor_seen_at p names s k.directory fd) (sym same)
          own_part.descriptors;
      memory = own_part.memory;
      library = library_moved (place_of k) (place_of j) k.extra j.extra (rows_of s k.directory) (sym (ap has_copy same))
          (sym (ap (λ (p : Place). pages_kept p k.extra) same)) own_part.library;
      regions_have = own_part.regions_have;
      regions_only = own_part.regions_only;
      stack = own_part.stack;
      flags = own_part.flags;
      at = subst (λ (p : Place). StandsAt p (view_of s k.directory) j after) (sym same) so;
    }

replied_own : {names : Names} {s : SpacesState} {k : Slot} {b : Born} (call : Service) (sender answer : ℕ) (bytes : List ℕ) →
    AwaitingPlace (place_of k) (view_of s k.directory) k b call ⊎ SpawnPlace (place_of k) call (SpawnAwaits (view_of s k.directory) k b) →
    StandsForBorn names s k b → answer < 2 ^ 32 → HandsOver (view_of s k.directory) call b.spawning bytes answer → TellsNoFile call b.spawning answer →
    StandsForBorn names s (received_in k sender answer 0) (replied_born call b bytes answer)
replied_own {names = names} {s = s} {k = k} {b = b} call sender answer bytes there own_part small hands none =
    told_own sender answer (in_service call (replied bytes answer)) (by_place there) own_part
  where
    by_place : AwaitingPlace (place_of k) (view_of s k.directory) k b call ⊎ SpawnPlace (place_of k) call (SpawnAwaits (view_of s k.directory) k b) →
        StandsAt (place_of k) (view_of s k.directory) (received_in k sender answer 0) (replied_born call b bytes answer)
    by_place (inl it) =
        let page : hands_back call ≡ true → IsOwnWritable (rows_of s k.directory) (page_number UTEMP) =
        λ is. own_part.library.working (ap (λ (p : Place). has_working p k.extra) it.at ∙ has_page call it.id it.fd k.extra is) in
        subst (λ (p : Place). StandsAt p (view_of s k.directory) (received_in k sender answer 0) (replied_born call b bytes answer)) (sym it.at)
        (reply_there call it.asks_it (view_of s k.directory) k b sender answer bytes it.id it.fd it.self it.so page
        (subst (λ (p : Place). StandsAt p (view_of s k.directory) k b) it.at own_part.at) small hands none)
    by_place (inr it) =
        let page : IsOwnWritable (rows_of s k.directory) (page_number UTEMP) =
        own_part.library.working (ap (λ (p : Place). has_working p k.extra) it.at ∙ awaits_page it.does) in
        subst (λ (p : Place). StandsAt p (view_of s k.directory) (received_in k sender answer 0) (replied_born call b bytes answer)) (sym it.at)
        (subst (λ (x : Service). StandsAt (place.InService (service.Spawn it.path it.argv) (step.Spawning it.step_is)) (view_of s k.directory)
        (received_in k sender answer 0) (replied_born x b bytes answer)) (sym it.call_is)
        (spawn_replied (view_of s k.directory) k b it.path it.argv sender answer bytes small hands.small
        (hands.many ∙ ap (λ (x : Service). handed_in x b.spawning answer) it.call_is)
        (subst (λ (x : Service). OpensBy (is_opening x b.spawning) answer None) it.call_is none) page hands.same it.step_is it.does))

-- the call with which it replies: a word, with no page
abbrev pub reply_call : KernelState → ℕ → ℕ → CallStep Called
reply_call s id answer = system s 0 SYS_IPC_TRY_SEND (id ∷ answer ∷ UTOP ∷ 0 ∷ 0 ∷ [])

-- the abstract state behind the reply
abbrev pub replied_state : AbstractState → ℕ → Service → Born → List ℕ → ℕ → AbstractState
replied_state a client call b bytes answer = reply_to a client call bytes (b, answer)

-- The client waits: the word has come to it.
pub record HasReplied (names : Names) (s : KernelState) (a : AbstractState) (client : ℕ) (by : Service) (b : Born) (bytes : List ℕ) (answer : ℕ) :
    Type 0 where
  pub call : reply_call s b.id answer ≡ giving (with_message s 0 client answer 0) (Answered 0)
  pub step : abs_step a 0 ≡ Some (replied_state a client by b bytes answer)
  pub stands : StandsFor names (with_message s 0 client answer 0) (replied_state a client by b bytes answer)

-- It does not wait yet, and neither is the reply taken.
pub record HasToWait (s : KernelState) (a : AbstractState) (b : Born) (answer : ℕ) : Type 0 where
  pub call : reply_call s b.id answer ≡ giving s (Answered (negated E_IPC_NOT_RECV))
  pub step : abs_step a 0 ≡ None
  pub waits : may_wait a 0 SHORT_QUANTUM ≡ true

module _ {names : Names} {s : KernelState} {a : AbstractState} (h : StandsFor names s a) (client answer : ℕ)
    (bytes : List ℕ) (is : a.server ≡ acted client answer bytes None) (b : Born) (at : a.slots client ≡ born b) where
  own : StandsForBorn names s.spaces (slot_at s client) b
  own = born_at h client b at

  status : IsServerStatus (acted client answer bytes None) (slot_at s 0)
  status = status_at h (acted client answer bytes None) is

  -- it is found by its id
  names_client : found s.environments b.id 0 false ≡ Some client
  names_client =
      subst (λ (m : ℕ). found s.environments b.id 0 false ≡ Some m) number
      (found_where s.environments b.id 0 some (ap (λ (m : ℕ). is_live_slot (slot_at s m)) number ∙ born_live own)
      (ap (λ (m : ℕ). (slot_at s m).id) number ∙ own.id))
    where
      number : b.id % NENV ≡ client
      number = sym (ap (λ (i : ℕ). i % NENV) own.id) ∙ h.tabled.ids client (born_live own)

      some : b.id ≢ 0
      some zero_is = born_not_first h client b at (sym (ap (λ (i : ℕ). i % NENV) zero_is) ∙ number)

  -- what is asked of the client, by its phase
  replied_is : (phase : Phase) → b.phase ≡ phase → abs_step a 0 ≡ reply_at a client b answer bytes None phase
  replied_is phase same =
      served_is h (acted client answer bytes None) is
      ∙ ap (λ (slot : AbstractSlot). reply a client answer bytes None (born_in slot)) at
      ∙ ap (λ (p : Phase). reply_at a client b answer bytes None p) same

  pub reply_comes : (call : Service) → b.phase ≡ in_service call awaiting → answer < 2 ^ 32 →
      HandsOver (view_of s.spaces (slot_at s client).directory) call b.spawning bytes answer → TellsNoFile call b.spawning answer →
      HasReplied names s a client call b bytes answer
  reply_comes call phase small hands none = record {
    call = word_comes s 0 b.id answer UTOP 0 (0 ∷ []) (first_slot h).lives status.1 client names_client waits (omega arith);
    step = replied_is (in_service call awaiting) phase;
    stands = server_goes_on come leaving still;
  }
    where
      v : View
      v = view_of s.spaces (slot_at s client).directory

      there : AwaitingPlace (place_of (slot_at s client)) v (slot_at s client) b call
          ⊎ SpawnPlace (place_of (slot_at s client)) call (SpawnAwaits v (slot_at s client) b)
      there =
          let k : Slot = slot_at s client in awaiting_place (place_of k) (view_of s.spaces k.directory) k b call own.at phase

      waits_so : ((slot_at s client).rendezvous.receiving ≡ true) × ((slot_at s client).rendezvous.wanted ≡ FIRST_ENV_ID)
      waits_so = by_there there
        where
          by_there : AwaitingPlace (place_of (slot_at s client)) v (slot_at s client) b call
              ⊎ SpawnPlace (place_of (slot_at s client)) call (SpawnAwaits v (slot_at s client) b) →
              ((slot_at s client).rendezvous.receiving ≡ true) × ((slot_at s client).rendezvous.wanted ≡ FIRST_ENV_ID)
          by_there (inl it) = (it.so.rendezvous, it.so.wanted)
          by_there (inr it) = let waits = (expected_so it.does).1 in (waits.receives, waits.wanted)

      waits : accepts (slot_at s client).rendezvous (slot_at s 0).id ≡ true
      waits = λ i. waits_so.0 i && ((waits_so.1 i == 0) || (waits_so.1 i == (first_slot h).id_is i))

      k : Slot
      k = received_in (slot_at s client) (slot_at s 0).id answer 0

      same : place_of k ≡ place_of (slot_at s client)
      same = told_at (slot_at s client) (slot_at s 0).id answer 0

      come_plain : is_plain (place_of (slot_at s client)) ≡ true → StandsFor names (with_message s 0 client answer 0) (with_born a client (replied_born call b bytes answer))
      come_plain plain =
          slot_changed h client b at k (replied_born call b bytes answer) refl (stopped_settles (slot_at s client) k refl refl refl refl)
          plain (ap is_plain same ∙ plain) (replied_own call (slot_at s 0).id answer bytes there own small hands none) (same_places same) (λ fd. refl)

      come : StandsFor names (with_message s 0 client answer 0) (with_born a client (replied_born call b bytes answer))
      come = by_there there
        where
          by_there : AwaitingPlace (place_of (slot_at s client)) v (slot_at s client) b call
              ⊎ SpawnPlace (place_of (slot_at s client)) call (SpawnAwaits v (slot_at s client) b) →
              StandsFor names (with_message s 0 client answer 0) (with_born a client (replied_born call b bytes answer))
          by_there (inl it) = come_plain (ap is_plain it.at ∙ plain_there call it.asks_it it.id it.fd)
          by_there (inr it) = by_plain (is_plain (place_of (slot_at s client))) refl
            where
              by_plain : (c : Bool) → is_plain (place_of (slot_at s client)) ≡ c →
                  StandsFor names (with_message s 0 client answer 0) (with_born a client (replied_born call b bytes answer))
              by_plain true plain = come_plain plain
              by_plain false bears =
                  slot_becomes h client b at k (replied_born call b bytes answer) refl (stopped_settles (slot_at s client) k refl refl refl refl)
                  (same_place (place_of (slot_at s client)) (place_of k) same)
                  (subst (λ (x : Service). HasChildren names s.spaces (upd s.environments.slots client k) (upd a.slots client (born (replied_born x b bytes answer))))
                  (sym it.call_is)
                  (children_replied h client b at it.path it.argv (slot_at s 0).id answer bytes same it.step_is it.at it.does))
                  (replied_own call (slot_at s 0).id answer bytes there own small hands none) (same_places same) (λ fd. refl)

      still : IsServerStatus leaving (slot_at (with_message s 0 client answer 0) 0)
      still = subst (λ (x : Slot). IsServerStatus leaving x) (sym (slot_kept s client k 0 (born_not_first h client b at))) status

  pub reply_waits : (call : Service) → b.phase ≡ in_service call asked → HasToWait s a b answer
  unfolding may_wait
  reply_waits call phase = record {
    call = not_waited_for s 0 b.id answer UTOP 0 (0 ∷ []) (first_slot h).lives status.1 client names_client deaf;
    step = none;
    waits = ap (λ (slot : AbstractSlot). slot_may_wait a 0 slot SHORT_QUANTUM) h.first
        ∙ ap (λ (o : Option AbstractState). reply_may_wait a.server o) none
        ∙ ap (λ (x : Server). reply_may_wait x None) is;
  }
    where
      silent : (slot_at s client).rendezvous.receiving ≡ false
      silent =
          let k : Slot = slot_at s client in by_there (asked_place (place_of k) (view_of s.spaces k.directory) k b call own.at phase)
        where
          by_there : AskedPlace (place_of (slot_at s client)) (slot_at s client) b call
              ⊎ SpawnPlace (place_of (slot_at s client)) call
              (SpawnHasAsked (view_of s.spaces (slot_at s client).directory) (slot_at s client) b) →
              (slot_at s client).rendezvous.receiving ≡ false
          by_there (inl it) = it.so.silent
          by_there (inr it) = (asked_so it.does).silent

      deaf : accepts (slot_at s client).rendezvous (slot_at s 0).id ≡ false
      deaf =
          let r : Rendezvous = (slot_at s client).rendezvous in
          ap (λ (waiting : Bool). waiting && ((r.wanted == 0) || (r.wanted == (slot_at s 0).id))) silent

      none : abs_step a 0 ≡ None
      none = replied_is (in_service call asked) phase

  pub replies_stand : (call : Service) → IsThere b call → answer < 2 ^ 32 →
      HandsOver (view_of s.spaces (slot_at s client).directory) call b.spawning bytes answer → TellsNoFile call b.spawning answer →
      HasReplied names s a client call b bytes answer ⊎ HasToWait s a b answer
  replies_stand call (inl phase) small hands none = inr (reply_waits call phase)
  replies_stand call (inr phase) small hands none = inl (reply_comes call phase small hands none)

-- ---- behind the call, where the server's own words are set

left_stands : {names : Names} {a : AbstractState} (state mid after : KernelState) → mid ≡ state → StandsFor names state a →
    length (slot_at state 0).extra ≡ 12 → (after ≡ mid) ⊎ SetsWords mid after 0 → CallLeaves names after a
left_stands {names = names} {a = a} state mid after same stands twelve left = by_left left
  where
    here : StandsFor names mid a
    here = subst (λ (z : KernelState). StandsFor names z a) (sym same) stands

    many : length (slot_at mid 0).extra ≡ 12
    many = ap (λ (z : KernelState). length (slot_at z 0).extra) same ∙ twelve

    by_left : (after ≡ mid) ⊎ SetsWords mid after 0 → CallLeaves names after a
    by_left (inl is) = record {
      stands = subst (λ (z : KernelState). StandsFor names z a) (sym is) here;
      twelve = ap (λ (z : KernelState). length (slot_at z 0).extra) is ∙ many;
    }
    by_left (inr sets) =
        let k : Slot = record (slot_at mid 0) { registers = sets.registers; extra = sets.words } in
        record {
          stands = words_stand here after sets many;
          twelve = ap (λ (z : KernelState). length (slot_at z 0).extra) (sets.set ∙ both_set mid 0 sets.registers sets.words)
              ∙ ap (λ (x : Slot). length x.extra) (upd-at mid.environments.slots 0 k) ∙ sets.long many;
        }

-- The reply came, or the client does not wait for it yet.
pub data ReplyLeaves (names : Names) (a : AbstractState) (client : ℕ) (by : Service) (b : Born) (bytes : List ℕ) (answer : ℕ)
    (called : Called) (after : KernelState) : Type 0 where
  came : called ≡ Answered 0 → abs_step a 0 ≡ Some (replied_state a client by b bytes answer) → CallLeaves names after (replied_state a client by b bytes answer) →
      ReplyLeaves names a client by b bytes answer called after
  not_yet : called ≡ Answered (negated E_IPC_NOT_RECV) → abs_step a 0 ≡ None → may_wait a 0 SHORT_QUANTUM ≡ true → CallLeaves names after a →
      ReplyLeaves names a client by b bytes answer called after

module _ {names : Names} {s : KernelState} {a : AbstractState} (h : StandsFor names s a) (twelve : length (slot_at s 0).extra ≡ 12) where
  pub receive_leaves : (mid after : KernelState) (called : Called) (output : Output) →
      IsCallStep (system s 0 SYS_IPC_RECV (REQUEST ∷ 0 ∷ 0 ∷ 0 ∷ 0 ∷ [])) (Ok called) mid output → (after ≡ mid) ⊎ SetsWords mid after 0 →
      (called ≡ Blocked) × Prints output [] × CallLeaves names after (record a { server = idle })
  receive_leaves mid after called output call left =
      let it = comes_to (system s 0 SYS_IPC_RECV (REQUEST ∷ 0 ∷ 0 ∷ 0 ∷ 0 ∷ [])) Blocked called (ready_state s) mid [] output
      (receive_is s (0 ∷ 0 ∷ 0 ∷ []) (first_slot h).lives) call in (
        it.0,
        it.2,
        left_stands (ready_state s) mid after it.1 (receives_stand h)
            (ap (λ (x : Slot). length x.extra) (upd-at s.environments.slots 0 (ready_slot (slot_at s 0))) ∙ twelve) left,
      )

  pub reply_leaves : (client answer : ℕ) (bytes : List ℕ) → a.server ≡ acted client answer bytes None → (b : Born) → a.slots client ≡ born b →
      (by : Service) → IsThere b by → answer < 2 ^ 32 → HandsOver (view_of s.spaces (slot_at s client).directory) by b.spawning bytes answer →
      TellsNoFile by b.spawning answer → (mid after : KernelState) (called : Called) (output : Output) →
      IsCallStep (reply_call s b.id answer) (Ok called) mid output → (after ≡ mid) ⊎ SetsWords mid after 0 →
      Prints output [] × ReplyLeaves names a client by b bytes answer called after
  reply_leaves client answer bytes is b at by there small hands none mid after called output call left =
      by_phase (replies_stand h client answer bytes is b at by there small hands none)
    where
      kept : length (slot_at (with_message s 0 client answer 0) 0).extra ≡ 12
      kept =
          let k : Slot = received_in (slot_at s client) (slot_at s 0).id answer 0 in
          ap (λ (x : Slot). length x.extra) (slot_kept s client k 0 (born_not_first h client b at)) ∙ twelve

      by_phase : HasReplied names s a client by b bytes answer ⊎ HasToWait s a b answer →
          Prints output [] × ReplyLeaves names a client by b bytes answer called after
      by_phase (inl so) =
          let it = comes_to (reply_call s b.id answer) (Answered 0) called (with_message s 0 client answer 0) mid [] output so.call call in
          (it.2, came it.0 so.step (left_stands (with_message s 0 client answer 0) mid after it.1 so.stands kept left))
      by_phase (inr so) =
          let it = comes_to (reply_call s b.id answer) (Answered (negated E_IPC_NOT_RECV)) called s mid [] output so.call call in
          (it.2, not_yet it.0 so.step so.waits (left_stands s mid after it.1 h twelve left))

-- what it leaves where it stands for the server that is about to act, it leaves where it stands for the one that has acted
pub acts_leave : {names : Names} {after : KernelState} {a : AbstractState} → CallLeaves names after a → (client : ℕ) →
    a.server ≡ busy client (act sync_files None) None → CallLeaves names after (act_done a client (act sync_files None) None)
acts_leave it client is = record { stands = acts_stand it.stands client is; twelve = it.twelve }
