-- Whose step it is, and where the file server stands while others make their steps, and where turns begin and end.
use Rattle.std.proofs.Common.{◌≡◌, ◌≢◌, ◌∙◌, inl, inr, ℕ, ◌+◌, ◌%◌, ◌^◌, ◌==◌, ◌<◌, Bool, true, false, List, [], ◌∷◌, Option, Some, None, length}
use Rattle.std.proofs.Common.{refl, sym, ap, subst, arith, if◌then◌else◌}
use Rattle.std.specs.Prelude.{IfSome, is_some, slice_index}
use Rattle.std.specs.Option.{option_map}
use Rattle.std.proofs.lemmas.Bool.Decides.{nat_tests}
use Rattle.std.proofs.lemmas.Bool.{cases_eq, false≢true}
use Rattle.std.proofs.lemmas.Option.{none-some, same_Some}
use Rattle.jos_base.specs.declared.environment.EnvType.{EnvType}
use Rattle.jos_base.specs.declared.environment.Status.{Status}
use Rattle.jos_base.specs.declared.environment.Status.TheVariants.{NotRunnable, Runnable, Running}
use Rattle.jos_base.specs.declared.numbers.TheConstants.{FIRST_ENV_ID, NENV, PGSIZE, UTEMP}
use Rattle.jos_base.specs.declared.registers.Regs.{Regs}
use Rattle.jos_base.specs.Environments.{Slot, is_live, is_running}
use Rattle.jos_base.specs.KernelState.{KernelState, slot_at, turn_begun, turn_ended, with_slot_at, with_status}
use Rattle.jos_base.specs.Messages.{Rendezvous}
use Rattle.jos_base.specs.Reach.{Entry}
use Rattle.jos_base.specs.Words.{page_number}
use Rattle.fs_layout.specs.FileTree.{open_path, read_file, remove_path, set_file_size, stat_file, sync_files, write_file}
use Rattle.fs_blocks.specs.CachePlaces.{state_in}
use Rattle.fs_requests.specs.declared.state.ServerState.{ServerState}
use Rattle.fs_requests.specs.declared.state.ServerStep.{ServerStep}
use Rattle.fs_requests.specs.declared.state.ServerStep.TheVariants as server_at
use Rattle.fs_requests.specs.ServerWords.{server_in}
use Rattle.lib_os.specs.declared.place.Place.{Place}
use Rattle.lib_os.specs.declared.place.Place.TheVariants as place
use Rattle.lib_os.specs.declared.place.Step.TheVariants as step_at
use Rattle.lib_os.specs.declared.spawn_steps.OpeningStep.TheVariants as opening_step
use Rattle.lib_os.specs.declared.spawn_steps.ReadStep.TheVariants as read
use Rattle.lib_os.specs.declared.spawn_steps.SpawnStep.{SpawnStep}
use Rattle.lib_os.specs.declared.spawn_steps.SpawnStep.TheVariants as spawn
use Rattle.lib_os.specs.Places.{place_of}
use Rattle.lib_os.specs.declared.numbers.TheConstants.{FSREQ_OPEN, FSREQ_READ, FSREQ_REMOVE, FSREQ_SEEK, FSREQ_SET_SIZE, FSREQ_STAT, FSREQ_SYNC}
use Rattle.lib_os.specs.declared.numbers.TheConstants.{FSREQ_WRITE, REQUEST}
use Rattle.lib_os.specs.declared.progress.Progress.{Progress}
use Rattle.lib_os.specs.declared.progress.Progress.TheVariants as progress
use Rattle.lib_os.specs.declared.request.RequestKind.{RequestKind}
use Rattle.lib_os.specs.declared.request.RequestKind.TheVariants as kind
use Rattle.lib_os.specs.declared.service.Service.{Service}
use Rattle.lib_os.specs.declared.service.Service.TheVariants as service
use Rattle.lib_os.specs.AbstractLaws.{AsksOrLeaves, LeavesFiles, ServesWhoAsked, asks, asks_server, client_served, leaves}
use Rattle.lib_os.specs.AbstractRun.{abs_step, program_step, slot_step}
use Rattle.lib_os.specs.AbstractSpawn.{with_spawning}
use Rattle.lib_os.specs.AbstractState.{AbstractSlot, AbstractState, Born, Object, OpenFile, Request, Server, act, acted, asked, awaiting, born, busy, entered}
use Rattle.lib_os.specs.AbstractState.{file, guest, idle, in_service, leaving, looking, seek, slot_id}
use Rattle.lib_os.specs.AskedFor.{AsksBy, ServesAsAsked}
use Rattle.lib_os.specs.Descriptors.{is_held}
use Rattle.lib_os.specs.Disk.{Disk}
use Rattle.lib_os.specs.FileServer.{request_begun, request_taken}
use Rattle.lib_os.specs.LibraryCall.{library_step}
use Rattle.lib_os.specs.LibraryPages.{View}
use Rattle.lib_os.specs.LibrarySteps.{AbstractFollows, AsksServer, BringsRequest, BringsWithPage, GivesPage, GoesOn, KeepsPlaces, KeepsServer}
use Rattle.lib_os.specs.LibrarySteps.{KeepsWorking, LeavesEach, LeavesOrAsks, LeavesServer, NothingRefused, Stands, Stays, asked_it, asking_step}
use Rattle.lib_os.specs.LibrarySteps.{left_alone, request_perm, spawn_asked, spawn_asks_by, with_message_in}
use Rattle.lib_os.specs.MadeCalls.{is_server_page}
use Rattle.lib_os.specs.Requests as requests_of
use Rattle.lib_os.specs.Rows.{Names, is_of_descriptor, lasting, rows_of}
use Rattle.lib_os.specs.InService.{IsIn}
use Rattle.lib_os.specs.StandsAtSpawn.{StandsAtSpawn}
use Rattle.lib_os.specs.StandsFor.{AwaitsRequest, IsServerStatus, IsStatusFor, StandsAt, StandsFor, StandsForBorn, TellsRequest, borne_in}
use Rattle.lib_os.specs.StandsFor.{StandsForServer, StandsForSlot, view_of}
use Rattle.lib_os.specs.UserCalls.{is_file_server}
use Rattle.lib_os.proofs.AnswersFit.{asked_fits, client_fits}
use Rattle.lib_os.proofs.AskedPlaces.{IsRequesting, asked_step, asks as asks_it, awaiting_step, expects, expects_so, is_requests, requesting, spawn_asks, spawn_expects}
use Rattle.lib_os.proofs.SpawnWaits.{SpawnAwaits, SpawnHasAsked, asked_so, asks_file, asks_part, expected_so, expects_file, expects_part}
use Rattle.lib_os.proofs.AskersStay.{asker_waits}
use Rattle.lib_os.proofs.Effects.{Placed}
use Rattle.lib_os.proofs.FilesLeft.{clients_leave_files}
use Rattle.lib_os.proofs.Placing.{inserted_given}
use Rattle.lib_os.proofs.PipesStand.{is_calm}
use Rattle.lib_os.proofs.RequestPages.{IsBeside, asking_calm, brings_page, brings_unborne, told_asking, word_asked}
use Rattle.lib_os.proofs.ServedStay.{HasClient, client_is, served_clients_stay}
use Rattle.lib_os.proofs.SlotsStand.{born_at, born_live}
use Rattle.lib_os.proofs.SpawnOwnPages.{spawns_at}
use Rattle.fs_tree.specs.TreeSteps.{memory_in, request_bytes}
use Rattle.fs_serving.specs.ServerRuns.{AsksFor, TableStands, syncs}
use Rattle.fs_seen.specs.ServerMemory.{HasRequested, entry_of, has_request, request_page, sends_page, view_in}
use Rattle.fs_seen.specs.ServerOthers.{CountsTell, LeavesServed}
use Rattle.fs_seen.specs.ServerWhole.{IsAsked, IsAskedBy, IsServing, LeavesPages, SameServed, ServesBy, ServesOn}
use Rattle.fs_seen.proofs.AskedByPages.{asked_by_page, requested_where}
use Rattle.fs_seen.proofs.AskedNow.{asked_by_word, asked_serves, word_request}
use Rattle.fs_seen.proofs.Between.{same_state}
use Rattle.fs_seen.proofs.ClientSteps.{clients_leave_served}
use Rattle.fs_seen.proofs.CountsTold.{standing_counts_tell}
use Rattle.fs_seen.proofs.OthersNow.{clients_serve, others_serve}
use Rattle.fs_seen.proofs.StaysGone.{SlotStays}
use Rattle.fs_seen.proofs.StaysUnopened.{asked_table}
use Rattle.fs_seen.proofs.TablesAlike.{SameObjects, TableSeen, table_again}
use Rattle.fs_seen.proofs.TablesLeft.{files_are_apart, tables_are_left}
use Rattle.jos_run.specs.AbstractTurns.{turn_begun as begun_at}
use Rattle.jos_run.specs.ServerStands.{BringsOwn, HasLent, IsClient, IsLent, IsLentBy, KeepsWhole, ServerStands, client_id}
use Rattle.jos_run.specs.ServerStands.{WholeFollows, WholeGoesOn, WholeStays, serving_at, step_of}
use Rattle.jos_run.specs.Steps.{is_awake, is_servers}
use Rattle.jos_run.specs.Worlds.{beside}
use Rattle.jos_run.proofs.RequestsCalm.{RequestsCalmly, asks_by_page, spawn_asks_at}
use Rattle.jos_run.proofs.RequestsMade.{Asks, asked_state, found_at, kind_asked, request_made, spawn_kind, spawn_made, spawn_word, word_of_kind}
use Rattle.jos_run.proofs.PagesLeft.{lent_left, others_lack, pages_left, requests}
use Rattle.jos_run.proofs.ServingKept.{serves_still}
use Rattle.jos_base.proofs.Maps.{upd-all, upd-at}
use Rattle.jos_base.proofs.Puts.{put-other}

-- ---- whose step it is

-- the file server stands in slot 0,
pub servers_first : {names : Names} {s : KernelState} {a : AbstractState} → StandsFor names s a → (n : ℕ) → is_servers s n ≡ true → n ≡ 0
servers_first {s = s} h n is = by_test (n == 0) refl
  where
    by_test : (c : Bool) → (n == 0) ≡ c → n ≡ 0
    by_test true test = grind (arith, nat_tests)
    by_test false test =
        let other : n ≢ 0 = grind (arith, nat_tests) in
        absurd (let contradiction : true ≡ false = sym is ∙ ap (λ (t : EnvType). is_file_server t) (h.tabled.servers n other) in cc)

pub first_serves : {names : Names} {s : KernelState} {a : AbstractState} → StandsFor names s a → StandsForServer (slot_at s 0) FIRST_ENV_ID
first_serves {names = names} {s = s} h = subst (λ (slot : AbstractSlot). StandsForSlot names s.spaces (slot_at s 0) slot) h.first (h.slots 0)

-- and no other
pub others_slot : {names : Names} {s : KernelState} {a : AbstractState} → StandsFor names s a → (n : ℕ) → is_servers s n ≡ false → n ≢ 0
others_slot {s = s} h n is zero =
    absurd (let contradiction : true ≡ false = sym (ap (λ (t : EnvType). is_file_server t) (first_serves h).env_type) ∙ ap (λ (m : ℕ). is_servers s m) (sym zero) ∙ is in cc)

-- ---- the file server's slot

-- what tells its step, and the message that came to it
pub record SameServing (k after : Slot) : Type 0 where
  pub registers : after.registers ≡ k.registers
  pub words : after.extra ≡ k.extra
  pub message : after.rendezvous ≡ k.rendezvous
  pub space : after.directory ≡ k.directory
  pub env_type : after.env_type ≡ k.env_type

pub same_serving : {k after : Slot} → after ≡ k → SameServing k after
same_serving same = record {
  registers = ap (λ (x : Slot). x.registers) same;
  words = ap (λ (x : Slot). x.extra) same;
  message = ap (λ (x : Slot). x.rendezvous) same;
  space = ap (λ (x : Slot). x.directory) same;
  env_type = ap (λ (x : Slot). x.env_type) same;
}

-- the client that it serves has the id that it had
abbrev pub SameClient : Server → AbstractState → AbstractState → Type 0
SameClient server a b = (client : ℕ) → client_served server ≡ Some client → slot_id (b.slots client) ≡ slot_id (a.slots client)

client_kept : {a b : AbstractState} {client id other : ℕ} → other ≡ id → slot_id (b.slots client) ≡ slot_id (a.slots client) → IsClient a client id →
    IsClient b client other
client_kept same ids h = record { slot = h.slot ∙ ap (λ (x : ℕ). x % NENV) (sym same); same = ids ∙ h.same ∙ sym same }

module _ (k after : Slot) (same : SameServing k after) where
  serving : serving_at after ≡ serving_at k
  serving = λ i. server_in (same.registers i) (same.words i)

  id_at : (x : ServerStep) → client_id x after ≡ client_id x k
  id_at server_at.ReadingKind = ap (λ (r : Rendezvous). r.sender) same.message
  id_at server_at.ReadingClient = ap (λ (r : Rendezvous). r.sender) same.message
  id_at _ = ap (λ (x : ServerState). x.client) serving

  same_id : client_id (step_of after) after ≡ client_id (step_of k) k
  same_id = ap (λ (x : ServerState). client_id x.step after) serving ∙ id_at (step_of k)

-- Where its slot is the same but for its status, it stands for an abstract state that has the same of what it has.
stands_kept : {d : Disk} {s t : KernelState} {a b : AbstractState} → SameServing (slot_at s 0) (slot_at t 0) → IsServing d t 0 b →
    HasLent b.server t → b.server ≡ a.server → SameClient a.server a b → ServesWhoAsked b → ServesAsAsked b → ServerStands d s a → ServerStands d t b
stands_kept {d = d} {s = s} {t = t} {a = a} {b = b} same serves lent server ids who fits h = record {
  serving = serves;
  twelve = ap (λ (words : List ℕ). length words) same.words ∙ h.twelve;
  brings = subst (λ (words : List ℕ). BringsOwn d (state_in words).place) (sym same.words) h.brings;
  client = λ client is.
      let was : client_served a.server ≡ Some client = ap (λ (x : Server). client_served x) (sym server) ∙ is in
      client_kept (same_id (slot_at s 0) (slot_at t 0) same) (ids client was) (h.client client was);
  asked = who;
  fits = fits;
  lent = lent;
}

-- ---- turns

-- whatever a slot's status and however often it has run
set_serving : (s : KernelState) (n : ℕ) (status : Status) (runs : ℕ) →
    SameServing (slot_at s 0) (slot_at (with_slot_at s n (record (slot_at s n) { status = status; runs = runs })) 0)
set_serving s n status runs =
    upd-all (λ m (x : Slot). SameServing (slot_at s m) x) s.environments.slots n (record (slot_at s n) { status = status; runs = runs })
    (record { registers = refl; words = refl; message = refl; space = refl; env_type = refl }) (λ m ne. same_serving refl) 0

set_home : (s : KernelState) (n : ℕ) (status : Status) (runs m : ℕ) →
    (slot_at (with_slot_at s n (record (slot_at s n) { status = status; runs = runs })) m).directory ≡ (slot_at s m).directory
set_home s n status runs m =
    upd-all (λ k (x : Slot). x.directory ≡ (slot_at s k).directory) s.environments.slots n (record (slot_at s n) { status = status; runs = runs })
    refl (λ k ne. refl) m

-- where the slot is so, and the spaces are the same,
turned_server : (d : Disk) (s t : KernelState) (a b : AbstractState) → SameServing (slot_at s 0) (slot_at t 0) → t.spaces ≡ s.spaces →
    ((m : ℕ) → (slot_at t m).directory ≡ (slot_at s m).directory) → Stands t b → SameServed a b → SameObjects a b → SameClient a.server a b →
    ServesWhoAsked b → ServesAsAsked b → ServerStands d s a → ServerStands d t b
turned_server d s t a b same spaces homes behind served objects ids who fits h =
    stands_kept same
    (others_serve a b d t t (serves_still d s t a h.serving slot same.registers same.message behind.1.in_order) behind.1.in_order itself served
    (λ disk. table_again disk a b (view_in d t 0) (view_in d t 0) objects seen)).serving
    (subst (λ (x : Server). HasLent x t) (sym served.server) (lent_still a.server h.lent)) served.server ids who fits h
  where
    slot : SlotStays s t 0
    slot = record { lives = (first_serves behind.1).lives; env_type = same.env_type; directory = same.space; words = same.words; spaces = spaces }

    itself : LeavesPages a.server t t 0
    itself = record {
      slot = refl;
      entries = λ p. refl;
      tables = λ r. refl;
      bytes = λ p e own ne there. refl;
      request = λ keeps e there. refl;
      counts = λ number e below there. refl;
    }

    seen : TableSeen (view_in d t 0) (view_in d t 0)
    seen = record { homes = λ number. refl; pages = λ number. refl; holders = λ number there. refl }

    there_as : has_request t 0 ≡ has_request s 0
    there_as i = is_some ((spaces i).entries (homes 0 i) request_page)

    still_lent : (client : ℕ) → IsLent s client → IsLent t client
    still_lent client lent = record {
      own = lent.own;
      kept = (λ i. rows_of (spaces i) (homes client i) (page_number UTEMP)) ∙ lent.kept;
      entry = lent.entry;
      stands = (λ i. rows_of (spaces i) (homes 0 i) (page_number REQUEST)) ∙ lent.stands;
      same = lent.same;
    }

    page_still : (client : ℕ) (c : Bool) → IsLentBy c s client → IsLentBy c t client
    page_still client true lent = still_lent client lent
    page_still client false none = there_as ∙ none

    lent_still : (x : Server) → HasLent x s → HasLent x t
    lent_still leaving lent = λ receiving.
        there_as ∙ lent (ap (λ (x : ServerState). x.step) (sym (serving (slot_at s 0) (slot_at t 0) same)) ∙ receiving)
    lent_still idle none = there_as ∙ none
    lent_still (looking client request number) lent = page_still client (sends_page request) lent
    lent_still (busy client request number) lent = page_still client (sends_page request) lent
    lent_still (acted client answer [] object) lent = tt
    lent_still (acted client answer (byte ∷ rest) object) lent = still_lent client lent

-- where a turn begins,
pub begun_server : (d : Disk) (s : KernelState) (n : ℕ) (a : AbstractState) → Stands s a → Stands (turn_begun s n) (begun_at a n) → ServerStands d s a →
    ServerStands d (turn_begun s n) (begun_at a n)
begun_server d s n a before behind h =
    turned_server d s (turn_begun s n) a (begun_at a n) (set_serving s n Running (((slot_at s n).runs + 1) % 2 ^ 32)) refl
    (set_home s n Running (((slot_at s n).runs + 1) % 2 ^ 32)) behind
    (record {
      server = refl;
      files = refl;
      opened = refl;
      objects = refl;
      held = λ name f is. refl;
      holds = λ client name f is served has. has;
      file_open = refl;
    })
    (record { opened = refl; objects = refl; held = λ name. refl; names = refl })
    (λ client is. refl)
    (record {
      asked = h.asked.asked;
      given = h.asked.given;
      opens = record {
        pages = h.asked.opens.pages;
        ends = h.asked.opens.ends;
        held = h.asked.opens.held;
        opened = λ name is. let was = h.asked.opens.opened name is in record {
          old = was.old;
          page = was.page;
          ends = was.ends;
          held = was.held;
        };
      };
    }) h.fits h

-- and where one ends
pub ended_server : (d : Disk) (s : KernelState) (n : ℕ) (a : AbstractState) → Stands s a → Stands (turn_ended s n) a → ServerStands d s a →
    ServerStands d (turn_ended s n) a
ended_server d s n a before behind h = by_test (is_running (slot_at s n).status) behind
  where
    by_test : (c : Bool) → Stands (if c then with_status s n Runnable else s) a → ServerStands d (if c then with_status s n Runnable else s) a
    by_test true behind =
        turned_server d s (with_status s n Runnable) a a (set_serving s n Runnable (slot_at s n).runs) refl (set_home s n Runnable (slot_at s n).runs)
        behind
        (record {
          server = refl;
          files = refl;
          opened = refl;
          objects = refl;
          held = λ name f is. refl;
          holds = λ client name f is served has. has;
          file_open = refl;
        })
        (same_state a) (λ client is. refl) h.asked h.fits h
    by_test false behind = h

-- ---- the steps of others

-- the server is asked for sync
sync_asked : (a c : AbstractState) (n : ℕ) (b : Born) (regs : Regs) → a.server ≡ idle → a.slots n ≡ born b → b.blocked ≡ false →
    b.program ≡ guest regs → b.phase ≡ in_service service.Sync entered → abs_step a n ≡ Some c → c ≡ asked_state a n b service.Sync (act sync_files None)
unfolding abs_step library_step
sync_asked a c n b regs server at awake program phase step =
    let asks : Option AbstractState = request_taken a n b service.Sync (act sync_files None) idle in
    let is : abs_step a n ≡ asks =
    ap (λ (slot : AbstractSlot). slot_step a n slot) at
    ∙ (λ i. if awake i then None else program_step a n b (program i) (phase i))
    ∙ ap (λ (x : Server). request_taken a n b service.Sync (act sync_files None) x) server in
    sym (same_Some (asked_state a n b service.Sync (act sync_files None)) c (sym is ∙ step))

-- one that has asked goes on to wait for the reply, and then has no step
asks_so : (s : Service) → is_requests s ≡ true → asks_server s ≡ true
asks_so service.Sync is = refl
asks_so (service.OpenFile path mode) is = refl
asks_so (service.Remove path) is = refl
asks_so (service.Seek fd offset) is = refl
asks_so (service.SetSize fd size) is = refl
asks_so (service.Write fd va len) is = refl
asks_so (service.Read fd va len) is = refl
asks_so (service.Stat fd va) is = refl
asks_so _ is = absurd (false≢true is)

awaits_own : (s : Service) → asks_server s ≡ true → (a c : AbstractState) (n : ℕ) (b : Born) (regs : Regs) → a.slots n ≡ born b → b.blocked ≡ false →
    b.program ≡ guest regs → b.phase ≡ in_service s asked → abs_step a n ≡ Some c → slot_id (c.slots n) ≡ b.id
awaits_own s of a c n b regs at awake program phase step =
    ap (λ (x : AbstractState). slot_id (x.slots n))
    (asker_waits a c n b regs s at program phase awake of step)
    ∙ ap (λ (slot : AbstractSlot). slot_id slot) (upd-at a.slots n (born (record b { phase = in_service s awaiting; blocked = true })))

no_step : (a : AbstractState) (n : ℕ) (b : Born) → a.slots n ≡ born b → b.blocked ≡ true → abs_step a n ≡ None
unfolding abs_step
no_step a n b at blocked =
    ap (λ (slot : AbstractSlot). slot_step a n slot) at ∙ ap (λ (t : Bool). if t then None else program_step a n b b.program b.phase) blocked

-- its id stands in its place
abbrev pub request_id : Place → ℕ
request_id (place.InService s (step_at.Awaiting id)) = id
request_id (place.InService s (step_at.ReadingReply id)) = id
request_id (place.InService s (step_at.Clearing id)) = id
request_id (place.InService s (step_at.CountingReply id)) = id
request_id (place.InService s (step_at.OpenAwaiting id fd)) = id
request_id (place.InService s (step_at.OpenClearing id fd)) = id
request_id (place.InService s (step_at.Spawning (spawn.Opening (opening_step.OpenAwaiting esp fd id)))) = id
request_id (place.InService s (step_at.Spawning (spawn.Opening (opening_step.ReadingOpened esp fd id)))) = id
request_id (place.InService s (step_at.Spawning (spawn.Reading wanted (read.Awaiting id)))) = id
request_id (place.InService s (step_at.Spawning (spawn.Reading wanted (read.ReadingReply id)))) = id
request_id _ = 0

asked_id : (s : Service) → is_requests s ≡ true → (id fd : ℕ) → request_id (place.InService s (asked_step s id fd)) ≡ id
asked_id service.Sync is id fd = refl
asked_id (service.OpenFile path mode) is id fd = refl
asked_id (service.Remove path) is id fd = refl
asked_id (service.Seek given offset) is id fd = refl
asked_id (service.SetSize given size) is id fd = refl
asked_id (service.Write given va len) is id fd = refl
asked_id (service.Read given va len) is id fd = refl
asked_id (service.Stat given va) is id fd = refl
asked_id _ is id fd = absurd (false≢true is)

waiting_id : (s : Service) → is_requests s ≡ true → (id fd : ℕ) → request_id (place.InService s (awaiting_step s id fd)) ≡ id
waiting_id service.Sync is id fd = refl
waiting_id (service.OpenFile path mode) is id fd = refl
waiting_id (service.Remove path) is id fd = refl
waiting_id (service.Seek given offset) is id fd = refl
waiting_id (service.SetSize given size) is id fd = refl
waiting_id (service.Write given va len) is id fd = refl
waiting_id (service.Read given va len) is id fd = refl
waiting_id (service.Stat given va) is id fd = refl
waiting_id _ is id fd = absurd (false≢true is)

id_told : {p : Place} {v : View} {k : Slot} {b : Born} → IsRequesting p v k b → request_id p ≡ k.id
id_told (asks_it s is id fd at self so) = ap request_id at ∙ asked_id s is id fd ∙ self
id_told (expects s is id fd at self so) = ap request_id at ∙ waiting_id s is id fd ∙ self
id_told {v = v} {k = k} {b = b} (spawn_asks path argv to at so) = ap request_id at ∙ by_asked so
  where
    by_asked : {to : SpawnStep} → SpawnHasAsked v k b path argv to → request_id (place.InService (service.Spawn path argv) (step_at.Spawning to)) ≡ k.id
    by_asked (asks_file esp fd id self has) = self
    by_asked (asks_part wanted id self has) = self
id_told {v = v} {k = k} {b = b} (spawn_expects path argv to at so) = ap request_id at ∙ by_awaited so
  where
    by_awaited : {to : SpawnStep} → SpawnAwaits v k b path argv to → request_id (place.InService (service.Spawn path argv) (step_at.Spawning to)) ≡ k.id
    by_awaited (expects_file esp fd id self waits) = self
    by_awaited (expects_part wanted id self waits) = self

-- it has its own space where it asks by a page
page_asks : (s : Service) → brings_page s ≡ true → (id fd : ℕ) → asks_by_page (place.InService s (asking_step s id fd)) ≡ true
page_asks (service.OpenFile path mode) is id fd = refl
page_asks (service.Remove path) is id fd = refl
page_asks (service.Seek given offset) is id fd = refl
page_asks (service.SetSize given size) is id fd = refl
page_asks (service.Write given va len) is id fd = refl
page_asks (service.Read given va len) is id fd = refl
page_asks (service.Stat given va) is id fd = refl
page_asks _ is id fd = absurd (false≢true is)

-- the page of a request that has come is lent
lent_begun : (s : KernelState) (n : ℕ) (request : Request) → IsLentBy (sends_page request) s n → HasLent (request_begun n request) s
lent_begun s n (act (open_path path mode) object) lent = lent
lent_begun s n (act (remove_path path) object) lent = lent
lent_begun s n (act (read_file way at count) object) lent = lent
lent_begun s n (act (write_file way at bytes) object) lent = lent
lent_begun s n (act (set_file_size way size) object) lent = lent
lent_begun s n (act (stat_file way) object) lent = lent
lent_begun s n (act sync_files object) lent = lent
lent_begun s n (seek name offset) lent = lent

-- what has been left is as it was
leaves_itself : (a : AbstractState) → LeavesServed a a
leaves_itself a = record {
  server = refl;
  leaves = record {
    files = refl;
    opened = refl;
    names = omega arith;
    objects = λ name below. refl;
    ends = λ name pipe is. inl is;
    held = λ name is. inl is;
    pages = λ name old none. none;
  };
  holds = λ client name f is served has. has;
}

-- A step of another leaves the file server where it stands, or asks it while it waits.
module _ (d : Disk) (n : ℕ) (s after : KernelState) (other : n ≢ 0) (live : is_live (slot_at s n) ≡ true)
    (awake : is_awake (slot_at s n).status ≡ true) (server : KeepsServer n s after) (places : KeepsPlaces n s after)
    (working : KeepsWorking n s after) (calm : RequestsCalmly n s after) (a : AbstractState) (h : Stands s a) (k : ServerStands d s a) (b : Born)
    (at : a.slots n ≡ born b) where
  way : (c : AbstractState) → Stands after c → LeavesOrAsks n s after
  way c stands = server stands.1.in_order other live a h

  below : n < NENV
  below = let id : (slot_at s n).id % NENV ≡ n = h.1.tabled.ids n live in omega (arith, id)

  -- who waits for a request is idle
  waits_idle : AwaitsRequest (slot_at s 0) → a.server ≡ idle
  waits_idle waited = by_server a.server h.1.server.status
    where
      none : {X : Type 0} → IsStatusFor (slot_at s 0).status false → X
      none is = absurd (subst (λ (x : Status). IsStatusFor x false) waited.status is)

      by_server : (x : Server) → IsServerStatus x (slot_at s 0) → x ≡ idle
      by_server idle is = refl
      by_server leaving is = none is.0
      by_server (looking client request number) is = none is.0
      by_server (busy client request place) is = none is.0
      by_server (acted client answer bytes object) is = none is.0

  -- and one that is asked does not wait
  message_wakes : (slot_at after 0).status ≡ NotRunnable → (sender value perm : ℕ) → slot_at after 0 ≡ with_message_in (slot_at s 0) sender value perm → ⊥
  message_wakes is sender value perm told = let contradiction : Runnable ≡ NotRunnable = sym (ap (λ (x : Slot). x.status) told) ∙ is in cc

  asked_wakes : AsksServer n s after → (slot_at after 0).status ≡ NotRunnable → ⊥
  asked_wakes it is = by_service it.by_service it.brings
    where
      runs : (sender value perm : ℕ) → slot_at after 0 ≡ with_message_in (slot_at s 0) sender value perm → ⊥
      runs = message_wakes is

      by_service : (x : Service) → BringsRequest x n s after → ⊥
      by_service service.Sync brings = runs (slot_at s n).id FSREQ_SYNC 0 brings.0
      by_service (service.OpenFile path mode) brings = runs (slot_at s n).id FSREQ_OPEN request_perm brings.0
      by_service (service.Remove path) brings = runs (slot_at s n).id FSREQ_REMOVE request_perm brings.0
      by_service (service.Seek fd offset) brings = runs (slot_at s n).id FSREQ_SEEK request_perm brings.0
      by_service (service.SetSize fd size) brings = runs (slot_at s n).id FSREQ_SET_SIZE request_perm brings.0
      by_service (service.Write fd va len) brings = runs (slot_at s n).id FSREQ_WRITE request_perm brings.0
      by_service (service.Read fd va len) brings = runs (slot_at s n).id FSREQ_READ request_perm brings.0
      by_service (service.Stat fd va) brings = runs (slot_at s n).id FSREQ_STAT request_perm brings.0
      by_service _ brings = brings

  -- ---- it is left alone

  -- how often the pages of its table's places are mapped tells who holds their files
  counts_tell : (c : AbstractState) → Stands after c → LeavesFiles a c → CountsTell after 0 c
  counts_tell c stands files = standing_counts_tell stands.0 after c stands.1 (files_are_apart a c d s k.serving files)

  left_whole : LeavesServer n s after → (c : AbstractState) → Stands after c → LeavesServed a c → SameClient a.server a c → ServesWhoAsked c →
      ServesAsAsked c → ServerStands d after c
  left_whole it c stands served ids who fits =
      let left = pages_left d n s after other live awake it working calm a h k in
      stands_kept (same_serving it.slot)
      (clients_serve a c d s after k.serving stands.1.in_order left served (counts_tell c stands served.leaves)).serving
      (lent_left d n s after other live awake it working calm a h k c stands served.server who) served.server ids who fits k

  pub whole_stays : (written : List ℕ) → Stays after a written → WholeStays (beside after (Some d)) a written
  whole_stays written stays = (stays.0, (stays.1, by_way (way a stays.1)))
    where
      by_way : LeavesOrAsks n s after → ServerStands d after a
      by_way (left_alone it) = left_whole it a stays.1 (leaves_itself a) (λ client is. refl) k.asked k.fits
      by_way (asked_it it) =
          let status = subst (λ (x : Server). IsServerStatus x (slot_at after 0)) (waits_idle it.waited) stays.1.1.server.status in
          absurd (asked_wakes it status.status)
      by_way (spawn_asked it) =
          let status = subst (λ (x : Server). IsServerStatus x (slot_at after 0)) (waits_idle it.waited) stays.1.1.server.status in
          absurd (message_wakes status.status (slot_at s n).id it.word request_perm it.brings.0)

  nobody_asks : (x : Slot) (request : Request) (y : Server) → y ≡ request_begun n request → IsServerStatus y x → x.status ≡ NotRunnable →
      {X : Type 0} → X
  nobody_asks x request y is status waits = by_request request (subst (λ (z : Server). IsServerStatus z x) is status)
    where
      none : {X : Type 0} → IsStatusFor x.status false → X
      none runs = absurd (subst (λ (z : Status). IsStatusFor z false) waits runs)

      by_request : {X : Type 0} → (r : Request) → IsServerStatus (request_begun n r) x → X
      by_request (act (open_path path mode) object) so = none so.0
      by_request (act _ object) so = none so.0
      by_request (seek name offset) so = none so.0

  -- what the file server has in the abstract system behind the step
  left_of : (c : AbstractState) → abs_step a n ≡ Some c → LeavesFiles a c × AsksOrLeaves a c n
  left_of c step =
      subst (λ (o : Option AbstractState). IfSome o (λ (x : AbstractState). LeavesFiles a x × AsksOrLeaves a x n)) step
      (clients_leave_files a n b below at)

  -- and itself, where it is left alone
  same_abstract : LeavesServer n s after → (c : AbstractState) → abs_step a n ≡ Some c → Stands after c → c.server ≡ a.server
  same_abstract it c step stands = by_way (left_of c step).1
    where
      by_way : AsksOrLeaves a c n → c.server ≡ a.server
      by_way (leaves same) = same
      by_way (asks request was now) =
          let waited = subst (λ (x : Server). IsServerStatus x (slot_at s 0)) was h.1.server.status in
          nobody_asks (slot_at after 0) request c.server now stands.1.server.status (ap (λ (x : Slot). x.status) it.slot ∙ waited.status)

  -- the client that it serves has the id that it had
  ids_kept : (c : AbstractState) → abs_step a n ≡ Some c → Stands after c → c.server ≡ a.server → SameClient a.server a c
  ids_kept c step stands same_server client is = by_slot (client == n) refl
    where
      it : HasClient a client
      it = client_is a k.asked client is

      then_it : HasClient c client
      then_it = client_is c (served_clients_stay a c n below k.asked step) client (ap (λ (x : Server). client_served x) same_server ∙ is)

      own : StandsForBorn h.0 s.spaces (slot_at s client) it.b
      own = born_at h.1 client it.b it.is

      then_own : StandsForBorn stands.0 after.spaces (slot_at after client) then_it.b
      then_own = born_at stands.1 client then_it.b then_it.is

      stood : IsRequesting (place_of (slot_at s client)) (view_of s.spaces (slot_at s client).directory) (slot_at s client) it.b
      stood =
          requesting (place_of (slot_at s client)) (view_of s.spaces (slot_at s client).directory) (slot_at s client) it.b own.at
          (requests it.b.phase it.has_asked)

      stands_so : IsRequesting (place_of (slot_at after client)) (view_of after.spaces (slot_at after client).directory) (slot_at after client)
          then_it.b
      stands_so =
          requesting (place_of (slot_at after client)) (view_of after.spaces (slot_at after client).directory) (slot_at after client) then_it.b then_own.at
          (requests then_it.b.phase then_it.has_asked)

      by_id : then_it.b.id ≡ it.b.id → slot_id (c.slots client) ≡ slot_id (a.slots client)
      by_id same = ap (λ (slot : AbstractSlot). slot_id slot) then_it.is ∙ same ∙ sym (ap (λ (slot : AbstractSlot). slot_id slot) it.is)

      itself : IsRequesting (place_of (slot_at s client)) (view_of s.spaces (slot_at s client).directory) (slot_at s client) it.b → client ≡ n →
          slot_id (c.slots client) ≡ slot_id (a.slots client)
      itself (asks_it of is id fd place_is self so) same =
          ap (λ (m : ℕ). slot_id (c.slots m)) same
          ∙ awaits_own of (asks_so of is) a c n it.b (slot_at s client).registers (ap (λ (m : ℕ). a.slots m) (sym same) ∙ it.is) so.awake so.program so.phase step
          ∙ sym (ap (λ (slot : AbstractSlot). slot_id slot) it.is)
      itself (expects of is id fd place_is self so) same =
          let blocked = (expects_so (view_of s.spaces (slot_at s client).directory) (slot_at s client) it.b of fd so).blocked in
          absurd (none-some c (sym (no_step a n it.b (ap (λ (m : ℕ). a.slots m) (sym same) ∙ it.is) blocked) ∙ step))
      itself (spawn_asks path argv to at so) same =
          let has = asked_so so in
          ap (λ (m : ℕ). slot_id (c.slots m)) same
          ∙ awaits_own (service.Spawn path argv) refl a c n it.b has.regs (ap (λ (m : ℕ). a.slots m) (sym same) ∙ it.is) has.awake has.program has.phase step
          ∙ sym (ap (λ (slot : AbstractSlot). slot_id slot) it.is)
      itself (spawn_expects path argv to at so) same =
          let blocked = (expected_so so).1.blocked in
          absurd (none-some c (sym (no_step a n it.b (ap (λ (m : ℕ). a.slots m) (sym same) ∙ it.is) blocked) ∙ step))

      by_slot : (t : Bool) → (client == n) ≡ t → slot_id (c.slots client) ≡ slot_id (a.slots client)
      by_slot true test = itself stood (grind (arith, nat_tests))
      by_slot false test =
          let ne : client ≢ n = grind (arith, nat_tests) in
          let same_place = places h.1.in_order stands.1.in_order live a h client ne (born_live own) (born_live then_own) in
          by_id (sym then_own.id ∙ sym (id_told stands_so) ∙ ap request_id same_place ∙ id_told stood ∙ own.id)

  -- ---- it is asked

  module _ (waited : AwaitsRequest (slot_at s 0)) (c : AbstractState) (step : abs_step a n ≡ Some c) (stands : Stands after c) where
    own : StandsForBorn h.0 s.spaces (slot_at s n) b
    own = born_at h.1 n b at

    idle_so : a.server ≡ idle
    idle_so = waits_idle waited

    left : LeavesFiles a c
    left = (left_of c step).0

    nobody : has_request s 0 ≡ false
    nobody = subst (λ (x : Server). HasLent x s) idle_so k.lent

    -- its table stands, over the disk
    table : TableStands (memory_in d s 0).disk a (view_in d s 0)
    table = (subst (λ (x : Server). ServesBy x d s 0 a) idle_so k.serving.serves).table

    -- By what it is asked for, the message that has come, and the page that has come with it, it stands.
    asked_for : (e : Born) → e.id ≡ b.id → (call : Service) (request : Request) (of : RequestKind) → c ≡ asked_state a n e call request →
        AsksBy call e.spawning request → client_served (request_begun n request) ≡ Some n → IsAsked s after 0 → HasRequested (request_begun n request) after 0 →
        AsksFor (asked_state a n e call request) (request_bytes after 0) of request → HasLent (request_begun n request) after →
        (value perm : ℕ) → slot_at after 0 ≡ with_message_in (slot_at s 0) (slot_at s n).id value perm → value ≡ requests_of.request_word of →
        ServerStands d after c
    asked_for e same_id call request of same by serves asked_so requested tells lent value perm slot value_is = record {
      serving = served.serving;
      twelve = ap (λ (x : Slot). length x.extra) slot ∙ k.twelve;
      brings = subst (λ (words : List ℕ). BringsOwn d (state_in words).place) (sym (ap (λ (x : Slot). x.extra) slot)) k.brings;
      client = λ m of.
          let same : n ≡ m = same_Some n m (sym (ap (λ (x : Server). client_served x) server_is ∙ serves) ∙ of) in
          subst (λ (x : ℕ). IsClient c x (client_id (step_of (slot_at after 0)) (slot_at after 0))) same client;
      asked = served_clients_stay a c n below k.asked step;
      fits = asked_fits c n (record e { phase = in_service call asked }) call request server_is own_slot refl by;
      lent = subst (λ (x : Server). HasLent x after) (sym server_is) lent;
    }
      where
        server_is : c.server ≡ request_begun n request
        server_is = ap (λ (x : AbstractState). x.server) same

        own_slot : c.slots n ≡ born (record e { phase = in_service call asked })
        own_slot = ap (λ (x : AbstractState). x.slots n) same ∙ upd-at a.slots n (born (record e { phase = in_service call asked }))

        sender_is : (slot_at after 0).rendezvous.sender ≡ (slot_at s n).id
        sender_is = ap (λ (x : Slot). x.rendezvous.sender) slot

        served : ServesOn d s after c server_at.ReadingKind
        served =
            asked_serves a c d s after n request of idle_so k.serving stands.1.in_order asked_so left.files server_is requested
            (subst (λ (x : AbstractState). AsksFor x (request_bytes after 0) of request) (sym same) tells)
            (ap (λ (x : Slot). x.rendezvous.value) slot ∙ value_is) (ap (λ (x : ℕ). x % NENV) sender_is ∙ h.1.tabled.ids n live)
            (tables_are_left (memory_in d s 0).disk a c d d s after 0 table (asked_table s after 0 asked_so) left (counts_tell c stands left))

        client : IsClient c n (client_id (step_of (slot_at after 0)) (slot_at after 0))
        client = subst (λ (x : ServerStep). IsClient c n (client_id x (slot_at after 0))) (sym served.at_step) (record {
          slot = sym (h.1.tabled.ids n live) ∙ ap (λ (x : ℕ). x % NENV) (sym sender_is);
          same = ap (λ (x : AbstractSlot). slot_id x) own_slot ∙ same_id ∙ sym own.id ∙ sym sender_is;
        })

    -- for sync
    asked_sync : (id : ℕ) → place_of (slot_at s n) ≡ place.InService service.Sync (step_at.Asking id) → BringsRequest service.Sync n s after →
        ServerStands d after c
    asked_sync id place_is brings =
        let asking : IsIn (slot_at s n) b service.Sync entered =
        (subst (λ (p : Place). StandsAt p (view_of s.spaces (slot_at s n).directory) (slot_at s n) b) place_is own.at).1 in
        asked_for b refl service.Sync (act sync_files None) kind.Sync
        (sync_asked a c n b (slot_at s n).registers idle_so at asking.awake asking.program asking.phase step) tt refl
        (asked_by_word d s after 0 (slot_at s n).id FSREQ_SYNC k.serving.stands brings.0 brings.1) (λ sends. absurd (false≢true sends)) syncs
        (word_request s after 0 (slot_at s n).id FSREQ_SYNC brings.0 brings.1 ∙ nobody) FSREQ_SYNC 0 brings.0 refl

    -- and by a page, which tells what it asks for
    asked_with : (e : Born) → e.id ≡ b.id → (call : Service) (of : RequestKind) (word : ℕ) → word ≡ requests_of.request_word of →
        asks_by_page (place_of (slot_at s n)) ≡ true →
        ((page : Entry) → rows_of s.spaces (slot_at s n).directory (page_number UTEMP) ≡ Some page →
        ((i : ℕ) → i < PGSIZE → request_bytes after 0 i ≡ slice_index (s.spaces.pages page.frame) i) → Asks a n e call of (request_bytes after 0)) →
        BringsWithPage word n s after → ServerStands d after c
    unfolding rows_of
    asked_with e same_id call of word word_is asks_so makes brings =
        asked_for e same_id call made.request of (sym (same_Some (asked_state a n e call made.request) c (sym made.asks ∙ step)))
        made.by made.served come.asked
        (requested_where after 0 (ap (λ (o : Option Entry). is_some o) come.entry) (request_begun n made.request)) made.tells
        (lent_begun after n made.request (subst (λ (t : Bool). IsLentBy t after n) (sym made.sends) lent)) word request_perm brings.0 word_is
      where
        gives : GivesPage n s after
        gives = brings.1

        come : IsAskedBy s after 0 gives.entry.frame
        come =
            asked_by_page d s after 0 (slot_at s n).id word request_perm (slot_at s n).directory (page_number UTEMP) gives.entry
            k.serving.stands stands.1.in_order brings.0 gives.stands gives.spaces lone
          where
            lone : (q : ℕ) (y : Entry) → is_server_page q ≡ true → entry_of s 0 q ≡ Some y → y.frame ≡ gives.entry.frame → q ≡ request_page
            lone q y servers y_is same = elim (cases_eq q request_page) [
              | inl here ↦ here
              | inr ne ↦
                  let beside : is_of_descriptor (page_number UTEMP) ≡ false = refl in
                  absurd (others_lack h.1 n other live q ne y y_is (page_number UTEMP) gives.entry beside gives.stands (sym same))
            ]

        made : Asks a n e call of (request_bytes after 0)
        made = makes (lasting gives.entry) (ap (option_map lasting) gives.stands) come.bytes

        home : (slot_at after n).directory ≡ (slot_at s n).directory
        home = calm.asks a h asks_so

        apart : (slot_at s n).directory ≢ (slot_at s 0).directory
        apart same = other (h.1.in_order.spaces.apart n 0 live (first_serves h.1).lives same)

        put_there : Placed s.spaces after.spaces (slot_at s 0).directory (page_number REQUEST) (record { frame = gives.entry.frame; perm = request_perm })
        put_there =
            (inserted_given s.spaces after.spaces (slot_at s 0).directory (page_number REQUEST)
            (record { frame = gives.entry.frame; perm = request_perm }) (slot_at s n).directory (page_number UTEMP) gives.entry h.1.in_order.frames
            stands.1.in_order.frames refl gives.stands refl gives.spaces).placed

        lent : IsLent after n
        lent = record {
          own = lasting gives.entry;
          kept = ap (λ (q : ℕ). rows_of after.spaces q (page_number UTEMP)) home
              ∙ (λ i. put_there.rows i (slot_at s n).directory (page_number UTEMP))
              ∙ put-other (rows_of s.spaces) (slot_at s 0).directory (page_number REQUEST) (Some (record { frame = gives.entry.frame; perm = request_perm }))
              (slot_at s n).directory (page_number UTEMP) (λ same. absurd (apart same))
              ∙ ap (option_map lasting) gives.stands;
          entry = lasting (record { frame = gives.entry.frame; perm = request_perm });
          stands = ap (option_map lasting) come.entry;
          same = refl;
        }

    asked_page : (call : Service) → brings_page call ≡ true → (id fd : ℕ) → place_of (slot_at s n) ≡ place.InService call (asking_step call id fd) →
        BringsWithPage (word_asked call) n s after → ServerStands d after c
    asked_page call is id fd place_is brings =
        asked_with b refl call (kind_asked call) (word_asked call) (word_of_kind call is) (ap asks_by_page place_is ∙ page_asks call is id fd)
        (λ page kept bytes.
        request_made h.1 n below b at idle_so page kept (request_bytes after 0) bytes
        (ap borne_in place_is ∙ brings_unborne call is (asking_step call id fd)) (ap is_calm place_is ∙ asking_calm call id fd) call fd there.1 there.2)
        brings
      where
        there : (id ≡ (slot_at s n).id) × IsBeside (rows_of s.spaces (slot_at s n).directory) call fd
            × TellsRequest (view_of s.spaces (slot_at s n).directory) (slot_at s n) b call
        there =
            told_asking (view_of s.spaces (slot_at s n).directory) (slot_at s n) b call is id fd
            (subst (λ (p : Place). StandsAt p (view_of s.spaces (slot_at s n).directory) (slot_at s n) b) place_is own.at)

    -- and by spawn: no file is so long that a place in it is none for the server
    short_file : (name : ℕ) (f : OpenFile) → is_held a name ≡ true → a.objects name ≡ file f → f.size < 2 ^ 31
    short_file name f held is =
        let found = table.held name f held is in
        let has = (table.places found.0 found.1).holds name found.2 held in
        subst (λ (o : Object). size_in o < 2 ^ 31) (sym has.is ∙ is) has.sized
      where
        size_in : Object → ℕ
        size_in (file g) = g.size
        size_in _ = 0

    spawn_asks_page : (from : SpawnStep) (word : ℕ) → spawn_asks_by from ≡ Some word → spawn_asks_at from ≡ true
    spawn_asks_page (spawn.Opening (opening_step.OpenAsking esp fd id)) word is = refl
    spawn_asks_page (spawn.Reading wanted (read.Asking id)) word is = refl
    spawn_asks_page _ word is = absurd (none-some word is)

    asked_by_spawn : (path argv : ℕ) (from : SpawnStep) (word : ℕ) → spawn_asks_by from ≡ Some word →
        place_of (slot_at s n) ≡ spawns_at path argv from → BringsWithPage word n s after → ServerStands d after c
    asked_by_spawn path argv from word asks_so place_is brings =
        asked_with (with_spawning b (found_at (view_of s.spaces (slot_at s n).directory) (slot_at s n) b path argv from there)) refl (service.Spawn path argv) (spawn_kind from) word (spawn_word from word asks_so)
        (ap asks_by_page place_is ∙ spawn_asks_page from word asks_so)
        (λ page kept bytes.
        spawn_made h.1 n below b at idle_so page kept (request_bytes after 0) bytes path argv short_file from word asks_so place_is there)
        brings
      where
        there : StandsAtSpawn (view_of s.spaces (slot_at s n).directory) (slot_at s n) b path argv from
        there = subst (λ (p : Place). StandsAt p (view_of s.spaces (slot_at s n).directory) (slot_at s n) b) place_is own.at

    -- by each service
    asked_whole : (x : Service) (id fd : ℕ) → place_of (slot_at s n) ≡ place.InService x (asking_step x id fd) → BringsRequest x n s after →
        ServerStands d after c
    asked_whole service.Sync id fd place_is brings = asked_sync id place_is brings
    asked_whole (service.OpenFile path mode) id fd place_is brings = asked_page (service.OpenFile path mode) refl id fd place_is brings
    asked_whole (service.Remove path) id fd place_is brings = asked_page (service.Remove path) refl id fd place_is brings
    asked_whole (service.Seek given offset) id fd place_is brings = asked_page (service.Seek given offset) refl id fd place_is brings
    asked_whole (service.SetSize given size) id fd place_is brings = asked_page (service.SetSize given size) refl id fd place_is brings
    asked_whole (service.Write given va len) id fd place_is brings = asked_page (service.Write given va len) refl id fd place_is brings
    asked_whole (service.Read given va len) id fd place_is brings = asked_page (service.Read given va len) refl id fd place_is brings
    asked_whole (service.Stat given va) id fd place_is brings = asked_page (service.Stat given va) refl id fd place_is brings
    asked_whole _ id fd place_is brings = absurd brings

  pub whole_goes_on : (written : List ℕ) → GoesOn n after a written → WholeGoesOn n (beside after (Some d)) a written
  whole_goes_on written goes = (goes.0, goes.1, goes.2, (goes.3, by_way (way goes.0 goes.3)))
    where
      by_way : LeavesOrAsks n s after → ServerStands d after goes.0
      by_way (left_alone it) =
          let same = same_abstract it goes.0 goes.1 goes.3 in
          left_whole it goes.0 goes.3 (clients_leave_served a goes.0 n b below at k.asked goes.1 same) (ids_kept goes.0 goes.1 goes.3 same)
          (served_clients_stay a goes.0 n below k.asked goes.1) (client_fits a goes.0 n b at k.asked k.fits goes.1 same)
      by_way (asked_it it) = asked_whole it.waited goes.0 goes.1 goes.3 it.by_service it.id it.fd it.at it.brings
      by_way (spawn_asked it) = asked_by_spawn it.waited goes.0 goes.1 goes.3 it.path it.argv it.from it.word it.asks it.at it.brings

-- A step of one that is RUNNING keeps what the library's steps promise.
abbrev pub KeepsRunning : Progress → ℕ → KernelState → KernelState → List ℕ → Type 0
KeepsRunning done n before after written =
    (a : AbstractState) → Stands before a → is_running (slot_at before n).status ≡ true → NothingRefused before after →
    AbstractFollows done n after a written

-- So it keeps the whole.
pub whole_kept : (disk : Option Disk) (n : ℕ) (s after : KernelState) (done : Progress) (written : List ℕ) → is_servers s n ≡ false →
    is_awake (slot_at s n).status ≡ true → ((names : Names) (a : AbstractState) → StandsFor names s a → n ≢ 0 → (b : Born) × (a.slots n ≡ born b)) →
    LeavesEach done n s after → RequestsCalmly n s after → KeepsRunning done n s after written →
    KeepsWhole done n (beside s disk) (beside after disk) written
whole_kept None n s after done written user awake who left_each calm keeps a h may none_refused = absurd h.1
whole_kept (Some d) n s after done written user awake who left_each calm keeps a h may none_refused =
    by_done done (keeps a h.0 (may (others_slot h.0.1 n user)) none_refused)
  where
    other : n ≢ 0
    other = others_slot h.0.1 n user

    b : (x : Born) × (a.slots n ≡ born x)
    b = who h.0.0 a h.0.1 other

    live : is_live (slot_at s n) ≡ true
    live = born_live (born_at h.0.1 n b.0 b.1)

    stays_so : Stays after a written → WholeStays (beside after (Some d)) a written
    stays_so stays =
        whole_stays d n s after other live awake left_each.server left_each.places left_each.working calm a h.0 h.1 b.0 b.1 written stays

    goes_so : GoesOn n after a written → WholeGoesOn n (beside after (Some d)) a written
    goes_so goes =
        whole_goes_on d n s after other live awake left_each.server left_each.places left_each.working calm a h.0 h.1 b.0 b.1 written goes

    by_done : (x : Progress) → AbstractFollows x n after a written → WholeFollows x n (beside after (Some d)) a written
    by_done progress.Hidden stays = stays_so stays
    by_done progress.Waited stays = (stays_so stays.0, stays.1)
    by_done progress.Visible goes = goes_so goes
    by_done progress.Finished goes = goes_so goes
    by_done progress.Ended goes = goes_so goes
