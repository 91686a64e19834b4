-- Turns of the file server: where one begins, and that others stay live in it.
use Rattle.std.proofs.Common.{◌≡◌, ◌≢◌, ◌∙◌, ℕ, ◌+◌, ◌%◌, ◌^◌, ◌<◌, ◌≤◌, ◌==◌, Bool, true, false, not, nat_lt, if◌then◌else◌, List}
use Rattle.std.proofs.Common.{[], Option, Some, None, refl, sym, ap, subst, arith}
use Rattle.std.specs.Prelude.{unwrap_or}
use Rattle.jos_base.specs.declared.environment.EnvType.TheVariants.{User}
use Rattle.jos_base.specs.declared.environment.Status.{Status}
use Rattle.jos_base.specs.declared.environment.Status.TheVariants.{NotRunnable, Running}
use Rattle.jos_base.specs.declared.numbers.TheConstants.{FIRST_ENV_ID, NENV}
use Rattle.jos_base.specs.Environments.{Slot, is_live, is_running}
use Rattle.jos_base.specs.KernelState.{KernelState, slot_at, turn_begun}
use Rattle.jos_base.specs.SpacesState.{SpacesState}
use Rattle.jos_base.specs.Words.{upd}
use Rattle.lib_os.specs.AbstractState.{AbstractState, AbstractSlot, Born, free, born, unborn, serving, Server, idle, leaving, looking, busy, acted, act, seek, is_idle}
use Rattle.lib_os.specs.AbstractState.{Object, Request, file, read_end, terminal, write_end}
use Rattle.lib_os.specs.declared.numbers.TheConstants.{MAXOPEN}
use Rattle.lib_os.specs.AbstractState.{Phase, in_service, awaiting, replied, with_born}
use Rattle.lib_os.specs.PipeEnds.{EndsStandAt, locked_at}
use Rattle.lib_os.specs.Places.{place_of}
use Rattle.lib_os.specs.Rows.{Names, counted, is_clients, logical, logical_by, rows_of}
use Rattle.lib_os.specs.StandsFor.{StandsFor, StandsForSlot, StandsForServer, IsServerStatus}
use Rattle.lib_os.proofs.Children.{BearsNone, children_kept}
use Rattle.lib_os.proofs.EntriesStand.{rows_same, rows_stand, rows_turned}
use Rattle.lib_os.proofs.PipesStand.{locks_same}
use Rattle.lib_os.proofs.SlotsStand.{SeenAlike}
use Rattle.lib_os.proofs.StatesStand.{server_same, slot_in_order, turns_set}
use Rattle.lib_os.specs.declared.progress.Progress.{Progress}
use Rattle.lib_os.specs.declared.progress.Progress.TheVariants as progress
use Rattle.lib_os.specs.AbstractRun.{abs_step, slot_step}
use Rattle.fs_layout.specs.FileActs.{Acted, file_act, file_named}
use Rattle.fs_layout.specs.FileTree.{FileAct, open_path, read_file, remove_path, set_file_size, stat_file, sync_files, write_file}
use Rattle.lib_os.specs.Descriptors.{lowest_free}
use Rattle.lib_os.specs.FileServer.{act_done, after_act, file_opened, given, is_count, is_held_by, is_file_open, looked, low_mode, moved_on, offset_in}
use Rattle.lib_os.specs.FileServer.{reply, reply_at, reply_to, served, server_step, with_offset_of}
use Rattle.lib_os.specs.GuestStep.{born_in}
use Rattle.lib_os.specs.LibrarySteps.{NothingRefused}
use Rattle.std.proofs.lemmas.Option.{none-some, same_Some}
use Rattle.jos_base.specs.Below.{some_below}
use Rattle.jos_run.specs.AbstractTurns.{any_live, is_client}
use Rattle.jos_run.specs.LibraryRuns.{others_live}
use Rattle.jos_run.specs.ServerStands.{KeepsWhole, StandsWhole, WholeFollows, WholeGoesOn, WholeStays}
use Rattle.jos_run.specs.Worlds.{World}
use Rattle.jos_run.proofs.Choices.{any_live_stands, only_first_serves}
use Rattle.jos_base.proofs.Maps.{upd-alike, upd-all, upd-at, upd-other}

same_space : (names : Names) (sp : SpacesState) (d : ℕ) → SeenAlike names names sp sp d
same_space names sp d = record {
  rows = refl;
  bytes = λ p x is own_page. refl;
  named_so = λ p x is shared_page. refl;
  devices = λ p x descriptor is shared_page. refl;
  pipes = λ p x pipes is shared_page. refl;
  regions = λ r. refl;
}

bears_none : (k : Slot) (slot : AbstractSlot) (id : ℕ) → slot ≡ serving id → BearsNone k slot
bears_none k slot id is = record {
  bears = λ b at. let contradiction : serving id ≡ born b = sym is ∙ at in absurd cc;
  no_child = λ child parent at. let contradiction : serving id ≡ unborn child parent = sym is ∙ at in absurd cc;
}

-- where it does not wait for a request
pub server_begun_stands : {names : Names} {s : KernelState} {a : AbstractState} → StandsFor names s a → is_idle a.server ≡ false →
    ((m : ℕ) → is_running (slot_at s m).status ≡ false) → s.turns + 1 < 2 ^ 32 →
    StandsFor names (turn_begun s 0) (record a { last = Some 0; turns = a.turns + 1 })
server_begun_stands {names = names} {s = s} {a = a} h busy_now none few =
    let rows = rows_turned (ap (λ (x : Slot). rows_of s.spaces x.directory) (upd-at s.environments.slots 0 k))
    (rows_same (logical s.spaces s.environments.slots) (logical s.spaces (upd s.environments.slots 0 k)) counts (rows_stand h)) in
    record {
      slots = upd-all (λ m (x : Slot). StandsForSlot names s.spaces x (a.slots m)) s.environments.slots 0 k
          (subst (λ (y : AbstractSlot). StandsForSlot names s.spaces k y) (sym h.first) begun) (λ m ne. h.slots m);
      children = children_kept h.children 0 (λ m ne. upd-other s.environments.slots 0 k m ne) (λ m ne. refl)
          (λ m ne live. same_space names s.spaces (slot_at s m).directory) (bears_none (slot_at s 0) (a.slots 0) FIRST_ENV_ID h.first)
          (bears_none (upd s.environments.slots 0 k 0) (a.slots 0) FIRST_ENV_ID h.first);
      apart = rows.apart;
      named = rows.named;
      users = rows.users;
      whole = rows.whole;
      beside = rows.beside;
      ends = upd-all (λ m (x : Slot). EndsStandAt names a.objects (place_of x) (rows_of s.spaces x.directory) (a.slots m)) s.environments.slots 0 k
          (h.ends 0) (λ m ne. h.ends m);
      locks = locks_same (upd-alike (λ (x : Slot). locked_at (place_of x)) s.environments.slots 0 k refl) (λ m p is. counts m p)
          (λ m p x is stands shared_page. refl) h.locks;
      runs = turns_set s.environments.slots 0 k (λ m. let was = h.runs m in omega (arith, was)) own_runs;
      old = h.old;
      free_slots = h.free_slots;
      first = h.first;
      server = server_same (upd-at s.environments.slots 0 k)
          (record { status = ready; pages = h.server.pages; tables = h.server.tables; alone = h.server.alone });
      input = h.input;
      last = refl;
      turns = ap (λ (t : ℕ). t + 1) h.turns;
      tabled = record {
        ids = λ m. (at_turn m).0;
        servers = λ m. (at_turn m).1;
        running = λ m. (at_turn m).2;
      };
      in_order = let order = slot_in_order s 0 k (begun.lives ∙ sym so.lives) refl h.in_order in
          record { frames = order.frames; spaces = order.spaces };
    }
  where
    k : Slot
    k = record (slot_at s 0) { status = Running; runs = ((slot_at s 0).runs + 1) % 2 ^ 32 }

    so : StandsForServer (slot_at s 0) FIRST_ENV_ID
    so = subst (λ (slot : AbstractSlot). StandsForSlot names s.spaces (slot_at s 0) slot) h.first (h.slots 0)

    begun : StandsForServer k FIRST_ENV_ID
    begun = record {
      first = so.first;
      id_is = so.id_is;
      lives = refl;
      parent = so.parent;
      env_type = so.env_type;
      words = so.words;
      stack = so.stack;
    }

    ready : IsServerStatus a.server k
    ready = by_server a.server busy_now h.server.status
      where
        by_server : (server : Server) → is_idle server ≡ false → IsServerStatus server (slot_at s 0) → IsServerStatus server k
        by_server idle none is = absurd (let contradiction : true ≡ false = none in cc)
        by_server leaving none is = (tt, is.1)
        by_server (looking client request number) none is = (tt, is.1)
        by_server (busy client request place) none is = (tt, is.1)
        by_server (acted client answer bytes object) none is = (tt, is.1)

    own_runs : k.runs ≤ s.turns + 1
    own_runs =
        let few_own = h.runs 0 in
        let one_more : ((slot_at s 0).runs + 1) % 2 ^ 32 ≡ (slot_at s 0).runs + 1 = grind (arith, few, few_own) in
        omega (arith, one_more, few_own)

    counts : (m p : ℕ) → logical s.spaces (upd s.environments.slots 0 k) m p ≡ logical s.spaces s.environments.slots m p
    counts =
        upd-all (λ m (x : Slot). (p : ℕ) → logical_by (is_clients m x) (counted (place_of x) (rows_of s.spaces x.directory)) p
        ≡ logical s.spaces s.environments.slots m p) s.environments.slots 0 k (λ p. refl) (λ m ne p. refl)

    at_turn : (m : ℕ) → (is_live (upd s.environments.slots 0 k m) ≡ true → (upd s.environments.slots 0 k m).id % NENV ≡ m)
        × (m ≢ 0 → (upd s.environments.slots 0 k m).env_type ≡ User)
        × (is_running (upd s.environments.slots 0 k m).status ≡ true → Some 0 ≡ Some m)
    at_turn =
        upd-all (λ m (x : Slot). (is_live x ≡ true → x.id % NENV ≡ m) × (m ≢ 0 → x.env_type ≡ User) × (is_running x.status ≡ true → Some 0 ≡ Some m))
        s.environments.slots 0 k ((λ is. h.tabled.ids 0 so.lives), (λ other. h.tabled.servers 0 other), (λ is. refl))
        (λ m ne. (h.tabled.ids m, h.tabled.servers m, (λ is. absurd (let contradiction : false ≡ true = sym (none m) ∙ is in cc))))

-- ---- its step

-- Where it may run it does not wait for a request.
pub awake_serves : {names : Names} {s : KernelState} {a : AbstractState} → StandsFor names s a → ((slot_at s 0).status ≡ NotRunnable → ⊥) →
    is_idle a.server ≡ false
awake_serves {s = s} {a = a} h awake = by_server a.server h.server.status
  where
    by_server : (server : Server) → IsServerStatus server (slot_at s 0) → is_idle server ≡ false
    by_server idle is = absurd (awake is.status)
    by_server leaving is = refl
    by_server (looking client request number) is = refl
    by_server (busy client request place) is = refl
    by_server (acted client answer bytes object) is = refl

pub running_serves : {names : Names} {s : KernelState} {a : AbstractState} → StandsFor names s a → is_running (slot_at s 0).status ≡ true →
    is_idle a.server ≡ false
running_serves h runs =
    awake_serves h (λ is. let contradiction : true ≡ false = sym runs ∙ ap (λ (x : Status). is_running x) is in cc)

-- Its step leaves it open who is there: a client that has its reply is there still.
replied_alike : (a b : AbstractState) (client answer : ℕ) (bytes : List ℕ) (object : Option ℕ) (o : Option Born) → born_in (a.slots client) ≡ o →
    reply a client answer bytes object o ≡ Some b → (n : ℕ) → is_client (b.slots n) ≡ is_client (a.slots n)
replied_alike a b client answer bytes object None there is n =
    let same : ◌≡◌ {A = Option AbstractState} (Some (record a { server = leaving })) (Some b) = is in
    ap (λ (o : Option AbstractState). is_client ((unwrap_or o a).slots n)) (sym same)
replied_alike a b client answer bytes object (Some c) there is n = by_phase c.phase is
  where
    was : is_client (a.slots client) ≡ true
    was = by_slot (a.slots client) there
      where
        by_slot : (slot : AbstractSlot) → born_in slot ≡ Some c → is_client slot ≡ true
        by_slot (born x) same = refl
        by_slot (free id) same = absurd (none-some c same)
        by_slot (unborn id parent) same = absurd (none-some c same)
        by_slot (serving id) same = absurd (none-some c same)

    alike : (x : AbstractState) → (d : Born) → x ≡ with_born (record a { server = leaving }) client d → is_client (x.slots n) ≡ is_client (a.slots n)
    alike x d same =
        ap (λ (y : AbstractState). is_client (y.slots n)) same
        ∙ upd-all (λ m (slot : AbstractSlot). is_client slot ≡ is_client (a.slots m)) a.slots client (born d) (sym was) (λ m ne. refl) n

    by_phase : (p : Phase) → reply_at a client c answer bytes object p ≡ Some b → is_client (b.slots n) ≡ is_client (a.slots n)
    by_phase (in_service service awaiting) same =
        let to = given c object (lowest_free c) answer in
        alike b (record to.0 { phase = in_service service (replied bytes to.1); blocked = false })
        (same_Some b (reply_to a client service bytes to) (sym same))
    by_phase _ same = absurd (none-some b same)

-- what it looks at and what it acts leaves the slots
either_slots : (t : Bool) (a x y : AbstractState) → x.slots ≡ a.slots → y.slots ≡ a.slots → (if t then x else y).slots ≡ a.slots
either_slots true a x y first second = first
either_slots false a x y first second = second

looked_slots : (a : AbstractState) (client : ℕ) (request : Request) (place : ℕ) → (looked a client request place).slots ≡ a.slots
looked_slots a client request place =
    either_slots (not (is_held_by a (a.opened place).held_by)) a _ _ refl (either_slots (nat_lt (place + 1) MAXOPEN) a _ _ refl refl)

offset_slots : (a : AbstractState) (name offset : ℕ) (o : Object) → (with_offset_of a name offset o).slots ≡ a.slots
offset_slots a name offset (file f) = refl
offset_slots a name offset terminal = refl
offset_slots a name offset (read_end pipe) = refl
offset_slots a name offset (write_end pipe) = refl

moved_slots : (a : AbstractState) (object : Option ℕ) (answer : ℕ) → (moved_on a object answer).slots ≡ a.slots
moved_slots a None answer = refl
moved_slots a (Some name) answer =
    either_slots (is_count answer) a _ a (offset_slots a name (offset_in (a.objects name) + answer) (a.objects name)) refl

opened_slots : (a : AbstractState) (client answer : ℕ) (place : Option ℕ) (way : Option (List ℕ)) (mode : ℕ) →
    (file_opened a client answer place way mode).slots ≡ a.slots
opened_slots a client answer place None mode = refl
opened_slots a client answer None (Some way) mode = refl
opened_slots a client answer (Some place) (Some way) mode = refl

act_slots : (a : AbstractState) (client : ℕ) (f : FileAct) (object place : Option ℕ) (did : Acted) →
    (after_act a client f object place did).slots ≡ a.slots
act_slots a client (open_path path mode) object place did =
    either_slots (did.answer == 0) a _ _
    (opened_slots (record a { files = did.files }) client 0 place (file_named did.files path) (low_mode mode)) refl
act_slots a client (read_file way at count) object place did =
    moved_slots (record a { files = did.files; server = acted client did.answer did.bytes None }) object did.answer
act_slots a client (write_file way at bytes) object place did =
    moved_slots (record a { files = did.files; server = acted client did.answer did.bytes None }) object did.answer
act_slots a client (set_file_size way size) object place did =
    moved_slots (record a { files = did.files; server = acted client did.answer did.bytes None }) object did.answer
act_slots a client (stat_file way) object place did =
    moved_slots (record a { files = did.files; server = acted client did.answer did.bytes None }) object did.answer
act_slots a client (remove_path path) object place did =
    moved_slots (record a { files = did.files; server = acted client did.answer did.bytes None }) object did.answer
act_slots a client sync_files object place did =
    moved_slots (record a { files = did.files; server = acted client did.answer did.bytes None }) object did.answer

done_slots : (a : AbstractState) (client : ℕ) (request : Request) (place : Option ℕ) → (act_done a client request place).slots ≡ a.slots
done_slots a client (act f object) place = act_slots a client f object place (file_act (is_file_open a) a.files f)
done_slots a client (seek name offset) place =
    offset_slots (record a { server = acted client 0 [] None }) name offset (a.objects name)

served_alike : (a b : AbstractState) (server : Server) → served a server ≡ Some b → (n : ℕ) → is_client (b.slots n) ≡ is_client (a.slots n)
served_alike a b leaving step n = ap (λ (o : Option AbstractState). is_client ((unwrap_or o a).slots n)) (sym step)
served_alike a b idle step n = absurd (none-some b step)
served_alike a b (looking client request place) step n =
    ap (λ (o : Option AbstractState). is_client ((unwrap_or o a).slots n)) (sym step)
    ∙ ap (λ (slots : ℕ → AbstractSlot). is_client (slots n)) (looked_slots a client request place)
served_alike a b (busy client request place) step n =
    ap (λ (o : Option AbstractState). is_client ((unwrap_or o a).slots n)) (sym step)
    ∙ ap (λ (slots : ℕ → AbstractSlot). is_client (slots n)) (done_slots a client request place)
served_alike a b (acted client answer bytes object) step n =
    replied_alike a b client answer bytes object (born_in (a.slots client)) refl step n

server_leaves : (a b : AbstractState) (id : ℕ) → a.slots 0 ≡ serving id → abs_step a 0 ≡ Some b → any_live b ≡ any_live a
unfolding abs_step server_step
server_leaves a b id first step =
    let alike = served_alike a b a.server (sym (ap (λ (slot : AbstractSlot). slot_step a 0 slot) first) ∙ step) in
    λ i. some_below NENV (λ n. alike n i)

-- Where another environment is there, it is there still behind a step of the file server.
pub server_others : (n : ℕ) (w after : World) (done : Progress) (bytes : List ℕ) → n ≡ 0 → (a : AbstractState) → StandsWhole w a →
    NothingRefused w.state after.state → KeepsWhole done n w after bytes → others_live w.state ≡ true → others_live after.state ≡ true
server_others n w after done bytes is_first a h none_refused keeps live = by_done done (keeps a h (λ other. absurd (other is_first)) none_refused)
  where
    stood : any_live a ≡ true
    stood = any_live_stands h.0.1 (only_first_serves h.0.1) ∙ live

    stays : WholeStays after a bytes → others_live after.state ≡ true
    stays x = sym (any_live_stands x.1.0.1 (only_first_serves x.1.0.1)) ∙ stood

    goes_on : WholeGoesOn n after a bytes → others_live after.state ≡ true
    goes_on x =
        sym (any_live_stands x.3.0.1 (only_first_serves x.3.0.1))
        ∙ server_leaves a x.0 FIRST_ENV_ID h.0.1.first (ap (λ (m : ℕ). abs_step a m) (sym is_first) ∙ x.1)
        ∙ stood

    by_done : (d : Progress) → WholeFollows d n after a bytes → others_live after.state ≡ true
    by_done progress.Hidden x = stays x
    by_done progress.Waited x = stays x.0
    by_done progress.Visible x = goes_on x
    by_done progress.Finished x = goes_on x
    by_done progress.Ended x = goes_on x
