-- Spawn, which has asked the file server, begins to wait for the reply: for its file, whose page is put where that of its descriptor is, or for a part of that, with which
-- no page comes.
use Rattle.std.proofs.Common.{◌≡◌, ◌∙◌, ◌+◌, ◌*◌, ◌%◌, ◌==◌, ◌&&◌, ℕ, Bool, true, false, not, List, [], ◌∷◌, Some, refl, sym, ap, subst, arith}
use Rattle.std.proofs.Common.{if◌then◌else◌}
use Rattle.std.specs.Prelude.{nat_lt}
use Rattle.jos_base.specs.declared.called.Called.{Called}
use Rattle.jos_base.specs.declared.called.Called.TheVariants.{Blocked}
use Rattle.jos_base.specs.declared.environment.Status.TheVariants.{NotRunnable}
use Rattle.jos_base.specs.declared.numbers.TheConstants.{FDTABLE, FIRST_ENV_ID, PGSIZE, SYS_IPC_RECV, UTOP}
use Rattle.jos_base.specs.declared.registers.Regs.{Regs}
use Rattle.jos_base.specs.Environments.{Slot}
use Rattle.jos_base.specs.KernelState.{KernelState, slot_at, with_extra, with_slot_at}
use Rattle.jos_base.specs.Messages.{wanting}
use Rattle.lib_os.specs.declared.numbers.TheConstants.{DESCRIPTORS, SERVICE_SPAWN}
use Rattle.lib_os.specs.declared.place.Place.{Place}
use Rattle.lib_os.specs.declared.place.Place.TheVariants as place
use Rattle.lib_os.specs.declared.place.Step.TheVariants as step
use Rattle.lib_os.specs.declared.progress.Progress.TheVariants as progress
use Rattle.lib_os.specs.declared.service.Service.{Service}
use Rattle.lib_os.specs.declared.service.Service.TheVariants as service
use Rattle.lib_os.specs.declared.spawn_steps.FilePart.{FilePart}
use Rattle.lib_os.specs.declared.spawn_steps.OpeningStep.TheVariants as opening_step
use Rattle.lib_os.specs.declared.spawn_steps.ReadStep.TheVariants as read
use Rattle.lib_os.specs.declared.spawn_steps.SpawnStep.{SpawnStep}
use Rattle.lib_os.specs.declared.spawn_steps.SpawnStep.TheVariants as spawn
use Rattle.lib_os.specs.AbstractRun.{abs_step}
use Rattle.lib_os.specs.AbstractSpawn.{spawn_step}
use Rattle.lib_os.specs.AbstractState.{AbstractState, Born, Phase, Spawning, asked, awaiting, heading, in_service, opening, tabling}
use Rattle.lib_os.specs.FileServer.{await_reply}
use Rattle.lib_os.specs.LibraryCall.{library_step}
use Rattle.lib_os.specs.LibraryPages.{View, has_copy}
use Rattle.lib_os.specs.LibrarySteps.{KeepsStanding}
use Rattle.lib_os.specs.Places.{place_of}
use Rattle.lib_os.specs.Rows.{Names, rows_of}
use Rattle.lib_os.specs.SpawnedChild.{Loads, bytes_replied, spawning_child}
use Rattle.lib_os.specs.StandsAtSpawn.{IsFor, StandsAtSpawn, awaits_bytes, awaits_file, destination_at, for_header, for_piece, for_table}
use Rattle.lib_os.specs.StandsFor.{StandsAt, StandsFor, StandsForBorn, upcall_at, view_of}
use Rattle.lib_os.specs.UserCalls.{CallStep, got, system}
use Rattle.lib_os.proofs.Calls.{ipc_recv_is, receives_at, waits_is}
use Rattle.lib_os.proofs.Numbered.{named_at}
use Rattle.lib_os.proofs.PipesStand.{calm_places, descriptors_turned, is_calm}
use Rattle.lib_os.proofs.Serving.{IsServed, holds_page, library_moved, pages_kept, plain_copy, plain_upcall, plain_working, printed_nothing, service_step}
use Rattle.lib_os.proofs.Slots.{words_put}
use Rattle.lib_os.proofs.SlotsStand.{born_live}
use Rattle.lib_os.proofs.SpawnOwnPages.{spawn_there, spawn_words, spawns_at}
use Rattle.lib_os.proofs.SpawnReplies.{for_again}
use Rattle.lib_os.proofs.SpawnWaits.{SpawnHasAsked, asked_so, asks_file, asks_part}
use Rattle.lib_os.proofs.SpawnedTurns.{KeepsBearing, LoadsOn, turned_children, turned_counts}
use Rattle.lib_os.proofs.StatesStand.{slot_becomes, stopped_settles}
use Rattle.lib_os.proofs.WordsTell.{is_in_handler, place_at}

-- ---- where it waits

-- the step at which it waits, behind the one at which it has asked
abbrev pub behind_asked : SpawnStep → SpawnStep
behind_asked (spawn.Opening (opening_step.OpenAwaiting esp fd id)) = spawn.Opening (opening_step.ReadingOpened esp fd id)
behind_asked (spawn.Reading wanted (read.Awaiting id)) = spawn.Reading wanted (read.ReadingReply id)
behind_asked at = at

-- and where a page that comes is put
abbrev pub destination_of : SpawnStep → ℕ
destination_of (spawn.Opening (opening_step.OpenAwaiting esp fd id)) = destination_at fd
destination_of _ = UTOP

destination_receives : (at : SpawnStep) → (nat_lt (destination_of at) UTOP && not (destination_of at % PGSIZE == 0)) ≡ false
destination_receives (spawn.Opening (opening_step.OpenAwaiting esp fd id)) = by_free (nat_lt fd DESCRIPTORS)
  where
    by_free : (c : Bool) → (nat_lt (if c then FDTABLE + PGSIZE * fd else UTOP) UTOP && not ((if c then FDTABLE + PGSIZE * fd else UTOP) % PGSIZE == 0)) ≡ false
    by_free true = receives_at (FDTABLE + PGSIZE * fd) (omega arith)
    by_free false = refl
destination_receives _ = refl

-- its slot, and the environment
abbrev pub spawn_waiting_slot : Slot → SpawnStep → Slot
spawn_waiting_slot k from = record k {
  rendezvous = wanting k.rendezvous (destination_of from) FIRST_ENV_ID;
  status = NotRunnable;
  extra = spawn_words (behind_asked from);
}

abbrev pub spawn_waiting : Born → ℕ → ℕ → Born
spawn_waiting b path argv = record b { phase = in_service (service.Spawn path argv) awaiting; blocked = true }

module _ (v : View) (k : Slot) (b : Born) (path argv : ℕ) where
  -- what it has asked for
  for_found : (wanted : FilePart) (count : ℕ) → IsFor v b wanted count → (found : Spawning) × (b.spawning ≡ Some found)
  for_found _ _ (for_header esp fd size words found sized stack long) = (heading fd words, found)
  for_found _ _ (for_table esp fd size entry_point headers place words header found sized stack begins many few) = (tabling fd words header, found)
  for_found _ _ (for_piece fd headers child header done end place image pieces found of_file whole below left come next sized) = (_, found)

  pub asked_found : (at : SpawnStep) → SpawnHasAsked v k b path argv at → (found : Spawning) × (b.spawning ≡ Some found)
  asked_found _ (asks_file esp fd id self so) = (opening so.words, so.found.is)
  asked_found _ (asks_part wanted id self so) = for_found wanted so.count so.so

  pub waits_there : (at : SpawnStep) → SpawnHasAsked v k b path argv at →
      StandsAtSpawn v (spawn_waiting_slot k at) (spawn_waiting b path argv) path argv (behind_asked at)
  waits_there _ (asks_file esp fd id self so) = (
    self,
    record {
      words = so.words;
      stack = so.stack;
      so = awaits_file (record {
        regs = so.found.is_in.regs;
        program = so.found.is_in.program;
        eax = so.found.is_in.eax;
        registers = so.found.is_in.registers;
        phase = refl;
        blocked = refl;
        receives = refl;
        wanted = refl;
        destination_is = refl;
      }) so.found.is so.free;
    },
  )
  waits_there _ (asks_part wanted id self so) = (
    self,
    record {
      count = so.count;
      so = for_again (spawn_waiting b path argv) refl wanted so.count so.so;
      awaits = awaits_bytes (record {
        regs = so.is_in.regs;
        program = so.is_in.program;
        eax = so.is_in.eax;
        registers = so.is_in.registers;
        phase = refl;
        blocked = refl;
        receives = refl;
        wanted = refl;
        destination_is = refl;
      });
    },
  )

-- ---- it begins to wait

waits_asked : (a : AbstractState) (n : ℕ) (b : Born) (regs : Regs) (path argv : ℕ) (found : Spawning) → b.spawning ≡ Some found →
    library_step a n b regs (service.Spawn path argv) asked ≡ Some (await_reply a n b (service.Spawn path argv))
unfolding library_step spawn_step
waits_asked a n b regs path argv found is = rw is refl

module _ {names : Names} {s : KernelState} {a : AbstractState} (h : StandsFor names s a) (n path argv : ℕ) (from : SpawnStep)
    (stands : place_of (slot_at s n) ≡ spawns_at path argv from)
    (has : SpawnHasAsked (view_of s.spaces (slot_at s n).directory) (slot_at s n) (spawn_there h n path argv from stands).b path argv from)
    (keeps : KeepsBearing from (behind_asked from))
    (held : holds_page (spawns_at path argv from) ≡ holds_page (spawns_at path argv (behind_asked from))) where
  abbrev k : Slot
  k = slot_at s n

  abbrev v : IsServed names s a n (service.Spawn path argv) (step.Spawning from)
  v = spawn_there h n path argv from stands

  abbrev to : SpawnStep
  to = behind_asked from

  -- its step
  waiting_step : abs_step a n ≡ Some (await_reply a n v.b (service.Spawn path argv))
  waiting_step =
      let so = asked_so has in
      let found = asked_found (view_of s.spaces k.directory) k v.b path argv from has in
      service_step a n v.b so.regs (service.Spawn path argv) asked v.is so.program so.phase so.awake
      ∙ waits_asked a n v.b so.regs path argv found.0 found.1

  abbrev j : Slot
  j = spawn_waiting_slot k from

  j_place : place_of j ≡ spawns_at path argv to
  j_place =
      place_at k.registers SERVICE_SPAWN (step.Spawning to) v.outside
      ∙ ap (λ (x : Service). place.InService x (step.Spawning to)) (named_at k (service.Spawn path argv) (step.Spawning from) stands)

  plain : is_in_handler (place_of k) ≡ false
  plain = ap is_in_handler stands

  plain_after : is_in_handler (place_of j) ≡ false
  plain_after = ap is_in_handler j_place

  waiting_own : StandsForBorn names s.spaces j (spawn_waiting v.b path argv)
  waiting_own =
      let own = v.own in
      record {
        id = own.id;
        id_small = own.id_small;
        parent = own.parent;
        env_type = own.env_type;
        runs = tt;
        upcall = own.upcall ∙ plain_upcall (place_of k) plain ∙ sym (ap upcall_at j_place);
        descriptors = descriptors_turned names s.spaces k.directory (place_of k) (place_of j) v.b.descriptors (ap is_calm stands) (ap is_calm j_place)
            own.descriptors;
        memory = own.memory;
        library = library_moved (place_of k) (place_of j) k.extra j.extra (rows_of s.spaces k.directory)
            (plain_copy (place_of k) plain ∙ sym (ap has_copy j_place))
            (plain_working (place_of k) k.extra plain ∙ ap holds_page stands ∙ held ∙ sym (ap (λ (p : Place). pages_kept p j.extra) j_place)) own.library;
        regions_have = own.regions_have;
        regions_only = own.regions_only;
        stack = own.stack;
        flags = own.flags;
        at = subst (λ (p : Place). StandsAt p (view_of s.spaces k.directory) j (spawn_waiting v.b path argv)) (sym j_place)
            (waits_there (view_of s.spaces k.directory) k v.b path argv from has);
      }

  -- no bytes have come with the reply, as before
  loads_on : (id : ℕ) → spawning_child from ≡ Some id → LoadsOn v.b v.b.spawning (in_service (service.Spawn path argv) awaiting)
  loads_on id is slot image file loads =
      subst (λ (p : Phase). Loads slot image v.b.spawning (bytes_replied p) file) (asked_so has).phase loads

  -- the call
  receive_call : (rest : List ℕ) → system s n SYS_IPC_RECV (destination_of from ∷ FIRST_ENV_ID ∷ rest)
      ≡ record {
        state = with_slot_at s n (record k { rendezvous = wanting k.rendezvous (destination_of from) FIRST_ENV_ID; status = NotRunnable });
        gives = got Blocked;
        written = [];
      }
  receive_call rest =
      ipc_recv_is s n (born_live v.own) (destination_of from) FIRST_ENV_ID rest (destination_receives from)
      ∙ (λ i. record { state = waits_is s n (wanting k.rendezvous (destination_of from) FIRST_ENV_ID) NotRunnable i; gives = got Blocked; written = [] })

  waiting_stands : (rest : List ℕ) →
      StandsFor names (with_extra (system s n SYS_IPC_RECV (destination_of from ∷ FIRST_ENV_ID ∷ rest)).state n (spawn_words to))
      (await_reply a n v.b (service.Spawn path argv))
  waiting_stands rest =
      let asleep : Slot = record k { rendezvous = wanting k.rendezvous (destination_of from) FIRST_ENV_ID; status = NotRunnable } in
      let after : with_extra (system s n SYS_IPC_RECV (destination_of from ∷ FIRST_ENV_ID ∷ rest)).state n (spawn_words to)
      ≡ with_slot_at s n (record asleep { extra = spawn_words to }) =
      ap (λ (x : CallStep Called). with_extra x.state n (spawn_words to)) (receive_call rest) ∙ words_put s n asleep (spawn_words to) in
      subst (λ (x : KernelState). StandsFor names x (await_reply a n v.b (service.Spawn path argv))) (sym after)
      (slot_becomes h n v.b v.is j (spawn_waiting v.b path argv) refl (stopped_settles k j refl refl refl refl)
      (turned_counts h n path argv v.b v.is from to stands j j_place refl refl (in_service (service.Spawn path argv) awaiting) v.b.spawning true loads_on keeps)
      (turned_children h n path argv v.b v.is from to stands j j_place refl refl (in_service (service.Spawn path argv) awaiting) v.b.spawning true loads_on keeps)
      waiting_own (calm_places (ap is_calm stands) (ap is_calm j_place)) (λ fd. refl))

-- what the step comes to
pub spawn_awaiting_keeps : (s : KernelState) (n path argv : ℕ) (from : SpawnStep) → place_of (slot_at s n) ≡ spawns_at path argv from →
    ((v : View) (k : Slot) (b : Born) → StandsAtSpawn v k b path argv from → SpawnHasAsked v k b path argv from) →
    KeepsBearing from (behind_asked from) →
    holds_page (spawns_at path argv from) ≡ holds_page (spawns_at path argv (behind_asked from)) →
    KeepsStanding progress.Visible n s
    (with_extra (system s n SYS_IPC_RECV (destination_of from ∷ FIRST_ENV_ID ∷ 0 ∷ 0 ∷ 0 ∷ [])).state n (spawn_words (behind_asked from))) []
spawn_awaiting_keeps s n path argv from stands has keeps held a h turn quiet =
    let v = spawn_there h.1 n path argv from stands in
    let it = has (view_of s.spaces (slot_at s n).directory) (slot_at s n) v.b v.at in (
      _,
      waiting_step h.1 n path argv from stands it keeps held,
      printed_nothing a,
      (h.0, waiting_stands h.1 n path argv from stands it keeps held (0 ∷ 0 ∷ 0 ∷ [])),
    )
