-- A run of the library's programs goes on as one of the abstract system: at its beginning, where a turn begins, by each step,
-- and where a turn ends.
use Rattle.std.proofs.Common.{◌≡◌, ◌≢◌, ◌∙◌, ℕ, ◌+◌, ◌^◌, ◌<◌, ◌≤◌, ◌==◌, ◌||◌, Bool, true, false, List, [], ◌∷◌, ◌++◌, length}
use Rattle.std.proofs.Common.{Option, Some, None, refl, sym, ap, subst, arith, add-one, append_assoc, if◌then◌else◌}
use Rattle.std.specs.Prelude.{not, nat_le, nat_lt}
use Rattle.std.proofs.lemmas.Bool.{false≢true}
use Rattle.std.proofs.lemmas.Bool.Decides.{nat_tests}
use Rattle.std.proofs.lemmas.List.{append-nil}
use Rattle.jos_base.specs.declared.environment.Status.{Status}
use Rattle.jos_base.specs.declared.environment.Status.TheVariants.{Runnable, Running, NotRunnable}
use Rattle.jos_base.specs.declared.registers.Regs.{Regs}
use Rattle.jos_base.specs.Environments.{Slot, is_running, is_runnable}
use Rattle.jos_base.specs.KernelState.{KernelState, slot_at}
use Rattle.jos_base.specs.KernelState as kernel
use Rattle.jos_sched.specs.Quantum.{quantum}
use Rattle.jos_sched.specs.RoundRobin.{next}
use Rattle.jos_sched.proofs.RoundRobin.{next_runs}
use Rattle.fs_layout.specs.FileTree.{open_path}
use Rattle.jos_kernel.specs.declared.report.Turn.{Turn}
use Rattle.jos_kernel.specs.Books.{turn_of}
use Rattle.lib_os.specs.declared.place.Place.{Place}
use Rattle.lib_os.specs.declared.place.Place.TheVariants as place
use Rattle.lib_os.specs.declared.place.Step.{Step}
use Rattle.lib_os.specs.declared.place.Step.TheVariants as step
use Rattle.lib_os.specs.declared.progress.Progress.{Progress}
use Rattle.lib_os.specs.declared.progress.Progress.TheVariants as progress
use Rattle.lib_os.specs.declared.service.Service.{Service}
use Rattle.lib_os.specs.declared.service.Service.TheVariants as service
use Rattle.lib_os.specs.declared.spawn_steps.OpeningStep.TheVariants as opening
use Rattle.lib_os.specs.declared.spawn_steps.ReadStep.TheVariants as read
use Rattle.lib_os.specs.declared.spawn_steps.SpawnStep.{SpawnStep}
use Rattle.lib_os.specs.declared.spawn_steps.SpawnStep.TheVariants as spawn
use Rattle.lib_os.specs.AbstractState.{AbstractState, Born, AbstractSlot, free, unborn, born, idle, serving, Stage, entered, guest, Phase, in_service, can_run, is_idle}
use Rattle.lib_os.specs.AbstractState.{Request, act, seek}
use Rattle.lib_os.specs.FileServer.{request_begun}
use Rattle.lib_os.specs.AbstractRun.{abs_step, program_step, slot_step}
use Rattle.lib_os.specs.LibraryCall.{library_step}
use Rattle.lib_os.specs.LibrarySteps.{NothingRefused, Stands, is_pausing, is_yield, spawn_pauses_at}
use Rattle.lib_os.specs.Places.{place_of}
use Rattle.lib_os.specs.LibraryPages.{View}
use Rattle.lib_os.specs.Rows.{Names}
use Rattle.lib_os.specs.StandsAtSpawn.{StandsAtSpawn}
use Rattle.lib_os.specs.StandsFor.{StandsFor, StandsForSlot, StandsAt, StandsAtStep, TellsRequest, IsStatusFor, borne_in, view_of}
use Rattle.lib_os.specs.Disk.{Disk}
use Rattle.lib_os.proofs.PipesStand.{is_calm}
use Rattle.lib_os.proofs.RequestPages.{IsBeside, brings_page, pausing_step, told_pausing}
use Rattle.lib_os.proofs.RequestsTold.{IsAsking, request_told}
use Rattle.lib_os.proofs.SlotsStand.{born_at}
use Rattle.lib_os.proofs.SpawnOwnPages.{spawns_at}
use Rattle.lib_os.proofs.SpawnRequests.{file_asking, part_asking}
use Rattle.lib_os.proofs.StatesStand.{turn_begun_stands, turn_ended_stands}
use Rattle.jos_run.specs.AbstractTurns.{turn_begun, steps_taken, abs_run, asks, asks_behind, waits_in, stands_waiting}
use Rattle.jos_run.specs.AbstractTurns.{yields_in, is_yielding, has_yielded, has_yielded_after, may_end, turn_fits, fits, all_fit}
use Rattle.jos_run.specs.LibraryRuns.{NoneRuns, OnlyRuns, IsBetween, IsInTurn, visible_steps}
use Rattle.jos_run.specs.ServerStands.{KeepsWhole, MayStep, ServesOver, StandsWhole, WholeGoesOn, WholeStays}
use Rattle.jos_run.specs.Worlds.{World, with_state}
use Rattle.jos_run.proofs.Choices.{runs_stand, serving_first, next_stands, begun_only, ended_none}
use Rattle.jos_run.proofs.PipePlaces.{read_waits, stat_waits, write_waits}
use Rattle.jos_run.proofs.ServerTurns.{awake_serves, server_begun_stands}
use Rattle.jos_run.proofs.TurnsTaken.{run_with_turn, taken_is, no_steps, one_more_step, all_fit_append, fits_append, all_fit_fits}
use Rattle.jos_run.proofs.WholeStands.{begun_server, ended_server}
use Rattle.std.proofs.Math.Bool.{or-true}

-- ---- the beginning

-- before the first turn
pub run_begins : (schedule : List ℕ) (first : AbstractState) (w : World) → StandsWhole w first → NoneRuns w.state →
    IsBetween schedule first [] w []
unfolding abs_run all_fit
run_begins schedule first w h none = record {
  now = first;
  ran = refl;
  stands = h;
  console = sym (append-nil first.console);
  none = none;
  fit = refl;
}

-- ---- a turn begins

-- who is RUNNABLE is an environment that does not wait, or the file server, which does not wait for a request
pub data MayRun (a : AbstractState) (n : ℕ) : Type 0 where
  environment : (b : Born) → a.slots n ≡ born b → b.blocked ≡ false → MayRun a n
  server : 0 ≡ n → is_idle a.server ≡ false → MayRun a n

pub runnable_who : {names : Names} {s : KernelState} {a : AbstractState} → StandsFor names s a → (n : ℕ) →
    is_runnable (slot_at s n).status ≡ true → MayRun a n
runnable_who {names = names} {s = s} {a = a} h n runs = by_slot (a.slots n) refl (h.slots n)
  where
    awake : (status : Status) (blocked : Bool) → IsStatusFor status blocked → is_runnable status ≡ true → blocked ≡ false
    awake Runnable false h runs = refl
    awake Running false h runs = refl
    awake NotRunnable true h runs = absurd (let contradiction : false ≡ true = runs in cc)
    awake _ _ h runs = absurd h

    by_slot : (slot : AbstractSlot) → a.slots n ≡ slot → StandsForSlot names s.spaces (slot_at s n) slot → MayRun a n
    by_slot (free id) at k = absurd (let contradiction : true ≡ false = sym runs ∙ ap (λ (x : Slot). is_runnable x.status) k in cc)
    by_slot (unborn id parent) at k = absurd (let contradiction : true ≡ false = sym runs ∙ ap (λ (x : Status). is_runnable x) k.status in cc)
    by_slot (born b) at k = environment b at (awake (slot_at s n).status b.blocked k.runs runs)
    by_slot (serving id) at k =
        let first : 0 ≡ n = serving_first h n id k in
        let ready : is_runnable (slot_at s 0).status ≡ true = ap (λ (m : ℕ). is_runnable (slot_at s m).status) first ∙ runs in
        server first (awake_serves h (λ is. let contradiction : true ≡ false = sym ready ∙ ap (λ (x : Status). is_runnable x) is in cc))

pub begun_stands : {names : Names} {s : KernelState} {a : AbstractState} → StandsFor names s a → NoneRuns s → (n : ℕ) → MayRun a n →
    s.turns + 1 < 2 ^ 32 → StandsFor names (kernel.turn_begun s n) (turn_begun a n)
begun_stands h none n (environment b at awake) few = turn_begun_stands h n b at awake none few
begun_stands {names = names} {s = s} {a = a} h none n (server first busy_now) few =
    subst (λ (m : ℕ). StandsFor names (kernel.turn_begun s m) (turn_begun a m)) first (server_begun_stands h busy_now none few)

-- the file server stands as it stood
pub serves_begun : (disk : Option Disk) (s : KernelState) (n : ℕ) (a : AbstractState) → Stands s a → Stands (kernel.turn_begun s n) (turn_begun a n) →
    ServesOver disk s a → ServesOver disk (kernel.turn_begun s n) (turn_begun a n)
serves_begun None s n a before behind h = h
serves_begun (Some d) s n a before behind h = begun_server d s n a before behind h

pub serves_ended : (disk : Option Disk) (s : KernelState) (n : ℕ) (a : AbstractState) → Stands s a → Stands (kernel.turn_ended s n) a →
    ServesOver disk s a → ServesOver disk (kernel.turn_ended s n) a
serves_ended None s n a before behind h = h
serves_ended (Some d) s n a before behind h = ended_server d s n a before behind h

-- the turn of the slot that the kernel chooses
unfoldable pub turn_begins : {schedule : List ℕ} {first : AbstractState} {turns : List Turn} {w : World} {written : List ℕ} →
    IsBetween schedule first turns w written → (n : ℕ) → next w.state.environments w.state.last ≡ Some n → w.state.turns + 1 < 2 ^ 32 →
    IsInTurn schedule first turns n 0 (with_state w (kernel.turn_begun w.state n)) written
turn_begins {w = w} h n chosen few =
    let stands = h.stands.0.1 in
    let begun : Stands (kernel.turn_begun w.state n) (turn_begun h.now n) =
    (h.stands.0.0, begun_stands stands h.none n (runnable_who stands n (next_runs w.state.environments w.state.last n chosen).1) few) in
    record {
      before = h.now;
      ran = h.ran;
      chosen = sym (next_stands stands h.none) ∙ chosen;
      now = turn_begun h.now n;
      taken = no_steps (turn_begun h.now n) n;
      stands = (begun, serves_begun w.disk w.state n h.now h.stands.0 begun h.stands.1);
      console = h.console;
      only = begun_only w.state n h.none;
      fit = h.fit;
    }

-- ---- a step

-- one that nobody sees
unfoldable pub step_hidden : {schedule : List ℕ} {first : AbstractState} {turns : List Turn} {n visible : ℕ} {w after : World}
    {written : List ℕ} (bytes : List ℕ) → (h : IsInTurn schedule first turns n visible w written) → WholeStays after h.now bytes → OnlyRuns after.state n →
    IsInTurn schedule first turns n (visible + 0) after (written ++ bytes)
step_hidden {first = first} {n = n} {visible = visible} {written = written} bytes h stays only = record {
  before = h.before;
  ran = h.ran;
  chosen = h.chosen;
  now = h.now;
  taken = (let same : visible + 0 ≡ visible = omega arith in ap (λ (k : ℕ). steps_taken (turn_begun h.before n) n k) same ∙ h.taken);
  stands = stays.1;
  console = h.console ∙ ap (λ (l : List ℕ). first.console ++ l) (sym (append-nil written) ∙ ap (λ (l : List ℕ). written ++ l) (sym stays.0));
  only = only;
  fit = h.fit;
}

-- one that is a step of the abstract system
unfoldable pub step_visible : {schedule : List ℕ} {first : AbstractState} {turns : List Turn} {n visible : ℕ} {w after : World}
    {written : List ℕ} (bytes : List ℕ) → (h : IsInTurn schedule first turns n visible w written) → WholeGoesOn n after h.now bytes →
    OnlyRuns after.state n →
    IsInTurn schedule first turns n (visible + 1) after (written ++ bytes)
step_visible {first = first} {n = n} {visible = visible} {written = written} bytes h goes_on only = record {
  before = h.before;
  ran = h.ran;
  chosen = h.chosen;
  now = goes_on.0;
  taken = one_more_step (turn_begun h.before n) h.now goes_on.0 n visible h.taken goes_on.1;
  stands = goes_on.3;
  console = goes_on.2 ∙ ap (λ (l : List ℕ). l ++ bytes) h.console ∙ append_assoc first.console written bytes;
  only = only;
  fit = h.fit;
}

-- whatever the step has come to
pub step_kept : {schedule : List ℕ} {first : AbstractState} {turns : List Turn} {n visible : ℕ} {w after : World}
    {written : List ℕ} (bytes : List ℕ) → IsInTurn schedule first turns n visible w written → (progress : Progress) →
    KeepsWhole progress n w after bytes → MayStep w.state n → NothingRefused w.state after.state → OnlyRuns after.state n →
    IsInTurn schedule first turns n (visible + visible_steps progress) after (written ++ bytes)
step_kept bytes h progress.Hidden keeps may none_refused only = step_hidden bytes h (keeps h.now h.stands may none_refused) only
step_kept bytes h progress.Waited keeps may none_refused only = step_hidden bytes h (keeps h.now h.stands may none_refused).0 only
step_kept bytes h progress.Visible keeps may none_refused only = step_visible bytes h (keeps h.now h.stands may none_refused) only
step_kept bytes h progress.Finished keeps may none_refused only = step_visible bytes h (keeps h.now h.stands may none_refused) only
step_kept bytes h progress.Ended keeps may none_refused only = step_visible bytes h (keeps h.now h.stands may none_refused) only

-- ---- a turn ends

pub turn_ends : {schedule : List ℕ} {first : AbstractState} {turns : List Turn} {n visible : ℕ} {w : World} {written : List ℕ} →
    (h : IsInTurn schedule first turns n visible w written) → (hidden : ℕ) →
    turn_fits schedule (length turns) false h.before (turn_of n visible hidden) h.now ≡ true →
    IsBetween schedule first (turns ++ turn_of n visible hidden ∷ []) (with_state w (kernel.turn_ended w.state n)) written
turn_ends {schedule = schedule} {first = first} {turns = turns} {n = n} {visible = visible} {w = w} h hidden fit =
    let same : length turns ≡ 0 + length turns = omega arith in
    let ended : Stands (kernel.turn_ended w.state n) h.now = (h.stands.0.0, turn_ended_stands h.stands.0.1 n) in
    record {
      now = h.now;
      ran = run_with_turn first h.before h.now turns n visible hidden h.ran h.chosen h.taken;
      stands = (ended, serves_ended w.disk w.state n h.now h.stands.0 ended h.stands.1);
      console = h.console;
      none = ended_none w.state n h.only;
      fit = all_fit_append schedule 0 first h.before h.now turns (turn_of n visible hidden) h.fit h.ran
          (taken_is h.before n visible hidden h.chosen ∙ h.taken)
          (subst (λ (k : ℕ). turn_fits schedule k false h.before (turn_of n visible hidden) h.now ≡ true) same fit);
    }

-- The steps of a turn that ends are as many as the schedule gives it, or fewer, where it may end.

fits_by : (schedule : List ℕ) (k : ℕ) (before after : AbstractState) (is_last : Bool) (t : Turn) → 0 < t.visible + t.hidden →
    t.visible + t.hidden ≤ quantum schedule k →
    ((t.visible + t.hidden == quantum schedule k) || is_last || may_end before t after) ≡ true → turn_fits schedule k is_last before t after ≡ true
fits_by schedule k before after is_last t some within ends =
    let some_is : nat_lt 0 (t.visible + t.hidden) ≡ true = grind (arith, nat_tests) in
    let within_is : nat_le (t.visible + t.hidden) (quantum schedule k) ≡ true = grind (arith, nat_tests) in
    rw (some_is, within_is, ends) refl

pub whole_turn_fits : (schedule : List ℕ) (k : ℕ) (before after : AbstractState) (t : Turn) → 0 < t.visible + t.hidden →
    t.visible + t.hidden ≡ quantum schedule k → turn_fits schedule k false before t after ≡ true
whole_turn_fits schedule k before after t some whole =
    let same : (t.visible + t.hidden == quantum schedule k) ≡ true = grind (arith, nat_tests) in
    fits_by schedule k before after false t some (omega arith) (ap (λ (c : Bool). c || false || may_end before t after) same)

pub short_turn_fits : (schedule : List ℕ) (k : ℕ) (before after : AbstractState) (t : Turn) → 0 < t.visible + t.hidden →
    t.visible + t.hidden ≤ quantum schedule k → may_end before t after ≡ true → turn_fits schedule k false before t after ≡ true
short_turn_fits schedule k before after t some within may =
    fits_by schedule k before after false t some within
    (ap (λ (c : Bool). (t.visible + t.hidden == quantum schedule k) || false || c) may ∙ or-true ((t.visible + t.hidden == quantum schedule k) || false))

pub last_turn_fits : (schedule : List ℕ) (k : ℕ) (before after : AbstractState) (t : Turn) → 0 < t.visible + t.hidden →
    t.visible + t.hidden ≤ quantum schedule k → turn_fits schedule k true before t after ≡ true
last_turn_fits schedule k before after t some within =
    fits_by schedule k before after true t some within
    (ap (λ (c : Bool). c || may_end before t after) (or-true (t.visible + t.hidden == quantum schedule k)))

-- ---- where a turn may end

-- its slot can't run on
pub stopped_may_end : (before after : AbstractState) (t : Turn) → can_run after t.slot ≡ false → may_end before t after ≡ true
stopped_may_end before after t cannot =
    ap (λ (c : Bool). not c || stands_waiting after t.slot (after.slots t.slot) || has_yielded (turn_begun before t.slot) t.slot t.visible) cannot

-- it waits in a service
pub waiting_may_end : (before after : AbstractState) (t : Turn) → stands_waiting after t.slot (after.slots t.slot) ≡ true → may_end before t after ≡ true
waiting_may_end before after t in_wait =
    by_cases (not (can_run after t.slot)) (stands_waiting after t.slot (after.slots t.slot)) (has_yielded (turn_begun before t.slot) t.slot t.visible) in_wait
  where
    by_cases : (stopped waiting yielded : Bool) → waiting ≡ true → (stopped || waiting || yielded) ≡ true
    by_cases true waiting yielded is = refl
    by_cases false true yielded is = refl
    by_cases false false yielded is = absurd (let contradiction : false ≡ true = is in cc)

-- it has just given up its turn
pub yielded_may_end : (before after : AbstractState) (t : Turn) → has_yielded (turn_begun before t.slot) t.slot t.visible ≡ true →
    may_end before t after ≡ true
yielded_may_end before after t yielded =
    ap (λ (c : Bool). not (can_run after t.slot) || stands_waiting after t.slot (after.slots t.slot) || c) yielded
    ∙ or-true (not (can_run after t.slot) || stands_waiting after t.slot (after.slots t.slot))

-- ---- how the kernel tells it

-- whoever is neither RUNNING nor RUNNABLE can't run
pub stopped_cannot : {names : Names} {s : KernelState} {a : AbstractState} → StandsFor names s a → (n : ℕ) →
    is_running (slot_at s n).status ≡ false → is_runnable (slot_at s n).status ≡ false → can_run a n ≡ false
stopped_cannot h n not_running not_runnable = sym (runs_stand h n not_running) ∙ not_runnable

-- who is RUNNING is an environment, or the file server
pub running_born : {names : Names} {s : KernelState} {a : AbstractState} → StandsFor names s a → (n : ℕ) → n ≢ 0 →
    is_running (slot_at s n).status ≡ true → (b : Born) × (a.slots n ≡ born b)
running_born {names = names} {s = s} {a = a} h n other runs = by_slot (a.slots n) refl (h.slots n)
  where
    by_slot : (slot : AbstractSlot) → a.slots n ≡ slot → StandsForSlot names s.spaces (slot_at s n) slot → (b : Born) × (a.slots n ≡ born b)
    by_slot (free id) at k = absurd (let contradiction : true ≡ false = sym runs ∙ ap (λ (x : Slot). is_running x.status) k in cc)
    by_slot (unborn id parent) at k = absurd (let contradiction : true ≡ false = sym runs ∙ ap (λ (x : Status). is_running x) k.status in cc)
    by_slot (born b) at k = (b, at)
    by_slot (serving id) at k = absurd (other (sym (serving_first h n id k)))

yield_step : (v : View) (k : Slot) (b : Born) (stands : Step) → StandsAtStep v k b service.Yield stands →
    (stage : Stage) × (b.phase ≡ in_service service.Yield stage)
yield_step v k b step.Entered h = (_, h.phase)
yield_step v k b (step.CountingReply id) h = absurd (false≢true h.hands)
yield_step v k b (step.FileRegion done count) h = absurd (false≢true h.hands)
yield_step v k b (step.FileEntry done count) h = absurd (false≢true h.0.hands)
yield_step v k b (step.LoadingBytes done count) h = absurd (false≢true h.has.hands)
yield_step v k b (step.LoadingRest done count first) h = absurd (false≢true h.has.hands)
yield_step v k b (step.PuttingBytes done count word) h = absurd (false≢true h.has.hands)
yield_step v k b (step.FileFaulting done count) h = absurd (false≢true h.0.hands)
yield_step v k b (step.Returning answer) h = absurd (false≢true h.goes)
yield_step v k b _ h = absurd h

-- one that is about to ask the file server does so where that is idle
asks_sync : (a : AbstractState) (n : ℕ) (b : Born) (regs : Regs) → a.slots n ≡ born b → b.blocked ≡ false → b.program ≡ guest regs →
    b.phase ≡ in_service service.Sync entered → asks a n ≡ true
unfolding abs_step library_step
asks_sync a n b regs at awake program phase =
    ap (λ (slot : AbstractSlot). asks_behind (slot_step (record a { server = idle }) n slot)) at
    ∙ (λ i. asks_behind (if awake i then None else program_step (record a { server = idle }) n b (program i) (phase i)))

-- whatever is asked, the server is not idle behind that
begun_serves : (n : ℕ) (request : Request) → is_idle (request_begun n request) ≡ false
begun_serves n (act (open_path path mode) object) = refl
begun_serves n (act _ object) = refl
begun_serves n (seek name offset) = refl

asks_so : {a : AbstractState} {n : ℕ} {b : Born} {call : Service} → IsAsking a n b call → asks a n ≡ true
asks_so {n = n} it = ap asks_behind (it.asks idle) ∙ ap not (begun_serves n it.request)

module _ {names : Names} {s : KernelState} {a : AbstractState} (h : StandsFor names s a) (n : ℕ) (b : Born) (at : a.slots n ≡ born b) where
  abbrev seen : View
  seen = view_of s.spaces (slot_at s n).directory

  asks_told : (call : Service) (fd : ℕ) → borne_in (place_of (slot_at s n)) ≡ None → is_calm (place_of (slot_at s n)) ≡ true →
      IsBeside seen.row call fd →
      TellsRequest seen (slot_at s n) b call → asks a n ≡ true
  asks_told call fd unborne calm beside tells = asks_so (request_told h n b at unborne calm call fd beside tells)

  -- a service that asks with a page
  pauses_to_ask : (call : Service) → brings_page call ≡ true → (id fd : ℕ) → place_of (slot_at s n) ≡ place.InService call (pausing_step call id fd) →
      StandsAtStep seen (slot_at s n) b call (pausing_step call id fd) → borne_in (place.InService call (pausing_step call id fd)) ≡ None →
      is_calm (place.InService call (pausing_step call id fd)) ≡ true →
      (waits_in a b b.phase || asks a n) ≡ true
  pauses_to_ask call with_page id fd is there unborne calm =
      let told = told_pausing seen (slot_at s n) b call with_page id fd there in
      ap (λ (c : Bool). waits_in a b b.phase || c) (asks_told call fd (ap borne_in is ∙ unborne) (ap is_calm is ∙ calm) told.1 told.2)
      ∙ or-true (waits_in a b b.phase)

  -- and spawn
  spawn_pauses : (path argv : ℕ) (from : SpawnStep) → place_of (slot_at s n) ≡ spawns_at path argv from →
      StandsAtSpawn seen (slot_at s n) b path argv from → spawn_pauses_at from ≡ true → asks a n ≡ true
  spawn_pauses path argv (spawn.Opening (opening.OpenPausing esp fd id)) is there pauses = asks_so (file_asking h n b at path argv there.1)
  spawn_pauses path argv (spawn.Reading wanted (read.Pausing id)) is there pauses =
      asks_so (part_asking h n b at path argv (read.Pausing id) is there.1.so.so.asks)
  spawn_pauses path argv _ is there pauses = absurd (false≢true pauses)

  pausing_place : (p : Place) → place_of (slot_at s n) ≡ p → StandsAt p seen (slot_at s n) b → is_pausing p ≡ true → (waits_in a b b.phase || asks a n) ≡ true
  pausing_place (place.InService (service.Wait id) (step.Pausing perm)) is there pauses =
      ap (λ (x : Phase). waits_in a b x || asks a n) there.is_in.phase
  pausing_place (place.InService (service.Send id value va) (step.Pausing perm)) is there pauses =
      ap (λ (x : Phase). waits_in a b x || asks a n) there.is_in.phase
  pausing_place (place.InService service.Sync (step.Pausing id)) is there pauses =
      ap (λ (c : Bool). waits_in a b b.phase || c) (asks_sync a n b (slot_at s n).registers at there.1.awake there.1.program there.1.phase)
      ∙ or-true (waits_in a b b.phase)
  pausing_place (place.InService (service.Remove path) (step.Pausing id)) is there pauses =
      pauses_to_ask (service.Remove path) refl id 0 is there refl refl
  pausing_place (place.InService (service.OpenFile path mode) (step.OpenPausing id fd)) is there pauses =
      pauses_to_ask (service.OpenFile path mode) refl id fd is there refl refl
  pausing_place (place.InService (service.Seek fd offset) (step.Pausing id)) is there pauses =
      pauses_to_ask (service.Seek fd offset) refl id 0 is there refl refl
  pausing_place (place.InService (service.SetSize fd size) (step.Pausing id)) is there pauses =
      pauses_to_ask (service.SetSize fd size) refl id 0 is there refl refl
  pausing_place (place.InService (service.Write fd va len) (step.Pausing id)) is there pauses =
      pauses_to_ask (service.Write fd va len) refl id 0 is there refl refl
  pausing_place (place.InService (service.Read fd va len) (step.Pausing id)) is there pauses =
      pauses_to_ask (service.Read fd va len) refl id 0 is there refl refl
  pausing_place (place.InService (service.Stat fd va) (step.Pausing id)) is there pauses =
      pauses_to_ask (service.Stat fd va) refl id 0 is there refl refl
  pausing_place (place.InService (service.Read fd va len) (step.Piped stands)) is there pauses =
      ap (λ (c : Bool). c || asks a n) (read_waits h n b at fd va len stands is there pauses)
  pausing_place (place.InService (service.Write fd va len) (step.Piped stands)) is there pauses =
      ap (λ (c : Bool). c || asks a n) (write_waits h n b at fd va len stands is there pauses)
  pausing_place (place.InService (service.Stat fd va) (step.Piped stands)) is there pauses =
      ap (λ (c : Bool). c || asks a n) (stat_waits h n b at fd va stands is there pauses)
  pausing_place (place.InService (service.Spawn path argv) (step.Spawning stands)) is there pauses =
      ap (λ (c : Bool). waits_in a b b.phase || c) (spawn_pauses path argv stands is there pauses) ∙ or-true (waits_in a b b.phase)
  pausing_place _ is there pauses = absurd (false≢true pauses)

-- One that is about to give up its turn waits in a service.
pub pausing_waits : {names : Names} {s : KernelState} {a : AbstractState} → StandsFor names s a → (n : ℕ) → n ≢ 0 → is_running (slot_at s n).status ≡ true →
    is_pausing (place_of (slot_at s n)) ≡ true → stands_waiting a n (a.slots n) ≡ true
pausing_waits {s = s} {a = a} h n other runs pauses =
    let who = running_born h n other runs in
    ap (λ (slot : AbstractSlot). stands_waiting a n slot) who.1
    ∙ pausing_place h n who.0 who.1 (place_of (slot_at s n)) refl (born_at h n who.0 who.1).at pauses

yield_phase : (v : View) (k : Slot) (b : Born) (p : Place) → StandsAt p v k b → is_yield p ≡ true → yields_in b.phase ≡ true
yield_phase v k b (place.InService service.Yield stands) h yields =
    ap (λ (x : Phase). yields_in x) (yield_step v k b stands h).1
yield_phase v k b _ h yields = absurd (let contradiction : false ≡ true = yields in cc)

pub yield_tells : {names : Names} {s : KernelState} {a : AbstractState} → StandsFor names s a → (n : ℕ) → n ≢ 0 → is_running (slot_at s n).status ≡ true →
    is_yield (place_of (slot_at s n)) ≡ true → is_yielding (a.slots n) ≡ true
yield_tells {s = s} h n other runs yields =
    let who = running_born h n other runs in
    ap (λ (slot : AbstractSlot). is_yielding slot) who.1
    ∙ yield_phase (view_of s.spaces (slot_at s n).directory) (slot_at s n) who.0 (place_of (slot_at s n)) (born_at h n who.0 who.1).at yields

-- A turn ends where its steps are as many as the schedule gives it.
pub turn_ends_whole : {schedule : List ℕ} {first : AbstractState} {turns : List Turn} {n visible : ℕ} {w : World} {written : List ℕ} →
    IsInTurn schedule first turns n visible w written → (hidden : ℕ) → 0 < visible + hidden →
    visible + hidden ≡ quantum schedule (length turns) →
    IsBetween schedule first (turns ++ turn_of n visible hidden ∷ []) (with_state w (kernel.turn_ended w.state n)) written
turn_ends_whole {schedule = schedule} {turns = turns} {n = n} {visible = visible} h hidden some whole =
    turn_ends h hidden (whole_turn_fits schedule (length turns) h.before h.now (turn_of n visible hidden) some whole)

-- or before that, where it may
pub turn_ends_early : {schedule : List ℕ} {first : AbstractState} {turns : List Turn} {n visible : ℕ} {w : World} {written : List ℕ} →
    (h : IsInTurn schedule first turns n visible w written) → (hidden : ℕ) → 0 < visible + hidden →
    visible + hidden ≤ quantum schedule (length turns) → may_end h.before (turn_of n visible hidden) h.now ≡ true →
    IsBetween schedule first (turns ++ turn_of n visible hidden ∷ []) (with_state w (kernel.turn_ended w.state n)) written
turn_ends_early {schedule = schedule} {turns = turns} {n = n} {visible = visible} h hidden some within may =
    turn_ends h hidden (short_turn_fits schedule (length turns) h.before h.now (turn_of n visible hidden) some within may)

-- after one more step, which was that of yield
pub yielded_further : (n : ℕ) (begun b : AbstractState) (visible : ℕ) → steps_taken begun n visible ≡ Some b → is_yielding (b.slots n) ≡ true →
    has_yielded begun n (visible + 1) ≡ true
yielded_further n begun b visible taken yields =
    subst (λ (k : ℕ). has_yielded begun n k ≡ true) (sym (add-one visible))
    (ap (λ (o : Option AbstractState). has_yielded_after n o) taken ∙ yields)

-- ---- what is told

pub between_fits : {schedule : List ℕ} {first : AbstractState} {turns : List Turn} {w : World} {written : List ℕ} →
    IsBetween schedule first turns w written → fits schedule 0 first turns ≡ true
between_fits {schedule = schedule} {first = first} {turns = turns} h = all_fit_fits schedule 0 first turns h.fit

-- the turn under way is told too, whichever way it would end
pub in_turn_ran : {schedule : List ℕ} {first : AbstractState} {turns : List Turn} {n visible : ℕ} {w : World} {written : List ℕ} →
    (h : IsInTurn schedule first turns n visible w written) → (hidden : ℕ) →
    abs_run first (turns ++ turn_of n visible hidden ∷ []) ≡ Some h.now
in_turn_ran {first = first} {turns = turns} {n = n} {visible = visible} h hidden =
    run_with_turn first h.before h.now turns n visible hidden h.ran h.chosen h.taken

pub in_turn_fits : {schedule : List ℕ} {first : AbstractState} {turns : List Turn} {n visible : ℕ} {w : World} {written : List ℕ} →
    IsInTurn schedule first turns n visible w written → (hidden : ℕ) → 0 < visible + hidden → visible + hidden ≤ quantum schedule (length turns) →
    fits schedule 0 first (turns ++ turn_of n visible hidden ∷ []) ≡ true
in_turn_fits {schedule = schedule} {first = first} {turns = turns} {n = n} {visible = visible} h hidden some within =
    let same : length turns ≡ 0 + length turns = omega arith in
    fits_append schedule 0 first h.before h.now turns (turn_of n visible hidden) h.fit h.ran
    (taken_is h.before n visible hidden h.chosen ∙ h.taken)
    (subst (λ (k : ℕ). turn_fits schedule k true h.before (turn_of n visible hidden) h.now ≡ true) same
    (last_turn_fits schedule (length turns) h.before h.now (turn_of n visible hidden) some within))

-- Where the host fails in a step, what was written is the beginning of what the abstract system has written after that step.
pub step_failed : {schedule : List ℕ} {first : AbstractState} {turns : List Turn} {n visible : ℕ} {w : World}
    {written : List ℕ} (bytes : List ℕ) → IsInTurn schedule first turns n visible w written → (hidden : ℕ) →
    ((a : AbstractState) → StandsWhole w a → (b : AbstractState) × (abs_step a n ≡ Some b) × (b.console ≡ a.console ++ bytes)) →
    (b : AbstractState) × (abs_run first (turns ++ turn_of n (visible + 1) hidden ∷ []) ≡ Some b) × (b.console ≡ first.console ++ (written ++ bytes))
step_failed {first = first} {turns = turns} {n = n} {visible = visible} {written = written} bytes h hidden would =
    let b = would h.now h.stands in (
      b.0,
      run_with_turn first h.before b.0 turns n (visible + 1) hidden h.ran h.chosen
          (one_more_step (turn_begun h.before n) h.now b.0 n visible h.taken b.1),
      b.2 ∙ ap (λ (l : List ℕ). l ++ bytes) h.console ∙ append_assoc first.console written bytes,
    )

-- and its turns fit
pub failed_fits : {schedule : List ℕ} {first : AbstractState} {turns : List Turn} {n visible : ℕ} {w : World}
    {written bytes : List ℕ} → (h : IsInTurn schedule first turns n visible w written) → (hidden : ℕ) →
    ((a : AbstractState) → StandsWhole w a → (b : AbstractState) × (abs_step a n ≡ Some b) × (b.console ≡ a.console ++ bytes)) →
    0 < visible + 1 + hidden → visible + 1 + hidden ≤ quantum schedule (length turns) →
    fits schedule 0 first (turns ++ turn_of n (visible + 1) hidden ∷ []) ≡ true
failed_fits {schedule = schedule} {first = first} {turns = turns} {n = n} {visible = visible} h hidden would some within =
    let b = would h.now h.stands in
    let same : length turns ≡ 0 + length turns = omega arith in
    fits_append schedule 0 first h.before b.0 turns (turn_of n (visible + 1) hidden) h.fit h.ran
    (taken_is h.before n (visible + 1) hidden h.chosen ∙ one_more_step (turn_begun h.before n) h.now b.0 n visible h.taken b.1)
    (subst (λ (k : ℕ). turn_fits schedule k true h.before (turn_of n (visible + 1) hidden) b.0 ≡ true) same
    (last_turn_fits schedule (length turns) h.before b.0 (turn_of n (visible + 1) hidden) some within))
