-- One step of a run: the turn in which it is made, and where that turn may end.
use Rattle.std.proofs.Common.{◌≡◌, ◌≢◌, ◌∙◌, ℕ, ◌+◌, ◌<◌, ◌≤◌, ◌&&◌, Bool, true, false, List, [], ◌∷◌, ◌++◌, length}
use Rattle.std.proofs.Common.{None, Option, Some, refl, sym, ap, subst, arith}
use Rattle.std.specs.Prelude.{nat_lt, unwrap_or}
use Rattle.std.proofs.lemmas.Bool.Decides.{nat_tests}
use Rattle.jos_base.specs.declared.environment.Status.{Status}
use Rattle.jos_base.specs.declared.environment.Status.TheVariants.{Runnable, Running, NotRunnable}
use Rattle.jos_base.specs.declared.numbers.TheConstants.{FIRST_ENV_ID}
use Rattle.jos_base.specs.Environments.{Slot, is_running, is_runnable}
use Rattle.jos_base.specs.KernelState.{KernelState, slot_at}
use Rattle.jos_base.specs.KernelState as kernel
use Rattle.jos_sched.specs.Quantum.{quantum}
use Rattle.jos_kernel.specs.declared.report.Turn.{Turn}
use Rattle.jos_kernel.specs.Books.{turn_of}
use Rattle.lib_os.specs.declared.place.Place.{Place}
use Rattle.lib_os.specs.declared.place.Place.TheVariants as place
use Rattle.lib_os.specs.declared.place.Step.{Step}
use Rattle.lib_os.specs.declared.place.Step.TheVariants as step
use Rattle.lib_os.specs.declared.progress.Progress.{Progress}
use Rattle.lib_os.specs.declared.progress.Progress.TheVariants as progress
use Rattle.lib_os.specs.declared.service.Service.{Service}
use Rattle.lib_os.specs.declared.service.Service.TheVariants as service
use Rattle.lib_os.specs.declared.spawn_steps.SpawnStep.{SpawnStep}
use Rattle.lib_os.specs.AbstractState.{AbstractSlot, AbstractState, Born, Server, acted, serving}
use Rattle.lib_os.specs.LibrarySteps.{Stands, NothingRefused, KeepsTurn, MayGiveUp}
use Rattle.lib_os.specs.Places.{place_of}
use Rattle.lib_os.specs.LibraryPages.{View}
use Rattle.lib_os.specs.StandsInHandler.{CopiesOrEnds, copies, ends, StandsBeneath, at_program, in_delivery, in_handing, may_follow}
use Rattle.lib_os.specs.Rows.{Names}
use Rattle.lib_os.specs.StandsFor.{AwaitsOrHas, StandsFor, StandsAt, StandsAtStep, IsStatusFor, awaits, has_reply, WaitsOrHas, waits, has, view_of}
use Rattle.lib_os.specs.StandsFor.{AwaitsFileOrHas, AwaitsOrHasBytes, awaits_bytes, awaits_file, has_bytes, has_opened}
use Rattle.lib_os.specs.StandsFor.{IsGatheringPath, StandsAtDevice, StandsBefore, descriptor_given}
use Rattle.lib_os.proofs.SlotsStand.{born_at}
use Rattle.lib_os.proofs.SpawnWaits.{SpawnCalls, asked_so, expected_so, expects_reply, has_asked, spawn_calls, unasked}
use Rattle.jos_run.specs.AbstractTurns.{turn_begun, is_yielding, may_end, stands_waiting, waits_to_reply}
use Rattle.jos_run.specs.LibraryRuns.{IsBetween, IsInTurn, visible_steps}
use Rattle.jos_run.specs.ServerStands.{KeepsWhole, MayGiveUpServing, ServerLeaves, WaitsToReply}
use Rattle.jos_run.specs.Worlds.{World, with_state}
use Rattle.jos_run.proofs.PipePlaces.{piped_silent}
use Rattle.jos_run.proofs.RunsKept.{step_hidden, step_visible, stopped_cannot, stopped_may_end, running_born}
use Rattle.jos_run.proofs.RunsKept.{turn_ends_whole, turn_ends_early, waiting_may_end, pausing_waits, yielded_may_end}
use Rattle.jos_run.proofs.RunsKept.{yielded_further, yield_tells}
use Rattle.jos_run.proofs.Choices.{only_runs}

-- ---- who is RUNNING

same_number : (x y : ℕ) → ◌≡◌ {A = Option ℕ} (Some x) (Some y) → x ≡ y
same_number x y is = ap (λ (o : Option ℕ). unwrap_or o x) is

pub awake_running : (status : Status) (blocked : Bool) → IsStatusFor status blocked → is_running status ≡ true → blocked ≡ false
awake_running Running false h runs = refl
awake_running Runnable false h runs = refl
awake_running NotRunnable true h runs = absurd (let contradiction : false ≡ true = runs in cc)
awake_running _ _ h runs = absurd h

silent_device : (v : View) (k : Slot) (b : Born) (s : Service) (o : Option ℕ) → StandsAtDevice v k b s o → k.rendezvous.receiving ≡ false
silent_device v k b s None h = absurd h
silent_device v k b s (Some fd) h = h.is_in.silent

silent_before : (so : Type 0) (v : View) (k : Slot) (b : Born) (s : Service) (done word : ℕ) → StandsBefore so v k b s done word →
    k.rendezvous.receiving ≡ false
silent_before so v k b (service.Read fd va len) done word h = h.0.silent
silent_before so v k b (service.Stat fd va) done word h = h.0.silent
silent_before so v k b (service.Write fd va len) done word h = h.0.silent
silent_before so v k b (service.Remove path) done word h = h.0.silent
silent_before so v k b (service.OpenFile path mode) done word h = h.0.silent
silent_before so v k b (service.Spawn path argv) done word h = h.0.silent
silent_before so v k b _ done word h = absurd h

silent_beneath : (v : View) (k : Slot) (b : Born) → StandsBeneath v k b → k.rendezvous.receiving ≡ false
silent_beneath v k b (at_program h) = h.silent
silent_beneath v k b (in_delivery (service.Read fd va len) done word at h) = h.0.silent
silent_beneath v k b (in_delivery (service.Stat fd va) done word at h) = h.0.silent
silent_beneath v k b (in_delivery _ done word at h) = absurd h.0
silent_beneath v k b (in_handing s done count word at h) = h.has.silent

silent_gathering : (t : Bool) (v : View) (k : Slot) (b : Born) (s : Service) (done : ℕ) → IsGatheringPath t v k b s done →
    k.rendezvous.receiving ≡ false
silent_gathering true v k b s done h = h.0.silent
silent_gathering false v k b s done h = h.is_in.silent

silent_reply : (k : Slot) (b : Born) (s : Service) → AwaitsOrHas k b s → b.blocked ≡ false → k.rendezvous.receiving ≡ false
silent_reply k b s (awaits so) awake = absurd (let contradiction : true ≡ false = sym so.blocked ∙ awake in cc)
silent_reply k b s (has_reply so) awake = so.silent

silent_opened : (v : View) (k : Slot) (b : Born) (s : Service) (fd : ℕ) → AwaitsFileOrHas v k b s fd → b.blocked ≡ false →
    k.rendezvous.receiving ≡ false
silent_opened v k b s fd (awaits_file so) awake = absurd (let contradiction : true ≡ false = sym so.blocked ∙ awake in cc)
silent_opened v k b s fd (has_opened so) awake = so.silent

silent_bytes : (v : View) (k : Slot) (b : Born) (s : Service) → AwaitsOrHasBytes v k b s → b.blocked ≡ false → k.rendezvous.receiving ≡ false
silent_bytes v k b s (awaits_bytes so) awake = absurd (let contradiction : true ≡ false = sym so.blocked ∙ awake in cc)
silent_bytes v k b s (has_bytes so) awake = so.silent

silent_spawn : (v : View) (k : Slot) (b : Born) (path argv : ℕ) (at : SpawnStep) → SpawnCalls v k b path argv at → b.blocked ≡ false →
    k.rendezvous.receiving ≡ false
silent_spawn v k b path argv at (unasked so) awake = so.is_in.silent
silent_spawn v k b path argv at (has_asked so) awake = (asked_so so).silent
silent_spawn v k b path argv at (expects_reply so) awake =
    absurd (let contradiction : true ≡ false = sym (expected_so so).1.blocked ∙ awake in cc)

silent_step : (v : View) (k : Slot) (b : Born) (s : Service) (stands : Step) → StandsAtStep v k b s stands → b.blocked ≡ false →
    k.rendezvous.receiving ≡ false
silent_step v k b s step.Entered h awake = h.silent
silent_step v k b (service.Wait id) (step.Trying perm) h awake = h.is_in.silent
silent_step v k b (service.Wait id) (step.Pausing perm) h awake = h.is_in.silent
silent_step v k b (service.Send id value va) (step.Trying perm) h awake = h.is_in.silent
silent_step v k b (service.Send id value va) (step.Pausing perm) h awake = h.is_in.silent
silent_step v k b (service.Send id value va) step.ReadingRegion h awake = h.is_in.silent
silent_step v k b (service.Send id value va) step.ReadingEntry h awake = h.0.is_in.silent
silent_step v k b (service.Receive va from) (step.Receiving id) h awake = h.is_in.silent
silent_step v k b (service.Receive va from) (step.ReadingValue id) h awake = by_come h.1
  where
    by_come : WaitsOrHas k b va from → k.rendezvous.receiving ≡ false
    by_come (waits so) = absurd (let contradiction : true ≡ false = sym so.blocked ∙ awake in cc)
    by_come (has so) = so.silent
silent_step v k b (service.Receive va from) (step.ReadingSender id value) h awake = h.2.silent
silent_step v k b (service.Receive va from) (step.ReadingPerm id value sender) h awake = h.3.silent
silent_step v k b s (step.Piped at) h awake = piped_silent v k b s at h
silent_step v k b service.Sync (step.Asking id) h awake = h.1.silent
silent_step v k b service.Sync (step.Pausing id) h awake = h.1.silent
silent_step v k b service.Sync (step.Awaiting id) h awake = h.1.silent
silent_step v k b service.Sync (step.ReadingReply id) h awake = silent_reply k b service.Sync h.1 awake
silent_step v k b service.Fork (step.ForkRegion id region) h awake = h.0.silent
silent_step v k b service.Fork (step.ForkEntry id page) h awake = h.0.silent
silent_step v k b service.Fork (step.MapChild id page perm) h awake = h.0.silent
silent_step v k b service.Fork (step.Remap id page) h awake = h.0.silent
silent_step v k b service.Fork (step.ChildStack id) h awake = h.silent
silent_step v k b service.Fork (step.ChildUpcall id) h awake = h.silent
silent_step v k b service.Fork (step.ChildRuns id) h awake = h.silent
silent_step v k b service.Exit (step.DescriptorEntry fd) h awake = h.0.silent
silent_step v k b service.Exit (step.DroppingDescriptor fd) h awake = h.0.silent
silent_step v k b service.Exit step.Ending h awake = h.0.silent
silent_step v k b (service.Close fd) (step.DescriptorEntry at) h awake = h.0.silent
silent_step v k b (service.Close fd) (step.DroppingDescriptor at) h awake = h.0.silent
silent_step v k b (service.Dup old new) (step.DescriptorEntry at) h awake = h.0.silent
silent_step v k b (service.Dup old new) step.TargetEntry h awake = h.0.silent
silent_step v k b (service.Dup old new) (step.DroppingDescriptor at) h awake = h.0.silent
silent_step v k b (service.Dup old new) step.MappingDescriptor h awake = h.0.silent
silent_step v k b s step.ReadingDevice h awake = silent_device v k b s (descriptor_given s) h
silent_step v k b s (step.BufferRegion done word) h awake = silent_before _ v k b s done word h
silent_step v k b s (step.BufferEntry done word) h awake = silent_before _ v k b s done word h
silent_step v k b s (step.Faulting done word) h awake = silent_before _ v k b s done word h
silent_step v k b s (step.CountingReply id) h awake = silent_bytes v k b s h.so awake
silent_step v k b s (step.FileRegion done count) h awake = h.silent
silent_step v k b s (step.FileEntry done count) h awake = h.0.silent
silent_step v k b s (step.LoadingBytes done count) h awake = h.has.silent
silent_step v k b s (step.LoadingRest done count first) h awake = h.has.silent
silent_step v k b s (step.PuttingBytes done count word) h awake = h.has.silent
silent_step v k b s (step.FileFaulting done count) h awake = h.0.silent
silent_step v k b s (step.Returning answer) h awake = h.silent
silent_step v k b (service.Read fd va len) (step.Delivering done word) h awake = h.0.silent
silent_step v k b (service.Stat fd va) (step.Delivering done word) h awake = h.0.silent
silent_step v k b (service.Read fd va len) (step.DescriptorEntry at) h awake = h.is_in.silent
silent_step v k b (service.Write fd va len) (step.DescriptorEntry at) h awake = h.is_in.silent
silent_step v k b (service.Seek fd offset) (step.DescriptorEntry at) h awake = h.is_in.silent
silent_step v k b (service.Stat fd va) (step.DescriptorEntry at) h awake = h.is_in.silent
silent_step v k b (service.SetSize fd size) (step.DescriptorEntry at) h awake = h.is_in.silent
silent_step v k b (service.Read fd va len) step.Getting h awake = h.is_in.silent
silent_step v k b (service.Write fd va len) step.TakingPage h awake = h.0.silent
silent_step v k b (service.Write fd va len) (step.GatheringBytes done start) h awake = h.0.silent
silent_step v k b (service.Write fd va len) (step.KeepingBytes done word left start) h awake = h.is_in.silent
silent_step v k b (service.Write fd va len) step.Printing h awake = h.is_in.silent
silent_step v k b (service.Write fd va len) step.Releasing h awake = h.silent
silent_step v k b (service.Write fd va len) step.ReadingMode h awake = h.is_in.silent
silent_step v k b (service.Write fd va len) step.TakingRequest h awake = h.0.silent
silent_step v k b (service.Write fd va len) step.ReadingNumber h awake = h.of_file.is_in.silent
silent_step v k b (service.Write fd va len) (step.StoringNumber number) h awake = h.asks.of_file.is_in.silent
silent_step v k b (service.Write fd va len) step.StoringCount h awake = h.asks.of_file.is_in.silent
silent_step v k b (service.Write fd va len) step.Identifying h awake = h.asks.of_file.is_in.silent
silent_step v k b (service.Write fd va len) (step.Asking id) h awake = h.1.asks.of_file.is_in.silent
silent_step v k b (service.Write fd va len) (step.Pausing id) h awake = h.1.asks.of_file.is_in.silent
silent_step v k b (service.Write fd va len) (step.Awaiting id) h awake = h.1.silent
silent_step v k b (service.Write fd va len) (step.Clearing id) h awake = silent_reply k b (service.Write fd va len) h.1 awake
silent_step v k b (service.Write fd va len) (step.ReadingReply id) h awake = h.1.silent
silent_step v k b (service.Seek fd offset) step.TakingPage h awake = h.of_file.is_in.silent
silent_step v k b (service.Seek fd offset) step.ReadingNumber h awake = h.of_file.is_in.silent
silent_step v k b (service.Seek fd offset) (step.StoringNumber number) h awake = h.asks.of_file.is_in.silent
silent_step v k b (service.Seek fd offset) step.StoringCount h awake = h.asks.of_file.is_in.silent
silent_step v k b (service.Seek fd offset) step.Identifying h awake = h.asks.of_file.is_in.silent
silent_step v k b (service.Seek fd offset) (step.Asking id) h awake = h.1.asks.of_file.is_in.silent
silent_step v k b (service.Seek fd offset) (step.Pausing id) h awake = h.1.asks.of_file.is_in.silent
silent_step v k b (service.Seek fd offset) (step.Awaiting id) h awake = h.1.silent
silent_step v k b (service.Seek fd offset) (step.Clearing id) h awake = silent_reply k b (service.Seek fd offset) h.1 awake
silent_step v k b (service.Seek fd offset) (step.ReadingReply id) h awake = h.1.silent
silent_step v k b (service.SetSize fd size) step.ReadingMode h awake = h.is_in.silent
silent_step v k b (service.SetSize fd size) step.TakingPage h awake = h.of_file.is_in.silent
silent_step v k b (service.SetSize fd size) step.ReadingNumber h awake = h.of_file.is_in.silent
silent_step v k b (service.SetSize fd size) (step.StoringNumber number) h awake = h.asks.of_file.is_in.silent
silent_step v k b (service.SetSize fd size) step.StoringCount h awake = h.asks.of_file.is_in.silent
silent_step v k b (service.SetSize fd size) step.Identifying h awake = h.asks.of_file.is_in.silent
silent_step v k b (service.SetSize fd size) (step.Asking id) h awake = h.1.asks.of_file.is_in.silent
silent_step v k b (service.SetSize fd size) (step.Pausing id) h awake = h.1.asks.of_file.is_in.silent
silent_step v k b (service.SetSize fd size) (step.Awaiting id) h awake = h.1.silent
silent_step v k b (service.SetSize fd size) (step.Clearing id) h awake = silent_reply k b (service.SetSize fd size) h.1 awake
silent_step v k b (service.SetSize fd size) (step.ReadingReply id) h awake = h.1.silent
silent_step v k b (service.Read fd va len) step.ReadingMode h awake = h.is_in.silent
silent_step v k b (service.Read fd va len) step.TakingPage h awake = h.of_file.is_in.silent
silent_step v k b (service.Read fd va len) step.ReadingNumber h awake = h.of_file.is_in.silent
silent_step v k b (service.Read fd va len) (step.StoringNumber number) h awake = h.asks.of_file.is_in.silent
silent_step v k b (service.Read fd va len) step.StoringCount h awake = h.asks.of_file.is_in.silent
silent_step v k b (service.Read fd va len) step.Identifying h awake = h.asks.of_file.is_in.silent
silent_step v k b (service.Read fd va len) (step.Asking id) h awake = h.1.asks.of_file.is_in.silent
silent_step v k b (service.Read fd va len) (step.Pausing id) h awake = h.1.asks.of_file.is_in.silent
silent_step v k b (service.Read fd va len) (step.Awaiting id) h awake = h.1.silent
silent_step v k b (service.Read fd va len) (step.Clearing id) h awake = h.1.silent
silent_step v k b (service.Read fd va len) (step.ReadingReply id) h awake = h.1.silent
silent_step v k b (service.Stat fd va) step.TakingPage h awake = h.of_file.is_in.silent
silent_step v k b (service.Stat fd va) step.ReadingNumber h awake = h.of_file.is_in.silent
silent_step v k b (service.Stat fd va) (step.StoringNumber number) h awake = h.asks.of_file.is_in.silent
silent_step v k b (service.Stat fd va) step.StoringCount h awake = h.asks.of_file.is_in.silent
silent_step v k b (service.Stat fd va) step.Identifying h awake = h.asks.of_file.is_in.silent
silent_step v k b (service.Stat fd va) (step.Asking id) h awake = h.1.asks.of_file.is_in.silent
silent_step v k b (service.Stat fd va) (step.Pausing id) h awake = h.1.asks.of_file.is_in.silent
silent_step v k b (service.Stat fd va) (step.Awaiting id) h awake = h.1.silent
silent_step v k b (service.Stat fd va) (step.Clearing id) h awake = h.1.silent
silent_step v k b (service.Stat fd va) (step.ReadingReply id) h awake = h.1.silent
silent_step v k b (service.OpenFile path mode) step.TakingPage h awake = h.0.silent
silent_step v k b (service.OpenFile path mode) (step.Gathering done) h awake = silent_gathering (may_follow path done) v k b (service.OpenFile path mode) done h
silent_step v k b (service.OpenFile path mode) (step.Keeping done word left) h awake = h.is_in.silent
silent_step v k b (service.OpenFile path mode) step.FreeRegion h awake = h.is_in.silent
silent_step v k b (service.OpenFile path mode) (step.FreeEntry fd) h awake = h.whole.is_in.silent
silent_step v k b (service.OpenFile path mode) (step.StoringMode fd) h awake = h.whole.is_in.silent
silent_step v k b (service.OpenFile path mode) (step.OpenIdentifying fd) h awake = h.1.whole.is_in.silent
silent_step v k b (service.OpenFile path mode) (step.OpenAsking id fd) h awake = h.2.whole.is_in.silent
silent_step v k b (service.OpenFile path mode) (step.OpenPausing id fd) h awake = h.2.whole.is_in.silent
silent_step v k b (service.OpenFile path mode) (step.OpenAwaiting id fd) h awake = h.2.silent
silent_step v k b (service.OpenFile path mode) (step.OpenClearing id fd) h awake = silent_opened v k b (service.OpenFile path mode) fd h.1 awake
silent_step v k b (service.OpenFile path mode) (step.ReadingOpened id fd) h awake = h.1.silent
silent_step v k b service.Pipe (step.FreeEntry fd) h awake = h.0.silent
silent_step v k b (service.Remove path) step.TakingPage h awake = h.0.silent
silent_step v k b (service.Remove path) (step.Gathering done) h awake = silent_gathering (may_follow path done) v k b (service.Remove path) done h
silent_step v k b (service.Remove path) (step.Keeping done word left) h awake = h.is_in.silent
silent_step v k b (service.Remove path) step.Identifying h awake = h.is_in.silent
silent_step v k b (service.Remove path) (step.Asking id) h awake = h.1.is_in.silent
silent_step v k b (service.Remove path) (step.Pausing id) h awake = h.1.is_in.silent
silent_step v k b (service.Remove path) (step.Awaiting id) h awake = h.1.silent
silent_step v k b (service.Remove path) (step.Clearing id) h awake = silent_reply k b (service.Remove path) h.1 awake
silent_step v k b (service.Remove path) (step.ReadingReply id) h awake = h.1.silent
silent_step v k b (service.Spawn path argv) step.TakingPage h awake = h.0.silent
silent_step v k b (service.Spawn path argv) (step.Gathering done) h awake =
    silent_gathering (may_follow path done) v k b (service.Spawn path argv) done h
silent_step v k b (service.Spawn path argv) (step.Keeping done word left) h awake = h.is_in.silent
silent_step v k b (service.Spawn path argv) (step.Spawning at) h awake = silent_spawn v k b path argv at (spawn_calls v k b path argv at h) awake
silent_step v k b _ _ h awake = absurd h

silent_at : (v : View) (k : Slot) (b : Born) (p : Place) → StandsAt p v k b → b.blocked ≡ false → k.rendezvous.receiving ≡ false
silent_at v k b place.Guest h awake = h.silent
silent_at v k b (place.InService s stands) h awake = silent_step v k b s stands h awake
silent_at v k b (place.InHandler stands) h awake = by_way h.way
  where
    by_way : CopiesOrEnds stands v k b h.fault h.regs → k.rendezvous.receiving ≡ false
    by_way (copies way) = silent_beneath v (record k { registers = h.regs }) b way.beneath
    by_way (ends way) = way.silent

-- it waits for no message
pub running_silent : {names : Names} {s : KernelState} {a : AbstractState} → StandsFor names s a → (n : ℕ) → n ≢ 0 →
    is_running (slot_at s n).status ≡ true → (slot_at s n).rendezvous.receiving ≡ false
running_silent {s = s} h n other runs =
    let who = running_born h n other runs in
    let own = born_at h n who.0 who.1 in
    silent_at (view_of s.spaces (slot_at s n).directory) (slot_at s n) who.0 (place_of (slot_at s n)) own.at
    (awake_running (slot_at s n).status who.0.blocked own.runs runs)

-- ---- a step

-- In the turn under way the abstract system has come so far, and where its environment is not RUNNING any more the turn may end.
pub record Comes (schedule : List ℕ) (first : AbstractState) (turns : List Turn) (n visible hidden : ℕ) (w : World)
    (written : List ℕ) : Type 0 where
  pub in_turn : IsInTurn schedule first turns n visible w written
  pub early : is_running (slot_at w.state n).status ≡ false → may_end in_turn.before (turn_of n visible hidden) in_turn.now ≡ true

-- it can't run on
stopped : {schedule : List ℕ} {first : AbstractState} {turns : List Turn} {n visible : ℕ} {w : World} {written : List ℕ} →
    (h : IsInTurn schedule first turns n visible w written) → (hidden : ℕ) → is_running (slot_at w.state n).status ≡ false →
    is_runnable (slot_at w.state n).status ≡ false → may_end h.before (turn_of n visible hidden) h.now ≡ true
stopped {n = n} {visible = visible} h hidden idle_now asleep =
    stopped_may_end h.before h.now (turn_of n visible hidden) (stopped_cannot h.stands.0.1 n idle_now asleep)

-- where it is not even RUNNABLE, or may give up its turn
comes_by : {schedule : List ℕ} {first : AbstractState} {turns : List Turn} {n visible hidden : ℕ} {w : World} {written : List ℕ} →
    (h : IsInTurn schedule first turns n visible w written) →
    (is_runnable (slot_at w.state n).status ≡ true → may_end h.before (turn_of n visible hidden) h.now ≡ true) →
    Comes schedule first turns n visible hidden w written
comes_by {n = n} {visible = visible} {hidden = hidden} {w = w} h may = record {
  in_turn = h;
  early = λ idle_now. by_test (is_runnable (slot_at w.state n).status) refl idle_now;
}
  where
    by_test : (c : Bool) → is_runnable (slot_at w.state n).status ≡ c → is_running (slot_at w.state n).status ≡ false →
        may_end h.before (turn_of n visible hidden) h.now ≡ true
    by_test true is idle_now = may is
    by_test false is idle_now = stopped h hidden idle_now is

-- by what its step has come to the slot may give up its turn
abbrev MayEndBy : Progress → AbstractState → ℕ → Type 0
MayEndBy progress.Hidden a n = stands_waiting a n (a.slots n) ≡ true
MayEndBy progress.Finished a n = is_yielding (a.slots n) ≡ true
MayEndBy _ a n = ⊥

comes : {schedule : List ℕ} {first : AbstractState} {turns : List Turn} {n visible : ℕ} {w after : World} {written : List ℕ}
    (bytes : List ℕ) →
    (h : IsInTurn schedule first turns n visible w written) → (done : Progress) → KeepsWhole done n w after bytes → NothingRefused w.state after.state →
    after.state.last ≡ Some n → is_running (slot_at w.state n).status ≡ true →
    (is_runnable (slot_at after.state n).status ≡ true → MayEndBy done h.now n) → (hidden : ℕ) →
    Comes schedule first turns n (visible + visible_steps done) hidden after (written ++ bytes)
unfolding step_hidden step_visible
comes {n = n} {visible = visible} bytes h progress.Hidden keeps none_refused last runs gives hidden =
    let stays = keeps h.now h.stands (λ other. runs) none_refused in
    let only = only_runs stays.1.0.1 n last in
    comes_by (step_hidden bytes h stays only)
    (λ ready. waiting_may_end h.before h.now (turn_of n (visible + 0) hidden) (gives ready))
comes {n = n} bytes h progress.Waited keeps none_refused last runs gives hidden =
    let stays = (keeps h.now h.stands (λ other. runs) none_refused).0 in
    comes_by (step_hidden bytes h stays (only_runs stays.1.0.1 n last)) (λ ready. absurd (gives ready))
comes {n = n} bytes h progress.Visible keeps none_refused last runs gives hidden =
    let goes_on = keeps h.now h.stands (λ other. runs) none_refused in
    comes_by (step_visible bytes h goes_on (only_runs goes_on.3.0.1 n last)) (λ ready. absurd (gives ready))
comes {n = n} {visible = visible} bytes h progress.Finished keeps none_refused last runs gives hidden =
    let goes_on = keeps h.now h.stands (λ other. runs) none_refused in
    let only = only_runs goes_on.3.0.1 n last in
    comes_by (step_visible bytes h goes_on only)
    (λ ready. yielded_may_end h.before goes_on.0 (turn_of n (visible + 1) hidden)
    (yielded_further n (turn_begun h.before n) h.now visible h.taken (gives ready)))
comes {n = n} bytes h progress.Ended keeps none_refused last runs gives hidden =
    let goes_on = keeps h.now h.stands (λ other. runs) none_refused in
    comes_by (step_visible bytes h goes_on (only_runs goes_on.3.0.1 n last)) (λ ready. absurd (gives ready))

others_may : {names : Names} {s : KernelState} {a : AbstractState} → StandsFor names s a → (n : ℕ) → n ≢ 0 → is_running (slot_at s n).status ≡ true →
    (done : Progress) → MayGiveUp done (place_of (slot_at s n)) → MayEndBy done a n
others_may h n other runs progress.Hidden may = pausing_waits h n other runs may
others_may h n other runs progress.Finished may = yield_tells h n other runs may
others_may h n other runs _ may = absurd may

server_may : (a : AbstractState) (id : ℕ) → a.slots 0 ≡ serving id → (done : Progress) → MayGiveUpServing done a → MayEndBy done a 0
server_may a id first progress.Hidden may = ap (λ (slot : AbstractSlot). stands_waiting a 0 slot) first ∙ by_server a.server may
  where
    by_server : (server : Server) → WaitsToReply server → waits_to_reply server ≡ true
    by_server (acted client answer bytes object) is = refl
    by_server _ is = absurd is
server_may a id first _ may = absurd may

-- A step of the slot that has its turn, where nothing was refused: of another than the file server,
pub stepped : {schedule : List ℕ} {first : AbstractState} {turns : List Turn} {n visible : ℕ} {w after : World}
    {written : List ℕ} (bytes : List ℕ) →
    n ≢ 0 → IsInTurn schedule first turns n visible w written → (done : Progress) → KeepsWhole done n w after bytes → NothingRefused w.state after.state →
    after.state.last ≡ Some n → is_running (slot_at w.state n).status ≡ true →
    ((a : AbstractState) → Stands w.state a → KeepsTurn done (slot_at w.state n) (slot_at after.state n)) → (hidden : ℕ) →
    Comes schedule first turns n (visible + visible_steps done) hidden after (written ++ bytes)
stepped {n = n} bytes other h done keeps none_refused last runs turn hidden =
    comes bytes h done keeps none_refused last runs
    (λ ready. others_may h.stands.0.1 n other runs done (turn h.now h.stands.0 runs (running_silent h.stands.0.1 n other runs) ready)) hidden

-- or of the file server
pub server_stepped : {schedule : List ℕ} {first : AbstractState} {turns : List Turn} {n visible : ℕ} {w after : World}
    {written : List ℕ} (bytes : List ℕ) →
    n ≡ 0 → IsInTurn schedule first turns n visible w written → (done : Progress) → KeepsWhole done n w after bytes → NothingRefused w.state after.state →
    after.state.last ≡ Some n → is_running (slot_at w.state n).status ≡ true → ServerLeaves w.disk done w.state after.state → (hidden : ℕ) →
    Comes schedule first turns n (visible + visible_steps done) hidden after (written ++ bytes)
server_stepped {n = n} {w = w} {after = after} bytes zero h done keeps none_refused last runs left hidden =
    comes bytes h done keeps none_refused last runs
    (λ ready. subst (λ (m : ℕ). MayEndBy done h.now m) (sym zero) (server_may h.now FIRST_ENV_ID h.stands.0.1.first done
    (left.turn h.now h.stands.0 h.stands.1 (ap (λ (m : ℕ). is_running (slot_at w.state m).status) (sym zero) ∙ runs)
    (ap (λ (m : ℕ). is_runnable (slot_at after.state m).status) (sym zero) ∙ ready)))) hidden

-- ---- the turn behind the step

-- It goes on where its environment is RUNNING and has steps left; else it is over.
pub turn_over : {schedule : List ℕ} {first : AbstractState} {turns : List Turn} {n visible hidden : ℕ} {w : World}
    {written : List ℕ} →
    Comes schedule first turns n visible hidden w written → 0 < visible + hidden → visible + hidden ≤ quantum schedule (length turns) →
    (is_running (slot_at w.state n).status && nat_lt (visible + hidden) (quantum schedule (length turns))) ≡ false →
    IsBetween schedule first (turns ++ turn_of n visible hidden ∷ []) (with_state w (kernel.turn_ended w.state n)) written
turn_over {schedule = schedule} {first = first} {turns = turns} {n = n} {visible = visible} {hidden = hidden} {w = w}
    {written = written} h some within over =
    by_whole (nat_lt (visible + hidden) (quantum schedule (length turns))) refl
  where
    over_and : (c d : Bool) → (c && d) ≡ false → d ≡ true → c ≡ false
    over_and true d e is = absurd (let contradiction : true ≡ false = sym is ∙ e in cc)
    over_and false d e is = refl

    by_whole : (c : Bool) → nat_lt (visible + hidden) (quantum schedule (length turns)) ≡ c →
        IsBetween schedule first (turns ++ turn_of n visible hidden ∷ []) (with_state w (kernel.turn_ended w.state n)) written
    by_whole true is =
        turn_ends_early h.in_turn hidden some within
        (h.early (over_and (is_running (slot_at w.state n).status) (nat_lt (visible + hidden) (quantum schedule (length turns))) over is))
    by_whole false is =
        let whole : visible + hidden ≡ quantum schedule (length turns) = grind (arith, nat_tests) in
        turn_ends_whole h.in_turn hidden some whole
