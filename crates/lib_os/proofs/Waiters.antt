-- Who waits for a message, waits in both systems: a receiver in its service, and nobody else. One that is waited for by the
-- kernel's words is taken by the abstract system, and the other way round.
use Rattle.std.proofs.Common.{◌≡◌, ◌≢◌, ◌∙◌, ◌⊎◌, inl, inr, ◌≤◌, ◌%◌, ◌==◌, ◌&&◌, ◌||◌, ℕ, Bool, true, false, Option, Some, None, List, ◌<◌, ◌+◌, ◌*◌}
use Rattle.std.proofs.Common.{[], ◌∷◌, suc}
use Rattle.std.proofs.Common.{refl, sym, ap, subst, arith, if◌then◌else◌}
use Rattle.std.specs.Prelude.{nat_lt}
use Rattle.std.proofs.lemmas.Bool.Decides.{nat_tests}
use Rattle.jos_base.specs.declared.memory.PageFault.{PageFault}
use Rattle.jos_base.specs.declared.numbers.TheConstants.{FDTABLE, FIRST_ENV_ID, NENV, PGSIZE, UTEMP, UTOP}
use Rattle.lib_os.specs.declared.numbers.TheConstants.{DESCRIPTORS}
use Rattle.jos_base.specs.declared.registers.Regs.{Regs}
use Rattle.jos_base.specs.Environments.{Slot}
use Rattle.jos_base.specs.KernelState.{KernelState, slot_at}
use Rattle.jos_base.specs.Messages.{Rendezvous, accepts}
use Rattle.jos_base.specs.Words.{page_number}
use Rattle.lib_os.specs.declared.place.HandlerStep.{HandlerStep}
use Rattle.lib_os.specs.declared.place.PipeStep.{PipeStep}
use Rattle.lib_os.specs.declared.place.PipeStep.TheVariants as pipe
use Rattle.lib_os.specs.declared.place.Place.{Place}
use Rattle.lib_os.specs.declared.place.Place.TheVariants as place
use Rattle.lib_os.specs.declared.place.Step.{Step}
use Rattle.lib_os.specs.declared.place.Step.TheVariants as step
use Rattle.lib_os.specs.declared.service.Service.{Service}
use Rattle.lib_os.specs.declared.service.Service.TheVariants as service
use Rattle.lib_os.specs.declared.spawn_steps.SpawnStep.{SpawnStep}
use Rattle.lib_os.specs.AbstractState.{AbstractState, Born, born, Phase, Stage, awaiting, entered, gathering}
use Rattle.lib_os.specs.AbstractMessages.{Receiver, waiting_at, waiting_in, takes, sent, sent_to_waiting}
use Rattle.lib_os.specs.Fence.{in_fence, is_page_inside}
use Rattle.lib_os.specs.LibraryPages.{View}
use Rattle.lib_os.specs.Places.{place_of}
use Rattle.lib_os.specs.Rows.{Names, is_programs}
use Rattle.lib_os.specs.AbstractState.{in_service, replied}
use Rattle.lib_os.specs.InService.{IsIn}
use Rattle.lib_os.specs.StandsAtPipe.{HasMoved, StandsAtPipe, StandsMoving, StandsOnPipe}
use Rattle.lib_os.specs.StandsFor.{AwaitsOrHasBytes, IsCounting, awaits_bytes, has_bytes}
use Rattle.lib_os.specs.StandsInHandler.{HandsAt, HasBytes, behind, by_reply, handing, hands_back, in_handing}
use Rattle.lib_os.specs.StandsAtSpawn.{IsAwaitingReply, destination_at}
use Rattle.lib_os.specs.StandsFor.{StandsFor, StandsAt, StandsAtStep, view_of, IsReceiving, HasReceived, IsBearing}
use Rattle.lib_os.specs.StandsFor.{AwaitsFileOrHas, AwaitsOrHas, HasWholePath, awaits, awaits_file, has_opened, has_reply}
use Rattle.lib_os.specs.StandsFor.{WaitsOrHas, waits, has, destination_of, StandsAtDevice, StandsBefore, IsTaking, descriptor_given}
use Rattle.lib_os.specs.StandsInHandler.{CopiesOrEnds, copies, ends, StandsDelivering, StandsBeneath, at_program, in_delivery}
use Rattle.lib_os.specs.StandsFor.{AsksOfFile, IsGatheringPath, IsTakingPath}
use Rattle.lib_os.specs.StandsInHandler.{IsStoppedAt, listed, marked, may_follow, quoted, reading, telling, writing, following, stage_with}
use Rattle.lib_os.proofs.Logical.{page_inside_programs}
use Rattle.lib_os.proofs.SlotsStand.{born_at, born_live}
use Rattle.lib_os.proofs.SpawnWaits.{SpawnCalls, SpawnAwaits, asked_so, expects_file, expects_part, expects_reply, has_asked, spawn_calls, unasked}
use Rattle.lib_os.proofs.StatesStand.{born_not_first}

-- ---- at each place

-- It waits in receive, and stands where it will read the word.
pub record Waits (p : Place) (k : Slot) (c : Born) : Type 0 where
  pub w : Receiver
  pub id : ℕ
  pub at : p ≡ place.InService (service.Receive w.va w.from) (step.ReadingValue id)
  pub self : id ≡ k.id
  pub so : IsReceiving k c w.va w.from

-- It waits for nobody, or for the file server alone.
pub data IsDeaf (r : Rendezvous) : Type 0 where
  quiet : r.receiving ≡ false → IsDeaf r
  for_server : r.receiving ≡ true → r.wanted ≡ FIRST_ENV_ID → r.destination ≡ UTOP → IsDeaf r
  for_file : r.receiving ≡ true → r.wanted ≡ FIRST_ENV_ID → (fd : ℕ) → fd < DESCRIPTORS → r.destination ≡ FDTABLE + PGSIZE * fd → IsDeaf r

-- It waits in neither system.
pub record WaitsNot (k : Slot) (c : Born) : Type 0 where
  pub deaf : IsDeaf k.rendezvous
  pub nowhere : waiting_in c.phase ≡ None

-- it takes nothing of another
by_server : (r : Rendezvous) → r.receiving ≡ true → r.wanted ≡ FIRST_ENV_ID → (sender : ℕ) → sender ≢ FIRST_ENV_ID → accepts r sender ≡ false
by_server r receiving wanted sender other =
    (λ i. receiving i && ((wanted i == 0) || (wanted i == sender))) ∙ by_test (FIRST_ENV_ID == sender) refl
  where
    by_test : (t : Bool) → (FIRST_ENV_ID == sender) ≡ t → (true && ((FIRST_ENV_ID == 0) || t)) ≡ false
    by_test true is = absurd (other (grind (arith, nat_tests)))
    by_test false is = refl

none_taken : (r : Rendezvous) → IsDeaf r → (sender : ℕ) → sender ≢ FIRST_ENV_ID → accepts r sender ≡ false
none_taken r (quiet is) sender other = λ i. is i && ((r.wanted == 0) || (r.wanted == sender))
none_taken r (for_server receiving wanted page) sender other = by_server r receiving wanted sender other
none_taken r (for_file receiving wanted fd below page) sender other = by_server r receiving wanted sender other

entered_only : (s : Service) → waiting_at s entered ≡ None
entered_only (service.Receive va from) = refl
entered_only _ = refl

gathering_only : (s : Service) (bytes : List ℕ) → waiting_at s (gathering bytes) ≡ None
gathering_only (service.Receive va from) bytes = refl
gathering_only _ bytes = refl

staged_only : (s : Service) (bytes : List ℕ) → waiting_at s (stage_with bytes) ≡ None
staged_only s [] = entered_only s
staged_only s (byte ∷ rest) = gathering_only s (byte ∷ rest)

in_silence : {k : Slot} {c : Born} (s : Service) → IsIn k c s entered → WaitsNot k c
in_silence s h = record { deaf = quiet h.silent; nowhere = ap (λ (p : Phase). waiting_in p) h.phase ∙ entered_only s }

bearing_silent : {k : Slot} {c : Born} (id : ℕ) → IsBearing k c id → WaitsNot k c
bearing_silent id h = record { deaf = quiet h.silent; nowhere = ap (λ (p : Phase). waiting_in p) h.phase }

has_come : {k : Slot} {c : Born} {va from : ℕ} → HasReceived k c va from → WaitsNot k c
has_come h = record { deaf = quiet h.silent; nowhere = ap (λ (p : Phase). waiting_in p) h.phase }

-- it moves bytes
delivers : {k : Slot} {c : Born} (s : Service) (done word : ℕ) → StandsDelivering s done word k c → WaitsNot k c
delivers (service.Read fd va len) done word h = record { deaf = quiet h.silent; nowhere = ap (λ (p : Phase). waiting_in p) h.phase }
delivers (service.Stat fd va) done word h = record { deaf = quiet h.silent; nowhere = ap (λ (p : Phase). waiting_in p) h.phase }
delivers _ done word h = absurd h

takes_bytes : {v : View} {k : Slot} {c : Born} (fd va len start done : ℕ) → IsTaking v k c fd va len start done → WaitsNot k c
takes_bytes fd va len start done h = record { deaf = quiet h.silent; nowhere = ap (λ (p : Phase). waiting_in p) h.wants.phase }

takes_path : {v : View} {k : Slot} {c : Born} (s : Service) (done : ℕ) → IsTakingPath v k c s done → WaitsNot k c
takes_path s done h = record { deaf = quiet h.silent; nowhere = ap (λ (p : Phase). waiting_in p) h.wants.phase ∙ staged_only s h.bytes }

gathers_bytes : (v : View) {k : Slot} {c : Born} (t : Bool) (s : Service) (done : ℕ) → IsGatheringPath t v k c s done → WaitsNot k c
gathers_bytes v true s done h = takes_path s done h.0
gathers_bytes v false s done h =
    record { deaf = quiet h.is_in.silent; nowhere = ap (λ (p : Phase). waiting_in p) h.is_in.phase ∙ staged_only s h.bytes }

-- its page has a path
has_path : {v : View} {k : Slot} {c : Born} {s : Service} → HasWholePath v k c s → WaitsNot k c
has_path {s = s} h =
    record { deaf = quiet h.is_in.silent; nowhere = ap (λ (p : Phase). waiting_in p) h.is_in.phase ∙ gathering_only s h.bytes }

before_byte : (so : Type 0) (v : View) {k : Slot} {c : Born} (s : Service) (done word : ℕ) → StandsBefore so v k c s done word → WaitsNot k c
before_byte so v (service.Read fd va len) done word h = delivers (service.Read fd va len) done word h.0
before_byte so v (service.Stat fd va) done word h = delivers (service.Stat fd va) done word h.0
before_byte so v (service.Write fd va len) done word h = takes_bytes fd va len word done h.0
before_byte so v (service.Remove path) done word h = takes_path (service.Remove path) done h.0
before_byte so v (service.OpenFile path mode) done word h = takes_path (service.OpenFile path mode) done h.0
before_byte so v (service.Spawn path argv) done word h = takes_path (service.Spawn path argv) done h.0
before_byte so v _ done word h = absurd h

-- it is about to ask of a file
asks_silent : {v : View} {k : Slot} {c : Born} (s : Service) (fd : ℕ) → AsksOfFile v k c s fd → WaitsNot k c
asks_silent (service.Seek of offset) fd h =
    record { deaf = quiet h.of_file.is_in.silent; nowhere = ap (λ (p : Phase). waiting_in p) h.of_file.is_in.phase }
asks_silent (service.SetSize of size) fd h =
    record { deaf = quiet h.of_file.is_in.silent; nowhere = ap (λ (p : Phase). waiting_in p) h.of_file.is_in.phase }
asks_silent (service.Write of va len) fd h =
    record { deaf = quiet h.of_file.is_in.silent; nowhere = ap (λ (p : Phase). waiting_in p) h.of_file.is_in.phase }
asks_silent (service.Read of va len) fd h =
    record { deaf = quiet h.of_file.is_in.silent; nowhere = ap (λ (p : Phase). waiting_in p) h.of_file.is_in.phase }
asks_silent (service.Stat of va) fd h =
    record { deaf = quiet h.of_file.is_in.silent; nowhere = ap (λ (p : Phase). waiting_in p) h.of_file.is_in.phase }
asks_silent _ fd h = absurd h.allowed

-- it has asked that, and waits for the reply, or has it
asks_or_waits : {k : Slot} {c : Born} (s : Service) (at : Step) → waiting_at s awaiting ≡ None →
    ((stage : Stage) → waiting_at s stage ≡ None) → AwaitsOrHas k c s → WaitsNot k c ⊎ Waits (place.InService s at) k c
asks_or_waits s at none each (awaits so) =
    inl (record { deaf = for_server so.rendezvous so.wanted so.destination; nowhere = ap (λ (p : Phase). waiting_in p) so.phase ∙ none })
asks_or_waits s at none each (has_reply so) = inl (record { deaf = quiet so.silent; nowhere = ap (λ (p : Phase). waiting_in p) so.phase ∙ each _ })

at_device : (v : View) {k : Slot} {c : Born} (s : Service) (o : Option ℕ) → StandsAtDevice v k c s o → WaitsNot k c
at_device v s None h = absurd h
at_device v s (Some fd) h = in_silence s h.is_in

-- it has bytes of a file, or of a pipe
handing_nowhere : (s : Service) (stage : Stage) → hands_back s ≡ true → waiting_in (in_service s stage) ≡ None
handing_nowhere (service.Read fd at len) stage hands = refl
handing_nowhere (service.Stat fd at) stage hands = refl
handing_nowhere _ stage hands = absurd (let contradiction : false ≡ true = hands in cc)

handed_nowhere : (c : Born) (s : Service) (bytes : List ℕ) (answer done : ℕ) (q : Phase) → hands_back s ≡ true → c.phase ≡ q →
    HandsAt s bytes answer done q → waiting_in c.phase ≡ None
handed_nowhere c s bytes answer _ _ hands same by_reply = ap (λ (p : Phase). waiting_in p) same ∙ handing_nowhere s _ hands
handed_nowhere c s bytes answer _ _ hands same (behind done) = ap (λ (p : Phase). waiting_in p) same ∙ handing_nowhere s _ hands

hands_bytes : {v : View} {k : Slot} {c : Born} (s : Service) (done count : ℕ) → HasBytes v k c s done count → WaitsNot k c
hands_bytes {c = c} s done count h =
    record { deaf = quiet h.silent; nowhere = handed_nowhere c s h.bytes _ done c.phase h.hands refl h.hands_at }

counts_bytes : (v : View) (k : Slot) (c : Born) (s : Service) (id : ℕ) → IsCounting v k c s id → WaitsNot k c
counts_bytes v k c s id h = by_service s h.hands h.so
  where
    by_service : (s : Service) → hands_back s ≡ true → AwaitsOrHasBytes v k c s → WaitsNot k c
    by_service (service.Read fd va len) hands (awaits_bytes so) =
        record { deaf = for_server so.rendezvous so.wanted so.destination; nowhere = ap (λ (p : Phase). waiting_in p) so.phase }
    by_service (service.Stat fd va) hands (awaits_bytes so) =
        record { deaf = for_server so.rendezvous so.wanted so.destination; nowhere = ap (λ (p : Phase). waiting_in p) so.phase }
    by_service (service.Read fd va len) hands (has_bytes so) =
        record { deaf = quiet so.silent; nowhere = ap (λ (p : Phase). waiting_in p) so.phase }
    by_service (service.Stat fd va) hands (has_bytes so) =
        record { deaf = quiet so.silent; nowhere = ap (λ (p : Phase). waiting_in p) so.phase }
    by_service _ hands so = absurd (let contradiction : false ≡ true = hands in cc)

-- it moves bytes from or to a pipe
moved_silent : (v : View) (k : Slot) (c : Born) (s : Service) (done : ℕ) → HasMoved v k c s done → WaitsNot k c
moved_silent v k c (service.Read fd va len) done h = record { deaf = quiet h.is_in.silent; nowhere = ap (λ (p : Phase). waiting_in p) h.is_in.phase }
moved_silent v k c (service.Write fd va len) done h = record { deaf = quiet h.is_in.silent; nowhere = ap (λ (p : Phase). waiting_in p) h.is_in.phase }
moved_silent v k c _ done h = absurd h

held_none : (v : View) (k : Slot) (c : Born) (s : Service) (done from : ℕ) → StandsMoving v k c s (pipe.LoadingHeld done from) → WaitsNot k c
held_none v k c (service.Read fd va len) done from h = moved_silent v k c (service.Read fd va len) done h.0.0
held_none v k c _ done from h = absurd h

kept_none : (v : View) (k : Slot) (c : Born) (s : Service) (done from byte : ℕ) → StandsMoving v k c s (pipe.KeepingHeld done from byte) →
    WaitsNot k c
kept_none v k c (service.Read fd va len) done from byte h = moved_silent v k c (service.Read fd va len) done h.0.0
kept_none v k c _ done from byte h = absurd h

gone_none : (v : View) (k : Slot) (c : Born) (s : Service) (done from : ℕ) → StandsMoving v k c s (pipe.TakingHeld done from) → WaitsNot k c
gone_none v k c (service.Read fd va len) done from h = moved_silent v k c (service.Read fd va len) done h.0.0
gone_none v k c _ done from h = absurd h

ended_none : (v : View) (k : Slot) (c : Born) (s : Service) (done : ℕ) → StandsMoving v k c s (pipe.UnlockingEnd done) → WaitsNot k c
ended_none v k c (service.Read fd va len) done h = hands_bytes (service.Read fd va len) 0 done h.0
ended_none v k c _ done h = absurd h

loaded_none : (v : View) (k : Slot) (c : Born) (s : Service) (done to : ℕ) → StandsMoving v k c s (pipe.LoadingOwn done to) → WaitsNot k c
loaded_none v k c (service.Write fd va len) done to h = moved_silent v k c (service.Write fd va len) done h.0.0
loaded_none v k c _ done to h = absurd h

putting_none : (v : View) (k : Slot) (c : Born) (s : Service) (done to byte : ℕ) → StandsMoving v k c s (pipe.PuttingOwn done to byte) →
    WaitsNot k c
putting_none v k c (service.Write fd va len) done to byte h = moved_silent v k c (service.Write fd va len) done h.0.0
putting_none v k c _ done to byte h = absurd h

behind_none : (v : View) (k : Slot) (c : Born) (s : Service) (done to : ℕ) → StandsMoving v k c s (pipe.Putting done to) → WaitsNot k c
behind_none v k c (service.Write fd va len) done to h = moved_silent v k c (service.Write fd va len) done h.0.0
behind_none v k c _ done to h = absurd h

moving_none : (v : View) (k : Slot) (c : Born) (s : Service) (at : PipeStep) → StandsMoving v k c s at → WaitsNot k c
moving_none v k c s (pipe.Locking done id runs) h = moved_silent v k c s done h.0.0
moving_none v k c s (pipe.LockPausing done) h = moved_silent v k c s done h.0
moving_none v k c s (pipe.ReadFrom done id runs) h = moved_silent v k c s done h.0.0
moving_none v k c s (pipe.ReadTo done id runs from) h = moved_silent v k c s done h.0.0
moving_none v k c s (pipe.UnlockingMoved done) h = moved_silent v k c s done h.0
moving_none v k c s (pipe.UnlockingTest done id runs) h = moved_silent v k c s done h.0.0
moving_none v k c s (pipe.TestIdentifying done) h = moved_silent v k c s done h.0
moving_none v k c s (pipe.TestRuns done id) h = moved_silent v k c s done h.0.0
moving_none v k c s (pipe.TestAgain done id runs) h = moved_silent v k c s done h.0.0
moving_none v k c s (pipe.TestOwn done id runs) h = moved_silent v k c s done h.0.0
moving_none v k c s (pipe.TestOther done id runs own) h = moved_silent v k c s done h.0.0
moving_none v k c s (pipe.TestDescriptor done id runs) h = moved_silent v k c s done h.0.0
moving_none v k c s (pipe.TestDescriptorCount done id runs word) h = moved_silent v k c s done h.0.0
moving_none v k c s (pipe.TestPipe done id runs count) h = moved_silent v k c s done h.0.0
moving_none v k c s (pipe.TestPipeCount done id runs count word) h = moved_silent v k c s done h.0.0
moving_none v k c s (pipe.TestRunsAgain done id runs closed) h = moved_silent v k c s done h.0.0
moving_none v k c s (pipe.TestPausing done) h = moved_silent v k c s done h.0
moving_none v k c s (pipe.LoadingHeld done from) h = held_none v k c s done from h
moving_none v k c s (pipe.KeepingHeld done from byte) h = kept_none v k c s done from byte h
moving_none v k c s (pipe.TakingHeld done from) h = gone_none v k c s done from h
moving_none v k c s (pipe.UnlockingEnd done) h = ended_none v k c s done h
moving_none v k c s (pipe.LoadingOwn done to) h = loaded_none v k c s done to h
moving_none v k c s (pipe.PuttingOwn done to byte) h = putting_none v k c s done to byte h
moving_none v k c s (pipe.Putting done to) h = behind_none v k c s done to h
moving_none v k c s _ h = absurd h

on_pipe_none : (v : View) (k : Slot) (c : Born) (s : Service) (at : PipeStep) → StandsOnPipe v k c s at → WaitsNot k c
on_pipe_none v k c s pipe.EndMode h = in_silence s h.1.is_in
on_pipe_none v k c s pipe.TakingBytes h = in_silence s h.0.is_in
on_pipe_none v k c s at h = moving_none v k c s at h

-- it makes one, tells of one, or drops an end
piped_none : (v : View) (k : Slot) (c : Born) (s : Service) (at : PipeStep) → StandsAtPipe v k c s at → WaitsNot k c
piped_none v k c service.Pipe (pipe.SecondEntry first fd) h = in_silence _ h.is_in
piped_none v k c service.Pipe (pipe.TakingReading first second) h = in_silence _ h.is_in
piped_none v k c service.Pipe (pipe.StoringReading first second) h = in_silence _ h.is_in
piped_none v k c service.Pipe (pipe.TakingWriting first second) h = in_silence _ h.is_in
piped_none v k c service.Pipe (pipe.StoringWriting first second) h = in_silence _ h.is_in
piped_none v k c service.Pipe (pipe.StoringEndMode first second) h = in_silence _ h.is_in
piped_none v k c service.Pipe (pipe.TakingPipe first second) h = in_silence _ h.is_in
piped_none v k c service.Pipe (pipe.MappingPipe first second) h = in_silence _ h.is_in
piped_none v k c (service.Read fd va len) at h = on_pipe_none v k c (service.Read fd va len) at h
piped_none v k c (service.Write fd va len) at h = on_pipe_none v k c (service.Write fd va len) at h
piped_none v k c (service.Stat fd va) pipe.StatLocking h = in_silence _ h.1.is_in
piped_none v k c (service.Stat fd va) pipe.StatPausing h = in_silence _ h.1.is_in
piped_none v k c (service.Stat fd va) pipe.StatFrom h = in_silence _ h.1.is_in
piped_none v k c (service.Stat fd va) (pipe.StatTo from) h = in_silence _ h.0.1.is_in
piped_none v k c (service.Stat fd va) (pipe.StatUnlocking held) h = delivers (service.Stat fd va) 0 (suc held) h.0
piped_none v k c (service.Close fd) (pipe.PipeEntry at) h = in_silence _ h.0
piped_none v k c (service.Close fd) (pipe.DroppingEnd at) h = in_silence _ h.0
piped_none v k c (service.Close fd) (pipe.DroppingPipe at) h = in_silence _ h.0
piped_none v k c service.Exit (pipe.PipeEntry fd) h = in_silence _ h.0.is_in
piped_none v k c service.Exit (pipe.DroppingEnd fd) h = in_silence _ h.0.is_in
piped_none v k c service.Exit (pipe.DroppingPipe fd) h = in_silence _ h.0.is_in
piped_none v k c (service.Dup old new) (pipe.PipeEntry at) h = in_silence _ h.0.is_in
piped_none v k c (service.Dup old new) (pipe.DroppingEnd at) h = in_silence _ h.0.is_in
piped_none v k c (service.Dup old new) (pipe.DroppingPipe at) h = in_silence _ h.0.is_in
piped_none v k c (service.Dup old new) pipe.SourcePipe h = in_silence _ h.0.is_in
piped_none v k c (service.Dup old new) pipe.MappingEnd h = in_silence _ h.0.is_in
piped_none v k c _ _ h = absurd h

at_step : (v : View) (k : Slot) (c : Born) (s : Service) (stands : Step) → StandsAtStep v k c s stands →
    WaitsNot k c ⊎ Waits (place.InService s stands) k c
at_step v k c s step.Entered h = inl (in_silence s h)
at_step v k c s (step.Piped at) h = inl (piped_none v k c s at h)
at_step v k c s step.ReadingDevice h = inl (at_device v s (descriptor_given s) h)
at_step v k c s (step.BufferRegion done word) h = inl (before_byte _ v s done word h)
at_step v k c s (step.BufferEntry done word) h = inl (before_byte _ v s done word h)
at_step v k c s (step.Faulting done word) h = inl (before_byte _ v s done word h)
at_step v k c s (step.CountingReply id) h = inl (counts_bytes v k c s id h)
at_step v k c s (step.FileRegion done count) h = inl (hands_bytes s done count h)
at_step v k c s (step.FileEntry done count) h = inl (hands_bytes s done count h.0)
at_step v k c s (step.LoadingBytes done count) h = inl (hands_bytes s done count h.has)
at_step v k c s (step.LoadingRest done count first) h = inl (hands_bytes s done count h.has)
at_step v k c s (step.PuttingBytes done count word) h = inl (hands_bytes s done count h.has)
at_step v k c s (step.FileFaulting done count) h = inl (hands_bytes s done count h.0)
at_step v k c s (step.Returning answer) h = inl (record { deaf = quiet h.silent; nowhere = ap (λ (p : Phase). waiting_in p) h.phase })
at_step v k c (service.Read fd va len) (step.Delivering done word) h = inl (delivers (service.Read fd va len) done word h.0)
at_step v k c (service.Stat fd va) (step.Delivering done word) h = inl (delivers (service.Stat fd va) done word h.0)
at_step v k c (service.Read fd va len) (step.DescriptorEntry at) h = inl (in_silence _ h.is_in)
at_step v k c (service.Write fd va len) (step.DescriptorEntry at) h = inl (in_silence _ h.is_in)
at_step v k c (service.Seek fd offset) (step.DescriptorEntry at) h = inl (in_silence _ h.is_in)
at_step v k c (service.Stat fd va) (step.DescriptorEntry at) h = inl (in_silence _ h.is_in)
at_step v k c (service.SetSize fd size) (step.DescriptorEntry at) h = inl (in_silence _ h.is_in)
at_step v k c (service.Read fd va len) step.Getting h = inl (in_silence _ h.is_in)
at_step v k c (service.Write fd va len) step.TakingPage h = inl (in_silence _ h.0)
at_step v k c (service.Write fd va len) (step.GatheringBytes done start) h = inl (takes_bytes fd va len start done h.0)
at_step v k c (service.Write fd va len) (step.KeepingBytes done word left start) h =
    inl (record { deaf = quiet h.is_in.silent; nowhere = ap (λ (p : Phase). waiting_in p) h.is_in.phase })
at_step v k c (service.Write fd va len) step.Printing h =
    inl (record { deaf = quiet h.is_in.silent; nowhere = ap (λ (p : Phase). waiting_in p) h.is_in.phase })
at_step v k c (service.Write fd va len) step.Releasing h = inl (record { deaf = quiet h.silent; nowhere = ap (λ (p : Phase). waiting_in p) h.phase })
at_step v k c (service.Write fd va len) step.ReadingMode h = inl (in_silence _ h.is_in)
at_step v k c (service.Write fd va len) step.TakingRequest h = inl (in_silence _ h.0)
at_step v k c (service.Write fd va len) step.ReadingNumber h = inl (asks_silent _ fd h)
at_step v k c (service.Write fd va len) (step.StoringNumber number) h = inl (asks_silent _ fd h.asks)
at_step v k c (service.Write fd va len) step.StoringCount h = inl (asks_silent _ fd h.asks)
at_step v k c (service.Write fd va len) step.Identifying h = inl (asks_silent _ fd h.asks)
at_step v k c (service.Write fd va len) (step.Asking id) h = inl (asks_silent _ fd h.1.asks)
at_step v k c (service.Write fd va len) (step.Pausing id) h = inl (asks_silent _ fd h.1.asks)
at_step v k c (service.Write fd va len) (step.Awaiting id) h =
    inl (record { deaf = quiet h.1.silent; nowhere = ap (λ (p : Phase). waiting_in p) h.1.phase })
at_step v k c (service.Write fd va len) (step.Clearing id) h = asks_or_waits (service.Write fd va len) (step.Clearing id) refl (λ stage. refl) h.1
at_step v k c (service.Write fd va len) (step.ReadingReply id) h =
    inl (record { deaf = quiet h.1.silent; nowhere = ap (λ (p : Phase). waiting_in p) h.1.phase })
at_step v k c (service.Remove path) step.TakingPage h = inl (in_silence _ h.0)
at_step v k c (service.Remove path) (step.Gathering done) h = inl (gathers_bytes v (may_follow path done) (service.Remove path) done h)
at_step v k c (service.Remove path) (step.Keeping done word left) h =
    inl (record { deaf = quiet h.is_in.silent; nowhere = ap (λ (p : Phase). waiting_in p) h.is_in.phase })
at_step v k c (service.Remove path) step.Identifying h =
    inl (record { deaf = quiet h.is_in.silent; nowhere = ap (λ (p : Phase). waiting_in p) h.is_in.phase })
at_step v k c (service.Remove path) (step.Asking id) h =
    inl (record { deaf = quiet h.1.is_in.silent; nowhere = ap (λ (p : Phase). waiting_in p) h.1.is_in.phase })
at_step v k c (service.Remove path) (step.Pausing id) h =
    inl (record { deaf = quiet h.1.is_in.silent; nowhere = ap (λ (p : Phase). waiting_in p) h.1.is_in.phase })
at_step v k c (service.Remove path) (step.Awaiting id) h =
    inl (record { deaf = quiet h.1.silent; nowhere = ap (λ (p : Phase). waiting_in p) h.1.phase })
at_step v k c (service.Remove path) (step.Clearing id) h = by_reply h.1
  where
    by_reply : AwaitsOrHas k c (service.Remove path) → WaitsNot k c ⊎ Waits (place.InService (service.Remove path) (step.Clearing id)) k c
    by_reply (awaits so) = inl (record { deaf = for_server so.rendezvous so.wanted so.destination; nowhere = ap (λ (p : Phase). waiting_in p) so.phase })
    by_reply (has_reply so) = inl (record { deaf = quiet so.silent; nowhere = ap (λ (p : Phase). waiting_in p) so.phase })
at_step v k c (service.Remove path) (step.ReadingReply id) h =
    inl (record { deaf = quiet h.1.silent; nowhere = ap (λ (p : Phase). waiting_in p) h.1.phase })
at_step v k c (service.OpenFile path mode) step.TakingPage h = inl (in_silence _ h.0)
at_step v k c (service.OpenFile path mode) (step.Gathering done) h = inl (gathers_bytes v (may_follow path done) (service.OpenFile path mode) done h)
at_step v k c (service.OpenFile path mode) (step.Keeping done word left) h =
    inl (record { deaf = quiet h.is_in.silent; nowhere = ap (λ (p : Phase). waiting_in p) h.is_in.phase })
at_step v k c (service.OpenFile path mode) step.FreeRegion h = inl (has_path h)
at_step v k c (service.OpenFile path mode) (step.FreeEntry fd) h = inl (has_path h.whole)
at_step v k c (service.OpenFile path mode) (step.StoringMode fd) h = inl (has_path h.whole)
at_step v k c (service.OpenFile path mode) (step.OpenIdentifying fd) h = inl (has_path h.1.whole)
at_step v k c (service.OpenFile path mode) (step.OpenAsking id fd) h = inl (has_path h.2.whole)
at_step v k c (service.OpenFile path mode) (step.OpenPausing id fd) h = inl (has_path h.2.whole)
at_step v k c (service.OpenFile path mode) (step.OpenAwaiting id fd) h =
    inl (record { deaf = quiet h.2.silent; nowhere = ap (λ (p : Phase). waiting_in p) h.2.phase })
at_step v k c (service.OpenFile path mode) (step.OpenClearing id fd) h = by_reply h.1
  where
    by_reply : AwaitsFileOrHas v k c (service.OpenFile path mode) fd → WaitsNot k c ⊎ Waits (place.InService (service.OpenFile path mode) (step.OpenClearing id fd)) k c
    by_reply (awaits_file so) =
        inl (record { deaf = for_file so.rendezvous so.wanted fd so.lowest.below so.destination; nowhere = ap (λ (p : Phase). waiting_in p) so.phase })
    by_reply (has_opened so) = inl (record { deaf = quiet so.silent; nowhere = ap (λ (p : Phase). waiting_in p) so.phase })
at_step v k c (service.OpenFile path mode) (step.ReadingOpened id fd) h =
    inl (record { deaf = quiet h.1.silent; nowhere = ap (λ (p : Phase). waiting_in p) h.1.phase })
at_step v k c (service.Seek fd offset) step.TakingPage h = inl (asks_silent _ fd h)
at_step v k c (service.Seek fd offset) step.ReadingNumber h = inl (asks_silent _ fd h)
at_step v k c (service.Seek fd offset) (step.StoringNumber number) h = inl (asks_silent _ fd h.asks)
at_step v k c (service.Seek fd offset) step.StoringCount h = inl (asks_silent _ fd h.asks)
at_step v k c (service.Seek fd offset) step.Identifying h = inl (asks_silent _ fd h.asks)
at_step v k c (service.Seek fd offset) (step.Asking id) h = inl (asks_silent _ fd h.1.asks)
at_step v k c (service.Seek fd offset) (step.Pausing id) h = inl (asks_silent _ fd h.1.asks)
at_step v k c (service.Seek fd offset) (step.Awaiting id) h =
    inl (record { deaf = quiet h.1.silent; nowhere = ap (λ (p : Phase). waiting_in p) h.1.phase })
at_step v k c (service.Seek fd offset) (step.Clearing id) h = by_reply h.1
  where
    by_reply : AwaitsOrHas k c (service.Seek fd offset) → WaitsNot k c ⊎ Waits (place.InService (service.Seek fd offset) (step.Clearing id)) k c
    by_reply (awaits so) = inl (record { deaf = for_server so.rendezvous so.wanted so.destination; nowhere = ap (λ (p : Phase). waiting_in p) so.phase })
    by_reply (has_reply so) = inl (record { deaf = quiet so.silent; nowhere = ap (λ (p : Phase). waiting_in p) so.phase })
at_step v k c (service.Seek fd offset) (step.ReadingReply id) h =
    inl (record { deaf = quiet h.1.silent; nowhere = ap (λ (p : Phase). waiting_in p) h.1.phase })
at_step v k c (service.SetSize fd size) step.ReadingMode h = inl (in_silence _ h.is_in)
at_step v k c (service.SetSize fd size) step.TakingPage h = inl (asks_silent _ fd h)
at_step v k c (service.SetSize fd size) step.ReadingNumber h = inl (asks_silent _ fd h)
at_step v k c (service.SetSize fd size) (step.StoringNumber number) h = inl (asks_silent _ fd h.asks)
at_step v k c (service.SetSize fd size) step.StoringCount h = inl (asks_silent _ fd h.asks)
at_step v k c (service.SetSize fd size) step.Identifying h = inl (asks_silent _ fd h.asks)
at_step v k c (service.SetSize fd size) (step.Asking id) h = inl (asks_silent _ fd h.1.asks)
at_step v k c (service.SetSize fd size) (step.Pausing id) h = inl (asks_silent _ fd h.1.asks)
at_step v k c (service.SetSize fd size) (step.Awaiting id) h =
    inl (record { deaf = quiet h.1.silent; nowhere = ap (λ (p : Phase). waiting_in p) h.1.phase })
at_step v k c (service.SetSize fd size) (step.Clearing id) h = by_reply h.1
  where
    by_reply : AwaitsOrHas k c (service.SetSize fd size) → WaitsNot k c ⊎ Waits (place.InService (service.SetSize fd size) (step.Clearing id)) k c
    by_reply (awaits so) = inl (record { deaf = for_server so.rendezvous so.wanted so.destination; nowhere = ap (λ (p : Phase). waiting_in p) so.phase })
    by_reply (has_reply so) = inl (record { deaf = quiet so.silent; nowhere = ap (λ (p : Phase). waiting_in p) so.phase })
at_step v k c (service.SetSize fd size) (step.ReadingReply id) h =
    inl (record { deaf = quiet h.1.silent; nowhere = ap (λ (p : Phase). waiting_in p) h.1.phase })
at_step v k c (service.Read fd va len) step.ReadingMode h = inl (in_silence _ h.is_in)
at_step v k c (service.Read fd va len) step.TakingPage h = inl (asks_silent _ fd h)
at_step v k c (service.Read fd va len) step.ReadingNumber h = inl (asks_silent _ fd h)
at_step v k c (service.Read fd va len) (step.StoringNumber number) h = inl (asks_silent _ fd h.asks)
at_step v k c (service.Read fd va len) step.StoringCount h = inl (asks_silent _ fd h.asks)
at_step v k c (service.Read fd va len) step.Identifying h = inl (asks_silent _ fd h.asks)
at_step v k c (service.Read fd va len) (step.Asking id) h = inl (asks_silent _ fd h.1.asks)
at_step v k c (service.Read fd va len) (step.Pausing id) h = inl (asks_silent _ fd h.1.asks)
at_step v k c (service.Read fd va len) (step.Awaiting id) h =
    inl (record { deaf = quiet h.1.silent; nowhere = ap (λ (p : Phase). waiting_in p) h.1.phase })
at_step v k c (service.Read fd va len) (step.Clearing id) h =
    inl (record { deaf = quiet h.1.silent; nowhere = ap (λ (p : Phase). waiting_in p) h.1.phase })
at_step v k c (service.Read fd va len) (step.ReadingReply id) h =
    inl (record { deaf = quiet h.1.silent; nowhere = ap (λ (p : Phase). waiting_in p) h.1.phase })
at_step v k c (service.Stat fd va) step.TakingPage h = inl (asks_silent _ fd h)
at_step v k c (service.Stat fd va) step.ReadingNumber h = inl (asks_silent _ fd h)
at_step v k c (service.Stat fd va) (step.StoringNumber number) h = inl (asks_silent _ fd h.asks)
at_step v k c (service.Stat fd va) step.StoringCount h = inl (asks_silent _ fd h.asks)
at_step v k c (service.Stat fd va) step.Identifying h = inl (asks_silent _ fd h.asks)
at_step v k c (service.Stat fd va) (step.Asking id) h = inl (asks_silent _ fd h.1.asks)
at_step v k c (service.Stat fd va) (step.Pausing id) h = inl (asks_silent _ fd h.1.asks)
at_step v k c (service.Stat fd va) (step.Awaiting id) h =
    inl (record { deaf = quiet h.1.silent; nowhere = ap (λ (p : Phase). waiting_in p) h.1.phase })
at_step v k c (service.Stat fd va) (step.Clearing id) h =
    inl (record { deaf = quiet h.1.silent; nowhere = ap (λ (p : Phase). waiting_in p) h.1.phase })
at_step v k c (service.Stat fd va) (step.ReadingReply id) h =
    inl (record { deaf = quiet h.1.silent; nowhere = ap (λ (p : Phase). waiting_in p) h.1.phase })
at_step v k c (service.Wait id) (step.Trying perm) h = inl (in_silence _ h.is_in)
at_step v k c (service.Wait id) (step.Pausing perm) h = inl (in_silence _ h.is_in)
at_step v k c (service.Send id value va) (step.Trying perm) h = inl (in_silence _ h.is_in)
at_step v k c (service.Send id value va) (step.Pausing perm) h = inl (in_silence _ h.is_in)
at_step v k c (service.Send id value va) step.ReadingRegion h = inl (in_silence _ h.is_in)
at_step v k c (service.Send id value va) step.ReadingEntry h = inl (in_silence _ h.0.is_in)
at_step v k c (service.Receive va from) (step.Receiving id) h = inl (in_silence _ h.is_in)
at_step v k c (service.Receive va from) (step.ReadingValue id) h = by_message h.1
  where
    by_message : WaitsOrHas k c va from → WaitsNot k c ⊎ Waits (place.InService (service.Receive va from) (step.ReadingValue id)) k c
    by_message (waits so) = inr (record { w = record { va = va; from = from }; id = id; at = refl; self = h.0; so = so })
    by_message (has come) = inl (has_come come)
at_step v k c (service.Receive va from) (step.ReadingSender id value) h = inl (has_come h.2)
at_step v k c (service.Receive va from) (step.ReadingPerm id value sender) h = inl (has_come h.3)
at_step v k c service.Sync (step.Asking id) h = inl (in_silence _ h.1)
at_step v k c service.Sync (step.Pausing id) h = inl (in_silence _ h.1)
at_step v k c service.Sync (step.Awaiting id) h =
    inl (record { deaf = quiet h.1.silent; nowhere = ap (λ (p : Phase). waiting_in p) h.1.phase })
at_step v k c service.Sync (step.ReadingReply id) h = by_reply h.1
  where
    by_reply : AwaitsOrHas k c service.Sync → WaitsNot k c ⊎ Waits (place.InService service.Sync (step.ReadingReply id)) k c
    by_reply (awaits so) = inl (record { deaf = for_server so.rendezvous so.wanted so.destination; nowhere = ap (λ (p : Phase). waiting_in p) so.phase })
    by_reply (has_reply so) = inl (record { deaf = quiet so.silent; nowhere = ap (λ (p : Phase). waiting_in p) so.phase })
at_step v k c service.Fork (step.ForkRegion id region) h = inl (bearing_silent id h.0)
at_step v k c service.Fork (step.ForkEntry id page) h = inl (bearing_silent id h.0)
at_step v k c service.Fork (step.MapChild id page perm) h = inl (bearing_silent id h.0)
at_step v k c service.Fork (step.Remap id page) h = inl (bearing_silent id h.0)
at_step v k c service.Fork (step.ChildStack id) h = inl (bearing_silent id h)
at_step v k c service.Fork (step.ChildUpcall id) h = inl (bearing_silent id h)
at_step v k c service.Fork (step.ChildRuns id) h = inl (bearing_silent id h)
at_step v k c service.Pipe (step.FreeEntry fd) h = inl (in_silence _ h.0)
at_step v k c service.Exit (step.DescriptorEntry fd) h = inl (in_silence _ h.0)
at_step v k c service.Exit (step.DroppingDescriptor fd) h = inl (in_silence _ h.0)
at_step v k c service.Exit step.Ending h = inl (in_silence _ h.0)
at_step v k c (service.Close fd) (step.DescriptorEntry at) h = inl (in_silence _ h.0)
at_step v k c (service.Close fd) (step.DroppingDescriptor at) h = inl (in_silence _ h.0)
at_step v k c (service.Dup old new) (step.DescriptorEntry at) h = inl (in_silence _ h.0)
at_step v k c (service.Dup old new) step.TargetEntry h = inl (in_silence _ h.0)
at_step v k c (service.Dup old new) (step.DroppingDescriptor at) h = inl (in_silence _ h.0)
at_step v k c (service.Dup old new) step.MappingDescriptor h = inl (in_silence _ h.0)
at_step v k c (service.Spawn path argv) step.TakingPage h = inl (in_silence _ h.0)
at_step v k c (service.Spawn path argv) (step.Gathering done) h = inl (gathers_bytes v (may_follow path done) (service.Spawn path argv) done h)
at_step v k c (service.Spawn path argv) (step.Keeping done word left) h =
    inl (record { deaf = quiet h.is_in.silent; nowhere = ap (λ (p : Phase). waiting_in p) h.is_in.phase })
at_step v k c (service.Spawn path argv) (step.Spawning at) h = inl (by_calls (spawn_calls v k c path argv at h))
  where
    by_expected : {at : SpawnStep} → SpawnAwaits v k c path argv at → WaitsNot k c
    by_expected (expects_file esp fd id self so) = by_free (nat_lt fd DESCRIPTORS) refl
      where
        waits_so : IsAwaitingReply k c path argv (destination_at fd)
        waits_so = so.awaiting_it

        by_free : (t : Bool) → nat_lt fd DESCRIPTORS ≡ t → WaitsNot k c
        by_free true below = record {
          deaf = for_file waits_so.receives waits_so.wanted fd (grind (arith, nat_tests, below))
              (waits_so.destination_is ∙ ap (λ (t : Bool). if t then FDTABLE + PGSIZE * fd else UTOP) below);
          nowhere = ap (λ (p : Phase). waiting_in p) waits_so.phase;
        }
        by_free false none = record {
          deaf = for_server waits_so.receives waits_so.wanted (waits_so.destination_is ∙ ap (λ (t : Bool). if t then FDTABLE + PGSIZE * fd else UTOP) none);
          nowhere = ap (λ (p : Phase). waiting_in p) waits_so.phase;
        }
    by_expected (expects_part wanted id self so) = record {
      deaf = for_server so.awaiting_it.receives so.awaiting_it.wanted so.awaiting_it.destination_is;
      nowhere = ap (λ (p : Phase). waiting_in p) so.awaiting_it.phase;
    }

    by_calls : SpawnCalls v k c path argv at → WaitsNot k c
    by_calls (unasked so) = record { deaf = quiet so.is_in.silent; nowhere = ap (λ (p : Phase). waiting_in p) so.is_in.phase }
    by_calls (has_asked so) =
        record { deaf = quiet (asked_so so).silent; nowhere = ap (λ (p : Phase). waiting_in p) (asked_so so).phase }
    by_calls (expects_reply so) = by_expected so
at_step v k c _ _ h = absurd h

-- its page is copied, or it is on the way to its end
beneath_handler : {v : View} {k : Slot} {c : Born} → StandsBeneath v k c → WaitsNot k c
beneath_handler (at_program h) = record { deaf = quiet h.silent; nowhere = ap (λ (p : Phase). waiting_in p) h.phase }
beneath_handler (in_delivery s done word at h) = delivers s done word h.0
beneath_handler (in_handing s done count word at h) = hands_bytes s done count h.has

stopped_nowhere : {write : Bool} {v : View} {c : Born} {va ip : ℕ} → IsStoppedAt write v c va ip → waiting_in c.phase ≡ None
stopped_nowhere (marked phase) = ap (λ (p : Phase). waiting_in p) phase
stopped_nowhere (reading fd buffer len bytes answer writes phase some) = ap (λ (p : Phase). waiting_in p) phase
stopped_nowhere (telling fd buffer bytes answer writes phase some) = ap (λ (p : Phase). waiting_in p) phase
stopped_nowhere (handing s bytes answer writes hands phase some there) = ap (λ (p : Phase). waiting_in p) phase ∙ by_service s hands
  where
    by_service : (s : Service) → hands_back s ≡ true → waiting_in (in_service s (replied bytes answer)) ≡ None
    by_service (service.Read fd at len) hands = refl
    by_service (service.Stat fd at) hands = refl
    by_service _ hands = absurd (let contradiction : false ≡ true = hands in cc)
stopped_nowhere (writing fd buffer len start bytes reads wants there) = ap (λ (p : Phase). waiting_in p) wants.phase
stopped_nowhere (following s bytes reads wants there) = ap (λ (p : Phase). waiting_in p) wants.phase ∙ staged_only s bytes
stopped_nowhere (listed path argv name addresses taken stage reads phase so are few fewer there) = ap (λ (p : Phase). waiting_in p) phase
stopped_nowhere (quoted path argv address name left taken words stage reads phase so fewer there) = ap (λ (p : Phase). waiting_in p) phase

in_handler : (stands : HandlerStep) (v : View) {k : Slot} {c : Born} (fault : PageFault) (regs : Regs) →
    CopiesOrEnds stands v k c fault regs → WaitsNot k c
in_handler stands v fault regs (copies way) = let off = beneath_handler way.beneath in record { deaf = off.deaf; nowhere = off.nowhere }
in_handler stands v fault regs (ends way) = record { deaf = quiet way.silent; nowhere = stopped_nowhere way.stopped }

pub waits_or_not : (p : Place) (v : View) (k : Slot) (c : Born) → StandsAt p v k c → WaitsNot k c ⊎ Waits p k c
waits_or_not place.Guest v k c h = inl (record { deaf = quiet h.silent; nowhere = ap (λ (p : Phase). waiting_in p) h.phase })
waits_or_not (place.InService s stands) v k c h = at_step v k c s stands h
waits_or_not (place.InHandler stands) v k c h = inl (in_handler stands v h.fault h.regs h.way)

-- ---- who is waited for

-- One waits, and takes messages of this sender.
pub record IsTaken (k : Slot) (c : Born) (sender : ℕ) : Type 0 where
  pub w : Receiver
  pub id : ℕ
  pub at : place_of k ≡ place.InService (service.Receive w.va w.from) (step.ReadingValue id)
  pub self : id ≡ k.id
  pub so : IsReceiving k c w.va w.from
  pub waiting : waiting_in c.phase ≡ Some w
  pub takes_it : takes w sender ≡ true

module _ (a : AbstractState) (n : ℕ) (b : Born) (regs : Regs) (t value va : ℕ) (c : Born) where
  sent_by : (w : Receiver) (o : Option Receiver) (test : Bool) → o ≡ Some w → takes w b.id ≡ test →
      sent_to_waiting a n b regs t value va c o ≡ (if test then Some (sent a n b regs t value va c w) else None)
  sent_by w o test is taken =
      ap (λ (x : Option Receiver). sent_to_waiting a n b regs t value va c x) is
      ∙ ap (λ (x : Bool). if x then Some (sent a n b regs t value va c w) else None) taken

module _ {names : Names} {s : KernelState} {a : AbstractState} (h : StandsFor names s a) (n : ℕ) (b : Born) (at : a.slots n ≡ born b)
    (t : ℕ) (c : Born) (there : a.slots t ≡ born c) where
  by_place : WaitsNot (slot_at s t) c ⊎ Waits (place_of (slot_at s t)) (slot_at s t) c
  by_place = waits_or_not (place_of (slot_at s t)) (view_of s.spaces (slot_at s t).directory) (slot_at s t) c (born_at h t c there).at

  -- the sender is not the file server
  no_server : (slot_at s n).id ≢ FIRST_ENV_ID
  no_server same = born_not_first h n b at (sym (ap (λ (i : ℕ). i % NENV) same) ∙ h.tabled.ids n (born_live (born_at h n b at)))

  none_waited : WaitsNot (slot_at s t) c → accepts (slot_at s t).rendezvous (slot_at s n).id ≡ false
  none_waited off = none_taken (slot_at s t).rendezvous off.deaf (slot_at s n).id no_server

  waited : (p : Waits (place_of (slot_at s t)) (slot_at s t) c) → accepts (slot_at s t).rendezvous (slot_at s n).id ≡ takes p.w b.id
  waited p = λ i. p.so.rendezvous i && ((p.so.wanted i == 0) || (p.so.wanted i == (born_at h n b at).id i))

  -- who is accepted is taken
  pub accepted : accepts (slot_at s t).rendezvous (slot_at s n).id ≡ true → IsTaken (slot_at s t) c b.id
  accepted is = by_case by_place
    where
      by_case : WaitsNot (slot_at s t) c ⊎ Waits (place_of (slot_at s t)) (slot_at s t) c → IsTaken (slot_at s t) c b.id
      by_case (inl off) = absurd (let contradiction : true ≡ false = sym is ∙ none_waited off in cc)
      by_case (inr p) = record {
        w = p.w;
        id = p.id;
        at = p.at;
        self = p.self;
        so = p.so;
        waiting = ap (λ (q : Phase). waiting_in q) p.so.phase;
        takes_it = sym (waited p) ∙ is;
      }

  -- who is not accepted has no step yet
  pub not_accepted : accepts (slot_at s t).rendezvous (slot_at s n).id ≡ false → (regs : Regs) (value va : ℕ) →
      sent_to_waiting a n b regs t value va c (waiting_in c.phase) ≡ None
  not_accepted is regs value va = by_case by_place
    where
      by_case : WaitsNot (slot_at s t) c ⊎ Waits (place_of (slot_at s t)) (slot_at s t) c →
          sent_to_waiting a n b regs t value va c (waiting_in c.phase) ≡ None
      by_case (inl off) = ap (λ (x : Option Receiver). sent_to_waiting a n b regs t value va c x) off.nowhere
      by_case (inr p) =
          sent_by a n b regs t value va c p.w (waiting_in c.phase) false (ap (λ (q : Phase). waiting_in q) p.so.phase) (sym (waited p) ∙ is)

-- the step to one who takes the message
pub taken_is_sent : (a : AbstractState) (n : ℕ) (b : Born) (regs : Regs) (t value va : ℕ) (k : Slot) (c : Born) →
    (taken : IsTaken k c b.id) →
    sent_to_waiting a n b regs t value va c (waiting_in c.phase) ≡ Some (sent a n b regs t value va c taken.w)
taken_is_sent a n b regs t value va k c taken =
    sent_by a n b regs t value va c taken.w (waiting_in c.phase) true taken.waiting taken.takes_it

-- ---- where it wants a page

module _ {k : Slot} {c : Born} {va from : ℕ} (so : IsReceiving k c va from) where
  -- it wants none
  pub no_destination : va ≡ 0 → UTOP ≤ k.rendezvous.destination
  no_destination none =
      let is : k.rendezvous.destination ≡ UTOP = so.destination ∙ ap destination_of none in omega (arith, is)

  pub destination_is : va ≢ 0 → k.rendezvous.destination ≡ va
  destination_is some =
      let test : (va == 0) ≡ false = grind (arith, nat_tests) in
      so.destination ∙ ap (λ (x : Bool). if x then UTOP else va) test

-- ---- where a page comes

-- a page of a program is not the one in which a service keeps what it moves
pub programs_apart : (p : ℕ) → is_programs p ≡ true → p ≢ page_number UTEMP
unfolding in_fence
programs_apart p is same = let contradiction : false ≡ true = sym (ap (λ (q : ℕ). is_programs q) same) ∙ is in cc

-- nor is one that comes with a message
pub comes_apart : (p : Place) (v : View) (k : Slot) (c : Born) → StandsAt p v k c → (sender : ℕ) → accepts k.rendezvous sender ≡ true →
    nat_lt k.rendezvous.destination UTOP ≡ true → page_number k.rendezvous.destination ≢ page_number UTEMP
comes_apart p v k c h sender taken wanted = by_case (waits_or_not p v k c h)
  where
    nowhere : k.rendezvous.destination ≡ UTOP → ⊥
    nowhere is = let contradiction : false ≡ true = sym (ap (λ (va : ℕ). nat_lt va UTOP) is) ∙ wanted in cc

    by_deaf : IsDeaf k.rendezvous → page_number k.rendezvous.destination ≢ page_number UTEMP
    by_deaf (quiet is) =
        absurd (let contradiction : false ≡ true = sym (λ i. is i && ((k.rendezvous.wanted == 0) || (k.rendezvous.wanted == sender))) ∙ taken in cc)
    by_deaf (for_server receiving only none) = absurd (nowhere none)
    by_deaf (for_file receiving only fd below there) = λ same. omega (arith, same, there)

    by_page : (va : ℕ) (t : Bool) → (va == 0) ≡ t → k.rendezvous.destination ≡ (if t then UTOP else va) → (t || is_page_inside va) ≡ true →
        page_number k.rendezvous.destination ≢ page_number UTEMP
    by_page va true none is page = absurd (nowhere is)
    by_page va false some is page =
        subst (λ (x : ℕ). page_number x ≢ page_number UTEMP) (sym is) (programs_apart (page_number va) (page_inside_programs va page))

    by_case : WaitsNot k c ⊎ Waits p k c → page_number k.rendezvous.destination ≢ page_number UTEMP
    by_case (inl off) = by_deaf off.deaf
    by_case (inr x) = by_page x.w.va (x.w.va == 0) refl x.so.destination x.so.page
