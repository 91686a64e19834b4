-- One that has asked the file server stands where it will wait for the reply, and one that waits stands where it will read it: no other place
-- has such a phase.
use Rattle.std.proofs.Common.{◌≡◌, ◌∙◌, ◌⊎◌, inl, inr, ℕ, Bool, true, false, List, [], ◌∷◌, Option, Some, None, refl, sym, ap, subst, suc, zero}
use Rattle.jos_base.specs.declared.memory.PageFault.{PageFault}
use Rattle.jos_base.specs.declared.numbers.TheConstants.{FIRST_ENV_ID}
use Rattle.jos_base.specs.declared.registers.Regs.{Regs}
use Rattle.jos_base.specs.Environments.{Slot}
use Rattle.lib_os.specs.declared.place.HandlerStep.{HandlerStep}
use Rattle.lib_os.specs.declared.place.PipeStep.{PipeStep}
use Rattle.lib_os.specs.declared.place.PipeStep.TheVariants as pipe
use Rattle.lib_os.specs.declared.place.Place.{Place}
use Rattle.lib_os.specs.declared.place.Place.TheVariants as place
use Rattle.lib_os.specs.declared.place.Step.{Step}
use Rattle.lib_os.specs.declared.place.Step.TheVariants as step
use Rattle.lib_os.specs.declared.service.Service.{Service}
use Rattle.lib_os.specs.declared.service.Service.TheVariants as service
use Rattle.lib_os.specs.declared.spawn_steps.SpawnStep.{SpawnStep}
use Rattle.lib_os.specs.AbstractState.{Born, Phase, Stage, asked, awaiting, entered, guest, in_service}
use Rattle.lib_os.specs.LibraryPages.{View}
use Rattle.lib_os.specs.InService.{IsIn}
use Rattle.lib_os.specs.StandsAtPipe.{HasMoved, StandsAtPipe, StandsMoving, StandsOnPipe, stage_put, stage_taken}
use Rattle.lib_os.specs.StandsFor.{AwaitsOrHasBytes, IsCounting, awaits_bytes, has_bytes}
use Rattle.lib_os.specs.StandsInHandler.{HandsAt, HasBytes, behind, by_reply, handing, hands_back, in_handing}
use Rattle.lib_os.specs.StandsFor.{AwaitsOrHas, HasAsked, HasReceived, IsAwaiting, IsBearing, IsTaking, StandsAt, StandsAtDevice}
use Rattle.lib_os.specs.StandsFor.{StandsAtStep, StandsBefore, WaitsOrHas, awaits, descriptor_given, has, has_reply, waits}
use Rattle.lib_os.specs.StandsInHandler.{CopiesOrEnds, IsStoppedAt, StandsBeneath, StandsDelivering, at_program, copies, ends, in_delivery}
use Rattle.lib_os.specs.StandsFor.{AsksOfFile, IsGatheringPath, IsTakingPath, AwaitsFileOrHas, IsAwaitingFile, awaits_file, has_opened}
use Rattle.lib_os.specs.StandsInHandler.{listed, marked, may_follow, quoted, reading, stage_with, telling, writing, following}
use Rattle.lib_os.proofs.SpawnWaits.{SpawnHasAsked, SpawnCalls, SpawnAwaits, asked_so, expected_so, expects_reply, has_asked, is_unasked}
use Rattle.lib_os.proofs.SpawnWaits.{lists_unasked, quotes_unasked, spawn_calls, unasked}

-- ---- phases

-- the file server is asked, and has not replied
abbrev pub is_request : Phase → Bool
is_request (in_service s asked) = true
is_request (in_service s awaiting) = true
is_request _ = false

-- the service in it
abbrev pub requester : Phase → Option Service
requester (in_service s stage) = Some s
requester _ = None

-- it waits for the reply
abbrev pub waits_for_reply : Phase → Bool
waits_for_reply (in_service s awaiting) = true
waits_for_reply _ = false

-- ---- at each place

-- the services that are requests to the file server
abbrev pub is_requests : Service → Bool
is_requests service.Sync = true
is_requests (service.Remove path) = true
is_requests (service.OpenFile path mode) = true
is_requests (service.Seek fd offset) = true
is_requests (service.SetSize fd size) = true
is_requests (service.Write fd va len) = true
is_requests (service.Read fd va len) = true
is_requests (service.Stat fd va) = true
is_requests _ = false

-- the step at which such a service will wait for the reply, with its id; open_file has its descriptor beside
abbrev pub asked_step : Service → ℕ → ℕ → Step
asked_step (service.OpenFile path mode) id fd = step.OpenAwaiting id fd
asked_step _ id fd = step.Awaiting id

-- and that at which it waits for it
abbrev pub awaiting_step : Service → ℕ → ℕ → Step
awaiting_step (service.Remove path) id fd = step.Clearing id
awaiting_step (service.OpenFile path mode) id fd = step.OpenClearing id fd
awaiting_step (service.Seek given offset) id fd = step.Clearing id
awaiting_step (service.SetSize given size) id fd = step.Clearing id
awaiting_step (service.Write given va len) id fd = step.Clearing id
awaiting_step (service.Read given va len) id fd = step.CountingReply id
awaiting_step (service.Stat given va) id fd = step.CountingReply id
awaiting_step _ id fd = step.ReadingReply id

-- it waits, as it does
abbrev pub Expects : View → Slot → Born → Service → ℕ → Type 0
Expects v k c (service.OpenFile path mode) fd = IsAwaitingFile v k c (service.OpenFile path mode) fd
Expects v k c s fd = IsAwaiting k c s

-- It has asked by a service, or waits for the reply, and this is its place.
pub data IsRequesting (p : Place) (v : View) (k : Slot) (c : Born) : Type 0 where
  asks : (s : Service) → is_requests s ≡ true → (id fd : ℕ) → p ≡ place.InService s (asked_step s id fd) → id ≡ k.id → HasAsked k c s →
      IsRequesting p v k c
  expects : (s : Service) → is_requests s ≡ true → (id fd : ℕ) → p ≡ place.InService s (awaiting_step s id fd) → id ≡ k.id →
      Expects v k c s fd → IsRequesting p v k c
  spawn_asks : (path argv : ℕ) (at : SpawnStep) → p ≡ place.InService (service.Spawn path argv) (step.Spawning at) →
      SpawnHasAsked v k c path argv at → IsRequesting p v k c
  spawn_expects : (path argv : ℕ) (at : SpawnStep) → p ≡ place.InService (service.Spawn path argv) (step.Spawning at) →
      SpawnAwaits v k c path argv at → IsRequesting p v k c

-- by whom its phase is told, and that it may run or not
pub record ExpectsSo (k : Slot) (c : Born) (s : Service) : Type 0 where
  pub program : c.program ≡ guest k.registers
  pub phase : c.phase ≡ in_service s awaiting
  pub blocked : c.blocked ≡ true
  pub rendezvous : k.rendezvous.receiving ≡ true
  pub wanted : k.rendezvous.wanted ≡ FIRST_ENV_ID

pub expects_so : (v : View) (k : Slot) (c : Born) (s : Service) (fd : ℕ) → Expects v k c s fd → ExpectsSo k c s
expects_so v k c (service.OpenFile path mode) fd h =
    record { program = h.program; phase = h.phase; blocked = h.blocked; rendezvous = h.rendezvous; wanted = h.wanted }
expects_so v k c _ fd h = record { program = h.program; phase = h.phase; blocked = h.blocked; rendezvous = h.rendezvous; wanted = h.wanted }

-- nothing is asked
record NoRequest (k : Slot) (c : Born) : Type 0 where
  none : is_request c.phase ≡ false

phase_is : {k : Slot} {c : Born} (q : Phase) → c.phase ≡ q → is_request q ≡ false → NoRequest k c
phase_is q same none = record { none = ap (λ (p : Phase). is_request p) same ∙ none }

in_silence : {k : Slot} {c : Born} (s : Service) → IsIn k c s entered → NoRequest k c
in_silence s h = phase_is _ h.phase refl

bearing_none : {k : Slot} {c : Born} (id : ℕ) → IsBearing k c id → NoRequest k c
bearing_none id h = phase_is _ h.phase refl

has_come : {k : Slot} {c : Born} {va from : ℕ} → HasReceived k c va from → NoRequest k c
has_come h = phase_is _ h.phase refl

-- it moves bytes
delivers : {k : Slot} {c : Born} (s : Service) (done word : ℕ) → StandsDelivering s done word k c → NoRequest k c
delivers (service.Read fd va len) done word h = phase_is _ h.phase refl
delivers (service.Stat fd va) done word h = phase_is _ h.phase refl
delivers _ done word h = absurd h

unasked_none : (s : Service) (stage : Stage) → is_unasked stage ≡ true → is_request (in_service s stage) ≡ false
unasked_none s asked is = absurd (let contradiction : false ≡ true = is in cc)
unasked_none s awaiting is = absurd (let contradiction : false ≡ true = is in cc)
unasked_none s _ is = refl

taking_none : (s : Service) (bytes : List ℕ) → is_request (in_service s (stage_with bytes)) ≡ false
taking_none s [] = refl
taking_none s (byte ∷ rest) = refl

takes_bytes : {v : View} {k : Slot} {c : Born} (fd va len start done : ℕ) → IsTaking v k c fd va len start done → NoRequest k c
takes_bytes fd va len start done h = phase_is _ h.wants.phase (taking_none (service.Write fd va len) h.bytes)

takes_path : {v : View} {k : Slot} {c : Born} (s : Service) (done : ℕ) → IsTakingPath v k c s done → NoRequest k c
takes_path s done h = phase_is _ h.wants.phase (taking_none s h.bytes)

gathers_bytes : (v : View) {k : Slot} {c : Born} (t : Bool) (s : Service) (done : ℕ) → IsGatheringPath t v k c s done → NoRequest k c
gathers_bytes v true s done h = takes_path s done h.0
gathers_bytes v false s done h = phase_is _ h.is_in.phase (taking_none s h.bytes)

before_byte : (so : Type 0) (v : View) {k : Slot} {c : Born} (s : Service) (done word : ℕ) → StandsBefore so v k c s done word → NoRequest k c
before_byte so v (service.Read fd va len) done word h = delivers (service.Read fd va len) done word h.0
before_byte so v (service.Stat fd va) done word h = delivers (service.Stat fd va) done word h.0
before_byte so v (service.Write fd va len) done word h = takes_bytes fd va len word done h.0
before_byte so v (service.Remove path) done word h = takes_path (service.Remove path) done h.0
before_byte so v (service.OpenFile path mode) done word h = takes_path (service.OpenFile path mode) done h.0
before_byte so v (service.Spawn path argv) done word h = takes_path (service.Spawn path argv) done h.0
before_byte so v _ done word h = absurd h

-- it is about to ask of a file
asks_none : {v : View} {k : Slot} {c : Born} (s : Service) (fd : ℕ) → AsksOfFile v k c s fd → NoRequest k c
asks_none (service.Seek of offset) fd h =
    phase_is _ (h.of_file.is_in.phase ∙ ap (λ (stage : Stage). in_service (service.Seek of offset) stage) h.has) refl
asks_none (service.SetSize of size) fd h =
    phase_is _ (h.of_file.is_in.phase ∙ ap (λ (stage : Stage). in_service (service.SetSize of size) stage) h.has) refl
asks_none (service.Write of va len) fd h =
    phase_is _ (h.of_file.is_in.phase ∙ ap (λ (stage : Stage). in_service (service.Write of va len) stage) h.has.stage_is)
    (taking_none (service.Write of va len) h.has.bytes)
asks_none (service.Read of va len) fd h =
    phase_is _ (h.of_file.is_in.phase ∙ ap (λ (stage : Stage). in_service (service.Read of va len) stage) h.has) refl
asks_none (service.Stat of va) fd h =
    phase_is _ (h.of_file.is_in.phase ∙ ap (λ (stage : Stage). in_service (service.Stat of va) stage) h.has) refl
asks_none _ fd h = absurd h.allowed

at_device : (v : View) {k : Slot} {c : Born} (s : Service) (o : Option ℕ) → StandsAtDevice v k c s o → NoRequest k c
at_device v s None h = absurd h
at_device v s (Some fd) h = in_silence s h.is_in

-- it has bytes of a file, or of a pipe
handed_none : {k : Slot} {c : Born} (s : Service) (bytes : List ℕ) (answer done : ℕ) (q : Phase) → c.phase ≡ q → HandsAt s bytes answer done q →
    NoRequest k c
handed_none s bytes answer _ _ same by_reply = phase_is _ same refl
handed_none s bytes answer _ _ same (behind done) = phase_is _ same refl

hands_bytes : {v : View} {k : Slot} {c : Born} (s : Service) (done count : ℕ) → HasBytes v k c s done count → NoRequest k c
hands_bytes {c = c} s done count h = handed_none s h.bytes _ done c.phase refl h.hands_at

counts_bytes : (v : View) (k : Slot) (c : Born) (s : Service) (id : ℕ) → IsCounting v k c s id →
    NoRequest k c ⊎ IsRequesting (place.InService s (step.CountingReply id)) v k c
counts_bytes v k c s id h = by_service s h.hands h.so
  where
    by_service : (s : Service) → hands_back s ≡ true → AwaitsOrHasBytes v k c s →
        NoRequest k c ⊎ IsRequesting (place.InService s (step.CountingReply id)) v k c
    by_service (service.Read fd va len) hands (awaits_bytes so) = inr (expects (service.Read fd va len) refl id 0 refl h.self so)
    by_service (service.Stat fd va) hands (awaits_bytes so) = inr (expects (service.Stat fd va) refl id 0 refl h.self so)
    by_service (service.Read fd va len) hands (has_bytes so) = inl (phase_is _ so.phase refl)
    by_service (service.Stat fd va) hands (has_bytes so) = inl (phase_is _ so.phase refl)
    by_service _ hands so = absurd (let contradiction : false ≡ true = hands in cc)

-- it moves bytes from or to a pipe
taken_none : (s : Service) (bytes : List ℕ) → is_request (in_service s (stage_taken bytes)) ≡ false
taken_none s [] = refl
taken_none s (byte ∷ rest) = refl

put_none : (s : Service) (bytes : List ℕ) (done : ℕ) → is_request (in_service s (stage_put bytes done)) ≡ false
put_none s bytes zero = refl
put_none s bytes (suc n) = refl

moved_none : (v : View) (k : Slot) (c : Born) (s : Service) (done : ℕ) → HasMoved v k c s done → NoRequest k c
moved_none v k c (service.Read fd va len) done h = phase_is _ h.is_in.phase (taken_none (service.Read fd va len) h.taken)
moved_none v k c (service.Write fd va len) done h = phase_is _ h.is_in.phase (put_none (service.Write fd va len) h.bytes done)
moved_none v k c _ done h = absurd h

held_none : (v : View) (k : Slot) (c : Born) (s : Service) (done from : ℕ) → StandsMoving v k c s (pipe.LoadingHeld done from) → NoRequest k c
held_none v k c (service.Read fd va len) done from h = moved_none v k c (service.Read fd va len) done h.0.0
held_none v k c _ done from h = absurd h

kept_none : (v : View) (k : Slot) (c : Born) (s : Service) (done from byte : ℕ) → StandsMoving v k c s (pipe.KeepingHeld done from byte) →
    NoRequest k c
kept_none v k c (service.Read fd va len) done from byte h = moved_none v k c (service.Read fd va len) done h.0.0
kept_none v k c _ done from byte h = absurd h

gone_none : (v : View) (k : Slot) (c : Born) (s : Service) (done from : ℕ) → StandsMoving v k c s (pipe.TakingHeld done from) → NoRequest k c
gone_none v k c (service.Read fd va len) done from h = moved_none v k c (service.Read fd va len) done h.0.0
gone_none v k c _ done from h = absurd h

ended_none : (v : View) (k : Slot) (c : Born) (s : Service) (done : ℕ) → StandsMoving v k c s (pipe.UnlockingEnd done) → NoRequest k c
ended_none v k c (service.Read fd va len) done h = hands_bytes (service.Read fd va len) 0 done h.0
ended_none v k c _ done h = absurd h

loaded_none : (v : View) (k : Slot) (c : Born) (s : Service) (done to : ℕ) → StandsMoving v k c s (pipe.LoadingOwn done to) → NoRequest k c
loaded_none v k c (service.Write fd va len) done to h = moved_none v k c (service.Write fd va len) done h.0.0
loaded_none v k c _ done to h = absurd h

putting_none : (v : View) (k : Slot) (c : Born) (s : Service) (done to byte : ℕ) → StandsMoving v k c s (pipe.PuttingOwn done to byte) →
    NoRequest k c
putting_none v k c (service.Write fd va len) done to byte h = moved_none v k c (service.Write fd va len) done h.0.0
putting_none v k c _ done to byte h = absurd h

behind_none : (v : View) (k : Slot) (c : Born) (s : Service) (done to : ℕ) → StandsMoving v k c s (pipe.Putting done to) → NoRequest k c
behind_none v k c (service.Write fd va len) done to h = moved_none v k c (service.Write fd va len) done h.0.0
behind_none v k c _ done to h = absurd h

moving_none : (v : View) (k : Slot) (c : Born) (s : Service) (at : PipeStep) → StandsMoving v k c s at → NoRequest k c
moving_none v k c s (pipe.Locking done id runs) h = moved_none v k c s done h.0.0
moving_none v k c s (pipe.LockPausing done) h = moved_none v k c s done h.0
moving_none v k c s (pipe.ReadFrom done id runs) h = moved_none v k c s done h.0.0
moving_none v k c s (pipe.ReadTo done id runs from) h = moved_none v k c s done h.0.0
moving_none v k c s (pipe.UnlockingMoved done) h = moved_none v k c s done h.0
moving_none v k c s (pipe.UnlockingTest done id runs) h = moved_none v k c s done h.0.0
moving_none v k c s (pipe.TestIdentifying done) h = moved_none v k c s done h.0
moving_none v k c s (pipe.TestRuns done id) h = moved_none v k c s done h.0.0
moving_none v k c s (pipe.TestAgain done id runs) h = moved_none v k c s done h.0.0
moving_none v k c s (pipe.TestOwn done id runs) h = moved_none v k c s done h.0.0
moving_none v k c s (pipe.TestOther done id runs own) h = moved_none v k c s done h.0.0
moving_none v k c s (pipe.TestDescriptor done id runs) h = moved_none v k c s done h.0.0
moving_none v k c s (pipe.TestDescriptorCount done id runs word) h = moved_none v k c s done h.0.0
moving_none v k c s (pipe.TestPipe done id runs count) h = moved_none v k c s done h.0.0
moving_none v k c s (pipe.TestPipeCount done id runs count word) h = moved_none v k c s done h.0.0
moving_none v k c s (pipe.TestRunsAgain done id runs closed) h = moved_none v k c s done h.0.0
moving_none v k c s (pipe.TestPausing done) h = moved_none v k c s done h.0
moving_none v k c s (pipe.LoadingHeld done from) h = held_none v k c s done from h
moving_none v k c s (pipe.KeepingHeld done from byte) h = kept_none v k c s done from byte h
moving_none v k c s (pipe.TakingHeld done from) h = gone_none v k c s done from h
moving_none v k c s (pipe.UnlockingEnd done) h = ended_none v k c s done h
moving_none v k c s (pipe.LoadingOwn done to) h = loaded_none v k c s done to h
moving_none v k c s (pipe.PuttingOwn done to byte) h = putting_none v k c s done to byte h
moving_none v k c s (pipe.Putting done to) h = behind_none v k c s done to h
moving_none v k c s _ h = absurd h

on_pipe_none : (v : View) (k : Slot) (c : Born) (s : Service) (at : PipeStep) → StandsOnPipe v k c s at → NoRequest k c
on_pipe_none v k c s pipe.EndMode h = in_silence s h.1.is_in
on_pipe_none v k c s pipe.TakingBytes h = in_silence s h.0.is_in
on_pipe_none v k c s at h = moving_none v k c s at h

-- it makes one, tells of one, or drops an end
piped_none : (v : View) (k : Slot) (c : Born) (s : Service) (at : PipeStep) → StandsAtPipe v k c s at → NoRequest k c
piped_none v k c service.Pipe (pipe.SecondEntry first fd) h = in_silence _ h.is_in
piped_none v k c service.Pipe (pipe.TakingReading first second) h = in_silence _ h.is_in
piped_none v k c service.Pipe (pipe.StoringReading first second) h = in_silence _ h.is_in
piped_none v k c service.Pipe (pipe.TakingWriting first second) h = in_silence _ h.is_in
piped_none v k c service.Pipe (pipe.StoringWriting first second) h = in_silence _ h.is_in
piped_none v k c service.Pipe (pipe.StoringEndMode first second) h = in_silence _ h.is_in
piped_none v k c service.Pipe (pipe.TakingPipe first second) h = in_silence _ h.is_in
piped_none v k c service.Pipe (pipe.MappingPipe first second) h = in_silence _ h.is_in
piped_none v k c (service.Read fd va len) at h = on_pipe_none v k c (service.Read fd va len) at h
piped_none v k c (service.Write fd va len) at h = on_pipe_none v k c (service.Write fd va len) at h
piped_none v k c (service.Stat fd va) pipe.StatLocking h = in_silence _ h.1.is_in
piped_none v k c (service.Stat fd va) pipe.StatPausing h = in_silence _ h.1.is_in
piped_none v k c (service.Stat fd va) pipe.StatFrom h = in_silence _ h.1.is_in
piped_none v k c (service.Stat fd va) (pipe.StatTo from) h = in_silence _ h.0.1.is_in
piped_none v k c (service.Stat fd va) (pipe.StatUnlocking held) h = delivers (service.Stat fd va) 0 (suc held) h.0
piped_none v k c (service.Close fd) (pipe.PipeEntry at) h = in_silence _ h.0
piped_none v k c (service.Close fd) (pipe.DroppingEnd at) h = in_silence _ h.0
piped_none v k c (service.Close fd) (pipe.DroppingPipe at) h = in_silence _ h.0
piped_none v k c service.Exit (pipe.PipeEntry fd) h = in_silence _ h.0.is_in
piped_none v k c service.Exit (pipe.DroppingEnd fd) h = in_silence _ h.0.is_in
piped_none v k c service.Exit (pipe.DroppingPipe fd) h = in_silence _ h.0.is_in
piped_none v k c (service.Dup old new) (pipe.PipeEntry at) h = in_silence _ h.0.is_in
piped_none v k c (service.Dup old new) (pipe.DroppingEnd at) h = in_silence _ h.0.is_in
piped_none v k c (service.Dup old new) (pipe.DroppingPipe at) h = in_silence _ h.0.is_in
piped_none v k c (service.Dup old new) pipe.SourcePipe h = in_silence _ h.0.is_in
piped_none v k c (service.Dup old new) pipe.MappingEnd h = in_silence _ h.0.is_in
piped_none v k c _ _ h = absurd h

at_step : (v : View) (k : Slot) (c : Born) (s : Service) (stands : Step) → StandsAtStep v k c s stands →
    NoRequest k c ⊎ IsRequesting (place.InService s stands) v k c
at_step v k c s step.Entered h = inl (in_silence s h)
at_step v k c s (step.Piped at) h = inl (piped_none v k c s at h)
at_step v k c s step.ReadingDevice h = inl (at_device v s (descriptor_given s) h)
at_step v k c s (step.BufferRegion done word) h = inl (before_byte _ v s done word h)
at_step v k c s (step.BufferEntry done word) h = inl (before_byte _ v s done word h)
at_step v k c s (step.Faulting done word) h = inl (before_byte _ v s done word h)
at_step v k c s (step.CountingReply id) h = counts_bytes v k c s id h
at_step v k c s (step.FileRegion done count) h = inl (hands_bytes s done count h)
at_step v k c s (step.FileEntry done count) h = inl (hands_bytes s done count h.0)
at_step v k c s (step.LoadingBytes done count) h = inl (hands_bytes s done count h.has)
at_step v k c s (step.LoadingRest done count first) h = inl (hands_bytes s done count h.has)
at_step v k c s (step.PuttingBytes done count word) h = inl (hands_bytes s done count h.has)
at_step v k c s (step.FileFaulting done count) h = inl (hands_bytes s done count h.0)
at_step v k c s (step.Returning answer) h = inl (phase_is _ h.phase refl)
at_step v k c (service.Read fd va len) (step.Delivering done word) h = inl (delivers (service.Read fd va len) done word h.0)
at_step v k c (service.Stat fd va) (step.Delivering done word) h = inl (delivers (service.Stat fd va) done word h.0)
at_step v k c (service.Read fd va len) (step.DescriptorEntry at) h = inl (in_silence _ h.is_in)
at_step v k c (service.Write fd va len) (step.DescriptorEntry at) h = inl (in_silence _ h.is_in)
at_step v k c (service.Seek fd offset) (step.DescriptorEntry at) h = inl (in_silence _ h.is_in)
at_step v k c (service.Stat fd va) (step.DescriptorEntry at) h = inl (in_silence _ h.is_in)
at_step v k c (service.SetSize fd size) (step.DescriptorEntry at) h = inl (in_silence _ h.is_in)
at_step v k c (service.Read fd va len) step.Getting h = inl (in_silence _ h.is_in)
at_step v k c (service.Write fd va len) step.TakingPage h = inl (in_silence _ h.0)
at_step v k c (service.Write fd va len) (step.GatheringBytes done start) h = inl (takes_bytes fd va len start done h.0)
at_step v k c (service.Write fd va len) (step.KeepingBytes done word left start) h = inl (phase_is _ h.is_in.phase refl)
at_step v k c (service.Write fd va len) step.Printing h = inl (phase_is _ h.is_in.phase refl)
at_step v k c (service.Write fd va len) step.Releasing h = inl (phase_is _ h.phase refl)
at_step v k c (service.Write fd va len) step.ReadingMode h = inl (in_silence _ h.is_in)
at_step v k c (service.Write fd va len) step.TakingRequest h = inl (in_silence _ h.0)
at_step v k c (service.Write fd va len) step.ReadingNumber h = inl (asks_none _ fd h)
at_step v k c (service.Write fd va len) (step.StoringNumber number) h = inl (asks_none _ fd h.asks)
at_step v k c (service.Write fd va len) step.StoringCount h = inl (asks_none _ fd h.asks)
at_step v k c (service.Write fd va len) step.Identifying h = inl (asks_none _ fd h.asks)
at_step v k c (service.Write fd va len) (step.Asking id) h = inl (asks_none _ fd h.1.asks)
at_step v k c (service.Write fd va len) (step.Pausing id) h = inl (asks_none _ fd h.1.asks)
at_step v k c (service.Write fd va len) (step.Awaiting id) h = inr (asks (service.Write fd va len) refl id 0 refl h.0 h.1)
at_step v k c (service.Write fd va len) (step.Clearing id) h = by_reply h.1
  where
    by_reply : AwaitsOrHas k c (service.Write fd va len) →
        NoRequest k c ⊎ IsRequesting (place.InService (service.Write fd va len) (step.Clearing id)) v k c
    by_reply (awaits so) = inr (expects (service.Write fd va len) refl id 0 refl h.0 so)
    by_reply (has_reply so) = inl (phase_is _ so.phase refl)
at_step v k c (service.Write fd va len) (step.ReadingReply id) h = inl (phase_is _ h.1.phase refl)
at_step v k c (service.Remove path) step.TakingPage h = inl (in_silence _ h.0)
at_step v k c (service.Remove path) (step.Gathering done) h = inl (gathers_bytes v (may_follow path done) (service.Remove path) done h)
at_step v k c (service.Remove path) (step.Keeping done word left) h = inl (phase_is _ h.is_in.phase refl)
at_step v k c (service.Remove path) step.Identifying h = inl (phase_is _ h.is_in.phase refl)
at_step v k c (service.Remove path) (step.Asking id) h = inl (phase_is _ h.1.is_in.phase refl)
at_step v k c (service.Remove path) (step.Pausing id) h = inl (phase_is _ h.1.is_in.phase refl)
at_step v k c (service.Remove path) (step.Awaiting id) h = inr (asks (service.Remove path) refl id 0 refl h.0 h.1)
at_step v k c (service.Remove path) (step.Clearing id) h = by_reply h.1
  where
    by_reply : AwaitsOrHas k c (service.Remove path) →
        NoRequest k c ⊎ IsRequesting (place.InService (service.Remove path) (step.Clearing id)) v k c
    by_reply (awaits so) = inr (expects (service.Remove path) refl id 0 refl h.0 so)
    by_reply (has_reply so) = inl (phase_is _ so.phase refl)
at_step v k c (service.Remove path) (step.ReadingReply id) h = inl (phase_is _ h.1.phase refl)
at_step v k c (service.OpenFile path mode) step.TakingPage h = inl (in_silence _ h.0)
at_step v k c (service.OpenFile path mode) (step.Gathering done) h = inl (gathers_bytes v (may_follow path done) (service.OpenFile path mode) done h)
at_step v k c (service.OpenFile path mode) (step.Keeping done word left) h = inl (phase_is _ h.is_in.phase refl)
at_step v k c (service.OpenFile path mode) step.FreeRegion h = inl (phase_is _ h.is_in.phase refl)
at_step v k c (service.OpenFile path mode) (step.FreeEntry fd) h = inl (phase_is _ h.whole.is_in.phase refl)
at_step v k c (service.OpenFile path mode) (step.StoringMode fd) h = inl (phase_is _ h.whole.is_in.phase refl)
at_step v k c (service.OpenFile path mode) (step.OpenIdentifying fd) h = inl (phase_is _ h.1.whole.is_in.phase refl)
at_step v k c (service.OpenFile path mode) (step.OpenAsking id fd) h = inl (phase_is _ h.2.whole.is_in.phase refl)
at_step v k c (service.OpenFile path mode) (step.OpenPausing id fd) h = inl (phase_is _ h.2.whole.is_in.phase refl)
at_step v k c (service.OpenFile path mode) (step.OpenAwaiting id fd) h = inr (asks (service.OpenFile path mode) refl id fd refl h.0 h.2)
at_step v k c (service.OpenFile path mode) (step.OpenClearing id fd) h = by_reply h.1
  where
    by_reply : AwaitsFileOrHas v k c (service.OpenFile path mode) fd →
        NoRequest k c ⊎ IsRequesting (place.InService (service.OpenFile path mode) (step.OpenClearing id fd)) v k c
    by_reply (awaits_file so) = inr (expects (service.OpenFile path mode) refl id fd refl h.0 so)
    by_reply (has_opened so) = inl (phase_is _ so.phase refl)
at_step v k c (service.OpenFile path mode) (step.ReadingOpened id fd) h = inl (phase_is _ h.1.phase refl)
at_step v k c (service.Seek fd offset) step.TakingPage h = inl (asks_none _ fd h)
at_step v k c (service.Seek fd offset) step.ReadingNumber h = inl (asks_none _ fd h)
at_step v k c (service.Seek fd offset) (step.StoringNumber number) h = inl (asks_none _ fd h.asks)
at_step v k c (service.Seek fd offset) step.StoringCount h = inl (asks_none _ fd h.asks)
at_step v k c (service.Seek fd offset) step.Identifying h = inl (asks_none _ fd h.asks)
at_step v k c (service.Seek fd offset) (step.Asking id) h = inl (asks_none _ fd h.1.asks)
at_step v k c (service.Seek fd offset) (step.Pausing id) h = inl (asks_none _ fd h.1.asks)
at_step v k c (service.Seek fd offset) (step.Awaiting id) h = inr (asks (service.Seek fd offset) refl id 0 refl h.0 h.1)
at_step v k c (service.Seek fd offset) (step.Clearing id) h = by_reply h.1
  where
    by_reply : AwaitsOrHas k c (service.Seek fd offset) →
        NoRequest k c ⊎ IsRequesting (place.InService (service.Seek fd offset) (step.Clearing id)) v k c
    by_reply (awaits so) = inr (expects (service.Seek fd offset) refl id 0 refl h.0 so)
    by_reply (has_reply so) = inl (phase_is _ so.phase refl)
at_step v k c (service.Seek fd offset) (step.ReadingReply id) h = inl (phase_is _ h.1.phase refl)
at_step v k c (service.SetSize fd size) step.ReadingMode h = inl (in_silence _ h.is_in)
at_step v k c (service.SetSize fd size) step.TakingPage h = inl (asks_none _ fd h)
at_step v k c (service.SetSize fd size) step.ReadingNumber h = inl (asks_none _ fd h)
at_step v k c (service.SetSize fd size) (step.StoringNumber number) h = inl (asks_none _ fd h.asks)
at_step v k c (service.SetSize fd size) step.StoringCount h = inl (asks_none _ fd h.asks)
at_step v k c (service.SetSize fd size) step.Identifying h = inl (asks_none _ fd h.asks)
at_step v k c (service.SetSize fd size) (step.Asking id) h = inl (asks_none _ fd h.1.asks)
at_step v k c (service.SetSize fd size) (step.Pausing id) h = inl (asks_none _ fd h.1.asks)
at_step v k c (service.SetSize fd size) (step.Awaiting id) h = inr (asks (service.SetSize fd size) refl id 0 refl h.0 h.1)
at_step v k c (service.SetSize fd size) (step.Clearing id) h = by_reply h.1
  where
    by_reply : AwaitsOrHas k c (service.SetSize fd size) →
        NoRequest k c ⊎ IsRequesting (place.InService (service.SetSize fd size) (step.Clearing id)) v k c
    by_reply (awaits so) = inr (expects (service.SetSize fd size) refl id 0 refl h.0 so)
    by_reply (has_reply so) = inl (phase_is _ so.phase refl)
at_step v k c (service.SetSize fd size) (step.ReadingReply id) h = inl (phase_is _ h.1.phase refl)
at_step v k c (service.Read fd va len) step.ReadingMode h = inl (in_silence _ h.is_in)
at_step v k c (service.Read fd va len) step.TakingPage h = inl (asks_none _ fd h)
at_step v k c (service.Read fd va len) step.ReadingNumber h = inl (asks_none _ fd h)
at_step v k c (service.Read fd va len) (step.StoringNumber number) h = inl (asks_none _ fd h.asks)
at_step v k c (service.Read fd va len) step.StoringCount h = inl (asks_none _ fd h.asks)
at_step v k c (service.Read fd va len) step.Identifying h = inl (asks_none _ fd h.asks)
at_step v k c (service.Read fd va len) (step.Asking id) h = inl (asks_none _ fd h.1.asks)
at_step v k c (service.Read fd va len) (step.Pausing id) h = inl (asks_none _ fd h.1.asks)
at_step v k c (service.Read fd va len) (step.Awaiting id) h = inr (asks (service.Read fd va len) refl id 0 refl h.0 h.1)
at_step v k c (service.Read fd va len) (step.Clearing id) h = inl (phase_is _ h.1.phase refl)
at_step v k c (service.Read fd va len) (step.ReadingReply id) h = inl (phase_is _ h.1.phase refl)
at_step v k c (service.Stat fd va) step.TakingPage h = inl (asks_none _ fd h)
at_step v k c (service.Stat fd va) step.ReadingNumber h = inl (asks_none _ fd h)
at_step v k c (service.Stat fd va) (step.StoringNumber number) h = inl (asks_none _ fd h.asks)
at_step v k c (service.Stat fd va) step.StoringCount h = inl (asks_none _ fd h.asks)
at_step v k c (service.Stat fd va) step.Identifying h = inl (asks_none _ fd h.asks)
at_step v k c (service.Stat fd va) (step.Asking id) h = inl (asks_none _ fd h.1.asks)
at_step v k c (service.Stat fd va) (step.Pausing id) h = inl (asks_none _ fd h.1.asks)
at_step v k c (service.Stat fd va) (step.Awaiting id) h = inr (asks (service.Stat fd va) refl id 0 refl h.0 h.1)
at_step v k c (service.Stat fd va) (step.Clearing id) h = inl (phase_is _ h.1.phase refl)
at_step v k c (service.Stat fd va) (step.ReadingReply id) h = inl (phase_is _ h.1.phase refl)
at_step v k c (service.Wait id) (step.Trying perm) h = inl (in_silence _ h.is_in)
at_step v k c (service.Wait id) (step.Pausing perm) h = inl (in_silence _ h.is_in)
at_step v k c (service.Send id value va) (step.Trying perm) h = inl (in_silence _ h.is_in)
at_step v k c (service.Send id value va) (step.Pausing perm) h = inl (in_silence _ h.is_in)
at_step v k c (service.Send id value va) step.ReadingRegion h = inl (in_silence _ h.is_in)
at_step v k c (service.Send id value va) step.ReadingEntry h = inl (in_silence _ h.0.is_in)
at_step v k c (service.Receive va from) (step.Receiving id) h = inl (in_silence _ h.is_in)
at_step v k c (service.Receive va from) (step.ReadingValue id) h = inl (by_message h.1)
  where
    by_message : WaitsOrHas k c va from → NoRequest k c
    by_message (waits so) = phase_is _ so.phase refl
    by_message (has come) = has_come come
at_step v k c (service.Receive va from) (step.ReadingSender id value) h = inl (has_come h.2)
at_step v k c (service.Receive va from) (step.ReadingPerm id value sender) h = inl (has_come h.3)
at_step v k c service.Sync (step.Asking id) h = inl (in_silence _ h.1)
at_step v k c service.Sync (step.Pausing id) h = inl (in_silence _ h.1)
at_step v k c service.Sync (step.Awaiting id) h = inr (asks service.Sync refl id 0 refl h.0 h.1)
at_step v k c service.Sync (step.ReadingReply id) h = by_reply h.1
  where
    by_reply : AwaitsOrHas k c service.Sync → NoRequest k c ⊎ IsRequesting (place.InService service.Sync (step.ReadingReply id)) v k c
    by_reply (awaits so) = inr (expects service.Sync refl id 0 refl h.0 so)
    by_reply (has_reply so) = inl (phase_is _ so.phase refl)
at_step v k c service.Fork (step.ForkRegion id region) h = inl (bearing_none id h.0)
at_step v k c service.Fork (step.ForkEntry id page) h = inl (bearing_none id h.0)
at_step v k c service.Fork (step.MapChild id page perm) h = inl (bearing_none id h.0)
at_step v k c service.Fork (step.Remap id page) h = inl (bearing_none id h.0)
at_step v k c service.Fork (step.ChildStack id) h = inl (bearing_none id h)
at_step v k c service.Fork (step.ChildUpcall id) h = inl (bearing_none id h)
at_step v k c service.Fork (step.ChildRuns id) h = inl (bearing_none id h)
at_step v k c service.Pipe (step.FreeEntry fd) h = inl (in_silence _ h.0)
at_step v k c service.Exit (step.DescriptorEntry fd) h = inl (in_silence _ h.0)
at_step v k c service.Exit (step.DroppingDescriptor fd) h = inl (in_silence _ h.0)
at_step v k c service.Exit step.Ending h = inl (in_silence _ h.0)
at_step v k c (service.Close fd) (step.DescriptorEntry at) h = inl (in_silence _ h.0)
at_step v k c (service.Close fd) (step.DroppingDescriptor at) h = inl (in_silence _ h.0)
at_step v k c (service.Dup old new) (step.DescriptorEntry at) h = inl (in_silence _ h.0)
at_step v k c (service.Dup old new) step.TargetEntry h = inl (in_silence _ h.0)
at_step v k c (service.Dup old new) (step.DroppingDescriptor at) h = inl (in_silence _ h.0)
at_step v k c (service.Dup old new) step.MappingDescriptor h = inl (in_silence _ h.0)
at_step v k c (service.Spawn path argv) step.TakingPage h = inl (in_silence _ h.0)
at_step v k c (service.Spawn path argv) (step.Gathering done) h = inl (gathers_bytes v (may_follow path done) (service.Spawn path argv) done h)
at_step v k c (service.Spawn path argv) (step.Keeping done word left) h = inl (phase_is _ h.is_in.phase refl)
at_step v k c (service.Spawn path argv) (step.Spawning at) h = by_calls (spawn_calls v k c path argv at h)
  where
    by_calls : SpawnCalls v k c path argv at →
        NoRequest k c ⊎ IsRequesting (place.InService (service.Spawn path argv) (step.Spawning at)) v k c
    by_calls (unasked so) = inl (phase_is _ so.is_in.phase (unasked_none (service.Spawn path argv) so.stage so.unasked))
    by_calls (has_asked so) = inr (spawn_asks path argv at refl so)
    by_calls (expects_reply so) = inr (spawn_expects path argv at refl so)
at_step v k c _ _ h = absurd h

-- its page is copied, or it is on the way to its end
beneath_handler : {v : View} {k : Slot} {c : Born} → StandsBeneath v k c → NoRequest k c
beneath_handler (at_program h) = phase_is _ h.phase refl
beneath_handler (in_delivery s done word at h) = delivers s done word h.0
beneath_handler (in_handing s done count word at h) = hands_bytes s done count h.has

stopped_none : {write : Bool} {v : View} (k : Slot) {c : Born} {va ip : ℕ} → IsStoppedAt write v c va ip → NoRequest k c
stopped_none k (marked phase) = phase_is _ phase refl
stopped_none k (reading fd buffer len bytes answer writes phase some) = phase_is _ phase refl
stopped_none k (telling fd buffer bytes answer writes phase some) = phase_is _ phase refl
stopped_none k (writing fd buffer len start bytes reads wants there) = phase_is _ wants.phase (taking_none (service.Write fd buffer len) bytes)
stopped_none k (handing s bytes answer writes hands phase some there) = phase_is _ phase refl
stopped_none k (following s bytes reads wants there) = phase_is _ wants.phase (taking_none s bytes)
stopped_none k (listed path argv name addresses taken stage reads phase so are few fewer there) =
    phase_is _ phase (unasked_none (service.Spawn path argv) stage (lists_unasked so))
stopped_none k (quoted path argv address name left taken words stage reads phase so fewer there) =
    phase_is _ phase (unasked_none (service.Spawn path argv) stage (quotes_unasked so))

in_handler : (stands : HandlerStep) (v : View) {k : Slot} {c : Born} (fault : PageFault) (regs : Regs) →
    CopiesOrEnds stands v k c fault regs → NoRequest k c
in_handler stands v fault regs (copies way) = let off = beneath_handler way.beneath in record { none = off.none }
in_handler stands v {k = k} fault regs (ends way) = stopped_none k way.stopped

requests_or_not : (p : Place) (v : View) (k : Slot) (c : Born) → StandsAt p v k c → NoRequest k c ⊎ IsRequesting p v k c
requests_or_not place.Guest v k c h = inl (phase_is _ h.phase refl)
requests_or_not (place.InService s stands) v k c h = at_step v k c s stands h
requests_or_not (place.InHandler stands) v k c h = inl (in_handler stands v h.fault h.regs h.way)

-- ---- by the phase

pub requesting : (p : Place) (v : View) (k : Slot) (c : Born) → StandsAt p v k c → is_request c.phase ≡ true → IsRequesting p v k c
requesting p v k c h is = by_case (requests_or_not p v k c h)
  where
    by_case : NoRequest k c ⊎ IsRequesting p v k c → IsRequesting p v k c
    by_case (inl off) = absurd (let contradiction : false ≡ true = sym off.none ∙ is in cc)
    by_case (inr so) = so

-- It has asked, and stands where it will begin to wait.
pub record AskedPlace (p : Place) (k : Slot) (c : Born) (s : Service) : Type 0 where
  pub id : ℕ
  pub fd : ℕ
  pub at : p ≡ place.InService s (asked_step s id fd)
  pub self : id ≡ k.id
  pub so : HasAsked k c s
  pub asks_it : is_requests s ≡ true

-- It waits for the reply, and stands where it will read it.
pub record AwaitingPlace (p : Place) (v : View) (k : Slot) (c : Born) (s : Service) : Type 0 where
  pub id : ℕ
  pub fd : ℕ
  pub at : p ≡ place.InService s (awaiting_step s id fd)
  pub self : id ≡ k.id
  pub expects_it : Expects v k c s fd
  pub so : ExpectsSo k c s
  pub asks_it : is_requests s ≡ true

-- the service of a phase that is told twice
same_service : {q : Phase} (s t : Service) (stage other : Stage) → q ≡ in_service s stage → q ≡ in_service t other → s ≡ t
same_service s t stage other first second =
    let same : Some s ≡ Some t = sym (ap (λ (p : Phase). requester p) first) ∙ ap (λ (p : Phase). requester p) second in cc

-- one that waits has not only asked
apart : {q : Phase} (s t : Service) → q ≡ in_service s asked → q ≡ in_service t awaiting → ⊥
apart s t first second =
    let contradiction : false ≡ true = sym (ap (λ (p : Phase). waits_for_reply p) first) ∙ ap (λ (p : Phase). waits_for_reply p) second in cc

-- the same of spawn, whose step tells what for
pub record SpawnPlace (p : Place) (s : Service) (so : ℕ → ℕ → SpawnStep → Type 0) : Type 0 where
  pub path : ℕ
  pub argv : ℕ
  pub step_is : SpawnStep
  pub call_is : s ≡ service.Spawn path argv
  pub at : p ≡ place.InService (service.Spawn path argv) (step.Spawning step_is)
  pub does : so path argv step_is

pub asked_place : (p : Place) (v : View) (k : Slot) (c : Born) (s : Service) → StandsAt p v k c → c.phase ≡ in_service s asked →
    AskedPlace p k c s ⊎ SpawnPlace p s (SpawnHasAsked v k c)
asked_place p v k c s h phase = by_case (requesting p v k c h (ap (λ (q : Phase). is_request q) phase))
  where
    by_case : IsRequesting p v k c → AskedPlace p k c s ⊎ SpawnPlace p s (SpawnHasAsked v k c)
    by_case (asks t is id fd at self so) =
        inl (subst (λ (x : Service). AskedPlace p k c x) (same_service t s asked asked so.phase phase)
        (record { id = id; fd = fd; at = at; self = self; so = so; asks_it = is }))
    by_case (expects t is id fd at self so) = absurd (apart s t phase (expects_so v k c t fd so).phase)
    by_case (spawn_asks path argv at is so) = inr (record {
      path = path;
      argv = argv;
      step_is = at;
      call_is = same_service s (service.Spawn path argv) asked asked phase (asked_so so).phase;
      at = is;
      does = so;
    })
    by_case (spawn_expects path argv at is so) = absurd (apart s (service.Spawn path argv) phase (expected_so so).1.phase)

pub awaiting_place : (p : Place) (v : View) (k : Slot) (c : Born) (s : Service) → StandsAt p v k c → c.phase ≡ in_service s awaiting →
    AwaitingPlace p v k c s ⊎ SpawnPlace p s (SpawnAwaits v k c)
awaiting_place p v k c s h phase = by_case (requesting p v k c h (ap (λ (q : Phase). is_request q) phase))
  where
    by_case : IsRequesting p v k c → AwaitingPlace p v k c s ⊎ SpawnPlace p s (SpawnAwaits v k c)
    by_case (asks t is id fd at self so) = absurd (apart t s so.phase phase)
    by_case (expects t is id fd at self so) =
        inl (subst (λ (x : Service). AwaitingPlace p v k c x) (same_service t s awaiting awaiting (expects_so v k c t fd so).phase phase)
        (record { id = id; fd = fd; at = at; self = self; expects_it = so; so = expects_so v k c t fd so; asks_it = is }))
    by_case (spawn_asks path argv at is so) = absurd (apart (service.Spawn path argv) s (asked_so so).phase phase)
    by_case (spawn_expects path argv at is so) = inr (record {
      path = path;
      argv = argv;
      step_is = at;
      call_is = same_service s (service.Spawn path argv) awaiting awaiting phase (expected_so so).1.phase;
      at = is;
      does = so;
    })
