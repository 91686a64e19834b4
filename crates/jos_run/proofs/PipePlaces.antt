-- One at a step on a pipe waits for no message; and one that is about to give up its turn there is inside read, write or stat on an end of a pipe.
use Rattle.std.proofs.Common.{◌≡◌, ◌∙◌, ◌<◌, ◌||◌, ℕ, Bool, true, false, Option, Some, None, refl, ap, arith, if◌then◌else◌}
use Rattle.std.specs.Option.{option_map}
use Rattle.std.specs.Prelude.{is_some, nat_lt}
use Rattle.std.proofs.Math.Bool.{or-true}
use Rattle.std.proofs.lemmas.Bool.{false≢true}
use Rattle.std.proofs.lemmas.Bool.Decides.{nat_tests}
use Rattle.jos_base.specs.Environments.{Slot}
use Rattle.jos_base.specs.KernelState.{KernelState, slot_at}
use Rattle.lib_os.specs.declared.numbers.TheConstants.{DESCRIPTORS}
use Rattle.lib_os.specs.declared.place.PipeStep.{PipeStep}
use Rattle.lib_os.specs.declared.place.PipeStep.TheVariants as pipe
use Rattle.lib_os.specs.declared.place.Place.{Place}
use Rattle.lib_os.specs.declared.place.Place.TheVariants as place
use Rattle.lib_os.specs.declared.place.Step.TheVariants as step
use Rattle.lib_os.specs.declared.service.Service.{Service}
use Rattle.lib_os.specs.declared.service.Service.TheVariants as service
use Rattle.lib_os.specs.AbstractRun.{moved_descriptor, pipe_at, pipe_of}
use Rattle.lib_os.specs.AbstractState.{AbstractState, Born, Stage, born, entered, in_service}
use Rattle.lib_os.specs.LibraryPages.{View}
use Rattle.lib_os.specs.LibrarySteps.{pauses_at}
use Rattle.lib_os.specs.PipeEnds.{is_on_its_way}
use Rattle.lib_os.specs.Places.{place_of}
use Rattle.lib_os.specs.Rows.{Names}
use Rattle.lib_os.specs.StandsAtPipe.{HasMoved, StandsAtPipe, StandsMoving, StandsOnPipe, end_given, stage_put, stage_taken}
use Rattle.lib_os.specs.StandsFor.{StandsFor, view_of}
use Rattle.lib_os.specs.StandsInHandler.{IsEndOpen}
use Rattle.lib_os.proofs.PipeHere.{moved_silent}
use Rattle.lib_os.proofs.PipeWritten.{is_on_pipes, on_pipes_way}
use Rattle.lib_os.proofs.StatesStand.{ends_at}
use Rattle.jos_run.specs.AbstractTurns.{is_waiting_service, waits_in}

-- ---- it waits for no message

module _ (v : View) (k : Slot) (b : Born) where
  held_silent : (s : Service) (done from : ℕ) → StandsMoving v k b s (pipe.LoadingHeld done from) → k.rendezvous.receiving ≡ false
  held_silent (service.Read fd va len) done from h = moved_silent v k b (service.Read fd va len) done h.0.0
  held_silent _ done from h = absurd h

  kept_silent : (s : Service) (done from byte : ℕ) → StandsMoving v k b s (pipe.KeepingHeld done from byte) → k.rendezvous.receiving ≡ false
  kept_silent (service.Read fd va len) done from byte h = moved_silent v k b (service.Read fd va len) done h.0.0
  kept_silent _ done from byte h = absurd h

  taken_silent : (s : Service) (done from : ℕ) → StandsMoving v k b s (pipe.TakingHeld done from) → k.rendezvous.receiving ≡ false
  taken_silent (service.Read fd va len) done from h = moved_silent v k b (service.Read fd va len) done h.0.0
  taken_silent _ done from h = absurd h

  ended_silent : (s : Service) (done : ℕ) → StandsMoving v k b s (pipe.UnlockingEnd done) → k.rendezvous.receiving ≡ false
  ended_silent (service.Read fd va len) done h = h.0.silent
  ended_silent _ done h = absurd h

  loaded_silent : (s : Service) (done to : ℕ) → StandsMoving v k b s (pipe.LoadingOwn done to) → k.rendezvous.receiving ≡ false
  loaded_silent (service.Write fd va len) done to h = moved_silent v k b (service.Write fd va len) done h.0.0
  loaded_silent _ done to h = absurd h

  putting_silent : (s : Service) (done to byte : ℕ) → StandsMoving v k b s (pipe.PuttingOwn done to byte) → k.rendezvous.receiving ≡ false
  putting_silent (service.Write fd va len) done to byte h = moved_silent v k b (service.Write fd va len) done h.0.0
  putting_silent _ done to byte h = absurd h

  put_silent : (s : Service) (done to : ℕ) → StandsMoving v k b s (pipe.Putting done to) → k.rendezvous.receiving ≡ false
  put_silent (service.Write fd va len) done to h = moved_silent v k b (service.Write fd va len) done h.0.0
  put_silent _ done to h = absurd h

  moving_silent : (s : Service) (at : PipeStep) → StandsMoving v k b s at → k.rendezvous.receiving ≡ false
  moving_silent s (pipe.Locking done id runs) h = moved_silent v k b s done h.0.0
  moving_silent s (pipe.LockPausing done) h = moved_silent v k b s done h.0
  moving_silent s (pipe.ReadFrom done id runs) h = moved_silent v k b s done h.0.0
  moving_silent s (pipe.ReadTo done id runs from) h = moved_silent v k b s done h.0.0
  moving_silent s (pipe.UnlockingMoved done) h = moved_silent v k b s done h.0
  moving_silent s (pipe.UnlockingTest done id runs) h = moved_silent v k b s done h.0.0
  moving_silent s (pipe.TestIdentifying done) h = moved_silent v k b s done h.0
  moving_silent s (pipe.TestRuns done id) h = moved_silent v k b s done h.0.0
  moving_silent s (pipe.TestAgain done id runs) h = moved_silent v k b s done h.0.0
  moving_silent s (pipe.TestOwn done id runs) h = moved_silent v k b s done h.0.0
  moving_silent s (pipe.TestOther done id runs own) h = moved_silent v k b s done h.0.0
  moving_silent s (pipe.TestDescriptor done id runs) h = moved_silent v k b s done h.0.0
  moving_silent s (pipe.TestDescriptorCount done id runs word) h = moved_silent v k b s done h.0.0
  moving_silent s (pipe.TestPipe done id runs count) h = moved_silent v k b s done h.0.0
  moving_silent s (pipe.TestPipeCount done id runs count word) h = moved_silent v k b s done h.0.0
  moving_silent s (pipe.TestRunsAgain done id runs closed) h = moved_silent v k b s done h.0.0
  moving_silent s (pipe.TestPausing done) h = moved_silent v k b s done h.0
  moving_silent s (pipe.LoadingHeld done from) h = held_silent s done from h
  moving_silent s (pipe.KeepingHeld done from byte) h = kept_silent s done from byte h
  moving_silent s (pipe.TakingHeld done from) h = taken_silent s done from h
  moving_silent s (pipe.UnlockingEnd done) h = ended_silent s done h
  moving_silent s (pipe.LoadingOwn done to) h = loaded_silent s done to h
  moving_silent s (pipe.PuttingOwn done to byte) h = putting_silent s done to byte h
  moving_silent s (pipe.Putting done to) h = put_silent s done to h
  moving_silent s _ h = absurd h

  on_pipe_silent : (s : Service) (at : PipeStep) → StandsOnPipe v k b s at → k.rendezvous.receiving ≡ false
  on_pipe_silent s pipe.EndMode h = h.1.is_in.silent
  on_pipe_silent s pipe.TakingBytes h = h.0.is_in.silent
  on_pipe_silent s at h = moving_silent s at h

  pub piped_silent : (s : Service) (at : PipeStep) → StandsAtPipe v k b s at → k.rendezvous.receiving ≡ false
  piped_silent service.Pipe (pipe.SecondEntry first fd) h = h.is_in.silent
  piped_silent service.Pipe (pipe.TakingReading first second) h = h.is_in.silent
  piped_silent service.Pipe (pipe.StoringReading first second) h = h.is_in.silent
  piped_silent service.Pipe (pipe.TakingWriting first second) h = h.is_in.silent
  piped_silent service.Pipe (pipe.StoringWriting first second) h = h.is_in.silent
  piped_silent service.Pipe (pipe.StoringEndMode first second) h = h.is_in.silent
  piped_silent service.Pipe (pipe.TakingPipe first second) h = h.is_in.silent
  piped_silent service.Pipe (pipe.MappingPipe first second) h = h.is_in.silent
  piped_silent (service.Read fd va len) at h = on_pipe_silent (service.Read fd va len) at h
  piped_silent (service.Write fd va len) at h = on_pipe_silent (service.Write fd va len) at h
  piped_silent (service.Stat fd va) pipe.StatLocking h = h.1.is_in.silent
  piped_silent (service.Stat fd va) pipe.StatPausing h = h.1.is_in.silent
  piped_silent (service.Stat fd va) pipe.StatFrom h = h.1.is_in.silent
  piped_silent (service.Stat fd va) (pipe.StatTo from) h = h.0.1.is_in.silent
  piped_silent (service.Stat fd va) (pipe.StatUnlocking held) h = h.0.silent
  piped_silent (service.Close fd) (pipe.PipeEntry at) h = h.0.silent
  piped_silent (service.Close fd) (pipe.DroppingEnd at) h = h.0.silent
  piped_silent (service.Close fd) (pipe.DroppingPipe at) h = h.0.silent
  piped_silent service.Exit (pipe.PipeEntry fd) h = h.0.is_in.silent
  piped_silent service.Exit (pipe.DroppingEnd fd) h = h.0.is_in.silent
  piped_silent service.Exit (pipe.DroppingPipe fd) h = h.0.is_in.silent
  piped_silent (service.Dup old new) (pipe.PipeEntry at) h = h.0.is_in.silent
  piped_silent (service.Dup old new) (pipe.DroppingEnd at) h = h.0.is_in.silent
  piped_silent (service.Dup old new) (pipe.DroppingPipe at) h = h.0.is_in.silent
  piped_silent (service.Dup old new) pipe.SourcePipe h = h.0.is_in.silent
  piped_silent (service.Dup old new) pipe.MappingEnd h = h.0.is_in.silent
  piped_silent _ _ h = absurd h

-- ---- it is on an end of a pipe

-- Inside a service, whose descriptor is an end that is open.
record IsAtOpenEnd (v : View) (b : Born) (s : Service) : Type 0 where
  stage : Stage
  phase : b.phase ≡ in_service s stage
  on_pipes : is_on_pipes s ≡ true
  below : end_given s < DESCRIPTORS
  mode : ℕ
  open_end : IsEndOpen v (end_given s) mode

moved_end : (v : View) (k : Slot) (b : Born) (s : Service) (done : ℕ) → HasMoved v k b s done → IsAtOpenEnd v b s
moved_end v k b (service.Read fd va len) done h = record {
  stage = stage_taken h.taken;
  phase = h.is_in.phase;
  on_pipes = refl;
  below = h.below;
  mode = 0;
  open_end = h.open_end;
}
moved_end v k b (service.Write fd va len) done h = record {
  stage = stage_put h.bytes done;
  phase = h.is_in.phase;
  on_pipes = refl;
  below = h.below;
  mode = 1;
  open_end = h.open_end;
}
moved_end v k b _ done h = absurd h

on_pipe_end : (v : View) (k : Slot) (b : Born) (s : Service) (at : PipeStep) → StandsOnPipe v k b s at → pauses_at at ≡ true → IsAtOpenEnd v b s
on_pipe_end v k b s (pipe.LockPausing done) h pauses = moved_end v k b s done h.0
on_pipe_end v k b s (pipe.TestPausing done) h pauses = moved_end v k b s done h.0
on_pipe_end v k b s pipe.StatPausing h pauses = absurd h
on_pipe_end v k b s _ h pauses = absurd (false≢true pauses)

stat_end : (v : View) (k : Slot) (b : Born) (fd va : ℕ) (at : PipeStep) → StandsAtPipe v k b (service.Stat fd va) at → pauses_at at ≡ true →
    IsAtOpenEnd v b (service.Stat fd va)
stat_end v k b fd va pipe.StatPausing h pauses =
    record { stage = entered; phase = h.1.is_in.phase; on_pipes = refl; below = h.1.below; mode = h.0; open_end = h.1.open_end }
stat_end v k b fd va (pipe.LockPausing done) h pauses = absurd h
stat_end v k b fd va (pipe.TestPausing done) h pauses = absurd h
stat_end v k b fd va _ h pauses = absurd (false≢true pauses)

-- the descriptor that it moves
moves_given : (s : Service) → is_on_pipes s ≡ true → moved_descriptor s ≡ Some (end_given s)
moves_given (service.Read fd va len) is = refl
moves_given (service.Write fd va len) is = refl
moves_given (service.Stat fd va) is = refl
moves_given _ is = absurd (false≢true is)

module _ {names : Names} {s : KernelState} {a : AbstractState} (h : StandsFor names s a) (n : ℕ) (b : Born) (at : a.slots n ≡ born b) where
  abbrev seen : View
  seen = view_of s.spaces (slot_at s n).directory

  -- so it is the pipe of that
  end_pipe : (of : Service) (pipe_step : PipeStep) → place_of (slot_at s n) ≡ place.InService of (step.Piped pipe_step) →
      (there : IsAtOpenEnd seen b of) → pipe_at a b (moved_descriptor of) ≡ Some (names.name there.open_end.page.frame)
  end_pipe of pipe_step stands there =
      let fd = end_given of in
      let below : fd < DESCRIPTORS = there.below in
      let found = (ends_at h n b at).only fd there.open_end.page below
      (ap (λ (p : Place). is_on_its_way p fd) stands ∙ on_pipes_way of (step.Piped pipe_step) there.on_pipes fd) there.open_end.lies in
      let test : nat_lt fd DESCRIPTORS ≡ true = grind (arith, nat_tests) in
      ap (pipe_at a b) (moves_given of there.on_pipes)
      ∙ ap (λ (c : Bool). pipe_of (option_map a.objects (if c then b.descriptors fd else None))) test
      ∙ ap (λ (o : Option ℕ). pipe_of (option_map a.objects o)) found.1 ∙ found.2

  -- and its turn may end
  end_waits : (of : Service) (pipe_step : PipeStep) → place_of (slot_at s n) ≡ place.InService of (step.Piped pipe_step) →
      IsAtOpenEnd seen b of → waits_in a b b.phase ≡ true
  end_waits of pipe_step stands there =
      ap (waits_in a b) there.phase
      ∙ ap (λ (o : Option ℕ). is_waiting_service of || is_some o) (end_pipe of pipe_step stands there)
      ∙ or-true (is_waiting_service of)

  pub read_waits : (fd va len : ℕ) (pipe_step : PipeStep) →
      place_of (slot_at s n) ≡ place.InService (service.Read fd va len) (step.Piped pipe_step) →
      StandsAtPipe seen (slot_at s n) b (service.Read fd va len) pipe_step → pauses_at pipe_step ≡ true → waits_in a b b.phase ≡ true
  read_waits fd va len pipe_step stands there pauses =
      end_waits (service.Read fd va len) pipe_step stands (on_pipe_end seen (slot_at s n) b (service.Read fd va len) pipe_step there pauses)

  pub write_waits : (fd va len : ℕ) (pipe_step : PipeStep) →
      place_of (slot_at s n) ≡ place.InService (service.Write fd va len) (step.Piped pipe_step) →
      StandsAtPipe seen (slot_at s n) b (service.Write fd va len) pipe_step → pauses_at pipe_step ≡ true → waits_in a b b.phase ≡ true
  write_waits fd va len pipe_step stands there pauses =
      end_waits (service.Write fd va len) pipe_step stands (on_pipe_end seen (slot_at s n) b (service.Write fd va len) pipe_step there pauses)

  pub stat_waits : (fd va : ℕ) (pipe_step : PipeStep) → place_of (slot_at s n) ≡ place.InService (service.Stat fd va) (step.Piped pipe_step) →
      StandsAtPipe seen (slot_at s n) b (service.Stat fd va) pipe_step → pauses_at pipe_step ≡ true → waits_in a b b.phase ≡ true
  stat_waits fd va pipe_step stands there pauses =
      end_waits (service.Stat fd va) pipe_step stands (stat_end seen (slot_at s n) b fd va pipe_step there pauses)
