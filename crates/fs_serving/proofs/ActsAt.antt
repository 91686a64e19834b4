-- At which steps the file server is busy with a request whose act is not made.
use Rattle.std.proofs.Common.{◌≡◌, ◌∙◌, ℕ, true, false, refl, ap}
use Rattle.fs_layout.specs.FileTree.{open_path, read_file, remove_path, set_file_size, stat_file, sync_files, write_file}
use Rattle.fs_runs.specs.TreeRuns.{Memory}
use Rattle.lib_os.specs.AbstractState.{AbstractState, Request, Server, act, leaving, seek}
use Rattle.lib_os.specs.FileServer.{request_begun}
use Rattle.fs_requests.specs.declared.state.ServerStep.{ServerStep}
use Rattle.fs_requests.specs.declared.state.ServerStep.TheVariants as step
use Rattle.fs_serving.specs.ServerRuns.{IsFound, IsStoring, StandsAtStep, is_acting, is_serving, moved, opened, removed, sought}
use Rattle.fs_serving.specs.ServerViews.{Serving}

begun_acts : (client : ℕ) (request : Request) → is_acting (request_begun client request) ≡ true
begun_acts client (act (open_path path mode) object) = refl
begun_acts client (act (read_file way offset len) object) = refl
begun_acts client (act (write_file way offset bytes) object) = refl
begun_acts client (act (set_file_size way size) object) = refl
begun_acts client (act (stat_file way) object) = refl
begun_acts client (act (remove_path path) object) = refl
begun_acts client (act sync_files object) = refl
begun_acts client (seek name offset) = refl

module _ (count : ℕ) (a : AbstractState) (it : Serving) (before : Memory) where
  acts_as : (x : Server) → a.server ≡ x → is_acting x ≡ true → is_acting a.server ≡ true
  acts_as x same acts = ap is_acting same ∙ acts

  rests_as : (x : Server) → a.server ≡ x → is_acting x ≡ false → is_acting a.server ≡ false
  rests_as x same rests = ap is_acting same ∙ rests

  acts_storing : IsStoring a it before → is_acting a.server ≡ true
  acts_storing (opened so) = acts_as _ so.opened.opening.is_busy.server refl
  acts_storing (moved so at) = acts_as _ so.is_busy.server refl
  acts_storing (sought name so number at none memory) = acts_as _ so.server refl

  acts_found : IsFound count a it before → is_acting a.server ≡ true
  acts_found (opened path mode home so running) = acts_as _ so.opening.is_busy.server refl
  acts_found (removed so) = acts_as _ so.is_busy.server refl

  -- it is busy with a request from the step in which that is read to that of its act
  pub acts_at : (at : ServerStep) → StandsAtStep at count a it before → is_acting a.server ≡ is_serving at
  acts_at step.Releasing h = rests_as leaving h.0 refl
  acts_at step.Receiving h = rests_as leaving h.0 refl
  acts_at step.ReadingKind h = acts_as _ h.2.server (begun_acts _ h.2.request)
  acts_at step.ReadingClient h = acts_as _ h.2.server (begun_acts _ h.2.request)
  acts_at step.ReadingFile h = acts_as _ h.is_busy.server refl
  acts_at step.ReadingOffset h = acts_as _ h.0.is_busy.server refl
  acts_at step.ReadingCount h = acts_as _ h.0.is_busy.server refl
  acts_at step.ReadingRecord h = acts_as _ h.0.is_busy.server refl
  acts_at step.LookingRecord h = acts_as _ h.server refl
  acts_at step.LookingEntry h = acts_as _ h.0.server refl
  acts_at step.LookingHolders h = acts_as _ h.0.server refl
  acts_at step.TakingPage h = acts_as _ h.2.is_busy.server refl
  acts_at step.ReadingMode h = acts_as _ h.2.is_busy.server refl
  acts_at step.Working h = acts_as _ h.is_busy.server refl
  acts_at step.Finding h = acts_found h
  acts_at step.StoringRecord h = acts_as _ h.opened.opening.is_busy.server refl
  acts_at step.StoringDevice h = acts_as _ h.opened.opening.is_busy.server refl
  acts_at step.ReadingModeAgain h = acts_as _ h.opened.opening.is_busy.server refl
  acts_at step.StoringMode h = acts_as _ h.opened.opening.is_busy.server refl
  acts_at step.StoringFile h = acts_as _ h.opened.opening.is_busy.server refl
  acts_at step.ReadingRecordAgain h = acts_as _ h.opened.opening.is_busy.server refl
  acts_at step.Sizing h = acts_as _ h.so_far.opened.opening.is_busy.server refl
  acts_at step.StoringSize h = acts_as _ h.opened.opening.is_busy.server refl
  acts_at step.Advancing h = acts_as _ h.is_busy.server refl
  acts_at step.StoringOffset h = acts_storing h
  acts_at step.CheckingRecord h = acts_as _ h.is_busy.server refl
  acts_at step.CheckingEntry h = acts_as _ h.0.is_busy.server refl
  acts_at step.CheckingHolders h = acts_as _ h.0.is_busy.server refl
  acts_at step.Flushing h = acts_as _ h.0.server refl
  acts_at step.Acting h = acts_as _ h.is_busy.server refl
  acts_at step.Replying h = rests_as _ h.server refl
  acts_at step.Pausing h = rests_as _ h.server refl
