-- A server that stands as another and sees the same serves as that does: while a job is under way the three words that are the job's tell nothing,
-- and else the job tells nothing.
use Rattle.std.proofs.Common.{◌≡◌, ℕ, Bool, true, false, List, Option, refl, sym, subst, arith}
use Rattle.fs_runs.specs.TreeRuns.{Memory}
use Rattle.fs_jobs.specs.declared.place.TreeState.{TreeState}
use Rattle.lib_os.specs.declared.progress.Progress.{Progress}
use Rattle.lib_os.specs.declared.progress.Progress.TheVariants as progress
use Rattle.lib_os.specs.declared.request.RequestKind.{RequestKind}
use Rattle.lib_os.specs.AbstractState.{AbstractState, Request}
use Rattle.fs_requests.specs.declared.state.ServerStep.{ServerStep}
use Rattle.fs_requests.specs.declared.state.ServerStep.TheVariants as step
use Rattle.fs_serving.specs.ServerRuns.{HasCome, HasMoved, IsBusy, IsChecking, IsDone, IsFound, IsLooking, IsOpened, IsOpening, IsReplying}
use Rattle.fs_serving.specs.ServerRuns.{Follows, IsSizing, IsStoring, IsTold, IsWorking, OfFile, StandsAtStep, StandsServing, TableStands, moved}
use Rattle.fs_serving.specs.ServerRuns.{opened, over, removed, sought}
use Rattle.fs_serving.specs.ServerViews.{Serving, View}
use Rattle.fs_seen.specs.ServerSees.{ServesAlike, is_working}

-- ---- with another job, and other words

-- the server with these words and this job
abbrev altered : Serving → ℕ → ℕ → ℕ → TreeState → Serving
altered it home at count job = record {
  state = record {
    step = it.state.step;
    kind = it.state.kind;
    client = it.state.client;
    number = it.state.number;
    home = home;
    at = at;
    count = count;
  };
  job = job;
  view = it.view;
}

module _ (a : AbstractState) (it : Serving) (before : Memory) (home at count : ℕ) (job : TreeState) where
  abbrev alt : Serving
  alt = altered it home at count job

  busy_alt : {place : Option ℕ} {k : RequestKind} {request : Request} → IsBusy a it before place k request → IsBusy a alt before place k request
  busy_alt h = record { server = h.server; kind_is = h.kind_is; asks = h.asks }

  opening_alt : {path : List ℕ} {mode : ℕ} → IsOpening a it before path mode → IsOpening a alt before path mode
  opening_alt h = record { is_busy = busy_alt h.is_busy; below = h.below; nobodys = h.nobodys; used = h.used }

  unfoldable opened_alt : {path : List ℕ} {mode place : ℕ} → IsOpened a it before path mode place → IsOpened a alt before path mode place
  opened_alt h = record {
    opening = opening_alt h.opening;
    has_page = h.has_page;
    has_acted = h.has_acted;
    way = h.way;
    leads = h.leads;
    regular = h.regular;
    named = h.named;
  }

  -- while the size is asked for, none of these words tells anything
  unfoldable five_alt : IsTold a it before 5 → IsTold a alt before 5
  unfolding opened_alt
  five_alt h = record {
    path = h.path;
    mode = h.mode;
    home = h.home;
    opened = opened_alt h.opened;
    kept = λ far. absurd (omega (arith, far));
    home_is = h.home_is;
    device = h.device;
    read = λ far. absurd (omega (arith, far));
    mode_is = h.mode_is;
    number_is = h.number_is;
    sized = λ far. absurd (omega (arith, far));
    size = λ far. absurd (omega (arith, far));
    offset = λ far. absurd (omega (arith, far));
  }

-- while a job is under way
module _ (blocks : ℕ) (a : AbstractState) (it : Serving) (before : Memory) (home at count : ℕ) where
  working_alt : IsWorking blocks a it before → IsWorking blocks a (altered it home at count it.job) before
  working_alt h = record {
    k = h.k;
    f = h.f;
    object = h.object;
    place = h.place;
    is_busy = busy_alt a it before home at count it.job h.is_busy;
    is_open = h.is_open;
    alike = h.alike;
    closed = h.closed;
    on_its_way = h.on_its_way;
    opening = λ is. (let o = h.opening is in (o.0, o.1, opening_alt a it before home at count it.job o.2, o.3));
    moving = h.moving;
    no_place = h.no_place;
    no_sync = h.no_sync;
  }

  found_alt : IsFound blocks a it before → IsFound blocks a (altered it home at count it.job) before
  found_alt (opened path mode place {m} so running) = opened path mode place {m = m} (opened_alt a (over it m) before home at count it.job so) running
  found_alt (removed so) = removed (record {
    path = so.path;
    is_busy = busy_alt a it before home at count it.job so.is_busy;
    first = so.first;
    running = so.running;
  })

  sizing_alt : IsSizing blocks a it before → IsSizing blocks a (altered it home at count it.job) before
  unfolding five_alt opened_alt
  sizing_alt h = record {
    left_as = h.left_as;
    so_far = five_alt a (over it h.left_as) before home at count it.job h.so_far;
    running = h.running;
  }

-- while none is
module _ (a : AbstractState) (it : Serving) (before : Memory) (job : TreeState) where
  abbrev other : Serving
  other = record { state = it.state; job = job; view = it.view }

  busy_as : {place : Option ℕ} {k : RequestKind} {request : Request} → IsBusy a it before place k request → IsBusy a other before place k request
  busy_as = busy_alt a it before it.state.home it.state.at it.state.count job

  come_as : {sender : ℕ} {k : RequestKind} → HasCome a it before sender k → HasCome a other before sender k
  come_as h = record { request = h.request; server = h.server; asks = h.asks; memory = h.memory }

  file_as : OfFile a it before → OfFile a other before
  file_as h = record { k = h.k; request = h.request; is_busy = busy_as h.is_busy; of_file = h.of_file; memory = h.memory }

  looking_as : IsLooking a it before → IsLooking a other before
  looking_as h = record {
    path = h.path;
    mode = h.mode;
    server = h.server;
    kind_is = h.kind_is;
    asks = h.asks;
    below = h.below;
    memory = h.memory;
  }

  opening_as : {path : List ℕ} {mode : ℕ} → IsOpening a it before path mode → IsOpening a other before path mode
  opening_as = opening_alt a it before it.state.home it.state.at it.state.count job

  told_as : {told : ℕ} → IsTold a it before told → IsTold a other before told
  unfolding opened_alt
  told_as h = record {
    path = h.path;
    mode = h.mode;
    home = h.home;
    opened = opened_alt a it before it.state.home it.state.at it.state.count job h.opened;
    kept = h.kept;
    home_is = h.home_is;
    device = h.device;
    read = h.read;
    mode_is = h.mode_is;
    number_is = h.number_is;
    sized = h.sized;
    size = h.size;
    offset = h.offset;
  }

  moved_as : HasMoved a it before → HasMoved a other before
  moved_as h = record {
    k = h.k;
    f = h.f;
    name = h.name;
    is_busy = busy_as h.is_busy;
    moves = h.moves;
    number = h.number;
    has_acted = h.has_acted;
    many = h.many;
  }

  done_as : IsDone a it before → IsDone a other before
  done_as h = record {
    k = h.k;
    f = h.f;
    object = h.object;
    place = h.place;
    is_busy = busy_as h.is_busy;
    has_acted = h.has_acted;
    closed = h.closed;
    stays = h.stays;
    not_opened = h.not_opened;
  }

  storing_as : IsStoring a it before → IsStoring a other before
  storing_as (opened so) = opened (told_as so)
  storing_as (moved so is) = moved (moved_as so) is
  storing_as (sought name so number at count memory) = sought name (busy_as so) number at count memory

  checking_as : IsChecking a it before → IsChecking a other before
  checking_as h = record {
    path = h.path;
    way = h.way;
    is_busy = busy_as h.is_busy;
    memory = h.memory;
    leads = h.leads;
    regular = h.regular;
    below = h.below;
    closed = h.closed;
  }

  replying_as : IsReplying a it before → IsReplying a other before
  replying_as h = record {
    bytes = h.bytes;
    object = h.object;
    server = h.server;
    memory = h.memory;
    handed = h.handed;
    has_object = h.has_object;
  }

  at_step_as : (blocks : ℕ) (at : ServerStep) → is_working at ≡ false → StandsAtStep at blocks a it before → StandsAtStep at blocks a other before
  at_step_as blocks step.Releasing off h = h
  at_step_as blocks step.Receiving off h = h
  at_step_as blocks step.ReadingKind off h = (h.0, h.1, come_as h.2)
  at_step_as blocks step.ReadingClient off h = (h.0, h.1, come_as h.2)
  at_step_as blocks step.ReadingFile off h = file_as h
  at_step_as blocks step.ReadingOffset off h = (file_as h.0, h.1)
  at_step_as blocks step.ReadingCount off h = (file_as h.0, h.1, h.2)
  at_step_as blocks step.ReadingRecord off h = (file_as h.0, h.1, h.2, h.3, h.4)
  at_step_as blocks step.LookingRecord off h = looking_as h
  at_step_as blocks step.LookingEntry off h = (looking_as h.0, h.1)
  at_step_as blocks step.LookingHolders off h = (looking_as h.0, h.1, h.2)
  at_step_as blocks step.TakingPage off h = (h.0, h.1, opening_as h.2, h.3, h.4)
  at_step_as blocks step.ReadingMode off h = (h.0, h.1, opening_as h.2, h.3, h.4)
  at_step_as blocks step.Working off h = absurd (let contradiction : true ≡ false = off in cc)
  at_step_as blocks step.Finding off h = absurd (let contradiction : true ≡ false = off in cc)
  at_step_as blocks step.StoringRecord off h = told_as h
  at_step_as blocks step.StoringDevice off h = told_as h
  at_step_as blocks step.ReadingModeAgain off h = told_as h
  at_step_as blocks step.StoringMode off h = told_as h
  at_step_as blocks step.StoringFile off h = told_as h
  at_step_as blocks step.ReadingRecordAgain off h = told_as h
  at_step_as blocks step.Sizing off h = absurd (let contradiction : true ≡ false = off in cc)
  at_step_as blocks step.StoringSize off h = told_as h
  at_step_as blocks step.Advancing off h = moved_as h
  at_step_as blocks step.StoringOffset off h = storing_as h
  at_step_as blocks step.CheckingRecord off h = checking_as h
  at_step_as blocks step.CheckingEntry off h = (checking_as h.0, h.1)
  at_step_as blocks step.CheckingHolders off h = (checking_as h.0, h.1, h.2)
  at_step_as blocks step.Flushing off h = (busy_as h.0, h.1)
  at_step_as blocks step.Acting off h = done_as h
  at_step_as blocks step.Replying off h = replying_as h
  at_step_as blocks step.Pausing off h = replying_as h

-- ---- all of it

module _ (blocks : ℕ) (a : AbstractState) (it other : Serving) (same : ServesAlike it other) (h : StandsServing blocks a it) where
  -- the table is told by the view
  abbrev carried : (that : Serving) → StandsAtStep that.state.step blocks a that h.before → that.view ≡ it.view → StandsServing blocks a that
  carried that at view = record {
    before = h.before;
    files = h.files;
    table = subst (λ (v : View). TableStands h.before.disk a v) (sym view) h.table;
    at = at;
  }

  idle : is_working it.state.step ≡ false → StandsServing blocks a other
  idle off =
      subst (λ (that : Serving). StandsServing blocks a that) whole
      (carried (record { state = it.state; job = other.job; view = it.view }) (at_step_as a it h.before other.job blocks it.state.step off h.at) refl)
    where
      whole : ◌≡◌ {A = Serving} (record { state = it.state; job = other.job; view = it.view }) other
      whole = λ i. record { state = same.words off i; job = other.job; view = same.view i }

  -- the other's words
  abbrev alike : Serving
  alike = altered it other.state.home other.state.at other.state.count it.job

  working_at : (at : ServerStep) → is_working at ≡ true → StandsAtStep at blocks a it h.before → StandsAtStep at blocks a alike h.before
  working_at step.Working on so = working_alt blocks a it h.before other.state.home other.state.at other.state.count so
  working_at step.Finding on so = found_alt blocks a it h.before other.state.home other.state.at other.state.count so
  working_at step.Sizing on so = sizing_alt blocks a it h.before other.state.home other.state.at other.state.count so
  working_at step.Releasing on so = absurd (let contradiction : false ≡ true = on in cc)
  working_at step.Receiving on so = absurd (let contradiction : false ≡ true = on in cc)
  working_at step.ReadingKind on so = absurd (let contradiction : false ≡ true = on in cc)
  working_at step.ReadingClient on so = absurd (let contradiction : false ≡ true = on in cc)
  working_at step.ReadingFile on so = absurd (let contradiction : false ≡ true = on in cc)
  working_at step.ReadingOffset on so = absurd (let contradiction : false ≡ true = on in cc)
  working_at step.ReadingCount on so = absurd (let contradiction : false ≡ true = on in cc)
  working_at step.ReadingRecord on so = absurd (let contradiction : false ≡ true = on in cc)
  working_at step.LookingRecord on so = absurd (let contradiction : false ≡ true = on in cc)
  working_at step.LookingEntry on so = absurd (let contradiction : false ≡ true = on in cc)
  working_at step.LookingHolders on so = absurd (let contradiction : false ≡ true = on in cc)
  working_at step.TakingPage on so = absurd (let contradiction : false ≡ true = on in cc)
  working_at step.ReadingMode on so = absurd (let contradiction : false ≡ true = on in cc)
  working_at step.StoringRecord on so = absurd (let contradiction : false ≡ true = on in cc)
  working_at step.StoringDevice on so = absurd (let contradiction : false ≡ true = on in cc)
  working_at step.ReadingModeAgain on so = absurd (let contradiction : false ≡ true = on in cc)
  working_at step.StoringMode on so = absurd (let contradiction : false ≡ true = on in cc)
  working_at step.StoringFile on so = absurd (let contradiction : false ≡ true = on in cc)
  working_at step.ReadingRecordAgain on so = absurd (let contradiction : false ≡ true = on in cc)
  working_at step.StoringSize on so = absurd (let contradiction : false ≡ true = on in cc)
  working_at step.Advancing on so = absurd (let contradiction : false ≡ true = on in cc)
  working_at step.StoringOffset on so = absurd (let contradiction : false ≡ true = on in cc)
  working_at step.CheckingRecord on so = absurd (let contradiction : false ≡ true = on in cc)
  working_at step.CheckingEntry on so = absurd (let contradiction : false ≡ true = on in cc)
  working_at step.CheckingHolders on so = absurd (let contradiction : false ≡ true = on in cc)
  working_at step.Flushing on so = absurd (let contradiction : false ≡ true = on in cc)
  working_at step.Acting on so = absurd (let contradiction : false ≡ true = on in cc)
  working_at step.Replying on so = absurd (let contradiction : false ≡ true = on in cc)
  working_at step.Pausing on so = absurd (let contradiction : false ≡ true = on in cc)

  busily : is_working it.state.step ≡ true → StandsServing blocks a other
  busily on =
      subst (λ (that : Serving). StandsServing blocks a that) whole (carried alike (working_at it.state.step on h.at) refl)
    where
      whole : alike ≡ other
      whole = λ i. record {
        state = record {
          step = same.at_step i;
          kind = same.kind i;
          client = same.client i;
          number = same.number i;
          home = other.state.home;
          at = other.state.at;
          count = other.state.count;
        };
        job = same.job on i;
        view = same.view i;
      }

  pub serves_as : StandsServing blocks a other
  serves_as = by_test (is_working it.state.step) refl
    where
      by_test : (b : Bool) → is_working it.state.step ≡ b → StandsServing blocks a other
      by_test true on = busily on
      by_test false off = idle off

-- what follows at a server follows at one that stands as it does
pub follows_as : (count : ℕ) (a : AbstractState) (done : Progress) (it that : Serving) → ServesAlike it that → Follows count a done it →
    Follows count a done that
follows_as count a progress.Hidden it that same h = serves_as count a it that same h
follows_as count a progress.Visible it that same h = (h.0, h.1, serves_as count h.0 it that same h.2)
follows_as count a progress.Waited it that same h = h
follows_as count a progress.Finished it that same h = h
follows_as count a progress.Ended it that same h = h
