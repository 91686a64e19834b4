-- A server that sees the same, but for how often frames are mapped that are no place's, stands for what it stood for.
use Rattle.std.proofs.Common.{◌≡◌, ◌∙◌, ℕ, true, List, Option, Some, None, refl, sym, ap, subst}
use Rattle.std.specs.Prelude.{is_some, nat_le}
use Rattle.fs_runs.specs.TreeRuns.{Memory}
use Rattle.jos_base.specs.Words.{word_at}
use Rattle.lib_os.specs.declared.numbers.TheConstants.{FD_OFFSET, REQUEST_PLACE}
use Rattle.lib_os.specs.declared.request.RequestKind.{RequestKind}
use Rattle.lib_os.specs.declared.request.RequestKind.TheVariants as kind
use Rattle.lib_os.specs.AbstractState.{AbstractState, Request}
use Rattle.fs_requests.specs.declared.state.ServerStep.{ServerStep}
use Rattle.fs_requests.specs.declared.state.ServerStep.TheVariants as step
use Rattle.fs_serving.specs.ServerRuns.{HasCome, HasFile, HasMoved, HasObject, HasOffset, HasPage, IsBusy, IsChecking, IsDone, IsFinding, IsFound}
use Rattle.fs_serving.specs.ServerRuns.{IsLooking, IsOpened, IsOpening, IsReplying, IsSizing, IsStoring, IsTold, IsWorking, OfFile, PlaceStands}
use Rattle.fs_serving.specs.ServerRuns.{StandsAtStep, StandsServing, TableStands, moved, opened, over, removed, sought}
use Rattle.fs_serving.specs.ServerViews.{Serving, View, place_told, word_of}
use Rattle.fs_seen.specs.BlockSteps.{SeesAlike}

-- frames of places are mapped as often
abbrev CountsAlike : View → (ℕ → ℕ) → Type 0
CountsAlike v holders = (number : ℕ) → is_some (v.pages number) ≡ true → holders (v.frames number) ≡ v.holders (v.frames number)

abbrev counting : View → (ℕ → ℕ) → View
counting v holders = record {
  memory = v.memory;
  homes = v.homes;
  pages = v.pages;
  frames = v.frames;
  holders = holders;
  value = v.value;
  sender = v.sender;
}

-- the place of the next byte is told by the request, or by the page of a place
pub place_told_same : (asked : Option RequestKind) (v w : View) (number : ℕ) → w.memory ≡ v.memory → w.pages ≡ v.pages →
    place_told asked w number ≡ place_told asked v number
place_told_same (Some kind.ReadAt) v w number memory pages = ap (λ (m : Memory). word_at m.page REQUEST_PLACE) memory
place_told_same _ v w number memory pages = ap (λ (p : ℕ → Option (ℕ → ℕ)). word_of (p number) FD_OFFSET) pages

-- ---- the table

module _ (disk : ℕ → ℕ) (a : AbstractState) (v : View) (holders : ℕ → ℕ) (same : CountsAlike v holders) where
  file_now : (number name : ℕ) → HasFile disk a v number name → HasFile disk a (counting v holders) number name
  file_now number name h = record {
    f = h.f;
    is = h.is;
    home = h.home;
    regular = h.regular;
    there = h.there;
    device = h.device;
    offset = h.offset;
    mode = h.mode;
    size = h.size;
    number_is = h.number_is;
    small = h.small;
    sized = h.sized;
  }

  place_now : (number : ℕ) → PlaceStands disk a v number → PlaceStands disk a (counting v holders) number
  place_now number h = record {
    unused = h.unused;
    there = h.there;
    used = h.used;
    counts = λ used. h.counts used ∙ sym (ap (nat_le 2) (same number (h.there used)));
    holds = λ name by held. file_now number name (h.holds name by held);
  }

  table_now : TableStands disk a v → TableStands disk a (counting v holders)
  table_now h = record {
    places = λ number below. place_now number (h.places number below);
    held = h.held;
    alone = h.alone;
    old = h.old;
    old_held = h.old_held;
  }

-- ---- the server

abbrev counted : Serving → (ℕ → ℕ) → Serving
counted it holders = record { state = it.state; job = it.job; view = counting it.view holders }

module _ (a : AbstractState) (it : Serving) (before : Memory) (holders : ℕ → ℕ) (same : CountsAlike it.view holders) where
  abbrev now : Serving
  now = counted it holders

  busy_now : {place : Option ℕ} {k : RequestKind} {request : Request} → IsBusy a it before place k request → IsBusy a now before place k request
  busy_now h = record { server = h.server; kind_is = h.kind_is; asks = h.asks }

  come_now : {sender : ℕ} {k : RequestKind} → HasCome a it before sender k → HasCome a now before sender k
  come_now h = record { request = h.request; server = h.server; asks = h.asks; memory = h.memory }

  of_file_now : OfFile a it before → OfFile a now before
  of_file_now h = record { k = h.k; request = h.request; is_busy = busy_now h.is_busy; of_file = h.of_file; memory = h.memory }

  looking_now : IsLooking a it before → IsLooking a now before
  looking_now h = record {
    path = h.path;
    mode = h.mode;
    server = h.server;
    kind_is = h.kind_is;
    asks = h.asks;
    below = h.below;
    memory = h.memory;
  }

  opening_now : {path : List ℕ} {mode : ℕ} → IsOpening a it before path mode → IsOpening a now before path mode
  opening_now h = record { is_busy = busy_now h.is_busy; below = h.below; nobodys = h.nobodys; used = h.used }

  page_now : HasPage it → HasPage now
  page_now h = (h.0, ap (nat_le 2) (same it.state.number h.0) ∙ h.1)

  unfoldable opened_now : {path : List ℕ} {mode place : ℕ} → IsOpened a it before path mode place → IsOpened a now before path mode place
  opened_now h = record {
    opening = opening_now h.opening;
    has_page = page_now h.has_page;
    has_acted = h.has_acted;
    way = h.way;
    leads = h.leads;
    regular = h.regular;
    named = h.named;
  }

  unfoldable told_now : {told : ℕ} → IsTold a it before told → IsTold a now before told
  unfolding opened_now
  told_now h = record {
    path = h.path;
    mode = h.mode;
    home = h.home;
    opened = opened_now h.opened;
    kept = h.kept;
    home_is = h.home_is;
    device = h.device;
    read = h.read;
    mode_is = h.mode_is;
    number_is = h.number_is;
    sized = h.sized;
    size = h.size;
    offset = h.offset;
  }

  moved_now : HasMoved a it before → HasMoved a now before
  moved_now h = record {
    k = h.k;
    f = h.f;
    name = h.name;
    is_busy = busy_now h.is_busy;
    moves = h.moves;
    number = h.number;
    has_acted = h.has_acted;
    many = h.many;
  }

  done_now : IsDone a it before → IsDone a now before
  done_now h = record {
    k = h.k;
    f = h.f;
    object = h.object;
    place = h.place;
    is_busy = busy_now h.is_busy;
    has_acted = h.has_acted;
    closed = h.closed;
    stays = h.stays;
    not_opened = h.not_opened;
  }

  storing_now : IsStoring a it before → IsStoring a now before
  storing_now (opened so) = opened (told_now so)
  storing_now (moved so is) = moved (moved_now so) is
  storing_now (sought name so number at count memory) = sought name (busy_now so) number at count memory

  offset_now : HasOffset it → HasOffset now
  offset_now is = is ∙ sym (place_told_same it.state.kind it.view now.view it.state.number refl refl)

  checking_now : IsChecking a it before → IsChecking a now before
  checking_now h = record {
    path = h.path;
    way = h.way;
    is_busy = busy_now h.is_busy;
    memory = h.memory;
    leads = h.leads;
    regular = h.regular;
    below = h.below;
    closed = h.closed;
  }

  object_now : (object : Option ℕ) → HasObject a it object → HasObject a now object
  object_now None h = h
  object_now (Some name) h = (h.0, h.1, h.2, h.3, file_now it.view.memory.disk a it.view holders same it.state.number name h.4)

  replying_now : IsReplying a it before → IsReplying a now before
  replying_now h = record {
    bytes = h.bytes;
    object = h.object;
    server = h.server;
    memory = h.memory;
    handed = h.handed;
    has_object = object_now h.object h.has_object;
  }

-- while a job is under way
module _ (blocks : ℕ) (a : AbstractState) (it : Serving) (before : Memory) (holders : ℕ → ℕ) (same : CountsAlike it.view holders) where
  working_now : IsWorking blocks a it before → IsWorking blocks a (counted it holders) before
  working_now h = record {
    k = h.k;
    f = h.f;
    object = h.object;
    place = h.place;
    is_busy = busy_now a it before holders same h.is_busy;
    is_open = h.is_open;
    alike = h.alike;
    closed = h.closed;
    on_its_way = h.on_its_way;
    opening = λ is.
        (let o = h.opening is in (o.0, o.1, opening_now a it before holders same o.2, page_now a it before holders same o.3));
    moving = h.moving;
    no_place = h.no_place;
    no_sync = h.no_sync;
  }

  finding_now : IsFinding blocks a it before → IsFinding blocks a (counted it holders) before
  finding_now h = record { path = h.path; is_busy = busy_now a it before holders same h.is_busy; first = h.first; running = h.running }

  found_now : IsFound blocks a it before → IsFound blocks a (counted it holders) before
  found_now (opened path mode place {m} so running) =
      opened path mode place {m = m} (opened_now a (over it m) before holders same so) running
  found_now (removed so) = removed (finding_now so)

  sizing_now : IsSizing blocks a it before → IsSizing blocks a (counted it holders) before
  unfolding told_now opened_now
  sizing_now h = record { left_as = h.left_as; so_far = told_now a (over it h.left_as) before holders same h.so_far; running = h.running }

  at_step_now : (at : ServerStep) → StandsAtStep at blocks a it before → StandsAtStep at blocks a (counted it holders) before
  at_step_now step.Releasing h = h
  at_step_now step.Receiving h = h
  at_step_now step.ReadingKind h = (h.0, h.1, come_now a it before holders same h.2)
  at_step_now step.ReadingClient h = (h.0, h.1, come_now a it before holders same h.2)
  at_step_now step.ReadingFile h = of_file_now a it before holders same h
  at_step_now step.ReadingOffset h = (of_file_now a it before holders same h.0, h.1)
  at_step_now step.ReadingCount h = (of_file_now a it before holders same h.0, h.1, offset_now a it before holders same h.2)
  at_step_now step.ReadingRecord h =
      (of_file_now a it before holders same h.0, h.1, offset_now a it before holders same h.2, h.3, h.4)
  at_step_now step.LookingRecord h = looking_now a it before holders same h
  at_step_now step.LookingEntry h = (looking_now a it before holders same h.0, h.1)
  at_step_now step.LookingHolders h = (looking_now a it before holders same h.0, h.1, h.2)
  at_step_now step.TakingPage h = (h.0, h.1, opening_now a it before holders same h.2, h.3, h.4)
  at_step_now step.ReadingMode h =
      (h.0, h.1, opening_now a it before holders same h.2, page_now a it before holders same h.3, h.4)
  at_step_now step.Working h = working_now h
  at_step_now step.Finding h = found_now h
  at_step_now step.StoringRecord h = told_now a it before holders same h
  at_step_now step.StoringDevice h = told_now a it before holders same h
  at_step_now step.ReadingModeAgain h = told_now a it before holders same h
  at_step_now step.StoringMode h = told_now a it before holders same h
  at_step_now step.StoringFile h = told_now a it before holders same h
  at_step_now step.ReadingRecordAgain h = told_now a it before holders same h
  at_step_now step.Sizing h = sizing_now h
  at_step_now step.StoringSize h = told_now a it before holders same h
  at_step_now step.Advancing h = moved_now a it before holders same h
  at_step_now step.StoringOffset h = storing_now a it before holders same h
  at_step_now step.CheckingRecord h = checking_now a it before holders same h
  at_step_now step.CheckingEntry h = (checking_now a it before holders same h.0, h.1)
  at_step_now step.CheckingHolders h = (checking_now a it before holders same h.0, h.1, h.2)
  at_step_now step.Flushing h = (busy_now a it before holders same h.0, h.1)
  at_step_now step.Acting h = done_now a it before holders same h
  at_step_now step.Replying h = replying_now a it before holders same h
  at_step_now step.Pausing h = replying_now a it before holders same h

-- ---- all of it

abbrev pub seeing : Serving → View → Serving
seeing it v = record { state = it.state; job = it.job; view = v }

pub sees_as : (blocks : ℕ) (a : AbstractState) (it : Serving) (w : View) → SeesAlike it.view w → StandsServing blocks a it →
    StandsServing blocks a (seeing it w)
sees_as blocks a it w same h =
    subst (λ (v : View). StandsServing blocks a (seeing it v)) whole
    (record {
      before = h.before;
      files = h.files;
      table = table_now h.before.disk a it.view w.holders same.holders h.table;
      at = at_step_now blocks a it h.before w.holders same.holders it.state.step h.at;
    })
  where
    whole : ◌≡◌ {A = View} (counting it.view w.holders) w
    whole = λ i. record {
      memory = sym same.memory i;
      homes = sym same.homes i;
      pages = sym same.pages i;
      frames = sym same.frames i;
      holders = w.holders;
      value = sym same.value i;
      sender = sym same.sender i;
    }
