-- What is so of the server for an abstract state is so for another that keeps what it has, and where pages are mapped more or less often: who holds a
-- file may give it up, but whom the server serves does not, and nobody begins to hold one.
use Rattle.std.proofs.Common.{◌≡◌, ◌∙◌, ◌<◌, ◌%◌, ℕ, Bool, true, false, List, Option, Some, None, refl, sym, ap, arith}
use Rattle.std.specs.Prelude.{is_some, nat_le}
use Rattle.jos_base.proofs.Below.{some_below-at}
use Rattle.jos_base.specs.declared.numbers.TheConstants.{NENV}
use Rattle.fs_layout.specs.FileTree.{FileAct, open_path, read_file, remove_path, set_file_size, stat_file, sync_files, write_file}
use Rattle.lib_os.specs.declared.numbers.TheConstants.{MAXOPEN}
use Rattle.lib_os.specs.declared.request.RequestKind.{RequestKind}
use Rattle.lib_os.specs.AbstractLaws.{client_served}
use Rattle.lib_os.specs.AbstractState.{AbstractState, OpenFile, Request, Server, TablePlace, act, file, seek}
use Rattle.lib_os.specs.Descriptors.{holds_in, is_held}
use Rattle.lib_os.specs.FileServer.{is_file_open, request_begun}
use Rattle.lib_os.specs.GuestStep.{born_in}
use Rattle.fs_runs.specs.TreeRuns.{HasActed, Memory}
use Rattle.fs_requests.specs.declared.state.ServerStep.{ServerStep}
use Rattle.fs_requests.specs.declared.state.ServerStep.TheVariants as step
use Rattle.fs_serving.specs.ServerRuns.{AsksFor, HasCome, HasFile, HasMoved, HasObject, HasOffset, HasPage, IsBusy, IsChecking, IsClosed, IsDone}
use Rattle.fs_serving.specs.ServerRuns.{IsFinding, IsFound, IsLooking, IsMoving, IsOpenAs, IsOpened, IsOpening, IsReplying, IsSizing, IsStoring}
use Rattle.fs_serving.specs.ServerRuns.{IsTold, IsWorking, OfFile, OpenAlike, StandsAtStep, client_of, moved, opened, opens, over, reads, reads_at}
use Rattle.fs_serving.specs.ServerRuns.{removed, removes, seeks, sizes, sought, stats, syncs, writes}
use Rattle.fs_serving.specs.ServerViews.{Serving, View}
use Rattle.fs_serving.proofs.Working.{acted-alike}
use Rattle.fs_seen.proofs.SeenAlike.{place_told_same}

-- Another abstract state keeps what the server has. Of what is held some may be given up.
pub record KeepsServed (a b : AbstractState) : Type 0 where
  pub server : b.server ≡ a.server
  pub opened : b.opened ≡ a.opened
  pub objects : (number name : ℕ) → (a.opened number).held_by ≡ Some name → b.objects name ≡ a.objects name
  pub lost : (number name : ℕ) → number < MAXOPEN → (a.opened number).held_by ≡ Some name → is_held b name ≡ true → is_held a name ≡ true
  pub holds : (client name : ℕ) (f : OpenFile) → a.objects name ≡ file f → client_served a.server ≡ Some client →
      holds_in (born_in (a.slots client)) name ≡ true → holds_in (born_in (b.slots client)) name ≡ true
  pub open_before : (way : List ℕ) → is_file_open b way ≡ true → is_file_open a way ≡ true

-- the page of a place that nobody holds is still mapped by the server alone
abbrev pub StaysFree : AbstractState → View → (ℕ → ℕ) → Type 0
StaysFree a v holders = (number : ℕ) → is_some (v.pages number) ≡ true → (a.opened number).held_by ≡ None →
    nat_le 2 (v.holders (v.frames number)) ≡ false → nat_le 2 (holders (v.frames number)) ≡ false

abbrev pub mapping : View → (ℕ → ℕ) → View
mapping v holders = record {
  memory = v.memory;
  homes = v.homes;
  pages = v.pages;
  frames = v.frames;
  holders = holders;
  value = v.value;
  sender = v.sender;
}

abbrev pub mapped : Serving → (ℕ → ℕ) → Serving
mapped it holders = record { state = it.state; job = it.job; view = mapping it.view holders }

-- whoever asks is served
begun_served : (client : ℕ) (request : Request) → client_served (request_begun client request) ≡ Some client
begun_served client (act (open_path path mode) object) = refl
begun_served client (act (read_file way offset len) object) = refl
begun_served client (act (write_file way offset bytes) object) = refl
begun_served client (act (set_file_size way size) object) = refl
begun_served client (act (stat_file way) object) = refl
begun_served client (act (remove_path path) object) = refl
begun_served client (act sync_files object) = refl
begun_served client (seek name offset) = refl

-- bytes are moved by acts that remove nothing
moved_closed : (a : AbstractState) (page : ℕ → ℕ) (is_open : List ℕ → Bool) (disk : ℕ → ℕ) (k : RequestKind) (f : FileAct) (object : Option ℕ) →
    AsksFor a page k (act f object) → IsMoving k ≡ true → IsClosed is_open disk f
moved_closed a page is_open disk _ _ _ (opens path mode has is) moves = tt
moved_closed a page is_open disk _ _ _ (removes path has) moves = absurd (let contradiction : false ≡ true = moves in cc)
moved_closed a page is_open disk _ _ _ (reads name f so) moves = tt
moved_closed a page is_open disk _ _ _ (reads_at name f so near) moves = tt
moved_closed a page is_open disk _ _ _ (writes name f so within) moves = tt
moved_closed a page is_open disk _ _ _ (sizes name f so) moves = tt
moved_closed a page is_open disk _ _ _ (stats name f so) moves = tt
moved_closed a page is_open disk _ _ _ syncs moves = tt

-- ---- for another abstract state

module _ (a b : AbstractState) (same : KeepsServed a b) where
  place_as : (number : ℕ) → (b.opened number).held_by ≡ (a.opened number).held_by
  place_as number = ap (λ (o : ℕ → TablePlace). (o number).held_by) same.opened

  server_as : {x : Server} → a.server ≡ x → b.server ≡ x
  server_as is = same.server ∙ is

  served_as : (client : ℕ) → client_served b.server ≡ Some client → client_served a.server ≡ Some client
  served_as client is = sym (ap client_served same.server) ∙ is

  -- what it asks for it still holds
  module _ (client : ℕ) (below : client < NENV) (served : client_served a.server ≡ Some client) where
    open_as : {page : ℕ → ℕ} {name : ℕ} {f : OpenFile} → IsOpenAs a page name f → IsOpenAs b page name f
    open_as {name = name} {f = f} h = record {
      below = h.below;
      place = place_as _ ∙ h.place;
      held = some_below-at (λ n. holds_in (born_in (b.slots n)) name) NENV client below (same.holds client name f h.is served (h.client client served));
      is = same.objects _ name h.place ∙ h.is;
      client = λ n is. same.holds n name f h.is (served_as n is) (h.client n (served_as n is));
    }

    asks_as : (page : ℕ → ℕ) (k : RequestKind) (request : Request) → AsksFor a page k request → AsksFor b page k request
    asks_as page _ _ (opens path mode has is) = opens path mode has is
    asks_as page _ _ (removes path has) = removes path has
    asks_as page _ _ (reads name f so) = reads name f (open_as so)
    asks_as page _ _ (reads_at name f so near) = reads_at name f (open_as so) near
    asks_as page _ _ (writes name f so within) = writes name f (open_as so) within
    asks_as page _ _ (sizes name f so) = sizes name f (open_as so)
    asks_as page _ _ (stats name f so) = stats name f (open_as so)
    asks_as page _ _ (seeks name f so within) = seeks name f (open_as so) within
    asks_as page _ _ syncs = syncs

  -- what is not open is not opened
  still_closed : (way : List ℕ) → is_file_open a way ≡ false → is_file_open b way ≡ false
  still_closed way closed = by (is_file_open b way) refl
    where
      by : (t : Bool) → is_file_open b way ≡ t → t ≡ false
      by false is = refl
      by true is = absurd (let contradiction : false ≡ true = sym closed ∙ same.open_before way is in cc)

  closed_as : (disk : ℕ → ℕ) (f : FileAct) → IsClosed (is_file_open a) disk f → IsClosed (is_file_open b) disk f
  closed_as disk (remove_path path) closed = λ home way leads regular. still_closed way (closed home way leads regular)
  closed_as disk (open_path path mode) closed = tt
  closed_as disk (read_file way offset len) closed = tt
  closed_as disk (write_file way offset bytes) closed = tt
  closed_as disk (set_file_size way size) closed = tt
  closed_as disk (stat_file way) closed = tt
  closed_as disk sync_files closed = tt

  alike_as : (is_open : List ℕ → Bool) (disk : ℕ → ℕ) (f : FileAct) → IsClosed (is_file_open a) disk f → OpenAlike is_open (is_file_open a) disk f →
      OpenAlike is_open (is_file_open b) disk f
  alike_as is_open disk (remove_path path) closed alike = λ home way leads regular.
      let off = closed home way leads regular in alike home way leads regular ∙ off ∙ sym (still_closed way off)
  alike_as is_open disk (open_path path mode) closed alike = tt
  alike_as is_open disk (read_file way offset len) closed alike = tt
  alike_as is_open disk (write_file way offset bytes) closed alike = tt
  alike_as is_open disk (set_file_size way size) closed alike = tt
  alike_as is_open disk (stat_file way) closed alike = tt
  alike_as is_open disk sync_files closed alike = tt

  itself : (disk : ℕ → ℕ) (f : FileAct) → OpenAlike (is_file_open a) (is_file_open a) disk f
  itself disk (remove_path path) = λ home way leads regular. refl
  itself disk (open_path path mode) = tt
  itself disk (read_file way offset len) = tt
  itself disk (write_file way offset bytes) = tt
  itself disk (set_file_size way size) = tt
  itself disk (stat_file way) = tt
  itself disk sync_files = tt

  acted_as : (f : FileAct) (before : Memory) (answer : ℕ) (m : Memory) → IsClosed (is_file_open a) before.disk f →
      HasActed (is_file_open a) f before answer m → HasActed (is_file_open b) f before answer m
  acted_as f before answer m closed done =
      acted-alike (is_file_open a) (is_file_open b) f before answer m (alike_as (is_file_open a) before.disk f closed (itself before.disk f)) done

  module _ (it : Serving) (before : Memory) (holders : ℕ → ℕ) (free : StaysFree a it.view holders) where
    abbrev now : Serving
    now = mapped it holders

    file_as : {disk : ℕ → ℕ} (number name : ℕ) → (a.opened number).held_by ≡ Some name → HasFile disk a it.view number name →
        HasFile disk b now.view number name
    file_as number name by h = record {
      f = h.f;
      is = same.objects number name by ∙ h.is;
      home = h.home;
      regular = h.regular;
      there = h.there;
      device = h.device;
      offset = h.offset;
      mode = h.mode;
      size = h.size;
      number_is = h.number_is;
      small = h.small;
      sized = h.sized;
    }

    page_as : (a.opened it.state.number).held_by ≡ None → HasPage it → HasPage now
    page_as nobodys h = (h.0, free it.state.number h.0 nobodys h.1)

    busy_as : {place : Option ℕ} {k : RequestKind} {request : Request} → IsBusy a it before place k request → IsBusy b now before place k request
    busy_as {k = k} {request = request} h = record {
      server = server_as h.server;
      kind_is = h.kind_is;
      asks = asks_as (client_of it.state) (omega arith) (ap client_served h.server) before.page k request h.asks;
    }

    come_as : {sender : ℕ} {k : RequestKind} → HasCome a it before sender k → HasCome b now before sender k
    come_as {sender = sender} {k = k} h = record {
      request = h.request;
      server = server_as h.server;
      asks =
          asks_as (sender % NENV) (omega arith) (ap client_served h.server ∙ begun_served (sender % NENV) h.request) before.page k h.request h.asks;
      memory = h.memory;
    }

    of_file_as : OfFile a it before → OfFile b now before
    of_file_as h = record { k = h.k; request = h.request; is_busy = busy_as h.is_busy; of_file = h.of_file; memory = h.memory }

    looking_as : IsLooking a it before → IsLooking b now before
    looking_as h = record {
      path = h.path;
      mode = h.mode;
      server = server_as h.server;
      kind_is = h.kind_is;
      asks = asks_as (client_of it.state) (omega arith) (ap client_served h.server) before.page _ _ h.asks;
      below = h.below;
      memory = h.memory;
    }

    opening_as : {path : List ℕ} {mode : ℕ} → IsOpening a it before path mode → IsOpening b now before path mode
    opening_as h = record {
      is_busy = busy_as h.is_busy;
      below = h.below;
      nobodys = place_as it.state.number ∙ h.nobodys;
      used = ap (λ (o : ℕ → TablePlace). (o it.state.number).used) same.opened ∙ h.used;
    }

    unfoldable opened_as : {path : List ℕ} {mode home : ℕ} → IsOpened a it before path mode home → IsOpened b now before path mode home
    opened_as {path = path} {mode = mode} h = record {
      opening = opening_as h.opening;
      has_page = page_as h.opening.nobodys h.has_page;
      has_acted = acted_as (open_path path mode) before 0 it.view.memory tt h.has_acted;
      way = h.way;
      leads = h.leads;
      regular = h.regular;
      named = h.named;
    }

    unfoldable told_as : {told : ℕ} → IsTold a it before told → IsTold b now before told
    unfolding opened_as
    told_as h = record {
      path = h.path;
      mode = h.mode;
      home = h.home;
      opened = opened_as h.opened;
      kept = h.kept;
      home_is = h.home_is;
      device = h.device;
      read = h.read;
      mode_is = h.mode_is;
      number_is = h.number_is;
      sized = h.sized;
      size = h.size;
      offset = h.offset;
    }

    moved_as : HasMoved a it before → HasMoved b now before
    moved_as h = record {
      k = h.k;
      f = h.f;
      name = h.name;
      is_busy = busy_as h.is_busy;
      moves = h.moves;
      number = h.number;
      has_acted =
          acted_as h.f before it.state.count it.view.memory
          (moved_closed a before.page (is_file_open a) before.disk h.k h.f (Some h.name) h.is_busy.asks h.moves) h.has_acted;
      many = h.many;
    }

    done_as : IsDone a it before → IsDone b now before
    done_as h = record {
      k = h.k;
      f = h.f;
      object = h.object;
      place = h.place;
      is_busy = busy_as h.is_busy;
      has_acted = acted_as h.f before it.state.count it.view.memory h.closed h.has_acted;
      closed = closed_as before.disk h.f h.closed;
      stays = h.stays;
      not_opened = h.not_opened;
    }

    storing_as : IsStoring a it before → IsStoring b now before
    storing_as (opened so) = opened (told_as so)
    storing_as (moved so is) = moved (moved_as so) is
    storing_as (sought name so number at count memory) = sought name (busy_as so) number at count memory

    offset_as : HasOffset it → HasOffset now
    offset_as is = is ∙ sym (place_told_same it.state.kind it.view now.view it.state.number refl refl)

    checking_as : IsChecking a it before → IsChecking b now before
    checking_as h = record {
      path = h.path;
      way = h.way;
      is_busy = busy_as h.is_busy;
      memory = h.memory;
      leads = h.leads;
      regular = h.regular;
      below = h.below;
      closed = λ number name low by held.
          let last = h.below in
          let was : (a.opened number).held_by ≡ Some name = sym (place_as number) ∙ by in
          h.closed number name low was (same.lost number name (omega (arith, low, last)) was held);
    }

    has_object_as : (object : Option ℕ) → HasObject a it object → HasObject b now object
    has_object_as None h = h
    has_object_as (Some name) h = (h.0, h.1, h.2, place_as it.state.number ∙ h.3, file_as it.state.number name h.3 h.4)

    replying_as : IsReplying a it before → IsReplying b now before
    replying_as h = record {
      bytes = h.bytes;
      object = h.object;
      server = server_as h.server;
      memory = h.memory;
      handed = h.handed;
      has_object = has_object_as h.object h.has_object;
    }

  module _ (count : ℕ) (it : Serving) (before : Memory) (holders : ℕ → ℕ) (free : StaysFree a it.view holders) where
    working_as : IsWorking count a it before → IsWorking count b (mapped it holders) before
    working_as h = record {
      k = h.k;
      f = h.f;
      object = h.object;
      place = h.place;
      is_busy = busy_as it before holders free h.is_busy;
      is_open = h.is_open;
      alike = alike_as h.is_open before.disk h.f h.closed h.alike;
      closed = closed_as before.disk h.f h.closed;
      on_its_way = h.on_its_way;
      opening = λ is. (let o = h.opening is in (
        o.0,
        o.1,
        opening_as it before holders free o.2,
        page_as it before holders free o.2.nobodys o.3,
      ));
      moving = h.moving;
      no_place = h.no_place;
      no_sync = h.no_sync;
    }

    finding_as : IsFinding count a it before → IsFinding count b (mapped it holders) before
    finding_as h = record { path = h.path; is_busy = busy_as it before holders free h.is_busy; first = h.first; running = h.running }

    found_as : IsFound count a it before → IsFound count b (mapped it holders) before
    found_as (opened path mode home {m} so running) = opened path mode home {m = m} (opened_as (over it m) before holders free so) running
    found_as (removed so) = removed (finding_as so)

    sizing_as : IsSizing count a it before → IsSizing count b (mapped it holders) before
    unfolding told_as opened_as
    sizing_as h = record { left_as = h.left_as; so_far = told_as (over it h.left_as) before holders free h.so_far; running = h.running }

    pub at_as : (at : ServerStep) → StandsAtStep at count a it before → StandsAtStep at count b (mapped it holders) before
    at_as step.Releasing h = (server_as h.0, h.1)
    at_as step.Receiving h = (server_as h.0, h.1)
    at_as step.ReadingKind h = (h.0, h.1, come_as it before holders free h.2)
    at_as step.ReadingClient h = (h.0, h.1, come_as it before holders free h.2)
    at_as step.ReadingFile h = of_file_as it before holders free h
    at_as step.ReadingOffset h = (of_file_as it before holders free h.0, h.1)
    at_as step.ReadingCount h = (of_file_as it before holders free h.0, h.1, offset_as it before holders free h.2)
    at_as step.ReadingRecord h = (of_file_as it before holders free h.0, h.1, offset_as it before holders free h.2, h.3, h.4)
    at_as step.LookingRecord h = looking_as it before holders free h
    at_as step.LookingEntry h = (looking_as it before holders free h.0, h.1)
    at_as step.LookingHolders h = (looking_as it before holders free h.0, h.1, h.2)
    at_as step.TakingPage h = (h.0, h.1, opening_as it before holders free h.2, h.3, h.4)
    at_as step.ReadingMode h = (h.0, h.1, opening_as it before holders free h.2, page_as it before holders free h.2.nobodys h.3, h.4)
    at_as step.Working h = working_as h
    at_as step.Finding h = found_as h
    at_as step.StoringRecord h = told_as it before holders free h
    at_as step.StoringDevice h = told_as it before holders free h
    at_as step.ReadingModeAgain h = told_as it before holders free h
    at_as step.StoringMode h = told_as it before holders free h
    at_as step.StoringFile h = told_as it before holders free h
    at_as step.ReadingRecordAgain h = told_as it before holders free h
    at_as step.Sizing h = sizing_as h
    at_as step.StoringSize h = told_as it before holders free h
    at_as step.Advancing h = moved_as it before holders free h
    at_as step.StoringOffset h = storing_as it before holders free h
    at_as step.CheckingRecord h = checking_as it before holders free h
    at_as step.CheckingEntry h = (checking_as it before holders free h.0, h.1)
    at_as step.CheckingHolders h = (checking_as it before holders free h.0, h.1, h.2)
    at_as step.Flushing h = (busy_as it before holders free h.0, h.1)
    at_as step.Acting h = done_as it before holders free h
    at_as step.Replying h = replying_as it before holders free h
    at_as step.Pausing h = replying_as it before holders free h
