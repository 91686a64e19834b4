-- Where the server stands for the abstract one, its next call has what it needs: the page of the place at hand is there, and the frame that is
-- looked at is that of the page.
use Rattle.std.proofs.Common.{◌≡◌, ◌≢◌, ◌∙◌, ◌*◌, ◌<◌, ℕ, true, false, Option, refl, ap, subst, arith}
use Rattle.std.specs.Prelude.{is_some}
use Rattle.jos_base.specs.KernelState.{KernelState}
use Rattle.jos_base.specs.Words.{word_at}
use Rattle.fs_layout.specs.declared.numbers.TheConstants.{BLKSIZE}
use Rattle.fs_runs.specs.TreeRuns.{Memory}
use Rattle.lib_os.specs.declared.numbers.TheConstants.{MAXOPEN, REQUEST_FILE}
use Rattle.lib_os.specs.declared.request.RequestKind.{RequestKind}
use Rattle.lib_os.specs.declared.request.RequestKind.TheVariants as kind
use Rattle.lib_os.specs.AbstractState.{AbstractState, Request, Server, busy}
use Rattle.fs_requests.specs.declared.state.ServerStep.{ServerStep}
use Rattle.fs_requests.specs.declared.state.ServerStep.TheVariants as step
use Rattle.fs_serving.specs.ServerRuns.{AsksFor, HasFiles, HasMoved, IsBusy, IsChecking, IsFound, IsMoving, IsSizing, IsStoring, IsTold, IsWorking}
use Rattle.fs_serving.specs.ServerRuns.{OfFile, StandsAtStep, StandsServing, TableStands, client_of, is_of_file, moved, opened, opens, over, reads}
use Rattle.fs_serving.specs.ServerRuns.{reads_at, removed, removes, seeks, sizes, sought, stats, syncs, writes}
use Rattle.fs_serving.specs.ServerViews.{Serving, request_word}
use Rattle.fs_serving.proofs.HeldFiles.{led-stands, place-past}
use Rattle.fs_serving.proofs.OfFiles.{names_file}
use Rattle.fs_seen.specs.ServerMemory.{HasRequested, has_request, sends_page}
use Rattle.fs_seen.specs.ServerSees.{HasPlace, NeedsAt, reads_request}

moves_file : (k : RequestKind) → IsMoving k ≡ true → is_of_file k ≡ true
moves_file kind.Read is = refl
moves_file kind.Write is = refl
moves_file kind.Open is = is
moves_file kind.SetSize is = refl
moves_file kind.Stat is = refl
moves_file kind.Remove is = is
moves_file kind.Sync is = is
moves_file kind.Seek is = refl
moves_file kind.ReadAt is = refl

module _ (count : ℕ) (a : AbstractState) (it : Serving) (before : Memory) (files : HasFiles count before a.files)
    (table : TableStands before.disk a it.view) where
  -- what is asked of a file names a place that has a page
  file_there : (k : RequestKind) (request : Request) → AsksFor a before.page k request → is_of_file k ≡ true →
      is_some (it.view.pages (word_at before.page REQUEST_FILE)) ≡ true
  file_there k request asks of_file =
      let names = names_file a before.page k request asks of_file in
      ((table.places (word_at before.page REQUEST_FILE) names.open_as.below).holds names.name names.open_as.place names.open_as.held).there

  place_is : it.state.number ≡ word_at before.page REQUEST_FILE → is_some (it.view.pages (word_at before.page REQUEST_FILE)) ≡ true →
      HasPlace it.state it.view
  place_is number there = ap (λ (k : ℕ). is_some (it.view.pages k)) number ∙ there

  of_file : OfFile a it before → it.state.number ≡ request_word it.view REQUEST_FILE → HasPlace it.state it.view
  of_file h number =
      place_is (number ∙ ap (λ (m : Memory). word_at m.page REQUEST_FILE) h.memory) (file_there h.k h.request h.is_busy.asks h.of_file)

  of_moved : HasMoved a it before → HasPlace it.state it.view
  of_moved h = place_is h.number (file_there h.k _ h.is_busy.asks (moves_file h.k h.moves))

  of_told : {told : ℕ} → IsTold a it before told → HasPlace it.state it.view
  of_told h = h.opened.has_page.0

  of_storing : IsStoring a it before → HasPlace it.state it.view
  of_storing (opened so) = of_told so
  of_storing (moved so is) = of_moved so
  of_storing (sought name so number at none memory) = place_is number (file_there kind.Seek _ so.asks refl)

  used_there : it.state.number < MAXOPEN → it.view.homes it.state.number ≢ 0 → HasPlace it.state it.view
  used_there below used = (table.places it.state.number below).there used

  of_checking : IsChecking a it before → it.view.homes it.state.number ≡ it.state.home → HasPlace it.state it.view
  of_checking h same =
      let past = place-past (BLKSIZE * count) before.disk h.way it.state.home files.disk
      (led-stands (BLKSIZE * count) before.disk h.path h.way it.state.home files.disk h.leads) in
      used_there h.below (λ zero. absurd (omega (arith, past, same, zero)))

  needs_at : (n : ℕ) → n ≡ 0 → (at : ServerStep) → StandsAtStep at count a it before → NeedsAt at it.state it.view n
  needs_at n first step.ReadingKind h = first
  needs_at n first step.ReadingClient h = first
  needs_at n first step.ReadingFile h = tt
  needs_at n first step.ReadingOffset h = of_file h.0 h.1
  needs_at n first step.ReadingCount h = tt
  needs_at n first step.ReadingRecord h = tt
  needs_at n first step.LookingRecord h = tt
  needs_at n first step.LookingEntry h = used_there h.0.below h.1
  needs_at n first step.LookingHolders h = (used_there h.0.below h.1, h.2)
  needs_at n first step.TakingPage h = λ number below used. (table.places number below).there used
  needs_at n first step.ReadingMode h = tt
  needs_at n first step.Working h = tt
  needs_at n first step.Finding h = tt
  needs_at n first step.StoringRecord h = tt
  needs_at n first step.StoringDevice h = of_told h
  needs_at n first step.ReadingModeAgain h = tt
  needs_at n first step.StoringMode h = of_told h
  needs_at n first step.StoringFile h = of_told h
  needs_at n first step.ReadingRecordAgain h = tt
  needs_at n first step.Sizing h = tt
  needs_at n first step.StoringSize h = of_told h
  needs_at n first step.Advancing h = of_moved h
  needs_at n first step.StoringOffset h = of_storing h
  needs_at n first step.CheckingRecord h = tt
  needs_at n first step.CheckingEntry h = of_checking h.0 h.1
  needs_at n first step.CheckingHolders h = (of_checking h.0 h.1, h.2)
  needs_at n first step.Flushing h = tt
  needs_at n first step.Acting h = tt
  needs_at n first step.Replying h = tt
  needs_at n first step.Pausing h = tt
  needs_at n first step.Releasing h = tt
  needs_at n first step.Receiving h = tt

pub has_needs : (count : ℕ) (a : AbstractState) (it : Serving) (n : ℕ) → n ≡ 0 → StandsServing count a it →
    NeedsAt it.state.step it.state it.view n
has_needs count a it n first h = needs_at count a it h.before h.files h.table n first it.state.step h.at

-- ---- the page of the request

asks_page : (a : AbstractState) (page : ℕ → ℕ) (k : RequestKind) (request : Request) → AsksFor a page k request → k ≢ kind.Sync →
    sends_page request ≡ true
asks_page a page _ _ (opens path mode has mode_is) other = refl
asks_page a page _ _ (removes path has) other = refl
asks_page a page _ _ (reads name f so) other = refl
asks_page a page _ _ (reads_at name f so near) other = refl
asks_page a page _ _ (writes name f so within) other = refl
asks_page a page _ _ (sizes name f so) other = refl
asks_page a page _ _ (stats name f so) other = refl
asks_page a page _ _ (seeks name f so within) other = refl
asks_page a page _ _ syncs other = absurd (other refl)

module _ (a : AbstractState) (it : Serving) (before : Memory) (s : KernelState) (n : ℕ) (requested : HasRequested a.server s n) where
  -- who is busy with another request than a sync has its page
  pub busy_page : {place : Option ℕ} {k : RequestKind} {request : Request} → IsBusy a it before place k request → k ≢ kind.Sync →
      has_request s n ≡ true
  busy_page {place} {k} {request} h other =
      let page : HasRequested (busy (client_of it.state) request place) s n =
      subst (λ (server : Server). HasRequested server s n) h.server requested in
      page (asks_page a before.page k request h.asks other)

  of_file_page : OfFile a it before → has_request s n ≡ true
  of_file_page h = busy_page h.is_busy (λ same. no_file (subst (λ (k : RequestKind). is_of_file k ≡ true) same h.of_file))
    where
      no_file : is_of_file kind.Sync ≡ true → ⊥
      no_file is = let contradiction : false ≡ true = is in cc

  pub working_page : {count : ℕ} → IsWorking count a it before → has_request s n ≡ true
  working_page h = busy_page h.is_busy h.no_sync

  reads_step : (count : ℕ) (at : ServerStep) → StandsAtStep at count a it before → reads_request at ≡ true → has_request s n ≡ true
  reads_step count step.Releasing h is = absurd (let contradiction : false ≡ true = is in cc)
  reads_step count step.Receiving h is = absurd (let contradiction : false ≡ true = is in cc)
  reads_step count step.ReadingKind h is = absurd (let contradiction : false ≡ true = is in cc)
  reads_step count step.ReadingClient h is = absurd (let contradiction : false ≡ true = is in cc)
  reads_step count step.ReadingFile h is = of_file_page h
  reads_step count step.ReadingOffset h is = of_file_page h.0
  reads_step count step.ReadingCount h is = of_file_page h.0
  reads_step count step.ReadingRecord h is = absurd (let contradiction : false ≡ true = is in cc)
  reads_step count step.LookingRecord h is = absurd (let contradiction : false ≡ true = is in cc)
  reads_step count step.LookingEntry h is = absurd (let contradiction : false ≡ true = is in cc)
  reads_step count step.LookingHolders h is = absurd (let contradiction : false ≡ true = is in cc)
  reads_step count step.TakingPage h is = absurd (let contradiction : false ≡ true = is in cc)
  reads_step count step.ReadingMode h is = busy_page h.2.is_busy (λ e. cc)
  reads_step count step.Working h is = absurd (let contradiction : false ≡ true = is in cc)
  reads_step count step.Finding h is = absurd (let contradiction : false ≡ true = is in cc)
  reads_step count step.StoringRecord h is = absurd (let contradiction : false ≡ true = is in cc)
  reads_step count step.StoringDevice h is = absurd (let contradiction : false ≡ true = is in cc)
  reads_step count step.ReadingModeAgain h is = busy_page h.opened.opening.is_busy (λ e. cc)
  reads_step count step.StoringMode h is = absurd (let contradiction : false ≡ true = is in cc)
  reads_step count step.StoringFile h is = absurd (let contradiction : false ≡ true = is in cc)
  reads_step count step.ReadingRecordAgain h is = absurd (let contradiction : false ≡ true = is in cc)
  reads_step count step.Sizing h is = absurd (let contradiction : false ≡ true = is in cc)
  reads_step count step.StoringSize h is = absurd (let contradiction : false ≡ true = is in cc)
  reads_step count step.Advancing h is = absurd (let contradiction : false ≡ true = is in cc)
  reads_step count step.StoringOffset h is = absurd (let contradiction : false ≡ true = is in cc)
  reads_step count step.CheckingRecord h is = absurd (let contradiction : false ≡ true = is in cc)
  reads_step count step.CheckingEntry h is = absurd (let contradiction : false ≡ true = is in cc)
  reads_step count step.CheckingHolders h is = absurd (let contradiction : false ≡ true = is in cc)
  reads_step count step.Flushing h is = absurd (let contradiction : false ≡ true = is in cc)
  reads_step count step.Acting h is = absurd (let contradiction : false ≡ true = is in cc)
  reads_step count step.Replying h is = absurd (let contradiction : false ≡ true = is in cc)
  reads_step count step.Pausing h is = absurd (let contradiction : false ≡ true = is in cc)

pub finding_page : (count : ℕ) (a : AbstractState) (it : Serving) (before : Memory) (s : KernelState) (n : ℕ) → HasRequested a.server s n →
    IsFound count a it before → has_request s n ≡ true
finding_page count a it before s n requested (opened path mode home {m} so running) =
    busy_page a (over it m) before s n requested so.opening.is_busy (λ e. cc)
finding_page count a it before s n requested (removed so) = busy_page a it before s n requested so.is_busy (λ e. cc)

pub sizing_page : (count : ℕ) (a : AbstractState) (it : Serving) (before : Memory) (s : KernelState) (n : ℕ) → HasRequested a.server s n →
    IsSizing count a it before → has_request s n ≡ true
sizing_page count a it before s n requested h =
    busy_page a (over it h.left_as) before s n requested h.so_far.opened.opening.is_busy (λ e. cc)

pub reads_page : (count : ℕ) (a : AbstractState) (it : Serving) (s : KernelState) (n : ℕ) → HasRequested a.server s n → StandsServing count a it →
    reads_request it.state.step ≡ true → has_request s n ≡ true
reads_page count a it s n requested h = reads_step a it h.before s n requested count it.state.step h.at
