-- Where another's step leaves the server's slot, its entries and the bytes of its pages, the server makes its act within as many calls: the job and the
-- cache stand where they stood, the job sees what it saw, and the same pages are dirty.
use Rattle.std.proofs.Common.{◌≡◌, ◌≢◌, ◌∙◌, ◌≤◌, ◌+◌, ℕ, true, Option, sym, ap, subst}
use Rattle.jos_base.specs.Environments.{Slot}
use Rattle.jos_base.specs.KernelState.{KernelState, slot_at}
use Rattle.lib_os.specs.declared.request.RequestKind.{RequestKind}
use Rattle.lib_os.specs.AbstractState.{AbstractState, idle}
use Rattle.lib_os.specs.BlockCache.{block_row, own_addresses}
use Rattle.lib_os.specs.Disk.{Disk}
use Rattle.lib_os.specs.InOrder.{IsInOrder}
use Rattle.fs_blocks.specs.declared.place.CacheState.{CacheState}
use Rattle.fs_blocks.specs.CachePlaces.{state_in as cache_at_words}
use Rattle.fs_blocks.specs.CachePlans.{flushing}
use Rattle.fs_cache.specs.CacheSteps.{cache_state, flush_calls, row_in}
use Rattle.fs_cache.proofs.Loads.{number_of}
use Rattle.fs_jobs.specs.declared.place.TreeState.{TreeState}
use Rattle.fs_places.specs.TreePlaces as places
use Rattle.fs_runs.specs.TreePlans as tree
use Rattle.fs_runs.specs.TreeRuns.{Memory}
use Rattle.fs_tree.specs.TreeSteps.{AccessReady, access_calls, job_in, memory_in}
use Rattle.fs_requests.specs.declared.state.ServerState.{ServerState}
use Rattle.fs_requests.specs.declared.state.ServerStep.{ServerStep}
use Rattle.fs_requests.specs.declared.state.ServerStep.TheVariants as step
use Rattle.fs_requests.specs.ServerWords.{server_in}
use Rattle.fs_serving.specs.ServerRuns.{IsFound, StandsAtStep, StandsServing, job_calls_max, opened, removed}
use Rattle.fs_serving.specs.ServerViews.{Serving}
use Rattle.fs_server.specs.ServerSteps.{server_at}
use Rattle.fs_seen.specs.ServerFew.{ActsInFew, JobInFew, JobReady, OthersLeaveFew, RunsInFew, calls_in, calls_over, found_for}
use Rattle.fs_seen.specs.ServerMemory.{request_page, serving_in}
use Rattle.fs_seen.specs.ServerOthers.{LeavesBytes}
use Rattle.fs_seen.specs.ServerWhole.{IsServing, keeps_request}
use Rattle.fs_seen.proofs.Changes.{rows_kept}
use Rattle.fs_seen.proofs.OthersNow.{stays_left}
use Rattle.fs_seen.proofs.Over.{bytes_alike, same_entry}
use Rattle.fs_seen.proofs.ServesFor.{servers_stand}
use Rattle.fs_seen.proofs.StaysSo.{Stays, disk_same}

-- while a job is under way the bytes of the request count
module _ (count : ℕ) (a : AbstractState) (it : Serving) (before : Memory) where
  found_keeps : IsFound count a it before → keeps_request a.server ≡ true
  found_keeps (opened path mode home so running) = ap keeps_request so.opening.is_busy.server
  found_keeps (removed so) = ap keeps_request so.is_busy.server

  -- so what is known of its run is known where the job sees the same where they count
  runs_left : (at : ServerStep) (k : Option RequestKind) (job : TreeState) (m now : Memory) (calls : Option ℕ → ℕ) → StandsAtStep at count a it before →
      (keeps_request a.server ≡ true → now ≡ m) → JobInFew at k count job m calls → JobInFew at k count job now calls
  runs_left step.Working k job m now calls is same run =
      subst (λ (x : Memory). RunsInFew (job_calls_max step.Working k count) count job x calls) (sym (same (ap keeps_request is.is_busy.server))) run
  runs_left step.Finding k job m now calls is same run =
      subst (λ (x : Memory). RunsInFew (job_calls_max step.Finding k count) count job x calls) (sym (same (found_keeps is))) run
  runs_left step.Sizing k job m now calls is same run =
      subst (λ (x : Memory). RunsInFew (job_calls_max step.Sizing k count) count job x calls)
      (sym (same (ap keeps_request is.so_far.opened.opening.is_busy.server))) run
  runs_left _ k job m now calls is same run = tt

module _ (most : ℕ) (a b : AbstractState) (d : Disk) (s after : KernelState) (acts : ActsInFew most d s 0 a) (other : a.server ≢ idle)
    (in_order : IsInOrder after) (left : LeavesBytes a.server s after 0) where
  stays : Stays s after 0
  stays = stays_left d s after acts.serving.stands in_order a.server left

  -- ---- where it stands

  state_same : server_at after 0 ≡ server_at s 0
  state_same = ap (λ (x : Slot). server_in x.registers x.extra) left.slot

  job_same : job_in after 0 ≡ job_in s 0
  job_same = ap (λ (x : Slot). places.state_in x.registers x.extra) left.slot

  cache_same : cache_state after 0 ≡ cache_state s 0
  cache_same = ap (λ (x : Slot). cache_at_words x.extra) left.slot

  ready_left : (at : ServerStep) → JobReady at s 0 → JobReady at after 0
  ready_left step.Working ready =
      subst (λ (c : CacheState). AccessReady (tree.ask_at (job_in after 0)) c.place) (sym cache_same)
      (subst (λ (j : TreeState). AccessReady (tree.ask_at j) (cache_state s 0).place) (sym job_same) ready)
  ready_left step.Finding ready =
      subst (λ (c : CacheState). AccessReady (tree.ask_at (job_in after 0)) c.place) (sym cache_same)
      (subst (λ (j : TreeState). AccessReady (tree.ask_at j) (cache_state s 0).place) (sym job_same) ready)
  ready_left step.Sizing ready =
      subst (λ (c : CacheState). AccessReady (tree.ask_at (job_in after 0)) c.place) (sym cache_same)
      (subst (λ (j : TreeState). AccessReady (tree.ask_at j) (cache_state s 0).place) (sym job_same) ready)
  ready_left _ ready = tt

  -- ---- its pages

  -- the blocks have the entries that they had
  row_same : row_in after 0 ≡ row_in s 0
  row_same = λ i m. block_same m i
    where
      entry_left : (p : ℕ) → after.spaces.entries (slot_at s 0).directory p ≡ s.spaces.entries (slot_at s 0).directory p
      entry_left p = ap (λ (x : Slot). after.spaces.entries x.directory p) (sym left.slot) ∙ left.entries p

      block_same : (m : ℕ) → row_in after 0 m ≡ row_in s 0 m
      block_same m =
          ap (λ (x : Slot). block_row after.spaces x.directory own_addresses m) left.slot
          ∙ rows_kept s.spaces after.spaces (slot_at s 0).directory (λ q below. entry_left (number_of q)) m

  -- the job sees what it saw, where the bytes of the request count
  memory_same : keeps_request a.server ≡ true → memory_in d after 0 ≡ memory_in d s 0
  memory_same keeps = λ i. record { disk = disk_same s after 0 stays d i; page = page_same i }
    where
      page_same : (memory_in d after 0).page ≡ (memory_in d s 0).page
      page_same =
          bytes_alike s after 0 (λ x is. (acts.serving.stands.request x is).bits)
          (same_entry s after 0 (left.entries request_page) (left.request keeps))

  -- ---- its calls

  calls_same : calls_in d.count acts.calls after 0 ≡ calls_in d.count acts.calls s 0
  calls_same = λ i.
      let it = tree.ask_at (job_same i) in let place = (cache_same i).place in
      calls_over d.count (state_same i).step (state_same i).kind (state_same i).number (access_calls it place + acts.calls (found_for it place))
      (flush_calls (flushing place) (row_same i))

  serves_left : IsServing d after 0 b → ActsInFew most d after 0 b
  serves_left serving = record {
    serving = serving;
    ready = subst (λ (x : ServerState). JobReady x.step after 0) (sym state_same) (ready_left (server_at s 0).step acts.ready);
    calls = acts.calls;
    runs =
        subst (λ (j : TreeState). JobInFew (server_at after 0).step (server_at after 0).kind d.count j (memory_in d after 0) acts.calls) (sym job_same)
        (subst (λ (x : ServerState). JobInFew x.step x.kind d.count (job_in s 0) (memory_in d after 0) acts.calls) (sym state_same)
        (runs_left d.count a (serving_in d s 0) stands.before (server_at s 0).step (server_at s 0).kind (job_in s 0) (memory_in d s 0)
        (memory_in d after 0) acts.calls stands.at memory_same acts.runs));
    within = subst (λ (x : ℕ). x ≤ most) (sym calls_same) acts.within;
  }
    where
      stands : StandsServing d.count a (serving_in d s 0)
      stands = servers_stand a d s acts.serving other

pub others_leave_few : OthersLeaveFew
others_leave_few most a b d s after acts other in_order left serving = serves_left most a b d s after acts other in_order left serving
