-- How many steps the job of a request has left, and how many calls of the kernel.
use Rattle.std.proofs.Common.{◌≡◌, ◌≤◌, ℕ, suc, List, true, Option, Some, None, sym, subst, arith}
use Rattle.std.proofs.lemmas.Bool.{false≢true}
use Rattle.fs_layout.specs.FileTree.{FileAct}
use Rattle.fs_acts.specs.BlockActs.{led_to}
use Rattle.fs_jobs.specs.declared.asks.TreeNext.TheVariants.{GoOn}
use Rattle.fs_jobs.specs.declared.place.TreeState.{TreeState}
use Rattle.fs_runs.specs.JobCalls.{act_calls_max, find_calls_max, job_steps_max, size_calls_max}
use Rattle.fs_runs.specs.TreePlans as tree
use Rattle.fs_runs.specs.TreeRuns.{FewerCalls, Memory, calls_of, found_place}
use Rattle.fs_runs.proofs.Ways.{runs_go_on, ways_go_on}
use Rattle.lib_os.specs.declared.request.RequestKind.{RequestKind}
use Rattle.lib_os.specs.AbstractState.{AbstractState, act}
use Rattle.fs_requests.specs.declared.state.ServerStep.{ServerStep}
use Rattle.fs_requests.specs.declared.state.ServerStep.TheVariants as step
use Rattle.fs_serving.specs.ServerRuns.{AsksFor, IsFound, IsOpened, IsSizing, JobsEndSoon, StandsAtStep, StandsServing, calls_at, has_job, job_calls}
use Rattle.fs_serving.specs.ServerRuns.{job_calls_max, job_on, left_at, memory_worked, opened, opens, over, reads, reads_at, removed, removes, sizes}
use Rattle.fs_serving.specs.ServerRuns.{size_opened, stats, syncs, word_worked, work_calls_max, writes}
use Rattle.fs_serving.specs.ServerViews.{Serving}
use Rattle.fs_serving.proofs.SameTables.{table-over}
use Rattle.fs_serving.proofs.Sizing.{sizes-on}
use Rattle.fs_serving.proofs.Working.{further}

-- An act's calls are no more than those that its kind allows.
act-calls : (count : ℕ) (a : AbstractState) (page : ℕ → ℕ) (k : RequestKind) (f : FileAct) (object : Option ℕ) → AsksFor a page k (act f object) →
    act_calls_max f count ≤ work_calls_max (Some k) count
act-calls count a page _ _ _ (opens path mode has mode_is) = omega arith
act-calls count a page _ _ _ (removes path has) = omega arith
act-calls count a page _ _ _ (reads name f so) = omega arith
act-calls count a page _ _ _ (reads_at name f so near) = omega arith
act-calls count a page _ _ _ (writes name f so within) = omega arith
act-calls count a page _ _ _ (sizes name f so) = omega arith
act-calls count a page _ _ _ (stats name f so) = omega arith
act-calls count a page _ _ _ syncs = omega arith

within : (n m k : ℕ) → n ≤ m → m ≤ k → n ≤ k
within n m k one other = omega (arith, one, other)

-- at a step
abbrev EndsAt : (at : ServerStep) (count : ℕ) (a : AbstractState) (it : Serving) (before : Memory) → StandsAtStep at count a it before → Type 0
EndsAt at count a it before is =
    (left_at at count a it before is ≤ job_steps_max count)
    × (calls_at at count a it before is None ≤ job_calls_max at it.state.kind count)
    × ((next : TreeState) → tree.next_at it.job (word_worked it) ≡ GoOn next →
    (on : StandsAtStep at count a (job_on it next) before) × (suc (left_at at count a (job_on it next) before on) ≡ left_at at count a it before is)
    × FewerCalls (tree.ask_at it.job) (calls_at at count a it before is) (calls_at at count a (job_on it next) before on))

working-ends : (count : ℕ) (a : AbstractState) (it : Serving) (before : Memory) (is : StandsAtStep step.Working count a it before) →
    EndsAt step.Working count a it before is
unfolding further
working-ends count a it before is =
    let stays = ways_go_on count is.is_open is.f before it.job it.view.memory is.on_its_way in
    let few = within (calls_of None is.on_its_way.ends) (act_calls_max is.f count) (work_calls_max (Some is.k) count) is.on_its_way.few
    (act-calls count a before.page is.k is.f is.object is.is_busy.asks) in (
      is.on_its_way.soon,
      subst (λ (k : Option RequestKind). calls_of None is.on_its_way.ends ≤ work_calls_max k count) (sym is.is_busy.kind_is) few,
      λ next goes. let on = stays.2 next goes in (further count a it before is next on.0, on.1, on.2),
    )

-- what was opened stands over the memory over which it was told
opened-on : (count : ℕ) (a : AbstractState) (it : Serving) (before m : Memory) {path : List ℕ} {mode home : ℕ} (next : TreeState) →
    IsOpened a (over it m) before path mode home → IsOpened a (over (job_on it next) m) before path mode home
opened-on count a it before m next is = record {
  opening = record {
    is_busy = record { server = is.opening.is_busy.server; kind_is = is.opening.is_busy.kind_is; asks = is.opening.is_busy.asks };
    below = is.opening.below;
    nobodys = is.opening.nobodys;
    used = is.opening.used;
  };
  has_page = is.has_page;
  has_acted = is.has_acted;
  way = is.way;
  leads = is.leads;
  regular = is.regular;
  named = is.named;
}

finding-ends : (count : ℕ) (a : AbstractState) (it : Serving) (before : Memory) (is : IsFound count a it before) →
    EndsAt step.Finding count a it before is
finding-ends count a it before (opened path mode home {m} is run) =
    let stays = runs_go_on (find_calls_max count) count home m it.job it.view.memory run in (
      run.soon,
      run.few,
      λ next goes. let on = stays.2 next goes in (opened path mode home (opened-on count a it before m next is) on.0, on.1, on.2),
    )
finding-ends count a it before (removed is) =
    let place = found_place before.disk (led_to before.disk is.path) in
    let stays = runs_go_on (find_calls_max count) count place before it.job it.view.memory is.running in (
      is.running.soon,
      is.running.few,
      λ next goes. let on = stays.2 next goes in (
        removed (record {
          path = is.path;
          is_busy = record { server = is.is_busy.server; kind_is = is.is_busy.kind_is; asks = is.is_busy.asks };
          first = is.first;
          running = on.0;
        }),
        on.1,
        on.2,
      ),
    )

sizing-ends : (count : ℕ) (a : AbstractState) (it : Serving) (before : Memory) (is : IsSizing count a it before) →
    EndsAt step.Sizing count a it before is
unfolding sizes-on
sizing-ends count a it before is =
    let stays = runs_go_on size_calls_max count (size_opened is.so_far.opened) is.left_as it.job it.view.memory is.running in (
      is.running.soon,
      is.running.few,
      λ next goes. let on = stays.2 next goes in (sizes-on count a it before is next on.0, on.1, on.2),
    )

ends-at : (at : ServerStep) (count : ℕ) (a : AbstractState) (it : Serving) (before : Memory) (is : StandsAtStep at count a it before) →
    has_job at ≡ true → EndsAt at count a it before is
ends-at step.Working count a it before is job = working-ends count a it before is
ends-at step.Finding count a it before is job = finding-ends count a it before is
ends-at step.Sizing count a it before is job = sizing-ends count a it before is
ends-at _ count a it before is job = absurd (false≢true job)

-- the most calls that the job at hand has left, whatever block was found last
pub job-calls-few : (count : ℕ) (a : AbstractState) (it : Serving) (stands : StandsServing count a it) → has_job it.state.step ≡ true →
    job_calls count a it stands None ≤ job_calls_max it.state.step it.state.kind count
job-calls-few count a it stands job = (ends-at it.state.step count a it stands.before stands.at job).1

pub jobs_end_soon : JobsEndSoon
jobs_end_soon count a it stands job =
    let ends = ends-at it.state.step count a it stands.before stands.at job in (
      ends.0,
      ends.1,
      λ next goes.
          let on = ends.2 next goes in (
            record {
              before = stands.before;
              files = stands.files;
              table = table-over stands.before.disk a it.view (memory_worked it) stands.table;
              at = on.0;
            },
            on.1,
            on.2,
          ),
    )
