-- The server makes its act in few calls, where no page is refused: each hidden step lowers the number, and behind one that is seen it is no more than a
-- whole request takes.
use Rattle.std.proofs.Common.{◌≡◌, ◌∙◌, ◌<◌, ◌≤◌, ◌⊎◌, ◌+◌, ◌*◌, ◌^◌, inl, inr, ℕ, Bool, true, false, Option, Some, None, refl, sym, ap, subst, arith}
use Rattle.std.proofs.Common.{if◌then◌else◌}
use Rattle.std.proofs.lemmas.Bool.{false≢true}
use Rattle.std.proofs.lemmas.Option.{same_Some}
use Rattle.jos_host.specs.Files.{Files}
use Rattle.jos_host.specs.Frames.{Around}
use Rattle.jos_base.specs.KernelState.{KernelState}
use Rattle.fs_layout.specs.declared.numbers.TheConstants.{BLKSIZE, MAXBLOCKS}
use Rattle.fs_acts.proofs.DiskCounts.{image-counted}
use Rattle.fs_acts.proofs.Disks.{disk-blocks}
use Rattle.lib_os.specs.declared.progress.Progress.{Progress}
use Rattle.lib_os.specs.declared.progress.Progress.TheVariants as progress
use Rattle.lib_os.specs.declared.request.RequestKind.{RequestKind}
use Rattle.lib_os.specs.AbstractState.{AbstractState}
use Rattle.lib_os.specs.Disk.{Disk, DiskFile, disk_in}
use Rattle.lib_os.specs.UserCalls.{Output}
use Rattle.fs_blocks.specs.declared.place.CachePlace.{CachePlace}
use Rattle.fs_blocks.specs.CachePlans.{flushing}
use Rattle.fs_cache.specs.declared.steps.Flushed.TheVariants as flushed
use Rattle.fs_cache.specs.CacheSteps.{WasRefused, cache_state, flush_calls, is_fetching, row_in}
use Rattle.fs_cache.specs.CacheStands.{CacheAt}
use Rattle.fs_cache.proofs.FallsCalls.{flush_calls_within}
use Rattle.fs_jobs.specs.declared.asks.TreeAsk.{TreeAsk}
use Rattle.fs_jobs.specs.declared.place.TreeState.{TreeState}
use Rattle.fs_runs.specs.TreePlans as tree
use Rattle.fs_runs.specs.TreeRuns.{Ends, FewerCalls, Memory, calls_of, memory_after}
use Rattle.fs_tree.specs.declared.steps.Acted.{Acted}
use Rattle.fs_tree.specs.declared.steps.Acted.TheVariants as acted
use Rattle.fs_tree.specs.TreeSteps as steps
use Rattle.fs_tree.specs.TreeSteps.{AccessReady, HasStepped, TreeAt, access_calls, job_in, memory_in}
use Rattle.fs_requests.specs.declared.plan.ServerNext.{ServerNext}
use Rattle.fs_requests.specs.declared.state.ServerState.{ServerState}
use Rattle.fs_requests.specs.declared.state.ServerStep.{ServerStep}
use Rattle.fs_requests.specs.declared.state.ServerStep.TheVariants as step
use Rattle.fs_requests.specs.ServerPlans.{next_at, opens}
use Rattle.fs_serving.specs.ServerRuns.{Follows, IsFound, StandsAtStep, StandsServing, calls_at, found_calls, has_job, is_serving, job_calls}
use Rattle.fs_serving.specs.ServerRuns.{job_calls_max, opened, removed}
use Rattle.fs_serving.specs.ServerViews.{Calls, Serving, called}
use Rattle.fs_serving.proofs.JobsLeft.{job-calls-few}
use Rattle.fs_server.specs.ServerSteps.{Flushes, HasFlushed, HasWorked, answers, ends, goes, server_at}
use Rattle.fs_seen.specs.ServerFew.{ActsInFew, CallsTakeFew, Fewer, FlushesTakeFew, JobInFew, JobReady, JobsTakeFew, RequestsTakeFew, RunsInFew, calls_in}
use Rattle.fs_seen.specs.ServerFew.{calls_over, found_for, found_in, server_calls_max, work_calls}
use Rattle.fs_seen.specs.ServerMemory.{HasRequested, serving_in}
use Rattle.fs_seen.specs.ServerSees.{AccessRests, AllStands, CacheRests, HasServed, IsSeen, is_working}
use Rattle.fs_seen.specs.ServerWhole.{GoesOnServing, IsServing}
use Rattle.fs_seen.proofs.CallsFall.{Falls, JobFits, falls_more, plans_take}
use Rattle.fs_seen.proofs.CallsSeen.{calls_are_seen}
use Rattle.fs_seen.proofs.FewAccesses.{Head, access_least, access_most, access_ready, rest_most, run_five, run_head, wanted_same}
use Rattle.fs_seen.proofs.FlushesServed.{flush_leaves, flushes_serve}
use Rattle.fs_seen.proofs.GoesOn.{goes_well}
use Rattle.fs_seen.proofs.JobsServed.{jobs_serve, number_below}
use Rattle.fs_seen.proofs.KindsFit.{kind_fits}
use Rattle.fs_seen.proofs.Needs.{has_needs, reads_page}
use Rattle.fs_seen.proofs.Over.{all_small}
use Rattle.fs_seen.proofs.Rests.{found_rests, rests_of_job, rests_there}
use Rattle.fs_seen.proofs.RunsOn.{run_goes_on}
use Rattle.fs_seen.proofs.ServesFor.{served_is_kept, servers_stand}
use Rattle.fs_seen.proofs.ServesOver.{call_idle, call_serves, quiet_or_taking, seen_serves}
use Rattle.fs_seen.proofs.Setting.{StandsNext, gone_cache, gone_stands}
use Rattle.fs_seen.proofs.TableLeft.{StandsStill, still}
use Rattle.fs_seen.proofs.TakingLaw.{pages_are_taken}

-- ---- what is known

-- a disk has blocks
some_blocks : (count : ℕ) (a : AbstractState) (it : Serving) → StandsServing count a it → 1 ≤ count
some_blocks count a it h =
    least count (subst (λ (n : ℕ). 4 ≤ n) h.files.count_is
    (disk-blocks (BLKSIZE * count) h.before.disk (image-counted (BLKSIZE * count) h.before.disk h.files.disk)).0)
  where
    least : (n : ℕ) → 4 ≤ n → 1 ≤ n
    least n le = omega (arith, le)

-- ---- the job at hand

-- its calls are few
module _ (count : ℕ) (a : AbstractState) (it : Serving) (before : Memory) where
  abbrev Few : ServerStep → (Option ℕ → ℕ) → Type 0
  Few at calls = JobInFew at it.state.kind count it.job it.view.memory calls

  found_few : (is : IsFound count a it before) → found_calls count a it before is None ≤ job_calls_max step.Finding it.state.kind count →
      Few step.Finding (found_calls count a it before is)
  found_few (opened path mode home is run) few =
      record { left = run.left; answer = home; after = _; ends = run.ends; calls_are = λ found. refl; few = few }
  found_few (removed is) few =
      let run = is.running in record { left = run.left; answer = _; after = before; ends = run.ends; calls_are = λ found. refl; few = few }

  few_there : (at : ServerStep) (is : StandsAtStep at count a it before) →
      (has_job at ≡ true → calls_at at count a it before is None ≤ job_calls_max at it.state.kind count) → Few at (calls_at at count a it before is)
  few_there step.Working is few =
      let way = is.on_its_way in
      record { left = way.left; answer = way.answer; after = way.after; ends = way.ends; calls_are = λ found. refl; few = few refl }
  few_there step.Finding is few = found_few is (few refl)
  few_there step.Sizing is few =
      let run = is.running in
      record { left = run.left; answer = _; after = is.left_as; ends = run.ends; calls_are = λ found. refl; few = few refl }
  few_there _ is few = tt

abbrev HasFew : ℕ → Serving → Type 0
HasFew count it = (calls : Option ℕ → ℕ) × JobInFew it.state.step it.state.kind count it.job it.view.memory calls

has_few : (count : ℕ) (a : AbstractState) (it : Serving) → StandsServing count a it → HasFew count it
has_few count a it h =
    (job_calls count a it h, few_there count a it h.before it.state.step h.at (job-calls-few count a it h))

-- with what is wanted of the cache they are no more than the job's alone, where nothing is known to be found
module _ {most count : ℕ} {job : TreeState} {m : Memory} {calls : Option ℕ → ℕ} (run : RunsInFew most count job m calls) where
  head : Head count (tree.ask_at job) calls
  head =
      let first = run_head run.ends in
      record { inside = first.inside; behind = first.behind; is = λ found. run.calls_are found ∙ first.is found }

  none_most : (found : Option ℕ) → calls found ≤ calls None
  none_most found =
      as_they_are (calls found) (calls_of found run.ends) (calls None) (calls_of None run.ends) (run.calls_are found) (run.calls_are None)
      (run_five found run.ends).0
    where
      as_they_are : (x a y b : ℕ) → x ≡ a → y ≡ b → a ≤ b → x ≤ y
      as_they_are x a y b one two le = omega (arith, one, two, le)

  run_most : count ≤ MAXBLOCKS → (place : CachePlace) → access_calls (tree.ask_at job) place + calls (found_for (tree.ask_at job) place) ≤ most
  run_most few place =
      within (access_calls (tree.ask_at job) place + calls (found_for (tree.ask_at job) place)) (calls (found_in place)) (calls None)
      (access_most count (tree.ask_at job) place calls few head) (none_most (found_in place)) run.few
    where
      within : (x y z : ℕ) → x ≤ y → y ≤ z → z ≤ most → x ≤ most
      within x y z one two three = omega (arith, one, two, three)

job_fits : (count : ℕ) (at : ServerStep) (k : Option RequestKind) (s : KernelState) (n : ℕ) (m : Memory) (calls : Option ℕ → ℕ) → count ≤ MAXBLOCKS →
    JobInFew at k count (job_in s n) m calls → JobFits count (work_calls calls s n) at k
job_fits count step.Working k s n m calls few run = run_most run few (cache_state s n).place
job_fits count step.Finding k s n m calls few run = run_most run few (cache_state s n).place
job_fits count step.Sizing k s n m calls few run = run_most run few (cache_state s n).place
job_fits count _ k s n m calls few run = tt

ready_at : (at : ServerStep) (s : KernelState) (n : ℕ) → is_fetching (cache_state s n).place ≡ false → JobReady at s n
ready_at step.Working s n none = access_ready (tree.ask_at (job_in s n)) (cache_state s n).place none
ready_at step.Finding s n none = access_ready (tree.ask_at (job_in s n)) (cache_state s n).place none
ready_at step.Sizing s n none = access_ready (tree.ask_at (job_in s n)) (cache_state s n).place none
ready_at _ s n none = tt

-- ---- behind a step

-- whatever job is at hand, less is left
abbrev FallsTo : Progress → ℕ → Disk → KernelState → Type 0
FallsTo p most e after = (calls : Option ℕ → ℕ) → JobFits e.count (work_calls calls after 0) (server_at after 0).step (server_at after 0).kind →
    Falls e.count p most (calls_in e.count calls after 0)

-- It serves on, and no fetch is under way.
module _ (most : ℕ) (e : Disk) (after : KernelState) (none : is_fetching (cache_state after 0).place ≡ false) where
  abbrev On : Progress → AbstractState → Type 0
  On p b = (number : ℕ) × (Falls e.count p most number) × ActsInFew number e after 0 b

  acts_on : (p : Progress) (b : AbstractState) → IsServing e after 0 b → StandsServing e.count b (serving_in e after 0) → FallsTo p most e after → On p b
  acts_on p b serving stands falls =
      let few = has_few e.count b (serving_in e after 0) stands in (
        calls_in e.count few.0 after 0,
        falls few.0 (job_fits e.count (server_at after 0).step (server_at after 0).kind after 0 (memory_in e after 0) few.0 serving.stands.count few.1),
        record {
          serving = serving;
          ready = ready_at (server_at after 0).step after 0 none;
          calls = few.0;
          runs = few.1;
          within = omega arith;
        },
      )

  more : (number : ℕ) (b : AbstractState) → number ≤ server_calls_max e.count → ActsInFew number e after 0 b → ActsInFew (server_calls_max e.count) e after 0 b
  more number b le acts = record {
    serving = acts.serving;
    ready = acts.ready;
    calls = acts.calls;
    runs = acts.runs;
    within = up (calls_in e.count acts.calls after 0) number (server_calls_max e.count) acts.within le;
  }
    where
      up : (x y z : ℕ) → x ≤ y → y ≤ z → x ≤ z
      up x y z one two = omega (arith, one, two)

  fewer : (a : AbstractState) (s : KernelState) (done : Progress) → HasRequested a.server s 0 → CacheRests (server_at s 0).step s 0 →
      HasServed e.count a e s after 0 done → FallsTo done most e after → Fewer most done e after a
  fewer a s done requested rests served falls = by done (served_is_kept a e s after done requested rests served) served.follows falls
    where
      by : (p : Progress) → GoesOnServing p e after 0 a → Follows e.count a p (serving_in e after 0) → FallsTo p most e after → Fewer most p e after a
      by progress.Hidden serving stands falls = acts_on progress.Hidden a serving stands falls
      by progress.Visible serving stands falls =
          let same : stands.0 ≡ serving.0 = same_Some stands.0 serving.0 (sym stands.1 ∙ serving.1) in
          let on = acts_on progress.Visible serving.0 serving.2
          (subst (λ (b : AbstractState). StandsServing e.count b (serving_in e after 0)) same stands.2) falls in
          (serving.0, serving.1, more on.0 serving.0 on.1 on.2)
      by progress.Waited serving stands falls = absurd stands
      by progress.Finished serving stands falls = absurd stands
      by progress.Ended serving stands falls = absurd stands

-- by the plan
falls_by_plan : (most word : ℕ) (calls : Option ℕ → ℕ) (d e : Disk) (s after : KernelState) (a : AbstractState) → e.count ≡ d.count →
    StandsServing d.count a (serving_in d s 0) → CacheAt e after 0 → is_serving (server_at s 0).step ≡ true → calls_in d.count calls s 0 ≤ most →
    StandsNext after 0 (next_at (server_at s 0) word) → FallsTo (next_at (server_at s 0) word).seen most e after
falls_by_plan most word calls d e s after a same h cache serves within so later fits =
    subst (λ (x : ℕ). Falls e.count next.seen most x) (sym there)
    (falls_more e.count next.seen (calls_in e.count calls s 0) most
    (calls_over e.count next.state.step next.state.kind next.state.number (work_calls later after 0) flush_after)
    (subst (λ (n : ℕ). calls_in n calls s 0 ≤ most) (sym same) within)
    (plans_take e.count (work_calls calls s 0) (flush_calls (flushing (cache_state s 0).place) (row_in s 0)) (work_calls later after 0) flush_after
    (subst (λ (n : ℕ). 1 ≤ n) (sym same) (some_blocks d.count a (serving_in d s 0) h)) (flush_calls_within e after 0 cache) (server_at s 0)
    (server_at s 0).step word (number_below s 0) serves (kind_fits d.count a (serving_in d s 0) h.before (server_at s 0).step h.at)
    (subst (λ (k : Option RequestKind). JobFits e.count (work_calls later after 0) next.state.step k) so.kind
    (subst (λ (x : ServerStep). JobFits e.count (work_calls later after 0) x (server_at after 0).kind) so.at_step fits))))
  where
    next : ServerNext
    next = next_at (server_at s 0) word

    flush_after : ℕ
    flush_after = flush_calls (flushing (cache_state after 0).place) (row_in after 0)

    there : calls_in e.count later after 0
        ≡ calls_over e.count next.state.step next.state.kind next.state.number (work_calls later after 0) flush_after
    there = λ i. calls_over e.count (so.at_step i) (so.kind i) (so.number i) (work_calls later after 0) flush_after

-- ---- a request that has come

pub requests_take_few : RequestsTakeFew
requests_take_few a d s serving other is = record {
  serving = serving;
  ready = subst (λ (x : ServerStep). JobReady x s 0) (sym is) tt;
  calls = λ found. 0;
  runs =
      subst (λ (x : ServerStep). JobInFew x (server_at s 0).kind d.count (job_in s 0) (memory_in d s 0) (λ found. 0)) (sym is) tt;
  within =
      subst (λ (x : ServerStep). calls_over d.count x (server_at s 0).kind (server_at s 0).number (work_calls (λ found. 0) s 0)
      (flush_calls (flushing (cache_state s 0).place) (row_in s 0)) ≤ server_calls_max d.count) (sym is) (omega arith);
}

-- ---- a call of its own

-- where the server stands behind it
seen_next : (d : Disk) (s after : KernelState) (done : Progress) → IsSeen d s after 0 done →
    (word : ℕ) × (done ≡ (next_at (server_at s 0) word).seen) × StandsNext after 0 (next_at (server_at s 0) word)
seen_next d s after done seen = by seen.next seen.behind seen.calls seen.shows
    (record { at_step = sym seen.stands_as.at_step; kind = sym seen.stands_as.kind; number = sym seen.stands_as.number })
  where
    by : (next : ServerNext) (behind : Serving) → Calls (serving_in d s 0) next behind → done ≡ next.seen →
        StandsNext after 0 (record { state = behind.state; begins = next.begins; seen = next.seen }) →
        (word : ℕ) × (done ≡ (next_at (server_at s 0) word).seen) × StandsNext after 0 (next_at (server_at s 0) word)
    by next behind (called word v reply sees is) shows so = (
      word,
      shows ∙ ap (λ (x : ServerNext). x.seen) is,
      record {
        at_step = so.at_step ∙ ap (λ (x : ServerNext). x.state.step) is;
        kind = so.kind ∙ ap (λ (x : ServerNext). x.state.kind) is;
        number = so.number ∙ ap (λ (x : ServerNext). x.state.number) is;
      },
    )

pub calls_take_few : CallsTakeFew
calls_take_few most a d s after output done is all acts other order made =
    elim (quiet_or_taking (server_at s 0).step is) [
      | inl quiet ↦
          inl (by_seen (calls_are_seen d s after 0 output done quiet (has_needs d.count a (serving_in d s 0) 0 refl h)
          (reads_page d.count a (serving_in d s 0) s 0 acts.serving.requested h) all order made))
      | inr taking ↦ elim (pages_are_taken d s after 0 output done taking
          (λ number below used. (h.table.places number below).there used) all order made) [
            | inl seen ↦ inl (by_seen seen)
            | inr refused ↦ inr refused.counted
          ]
    ]
  where
    h : StandsServing d.count a (serving_in d s 0)
    h = servers_stand a d s acts.serving other

    none : IsSeen d s after 0 done → is_fetching (cache_state after 0).place ≡ false
    none seen =
        (λ i. is_fetching (seen.cache i).place)
        ∙ rests_there s 0 (server_at s 0).step (call_idle (server_at s 0).step is) acts.serving.rests

    by_seen : IsSeen d s after 0 done → Fewer most done d after a
    by_seen seen =
        let so = seen_next d s after done seen in
        fewer most d after (none seen) a s done acts.serving.requested acts.serving.rests
        (seen_serves d.count a d s after done is (all_small d s 0 all) h seen)
        (subst (λ (p : Progress). FallsTo p most d after) (sym so.1)
        (falls_by_plan most so.0 acts.calls d d s after a refl h seen.stands.cache (call_serves (server_at s 0).step is) acts.within so.2))

-- ---- a step of a job

job_serves : (at : ServerStep) → is_working at ≡ true → is_serving at ≡ true
job_serves step.Working on = refl
job_serves step.Finding on = refl
job_serves step.Sizing on = refl
job_serves _ on = absurd (false≢true on)

-- the run of the job, at either step
runs_there : (at : ServerStep) (k : Option RequestKind) (count : ℕ) (job : TreeState) (m : Memory) (calls : Option ℕ → ℕ) → is_working at ≡ true →
    JobInFew at k count job m calls → RunsInFew (job_calls_max at k count) count job m calls
runs_there step.Working k count job m calls on run = run
runs_there step.Finding k count job m calls on run = run
runs_there step.Sizing k count job m calls on run = run
runs_there _ k count job m calls on run = absurd (false≢true on)

there_runs : (at : ServerStep) (k : Option RequestKind) (count : ℕ) (job : TreeState) (m : Memory) (calls : Option ℕ → ℕ) → is_working at ≡ true →
    RunsInFew (job_calls_max at k count) count job m calls → JobInFew at k count job m calls
there_runs step.Working k count job m calls on run = run
there_runs step.Finding k count job m calls on run = run
there_runs step.Sizing k count job m calls on run = run
there_runs _ k count job m calls on run = absurd (false≢true on)

ready_there : (at : ServerStep) (s : KernelState) (n : ℕ) → is_working at ≡ true → JobReady at s n →
    AccessReady (tree.ask_at (job_in s n)) (cache_state s n).place
ready_there step.Working s n on ready = ready
ready_there step.Finding s n on ready = ready
ready_there step.Sizing s n on ready = ready
ready_there _ s n on ready = absurd (false≢true on)

there_ready : (at : ServerStep) (s : KernelState) (n : ℕ) → is_working at ≡ true →
    AccessReady (tree.ask_at (job_in s n)) (cache_state s n).place → JobReady at s n
there_ready step.Working s n on ready = ready
there_ready step.Finding s n on ready = ready
there_ready step.Sizing s n on ready = ready
there_ready _ s n on ready = absurd (false≢true on)

-- less is left of the job alone
working_less : (count : ℕ) (at : ServerStep) (k : Option RequestKind) (number w v f g : ℕ) → is_working at ≡ true → w < v →
    calls_over count at k number w f < calls_over count at k number v g
working_less count step.Working k number w v f g on lt = by (opens k)
  where
    by : (b : Bool) → (if b then 2 ^ 12 * count + 6290 + w else 10 + w) < (if b then 2 ^ 12 * count + 6290 + v else 10 + v)
    by true = omega (arith, lt)
    by false = omega (arith, lt)
working_less count step.Finding k number w v f g on lt = by (opens k)
  where
    by : (b : Bool) → (if b then 60 + w else 2 ^ 12 * count + 58200 + w) < (if b then 60 + v else 2 ^ 12 * count + 58200 + v)
    by true = omega (arith, lt)
    by false = omega (arith, lt)
working_less count step.Sizing k number w v f g on lt = omega (arith, lt)
working_less count _ k number w v f g on lt = absurd (false≢true on)

module _ (most : ℕ) (a : AbstractState) (disk : DiskFile) (before now : Files) (s after : KernelState)
    (on : is_working (server_at s 0).step ≡ true) (acts : ActsInFew most (disk_in before disk) s 0 a) where
  abbrev d : Disk
  d = disk_in before disk

  abbrev e : Disk
  e = disk_in now disk

  abbrev asked : TreeAsk
  asked = tree.ask_at (job_in s 0)

  abbrev place : CachePlace
  place = (cache_state s 0).place

  abbrev run_max : ℕ
  run_max = job_calls_max (server_at s 0).step (server_at s 0).kind d.count

  run : RunsInFew run_max d.count (job_in s 0) (memory_in d s 0) acts.calls
  run = runs_there (server_at s 0).step (server_at s 0).kind d.count (job_in s 0) (memory_in d s 0) acts.calls on acts.runs

  rests : AccessRests asked place
  rests = rests_of_job s 0 (server_at s 0).step on acts.serving.rests

  -- it stands where it stood, and goes on with the job
  goes_on : StandsStill s after 0 → (calls : Option ℕ → ℕ) → RunsInFew run_max e.count (job_in after 0) (memory_in e after 0) calls →
      AccessReady (tree.ask_at (job_in after 0)) (cache_state after 0).place → work_calls calls after 0 < work_calls acts.calls s 0 →
      IsServing e after 0 a → Fewer most progress.Hidden e after a
  goes_on same calls runs ready less serving = (
    calls_in e.count calls after 0,
    below (calls_in e.count calls after 0)
        (calls_over e.count (server_at s 0).step (server_at s 0).kind (server_at s 0).number (work_calls calls after 0) flush_after)
        (calls_in d.count acts.calls s 0)
        (λ i. calls_over e.count (same.at_step i) (same.kind i) (same.number i) (work_calls calls after 0) flush_after)
        (working_less e.count (server_at s 0).step (server_at s 0).kind (server_at s 0).number (work_calls calls after 0) (work_calls acts.calls s 0)
        flush_after (flush_calls (flushing place) (row_in s 0)) on less) acts.within,
    record {
      serving = serving;
      ready = there_ready (server_at after 0).step after 0 working ready;
      calls = calls;
      runs = there_runs (server_at after 0).step (server_at after 0).kind e.count (job_in after 0) (memory_in e after 0) calls working
          (subst (λ (x : ServerStep). RunsInFew (job_calls_max x (server_at after 0).kind e.count) e.count (job_in after 0) (memory_in e after 0) calls)
          (sym same.at_step)
          (subst (λ (k : Option RequestKind). RunsInFew (job_calls_max (server_at s 0).step k e.count) e.count (job_in after 0) (memory_in e after 0) calls)
          (sym same.kind) runs));
      within = omega arith;
    },
  )
    where
      flush_after : ℕ
      flush_after = flush_calls (flushing (cache_state after 0).place) (row_in after 0)

      working : is_working (server_at after 0).step ≡ true
      working = ap is_working same.at_step ∙ on

      below : (x y z : ℕ) → x ≡ y → y < z → z ≤ most → x < most
      below x y z is lt le = omega (arith, is, lt, le)

  goes_further : (told : Acted) → told ≡ acted.Going → StandsStill s after 0 → HasStepped d e s after 0 told → IsServing e after 0 a →
      Fewer most progress.Hidden e after a ⊎ WasRefused s after
  goes_further _ is same (steps.waits waiting) serving =
      elim (waiting.comes (ready_there (server_at s 0).step s 0 on acts.ready)) [
        | inl comes ↦ inl (goes_on same acts.calls
            (subst (λ (m : Memory). RunsInFew run_max e.count (job_in after 0) m acts.calls) (sym waiting.memory)
            (subst (λ (j : TreeState). RunsInFew run_max e.count j (memory_in d s 0) acts.calls) (sym waiting.job) run))
            (subst (λ (j : TreeState). AccessReady (tree.ask_at j) (cache_state after 0).place) (sym waiting.job) comes.0)
            (subst (λ (j : TreeState).
            access_calls (tree.ask_at j) (cache_state after 0).place + acts.calls (found_for (tree.ask_at j) (cache_state after 0).place)
            < work_calls acts.calls s 0) (sym waiting.job)
            (nearer (access_calls asked (cache_state after 0).place) (access_calls asked place) (acts.calls (found_for asked (cache_state after 0).place))
            (acts.calls (found_for asked place)) comes.1
            (ap acts.calls (wanted_same asked (cache_state after 0).place place waiting.of_disk))))
            serving)
        | inr refused ↦ inr refused
      ]
    where
      nearer : (x y c k : ℕ) → x < y → c ≡ k → x + c < y + k
      nearer x y c k lt same = omega (arith, lt, same)
  goes_further _ is same (steps.goes next moved by there) serving =
      let rest = run_goes_on d.count run.answer run.after run.left (job_in s 0) next (memory_in d s 0) run.ends by in
      inl (moves rest.left rest.ends rest.calls)
    where
      moves : (left : ℕ) (behind : Ends d.count run.answer run.after left next (memory_after asked (memory_in d s 0))) →
          FewerCalls asked (λ found. calls_of found run.ends) (λ found. calls_of found behind) → Fewer most progress.Hidden e after a
      moves left behind fewer_calls =
          let rest : Option ℕ → ℕ = λ found. calls_of found behind in
          let less : FewerCalls asked acts.calls rest = λ found. run.calls_are found ∙ fewer_calls found in
          let on_run : RunsInFew run_max e.count next (memory_after asked (memory_in d s 0)) rest = record {
            left = left;
            answer = run.answer;
            after = run.after;
            ends = behind;
            calls_are = λ found. refl;
            few = within (rest None) (acts.calls None) run_max (rest_most asked acts.calls rest less (λ found. (run_five found behind).1)) run.few;
          } in
          let runs : RunsInFew run_max e.count (job_in after 0) (memory_in e after 0) rest =
          subst (λ (m : Memory). RunsInFew run_max e.count (job_in after 0) m rest) (sym moved.memory)
          (subst (λ (j : TreeState). RunsInFew run_max e.count j (memory_after asked (memory_in d s 0)) rest) (sym there) on_run) in
          goes_on same rest runs
          (access_ready (tree.ask_at (job_in after 0)) (cache_state after 0).place
          (ap is_fetching moved.cache.place ∙ found_rests asked place moved.found rests))
          (between (work_calls rest after 0) (rest (found_in (cache_state after 0).place)) (rest (found_in place)) (work_calls acts.calls s 0)
          (access_most e.count (tree.ask_at (job_in after 0)) (cache_state after 0).place rest serving.stands.count (head runs))
          (ap (λ (p : CachePlace). rest (found_in p)) moved.cache.place)
          (access_least d.count asked place acts.calls rest acts.serving.stands.count (head run).inside less moved.found))
          serving
        where
          within : (x y z : ℕ) → x ≤ y → y ≤ z → x ≤ z
          within x y z one two = omega (arith, one, two)

          between : (x y z w : ℕ) → x ≤ y → y ≡ z → z < w → x < w
          between x y z w one two three = omega (arith, one, two, three)
  goes_further _ is same (steps.answers word moved by) serving = absurd (let contradiction : acted.Answer word ≡ acted.Going = is in cc)
  goes_further _ is same (steps.lacks waiting refusal resting) serving = absurd (let contradiction : acted.Answer _ ≡ acted.Going = is in cc)

  -- where it answers, the cache stands, and fetches nothing
  still_long : (mid : KernelState) (told : Acted) → HasStepped d e s mid 0 told → TreeAt e mid 0
  still_long mid _ (steps.waits waiting) = waiting.stands
  still_long mid _ (steps.goes next moved by there) = moved.stands
  still_long mid _ (steps.answers word moved by) = moved.stands
  still_long mid _ (steps.lacks waiting refusal resting) = waiting.stands

  fetches_none : (mid : KernelState) (word : ℕ) (told : Acted) → told ≡ acted.Answer word → HasStepped d e s mid 0 told →
      is_fetching (cache_state mid 0).place ≡ false
  fetches_none mid word _ is (steps.waits waiting) = absurd (let contradiction : acted.Going ≡ acted.Answer word = is in cc)
  fetches_none mid word _ is (steps.goes next moved by there) = absurd (let contradiction : acted.Going ≡ acted.Answer word = is in cc)
  fetches_none mid word _ is (steps.answers other moved by) = ap is_fetching moved.cache.place ∙ found_rests asked place moved.found rests
  fetches_none mid word _ is (steps.lacks waiting refusal resting) = ap is_fetching resting

  served_few : (done : Progress) → StandsServing d.count a (serving_in d s 0) → HasWorked (server_at s 0) disk before now s after 0 done →
      HasServed e.count a e s after 0 done → Fewer most done e after a ⊎ WasRefused s after
  served_few _ h (goes stepped alone) served =
      goes_further acted.Going refl (still s after 0 alone.rest) stepped
      (served_is_kept a e s after progress.Hidden acts.serving.requested acts.serving.rests served)
  served_few _ h (answers word mid stepped alone is) served =
      let next = next_at (server_at s 0) word in
      let well = goes_well (server_at s 0) (server_at s 0).step word (number_below s 0) in
      let long = (still_long mid (acted.Answer word) stepped).cache.words in
      inl (fewer most e after
      ((λ i. is_fetching (gone_cache mid 0 next well long after is i).place) ∙ fetches_none mid word (acted.Answer word) refl stepped)
      a s next.seen acts.serving.requested acts.serving.rests served
      (falls_by_plan most word acts.calls d e s after a refl h served.stands.cache (job_serves (server_at s 0).step on) acts.within
      (gone_stands mid 0 next well long after is)))

pub jobs_take_few : JobsTakeFew
jobs_take_few most a disk before now s after files output done on all acts other order is told made worked =
    let d : Disk = disk_in before disk in
    let h = servers_stand a d s acts.serving other in
    elim (jobs_serve d.count a disk before now s after files output done on acts.serving.requested all h order is told made worked) [
      | inl served ↦ served_few most a disk before now s after on acts done h worked served
      | inr lacks ↦ inr lacks.counted
    ]

-- ---- a step of a flush

module _ (most : ℕ) (a : AbstractState) (disk : DiskFile) (before now : Files) (s after : KernelState) (files : Around (Option Files)) (output : Output)
    (flushing_now : (server_at s 0).step ≡ step.Flushing) (all : AllStands (disk_in before disk) s 0) (acts : ActsInFew most (disk_in before disk) s 0 a)
    (is : files.before ≡ Some before) where
  abbrev e_now : Disk
  e_now = disk_in now disk

  off : is_fetching (cache_state s 0).place ≡ false
  off = rests_there s 0 (server_at s 0).step (ap is_working flushing_now) acts.serving.rests

  flush_falls_on : Flushes flushed.Going disk 0 s after files output → FallsTo progress.Hidden most e_now after
  flush_falls_on flushes calls fits =
      let same = (flush_leaves disk before s 0 all files output is flushed.Going after flushes).server in
      let tells = (flushes.tells before is all.stands.cache).1 off in
      below (calls_in e_now.count calls after 0)
      (calls_over e_now.count step.Flushing (server_at after 0).kind (server_at after 0).number (work_calls calls after 0) flush_after)
      flush_after flush_before (calls_in e_now.count acts.calls s 0)
      (calls_over e_now.count step.Flushing (server_at s 0).kind (server_at s 0).number (work_calls acts.calls s 0) flush_before)
      (ap (λ (x : ServerStep). calls_over e_now.count x (server_at after 0).kind (server_at after 0).number (work_calls calls after 0) flush_after)
      (ap (λ (x : ServerState). x.step) same ∙ flushing_now)) refl
      (ap (λ (x : ServerStep). calls_over e_now.count x (server_at s 0).kind (server_at s 0).number (work_calls acts.calls s 0) flush_before) flushing_now)
      refl tells.1 acts.within
    where
      flush_after : ℕ
      flush_after = flush_calls (flushing (cache_state after 0).place) (row_in after 0)

      flush_before : ℕ
      flush_before = flush_calls (flushing (cache_state s 0).place) (row_in s 0)

      below : (x v f g y w : ℕ) → x ≡ v → v ≡ 2 + f → y ≡ w → w ≡ 2 + g → f < g → y ≤ most → x < most
      below x v f g y w one two three four lt le = omega (arith, one, two, three, four, lt, le)

  flushed_few : (done : Progress) → StandsServing (disk_in before disk).count a (serving_in (disk_in before disk) s 0) →
      HasFlushed (server_at s 0) disk s after 0 files output done → HasServed e_now.count a e_now s after 0 done → Fewer most done e_now after a
  flushed_few _ h (goes flushes) served =
      fewer most e_now after ((flushes.tells before is all.stands.cache).1 off).0 a s progress.Hidden acts.serving.requested acts.serving.rests served
      (flush_falls_on flushes)
  flushed_few _ h (ends mid flushes gone) served =
      let next = next_at (server_at s 0) 0 in
      let well = goes_well (server_at s 0) (server_at s 0).step 0 (number_below s 0) in
      let kept = flushes.cache before is all.stands.cache in
      let rested = (flushes.tells before is all.stands.cache).1 in
      fewer most e_now after
      ((λ i. is_fetching (gone_cache mid 0 next well kept.2.words after gone i).place) ∙ ap is_fetching rested)
      a s next.seen acts.serving.requested acts.serving.rests served
      (falls_by_plan most 0 acts.calls (disk_in before disk) e_now s after a refl h served.stands.cache
      (subst (λ (x : ServerStep). is_serving x ≡ true) (sym flushing_now) refl) acts.within
      (gone_stands mid 0 next well kept.2.words after gone))

pub flushes_take_few : FlushesTakeFew
flushes_take_few most a disk before s after files output done flushing_now all acts other order is flushed =
    let d : Disk = disk_in before disk in
    let h = servers_stand a d s acts.serving other in
    let served = flushes_serve d.count a disk before s after files output done flushing_now all h order is flushed in
    (served.0, served.1, flushed_few most a disk before served.0 s after files output flushing_now all acts is done h flushed served.2)
