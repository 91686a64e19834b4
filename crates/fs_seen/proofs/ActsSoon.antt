-- The server makes its act soon: what is left of its steps is told by where it stands, and each of its steps lowers that.
use Rattle.std.proofs.Common.{◌≡◌, ◌∙◌, ◌+◌, ◌*◌, ◌/◌, ◌%◌, ◌<◌, ◌≤◌, inl, inr, ℕ, suc, Bool, true, false, Option, Some}
use Rattle.std.proofs.Common.{refl, sym, ap, subst, arith, if◌then◌else◌}
use Rattle.std.proofs.lemmas.Bool.Decides.{nat_tests}
use Rattle.std.proofs.lemmas.Option.{same_Some}
use Rattle.std.specs.Prelude.{get_or, nat_lt}
use Rattle.jos_host.specs.Files.{Files}
use Rattle.jos_host.specs.Frames.{Around}
use Rattle.jos_base.specs.KernelState.{KernelState, slot_at}
use Rattle.fs_layout.specs.declared.numbers.TheConstants.{BLKSIZE, MAXBLOCKS}
use Rattle.lib_os.specs.declared.numbers.TheConstants.{CACHE_BLOCKS}
use Rattle.lib_os.specs.declared.progress.Progress.{Progress}
use Rattle.lib_os.specs.declared.progress.Progress.TheVariants as progress
use Rattle.lib_os.specs.declared.request.RequestKind.{RequestKind}
use Rattle.lib_os.specs.AbstractState.{AbstractState}
use Rattle.lib_os.specs.Disk.{Disk, DiskFile, disk_in}
use Rattle.lib_os.specs.Rows.{EntryRow}
use Rattle.lib_os.specs.UserCalls.{Output}
use Rattle.fs_blocks.specs.declared.place.CachePlace.{CachePlace}
use Rattle.fs_blocks.specs.declared.place.CachePlace.TheVariants as at
use Rattle.fs_blocks.specs.CachePlans.{flushing}
use Rattle.fs_cache.specs.declared.steps.Flushed.TheVariants as flushed
use Rattle.fs_cache.specs.CacheSteps.{FLUSH_STEPS_MAX, WAIT_STEPS_MAX, cache_state, cached_count, flush_left, left_in, near_left, other_left, row_in}
use Rattle.fs_cache.specs.CacheSteps.{steps_of_round, steps_to_begin, used_count}
use Rattle.fs_cache.proofs.FallsCounts.{cached_most, used_most}
use Rattle.fs_cache.proofs.Waits.{flushing_most, near_used, other_most, wait_over, wait_under}
use Rattle.fs_jobs.specs.declared.asks.TreeAsk.{TreeAsk}
use Rattle.fs_jobs.specs.declared.asks.TreeAsk.TheVariants as asks
use Rattle.fs_jobs.specs.declared.place.TreeState.{TreeState}
use Rattle.fs_runs.specs.JobCalls.{job_steps_max}
use Rattle.fs_runs.specs.TreePlans as tree
use Rattle.fs_runs.specs.TreeRuns.{Ends, Memory, memory_after}
use Rattle.fs_tree.specs.declared.steps.Acted.{Acted}
use Rattle.fs_tree.specs.declared.steps.Acted.TheVariants as acted
use Rattle.fs_tree.specs.TreeSteps as steps
use Rattle.fs_tree.specs.TreeSteps.{HasStepped, LeavesCache, access_left, block_left, job_in, memory_in}
use Rattle.fs_requests.specs.declared.plan.ServerNext.{ServerNext}
use Rattle.fs_requests.specs.declared.state.ServerState.{ServerState}
use Rattle.fs_requests.specs.declared.state.ServerStep.{ServerStep}
use Rattle.fs_requests.specs.declared.state.ServerStep.TheVariants as step
use Rattle.fs_requests.specs.ServerPlans.{next_at, opens}
use Rattle.fs_serving.specs.ServerRuns.{Follows, IsFound, IsSizing, StandsAtStep, StandsServing, is_serving, opened, removed}
use Rattle.fs_serving.specs.ServerViews.{Calls, Serving, called}
use Rattle.fs_server.specs.ServerSteps.{Flushes, HasFlushed, HasWorked, answers, ends, goes, server_at}
use Rattle.fs_seen.specs.ServerMemory.{HasRequested, serving_in}
use Rattle.fs_seen.specs.ServerSees.{AllStands, CacheRests, HasServed, IsSeen, is_working}
use Rattle.fs_seen.specs.ServerSoon.{ACCESS_STEPS_MAX, ActsWithin, CallsActSoon, FlushesActSoon, JOB_STEPS_MAX, JobLeft, JobsActSoon, RunsFor}
use Rattle.fs_seen.specs.ServerSoon.{SERVER_STEPS_MAX, ServersActWithin, Sooner, WORK_STEPS_MAX, capped, flushes_left, left_over, number_in, work_left}
use Rattle.fs_seen.specs.ServerWhole.{GoesOnServing, IsServing}
use Rattle.fs_seen.proofs.CallsSeen.{calls_are_seen}
use Rattle.fs_seen.proofs.FlushesServed.{flush_leaves, flushes_serve}
use Rattle.fs_seen.proofs.GoesOn.{goes_well}
use Rattle.fs_seen.proofs.JobsServed.{at_job, jobs_serve, number_below}
use Rattle.fs_seen.proofs.KindsFit.{kind_fits}
use Rattle.fs_seen.proofs.Needs.{has_needs, reads_page}
use Rattle.fs_seen.proofs.Over.{all_small}
use Rattle.fs_seen.proofs.PlansFall.{plans_fall}
use Rattle.fs_seen.proofs.RunsOn.{run_goes_on}
use Rattle.fs_seen.proofs.ServesFor.{served_is_kept, servers_stand}
use Rattle.fs_seen.proofs.ServesOver.{call_serves, quiet_or_taking, seen_serves}
use Rattle.fs_seen.proofs.Setting.{StandsNext, gone_stands}
use Rattle.fs_seen.proofs.TableLeft.{StandsStill, still}
use Rattle.fs_seen.proofs.TakingLaw.{pages_are_taken}

-- ---- numbers

capped_most : (most x : ℕ) → capped most x ≤ most
capped_most most x = by (nat_lt x most) refl
  where
    by : (t : Bool) → nat_lt x most ≡ t → (if t then x else most) ≤ most
    by true on = grind (arith, nat_tests)
    by false off = omega arith

capped_under : (most x : ℕ) → capped most x ≤ x
capped_under most x = by (nat_lt x most) refl
  where
    by : (t : Bool) → nat_lt x most ≡ t → (if t then x else most) ≤ x
    by true on = omega arith
    by false off = grind (arith, nat_tests)

-- what is no more than the most stands as it is
capped_over : (most x : ℕ) → x ≤ most → x ≤ capped most x
capped_over most x few = by (nat_lt x most) refl
  where
    by : (t : Bool) → nat_lt x most ≡ t → x ≤ (if t then x else most)
    by true on = omega arith
    by false off = few

capped_less : (most x y : ℕ) → x < y → y ≤ most → capped most x < capped most y
capped_less most x y less few = between (capped most x) x y (capped most y) (capped_under most x) less (capped_over most y few)
  where
    between : (a b c d : ℕ) → a ≤ b → b < c → c ≤ d → a < d
    between a b c d one two three = omega (arith, one, two, three)

-- a job's step, whatever waits follow
one_less : (left fewer x y : ℕ) → suc fewer ≡ left → x ≤ y + (steps_of_round + steps_to_begin) →
    fewer * ACCESS_STEPS_MAX + x < left * ACCESS_STEPS_MAX + y
one_less left fewer x y is most =
    less (left * ACCESS_STEPS_MAX) (fewer * ACCESS_STEPS_MAX) x y (ap (λ (k : ℕ). k * ACCESS_STEPS_MAX) (sym is) ∙ grind arith) most
  where
    less : (l f x y : ℕ) → l ≡ f + ACCESS_STEPS_MAX → x ≤ y + (steps_of_round + steps_to_begin) → f + x < l + y
    less l f x y is most = omega (arith, is, most)

work_most : (left x : ℕ) → left ≤ JOB_STEPS_MAX → x ≤ WAIT_STEPS_MAX → left * ACCESS_STEPS_MAX + x < WORK_STEPS_MAX
work_most left x few most = omega (arith, few, most)

-- a disk has few blocks
few_steps : (count left : ℕ) → count ≤ MAXBLOCKS → left ≤ job_steps_max count → left ≤ JOB_STEPS_MAX
few_steps count left few soon = omega (arith, few, soon)

-- ---- what the cache has left

module _ (d : Disk) (s : KernelState) (n : ℕ) (all : AllStands d s n) where
  abbrev row : EntryRow
  row = row_in s n

  abbrev word : ℕ → ℕ
  word k = get_or (slot_at s n).extra k 0

  others_most : left_in other_left (cache_state s n).place s n ≤ WAIT_STEPS_MAX
  others_most =
      other_most (word 8) (word 9 % CACHE_BLOCKS) (word 11) (cached_count row) (used_count row) (cached_most row) (used_most row) (all.words.words 11)

  flush_most_there : left_in flush_left (cache_state s n).place s n ≤ FLUSH_STEPS_MAX
  flush_most_there =
      flushing_most (word 8) (word 9 % CACHE_BLOCKS) (word 11) (cached_count row) (used_count row) (cached_most row) (used_most row) (all.words.words 11)

-- what is asked of the disk, or of the page of the request, waits so long at most, and at least
module _ (s : KernelState) (n : ℕ) where
  abbrev other : ℕ
  other = left_in other_left (cache_state s n).place s n

  abbrev near : ℕ
  near = left_in near_left (cache_state s n).place s n

  under : (at : ℕ) → block_left at s n ≤ other
  under at = wait_under (at / BLKSIZE % CACHE_BLOCKS) (cache_state s n).place (cached_count (row_in s n)) (used_count (row_in s n))

  over : (at : ℕ) → near ≤ block_left at s n
  over at = wait_over (at / BLKSIZE % CACHE_BLOCKS) (cache_state s n).place (cached_count (row_in s n)) (used_count (row_in s n))

  access_under : (asked : TreeAsk) → access_left asked s n ≤ other
  access_under (asks.Load place) = under place
  access_under (asks.LoadByte place) = under place
  access_under (asks.Store place value) = under place
  access_under (asks.StoreByte place byte) = under place
  access_under (asks.Request place) = omega arith
  access_under (asks.HandBack place byte) = omega arith

  access_over : (asked : TreeAsk) → near ≤ access_left asked s n
  access_over (asks.Load place) = over place
  access_over (asks.LoadByte place) = over place
  access_over (asks.Store place value) = over place
  access_over (asks.StoreByte place byte) = over place
  access_over (asks.Request place) = omega arith
  access_over (asks.HandBack place byte) = omega arith

access_most : (d : Disk) (s : KernelState) (n : ℕ) → AllStands d s n → (asked : TreeAsk) → access_left asked s n ≤ WAIT_STEPS_MAX
access_most d s n all asked =
    both (access_left asked s n) (left_in other_left (cache_state s n).place s n) (access_under s n asked) (others_most d s n all)
  where
    both : (x y : ℕ) → x ≤ y → y ≤ WAIT_STEPS_MAX → x ≤ WAIT_STEPS_MAX
    both x y one two = omega (arith, one, two)

-- Behind a step of a job another wait is longer by no more than one page's.
access_moved : (s after : KernelState) (n : ℕ) → LeavesCache s after n → (asked next : TreeAsk) →
    access_left next after n ≤ access_left asked s n + (steps_of_round + steps_to_begin)
access_moved s after n left asked next =
    together (access_left next after n) (near after n)
    (near_left (cache_state s n).place (cached_count (row_in s n)) (used_count (row_in after n))) (near s n) (access_left asked s n)
    (access_under after n next) (λ i. near_left (left.place i) (left.cached i) (used_count (row_in after n)))
    (near_used (cache_state s n).place (cached_count (row_in s n)) (used_count (row_in s n)) (used_count (row_in after n)) left.used)
    (access_over s n asked)
  where
    together : (x m k h y : ℕ) → x ≤ m + steps_to_begin → m ≡ k → k ≤ h + steps_of_round → h ≤ y → x ≤ y + (steps_of_round + steps_to_begin)
    together x m k h y one two three four = omega (arith, one, two, three, four)

-- where a flush begins it has no more to do
flush_begins : (place : CachePlace) (c u : ℕ) → flush_left (flushing place) c u ≤ flush_left place c u
flush_begins at.Resting c u = omega arith
flush_begins (at.Found b) c u = omega arith
flush_begins (at.LookingRegion b) c u = omega arith
flush_begins (at.LookingPage b) c u = omega arith
flush_begins (at.Taking b) c u = omega arith
flush_begins (at.Filling b) c u = omega arith
flush_begins (at.Settling b) c u = omega arith
flush_begins (at.HandRegion b left) c u = omega arith
flush_begins (at.HandPage b left) c u = omega arith
flush_begins (at.WritingBack b) c u = omega arith
flush_begins (at.Passing b) c u = omega arith
flush_begins (at.Moving b) c u = omega arith
flush_begins (at.Leaving b) c u = omega arith
flush_begins (at.Freeing b) c u = omega arith
flush_begins (at.TakingLast b) c u = omega arith
flush_begins (at.FlushRegion b) c u = omega arith
flush_begins (at.FlushPage b) c u = omega arith
flush_begins (at.FlushWriting b) c u = omega arith
flush_begins (at.FlushSettling b) c u = omega arith

-- ---- the job at hand

-- one ends in few steps where the server stands
abbrev HasLeft : ℕ → Serving → Type 0
HasLeft count it = (left : ℕ) × (left ≤ job_steps_max count) × JobLeft it.state.step count it.job it.view.memory left

module _ (count : ℕ) (a : AbstractState) (it : Serving) (before : Memory) where
  abbrev At : ServerStep → Type 0
  At at = (left : ℕ) × (left ≤ job_steps_max count) × JobLeft at count it.job it.view.memory left

  found_left : IsFound count a it before → At step.Finding
  found_left (opened path mode home is run) =
      (run.left, run.soon, record { soon = run.soon; answer = home; after = _; ends = run.ends })
  found_left (removed finds) =
      let run = finds.running in (run.left, run.soon, record { soon = run.soon; answer = _; after = before; ends = run.ends })

  sizing_left : IsSizing count a it before → At step.Sizing
  sizing_left is =
      let run = is.running in (run.left, run.soon, record { soon = run.soon; answer = _; after = is.left_as; ends = run.ends })

  none : 0 ≤ job_steps_max count
  none = omega arith

  left_there : (at : ServerStep) → StandsAtStep at count a it before → At at
  left_there step.Working h =
      let way = h.on_its_way in (way.left, way.soon, record { soon = way.soon; answer = way.answer; after = way.after; ends = way.ends })
  left_there step.Finding h = found_left h
  left_there step.Sizing h = sizing_left h
  left_there step.Releasing h = (0, none, tt)
  left_there step.Receiving h = (0, none, tt)
  left_there step.ReadingKind h = (0, none, tt)
  left_there step.ReadingClient h = (0, none, tt)
  left_there step.ReadingFile h = (0, none, tt)
  left_there step.ReadingOffset h = (0, none, tt)
  left_there step.ReadingCount h = (0, none, tt)
  left_there step.ReadingRecord h = (0, none, tt)
  left_there step.LookingRecord h = (0, none, tt)
  left_there step.LookingEntry h = (0, none, tt)
  left_there step.LookingHolders h = (0, none, tt)
  left_there step.TakingPage h = (0, none, tt)
  left_there step.ReadingMode h = (0, none, tt)
  left_there step.StoringRecord h = (0, none, tt)
  left_there step.StoringDevice h = (0, none, tt)
  left_there step.ReadingModeAgain h = (0, none, tt)
  left_there step.StoringMode h = (0, none, tt)
  left_there step.StoringFile h = (0, none, tt)
  left_there step.ReadingRecordAgain h = (0, none, tt)
  left_there step.StoringSize h = (0, none, tt)
  left_there step.Advancing h = (0, none, tt)
  left_there step.StoringOffset h = (0, none, tt)
  left_there step.CheckingRecord h = (0, none, tt)
  left_there step.CheckingEntry h = (0, none, tt)
  left_there step.CheckingHolders h = (0, none, tt)
  left_there step.Flushing h = (0, none, tt)
  left_there step.Acting h = (0, none, tt)
  left_there step.Replying h = (0, none, tt)
  left_there step.Pausing h = (0, none, tt)

has_left : (count : ℕ) (a : AbstractState) (it : Serving) → StandsServing count a it → HasLeft count it
has_left count a it h = left_there count a it h.before it.state.step h.at

-- ---- behind a step

-- It serves on, where less is left whatever job is at hand.
abbrev FallsTo : ℕ → KernelState → Type 0
FallsTo most after = (left : ℕ) → left ≤ JOB_STEPS_MAX → number_in left after 0 < most

module _ (most : ℕ) (e : Disk) (after : KernelState) where
  acts_on : (b : AbstractState) → IsServing e after 0 b → StandsServing e.count b (serving_in e after 0) → FallsTo most after →
      (fewer : ℕ) × (fewer < most) × ActsWithin fewer e after 0 b
  acts_on b serving stands falls =
      let it = has_left e.count b (serving_in e after 0) stands in (
        number_in it.0 after 0,
        falls it.0 (few_steps e.count it.0 serving.stands.count it.1),
        record { serving = serving; left = it.0; runs = it.2; within = omega arith },
      )

  sooner : (a : AbstractState) (s : KernelState) (done : Progress) → HasRequested a.server s 0 → CacheRests (server_at s 0).step s 0 →
      HasServed e.count a e s after 0 done → FallsTo most after → Sooner most done e after a
  sooner a s done requested rests served falls = by done (served_is_kept a e s after done requested rests served) served.follows
    where
      by : (p : Progress) → GoesOnServing p e after 0 a → Follows e.count a p (serving_in e after 0) → Sooner most p e after a
      by progress.Hidden serving stands = acts_on a serving stands falls
      by progress.Visible serving stands =
          let same : stands.0 ≡ serving.0 = same_Some stands.0 serving.0 (sym stands.1 ∙ serving.1) in
          let on = acts_on serving.0 serving.2 (subst (λ (b : AbstractState). StandsServing e.count b (serving_in e after 0)) same stands.2) falls in
          (serving.0, serving.1, on.0, on.1, on.2)
      by progress.Waited serving stands = absurd stands
      by progress.Finished serving stands = absurd stands
      by progress.Ended serving stands = absurd stands

-- by the plan
falls_by_plan : (most left word : ℕ) (d : Disk) (s after : KernelState) (a : AbstractState) → StandsServing d.count a (serving_in d s 0) →
    is_serving (server_at s 0).step ≡ true → number_in left s 0 ≤ most → StandsNext after 0 (next_at (server_at s 0) word) → FallsTo most after
falls_by_plan most left word d s after a h serves within so fewer few =
    let next = next_at (server_at s 0) word in
    let fell = plans_fall WORK_STEPS_MAX (work_left left s 0) (flushes_left s 0) (work_left fewer after 0) (flushes_left after 0)
    (work_most fewer (capped WAIT_STEPS_MAX (access_left (tree.ask_at (job_in after 0)) after 0)) few
    (capped_most WAIT_STEPS_MAX (access_left (tree.ask_at (job_in after 0)) after 0)))
    (little (flushes_left after 0) (capped_most FLUSH_STEPS_MAX (left_in flush_left (cache_state after 0).place after 0)))
    (server_at s 0) (server_at s 0).step word (number_below s 0) serves
    (kind_fits d.count a (serving_in d s 0) h.before (server_at s 0).step h.at) in
    below (number_in fewer after 0)
    (left_over WORK_STEPS_MAX next.state.step next.state.kind next.state.number (work_left fewer after 0) (flushes_left after 0)) (number_in left s 0) most
    (λ i. left_over WORK_STEPS_MAX (so.at_step i) (so.kind i) (so.number i) (work_left fewer after 0) (flushes_left after 0)) fell within
  where
    little : (x : ℕ) → x ≤ FLUSH_STEPS_MAX → x < WORK_STEPS_MAX
    little x le = omega (arith, le)

    below : (x y z most : ℕ) → x ≡ y → y < z → z ≤ most → x < most
    below x y z most is lt le = omega (arith, is, lt, le)

-- ---- while it is not idle

pub servers_act_within : ServersActWithin
servers_act_within a d s serving other =
    let it = has_left d.count a (serving_in d s 0) (servers_stand a d s serving other) in
    record { serving = serving; left = it.0; runs = it.2; within = most it.0 (few_steps d.count it.0 serving.stands.count it.1) }
  where
    most : (left : ℕ) → left ≤ JOB_STEPS_MAX → number_in left s 0 ≤ SERVER_STEPS_MAX
    most left few =
        by WORK_STEPS_MAX (server_at s 0).step (server_at s 0).kind (server_at s 0).number (work_left left s 0) (flushes_left s 0)
        (work_most left (capped WAIT_STEPS_MAX (access_left (tree.ask_at (job_in s 0)) s 0)) few
        (capped_most WAIT_STEPS_MAX (access_left (tree.ask_at (job_in s 0)) s 0)))
        (little (flushes_left s 0) (capped_most FLUSH_STEPS_MAX (left_in flush_left (cache_state s 0).place s 0)))
      where
        little : (x : ℕ) → x ≤ FLUSH_STEPS_MAX → x < WORK_STEPS_MAX
        little x le = omega (arith, le)

        working : (b : Bool) (long work : ℕ) → work < long → (if b then 2 * long + 40 + work else 10 + work) ≤ 3 * long + 10001
        working true long work lt = omega (arith, lt)
        working false long work lt = omega (arith, lt)

        finding : (b : Bool) (long work : ℕ) → work < long → (if b then long + 20 + work else 2 * long + 5000 + work) ≤ 3 * long + 10001
        finding true long work lt = omega (arith, lt)
        finding false long work lt = omega (arith, lt)

        by : (long : ℕ) (at : ServerStep) (kind : Option RequestKind) (number work flush : ℕ) → work < long → flush < long →
            left_over long at kind number work flush ≤ 3 * long + 10001
        by long step.Working kind number work flush one two = working (opens kind) long work one
        by long step.Finding kind number work flush one two = finding (opens kind) long work one
        by long step.Releasing kind number work flush one two = omega arith
        by long step.Receiving kind number work flush one two = omega arith
        by long step.ReadingKind kind number work flush one two = omega arith
        by long step.ReadingClient kind number work flush one two = omega arith
        by long step.ReadingFile kind number work flush one two = omega arith
        by long step.ReadingOffset kind number work flush one two = omega arith
        by long step.ReadingCount kind number work flush one two = omega arith
        by long step.ReadingRecord kind number work flush one two = omega arith
        by long step.LookingRecord kind number work flush one two = omega arith
        by long step.LookingEntry kind number work flush one two = omega arith
        by long step.LookingHolders kind number work flush one two = omega arith
        by long step.TakingPage kind number work flush one two = omega arith
        by long step.ReadingMode kind number work flush one two = omega arith
        by long step.StoringRecord kind number work flush one two = omega arith
        by long step.StoringDevice kind number work flush one two = omega arith
        by long step.ReadingModeAgain kind number work flush one two = omega arith
        by long step.StoringMode kind number work flush one two = omega arith
        by long step.StoringFile kind number work flush one two = omega arith
        by long step.ReadingRecordAgain kind number work flush one two = omega arith
        by long step.Sizing kind number work flush one two = omega (arith, one)
        by long step.StoringSize kind number work flush one two = omega arith
        by long step.Advancing kind number work flush one two = omega arith
        by long step.StoringOffset kind number work flush one two = omega arith
        by long step.CheckingRecord kind number work flush one two = omega arith
        by long step.CheckingEntry kind number work flush one two = omega arith
        by long step.CheckingHolders kind number work flush one two = omega arith
        by long step.Flushing kind number work flush one two = omega (arith, two)
        by long step.Acting kind number work flush one two = omega arith
        by long step.Replying kind number work flush one two = omega arith
        by long step.Pausing kind number work flush one two = omega arith

-- ---- a call of its own

-- where the server stands behind it
seen_stands : (d : Disk) (s after : KernelState) (done : Progress) → IsSeen d s after 0 done → (word : ℕ) × StandsNext after 0 (next_at (server_at s 0) word)
seen_stands d s after done seen = by seen.next seen.behind seen.calls
    (record { at_step = sym seen.stands_as.at_step; kind = sym seen.stands_as.kind; number = sym seen.stands_as.number })
  where
    by : (next : ServerNext) (behind : Serving) → Calls (serving_in d s 0) next behind →
        StandsNext after 0 (record { state = behind.state; begins = next.begins; seen = next.seen }) →
        (word : ℕ) × StandsNext after 0 (next_at (server_at s 0) word)
    by next behind (called word v reply sees is) so = (
      word,
      record {
        at_step = so.at_step ∙ ap (λ (x : ServerNext). x.state.step) is;
        kind = so.kind ∙ ap (λ (x : ServerNext). x.state.kind) is;
        number = so.number ∙ ap (λ (x : ServerNext). x.state.number) is;
      },
    )

pub calls_act_soon : CallsActSoon
calls_act_soon most a d s after output done is all acts other order made =
    elim (quiet_or_taking (server_at s 0).step is) [
      | inl quiet ↦
          inl (by_seen (calls_are_seen d s after 0 output done quiet (has_needs d.count a (serving_in d s 0) 0 refl h)
          (reads_page d.count a (serving_in d s 0) s 0 acts.serving.requested h) all order made))
      | inr taking ↦ elim (pages_are_taken d s after 0 output done taking
          (λ number below used. (h.table.places number below).there used) all order made) [
            | inl seen ↦ inl (by_seen seen)
            | inr refused ↦ inr (taking, refused)
          ]
    ]
  where
    h : StandsServing d.count a (serving_in d s 0)
    h = servers_stand a d s acts.serving other

    by_seen : IsSeen d s after 0 done → Sooner most done d after a
    by_seen seen =
        let so = seen_stands d s after done seen in
        sooner most d after a s done acts.serving.requested acts.serving.rests
        (seen_serves d.count a d s after done is (all_small d s 0 all) h seen)
        (falls_by_plan most acts.left so.0 d s after a h (call_serves (server_at s 0).step is) acts.within so.1)

-- ---- a step of a job

job_serves : (at : ServerStep) → is_working at ≡ true → is_serving at ≡ true
job_serves = at_job (λ (at : ServerStep). is_serving at ≡ true) refl refl refl

-- the run of the job, at each of these steps
runs_there : (count : ℕ) (job : TreeState) (m : Memory) (left : ℕ) (at : ServerStep) → is_working at ≡ true → JobLeft at count job m left →
    RunsFor count job m left
runs_there count job m left =
    at_job (λ (at : ServerStep). JobLeft at count job m left → RunsFor count job m left) (λ run. run) (λ run. run) (λ run. run)

there_runs : (count : ℕ) (job : TreeState) (m : Memory) (left : ℕ) (at : ServerStep) → is_working at ≡ true → RunsFor count job m left →
    JobLeft at count job m left
there_runs count job m left =
    at_job (λ (at : ServerStep). RunsFor count job m left → JobLeft at count job m left) (λ run. run) (λ run. run) (λ run. run)

-- less is left of the job alone
working_less : (long : ℕ) (kind : Option RequestKind) (number w v f g : ℕ) → w < v → (at : ServerStep) → is_working at ≡ true →
    left_over long at kind number w f < left_over long at kind number v g
working_less long kind number w v f g lt =
    at_job (λ (at : ServerStep). left_over long at kind number w f < left_over long at kind number v g) (working (opens kind)) (finding (opens kind))
    (omega (arith, lt))
  where
    working : (b : Bool) → (if b then 2 * long + 40 + w else 10 + w) < (if b then 2 * long + 40 + v else 10 + v)
    working true = omega (arith, lt)
    working false = omega (arith, lt)

    finding : (b : Bool) → (if b then long + 20 + w else 2 * long + 5000 + w) < (if b then long + 20 + v else 2 * long + 5000 + v)
    finding true = omega (arith, lt)
    finding false = omega (arith, lt)

module _ (most : ℕ) (a : AbstractState) (disk : DiskFile) (before now : Files) (s after : KernelState)
    (on : is_working (server_at s 0).step ≡ true) (all : AllStands (disk_in before disk) s 0) (acts : ActsWithin most (disk_in before disk) s 0 a) where
  abbrev d : Disk
  d = disk_in before disk

  abbrev e : Disk
  e = disk_in now disk

  run : RunsFor d.count (job_in s 0) (memory_in d s 0) acts.left
  run = runs_there d.count (job_in s 0) (memory_in d s 0) acts.left (server_at s 0).step on acts.runs

  -- it stands where it stood, and goes on with the job
  goes_on : StandsStill s after 0 → (left : ℕ) → RunsFor e.count (job_in after 0) (memory_in e after 0) left → work_left left after 0 < work_left acts.left s 0 →
      IsServing e after 0 a → Sooner most progress.Hidden e after a
  goes_on same left runs less serving = (
    number_in left after 0,
    below (number_in left after 0)
        (left_over WORK_STEPS_MAX (server_at s 0).step (server_at s 0).kind (server_at s 0).number (work_left left after 0) (flushes_left after 0))
        (number_in acts.left s 0) most
        (λ i. left_over WORK_STEPS_MAX (same.at_step i) (same.kind i) (same.number i) (work_left left after 0) (flushes_left after 0))
        (working_less WORK_STEPS_MAX (server_at s 0).kind (server_at s 0).number (work_left left after 0) (work_left acts.left s 0)
        (flushes_left after 0) (flushes_left s 0) less (server_at s 0).step on) acts.within,
    record {
      serving = serving;
      left = left;
      runs = there_runs e.count (job_in after 0) (memory_in e after 0) left (server_at after 0).step (ap is_working same.at_step ∙ on) runs;
      within = omega arith;
    },
  )
    where
      below : (x y z most : ℕ) → x ≡ y → y < z → z ≤ most → x < most
      below x y z most is lt le = omega (arith, is, lt, le)

  goes_further : (told : Acted) → told ≡ acted.Going → StandsStill s after 0 → HasStepped d e s after 0 told → IsServing e after 0 a →
      Sooner most progress.Hidden e after a
  goes_further _ is same (steps.waits waiting) serving =
      goes_on same acts.left
      (record {
        soon = run.soon;
        answer = run.answer;
        after = run.after;
        ends = subst (λ (m : Memory). Ends e.count run.answer run.after acts.left (job_in after 0) m) (sym waiting.memory)
            (subst (λ (j : TreeState). Ends e.count run.answer run.after acts.left j (memory_in d s 0)) (sym waiting.job) run.ends);
      })
      (nearer (capped WAIT_STEPS_MAX (access_left (tree.ask_at (job_in after 0)) after 0)) (capped WAIT_STEPS_MAX (access_left (tree.ask_at (job_in s 0)) s 0))
      (acts.left * ACCESS_STEPS_MAX) (capped_less WAIT_STEPS_MAX (access_left (tree.ask_at (job_in after 0)) after 0) (access_left (tree.ask_at (job_in s 0)) s 0)
      (subst (λ (j : TreeState). access_left (tree.ask_at j) after 0 < access_left (tree.ask_at (job_in s 0)) s 0) (sym waiting.job) waiting.nearer)
      (access_most d s 0 all (tree.ask_at (job_in s 0)))))
      serving
    where
      nearer : (x y k : ℕ) → x < y → k + x < k + y
      nearer x y k lt = omega (arith, lt)
  goes_further _ is same (steps.goes next moved by there) serving =
      let rest = run_goes_on d.count run.answer run.after acts.left (job_in s 0) next (memory_in d s 0) run.ends by in
      goes_on same rest.left
      (record {
        soon = fewer rest.left acts.left (job_steps_max d.count) rest.one run.soon;
        answer = run.answer;
        after = run.after;
        ends = subst (λ (m : Memory). Ends e.count run.answer run.after rest.left (job_in after 0) m) (sym moved.memory)
            (subst (λ (j : TreeState). Ends e.count run.answer run.after rest.left j (memory_after (tree.ask_at (job_in s 0)) (memory_in d s 0))) (sym there) rest.ends);
      })
      (one_less acts.left rest.left (capped WAIT_STEPS_MAX (access_left (tree.ask_at (job_in after 0)) after 0))
      (capped WAIT_STEPS_MAX (access_left (tree.ask_at (job_in s 0)) s 0)) rest.one
      (moved_most (capped WAIT_STEPS_MAX (access_left (tree.ask_at (job_in after 0)) after 0)) (access_left (tree.ask_at (job_in after 0)) after 0)
      (access_left (tree.ask_at (job_in s 0)) s 0) (capped WAIT_STEPS_MAX (access_left (tree.ask_at (job_in s 0)) s 0))
      (capped_under WAIT_STEPS_MAX (access_left (tree.ask_at (job_in after 0)) after 0))
      (access_moved s after 0 moved.cache (tree.ask_at (job_in s 0)) (tree.ask_at (job_in after 0)))
      (capped_over WAIT_STEPS_MAX (access_left (tree.ask_at (job_in s 0)) s 0) (access_most d s 0 all (tree.ask_at (job_in s 0))))))
      serving
    where
      fewer : (n left most : ℕ) → suc n ≡ left → left ≤ most → n ≤ most
      fewer n left most is le = omega (arith, is, le)

      moved_most : (a b c e : ℕ) → a ≤ b → b ≤ c + (steps_of_round + steps_to_begin) → c ≤ e → a ≤ e + (steps_of_round + steps_to_begin)
      moved_most a b c e one two three = omega (arith, one, two, three)
  goes_further _ is same (steps.answers word moved by) serving = absurd (let contradiction : acted.Answer word ≡ acted.Going = is in cc)
  goes_further _ is same (steps.lacks waiting refusal resting) serving = absurd (let contradiction : acted.Answer _ ≡ acted.Going = is in cc)

  -- where it answers, the cache stands
  still_long : (mid : KernelState) (told : Acted) → HasStepped d e s mid 0 told → steps.TreeAt e mid 0
  still_long mid _ (steps.waits waiting) = waiting.stands
  still_long mid _ (steps.goes next moved by there) = moved.stands
  still_long mid _ (steps.answers word moved by) = moved.stands
  still_long mid _ (steps.lacks waiting refusal resting) = waiting.stands

  served_soon : (done : Progress) → StandsServing d.count a (serving_in d s 0) → HasWorked (server_at s 0) disk before now s after 0 done →
      HasServed e.count a e s after 0 done → Sooner most done e after a
  served_soon _ h (goes stepped alone) served =
      goes_further acted.Going refl (still s after 0 alone.rest) stepped
      (served_is_kept a e s after progress.Hidden acts.serving.requested acts.serving.rests served)
  served_soon _ h (answers word mid stepped alone is) served =
      let next = next_at (server_at s 0) word in
      sooner most e after a s next.seen acts.serving.requested acts.serving.rests served
      (falls_by_plan most acts.left word d s after a h (job_serves (server_at s 0).step on) acts.within
      (gone_stands mid 0 next (goes_well (server_at s 0) (server_at s 0).step word (number_below s 0)) (still_long mid (acted.Answer word) stepped).cache.words
      after is))

pub jobs_act_soon : JobsActSoon
jobs_act_soon most a disk before now s after files output done on all acts other order is told made worked =
    let d : Disk = disk_in before disk in
    let h = servers_stand a d s acts.serving other in
    elim (jobs_serve d.count a disk before now s after files output done on acts.serving.requested all h order is told made worked) [
      | inl served ↦ inl (served_soon most a disk before now s after on all acts done h worked served)
      | inr lacks ↦ inr lacks
    ]

-- ---- a step of a flush

module _ (most : ℕ) (a : AbstractState) (disk : DiskFile) (before now : Files) (s after : KernelState) (files : Around (Option Files)) (output : Output)
    (flushing_now : (server_at s 0).step ≡ step.Flushing) (all : AllStands (disk_in before disk) s 0) (acts : ActsWithin most (disk_in before disk) s 0 a)
    (is : files.before ≡ Some before) where
  abbrev e_now : Disk
  e_now = disk_in now disk

  flush_falls_on : Flushes flushed.Going disk 0 s after files output → FallsTo most after
  flush_falls_on flushes left few =
      let same = (flush_leaves disk before s 0 all files output is flushed.Going after flushes).server in
      below (number_in left after 0)
      (left_over WORK_STEPS_MAX step.Flushing (server_at after 0).kind (server_at after 0).number (work_left left after 0) (flushes_left after 0))
      (flushes_left after 0) (flushes_left s 0) (number_in acts.left s 0)
      (left_over WORK_STEPS_MAX step.Flushing (server_at s 0).kind (server_at s 0).number (work_left acts.left s 0) (flushes_left s 0)) most
      (ap (λ (x : ServerStep). left_over WORK_STEPS_MAX x (server_at after 0).kind (server_at after 0).number (work_left left after 0) (flushes_left after 0))
      (ap (λ (x : ServerState). x.step) same ∙ flushing_now)) refl
      (ap (λ (x : ServerStep). left_over WORK_STEPS_MAX x (server_at s 0).kind (server_at s 0).number (work_left acts.left s 0) (flushes_left s 0)) flushing_now)
      refl
      (capped_less FLUSH_STEPS_MAX (left_in flush_left (cache_state after 0).place after 0) (left_in flush_left (cache_state s 0).place s 0)
      (first (left_in flush_left (cache_state after 0).place after 0) (left_in flush_left (flushing (cache_state s 0).place) s 0)
      (left_in flush_left (cache_state s 0).place s 0) (flushes.tells before is all.stands.cache).0
      (flush_begins (cache_state s 0).place (cached_count (row_in s 0)) (used_count (row_in s 0)))) (flush_most_there (disk_in before disk) s 0 all))
      acts.within
    where
      first : (x y z : ℕ) → x < y → y ≤ z → x < z
      first x y z lt le = omega (arith, lt, le)

      below : (x v f g y w most : ℕ) → x ≡ v → v ≡ 2 + f → y ≡ w → w ≡ 2 + g → f < g → y ≤ most → x < most
      below x v f g y w most one two three four lt le = omega (arith, one, two, three, four, lt, le)

  flushed_soon : (done : Progress) → StandsServing (disk_in before disk).count a (serving_in (disk_in before disk) s 0) →
      HasFlushed (server_at s 0) disk s after 0 files output done → HasServed e_now.count a e_now s after 0 done → Sooner most done e_now after a
  flushed_soon _ h (goes flushes) served =
      sooner most e_now after a s progress.Hidden acts.serving.requested acts.serving.rests served (flush_falls_on flushes)
  flushed_soon _ h (ends mid flushes gone_is) served =
      let next = next_at (server_at s 0) 0 in
      let kept = flushes.cache before is all.stands.cache in
      sooner most e_now after a s next.seen acts.serving.requested acts.serving.rests served
      (falls_by_plan most acts.left 0 (disk_in before disk) s after a h
      (subst (λ (x : ServerStep). is_serving x ≡ true) (sym flushing_now) refl) acts.within
      (gone_stands mid 0 next (goes_well (server_at s 0) (server_at s 0).step 0 (number_below s 0)) kept.2.words after gone_is))

pub flushes_act_soon : FlushesActSoon
flushes_act_soon most a disk before s after files output done flushing_now all acts other order is flushed =
    let d : Disk = disk_in before disk in
    let h = servers_stand a d s acts.serving other in
    let served = flushes_serve d.count a disk before s after files output done flushing_now all h order is flushed in
    (served.0, served.1, flushed_soon most a disk before served.0 s after files output flushing_now all acts is done h flushed served.2)
