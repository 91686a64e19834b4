-- How many bytes that has which was opened is asked for, and told.
use Rattle.std.proofs.Common.{◌≡◌, ◌∙◌, ◌≤◌, ◌<◌, ℕ, Bool, true, false, Some, refl, sym, ap, subst, arith}
use Rattle.std.specs.Prelude.{nat_lt, if◌then◌else◌}
use Rattle.std.proofs.lemmas.Bool.{false≢true}
use Rattle.std.proofs.lemmas.Bool.Decides.{nat_tests}
use Rattle.fs_layout.specs.declared.numbers.TheConstants.{MAXFILESIZE}
use Rattle.fs_layout.specs.DiskImage.{is_directory_at}
use Rattle.fs_jobs.specs.declared.place.Job.TheVariants as job
use Rattle.fs_jobs.specs.declared.place.TreeState.{TreeState}
use Rattle.fs_runs.specs.JobCalls.{size_calls_max}
use Rattle.fs_runs.specs.TreeRuns.{AreSmall, IsRunning, Memory, begun_with}
use Rattle.fs_runs.proofs.JobsWhole.{all_sizes_are_told}
use Rattle.fs_runs.proofs.Ways.{runs_go_on}
use Rattle.lib_os.specs.AbstractState.{AbstractState}
use Rattle.lib_os.specs.FileServer.{is_count}
use Rattle.fs_requests.specs.declared.plan.ServerNext.{ServerNext}
use Rattle.fs_requests.specs.declared.state.ServerStep.{ServerStep}
use Rattle.fs_requests.specs.declared.state.ServerStep.TheVariants as step
use Rattle.fs_requests.specs.ServerPlans as plans
use Rattle.fs_serving.specs.ServerRuns.{Follows, HasFiles, IsSizing, IsTold, StandsAtStep, TableStands, job_on, memory_worked, over, size_opened}
use Rattle.fs_serving.specs.ServerRuns.{worked}
use Rattle.fs_serving.specs.ServerViews.{Serving, View, gone_on}
use Rattle.fs_serving.proofs.Opened.{opened-in}
use Rattle.fs_serving.proofs.OpenedSizes.{opened-short, opened-sound, opened-stands}
use Rattle.fs_serving.proofs.Pieces.{JobFollows, StepFollows}
use Rattle.fs_serving.proofs.SameTables.{table-over}

-- so far it is told, at another step and whatever job there is
unfoldable told-in : (a : AbstractState) (it : Serving) (before : Memory) (at : ServerStep) (j : TreeState) → IsTold a it before 5 →
    IsTold a (record { state = record it.state { step = at }; job = j; view = it.view }) before 5
told-in a it before at j so = record {
  path = so.path;
  mode = so.mode;
  home = so.home;
  opened =
      opened-in a it before so.path so.mode so.home so.opened (record { state = record it.state { step = at }; job = j; view = it.view }) refl refl
      refl refl so.opened.has_page;
  kept = λ far. absurd (omega (arith, far));
  home_is = λ far. so.home_is (omega arith);
  device = λ far. so.device (omega arith);
  read = λ far. absurd (omega (arith, far));
  mode_is = λ far. so.mode_is (omega arith);
  number_is = λ far. so.number_is (omega arith);
  sized = λ far. absurd (omega (arith, far));
  size = λ far. absurd (omega (arith, far));
  offset = λ far. absurd (omega (arith, far));
}

-- ---- it is asked for

pub reading_record_again : StepFollows step.ReadingRecordAgain
unfolding told-in opened-in
reading_record_again count a it before small files table so word v reply seen =
    let next : ServerNext = plans.next_for it.state step.ReadingRecordAgain word in
    let m : Memory = it.view.memory in
    let is : word ≡ so.home = reply ∙ so.home_is (omega arith) in
    let told =
    all_sizes_are_told count so.opened.way word m (opened-sound count a it before files table small so.path so.mode so.home so.opened)
    (opened-stands count a it before files table small so.path so.mode so.home so.opened ∙ ap (λ (n : ℕ). Some n) (sym is))
    (ap (is_directory_at m.disk) is ∙ so.opened.regular) in
    subst (λ (u : View). Follows count a next.seen (gone_on it next u)) (sym seen) (record {
      before = before;
      files = files;
      table = table;
      at = record {
        left_as = m;
        so_far = told-in a it before step.Sizing (begun_with (job.Size word)) so;
        running = record { left = told.0; soon = told.1; ends = told.2; few = told.3 };
      };
    })

-- ---- its job

-- the job goes on
unfoldable pub sizes-on : (count : ℕ) (a : AbstractState) (it : Serving) (before : Memory) (is : IsSizing count a it before) (next : TreeState) →
    IsRunning size_calls_max count (size_opened is.so_far.opened) is.left_as next (memory_worked it) → IsSizing count a (job_on it next) before
unfolding told-in opened-in
sizes-on count a it before is next run = record {
  left_as = is.left_as;
  so_far = told-in a (over it is.left_as) before it.state.step next is.so_far;
  running = run;
}

abbrev By : ℕ → AbstractState → Serving → ServerNext → Type 0
By count a it next = Follows count a next.seen (gone_on (worked it) next (worked it).view)

counts : (n : ℕ) → n ≤ MAXFILESIZE → is_count n ≡ true
counts n short = below n (omega (arith, short))
  where
    below : (n : ℕ) → n < 0x80000000 → nat_lt n 0x80000000 ≡ true
    below n less = grind (arith, nat_tests)

module _ (count : ℕ) (a : AbstractState) (it : Serving) (before : Memory) (files : HasFiles count before a.files)
    (table : TableStands before.disk a it.view) (small : AreSmall (memory_worked it)) where
  -- the size is told
  is-told : (so : IsTold a (worked it) before 5) → By count a it (plans.next_sized it.state (size_opened so.opened))
  unfolding opened-in
  is-told so = by (is_count size) refl
    where
      size : ℕ
      size = size_opened so.opened

      there : TableStands before.disk a (worked it).view
      there = table-over before.disk a it.view (memory_worked it) table

      by : (b : Bool) → is_count size ≡ b →
          By count a it (if b then plans.hidden (record it.state { count = size }) step.StoringSize else plans.acting it.state size)
      by false less =
          absurd
          (false≢true
          (sym less ∙ counts size (opened-short count a (worked it) before files there small so.path so.mode so.home so.opened)))
      by true less =
          let next : ServerNext = plans.hidden (record it.state { count = size }) step.StoringSize in
          record {
            before = before;
            files = files;
            table = there;
            at = record {
              path = so.path;
              mode = so.mode;
              home = so.home;
              opened =
                  opened-in a (worked it) before so.path so.mode so.home so.opened (gone_on (worked it) next (worked it).view) refl refl refl refl
                  so.opened.has_page;
              kept = λ far. absurd (omega (arith, far));
              home_is = λ far. so.home_is (omega arith);
              device = λ far. so.device (omega arith);
              read = λ far. absurd (omega (arith, far));
              mode_is = λ far. so.mode_is (omega arith);
              number_is = λ far. so.number_is (omega arith);
              sized = λ far. refl;
              size = λ far. absurd (omega (arith, far));
              offset = λ far. absurd (omega (arith, far));
            };
          }

  -- over the memory that the job was to leave
  is-told-over : (m : Memory) → memory_worked it ≡ m → (so : IsTold a (over it m) before 5) →
      By count a it (plans.next_sized it.state (size_opened so.opened))
  is-told-over m same =
      subst (λ (n : Memory). (so : IsTold a (over it n) before 5) → By count a it (plans.next_sized it.state (size_opened so.opened))) same is-told

pub sizing : JobFollows step.Sizing
sizing count a it before at files table is =
    let stays = runs_go_on size_calls_max count (size_opened is.so_far.opened) is.left_as it.job it.view.memory is.running in
    record {
      bounded = stays.0;
      inside = stays.1;
      goes = λ next goes. record {
        before = before;
        files = files;
        table = table-over before.disk a it.view (memory_worked it) table;
        at =
            subst (λ (s : ServerStep). StandsAtStep s count a (job_on it next) before) (sym at)
            (sizes-on count a it before is next (stays.2 next goes).0);
      };
      answers = λ word small ends.
          let end = stays.3 word ends in
          subst (λ (s : ServerStep). By count a it (plans.next_for it.state s word)) (sym at)
          (subst (λ (w : ℕ). By count a it (plans.next_sized it.state w)) (sym end.0)
          (is-told-over count a it before files table small is.left_as end.1 is.so_far));
    }
