-- Where a path leads is looked up: that of what was opened, for its record, or that of what is to be removed.
use Rattle.std.proofs.Common.{◌≡◌, ◌∙◌, ◌*◌, ◌||◌, ◌++◌, ℕ, Bool, true, false, List, [], ◌∷◌, Option, Some, None, inl, refl, sym, ap, subst}
use Rattle.std.proofs.Common.{arith}
use Rattle.std.specs.Prelude.{if◌then◌else◌}
use Rattle.std.proofs.lemmas.Bool.{false≢true}
use Rattle.jos_base.specs.declared.numbers.TheConstants.{E_BAD_PATH, E_INVAL, E_NOT_FOUND}
use Rattle.jos_base.specs.Words.{negated}
use Rattle.fs_layout.specs.declared.numbers.TheConstants.{BLKSIZE}
use Rattle.fs_layout.specs.DiskImage.{is_directory_at}
use Rattle.fs_layout.specs.FileTree.{open_path, remove_path}
use Rattle.fs_acts.specs.BlockActs.{Led, Planned, a_record, astray, empty_it, led_to, no_record, plan_of, planned, remove_led}
use Rattle.fs_acts.specs.BlockActs.{resizing, too_long, turned_down}
use Rattle.fs_acts.specs.BlockLaws.{HasString}
use Rattle.fs_jobs.specs.declared.place.TreeState.{TreeState}
use Rattle.fs_runs.specs.JobCalls.{find_calls_max}
use Rattle.fs_runs.specs.TreeRuns.{AreSmall, HasActed, IsRunning, IsSound, Memory, found_place}
use Rattle.fs_runs.proofs.Ways.{runs_go_on}
use Rattle.lib_os.specs.declared.request.RequestKind.{RequestKind}
use Rattle.lib_os.specs.declared.request.RequestKind.TheVariants as kind
use Rattle.lib_os.specs.AbstractState.{AbstractState, act}
use Rattle.lib_os.specs.FileServer.{is_count, is_file_open}
use Rattle.fs_requests.specs.declared.plan.ServerNext.{ServerNext}
use Rattle.fs_requests.specs.declared.state.ServerStep.{ServerStep}
use Rattle.fs_requests.specs.declared.state.ServerStep.TheVariants as step
use Rattle.fs_requests.specs.ServerPlans as plans
use Rattle.fs_serving.specs.ServerRuns.{AsksFor, Follows, HasFiles, IsClosed, IsFinding, IsFound, IsOpened, StandsAtStep, TableStands, WorksOn}
use Rattle.fs_serving.specs.ServerRuns.{memory_worked, opened, opens, over, removed, worked}
use Rattle.fs_serving.specs.ServerViews.{Serving, gone_on}
use Rattle.fs_serving.proofs.HeldFiles.{led-stands, place-counts}
use Rattle.fs_serving.proofs.Pieces.{ActIsDone, ActsAreDone, JobFollows}
use Rattle.fs_serving.proofs.Removing.{removal-opens-none, turned-down}
use Rattle.fs_serving.proofs.SameTables.{table-over}

-- what the server does with the answer, told by the kind of the request
abbrev By : ℕ → AbstractState → Serving → ServerNext → Type 0
By count a it next = Follows count a next.seen (gone_on (worked it) next (worked it).view)

by-kind : (count : ℕ) (a : AbstractState) (it : Serving) (k : RequestKind) (word : ℕ) → it.state.step ≡ step.Finding → it.state.kind ≡ Some k →
    By count a it (plans.found_by (Some k) it.state word) → By count a it (plans.next_at it.state word)
by-kind count a it k word at kind_is follows =
    subst (λ (s : ServerStep). By count a it (plans.next_for it.state s word)) (sym at)
    (subst (λ (o : Option RequestKind). By count a it (plans.found_by o it.state word)) (sym kind_is) follows)

is-record : Led → Bool
is-record (a_record home way) = true
is-record _ = false

-- what is no record leads to none
no-record : {X : Type 0} (led : Led) (place : ℕ) (way : List ℕ) → is-record led ≡ false → led ≡ a_record place way → X
unfolding is-record
no-record led place way none is = absurd (false≢true (sym none ∙ ap is-record is))

same-place : (place home : ℕ) (that way : List ℕ) → a_record place that ≡ a_record home way → place ≡ home
same-place place home that way e =
    let is : ◌≡◌ {A = Led} (a_record place that) (a_record home way) = e in let it : ◌≡◌ {A = ℕ} place home = cc in it

-- ---- what was opened

path-string : (a : AbstractState) (page : ℕ → ℕ) (path : List ℕ) (mode : ℕ) → AsksFor a page kind.Open (act (open_path path mode) None) →
    HasString (open_path path mode)
path-string a page path mode (opens _ _ has_path mode_is) = has_path.no_nul

module _ (done : ActsAreDone) (count : ℕ) (a : AbstractState) (it : Serving) (before : Memory) (at : it.state.step ≡ step.Finding)
    (files : HasFiles count before a.files) (table : TableStands before.disk a it.view) where
  -- the file's record is found
  found-opened : (path : List ℕ) (mode home : ℕ) → IsOpened a (worked it) before path mode home → AreSmall (memory_worked it) →
      By count a it (plans.found_by (Some kind.Open) it.state home)
  found-opened path mode home is small = by (is_count home) refl
    where
      is_done : ActIsDone count a it.view (open_path path mode) 0 before (memory_worked it)
      is_done =
          done count a it.view (open_path path mode) 0 before (memory_worked it)
          (path-string a before.page path mode is.opening.is_busy.asks) files table is.has_acted

      sound : IsSound count (memory_worked it)
      sound = record { disk = is_done.files.disk; count_is = is_done.files.count_is; small = small }

      counts : is_count home ≡ true
      counts =
          place-counts count (memory_worked it) is.way home sound
          (led-stands (BLKSIZE * count) (memory_worked it).disk path is.way home is_done.files.disk is.leads)

      by : (b : Bool) → is_count home ≡ b →
          By count a it (if b then plans.hidden (record it.state { home = home }) step.StoringRecord else plans.acting it.state home)
      by false less = absurd (false≢true (sym less ∙ counts))
      by true less = record {
        before = before;
        files = files;
        table = table-over before.disk a it.view (memory_worked it) table;
        at = record {
          path = path;
          mode = mode;
          home = home;
          opened = record {
            opening = record {
              is_busy = record {
                server = is.opening.is_busy.server;
                kind_is = is.opening.is_busy.kind_is;
                asks = is.opening.is_busy.asks;
              };
              below = is.opening.below;
              nobodys = is.opening.nobodys;
              used = is.opening.used;
            };
            has_page = is.has_page;
            has_acted = is.has_acted;
            way = is.way;
            leads = is.leads;
            regular = is.regular;
            named = is.named;
          };
          kept = λ e. refl;
          home_is = λ e. absurd (omega (arith, e));
          device = λ e. absurd (omega (arith, e));
          read = λ e. absurd (omega (arith, e));
          mode_is = λ e. absurd (omega (arith, e));
          number_is = λ e. absurd (omega (arith, e));
          sized = λ e. absurd (omega (arith, e));
          size = λ e. absurd (omega (arith, e));
          offset = λ e. absurd (omega (arith, e));
        };
      }

  of-opened : (path : List ℕ) (mode home : ℕ) (m : Memory) → IsOpened a (over it m) before path mode home →
      IsRunning (find_calls_max count) count home m it.job it.view.memory → WorksOn count a it
  of-opened path mode home m is run =
      let stays = runs_go_on (find_calls_max count) count home m it.job it.view.memory run in
      record {
        bounded = stays.0;
        inside = stays.1;
        goes = λ next goes. record {
          before = before;
          files = files;
          table = table-over before.disk a it.view (memory_worked it) table;
          at =
              subst (λ (s : ServerStep). StandsAtStep s count a (record (worked it) { job = next }) before) (sym at)
              (opened path mode home (further next) (stays.2 next goes).0);
        };
        answers = λ word small ends.
            let end = stays.3 word ends in
            by-kind count a it kind.Open word at is.opening.is_busy.kind_is
            (subst (λ (w : ℕ). By count a it (plans.found_by (Some kind.Open) it.state w)) (sym end.0)
            (found-opened path mode home (subst (λ (n : Memory). IsOpened a (over it n) before path mode home) (sym end.1) is) small));
      }
    where
      further : (next : TreeState) → IsOpened a (over (record (worked it) { job = next }) m) before path mode home
      further next = record {
        opening = record {
          is_busy = record { server = is.opening.is_busy.server; kind_is = is.opening.is_busy.kind_is; asks = is.opening.is_busy.asks };
          below = is.opening.below;
          nobodys = is.opening.nobodys;
          used = is.opening.used;
        };
        has_page = is.has_page;
        has_acted = is.has_acted;
        way = is.way;
        leads = is.leads;
        regular = is.regular;
        named = is.named;
      }

  -- ---- what is to be removed

  -- a path that leads to no file is refused, and that is the act
  found-none : (is : IsFinding count a it before) (error : ℕ) → is_count (negated error) ≡ false →
      plan_of (is_file_open a) before.disk (remove_path is.path) ≡ turned_down error →
      IsClosed (is_file_open a) before.disk (remove_path is.path) → memory_worked it ≡ before → By count a it (plans.found_by (Some kind.Remove) it.state (negated error))
  found-none is error great refuses closed same = by (is_count (negated error)) great
    where
      by : (b : Bool) → b ≡ false →
          By count a it
          (if b then plans.hidden (record it.state { home = negated error }) step.CheckingRecord else plans.acting it.state (negated error))
      by true e = absurd (false≢true (sym e))
      by false e = record {
        before = before;
        files = files;
        table = table-over before.disk a it.view (memory_worked it) table;
        at = record {
          k = kind.Remove;
          f = remove_path is.path;
          object = None;
          place = None;
          is_busy = record { server = is.is_busy.server; kind_is = is.is_busy.kind_is; asks = is.is_busy.asks };
          has_acted =
              subst (λ (m : Memory). HasActed (is_file_open a) (remove_path is.path) before (negated error) m) (sym same)
              (turned-down (is_file_open a) (remove_path is.path) error before refuses);
          closed = closed;
          stays = inl refl;
          not_opened = λ e. removal-opens-none e;
        };
      }

  -- the places of the table are looked at for a file that is found, from the first on
  found-file : (is : IsFinding count a it before) (home : ℕ) (way : List ℕ) → led_to before.disk is.path ≡ a_record home way →
      is_directory_at before.disk home ≡ false → memory_worked it ≡ before → AreSmall (memory_worked it) →
      By count a it (plans.found_by (Some kind.Remove) it.state home)
  found-file is home way leads regular same small = by (is_count home) refl
    where
      sound : IsSound count before
      sound = record { disk = files.disk; count_is = files.count_is; small = subst (λ (m : Memory). AreSmall m) same small }

      counts : is_count home ≡ true
      counts = place-counts count before way home sound (led-stands (BLKSIZE * count) before.disk is.path way home files.disk leads)

      by : (b : Bool) → is_count home ≡ b →
          By count a it (if b then plans.hidden (record it.state { home = home }) step.CheckingRecord else plans.acting it.state home)
      by false less = absurd (false≢true (sym less ∙ counts))
      by true less = record {
        before = before;
        files = files;
        table = table-over before.disk a it.view (memory_worked it) table;
        at = record {
          path = is.path;
          way = way;
          is_busy = record { server = is.is_busy.server; kind_is = is.is_busy.kind_is; asks = is.is_busy.asks };
          memory = same;
          leads = leads;
          regular = regular;
          below = omega (arith, is.first);
          closed = λ number name less. absurd (omega (arith, is.first, less));
        };
      }

  found-removed : (is : IsFinding count a it before) → memory_worked it ≡ before → AreSmall (memory_worked it) →
      By count a it (plans.found_by (Some kind.Remove) it.state (found_place before.disk (led_to before.disk is.path)))
  unfolding plan_of is-record
  found-removed is same small = by (led_to before.disk is.path) refl
    where
      plan : Led → Planned
      plan led = remove_led (is_file_open a) before.disk led

      at-record : (home : ℕ) (way : List ℕ) (b : Bool) → led_to before.disk is.path ≡ a_record home way → is_directory_at before.disk home ≡ b →
          By count a it (plans.found_by (Some kind.Remove) it.state (if b then negated E_INVAL else home))
      at-record home way false leads regular = found-file is home way leads regular same small
      at-record home way true leads directory =
          found-none is E_INVAL refl
          (ap plan leads
          ∙ ap
          (λ (b : Bool). if b || is_file_open a way then turned_down E_INVAL else planned (resizing before.disk home 0 ++ empty_it home ∷ []) 0)
          directory)
          (λ place other that regular.
          let same : place ≡ home = same-place place home other way (sym that ∙ leads) in
          absurd (false≢true (sym regular ∙ ap (is_directory_at before.disk) same ∙ directory)))
          same

      by : (led : Led) → led_to before.disk is.path ≡ led → By count a it (plans.found_by (Some kind.Remove) it.state (found_place before.disk led))
      by too_long leads =
          found-none is E_BAD_PATH refl (ap plan leads) (λ place way that regular. no-record too_long place way refl (sym leads ∙ that)) same
      by astray leads =
          found-none is E_NOT_FOUND refl (ap plan leads) (λ place way that regular. no-record astray place way refl (sym leads ∙ that)) same
      by (no_record directory name) leads =
          found-none is E_NOT_FOUND refl (ap plan leads)
          (λ place way that regular. no-record (no_record directory name) place way refl (sym leads ∙ that)) same
      by (a_record home way) leads = at-record home way (is_directory_at before.disk home) leads refl

  of-removed : IsFinding count a it before → WorksOn count a it
  of-removed is =
      let answer : ℕ = found_place before.disk (led_to before.disk is.path) in
      let stays = runs_go_on (find_calls_max count) count answer before it.job it.view.memory is.running in
      record {
        bounded = stays.0;
        inside = stays.1;
        goes = λ next goes. record {
          before = before;
          files = files;
          table = table-over before.disk a it.view (memory_worked it) table;
          at =
              subst (λ (s : ServerStep). StandsAtStep s count a (record (worked it) { job = next }) before) (sym at)
              (removed (record {
                path = is.path;
                is_busy = record { server = is.is_busy.server; kind_is = is.is_busy.kind_is; asks = is.is_busy.asks };
                first = is.first;
                running = (stays.2 next goes).0;
              }));
        };
        answers = λ word small ends.
            let end = stays.3 word ends in
            by-kind count a it kind.Remove word at is.is_busy.kind_is
            (subst (λ (w : ℕ). By count a it (plans.found_by (Some kind.Remove) it.state w)) (sym end.0) (found-removed is end.1 small));
      }

  all-found : IsFound count a it before → WorksOn count a it
  all-found (opened path mode home {m} is run) = of-opened path mode home m is run
  all-found (removed is) = of-removed is

pub finding : ActsAreDone → JobFollows step.Finding
finding done count a it before at files table is = all-found done count a it before at files table is
