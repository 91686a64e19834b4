-- Each step of fork that nobody sees is followed by one with a lesser number.
use Rattle.std.proofs.Common.{◌≡◌, ◌+◌, ◌-◌, ◌*◌, ◌/◌, ◌%◌, ◌<◌, ◌≢◌, ◌==◌, ℕ, Bool, true, false, not, refl, arith, if◌then◌else◌}
use Rattle.std.proofs.lemmas.Bool.{eqb-true, eqb-false}
use Rattle.jos_base.specs.declared.called.Called.TheVariants.{Answered, Blocked, Ended}
use Rattle.jos_base.specs.declared.called.Called.{Called}
use Rattle.jos_base.specs.declared.numbers.TheConstants.{NPTENTRIES, USTACKTOP}
use Rattle.lib_os.specs.declared.place.Step.{Step}
use Rattle.lib_os.specs.declared.place.Step.TheVariants as step
use Rattle.lib_os.specs.declared.service.Service.TheVariants as service
use Rattle.lib_os.specs.LibraryPages.{region_index}
use Rattle.lib_os.specs.LibrarySteps.{steps_left}
use Rattle.lib_os.specs.Rows.{is_cow}
use Rattle.lib_os.specs.UserCalls.{answer_of}
use Rattle.lib_stage.specs.declared.ask.Next.{Next}
use Rattle.lib_stage.specs.declared.ask.Next.TheVariants as next
use Rattle.lib_stage.proofs.Laws.{Falls, most_left}
use Rattle.lib_fork.specs.declared.fork.ForkStage.{ForkStage}
use Rattle.lib_fork.specs.declared.fork.ForkStage.TheVariants as stage
use Rattle.lib_fork.specs.ForkStages.{below, first_page, forking, is_error, is_there, next_of, region_of}

-- the step that a stage is kept as
abbrev pub step_of : ForkStage → Step
step_of stage.Entered = step.Entered
step_of (stage.Region id region) = step.ForkRegion id region
step_of (stage.Entry id page) = step.ForkEntry id page
step_of (stage.MapChild id page perm) = step.MapChild id page perm
step_of (stage.Remap id page) = step.Remap id page
step_of (stage.ChildStack id) = step.ChildStack id
step_of (stage.ChildUpcall id) = step.ChildUpcall id
step_of (stage.ChildRuns id) = step.ChildRuns id
step_of (stage.Undoing id error) = step.Undoing id error

-- ---- where it goes on

-- behind a page, at most three steps are left for each page below it, and one for each region
abbrev steps_below : ℕ → ℕ
steps_below page = 3 * page + page / NPTENTRIES + 4

pub below_falls : (id page bound : ℕ) → steps_below page < bound → most_left (below id page) < bound
below_falls id page bound less = by_tests (page % NPTENTRIES == 0) (page / NPTENTRIES == 0) refl refl
  where
    by_tests : (first least : Bool) → (page % NPTENTRIES == 0) ≡ first → (page / NPTENTRIES == 0) ≡ least →
        most_left (if not first then step.ForkEntry id (page - 1)
        else if not least then step.ForkRegion id (page / NPTENTRIES - 1) else step.ChildStack id) < bound
    by_tests false least at some =
        let inside : page % NPTENTRIES ≢ 0 = eqb-false (page % NPTENTRIES) 0 at in omega (arith, inside, less)
    by_tests true false at some =
        let begins : page % NPTENTRIES ≡ 0 = eqb-true (page % NPTENTRIES) 0 at in
        let above : page / NPTENTRIES ≢ 0 = eqb-false (page / NPTENTRIES) 0 some in omega (arith, begins, above, less)
    by_tests true true at some = omega (arith, less)

-- the first page of a region that has a table
first_falls : (id region : ℕ) → most_left (step.ForkEntry id (first_page region)) < steps_left (step.ForkRegion id region)
first_falls id region = omega arith

-- ---- by the answer

abbrev Goes : ForkStage → Next → Type 0
Goes at x = Falls service.Fork (step_of at) x

one_of : (at : ForkStage) (t : Bool) (x y : Next) → Goes at x → Goes at y → Goes at (if t then x else y)
one_of at true x y first second = first
one_of at false x y first second = second

falls : (at : ForkStage) (word : ℕ) → Goes at (next_of at word)
falls stage.Entered word =
    one_of stage.Entered (is_error word) (next.Answer word) (next.Show (step.ForkRegion word (region_index USTACKTOP))) tt tt
falls (stage.Region id region) word =
    one_of (stage.Region id region) (not (is_there word)) _ _
    (below_falls id (region_of region * NPTENTRIES) _ (omega arith)) (first_falls id region)
falls (stage.Entry id page) word =
    one_of (stage.Entry id page) (not (is_there word)) _ _ (below_falls id page _ (omega arith)) (omega arith)
falls (stage.MapChild id page perm) word =
    one_of (stage.MapChild id page perm) (not (word == 0)) _ _ (omega arith)
    (one_of (stage.MapChild id page perm) (is_cow perm) _ _ (omega arith) (below_falls id page _ (omega arith)))
falls (stage.Remap id page) word = below_falls id page _ (omega arith)
falls (stage.ChildStack id) word = one_of (stage.ChildStack id) (not (word == 0)) _ _ (omega arith) (omega arith)
falls (stage.ChildUpcall id) word = omega arith
falls (stage.ChildRuns id) word = tt
falls (stage.Undoing id error) word = tt

pub fork_falls : (at : ForkStage) (called : Called) → Falls service.Fork (step_of at) ((forking (record { at = at })).next called)
fork_falls stage.Entered called = falls stage.Entered (answer_of called)
fork_falls (stage.Region id region) called = falls (stage.Region id region) (answer_of called)
fork_falls (stage.Entry id page) called = falls (stage.Entry id page) (answer_of called)
fork_falls (stage.MapChild id page perm) called = falls (stage.MapChild id page perm) (answer_of called)
fork_falls (stage.Remap id page) called = falls (stage.Remap id page) (answer_of called)
fork_falls (stage.ChildStack id) called = falls (stage.ChildStack id) (answer_of called)
fork_falls (stage.ChildUpcall id) called = falls (stage.ChildUpcall id) (answer_of called)
fork_falls (stage.ChildRuns id) called = falls (stage.ChildRuns id) (answer_of called)
fork_falls (stage.Undoing id error) (Answered word) = tt
fork_falls (stage.Undoing id error) Ended = tt
fork_falls (stage.Undoing id error) Blocked = tt
