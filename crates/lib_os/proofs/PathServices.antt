-- The services that are given a path, which they gather in a page of their own: what is known at each of their steps, up to where the page
-- has the path.
use Rattle.std.proofs.Common.{◌≡◌, ◌==◌, ◌&&◌, ◌||◌, ℕ, Bool, true, false, List, None, refl}
use Rattle.std.proofs.lemmas.Bool.{false≢true}
use Rattle.jos_base.specs.Environments.{Slot}
use Rattle.jos_base.specs.Words.{page_number}
use Rattle.lib_os.specs.declared.numbers.TheConstants.{SPAWN_GIVEN, SPAWN_HERE, SPAWN_STACK}
use Rattle.lib_os.specs.declared.place.Place.TheVariants as place
use Rattle.lib_os.specs.declared.place.Step.{Step}
use Rattle.lib_os.specs.declared.place.Step.TheVariants as step
use Rattle.lib_os.specs.declared.service.Service.{Service}
use Rattle.lib_os.specs.declared.service.Service.TheVariants as service
use Rattle.lib_os.specs.declared.spawn_steps.GivenStep.TheVariants as given
use Rattle.lib_os.specs.declared.spawn_steps.SpawnStep.TheVariants as spawn
use Rattle.lib_os.specs.AbstractState.{Born, entered}
use Rattle.lib_os.specs.Fence.{is_inside}
use Rattle.lib_os.specs.LibraryPages.{View, has_working, keeps_path, keeps_spawning}
use Rattle.lib_os.specs.InService.{IsIn}
use Rattle.lib_os.specs.StandsFor.{HasWholePath, IsGatheringPath, IsKeepingPath, IsTakingPath, StandsAtStep, StandsBefore, borne_in}
use Rattle.lib_os.specs.StandsFor.{writes_buffer}
use Rattle.lib_os.specs.StandsInHandler.{buffer_of, may_follow, takes_path}
use Rattle.lib_os.proofs.Logical.{is_plain, unborne_plain}
use Rattle.lib_os.proofs.PipesStand.{is_calm_step}
use Rattle.lib_os.proofs.Serving.{holds_page, kept_where}
use Rattle.lib_os.proofs.SpawnPath.{whole_gives}

-- a path is one of the things that it is given
abbrev pub has_path : Service → Bool
has_path (service.Remove path) = true
has_path (service.OpenFile path mode) = true
has_path (service.Spawn path argv) = true
has_path _ = false

pub path_given : (s : Service) → takes_path s ≡ true → has_path s ≡ true
path_given (service.Remove path) takes = refl
path_given (service.OpenFile path mode) takes = refl
path_given (service.Spawn path argv) takes = refl
path_given _ takes = absurd (false≢true takes)

-- the steps at which it is taken
abbrev pub is_path_step : Step → Bool
is_path_step step.Entered = true
is_path_step step.TakingPage = true
is_path_step (step.BufferRegion done word) = true
is_path_step (step.BufferEntry done word) = true
is_path_step (step.Gathering done) = true
is_path_step (step.Keeping done word left) = true
is_path_step (step.Faulting done word) = true
is_path_step _ = false

-- ---- its page

pub path_holds : (s : Service) → has_path s ≡ true → (at : Step) → is_path_step at ≡ true → holds_page (place.InService s at) ≡ kept_where (keeps_path at)
path_holds (service.Remove path) is at along = refl
path_holds (service.OpenFile path mode) is at along = refl
path_holds (service.Spawn path argv) is at along = by_step at along
  where
    by_step : (at : Step) → is_path_step at ≡ true → holds_page (place.InService (service.Spawn path argv) at) ≡ kept_where (keeps_path at)
    by_step step.Entered along = refl
    by_step step.TakingPage along = refl
    by_step (step.BufferRegion done word) along = refl
    by_step (step.BufferEntry done word) along = refl
    by_step (step.Gathering done) along = refl
    by_step (step.Keeping done word left) along = refl
    by_step (step.Faulting done word) along = refl
    by_step _ along = absurd (false≢true along)
path_holds _ is at along = absurd (false≢true is)

pub path_works : (s : Service) → has_path s ≡ true → (at : Step) → is_path_step at ≡ true → (words : List ℕ) →
    has_working (place.InService s at) words ≡ keeps_path at
path_works (service.Remove path) is at along words = refl
path_works (service.OpenFile path mode) is at along words = refl
path_works (service.Spawn path argv) is at along words = by_step at along
  where
    by_step : (at : Step) → is_path_step at ≡ true → keeps_spawning at ≡ keeps_path at
    by_step step.Entered along = refl
    by_step step.TakingPage along = refl
    by_step (step.BufferRegion done word) along = refl
    by_step (step.BufferEntry done word) along = refl
    by_step (step.Gathering done) along = refl
    by_step (step.Keeping done word left) along = refl
    by_step (step.Faulting done word) along = refl
    by_step _ along = absurd (false≢true along)
path_works _ is at along words = absurd (false≢true is)

-- its bytes are read
pub path_reads : (s : Service) → has_path s ≡ true → writes_buffer s ≡ false
path_reads (service.Remove path) is = refl
path_reads (service.OpenFile path mode) is = refl
path_reads (service.Spawn path argv) is = refl
path_reads _ is = absurd (false≢true is)

-- it bears no child, and entries count as they stand
pub path_unborne : (s : Service) → has_path s ≡ true → (at : Step) → is_path_step at ≡ true → borne_in (place.InService s at) ≡ None
path_unborne (service.Remove path) is at along = refl
path_unborne (service.OpenFile path mode) is at along = refl
path_unborne (service.Spawn path argv) is at along = by_step at along
  where
    by_step : (at : Step) → is_path_step at ≡ true → borne_in (place.InService (service.Spawn path argv) at) ≡ None
    by_step (step.Spawning at) along = absurd (false≢true along)
    by_step _ along = refl
path_unborne _ is at along = absurd (false≢true is)

pub path_plain : (s : Service) → has_path s ≡ true → (at : Step) → is_path_step at ≡ true → is_plain (place.InService s at) ≡ true
path_plain (service.Remove path) is at along = refl
path_plain (service.OpenFile path mode) is at along = refl
path_plain (service.Spawn path argv) is at along =
    unborne_plain (place.InService (service.Spawn path argv) at) refl (path_unborne (service.Spawn path argv) is at along) refl
path_plain _ is at along = absurd (false≢true is)

-- ---- at each step

-- where the page has the path
abbrev pub whole_step : Service → Step
whole_step (service.OpenFile path mode) = step.FreeRegion
whole_step (service.Spawn path argv) = step.Spawning (spawn.Given given.TakingGiven)
whole_step _ = step.Identifying

-- it keeps no other
pub whole_holds : (s : Service) → has_path s ≡ true → holds_page (place.InService s (whole_step s)) ≡ kept_where true
whole_holds (service.Remove path) is = refl
whole_holds (service.OpenFile path mode) is = refl
whole_holds (service.Spawn path argv) is =
    λ i. (true, λ p. none_of (p == page_number SPAWN_GIVEN) (p == page_number SPAWN_STACK) (p == page_number SPAWN_HERE) i)
  where
    none_of : (c d e : Bool) → ((c && false) || (d && false) || (e && false)) ≡ false
    none_of true true true = refl
    none_of true true false = refl
    none_of true false true = refl
    none_of true false false = refl
    none_of false true true = refl
    none_of false true false = refl
    none_of false false true = refl
    none_of false false false = refl
whole_holds _ is = absurd (false≢true is)

pub whole_unborne : (s : Service) → has_path s ≡ true → borne_in (place.InService s (whole_step s)) ≡ None
whole_unborne (service.Remove path) is = refl
whole_unborne (service.OpenFile path mode) is = refl
whole_unborne (service.Spawn path argv) is = refl
whole_unborne _ is = absurd (false≢true is)

-- nothing is done to pipes there
pub whole_calm : (s : Service) → is_calm_step (whole_step s) ≡ true
whole_calm (service.OpenFile path mode) = refl
whole_calm (service.Spawn path argv) = refl
whole_calm _ = refl

module _ (v : View) (k : Slot) (b : Born) where
  pub taking_path : (s : Service) → has_path s ≡ true → StandsAtStep v k b s step.TakingPage →
      IsIn k b s entered × (takes_path s ≡ true) × (is_inside (buffer_of s) ≡ true)
  taking_path (service.Remove path) is h = (h.0, refl, h.1)
  taking_path (service.OpenFile path mode) is h = h
  taking_path (service.Spawn path argv) is h = (h.0, refl, h.1)
  taking_path _ is h = absurd (false≢true is)

  pub path_taking : (s : Service) → has_path s ≡ true → IsIn k b s entered × (takes_path s ≡ true) × (is_inside (buffer_of s) ≡ true) →
      StandsAtStep v k b s step.TakingPage
  path_taking (service.Remove path) is h = (h.0, h.2)
  path_taking (service.OpenFile path mode) is h = h
  path_taking (service.Spawn path argv) is h = (h.0, h.2)
  path_taking _ is h = absurd (false≢true is)

  pub before_path : {so : Type 0} (s : Service) → has_path s ≡ true → (done word : ℕ) → StandsBefore so v k b s done word → IsTakingPath v k b s done × so
  before_path (service.Remove path) is done word h = h
  before_path (service.OpenFile path mode) is done word h = h
  before_path (service.Spawn path argv) is done word h = h
  before_path _ is done word h = absurd (false≢true is)

  pub path_before : {so : Type 0} (s : Service) → has_path s ≡ true → (done word : ℕ) → IsTakingPath v k b s done × so → StandsBefore so v k b s done word
  path_before (service.Remove path) is done word h = h
  path_before (service.OpenFile path mode) is done word h = h
  path_before (service.Spawn path argv) is done word h = h
  path_before _ is done word h = absurd (false≢true is)

  pub gathering_path : (s : Service) → has_path s ≡ true → (done : ℕ) → StandsAtStep v k b s (step.Gathering done) →
      IsGatheringPath (may_follow (buffer_of s) done) v k b s done
  gathering_path (service.Remove path) is done h = h
  gathering_path (service.OpenFile path mode) is done h = h
  gathering_path (service.Spawn path argv) is done h = h
  gathering_path _ is done h = absurd (false≢true is)

  pub path_gathering : (s : Service) → has_path s ≡ true → (done : ℕ) → IsGatheringPath (may_follow (buffer_of s) done) v k b s done →
      StandsAtStep v k b s (step.Gathering done)
  path_gathering (service.Remove path) is done h = h
  path_gathering (service.OpenFile path mode) is done h = h
  path_gathering (service.Spawn path argv) is done h = h
  path_gathering _ is done h = absurd (false≢true is)

  pub keeping_path : (s : Service) → has_path s ≡ true → (done word left : ℕ) → StandsAtStep v k b s (step.Keeping done word left) →
      IsKeepingPath v k b s done word left
  keeping_path (service.Remove path) is done word left h = h
  keeping_path (service.OpenFile path mode) is done word left h = h
  keeping_path (service.Spawn path argv) is done word left h = h
  keeping_path _ is done word left h = absurd (false≢true is)

  pub path_keeping : (s : Service) → has_path s ≡ true → (done word left : ℕ) → IsKeepingPath v k b s done word left →
      StandsAtStep v k b s (step.Keeping done word left)
  path_keeping (service.Remove path) is done word left h = h
  path_keeping (service.OpenFile path mode) is done word left h = h
  path_keeping (service.Spawn path argv) is done word left h = h
  path_keeping _ is done word left h = absurd (false≢true is)

  pub path_whole : (s : Service) → has_path s ≡ true → HasWholePath v k b s → StandsAtStep v k b s (whole_step s)
  path_whole (service.Remove path) is h = h
  path_whole (service.OpenFile path mode) is h = h
  path_whole (service.Spawn path argv) is h = whole_gives v k b path argv h
  path_whole _ is h = absurd (false≢true is)
