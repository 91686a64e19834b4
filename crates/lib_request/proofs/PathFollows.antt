-- Whether another byte of a path may follow, as remove asks it of the address that wraps: it is as where that does not.
use Rattle.std.proofs.Common.{◌≡◌, ◌∙◌, ◌+◌, ◌%◌, ◌^◌, ◌&&◌, ◌<◌, ◌≤◌, ℕ, Bool, true, false, refl, sym, ap, arith}
use Rattle.std.specs.Prelude.{nat_lt}
use Rattle.std.proofs.lemmas.Bool.{false≢true}
use Rattle.std.proofs.lemmas.Bool.Decides.{nat_tests}
use Rattle.fs_layout.specs.declared.numbers.TheConstants.{MAXPATHLEN}
use Rattle.lib_os.specs.declared.place.Place.TheVariants as place
use Rattle.lib_os.specs.declared.place.Step.{Step}
use Rattle.lib_os.specs.declared.place.Step.TheVariants as step
use Rattle.lib_os.specs.declared.service.Service.{Service}
use Rattle.lib_os.specs.declared.service.Service.TheVariants as service
use Rattle.lib_os.specs.Fence.{is_inside}
use Rattle.lib_os.specs.LibrarySteps.{frames_at, is_pausing}
use Rattle.lib_os.specs.StandsInHandler.{may_follow}
use Rattle.lib_os.proofs.PathServices.{has_path}
use Rattle.lib_os.proofs.BufferLooks.{next_small}
use Rattle.lib_os.proofs.PathRefused.{leaves_fence}
use Rattle.lib_request.specs.PathStages.{follows}

inside_same : (path done : ℕ) → path < 2 ^ 32 → done ≤ MAXPATHLEN → is_inside ((path + done) % 2 ^ 32) ≡ is_inside (path + done)
inside_same path done small few = by_test (is_inside (path + done)) refl
  where
    by_test : (t : Bool) → is_inside (path + done) ≡ t → is_inside ((path + done) % 2 ^ 32) ≡ is_inside (path + done)
    by_test true is = ap is_inside (next_small (path + done) is)
    by_test false off = leaves_fence path done small few off ∙ sym off

-- a step that does not pause
abbrev pub keeps_turn : Step → Bool
keeps_turn (step.Pausing id) = false
keeps_turn (step.OpenPausing id fd) = false
keeps_turn (step.Spawning at) = false
keeps_turn _ = true

pub follows_is : (path done : ℕ) → path < 2 ^ 32 → follows path done ≡ may_follow path done
follows_is path done small = by_test (nat_lt done MAXPATHLEN) refl
  where
    by_test : (t : Bool) → nat_lt done MAXPATHLEN ≡ t → (t && is_inside ((path + done) % 2 ^ 32)) ≡ (t && is_inside (path + done))
    by_test true fewer = inside_same path done small (grind (arith, nat_tests, fewer))
    by_test false many = refl

-- ---- the services that are given a path

-- none of their steps up to where it is taken gives up a turn
pub path_steady : (call : Service) → has_path call ≡ true → (at : Step) → keeps_turn at ≡ true → is_pausing (place.InService call at) ≡ false
path_steady (service.Remove path) takes at keeps = remove_steady path at keeps
  where
    remove_steady : (path : ℕ) (at : Step) → keeps_turn at ≡ true → is_pausing (place.InService (service.Remove path) at) ≡ false
    remove_steady path (step.Pausing id) keeps = absurd (false≢true keeps)
    remove_steady path _ keeps = refl
path_steady (service.OpenFile path mode) takes at keeps = open_steady path mode at keeps
  where
    open_steady : (path mode : ℕ) (at : Step) → keeps_turn at ≡ true → is_pausing (place.InService (service.OpenFile path mode) at) ≡ false
    open_steady path mode (step.OpenPausing id fd) keeps = absurd (false≢true keeps)
    open_steady path mode _ keeps = refl
path_steady (service.Spawn path argv) takes at keeps = spawn_steady path argv at keeps
  where
    spawn_steady : (path argv : ℕ) (at : Step) → keeps_turn at ≡ true → is_pausing (place.InService (service.Spawn path argv) at) ≡ false
    spawn_steady path argv (step.Spawning at) keeps = absurd (false≢true keeps)
    spawn_steady path argv _ keeps = refl
path_steady _ takes at keeps = absurd (false≢true takes)

-- as many frames may be taken as for a page and its table
pub path_frames : (call : Service) → has_path call ≡ true → frames_at (place.InService call step.TakingPage) ≡ 2
path_frames (service.Remove path) takes = refl
path_frames (service.OpenFile path mode) takes = refl
path_frames (service.Spawn path argv) takes = refl
path_frames _ takes = absurd (false≢true takes)
