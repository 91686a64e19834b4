-- A path that is taken byte by byte: what its bytes say of the next step, in the abstract system and here.
use Rattle.std.proofs.Common.{◌≡◌, ◌∙◌, ◌+◌, ◌-◌, ◌<◌, ◌≤◌, ◌%◌, ◌^◌, ◌++◌, ◌&&◌, ℕ, Bool, true, false, List, [], ◌∷◌, length, refl, sym, ap, subst}
use Rattle.std.proofs.Common.{arith}
use Rattle.std.proofs.lemmas.Bool.{false≢true}
use Rattle.std.proofs.lemmas.Bool.Decides.{nat_tests}
use Rattle.std.specs.List.{before_first, position_or_len}
use Rattle.std.specs.Prelude.{Option, Some, nat_le, nat_lt}
use Rattle.jos_base.specs.declared.numbers.TheConstants.{E_BAD_PATH, E_INVAL}
use Rattle.jos_base.specs.declared.registers.Regs.{Regs}
use Rattle.jos_base.specs.Environments.{Slot}
use Rattle.fs_layout.specs.declared.numbers.TheConstants.{MAXPATHLEN}
use Rattle.lib_os.specs.declared.place.Step.TheVariants as step
use Rattle.lib_os.specs.declared.service.Service.{Service}
use Rattle.lib_os.specs.declared.service.Service.TheVariants as service
use Rattle.lib_os.specs.AbstractState.{AbstractState, Born, gathering}
use Rattle.lib_os.specs.AbstractSpawn.{address_gathered, spawn_step}
use Rattle.lib_os.specs.Answers.{bytes_gathered, refused}
use Rattle.lib_os.specs.Fence.{in_fence, is_inside}
use Rattle.lib_os.specs.FileServices.{is_nul, open_asked, path_step, remove_asked}
use Rattle.lib_os.specs.LibraryCall.{library_step}
use Rattle.lib_os.specs.LibraryPages.{View}
use Rattle.lib_os.specs.StandsFor.{IsGatheringPath, IsTakingPath, StandsAtStep, refuses_next}
use Rattle.lib_os.specs.StandsInHandler.{HasNoEnd, buffer_of, may_follow, stage_with, takes_path}
use Rattle.lib_os.proofs.Fences.{inside_below}
use Rattle.lib_os.proofs.PathServices.{path_gathering, path_given}

-- ---- whether another byte may follow

both : (t u : Bool) → (t && u) ≡ true → (t ≡ true) × (u ≡ true)
both true true is = (refl, refl)
both true false is = absurd (let contradiction : false ≡ true = is in cc)
both false u is = absurd (let contradiction : false ≡ true = is in cc)

pub follows_fewer : (path done : ℕ) → may_follow path done ≡ true → done < MAXPATHLEN
follows_fewer path done is = let it = (both (nat_lt done MAXPATHLEN) (is_inside (path + done)) is).0 in grind (arith, nat_tests, it)

pub follows_inside : (path done : ℕ) → may_follow path done ≡ true → is_inside (path + done) ≡ true
follows_inside path done is = (both (nat_lt done MAXPATHLEN) (is_inside (path + done)) is).1

-- by the bytes that are taken, whose number is kept
pub taking_follows : (v : View) (k : Slot) (b : Born) (s : Service) (done : ℕ) → IsTakingPath v k b s done → may_follow (buffer_of s) done ≡ true
taking_follows v k b s done h = ap (may_follow (buffer_of s)) (sym h.many) ∙ h.wants.follows

-- it is about to take the next, where the page of that doesn't refuse it
pub gathers_path : (v : View) (k : Slot) (b : Born) (s : Service) (done : ℕ) → IsTakingPath v k b s done →
    refuses_next v.row s done ≡ false → StandsAtStep v k b s (step.Gathering done)
gathers_path v k b s done h free =
    path_gathering v k b s (path_given s h.wants.takes) done
    (subst (λ (t : Bool). IsGatheringPath t v k b s done) (sym (taking_follows v k b s done h)) (h, free))

-- ---- the abstract system's step

module _ (a : AbstractState) (n : ℕ) (b : Born) (regs : Regs) where
  -- what is done when the path is taken
  abbrev pub next_asked : Service → List ℕ → Option AbstractState
  next_asked (service.OpenFile path mode) = open_asked a n b regs (service.OpenFile path mode) mode
  next_asked (service.Spawn path argv) = λ name. address_gathered a n b regs (service.Spawn path argv) argv name [] []
  next_asked s = remove_asked a n b s

  pub path_stepped : (s : Service) → takes_path s ≡ true → (bytes : List ℕ) →
      library_step a n b regs s (stage_with bytes) ≡ path_step a n b regs s (buffer_of s) bytes (next_asked s)
  unfolding library_step spawn_step
  path_stepped (service.Remove path) is [] = refl
  path_stepped (service.Remove path) is (byte ∷ rest) = refl
  path_stepped (service.OpenFile path mode) is [] = rw is refl
  path_stepped (service.OpenFile path mode) is (byte ∷ rest) = refl
  path_stepped (service.Spawn path argv) is [] = refl
  path_stepped (service.Spawn path argv) is (byte ∷ rest) = refl
  path_stepped _ is bytes = absurd (false≢true is)

module _ (a : AbstractState) (n : ℕ) (b : Born) (regs : Regs) (call : Service) (path : ℕ) (bytes : List ℕ) (next : List ℕ → Option AbstractState) where
  -- the next bytes are taken
  pub path_gathers : HasNoEnd bytes → may_follow path (length bytes) ≡ true →
      path_step a n b regs call path bytes next
      ≡ Some (bytes_gathered a n b regs call (path + length bytes) (MAXPATHLEN - length bytes) (λ more. gathering (bytes ++ more)))
  path_gathers none follows =
      let no_end : nat_lt (position_or_len is_nul bytes) (length bytes) ≡ false = grind (arith, nat_tests, none) in
      let fewer = follows_fewer path (length bytes) follows in
      let long : nat_le MAXPATHLEN (length bytes) ≡ false = grind (arith, nat_tests, fewer) in
      let inside = follows_inside path (length bytes) follows in
      let below = inside_below (path + length bytes) inside in
      let small : (path + length bytes) % 2 ^ 32 ≡ path + length bytes = omega (arith, below) in
      rw (no_end, long, small, inside) refl

  -- its end is among them
  pub path_ends : position_or_len is_nul bytes < length bytes →
      path_step a n b regs call path bytes next ≡ next (before_first is_nul bytes)
  path_ends ended =
      let has_end : nat_lt (position_or_len is_nul bytes) (length bytes) ≡ true = grind (arith, nat_tests, ended) in
      rw has_end refl

  -- so many have no end
  pub path_is_long : HasNoEnd bytes → MAXPATHLEN ≤ length bytes → path_step a n b regs call path bytes next ≡ Some (refused a n b regs E_BAD_PATH)
  path_is_long none many =
      let no_end : nat_lt (position_or_len is_nul bytes) (length bytes) ≡ false = grind (arith, nat_tests, none) in
      let long : nat_le MAXPATHLEN (length bytes) ≡ true = grind (arith, nat_tests, many) in
      rw (no_end, long) refl

  -- the next lies where a program may not touch it
  pub path_leaves_fence : HasNoEnd bytes → length bytes < MAXPATHLEN → in_fence ((path + length bytes) % 2 ^ 32) 1 ≡ false →
      path_step a n b regs call path bytes next ≡ Some (refused a n b regs E_INVAL)
  path_leaves_fence none fewer outside =
      let no_end : nat_lt (position_or_len is_nul bytes) (length bytes) ≡ false = grind (arith, nat_tests, none) in
      let long : nat_le MAXPATHLEN (length bytes) ≡ false = grind (arith, nat_tests, fewer) in
      rw (no_end, long, outside) refl
