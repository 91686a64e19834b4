-- A service refuses the path that it is given: where that begins outside of what a program may touch, at once; and where its bytes, none of which is the end, are
-- too many, or lead out of there, as it gives back the page that has them.
use Rattle.std.proofs.Common.{◌≡◌, ◌∙◌, ◌+◌, ◌%◌, ◌^◌, ◌<◌, ◌≤◌, ◌&&◌, ℕ, Bool, true, false, List, [], length, Some, refl, sym, ap, subst}
use Rattle.std.proofs.Common.{arith, if◌then◌else◌}
use Rattle.std.specs.Prelude.{nat_le, nat_lt}
use Rattle.std.proofs.lemmas.Bool.{false≢true}
use Rattle.std.proofs.lemmas.Bool.Decides.{nat_tests}
use Rattle.jos_base.specs.declared.numbers.TheConstants.{E_BAD_PATH, E_INVAL}
use Rattle.jos_base.specs.declared.registers.Regs.{Regs}
use Rattle.jos_base.specs.Environments.{no_extra}
use Rattle.jos_base.specs.KernelState.{KernelState, slot_at, with_extra, with_spaces}
use Rattle.jos_base.specs.SpacesState.{SpacesState}
use Rattle.jos_base.specs.Words.{negated}
use Rattle.fs_layout.specs.declared.numbers.TheConstants.{MAXPATHLEN}
use Rattle.lib_os.specs.declared.numbers.TheConstants.{SERVICE_SPAWN}
use Rattle.lib_os.specs.declared.place.Place.TheVariants as place
use Rattle.lib_os.specs.declared.place.Step.{Step}
use Rattle.lib_os.specs.declared.place.Step.TheVariants as step
use Rattle.lib_os.specs.declared.progress.Progress.TheVariants as progress
use Rattle.lib_os.specs.declared.service.Service.{Service}
use Rattle.lib_os.specs.declared.service.Service.TheVariants as service
use Rattle.lib_os.specs.AbstractRun.{abs_step}
use Rattle.lib_os.specs.AbstractState.{AbstractState, Born, entered}
use Rattle.lib_os.specs.Answers.{refused}
use Rattle.lib_os.specs.Fence.{in_fence, is_inside}
use Rattle.lib_os.specs.FileServices.{path_step}
use Rattle.lib_os.specs.InOrder.{IsInOrder}
use Rattle.lib_os.specs.LibraryCall.{library_step}
use Rattle.lib_os.specs.LibrarySteps.{KeepsStanding, service_answered}
use Rattle.lib_os.specs.Places.{place_of, words_at}
use Rattle.lib_os.specs.Rows.{Names}
use Rattle.lib_os.specs.Services.{is_built, named_service, service_of}
use Rattle.lib_os.specs.InService.{IsIn}
use Rattle.lib_os.specs.StandsFor.{IsGatheringPath, IsRefusingPath, StandsFor, borne_in, view_of}
use Rattle.lib_os.specs.StandsInHandler.{AreSmall, HasNoEnd, buffer_of, may_follow, stage_with, takes_path}
use Rattle.lib_os.proofs.Answering.{back_stands}
use Rattle.lib_os.proofs.Effects.{Removed}
use Rattle.lib_os.proofs.GoingOn.{in_with_words, words_stand}
use Rattle.lib_os.proofs.Numbered.{named_at, number_of}
use Rattle.lib_os.proofs.PageGiven.{give_removes, given_puts, given_row, given_tables, without_working}
use Rattle.lib_os.proofs.PageTaken.{working_back, working_page}
use Rattle.lib_os.proofs.Paths.{next_asked, path_is_long, path_leaves_fence, path_stepped}
use Rattle.lib_os.proofs.PathServices.{gathering_path, has_path, path_given, path_holds, path_taking, path_unborne}
use Rattle.lib_os.proofs.PipesStand.{is_calm}
use Rattle.lib_os.proofs.Serving.{IsServed, holds_page, printed_nothing, served, step_in, words_of_none, others_kept, kept_alone}

-- ---- the path

-- the word of it
abbrev path_of : Service → ℕ
path_of (service.Remove path) = path
path_of (service.OpenFile path mode) = path
path_of (service.Spawn path argv) = path
path_of _ = 0

path_register : (r : Regs) (call : Service) → has_path call ≡ true → service_of (record r { eax = number_of call }) ≡ call → r.edx ≡ buffer_of call
unfolding service_of named_service
path_register r (service.Remove path) takes is = ap path_of is
path_register r (service.OpenFile path mode) takes is = ap path_of is
path_register r (service.Spawn path argv) takes is = by_built (is_built SERVICE_SPAWN) is
  where
    by_built : (c : Bool) → (if c then named_service (record r { eax = SERVICE_SPAWN }) else service.Unknown) ≡ service.Spawn path argv → r.edx ≡ path
    by_built true is = ap path_of is
    by_built false is = let contradiction : service.Unknown ≡ service.Spawn path argv = is in absurd cc
path_register r _ takes is = absurd (false≢true takes)

-- what is given is a word
pub path_small : (s : KernelState) (n : ℕ) (call : Service) → has_path call ≡ true → (at : Step) → place_of (slot_at s n) ≡ place.InService call at →
    AreSmall (slot_at s n).registers → buffer_of call < 2 ^ 32
path_small s n call takes at stands small =
    let is = path_register (slot_at s n).registers call takes (named_at (slot_at s n) call at stands) in
    let low = small.edx in omega (arith, is, low)

-- none of the lowest addresses may be touched, where those end that wrap
outside_low : (va : ℕ) → va < 2048 → is_inside va ≡ false
unfolding in_fence
outside_low va low = grind (arith, nat_tests)

-- so that a byte which may not be touched may not where its address wraps
pub leaves_fence : (path done : ℕ) → path < 2 ^ 32 → done ≤ MAXPATHLEN → is_inside (path + done) ≡ false → in_fence ((path + done) % 2 ^ 32) 1 ≡ false
leaves_fence path done small few off = by_wrap (nat_lt (path + done) (2 ^ 32)) refl
  where
    by_wrap : (c : Bool) → nat_lt (path + done) (2 ^ 32) ≡ c → in_fence ((path + done) % 2 ^ 32) 1 ≡ false
    by_wrap true test =
        let below : path + done < 2 ^ 32 = grind (arith, nat_tests) in
        let same : (path + done) % 2 ^ 32 ≡ path + done = omega (arith, below) in ap is_inside same ∙ off
    by_wrap false test =
        let past : 2 ^ 32 ≤ path + done = grind (arith, nat_tests) in
        outside_low ((path + done) % 2 ^ 32) (omega (arith, past, small, few))

-- by what it is refused behind so many bytes
abbrev pub path_error : ℕ → ℕ
path_error done = if nat_le MAXPATHLEN done then E_BAD_PATH else E_INVAL

-- ---- the step of the abstract system

-- none may follow, so that it refuses
path_refused : (a : AbstractState) (n : ℕ) (b : Born) (regs : Regs) (call : Service) → takes_path call ≡ true → (bytes : List ℕ) → buffer_of call < 2 ^ 32 →
    HasNoEnd bytes → length bytes ≤ MAXPATHLEN → may_follow (buffer_of call) (length bytes) ≡ false →
    library_step a n b regs call (stage_with bytes) ≡ Some (refused a n b regs (path_error (length bytes)))
path_refused a n b regs call takes bytes small none few ends =
    path_stepped a n b regs call takes bytes ∙ by_many (nat_le MAXPATHLEN (length bytes)) refl
  where
    by_many : (c : Bool) → nat_le MAXPATHLEN (length bytes) ≡ c →
        path_step a n b regs call (buffer_of call) bytes (next_asked a n b regs call) ≡ Some (refused a n b regs (if c then E_BAD_PATH else E_INVAL))
    by_many true test =
        path_is_long a n b regs call (buffer_of call) bytes (next_asked a n b regs call) none (grind (arith, nat_tests))
    by_many false test =
        let fewer : length bytes < MAXPATHLEN = grind (arith, nat_tests) in
        let lower : nat_lt (length bytes) MAXPATHLEN ≡ true = grind (arith, nat_tests) in
        let off : is_inside (buffer_of call + length bytes) ≡ false = ap (λ (c : Bool). c && is_inside (buffer_of call + length bytes)) (sym lower) ∙ ends in
        path_leaves_fence a n b regs call (buffer_of call) bytes (next_asked a n b regs call) none fewer (leaves_fence (buffer_of call) (length bytes) small few off)

-- ---- where it begins

module _ (s : KernelState) (n : ℕ) (call : Service) (takes : takes_path call ≡ true)
    (stands : place_of (slot_at s n) ≡ place.InService call step.Entered) where
  -- it begins where a program may touch, and is about to be taken
  pub path_enters : is_inside (buffer_of call) ≡ true → KeepsStanding progress.Hidden n s (with_extra s n (words_at (number_of call) step.TakingPage)) []
  path_enters inside a h turn quiet =
      let v = served h.1 n call step.Entered stands in
      let here : IsIn (slot_at s n) v.b call entered = v.at in
      let words = words_at (number_of call) step.TakingPage in (
        refl,
        (
          h.0,
          words_stand h.1 n (number_of call) v.b v.is v.own v.outside (ap borne_in v.place ∙ path_unborne call (path_given call takes) step.Entered refl)
              (ap is_calm v.place) call step.TakingPage
              (ap holds_page v.place ∙ path_holds call (path_given call takes) step.Entered refl ∙ sym (path_holds call (path_given call takes) step.TakingPage refl))
              (path_unborne call (path_given call takes) step.TakingPage refl) refl (named_at (slot_at s n) call step.Entered stands)
              (path_taking (view_of s.spaces (slot_at s n).directory) (record (slot_at s n) { extra = words }) v.b call (path_given call takes)
              (in_with_words words here, takes, inside)),
        ),
      )

  -- it does not
  pub path_enters_not : AreSmall (slot_at s n).registers → is_inside (buffer_of call) ≡ false →
      KeepsStanding progress.Finished n s (service_answered s n (negated E_INVAL)) []
  path_enters_not small off a h turn quiet =
      let v = served h.1 n call step.Entered stands in
      let here : IsIn (slot_at s n) v.b call entered = v.at in
      let first : buffer_of call + 0 ≡ buffer_of call = omega arith in (
        refused a n v.b (slot_at s n).registers E_INVAL,
        step_in a n v.b (slot_at s n) call entered v.is here
            ∙ path_refused a n v.b (slot_at s n).registers call takes [] (path_small s n call (path_given call takes) step.Entered stands small) refl (omega arith)
            (ap is_inside first ∙ off),
        printed_nothing a,
        (
          h.0,
          back_stands h.1 n v.b v.is (record (slot_at s n).registers { eax = negated E_INVAL })
              (ap borne_in v.place ∙ path_unborne call (path_given call takes) step.Entered refl) (ap holds_page v.place ∙ path_holds call (path_given call takes) step.Entered refl)
              (ap is_calm v.place) here.silent here.awake v.outside refl refl,
        ),
      )

-- ---- behind some of its bytes

module _ {names : Names} {s : KernelState} {a : AbstractState} {sp : SpacesState} (h : StandsFor names s a) (n : ℕ) (call : Service)
    (takes : has_path call ≡ true) (done : ℕ) (stands : place_of (slot_at s n) ≡ place.InService call (step.Gathering done))
    (ends : may_follow (buffer_of call) done ≡ false)
    (removed : Removed s.spaces sp (slot_at s n).directory working_page) (in_order : IsInOrder (with_spaces s sp))
    (last : s.last ≡ Some n) where
  abbrev d : ℕ
  d = (slot_at s n).directory

  abbrev answer : ℕ
  answer = negated (path_error done)

  abbrev regs : Regs
  regs = record (slot_at s n).registers { eax = answer }

  v : IsServed names s a n call (step.Gathering done)
  v = served h n call (step.Gathering done) stands

  it : IsRefusingPath (slot_at s n) v.b call done
  it =
      subst (λ (t : Bool). IsGatheringPath t (view_of s.spaces d) (slot_at s n) v.b call done) ends
      (gathering_path (view_of s.spaces d) (slot_at s n) v.b call takes done v.at)

  refused_step : AreSmall (slot_at s n).registers → abs_step a n ≡ Some (refused a n v.b (slot_at s n).registers (path_error done))
  refused_step small =
      let many = it.many in
      let few = it.few in
      step_in a n v.b (slot_at s n) call (stage_with it.bytes) v.is it.is_in
      ∙ path_refused a n v.b (slot_at s n).registers call it.takes it.bytes (path_small s n call takes (step.Gathering done) stands small) it.no_end
      (omega (arith, many, few)) (ap (may_follow (buffer_of call)) it.many ∙ it.ends)
      ∙ ap (λ (m : ℕ). Some (refused a n v.b (slot_at s n).registers (path_error m))) it.many

  refused_stands : StandsFor names (service_answered (with_spaces s sp) n answer) (refused a n v.b (slot_at s n).registers (path_error done))
  refused_stands =
      working_back h n v.b v.is v.own v.outside (ap borne_in v.place ∙ path_unborne call takes (step.Gathering done) refl) (ap is_calm v.place)
      (given_puts h n v.b v.is removed) last regs no_extra place.Guest
      (words_of_none regs no_extra v.outside refl) refl refl refl
      (ap others_kept v.place ∙ kept_alone (path_holds call takes (step.Gathering done) refl)) refl refl refl it.is_in.silent it.is_in.awake refl refl
      (given_tables h n v.b v.is removed) (given_row h n v.b v.is removed) in_order

-- what the step comes to
pub path_refused_keeps : (s : KernelState) (n : ℕ) (call : Service) → has_path call ≡ true → (done : ℕ) → place_of (slot_at s n) ≡ place.InService call (step.Gathering done) →
    AreSmall (slot_at s n).registers → may_follow (buffer_of call) done ≡ false → IsInOrder (with_spaces s (without_working s n)) →
    KeepsStanding progress.Finished n s (service_answered (with_spaces s (without_working s n)) n (negated (path_error done))) []
path_refused_keeps s n call takes done stands small ends in_order a h turn quiet = (
  _,
  refused_step h.1 n call takes done stands ends (give_removes s n h.1) in_order turn.last small,
  printed_nothing a,
  (h.0, refused_stands h.1 n call takes done stands ends (give_removes s n h.1) in_order turn.last),
)
