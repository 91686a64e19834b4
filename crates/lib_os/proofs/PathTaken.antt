-- A service that is given a path takes a page of its own at UTEMP, in which it keeps the bytes of that. Nothing of it is seen in the abstract system, so that the
-- kernel's state goes on standing for the same one.
use Rattle.std.proofs.Common.{◌≡◌, ◌∙◌, ◌+◌, ℕ, true, false, Some, [], refl, sym, ap, arith}
use Rattle.jos_base.specs.declared.numbers.TheConstants.{UTEMP}
use Rattle.jos_base.specs.KernelState.{KernelState, slot_at, with_extra, with_refusal, with_spaces}
use Rattle.jos_base.specs.SpacesState.{SpacesState}
use Rattle.lib_os.specs.declared.place.Place.TheVariants as place
use Rattle.lib_os.specs.declared.place.Step.{Step}
use Rattle.lib_os.specs.declared.place.Step.TheVariants as step
use Rattle.lib_os.specs.declared.progress.Progress.TheVariants as progress
use Rattle.lib_os.specs.declared.service.Service.{Service}
use Rattle.lib_os.specs.AbstractState.{AbstractState, entered}
use Rattle.lib_os.specs.Fence.{is_inside}
use Rattle.lib_os.specs.InOrder.{IsInOrder}
use Rattle.lib_os.specs.LibrarySteps.{KeepsStanding, service_answered}
use Rattle.lib_os.specs.Places.{place_of, words_at}
use Rattle.lib_os.specs.Rows.{Names}
use Rattle.lib_os.specs.InService.{IsIn}
use Rattle.lib_os.specs.StandsFor.{IsTakingPath, StandsFor, borne_in, view_of}
use Rattle.lib_os.specs.StandsInHandler.{buffer_of, may_follow}
use Rattle.lib_os.proofs.Calls.{PageMade, refusal_is_seen}
use Rattle.lib_os.proofs.Effects.{Made}
use Rattle.lib_os.proofs.Numbered.{named_at, number_of}
use Rattle.lib_os.proofs.PageTaken.{take_asked, taken_none, taken_own, taken_puts, taken_row, taken_tables, working_page, working_perm, working_stands}
use Rattle.lib_os.proofs.PathServices.{has_path, path_before, path_unborne, path_works, taking_path, path_holds}
use Rattle.lib_os.proofs.PipesStand.{is_calm}
use Rattle.lib_os.proofs.Placing.{allocated_made}
use Rattle.lib_os.proofs.Serving.{IsServed, served, others_kept, kept_alone}
use Rattle.lib_os.proofs.WordsTell.{place_at}

module _ {names : Names} {s : KernelState} {a : AbstractState} {sp : SpacesState} (h : StandsFor names s a) (n : ℕ) (call : Service)
    (takes : has_path call ≡ true) (stands : place_of (slot_at s n) ≡ place.InService call step.TakingPage)
    (made : Made s.spaces sp (slot_at s n).directory working_page working_perm) (in_order : IsInOrder (with_spaces s sp))
    (last : s.last ≡ Some n) where
  abbrev to : Step
  to = step.BufferRegion 0 0

  v : IsServed names s a n call step.TakingPage
  v = served h n call step.TakingPage stands

  is_in : IsIn (slot_at s n) v.b call entered
  is_in = (taking_path (view_of s.spaces (slot_at s n).directory) (slot_at s n) v.b call takes v.at).0

  begins : is_inside (buffer_of call) ≡ true
  begins = (taking_path (view_of s.spaces (slot_at s n).directory) (slot_at s n) v.b call takes v.at).2

  -- it stands before the first byte of its path, of which nothing is taken
  taken_at : IsTakingPath (view_of sp (slot_at s n).directory) (record (slot_at s n) { extra = words_at (number_of call) to }) v.b call 0
  taken_at = record {
    bytes = [];
    program = is_in.program;
    wants = record { takes = (taking_path (view_of s.spaces (slot_at s n).directory) (slot_at s n) v.b call takes v.at).1; phase = is_in.phase; no_end = refl; follows = follows };
    many = refl;
    kept = taken_none h n v.b v.is made;
    silent = is_in.silent;
    awake = is_in.awake;
  }
    where
      follows : may_follow (buffer_of call) 0 ≡ true
      follows = let first : buffer_of call + 0 ≡ buffer_of call = omega arith in ap is_inside first ∙ begins

  pub path_page_stands : StandsFor names (with_extra (with_spaces s sp) n (words_at (number_of call) to)) a
  path_page_stands =
      working_stands h n v.b v.is v.own v.outside (ap borne_in v.place ∙ path_unborne call takes step.TakingPage refl) (ap is_calm v.place)
      (taken_puts h n v.b v.is made) last (slot_at s n).registers (words_at (number_of call) to) (place.InService call to)
      (place_at (slot_at s n).registers (number_of call) to v.outside
      ∙ ap (λ (x : Service). place.InService x to) (named_at (slot_at s n) call step.TakingPage v.place))
      refl (path_unborne call takes to refl) refl
      (ap others_kept v.place ∙ kept_alone (path_holds call takes step.TakingPage refl) ∙ sym (kept_alone (path_holds call takes to refl))) refl refl
      (λ is. taken_own h n v.b v.is made)
      (λ is. absurd (let contradiction : true ≡ false = sym (path_works call takes to refl (words_at (number_of call) to)) ∙ is in cc))
      (taken_tables h n v.b v.is made)
      (path_before (view_of sp (slot_at s n).directory) (record (slot_at s n) { extra = words_at (number_of call) to }) v.b call takes 0 0 (taken_at, tt))
      (taken_row h n v.b v.is made) in_order

-- ---- what the step comes to

-- the page is there, and the service goes on
pub path_taking_keeps : (s : KernelState) (n : ℕ) (call : Service) → has_path call ≡ true → place_of (slot_at s n) ≡ place.InService call step.TakingPage →
    (made : PageMade s n UTEMP working_perm (take_asked s n)) → IsInOrder (with_spaces s made.spaces) →
    KeepsStanding progress.Hidden n s (with_extra (with_spaces s made.spaces) n (words_at (number_of call) (step.BufferRegion 0 0))) []
path_taking_keeps s n call takes stands made in_order a h turn quiet = (
  refl,
  (
    h.0,
    path_page_stands h.1 n call takes stands
        (allocated_made s.spaces made.spaces (slot_at s n).directory working_page working_perm made.frame h.1.in_order.frames in_order.frames refl made.is)
        in_order turn.last,
  ),
)

-- it was refused, of which nothing is said
pub path_untaken_keeps : (s : KernelState) (n word : ℕ) → KeepsStanding progress.Finished n s (service_answered (with_refusal s) n word) []
path_untaken_keeps s n word a h turn quiet = absurd (refusal_is_seen s (record { stays = quiet.stays; could = quiet.could }))
