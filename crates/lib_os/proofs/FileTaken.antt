-- seek and set_size take a page of their own at UTEMP, for their request. Nothing of it is seen in the abstract system, so that the kernel's state
-- goes on standing for the same one.
use Rattle.std.proofs.Common.{◌≡◌, ◌≢◌, ◌∙◌, ℕ, true, false, [], None, Some, refl, sym, ap, subst, arith}
use Rattle.std.proofs.lemmas.Bool.{false≢true}
use Rattle.jos_base.specs.declared.numbers.TheConstants.{UTEMP}
use Rattle.jos_base.specs.Environments.{Slot}
use Rattle.jos_base.specs.KernelState.{KernelState, slot_at, with_extra, with_spaces}
use Rattle.jos_base.specs.SpacesState.{SpacesState}
use Rattle.lib_os.specs.declared.place.Place.TheVariants as place
use Rattle.lib_os.specs.declared.place.Step.{Step}
use Rattle.lib_os.specs.declared.place.Step.TheVariants as step
use Rattle.lib_os.specs.declared.progress.Progress.TheVariants as progress
use Rattle.lib_os.specs.declared.service.Service.{Service}
use Rattle.lib_os.specs.declared.service.Service.TheVariants as service
use Rattle.lib_os.specs.AbstractState.{AbstractState, Stage}
use Rattle.lib_os.specs.DescriptorPages.{device_of, mode_of}
use Rattle.lib_os.specs.InOrder.{IsInOrder}
use Rattle.lib_os.specs.LibraryPages.{has_working}
use Rattle.lib_os.specs.LibrarySteps.{KeepsStanding}
use Rattle.lib_os.specs.Places.{place_of, words_at}
use Rattle.lib_os.specs.Rows.{Names, descriptor_page}
use Rattle.lib_os.specs.StandsFor.{AsksOfFile, HasForRequest, MayAskOf, StandsFor, borne_in, view_of}
use Rattle.lib_os.proofs.Calls.{PageMade}
use Rattle.lib_os.proofs.Effects.{Made}
use Rattle.lib_os.proofs.FileAsks.{asks_at_once, asks_reading, at_once_of_file, file_given, of_file_holds, of_file_with_page, taking_asks}
use Rattle.lib_os.proofs.Numbered.{named_at, number_of}
use Rattle.lib_os.proofs.PagesStand.{Puts}
use Rattle.lib_os.proofs.PageTaken.{take_asked, taken_own, taken_puts, taken_row, taken_tables, working_beside, working_page, working_perm, working_stands}
use Rattle.lib_os.proofs.PipesStand.{is_calm}
use Rattle.lib_os.proofs.Placing.{allocated_made}
use Rattle.lib_os.proofs.RequestPages.{in_moved, request_unborne, request_alone}
use Rattle.lib_os.proofs.Serving.{IsServed, plain_working, served, others_kept, works}
use Rattle.lib_os.proofs.WordsTell.{place_at}

module _ {names : Names} {s : KernelState} {a : AbstractState} {sp : SpacesState} (h : StandsFor names s a) (n : ℕ) (call : Service)
    (is : asks_at_once call ≡ true) (stands : place_of (slot_at s n) ≡ place.InService call step.TakingPage)
    (made : Made s.spaces sp (slot_at s n).directory working_page working_perm) (in_order : IsInOrder (with_spaces s sp))
    (last : s.last ≡ Some n) where
  abbrev to : Step
  to = step.ReadingNumber

  abbrev home : ℕ
  home = (slot_at s n).directory

  abbrev moved : Slot
  moved = record (slot_at s n) { extra = words_at (number_of call) to }

  v : IsServed names s a n call step.TakingPage
  v = served h n call step.TakingPage stands

  asks : AsksOfFile (view_of s.spaces home) (slot_at s n) v.b call (file_given call)
  asks = taking_asks (view_of s.spaces home) (slot_at s n) v.b call is v.at

  puts : Puts names names s.spaces sp home working_page (Some (record { frame = made.frame; perm = working_perm }))
  puts = taken_puts h n v.b v.is made

  beside : descriptor_page (file_given call) ≢ working_page
  beside same = let below = asks.of_file.below in absurd (omega (arith, same, below))

  -- what the descriptor's page tells is what it told
  same_page : sp.pages asks.of_file.file.entry.frame ≡ s.spaces.pages asks.of_file.file.entry.frame
  same_page = puts.bytes home (descriptor_page (file_given call)) asks.of_file.file.entry (λ same too. beside too) asks.of_file.file.stands

  -- it takes nothing for its request
  has_still : (asker : Service) → asks_at_once asker ≡ true → (stage : Stage) → HasForRequest (view_of s.spaces home) asker stage →
      HasForRequest (view_of sp home) asker stage
  has_still (service.Seek of offset) once stage had = had
  has_still (service.SetSize of size) once stage had = had
  has_still (service.Read of va len) once stage had = had
  has_still (service.Stat of va) once stage had = had
  has_still _ once stage had = absurd (false≢true once)

  asks_still : AsksOfFile (view_of sp home) moved v.b call (file_given call)
  asks_still = record {
    stage = asks.stage;
    of_file = record {
      is_in = in_moved (view_of s.spaces home) (slot_at s n) v.b (slot_at s n).status (words_at (number_of call) to) call asks.stage
          asks.of_file.is_in;
      below = asks.of_file.below;
      file = record {
        entry = asks.of_file.file.entry;
        stands = working_beside puts (descriptor_page (file_given call)) beside ∙ asks.of_file.file.stands;
        device = ap device_of same_page ∙ asks.of_file.file.device;
      };
    };
    allowed = subst (λ (mode : ℕ). MayAskOf call mode) (sym (ap mode_of same_page)) asks.allowed;
    has = has_still call is asks.stage asks.has;
  }

  unborne : (at : Step) → borne_in (place.InService call at) ≡ None
  unborne at = request_unborne call (of_file_with_page call (at_once_of_file call is)) at

  has : has_working (place.InService call to) (words_at (number_of call) to) ≡ true
  has = works (plain_working (place.InService call to) (words_at (number_of call) to) refl ∙ of_file_holds call (at_once_of_file call is) to refl)

  pub file_page_stands : StandsFor names (with_extra (with_spaces s sp) n (words_at (number_of call) step.ReadingNumber)) a
  file_page_stands =
      working_stands h n v.b v.is v.own v.outside (ap borne_in v.place ∙ unborne step.TakingPage) (ap is_calm v.place) puts last (slot_at s n).registers
      (words_at (number_of call) to) (place.InService call to)
      (place_at (slot_at s n).registers (number_of call) to v.outside
      ∙ ap (λ (x : Service). place.InService x to) (named_at (slot_at s n) call step.TakingPage v.place))
      refl (unborne to) refl
      (ap others_kept v.place ∙ request_alone call (of_file_with_page call (at_once_of_file call is)) step.TakingPage
      ∙ sym (request_alone call (of_file_with_page call (at_once_of_file call is)) to))
      refl refl (λ working. taken_own h n v.b v.is made)
      (λ none. absurd (let contradiction : true ≡ false = sym has ∙ none in cc)) (taken_tables h n v.b v.is made)
      (asks_reading (view_of sp home) moved v.b call (at_once_of_file call is) asks_still) (taken_row h n v.b v.is made) in_order

-- ---- what the step comes to

pub file_taking_keeps : (s : KernelState) (n : ℕ) (call : Service) → asks_at_once call ≡ true →
    place_of (slot_at s n) ≡ place.InService call step.TakingPage →
    (made : PageMade s n UTEMP working_perm (take_asked s n)) → IsInOrder (with_spaces s made.spaces) →
    KeepsStanding progress.Hidden n s (with_extra (with_spaces s made.spaces) n (words_at (number_of call) step.ReadingNumber)) []
file_taking_keeps s n call is stands made in_order a h turn quiet = (
  refl,
  (
    h.0,
    file_page_stands h.1 n call is stands
        (allocated_made s.spaces made.spaces (slot_at s n).directory working_page working_perm made.frame h.1.in_order.frames in_order.frames refl made.is)
        in_order turn.last,
  ),
)
