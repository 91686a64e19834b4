-- write of a file takes a page of its own at UTEMP, for its bytes and what else its request tells. Nothing of it is seen in the abstract system, so
-- that the kernel's state goes on standing for the same one.
use Rattle.std.proofs.Common.{◌≡◌, ◌≢◌, ◌∙◌, ◌==◌, ℕ, Bool, true, false, [], None, Some, refl, sym, ap, subst, arith, if◌then◌else◌}
use Rattle.std.proofs.lemmas.Bool.Decides.{nat_tests}
use Rattle.jos_base.specs.declared.numbers.TheConstants.{UTEMP}
use Rattle.jos_base.specs.Environments.{Slot}
use Rattle.jos_base.specs.KernelState.{KernelState, slot_at, with_extra, with_spaces}
use Rattle.jos_base.specs.SpacesState.{SpacesState}
use Rattle.lib_os.specs.declared.numbers.TheConstants.{REQUEST_BYTES, SERVICE_WRITE}
use Rattle.lib_os.specs.declared.place.Place.TheVariants as place
use Rattle.lib_os.specs.declared.place.Step.{Step}
use Rattle.lib_os.specs.declared.place.Step.TheVariants as step
use Rattle.lib_os.specs.declared.progress.Progress.TheVariants as progress
use Rattle.lib_os.specs.declared.service.Service.{Service}
use Rattle.lib_os.specs.declared.service.Service.TheVariants as service
use Rattle.lib_os.specs.AbstractState.{AbstractState, entered}
use Rattle.lib_os.specs.DescriptorPages.{device_of, mode_of}
use Rattle.lib_os.specs.InOrder.{IsInOrder}
use Rattle.lib_os.specs.LibraryPages.{keeps_page}
use Rattle.lib_os.specs.LibrarySteps.{KeepsStanding}
use Rattle.lib_os.specs.Places.{place_of, words_at}
use Rattle.lib_os.specs.Rows.{Names, descriptor_page}
use Rattle.lib_os.specs.InService.{IsIn}
use Rattle.lib_os.specs.StandsFor.{StandsAtStep, StandsFor, borne_in, view_of}
use Rattle.lib_os.specs.StandsInHandler.{BeginsAt, IsGivenBytes, IsWritableFile, in_file, in_pipe, on_console}
use Rattle.lib_os.proofs.Calls.{PageMade}
use Rattle.lib_os.proofs.Effects.{Made}
use Rattle.lib_os.proofs.Numbered.{named_at}
use Rattle.lib_os.proofs.PagesStand.{Puts}
use Rattle.lib_os.proofs.PageTaken.{take_asked, taken_none_from, taken_own, taken_puts, taken_row, taken_tables, working_beside, working_page}
use Rattle.lib_os.proofs.PageTaken.{working_perm, working_stands}
use Rattle.lib_os.proofs.PipesStand.{is_calm, is_calm_step}
use Rattle.lib_os.proofs.Placing.{allocated_made}
use Rattle.lib_os.proofs.Serving.{IsServed, served, others_kept}
use Rattle.lib_os.proofs.WordsTell.{place_at}

-- where it goes on: where no bytes are wanted its page has them all
abbrev pub step_taken : ℕ → Step
step_taken len = if len == 0 then step.ReadingNumber else step.BufferRegion 0 REQUEST_BYTES

pub taken_keeps_page : (len : ℕ) → keeps_page (step_taken len) ≡ true
taken_keeps_page len = by_len (len == 0)
  where
    by_len : (t : Bool) → keeps_page (if t then step.ReadingNumber else step.BufferRegion 0 REQUEST_BYTES) ≡ true
    by_len true = refl
    by_len false = refl

module _ {names : Names} {s : KernelState} {a : AbstractState} {sp : SpacesState} (h : StandsFor names s a) (n fd va len : ℕ)
    (stands : place_of (slot_at s n) ≡ place.InService (service.Write fd va len) step.TakingRequest)
    (made : Made s.spaces sp (slot_at s n).directory working_page working_perm) (in_order : IsInOrder (with_spaces s sp))
    (last : s.last ≡ Some n) where
  abbrev call : Service
  call = service.Write fd va len

  abbrev home : ℕ
  home = (slot_at s n).directory

  abbrev moved : Step → Slot
  moved to = record (slot_at s n) { extra = words_at SERVICE_WRITE to }

  v : IsServed names s a n (service.Write fd va len) step.TakingRequest
  v = served h n (service.Write fd va len) step.TakingRequest stands

  is_in : IsIn (slot_at s n) v.b (service.Write fd va len) entered
  is_in = let at = v.at in at.0

  given : IsGivenBytes (view_of s.spaces home) fd va len REQUEST_BYTES
  given = let at = v.at in at.1

  file_is : IsWritableFile (view_of s.spaces home) fd
  file_is = by_start given.begins
    where
      by_start : BeginsAt (view_of s.spaces home) fd REQUEST_BYTES → IsWritableFile (view_of s.spaces home) fd
      by_start (on_console is console) = absurd (omega (arith, is))
      by_start (in_file is it) = it
      by_start (in_pipe is it) = absurd (omega (arith, is))

  puts : Puts names names s.spaces sp home working_page (Some (record { frame = made.frame; perm = working_perm }))
  puts = taken_puts h n v.b v.is made

  beside : descriptor_page fd ≢ working_page
  beside same = let below = given.below in absurd (omega (arith, same, below))

  -- what the descriptor's page tells is what it told
  same_page : sp.pages file_is.file.entry.frame ≡ s.spaces.pages file_is.file.entry.frame
  same_page = puts.bytes home (descriptor_page fd) file_is.file.entry (λ same too. beside too) file_is.file.stands

  file_still : IsWritableFile (view_of sp home) fd
  file_still = record {
    file = record {
      entry = file_is.file.entry;
      stands = working_beside puts (descriptor_page fd) beside ∙ file_is.file.stands;
      device = ap device_of same_page ∙ file_is.file.device;
    };
    writable = subst (λ (mode : ℕ). mode ≢ 0) (sym (ap mode_of same_page)) file_is.writable;
  }

  given_still : IsGivenBytes (view_of sp home) fd va len REQUEST_BYTES
  given_still = record { below = given.below; begins = in_file refl file_still; buffer = given.buffer }

  in_still : (to : Step) → IsIn (moved to) v.b (service.Write fd va len) entered
  in_still to = record { program = is_in.program; phase = is_in.phase; silent = is_in.silent; awake = is_in.awake }

  goes_to : (to : Step) → keeps_page to ≡ true → borne_in (place.InService (service.Write fd va len) to) ≡ None → is_calm_step to ≡ true →
      StandsAtStep (view_of sp home) (moved to) v.b (service.Write fd va len) to →
      StandsFor names (with_extra (with_spaces s sp) n (words_at SERVICE_WRITE to)) a
  goes_to to keeps unborne calm so =
      working_stands h n v.b v.is v.own v.outside (ap borne_in v.place) (ap is_calm v.place) puts last (slot_at s n).registers (words_at SERVICE_WRITE to)
      (place.InService call to)
      (place_at (slot_at s n).registers SERVICE_WRITE to v.outside
      ∙ ap (λ (x : Service). place.InService x to) (named_at (slot_at s n) call step.TakingRequest v.place))
      refl unborne calm (ap others_kept v.place) refl refl (λ working. taken_own h n v.b v.is made)
      (λ none. absurd (let contradiction : true ≡ false = sym keeps ∙ none in cc)) (taken_tables h n v.b v.is made) so (taken_row h n v.b v.is made)
      in_order

  -- the page has no bytes yet
  pub request_page_stands : StandsFor names (with_extra (with_spaces s sp) n (words_at SERVICE_WRITE (step_taken len))) a
  request_page_stands = by_len (len == 0) refl
    where
      by_len : (t : Bool) → (len == 0) ≡ t → StandsFor names (with_extra (with_spaces s sp) n
          (words_at SERVICE_WRITE (if t then step.ReadingNumber else step.BufferRegion 0 REQUEST_BYTES))) a
      by_len true test =
          let none : len ≡ 0 = grind (arith, nat_tests) in
          goes_to step.ReadingNumber refl refl refl (record {
            stage = entered;
            of_file = record { is_in = in_still step.ReadingNumber; below = given.below; file = file_still.file };
            allowed = file_still.writable;
            has = record {
              bytes = [];
              stage_is = refl;
              buffer = given.buffer;
              many = omega (arith, none);
              kept = taken_none_from h n v.b v.is made REQUEST_BYTES;
            };
          })
      by_len false test =
          let some : len ≢ 0 = grind (arith, nat_tests) in
          goes_to (step.BufferRegion 0 REQUEST_BYTES) refl refl refl (
            record {
              bytes = [];
              program = is_in.program;
              wants = record { phase = is_in.phase; given = given_still; fewer = omega (arith, some) };
              many = refl;
              kept = taken_none_from h n v.b v.is made REQUEST_BYTES;
              silent = is_in.silent;
              awake = is_in.awake;
            },
            tt,
          )

-- ---- what the step comes to

pub request_taking_keeps : (s : KernelState) (n fd va len : ℕ) →
    place_of (slot_at s n) ≡ place.InService (service.Write fd va len) step.TakingRequest →
    (made : PageMade s n UTEMP working_perm (take_asked s n)) → IsInOrder (with_spaces s made.spaces) →
    KeepsStanding progress.Hidden n s (with_extra (with_spaces s made.spaces) n (words_at SERVICE_WRITE (step_taken len))) []
request_taking_keeps s n fd va len stands made in_order a h turn quiet = (
  refl,
  (
    h.0,
    request_page_stands h.1 n fd va len stands
        (allocated_made s.spaces made.spaces (slot_at s n).directory working_page working_perm made.frame h.1.in_order.frames in_order.frames refl made.is)
        in_order turn.last,
  ),
)
