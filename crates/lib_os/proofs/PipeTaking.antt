-- Read and write on an end of a pipe take a page of their own at UTEMP for the bytes that they move. Nothing of it is seen in the abstract system.
-- (MIT 6.828, lab 5: lib/pipe.c.)
use Rattle.std.proofs.Common.{◌≡◌, ◌≢◌, ◌∙◌, ◌<◌, ℕ, true, false, [], Some, refl, sym, ap, arith}
use Rattle.jos_base.specs.declared.numbers.TheConstants.{PGSIZE, UTEMP}
use Rattle.lib_os.specs.declared.numbers.TheConstants.{DESCRIPTORS}
use Rattle.jos_base.specs.KernelState.{KernelState, slot_at, with_extra, with_spaces}
use Rattle.jos_base.specs.SpacesState.{SpacesState}
use Rattle.lib_os.specs.declared.place.PipeStep.TheVariants as pipe
use Rattle.lib_os.specs.declared.place.Place.TheVariants as place
use Rattle.lib_os.specs.declared.place.Step.{Step}
use Rattle.lib_os.specs.declared.place.Step.TheVariants as step
use Rattle.lib_os.specs.declared.progress.Progress.TheVariants as progress
use Rattle.lib_os.specs.declared.service.Service.{Service}
use Rattle.lib_os.specs.declared.service.Service.TheVariants as service
use Rattle.lib_os.specs.AbstractState.{AbstractState}
use Rattle.lib_os.specs.DescriptorPages.{device_of, mode_of}
use Rattle.lib_os.specs.InOrder.{IsInOrder}
use Rattle.lib_os.specs.LibrarySteps.{KeepsStanding}
use Rattle.lib_os.specs.Places.{place_of, words_at}
use Rattle.lib_os.specs.Rows.{Names, descriptor_page, is_of_descriptor, pipe_page}
use Rattle.lib_os.specs.StandsAtPipe.{IsReadingPipe}
use Rattle.lib_os.specs.StandsFor.{IsTaking, StandsFor, borne_in, view_of}
use Rattle.lib_os.specs.StandsInHandler.{IsEndOpen, in_pipe, wanted_from, wanted_of}
use Rattle.lib_os.proofs.Calls.{PageMade}
use Rattle.lib_os.proofs.DescriptorLooks.{is_descriptors}
use Rattle.lib_os.proofs.Effects.{Made}
use Rattle.lib_os.proofs.GoingOn.{in_with_words}
use Rattle.lib_os.proofs.Numbered.{named_at, number_of}
use Rattle.lib_os.proofs.PagesStand.{Puts}
use Rattle.lib_os.proofs.PageTaken.{take_asked, taken_none, taken_none_from, taken_own, taken_puts, taken_row, taken_tables, working_beside}
use Rattle.lib_os.proofs.PageTaken.{working_no_descriptor, working_page, working_perm, working_stands}
use Rattle.lib_os.proofs.PipeLoaded.{is_pipes}
use Rattle.lib_os.proofs.PipesStand.{is_calm}
use Rattle.lib_os.proofs.Placing.{allocated_made}
use Rattle.lib_os.proofs.Serving.{IsServed, served, others_kept}
use Rattle.lib_os.proofs.WordsTell.{place_at}

-- ---- an end is open as it was

module _ {names : Names} {s : KernelState} {a : AbstractState} {sp : SpacesState} (h : StandsFor names s a) (n : ℕ) (call : Service)
    (from : Step) (v : IsServed names s a n call from)
    (made : Made s.spaces sp (slot_at s n).directory working_page working_perm) where
  abbrev home : ℕ
  home = (slot_at s n).directory

  puts : Puts names names s.spaces sp home working_page (Some (record { frame = made.frame; perm = working_perm }))
  puts = taken_puts h n v.b v.is made

  beside : (q : ℕ) → is_of_descriptor q ≡ true → q ≢ working_page
  beside q is same = let contradiction : true ≡ false = sym is ∙ ap is_of_descriptor same ∙ working_no_descriptor in cc

  end_still : (fd mode : ℕ) → fd < DESCRIPTORS → IsEndOpen (view_of s.spaces home) fd mode → IsEndOpen (view_of sp home) fd mode
  end_still fd mode below open_end =
      let apart = beside (descriptor_page fd) (is_descriptors fd below) in
      let page_apart = beside (pipe_page fd) (is_pipes fd below) in
      let same : sp.pages open_end.entry.frame ≡ s.spaces.pages open_end.entry.frame =
      puts.bytes home (descriptor_page fd) open_end.entry (λ here too. apart too) open_end.stands in
      record {
        entry = open_end.entry;
        stands = working_beside puts (descriptor_page fd) apart ∙ open_end.stands;
        device = ap device_of same ∙ open_end.device;
        mode_is = ap mode_of same ∙ open_end.mode_is;
        page = open_end.page;
        lies = working_beside puts (pipe_page fd) page_apart ∙ open_end.lies;
      }

-- ---- read

module _ {names : Names} {s : KernelState} {a : AbstractState} {sp : SpacesState} (h : StandsFor names s a) (n fd va len : ℕ)
    (stands : place_of (slot_at s n) ≡ place.InService (service.Read fd va len) (step.Piped pipe.TakingBytes))
    (made : Made s.spaces sp (slot_at s n).directory working_page working_perm) (in_order : IsInOrder (with_spaces s sp))
    (last : s.last ≡ Some n) where
  abbrev reading : Service
  reading = service.Read fd va len

  abbrev locking : Step
  locking = step.Piped (pipe.Locking 0 0 0)

  abbrev r : IsServed names s a n reading (step.Piped pipe.TakingBytes)
  r = served h n reading (step.Piped pipe.TakingBytes) stands

  reads_at : IsReadingPipe (view_of sp (slot_at s n).directory) (record (slot_at s n) { extra = words_at (number_of reading) locking }) r.b fd va len 0
  reads_at = record {
    taken = [];
    is_in = in_with_words (words_at (number_of reading) locking) r.at.0.is_in;
    below = r.at.0.below;
    open_end = end_still h n reading (step.Piped pipe.TakingBytes) r made fd 0 r.at.0.below r.at.0.open_end;
    many = refl;
    inside = r.at.1;
    small = λ i. omega arith;
    kept = taken_none h n r.b r.is made;
  }

  pub read_page_stands : StandsFor names (with_extra (with_spaces s sp) n (words_at (number_of reading) locking)) a
  read_page_stands =
      working_stands h n r.b r.is r.own r.outside (ap borne_in r.place) (ap is_calm r.place) (taken_puts h n r.b r.is made) last
      (slot_at s n).registers (words_at (number_of reading) locking) (place.InService reading locking)
      (place_at (slot_at s n).registers (number_of reading) locking r.outside
      ∙ ap (λ (x : Service). place.InService x locking) (named_at (slot_at s n) reading (step.Piped pipe.TakingBytes) r.place))
      refl refl refl (ap others_kept r.place) refl refl (λ working. taken_own h n r.b r.is made)
      (λ none. absurd (let contradiction : true ≡ false = none in cc)) (taken_tables h n r.b r.is made)
      ((reads_at, r.at.2), tt) (taken_row h n r.b r.is made) in_order

-- ---- write

module _ {names : Names} {s : KernelState} {a : AbstractState} {sp : SpacesState} (h : StandsFor names s a) (n fd va len : ℕ)
    (stands : place_of (slot_at s n) ≡ place.InService (service.Write fd va len) (step.Piped pipe.TakingBytes))
    (made : Made s.spaces sp (slot_at s n).directory working_page working_perm) (in_order : IsInOrder (with_spaces s sp))
    (last : s.last ≡ Some n) where
  abbrev writing : Service
  writing = service.Write fd va len

  abbrev gathering : Step
  gathering = step.BufferRegion 0 PGSIZE

  abbrev w : IsServed names s a n writing (step.Piped pipe.TakingBytes)
  w = served h n writing (step.Piped pipe.TakingBytes) stands

  -- it takes as many as it wants
  wanted_same : wanted_from PGSIZE len ≡ wanted_of len
  wanted_same = refl

  writes_at : IsTaking (view_of sp (slot_at s n).directory) (record (slot_at s n) { extra = words_at (number_of writing) gathering }) w.b fd va len
      PGSIZE 0
  writes_at = record {
    bytes = [];
    program = w.at.0.is_in.program;
    wants = record {
      phase = w.at.0.is_in.phase;
      given = record {
        below = w.at.0.below;
        begins = in_pipe refl (end_still h n writing (step.Piped pipe.TakingBytes) w made fd 1 w.at.0.below w.at.0.open_end);
        buffer = w.at.1;
      };
      fewer = w.at.2;
    };
    many = refl;
    kept = taken_none_from h n w.b w.is made PGSIZE;
    silent = w.at.0.is_in.silent;
    awake = w.at.0.is_in.awake;
  }

  pub write_page_stands : StandsFor names (with_extra (with_spaces s sp) n (words_at (number_of writing) gathering)) a
  write_page_stands =
      working_stands h n w.b w.is w.own w.outside (ap borne_in w.place) (ap is_calm w.place) (taken_puts h n w.b w.is made) last
      (slot_at s n).registers (words_at (number_of writing) gathering) (place.InService writing gathering)
      (place_at (slot_at s n).registers (number_of writing) gathering w.outside
      ∙ ap (λ (x : Service). place.InService x gathering) (named_at (slot_at s n) writing (step.Piped pipe.TakingBytes) w.place))
      refl refl refl (ap others_kept w.place) refl refl (λ working. taken_own h n w.b w.is made)
      (λ none. absurd (let contradiction : true ≡ false = none in cc)) (taken_tables h n w.b w.is made)
      (writes_at, tt) (taken_row h n w.b w.is made) in_order

-- ---- what the step comes to

pub read_taking_keeps : (s : KernelState) (n fd va len : ℕ) →
    place_of (slot_at s n) ≡ place.InService (service.Read fd va len) (step.Piped pipe.TakingBytes) →
    (made : PageMade s n UTEMP working_perm (take_asked s n)) → IsInOrder (with_spaces s made.spaces) →
    KeepsStanding progress.Hidden n s
    (with_extra (with_spaces s made.spaces) n (words_at (number_of (service.Read fd va len)) (step.Piped (pipe.Locking 0 0 0)))) []
read_taking_keeps s n fd va len stands made in_order a h turn quiet = (
  refl,
  (
    h.0,
    read_page_stands h.1 n fd va len stands
        (allocated_made s.spaces made.spaces (slot_at s n).directory working_page working_perm made.frame h.1.in_order.frames in_order.frames refl made.is)
        in_order turn.last,
  ),
)

pub write_taking_keeps : (s : KernelState) (n fd va len : ℕ) →
    place_of (slot_at s n) ≡ place.InService (service.Write fd va len) (step.Piped pipe.TakingBytes) →
    (made : PageMade s n UTEMP working_perm (take_asked s n)) → IsInOrder (with_spaces s made.spaces) →
    KeepsStanding progress.Hidden n s
    (with_extra (with_spaces s made.spaces) n (words_at (number_of (service.Write fd va len)) (step.BufferRegion 0 PGSIZE))) []
write_taking_keeps s n fd va len stands made in_order a h turn quiet = (
  refl,
  (
    h.0,
    write_page_stands h.1 n fd va len stands
        (allocated_made s.spaces made.spaces (slot_at s n).directory working_page working_perm made.frame h.1.in_order.frames in_order.frames refl made.is)
        in_order turn.last,
  ),
)
