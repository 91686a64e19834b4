-- One that asked the file server with a page gives that back, once the reply has come: nobody sees it, and the word is read behind it.
use Rattle.std.proofs.Common.{◌≡◌, ◌∙◌, ◌||◌, ℕ, true, false, Some, [], List, refl, sym, ap}
use Rattle.jos_base.specs.Environments.{Slot, is_runnable, is_running}
use Rattle.jos_base.specs.KernelState.{KernelState, slot_at, with_extra, with_spaces}
use Rattle.jos_base.specs.SpacesState.{SpacesState}
use Rattle.lib_os.specs.declared.place.Place.TheVariants as place
use Rattle.lib_os.specs.declared.place.Step.TheVariants as step
use Rattle.lib_os.specs.declared.progress.Progress.TheVariants as progress
use Rattle.lib_os.specs.declared.service.Service.{Service}
use Rattle.lib_os.specs.AbstractState.{AbstractState}
use Rattle.lib_os.specs.InOrder.{IsInOrder}
use Rattle.lib_os.specs.LibraryPages.{has_working}
use Rattle.lib_os.specs.LibrarySteps.{KeepsStanding}
use Rattle.lib_os.specs.Places.{place_of, words_at}
use Rattle.lib_os.specs.Rows.{Names}
use Rattle.lib_os.specs.StandsFor.{AwaitsOrHas, HasReply, StandsFor, borne_in, view_of}
use Rattle.lib_os.proofs.Effects.{Removed}
use Rattle.lib_os.proofs.Numbered.{named_at, number_of}
use Rattle.lib_os.proofs.PageGiven.{give_removes, given_puts, given_row, given_tables, without_working}
use Rattle.lib_os.proofs.PageTaken.{working_page, working_stands}
use Rattle.lib_os.proofs.PipesStand.{is_calm}
use Rattle.lib_os.proofs.ReplyRead.{awake_reply}
use Rattle.lib_os.proofs.RequestPages.{asks_with_page, awaited_there, request_unborne, request_unheld, there_replied, request_alone}
use Rattle.lib_os.proofs.Serving.{IsServed, plain_working, served, others_kept, works}
use Rattle.lib_os.proofs.WordsTell.{place_at}

module _ {names : Names} {s : KernelState} {a : AbstractState} {sp : SpacesState} (h : StandsFor names s a) (n id : ℕ) (call : Service)
    (with_page : asks_with_page call ≡ true) (stands : place_of (slot_at s n) ≡ place.InService call (step.Clearing id))
    (runs : (is_runnable (slot_at s n).status || is_running (slot_at s n).status) ≡ true)
    (removed : Removed s.spaces sp (slot_at s n).directory working_page) (in_order : IsInOrder (with_spaces s sp))
    (last : s.last ≡ Some n) where
  abbrev d : ℕ
  d = (slot_at s n).directory

  abbrev words : List ℕ
  words = words_at (number_of call) (step.ReadingReply id)

  abbrev moved : Slot
  moved = record (slot_at s n) { extra = words }

  v : IsServed names s a n call (step.Clearing id)
  v = served h n call (step.Clearing id) stands

  waited : (id ≡ (slot_at s n).id) × AwaitsOrHas (slot_at s n) v.b call
  waited = awaited_there (view_of s.spaces (slot_at s n).directory) (slot_at s n) v.b call with_page id v.at

  -- it may run, so that the reply has come
  has : HasReply (slot_at s n) v.b call
  has = awake_reply (slot_at s n) v.b call v.own.runs runs waited.1

  still_has : HasReply moved v.b call
  still_has = record {
    regs = has.regs;
    program = has.program;
    registers = has.registers;
    phase = has.phase;
    awake = has.awake;
    silent = has.silent;
    small = has.small;
  }

  there : place_of moved ≡ place.InService call (step.ReadingReply id)
  there =
      place_at (slot_at s n).registers (number_of call) (step.ReadingReply id) v.outside
      ∙ ap (λ (x : Service). place.InService x (step.ReadingReply id)) (named_at (slot_at s n) call (step.Clearing id) stands)

  gone : has_working (place.InService call (step.ReadingReply id)) words ≡ false
  gone = works (plain_working (place.InService call (step.ReadingReply id)) words refl ∙ request_unheld call with_page id)

  pub page_cleared_stands : StandsFor names (with_extra (with_spaces s sp) n words) a
  page_cleared_stands =
      working_stands h n v.b v.is v.own v.outside (ap borne_in v.place ∙ request_unborne call with_page (step.Clearing id))
      (ap is_calm v.place) (given_puts h n v.b v.is removed) last (slot_at s n).registers words (place.InService call (step.ReadingReply id)) there refl
      (request_unborne call with_page (step.ReadingReply id)) refl
      (ap others_kept v.place ∙ request_alone call with_page (step.Clearing id) ∙ sym (request_alone call with_page (step.ReadingReply id))) refl refl
      (λ is. absurd (let contradiction : false ≡ true = sym gone ∙ is in cc)) (λ is. refl) (given_tables h n v.b v.is removed)
      (there_replied (view_of sp (slot_at s n).directory) moved v.b call with_page id (waited.0, still_has)) (given_row h n v.b v.is removed) in_order

-- what the step comes to
pub clearing_keeps : (s : KernelState) (n id : ℕ) (call : Service) → asks_with_page call ≡ true →
    place_of (slot_at s n) ≡ place.InService call (step.Clearing id) →
    (is_runnable (slot_at s n).status || is_running (slot_at s n).status) ≡ true → IsInOrder (with_spaces s (without_working s n)) →
    KeepsStanding progress.Hidden n s (with_extra (with_spaces s (without_working s n)) n (words_at (number_of call) (step.ReadingReply id))) []
clearing_keeps s n id call with_page stands runs in_order a h turn quiet =
    (refl, (h.0, page_cleared_stands h.1 n id call with_page stands runs (give_removes s n h.1) in_order turn.last))
