-- One that has put all bytes of a file gives its page back, and goes back to its program with the answer. In the abstract system its program goes
-- on already, so that the kernel's state goes on standing for the same abstract one, and fewer hidden steps are left.
use Rattle.std.proofs.Common.{◌≡◌, ◌∙◌, inl, ◌<◌, ◌*◌, ◌+◌, ℕ, true, false, [], None, Some, Ok, refl, sym, ap, subst, arith}
use Rattle.jos_base.specs.declared.registers.Regs.{Regs}
use Rattle.jos_base.specs.Environments.{Slot, no_extra}
use Rattle.jos_base.specs.KernelState.{KernelState, slot_at, with_spaces}
use Rattle.jos_base.specs.SpacesState.{SpacesState}
use Rattle.lib_os.specs.declared.place.Place.{Place}
use Rattle.lib_os.specs.declared.place.Place.TheVariants as place
use Rattle.lib_os.specs.declared.place.Step.{Step}
use Rattle.lib_os.specs.declared.place.Step.TheVariants as step
use Rattle.lib_os.specs.declared.progress.Progress.TheVariants as progress
use Rattle.lib_os.specs.declared.service.Service.{Service}
use Rattle.lib_os.specs.declared.service.Service.TheVariants as service
use Rattle.lib_os.specs.AbstractState.{AbstractState}
use Rattle.lib_os.specs.InOrder.{IsInOrder}
use Rattle.lib_os.specs.LibrarySteps.{KeepsStanding, Lowers, copies_left, copy_steps, hidden_left, left_at, service_answered}
use Rattle.lib_os.specs.Places.{place_of}
use Rattle.lib_os.specs.Rows.{Names, rows_of}
use Rattle.lib_os.specs.StandsFor.{HasReturned, StandsFor, borne_in, goes_back}
use Rattle.lib_os.specs.StandsInHandler.{IsAtGuest}
use Rattle.lib_os.proofs.Effects.{Removed}
use Rattle.lib_os.proofs.PageGiven.{give_removes, given_copies, given_puts, given_row, given_tables, without_working}
use Rattle.lib_os.proofs.PageTaken.{working_page, working_stands}
use Rattle.lib_os.proofs.PipesStand.{is_calm}
use Rattle.lib_os.proofs.Serving.{IsServed, served, words_of_none, others_kept}
use Rattle.lib_os.proofs.Slots.{slot_put}
use Rattle.lib_os.proofs.WordsTell.{outside_stack}

-- who goes back to its program bears no child
back_unborne : (s : Service) → goes_back s ≡ true → (at : Step) → borne_in (place.InService s at) ≡ None
back_unborne (service.Read fd va len) goes at = refl
back_unborne (service.Write fd va len) goes at = refl
back_unborne (service.Stat fd va) goes at = refl
back_unborne _ goes at = absurd (let contradiction : false ≡ true = goes in cc)

-- nor does it keep others
back_alone : (s : Service) → goes_back s ≡ true → (at : Step) → others_kept (place.InService s at) ≡ (λ p. false)
back_alone (service.Read fd va len) goes at = refl
back_alone (service.Write fd va len) goes at = refl
back_alone (service.Stat fd va) goes at = refl
back_alone _ goes at = absurd (let contradiction : false ≡ true = goes in cc)

module _ {names : Names} {s : KernelState} {a : AbstractState} {sp : SpacesState} (h : StandsFor names s a) (n answer : ℕ) (call : Service)
    (stands : place_of (slot_at s n) ≡ place.InService call (step.Returning answer))
    (removed : Removed s.spaces sp (slot_at s n).directory working_page) (in_order : IsInOrder (with_spaces s sp)) (last : s.last ≡ Some n) where
  -- the registers of the program, with the answer
  abbrev regs : Regs
  regs = record (slot_at s n).registers { eax = answer }

  abbrev back : Slot
  back = record (slot_at s n) { registers = regs; extra = no_extra }

  v : IsServed names s a n call (step.Returning answer)
  v = served h n call (step.Returning answer) stands

  has : HasReturned (slot_at s n) v.b call answer
  has = v.at

  returned_at : IsAtGuest back v.b
  returned_at = record {
    program = has.program;
    phase = has.phase;
    words = refl;
    silent = has.silent;
    awake = has.awake;
  }

  pub returned_stands : StandsFor names (service_answered (with_spaces s sp) n answer) a
  returned_stands =
      working_stands h n v.b v.is v.own v.outside (ap borne_in v.place ∙ back_unborne call has.goes (step.Returning answer))
      (ap is_calm v.place) (given_puts h n v.b v.is removed) last regs no_extra place.Guest
      (words_of_none regs no_extra v.outside refl) refl refl refl (ap others_kept v.place ∙ back_alone call has.goes (step.Returning answer)) refl refl
      (λ is. absurd (let contradiction : false ≡ true = is in cc)) (λ is. refl)
      (given_tables h n v.b v.is removed) returned_at (given_row h n v.b v.is removed) in_order

-- ---- what the step comes to

module _ (s : KernelState) (n answer : ℕ) (call : Service) (stands : place_of (slot_at s n) ≡ place.InService call (step.Returning answer)) where
  abbrev after : KernelState
  after = service_answered (with_spaces s (without_working s n)) n answer

  pub returning_keeps : IsInOrder (with_spaces s (without_working s n)) → KeepsStanding progress.Hidden n s after []
  returning_keeps in_order a h turn quiet = (refl, (h.0, returned_stands h.1 n answer call stands (give_removes s n h.1) in_order turn.last))

  abbrev answered_slot : Slot
  answered_slot = record (slot_at s n) { registers = record (slot_at s n).registers { eax = answer }; extra = no_extra }

  slot_is : slot_at after n ≡ answered_slot
  slot_is = slot_put (with_spaces s (without_working s n)) n answered_slot

  -- it is at its program
  pub returned_place : place_of (slot_at after n) ≡ place.Guest
  returned_place =
      ap (λ (k : Slot). place_of k) slot_is
      ∙ words_of_none (record (slot_at s n).registers { eax = answer }) no_extra
      (outside_stack (slot_at s n).registers (slot_at s n).extra (place.InService call (step.Returning answer)) stands refl) refl

  -- and fewer steps are left
  pub returned_lower : hidden_left after n < hidden_left s n
  returned_lower =
      subst (λ (p : Place). left_at p (copies_left (rows_of after.spaces (slot_at after n).directory)) < hidden_left s n) (sym returned_place)
      (subst (λ (k : Slot). copy_steps * copies_left (rows_of after.spaces k.directory) < hidden_left s n) (sym slot_is)
      (subst (λ (p : Place). copy_steps * copies_left (rows_of after.spaces (slot_at s n).directory)
      < left_at p (copies_left (rows_of s.spaces (slot_at s n).directory))) (sym stands) less))
    where
      less : copy_steps * copies_left (rows_of (without_working s n) (slot_at s n).directory)
          < 1 + copy_steps * copies_left (rows_of s.spaces (slot_at s n).directory)
      less = let fewer = given_copies s n in omega (arith, fewer)

  pub returning_lowers : Lowers (Ok progress.Hidden) n s after
  returning_lowers a h turn quiet = inl returned_lower
