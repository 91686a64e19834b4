-- The law of write when its page has all bytes: it prints them, as its step in the abstract system does; and then it gives its page back, which
-- nobody sees.
use Rattle.std.proofs.Common.{◌≡◌, ◌≤◌, ◌++◌, ℕ, true, false, List, [], ◌∷◌, Ok, Some, refl, sym, ap, subst, arith}
use Rattle.std.proofs.Math.Nat.{min-le_right}
use Rattle.jos_base.specs.declared.called.Called.{Called}
use Rattle.jos_base.specs.declared.called.Called.TheVariants.{Answered, Blocked, Ended}
use Rattle.jos_base.specs.declared.numbers.TheConstants.{CPUTS_MAX, SYS_CPUTS, UTEMP}
use Rattle.jos_base.specs.Environments.{is_live}
use Rattle.jos_base.specs.KernelState.{KernelState, slot_at, with_spaces}
use Rattle.lib_os.specs.declared.numbers.TheConstants.{TRANSFER_MAX}
use Rattle.lib_os.specs.declared.place.Place.TheVariants as place
use Rattle.lib_os.specs.declared.place.Step.TheVariants as step
use Rattle.lib_os.specs.declared.service.Service.{Service}
use Rattle.lib_os.specs.declared.service.Service.TheVariants as service
use Rattle.lib_os.specs.AbstractRun.{abs_step}
use Rattle.lib_os.specs.AbstractState.{AbstractState}
use Rattle.lib_os.specs.InOrder.{IsInOrder}
use Rattle.lib_os.specs.LibrarySteps.{Lowers}
use Rattle.lib_os.specs.Places.{place_of}
use Rattle.lib_os.specs.StandsInHandler.{wanted_of}
use Rattle.lib_os.specs.UserCalls.{CallStep, giving, got, system}
use Rattle.lib_os.proofs.BytesPrinted.{IsPrinted, PrintedOn, cputs_goes_on, prints_bytes}
use Rattle.lib_os.proofs.FileReturned.{returning_keeps, returning_lowers}
use Rattle.lib_os.proofs.PageGiven.{give_asked, give_is, give_lives, releasing_keeps, releasing_lowers, without_working}
use Rattle.lib_stage.specs.Asks.{performed}
use Rattle.lib_stage.specs.Nexts.{is_gone}
use Rattle.lib_stage.specs.ServiceSteps.{Plan, ServiceHolds, upshot_by}
use Rattle.lib_stage.proofs.Laws.{FailsBy, Falls, FollowsBy, GoesOn, IsAt, KeepsBy, StandsThere, law_of, law_with, plainly, system_never}
use Rattle.lib_write.specs.declared.write.WriteStage.TheVariants as stage
use Rattle.lib_write.specs.WriteStages.{writing}

module _ (s : KernelState) (n fd va len : ℕ) (live : is_live (slot_at s n) ≡ true) where
  abbrev write : Service
  write = service.Write fd va len

  -- ---- it prints

  module _ (stands : place_of (slot_at s n) ≡ place.InService (service.Write fd va len) step.Printing) where
    abbrev printing : Plan
    printing = writing (record { fd = fd; va = va; len = len; at = stage.Printing })

    abbrev rest : List ℕ
    rest = 0 ∷ 0 ∷ 0 ∷ []

    abbrev printed : CallStep Called
    printed = system s n SYS_CPUTS (UTEMP ∷ wanted_of len ∷ 0 ∷ 0 ∷ 0 ∷ [])

    printing_falls : (called : Called) → Falls write step.Printing (printing.next called)
    printing_falls (Answered word) = tt
    printing_falls Ended = tt
    printing_falls Blocked = tt

    printing_at : IsAt s n printing write step.Printing
    printing_at = record {
      stands = stands;
      live = live;
      numbered = refl;
      plain = plainly refl;
      goes_on = refl;
      falls = printing_falls;
      few = omega arith;
    }

    few : wanted_of len ≤ CPUTS_MAX
    few = min-le_right len TRANSFER_MAX

    goes_by : (called : Called) → printed.gives ≡ got called → is_gone (printing.next called) ≡ false → PrintedOn printed n (slot_at s n).registers
    goes_by (Answered word) is stays = cputs_goes_on s n UTEMP (wanted_of len) rest live few word is
    goes_by Ended is stays = absurd (let contradiction : true ≡ false = stays in cc)
    goes_by Blocked is stays = absurd (let contradiction : true ≡ false = stays in cc)

    printing_goes : GoesOn s n printing printed
    printing_goes = record {
      live = λ called is stays. (goes_by called is stays).live;
      registers = λ called is stays. (goes_by called is stays).registers;
    }

    printing_keeps : IsInOrder printed.state → KeepsBy s n printing printed
    printing_keeps order a h turn quiet =
        let it : IsPrinted s a n len (0 ∷ 0 ∷ 0 ∷ []) = prints_bytes h.1 n fd va len stands (0 ∷ 0 ∷ 0 ∷ []) in
        subst (λ (z : CallStep Called). FollowsBy s n printing a z) (sym it.step_is)
        (it.goes (subst (λ (t : KernelState). IsInOrder t) (ap (λ (z : CallStep Called). z.state) it.step_is) order))

    printing_fails : FailsBy s n printing printed
    printing_fails may a h turn =
        let it : IsPrinted s a n len (0 ∷ 0 ∷ 0 ∷ []) = prints_bytes h.1 n fd va len stands (0 ∷ 0 ∷ 0 ∷ []) in
        subst (λ (bytes : List ℕ). (b : AbstractState) × (abs_step a n ≡ Some b) × (b.console ≡ a.console ++ bytes))
        (sym (ap (λ (z : CallStep Called). z.written) it.step_is)) it.fails

    pub printing_holds : ServiceHolds s n (writing (record { fd = fd; va = va; len = len; at = stage.Printing }))
    unfolding performed
    printing_holds =
        law_of s n printing write step.Printing printing_at printing_goes
        (system_never s n SYS_CPUTS (UTEMP ∷ wanted_of len ∷ 0 ∷ 0 ∷ 0 ∷ [])) printing_keeps printing_fails

  -- ---- it gives its page back

  module _ (stands : place_of (slot_at s n) ≡ place.InService (service.Write fd va len) step.Releasing) where
    abbrev releasing : Plan
    releasing = writing (record { fd = fd; va = va; len = len; at = stage.Releasing })

    abbrev given : CallStep Called
    given = giving (with_spaces s (without_working s n)) (Answered 0)

    there : StandsThere s n releasing write step.Releasing
    there = record { stands = stands; plain = plainly refl; goes_on = refl; few = omega arith }

    given_keeps : IsInOrder (give_asked s n).state → KeepsBy s n releasing (give_asked s n)
    given_keeps =
        subst (λ (z : CallStep Called). IsInOrder z.state → KeepsBy s n releasing z) (sym (give_is s n live))
        (λ order. releasing_keeps s n fd va len stands order)

    given_lowers : let did = upshot_by releasing n (give_asked s n) (give_asked s n).gives in Lowers (Ok did.progress) n s did.state
    given_lowers =
        subst (λ (z : CallStep Called). let did = upshot_by releasing n z z.gives in Lowers (Ok did.progress) n s did.state)
        (sym (give_is s n live)) (releasing_lowers s n fd va len stands)

    pub releasing_holds : ServiceHolds s n (writing (record { fd = fd; va = va; len = len; at = stage.Releasing }))
    unfolding performed
    releasing_holds =
        law_with s n releasing write step.Releasing there (λ called is stays. (give_lives s n live).live) given_keeps
        (λ may a h turn. absurd (let contradiction : false ≡ true = may.0 in cc)) given_lowers

  -- ---- it gives back the page from which the bytes of a pipe were put

  module _ (answer : ℕ) (stands : place_of (slot_at s n) ≡ place.InService (service.Write fd va len) (step.Returning answer)) where
    abbrev returning : Plan
    returning = writing (record { fd = fd; va = va; len = len; at = stage.Returning answer })

    back_there : StandsThere s n returning write (step.Returning answer)
    back_there = record { stands = stands; plain = plainly refl; goes_on = refl; few = omega arith }

    back_keeps : IsInOrder (give_asked s n).state → KeepsBy s n returning (give_asked s n)
    back_keeps =
        subst (λ (z : CallStep Called). IsInOrder z.state → KeepsBy s n returning z) (sym (give_is s n live))
        (λ order. returning_keeps s n answer write stands order)

    back_lowers : let did = upshot_by returning n (give_asked s n) (give_asked s n).gives in Lowers (Ok did.progress) n s did.state
    back_lowers =
        subst (λ (z : CallStep Called). let did = upshot_by returning n z z.gives in Lowers (Ok did.progress) n s did.state)
        (sym (give_is s n live)) (returning_lowers s n answer write stands)

    pub returning_holds : ServiceHolds s n (writing (record { fd = fd; va = va; len = len; at = stage.Returning answer }))
    unfolding performed
    returning_holds =
        law_with s n returning write (step.Returning answer) back_there (λ called is stays. (give_lives s n live).live) back_keeps
        (λ may a h turn. absurd (let contradiction : false ≡ true = may.0 in cc)) back_lowers
