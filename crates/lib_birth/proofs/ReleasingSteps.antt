-- The law of spawn as it gives back the page of its child's stack, which is the child's by then, that of the program headers, and that of its requests.
use Rattle.std.proofs.Common.{◌≡◌, ◌≢◌, ◌∙◌, ◌==◌, ◌&&◌, ◌||◌, ℕ, Bool, true, false, [], ◌∷◌, refl, sym, ap, subst, arith}
use Rattle.std.proofs.lemmas.Bool.{false≢true}
use Rattle.std.proofs.lemmas.Bool.Decides.{nat_tests}
use Rattle.std.proofs.lemmas.Option.{same_Some}
use Rattle.jos_base.specs.declared.called.Called.{Called}
use Rattle.jos_base.specs.declared.numbers.TheConstants.{SYS_PAGE_UNMAP, UTEMP}
use Rattle.jos_base.specs.Environments.{is_live}
use Rattle.jos_base.specs.KernelState.{KernelState, slot_at, with_extra, with_spaces}
use Rattle.jos_base.specs.Reach.{Entry}
use Rattle.jos_base.specs.Words.{page_number}
use Rattle.lib_os.specs.declared.numbers.TheConstants.{SPAWN_GIVEN, SPAWN_HERE, SPAWN_STACK}
use Rattle.lib_os.specs.declared.place.Place.{Place}
use Rattle.lib_os.specs.declared.place.Step.TheVariants as step
use Rattle.lib_os.specs.declared.progress.Progress.TheVariants as progress
use Rattle.lib_os.specs.declared.service.Service.TheVariants as service
use Rattle.lib_os.specs.declared.spawn_steps.FinishingStep.{FinishingStep}
use Rattle.lib_os.specs.declared.spawn_steps.FinishingStep.TheVariants as finishing
use Rattle.lib_os.specs.declared.spawn_steps.SpawnStep.{SpawnStep}
use Rattle.lib_os.specs.declared.spawn_steps.SpawnStep.TheVariants as spawn
use Rattle.lib_os.specs.InOrder.{IsInOrder}
use Rattle.lib_os.specs.LibraryPages.{IsOwnWritable, has_spawns, has_working}
use Rattle.lib_os.specs.LibrarySteps.{KeepsStanding}
use Rattle.lib_os.specs.Places.{place_of}
use Rattle.lib_os.specs.Rows.{is_shared, rows_of}
use Rattle.lib_os.specs.StandsAtSpawn.{HasAllBytes}
use Rattle.lib_os.specs.UserCalls.{CallStep}
use Rattle.lib_os.proofs.KeptPages.{LiesAside, number_aside}
use Rattle.lib_os.proofs.PageTaken.{working_no_descriptor, working_outside}
use Rattle.lib_os.proofs.Removing.{unmapped_removed}
use Rattle.lib_os.proofs.SpawnKeeps.{none_childs}
use Rattle.lib_os.proofs.SpawnOwnPages.{spawn_there, spawn_words, spawns_at}
use Rattle.lib_os.proofs.SpawnPagesTaken.{page_given_is, without_page}
use Rattle.lib_os.proofs.SpawnReleases.{all_bytes_aside, released_stands}
use Rattle.lib_stage.specs.ServiceSteps.{Plan, ServiceHolds}
use Rattle.lib_stage.proofs.Laws.{KeepsBy, law_of_call, plainly}
use Rattle.lib_birth.specs.declared.stage.BirthStage.TheVariants as stage
use Rattle.lib_birth.specs.BirthStages.{births}
use Rattle.lib_birth.proofs.UndoingSteps.{gives_lives}

-- ---- the pages

other_number : (q p : ℕ) → q ≢ p → (q == p) ≡ false
other_number q p other = grind (arith, nat_tests, other)

stack_alone : (c d e : Bool) → d ≡ false → ((c && true) || (d && true) || (e && false)) ≡ ((c && true) || (d && false) || (e && false))
stack_alone c false e off = refl
stack_alone c true e off = absurd (false≢true (sym off))

given_alone : (c d e : Bool) → c ≡ false → ((c && true) || (d && false) || (e && false)) ≡ ((c && false) || (d && false) || (e && false))
given_alone false d e off = refl
given_alone true d e off = absurd (false≢true (sym off))

only_stack : (c d : Bool) → d ≡ false → ((c && false) || (d && true)) ≡ false
only_stack true false off = refl
only_stack false false off = refl
only_stack c true off = absurd (false≢true (sym off))

module _ (s : KernelState) (n path argv : ℕ) (live : is_live (slot_at s n) ≡ true) (fd child : ℕ) where
  abbrev home : ℕ
  home = (slot_at s n).directory

  abbrev at : FinishingStep → SpawnStep
  at it = spawn.Finishing it

  abbrev plan : FinishingStep → Plan
  plan it = births (stage.Finishing it)

  abbrev stack_step : FinishingStep
  stack_step = finishing.ReleasingStack fd child

  abbrev given_step : FinishingStep
  given_step = finishing.ReleasingGiven fd child

  abbrev path_step : FinishingStep
  path_step = finishing.ReleasingPath fd child

  abbrev last_step : FinishingStep
  last_step = finishing.DroppingFile fd child

  -- ---- that of the stack

  module _ (stands : place_of (slot_at s n) ≡ spawns_at path argv (spawn.Finishing (finishing.ReleasingStack fd child))) where
    abbrev number : ℕ
    number = page_number SPAWN_STACK

    stack_keeps : IsInOrder (with_spaces s (without_page s n SPAWN_STACK refl)) →
        KeepsStanding progress.Hidden n s (with_extra (with_spaces s (without_page s n SPAWN_STACK refl)) n (spawn_words (at given_step))) []
    stack_keeps order a h turn quiet =
        let it = spawn_there h.1 n path argv (at stack_step) stands in
        let has : HasAllBytes _ (slot_at s n) it.b path argv fd child = it.at in
        let aside : LiesAside number = number_aside number refl in
        let removed = unmapped_removed s.spaces home number h.1.in_order.frames in
        let page : IsOwnWritable (rows_of s.spaces home) number =
        it.own.library.spawns number (ap (λ (q : Place). has_spawns q (slot_at s n).extra number) stands) in (
          refl,
          (
            h.0,
            released_stands h.1 n path argv child (at stack_step) (at given_step) stands refl refl number aside.outside aside.no_descriptor
                (λ same. aside.no_stack (sym same)) (λ same. aside.no_copy (sym same)) removed (λ ne. refl) (λ is same. absurd (omega (arith, same)))
                (λ q other. stack_alone (q == page_number SPAWN_GIVEN) (q == number) (q == page_number SPAWN_HERE) (other_number q number other)) refl
                (λ x is. ap (λ (e : Entry). is_shared e.perm) (same_Some x page.entry (sym is ∙ page.stands)) ∙ page.own_page)
                (λ q other. only_stack (q == page_number SPAWN_HERE) (q == number) (other_number q number other))
                (λ q. none_childs (q == page_number SPAWN_HERE) (q == number)) (λ m progress is. is) turn.last order
                (λ beside. all_bytes_aside (spawn_words (at given_step)) beside aside.no_descriptor has),
          ),
        )

    pub releasing_stack_holds : ServiceHolds s n (births (stage.Finishing (finishing.ReleasingStack fd child)))
    releasing_stack_holds =
        law_of_call s n (plan stack_step) (service.Spawn path argv) (step.Spawning (at stack_step))
        (record {
          stands = stands;
          live = live;
          numbered = refl;
          plain = plainly refl;
          goes_on = refl;
          falls = λ called. omega arith;
          few = omega arith;
        })
        SYS_PAGE_UNMAP (0 ∷ SPAWN_STACK ∷ 0 ∷ 0 ∷ 0 ∷ []) refl refl (gives_lives s n SPAWN_STACK refl live)
        (subst (λ (z : CallStep Called). IsInOrder z.state → KeepsBy s n (plan stack_step) z) (sym (page_given_is s n SPAWN_STACK refl live)) stack_keeps)

  -- ---- that of the program headers

  module _ (stands : place_of (slot_at s n) ≡ spawns_at path argv (spawn.Finishing (finishing.ReleasingGiven fd child))) where
    abbrev given_number : ℕ
    given_number = page_number SPAWN_GIVEN

    given_keeps : IsInOrder (with_spaces s (without_page s n SPAWN_GIVEN refl)) →
        KeepsStanding progress.Hidden n s (with_extra (with_spaces s (without_page s n SPAWN_GIVEN refl)) n (spawn_words (at path_step))) []
    given_keeps order a h turn quiet =
        let it = spawn_there h.1 n path argv (at given_step) stands in
        let has : HasAllBytes _ (slot_at s n) it.b path argv fd child = it.at in
        let aside : LiesAside given_number = number_aside given_number refl in
        let removed = unmapped_removed s.spaces home given_number h.1.in_order.frames in
        let page : IsOwnWritable (rows_of s.spaces home) given_number =
        it.own.library.spawns given_number (ap (λ (q : Place). has_spawns q (slot_at s n).extra given_number) stands) in (
          refl,
          (
            h.0,
            released_stands h.1 n path argv child (at given_step) (at path_step) stands refl refl given_number aside.outside aside.no_descriptor
                (λ same. aside.no_stack (sym same)) (λ same. aside.no_copy (sym same)) removed (λ ne. refl) (λ is same. absurd (omega (arith, same)))
                (λ q other. given_alone (q == given_number) (q == page_number SPAWN_STACK) (q == page_number SPAWN_HERE) (other_number q given_number other)) refl
                (λ x is. ap (λ (e : Entry). is_shared e.perm) (same_Some x page.entry (sym is ∙ page.stands)) ∙ page.own_page)
                (λ q other. none_childs (q == page_number SPAWN_HERE) (q == page_number SPAWN_STACK))
                (λ q. none_childs (q == page_number SPAWN_HERE) (q == page_number SPAWN_STACK)) (λ m progress is. is) turn.last order
                (λ beside. all_bytes_aside (spawn_words (at path_step)) beside aside.no_descriptor has),
          ),
        )

    pub releasing_given_holds : ServiceHolds s n (births (stage.Finishing (finishing.ReleasingGiven fd child)))
    releasing_given_holds =
        law_of_call s n (plan given_step) (service.Spawn path argv) (step.Spawning (at given_step))
        (record {
          stands = stands;
          live = live;
          numbered = refl;
          plain = plainly refl;
          goes_on = refl;
          falls = λ called. omega arith;
          few = omega arith;
        })
        SYS_PAGE_UNMAP (0 ∷ SPAWN_GIVEN ∷ 0 ∷ 0 ∷ 0 ∷ []) refl refl (gives_lives s n SPAWN_GIVEN refl live)
        (subst (λ (z : CallStep Called). IsInOrder z.state → KeepsBy s n (plan given_step) z) (sym (page_given_is s n SPAWN_GIVEN refl live)) given_keeps)

  -- ---- that of its requests

  module _ (stands : place_of (slot_at s n) ≡ spawns_at path argv (spawn.Finishing (finishing.ReleasingPath fd child))) where
    abbrev path_number : ℕ
    path_number = page_number UTEMP

    path_keeps : IsInOrder (with_spaces s (without_page s n UTEMP refl)) →
        KeepsStanding progress.Hidden n s (with_extra (with_spaces s (without_page s n UTEMP refl)) n (spawn_words (at last_step))) []
    path_keeps order a h turn quiet =
        let it = spawn_there h.1 n path argv (at path_step) stands in
        let has : HasAllBytes _ (slot_at s n) it.b path argv fd child = it.at in
        let removed = unmapped_removed s.spaces home path_number h.1.in_order.frames in
        let page : IsOwnWritable (rows_of s.spaces home) path_number =
        it.own.library.working (ap (λ (q : Place). has_working q (slot_at s n).extra) stands) in (
          refl,
          (
            h.0,
            released_stands h.1 n path argv child (at path_step) (at last_step) stands refl refl path_number working_outside working_no_descriptor
                (λ same. absurd (omega (arith, same))) (λ same. absurd (omega (arith, same))) removed (λ ne. absurd (ne refl))
                (λ is. absurd (false≢true is)) (λ q other. refl) refl
                (λ x is. ap (λ (e : Entry). is_shared e.perm) (same_Some x page.entry (sym is ∙ page.stands)) ∙ page.own_page)
                (λ q other. none_childs (q == page_number SPAWN_HERE) (q == page_number SPAWN_STACK))
                (λ q. none_childs (q == page_number SPAWN_HERE) (q == page_number SPAWN_STACK)) (λ m progress is. is) turn.last order
                (λ beside. all_bytes_aside (spawn_words (at last_step)) beside working_no_descriptor has),
          ),
        )

    pub releasing_path_holds : ServiceHolds s n (births (stage.Finishing (finishing.ReleasingPath fd child)))
    releasing_path_holds =
        law_of_call s n (plan path_step) (service.Spawn path argv) (step.Spawning (at path_step))
        (record {
          stands = stands;
          live = live;
          numbered = refl;
          plain = plainly refl;
          goes_on = refl;
          falls = λ called. omega arith;
          few = omega arith;
        })
        SYS_PAGE_UNMAP (0 ∷ UTEMP ∷ 0 ∷ 0 ∷ 0 ∷ []) refl refl (gives_lives s n UTEMP refl live)
        (subst (λ (z : CallStep Called). IsInOrder z.state → KeepsBy s n (plan path_step) z) (sym (page_given_is s n UTEMP refl live)) path_keeps)
