-- The first step of fork, which takes a slot and a directory for the child. It is one of the abstract system's, or fork is over, where
-- it was refused one of the two.
use Rattle.std.proofs.Common.{◌≡◌, ◌≢◌, ◌∙◌, ◌<◌, ◌^◌, ℕ, Bool, true, false, List, [], ◌∷◌, Ok, Some, refl, sym, ap, subst, arith, if◌then◌else◌}
use Rattle.std.proofs.lemmas.Bool.Decides.{nat_tests}
use Rattle.jos_base.specs.declared.called.Called.{Called}
use Rattle.jos_base.specs.declared.called.Called.TheVariants.{Answered}
use Rattle.jos_base.specs.declared.numbers.TheConstants.{SYS_EXOFORK, USTACKTOP}
use Rattle.jos_base.specs.declared.registers.Regs.{Regs}
use Rattle.jos_base.specs.Environments.{is_live}
use Rattle.jos_base.specs.KernelState.{KernelState, slot_at, with_extra, with_refusal}
use Rattle.lib_os.specs.declared.numbers.TheConstants.{SERVICE_FORK}
use Rattle.lib_os.specs.declared.place.Place.TheVariants as place
use Rattle.lib_os.specs.declared.place.Step.TheVariants as step
use Rattle.lib_os.specs.declared.service.Service.TheVariants as service
use Rattle.lib_os.specs.AbstractFork.{fork}
use Rattle.lib_os.specs.AbstractState.{AbstractState, Born, entered}
use Rattle.lib_os.specs.InOrder.{IsInOrder}
use Rattle.lib_os.specs.LibraryCall.{library_step}
use Rattle.lib_os.specs.LibraryPages.{region_index}
use Rattle.lib_os.specs.LibrarySteps.{AbstractFollows, GoesOn as StepGoesOn, Leaves, NothingRefused}
use Rattle.lib_os.specs.Places.{place_of, words_at}
use Rattle.lib_os.specs.StandsFor.{StandsFor, AreSlots}
use Rattle.lib_os.specs.UserCalls.{CallStep, got, giving, system}
use Rattle.lib_os.proofs.Calls.{refusal_is_seen}
use Rattle.lib_os.proofs.ForkBegun.{apart, begun_stands, fork_is}
use Rattle.lib_os.proofs.Forked.{begun, child_id, exofork_is, exofork_lives, given, next_id_small, no_frame, no_slot, slot_was_free}
use Rattle.lib_os.proofs.Serving.{printed_nothing, served, step_in}
use Rattle.lib_stage.specs.declared.ask.Next.{Next}
use Rattle.lib_stage.specs.declared.ask.Next.TheVariants as next
use Rattle.lib_stage.specs.declared.ask.Ask.TheVariants as ask
use Rattle.lib_stage.specs.Asks.{performed}
use Rattle.lib_stage.specs.Nexts.{settled, seen_as, is_gone}
use Rattle.lib_stage.specs.ServiceSteps.{Plan, ServiceHolds, upshot_by}
use Rattle.lib_stage.proofs.Laws.{FailsBy, FollowsBy, GoesOn, KeepsBy, asked_never, giving_goes, law_of, plain_leaves, plainly}
use Rattle.lib_fork.specs.declared.fork.ForkStage.TheVariants as stage
use Rattle.lib_fork.specs.ForkStages.{forking, is_error}
use Rattle.lib_fork.proofs.Falling.{fork_falls}

-- the abstract system's step
fork_step : (a : AbstractState) (n : ℕ) (b : Born) (regs : Regs) → library_step a n b regs service.Fork entered ≡ Some (fork a n b regs)
unfolding library_step
fork_step a n b regs = refl

-- the call
asked_is : (s : KernelState) (n : ℕ) → performed s n ask.Exofork ≡ system s n SYS_EXOFORK (given (slot_at s n).registers)
unfolding performed
asked_is s n = refl

abbrev pub beginning : Plan
beginning = forking (record { at = stage.Entered })

module _ (s : KernelState) (n : ℕ) (live : is_live (slot_at s n) ≡ true)
    (stands : place_of (slot_at s n) ≡ place.InService service.Fork step.Entered) where
  abbrev regs : Regs
  regs = (slot_at s n).registers

  abbrev asked : CallStep Called
  asked = system s n SYS_EXOFORK (given regs)

  -- what follows a word
  abbrev by_error : ℕ → Bool → Next
  by_error word error = if error then next.Answer word else next.Show (step.ForkRegion word (region_index USTACKTOP))

  -- ---- where something was refused, there is nothing to show

  refused_keeps : (answer : ℕ) → asked ≡ giving (with_refusal s) (Answered answer) → KeepsBy s n beginning asked
  refused_keeps answer is =
      subst (λ (z : CallStep Called). KeepsBy s n beginning z) (sym is) (λ a h turn quiet. absurd (never (is_error answer) quiet))
    where
      never : (error : Bool) → NothingRefused s (settled SERVICE_FORK (by_error answer error) (with_refusal s) n) → ⊥
      never true quiet = refusal_is_seen s (record { stays = quiet.stays; could = quiet.could })
      never false quiet = refusal_is_seen s (record { stays = quiet.stays; could = quiet.could })

  -- ---- where the child is made

  made_keeps : (m : ℕ) (slots : List ℕ) → s.environments.free_slots ≡ m ∷ slots → (f : ℕ) (frames : List ℕ) → s.spaces.free ≡ f ∷ frames →
      IsInOrder asked.state → KeepsBy s n beginning asked
  made_keeps m slots slots_are f frames frames_are order a h turn quiet =
      let nobody = slot_was_free s n live m slots slots_are f frames frames_are h.1.in_order order in
      let other : m ≢ n = apart h.1 n stands m slots slots_are f frames frames_are nobody in
      let is = exofork_is s n live m slots slots_are f frames frames_are other in
      let after : KernelState = begun s n live m slots slots_are f frames frames_are in
      let id : ℕ = child_id s n live m slots slots_are f frames frames_are in
      let v = served h.1 n service.Fork step.Entered stands in
      let goes_is = fork_is h.1 n stands m slots slots_are f frames frames_are nobody in
      let shown : StepGoesOn n (with_extra after n (words_at SERVICE_FORK (step.ForkRegion id (region_index USTACKTOP)))) a [] = (
        fork a n v.b regs,
        step_in a n v.b (slot_at s n) service.Fork entered v.is v.at ∙ fork_step a n v.b regs,
        ap (λ (z : AbstractState). z.console) goes_is ∙ printed_nothing a,
        (
          h.0,
          begun_stands h.1 n stands m slots slots_are f frames frames_are nobody
              (subst (λ (t : KernelState). IsInOrder t) (ap (λ (z : CallStep Called). z.state) is) order),
        ),
      ) in
      subst (λ (z : CallStep Called). FollowsBy s n beginning a z) (sym is)
      (subst (λ (error : Bool). let x = by_error id error in AbstractFollows (seen_as x) n (settled SERVICE_FORK x after n) a [])
      (sym (no_error id (small h.1))) shown)
    where
      small : {a : AbstractState} {names : _} → StandsFor names s a → child_id s n live m slots slots_are f frames frames_are < 2 ^ 31
      small h =
          let listed : AreSlots (m ∷ slots) = subst (λ (l : List ℕ). AreSlots l) slots_are h.free_slots.within in
          next_id_small (slot_at s m).id m listed.0

      no_error : (id : ℕ) → id < 2 ^ 31 → is_error id ≡ false
      no_error id below = grind (arith, nat_tests)

  -- ---- the law's parts

  asked_keeps : IsInOrder asked.state → KeepsBy s n beginning asked
  asked_keeps order = by_lists s.environments.free_slots refl s.spaces.free refl
    where
      by_lists : (l : List ℕ) → s.environments.free_slots ≡ l → (free_frames : List ℕ) → s.spaces.free ≡ free_frames → KeepsBy s n beginning asked
      by_lists [] slots_are free_frames frames_are = let none = no_slot s n live slots_are in refused_keeps none.0 none.1
      by_lists (m ∷ slots) slots_are [] frames_are = let none = no_frame s n live m slots slots_are frames_are in refused_keeps none.0 none.1
      by_lists (m ∷ slots) slots_are (f ∷ frames) frames_are = made_keeps m slots slots_are f frames frames_are order

  pub entered_keeps : IsInOrder (performed s n beginning.asks).state → KeepsBy s n beginning (performed s n beginning.asks)
  entered_keeps =
      subst (λ (z : CallStep Called). IsInOrder z.state → KeepsBy s n beginning z) (sym (asked_is s n)) asked_keeps

  pub entered_fails : FailsBy s n beginning (performed s n beginning.asks)
  entered_fails may a h turn = absurd may

  pub entered_goes : GoesOn s n beginning (performed s n beginning.asks)
  entered_goes =
      subst (λ (z : CallStep Called). GoesOn s n beginning z) (sym (asked_is s n)) (giving_goes s n beginning asked (exofork_lives s n live))

  pub entered_lives : (called : Called) → (performed s n beginning.asks).gives ≡ got called → is_gone (beginning.next called) ≡ false →
      is_live (slot_at (performed s n beginning.asks).state n) ≡ true
  entered_lives = entered_goes.live

  pub entered_leaves : let did = upshot_by beginning n (performed s n beginning.asks) (performed s n beginning.asks).gives in
      Leaves (Ok did.progress) n s did.state
  entered_leaves = plain_leaves s n beginning refl

  -- and the law
  pub entered_holds : ServiceHolds s n beginning
  entered_holds =
      law_of s n beginning service.Fork step.Entered
      (record { stands = stands; live = live; numbered = refl; plain = plainly refl; goes_on = refl; falls = fork_falls stage.Entered; few = omega arith })
      entered_goes (asked_never s n ask.Exofork refl) entered_keeps entered_fails
