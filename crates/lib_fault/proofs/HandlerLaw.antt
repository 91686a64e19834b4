-- The law of the handler: wherever its environment stands in it, the step keeps to what a step of the library is.
use Rattle.std.proofs.Common.{◌≡◌, ℕ, true}
use Rattle.jos_base.specs.Environments.{is_live}
use Rattle.jos_base.specs.KernelState.{KernelState, slot_at}
use Rattle.lib_os.specs.declared.place.HandlerStep.{HandlerStep}
use Rattle.lib_os.specs.declared.place.HandlerStep.TheVariants as handler
use Rattle.lib_os.specs.declared.place.Place.TheVariants as place
use Rattle.lib_os.specs.InOrder.{IsInOrder}
use Rattle.lib_os.specs.Places.{place_of}
use Rattle.lib_stage.specs.Asks.{performed}
use Rattle.lib_stage.specs.ServiceSteps.{ServiceHolds}
use Rattle.lib_stage.proofs.Laws.{FailsBy, KeepsBy}
use Rattle.lib_fault.specs.HandlerStages.{ask_of, handling}
use Rattle.lib_fault.proofs.Copying.{taking_keeps, taking_fails, storing_keeps, storing_fails}
use Rattle.lib_fault.proofs.Copying.{mapping_over_keeps, mapping_over_fails, unmapping_keeps, unmapping_fails}
use Rattle.lib_fault.proofs.Ending.{unsetting_keeps, unsetting_fails, touching_keeps, touching_fails}
use Rattle.lib_os.proofs.StepsThere.{step_is_there}
use Rattle.lib_fault.proofs.FrameReads.{entered_keeps, entered_fails, reading_error_keeps, reading_error_fails, reading_ip_keeps, reading_ip_fails}
use Rattle.lib_fault.proofs.HandlerParts.{handler_lives, handler_leaves, handler_lowers, handler_gives_up, handler_takes}
use Rattle.lib_fault.proofs.PageReads.{looking_keeps, looking_fails, loading_keeps, loading_fails}
use Rattle.lib_fault.proofs.Restored.{restoring_keeps, restoring_fails}

-- the parts that are a step's own
abbrev StepKeeps : KernelState → ℕ → HandlerStep → Type 0
StepKeeps s n at =
    (IsInOrder (performed s n (ask_of at)).state → KeepsBy s n (handling at) (performed s n (ask_of at)))
    × FailsBy s n (handling at) (performed s n (ask_of at))

law_of_step : (s : KernelState) (n : ℕ) → is_live (slot_at s n) ≡ true → (at : HandlerStep) → place_of (slot_at s n) ≡ place.InHandler at →
    StepKeeps s n at → ServiceHolds s n (handling at)
law_of_step s n live at stands keeps = record {
  lives = handler_lives s n live at;
  keeps = keeps.0;
  fails = keeps.1;
  leaves = handler_leaves s n at live stands;
  lowers = handler_lowers s n live at stands;
  gives_up = handler_gives_up s n at stands;
  takes = handler_takes s n live at stands;
}

module _ (s : KernelState) (n : ℕ) (live : is_live (slot_at s n) ≡ true) where
  step_keeps : (at : HandlerStep) → place_of (slot_at s n) ≡ place.InHandler at → StepKeeps s n at
  step_keeps handler.Entered stands = (entered_keeps s n live stands, entered_fails s n live stands)
  step_keeps (handler.ReadingError va) stands = (reading_error_keeps s n va live stands, reading_error_fails s n va live stands)
  step_keeps (handler.Looking va) stands = (looking_keeps s n va live stands, looking_fails s n va live stands)
  step_keeps (handler.Taking va) stands = (taking_keeps s n va live stands, taking_fails s n va live stands)
  step_keeps (handler.Loading va index) stands =
      let there = step_is_there (slot_at s n) (handler.Loading va index) stands in
      (loading_keeps s n va index there live stands, loading_fails s n va index there live stands)
  step_keeps (handler.Storing va index word) stands =
      (storing_keeps s n va index word live stands, storing_fails s n va index word live stands)
  step_keeps (handler.MappingOver va) stands = (mapping_over_keeps s n va live stands, mapping_over_fails s n va live stands)
  step_keeps (handler.Unmapping va) stands = (unmapping_keeps s n va live stands, unmapping_fails s n va live stands)
  step_keeps handler.Restoring stands = (restoring_keeps s n live stands, restoring_fails s n live stands)
  step_keeps (handler.ReadingIp va error) stands = (reading_ip_keeps s n va error live stands, reading_ip_fails s n va error live stands)
  step_keeps (handler.Unsetting va error ip) stands = (unsetting_keeps s n va error ip live stands, unsetting_fails s n va error ip live stands)
  step_keeps (handler.Touching va error ip) stands = (touching_keeps s n va error ip live stands, touching_fails s n va error ip live stands)

  pub handler_holds : (at : HandlerStep) → place_of (slot_at s n) ≡ place.InHandler at → ServiceHolds s n (handling at)
  handler_holds at stands = law_of_step s n live at stands (step_keeps at stands)
