-- The law of write at its steps on an end of a pipe: it is that of lib_pipe.
use Rattle.std.proofs.Common.{◌≡◌, ℕ, Option, Some, None, true, option_map}
use Rattle.jos_base.specs.Environments.{is_live}
use Rattle.jos_base.specs.KernelState.{KernelState, slot_at}
use Rattle.lib_os.specs.declared.place.PipeStep.{PipeStep}
use Rattle.lib_os.specs.declared.place.Place.TheVariants as place
use Rattle.lib_os.specs.declared.place.Step.TheVariants as step
use Rattle.lib_os.specs.declared.service.Service.TheVariants as service
use Rattle.lib_os.specs.Places.{place_of}
use Rattle.lib_stage.specs.ServiceSteps.{ServiceHolds, or_nowhere}
use Rattle.lib_pipe.specs.declared.ends.PipeStage.{PipeStage}
use Rattle.lib_pipe.specs.PipeStages as ends
use Rattle.lib_pipe.proofs.EndsLaw as of_pipe
use Rattle.lib_write.specs.declared.write.Write.{Write}
use Rattle.lib_write.specs.declared.write.WriteStage.{WriteStage}
use Rattle.lib_write.specs.declared.write.WriteStage.TheVariants as stage
use Rattle.lib_write.specs.WriteStages.{write_at, writing}

module _ (s : KernelState) (n fd va len : ℕ) (live : is_live (slot_at s n) ≡ true) where
  as_writes : (at : Option PipeStage) → ServiceHolds s n (or_nowhere (of_pipe.writing_at s n fd va len live) at) →
      ServiceHolds s n (or_nowhere writing
      (option_map (λ (x : WriteStage). record { fd = fd; va = va; len = len; at = x }) (option_map (λ (x : PipeStage). stage.OfPipe x) at)))
  as_writes None h = h
  as_writes (Some at) h = h

  pub write_end_holds : (at : PipeStep) → place_of (slot_at s n) ≡ place.InService (service.Write fd va len) (step.Piped at) →
      ServiceHolds s n (or_nowhere writing (write_at fd va len (step.Piped at)))
  write_end_holds at stands = as_writes (ends.stage_of at) (of_pipe.write_end_holds s n fd va len live at stands)
