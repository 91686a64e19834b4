-- The laws of read and of stat at their steps on an end of a pipe: they are those of lib_pipe.
use Rattle.std.proofs.Common.{◌≡◌, ℕ, Option, Some, None, true, option_map}
use Rattle.jos_base.specs.Environments.{is_live}
use Rattle.jos_base.specs.KernelState.{KernelState, slot_at}
use Rattle.lib_os.specs.declared.place.PipeStep.{PipeStep}
use Rattle.lib_os.specs.declared.place.Place.TheVariants as place
use Rattle.lib_os.specs.declared.place.Step.TheVariants as step
use Rattle.lib_os.specs.declared.service.Service.TheVariants as service
use Rattle.lib_os.specs.Places.{place_of}
use Rattle.lib_stage.specs.ServiceSteps.{ServiceHolds, or_nowhere}
use Rattle.lib_pipe.specs.declared.ends.PipeStage.{PipeStage}
use Rattle.lib_pipe.specs.PipeStages as ends
use Rattle.lib_pipe.proofs.EndsLaw as of_pipe
use Rattle.lib_read.specs.declared.read.Read.{Read}
use Rattle.lib_read.specs.declared.read.ReadStage.{ReadStage}
use Rattle.lib_read.specs.declared.read.ReadStage.TheVariants as stage
use Rattle.lib_read.specs.declared.stat.Stat.{Stat}
use Rattle.lib_read.specs.declared.stat.StatStage.{StatStage}
use Rattle.lib_read.specs.declared.stat.StatStage.TheVariants as stat_stage
use Rattle.lib_read.specs.ReadStages.{read_at, reading}
use Rattle.lib_read.specs.StatStages.{stat_at, telling}

module _ (s : KernelState) (n fd va len : ℕ) (live : is_live (slot_at s n) ≡ true) where
  as_reads : (at : Option PipeStage) → ServiceHolds s n (or_nowhere (of_pipe.reading_at s n fd va len live) at) →
      ServiceHolds s n (or_nowhere reading
      (option_map (λ (x : ReadStage). record { fd = fd; va = va; len = len; at = x }) (option_map (λ (x : PipeStage). stage.OfPipe x) at)))
  as_reads None h = h
  as_reads (Some at) h = h

  pub read_end_holds : (at : PipeStep) → place_of (slot_at s n) ≡ place.InService (service.Read fd va len) (step.Piped at) →
      ServiceHolds s n (or_nowhere reading (read_at fd va len (step.Piped at)))
  read_end_holds at stands = as_reads (ends.stage_of at) (of_pipe.read_end_holds s n fd va len live at stands)

module _ (s : KernelState) (n fd va : ℕ) (live : is_live (slot_at s n) ≡ true) where
  as_tells : (at : Option PipeStage) → ServiceHolds s n (or_nowhere (of_pipe.telling_at s n fd va live) at) →
      ServiceHolds s n (or_nowhere telling
      (option_map (λ (x : StatStage). record { fd = fd; va = va; at = x }) (option_map (λ (x : PipeStage). stat_stage.OfPipe x) at)))
  as_tells None h = h
  as_tells (Some at) h = h

  pub stat_end_holds : (at : PipeStep) → place_of (slot_at s n) ≡ place.InService (service.Stat fd va) (step.Piped at) →
      ServiceHolds s n (or_nowhere telling (stat_at fd va (step.Piped at)))
  stat_end_holds at stands = as_tells (ends.stage_of at) (of_pipe.stat_end_holds s n fd va live at stands)
