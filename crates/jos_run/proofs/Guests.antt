-- What comes of a step of the program, by what is done.
use Rattle.std.proofs.Common.{◌≡◌, ◌∙◌, ◌+◌, ℕ, List, [], Option, None, Ok, Err, refl, ap}
use Rattle.std.specs.Prelude.{◌-◌, ◌^◌, min}
use Rattle.jos_host.specs.declared.host.Failed.{Failed}
use Rattle.jos_host.specs.Frames.{Around}
use Rattle.jos_base.specs.declared.numbers.TheConstants.{T_SERVICE}
use Rattle.jos_base.specs.KernelState.{KernelState, slot_at, with_extra}
use Rattle.jos_cpu.specs.declared.events.Event.{Event}
use Rattle.jos_cpu.specs.declared.events.Event.TheVariants.{Soft}
use Rattle.jos_kernel.specs.declared.machine.Followed.{Followed}
use Rattle.jos_kernel.specs.Machine as kernel
use Rattle.jos_kernel.specs.Steps.{EnvStep}
use Rattle.lib_os.specs.Places.{words_entered}
use Rattle.lib_os.specs.UserCalls.{Output, Prints}
use Rattle.jos_run.specs.Guest.{Follows}
use Rattle.jos_run.specs.GuestSteps.{after_event}
use Rattle.jos_run.proofs.Printed.{printed, prints}

-- the bytes of a trap are counted
module _ (step : EnvStep) (state : KernelState) (console : Around (Option (List ℕ))) (counted after : ℕ) where
  pub trap_follows : (followed : Followed) → kernel.Follows (Ok followed) step state console →
      after ≡ min (counted + followed.written) (2 ^ 64 - 1) → Follows (Ok followed.trap) step state (printed console counted after)
  trap_follows followed h more = (h.0, h.2, prints console counted after followed.written step.written h.1 more h.3)

  pub trap_fails : (failed : Failed) → kernel.Follows (Err failed) step state console → Follows (Err failed) step state (printed console counted after)
  trap_fails failed h = h

-- a service is entered
pub service_follows : (s after : KernelState) (n ip vector : ℕ) (event : Event) (words : List ℕ) (output : Output) → event ≡ Soft vector →
    vector ≡ T_SERVICE → words ≡ words_entered (slot_at s n).registers → after ≡ with_extra s n words → Prints output [] →
    Follows (Ok None) (after_event s n ip event) after output
service_follows s after n ip vector event words output event_is vector_is words_are after_is quiet =
    rw (event_is, vector_is) (after_is ∙ ap (with_extra s n) words_are, refl, quiet)
