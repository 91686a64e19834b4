-- Steps of an environment that are made at once: of its program as many as go on, and one more, which may be a service's; or one of the file
-- server's.
use Rattle.std.specs.Prelude.{◌≡◌, ℕ, ◌<◌, zero, suc, Bool, false, Option, Result, Ok, Err, IfOk, if◌then◌else◌}
use Rattle.jos_host.specs.declared.host.Failed.{Failed}
use Rattle.jos_base.specs.KernelState.{KernelState, slot_at}
use Rattle.jos_kernel.specs.declared.trace.TrapLine.{TrapLine}
use Rattle.lib_os.specs.declared.place.Place.TheVariants as place
use Rattle.lib_os.specs.declared.progress.Progress.TheVariants as progress
use Rattle.lib_os.specs.LibrarySteps.{LeavesRest}
use Rattle.lib_os.specs.Places.{place_of}
use Rattle.lib_os.specs.UserCalls.{Output}
use Rattle.jos_run.specs.declared.steps.StepOutcome.{StepOutcome}
use Rattle.jos_run.specs.GuestSteps.{quietly, guest_instruction}
use Rattle.jos_run.specs.ServerStands.{IsWholeStep}
use Rattle.jos_run.specs.Steps.{LeavesAs, RaisesAs, is_servers, step_progress}
use Rattle.jos_run.specs.Worlds.{World, with_state}

-- So many instructions of the program in slot n, after each of which it stands at the next one, with nothing told.
abbrev pub GuestGoesOn : ℕ → ℕ → KernelState → KernelState → Type 0
GuestGoesOn n zero before after = after ≡ before
GuestGoesOn n (suc more) before after =
    (next : KernelState) × (guest_instruction before n ≡ quietly next) × (place_of (slot_at next n) ≡ place.Guest)
    × GuestGoesOn n more next after

-- what an instruction has come to that was stopped by a page to be copied or not, and leaves its environment live or not, with the
-- trap that it raised
abbrev pub came_to : Bool → Bool → Result (Option TrapLine) Failed → Result StepOutcome Failed
came_to copying live (Ok trap) =
    Ok (record { progress = if copying then progress.Hidden else if live then progress.Visible else progress.Ended; trap = trap })
came_to copying live (Err failed) = Err failed

-- The environment in slot n makes so many steps that go on, and one more, which has come to this.
pub record MakesSteps (n going : ℕ) (last : Result StepOutcome Failed) (before after : World) (output : Output) : Type 0 where
  -- where the last begins, beside the disk as it was
  pub reached : KernelState
  pub went : GuestGoesOn n going before.state reached
  pub is_guest : 0 < going → (is_servers before.state n ≡ false) × (place_of (slot_at before.state n) ≡ place.Guest)
  pub step : IsWholeStep (step_progress last) n (with_state before reached) after output
  pub rest : IfOk last (λ stepped. LeavesRest reached after.state)
  pub leaves : LeavesAs (is_servers reached n) before.disk (step_progress last) n reached after.state
  pub raises : IfOk last (λ stepped. RaisesAs (is_servers reached n) n reached stepped.trap after.state)
