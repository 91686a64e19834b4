-- Where a run of the library's programs stands, between two turns and in one: the abstract system has made the turns so far,
-- with the visible steps of the turn under way, and the kernel's state with the disk stands for where it has come to.
use Rattle.std.specs.Prelude.{◌≡◌, ◌≢◌, ℕ, ◌==◌, ◌&&◌, nat_le, not, Bool, true, false, List, ◌++◌}
use Rattle.std.specs.Prelude.{Option, Some, None, is_none, if◌then◌else◌}
use Rattle.jos_base.specs.declared.environment.EnvType.{EnvType}
use Rattle.jos_base.specs.declared.environment.EnvType.TheVariants.{User, FileServer}
use Rattle.jos_base.specs.declared.numbers.TheConstants.{NENV, TURN_MAX}
use Rattle.jos_base.specs.Environments.{is_live, is_running}
use Rattle.jos_base.specs.KernelState.{KernelState, slot_at}
use Rattle.jos_sched.specs.RoundRobin.{next}
use Rattle.jos_kernel.specs.declared.report.End.{End}
use Rattle.jos_kernel.specs.declared.report.End.TheVariants.{Done, Stuck, Budget, TurnsFull}
use Rattle.jos_kernel.specs.declared.report.Turn.{Turn}
use Rattle.jos_base.specs.Below.{some_below}
use Rattle.lib_os.specs.declared.progress.Progress.{Progress}
use Rattle.lib_os.specs.declared.progress.Progress.TheVariants as progress
use Rattle.lib_os.specs.AbstractState.{AbstractState}
use Rattle.jos_run.specs.AbstractTurns.{next_slot, turn_begun, steps_taken, abs_run, all_fit}
use Rattle.jos_run.specs.ServerStands.{StandsWhole}
use Rattle.jos_run.specs.Worlds.{World}

-- ---- the kernel's slots

-- between two turns no slot is RUNNING
abbrev pub NoneRuns : KernelState → Type 0
NoneRuns s = (n : ℕ) → is_running (slot_at s n).status ≡ false

-- and in a turn no other
abbrev pub OnlyRuns : KernelState → ℕ → Type 0
OnlyRuns s n = (m : ℕ) → m ≢ n → is_running (slot_at s m).status ≡ false

abbrev pub is_user : EnvType → Bool
is_user User = true
is_user FileServer = false

-- no file server stands but in slot 0
abbrev pub OnlyFirstServes : KernelState → Type 0
OnlyFirstServes s = (n : ℕ) → n ≢ 0 → is_user (slot_at s n).env_type ≡ true

-- ---- where a run stands

-- After these turns, and in none: these bytes were written.
pub record IsBetween (schedule : List ℕ) (first : AbstractState) (turns : List Turn) (w : World) (written : List ℕ) : Type 0 where
  pub now : AbstractState
  pub ran : abs_run first turns ≡ Some now
  pub stands : StandsWhole w now
  pub console : now.console ≡ first.console ++ written
  pub none : NoneRuns w.state
  pub fit : all_fit schedule 0 first turns ≡ true

-- After these turns, in that of slot n, which has made so many visible steps.
pub record IsInTurn (schedule : List ℕ) (first : AbstractState) (turns : List Turn) (n visible : ℕ) (w : World) (written : List ℕ) : Type 0 where
  pub before : AbstractState
  pub ran : abs_run first turns ≡ Some before
  pub chosen : next_slot before ≡ Some n
  pub now : AbstractState
  pub taken : steps_taken (turn_begun before n) n visible ≡ Some now
  pub stands : StandsWhole w now
  pub console : now.console ≡ first.console ++ written
  pub only : OnlyRuns w.state n
  pub fit : all_fit schedule 0 first turns ≡ true

-- ---- steps

-- A step that has come to this is a visible one or a hidden one: how many visible steps it is,
abbrev pub visible_steps : Progress → ℕ
visible_steps progress.Hidden = 0
visible_steps progress.Waited = 0
visible_steps progress.Visible = 1
visible_steps progress.Finished = 1
visible_steps progress.Ended = 1

-- and how many hidden ones
abbrev pub hidden_steps : Progress → ℕ
hidden_steps progress.Hidden = 1
hidden_steps progress.Waited = 1
hidden_steps progress.Visible = 0
hidden_steps progress.Finished = 0
hidden_steps progress.Ended = 0

-- ---- the end

-- a slot but the file server's is live
abbrev pub others_live : KernelState → Bool
others_live s = some_below NENV (λ n. not (n == 0) && is_live (slot_at s n))

-- the end tests between two turns as the kernel's state tells them
abbrev pub end_seen : KernelState → ℕ → Bool → Option End
end_seen s turns spent =
    if not (others_live s) then Some Done
    else if is_none (next s.environments s.last) then Some Stuck
    else if spent then Some Budget
    else if nat_le TURN_MAX turns then Some TurnsFull
    else None
