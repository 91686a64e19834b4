use Rattle.std.proofs.Common.{◌≡◌, ◌+◌, ◌-◌, ◌≤◌}
use Rattle.std.specs.Prelude.{Bool, Some, None, if◌then◌else◌}
use Rattle.jos_shell.specs.declared.numbers.TheConstants.{COMMANDS_MAX}
use Rattle.jos_script.specs.ShellScript.{new_job}
use Rattle.jos_script.specs.ScriptPlaces.{command_at, runs_from}
use Rattle.jos_script.proofs.job.next_job.Given as goal

-- the commands before are passed over
abbrev pub invariant-loop-piped : goal.invariant-loop-piped
invariant-loop-piped l = record {
  passed : (last : Bool) → runs_from l.fn.line last (l.fn.number + 1) (if (command_at l.fn.line l.fn.number).piped then None else Some new_job)
      ≡ runs_from l.fn.line last l.next None;
  behind : l.fn.number ≤ l.next;
  within : l.next ≤ COMMANDS_MAX;
}

abbrev pub decreases-loop-piped : goal.decreases-loop-piped
decreases-loop-piped l = COMMANDS_MAX - l.next
