-- Who gets the next turn. (MIT 6.828, kern/sched.c)
use Rattle.std.specs.Prelude.{ℕ, zero, suc, ◌+◌, ◌%◌, Option, Some, None, if◌then◌else◌}
use Rattle.jos_base.specs.declared.numbers.TheConstants.{NENV}
use Rattle.jos_base.specs.Environments.{Environments}
use Rattle.jos_envs.specs.Table.{may_run}

-- the first that is runnable of so many slots, from one on and round the table's end
unfoldable pub first_of : Environments → ℕ → ℕ → Option ℕ
first_of e slot zero = None
first_of e slot (suc more) = if may_run e (slot % NENV) then Some (slot % NENV) else first_of e (slot + 1) more

-- the slot that is tried first: the one behind that which had the last turn
abbrev pub start : Option ℕ → ℕ
start None = 0
start (Some last) = last + 1

-- the slot that gets the next turn, of all slots
unfoldable pub next : Environments → Option ℕ → Option ℕ
next e last = first_of e (start last) NENV
