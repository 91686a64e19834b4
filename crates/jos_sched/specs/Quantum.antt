-- Schedules, and the steps that a turn may have by one. (This system's own.)
use Rattle.std.specs.Prelude.{ℕ, ◌-◌, ◌≤◌, List, length, get_or, min, All}
use Rattle.jos_sched.specs.declared.schedule.TheConstants.{SCHEDULE_MAX, QUANTUM_MAX}

-- numbers that a schedule may have
pub record AreLawful (numbers : List ℕ) : Type 0 where
  pub most : length numbers ≤ SCHEDULE_MAX
  pub each : All (λ n. (1 ≤ n) × (n ≤ QUANTUM_MAX)) numbers

-- and there is one at least
pub record IsSchedule (numbers : List ℕ) : Type 0 where
  pub least : 1 ≤ length numbers
  pub lawful : AreLawful numbers

-- the turn's number, from 0 on, and past the end the last
abbrev pub quantum : List ℕ → ℕ → ℕ
quantum numbers turn = get_or numbers (min turn (length numbers - 1)) 0
