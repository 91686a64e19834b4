-- Counts that a u64 holds.
use Rattle.std.specs.Prelude.{ℕ, ◌+◌, ◌-◌, ◌^◌, min}

-- the greatest count
abbrev pub most : ℕ
most = 2 ^ 64 - 1

-- the count, which ends at the greatest
abbrev pub counted : ℕ → ℕ
counted n = min n most

-- the count after one more
abbrev pub risen : ℕ → ℕ
risen n = counted (n + 1)
