-- What a stream has gained by a call, where the host tells its bytes.
use Rattle.std.specs.Prelude.{◌≡◌, ℕ, ◌≤◌, List, ◌++◌, length, take, Option}
use Rattle.std.specs.Option.{option_map}
use Rattle.jos_host.specs.Frames.{Around}

-- the told bytes with these behind them
abbrev pub Gains : Around (Option (List ℕ)) → List ℕ → Type 0
Gains stream bytes = stream.after ≡ option_map (λ told. told ++ bytes) stream.before

-- the told bytes with a prefix of these behind them
abbrev pub GainsPart : Around (Option (List ℕ)) → List ℕ → Type 0
GainsPart stream bytes = (n : ℕ) × (n ≤ length bytes) × Gains stream (take n bytes)
