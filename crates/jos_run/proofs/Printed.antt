-- What is printed and counted, by what the kernel's calls tell of it.
use Rattle.std.proofs.Common.{◌≡◌, ◌∙◌, ◌+◌, ◌<◌, ℕ, List, [], length, Option, arith, ap}
use Rattle.std.specs.Prelude.{◌-◌, ◌^◌, min}
use Rattle.jos_host.specs.Frames.{Around, from_to}
use Rattle.jos_host.specs.Gains.{Gains}
use Rattle.jos_kernel.proofs.Following.{gains_nothing}
use Rattle.lib_os.specs.UserCalls.{Output, Prints}

abbrev pub printed : Around (Option (List ℕ)) → ℕ → ℕ → Output
printed console before after = record { console = console; count = from_to before after }

-- nothing is printed
pub prints_nothing : (console : Option (List ℕ)) (count : ℕ) → count < 2 ^ 64 → Prints (printed (from_to console console) count count) []
prints_nothing console count small = record { gains = gains_nothing console; counted = omega (arith, small) }

-- what an answer tells to be written is counted
pub prints : (console : Around (Option (List ℕ))) (before after written : ℕ) (bytes : List ℕ) → written ≡ length bytes →
    after ≡ min (before + written) (2 ^ 64 - 1) → Gains console bytes → Prints (printed console before after) bytes
prints console before after written bytes same counted gains =
    record { gains = gains; counted = counted ∙ ap (λ (n : ℕ). min (before + n) (2 ^ 64 - 1)) same }

-- and a count that is kept is the same
pub prints_on : (console : Around (Option (List ℕ))) (before mid after : ℕ) (bytes : List ℕ) → after ≡ mid →
    Prints (printed console before mid) bytes → Prints (printed console before after) bytes
prints_on console before mid after bytes same h = record { gains = h.gains; counted = same ∙ h.counted }
