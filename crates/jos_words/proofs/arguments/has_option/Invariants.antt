use Rattle.std.proofs.Common.{◌≡◌, drop, map}
use Rattle.jos_words.specs.Arguments.{has_option}
use Rattle.jos_words.proofs.arguments.has_option.Given as goal

abbrev pub invariant-loop-known : goal.invariant-loop-known
invariant-loop-known l = has_option (map (λ known. known.now) (drop l.known-index l.names)) l.name ≡ has_option (map (λ known. known.now) l.names) l.name
