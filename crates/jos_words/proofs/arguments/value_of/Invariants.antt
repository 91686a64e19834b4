use Rattle.std.proofs.Common.{◌≡◌, drop, map}
use Rattle.jos_words.specs.Arguments.{value_of, given_in_bytes}
use Rattle.jos_words.proofs.arguments.value_of.Given as goal

abbrev pub invariant-loop-option : goal.invariant-loop-option
invariant-loop-option l = value_of l.name (map given_in_bytes (drop l.option-index l.options)) ≡ value_of l.name (map given_in_bytes l.options)
