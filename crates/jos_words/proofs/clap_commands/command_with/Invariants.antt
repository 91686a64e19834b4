use Rattle.std.proofs.Common.{◌≡◌, take, map}
use Rattle.clap.specs.Words.{app_of}
use Rattle.jos_words.specs.ClapCommands.{option_rule, app_with}
use Rattle.jos_words.proofs.clap_commands.command_with.Given as goal

abbrev pub invariant-loop-known : goal.invariant-loop-known
invariant-loop-known l = app_of l.command ≡ app_with l.name (map (λ known. option_rule known.now) (take l.known-index l.options))
