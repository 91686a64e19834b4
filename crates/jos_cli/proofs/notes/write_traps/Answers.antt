use Rattle.std.proofs.Common.{refl, rules}
use Rattle.jos_cli.proofs.Asking.{notes_none}
use Rattle.jos_cli.proofs.notes.write_traps.Goals as goal

pub returns-in_default-clause-did : goal.returns-in_default-clause-did
returns-in_default-clause-did g c = record {
  files = refl;
  input = refl;
  console = refl;
  asked = notes_none (g.H.Host.asked c.args.host.now);
  cause = search rules;
}
