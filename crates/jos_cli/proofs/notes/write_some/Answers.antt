use Rattle.std.proofs.Common.{refl, rules}
use Rattle.jos_cli.proofs.Asking.{notes_none, notes_done}
use Rattle.jos_cli.proofs.notes.write_some.Goals as goal

pub returns-then-is_empty-clause-did : goal.returns-then-is_empty-clause-did
returns-then-is_empty-clause-did g c = record {
  files = refl;
  input = refl;
  console = refl;
  asked = notes_none (g.H.Host.asked c.args.host.now);
  cause = search rules;
}

pub returns-clause-did : goal.returns-clause-did
returns-clause-did g c = let one = c.note_write.ensures in record {
  files = one.files;
  input = one.input;
  console = one.console;
  asked = notes_done c.note_write.result _ _ one.asked;
  cause = one.cause;
}
