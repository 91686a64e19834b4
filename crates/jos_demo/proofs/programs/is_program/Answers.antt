use Rattle.std.proofs.Common.{◌∙◌}
use Rattle.jos_demo.proofs.Named.{named_file}
use Rattle.jos_demo.proofs.programs.is_program.Goals as goal

pub returns-clause-file : goal.returns-clause-file
returns-clause-file c = c.is_listed.ensures ∙ named_file c.args.name.now
