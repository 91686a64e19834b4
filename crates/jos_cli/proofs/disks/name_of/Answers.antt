use Rattle.jos_cli.proofs.DisksRead.{name_up_to, whole_name}
use Rattle.jos_cli.proofs.disks.name_of.Goals as goal

pub returns-in-Some-clause-name : goal.returns-in-Some-clause-name
returns-in-Some-clause-name c = name_up_to c.args.entry.now.name c.in-Some.end c.in-Some.ensures.exact

pub returns-in-None-clause-name : goal.returns-in-None-clause-name
returns-in-None-clause-name c = whole_name c.args.entry.now.name c.in-None.ensures.exact
