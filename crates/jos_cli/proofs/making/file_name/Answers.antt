use Rattle.jos_cli.proofs.FileNames.{named_whole, named_behind}
use Rattle.jos_cli.proofs.making.file_name.Goals as goal

pub returns-in-Some : goal.returns-in-Some
returns-in-Some c =
    let found = c.in-Some.ensures.cases in named_behind c.args.text.now c.in-Some.name.now found.0 found.1 found.2 found.4

pub returns-in-None : goal.returns-in-None
returns-in-None c = named_whole c.args.text.now c.in-None.ensures.cases
