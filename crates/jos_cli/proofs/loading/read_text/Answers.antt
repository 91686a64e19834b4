use Rattle.std.proofs.Common.{Some}
use Rattle.jos_cli.proofs.loading.read_text.Goals as goal

pub returns-in-Some-clause-told : goal.returns-in-Some-clause-told
returns-in-Some-clause-told g c =
    let told = c.read_file.ensures.told in rw c.in-Some.is (Some told.0, told.1, told.2)
