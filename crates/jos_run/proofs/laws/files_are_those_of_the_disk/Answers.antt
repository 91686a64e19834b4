use Rattle.jos_run.proofs.FilesStand.{files_stand}
use Rattle.jos_run.proofs.laws.files_are_those_of_the_disk.Goals as goal

pub returns : goal.returns
returns c = files_stand
