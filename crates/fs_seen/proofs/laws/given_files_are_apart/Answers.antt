use Rattle.fs_seen.proofs.RepliesGiven.{given_files_are_apart}
use Rattle.fs_seen.proofs.laws.given_files_are_apart.Goals as goal

pub returns : goal.returns
returns c = given_files_are_apart
