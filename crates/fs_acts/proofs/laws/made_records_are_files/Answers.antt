use Rattle.fs_acts.proofs.Made.{makes-acts}
use Rattle.fs_acts.proofs.laws.made_records_are_files.Goals as goal

pub returns : goal.returns
returns c = makes-acts
