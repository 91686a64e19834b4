use Rattle.fs_acts.proofs.FileData.{cuts-acts}
use Rattle.fs_acts.proofs.FilePuts.{overwrites-acts, fills-acts}
use Rattle.fs_acts.proofs.laws.files_are_stored.Goals as goal

pub returns-clause-overwrites : goal.returns-clause-overwrites
returns-clause-overwrites c = overwrites-acts

pub returns-clause-cuts : goal.returns-clause-cuts
returns-clause-cuts c = cuts-acts

pub returns-clause-fills : goal.returns-clause-fills
returns-clause-fills c = fills-acts
