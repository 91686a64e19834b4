use Rattle.fs_layout.proofs.FileTrees.{named_from-replaced, named_from-emptied}
use Rattle.fs_layout.proofs.laws.trees_keep_what_is_put.Goals as goal

pub returns-clause-replaced : goal.returns-clause-replaced
returns-clause-replaced c = named_from-replaced

pub returns-clause-emptied : goal.returns-clause-emptied
returns-clause-emptied c = named_from-emptied
