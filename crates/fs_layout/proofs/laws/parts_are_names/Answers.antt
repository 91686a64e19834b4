use Rattle.fs_layout.proofs.PathParts.{names-stand, good-has_parts}
use Rattle.fs_layout.proofs.laws.parts_are_names.Goals as goal

pub returns-clause-names : goal.returns-clause-names
returns-clause-names c = names-stand

pub returns-clause-good : goal.returns-clause-good
returns-clause-good c = good-has_parts
