use Rattle.fs_layout.proofs.Places.{entry-same, super-same}
use Rattle.fs_layout.proofs.laws.records_are_their_bytes.Goals as goal

pub returns-clause-entries : goal.returns-clause-entries
returns-clause-entries c = entry-same

pub returns-clause-supers : goal.returns-clause-supers
returns-clause-supers c = super-same
