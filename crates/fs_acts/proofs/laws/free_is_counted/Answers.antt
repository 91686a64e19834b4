use Rattle.fs_acts.proofs.FreeCounted.{blocks-counted, free-counted}
use Rattle.fs_acts.proofs.laws.free_is_counted.Goals as goal

pub returns-clause-blocks : goal.returns-clause-blocks
returns-clause-blocks c = blocks-counted

pub returns-clause-free : goal.returns-clause-free
returns-clause-free c = free-counted
