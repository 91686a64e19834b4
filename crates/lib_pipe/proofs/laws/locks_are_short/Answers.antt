use Rattle.lib_pipe.proofs.ShortLocks.{locks_are_short, tests_are_short}
use Rattle.lib_pipe.proofs.laws.locks_are_short.Goals as goal

pub returns-clause-locks : goal.returns-clause-locks
returns-clause-locks c = locks_are_short

pub returns-clause-tests : goal.returns-clause-tests
returns-clause-tests c = tests_are_short
