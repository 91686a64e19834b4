use Rattle.lib_os.proofs.SomeState as state
use Rattle.lib_os.proofs.HalfCopied as half
use Rattle.lib_os.proofs.laws.some_state_stands.Goals as goal

pub returns-clause-state : goal.returns-clause-state
returns-clause-state c = state.some_state_stands

pub returns-clause-copy : goal.returns-clause-copy
returns-clause-copy c = half.some_copy_stands
