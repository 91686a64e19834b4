use Rattle.lib_os.proofs.Apart.{fork_copies}
use Rattle.lib_os.proofs.laws.fork_copies.Goals as goal

pub returns : goal.returns
returns c = fork_copies
