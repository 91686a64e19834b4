use Rattle.fs_acts.proofs.Puts.{written-append}
use Rattle.fs_acts.proofs.laws.puts_follow_each_other.Goals as goal

pub returns : goal.returns
returns c = written-append
