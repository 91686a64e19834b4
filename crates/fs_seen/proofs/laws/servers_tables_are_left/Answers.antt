use Rattle.fs_seen.proofs.TablesLeft.{tables_are_left}
use Rattle.fs_seen.proofs.laws.servers_tables_are_left.Goals as goal

pub returns : goal.returns
returns c = tables_are_left
