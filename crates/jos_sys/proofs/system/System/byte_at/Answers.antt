use Rattle.jos_sys.proofs.system.System.byte_at.Goals as goal
use Rattle.jos_base.proofs.Uses.{directory_is}

pub byte_at-requires : goal.byte_at-requires
byte_at-requires c = directory_is _ c.requires
