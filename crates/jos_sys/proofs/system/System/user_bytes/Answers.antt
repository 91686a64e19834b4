use Rattle.jos_sys.proofs.system.System.user_bytes.Goals as goal
use Rattle.jos_base.proofs.Uses.{directory_is}

pub user_bytes-requires : goal.user_bytes-requires
user_bytes-requires c = directory_is _ c.requires
