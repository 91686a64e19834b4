use Rattle.std.proofs.Common.{◌∙◌}
use Rattle.jos_sys.proofs.Keeping.{keeps_spaces}
use Rattle.jos_sys.proofs.system.System.store_byte.Goals as goal
use Rattle.jos_base.proofs.Uses.{directory_is}

pub store_byte-requires : goal.store_byte-requires
store_byte-requires c = record { space = directory_is _ c.requires.space; allowed = c.requires.allowed }

pub returns-clause-spaces : goal.returns-clause-spaces
returns-clause-spaces c = λ keeps. record {
  spaces = keeps_spaces _ _ _ c.store_byte.ensures.directories keeps.spaces;
  records = c.store_byte.ensures.records ∙ keeps.records;
}
