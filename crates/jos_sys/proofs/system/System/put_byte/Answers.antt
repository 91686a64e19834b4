use Rattle.std.proofs.Common.{◌∙◌}
use Rattle.jos_sys.proofs.Keeping.{keeps_spaces}
use Rattle.jos_sys.proofs.system.System.put_byte.Goals as goal
use Rattle.jos_base.proofs.Uses.{directory_is}

pub put_byte-requires : goal.put_byte-requires
put_byte-requires c = directory_is _ c.requires

pub returns-clause-spaces : goal.returns-clause-spaces
returns-clause-spaces c = λ keeps. record {
  spaces = keeps_spaces _ _ _ c.put_byte.ensures.directories keeps.spaces;
  records = c.put_byte.ensures.records ∙ keeps.records;
}
