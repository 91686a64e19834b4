use Rattle.std.proofs.Common.{◌∙◌}
use Rattle.jos_sys.proofs.Keeping.{keeps_spaces}
use Rattle.jos_sys.proofs.system.System.reach.Goals as goal
use Rattle.jos_base.proofs.Uses.{directory_is}

pub access-requires : goal.access-requires
access-requires c = directory_is _ c.requires

pub returns-in-Ok-clause-spaces : goal.returns-in-Ok-clause-spaces
returns-in-Ok-clause-spaces c = λ keeps. record {
  spaces = keeps_spaces _ _ _ c.access.ensures.directories keeps.spaces;
  records = c.access.ensures.records ∙ keeps.records;
}

pub returns-in-Err-clause-spaces : goal.returns-in-Err-clause-spaces
returns-in-Err-clause-spaces c = λ keeps. record {
  spaces = keeps_spaces _ _ _ c.access.ensures.directories keeps.spaces;
  records = c.access.ensures.records ∙ keeps.records;
}
