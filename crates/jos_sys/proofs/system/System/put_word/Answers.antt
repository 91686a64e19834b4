use Rattle.std.proofs.Common.{◌∙◌}
use Rattle.jos_sys.proofs.Keeping.{keeps_spaces}
use Rattle.jos_sys.proofs.system.System.put_word.Goals as goal
use Rattle.jos_base.proofs.Uses.{directory_is}

pub put_word-requires : goal.put_word-requires
put_word-requires c = directory_is _ c.requires

pub returns-clause-spaces : goal.returns-clause-spaces
returns-clause-spaces c = λ keeps. record {
  spaces = keeps_spaces _ _ _ c.put_word.ensures.directories keeps.spaces;
  records = c.put_word.ensures.records ∙ keeps.records;
}
