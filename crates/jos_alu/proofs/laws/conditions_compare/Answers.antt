use Rattle.jos_alu.proofs.ConditionLaws.{compares}
use Rattle.jos_alu.proofs.laws.conditions_compare.Goals as goal

pub returns : goal.returns
returns c = compares
