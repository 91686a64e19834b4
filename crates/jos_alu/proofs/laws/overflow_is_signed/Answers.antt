use Rattle.jos_alu.proofs.OverflowLaws.{overflows}
use Rattle.jos_alu.proofs.laws.overflow_is_signed.Goals as goal

pub returns : goal.returns
returns c = overflows
