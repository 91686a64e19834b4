use Rattle.jos_alu.proofs.QuotientLaws.{divides_unsigned, divides_signed}
use Rattle.jos_alu.proofs.laws.quotients_give_back_the_dividend.Goals as goal

pub returns-clause-unsigned : goal.returns-clause-unsigned
returns-clause-unsigned c = divides_unsigned

pub returns-clause-signed : goal.returns-clause-signed
returns-clause-signed c = divides_signed
