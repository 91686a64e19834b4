use Rattle.std.proofs.Common.{sym}
use Rattle.jos_cli.proofs.Doing.{did_nothing}
use Rattle.jos_cli.proofs.Tops.{behind_memory}
use Rattle.jos_cli.proofs.answer.answer_words.Goals as goal

pub returns-in-Err-NoMemory-clause-did : goal.returns-in-Err-NoMemory-clause-did
returns-in-Err-NoMemory-clause-did g c = did_nothing g.H.Host c.args.host.now _

pub returns-in-Err-NoMemory-clause-cut : goal.returns-in-Err-NoMemory-clause-cut
returns-in-Err-NoMemory-clause-cut g c = sym (behind_memory _)
