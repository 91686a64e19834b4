use Rattle.lib_os.proofs.WordsTell.{place_at, handler_at}
use Rattle.lib_os.proofs.laws.words_tell_the_place.Goals as goal

pub returns-clause-words : goal.returns-clause-words
returns-clause-words c = place_at

pub returns-clause-registers : goal.returns-clause-registers
returns-clause-registers c = handler_at
