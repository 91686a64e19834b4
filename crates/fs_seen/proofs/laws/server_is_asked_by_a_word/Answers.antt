use Rattle.fs_seen.proofs.AskedNow.{asked_by_word}
use Rattle.fs_seen.proofs.laws.server_is_asked_by_a_word.Goals as goal

pub returns : goal.returns
returns c = asked_by_word
