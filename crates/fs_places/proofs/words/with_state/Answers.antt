use Rattle.std.proofs.Common.{◌≡◌, length, rules}
use Rattle.fs_places.proofs.TreeWords.{words_put}
use Rattle.fs_places.proofs.words.with_state.Goals as goal

pub returns-clause-words : goal.returns-clause-words
returns-clause-words c =
    let twelve : length c.args.extra.now.0 ≡ 12 = search rules in
    words_put c.args.extra.now.0 c.job_words.result c.place_words.result c.args.state twelve c.job_words.ensures.words c.place_words.ensures.words
