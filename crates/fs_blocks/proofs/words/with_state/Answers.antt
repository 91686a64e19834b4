use Rattle.std.proofs.Common.{◌≡◌, length, rules}
use Rattle.fs_blocks.proofs.CacheWords.{words_put}
use Rattle.fs_blocks.proofs.words.with_state.Goals as goal

pub returns : goal.returns
returns c =
    let twelve : length c.args.words.now.0 ≡ 12 = search rules in
    words_put c.args.words.now.0 twelve c.last_words.result c.args.state c.last_words.ensures
