use Rattle.std.proofs.Common.{◌∙◌, ap}
use Rattle.jos_base.specs.TrapFrames.{bytes_of_words}
use Rattle.jos_trap.proofs.Bytes.{bytes_of_words-is}
use Rattle.jos_trap.proofs.frame.frame_bytes.Goals as goal

pub returns : goal.returns
returns c = c.write_u32_into.ensures ∙ bytes_of_words-is c.frame_words.result ∙ ap bytes_of_words c.frame_words.ensures
