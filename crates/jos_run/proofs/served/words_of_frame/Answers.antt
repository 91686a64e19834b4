use Rattle.std.proofs.Common.{arith}
use Rattle.jos_run.proofs.served.words_of_frame.Goals as goal
use Rattle.jos_trap.proofs.Bytes.{words_of_bytes-is}

pub returns : goal.returns
returns c =
    let len = c.read_u32_into.auto.dst in
    let words = c.requires in
    words_of_bytes-is c.read_u32_into.new.dst c.args.bytes.now (omega (arith, len, words)) c.read_u32_into.ensures
