use Rattle.std.proofs.Common.{arith}
use Rattle.jos_cpu.proofs.Sixteen.{known}
use Rattle.jos_cpu.proofs.decodings.Decodings.find.Goals as goal

pub returns-then-decoding-back : goal.returns-then-decoding-back
returns-then-decoding-back c = record {
  right =
      known c.args.bytes.now _ _ c.in-len16-up.len_at_least (λ i. omega (arith, c.type_inv.bytes i)) c.from_le_bytes-front.ensures c.from_le_bytes-back.ensures
      _ _ c.if-decoding-front.true c.if-decoding-back.true c.index-decoding.result.now.right;
  form = c.index-decoding.result.now.form_is;
}
