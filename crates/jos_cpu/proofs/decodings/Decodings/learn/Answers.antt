use Rattle.std.proofs.Common.{arith}
use Rattle.jos_cpu.proofs.Sixteen.{learned}
use Rattle.jos_cpu.proofs.decodings.Decodings.learn.Goals as goal

pub invariant_of-known : goal.invariant_of-known
invariant_of-known c = record {
  form_is = c.form_of.ensures;
  right = learned c.args.bytes.now _ _ c.in-len16-up.len_at_least (λ i. omega (arith, c.type_inv.bytes i)) c.from_le_bytes-front.ensures c.from_le_bytes-back.ensures c.in-Found.ensures.exact;
}
