use Rattle.std.proofs.Common.{arith, refl}
use Rattle.jos_cpu.proofs.AtHand.{byte_at_hand, pair_at_hand, word_at_hand}
use Rattle.jos_kernel.proofs.machine.MachineMem.get_at_hand.Goals as goal

pub returns-in-Bits8-len1-up : goal.returns-in-Bits8-len1-up
returns-in-Bits8-len1-up g c =
    rw c.in-Bits8-len1-up.is-0 (byte_at_hand _ _ _ _ (omega (arith, c.ranges.va.fits)) c.walked.ensures c.in-Bits8-len1-up.len_at_least refl)

pub returns-in-Bits16-len2-up : goal.returns-in-Bits16-len2-up
returns-in-Bits16-len2-up g c =
    rw c.in-Bits16-len2-up.is-0 (pair_at_hand _ _ _ _ (omega (arith, c.ranges.va.fits)) c.walked.ensures c.in-Bits16-len2-up.len_at_least c.from_le_bytes.ensures)

pub returns-in-Bits32-len4-up : goal.returns-in-Bits32-len4-up
returns-in-Bits32-len4-up g c =
    rw c.in-Bits32-len4-up.is-0 (word_at_hand _ _ _ _ (omega (arith, c.ranges.va.fits)) c.walked.ensures c.in-Bits32-len4-up.len_at_least c.from_le_bytes-in-Bits32-len4-up.ensures)
