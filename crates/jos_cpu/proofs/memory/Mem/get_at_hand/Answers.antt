use Rattle.std.proofs.Common.{arith, refl}
use Rattle.jos_cpu.proofs.AtHand.{byte_at_hand, pair_at_hand, word_at_hand}
use Rattle.jos_cpu.proofs.memory.Mem.get_at_hand.Goals as goal

pub returns-in-len1-up : goal.returns-in-len1-up
returns-in-len1-up g c =
    rw c.in-Bits8.is (byte_at_hand _ _ _ _ (omega (arith, c.ranges.va.fits)) c.window.ensures c.in-len1-up.len_at_least refl)

pub returns-in-len2-up : goal.returns-in-len2-up
returns-in-len2-up g c =
    rw c.in-Bits16.is (pair_at_hand _ _ _ _ (omega (arith, c.ranges.va.fits)) c.window-in-Bits16.ensures c.in-len2-up.len_at_least c.from_le_bytes.ensures)

pub returns-in-len4-up : goal.returns-in-len4-up
returns-in-len4-up g c =
    rw c.in-Bits32.is (word_at_hand _ _ _ _ (omega (arith, c.ranges.va.fits)) c.window-in-Bits32.ensures c.in-len4-up.len_at_least c.from_le_bytes-in-len4-up.ensures)
