-- What a frame tells.
use Rattle.std.proofs.Common.{◌≡◌, sym}
use Rattle.jos_base.specs.declared.memory.PageFault.{PageFault}
use Rattle.jos_base.specs.declared.registers.Regs.{Regs}
use Rattle.jos_base.specs.TrapFrames.{frame_words, from_frame, user_flags}

-- the registers of the fault, if their flags are a user's
pub from_frame-frame_words : (fault : PageFault) (regs : Regs) → regs.eflags ≡ user_flags regs.eflags → from_frame (frame_words fault regs) ≡ regs
unfolding frame_words from_frame
from_frame-frame_words fault regs flags = λ i. record regs { eflags = sym flags i }
