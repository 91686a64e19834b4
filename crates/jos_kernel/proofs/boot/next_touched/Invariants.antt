use Rattle.std.proofs.Common.{take}
use Rattle.jos_elf.specs.Pages.{any_touches}
use Rattle.jos_kernel.specs.Loading.{IsFirst}
use Rattle.jos_kernel.proofs.boot.next_touched.Given as goal

abbrev pub invariant-loop-segment : goal.invariant-loop-segment
invariant-loop-segment l = IsFirst (λ number. any_touches number (take l.segment-index l.segments)) l.from l.next
