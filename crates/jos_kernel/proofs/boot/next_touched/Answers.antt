use Rattle.std.proofs.Common.{ℕ, ◌+◌, take, Option, sym, subst}
use Rattle.jos_elf.specs.Pages.{any_touches}
use Rattle.jos_kernel.specs.Loading.{IsFirst}
use Rattle.jos_kernel.proofs.PagesTouched.{first_more, first_whole}
use Rattle.jos_kernel.proofs.boot.next_touched.Goals as goal

pub loop-segment-preserved : goal.loop-segment-preserved
loop-segment-preserved c =
    subst (λ (next : Option ℕ). IsFirst (λ number. any_touches number (take (c.loop-segment.segment-index + 1) c.args.segments.now)) c.args.from next)
    (sym c.earlier-next.ensures)
    (first_more c.args.segments.now c.loop-segment.segment-index c.args.from _ c.loop-segment.next c.first_touched.result c.loop-segment-test.true
    c.loop-segment.invariant c.first_touched.ensures)

pub returns : goal.returns
returns c = first_whole c.args.segments.now c.loop-segment.segment-index c.args.from c.loop-segment.next c.loop-segment-test.false c.loop-segment.invariant
