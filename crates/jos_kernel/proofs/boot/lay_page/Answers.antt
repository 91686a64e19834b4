use Rattle.std.proofs.Common.{[], ap, ◌∙◌}
use Rattle.jos_base.specs.KernelState.{KernelState}
use Rattle.jos_sys.specs.System.{state_of}
use Rattle.jos_kernel.proofs.Laying.{laid_all-none, laid_all-more, laid_all-whole, with_bytes-same}
use Rattle.jos_kernel.proofs.boot.lay_page.Goals as goal

pub loop-segment-init : goal.loop-segment-init
loop-segment-init c = record {
  state = λ input. with_bytes-same (state_of c.args.system.now input) c.args.frame.0 _ (laid_all-none c.args.file.now c.args.number _);
  spaces = c.requires.spaces;
}

pub loop-segment-preserved : goal.loop-segment-preserved
loop-segment-preserved c = record {
  state = λ input. laid_all-more (state_of c.args.system.now input) (state_of c.loop-segment.system input) _ c.args.frame.0 c.args.segments.now c.args.file.now
      c.args.number c.loop-segment.segment-index _ c.loop-segment-test.true (c.loop-segment.invariant.state input) (c.lay_segment.ensures.state input);
  spaces = c.lay_segment.ensures.spaces;
}

pub lay_segment-requires-clause-frame : goal.lay_segment-requires-clause-frame
lay_segment-requires-clause-frame c = ap (λ (s : KernelState). s.spaces.uses c.args.frame.0) (c.loop-segment.invariant.state []) ∙ c.requires.frame

pub returns-clause-state : goal.returns-clause-state
returns-clause-state c = λ input. laid_all-whole (state_of c.args.system.now input) (state_of c.loop-segment.system input) c.args.frame.0 c.args.segments.now
    c.args.file.now c.args.number c.loop-segment.segment-index c.loop-segment-test.false (c.loop-segment.invariant.state input)
