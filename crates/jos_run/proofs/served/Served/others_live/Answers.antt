use Rattle.std.proofs.Common.{◌∙◌, sym, arith}
use Rattle.jos_base.specs.declared.numbers.TheConstants.{NENV}
use Rattle.jos_run.specs.Served.{kernel_state}
use Rattle.jos_run.proofs.OthersLive.{none_at_first, none_further, some_there}
use Rattle.jos_run.proofs.served.Served.others_live.Goals as goal

pub loop-slot-init : goal.loop-slot-init
loop-slot-init c = (omega arith, none_at_first (kernel_state c.args.self.now))

pub returns-then-is_live_in : goal.returns-then-is_live_in
returns-then-is_live_in c =
    sym (some_there (kernel_state c.args.self.now) c.loop-slot.slot c.loop-slot.invariant.0 (sym c.is_live_in.ensures ∙ c.if-is_live_in.true) NENV
    (omega (arith, c.loop-slot-test.true)))

pub loop-slot-preserved : goal.loop-slot-preserved
loop-slot-preserved c = (
  omega arith,
  none_further (kernel_state c.args.self.now) c.loop-slot.slot c.loop-slot.invariant.1 (sym c.is_live_in.ensures ∙ c.if-is_live_in.false),
)
