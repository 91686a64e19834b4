use Rattle.std.proofs.Common.{◌∙◌}
use Rattle.jos_base.specs.Environments.{is_running}
use Rattle.jos_base.specs.KernelState.{slot_at}
use Rattle.jos_kernel.proofs.Advancing.{begun_running}
use Rattle.jos_run.specs.Served.{kernel_state}
use Rattle.jos_run.proofs.library_run.LibraryRun.enter_turn.Goals as goal

pub returns-then-made-eq0-clause-running : goal.returns-then-made-eq0-clause-running
returns-then-made-eq0-clause-running c =
    (λ i. is_running (slot_at (c.begin_turn.ensures.state i) c.args.slot).status)
    ∙ begun_running (kernel_state c.serve.new.self) c.args.slot
