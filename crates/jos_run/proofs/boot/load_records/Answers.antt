use Rattle.jos_base.specs.KernelState.{slot_at}
use Rattle.jos_sys.specs.System.{state_of}
use Rattle.jos_run.proofs.StackLoaded.{records-load}
use Rattle.jos_run.proofs.boot.load_records.Goals as goal

pub returns-clause-loads : goal.returns-clause-loads
returns-clause-loads c = λ input.
    records-load (state_of c.args.system.now input) (state_of c.allocate.new.self input)
    (slot_at (state_of c.args.system.now input) c.args.slot).directory (c.allocate.ensures.rest input)
    c.allocate.result c.is_some.result c.is_some.ensures c.allocate.ensures.some c.allocate.ensures.none
