use Rattle.jos_sys.specs.System.{left_of}
use Rattle.jos_run.proofs.InOrder.{in_order}
use Rattle.jos_run.proofs.served.Served.keep_in_order.Goals as goal

pub returns : goal.returns
returns c =
    rw (← c.self.view_is, ← c.system.ensures.system)
    (in_order _ (left_of c.self.inside.machine.input) c.keep_sound.ensures c.system.ensures.keeps)
