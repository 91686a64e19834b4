use Rattle.jos_run.proofs.Looked.{byte_looked}
use Rattle.jos_run.proofs.served.Served.byte.Goals as goal

pub returns : goal.returns
returns c =
    rw (← c.self.view_is)
    (byte_looked c.self.inside.machine c.system-system.ensures.system c.self.inside.slot c.args.va c.system-system.ensures.keeps c.byte_at.ensures
    c.space.ensures.directory)
