use Rattle.std.proofs.Common.{◌∙◌, sym}
use Rattle.jos_run.proofs.served.Served.take_back.Goals as goal

pub returns-then-not-own-clause-state : goal.returns-then-not-own-clause-state
returns-then-not-own-clause-state c =
    let live = sym c.is_live.ensures ∙ c.if-is_live.true in
    rw (live, c.if-not-own.true, ← c.self.view_is) c.set_registers.ensures
