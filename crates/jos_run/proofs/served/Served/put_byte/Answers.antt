use Rattle.jos_run.proofs.served.Served.put_byte.Goals as goal

pub returns-clause-state : goal.returns-clause-state
returns-clause-state c = rw (← c.self.view_is) c.store_byte.ensures
