use Rattle.jos_cpu.proofs.Untouched.{execute_untouched}
use Rattle.jos_cpu.proofs.stepping.execute.Goals as goal

pub returns-in-Ok-clause-untouched : goal.returns-in-Ok-clause-untouched
returns-in-Ok-clause-untouched g c =
    execute_untouched _ _ _ _ _ _ _ _ _ _ _ c.requires c.accesses_of-accesses.ensures c.in-Ok.ensures.after c.take_effect-value.ensures.done c.write_outputs.ensures
