use Rattle.std.proofs.Common.{[]}
use Rattle.jos_base.specs.declared.memory.Access.TheVariants.{Write}
use Rattle.lib_os.specs.UserCalls.{store, giving, with_user_word}
use Rattle.jos_run.proofs.Accesses.{put_step, refused_step}
use Rattle.jos_run.proofs.Printed.{prints_on}
use Rattle.jos_run.proofs.served.ServedUserOs.store.Goals as goal

pub returns-in-Ok-clause-step : goal.returns-in-Ok-clause-step
unfolding store
returns-in-Ok-clause-step g c =
    put_step _ _ _ _ _ Write _ c.in-Ok.ensures.allowed c.in-Ok.ensures.reached c.reach.ensures.slot (prints_on _ _ _ _ [] c.put_word.ensures.written c.in-Ok.ensures.quiet) (λ k n. with_user_word k n c.args.va c.args.word) _ c.put_word.ensures.state

pub returns-in-Err-clause-step : goal.returns-in-Err-clause-step
unfolding store
returns-in-Err-clause-step g c =
    let n = c.args.self.now.slot in
    refused_step (Unit {0}) _ _ n _ c.args.va Write (λ after. giving (with_user_word after n c.args.va c.args.word) tt)
    c.in-Err.stop c.in-Err.ensures.refused c.in-Err.ensures.raised
