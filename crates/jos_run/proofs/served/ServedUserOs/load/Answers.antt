use Rattle.std.proofs.Common.{ℕ}
use Rattle.jos_base.specs.declared.memory.Access.TheVariants.{Read}
use Rattle.lib_os.specs.UserCalls.{load, giving, user_word}
use Rattle.jos_run.proofs.Accesses.{read_step, refused_step}
use Rattle.jos_run.proofs.served.ServedUserOs.load.Goals as goal

pub returns-in-Ok-clause-step : goal.returns-in-Ok-clause-step
unfolding load
returns-in-Ok-clause-step g c =
    read_step _ _ _ _ _ Read _ c.in-Ok.ensures.allowed c.in-Ok.ensures.reached c.reach.ensures.slot c.in-Ok.ensures.quiet (λ k n. user_word k n c.args.va) _ c.word.ensures

pub returns-in-Err-clause-step : goal.returns-in-Err-clause-step
unfolding load
returns-in-Err-clause-step g c =
    let n = c.args.self.now.slot in
    refused_step ℕ _ _ n _ c.args.va Read (λ after. giving after (user_word after n c.args.va))
    c.in-Err.stop c.in-Err.ensures.refused c.in-Err.ensures.raised
