use Rattle.jos_words.specs.Commands.{exo_in_bytes}
use Rattle.jos_cli.specs.Stages.{gathered_of}
use Rattle.jos_cli.specs.Outside.{outside}
use Rattle.jos_cli.proofs.Doing.{exo_unread, exo_ran}
use Rattle.jos_cli.proofs.answer.answer_exo.Goals as goal

pub returns-in-Ok : goal.returns-in-Ok
returns-in-Ok g c =
    let told = rw (c.limit_of_words.ensures.limit, c.deref.ensures.value) at c.in-Ok.ensures.told in
    record {
      did = rw c.outcome_of_run.ensures (exo_ran g.H.Host c.args.host.now c.gather.new.host c.run_loaded.new.host told.1 told.3 c.run_loaded.result
          c.run_loaded.ensures.rest told.0 (gathered_of c.in-Ok.read) (exo_in_bytes c.args.words.now) told.2 told.4 (rw c.deref.ensures.value at c.in-Ok.ensures.did)
          (rw c.numbers_of_exo.ensures at c.run_loaded.ensures.told) c.run_loaded.ensures.cause);
    }

pub returns-in-Err : goal.returns-in-Err
returns-in-Err g c =
    let told = rw (c.limit_of_words.ensures.limit, c.deref.ensures.value) at c.in-Err.ensures.told in
    record {
      did = exo_unread c.in-Err.outcome (outside g.H.Host c.args.host.now c.gather.new.host) told.1 told.3 told.0 (exo_in_bytes c.args.words.now) told.2 told.4
          (rw c.deref.ensures.value at c.in-Err.ensures.did);
    }
