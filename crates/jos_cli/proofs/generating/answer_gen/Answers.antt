use Rattle.std.proofs.Common.{sym}
use Rattle.jos_words.specs.Commands.{gen_in_bytes}
use Rattle.jos_cli.proofs.Doing.{did_nothing}
use Rattle.jos_cli.proofs.Generated.{seed_refused, work_unmade}
use Rattle.jos_cli.proofs.generating.answer_gen.Goals as goal

pub returns-in-Some : goal.returns-in-Some
returns-in-Some g c = record {
  did = seed_refused g.H.Host (gen_in_bytes c.args.words) c.args.host.now c.in-Some.which (sym c.in-Some.ensures.limit) c.in-Some.ensures.kind;
}

pub returns-in_default-run_of_gen : goal.returns-in_default-run_of_gen
returns-in_default-run_of_gen g c = record { did = did_nothing g.H.Host c.args.host.now _ }

pub returns : goal.returns
returns g c =
    record {
      did = work_unmade g.H.Host (gen_in_bytes c.args.words) (sym c.in_default.ensures.limit) c.args.host.now c.make_work.new.host c.in-Err.outcome
          c.in-Err.ensures.did;
    }
