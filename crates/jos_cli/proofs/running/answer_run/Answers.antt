use Rattle.std.proofs.Common.{Option, sym, subst}
use Rattle.jos_host.specs.Files.{Files}
use Rattle.jos_host.specs.Frames.{around}
use Rattle.lib_os.specs.Disk.{HasBlocks}
use Rattle.jos_words.specs.Commands.{run_in_bytes}
use Rattle.jos_cli.specs.Outside.{outside}
use Rattle.jos_cli.specs.RunAnswers.{job_of, disk_file_of, disks_of}
use Rattle.jos_cli.specs.Stages.{gathered_program_of}
use Rattle.jos_cli.proofs.RunAnswered.{runs_as, ran_cause}
use Rattle.jos_cli.proofs.RunDisks.{has_blocks}
use Rattle.jos_cli.proofs.Doing.{did_nothing, run_unread, run_ran}
use Rattle.jos_cli.proofs.running.answer_run.Goals as goal

pub returns-in_default : goal.returns-in_default
returns-in_default g c = record { did = did_nothing g.H.Host c.args.host.now _ }

pub run_loaded-requires-clause-whole : goal.run_loaded-requires-clause-whole
run_loaded-requires-clause-whole g c =
    let r = run_in_bytes c.args.words.now in
    let told = c.in-Ok-gather_program.ensures.told in
    let read = gathered_program_of c.in-Ok-gather_program.read in
    subst (λ (files : Option Files). HasBlocks files (disk_file_of r read)) (sym c.in-Ok-gather_program.ensures.did.files)
    (has_blocks r told.0 told.1 (g.H.Host.files c.args.host.now) read told.2 told.4)

pub returns-in-Ok-gather_program : goal.returns-in-Ok-gather_program
returns-in-Ok-gather_program g c =
    let r = run_in_bytes c.args.words.now in
    let told = c.in-Ok-gather_program.ensures.told in
    let read = gathered_program_of c.in-Ok-gather_program.read in
    let ran = c.run_loaded.result in
    record {
      did = rw c.outcome_of_run.ensures (run_ran g.H.Host c.args.host.now c.gather_program.new.host c.run_loaded.new.host told.1 told.3 ran
          told.0 read r told.2 told.4 c.in-Ok-gather_program.ensures.did
          (runs_as (job_of r read) ran (disks_of r read (around g.H.Host.files c.gather_program.new.host c.run_loaded.new.host))
          (around g.H.Host.console c.gather_program.new.host c.run_loaded.new.host) c.run_loaded.ensures.told)
          c.run_loaded.ensures.disk_only c.run_loaded.ensures.input c.run_loaded.ensures.notes c.run_loaded.ensures.unasked
          (ran_cause ran (around g.H.Host.faults c.gather_program.new.host c.run_loaded.new.host) c.run_loaded.ensures.cause));
    }

pub returns : goal.returns
returns g c =
    let told = c.in-Err.ensures.told in
    record {
      did = run_unread c.in-Err.outcome (outside g.H.Host c.args.host.now c.gather_program.new.host) told.1 told.3 told.0 (run_in_bytes c.args.words.now) told.2 told.4
          c.in-Err.ensures.did;
    }
