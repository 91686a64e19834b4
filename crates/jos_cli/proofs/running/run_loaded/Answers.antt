use Rattle.std.proofs.Common.{ap, subst, ◌∙◌}
use Rattle.jos_host.specs.Frames.{around, from_to}
use Rattle.jos_words.specs.Commands.{run_in_bytes}
use Rattle.jos_elf.specs.Parsed.{parsed}
use Rattle.lib_os.specs.Disk.{DiskFile}
use Rattle.jos_run.specs.RunEnds.{Job, AnswersFor}
use Rattle.jos_run.specs.Worlds.{told_disk}
use Rattle.jos_cli.specs.RunAnswers.{disk_file_of, job_of}
use Rattle.jos_cli.specs.Stages.{gathered_program_of, settings_of}
use Rattle.jos_cli.proofs.RunAnswered.{given_is}
use Rattle.jos_cli.proofs.RunDisks.{touches_none}
use Rattle.jos_cli.proofs.running.run_loaded.Goals as goal

pub returns-in_default-clause-disk_only : goal.returns-in_default-clause-disk_only
returns-in_default-clause-disk_only g c =
    touches_none (disk_file_of (run_in_bytes c.args.words.now) (gathered_program_of c.args.read)) (g.H.Host.files c.args.host.now) (g.H.Host.asked c.args.host.now)

pub run-requires-clause-read : goal.run-requires-clause-read
run-requires-clause-read g c = ap parsed c.deref.ensures.value ∙ c.requires.read

pub returns-clause-told : goal.returns-clause-told
returns-clause-told g c =
    let read = c.args.read in
    let r = run_in_bytes c.args.words.now in
    let console = around g.H.Host.console c.args.host.now c.run.new.host in
    subst (λ (d : DiskFile). AnswersFor (job_of r (gathered_program_of read)) c.run.result
    (from_to (told_disk (g.H.Host.files c.args.host.now) d) (told_disk (g.H.Host.files c.run.new.host) d)) console) c.in-Ok.ensures
    (subst (λ (p : Job). AnswersFor p c.run.result
    (from_to (told_disk (g.H.Host.files c.args.host.now) c.in-Ok.disk) (told_disk (g.H.Host.files c.run.new.host) c.in-Ok.disk)) console)
    (given_is r read.blocks read.schedule read.input.items _ _ read.image read.file.items c.deref.result.now c.requires.may.are
    (c.settings_of-settings.ensures.settings ∙ ap settings_of c.numbers_of_run.ensures) c.deref.ensures.value)
    c.run.ensures.told)
