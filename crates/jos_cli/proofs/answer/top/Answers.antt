use Rattle.std.proofs.Common.{ℕ, sym, subst, ◌∙◌}
use Rattle.jos_host.specs.Told.{Rose}
use Rattle.jos_host.specs.Frames.{around}
use Rattle.jos_words.specs.Arguments.{texts}
use Rattle.jos_cli.specs.Commands.{command_of}
use Rattle.jos_cli.specs.Stages.{cut_if}
use Rattle.jos_cli.proofs.Tops.{answers_behind, cause_behind, is_noted, noted, not_noted, unwritten}
use Rattle.jos_cli.proofs.Cases.{is_run, is_run_program, is_made, is_listed, is_printed}
use Rattle.jos_cli.proofs.Generated.{is_generated, is_accepted}
use Rattle.jos_cli.proofs.FilesWritten.{leaves_fault, leaves_at_no_memory, no_good_disk}
use Rattle.jos_cli.proofs.Leaving.{left_fault}
use Rattle.jos_cli.proofs.answer.top.Goals as goal

pub returns-in-Ok-clause-notes : goal.returns-in-Ok-clause-notes
returns-in-Ok-clause-notes g c =
    is_noted _ c.answer_words-outcome.result.0 _ (rw c.answer_words-outcome.ensures.did.notes at c.in-Ok.ensures.told)

pub returns-in-Ok-clause-fault : goal.returns-in-Ok-clause-fault
returns-in-Ok-clause-fault g c =
    noted _ _ _ c.answer_words-outcome.result.0 _ _ _ (rw c.answer_words-outcome.ensures.did.notes at c.in-Ok.ensures.told)

pub returns-in-Ok-clause-complete : goal.returns-in-Ok-clause-complete
returns-in-Ok-clause-complete g c files input e f i is can calm =
    let faults = g.H.Host.faults c.args.host.now in
    is_run _ _ _ (around g.H.Host.faults c.args.host.now c.answer_words-outcome.new.host) c.answer_words-outcome.result.0
    (around g.H.Host.console c.args.host.now c.answer_words-outcome.new.host) c.answer_words-outcome.ensures.did.answer c.answer_words-outcome.ensures.did.cause
    files input e f i is can (λ rose. calm (subst (λ (n : ℕ). Rose faults n) (sym c.in-Ok.ensures.did.cause.stayed) rose))

pub returns-in-Err-clause-answer : goal.returns-in-Err-clause-answer
returns-in-Err-clause-answer g c =
    rw (c.note_fault.ensures, c.answer_words-outcome.ensures.cut) (answers_behind (around g.H.Host.files c.args.host.now c.answer_words-outcome.new.host) _ _
    c.answer_words-outcome.result.0 (around g.H.Host.console c.args.host.now c.answer_words-outcome.new.host) _ _ c.answer_words-outcome.ensures.did.answer
    c.in-Err.ensures.did.files c.in-Err.ensures.did.console)

pub returns-in-Err-clause-fault : goal.returns-in-Err-clause-fault
returns-in-Err-clause-fault g c =
    rw c.note_fault.ensures (not_noted (around g.H.Host.files c.args.host.now c.answer_words-outcome.new.host) _ _
    (around g.H.Host.faults c.args.host.now c.answer_words-outcome.new.host) _ (around g.H.Host.console c.args.host.now c.answer_words-outcome.new.host) _ _ _
    c.in-Err.ensures.did.cause.rose c.in-Err.ensures.did.files c.in-Err.ensures.did.console
    c.answer_words-outcome.result.0 c.answer_words-outcome.ensures.did.cause c.answer_words-outcome.ensures.did.answer
    (rw c.answer_words-outcome.ensures.did.notes at c.in-Err.ensures.told))

pub returns-in-Err-clause-files : goal.returns-in-Err-clause-files
returns-in-Err-clause-files g c =
    rw c.note_fault.ensures (leaves_fault (g.H.Host.files c.args.host.now) (g.H.Host.files c.answer_words-outcome.new.host) (g.H.Host.files c.write_note.new.host)
    (command_of (texts c.args.words.now)) c.answer_words-outcome.result.0 (cut_if c.answer_words-outcome.result.1 c.answer_words-outcome.result.0)
    c.answer_words-outcome.ensures.did.files c.in-Err.ensures.did.files)

pub returns-in-Err-clause-input : goal.returns-in-Err-clause-input
returns-in-Err-clause-input g c =
    rw c.note_fault.ensures (left_fault _ c.answer_words-outcome.result.0 _ _ _ _ c.answer_words-outcome.ensures.did.input c.in-Err.ensures.did.input)

pub returns-in-Ok-clause-disk_made : goal.returns-in-Ok-clause-disk_made
returns-in-Ok-clause-disk_made g c files one f is can calm =
    let faults = g.H.Host.faults c.args.host.now in
    is_made _ _ _ (around g.H.Host.faults c.args.host.now c.answer_words-outcome.new.host) c.answer_words-outcome.result.0
    (around g.H.Host.console c.args.host.now c.answer_words-outcome.new.host) c.answer_words-outcome.ensures.did.answer c.answer_words-outcome.ensures.did.cause
    (λ rose. calm (subst (λ (n : ℕ). Rose faults n) (sym c.in-Ok.ensures.did.cause.stayed) rose)) files f one is can

pub returns-in-Ok-clause-listed : goal.returns-in-Ok-clause-listed
returns-in-Ok-clause-listed g c files one f is can calm =
    let faults = g.H.Host.faults c.args.host.now in
    is_listed _ _ _ (around g.H.Host.faults c.args.host.now c.answer_words-outcome.new.host) c.answer_words-outcome.result.0
    (around g.H.Host.console c.args.host.now c.answer_words-outcome.new.host) c.answer_words-outcome.ensures.did.answer c.answer_words-outcome.ensures.did.cause
    (λ rose. calm (subst (λ (n : ℕ). Rose faults n) (sym c.in-Ok.ensures.did.cause.stayed) rose)) files f one is can

pub returns-in-Ok-clause-printed : goal.returns-in-Ok-clause-printed
returns-in-Ok-clause-printed g c files one f is can calm =
    let faults = g.H.Host.faults c.args.host.now in
    is_printed _ _ _ (around g.H.Host.faults c.args.host.now c.answer_words-outcome.new.host) c.answer_words-outcome.result.0
    (around g.H.Host.console c.args.host.now c.answer_words-outcome.new.host) c.answer_words-outcome.ensures.did.answer c.answer_words-outcome.ensures.did.cause
    (λ rose. calm (subst (λ (n : ℕ). Rose faults n) (sym c.in-Ok.ensures.did.cause.stayed) rose)) files f one is can

pub returns-in-Err-clause-disk : goal.returns-in-Err-clause-disk
returns-in-Err-clause-disk g c = rw c.note_fault.ensures (no_good_disk _ _ _)

pub returns-in-Ok-clause-ran : goal.returns-in-Ok-clause-ran
returns-in-Ok-clause-ran g c files input r f i is can calm =
    let faults = g.H.Host.faults c.args.host.now in
    is_run_program _ _ _ (around g.H.Host.faults c.args.host.now c.answer_words-outcome.new.host) c.answer_words-outcome.result.0
    (around g.H.Host.console c.args.host.now c.answer_words-outcome.new.host) c.answer_words-outcome.ensures.did.answer c.answer_words-outcome.ensures.did.cause
    files input r f i is can (λ rose. calm (subst (λ (n : ℕ). Rose faults n) (sym c.in-Ok.ensures.did.cause.stayed) rose))

pub returns-in-Ok-clause-generated : goal.returns-in-Ok-clause-generated
returns-in-Ok-clause-generated g c files input one f i is can calm =
    let faults = g.H.Host.faults c.args.host.now in
    is_generated _ _ _ (around g.H.Host.faults c.args.host.now c.answer_words-outcome.new.host) c.answer_words-outcome.result.0
    (around g.H.Host.console c.args.host.now c.answer_words-outcome.new.host) c.answer_words-outcome.ensures.did.answer c.answer_words-outcome.ensures.did.cause
    files input one f i is can (λ rose. calm (subst (λ (n : ℕ). Rose faults n) (sym c.in-Ok.ensures.did.cause.stayed) rose))

pub returns-in-Ok-clause-memory : goal.returns-in-Ok-clause-memory
returns-in-Ok-clause-memory g c is = (
  c.in-Ok.ensures.did.console ∙ unwritten _ _ _ (around g.H.Host.console c.args.host.now c.answer_words-outcome.new.host)
      (rw is at c.answer_words-outcome.ensures.did.answer),
  leaves_at_no_memory (command_of (texts c.args.words.now)) (g.H.Host.files c.args.host.now) (g.H.Host.files c.answer_words-outcome.new.host)
      (g.H.Host.files c.write_note.new.host) (rw is at c.answer_words-outcome.ensures.did.files) c.in-Ok.ensures.did.files,
)

pub returns-in-Err-clause-cause : goal.returns-in-Err-clause-cause
returns-in-Err-clause-cause g c =
    rw (c.note_fault.ensures, c.answer_words-outcome.ensures.cut) (cause_behind _ c.answer_words-outcome.result.0 (g.H.Host.faults c.args.host.now)
    (g.H.Host.faults c.answer_words-outcome.new.host) (g.H.Host.faults c.write_note.new.host) c.answer_words-outcome.ensures.did.cause c.in-Err.ensures.did.cause.rose
    c.in-Err.ensures.did.cause.later (g.met.H.Host.faults_fit c.write_note.new.host))

pub returns-in-Ok-clause-asked : goal.returns-in-Ok-clause-asked
returns-in-Ok-clause-asked g c = (g.H.Host.asked c.answer_words-outcome.new.host, c.answer_words-outcome.ensures.did.asked, c.in-Ok.ensures.asked)

pub returns-in-Err-clause-asked : goal.returns-in-Err-clause-asked
returns-in-Err-clause-asked g c = (g.H.Host.asked c.answer_words-outcome.new.host, c.answer_words-outcome.ensures.did.asked, c.in-Err.ensures.asked)

pub returns-in-Ok-clause-accepted : goal.returns-in-Ok-clause-accepted
returns-in-Ok-clause-accepted g c files one f is none =
    is_accepted (around g.H.Host.files c.args.host.now c.answer_words-outcome.new.host) _ _ c.answer_words-outcome.result.0
    (around g.H.Host.console c.args.host.now c.answer_words-outcome.new.host) c.answer_words-outcome.ensures.did.answer files one f is none

pub returns-in-Err-clause-accepted : goal.returns-in-Err-clause-accepted
returns-in-Err-clause-accepted g c files one f is none = rw c.note_fault.ensures tt
