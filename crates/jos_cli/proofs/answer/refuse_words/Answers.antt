use Rattle.std.proofs.Common.{refl}
use Rattle.jos_cli.specs.declared.outcome.Outcome.TheVariants.{NoMemory}
use Rattle.jos_cli.specs.Commands.{command_of}
use Rattle.jos_host.specs.Frames.{from_to, around}
use Rattle.jos_cli.proofs.Tops.{at_no_memory, answers_behind, behind_memory, command_cause, not_noted}
use Rattle.jos_cli.proofs.answer.refuse_words.Goals as goal

pub returns-in-Ok-clause-answer : goal.returns-in-Ok-clause-answer
returns-in-Ok-clause-answer g c words = at_no_memory _ _ _ _ c.in-Ok.ensures.did.console

pub returns-in-Err-clause-answer : goal.returns-in-Err-clause-answer
returns-in-Err-clause-answer g c words =
    let command = command_of words in
    rw (c.host_fault.ensures, ← behind_memory command) (answers_behind (around g.H.Host.files c.args.host.now c.args.host.now) _ command NoMemory
    (around g.H.Host.console c.args.host.now c.args.host.now) _ _ (at_no_memory _ _ command _ refl) c.in-Err.ensures.did.files c.in-Err.ensures.did.console)

pub returns-in-Err-clause-fault : goal.returns-in-Err-clause-fault
returns-in-Err-clause-fault g c words =
    let faults = g.H.Host.faults c.args.host.now in
    rw c.host_fault.ensures (not_noted (around g.H.Host.files c.args.host.now c.args.host.now) (g.H.Host.input c.args.host.now) words (from_to faults faults) (g.H.Host.faults c.write_note.new.host)
    (around g.H.Host.console c.args.host.now c.args.host.now) (around g.H.Host.notes c.args.host.now c.write_note.new.host)
    (g.H.Host.files c.write_note.new.host) (g.H.Host.console c.write_note.new.host) c.in-Err.ensures.did.cause.rose c.in-Err.ensures.did.files
    c.in-Err.ensures.did.console NoMemory (command_cause (command_of words) (from_to faults faults) NoMemory refl)
    (at_no_memory (around g.H.Host.files c.args.host.now c.args.host.now) (g.H.Host.input c.args.host.now) (command_of words) (around g.H.Host.console c.args.host.now c.args.host.now) refl)
    c.in-Err.ensures.told)
