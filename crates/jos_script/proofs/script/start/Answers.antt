use Rattle.std.proofs.Common.{◌∙◌, ap, map, List, ℕ, Some, None}
use Rattle.jos_shell.specs.Grammar.{asked_by}
use Rattle.jos_script.specs.ScriptPlaces.{runs_from}
use Rattle.jos_script.proofs.Commands.{at-front}
use Rattle.jos_script.proofs.script.start.Goals as goal

pub returns-in-Ok : goal.returns-in-Ok
returns-in-Ok c =
    c.begin.ensures
    ∙ ap (λ (children : List ℕ). runs_from c.args.line.now c.args.last 0 (Some (record { before = None; children = children }))) c.new.ensures
    ∙ at-front c.args.line.now c.args.last (map asked_by c.in-Ok.field-0.commands.items) c.in-Ok.ensures.ok
