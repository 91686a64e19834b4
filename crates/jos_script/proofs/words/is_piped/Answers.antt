use Rattle.std.proofs.Common.{◌≡◌, ◌<◌, length, map, sym, ap, ◌∙◌, arith}
use Rattle.jos_shell.specs.Grammar.{Asked, asked_by}
use Rattle.jos_script.proofs.Commands.{command_told}
use Rattle.jos_script.proofs.words.is_piped.Goals as goal

pub returns-clause-told : goal.returns-clause-told
returns-clause-told c =
    let same : length c.deref.result.now ≡ length c.commands-commands.result.items = ap length c.deref.ensures.0 in
    let within : c.args.number < length c.deref.result.now = omega arith in
    ap (λ (asked : Asked). asked.piped) (sym
    (command_told c.args.line.now c.deref.result.now c.args.number c.index-deref-number.result (c.commands-commands.ensures ∙ ap (map asked_by) (sym c.deref.ensures.0)) within))
