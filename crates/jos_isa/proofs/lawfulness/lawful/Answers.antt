use Rattle.std.proofs.Common.{sym, ap, ◌∙◌}
use Rattle.jos_isa.specs.Lawful.{fits_format}
use Rattle.jos_isa.proofs.Booleans.{no_false}
use Rattle.jos_isa.proofs.Encodings.{lawful_parts}
use Rattle.jos_isa.proofs.FoundLawful.{spelled_lawful}
use Rattle.jos_isa.proofs.lawfulness.lawful.Goals as goal
use Rattle.jos_isa.proofs.lawfulness.lawful.Goals.{then-is_numbered, else-is_numbered}

pub returns-then-is_named-clause-spelled : goal.returns-then-is_named-clause-spelled
returns-then-is_named-clause-spelled c bytes are h =
    let parts = lawful_parts c.args.insn.now (spelled_lawful c.args.insn.now bytes h are) in
    c.fits_format.ensures ∙ ap (fits_format c.args.insn.now) c.format_for.ensures ∙ parts.2

pub returns-else-is_named-clause-spelled : goal.returns-else-is_named-clause-spelled
returns-else-is_named-clause-spelled c bytes are h =
    let parts = lawful_parts c.args.insn.now (spelled_lawful c.args.insn.now bytes h are) in
    elim c.if-is_numbered.branch [
      | then-is_numbered w ↦ w.value-is ∙ w.is_named.ensures ∙ parts.1
      | else-is_numbered w ↦ no_false (sym w.if-is_numbered.false ∙ c.is_numbered.ensures ∙ parts.0)
    ]
