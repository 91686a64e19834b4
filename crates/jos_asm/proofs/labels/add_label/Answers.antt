use Rattle.std.proofs.Common.{◌≡◌, Some, None, sym, ◌∙◌}
use Rattle.std.proofs.lemmas.Map.Text.{btree_map_updates_str}
use Rattle.jos_asm.specs.declared.fault.AsmFault.TheVariants.{Twice}
use Rattle.jos_asm.specs.Labels.{labelled}
use Rattle.jos_asm.proofs.Passes.{once_if}
use Rattle.jos_asm.proofs.labels.add_label.Goals as goal

pub returns-in-Ok-None-clause-found : goal.returns-in-Ok-None-clause-found
returns-in-Ok-None-clause-found c =
    let absent : labelled c.args.labels.now c.as_str.result.now ≡ None = sym c.in-Ok-None.ensures.old ∙ c.in-Ok-None.field-0-is in
    rw (c.in-Label.is, ← c.as_str.ensures) (
      once_if (labelled c.args.labels.now c.as_str.result.now) (Twice c.as_str.result.now) absent,
      λ name. btree_map_updates_str c.as_str.result.now c.args.labels.now c.insert.new.self (Some c.args.at) c.in-Ok-None.ensures.updates name,
    )
