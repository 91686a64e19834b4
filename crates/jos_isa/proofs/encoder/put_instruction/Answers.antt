use Rattle.std.proofs.Common.{◌≡◌, Option, true, sym, subst}
use Rattle.jos_isa.specs.declared.opcode_map.Format.{Format}
use Rattle.jos_isa.specs.Lawful.{fits_format}
use Rattle.jos_isa.proofs.Encodings.{lawful_parts}
use Rattle.jos_isa.proofs.Kept.{kept_on}
use Rattle.jos_isa.proofs.encoder.put_instruction.Goals as goal

pub put_format-requires-clause-numbered : goal.put_format-requires-clause-numbered
put_format-requires-clause-numbered c = (lawful_parts c.args.insn c.requires.lawful).0

pub put_format-requires-clause-named : goal.put_format-requires-clause-named
put_format-requires-clause-named c = (lawful_parts c.args.insn c.requires.lawful).1

pub put_format-requires-clause-lawful : goal.put_format-requires-clause-lawful
put_format-requires-clause-lawful c =
    subst (λ (o : Option Format). fits_format c.args.insn o ≡ true) (sym c.format_for.ensures) (lawful_parts c.args.insn c.requires.lawful).2

pub returns-clause-kept : goal.returns-clause-kept
returns-clause-kept c =
    kept_on c.put_opcode-at.result c.put_format.result c.args.out.now c.put_opcode-at.new.out c.put_format.new.out c.put_format.ensures.behind c.put_opcode-at.ensures.kept c.put_format.ensures.kept
