use Rattle.std.proofs.Common.{ℕ, ◌<◌, sym, subst}
use Rattle.jos_isa.proofs.Places.{field_small}
use Rattle.jos_isa.proofs.Kept.{kept_on}
use Rattle.jos_isa.proofs.encoder.put_format.Goals as goal

pub put_operand-at-requires-clause-reg : goal.put_operand-at-requires-clause-reg
put_operand-at-requires-clause-reg c =
    subst (λ (n : ℕ). n < 8) (sym c.field_of-field.ensures) (field_small _ c.args.insn.row c.args.insn.reg c.requires.numbered c.requires.named)

pub returns-in-Some-ModRm-clause-kept : goal.returns-in-Some-ModRm-clause-kept
returns-in-Some-ModRm-clause-kept c =
    kept_on c.put_operand-at.result c.put_chosen.result c.args.out.now c.put_operand-at.new.out c.put_chosen.new.out c.put_chosen.ensures.behind c.put_operand-at.ensures.kept c.put_chosen.ensures.kept
