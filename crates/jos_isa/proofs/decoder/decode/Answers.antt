use Rattle.std.proofs.Common.{◌≡◌, true, arith, ◌≤◌, ◌∙◌, length, take, sym, subst}
use Rattle.jos_isa.specs.declared.decoder.Decoded.{Decoded}
use Rattle.jos_isa.specs.Spelling.{Spells}
use Rattle.jos_isa.specs.ClauseWords.{IfFound}
use Rattle.jos_isa.proofs.Instructions.{found, only, short, only_short}
use Rattle.jos_isa.proofs.Longest.{found_longest, bounded}
use Rattle.jos_isa.specs.Lawful.{is_lawful}
use Rattle.jos_isa.proofs.FoundLawful.{found_lawful}
use Rattle.jos_isa.proofs.decoder.decode.Goals as goal

pub returns-clause-found : goal.returns-clause-found
returns-clause-found c =
    subst (λ (d : Decoded). IfFound d (λ insn len. (len ≤ length c.args.bytes.now) × Spells insn (take len c.args.bytes.now)))
    (sym c.decode_exactly.ensures) (found c.args.bytes.now)

pub returns-clause-only : goal.returns-clause-only
returns-clause-only c insn front more e h = c.decode_exactly.ensures ∙ only c.args.bytes.now insn front more e h

pub returns-clause-short : goal.returns-clause-short
returns-clause-short c e = short c.args.bytes.now (sym c.decode_exactly.ensures ∙ e)

pub returns-clause-only_short : goal.returns-clause-only_short
returns-clause-only_short c insn next more h = c.decode_exactly.ensures ∙ only_short c.args.bytes.now insn next more h

pub returns-clause-longest : goal.returns-clause-longest
returns-clause-longest c =
    subst (λ (d : Decoded). IfFound d (λ insn len. len ≤ 11)) (sym c.decode_exactly.ensures) (found_longest c.args.bytes.now)

pub returns-clause-bounded : goal.returns-clause-bounded
returns-clause-bounded c e = bounded c.args.bytes.now (sym c.decode_exactly.ensures ∙ e)

pub returns-clause-lawful : goal.returns-clause-lawful
returns-clause-lawful c =
    subst (λ (d : Decoded). IfFound d (λ insn len. is_lawful insn ≡ true)) (sym c.decode_exactly.ensures) (found_lawful c.args.bytes.now (λ i. omega (arith, c.type_inv.bytes i)))
