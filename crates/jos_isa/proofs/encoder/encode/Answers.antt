use Rattle.std.proofs.Common.{◌≡◌, ℕ, ◌≤◌, List, ◌++◌, length, take, refl, sym, ap, subst, ◌∙◌, arith}
use Rattle.std.proofs.lemmas.List.{length-take-le}
use Rattle.jos_isa.specs.declared.decoder.Decoded.TheVariants.{Found}
use Rattle.jos_isa.specs.Spelling.{Spells}
use Rattle.jos_isa.proofs.Instructions.{only}
use Rattle.jos_isa.proofs.Longest.{longest}
use Rattle.jos_isa.proofs.Encodings.{lawful_spelled}
use Rattle.jos_isa.proofs.encoder.encode.Goals as goal

spelled : goal.returns-clause-spelled
spelled c = subst (λ (l : List ℕ). Spells c.args.insn.now l) (sym c.put_instruction.ensures.written) (lawful_spelled c.args.insn.now c.numbers_fit.ensures c.requires.lawful)

pub returns-clause-spelled : goal.returns-clause-spelled
returns-clause-spelled c = spelled c

pub returns-clause-within : goal.returns-clause-within
returns-clause-within c =
    let long : length c.put_instruction.new.out ≡ 15 = c.put_instruction.array_long in
    let within : c.put_instruction.result ≤ length c.put_instruction.new.out = omega (arith, c.put_instruction.ensures.within) in
    let len : length (take c.put_instruction.result c.put_instruction.new.out) ≡ c.put_instruction.result = length-take-le c.put_instruction.result c.put_instruction.new.out within in
    let most : length (take c.put_instruction.result c.put_instruction.new.out) ≤ 11 = longest c.args.insn.now (take c.put_instruction.result c.put_instruction.new.out) (spelled c) in
    omega arith

pub returns-clause-again : goal.returns-clause-again
returns-clause-again c more =
    let long : length c.put_instruction.new.out ≡ 15 = c.put_instruction.array_long in
    let within : c.put_instruction.result ≤ length c.put_instruction.new.out = omega (arith, c.put_instruction.ensures.within) in
    let len : length (take c.put_instruction.result c.put_instruction.new.out) ≡ c.put_instruction.result = length-take-le c.put_instruction.result c.put_instruction.new.out within in
    only (take c.put_instruction.result c.put_instruction.new.out ++ more) c.args.insn.now (take c.put_instruction.result c.put_instruction.new.out) more refl (spelled c) ∙ ap (λ (n : ℕ). Found c.args.insn.now n) len
