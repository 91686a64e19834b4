use Rattle.std.proofs.Common.{◌≡◌, ℕ, ◌+◌, sym, ap, subst, ◌∙◌}
use Rattle.jos_isa.specs.Lengths.{entry_rest, least_length, AreShortBelow}
use Rattle.jos_isa.proofs.LeastLengths.{sure_short, one_is, two_is}
use Rattle.jos_isa.proofs.lengths.least_length.Goals as goal

pub returns-in-len1-clause-short : goal.returns-in-len1-clause-short
returns-in-len1-clause-short c =
    let rest = c.entry_rest.ensures ∙ ap entry_rest c.opcode_entry.ensures in
    let is : least_length c.args.bytes.now ≡ 1 + c.entry_rest.result =
    one_is c.args.bytes.now c.in-len1.len_at_least c.in-len1.len_below ∙ ap (λ (n : ℕ). 1 + n) (sym rest)
    in
    subst (λ (n : ℕ). AreShortBelow n c.args.bytes.now) is (sure_short c.args.bytes.now)

pub returns-in-len2-clause-short : goal.returns-in-len2-clause-short
returns-in-len2-clause-short c =
    let is : least_length c.args.bytes.now ≡ c.length_by_two.result =
    two_is c.args.bytes.now c.in-len2.len_at_least c.in-len2.len_below ∙ sym c.length_by_two.ensures
    in
    subst (λ (n : ℕ). AreShortBelow n c.args.bytes.now) is (sure_short c.args.bytes.now)
