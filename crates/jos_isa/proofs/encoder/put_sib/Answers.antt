use Rattle.std.proofs.Common.{ℕ, ◌<◌, sym, subst}
use Rattle.jos_isa.specs.Lawful.{is_base, is_index}
use Rattle.jos_isa.proofs.Writers.{base_small, index_small, scale_small}
use Rattle.jos_isa.proofs.encoder.put_sib.Goals as goal
use Rattle.std.proofs.lemmas.Bool.{and_parts}

pub three_fields-sib-requires-clause-high : goal.three_fields-sib-requires-clause-high
three_fields-sib-requires-clause-high c =
    scale_small c.args.arg.index c.args.arg.scale (and_parts (is_base c.args.arg.base c.args.arg.disp) (is_index c.args.arg.index c.args.arg.scale) c.requires.lawful).1

pub three_fields-sib-requires-clause-middle : goal.three_fields-sib-requires-clause-middle
three_fields-sib-requires-clause-middle c =
    subst (λ (n : ℕ). n < 8) (sym c.index_number.ensures)
    (index_small c.args.arg.index c.args.arg.scale (and_parts (is_base c.args.arg.base c.args.arg.disp) (is_index c.args.arg.index c.args.arg.scale) c.requires.lawful).1)

pub three_fields-sib-requires-clause-low : goal.three_fields-sib-requires-clause-low
three_fields-sib-requires-clause-low c =
    subst (λ (n : ℕ). n < 8) (sym c.base_number.ensures)
    (base_small c.args.arg.base c.args.arg.disp (and_parts (is_base c.args.arg.base c.args.arg.disp) (is_index c.args.arg.index c.args.arg.scale) c.requires.lawful).0)
