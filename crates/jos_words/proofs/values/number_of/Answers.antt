use Rattle.std.proofs.Common.{◌∙◌, sym}
use Rattle.jos_words.proofs.Numbers.{is_parsed, number_parsed}
use Rattle.jos_words.proofs.values.number_of.Goals as goal

pub unwrap-requires : goal.unwrap-requires
unwrap-requires c = is_parsed c.args.text.now c.parse.result (sym c.is_number.ensures ∙ c.if-is_number.true) c.parse.ensures.value.0

pub returns-then-is_number : goal.returns-then-is_number
returns-then-is_number c = number_parsed c.args.text.now c.parse.result c.unwrap.result (sym c.is_number.ensures ∙ c.if-is_number.true) c.parse.ensures.value.0 c.unwrap.ensures
