-- What two calls leave as it was.
use Rattle.std.proofs.Common.{◌∙◌}
use Rattle.jos_host.specs.Frames.{Unchanged}

pub still : {H A B C D : Type 0} {a : H → A} {b : H → B} {c : H → C} {d : H → D} {old mid new : H} →
    Unchanged a b c d old mid → Unchanged a b c d mid new → Unchanged a b c d old new
still one two = record {
  first = two.first ∙ one.first;
  second = two.second ∙ one.second;
  third = two.third ∙ one.third;
  fourth = two.fourth ∙ one.fourth;
}
