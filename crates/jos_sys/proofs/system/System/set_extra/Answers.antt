use Rattle.std.proofs.Common.{◌∙◌, refl, sym}
use Rattle.jos_sys.proofs.Keeping.{keeps_slot}
use Rattle.jos_sys.proofs.Showing.{extra_unshown, shown_same}
use Rattle.jos_sys.proofs.system.System.set_extra.Goals as goal

pub returns-clause-spaces : goal.returns-clause-spaces
returns-clause-spaces c = λ keeps. record {
  spaces = keeps_slot _ _ _ c.args.slot _ c.set_extra.ensures.set refl refl keeps.spaces;
  records = keeps.records ∙ sym (shown_same _ _ c.args.slot _ c.set_extra.ensures.set (extra_unshown _ c.args.extra.0));
}
