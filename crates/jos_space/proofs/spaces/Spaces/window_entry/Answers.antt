use Rattle.std.proofs.Common.{◌∙◌, sym, ap}
use Rattle.std.specs.Option.{option_map}
use Rattle.jos_base.specs.Windows.{read_only}
use Rattle.jos_space.specs.Frames.{state}
use Rattle.jos_space.proofs.AtHand.{high_page, walked_above}
use Rattle.jos_space.proofs.spaces.Spaces.window_entry.Goals as goal

pub returns-in-None : goal.returns-in-None
returns-in-None c =
    ap (option_map read_only) c.in-None.ensures
    ∙ sym (walked_above (state c.args.self.now) c.args.space c.args.number (high_page c.args.number c.requires.number))

pub returns-in-Some : goal.returns-in-Some
returns-in-Some c =
    ap (option_map read_only) c.in-Some.ensures
    ∙ sym (walked_above (state c.args.self.now) c.args.space c.args.number (high_page c.args.number c.requires.number))
