use Rattle.std.proofs.Common.{◌/◌, sym, arith}
use Rattle.jos_space.proofs.Marking.{entries_none, regions_past}
use Rattle.jos_space.proofs.spaces.Spaces.look.Goals as goal

pub returns-then-va-ge-UTOP-clause-entry : goal.returns-then-va-ge-UTOP-clause-entry
returns-then-va-ge-UTOP-clause-entry c = sym (entries_none c.args.self.now c.args.space.directory.0 (c.args.va / 4096) (regions_past c.args.self.now c.args.space.directory.0 (c.args.va / 4096 / 1024) (omega arith)))
