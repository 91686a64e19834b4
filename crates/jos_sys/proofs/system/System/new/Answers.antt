use Rattle.std.proofs.Common.{◌∙◌, sym, ap}
use Rattle.jos_base.specs.Environments.{records_of}
use Rattle.jos_sys.proofs.Keeping.{first_keeps}
use Rattle.jos_sys.proofs.system.System.new.Goals as goal

pub returns-clause-spaces : goal.returns-clause-spaces
returns-clause-spaces c = record {
  spaces = first_keeps c.args.frames _ _ c.in_ok-spaces.ensures.state c.in_ok-table.ensures;
  records = c.in_ok-spaces.ensures.records ∙ ap records_of (sym c.in_ok-table.ensures);
}
