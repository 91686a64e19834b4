use Rattle.jos_sys.proofs.Showing.{all_shown}
use Rattle.jos_sys.proofs.system.show.Goals as goal

pub returns-clause-records : goal.returns-clause-records
returns-clause-records c = λ others.
    all_shown _ c.args.slot _ _ _ _ c.requires c.get.ensures c.record-record.ensures others c.set_env_record.ensures.records
