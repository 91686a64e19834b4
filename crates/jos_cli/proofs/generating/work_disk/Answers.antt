use Rattle.jos_cli.proofs.WorkDisks.{no_other_fault}
use Rattle.jos_cli.proofs.generating.work_disk.Goals as goal

pub only_memory-requires : goal.only_memory-requires
only_memory-requires c =
    no_other_fault c.args.seed c.in-Err.fault (rw (c.deref.ensures.value, c.in_ok-files.ensures) at c.in-Err.ensures.fault)
