use Rattle.std.proofs.Common.{◌∙◌, arith}
use Rattle.jos_cli.proofs.DisksRead.{nothing_listed, line_written}
use Rattle.jos_cli.proofs.disks.listing.Goals as goal

pub loop-entry-init : goal.loop-entry-init
loop-entry-init c = record {
  lines = c.requires.empty ∙ nothing_listed;
  short = rw c.requires.empty (omega arith);
  room = c.requires.room;
}

pub loop-entry-preserved : goal.loop-entry-preserved
loop-entry-preserved c = record {
  lines = line_written c.args.entries.now c.loop-entry.entry-index _ _ _ c.loop-entry-test.true c.loop-entry.invariant.lines c.write_line.ensures.line;
  short = omega (arith, c.write_line.ensures.short, c.loop-entry.invariant.short);
  room = omega (arith, c.write_line.ensures.room, c.loop-entry.invariant.room);
}
