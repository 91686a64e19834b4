-- The laws of the changes from which the acts follow, together.
use Rattle.fs_acts.proofs.DiskCounts.{disks-counted}
use Rattle.fs_acts.proofs.FreeCounted.{blocks-counted}
use Rattle.fs_acts.proofs.Ways.{ways-lead}
use Rattle.fs_acts.proofs.WayNames.{ways-names}
use Rattle.fs_acts.proofs.Paths.{paths-lead}
use Rattle.fs_acts.proofs.FilePuts.{overwrites-acts, fills-acts}
use Rattle.fs_acts.proofs.FileData.{cuts-acts}
use Rattle.fs_acts.proofs.IndirectTaken.{taken-indirect}
use Rattle.fs_acts.proofs.Indirects.{given-indirect}
use Rattle.fs_acts.proofs.MoreFiles.{taken-zeros}
use Rattle.fs_acts.proofs.MoreSlots.{taken-empty}
use Rattle.fs_acts.proofs.Given.{given-blocks}
use Rattle.fs_acts.proofs.Made.{makes-acts}
use Rattle.fs_acts.proofs.Removed.{empties-removed}
use Rattle.fs_acts.proofs.ComposedSteps.{ChangesAreActs}

pub changes-acts : ChangesAreActs
changes-acts = record {
  counted = disks-counted;
  blocks = blocks-counted;
  ways = ways-lead;
  names = ways-names;
  paths = paths-lead;
  overwrites = overwrites-acts;
  cuts = cuts-acts;
  fills = fills-acts;
  taken_indirect = taken-indirect;
  given_indirect = given-indirect;
  taken_blocks = taken-zeros;
  taken_records = taken-empty;
  given_blocks = given-blocks;
  made = makes-acts;
  emptied = empties-removed;
}
