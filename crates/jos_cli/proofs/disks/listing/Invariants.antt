use Rattle.std.proofs.Common.{◌≡◌, ◌≤◌, ◌*◌, length, map, take}
use Rattle.std.specs.Prelude.{vec_capacity}
use Rattle.fs_contents.specs.Contents.{told_of_entry}
use Rattle.jos_cli.specs.declared.disks.TheConstants.{RECORD_LINE_MAX}
use Rattle.jos_cli.specs.Disks.{listing}
use Rattle.jos_cli.proofs.disks.listing.Given as goal

abbrev pub invariant-loop-entry : goal.invariant-loop-entry
invariant-loop-entry l = record {
  lines : l.text.items ≡ listing (map told_of_entry (take l.entry-index l.entries));
  short : length l.text.items ≤ l.entry-index * RECORD_LINE_MAX;
  room : length l.entries * RECORD_LINE_MAX ≤ vec_capacity l.text;
}
