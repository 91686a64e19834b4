use Rattle.std.proofs.Common.{◌≡◌, ◌+◌, ◌*◌, ◌≤◌, drop}
use Rattle.fs_make.specs.MakeFaults.{spans_of}
use Rattle.fs_make.proofs.blocks.spans_of.Given as goal

-- the blocks so far and those of the files that are still to come
abbrev pub invariant-loop-file : goal.invariant-loop-file
invariant-loop-file l = record {
  all : l.blocks + spans_of (drop l.file-index l.files) ≡ spans_of l.files;
  small : l.blocks ≤ 1035 * l.file-index;
}
