use Rattle.std.proofs.Common.{◌≡◌, ◌+◌, ◌++◌, drop}
use Rattle.fs_make.specs.MakeFaults.{spans_of}
use Rattle.fs_make.specs.MadeImage.{files_blocks}
use Rattle.fs_make.proofs.nodes.push_files_blocks.Given as goal

-- what is added so far, and what is still to come
abbrev pub invariant-loop-file : goal.invariant-loop-file
invariant-loop-file l = record {
  all : l.image.items ++ files_blocks l.block (drop l.file-index l.files) ≡ l.initial.image.items ++ files_blocks l.first l.files;
  room : l.block + spans_of (drop l.file-index l.files) ≡ l.first + spans_of l.files;
}
