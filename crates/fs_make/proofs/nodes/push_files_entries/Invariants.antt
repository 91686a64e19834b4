use Rattle.std.proofs.Common.{◌≡◌, ◌+◌, ◌*◌, ◌++◌, length, drop}
use Rattle.fs_layout.specs.declared.numbers.TheConstants.{RECORDSIZE}
use Rattle.fs_make.specs.MakeFaults.{spans_of}
use Rattle.fs_make.specs.MadeImage.{files_entries}
use Rattle.fs_make.proofs.nodes.push_files_entries.Given as goal

-- what is added so far, and what is still to come
abbrev pub invariant-loop-file : goal.invariant-loop-file
invariant-loop-file l = record {
  all : l.image.items ++ files_entries l.block (drop l.file-index l.files) ≡ l.initial.image.items ++ files_entries l.first l.files;
  long : length l.image.items ≡ length l.initial.image.items + RECORDSIZE * l.file-index;
  room : l.block + spans_of (drop l.file-index l.files) ≡ l.first + spans_of l.files;
}
