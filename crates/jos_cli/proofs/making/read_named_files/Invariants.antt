use Rattle.std.proofs.Common.{map, take, None}
use Rattle.jos_words.specs.Arguments.{word_in_bytes}
use Rattle.jos_cli.specs.Making.{named_file}
use Rattle.jos_cli.specs.FilesAsked.{files_calls}
use Rattle.jos_cli.specs.Outside.{outside}
use Rattle.jos_cli.specs.Effects.{ReadsFiles}
use Rattle.jos_cli.proofs.AllRead.{HasRead}
use Rattle.jos_cli.proofs.making.read_named_files.Given as goal

abbrev pub invariant-loop-word : goal.invariant-loop-word
invariant-loop-word g l = record {
  read : HasRead named_file (g.H.Host.files l.fn.host) (map word_in_bytes (take l.word-index l.words)) l.files.items;
  did : ReadsFiles (files_calls (map word_in_bytes (take l.word-index l.words))) None (outside g.H.Host l.fn.host l.host);
}
