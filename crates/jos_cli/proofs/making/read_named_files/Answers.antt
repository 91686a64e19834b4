use Rattle.std.proofs.Common.{List, [], ◌∷◌, ◌++◌, None, Some, map, sym, subst}
use Rattle.jos_words.specs.Arguments.{Word, word_in_bytes}
use Rattle.jos_cli.specs.declared.outcome.Outcome.TheVariants.{NoMemory}
use Rattle.jos_cli.specs.Found.{FileAt}
use Rattle.jos_cli.specs.Kinds.{kind_of}
use Rattle.jos_cli.specs.Making.{named_file, named_files}
use Rattle.jos_cli.specs.Stages.{AreFilesAt, RefusesBy}
use Rattle.jos_cli.specs.FilesAsked.{files_calls}
use Rattle.jos_cli.specs.Outside.{outside}
use Rattle.jos_cli.specs.Effects.{ReadsFiles}
use Rattle.jos_cli.proofs.Finding.{some_files}
use Rattle.jos_cli.proofs.WordsRead.{one_more, at_one}
use Rattle.jos_cli.proofs.AllRead.{HasRead, nothing_read, on_read, on_refused}
use Rattle.jos_cli.proofs.Doing.{no_file, one_file, file_refused, file_dropped}
use Rattle.jos_cli.proofs.making.read_named_files.Goals as goal

pub loop-word-init : goal.loop-word-init
loop-word-init g c = record {
  read = rw c.new-files.ensures.items (nothing_read named_file _);
  did = no_file g.H.Host c.args.host.now;
}

pub returns-in-Err-push-clause-told : goal.returns-in-Err-push-clause-told
returns-in-Err-push-clause-told g c =
    let files = some_files (g.H.Host.files c.args.host.now) (map word_in_bytes c.args.words.now) in (files.0, files.1, tt)

pub returns-in-Err-push-clause-did : goal.returns-in-Err-push-clause-did
returns-in-Err-push-clause-did g c =
    subst (λ (ws : List Word). ReadsFiles (files_calls ws) (Some NoMemory) (outside g.H.Host c.args.host.now c.read_named_file.new.host))
    (sym (at_one word_in_bytes c.args.words.now c.loop-word.word-index _ c.loop-word-test.true))
    (file_dropped g.H.Host _ c.loop-word.invariant.did _ _ c.in-Ok.ensures.did)

pub returns-in-Err-clause-told : goal.returns-in-Err-clause-told
returns-in-Err-clause-told g c =
    let told = rw c.loop-word.invariant.did.files at c.in-Err.ensures.told in
    subst (λ (ws : List Word). (x : List FileAt) × AreFilesAt (g.H.Host.files c.args.host.now) ws x × RefusesBy (named_files x) (kind_of c.in-Err.outcome))
    (sym (at_one word_in_bytes c.args.words.now c.loop-word.word-index _ c.loop-word-test.true))
    (on_refused c.loop-word.invariant.read _ _ told.0 (kind_of c.in-Err.outcome) told.1 told.2)

pub returns-in-Err-clause-did : goal.returns-in-Err-clause-did
returns-in-Err-clause-did g c =
    subst (λ (ws : List Word). ReadsFiles (files_calls ws) (Some c.in-Err.outcome) (outside g.H.Host c.args.host.now c.read_named_file.new.host))
    (sym (at_one word_in_bytes c.args.words.now c.loop-word.word-index _ c.loop-word-test.true))
    (file_refused g.H.Host _ c.loop-word.invariant.did _ _ c.in-Err.outcome c.in-Err.ensures.did)

pub loop-word-preserved : goal.loop-word-preserved
loop-word-preserved g c =
    let told = rw c.loop-word.invariant.did.files at c.in-Ok.ensures.told in
    let more = sym (one_more word_in_bytes c.args.words.now c.loop-word.word-index _ c.loop-word-test.true) in
    record {
      read =
          rw c.in-Ok-push.ensures.items (subst (λ (ws : List Word). HasRead named_file (g.H.Host.files c.args.host.now) ws (c.loop-word.files.items ++ c.in-Ok.file ∷ [])) more
          (on_read c.loop-word.invariant.read _ told.0 c.in-Ok.file told.1 told.2));
      did =
          subst (λ (ws : List Word). ReadsFiles (files_calls ws) None (outside g.H.Host c.args.host.now c.read_named_file.new.host)) more
          (one_file g.H.Host _ c.loop-word.invariant.did _ c.in-Ok.ensures.did);
    }
