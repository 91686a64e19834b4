use Rattle.std.proofs.Common.{Ok, sym, ap, ◌∙◌}
use Rattle.jos_words.specs.Arguments.{Word, word_in_bytes}
use Rattle.jos_cli.specs.Kinds.{kind_of}
use Rattle.jos_cli.specs.Making.{named_with}
use Rattle.jos_cli.proofs.Reading.{word_is}
use Rattle.jos_cli.proofs.NamedRead.{named_read, named_refused}
use Rattle.jos_cli.proofs.making.read_named_file.Goals as goal

pub returns-in-Err-clause-told : goal.returns-in-Err-clause-told
returns-in-Err-clause-told g c =
    let told = c.in-Err.ensures.told in (told.0, told.1, named_refused told.0 (kind_of c.in-Err.outcome) told.2)

pub returns-in-Ok-from_str-clause-told : goal.returns-in-Ok-from_str-clause-told
returns-in-Ok-from_str-clause-told g c =
    let told = c.in-Ok.ensures.told in
    let name = c.in-Ok-from_str.ensures.ok ∙ c.file_name.ensures in (
      told.0,
      told.1,
      named_read told.0 c.in-Ok.bytes.items told.2
          ∙ ap (λ (word : Word). Ok (named_with word c.in-Ok.bytes.items)) (word_is (g.H.Host.files c.args.host.now) (word_in_bytes c.args.word) told.0 told.1)
          ∙ ap (λ n. Ok (record { name = n; bytes = c.in-Ok.bytes.items })) (sym name),
    )
