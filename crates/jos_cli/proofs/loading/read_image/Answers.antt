use Rattle.std.proofs.Common.{Ok, Err, ap, ◌∙◌}
use Rattle.jos_words.specs.Arguments.{Word, word_in_bytes}
use Rattle.jos_elf.specs.Parsed.{parsed}
use Rattle.jos_cli.specs.Answer.{bad_image}
use Rattle.jos_cli.specs.Kinds.{kind_of}
use Rattle.jos_cli.proofs.Reading.{image_parsed, image_refused, word_is}
use Rattle.jos_cli.proofs.loading.read_image.Goals as goal

pub returns-in-Err-clause-told : goal.returns-in-Err-clause-told
returns-in-Err-clause-told g c =
    let told = c.in-Err.ensures.told in (told.0, told.1, image_refused told.0 (kind_of c.in-Err.outcome) told.2)

pub returns-in-Ok-parse-clause-told : goal.returns-in-Ok-parse-clause-told
returns-in-Ok-parse-clause-told g c =
    let told = c.in-Ok.ensures.told in (told.0, told.1, image_parsed told.0 c.in-Ok.file.items (Ok c.in-Ok-parse.image) told.2 (c.in-Ok-parse.ensures.exact ∙ ap parsed c.deref.ensures.value))

pub returns-in-Err-parse-clause-told : goal.returns-in-Err-parse-clause-told
returns-in-Err-parse-clause-told g c =
    let told = c.in-Ok.ensures.told in (
      told.0,
      told.1,
      image_parsed told.0 c.in-Ok.file.items (Err c.in-Err-parse.fault) told.2 (c.in-Err-parse.ensures.exact ∙ ap parsed c.deref.ensures.value)
          ∙ ap (λ (word : Word). Err (bad_image word.place c.in-Err-parse.fault)) (word_is (g.H.Host.files c.args.host.now) (word_in_bytes c.args.word) told.0 told.1),
    )
