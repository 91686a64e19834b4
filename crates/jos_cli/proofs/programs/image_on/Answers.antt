use Rattle.std.proofs.Common.{Ok, Err, ap, ◌∙◌}
use Rattle.jos_words.specs.Arguments.{word_in_bytes}
use Rattle.jos_elf.specs.Parsed.{parsed}
use Rattle.jos_cli.proofs.ProgramsRead.{image_parsed, path_refused}
use Rattle.jos_cli.proofs.programs.image_on.Goals as goal

pub returns-in-Err-NotThere-clause-told : goal.returns-in-Err-NotThere-clause-told
returns-in-Err-NotThere-clause-told c =
    path_refused (word_in_bytes c.args.path) c.args.disk.now c.in-Err-NotThere.errno
    (rw (c.bytes.ensures, c.as_bytes.ensures.value, c.in-Err-NotThere.field-0-is) at c.in-Err-NotThere.ensures.read)

pub returns-in-Ok-parse-clause-told : goal.returns-in-Ok-parse-clause-told
returns-in-Ok-parse-clause-told c =
    image_parsed (word_in_bytes c.args.path) c.args.disk.now c.in-Ok.file.items (Ok c.in-Ok-parse.image)
    (rw (c.bytes.ensures, c.as_bytes.ensures.value) at c.in-Ok.ensures.read) (c.in-Ok-parse.ensures.exact ∙ ap parsed c.deref.ensures.value)

pub returns-in-Err-clause-told : goal.returns-in-Err-clause-told
returns-in-Err-clause-told c =
    image_parsed (word_in_bytes c.args.path) c.args.disk.now c.in-Ok.file.items (Err c.in-Err.fault)
    (rw (c.bytes.ensures, c.as_bytes.ensures.value) at c.in-Ok.ensures.read) (c.in-Err.ensures.exact ∙ ap parsed c.deref.ensures.value)
