use Rattle.jos_cli.proofs.FilesWritten.{file_written}
use Rattle.jos_cli.proofs.files.write_file.Goals as goal

pub returns-in-Ok-clause-written : goal.returns-in-Ok-clause-written
returns-in-Ok-clause-written g c = file_written _ _ _ c.args.name.now c.args.bytes.now c.write_at.result c.in-Ok.field-0 c.in-Ok.ensures.told c.write_at.ensures.told
