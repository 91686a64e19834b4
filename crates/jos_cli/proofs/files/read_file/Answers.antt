use Rattle.jos_words.specs.Arguments.{word_in_bytes}
use Rattle.jos_cli.proofs.Finding.{some_file}
use Rattle.jos_cli.proofs.Reading.{file_read, file_absent, file_too_long, cut_off-refuses}
use Rattle.jos_cli.proofs.files.read_file.Goals as goal

pub returns-in-Ok-clause-told : goal.returns-in-Ok-clause-told
returns-in-Ok-clause-told g c =
    file_read c.args.most c.args.which (word_in_bytes c.args.word) (g.H.Host.files c.args.host.now) _ c.in-Ok.ensures.told c.in-Ok.ensures.small

pub returns-in-Err-Absent-clause-told : goal.returns-in-Err-Absent-clause-told
returns-in-Err-Absent-clause-told g c =
    file_absent c.args.most c.args.which (word_in_bytes c.args.word) (g.H.Host.files c.args.host.now) (rw c.in-Err-Absent.field-0-is at c.in-Err-Absent.ensures.told)

pub returns-in-Err-TooLong-clause-told : goal.returns-in-Err-TooLong-clause-told
returns-in-Err-TooLong-clause-told g c =
    file_too_long c.args.most c.args.which (word_in_bytes c.args.word) (g.H.Host.files c.args.host.now) (rw c.in-Err-TooLong.field-0-is at c.in-Err-TooLong.ensures.told)

pub returns-in-Err-Host-clause-told : goal.returns-in-Err-Host-clause-told
returns-in-Err-Host-clause-told g c =
    let found = some_file (g.H.Host.files c.args.host.now) (word_in_bytes c.args.word) in
    (found.0, found.1, cut_off-refuses _ c.host_fault.result _ c.host_fault.ensures)

pub returns-in-Err-NoMemory-clause-told : goal.returns-in-Err-NoMemory-clause-told
returns-in-Err-NoMemory-clause-told g c =
    let found = some_file (g.H.Host.files c.args.host.now) (word_in_bytes c.args.word) in (found.0, found.1, tt)
