use Rattle.std.proofs.Common.{sym, subst}
use Rattle.fs_image.specs.DiskHeld.{HeldDisk}
use Rattle.jos_words.specs.Arguments.{word_in_bytes}
use Rattle.jos_cli.specs.Answer.{Judged}
use Rattle.jos_cli.specs.Stages.{Judges}
use Rattle.jos_cli.proofs.DisksRead.{disk_read, disk_absent, read_and_checked}
use Rattle.jos_cli.proofs.Finding.{some_file}
use Rattle.jos_cli.proofs.Reading.{cut_off-refuses}
use Rattle.jos_cli.proofs.disks.read_checked.Goals as goal

pub returns-in-Ok-clause-told : goal.returns-in-Ok-clause-told
returns-in-Ok-clause-told g c =
    let told = c.in-Ok.ensures.told in
    let at = disk_read (g.H.Host.files c.args.host.now) (word_in_bytes c.args.word) told.0 c.in-Ok.disk told.1 told.2 in
    (at.0, at.1, subst (λ (j : Judged HeldDisk). Judges j (λ (disk : HeldDisk). disk) c.checked.result) (sym at.2) c.checked.ensures.told)

pub returns-in-Ok-clause-did : goal.returns-in-Ok-clause-did
returns-in-Ok-clause-did g c =
    let read = c.in-Ok.ensures in
    read_and_checked g.H.Host c.args.word.text.now c.args.host.now c.read_disk.new.host c.checked.result read.rest read.asked read.cause c.checked.ensures.cause
    c.checked.ensures.unread

pub returns-in-Err-Absent-clause-told : goal.returns-in-Err-Absent-clause-told
returns-in-Err-Absent-clause-told g c =
    let told = rw c.in-Err-Absent.field-0-is at c.in-Err-Absent.ensures.told in
    disk_absent (g.H.Host.files c.args.host.now) (word_in_bytes c.args.word) told.0 told.1 told.2

pub returns-in-Err-Host-clause-told : goal.returns-in-Err-Host-clause-told
returns-in-Err-Host-clause-told g c =
    let found = some_file (g.H.Host.files c.args.host.now) (word_in_bytes c.args.word) in
    (found.0, found.1, cut_off-refuses _ c.host_fault.result _ c.host_fault.ensures)

pub returns-in-Err-NoMemory-clause-told : goal.returns-in-Err-NoMemory-clause-told
returns-in-Err-NoMemory-clause-told g c =
    let found = some_file (g.H.Host.files c.args.host.now) (word_in_bytes c.args.word) in (found.0, found.1, tt)
