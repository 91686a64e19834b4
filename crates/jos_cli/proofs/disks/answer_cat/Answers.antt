use Rattle.jos_words.specs.Commands.{cat_in_bytes}
use Rattle.jos_cli.specs.Outside.{outside}
use Rattle.jos_cli.proofs.DisksRead.{cat_printed, cat_unread}
use Rattle.jos_cli.proofs.disks.answer_cat.Goals as goal

pub returns-in-Ok : goal.returns-in-Ok
returns-in-Ok g c =
    let read = c.in-Ok.ensures.told in
    record {
      did = cat_printed g.H.Host c.args.host.now c.read_checked.new.host c.print_file.new.host c.print_file.result read.0 c.in-Ok.disk read.2 (cat_in_bytes c.args.words) read.1
          c.in-Ok.ensures.did c.print_file.ensures.did;
    }

pub returns-in-Err : goal.returns-in-Err
returns-in-Err g c =
    let read = c.in-Err.ensures.told in
    record { did = cat_unread c.in-Err.outcome (outside g.H.Host c.args.host.now c.read_checked.new.host) read.0 (cat_in_bytes c.args.words) read.1 read.2 c.in-Err.ensures.did }
