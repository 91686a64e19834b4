use Rattle.jos_words.specs.Commands.{ls_in_bytes}
use Rattle.jos_cli.specs.Outside.{outside}
use Rattle.jos_cli.proofs.DisksRead.{ls_printed, ls_unread}
use Rattle.jos_cli.proofs.disks.answer_ls.Goals as goal

pub returns-in-Ok : goal.returns-in-Ok
returns-in-Ok g c =
    let read = c.in-Ok.ensures.told in
    record {
      did = ls_printed g.H.Host c.args.host.now c.read_checked.new.host c.print_directory.new.host c.print_directory.result read.0 c.in-Ok.disk read.2 (ls_in_bytes c.args.words) read.1
          c.in-Ok.ensures.did (rw c.path_of.ensures at c.print_directory.ensures.did);
    }

pub returns-in-Err : goal.returns-in-Err
returns-in-Err g c =
    let read = c.in-Err.ensures.told in
    record { did = ls_unread c.in-Err.outcome (outside g.H.Host c.args.host.now c.read_checked.new.host) read.0 (ls_in_bytes c.args.words) read.1 read.2 c.in-Err.ensures.did }
