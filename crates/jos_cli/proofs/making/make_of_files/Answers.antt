use Rattle.std.proofs.Common.{refl}
use Rattle.jos_host.specs.Frames.{around}
use Rattle.jos_cli.specs.Answer.{expected_of_writing}
use Rattle.jos_cli.specs.FilesAsked.{write_calls}
use Rattle.jos_cli.specs.Kinds.{kind_of}
use Rattle.jos_cli.specs.Making.{disk_made}
use Rattle.jos_cli.proofs.Asking.{asks_none}
use Rattle.jos_cli.proofs.Judging.{refuses}
use Rattle.jos_cli.proofs.NamedRead.{unmade_leaves, unmade_no_usage}
use Rattle.jos_cli.proofs.making.make_of_files.Goals as goal

pub returns-in-Err-clause-did : goal.returns-in-Err-clause-did
returns-in-Err-clause-did g c =
    let o = c.in-Err.outcome in
    record {
      answer = refuses (disk_made c.args.blocks c.args.files.now) expected_of_writing (kind_of o) (around g.H.Host.console c.args.host.now c.args.host.now) c.in-Err.ensures.told refl;
      usage = unmade_no_usage o c.in-Err.ensures.kind;
      files = unmade_leaves c.args.name.now _ _ _ refl o c.in-Err.ensures.kind;
      input = refl;
      notes = refl;
      asked = asks_none (write_calls c.args.name.now) _ _ refl;
      cause = c.in-Err.ensures.no_fault (g.H.Host.faults c.args.host.now);
    }
