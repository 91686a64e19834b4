use Rattle.std.proofs.Common.{arith}
use Rattle.jos_cli.proofs.Finding.{some_input}
use Rattle.jos_cli.proofs.InputRead.{input_past, left_past}
use Rattle.jos_cli.proofs.Reading.{cut_off-refuses}
use Rattle.jos_cli.proofs.input.read_input.Goals as goal

pub returns-in-Err-clause-told : goal.returns-in-Err-clause-told
returns-in-Err-clause-told g c = let input = some_input (g.H.Host.input c.args.host.now) in (input.0, input.1, tt)

pub returns-in-Err-take_input-clause-told : goal.returns-in-Err-take_input-clause-told
returns-in-Err-take_input-clause-told g c =
    let input = some_input (g.H.Host.input c.args.host.now) in
    (input.0, input.1, cut_off-refuses _ c.host_fault.result _ c.host_fault.ensures)

pub returns-then-count-gt-INPUT_MAX-clause-told : goal.returns-then-count-gt-INPUT_MAX-clause-told
returns-then-count-gt-INPUT_MAX-clause-told g c =
    input_past _ _ _ _ c.if-count-gt-INPUT_MAX.true c.in-Ok-take_input.ensures.taken

pub returns-then-count-gt-INPUT_MAX-clause-did : goal.returns-then-count-gt-INPUT_MAX-clause-did
returns-then-count-gt-INPUT_MAX-clause-did g c = let took = c.in-Ok-take_input.ensures in record {
  usage = λ e. cc;
  files = took.rest.first;
  input = left_past _ _ _ _ (omega (arith, c.if-count-gt-INPUT_MAX.true, took.within)) took.taken;
  console = took.rest.third;
  notes = took.rest.fourth;
  asked = took.rest.second;
  cause = took.cause.stayed;
}
