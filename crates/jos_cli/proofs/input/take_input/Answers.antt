use Rattle.std.proofs.Common.{◌≤◌, ◌-◌, length, arith, rules}
use Rattle.jos_cli.proofs.InputRead.{taken_more}
use Rattle.jos_cli.proofs.input.take_input.Goals as goal

pub loop-filled-preserved : goal.loop-filled-preserved
loop-filled-preserved g c =
    let fits : c.in-Ok.count ≤ length c.console_read.new.buf = omega (arith, c.in-Ok.ensures.within, c.console_read.auto.buf) in
    record {
      taken = taken_more _ _ _ _ _ c.console_read.new.buf _ (length c.loop-filled.buf - c.loop-filled.filled) c.in-Ok.count c.loop-filled.invariant.within fits
          c.in-Ok.ensures.told (g.H.Host.input c.args.host.now) c.loop-filled.invariant.taken;
      within = search rules;
      rest = search rules;
      faults = search rules;
    }
