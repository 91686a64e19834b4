use Rattle.std.proofs.Common.{◌∙◌}
use Rattle.jos_cpu.proofs.Fetches.{on_fault, on_found, on_illegal, on_short, at_end}
use Rattle.jos_cpu.proofs.fetching.fetch_bytes.Goals as goal

pub returns-in-Err : goal.returns-in-Err
returns-in-Err g c = on_fault c.loop-offset.invariant c.loop-offset-test.true c.in-Err.ensures

pub returns-in-Found : goal.returns-in-Found
returns-in-Found g c =
    on_found c.loop-offset.invariant c.loop-offset-test.true c.in-Ok.ensures (c.as_slice.ensures.value ∙ c.push.ensures.items) c.in-Found.ensures.exact

pub returns-in-Illegal : goal.returns-in-Illegal
returns-in-Illegal g c =
    on_illegal c.loop-offset.invariant c.loop-offset-test.true c.in-Ok.ensures (c.as_slice.ensures.value ∙ c.push.ensures.items) c.in-Illegal.ensures.exact

pub loop-offset-preserved : goal.loop-offset-preserved
loop-offset-preserved g c =
    on_short c.loop-offset.invariant c.loop-offset-test.true c.in-Ok.ensures c.push.ensures.items c.as_slice.ensures.value c.in-Short.ensures.exact c.in-Short.ensures.short

pub returns : goal.returns
returns g c = at_end c.loop-offset.invariant c.loop-offset-test.false
