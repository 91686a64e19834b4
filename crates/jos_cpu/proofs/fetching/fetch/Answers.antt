use Rattle.std.proofs.Common.{◌≤◌, arith}
use Rattle.jos_cpu.proofs.Windows.{fetched_in, short_enough}
use Rattle.jos_cpu.proofs.fetching.fetch.Goals as goal

pub overflow_cast-result : goal.overflow_cast-result
overflow_cast-result g c =
    let n : c.in-Found.len ≤ 12 = short_enough _ _ _ c.in-Found.ensures.found.1 c.in-Found.ensures.exact in
    record { fits = omega arith }

pub returns-in-Found : goal.returns-in-Found
returns-in-Found g c = fetched_in _ _ _ _ _ _ c.window.ensures c.in-Found.ensures.found.1 c.in-Found.ensures.exact
