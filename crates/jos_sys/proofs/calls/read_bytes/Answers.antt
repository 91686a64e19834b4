use Rattle.std.proofs.Common.{arith}
use Rattle.jos_sys.proofs.Buffers.{on_fault, on_byte, at_end}
use Rattle.jos_sys.proofs.calls.read_bytes.Goals as goal
use Rattle.jos_base.proofs.Uses.{directory_is}

pub read-requires : goal.read-requires
read-requires c = directory_is _ c.requires.space

pub returns-in-Err-clause-read : goal.returns-in-Err-clause-read
returns-in-Err-clause-read c = on_fault c.loop.invariant c.loop-test.true c.in-Err.ensures

pub loop-preserved : goal.loop-preserved
loop-preserved c = on_byte c.loop.invariant c.loop-test.true c.in-Ok.ensures c.push.ensures.items

pub returns-clause-read : goal.returns-clause-read
returns-clause-read c = at_end c.loop.invariant c.loop-test.false

pub returns-clause-len : goal.returns-clause-len
returns-clause-len c = let n = c.loop.invariant.count in omega (arith, n, c.loop-test.false, c.loop.auto.counter-end)
