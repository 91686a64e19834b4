use Rattle.jos_cpu.specs.Bursts.{StepsOn}
use Rattle.jos_cpu.proofs.bursts.make_burst.Given as goal

abbrev pub invariant-loop-before : goal.invariant-loop-before
invariant-loop-before g l = StepsOn g.M.Mem.table g.M.Mem.stands l.gates l.before (record { regs = l.fn.regs; memory = g.M.Mem.seen l.fn.mem }) (record { regs = l.regs; memory = g.M.Mem.seen l.mem })
