use Rattle.std.specs.Prelude.{◌-◌}
use Rattle.processor_tests.specs.TestMemory.{test_memory_table}
use Rattle.jos_cpu.proofs.Probing.{IsProbing}
use Rattle.processor_tests.proofs.memory.TestMemoryMem.probe.Given as goal

abbrev pub invariant-loop : goal.invariant-loop
invariant-loop l = IsProbing test_memory_table l.fn.self l.fn.va l.fn.len l.fn.access l.at (l.len - l.counter) l.self
