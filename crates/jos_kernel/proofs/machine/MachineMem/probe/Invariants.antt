use Rattle.std.proofs.Common.{◌≡◌, ◌-◌, true, Some, None}
use Rattle.jos_sys.specs.System.{Keeps, in_use}
use Rattle.jos_cpu.proofs.Probing.{IsProbing}
use Rattle.jos_kernel.specs.Running.{memory_inside, loaded_in}
use Rattle.jos_kernel.specs.Machine.{running_of, kernel_state}
use Rattle.jos_kernel.proofs.machine.MachineMem.probe.Given as goal

abbrev pub invariant-loop : goal.invariant-loop
invariant-loop g l = record {
  probing : IsProbing (memory_inside g.F.Fence.inside) (running_of l.fn.self) l.va l.len l.access l.at (l.len - l.counter)
      (loaded_in (kernel_state (record { system = l.self-inside.system; input = l.self-inside.input; space = l.self-inside.space; code = l.self-inside.code })) l.space.directory.0);
  system : Keeps l.self-inside.system;
  in_use : in_use l.self-inside.system l.space.directory.0 ≡ true;
  space : l.self-inside.space ≡ Some l.space;
  code : l.self-inside.code ≡ None;
}
