-- The memory that a program under the library sees: that of its environment, of which the addresses inside the fence
-- alone may be reached.
use Rattle.std.specs.Prelude.{ℕ, Bool, not}
use Rattle.jos_cpu.specs.Memory.{Memory}
use Rattle.lib_os.specs.Fence.{is_inside, is_resident}
use Rattle.jos_kernel.specs.Running.{Running, memory_inside}

unfoldable pub fenced_memory : Memory Running
fenced_memory = memory_inside is_inside

-- where a stack pointer lets the program go on
abbrev pub may_stand : ℕ → Bool
may_stand esp = not (is_resident esp)
