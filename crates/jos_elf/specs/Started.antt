-- The registers with which a program begins, and its stack as a segment.
-- (MIT 6.828, env_alloc and load_icode of kern/env.c, and init_stack of lib/spawn.c.)
use Rattle.std.specs.Prelude.{ℕ, ◌+◌, true, List}
use Rattle.jos_base.specs.declared.registers.Regs.{Regs}
use Rattle.jos_base.specs.declared.numbers.TheConstants.{USTACKTOP, FL_IF, FL_1}
use Rattle.jos_elf.specs.declared.image.Segment.{Segment}
use Rattle.jos_elf.specs.StackPage.{stack_pointer, stack_size}

-- all that is not named here is 0
abbrev pub first_registers : ℕ → Regs
first_registers entry = record {
  eax = 0;
  ecx = 0;
  edx = 0;
  ebx = 0;
  esp = USTACKTOP;
  ebp = 0;
  esi = 0;
  edi = 0;
  eip = entry;
  eflags = FL_IF + FL_1;
}

-- it stands at the image's entry, and ESP at its words
abbrev pub program_registers : ℕ → List (List ℕ) → Regs
program_registers entry words = record (first_registers entry) { esp = stack_pointer words }

-- what stands from ESP on, as a segment of a file of these bytes
abbrev pub stack_segment : List (List ℕ) → Segment
stack_segment words = record {
  va = stack_pointer words;
  mem_len = stack_size words;
  file_at = 0;
  file_len = stack_size words;
  writable = true;
}
