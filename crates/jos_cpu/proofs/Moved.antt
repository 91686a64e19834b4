-- The registers and addresses while EIP moves on.
use Rattle.std.proofs.Common.{◌≡◌, ℕ, refl}
use Rattle.jos_base.specs.declared.registers.Regs.{Regs}
use Rattle.jos_isa.specs.declared.instruction.MemArg.{MemArg}
use Rattle.jos_alu.specs.Registers.{register, advanced}
use Rattle.jos_cpu.specs.Addresses.{address_of}

pub register_moved : (regs : Regs) (d n : ℕ) → register (advanced regs d) n ≡ register regs n
unfolding register
register_moved regs d n = refl

pub address_moved : (arg : MemArg) (regs : Regs) (d : ℕ) → address_of arg (advanced regs d) ≡ address_of arg regs
unfolding address_of register
address_moved arg regs d = refl
