-- The address of an operand in memory.
-- (Intel 80386 Programmer's Reference Manual, 1986, section 17.2.1, tables 17-3 and 17-4.)
use Rattle.std.specs.Prelude.{ℕ, ◌+◌, ◌*◌, ◌%◌, ◌^◌, ◌==◌, Option, Some, None, if◌then◌else◌}
use Rattle.std.specs.Int.{w32, cast_unsigned}
use Rattle.jos_base.specs.declared.registers.Regs.{Regs}
use Rattle.jos_isa.specs.declared.instruction.MemArg.{MemArg}
use Rattle.jos_isa.specs.declared.instruction.Disp.{Disp}
use Rattle.jos_isa.specs.declared.instruction.Disp.TheVariants as disp
use Rattle.jos_alu.specs.Registers.{register}

abbrev pub base_word : Regs → Option ℕ → ℕ
base_word regs None = 0
base_word regs (Some n) = register regs n

abbrev pub factor_of : ℕ → ℕ
factor_of scale = if scale == 0 then 1 else if scale == 1 then 2 else if scale == 2 then 4 else 8

-- a signed byte, or a word
abbrev pub disp_word : Disp → ℕ
disp_word disp.Zero = 0
disp_word (disp.Byte value) = cast_unsigned w32 value
disp_word (disp.Word value) = value

-- the base, the index times 2^scale, and the displacement
unfoldable pub address_of : MemArg → Regs → ℕ
address_of arg regs = (base_word regs arg.base + base_word regs arg.index * factor_of arg.scale + disp_word arg.disp) % 2 ^ 32
