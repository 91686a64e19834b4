-- The registers by number: EAX 0, ECX 1, EDX 2, EBX 3, ESP 4, EBP 5, ESI 6, EDI 7; of bytes AL, CL, DL, BL, AH,
-- CH, DH, BH; of pairs of bytes the low halves, from AX on.
-- (Intel 80386 Programmer's Reference Manual, 1986, section 2.3.1.)
use Rattle.std.specs.Prelude.{ℕ, ◌+◌, ◌*◌, ◌-◌, ◌/◌, ◌%◌, ◌^◌, ◌==◌, nat_lt, if◌then◌else◌}
use Rattle.jos_base.specs.declared.registers.Regs.{Regs}
use Rattle.jos_alu.specs.declared.width.Width.{Width}
use Rattle.jos_alu.specs.declared.width.Width.TheVariants.{Bits8, Bits16, Bits32}

unfoldable pub register : Regs → ℕ → ℕ
register regs n =
    if n == 0 then regs.eax else if n == 1 then regs.ecx else if n == 2 then regs.edx else if n == 3 then regs.ebx
    else if n == 4 then regs.esp else if n == 5 then regs.ebp else if n == 6 then regs.esi else regs.edi

unfoldable pub with_register : Regs → ℕ → ℕ → Regs
with_register regs n value =
    if n == 0 then record regs { eax = value } else if n == 1 then record regs { ecx = value }
    else if n == 2 then record regs { edx = value } else if n == 3 then record regs { ebx = value }
    else if n == 4 then record regs { esp = value } else if n == 5 then record regs { ebp = value }
    else if n == 6 then record regs { esi = value } else record regs { edi = value }

-- The byte registers 0 to 3 are the lowest bytes of EAX to EBX, and 4 to 7 the bytes above them.
abbrev pub byte_register : Regs → ℕ → ℕ
byte_register regs n = if nat_lt n 4 then register regs n % 256 else register regs (n - 4) / 256 % 256

abbrev pub with_low_byte : ℕ → ℕ → ℕ
with_low_byte word value = word / 256 * 256 + value % 256

abbrev pub with_second_byte : ℕ → ℕ → ℕ
with_second_byte word value = word / 65536 * 65536 + value % 256 * 256 + word % 256

abbrev pub with_low_half : ℕ → ℕ → ℕ
with_low_half word value = word / 65536 * 65536 + value % 65536

abbrev pub with_byte_register : Regs → ℕ → ℕ → Regs
with_byte_register regs n value =
    if nat_lt n 4 then with_register regs n (with_low_byte (register regs n) value)
    else with_register regs (n - 4) (with_second_byte (register regs (n - 4)) value)

-- the register of a width
unfoldable pub register_at : Width → Regs → ℕ → ℕ
register_at Bits8 regs n = byte_register regs n
register_at Bits16 regs n = register regs n % 65536
register_at Bits32 regs n = register regs n

unfoldable pub with_register_at : Width → Regs → ℕ → ℕ → Regs
with_register_at Bits8 regs n value = with_byte_register regs n value
with_register_at Bits16 regs n value = with_register regs n (with_low_half (register regs n) value)
with_register_at Bits32 regs n value = with_register regs n value

-- the registers at an instruction a distance further on
abbrev pub advanced : Regs → ℕ → Regs
advanced regs distance = record regs { eip = (regs.eip + distance) % 2 ^ 32 }
