-- Products and quotients, unsigned and signed.
-- (Intel 80386 Programmer's Reference Manual, 1986, section 17.2.2: MUL, IMUL, DIV, IDIV, CBW/CWDE, CWD/CDQ,
-- MOVSX. Flags that it leaves undefined are kept.)
use Rattle.std.specs.Prelude.{ℕ, ◌+◌, ◌*◌, ◌/◌, ◌%◌, ◌^◌, ◌==◌, ◌&&◌, nat_le, not, Bool, ℤ, pos, negsuc, ◌*ℤ◌}
use Rattle.std.specs.Prelude.{unsigned_abs, int_le, int_lt, int_div, int_rem, Option, Some, None, if◌then◌else◌}
use Rattle.std.specs.Int.{w8, w16, w32, w64, cast_signed, cast_unsigned}
use Rattle.jos_base.specs.declared.registers.Regs.{Regs}
use Rattle.jos_alu.specs.declared.width.Width.{Width}
use Rattle.jos_alu.specs.declared.width.Width.TheVariants.{Bits8, Bits16, Bits32}
use Rattle.jos_alu.specs.declared.products.Sign.{Sign}
use Rattle.jos_alu.specs.declared.products.Sign.TheVariants.{Unsigned, Signed}
use Rattle.jos_alu.specs.declared.flags.StatusFlags.{StatusFlags}
use Rattle.jos_alu.specs.declared.flags.Computed.{Computed}
use Rattle.jos_alu.specs.declared.products.Halves.{Halves}
use Rattle.jos_alu.specs.Registers.{with_register_at}
use Rattle.jos_alu.specs.Flags.{modulus, status_flags_of, with_status_flags}

-- the signed number that the lowest bits stand for
unfoldable pub signed_of : Width → ℕ → ℤ
signed_of Bits8 n = cast_signed w8 (n % 256)
signed_of Bits16 n = cast_signed w16 (n % 65536)
signed_of Bits32 n = cast_signed w32 (n % 2 ^ 32)

-- the same signed number as a word
unfoldable pub sign_extended : Width → ℕ → ℕ
sign_extended width n = cast_unsigned w32 (signed_of width n)

abbrev pub extended : Sign → Width → ℕ → ℕ
extended Unsigned width n = n % modulus width
extended Signed width n = sign_extended width n

-- a number of 64 bits for a signed one
abbrev pub bits_of : ℤ → ℕ
bits_of z = cast_unsigned w64 z

-- a number of twice the width: AH and AL, or EDX and EAX
unfoldable pub double_register : Width → Regs → ℕ
double_register Bits8 regs = regs.eax % 65536
double_register Bits16 regs = regs.edx % 65536 * 65536 + regs.eax % 65536
double_register Bits32 regs = regs.edx * 2 ^ 32 + regs.eax

unfoldable pub with_halves : Width → Regs → Halves → Regs
with_halves Bits8 regs h = with_register_at Bits16 regs 0 (h.high % 256 * 256 + h.low % 256)
with_halves Bits16 regs h = with_register_at Bits16 (with_register_at Bits16 regs 0 h.low) 2 h.high
with_halves Bits32 regs h = record regs { eax = h.low; edx = h.high }

-- ---- products

-- the product in twice the width
unfoldable pub product_of : Sign → Width → ℕ → ℕ → ℕ
product_of Unsigned width a b = a * b
product_of Signed width a b = bits_of (signed_of width a *ℤ signed_of width b)

-- Whether the product is longer than its low half: a signed one is where that half, read as signed, is another number.
unfoldable pub is_too_long : Sign → Width → ℕ → Bool
is_too_long Unsigned width product = nat_le (modulus width) product
is_too_long Signed width product = not (bits_of (signed_of width product) == product)

abbrev pub halves_of : Width → ℕ → Halves
halves_of width n = record { low = n % modulus width; high = n / modulus width % modulus width }

-- CF and OF alone
abbrev pub product_status : Bool → StatusFlags → StatusFlags
product_status long f = record f { carry = long; overflow = long }

abbrev pub product_flags : ℕ → Bool → ℕ
product_flags eflags long = with_status_flags eflags (product_status long (status_flags_of eflags))

-- The form of IMUL with two or three operands keeps the low half alone.
abbrev pub multiplied : Width → ℕ → ℕ → ℕ → Computed
multiplied width a b eflags = record {
  value = product_of Signed width a b % modulus width;
  eflags = product_flags eflags (is_too_long Signed width (product_of Signed width a b));
}

-- ---- quotients

-- the quotient in low and the remainder in high; there is none where the divisor is 0, nor where low has no room for it
unfoldable pub unsigned_quotient : Width → ℕ → ℕ → Option Halves
unsigned_quotient width n d =
    if d == 0 then None
    else if nat_le (modulus width) (n / d) then None
    else Some (record { low = n / d; high = n % d })

unfoldable pub fits_in : Width → ℤ → Bool
fits_in Bits8 z = int_le (negsuc 127) z && int_lt z (pos 128)
fits_in Bits16 z = int_le (negsuc 32767) z && int_lt z (pos 32768)
fits_in Bits32 z = int_le (negsuc 2147483647) z && int_lt z (pos 2147483648)

-- The signed quotient is truncated towards zero, and the remainder has the dividend's sign.
unfoldable pub signed_quotient : Width → ℤ → ℤ → Option Halves
signed_quotient width n d =
    if unsigned_abs d == 0 then None
    else if fits_in width (int_div n d) then Some (record { low = bits_of (int_div n d) % modulus width; high = bits_of (int_rem n d) % modulus width })
    else None

unfoldable pub signed_double : Width → ℕ → ℤ
signed_double Bits8 n = cast_signed w16 (n % 65536)
signed_double Bits16 n = cast_signed w32 (n % 2 ^ 32)
signed_double Bits32 n = cast_signed w64 n

-- of a number of twice the width by one of the width
abbrev pub quotient_of : Sign → Width → ℕ → ℕ → Option Halves
quotient_of Unsigned width n d = unsigned_quotient width n d
quotient_of Signed width n d = signed_quotient width (signed_double width n) (signed_of width d)
