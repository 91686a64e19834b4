-- A move of a number into a register is lawful.
use Rattle.std.proofs.Common.{◌≡◌, ℕ, ◌<◌, true, refl}
use Rattle.jos_isa.specs.OpcodeMap.{format_at, opcode_entry, from_b0}
use Rattle.jos_isa.specs.RowOpcodes.{opcode_of, format_in}
use Rattle.jos_isa.specs.Lawful.{is_numbered, is_named, is_immediate, fits_format, format_for, is_lawful}
use Rattle.jos_isa.specs.Moves.{mov}
use Rattle.jos_isa.proofs.Booleans.{all_at}

pub lawful_mov : (reg value : ℕ) → reg < 8 → is_lawful (mov reg value) ≡ true
unfolding is_lawful is_numbered is_named fits_format format_for format_in opcode_of opcode_entry format_at from_b0 is_immediate
lawful_mov reg value small = all_at (λ reg. is_lawful (mov reg value)) 8 refl reg small
