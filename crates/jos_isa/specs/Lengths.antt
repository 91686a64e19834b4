-- How many bytes surely belong to an instruction, by the first one or two of them.
use Rattle.std.specs.Prelude.{◌≡◌, ℕ, ◌+◌, ◌/◌, ◌%◌, ◌==◌, ◌<◌, false, List, [], ◌∷◌, ◌++◌, length, Option, Some}
use Rattle.std.specs.Prelude.{None, if◌then◌else◌}
use Rattle.jos_isa.specs.declared.opcode_map.Format.{Format}
use Rattle.jos_isa.specs.declared.opcode_map.Format.TheVariants.{Plain, ModRm}
use Rattle.jos_isa.specs.declared.opcode_map.Immediate.{Immediate}
use Rattle.jos_isa.specs.declared.opcode_map.Immediate.TheVariants.{Nothing, Imm8, SignedImm8, Imm16, Imm32}
use Rattle.jos_isa.specs.declared.opcode_map.OpcodeEntry.{OpcodeEntry}
use Rattle.jos_isa.specs.declared.opcode_map.OpcodeEntry.TheVariants.{Unassigned, Complete, Behind}
use Rattle.jos_isa.specs.declared.opcode_map.Choice.{Choice}
use Rattle.jos_isa.specs.declared.behind_opcode.DispKind.{DispKind}
use Rattle.jos_isa.specs.declared.behind_opcode.DispKind.TheVariants as disp_kind
use Rattle.jos_isa.specs.declared.decoder.Decoded.TheVariants.{Short}
use Rattle.jos_isa.specs.OpcodeMap.{opcode_entry, choice_of}
use Rattle.jos_isa.specs.Spelling.{disp_kind_of}
use Rattle.jos_isa.specs.Decoding.{decoded}

abbrev pub immediate_size : Immediate → ℕ
immediate_size Nothing = 0
immediate_size Imm8 = 1
immediate_size SignedImm8 = 1
immediate_size Imm16 = 2
immediate_size Imm32 = 4

-- behind the opcode: an immediate, or a ModRM byte
abbrev pub format_rest : Format → ℕ
format_rest (Plain row repeat register immediate) = immediate_size immediate
format_rest (ModRm fields) = 1

-- behind the first byte
abbrev pub entry_rest : OpcodeEntry → ℕ
entry_rest Unassigned = 0
entry_rest (Complete format) = format_rest format
entry_rest (Behind map) = 1

abbrev pub disp_size : DispKind → ℕ
disp_size disp_kind.Nothing = 0
disp_size disp_kind.Disp8 = 1
disp_size disp_kind.Disp32 = 4

-- behind the ModRM byte of an operand in memory: a SIB byte and a displacement, of whatever base the SIB byte has
abbrev pub memory_rest : ℕ → ℕ → ℕ
memory_rest mode rm = (if rm == 4 then 1 else 0) + disp_size (disp_kind_of mode rm)

abbrev pub choice_rest : Option Choice → ℕ → ℕ → ℕ
choice_rest None mode rm = 0
choice_rest (Some choice) mode rm = memory_rest mode rm + immediate_size choice.immediate

-- behind a second byte, where it is the ModRM byte of an operand in memory
abbrev pub second_rest : OpcodeEntry → ℕ → ℕ
second_rest (Complete (ModRm fields)) second = choice_rest (choice_of fields false (second / 8 % 8)) (second / 64) (second % 8)
second_rest _ second = 0

unfoldable pub least_length : List ℕ → ℕ
least_length (first ∷ []) = 1 + entry_rest (opcode_entry first)
least_length (first ∷ second ∷ []) = if second / 64 == 3 then 0 else 2 + second_rest (opcode_entry first) second
least_length _ = 0

-- What begins with these bytes is short where it has fewer than so many.
abbrev pub AreShortBelow : ℕ → List ℕ → Type 0
AreShortBelow least bytes = (more : List ℕ) → length (bytes ++ more) < least → decoded (bytes ++ more) ≡ Short
