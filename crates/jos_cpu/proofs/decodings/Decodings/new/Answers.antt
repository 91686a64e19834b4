use Rattle.std.proofs.Common.{refl}
use Rattle.jos_isa.specs.Decoding.{decoded, instruction_at, opcode_at, format_in_entry, insn_in_format, modrm_at}
use Rattle.jos_isa.specs.Decoding.{rest_at, operand_at, memory_at, sib_at, disp_at, immediate_at}
use Rattle.jos_isa.specs.OpcodeMap.{opcode_entry, format_at, from_00, choice_of}
use Rattle.jos_cpu.proofs.decodings.Decodings.new.Goals as goal

pub invariant_of-zeros : goal.invariant_of-zeros
unfolding decoded instruction_at opcode_at format_in_entry insn_in_format modrm_at rest_at operand_at memory_at sib_at disp_at immediate_at opcode_entry format_at from_00 choice_of
invariant_of-zeros c = record { form_is = c.form_of.ensures; right = refl }
