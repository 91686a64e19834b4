-- The program of a workload has no fault.
use Rattle.std.proofs.Common.{◌≡◌, ◌∙◌, ℕ, List, Result, length, refl, ap, arith}
use Rattle.jos_asm.specs.declared.fault.AsmFault.{AsmFault}
use Rattle.jos_isa.specs.OpcodeMap.{format_at, opcode_entry, from_00, from_40, from_70, from_a0, from_b0, from_d0, from_f0, of_group, choice_of}
use Rattle.jos_isa.specs.OpcodeMap.{step_ff, unary_f7, format_behind, rep_at}
use Rattle.jos_isa.specs.RowOpcodes.{opcode_of, format_in, field_of, digit_of}
use Rattle.jos_isa.specs.Lawful.{format_for}
use Rattle.jos_isa.specs.Encoding.{encoded, immediate_bytes, opcode_bytes, operand_bytes, disp_bytes, chosen_bytes, format_bytes}
use Rattle.jos_asm.specs.Program.{finished, length_of_all, place_from, first_twice, first_unknown, first_far, spelled_from}
use Rattle.jos_demo.specs.declared.workloads.Workload.{Workload}
use Rattle.jos_demo.specs.Code.{image}
use Rattle.jos_demo.specs.Workloads.{work_program, code_of, work_file}
use Rattle.jos_demo.proofs.Named.{HasCode}

pub work_code : (w : Workload) → HasCode (work_program w)
unfolding work_program finished length_of_all place_from first_twice first_unknown first_far spelled_from encoded opcode_bytes format_bytes immediate_bytes operand_bytes disp_bytes chosen_bytes choice_of of_group step_ff unary_f7 field_of digit_of format_for format_in format_behind rep_at opcode_of opcode_entry format_at from_00 from_40 from_70 from_a0 from_b0 from_d0 from_f0
work_code w = (_, refl, omega arith)

code_length : (w : Workload) → length (code_of (finished (work_program w))) ≡ 297
unfolding work_code
code_length w =
    let is : length (work_code w).0 ≡ 297 = refl in
    ap (λ (r : Result (List ℕ) AsmFault). length (code_of r)) (work_code w).1 ∙ is

-- its file is the image of code that is so long, whatever the workload
pub work_is_image : (w : Workload) → (code : List ℕ) × (work_file w ≡ image code) × (length code ≡ 297)
unfolding work_file
work_is_image w = (code_of (finished (work_program w)), refl, code_length w)
