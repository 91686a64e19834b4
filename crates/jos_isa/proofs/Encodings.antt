-- What `written` gives for a lawful instruction spells it, and is read again.
use Rattle.std.proofs.Common.{◌≡◌, ℕ, ◌+◌, ◌*◌, ◌^◌, ◌<◌, nat_eq, Bool, true, false, List, [], ◌∷◌, ◌++◌, Option}
use Rattle.std.proofs.Common.{Some, None, refl, sym, ap, subst, ◌∙◌}
use Rattle.std.specs.Prelude.{◌&&◌}
use Rattle.jos_isa.specs.declared.instruction.Insn.{Insn}
use Rattle.jos_isa.specs.declared.instruction.Row.{Row}
use Rattle.jos_isa.specs.declared.instruction.Repeat.{Repeat}
use Rattle.jos_isa.specs.declared.instruction.Repeat.TheVariants.{Once, WhileEqual, WhileNot}
use Rattle.jos_isa.specs.declared.instruction.Operand.{Operand}
use Rattle.jos_isa.specs.declared.instruction.Operand.TheVariants.{Absent, Reg, Mem}
use Rattle.jos_isa.specs.declared.instruction.Disp.{Disp}
use Rattle.jos_isa.specs.declared.instruction.Disp.TheVariants as disp
use Rattle.jos_isa.specs.declared.opcode_map.Format.{Format}
use Rattle.jos_isa.specs.declared.opcode_map.Format.TheVariants.{Plain, ModRm}
use Rattle.jos_isa.specs.declared.opcode_map.Fields.{Fields}
use Rattle.jos_isa.specs.declared.opcode_map.Fields.TheVariants.{Register, MemoryOnly, NoRegister, Group}
use Rattle.jos_isa.specs.declared.opcode_map.Choice.{Choice}
use Rattle.jos_isa.specs.declared.opcode_map.Immediate.{Immediate}
use Rattle.jos_isa.specs.declared.opcode_map.Map.TheVariants.{TwoByte, Repne, Rep}
use Rattle.jos_isa.specs.declared.opcode_map.OpcodeEntry.{OpcodeEntry}
use Rattle.jos_isa.specs.declared.opcode_map.OpcodeEntry.TheVariants.{Unassigned, Complete, Behind}
use Rattle.jos_isa.specs.declared.row_opcodes.Opcode.{Opcode}
use Rattle.jos_isa.specs.declared.row_opcodes.Opcode.TheVariants.{One, Two}
use Rattle.jos_isa.specs.declared.behind_opcode.Chosen.{Chosen}
use Rattle.jos_isa.specs.OpcodeMap.{opcode_entry, choice_of}
use Rattle.jos_isa.specs.Spelling.{SpellsImmediate, SpellsOperand, SpellsFormat, SpellsOpcode, Spells}
use Rattle.jos_isa.specs.RowOpcodes.{opcode_of, whole_format, format_in, field_of}
use Rattle.jos_isa.specs.Lawful.{is_numbered, is_named, is_immediate, is_operand, is_absent, is_register}
use Rattle.jos_isa.specs.Lawful.{is_same_repeat, fits_choice, fits_format, format_for, is_lawful}
use Rattle.jos_isa.specs.Encoding.{opcode_bytes, immediate_bytes, disp_bytes, mode_of, rm_of, sib_bytes}
use Rattle.jos_isa.specs.Encoding.{operand_bytes, chosen_bytes, format_bytes, encoded}
use Rattle.jos_isa.proofs.Booleans.{no_false}
use Rattle.jos_isa.proofs.Readers.{eqb-is}
use Rattle.jos_isa.proofs.Places.{leads_back, row_in, row_in_fields, field_small}
use Rattle.jos_isa.specs.ClauseWords.{OperandFits, NumbersFit}
use Rattle.jos_isa.proofs.Writers.{immediate_spelled, rm_small, memory_spelled}
use Rattle.std.proofs.lemmas.Bool.{ltb-true, and_parts}

-- ---- opcodes

two_byte_is : opcode_entry 0x0f ≡ Behind TwoByte
unfolding opcode_entry
two_byte_is = refl

repne_is : opcode_entry 0xf2 ≡ Behind Repne
unfolding opcode_entry
repne_is = refl

rep_is : opcode_entry 0xf3 ≡ Behind Rep
unfolding opcode_entry
rep_is = refl

whole : (opcode : ℕ) (format : Format) (entry : OpcodeEntry) → opcode_entry opcode ≡ entry → whole_format entry ≡ Some format → opcode_entry opcode ≡ Complete format
whole opcode format Unassigned is e = absurd cc
whole opcode format (Complete f) is e = cc
whole opcode format (Behind map) is e = absurd cc

opcode_spelled : (repeat : Repeat) (opcode : Opcode) (format : Format) → format_in repeat opcode ≡ Some format → SpellsOpcode format (opcode_bytes repeat opcode)
unfolding format_in opcode_bytes
opcode_spelled Once (One opcode) format e = whole opcode format (opcode_entry opcode) refl e
opcode_spelled Once (Two opcode) format e = (TwoByte, two_byte_is, e)
opcode_spelled WhileEqual (One opcode) format e = (Rep, rep_is, e)
opcode_spelled WhileEqual (Two opcode) format e = absurd cc
opcode_spelled WhileNot (One opcode) format e = (Repne, repne_is, e)
opcode_spelled WhileNot (Two opcode) format e = absurd cc

-- ---- an instruction by its fields

insn_is : (insn : Insn) (row : Row) (repeat : Repeat) (operand : Operand) (reg : ℕ) → row ≡ insn.row → repeat ≡ insn.repeat → operand ≡ insn.operand → reg ≡ insn.reg
    → insn ≡ record { row = row; repeat = repeat; operand = operand; reg = reg; imm = insn.imm }
insn_is insn row repeat operand reg a b c d = rw (a, b, c, d) refl

pub same_repeat : (a b : Repeat) → is_same_repeat a b ≡ true → a ≡ b
same_repeat Once Once h = refl
same_repeat WhileEqual WhileEqual h = refl
same_repeat WhileNot WhileNot h = refl
same_repeat a b h = absurd cc

absent_is : (operand : Operand) → is_absent operand ≡ true → Absent ≡ operand
absent_is Absent h = refl
absent_is (Reg r) h = absurd cc
absent_is (Mem arg) h = absurd cc

plain_spelled : (insn : Insn) (row : Row) (repeat : Repeat) (register : ℕ) (immediate : Immediate) → insn.imm < 2 ^ 32
    → row ≡ insn.row → fits_format insn (Some (Plain row repeat register immediate)) ≡ true → SpellsFormat (Plain row repeat register immediate) insn (immediate_bytes immediate insn.imm)
unfolding fits_format
plain_spelled insn row repeat register immediate fits same h =
    let outer = and_parts (is_same_repeat repeat insn.repeat && is_absent insn.operand && nat_eq register insn.reg) (is_immediate immediate insn.imm) h in
    let middle = and_parts (is_same_repeat repeat insn.repeat && is_absent insn.operand) (nat_eq register insn.reg) outer.0 in
    let inner = and_parts (is_same_repeat repeat insn.repeat) (is_absent insn.operand) middle.0 in (
      immediate_spelled immediate insn.imm fits outer.1,
      insn_is insn row repeat Absent register same (same_repeat repeat insn.repeat inner.0) (absent_is insn.operand inner.1) (eqb-is register insn.reg middle.1),
    )

-- ---- with a ModRM byte

chosen_row : (fields : Fields) (register : Bool) (row : Row) (reg : ℕ) (choice : Choice) → choice_of fields register (field_of fields row reg) ≡ Some choice → choice.row ≡ row_in_fields fields row
unfolding choice_of field_of
chosen_row (Register r immediate) register row reg choice e = cc
chosen_row (MemoryOnly r) true row reg choice e = absurd cc
chosen_row (MemoryOnly r) false row reg choice e = cc
chosen_row (NoRegister r) register row reg choice e = cc
chosen_row (Group group) register row reg choice e = rw e refl

mode_is_memory : (base : Option ℕ) (d : Disp) → nat_eq (mode_of base d) 3 ≡ false
mode_is_memory None d = refl
mode_is_memory (Some base) disp.Zero = refl
mode_is_memory (Some base) (disp.Byte z) = refl
mode_is_memory (Some base) (disp.Word n) = refl

module _ (fields : Fields) (choice : Choice) (insn : Insn) (field : ℕ) (small : field < 8)
    (spelled : SpellsImmediate choice.immediate insn.imm (immediate_bytes choice.immediate insn.imm))
    (whole_is : insn ≡ record { row = choice.row; repeat = Once; operand = insn.operand; reg = choice.reg; imm = insn.imm }) where
  -- the ModRM byte, the operand and the immediate
  behind_modrm : (chosen : Chosen) → chosen.choice ≡ choice → chosen.rm < 8 → choice_of fields (nat_eq chosen.mode 3) field ≡ Some choice → (bytes : List ℕ) → SpellsOperand chosen.mode chosen.rm insn.operand bytes
      → SpellsFormat (ModRm fields) insn ((64 * chosen.mode + 8 * field + chosen.rm) ∷ bytes ++ immediate_bytes choice.immediate insn.imm)
  behind_modrm chosen same rm e bytes operand = (
    chosen,
    (64 * chosen.mode + 8 * field + chosen.rm) ∷ [],
    bytes ++ immediate_bytes choice.immediate insn.imm,
    refl,
    (field, small, rm, e ∙ ap (λ (c : Choice). Some c) (sym same), refl),
    (
      bytes,
      immediate_bytes choice.immediate insn.imm,
      refl,
      operand,
      subst (λ (c : Choice). SpellsImmediate c.immediate insn.imm (immediate_bytes choice.immediate insn.imm)) (sym same) spelled,
      subst (λ (c : Choice). insn ≡ record { row = c.row; repeat = Once; operand = insn.operand; reg = c.reg; imm = insn.imm }) (sym same) whole_is,
    ),
  )

  operand_spelled : (operand : Operand) → insn.operand ≡ operand → is_operand operand ≡ true → OperandFits operand → choice_of fields (is_register operand) field ≡ Some choice
      → SpellsFormat (ModRm fields) insn (operand_bytes operand field ++ immediate_bytes choice.immediate insn.imm)
  unfolding is_operand operand_bytes
  operand_spelled Absent is h fits e = no_false h
  operand_spelled (Reg r) is h fits e =
      behind_modrm (record { choice = choice; mode = 3; rm = r }) refl (ltb-true r 8 h) e []
      (subst (λ (o : Operand). SpellsOperand 3 r o []) (sym is) (refl, refl, refl))
  operand_spelled (Mem arg) is h fits e =
      behind_modrm (record { choice = choice; mode = mode_of arg.base arg.disp; rm = rm_of arg }) refl (rm_small arg h) (rw (mode_is_memory arg.base arg.disp) e) (sib_bytes arg ++ disp_bytes arg.disp)
      (subst (λ (o : Operand). SpellsOperand (mode_of arg.base arg.disp) (rm_of arg) o (sib_bytes arg ++ disp_bytes arg.disp)) (sym is)
      ((λ e. absurd (cc (mode_is_memory arg.base arg.disp, ap (λ (k : ℕ). nat_eq k 3) e))), memory_spelled arg h fits))

modrm_spelled : (insn : Insn) (fields : Fields) → insn.imm < 2 ^ 32 → OperandFits insn.operand → is_numbered insn.row ≡ true → is_named insn.row insn.reg ≡ true
    → row_in_fields fields insn.row ≡ insn.row → fits_format insn (Some (ModRm fields)) ≡ true → SpellsFormat (ModRm fields) insn (format_bytes (Some (ModRm fields)) insn)
unfolding fits_format fits_choice format_bytes chosen_bytes
modrm_spelled insn fields imm_fits fits numbered named same h =
    let outer = and_parts (is_same_repeat Once insn.repeat && is_operand insn.operand) (fits_choice insn (choice_of fields (is_register insn.operand) (field_of fields insn.row insn.reg))) h in
    let inner = and_parts (is_same_repeat Once insn.repeat) (is_operand insn.operand) outer.0 in
    go (choice_of fields (is_register insn.operand) (field_of fields insn.row insn.reg)) refl (same_repeat Once insn.repeat inner.0) inner.1 outer.1
  where
    go : (o : Option Choice) → choice_of fields (is_register insn.operand) (field_of fields insn.row insn.reg) ≡ o → Once ≡ insn.repeat → is_operand insn.operand ≡ true → fits_choice insn o ≡ true
        → SpellsFormat (ModRm fields) insn (operand_bytes insn.operand (field_of fields insn.row insn.reg) ++ chosen_bytes o insn.imm)
    go None e once operand f = no_false f
    go (Some choice) e once operand f =
        let parts = and_parts (nat_eq choice.reg insn.reg) (is_immediate choice.immediate insn.imm) f in
        let row : choice.row ≡ insn.row = chosen_row fields (is_register insn.operand) insn.row insn.reg choice e ∙ same in
        operand_spelled fields choice insn (field_of fields insn.row insn.reg) (field_small fields insn.row insn.reg numbered named)
        (immediate_spelled choice.immediate insn.imm imm_fits parts.1)
        (insn_is insn choice.row Once insn.operand choice.reg row once refl (eqb-is choice.reg insn.reg parts.0))
        insn.operand refl operand fits e

-- ---- instructions

no_format : (insn : Insn) → fits_format insn None ≡ false
unfolding fits_format
no_format insn = refl

format_spelled : (insn : Insn) → insn.imm < 2 ^ 32 → OperandFits insn.operand → is_numbered insn.row ≡ true → is_named insn.row insn.reg ≡ true
    → (o : Option Format) → format_in insn.repeat (opcode_of insn.row insn.reg) ≡ o → fits_format insn o ≡ true → Spells insn (opcode_bytes insn.repeat (opcode_of insn.row insn.reg) ++ format_bytes o insn)
unfolding format_bytes
format_spelled insn imm_fits fits numbered named None e h = no_false (sym (no_format insn) ∙ h)
format_spelled insn imm_fits fits numbered named (Some (Plain row repeat register immediate)) e h =
    let back : row_in (format_in insn.repeat (opcode_of insn.row insn.reg)) insn.row ≡ insn.row = leads_back insn.row insn.repeat insn.reg numbered named in
    let same : row ≡ insn.row = sym (ap (λ (o : Option Format). row_in o insn.row) e) ∙ back in (
      Plain row repeat register immediate,
      opcode_bytes insn.repeat (opcode_of insn.row insn.reg),
      immediate_bytes immediate insn.imm,
      refl,
      opcode_spelled insn.repeat (opcode_of insn.row insn.reg) (Plain row repeat register immediate) e,
      plain_spelled insn row repeat register immediate imm_fits same h,
    )
format_spelled insn imm_fits fits numbered named (Some (ModRm fields)) e h =
    let back : row_in (format_in insn.repeat (opcode_of insn.row insn.reg)) insn.row ≡ insn.row = leads_back insn.row insn.repeat insn.reg numbered named in
    let same : row_in_fields fields insn.row ≡ insn.row = sym (ap (λ (o : Option Format). row_in o insn.row) e) ∙ back in (
      ModRm fields,
      opcode_bytes insn.repeat (opcode_of insn.row insn.reg),
      format_bytes (Some (ModRm fields)) insn,
      refl,
      opcode_spelled insn.repeat (opcode_of insn.row insn.reg) (ModRm fields) e,
      modrm_spelled insn fields imm_fits fits numbered named same h,
    )

pub lawful_spelled : (insn : Insn) → NumbersFit insn → is_lawful insn ≡ true → Spells insn (encoded insn)
unfolding is_lawful encoded format_for
lawful_spelled insn fits h =
    let outer = and_parts (is_numbered insn.row && is_named insn.row insn.reg) (fits_format insn (format_in insn.repeat (opcode_of insn.row insn.reg))) h in
    let inner = and_parts (is_numbered insn.row) (is_named insn.row insn.reg) outer.0 in
    format_spelled insn fits.imm fits.operand inner.0 inner.1 (format_in insn.repeat (opcode_of insn.row insn.reg)) refl outer.1

-- what a lawful instruction is
pub lawful_parts : (insn : Insn) → is_lawful insn ≡ true → (is_numbered insn.row ≡ true) × (is_named insn.row insn.reg ≡ true) × (fits_format insn (format_for insn) ≡ true)
unfolding is_lawful
lawful_parts insn h =
    let outer = and_parts (is_numbered insn.row && is_named insn.row insn.reg) (fits_format insn (format_for insn)) h in
    let inner = and_parts (is_numbered insn.row) (is_named insn.row insn.reg) outer.0 in
    (inner.0, inner.1, outer.1)
