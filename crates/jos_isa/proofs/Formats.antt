-- The readers of ModRM bytes and of what stands behind an opcode.
use Rattle.std.proofs.Common.{◌≡◌, ℕ, ◌+◌, ◌*◌, ◌/◌, ◌%◌, ◌<◌, nat_eq, List, [], ◌∷◌, ◌++◌, Option, Some, None, Ok}
use Rattle.std.proofs.Common.{Err, refl, ap, arith}
use Rattle.jos_isa.specs.declared.instruction.Insn.{Insn}
use Rattle.jos_isa.specs.declared.instruction.Row.{Row}
use Rattle.jos_isa.specs.declared.instruction.Repeat.{Repeat}
use Rattle.jos_isa.specs.declared.instruction.Repeat.TheVariants.{Once}
use Rattle.jos_isa.specs.declared.instruction.Operand.{Operand}
use Rattle.jos_isa.specs.declared.instruction.Operand.TheVariants.{Absent}
use Rattle.jos_isa.specs.declared.opcode_map.Format.{Format}
use Rattle.jos_isa.specs.declared.opcode_map.Format.TheVariants.{Plain, ModRm}
use Rattle.jos_isa.specs.declared.opcode_map.Fields.{Fields}
use Rattle.jos_isa.specs.declared.opcode_map.Fields.TheVariants.{Register, MemoryOnly, NoRegister, Group}
use Rattle.jos_isa.specs.declared.opcode_map.OpcodeGroup.{OpcodeGroup}
use Rattle.jos_isa.specs.declared.opcode_map.OpcodeGroup.TheVariants.{Alu80}
use Rattle.jos_isa.specs.declared.opcode_map.Choice.{Choice}
use Rattle.jos_isa.specs.declared.opcode_map.Immediate.{Immediate}
use Rattle.jos_isa.specs.declared.behind_opcode.Chosen.{Chosen}
use Rattle.jos_isa.specs.declared.behind_opcode.PartFault.TheVariants.{Short}
use Rattle.jos_isa.specs.OpcodeMap.{choice_of, of_group, unary_f6, unary_f7, step_fe, step_ff}
use Rattle.jos_isa.specs.Spelling.{SpellsImmediate, SpellsOperand, SpellsModRm, SpellsRest, SpellsFormat}
use Rattle.jos_isa.specs.ClauseWords.{AreBytes}
use Rattle.jos_isa.specs.Decoding.{immediate_at, operand_at, chosen_of, modrm_at, rest_at, insn_in_format}
use Rattle.jos_isa.proofs.Readers.{are_append, one_zero, Reads, Joins, both, mapped, after, second_of, widened}
use Rattle.jos_isa.proofs.Readers.{byte-stops, taken_as, fields_of, ThreeFields, three_fields}
use Rattle.jos_isa.proofs.Immediates.{immediates, any_immediate}
use Rattle.jos_isa.proofs.Operands.{operands, any_operand}

-- ---- ModRM

-- each group has an instruction whose digit is 0
any_of_group : (group : OpcodeGroup) → (choice : Choice) × (of_group group 0 ≡ Some choice)
unfolding of_group unary_f6 unary_f7 step_fe step_ff
any_of_group Alu80 = (_, refl)
any_of_group group = (_, refl)

-- with mod 0 and reg 0 something is chosen
any_choice : (fields : Fields) → (choice : Choice) × (choice_of fields (nat_eq 0 3) 0 ≡ Some choice)
unfolding choice_of
any_choice (Register row immediate) = (_, refl)
any_choice (MemoryOnly row) = (_, refl)
any_choice (NoRegister row) = (_, refl)
any_choice (Group group) = any_of_group group

modrm-takes : (fields : Fields) (bytes : List ℕ) (x : Chosen) (rest : List ℕ) → modrm_at fields bytes ≡ Ok (x, rest) → (front : List ℕ) × (bytes ≡ front ++ rest) × SpellsModRm fields x front
unfolding modrm_at
modrm-takes fields [] x rest e = absurd cc
modrm-takes fields (m ∷ bytes) x rest e = go (choice_of fields (nat_eq (m / 64) 3) (m / 8 % 8)) refl e
  where
    go : (o : Option Choice) → choice_of fields (nat_eq (m / 64) 3) (m / 8 % 8) ≡ o → chosen_of o (m / 64) (m % 8) bytes ≡ Ok (x, rest) → (front : List ℕ) × (m ∷ bytes ≡ front ++ rest) × SpellsModRm fields x front
    go None is e = absurd cc
    go (Some choice) is e =
        let reg : m / 8 % 8 < 8 = omega arith in
        let rm : m % 8 < 8 = omega arith in
        taken_as (SpellsModRm fields) (m ∷ bytes) (m ∷ []) (record { choice = choice; mode = m / 64; rm = m % 8 }, bytes) (x, rest) e refl
        (m / 8 % 8, reg, rm, is, ap (λ (k : ℕ). k ∷ []) (fields_of m))

modrm-again : (fields : Fields) (x : Chosen) (front rest : List ℕ) → SpellsModRm fields x front → modrm_at fields (front ++ rest) ≡ Ok (x, rest)
unfolding modrm_at
modrm-again fields x front rest h =
    let f : ThreeFields (64 * x.mode + 8 * h.0 + x.rm) x.mode h.0 x.rm = three_fields x.mode h.0 x.rm h.1 h.2 in
    rw (h.4, f.high_is, f.middle_is, f.low_is, h.3) refl

modrm-begins : (fields : Fields) (bytes : List ℕ) → modrm_at fields bytes ≡ Err Short → (x : Chosen) × (next : ℕ) × (more : List ℕ) × AreBytes (next ∷ more) × SpellsModRm fields x (bytes ++ next ∷ more)
unfolding modrm_at
modrm-begins fields [] e =
    let c = any_choice fields in
    (record { choice = c.0; mode = 0; rm = 0 }, 0, [], one_zero, (0, omega arith, omega arith, c.1, refl))
modrm-begins fields (m ∷ bytes) e = absurd (go (choice_of fields (nat_eq (m / 64) 3) (m / 8 % 8)) e)
  where
    go : (o : Option Choice) → chosen_of o (m / 64) (m % 8) bytes ≡ Err Short → ⊥
    go None e = cc
    go (Some choice) e = cc

modrm-stops : (fields : Fields) (x : Chosen) (bytes : List ℕ) (next : ℕ) (more : List ℕ) → SpellsModRm fields x (bytes ++ next ∷ more) → modrm_at fields bytes ≡ Err Short
unfolding modrm_at
modrm-stops fields x bytes next more h = rw (byte-stops _ bytes next more h.4) refl

modrms : (fields : Fields) → Reads (modrm_at fields) (SpellsModRm fields) 1
modrms fields = record {
  takes = modrm-takes fields;
  again = modrm-again fields;
  begins = modrm-begins fields;
  stops = modrm-stops fields;
  within = λ x front h. rw h.4 (omega arith);
}

-- ---- operand and immediate

abbrev rest_insn : Chosen → Operand → ℕ → Insn
rest_insn x operand value = record { row = x.choice.row; repeat = Once; operand = operand; reg = x.choice.reg; imm = value }

rest_joins : (x : Chosen) → Joins (SpellsOperand x.mode x.rm) (λ _. SpellsImmediate x.choice.immediate) (rest_insn x) (SpellsRest x)
rest_joins x = record {
  joined = λ a b front back p q. (front, back, refl, p, q, refl);
  parted = λ insn bytes h. record { a = insn.operand; b = insn.imm; front = h.0; back = h.1; is = h.5; bytes_are = h.2; front_spells = h.3; back_spells = h.4 };
  follows = λ a. any_immediate x.choice.immediate;
}

rests : (x : Chosen) → Reads (rest_at x) (SpellsRest x) 9
unfolding rest_at
rests x =
    both (operand_at x.mode x.rm) (λ _. immediate_at x.choice.immediate) (rest_insn x) (SpellsOperand x.mode x.rm) (λ _. SpellsImmediate x.choice.immediate) (SpellsRest x) 5 4
    (operands x.mode x.rm) (λ _. immediates x.choice.immediate) (rest_joins x)

any_rest : (x : Chosen) → (insn : Insn) × (bytes : List ℕ) × AreBytes bytes × SpellsRest x insn bytes
any_rest x =
    let o = any_operand x.mode x.rm in
    let i = any_immediate x.choice.immediate in
    (rest_insn x o.0 i.0, o.1 ++ i.1, are_append o.1 i.1 o.2 i.2, (o.1, i.1, refl, o.3, i.3, refl))

-- ---- formats

abbrev plain_insn : Row → Repeat → ℕ → ℕ → Insn
plain_insn row repeat register value = record { row = row; repeat = repeat; operand = Absent; reg = register; imm = value }

plain : (row : Row) (repeat : Repeat) (register : ℕ) (immediate : Immediate) → Reads (insn_in_format (Plain row repeat register immediate)) (SpellsFormat (Plain row repeat register immediate)) 10
unfolding insn_in_format
plain row repeat register immediate =
    widened _ _ 4 10 (omega arith)
    (mapped (immediate_at immediate) (plain_insn row repeat register) (SpellsImmediate immediate) (SpellsFormat (Plain row repeat register immediate)) 4
    (λ a bytes h. (h, refl)) (λ insn bytes h. (insn.imm, h.1, h.0)) (immediates immediate))

modrm_joins : (fields : Fields) → Joins (SpellsModRm fields) SpellsRest second_of (SpellsFormat (ModRm fields))
modrm_joins fields = record {
  joined = λ a b front back p q. (a, front, back, refl, p, q);
  parted = λ insn bytes h. record { a = h.0; b = insn; front = h.1; back = h.2; is = refl; bytes_are = h.3; front_spells = h.4; back_spells = h.5 };
  follows = any_rest;
}

with_modrm : (fields : Fields) → Reads (insn_in_format (ModRm fields)) (SpellsFormat (ModRm fields)) 10
unfolding insn_in_format
with_modrm fields = after (modrm_at fields) rest_at (SpellsModRm fields) SpellsRest (SpellsFormat (ModRm fields)) 1 9 (modrms fields) rests (modrm_joins fields)

-- whatever stands behind an opcode
pub formats : (format : Format) → Reads (insn_in_format format) (SpellsFormat format) 10
formats (Plain row repeat register immediate) = plain row repeat register immediate
formats (ModRm fields) = with_modrm fields

pub any_format : (format : Format) → (insn : Insn) × (bytes : List ℕ) × AreBytes bytes × SpellsFormat format insn bytes
any_format (Plain row repeat register immediate) =
    let i = any_immediate immediate in
    (plain_insn row repeat register i.0, i.1, i.2, (i.3, refl))
any_format (ModRm fields) =
    let c = any_choice fields in
    let x : Chosen = record { choice = c.0; mode = 0; rm = 0 } in
    let r = any_rest x in
    (r.0, 0 ∷ r.1, are_append (0 ∷ []) r.1 one_zero r.2, (x, 0 ∷ [], r.1, refl, (0, omega arith, omega arith, c.1, refl), r.3))
