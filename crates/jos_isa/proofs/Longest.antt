-- No instruction has more than 11 bytes: behind an opcode of two bytes no ModRM byte brings more than a byte of
-- immediate.
use Rattle.std.proofs.Common.{◌≡◌, ℕ, suc, ◌+◌, ◌<◌, ◌≤◌, nat_eq, Bool, true, false, cond, List, [], ◌∷◌, ◌++◌}
use Rattle.std.proofs.Common.{length, take}
use Rattle.std.proofs.Common.{Option, Some, None, refl, ap, subst, ◌∙◌, arith}
use Rattle.std.proofs.lemmas.List.{length-append, length-take-le}
use Rattle.jos_isa.specs.declared.instruction.Insn.{Insn}
use Rattle.jos_isa.specs.declared.lengths.TheConstants.{LONGEST}
use Rattle.jos_isa.specs.declared.opcode_map.Format.{Format}
use Rattle.jos_isa.specs.declared.opcode_map.Format.TheVariants.{Plain, ModRm}
use Rattle.jos_isa.specs.declared.opcode_map.Fields.{Fields}
use Rattle.jos_isa.specs.declared.opcode_map.Fields.TheVariants.{Register, MemoryOnly, NoRegister, Group}
use Rattle.jos_isa.specs.declared.opcode_map.Choice.{Choice}
use Rattle.jos_isa.specs.declared.opcode_map.Immediate.{Immediate}
use Rattle.jos_isa.specs.declared.opcode_map.Immediate.TheVariants.{Nothing, Imm8, SignedImm8, Imm16, Imm32}
use Rattle.jos_isa.specs.declared.opcode_map.Map.{Map}
use Rattle.jos_isa.specs.declared.opcode_map.Map.TheVariants.{TwoByte, OperandSize, Repne, Rep}
use Rattle.jos_isa.specs.declared.behind_opcode.Chosen.{Chosen}
use Rattle.jos_isa.specs.declared.decoder.Decoded.{Decoded}
use Rattle.jos_isa.specs.declared.decoder.Decoded.TheVariants.{Found, Short, Illegal}
use Rattle.jos_isa.specs.OpcodeMap.{two_byte_at, operand_size_at, repne_at, rep_at, format_behind, choice_of}
use Rattle.jos_isa.specs.Spelling.{SpellsImmediate, SpellsRest, SpellsFormat, SpellsOpcode, Spells}
use Rattle.jos_isa.specs.Decoding.{decoded}
use Rattle.jos_isa.specs.ClauseWords.{IfFound}
use Rattle.jos_isa.proofs.Booleans.{no_false}
use Rattle.jos_isa.proofs.Immediates.{immediates}
use Rattle.jos_isa.proofs.Operands.{operands}
use Rattle.jos_isa.proofs.Formats.{formats}
use Rattle.jos_isa.proofs.Instructions.{found, short}

-- ---- immediates of a byte at most

abbrev is_brief : Immediate → Bool
is_brief Nothing = true
is_brief Imm8 = true
is_brief SignedImm8 = true
is_brief Imm16 = false
is_brief Imm32 = false

abbrev is_brief_in : Fields → Bool
is_brief_in (Register row immediate) = is_brief immediate
is_brief_in (MemoryOnly row) = true
is_brief_in (NoRegister row) = true
is_brief_in (Group group) = false

-- of a format with a ModRM byte
abbrev is_brief_behind : Option Format → Bool
is_brief_behind None = true
is_brief_behind (Some (Plain row repeat register immediate)) = true
is_brief_behind (Some (ModRm fields)) = is_brief_in fields

brief_immediate : (immediate : Immediate) (value : ℕ) (bytes : List ℕ) → is_brief immediate ≡ true → SpellsImmediate immediate value bytes → length bytes ≤ 1
brief_immediate Nothing value bytes brief h = rw h.1 (omega arith)
brief_immediate Imm8 value bytes brief h = rw h (omega arith)
brief_immediate SignedImm8 value bytes brief h = rw h.2 (omega arith)
brief_immediate Imm16 value bytes brief h = no_false brief
brief_immediate Imm32 value bytes brief h = no_false brief

brief_choice : (fields : Fields) (register : Bool) (reg : ℕ) (choice : Choice) → is_brief_in fields ≡ true → choice_of fields register reg ≡ Some choice → is_brief choice.immediate ≡ true
unfolding choice_of
brief_choice fields register reg choice brief e = go fields register brief e
  where
    same : (a b : Choice) → Some a ≡ Some b → is_brief a.immediate ≡ true → is_brief b.immediate ≡ true
    same a b e h = let is : a ≡ b = cc in subst (λ (c : Choice). is_brief c.immediate ≡ true) is h

    go : (fields : Fields) (register : Bool) → is_brief_in fields ≡ true → choice_of fields register reg ≡ Some choice → is_brief choice.immediate ≡ true
    go (Register row immediate) register brief e = same (record { row = row; reg = reg; immediate = immediate }) choice e brief
    go (MemoryOnly row) true brief e = absurd cc
    go (MemoryOnly row) false brief e = same (record { row = row; reg = reg; immediate = Nothing }) choice e refl
    go (NoRegister row) register brief e = same (record { row = row; reg = 0; immediate = Nothing }) choice e refl
    go (Group group) register brief e = no_false brief

-- ---- behind an opcode of two bytes

record IsBriefBehind (format : Option Format) : Type 0 where
  pub is : is_brief_behind format ≡ true

either : (b : Bool) (x y : Option Format) → is_brief_behind x ≡ true → IsBriefBehind y → IsBriefBehind (cond b x y)
either true x y p q = record { is = p }
either false x y p q = q

no_more : IsBriefBehind None
no_more = record { is = refl }

brief_two_byte : (opcode : ℕ) → IsBriefBehind (two_byte_at opcode)
unfolding two_byte_at
brief_two_byte opcode = search (either, no_more) depth 16

brief_repne : (opcode : ℕ) → IsBriefBehind (repne_at opcode)
unfolding repne_at
brief_repne opcode = search (either, no_more)

brief_rep : (opcode : ℕ) → IsBriefBehind (rep_at opcode)
unfolding rep_at
brief_rep opcode = search (either, no_more) depth 16

brief_second : (map : Map) (second : ℕ) → IsBriefBehind (format_behind map second)
unfolding format_behind operand_size_at
brief_second TwoByte second = brief_two_byte second
brief_second OperandSize second = search (either, no_more)
brief_second Repne second = brief_repne second
brief_second Rep second = brief_rep second

-- ---- lengths

rest_within : (x : Chosen) (insn : Insn) (bytes : List ℕ) → is_brief x.choice.immediate ≡ true → SpellsRest x insn bytes → length bytes ≤ 6
rest_within x insn bytes brief h =
    let len : length bytes ≡ length h.0 + length h.1 = ap length h.2 ∙ length-append h.0 h.1 in
    let operand : length h.0 ≤ 5 = (operands x.mode x.rm).within insn.operand h.0 h.3 in
    let immediate : length h.1 ≤ 1 = brief_immediate x.choice.immediate insn.imm h.1 brief h.4 in
    omega arith

behind_two : (format : Format) (insn : Insn) (bytes : List ℕ) → is_brief_behind (Some format) ≡ true → SpellsFormat format insn bytes → length bytes ≤ 9
behind_two (Plain row repeat register immediate) insn bytes brief h =
    let len : length bytes ≤ 4 = (immediates immediate).within insn.imm bytes h.0 in
    omega arith
behind_two (ModRm fields) insn bytes brief h =
    let len : length bytes ≡ length h.1 + length h.2 = ap length h.3 ∙ length-append h.1 h.2 in
    let modrm : length h.1 ≡ 1 = ap length h.4.4 in
    let rest : length h.2 ≤ 6 = rest_within h.0 insn h.2 (brief_choice fields (nat_eq h.0.mode 3) h.4.0 h.0.choice brief h.4.3) h.5 in
    omega arith

pub longest : (insn : Insn) (bytes : List ℕ) → Spells insn bytes → length bytes ≤ LONGEST
longest insn bytes h = go h.1 h.4 h.3
  where
    go : (front : List ℕ) → SpellsOpcode h.0 front → bytes ≡ front ++ h.2 → length bytes ≤ 11
    go [] opcode e = absurd opcode
    go (b ∷ []) opcode e =
        let len : length bytes ≡ suc (length h.2) = ap length e in
        let behind : length h.2 ≤ 10 = (formats h.0).within insn h.2 h.5 in
        omega arith
    go (b ∷ s ∷ []) opcode e =
        let len : length bytes ≡ suc (suc (length h.2)) = ap length e in
        let brief : is_brief_behind (Some h.0) ≡ true = subst (λ (o : Option Format). is_brief_behind o ≡ true) opcode.2 (brief_second opcode.0 s).is in
        let behind : length h.2 ≤ 9 = behind_two h.0 insn h.2 brief h.5 in
        omega arith
    go (b ∷ s ∷ t ∷ front) opcode e = absurd opcode

-- ---- what `decoded` answers

pub found_longest : (bytes : List ℕ) → IfFound (decoded bytes) (λ insn len. len ≤ LONGEST)
found_longest bytes = go (decoded bytes) (found bytes)
  where
    go : (d : Decoded) → IfFound d (λ insn len. (len ≤ length bytes) × Spells insn (take len bytes)) → IfFound d (λ insn len. len ≤ 11)
    go (Found insn len) h =
        let is : length (take len bytes) ≡ len = length-take-le len bytes h.0 in
        let most : length (take len bytes) ≤ 11 = longest insn (take len bytes) h.1 in
        omega arith
    go Short h = tt
    go Illegal h = tt

pub bounded : (bytes : List ℕ) → decoded bytes ≡ Short → length bytes < LONGEST
bounded bytes e =
    let s = short bytes e in
    let most : length (bytes ++ s.1 ∷ s.2) ≤ 11 = longest s.0 (bytes ++ s.1 ∷ s.2) s.4 in
    let sum : length (bytes ++ s.1 ∷ s.2) ≡ length bytes + length (s.1 ∷ s.2) = length-append bytes (s.1 ∷ s.2) in
    omega arith
