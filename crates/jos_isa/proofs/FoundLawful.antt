-- What bytes spell is lawful.
use Rattle.std.proofs.Common.{◌≡◌, ◌≢◌, ℕ, zero, suc, ◌+◌, ◌*◌, ◌<◌, ◌≤◌, nat_eq, nat_lt, nat_le, Bool, true, false}
use Rattle.std.proofs.Common.{cond, List, [], ◌∷◌, ◌++◌, length, get_or, Option, Some, None, refl, sym, subst, arith}
use Rattle.std.proofs.Common.{inl, inr, Ok, Err, Result}
use Rattle.std.specs.Prelude.{◌&&◌, ◌||◌}
use Rattle.std.specs.Int.{w16, from_le_bytes}
use Rattle.std.proofs.lemmas.Bool.{lt-ltb, ltb-false, le-leb, and_parts, and_from, or_left, or_right}
use Rattle.jos_isa.specs.declared.instruction.Insn.{Insn}
use Rattle.jos_isa.specs.declared.instruction.Row.{Row}
use Rattle.jos_isa.specs.declared.instruction.Repeat.{Repeat}
use Rattle.jos_isa.specs.declared.instruction.Repeat.TheVariants.{Once}
use Rattle.jos_isa.specs.declared.instruction.Operand.{Operand}
use Rattle.jos_isa.specs.declared.instruction.Operand.TheVariants.{Absent, Reg, Mem}
use Rattle.jos_isa.specs.declared.instruction.MemArg.{MemArg}
use Rattle.jos_isa.specs.declared.instruction.Disp.{Disp}
use Rattle.jos_isa.specs.declared.opcode_map.Format.{Format}
use Rattle.jos_isa.specs.declared.opcode_map.Format.TheVariants.{Plain, ModRm}
use Rattle.jos_isa.specs.declared.opcode_map.Fields.{Fields}
use Rattle.jos_isa.specs.declared.opcode_map.Choice.{Choice}
use Rattle.jos_isa.specs.declared.opcode_map.Immediate.{Immediate}
use Rattle.jos_isa.specs.declared.opcode_map.Immediate.TheVariants.{Nothing, Imm8, SignedImm8, Imm16, Imm32}
use Rattle.jos_isa.specs.declared.opcode_map.OpcodeEntry.{OpcodeEntry}
use Rattle.jos_isa.specs.declared.behind_opcode.Sib.{Sib}
use Rattle.jos_isa.specs.declared.behind_opcode.DispKind.TheVariants as disp_kind
use Rattle.jos_isa.specs.declared.behind_opcode.PartFault.{PartFault}
use Rattle.jos_isa.specs.declared.behind_opcode.PartFault.TheVariants as fault
use Rattle.jos_isa.specs.OpcodeMap.{choice_of}
use Rattle.jos_isa.specs.Spelling.{sign_extended_byte, SpellsImmediate, SpellsDisp, disp_kind_of, base_of, sib_of}
use Rattle.jos_isa.specs.Spelling.{SpellsSib, SpellsMemory, SpellsOperand, SpellsFormat, SpellsOpcode, Spells}
use Rattle.jos_isa.specs.Decoding.{instruction_at, decoded_from, decoded}
use Rattle.jos_isa.specs.RowOpcodes.{opcode_of, format_in, field_of}
use Rattle.jos_isa.specs.Lawful.{is_numbered, is_named, is_immediate, is_base, is_index, is_mem_arg, is_operand}
use Rattle.jos_isa.specs.Lawful.{is_register, is_same_repeat, fits_choice, fits_format, format_for, is_lawful}
use Rattle.jos_isa.specs.ClauseWords.{AreBytes, IfFound}
use Rattle.jos_isa.proofs.Booleans.{no_false, all_at}
use Rattle.jos_isa.proofs.Readers.{eqb-is}
use Rattle.jos_isa.proofs.Places.{is_same_immediate, is_plain, is_same_choice, is_chosen, choice_returns}
use Rattle.jos_isa.proofs.Places.{fields_return, format_returns, some_returns, entry_returns, first_returns}
use Rattle.jos_isa.proofs.Places.{second_returns}
use Rattle.jos_isa.proofs.Instructions.{instructions}

-- ---- bytes

pub are_bytes : (bytes : List ℕ) → ((i : ℕ) → get_or bytes i 0 < 256) → AreBytes bytes
are_bytes [] h = tt
are_bytes (b ∷ bytes) h = (h zero, are_bytes bytes (λ i. h (suc i)))

front_bytes : (front back : List ℕ) → AreBytes (front ++ back) → AreBytes front
front_bytes [] back h = tt
front_bytes (b ∷ front) back h = (h.0, front_bytes front back h.1)

back_bytes : (front back : List ℕ) → AreBytes (front ++ back) → AreBytes back
back_bytes [] back h = h
back_bytes (b ∷ front) back h = back_bytes front back h.1

as_bytes : (bytes other : List ℕ) → bytes ≡ other → AreBytes bytes → AreBytes other
as_bytes bytes other e h = subst AreBytes e h

-- ---- immediates

u16_small : (a b : ℕ) → a < 256 → b < 256 → from_le_bytes w16 (a ∷ b ∷ []) < 0x1_0000
u16_small a b p q = omega arith

extended_lawful : (byte : ℕ) → byte < 256 → (nat_lt (sign_extended_byte byte) 0x80 || nat_le 0xffff_ff80 (sign_extended_byte byte)) ≡ true
extended_lawful byte small = go (nat_lt byte 128) refl
  where
    go : (b : Bool) → nat_lt byte 128 ≡ b → (nat_lt (cond b byte (byte + 0xffff_ff00)) 0x80 || nat_le 0xffff_ff80 (cond b byte (byte + 0xffff_ff00))) ≡ true
    go true e = or_left (nat_lt byte 0x80) (nat_le 0xffff_ff80 byte) e
    go false e =
        let high : 128 ≤ byte = ltb-false byte 128 e in
        or_right (nat_lt (byte + 0xffff_ff00) 0x80) (nat_le 0xffff_ff80 (byte + 0xffff_ff00)) (le-leb 0xffff_ff80 (byte + 0xffff_ff00) (omega arith))

immediate_lawful : (immediate : Immediate) (value : ℕ) (bytes : List ℕ) → SpellsImmediate immediate value bytes → AreBytes bytes → is_immediate immediate value ≡ true
unfolding is_immediate
immediate_lawful Nothing value bytes h are = rw h.0 refl
immediate_lawful Imm8 value bytes h are = lt-ltb value 0x100 (as_bytes bytes (value ∷ []) h are).0
immediate_lawful SignedImm8 value bytes h are = rw h.1 (extended_lawful h.0 (as_bytes bytes (h.0 ∷ []) h.2 are).0)
immediate_lawful Imm16 value bytes h are =
    let two = as_bytes bytes (h.0 ∷ h.1 ∷ []) h.3 are in
    rw h.2 (lt-ltb (from_le_bytes w16 (h.0 ∷ h.1 ∷ [])) 0x1_0000 (u16_small h.0 h.1 two.0 two.1.0))
immediate_lawful Imm32 value bytes h are = refl

-- ---- operands

base_lawful : (mode number : ℕ) (d : Disp) (bytes : List ℕ) → number < 8 → SpellsDisp (disp_kind_of mode number) d bytes → is_base (base_of mode number) d ≡ true
unfolding is_base
base_lawful mode number d bytes small h = go (nat_eq mode 0) (nat_eq number 5) (nat_eq mode 1) refl h
  where
    go : (zeroth fifth first : Bool) → nat_eq number 5 ≡ fifth → SpellsDisp (cond zeroth (cond fifth disp_kind.Disp32 disp_kind.Nothing) (cond first disp_kind.Disp8 disp_kind.Disp32)) d bytes
        → is_base (cond (zeroth && fifth) None (Some number)) d ≡ true
    go true true first e h = rw h.4 refl
    go true false first e h = rw (h.0, lt-ltb number 8 small, e) refl
    go false fifth true e h = rw (h.1, lt-ltb number 8 small) refl
    go false fifth false e h = rw (h.4, lt-ltb number 8 small) refl

index_lawful : (scale index base : ℕ) → scale < 4 → index < 8 → is_index (sib_of scale index base).index (sib_of scale index base).scale ≡ true
unfolding is_index
index_lawful scale index base small below = go (nat_eq index 4) refl
  where
    go : (b : Bool) → nat_eq index 4 ≡ b
        → is_index (cond {A = Sib} b (record { base = base; index = None; scale = 0 }) (record { base = base; index = Some index; scale = scale })).index (cond {A = Sib} b (record { base = base; index = None; scale = 0 }) (record { base = base; index = Some index; scale = scale })).scale ≡ true
    go true e = refl
    go false e = rw (lt-ltb index 8 below, e, lt-ltb scale 4 small) refl

sib_base : (scale index base : ℕ) → (sib_of scale index base).base ≡ base
sib_base scale index base = go (nat_eq index 4)
  where
    go : (b : Bool) → (cond {A = Sib} b (record { base = base; index = None; scale = 0 }) (record { base = base; index = Some index; scale = scale })).base ≡ base
    go true = refl
    go false = refl

sib_lawful : (rm : ℕ) (sib : Sib) (bytes : List ℕ) → rm < 8 → SpellsSib rm sib bytes → AreBytes bytes → (sib.base < 8) × (is_index sib.index sib.scale ≡ true)
unfolding is_index
sib_lawful rm sib bytes small (inl h) are = (subst (λ (s : Sib). s.base < 8) (sym h.1) small, subst (λ (s : Sib). is_index s.index s.scale ≡ true) (sym h.1) refl)
sib_lawful rm sib bytes small (inr h) are =
    let byte : 64 * h.0 + 8 * h.1 + h.2 < 256 = (as_bytes bytes ((64 * h.0 + 8 * h.1 + h.2) ∷ []) h.7 are).0 in
    let scale : h.0 < 4 = omega arith in (
      subst (λ (s : Sib). s.base < 8) (sym h.6) (subst (λ (n : ℕ). n < 8) (sym (sib_base h.0 h.1 h.2)) h.5),
      subst (λ (s : Sib). is_index s.index s.scale ≡ true) (sym h.6) (index_lawful h.0 h.1 h.2 scale h.4),
    )

memory_lawful : (mode rm : ℕ) (arg : MemArg) (bytes : List ℕ) → rm < 8 → SpellsMemory mode rm arg bytes → AreBytes bytes → is_mem_arg arg ≡ true
memory_lawful mode rm arg bytes small h are =
    let s = sib_lawful rm h.0 h.1 small h.4 (front_bytes h.1 h.2 (as_bytes bytes (h.1 ++ h.2) h.3 are)) in
    subst (λ (a : MemArg). is_mem_arg a ≡ true) (sym h.6) (and_from _ _ (base_lawful mode h.0.base arg.disp h.2 s.0 h.5) s.1)

isnt-eqb : (a b : ℕ) → a ≢ b → nat_eq a b ≡ false
isnt-eqb a b ne = go (nat_eq a b) refl
  where
    go : (t : Bool) → nat_eq a b ≡ t → t ≡ false
    go true e = absurd (ne (eqb-is a b e))
    go false e = refl

operand_lawful : (mode rm : ℕ) (operand : Operand) (bytes : List ℕ) → rm < 8 → SpellsOperand mode rm operand bytes → AreBytes bytes → (is_operand operand ≡ true) × (is_register operand ≡ nat_eq mode 3)
unfolding is_operand
operand_lawful mode rm (Reg r) bytes small h are = (rw h.1 (lt-ltb rm 8 small), rw h.0 refl)
operand_lawful mode rm (Mem arg) bytes small h are = (memory_lawful mode rm arg bytes small h.1 are, sym (isnt-eqb mode 3 h.0))
operand_lawful mode rm Absent bytes small h are = absurd h

-- ---- formats

same_immediate : (a b : Immediate) → is_same_immediate a b ≡ true → a ≡ b
same_immediate Nothing Nothing h = refl
same_immediate Imm8 Imm8 h = refl
same_immediate SignedImm8 SignedImm8 h = refl
same_immediate Imm16 Imm16 h = refl
same_immediate Imm32 Imm32 h = refl
same_immediate a b h = absurd cc

plain_fits : (o : Option Format) (row : Row) (repeat : Repeat) (register : ℕ) (immediate : Immediate) (value : ℕ) → is_plain o repeat register immediate ≡ true → is_immediate immediate value ≡ true
    → fits_format (record { row = row; repeat = repeat; operand = Absent; reg = register; imm = value }) o ≡ true
unfolding fits_format
plain_fits None row repeat register immediate value h fits = no_false h
plain_fits (Some (Plain r p g i)) row repeat register immediate value h fits =
    let outer = and_parts (is_same_repeat p repeat && nat_eq g register) (is_same_immediate i immediate) h in
    let inner = and_parts (is_same_repeat p repeat) (nat_eq g register) outer.0 in
    rw (inner.0, inner.1, same_immediate i immediate outer.1, fits) refl
plain_fits (Some (ModRm fields)) row repeat register immediate value h fits = no_false h

choice_fits : (o : Option Choice) (choice : Choice) (insn : Insn) → is_same_choice choice o ≡ true → choice.reg ≡ insn.reg → is_immediate choice.immediate insn.imm ≡ true → fits_choice insn o ≡ true
unfolding fits_choice
choice_fits None choice insn h reg fits = no_false h
choice_fits (Some other) choice insn h reg fits =
    let parts = and_parts (nat_eq other.reg choice.reg) (is_same_immediate other.immediate choice.immediate) h in
    and_from _ _ (subst (λ (n : ℕ). nat_eq other.reg n ≡ true) reg parts.0) (rw (same_immediate other.immediate choice.immediate parts.1) fits)

modrm_fits : (o : Option Format) (choice : Choice) (operand : Operand) (value : ℕ) → is_chosen (is_register operand) choice o ≡ true → is_operand operand ≡ true → is_immediate choice.immediate value ≡ true
    → fits_format (record { row = choice.row; repeat = Once; operand = operand; reg = choice.reg; imm = value }) o ≡ true
unfolding fits_format
modrm_fits None choice operand value h is fits = no_false h
modrm_fits (Some (Plain r p g i)) choice operand value h is fits = no_false h
modrm_fits (Some (ModRm fields)) choice operand value h is fits =
    and_from _ _ is
    (choice_fits (choice_of fields (is_register operand) (field_of fields choice.row choice.reg)) choice (record { row = choice.row; repeat = Once; operand = operand; reg = choice.reg; imm = value }) h refl fits)

-- ---- instructions

chosen_returns : (fields : Fields) (register : Bool) (reg : ℕ) → fields_return fields reg ≡ true → choice_returns register (choice_of fields register reg) ≡ true
chosen_returns fields true reg h = (and_parts (choice_returns true (choice_of fields true reg)) (choice_returns false (choice_of fields false reg)) h).0
chosen_returns fields false reg h = (and_parts (choice_returns true (choice_of fields true reg)) (choice_returns false (choice_of fields false reg)) h).1

opcode_returns : (format : Format) (bytes : List ℕ) → SpellsOpcode format bytes → AreBytes bytes → format_returns format ≡ true
opcode_returns format [] h are = absurd h
opcode_returns format (b ∷ []) h are = subst (λ (e : OpcodeEntry). entry_returns e ≡ true) h (first_returns b are.0)
opcode_returns format (b ∷ s ∷ []) h are = subst (λ (o : Option Format). some_returns o ≡ true) h.2 (second_returns h.0 s are.1.0)
opcode_returns format (b ∷ s ∷ t ∷ bytes) h are = absurd h

format_lawful : (format : Format) (insn : Insn) (bytes : List ℕ) → format_returns format ≡ true → SpellsFormat format insn bytes → AreBytes bytes → is_lawful insn ≡ true
unfolding is_lawful format_for
format_lawful (Plain row repeat register immediate) insn bytes returns h are =
    let parts = and_parts (is_numbered row && is_named row register) (is_plain (format_in repeat (opcode_of row register)) repeat register immediate) returns in
    subst (λ (i : Insn). (is_numbered i.row && is_named i.row i.reg && fits_format i (format_in i.repeat (opcode_of i.row i.reg))) ≡ true) (sym h.1)
    (and_from _ _ parts.0 (plain_fits (format_in repeat (opcode_of row register)) row repeat register immediate insn.imm parts.1 (immediate_lawful immediate insn.imm bytes h.0 are)))
format_lawful (ModRm fields) insn bytes returns h are =
    let chosen = h.0 in
    let modrm = h.4 in
    let rest = h.5 in
    let behind : AreBytes h.2 = back_bytes h.1 h.2 (as_bytes bytes (h.1 ++ h.2) h.3 are) in
    let parted : AreBytes (rest.0 ++ rest.1) = as_bytes h.2 (rest.0 ++ rest.1) rest.2 behind in
    let operand = operand_lawful chosen.mode chosen.rm insn.operand rest.0 modrm.2 rest.3 (front_bytes rest.0 rest.1 parted) in
    let every : fields_return fields modrm.0 ≡ true = all_at (fields_return fields) 8 returns modrm.0 modrm.1 in
    let one : choice_returns (nat_eq chosen.mode 3) (choice_of fields (nat_eq chosen.mode 3) modrm.0) ≡ true = chosen_returns fields (nat_eq chosen.mode 3) modrm.0 every in
    let some : choice_returns (is_register insn.operand) (Some chosen.choice) ≡ true =
    subst (λ (b : Bool). choice_returns b (Some chosen.choice) ≡ true) (sym operand.1) (subst (λ (o : Option Choice). choice_returns (nat_eq chosen.mode 3) o ≡ true) modrm.3 one)
    in
    let parts = and_parts (is_numbered chosen.choice.row && is_named chosen.choice.row chosen.choice.reg) (is_chosen (is_register insn.operand) chosen.choice (format_in Once (opcode_of chosen.choice.row chosen.choice.reg))) some in
    subst (λ (i : Insn). (is_numbered i.row && is_named i.row i.reg && fits_format i (format_in i.repeat (opcode_of i.row i.reg))) ≡ true) (sym rest.5)
    (and_from _ _ parts.0
    (modrm_fits (format_in Once (opcode_of chosen.choice.row chosen.choice.reg)) chosen.choice insn.operand insn.imm parts.1 operand.0
    (immediate_lawful chosen.choice.immediate insn.imm rest.1 rest.4 (back_bytes rest.0 rest.1 parted))))

pub spelled_lawful : (insn : Insn) (bytes : List ℕ) → Spells insn bytes → AreBytes bytes → is_lawful insn ≡ true
spelled_lawful insn bytes h are =
    let parts : AreBytes (h.1 ++ h.2) = as_bytes bytes (h.1 ++ h.2) h.3 are in
    format_lawful h.0 insn h.2 (opcode_returns h.0 h.1 h.4 (front_bytes h.1 h.2 parts)) h.5 (back_bytes h.1 h.2 parts)

lawful_of : (bytes : List ℕ) (read : Result (Insn × List ℕ) PartFault) → instruction_at bytes ≡ read → AreBytes bytes → IfFound (decoded_from (length bytes) read) (λ insn len. is_lawful insn ≡ true)
lawful_of bytes (Ok x) e are =
    let t = instructions.takes bytes x.0 x.1 e in
    spelled_lawful x.0 t.0 t.2 (front_bytes t.0 x.1 (as_bytes bytes (t.0 ++ x.1) t.1 are))
lawful_of bytes (Err fault.Short) e are = tt
lawful_of bytes (Err fault.Illegal) e are = tt

pub found_lawful : (bytes : List ℕ) → ((i : ℕ) → get_or bytes i 0 < 256) → IfFound (decoded bytes) (λ insn len. is_lawful insn ≡ true)
unfolding decoded
found_lawful bytes small = lawful_of bytes (instruction_at bytes) refl (are_bytes bytes small)
