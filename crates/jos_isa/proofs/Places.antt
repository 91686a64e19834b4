-- The two tables lead to each other: from a row to its opcode and back, and from an opcode to its row and back.
use Rattle.std.proofs.Common.{◌≡◌, ℕ, zero, suc, ◌<◌, nat_lt, Bool, true, false, List, [], ◌∷◌, Option, Some, None}
use Rattle.std.proofs.Common.{refl, sym, ap, ◌∙◌, arith, inl, inr}
use Rattle.std.specs.Prelude.{◌&&◌, ◌==◌}
use Rattle.std.proofs.lemmas.Bool.{ltb-true, and_parts}
use Rattle.jos_isa.specs.declared.instruction.Row.{Row}
use Rattle.jos_isa.specs.declared.instruction.Row.TheVariants as row
use Rattle.jos_isa.specs.declared.instruction.Repeat.{Repeat}
use Rattle.jos_isa.specs.declared.instruction.Repeat.TheVariants.{Once, WhileEqual, WhileNot}
use Rattle.jos_isa.specs.declared.opcode_map.Format.{Format}
use Rattle.jos_isa.specs.declared.opcode_map.Format.TheVariants.{Plain, ModRm}
use Rattle.jos_isa.specs.declared.opcode_map.Fields.{Fields}
use Rattle.jos_isa.specs.declared.opcode_map.Fields.TheVariants.{Register, MemoryOnly, NoRegister, Group}
use Rattle.jos_isa.specs.declared.opcode_map.Choice.{Choice}
use Rattle.jos_isa.specs.declared.opcode_map.Immediate.{Immediate}
use Rattle.jos_isa.specs.declared.opcode_map.Immediate.TheVariants.{Nothing, Imm8, SignedImm8, Imm16, Imm32}
use Rattle.jos_isa.specs.declared.opcode_map.Map.{Map}
use Rattle.jos_isa.specs.declared.opcode_map.Map.TheVariants.{TwoByte, OperandSize, Repne, Rep}
use Rattle.jos_isa.specs.declared.opcode_map.OpcodeEntry.{OpcodeEntry}
use Rattle.jos_isa.specs.declared.opcode_map.OpcodeEntry.TheVariants.{Unassigned, Complete, Behind}
use Rattle.jos_isa.specs.OpcodeMap.{is_shift, from_00, from_40, from_70, from_90, from_a0, from_b0, from_d0, from_f0}
use Rattle.jos_isa.specs.OpcodeMap.{format_at, opcode_entry, two_byte_at, operand_size_at, repne_at, rep_at}
use Rattle.jos_isa.specs.OpcodeMap.{format_behind, unary_f6, unary_f7, step_fe, step_ff, of_group, choice_of}
use Rattle.jos_isa.specs.RowOpcodes.{opcode_of, digit_of, format_in, field_of}
use Rattle.jos_isa.specs.Lawful.{is_numbered, is_named, is_same_repeat}
use Rattle.std.proofs.lemmas.Bool.Decides.{nat_tests}
use Rattle.jos_isa.proofs.Booleans.{all_below, all_at}
use Rattle.jos_base.proofs.Bounds.{below_or_last}

-- ---- from a row

abbrev row_chosen : Option Choice → Row → Row
row_chosen None row = row
row_chosen (Some choice) row = choice.row

abbrev pub row_in_fields : Fields → Row → Row
row_in_fields (Register r _) row = r
row_in_fields (MemoryOnly r) row = r
row_in_fields (NoRegister r) row = r
row_in_fields (Group group) row = row_chosen (of_group group (digit_of row)) row

-- the row of a format, in a group that of the row's own digit
abbrev pub row_in : Option Format → Row → Row
row_in None row = row
row_in (Some (Plain r _ _ _)) row = r
row_in (Some (ModRm fields)) row = row_in_fields fields row

abbrev row_back : Row → Repeat → ℕ → Row
row_back row repeat reg = row_in (format_in repeat (opcode_of row reg)) row

-- the values of a function at each of the first numbers
abbrev listed : {A : Type 0} → (ℕ → A) → ℕ → List A
listed f zero = []
listed f (suc n) = f n ∷ listed f n

listed_at : {A : Type 0} (f g : ℕ → A) (n : ℕ) → listed f n ≡ listed g n → (i : ℕ) → i < n → f i ≡ g i
listed_at f g zero e i small = absurd (omega arith)
listed_at {A} f g (suc n) e i small =
    let heads : f n ≡ g n = cc in
    let tails : listed f n ≡ listed g n = cc in
    elim (below_or_last i n small) [
      | inr is ↦ ap f is ∙ heads ∙ sym (ap g is)
      | inl less ↦ listed_at f g n tails i less
    ]

-- the same beside a repetition
each : (f g : Repeat → ℕ → Row) (n : ℕ) → listed (f Once) n ≡ listed (g Once) n → listed (f WhileEqual) n ≡ listed (g WhileEqual) n → listed (f WhileNot) n ≡ listed (g WhileNot) n
    → (repeat : Repeat) (i : ℕ) → i < n → f repeat i ≡ g repeat i
each f g n once equal not Once i small = listed_at (f Once) (g Once) n once i small
each f g n once equal not WhileEqual i small = listed_at (f WhileEqual) (g WhileEqual) n equal i small
each f g n once equal not WhileNot i small = listed_at (f WhileNot) (g WhileNot) n not i small

pub shift_small : (k : ℕ) → is_shift k ≡ true → k < 8
shift_small k h = grind (arith, nat_tests)

-- Whatever format stands at a row's opcode is of that row. The rows with a number and those with a register in the
-- opcode are computed at each number; all others by themselves.
pub leads_back : (row : Row) (repeat : Repeat) (reg : ℕ) → is_numbered row ≡ true → is_named row reg ≡ true → row_back row repeat reg ≡ row
unfolding is_numbered is_named format_in opcode_of digit_of opcode_entry format_at from_00 from_40 from_70 from_90 from_a0 from_b0 from_d0 from_f0 format_behind two_byte_at operand_size_at repne_at rep_at of_group unary_f6 unary_f7 step_fe step_ff
leads_back (row.AluRm8R8 k) repeat reg h s = each (λ r k. row_back (row.AluRm8R8 k) r reg) (λ r k. row.AluRm8R8 k) 8 refl refl refl repeat k (ltb-true k 8 h)
leads_back (row.AluRm32R32 k) repeat reg h s = each (λ r k. row_back (row.AluRm32R32 k) r reg) (λ r k. row.AluRm32R32 k) 8 refl refl refl repeat k (ltb-true k 8 h)
leads_back (row.AluR8Rm8 k) repeat reg h s = each (λ r k. row_back (row.AluR8Rm8 k) r reg) (λ r k. row.AluR8Rm8 k) 8 refl refl refl repeat k (ltb-true k 8 h)
leads_back (row.AluR32Rm32 k) repeat reg h s = each (λ r k. row_back (row.AluR32Rm32 k) r reg) (λ r k. row.AluR32Rm32 k) 8 refl refl refl repeat k (ltb-true k 8 h)
leads_back (row.AluAlImm8 k) repeat reg h s = each (λ r k. row_back (row.AluAlImm8 k) r reg) (λ r k. row.AluAlImm8 k) 8 refl refl refl repeat k (ltb-true k 8 h)
leads_back (row.AluEaxImm32 k) repeat reg h s = each (λ r k. row_back (row.AluEaxImm32 k) r reg) (λ r k. row.AluEaxImm32 k) 8 refl refl refl repeat k (ltb-true k 8 h)
leads_back (row.AluRm8Imm8 k) repeat reg h s = each (λ r k. row_back (row.AluRm8Imm8 k) r reg) (λ r k. row.AluRm8Imm8 k) 8 refl refl refl repeat k (ltb-true k 8 h)
leads_back (row.AluRm32Imm32 k) repeat reg h s = each (λ r k. row_back (row.AluRm32Imm32 k) r reg) (λ r k. row.AluRm32Imm32 k) 8 refl refl refl repeat k (ltb-true k 8 h)
leads_back (row.AluRm32Imm8 k) repeat reg h s = each (λ r k. row_back (row.AluRm32Imm8 k) r reg) (λ r k. row.AluRm32Imm8 k) 8 refl refl refl repeat k (ltb-true k 8 h)
leads_back (row.ShiftRm8Imm8 k) repeat reg h s = each (λ r k. row_back (row.ShiftRm8Imm8 k) r reg) (λ r k. row.ShiftRm8Imm8 k) 8 refl refl refl repeat k (shift_small k h)
leads_back (row.ShiftRm32Imm8 k) repeat reg h s = each (λ r k. row_back (row.ShiftRm32Imm8 k) r reg) (λ r k. row.ShiftRm32Imm8 k) 8 refl refl refl repeat k (shift_small k h)
leads_back (row.ShiftRm8One k) repeat reg h s = each (λ r k. row_back (row.ShiftRm8One k) r reg) (λ r k. row.ShiftRm8One k) 8 refl refl refl repeat k (shift_small k h)
leads_back (row.ShiftRm32One k) repeat reg h s = each (λ r k. row_back (row.ShiftRm32One k) r reg) (λ r k. row.ShiftRm32One k) 8 refl refl refl repeat k (shift_small k h)
leads_back (row.ShiftRm8Cl k) repeat reg h s = each (λ r k. row_back (row.ShiftRm8Cl k) r reg) (λ r k. row.ShiftRm8Cl k) 8 refl refl refl repeat k (shift_small k h)
leads_back (row.ShiftRm32Cl k) repeat reg h s = each (λ r k. row_back (row.ShiftRm32Cl k) r reg) (λ r k. row.ShiftRm32Cl k) 8 refl refl refl repeat k (shift_small k h)
leads_back (row.JccRel8 c) repeat reg h s = each (λ r c. row_back (row.JccRel8 c) r reg) (λ r c. row.JccRel8 c) 16 refl refl refl repeat c (ltb-true c 16 h)
leads_back (row.JccRel32 c) repeat reg h s = each (λ r c. row_back (row.JccRel32 c) r reg) (λ r c. row.JccRel32 c) 16 refl refl refl repeat c (ltb-true c 16 h)
leads_back (row.SetccRm8 c) repeat reg h s = each (λ r c. row_back (row.SetccRm8 c) r reg) (λ r c. row.SetccRm8 c) 16 refl refl refl repeat c (ltb-true c 16 h)
leads_back row.IncR32 repeat reg h s = each (λ r reg. row_back row.IncR32 r reg) (λ r reg. row.IncR32) 8 refl refl refl repeat reg (ltb-true reg 8 s)
leads_back row.DecR32 repeat reg h s = each (λ r reg. row_back row.DecR32 r reg) (λ r reg. row.DecR32) 8 refl refl refl repeat reg (ltb-true reg 8 s)
leads_back row.PushR32 repeat reg h s = each (λ r reg. row_back row.PushR32 r reg) (λ r reg. row.PushR32) 8 refl refl refl repeat reg (ltb-true reg 8 s)
leads_back row.PopR32 repeat reg h s = each (λ r reg. row_back row.PopR32 r reg) (λ r reg. row.PopR32) 8 refl refl refl repeat reg (ltb-true reg 8 s)
leads_back row.XchgEaxR32 repeat zero h s = absurd cc
leads_back row.XchgEaxR32 repeat (suc reg) h s =
    let small : suc reg < 8 = ltb-true (suc reg) 8 (and_parts (nat_lt (suc reg) 8) _ s).0 in
    each (λ r reg. row_back row.XchgEaxR32 r (suc reg)) (λ r reg. row.XchgEaxR32) 7 refl refl refl repeat reg (omega arith)
leads_back row.MovR8Imm8 repeat reg h s = each (λ r reg. row_back row.MovR8Imm8 r reg) (λ r reg. row.MovR8Imm8) 8 refl refl refl repeat reg (ltb-true reg 8 s)
leads_back row.MovR32Imm32 repeat reg h s = each (λ r reg. row_back row.MovR32Imm32 r reg) (λ r reg. row.MovR32Imm32) 8 refl refl refl repeat reg (ltb-true reg 8 s)
leads_back row Once reg h s = refl
leads_back row WhileEqual reg h s = refl
leads_back row WhileNot reg h s = refl

-- ---- from an opcode

abbrev pub is_same_immediate : Immediate → Immediate → Bool
is_same_immediate Nothing Nothing = true
is_same_immediate Imm8 Imm8 = true
is_same_immediate SignedImm8 SignedImm8 = true
is_same_immediate Imm16 Imm16 = true
is_same_immediate Imm32 Imm32 = true
is_same_immediate _ _ = false

abbrev pub is_plain : Option Format → Repeat → ℕ → Immediate → Bool
is_plain None repeat register immediate = false
is_plain (Some (Plain _ p g i)) repeat register immediate = is_same_repeat p repeat && g == register && is_same_immediate i immediate
is_plain (Some (ModRm _)) repeat register immediate = false

abbrev pub is_same_choice : Choice → Option Choice → Bool
is_same_choice choice None = false
is_same_choice choice (Some other) = other.reg == choice.reg && is_same_immediate other.immediate choice.immediate

abbrev pub is_chosen : Bool → Choice → Option Format → Bool
is_chosen register choice None = false
is_chosen register choice (Some (Plain _ _ _ _)) = false
is_chosen register choice (Some (ModRm fields)) = is_same_choice choice (choice_of fields register (field_of fields choice.row choice.reg))

-- What stands at the opcode of a row that was read is of the same kind.
abbrev pub plain_returns : Row → Repeat → ℕ → Immediate → Bool
plain_returns row repeat register immediate =
    is_numbered row && is_named row register && is_plain (format_in repeat (opcode_of row register)) repeat register immediate

abbrev pub choice_returns : Bool → Option Choice → Bool
choice_returns register None = true
choice_returns register (Some choice) =
    is_numbered choice.row && is_named choice.row choice.reg && is_chosen register choice (format_in Once (opcode_of choice.row choice.reg))

abbrev pub fields_return : Fields → ℕ → Bool
fields_return fields reg = choice_returns true (choice_of fields true reg) && choice_returns false (choice_of fields false reg)

abbrev pub format_returns : Format → Bool
format_returns (Plain row repeat register immediate) = plain_returns row repeat register immediate
format_returns (ModRm fields) = all_below (fields_return fields) 8

abbrev pub some_returns : Option Format → Bool
some_returns None = true
some_returns (Some format) = format_returns format

abbrev pub entry_returns : OpcodeEntry → Bool
entry_returns Unassigned = true
entry_returns (Complete format) = format_returns format
entry_returns (Behind map) = true

-- computed over all entries of each map
first_bytes : all_below (λ byte. entry_returns (opcode_entry byte)) 256 ≡ true
unfolding is_numbered is_named choice_of field_of format_in opcode_of digit_of opcode_entry format_at from_00 from_40 from_70 from_90 from_a0 from_b0 from_d0 from_f0 format_behind two_byte_at operand_size_at repne_at rep_at of_group unary_f6 unary_f7 step_fe step_ff
first_bytes = refl

second_bytes : (map : Map) → all_below (λ byte. some_returns (format_behind map byte)) 256 ≡ true
unfolding is_numbered is_named choice_of field_of format_in opcode_of digit_of opcode_entry format_at from_00 from_40 from_70 from_90 from_a0 from_b0 from_d0 from_f0 format_behind two_byte_at operand_size_at repne_at rep_at of_group unary_f6 unary_f7 step_fe step_ff
second_bytes TwoByte = refl
second_bytes OperandSize = refl
second_bytes Repne = refl
second_bytes Rep = refl

pub first_returns : (byte : ℕ) → byte < 256 → entry_returns (opcode_entry byte) ≡ true
first_returns byte small = all_at (λ byte. entry_returns (opcode_entry byte)) 256 first_bytes byte small

pub second_returns : (map : Map) (byte : ℕ) → byte < 256 → some_returns (format_behind map byte) ≡ true
second_returns map byte small = all_at (λ byte. some_returns (format_behind map byte)) 256 (second_bytes map) byte small

-- ---- registers and digits

pub named_small : (row : Row) (reg : ℕ) → is_named row reg ≡ true → reg < 8
unfolding is_named
named_small row.XchgEaxR32 reg h = ltb-true reg 8 (and_parts (nat_lt reg 8) _ h).0
named_small row reg h = ltb-true reg 8 h

digit_small : (row : Row) → is_numbered row ≡ true → digit_of row < 8
unfolding is_numbered digit_of
digit_small (row.AluRm8Imm8 k) h = ltb-true k 8 h
digit_small (row.AluRm32Imm32 k) h = ltb-true k 8 h
digit_small (row.AluRm32Imm8 k) h = ltb-true k 8 h
digit_small (row.ShiftRm8Imm8 k) h = shift_small k h
digit_small (row.ShiftRm32Imm8 k) h = shift_small k h
digit_small (row.ShiftRm8One k) h = shift_small k h
digit_small (row.ShiftRm32One k) h = shift_small k h
digit_small (row.ShiftRm8Cl k) h = shift_small k h
digit_small (row.ShiftRm32Cl k) h = shift_small k h
digit_small row h = omega arith

pub field_small : (fields : Fields) (row : Row) (reg : ℕ) → is_numbered row ≡ true → is_named row reg ≡ true → field_of fields row reg < 8
unfolding field_of
field_small (Register _ _) row reg h s = named_small row reg s
field_small (MemoryOnly _) row reg h s = named_small row reg s
field_small (NoRegister _) row reg h s = omega arith
field_small (Group _) row reg h s = digit_small row h
