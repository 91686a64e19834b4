-- Bytes that are fewer than an instruction surely has.
use Rattle.std.proofs.Common.{◌≡◌, ℕ, ◌+◌, ◌/◌, ◌%◌, ◌<◌, ◌≤◌, Bool, true, false, cond, nat_eq, List, [], ◌∷◌, length}
use Rattle.std.proofs.Common.{get_or, Option, Some, None, Result, Ok, Err, refl, ap, ◌∙◌, arith}
use Rattle.std.specs.Int.{w8, w32, from_le_bytes, cast_signed}
use Rattle.jos_base.specs.Words.{◌>>=◌}
use Rattle.jos_isa.specs.declared.instruction.Insn.{Insn}
use Rattle.jos_isa.specs.declared.instruction.MemArg.{MemArg}
use Rattle.jos_isa.specs.declared.instruction.Disp.{Disp}
use Rattle.jos_isa.specs.declared.instruction.Disp.TheVariants as disp
use Rattle.jos_isa.specs.declared.opcode_map.Format.{Format}
use Rattle.jos_isa.specs.declared.opcode_map.Format.TheVariants.{Plain, ModRm}
use Rattle.jos_isa.specs.declared.opcode_map.Choice.{Choice}
use Rattle.jos_isa.specs.declared.opcode_map.Immediate.{Immediate}
use Rattle.jos_isa.specs.declared.opcode_map.Immediate.TheVariants.{Nothing, Imm8, SignedImm8, Imm16, Imm32}
use Rattle.jos_isa.specs.declared.opcode_map.OpcodeEntry.{OpcodeEntry}
use Rattle.jos_isa.specs.declared.opcode_map.OpcodeEntry.TheVariants.{Unassigned, Complete, Behind}
use Rattle.jos_isa.specs.declared.behind_opcode.PartFault.{PartFault}
use Rattle.jos_isa.specs.declared.behind_opcode.PartFault.TheVariants as fault
use Rattle.jos_isa.specs.declared.behind_opcode.DispKind.{DispKind}
use Rattle.jos_isa.specs.declared.behind_opcode.DispKind.TheVariants as disp_kind
use Rattle.jos_isa.specs.declared.behind_opcode.Sib.{Sib}
use Rattle.jos_isa.specs.declared.behind_opcode.Chosen.{Chosen}
use Rattle.jos_isa.specs.declared.decoder.Decoded.TheVariants.{Short}
use Rattle.jos_isa.specs.OpcodeMap.{opcode_entry, choice_of}
use Rattle.jos_isa.specs.Spelling.{disp_kind_of, base_of, sib_of}
use Rattle.jos_isa.specs.Decoding.{immediate_at, disp_at, sib_byte_at, sib_at, memory_at, operand_at, modrm_at}
use Rattle.jos_isa.specs.Decoding.{chosen_of, rest_at, insn_in_format, format_in_entry, opcode_at, instruction_at}
use Rattle.jos_isa.specs.Decoding.{decoded, decoded_from}
use Rattle.jos_isa.specs.Lengths.{immediate_size, format_rest, entry_rest, disp_size, memory_rest, choice_rest}
use Rattle.jos_isa.specs.Lengths.{second_rest, least_length, AreShortBelow}
use Rattle.jos_isa.proofs.Readers.{eqb-is}

immediate_short : (immediate : Immediate) (more : List ℕ) → length more < immediate_size immediate → immediate_at immediate more ≡ Err fault.Short
unfolding immediate_at
immediate_short Nothing more h = absurd (omega (arith, h))
immediate_short Imm8 [] h = refl
immediate_short Imm8 (a ∷ more) h = absurd (omega (arith, h))
immediate_short SignedImm8 [] h = refl
immediate_short SignedImm8 (a ∷ more) h = absurd (omega (arith, h))
immediate_short Imm16 [] h = refl
immediate_short Imm16 (a ∷ []) h = refl
immediate_short Imm16 (a ∷ b ∷ more) h = absurd (omega (arith, h))
immediate_short Imm32 [] h = refl
immediate_short Imm32 (a ∷ []) h = refl
immediate_short Imm32 (a ∷ b ∷ []) h = refl
immediate_short Imm32 (a ∷ b ∷ c ∷ []) h = refl
immediate_short Imm32 (a ∷ b ∷ c ∷ d ∷ more) h = absurd (omega (arith, h))

format_short : (format : Format) (more : List ℕ) → length more < format_rest format → insn_in_format format more ≡ Err fault.Short
unfolding insn_in_format modrm_at
format_short (Plain row repeat register immediate) more h = rw (immediate_short immediate more h) refl
format_short (ModRm fields) [] h = refl
format_short (ModRm fields) (a ∷ more) h = absurd (omega (arith, h))

abbrev format_then : Result (Format × List ℕ) PartFault → Result (Insn × List ℕ) PartFault
format_then format = format >>= λ f. insn_in_format f.0 f.1

entry_short : (entry : OpcodeEntry) (more : List ℕ) → length more < entry_rest entry → format_then (format_in_entry entry more) ≡ Err fault.Short
unfolding format_in_entry
entry_short Unassigned more h = absurd (omega (arith, h))
entry_short (Complete format) more h = format_short format more h
entry_short (Behind map) [] h = refl
entry_short (Behind map) (a ∷ more) h = absurd (omega (arith, h))

first_short : (first : ℕ) (more : List ℕ) → length more < entry_rest (opcode_entry first) → decoded (first ∷ more) ≡ Short
unfolding decoded instruction_at opcode_at
first_short first more h = ap (decoded_from (length (first ∷ more))) (entry_short (opcode_entry first) more h)

-- ---- two bytes

together : {A B C : Type 0} (r : Result A PartFault) (f : A → Result B PartFault) (g : B → Result C PartFault) → ((r >>= f) >>= g) ≡ (r >>= λ x. f x >>= g)
together (Ok x) f g = refl
together (Err e) f g = refl

-- what comes next is short with fewer bytes than so many
abbrev Lacks : {A B : Type 0} → ℕ → (A × List ℕ → Result B PartFault) → Type 0
Lacks {A} n next = (x : A) (rest : List ℕ) → length rest < n → next (x, rest) ≡ Err fault.Short

disp_lacks : {B : Type 0} (next : Disp × List ℕ → Result B PartFault) (n : ℕ) → Lacks n next →
    (kind : DispKind) (more : List ℕ) → length more < disp_size kind + n → (disp_at kind more >>= next) ≡ Err fault.Short
unfolding disp_at
disp_lacks next n lacks disp_kind.Nothing more h = lacks disp.Zero more (omega (arith, h))
disp_lacks next n lacks disp_kind.Disp8 [] h = refl
disp_lacks next n lacks disp_kind.Disp8 (a ∷ more) h = lacks (disp.Byte (cast_signed w8 a)) more (omega (arith, h))
disp_lacks next n lacks disp_kind.Disp32 [] h = refl
disp_lacks next n lacks disp_kind.Disp32 (a ∷ []) h = refl
disp_lacks next n lacks disp_kind.Disp32 (a ∷ b ∷ []) h = refl
disp_lacks next n lacks disp_kind.Disp32 (a ∷ b ∷ c ∷ []) h = refl
disp_lacks next n lacks disp_kind.Disp32 (a ∷ b ∷ c ∷ d ∷ more) h = lacks (disp.Word (from_le_bytes w32 (a ∷ b ∷ c ∷ d ∷ []))) more (omega (arith, h))

-- the base 4 has the shortest displacement
shortest : (mode base : ℕ) → disp_size (disp_kind_of mode 4) ≤ disp_size (disp_kind_of mode base)
shortest mode base = go (nat_eq mode 0)
  where
    go : (b : Bool) → disp_size (cond b disp_kind.Nothing (cond (nat_eq mode 1) disp_kind.Disp8 disp_kind.Disp32))
        ≤ disp_size (cond b (cond (nat_eq base 5) disp_kind.Disp32 disp_kind.Nothing) (cond (nat_eq mode 1) disp_kind.Disp8 disp_kind.Disp32))
    go true = omega arith
    go false = omega arith

abbrev arg_read : ℕ → Sib × List ℕ → Result (MemArg × List ℕ) PartFault
arg_read mode sib =
    disp_at (disp_kind_of mode sib.0.base) sib.1 >>= λ away.
    Ok (record { base = base_of mode sib.0.base; index = sib.0.index; scale = sib.0.scale; disp = away.0 }, away.1)

arg_lacks : {B : Type 0} (next : MemArg × List ℕ → Result B PartFault) (n : ℕ) → Lacks n next → (mode : ℕ) (sib : Sib) (more : List ℕ) →
    length more < disp_size (disp_kind_of mode sib.base) + n → (arg_read mode (sib, more) >>= next) ≡ Err fault.Short
arg_lacks next n lacks mode sib more h =
    together (disp_at (disp_kind_of mode sib.base) more) _ next ∙
    disp_lacks (λ away. next (record { base = base_of mode sib.base; index = sib.index; scale = sib.scale; disp = away.0 }, away.1)) n
    (λ x rest less. lacks _ rest less) (disp_kind_of mode sib.base) more h

memory_lacks : {B : Type 0} (next : MemArg × List ℕ → Result B PartFault) (n : ℕ) → Lacks n next → (mode rm : ℕ) (more : List ℕ) →
    length more < memory_rest mode rm + n → (memory_at mode rm more >>= next) ≡ Err fault.Short
unfolding memory_at sib_at sib_byte_at
memory_lacks next n lacks mode rm more h = go (nat_eq rm 4) refl more h
  where
    go : (b : Bool) → nat_eq rm 4 ≡ b → (more : List ℕ) → length more < cond b 1 0 + disp_size (disp_kind_of mode rm) + n →
        ((cond b (sib_byte_at more) (Ok (record { base = rm; index = None; scale = 0 }, more)) >>= arg_read mode) >>= next) ≡ Err fault.Short
    go true e [] h = refl
    go true e (s ∷ more) h =
        let sib : Sib = sib_of (s / 64) (s / 8 % 8) (s % 8) in
        arg_lacks next n lacks mode sib more (omega (arith, shortest mode sib.base, ap (λ (k : ℕ). disp_size (disp_kind_of mode k)) (eqb-is rm 4 e), h))
    go false e more h = arg_lacks next n lacks mode (record { base = rm; index = None; scale = 0 }) more (omega (arith, h))

rest_lacks : (chosen : Chosen) (more : List ℕ) → nat_eq chosen.mode 3 ≡ false →
    length more < memory_rest chosen.mode chosen.rm + immediate_size chosen.choice.immediate → rest_at chosen more ≡ Err fault.Short
unfolding rest_at operand_at
rest_lacks chosen more e h =
    rw e (
    together (memory_at chosen.mode chosen.rm more) _ _ ∙
    memory_lacks _ (immediate_size chosen.choice.immediate)
    (λ x rest less. rw (immediate_short chosen.choice.immediate rest less) refl) chosen.mode chosen.rm more h)

choice_lacks : (choice : Option Choice) (mode rm : ℕ) (more : List ℕ) → nat_eq mode 3 ≡ false → length more < choice_rest choice mode rm →
    (chosen_of choice mode rm more >>= λ c. rest_at c.0 c.1) ≡ Err fault.Short
choice_lacks None mode rm more e h = absurd (omega (arith, h))
choice_lacks (Some choice) mode rm more e h = rest_lacks (record { choice = choice; mode = mode; rm = rm }) more e h

second_lacks : (entry : OpcodeEntry) (second : ℕ) (more : List ℕ) → nat_eq (second / 64) 3 ≡ false → length more < second_rest entry second →
    format_then (format_in_entry entry (second ∷ more)) ≡ Err fault.Short
unfolding format_in_entry insn_in_format modrm_at
second_lacks Unassigned second more e h = absurd (omega (arith, h))
second_lacks (Behind map) second more e h = absurd (omega (arith, h))
second_lacks (Complete (Plain row repeat register immediate)) second more e h = absurd (omega (arith, h))
second_lacks (Complete (ModRm fields)) second more e h =
    rw e (choice_lacks (choice_of fields false (second / 8 % 8)) (second / 64) (second % 8) more e h)

two_short : (first second : ℕ) (more : List ℕ) → nat_eq (second / 64) 3 ≡ false → length more < second_rest (opcode_entry first) second →
    decoded (first ∷ second ∷ more) ≡ Short
unfolding decoded instruction_at opcode_at
two_short first second more e h = ap (decoded_from (length (first ∷ second ∷ more))) (second_lacks (opcode_entry first) second more e h)

pub sure_short : (bytes : List ℕ) → AreShortBelow (least_length bytes) bytes
unfolding least_length
sure_short [] more h = absurd (omega (arith, h))
sure_short (first ∷ []) more h = first_short first more (omega (arith, h))
sure_short (first ∷ second ∷ []) more h = go (nat_eq (second / 64) 3) refl h
  where
    go : (b : Bool) → nat_eq (second / 64) 3 ≡ b → length (first ∷ second ∷ more) < cond b 0 (2 + second_rest (opcode_entry first) second) →
        decoded (first ∷ second ∷ more) ≡ Short
    go true e h = absurd (omega (arith, h))
    go false e h = two_short first second more e (omega (arith, h))
sure_short (first ∷ second ∷ third ∷ bytes) more h = absurd (omega (arith, h))

-- ---- what the code computes

pub one_is : (bytes : List ℕ) → 1 ≤ length bytes → length bytes < 2 → least_length bytes ≡ 1 + entry_rest (opcode_entry (get_or bytes 0 0))
unfolding least_length
one_is [] some few = absurd (omega (arith, some))
one_is (first ∷ []) some few = refl
one_is (first ∷ second ∷ bytes) some few = absurd (omega (arith, few))

pub two_is : (bytes : List ℕ) → 2 ≤ length bytes → length bytes < 3 →
    least_length bytes ≡ cond (nat_eq (get_or bytes 1 0 / 64) 3) 0 (2 + second_rest (opcode_entry (get_or bytes 0 0)) (get_or bytes 1 0))
unfolding least_length
two_is [] some few = absurd (omega (arith, some))
two_is (first ∷ []) some few = absurd (omega (arith, some))
two_is (first ∷ second ∷ []) some few = refl
two_is (first ∷ second ∷ third ∷ bytes) some few = absurd (omega (arith, few))
