-- What is written spells a lawful instruction.
use Rattle.std.proofs.Common.{◌≡◌, ◌≢◌, ℕ, ◌+◌, ◌%◌, ◌^◌, ◌<◌, ◌≤◌, nat_eq, nat_lt, nat_le, Bool, true, false, cond}
use Rattle.std.proofs.Common.{[], ◌∷◌, ◌++◌, Option, Some, None, refl, sym, ap, subst, arith}
use Rattle.std.proofs.Common.{◌⊎◌, inl, inr}
use Rattle.std.specs.Prelude.{◌&&◌, ◌||◌, not, is_some}
use Rattle.std.specs.Int.{w8, w16, w32, to_le_bytes, cast_unsigned}
use Rattle.std.proofs.lemmas.Bool.{ltb-true, ltb-false, and_parts, not-true, or_cases}
use Rattle.std.proofs.lemmas.Bool.Decides.{nat_tests}
use Rattle.std.proofs.lemmas.Int.{to_z-of_z}
use Rattle.std.proofs.lemmas.Nat.{from_le_bytes-to_le_bytes_2, from_le_bytes-to_le_bytes_4}
use Rattle.jos_isa.specs.declared.instruction.MemArg.{MemArg}
use Rattle.jos_isa.specs.declared.instruction.Disp.{Disp}
use Rattle.jos_isa.specs.declared.instruction.Disp.TheVariants as disp
use Rattle.jos_isa.specs.declared.opcode_map.Immediate.{Immediate}
use Rattle.jos_isa.specs.declared.opcode_map.Immediate.TheVariants.{Nothing, Imm8, SignedImm8, Imm16, Imm32}
use Rattle.jos_isa.specs.declared.behind_opcode.Sib.{Sib}
use Rattle.jos_isa.specs.Spelling.{sign_extended_byte, SpellsImmediate, SpellsDisp, disp_kind_of, base_of, sib_of}
use Rattle.jos_isa.specs.Spelling.{SpellsSib, SpellsMemory}
use Rattle.jos_isa.specs.Lawful.{is_immediate, is_base, is_index, is_mem_arg}
use Rattle.jos_isa.specs.ClauseWords.{DispFits}
use Rattle.jos_isa.specs.Encoding.{immediate_bytes, disp_bytes, base_number, index_number, mode_of, has_sib, rm_of}
use Rattle.jos_isa.specs.Encoding.{sib_byte, sib_bytes}
use Rattle.jos_isa.proofs.Booleans.{no_false}
use Rattle.jos_isa.proofs.Readers.{eqb-is, eqb-isnt}

-- ---- lists one behind the other

-- ---- immediates

-- a list of two bytes is its bytes
two_bytes : (n : ℕ) → n < 2 ^ 16 → SpellsImmediate Imm16 n (to_le_bytes w16 n)
two_bytes n small = (_, _, sym (from_le_bytes-to_le_bytes_2 n small), refl)

four_bytes : (n : ℕ) → n < 2 ^ 32 → SpellsImmediate Imm32 n (to_le_bytes w32 n)
four_bytes n small = (_, _, _, _, sym (from_le_bytes-to_le_bytes_4 n small), refl)

extended_again : (n : ℕ) → n < 2 ^ 32 → (nat_lt n 0x80 || nat_le 0xffff_ff80 n) ≡ true → n ≡ sign_extended_byte (n % 0x100)
extended_again n small h = go (nat_lt (n % 0x100) 128) refl (or_cases (nat_lt n 0x80) (nat_le 0xffff_ff80 n) h)
  where
    go : (b : Bool) → nat_lt (n % 0x100) 128 ≡ b → (nat_lt n 0x80 ≡ true) ⊎ (nat_le 0xffff_ff80 n ≡ true) → n ≡ cond b (n % 0x100) (n % 0x100 + 0xffff_ff00)
    go true e (inl t) = let low : n < 0x80 = ltb-true n 0x80 t in omega arith
    go false e (inl t) = let low : n < 0x80 = ltb-true n 0x80 t in let high : 128 ≤ n % 0x100 = ltb-false (n % 0x100) 128 e in omega arith
    go true e (inr t) = let high : 0xffff_ff80 ≤ n = grind (arith, nat_tests) in let low : n % 0x100 < 128 = ltb-true (n % 0x100) 128 e in omega arith
    go false e (inr t) = let high : 0xffff_ff80 ≤ n = grind (arith, nat_tests) in omega arith

pub immediate_spelled : (immediate : Immediate) (value : ℕ) → value < 2 ^ 32 → is_immediate immediate value ≡ true → SpellsImmediate immediate value (immediate_bytes immediate value)
unfolding is_immediate immediate_bytes
immediate_spelled Nothing value fits h = (eqb-is value 0 h, refl)
immediate_spelled Imm8 value fits h =
    let small : value < 0x100 = ltb-true value 0x100 h in
    let same : value % 0x100 ≡ value = omega arith in
    ap (λ (n : ℕ). n ∷ []) same
immediate_spelled SignedImm8 value fits h = (value % 0x100, extended_again value fits h, refl)
immediate_spelled Imm16 value fits h =
    let small : value < 0x1_0000 = ltb-true value 0x1_0000 h in
    let same : value % 0x1_0000 ≡ value = omega arith in
    let fits16 : value < 2 ^ 16 = omega arith in
    subst (λ (n : ℕ). SpellsImmediate Imm16 value (to_le_bytes w16 n)) (sym same) (two_bytes value fits16)
immediate_spelled Imm32 value fits h = four_bytes value fits

-- ---- operands

displacement_spelled : (base : Option ℕ) (d : Disp) → is_base base d ≡ true → DispFits d → SpellsDisp (disp_kind_of (mode_of base d) (base_number base)) d (disp_bytes d)
unfolding is_base disp_bytes
displacement_spelled None disp.Zero h fits = no_false h
displacement_spelled None (disp.Byte z) h fits = no_false h
displacement_spelled None (disp.Word n) h fits = let w = four_bytes n fits in (w.0, w.1, w.2, w.3, ap (λ (k : ℕ). disp.Word k) w.4, w.5)
displacement_spelled (Some base) disp.Zero h fits =
    let other : nat_eq base 5 ≡ false = not-true (nat_eq base 5) (and_parts (nat_lt base 8) (not (nat_eq base 5)) h).1 in
    rw other (refl, refl)
displacement_spelled (Some base) (disp.Byte z) h fits = (cast_unsigned w8 z, ap (λ k. disp.Byte k) (sym (to_z-of_z w8 z fits)), refl)
displacement_spelled (Some base) (disp.Word n) h fits = let w = four_bytes n fits in (w.0, w.1, w.2, w.3, ap (λ (k : ℕ). disp.Word k) w.4, w.5)

base_again : (base : Option ℕ) (d : Disp) → is_base base d ≡ true → base ≡ base_of (mode_of base d) (base_number base)
unfolding is_base
base_again None d h = refl
base_again (Some base) disp.Zero h =
    let other : nat_eq base 5 ≡ false = not-true (nat_eq base 5) (and_parts (nat_lt base 8) (not (nat_eq base 5)) h).1 in
    rw other refl
base_again (Some base) (disp.Byte z) h = refl
base_again (Some base) (disp.Word n) h = refl

pub base_small : (base : Option ℕ) (d : Disp) → is_base base d ≡ true → base_number base < 8
unfolding is_base
base_small None d h = omega arith
base_small (Some base) disp.Zero h = ltb-true base 8 (and_parts (nat_lt base 8) (not (nat_eq base 5)) h).0
base_small (Some base) (disp.Byte z) h = ltb-true base 8 h
base_small (Some base) (disp.Word n) h = ltb-true base 8 h

index_parts : (index scale : ℕ) → is_index (Some index) scale ≡ true → (nat_lt index 8 ≡ true) × (nat_eq index 4 ≡ false) × (nat_lt scale 4 ≡ true)
unfolding is_index
index_parts index scale h =
    let outer = and_parts (nat_lt index 8 && not (nat_eq index 4)) (nat_lt scale 4) h in
    let inner = and_parts (nat_lt index 8) (not (nat_eq index 4)) outer.0 in
    (inner.0, not-true (nat_eq index 4) inner.1, outer.1)

pub index_small : (index : Option ℕ) (scale : ℕ) → is_index index scale ≡ true → index_number index < 8
unfolding is_index
index_small None scale h = omega arith
index_small (Some index) scale h = ltb-true index 8 (index_parts index scale h).0

pub scale_small : (index : Option ℕ) (scale : ℕ) → is_index index scale ≡ true → scale < 4
unfolding is_index
scale_small None scale h = let none : scale ≡ 0 = eqb-is scale 0 h in omega arith
scale_small (Some index) scale h = ltb-true scale 4 (index_parts index scale h).2

sib_again : (base : ℕ) (index : Option ℕ) (scale : ℕ) → is_index index scale ≡ true → ◌≡◌ {A = Sib} (record { base = base; index = index; scale = scale }) (sib_of scale (index_number index) base)
unfolding is_index
sib_again base None scale h = let none : scale ≡ 0 = eqb-is scale 0 h in rw none refl
sib_again base (Some index) scale h = rw (index_parts index scale h).1 refl

rm_of_small : (b : Bool) (number : ℕ) → number < 8 → cond b 4 number < 8
rm_of_small true number small = omega arith
rm_of_small false number small = small

pub rm_small : (arg : MemArg) → is_mem_arg arg ≡ true → rm_of arg < 8
rm_small arg h = rm_of_small (has_sib arg) (base_number arg.base) (base_small arg.base arg.disp (and_parts (is_base arg.base arg.disp) (is_index arg.index arg.scale) h).0)

-- where no SIB byte is needed
no_index : (index : Option ℕ) (scale number : ℕ) → (is_some index || nat_eq number 4) ≡ false → is_index index scale ≡ true → (number ≢ 4) × (◌≡◌ {A = Sib} (record { base = number; index = index; scale = scale }) (record { base = number; index = None; scale = 0 }))
unfolding is_index
no_index None scale number e h = let none : scale ≡ 0 = eqb-is scale 0 h in (eqb-isnt number 4 e, rw none refl)
no_index (Some index) scale number e h = absurd cc

abbrev sib_of_arg : MemArg → Sib
sib_of_arg arg = record { base = base_number arg.base; index = arg.index; scale = arg.scale }

sib_spelled : (arg : MemArg) → is_mem_arg arg ≡ true → SpellsSib (rm_of arg) (sib_of_arg arg) (sib_bytes arg)
sib_spelled arg h = go (has_sib arg) refl
  where
    go : (b : Bool) → has_sib arg ≡ b → SpellsSib (cond b 4 (base_number arg.base)) (sib_of_arg arg) (cond b (sib_byte arg ∷ []) [])
    go true e =
        let parts = and_parts (is_base arg.base arg.disp) (is_index arg.index arg.scale) h in
        inr (arg.scale, index_number arg.index, base_number arg.base, refl, index_small arg.index arg.scale parts.1, base_small arg.base arg.disp parts.0, sib_again (base_number arg.base) arg.index arg.scale parts.1, refl)
    go false e =
        let parts = and_parts (is_base arg.base arg.disp) (is_index arg.index arg.scale) h in
        let alone = no_index arg.index arg.scale (base_number arg.base) e parts.1 in
        inl (alone.0, alone.1, refl)

-- mod of a memory operand is not 3
pub mode_small : (base : Option ℕ) (d : Disp) → mode_of base d < 3
mode_small None d = omega arith
mode_small (Some base) disp.Zero = omega arith
mode_small (Some base) (disp.Byte z) = omega arith
mode_small (Some base) (disp.Word n) = omega arith

pub memory_spelled : (arg : MemArg) → is_mem_arg arg ≡ true → DispFits arg.disp → SpellsMemory (mode_of arg.base arg.disp) (rm_of arg) arg (sib_bytes arg ++ disp_bytes arg.disp)
memory_spelled arg h fits =
    let parts = and_parts (is_base arg.base arg.disp) (is_index arg.index arg.scale) h in (
      sib_of_arg arg,
      sib_bytes arg,
      disp_bytes arg.disp,
      refl,
      sib_spelled arg h,
      displacement_spelled arg.base arg.disp parts.0 fits,
      ap (λ (b : Option ℕ). record { base = b; index = arg.index; scale = arg.scale; disp = arg.disp }) (base_again arg.base arg.disp parts.0),
    )
