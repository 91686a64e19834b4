-- The reader of an operand behind its ModRM byte.
use Rattle.std.proofs.Common.{◌≡◌, ◌≢◌, ℕ, ◌+◌, ◌*◌, ◌/◌, ◌%◌, ◌<◌, Bool, true, false, cond, nat_eq, List, [], ◌∷◌}
use Rattle.std.proofs.Common.{◌++◌, None, Ok, refl, ap, ◌∙◌, arith, inl, inr}
use Rattle.jos_isa.specs.declared.instruction.Operand.{Operand}
use Rattle.jos_isa.specs.declared.instruction.Operand.TheVariants.{Absent, Reg, Mem}
use Rattle.jos_isa.specs.declared.instruction.MemArg.{MemArg}
use Rattle.jos_isa.specs.declared.instruction.Disp.{Disp}
use Rattle.jos_isa.specs.declared.behind_opcode.Sib.{Sib}
use Rattle.jos_isa.specs.Spelling.{disp_kind_of, base_of, sib_of, SpellsDisp, SpellsSib, SpellsMemory, SpellsOperand}
use Rattle.jos_isa.specs.ClauseWords.{AreBytes}
use Rattle.jos_isa.specs.Decoding.{next_byte, disp_at, sib_byte_at, sib_at, memory_at, in_memory, operand_at}
use Rattle.jos_isa.proofs.Readers.{are_append, one_zero, Reads, Joins, both, always, respelled, mapped, widened, byte}
use Rattle.jos_isa.proofs.Readers.{IsByte, eqb-is, eqb-isnt, fields_of, ThreeFields, three_fields}
use Rattle.jos_isa.proofs.Immediates.{displacements, any_displacement}

-- ---- base, index and scale

abbrev SpellsSibByte : Sib → List ℕ → Type 0
SpellsSibByte sib bytes =
    (scale index base : ℕ) × (index < 8) × (base < 8) × (sib ≡ sib_of scale index base) × (bytes ≡ (64 * scale + 8 * index + base) ∷ [])

abbrev sib_in : ℕ → Sib
sib_in byte = sib_of (byte / 64) (byte / 8 % 8) (byte % 8)

spelled_sib : (m : ℕ) (bytes : List ℕ) → bytes ≡ m ∷ [] → SpellsSibByte (sib_in m) bytes
spelled_sib m bytes e = (m / 64, m / 8 % 8, m % 8, omega arith, omega arith, refl, e ∙ ap (λ (k : ℕ). k ∷ []) (fields_of m))

read_sib : (sib : Sib) (bytes : List ℕ) → SpellsSibByte sib bytes → (m : ℕ) × (sib ≡ sib_in m) × (bytes ≡ m ∷ [])
read_sib sib bytes h =
    let f : ThreeFields (64 * h.0 + 8 * h.1 + h.2) h.0 h.1 h.2 = three_fields h.0 h.1 h.2 h.3 h.4 in
    (64 * h.0 + 8 * h.1 + h.2, rw (f.high_is, f.middle_is, f.low_is) h.5, h.6)

sib_byte : Reads sib_byte_at SpellsSibByte 1
unfolding sib_byte_at
sib_byte = mapped next_byte sib_in IsByte SpellsSibByte 1 spelled_sib read_sib byte

abbrev no_sib : ℕ → Sib
no_sib rm = record { base = rm; index = None; scale = 0 }

sib_at_4 : (rm : ℕ) → rm ≡ 4 → Reads sib_byte_at (SpellsSib rm) 1
sib_at_4 rm e =
    respelled sib_byte_at SpellsSibByte (SpellsSib rm) 1
    (λ x bytes h. inr (h.0, h.1, h.2, e, h.3, h.4, h.5, h.6))
    (λ x bytes h. elim h [ inl t ↦ absurd (t.0 e) | inr t ↦ (t.0, t.1, t.2, t.4, t.5, t.6, t.7) ])
    sib_byte

sib_else : (rm : ℕ) → rm ≢ 4 → Reads (λ bytes. Ok (no_sib rm, bytes)) (SpellsSib rm) 1
sib_else rm ne =
    widened _ _ 0 1 (omega arith)
    (always (no_sib rm) (SpellsSib rm) (inl (ne, refl, refl)) (λ x bytes h. elim h [ inl t ↦ (t.1, t.2) | inr t ↦ absurd (ne t.3) ]))

sibs : (rm : ℕ) → Reads (sib_at rm) (SpellsSib rm) 1
unfolding sib_at
sibs rm = go (nat_eq rm 4) refl
  where
    go : (b : Bool) → nat_eq rm 4 ≡ b → Reads (λ bytes. cond b (sib_byte_at bytes) (Ok (no_sib rm, bytes))) (SpellsSib rm) 1
    go true e = sib_at_4 rm (eqb-is rm 4 e)
    go false e = sib_else rm (eqb-isnt rm 4 e)

any_sib : (rm : ℕ) → (x : Sib) × (bytes : List ℕ) × AreBytes bytes × SpellsSib rm x bytes
any_sib rm = go (nat_eq rm 4) refl
  where
    go : (b : Bool) → nat_eq rm 4 ≡ b → (x : Sib) × (bytes : List ℕ) × AreBytes bytes × SpellsSib rm x bytes
    go true e = (sib_of 0 0 0, 0 ∷ [], one_zero, inr (0, 0, 0, eqb-is rm 4 e, omega arith, omega arith, refl, refl))
    go false e = (no_sib rm, [], tt, inl (eqb-isnt rm 4 e, refl, refl))

-- ---- memory

abbrev arg_of : ℕ → Sib → Disp → MemArg
arg_of mode sib away = record { base = base_of mode sib.base; index = sib.index; scale = sib.scale; disp = away }

memory_joins : (mode rm : ℕ) → Joins (SpellsSib rm) (λ s. SpellsDisp (disp_kind_of mode s.base)) (arg_of mode) (SpellsMemory mode rm)
memory_joins mode rm = record {
  joined = λ s d front back p q. (s, front, back, refl, p, q, refl);
  parted = λ c bytes h. record { a = h.0; b = c.disp; front = h.1; back = h.2; is = h.6; bytes_are = h.3; front_spells = h.4; back_spells = h.5 };
  follows = λ s. any_displacement (disp_kind_of mode s.base);
}

memories : (mode rm : ℕ) → Reads (memory_at mode rm) (SpellsMemory mode rm) 5
unfolding memory_at
memories mode rm =
    both (sib_at rm) (λ s. disp_at (disp_kind_of mode s.base)) (arg_of mode) (SpellsSib rm) (λ s. SpellsDisp (disp_kind_of mode s.base)) (SpellsMemory mode rm) 1 4
    (sibs rm) (λ s. displacements (disp_kind_of mode s.base)) (memory_joins mode rm)

any_memory : (mode rm : ℕ) → (x : MemArg) × (bytes : List ℕ) × AreBytes bytes × SpellsMemory mode rm x bytes
any_memory mode rm =
    let s = any_sib rm in
    let d = any_displacement (disp_kind_of mode s.0.base) in
    (arg_of mode s.0 d.0, s.1 ++ d.1, are_append s.1 d.1 s.2 d.2, (s.0, s.1, d.1, refl, s.3, d.3, refl))

-- ---- a register or memory

abbrev in_mem : MemArg → Operand
in_mem arg = Mem arg

register_only : (mode rm : ℕ) → mode ≡ 3 → (x : Operand) (bytes : List ℕ) → SpellsOperand mode rm x bytes → (x ≡ Reg rm) × (bytes ≡ [])
register_only mode rm e (Reg r) bytes h = (ap (λ (k : ℕ). Reg k) h.1, h.2)
register_only mode rm e (Mem arg) bytes h = absurd (h.0 e)
register_only mode rm e Absent bytes h = absurd h

register_operand : (mode rm : ℕ) → mode ≡ 3 → Reads (λ bytes. Ok (Reg rm, bytes)) (SpellsOperand mode rm) 5
register_operand mode rm e = widened _ _ 0 5 (omega arith) (always (Reg rm) (SpellsOperand mode rm) (e, refl, refl) (register_only mode rm e))

memory_only : (mode rm : ℕ) → mode ≢ 3 → (x : Operand) (bytes : List ℕ) → SpellsOperand mode rm x bytes → (a : MemArg) × (x ≡ in_mem a) × SpellsMemory mode rm a bytes
memory_only mode rm ne (Reg r) bytes h = absurd (ne h.0)
memory_only mode rm ne (Mem arg) bytes h = (arg, refl, h.1)
memory_only mode rm ne Absent bytes h = absurd h

memory_operand : (mode rm : ℕ) → mode ≢ 3 → Reads (λ bytes. in_memory (memory_at mode rm bytes)) (SpellsOperand mode rm) 5
memory_operand mode rm ne =
    mapped (memory_at mode rm) in_mem (SpellsMemory mode rm) (SpellsOperand mode rm) 5 (λ a bytes h. (ne, h)) (memory_only mode rm ne) (memories mode rm)

pub operands : (mode rm : ℕ) → Reads (operand_at mode rm) (SpellsOperand mode rm) 5
unfolding operand_at
operands mode rm = go (nat_eq mode 3) refl
  where
    go : (b : Bool) → nat_eq mode 3 ≡ b → Reads (λ bytes. cond b (Ok (Reg rm, bytes)) (in_memory (memory_at mode rm bytes))) (SpellsOperand mode rm) 5
    go true e = register_operand mode rm (eqb-is mode 3 e)
    go false e = memory_operand mode rm (eqb-isnt mode 3 e)

pub any_operand : (mode rm : ℕ) → (x : Operand) × (bytes : List ℕ) × AreBytes bytes × SpellsOperand mode rm x bytes
any_operand mode rm = go (nat_eq mode 3) refl
  where
    go : (b : Bool) → nat_eq mode 3 ≡ b → (x : Operand) × (bytes : List ℕ) × AreBytes bytes × SpellsOperand mode rm x bytes
    go true e = (Reg rm, [], tt, (eqb-is mode 3 e, refl, refl))
    go false e = let m = any_memory mode rm in (Mem m.0, m.1, m.2, (eqb-isnt mode 3 e, m.3))
