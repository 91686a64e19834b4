-- The readers of immediates and of displacements.
use Rattle.std.proofs.Common.{◌≡◌, ℕ, List, [], ◌∷◌, ◌++◌, Ok, Err, refl, ap, arith}
use Rattle.std.specs.Int.{w8, w16, w32, from_le_bytes, cast_signed}
use Rattle.jos_isa.specs.declared.instruction.Disp.{Disp}
use Rattle.jos_isa.specs.declared.instruction.Disp.TheVariants as disp
use Rattle.jos_isa.specs.declared.opcode_map.Immediate.{Immediate}
use Rattle.jos_isa.specs.declared.opcode_map.Immediate.TheVariants.{Nothing, Imm8, SignedImm8, Imm16, Imm32}
use Rattle.jos_isa.specs.declared.behind_opcode.PartFault.TheVariants.{Short}
use Rattle.jos_isa.specs.declared.behind_opcode.DispKind.{DispKind}
use Rattle.jos_isa.specs.declared.behind_opcode.DispKind.TheVariants as disp_kind
use Rattle.jos_isa.specs.Spelling.{sign_extended_byte, SpellsImmediate, SpellsDisp}
use Rattle.jos_isa.specs.ClauseWords.{AreBytes}
use Rattle.jos_isa.specs.Decoding.{next_byte, u16_at, u32_at, immediate_at, disp_at}
use Rattle.jos_isa.proofs.Readers.{one_zero, two_zeros, three_zeros, four_zeros, Reads, always, mapped, widened, byte}
use Rattle.jos_isa.proofs.Readers.{IsByte, taken_as, not_empty}

u16-takes : (bytes : List ℕ) (x : ℕ) (rest : List ℕ) → u16_at bytes ≡ Ok (x, rest) → (front : List ℕ) × (bytes ≡ front ++ rest) × SpellsImmediate Imm16 x front
u16-takes [] x rest e = absurd cc
u16-takes (a ∷ []) x rest e = absurd cc
u16-takes (a ∷ b ∷ bytes) x rest e =
    taken_as (SpellsImmediate Imm16) (a ∷ b ∷ bytes) (a ∷ b ∷ []) (from_le_bytes w16 (a ∷ b ∷ []), bytes) (x, rest) e refl (a, b, refl, refl)

u16-begins : (bytes : List ℕ) → u16_at bytes ≡ Err Short → (x : ℕ) × (next : ℕ) × (more : List ℕ) × AreBytes (next ∷ more) × SpellsImmediate Imm16 x (bytes ++ next ∷ more)
u16-begins [] e = (_, 0, 0 ∷ [], two_zeros, (0, 0, refl, refl))
u16-begins (a ∷ []) e = (_, 0, [], one_zero, (a, 0, refl, refl))
u16-begins (a ∷ b ∷ bytes) e = absurd cc

u16-stops : (x : ℕ) (bytes : List ℕ) (next : ℕ) (more : List ℕ) → SpellsImmediate Imm16 x (bytes ++ next ∷ more) → u16_at bytes ≡ Err Short
u16-stops x [] next more h = refl
u16-stops x (a ∷ []) next more h = refl
u16-stops x (a ∷ b ∷ bytes) next more h =
    let whole = h.3 in
    let tails : bytes ++ next ∷ more ≡ [] = cc in
    absurd (not_empty bytes next more tails)

u16 : Reads u16_at (SpellsImmediate Imm16) 2
u16 = record {
  takes = u16-takes;
  again = λ x front rest h. rw (h.3, h.2) refl;
  begins = u16-begins;
  stops = u16-stops;
  within = λ x front h. rw h.3 (omega arith);
}

u32-takes : (bytes : List ℕ) (x : ℕ) (rest : List ℕ) → u32_at bytes ≡ Ok (x, rest) → (front : List ℕ) × (bytes ≡ front ++ rest) × SpellsImmediate Imm32 x front
u32-takes [] x rest e = absurd cc
u32-takes (a ∷ []) x rest e = absurd cc
u32-takes (a ∷ b ∷ []) x rest e = absurd cc
u32-takes (a ∷ b ∷ c ∷ []) x rest e = absurd cc
u32-takes (a ∷ b ∷ c ∷ d ∷ bytes) x rest e =
    taken_as (SpellsImmediate Imm32) (a ∷ b ∷ c ∷ d ∷ bytes) (a ∷ b ∷ c ∷ d ∷ []) (from_le_bytes w32 (a ∷ b ∷ c ∷ d ∷ []), bytes) (x, rest) e refl (a, b, c, d, refl, refl)

u32-begins : (bytes : List ℕ) → u32_at bytes ≡ Err Short → (x : ℕ) × (next : ℕ) × (more : List ℕ) × AreBytes (next ∷ more) × SpellsImmediate Imm32 x (bytes ++ next ∷ more)
u32-begins [] e = (_, 0, 0 ∷ 0 ∷ 0 ∷ [], four_zeros, (0, 0, 0, 0, refl, refl))
u32-begins (a ∷ []) e = (_, 0, 0 ∷ 0 ∷ [], three_zeros, (a, 0, 0, 0, refl, refl))
u32-begins (a ∷ b ∷ []) e = (_, 0, 0 ∷ [], two_zeros, (a, b, 0, 0, refl, refl))
u32-begins (a ∷ b ∷ c ∷ []) e = (_, 0, [], one_zero, (a, b, c, 0, refl, refl))
u32-begins (a ∷ b ∷ c ∷ d ∷ bytes) e = absurd cc

u32-stops : (x : ℕ) (bytes : List ℕ) (next : ℕ) (more : List ℕ) → SpellsImmediate Imm32 x (bytes ++ next ∷ more) → u32_at bytes ≡ Err Short
u32-stops x [] next more h = refl
u32-stops x (a ∷ []) next more h = refl
u32-stops x (a ∷ b ∷ []) next more h = refl
u32-stops x (a ∷ b ∷ c ∷ []) next more h = refl
u32-stops x (a ∷ b ∷ c ∷ d ∷ bytes) next more h =
    let whole = h.5 in
    let tails : bytes ++ next ∷ more ≡ [] = cc in
    absurd (not_empty bytes next more tails)

u32 : Reads u32_at (SpellsImmediate Imm32) 4
u32 = record {
  takes = u32-takes;
  again = λ x front rest h. rw (h.5, h.4) refl;
  begins = u32-begins;
  stops = u32-stops;
  within = λ x front h. rw h.5 (omega arith);
}

pub immediates : (immediate : Immediate) → Reads (immediate_at immediate) (SpellsImmediate immediate) 4
unfolding immediate_at
immediates Nothing = widened _ _ 0 4 (omega arith) (always 0 (SpellsImmediate Nothing) (refl, refl) (λ y bytes h. h))
immediates Imm8 = widened _ _ 1 4 (omega arith) byte
immediates SignedImm8 =
    widened _ _ 1 4 (omega arith)
    (mapped next_byte sign_extended_byte IsByte (SpellsImmediate SignedImm8) 1 (λ a bytes h. (a, refl, h)) (λ x bytes h. h) byte)
immediates Imm16 = widened _ _ 2 4 (omega arith) u16
immediates Imm32 = u32

-- an immediate of each kind has a spelling
pub any_immediate : (immediate : Immediate) → (x : ℕ) × (bytes : List ℕ) × AreBytes bytes × SpellsImmediate immediate x bytes
any_immediate Nothing = (0, [], tt, (refl, refl))
any_immediate Imm8 = (0, 0 ∷ [], one_zero, refl)
any_immediate SignedImm8 = (sign_extended_byte 0, 0 ∷ [], one_zero, (0, refl, refl))
any_immediate Imm16 = (_, 0 ∷ 0 ∷ [], two_zeros, (0, 0, refl, refl))
any_immediate Imm32 = (_, 0 ∷ 0 ∷ 0 ∷ 0 ∷ [], four_zeros, (0, 0, 0, 0, refl, refl))

-- ---- displacements

abbrev signed_byte : ℕ → Disp
signed_byte byte = disp.Byte (cast_signed w8 byte)

abbrev whole_word : ℕ → Disp
whole_word word = disp.Word word

pub displacements : (kind : DispKind) → Reads (disp_at kind) (SpellsDisp kind) 4
unfolding disp_at
displacements disp_kind.Nothing = widened _ _ 0 4 (omega arith) (always disp.Zero (SpellsDisp disp_kind.Nothing) (refl, refl) (λ y bytes h. h))
displacements disp_kind.Disp8 =
    widened _ _ 1 4 (omega arith)
    (mapped next_byte signed_byte IsByte (SpellsDisp disp_kind.Disp8) 1 (λ a bytes h. (a, refl, h)) (λ x bytes h. h) byte)
displacements disp_kind.Disp32 =
    mapped u32_at whole_word (SpellsImmediate Imm32) (SpellsDisp disp_kind.Disp32) 4
    (λ a bytes h. (h.0, h.1, h.2, h.3, ap whole_word h.4, h.5)) (λ x bytes h. (_, h.4, (h.0, h.1, h.2, h.3, refl, h.5))) u32

pub any_displacement : (kind : DispKind) → (x : Disp) × (bytes : List ℕ) × AreBytes bytes × SpellsDisp kind x bytes
any_displacement disp_kind.Nothing = (disp.Zero, [], tt, (refl, refl))
any_displacement disp_kind.Disp8 = (signed_byte 0, 0 ∷ [], one_zero, (0, refl, refl))
any_displacement disp_kind.Disp32 = (_, 0 ∷ 0 ∷ 0 ∷ 0 ∷ [], four_zeros, (0, 0, 0, 0, refl, refl))
