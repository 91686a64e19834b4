-- Jumps have spellings, and their distance does not change how long they are; nor does its address a move.
use Rattle.std.proofs.Common.{◌≡◌, ℕ, zero, suc, ◌<◌, Bool, true, false, refl, sym, subst, arith, inl, inr, length}
use Rattle.std.proofs.Common.{◌∙◌, ◌+◌, ◌*◌, ◌-◌, ◌^◌, ◌≤◌, cond}
use Rattle.std.specs.Prelude.{◌||◌, not, nat_lt, nat_le, IsTrue}
use Rattle.std.proofs.lemmas.Bool.{ltb-true, lt-ltb, leb-true, le-leb, and_parts, or_left, or_right}
use Rattle.jos_isa.specs.declared.instruction.Row.{Row}
use Rattle.jos_isa.specs.declared.instruction.Row.TheVariants as row
use Rattle.jos_isa.specs.OpcodeMap.{format_at, opcode_entry, from_70, from_b0, from_d0, format_behind, two_byte_at}
use Rattle.jos_isa.specs.RowOpcodes.{opcode_of, format_in}
use Rattle.jos_isa.specs.Lawful.{is_numbered, is_named, is_immediate, fits_format, format_for, is_lawful}
use Rattle.jos_isa.specs.Encoding.{encoded, immediate_bytes, opcode_bytes, format_bytes}
use Rattle.jos_isa.specs.Moves.{mov}
use Rattle.jos_isa.proofs.Booleans.{no_false}
use Rattle.jos_asm.specs.declared.limits.TheConstants.{CODE_MAX, NEAR_BACK, NEAR_AHEAD}
use Rattle.jos_asm.specs.Items.{is_relative, is_byte_jump, relative_length, relative}
use Rattle.jos_asm.specs.Program.{distance, is_near, reaches}
use Rattle.jos_base.proofs.Bounds.{below_or_last}

-- P of each number below a bound
abbrev AllBelow : (ℕ → Type 0) → ℕ → Type 0
AllBelow P zero = Unit {0}
AllBelow P (suc n) = P n × AllBelow P n

each_below : (P : ℕ → Type 0) (n : ℕ) → AllBelow P n → (i : ℕ) → i < n → P i
each_below P zero h i small = absurd (omega arith)
each_below P (suc n) h i small = elim (below_or_last i n small) [
  | inr e ↦ subst P (sym e) h.0
  | inl less ↦ each_below P n h.1 i less
]

-- a word that a signed byte stands for
abbrev pub is_signed_byte : ℕ → Bool
is_signed_byte word = nat_lt word 0x80 || nat_le 0xffff_ff80 word

-- ---- lawful

jcc8 : (d c : ℕ) → c < 16 → is_lawful (relative (row.JccRel8 c) d) ≡ is_signed_byte d
unfolding is_lawful is_numbered is_named fits_format format_for format_in opcode_of opcode_entry format_at from_70 is_immediate
jcc8 d = each_below (λ c. is_lawful (relative (row.JccRel8 c) d) ≡ is_signed_byte d) 16
    (refl, (refl, (refl, (refl, (refl, (refl, (refl, (refl, (refl, (refl, (refl, (refl, (refl, (refl, (refl, (refl, tt))))))))))))))))

jcc32 : (d c : ℕ) → c < 16 → is_lawful (relative (row.JccRel32 c) d) ≡ true
unfolding is_lawful is_numbered is_named fits_format format_for format_in opcode_of format_behind two_byte_at is_immediate
jcc32 d = each_below (λ c. is_lawful (relative (row.JccRel32 c) d) ≡ true) 16
    (refl, (refl, (refl, (refl, (refl, (refl, (refl, (refl, (refl, (refl, (refl, (refl, (refl, (refl, (refl, (refl, tt))))))))))))))))

jmp8 : (d : ℕ) → is_lawful (relative row.JmpRel8 d) ≡ is_signed_byte d
unfolding is_lawful is_numbered is_named fits_format format_for format_in opcode_of opcode_entry format_at from_d0 is_immediate
jmp8 d = refl

jmp32 : (d : ℕ) → is_lawful (relative row.JmpRel32 d) ≡ true
unfolding is_lawful is_numbered is_named fits_format format_for format_in opcode_of opcode_entry format_at from_d0 is_immediate
jmp32 d = refl

call32 : (d : ℕ) → is_lawful (relative row.CallRel32 d) ≡ true
unfolding is_lawful is_numbered is_named fits_format format_for format_in opcode_of opcode_entry format_at from_d0 is_immediate
call32 d = refl

below : (n k : ℕ) → IsTrue (nat_lt n k) → n < k
below n k h = ltb-true n k h

pub lawful_relative : (r : Row) (d : ℕ) → IsTrue (is_relative r) → (is_byte_jump r ≡ true → is_signed_byte d ≡ true) → IsTrue (is_lawful (relative r d))
lawful_relative (row.JccRel8 c) d h near = jcc8 d c (below c 16 h) ∙ near refl
lawful_relative (row.JccRel32 c) d h near = jcc32 d c (below c 16 h)
lawful_relative row.JmpRel8 d h near = jmp8 d ∙ near refl
lawful_relative row.JmpRel32 d h near = jmp32 d
lawful_relative row.CallRel32 d h near = call32 d
lawful_relative _ d h near = no_false h

-- ---- lengths

jcc8_len : (d c : ℕ) → c < 16 → length (encoded (relative (row.JccRel8 c) d)) ≡ 2
unfolding encoded opcode_bytes format_bytes immediate_bytes format_for format_in opcode_of opcode_entry format_at from_70
jcc8_len d = each_below (λ c. length (encoded (relative (row.JccRel8 c) d)) ≡ 2) 16
    (refl, (refl, (refl, (refl, (refl, (refl, (refl, (refl, (refl, (refl, (refl, (refl, (refl, (refl, (refl, (refl, tt))))))))))))))))

jcc32_len : (d c : ℕ) → c < 16 → length (encoded (relative (row.JccRel32 c) d)) ≡ 6
unfolding encoded opcode_bytes format_bytes immediate_bytes format_for format_in opcode_of format_behind two_byte_at
jcc32_len d = each_below (λ c. length (encoded (relative (row.JccRel32 c) d)) ≡ 6) 16
    (refl, (refl, (refl, (refl, (refl, (refl, (refl, (refl, (refl, (refl, (refl, (refl, (refl, (refl, (refl, (refl, tt))))))))))))))))

jmp8_len : (d : ℕ) → length (encoded (relative row.JmpRel8 d)) ≡ 2
unfolding encoded opcode_bytes format_bytes immediate_bytes format_for format_in opcode_of opcode_entry format_at from_d0
jmp8_len d = refl

jmp32_len : (d : ℕ) → length (encoded (relative row.JmpRel32 d)) ≡ 5
unfolding encoded opcode_bytes format_bytes immediate_bytes format_for format_in opcode_of opcode_entry format_at from_d0
jmp32_len d = refl

call32_len : (d : ℕ) → length (encoded (relative row.CallRel32 d)) ≡ 5
unfolding encoded opcode_bytes format_bytes immediate_bytes format_for format_in opcode_of opcode_entry format_at from_d0
call32_len d = refl

mov32_len : (address reg : ℕ) → reg < 8 → length (encoded (mov reg address)) ≡ 5
unfolding encoded opcode_bytes format_bytes immediate_bytes format_for format_in opcode_of opcode_entry format_at from_b0
mov32_len address = each_below (λ reg. length (encoded (mov reg address)) ≡ 5) 8 (refl, (refl, (refl, (refl, (refl, (refl, (refl, (refl, tt))))))))

pub length-relative : (r : Row) (d : ℕ) → IsTrue (is_relative r) → length (encoded (relative r d)) ≡ relative_length r
length-relative (row.JccRel8 c) d h = jcc8_len d c (below c 16 h)
length-relative (row.JccRel32 c) d h = jcc32_len d c (below c 16 h)
length-relative row.JmpRel8 d h = jmp8_len d
length-relative row.JmpRel32 d h = jmp32_len d
length-relative row.CallRel32 d h = call32_len d
length-relative _ d h = no_false h

pub length-mov : (reg address : ℕ) → IsTrue (nat_lt reg 8) → length (encoded (mov reg address)) ≡ 5
length-mov reg address h = mov32_len address reg (below reg 8 h)

-- ---- distances

signed_byte : (behind place : ℕ) → is_near behind place ≡ true → behind ≤ 2 * CODE_MAX → is_signed_byte (distance behind place) ≡ true
signed_byte behind place near small = go (nat_le behind place) refl
  where
    back : behind ≤ place + NEAR_BACK
    back = leb-true behind (place + NEAR_BACK) (and_parts (nat_le behind (place + NEAR_BACK)) (nat_le place (behind + NEAR_AHEAD)) near).0

    ahead : place ≤ behind + NEAR_AHEAD
    ahead = leb-true place (behind + NEAR_AHEAD) (and_parts (nat_le behind (place + NEAR_BACK)) (nat_le place (behind + NEAR_AHEAD)) near).1

    go : (b : Bool) → nat_le behind place ≡ b → is_signed_byte (cond b (place - behind) (2 ^ 32 - (behind - place))) ≡ true
    go true e = let d = place - behind in or_left (nat_lt d 0x80) (nat_le 0xffff_ff80 d) (lt-ltb d 0x80 (omega (arith, ahead)))
    go false e = let d = 2 ^ 32 - (behind - place) in or_right (nat_lt d 0x80) (nat_le 0xffff_ff80 d) (le-leb 0xffff_ff80 d (omega (arith, back)))

reaching : (r : Row) (behind place : ℕ) → reaches r behind place ≡ true → behind ≤ 2 * CODE_MAX → is_byte_jump r ≡ true → is_signed_byte (distance behind place) ≡ true
reaching r behind place h small byte = signed_byte behind place (only_right (is_byte_jump r) (is_near behind place) byte h) small
  where
    only_right : (a b : Bool) → a ≡ true → (not a || b) ≡ true → b ≡ true
    only_right true b p q = q
    only_right false b p q = absurd cc

pub lawful_jump : (r : Row) (behind place : ℕ) → IsTrue (is_relative r) → reaches r behind place ≡ true → behind ≤ 2 * CODE_MAX → IsTrue (is_lawful (relative r (distance behind place)))
lawful_jump r behind place is h small = lawful_relative r (distance behind place) is (reaching r behind place h small)
