-- The reader of an instruction, and what `decoded` answers.
use Rattle.std.proofs.Common.{◌≡◌, ℕ, ◌+◌, ◌-◌, ◌≤◌, List, [], ◌∷◌, ◌++◌, length, take, Result, Ok, Err, refl}
use Rattle.std.proofs.Common.{sym, ap, subst, ◌∙◌, arith}
use Rattle.std.proofs.Math.Seq.{take-append_seam}
use Rattle.std.proofs.lemmas.List.{length-append, append-nil}
use Rattle.jos_isa.specs.declared.instruction.Insn.{Insn}
use Rattle.jos_isa.specs.declared.behind_opcode.PartFault.{PartFault}
use Rattle.jos_isa.specs.declared.behind_opcode.PartFault.TheVariants as fault
use Rattle.jos_isa.specs.declared.decoder.Decoded.TheVariants.{Found, Short}
use Rattle.jos_isa.specs.Spelling.{Spells, SpellsOpcode, SpellsFormat}
use Rattle.jos_isa.specs.Decoding.{opcode_at, insn_in_format, instruction_at, decoded_from, decoded}
use Rattle.jos_isa.specs.ClauseWords.{AreBytes, IfFound}
use Rattle.jos_isa.proofs.Readers.{Reads, Joins, after, second_of, ok_is}
use Rattle.jos_isa.proofs.Formats.{formats, any_format}
use Rattle.jos_isa.proofs.Opcodes.{opcodes}

-- ---- an opcode and its format

opcode_joins : Joins SpellsOpcode SpellsFormat second_of Spells
opcode_joins = record {
  joined = λ a b front back p q. (a, front, back, refl, p, q);
  parted = λ insn bytes h. record { a = h.0; b = insn; front = h.1; back = h.2; is = refl; bytes_are = h.3; front_spells = h.4; back_spells = h.5 };
  follows = any_format;
}

pub instructions : Reads instruction_at Spells 12
unfolding instruction_at
instructions = after opcode_at insn_in_format SpellsOpcode SpellsFormat Spells 2 10 opcodes formats opcode_joins

-- ---- answers

abbrev IsAtFront : List ℕ → Insn → ℕ → Type 0
IsAtFront bytes insn len = (len ≤ length bytes) × Spells insn (take len bytes)

at_front : (bytes : List ℕ) (insn : Insn) (rest front : List ℕ) → bytes ≡ front ++ rest → Spells insn front → IsAtFront bytes insn (length bytes - length rest)
at_front bytes insn rest front e h =
    let whole : length bytes ≡ length front + length rest = ap length e ∙ length-append front rest in
    let len : length bytes - length rest ≡ length front = omega arith in
    let taken : take (length bytes - length rest) bytes ≡ front = ap (λ (n : ℕ). take n bytes) len ∙ ap (λ (l : List ℕ). take (length front) l) e ∙ take-append_seam front rest in
    (omega arith, subst (λ (l : List ℕ). Spells insn l) (sym taken) h)

found_of : (bytes : List ℕ) (read : Result (Insn × List ℕ) PartFault) → instruction_at bytes ≡ read → IfFound (decoded_from (length bytes) read) (IsAtFront bytes)
found_of bytes (Ok x) e =
    let t = instructions.takes bytes x.0 x.1 e in
    at_front bytes x.0 x.1 t.0 t.1 t.2
found_of bytes (Err fault.Short) e = tt
found_of bytes (Err fault.Illegal) e = tt

pub found : (bytes : List ℕ) → IfFound (decoded bytes) (λ insn len. (len ≤ length bytes) × Spells insn (take len bytes))
unfolding decoded
found bytes = found_of bytes (instruction_at bytes) refl

pub only : (bytes : List ℕ) (insn : Insn) (front more : List ℕ) → bytes ≡ front ++ more → Spells insn front → decoded bytes ≡ Found insn (length front)
unfolding decoded
only bytes insn front more e h =
    let read : instruction_at bytes ≡ Ok (insn, more) = ap instruction_at e ∙ instructions.again insn front more h in
    let whole : length bytes ≡ length front + length more = ap length e ∙ length-append front more in
    let len : length bytes - length more ≡ length front = omega arith in
    rw (read, len) refl

short_of : (total : ℕ) (read : Result (Insn × List ℕ) PartFault) → decoded_from total read ≡ Short → read ≡ Err fault.Short
short_of total (Ok x) e = absurd cc
short_of total (Err fault.Short) e = refl
short_of total (Err fault.Illegal) e = absurd cc

pub short : (bytes : List ℕ) → decoded bytes ≡ Short → (insn : Insn) × (next : ℕ) × (more : List ℕ) × AreBytes (next ∷ more) × Spells insn (bytes ++ next ∷ more)
unfolding decoded
short bytes e = instructions.begins bytes (short_of (length bytes) (instruction_at bytes) e)

pub only_short : (bytes : List ℕ) (insn : Insn) (next : ℕ) (more : List ℕ) → Spells insn (bytes ++ next ∷ more) → decoded bytes ≡ Short
unfolding decoded
only_short bytes insn next more h =
    let read : instruction_at bytes ≡ Err fault.Short = instructions.stops insn bytes next more h in
    rw read refl

pub alone : (insn other : Insn) (front more : List ℕ) → Spells insn front → Spells other (front ++ more) → (more ≡ []) × (insn ≡ other)
alone insn other front more p q =
    let one : instruction_at (front ++ more) ≡ Ok (insn, more) = instructions.again insn front more p in
    let two : instruction_at (front ++ more) ≡ Ok (other, []) = ap instruction_at (sym (append-nil (front ++ more))) ∙ instructions.again other (front ++ more) [] q in
    let same : ◌≡◌ {A = Insn × List ℕ} (insn, more) (other, []) = ok_is (insn, more) (other, []) (sym one ∙ two) in
    (ap (λ (p : Insn × List ℕ). p.1) same, ap (λ (p : Insn × List ℕ). p.0) same)
