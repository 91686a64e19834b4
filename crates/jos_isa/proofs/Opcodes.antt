-- The reader of an opcode.
use Rattle.std.proofs.Common.{◌≡◌, ℕ, ◌<◌, ◌≤◌, List, [], ◌∷◌, ◌++◌, length, Option, Some, None, Ok, Err, refl, arith}
use Rattle.jos_isa.specs.declared.opcode_map.Format.{Format}
use Rattle.jos_isa.specs.declared.opcode_map.Map.{Map}
use Rattle.jos_isa.specs.declared.opcode_map.Map.TheVariants.{TwoByte, OperandSize, Repne, Rep}
use Rattle.jos_isa.specs.declared.opcode_map.OpcodeEntry.{OpcodeEntry}
use Rattle.jos_isa.specs.declared.opcode_map.OpcodeEntry.TheVariants.{Unassigned, Complete, Behind}
use Rattle.jos_isa.specs.declared.behind_opcode.PartFault.TheVariants.{Short}
use Rattle.jos_isa.specs.OpcodeMap.{opcode_entry, format_at, from_90, format_behind, two_byte_at, operand_size_at}
use Rattle.jos_isa.specs.OpcodeMap.{repne_at, rep_at}
use Rattle.jos_isa.specs.Spelling.{SpellsOpcode}
use Rattle.jos_isa.specs.ClauseWords.{AreBytes}
use Rattle.jos_isa.specs.Decoding.{format_or_illegal, format_in_entry, opcode_at}
use Rattle.jos_isa.proofs.Readers.{Reads, taken_as}

-- the places that are looked up: some byte is an opcode, and some byte behind each of the four
any_opcode : (format : Format) × (opcode_entry 0x90 ≡ Complete format)
unfolding opcode_entry format_at from_90
any_opcode = (_, refl)

any_behind : (map : Map) → (format : Format) × (second : ℕ) × (second < 256) × (format_behind map second ≡ Some format)
unfolding format_behind two_byte_at operand_size_at repne_at rep_at
any_behind TwoByte = (_, 0x80, omega arith, refl)
any_behind OperandSize = (_, 0x90, omega arith, refl)
any_behind Repne = (_, 0xa6, omega arith, refl)
any_behind Rep = (_, 0xa6, omega arith, refl)

module _ (b : ℕ) (format : Format) (rest : List ℕ) where
  takes_second : (map : Map) (is : opcode_entry b ≡ Behind map) (s : ℕ) (bytes : List ℕ) (o : Option Format) → format_behind map s ≡ o → format_or_illegal o bytes ≡ Ok (format, rest)
      → (front : List ℕ) × (b ∷ s ∷ bytes ≡ front ++ rest) × SpellsOpcode format front
  takes_second map is s bytes (Some f) second e = taken_as SpellsOpcode (b ∷ s ∷ bytes) (b ∷ s ∷ []) (f, bytes) (format, rest) e refl (map, is, second)
  takes_second map is s bytes None second e = absurd cc

  takes_behind : (map : Map) (is : opcode_entry b ≡ Behind map) (bytes : List ℕ) → format_in_entry (Behind map) bytes ≡ Ok (format, rest) → (front : List ℕ) × (b ∷ bytes ≡ front ++ rest) × SpellsOpcode format front
  unfolding format_in_entry
  takes_behind map is [] e = absurd cc
  takes_behind map is (s ∷ bytes) e = takes_second map is s bytes (format_behind map s) refl e

  takes_entry : (entry : OpcodeEntry) (bytes : List ℕ) → opcode_entry b ≡ entry → format_in_entry entry bytes ≡ Ok (format, rest) → (front : List ℕ) × (b ∷ bytes ≡ front ++ rest) × SpellsOpcode format front
  unfolding format_in_entry
  takes_entry Unassigned bytes is e = absurd cc
  takes_entry (Complete f) bytes is e = taken_as SpellsOpcode (b ∷ bytes) (b ∷ []) (f, bytes) (format, rest) e refl is
  takes_entry (Behind map) bytes is e = takes_behind map is bytes e

takes : (bytes : List ℕ) (format : Format) (rest : List ℕ) → opcode_at bytes ≡ Ok (format, rest) → (front : List ℕ) × (bytes ≡ front ++ rest) × SpellsOpcode format front
unfolding opcode_at
takes [] format rest e = absurd cc
takes (b ∷ bytes) format rest e = takes_entry b format rest (opcode_entry b) bytes refl e

again : (format : Format) (front rest : List ℕ) → SpellsOpcode format front → opcode_at (front ++ rest) ≡ Ok (format, rest)
unfolding opcode_at format_in_entry
again format [] rest h = absurd h
again format (b ∷ []) rest h = rw h refl
again format (b ∷ s ∷ []) rest h = rw (h.1, h.2) refl
again format (b ∷ s ∷ t ∷ front) rest h = absurd h

begins_second : (o : Option Format) (bytes : List ℕ) → format_or_illegal o bytes ≡ Err Short → ⊥
begins_second (Some f) bytes e = cc
begins_second None bytes e = cc

begins_entry : (b : ℕ) (entry : OpcodeEntry) (bytes : List ℕ) → opcode_entry b ≡ entry → format_in_entry entry bytes ≡ Err Short → (format : Format) × (next : ℕ) × (more : List ℕ) × AreBytes (next ∷ more) × SpellsOpcode format (b ∷ bytes ++ next ∷ more)
unfolding format_in_entry
begins_entry b Unassigned bytes is e = absurd cc
begins_entry b (Complete f) bytes is e = absurd cc
begins_entry b (Behind map) [] is e = let any = any_behind map in (any.0, any.1, [], (any.2, tt), (map, is, any.3))
begins_entry b (Behind map) (s ∷ bytes) is e = absurd (begins_second (format_behind map s) bytes e)

begins : (bytes : List ℕ) → opcode_at bytes ≡ Err Short → (format : Format) × (next : ℕ) × (more : List ℕ) × AreBytes (next ∷ more) × SpellsOpcode format (bytes ++ next ∷ more)
unfolding opcode_at
begins [] e = (any_opcode.0, 0x90, [], (omega arith, tt), any_opcode.1)
begins (b ∷ bytes) e = begins_entry b (opcode_entry b) bytes refl e

stops : (format : Format) (bytes : List ℕ) (next : ℕ) (more : List ℕ) → SpellsOpcode format (bytes ++ next ∷ more) → opcode_at bytes ≡ Err Short
unfolding opcode_at format_in_entry
stops format [] next more h = refl
stops format (b ∷ []) next [] h = rw h.1 refl
stops format (b ∷ []) next (m ∷ more) h = absurd h
stops format (b ∷ s ∷ []) next more h = absurd h
stops format (b ∷ s ∷ t ∷ bytes) next more h = absurd h

within : (format : Format) (front : List ℕ) → SpellsOpcode format front → length front ≤ 2
within format [] h = omega arith
within format (b ∷ []) h = omega arith
within format (b ∷ s ∷ []) h = omega arith
within format (b ∷ s ∷ t ∷ front) h = absurd h

pub opcodes : Reads opcode_at SpellsOpcode 2
opcodes = record { takes = takes; again = again; begins = begins; stops = stops; within = within }
