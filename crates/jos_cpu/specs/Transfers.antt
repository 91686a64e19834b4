-- What an instruction reads and writes, when all its accesses are probed. Numbers are stored with the lowest byte
-- first.
-- (Intel 80386 Programmer's Reference Manual, 1986, sections 2.2 and 17.2.2.)
use Rattle.std.specs.Prelude.{ℕ, ◌/◌, ◌%◌, List, [], ◌∷◌, ◌++◌, if◌then◌else◌}
use Rattle.std.specs.Int.{w16, w32, from_le_bytes}
use Rattle.jos_base.specs.declared.registers.Regs.{Regs}
use Rattle.jos_alu.specs.declared.width.Width.{Width}
use Rattle.jos_alu.specs.declared.width.Width.TheVariants.{Bits8, Bits16, Bits32}
use Rattle.jos_cpu.specs.declared.accesses.AccessAt.{AccessAt}
use Rattle.jos_cpu.specs.declared.accesses.Accesses.{Accesses}
use Rattle.jos_cpu.specs.declared.accesses.Accesses.TheVariants as reach
use Rattle.jos_cpu.specs.declared.transfers.PoppedWords.{PoppedWords}
use Rattle.jos_cpu.specs.declared.transfers.Inputs.{Inputs}
use Rattle.jos_cpu.specs.declared.transfers.Inputs.TheVariants.{Numbers, Popped}
use Rattle.jos_cpu.specs.Memory.{Memory, after}
use Rattle.jos_cpu.specs.Accesses.{is_written, is_read}

-- ---- what is read

unfoldable pub number_at : {M : Type 0} → Memory M → M → ℕ → Width → ℕ
number_at t m va Bits8 = t.byte m va
number_at t m va Bits16 = from_le_bytes w16 (t.byte m va ∷ t.byte m (after va) ∷ [])
number_at t m va Bits32 =
    from_le_bytes w32 (t.byte m va ∷ t.byte m (after va) ∷ t.byte m (after (after va)) ∷ t.byte m (after (after (after va))) ∷ [])

-- 0 where nothing is read
abbrev pub input_of : {M : Type 0} → Memory M → M → AccessAt → ℕ
input_of t m r = if is_read r.usage then number_at t m r.va r.width else 0

abbrev pub next_word : ℕ → ℕ
next_word va = after (after (after (after va)))

-- the words that POPA reads from an address upwards; that of ESP, the fourth, is passed over
unfoldable pub popped_words : {M : Type 0} → Memory M → M → ℕ → PoppedWords
popped_words t m va =
    let a = next_word va in let b = next_word a in let c = next_word b in
    let d = next_word c in let e = next_word d in let f = next_word e in let g = next_word f in
    record {
      edi = number_at t m va Bits32;
      esi = number_at t m a Bits32;
      ebp = number_at t m b Bits32;
      ebx = number_at t m d Bits32;
      edx = number_at t m e Bits32;
      ecx = number_at t m f Bits32;
      eax = number_at t m g Bits32;
    }

-- what an instruction reads, after all probes
unfoldable pub inputs_of : {M : Type 0} → Memory M → M → Accesses → Inputs
inputs_of t m reach.None = Numbers 0 0
inputs_of t m (reach.One r) = Numbers (input_of t m r) 0
inputs_of t m (reach.Two r s) = Numbers (input_of t m r) (input_of t m s)
inputs_of t m (reach.PushAll va) = Numbers 0 0
inputs_of t m (reach.PopAll va) = Popped (popped_words t m va)

-- ---- what is written

-- a number to be put at an address
pub record Number : Type 0 where
  pub va : ℕ
  pub width : Width
  pub value : ℕ

abbrev pub number_for : AccessAt → ℕ → List Number
number_for r value = if is_written r.usage then record { va = r.va; width = r.width; value = value } ∷ [] else []

abbrev pub word_for : ℕ → ℕ → Number
word_for va value = record { va = va; width = Bits32; value = value }

-- PUSHA writes the old registers, EDI lowest
unfoldable pub pushed_numbers : ℕ → Regs → List Number
pushed_numbers va regs =
    let a = next_word va in let b = next_word a in let c = next_word b in
    let d = next_word c in let e = next_word d in let f = next_word e in let g = next_word f in
    word_for va regs.edi ∷ word_for a regs.esi ∷ word_for b regs.ebp ∷ word_for c regs.esp
    ∷ word_for d regs.ebx ∷ word_for e regs.edx ∷ word_for f regs.ecx ∷ word_for g regs.eax ∷ []

-- an instruction's value goes where it writes
unfoldable pub writes_of : Accesses → Regs → ℕ → List Number
writes_of reach.None regs value = []
writes_of (reach.One r) regs value = number_for r value
writes_of (reach.Two r s) regs value = number_for r value ++ number_for s value
writes_of (reach.PushAll va) regs value = pushed_numbers va regs
writes_of (reach.PopAll va) regs value = []

-- A byte, two or four, from an address upwards.
unfoldable pub stored_number : {M : Type 0} → Memory M → M → Width → ℕ → ℕ → M
stored_number t m Bits8 va value = t.stored m va (value % 256)
stored_number t m Bits16 va value = t.stored (t.stored m va (value % 256)) (after va) (value / 256 % 256)
stored_number t m Bits32 va value =
    t.stored (t.stored (t.stored (t.stored m va (value % 256)) (after va) (value / 256 % 256))
    (after (after va)) (value / 65536 % 256)) (after (after (after va))) (value / 16777216 % 256)

unfoldable pub stored_all : {M : Type 0} → Memory M → M → List Number → M
stored_all t m [] = m
stored_all t m (n ∷ rest) = stored_all t (stored_number t m n.width n.va n.value) rest
