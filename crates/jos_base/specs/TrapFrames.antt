-- Registers as words in memory: what the handler of a page fault finds on its stack, and the record by which an
-- environment's registers are set.
-- (MIT 6.828, inc/trap.h: struct UTrapframe and struct Trapframe; the old ESP of the first equals its ESP, which is this
-- system's own.)
use Rattle.std.specs.Prelude.{ℕ, ◌+◌, ◌-◌, ◌*◌, nat_lt, nat_le, ◌&&◌, List, [], ◌∷◌, ◌++◌, get_or, Option, Some, None}
use Rattle.std.specs.Prelude.{bit_and, bit_or, if◌then◌else◌}
use Rattle.std.specs.Int.{w32, to_le_bytes, from_le_bytes}
use Rattle.jos_base.specs.declared.memory.PageFault.{PageFault}
use Rattle.jos_base.specs.declared.registers.Regs.{Regs}
use Rattle.jos_base.specs.declared.numbers.TheConstants.{PGSIZE, UXSTACKTOP, UTRAPFRAME_WORDS, FL_1, FL_IF}
use Rattle.jos_base.specs.declared.numbers.TheConstants.{FL_CF, FL_PF, FL_AF, FL_ZF, FL_SF, FL_DF, FL_OF}

-- ---- words as bytes, the lowest first

unfoldable pub bytes_of_words : List ℕ → List ℕ
bytes_of_words [] = []
bytes_of_words (word ∷ rest) = to_le_bytes w32 word ++ bytes_of_words rest

unfoldable pub words_of_bytes : List ℕ → List ℕ
words_of_bytes (a ∷ b ∷ c ∷ d ∷ rest) = from_le_bytes w32 (a ∷ b ∷ c ∷ d ∷ []) ∷ words_of_bytes rest
words_of_bytes _ = []

-- ---- EFLAGS

-- the flags that a program sets; it sets no others
abbrev pub flags_taken : ℕ
flags_taken = FL_CF + FL_PF + FL_AF + FL_ZF + FL_SF + FL_DF + FL_OF

-- of a word these flags, and beside them the bits that are always set
abbrev pub user_flags : ℕ → ℕ
user_flags word = bit_or (FL_1 + FL_IF) (bit_and word flags_taken)

-- ---- the frame of a page fault

-- the bytes of a frame
abbrev pub frame_size : ℕ
frame_size = 4 * UTRAPFRAME_WORDS

-- the first address of the exception stack
abbrev pub exception_stack : ℕ
exception_stack = UXSTACKTOP - PGSIZE

-- Where the frame of a fault stands, by the ESP of the fault: at the top of the exception stack, or, where the fault was
-- in a handler and ESP lies in that stack, below ESP and a word that is left empty. None where it would begin below the
-- stack.
unfoldable pub upcall_place : ℕ → Option ℕ
upcall_place esp =
    if nat_le exception_stack esp && nat_lt esp UXSTACKTOP
    then (if nat_lt esp (exception_stack + frame_size + 4) then None else Some (esp - (frame_size + 4)))
    else Some (UXSTACKTOP - frame_size)

unfoldable pub frame_words : PageFault → Regs → List ℕ
frame_words fault regs =
    fault.va ∷ fault.error ∷ regs.edi ∷ regs.esi ∷ regs.ebp ∷ regs.esp ∷ regs.ebx ∷ regs.edx ∷ regs.ecx ∷ regs.eax
    ∷ regs.eip ∷ regs.eflags ∷ regs.esp ∷ []

abbrev pub frame_bytes : PageFault → Regs → List ℕ
frame_bytes fault regs = bytes_of_words (frame_words fault regs)

-- the registers that a frame tells
unfoldable pub from_frame : List ℕ → Regs
from_frame words = record {
  eax = get_or words 9 0;
  ecx = get_or words 8 0;
  edx = get_or words 7 0;
  ebx = get_or words 6 0;
  esp = get_or words 12 0;
  ebp = get_or words 4 0;
  esi = get_or words 3 0;
  edi = get_or words 2 0;
  eip = get_or words 10 0;
  eflags = user_flags (get_or words 11 0);
}

-- ---- the record of all registers

-- Its words: EDI, ESI, EBP, an ESP that is ignored, EBX, EDX, ECX, EAX, ES, DS, the trap's number, its error code, EIP, CS,
-- EFLAGS, ESP, SS. The segments, the number and the code are ignored.
unfoldable pub from_record : List ℕ → Regs
from_record words = record {
  eax = get_or words 7 0;
  ecx = get_or words 6 0;
  edx = get_or words 5 0;
  ebx = get_or words 4 0;
  esp = get_or words 15 0;
  ebp = get_or words 2 0;
  esi = get_or words 1 0;
  edi = get_or words 0 0;
  eip = get_or words 12 0;
  eflags = user_flags (get_or words 14 0);
}
