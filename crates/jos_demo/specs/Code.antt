-- What programs are made of, and the image of a program.
use Rattle.std.specs.Prelude.{ℕ, false, List, [], ◌∷◌, ◌++◌, length, Some, None}
use Rattle.jos_base.specs.declared.numbers.TheConstants.{T_SERVICE}
use Rattle.jos_isa.specs.Moves.{mov}
use Rattle.jos_isa.specs.declared.instruction.Insn.{Insn}
use Rattle.jos_isa.specs.declared.instruction.Row.TheVariants.{IntImm8, MovRm8Imm8, MovAlAddr, MovR8Imm8, MovRm32R32}
use Rattle.jos_isa.specs.declared.instruction.Row.TheVariants.{TestRm8R8, TestRm32R32, PushR32, PopR32, DecR32, AluRm32R32}
use Rattle.jos_isa.specs.declared.instruction.Row.TheVariants.{Lodsb, Stosb, Lodsd, Stosd, IncR32, IncRm32, AluRm8Imm8, DivRm32, MovRm8R8}
use Rattle.jos_isa.specs.declared.instruction.Repeat.TheVariants.{Once, WhileEqual}
use Rattle.jos_isa.specs.declared.instruction.Operand.TheVariants.{Absent, Reg, Mem}
use Rattle.jos_isa.specs.declared.instruction.Disp.TheVariants.{Word, Zero}
use Rattle.jos_asm.specs.declared.item.Item.{Item}
use Rattle.jos_asm.specs.declared.item.Item.TheVariants as item
use Rattle.jos_asm.specs.Program.{Program}
use Rattle.jos_elf.specs.Written.{written}
use Rattle.jos_demo.specs.declared.code.TheConstants.{TEXT, EAX, EDI, AL, ADD, SUB}

-- int vector
abbrev pub int : ℕ → Insn
int vector = record { row = IntImm8; repeat = Once; operand = Absent; reg = 0; imm = vector }

-- mov byte [va], byte
abbrev pub store_byte : ℕ → ℕ → Insn
store_byte va byte = record {
  row = MovRm8Imm8;
  repeat = Once;
  operand = Mem (record { base = None; index = None; scale = 0; disp = Word va });
  reg = 0;
  imm = byte;
}

-- mov al, [va]
abbrev pub load_al : ℕ → Insn
load_al va = record { row = MovAlAddr; repeat = Once; operand = Absent; reg = 0; imm = va }

-- mov reg, byte: AL, CL, DL, BL, AH, CH, DH or BH
abbrev pub mov_byte : ℕ → ℕ → Insn
mov_byte reg byte = record { row = MovR8Imm8; repeat = Once; operand = Absent; reg = reg; imm = byte }

-- lodsb
abbrev pub lodsb : Insn
lodsb = record { row = Lodsb; repeat = Once; operand = Absent; reg = 0; imm = 0 }

-- stosb
abbrev pub stosb : Insn
stosb = record { row = Stosb; repeat = Once; operand = Absent; reg = 0; imm = 0 }

-- test al, al
abbrev pub test_al : Insn
test_al = record { row = TestRm8R8; repeat = Once; operand = Reg AL; reg = AL; imm = 0 }

-- test eax, eax
abbrev pub test_eax : Insn
test_eax = record { row = TestRm32R32; repeat = Once; operand = Reg EAX; reg = EAX; imm = 0 }

-- push eax
abbrev pub push_eax : Insn
push_eax = record { row = PushR32; repeat = Once; operand = Absent; reg = EAX; imm = 0 }

-- pop reg
abbrev pub pop : ℕ → Insn
pop reg = record { row = PopR32; repeat = Once; operand = Absent; reg = reg; imm = 0 }

-- dec reg
abbrev pub dec : ℕ → Insn
dec reg = record { row = DecR32; repeat = Once; operand = Absent; reg = reg; imm = 0 }

-- mov to, from
abbrev pub mov_register : ℕ → ℕ → Insn
mov_register to from = record { row = MovRm32R32; repeat = Once; operand = Reg to; reg = from; imm = 0 }

-- add to, from
abbrev pub add_register : ℕ → ℕ → Insn
add_register to from = record { row = AluRm32R32 ADD; repeat = Once; operand = Reg to; reg = from; imm = 0 }

-- sub to, from
abbrev pub sub_register : ℕ → ℕ → Insn
sub_register to from = record { row = AluRm32R32 SUB; repeat = Once; operand = Reg to; reg = from; imm = 0 }

-- inc reg
abbrev pub inc : ℕ → Insn
inc reg = record { row = IncR32; repeat = Once; operand = Absent; reg = reg; imm = 0 }

-- inc dword [va + 4 eax]
abbrev pub inc_word : ℕ → Insn
inc_word va = record {
  row = IncRm32;
  repeat = Once;
  operand = Mem (record { base = None; index = Some EAX; scale = 2; disp = Word va });
  reg = 0;
  imm = 0;
}

-- add reg, byte: AL, CL, DL, BL, AH, CH, DH or BH
abbrev pub add_byte : ℕ → ℕ → Insn
add_byte reg byte = record { row = AluRm8Imm8 ADD; repeat = Once; operand = Reg reg; reg = 0; imm = byte }

-- div reg
abbrev pub div : ℕ → Insn
div reg = record { row = DivRm32; repeat = Once; operand = Reg reg; reg = 0; imm = 0 }

-- lodsd
abbrev pub lodsd : Insn
lodsd = record { row = Lodsd; repeat = Once; operand = Absent; reg = 0; imm = 0 }

-- stosd
abbrev pub stosd : Insn
stosd = record { row = Stosd; repeat = Once; operand = Absent; reg = 0; imm = 0 }

-- rep stosb
abbrev pub rep_stosb : Insn
rep_stosb = record { row = Stosb; repeat = WhileEqual; operand = Absent; reg = 0; imm = 0 }

-- mov [edi], reg: AL, CL, DL, BL, AH, CH, DH or BH
abbrev pub store_at_edi : ℕ → Insn
store_at_edi reg = record {
  row = MovRm8R8;
  repeat = Once;
  operand = Mem (record { base = Some EDI; index = None; scale = 0; disp = Zero });
  reg = reg;
  imm = 0;
}

-- a service by its number
abbrev pub service : ℕ → List Item
service number = item.Insn (mov EAX number) ∷ item.Insn (int T_SERVICE) ∷ []

-- a program with these items behind its own
unfoldable pub with_items : Program → List Item → Program
with_items p [] = p
with_items p (i ∷ items) = with_items (record p { items = p.items ++ i ∷ [] }) items

-- the image of code in one segment that is not written, from where it starts
unfoldable pub image : List ℕ → List ℕ
image code = written TEXT (record { va = TEXT; at = 0; len = length code; mem_len = length code; writable = false } ∷ []) code
