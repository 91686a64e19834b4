-- The programs that write their words and what they read, under the library, in parts.
use Rattle.std.specs.Prelude.{List, [], ◌∷◌, ◌++◌, codes}
use Rattle.jos_base.specs.declared.numbers.TheConstants.{PGSIZE}
use Rattle.jos_isa.specs.Moves.{mov}
use Rattle.jos_isa.specs.declared.instruction.Row.TheVariants.{JccRel8, JmpRel8}
use Rattle.jos_asm.specs.declared.item.Item.{Item}
use Rattle.jos_asm.specs.declared.item.Item.TheVariants.{Label, Insn, Jump}
use Rattle.jos_asm.specs.Program.{Program}
use Rattle.jos_demo.specs.declared.code.TheConstants.{TEXT, EAX, ECX, EDX, EBX, ESP, ESI, EDI, AL, PAGE, PRIVATE, NEWLINE, SPACE}
use Rattle.jos_demo.specs.declared.code.TheConstants.{NOT_ZERO, NEGATIVE, NOT_POSITIVE}
use Rattle.jos_demo.specs.declared.code.TheConstants.{SERVICE_EXIT, SERVICE_PAGE_NEW, SERVICE_READ, SERVICE_WRITE}
use Rattle.jos_demo.specs.declared.streams.TheConstants.{INPUT, OUTPUT}
use Rattle.jos_demo.specs.Code.{mov_byte, lodsb, stosb, test_al, test_eax, pop, dec, mov_register, add_register, sub_register}
use Rattle.jos_demo.specs.Code.{service}

-- ---- PARTS

-- page_new(PAGE, PRIVATE): room for bytes; the program ends where it is refused
abbrev pub roomy : List Item
roomy =
    Insn (mov EDX PAGE) ∷ Insn (mov ECX PRIVATE) ∷ service SERVICE_PAGE_NEW
    ++ Insn test_eax ∷ Jump (JccRel8 NEGATIVE) (codes "end")
    ∷ []

-- The program's words behind the first, from PAGE up to EDI: with a space between two, and a newline. ESP goes to where the
-- addresses of the words stand. Each word is copied with its NUL, which a space takes the place of, and the newline that of
-- the last space, where there is one.
abbrev pub line : List Item
line =
    Insn (pop ECX)
    ∷ Insn (pop ESP)
    ∷ Insn (pop ESI)
    ∷ Insn (mov EDI PAGE)
    ∷ Insn (dec ECX)
    ∷ Jump (JccRel8 NOT_POSITIVE) (codes "newline")
    ∷ Label (codes "word")
    ∷ Insn (pop ESI)
    ∷ Label (codes "byte")
    ∷ Insn lodsb
    ∷ Insn stosb
    ∷ Insn test_al
    ∷ Jump (JccRel8 NOT_ZERO) (codes "byte")
    ∷ Insn (dec EDI)
    ∷ Insn (mov_byte AL SPACE)
    ∷ Insn stosb
    ∷ Insn (dec ECX)
    ∷ Jump (JccRel8 NOT_ZERO) (codes "word")
    ∷ Insn (dec EDI)
    ∷ Label (codes "newline")
    ∷ Insn (mov_byte AL NEWLINE)
    ∷ Insn stosb
    ∷ []

-- read(INPUT, PAGE, PGSIZE); the program ends where no byte comes, and else EBX of them stand from ECX on
abbrev pub taken : List Item
taken =
    Insn (mov EDX INPUT) ∷ Insn (mov ECX PAGE) ∷ Insn (mov EBX PGSIZE) ∷ service SERVICE_READ
    ++ Insn test_eax ∷ Jump (JccRel8 NOT_POSITIVE) (codes "end")
    ∷ Insn (mov_register EBX EAX)
    ∷ []

-- write(OUTPUT, ECX, EBX), and again for what is left, until nothing is; the program ends where no byte is taken
abbrev pub put : List Item
put =
    Insn (mov EDX OUTPUT) ∷ Label (codes "rest") ∷ service SERVICE_WRITE
    ++ Insn test_eax ∷ Jump (JccRel8 NOT_POSITIVE) (codes "end")
    ∷ Insn (add_register ECX EAX)
    ∷ Insn (sub_register EBX EAX)
    ∷ Jump (JccRel8 NOT_ZERO) (codes "rest")
    ∷ []

-- exit
abbrev pub ended : List Item
ended = Label (codes "end") ∷ service SERVICE_EXIT

-- ---- PROGRAMS

-- It writes its words but the first in a line.
unfoldable pub echo : Program
echo = record {
  base = TEXT;
  items =
      roomy
      ++ line
      ++ Insn (mov ECX PAGE) ∷ Insn (mov_register EBX EDI) ∷ Insn (sub_register EBX ECX) ∷ put
      ++ ended;
}

-- It writes what it reads, up to the end.
unfoldable pub cat : Program
cat = record { base = TEXT; items = roomy ++ Label (codes "next") ∷ taken ++ put ++ Jump JmpRel8 (codes "next") ∷ ended }
