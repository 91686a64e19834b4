-- The programs in which a parent and its child write on one page and read it, under the library, in parts.
use Rattle.std.specs.Prelude.{ℕ, List, [], ◌∷◌, ◌++◌, codes}
use Rattle.jos_isa.specs.Moves.{mov}
use Rattle.jos_isa.specs.declared.instruction.Row.TheVariants.{JccRel8, JmpRel8}
use Rattle.jos_asm.specs.declared.item.Item.{Item}
use Rattle.jos_asm.specs.declared.item.Item.TheVariants.{Label, Insn, Jump, Address, Bytes}
use Rattle.jos_asm.specs.Program.{Program}
use Rattle.jos_demo.specs.declared.code.TheConstants.{TEXT, EAX, ECX, EDX, EBX, ESP, AH, NOT_ZERO, PAGE, PRIVATE, NEWLINE}
use Rattle.jos_demo.specs.declared.code.TheConstants.{SERVICE_CPUTS, SERVICE_EXIT, SERVICE_FORK, SERVICE_WAIT, SERVICE_PAGE_NEW}
use Rattle.jos_demo.specs.declared.code.TheConstants.{SERVICE_SEND, SERVICE_RECEIVE}
use Rattle.jos_demo.specs.declared.pairs.TheConstants.{SHARED, CHILDS, PARENTS}
use Rattle.jos_demo.specs.Code.{store_byte, load_al, mov_byte, test_eax, push_eax, mov_register, service}

-- ---- PARTS

-- page_new(PAGE, flags), and fork; the child goes on here, and writes its byte
abbrev pub forked : ℕ → List Item
forked flags =
    Insn (mov EDX PAGE) ∷ Insn (mov ECX flags) ∷ service SERVICE_PAGE_NEW
    ++ service SERVICE_FORK
    ++ Insn test_eax ∷ Jump (JccRel8 NOT_ZERO) (codes "parent")
    ∷ Insn (store_byte PAGE CHILDS)
    ∷ []

-- receive(0, 0): a message of anyone, without a page
abbrev pub received : List Item
received = Insn (mov EDX 0) ∷ Insn (mov ECX 0) ∷ service SERVICE_RECEIVE

-- The child has its text, and goes to the end of both. The parent goes on here, and keeps the child's id in EDX.
abbrev pub parted : List Item
parted =
    Insn (mov ECX 6)
    ∷ Address EDX (codes "child text")
    ∷ Jump JmpRel8 (codes "both")
    ∷ Label (codes "parent")
    ∷ Insn (mov_register EDX EAX)
    ∷ []

-- send(id, 0, 0): a message to the child, without a page
abbrev pub sent : List Item
sent = Insn (mov ECX 0) ∷ Insn (mov EBX 0) ∷ service SERVICE_SEND

-- wait(id), and the parent's text; then, for both: the byte of the page with a newline onto the stack
abbrev pub joined : List Item
joined =
    service SERVICE_WAIT
    ++ Insn (mov ECX 7)
    ∷ Address EDX (codes "parent text")
    ∷ Label (codes "both")
    ∷ Insn (load_al PAGE)
    ∷ Insn (mov_byte AH NEWLINE)
    ∷ Insn push_eax
    ∷ []

-- cputs(text, length), cputs(esp, 2) and exit
abbrev pub told : List Item
told =
    service SERVICE_CPUTS
    ++ Insn (mov_register EDX ESP) ∷ Insn (mov ECX 2) ∷ service SERVICE_CPUTS
    ++ service SERVICE_EXIT
    ++ Label (codes "child text") ∷ Bytes (codes "child ")
    ∷ Label (codes "parent text") ∷ Bytes (codes "parent ")
    ∷ []

-- ---- PROGRAMS

-- On a page of one's own each reads what it has written.
unfoldable pub forkpair : Program
forkpair = record {
  base = TEXT;
  items = forked PRIVATE ++ parted ++ Insn (store_byte PAGE PARENTS) ∷ joined ++ told;
}

-- On a shared page both read what the parent has written. The child has written when it waits for the first message,
-- and the parent, which writes behind that, when it sends the second.
unfoldable pub sharepair : Program
sharepair = record {
  base = TEXT;
  items = forked SHARED ++ received ++ received ++ parted ++ sent ++ Insn (store_byte PAGE PARENTS) ∷ sent ++ joined ++ told;
}
