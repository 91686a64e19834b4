-- The program of a seed: children write into one pipe, and their parent counts what comes out of it. In parts, under the library.
use Rattle.std.specs.Prelude.{ℕ, ◌+◌, ◌*◌, ◌/◌, ◌%◌, ◌^◌, ◌≤◌, List, [], ◌∷◌, ◌++◌, codes, Result, Ok, Err}
use Rattle.jos_base.specs.declared.numbers.TheConstants.{PGSIZE}
use Rattle.jos_isa.specs.Moves.{mov}
use Rattle.jos_isa.specs.declared.instruction.Row.TheVariants.{JccRel8, JmpRel8}
use Rattle.jos_asm.specs.declared.item.Item.{Item}
use Rattle.jos_asm.specs.declared.item.Item.TheVariants.{Label, Insn, Jump}
use Rattle.jos_asm.specs.declared.fault.AsmFault.{AsmFault}
use Rattle.jos_asm.specs.Program.{Program, finished}
use Rattle.jos_demo.specs.declared.code.TheConstants.{TEXT, EAX, ECX, EDX, EBX, EBP, ESI, EDI, DL, BL, ZERO, NOT_ZERO, NOT_POSITIVE}
use Rattle.jos_demo.specs.declared.code.TheConstants.{PAGE, PRIVATE, NEWLINE, SPACE, SERVICE_EXIT, SERVICE_CPUTS, SERVICE_FORK, SERVICE_WAIT}
use Rattle.jos_demo.specs.declared.code.TheConstants.{SERVICE_PAGE_NEW, SERVICE_CLOSE, SERVICE_READ, SERVICE_WRITE, SERVICE_PIPE}
use Rattle.jos_demo.specs.declared.workloads.TheConstants.{COUNTS, IDS, NEWLINE_AT, LETTER, DIGIT}
use Rattle.jos_demo.specs.declared.workloads.Workload.{Workload}
use Rattle.jos_demo.specs.Code.{mov_register, add_register, sub_register, test_eax, inc, dec, div, inc_word, add_byte, mov_byte, store_byte}
use Rattle.jos_demo.specs.Code.{store_at_edi, lodsb, lodsd, stosd, rep_stosb, service, image}

-- ---- HOW MUCH

-- the number behind x in the row of random numbers
unfoldable pub next_random : ℕ → ℕ
next_random x = (1_103_515_245 * x + 12_345) % 2 ^ 31

-- of the two numbers behind the seed the upper bits: 2 to 8 children, of which each writes 64 to 4,096 bytes
unfoldable pub workload_of : ℕ → Workload
workload_of seed = record {
  children = 2 + next_random seed / 0x1_0000 % 7;
  bytes = 64 + next_random (next_random seed) / 0x1_0000 % 4_033;
}

pub record IsWorkload (w : Workload) : Type 0 where
  pub two : 2 ≤ w.children
  pub eight : w.children ≤ 8
  pub some : 64 ≤ w.bytes
  pub page : w.bytes ≤ 4_096

-- ---- PARTS

-- page_new(PAGE, PRIVATE), page_new(COUNTS, PRIVATE) and pipe(); EBP is the reading end, and ESI the writing end
abbrev pub made : List Item
made =
    Insn (mov EDX PAGE) ∷ Insn (mov ECX PRIVATE) ∷ service SERVICE_PAGE_NEW
    ++ Insn (mov EDX COUNTS) ∷ service SERVICE_PAGE_NEW
    ++ service SERVICE_PIPE
    ++ Insn (mov_register EBP EDX) ∷ Insn (mov_register ESI ECX) ∷ []

-- fork() as often as there are children; their ids go to IDS. Each has its letter in EBX, the first `a`.
abbrev pub forked : ℕ → List Item
forked children =
    Insn (mov ECX children)
    ∷ Insn (mov EBX LETTER)
    ∷ Insn (mov EDI IDS)
    ∷ Label (codes "fork") ∷ service SERVICE_FORK
    ++ Insn test_eax ∷ Jump (JccRel8 ZERO) (codes "child")
    ∷ Insn stosd
    ∷ Insn (inc EBX)
    ∷ Insn (dec ECX)
    ∷ Jump (JccRel8 NOT_ZERO) (codes "fork")
    ∷ Jump JmpRel8 (codes "parent")
    ∷ []

-- A child: close(reading end), and its letter so often from PAGE on.
abbrev pub filled : ℕ → List Item
filled bytes =
    Label (codes "child") ∷ Insn (mov_register EDX EBP) ∷ service SERVICE_CLOSE
    ++ Insn (mov_register EAX EBX)
    ∷ Insn (mov EDI PAGE)
    ∷ Insn (mov ECX bytes)
    ∷ Insn rep_stosb
    ∷ []

-- write(writing end, PAGE, bytes), and again for what is left, until nothing is; then exit, as where no byte is taken
abbrev pub written : ℕ → List Item
written bytes =
    Insn (mov_register EDX ESI)
    ∷ Insn (mov ECX PAGE)
    ∷ Insn (mov EBX bytes)
    ∷ Label (codes "rest") ∷ service SERVICE_WRITE
    ++ Insn test_eax ∷ Jump (JccRel8 NOT_POSITIVE) (codes "end")
    ∷ Insn (add_register ECX EAX)
    ∷ Insn (sub_register EBX EAX)
    ∷ Jump (JccRel8 NOT_ZERO) (codes "rest")
    ∷ Label (codes "end") ∷ service SERVICE_EXIT

-- The parent: close(writing end), and read(reading end, PAGE, PGSIZE) as long as bytes come. The word of the number of a
-- byte's value, from COUNTS on, has how often the value came.
abbrev pub counted : List Item
counted =
    Label (codes "parent") ∷ Insn (mov_register EDX ESI) ∷ service SERVICE_CLOSE
    ++ Label (codes "read") ∷ Insn (mov_register EDX EBP)
    ∷ Insn (mov ECX PAGE)
    ∷ Insn (mov EBX PGSIZE) ∷ service SERVICE_READ
    ++ Insn test_eax ∷ Jump (JccRel8 NOT_POSITIVE) (codes "wait")
    ∷ Insn (mov_register ECX EAX)
    ∷ Insn (mov ESI PAGE)
    ∷ Insn (mov EAX 0)
    ∷ Label (codes "count")
    ∷ Insn lodsb
    ∷ Insn (inc_word COUNTS)
    ∷ Insn (dec ECX)
    ∷ Jump (JccRel8 NOT_ZERO) (codes "count")
    ∷ Jump JmpRel8 (codes "read")
    ∷ []

-- wait(id) for each child, in order
abbrev pub waited : ℕ → List Item
waited children =
    Label (codes "wait") ∷ Insn (mov ECX children)
    ∷ Insn (mov ESI IDS)
    ∷ Label (codes "next")
    ∷ Insn lodsd
    ∷ Insn (mov_register EDX EAX) ∷ service SERVICE_WAIT
    ++ Insn (dec ECX)
    ∷ Jump (JccRel8 NOT_ZERO) (codes "next")
    ∷ []

-- EAX in decimal, before EDI, which goes to the first digit
abbrev pub spelled : List Item
spelled =
    Insn (mov ECX 10)
    ∷ Label (codes "digit")
    ∷ Insn (mov EDX 0)
    ∷ Insn (div ECX)
    ∷ Insn (add_byte DL DIGIT)
    ∷ Insn (dec EDI)
    ∷ Insn (store_at_edi DL)
    ∷ Insn test_eax
    ∷ Jump (JccRel8 NOT_ZERO) (codes "digit")
    ∷ []

-- for each child its letter, a space, the count and a newline, by cputs(from, bytes); then exit
abbrev pub told : ℕ → List Item
told children =
    Insn (store_byte NEWLINE_AT NEWLINE)
    ∷ Insn (mov EBP children)
    ∷ Insn (mov EBX LETTER)
    ∷ Insn (mov ESI (COUNTS + 4 * LETTER))
    ∷ Label (codes "line")
    ∷ Insn lodsd
    ∷ Insn (mov EDI NEWLINE_AT) ∷ spelled
    ++ Insn (mov_byte DL SPACE)
    ∷ Insn (dec EDI)
    ∷ Insn (store_at_edi DL)
    ∷ Insn (dec EDI)
    ∷ Insn (store_at_edi BL)
    ∷ Insn (mov_register EDX EDI)
    ∷ Insn (mov ECX (NEWLINE_AT + 1))
    ∷ Insn (sub_register ECX EDI) ∷ service SERVICE_CPUTS
    ++ Insn (inc EBX)
    ∷ Insn (dec EBP)
    ∷ Jump (JccRel8 NOT_ZERO) (codes "line")
    ∷ service SERVICE_EXIT

-- ---- THE PROGRAM

unfoldable pub work_program : Workload → Program
work_program w = record {
  base = TEXT;
  items = made ++ forked w.children ++ filled w.bytes ++ written w.bytes ++ counted ++ waited w.children ++ told w.children;
}

-- the code of a program that has no fault
abbrev pub code_of : Result (List ℕ) AsmFault → List ℕ
code_of (Ok code) = code
code_of (Err fault) = []

-- its file; the program has no fault, whatever the workload
unfoldable pub work_file : Workload → List ℕ
work_file w = image (code_of (finished (work_program w)))
