-- The programs that print a line, as an assembler reads them, and the files of the names of all programs.
use Rattle.std.specs.Prelude.{List, [], ◌∷◌, ℕ, Option, Some, None, codes, Result, Ok, Err, if◌then◌else◌}
use Rattle.std.specs.Str.{bytes_eq}
use Rattle.jos_base.specs.declared.numbers.TheConstants.{T_SYSCALL, SYS_CPUTS, SYS_ENV_DESTROY, T_SERVICE}
use Rattle.jos_isa.specs.Moves.{mov}
use Rattle.jos_asm.specs.declared.item.Item.TheVariants.{Label, Insn, Address, Bytes}
use Rattle.jos_asm.specs.declared.fault.AsmFault.{AsmFault}
use Rattle.jos_asm.specs.Program.{Program, finished}
use Rattle.jos_demo.specs.declared.code.TheConstants.{TEXT, EAX, ECX, EDX, SERVICE_CPUTS, SERVICE_EXIT}
use Rattle.jos_demo.specs.Code.{int, image}
use Rattle.jos_demo.specs.Pairs.{forkpair, sharepair}
use Rattle.jos_demo.specs.Streams.{echo, cat}

-- on the bare kernel: cputs("hello\n", 6), and env_destroy(0)
unfoldable pub xhello : Program
xhello = record {
  base = TEXT;
  items =
      Insn (mov EAX SYS_CPUTS)
      ∷ Address EDX (codes "text")
      ∷ Insn (mov ECX 6)
      ∷ Insn (int T_SYSCALL)
      ∷ Insn (mov EAX SYS_ENV_DESTROY)
      ∷ Insn (mov EDX 0)
      ∷ Insn (int T_SYSCALL)
      ∷ Label (codes "text")
      ∷ Bytes (codes "hello\n")
      ∷ [];
}

-- under the library: cputs("hello\n", 6), and exit
unfoldable pub hello : Program
hello = record {
  base = TEXT;
  items =
      Insn (mov EAX SERVICE_CPUTS)
      ∷ Address EDX (codes "text")
      ∷ Insn (mov ECX 6)
      ∷ Insn (int T_SERVICE)
      ∷ Insn (mov EAX SERVICE_EXIT)
      ∷ Insn (int T_SERVICE)
      ∷ Label (codes "text")
      ∷ Bytes (codes "hello\n")
      ∷ [];
}

-- the image of a program that has no fault
abbrev pub image_of : Result (List ℕ) AsmFault → Option (List ℕ)
image_of (Ok code) = Some (image code)
image_of (Err fault) = None

-- the program of a name
unfoldable pub program_named : List ℕ → Option Program
program_named name =
    if bytes_eq name (codes "xhello") then Some xhello
    else if bytes_eq name (codes "hello") then Some hello
    else if bytes_eq name (codes "forkpair") then Some forkpair
    else if bytes_eq name (codes "sharepair") then Some sharepair
    else if bytes_eq name (codes "echo") then Some echo
    else if bytes_eq name (codes "cat") then Some cat
    else None

abbrev pub file_of_program : Option Program → Option (List ℕ)
file_of_program None = None
file_of_program (Some program) = image_of (finished program)

-- the file of a name
unfoldable pub file_of : List ℕ → Option (List ℕ)
file_of name = file_of_program (program_named name)
