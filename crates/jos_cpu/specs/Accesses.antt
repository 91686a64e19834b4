-- What an instruction reaches for in memory, as a function of its form, its fields and the old registers.
-- (Intel 80386 Programmer's Reference Manual, 1986, section 17.2.2, the operation of each instruction.)
use Rattle.std.specs.Prelude.{ℕ, ◌+◌, ◌-◌, ◌%◌, ◌^◌, ◌==◌, ◌&&◌, ◌||◌, Bool, true, false, Option, Some, None}
use Rattle.std.specs.Prelude.{if◌then◌else◌}
use Rattle.jos_base.specs.declared.registers.Regs.{Regs}
use Rattle.jos_base.specs.declared.memory.Access.{Access}
use Rattle.jos_base.specs.declared.memory.Access.TheVariants.{Read, Write}
use Rattle.jos_isa.specs.declared.instruction.Insn.{Insn}
use Rattle.jos_isa.specs.declared.instruction.Operand.{Operand}
use Rattle.jos_isa.specs.declared.instruction.Operand.TheVariants as operand
use Rattle.jos_isa.specs.declared.instruction.Repeat.{Repeat}
use Rattle.jos_isa.specs.declared.instruction.Repeat.TheVariants.{Once, WhileEqual, WhileNot}
use Rattle.jos_alu.specs.declared.width.Width.{Width}
use Rattle.jos_alu.specs.declared.width.Width.TheVariants.{Bits8, Bits16, Bits32}
use Rattle.jos_cpu.specs.declared.forms.Site.{Site}
use Rattle.jos_cpu.specs.declared.forms.Site.TheVariants as place
use Rattle.jos_cpu.specs.declared.forms.StringOperation.{StringOperation}
use Rattle.jos_cpu.specs.declared.forms.StringOperation.TheVariants.{Movs, Cmps, Stos, Lods, Scas}
use Rattle.jos_cpu.specs.declared.forms.Form.{Form}
use Rattle.jos_cpu.specs.declared.forms.Form.TheVariants.{Compute, Exchange, Extend, LoadAddress, LoadFrom, StoreTo}
use Rattle.jos_cpu.specs.declared.forms.Form.TheVariants.{ShiftTwo, Product, Quotient, ExtendAccumulator}
use Rattle.jos_cpu.specs.declared.forms.Form.TheVariants.{ExtendDouble, Push, Pop, PushAll, PopAll, PushFlags}
use Rattle.jos_cpu.specs.declared.forms.Form.TheVariants.{PopFlags, Leave, Branch, Jump, JumpTo, Call, CallTo, Return}
use Rattle.jos_cpu.specs.declared.forms.Form.TheVariants.{Breakpoint, Interrupt, Strings, Flag, Privileged, Nothing}
use Rattle.jos_cpu.specs.declared.accesses.Usage.{Usage}
use Rattle.jos_cpu.specs.declared.accesses.Usage.TheVariants.{Reads, Writes, Changes}
use Rattle.jos_cpu.specs.declared.accesses.AccessAt.{AccessAt}
use Rattle.jos_cpu.specs.declared.accesses.Accesses.{Accesses}
use Rattle.jos_cpu.specs.declared.accesses.Accesses.TheVariants as reach
use Rattle.jos_cpu.specs.Addresses.{address_of}

abbrev pub bytes_in_width : Width → ℕ
bytes_in_width Bits8 = 1
bytes_in_width Bits16 = 2
bytes_in_width Bits32 = 4

abbrev pub is_written : Usage → Bool
is_written Reads = false
is_written Writes = true
is_written Changes = true

abbrev pub is_read : Usage → Bool
is_read Reads = true
is_read Writes = false
is_read Changes = true

abbrev pub access_of : Usage → Access
access_of Reads = Read
access_of Writes = Write
access_of Changes = Write

abbrev pub names_operand : Site → Bool
names_operand place.Operand = true
names_operand _ = false

-- how the operand is used by a target and by a left and a right number; one that is read and written is reached
-- once, for a write
abbrev pub usage_of : Site → Site → Site → Option Usage
usage_of target left right =
    if names_operand target then (if names_operand left || names_operand right then Some Changes else Some Writes)
    else if names_operand left || names_operand right then Some Reads else None

abbrev pub access_at : ℕ → Width → Usage → AccessAt
access_at va width usage = record { va = va; width = width; usage = usage }

-- the operand, if it is in memory
abbrev pub operand_access : Width → Usage → Operand → Regs → Accesses
operand_access width usage (operand.Mem arg) regs = reach.One (access_at (address_of arg regs) width usage)
operand_access width usage (operand.Reg n) regs = reach.None
operand_access width usage operand.Absent regs = reach.None

abbrev pub used_operand : Option Usage → Width → Operand → Regs → Accesses
used_operand None width operand regs = reach.None
used_operand (Some usage) width operand regs = operand_access width usage operand regs

-- ESP less some bytes
abbrev pub below_stack : Regs → ℕ → ℕ
below_stack regs n = (regs.esp + 2 ^ 32 - n) % 2 ^ 32

abbrev pub read_word : ℕ → AccessAt
read_word va = access_at va Bits32 Reads

abbrev pub pushed_word : Regs → AccessAt
pushed_word regs = access_at (below_stack regs 4) Bits32 Writes

-- the operand is read, if it is in memory, and then the stack is written
abbrev pub operand_and_push : Operand → Regs → Accesses
operand_and_push (operand.Mem arg) regs = reach.Two (read_word (address_of arg regs)) (pushed_word regs)
operand_and_push (operand.Reg n) regs = reach.One (pushed_word regs)
operand_and_push operand.Absent regs = reach.One (pushed_word regs)

abbrev pub push_accesses : Site → Operand → Regs → Accesses
push_accesses place operand regs =
    if names_operand place then operand_and_push operand regs else reach.One (pushed_word regs)

-- the stack is read, and then the operand is written, if it is in memory: its address is made with ESP raised
abbrev pub pop_to_operand : Operand → Regs → Accesses
pop_to_operand (operand.Mem arg) regs =
    reach.Two (read_word regs.esp) (access_at (address_of arg (record regs { esp = (regs.esp + 4) % 2 ^ 32 })) Bits32 Writes)
pop_to_operand (operand.Reg n) regs = reach.One (read_word regs.esp)
pop_to_operand operand.Absent regs = reach.One (read_word regs.esp)

abbrev pub pop_accesses : Site → Operand → Regs → Accesses
pop_accesses place operand regs =
    if names_operand place then pop_to_operand operand regs else reach.One (read_word regs.esp)

-- MOVS and CMPS reach for ESI first.
abbrev pub string_accesses : StringOperation → Width → Regs → Accesses
string_accesses Movs width regs = reach.Two (access_at regs.esi width Reads) (access_at regs.edi width Writes)
string_accesses Cmps width regs = reach.Two (access_at regs.esi width Reads) (access_at regs.edi width Reads)
string_accesses Stos width regs = reach.One (access_at regs.edi width Writes)
string_accesses Lods width regs = reach.One (access_at regs.esi width Reads)
string_accesses Scas width regs = reach.One (access_at regs.edi width Reads)

abbrev pub is_repeated : Repeat → Bool
is_repeated Once = false
is_repeated WhileEqual = true
is_repeated WhileNot = true

-- A repeated instruction with ECX 0 does nothing.
abbrev pub is_over : Repeat → Regs → Bool
is_over repeat regs = is_repeated repeat && (regs.ecx == 0)

unfoldable pub accesses_of : Form → Insn → Regs → Accesses
accesses_of (Compute act width target left right) insn regs = used_operand (usage_of target left right) width insn.operand regs
accesses_of (Exchange width other) insn regs = used_operand (usage_of other other place.Nowhere) width insn.operand regs
accesses_of (Extend sign width) insn regs = operand_access width Reads insn.operand regs
accesses_of LoadAddress insn regs = reach.None
accesses_of (LoadFrom width) insn regs = reach.One (access_at insn.imm width Reads)
accesses_of (StoreTo width) insn regs = reach.One (access_at insn.imm width Writes)
accesses_of (ShiftTwo shift count) insn regs = operand_access Bits32 Changes insn.operand regs
accesses_of (Product sign width) insn regs = operand_access width Reads insn.operand regs
accesses_of (Quotient sign width) insn regs = operand_access width Reads insn.operand regs
accesses_of ExtendAccumulator insn regs = reach.None
accesses_of ExtendDouble insn regs = reach.None
accesses_of (Push place) insn regs = push_accesses place insn.operand regs
accesses_of (Pop place) insn regs = pop_accesses place insn.operand regs
accesses_of PushAll insn regs = reach.PushAll (below_stack regs 32)
accesses_of PopAll insn regs = reach.PopAll regs.esp
accesses_of PushFlags insn regs = reach.One (pushed_word regs)
accesses_of PopFlags insn regs = reach.One (read_word regs.esp)
accesses_of Leave insn regs = reach.One (read_word regs.ebp)
accesses_of (Branch condition) insn regs = reach.None
accesses_of Jump insn regs = reach.None
accesses_of JumpTo insn regs = operand_access Bits32 Reads insn.operand regs
accesses_of Call insn regs = reach.One (pushed_word regs)
accesses_of CallTo insn regs = operand_and_push insn.operand regs
accesses_of Return insn regs = reach.One (read_word regs.esp)
accesses_of Breakpoint insn regs = reach.None
accesses_of Interrupt insn regs = reach.None
accesses_of (Strings operation width) insn regs = if is_over insn.repeat regs then reach.None else string_accesses operation width regs
accesses_of (Flag change) insn regs = reach.None
accesses_of Privileged insn regs = reach.None
accesses_of Nothing insn regs = reach.None
