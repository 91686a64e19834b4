-- Each program has no fault.
use Rattle.std.proofs.Common.{◌≡◌, ℕ, ◌<◌, Bool, true, false, List, length, Some, None, Ok, Result, refl, sym, ap}
use Rattle.std.proofs.Common.{◌∙◌, ◌||◌, subst, cond, arith, Option, true≢false}
use Rattle.std.specs.Prelude.{codes, is_some, IsOk}
use Rattle.std.specs.Str.{bytes_eq}
use Rattle.jos_isa.specs.OpcodeMap.{format_at, opcode_entry, from_00, from_40, from_70, from_a0, from_b0, from_d0, of_group, choice_of}
use Rattle.jos_isa.specs.RowOpcodes.{opcode_of, format_in, field_of, digit_of}
use Rattle.jos_isa.specs.Lawful.{format_for}
use Rattle.jos_isa.specs.Encoding.{encoded, immediate_bytes, opcode_bytes, operand_bytes, disp_bytes, chosen_bytes, format_bytes}
use Rattle.jos_asm.specs.declared.fault.AsmFault.{AsmFault}
use Rattle.jos_asm.specs.Program.{Program, finished, length_of_all, place_from, first_twice, first_unknown, first_far}
use Rattle.jos_asm.specs.Program.{spelled_from}
use Rattle.jos_demo.specs.Pairs.{forkpair, sharepair}
use Rattle.jos_demo.specs.Streams.{echo, cat}
use Rattle.jos_demo.specs.Programs.{xhello, hello, program_named, image_of, file_of_program, file_of}

abbrev ok : List ℕ → Result (List ℕ) AsmFault
ok = Ok

-- the program has code
abbrev pub HasCode : Program → Type 0
HasCode p = (code : List ℕ) × (finished p ≡ Ok code) × (0 < length code)

xhello_code : HasCode xhello
unfolding xhello finished length_of_all place_from first_twice first_unknown first_far spelled_from encoded opcode_bytes format_bytes immediate_bytes format_for format_in opcode_of opcode_entry format_at from_b0
xhello_code = (_, refl, omega arith)

hello_code : HasCode hello
unfolding hello finished length_of_all place_from first_twice first_unknown first_far spelled_from encoded opcode_bytes format_bytes immediate_bytes format_for format_in opcode_of opcode_entry format_at from_b0
hello_code = (_, refl, omega arith)

forkpair_code : HasCode forkpair
unfolding forkpair finished length_of_all place_from first_twice first_unknown first_far spelled_from encoded opcode_bytes format_bytes immediate_bytes operand_bytes disp_bytes chosen_bytes choice_of of_group field_of digit_of format_for format_in opcode_of opcode_entry format_at from_40 from_70 from_a0 from_b0 from_d0
forkpair_code = (_, refl, omega arith)

sharepair_code : HasCode sharepair
unfolding sharepair finished length_of_all place_from first_twice first_unknown first_far spelled_from encoded opcode_bytes format_bytes immediate_bytes operand_bytes disp_bytes chosen_bytes choice_of of_group field_of digit_of format_for format_in opcode_of opcode_entry format_at from_40 from_70 from_a0 from_b0 from_d0
sharepair_code = (_, refl, omega arith)

echo_code : HasCode echo
unfolding echo finished length_of_all place_from first_twice first_unknown first_far spelled_from encoded opcode_bytes format_bytes immediate_bytes operand_bytes disp_bytes chosen_bytes choice_of of_group field_of digit_of format_for format_in opcode_of opcode_entry format_at from_00 from_40 from_70 from_a0 from_b0 from_d0
echo_code = (_, refl, omega arith)

cat_code : HasCode cat
unfolding cat finished length_of_all place_from first_twice first_unknown first_far spelled_from encoded opcode_bytes format_bytes immediate_bytes operand_bytes disp_bytes chosen_bytes choice_of of_group field_of digit_of format_for format_in opcode_of opcode_entry format_at from_00 from_40 from_70 from_a0 from_b0 from_d0
cat_code = (_, refl, omega arith)

-- the program of a name that is the first one's, or the second one's, and so on
abbrev chosen : Bool → Bool → Bool → Bool → Bool → Bool → Option Program
chosen first second third fourth fifth sixth =
    cond first (Some xhello) (cond second (Some hello) (cond third (Some forkpair) (cond fourth (Some sharepair)
    (cond fifth (Some echo) (cond sixth (Some cat) None)))))

pub named_code : (name : List ℕ) (p : Program) → program_named name ≡ Some p → HasCode p
unfolding program_named
named_code name p =
    go (bytes_eq name (codes "xhello")) (bytes_eq name (codes "hello"))
    (bytes_eq name (codes "forkpair")) (bytes_eq name (codes "sharepair"))
    (bytes_eq name (codes "echo")) (bytes_eq name (codes "cat"))
  where
    some : (a b : Program) → Some a ≡ Some b → a ≡ b
    some a b e = cc

    go : (first second third fourth fifth sixth : Bool) → chosen first second third fourth fifth sixth ≡ Some p → HasCode p
    go true second third fourth fifth sixth e = subst HasCode (some xhello p e) xhello_code
    go false true third fourth fifth sixth e = subst HasCode (some hello p e) hello_code
    go false false true fourth fifth sixth e = subst HasCode (some forkpair p e) forkpair_code
    go false false false true fifth sixth e = subst HasCode (some sharepair p e) sharepair_code
    go false false false false true sixth e = subst HasCode (some echo p e) echo_code
    go false false false false false true e = subst HasCode (some cat p e) cat_code
    go false false false false false false e = absurd cc

pub code_is_ok : (p : Program) → HasCode p → IsOk (finished p)
code_is_ok p h = rw h.1 refl

pub code_some : (p : Program) (code : List ℕ) → HasCode p → finished p ≡ Ok code → 0 < length code
code_some p code h is = rw (same (h.0) code (sym h.1 ∙ is)) h.2
  where
    same : (a b : List ℕ) → ok a ≡ ok b → b ≡ a
    same a b e = cc

-- a program has this name
abbrev pub is_named : List ℕ → Bool
is_named name =
    bytes_eq name (codes "xhello") || bytes_eq name (codes "hello")
    || bytes_eq name (codes "forkpair") || bytes_eq name (codes "sharepair")
    || bytes_eq name (codes "echo") || bytes_eq name (codes "cat")

pub named_file : (name : List ℕ) → is_named name ≡ is_some (file_of name)
unfolding file_of program_named
named_file name =
    go (bytes_eq name (codes "xhello")) (bytes_eq name (codes "hello"))
    (bytes_eq name (codes "forkpair")) (bytes_eq name (codes "sharepair"))
    (bytes_eq name (codes "echo")) (bytes_eq name (codes "cat"))
  where
    has : (p : Program) → HasCode p → true ≡ is_some (file_of_program (Some p))
    has p h = ap (λ answer. is_some (image_of answer)) (sym h.1)

    go : (first second third fourth fifth sixth : Bool)
        → (first || second || third || fourth || fifth || sixth) ≡ is_some (file_of_program (chosen first second third fourth fifth sixth))
    go true second third fourth fifth sixth = has xhello xhello_code
    go false true third fourth fifth sixth = has hello hello_code
    go false false true fourth fifth sixth = has forkpair forkpair_code
    go false false false true fifth sixth = has sharepair sharepair_code
    go false false false false true sixth = has echo echo_code
    go false false false false false true = has cat cat_code
    go false false false false false false = refl

-- a name without a file is that of no program
pub no_program : (name : List ℕ) → is_some (file_of name) ≡ false → program_named name ≡ None
unfolding program_named
no_program name none =
    go (bytes_eq name (codes "xhello")) (bytes_eq name (codes "hello"))
    (bytes_eq name (codes "forkpair")) (bytes_eq name (codes "sharepair"))
    (bytes_eq name (codes "echo")) (bytes_eq name (codes "cat")) (named_file name ∙ none)
  where
    go : (first second third fourth fifth sixth : Bool)
        → (first || second || third || fourth || fifth || sixth) ≡ false → chosen first second third fourth fifth sixth ≡ None
    go true second third fourth fifth sixth e = absurd (true≢false e)
    go false true third fourth fifth sixth e = absurd (true≢false e)
    go false false true fourth fifth sixth e = absurd (true≢false e)
    go false false false true fifth sixth e = absurd (true≢false e)
    go false false false false true sixth e = absurd (true≢false e)
    go false false false false false true e = absurd (true≢false e)
    go false false false false false false e = refl
