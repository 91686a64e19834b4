-- What an instruction writes is one stretch of at most 32 bytes, and so lies in two pages at most.
use Rattle.std.proofs.Common.{◌≡◌, ◌⊎◌, inl, inr, ℕ, ◌+◌, ◌%◌, ◌^◌, ◌<◌, ◌≤◌, zero, suc, Bool, true, false, refl, arith}
use Rattle.std.proofs.Common.{Option, None, Some, List, [], ◌∷◌, ◌∙◌, if◌then◌else◌}
use Rattle.std.proofs.lemmas.Bool.{cases_lt}
use Rattle.jos_base.specs.declared.memory.Access.TheVariants.{Read, Write}
use Rattle.jos_base.specs.declared.registers.Regs.{Regs}
use Rattle.jos_base.specs.Words.{page_number}
use Rattle.jos_isa.specs.declared.instruction.Insn.{Insn}
use Rattle.jos_isa.specs.declared.instruction.Operand.{Operand}
use Rattle.jos_isa.specs.declared.instruction.Operand.TheVariants as operand
use Rattle.jos_alu.specs.declared.width.Width.{Width}
use Rattle.jos_alu.specs.declared.width.Width.TheVariants.{Bits8, Bits16, Bits32}
use Rattle.jos_cpu.specs.declared.accesses.Accesses.{Accesses}
use Rattle.jos_cpu.specs.declared.accesses.Accesses.TheVariants as reach
use Rattle.jos_cpu.specs.declared.accesses.Usage.{Usage}
use Rattle.jos_cpu.specs.declared.accesses.Usage.TheVariants.{Reads, Changes}
use Rattle.jos_cpu.specs.declared.forms.Form.{Form}
use Rattle.jos_cpu.specs.declared.forms.Form.TheVariants.{Compute, Exchange, Extend, LoadAddress, LoadFrom, StoreTo}
use Rattle.jos_cpu.specs.declared.forms.Form.TheVariants.{ShiftTwo, Product, Quotient, ExtendAccumulator}
use Rattle.jos_cpu.specs.declared.forms.Form.TheVariants.{ExtendDouble, Push, Pop, PushAll, PopAll, PushFlags}
use Rattle.jos_cpu.specs.declared.forms.Form.TheVariants.{PopFlags, Leave, Branch, Jump, JumpTo, Call, CallTo, Return}
use Rattle.jos_cpu.specs.declared.forms.Form.TheVariants.{Breakpoint, Interrupt, Strings, Flag, Privileged, Nothing}
use Rattle.jos_cpu.specs.declared.forms.StringOperation.{StringOperation}
use Rattle.jos_cpu.specs.declared.forms.StringOperation.TheVariants.{Movs, Cmps, Stos, Lods, Scas}
use Rattle.jos_cpu.specs.Accesses.{bytes_in_width, access_of, usage_of, operand_access, used_operand, names_operand, operand_and_push}
use Rattle.jos_cpu.specs.Accesses.{pop_to_operand, string_accesses, is_over, accesses_of}
use Rattle.jos_cpu.specs.Forms.{form_of}
use Rattle.jos_cpu.specs.Memory.{after}
use Rattle.jos_cpu.specs.Probes.{Probe, probes_of}
use Rattle.jos_cpu.specs.Steps.{accesses, probes}
use Rattle.jos_cpu.proofs.Agreement.{IsAmong, IsProbed}

-- ---- of two accesses the first reads

abbrev FirstReads : Accesses → Type 0
FirstReads (reach.Two r s) = access_of r.usage ≡ Read
FirstReads _ = Unit {0}

by_test : (c : Bool) (a b : Accesses) → FirstReads a → FirstReads b → FirstReads (if c then a else b)
by_test true a b h k = h
by_test false a b h k = k

of_operand : (width : Width) (usage : Usage) (op : Operand) (regs : Regs) → FirstReads (operand_access width usage op regs)
of_operand width usage (operand.Mem arg) regs = tt
of_operand width usage (operand.Reg n) regs = tt
of_operand width usage operand.Absent regs = tt

of_used : (o : Option Usage) (width : Width) (op : Operand) (regs : Regs) → FirstReads (used_operand o width op regs)
of_used None width op regs = tt
of_used (Some usage) width op regs = of_operand width usage op regs

of_push : (op : Operand) (regs : Regs) → FirstReads (operand_and_push op regs)
of_push (operand.Mem arg) regs = refl
of_push (operand.Reg n) regs = tt
of_push operand.Absent regs = tt

of_pop : (op : Operand) (regs : Regs) → FirstReads (pop_to_operand op regs)
of_pop (operand.Mem arg) regs = refl
of_pop (operand.Reg n) regs = tt
of_pop operand.Absent regs = tt

of_string : (operation : StringOperation) (width : Width) (regs : Regs) → FirstReads (string_accesses operation width regs)
of_string Movs width regs = refl
of_string Cmps width regs = refl
of_string Stos width regs = tt
of_string Lods width regs = tt
of_string Scas width regs = tt

of_form : (form : Form) (insn : Insn) (regs : Regs) → FirstReads (accesses_of form insn regs)
unfolding accesses_of
of_form (Compute act width target left right) insn regs = of_used (usage_of target left right) width insn.operand regs
of_form (Exchange width other) insn regs = of_used _ width insn.operand regs
of_form (Extend sign width) insn regs = of_operand width Reads insn.operand regs
of_form LoadAddress insn regs = tt
of_form (LoadFrom width) insn regs = tt
of_form (StoreTo width) insn regs = tt
of_form (ShiftTwo shift count) insn regs = of_operand Bits32 Changes insn.operand regs
of_form (Product sign width) insn regs = of_operand width Reads insn.operand regs
of_form (Quotient sign width) insn regs = of_operand width Reads insn.operand regs
of_form ExtendAccumulator insn regs = tt
of_form ExtendDouble insn regs = tt
of_form (Push source) insn regs = by_test (names_operand source) _ _ (of_push insn.operand regs) tt
of_form (Pop target) insn regs = by_test (names_operand target) _ _ (of_pop insn.operand regs) tt
of_form PushAll insn regs = tt
of_form PopAll insn regs = tt
of_form PushFlags insn regs = tt
of_form PopFlags insn regs = tt
of_form Leave insn regs = tt
of_form (Branch condition) insn regs = tt
of_form Jump insn regs = tt
of_form JumpTo insn regs = of_operand Bits32 Reads insn.operand regs
of_form Call insn regs = tt
of_form CallTo insn regs = of_push insn.operand regs
of_form Return insn regs = tt
of_form Breakpoint insn regs = tt
of_form Interrupt insn regs = tt
of_form (Strings operation width) insn regs = by_test (is_over insn.repeat regs) _ _ tt (of_string operation width regs)
of_form (Flag change) insn regs = tt
of_form Privileged insn regs = tt
of_form Nothing insn regs = tt

-- ---- the stretch

-- All that the probes test for a write is among so many bytes from an address upwards.
pub record WritesWithin (ps : List Probe) : Type 0 where
  pub va : ℕ
  pub len : ℕ
  pub short : len ≤ 32
  pub each : (q : ℕ) → IsProbed ps q Write → IsAmong va len q

width_short : (width : Width) → bytes_in_width width ≤ 32
width_short Bits8 = omega arith
width_short Bits16 = omega arith
width_short Bits32 = omega arith

one_probe : (p : Probe) → p.len ≤ 32 → WritesWithin (p ∷ [])
one_probe p short = record { va = p.va; len = p.len; short = short; each = λ q k. among q k }
  where
    among : (q : ℕ) → IsProbed (p ∷ []) q Write → IsAmong p.va p.len q
    among q (inl k) = k.1
    among q (inr k) = absurd k

of_accesses : (a : Accesses) → FirstReads a → WritesWithin (probes_of a)
of_accesses reach.None h = record { va = 0; len = 0; short = omega arith; each = λ q k. k }
of_accesses (reach.One r) h = one_probe _ (width_short r.width)
of_accesses (reach.Two r s) h = record { va = s.va; len = bytes_in_width s.width; short = width_short s.width; each = λ q k. among q k }
  where
    among : (q : ℕ) → IsProbed (probes_of (reach.Two r s)) q Write → IsAmong s.va (bytes_in_width s.width) q
    among q (inl k) = let e : Write ≡ Read = k.0 ∙ h in absurd cc
    among q (inr (inl k)) = k.1
    among q (inr (inr k)) = absurd k
of_accesses (reach.PushAll va) h = one_probe _ (omega arith)
of_accesses (reach.PopAll va) h = one_probe _ (omega arith)

pub writes_within : (insn : Insn) (regs : Regs) → WritesWithin (probes insn regs)
unfolding accesses
writes_within insn regs = of_accesses (accesses_of (form_of insn.row) insn regs) (of_form (form_of insn.row) insn regs)

-- ---- its pages

-- what is among some bytes is so far from the first
pub among_at : (n va q : ℕ) → IsAmong va n q → (i : ℕ) × (i < n) × (q % 2 ^ 32 ≡ (va + i) % 2 ^ 32)
among_at zero va q k = absurd k
among_at (suc n) va q (inl e) = (0, omega arith, omega (arith, e))
among_at (suc n) va q (inr k) =
    let r = among_at n (after va) q k in
    (suc r.0, omega (arith, r.1), omega (arith, r.2))

-- It is in the page of the first or in that of the last of 32 bytes.
in_two_pages : (n va q : ℕ) → n ≤ 32 → q < 2 ^ 32 → IsAmong va n q →
    (page_number q ≡ page_number (va % 2 ^ 32)) ⊎ (page_number q ≡ page_number ((va + 31) % 2 ^ 32))
in_two_pages n va q short small k =
    let r = among_at n va q k in
    elim (cases_lt (va % 4096 + r.0) 4096) [
      | inl below ↦ inl (omega (arith, r.1, r.2))
      | inr past ↦ inr (omega (arith, r.1, r.2))
    ]

-- The pages that an instruction writes: two at most, by their numbers.
pub record WrittenPages (insn : Insn) (regs : Regs) : Type 0 where
  pub first : ℕ
  pub second : ℕ
  pub each : (q : ℕ) → q < 2 ^ 32 → IsProbed (probes insn regs) q Write → (page_number q ≡ first) ⊎ (page_number q ≡ second)

pub written_pages : (insn : Insn) (regs : Regs) → WrittenPages insn regs
written_pages insn regs =
    let w = writes_within insn regs in record {
      first = page_number (w.va % 2 ^ 32);
      second = page_number ((w.va + 31) % 2 ^ 32);
      each = λ q small k. in_two_pages w.len w.va q w.short small (w.each q k);
    }
