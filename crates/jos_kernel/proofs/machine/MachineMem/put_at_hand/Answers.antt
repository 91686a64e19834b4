use Rattle.std.proofs.Common.{ap, sym, ◌∙◌, arith, ◌≡◌, ◌%◌, ◌+◌, true}
use Rattle.std.specs.Prelude.{nat_le}
use Rattle.std.proofs.lemmas.Bool.Decides.{nat_tests}
use Rattle.jos_sys.specs.declared.system.System.{System}
use Rattle.jos_sys.specs.System.{state_of, left_of}
use Rattle.jos_kernel.specs.Running.{loaded_in}
use Rattle.jos_kernel.proofs.Machines.{byte_lawful, word_lawful}
use Rattle.jos_kernel.specs.MemoryProofs.{memory_inside_is_lawful}
use Rattle.jos_kernel.proofs.UserBytes.{byte_put_inside, word_put_inside, put_rights, put_word_rights, either_rights}
use Rattle.jos_kernel.proofs.machine.MachineMem.put_at_hand.Goals as goal
use Rattle.std.proofs.lemmas.Bool.{and_parts}

pub invariant_of-self : goal.invariant_of-self
invariant_of-self g c =
    byte_lawful _ _ _ _ _ c.put_byte.ensures.spaces c.self.invariant _ _ _ c.put_byte.result c.put_byte.ensures.in_use c.put_byte.ensures.put c.put_byte.ensures.left

pub invariant_of-self-in-Bits32 : goal.invariant_of-self-in-Bits32
invariant_of-self-in-Bits32 g c =
    word_lawful _ _ _ _ _ c.put_word.ensures.spaces c.self.invariant _ _ _ c.put_word.result c.put_word.ensures.in_use c.put_word.ensures.put c.put_word.ensures.left

pub returns-in-Bits8-clause-put : goal.returns-in-Bits8-clause-put
returns-in-Bits8-clause-put g c h =
    let on = sym c.is_inside.ensures ∙ c.if-not-is_inside.false in
    rw (← c.self.view_is, c.in-Some.is, c.in-Bits8.is)
    (byte_put_inside g.F.Fence.inside g.met.F.Fence.pages c.args.va on (omega (arith, c.ranges.va.fits)) _ _ _ _
    (c.put_byte.ensures.still h) (c.put_byte.ensures.put h (left_of c.self.inside.input)))

pub returns-in-Bits8-clause-stays : goal.returns-in-Bits8-clause-stays
returns-in-Bits8-clause-stays g c =
    let on = sym c.is_inside.ensures ∙ c.if-not-is_inside.false in
    let lawful = memory_inside_is_lawful g.F.Fence.inside in
    rw (← c.self.view_is, c.in-Some.is)
    (either_rights lawful _ _ c.put_byte.result
    (λ h. put_rights lawful _ _ _ _ (byte_put_inside g.F.Fence.inside g.met.F.Fence.pages c.args.va on (omega (arith, c.ranges.va.fits)) _ _ _ c.args.value
    (c.put_byte.ensures.still h) (c.put_byte.ensures.put h (left_of c.self.inside.input))))
    (λ h. ap (λ (s : System). loaded_in (state_of s (left_of c.self.inside.input)) c.in-Some.space.directory.0) (c.put_byte.ensures.left h)))

pub returns-in-Bits32-clause-put : goal.returns-in-Bits32-clause-put
returns-in-Bits32-clause-put g c h =
    let on = sym c.is_inside.ensures ∙ c.if-not-is_inside.false in
    let room : nat_le (c.args.va % 4096 + 4) 4096 ≡ true = (and_parts _ _ (sym c.put_word.ensures.exact ∙ h)).0 in
    rw (← c.self.view_is, c.in-Some.is, c.in-Bits32.is)
    (word_put_inside g.F.Fence.inside g.met.F.Fence.pages c.args.va on (omega (arith, c.ranges.va.fits)) _ _ _ _
    (grind (arith, nat_tests)) (c.put_word.ensures.still h) (c.put_word.ensures.put h (left_of c.self.inside.input)))

pub returns-in-Bits32-clause-stays : goal.returns-in-Bits32-clause-stays
returns-in-Bits32-clause-stays g c =
    let on = sym c.is_inside.ensures ∙ c.if-not-is_inside.false in
    let lawful = memory_inside_is_lawful g.F.Fence.inside in
    rw (← c.self.view_is, c.in-Some.is)
    (either_rights lawful _ _ c.put_word.result
    (λ h. (
    let room : nat_le (c.args.va % 4096 + 4) 4096 ≡ true = (and_parts _ _ (sym c.put_word.ensures.exact ∙ h)).0 in
    put_word_rights lawful _ _ _ _ (word_put_inside g.F.Fence.inside g.met.F.Fence.pages c.args.va on (omega (arith, c.ranges.va.fits)) _ _ _ c.args.value
    (grind (arith, nat_tests)) (c.put_word.ensures.still h) (c.put_word.ensures.put h (left_of c.self.inside.input)))))
    (λ h. ap (λ (s : System). loaded_in (state_of s (left_of c.self.inside.input)) c.in-Some.space.directory.0) (c.put_word.ensures.left h)))
