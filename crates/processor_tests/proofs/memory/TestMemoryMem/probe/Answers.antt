use Rattle.std.proofs.Common.{◌≡◌, ℕ, ◌+◌, ◌-◌, ◌%◌, ◌^◌, ◌∙◌, Bool, true, false, refl, sym, ap, arith, if◌then◌else◌}
use Rattle.std.specs.Prelude.{Some}
use Rattle.std.proofs.lemmas.Bool.Decides.{nat_tests}
use Rattle.jos_base.specs.declared.memory.Access.{Access}
use Rattle.jos_base.specs.declared.memory.Access.TheVariants.{Read, Write}
use Rattle.jos_cpu.specs.Memory.{Probed}
use Rattle.jos_cpu.specs.declared.memory.MemFault.{MemFault}
use Rattle.processor_tests.specs.declared.memory.TestMemory.{TestMemory}
use Rattle.processor_tests.specs.TestMemory.{test_memory_allows, test_memory_table}
use Rattle.jos_cpu.proofs.Probing.{at_start, on_byte, on_refused, at_end}
use Rattle.processor_tests.proofs.memory.TestMemoryMem.probe.Goals as goal

-- what may be written may be read
readable : (base locked va : ℕ) (access : Access) → test_memory_allows base locked 128 va access ≡ true → test_memory_allows base locked 128 va Read ≡ true
readable base locked va Read h = h
readable base locked va Write h = grind (arith, nat_tests)

pub loop-init : goal.loop-init
loop-init c = at_start test_memory_table _ _ _ _ _ (omega arith)

pub returns-then-not-allows-clause-after : goal.returns-then-not-allows-clause-after
returns-then-not-allows-clause-after c =
    (on_refused c.loop.invariant (c.args.len - (c.loop.counter + 1)) (omega arith) (sym c.if-not-allows.ensures)).0
    ∙ ap (λ (f : MemFault). let p : Probed TestMemory = record { memory = c.loop.self; refusal = Some f } in p) (sym c.test_memory_fault.ensures)

pub returns-then-not-allows-clause-exact : goal.returns-then-not-allows-clause-exact
returns-then-not-allows-clause-exact c =
    (on_refused c.loop.invariant (c.args.len - (c.loop.counter + 1)) (omega arith) (sym c.if-not-allows.ensures)).1

pub returns-then-not-allows-clause-stays : goal.returns-then-not-allows-clause-stays
returns-then-not-allows-clause-stays c = c.loop.invariant.stays

-- reaching a byte changes no right
stays : (w : TestMemory) (va : ℕ) (access : Access) → test_memory_table.allowed (test_memory_table.reached w va access) ≡ test_memory_table.allowed w
stays w va access = by_test w.standing
  where
    by_test : (standing : Bool) → test_memory_table.allowed (if standing then w else record w { touched = (w.touched + 1) % 2 ^ 32 }) ≡ test_memory_table.allowed w
    by_test true = refl
    by_test false = refl

pub loop-preserved : goal.loop-preserved
loop-preserved c =
    let allowed = sym c.if-not-allows.ensures in
    rw c.touch.ensures (on_byte c.loop.invariant (c.args.len - (c.loop.counter + 1)) (omega arith) allowed (readable _ _ _ _ allowed) (stays c.loop.self c.loop.at c.args.access))

pub returns-clause-after : goal.returns-clause-after
returns-clause-after c = (at_end c.loop.invariant (omega arith)).0

pub returns-clause-exact : goal.returns-clause-exact
returns-clause-exact c = (at_end c.loop.invariant (omega arith)).1

pub returns-clause-readable : goal.returns-clause-readable
returns-clause-readable c = (at_end c.loop.invariant (omega arith)).2

pub returns-clause-stays : goal.returns-clause-stays
returns-clause-stays c = c.loop.invariant.stays
