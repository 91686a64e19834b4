use Rattle.std.proofs.Common.{◌≡◌, ℕ, true, subst, sym}
use Rattle.jos_base.specs.declared.memory.Access.TheVariants.{Write}
use Rattle.jos_base.specs.KernelState.{slot_at, with_spaces}
use Rattle.jos_base.specs.UserMemory.{is_allowed, stored_byte}
use Rattle.jos_sys.specs.System.{state_of, spaces_of, left_of}
use Rattle.jos_kernel.specs.Machine.{Parts, kernel_state}
use Rattle.jos_kernel.proofs.Machines.{still_lawful}
use Rattle.jos_kernel.proofs.machine.Machine.store_byte.Goals as goal

pub store_byte-requires-clause-allowed : goal.store_byte-requires-clause-allowed
store_byte-requires-clause-allowed g c =
    subst (λ (d : ℕ). is_allowed (spaces_of c.self.inside.system) d c.args.va Write ≡ true)
    (sym (c.space-space.ensures.directory (left_of c.self.inside.input)))
    (subst (λ (m : Parts). is_allowed (kernel_state m).spaces (slot_at (kernel_state m) c.args.slot).directory c.args.va Write ≡ true)
    (sym c.self.view_is) c.requires.allowed)

pub invariant_of-self : goal.invariant_of-self
invariant_of-self g c = still_lawful c.store_byte.ensures.spaces c.store_byte.ensures.in_use c.self.invariant

pub returns : goal.returns
returns g c =
    let s = state_of c.self.inside.system (left_of c.self.inside.input) in
    rw (← c.self.view_is)
    (subst (λ (d : ℕ). state_of c.store_byte.new.self (left_of c.self.inside.input) ≡ with_spaces s (stored_byte s.spaces d c.args.va c.args.byte))
    (c.space-space.ensures.directory (left_of c.self.inside.input)) (c.store_byte.ensures.state (left_of c.self.inside.input)))
