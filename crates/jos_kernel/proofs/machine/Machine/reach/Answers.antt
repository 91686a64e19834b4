use Rattle.std.proofs.Common.{◌≡◌, ℕ, ap, subst, ◌∙◌}
use Rattle.std.specs.Prelude.{IfErr}
use Rattle.jos_base.specs.KernelState.{with_spaces}
use Rattle.jos_base.specs.UserMemory.{is_allowed, fault_at, touched}
use Rattle.jos_sys.specs.System.{state_of, spaces_of, left_of}
use Rattle.jos_kernel.proofs.Machines.{still_lawful}
use Rattle.jos_kernel.proofs.machine.Machine.reach.Goals as goal

pub invariant_of-self : goal.invariant_of-self
invariant_of-self g c = still_lawful c.reach.ensures.spaces c.reach.ensures.in_use c.self.invariant

pub returns-clause-allowed : goal.returns-clause-allowed
returns-clause-allowed g c =
    rw (← c.self.view_is)
    (c.reach.ensures.allowed
    ∙ ap (λ (d : ℕ). is_allowed (spaces_of c.self.inside.system) d c.args.va c.args.access) (c.space-space.ensures.directory (left_of c.self.inside.input)))

pub returns-clause-fault : goal.returns-clause-fault
returns-clause-fault g c =
    rw (← c.self.view_is)
    (subst (λ (d : ℕ). IfErr c.reach.result (λ fault. fault ≡ fault_at (spaces_of c.self.inside.system) d c.args.va c.args.access))
    (c.space-space.ensures.directory (left_of c.self.inside.input)) c.reach.ensures.fault)

pub returns-clause-state : goal.returns-clause-state
returns-clause-state g c =
    let s = state_of c.self.inside.system (left_of c.self.inside.input) in
    rw (← c.self.view_is)
    (subst (λ (d : ℕ). state_of c.reach.new.self (left_of c.self.inside.input) ≡ with_spaces s (touched s.spaces d c.args.va c.args.access))
    (c.space-space.ensures.directory (left_of c.self.inside.input)) (c.reach.ensures.state (left_of c.self.inside.input)))
