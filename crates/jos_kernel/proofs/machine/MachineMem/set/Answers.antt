use Rattle.std.proofs.Common.{ap, ◌∙◌}
use Rattle.jos_base.specs.KernelState.{KernelState}
use Rattle.jos_sys.specs.System.{state_of, left_of}
use Rattle.jos_kernel.specs.Running.{user_memory, memory_inside, loaded_in}
use Rattle.jos_kernel.specs.MemoryProofs.{memory_inside_is_lawful}
use Rattle.jos_kernel.proofs.Machines.{still_lawful}
use Rattle.jos_kernel.proofs.machine.MachineMem.set.Goals as goal
use Rattle.std.proofs.lemmas.Bool.{and_parts}

pub store_byte-requires-clause-allowed : goal.store_byte-requires-clause-allowed
unfolding user_memory
store_byte-requires-clause-allowed g c =
    (and_parts (g.F.Fence.inside c.args.va) _ (rw (← c.self.view_is, c.in-Some.is) at c.requires)).1

pub invariant_of-self : goal.invariant_of-self
invariant_of-self g c = still_lawful c.store_byte.ensures.spaces c.store_byte.ensures.in_use c.self.invariant

pub returns-in-Some-clause-after : goal.returns-in-Some-clause-after
unfolding user_memory
returns-in-Some-clause-after g c =
    rw (← c.self.view_is, c.in-Some.is)
    (ap (λ (s : KernelState). loaded_in s c.in-Some.space.directory.0) (c.store_byte.ensures.state (left_of c.self.inside.input)))

pub returns-in-Some-clause-stays : goal.returns-in-Some-clause-stays
unfolding user_memory
returns-in-Some-clause-stays g c =
    rw (← c.self.view_is, c.in-Some.is)
    (ap (λ (s : KernelState). (memory_inside g.F.Fence.inside).allowed (loaded_in s c.in-Some.space.directory.0)) (c.store_byte.ensures.state (left_of c.self.inside.input))
    ∙ (memory_inside_is_lawful g.F.Fence.inside).stored_rights (loaded_in (state_of c.self.inside.system (left_of c.self.inside.input)) c.in-Some.space.directory.0) c.args.va c.args.byte)
