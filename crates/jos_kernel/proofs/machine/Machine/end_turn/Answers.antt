use Rattle.std.proofs.Common.{ap, [], ◌∙◌}
use Rattle.jos_base.specs.KernelState.{KernelState}
use Rattle.jos_sys.specs.System.{state_of}
use Rattle.jos_kernel.proofs.Machines.{spaces_lawful, ended_spaces}
use Rattle.jos_kernel.proofs.machine.Machine.end_turn.Goals as goal

pub invariant_of-self : goal.invariant_of-self
invariant_of-self g c =
    spaces_lawful _ _ _ _ _ c.end_turn.ensures.spaces c.self.invariant
    (ap (λ (s : KernelState). s.spaces) (c.end_turn.ensures.state []) ∙ ended_spaces (state_of c.self.inside.system []) c.args.slot)
