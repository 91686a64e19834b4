use Rattle.std.proofs.Common.{◌∙◌, ap, refl}
use Rattle.jos_base.specs.declared.registers.Regs.{Regs}
use Rattle.jos_base.specs.KernelState.{with_registers}
use Rattle.jos_sys.specs.System.{state_of}
use Rattle.jos_sys.proofs.system.System.answer.Goals as goal

pub returns-clause-state : goal.returns-clause-state
returns-clause-state c = λ input. (
  c.set_registers.ensures.state input
      ∙ ap (λ (r : Regs). with_registers (state_of c.args.self.now input) c.args.current (record r { eax = c.args.value })) (c.registers-registers.ensures input),
  refl,
  refl,
  refl,
)

pub returns-clause-spaces : goal.returns-clause-spaces
returns-clause-spaces c = c.set_registers.ensures.spaces c.requires.spaces
