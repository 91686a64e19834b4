use Rattle.jos_base.specs.declared.errno.Errno.TheVariants.{NoMem}
use Rattle.jos_sys.specs.System.{state_of}
use Rattle.jos_sys.proofs.Answering.{refused_in}
use Rattle.jos_sys.proofs.system.System.refuse_frame.Goals as goal

pub returns-clause-state : goal.returns-clause-state
returns-clause-state c = λ input.
    refused_in _ _ (state_of c.refuse.new.self input) c.args.current c.refuse.result NoMem
    (λ i. record (state_of c.args.self.now input) { refusals = c.saturating_add-self.ensures i }) (c.refuse.ensures.state input)
