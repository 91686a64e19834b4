use Rattle.std.proofs.Common.{[], ap, ◌∙◌, map}
use Rattle.jos_base.specs.KernelState.{KernelState, slot_at}
use Rattle.jos_base.specs.Environments.{is_live}
use Rattle.jos_sys.specs.System.{state_of}
use Rattle.jos_run.proofs.StackLoaded.{program-none, program-loads}
use Rattle.jos_run.proofs.boot.load_program.Goals as goal

pub returns-then-not-load_pages-clause-loads : goal.returns-then-not-load_pages-clause-loads
returns-then-not-load_pages-clause-loads c = λ input.
    program-none c.args.segments.now c.args.file.now (map (λ w. w.now) c.args.words.now) c.args.slot (state_of c.args.system.now input)
    (state_of c.load_pages.new.system input) (c.if-not-load_pages.ensures.loads input)

pub load_stack-requires-clause-live : goal.load_stack-requires-clause-live
load_stack-requires-clause-live c = ap (λ (s : KernelState). is_live (slot_at s c.args.slot))
    (c.if-not-load_pages.ensures.loads []).1 ∙ c.requires.live

pub returns-clause-loads : goal.returns-clause-loads
returns-clause-loads c = λ input.
    program-loads c.args.segments.now c.args.file.now (map (λ w. w.now) c.args.words.now) c.args.slot (state_of c.args.system.now input)
    (state_of c.load_pages.new.system input) (c.if-not-load_pages.ensures.loads input) c.load_stack.result
    (state_of c.load_stack.new.system input)
    (c.load_stack.ensures.loads input)
