use Rattle.std.proofs.Common.{◌∙◌, [], ap, refl}
use Rattle.jos_base.specs.Environments.{is_live}
use Rattle.jos_base.specs.KernelState.{KernelState, slot_at}
use Rattle.jos_sys.specs.System.{state_of}
use Rattle.jos_run.proofs.StackLoaded.{console-none, console-loads}
use Rattle.jos_run.proofs.boot.load_console.Goals as goal

pub returns-in-None-clause-loads : goal.returns-in-None-clause-loads
returns-in-None-clause-loads c = λ input.
    console-none c.args.slot (state_of c.args.system.now input) (state_of c.allocate.new.self input) (c.in-None.ensures.rest input)
    (c.in-None.ensures.none refl)

pub insert-requires-clause-live : goal.insert-requires-clause-live
insert-requires-clause-live c =
    ap (λ (s : KernelState). is_live (slot_at s c.args.slot)) (c.fill.ensures.state [])
    ∙ ap (λ (s : KernelState). is_live (slot_at s c.args.slot)) (c.in-Some.ensures.rest []) ∙ c.requires.live

pub returns-in-Some-clause-loads : goal.returns-in-Some-clause-loads
returns-in-Some-clause-loads c = λ input.
    console-loads c.args.slot (state_of c.args.system.now input) (state_of c.allocate.new.self input) (c.in-Some.ensures.rest input)
    (state_of c.fill.new.self input) (state_of c.insert.new.self input) c.in-Some.frame.0 _ c.in-Some.ensures.some c.in-Some.ensures.zero
    (c.as_slice.ensures.value ∙ c.console_bytes-bytes.ensures.bytes) (c.fill.ensures.state input) (c.insert.ensures.rest input)
    c.is_ok.result c.insert.result c.is_ok.ensures.value c.insert.ensures.ok c.insert.ensures.empty
