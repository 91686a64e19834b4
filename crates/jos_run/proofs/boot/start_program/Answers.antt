use Rattle.std.proofs.Common.{[], true, false, ap, ◌∙◌, map}
use Rattle.jos_base.specs.KernelState.{KernelState, slot_at}
use Rattle.jos_base.specs.Environments.{is_live}
use Rattle.jos_sys.specs.System.{state_of}
use Rattle.jos_elf.specs.Started.{program_registers}
use Rattle.jos_run.proofs.StackLoaded.{space-none, handler-none, space-loads, started-none, started-some}
use Rattle.jos_run.proofs.boot.start_program.Goals as goal

pub returns-then-not-load_program-clause-full : goal.returns-then-not-load_program-clause-full
returns-then-not-load_program-clause-full c = λ full input.
    started-none c.args.image.now c.args.file.now (map (λ w. w.now) c.args.words.now) (state_of c.args.system.now input)
    (state_of c.make_environment.new.self input)
    (state_of c.load_program.new.system input) c.in-Ok.slot c.segments.result.now (c.in-Ok.ensures.ok input) c.segments.ensures
    (space-none c.segments.result.now c.args.file.now (map (λ w. w.now) c.args.words.now) c.in-Ok.slot
    (state_of c.make_environment.new.self input) (state_of c.load_program.new.system input) (c.if-not-load_program.ensures.loads input))

pub load_handler_stack-requires-clause-live : goal.load_handler_stack-requires-clause-live
load_handler_stack-requires-clause-live c = ap (λ (s : KernelState). is_live (slot_at s c.in-Ok.slot))
    (c.if-not-load_program.ensures.loads []).1 ∙ c.in-Ok.ensures.is_live

pub returns-then-not-load_handler_stack-clause-full : goal.returns-then-not-load_handler_stack-clause-full
returns-then-not-load_handler_stack-clause-full c = λ full input.
    started-none c.args.image.now c.args.file.now (map (λ w. w.now) c.args.words.now) (state_of c.args.system.now input)
    (state_of c.make_environment.new.self input)
    (state_of c.load_handler_stack.new.system input) c.in-Ok.slot c.segments.result.now (c.in-Ok.ensures.ok input) c.segments.ensures
    (handler-none c.segments.result.now c.args.file.now (map (λ w. w.now) c.args.words.now) c.in-Ok.slot
    (state_of c.make_environment.new.self input) (state_of c.load_program.new.system input) (c.if-not-load_program.ensures.loads input)
    (state_of c.load_handler_stack.new.system input) (c.if-not-load_handler_stack.ensures.loads input))

pub load_console-requires-clause-live : goal.load_console-requires-clause-live
load_console-requires-clause-live c =
    ap (λ (s : KernelState). is_live (slot_at s c.in-Ok.slot)) (c.if-not-load_handler_stack.ensures.loads []).1
    ∙ ap (λ (s : KernelState). is_live (slot_at s c.in-Ok.slot)) (c.if-not-load_program.ensures.loads []).1 ∙ c.in-Ok.ensures.is_live

pub returns-then-not-load_console-clause-full : goal.returns-then-not-load_console-clause-full
returns-then-not-load_console-clause-full c = λ full input.
    started-none c.args.image.now c.args.file.now (map (λ w. w.now) c.args.words.now) (state_of c.args.system.now input)
    (state_of c.make_environment.new.self input)
    (state_of c.load_console.new.system input) c.in-Ok.slot c.segments.result.now (c.in-Ok.ensures.ok input) c.segments.ensures
    (space-loads c.segments.result.now c.args.file.now (map (λ w. w.now) c.args.words.now) c.in-Ok.slot
    (state_of c.make_environment.new.self input) (state_of c.load_program.new.system input) (c.if-not-load_program.ensures.loads input)
    (state_of c.load_handler_stack.new.system input) (c.if-not-load_handler_stack.ensures.loads input)
    false (state_of c.load_console.new.system input) (c.if-not-load_console.ensures.loads input))

pub set_registers-requires : goal.set_registers-requires
set_registers-requires c =
    ap (λ (s : KernelState). is_live (slot_at s c.in-Ok.slot)) (c.if-not-load_console.ensures.loads []).1
    ∙ ap (λ (s : KernelState). is_live (slot_at s c.in-Ok.slot)) (c.if-not-load_handler_stack.ensures.loads []).1
    ∙ ap (λ (s : KernelState). is_live (slot_at s c.in-Ok.slot)) (c.if-not-load_program.ensures.loads []).1 ∙ c.in-Ok.ensures.is_live

pub set_upcall-requires : goal.set_upcall-requires
set_upcall-requires c = record {
  live = c.set_registers.ensures.live c.in-Ok.slot
      (ap (λ (s : KernelState). is_live (slot_at s c.in-Ok.slot)) (c.if-not-load_console.ensures.loads []).1
      ∙ ap (λ (s : KernelState). is_live (slot_at s c.in-Ok.slot)) (c.if-not-load_handler_stack.ensures.loads []).1
      ∙ ap (λ (s : KernelState). is_live (slot_at s c.in-Ok.slot)) (c.if-not-load_program.ensures.loads []).1
      ∙ c.in-Ok.ensures.is_live);
}

pub set_status-requires-clause-live : goal.set_status-requires-clause-live
set_status-requires-clause-live c = c.set_upcall.ensures.live c.in-Ok.slot (c.set_registers.ensures.live c.in-Ok.slot
    (ap (λ (s : KernelState). is_live (slot_at s c.in-Ok.slot)) (c.if-not-load_console.ensures.loads []).1
    ∙ ap (λ (s : KernelState). is_live (slot_at s c.in-Ok.slot)) (c.if-not-load_handler_stack.ensures.loads []).1
    ∙ ap (λ (s : KernelState). is_live (slot_at s c.in-Ok.slot)) (c.if-not-load_program.ensures.loads []).1 ∙ c.in-Ok.ensures.is_live))

pub returns-clause-booted : goal.returns-clause-booted
returns-clause-booted c = λ done input.
    started-some c.args.image.now c.args.file.now (map (λ w. w.now) c.args.words.now) (state_of c.args.system.now input)
    (state_of c.make_environment.new.self input)
    (state_of c.load_console.new.system input) c.in-Ok.slot c.segments.result.now (c.in-Ok.ensures.ok input) c.segments.ensures
    (state_of c.set_registers.new.self input) (state_of c.set_upcall.new.self input) (state_of c.set_status.new.self input)
    c.program_registers.result
    (space-loads c.segments.result.now c.args.file.now (map (λ w. w.now) c.args.words.now) c.in-Ok.slot
    (state_of c.make_environment.new.self input) (state_of c.load_program.new.system input) (c.if-not-load_program.ensures.loads input)
    (state_of c.load_handler_stack.new.system input) (c.if-not-load_handler_stack.ensures.loads input)
    true (state_of c.load_console.new.system input) (c.if-not-load_console.ensures.loads input))
    (c.program_registers.ensures ∙ ap (λ n. program_registers n (map (λ w. w.now) c.args.words.now)) c.entry.ensures)
    (c.set_registers.ensures.state input) (c.set_upcall.ensures.state input) (c.set_status.ensures.state input)
