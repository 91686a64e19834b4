use Rattle.std.proofs.Common.{[], ap, ◌∙◌}
use Rattle.jos_base.specs.KernelState.{KernelState, slot_at}
use Rattle.jos_base.specs.Environments.{is_live}
use Rattle.jos_sys.specs.System.{state_of}
use Rattle.jos_elf.specs.Started.{first_registers}
use Rattle.jos_kernel.proofs.ImagesBooted.{booted-no_slot, booted-none, booted-some}
use Rattle.jos_kernel.proofs.boot.boot_image.Goals as goal

pub returns-in-Err-clause-full : goal.returns-in-Err-clause-full
returns-in-Err-clause-full c = λ full input. booted-no_slot c.args.image.now c.args.file.now (state_of c.args.system.now input) c.in-Err.field-0 (c.in-Err.ensures.err input)

pub returns-then-not-load_image-clause-full : goal.returns-then-not-load_image-clause-full
returns-then-not-load_image-clause-full c = λ full input.
    booted-none c.args.image.now c.args.file.now (state_of c.args.system.now input) (state_of c.make_environment.new.self input) (state_of c.load_image.new.system input)
    c.in-Ok.slot c.segments.result.now (c.in-Ok.ensures.ok input) c.segments.ensures (c.if-not-load_image.ensures.loads input)

pub set_registers-requires : goal.set_registers-requires
set_registers-requires c = ap (λ (s : KernelState). is_live (slot_at s c.in-Ok.slot)) (c.if-not-load_image.ensures.loads []).1 ∙ c.in-Ok.ensures.is_live

pub set_status-requires-clause-live : goal.set_status-requires-clause-live
set_status-requires-clause-live c = c.set_registers.ensures.live c.in-Ok.slot
    (ap (λ (s : KernelState). is_live (slot_at s c.in-Ok.slot)) (c.if-not-load_image.ensures.loads []).1 ∙ c.in-Ok.ensures.is_live)

pub returns-clause-booted : goal.returns-clause-booted
returns-clause-booted c = λ done input.
    booted-some c.args.image.now c.args.file.now (state_of c.args.system.now input) (state_of c.make_environment.new.self input) (state_of c.load_image.new.system input)
    c.in-Ok.slot c.segments.result.now (c.in-Ok.ensures.ok input) c.segments.ensures
    (state_of c.set_registers.new.self input) (state_of c.set_status.new.self input) c.first_registers.result (c.if-not-load_image.ensures.loads input)
    (c.first_registers.ensures ∙ ap first_registers c.entry.ensures) (c.set_registers.ensures.state input) (c.set_status.ensures.state input)
