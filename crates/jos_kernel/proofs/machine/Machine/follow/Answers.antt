use Rattle.std.proofs.Common.{None, true, sym, ap, refl, ◌≡◌, ◌∙◌, ℕ}
use Rattle.jos_host.specs.Frames.{around}
use Rattle.jos_base.specs.Environments.{is_live}
use Rattle.jos_base.specs.KernelState.{KernelState, slot_at, with_registers}
use Rattle.jos_base.specs.SystemCalls.{system_call}
use Rattle.jos_base.specs.declared.numbers.TheConstants.{T_BRKPT}
use Rattle.jos_kernel.specs.Machine.{kernel_state}
use Rattle.jos_kernel.specs.Steps.{after_call, after_event, after_trap}
use Rattle.jos_kernel.proofs.Following.{done_follows, failed_follows, same_step, gains_nothing}
use Rattle.jos_kernel.proofs.Following.{after_system_call, after_breakpoint, registers_there, live_there}
use Rattle.jos_kernel.proofs.machine.Machine.follow.Given as given
use Rattle.jos_kernel.proofs.machine.Machine.follow.Goals as goal
use Rattle.jos_kernel.proofs.machine.Machine.follow.Goals.{After-call, After-set_registers}

-- the registers are set
set : (g : given.Over) (c : After-set_registers g) → kernel_state c.set_registers.new.self ≡ with_registers (kernel_state c.args.self.now) c.args.slot c.args.registers
set g c = c.set_registers.ensures ∙ (λ i. with_registers (c.unload.ensures.state i) c.args.slot c.args.registers)

-- where the environment stands then
eip_is : (g : given.Over) (c : After-set_registers g) → (slot_at (kernel_state c.set_registers.new.self) c.args.slot).registers.eip ≡ c.args.registers.eip
eip_is g c = λ i. (registers_there _ (kernel_state c.args.self.now) c.args.slot c.args.registers (set g c) i).eip

-- it is live
lives : (g : given.Over) (c : After-set_registers g) → is_live (slot_at (kernel_state c.set_registers.new.self) c.args.slot) ≡ true
lives g c = live_there _ (kernel_state c.args.self.now) c.args.slot c.args.registers (set g c) c.requires.live

pub call-requires : goal.call-requires
call-requires g c = lives g (goal.at.call-requires g c).After-set_registers

pub follow_trap-requires : goal.follow_trap-requires
follow_trap-requires g c = lives g (goal.at.follow_trap-requires g c).After-set_registers

pub follow_trap-requires-in-Raised : goal.follow_trap-requires-in-Raised
follow_trap-requires-in-Raised g c = lives g (goal.at.follow_trap-requires-in-Raised g c).After-set_registers

pub returns-in-Next-clause-told : goal.returns-in-Next-clause-told
returns-in-Next-clause-told g c =
    rw c.in-Next.is (set g (goal.at.returns-in-Next-clause-told g c).After-set_registers, refl, refl, gains_nothing _)

-- what the system call comes to
call_is : (g : given.Over) (c : After-call g) →
    after_event (with_registers (kernel_state c.args.self.now) c.args.slot c.args.registers) c.args.slot c.args.event
    ≡ after_call (system_call (kernel_state c.set_registers.new.self) c.args.slot)
call_is g c =
    (λ i. after_event (sym (set g (goal.at.After-call g c).After-set_registers) i) c.args.slot (c.in-Soft.is i))
    ∙ after_system_call (kernel_state c.set_registers.new.self) c.args.slot _ c.if-vector-eq-T_SYSCALL.true

pub returns-in-Ok-clause-told : goal.returns-in-Ok-clause-told
returns-in-Ok-clause-told g c =
    let is = call_is g (goal.at.returns-in-Ok-clause-told g c).After-call in
    done_follows (system_call (kernel_state c.set_registers.new.self) c.args.slot)
    (after_event (with_registers (kernel_state c.args.self.now) c.args.slot c.args.registers) c.args.slot c.args.event)
    (kernel_state c.call.new.self) (around g.H.Host.console c.args.host.now c.call.new.host) None
    (λ i. (is i).state) (λ i. (is i).written) (λ i. (sym is i).trap) c.in-Ok.answer c.in-Ok.ensures.told

pub returns-in-Err-clause-told : goal.returns-in-Err-clause-told
returns-in-Err-clause-told g c =
    let is = call_is g (goal.at.returns-in-Err-clause-told g c).After-call in
    failed_follows (system_call (kernel_state c.set_registers.new.self) c.args.slot)
    (after_event (with_registers (kernel_state c.args.self.now) c.args.slot c.args.registers) c.args.slot c.args.event)
    (kernel_state c.call.new.self) (around g.H.Host.console c.args.host.now c.call.new.host) None
    (λ i. (is i).state) (λ i. (is i).written) (λ i. (sym is i).trap) c.in-Err.failed c.in-Err.ensures.told

pub returns-else-vector-eq-T_SYSCALL-clause-told : goal.returns-else-vector-eq-T_SYSCALL-clause-told
returns-else-vector-eq-T_SYSCALL-clause-told g c =
    let s : KernelState = kernel_state c.set_registers.new.self in
    let behind = (goal.at.returns-else-vector-eq-T_SYSCALL-clause-told g c).After-set_registers in
    same_step c.follow_trap.result (after_event (with_registers (kernel_state c.args.self.now) c.args.slot c.args.registers) c.args.slot c.args.event)
    (after_trap s c.args.slot T_BRKPT 0 0 c.args.registers.eip) (kernel_state c.follow_trap.new.self) (around g.H.Host.console c.args.host.now c.follow_trap.new.host)
    ((λ i. after_event (sym (set g behind) i) c.args.slot (c.in-Soft.is i)) ∙ after_breakpoint s c.args.slot _ c.if-vector-eq-T_SYSCALL.false
    ∙ ap (λ (ip : ℕ). after_trap s c.args.slot T_BRKPT 0 0 ip) (eip_is g behind))
    c.follow_trap.ensures.told

pub returns-in-Raised-clause-told : goal.returns-in-Raised-clause-told
returns-in-Raised-clause-told g c =
    let s : KernelState = kernel_state c.set_registers.new.self in
    let behind = (goal.at.returns-in-Raised-clause-told g c).After-set_registers in
    same_step c.follow_trap-in-Raised.result (after_event (with_registers (kernel_state c.args.self.now) c.args.slot c.args.registers) c.args.slot c.args.event)
    (after_trap s c.args.slot c.in-Raised.trap c.in-Raised.error c.in-Raised.va c.args.registers.eip) (kernel_state c.follow_trap-in-Raised.new.self)
    (around g.H.Host.console c.args.host.now c.follow_trap-in-Raised.new.host)
    ((λ i. after_event (sym (set g behind) i) c.args.slot (c.in-Raised.is i))
    ∙ ap (λ (ip : ℕ). after_trap s c.args.slot c.in-Raised.trap c.in-Raised.error c.in-Raised.va ip) (eip_is g behind))
    c.follow_trap-in-Raised.ensures.told
