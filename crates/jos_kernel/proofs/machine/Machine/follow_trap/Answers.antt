use Rattle.std.proofs.Common.{ℕ, ap, sym, refl, ◌≡◌, ◌∙◌, true, subst, Option, Some}
use Rattle.jos_base.specs.Environments.{Slot, is_live}
use Rattle.jos_base.specs.KernelState.{KernelState, slot_at}
use Rattle.jos_base.specs.SystemCalls.{trapped_by, killed}
use Rattle.jos_envs.specs.Slots.{slot_of}
use Rattle.jos_envs.proofs.Kept.{live_within}
use Rattle.jos_sys.specs.System.{left_of}
use Rattle.jos_host.specs.Frames.{around}
use Rattle.jos_kernel.specs.declared.trace.TrapLine.{TrapLine}
use Rattle.jos_kernel.specs.Machine.{Parts, kernel_state}
use Rattle.jos_kernel.specs.Steps.{trapped, after_trap}
use Rattle.jos_kernel.proofs.Following.{done_follows, failed_follows, upcall_made, fault_line, trap_line, gains_nothing, fault_unhanded, trap_unhanded}
use Rattle.jos_kernel.proofs.machine.Machine.follow_trap.Given as given
use Rattle.jos_kernel.proofs.machine.Machine.follow_trap.Goals as goal
use Rattle.jos_kernel.proofs.machine.Machine.follow_trap.Goals.{then-trap-eq-T_PGFLT+in-Some, else-trap-eq-T_PGFLT}
use Rattle.jos_kernel.proofs.machine.Machine.follow_trap.Goals.{Joined-trap-eq-T_PGFLT, After-environment-environment}

-- the line of a trap by what is known of its environment
abbrev line_of : Slot → ℕ → ℕ → ℕ → ℕ → Option TrapLine
line_of slot trap error va ip = Some (record { id = slot.id; trap = trap; error = error; va = va; ip = ip })

pub environment-environment-requires : goal.environment-environment-requires
environment-environment-requires g c =
    live_within _ c.args.slot (subst (λ (m : Parts). is_live (slot_at (kernel_state m) c.args.slot) ≡ true) (sym c.self.view_is) c.requires)

-- the environment that was looked at
environment_is : (g : given.Over) (c : After-environment-environment g) →
    slot_of c.environment-environment.result ≡ slot_at (kernel_state c.args.self.now) c.args.slot
environment_is g c =
    c.environment-environment.ensures (left_of c.self.inside.input) ∙ ap (λ (m : Parts). slot_at (kernel_state m) c.args.slot) c.self.view_is

pub returns-in-None-clause-told : goal.returns-in-None-clause-told
returns-in-None-clause-told g c =
    let s = kernel_state c.args.self.now in
    let slot_is = environment_is g (goal.at.returns-in-None-clause-told g c).After-environment-environment in
    let made = upcall_made s _ c.args.slot c.args.trap c.args.error c.args.va c.args.ip c.if-trap-eq-T_PGFLT.true c.in-None.ensures.told in
    rw made (refl, refl, (λ i. line_of (slot_is i) c.args.trap c.args.error c.args.va c.args.ip), gains_nothing _)

-- the line of its end, behind which it is killed
done_is : (g : given.Over) (c : Joined-trap-eq-T_PGFLT g) →
    trapped (kernel_state c.args.self.now) c.args.slot c.args.trap c.args.error c.args.va c.args.ip
    ≡ trapped_by (killed (kernel_state c.if-trap-eq-T_PGFLT.self) c.args.slot c.if-trap-eq-T_PGFLT.line)
done_is g c =
    let s = kernel_state c.args.self.now in
    let n = c.args.slot in
    let line = c.if-trap-eq-T_PGFLT.line in
    let eip_is = ap (λ (slot : Slot). slot.registers.eip) (environment_is g (goal.at.Joined-trap-eq-T_PGFLT g c).After-environment-environment) in
    elim c.if-trap-eq-T_PGFLT.branch [
      | then-trap-eq-T_PGFLT+in-Some w ↦
          fault_line s n c.args.trap c.args.error c.args.va c.args.ip _ _ w.if-trap-eq-T_PGFLT.true w.in-Some.ensures.told.0 eip_is (w.line-is ∙ w.in-Some.ensures.told.2)
          ∙ ap (λ (k : KernelState). trapped_by (killed k n line)) (sym (ap kernel_state w.self-is ∙ w.in-Some.ensures.told.1))
      | else-trap-eq-T_PGFLT w ↦
          trap_line s n c.args.trap c.args.error c.args.va c.args.ip _ w.if-trap-eq-T_PGFLT.false w.line-is
          ∙ ap (λ (k : KernelState). trapped_by (killed k n line)) (sym (ap kernel_state w.self-is))
    ]

-- and the trap that is told
trap_is : (g : given.Over) (c : After-environment-environment g) →
    line_of (slot_of c.environment-environment.result) c.args.trap c.args.error c.args.va c.args.ip
    ≡ line_of (slot_at (kernel_state c.args.self.now) c.args.slot) c.args.trap c.args.error c.args.va c.args.ip
trap_is g c = λ i. line_of (environment_is g c i) c.args.trap c.args.error c.args.va c.args.ip

pub returns-in-Ok-clause-told : goal.returns-in-Ok-clause-told
returns-in-Ok-clause-told g c =
    let n = c.args.slot in
    let is = done_is g (goal.at.returns-in-Ok-clause-told g c).Joined-trap-eq-T_PGFLT in
    let trap = trap_is g (goal.at.returns-in-Ok-clause-told g c).After-environment-environment in
    done_follows (killed (kernel_state c.if-trap-eq-T_PGFLT.self) n c.if-trap-eq-T_PGFLT.line)
    (after_trap (kernel_state c.args.self.now) n c.args.trap c.args.error c.args.va c.args.ip) (kernel_state c.kill.new.self)
    (around g.H.Host.console c.args.host.now c.kill.new.host)
    (line_of (slot_of c.environment-environment.result) c.args.trap c.args.error c.args.va c.args.ip)
    (λ i. (is i).state) (λ i. (is i).written) trap c.in-Ok.answer c.in-Ok.ensures.told

pub returns-in-Err-clause-told : goal.returns-in-Err-clause-told
returns-in-Err-clause-told g c =
    let n = c.args.slot in
    let is = done_is g (goal.at.returns-in-Err-clause-told g c).Joined-trap-eq-T_PGFLT in
    let trap = trap_is g (goal.at.returns-in-Err-clause-told g c).After-environment-environment in
    failed_follows (killed (kernel_state c.if-trap-eq-T_PGFLT.self) n c.if-trap-eq-T_PGFLT.line)
    (after_trap (kernel_state c.args.self.now) n c.args.trap c.args.error c.args.va c.args.ip) (kernel_state c.kill.new.self)
    (around g.H.Host.console c.args.host.now c.kill.new.host)
    (line_of (slot_of c.environment-environment.result) c.args.trap c.args.error c.args.va c.args.ip)
    (λ i. (is i).state) (λ i. (is i).written) trap c.in-Err.failed c.in-Err.ensures.told

pub returns-in-Err-clause-ended : goal.returns-in-Err-clause-ended
returns-in-Err-clause-ended g c =
    let s = kernel_state c.args.self.now in
    let n = c.args.slot in
    elim c.if-trap-eq-T_PGFLT.branch [
      | then-trap-eq-T_PGFLT+in-Some w ↦ fault_unhanded s n c.args.trap c.args.error c.args.va w.in-Some.ensures.told.0
      | else-trap-eq-T_PGFLT w ↦ trap_unhanded s n c.args.trap c.args.error c.args.va w.if-trap-eq-T_PGFLT.false
    ]
