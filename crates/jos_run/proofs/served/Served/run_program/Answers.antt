use Rattle.std.proofs.Common.{◌≡◌, true, false, ◌∙◌, ◌+◌, ◌-◌, ℕ, Option, Result, ap, sym, subst, arith}
use Rattle.std.specs.Prelude.{OnErr}
use Rattle.jos_host.specs.declared.host.Failed.{Failed}
use Rattle.jos_host.specs.Frames.{around}
use Rattle.jos_base.specs.Environments.{Slot, is_live}
use Rattle.jos_base.specs.KernelState.{KernelState, slot_at, with_registers}
use Rattle.jos_kernel.specs.Machine as kernel
use Rattle.lib_os.specs.Disk.{Disk}
use Rattle.lib_os.specs.StandsInHandler.{AreSmall}
use Rattle.lib_os.proofs.Slots.{slot_put}
use Rattle.lib_os.specs.declared.place.Place.TheVariants as place
use Rattle.lib_os.specs.Places.{place_of}
use Rattle.jos_run.specs.declared.steps.StepOutcome.{StepOutcome}
use Rattle.jos_run.specs.Guest.{Follows}
use Rattle.jos_run.specs.GuestSteps.{after_event, is_copying, is_handed_over}
use Rattle.jos_run.specs.Served.{Parts, kernel_state}
use Rattle.jos_run.specs.Steps.{is_awake, is_servers}
use Rattle.jos_run.specs.StepsAtOnce.{came_to, MakesSteps}
use Rattle.jos_run.specs.Worlds.{beside, told_disk}
use Rattle.jos_run.proofs.HostTouched.{same_disk}
use Rattle.jos_run.proofs.Printed.{printed}
use Rattle.jos_run.proofs.GuestBursts.{HasBurst, has_burst}
use Rattle.jos_run.proofs.StepsAtOnce.{program_made}
use Rattle.jos_run.proofs.served.Served.run_program.Given as given
use Rattle.jos_run.proofs.served.Served.run_program.Goals as goal
use Rattle.jos_run.proofs.served.Served.run_program.Goals.{After-make_burst-burst}

-- what the processor has done
done : (g : given.Over) (c : goal.After-make_burst-burst g) →
    HasBurst (kernel.kernel_state c.self.inside.machine) c.self.inside.slot c.make_burst-burst.ensures.going c.make_burst-burst.result.ip
    c.make_burst-burst.new.regs (kernel.kernel_state c.make_burst-burst.new.mem) c.make_burst-burst.result.event
done g c =
    let s = kernel.kernel_state c.self.inside.machine in
    let n = c.self.inside.slot in
    has_burst s n c.registers-registers.result c.make_burst-burst.new.regs (kernel.running_of c.load.new.self)
    (kernel.running_of c.make_burst-burst.new.mem) (λ i. record { state = c.load.ensures.state i; directory = c.load.ensures.loaded i })
    (subst (λ (m : Parts). c.registers-registers.result ≡ (slot_at (kernel_state m) m.slot).registers) (sym c.self.view_is) c.registers-registers.ensures)
    (subst (λ (m : Parts). is_live (slot_at (kernel_state m) m.slot) ≡ true) (sym c.self.view_is) c.requires.live)
    (subst (λ (m : Parts). place_of (slot_at (kernel_state m) m.slot) ≡ place.Guest) (sym c.self.view_is) c.requires.at)
    c.make_burst-burst.ensures

pub set_registers-requires : goal.set_registers-requires
set_registers-requires g c = (done g (goal.at.set_registers-requires g c).After-make_burst-burst).live

pub keep_small-requires : goal.keep_small-requires
keep_small-requires g c =
    let t = kernel.kernel_state c.make_burst-burst.new.mem in
    let n = c.self.inside.slot in
    let set : Slot = record (slot_at t n) { registers = c.make_burst-burst.new.regs } in
    (λ i. is_live (slot_at (c.set_registers.ensures i) n)) ∙ ap is_live (slot_put t n set)
    ∙ (done g (goal.at.keep_small-requires g c).After-make_burst-burst).live

pub is_copying-copying-requires : goal.is_copying-copying-requires
is_copying-copying-requires g c =
    let t = kernel.kernel_state c.make_burst-burst.new.mem in
    let n = c.self.inside.slot in
    let set : Slot = record (slot_at t n) { registers = c.make_burst-burst.new.regs } in
    (λ i. is_live (slot_at (c.set_registers.ensures i) n)) ∙ ap is_live (slot_put t n set)
    ∙ (done g (goal.at.is_copying-copying-requires g c).After-make_burst-burst).live

pub follow_guest-followed-requires : goal.follow_guest-followed-requires
follow_guest-followed-requires g c =
    let t = kernel.kernel_state c.make_burst-burst.new.mem in
    let n = c.self.inside.slot in
    let set : Slot = record (slot_at t n) { registers = c.make_burst-burst.new.regs } in
    (λ i. is_live (slot_at (c.set_registers.ensures i) n)) ∙ ap is_live (slot_put t n set)
    ∙ (done g (goal.at.follow_guest-followed-requires g c).After-make_burst-burst).live

pub returns-clause-made : goal.returns-clause-made
returns-clause-made g c =
    let n = c.self.inside.slot in
    let s = kernel.kernel_state c.self.inside.machine in
    let t = kernel.kernel_state c.make_burst-burst.new.mem in
    let burst = c.make_burst-burst in
    let d = done g (goal.at.returns-clause-made g c).After-make_burst-burst in
    let after = c.follow_guest-followed.new.self in
    let output = printed (around g.H.Host.console c.args.host.now c.follow_guest-followed.new.host) c.self.inside.written after.written in
    let mid : KernelState = with_registers t n burst.new.regs in
    let told = subst (λ (k : KernelState). Follows c.follow_guest-followed.result (after_event k n burst.result.ip burst.result.event) (kernel_state after) output)
    c.set_registers.ensures c.follow_guest-followed.ensures.told in
    let awake = subst (λ (m : Parts). is_awake (slot_at (kernel_state m) m.slot).status ≡ true) (sym c.self.view_is) c.requires.awake in
    let guest = subst (λ (m : Parts). place_of (slot_at (kernel_state m) m.slot) ≡ place.Guest) (sym c.self.view_is) c.requires.at in
    let user = subst (λ (m : Parts). is_servers (kernel_state m) m.slot ≡ false) (sym c.self.view_is) c.requires.user in
    let copying = c.is_copying-copying.result in
    let followed = c.follow_guest-followed.result in
    let copying_is : copying ≡ is_copying mid n burst.result.event =
    subst (λ (k : KernelState). copying ≡ is_copying k n burst.result.event) c.set_registers.ensures c.is_copying-copying.ensures in
    let ended : OnErr followed (is_handed_over mid n burst.result.event ≡ false) =
    subst (λ (k : KernelState). OnErr followed (is_handed_over k n burst.result.event ≡ false)) c.set_registers.ensures
    c.follow_guest-followed.ensures.ended in
    let small : AreSmall (slot_at mid n).registers =
    subst (λ (k : KernelState). AreSmall (slot_at k n).registers) c.set_registers.ensures c.keep_small.ensures in
    let disk = told_disk (g.H.Host.files c.args.host.now) c.args.self.now.disk in
    let behind = told_disk (g.H.Host.files c.follow_guest-followed.new.host) after.disk in
    let told_is : disk ≡ behind =
    same_disk c.follow_guest-followed.ensures.rest.first (c.follow_guest-followed.ensures.disk ∙ ap (λ (m : Parts). m.disk) c.self.view_is) in
    let made = program_made disk s mid (kernel_state after) output d.burst user awake guest small c.keep_in_order.ensures copying c.is_live.result
    copying_is followed told ended in
    let count : burst.result.steps ≡ burst.ensures.going + 1 = burst.ensures.count in
    let going_is : burst.ensures.going ≡ burst.result.steps - 1 = omega (arith, count) in
    subst (λ (m : Parts). MakesSteps m.slot (burst.result.steps - 1) c.came_to.result (beside (kernel_state m) disk) (beside (kernel_state after) behind)
    (printed (around g.H.Host.console c.args.host.now c.follow_guest-followed.new.host) m.written after.written)) c.self.view_is
    (subst (λ (o : Option Disk). MakesSteps n (burst.result.steps - 1) c.came_to.result (beside s disk) (beside (kernel_state after) o) output) told_is
    (subst (λ (last : Result StepOutcome Failed). MakesSteps n (burst.result.steps - 1) last (beside s disk) (beside (kernel_state after) disk) output)
    (sym c.came_to.ensures)
    (subst (λ (k : ℕ). MakesSteps n k (came_to copying c.is_live.result followed) (beside s disk) (beside (kernel_state after) disk) output) going_is made)))

pub returns-clause-within : goal.returns-clause-within
returns-clause-within g c =
    let count : c.make_burst-burst.result.steps ≡ c.make_burst-burst.ensures.going + 1 = c.make_burst-burst.ensures.count in
    omega (arith, count, c.make_burst-burst.ensures.within)
