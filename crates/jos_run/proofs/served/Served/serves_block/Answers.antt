use Rattle.std.proofs.Common.{◌≡◌, ap, subst}
use Rattle.jos_base.specs.Environments.{Slot}
use Rattle.jos_base.specs.KernelState.{slot_at}
use Rattle.jos_run.specs.Served.{Parts, kernel_state}
use Rattle.jos_run.proofs.BlockMoves.{server_asks, user_asks}
use Rattle.jos_run.proofs.Looked.{slot_looked}
use Rattle.jos_run.proofs.served.Served.serves_block.Goals as goal

pub returns-in-FileServer : goal.returns-in-FileServer
returns-in-FileServer c =
    let s = c.args.self.now in
    let kind = c.environment.result.env_type in
    let there = subst (λ (m : Parts). kind ≡ (slot_at (kernel_state m) m.slot).env_type) c.self.view_is
    (ap (λ (slot : Slot). slot.env_type) (slot_looked c.self.inside.machine c.system.ensures.system _ c.environment.ensures)) in
    server_asks (kernel_state s) s.slot s.disk c.args.block kind there c.block_count.result c.in-FileServer.is c.block_count.ensures

pub returns-in-User : goal.returns-in-User
returns-in-User c =
    let s = c.args.self.now in
    let kind = c.environment.result.env_type in
    let there = subst (λ (m : Parts). kind ≡ (slot_at (kernel_state m) m.slot).env_type) c.self.view_is
    (ap (λ (slot : Slot). slot.env_type) (slot_looked c.self.inside.machine c.system.ensures.system _ c.environment.ensures)) in
    user_asks (kernel_state s) s.slot s.disk c.args.block kind there c.in-User.is
