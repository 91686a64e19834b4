use Rattle.std.proofs.Common.{◌∙◌, sym}
use Rattle.lib_os.specs.UserCalls.{block_call}
use Rattle.jos_run.specs.Served.{kernel_state}
use Rattle.jos_run.proofs.BlockMoves.{block_put_is, read_done}
use Rattle.jos_run.proofs.served.ServedUserOs.block_read.Goals as goal

pub returns-in-Ok-clause-step : goal.returns-in-Ok-clause-step
returns-in-Ok-clause-step g c =
    let s = c.args.self.now in
    let yes = c.if-not-reach_page.false in
    let mid = c.reach_page.new.self in
    read_done (block_call (kernel_state s) s.slot s.disk c.args.block c.args.va) (g.H.Host.files c.args.host.now) mid.disk
    (kernel_state c.put_page.new.self) c.in-Ok.bytes (sym yes ∙ c.reach_page.ensures.may) c.reach_page.ensures.disk c.in-Ok.ensures.came
    (block_put_is (kernel_state s) (kernel_state mid) (kernel_state c.put_page.new.self) s.slot mid.slot c.args.va c.in-Ok.bytes
    (c.reach_page.ensures.reached yes) c.reach_page.ensures.slot c.put_page.ensures.state)
