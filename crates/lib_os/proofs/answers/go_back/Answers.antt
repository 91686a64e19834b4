use Rattle.jos_base.specs.Environments.{no_extra}
use Rattle.jos_base.specs.KernelState.{slot_at}
use Rattle.lib_os.proofs.SlotsSet.{set_live, both_set}
use Rattle.lib_os.proofs.answers.go_back.Goals as goal

pub set_extra-requires : goal.set_extra-requires
set_extra-requires g c =
    let s = g.O.UserOs.state c.args.os.now in
    let n = g.O.UserOs.slot c.args.os.now in
    rw (c.set_registers.ensures.state, c.set_registers.ensures.slot)
    (set_live s n (record (slot_at s n) { registers = c.args.registers }) c.requires)

pub returns-clause-state : goal.returns-clause-state
returns-clause-state g c =
    rw (c.set_extra.ensures.state, c.set_registers.ensures.state, c.set_registers.ensures.slot)
    (both_set (g.O.UserOs.state c.args.os.now) (g.O.UserOs.slot c.args.os.now) c.args.registers no_extra)
