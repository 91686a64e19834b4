use Rattle.std.proofs.Common.{◌∙◌}
use Rattle.jos_base.specs.Environments.{is_live}
use Rattle.jos_base.specs.KernelState.{slot_at}
use Rattle.lib_os.proofs.SlotsSet.{set_live}
use Rattle.fs_tree.proofs.steps.go_on.Goals as goal

pub set_extra-requires : goal.set_extra-requires
set_extra-requires g c =
    let s = g.O.UserOs.state c.args.os.now in
    let n = g.O.UserOs.slot c.args.os.now in
    (λ i. is_live (slot_at (c.set_registers.ensures.state i) (c.set_registers.ensures.slot i)))
    ∙ set_live s n (record (slot_at s n) { registers = c.with_state.result.0 }) c.requires.live
