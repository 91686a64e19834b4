use Rattle.std.proofs.Common.{◌∙◌}
use Rattle.jos_base.specs.Environments.{is_live}
use Rattle.jos_base.specs.KernelState.{slot_at}
use Rattle.lib_os.proofs.SlotsSet.{set_live}
use Rattle.fs_server.proofs.WordsSet.{words_set}
use Rattle.fs_server.proofs.steps.go_on.Goals as goal

pub set_extra-requires : goal.set_extra-requires
set_extra-requires g c =
    let s = g.O.UserOs.state c.args.os.now in
    let n = g.O.UserOs.slot c.args.os.now in
    (λ i. is_live (slot_at (c.set_registers.ensures.state i) (c.set_registers.ensures.slot i)))
    ∙ set_live s n (record (slot_at s n) { registers = c.with_job.result.0 }) c.requires.live

pub returns-clause-state : goal.returns-clause-state
returns-clause-state g c =
    words_set (g.O.UserOs.state c.args.os.now) (g.O.UserOs.slot c.args.os.now) c.args.next c.registers-registers.result c.extra-extra.result.0
    c.with_server.result.0 c.with_server.result.1.0 c.with_job.result.0 c.with_job.result.1.0
    c.registers-registers.ensures c.extra-extra.ensures c.with_server.ensures.registers c.with_server.ensures.words c.with_job.ensures.registers c.with_job.ensures.words
    (g.O.UserOs.state c.set_registers.new.self) (g.O.UserOs.slot c.set_registers.new.self) (g.O.UserOs.state c.set_extra.new.self)
    c.set_registers.ensures.state c.set_registers.ensures.slot c.set_extra.ensures.state
