use Rattle.std.proofs.Common.{Ok, Err}
use Rattle.jos_host.specs.Frames.{around}
use Rattle.lib_stage.proofs.FramesTaken.{frames_taken}
use Rattle.lib_stage.proofs.Driven.{asked_so, counted_so, settled_ordered, settled_so, stopped_so, stopped_ordered, law_step, law_leaves, law_takes}
use Rattle.lib_stage.proofs.driving.drive.Goals as goal

pub returns-in-Ok-clause-step : goal.returns-in-Ok-clause-step
returns-in-Ok-clause-step g c =
    counted_so (Ok c.settle.result) (g.O.UserOs.slot c.args.os.now) (g.O.UserOs.state c.args.os.now) (g.O.UserOs.state c.settle.new.os)
    (around g.H.Host.console c.args.host.now c.perform.new.host) (g.O.UserOs.written c.args.os.now) (g.O.UserOs.written c.perform.new.os)
    (g.O.UserOs.written c.settle.new.os) c.settle.ensures.written
    (law_step (g.O.UserOs.state c.args.os.now) (g.O.UserOs.slot c.args.os.now) (g.S.Planned.plan c.args.stage.now) c.requires.holds (Ok c.settle.result) (g.O.UserOs.state c.settle.new.os) _
    (settled_so (g.O.UserOs.state c.args.os.now) (g.O.UserOs.slot c.args.os.now) (g.S.Planned.plan c.args.stage.now) (g.O.UserOs.state c.perform.new.os) _ c.in-Ok.called (g.O.UserOs.state c.settle.new.os) (g.O.UserOs.slot c.perform.new.os) c.settle.result
    c.perform.ensures.slot (rw c.ask.ensures.asks at c.in-Ok.ensures.step) (rw c.next.ensures at c.settle.ensures.progress) (rw (c.next.ensures, c.number.ensures.number) at c.settle.ensures.state))
    (settled_ordered (g.O.UserOs.state c.args.os.now) (g.O.UserOs.slot c.args.os.now) (g.S.Planned.plan c.args.stage.now) (g.O.UserOs.state c.perform.new.os) _ c.in-Ok.called (rw c.ask.ensures.asks at c.in-Ok.ensures.step) c.perform.ensures.in_order))

pub returns-in-Ok-clause-leaves : goal.returns-in-Ok-clause-leaves
returns-in-Ok-clause-leaves g c =
    law_leaves (g.O.UserOs.state c.args.os.now) (g.O.UserOs.slot c.args.os.now) (g.S.Planned.plan c.args.stage.now) c.requires.holds (Ok c.settle.result) (g.O.UserOs.state c.settle.new.os) _
    (settled_so (g.O.UserOs.state c.args.os.now) (g.O.UserOs.slot c.args.os.now) (g.S.Planned.plan c.args.stage.now) (g.O.UserOs.state c.perform.new.os) _ c.in-Ok.called (g.O.UserOs.state c.settle.new.os) (g.O.UserOs.slot c.perform.new.os) c.settle.result
    c.perform.ensures.slot (rw c.ask.ensures.asks at c.in-Ok.ensures.step) (rw c.next.ensures at c.settle.ensures.progress) (rw (c.next.ensures, c.number.ensures.number) at c.settle.ensures.state))

pub returns-in-Err-clause-step : goal.returns-in-Err-clause-step
returns-in-Err-clause-step g c =
    law_step (g.O.UserOs.state c.args.os.now) (g.O.UserOs.slot c.args.os.now) (g.S.Planned.plan c.args.stage.now) c.requires.holds c.stopped.result (g.O.UserOs.state c.perform.new.os) _
    (stopped_so (g.O.UserOs.state c.args.os.now) (g.O.UserOs.slot c.args.os.now) (g.S.Planned.plan c.args.stage.now) (g.O.UserOs.state c.perform.new.os) _ c.in-Err.stop c.stopped.result (asked_so (g.O.UserOs.state c.args.os.now) (g.O.UserOs.slot c.args.os.now) (g.S.Planned.plan c.args.stage.now) c.ask.result (Err c.in-Err.stop) _ _ c.ask.ensures.asks c.in-Err.ensures.step) c.stopped.ensures)
    (stopped_ordered (g.O.UserOs.state c.args.os.now) (g.O.UserOs.slot c.args.os.now) (g.S.Planned.plan c.args.stage.now) (g.O.UserOs.state c.perform.new.os) _ c.in-Err.stop c.stopped.result (asked_so (g.O.UserOs.state c.args.os.now) (g.O.UserOs.slot c.args.os.now) (g.S.Planned.plan c.args.stage.now) c.ask.result (Err c.in-Err.stop) _ _ c.ask.ensures.asks c.in-Err.ensures.step) c.stopped.ensures c.perform.ensures.in_order)

pub returns-in-Err-clause-leaves : goal.returns-in-Err-clause-leaves
returns-in-Err-clause-leaves g c =
    law_leaves (g.O.UserOs.state c.args.os.now) (g.O.UserOs.slot c.args.os.now) (g.S.Planned.plan c.args.stage.now) c.requires.holds c.stopped.result (g.O.UserOs.state c.perform.new.os) _
    (stopped_so (g.O.UserOs.state c.args.os.now) (g.O.UserOs.slot c.args.os.now) (g.S.Planned.plan c.args.stage.now) (g.O.UserOs.state c.perform.new.os) _ c.in-Err.stop c.stopped.result (asked_so (g.O.UserOs.state c.args.os.now) (g.O.UserOs.slot c.args.os.now) (g.S.Planned.plan c.args.stage.now) c.ask.result (Err c.in-Err.stop) _ _ c.ask.ensures.asks c.in-Err.ensures.step) c.stopped.ensures)

pub returns-in-Ok-clause-frames : goal.returns-in-Ok-clause-frames
returns-in-Ok-clause-frames g c =
    frames_taken (g.O.UserOs.state c.args.os.now) (g.O.UserOs.slot c.args.os.now) (g.S.Planned.plan c.args.stage.now) (Ok c.settle.result) (g.O.UserOs.state c.settle.new.os) _
    (settled_so (g.O.UserOs.state c.args.os.now) (g.O.UserOs.slot c.args.os.now) (g.S.Planned.plan c.args.stage.now) (g.O.UserOs.state c.perform.new.os) _ c.in-Ok.called (g.O.UserOs.state c.settle.new.os) (g.O.UserOs.slot c.perform.new.os) c.settle.result
    c.perform.ensures.slot (rw c.ask.ensures.asks at c.in-Ok.ensures.step) (rw c.next.ensures at c.settle.ensures.progress) (rw (c.next.ensures, c.number.ensures.number) at c.settle.ensures.state))

pub returns-in-Err-clause-frames : goal.returns-in-Err-clause-frames
returns-in-Err-clause-frames g c =
    frames_taken (g.O.UserOs.state c.args.os.now) (g.O.UserOs.slot c.args.os.now) (g.S.Planned.plan c.args.stage.now) c.stopped.result (g.O.UserOs.state c.perform.new.os) _
    (stopped_so (g.O.UserOs.state c.args.os.now) (g.O.UserOs.slot c.args.os.now) (g.S.Planned.plan c.args.stage.now) (g.O.UserOs.state c.perform.new.os) _ c.in-Err.stop c.stopped.result (asked_so (g.O.UserOs.state c.args.os.now) (g.O.UserOs.slot c.args.os.now) (g.S.Planned.plan c.args.stage.now) c.ask.result (Err c.in-Err.stop) _ _ c.ask.ensures.asks c.in-Err.ensures.step) c.stopped.ensures)

pub returns-in-Ok-clause-by_place : goal.returns-in-Ok-clause-by_place
returns-in-Ok-clause-by_place g c =
    law_takes (g.O.UserOs.state c.args.os.now) (g.O.UserOs.slot c.args.os.now) (g.S.Planned.plan c.args.stage.now) c.requires.holds (Ok c.settle.result) (g.O.UserOs.state c.settle.new.os) _
    (settled_so (g.O.UserOs.state c.args.os.now) (g.O.UserOs.slot c.args.os.now) (g.S.Planned.plan c.args.stage.now) (g.O.UserOs.state c.perform.new.os) _ c.in-Ok.called (g.O.UserOs.state c.settle.new.os) (g.O.UserOs.slot c.perform.new.os) c.settle.result
    c.perform.ensures.slot (rw c.ask.ensures.asks at c.in-Ok.ensures.step) (rw c.next.ensures at c.settle.ensures.progress) (rw (c.next.ensures, c.number.ensures.number) at c.settle.ensures.state))

pub returns-in-Err-clause-by_place : goal.returns-in-Err-clause-by_place
returns-in-Err-clause-by_place g c =
    law_takes (g.O.UserOs.state c.args.os.now) (g.O.UserOs.slot c.args.os.now) (g.S.Planned.plan c.args.stage.now) c.requires.holds c.stopped.result (g.O.UserOs.state c.perform.new.os) _
    (stopped_so (g.O.UserOs.state c.args.os.now) (g.O.UserOs.slot c.args.os.now) (g.S.Planned.plan c.args.stage.now) (g.O.UserOs.state c.perform.new.os) _ c.in-Err.stop c.stopped.result (asked_so (g.O.UserOs.state c.args.os.now) (g.O.UserOs.slot c.args.os.now) (g.S.Planned.plan c.args.stage.now) c.ask.result (Err c.in-Err.stop) _ _ c.ask.ensures.asks c.in-Err.ensures.step) c.stopped.ensures)
