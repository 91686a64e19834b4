use Rattle.jos_host.specs.Frames.{around, from_to}
use Rattle.lib_os.specs.UserCalls.{output}
use Rattle.lib_os.proofs.Quieting.{asker_lives, no_bytes}
use Rattle.fs_tree.proofs.AccessMade.{asked_made}
use Rattle.fs_tree.proofs.steps.refuse.Goals as goal

pub returns-in-Ok-clause-quiet : goal.returns-in-Ok-clause-quiet
returns-in-Ok-clause-quiet g c =
    no_bytes (g.O.UserOs.state c.args.os.now) (g.O.UserOs.slot c.args.os.now) _ c.requires.live (g.O.UserOs.state c.system.new.self) _
    (output g.H.Host.console g.O.UserOs.written (from_to c.args.host.now c.system.new.host) (from_to c.args.os.now c.system.new.self)) c.in-Ok.ensures.step

pub returns-in-Ok-clause-lives : goal.returns-in-Ok-clause-lives
returns-in-Ok-clause-lives g c =
    let mid = c.system.new.self in
    asker_lives (g.O.UserOs.state c.args.os.now) (g.O.UserOs.slot c.args.os.now) _ c.requires.live (g.O.UserOs.state mid) _
    (output g.H.Host.console g.O.UserOs.written (from_to c.args.host.now c.system.new.host) (from_to c.args.os.now mid)) c.in-Ok.ensures.step
    (g.O.UserOs.slot mid) c.system.ensures.slot

-- the call asks for nothing but an id
pub returns-in-Ok-clause-made : goal.returns-in-Ok-clause-made
returns-in-Ok-clause-made g c =
    asked_made (g.O.UserOs.state c.args.os.now) (g.O.UserOs.state c.system.new.self) (g.O.UserOs.slot c.args.os.now) (g.O.UserOs.disk c.args.os.now)
    (around g.H.Host.files c.args.host.now c.system.new.host)
    (output g.H.Host.console g.O.UserOs.written (from_to c.args.host.now c.system.new.host) (from_to c.args.os.now c.system.new.self))
    c.system.ensures.rest.first _ c.in-Ok.ensures.step
