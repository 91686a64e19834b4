use Rattle.std.proofs.Common.{◌∙◌, sym}
use Rattle.jos_host.specs.Frames.{around, from_to}
use Rattle.lib_os.specs.MadeCalls.{asks_nothing}
use Rattle.lib_os.specs.UserCalls.{output}
use Rattle.fs_server.proofs.ServerMade.{call_makes, flush_makes}
use Rattle.fs_server.proofs.steps.server_step.Goals as goal

pub returns-in-Call-clause-made : goal.returns-in-Call-clause-made
returns-in-Call-clause-made g c =
    call_makes (g.O.UserOs.state c.args.os.now) (g.O.UserOs.state c.make_call.new.os) (g.O.UserOs.slot c.args.os.now) (g.O.UserOs.disk c.args.os.now)
    (around g.H.Host.files c.args.host.now c.make_call.new.host)
    (output g.H.Host.console g.O.UserOs.written (from_to c.args.host.now c.make_call.new.host) (from_to c.args.os.now c.make_call.new.os))
    c.find_server-state.result c.make_call.ensures.rest.first c.in-Call.call c.make_call.result (sym c.ask_at.ensures.asks ∙ c.in-Call.is)
    c.make_call.ensures.made

pub returns-in-Work-clause-made : goal.returns-in-Work-clause-made
returns-in-Work-clause-made g c = c.work.ensures.made

pub returns-in-Flush-clause-made : goal.returns-in-Flush-clause-made
returns-in-Flush-clause-made g c =
    flush_makes (g.O.UserOs.state c.args.os.now) (g.O.UserOs.state c.flush.new.os) (g.O.UserOs.slot c.args.os.now) (g.O.UserOs.disk c.args.os.now)
    (around g.H.Host.files c.args.host.now c.flush.new.host)
    (output g.H.Host.console g.O.UserOs.written (from_to c.args.host.now c.flush.new.host) (from_to c.args.os.now c.flush.new.os))
    c.find_server-state.result c.flush.result c.flush.ensures.made

-- ---- the host's files

pub returns-in-Call-clause-disk_only : goal.returns-in-Call-clause-disk_only
returns-in-Call-clause-disk_only g c = asks_nothing c.make_call.ensures.rest.first c.make_call.ensures.rest.third
