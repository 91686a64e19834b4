use Rattle.std.proofs.Common.{Ok, sym, subst}
use Rattle.jos_host.specs.Frames.{around, from_to}
use Rattle.lib_os.specs.UserCalls.{output}
use Rattle.fs_blocks.specs.declared.place.CacheState.{CacheState}
use Rattle.fs_cache.specs.declared.steps.Flushed.{Flushed}
use Rattle.fs_cache.specs.CacheSteps.{HasGone, FlushTold, caller}
use Rattle.fs_cache.proofs.CacheLaw.{flush_from, flush_is_told, flush_keeps}
use Rattle.fs_cache.proofs.CachePieces.{pieces}
use Rattle.fs_cache.proofs.steps.flush_step.Goals as goal

pub returns-in-Ok-clause-made : goal.returns-in-Ok-clause-made
returns-in-Ok-clause-made g c =
    let s = g.O.UserOs.state c.args.os.now in
    let n = g.O.UserOs.slot c.args.os.now in
    let called = caller s n (g.O.UserOs.disk c.args.os.now) in
    let files = around g.H.Host.files c.args.host.now c.step.new.host in
    let after = g.O.UserOs.state c.step.new.os in
    let printed = output g.H.Host.console g.O.UserOs.written (from_to c.args.host.now c.step.new.host) (from_to c.args.os.now c.step.new.os) in
    let from = flush_from s n c.flushing-place.result c.find_state-state.result c.extra.result.0 c.flushing-place.ensures c.find_state-state.ensures
    c.extra.ensures in
    let gone = subst (λ (x : CacheState). HasGone x called files c.in-Ok.told after printed) from c.in-Ok.ensures.made in
    (c.in-Ok.told, c.as_flushed.ensures, gone)

pub returns-in-Ok-clause-cache : goal.returns-in-Ok-clause-cache
returns-in-Ok-clause-cache g c =
    let s = g.O.UserOs.state c.args.os.now in
    let n = g.O.UserOs.slot c.args.os.now in
    let called = caller s n (g.O.UserOs.disk c.args.os.now) in
    let files = around g.H.Host.files c.args.host.now c.step.new.host in
    let after = g.O.UserOs.state c.step.new.os in
    let printed = output g.H.Host.console g.O.UserOs.written (from_to c.args.host.now c.step.new.host) (from_to c.args.os.now c.step.new.os) in
    let from = flush_from s n c.flushing-place.result c.find_state-state.result c.extra.result.0 c.flushing-place.ensures c.find_state-state.ensures
    c.extra.ensures in
    let gone = subst (λ (x : CacheState). HasGone x called files c.in-Ok.told after printed) from c.in-Ok.ensures.made in
    flush_keeps pieces called c.in-Ok.told printed files after c.requires.whole c.step.ensures.in_order gone

pub returns-in-Ok-clause-tells : goal.returns-in-Ok-clause-tells
returns-in-Ok-clause-tells g c =
    let s = g.O.UserOs.state c.args.os.now in
    let n = g.O.UserOs.slot c.args.os.now in
    let called = caller s n (g.O.UserOs.disk c.args.os.now) in
    let files = around g.H.Host.files c.args.host.now c.step.new.host in
    let after = g.O.UserOs.state c.step.new.os in
    let printed = output g.H.Host.console g.O.UserOs.written (from_to c.args.host.now c.step.new.host) (from_to c.args.os.now c.step.new.os) in
    let from = flush_from s n c.flushing-place.result c.find_state-state.result c.extra.result.0 c.flushing-place.ensures c.find_state-state.ensures
    c.extra.ensures in
    let gone = subst (λ (x : CacheState). HasGone x called files c.in-Ok.told after printed) from c.in-Ok.ensures.made in
    subst (λ (t : Flushed). FlushTold (Ok t) called.disk n (from_to s after) files.before) (sym c.as_flushed.ensures)
    (flush_is_told pieces called c.in-Ok.told printed files after c.requires.whole c.step.ensures.in_order gone)
