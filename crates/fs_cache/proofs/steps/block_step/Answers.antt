use Rattle.std.proofs.Common.{◌∙◌, Ok, ap, mod-eq_of_lt, refl, sym, subst}
use Rattle.jos_host.specs.Frames.{around, from_to}
use Rattle.lib_os.specs.BlockCache.{block_address}
use Rattle.lib_os.specs.UserCalls.{output}
use Rattle.fs_blocks.specs.declared.place.CacheState.{CacheState}
use Rattle.fs_cache.specs.declared.steps.Cached.{Cached}
use Rattle.fs_cache.specs.CacheSteps.{IsBlockStep, HasGone, FetchTold, caller}
use Rattle.fs_cache.proofs.CacheLaw.{fetch_from, fetch_is_told, fetch_keeps, fetch_made, found_there, not_found_there}
use Rattle.fs_cache.proofs.CachePieces.{pieces}
use Rattle.fs_cache.proofs.steps.block_step.Goals as goal

pub returns-in-Ok-clause-made : goal.returns-in-Ok-clause-made
returns-in-Ok-clause-made g c =
    let s = g.O.UserOs.state c.args.os.now in
    let n = g.O.UserOs.slot c.args.os.now in
    let called = caller s n (g.O.UserOs.disk c.args.os.now) in
    let files = around g.H.Host.files c.args.host.now c.step.new.host in
    let after = g.O.UserOs.state c.step.new.os in
    let printed = output g.H.Host.console g.O.UserOs.written (from_to c.args.host.now c.step.new.host) (from_to c.args.os.now c.step.new.os) in
    let from = fetch_from s n c.args.block c.fetching-place.result c.find_state-state.result c.extra.result.0
    c.fetching-place.ensures c.find_state-state.ensures c.extra.ensures in
    let gone = subst (λ (x : CacheState). HasGone x called files c.in-Ok.told after printed) from c.in-Ok.ensures.made in
    subst (λ (t : Cached). IsBlockStep c.args.block called (Ok t) files after printed) (sym c.as_cached.ensures)
    (fetch_made c.args.block called printed files after c.in-Ok.told gone)

pub returns-in-Ok-clause-cache : goal.returns-in-Ok-clause-cache
returns-in-Ok-clause-cache g c =
    let s = g.O.UserOs.state c.args.os.now in
    let n = g.O.UserOs.slot c.args.os.now in
    let called = caller s n (g.O.UserOs.disk c.args.os.now) in
    let files = around g.H.Host.files c.args.host.now c.step.new.host in
    let after = g.O.UserOs.state c.step.new.os in
    let printed = output g.H.Host.console g.O.UserOs.written (from_to c.args.host.now c.step.new.host) (from_to c.args.os.now c.step.new.os) in
    let from = fetch_from s n c.args.block c.fetching-place.result c.find_state-state.result c.extra.result.0
    c.fetching-place.ensures c.find_state-state.ensures c.extra.ensures in
    let gone = subst (λ (x : CacheState). HasGone x called files c.in-Ok.told after printed) from c.in-Ok.ensures.made in
    fetch_keeps pieces c.args.block called c.in-Ok.told printed c.requires.block files after c.requires.whole c.step.ensures.in_order gone

pub returns-in-Ok-clause-tells : goal.returns-in-Ok-clause-tells
returns-in-Ok-clause-tells g c =
    let s = g.O.UserOs.state c.args.os.now in
    let n = g.O.UserOs.slot c.args.os.now in
    let called = caller s n (g.O.UserOs.disk c.args.os.now) in
    let files = around g.H.Host.files c.args.host.now c.step.new.host in
    let after = g.O.UserOs.state c.step.new.os in
    let printed = output g.H.Host.console g.O.UserOs.written (from_to c.args.host.now c.step.new.host) (from_to c.args.os.now c.step.new.os) in
    let from = fetch_from s n c.args.block c.fetching-place.result c.find_state-state.result c.extra.result.0
    c.fetching-place.ensures c.find_state-state.ensures c.extra.ensures in
    let gone = subst (λ (x : CacheState). HasGone x called files c.in-Ok.told after printed) from c.in-Ok.ensures.made in
    subst (λ (t : Cached). FetchTold c.args.block (Ok t) called.disk n (from_to s after) files.before) (sym c.as_cached.ensures)
    (fetch_is_told pieces c.args.block called c.in-Ok.told printed c.requires.block files after c.requires.whole c.step.ensures.in_order gone
    (not_found_there s n c.args.block c.find_state-state.result c.extra.result.0 c.find_state-state.ensures c.extra.ensures
    (sym c.is_found.ensures ∙ c.if-is_found.false)))

pub returns-then-is_found-clause-made : goal.returns-then-is_found-clause-made
returns-then-is_found-clause-made g c =
    let s = g.O.UserOs.state c.args.os.now in
    let n = g.O.UserOs.slot c.args.os.now in
    let there = found_there s n c.args.block c.find_state-state.result c.extra.result.0 c.find_state-state.ensures c.extra.ensures
    (sym c.is_found.ensures ∙ c.if-is_found.true) in
    (there, c.address_of.ensures ∙ ap block_address (mod-eq_of_lt c.requires.block), refl, refl, refl, refl)
