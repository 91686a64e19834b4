use Rattle.std.proofs.Common.{◌+◌, ◌%◌, ◌≢◌, Err, arith, subst}
use Rattle.jos_host.specs.Frames.{around, from_to}
use Rattle.jos_base.specs.declared.numbers.TheConstants.{PGSIZE}
use Rattle.lib_os.specs.declared.user_os.Stop.{Stop}
use Rattle.lib_os.specs.declared.user_os.Stop.TheVariants as stop
use Rattle.lib_os.specs.UserCalls.{output}
use Rattle.fs_cache.specs.CacheSteps.{caller}
use Rattle.lib_os.specs.declared.numbers.TheConstants.{REQUEST}
use Rattle.lib_os.proofs.CallsMade.{in_request}
use Rattle.fs_tree.specs.declared.steps.Done.TheVariants.{Word}
use Rattle.fs_tree.specs.TreeMakes.{IsAccess}
use Rattle.fs_tree.proofs.AccessMade.{access_faulted, access_made}
use Rattle.fs_tree.proofs.TiesLaw.{access_rest, access_slot, request_calls, request_failed, request_leaves, request_never_calls, request_stopped, request_word}
use Rattle.fs_tree.proofs.steps.make_at_request.Goals as goal

pub returns-in-Ok-clause-told : goal.returns-in-Ok-clause-told
returns-in-Ok-clause-told g c =
    let s = g.O.UserOs.state c.args.os.now in
    let n = g.O.UserOs.slot c.args.os.now in
    let called = caller s n (g.O.UserOs.disk c.args.os.now) in
    let files = around g.H.Host.files c.args.host.now c.access.new.host in
    let mid = g.O.UserOs.state c.access.new.os in
    let told = output g.H.Host.console g.O.UserOs.written (from_to c.args.host.now c.access.new.host) (from_to c.args.os.now c.access.new.os) in
    request_word c.args.ask c.args.at called c.requires.place mid told c.access.ensures.in_order files c.access.ensures.rest.first c.in-Ok.word
    c.in-Ok.ensures.step

pub returns-in-Ok-clause-kept : goal.returns-in-Ok-clause-kept
returns-in-Ok-clause-kept g c =
    let s = g.O.UserOs.state c.args.os.now in
    let n = g.O.UserOs.slot c.args.os.now in
    let mid = g.O.UserOs.state c.access.new.os in
    let told = output g.H.Host.console g.O.UserOs.written (from_to c.args.host.now c.access.new.host) (from_to c.args.os.now c.access.new.os) in
    access_slot c.args.ask s mid n (REQUEST + c.args.at % PGSIZE) c.in-Ok.word told c.in-Ok.ensures.step

pub returns-in-Err-Upcall-clause-told : goal.returns-in-Err-Upcall-clause-told
returns-in-Err-Upcall-clause-told g c =
    let s = g.O.UserOs.state c.args.os.now in
    let n = g.O.UserOs.slot c.args.os.now in
    let called = caller s n (g.O.UserOs.disk c.args.os.now) in
    let files = around g.H.Host.files c.args.host.now c.access.new.host in
    let mid = g.O.UserOs.state c.access.new.os in
    let told = output g.H.Host.console g.O.UserOs.written (from_to c.args.host.now c.access.new.host) (from_to c.args.os.now c.access.new.os) in
    request_stopped c.args.ask c.args.at called c.requires.place mid told c.access.ensures.in_order files c.in-Err-Upcall.field-0 c.in-Err-Upcall.ensures.step

-- ---- what is left

pub returns-in-Ok-clause-leaves : goal.returns-in-Ok-clause-leaves
returns-in-Ok-clause-leaves g c =
    let s = g.O.UserOs.state c.args.os.now in
    let n = g.O.UserOs.slot c.args.os.now in
    let mid = g.O.UserOs.state c.access.new.os in
    let told = output g.H.Host.console g.O.UserOs.written (from_to c.args.host.now c.access.new.host) (from_to c.args.os.now c.access.new.os) in
    let left = access_rest c.args.ask s mid n (REQUEST + c.args.at % PGSIZE) c.in-Ok.word told c.in-Ok.ensures.step in
    λ before is h inside. left

pub returns-in-Err-Upcall-clause-leaves : goal.returns-in-Err-Upcall-clause-leaves
returns-in-Err-Upcall-clause-leaves g c =
    let s = g.O.UserOs.state c.args.os.now in
    let n = g.O.UserOs.slot c.args.os.now in
    let called = caller s n (g.O.UserOs.disk c.args.os.now) in
    let files = around g.H.Host.files c.args.host.now c.access.new.host in
    let mid = g.O.UserOs.state c.access.new.os in
    let told = output g.H.Host.console g.O.UserOs.written (from_to c.args.host.now c.access.new.host) (from_to c.args.os.now c.access.new.os) in
    request_leaves c.args.ask c.args.at called c.requires.place mid told c.access.ensures.in_order files c.in-Err-Upcall.field-0 c.in-Err-Upcall.ensures.step

pub returns-in-Err-Failed-clause-leaves : goal.returns-in-Err-Failed-clause-leaves
returns-in-Err-Failed-clause-leaves g c =
    let s = g.O.UserOs.state c.args.os.now in
    let n = g.O.UserOs.slot c.args.os.now in
    let called = caller s n (g.O.UserOs.disk c.args.os.now) in
    let files = around g.H.Host.files c.args.host.now c.access.new.host in
    let mid = g.O.UserOs.state c.access.new.os in
    let told = output g.H.Host.console g.O.UserOs.written (from_to c.args.host.now c.access.new.host) (from_to c.args.os.now c.access.new.os) in
    request_failed c.args.ask c.args.at called c.requires.place mid told c.access.ensures.in_order files (record {})
    (subst (λ (why : Stop). IsAccess c.args.ask (REQUEST + c.args.at % PGSIZE) s n (Err why) mid told) c.in-Err-Failed.field-0-is c.in-Err-Failed.ensures.step)

-- ---- the call

pub returns-in-Ok-clause-call : goal.returns-in-Ok-clause-call
returns-in-Ok-clause-call g c =
    let s = g.O.UserOs.state c.args.os.now in
    let n = g.O.UserOs.slot c.args.os.now in
    let called = caller s n (g.O.UserOs.disk c.args.os.now) in
    let files = around g.H.Host.files c.args.host.now c.access.new.host in
    let mid = g.O.UserOs.state c.access.new.os in
    let told = output g.H.Host.console g.O.UserOs.written (from_to c.args.host.now c.access.new.host) (from_to c.args.os.now c.access.new.os) in
    request_calls c.args.ask c.args.at called c.requires.place mid told c.access.ensures.in_order files (Word c.in-Ok.word) c.in-Ok.word
    c.in-Ok.ensures.step

pub returns-in-Err-Upcall-clause-call : goal.returns-in-Err-Upcall-clause-call
returns-in-Err-Upcall-clause-call g c =
    let s = g.O.UserOs.state c.args.os.now in
    let n = g.O.UserOs.slot c.args.os.now in
    let called = caller s n (g.O.UserOs.disk c.args.os.now) in
    let files = around g.H.Host.files c.args.host.now c.access.new.host in
    let mid = g.O.UserOs.state c.access.new.os in
    let told = output g.H.Host.console g.O.UserOs.written (from_to c.args.host.now c.access.new.host) (from_to c.args.os.now c.access.new.os) in
    request_never_calls c.args.ask c.args.at called c.requires.place mid told c.access.ensures.in_order files c.in-Err-Upcall.field-0
    c.in-Err-Upcall.ensures.step

pub returns-in-Ok-clause-made : goal.returns-in-Ok-clause-made
returns-in-Ok-clause-made g c =
    let s = g.O.UserOs.state c.args.os.now in
    let n = g.O.UserOs.slot c.args.os.now in
    let files = around g.H.Host.files c.args.host.now c.access.new.host in
    let mid = g.O.UserOs.state c.access.new.os in
    let told = output g.H.Host.console g.O.UserOs.written (from_to c.args.host.now c.access.new.host) (from_to c.args.os.now c.access.new.os) in
    access_made s mid n (g.O.UserOs.disk c.args.os.now) files told c.access.ensures.rest.first (REQUEST + c.args.at % PGSIZE)
    (in_request (c.args.at % PGSIZE) (omega arith)) c.args.ask c.in-Ok.word c.in-Ok.ensures.step

pub returns-in-Err-Upcall-clause-made : goal.returns-in-Err-Upcall-clause-made
returns-in-Err-Upcall-clause-made g c =
    let s = g.O.UserOs.state c.args.os.now in
    let n = g.O.UserOs.slot c.args.os.now in
    let files = around g.H.Host.files c.args.host.now c.access.new.host in
    let mid = g.O.UserOs.state c.access.new.os in
    let other : c.in-Err-Upcall.field-0 ≢ stop.Failed = grind arith in
    let told = output g.H.Host.console g.O.UserOs.written (from_to c.args.host.now c.access.new.host) (from_to c.args.os.now c.access.new.os) in
    access_faulted s mid n (g.O.UserOs.disk c.args.os.now) files told c.access.ensures.rest.first (REQUEST + c.args.at % PGSIZE)
    (in_request (c.args.at % PGSIZE) (omega arith)) c.args.ask c.in-Err-Upcall.field-0 other c.in-Err-Upcall.ensures.step
