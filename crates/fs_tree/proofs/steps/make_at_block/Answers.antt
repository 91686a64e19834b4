use Rattle.std.proofs.Common.{◌≡◌, ◌≢◌, ◌∙◌, ◌+◌, ◌/◌, ◌%◌, ℕ, true, Ok, Err, arith, refl, sym, subst}
use Rattle.jos_host.specs.Frames.{around, from_to}
use Rattle.jos_base.specs.KernelState.{KernelState}
use Rattle.jos_base.specs.Words.{page_number}
use Rattle.fs_layout.specs.declared.numbers.TheConstants.{BLKSIZE}
use Rattle.lib_os.specs.declared.numbers.TheConstants.{CACHE_BLOCKS}
use Rattle.lib_os.specs.declared.user_os.Stop.TheVariants as stop
use Rattle.lib_os.specs.declared.user_os.Stop.{Stop}
use Rattle.lib_os.specs.MadeCalls.{PrintsPartOfSome, is_server_page}
use Rattle.lib_os.specs.UserCalls.{Output, output}
use Rattle.lib_os.proofs.CallsMade.{in_block}
use Rattle.fs_cache.specs.declared.steps.Cached.{Cached}
use Rattle.fs_cache.specs.CacheSteps.{FetchTold, IsBlockStep, KeepsCacheWhereDone, caller, fetch_state}
use Rattle.fs_cache.proofs.DiskTouched.{then_leaves}
use Rattle.fs_cache.proofs.GoneMade.{gone_makes}
use Rattle.fs_tree.specs.declared.steps.Done.TheVariants.{Going, NoPage, Word}
use Rattle.fs_tree.specs.TreeMakes.{IsAccess}
use Rattle.fs_tree.proofs.AccessMade.{access_failed, access_faulted, access_made}
use Rattle.fs_tree.proofs.TiesLaw.{access_rest, access_slot, cache_calls, cache_failed, cache_going, cache_lacks, cache_leaves, lacking_lives, quiet_from, ready_calls, ready_failed, ready_leaves}
use Rattle.fs_tree.proofs.TiesLaw.{ready_never_calls, ready_stopped, ready_word}
use Rattle.fs_tree.proofs.steps.make_at_block.Goals as goal

pub returns-in-Ok-clause-told : goal.returns-in-Ok-clause-told
returns-in-Ok-clause-told g c =
    let s = g.O.UserOs.state c.args.os.now in
    let n = g.O.UserOs.slot c.args.os.now in
    let called = caller s n (g.O.UserOs.disk c.args.os.now) in
    let block = c.args.at / BLKSIZE % CACHE_BLOCKS in
    let files = around g.H.Host.files c.args.host.now c.block_step.new.host in
    let ready = g.O.UserOs.state c.block_step.new.os in
    let printed = output g.H.Host.console g.O.UserOs.written (from_to c.args.host.now c.block_step.new.host) (from_to c.args.os.now c.block_step.new.os) in
    let va = c.in-Ok-Ready.va in
    let made = subst (λ (x : Cached). IsBlockStep block called (Ok x) files ready printed) c.in-Ok-Ready.field-0-is c.in-Ok-Ready.ensures.made in
    let mid = g.O.UserOs.state c.access.new.os in
    let told = output g.H.Host.console g.O.UserOs.written (from_to c.block_step.new.host c.access.new.host) (from_to c.block_step.new.os c.access.new.os) in
    let call = subst (λ (k : KernelState). IsAccess c.args.ask (va + c.args.at % BLKSIZE) k n (Ok c.in-Ok.word) mid told) made.2
    (subst (λ (m : ℕ). IsAccess c.args.ask (va + c.args.at % BLKSIZE) ready m (Ok c.in-Ok.word) mid told) c.block_step.ensures.slot c.in-Ok.ensures.step) in
    ready_word c.args.ask c.args.at called c.requires.place mid told c.access.ensures.in_order va made.0 made.1
    (around g.H.Host.files c.args.host.now c.access.new.host) (c.access.ensures.rest.first ∙ made.3) c.in-Ok.word call

pub returns-in-Ok-clause-kept : goal.returns-in-Ok-clause-kept
returns-in-Ok-clause-kept g c =
    let s = g.O.UserOs.state c.args.os.now in
    let n = g.O.UserOs.slot c.args.os.now in
    let called = caller s n (g.O.UserOs.disk c.args.os.now) in
    let block = c.args.at / BLKSIZE % CACHE_BLOCKS in
    let files = around g.H.Host.files c.args.host.now c.block_step.new.host in
    let ready = g.O.UserOs.state c.block_step.new.os in
    let printed = output g.H.Host.console g.O.UserOs.written (from_to c.args.host.now c.block_step.new.host) (from_to c.args.os.now c.block_step.new.os) in
    let va = c.in-Ok-Ready.va in
    let made = subst (λ (x : Cached). IsBlockStep block called (Ok x) files ready printed) c.in-Ok-Ready.field-0-is c.in-Ok-Ready.ensures.made in
    let mid = g.O.UserOs.state c.access.new.os in
    let told = output g.H.Host.console g.O.UserOs.written (from_to c.block_step.new.host c.access.new.host) (from_to c.block_step.new.os c.access.new.os) in
    let call = subst (λ (k : KernelState). IsAccess c.args.ask (va + c.args.at % BLKSIZE) k n (Ok c.in-Ok.word) mid told) made.2
    (subst (λ (m : ℕ). IsAccess c.args.ask (va + c.args.at % BLKSIZE) ready m (Ok c.in-Ok.word) mid told) c.block_step.ensures.slot c.in-Ok.ensures.step) in
    access_slot c.args.ask s mid n (va + c.args.at % BLKSIZE) c.in-Ok.word told call

pub returns-in-Ok-NoPage-clause-kept : goal.returns-in-Ok-NoPage-clause-kept
returns-in-Ok-NoPage-clause-kept g c =
    let s = g.O.UserOs.state c.args.os.now in
    let n = g.O.UserOs.slot c.args.os.now in
    let called = caller s n (g.O.UserOs.disk c.args.os.now) in
    let block = c.args.at / BLKSIZE % CACHE_BLOCKS in
    let files = around g.H.Host.files c.args.host.now c.block_step.new.host in
    let ready = g.O.UserOs.state c.block_step.new.os in
    let printed = output g.H.Host.console g.O.UserOs.written (from_to c.args.host.now c.block_step.new.host) (from_to c.args.os.now c.block_step.new.os) in
    let made = subst (λ (x : Cached). IsBlockStep block called (Ok x) files ready printed) c.in-Ok-NoPage.field-0-is c.in-Ok-NoPage.ensures.made in
    lacking_lives block called files made.0 ready printed c.requires.live made.1 made.2

pub returns-in-Err-Upcall-clause-told : goal.returns-in-Err-Upcall-clause-told
returns-in-Err-Upcall-clause-told g c =
    let s = g.O.UserOs.state c.args.os.now in
    let n = g.O.UserOs.slot c.args.os.now in
    let called = caller s n (g.O.UserOs.disk c.args.os.now) in
    let block = c.args.at / BLKSIZE % CACHE_BLOCKS in
    let files = around g.H.Host.files c.args.host.now c.block_step.new.host in
    let ready = g.O.UserOs.state c.block_step.new.os in
    let printed = output g.H.Host.console g.O.UserOs.written (from_to c.args.host.now c.block_step.new.host) (from_to c.args.os.now c.block_step.new.os) in
    let va = c.in-Ok-Ready.va in
    let made = subst (λ (x : Cached). IsBlockStep block called (Ok x) files ready printed) c.in-Ok-Ready.field-0-is c.in-Ok-Ready.ensures.made in
    let mid = g.O.UserOs.state c.access.new.os in
    let told = output g.H.Host.console g.O.UserOs.written (from_to c.block_step.new.host c.access.new.host) (from_to c.block_step.new.os c.access.new.os) in
    let call = subst (λ (k : KernelState). IsAccess c.args.ask (va + c.args.at % BLKSIZE) k n (Err c.in-Err-Upcall.field-0) mid told) made.2
    (subst (λ (m : ℕ). IsAccess c.args.ask (va + c.args.at % BLKSIZE) ready m (Err c.in-Err-Upcall.field-0) mid told) c.block_step.ensures.slot c.in-Err-Upcall.ensures.step) in
    ready_stopped c.args.ask c.args.at called c.requires.place mid told c.access.ensures.in_order va made.0 made.1
    (around g.H.Host.files c.args.host.now c.access.new.host) c.in-Err-Upcall.field-0 call

pub returns-in-Ok-Going-clause-told : goal.returns-in-Ok-Going-clause-told
returns-in-Ok-Going-clause-told g c =
    let s = g.O.UserOs.state c.args.os.now in
    let n = g.O.UserOs.slot c.args.os.now in
    let called = caller s n (g.O.UserOs.disk c.args.os.now) in
    let block = c.args.at / BLKSIZE % CACHE_BLOCKS in
    let files = around g.H.Host.files c.args.host.now c.block_step.new.host in
    let ready = g.O.UserOs.state c.block_step.new.os in
    let printed = output g.H.Host.console g.O.UserOs.written (from_to c.args.host.now c.block_step.new.host) (from_to c.args.os.now c.block_step.new.os) in
    cache_going c.args.ask block called (omega arith) files ready printed c.args.at c.requires.place refl
    (subst (λ (x : Cached). IsBlockStep block called (Ok x) files ready printed) c.in-Ok-Going.field-0-is c.in-Ok-Going.ensures.made)
    (subst (λ (x : Cached). KeepsCacheWhereDone (Ok x) called.disk n (from_to s ready) files) c.in-Ok-Going.field-0-is c.in-Ok-Going.ensures.cache)
    (subst (λ (x : Cached). FetchTold block (Ok x) called.disk n (from_to s ready) files.before) c.in-Ok-Going.field-0-is c.in-Ok-Going.ensures.tells)

pub returns-in-Ok-NoPage-clause-told : goal.returns-in-Ok-NoPage-clause-told
returns-in-Ok-NoPage-clause-told g c =
    let s = g.O.UserOs.state c.args.os.now in
    let n = g.O.UserOs.slot c.args.os.now in
    let called = caller s n (g.O.UserOs.disk c.args.os.now) in
    let block = c.args.at / BLKSIZE % CACHE_BLOCKS in
    let files = around g.H.Host.files c.args.host.now c.block_step.new.host in
    let ready = g.O.UserOs.state c.block_step.new.os in
    let printed = output g.H.Host.console g.O.UserOs.written (from_to c.args.host.now c.block_step.new.host) (from_to c.args.os.now c.block_step.new.os) in
    cache_lacks c.args.ask block called (omega arith) files ready printed
    (subst (λ (x : Cached). IsBlockStep block called (Ok x) files ready printed) c.in-Ok-NoPage.field-0-is c.in-Ok-NoPage.ensures.made)
    (subst (λ (x : Cached). KeepsCacheWhereDone (Ok x) called.disk n (from_to s ready) files) c.in-Ok-NoPage.field-0-is c.in-Ok-NoPage.ensures.cache)
    (subst (λ (x : Cached). FetchTold block (Ok x) called.disk n (from_to s ready) files.before) c.in-Ok-NoPage.field-0-is c.in-Ok-NoPage.ensures.tells)

-- ---- what is left

pub returns-in-Ok-clause-leaves : goal.returns-in-Ok-clause-leaves
returns-in-Ok-clause-leaves g c =
    let s = g.O.UserOs.state c.args.os.now in
    let n = g.O.UserOs.slot c.args.os.now in
    let called = caller s n (g.O.UserOs.disk c.args.os.now) in
    let block = c.args.at / BLKSIZE % CACHE_BLOCKS in
    let files = around g.H.Host.files c.args.host.now c.block_step.new.host in
    let ready = g.O.UserOs.state c.block_step.new.os in
    let printed = output g.H.Host.console g.O.UserOs.written (from_to c.args.host.now c.block_step.new.host) (from_to c.args.os.now c.block_step.new.os) in
    let va = c.in-Ok-Ready.va in
    let made = subst (λ (x : Cached). IsBlockStep block called (Ok x) files ready printed) c.in-Ok-Ready.field-0-is c.in-Ok-Ready.ensures.made in
    let mid = g.O.UserOs.state c.access.new.os in
    let told = output g.H.Host.console g.O.UserOs.written (from_to c.block_step.new.host c.access.new.host) (from_to c.block_step.new.os c.access.new.os) in
    let call = subst (λ (k : KernelState). IsAccess c.args.ask (va + c.args.at % BLKSIZE) k n (Ok c.in-Ok.word) mid told) made.2
    (subst (λ (m : ℕ). IsAccess c.args.ask (va + c.args.at % BLKSIZE) ready m (Ok c.in-Ok.word) mid told) c.block_step.ensures.slot c.in-Ok.ensures.step) in
    let left = access_rest c.args.ask s mid n (va + c.args.at % BLKSIZE) c.in-Ok.word told call in
    λ before is h inside. (quiet_from told (g.H.Host.console c.args.host.now) (g.O.UserOs.written c.args.os.now) made.4 made.5 left.0, left.1)

pub returns-in-Err-Upcall-clause-leaves : goal.returns-in-Err-Upcall-clause-leaves
returns-in-Err-Upcall-clause-leaves g c =
    let s = g.O.UserOs.state c.args.os.now in
    let n = g.O.UserOs.slot c.args.os.now in
    let called = caller s n (g.O.UserOs.disk c.args.os.now) in
    let block = c.args.at / BLKSIZE % CACHE_BLOCKS in
    let files = around g.H.Host.files c.args.host.now c.block_step.new.host in
    let ready = g.O.UserOs.state c.block_step.new.os in
    let printed = output g.H.Host.console g.O.UserOs.written (from_to c.args.host.now c.block_step.new.host) (from_to c.args.os.now c.block_step.new.os) in
    let va = c.in-Ok-Ready.va in
    let made = subst (λ (x : Cached). IsBlockStep block called (Ok x) files ready printed) c.in-Ok-Ready.field-0-is c.in-Ok-Ready.ensures.made in
    let mid = g.O.UserOs.state c.access.new.os in
    let told = output g.H.Host.console g.O.UserOs.written (from_to c.block_step.new.host c.access.new.host) (from_to c.block_step.new.os c.access.new.os) in
    let call = subst (λ (k : KernelState). IsAccess c.args.ask (va + c.args.at % BLKSIZE) k n (Err c.in-Err-Upcall.field-0) mid told) made.2
    (subst (λ (m : ℕ). IsAccess c.args.ask (va + c.args.at % BLKSIZE) ready m (Err c.in-Err-Upcall.field-0) mid told) c.block_step.ensures.slot c.in-Err-Upcall.ensures.step) in
    ready_leaves c.args.ask c.args.at called c.requires.place mid told c.access.ensures.in_order va made.0 made.1 files.before c.in-Err-Upcall.field-0
    (output g.H.Host.console g.O.UserOs.written (from_to c.args.host.now c.access.new.host) (from_to c.args.os.now c.access.new.os)) call

pub returns-in-Ok-Going-clause-leaves : goal.returns-in-Ok-Going-clause-leaves
returns-in-Ok-Going-clause-leaves g c =
    let s = g.O.UserOs.state c.args.os.now in
    let n = g.O.UserOs.slot c.args.os.now in
    let called = caller s n (g.O.UserOs.disk c.args.os.now) in
    let block = c.args.at / BLKSIZE % CACHE_BLOCKS in
    let files = around g.H.Host.files c.args.host.now c.block_step.new.host in
    let ready = g.O.UserOs.state c.block_step.new.os in
    let printed = output g.H.Host.console g.O.UserOs.written (from_to c.args.host.now c.block_step.new.host) (from_to c.args.os.now c.block_step.new.os) in
    let made = subst (λ (x : Cached). IsBlockStep block called (Ok x) files ready printed) c.in-Ok-Going.field-0-is c.in-Ok-Going.ensures.made in
    cache_leaves c.args.ask block called (omega arith) files ready printed made.0 Going made.2

pub returns-in-Ok-NoPage-clause-leaves : goal.returns-in-Ok-NoPage-clause-leaves
returns-in-Ok-NoPage-clause-leaves g c =
    let s = g.O.UserOs.state c.args.os.now in
    let n = g.O.UserOs.slot c.args.os.now in
    let called = caller s n (g.O.UserOs.disk c.args.os.now) in
    let block = c.args.at / BLKSIZE % CACHE_BLOCKS in
    let files = around g.H.Host.files c.args.host.now c.block_step.new.host in
    let ready = g.O.UserOs.state c.block_step.new.os in
    let printed = output g.H.Host.console g.O.UserOs.written (from_to c.args.host.now c.block_step.new.host) (from_to c.args.os.now c.block_step.new.os) in
    let made = subst (λ (x : Cached). IsBlockStep block called (Ok x) files ready printed) c.in-Ok-NoPage.field-0-is c.in-Ok-NoPage.ensures.made in
    cache_leaves c.args.ask block called (omega arith) files ready printed made.0 NoPage made.2

pub returns-in-Err-Failed-clause-leaves : goal.returns-in-Err-Failed-clause-leaves
returns-in-Err-Failed-clause-leaves g c =
    let s = g.O.UserOs.state c.args.os.now in
    let n = g.O.UserOs.slot c.args.os.now in
    let called = caller s n (g.O.UserOs.disk c.args.os.now) in
    let block = c.args.at / BLKSIZE % CACHE_BLOCKS in
    let files = around g.H.Host.files c.args.host.now c.block_step.new.host in
    let ready = g.O.UserOs.state c.block_step.new.os in
    let printed = output g.H.Host.console g.O.UserOs.written (from_to c.args.host.now c.block_step.new.host) (from_to c.args.os.now c.block_step.new.os) in
    let va = c.in-Ok-Ready.va in
    let made = subst (λ (x : Cached). IsBlockStep block called (Ok x) files ready printed) c.in-Ok-Ready.field-0-is c.in-Ok-Ready.ensures.made in
    let mid = g.O.UserOs.state c.access.new.os in
    let told = output g.H.Host.console g.O.UserOs.written (from_to c.block_step.new.host c.access.new.host) (from_to c.block_step.new.os c.access.new.os) in
    let there = subst (λ (why : Stop). IsAccess c.args.ask (va + c.args.at % BLKSIZE) ready (g.O.UserOs.slot c.block_step.new.os) (Err why) mid told)
    c.in-Err-Failed.field-0-is c.in-Err-Failed.ensures.step in
    let call = subst (λ (k : KernelState). IsAccess c.args.ask (va + c.args.at % BLKSIZE) k n (Err stop.Failed) mid told) made.2
    (subst (λ (m : ℕ). IsAccess c.args.ask (va + c.args.at % BLKSIZE) ready m (Err stop.Failed) mid told) c.block_step.ensures.slot there) in
    ready_failed c.args.ask c.args.at called c.requires.place mid told c.access.ensures.in_order va made.0 made.1 files.before (record {})
    (output g.H.Host.console g.O.UserOs.written (from_to c.args.host.now c.access.new.host) (from_to c.args.os.now c.access.new.os)) call

pub returns-in-Err-clause-leaves : goal.returns-in-Err-clause-leaves
returns-in-Err-clause-leaves g c =
    let s = g.O.UserOs.state c.args.os.now in
    let n = g.O.UserOs.slot c.args.os.now in
    let called = caller s n (g.O.UserOs.disk c.args.os.now) in
    let block = c.args.at / BLKSIZE % CACHE_BLOCKS in
    let files = around g.H.Host.files c.args.host.now c.block_step.new.host in
    let ready = g.O.UserOs.state c.block_step.new.os in
    let printed = output g.H.Host.console g.O.UserOs.written (from_to c.args.host.now c.block_step.new.host) (from_to c.args.os.now c.block_step.new.os) in
    cache_failed c.args.ask block called (omega arith) files ready printed c.in-Err.failed c.in-Err.ensures.made

-- ---- the call

pub returns-in-Ok-clause-call : goal.returns-in-Ok-clause-call
returns-in-Ok-clause-call g c =
    let s = g.O.UserOs.state c.args.os.now in
    let n = g.O.UserOs.slot c.args.os.now in
    let called = caller s n (g.O.UserOs.disk c.args.os.now) in
    let block = c.args.at / BLKSIZE % CACHE_BLOCKS in
    let files = around g.H.Host.files c.args.host.now c.block_step.new.host in
    let ready = g.O.UserOs.state c.block_step.new.os in
    let printed = output g.H.Host.console g.O.UserOs.written (from_to c.args.host.now c.block_step.new.host) (from_to c.args.os.now c.block_step.new.os) in
    let va = c.in-Ok-Ready.va in
    let made = subst (λ (x : Cached). IsBlockStep block called (Ok x) files ready printed) c.in-Ok-Ready.field-0-is c.in-Ok-Ready.ensures.made in
    let mid = g.O.UserOs.state c.access.new.os in
    let told = output g.H.Host.console g.O.UserOs.written (from_to c.block_step.new.host c.access.new.host) (from_to c.block_step.new.os c.access.new.os) in
    let call = subst (λ (k : KernelState). IsAccess c.args.ask (va + c.args.at % BLKSIZE) k n (Ok c.in-Ok.word) mid told) made.2
    (subst (λ (m : ℕ). IsAccess c.args.ask (va + c.args.at % BLKSIZE) ready m (Ok c.in-Ok.word) mid told) c.block_step.ensures.slot c.in-Ok.ensures.step) in
    ready_calls c.args.ask c.args.at called c.requires.place mid told c.access.ensures.in_order va made.0 made.1
    (around g.H.Host.files c.args.host.now c.access.new.host) (Word c.in-Ok.word) c.in-Ok.word call

pub returns-in-Err-Upcall-clause-call : goal.returns-in-Err-Upcall-clause-call
returns-in-Err-Upcall-clause-call g c =
    let s = g.O.UserOs.state c.args.os.now in
    let n = g.O.UserOs.slot c.args.os.now in
    let called = caller s n (g.O.UserOs.disk c.args.os.now) in
    let block = c.args.at / BLKSIZE % CACHE_BLOCKS in
    let files = around g.H.Host.files c.args.host.now c.block_step.new.host in
    let ready = g.O.UserOs.state c.block_step.new.os in
    let printed = output g.H.Host.console g.O.UserOs.written (from_to c.args.host.now c.block_step.new.host) (from_to c.args.os.now c.block_step.new.os) in
    let va = c.in-Ok-Ready.va in
    let made = subst (λ (x : Cached). IsBlockStep block called (Ok x) files ready printed) c.in-Ok-Ready.field-0-is c.in-Ok-Ready.ensures.made in
    let mid = g.O.UserOs.state c.access.new.os in
    let told = output g.H.Host.console g.O.UserOs.written (from_to c.block_step.new.host c.access.new.host) (from_to c.block_step.new.os c.access.new.os) in
    let call = subst (λ (k : KernelState). IsAccess c.args.ask (va + c.args.at % BLKSIZE) k n (Err c.in-Err-Upcall.field-0) mid told) made.2
    (subst (λ (m : ℕ). IsAccess c.args.ask (va + c.args.at % BLKSIZE) ready m (Err c.in-Err-Upcall.field-0) mid told) c.block_step.ensures.slot c.in-Err-Upcall.ensures.step) in
    ready_never_calls c.args.ask c.args.at called c.requires.place mid told c.access.ensures.in_order va made.0 made.1
    (around g.H.Host.files c.args.host.now c.access.new.host) c.in-Err-Upcall.field-0 call

pub returns-in-Ok-Going-clause-call : goal.returns-in-Ok-Going-clause-call
returns-in-Ok-Going-clause-call g c =
    let s = g.O.UserOs.state c.args.os.now in
    let n = g.O.UserOs.slot c.args.os.now in
    let called = caller s n (g.O.UserOs.disk c.args.os.now) in
    let block = c.args.at / BLKSIZE % CACHE_BLOCKS in
    let files = around g.H.Host.files c.args.host.now c.block_step.new.host in
    let ready = g.O.UserOs.state c.block_step.new.os in
    let printed = output g.H.Host.console g.O.UserOs.written (from_to c.args.host.now c.block_step.new.host) (from_to c.args.os.now c.block_step.new.os) in
    let made = subst (λ (x : Cached). IsBlockStep block called (Ok x) files ready printed) c.in-Ok-Going.field-0-is c.in-Ok-Going.ensures.made in
    cache_calls c.args.ask block called (omega arith) files ready printed c.args.at c.requires.place refl made.0 Going made.2

pub returns-in-Ok-NoPage-clause-call : goal.returns-in-Ok-NoPage-clause-call
returns-in-Ok-NoPage-clause-call g c =
    let s = g.O.UserOs.state c.args.os.now in
    let n = g.O.UserOs.slot c.args.os.now in
    let called = caller s n (g.O.UserOs.disk c.args.os.now) in
    let block = c.args.at / BLKSIZE % CACHE_BLOCKS in
    let files = around g.H.Host.files c.args.host.now c.block_step.new.host in
    let ready = g.O.UserOs.state c.block_step.new.os in
    let printed = output g.H.Host.console g.O.UserOs.written (from_to c.args.host.now c.block_step.new.host) (from_to c.args.os.now c.block_step.new.os) in
    let made = subst (λ (x : Cached). IsBlockStep block called (Ok x) files ready printed) c.in-Ok-NoPage.field-0-is c.in-Ok-NoPage.ensures.made in
    cache_calls c.args.ask block called (omega arith) files ready printed c.args.at c.requires.place refl made.0 NoPage made.2

pub returns-in-Ok-clause-made : goal.returns-in-Ok-clause-made
returns-in-Ok-clause-made g c =
    let s = g.O.UserOs.state c.args.os.now in
    let n = g.O.UserOs.slot c.args.os.now in
    let called = caller s n (g.O.UserOs.disk c.args.os.now) in
    let block = c.args.at / BLKSIZE % CACHE_BLOCKS in
    let files = around g.H.Host.files c.args.host.now c.block_step.new.host in
    let ready = g.O.UserOs.state c.block_step.new.os in
    let printed = output g.H.Host.console g.O.UserOs.written (from_to c.args.host.now c.block_step.new.host) (from_to c.args.os.now c.block_step.new.os) in
    let va = c.in-Ok-Ready.va in
    let made = subst (λ (x : Cached). IsBlockStep block called (Ok x) files ready printed) c.in-Ok-Ready.field-0-is c.in-Ok-Ready.ensures.made in
    let mid = g.O.UserOs.state c.access.new.os in
    let told = output g.H.Host.console g.O.UserOs.written (from_to c.block_step.new.host c.access.new.host) (from_to c.block_step.new.os c.access.new.os) in
    let whole = output g.H.Host.console g.O.UserOs.written (from_to c.args.host.now c.access.new.host) (from_to c.args.os.now c.access.new.os) in
    let same : told ≡ whole = λ i. record {
      console = from_to (made.4 i) (g.H.Host.console c.access.new.host);
      count = from_to (made.5 i) (g.O.UserOs.written c.access.new.os);
    } in
    let own = subst (λ (x : ℕ). is_server_page (page_number (x + c.args.at % BLKSIZE)) ≡ true) (sym made.1)
    (in_block block (c.args.at % BLKSIZE) (omega arith) (omega arith)) in
    let call = subst (λ (k : KernelState). IsAccess c.args.ask (va + c.args.at % BLKSIZE) k n (Ok c.in-Ok.word) mid told) made.2
    (subst (λ (m : ℕ). IsAccess c.args.ask (va + c.args.at % BLKSIZE) ready m (Ok c.in-Ok.word) mid told) c.block_step.ensures.slot c.in-Ok.ensures.step) in
    access_made s mid n called.disk (around g.H.Host.files c.args.host.now c.access.new.host) whole (c.access.ensures.rest.first ∙ made.3)
    (va + c.args.at % BLKSIZE) own c.args.ask c.in-Ok.word (subst (λ (o : Output). IsAccess c.args.ask (va + c.args.at % BLKSIZE) s n (Ok c.in-Ok.word) mid o) same call)

pub returns-in-Err-Upcall-clause-made : goal.returns-in-Err-Upcall-clause-made
returns-in-Err-Upcall-clause-made g c =
    let s = g.O.UserOs.state c.args.os.now in
    let n = g.O.UserOs.slot c.args.os.now in
    let called = caller s n (g.O.UserOs.disk c.args.os.now) in
    let block = c.args.at / BLKSIZE % CACHE_BLOCKS in
    let files = around g.H.Host.files c.args.host.now c.block_step.new.host in
    let ready = g.O.UserOs.state c.block_step.new.os in
    let printed = output g.H.Host.console g.O.UserOs.written (from_to c.args.host.now c.block_step.new.host) (from_to c.args.os.now c.block_step.new.os) in
    let va = c.in-Ok-Ready.va in
    let made = subst (λ (x : Cached). IsBlockStep block called (Ok x) files ready printed) c.in-Ok-Ready.field-0-is c.in-Ok-Ready.ensures.made in
    let mid = g.O.UserOs.state c.access.new.os in
    let told = output g.H.Host.console g.O.UserOs.written (from_to c.block_step.new.host c.access.new.host) (from_to c.block_step.new.os c.access.new.os) in
    let whole = output g.H.Host.console g.O.UserOs.written (from_to c.args.host.now c.access.new.host) (from_to c.args.os.now c.access.new.os) in
    let same : told ≡ whole = λ i. record {
      console = from_to (made.4 i) (g.H.Host.console c.access.new.host);
      count = from_to (made.5 i) (g.O.UserOs.written c.access.new.os);
    } in
    let own = subst (λ (x : ℕ). is_server_page (page_number (x + c.args.at % BLKSIZE)) ≡ true) (sym made.1)
    (in_block block (c.args.at % BLKSIZE) (omega arith) (omega arith)) in
    let call = subst (λ (k : KernelState). IsAccess c.args.ask (va + c.args.at % BLKSIZE) k n (Err c.in-Err-Upcall.field-0) mid told) made.2
    (subst (λ (m : ℕ). IsAccess c.args.ask (va + c.args.at % BLKSIZE) ready m (Err c.in-Err-Upcall.field-0) mid told) c.block_step.ensures.slot c.in-Err-Upcall.ensures.step) in
    let other : c.in-Err-Upcall.field-0 ≢ stop.Failed = grind arith in
    access_faulted s mid n called.disk (around g.H.Host.files c.args.host.now c.access.new.host) whole (c.access.ensures.rest.first ∙ made.3)
    (va + c.args.at % BLKSIZE) own c.args.ask c.in-Err-Upcall.field-0 other
    (subst (λ (o : Output). IsAccess c.args.ask (va + c.args.at % BLKSIZE) s n (Err c.in-Err-Upcall.field-0) mid o) same call)

pub returns-in-Ok-Going-clause-made : goal.returns-in-Ok-Going-clause-made
returns-in-Ok-Going-clause-made g c =
    let s = g.O.UserOs.state c.args.os.now in
    let n = g.O.UserOs.slot c.args.os.now in
    let called = caller s n (g.O.UserOs.disk c.args.os.now) in
    let block = c.args.at / BLKSIZE % CACHE_BLOCKS in
    let files = around g.H.Host.files c.args.host.now c.block_step.new.host in
    let ready = g.O.UserOs.state c.block_step.new.os in
    let printed = output g.H.Host.console g.O.UserOs.written (from_to c.args.host.now c.block_step.new.host) (from_to c.args.os.now c.block_step.new.os) in
    let made = subst (λ (x : Cached). IsBlockStep block called (Ok x) files ready printed) c.in-Ok-Going.field-0-is c.in-Ok-Going.ensures.made in
    gone_makes (fetch_state s n block) called files made.0 ready printed made.2

pub returns-in-Ok-NoPage-clause-made : goal.returns-in-Ok-NoPage-clause-made
returns-in-Ok-NoPage-clause-made g c =
    let s = g.O.UserOs.state c.args.os.now in
    let n = g.O.UserOs.slot c.args.os.now in
    let called = caller s n (g.O.UserOs.disk c.args.os.now) in
    let block = c.args.at / BLKSIZE % CACHE_BLOCKS in
    let files = around g.H.Host.files c.args.host.now c.block_step.new.host in
    let ready = g.O.UserOs.state c.block_step.new.os in
    let printed = output g.H.Host.console g.O.UserOs.written (from_to c.args.host.now c.block_step.new.host) (from_to c.args.os.now c.block_step.new.os) in
    let made = subst (λ (x : Cached). IsBlockStep block called (Ok x) files ready printed) c.in-Ok-NoPage.field-0-is c.in-Ok-NoPage.ensures.made in
    gone_makes (fetch_state s n block) called files made.0 ready printed made.2

-- ---- the host's files and its console

pub returns-in-Ok-clause-disk_only : goal.returns-in-Ok-clause-disk_only
returns-in-Ok-clause-disk_only g c =
    then_leaves (g.O.UserOs.disk c.args.os.now) (around g.H.Host.files c.args.host.now c.block_step.new.host)
    (around g.H.Host.asked c.args.host.now c.block_step.new.host) c.block_step.ensures.disk_only (g.H.Host.files c.access.new.host)
    (g.H.Host.asked c.access.new.host) c.access.ensures.rest.first c.access.ensures.rest.third

pub returns-in-Err-Failed-clause-disk_only : goal.returns-in-Err-Failed-clause-disk_only
returns-in-Err-Failed-clause-disk_only g c =
    then_leaves (g.O.UserOs.disk c.args.os.now) (around g.H.Host.files c.args.host.now c.block_step.new.host)
    (around g.H.Host.asked c.args.host.now c.block_step.new.host) c.block_step.ensures.disk_only (g.H.Host.files c.access.new.host)
    (g.H.Host.asked c.access.new.host) c.access.ensures.rest.first c.access.ensures.rest.third

pub returns-in-Err-Upcall-clause-disk_only : goal.returns-in-Err-Upcall-clause-disk_only
returns-in-Err-Upcall-clause-disk_only g c =
    then_leaves (g.O.UserOs.disk c.args.os.now) (around g.H.Host.files c.args.host.now c.block_step.new.host)
    (around g.H.Host.asked c.args.host.now c.block_step.new.host) c.block_step.ensures.disk_only (g.H.Host.files c.access.new.host)
    (g.H.Host.asked c.access.new.host) c.access.ensures.rest.first c.access.ensures.rest.third

pub returns-in-Ok-Going-clause-disk_only : goal.returns-in-Ok-Going-clause-disk_only
returns-in-Ok-Going-clause-disk_only g c = c.block_step.ensures.disk_only

pub returns-in-Ok-NoPage-clause-disk_only : goal.returns-in-Ok-NoPage-clause-disk_only
returns-in-Ok-NoPage-clause-disk_only g c = c.block_step.ensures.disk_only

pub returns-in-Err-clause-disk_only : goal.returns-in-Err-clause-disk_only
returns-in-Err-clause-disk_only g c = c.block_step.ensures.disk_only

pub returns-in-Err-Failed-clause-failed : goal.returns-in-Err-Failed-clause-failed
returns-in-Err-Failed-clause-failed g c =
    let called = caller (g.O.UserOs.state c.args.os.now) (g.O.UserOs.slot c.args.os.now) (g.O.UserOs.disk c.args.os.now) in
    let block = c.args.at / BLKSIZE % CACHE_BLOCKS in
    let files = around g.H.Host.files c.args.host.now c.block_step.new.host in
    let ready = g.O.UserOs.state c.block_step.new.os in
    let printed = output g.H.Host.console g.O.UserOs.written (from_to c.args.host.now c.block_step.new.host) (from_to c.args.os.now c.block_step.new.os) in
    let va = c.in-Ok-Ready.va in
    let made = subst (λ (x : Cached). IsBlockStep block called (Ok x) files ready printed) c.in-Ok-Ready.field-0-is c.in-Ok-Ready.ensures.made in
    let mid = g.O.UserOs.state c.access.new.os in
    let told = output g.H.Host.console g.O.UserOs.written (from_to c.block_step.new.host c.access.new.host) (from_to c.block_step.new.os c.access.new.os) in
    let whole = output g.H.Host.console g.O.UserOs.written (from_to c.args.host.now c.access.new.host) (from_to c.args.os.now c.access.new.os) in
    let same : told ≡ whole = λ i. record {
      console = from_to (made.4 i) (g.H.Host.console c.access.new.host);
      count = from_to (made.5 i) (g.O.UserOs.written c.access.new.os);
    } in
    let slot = g.O.UserOs.slot c.block_step.new.os in
    subst (λ (o : Output). PrintsPartOfSome o) same
    (access_failed c.args.ask (va + c.args.at % BLKSIZE) ready slot mid told
    (subst (λ (why : Stop). IsAccess c.args.ask (va + c.args.at % BLKSIZE) ready slot (Err why) mid told) c.in-Err-Failed.field-0-is c.in-Err-Failed.ensures.step))

pub returns-in-Err-clause-failed : goal.returns-in-Err-clause-failed
returns-in-Err-clause-failed g c = c.in-Err.ensures.failed
