use Rattle.std.proofs.Common.{◌≡◌, ◌∙◌, ℕ, true, sym, subst}
use Rattle.jos_host.specs.Frames.{around, from_to}
use Rattle.jos_base.specs.Environments.{is_live}
use Rattle.jos_base.specs.KernelState.{slot_at}
use Rattle.lib_os.specs.Disk.{DiskFile, HasBlocks}
use Rattle.lib_os.specs.UserCalls.{output}
use Rattle.fs_cache.specs.CacheSteps.{caller}
use Rattle.fs_cache.proofs.Callers.{caller_stays}
use Rattle.fs_cache.proofs.StepMade.{by_end, by_upcall, gone_by_word, gone_stopped}
use Rattle.fs_cache.proofs.StepWhole.{whole_behind, whole_stopped}
use Rattle.fs_cache.proofs.steps.step.Goals as goal

pub extra-words-requires : goal.extra-words-requires
extra-words-requires g c =
    let s = g.O.UserOs.state c.args.os.now in
    let called = caller s (g.O.UserOs.slot c.args.os.now) (g.O.UserOs.disk c.args.os.now) in
    let printed = output g.H.Host.console g.O.UserOs.written (from_to c.args.host.now c.reply.new.host) (from_to c.args.os.now c.reply.new.os) in
    let stays = caller_stays c.ask_at.result called (g.H.Host.files c.args.host.now) c.in-Ok.word (g.O.UserOs.state c.reply.new.os) printed
    c.ask_at.ensures.own c.requires.live c.in-Ok.ensures.step in
    subst (λ (n : ℕ). is_live (slot_at (g.O.UserOs.state c.reply.new.os) n) ≡ true) (sym c.reply.ensures.slot) stays.live

pub set_extra-requires : goal.set_extra-requires
set_extra-requires g c =
    let s = g.O.UserOs.state c.args.os.now in
    let called = caller s (g.O.UserOs.slot c.args.os.now) (g.O.UserOs.disk c.args.os.now) in
    let printed = output g.H.Host.console g.O.UserOs.written (from_to c.args.host.now c.reply.new.host) (from_to c.args.os.now c.reply.new.os) in
    let stays = caller_stays c.ask_at.result called (g.H.Host.files c.args.host.now) c.in-Ok.word (g.O.UserOs.state c.reply.new.os) printed
    c.ask_at.ensures.own c.requires.live c.in-Ok.ensures.step in
    subst (λ (n : ℕ). is_live (slot_at (g.O.UserOs.state c.reply.new.os) n) ≡ true) (sym c.reply.ensures.slot) stays.live

pub returns-in-Ok-clause-made : goal.returns-in-Ok-clause-made
returns-in-Ok-clause-made g c =
    let s = g.O.UserOs.state c.args.os.now in
    let called = caller s (g.O.UserOs.slot c.args.os.now) (g.O.UserOs.disk c.args.os.now) in
    let files = around g.H.Host.files c.args.host.now c.reply.new.host in
    let mid = g.O.UserOs.state c.reply.new.os in
    let before = output g.H.Host.console g.O.UserOs.written (from_to c.args.host.now c.reply.new.host) (from_to c.args.os.now c.reply.new.os) in
    let behind = output g.H.Host.console g.O.UserOs.written (from_to c.args.host.now c.reply.new.host) (from_to c.args.os.now c.set_extra.new.self) in
    let same : before ≡ behind = λ i. record {
      console = around g.H.Host.console c.args.host.now c.reply.new.host;
      count = from_to (g.O.UserOs.written c.args.os.now) (sym c.set_extra.ensures.written i);
    } in
    gone_by_word c.args.state c.ask_at.result called files c.ask_at.ensures.asks c.in-Ok.word (g.O.UserOs.slot c.reply.new.os) c.next_at-next.result
    mid before c.next_at-next.ensures c.reply.ensures.slot c.in-Ok.ensures.step c.in-Ok.ensures.files c.extra-words.result.0 c.with_state.result.0
    (g.O.UserOs.state c.set_extra.new.self) behind c.extra-words.ensures c.with_state.ensures c.set_extra.ensures.state same

pub returns-in-Ok-clause-whole : goal.returns-in-Ok-clause-whole
returns-in-Ok-clause-whole g c =
    let called = caller (g.O.UserOs.state c.args.os.now) (g.O.UserOs.slot c.args.os.now) (g.O.UserOs.disk c.args.os.now) in
    let after = g.H.Host.files c.reply.new.host in
    subst (λ (d : DiskFile). HasBlocks after d) (sym (c.set_extra.ensures.disk ∙ c.reply.ensures.disk))
    (whole_behind c.ask_at.result called c.in-Ok.word (g.H.Host.files c.args.host.now) after c.requires.whole c.in-Ok.ensures.files)

pub returns-in-Err-Upcall-clause-made : goal.returns-in-Err-Upcall-clause-made
returns-in-Err-Upcall-clause-made g c =
    let called = caller (g.O.UserOs.state c.args.os.now) (g.O.UserOs.slot c.args.os.now) (g.O.UserOs.disk c.args.os.now) in
    let printed = output g.H.Host.console g.O.UserOs.written (from_to c.args.host.now c.reply.new.host) (from_to c.args.os.now c.reply.new.os) in
    gone_stopped c.args.state c.ask_at.result called (around g.H.Host.files c.args.host.now c.reply.new.host) c.ask_at.ensures.asks
    c.in-Err-Upcall.field-0 (g.O.UserOs.state c.reply.new.os) printed (λ e. by_upcall (sym c.in-Err-Upcall.field-0-is ∙ e))
    c.in-Err-Upcall.ensures.step c.in-Err-Upcall.ensures.files

pub returns-in-Err-Upcall-clause-whole : goal.returns-in-Err-Upcall-clause-whole
returns-in-Err-Upcall-clause-whole g c =
    let called = caller (g.O.UserOs.state c.args.os.now) (g.O.UserOs.slot c.args.os.now) (g.O.UserOs.disk c.args.os.now) in
    let printed = output g.H.Host.console g.O.UserOs.written (from_to c.args.host.now c.reply.new.host) (from_to c.args.os.now c.reply.new.os) in
    let after = g.H.Host.files c.reply.new.host in
    subst (λ (d : DiskFile). HasBlocks after d) (sym c.reply.ensures.disk)
    (whole_stopped c.ask_at.result called c.in-Err-Upcall.field-0 (g.H.Host.files c.args.host.now) after (g.O.UserOs.state c.reply.new.os) printed
    (λ e. by_upcall (sym c.in-Err-Upcall.field-0-is ∙ e)) c.in-Err-Upcall.ensures.step c.requires.whole c.in-Err-Upcall.ensures.files)

pub returns-in-Err-Ended-clause-made : goal.returns-in-Err-Ended-clause-made
returns-in-Err-Ended-clause-made g c =
    let called = caller (g.O.UserOs.state c.args.os.now) (g.O.UserOs.slot c.args.os.now) (g.O.UserOs.disk c.args.os.now) in
    let printed = output g.H.Host.console g.O.UserOs.written (from_to c.args.host.now c.reply.new.host) (from_to c.args.os.now c.reply.new.os) in
    gone_stopped c.args.state c.ask_at.result called (around g.H.Host.files c.args.host.now c.reply.new.host) c.ask_at.ensures.asks
    c.in-Err-Ended.field-0 (g.O.UserOs.state c.reply.new.os) printed (λ e. by_end (sym c.in-Err-Ended.field-0-is ∙ e))
    c.in-Err-Ended.ensures.step c.in-Err-Ended.ensures.files

pub returns-in-Err-Ended-clause-whole : goal.returns-in-Err-Ended-clause-whole
returns-in-Err-Ended-clause-whole g c =
    let called = caller (g.O.UserOs.state c.args.os.now) (g.O.UserOs.slot c.args.os.now) (g.O.UserOs.disk c.args.os.now) in
    let printed = output g.H.Host.console g.O.UserOs.written (from_to c.args.host.now c.reply.new.host) (from_to c.args.os.now c.reply.new.os) in
    let after = g.H.Host.files c.reply.new.host in
    subst (λ (d : DiskFile). HasBlocks after d) (sym c.reply.ensures.disk)
    (whole_stopped c.ask_at.result called c.in-Err-Ended.field-0 (g.H.Host.files c.args.host.now) after (g.O.UserOs.state c.reply.new.os) printed
    (λ e. by_end (sym c.in-Err-Ended.field-0-is ∙ e)) c.in-Err-Ended.ensures.step c.requires.whole c.in-Err-Ended.ensures.files)
