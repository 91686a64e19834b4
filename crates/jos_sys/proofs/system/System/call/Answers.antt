use Rattle.std.proofs.Common.{◌∙◌, [], true, refl, sym, ap, subst, arith}
use Rattle.jos_host.specs.Frames.{around}
use Rattle.jos_base.specs.Environments.{Slot, found}
use Rattle.jos_base.specs.SystemCalls.{answered, env_set_status_of}
use Rattle.jos_envs.proofs.Kept.{live_within}
use Rattle.jos_sys.specs.System.{state_of, left_of, Does}
use Rattle.jos_sys.proofs.Answering.{call_does, none_is_few, cgetc_is}
use Rattle.jos_sys.proofs.Dispatch.{is_cputs, is_cgetc, is_getenvid, is_env_destroy, is_exofork, is_env_set_status, is_yield, is_none}
use Rattle.jos_sys.proofs.Dispatch.{is_page_alloc, is_page_map, is_page_unmap, is_env_set_trapframe, is_env_set_pgfault_upcall, is_ipc_try_send, is_ipc_recv}
use Rattle.jos_sys.proofs.Dispatch.{cputs_fails, cputs_ended, env_set_trapframe_fails, env_set_trapframe_ended}
use Rattle.jos_sys.proofs.system.System.call.Goals as goal

pub environment-requires : goal.environment-requires
environment-requires g c = live_within c.args.self.now.table c.args.current c.requires.live

pub answer-requires-in-11-clause-live : goal.answer-requires-in-11-clause-live
answer-requires-in-11-clause-live g c = c.set_status.ensures.live c.args.current c.requires.live

pub returns-in-0-clause-told : goal.returns-in-0-clause-told
returns-in-0-clause-told g c =
    let input = left_of c.args.input.now in
    subst (λ did. Does c.cputs.result did (state_of c.cputs.new.self input) (around g.H.Host.console c.args.host.now c.cputs.new.host))
    (sym (is_cputs _ c.args.current _ (c.registers-registers.ensures input) c.in-0.is)) (c.cputs.ensures.told input)

pub returns-in-1-clause-told : goal.returns-in-1-clause-told
returns-in-1-clause-told g c =
    let input = left_of c.args.input.now in
    let left = left_of c.take-byte.new.self in
    call_does _
    (is_cgetc _ c.args.current _ (c.registers-registers.ensures input) c.in-1.is
    ∙ cgetc_is (state_of c.args.self.now input) c.args.current c.take-byte.result input left refl c.take-byte.ensures)
    (c.answer.ensures.state left)

pub returns-in-1-clause-small : goal.returns-in-1-clause-small
returns-in-1-clause-small g c = none_is_few (c.answer.ensures.state []).2

pub returns-in-2-clause-told : goal.returns-in-2-clause-told
returns-in-2-clause-told g c =
    let input = left_of c.args.input.now in
    call_does _
    (is_getenvid _ c.args.current _ (c.registers-registers.ensures input) c.in-2.is
    ∙ sym (ap (λ (z : Slot). answered (state_of c.args.self.now input) c.args.current z.id) (c.environment.ensures input)))
    (c.answer-in-2.ensures.state input)

pub returns-in-2-clause-small : goal.returns-in-2-clause-small
returns-in-2-clause-small g c = none_is_few (c.answer-in-2.ensures.state []).2

pub returns-in-3-clause-told : goal.returns-in-3-clause-told
returns-in-3-clause-told g c =
    let input = left_of c.args.input.now in
    call_does _ (is_env_destroy _ c.args.current _ (c.registers-registers.ensures input) c.in-3.is) (c.env_destroy.ensures.state input)

pub returns-in-3-clause-small : goal.returns-in-3-clause-small
returns-in-3-clause-small g c = none_is_few (c.env_destroy.ensures.state []).2

pub returns-in-7-clause-told : goal.returns-in-7-clause-told
returns-in-7-clause-told g c =
    let input = left_of c.args.input.now in
    call_does _ (is_exofork _ c.args.current _ (c.registers-registers.ensures input) c.in-7.is) (c.exofork.ensures.state input)

pub returns-in-7-clause-small : goal.returns-in-7-clause-small
returns-in-7-clause-small g c = none_is_few (c.exofork.ensures.state []).2

pub returns-in-8-clause-told : goal.returns-in-8-clause-told
returns-in-8-clause-told g c =
    let input = left_of c.args.input.now in
    let s = state_of c.args.self.now input in
    call_does _
    (is_env_set_status _ c.args.current _ (c.registers-registers.ensures input) c.in-8.is
    ∙ sym (ap (env_set_status_of s c.args.current (found s.environments c.registers-registers.result.edx c.args.current true)) c.status_named-status.ensures))
    (c.env_set_status.ensures.state input)

pub returns-in-8-clause-small : goal.returns-in-8-clause-small
returns-in-8-clause-small g c = none_is_few (c.env_set_status.ensures.state []).2

pub returns-in-11-clause-told : goal.returns-in-11-clause-told
returns-in-11-clause-told g c =
    let input = left_of c.args.input.now in
    call_does _
    (is_yield _ c.args.current _ (c.registers-registers.ensures input) c.in-11.is
    ∙ sym (ap (λ z. answered z c.args.current 0) (c.set_status.ensures.state input)))
    (c.answer-in-11.ensures.state input)

pub returns-in-11-clause-small : goal.returns-in-11-clause-small
returns-in-11-clause-small g c = none_is_few (c.answer-in-11.ensures.state []).2

pub returns-in-4-clause-told : goal.returns-in-4-clause-told
returns-in-4-clause-told g c =
    let input = left_of c.args.input.now in
    call_does _ (is_page_alloc _ c.args.current _ (c.registers-registers.ensures input) c.in-4.is) (c.page_alloc.ensures.state input)

pub returns-in-4-clause-small : goal.returns-in-4-clause-small
returns-in-4-clause-small g c = none_is_few (c.page_alloc.ensures.state []).2

pub returns-in-5-clause-told : goal.returns-in-5-clause-told
returns-in-5-clause-told g c =
    let input = left_of c.args.input.now in
    call_does _ (is_page_map _ c.args.current _ (c.registers-registers.ensures input) c.in-5.is) (c.page_map.ensures.state input)

pub returns-in-5-clause-small : goal.returns-in-5-clause-small
returns-in-5-clause-small g c = none_is_few (c.page_map.ensures.state []).2

pub returns-in-6-clause-told : goal.returns-in-6-clause-told
returns-in-6-clause-told g c =
    let input = left_of c.args.input.now in
    call_does _ (is_page_unmap _ c.args.current _ (c.registers-registers.ensures input) c.in-6.is) (c.page_unmap.ensures.state input)

pub returns-in-6-clause-small : goal.returns-in-6-clause-small
returns-in-6-clause-small g c = none_is_few (c.page_unmap.ensures.state []).2

pub returns-in-10-clause-told : goal.returns-in-10-clause-told
returns-in-10-clause-told g c =
    let input = left_of c.args.input.now in
    call_does _ (is_env_set_pgfault_upcall _ c.args.current _ (c.registers-registers.ensures input) c.in-10.is) (c.env_set_pgfault_upcall.ensures.state input)

pub returns-in-10-clause-small : goal.returns-in-10-clause-small
returns-in-10-clause-small g c = none_is_few (c.env_set_pgfault_upcall.ensures.state []).2

pub returns-in-12-clause-told : goal.returns-in-12-clause-told
returns-in-12-clause-told g c =
    let input = left_of c.args.input.now in
    call_does _ (is_ipc_try_send _ c.args.current _ (c.registers-registers.ensures input) c.in-12.is) (c.ipc_try_send.ensures.state input)

pub returns-in-12-clause-small : goal.returns-in-12-clause-small
returns-in-12-clause-small g c = none_is_few (c.ipc_try_send.ensures.state []).2

pub returns-in-13-clause-told : goal.returns-in-13-clause-told
returns-in-13-clause-told g c =
    let input = left_of c.args.input.now in
    call_does _ (is_ipc_recv _ c.args.current _ (c.registers-registers.ensures input) c.in-13.is) (c.ipc_recv.ensures.state input)

pub returns-in-13-clause-small : goal.returns-in-13-clause-small
returns-in-13-clause-small g c = none_is_few (c.ipc_recv.ensures.state []).2

pub returns-in-9-clause-told : goal.returns-in-9-clause-told
returns-in-9-clause-told g c =
    let input = left_of c.args.input.now in
    subst (λ did. Does c.env_set_trapframe.result did (state_of c.env_set_trapframe.new.self input) (around g.H.Host.console c.args.host.now c.env_set_trapframe.new.host))
    (sym (is_env_set_trapframe _ c.args.current _ (c.registers-registers.ensures input) c.in-9.is)) (c.env_set_trapframe.ensures.told input)

pub returns-in_default-clause-told : goal.returns-in_default-clause-told
returns-in_default-clause-told g c =
    let input = left_of c.args.input.now in
    call_does _
    (is_none _ c.args.current _ (c.registers-registers.ensures input) (λ e. omega arith) (λ e. omega arith) (λ e. omega arith) (λ e. omega arith) (λ e. omega arith)
    (λ e. omega arith) (λ e. omega arith) (λ e. omega arith) (λ e. omega arith) (λ e. omega arith)
    (λ e. omega arith) (λ e. omega arith) (λ e. omega arith) (λ e. omega arith))
    (c.refuse.ensures.state input)

pub returns-in_default-clause-small : goal.returns-in_default-clause-small
returns-in_default-clause-small g c = none_is_few (c.refuse.ensures.state []).2

pub returns-in-0-clause-fails : goal.returns-in-0-clause-fails
returns-in-0-clause-fails g c =
    let input = left_of c.args.input.now in
    cputs_fails (state_of c.args.self.now input) c.args.current _ (c.registers-registers.ensures input) _ c.in-0.is

pub returns-in-9-clause-fails : goal.returns-in-9-clause-fails
returns-in-9-clause-fails g c =
    let input = left_of c.args.input.now in
    env_set_trapframe_fails (state_of c.args.self.now input) c.args.current _ (c.registers-registers.ensures input) _ c.in-9.is

pub returns-in-0-clause-ended : goal.returns-in-0-clause-ended
returns-in-0-clause-ended g c =
    let input = left_of c.args.input.now in
    cputs_ended (state_of c.args.self.now input) c.args.current _ (c.registers-registers.ensures input) _ c.in-0.is

pub returns-in-9-clause-ended : goal.returns-in-9-clause-ended
returns-in-9-clause-ended g c =
    let input = left_of c.args.input.now in
    env_set_trapframe_ended (state_of c.args.self.now input) c.args.current _ (c.registers-registers.ensures input) _
    (λ input. state_of c.args.self.now input) input refl c.in-9.is c.env_set_trapframe.ensures.ended
