use Rattle.std.proofs.Common.{◌∙◌, ◌/◌, [], false, sym, ap}
use Rattle.jos_base.specs.declared.errno.Errno.TheVariants.{NoMem}
use Rattle.jos_base.specs.declared.numbers.TheConstants.{PGSIZE}
use Rattle.jos_base.specs.SpacesState.{inserted}
use Rattle.jos_base.specs.Messages.{accepts}
use Rattle.jos_base.specs.Environments.{Slot, is_live}
use Rattle.jos_base.specs.KernelState.{KernelState, slot_at, with_refusal}
use Rattle.jos_base.specs.SystemCalls.{passing_of}
use Rattle.jos_envs.proofs.Kept.{live_within}
use Rattle.jos_sys.specs.System.{state_of}
use Rattle.jos_sys.proofs.Answering.{found_live, refused_in}
use Rattle.jos_sys.proofs.Sending.{no_receiver, not_accepted, sends, page_sent, page_unsent}
use Rattle.jos_sys.proofs.system.System.ipc_try_send.Goals as goal

pub returns-in-None-clause-state : goal.returns-in-None-clause-state
returns-in-None-clause-state c = λ input.
    no_receiver (state_of c.args.self.now input) _ c.args.current c.refuse.result _ c.args.value c.args.va c.args.perm c.in-None.ensures (c.refuse.ensures.state input)

pub environment-requires : goal.environment-requires
environment-requires c = live_within c.args.self.now.table c.args.current c.requires.live

pub environment-requires-2 : goal.environment-requires-2
environment-requires-2 c =
    live_within c.args.self.now.table c.in-Some.target (found_live _ c.args.id.0 c.args.current false c.in-Some.target c.in-Some.ensures c.requires.live)

pub returns-then-not-accepts-clause-state : goal.returns-then-not-accepts-clause-state
returns-then-not-accepts-clause-state c = λ input.
    not_accepted (state_of c.args.self.now input) _ c.args.current c.refuse-then-not-accepts.result _ c.args.value c.args.va c.args.perm
    c.in-Some.target c.in-Some.ensures
    ((λ i. accepts ((sym (c.environment-2.ensures input)) i).rendezvous ((sym (c.environment.ensures input)) i).id) ∙ sym c.accepts.ensures ∙ c.if-not-accepts.true)
    (c.refuse-then-not-accepts.ensures.state input)

pub send-requires-clause-target : goal.send-requires-clause-target
send-requires-clause-target c = found_live _ c.args.id.0 c.args.current false c.in-Some.target c.in-Some.ensures c.requires.live

pub send-requires-clause-accepts : goal.send-requires-clause-accepts
send-requires-clause-accepts c = λ input.
    (λ i. accepts ((sym (c.environment-2.ensures input)) i).rendezvous ((sym (c.environment.ensures input)) i).id) ∙ sym c.accepts.ensures ∙ c.if-not-accepts.false

pub insert-requires-clause-live : goal.insert-requires-clause-live
insert-requires-clause-live c = found_live _ c.args.id.0 c.args.current false c.in-Some.target c.in-Some.ensures c.requires.live

pub send-requires-in-Ok-clause-live : goal.send-requires-in-Ok-clause-live
send-requires-in-Ok-clause-live c = ap (λ s. is_live (s.environments.slots c.args.current)) (c.insert.ensures.rest []) ∙ c.requires.live

pub send-requires-in-Ok-clause-target : goal.send-requires-in-Ok-clause-target
send-requires-in-Ok-clause-target c =
    ap (λ s. is_live (s.environments.slots c.in-Some.target)) (c.insert.ensures.rest [])
    ∙ found_live _ c.args.id.0 c.args.current false c.in-Some.target c.in-Some.ensures c.requires.live

pub send-requires-in-Ok-clause-accepts : goal.send-requires-in-Ok-clause-accepts
send-requires-in-Ok-clause-accepts c = λ input.
    ap (λ (s : KernelState). accepts (slot_at s c.in-Some.target).rendezvous (slot_at s c.args.current).id) (c.insert.ensures.rest input)
    ∙ (λ i. accepts ((sym (c.environment-2.ensures input)) i).rendezvous ((sym (c.environment.ensures input)) i).id) ∙ sym c.accepts.ensures ∙ c.if-not-accepts.false

pub returns-in-Nothing-clause-state : goal.returns-in-Nothing-clause-state
returns-in-Nothing-clause-state c = λ input.
    sends (state_of c.args.self.now input) _ c.args.current c.send.result _ c.args.value c.args.va c.args.perm c.in-Some.target c.in-Some.ensures
    ((λ i. accepts ((sym (c.environment-2.ensures input)) i).rendezvous ((sym (c.environment.ensures input)) i).id) ∙ sym c.accepts.ensures ∙ c.if-not-accepts.false)
    _
    (c.in-Nothing.ensures.exact input
    ∙ ap (λ (z : Slot). passing_of (state_of c.args.self.now input) c.args.current z.rendezvous.destination c.args.va c.args.perm) (c.environment-2.ensures input))
    (c.send.ensures.state input)

pub returns-in-Ok-clause-state : goal.returns-in-Ok-clause-state
returns-in-Ok-clause-state c = λ input.
    let k = state_of c.args.self.now input in
    sends k _ c.args.current c.send-in-Ok.result _ c.args.value c.args.va c.args.perm c.in-Some.target c.in-Some.ensures
    ((λ i. accepts ((sym (c.environment-2.ensures input)) i).rendezvous ((sym (c.environment.ensures input)) i).id) ∙ sym c.accepts.ensures ∙ c.if-not-accepts.false)
    _
    (c.in-Page.ensures.exact input
    ∙ ap (λ (z : Slot). passing_of k c.args.current z.rendezvous.destination c.args.va c.args.perm) (c.environment-2.ensures input))
    (page_sent k _ c.args.current c.send-in-Ok.result c.in-Some.target c.args.value _ _ _
    (ap (λ (z : Slot). inserted k.spaces (slot_at k c.in-Some.target).directory (z.rendezvous.destination / PGSIZE) (record { frame = c.in-Page.frame.0; perm = c.args.perm })) (sym (c.environment-2.ensures input))
    ∙ c.in-Ok.ensures.ok) (c.insert.ensures.rest input) (c.send-in-Ok.ensures.state input))

pub returns-in-Err-clause-state : goal.returns-in-Err-clause-state
returns-in-Err-clause-state c = λ input.
    let k = state_of c.args.self.now input in
    sends k _ c.args.current c.refuse_frame.result _ c.args.value c.args.va c.args.perm c.in-Some.target c.in-Some.ensures
    ((λ i. accepts ((sym (c.environment-2.ensures input)) i).rendezvous ((sym (c.environment.ensures input)) i).id) ∙ sym c.accepts.ensures ∙ c.if-not-accepts.false)
    _
    (c.in-Page.ensures.exact input
    ∙ ap (λ (z : Slot). passing_of k c.args.current z.rendezvous.destination c.args.va c.args.perm) (c.environment-2.ensures input))
    (page_unsent k _ c.args.current c.refuse_frame.result c.in-Some.target c.args.value _
    (ap (λ (z : Slot). inserted k.spaces (slot_at k c.in-Some.target).directory (z.rendezvous.destination / PGSIZE) (record { frame = c.in-Page.frame.0; perm = c.args.perm })) (sym (c.environment-2.ensures input))
    ∙ c.in-Err.ensures.empty)
    (refused_in _ _ _ c.args.current c.refuse_frame.result NoMem (λ i. with_refusal (state_of (c.in-Err.ensures.stays i) input)) (c.refuse_frame.ensures.state input)))

pub returns-in-Invalid-clause-state : goal.returns-in-Invalid-clause-state
returns-in-Invalid-clause-state c = λ input.
    sends (state_of c.args.self.now input) _ c.args.current c.refuse-in-Invalid.result _ c.args.value c.args.va c.args.perm c.in-Some.target c.in-Some.ensures
    ((λ i. accepts ((sym (c.environment-2.ensures input)) i).rendezvous ((sym (c.environment.ensures input)) i).id) ∙ sym c.accepts.ensures ∙ c.if-not-accepts.false)
    _
    (c.in-Invalid.ensures.exact input
    ∙ ap (λ (z : Slot). passing_of (state_of c.args.self.now input) c.args.current z.rendezvous.destination c.args.va c.args.perm) (c.environment-2.ensures input))
    (c.refuse-in-Invalid.ensures.state input)
