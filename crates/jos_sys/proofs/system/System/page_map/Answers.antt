use Rattle.std.proofs.Common.{◌∙◌, [], true, sym, ap}
use Rattle.jos_base.specs.declared.errno.Errno.TheVariants.{NoMem}
use Rattle.jos_base.specs.KernelState.{with_refusal}
use Rattle.jos_base.specs.Environments.{is_live}
use Rattle.jos_sys.specs.System.{state_of}
use Rattle.jos_sys.proofs.Answering.{found_live, refused_in}
use Rattle.jos_sys.proofs.PageCalls.{no_source, no_target, map_from, map_to, map_entry, with_page, without_page}
use Rattle.jos_sys.proofs.system.System.page_map.Goals as goal

pub returns-in-None-clause-state : goal.returns-in-None-clause-state
returns-in-None-clause-state c = λ input.
    no_source (state_of c.args.self.now input) _ c.args.current c.refuse.result _ _ c.args.from.va c.args.to.va c.args.perm c.in-None.ensures
    (c.refuse.ensures.state input)

pub returns-in-None-find-clause-state : goal.returns-in-None-find-clause-state
returns-in-None-find-clause-state c = λ input.
    no_target (state_of c.args.self.now input) _ c.args.current c.refuse-in-None-find.result _ _ c.args.from.va c.args.to.va c.args.perm
    c.in-Some.source c.in-Some.ensures c.in-None-find.ensures (c.refuse-in-None-find.ensures.state input)

pub returns-then-not-is_page_address-clause-state : goal.returns-then-not-is_page_address-clause-state
returns-then-not-is_page_address-clause-state c = λ input.
    map_from (state_of c.args.self.now input) _ c.args.current c.refuse-then-not-is_page_address.result _ _ c.args.from.va c.args.to.va c.args.perm
    c.in-Some.source c.in-Some.ensures c.in-Some-find.target c.in-Some-find.ensures
    (sym c.is_page_address.ensures ∙ c.if-not-is_page_address.true) (c.refuse-then-not-is_page_address.ensures.state input)

pub returns-then-not-is_page_address-2-clause-state : goal.returns-then-not-is_page_address-2-clause-state
returns-then-not-is_page_address-2-clause-state c = λ input.
    map_to (state_of c.args.self.now input) _ c.args.current c.refuse-then-not-is_page_address-2.result _ _ c.args.from.va c.args.to.va c.args.perm
    c.in-Some.source c.in-Some.ensures c.in-Some-find.target c.in-Some-find.ensures
    (sym c.is_page_address.ensures ∙ c.if-not-is_page_address.false) (sym c.is_page_address-2.ensures ∙ c.if-not-is_page_address-2.true)
    (c.refuse-then-not-is_page_address-2.ensures.state input)

pub page_to_share-requires-clause-live : goal.page_to_share-requires-clause-live
page_to_share-requires-clause-live c = found_live _ c.args.from.id.0 c.args.current true c.in-Some.source c.in-Some.ensures c.requires.live

pub insert-requires-clause-live : goal.insert-requires-clause-live
insert-requires-clause-live c = found_live _ c.args.to.id.0 c.args.current true c.in-Some-find.target c.in-Some-find.ensures c.requires.live

pub answer-requires-clause-live : goal.answer-requires-clause-live
answer-requires-clause-live c = ap (λ s. is_live (s.environments.slots c.args.current)) (c.insert.ensures.rest []) ∙ c.requires.live

pub returns-in-Ok-clause-state : goal.returns-in-Ok-clause-state
returns-in-Ok-clause-state c = λ input.
    map_entry (state_of c.args.self.now input) _ c.args.current c.answer.result _ _ c.args.from.va c.args.to.va c.args.perm
    c.in-Some.source c.in-Some.ensures c.in-Some-find.target c.in-Some-find.ensures
    (sym c.is_page_address.ensures ∙ c.if-not-is_page_address.false) (sym c.is_page_address-2.ensures ∙ c.if-not-is_page_address-2.false)
    _ (c.in-Some-page_to_share.ensures.exact input)
    (with_page (state_of c.args.self.now input) _ c.args.current c.answer.result _ _ _ c.in-Ok.ensures.ok (c.insert.ensures.rest input) (c.answer.ensures.state input))

pub returns-in-Err-clause-state : goal.returns-in-Err-clause-state
returns-in-Err-clause-state c = λ input.
    map_entry (state_of c.args.self.now input) _ c.args.current c.refuse_frame.result _ _ c.args.from.va c.args.to.va c.args.perm
    c.in-Some.source c.in-Some.ensures c.in-Some-find.target c.in-Some-find.ensures
    (sym c.is_page_address.ensures ∙ c.if-not-is_page_address.false) (sym c.is_page_address-2.ensures ∙ c.if-not-is_page_address-2.false)
    _ (c.in-Some-page_to_share.ensures.exact input)
    (without_page (state_of c.args.self.now input) _ c.args.current c.refuse_frame.result _ c.in-Err.ensures.empty
    (refused_in _ _ _ c.args.current c.refuse_frame.result NoMem (λ i. with_refusal (state_of (c.in-Err.ensures.stays i) input)) (c.refuse_frame.ensures.state input)))

pub returns-in-None-page_to_share-clause-state : goal.returns-in-None-page_to_share-clause-state
returns-in-None-page_to_share-clause-state c = λ input.
    map_entry (state_of c.args.self.now input) _ c.args.current c.refuse-in-None-page_to_share.result _ _ c.args.from.va c.args.to.va c.args.perm
    c.in-Some.source c.in-Some.ensures c.in-Some-find.target c.in-Some-find.ensures
    (sym c.is_page_address.ensures ∙ c.if-not-is_page_address.false) (sym c.is_page_address-2.ensures ∙ c.if-not-is_page_address-2.false)
    _ (c.in-None-page_to_share.ensures.exact input) (c.refuse-in-None-page_to_share.ensures.state input)
