use Rattle.std.proofs.Common.{◌∙◌, [], true, refl, sym, ap}
use Rattle.jos_base.specs.declared.errno.Errno.TheVariants.{NoMem}
use Rattle.jos_base.specs.KernelState.{with_refusal}
use Rattle.jos_base.specs.Environments.{is_live}
use Rattle.jos_sys.specs.System.{state_of}
use Rattle.jos_sys.proofs.Answering.{found_live, refused_in}
use Rattle.jos_sys.proofs.PageCalls.{none_allocated, alloc_address, alloc_perm, alloc_made, alloc_full}
use Rattle.jos_sys.proofs.system.System.page_alloc.Goals as goal

pub returns-then-not-is_page_address-clause-state : goal.returns-then-not-is_page_address-clause-state
returns-then-not-is_page_address-clause-state c = λ input.
    alloc_address (state_of c.args.self.now input) _ c.args.current c.refuse.result _ c.args.va c.args.perm c.in-Some.target c.in-Some.ensures
    (sym c.is_page_address.ensures ∙ c.if-not-is_page_address.true) (c.refuse.ensures.state input)

pub returns-then-not-is_page_perm-clause-state : goal.returns-then-not-is_page_perm-clause-state
returns-then-not-is_page_perm-clause-state c = λ input.
    alloc_perm (state_of c.args.self.now input) _ c.args.current c.refuse-then-not-is_page_perm.result _ c.args.va c.args.perm c.in-Some.target c.in-Some.ensures
    (sym c.is_page_address.ensures ∙ c.if-not-is_page_address.false) (sym c.is_page_perm.ensures ∙ c.if-not-is_page_perm.true)
    (c.refuse-then-not-is_page_perm.ensures.state input)

pub allocate-requires-clause-live : goal.allocate-requires-clause-live
allocate-requires-clause-live c = found_live _ c.args.id.0 c.args.current true c.in-Some.target c.in-Some.ensures c.requires.live

pub answer-requires-clause-live : goal.answer-requires-clause-live
answer-requires-clause-live c = ap (λ s. is_live (s.environments.slots c.args.current)) (c.allocate.ensures.rest []) ∙ c.requires.live

pub refuse_frame-requires-clause-live : goal.refuse_frame-requires-clause-live
refuse_frame-requires-clause-live c = ap (λ s. is_live (s.environments.slots c.args.current)) (c.allocate.ensures.rest []) ∙ c.requires.live

pub returns-in-Some-allocate-clause-state : goal.returns-in-Some-allocate-clause-state
returns-in-Some-allocate-clause-state c = λ input.
    alloc_made (state_of c.args.self.now input) _ c.args.current c.answer.result _ c.args.va c.args.perm c.in-Some.target c.in-Some.ensures
    (sym c.is_page_address.ensures ∙ c.if-not-is_page_address.false) (sym c.is_page_perm.ensures ∙ c.if-not-is_page_perm.false) _ _ _
    c.in-Some-allocate.ensures.some (c.allocate.ensures.rest input) (c.answer.ensures.state input)

pub returns-in-None-allocate-clause-state : goal.returns-in-None-allocate-clause-state
returns-in-None-allocate-clause-state c = λ input.
    alloc_full (state_of c.args.self.now input) _ c.args.current c.refuse_frame.result _ c.args.va c.args.perm c.in-Some.target c.in-Some.ensures
    (sym c.is_page_address.ensures ∙ c.if-not-is_page_address.false) (sym c.is_page_perm.ensures ∙ c.if-not-is_page_perm.false)
    (c.in-None-allocate.ensures.none refl)
    (refused_in _ _ _ c.args.current c.refuse_frame.result NoMem (ap with_refusal (c.in-None-allocate.ensures.stays refl input)) (c.refuse_frame.ensures.state input))

pub returns-in-None-clause-state : goal.returns-in-None-clause-state
returns-in-None-clause-state c = λ input.
    none_allocated (state_of c.args.self.now input) _ c.args.current c.refuse-in-None.result _ c.args.va c.args.perm c.in-None.ensures
    (c.refuse-in-None.ensures.state input)
