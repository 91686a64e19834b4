use Rattle.std.proofs.Common.{◌∙◌, ◌/◌, true, sym, ap}
use Rattle.jos_base.specs.declared.numbers.TheConstants.{PGSIZE}
use Rattle.jos_base.specs.SpacesState.{unmapped}
use Rattle.jos_space.specs.Frames.{state}
use Rattle.jos_sys.specs.System.{state_of}
use Rattle.jos_sys.proofs.Answering.{found_live}
use Rattle.jos_sys.proofs.Keeping.{keeps_spaces}
use Rattle.jos_sys.proofs.PageCalls.{none_unmapped, unmap_address, unmap_made}
use Rattle.jos_sys.proofs.system.System.page_unmap.Goals as goal

pub returns-then-not-is_page_address-clause-state : goal.returns-then-not-is_page_address-clause-state
returns-then-not-is_page_address-clause-state c = λ input.
    unmap_address (state_of c.args.self.now input) _ c.args.current c.refuse.result _ c.args.va c.in-Some.target c.in-Some.ensures
    (sym c.is_page_address.ensures ∙ c.if-not-is_page_address.true) (c.refuse.ensures.state input)

pub space-space-requires : goal.space-space-requires
space-space-requires c = found_live _ c.args.id.0 c.args.current true c.in-Some.target c.in-Some.ensures c.requires.live

pub answer-requires-clause-spaces : goal.answer-requires-clause-spaces
answer-requires-clause-spaces c = record {
  spaces = keeps_spaces _ _ _ c.remove.ensures.directories c.requires.spaces.spaces;
  records = c.remove.ensures.records ∙ c.requires.spaces.records;
}

pub returns-else-not-is_page_address-clause-state : goal.returns-else-not-is_page_address-clause-state
returns-else-not-is_page_address-clause-state c = λ input.
    unmap_made (state_of c.args.self.now input) _ c.args.current c.answer.result _ c.args.va c.in-Some.target c.in-Some.ensures
    (sym c.is_page_address.ensures ∙ c.if-not-is_page_address.false) _
    (λ i. record (state_of c.args.self.now input) {
      spaces = (c.remove.ensures.after
          ∙ ap (λ d. unmapped (state c.args.self.now.spaces) d (c.args.va / PGSIZE)) (c.space-space.ensures.directory input)) i;
    })
    (c.answer.ensures.state input)

pub returns-in-None-clause-state : goal.returns-in-None-clause-state
returns-in-None-clause-state c = λ input.
    none_unmapped (state_of c.args.self.now input) _ c.args.current c.refuse-in-None.result _ c.args.va c.in-None.ensures
    (c.refuse-in-None.ensures.state input)
