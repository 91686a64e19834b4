use Rattle.std.proofs.Common.{◌∙◌, ap, ℕ, List}
use Rattle.std.specs.Prelude.{slice_set, slice_index}
use Rattle.jos_base.specs.SpacesState.{with_page_bytes}
use Rattle.jos_space.specs.Frames.{Lists, state}
use Rattle.jos_space.specs.contracts.spaces.Spaces.{the_view}
use Rattle.jos_space.proofs.PageBytes.{bytes_below, page_is, writes}
use Rattle.jos_space.proofs.Uses.{bytes_in}
use Rattle.jos_space.proofs.spaces.Spaces.set_byte.Goals as goal

pub set_byte_at-requires-clause-frame : goal.set_byte_at-requires-clause-frame
set_byte_at-requires-clause-frame c =
    let l = the_view c.self.inside in
    bytes_below l c.self.invariant c.args.location.frame.0 (bytes_in l c.args.self.now c.args.location.frame.0 c.self.view_is c.requires.frame)

pub invariant_of-self : goal.invariant_of-self
invariant_of-self c =
    let l = the_view c.self.inside in
    let may = bytes_in l c.args.self.now c.args.location.frame.0 c.self.view_is c.requires.frame in
    (writes l c.self.invariant c.args.location.frame.0 may (λ page. slice_set page c.args.location.offset c.args.byte) c.set_byte_at.new.bytes.items c.set_byte_at.ensures.items).sound

pub returns-clause-after : goal.returns-clause-after
returns-clause-after c =
    let l = the_view c.self.inside in
    let may = bytes_in l c.args.self.now c.args.location.frame.0 c.self.view_is c.requires.frame in
    (writes l c.self.invariant c.args.location.frame.0 may (λ page. slice_set page c.args.location.offset c.args.byte) c.set_byte_at.new.bytes.items c.set_byte_at.ensures.items).state_is
    ∙ ap (λ (m : Lists). with_page_bytes (state m) c.args.location.frame.0 (slice_set ((state m).pages c.args.location.frame.0) c.args.location.offset c.args.byte)) c.self.view_is

pub returns-clause-kept : goal.returns-clause-kept
returns-clause-kept c f is = (λ i. (returns-clause-after c i).uses f) ∙ is

pub returns-clause-put : goal.returns-clause-put
returns-clause-put c =
    let l = the_view c.self.inside in
    let may = bytes_in l c.args.self.now c.args.location.frame.0 c.self.view_is c.requires.frame in
    let new = the_view (record c.self.inside { bytes = c.set_byte_at.new.bytes }) in
    let page = page_is new (invariant_of-self c) c.args.location.frame.0 may in
    ap (λ (bytes : List ℕ). slice_index bytes c.args.location.offset) page ∙ c.set_byte_at.ensures.put
