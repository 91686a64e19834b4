use Rattle.std.proofs.Common.{◌∙◌, ap}
use Rattle.jos_base.specs.SpacesState.{with_page_bytes, overlaid}
use Rattle.jos_space.specs.Frames.{Lists, state}
use Rattle.jos_space.specs.contracts.spaces.Spaces.{the_view}
use Rattle.jos_space.proofs.PageBytes.{bytes_below, writes}
use Rattle.jos_space.proofs.Uses.{bytes_in}
use Rattle.jos_base.specs.SpacesState.{is_directory}
use Rattle.jos_space.proofs.spaces.Spaces.fill.Goals as goal

pub fill_at-requires-clause-frame : goal.fill_at-requires-clause-frame
fill_at-requires-clause-frame c =
    let l = the_view c.self.inside in
    let may = bytes_in l c.args.self.now c.args.frame.0 c.self.view_is c.requires.frame in
    bytes_below l c.self.invariant c.args.frame.0 may

pub invariant_of-self : goal.invariant_of-self
invariant_of-self c =
    let l = the_view c.self.inside in
    let may = bytes_in l c.args.self.now c.args.frame.0 c.self.view_is c.requires.frame in
    (writes l c.self.invariant c.args.frame.0 may (λ page. overlaid page c.args.offset c.args.bytes.now) c.fill_at.new.pages.items c.fill_at.ensures).sound

pub returns-clause-after : goal.returns-clause-after
returns-clause-after c =
    let l = the_view c.self.inside in
    let may = bytes_in l c.args.self.now c.args.frame.0 c.self.view_is c.requires.frame in
    (writes l c.self.invariant c.args.frame.0 may (λ page. overlaid page c.args.offset c.args.bytes.now) c.fill_at.new.pages.items c.fill_at.ensures).state_is
    ∙ ap (λ (m : Lists). with_page_bytes (state m) c.args.frame.0 (overlaid ((state m).pages c.args.frame.0) c.args.offset c.args.bytes.now)) c.self.view_is

pub returns-clause-kept : goal.returns-clause-kept
returns-clause-kept c f is = (λ i. (returns-clause-after c i).uses f) ∙ is

pub returns-clause-directories : goal.returns-clause-directories
returns-clause-directories c = λ i. λ f. is_directory ((returns-clause-after c i).uses f)
