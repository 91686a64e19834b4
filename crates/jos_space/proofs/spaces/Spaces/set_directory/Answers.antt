use Rattle.std.proofs.Common.{◌≡◌, ◌∙◌, [], get_or, ap, arith}
use Rattle.jos_base.specs.Words.{upd}
use Rattle.jos_base.specs.SpacesState.{directory}
use Rattle.jos_space.specs.declared.role.Role.TheVariants.{Fresh, Reserved}
use Rattle.jos_space.specs.Frames.{Lists, state}
use Rattle.jos_space.specs.contracts.spaces.Spaces.{the_view}
use Rattle.jos_space.proofs.Roles.{is_reserved}
use Rattle.jos_space.proofs.Uses.{has_place, fresh_in}
use Rattle.jos_space.proofs.PageBytes.{makes_directory}
use Rattle.jos_space.proofs.spaces.Spaces.set_directory.Goals as goal

pub invariant_of-self : goal.invariant_of-self
invariant_of-self c =
    let l : Lists = the_view c.self.inside in
    let is : get_or l.roles c.args.frame Reserved ≡ Fresh = fresh_in l c.args.self.now c.args.frame c.self.view_is c.requires in
    let g = makes_directory l c.self.invariant c.args.frame is c.clear_words.new.words.items c.clear_words.ensures in
    g.sound

pub returns-clause-state : goal.returns-clause-state
returns-clause-state c =
    let l : Lists = the_view c.self.inside in
    let is : get_or l.roles c.args.frame Reserved ≡ Fresh = fresh_in l c.args.self.now c.args.frame c.self.view_is c.requires in
    let g = makes_directory l c.self.invariant c.args.frame is c.clear_words.new.words.items c.clear_words.ensures in
    g.state_is ∙ ap (λ (m : Lists). record (state m) { uses = upd (state m).uses c.args.frame directory; pages = upd (state m).pages c.args.frame [] }) c.self.view_is

pub clear_words-requires : goal.clear_words-requires
clear_words-requires c =
    let l : Lists = the_view c.self.inside in
    let place = has_place l c.self.invariant c.args.frame (ap is_reserved (fresh_in l c.args.self.now c.args.frame c.self.view_is c.requires)) in
    place.words

pub index_mut-requires : goal.index_mut-requires
index_mut-requires c =
    let l : Lists = the_view c.self.inside in
    let place = has_place l c.self.invariant c.args.frame (ap is_reserved (fresh_in l c.args.self.now c.args.frame c.self.view_is c.requires)) in
    let below = place.roles in omega (arith, below, c.self.inside.roles.ok)
