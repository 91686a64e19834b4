use Rattle.std.proofs.Common.{◌≡◌, ◌∙◌, ℕ, true, List, get_or, sym, ap, subst}
use Rattle.jos_base.specs.SpacesState.{zero_page, with_page_bytes}
use Rattle.jos_space.specs.declared.role.Role.TheVariants.{Reserved}
use Rattle.jos_space.specs.Frames.{Lists, AreSound, state, may_map}
use Rattle.jos_space.specs.contracts.spaces.Spaces.{the_view}
use Rattle.jos_space.proofs.Uses.{bytes_in}
use Rattle.jos_space.proofs.PageBytes.{bytes_below, bytes_lists_sound, bytes_state}
use Rattle.jos_space.proofs.spaces.Spaces.clear_page.Goals as goal

pub invariant_of-self : goal.invariant_of-self
invariant_of-self c =
    let l : Lists = the_view c.self.inside in
    let may : may_map (get_or l.roles c.args.frame Reserved) ≡ true = bytes_in l c.args.self.now c.args.frame c.self.view_is c.requires in
    subst (λ (bs : List (List ℕ)). AreSound (record l { bytes = bs })) (sym c.clear_bytes.ensures) (bytes_lists_sound l c.self.invariant c.args.frame may zero_page)

pub returns-clause-state : goal.returns-clause-state
returns-clause-state c =
    let l : Lists = the_view c.self.inside in
    let may : may_map (get_or l.roles c.args.frame Reserved) ≡ true = bytes_in l c.args.self.now c.args.frame c.self.view_is c.requires in
    ap (λ (bs : List (List ℕ)). state (record l { bytes = bs })) c.clear_bytes.ensures ∙ bytes_state l c.self.invariant c.args.frame may zero_page ∙ ap (λ (m : Lists). with_page_bytes (state m) c.args.frame zero_page) c.self.view_is

pub clear_bytes-requires : goal.clear_bytes-requires
clear_bytes-requires c =
    let l : Lists = the_view c.self.inside in
    bytes_below l c.self.invariant c.args.frame (bytes_in l c.args.self.now c.args.frame c.self.view_is c.requires)
