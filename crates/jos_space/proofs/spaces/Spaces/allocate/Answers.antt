use Rattle.std.proofs.Common.{◌/◌, refl, ap, ◌∙◌}
use Rattle.std.specs.Option.{option_map}
use Rattle.jos_base.specs.SpacesState.{SpacesState, freed, allocated_in, allocated}
use Rattle.jos_space.specs.Frames.{state}
use Rattle.jos_space.proofs.Directories.{given_back}
use Rattle.jos_space.proofs.PagesHeld.{free_bytes}
use Rattle.jos_space.proofs.spaces.Spaces.allocate.Goals as goal

pub returns-in-None-clause-none : goal.returns-in-None-clause-none
unfolding allocated
returns-in-None-clause-none c =
    λ _. ap (λ o. allocated_in o c.args.space.directory.0 (c.args.va / 4096) c.args.perm.0) (c.in-None.ensures.none refl)

pub returns-in-Ok-clause-some : goal.returns-in-Ok-clause-some
unfolding allocated
returns-in-Ok-clause-some c =
    ap (λ o. allocated_in o c.args.space.directory.0 (c.args.va / 4096) c.args.perm.0) c.in-Some.ensures.some
    ∙ ap (option_map (λ (t : SpacesState). (c.in-Some.frame.0, t))) c.in-Ok.ensures.ok

pub returns-in-Err-clause-none : goal.returns-in-Err-clause-none
unfolding allocated
returns-in-Err-clause-none c =
    λ _. ap (λ o. allocated_in o c.args.space.directory.0 (c.args.va / 4096) c.args.perm.0) c.in-Some.ensures.some
    ∙ ap (option_map (λ (t : SpacesState). (c.in-Some.frame.0, t))) c.in-Err.ensures.empty

pub returns-in-Err-clause-stays : goal.returns-in-Err-clause-stays
returns-in-Err-clause-stays c =
    λ _. c.give_back.ensures.after ∙ (λ i. freed (state (c.in-Err.ensures.stays i)) c.in-Some.frame.0)
    ∙ given_back (state c.args.self.now) (state c.fresh.new.self) c.in-Some.frame.0 c.in-Some.ensures.some c.in-Some.ensures.was
    (free_bytes c.args.self.now c.in-Some.frame.0 c.in-Some.ensures.was)
