use Rattle.jos_space.specs.Frames.{state}
use Rattle.std.proofs.Common.{ap}
use Rattle.jos_base.specs.SpacesState.{SpacesState, free}
use Rattle.jos_space.proofs.Keeping.{keeps_other, fresh_apart}
use Rattle.jos_space.proofs.Freeing.{idle_fresh}
use Rattle.jos_space.proofs.Directories.{same_directories, no_more_at}
use Rattle.jos_space.proofs.spaces.Spaces.give_back.Goals as goal

pub free-requires : goal.free-requires
free-requires c = idle_fresh (state c.args.self.now) c.args.frame.0 c.requires

pub returns-clause-kept : goal.returns-clause-kept
returns-clause-kept c =
    keeps_other (state c.args.self.now) (state c.free.new.self) c.args.frame.0 free (ap (λ (s : SpacesState). s.uses) c.free.ensures.after)
    (fresh_apart ((state c.args.self.now).uses c.args.frame.0) c.requires)

pub returns-clause-directories : goal.returns-clause-directories
returns-clause-directories c =
    same_directories (state c.args.self.now) (state c.free.new.self) (returns-clause-kept c)
    (no_more_at (state c.args.self.now) (state c.free.new.self) c.args.frame.0 free (ap (λ (s : SpacesState). s.uses) c.free.ensures.after) (λ e. absurd cc))
