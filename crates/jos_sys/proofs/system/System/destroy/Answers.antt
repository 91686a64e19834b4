use Rattle.std.proofs.Common.{◌∙◌, ap, [], false}
use Rattle.jos_base.specs.Words.{upd}
use Rattle.jos_base.specs.SpacesState.{directories, destroyed}
use Rattle.jos_space.specs.Frames.{state}
use Rattle.jos_sys.specs.System.{state_of}
use Rattle.jos_sys.proofs.Keeping.{freed_keeps, keeps_seen}
use Rattle.jos_sys.proofs.Showing.{others_freed}
use Rattle.jos_envs.proofs.Kept.{live_within}
use Rattle.jos_sys.proofs.system.System.destroy.Goals as goal
use Rattle.jos_base.proofs.Uses.{directory_is}

pub destroy-requires : goal.destroy-requires
destroy-requires c = directory_is _ (c.space-space.ensures.in_use c.requires.spaces)

pub show-requires : goal.show-requires
show-requires c = live_within c.args.self.now.table c.args.slot c.requires.live

pub returns-clause-state : goal.returns-clause-state
returns-clause-state c = λ input. λ i. record (state_of c.args.self.now input) {
  spaces = (c.show.ensures.state ∙ c.destroy.ensures.after ∙ ap (destroyed (state c.args.self.now.spaces)) (c.space-space.ensures.directory input)) i;
  environments = c.free.ensures.freed i;
}

pub returns-clause-spaces : goal.returns-clause-spaces
returns-clause-spaces c = record {
  spaces = keeps_seen _ _ _ c.show.ensures.state
      (freed_keeps _ _ _ _ c.requires.spaces.spaces c.args.slot _ c.free.ensures.freed c.requires.live
      (c.destroy.ensures.directories ∙ ap (λ d. upd (directories (state c.args.self.now.spaces)) d false) (c.space-space.ensures.directory [])));
  records = c.show.ensures.records
      (others_freed _ _ c.args.slot _ c.free.ensures.freed _ (c.destroy.ensures.records ∙ c.requires.spaces.records));
}
