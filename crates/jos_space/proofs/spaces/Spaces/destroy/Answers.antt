use Rattle.std.proofs.Common.{◌∙◌, ap}
use Rattle.jos_base.specs.SpacesState.{SpacesState, free, freed, tables_freed, destroyed, region_limit}
use Rattle.jos_space.specs.Frames.{state}
use Rattle.jos_space.proofs.Destroying.{no_pages, no_tables}
use Rattle.jos_space.proofs.Freeing.{idle_directory}
use Rattle.jos_space.proofs.Directories.{destroyed_directories}
use Rattle.jos_space.proofs.spaces.Spaces.destroy.Goals as goal
use Rattle.jos_base.proofs.Maps.{upd-other}

pub free_tables-requires-clause-space : goal.free_tables-requires-clause-space
free_tables-requires-clause-space c = c.remove_pages.ensures.kept c.args.space.directory.0 c.requires

pub free_tables-requires-clause-empty : goal.free_tables-requires-clause-empty
free_tables-requires-clause-empty c number =
    no_pages c.remove_pages.new.self (state c.args.self.now) c.args.space.directory.0 c.remove_pages.ensures.pages number

pub free-requires : goal.free-requires
free-requires c =
    idle_directory (state c.free_tables.new.self) c.args.space.directory.0 (c.free_tables.ensures.kept c.args.space.directory.0 (c.remove_pages.ensures.kept c.args.space.directory.0 c.requires))
    (no_tables c.free_tables.new.self (state c.remove_pages.new.self) c.args.space.directory.0 c.free_tables.ensures.tables)

pub returns-clause-after : goal.returns-clause-after
unfolding destroyed
returns-clause-after c =
    c.free.ensures.after
    ∙ ap (λ (s : SpacesState). freed s c.args.space.directory.0) (c.free_tables.ensures.tables ∙ ap (λ (s : SpacesState). tables_freed s c.args.space.directory.0 region_limit) c.remove_pages.ensures.pages)

pub returns-clause-kept : goal.returns-clause-kept
returns-clause-kept c f apart is =
    (λ i. (c.free.ensures.after i).uses f) ∙ upd-other (state c.free_tables.new.self).uses c.args.space.directory.0 free f apart
    ∙ c.free_tables.ensures.kept f (c.remove_pages.ensures.kept f is)

pub returns-clause-directories : goal.returns-clause-directories
returns-clause-directories c =
    destroyed_directories (state c.args.self.now) (state c.free.new.self) c.args.space.directory.0 (returns-clause-after c) (returns-clause-kept c)
