use Rattle.std.proofs.Common.{◌/◌, sym, ap}
use Rattle.jos_base.specs.SpacesState.{SpacesState}
use Rattle.jos_space.specs.Frames.{state}
use Rattle.jos_space.proofs.Directories.{unmapped_directories}
use Rattle.jos_space.proofs.Keeping.{keeps_same, keeps_both}
use Rattle.jos_space.proofs.Marking.{entries_none}
use Rattle.jos_space.proofs.TableLists.{not_there}
use Rattle.jos_space.proofs.Unmapping.{unmapped_is, unmapped_nothing}
use Rattle.jos_space.proofs.spaces.Spaces.remove.Goals as goal

pub returns-in-Some-clause-after : goal.returns-in-Some-clause-after
returns-in-Some-clause-after c =
    unmapped_is (state c.args.self.now) (state c.clear_entry-frame.new.self) (state c.release.new.self) c.args.space.directory.0 (c.args.va / 4096)
    c.clear_entry-frame.result c.clear_entry-frame.ensures.state c.clear_entry-frame.ensures.gone c.release.ensures.state

pub returns-in-Some-clause-kept : goal.returns-in-Some-clause-kept
returns-in-Some-clause-kept c =
    keeps_both (state c.args.self.now) (state c.clear_entry-frame.new.self) (state c.release.new.self)
    (keeps_same (state c.args.self.now) (state c.clear_entry-frame.new.self) (ap (λ (s : SpacesState). s.uses) c.clear_entry-frame.ensures.state)) c.release.ensures.kept

pub returns-in-Some-clause-directories : goal.returns-in-Some-clause-directories
returns-in-Some-clause-directories c =
    unmapped_directories (state c.args.self.now) (state c.release.new.self) c.args.space.directory.0 (c.args.va / 4096) (returns-in-Some-clause-kept c) (returns-in-Some-clause-after c)

pub returns-in_default-clause-after : goal.returns-in_default-clause-after
returns-in_default-clause-after c =
    let none = not_there (state c.args.self.now) c.args.space.directory.0 (c.args.va / 4096 / 1024) c.in_default.ensures in
    sym (unmapped_nothing (state c.args.self.now) c.args.space.directory.0 (c.args.va / 4096) (entries_none c.args.self.now c.args.space.directory.0 (c.args.va / 4096) none))
