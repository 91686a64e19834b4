use Rattle.fs_make.proofs.Appended.{name-padded}
use Rattle.fs_make.proofs.nodes.pad_name.Goals as goal

pub returns : goal.returns
returns c = name-padded c.args.name.now c.copy_from_slice.new.self c.copy_from_slice.ensures.after
