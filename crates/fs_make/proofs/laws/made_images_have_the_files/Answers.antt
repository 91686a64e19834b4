use Rattle.fs_make.proofs.MadeTrees.{made_has_files}
use Rattle.fs_make.proofs.laws.made_images_have_the_files.Goals as goal

pub returns : goal.returns
returns c = made_has_files
