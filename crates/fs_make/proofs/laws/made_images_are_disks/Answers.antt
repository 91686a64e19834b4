use Rattle.fs_make.proofs.MadeDisks.{made_is_disk}
use Rattle.fs_make.proofs.laws.made_images_are_disks.Goals as goal

pub returns : goal.returns
returns c = made_is_disk
