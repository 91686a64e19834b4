use Rattle.fs_layout.proofs.DiskSound.{disks-sound, tree-depth}
use Rattle.fs_layout.proofs.laws.disks_are_sound.Goals as goal

pub returns-clause-sound : goal.returns-clause-sound
returns-clause-sound c = disks-sound

pub returns-clause-depth : goal.returns-clause-depth
returns-clause-depth c = tree-depth
