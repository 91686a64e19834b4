-- What steps leave of the host's files: where nothing of them is touched the disk's file has its blocks still.
use Rattle.std.proofs.Common.{◌≡◌, List, Option, Result, Ok, Err, sym, subst}
use Rattle.std.specs.Prelude.{OnOk}
use Rattle.jos_host.specs.Asked.{Asked}
use Rattle.jos_host.specs.Files.{Files}
use Rattle.jos_host.specs.Frames.{Unchanged, around}
use Rattle.lib_os.specs.Disk.{DiskFile, HasBlocks}
use Rattle.lib_os.specs.MadeCalls.{TouchesDisk, asks_nothing}
use Rattle.jos_run.specs.Worlds.{told_disk}

-- what was left as it was
module _ {H I N : Type 0} {files : H → Option Files} {input : H → I} {asked : H → Option (List Asked)} {notes : H → N} {old new : H}
    (rest : Unchanged files input asked notes old new) where
  pub rest_touches : (disk : DiskFile) → TouchesDisk disk (around files old new) (around asked old new)
  rest_touches disk = asks_nothing rest.first rest.third

  pub rest_whole : (disk after : DiskFile) → after ≡ disk → HasBlocks (files old) disk → HasBlocks (files new) after
  rest_whole disk after same whole =
      subst (λ (d : DiskFile). HasBlocks (files new) d) (sym same) (subst (λ (f : Option Files). HasBlocks f disk) (sym rest.first) whole)

-- so is the disk that is told
pub same_disk : {files now : Option Files} {disk after : DiskFile} → now ≡ files → after ≡ disk → told_disk files disk ≡ told_disk now after
same_disk same disk_is = λ i. told_disk (sym same i) (sym disk_is i)

-- whatever the step has come to
pub came_whole : {X E : Type 0} (last : Result X E) {So : Type 0} → So → OnOk last So
came_whole (Ok x) so = so
came_whole (Err e) so = tt
