-- How a fault is told. (This system's own.)
use Rattle.std.specs.Prelude.{ℕ, List, ◌++◌, codes, decimal}
use Rattle.fs_image.specs.declared.fault.ImageFault.{ImageFault}
use Rattle.fs_image.specs.declared.fault.ImageFault.TheVariants.{TooShort, Magic, BlockCount, RootKind, Kind, BadName, DirSize}
use Rattle.fs_image.specs.declared.fault.ImageFault.TheVariants.{TooLong, Hole, Range, NamedTwice, MarkedFree, Stray, SameName}

unfoldable pub image_fault_text : ImageFault → List ℕ
image_fault_text TooShort = codes "too short"
image_fault_text Magic = codes "magic"
image_fault_text BlockCount = codes "block count"
image_fault_text RootKind = codes "root kind"
image_fault_text (Kind place) = codes "kind " ++ decimal place
image_fault_text (BadName place) = codes "bad name " ++ decimal place
image_fault_text (DirSize place) = codes "dir size " ++ decimal place
image_fault_text (TooLong place) = codes "too long " ++ decimal place
image_fault_text (Hole place) = codes "hole " ++ decimal place
image_fault_text (Range block) = codes "range " ++ decimal block
image_fault_text (NamedTwice block) = codes "named twice " ++ decimal block
image_fault_text (MarkedFree block) = codes "marked free " ++ decimal block
image_fault_text (Stray place) = codes "stray " ++ decimal place
image_fault_text (SameName place) = codes "same name " ++ decimal place
