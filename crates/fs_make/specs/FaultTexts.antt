-- How a fault is told. (This system's own.)
use Rattle.std.specs.Prelude.{ℕ, List, ◌++◌, codes, decimal}
use Rattle.fs_make.specs.declared.fault.MakeFault.{MakeFault}
use Rattle.fs_make.specs.declared.fault.MakeFault.TheVariants.{TooManyBlocks, BadName, TwiceNamed, TooLong, NoRoom, NoMemory}

unfoldable pub make_fault_text : MakeFault → List ℕ
make_fault_text TooManyBlocks = codes "too many blocks"
make_fault_text (BadName place) = codes "bad name " ++ decimal place
make_fault_text (TwiceNamed place) = codes "twice named " ++ decimal place
make_fault_text (TooLong place) = codes "too long " ++ decimal place
make_fault_text NoRoom = codes "no room"
make_fault_text NoMemory = codes "out of memory"
