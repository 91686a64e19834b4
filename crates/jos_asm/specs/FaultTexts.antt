-- How a fault is told. (This system's own.)
use Rattle.std.specs.Prelude.{ℕ, List, ◌++◌, codes}
use Rattle.jos_asm.specs.declared.fault.AsmFault.{AsmFault}
use Rattle.jos_asm.specs.declared.fault.AsmFault.TheVariants.{TooLong, Twice, Unknown, Far, NoMemory}

unfoldable pub fault_text : AsmFault → List ℕ
fault_text TooLong = codes "too long"
fault_text (Twice name) = codes "twice " ++ name
fault_text (Unknown name) = codes "unknown " ++ name
fault_text (Far name) = codes "far " ++ name
fault_text NoMemory = codes "out of memory"
