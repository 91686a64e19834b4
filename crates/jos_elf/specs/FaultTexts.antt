-- How a fault is told. (This system's own.)
use Rattle.std.specs.Prelude.{ℕ, List, ◌++◌, codes, decimal}
use Rattle.jos_elf.specs.declared.fault.ElfFault.{ElfFault}
use Rattle.jos_elf.specs.declared.fault.ElfFault.TheVariants.{Truncated, Magic, Class, Kind, Machine, EntrySize}
use Rattle.jos_elf.specs.declared.fault.ElfFault.TheVariants.{TooMany, SegmentRange, Overlap}

unfoldable pub fault_text : ElfFault → List ℕ
fault_text (Truncated len) = codes "truncated " ++ decimal len
fault_text Magic = codes "magic"
fault_text Class = codes "class"
fault_text Kind = codes "kind"
fault_text Machine = codes "machine"
fault_text EntrySize = codes "entry size"
fault_text TooMany = codes "too many"
fault_text (SegmentRange place) = codes "segment range " ++ decimal place
fault_text (Overlap place other) = codes "overlap " ++ decimal place ++ codes " " ++ decimal other
