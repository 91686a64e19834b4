-- What a check answers, as the definition of disk images has it.
use Rattle.std.specs.Prelude.{ℕ, Bool, false, not, List, [], ◌∷◌, get_or, Option, Some, None, Result, Ok, Err}
use Rattle.fs_image.specs.declared.fault.ImageFault.{ImageFault}
use Rattle.fs_image.specs.declared.fault.ImageFault.TheVariants.{TooShort, Magic, BlockCount, RootKind, Kind, BadName, DirSize}
use Rattle.fs_image.specs.declared.fault.ImageFault.TheVariants.{TooLong, Hole, Range, NamedTwice, MarkedFree, Stray, SameName}
use Rattle.fs_layout.specs.DiskImage as disk

abbrev pub fault_of : ImageFault → disk.ImageFault
fault_of TooShort = disk.TooShort
fault_of Magic = disk.Magic
fault_of BlockCount = disk.BlockCount
fault_of RootKind = disk.RootKind
fault_of (Kind place) = disk.Kind place
fault_of (BadName place) = disk.BadName place
fault_of (DirSize place) = disk.DirSize place
fault_of (TooLong place) = disk.TooLong place
fault_of (Hole place) = disk.Hole place
fault_of (Range block) = disk.Range block
fault_of (NamedTwice block) = disk.NamedTwice block
fault_of (MarkedFree block) = disk.MarkedFree block
fault_of (Stray place) = disk.Stray place
fault_of (SameName place) = disk.SameName place

-- the blocks whose element is true
unfoldable pub blocks_in : List Bool → disk.Blocks
blocks_in named block = get_or named block false

-- a fault, or the blocks that were named by then
abbrev pub told : Option ImageFault → disk.Blocks → Result disk.Blocks disk.ImageFault
told None named = Ok named
told (Some fault) named = Err (fault_of fault)

abbrev pub test_answer : Option ImageFault → List Bool → Result disk.Blocks disk.ImageFault
test_answer fault named = told fault (blocks_in named)

-- the tests of a directory's record, as `slot_tests` has them, but for what stands below it
unfoldable pub own_tests : (ℕ → ℕ) → ℕ → ℕ → List disk.Test
own_tests byte directory i =
    let place = disk.slot_place byte directory i in
    disk.demand (disk.is_good_kind (disk.kind_at byte place)) (disk.Kind place)
    ∷ disk.demand (disk.is_good_name (disk.name_of byte place)) (disk.BadName place)
    ∷ disk.in_turn (disk.record_tests byte place)
    ∷ disk.demand (not (disk.has_taken_name byte directory i)) (disk.SameName place)
    ∷ []
