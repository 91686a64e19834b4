-- Which pages spawn keeps at a step, beside the one at UTEMP that other services keep, too: those of what it is given, of the child's stack, and
-- the page of the child's that it fills, which stands in both spaces then.
use Rattle.std.specs.Prelude.{ℕ, ◌%◌, ◌==◌, ◌&&◌, ◌||◌, not, Bool, true, false}
use Rattle.jos_base.specs.Words.{page_number}
use Rattle.lib_os.specs.declared.numbers.TheConstants.{SPAWN_GIVEN, SPAWN_HERE, SPAWN_STACK, TRANSFER_MAX}
use Rattle.lib_os.specs.declared.spawn_steps.BearingStep.{BearingStep}
use Rattle.lib_os.specs.declared.spawn_steps.BearingStep.TheVariants as bearing
use Rattle.lib_os.specs.declared.spawn_steps.FinishingStep.{FinishingStep}
use Rattle.lib_os.specs.declared.spawn_steps.FinishingStep.TheVariants as finishing
use Rattle.lib_os.specs.declared.spawn_steps.GivenStep.{GivenStep}
use Rattle.lib_os.specs.declared.spawn_steps.GivenStep.TheVariants as given
use Rattle.lib_os.specs.declared.spawn_steps.SpawnStep.{SpawnStep}
use Rattle.lib_os.specs.declared.spawn_steps.SpawnStep.TheVariants as spawn
use Rattle.lib_os.specs.declared.spawn_steps.UndoingStep.{UndoingStep}
use Rattle.lib_os.specs.declared.spawn_steps.UndoingStep.TheVariants as undoing

-- ---- the page of its path, its requests and their bytes

abbrev pub finishing_has_path : FinishingStep → Bool
finishing_has_path (finishing.DroppingFile fd child) = false
finishing_has_path (finishing.PassingRegion child region) = false
finishing_has_path (finishing.PassingEntry child page) = false
finishing_has_path (finishing.PassingPage child page perm) = false
finishing_has_path (finishing.ChildRuns child) = false
finishing_has_path _ = true

abbrev pub keeps_request_page : SpawnStep → Bool
keeps_request_page (spawn.Finishing at) = finishing_has_path at
keeps_request_page _ = true

-- ---- what it is given, and then the program headers

abbrev pub given_has_strings : GivenStep → Bool
given_has_strings given.TakingGiven = false
given_has_strings _ = true

abbrev pub finishing_has_headers : FinishingStep → Bool
finishing_has_headers (finishing.ReleasingPath fd child) = false
finishing_has_headers at = finishing_has_path at

abbrev pub undoing_has_given : UndoingStep → Bool
undoing_has_given (undoing.UndoingPath error) = false
undoing_has_given _ = true

abbrev pub keeps_given : SpawnStep → Bool
keeps_given (spawn.Given at) = given_has_strings at
keeps_given (spawn.Finishing at) = finishing_has_headers at
keeps_given (spawn.Undoing at) = undoing_has_given at
keeps_given _ = true

-- ---- the page of the child's stack

abbrev pub given_has_stack : GivenStep → Bool
given_has_stack (given.StringFirst count size index copied) = true
given_has_stack (given.StringCopying count size index copied) = true
given_has_stack (given.StringPutting count size index copied byte) = true
given_has_stack (given.StoringArgv count size) = true
given_has_stack (given.StoringArgc count size) = true
given_has_stack _ = false

abbrev pub finishing_has_stack : FinishingStep → Bool
finishing_has_stack (finishing.ReleasingGiven fd child) = false
finishing_has_stack at = finishing_has_headers at

abbrev pub undoing_has_stack : UndoingStep → Bool
undoing_has_stack (undoing.UndoingGiven error) = false
undoing_has_stack at = undoing_has_given at

abbrev pub keeps_stack : SpawnStep → Bool
keeps_stack (spawn.Given at) = given_has_stack at
keeps_stack (spawn.Finishing at) = finishing_has_stack at
keeps_stack (spawn.Undoing at) = undoing_has_stack at
keeps_stack _ = true

-- ---- a page of the child's

-- It is mapped before the first bytes of a piece, and again where a piece goes on in another.
abbrev pub fills_page : BearingStep → Bool
fills_page (bearing.MappingHere fd headers child header va done end) = not (done % TRANSFER_MAX == 0)
fills_page (bearing.PieceLoading fd headers child header va done end) = true
fills_page (bearing.PieceRest fd headers child header va done end first) = true
fills_page (bearing.PiecePutting fd headers child header va done end word) = true
fills_page (bearing.UnmappingHere fd headers child header end) = true
fills_page _ = false

abbrev pub keeps_here : SpawnStep → Bool
keeps_here (spawn.Bearing at) = fills_page at
keeps_here _ = false

-- ---- together

-- the pages that it keeps beside the one at UTEMP
abbrev pub keeps_page_at : SpawnStep → ℕ → Bool
keeps_page_at at p =
    ((p == page_number SPAWN_GIVEN) && keeps_given at) || ((p == page_number SPAWN_STACK) && keeps_stack at)
    || ((p == page_number SPAWN_HERE) && keeps_here at)

-- The child has the page of its stack, which is not given back yet.
abbrev pub has_given_stack : SpawnStep → Bool
has_given_stack (spawn.Finishing (finishing.ReleasingStack fd child)) = true
has_given_stack _ = false

-- The page with this number is the child's already, and stands here too: it counts as the child's.
abbrev pub is_childs : SpawnStep → ℕ → Bool
is_childs at p = ((p == page_number SPAWN_HERE) && keeps_here at) || ((p == page_number SPAWN_STACK) && has_given_stack at)
