-- The child that spawn makes, while it is not born: what it has of its image so far, by the step at which its parent stands.
-- (MIT 6.828, lab 5: lib/spawn.c.)
use Rattle.std.specs.Prelude.{◌≡◌, ℕ, ◌+◌, ◌*◌, ◌%◌, ◌==◌, ◌&&◌, ◌||◌, nat_le, nat_lt, not, Bool, true, false, is_some, List, [], ◌++◌}
use Rattle.std.specs.Prelude.{Option, Some, None, slice_index, if◌then◌else◌}
use Rattle.jos_base.specs.declared.numbers.TheConstants.{NENV, NPTENTRIES, USTACKTOP}
use Rattle.jos_base.specs.declared.registers.Regs.{Regs}
use Rattle.jos_base.specs.Environments.{Slot}
use Rattle.jos_base.specs.Reach.{Entry}
use Rattle.jos_base.specs.SpacesState.{SpacesState}
use Rattle.jos_base.specs.SystemCalls.{is_page_perm}
use Rattle.jos_base.specs.Below.{some_below}
use Rattle.jos_base.specs.Words.{page_number}
use Rattle.jos_elf.specs.declared.header.ProgramHeader.{ProgramHeader}
use Rattle.jos_elf.specs.declared.image.Segment.{Segment}
use Rattle.jos_elf.specs.Headers.{entry_count_of, entry_point_of}
use Rattle.jos_elf.specs.Pages.{any_writes, page_bytes, stack_page, touches}
use Rattle.jos_elf.specs.Parsed.{segment_of, segments_of}
use Rattle.jos_elf.specs.Started.{program_registers}
use Rattle.jos_elf.specs.Tests.{is_loaded}
use Rattle.lib_os.specs.declared.numbers.TheConstants.{PGFAULT_UPCALL, UXSTACK}
use Rattle.lib_os.specs.declared.place.Place.TheVariants as place
use Rattle.lib_os.specs.declared.place.Step.TheVariants as step
use Rattle.lib_os.specs.declared.service.Service.TheVariants as service
use Rattle.lib_os.specs.declared.spawn_steps.BearingStep.{BearingStep}
use Rattle.lib_os.specs.declared.spawn_steps.BearingStep.TheVariants as bearing
use Rattle.lib_os.specs.declared.spawn_steps.FilePart.{FilePart}
use Rattle.lib_os.specs.declared.spawn_steps.FilePart.TheVariants as part
use Rattle.lib_os.specs.declared.spawn_steps.FinishingStep.{FinishingStep}
use Rattle.lib_os.specs.declared.spawn_steps.FinishingStep.TheVariants as finishing
use Rattle.lib_os.specs.declared.spawn_steps.SpawnStep.{SpawnStep}
use Rattle.lib_os.specs.declared.spawn_steps.SpawnStep.TheVariants as spawn
use Rattle.lib_os.specs.declared.spawn_steps.UndoingStep.TheVariants as undoing
use Rattle.lib_os.specs.AbstractState.{AbstractSlot, Born, Page, own, born, Phase, in_service, replied, ImageRead, Spawning, loading, closed}
use Rattle.lib_os.specs.AbstractMemory.{has_page_in}
use Rattle.lib_os.specs.AbstractSpawn.{all_of, headers_in, packed, under_shared}
use Rattle.lib_os.specs.LibraryPages.{IsOwnWritable, is_library_region}
use Rattle.lib_os.specs.Places.{place_of}
use Rattle.lib_os.specs.ProgramMemory.{stack_of}
use Rattle.lib_os.specs.Rows.{EntryRow, Names, is_cow, is_of_descriptor, is_programs, is_shared, page_seen, rows_of}
use Rattle.lib_os.specs.SpawnPages.{is_childs}

-- ---- how far the child is

-- What a child has: its registers; the pages of the segments of so many program headers, and of the next those below a number; the bytes of the
-- segments of so many, and so many of the next; the rights of the pages of so many, and of the next of those below a number; the stack of its
-- handler, and the handler; the page of its own stack; and what its parent shares, from a page on.
pub record Progress : Type 0 where
  pub registers : Bool
  pub placed : ℕ
  pub pages : ℕ
  pub filled : ℕ
  pub bytes : ℕ
  pub settled : ℕ
  pub rights : ℕ
  pub handler_stack : Bool
  pub handler : Bool
  pub stack : Bool
  pub passed : ℕ

-- behind the last page that a program may have
abbrev pub no_page_passed : ℕ
no_page_passed = page_number USTACKTOP

-- it was just made
abbrev pub fresh : Progress
fresh = record {
  registers = false;
  placed = 0;
  pages = 0;
  filled = 0;
  bytes = 0;
  settled = 0;
  rights = 0;
  handler_stack = false;
  handler = false;
  stack = false;
  passed = no_page_passed;
}

-- it has pages of so many segments, of so many the bytes, and of so many the rights
abbrev pub placing : ℕ → ℕ → Progress
placing header page = record fresh { registers = true; placed = header; pages = page }

abbrev pub filling : ℕ → ℕ → ℕ → Progress
filling headers header done = record (placing headers 0) { filled = header; bytes = done }

abbrev pub settling : ℕ → ℕ → ℕ → Progress
settling headers header page = record (filling headers headers 0) { settled = header; rights = page }

-- it has all segments
abbrev pub whole : ℕ → Progress
whole headers = settling headers headers 0

abbrev pub with_handler_stack : ℕ → Progress
with_handler_stack headers = record (whole headers) { handler_stack = true }

abbrev pub with_handler : ℕ → Progress
with_handler headers = record (with_handler_stack headers) { handler = true }

-- and what is shared, from a page on
abbrev pub passing : ℕ → ℕ → Progress
passing headers page = record (with_handler headers) { stack = true; passed = page }

abbrev pub bearing_progress : BearingStep → Progress
bearing_progress (bearing.MakingChild esp fd entry_point headers) = fresh
bearing_progress (bearing.StoringRegister esp fd entry_point headers child index) = fresh
bearing_progress (bearing.SettingRegisters fd headers child) = fresh
bearing_progress (bearing.PlacingKind fd headers child header) = placing header 0
bearing_progress (bearing.PlacingMemory fd headers child header) = placing header 0
bearing_progress (bearing.PlacingAddress fd headers child header memory) = placing header 0
bearing_progress (bearing.PlacingPage fd headers child header page last) = placing header page
bearing_progress (bearing.PieceKind fd headers child header) = filling headers header 0
bearing_progress (bearing.PieceMemory fd headers child header) = filling headers header 0
bearing_progress (bearing.PieceLength fd headers child header done) = filling headers header done
bearing_progress (bearing.PieceOffset fd headers child header done end) = filling headers header done
bearing_progress (bearing.PieceAddress fd headers child header done end) = filling headers header done
bearing_progress (bearing.MappingHere fd headers child header va done end) = filling headers header done
bearing_progress (bearing.PieceLoading fd headers child header va done end) = filling headers header done
bearing_progress (bearing.PieceRest fd headers child header va done end first) = filling headers header done
bearing_progress (bearing.PiecePutting fd headers child header va done end word) = filling headers header done
bearing_progress (bearing.UnmappingHere fd headers child header end) = filling headers header end

-- of an image with so many program headers
abbrev pub finishing_progress : ℕ → FinishingStep → Progress
finishing_progress n (finishing.RightsKind fd headers child header) = settling n header 0
finishing_progress n (finishing.RightsFlags fd headers child header) = settling n header 0
finishing_progress n (finishing.RightsMemory fd headers child header) = settling n header 0
finishing_progress n (finishing.RightsAddress fd headers child header memory) = settling n header 0
finishing_progress n (finishing.SharedKind fd headers child header page end other) = settling n header 0
finishing_progress n (finishing.SharedFlags fd headers child header page end other) = settling n header 0
finishing_progress n (finishing.SharedMemory fd headers child header page end other) = settling n header 0
finishing_progress n (finishing.SharedAddress fd headers child header page end other other_memory) = settling n header 0
finishing_progress n (finishing.RightsPage fd headers child header page end) = settling n header page
finishing_progress n (finishing.ChildStack fd child) = whole n
finishing_progress n (finishing.ChildUpcall fd child) = with_handler_stack n
finishing_progress n (finishing.GivingStack fd child) = with_handler n
finishing_progress n (finishing.ReleasingStack fd child) = passing n no_page_passed
finishing_progress n (finishing.ReleasingGiven fd child) = passing n no_page_passed
finishing_progress n (finishing.ReleasingPath fd child) = passing n no_page_passed
finishing_progress n (finishing.DroppingFile fd child) = passing n no_page_passed
finishing_progress n (finishing.PassingRegion child region) = passing n ((region + 1) * NPTENTRIES)
finishing_progress n (finishing.PassingEntry child page) = passing n (page + 1)
finishing_progress n (finishing.PassingPage child page perm) = passing n (page + 1)
finishing_progress n (finishing.ChildRuns child) = passing n 0

abbrev pub part_progress : FilePart → Progress
part_progress (part.Piece fd headers child header done end place) = filling headers header done
part_progress _ = fresh

-- what is known of it at a step: where it is to be destroyed, nothing
abbrev pub IsProgress : ℕ → SpawnStep → Progress → Type 0
IsProgress n (spawn.Undoing at) progress = ◌≡◌ {A = ℕ} 0 0
IsProgress n (spawn.Reading part at) progress = progress ≡ part_progress part
IsProgress n (spawn.Bearing at) progress = progress ≡ bearing_progress at
IsProgress n (spawn.Finishing at) progress = progress ≡ finishing_progress n at
IsProgress n _ progress = progress ≡ fresh

-- ---- its pages

-- the program header with so much of its segment's bytes as the child has
abbrev pub filled_to : Progress → ℕ → ProgramHeader → ProgramHeader
filled_to progress n header =
    if nat_lt n progress.filled then header else record header { file_len = if n == progress.filled then progress.bytes else 0 }

abbrev pub headers_filled : ImageRead → Progress → ℕ → ProgramHeader
headers_filled image progress n = filled_to progress n (packed (headers_in image.table) n)

abbrev pub segments_filled : ImageRead → Progress → List Segment
segments_filled image progress = segments_of (headers_filled image progress) (entry_count_of (slice_index image.header))

-- a program header of the image says of a segment that touches a page
abbrev pub header_touches : ImageRead → ℕ → ℕ → Bool
header_touches image p n =
    nat_lt n (entry_count_of (slice_index image.header)) && is_loaded (headers_in image.table n) && touches p (segment_of (headers_in image.table n))

-- the child has the page
abbrev pub is_placed_page : ImageRead → Progress → ℕ → Bool
is_placed_page image progress p =
    some_below progress.placed (header_touches image p) || (header_touches image p progress.placed && nat_lt p progress.pages)

-- the page's rights are set
abbrev pub is_settled_page : ImageRead → Progress → ℕ → Bool
is_settled_page image progress p =
    some_below progress.settled (header_touches image p) || (header_touches image p progress.settled && nat_lt p progress.rights)

-- the page with what the child has of these bytes; it may be written, too, where its rights are not set
abbrev pub image_page : ImageRead → Progress → List ℕ → ℕ → Option Page
image_page image progress file p =
    if is_placed_page image progress p
    then Some (own (page_bytes (segments_filled image progress) file p) (any_writes p (segments_filled image progress) || not (is_settled_page image progress p)))
    else None

abbrev pub own_page : ImageRead → Progress → List ℕ → ℕ → Option Page
own_page image progress file p =
    if p == stack_page then (if progress.stack then Some (stack_of image.words) else None) else image_page image progress file p

-- a page that is shared stands in the place of its own, where it was passed on
abbrev pub child_page : Born → ImageRead → Progress → List ℕ → ℕ → Option Page
child_page b image progress file p =
    if nat_le progress.passed p then under_shared (b.memory p) (own_page image progress file p) else own_page image progress file p

-- ---- the child itself

-- the child's id
abbrev pub bearing_child : BearingStep → Option ℕ
bearing_child (bearing.MakingChild esp fd entry_point headers) = None
bearing_child (bearing.StoringRegister esp fd entry_point headers child index) = Some child
bearing_child (bearing.SettingRegisters fd headers child) = Some child
bearing_child (bearing.PlacingKind fd headers child header) = Some child
bearing_child (bearing.PlacingMemory fd headers child header) = Some child
bearing_child (bearing.PlacingAddress fd headers child header memory) = Some child
bearing_child (bearing.PlacingPage fd headers child header page last) = Some child
bearing_child (bearing.PieceKind fd headers child header) = Some child
bearing_child (bearing.PieceMemory fd headers child header) = Some child
bearing_child (bearing.PieceLength fd headers child header done) = Some child
bearing_child (bearing.PieceOffset fd headers child header done end) = Some child
bearing_child (bearing.PieceAddress fd headers child header done end) = Some child
bearing_child (bearing.MappingHere fd headers child header va done end) = Some child
bearing_child (bearing.PieceLoading fd headers child header va done end) = Some child
bearing_child (bearing.PieceRest fd headers child header va done end first) = Some child
bearing_child (bearing.PiecePutting fd headers child header va done end word) = Some child
bearing_child (bearing.UnmappingHere fd headers child header end) = Some child

abbrev pub finishing_child : FinishingStep → ℕ
finishing_child (finishing.RightsKind fd headers child header) = child
finishing_child (finishing.RightsFlags fd headers child header) = child
finishing_child (finishing.RightsMemory fd headers child header) = child
finishing_child (finishing.RightsAddress fd headers child header memory) = child
finishing_child (finishing.SharedKind fd headers child header page end other) = child
finishing_child (finishing.SharedFlags fd headers child header page end other) = child
finishing_child (finishing.SharedMemory fd headers child header page end other) = child
finishing_child (finishing.SharedAddress fd headers child header page end other other_memory) = child
finishing_child (finishing.RightsPage fd headers child header page end) = child
finishing_child (finishing.ChildStack fd child) = child
finishing_child (finishing.ChildUpcall fd child) = child
finishing_child (finishing.GivingStack fd child) = child
finishing_child (finishing.ReleasingStack fd child) = child
finishing_child (finishing.ReleasingGiven fd child) = child
finishing_child (finishing.ReleasingPath fd child) = child
finishing_child (finishing.DroppingFile fd child) = child
finishing_child (finishing.PassingRegion child region) = child
finishing_child (finishing.PassingEntry child page) = child
finishing_child (finishing.PassingPage child page perm) = child
finishing_child (finishing.ChildRuns child) = child

abbrev pub spawning_child : SpawnStep → Option ℕ
spawning_child (spawn.Reading (part.Piece fd headers child header done end place) at) = Some child
spawning_child (spawn.Bearing at) = bearing_child at
spawning_child (spawn.Finishing at) = Some (finishing_child at)
spawning_child (spawn.Undoing (undoing.DestroyingChild fd child error)) = Some child
spawning_child _ = None

-- the bytes that have come for its segments: those that were read before, and those of the last reply
abbrev pub bytes_replied : Phase → List ℕ
bytes_replied (in_service call (replied bytes answer)) = bytes
bytes_replied _ = []

-- by what spawn has found out, it loads this image for the child in a slot, and has these bytes
pub data Loads (slot : ℕ) (image : ImageRead) : Option Spawning → List ℕ → List ℕ → Type 0 where
  is_loading : (fd : ℕ) (pieces : List (List ℕ)) (more : List ℕ) → Loads slot image (Some (loading fd image slot pieces)) more (all_of pieces ++ more)
  is_closed : (pieces : List (List ℕ)) (more : List ℕ) → Loads slot image (Some (closed image slot pieces)) more (all_of pieces)

-- the address of its handler, where it has one
abbrev pub handler_of : Bool → ℕ
handler_of has = if has then PGFAULT_UPCALL else 0

-- its registers, where they are set; before, those that it got as it was made
abbrev pub registers_of : Bool → Regs → ImageRead → Regs
registers_of set parent image = if set then program_registers (entry_point_of (slice_index image.header)) image.words else record parent { eax = 0 }

-- which page of the child's stands in its parent's space, too: the one that is filled, or that of its stack
abbrev pub page_filled : BearingStep → Option ℕ
page_filled (bearing.PieceLoading fd headers child header va done end) = Some (page_number (va + done))
page_filled (bearing.PieceRest fd headers child header va done end first) = Some (page_number (va + done))
page_filled (bearing.PiecePutting fd headers child header va done end word) = Some (page_number (va + done))
page_filled _ = None

abbrev pub page_here : SpawnStep → Option ℕ
page_here (spawn.Bearing at) = page_filled at
page_here (spawn.Finishing (finishing.ReleasingStack fd child)) = Some stack_page
page_here _ = None

-- A page of the child's own that stands in its parent's space, too, has one frame in both, and its parent may read it. It is this one, where that is told.
pub record IsHere (parent child : EntryRow) (p : ℕ) (told : Option ℕ) : Type 0 where
  pub place : ℕ
  pub is_told : (q : ℕ) → told ≡ Some q → place ≡ q
  pub programs : is_programs place ≡ true
  pub here : Entry
  pub there : Entry
  pub here_is : parent p ≡ Some here
  pub there_is : child place ≡ Some there
  pub own_page : is_shared there.perm ≡ false
  pub user : is_page_perm here.perm ≡ true
  pub same : here.frame ≡ there.frame

-- Its parent stands in spawn, and bears it. It has what spawn has given it so far of its image, each page as it is to be; of the pages of the
-- parent's descriptors those that were passed on.
pub record IsSpawned (names : Names) (s : SpacesState) (parent : Slot) (parent_is : AbstractSlot) (k : Slot) (id parent_id : ℕ) : Type 0 where
  pub b : Born
  pub born_by : parent_is ≡ born b
  pub named : b.id ≡ parent_id
  pub path : ℕ
  pub argv : ℕ
  pub at_step : SpawnStep
  pub at : place_of parent ≡ place.InService (service.Spawn path argv) (step.Spawning at_step)
  pub borne : spawning_child at_step ≡ Some id
  pub image : ImageRead
  pub file : List ℕ
  pub loads : Loads (id % NENV) image b.spawning (bytes_replied b.phase) file
  pub progress : Progress
  pub is_so : IsProgress (entry_count_of (slice_index image.header)) at_step progress
  -- what it has
  pub registers : k.registers ≡ registers_of progress.registers parent.registers image
  pub upcall : k.upcall ≡ handler_of progress.handler
  pub memory : (p : ℕ) → is_programs p ≡ true → page_seen names s k.directory p ≡ child_page b image progress file p
  -- none of its own pages is copied when it is written
  pub uncopied : (p : ℕ) (x : Entry) → is_programs p ≡ true → rows_of s k.directory p ≡ Some x → is_shared x.perm ≡ false → is_cow x.perm ≡ false
  pub handed : (p : ℕ) → is_of_descriptor p ≡ true → nat_le progress.passed p ≡ true → rows_of s k.directory p ≡ rows_of s parent.directory p
  pub rest : (p : ℕ) → is_of_descriptor p ≡ true → nat_le progress.passed p ≡ false → rows_of s k.directory p ≡ None
  pub handler_stack : progress.handler_stack ≡ true → IsOwnWritable (rows_of s k.directory) (page_number UXSTACK)
  pub no_handler_stack : progress.handler_stack ≡ false → rows_of s k.directory (page_number UXSTACK) ≡ None
  pub none : (p : ℕ) → is_programs p ≡ false → is_of_descriptor p ≡ false → (p == page_number UXSTACK) ≡ false → rows_of s k.directory p ≡ None
  pub tables : (r : ℕ) → is_some (s.regions k.directory r) ≡ true →
      has_page_in (child_page b image (passing (entry_count_of (slice_index image.header)) 0) file) r || is_library_region r ≡ true
  -- what stands in both spaces
  pub here : (p : ℕ) → is_childs at_step p ≡ true → IsHere (rows_of s parent.directory) (rows_of s k.directory) p (page_here at_step)
