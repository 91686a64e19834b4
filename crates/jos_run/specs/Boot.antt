-- How a run begins: the file server's environment in slot 0, which has a page for the records of open files and may run, and a program in
-- slot 1, with the pages of its image, a page of stack on which its words stand, a page for the stack of the library's handler of page
-- faults, to which its page faults go, and a page that tells the console, which its first two descriptors name.
-- (MIT 6.828, env_create and load_icode of kern/env.c, init_stack of lib/spawn.c, and set_pgfault_handler of lib/pgfault.c.)
use Rattle.std.specs.Prelude.{ℕ, ◌+◌, ◌*◌, ◌/◌, nat_lt, Bool, true, List, [], ◌∷◌, Option, None, Some, Result, Ok, Err, if◌then◌else◌}
use Rattle.std.specs.Prelude.{option_and_then}
use Rattle.std.specs.Option.{option_map}
use Rattle.jos_base.specs.declared.environment.EnvType.TheVariants.{FileServer}
use Rattle.jos_base.specs.declared.environment.Status.TheVariants.{Runnable}
use Rattle.jos_base.specs.declared.errno.Errno.{Errno}
use Rattle.jos_base.specs.declared.numbers.TheConstants.{FDTABLE, NPTENTRIES, PGSIZE}
use Rattle.jos_base.specs.Counting.{total}
use Rattle.jos_base.specs.Environments.{bit_of}
use Rattle.jos_base.specs.KernelState.{KernelState, first_state, slot_at, with_env_type, with_registers, with_spaces, with_status}
use Rattle.jos_base.specs.KernelState.{with_upcall}
use Rattle.jos_base.specs.SpacesState.{SpacesState, allocated, inserted, overlaid, with_page_bytes, zero_page}
use Rattle.jos_base.specs.SystemCalls.{environment_made}
use Rattle.jos_base.specs.TrapFrames.{bytes_of_words}
use Rattle.jos_elf.specs.declared.image.Segment.{Segment}
use Rattle.jos_elf.specs.Parsed.{Layout}
use Rattle.jos_kernel.specs.Boot.{only_state, page_loaded, pages_loaded, perm_of}
use Rattle.jos_elf.specs.Pages.{any_touches, stack_page}
use Rattle.jos_elf.specs.Started.{program_registers, stack_segment}
use Rattle.lib_os.specs.declared.numbers.TheConstants.{DEVICE_CONSOLE, OPEN_RECORDS, O_RDWR, PGFAULT_UPCALL, UXSTACK}
use Rattle.lib_os.specs.Rows.{descriptor_page, descriptor_perm}
use Rattle.jos_elf.specs.StackPage.{stack_contents}
use Rattle.jos_base.specs.Below.{some_below}
use Rattle.jos_run.specs.declared.boot.TheConstants.{FRAMES_BESIDE}

-- ---- the program

-- the pages of the image, and then that of the stack
unfoldable pub program_loaded : List Segment → List ℕ → List (List ℕ) → ℕ → SpacesState → Option SpacesState
program_loaded segments file words space s =
    option_and_then (page_loaded (stack_segment words ∷ []) (stack_contents words) space stack_page)
    (pages_loaded segments file space s (FDTABLE / PGSIZE))

abbrev pub handler_page : ℕ
handler_page = UXSTACK / PGSIZE

-- a page of zeros for the stack of the handler of page faults
unfoldable pub handler_stack_loaded : ℕ → SpacesState → Option SpacesState
handler_stack_loaded space s = only_state (allocated s space handler_page (perm_of true))

-- what the page of a descriptor holds that names the console, which may be read and written
abbrev pub console_bytes : List ℕ
console_bytes = bytes_of_words (DEVICE_CONSOLE ∷ 0 ∷ O_RDWR ∷ 0 ∷ [])

abbrev pub console_in : ℕ → Option (ℕ × SpacesState) → Option SpacesState
console_in space None = None
console_in space (Some page) =
    inserted (with_page_bytes page.1 page.0 (overlaid zero_page 0 console_bytes)) space (descriptor_page 1)
    (record { frame = page.0; perm = descriptor_perm })

-- one page for the first two descriptors
unfoldable pub console_loaded : ℕ → SpacesState → Option SpacesState
console_loaded space s = console_in space (allocated s space (descriptor_page 0) descriptor_perm)

-- the program, then the stack of the handler, and then the console
unfoldable pub space_loaded : List Segment → List ℕ → List (List ℕ) → ℕ → SpacesState → Option SpacesState
space_loaded segments file words space s =
    option_and_then (console_loaded space) (option_and_then (handler_stack_loaded space) (program_loaded segments file words space s))

-- its page faults go to the handler, and it may run
abbrev pub program_started : KernelState → ℕ → ℕ → List (List ℕ) → SpacesState → KernelState
program_started s n entry words spaces =
    with_status (with_upcall (with_registers (with_spaces s spaces) n (program_registers entry words)) n PGFAULT_UPCALL) n Runnable

abbrev pub program_in : Layout → List ℕ → List (List ℕ) → Result (ℕ × KernelState) Errno → Option KernelState
program_in image file words (Err error) = None
program_in image file words (Ok made) =
    option_map (program_started made.1 made.0 image.entry words)
    (space_loaded image.segments file words (slot_at made.1 made.0).directory made.1.spaces)

-- ---- the server

-- a page of zeros for the records of open files
unfoldable pub records_loaded : ℕ → SpacesState → Option SpacesState
records_loaded space s = only_state (allocated s space (OPEN_RECORDS / PGSIZE) (perm_of true))

-- it has the page, and it may run
abbrev pub server_started : KernelState → ℕ → SpacesState → KernelState
server_started s n spaces = with_status (with_env_type (with_spaces s spaces) n FileServer) n Runnable

abbrev pub server_in : Result (ℕ × KernelState) Errno → Option KernelState
server_in (Err error) = None
server_in (Ok made) = option_map (server_started made.1 made.0) (records_loaded (slot_at made.1 made.0).directory made.1.spaces)

-- ---- both

-- None where a frame is wanted and none is free
unfoldable pub program_booted : Layout → List ℕ → List (List ℕ) → ℕ → List ℕ → Option KernelState
program_booted image file words frames input =
    option_and_then (λ s. program_in image file words (environment_made s 0))
    (server_in (environment_made (first_state frames input) 0))

-- ---- how many frames a run wants

-- a region of 4 MB in which a segment touches a page
abbrev pub touches_region : List Segment → ℕ → Bool
touches_region segments region = some_below NPTENTRIES (λ k. any_touches (region * NPTENTRIES + k) segments)

-- how many pages the segments touch, and how many regions
abbrev pub pages_touched : List Segment → ℕ
pages_touched segments = total (FDTABLE / PGSIZE) (λ number. bit_of (any_touches number segments))

abbrev pub regions_touched : List Segment → ℕ
regions_touched segments = total (FDTABLE / PGSIZE / NPTENTRIES) (λ region. bit_of (touches_region segments region))

-- a frame for each page and one for the table of each region, and those beside
unfoldable pub boot_frames : Layout → ℕ
boot_frames image = FRAMES_BESIDE + pages_touched image.segments + regions_touched image.segments

-- a program whose image wants more is not booted at all
unfoldable pub booted_within : Layout → List ℕ → List (List ℕ) → ℕ → List ℕ → Option KernelState
booted_within image file words frames input =
    if nat_lt frames (boot_frames image) then None else program_booted image file words frames input
