-- How the kernel boots images: each becomes an environment with the pages of its segments and a stack page.
-- (MIT 6.828, env_create and load_icode of kern/env.c, and inc/memlayout.h.)
use Rattle.std.specs.Prelude.{ℕ, ◌+◌, ◌/◌, zero, suc, Bool, true, List, [], ◌∷◌}
use Rattle.std.specs.Prelude.{Option, None, Some, Result, Ok, Err, if◌then◌else◌, Vec, option_and_then}
use Rattle.std.specs.declared.alloc.Global.{Global}
use Rattle.std.specs.Option.{option_map}
use Rattle.jos_base.specs.declared.environment.Status.TheVariants.{Runnable}
use Rattle.jos_base.specs.declared.errno.Errno.{Errno}
use Rattle.jos_base.specs.declared.numbers.TheConstants.{PGSIZE, PTE_P, PTE_U, PTE_W, FDTABLE}
use Rattle.jos_base.specs.SpacesState.{SpacesState, allocated, with_page_bytes}
use Rattle.jos_base.specs.KernelState.{KernelState, first_state, slot_at, with_spaces, with_status, with_registers}
use Rattle.jos_base.specs.SystemCalls.{environment_made}
use Rattle.jos_elf.specs.declared.image.Segment.{Segment}
use Rattle.jos_elf.specs.Parsed.{Layout}
use Rattle.jos_elf.specs.Pages.{any_touches, any_writes, page_bytes, stack_page}
use Rattle.jos_elf.specs.Started.{first_registers}

-- ---- the pages of its environment

abbrev pub perm_of : Bool → ℕ
perm_of writable = if writable then PTE_P + PTE_W + PTE_U else PTE_P + PTE_U

-- a page is allocated, and has these bytes; None where a frame is wanted and none is free
abbrev pub filled : List ℕ → Option (ℕ × SpacesState) → Option SpacesState
filled bytes None = None
filled bytes (Some page) = Some (with_page_bytes page.1 page.0 bytes)

abbrev pub page_loaded : List Segment → List ℕ → ℕ → ℕ → SpacesState → Option SpacesState
page_loaded segments file space number s =
    if any_touches number segments
    then filled (page_bytes segments file number) (allocated s space number (perm_of (any_writes number segments)))
    else Some s

-- the pages below a number are loaded in rising order
unfoldable pub pages_loaded : List Segment → List ℕ → ℕ → SpacesState → ℕ → Option SpacesState
pages_loaded segments file space s zero = Some s
pages_loaded segments file space s (suc n) =
    option_and_then (page_loaded segments file space n) (pages_loaded segments file space s n)

abbrev pub only_state : Option (ℕ × SpacesState) → Option SpacesState
only_state None = None
only_state (Some page) = Some page.1

-- no image has memory at FDTABLE or above; the stack page comes last
unfoldable pub image_loaded : List Segment → List ℕ → ℕ → SpacesState → Option SpacesState
image_loaded segments file space s =
    option_and_then (λ t. only_state (allocated t space stack_page (perm_of true)))
    (pages_loaded segments file space s (FDTABLE / PGSIZE))

-- ---- the environments

abbrev pub started : KernelState → ℕ → ℕ → SpacesState → KernelState
started s n entry spaces = with_status (with_registers (with_spaces s spaces) n (first_registers entry)) n Runnable

abbrev pub image_booted_in : Layout → List ℕ → Result (ℕ × KernelState) Errno → Option KernelState
image_booted_in image file (Err error) = None
image_booted_in image file (Ok made) =
    option_map (started made.1 made.0 image.entry)
    (image_loaded image.segments file (slot_at made.1 made.0).directory made.1.spaces)

-- an environment without a parent, which stands at the image's entry; None where a frame is wanted and none is free
unfoldable pub image_booted : Layout → List ℕ → KernelState → Option KernelState
image_booted image file s = image_booted_in image file (environment_made s 0)

-- an image with the file that it was read from
pub record Loadable : Type 0 where
  pub image : Layout
  pub file : List ℕ

-- each image with the file at its place
abbrev pub loadables : List Layout → List (Vec ℕ Global) → List Loadable
loadables [] files = []
loadables (image ∷ images) [] = []
loadables (image ∷ images) (file ∷ files) = record { image = image; file = file.items } ∷ loadables images files

unfoldable pub all_booted : List Loadable → KernelState → Option KernelState
all_booted [] s = Some s
all_booted (l ∷ rest) s = option_and_then (all_booted rest) (image_booted l.image l.file s)

-- the images are booted in their order
unfoldable pub booted : List Loadable → ℕ → List ℕ → Option KernelState
booted images frames input = all_booted images (first_state frames input)
