-- How many frames the environments of the abstract system can want: one for each page of a program's own, one for each shared
-- page, and beside these for every environment a directory, tables, and a few pages that its library works with. The kernel
-- refuses a page for want of a frame only where one frame is free at the most, and then so many are wanted as it hands out.
use Rattle.std.specs.Prelude.{◌≡◌, ◌<◌, ◌≤◌, ℕ, ◌+◌, ◌-◌, ◌%◌, ◌==◌, ◌||◌, Bool, true, false, List, length, Option, Some, None}
use Rattle.std.specs.List.{Contains}
use Rattle.jos_base.specs.declared.numbers.TheConstants.{NENV}
use Rattle.jos_base.specs.Counting.{total, page_limit}
use Rattle.jos_base.specs.Environments.{bit_of}
use Rattle.jos_base.specs.KernelState.{KernelState}
use Rattle.jos_base.specs.Reach.{Entry}
use Rattle.jos_base.specs.SpacesState.{SpacesState, Region, directory, region_limit, reserved_frames}
use Rattle.jos_base.specs.Words.{is_exactly}
use Rattle.jos_base.specs.Below.{some_below}
use Rattle.lib_os.specs.declared.numbers.TheConstants.{DESCRIPTORS, MAXOPEN}
use Rattle.lib_os.specs.declared.service.Service.TheVariants as service
use Rattle.lib_os.specs.AbstractState.{AbstractState, Born, Page, own, named, AbstractSlot, free, unborn, born, serving}
use Rattle.lib_os.specs.AbstractState.{Object, read_end, write_end, Phase, in_service, ImageRead, Spawning, loading, closed}
use Rattle.lib_os.specs.AbstractSpawn.{image_memory, spawned}
use Rattle.lib_os.specs.LibraryPages.{is_library_region}
use Rattle.lib_os.specs.Rows.{Names}
use Rattle.lib_os.specs.StandsFor.{StandsFor}

-- ---- the frames that are handed out at all

abbrev pub pool_of : SpacesState → ℕ
pool_of s = s.frames - reserved_frames s.frames

-- What a frame is used for: it is free, an entry names it, it is a directory, or it is the table of a directory's region.
pub data HasUse (s : SpacesState) (f : ℕ) : Type 0 where
  in_list : Contains s.free f → HasUse s f
  in_entry : (d p : ℕ) (e : Entry) → s.entries d p ≡ Some e → e.frame ≡ f → HasUse s f
  as_directory : s.uses f ≡ directory → HasUse s f
  as_table : (d r : ℕ) (region : Region) → s.uses d ≡ directory → r < region_limit → s.regions d r ≡ Some region →
      region.table ≡ f → HasUse s f

abbrev pub EachHasUse : SpacesState → Type 0
EachHasUse s = (f : ℕ) → reserved_frames s.frames ≤ f → f < s.frames → HasUse s f

-- ---- an environment

-- how many of the numbers below n pass
abbrev pub count_below : ℕ → (ℕ → Bool) → ℕ
count_below n passes = total n (λ k. bit_of (passes k))

-- an environment's directory, the stack of its handler of page faults, and the pages that the library works with
abbrev pub directory_frames : ℕ
directory_frames = 1

abbrev pub stack_frames : ℕ
stack_frames = 1

abbrev pub working_frames : ℕ
working_frames = 4

abbrev pub is_own : Option Page → Bool
is_own (Some (own bytes writable)) = true
is_own _ = false

abbrev pub born_need : Born → ℕ
born_need b =
    directory_frames + count_below region_limit (λ r. b.regions r || is_library_region r)
    + (stack_frames + working_frames + count_below page_limit (λ p. is_own (b.memory p)))

-- ---- the file server: its directory, its tables, its own pages, those of open files, and the blocks of the disk

abbrev pub server_tables : ℕ
server_tables = 32

abbrev pub server_pages : ℕ
server_pages = 16

abbrev pub server_need : AbstractState → ℕ
server_need a =
    directory_frames + server_tables + server_pages + count_below MAXOPEN (λ k. (a.opened k).used) + a.files.blocks

-- ---- a slot

-- A child that spawn makes has all pages of its image, before those that its parent shares stand in the place of some.
abbrev pub spawned_need : Born → ImageRead → List (List ℕ) → ℕ
spawned_need b image pieces = born_need (record (spawned b image pieces 0) { memory = image_memory image pieces })

abbrev pub child_need : Born → Phase → Option Spawning → ℕ
child_need b (in_service (service.Spawn path argv) stage) (Some (loading fd image child pieces)) = spawned_need b image pieces
child_need b (in_service (service.Spawn path argv) stage) (Some (closed image child pieces)) = spawned_need b image pieces
child_need b phase found = born_need b

abbrev pub parent_need : AbstractSlot → ℕ
parent_need (born b) = child_need b b.phase b.spawning
parent_need _ = 0

-- a child that fork makes has what its parent has
abbrev pub slot_need : AbstractState → AbstractSlot → ℕ
slot_need a (free id) = 0
slot_need a (unborn id parent) = parent_need (a.slots (parent % NENV))
slot_need a (born b) = born_need b
slot_need a (serving id) = server_need a

-- ---- what several may have: shared pages, objects and pipes, each once

abbrev pub born_passes : (Born → Bool) → AbstractSlot → Bool
born_passes passes (born b) = passes b
born_passes passes _ = false

abbrev pub someone : AbstractState → (Born → Bool) → Bool
someone a passes = some_below NENV (λ n. born_passes passes (a.slots n))

abbrev pub is_page_of : ℕ → Option Page → Bool
is_page_of name (Some (named other writable)) = other == name
is_page_of name _ = false

abbrev pub has_page_of : ℕ → Born → Bool
has_page_of name b = some_below page_limit (λ p. is_page_of name (b.memory p))

abbrev pub has_object_of : ℕ → Born → Bool
has_object_of name b = some_below DESCRIPTORS (λ fd. is_exactly name (b.descriptors fd))

abbrev pub is_end_of : ℕ → Object → Bool
is_end_of name (read_end pipe) = pipe == name
is_end_of name (write_end pipe) = pipe == name
is_end_of name _ = false

abbrev pub is_end_at : AbstractState → ℕ → Option ℕ → Bool
is_end_at a name None = false
is_end_at a name (Some object) = is_end_of name (a.objects object)

abbrev pub has_end_of : AbstractState → ℕ → Born → Bool
has_end_of a name b = some_below DESCRIPTORS (λ fd. is_end_at a name (b.descriptors fd))

-- ---- the whole

-- Unfolded only in proofs: it is counted, and never computed.
unfoldable pub need : AbstractState → ℕ
need a =
    total NENV (λ n. slot_need a (a.slots n))
    + count_below a.next_name (λ name. someone a (has_page_of name))
    + count_below a.next_name (λ name. someone a (has_object_of name))
    + count_below a.next_name (λ name. someone a (has_end_of a name))

-- Where each frame has a use and no more than one is free, the abstract system wants as many as are handed out.
abbrev pub NeedIsReached : Type 0
NeedIsReached = (names : Names) (s : KernelState) (a : AbstractState) → StandsFor names s a → EachHasUse s.spaces →
    length s.spaces.free ≤ 1 → pool_of s.spaces ≤ need a
