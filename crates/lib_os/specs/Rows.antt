-- The pages of address spaces as the library sees them: what an entry is to its environment, and how entries count where they
-- are counted together, be a page on its way from one place to another.
-- (MIT 6.828, lib/fork.c: PTE_COW; inc/lib.h: PTE_SHARE.)
use Rattle.std.specs.Prelude.{◌≡◌, ◌<◌, ℕ, ◌+◌, ◌-◌, ◌*◌, ◌%◌, ◌==◌, ◌&&◌, ◌||◌, nat_le, nat_lt, not, Bool, true, false, List, Option, None, Some}
use Rattle.std.specs.Prelude.{bit_and, length, slice_index, if◌then◌else◌}
use Rattle.std.specs.Option.{option_map}
use Rattle.jos_base.specs.declared.numbers.TheConstants.{FDTABLE, PGSIZE, PTE_P, PTE_SYSCALL, PTE_U, PTE_W, UTEMP}
use Rattle.jos_base.specs.Environments.{Slot, is_live}
use Rattle.jos_base.specs.Reach.{Entry}
use Rattle.jos_base.specs.SpacesState.{SpacesState}
use Rattle.jos_base.specs.SystemCalls.{is_page_perm, has_write}
use Rattle.jos_base.specs.Words.{page_number}
use Rattle.lib_os.specs.declared.numbers.TheConstants.{DESCRIPTORS, PFTEMP, PTE_COW, PTE_SHARE, REQUEST}
use Rattle.lib_os.specs.declared.place.HandlerStep.TheVariants as handler
use Rattle.lib_os.specs.declared.place.Place.{Place}
use Rattle.lib_os.specs.declared.place.PipeStep.{PipeStep}
use Rattle.lib_os.specs.declared.place.PipeStep.TheVariants as pipe
use Rattle.lib_os.specs.declared.place.Place.TheVariants as place
use Rattle.lib_os.specs.declared.place.Step.TheVariants as step
use Rattle.lib_os.specs.declared.service.Service.TheVariants as service
use Rattle.lib_os.specs.AbstractState.{Page, own, named}
use Rattle.lib_os.specs.DescriptorPages.{HasObject, HasPipe, Things}
use Rattle.lib_os.specs.Fence.{in_fence}
use Rattle.lib_os.specs.Places.{place_of}
use Rattle.lib_os.specs.SpawnPages.{is_childs}

-- ---- entries

-- The entry without the bits that accesses set, which nobody sees.
abbrev pub lasting : Entry → Entry
lasting e = record e { perm = bit_and e.perm PTE_SYSCALL }

-- what the pages of a space are, by their numbers
abbrev pub EntryRow : Type 0
EntryRow = ℕ → Option Entry

-- the same of many, by the frames of their directories or by their slots
abbrev pub Rows : Type 0
Rows = ℕ → EntryRow

-- by the frames of directories
unfoldable pub rows_of : SpacesState → Rows
rows_of s d p = option_map lasting (s.entries d p)

abbrev pub is_shared : ℕ → Bool
is_shared perm = bit_and perm PTE_SHARE == PTE_SHARE

-- it is copied when it is written
abbrev pub is_cow : ℕ → Bool
is_cow perm = bit_and perm PTE_COW == PTE_COW

-- a page of its own may be written by an environment, where it stands or as a copy of it
abbrev pub may_write : ℕ → Bool
may_write perm = has_write perm || is_cow perm

-- ---- pages

-- What stands in each shared frame: its name, and the frame of a name; and whether a name is that of an object or a pipe, and not of a page, and
-- whether it is that of a pipe.
pub record Names : Type 0 where
  pub name : ℕ → ℕ
  pub frame : ℕ → ℕ
  pub is_object : ℕ → Bool
  pub is_pipe : ℕ → Bool

-- the page that an entry is to its environment
abbrev pub page_by : Names → (ℕ → List ℕ) → Entry → Page
page_by names bytes e =
    if is_shared e.perm then named (names.name e.frame) (has_write e.perm) else own (bytes e.frame) (may_write e.perm)

-- a program may have a page with this number
abbrev pub is_programs : ℕ → Bool
is_programs p = in_fence (p * PGSIZE) PGSIZE

-- The pages that a program may have are seen; those that the library keeps beside them are not.
abbrev pub seen_where : Bool → Option Page → Option Page
seen_where inside page = if inside then page else None

abbrev pub shown_at : Names → SpacesState → ℕ → ℕ → Option Page
shown_at names s d p = option_map (page_by names s.pages) (rows_of s d p)

abbrev pub page_seen : Names → SpacesState → ℕ → ℕ → Option Page
page_seen names s d p = seen_where (is_programs p) (shown_at names s d p)

-- ---- descriptors

-- the page of a descriptor
abbrev pub descriptor_page : ℕ → ℕ
descriptor_page fd = page_number FDTABLE + fd

-- a page with this number is that of a descriptor, or that of the pipe of which a descriptor names an end
abbrev pub is_of_descriptor : ℕ → Bool
is_of_descriptor p = nat_le (page_number FDTABLE) p && nat_lt p (page_number FDTABLE + 2 * DESCRIPTORS)

abbrev pub is_pipe_page : ℕ → Bool
is_pipe_page p = nat_le (page_number FDTABLE + DESCRIPTORS) p && nat_lt p (page_number FDTABLE + 2 * DESCRIPTORS)

-- the latter of a descriptor
abbrev pub pipe_page : ℕ → ℕ
pipe_page fd = page_number FDTABLE + DESCRIPTORS + fd

-- the bits of each
abbrev pub descriptor_perm : ℕ
descriptor_perm = PTE_P + PTE_W + PTE_U + PTE_SHARE

abbrev pub own_perm : ℕ
own_perm = PTE_P + PTE_W + PTE_U

abbrev pub name_of : Option Page → Option ℕ
name_of (Some (named name writable)) = Some name
name_of _ = None

-- the name of the object whose page stands there
abbrev pub descriptor_seen : Names → SpacesState → ℕ → ℕ → Option ℕ
descriptor_seen names s d fd = if nat_lt fd DESCRIPTORS then name_of (shown_at names s d (descriptor_page fd)) else None

-- ---- entries as they count

-- the entry of a page that is copied when it is written
abbrev pub cow_perm : ℕ
cow_perm = PTE_P + PTE_U + PTE_COW

abbrev pub as_cow : Entry → Entry
as_cow e = if is_shared e.perm then e else record e { perm = cow_perm }

-- A page on its way to become a descriptor's, or a pipe's, is its environment's own.
abbrev pub as_own : Entry → Entry
as_own e = record e { perm = own_perm }

-- The descriptors that service pipe makes are those of its step, from its first page on.
abbrev pub makes : PipeStep → ℕ → Bool
makes (pipe.StoringReading reading writing) fd = (fd == reading) || (fd == writing)
makes (pipe.TakingWriting reading writing) fd = (fd == reading) || (fd == writing)
makes (pipe.StoringWriting reading writing) fd = (fd == reading) || (fd == writing)
makes (pipe.StoringEndMode reading writing) fd = (fd == reading) || (fd == writing)
makes (pipe.TakingPipe reading writing) fd = (fd == reading) || (fd == writing)
makes (pipe.MappingPipe reading writing) fd = (fd == reading) || (fd == writing)
makes _ fd = false

-- the number of the descriptor whose page, or whose pipe's page, has this number
abbrev pub descriptor_at : ℕ → ℕ
descriptor_at p = (p - page_number FDTABLE) % DESCRIPTORS

abbrev pub is_making : PipeStep → ℕ → Bool
is_making at p = is_of_descriptor p && makes at (descriptor_at p)

-- Where the handler of page faults has mapped its copy over the page, what stands where it was made counts no more. Where fork has
-- mapped a page into the child and not yet onto itself, it counts as one that is copied when it is written already. The pages of a pipe that is
-- made, and of its descriptors, count as its maker's own up to the last mapping. A page of the child's that spawn has mapped, too, counts as the
-- child's alone.
unfoldable pub counted : Place → EntryRow → EntryRow
counted (place.InHandler (handler.Unmapping va)) row p = if p == page_number PFTEMP then None else row p
counted (place.InService service.Fork (step.Remap id page)) row p = if p == page then option_map as_cow (row p) else row p
counted (place.InService service.Pipe (step.Piped at)) row p = if is_making at p then option_map as_own (row p) else row p
counted (place.InService (service.Spawn path argv) (step.Spawning at)) row p = if is_childs at p then None else row p
counted _ row p = row p

-- of each slot that is live, as they count at its place; those of the file server, which stands in slot 0, do not count here
abbrev pub logical_by : Bool → EntryRow → EntryRow
logical_by counts row p = if counts then row p else None

abbrev pub is_clients : ℕ → Slot → Bool
is_clients n k = not (n == 0) && is_live k

abbrev pub logical : SpacesState → (ℕ → Slot) → Rows
logical s slots n = logical_by (is_clients n (slots n)) (counted (place_of (slots n)) (rows_of s (slots n).directory))

-- and what the pages of the file server are
abbrev pub server_row : SpacesState → (ℕ → Slot) → EntryRow
server_row s slots = rows_of s (slots 0).directory

-- ---- frames

-- Two entries of one frame: both say that it is shared, or neither does and by neither may it be written.
pub record Agree (x y : ℕ) : Type 0 where
  pub shared : is_shared x ≡ is_shared y
  pub read_only : is_shared x ≡ false → (has_write x ≡ false) × (has_write y ≡ false)

-- Whatever stands at two places agrees.
abbrev pub AgreeWhereShared : Rows → Type 0
AgreeWhereShared rows = (d p e q : ℕ) (x y : Entry) → (d ≡ e → p ≡ q → ⊥) → rows d p ≡ Some x → rows e q ≡ Some y →
    x.frame ≡ y.frame → Agree x.perm y.perm

-- An entry with this number of a page is that of a descriptor.
pub record IsDescriptors (p : ℕ) (x : Entry) : Type 0 where
  pub descriptor : is_of_descriptor p ≡ true
  pub shared : is_shared x.perm ≡ true

-- A client may have pages of the file server: that of a request is the one in which a service keeps what it moves, and each other one, which is
-- that of an open file, is a descriptor's.
abbrev pub MayBeHad : Bool → ℕ → Entry → Type 0
MayBeHad true p x = (p ≡ page_number UTEMP) × (is_shared x.perm ≡ false)
MayBeHad false p x = IsDescriptors p x

-- So it is with each page of the server's and each entry of a client's of its frame.
abbrev pub AreBeside : EntryRow → Rows → Type 0
AreBeside server rows = (n p q : ℕ) (x e : Entry) → rows n p ≡ Some x → server q ≡ Some e → x.frame ≡ e.frame → MayBeHad (q == page_number REQUEST) p x

-- an object or a pipe
abbrev pub HasThing : Things → ℕ → ℕ → Bool → List ℕ → Type 0
HasThing things name frame false bytes = HasObject things name frame (things.objects name) bytes
HasThing things name frame true bytes = HasPipe things name frame bytes

-- what a name says of the bytes in its frame: they are those of a page, or tell an object, or are a pipe's
abbrev pub ShowsBy : Things → ℕ → ℕ → Bool → Bool → List ℕ → List ℕ → Type 0
ShowsBy things name frame false is_pipe page bytes = page ≡ bytes
ShowsBy things name frame true is_pipe page bytes = HasThing things name frame is_pipe bytes

-- A shared frame, whose entry has this number of a page, is that of its name: an object's at the page of a descriptor, a pipe's at the page of the pipe
-- of a descriptor, and elsewhere a page's. It shows what has the name.
pub record IsNamed (names : Names) (pages shared : ℕ → List ℕ) (things : Things) (next p f : ℕ) : Type 0 where
  pub home : names.frame (names.name f) ≡ f
  pub kind : names.is_object (names.name f) ≡ is_of_descriptor p
  pub of_pipe : names.is_pipe (names.name f) ≡ is_pipe_page p
  pub shows : ShowsBy things (names.name f) f (names.is_object (names.name f)) (names.is_pipe (names.name f)) (shared (names.name f)) (pages f)
  pub old : names.name f < next

abbrev pub AreNamed : Names → (ℕ → List ℕ) → (ℕ → List ℕ) → Things → ℕ → Rows → Type 0
AreNamed names pages shared things next rows = (d p : ℕ) (x : Entry) → rows d p ≡ Some x → is_shared x.perm ≡ true →
    IsNamed names pages shared things next p x.frame

-- Whoever has an entry may read by it, and it has no bits of others; what is copied when it is written is nobody else's, and
-- can't be written before.
pub record IsUsers (perm : ℕ) : Type 0 where
  pub page : is_page_perm perm ≡ true
  pub copied : is_cow perm ≡ true → (is_shared perm ≡ false) × (has_write perm ≡ false)

abbrev pub AreUsers : Rows → Type 0
AreUsers rows = (d p : ℕ) (x : Entry) → rows d p ≡ Some x → IsUsers x.perm

-- each number of a list is a byte
abbrev pub AreBytes : List ℕ → Type 0
AreBytes bytes = (i : ℕ) → slice_index bytes i < 256

-- the bytes of a page
pub record IsPage (bytes : List ℕ) : Type 0 where
  pub long : length bytes ≡ PGSIZE
  pub small : AreBytes bytes

-- each has the bytes of a page
abbrev pub AreWhole : (ℕ → List ℕ) → Rows → Type 0
AreWhole pages rows = (d p : ℕ) (x : Entry) → rows d p ≡ Some x → IsPage (pages x.frame)
