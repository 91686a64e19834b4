-- Entries as they count: where they count as they stand, and what becomes of them where one is put in the place of another.
use Rattle.std.proofs.Common.{◌≡◌, ◌≢◌, ◌∙◌, ◌*◌, ◌==◌, ◌&&◌, ℕ, Bool, true, false, refl, sym, ap, subst, arith, if◌then◌else◌, not}
use Rattle.std.proofs.lemmas.Bool.Decides.{nat_tests}
use Rattle.std.specs.Prelude.{Option, Some, None, is_none}
use Rattle.std.specs.Option.{option_map}
use Rattle.std.proofs.lemmas.Option.{none-some, same_Some}
use Rattle.jos_base.specs.declared.numbers.TheConstants.{PGSIZE, UTEMP}
use Rattle.jos_base.specs.Environments.{Slot, is_live}
use Rattle.jos_base.specs.Reach.{Entry}
use Rattle.jos_base.specs.SpacesState.{SpacesState}
use Rattle.jos_base.specs.Words.{page_number}
use Rattle.lib_os.specs.declared.numbers.TheConstants.{PFTEMP, UXSTACK}
use Rattle.lib_os.specs.declared.place.HandlerStep.{HandlerStep}
use Rattle.lib_os.specs.declared.place.HandlerStep.TheVariants as handler
use Rattle.lib_os.specs.declared.place.PipeStep.{PipeStep}
use Rattle.lib_os.specs.declared.place.PipeStep.TheVariants as pipe
use Rattle.lib_os.specs.declared.place.Place.{Place}
use Rattle.lib_os.specs.declared.place.Place.TheVariants as place
use Rattle.lib_os.specs.declared.place.Step.{Step}
use Rattle.lib_os.specs.declared.place.Step.TheVariants as step
use Rattle.lib_os.specs.declared.service.Service.{Service}
use Rattle.lib_os.specs.declared.service.Service.TheVariants as service
use Rattle.lib_os.specs.StandsFor.{borne_in}
use Rattle.lib_os.specs.Fence.{in_fence, is_inside, is_page_inside}
use Rattle.lib_os.specs.Places.{place_of}
use Rattle.lib_os.specs.Rows.{is_clients, EntryRow, rows_of, counted, logical_by, logical, is_of_descriptor, is_programs, is_shared, as_cow, cow_perm}
use Rattle.lib_os.specs.Rows.{as_own, descriptor_at, is_making, makes}
use Rattle.lib_os.specs.SpawnPages.{is_childs}
use Rattle.lib_os.proofs.KeptPages.{unborne_childs}
use Rattle.lib_os.proofs.WordsTell.{is_in_handler}

-- ---- pages that a program may have

pub both : (a b : Bool) → (a && b) ≡ true → (a ≡ true) × (b ≡ true)
both true true h = (refl, refl)
both true false h = absurd (let contradiction : false ≡ true = h in cc)
both false b h = absurd (let contradiction : false ≡ true = h in cc)

-- the library keeps no page among them
pub programs_beside : (p : ℕ) → is_programs p ≡ true → (p ≢ page_number PFTEMP) × (p ≢ page_number UXSTACK) × (p ≢ page_number UTEMP)
unfolding in_fence
programs_beside p inside = (
  (λ same. let h : in_fence (page_number PFTEMP * PGSIZE) PGSIZE ≡ true = subst (λ (q : ℕ). is_programs q ≡ true) same inside in no_copy h),
  (λ same. let h : in_fence (page_number UXSTACK * PGSIZE) PGSIZE ≡ true = subst (λ (q : ℕ). is_programs q ≡ true) same inside in no_stack h),
  (λ same. let h : in_fence (page_number UTEMP * PGSIZE) PGSIZE ≡ true = subst (λ (q : ℕ). is_programs q ≡ true) same inside in no_working h),
)
  where
    no_copy : in_fence (page_number PFTEMP * PGSIZE) PGSIZE ≡ true → ⊥
    no_copy h = let contradiction : false ≡ true = h in cc

    no_stack : in_fence (page_number UXSTACK * PGSIZE) PGSIZE ≡ true → ⊥
    no_stack h = let contradiction : false ≡ true = h in cc

    no_working : in_fence (page_number UTEMP * PGSIZE) PGSIZE ≡ true → ⊥
    no_working h = let contradiction : false ≡ true = h in cc

-- nor is one of them a descriptor's
pub programs_no_descriptor : (p : ℕ) → is_programs p ≡ true → is_of_descriptor p ≡ false
unfolding in_fence
programs_no_descriptor p inside = grind (arith, nat_tests)

-- a byte that a program may touch lies in such a page
pub inside_programs : (va : ℕ) → is_inside va ≡ true → is_programs (page_number va) ≡ true
unfolding in_fence
inside_programs va inside = grind (arith, nat_tests)

-- and so does the address of a page
pub page_inside_programs : (va : ℕ) → is_page_inside va ≡ true → is_programs (page_number va) ≡ true
unfolding in_fence
page_inside_programs va inside = grind (arith, nat_tests)

-- ---- entries as they count at a place

-- the steps of service pipe at which the pages of descriptors and of a pipe are its maker's own
abbrev pub makes_pages : PipeStep → Bool
makes_pages (pipe.StoringReading reading writing) = true
makes_pages (pipe.TakingWriting reading writing) = true
makes_pages (pipe.StoringWriting reading writing) = true
makes_pages (pipe.StoringEndMode reading writing) = true
makes_pages (pipe.TakingPipe reading writing) = true
makes_pages (pipe.MappingPipe reading writing) = true
makes_pages _ = false

abbrev pub is_making_pipe : Place → Bool
is_making_pipe (place.InService service.Pipe (step.Piped at)) = makes_pages at
is_making_pipe _ = false

-- they count as they stand, and no child is being made, and no pipe
abbrev pub is_plain : Place → Bool
is_plain place.Guest = true
is_plain (place.InService s at) = is_none (borne_in (place.InService s at)) && not (is_making_pipe (place.InService s at))
is_plain (place.InHandler (handler.Unmapping va)) = false
is_plain (place.InHandler at) = true

-- where neither is being made, and the handler does not run
pub unborne_plain : (at : Place) → is_in_handler at ≡ false → borne_in at ≡ None → is_making_pipe at ≡ false → is_plain at ≡ true
unborne_plain place.Guest outside none unmade = refl
unborne_plain (place.InService s at) outside none unmade = λ i. is_none (none i) && not (unmade i)
unborne_plain (place.InHandler at) outside none unmade = absurd (let contradiction : true ≡ false = outside in cc)

not_so : (c : Bool) → not c ≡ true → c ≡ false
not_so false is = refl
not_so true is = absurd (let contradiction : false ≡ true = is in cc)

pub plain_unmade : (at : Place) → is_plain at ≡ true → is_making_pipe at ≡ false
plain_unmade place.Guest plain = refl
plain_unmade (place.InService s at) plain = not_so (is_making_pipe (place.InService s at)) (both _ _ plain).1
plain_unmade (place.InHandler at) plain = refl

none_is : (o : Option ℕ) → is_none o ≡ true → o ≡ None
none_is None is = refl
none_is (Some id) is = absurd (let contradiction : false ≡ true = is in cc)

pub plain_unborne : (at : Place) → is_plain at ≡ true → borne_in at ≡ None
plain_unborne place.Guest plain = refl
plain_unborne (place.InService s at) plain = none_is (borne_in (place.InService s at)) (both _ _ plain).0
plain_unborne (place.InHandler at) plain = refl

handler_plain : (at : HandlerStep) (row : EntryRow) → is_plain (place.InHandler at) ≡ true → (p : ℕ) → counted (place.InHandler at) row p ≡ row p
unfolding counted
handler_plain (handler.Unmapping va) row plain p = absurd (let contradiction : false ≡ true = plain in cc)
handler_plain handler.Entered row plain p = refl
handler_plain (handler.ReadingError va) row plain p = refl
handler_plain (handler.Looking va) row plain p = refl
handler_plain (handler.Taking va) row plain p = refl
handler_plain (handler.Loading va index) row plain p = refl
handler_plain (handler.Storing va index word) row plain p = refl
handler_plain (handler.MappingOver va) row plain p = refl
handler_plain handler.Restoring row plain p = refl
handler_plain (handler.ReadingIp va error) row plain p = refl
handler_plain (handler.Unsetting va error ip) row plain p = refl
handler_plain (handler.Touching va error ip) row plain p = refl

fork_plain : (at : Step) (row : EntryRow) → is_plain (place.InService service.Fork at) ≡ true → (p : ℕ) →
    counted (place.InService service.Fork at) row p ≡ row p
unfolding counted
fork_plain step.Entered row plain p = refl
fork_plain (step.Trying perm) row plain p = refl
fork_plain (step.Pausing perm) row plain p = refl
fork_plain step.ReadingRegion row plain p = refl
fork_plain step.ReadingEntry row plain p = refl
fork_plain (step.Receiving id) row plain p = refl
fork_plain (step.ReadingValue id) row plain p = refl
fork_plain (step.ReadingSender id value) row plain p = refl
fork_plain (step.ReadingPerm id value sender) row plain p = refl
fork_plain (step.ForkRegion id region) row plain p = refl
fork_plain (step.ForkEntry id page) row plain p = refl
fork_plain (step.MapChild id page perm) row plain p = refl
fork_plain (step.Remap id page) row plain p = absurd (let contradiction : false ≡ true = plain in cc)
fork_plain (step.ChildStack id) row plain p = refl
fork_plain (step.ChildUpcall id) row plain p = refl
fork_plain (step.ChildRuns id) row plain p = refl
fork_plain (step.Undoing id error) row plain p = refl
fork_plain (step.DescriptorEntry fd) row plain p = refl
fork_plain step.TargetEntry row plain p = refl
fork_plain (step.DroppingDescriptor fd) row plain p = refl
fork_plain step.MappingDescriptor row plain p = refl
fork_plain step.Ending row plain p = refl
fork_plain step.ReadingDevice row plain p = refl
fork_plain (step.BufferRegion done word) row plain p = refl
fork_plain (step.BufferEntry done word) row plain p = refl
fork_plain step.TakingPage row plain p = refl
fork_plain (step.Gathering done) row plain p = refl
fork_plain (step.Keeping done word left) row plain p = refl
fork_plain step.Printing row plain p = refl
fork_plain step.Releasing row plain p = refl
fork_plain step.Getting row plain p = refl
fork_plain (step.Delivering done word) row plain p = refl
fork_plain (step.Faulting done word) row plain p = refl
fork_plain (step.Asking id) row plain p = refl
fork_plain (step.Awaiting id) row plain p = refl
fork_plain (step.ReadingReply id) row plain p = refl
fork_plain step.Identifying row plain p = refl
fork_plain (step.Clearing id) row plain p = refl
fork_plain step.ReadingMode row plain p = refl
fork_plain step.ReadingNumber row plain p = refl
fork_plain (step.StoringNumber number) row plain p = refl
fork_plain step.StoringCount row plain p = refl
fork_plain step.TakingRequest row plain p = refl
fork_plain (step.GatheringBytes done start) row plain p = refl
fork_plain (step.KeepingBytes done word left start) row plain p = refl
fork_plain (step.CountingReply id) row plain p = refl
fork_plain (step.FileRegion done count) row plain p = refl
fork_plain (step.FileEntry done count) row plain p = refl
fork_plain (step.LoadingBytes done count) row plain p = refl
fork_plain (step.LoadingRest done count first) row plain p = refl
fork_plain (step.PuttingBytes done count word) row plain p = refl
fork_plain (step.FileFaulting done count) row plain p = refl
fork_plain (step.Returning answer) row plain p = refl
fork_plain step.FreeRegion row plain p = refl
fork_plain (step.FreeEntry fd) row plain p = refl
fork_plain (step.StoringMode fd) row plain p = refl
fork_plain (step.OpenIdentifying fd) row plain p = refl
fork_plain (step.OpenAsking id fd) row plain p = refl
fork_plain (step.OpenPausing id fd) row plain p = refl
fork_plain (step.OpenAwaiting id fd) row plain p = refl
fork_plain (step.OpenClearing id fd) row plain p = refl
fork_plain (step.ReadingOpened id fd) row plain p = refl
fork_plain (step.Piped at) row plain p = refl
fork_plain (step.Spawning at) row plain p = refl

-- at the other steps of service pipe none is its own
pub unmade_makes : (at : PipeStep) → makes_pages at ≡ false → (fd : ℕ) → makes at fd ≡ false
unmade_makes (pipe.StoringReading reading writing) none fd = absurd (let contradiction : true ≡ false = none in cc)
unmade_makes (pipe.TakingWriting reading writing) none fd = absurd (let contradiction : true ≡ false = none in cc)
unmade_makes (pipe.StoringWriting reading writing) none fd = absurd (let contradiction : true ≡ false = none in cc)
unmade_makes (pipe.StoringEndMode reading writing) none fd = absurd (let contradiction : true ≡ false = none in cc)
unmade_makes (pipe.TakingPipe reading writing) none fd = absurd (let contradiction : true ≡ false = none in cc)
unmade_makes (pipe.MappingPipe reading writing) none fd = absurd (let contradiction : true ≡ false = none in cc)
unmade_makes _ none fd = refl

pub unmade_making : (at : PipeStep) → makes_pages at ≡ false → (p : ℕ) → is_making at p ≡ false
unmade_making at none p = by_page (is_of_descriptor p)
  where
    by_page : (c : Bool) → (c && makes at (descriptor_at p)) ≡ false
    by_page true = unmade_makes at none (descriptor_at p)
    by_page false = refl

pipe_plain : (at : Step) (row : EntryRow) → is_making_pipe (place.InService service.Pipe at) ≡ false → (p : ℕ) →
    counted (place.InService service.Pipe at) row p ≡ row p
unfolding counted
pipe_plain (step.Piped at) row none p = ap (λ (c : Bool). if c then option_map as_own (row p) else row p) (unmade_making at none p)
pipe_plain _ row none p = refl

spawn_plain : (path argv : ℕ) (at : Step) (row : EntryRow) → borne_in (place.InService (service.Spawn path argv) at) ≡ None → (p : ℕ) →
    counted (place.InService (service.Spawn path argv) at) row p ≡ row p
unfolding counted
spawn_plain path argv (step.Spawning at) row none p = ap (λ (c : Bool). if c then None else row p) (unborne_childs at none p)
spawn_plain path argv _ row none p = refl

service_plain : (s : Service) (at : Step) (row : EntryRow) → is_plain (place.InService s at) ≡ true → (p : ℕ) →
    counted (place.InService s at) row p ≡ row p
unfolding counted
service_plain service.Fork at row plain p = fork_plain at row plain p
service_plain service.Exit at row plain p = refl
service_plain (service.Cputs va len) at row plain p = refl
service_plain service.GetId at row plain p = refl
service_plain service.Yield at row plain p = refl
service_plain (service.Wait id) at row plain p = refl
service_plain (service.PageNew va flags) at row plain p = refl
service_plain (service.PageDrop va) at row plain p = refl
service_plain (service.Send id value va) at row plain p = refl
service_plain (service.Receive va from) at row plain p = refl
service_plain (service.OpenFile path mode) at row plain p = refl
service_plain (service.Close fd) at row plain p = refl
service_plain (service.Read fd va len) at row plain p = refl
service_plain (service.Write fd va len) at row plain p = refl
service_plain (service.Seek fd offset) at row plain p = refl
service_plain (service.Stat fd va) at row plain p = refl
service_plain (service.SetSize fd size) at row plain p = refl
service_plain (service.Remove path) at row plain p = refl
service_plain service.Sync at row plain p = refl
service_plain (service.Dup old new) at row plain p = refl
service_plain service.Pipe at row plain p = pipe_plain at row (plain_unmade (place.InService service.Pipe at) plain) p
service_plain (service.Spawn path argv) at row plain p =
    spawn_plain path argv at row (plain_unborne (place.InService (service.Spawn path argv) at) plain) p
service_plain service.Unknown at row plain p = refl

pub counted_plain : (at : Place) (row : EntryRow) → is_plain at ≡ true → (p : ℕ) → counted at row p ≡ row p
unfolding counted
counted_plain place.Guest row plain p = refl
counted_plain (place.InService s at) row plain p = service_plain s at row plain p
counted_plain (place.InHandler at) row plain p = handler_plain at row plain p

-- The page of this number counts otherwise than it stands: fork is about to map it onto itself, or service pipe makes it, or it is spawn's child's.
abbrev pub is_remapped : Place → ℕ → Bool
is_remapped (place.InService service.Fork (step.Remap id page)) p = p == page
is_remapped (place.InService service.Pipe (step.Piped at)) p = is_making at p
is_remapped (place.InService (service.Spawn path argv) (step.Spawning at)) p = is_childs at p
is_remapped _ p = false

-- it is spawn's child's
abbrev pub is_childs_page : Place → ℕ → Bool
is_childs_page (place.InService (service.Spawn path argv) (step.Spawning at)) p = is_childs at p
is_childs_page _ p = false

fork_unremapped : (at : Step) (p : ℕ) → is_plain (place.InService service.Fork at) ≡ true → is_remapped (place.InService service.Fork at) p ≡ false
fork_unremapped step.Entered p plain = refl
fork_unremapped (step.Trying perm) p plain = refl
fork_unremapped (step.Pausing perm) p plain = refl
fork_unremapped step.ReadingRegion p plain = refl
fork_unremapped step.ReadingEntry p plain = refl
fork_unremapped (step.Receiving id) p plain = refl
fork_unremapped (step.ReadingValue id) p plain = refl
fork_unremapped (step.ReadingSender id value) p plain = refl
fork_unremapped (step.ReadingPerm id value sender) p plain = refl
fork_unremapped (step.ForkRegion id region) p plain = refl
fork_unremapped (step.ForkEntry id page) p plain = refl
fork_unremapped (step.MapChild id page perm) p plain = refl
fork_unremapped (step.Remap id page) p plain = absurd (let contradiction : false ≡ true = plain in cc)
fork_unremapped (step.ChildStack id) p plain = refl
fork_unremapped (step.ChildUpcall id) p plain = refl
fork_unremapped (step.ChildRuns id) p plain = refl
fork_unremapped (step.Undoing id error) p plain = refl
fork_unremapped (step.DescriptorEntry fd) p plain = refl
fork_unremapped step.TargetEntry p plain = refl
fork_unremapped (step.DroppingDescriptor fd) p plain = refl
fork_unremapped step.MappingDescriptor p plain = refl
fork_unremapped step.Ending p plain = refl
fork_unremapped step.ReadingDevice p plain = refl
fork_unremapped (step.BufferRegion done word) p plain = refl
fork_unremapped (step.BufferEntry done word) p plain = refl
fork_unremapped step.TakingPage p plain = refl
fork_unremapped (step.Gathering done) p plain = refl
fork_unremapped (step.Keeping done word left) p plain = refl
fork_unremapped step.Printing p plain = refl
fork_unremapped step.Releasing p plain = refl
fork_unremapped step.Getting p plain = refl
fork_unremapped (step.Delivering done word) p plain = refl
fork_unremapped (step.Faulting done word) p plain = refl
fork_unremapped (step.Asking id) p plain = refl
fork_unremapped (step.Awaiting id) p plain = refl
fork_unremapped (step.ReadingReply id) p plain = refl
fork_unremapped step.Identifying p plain = refl
fork_unremapped (step.Clearing id) p plain = refl
fork_unremapped step.ReadingMode p plain = refl
fork_unremapped step.ReadingNumber p plain = refl
fork_unremapped (step.StoringNumber number) p plain = refl
fork_unremapped step.StoringCount p plain = refl
fork_unremapped step.TakingRequest p plain = refl
fork_unremapped (step.GatheringBytes done start) p plain = refl
fork_unremapped (step.KeepingBytes done word left start) p plain = refl
fork_unremapped (step.CountingReply id) p plain = refl
fork_unremapped (step.FileRegion done count) p plain = refl
fork_unremapped (step.FileEntry done count) p plain = refl
fork_unremapped (step.LoadingBytes done count) p plain = refl
fork_unremapped (step.LoadingRest done count first) p plain = refl
fork_unremapped (step.PuttingBytes done count word) p plain = refl
fork_unremapped (step.FileFaulting done count) p plain = refl
fork_unremapped (step.Returning answer) p plain = refl
fork_unremapped step.FreeRegion p plain = refl
fork_unremapped (step.FreeEntry fd) p plain = refl
fork_unremapped (step.StoringMode fd) p plain = refl
fork_unremapped (step.OpenIdentifying fd) p plain = refl
fork_unremapped (step.OpenAsking id fd) p plain = refl
fork_unremapped (step.OpenPausing id fd) p plain = refl
fork_unremapped (step.OpenAwaiting id fd) p plain = refl
fork_unremapped (step.OpenClearing id fd) p plain = refl
fork_unremapped (step.ReadingOpened id fd) p plain = refl
fork_unremapped (step.Piped at) p plain = refl
fork_unremapped (step.Spawning at) p plain = refl

pipe_unremapped : (at : Step) (p : ℕ) → is_making_pipe (place.InService service.Pipe at) ≡ false → is_remapped (place.InService service.Pipe at) p ≡ false
pipe_unremapped (step.Piped at) p none = unmade_making at none p
pipe_unremapped _ p none = refl

spawn_unremapped : (path argv : ℕ) (at : Step) (p : ℕ) → borne_in (place.InService (service.Spawn path argv) at) ≡ None →
    is_remapped (place.InService (service.Spawn path argv) at) p ≡ false
spawn_unremapped path argv (step.Spawning at) p none = unborne_childs at none p
spawn_unremapped path argv _ p none = refl

pub plain_unremapped : (at : Place) (p : ℕ) → is_plain at ≡ true → is_remapped at p ≡ false
plain_unremapped place.Guest p plain = refl
plain_unremapped (place.InHandler at) p plain = refl
plain_unremapped (place.InService service.Exit at) p plain = refl
plain_unremapped (place.InService (service.Cputs va len) at) p plain = refl
plain_unremapped (place.InService service.GetId at) p plain = refl
plain_unremapped (place.InService service.Yield at) p plain = refl
plain_unremapped (place.InService (service.Wait id) at) p plain = refl
plain_unremapped (place.InService (service.PageNew va flags) at) p plain = refl
plain_unremapped (place.InService (service.PageDrop va) at) p plain = refl
plain_unremapped (place.InService (service.Send id value va) at) p plain = refl
plain_unremapped (place.InService (service.Receive va from) at) p plain = refl
plain_unremapped (place.InService (service.OpenFile path mode) at) p plain = refl
plain_unremapped (place.InService (service.Close fd) at) p plain = refl
plain_unremapped (place.InService (service.Read fd va len) at) p plain = refl
plain_unremapped (place.InService (service.Write fd va len) at) p plain = refl
plain_unremapped (place.InService (service.Seek fd offset) at) p plain = refl
plain_unremapped (place.InService (service.Stat fd va) at) p plain = refl
plain_unremapped (place.InService (service.SetSize fd size) at) p plain = refl
plain_unremapped (place.InService (service.Remove path) at) p plain = refl
plain_unremapped (place.InService service.Sync at) p plain = refl
plain_unremapped (place.InService (service.Dup old new) at) p plain = refl
plain_unremapped (place.InService service.Pipe at) p plain = pipe_unremapped at p (plain_unmade (place.InService service.Pipe at) plain)
plain_unremapped (place.InService (service.Spawn path argv) at) p plain =
    spawn_unremapped path argv at p (plain_unborne (place.InService (service.Spawn path argv) at) plain)
plain_unremapped (place.InService service.Unknown at) p plain = refl
plain_unremapped (place.InService service.Fork at) p plain = fork_unremapped at p plain

-- There it counts as a page that is copied when it is written, or where a pipe is made as a page of its maker's own; and not, where it is a child's.
pub counted_remapped : (at : Place) (row : EntryRow) (p : ℕ) → is_remapped at p ≡ true → is_making_pipe at ≡ false → is_childs_page at p ≡ false →
    counted at row p ≡ option_map as_cow (row p)
unfolding counted
counted_remapped (place.InService service.Fork (step.Remap id page)) row p is unmade mine =
    ap (λ (c : Bool). if c then option_map as_cow (row p) else row p) is
counted_remapped (place.InService service.Pipe (step.Piped at)) row p is unmade mine =
    absurd (let contradiction : true ≡ false = sym is ∙ unmade_making at unmade p in cc)
counted_remapped (place.InService (service.Spawn path argv) (step.Spawning at)) row p is unmade mine =
    absurd (let contradiction : true ≡ false = sym is ∙ mine in cc)
counted_remapped _ row p is unmade mine = absurd (let contradiction : false ≡ true = is in cc)

pub counted_childs : (at : Place) (row : EntryRow) (p : ℕ) → is_childs_page at p ≡ true → counted at row p ≡ None
unfolding counted
counted_childs (place.InService (service.Spawn path argv) (step.Spawning at)) row p is = ap (λ (c : Bool). if c then None else row p) is
counted_childs _ row p is = absurd (let contradiction : false ≡ true = is in cc)

pub counted_made : (at : Place) (row : EntryRow) (p : ℕ) → is_remapped at p ≡ true → is_making_pipe at ≡ true →
    counted at row p ≡ option_map as_own (row p)
unfolding counted
counted_made (place.InService service.Pipe (step.Piped at)) row p is making = ap (λ (c : Bool). if c then option_map as_own (row p) else row p) is
counted_made (place.InService service.Fork (step.Remap id page)) row p is making = absurd (let contradiction : false ≡ true = making in cc)
counted_made (place.InService (service.Spawn path argv) (step.Spawning at)) row p is making =
    absurd (let contradiction : false ≡ true = making in cc)
counted_made _ row p is making = absurd (let contradiction : false ≡ true = is in cc)

-- such a page is a descriptor's, or that of a pipe
pub made_descriptors : (at : Place) (p : ℕ) → is_remapped at p ≡ true → is_making_pipe at ≡ true → is_of_descriptor p ≡ true
made_descriptors (place.InService service.Pipe (step.Piped at)) p is making = (both _ _ is).0
made_descriptors (place.InService service.Fork (step.Remap id page)) p is making = absurd (let contradiction : false ≡ true = making in cc)
made_descriptors (place.InService (service.Spawn path argv) (step.Spawning at)) p is making =
    absurd (let contradiction : false ≡ true = making in cc)
made_descriptors _ p is making = absurd (let contradiction : false ≡ true = is in cc)

pub unborne_unremapped : (at : Place) (p : ℕ) → borne_in at ≡ None → is_making_pipe at ≡ false → is_remapped at p ≡ false
unborne_unremapped place.Guest p none unmade = refl
unborne_unremapped (place.InService s at) p none unmade =
    plain_unremapped (place.InService s at) p (λ i. is_none (none i) && not (unmade i))
unborne_unremapped (place.InHandler at) p none unmade = refl

-- no page is made but a descriptor's, or a pipe's
pub unborne_beside : (at : Place) (p : ℕ) → borne_in at ≡ None → is_of_descriptor p ≡ false → is_remapped at p ≡ false
unborne_beside at p none other = by_making (is_making_pipe at) refl (is_remapped at p) refl
  where
    by_making : (c : Bool) → is_making_pipe at ≡ c → (is : Bool) → is_remapped at p ≡ is → is_remapped at p ≡ false
    by_making false unmade is so = unborne_unremapped at p none unmade
    by_making true making false so = so
    by_making true making true so = absurd (let contradiction : true ≡ false = sym (made_descriptors at p so making) ∙ other in cc)

-- all but the page where a copy was made count as they stand, and the one that is mapped onto itself
handler_elsewhere : (at : HandlerStep) (row : EntryRow) (p : ℕ) → (p == page_number PFTEMP) ≡ false → counted (place.InHandler at) row p ≡ row p
unfolding counted
handler_elsewhere (handler.Unmapping va) row p other = ap (λ (c : Bool). if c then None else row p) other
handler_elsewhere handler.Entered row p other = refl
handler_elsewhere (handler.ReadingError va) row p other = refl
handler_elsewhere (handler.Looking va) row p other = refl
handler_elsewhere (handler.Taking va) row p other = refl
handler_elsewhere (handler.Loading va index) row p other = refl
handler_elsewhere (handler.Storing va index word) row p other = refl
handler_elsewhere (handler.MappingOver va) row p other = refl
handler_elsewhere handler.Restoring row p other = refl
handler_elsewhere (handler.ReadingIp va error) row p other = refl
handler_elsewhere (handler.Unsetting va error ip) row p other = refl
handler_elsewhere (handler.Touching va error ip) row p other = refl

fork_elsewhere : (at : Step) (row : EntryRow) (p : ℕ) → is_remapped (place.InService service.Fork at) p ≡ false →
    counted (place.InService service.Fork at) row p ≡ row p
unfolding counted
fork_elsewhere step.Entered row p other = refl
fork_elsewhere (step.Trying perm) row p other = refl
fork_elsewhere (step.Pausing perm) row p other = refl
fork_elsewhere step.ReadingRegion row p other = refl
fork_elsewhere step.ReadingEntry row p other = refl
fork_elsewhere (step.Receiving id) row p other = refl
fork_elsewhere (step.ReadingValue id) row p other = refl
fork_elsewhere (step.ReadingSender id value) row p other = refl
fork_elsewhere (step.ReadingPerm id value sender) row p other = refl
fork_elsewhere (step.ForkRegion id region) row p other = refl
fork_elsewhere (step.ForkEntry id page) row p other = refl
fork_elsewhere (step.MapChild id page perm) row p other = refl
fork_elsewhere (step.Remap id page) row p other = ap (λ (c : Bool). if c then option_map as_cow (row p) else row p) other
fork_elsewhere (step.ChildStack id) row p other = refl
fork_elsewhere (step.ChildUpcall id) row p other = refl
fork_elsewhere (step.ChildRuns id) row p other = refl
fork_elsewhere (step.Undoing id error) row p other = refl
fork_elsewhere (step.DescriptorEntry fd) row p other = refl
fork_elsewhere step.TargetEntry row p other = refl
fork_elsewhere (step.DroppingDescriptor fd) row p other = refl
fork_elsewhere step.MappingDescriptor row p other = refl
fork_elsewhere step.Ending row p other = refl
fork_elsewhere step.ReadingDevice row p other = refl
fork_elsewhere (step.BufferRegion done word) row p other = refl
fork_elsewhere (step.BufferEntry done word) row p other = refl
fork_elsewhere step.TakingPage row p other = refl
fork_elsewhere (step.Gathering done) row p other = refl
fork_elsewhere (step.Keeping done word left) row p other = refl
fork_elsewhere step.Printing row p other = refl
fork_elsewhere step.Releasing row p other = refl
fork_elsewhere step.Getting row p other = refl
fork_elsewhere (step.Delivering done word) row p other = refl
fork_elsewhere (step.Faulting done word) row p other = refl
fork_elsewhere (step.Asking id) row p other = refl
fork_elsewhere (step.Awaiting id) row p other = refl
fork_elsewhere (step.ReadingReply id) row p other = refl
fork_elsewhere step.Identifying row p other = refl
fork_elsewhere (step.Clearing id) row p other = refl
fork_elsewhere step.ReadingMode row p other = refl
fork_elsewhere step.ReadingNumber row p other = refl
fork_elsewhere (step.StoringNumber number) row p other = refl
fork_elsewhere step.StoringCount row p other = refl
fork_elsewhere step.TakingRequest row p other = refl
fork_elsewhere (step.GatheringBytes done start) row p other = refl
fork_elsewhere (step.KeepingBytes done word left start) row p other = refl
fork_elsewhere (step.CountingReply id) row p other = refl
fork_elsewhere (step.FileRegion done count) row p other = refl
fork_elsewhere (step.FileEntry done count) row p other = refl
fork_elsewhere (step.LoadingBytes done count) row p other = refl
fork_elsewhere (step.LoadingRest done count first) row p other = refl
fork_elsewhere (step.PuttingBytes done count word) row p other = refl
fork_elsewhere (step.FileFaulting done count) row p other = refl
fork_elsewhere (step.Returning answer) row p other = refl
fork_elsewhere step.FreeRegion row p other = refl
fork_elsewhere (step.FreeEntry fd) row p other = refl
fork_elsewhere (step.StoringMode fd) row p other = refl
fork_elsewhere (step.OpenIdentifying fd) row p other = refl
fork_elsewhere (step.OpenAsking id fd) row p other = refl
fork_elsewhere (step.OpenPausing id fd) row p other = refl
fork_elsewhere (step.OpenAwaiting id fd) row p other = refl
fork_elsewhere (step.OpenClearing id fd) row p other = refl
fork_elsewhere (step.ReadingOpened id fd) row p other = refl
fork_elsewhere (step.Piped at) row p other = refl
fork_elsewhere (step.Spawning at) row p other = refl

pipe_elsewhere : (at : Step) (row : EntryRow) (p : ℕ) → is_remapped (place.InService service.Pipe at) p ≡ false →
    counted (place.InService service.Pipe at) row p ≡ row p
unfolding counted
pipe_elsewhere (step.Piped at) row p other = ap (λ (c : Bool). if c then option_map as_own (row p) else row p) other
pipe_elsewhere _ row p other = refl

spawn_elsewhere : (path argv : ℕ) (at : Step) (row : EntryRow) (p : ℕ) → is_remapped (place.InService (service.Spawn path argv) at) p ≡ false →
    counted (place.InService (service.Spawn path argv) at) row p ≡ row p
unfolding counted
spawn_elsewhere path argv (step.Spawning at) row p other = ap (λ (c : Bool). if c then None else row p) other
spawn_elsewhere path argv _ row p other = refl

service_elsewhere : (s : Service) (at : Step) (row : EntryRow) (p : ℕ) → is_remapped (place.InService s at) p ≡ false →
    counted (place.InService s at) row p ≡ row p
unfolding counted
service_elsewhere service.Fork at row p other = fork_elsewhere at row p other
service_elsewhere service.Exit at row p other = refl
service_elsewhere (service.Cputs va len) at row p other = refl
service_elsewhere service.GetId at row p other = refl
service_elsewhere service.Yield at row p other = refl
service_elsewhere (service.Wait id) at row p other = refl
service_elsewhere (service.PageNew va flags) at row p other = refl
service_elsewhere (service.PageDrop va) at row p other = refl
service_elsewhere (service.Send id value va) at row p other = refl
service_elsewhere (service.Receive va from) at row p other = refl
service_elsewhere (service.OpenFile path mode) at row p other = refl
service_elsewhere (service.Close fd) at row p other = refl
service_elsewhere (service.Read fd va len) at row p other = refl
service_elsewhere (service.Write fd va len) at row p other = refl
service_elsewhere (service.Seek fd offset) at row p other = refl
service_elsewhere (service.Stat fd va) at row p other = refl
service_elsewhere (service.SetSize fd size) at row p other = refl
service_elsewhere (service.Remove path) at row p other = refl
service_elsewhere service.Sync at row p other = refl
service_elsewhere (service.Dup old new) at row p other = refl
service_elsewhere service.Pipe at row p other = pipe_elsewhere at row p other
service_elsewhere (service.Spawn path argv) at row p other = spawn_elsewhere path argv at row p other
service_elsewhere service.Unknown at row p other = refl

pub counted_elsewhere : (at : Place) (row : EntryRow) (p : ℕ) → p ≢ page_number PFTEMP → is_remapped at p ≡ false → counted at row p ≡ row p
unfolding counted
counted_elsewhere place.Guest row p ne other = refl
counted_elsewhere (place.InService s at) row p ne other = service_elsewhere s at row p other
counted_elsewhere (place.InHandler at) row p ne other = handler_elsewhere at row p (grind (arith, nat_tests))

-- What counts at a place stands there, with the same frame, and is shared there where it counts as shared.
pub record StandsAs (o : Option Entry) (x : Entry) : Type 0 where
  pub entry : Entry
  pub stands : o ≡ Some entry
  pub frame : entry.frame ≡ x.frame
  pub sharing : is_shared x.perm ≡ true → is_shared entry.perm ≡ true

itself : (o : Option Entry) (x : Entry) → o ≡ Some x → StandsAs o x
itself o x is = record { entry = x; stands = is; frame = refl; sharing = λ so. so }

pub as_cow_alike : (e : Entry) → ((as_cow e).frame ≡ e.frame) × (is_shared (as_cow e).perm ≡ is_shared e.perm)
as_cow_alike e = by_sharing (is_shared e.perm) refl
  where
    by_sharing : (c : Bool) → is_shared e.perm ≡ c →
        ((if c then e else record e { perm = cow_perm }).frame ≡ e.frame) × (is_shared (if c then e else record e { perm = cow_perm }).perm ≡ is_shared e.perm)
    by_sharing true is = (refl, refl)
    by_sharing false is = (refl, sym is)

cow_stands : (o : Option Entry) (x : Entry) → option_map as_cow o ≡ Some x → StandsAs o x
cow_stands None x is = absurd (none-some x is)
cow_stands (Some e) x is =
    let same : as_cow e ≡ x = same_Some (as_cow e) x is in
    let alike = as_cow_alike e in
    record {
      entry = e;
      stands = refl;
      frame = sym alike.0 ∙ ap (λ (y : Entry). y.frame) same;
      sharing = λ so. sym alike.1 ∙ ap (λ (y : Entry). is_shared y.perm) same ∙ so;
    }

remapped_some : (id page : ℕ) (row : EntryRow) (p : ℕ) (x : Entry) → counted (place.InService service.Fork (step.Remap id page)) row p ≡ Some x →
    StandsAs (row p) x
unfolding counted
remapped_some id page row p x is = by_page (p == page) is
  where
    by_page : (c : Bool) → (if c then option_map as_cow (row p) else row p) ≡ Some x → StandsAs (row p) x
    by_page true is = cow_stands (row p) x is
    by_page false is = itself (row p) x is

unmapped_some : (va : ℕ) (row : EntryRow) (p : ℕ) (x : Entry) → counted (place.InHandler (handler.Unmapping va)) row p ≡ Some x → row p ≡ Some x
unfolding counted
unmapped_some va row p x is = by_page (p == page_number PFTEMP) is
  where
    by_page : (c : Bool) → (if c then None else row p) ≡ Some x → row p ≡ Some x
    by_page true is = absurd (none-some x is)
    by_page false is = is

handler_some : (at : HandlerStep) (row : EntryRow) (p : ℕ) (x : Entry) → counted (place.InHandler at) row p ≡ Some x → row p ≡ Some x
handler_some (handler.Unmapping va) row p x is = unmapped_some va row p x is
handler_some handler.Entered row p x is = sym (handler_plain handler.Entered row refl p) ∙ is
handler_some (handler.ReadingError va) row p x is = sym (handler_plain (handler.ReadingError va) row refl p) ∙ is
handler_some (handler.Looking va) row p x is = sym (handler_plain (handler.Looking va) row refl p) ∙ is
handler_some (handler.Taking va) row p x is = sym (handler_plain (handler.Taking va) row refl p) ∙ is
handler_some (handler.Loading va index) row p x is = sym (handler_plain (handler.Loading va index) row refl p) ∙ is
handler_some (handler.Storing va index word) row p x is = sym (handler_plain (handler.Storing va index word) row refl p) ∙ is
handler_some (handler.MappingOver va) row p x is = sym (handler_plain (handler.MappingOver va) row refl p) ∙ is
handler_some handler.Restoring row p x is = sym (handler_plain handler.Restoring row refl p) ∙ is
handler_some (handler.ReadingIp va error) row p x is = sym (handler_plain (handler.ReadingIp va error) row refl p) ∙ is
handler_some (handler.Unsetting va error ip) row p x is = sym (handler_plain (handler.Unsetting va error ip) row refl p) ∙ is
handler_some (handler.Touching va error ip) row p x is = sym (handler_plain (handler.Touching va error ip) row refl p) ∙ is

fork_some : (at : Step) (row : EntryRow) (p : ℕ) (x : Entry) → counted (place.InService service.Fork at) row p ≡ Some x → StandsAs (row p) x
unfolding counted
fork_some step.Entered row p x is = itself (row p) x is
fork_some (step.Trying perm) row p x is = itself (row p) x is
fork_some (step.Pausing perm) row p x is = itself (row p) x is
fork_some step.ReadingRegion row p x is = itself (row p) x is
fork_some step.ReadingEntry row p x is = itself (row p) x is
fork_some (step.Receiving id) row p x is = itself (row p) x is
fork_some (step.ReadingValue id) row p x is = itself (row p) x is
fork_some (step.ReadingSender id value) row p x is = itself (row p) x is
fork_some (step.ReadingPerm id value sender) row p x is = itself (row p) x is
fork_some (step.ForkRegion id region) row p x is = itself (row p) x is
fork_some (step.ForkEntry id page) row p x is = itself (row p) x is
fork_some (step.MapChild id page perm) row p x is = itself (row p) x is
fork_some (step.Remap id page) row p x is = remapped_some id page row p x is
fork_some (step.ChildStack id) row p x is = itself (row p) x is
fork_some (step.ChildUpcall id) row p x is = itself (row p) x is
fork_some (step.ChildRuns id) row p x is = itself (row p) x is
fork_some (step.Undoing id error) row p x is = itself (row p) x is
fork_some (step.DescriptorEntry fd) row p x is = itself (row p) x is
fork_some step.TargetEntry row p x is = itself (row p) x is
fork_some (step.DroppingDescriptor fd) row p x is = itself (row p) x is
fork_some step.MappingDescriptor row p x is = itself (row p) x is
fork_some step.Ending row p x is = itself (row p) x is
fork_some step.ReadingDevice row p x is = itself (row p) x is
fork_some (step.BufferRegion done word) row p x is = itself (row p) x is
fork_some (step.BufferEntry done word) row p x is = itself (row p) x is
fork_some step.TakingPage row p x is = itself (row p) x is
fork_some (step.Gathering done) row p x is = itself (row p) x is
fork_some (step.Keeping done word left) row p x is = itself (row p) x is
fork_some step.Printing row p x is = itself (row p) x is
fork_some step.Releasing row p x is = itself (row p) x is
fork_some step.Getting row p x is = itself (row p) x is
fork_some (step.Delivering done word) row p x is = itself (row p) x is
fork_some (step.Faulting done word) row p x is = itself (row p) x is
fork_some (step.Asking id) row p x is = itself (row p) x is
fork_some (step.Awaiting id) row p x is = itself (row p) x is
fork_some (step.ReadingReply id) row p x is = itself (row p) x is
fork_some step.Identifying row p x is = itself (row p) x is
fork_some (step.Clearing id) row p x is = itself (row p) x is
fork_some step.ReadingMode row p x is = itself (row p) x is
fork_some step.ReadingNumber row p x is = itself (row p) x is
fork_some (step.StoringNumber number) row p x is = itself (row p) x is
fork_some step.StoringCount row p x is = itself (row p) x is
fork_some step.TakingRequest row p x is = itself (row p) x is
fork_some (step.GatheringBytes done start) row p x is = itself (row p) x is
fork_some (step.KeepingBytes done word left start) row p x is = itself (row p) x is
fork_some (step.CountingReply id) row p x is = itself (row p) x is
fork_some (step.FileRegion done count) row p x is = itself (row p) x is
fork_some (step.FileEntry done count) row p x is = itself (row p) x is
fork_some (step.LoadingBytes done count) row p x is = itself (row p) x is
fork_some (step.LoadingRest done count first) row p x is = itself (row p) x is
fork_some (step.PuttingBytes done count word) row p x is = itself (row p) x is
fork_some (step.FileFaulting done count) row p x is = itself (row p) x is
fork_some (step.Returning answer) row p x is = itself (row p) x is
fork_some step.FreeRegion row p x is = itself (row p) x is
fork_some (step.FreeEntry fd) row p x is = itself (row p) x is
fork_some (step.StoringMode fd) row p x is = itself (row p) x is
fork_some (step.OpenIdentifying fd) row p x is = itself (row p) x is
fork_some (step.OpenAsking id fd) row p x is = itself (row p) x is
fork_some (step.OpenPausing id fd) row p x is = itself (row p) x is
fork_some (step.OpenAwaiting id fd) row p x is = itself (row p) x is
fork_some (step.OpenClearing id fd) row p x is = itself (row p) x is
fork_some (step.ReadingOpened id fd) row p x is = itself (row p) x is
fork_some (step.Piped at) row p x is = itself (row p) x is
fork_some (step.Spawning at) row p x is = itself (row p) x is

own_stands : (o : Option Entry) (x : Entry) → option_map as_own o ≡ Some x → StandsAs o x
own_stands None x is = absurd (none-some x is)
own_stands (Some e) x is =
    let same : as_own e ≡ x = same_Some (as_own e) x is in
    record {
      entry = e;
      stands = refl;
      frame = ap (λ (y : Entry). y.frame) same;
      sharing = λ so. absurd (let contradiction : false ≡ true = ap (λ (y : Entry). is_shared y.perm) same ∙ so in cc);
    }

pipe_some : (at : Step) (row : EntryRow) (p : ℕ) (x : Entry) → counted (place.InService service.Pipe at) row p ≡ Some x → StandsAs (row p) x
unfolding counted
pipe_some (step.Piped at) row p x is = by_page (is_making at p) is
  where
    by_page : (c : Bool) → (if c then option_map as_own (row p) else row p) ≡ Some x → StandsAs (row p) x
    by_page true is = own_stands (row p) x is
    by_page false is = itself (row p) x is
pipe_some _ row p x is = itself (row p) x is

spawn_some : (path argv : ℕ) (at : Step) (row : EntryRow) (p : ℕ) (x : Entry) →
    counted (place.InService (service.Spawn path argv) at) row p ≡ Some x → StandsAs (row p) x
unfolding counted
spawn_some path argv (step.Spawning at) row p x is = by_page (is_childs at p) is
  where
    by_page : (c : Bool) → (if c then None else row p) ≡ Some x → StandsAs (row p) x
    by_page true is = absurd (none-some x is)
    by_page false is = itself (row p) x is
spawn_some path argv _ row p x is = itself (row p) x is

service_some : (s : Service) (at : Step) (row : EntryRow) (p : ℕ) (x : Entry) → counted (place.InService s at) row p ≡ Some x → StandsAs (row p) x
unfolding counted
service_some service.Fork at row p x is = fork_some at row p x is
service_some service.Exit at row p x is = itself (row p) x is
service_some (service.Cputs va len) at row p x is = itself (row p) x is
service_some service.GetId at row p x is = itself (row p) x is
service_some service.Yield at row p x is = itself (row p) x is
service_some (service.Wait id) at row p x is = itself (row p) x is
service_some (service.PageNew va flags) at row p x is = itself (row p) x is
service_some (service.PageDrop va) at row p x is = itself (row p) x is
service_some (service.Send id value va) at row p x is = itself (row p) x is
service_some (service.Receive va from) at row p x is = itself (row p) x is
service_some (service.OpenFile path mode) at row p x is = itself (row p) x is
service_some (service.Close fd) at row p x is = itself (row p) x is
service_some (service.Read fd va len) at row p x is = itself (row p) x is
service_some (service.Write fd va len) at row p x is = itself (row p) x is
service_some (service.Seek fd offset) at row p x is = itself (row p) x is
service_some (service.Stat fd va) at row p x is = itself (row p) x is
service_some (service.SetSize fd size) at row p x is = itself (row p) x is
service_some (service.Remove path) at row p x is = itself (row p) x is
service_some service.Sync at row p x is = itself (row p) x is
service_some (service.Dup old new) at row p x is = itself (row p) x is
service_some service.Pipe at row p x is = pipe_some at row p x is
service_some (service.Spawn path argv) at row p x is = spawn_some path argv at row p x is
service_some service.Unknown at row p x is = itself (row p) x is

pub counted_some : (at : Place) (row : EntryRow) (p : ℕ) (x : Entry) → counted at row p ≡ Some x → StandsAs (row p) x
unfolding counted
counted_some place.Guest row p x is = itself (row p) x is
counted_some (place.InService s at) row p x is = service_some s at row p x is
counted_some (place.InHandler at) row p x is = itself (row p) x (handler_some at row p x is)

-- where no child and no pipe is being made, what counts stands there as it is
pub unborne_stands : (at : Place) (row : EntryRow) (p : ℕ) (x : Entry) → borne_in at ≡ None → is_making_pipe at ≡ false →
    counted at row p ≡ Some x → row p ≡ Some x
unfolding counted
unborne_stands place.Guest row p x none unmade is = is
unborne_stands (place.InService s at) row p x none unmade is =
    sym (service_plain s at row (λ i. is_none (none i) && not (unmade i)) p) ∙ is
unborne_stands (place.InHandler at) row p x none unmade is = handler_some at row p x is

-- ---- entries as they count, by slots

-- a slot but the first, which is live
pub clients_so : (n : ℕ) (k : Slot) → 0 ≢ n → is_live k ≡ true → is_clients n k ≡ true
clients_so n k other live = by_tests (n == 0) (is_live k) (grind (arith, nat_tests)) live
  where
    by_tests : (first lives : Bool) → first ≡ false → lives ≡ true → not first && lives ≡ true
    by_tests false true none is = refl
    by_tests true lives none is = absurd (let contradiction : true ≡ false = none in cc)
    by_tests false false none is = absurd (let contradiction : false ≡ true = is in cc)

pub clients_are : (n : ℕ) (k : Slot) → is_clients n k ≡ true → (0 ≢ n) × (is_live k ≡ true)
clients_are n k is = by_tests (n == 0) refl (is_live k) refl is
  where
    by_tests : (first : Bool) → (n == 0) ≡ first → (lives : Bool) → is_live k ≡ lives → not first && lives ≡ true → (0 ≢ n) × (is_live k ≡ true)
    by_tests false other true lives so = ((λ same. grind (arith, nat_tests)), lives)
    by_tests true here lives_so lives so = absurd (let contradiction : false ≡ true = so in cc)
    by_tests false other false lives so = absurd (let contradiction : false ≡ true = so in cc)

-- two that are live alike
clients_alike : (n : ℕ) (k l : Slot) → is_live l ≡ is_live k → is_clients n l ≡ is_clients n k
clients_alike n k l same = ap (λ (c : Bool). not (n == 0) && c) same

module _ (s : SpacesState) (slots : ℕ → Slot) (n : ℕ) where
  abbrev row : EntryRow
  row = rows_of s (slots n).directory

  pub logical_live : is_clients n (slots n) ≡ true → (p : ℕ) → logical s slots n p ≡ counted (place_of (slots n)) row p
  logical_live live p = ap (λ (c : Bool). logical_by c (counted (place_of (slots n)) row) p) live

  -- what counts stands in the space of a slot that is live, and not the first
  pub logical_of : (p : ℕ) (x : Entry) → logical s slots n p ≡ Some x → (is_clients n (slots n) ≡ true) × StandsAs (row p) x
  logical_of p x is = by_live (is_clients n (slots n)) refl
    where
      by_live : (c : Bool) → is_clients n (slots n) ≡ c → (is_clients n (slots n) ≡ true) × StandsAs (row p) x
      by_live true live = (live, counted_some (place_of (slots n)) row p x (sym (logical_live live p) ∙ is))
      by_live false dead = absurd (none-some x (sym (ap (λ (c : Bool). logical_by c (counted (place_of (slots n)) row) p) dead) ∙ is))

  pub logical_some : (p : ℕ) (x : Entry) → logical s slots n p ≡ Some x → (is_live (slots n) ≡ true) × StandsAs (row p) x
  logical_some p x is = let found = logical_of p x is in ((clients_are n (slots n) found.0).1, found.1)

  pub logical_plain : is_clients n (slots n) ≡ true → is_plain (place_of (slots n)) ≡ true → (p : ℕ) → logical s slots n p ≡ row p
  logical_plain live plain p = logical_live live p ∙ counted_plain (place_of (slots n)) row plain p

  pub logical_beside : is_clients n (slots n) ≡ true → (p : ℕ) → p ≢ page_number PFTEMP → is_remapped (place_of (slots n)) p ≡ false →
      logical s slots n p ≡ row p
  logical_beside live p ne other = logical_live live p ∙ counted_elsewhere (place_of (slots n)) row p ne other

-- The rows of a slot count as they did where its space has the same row, and it stands where it stood.
pub logical_alike : (s t : SpacesState) (slots after : ℕ → Slot) (n : ℕ) → is_live (after n) ≡ is_live (slots n) →
    place_of (after n) ≡ place_of (slots n) →
    (is_live (slots n) ≡ true → rows_of t (after n).directory ≡ rows_of s (slots n).directory) →
    (p : ℕ) → logical t after n p ≡ logical s slots n p
logical_alike s t slots after n live place row p = by_live (is_clients n (slots n)) refl
  where
    alike : is_clients n (after n) ≡ is_clients n (slots n)
    alike = clients_alike n (slots n) (after n) live

    by_live : (c : Bool) → is_clients n (slots n) ≡ c → logical t after n p ≡ logical s slots n p
    by_live true is =
        logical_live t after n (alike ∙ is) p
        ∙ (λ i. counted (place i) (row (clients_are n (slots n) is).1 i) p)
        ∙ sym (logical_live s slots n is p)
    by_live false is =
        ap (λ (c : Bool). logical_by c (counted (place_of (after n)) (rows_of t (after n).directory)) p) (alike ∙ is)
        ∙ sym (ap (λ (c : Bool). logical_by c (counted (place_of (slots n)) (rows_of s (slots n).directory)) p) is)
