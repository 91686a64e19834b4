-- Spawn, whose child has the bytes of all segments: what it asks at each stage, and what it does next by the reply. Pages of segments that may not be
-- written are mapped anew, so that the child only reads them, but for those that a segment has a part of which may be written. Then the child is given
-- the stack of its handler of page faults and the handler, and the page of its own stack, and spawn gives back its pages and the descriptor of its file.
-- At last the child is given each page that spawn's environment shares, from the greatest downwards, so that the page of a pipe comes before that of the
-- descriptor that has it; and it is let run.
-- (MIT 6.828, lab 5: lib/spawn.c, spawn, init_stack and copy_shared_pages. That the walk goes downwards is this system's own.)
use Rattle.std.specs.Prelude.{ℕ, ◌+◌, ◌-◌, ◌*◌, ◌/◌, ◌%◌, ◌==◌, ◌&&◌, not, nat_le, nat_lt, Bool, bit_and, [], ◌∷◌, if◌then◌else◌}
use Rattle.jos_base.specs.declared.numbers.TheConstants.{ENV_RUNNABLE, NPTENTRIES, PGSIZE, PTE_SYSCALL, USTACKTOP, UTEMP, UVPT}
use Rattle.jos_base.specs.declared.numbers.TheConstants.{SYS_ENV_SET_PGFAULT_UPCALL, SYS_ENV_SET_STATUS, SYS_PAGE_ALLOC, SYS_PAGE_MAP}
use Rattle.jos_base.specs.Words.{page_number}
use Rattle.jos_elf.specs.declared.numbers.TheConstants.{P_FLAGS, P_MEMSZ, P_TYPE, P_VADDR, PF_W, PT_LOAD}
use Rattle.lib_os.specs.declared.numbers.TheConstants.{DESCRIPTORS, PGFAULT_UPCALL, SPAWN_GIVEN, SPAWN_STACK, UVPD, UXSTACK}
use Rattle.lib_os.specs.declared.spawn_steps.FinishingStep.{FinishingStep}
use Rattle.lib_os.specs.declared.spawn_steps.FinishingStep.TheVariants as finishing
use Rattle.lib_os.specs.declared.spawn_steps.SpawnStep.{SpawnStep}
use Rattle.lib_os.specs.declared.spawn_steps.SpawnStep.TheVariants as spawn
use Rattle.lib_os.specs.LibraryPages.{region_index}
use Rattle.lib_os.specs.Rows.{is_shared}
use Rattle.lib_stage.specs.declared.ask.Ask.{Ask}
use Rattle.lib_stage.specs.declared.ask.Ask.TheVariants as ask
use Rattle.lib_stage.specs.declared.ask.Next.{Next}
use Rattle.lib_stage.specs.declared.ask.Next.TheVariants as next
use Rattle.lib_fd.specs.DescriptorStages.{drop_asked, drop_asked_at, is_there}
use Rattle.lib_fork.specs.ForkStages.{first_page, page_of, page_va, region_of}
use Rattle.lib_image.specs.SpawnNexts.{goes_on, shows}
use Rattle.lib_image.specs.TestingStages.{segment_asked}
use Rattle.lib_child.specs.ChildNexts.{unless_refused}
use Rattle.lib_child.specs.ChildSegments.{last_page, readable_perm, rights_from, writable_perm}

-- ---- what it asks

-- a page of one environment is mapped at the same place in another, or in itself with other bits
abbrev pub page_asked : ℕ → ℕ → ℕ → ℕ → Ask
page_asked source target page perm = ask.System SYS_PAGE_MAP (source ∷ page_va page ∷ target ∷ page_va page ∷ perm ∷ [])

abbrev pub finishing_asks : FinishingStep → Ask
finishing_asks (finishing.RightsKind fd headers child header) = segment_asked header P_TYPE
finishing_asks (finishing.RightsFlags fd headers child header) = segment_asked header P_FLAGS
finishing_asks (finishing.RightsMemory fd headers child header) = segment_asked header P_MEMSZ
finishing_asks (finishing.RightsAddress fd headers child header memory) = segment_asked header P_VADDR
finishing_asks (finishing.SharedKind fd headers child header page end other) = segment_asked other P_TYPE
finishing_asks (finishing.SharedFlags fd headers child header page end other) = segment_asked other P_FLAGS
finishing_asks (finishing.SharedMemory fd headers child header page end other) = segment_asked other P_MEMSZ
finishing_asks (finishing.SharedAddress fd headers child header page end other other_memory) = segment_asked other P_VADDR
finishing_asks (finishing.RightsPage fd headers child header page end) = page_asked child child page readable_perm
finishing_asks (finishing.ChildStack fd child) = ask.System SYS_PAGE_ALLOC (child ∷ UXSTACK ∷ writable_perm ∷ 0 ∷ 0 ∷ [])
finishing_asks (finishing.ChildUpcall fd child) = ask.System SYS_ENV_SET_PGFAULT_UPCALL (child ∷ PGFAULT_UPCALL ∷ 0 ∷ 0 ∷ 0 ∷ [])
finishing_asks (finishing.GivingStack fd child) = ask.System SYS_PAGE_MAP (0 ∷ SPAWN_STACK ∷ child ∷ (USTACKTOP - PGSIZE) ∷ writable_perm ∷ [])
finishing_asks (finishing.ReleasingStack fd child) = drop_asked_at SPAWN_STACK
finishing_asks (finishing.ReleasingGiven fd child) = drop_asked_at SPAWN_GIVEN
finishing_asks (finishing.ReleasingPath fd child) = drop_asked_at UTEMP
finishing_asks (finishing.DroppingFile fd child) = drop_asked fd
finishing_asks (finishing.PassingRegion child region) = ask.Load (UVPD + 4 * region_of region)
finishing_asks (finishing.PassingEntry child page) = ask.Load (UVPT + 4 * page_of page)
finishing_asks (finishing.PassingPage child page perm) = page_asked 0 child page perm
finishing_asks (finishing.ChildRuns child) = ask.System SYS_ENV_SET_STATUS (child ∷ ENV_RUNNABLE ∷ 0 ∷ 0 ∷ 0 ∷ [])

-- ---- the rights of pages

-- a segment that begins at an address and has so much memory has a part of this page
abbrev pub touches : ℕ → ℕ → ℕ → Bool
touches page va memory = nat_le (page_number va) page && nat_le page (last_page va memory)

-- Segments lie apart, so that another one has a part of the first and the last page of this one at most.
abbrev pub page_without : ℕ → ℕ → ℕ → ℕ
page_without page va memory = if touches page va memory then page + 1 else page

abbrev pub end_without : ℕ → ℕ → ℕ → ℕ
end_without end va memory = if touches (end - 1) va memory then end - 1 else end

-- No segment that may be written has a part of the pages from this one up to the end, of those before the other one. Where no page is left, the next
-- segment is looked at.
abbrev pub others_from : ℕ → ℕ → ℕ → ℕ → ℕ → ℕ → ℕ → SpawnStep
others_from fd headers child header page end other =
    if not (nat_lt page end) then rights_from fd headers child (header + 1)
    else if nat_lt other headers then spawn.Finishing (finishing.SharedKind fd headers child header page end other)
    else spawn.Finishing (finishing.RightsPage fd headers child header page end)

-- behind a page whose rights are taken comes the next, up to the end
abbrev pub rights_behind : ℕ → ℕ → ℕ → ℕ → ℕ → ℕ → SpawnStep
rights_behind fd headers child header page end =
    if nat_lt (page + 1) end then spawn.Finishing (finishing.RightsPage fd headers child header (page + 1) end)
    else rights_from fd headers child (header + 1)

-- ---- the shared pages

-- Where it goes on behind a page: at the page below it, or, where that one was the first of its region, at the region below. Behind the least page of
-- all the child is let run.
abbrev pub passed_below : ℕ → ℕ → SpawnStep
passed_below child page =
    if not (page % NPTENTRIES == 0) then spawn.Finishing (finishing.PassingEntry child (page - 1))
    else if not (page / NPTENTRIES == 0) then spawn.Finishing (finishing.PassingRegion child (page / NPTENTRIES - 1))
    else spawn.Finishing (finishing.ChildRuns child)

abbrev pub region_passed : ℕ → ℕ → ℕ → SpawnStep
region_passed child region word =
    if not (is_there word) then passed_below child (region_of region * NPTENTRIES)
    else spawn.Finishing (finishing.PassingEntry child (first_page region))

-- a page that is there and shared is passed on as it is
abbrev pub entry_passed : ℕ → ℕ → ℕ → SpawnStep
entry_passed child page word =
    if is_there word && is_shared word then spawn.Finishing (finishing.PassingPage child page (bit_and word PTE_SYSCALL))
    else passed_below child page

-- ---- what it does next, by the word that came

abbrev pub finishing_next : FinishingStep → ℕ → Next
finishing_next (finishing.RightsKind fd headers child header) word =
    if word == PT_LOAD then goes_on (spawn.Finishing (finishing.RightsFlags fd headers child header))
    else goes_on (rights_from fd headers child (header + 1))
finishing_next (finishing.RightsFlags fd headers child header) flags =
    if bit_and flags PF_W == 0 then goes_on (spawn.Finishing (finishing.RightsMemory fd headers child header))
    else goes_on (rights_from fd headers child (header + 1))
finishing_next (finishing.RightsMemory fd headers child header) memory =
    if memory == 0 then goes_on (rights_from fd headers child (header + 1))
    else goes_on (spawn.Finishing (finishing.RightsAddress fd headers child header memory))
finishing_next (finishing.RightsAddress fd headers child header memory) va =
    goes_on (others_from fd headers child header (page_number va) (last_page va memory + 1) 0)
finishing_next (finishing.SharedKind fd headers child header page end other) word =
    if word == PT_LOAD then goes_on (spawn.Finishing (finishing.SharedFlags fd headers child header page end other))
    else goes_on (others_from fd headers child header page end (other + 1))
finishing_next (finishing.SharedFlags fd headers child header page end other) flags =
    if bit_and flags PF_W == 0 then goes_on (others_from fd headers child header page end (other + 1))
    else goes_on (spawn.Finishing (finishing.SharedMemory fd headers child header page end other))
finishing_next (finishing.SharedMemory fd headers child header page end other) memory =
    if memory == 0 then goes_on (others_from fd headers child header page end (other + 1))
    else goes_on (spawn.Finishing (finishing.SharedAddress fd headers child header page end other memory))
finishing_next (finishing.SharedAddress fd headers child header page end other other_memory) va =
    goes_on (others_from fd headers child header (page_without page va other_memory) (end_without end va other_memory) (other + 1))
finishing_next (finishing.RightsPage fd headers child header page end) word =
    unless_refused fd child word (rights_behind fd headers child header page end)
finishing_next (finishing.ChildStack fd child) word = unless_refused fd child word (spawn.Finishing (finishing.ChildUpcall fd child))
finishing_next (finishing.ChildUpcall fd child) word = goes_on (spawn.Finishing (finishing.GivingStack fd child))
finishing_next (finishing.GivingStack fd child) word = unless_refused fd child word (spawn.Finishing (finishing.ReleasingStack fd child))
finishing_next (finishing.ReleasingStack fd child) word = goes_on (spawn.Finishing (finishing.ReleasingGiven fd child))
finishing_next (finishing.ReleasingGiven fd child) word = goes_on (spawn.Finishing (finishing.ReleasingPath fd child))
finishing_next (finishing.ReleasingPath fd child) word = goes_on (spawn.Finishing (finishing.DroppingFile fd child))
finishing_next (finishing.DroppingFile fd child) word = shows (spawn.Finishing (finishing.PassingRegion child (region_index USTACKTOP)))
finishing_next (finishing.PassingRegion child region) word = goes_on (region_passed child region word)
finishing_next (finishing.PassingEntry child page) word = goes_on (entry_passed child page word)
-- the descriptor of the file is dropped already, so that there is none to be dropped where this is refused
finishing_next (finishing.PassingPage child page perm) word = unless_refused DESCRIPTORS child word (passed_below child page)
finishing_next (finishing.ChildRuns child) word = next.Answer child
