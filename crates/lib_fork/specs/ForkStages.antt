-- fork: what it asks at each stage, and what it does next by the reply. It makes the child, passes on its pages from the greatest
-- downwards, gives the child the handler of page faults with its stack, and lets it run.
-- (MIT 6.828, lib/fork.c: fork, duppage. That the walk goes downwards, and that a child is destroyed where something was refused, is
-- this system's own.)
use Rattle.std.specs.Prelude.{ℕ, ◌+◌, ◌-◌, ◌*◌, ◌/◌, ◌%◌, ◌==◌, not, Bool, [], ◌∷◌, Option, Some, None, nat_lt, min, bit_and, if◌then◌else◌}
use Rattle.std.specs.Option.{option_map}
use Rattle.jos_base.specs.declared.called.Called.{Called}
use Rattle.jos_base.specs.declared.called.Called.TheVariants.{Ended}
use Rattle.jos_base.specs.declared.numbers.TheConstants.{ENV_RUNNABLE, NPTENTRIES, PGSIZE, PTE_P, PTE_SYSCALL, PTE_U, PTE_W, USTACKTOP, UVPT}
use Rattle.jos_base.specs.declared.numbers.TheConstants.{SYS_ENV_DESTROY, SYS_ENV_SET_PGFAULT_UPCALL, SYS_ENV_SET_STATUS}
use Rattle.jos_base.specs.declared.numbers.TheConstants.{SYS_PAGE_ALLOC, SYS_PAGE_MAP}
use Rattle.lib_os.specs.declared.numbers.TheConstants.{PGFAULT_UPCALL, SERVICE_FORK, UVPD, UXSTACK}
use Rattle.lib_os.specs.declared.place.Step.{Step}
use Rattle.lib_os.specs.declared.place.Step.TheVariants as step
use Rattle.lib_os.specs.LibraryPages.{region_index}
use Rattle.lib_os.specs.Rows.{cow_perm, is_cow}
use Rattle.lib_os.specs.StandsFor.{child_perm, top_page}
use Rattle.lib_os.specs.UserCalls.{answer_of}
use Rattle.lib_stage.specs.declared.ask.Ask.{Ask}
use Rattle.lib_stage.specs.declared.ask.Ask.TheVariants as ask
use Rattle.lib_stage.specs.declared.ask.Next.{Next}
use Rattle.lib_stage.specs.declared.ask.Next.TheVariants as next
use Rattle.lib_stage.specs.ServiceSteps.{Plan}
use Rattle.lib_fork.specs.declared.fork.Fork.{Fork}
use Rattle.lib_fork.specs.declared.fork.ForkStage.{ForkStage}
use Rattle.lib_fork.specs.declared.fork.ForkStage.TheVariants as stage

-- ---- stages

-- the stage of fork that is kept as a step, if it is one of fork's
abbrev pub stage_at : Step → Option ForkStage
stage_at step.Entered = Some stage.Entered
stage_at (step.ForkRegion id region) = Some (stage.Region id region)
stage_at (step.ForkEntry id page) = Some (stage.Entry id page)
stage_at (step.MapChild id page perm) = Some (stage.MapChild id page perm)
stage_at (step.Remap id page) = Some (stage.Remap id page)
stage_at (step.ChildStack id) = Some (stage.ChildStack id)
stage_at (step.ChildUpcall id) = Some (stage.ChildUpcall id)
stage_at (step.ChildRuns id) = Some (stage.ChildRuns id)
stage_at (step.Undoing id error) = Some (stage.Undoing id error)
stage_at _ = None

abbrev pub fork_at : Step → Option Fork
fork_at step = option_map (λ at. record { at = at }) (stage_at step)

-- ---- pages and regions. The words that keep their numbers may hold anything, so that these are bounded.

abbrev pub page_of : ℕ → ℕ
page_of page = page % (NPTENTRIES * NPTENTRIES)

abbrev pub region_of : ℕ → ℕ
region_of region = region % NPTENTRIES

-- where a page begins
abbrev pub page_va : ℕ → ℕ
page_va page = page_of page * PGSIZE

-- the greatest page of a region that may be a program's
abbrev pub first_page : ℕ → ℕ
first_page region = min (region_of region * NPTENTRIES + (NPTENTRIES - 1)) (top_page - 1)

-- ---- what it asks

-- the bits of the page that is the stack of the child's handler of page faults
abbrev pub stack_perm : ℕ
stack_perm = PTE_P + PTE_U + PTE_W

abbrev pub ask_of : ForkStage → Ask
ask_of stage.Entered = ask.Exofork
ask_of (stage.Region id region) = ask.Load (UVPD + 4 * region_of region)
ask_of (stage.Entry id page) = ask.Load (UVPT + 4 * page_of page)
ask_of (stage.MapChild id page perm) = ask.System SYS_PAGE_MAP (0 ∷ page_va page ∷ id ∷ page_va page ∷ perm ∷ [])
ask_of (stage.Remap id page) = ask.System SYS_PAGE_MAP (0 ∷ page_va page ∷ 0 ∷ page_va page ∷ cow_perm ∷ [])
ask_of (stage.ChildStack id) = ask.System SYS_PAGE_ALLOC (id ∷ UXSTACK ∷ stack_perm ∷ 0 ∷ 0 ∷ [])
ask_of (stage.ChildUpcall id) = ask.System SYS_ENV_SET_PGFAULT_UPCALL (id ∷ PGFAULT_UPCALL ∷ 0 ∷ 0 ∷ 0 ∷ [])
ask_of (stage.ChildRuns id) = ask.System SYS_ENV_SET_STATUS (id ∷ ENV_RUNNABLE ∷ 0 ∷ 0 ∷ 0 ∷ [])
ask_of (stage.Undoing id error) = ask.System SYS_ENV_DESTROY (id ∷ 0 ∷ 0 ∷ 0 ∷ 0 ∷ [])

-- ---- what it does next

-- a refusal, which is told as the error's number negated, and not an id
abbrev pub is_error : ℕ → Bool
is_error word = nat_lt 0x80000000 word

-- an entry's word says that a page, or a region's table, is there
abbrev pub is_there : ℕ → Bool
is_there word = bit_and word PTE_P == PTE_P

-- Where it goes on behind a page: at the page below it, or, where that one was the first of its region, at the region below. Behind
-- the least page of all the child is given its handler.
abbrev pub below : ℕ → ℕ → Step
below id page =
    if not (page % NPTENTRIES == 0) then step.ForkEntry id (page - 1)
    else if not (page / NPTENTRIES == 0) then step.ForkRegion id (page / NPTENTRIES - 1)
    else step.ChildStack id

-- by the word that came
abbrev pub next_of : ForkStage → ℕ → Next
next_of stage.Entered word =
    if is_error word then next.Answer word else next.Show (step.ForkRegion word (region_index USTACKTOP))
next_of (stage.Region id region) word =
    if not (is_there word) then next.GoOn (below id (region_of region * NPTENTRIES))
    else next.GoOn (step.ForkEntry id (first_page region))
next_of (stage.Entry id page) word =
    if not (is_there word) then next.GoOn (below id page)
    else next.GoOn (step.MapChild id page (child_perm (bit_and word PTE_SYSCALL)))
next_of (stage.MapChild id page perm) word =
    if not (word == 0) then next.GoOn (step.Undoing id word)
    else if is_cow perm then next.GoOn (step.Remap id page)
    else next.GoOn (below id page)
next_of (stage.Remap id page) word = next.GoOn (below id page)
next_of (stage.ChildStack id) word = if not (word == 0) then next.GoOn (step.Undoing id word) else next.GoOn (step.ChildUpcall id)
next_of (stage.ChildUpcall id) word = next.GoOn (step.ChildRuns id)
next_of (stage.ChildRuns id) word = next.Answer id
next_of (stage.Undoing id error) word = next.Answer error

-- ---- the plan

-- by what came: whoever was destroyed by its own call is gone
abbrev pub next_by : ForkStage → Called → Next
next_by (stage.Undoing id error) Ended = next.Gone
next_by at called = next_of at (answer_of called)

abbrev pub forking : Fork → Plan
forking f = record { number = SERVICE_FORK; asks = ask_of f.at; next = λ called. next_by f.at called }
