-- The law of fork: its first step takes a slot for the child and its last one bears it, and all between are hidden.
use Rattle.std.proofs.Common.{◌≡◌, ◌∙◌, ◌%◌, ◌≤◌, ◌==◌, ◌&&◌, ℕ, Bool, true, false, List, [], ◌∷◌, Ok, refl, sym, ap, subst, arith}
use Rattle.std.proofs.Math.Bool.{or-true}
use Rattle.jos_base.specs.declared.called.Called.{Called}
use Rattle.jos_base.specs.declared.environment.Status.{Status}
use Rattle.jos_base.specs.declared.environment.Status.TheVariants.{Runnable}
use Rattle.jos_base.specs.declared.numbers.TheConstants.{ENV_RUNNABLE, NENV, SYS_ENV_SET_STATUS}
use Rattle.jos_base.specs.Environments.{Slot, is_live, is_runnable, no_extra}
use Rattle.jos_base.specs.KernelState.{KernelState, slot_at, with_status}
use Rattle.lib_os.specs.declared.place.Place.TheVariants as place
use Rattle.lib_os.specs.declared.place.Step.{Step}
use Rattle.lib_os.specs.declared.place.Step.TheVariants as step
use Rattle.lib_os.specs.declared.progress.Progress.TheVariants as progress
use Rattle.lib_os.specs.declared.service.Service.TheVariants as service
use Rattle.lib_os.specs.AbstractState.{AbstractState}
use Rattle.lib_os.specs.InOrder.{IsInOrder}
use Rattle.lib_os.specs.LibrarySteps.{Leaves, Stands, TakesByPlace, frames_at, is_pausing, service_answered}
use Rattle.lib_os.specs.Places.{place_of}
use Rattle.lib_os.specs.UserCalls.{CallStep, Got, system}
use Rattle.lib_os.proofs.Bearing.{bearer}
use Rattle.lib_os.proofs.GoingOn.{gives_nothing_up}
use Rattle.lib_os.proofs.Leaving.{running_calm, system_left}
use Rattle.lib_os.proofs.NumbersKept.{KeepsCopies, copies_kept, mapping_copies, numbers_kept, places_kept, undoing_copies, working_kept}
use Rattle.lib_os.proofs.OthersCopies.{plain_wait}
use Rattle.lib_os.proofs.ServerLeft.{own_server, system_server}
use Rattle.lib_os.proofs.OthersKept.{own_stay, system_stay}
use Rattle.lib_os.proofs.Slots.{slot_kept, slot_put}
use Rattle.lib_os.proofs.UsesCalled.{system_found}
use Rattle.lib_stage.specs.Asks.{frames_of, performed}
use Rattle.lib_stage.specs.ServiceSteps.{Plan, upshot_by, or_nowhere, ServiceHolds}
use Rattle.lib_stage.proofs.FramesTaken.{asks_few}
use Rattle.lib_stage.proofs.Laws.{FailsBy, KeepsBy, asked_never, falling_lowers, is_system, is_plain, knowingly, known_leaves, law_of_nowhere, plain_leaves, system_gives}
use Rattle.lib_fork.specs.declared.fork.ForkStage.{ForkStage}
use Rattle.lib_fork.specs.declared.fork.ForkStage.TheVariants as stage
use Rattle.lib_fork.specs.ForkStages.{ask_of, fork_at, forking, page_va}
use Rattle.lib_fork.proofs.Beginning.{entered_holds}
use Rattle.lib_fork.proofs.Birth.{child_runs_fails, child_runs_keeps, runs_is, undoing_fails, undoing_keeps}
use Rattle.lib_fork.proofs.Falling.{fork_falls, step_of}
use Rattle.lib_fork.proofs.Mapping.{map_child_fails, map_child_keeps}
use Rattle.lib_fork.proofs.Readying.{child_stack_fails, child_stack_keeps, child_upcall_fails, child_upcall_keeps}
use Rattle.lib_fork.proofs.Remaps.{remap_fails, remap_keeps, remap_takes}
use Rattle.lib_fork.proofs.Staying.{goes_on}
use Rattle.lib_fork.proofs.Walking.{entry_holds, region_holds}

abbrev pub plan : ForkStage → Plan
plan at = forking (record { at = at })

-- the parts that are a stage's own
abbrev pub StepKeeps : KernelState → ℕ → ForkStage → Type 0
StepKeeps s n at =
    (IsInOrder (performed s n (ask_of at)).state → KeepsBy s n (plan at) (performed s n (ask_of at)))
    × FailsBy s n (plan at) (performed s n (ask_of at))

abbrev StepLeaves : KernelState → ℕ → ForkStage → Type 0
StepLeaves s n at =
    let did = upshot_by (plan at) n (performed s n (ask_of at)) (performed s n (ask_of at)).gives in Leaves (Ok did.progress) n s did.state

abbrev StepTakes : KernelState → ℕ → ForkStage → Type 0
StepTakes s n at = TakesByPlace n s (upshot_by (plan at) n (performed s n (ask_of at)) (performed s n (ask_of at)).gives).state

-- what is asked may take no more frames than a step may at this stage
abbrev Few : ForkStage → Type 0
Few at = frames_of (ask_of at) ≤ frames_at (place.InService service.Fork (step_of at))

takes_few : (s : KernelState) (n : ℕ) (at : ForkStage) → place_of (slot_at s n) ≡ place.InService service.Fork (step_of at) → Few at →
    StepTakes s n at
takes_few s n at stands few = asks_few s n (plan at) (place.InService service.Fork (step_of at)) stands few

law_of_stage : (s : KernelState) (n : ℕ) → is_live (slot_at s n) ≡ true → (at : ForkStage) →
    place_of (slot_at s n) ≡ place.InService service.Fork (step_of at) → is_system (ask_of at) ≡ true → StepLeaves s n at → StepTakes s n at → StepKeeps s n at →
    ServiceHolds s n (plan at)
law_of_stage s n live at stands calls leaves takes keeps = record {
  lives = (goes_on s n live at).live;
  keeps = keeps.0;
  fails = keeps.1;
  leaves = leaves;
  lowers = falling_lowers s n (plan at) (performed s n (ask_of at)) service.Fork (step_of at) stands refl (goes_on s n live at) (asked_never s n (ask_of at) calls)
      (λ called. fork_falls at called);
  gives_up =
      let did = upshot_by (plan at) n (performed s n (ask_of at)) (performed s n (ask_of at)).gives in
      gives_nothing_up (Ok did.progress) (slot_at s n) (slot_at did.state n) (ap is_pausing stands);
  takes = takes;
}

-- ---- the step in which the child may run: its parent is not woken by it, since it is another

module _ (s : KernelState) (n id : ℕ) (live : is_live (slot_at s n) ≡ true)
    (stands : place_of (slot_at s n) ≡ place.InService service.Fork (step.ChildRuns id)) where
  abbrev runs_step : CallStep Called
  runs_step = performed s n (ask_of (stage.ChildRuns id))

  abbrev args : List ℕ
  args = id ∷ ENV_RUNNABLE ∷ 0 ∷ 0 ∷ 0 ∷ []

  abbrev call : CallStep Called
  call = system s n SYS_ENV_SET_STATUS args

  abbrev after : KernelState → KernelState
  after t = service_answered t n id

  parent_still : (a : AbstractState) → Stands s a → (slot_at (after call.state) n).status ≡ (slot_at s n).status
  unfolding performed
  parent_still a h =
      let v = bearer h.1 n (step.ChildRuns id) id stands refl in
      let m = id % NENV in
      let child : Slot = record (slot_at s m) { status = Runnable } in
      let t : KernelState = with_status s m Runnable in
      (λ i. (slot_at (after (runs_is s n id live stands a h i).state) n).status)
      ∙ ap (λ (x : Slot). x.status)
      (slot_put t n (record (slot_at t n) { registers = record (slot_at t n).registers { eax = id }; extra = no_extra }))
      ∙ ap (λ (x : Slot). x.status) (slot_kept s m child n (λ same. v.apart (sym same)))

  runs_leaves_so : Leaves (Ok progress.Finished) n s (after call.state)
  runs_leaves_so =
      let rest = (system_left s n SYS_ENV_SET_STATUS args).rest in
      let t : KernelState = call.state in
      let others = own_stay s n t (system_stay s n SYS_ENV_SET_STATUS args refl)
      (record (slot_at t n) { registers = record (slot_at t n).registers { eax = id }; extra = no_extra }) in
      record {
        rest = record { last = rest.last; turns = rest.turns; frames = rest.frames; refused = rest.refused; told = rest.told };
        turn = λ a h running silent ready.
            let was : is_runnable (slot_at s n).status ≡ true = ap (λ (x : Status). is_runnable x) (sym (parent_still a h)) ∙ ready in
            absurd (let contradiction : false ≡ true = sym (running_calm (slot_at s n).status running) ∙ was in cc);
        uses = λ in_order lives each. system_found s n SYS_ENV_SET_STATUS args in_order lives each;
        places = places_kept s (after t) n (λ before then_so lives b stood. others);
        numbers = numbers_kept s (after t) n (λ before then_so lives b stood. others)
            (copies_kept s (after t) n (plain_wait s n SYS_ENV_SET_STATUS args refl));
        working = working_kept s (after t) n (λ before then_so lives b stood. others) (copies_kept s (after t) n (plain_wait s n SYS_ENV_SET_STATUS args refl));
        server = own_server s n t (record (slot_at t n) { registers = record (slot_at t n).registers { eax = id }; extra = no_extra }) refl refl
            (system_server s n SYS_ENV_SET_STATUS args refl (λ a h. refl));
      }

  runs_leaves : StepLeaves s n (stage.ChildRuns id)
  unfolding performed
  runs_leaves =
      let gives = system_gives s n SYS_ENV_SET_STATUS args in
      subst (λ (g : Got Called). let did = upshot_by (plan (stage.ChildRuns id)) n call g in Leaves (Ok did.progress) n s did.state)
      (sym gives.1) runs_leaves_so

-- ---- the step in which a page is mapped into the child, which is not born

map_child_copies : (s : KernelState) (n id page perm : ℕ) → place_of (slot_at s n) ≡ place.InService service.Fork (step.MapChild id page perm) →
    KeepsCopies n s (performed s n (ask_of (stage.MapChild id page perm))).state
unfolding performed
map_child_copies s n id page perm stands = mapping_copies s n id page perm (page_va page) (page_va page) perm stands

map_child_leaves : (s : KernelState) (n id page perm : ℕ) → place_of (slot_at s n) ≡ place.InService service.Fork (step.MapChild id page perm) →
    StepLeaves s n (stage.MapChild id page perm)
map_child_leaves s n id page perm stands =
    known_leaves s n (plan (stage.MapChild id page perm)) (knowingly refl (map_child_copies s n id page perm stands) (λ a h. refl))

-- ---- the step in which the child is destroyed

undoing_leaves : (s : KernelState) (n id error : ℕ) → place_of (slot_at s n) ≡ place.InService service.Fork (step.Undoing id error) →
    StepLeaves s n (stage.Undoing id error)
undoing_leaves s n id error stands =
    known_leaves s n (plan (stage.Undoing id error))
    (knowingly refl (undoing_copies s n id error (performed s n (ask_of (stage.Undoing id error))).state stands) (λ a h. refl))

-- ---- each step

module _ (s : KernelState) (n : ℕ) (live : is_live (slot_at s n) ≡ true) where
  plain_law : (at : ForkStage) → place_of (slot_at s n) ≡ place.InService service.Fork (step_of at) → is_system (ask_of at) ≡ true →
      is_plain (ask_of at) ≡ true → Few at → StepKeeps s n at → ServiceHolds s n (plan at)
  plain_law at stands calls plain few keeps = law_of_stage s n live at stands calls (plain_leaves s n (plan at) plain) (takes_few s n at stands few) keeps

  pub fork_holds : (at : Step) → place_of (slot_at s n) ≡ place.InService service.Fork at → ServiceHolds s n (or_nowhere forking (fork_at at))
  fork_holds step.Entered stands = entered_holds s n live stands
  fork_holds (step.ForkRegion id r) stands =
      region_holds s n id r stands live
  fork_holds (step.ForkEntry id page) stands =
      entry_holds s n id page stands live
  fork_holds (step.MapChild id page perm) stands =
      law_of_stage s n live (stage.MapChild id page perm) stands refl (map_child_leaves s n id page perm stands)
      (takes_few s n (stage.MapChild id page perm) stands (omega arith))
      (map_child_keeps s n id page perm live stands, map_child_fails s n id page perm live stands)
  fork_holds (step.Remap id page) stands =
      law_of_stage s n live (stage.Remap id page) stands refl (plain_leaves s n (plan (stage.Remap id page)) refl) (remap_takes s n id page live stands)
      (remap_keeps s n id page live stands, remap_fails s n id page live stands)
  fork_holds (step.ChildStack id) stands =
      plain_law (stage.ChildStack id) stands refl (ap (λ (t : Bool). t && true) (or-true (id == 0))) (omega arith)
      (child_stack_keeps s n id live stands, child_stack_fails s n id live stands)
  fork_holds (step.ChildUpcall id) stands =
      plain_law (stage.ChildUpcall id) stands refl refl (omega arith) (child_upcall_keeps s n id live stands, child_upcall_fails s n id live stands)
  fork_holds (step.ChildRuns id) stands =
      law_of_stage s n live (stage.ChildRuns id) stands refl (runs_leaves s n id live stands) (takes_few s n (stage.ChildRuns id) stands (omega arith))
      (child_runs_keeps s n id live stands, child_runs_fails s n id live stands)
  fork_holds (step.Undoing id error) stands =
      law_of_stage s n live (stage.Undoing id error) stands refl (undoing_leaves s n id error stands)
      (takes_few s n (stage.Undoing id error) stands (omega arith)) (undoing_keeps s n id error stands, undoing_fails s n id error stands)
  fork_holds (step.Trying perm) stands = law_of_nowhere s n service.Fork (step.Trying perm) stands refl (λ view k b h. h)
  fork_holds (step.Pausing perm) stands = law_of_nowhere s n service.Fork (step.Pausing perm) stands refl (λ view k b h. h)
  fork_holds step.ReadingRegion stands = law_of_nowhere s n service.Fork step.ReadingRegion stands refl (λ view k b h. h)
  fork_holds step.ReadingEntry stands = law_of_nowhere s n service.Fork step.ReadingEntry stands refl (λ view k b h. h)
  fork_holds (step.Receiving id) stands = law_of_nowhere s n service.Fork (step.Receiving id) stands refl (λ view k b h. h)
  fork_holds (step.ReadingValue id) stands = law_of_nowhere s n service.Fork (step.ReadingValue id) stands refl (λ view k b h. h)
  fork_holds (step.ReadingSender id value) stands = law_of_nowhere s n service.Fork (step.ReadingSender id value) stands refl (λ view k b h. h)
  fork_holds (step.ReadingPerm id value sender) stands =
      law_of_nowhere s n service.Fork (step.ReadingPerm id value sender) stands refl (λ view k b h. h)
  fork_holds (step.DescriptorEntry fd) stands = law_of_nowhere s n service.Fork (step.DescriptorEntry fd) stands refl (λ view k b h. h)
  fork_holds step.TargetEntry stands = law_of_nowhere s n service.Fork step.TargetEntry stands refl (λ view k b h. h)
  fork_holds (step.DroppingDescriptor fd) stands = law_of_nowhere s n service.Fork (step.DroppingDescriptor fd) stands refl (λ view k b h. h)
  fork_holds step.MappingDescriptor stands = law_of_nowhere s n service.Fork step.MappingDescriptor stands refl (λ view k b h. h)
  fork_holds step.Ending stands = law_of_nowhere s n service.Fork step.Ending stands refl (λ view k b h. h)
  fork_holds step.ReadingDevice stands = law_of_nowhere s n service.Fork step.ReadingDevice stands refl (λ view k b h. h)
  fork_holds (step.BufferRegion done word) stands = law_of_nowhere s n service.Fork (step.BufferRegion done word) stands refl (λ view k b h. h)
  fork_holds (step.BufferEntry done word) stands = law_of_nowhere s n service.Fork (step.BufferEntry done word) stands refl (λ view k b h. h)
  fork_holds step.TakingPage stands = law_of_nowhere s n service.Fork step.TakingPage stands refl (λ view k b h. h)
  fork_holds (step.Gathering done) stands = law_of_nowhere s n service.Fork (step.Gathering done) stands refl (λ view k b h. h)
  fork_holds (step.Keeping done word left) stands = law_of_nowhere s n service.Fork (step.Keeping done word left) stands refl (λ view k b h. h)
  fork_holds step.Printing stands = law_of_nowhere s n service.Fork step.Printing stands refl (λ view k b h. h)
  fork_holds step.Releasing stands = law_of_nowhere s n service.Fork step.Releasing stands refl (λ view k b h. h)
  fork_holds step.Getting stands = law_of_nowhere s n service.Fork step.Getting stands refl (λ view k b h. h)
  fork_holds (step.Delivering done word) stands = law_of_nowhere s n service.Fork (step.Delivering done word) stands refl (λ view k b h. h)
  fork_holds (step.Faulting done word) stands = law_of_nowhere s n service.Fork (step.Faulting done word) stands refl (λ view k b h. h)
  fork_holds (step.Asking own) stands = law_of_nowhere s n service.Fork (step.Asking own) stands refl (λ view k b h. h)
  fork_holds (step.Awaiting own) stands = law_of_nowhere s n service.Fork (step.Awaiting own) stands refl (λ view k b h. h)
  fork_holds (step.ReadingReply own) stands = law_of_nowhere s n service.Fork (step.ReadingReply own) stands refl (λ view k b h. h)
  fork_holds step.Identifying stands = law_of_nowhere s n service.Fork step.Identifying stands refl (λ view k b h. h)
  fork_holds (step.Clearing own) stands = law_of_nowhere s n service.Fork (step.Clearing own) stands refl (λ view k b h. h)
  fork_holds step.ReadingMode stands = law_of_nowhere s n service.Fork step.ReadingMode stands refl (λ view k b h. h)
  fork_holds step.ReadingNumber stands = law_of_nowhere s n service.Fork step.ReadingNumber stands refl (λ view k b h. h)
  fork_holds (step.StoringNumber own) stands = law_of_nowhere s n service.Fork (step.StoringNumber own) stands refl (λ view k b h. h)
  fork_holds step.StoringCount stands = law_of_nowhere s n service.Fork step.StoringCount stands refl (λ view k b h. h)
  fork_holds step.TakingRequest stands = law_of_nowhere s n service.Fork step.TakingRequest stands refl (λ view k b h. h)
  fork_holds (step.GatheringBytes done start) stands = law_of_nowhere s n service.Fork (step.GatheringBytes done start) stands refl (λ view k b h. h)
  fork_holds (step.KeepingBytes done word left start) stands = law_of_nowhere s n service.Fork (step.KeepingBytes done word left start) stands refl (λ view k b h. h)
  fork_holds step.FreeRegion stands = law_of_nowhere s n service.Fork step.FreeRegion stands refl (λ view k b h. h)
  fork_holds (step.FreeEntry kept) stands = law_of_nowhere s n service.Fork (step.FreeEntry kept) stands refl (λ view k b h. h)
  fork_holds (step.StoringMode kept) stands = law_of_nowhere s n service.Fork (step.StoringMode kept) stands refl (λ view k b h. h)
  fork_holds (step.OpenIdentifying kept) stands = law_of_nowhere s n service.Fork (step.OpenIdentifying kept) stands refl (λ view k b h. h)
  fork_holds (step.OpenAsking own kept) stands = law_of_nowhere s n service.Fork (step.OpenAsking own kept) stands refl (λ view k b h. h)
  fork_holds (step.OpenPausing own kept) stands = law_of_nowhere s n service.Fork (step.OpenPausing own kept) stands refl (λ view k b h. h)
  fork_holds (step.OpenAwaiting own kept) stands = law_of_nowhere s n service.Fork (step.OpenAwaiting own kept) stands refl (λ view k b h. h)
  fork_holds (step.OpenClearing own kept) stands = law_of_nowhere s n service.Fork (step.OpenClearing own kept) stands refl (λ view k b h. h)
  fork_holds (step.ReadingOpened own kept) stands = law_of_nowhere s n service.Fork (step.ReadingOpened own kept) stands refl (λ view k b h. h)
  fork_holds (step.CountingReply own) stands = law_of_nowhere s n service.Fork (step.CountingReply own) stands refl (λ view k b h. let contradiction : false ≡ true = h.hands in cc)
  fork_holds (step.FileRegion done count) stands = law_of_nowhere s n service.Fork (step.FileRegion done count) stands refl (λ view k b h. let contradiction : false ≡ true = h.hands in cc)
  fork_holds (step.FileEntry done count) stands = law_of_nowhere s n service.Fork (step.FileEntry done count) stands refl (λ view k b h. let contradiction : false ≡ true = h.0.hands in cc)
  fork_holds (step.LoadingBytes done count) stands = law_of_nowhere s n service.Fork (step.LoadingBytes done count) stands refl (λ view k b h. let contradiction : false ≡ true = h.has.hands in cc)
  fork_holds (step.LoadingRest done count first) stands = law_of_nowhere s n service.Fork (step.LoadingRest done count first) stands refl (λ view k b h. let contradiction : false ≡ true = h.has.hands in cc)
  fork_holds (step.PuttingBytes done count word) stands = law_of_nowhere s n service.Fork (step.PuttingBytes done count word) stands refl (λ view k b h. let contradiction : false ≡ true = h.has.hands in cc)
  fork_holds (step.FileFaulting done count) stands = law_of_nowhere s n service.Fork (step.FileFaulting done count) stands refl (λ view k b h. let contradiction : false ≡ true = h.0.hands in cc)
  fork_holds (step.Returning answer) stands = law_of_nowhere s n service.Fork (step.Returning answer) stands refl (λ view k b h. let contradiction : false ≡ true = h.goes in cc)
  fork_holds (step.Piped at) stands = law_of_nowhere s n service.Fork (step.Piped at) stands refl (λ view k b h. h)
  fork_holds (step.Spawning at) stands = law_of_nowhere s n service.Fork (step.Spawning at) stands refl (λ view k b h. h)
