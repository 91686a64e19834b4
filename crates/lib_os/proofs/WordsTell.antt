-- The words of a service at a step tell that service and that step again, and the registers of the handler of page faults its step.
use Rattle.std.proofs.Common.{◌≡◌, ◌<◌, ◌+◌, ◌-◌, ◌%◌, ◌==◌, ◌∙◌, ℕ, Bool, true, false, refl, sym, ap, arith, if◌then◌else◌, List}
use Rattle.std.proofs.lemmas.Bool.Decides.{nat_tests}
use Rattle.jos_base.specs.declared.registers.Regs.{Regs}
use Rattle.lib_os.specs.declared.numbers.TheConstants.{PAGE_WORDS}
use Rattle.lib_os.specs.declared.place.HandlerStep.{HandlerStep}
use Rattle.lib_os.specs.declared.place.HandlerStep.TheVariants as handler
use Rattle.lib_os.specs.declared.place.Place.{Place}
use Rattle.lib_os.specs.declared.place.Place.TheVariants as place
use Rattle.lib_os.specs.declared.place.PipeStep.TheVariants as pipe
use Rattle.lib_os.specs.declared.place.Step.{Step}
use Rattle.lib_os.specs.declared.place.Step.TheVariants as step
use Rattle.lib_os.specs.declared.service.Service.{Service}
use Rattle.lib_os.specs.Places.{place_in_words, pipe_step_in, end_step_in, pipe_words_at, step_in, words_at, is_handlers, handler_step_in, handler_registers, service_word}
use Rattle.lib_os.specs.Services.{service_of}
use Rattle.lib_os.specs.StandingLaws.{IsHandlerStep}
use Rattle.lib_os.proofs.SpawnTells.{spawn_number, spawn_back}

pub place_at : (regs : Regs) (number : ℕ) (at : Step) → is_handlers regs.esp ≡ false →
    place_in_words regs (words_at number at) ≡ place.InService (service_of (record regs { eax = number })) at
unfolding place_in_words pipe_step_in end_step_in pipe_words_at step_in words_at
place_at regs number at outside =
    let some : (number + 1 == 0) ≡ false = grind (arith, nat_tests) in
    let back : number + 1 - 1 ≡ number = omega arith in
    by_step at some back
  where
    by_step : (at : Step) → (number + 1 == 0) ≡ false → number + 1 - 1 ≡ number →
        place_in_words regs (words_at number at) ≡ place.InService (service_of (record regs { eax = number })) at
    by_step step.Entered some back = rw (outside, some, back) refl
    by_step (step.Trying perm) some back = rw (outside, some, back) refl
    by_step (step.Pausing perm) some back = rw (outside, some, back) refl
    by_step step.ReadingRegion some back = rw (outside, some, back) refl
    by_step step.ReadingEntry some back = rw (outside, some, back) refl
    by_step (step.Receiving id) some back = rw (outside, some, back) refl
    by_step (step.ReadingValue id) some back = rw (outside, some, back) refl
    by_step (step.ReadingSender id value) some back = rw (outside, some, back) refl
    by_step (step.ReadingPerm id value sender) some back = rw (outside, some, back) refl
    by_step (step.ForkRegion id region) some back = rw (outside, some, back) refl
    by_step (step.ForkEntry id page) some back = rw (outside, some, back) refl
    by_step (step.MapChild id page perm) some back = rw (outside, some, back) refl
    by_step (step.Remap id page) some back = rw (outside, some, back) refl
    by_step (step.ChildStack id) some back = rw (outside, some, back) refl
    by_step (step.ChildUpcall id) some back = rw (outside, some, back) refl
    by_step (step.ChildRuns id) some back = rw (outside, some, back) refl
    by_step (step.Undoing id error) some back = rw (outside, some, back) refl
    by_step (step.DescriptorEntry fd) some back = rw (outside, some, back) refl
    by_step step.TargetEntry some back = rw (outside, some, back) refl
    by_step (step.DroppingDescriptor fd) some back = rw (outside, some, back) refl
    by_step step.MappingDescriptor some back = rw (outside, some, back) refl
    by_step step.Ending some back = rw (outside, some, back) refl
    by_step step.ReadingDevice some back = rw (outside, some, back) refl
    by_step (step.BufferRegion done word) some back = rw (outside, some, back) refl
    by_step (step.BufferEntry done word) some back = rw (outside, some, back) refl
    by_step step.TakingPage some back = rw (outside, some, back) refl
    by_step (step.Gathering done) some back = rw (outside, some, back) refl
    by_step (step.Keeping done word left) some back = rw (outside, some, back) refl
    by_step step.Printing some back = rw (outside, some, back) refl
    by_step step.Releasing some back = rw (outside, some, back) refl
    by_step step.Getting some back = rw (outside, some, back) refl
    by_step (step.Delivering done word) some back = rw (outside, some, back) refl
    by_step (step.Faulting done word) some back = rw (outside, some, back) refl
    by_step (step.Asking id) some back = rw (outside, some, back) refl
    by_step (step.Awaiting id) some back = rw (outside, some, back) refl
    by_step (step.ReadingReply id) some back = rw (outside, some, back) refl
    by_step step.Identifying some back = rw (outside, some, back) refl
    by_step (step.Clearing id) some back = rw (outside, some, back) refl
    by_step step.ReadingMode some back = rw (outside, some, back) refl
    by_step step.ReadingNumber some back = rw (outside, some, back) refl
    by_step (step.StoringNumber number) some back = rw (outside, some, back) refl
    by_step step.StoringCount some back = rw (outside, some, back) refl
    by_step step.TakingRequest some back = rw (outside, some, back) refl
    by_step (step.GatheringBytes done start) some back = rw (outside, some, back) refl
    by_step (step.KeepingBytes done word left start) some back = rw (outside, some, back) refl
    by_step (step.CountingReply id) some back = rw (outside, some, back) refl
    by_step (step.FileRegion done count) some back = rw (outside, some, back) refl
    by_step (step.FileEntry done count) some back = rw (outside, some, back) refl
    by_step (step.LoadingBytes done count) some back = rw (outside, some, back) refl
    by_step (step.LoadingRest done count first) some back = rw (outside, some, back) refl
    by_step (step.PuttingBytes done count word) some back = rw (outside, some, back) refl
    by_step (step.FileFaulting done count) some back = rw (outside, some, back) refl
    by_step (step.Returning answer) some back = rw (outside, some, back) refl
    by_step step.FreeRegion some back = rw (outside, some, back) refl
    by_step (step.FreeEntry fd) some back = rw (outside, some, back) refl
    by_step (step.StoringMode fd) some back = rw (outside, some, back) refl
    by_step (step.OpenIdentifying fd) some back = rw (outside, some, back) refl
    by_step (step.OpenAsking id fd) some back = rw (outside, some, back) refl
    by_step (step.OpenPausing id fd) some back = rw (outside, some, back) refl
    by_step (step.OpenAwaiting id fd) some back = rw (outside, some, back) refl
    by_step (step.OpenClearing id fd) some back = rw (outside, some, back) refl
    by_step (step.ReadingOpened id fd) some back = rw (outside, some, back) refl
    by_step (step.Piped (pipe.SecondEntry reading fd)) some back = rw (outside, some, back) refl
    by_step (step.Piped (pipe.TakingReading reading writing)) some back = rw (outside, some, back) refl
    by_step (step.Piped (pipe.StoringReading reading writing)) some back = rw (outside, some, back) refl
    by_step (step.Piped (pipe.TakingWriting reading writing)) some back = rw (outside, some, back) refl
    by_step (step.Piped (pipe.StoringWriting reading writing)) some back = rw (outside, some, back) refl
    by_step (step.Piped (pipe.StoringEndMode reading writing)) some back = rw (outside, some, back) refl
    by_step (step.Piped (pipe.TakingPipe reading writing)) some back = rw (outside, some, back) refl
    by_step (step.Piped (pipe.MappingPipe reading writing)) some back = rw (outside, some, back) refl
    by_step (step.Piped (pipe.UndoingWriting reading writing error)) some back = rw (outside, some, back) refl
    by_step (step.Piped (pipe.UndoingReading reading error)) some back = rw (outside, some, back) refl
    by_step (step.Piped (pipe.PipeEntry fd)) some back = rw (outside, some, back) refl
    by_step (step.Piped (pipe.DroppingEnd fd)) some back = rw (outside, some, back) refl
    by_step (step.Piped (pipe.DroppingPipe fd)) some back = rw (outside, some, back) refl
    by_step (step.Piped pipe.SourcePipe) some back = rw (outside, some, back) refl
    by_step (step.Piped pipe.MappingEnd) some back = rw (outside, some, back) refl
    by_step (step.Piped pipe.EndMode) some back = rw (outside, some, back) refl
    by_step (step.Piped pipe.TakingBytes) some back = rw (outside, some, back) refl
    by_step (step.Piped (pipe.Locking done id runs)) some back = rw (outside, some, back) refl
    by_step (step.Piped (pipe.LockPausing done)) some back = rw (outside, some, back) refl
    by_step (step.Piped (pipe.ReadFrom done id runs)) some back = rw (outside, some, back) refl
    by_step (step.Piped (pipe.ReadTo done id runs from)) some back = rw (outside, some, back) refl
    by_step (step.Piped (pipe.LoadingHeld done from)) some back = rw (outside, some, back) refl
    by_step (step.Piped (pipe.KeepingHeld done from byte)) some back = rw (outside, some, back) refl
    by_step (step.Piped (pipe.TakingHeld done from)) some back = rw (outside, some, back) refl
    by_step (step.Piped (pipe.LoadingOwn done to)) some back = rw (outside, some, back) refl
    by_step (step.Piped (pipe.PuttingOwn done to byte)) some back = rw (outside, some, back) refl
    by_step (step.Piped (pipe.Putting done to)) some back = rw (outside, some, back) refl
    by_step (step.Piped (pipe.UnlockingMoved done)) some back = rw (outside, some, back) refl
    by_step (step.Piped (pipe.UnlockingEnd done)) some back = rw (outside, some, back) refl
    by_step (step.Piped (pipe.UnlockingTest done id runs)) some back = rw (outside, some, back) refl
    by_step (step.Piped (pipe.TestIdentifying done)) some back = rw (outside, some, back) refl
    by_step (step.Piped (pipe.TestRuns done id)) some back = rw (outside, some, back) refl
    by_step (step.Piped (pipe.TestAgain done id runs)) some back = rw (outside, some, back) refl
    by_step (step.Piped (pipe.TestOwn done id runs)) some back = rw (outside, some, back) refl
    by_step (step.Piped (pipe.TestOther done id runs own)) some back = rw (outside, some, back) refl
    by_step (step.Piped (pipe.TestDescriptor done id runs)) some back = rw (outside, some, back) refl
    by_step (step.Piped (pipe.TestDescriptorCount done id runs entry)) some back = rw (outside, some, back) refl
    by_step (step.Piped (pipe.TestPipe done id runs count)) some back = rw (outside, some, back) refl
    by_step (step.Piped (pipe.TestPipeCount done id runs count entry)) some back = rw (outside, some, back) refl
    by_step (step.Piped (pipe.TestRunsAgain done id runs closed)) some back = rw (outside, some, back) refl
    by_step (step.Piped (pipe.TestPausing done)) some back = rw (outside, some, back) refl
    by_step (step.Piped pipe.StatLocking) some back = rw (outside, some, back) refl
    by_step (step.Piped pipe.StatPausing) some back = rw (outside, some, back) refl
    by_step (step.Piped pipe.StatFrom) some back = rw (outside, some, back) refl
    by_step (step.Piped (pipe.StatTo from)) some back = rw (outside, some, back) refl
    by_step (step.Piped (pipe.StatUnlocking held)) some back = rw (outside, some, back) refl
    by_step (step.Spawning at) some back = rw (outside, spawn_number number at, some, back, spawn_back number at) refl

-- ---- the handler's registers

pub handler_at : (regs : Regs) (words : List ℕ) (at : HandlerStep) → is_handlers regs.esp ≡ true → IsHandlerStep at →
    place_in_words (handler_registers regs at) words ≡ place.InHandler at
unfolding place_in_words handler_step_in handler_registers
handler_at regs words handler.Entered there small = rw there refl
handler_at regs words (handler.ReadingError va) there small = rw there refl
handler_at regs words (handler.Looking va) there small = rw there refl
handler_at regs words (handler.Taking va) there small = rw there refl
handler_at regs words (handler.Loading va index) there small = rw (there, small_index index small) refl
  where
    small_index : (index : ℕ) → index < PAGE_WORDS → index % PAGE_WORDS ≡ index
    small_index index lt = omega (arith, lt)
handler_at regs words (handler.Storing va index word) there small = rw (there, small_index index small) refl
  where
    small_index : (index : ℕ) → index < PAGE_WORDS → index % PAGE_WORDS ≡ index
    small_index index lt = omega (arith, lt)
handler_at regs words (handler.MappingOver va) there small = rw there refl
handler_at regs words (handler.Unmapping va) there small = rw there refl
handler_at regs words handler.Restoring there small = rw there refl
handler_at regs words (handler.ReadingIp va error) there small = rw there refl
handler_at regs words (handler.Unsetting va error ip) there small = rw there refl
handler_at regs words (handler.Touching va error ip) there small = rw there refl

-- ---- who runs, by the place

pub by_esp : (esp : Bool) (words : Bool) (inside : HandlerStep) (call : Service) (at : Step) (P : Place → Type 0) →
    (esp ≡ false → words ≡ true → P place.Guest) → (esp ≡ false → words ≡ false → P (place.InService call at)) → (esp ≡ true → P (place.InHandler inside)) →
    P (if esp then place.InHandler inside else if words then place.Guest else place.InService call at)
by_esp true words inside call at P guest_is service_is handler_is = handler_is refl
by_esp false true inside call at P guest_is service_is handler_is = guest_is refl refl
by_esp false false inside call at P guest_is service_is handler_is = service_is refl refl

-- where the handler runs
abbrev pub is_in_handler : Place → Bool
is_in_handler (place.InHandler at) = true
is_in_handler _ = false

pub handler_runs : (regs : Regs) (words : List ℕ) → is_in_handler (place_in_words regs words) ≡ is_handlers regs.esp
unfolding place_in_words
handler_runs regs words =
    by_esp (is_handlers regs.esp) (service_word words == 0) _ _ _ (λ p. is_in_handler p ≡ is_handlers regs.esp)
    (λ esp no_words. sym esp) (λ esp some. sym esp) (λ esp. sym esp)

-- ESP lies elsewhere, where a program or a service runs
pub outside_stack : (regs : Regs) (words : List ℕ) (at : Place) → place_in_words regs words ≡ at → is_in_handler at ≡ false → is_handlers regs.esp ≡ false
outside_stack regs words at is outside = sym (handler_runs regs words) ∙ ap is_in_handler is ∙ outside
