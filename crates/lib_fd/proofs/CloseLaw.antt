-- The law of close: each of its stages is a part of its one step in the abstract system.
use Rattle.std.proofs.Common.{◌≡◌, ◌∙◌, ◌||◌, ◌≤◌, ℕ, Bool, true, false, not, [], ◌∷◌, refl, sym, ap, subst, arith, if◌then◌else◌}
use Rattle.std.specs.Prelude.{nat_lt}
use Rattle.std.proofs.lemmas.Bool.Decides.{nat_tests}
use Rattle.jos_base.specs.declared.called.Called.{Called}
use Rattle.jos_base.specs.declared.called.Called.TheVariants.{Answered}
use Rattle.jos_base.specs.declared.numbers.TheConstants.{E_INVAL, SYS_GETENVID, SYS_PAGE_UNMAP}
use Rattle.jos_base.specs.Environments.{Slot, is_live}
use Rattle.jos_base.specs.KernelState.{KernelState, slot_at}
use Rattle.jos_base.specs.Words.{negated}
use Rattle.lib_os.specs.declared.numbers.TheConstants.{DESCRIPTORS}
use Rattle.lib_os.specs.declared.place.PipeStep.{PipeStep}
use Rattle.lib_os.specs.declared.place.PipeStep.TheVariants as pipe
use Rattle.lib_os.specs.declared.place.Place.TheVariants as place
use Rattle.lib_os.specs.declared.place.Step.{Step}
use Rattle.lib_os.specs.declared.place.Step.TheVariants as step
use Rattle.lib_os.specs.declared.service.Service.TheVariants as service
use Rattle.lib_os.specs.AbstractState.{Born}
use Rattle.lib_os.specs.InOrder.{IsInOrder}
use Rattle.lib_os.specs.LibraryPages.{View}
use Rattle.lib_os.specs.LibrarySteps.{frames_at}
use Rattle.lib_os.specs.Places.{place_of}
use Rattle.lib_os.specs.StandsFor.{StandsAtStep}
use Rattle.lib_os.specs.UserCalls.{CallStep, answer_of, giving}
use Rattle.lib_os.proofs.Calls.{getenvid_is}
use Rattle.lib_os.proofs.DescriptorLooks.{descriptor_va, entry_va, page_word, table_gives, table_va, table_word}
use Rattle.lib_os.proofs.DescriptorsStand.{drop_is, drop_lives}
use Rattle.lib_os.proofs.EndsDropped.{pipe_drop_is, pipe_drop_lives, pipe_entry_va, pipe_va, pipe_word}
use Rattle.lib_os.proofs.Trying.{LivesOn}
use Rattle.lib_stage.specs.declared.ask.Ask.{Ask}
use Rattle.lib_stage.specs.declared.ask.Ask.TheVariants as ask
use Rattle.lib_stage.specs.declared.ask.Next.TheVariants as next
use Rattle.lib_stage.specs.Asks.{frames_of, no_args}
use Rattle.lib_stage.specs.ServiceSteps.{Plan, ServiceHolds, nowhere, or_nowhere}
use Rattle.lib_stage.proofs.Laws.{Falls, IsAt, KeepsBy, is_plain, law_of_call, law_of_load, law_of_nowhere, plainly}
use Rattle.lib_fd.specs.declared.close.CloseStage.{CloseStage}
use Rattle.lib_fd.specs.declared.close.CloseStage.TheVariants as stage
use Rattle.lib_fd.specs.DescriptorStages.{close_at, close_next, closing, is_there, region_asked}
use Rattle.lib_fd.proofs.Closing.{dropping_keeps, end_keeps, entry_follows, entry_gives, past_keeps, pipe_entry_follows, pipe_entry_gives}
use Rattle.lib_fd.proofs.Closing.{pipe_keeps, table_follows}

-- the stage at which it stands at a step
data IsStep : CloseStage → Step → Type 0 where
  entered : IsStep stage.Entered step.Entered
  entry : (at : ℕ) → IsStep stage.Entry (step.DescriptorEntry at)
  dropping : (at : ℕ) → IsStep stage.Dropping (step.DroppingDescriptor at)
  pipe_entry : (at : ℕ) → IsStep stage.PipeEntry (step.Piped (pipe.PipeEntry at))
  dropping_end : (at : ℕ) → IsStep stage.DroppingEnd (step.Piped (pipe.DroppingEnd at))
  dropping_pipe : (at : ℕ) → IsStep stage.DroppingPipe (step.Piped (pipe.DroppingPipe at))

module _ (s : KernelState) (n fd : ℕ) (live : is_live (slot_at s n) ≡ true) where
  abbrev plan : CloseStage → Plan
  plan at = closing (record { fd = fd; at = at })

  -- it goes on lower
  falls : (at : CloseStage) (from : Step) → IsStep at from → (word : ℕ) → Falls (service.Close fd) from (close_next fd at word)
  falls _ _ entered word = by_test (not (nat_lt fd DESCRIPTORS) || not (is_there word))
    where
      by_test : (t : Bool) →
          Falls (service.Close fd) step.Entered (if t then next.Answer (negated E_INVAL) else next.GoOn (step.DescriptorEntry fd))
      by_test true = tt
      by_test false = omega arith
  falls _ _ (entry at) word = by_test (is_there word)
    where
      by_test : (t : Bool) → Falls (service.Close fd) (step.DescriptorEntry at)
          (if not t then next.Answer (negated E_INVAL) else next.GoOn (step.Piped (pipe.PipeEntry fd)))
      by_test true = omega arith
      by_test false = tt
  falls _ _ (dropping at) word = tt
  falls _ _ (pipe_entry at) word = by_test (is_there word)
    where
      by_test : (t : Bool) → Falls (service.Close fd) (step.Piped (pipe.PipeEntry at))
          (next.GoOn (if t then step.Piped (pipe.DroppingEnd fd) else step.DroppingDescriptor fd))
      by_test true = omega arith
      by_test false = omega arith
  falls _ _ (dropping_end at) word = omega arith
  falls _ _ (dropping_pipe at) word = tt

  here : (at : CloseStage) (from : Step) → IsStep at from → place_of (slot_at s n) ≡ place.InService (service.Close fd) from →
      is_plain (plan at).asks ≡ true → frames_of (plan at).asks ≤ frames_at (place.InService (service.Close fd) from) →
      IsAt s n (plan at) (service.Close fd) from
  here at from is stands plain few = record {
    stands = stands;
    live = live;
    numbered = refl;
    plain = plainly plain;
    goes_on = refl;
    falls = λ called. falls at from is (answer_of called);
    few = few;
  }

  -- ---- its first stage, by whether the number is one of a descriptor

  module _ (stands : place_of (slot_at s n) ≡ place.InService (service.Close fd) step.Entered) where
    asks_by : (t : Bool) → nat_lt fd DESCRIPTORS ≡ t →
        (plan stage.Entered).asks ≡ (if t then region_asked else ask.System SYS_GETENVID no_args)
    asks_by t is = ap (λ (c : Bool). if c then region_asked else ask.System SYS_GETENVID no_args) is

    here_by : (x : Ask) → (plan stage.Entered).asks ≡ x → is_plain x ≡ true → frames_of x ≤ 0 →
        IsAt s n (plan stage.Entered) (service.Close fd) step.Entered
    here_by x is plain few =
        here stage.Entered step.Entered entered stands (ap is_plain is ∙ plain) (subst (λ (y : Ask). frames_of y ≤ 0) (sym is) few)

    entered_holds : (t : Bool) → nat_lt fd DESCRIPTORS ≡ t → ServiceHolds s n (plan stage.Entered)
    entered_holds true is =
        law_of_load s n (plan stage.Entered) (service.Close fd) step.Entered (here_by region_asked (asks_by true is) refl (omega arith)) table_va
        (asks_by true is)
        (λ names a h. (record { word = table_word s n; is = table_gives h n }, table_follows s n fd stands (grind (arith, nat_tests)) names a h))
    entered_holds false is =
        law_of_call s n (plan stage.Entered) (service.Close fd) step.Entered
        (here_by (ask.System SYS_GETENVID no_args) (asks_by false is) refl (omega arith)) SYS_GETENVID no_args (asks_by false is) refl
        (subst (λ (z : CallStep Called). LivesOn z n (slot_at s n).registers) (sym (getenvid_is s n live no_args))
        (record { live = live; registers = refl; written = refl }))
        (λ order. subst (λ (z : CallStep Called). KeepsBy s n (plan stage.Entered) z) (sym (getenvid_is s n live no_args)) keeps)
      where
        keeps : KeepsBy s n (plan stage.Entered) (giving s (Answered (slot_at s n).id))
        keeps = rw is (past_keeps s n fd stands (grind (arith, nat_tests)))

  -- ---- each step

  -- one that close has not
  no_step : (at : Step) → place_of (slot_at s n) ≡ place.InService (service.Close fd) at →
      ((view : View) (k : Slot) (b : Born) → StandsAtStep view k b (service.Close fd) at → ⊥) → ServiceHolds s n nowhere
  no_step at stands none = law_of_nowhere s n (service.Close fd) at stands refl none

  piped_holds : (at : PipeStep) → place_of (slot_at s n) ≡ place.InService (service.Close fd) (step.Piped at) →
      ServiceHolds s n (or_nowhere closing (close_at fd (step.Piped at)))
  piped_holds (pipe.PipeEntry at) stands =
      law_of_load s n (plan stage.PipeEntry) (service.Close fd) (step.Piped (pipe.PipeEntry at))
      (here stage.PipeEntry (step.Piped (pipe.PipeEntry at)) (pipe_entry at) stands refl (omega arith)) (pipe_entry_va fd) refl
      (λ names a h. (
        record { word = pipe_word s n fd; is = pipe_entry_gives s n fd at stands names a h },
        pipe_entry_follows s n fd at stands names a h,
      ))
  piped_holds (pipe.DroppingEnd at) stands =
      law_of_call s n (plan stage.DroppingEnd) (service.Close fd) (step.Piped (pipe.DroppingEnd at))
      (here stage.DroppingEnd (step.Piped (pipe.DroppingEnd at)) (dropping_end at) stands refl (omega arith)) SYS_PAGE_UNMAP
      (0 ∷ descriptor_va fd ∷ 0 ∷ 0 ∷ 0 ∷ []) refl refl (drop_lives s n fd live)
      (subst (λ (z : CallStep Called). IsInOrder z.state → KeepsBy s n (plan stage.DroppingEnd) z) (sym (drop_is s n fd live))
      (end_keeps s n fd at stands))
  piped_holds (pipe.DroppingPipe at) stands =
      law_of_call s n (plan stage.DroppingPipe) (service.Close fd) (step.Piped (pipe.DroppingPipe at))
      (here stage.DroppingPipe (step.Piped (pipe.DroppingPipe at)) (dropping_pipe at) stands refl (omega arith)) SYS_PAGE_UNMAP
      (0 ∷ pipe_va fd ∷ 0 ∷ 0 ∷ 0 ∷ []) refl refl (pipe_drop_lives s n fd live)
      (subst (λ (z : CallStep Called). IsInOrder z.state → KeepsBy s n (plan stage.DroppingPipe) z) (sym (pipe_drop_is s n fd live))
      (pipe_keeps s n fd at stands))
  piped_holds (pipe.SecondEntry reading other) stands = no_step (step.Piped (pipe.SecondEntry reading other)) stands (λ view k b h. h)
  piped_holds (pipe.TakingReading reading writing) stands = no_step (step.Piped (pipe.TakingReading reading writing)) stands (λ view k b h. h)
  piped_holds (pipe.StoringReading reading writing) stands = no_step (step.Piped (pipe.StoringReading reading writing)) stands (λ view k b h. h)
  piped_holds (pipe.TakingWriting reading writing) stands = no_step (step.Piped (pipe.TakingWriting reading writing)) stands (λ view k b h. h)
  piped_holds (pipe.StoringWriting reading writing) stands = no_step (step.Piped (pipe.StoringWriting reading writing)) stands (λ view k b h. h)
  piped_holds (pipe.StoringEndMode reading writing) stands = no_step (step.Piped (pipe.StoringEndMode reading writing)) stands (λ view k b h. h)
  piped_holds (pipe.TakingPipe reading writing) stands = no_step (step.Piped (pipe.TakingPipe reading writing)) stands (λ view k b h. h)
  piped_holds (pipe.MappingPipe reading writing) stands = no_step (step.Piped (pipe.MappingPipe reading writing)) stands (λ view k b h. h)
  piped_holds (pipe.UndoingWriting reading writing error) stands = no_step (step.Piped (pipe.UndoingWriting reading writing error)) stands (λ view k b h. h)
  piped_holds (pipe.UndoingReading reading error) stands = no_step (step.Piped (pipe.UndoingReading reading error)) stands (λ view k b h. h)
  piped_holds pipe.SourcePipe stands = no_step (step.Piped pipe.SourcePipe) stands (λ view k b h. h)
  piped_holds pipe.MappingEnd stands = no_step (step.Piped pipe.MappingEnd) stands (λ view k b h. h)
  piped_holds pipe.EndMode stands = no_step (step.Piped pipe.EndMode) stands (λ view k b h. h)
  piped_holds pipe.TakingBytes stands = no_step (step.Piped pipe.TakingBytes) stands (λ view k b h. h)
  piped_holds (pipe.Locking done id runs) stands = no_step (step.Piped (pipe.Locking done id runs)) stands (λ view k b h. h)
  piped_holds (pipe.LockPausing done) stands = no_step (step.Piped (pipe.LockPausing done)) stands (λ view k b h. h)
  piped_holds (pipe.ReadFrom done id runs) stands = no_step (step.Piped (pipe.ReadFrom done id runs)) stands (λ view k b h. h)
  piped_holds (pipe.ReadTo done id runs from) stands = no_step (step.Piped (pipe.ReadTo done id runs from)) stands (λ view k b h. h)
  piped_holds (pipe.LoadingHeld done from) stands = no_step (step.Piped (pipe.LoadingHeld done from)) stands (λ view k b h. h)
  piped_holds (pipe.KeepingHeld done from byte) stands = no_step (step.Piped (pipe.KeepingHeld done from byte)) stands (λ view k b h. h)
  piped_holds (pipe.TakingHeld done from) stands = no_step (step.Piped (pipe.TakingHeld done from)) stands (λ view k b h. h)
  piped_holds (pipe.LoadingOwn done to) stands = no_step (step.Piped (pipe.LoadingOwn done to)) stands (λ view k b h. h)
  piped_holds (pipe.PuttingOwn done to byte) stands = no_step (step.Piped (pipe.PuttingOwn done to byte)) stands (λ view k b h. h)
  piped_holds (pipe.Putting done to) stands = no_step (step.Piped (pipe.Putting done to)) stands (λ view k b h. h)
  piped_holds (pipe.UnlockingMoved done) stands = no_step (step.Piped (pipe.UnlockingMoved done)) stands (λ view k b h. h)
  piped_holds (pipe.UnlockingEnd done) stands = no_step (step.Piped (pipe.UnlockingEnd done)) stands (λ view k b h. h)
  piped_holds (pipe.UnlockingTest done id runs) stands = no_step (step.Piped (pipe.UnlockingTest done id runs)) stands (λ view k b h. h)
  piped_holds (pipe.TestIdentifying done) stands = no_step (step.Piped (pipe.TestIdentifying done)) stands (λ view k b h. h)
  piped_holds (pipe.TestRuns done id) stands = no_step (step.Piped (pipe.TestRuns done id)) stands (λ view k b h. h)
  piped_holds (pipe.TestAgain done id runs) stands = no_step (step.Piped (pipe.TestAgain done id runs)) stands (λ view k b h. h)
  piped_holds (pipe.TestOwn done id runs) stands = no_step (step.Piped (pipe.TestOwn done id runs)) stands (λ view k b h. h)
  piped_holds (pipe.TestOther done id runs own) stands = no_step (step.Piped (pipe.TestOther done id runs own)) stands (λ view k b h. h)
  piped_holds (pipe.TestDescriptor done id runs) stands = no_step (step.Piped (pipe.TestDescriptor done id runs)) stands (λ view k b h. h)
  piped_holds (pipe.TestDescriptorCount done id runs word) stands = no_step (step.Piped (pipe.TestDescriptorCount done id runs word)) stands (λ view k b h. h)
  piped_holds (pipe.TestPipe done id runs count) stands = no_step (step.Piped (pipe.TestPipe done id runs count)) stands (λ view k b h. h)
  piped_holds (pipe.TestPipeCount done id runs count word) stands = no_step (step.Piped (pipe.TestPipeCount done id runs count word)) stands (λ view k b h. h)
  piped_holds (pipe.TestRunsAgain done id runs closed) stands = no_step (step.Piped (pipe.TestRunsAgain done id runs closed)) stands (λ view k b h. h)
  piped_holds (pipe.TestPausing done) stands = no_step (step.Piped (pipe.TestPausing done)) stands (λ view k b h. h)
  piped_holds pipe.StatLocking stands = no_step (step.Piped pipe.StatLocking) stands (λ view k b h. h)
  piped_holds pipe.StatPausing stands = no_step (step.Piped pipe.StatPausing) stands (λ view k b h. h)
  piped_holds pipe.StatFrom stands = no_step (step.Piped pipe.StatFrom) stands (λ view k b h. h)
  piped_holds (pipe.StatTo from) stands = no_step (step.Piped (pipe.StatTo from)) stands (λ view k b h. h)
  piped_holds (pipe.StatUnlocking held) stands = no_step (step.Piped (pipe.StatUnlocking held)) stands (λ view k b h. h)

  pub close_holds : (at : Step) → place_of (slot_at s n) ≡ place.InService (service.Close fd) at →
      ServiceHolds s n (or_nowhere closing (close_at fd at))
  close_holds step.Entered stands = entered_holds stands (nat_lt fd DESCRIPTORS) refl
  close_holds (step.DescriptorEntry at) stands =
      law_of_load s n (plan stage.Entry) (service.Close fd) (step.DescriptorEntry at)
      (here stage.Entry (step.DescriptorEntry at) (entry at) stands refl (omega arith)) (entry_va fd) refl
      (λ names a h. (
        record { word = page_word s n fd; is = entry_gives s n fd at stands names a h },
        entry_follows s n fd at stands names a h,
      ))
  close_holds (step.DroppingDescriptor at) stands =
      law_of_call s n (plan stage.Dropping) (service.Close fd) (step.DroppingDescriptor at)
      (here stage.Dropping (step.DroppingDescriptor at) (dropping at) stands refl (omega arith)) SYS_PAGE_UNMAP
      (0 ∷ descriptor_va fd ∷ 0 ∷ 0 ∷ 0 ∷ []) refl refl (drop_lives s n fd live)
      (subst (λ (z : CallStep Called). IsInOrder z.state → KeepsBy s n (plan stage.Dropping) z) (sym (drop_is s n fd live))
      (dropping_keeps s n fd at stands))
  close_holds (step.Piped at) stands = piped_holds at stands
  close_holds (step.Trying perm) stands = no_step (step.Trying perm) stands (λ view k b h. h)
  close_holds (step.Pausing perm) stands = no_step (step.Pausing perm) stands (λ view k b h. h)
  close_holds step.ReadingRegion stands = no_step step.ReadingRegion stands (λ view k b h. h)
  close_holds step.ReadingEntry stands = no_step step.ReadingEntry stands (λ view k b h. h)
  close_holds (step.Receiving id) stands = no_step (step.Receiving id) stands (λ view k b h. h)
  close_holds (step.ReadingValue id) stands = no_step (step.ReadingValue id) stands (λ view k b h. h)
  close_holds (step.ReadingSender id value) stands = no_step (step.ReadingSender id value) stands (λ view k b h. h)
  close_holds (step.ReadingPerm id value sender) stands = no_step (step.ReadingPerm id value sender) stands (λ view k b h. h)
  close_holds (step.ForkRegion child region) stands = no_step (step.ForkRegion child region) stands (λ view k b h. h)
  close_holds (step.ForkEntry child page) stands = no_step (step.ForkEntry child page) stands (λ view k b h. h)
  close_holds (step.MapChild child page perm) stands = no_step (step.MapChild child page perm) stands (λ view k b h. h)
  close_holds (step.Remap child page) stands = no_step (step.Remap child page) stands (λ view k b h. h)
  close_holds (step.ChildStack child) stands = no_step (step.ChildStack child) stands (λ view k b h. h)
  close_holds (step.ChildUpcall child) stands = no_step (step.ChildUpcall child) stands (λ view k b h. h)
  close_holds (step.ChildRuns child) stands = no_step (step.ChildRuns child) stands (λ view k b h. h)
  close_holds (step.Undoing child error) stands = no_step (step.Undoing child error) stands (λ view k b h. h)
  close_holds step.TargetEntry stands = no_step step.TargetEntry stands (λ view k b h. h)
  close_holds step.MappingDescriptor stands = no_step step.MappingDescriptor stands (λ view k b h. h)
  close_holds step.Ending stands = no_step step.Ending stands (λ view k b h. h)
  close_holds step.ReadingDevice stands = no_step step.ReadingDevice stands (λ view k b h. h)
  close_holds (step.BufferRegion done word) stands = no_step (step.BufferRegion done word) stands (λ view k b h. h)
  close_holds (step.BufferEntry done word) stands = no_step (step.BufferEntry done word) stands (λ view k b h. h)
  close_holds step.TakingPage stands = no_step step.TakingPage stands (λ view k b h. h)
  close_holds (step.Gathering done) stands = no_step (step.Gathering done) stands (λ view k b h. h)
  close_holds (step.Keeping done word left) stands = no_step (step.Keeping done word left) stands (λ view k b h. h)
  close_holds step.Printing stands = no_step step.Printing stands (λ view k b h. h)
  close_holds step.Releasing stands = no_step step.Releasing stands (λ view k b h. h)
  close_holds step.Getting stands = no_step step.Getting stands (λ view k b h. h)
  close_holds (step.Delivering done word) stands = no_step (step.Delivering done word) stands (λ view k b h. h)
  close_holds (step.Faulting done word) stands = no_step (step.Faulting done word) stands (λ view k b h. h)
  close_holds (step.Asking own) stands = no_step (step.Asking own) stands (λ view k b h. h)
  close_holds (step.Awaiting own) stands = no_step (step.Awaiting own) stands (λ view k b h. h)
  close_holds (step.ReadingReply own) stands = no_step (step.ReadingReply own) stands (λ view k b h. h)
  close_holds step.Identifying stands = no_step step.Identifying stands (λ view k b h. h)
  close_holds (step.Clearing own) stands = no_step (step.Clearing own) stands (λ view k b h. h)
  close_holds step.ReadingMode stands = no_step step.ReadingMode stands (λ view k b h. h)
  close_holds step.ReadingNumber stands = no_step step.ReadingNumber stands (λ view k b h. h)
  close_holds (step.StoringNumber own) stands = no_step (step.StoringNumber own) stands (λ view k b h. h)
  close_holds step.StoringCount stands = no_step step.StoringCount stands (λ view k b h. h)
  close_holds step.TakingRequest stands = no_step step.TakingRequest stands (λ view k b h. h)
  close_holds (step.GatheringBytes done start) stands = no_step (step.GatheringBytes done start) stands (λ view k b h. h)
  close_holds (step.KeepingBytes done word left start) stands = no_step (step.KeepingBytes done word left start) stands (λ view k b h. h)
  close_holds step.FreeRegion stands = no_step step.FreeRegion stands (λ view k b h. h)
  close_holds (step.FreeEntry kept) stands = no_step (step.FreeEntry kept) stands (λ view k b h. h)
  close_holds (step.StoringMode kept) stands = no_step (step.StoringMode kept) stands (λ view k b h. h)
  close_holds (step.OpenIdentifying kept) stands = no_step (step.OpenIdentifying kept) stands (λ view k b h. h)
  close_holds (step.OpenAsking own kept) stands = no_step (step.OpenAsking own kept) stands (λ view k b h. h)
  close_holds (step.OpenPausing own kept) stands = no_step (step.OpenPausing own kept) stands (λ view k b h. h)
  close_holds (step.OpenAwaiting own kept) stands = no_step (step.OpenAwaiting own kept) stands (λ view k b h. h)
  close_holds (step.OpenClearing own kept) stands = no_step (step.OpenClearing own kept) stands (λ view k b h. h)
  close_holds (step.ReadingOpened own kept) stands = no_step (step.ReadingOpened own kept) stands (λ view k b h. h)
  close_holds (step.Spawning at) stands = no_step (step.Spawning at) stands (λ view k b h. h)
  close_holds (step.CountingReply own) stands =
      no_step (step.CountingReply own) stands (λ view k b h. let contradiction : false ≡ true = h.hands in cc)
  close_holds (step.FileRegion done count) stands =
      no_step (step.FileRegion done count) stands (λ view k b h. let contradiction : false ≡ true = h.hands in cc)
  close_holds (step.FileEntry done count) stands =
      no_step (step.FileEntry done count) stands (λ view k b h. let contradiction : false ≡ true = h.0.hands in cc)
  close_holds (step.LoadingBytes done count) stands =
      no_step (step.LoadingBytes done count) stands (λ view k b h. let contradiction : false ≡ true = h.has.hands in cc)
  close_holds (step.LoadingRest done count first) stands =
      no_step (step.LoadingRest done count first) stands (λ view k b h. let contradiction : false ≡ true = h.has.hands in cc)
  close_holds (step.PuttingBytes done count word) stands =
      no_step (step.PuttingBytes done count word) stands (λ view k b h. let contradiction : false ≡ true = h.has.hands in cc)
  close_holds (step.FileFaulting done count) stands =
      no_step (step.FileFaulting done count) stands (λ view k b h. let contradiction : false ≡ true = h.0.hands in cc)
  close_holds (step.Returning answer) stands = no_step (step.Returning answer) stands (λ view k b h. let contradiction : false ≡ true = h.goes in cc)
