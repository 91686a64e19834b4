-- Where an environment stands between two steps, as it is spelled in its registers and in the twelve words that it keeps
-- for the library. Of these the first is 0 where no service runs, and else the service's number and 1; the second tells how
-- far the service is, and the ten behind that what it has found out. What the program gave stands in its registers, which
-- nobody changes until the service answers, but for EAX. Where ESP lies on the stack of the handler of page faults, that runs:
-- EIP tells how far it is, and the other registers what it has found out, since the frame of the fault keeps those of the
-- program; the words are left as they are. (The form is this system's own.)
use Rattle.std.specs.Prelude.{ℕ, ◌+◌, ◌-◌, ◌%◌, ◌==◌, ◌&&◌, nat_le, nat_lt, Bool, min, List, [], ◌∷◌, get_or, if◌then◌else◌}
use Rattle.jos_base.specs.declared.numbers.TheConstants.{UXSTACKTOP}
use Rattle.jos_base.specs.declared.registers.Regs.{Regs}
use Rattle.jos_base.specs.Environments.{Slot}
use Rattle.lib_os.specs.declared.place.HandlerStep.{HandlerStep}
use Rattle.lib_os.specs.declared.place.HandlerStep.TheVariants as handler
use Rattle.lib_os.specs.declared.place.PipeStep.{PipeStep}
use Rattle.lib_os.specs.declared.place.PipeStep.TheVariants as pipe
use Rattle.lib_os.specs.declared.place.Step.{Step}
use Rattle.lib_os.specs.declared.place.Step.TheVariants as step
use Rattle.lib_os.specs.declared.place.Place.{Place}
use Rattle.lib_os.specs.declared.place.Place.TheVariants as place
use Rattle.lib_os.specs.declared.numbers.TheConstants.{HANDLER_READING_ERROR, HANDLER_LOOKING, HANDLER_TAKING}
use Rattle.lib_os.specs.declared.numbers.TheConstants.{HANDLER_LOADING, HANDLER_STORING, HANDLER_MAPPING_OVER}
use Rattle.lib_os.specs.declared.numbers.TheConstants.{HANDLER_UNMAPPING, HANDLER_RESTORING, HANDLER_READING_IP}
use Rattle.lib_os.specs.declared.numbers.TheConstants.{HANDLER_UNSETTING, HANDLER_TOUCHING, PGFAULT_UPCALL}
use Rattle.lib_os.specs.declared.numbers.TheConstants.{PAGE_WORDS, SERVICES, UXSTACK}
use Rattle.lib_os.specs.declared.numbers.TheConstants.{STEP_ENTERED, STEP_TRYING, STEP_PAUSING, STEP_READING_REGION}
use Rattle.lib_os.specs.declared.numbers.TheConstants.{STEP_READING_ENTRY, STEP_RECEIVING, STEP_READING_VALUE}
use Rattle.lib_os.specs.declared.numbers.TheConstants.{STEP_READING_SENDER, STEP_READING_PERM, STEP_FORK_REGION}
use Rattle.lib_os.specs.declared.numbers.TheConstants.{STEP_FORK_ENTRY, STEP_MAP_CHILD, STEP_REMAP, STEP_CHILD_STACK}
use Rattle.lib_os.specs.declared.numbers.TheConstants.{STEP_CHILD_UPCALL, STEP_CHILD_RUNS, STEP_UNDOING, STEP_DESCRIPTOR_ENTRY}
use Rattle.lib_os.specs.declared.numbers.TheConstants.{STEP_TARGET_ENTRY, STEP_DROPPING_DESCRIPTOR, STEP_MAPPING_DESCRIPTOR, STEP_ENDING}
use Rattle.lib_os.specs.declared.numbers.TheConstants.{STEP_READING_DEVICE, STEP_BUFFER_REGION, STEP_BUFFER_ENTRY, STEP_TAKING_PAGE}
use Rattle.lib_os.specs.declared.numbers.TheConstants.{STEP_GATHERING, STEP_KEEPING, STEP_PRINTING, STEP_RELEASING, STEP_GETTING}
use Rattle.lib_os.specs.declared.numbers.TheConstants.{STEP_DELIVERING, STEP_FAULTING, STEP_ASKING, STEP_AWAITING, STEP_READING_REPLY}
use Rattle.lib_os.specs.declared.numbers.TheConstants.{STEP_IDENTIFYING, STEP_CLEARING, STEP_READING_MODE, STEP_READING_NUMBER}
use Rattle.lib_os.specs.declared.numbers.TheConstants.{STEP_STORING_NUMBER, STEP_STORING_COUNT, STEP_TAKING_REQUEST, STEP_GATHERING_BYTES}
use Rattle.lib_os.specs.declared.numbers.TheConstants.{STEP_KEEPING_BYTES, STEP_COUNTING_REPLY, STEP_FILE_REGION, STEP_FILE_ENTRY, STEP_LOADING_BYTES}
use Rattle.lib_os.specs.declared.numbers.TheConstants.{STEP_LOADING_REST, STEP_PUTTING_BYTES, STEP_FILE_FAULTING, STEP_RETURNING, STEP_FREE_REGION}
use Rattle.lib_os.specs.declared.numbers.TheConstants.{STEP_FREE_ENTRY, STEP_STORING_MODE, STEP_OPEN_IDENTIFYING, STEP_OPEN_ASKING, STEP_OPEN_PAUSING}
use Rattle.lib_os.specs.declared.numbers.TheConstants.{STEP_OPEN_AWAITING, STEP_OPEN_CLEARING, STEP_READING_OPENED}
use Rattle.lib_os.specs.declared.pipe_numbers.TheConstants.{STEP_PIPE_SECOND_ENTRY, STEP_PIPE_TAKING_READING, STEP_PIPE_STORING_READING}
use Rattle.lib_os.specs.declared.pipe_numbers.TheConstants.{STEP_PIPE_TAKING_WRITING, STEP_PIPE_STORING_WRITING, STEP_PIPE_STORING_END_MODE}
use Rattle.lib_os.specs.declared.pipe_numbers.TheConstants.{STEP_PIPE_TAKING_PIPE, STEP_PIPE_MAPPING_PIPE, STEP_PIPE_UNDOING_WRITING}
use Rattle.lib_os.specs.declared.pipe_numbers.TheConstants.{STEP_PIPE_UNDOING_READING, STEP_PIPE_ENTRY, STEP_PIPE_DROPPING_END}
use Rattle.lib_os.specs.declared.pipe_numbers.TheConstants.{STEP_PIPE_DROPPING_PIPE, STEP_PIPE_SOURCE_PIPE, STEP_PIPE_MAPPING_END}
use Rattle.lib_os.specs.declared.pipe_numbers.TheConstants.{STEP_PIPE_END_MODE, STEP_PIPE_TAKING_BYTES, STEP_PIPE_LOCKING, STEP_PIPE_LOCK_PAUSING}
use Rattle.lib_os.specs.declared.pipe_numbers.TheConstants.{STEP_PIPE_READ_FROM, STEP_PIPE_READ_TO, STEP_PIPE_LOADING_HELD}
use Rattle.lib_os.specs.declared.pipe_numbers.TheConstants.{STEP_PIPE_KEEPING_HELD, STEP_PIPE_TAKING_HELD, STEP_PIPE_LOADING_OWN}
use Rattle.lib_os.specs.declared.pipe_numbers.TheConstants.{STEP_PIPE_PUTTING_OWN, STEP_PIPE_PUTTING, STEP_PIPE_UNLOCKING_MOVED}
use Rattle.lib_os.specs.declared.pipe_numbers.TheConstants.{STEP_PIPE_UNLOCKING_END, STEP_PIPE_UNLOCKING_TEST, STEP_PIPE_TEST_IDENTIFYING}
use Rattle.lib_os.specs.declared.pipe_numbers.TheConstants.{STEP_PIPE_TEST_RUNS, STEP_PIPE_TEST_OWN, STEP_PIPE_TEST_OTHER}
use Rattle.lib_os.specs.declared.pipe_numbers.TheConstants.{STEP_PIPE_TEST_DESCRIPTOR, STEP_PIPE_TEST_DESCRIPTOR_COUNT, STEP_PIPE_TEST_PIPE}
use Rattle.lib_os.specs.declared.pipe_numbers.TheConstants.{STEP_PIPE_TEST_PIPE_COUNT, STEP_PIPE_TEST_RUNS_AGAIN, STEP_PIPE_TEST_PAUSING}
use Rattle.lib_os.specs.declared.pipe_numbers.TheConstants.{STEP_PIPE_STAT_LOCKING, STEP_PIPE_STAT_PAUSING, STEP_PIPE_STAT_FROM}
use Rattle.lib_os.specs.declared.pipe_numbers.TheConstants.{STEP_PIPE_STAT_TO, STEP_PIPE_STAT_UNLOCKING, STEP_PIPE_TEST_AGAIN}
use Rattle.lib_os.specs.declared.spawn_numbers.TheConstants.{STEP_SPAWN_TAKING_GIVEN}
use Rattle.lib_os.specs.Services.{service_of}
use Rattle.lib_os.specs.ServiceWords.{step_word, first_word, second_word, third_word, fourth_word, fifth_word}
use Rattle.lib_os.specs.SpawnPlaces.{spawn_step_in, spawn_words_at}

-- ---- places

-- the first of the words
abbrev pub service_word : List ℕ → ℕ
service_word words = get_or words 0 0

-- how far a service is that asks the file server, from there on; or fork, where it undoes what it did
abbrev pub request_step_in : List ℕ → Step
request_step_in words =
    let n = step_word words in
    if n == STEP_ASKING then step.Asking (first_word words)
    else if n == STEP_AWAITING then step.Awaiting (first_word words)
    else if n == STEP_READING_REPLY then step.ReadingReply (first_word words)
    else if n == STEP_IDENTIFYING then step.Identifying
    else if n == STEP_CLEARING then step.Clearing (first_word words)
    else if n == STEP_READING_MODE then step.ReadingMode
    else if n == STEP_READING_NUMBER then step.ReadingNumber
    else if n == STEP_STORING_NUMBER then step.StoringNumber (first_word words)
    else if n == STEP_STORING_COUNT then step.StoringCount
    else if n == STEP_TAKING_REQUEST then step.TakingRequest
    else if n == STEP_GATHERING_BYTES then step.GatheringBytes (first_word words) (second_word words)
    else if n == STEP_KEEPING_BYTES then step.KeepingBytes (first_word words) (second_word words) (third_word words) (fourth_word words)
    else if n == STEP_COUNTING_REPLY then step.CountingReply (first_word words)
    else if n == STEP_FILE_REGION then step.FileRegion (first_word words) (second_word words)
    else if n == STEP_FILE_ENTRY then step.FileEntry (first_word words) (second_word words)
    else if n == STEP_LOADING_BYTES then step.LoadingBytes (first_word words) (second_word words)
    else if n == STEP_LOADING_REST then step.LoadingRest (first_word words) (second_word words) (third_word words)
    else if n == STEP_PUTTING_BYTES then step.PuttingBytes (first_word words) (second_word words) (third_word words)
    else if n == STEP_FILE_FAULTING then step.FileFaulting (first_word words) (second_word words)
    else if n == STEP_RETURNING then step.Returning (first_word words)
    else if n == STEP_FREE_REGION then step.FreeRegion
    else if n == STEP_FREE_ENTRY then step.FreeEntry (first_word words)
    else if n == STEP_STORING_MODE then step.StoringMode (first_word words)
    else if n == STEP_OPEN_IDENTIFYING then step.OpenIdentifying (first_word words)
    else if n == STEP_OPEN_ASKING then step.OpenAsking (first_word words) (second_word words)
    else if n == STEP_OPEN_PAUSING then step.OpenPausing (first_word words) (second_word words)
    else if n == STEP_OPEN_AWAITING then step.OpenAwaiting (first_word words) (second_word words)
    else if n == STEP_OPEN_CLEARING then step.OpenClearing (first_word words) (second_word words)
    else if n == STEP_READING_OPENED then step.ReadingOpened (first_word words) (second_word words)
    else step.Undoing (first_word words) (second_word words)

-- how far a service is that moves bytes through a pipe, or tells of one
unfoldable pub end_step_in : List ℕ → PipeStep
end_step_in words =
    let n = step_word words in
    if n == STEP_PIPE_END_MODE then pipe.EndMode
    else if n == STEP_PIPE_TAKING_BYTES then pipe.TakingBytes
    else if n == STEP_PIPE_LOCKING then pipe.Locking (first_word words) (second_word words) (third_word words)
    else if n == STEP_PIPE_LOCK_PAUSING then pipe.LockPausing (first_word words)
    else if n == STEP_PIPE_READ_FROM then pipe.ReadFrom (first_word words) (second_word words) (third_word words)
    else if n == STEP_PIPE_READ_TO then pipe.ReadTo (first_word words) (second_word words) (third_word words) (fourth_word words)
    else if n == STEP_PIPE_LOADING_HELD then pipe.LoadingHeld (first_word words) (second_word words)
    else if n == STEP_PIPE_KEEPING_HELD then pipe.KeepingHeld (first_word words) (second_word words) (third_word words)
    else if n == STEP_PIPE_TAKING_HELD then pipe.TakingHeld (first_word words) (second_word words)
    else if n == STEP_PIPE_LOADING_OWN then pipe.LoadingOwn (first_word words) (second_word words)
    else if n == STEP_PIPE_PUTTING_OWN then pipe.PuttingOwn (first_word words) (second_word words) (third_word words)
    else if n == STEP_PIPE_PUTTING then pipe.Putting (first_word words) (second_word words)
    else if n == STEP_PIPE_UNLOCKING_MOVED then pipe.UnlockingMoved (first_word words)
    else if n == STEP_PIPE_UNLOCKING_END then pipe.UnlockingEnd (first_word words)
    else if n == STEP_PIPE_UNLOCKING_TEST then pipe.UnlockingTest (first_word words) (second_word words) (third_word words)
    else if n == STEP_PIPE_TEST_IDENTIFYING then pipe.TestIdentifying (first_word words)
    else if n == STEP_PIPE_TEST_RUNS then pipe.TestRuns (first_word words) (second_word words)
    else if n == STEP_PIPE_TEST_AGAIN then pipe.TestAgain (first_word words) (second_word words) (third_word words)
    else if n == STEP_PIPE_TEST_OWN then pipe.TestOwn (first_word words) (second_word words) (third_word words)
    else if n == STEP_PIPE_TEST_OTHER then pipe.TestOther (first_word words) (second_word words) (third_word words) (fourth_word words)
    else if n == STEP_PIPE_TEST_DESCRIPTOR then pipe.TestDescriptor (first_word words) (second_word words) (third_word words)
    else if n == STEP_PIPE_TEST_DESCRIPTOR_COUNT
    then pipe.TestDescriptorCount (first_word words) (second_word words) (third_word words) (fourth_word words)
    else if n == STEP_PIPE_TEST_PIPE then pipe.TestPipe (first_word words) (second_word words) (third_word words) (fourth_word words)
    else if n == STEP_PIPE_TEST_PIPE_COUNT
    then pipe.TestPipeCount (first_word words) (second_word words) (third_word words) (fourth_word words) (fifth_word words)
    else if n == STEP_PIPE_TEST_RUNS_AGAIN then pipe.TestRunsAgain (first_word words) (second_word words) (third_word words) (fourth_word words)
    else if n == STEP_PIPE_TEST_PAUSING then pipe.TestPausing (first_word words)
    else if n == STEP_PIPE_STAT_LOCKING then pipe.StatLocking
    else if n == STEP_PIPE_STAT_PAUSING then pipe.StatPausing
    else if n == STEP_PIPE_STAT_FROM then pipe.StatFrom
    else if n == STEP_PIPE_STAT_TO then pipe.StatTo (first_word words)
    else pipe.StatUnlocking (first_word words)

-- and one that makes or drops an end
unfoldable pub pipe_step_in : List ℕ → PipeStep
pipe_step_in words =
    let n = step_word words in
    if n == STEP_PIPE_SECOND_ENTRY then pipe.SecondEntry (first_word words) (second_word words)
    else if n == STEP_PIPE_TAKING_READING then pipe.TakingReading (first_word words) (second_word words)
    else if n == STEP_PIPE_STORING_READING then pipe.StoringReading (first_word words) (second_word words)
    else if n == STEP_PIPE_TAKING_WRITING then pipe.TakingWriting (first_word words) (second_word words)
    else if n == STEP_PIPE_STORING_WRITING then pipe.StoringWriting (first_word words) (second_word words)
    else if n == STEP_PIPE_STORING_END_MODE then pipe.StoringEndMode (first_word words) (second_word words)
    else if n == STEP_PIPE_TAKING_PIPE then pipe.TakingPipe (first_word words) (second_word words)
    else if n == STEP_PIPE_MAPPING_PIPE then pipe.MappingPipe (first_word words) (second_word words)
    else if n == STEP_PIPE_UNDOING_WRITING then pipe.UndoingWriting (first_word words) (second_word words) (third_word words)
    else if n == STEP_PIPE_UNDOING_READING then pipe.UndoingReading (first_word words) (second_word words)
    else if n == STEP_PIPE_ENTRY then pipe.PipeEntry (first_word words)
    else if n == STEP_PIPE_DROPPING_END then pipe.DroppingEnd (first_word words)
    else if n == STEP_PIPE_DROPPING_PIPE then pipe.DroppingPipe (first_word words)
    else if n == STEP_PIPE_SOURCE_PIPE then pipe.SourcePipe
    else if n == STEP_PIPE_MAPPING_END then pipe.MappingEnd
    else end_step_in words

-- how far a service is
unfoldable pub step_in : List ℕ → Step
step_in words =
    let n = step_word words in
    if nat_le STEP_SPAWN_TAKING_GIVEN n then step.Spawning (spawn_step_in words)
    else if nat_le STEP_PIPE_SECOND_ENTRY n then step.Piped (pipe_step_in words)
    else if n == STEP_ENTERED then step.Entered
    else if n == STEP_TRYING then step.Trying (first_word words)
    else if n == STEP_PAUSING then step.Pausing (first_word words)
    else if n == STEP_READING_REGION then step.ReadingRegion
    else if n == STEP_READING_ENTRY then step.ReadingEntry
    else if n == STEP_RECEIVING then step.Receiving (first_word words)
    else if n == STEP_READING_VALUE then step.ReadingValue (first_word words)
    else if n == STEP_READING_SENDER then step.ReadingSender (first_word words) (second_word words)
    else if n == STEP_READING_PERM then step.ReadingPerm (first_word words) (second_word words) (third_word words)
    else if n == STEP_FORK_REGION then step.ForkRegion (first_word words) (second_word words)
    else if n == STEP_FORK_ENTRY then step.ForkEntry (first_word words) (second_word words)
    else if n == STEP_MAP_CHILD then step.MapChild (first_word words) (second_word words) (third_word words)
    else if n == STEP_REMAP then step.Remap (first_word words) (second_word words)
    else if n == STEP_CHILD_STACK then step.ChildStack (first_word words)
    else if n == STEP_CHILD_UPCALL then step.ChildUpcall (first_word words)
    else if n == STEP_CHILD_RUNS then step.ChildRuns (first_word words)
    else if n == STEP_DESCRIPTOR_ENTRY then step.DescriptorEntry (first_word words)
    else if n == STEP_TARGET_ENTRY then step.TargetEntry
    else if n == STEP_DROPPING_DESCRIPTOR then step.DroppingDescriptor (first_word words)
    else if n == STEP_MAPPING_DESCRIPTOR then step.MappingDescriptor
    else if n == STEP_ENDING then step.Ending
    else if n == STEP_READING_DEVICE then step.ReadingDevice
    else if n == STEP_BUFFER_REGION then step.BufferRegion (first_word words) (second_word words)
    else if n == STEP_BUFFER_ENTRY then step.BufferEntry (first_word words) (second_word words)
    else if n == STEP_TAKING_PAGE then step.TakingPage
    else if n == STEP_GATHERING then step.Gathering (first_word words)
    else if n == STEP_KEEPING then step.Keeping (first_word words) (second_word words) (third_word words)
    else if n == STEP_PRINTING then step.Printing
    else if n == STEP_RELEASING then step.Releasing
    else if n == STEP_GETTING then step.Getting
    else if n == STEP_DELIVERING then step.Delivering (first_word words) (second_word words)
    else if n == STEP_FAULTING then step.Faulting (first_word words) (second_word words)
    else request_step_in words

-- ESP lies on the stack of the handler of page faults
abbrev pub is_handlers : ℕ → Bool
is_handlers esp = nat_le UXSTACK esp && nat_lt esp UXSTACKTOP

unfoldable pub handler_step_in : Regs → HandlerStep
handler_step_in regs =
    if regs.eip == PGFAULT_UPCALL then handler.Entered
    else if regs.eip == HANDLER_READING_ERROR then handler.ReadingError regs.ebx
    else if regs.eip == HANDLER_LOOKING then handler.Looking regs.ebx
    else if regs.eip == HANDLER_TAKING then handler.Taking regs.ebx
    else if regs.eip == HANDLER_LOADING then handler.Loading regs.ebx (regs.ecx % PAGE_WORDS)
    else if regs.eip == HANDLER_STORING then handler.Storing regs.ebx (regs.ecx % PAGE_WORDS) regs.edx
    else if regs.eip == HANDLER_MAPPING_OVER then handler.MappingOver regs.ebx
    else if regs.eip == HANDLER_UNMAPPING then handler.Unmapping regs.ebx
    else if regs.eip == HANDLER_RESTORING then handler.Restoring
    else if regs.eip == HANDLER_READING_IP then handler.ReadingIp regs.ebx regs.ecx
    else if regs.eip == HANDLER_UNSETTING then handler.Unsetting regs.ebx regs.ecx regs.edx
    else handler.Touching regs.ebx regs.ecx regs.edx

unfoldable pub place_in_words : Regs → List ℕ → Place
place_in_words regs words =
    if is_handlers regs.esp then place.InHandler (handler_step_in regs)
    else if service_word words == 0 then place.Guest
    else place.InService (service_of (record regs { eax = service_word words - 1 })) (step_in words)

-- where the environment of a slot stands
abbrev pub place_of : Slot → Place
place_of slot = place_in_words slot.registers slot.extra

-- ---- their words

abbrev pub place_words : ℕ → ℕ → ℕ → ℕ → ℕ → List ℕ
place_words number n first second third =
    (number + 1) ∷ n ∷ first ∷ second ∷ third ∷ 0 ∷ 0 ∷ 0 ∷ 0 ∷ 0 ∷ 0 ∷ 0 ∷ []

abbrev pub pipe_place_words : ℕ → ℕ → ℕ → ℕ → ℕ → ℕ → ℕ → List ℕ
pipe_place_words number n first second third fourth fifth =
    (number + 1) ∷ n ∷ first ∷ second ∷ third ∷ fourth ∷ fifth ∷ 0 ∷ 0 ∷ 0 ∷ 0 ∷ 0 ∷ []

unfoldable pub pipe_words_at : ℕ → PipeStep → List ℕ
pipe_words_at number (pipe.SecondEntry reading fd) = pipe_place_words number STEP_PIPE_SECOND_ENTRY reading fd 0 0 0
pipe_words_at number (pipe.TakingReading reading writing) = pipe_place_words number STEP_PIPE_TAKING_READING reading writing 0 0 0
pipe_words_at number (pipe.StoringReading reading writing) = pipe_place_words number STEP_PIPE_STORING_READING reading writing 0 0 0
pipe_words_at number (pipe.TakingWriting reading writing) = pipe_place_words number STEP_PIPE_TAKING_WRITING reading writing 0 0 0
pipe_words_at number (pipe.StoringWriting reading writing) = pipe_place_words number STEP_PIPE_STORING_WRITING reading writing 0 0 0
pipe_words_at number (pipe.StoringEndMode reading writing) = pipe_place_words number STEP_PIPE_STORING_END_MODE reading writing 0 0 0
pipe_words_at number (pipe.TakingPipe reading writing) = pipe_place_words number STEP_PIPE_TAKING_PIPE reading writing 0 0 0
pipe_words_at number (pipe.MappingPipe reading writing) = pipe_place_words number STEP_PIPE_MAPPING_PIPE reading writing 0 0 0
pipe_words_at number (pipe.UndoingWriting reading writing error) = pipe_place_words number STEP_PIPE_UNDOING_WRITING reading writing error 0 0
pipe_words_at number (pipe.UndoingReading reading error) = pipe_place_words number STEP_PIPE_UNDOING_READING reading error 0 0 0
pipe_words_at number (pipe.PipeEntry fd) = pipe_place_words number STEP_PIPE_ENTRY fd 0 0 0 0
pipe_words_at number (pipe.DroppingEnd fd) = pipe_place_words number STEP_PIPE_DROPPING_END fd 0 0 0 0
pipe_words_at number (pipe.DroppingPipe fd) = pipe_place_words number STEP_PIPE_DROPPING_PIPE fd 0 0 0 0
pipe_words_at number pipe.SourcePipe = pipe_place_words number STEP_PIPE_SOURCE_PIPE 0 0 0 0 0
pipe_words_at number pipe.MappingEnd = pipe_place_words number STEP_PIPE_MAPPING_END 0 0 0 0 0
pipe_words_at number pipe.EndMode = pipe_place_words number STEP_PIPE_END_MODE 0 0 0 0 0
pipe_words_at number pipe.TakingBytes = pipe_place_words number STEP_PIPE_TAKING_BYTES 0 0 0 0 0
pipe_words_at number (pipe.Locking done id runs) = pipe_place_words number STEP_PIPE_LOCKING done id runs 0 0
pipe_words_at number (pipe.LockPausing done) = pipe_place_words number STEP_PIPE_LOCK_PAUSING done 0 0 0 0
pipe_words_at number (pipe.ReadFrom done id runs) = pipe_place_words number STEP_PIPE_READ_FROM done id runs 0 0
pipe_words_at number (pipe.ReadTo done id runs from) = pipe_place_words number STEP_PIPE_READ_TO done id runs from 0
pipe_words_at number (pipe.LoadingHeld done from) = pipe_place_words number STEP_PIPE_LOADING_HELD done from 0 0 0
pipe_words_at number (pipe.KeepingHeld done from byte) = pipe_place_words number STEP_PIPE_KEEPING_HELD done from byte 0 0
pipe_words_at number (pipe.TakingHeld done from) = pipe_place_words number STEP_PIPE_TAKING_HELD done from 0 0 0
pipe_words_at number (pipe.LoadingOwn done to) = pipe_place_words number STEP_PIPE_LOADING_OWN done to 0 0 0
pipe_words_at number (pipe.PuttingOwn done to byte) = pipe_place_words number STEP_PIPE_PUTTING_OWN done to byte 0 0
pipe_words_at number (pipe.Putting done to) = pipe_place_words number STEP_PIPE_PUTTING done to 0 0 0
pipe_words_at number (pipe.UnlockingMoved done) = pipe_place_words number STEP_PIPE_UNLOCKING_MOVED done 0 0 0 0
pipe_words_at number (pipe.UnlockingEnd done) = pipe_place_words number STEP_PIPE_UNLOCKING_END done 0 0 0 0
pipe_words_at number (pipe.UnlockingTest done id runs) = pipe_place_words number STEP_PIPE_UNLOCKING_TEST done id runs 0 0
pipe_words_at number (pipe.TestIdentifying done) = pipe_place_words number STEP_PIPE_TEST_IDENTIFYING done 0 0 0 0
pipe_words_at number (pipe.TestRuns done id) = pipe_place_words number STEP_PIPE_TEST_RUNS done id 0 0 0
pipe_words_at number (pipe.TestAgain done id runs) = pipe_place_words number STEP_PIPE_TEST_AGAIN done id runs 0 0
pipe_words_at number (pipe.TestOwn done id runs) = pipe_place_words number STEP_PIPE_TEST_OWN done id runs 0 0
pipe_words_at number (pipe.TestOther done id runs own) = pipe_place_words number STEP_PIPE_TEST_OTHER done id runs own 0
pipe_words_at number (pipe.TestDescriptor done id runs) = pipe_place_words number STEP_PIPE_TEST_DESCRIPTOR done id runs 0 0
pipe_words_at number (pipe.TestDescriptorCount done id runs entry) = pipe_place_words number STEP_PIPE_TEST_DESCRIPTOR_COUNT done id runs entry 0
pipe_words_at number (pipe.TestPipe done id runs count) = pipe_place_words number STEP_PIPE_TEST_PIPE done id runs count 0
pipe_words_at number (pipe.TestPipeCount done id runs count entry) = pipe_place_words number STEP_PIPE_TEST_PIPE_COUNT done id runs count entry
pipe_words_at number (pipe.TestRunsAgain done id runs closed) = pipe_place_words number STEP_PIPE_TEST_RUNS_AGAIN done id runs closed 0
pipe_words_at number (pipe.TestPausing done) = pipe_place_words number STEP_PIPE_TEST_PAUSING done 0 0 0 0
pipe_words_at number pipe.StatLocking = pipe_place_words number STEP_PIPE_STAT_LOCKING 0 0 0 0 0
pipe_words_at number pipe.StatPausing = pipe_place_words number STEP_PIPE_STAT_PAUSING 0 0 0 0 0
pipe_words_at number pipe.StatFrom = pipe_place_words number STEP_PIPE_STAT_FROM 0 0 0 0 0
pipe_words_at number (pipe.StatTo from) = pipe_place_words number STEP_PIPE_STAT_TO from 0 0 0 0
pipe_words_at number (pipe.StatUnlocking held) = pipe_place_words number STEP_PIPE_STAT_UNLOCKING held 0 0 0 0

unfoldable pub words_at : ℕ → Step → List ℕ
words_at number step.Entered = place_words number STEP_ENTERED 0 0 0
words_at number (step.Trying perm) = place_words number STEP_TRYING perm 0 0
words_at number (step.Pausing perm) = place_words number STEP_PAUSING perm 0 0
words_at number step.ReadingRegion = place_words number STEP_READING_REGION 0 0 0
words_at number step.ReadingEntry = place_words number STEP_READING_ENTRY 0 0 0
words_at number (step.Receiving id) = place_words number STEP_RECEIVING id 0 0
words_at number (step.ReadingValue id) = place_words number STEP_READING_VALUE id 0 0
words_at number (step.ReadingSender id value) = place_words number STEP_READING_SENDER id value 0
words_at number (step.ReadingPerm id value sender) = place_words number STEP_READING_PERM id value sender
words_at number (step.ForkRegion id region) = place_words number STEP_FORK_REGION id region 0
words_at number (step.ForkEntry id page) = place_words number STEP_FORK_ENTRY id page 0
words_at number (step.MapChild id page perm) = place_words number STEP_MAP_CHILD id page perm
words_at number (step.Remap id page) = place_words number STEP_REMAP id page 0
words_at number (step.ChildStack id) = place_words number STEP_CHILD_STACK id 0 0
words_at number (step.ChildUpcall id) = place_words number STEP_CHILD_UPCALL id 0 0
words_at number (step.ChildRuns id) = place_words number STEP_CHILD_RUNS id 0 0
words_at number (step.Undoing id error) = place_words number STEP_UNDOING id error 0
words_at number (step.DescriptorEntry fd) = place_words number STEP_DESCRIPTOR_ENTRY fd 0 0
words_at number step.TargetEntry = place_words number STEP_TARGET_ENTRY 0 0 0
words_at number (step.DroppingDescriptor fd) = place_words number STEP_DROPPING_DESCRIPTOR fd 0 0
words_at number step.MappingDescriptor = place_words number STEP_MAPPING_DESCRIPTOR 0 0 0
words_at number step.Ending = place_words number STEP_ENDING 0 0 0
words_at number step.ReadingDevice = place_words number STEP_READING_DEVICE 0 0 0
words_at number (step.BufferRegion done word) = place_words number STEP_BUFFER_REGION done word 0
words_at number (step.BufferEntry done word) = place_words number STEP_BUFFER_ENTRY done word 0
words_at number step.TakingPage = place_words number STEP_TAKING_PAGE 0 0 0
words_at number (step.Gathering done) = place_words number STEP_GATHERING done 0 0
words_at number (step.Keeping done word left) = place_words number STEP_KEEPING done word left
words_at number step.Printing = place_words number STEP_PRINTING 0 0 0
words_at number step.Releasing = place_words number STEP_RELEASING 0 0 0
words_at number step.Getting = place_words number STEP_GETTING 0 0 0
words_at number (step.Delivering done word) = place_words number STEP_DELIVERING done word 0
words_at number (step.Faulting done word) = place_words number STEP_FAULTING done word 0
words_at number (step.Asking id) = place_words number STEP_ASKING id 0 0
words_at number (step.Awaiting id) = place_words number STEP_AWAITING id 0 0
words_at number (step.ReadingReply id) = place_words number STEP_READING_REPLY id 0 0
words_at number step.Identifying = place_words number STEP_IDENTIFYING 0 0 0
words_at number (step.Clearing id) = place_words number STEP_CLEARING id 0 0
words_at number step.ReadingMode = place_words number STEP_READING_MODE 0 0 0
words_at number step.ReadingNumber = place_words number STEP_READING_NUMBER 0 0 0
words_at number (step.StoringNumber kept) = place_words number STEP_STORING_NUMBER kept 0 0
words_at number step.StoringCount = place_words number STEP_STORING_COUNT 0 0 0
words_at number step.TakingRequest = place_words number STEP_TAKING_REQUEST 0 0 0
words_at number (step.GatheringBytes done start) = place_words number STEP_GATHERING_BYTES done start 0
words_at number (step.KeepingBytes done word left start) =
    (number + 1) ∷ STEP_KEEPING_BYTES ∷ done ∷ word ∷ left ∷ start ∷ 0 ∷ 0 ∷ 0 ∷ 0 ∷ 0 ∷ 0 ∷ []
words_at number (step.CountingReply id) = place_words number STEP_COUNTING_REPLY id 0 0
words_at number (step.FileRegion done count) = place_words number STEP_FILE_REGION done count 0
words_at number (step.FileEntry done count) = place_words number STEP_FILE_ENTRY done count 0
words_at number (step.LoadingBytes done count) = place_words number STEP_LOADING_BYTES done count 0
words_at number (step.LoadingRest done count first) = place_words number STEP_LOADING_REST done count first
words_at number (step.PuttingBytes done count word) = place_words number STEP_PUTTING_BYTES done count word
words_at number (step.FileFaulting done count) = place_words number STEP_FILE_FAULTING done count 0
words_at number (step.Returning answer) = place_words number STEP_RETURNING answer 0 0
words_at number step.FreeRegion = place_words number STEP_FREE_REGION 0 0 0
words_at number (step.FreeEntry fd) = place_words number STEP_FREE_ENTRY fd 0 0
words_at number (step.StoringMode fd) = place_words number STEP_STORING_MODE fd 0 0
words_at number (step.OpenIdentifying fd) = place_words number STEP_OPEN_IDENTIFYING fd 0 0
words_at number (step.OpenAsking id fd) = place_words number STEP_OPEN_ASKING id fd 0
words_at number (step.OpenPausing id fd) = place_words number STEP_OPEN_PAUSING id fd 0
words_at number (step.OpenAwaiting id fd) = place_words number STEP_OPEN_AWAITING id fd 0
words_at number (step.OpenClearing id fd) = place_words number STEP_OPEN_CLEARING id fd 0
words_at number (step.ReadingOpened id fd) = place_words number STEP_READING_OPENED id fd 0
words_at number (step.Piped at) = pipe_words_at number at
words_at number (step.Spawning at) = spawn_words_at number at

-- the words with which a program's INT 0x40 leaves it; all numbers that name no service are kept as one
abbrev pub words_entered : Regs → List ℕ
words_entered regs = words_at (min regs.eax SERVICES) step.Entered

-- ---- the registers of the handler

abbrev pub registers_at : Regs → ℕ → ℕ → ℕ → ℕ → Regs
registers_at regs at first second third = record regs { eip = at; ebx = first; ecx = second; edx = third }

-- where it goes on from one step to another
unfoldable pub handler_registers : Regs → HandlerStep → Regs
handler_registers regs handler.Entered = registers_at regs PGFAULT_UPCALL 0 0 0
handler_registers regs (handler.ReadingError va) = registers_at regs HANDLER_READING_ERROR va 0 0
handler_registers regs (handler.Looking va) = registers_at regs HANDLER_LOOKING va 0 0
handler_registers regs (handler.Taking va) = registers_at regs HANDLER_TAKING va 0 0
handler_registers regs (handler.Loading va index) = registers_at regs HANDLER_LOADING va index 0
handler_registers regs (handler.Storing va index word) = registers_at regs HANDLER_STORING va index word
handler_registers regs (handler.MappingOver va) = registers_at regs HANDLER_MAPPING_OVER va 0 0
handler_registers regs (handler.Unmapping va) = registers_at regs HANDLER_UNMAPPING va 0 0
handler_registers regs handler.Restoring = registers_at regs HANDLER_RESTORING 0 0 0
handler_registers regs (handler.ReadingIp va error) = registers_at regs HANDLER_READING_IP va error 0
handler_registers regs (handler.Unsetting va error ip) = registers_at regs HANDLER_UNSETTING va error ip
handler_registers regs (handler.Touching va error ip) = registers_at regs HANDLER_TOUCHING va error ip
