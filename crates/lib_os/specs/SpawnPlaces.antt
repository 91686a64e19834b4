-- Where spawn stands behind its path, as it is spelled in the words that an environment keeps for the library: the second of them tells how far it
-- is, and the ten behind that what it has found out.
use Rattle.std.specs.Prelude.{ℕ, ◌+◌, ◌==◌, nat_le, List, [], ◌∷◌, if◌then◌else◌}
use Rattle.lib_os.specs.declared.spawn_steps.BearingStep.{BearingStep}
use Rattle.lib_os.specs.declared.spawn_steps.BearingStep.TheVariants as bearing
use Rattle.lib_os.specs.declared.spawn_steps.FilePart.{FilePart}
use Rattle.lib_os.specs.declared.spawn_steps.FilePart.TheVariants as part
use Rattle.lib_os.specs.declared.spawn_steps.FinishingStep.{FinishingStep}
use Rattle.lib_os.specs.declared.spawn_steps.FinishingStep.TheVariants as finishing
use Rattle.lib_os.specs.declared.spawn_steps.GivenStep.{GivenStep}
use Rattle.lib_os.specs.declared.spawn_steps.GivenStep.TheVariants as given
use Rattle.lib_os.specs.declared.spawn_steps.OpeningStep.{OpeningStep}
use Rattle.lib_os.specs.declared.spawn_steps.OpeningStep.TheVariants as opening
use Rattle.lib_os.specs.declared.spawn_steps.ReadStep.{ReadStep}
use Rattle.lib_os.specs.declared.spawn_steps.ReadStep.TheVariants as read
use Rattle.lib_os.specs.declared.spawn_steps.SpawnStep.{SpawnStep}
use Rattle.lib_os.specs.declared.spawn_steps.SpawnStep.TheVariants as spawn
use Rattle.lib_os.specs.declared.spawn_steps.TestingStep.{TestingStep}
use Rattle.lib_os.specs.declared.spawn_steps.TestingStep.TheVariants as testing
use Rattle.lib_os.specs.declared.spawn_steps.UndoingStep.{UndoingStep}
use Rattle.lib_os.specs.declared.spawn_steps.UndoingStep.TheVariants as undoing
use Rattle.lib_os.specs.declared.spawn_numbers.TheConstants.{STEP_SPAWN_TAKING_GIVEN, STEP_SPAWN_ADDRESS_REGION, STEP_SPAWN_ADDRESS_ENTRY}
use Rattle.lib_os.specs.declared.spawn_numbers.TheConstants.{STEP_SPAWN_ADDRESS_LOADING, STEP_SPAWN_ADDRESS_FAULTING, STEP_SPAWN_ADDRESS_KEEPING}
use Rattle.lib_os.specs.declared.spawn_numbers.TheConstants.{STEP_SPAWN_STRING_ADDRESS, STEP_SPAWN_STRING_REGION, STEP_SPAWN_STRING_ENTRY}
use Rattle.lib_os.specs.declared.spawn_numbers.TheConstants.{STEP_SPAWN_STRING_LOADING, STEP_SPAWN_STRING_FAULTING, STEP_SPAWN_STRING_KEEPING}
use Rattle.lib_os.specs.declared.spawn_numbers.TheConstants.{STEP_SPAWN_TAKING_STACK, STEP_SPAWN_STRING_FIRST, STEP_SPAWN_STRING_COPYING}
use Rattle.lib_os.specs.declared.spawn_numbers.TheConstants.{STEP_SPAWN_STRING_PUTTING, STEP_SPAWN_STORING_ARGV, STEP_SPAWN_STORING_ARGC}
use Rattle.lib_os.specs.declared.spawn_numbers.TheConstants.{STEP_SPAWN_FREE_REGION, STEP_SPAWN_FREE_ENTRY, STEP_SPAWN_STORING_MODE}
use Rattle.lib_os.specs.declared.spawn_numbers.TheConstants.{STEP_SPAWN_OPEN_IDENTIFYING, STEP_SPAWN_OPEN_ASKING, STEP_SPAWN_OPEN_PAUSING}
use Rattle.lib_os.specs.declared.spawn_numbers.TheConstants.{STEP_SPAWN_OPEN_AWAITING, STEP_SPAWN_READING_OPENED, STEP_SPAWN_LOADING_SIZE}
use Rattle.lib_os.specs.declared.spawn_numbers.TheConstants.{STEP_SPAWN_HEADER_MAGIC, STEP_SPAWN_HEADER_CLASS, STEP_SPAWN_HEADER_KIND}
use Rattle.lib_os.specs.declared.spawn_numbers.TheConstants.{STEP_SPAWN_HEADER_ENTRY_POINT, STEP_SPAWN_HEADER_TABLE, STEP_SPAWN_HEADER_LENGTH}
use Rattle.lib_os.specs.declared.spawn_numbers.TheConstants.{STEP_SPAWN_HEADER_COUNT, STEP_SPAWN_TABLE_LOADING, STEP_SPAWN_TABLE_STORING}
use Rattle.lib_os.specs.declared.spawn_numbers.TheConstants.{STEP_SPAWN_SEGMENT_KIND, STEP_SPAWN_SEGMENT_MEMORY, STEP_SPAWN_SEGMENT_ADDRESS}
use Rattle.lib_os.specs.declared.spawn_numbers.TheConstants.{STEP_SPAWN_SEGMENT_LENGTH, STEP_SPAWN_SEGMENT_OFFSET, STEP_SPAWN_OTHER_KIND}
use Rattle.lib_os.specs.declared.spawn_numbers.TheConstants.{STEP_SPAWN_OTHER_MEMORY, STEP_SPAWN_OTHER_ADDRESS, STEP_SPAWN_MAKING_CHILD}
use Rattle.lib_os.specs.declared.spawn_numbers.TheConstants.{STEP_SPAWN_STORING_REGISTER, STEP_SPAWN_SETTING_REGISTERS, STEP_SPAWN_PLACING_KIND}
use Rattle.lib_os.specs.declared.spawn_numbers.TheConstants.{STEP_SPAWN_PLACING_MEMORY, STEP_SPAWN_PLACING_ADDRESS, STEP_SPAWN_PLACING_PAGE}
use Rattle.lib_os.specs.declared.spawn_numbers.TheConstants.{STEP_SPAWN_PIECE_KIND, STEP_SPAWN_PIECE_MEMORY, STEP_SPAWN_PIECE_LENGTH}
use Rattle.lib_os.specs.declared.spawn_numbers.TheConstants.{STEP_SPAWN_PIECE_OFFSET, STEP_SPAWN_PIECE_ADDRESS, STEP_SPAWN_MAPPING_HERE}
use Rattle.lib_os.specs.declared.spawn_numbers.TheConstants.{STEP_SPAWN_PIECE_LOADING, STEP_SPAWN_PIECE_REST, STEP_SPAWN_PIECE_PUTTING}
use Rattle.lib_os.specs.declared.spawn_numbers.TheConstants.{STEP_SPAWN_UNMAPPING_HERE, STEP_SPAWN_RIGHTS_KIND, STEP_SPAWN_RIGHTS_FLAGS}
use Rattle.lib_os.specs.declared.spawn_numbers.TheConstants.{STEP_SPAWN_RIGHTS_MEMORY, STEP_SPAWN_RIGHTS_ADDRESS, STEP_SPAWN_SHARED_KIND}
use Rattle.lib_os.specs.declared.spawn_numbers.TheConstants.{STEP_SPAWN_SHARED_FLAGS, STEP_SPAWN_SHARED_MEMORY, STEP_SPAWN_SHARED_ADDRESS}
use Rattle.lib_os.specs.declared.spawn_numbers.TheConstants.{STEP_SPAWN_RIGHTS_PAGE, STEP_SPAWN_CHILD_STACK, STEP_SPAWN_CHILD_UPCALL}
use Rattle.lib_os.specs.declared.spawn_numbers.TheConstants.{STEP_SPAWN_GIVING_STACK, STEP_SPAWN_RELEASING_STACK, STEP_SPAWN_RELEASING_GIVEN}
use Rattle.lib_os.specs.declared.spawn_numbers.TheConstants.{STEP_SPAWN_RELEASING_PATH, STEP_SPAWN_DROPPING_FILE, STEP_SPAWN_PASSING_REGION}
use Rattle.lib_os.specs.declared.spawn_numbers.TheConstants.{STEP_SPAWN_PASSING_ENTRY, STEP_SPAWN_PASSING_PAGE, STEP_SPAWN_CHILD_RUNS}
use Rattle.lib_os.specs.declared.spawn_numbers.TheConstants.{STEP_SPAWN_DESTROYING_CHILD, STEP_SPAWN_CLOSING_FILE, STEP_SPAWN_UNDOING_STACK}
use Rattle.lib_os.specs.declared.spawn_numbers.TheConstants.{STEP_SPAWN_UNDOING_GIVEN, STEP_SPAWN_UNDOING_PATH, STEP_SPAWN_LOADING_NUMBER}
use Rattle.lib_os.specs.declared.spawn_numbers.TheConstants.{STEP_SPAWN_STORING_NUMBER, STEP_SPAWN_STORING_COUNT, STEP_SPAWN_STORING_PLACE}
use Rattle.lib_os.specs.declared.spawn_numbers.TheConstants.{STEP_SPAWN_IDENTIFYING, STEP_SPAWN_ASKING, STEP_SPAWN_PAUSING, STEP_SPAWN_AWAITING}
use Rattle.lib_os.specs.declared.spawn_numbers.TheConstants.{STEP_SPAWN_READING_REPLY, SPAWN_PART_HEADER, SPAWN_PART_TABLE, SPAWN_PART_PIECE}
use Rattle.lib_os.specs.ServiceWords.{step_word, first_word, second_word, third_word, fourth_word, fifth_word, sixth_word, seventh_word, eighth_word, ninth_word, tenth_word}

-- how far spawn is with what the program gives
unfoldable pub given_step_in : List ℕ → GivenStep
given_step_in words =
    let n = step_word words in
    if n == STEP_SPAWN_TAKING_GIVEN then given.TakingGiven
    else if n == STEP_SPAWN_ADDRESS_REGION then given.AddressRegion (first_word words) (second_word words) (third_word words)
    else if n == STEP_SPAWN_ADDRESS_ENTRY then given.AddressEntry (first_word words) (second_word words) (third_word words)
    else if n == STEP_SPAWN_ADDRESS_LOADING then given.AddressLoading (first_word words) (second_word words) (third_word words)
    else if n == STEP_SPAWN_ADDRESS_FAULTING then given.AddressFaulting (first_word words) (second_word words)
    else if n == STEP_SPAWN_ADDRESS_KEEPING then given.AddressKeeping (first_word words) (second_word words)
    else if n == STEP_SPAWN_STRING_ADDRESS then given.StringAddress (first_word words) (second_word words)
    else if n == STEP_SPAWN_STRING_REGION then given.StringRegion (first_word words) (second_word words) (third_word words) (fourth_word words)
    else if n == STEP_SPAWN_STRING_ENTRY then given.StringEntry (first_word words) (second_word words) (third_word words) (fourth_word words)
    else if n == STEP_SPAWN_STRING_LOADING then given.StringLoading (first_word words) (second_word words) (third_word words) (fourth_word words)
    else if n == STEP_SPAWN_STRING_FAULTING then given.StringFaulting (first_word words) (second_word words)
    else if n == STEP_SPAWN_STRING_KEEPING
    then given.StringKeeping (first_word words) (second_word words) (third_word words) (fourth_word words) (fifth_word words) (sixth_word words)
    else if n == STEP_SPAWN_TAKING_STACK then given.TakingStack (first_word words) (second_word words)
    else if n == STEP_SPAWN_STRING_FIRST then given.StringFirst (first_word words) (second_word words) (third_word words) (fourth_word words)
    else if n == STEP_SPAWN_STRING_COPYING then given.StringCopying (first_word words) (second_word words) (third_word words) (fourth_word words)
    else if n == STEP_SPAWN_STRING_PUTTING
    then given.StringPutting (first_word words) (second_word words) (third_word words) (fourth_word words) (fifth_word words)
    else if n == STEP_SPAWN_STORING_ARGV then given.StoringArgv (first_word words) (second_word words)
    else given.StoringArgc (first_word words) (second_word words)

-- how far it is with the opening of the file
unfoldable pub opening_step_in : List ℕ → OpeningStep
opening_step_in words =
    let n = step_word words in
    if n == STEP_SPAWN_FREE_REGION then opening.FreeRegion (first_word words)
    else if n == STEP_SPAWN_FREE_ENTRY then opening.FreeEntry (first_word words) (second_word words)
    else if n == STEP_SPAWN_STORING_MODE then opening.StoringMode (first_word words) (second_word words)
    else if n == STEP_SPAWN_OPEN_IDENTIFYING then opening.OpenIdentifying (first_word words) (second_word words)
    else if n == STEP_SPAWN_OPEN_ASKING then opening.OpenAsking (first_word words) (second_word words) (third_word words)
    else if n == STEP_SPAWN_OPEN_PAUSING then opening.OpenPausing (first_word words) (second_word words) (third_word words)
    else if n == STEP_SPAWN_OPEN_AWAITING then opening.OpenAwaiting (first_word words) (second_word words) (third_word words)
    else if n == STEP_SPAWN_READING_OPENED then opening.ReadingOpened (first_word words) (second_word words) (third_word words)
    else opening.LoadingSize (first_word words) (second_word words)

-- how far it is with the tests of the file
unfoldable pub testing_step_in : List ℕ → TestingStep
testing_step_in words =
    let n = step_word words in
    if n == STEP_SPAWN_HEADER_MAGIC then testing.HeaderMagic (first_word words) (second_word words) (third_word words)
    else if n == STEP_SPAWN_HEADER_CLASS then testing.HeaderClass (first_word words) (second_word words) (third_word words)
    else if n == STEP_SPAWN_HEADER_KIND then testing.HeaderKind (first_word words) (second_word words) (third_word words)
    else if n == STEP_SPAWN_HEADER_ENTRY_POINT then testing.HeaderEntryPoint (first_word words) (second_word words) (third_word words)
    else if n == STEP_SPAWN_HEADER_TABLE then testing.HeaderTable (first_word words) (second_word words) (third_word words) (fourth_word words)
    else if n == STEP_SPAWN_HEADER_LENGTH
    then testing.HeaderLength (first_word words) (second_word words) (third_word words) (fourth_word words) (fifth_word words)
    else if n == STEP_SPAWN_HEADER_COUNT
    then testing.HeaderCount (first_word words) (second_word words) (third_word words) (fourth_word words) (fifth_word words)
    else if n == STEP_SPAWN_TABLE_LOADING
    then testing.TableLoading (first_word words) (second_word words) (third_word words) (fourth_word words) (fifth_word words) (sixth_word words)
    else if n == STEP_SPAWN_TABLE_STORING
    then testing.TableStoring (first_word words) (second_word words) (third_word words) (fourth_word words) (fifth_word words) (sixth_word words) (seventh_word words)
    else if n == STEP_SPAWN_SEGMENT_KIND
    then testing.SegmentKind (first_word words) (second_word words) (third_word words) (fourth_word words) (fifth_word words) (sixth_word words)
    else if n == STEP_SPAWN_SEGMENT_MEMORY
    then testing.SegmentMemory (first_word words) (second_word words) (third_word words) (fourth_word words) (fifth_word words) (sixth_word words)
    else if n == STEP_SPAWN_SEGMENT_ADDRESS
    then testing.SegmentAddress (first_word words) (second_word words) (third_word words) (fourth_word words) (fifth_word words) (sixth_word words) (seventh_word words)
    else if n == STEP_SPAWN_SEGMENT_LENGTH
    then testing.SegmentLength (first_word words) (second_word words) (third_word words) (fourth_word words) (fifth_word words) (sixth_word words) (seventh_word words) (eighth_word words)
    else if n == STEP_SPAWN_SEGMENT_OFFSET
    then testing.SegmentOffset (first_word words) (second_word words) (third_word words) (fourth_word words) (fifth_word words) (sixth_word words) (seventh_word words) (eighth_word words) (ninth_word words)
    else if n == STEP_SPAWN_OTHER_KIND
    then testing.OtherKind (first_word words) (second_word words) (third_word words) (fourth_word words) (fifth_word words) (sixth_word words) (seventh_word words) (eighth_word words) (ninth_word words)
    else if n == STEP_SPAWN_OTHER_MEMORY
    then testing.OtherMemory (first_word words) (second_word words) (third_word words) (fourth_word words) (fifth_word words) (sixth_word words) (seventh_word words) (eighth_word words) (ninth_word words)
    else testing.OtherAddress (first_word words) (second_word words) (third_word words) (fourth_word words) (fifth_word words) (sixth_word words) (seventh_word words) (eighth_word words) (ninth_word words) (tenth_word words)

-- how far it is with its child, and with the segments of that
unfoldable pub bearing_step_in : List ℕ → BearingStep
bearing_step_in words =
    let n = step_word words in
    if n == STEP_SPAWN_MAKING_CHILD then bearing.MakingChild (first_word words) (second_word words) (third_word words) (fourth_word words)
    else if n == STEP_SPAWN_STORING_REGISTER
    then bearing.StoringRegister (first_word words) (second_word words) (third_word words) (fourth_word words) (fifth_word words) (sixth_word words)
    else if n == STEP_SPAWN_SETTING_REGISTERS then bearing.SettingRegisters (first_word words) (second_word words) (third_word words)
    else if n == STEP_SPAWN_PLACING_KIND then bearing.PlacingKind (first_word words) (second_word words) (third_word words) (fourth_word words)
    else if n == STEP_SPAWN_PLACING_MEMORY then bearing.PlacingMemory (first_word words) (second_word words) (third_word words) (fourth_word words)
    else if n == STEP_SPAWN_PLACING_ADDRESS
    then bearing.PlacingAddress (first_word words) (second_word words) (third_word words) (fourth_word words) (fifth_word words)
    else if n == STEP_SPAWN_PLACING_PAGE
    then bearing.PlacingPage (first_word words) (second_word words) (third_word words) (fourth_word words) (fifth_word words) (sixth_word words)
    else if n == STEP_SPAWN_PIECE_KIND then bearing.PieceKind (first_word words) (second_word words) (third_word words) (fourth_word words)
    else if n == STEP_SPAWN_PIECE_MEMORY then bearing.PieceMemory (first_word words) (second_word words) (third_word words) (fourth_word words)
    else if n == STEP_SPAWN_PIECE_LENGTH
    then bearing.PieceLength (first_word words) (second_word words) (third_word words) (fourth_word words) (fifth_word words)
    else if n == STEP_SPAWN_PIECE_OFFSET
    then bearing.PieceOffset (first_word words) (second_word words) (third_word words) (fourth_word words) (fifth_word words) (sixth_word words)
    else if n == STEP_SPAWN_PIECE_ADDRESS
    then bearing.PieceAddress (first_word words) (second_word words) (third_word words) (fourth_word words) (fifth_word words) (sixth_word words)
    else if n == STEP_SPAWN_MAPPING_HERE
    then bearing.MappingHere (first_word words) (second_word words) (third_word words) (fourth_word words) (fifth_word words) (sixth_word words) (seventh_word words)
    else if n == STEP_SPAWN_PIECE_LOADING
    then bearing.PieceLoading (first_word words) (second_word words) (third_word words) (fourth_word words) (fifth_word words) (sixth_word words) (seventh_word words)
    else if n == STEP_SPAWN_PIECE_REST
    then bearing.PieceRest (first_word words) (second_word words) (third_word words) (fourth_word words) (fifth_word words) (sixth_word words) (seventh_word words) (eighth_word words)
    else if n == STEP_SPAWN_PIECE_PUTTING
    then bearing.PiecePutting (first_word words) (second_word words) (third_word words) (fourth_word words) (fifth_word words) (sixth_word words) (seventh_word words) (eighth_word words)
    else bearing.UnmappingHere (first_word words) (second_word words) (third_word words) (fourth_word words) (fifth_word words)

-- how far it is with a child that has all bytes
unfoldable pub finishing_step_in : List ℕ → FinishingStep
finishing_step_in words =
    let n = step_word words in
    if n == STEP_SPAWN_RIGHTS_KIND then finishing.RightsKind (first_word words) (second_word words) (third_word words) (fourth_word words)
    else if n == STEP_SPAWN_RIGHTS_FLAGS then finishing.RightsFlags (first_word words) (second_word words) (third_word words) (fourth_word words)
    else if n == STEP_SPAWN_RIGHTS_MEMORY then finishing.RightsMemory (first_word words) (second_word words) (third_word words) (fourth_word words)
    else if n == STEP_SPAWN_RIGHTS_ADDRESS
    then finishing.RightsAddress (first_word words) (second_word words) (third_word words) (fourth_word words) (fifth_word words)
    else if n == STEP_SPAWN_SHARED_KIND
    then finishing.SharedKind (first_word words) (second_word words) (third_word words) (fourth_word words) (fifth_word words) (sixth_word words) (seventh_word words)
    else if n == STEP_SPAWN_SHARED_FLAGS
    then finishing.SharedFlags (first_word words) (second_word words) (third_word words) (fourth_word words) (fifth_word words) (sixth_word words) (seventh_word words)
    else if n == STEP_SPAWN_SHARED_MEMORY
    then finishing.SharedMemory (first_word words) (second_word words) (third_word words) (fourth_word words) (fifth_word words) (sixth_word words) (seventh_word words)
    else if n == STEP_SPAWN_SHARED_ADDRESS
    then finishing.SharedAddress (first_word words) (second_word words) (third_word words) (fourth_word words) (fifth_word words) (sixth_word words) (seventh_word words) (eighth_word words)
    else if n == STEP_SPAWN_RIGHTS_PAGE
    then finishing.RightsPage (first_word words) (second_word words) (third_word words) (fourth_word words) (fifth_word words) (sixth_word words)
    else if n == STEP_SPAWN_CHILD_STACK then finishing.ChildStack (first_word words) (second_word words)
    else if n == STEP_SPAWN_CHILD_UPCALL then finishing.ChildUpcall (first_word words) (second_word words)
    else if n == STEP_SPAWN_GIVING_STACK then finishing.GivingStack (first_word words) (second_word words)
    else if n == STEP_SPAWN_RELEASING_STACK then finishing.ReleasingStack (first_word words) (second_word words)
    else if n == STEP_SPAWN_RELEASING_GIVEN then finishing.ReleasingGiven (first_word words) (second_word words)
    else if n == STEP_SPAWN_RELEASING_PATH then finishing.ReleasingPath (first_word words) (second_word words)
    else if n == STEP_SPAWN_DROPPING_FILE then finishing.DroppingFile (first_word words) (second_word words)
    else if n == STEP_SPAWN_PASSING_REGION then finishing.PassingRegion (first_word words) (second_word words)
    else if n == STEP_SPAWN_PASSING_ENTRY then finishing.PassingEntry (first_word words) (second_word words)
    else if n == STEP_SPAWN_PASSING_PAGE then finishing.PassingPage (first_word words) (second_word words) (third_word words)
    else finishing.ChildRuns (first_word words)

-- how far it is where it was refused something with this answer
unfoldable pub undoing_step_in : List ℕ → UndoingStep
undoing_step_in words =
    let n = step_word words in
    if n == STEP_SPAWN_DESTROYING_CHILD then undoing.DestroyingChild (first_word words) (second_word words) (third_word words)
    else if n == STEP_SPAWN_CLOSING_FILE then undoing.ClosingFile (first_word words) (second_word words)
    else if n == STEP_SPAWN_UNDOING_STACK then undoing.UndoingStack (first_word words)
    else if n == STEP_SPAWN_UNDOING_GIVEN then undoing.UndoingGiven (first_word words)
    else undoing.UndoingPath (first_word words)

-- how far it is with a part of the file, and which part that is
unfoldable pub read_step_in : List ℕ → ReadStep
read_step_in words =
    let n = step_word words in
    if n == STEP_SPAWN_LOADING_NUMBER then read.LoadingNumber
    else if n == STEP_SPAWN_STORING_NUMBER then read.StoringNumber (ninth_word words)
    else if n == STEP_SPAWN_STORING_COUNT then read.StoringCount
    else if n == STEP_SPAWN_STORING_PLACE then read.StoringPlace
    else if n == STEP_SPAWN_IDENTIFYING then read.Identifying
    else if n == STEP_SPAWN_ASKING then read.Asking (ninth_word words)
    else if n == STEP_SPAWN_PAUSING then read.Pausing (ninth_word words)
    else if n == STEP_SPAWN_AWAITING then read.Awaiting (ninth_word words)
    else read.ReadingReply (ninth_word words)

unfoldable pub file_part_in : List ℕ → FilePart
file_part_in words =
    let kind = first_word words in
    if kind == SPAWN_PART_HEADER then part.Header (second_word words) (third_word words) (fourth_word words)
    else if kind == SPAWN_PART_TABLE
    then part.Table (second_word words) (third_word words) (fourth_word words) (fifth_word words) (sixth_word words) (seventh_word words)
    else part.Piece (second_word words) (third_word words) (fourth_word words) (fifth_word words) (sixth_word words) (seventh_word words) (eighth_word words)

-- how far spawn is behind its path
unfoldable pub spawn_step_in : List ℕ → SpawnStep
spawn_step_in words =
    let n = step_word words in
    if nat_le STEP_SPAWN_LOADING_NUMBER n then spawn.Reading (file_part_in words) (read_step_in words)
    else if nat_le STEP_SPAWN_DESTROYING_CHILD n then spawn.Undoing (undoing_step_in words)
    else if nat_le STEP_SPAWN_RIGHTS_KIND n then spawn.Finishing (finishing_step_in words)
    else if nat_le STEP_SPAWN_MAKING_CHILD n then spawn.Bearing (bearing_step_in words)
    else if nat_le STEP_SPAWN_HEADER_MAGIC n then spawn.Testing (testing_step_in words)
    else if nat_le STEP_SPAWN_FREE_REGION n then spawn.Opening (opening_step_in words)
    else spawn.Given (given_step_in words)

-- ---- its words

abbrev pub spawn_place_words : ℕ → ℕ → ℕ → ℕ → ℕ → ℕ → ℕ → ℕ → ℕ → ℕ → ℕ → ℕ → List ℕ
spawn_place_words number n first second third fourth fifth sixth seventh eighth ninth tenth =
    (number + 1) ∷ n ∷ first ∷ second ∷ third ∷ fourth ∷ fifth ∷ sixth ∷ seventh ∷ eighth ∷ ninth ∷ tenth ∷ []

unfoldable pub given_words_at : ℕ → GivenStep → List ℕ
given_words_at number given.TakingGiven = spawn_place_words number STEP_SPAWN_TAKING_GIVEN 0 0 0 0 0 0 0 0 0 0
given_words_at number (given.AddressRegion index done word) = spawn_place_words number STEP_SPAWN_ADDRESS_REGION index done word 0 0 0 0 0 0 0
given_words_at number (given.AddressEntry index done word) = spawn_place_words number STEP_SPAWN_ADDRESS_ENTRY index done word 0 0 0 0 0 0 0
given_words_at number (given.AddressLoading index done word) = spawn_place_words number STEP_SPAWN_ADDRESS_LOADING index done word 0 0 0 0 0 0 0
given_words_at number (given.AddressFaulting index done) = spawn_place_words number STEP_SPAWN_ADDRESS_FAULTING index done 0 0 0 0 0 0 0 0
given_words_at number (given.AddressKeeping index word) = spawn_place_words number STEP_SPAWN_ADDRESS_KEEPING index word 0 0 0 0 0 0 0 0
given_words_at number (given.StringAddress index used) = spawn_place_words number STEP_SPAWN_STRING_ADDRESS index used 0 0 0 0 0 0 0 0
given_words_at number (given.StringRegion index address used done) = spawn_place_words number STEP_SPAWN_STRING_REGION index address used done 0 0 0 0 0 0
given_words_at number (given.StringEntry index address used done) = spawn_place_words number STEP_SPAWN_STRING_ENTRY index address used done 0 0 0 0 0 0
given_words_at number (given.StringLoading index address used done) = spawn_place_words number STEP_SPAWN_STRING_LOADING index address used done 0 0 0 0 0 0
given_words_at number (given.StringFaulting address done) = spawn_place_words number STEP_SPAWN_STRING_FAULTING address done 0 0 0 0 0 0 0 0
given_words_at number (given.StringKeeping index address used done word left) =
    spawn_place_words number STEP_SPAWN_STRING_KEEPING index address used done word left 0 0 0 0
given_words_at number (given.TakingStack count size) = spawn_place_words number STEP_SPAWN_TAKING_STACK count size 0 0 0 0 0 0 0 0
given_words_at number (given.StringFirst count size index copied) = spawn_place_words number STEP_SPAWN_STRING_FIRST count size index copied 0 0 0 0 0 0
given_words_at number (given.StringCopying count size index copied) = spawn_place_words number STEP_SPAWN_STRING_COPYING count size index copied 0 0 0 0 0 0
given_words_at number (given.StringPutting count size index copied byte) =
    spawn_place_words number STEP_SPAWN_STRING_PUTTING count size index copied byte 0 0 0 0 0
given_words_at number (given.StoringArgv count size) = spawn_place_words number STEP_SPAWN_STORING_ARGV count size 0 0 0 0 0 0 0 0
given_words_at number (given.StoringArgc count size) = spawn_place_words number STEP_SPAWN_STORING_ARGC count size 0 0 0 0 0 0 0 0

unfoldable pub opening_words_at : ℕ → OpeningStep → List ℕ
opening_words_at number (opening.FreeRegion esp) = spawn_place_words number STEP_SPAWN_FREE_REGION esp 0 0 0 0 0 0 0 0 0
opening_words_at number (opening.FreeEntry esp fd) = spawn_place_words number STEP_SPAWN_FREE_ENTRY esp fd 0 0 0 0 0 0 0 0
opening_words_at number (opening.StoringMode esp fd) = spawn_place_words number STEP_SPAWN_STORING_MODE esp fd 0 0 0 0 0 0 0 0
opening_words_at number (opening.OpenIdentifying esp fd) = spawn_place_words number STEP_SPAWN_OPEN_IDENTIFYING esp fd 0 0 0 0 0 0 0 0
opening_words_at number (opening.OpenAsking esp fd id) = spawn_place_words number STEP_SPAWN_OPEN_ASKING esp fd id 0 0 0 0 0 0 0
opening_words_at number (opening.OpenPausing esp fd id) = spawn_place_words number STEP_SPAWN_OPEN_PAUSING esp fd id 0 0 0 0 0 0 0
opening_words_at number (opening.OpenAwaiting esp fd id) = spawn_place_words number STEP_SPAWN_OPEN_AWAITING esp fd id 0 0 0 0 0 0 0
opening_words_at number (opening.ReadingOpened esp fd id) = spawn_place_words number STEP_SPAWN_READING_OPENED esp fd id 0 0 0 0 0 0 0
opening_words_at number (opening.LoadingSize esp fd) = spawn_place_words number STEP_SPAWN_LOADING_SIZE esp fd 0 0 0 0 0 0 0 0

unfoldable pub testing_words_at : ℕ → TestingStep → List ℕ
testing_words_at number (testing.HeaderMagic esp fd size) = spawn_place_words number STEP_SPAWN_HEADER_MAGIC esp fd size 0 0 0 0 0 0 0
testing_words_at number (testing.HeaderClass esp fd size) = spawn_place_words number STEP_SPAWN_HEADER_CLASS esp fd size 0 0 0 0 0 0 0
testing_words_at number (testing.HeaderKind esp fd size) = spawn_place_words number STEP_SPAWN_HEADER_KIND esp fd size 0 0 0 0 0 0 0
testing_words_at number (testing.HeaderEntryPoint esp fd size) = spawn_place_words number STEP_SPAWN_HEADER_ENTRY_POINT esp fd size 0 0 0 0 0 0 0
testing_words_at number (testing.HeaderTable esp fd size entry_point) = spawn_place_words number STEP_SPAWN_HEADER_TABLE esp fd size entry_point 0 0 0 0 0 0
testing_words_at number (testing.HeaderLength esp fd size entry_point place) =
    spawn_place_words number STEP_SPAWN_HEADER_LENGTH esp fd size entry_point place 0 0 0 0 0
testing_words_at number (testing.HeaderCount esp fd size entry_point place) =
    spawn_place_words number STEP_SPAWN_HEADER_COUNT esp fd size entry_point place 0 0 0 0 0
testing_words_at number (testing.TableLoading esp fd size entry_point headers copied) =
    spawn_place_words number STEP_SPAWN_TABLE_LOADING esp fd size entry_point headers copied 0 0 0 0
testing_words_at number (testing.TableStoring esp fd size entry_point headers copied word) =
    spawn_place_words number STEP_SPAWN_TABLE_STORING esp fd size entry_point headers copied word 0 0 0
testing_words_at number (testing.SegmentKind esp fd size entry_point headers header) =
    spawn_place_words number STEP_SPAWN_SEGMENT_KIND esp fd size entry_point headers header 0 0 0 0
testing_words_at number (testing.SegmentMemory esp fd size entry_point headers header) =
    spawn_place_words number STEP_SPAWN_SEGMENT_MEMORY esp fd size entry_point headers header 0 0 0 0
testing_words_at number (testing.SegmentAddress esp fd size entry_point headers header memory) =
    spawn_place_words number STEP_SPAWN_SEGMENT_ADDRESS esp fd size entry_point headers header memory 0 0 0
testing_words_at number (testing.SegmentLength esp fd size entry_point headers header va memory) =
    spawn_place_words number STEP_SPAWN_SEGMENT_LENGTH esp fd size entry_point headers header va memory 0 0
testing_words_at number (testing.SegmentOffset esp fd size entry_point headers header va memory length) =
    spawn_place_words number STEP_SPAWN_SEGMENT_OFFSET esp fd size entry_point headers header va memory length 0
testing_words_at number (testing.OtherKind esp fd size entry_point headers header va memory other) =
    spawn_place_words number STEP_SPAWN_OTHER_KIND esp fd size entry_point headers header va memory other 0
testing_words_at number (testing.OtherMemory esp fd size entry_point headers header va memory other) =
    spawn_place_words number STEP_SPAWN_OTHER_MEMORY esp fd size entry_point headers header va memory other 0
testing_words_at number (testing.OtherAddress esp fd size entry_point headers header va memory other other_memory) =
    spawn_place_words number STEP_SPAWN_OTHER_ADDRESS esp fd size entry_point headers header va memory other other_memory

unfoldable pub bearing_words_at : ℕ → BearingStep → List ℕ
bearing_words_at number (bearing.MakingChild esp fd entry_point headers) =
    spawn_place_words number STEP_SPAWN_MAKING_CHILD esp fd entry_point headers 0 0 0 0 0 0
bearing_words_at number (bearing.StoringRegister esp fd entry_point headers child index) =
    spawn_place_words number STEP_SPAWN_STORING_REGISTER esp fd entry_point headers child index 0 0 0 0
bearing_words_at number (bearing.SettingRegisters fd headers child) = spawn_place_words number STEP_SPAWN_SETTING_REGISTERS fd headers child 0 0 0 0 0 0 0
bearing_words_at number (bearing.PlacingKind fd headers child header) = spawn_place_words number STEP_SPAWN_PLACING_KIND fd headers child header 0 0 0 0 0 0
bearing_words_at number (bearing.PlacingMemory fd headers child header) =
    spawn_place_words number STEP_SPAWN_PLACING_MEMORY fd headers child header 0 0 0 0 0 0
bearing_words_at number (bearing.PlacingAddress fd headers child header memory) =
    spawn_place_words number STEP_SPAWN_PLACING_ADDRESS fd headers child header memory 0 0 0 0 0
bearing_words_at number (bearing.PlacingPage fd headers child header page last) =
    spawn_place_words number STEP_SPAWN_PLACING_PAGE fd headers child header page last 0 0 0 0
bearing_words_at number (bearing.PieceKind fd headers child header) = spawn_place_words number STEP_SPAWN_PIECE_KIND fd headers child header 0 0 0 0 0 0
bearing_words_at number (bearing.PieceMemory fd headers child header) = spawn_place_words number STEP_SPAWN_PIECE_MEMORY fd headers child header 0 0 0 0 0 0
bearing_words_at number (bearing.PieceLength fd headers child header done) =
    spawn_place_words number STEP_SPAWN_PIECE_LENGTH fd headers child header done 0 0 0 0 0
bearing_words_at number (bearing.PieceOffset fd headers child header done end) =
    spawn_place_words number STEP_SPAWN_PIECE_OFFSET fd headers child header done end 0 0 0 0
bearing_words_at number (bearing.PieceAddress fd headers child header done end) =
    spawn_place_words number STEP_SPAWN_PIECE_ADDRESS fd headers child header done end 0 0 0 0
bearing_words_at number (bearing.MappingHere fd headers child header va done end) =
    spawn_place_words number STEP_SPAWN_MAPPING_HERE fd headers child header va done end 0 0 0
bearing_words_at number (bearing.PieceLoading fd headers child header va done end) =
    spawn_place_words number STEP_SPAWN_PIECE_LOADING fd headers child header va done end 0 0 0
bearing_words_at number (bearing.PieceRest fd headers child header va done end first) =
    spawn_place_words number STEP_SPAWN_PIECE_REST fd headers child header va done end first 0 0
bearing_words_at number (bearing.PiecePutting fd headers child header va done end word) =
    spawn_place_words number STEP_SPAWN_PIECE_PUTTING fd headers child header va done end word 0 0
bearing_words_at number (bearing.UnmappingHere fd headers child header end) =
    spawn_place_words number STEP_SPAWN_UNMAPPING_HERE fd headers child header end 0 0 0 0 0

unfoldable pub finishing_words_at : ℕ → FinishingStep → List ℕ
finishing_words_at number (finishing.RightsKind fd headers child header) =
    spawn_place_words number STEP_SPAWN_RIGHTS_KIND fd headers child header 0 0 0 0 0 0
finishing_words_at number (finishing.RightsFlags fd headers child header) =
    spawn_place_words number STEP_SPAWN_RIGHTS_FLAGS fd headers child header 0 0 0 0 0 0
finishing_words_at number (finishing.RightsMemory fd headers child header) =
    spawn_place_words number STEP_SPAWN_RIGHTS_MEMORY fd headers child header 0 0 0 0 0 0
finishing_words_at number (finishing.RightsAddress fd headers child header memory) =
    spawn_place_words number STEP_SPAWN_RIGHTS_ADDRESS fd headers child header memory 0 0 0 0 0
finishing_words_at number (finishing.SharedKind fd headers child header page end other) =
    spawn_place_words number STEP_SPAWN_SHARED_KIND fd headers child header page end other 0 0 0
finishing_words_at number (finishing.SharedFlags fd headers child header page end other) =
    spawn_place_words number STEP_SPAWN_SHARED_FLAGS fd headers child header page end other 0 0 0
finishing_words_at number (finishing.SharedMemory fd headers child header page end other) =
    spawn_place_words number STEP_SPAWN_SHARED_MEMORY fd headers child header page end other 0 0 0
finishing_words_at number (finishing.SharedAddress fd headers child header page end other other_memory) =
    spawn_place_words number STEP_SPAWN_SHARED_ADDRESS fd headers child header page end other other_memory 0 0
finishing_words_at number (finishing.RightsPage fd headers child header page end) =
    spawn_place_words number STEP_SPAWN_RIGHTS_PAGE fd headers child header page end 0 0 0 0
finishing_words_at number (finishing.ChildStack fd child) = spawn_place_words number STEP_SPAWN_CHILD_STACK fd child 0 0 0 0 0 0 0 0
finishing_words_at number (finishing.ChildUpcall fd child) = spawn_place_words number STEP_SPAWN_CHILD_UPCALL fd child 0 0 0 0 0 0 0 0
finishing_words_at number (finishing.GivingStack fd child) = spawn_place_words number STEP_SPAWN_GIVING_STACK fd child 0 0 0 0 0 0 0 0
finishing_words_at number (finishing.ReleasingStack fd child) = spawn_place_words number STEP_SPAWN_RELEASING_STACK fd child 0 0 0 0 0 0 0 0
finishing_words_at number (finishing.ReleasingGiven fd child) = spawn_place_words number STEP_SPAWN_RELEASING_GIVEN fd child 0 0 0 0 0 0 0 0
finishing_words_at number (finishing.ReleasingPath fd child) = spawn_place_words number STEP_SPAWN_RELEASING_PATH fd child 0 0 0 0 0 0 0 0
finishing_words_at number (finishing.DroppingFile fd child) = spawn_place_words number STEP_SPAWN_DROPPING_FILE fd child 0 0 0 0 0 0 0 0
finishing_words_at number (finishing.PassingRegion child region) = spawn_place_words number STEP_SPAWN_PASSING_REGION child region 0 0 0 0 0 0 0 0
finishing_words_at number (finishing.PassingEntry child page) = spawn_place_words number STEP_SPAWN_PASSING_ENTRY child page 0 0 0 0 0 0 0 0
finishing_words_at number (finishing.PassingPage child page perm) = spawn_place_words number STEP_SPAWN_PASSING_PAGE child page perm 0 0 0 0 0 0 0
finishing_words_at number (finishing.ChildRuns child) = spawn_place_words number STEP_SPAWN_CHILD_RUNS child 0 0 0 0 0 0 0 0 0

unfoldable pub undoing_words_at : ℕ → UndoingStep → List ℕ
undoing_words_at number (undoing.DestroyingChild fd child error) = spawn_place_words number STEP_SPAWN_DESTROYING_CHILD fd child error 0 0 0 0 0 0 0
undoing_words_at number (undoing.ClosingFile fd error) = spawn_place_words number STEP_SPAWN_CLOSING_FILE fd error 0 0 0 0 0 0 0 0
undoing_words_at number (undoing.UndoingStack error) = spawn_place_words number STEP_SPAWN_UNDOING_STACK error 0 0 0 0 0 0 0 0 0
undoing_words_at number (undoing.UndoingGiven error) = spawn_place_words number STEP_SPAWN_UNDOING_GIVEN error 0 0 0 0 0 0 0 0 0
undoing_words_at number (undoing.UndoingPath error) = spawn_place_words number STEP_SPAWN_UNDOING_PATH error 0 0 0 0 0 0 0 0 0

-- the number of a step at which a part of the file is read, and the word that is kept with it
unfoldable pub read_number : ReadStep → ℕ
read_number read.LoadingNumber = STEP_SPAWN_LOADING_NUMBER
read_number (read.StoringNumber number) = STEP_SPAWN_STORING_NUMBER
read_number read.StoringCount = STEP_SPAWN_STORING_COUNT
read_number read.StoringPlace = STEP_SPAWN_STORING_PLACE
read_number read.Identifying = STEP_SPAWN_IDENTIFYING
read_number (read.Asking id) = STEP_SPAWN_ASKING
read_number (read.Pausing id) = STEP_SPAWN_PAUSING
read_number (read.Awaiting id) = STEP_SPAWN_AWAITING
read_number (read.ReadingReply id) = STEP_SPAWN_READING_REPLY

unfoldable pub read_word : ReadStep → ℕ
read_word read.LoadingNumber = 0
read_word (read.StoringNumber number) = number
read_word read.StoringCount = 0
read_word read.StoringPlace = 0
read_word read.Identifying = 0
read_word (read.Asking id) = id
read_word (read.Pausing id) = id
read_word (read.Awaiting id) = id
read_word (read.ReadingReply id) = id

unfoldable pub reading_words_at : ℕ → FilePart → ReadStep → List ℕ
reading_words_at number (part.Header esp fd size) at = spawn_place_words number (read_number at) SPAWN_PART_HEADER esp fd size 0 0 0 0 (read_word at) 0
reading_words_at number (part.Table esp fd size entry_point headers place) at =
    spawn_place_words number (read_number at) SPAWN_PART_TABLE esp fd size entry_point headers place 0 (read_word at) 0
reading_words_at number (part.Piece fd headers child header done end place) at =
    spawn_place_words number (read_number at) SPAWN_PART_PIECE fd headers child header done end place (read_word at) 0

unfoldable pub spawn_words_at : ℕ → SpawnStep → List ℕ
spawn_words_at number (spawn.Given at) = given_words_at number at
spawn_words_at number (spawn.Opening at) = opening_words_at number at
spawn_words_at number (spawn.Reading part at) = reading_words_at number part at
spawn_words_at number (spawn.Testing at) = testing_words_at number at
spawn_words_at number (spawn.Bearing at) = bearing_words_at number at
spawn_words_at number (spawn.Finishing at) = finishing_words_at number at
spawn_words_at number (spawn.Undoing at) = undoing_words_at number at
