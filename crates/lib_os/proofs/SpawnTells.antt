-- The words of spawn at a step tell its number and that step again.
use Rattle.std.proofs.Common.{◌≡◌, ◌+◌, ℕ, refl}
use Rattle.lib_os.specs.declared.spawn_steps.BearingStep.{BearingStep}
use Rattle.lib_os.specs.declared.spawn_steps.BearingStep.TheVariants as bearing
use Rattle.lib_os.specs.declared.spawn_steps.FilePart.{FilePart}
use Rattle.lib_os.specs.declared.spawn_steps.FilePart.TheVariants as part
use Rattle.lib_os.specs.declared.spawn_steps.FinishingStep.{FinishingStep}
use Rattle.lib_os.specs.declared.spawn_steps.FinishingStep.TheVariants as finishing
use Rattle.lib_os.specs.declared.spawn_steps.GivenStep.{GivenStep}
use Rattle.lib_os.specs.declared.spawn_steps.GivenStep.TheVariants as given
use Rattle.lib_os.specs.declared.spawn_steps.OpeningStep.{OpeningStep}
use Rattle.lib_os.specs.declared.spawn_steps.OpeningStep.TheVariants as opening
use Rattle.lib_os.specs.declared.spawn_steps.ReadStep.{ReadStep}
use Rattle.lib_os.specs.declared.spawn_steps.ReadStep.TheVariants as read
use Rattle.lib_os.specs.declared.spawn_steps.SpawnStep.{SpawnStep}
use Rattle.lib_os.specs.declared.spawn_steps.SpawnStep.TheVariants as spawn
use Rattle.lib_os.specs.declared.spawn_steps.TestingStep.{TestingStep}
use Rattle.lib_os.specs.declared.spawn_steps.TestingStep.TheVariants as testing
use Rattle.lib_os.specs.declared.spawn_steps.UndoingStep.{UndoingStep}
use Rattle.lib_os.specs.declared.spawn_steps.UndoingStep.TheVariants as undoing
use Rattle.lib_os.specs.declared.place.Step.TheVariants as step
use Rattle.lib_os.specs.Places.{service_word, step_in}
use Rattle.lib_os.specs.SpawnPlaces.{spawn_step_in, spawn_words_at, file_part_in, read_step_in, reading_words_at, read_number, read_word}
use Rattle.lib_os.specs.SpawnPlaces.{given_step_in, given_words_at}
use Rattle.lib_os.specs.SpawnPlaces.{opening_step_in, opening_words_at}
use Rattle.lib_os.specs.SpawnPlaces.{testing_step_in, testing_words_at}
use Rattle.lib_os.specs.SpawnPlaces.{bearing_step_in, bearing_words_at}
use Rattle.lib_os.specs.SpawnPlaces.{finishing_step_in, finishing_words_at}
use Rattle.lib_os.specs.SpawnPlaces.{undoing_step_in, undoing_words_at}

-- ---- the number

given_number : (number : ℕ) (at : GivenStep) → service_word (given_words_at number at) ≡ number + 1
unfolding given_words_at
given_number number given.TakingGiven = refl
given_number number (given.AddressRegion index done word) = refl
given_number number (given.AddressEntry index done word) = refl
given_number number (given.AddressLoading index done word) = refl
given_number number (given.AddressFaulting index done) = refl
given_number number (given.AddressKeeping index word) = refl
given_number number (given.StringAddress index used) = refl
given_number number (given.StringRegion index address used done) = refl
given_number number (given.StringEntry index address used done) = refl
given_number number (given.StringLoading index address used done) = refl
given_number number (given.StringFaulting address done) = refl
given_number number (given.StringKeeping index address used done word left) = refl
given_number number (given.TakingStack count size) = refl
given_number number (given.StringFirst count size index copied) = refl
given_number number (given.StringCopying count size index copied) = refl
given_number number (given.StringPutting count size index copied byte) = refl
given_number number (given.StoringArgv count size) = refl
given_number number (given.StoringArgc count size) = refl

opening_number : (number : ℕ) (at : OpeningStep) → service_word (opening_words_at number at) ≡ number + 1
unfolding opening_words_at
opening_number number (opening.FreeRegion esp) = refl
opening_number number (opening.FreeEntry esp fd) = refl
opening_number number (opening.StoringMode esp fd) = refl
opening_number number (opening.OpenIdentifying esp fd) = refl
opening_number number (opening.OpenAsking esp fd id) = refl
opening_number number (opening.OpenPausing esp fd id) = refl
opening_number number (opening.OpenAwaiting esp fd id) = refl
opening_number number (opening.ReadingOpened esp fd id) = refl
opening_number number (opening.LoadingSize esp fd) = refl

testing_number : (number : ℕ) (at : TestingStep) → service_word (testing_words_at number at) ≡ number + 1
unfolding testing_words_at
testing_number number (testing.HeaderMagic esp fd size) = refl
testing_number number (testing.HeaderClass esp fd size) = refl
testing_number number (testing.HeaderKind esp fd size) = refl
testing_number number (testing.HeaderEntryPoint esp fd size) = refl
testing_number number (testing.HeaderTable esp fd size entry_point) = refl
testing_number number (testing.HeaderLength esp fd size entry_point place) = refl
testing_number number (testing.HeaderCount esp fd size entry_point place) = refl
testing_number number (testing.TableLoading esp fd size entry_point headers copied) = refl
testing_number number (testing.TableStoring esp fd size entry_point headers copied word) = refl
testing_number number (testing.SegmentKind esp fd size entry_point headers header) = refl
testing_number number (testing.SegmentMemory esp fd size entry_point headers header) = refl
testing_number number (testing.SegmentAddress esp fd size entry_point headers header memory) = refl
testing_number number (testing.SegmentLength esp fd size entry_point headers header va memory) = refl
testing_number number (testing.SegmentOffset esp fd size entry_point headers header va memory length) = refl
testing_number number (testing.OtherKind esp fd size entry_point headers header va memory other) = refl
testing_number number (testing.OtherMemory esp fd size entry_point headers header va memory other) = refl
testing_number number (testing.OtherAddress esp fd size entry_point headers header va memory other other_memory) = refl

bearing_number : (number : ℕ) (at : BearingStep) → service_word (bearing_words_at number at) ≡ number + 1
unfolding bearing_words_at
bearing_number number (bearing.MakingChild esp fd entry_point headers) = refl
bearing_number number (bearing.StoringRegister esp fd entry_point headers child index) = refl
bearing_number number (bearing.SettingRegisters fd headers child) = refl
bearing_number number (bearing.PlacingKind fd headers child header) = refl
bearing_number number (bearing.PlacingMemory fd headers child header) = refl
bearing_number number (bearing.PlacingAddress fd headers child header memory) = refl
bearing_number number (bearing.PlacingPage fd headers child header page last) = refl
bearing_number number (bearing.PieceKind fd headers child header) = refl
bearing_number number (bearing.PieceMemory fd headers child header) = refl
bearing_number number (bearing.PieceLength fd headers child header done) = refl
bearing_number number (bearing.PieceOffset fd headers child header done end) = refl
bearing_number number (bearing.PieceAddress fd headers child header done end) = refl
bearing_number number (bearing.MappingHere fd headers child header va done end) = refl
bearing_number number (bearing.PieceLoading fd headers child header va done end) = refl
bearing_number number (bearing.PieceRest fd headers child header va done end first) = refl
bearing_number number (bearing.PiecePutting fd headers child header va done end word) = refl
bearing_number number (bearing.UnmappingHere fd headers child header end) = refl

finishing_number : (number : ℕ) (at : FinishingStep) → service_word (finishing_words_at number at) ≡ number + 1
unfolding finishing_words_at
finishing_number number (finishing.RightsKind fd headers child header) = refl
finishing_number number (finishing.RightsFlags fd headers child header) = refl
finishing_number number (finishing.RightsMemory fd headers child header) = refl
finishing_number number (finishing.RightsAddress fd headers child header memory) = refl
finishing_number number (finishing.SharedKind fd headers child header page end other) = refl
finishing_number number (finishing.SharedFlags fd headers child header page end other) = refl
finishing_number number (finishing.SharedMemory fd headers child header page end other) = refl
finishing_number number (finishing.SharedAddress fd headers child header page end other other_memory) = refl
finishing_number number (finishing.RightsPage fd headers child header page end) = refl
finishing_number number (finishing.ChildStack fd child) = refl
finishing_number number (finishing.ChildUpcall fd child) = refl
finishing_number number (finishing.GivingStack fd child) = refl
finishing_number number (finishing.ReleasingStack fd child) = refl
finishing_number number (finishing.ReleasingGiven fd child) = refl
finishing_number number (finishing.ReleasingPath fd child) = refl
finishing_number number (finishing.DroppingFile fd child) = refl
finishing_number number (finishing.PassingRegion child region) = refl
finishing_number number (finishing.PassingEntry child page) = refl
finishing_number number (finishing.PassingPage child page perm) = refl
finishing_number number (finishing.ChildRuns child) = refl

undoing_number : (number : ℕ) (at : UndoingStep) → service_word (undoing_words_at number at) ≡ number + 1
unfolding undoing_words_at
undoing_number number (undoing.DestroyingChild fd child error) = refl
undoing_number number (undoing.ClosingFile fd error) = refl
undoing_number number (undoing.UndoingStack error) = refl
undoing_number number (undoing.UndoingGiven error) = refl
undoing_number number (undoing.UndoingPath error) = refl

reading_number : (number : ℕ) (wanted : FilePart) (at : ReadStep) → service_word (reading_words_at number wanted at) ≡ number + 1
unfolding reading_words_at
reading_number number (part.Header esp fd size) at = refl
reading_number number (part.Table esp fd size entry_point headers place) at = refl
reading_number number (part.Piece fd headers child header done end place) at = refl

pub spawn_number : (number : ℕ) (at : SpawnStep) → service_word (spawn_words_at number at) ≡ number + 1
unfolding spawn_words_at
spawn_number number (spawn.Given at) = given_number number at
spawn_number number (spawn.Opening at) = opening_number number at
spawn_number number (spawn.Reading wanted at) = reading_number number wanted at
spawn_number number (spawn.Testing at) = testing_number number at
spawn_number number (spawn.Bearing at) = bearing_number number at
spawn_number number (spawn.Finishing at) = finishing_number number at
spawn_number number (spawn.Undoing at) = undoing_number number at

-- ---- the step

given_back : (number : ℕ) (at : GivenStep) → step_in (given_words_at number at) ≡ step.Spawning (spawn.Given at)
unfolding step_in spawn_step_in given_step_in given_words_at
given_back number given.TakingGiven = refl
given_back number (given.AddressRegion index done word) = refl
given_back number (given.AddressEntry index done word) = refl
given_back number (given.AddressLoading index done word) = refl
given_back number (given.AddressFaulting index done) = refl
given_back number (given.AddressKeeping index word) = refl
given_back number (given.StringAddress index used) = refl
given_back number (given.StringRegion index address used done) = refl
given_back number (given.StringEntry index address used done) = refl
given_back number (given.StringLoading index address used done) = refl
given_back number (given.StringFaulting address done) = refl
given_back number (given.StringKeeping index address used done word left) = refl
given_back number (given.TakingStack count size) = refl
given_back number (given.StringFirst count size index copied) = refl
given_back number (given.StringCopying count size index copied) = refl
given_back number (given.StringPutting count size index copied byte) = refl
given_back number (given.StoringArgv count size) = refl
given_back number (given.StoringArgc count size) = refl

opening_back : (number : ℕ) (at : OpeningStep) → step_in (opening_words_at number at) ≡ step.Spawning (spawn.Opening at)
unfolding step_in spawn_step_in opening_step_in opening_words_at
opening_back number (opening.FreeRegion esp) = refl
opening_back number (opening.FreeEntry esp fd) = refl
opening_back number (opening.StoringMode esp fd) = refl
opening_back number (opening.OpenIdentifying esp fd) = refl
opening_back number (opening.OpenAsking esp fd id) = refl
opening_back number (opening.OpenPausing esp fd id) = refl
opening_back number (opening.OpenAwaiting esp fd id) = refl
opening_back number (opening.ReadingOpened esp fd id) = refl
opening_back number (opening.LoadingSize esp fd) = refl

testing_back : (number : ℕ) (at : TestingStep) → step_in (testing_words_at number at) ≡ step.Spawning (spawn.Testing at)
unfolding step_in spawn_step_in testing_step_in testing_words_at
testing_back number (testing.HeaderMagic esp fd size) = refl
testing_back number (testing.HeaderClass esp fd size) = refl
testing_back number (testing.HeaderKind esp fd size) = refl
testing_back number (testing.HeaderEntryPoint esp fd size) = refl
testing_back number (testing.HeaderTable esp fd size entry_point) = refl
testing_back number (testing.HeaderLength esp fd size entry_point place) = refl
testing_back number (testing.HeaderCount esp fd size entry_point place) = refl
testing_back number (testing.TableLoading esp fd size entry_point headers copied) = refl
testing_back number (testing.TableStoring esp fd size entry_point headers copied word) = refl
testing_back number (testing.SegmentKind esp fd size entry_point headers header) = refl
testing_back number (testing.SegmentMemory esp fd size entry_point headers header) = refl
testing_back number (testing.SegmentAddress esp fd size entry_point headers header memory) = refl
testing_back number (testing.SegmentLength esp fd size entry_point headers header va memory) = refl
testing_back number (testing.SegmentOffset esp fd size entry_point headers header va memory length) = refl
testing_back number (testing.OtherKind esp fd size entry_point headers header va memory other) = refl
testing_back number (testing.OtherMemory esp fd size entry_point headers header va memory other) = refl
testing_back number (testing.OtherAddress esp fd size entry_point headers header va memory other other_memory) = refl

bearing_back : (number : ℕ) (at : BearingStep) → step_in (bearing_words_at number at) ≡ step.Spawning (spawn.Bearing at)
unfolding step_in spawn_step_in bearing_step_in bearing_words_at
bearing_back number (bearing.MakingChild esp fd entry_point headers) = refl
bearing_back number (bearing.StoringRegister esp fd entry_point headers child index) = refl
bearing_back number (bearing.SettingRegisters fd headers child) = refl
bearing_back number (bearing.PlacingKind fd headers child header) = refl
bearing_back number (bearing.PlacingMemory fd headers child header) = refl
bearing_back number (bearing.PlacingAddress fd headers child header memory) = refl
bearing_back number (bearing.PlacingPage fd headers child header page last) = refl
bearing_back number (bearing.PieceKind fd headers child header) = refl
bearing_back number (bearing.PieceMemory fd headers child header) = refl
bearing_back number (bearing.PieceLength fd headers child header done) = refl
bearing_back number (bearing.PieceOffset fd headers child header done end) = refl
bearing_back number (bearing.PieceAddress fd headers child header done end) = refl
bearing_back number (bearing.MappingHere fd headers child header va done end) = refl
bearing_back number (bearing.PieceLoading fd headers child header va done end) = refl
bearing_back number (bearing.PieceRest fd headers child header va done end first) = refl
bearing_back number (bearing.PiecePutting fd headers child header va done end word) = refl
bearing_back number (bearing.UnmappingHere fd headers child header end) = refl

finishing_back : (number : ℕ) (at : FinishingStep) → step_in (finishing_words_at number at) ≡ step.Spawning (spawn.Finishing at)
unfolding step_in spawn_step_in finishing_step_in finishing_words_at
finishing_back number (finishing.RightsKind fd headers child header) = refl
finishing_back number (finishing.RightsFlags fd headers child header) = refl
finishing_back number (finishing.RightsMemory fd headers child header) = refl
finishing_back number (finishing.RightsAddress fd headers child header memory) = refl
finishing_back number (finishing.SharedKind fd headers child header page end other) = refl
finishing_back number (finishing.SharedFlags fd headers child header page end other) = refl
finishing_back number (finishing.SharedMemory fd headers child header page end other) = refl
finishing_back number (finishing.SharedAddress fd headers child header page end other other_memory) = refl
finishing_back number (finishing.RightsPage fd headers child header page end) = refl
finishing_back number (finishing.ChildStack fd child) = refl
finishing_back number (finishing.ChildUpcall fd child) = refl
finishing_back number (finishing.GivingStack fd child) = refl
finishing_back number (finishing.ReleasingStack fd child) = refl
finishing_back number (finishing.ReleasingGiven fd child) = refl
finishing_back number (finishing.ReleasingPath fd child) = refl
finishing_back number (finishing.DroppingFile fd child) = refl
finishing_back number (finishing.PassingRegion child region) = refl
finishing_back number (finishing.PassingEntry child page) = refl
finishing_back number (finishing.PassingPage child page perm) = refl
finishing_back number (finishing.ChildRuns child) = refl

undoing_back : (number : ℕ) (at : UndoingStep) → step_in (undoing_words_at number at) ≡ step.Spawning (spawn.Undoing at)
unfolding step_in spawn_step_in undoing_step_in undoing_words_at
undoing_back number (undoing.DestroyingChild fd child error) = refl
undoing_back number (undoing.ClosingFile fd error) = refl
undoing_back number (undoing.UndoingStack error) = refl
undoing_back number (undoing.UndoingGiven error) = refl
undoing_back number (undoing.UndoingPath error) = refl

header_back : (number esp fd size : ℕ) (at : ReadStep) →
    step_in (reading_words_at number (part.Header esp fd size) at) ≡ step.Spawning (spawn.Reading (part.Header esp fd size) at)
unfolding step_in spawn_step_in file_part_in read_step_in reading_words_at read_number read_word
header_back number esp fd size read.LoadingNumber = refl
header_back number esp fd size (read.StoringNumber kept) = refl
header_back number esp fd size read.StoringCount = refl
header_back number esp fd size read.StoringPlace = refl
header_back number esp fd size read.Identifying = refl
header_back number esp fd size (read.Asking id) = refl
header_back number esp fd size (read.Pausing id) = refl
header_back number esp fd size (read.Awaiting id) = refl
header_back number esp fd size (read.ReadingReply id) = refl

table_back : (number esp fd size entry_point headers place : ℕ) (at : ReadStep) →
    step_in (reading_words_at number (part.Table esp fd size entry_point headers place) at) ≡ step.Spawning (spawn.Reading (part.Table esp fd size entry_point headers place) at)
unfolding step_in spawn_step_in file_part_in read_step_in reading_words_at read_number read_word
table_back number esp fd size entry_point headers place read.LoadingNumber = refl
table_back number esp fd size entry_point headers place (read.StoringNumber kept) = refl
table_back number esp fd size entry_point headers place read.StoringCount = refl
table_back number esp fd size entry_point headers place read.StoringPlace = refl
table_back number esp fd size entry_point headers place read.Identifying = refl
table_back number esp fd size entry_point headers place (read.Asking id) = refl
table_back number esp fd size entry_point headers place (read.Pausing id) = refl
table_back number esp fd size entry_point headers place (read.Awaiting id) = refl
table_back number esp fd size entry_point headers place (read.ReadingReply id) = refl

piece_back : (number fd headers child header done end place : ℕ) (at : ReadStep) →
    step_in (reading_words_at number (part.Piece fd headers child header done end place) at) ≡ step.Spawning (spawn.Reading (part.Piece fd headers child header done end place) at)
unfolding step_in spawn_step_in file_part_in read_step_in reading_words_at read_number read_word
piece_back number fd headers child header done end place read.LoadingNumber = refl
piece_back number fd headers child header done end place (read.StoringNumber kept) = refl
piece_back number fd headers child header done end place read.StoringCount = refl
piece_back number fd headers child header done end place read.StoringPlace = refl
piece_back number fd headers child header done end place read.Identifying = refl
piece_back number fd headers child header done end place (read.Asking id) = refl
piece_back number fd headers child header done end place (read.Pausing id) = refl
piece_back number fd headers child header done end place (read.Awaiting id) = refl
piece_back number fd headers child header done end place (read.ReadingReply id) = refl

reading_back : (number : ℕ) (wanted : FilePart) (at : ReadStep) → step_in (reading_words_at number wanted at) ≡ step.Spawning (spawn.Reading wanted at)
reading_back number (part.Header esp fd size) at = header_back number esp fd size at
reading_back number (part.Table esp fd size entry_point headers place) at = table_back number esp fd size entry_point headers place at
reading_back number (part.Piece fd headers child header done end place) at = piece_back number fd headers child header done end place at

pub spawn_back : (number : ℕ) (at : SpawnStep) → step_in (spawn_words_at number at) ≡ step.Spawning at
unfolding spawn_words_at
spawn_back number (spawn.Given at) = given_back number at
spawn_back number (spawn.Opening at) = opening_back number at
spawn_back number (spawn.Reading wanted at) = reading_back number wanted at
spawn_back number (spawn.Testing at) = testing_back number at
spawn_back number (spawn.Bearing at) = bearing_back number at
spawn_back number (spawn.Finishing at) = finishing_back number at
spawn_back number (spawn.Undoing at) = undoing_back number at
