-- At each step of spawn it is told whether the file server is asked, and whether a reply is awaited: it is at the two steps behind each
-- request, and at no other.
use Rattle.std.proofs.Common.{◌≡◌, ℕ, Bool, true, false, List, Some, refl}
use Rattle.jos_base.specs.declared.numbers.TheConstants.{UTOP}
use Rattle.jos_base.specs.Environments.{Slot}
use Rattle.lib_os.specs.declared.service.Service.TheVariants as service
use Rattle.lib_os.specs.declared.spawn_steps.BearingStep.{BearingStep}
use Rattle.lib_os.specs.declared.spawn_steps.BearingStep.TheVariants as bearing
use Rattle.lib_os.specs.declared.spawn_steps.FilePart.{FilePart}
use Rattle.lib_os.specs.declared.spawn_steps.FinishingStep.{FinishingStep}
use Rattle.lib_os.specs.declared.spawn_steps.FinishingStep.TheVariants as finishing
use Rattle.lib_os.specs.declared.spawn_steps.GivenStep.{GivenStep}
use Rattle.lib_os.specs.declared.spawn_steps.GivenStep.TheVariants as given
use Rattle.lib_os.specs.declared.spawn_steps.OpeningStep.{OpeningStep}
use Rattle.lib_os.specs.declared.spawn_steps.OpeningStep.TheVariants as opening_step
use Rattle.lib_os.specs.declared.spawn_steps.ReadStep.{ReadStep}
use Rattle.lib_os.specs.declared.spawn_steps.ReadStep.TheVariants as read
use Rattle.lib_os.specs.declared.spawn_steps.SpawnStep.{SpawnStep}
use Rattle.lib_os.specs.declared.spawn_steps.SpawnStep.TheVariants as spawn
use Rattle.lib_os.specs.declared.spawn_steps.TestingStep.{TestingStep}
use Rattle.lib_os.specs.declared.spawn_steps.TestingStep.TheVariants as testing
use Rattle.lib_os.specs.declared.spawn_steps.UndoingStep.{UndoingStep}
use Rattle.lib_os.specs.declared.spawn_steps.UndoingStep.TheVariants as undoing
use Rattle.lib_os.specs.AbstractState.{Born, ImageRead, Stage, asked, awaiting, in_service, opening}
use Rattle.lib_os.specs.LibraryPages.{View}
use Rattle.lib_os.specs.SpawnPages.{keeps_request_page}
use Rattle.lib_os.specs.SpawnGiven.{Lists, Quotes, amid, amid_word, behind, behind_addresses, behind_path, behind_word}
use Rattle.lib_os.specs.StandsAtSpawn.{Asks, AwaitsBytes, AwaitsFile, BearingStands, FinishingStands, GivenStands, HasAskedFile, HasAskedPart}
use Rattle.lib_os.specs.StandsAtSpawn.{HasPieces, HasStack, IsAwaitingReply, IsBefore, IsFor, IsFreeOrNone, IsGivenWrongly, IsIn, IsToDrop}
use Rattle.lib_os.specs.StandsAtSpawn.{OpeningStands, ReadingStands, Refuses, StandsAtSpawn, TestingStands, UndoingStands, destination_at}
use Rattle.lib_os.specs.StandsAtSpawn.{address_outside, and_last, awaits_bytes, awaits_file, before_header, before_piece, before_table}
use Rattle.lib_os.specs.StandsAtSpawn.{by_drop, by_file, by_given, has_bytes, has_file, header_unread, no_child, no_fit, no_header, no_table}
use Rattle.lib_os.specs.StandsAtSpawn.{none_yet, string_endless, string_outside, table_unread, too_many, too_short}

-- ---- stages

-- nothing is asked there
abbrev pub is_unasked : Stage → Bool
is_unasked asked = false
is_unasked awaiting = false
is_unasked _ = true

pub lists_unasked : {b : Born} {name addresses taken : List ℕ} {stage : Stage} → Lists b name addresses taken stage → is_unasked stage ≡ true
lists_unasked (behind_path bytes whole) = refl
lists_unasked (amid name addresses taken found some few) = refl
lists_unasked (behind name addresses taken found whole) = refl

pub quotes_unasked : {b : Born} {name left taken : List ℕ} {words : List (List ℕ)} {stage : Stage} → Quotes b name left words taken stage →
    is_unasked stage ≡ true
quotes_unasked (behind_addresses name addresses taken found whole last) = refl
quotes_unasked (amid_word name address left words taken found no_end) = refl
quotes_unasked (behind_word name address left words taken found ended) = refl

wrongly_unasked : {b : Born} {path argv : ℕ} {stage : Stage} → IsGivenWrongly b path argv stage → is_unasked stage ≡ true
wrongly_unasked (address_outside name addresses taken stage lists are few outside) = lists_unasked lists
wrongly_unasked (too_many name addresses word stage lists many some) = lists_unasked lists
wrongly_unasked (string_outside name left taken words address stage quotes outside) = quotes_unasked quotes
wrongly_unasked (string_endless name left taken words address stage quotes long) = quotes_unasked quotes
wrongly_unasked (no_fit name words stage quotes more) = quotes_unasked quotes

pieces_unasked : {image : ImageRead} {pieces had : List (List ℕ)} {stage : Stage} → HasPieces image pieces had stage → is_unasked stage ≡ true
pieces_unasked none_yet = refl
pieces_unasked (and_last bytes answer piece rest next long come) = refl

-- ---- where it asks, and where it waits

-- it is in spawn, and nothing is asked
pub record IsUnasked (k : Slot) (b : Born) (path argv : ℕ) : Type 0 where
  pub stage : Stage
  pub is_in : IsIn k b path argv stage
  pub unasked : is_unasked stage ≡ true

-- it waits for the file, and a page that comes is put where that of its descriptor is
pub record AwaitsOpened (v : View) (k : Slot) (b : Born) (path argv esp fd : ℕ) : Type 0 where
  pub words : List (List ℕ)
  pub stack : HasStack v words esp
  pub awaiting_it : IsAwaitingReply k b path argv (destination_at fd)
  pub is : b.spawning ≡ Some (opening words)
  pub free : IsFreeOrNone v fd

-- it waits for bytes, and no page comes with them
pub record AwaitsPart (v : View) (k : Slot) (b : Born) (path argv : ℕ) (wanted : FilePart) : Type 0 where
  pub count : ℕ
  pub so : IsFor v b wanted count
  pub awaiting_it : IsAwaitingReply k b path argv UTOP

-- it has asked for its file, or for a part of that
pub data SpawnHasAsked (v : View) (k : Slot) (b : Born) (path argv : ℕ) : SpawnStep → Type 0 where
  asks_file : (esp fd id : ℕ) → id ≡ k.id → HasAskedFile v k b path argv esp fd →
      SpawnHasAsked v k b path argv (spawn.Opening (opening_step.OpenAwaiting esp fd id))
  asks_part : (wanted : FilePart) (id : ℕ) → id ≡ k.id → HasAskedPart v k b path argv wanted →
      SpawnHasAsked v k b path argv (spawn.Reading wanted (read.Awaiting id))

-- it waits for that
pub data SpawnAwaits (v : View) (k : Slot) (b : Born) (path argv : ℕ) : SpawnStep → Type 0 where
  expects_file : (esp fd id : ℕ) → id ≡ k.id → AwaitsOpened v k b path argv esp fd →
      SpawnAwaits v k b path argv (spawn.Opening (opening_step.ReadingOpened esp fd id))
  expects_part : (wanted : FilePart) (id : ℕ) → id ≡ k.id → AwaitsPart v k b path argv wanted →
      SpawnAwaits v k b path argv (spawn.Reading wanted (read.ReadingReply id))

pub data SpawnCalls (v : View) (k : Slot) (b : Born) (path argv : ℕ) (at : SpawnStep) : Type 0 where
  unasked : IsUnasked k b path argv → SpawnCalls v k b path argv at
  has_asked : SpawnHasAsked v k b path argv at → SpawnCalls v k b path argv at
  expects_reply : SpawnAwaits v k b path argv at → SpawnCalls v k b path argv at

-- by what it has asked
pub asked_so : {v : View} {k : Slot} {b : Born} {path argv : ℕ} {at : SpawnStep} → SpawnHasAsked v k b path argv at → IsIn k b path argv asked
asked_so (asks_file esp fd id self h) = h.found.is_in
asked_so (asks_part wanted id self h) = h.is_in

-- and by what it waits for
pub expected_so : {v : View} {k : Slot} {b : Born} {path argv : ℕ} {at : SpawnStep} → SpawnAwaits v k b path argv at →
    (destination : ℕ) × IsAwaitingReply k b path argv destination
expected_so (expects_file esp fd id self h) = (destination_at fd, h.awaiting_it)
expected_so (expects_part wanted id self h) = (UTOP, h.awaiting_it)

-- ---- by its step

module _ (v : View) (k : Slot) (b : Born) (path argv : ℕ) where
  so_far : {stage : Stage} → is_unasked stage ≡ true → IsIn k b path argv stage → IsUnasked k b path argv
  so_far {stage = stage} none h = record { stage = stage; is_in = h; unasked = none }

  given_unasked : (at : GivenStep) → GivenStands v k b path argv at → IsUnasked k b path argv
  given_unasked given.TakingGiven h = so_far (lists_unasked h.lists) h.is_in
  given_unasked (given.AddressRegion index done word) h = so_far (lists_unasked h.0.lists) h.0.is_in
  given_unasked (given.AddressEntry index done word) h = so_far (lists_unasked h.0.lists) h.0.is_in
  given_unasked (given.AddressLoading index done word) h = so_far (lists_unasked h.0.lists) h.0.is_in
  given_unasked (given.AddressFaulting index done) h = so_far (lists_unasked h.0.1.lists) h.0.1.is_in
  given_unasked (given.AddressKeeping index word) h = so_far (lists_unasked h.0.lists) h.0.is_in
  given_unasked (given.StringAddress index used) h = so_far (quotes_unasked h.quotes) h.is_in
  given_unasked (given.StringRegion index address used done) h = so_far (quotes_unasked h.0.so.quotes) h.0.so.is_in
  given_unasked (given.StringEntry index address used done) h = so_far (quotes_unasked h.0.so.quotes) h.0.so.is_in
  given_unasked (given.StringLoading index address used done) h = so_far (quotes_unasked h.0.so.quotes) h.0.so.is_in
  given_unasked (given.StringFaulting address done) h = so_far (quotes_unasked h.0.2.so.quotes) h.0.2.so.is_in
  given_unasked (given.StringKeeping index address used done word left) h = so_far refl h.0.found.is_in
  given_unasked (given.TakingStack count size) h = so_far (quotes_unasked h.has.quotes) h.has.is_in
  given_unasked (given.StringFirst count size index copied) h = so_far (quotes_unasked h.0.has.has.quotes) h.0.has.has.is_in
  given_unasked (given.StringCopying count size index copied) h = so_far (quotes_unasked h.has.has.quotes) h.has.has.is_in
  given_unasked (given.StringPutting count size index copied byte) h = so_far (quotes_unasked h.0.has.has.quotes) h.0.has.has.is_in
  given_unasked (given.StoringArgv count size) h = so_far (quotes_unasked h.has.has.quotes) h.has.has.is_in
  given_unasked (given.StoringArgc count size) h = so_far (quotes_unasked h.has.has.quotes) h.has.has.is_in

  opening_calls : (at : OpeningStep) → OpeningStands v k b path argv at → SpawnCalls v k b path argv (spawn.Opening at)
  opening_calls (opening_step.FreeRegion esp) h = unasked (so_far (quotes_unasked h.has.quotes) h.has.is_in)
  opening_calls (opening_step.FreeEntry esp fd) h = unasked (so_far (quotes_unasked h.0.has.quotes) h.0.has.is_in)
  opening_calls (opening_step.StoringMode esp fd) h = unasked (so_far (quotes_unasked h.0.has.quotes) h.0.has.is_in)
  opening_calls (opening_step.OpenIdentifying esp fd) h = unasked (so_far (quotes_unasked h.ready.has.quotes) h.ready.has.is_in)
  opening_calls (opening_step.OpenAsking esp fd id) h = unasked (so_far (quotes_unasked h.1.ready.has.quotes) h.1.ready.has.is_in)
  opening_calls (opening_step.OpenPausing esp fd id) h = unasked (so_far (quotes_unasked h.1.ready.has.quotes) h.1.ready.has.is_in)
  opening_calls (opening_step.OpenAwaiting esp fd id) h = has_asked (asks_file esp fd id h.0 h.1)
  opening_calls (opening_step.ReadingOpened esp fd id) h = by_reply h.1.so
    where
      by_reply : AwaitsFile v k b path argv fd h.1.words → SpawnCalls v k b path argv (spawn.Opening (opening_step.ReadingOpened esp fd id))
      by_reply (awaits_file waits found free) =
          expects_reply (expects_file esp fd id h.0 (record { words = h.1.words; stack = h.1.stack; awaiting_it = waits; is = found; free = free }))
      by_reply (has_file found small most refused opened) = unasked (so_far refl found.is_in)
  opening_calls (opening_step.LoadingSize esp fd) h = unasked (so_far refl h.found.is_in)

  before_unasked : (wanted : FilePart) (fd count place : ℕ) → IsBefore v k b path argv wanted fd count place → IsUnasked k b path argv
  before_unasked _ _ _ _ (before_header esp fd size so sized long) = so_far refl so.found.is_in
  before_unasked _ _ _ _ (before_table esp fd size entry_point headers place words header answer found sized stack begins many at few inside long passed come) =
      so_far refl found.is_in
  before_unasked _ _ _ _ (before_piece fd headers child header done end place so next at) = so_far (pieces_unasked so.has) so.found.is_in

  pub asks_unasked : (wanted : FilePart) → Asks v k b path argv wanted → IsUnasked k b path argv
  asks_unasked wanted h = before_unasked wanted h.fd h.count h.place h.before

  reading_calls : (wanted : FilePart) (at : ReadStep) → ReadingStands v k b path argv wanted at → SpawnCalls v k b path argv (spawn.Reading wanted at)
  reading_calls wanted read.LoadingNumber h = unasked (asks_unasked wanted h)
  reading_calls wanted (read.StoringNumber number) h = unasked (asks_unasked wanted h.0)
  reading_calls wanted read.StoringCount h = unasked (asks_unasked wanted h.asks)
  reading_calls wanted read.StoringPlace h = unasked (asks_unasked wanted h.so.asks)
  reading_calls wanted read.Identifying h = unasked (asks_unasked wanted h.so.so.asks)
  reading_calls wanted (read.Asking id) h = unasked (asks_unasked wanted h.1.so.so.asks)
  reading_calls wanted (read.Pausing id) h = unasked (asks_unasked wanted h.1.so.so.asks)
  reading_calls wanted (read.Awaiting id) h = has_asked (asks_part wanted id h.0 h.1)
  reading_calls wanted (read.ReadingReply id) h = by_reply h.1.awaits
    where
      by_reply : AwaitsBytes v k b path argv h.1.count → SpawnCalls v k b path argv (spawn.Reading wanted (read.ReadingReply id))
      by_reply (awaits_bytes waits) = expects_reply (expects_part wanted id h.0 (record { count = h.1.count; so = h.1.so; awaiting_it = waits }))
      by_reply (has_bytes bytes is_in small many each kept) = unasked (so_far refl is_in)

  testing_unasked : (at : TestingStep) → TestingStands v k b path argv at → IsUnasked k b path argv
  testing_unasked (testing.HeaderMagic esp fd size) h = so_far refl h.has.found.is_in
  testing_unasked (testing.HeaderClass esp fd size) h = so_far refl h.has.found.is_in
  testing_unasked (testing.HeaderKind esp fd size) h = so_far refl h.has.found.is_in
  testing_unasked (testing.HeaderEntryPoint esp fd size) h = so_far refl h.has.found.is_in
  testing_unasked (testing.HeaderTable esp fd size entry_point) h = so_far refl h.0.has.found.is_in
  testing_unasked (testing.HeaderLength esp fd size entry_point place) h = so_far refl h.0.has.found.is_in
  testing_unasked (testing.HeaderCount esp fd size entry_point place) h = so_far refl h.0.has.found.is_in
  testing_unasked (testing.TableLoading esp fd size entry_point headers copied) h = so_far refl h.so.found.is_in
  testing_unasked (testing.TableStoring esp fd size entry_point headers copied word) h = so_far refl h.0.so.found.is_in
  testing_unasked (testing.SegmentKind esp fd size entry_point headers header) h = so_far refl h.so.found.is_in
  testing_unasked (testing.SegmentMemory esp fd size entry_point headers header) h = so_far refl h.testing_it.so.found.is_in
  testing_unasked (testing.SegmentAddress esp fd size entry_point headers header memory) h = so_far refl h.testing_it.so.found.is_in
  testing_unasked (testing.SegmentLength esp fd size entry_point headers header va memory) h = so_far refl h.testing_it.so.found.is_in
  testing_unasked (testing.SegmentOffset esp fd size entry_point headers header va memory file_size) h = so_far refl h.testing_it.so.found.is_in
  testing_unasked (testing.OtherKind esp fd size entry_point headers header va memory other) h = so_far refl h.testing_it.so.found.is_in
  testing_unasked (testing.OtherMemory esp fd size entry_point headers header va memory other) h = so_far refl h.comparing.testing_it.so.found.is_in
  testing_unasked (testing.OtherAddress esp fd size entry_point headers header va memory other other_memory) h =
      so_far refl h.comparing.testing_it.so.found.is_in

  bearing_unasked : (at : BearingStep) → BearingStands v k b path argv at → IsUnasked k b path argv
  bearing_unasked (bearing.MakingChild esp fd entry_point headers) h = so_far refl h.so.found.is_in
  bearing_unasked (bearing.StoringRegister esp fd entry_point headers child index) h = so_far refl h.has.found.is_in
  bearing_unasked (bearing.SettingRegisters fd headers child) h = so_far refl h.has.found.is_in
  bearing_unasked (bearing.PlacingKind fd headers child header) h = so_far refl h.has.found.is_in
  bearing_unasked (bearing.PlacingMemory fd headers child header) h = so_far refl h.has.found.is_in
  bearing_unasked (bearing.PlacingAddress fd headers child header memory) h = so_far refl h.has.found.is_in
  bearing_unasked (bearing.PlacingPage fd headers child header page last) h = so_far refl h.has.found.is_in
  bearing_unasked (bearing.PieceKind fd headers child header) h = so_far (pieces_unasked h.filled.has) h.filled.found.is_in
  bearing_unasked (bearing.PieceMemory fd headers child header) h = so_far (pieces_unasked h.filled.has) h.filled.found.is_in
  bearing_unasked (bearing.PieceLength fd headers child header done) h = so_far (pieces_unasked h.filled.has) h.filled.found.is_in
  bearing_unasked (bearing.PieceOffset fd headers child header done end) h = so_far (pieces_unasked h.filled.has) h.filled.found.is_in
  bearing_unasked (bearing.PieceAddress fd headers child header done end) h = so_far refl h.0.found.is_in
  bearing_unasked (bearing.MappingHere fd headers child header va done end) h = so_far refl h.putting.found.is_in
  bearing_unasked (bearing.PieceLoading fd headers child header va done end) h = so_far refl h.putting.found.is_in
  bearing_unasked (bearing.PieceRest fd headers child header va done end first) h = so_far refl h.0.putting.found.is_in
  bearing_unasked (bearing.PiecePutting fd headers child header va done end word) h = so_far refl h.0.putting.found.is_in
  bearing_unasked (bearing.UnmappingHere fd headers child header end) h = so_far (pieces_unasked h.filled.has) h.filled.found.is_in

  finishing_unasked : (at : FinishingStep) → FinishingStands v k b path argv at → IsUnasked k b path argv
  finishing_unasked (finishing.RightsKind fd headers child header) h = so_far (pieces_unasked h.has.has) h.has.found.is_in
  finishing_unasked (finishing.RightsFlags fd headers child header) h = so_far (pieces_unasked h.has.has) h.has.found.is_in
  finishing_unasked (finishing.RightsMemory fd headers child header) h = so_far (pieces_unasked h.has.has) h.has.found.is_in
  finishing_unasked (finishing.RightsAddress fd headers child header memory) h = so_far (pieces_unasked h.has.has) h.has.found.is_in
  finishing_unasked (finishing.SharedKind fd headers child header page end other) h =
      so_far (pieces_unasked h.0.settling_it.has.has) h.0.settling_it.has.found.is_in
  finishing_unasked (finishing.SharedFlags fd headers child header page end other) h =
      so_far (pieces_unasked h.0.settling_it.has.has) h.0.settling_it.has.found.is_in
  finishing_unasked (finishing.SharedMemory fd headers child header page end other) h =
      so_far (pieces_unasked h.0.settling_it.has.has) h.0.settling_it.has.found.is_in
  finishing_unasked (finishing.SharedAddress fd headers child header page end other other_memory) h =
      so_far (pieces_unasked h.0.settling_it.has.has) h.0.settling_it.has.found.is_in
  finishing_unasked (finishing.RightsPage fd headers child header page end) h = so_far (pieces_unasked h.0.has.has) h.0.has.found.is_in
  finishing_unasked (finishing.ChildStack fd child) h = so_far (pieces_unasked h.has.has) h.has.found.is_in
  finishing_unasked (finishing.ChildUpcall fd child) h = so_far (pieces_unasked h.has.has) h.has.found.is_in
  finishing_unasked (finishing.GivingStack fd child) h = so_far (pieces_unasked h.has.has) h.has.found.is_in
  finishing_unasked (finishing.ReleasingStack fd child) h = so_far (pieces_unasked h.has) h.found.is_in
  finishing_unasked (finishing.ReleasingGiven fd child) h = so_far (pieces_unasked h.has) h.found.is_in
  finishing_unasked (finishing.ReleasingPath fd child) h = so_far (pieces_unasked h.has) h.found.is_in
  finishing_unasked (finishing.DroppingFile fd child) h = so_far (pieces_unasked h.has) h.found.is_in
  finishing_unasked (finishing.PassingRegion child region) h = so_far refl h.0.found.is_in
  finishing_unasked (finishing.PassingEntry child page) h = so_far refl h.0.found.is_in
  finishing_unasked (finishing.PassingPage child page perm) h = so_far refl h.0.found.is_in
  finishing_unasked (finishing.ChildRuns child) h = so_far refl h.found.is_in

  drop_unasked : (fd error : ℕ) → IsToDrop v k b path argv fd error → IsUnasked k b path argv
  drop_unasked fd error (too_short size words found sized less is) = so_far refl found.is_in
  drop_unasked fd error (no_header size words header answer found sized come bad is) = so_far refl found.is_in
  drop_unasked fd error (no_table size words header table answer found sized come bad is) = so_far refl found.is_in
  drop_unasked fd error (header_unread words header found of_file is) = so_far refl found.is_in
  drop_unasked fd error (table_unread words header table found of_file is) = so_far refl found.is_in
  drop_unasked fd error (no_child found of_file) = so_far refl found.is_in

  refuses_unasked : (answer : ℕ) → Refuses k b path argv answer → IsUnasked k b path argv
  refuses_unasked answer (by_given stage is_in wrongly is) = so_far (wrongly_unasked wrongly) is_in
  refuses_unasked answer (by_file words found none) = so_far refl found.is_in
  refuses_unasked answer (by_drop found) = so_far refl found.is_in

  undoing_unasked : (at : UndoingStep) → UndoingStands v k b path argv at → IsUnasked k b path argv
  undoing_unasked (undoing.DestroyingChild fd child error) h = so_far refl h.found.is_in
  undoing_unasked (undoing.ClosingFile fd error) h = drop_unasked fd error h
  undoing_unasked (undoing.UndoingStack error) h = refuses_unasked error h
  undoing_unasked (undoing.UndoingGiven error) h = refuses_unasked error h
  undoing_unasked (undoing.UndoingPath error) h = refuses_unasked error h

  pub spawn_calls : (at : SpawnStep) → StandsAtSpawn v k b path argv at → SpawnCalls v k b path argv at
  spawn_calls (spawn.Given at) h = unasked (given_unasked at h)
  spawn_calls (spawn.Opening at) h = opening_calls at h
  spawn_calls (spawn.Reading wanted at) h = reading_calls wanted at h
  spawn_calls (spawn.Testing at) h = unasked (testing_unasked at h)
  spawn_calls (spawn.Bearing at) h = unasked (bearing_unasked at h)
  spawn_calls (spawn.Finishing at) h = unasked (finishing_unasked at h)
  spawn_calls (spawn.Undoing at) h = unasked (undoing_unasked at h)

-- whichever it is, it is in spawn
pub spawn_stage : {v : View} {k : Slot} {b : Born} {path argv : ℕ} {at : SpawnStep} → SpawnCalls v k b path argv at →
    (stage : Stage) × (b.phase ≡ in_service (service.Spawn path argv) stage)
spawn_stage (unasked so) = (so.stage, so.is_in.phase)
spawn_stage (has_asked so) = (asked, (asked_so so).phase)
spawn_stage (expects_reply so) = (awaiting, (expected_so so).1.phase)

-- it keeps the page at UTEMP while it waits
pub awaits_page : {v : View} {k : Slot} {b : Born} {path argv : ℕ} {at : SpawnStep} → SpawnAwaits v k b path argv at → keeps_request_page at ≡ true
awaits_page (expects_file esp fd id self h) = refl
awaits_page (expects_part wanted id self h) = refl
