-- An environment in service pipe, and in read, write or stat on an end of a pipe: what is so at each step. While it holds the lock of the pipe no
-- other changes its page (`LocksStand`), so that what it has read there stays. What the test for a closed pipe has read counts in the turn in
-- which it was read alone.
-- (MIT 6.828, lab 5: lib/pipe.c.)
use Rattle.std.specs.Prelude.{◌≡◌, ◌≢◌, ◌<◌, ◌≤◌, ℕ, zero, suc, ◌/◌, ◌==◌, nat_le, Bool, true, false, is_some, List, [], ◌∷◌, ◌++◌, drop, length, Some, None}
use Rattle.std.specs.Prelude.{not, slice_index}
use Rattle.jos_base.specs.declared.numbers.TheConstants.{PGSIZE}
use Rattle.jos_base.specs.Environments.{Slot, is_running}
use Rattle.jos_base.specs.Reach.{Entry}
use Rattle.lib_os.specs.declared.numbers.TheConstants.{DESCRIPTORS, DEVICE_PIPE, PIPEBUFSIZ, STAT_SIZE}
use Rattle.lib_os.specs.declared.place.PipeStep.{PipeStep}
use Rattle.lib_os.specs.declared.place.PipeStep.TheVariants as pipe
use Rattle.lib_os.specs.declared.service.Service.{Service}
use Rattle.lib_os.specs.declared.service.Service.TheVariants as service
use Rattle.lib_os.specs.AbstractState.{Born, Stage, entered, gathering, moving}
use Rattle.lib_os.specs.DescriptorPages.{device_of, held_of, lock_of, mode_of, pipe_byte, read_of, written_of}
use Rattle.lib_os.specs.Fence.{is_buffer}
use Rattle.lib_os.specs.InService.{HasTable, IsDupping, IsExiting, IsIn, IsLowestFree, IsOpen}
use Rattle.lib_os.specs.LibraryPages.{View, HasTaken}
use Rattle.lib_os.specs.Rows.{AreBytes, EntryRow, descriptor_page, pipe_page}
use Rattle.lib_os.specs.StandsInHandler.{HasBytes, IsEndOpen, StandsDelivering, wanted_of}

-- ---- the page of a pipe

-- what is so of the bytes of the pipe's page of a descriptor
pub record AtPipe (v : View) (fd : ℕ) (says : List ℕ → Type 0) : Type 0 where
  pub page : Entry
  pub lies : v.row (pipe_page fd) ≡ Some page
  pub so : says (v.bytes page.frame)

-- ---- service pipe

-- two descriptors are the lowest that are free
pub record AreLowestFree (row : EntryRow) (reading writing : ℕ) : Type 0 where
  pub order : reading < writing
  pub below : writing < DESCRIPTORS
  pub lower : (fd : ℕ) → fd < writing → fd ≢ reading → IsOpen row fd

-- The first is found, and none between it and the one at hand is free.
pub record IsLookingForSecond (v : View) (k : Slot) (b : Born) (reading fd : ℕ) : Type 0 where
  pub is_in : IsIn k b service.Pipe entered
  pub lowest : IsLowestFree v.row reading
  pub order : reading < fd
  pub below : fd < DESCRIPTORS
  pub between : (other : ℕ) → other < fd → other ≢ reading → IsOpen v.row other
  pub table : HasTable v

-- a page is a descriptor's that tells this
pub record TellsEnd (v : View) (fd device mode : ℕ) : Type 0 where
  pub entry : Entry
  pub stands : v.row (descriptor_page fd) ≡ Some entry
  pub device_is : device_of (v.bytes entry.frame) ≡ device
  pub mode_is : mode_of (v.bytes entry.frame) ≡ mode

-- The pages of the descriptors are made so far; a page that is not there is none.
abbrev pub HasNone : View → ℕ → Type 0
HasNone v p = v.row p ≡ None

abbrev pub MakesSoFar : PipeStep → View → ℕ → ℕ → Type 0
MakesSoFar (pipe.TakingReading _ _) v reading writing = HasNone v (descriptor_page reading) × HasNone v (descriptor_page writing) × HasNone v (pipe_page reading)
MakesSoFar (pipe.StoringReading _ _) v reading writing = TellsEnd v reading 0 0 × HasNone v (descriptor_page writing) × HasNone v (pipe_page reading)
MakesSoFar (pipe.TakingWriting _ _) v reading writing =
    TellsEnd v reading DEVICE_PIPE 0 × HasNone v (descriptor_page writing) × HasNone v (pipe_page reading)
MakesSoFar (pipe.StoringWriting _ _) v reading writing = TellsEnd v reading DEVICE_PIPE 0 × TellsEnd v writing 0 0 × HasNone v (pipe_page reading)
MakesSoFar (pipe.StoringEndMode _ _) v reading writing =
    TellsEnd v reading DEVICE_PIPE 0 × TellsEnd v writing DEVICE_PIPE 0 × HasNone v (pipe_page reading)
MakesSoFar (pipe.TakingPipe _ _) v reading writing =
    TellsEnd v reading DEVICE_PIPE 0 × TellsEnd v writing DEVICE_PIPE 1 × HasNone v (pipe_page reading)
MakesSoFar (pipe.MappingPipe _ _) v reading writing =
    TellsEnd v reading DEVICE_PIPE 0 × TellsEnd v writing DEVICE_PIPE 1
    × AtPipe v reading (λ page. (lock_of page ≡ 0) × (read_of page ≡ 0) × (written_of page ≡ 0))
MakesSoFar _ v reading writing = ⊥

pub record IsMakingPipe (v : View) (k : Slot) (b : Born) (at : PipeStep) (reading writing : ℕ) : Type 0 where
  pub is_in : IsIn k b service.Pipe entered
  pub lowest : AreLowestFree v.row reading writing
  pub so_far : MakesSoFar at v reading writing
  pub none : HasNone v (pipe_page writing)

-- ---- bytes that are moved

-- read has taken these bytes of the pipe
abbrev pub stage_taken : List ℕ → Stage
stage_taken [] = entered
stage_taken (byte ∷ rest) = moving (byte ∷ rest) (length (byte ∷ rest))

-- write has put so many of these
abbrev pub stage_put : List ℕ → ℕ → Stage
stage_put bytes zero = gathering bytes
stage_put bytes (suc n) = moving (drop (suc n) bytes) (suc n)

-- Read has taken so many bytes, which its page has.
pub record IsReadingPipe (v : View) (k : Slot) (b : Born) (fd va len done : ℕ) : Type 0 where
  pub taken : List ℕ
  pub is_in : IsIn k b (service.Read fd va len) (stage_taken taken)
  pub below : fd < DESCRIPTORS
  pub open_end : IsEndOpen v fd 0
  pub many : length taken ≡ done
  pub inside : is_buffer va (wanted_of len) ≡ true
  pub small : AreBytes taken
  pub kept : HasTaken v taken done

-- Write has put so many of its bytes, all of which its page has.
pub record IsWritingPipe (v : View) (k : Slot) (b : Born) (fd va len done : ℕ) : Type 0 where
  pub bytes : List ℕ
  pub is_in : IsIn k b (service.Write fd va len) (stage_put bytes done)
  pub below : fd < DESCRIPTORS
  pub open_end : IsEndOpen v fd 1
  pub many : length bytes ≡ wanted_of len
  pub small : AreBytes bytes
  pub kept : HasTaken v bytes (length bytes)

abbrev pub HasMoved : View → Slot → Born → Service → ℕ → Type 0
HasMoved v k b (service.Read fd va len) done = IsReadingPipe v k b fd va len done
HasMoved v k b (service.Write fd va len) done = IsWritingPipe v k b fd va len done
HasMoved v k b _ done = ⊥

-- how many it moves at most
abbrev pub most_moved : Service → ℕ
most_moved (service.Read fd va len) = wanted_of len
most_moved (service.Write fd va len) = wanted_of len
most_moved _ = 0

-- it wants to move more
abbrev pub IsMoving : View → Slot → Born → Service → ℕ → Type 0
IsMoving v k b s done = HasMoved v k b s done × (done < most_moved s)

-- Read tests whether the other end is closed only where it has taken none.
abbrev pub MayTest : Service → ℕ → Type 0
MayTest (service.Read fd va len) done = done ≡ 0
MayTest _ done = Unit {0}

-- it wants to move more, and tests that
abbrev pub IsTesting : View → Slot → Born → Service → ℕ → Type 0
IsTesting v k b s done = HasMoved v k b s done × (done < most_moved s) × MayTest s done

-- the pipe has no byte to take, or no room for one
abbrev pub is_still : Service → List ℕ → Bool
is_still (service.Write fd va len) page = nat_le PIPEBUFSIZ (held_of page)
is_still _ page = held_of page == 0

-- how many bytes its own end has moved, and how many the other
abbrev pub own_position : Service → List ℕ → ℕ
own_position (service.Write fd va len) page = written_of page
own_position _ page = read_of page

abbrev pub other_position : Service → List ℕ → ℕ
other_position (service.Write fd va len) page = read_of page
other_position _ page = written_of page

-- the descriptor of a service on a pipe
abbrev pub end_given : Service → ℕ
end_given (service.Read fd va len) = fd
end_given (service.Write fd va len) = fd
end_given (service.Stat fd va) = fd
end_given _ = 0

-- and what is so of the page of its pipe
abbrev pub OfPipe : View → Service → (List ℕ → Type 0) → Type 0
OfPipe v s says = AtPipe v (end_given s) says

-- ---- what counts in one turn

-- The count of its turns was so, and what is told is so still in that turn.
abbrev pub Told : Slot → ℕ → Type 0 → Type 0
Told k runs says = (runs ≤ k.runs) × (is_running k.status ≡ true → k.runs ≡ runs → says)

-- It has its id, or has not asked for it yet; where it has, the test has told in a turn that the pipe may be moved from or to.
abbrev pub TriesAgain : View → Slot → Service → ℕ → ℕ → Type 0
TriesAgain v k s zero runs = Unit {0}
TriesAgain v k s (suc id) runs = (suc id ≡ k.id) × Told k runs (OfPipe v s (λ page. is_still s page ≡ false))

-- It has found, holding the lock, that it may not: then it was another turn.
abbrev pub HasTried : Slot → ℕ → ℕ → Type 0
HasTried k zero runs = Unit {0}
HasTried k (suc id) runs = (suc id ≡ k.id) × (runs < k.runs)

-- the counts of the frames of the descriptor's page and of the pipe's
pub record AreCounted (v : View) (fd : ℕ) (says : ℕ → ℕ → Type 0) : Type 0 where
  pub entry : Entry
  pub page : Entry
  pub stands : v.row (descriptor_page fd) ≡ Some entry
  pub lies : v.row (pipe_page fd) ≡ Some page
  pub so : says (v.counts entry.frame) (v.counts page.frame)

-- the entry of the page with a number has this word, by its frame
abbrev pub HasEntryWord : View → ℕ → ℕ → Type 0
HasEntryWord v p word = (entry : Entry) × (v.row p ≡ Some entry) × (entry.frame ≡ word / PGSIZE)

-- ---- stat

pub record IsTellingPipe (v : View) (k : Slot) (b : Born) (fd va mode : ℕ) : Type 0 where
  pub is_in : IsIn k b (service.Stat fd va) entered
  pub below : fd < DESCRIPTORS
  pub open_end : IsEndOpen v fd mode
  pub inside : is_buffer va STAT_SIZE ≡ true

abbrev pub TellsPipe : View → Slot → Born → ℕ → ℕ → Type 0
TellsPipe v k b fd va = (mode : ℕ) × IsTellingPipe v k b fd va mode

-- ---- descriptors that are dropped

-- a page stands where that of the pipe of a descriptor would
abbrev pub HasPipePage : EntryRow → ℕ → Type 0
HasPipePage row fd = is_some (row (pipe_page fd)) ≡ true

-- ---- at each step

-- read or write, which has taken its page
abbrev pub StandsMoving : View → Slot → Born → Service → PipeStep → Type 0
StandsMoving v k b s (pipe.Locking done id runs) = IsMoving v k b s done × TriesAgain v k s id runs
StandsMoving v k b s (pipe.LockPausing done) = IsMoving v k b s done
StandsMoving v k b s (pipe.ReadFrom done id runs) = IsMoving v k b s done × TriesAgain v k s id runs
StandsMoving v k b s (pipe.ReadTo done id runs from) =
    IsMoving v k b s done × TriesAgain v k s id runs × OfPipe v s (λ page. read_of page ≡ from)
StandsMoving v k b (service.Read fd va len) (pipe.LoadingHeld done from) =
    IsMoving v k b (service.Read fd va len) done × AtPipe v fd (λ page. (read_of page ≡ from) × (held_of page ≢ 0))
StandsMoving v k b (service.Read fd va len) (pipe.KeepingHeld done from byte) =
    IsMoving v k b (service.Read fd va len) done
    × AtPipe v fd (λ page. (read_of page ≡ from) × (held_of page ≢ 0) × (pipe_byte page from ≡ byte))
StandsMoving v k b (service.Read fd va len) (pipe.TakingHeld done from) =
    (moving : IsMoving v k b (service.Read fd va len) done)
    × AtPipe v fd (λ page. (read_of page ≡ from) × (held_of page ≢ 0) × HasTaken v (moving.0.taken ++ pipe_byte page from ∷ []) (suc done))
StandsMoving v k b (service.Write fd va len) (pipe.LoadingOwn done to) =
    IsMoving v k b (service.Write fd va len) done × AtPipe v fd (λ page. (written_of page ≡ to) × (held_of page < PIPEBUFSIZ))
StandsMoving v k b (service.Write fd va len) (pipe.PuttingOwn done to byte) =
    (moving : IsMoving v k b (service.Write fd va len) done) × (slice_index moving.0.bytes done ≡ byte)
    × AtPipe v fd (λ page. (written_of page ≡ to) × (held_of page < PIPEBUFSIZ))
StandsMoving v k b (service.Write fd va len) (pipe.Putting done to) =
    (moving : IsMoving v k b (service.Write fd va len) done)
    × AtPipe v fd (λ page. (written_of page ≡ to) × (held_of page < PIPEBUFSIZ) × (pipe_byte page to ≡ slice_index moving.0.bytes done))
StandsMoving v k b s (pipe.UnlockingMoved done) = HasMoved v k b s done × (0 < done) × (done ≤ most_moved s)
StandsMoving v k b (service.Read fd va len) (pipe.UnlockingEnd done) =
    HasBytes v k b (service.Read fd va len) 0 done × (fd < DESCRIPTORS) × IsEndOpen v fd 0
StandsMoving v k b s (pipe.UnlockingTest done id runs) = IsTesting v k b s done × HasTried k id runs
StandsMoving v k b s (pipe.TestIdentifying done) = IsTesting v k b s done
StandsMoving v k b s (pipe.TestRuns done id) = IsTesting v k b s done × (id ≡ k.id)
StandsMoving v k b s (pipe.TestAgain done id runs) = IsTesting v k b s done × (id ≡ k.id) × (runs < k.runs)
StandsMoving v k b s (pipe.TestOwn done id runs) = IsTesting v k b s done × (id ≡ k.id) × (runs ≤ k.runs)
StandsMoving v k b s (pipe.TestOther done id runs own) =
    IsTesting v k b s done × (id ≡ k.id) × Told k runs (OfPipe v s (λ page. own_position s page ≡ own))
StandsMoving v k b s (pipe.TestDescriptor done id runs) =
    IsTesting v k b s done × (id ≡ k.id) × Told k runs (OfPipe v s (λ page. is_still s page ≡ true))
StandsMoving v k b s (pipe.TestDescriptorCount done id runs word) =
    IsTesting v k b s done × (id ≡ k.id) × HasEntryWord v (descriptor_page (end_given s)) word
    × Told k runs (OfPipe v s (λ page. is_still s page ≡ true))
StandsMoving v k b s (pipe.TestPipe done id runs count) =
    IsTesting v k b s done × (id ≡ k.id)
    × Told k runs (OfPipe v s (λ page. is_still s page ≡ true) × AreCounted v (end_given s) (λ one pages. one ≡ count))
StandsMoving v k b s (pipe.TestPipeCount done id runs count word) =
    IsTesting v k b s done × (id ≡ k.id) × HasEntryWord v (pipe_page (end_given s)) word
    × Told k runs (OfPipe v s (λ page. is_still s page ≡ true) × AreCounted v (end_given s) (λ one pages. one ≡ count))
StandsMoving v k b s (pipe.TestRunsAgain done id runs closed) =
    IsTesting v k b s done × (id ≡ k.id)
    × Told k runs (OfPipe v s (λ page. is_still s page ≡ true) × AreCounted v (end_given s) (λ one pages. (one == pages) ≡ not (closed == 0)))
StandsMoving v k b s (pipe.TestPausing done) = IsMoving v k b s done
StandsMoving v k b _ _ = ⊥

-- read or write on an end, before it has a page
pub record IsAtEnd (v : View) (k : Slot) (b : Born) (s : Service) (mode : ℕ) : Type 0 where
  pub is_in : IsIn k b s entered
  pub below : end_given s < DESCRIPTORS
  pub open_end : IsEndOpen v (end_given s) mode

abbrev pub buffer_given : Service → ℕ
buffer_given (service.Read fd va len) = va
buffer_given (service.Write fd va len) = va
buffer_given _ = 0

-- the mode of the end that it needs
abbrev pub mode_wanted : Service → ℕ
mode_wanted (service.Write fd va len) = 1
mode_wanted _ = 0

-- at the steps of read and write on an end
abbrev pub StandsOnPipe : View → Slot → Born → Service → PipeStep → Type 0
StandsOnPipe v k b s pipe.EndMode = (mode : ℕ) × IsAtEnd v k b s mode
StandsOnPipe v k b s pipe.TakingBytes =
    IsAtEnd v k b s (mode_wanted s) × (is_buffer (buffer_given s) (most_moved s) ≡ true) × (0 < most_moved s)
StandsOnPipe v k b s at = StandsMoving v k b s at

-- at each step; ⊥ for one that the service has not
abbrev pub StandsAtPipe : View → Slot → Born → Service → PipeStep → Type 0
StandsAtPipe v k b service.Pipe (pipe.SecondEntry reading fd) = IsLookingForSecond v k b reading fd
StandsAtPipe v k b service.Pipe (pipe.TakingReading reading writing) =
    IsMakingPipe v k b (pipe.TakingReading reading writing) reading writing
StandsAtPipe v k b service.Pipe (pipe.StoringReading reading writing) = IsMakingPipe v k b (pipe.StoringReading reading writing) reading writing
StandsAtPipe v k b service.Pipe (pipe.TakingWriting reading writing) = IsMakingPipe v k b (pipe.TakingWriting reading writing) reading writing
StandsAtPipe v k b service.Pipe (pipe.StoringWriting reading writing) = IsMakingPipe v k b (pipe.StoringWriting reading writing) reading writing
StandsAtPipe v k b service.Pipe (pipe.StoringEndMode reading writing) = IsMakingPipe v k b (pipe.StoringEndMode reading writing) reading writing
StandsAtPipe v k b service.Pipe (pipe.TakingPipe reading writing) = IsMakingPipe v k b (pipe.TakingPipe reading writing) reading writing
StandsAtPipe v k b service.Pipe (pipe.MappingPipe reading writing) = IsMakingPipe v k b (pipe.MappingPipe reading writing) reading writing
StandsAtPipe v k b (service.Read fd va len) at = StandsOnPipe v k b (service.Read fd va len) at
StandsAtPipe v k b (service.Write fd va len) at = StandsOnPipe v k b (service.Write fd va len) at
StandsAtPipe v k b (service.Stat fd va) pipe.StatLocking = TellsPipe v k b fd va
StandsAtPipe v k b (service.Stat fd va) pipe.StatPausing = TellsPipe v k b fd va
StandsAtPipe v k b (service.Stat fd va) pipe.StatFrom = TellsPipe v k b fd va
StandsAtPipe v k b (service.Stat fd va) (pipe.StatTo from) = TellsPipe v k b fd va × AtPipe v fd (λ page. read_of page ≡ from)
StandsAtPipe v k b (service.Stat fd va) (pipe.StatUnlocking held) =
    StandsDelivering (service.Stat fd va) 0 (suc held) k b × (held ≤ PIPEBUFSIZ) × ((mode : ℕ) × (fd < DESCRIPTORS) × IsEndOpen v fd mode)
StandsAtPipe v k b (service.Close fd) (pipe.PipeEntry at) = IsIn k b (service.Close fd) entered × (at ≡ fd) × (fd < DESCRIPTORS) × IsOpen v.row fd
StandsAtPipe v k b (service.Close fd) (pipe.DroppingEnd at) =
    IsIn k b (service.Close fd) entered × (at ≡ fd) × (fd < DESCRIPTORS) × IsOpen v.row fd × HasPipePage v.row fd
StandsAtPipe v k b (service.Close fd) (pipe.DroppingPipe at) =
    IsIn k b (service.Close fd) entered × (at ≡ fd) × (fd < DESCRIPTORS) × HasNone v (descriptor_page fd) × HasPipePage v.row fd
StandsAtPipe v k b service.Exit (pipe.PipeEntry fd) = IsExiting v k b fd × IsOpen v.row fd
StandsAtPipe v k b service.Exit (pipe.DroppingEnd fd) = IsExiting v k b fd × IsOpen v.row fd × HasPipePage v.row fd
StandsAtPipe v k b service.Exit (pipe.DroppingPipe fd) = IsExiting v k b fd × HasNone v (descriptor_page fd) × HasPipePage v.row fd
StandsAtPipe v k b (service.Dup old new) (pipe.PipeEntry at) = IsDupping v k b old new × (at ≡ new) × IsOpen v.row new
StandsAtPipe v k b (service.Dup old new) (pipe.DroppingEnd at) = IsDupping v k b old new × (at ≡ new) × IsOpen v.row new × HasPipePage v.row new
StandsAtPipe v k b (service.Dup old new) (pipe.DroppingPipe at) =
    IsDupping v k b old new × (at ≡ new) × HasNone v (descriptor_page new) × HasPipePage v.row new
StandsAtPipe v k b (service.Dup old new) pipe.SourcePipe =
    IsDupping v k b old new × HasNone v (descriptor_page new) × HasNone v (pipe_page new)
StandsAtPipe v k b (service.Dup old new) pipe.MappingEnd =
    IsDupping v k b old new × HasNone v (descriptor_page new) × HasNone v (pipe_page new) × HasPipePage v.row old
StandsAtPipe v k b _ _ = ⊥
