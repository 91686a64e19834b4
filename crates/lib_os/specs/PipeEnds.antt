-- The pages of pipes beside their descriptors, and who holds the lock of a pipe. Beside each descriptor of an end stands the page of its pipe, and
-- nowhere else does one stand: so the page of a pipe is mapped as often as the pages of both of its ends together, and once more for each end that is
-- on its way. Where its count is that of one end's page, the other end is nobody's, and nobody is about to get it.
-- (MIT 6.828, lab 5: lib/pipe.c, _pipeisclosed.)
use Rattle.std.specs.Prelude.{◌≡◌, ◌≢◌, ◌<◌, ℕ, ◌==◌, Bool, true, false, List, Option, Some, None, if◌then◌else◌}
use Rattle.jos_base.specs.Environments.{Slot}
use Rattle.jos_base.specs.Reach.{Entry}
use Rattle.lib_os.specs.declared.numbers.TheConstants.{DESCRIPTORS}
use Rattle.lib_os.specs.declared.place.PipeStep.{PipeStep}
use Rattle.lib_os.specs.declared.place.PipeStep.TheVariants as pipe
use Rattle.lib_os.specs.declared.place.Place.{Place}
use Rattle.lib_os.specs.declared.place.Place.TheVariants as place
use Rattle.lib_os.specs.declared.place.Step.TheVariants as step
use Rattle.lib_os.specs.declared.service.Service.TheVariants as service
use Rattle.lib_os.specs.AbstractRun.{pipe_of}
use Rattle.lib_os.specs.AbstractState.{AbstractSlot, Born, Object, born}
use Rattle.lib_os.specs.DescriptorPages.{lock_of}
use Rattle.lib_os.specs.Places.{place_of}
use Rattle.lib_os.specs.Rows.{EntryRow, Names, Rows, is_shared, makes, pipe_page}
use Rattle.lib_os.specs.StandsAtPipe.{end_given}

-- ---- ends on their way

-- service pipe is about to make this descriptor
abbrev pub is_made : Place → ℕ → Bool
is_made (place.InService service.Pipe (step.Piped at)) fd = makes at fd
is_made _ fd = false

-- dup has mapped the page of the pipe, if there is one, and not the descriptor's
abbrev pub is_given : Place → ℕ → Bool
is_given (place.InService (service.Dup old new) step.MappingDescriptor) fd = fd == new
is_given _ fd = false

-- its page is unmapped, and that of its pipe is not
abbrev pub is_dropped : Place → ℕ → Bool
is_dropped (place.InService s (step.Piped (pipe.DroppingPipe at))) fd = fd == at
is_dropped _ fd = false

abbrev pub is_on_its_way : Place → ℕ → Bool
is_on_its_way at fd = if is_made at fd then true else is_given at fd

-- ---- the pages of pipes

-- the pipe of which a name is an end's
abbrev pub pipe_named : (ℕ → Object) → ℕ → Option ℕ
pipe_named objects name = pipe_of (Some (objects name))

-- Beside each descriptor of an end stands the page of its pipe; and where such a page stands, the descriptor is one, but for those on their way.
pub record EndsStand (names : Names) (objects : ℕ → Object) (at : Place) (row : EntryRow) (b : Born) : Type 0 where
  pub have : (fd name pipe : ℕ) → fd < DESCRIPTORS → b.descriptors fd ≡ Some name → pipe_named objects name ≡ Some pipe →
      (entry : Entry) × (row (pipe_page fd) ≡ Some entry) × (names.name entry.frame ≡ pipe)
  pub only : (fd : ℕ) (entry : Entry) → fd < DESCRIPTORS → is_on_its_way at fd ≡ false → row (pipe_page fd) ≡ Some entry →
      (name : ℕ) × (b.descriptors fd ≡ Some name) × (pipe_named objects name ≡ Some (names.name entry.frame))

abbrev pub EndsStandAt : Names → (ℕ → Object) → Place → EntryRow → AbstractSlot → Type 0
EndsStandAt names objects at row (born b) = EndsStand names objects at row b
EndsStandAt names objects at row _ = Unit {0}

-- ---- locks

-- the steps at which the lock is held
abbrev pub holds_lock : PipeStep → Bool
holds_lock (pipe.ReadFrom done id runs) = true
holds_lock (pipe.ReadTo done id runs from) = true
holds_lock (pipe.LoadingHeld done from) = true
holds_lock (pipe.KeepingHeld done from byte) = true
holds_lock (pipe.TakingHeld done from) = true
holds_lock (pipe.LoadingOwn done to) = true
holds_lock (pipe.PuttingOwn done to byte) = true
holds_lock (pipe.Putting done to) = true
holds_lock (pipe.UnlockingMoved done) = true
holds_lock (pipe.UnlockingEnd done) = true
holds_lock (pipe.UnlockingTest done id runs) = true
holds_lock pipe.StatFrom = true
holds_lock (pipe.StatTo from) = true
holds_lock (pipe.StatUnlocking held) = true
holds_lock _ = false

-- who stands at one holds the lock of the pipe of this descriptor
abbrev pub locked_at : Place → Option ℕ
locked_at (place.InService s (step.Piped at)) = if holds_lock at then Some (end_given s) else None
locked_at _ = None

-- an environment holds the lock of the pipe with this frame
pub record HoldsLock (at : Place) (row : EntryRow) (frame : ℕ) : Type 0 where
  pub fd : ℕ
  pub locked : locked_at at ≡ Some fd
  pub below : fd < DESCRIPTORS
  pub entry : Entry
  pub stands : row (pipe_page fd) ≡ Some entry
  pub shared : is_shared entry.perm ≡ true
  pub same : entry.frame ≡ frame

-- The word of a pipe's lock is 0 exactly where nobody holds it, and 1 where one does; one at most does. (Whoever puts 1 in its place again changes
-- nothing of the page.)
pub record LocksStand (pages : ℕ → List ℕ) (slots : ℕ → Slot) (rows : Rows) : Type 0 where
  pub held : (n frame : ℕ) → HoldsLock (place_of (slots n)) (rows n) frame → lock_of (pages frame) ≡ 1
  pub holder : (n fd : ℕ) (entry : Entry) → fd < DESCRIPTORS → rows n (pipe_page fd) ≡ Some entry → is_shared entry.perm ≡ true →
      lock_of (pages entry.frame) ≢ 0 → (m : ℕ) × HoldsLock (place_of (slots m)) (rows m) entry.frame
  pub alone : (n m frame : ℕ) → HoldsLock (place_of (slots n)) (rows n) frame → HoldsLock (place_of (slots m)) (rows m) frame → n ≡ m
