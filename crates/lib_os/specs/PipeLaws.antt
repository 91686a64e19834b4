-- What the counts of pages tell of a pipe: whether its other end is open still.
-- (MIT 6.828, lab 5: lib/pipe.c, _pipeisclosed.)
use Rattle.std.specs.Prelude.{◌≡◌, ◌<◌, ℕ, Bool, true, false, Some}
use Rattle.jos_base.specs.KernelState.{KernelState, slot_at}
use Rattle.jos_base.specs.Reach.{Entry}
use Rattle.jos_base.specs.SpacesState.{reference_count}
use Rattle.lib_os.specs.declared.numbers.TheConstants.{DESCRIPTORS}
use Rattle.lib_os.specs.AbstractPipes.{is_read_end, is_such_held, is_write_end}
use Rattle.lib_os.specs.AbstractRun.{may_be_open}
use Rattle.lib_os.specs.AbstractState.{AbstractState, Born, Object, born, read_end, write_end}
use Rattle.lib_os.specs.PipeEnds.{pipe_named}
use Rattle.lib_os.specs.Rows.{Names, descriptor_page, pipe_page, rows_of}
use Rattle.lib_os.specs.StandsFor.{StandsFor}

-- of an end of a pipe, what the other end is
abbrev pub is_other_end : Object → Object → Bool
is_other_end (read_end pipe) object = is_write_end pipe object
is_other_end (write_end pipe) object = is_read_end pipe object
is_other_end _ object = false

-- The environment in a slot has a descriptor for an end of a pipe, by one page, and the page of that pipe beside it.
pub record HasEnd (s : KernelState) (a : AbstractState) (n fd name pipe : ℕ) (end page : Entry) : Type 0 where
  pub b : Born
  pub at : a.slots n ≡ born b
  pub below : fd < DESCRIPTORS
  pub names_it : b.descriptors fd ≡ Some name
  pub of : pipe_named a.objects name ≡ Some pipe
  pub stands : rows_of s.spaces (slot_at s n).directory (descriptor_page fd) ≡ Some end
  pub lies : rows_of s.spaces (slot_at s n).directory (pipe_page fd) ≡ Some page

-- the page of the end is mapped as often as that of the pipe
abbrev pub AreCountedAlike : KernelState → Entry → Entry → Type 0
AreCountedAlike s end page = reference_count s.spaces end.frame ≡ reference_count s.spaces page.frame

-- Where they are mapped as often as one another nobody has the other end; and where they are not, it may be open still, however long the turn is.
abbrev pub CountsTellClosed : Type 0
CountsTellClosed = (names : Names) (s : KernelState) (a : AbstractState) (n fd name pipe quantum : ℕ) (end page : Entry) → StandsFor names s a →
    HasEnd s a n fd name pipe end page →
    (AreCountedAlike s end page → is_such_held a (is_other_end (a.objects name)) ≡ false)
    × ((AreCountedAlike s end page → ⊥) → may_be_open a pipe (is_other_end (a.objects name)) quantum ≡ true)
