-- Descriptors, and the services that need to know nothing of what they name: close, dup, pipe and exit.
-- (MIT 6.828, lab 5: lib/fd.c, lib/pipe.c and inc/fd.h.)
use Rattle.std.specs.Prelude.{ℕ, ◌+◌, ◌==◌, zero, suc, nat_lt, nat_le, is_none, is_some, Bool, false}
use Rattle.std.specs.Prelude.{[], Option, Some, None, option_map, if◌then◌else◌}
use Rattle.jos_base.specs.declared.registers.Regs.{Regs}
use Rattle.jos_base.specs.declared.numbers.TheConstants.{E_INVAL, E_MAX_OPEN, NENV}
use Rattle.jos_base.specs.Words.{upd}
use Rattle.lib_os.specs.declared.numbers.TheConstants.{DESCRIPTORS}
use Rattle.lib_os.specs.AbstractState.{AbstractState, Born, Object, read_end, write_end, with_born}
use Rattle.jos_base.specs.Below.{some_below}
use Rattle.lib_os.specs.AbstractMemory.{slot_freed}
use Rattle.lib_os.specs.GuestStep.{born_in}
use Rattle.lib_os.specs.Answers.{answered, refused, back_with}

-- ---- what descriptors name

-- the name of the object of a descriptor, where that is open
abbrev pub object_name : Born → ℕ → Option ℕ
object_name b fd = if nat_lt fd DESCRIPTORS then b.descriptors fd else None

abbrev pub object_of : AbstractState → Born → ℕ → Option Object
object_of a b fd = option_map a.objects (object_name b fd)

abbrev pub with_descriptor : Born → ℕ → Option ℕ → Born
with_descriptor b fd name = record b { descriptors = upd b.descriptors fd name }

abbrev pub is_name : Option ℕ → ℕ → Bool
is_name None name = false
is_name (Some other) name = other == name

abbrev pub holds_in : Option Born → ℕ → Bool
holds_in None name = false
holds_in (Some b) name = some_below DESCRIPTORS (λ fd. is_name (b.descriptors fd) name)

-- some environment has a descriptor for the object
abbrev pub is_held : AbstractState → ℕ → Bool
is_held a name = some_below NENV (λ n. holds_in (born_in (a.slots n)) name)

-- ---- the lowest descriptors

-- the first of n descriptors, from this one on, of which something holds
unfoldable pub first_from : (Option ℕ → Bool) → (ℕ → Option ℕ) → ℕ → ℕ → Option ℕ
first_from is descriptors fd zero = None
first_from is descriptors fd (suc n) = if is (descriptors fd) then Some fd else first_from is descriptors (fd + 1) n

abbrev pub lowest_open : Born → Option ℕ
lowest_open b = first_from is_some b.descriptors 0 DESCRIPTORS

abbrev pub lowest_free : Born → Option ℕ
lowest_free b = first_from is_none b.descriptors 0 DESCRIPTORS

-- ---- close

abbrev pub close : AbstractState → ℕ → Born → Regs → ℕ → AbstractState
close a n b regs fd =
    if is_none (object_name b fd) then refused a n b regs E_INVAL
    else answered a n (with_descriptor b fd None) regs 0

-- ---- dup

-- Where the new descriptor is open it is closed first, in a step of its own.
abbrev pub dup_onto : AbstractState → ℕ → Born → Regs → ℕ → ℕ → Option ℕ → AbstractState
dup_onto a n b regs old new (Some other) = with_born a n (with_descriptor b new None)
dup_onto a n b regs old new None = answered a n (with_descriptor b new (object_name b old)) regs new

abbrev pub dup : AbstractState → ℕ → Born → Regs → ℕ → ℕ → AbstractState
dup a n b regs old new =
    if is_none (object_name b old) then refused a n b regs E_INVAL
    else if nat_le DESCRIPTORS new then refused a n b regs E_INVAL
    else if old == new then answered a n b regs new
    else dup_onto a n b regs old new (object_name b new)

-- ---- pipe

-- An empty pipe, with an object for each end, and the two lowest free descriptors for these.
abbrev pub pipe_made : AbstractState → ℕ → Born → Regs → ℕ → ℕ → AbstractState
pipe_made a n b regs reading writing =
    let name = a.next_name in
    back_with
    (record a {
      pipes = upd a.pipes name [];
      objects = upd (upd a.objects (name + 1) (read_end name)) (name + 2) (write_end name);
      next_name = name + 3;
    })
    n
    (with_descriptor (with_descriptor b reading (Some (name + 1))) writing (Some (name + 2)))
    (record regs { eax = 0; edx = reading; ecx = writing })

abbrev pub pipe_on : AbstractState → ℕ → Born → Regs → Option ℕ → Option ℕ → AbstractState
pipe_on a n b regs None writing = refused a n b regs E_MAX_OPEN
pipe_on a n b regs (Some reading) None = refused a n b regs E_MAX_OPEN
pipe_on a n b regs (Some reading) (Some writing) = pipe_made a n b regs reading writing

abbrev pub next_free : Born → Option ℕ → Option ℕ
next_free b None = None
next_free b (Some fd) = lowest_free (with_descriptor b fd (Some 0))

abbrev pub pipe : AbstractState → ℕ → Born → Regs → AbstractState
pipe a n b regs = pipe_on a n b regs (lowest_free b) (next_free b (lowest_free b))

-- ---- exit

-- One step drops the lowest descriptor that is open; when none is, the environment ends.
abbrev pub exit_by : AbstractState → ℕ → Born → Option ℕ → AbstractState
exit_by a n b None = slot_freed a n b
exit_by a n b (Some fd) = with_born a n (with_descriptor b fd None)

abbrev pub exit : AbstractState → ℕ → Born → AbstractState
exit a n b = exit_by a n b (lowest_open b)
