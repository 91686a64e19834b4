-- Reading from a pipe and writing to it: a byte a step.
-- (MIT 6.828, lab 5: lib/pipe.c, as what comes of it; that a write to a pipe without a reader answers how much it has
-- put is this system's own.)
use Rattle.std.specs.Prelude.{ℕ, ◌+◌, ◌==◌, nat_lt, Bool, false, List, [], ◌∷◌, ◌++◌, length, Option, Some, None}
use Rattle.std.specs.Prelude.{if◌then◌else◌}
use Rattle.jos_base.specs.declared.registers.Regs.{Regs}
use Rattle.jos_base.specs.declared.numbers.TheConstants.{NENV}
use Rattle.jos_base.specs.Words.{upd}
use Rattle.lib_os.specs.declared.numbers.TheConstants.{PIPEBUFSIZ}
use Rattle.lib_os.specs.declared.numbers.TheConstants.{DESCRIPTORS}
use Rattle.lib_os.specs.declared.service.Service.{Service}
use Rattle.lib_os.specs.AbstractState.{AbstractState, Born, Object, read_end, write_end, moving}
use Rattle.jos_base.specs.Below.{some_below}
use Rattle.lib_os.specs.GuestStep.{born_in}
use Rattle.lib_os.specs.Answers.{answered, at_stage, handed_back}

-- ---- who holds an end

abbrev pub is_read_end : ℕ → Object → Bool
is_read_end pipe (read_end other) = pipe == other
is_read_end pipe _ = false

abbrev pub is_write_end : ℕ → Object → Bool
is_write_end pipe (write_end other) = pipe == other
is_write_end pipe _ = false

abbrev pub is_such : AbstractState → (Object → Bool) → Option ℕ → Bool
is_such a is None = false
is_such a is (Some name) = is (a.objects name)

abbrev pub holds_such : AbstractState → (Object → Bool) → Option Born → Bool
holds_such a is None = false
holds_such a is (Some b) = some_below DESCRIPTORS (λ fd. is_such a is (b.descriptors fd))

-- some environment has a descriptor for such an object
abbrev pub is_such_held : AbstractState → (Object → Bool) → Bool
is_such_held a is = some_below NENV (λ n. holds_such a is (born_in (a.slots n)))

-- ---- reading

-- When bytes have come, or none are wanted, they are handed back; with none, the answer is 0 where no one can write any
-- more. Else there is no step.
abbrev pub read_over : AbstractState → ℕ → Born → Regs → Service → ℕ → ℕ → ℕ → List ℕ → Option AbstractState
read_over a n b regs service va pipe wanted [] =
    if wanted == 0 then Some (answered a n b regs 0)
    else if is_such_held a (is_write_end pipe) then None
    else Some (answered a n b regs 0)
read_over a n b regs service va pipe wanted (byte ∷ rest) =
    Some (handed_back a n b regs service va (byte ∷ rest) (length (byte ∷ rest)))

-- A byte that is there is taken, up to so many as are wanted.
abbrev pub read_from_pipe : AbstractState → ℕ → Born → Regs → Service → ℕ → ℕ → ℕ → List ℕ → List ℕ → Option AbstractState
read_from_pipe a n b regs service va pipe wanted taken [] = read_over a n b regs service va pipe wanted taken
read_from_pipe a n b regs service va pipe wanted taken (byte ∷ rest) =
    if nat_lt (length taken) wanted
    then Some (at_stage (record a { pipes = upd a.pipes pipe rest }) n b service
    (moving (taken ++ byte ∷ []) (length taken + 1)))
    else read_over a n b regs service va pipe wanted taken

abbrev pub read_pipe : AbstractState → ℕ → Born → Regs → Service → ℕ → ℕ → ℕ → List ℕ → Option AbstractState
read_pipe a n b regs service va pipe wanted taken = read_from_pipe a n b regs service va pipe wanted taken (a.pipes pipe)

-- ---- writing

-- A byte is put where there is room. Where there is none, the write is over if no one can read any more, and else
-- there is no step.
abbrev pub write_pipe : AbstractState → ℕ → Born → Regs → Service → ℕ → List ℕ → ℕ → Option AbstractState
write_pipe a n b regs service pipe [] put = Some (answered a n b regs put)
write_pipe a n b regs service pipe (byte ∷ rest) put =
    if nat_lt (length (a.pipes pipe)) PIPEBUFSIZ
    then Some (at_stage (record a { pipes = upd a.pipes pipe (a.pipes pipe ++ byte ∷ []) }) n b service (moving rest (put + 1)))
    else if is_such_held a (is_read_end pipe) then None
    else Some (answered a n b regs put)
