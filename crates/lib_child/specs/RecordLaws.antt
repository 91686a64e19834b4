-- What the words amount to that spawn puts into the record of its child's registers: the registers with which a program begins, with ESP at its words.
use Rattle.std.specs.Prelude.{◌≡◌, ℕ, map}
use Rattle.jos_base.specs.declared.numbers.TheConstants.{TRAPFRAME_WORDS}
use Rattle.jos_base.specs.SpacesState.{rising}
use Rattle.jos_base.specs.TrapFrames.{from_record}
use Rattle.jos_elf.specs.Started.{first_registers}
use Rattle.lib_child.specs.BearingStages.{register_word}

abbrev pub RecordTells : Type 0
RecordTells =
    (esp entry_point : ℕ) →
    from_record (map (register_word esp entry_point) (rising 0 TRAPFRAME_WORDS)) ≡ record (first_registers entry_point) { esp = esp }
