use Rattle.std.proofs.Common.{◌∙◌, refl}
use Rattle.jos_kernel.proofs.ToldBytes.{part_of_first}
use Rattle.jos_cli.proofs.NotesWritten.{note_written, traps_failed}
use Rattle.jos_cli.proofs.Asking.{notes_then, notes_last, notes_then_last}
use Rattle.jos_cli.proofs.Doing.{one_note, notes_after}
use Rattle.jos_cli.proofs.notes.write_note.Goals as goal

pub returns-in-Ok-write_traps-clause-told : goal.returns-in-Ok-write_traps-clause-told
returns-in-Ok-write_traps-clause-told g c =
    note_written _ _ _ _ c.as_bytes.result.now _ c.as_slice.result.now _ _ _ c.note_write.result (c.as_bytes.ensures.value ∙ c.word_in_note.ensures) refl
    (c.as_slice.ensures.value ∙ c.note_text.ensures) c.in-Ok.ensures.told c.in-Ok-write_traps.ensures.told c.note_write.ensures.told

pub returns-in-Err-write_traps-clause-told : goal.returns-in-Err-write_traps-clause-told
returns-in-Err-write_traps-clause-told g c =
    traps_failed _ _ _ c.as_bytes.result.now _ _ _ (c.as_bytes.ensures.value ∙ c.word_in_note.ensures) c.in-Ok.ensures.told c.in-Err-write_traps.ensures.told

pub returns-in-Err-clause-told : goal.returns-in-Err-clause-told
returns-in-Err-clause-told g c = part_of_first _ _ c.as_bytes.result.now _ _ (c.as_bytes.ensures.value ∙ c.word_in_note.ensures) c.in-Err.ensures.told

pub returns-in-Ok-write_traps-clause-asked : goal.returns-in-Ok-write_traps-clause-asked
returns-in-Ok-write_traps-clause-asked g c =
    notes_last _ _ _ (notes_then _ _ _ c.in-Ok.ensures.did.asked c.in-Ok-write_traps.ensures.did.asked) c.note_write.ensures.asked

pub returns-in-Err-write_traps-clause-asked : goal.returns-in-Err-write_traps-clause-asked
returns-in-Err-write_traps-clause-asked g c = notes_then_last _ _ _ c.in-Ok.ensures.did.asked c.in-Err-write_traps.ensures.did.asked

pub returns-in-Ok-write_traps-clause-did : goal.returns-in-Ok-write_traps-clause-did
returns-in-Ok-write_traps-clause-did g c =
    let one = c.note_write.ensures in
    notes_after g.H.Host (notes_after g.H.Host c.in-Ok.ensures.did _ c.in-Ok-write_traps.ensures.did) _
    (one_note g.H.Host _ _ _ one.files one.input one.console one.asked one.cause)

pub returns-in-Err-write_traps-clause-did : goal.returns-in-Err-write_traps-clause-did
returns-in-Err-write_traps-clause-did g c = notes_after g.H.Host c.in-Ok.ensures.did _ c.in-Err-write_traps.ensures.did
