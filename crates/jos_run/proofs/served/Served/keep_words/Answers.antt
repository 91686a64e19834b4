use Rattle.std.proofs.Common.{◌<◌, ◌^◌, ℕ, subst, arith}
use Rattle.std.specs.Prelude.{get_or}
use Rattle.jos_base.specs.Environments.{Slot}
use Rattle.jos_sys.specs.System.{Keeps, HasSoundFrames, left_of}
use Rattle.jos_run.proofs.InOrder.{in_order}
use Rattle.jos_run.proofs.Looked.{slot_looked}
use Rattle.jos_run.proofs.WordsKept.{has_words}
use Rattle.jos_run.proofs.served.Served.keep_words.Goals as goal

pub returns : goal.returns
returns c =
    let machine = c.self.inside.machine in
    let is = c.system-system.ensures.system in
    let sound : HasSoundFrames machine.system = subst HasSoundFrames is c.keep_sound.ensures in
    let keeps : Keeps machine.system = subst Keeps is c.system-system.ensures.keeps in
    let same = slot_looked machine is c.self.inside.slot c.environment-environment.ensures in
    rw (← c.self.view_is) (has_words machine c.self.inside.slot sound (in_order machine.system (left_of machine.input) sound keeps)
    (subst (λ (k : Slot). (i : ℕ) → get_or k.extra i 0 < 2 ^ 32) same c.are_words.ensures)
    (subst (λ (k : Slot). k.runs < 2 ^ 32) same (omega arith))
    (subst (λ (k : Slot). k.rendezvous.value < 2 ^ 32) same (omega arith))
    (subst (λ (k : Slot). k.rendezvous.sender < 2 ^ 32) same (omega arith)))
